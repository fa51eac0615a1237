-- The evidence of a save: what stands in it, and of which records it is (this project's profile).
use Rattle.std.specs.Prelude.{ℕ, pos, List, [], codes, Option, Some, None}
use Rattle.vdr_terms.specs.Queries.{Query}
use Rattle.vdr_terms.specs.Stamps.{last_stamp}
use Rattle.vdr_core.specs.Histories.{live}
use Rattle.vdr_core.specs.Histories as histories
use Rattle.vdr_entry.specs.Queries.{asked_medium}
use Rattle.vdr_entry.specs.declared.query.Medium.TheVariants.{Incident}
use Rattle.vdr_evidence.specs.Files.{heading_bytes, heading_of}

-- The label of a save; nothing where none is live.
abbrev pub label_of : Option histories.Incident → List ℕ
label_of None = []
label_of (Some saved) = saved.label

-- What stands in it before its records: as in the file that `evidence` writes for the words `incident-ID all - -`.
unfoldable pub save_heading : (text : List ℕ) → List (Option histories.Incident) → (id : ℕ) → List ℕ
save_heading text table id = heading_bytes (heading_of text (Incident id) (label_of (live table id)) (codes "all") (pos 0) (pos last_stamp))

-- All its records.
abbrev pub save_query : (id : ℕ) → Query
save_query id = record { medium = asked_medium (Incident id); channel = None; from = pos 0; to = pos last_stamp }
