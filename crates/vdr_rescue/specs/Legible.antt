-- What a legible medium gives that is read alone: all that stands on it (this project's profile).
use Rattle.std.specs.Prelude.{◌≡◌, ◌≤◌, ℕ, All, Any, Contains, Some}
use Rattle.vdr_core.specs.Histories.{Incident}
use Rattle.vdr_directory.specs.Sequence.{all_records}
use Rattle.vdr_opening.specs.Media.{Contents}
use Rattle.vdr_rescue.specs.declared.findings.Finding.TheVariants.{Closed}
use Rattle.vdr_rescue.specs.declared.found.Found.TheVariants.{Whole}
use Rattle.vdr_rescue.specs.Alones.{Rescue}
use Rattle.vdr_rescue.specs.Findings.{found_in}

-- Of medium m with these contents it gives the configuration, all records, and of the long-term
-- medium the live incidents, each with a record of each of its places.
pub record GivesAll (y : Contents) (m : ℕ) (x : Rescue) : Type 0 where
  pub config : x.config ≡ y.config
  pub given : x.given ≡ all_records (y.placed m)
  pub table : m ≡ 1 → x.table ≡ y.table
  pub places : (incident : Incident) → m ≡ 1 → Contains x.table (Some incident)
      → (place : ℕ) → incident.a ≤ place → place ≤ incident.b
      → Any (λ r. r.place ≡ place) x.given

-- It finds no place missing and nothing damaged: at most gates that are not open have a line.
pub record FindsNothing (x : Rescue) : Type 0 where
  pub lines : All (λ finding. (offset : ℕ) × (finding ≡ Closed offset)) x.findings
  pub whole : found_in x.findings ≡ Whole
