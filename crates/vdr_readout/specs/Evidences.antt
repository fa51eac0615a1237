-- What `evidence` writes and answers (this project's profile).
use Rattle.std.specs.Prelude.{◌≡◌, ◌⊎◌, ◌∷◌, ℕ, List, [], codes, Option, Some, None, ⊤}
use Rattle.vdr_core.specs.Histories.{live}
use Rattle.vdr_core.specs.Histories as histories
use Rattle.vdr_terms.specs.Records.{Record}
use Rattle.vdr_entry.specs.declared.query.Medium.{Medium}
use Rattle.vdr_entry.specs.declared.query.Medium.TheVariants.{Capsule, LongTerm, Incident}
use Rattle.vdr_opening.specs.Media.{Contents, HoldsContents}
use Rattle.vdr_evidence.specs.Files.{evidence_bytes, heading_bytes, heading_of, line_at}
use Rattle.vdr_control.specs.Orders.PlainOrder.{Play as PlayOrder}
use Rattle.vdr_control.specs.Plays.{SpellsPlay}
use Rattle.vdr_visit.specs.Prints.{text_of}
use Rattle.vdr_command.specs.Endings.{IsWorkDone}
use Rattle.vdr_command.specs.Opened.{AddsMissing, PrintsText}
use Rattle.vdr_command.specs.Outside.{NothingFailed, OutputFailed, Outside, Prints, Writes}
use Rattle.vdr_command.specs.Promises.{Promise}
use Rattle.vdr_command.specs.StatusLine.{IsNoChannel, channel_line}
use Rattle.vdr_command.specs.declared.status.Status.{Status}
use Rattle.vdr_command.specs.declared.status.Status.TheVariants.{NoChannel, OutputFault}
use Rattle.vdr_readout.specs.Plays.{IsCut, IsPlayStatus}
use Rattle.vdr_readout.specs.Reads.{AreFirst, AskedPlay, CanBeRead, PlayEnds, PlaysAll, records_asked}

-- The label of the incident that is asked for; nothing for a medium, and where it is not live.
abbrev pub label_of : Option histories.Incident → List ℕ
label_of None = []
label_of (Some incident) = incident.label

abbrev pub label_in : List (Option histories.Incident) → Medium → List ℕ
label_in table Capsule = []
label_in table LongTerm = []
label_in table (Incident id) = label_of (live table id)

-- What stands in the file before the records that are asked for, by the text of the configuration and the incidents.
unfoldable pub heading_asked : (text : List ℕ) → List (Option histories.Incident) → AskedPlay → List ℕ
heading_asked text table asked = heading_bytes (heading_of text asked.medium (label_in table asked.medium) asked.channel asked.from asked.to)

-- The file, of media with these contents.
abbrev pub evidence_of : Contents → AskedPlay → List ℕ
evidence_of x asked = evidence_bytes (heading_asked x.text x.table asked) (records_asked x asked)

-- `evidence`, and its words: those of a play.
pub record AreEvidenceWords (texts : List (List ℕ)) (asked : AskedPlay) : Type 0 where
  pub medium : List ℕ
  pub channel : List ℕ
  pub from : List ℕ
  pub to : List ℕ
  pub words : texts ≡ codes "evidence" ∷ medium ∷ channel ∷ from ∷ to ∷ []
  pub spelled : SpellsPlay medium channel from to (PlayOrder asked.medium asked.channel asked.from asked.to)

-- What `evidence` owes.
pub record Evidences {tells tells_images : Type 0} (asked : AskedPlay) (old new : Outside tells tells_images) (status : Status) : Type 0 where
  pub own : IsPlayStatus status
  -- the file of what is selected of what the media hold is written
  pub written : (x : Contents) → tells → HoldsContents old.media.disk.reads x → CanBeRead x → PrintsText (evidence_of x asked) status old.output new.output
  -- where reading fails, or a record is not legal, the front of it that has the first records stands before the line of the status, and nothing else
  pub cut : IsCut status → (first : List Record) × (heading : List ℕ) × Prints (text_of (line_at heading) first) old.output new.output × AreFirst asked old.media.disk first
      × ((x : Contents) → tells → HoldsContents old.media.disk.reads x → CanBeRead x → (first ≡ []) ⊎ (heading ≡ heading_asked x.text x.table asked))
  -- each refusal and failure comes only with its cause
  pub output : status ≡ OutputFault → OutputFailed old.output new.output
  pub line : status ≡ NoChannel → Writes (channel_line asked.channel) old.output new.output
  pub silent : IsWorkDone status ⊎ (IsNoChannel status ⊎ (IsCut status ⊎ (new.output ≡ old.output)))
  -- the media, and what is said of them, are as for a play
  pub media : PlayEnds asked old.media new.media status
  pub missing : AddsMissing old.media.disk new.media.disk
  -- nothing else comes in the place of the file, or of a refusal, but want of memory
  pub complete : NothingFailed old new → tells → PlaysAll asked.medium asked.channel old.media.disk.reads status

abbrev pub evidencing : AskedPlay → Promise
evidencing asked = record {
  words = λ texts. AreEvidenceWords texts asked;
  legal = ⊤;
  reads_input = ⊥;
  uses_media = ⊤;
  owes = λ old new hears w status. Evidences asked old new status;
}
