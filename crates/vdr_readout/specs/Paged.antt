-- What `page` writes and answers (this project's profile; docs/formats/page.md).
use Rattle.std.specs.Prelude.{◌≡◌, ◌⊎◌, ◌∷◌, ◌++◌, ℕ, zero, suc, List, [], codes, unsigned_abs, Option, Some, None, ⊤}
use Rattle.vdr_terms.specs.Records.{Record}
use Rattle.vdr_core.specs.Histories.{Incident, live}
use Rattle.vdr_outside.specs.Disk.{Disk}
use Rattle.vdr_control.specs.Orders.PlainOrder.{Play as PlayOrder}
use Rattle.vdr_control.specs.Plays.{SpellsPlay}
use Rattle.vdr_opening.specs.Media.{Contents, HoldsContents}
use Rattle.vdr_page.specs.Fronts.{Saved, Words}
use Rattle.vdr_page.specs.Pages.{front_text, line_at, page_text}
use Rattle.vdr_page.specs.Surveys.{survey_of}
use Rattle.vdr_page.specs.declared.survey.Survey.{Survey}
use Rattle.vdr_visit.specs.Prints.{text_of}
use Rattle.vdr_command.specs.Endings.{IsWorkDone}
use Rattle.vdr_command.specs.Opened.{AddsMissing, PrintsText}
use Rattle.vdr_command.specs.Outside.{NothingFailed, OutputFailed, OutputSeen, Outside, Prints, Writes}
use Rattle.vdr_command.specs.Promises.{Promise}
use Rattle.vdr_command.specs.StatusLine.{IsNoChannel, channel_line}
use Rattle.vdr_command.specs.declared.status.Status.{Status}
use Rattle.vdr_command.specs.declared.status.Status.TheVariants.{NoChannel, OutputFault}
use Rattle.vdr_readout.specs.Plays.{IsPlayStatus}
use Rattle.vdr_readout.specs.Reads.{AreFirst, AskedPlay, CanBeRead, PlayEnds, PlaysAll, records_asked}
use Rattle.vdr_readout.specs.Watches.{IsCutShort}

-- A live save as a page tells it: its id, the stamp of its last record, its first and its last place, and its label.
abbrev pub save_told : (id : ℕ) → Incident → Saved
save_told id saved = record { id = id; utc = unsigned_abs saved.stamp.utc; first = saved.a; last = saved.b; label = saved.label }

abbrev pub save_if : (id : ℕ) → Option Incident → List Saved
save_if id None = []
save_if id (Some saved) = save_told id saved ∷ []

-- Those of the first n ids, which begin at 1.
abbrev pub saves_to : (n : ℕ) → List (Option Incident) → List Saved
saves_to zero table = []
saves_to (suc n) table = saves_to n table ++ save_if (suc n) (live table (suc n))

-- The live saves in the order of their ids, of which the last is 32.
unfoldable pub saves_in : List (Option Incident) → List Saved
saves_in table = saves_to 32 table

-- The page, of media with these contents.
abbrev pub page_of : Contents → Words → AskedPlay → List ℕ
page_of x words asked = page_text words (saves_in x.table) (records_asked x asked)

module _ {tells tells_images : Type 0} where
  -- What stands before the rows of a page stands in the output, and the rows of the first records behind it, each whole.
  pub record ShowsRows (words : Words) (asked : AskedPlay) (disk : Disk tells tells_images) (old new : OutputSeen) : Type 0 where
    pub survey : Survey
    pub saves : List Saved
    pub first : List Record
    pub printed : Prints (front_text words survey saves ++ text_of (line_at survey) first) old new
    pub are : AreFirst asked disk first
    -- it is what the records say, and the saves that are live
    pub told : (x : Contents) → tells → HoldsContents disk.reads x → CanBeRead x → (survey ≡ survey_of (records_asked x asked)) × (saves ≡ saves_in x.table)

  -- How the command ends.
  pub record PageEnds (words : Words) (asked : AskedPlay) (old new : Outside tells tells_images) (status : Status) : Type 0 where
    pub own : IsPlayStatus status
    -- the page of exactly the records that a play selects of what the media hold is written
    pub written : (x : Contents) → tells → HoldsContents old.media.disk.reads x → CanBeRead x → PrintsText (page_of x words asked) status old.output new.output
    -- where it is cut off, a front of it with whole rows stands before the line of the status, or nothing
    pub cut : IsCutShort status → Prints [] old.output new.output ⊎ ShowsRows words asked old.media.disk old.output new.output
    -- each refusal and failure comes only with its cause
    pub output : status ≡ OutputFault → OutputFailed old.output new.output
    pub line : status ≡ NoChannel → Writes (channel_line asked.channel) old.output new.output
    pub silent : IsWorkDone status ⊎ (IsNoChannel status ⊎ (IsCutShort status ⊎ (new.output ≡ old.output)))
    -- the media, and what is said of them, are as for a play
    pub media : PlayEnds asked old.media new.media status
    pub missing : AddsMissing old.media.disk new.media.disk

-- What `page` owes.
pub record Pages {tells tells_images : Type 0} (words : Words) (asked : AskedPlay) (old new : Outside tells tells_images) (status : Status) : Type 0 where
  pub ends : PageEnds words asked old new status
  -- nothing else comes in the place of the page, or of a refusal, but want of memory
  pub complete : NothingFailed old new → tells → PlaysAll asked.medium asked.channel old.media.disk.reads status

-- `page`, and its words: the medium, and the bounds of the stamps. It is of all records.
pub record ArePageWords (texts : List (List ℕ)) (of : Words) (asked : AskedPlay) : Type 0 where
  pub words : texts ≡ codes "page" ∷ of.medium ∷ of.from ∷ of.to ∷ []
  pub spelled : SpellsPlay of.medium (codes "all") of.from of.to (PlayOrder asked.medium asked.channel asked.from asked.to)

abbrev pub paging : Words → AskedPlay → Promise
paging words asked = record {
  words = λ texts. ArePageWords texts words asked;
  legal = ⊤;
  reads_input = ⊥;
  uses_media = ⊤;
  owes = λ old new hears w status. Pages words asked old new status;
}
