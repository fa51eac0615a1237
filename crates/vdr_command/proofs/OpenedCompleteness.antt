-- By exclusion: media that can't be opened are refused by their own refusal. A run begins on what was read as on what is held.
use Rattle.std.proofs.Common.{◌≡◌, ◌∙◌, ap, inl, inr, ℕ, List, [], None, refl}
use Rattle.vdr_terms.specs.Records.{last}
use Rattle.vdr_core.specs.Histories.{stamp_of}
use Rattle.vdr_durability.specs.Readings.{EndsMeet, Reading, next_after, records_on, restored}
use Rattle.vdr_outside.specs.Disk.{Image}
use Rattle.vdr_media.specs.Formatted.{IsFormatted, IsUnformatted, members}
use Rattle.vdr_directory.specs.Sequence.{Placed, batches_in}
use Rattle.vdr_opening.specs.Media.{members_with, Contents, HoldsContents, HoldsParts, opening_of, parts_of, reading_of}
use Rattle.vdr_opening.specs.Refusals.{IsRefused}
use Rattle.vdr_command.specs.Opened.{OneAnswer, RefusesAll}
use Rattle.vdr_command.specs.declared.status.Status.{Status}
use Rattle.vdr_command.specs.declared.status.Status.TheVariants.{Damaged, NoMemory, Unformatted}
use Rattle.vdr_vault.proofs.OpenMoments.{never_both}

pub damaged_alike : (m offset k other : ℕ) → (m ≡ k) × (offset ≡ other) → Damaged m offset ≡ Damaged k other
damaged_alike m offset k other same = λ i. Damaged (same.0 i) (same.1 i)

-- What can be opened is not refused.
pub opened_refused : (image : Image) (law : OneAnswer image) (status : Status) → IsFormatted image → (x : Contents) → HoldsParts image x → EndsMeet (members_with x.further) (reading_of x) → RefusesAll image status
opened_refused image law status formatted x holds meet = record {
  unformatted = λ un. absurd (never_both image formatted un);
  damaged = λ f m offset r. absurd (law.opens x m offset holds meet r);
}

pub unformatted_refused : (image : Image) → IsUnformatted image → RefusesAll image Unformatted
unformatted_refused image un = record { unformatted = λ also. inl refl; damaged = λ f m offset r. absurd (never_both image f un) }

pub damaged_refused : (image : Image) (law : OneAnswer image) (k at : ℕ) → IsFormatted image → IsRefused image k at → RefusesAll image (Damaged k at)
damaged_refused image law k at formatted refused = record {
  unformatted = λ un. absurd (never_both image formatted un);
  damaged = λ f m offset also. inl (damaged_alike k at m offset (law.one k at m offset refused also));
}

pub memory_refused : (image : Image) → RefusesAll image NoMemory
memory_refused image = record { unformatted = λ un. inr refl; damaged = λ f m offset r. inr refl }

-- The next place and the last stamp are those of one medium.
abbrev reading_at : List Placed → Reading
reading_at placed = record { batches = λ m. batches_in placed; table = []; text = [] }

-- A run begins on what was read of legible media as on what they hold.
pub last_read : (image : Image) → OneAnswer image → (x y : Contents) → HoldsParts image x → HoldsContents image y → (opening_of x).last ≡ (opening_of y).last
last_read image law x y hx hy =
    ap (λ (ps : List Placed). stamp_of (last (records_on (restored members (reading_at ps)) 0)) None) (law.known x (parts_of y) hx (law.parts y hy)) ∙ law.last y hy

pub place_read : (image : Image) → OneAnswer image → (x y : Contents) → HoldsParts image x → HoldsContents image y → (opening_of x).next_place ≡ (opening_of y).next_place
place_read image law x y hx hy =
    ap (λ (ps : List Placed). next_after (last (records_on (restored members (reading_at ps)) 0))) (law.known x (parts_of y) hx (law.parts y hy)) ∙ law.place y hy
