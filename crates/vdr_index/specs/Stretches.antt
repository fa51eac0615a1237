-- What some records, one after another, come to. No public clause cites it.
use Rattle.std.specs.Prelude.{◌≡◌, ◌≤◌, ◌↔◌, ℕ, suc, List, ◌∷◌, IsTrue, Option, Some, None}
use Rattle.vdr_terms.specs.Records.{Record, last_after}
use Rattle.vdr_terms.specs.Order.{RunOn, NeverFalls}
use Rattle.vdr_index.specs.declared.extent.Extent.{Extent}
use Rattle.vdr_index.specs.declared.stretch.Mark.{Mark}
use Rattle.vdr_index.specs.declared.stretch.Stretch.{Stretch}
use Rattle.vdr_index.specs.Summaries.{IsSummaryOf}

-- What is kept of a record.
abbrev pub mark_of : Record → Mark
mark_of r = record { place = r.place; tick = r.tick; utc = r.utc }

-- The second record has the next place and no earlier tick.
abbrev pub Follows : (before after : Mark) → Type 0
Follows before after = (after.place ≡ suc before.place) × (before.tick ≤ after.tick)

-- What is kept of an extent's last record.
abbrev pub last_mark : Extent → Mark
last_mark extent = record { place = extent.last_place; tick = extent.last_tick; utc = extent.last_utc }

-- A record goes on from where the extent ends, or is the first one and has the first place.
abbrev pub GoesOn : (first : ℕ) → Option Extent → Mark → Type 0
GoesOn first None next = next.place ≡ first
GoesOn first (Some before) next = Follows (last_mark before) next

-- The first tick of an extent that has one batch more, which begins with this record.
abbrev pub first_tick : Option Extent → Mark → ℕ
first_tick None begins = begins.tick
first_tick (Some before) begins = before.first_tick

-- The extent with one batch more, from this record to that one.
abbrev pub grown : Option Extent → (begins newest : Mark) → Extent
grown before begins newest =
    record { first_tick = first_tick before begins; last_place = newest.place; last_tick = newest.tick; last_utc = newest.utc; last_batch = begins.place }

-- The records run on from this place, and their ticks do not fall from this one on.
abbrev pub AreInOrderFrom : (place tick : ℕ) → List Record → Type 0
AreInOrderFrom place tick records = RunOn place records × NeverFalls tick records

-- The records, at least one, come to this.
pub record ComesTo (records : List Record) (stretch : Stretch) : Type 0 where
  pub head : Record
  pub tail : List Record
  pub are : records ≡ head ∷ tail
  pub first : stretch.first ≡ mark_of head
  pub newest : stretch.last ≡ mark_of (last_after head tail)
  pub in_order : IsTrue stretch.in_order ↔ AreInOrderFrom head.place head.tick (head ∷ tail)
  pub summary : IsSummaryOf records stretch.summary
