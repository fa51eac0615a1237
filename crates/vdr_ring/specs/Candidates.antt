-- What a ring knows of a segment that may go, and of a pin.
use Rattle.std.specs.Prelude.{◌≡◌, ◌+◌, ◌≤◌, ℕ, true, Bool, List, All, Some}
use Rattle.vdr_terms.specs.Records.{Record, last, second}
use Rattle.vdr_durability.specs.Retention.{Pin, HaveNoPlace}
use Rattle.vdr_durability.specs.Victims.{Extent, may_go_by_numbers}
use Rattle.vdr_index.specs.declared.known.Known.{Known}
use Rattle.vdr_directory.specs.Sequence.{Placed, records_of}
use Rattle.vdr_directory.specs.Order.{end_second}
use Rattle.vdr_ring.specs.declared.pins.Pin.{Pin as KeptPin}

abbrev pub pin_of : KeptPin → Pin
pin_of p = record { a = p.a; b = p.b }

-- What retention knows a segment by.
abbrev pub known_of : Known → Extent
known_of k = record { has_records = true; first = k.first; next = k.first + k.summary.count; last_second = k.summary.last_second }

-- Whether it may go from a medium whose last record is of this second.
abbrev pub goes : (seconds : ℕ) (pins : List Pin) (medium_second : ℕ) → Known → Bool
goes seconds pins medium_second k = may_go_by_numbers seconds pins medium_second (known_of k)

-- By what is known of it, a segment may go from a medium that holds these records: it ends as many seconds before the last of them
-- as the window has, or has no record, and none of its records has a pinned place.
pub record MayGoAsKnown (seconds : ℕ) (pins : List Pin) (held : List Record) (p : Placed) : Type 0 where
  pub old : (ends : ℕ) (newest : Record) → end_second p.segment.header.summary (records_of p) ≡ Some ends → last held ≡ Some newest → ends + seconds ≤ second newest.tick
  pub free : All (λ pin. HaveNoPlace pin.a pin.b (records_of p)) pins
