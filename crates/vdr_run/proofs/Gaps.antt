-- A gap as a maker makes it is the recorder's.
use Rattle.std.proofs.Common.{◌≡◌, ◌≤◌, ℕ, zero, suc, ℤ, List, [], ◌∷◌, ◌++◌, ◌+◌, length, Option, Some, None, refl, sym, ap, ◌∙◌, subst, arith}
use Rattle.vdr_terms.specs.declared.counts.Counts.{Counts}
use Rattle.vdr_terms.specs.Records.{Record, total}
use Rattle.vdr_terms.specs.Records.Content.{Gap}
use Rattle.vdr_terms.specs.Channels.{Channels}
use Rattle.vdr_terms.specs.Counting.{Pending, with_missed}
use Rattle.vdr_core.specs.Runs.{RunStart}
use Rattle.vdr_core.specs.Taken.{Captured}
use Rattle.vdr_core.specs.Recorder.{make, gap_of, gap_unless_none, datagram_of}
use Rattle.vdr_run.specs.declared.maker.Maker.{Maker}
use Rattle.vdr_run.specs.Making.{Adds}
use Rattle.vdr_run.specs.Accounts.{gap_unless_empty, gap_after, gap_records, datagram_record, item_records}

unless_none : (start : RunStart) (g place tick : ℕ) (utc : ℤ) (first : ℕ) (missed : Counts) (k : ℕ)
    → gap_records start.channels g place tick utc (gap_unless_empty first missed k) ≡ gap_unless_none start g place first tick utc missed k
unless_none start g place tick utc first missed zero = refl
unless_none start g place tick utc first missed (suc k) = refl

pub same_gap : (start : RunStart) (g place tick : ℕ) (utc : ℤ) (missed : Counts) (p : Pending)
    → gap_records start.channels g place tick utc (gap_after missed p) ≡ gap_of start g place tick utc (with_missed missed p)
same_gap start g place tick utc missed p = unless_none start g place tick utc (with_missed missed p).first (with_missed missed p).missed (total (with_missed missed p).missed)

pub one_gap : (channels : Channels) (g place tick : ℕ) (utc : ℤ) (gap : Option (ℕ × Counts)) → length (gap_records channels g place tick utc gap) ≤ 1
one_gap channels g place tick utc None = omega arith
one_gap channels g place tick utc (Some gap) = omega arith

-- the records of an item, by the recorder's words
pub same_records : (start : RunStart) (c : Captured) (place tick : ℕ) (p : Pending)
    → item_records start.channels c.group place c.number tick c.utc c.bytes (gap_after c.missed p)
    ≡ gap_of start c.group place tick c.utc (with_missed c.missed p)
    ++ datagram_of start c tick (place + length (gap_of start c.group place tick c.utc (with_missed c.missed p))) ∷ []
same_records start c place tick p =
    ap (λ (gap : List Record). gap ++ datagram_record start.channels c.group (place + length gap) c.number tick c.utc c.bytes ∷ [])
    (same_gap start c.group place tick c.utc c.missed p)

-- a gap was told, and its record was added
pub adds_gap : (channels : Channels) (g place tick : ℕ) (utc : ℤ) (gap : Option (ℕ × Counts)) (first : ℕ) (missed : Counts) (x : Record) (before after : Maker)
    → gap ≡ Some (first, missed) → x ≡ make channels g place first tick utc (Gap missed)
    → after.base ≡ before.base → after.greatest ≡ before.greatest → after.utc ≡ before.utc → after.place ≡ before.place + 1 → after.accounts ≡ before.accounts → after.meter ≡ before.meter
    → after.records.items ≡ before.records.items ++ x ∷ [] → before.records.capacity ≤ after.records.capacity
    → Adds (gap_records channels g place tick utc gap) before after
adds_gap channels g place tick utc gap first missed x before after told is base greatest utcs places accounts meter records room =
    subst (λ (o : Option (ℕ × Counts)). Adds (gap_records channels g place tick utc o) before after) (sym told)
    (record {
      base = base;
      greatest = greatest;
      utc = utcs;
      place = places;
      accounts = accounts;
      meter = meter;
      records = records ∙ ap (λ (y : Record). before.records.items ++ y ∷ []) is;
      room = room;
    })
