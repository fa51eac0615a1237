-- The order in a medium by what opening knows of its segments (this project's profile). Where a header has a summary, that
-- stands for the records, and the batches are not read: its count for their places, its first and last second for their ticks.
use Rattle.std.specs.Prelude.{◌≡◌, ◌⊎◌, ◌<◌, ◌≤◌, ◌+◌, ◌*◌, ◌^◌, ℕ, suc, List, [], ◌∷◌, length, slice_get, option_map, Option, Some, None, IfSome, ⊤}
use Rattle.vdr_terms.specs.Records.{Record, last, second}
use Rattle.vdr_terms.specs.Order.{RunOn, NeverFalls}
use Rattle.vdr_durability.specs.Layout.{segment_records}
use Rattle.vdr_entry.specs.declared.summary.Summary.{Summary}
use Rattle.vdr_directory.specs.Sequence.{Placed, seq_of, first_of, batches_of}

abbrev pub summary_of : Placed → Option Summary
summary_of p = p.segment.header.summary

-- The batches of a segment that opening reads: none where its header has a summary.
abbrev pub batches_read : Option Summary → List (List Record) → List (List Record)
batches_read None batches = batches
batches_read (Some s) batches = []

-- What opening knows of a segment: it as it is but for batches that are not read.
abbrev pub known_of : Placed → Placed
known_of p = record { slot = p.slot; segment = record { header = p.segment.header; batches = batches_read (summary_of p) (batches_of p) } }

-- The records that opening reads of it.
abbrev pub records_read : Placed → List Record
records_read p = segment_records (batches_read (summary_of p) (batches_of p))

-- How many records it has: as many as its summary counts where it has one.
abbrev pub count_by : Option Summary → List Record → ℕ
count_by None records = length records
count_by (Some s) records = s.count

abbrev pub known_count : Placed → ℕ
known_count p = count_by (summary_of p) (records_read p)

abbrev pub HasNoneBy : Placed → Type 0
HasNoneBy p = known_count p ≡ 0

-- The place after its last record, of one without records its first place.
abbrev pub next_known : Placed → ℕ
next_known p = first_of p + known_count p

-- A summary may stand for the records of a segment with this first place: it does not end before it begins, and its places and
-- its milliseconds are below 2^63.
pub record MayStand (first : ℕ) (s : Summary) : Type 0 where
  pub forward : s.first_second ≤ s.last_second
  pub places : first + s.count ≤ 2 ^ 63
  pub ticks : 1000 * s.last_second < 2 ^ 63

-- What is known of its records runs on: where it has a summary, by that, and else its places and ticks.
pub record IsWhole (p : Placed) : Type 0 where
  pub places : RunOn (first_of p) (records_read p)
  pub ticks : NeverFalls 0 (records_read p)
  pub stands : IfSome (summary_of p) (MayStand (first_of p))

-- What a segment is by itself.
pub record RunsOnBy (p : Placed) : Type 0 where
  pub low : seq_of p < 2 ^ 63
  pub by_place : seq_of p ≤ first_of p
  pub whole : IsWhole p

-- The second in which a segment begins, and that in which it ends.
abbrev pub begin_by : Option Summary → List Record → Option ℕ
begin_by None records = option_map (λ r. second r.tick) (slice_get records 0)
begin_by (Some s) records = Some s.first_second

abbrev pub end_by : Option Summary → List Record → Option ℕ
end_by None records = option_map (λ r. second r.tick) (last records)
end_by (Some s) records = Some s.last_second

-- No second falls from one to the other.
abbrev pub SecondsRiseBy : Placed → Placed → Type 0
SecondsRiseBy q p = (a b : ℕ) → end_by (summary_of q) (records_read q) ≡ Some a → begin_by (summary_of p) (records_read p) ≡ Some b → a ≤ b

-- No tick falls from one to the other, where neither has a summary.
abbrev pub TicksRiseBy : Placed → Placed → Type 0
TicksRiseBy q p = (r s : Record) → last (records_read q) ≡ Some r → slice_get (records_read p) 0 ≡ Some s → r.tick ≤ s.tick

-- What it is behind another.
pub record FollowsBy (q p : Placed) : Type 0 where
  pub seq : seq_of q < seq_of p
  pub place : next_known q ≤ first_of p
  pub joined : seq_of p ≡ suc (seq_of q) → first_of p ≡ next_known q
  pub ticks : TicksRiseBy q p
  pub seconds : SecondsRiseBy q p
  pub begun : HasNoneBy p → seq_of p ≡ suc (seq_of q)

abbrev pub MayFollowBy : Option Placed → Placed → Type 0
MayFollowBy None p = HasNoneBy p → first_of p ≡ 0
MayFollowBy (Some q) p = FollowsBy q p

-- What it is before the rest. Only the newest may have no records, and it has no summary, nor has the one before it then.
abbrev pub MayPrecedeBy : Placed → List Placed → Type 0
MayPrecedeBy p [] = summary_of p ≡ None
MayPrecedeBy p (q ∷ []) = (HasNoneBy p → ⊥) × (HasNoneBy q → summary_of p ≡ None)
MayPrecedeBy p (q ∷ x ∷ rest) = HasNoneBy p → ⊥

pub record IsInPlaceBy (before : Option Placed) (p : Placed) (after : List Placed) : Type 0 where
  pub runs_on : RunsOnBy p
  pub follows : MayFollowBy before p
  pub precedes : MayPrecedeBy p after

-- Each is in its place behind this one.
abbrev pub AreInPlaceBy : Option Placed → List Placed → Type 0
AreInPlaceBy before [] = ⊤
AreInPlaceBy before (p ∷ ps) = IsInPlaceBy before p ps × AreInPlaceBy (Some p) ps

-- The first that is not.
abbrev pub BreaksBy : Option Placed → List Placed → Placed → Type 0
BreaksBy before [] x = ⊥
BreaksBy before (p ∷ ps) x = ((x ≡ p) × (IsInPlaceBy before p ps → ⊥)) ⊎ (IsInPlaceBy before p ps × BreaksBy (Some p) ps x)

-- A legal order, as far as opening knows.
abbrev pub AreInOrderBy : List Placed → Type 0
AreInOrderBy placed = AreInPlaceBy None placed
