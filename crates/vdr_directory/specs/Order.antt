-- The order in a medium: how each segment stands among the others (this project's profile).
use Rattle.std.specs.Prelude.{◌≡◌, ◌⊎◌, ◌<◌, ◌≤◌, ◌+◌, ◌^◌, ℕ, suc, List, [], ◌∷◌, length, slice_get, All, Option, Some, None, IfSome, ⊤}
use Rattle.vdr_terms.specs.Records.{Record, last, last_after, second}
use Rattle.vdr_terms.specs.Order.{RunOn, NeverFalls}
use Rattle.vdr_entry.specs.declared.summary.Summary.{Summary}
use Rattle.vdr_index.specs.Audits.{IsCovered}
use Rattle.vdr_directory.specs.Sequence.{Placed, seq_of, first_of, records_of}

-- The place after a segment's last record, of one without records its first place.
abbrev pub next_place : Placed → ℕ
next_place p = first_of p + length (records_of p)

abbrev pub HasNone : Placed → Type 0
HasNone p = records_of p ≡ []

-- What a segment is by itself.
pub record RunsOn (p : Placed) : Type 0 where
  pub low : seq_of p < 2 ^ 63
  pub by_place : seq_of p ≤ first_of p
  pub places : RunOn (first_of p) (records_of p)
  pub ticks : NeverFalls 0 (records_of p)

-- A segment agrees with its summary: it has as many records, and each is within it. The summary may be wider than
-- its records.
pub record Agrees (p : Placed) (s : Summary) : Type 0 where
  pub count : s.count ≡ length (records_of p)
  pub covered : All (IsCovered s) (records_of p)

-- The second in which a segment begins, and that in which it ends: by its summary where it has one, else by its
-- records.
abbrev pub begin_second : Option Summary → List Record → Option ℕ
begin_second o [] = None
begin_second None (r ∷ rs) = Some (second r.tick)
begin_second (Some s) (r ∷ rs) = Some s.first_second

abbrev pub end_second : Option Summary → List Record → Option ℕ
end_second o [] = None
end_second None (r ∷ rs) = Some (second (last_after r rs).tick)
end_second (Some s) (r ∷ rs) = Some s.last_second

-- No second falls from one to the other. Where one has a summary, that stands for its ticks.
abbrev pub SecondsRise : Placed → Placed → Type 0
SecondsRise q p = (a b : ℕ) → end_second q.segment.header.summary (records_of q) ≡ Some a → begin_second p.segment.header.summary (records_of p) ≡ Some b → a ≤ b

-- No tick falls from the last record of one to the first of another.
abbrev pub TicksRise : Placed → Placed → Type 0
TicksRise q p = (r s : Record) → last (records_of q) ≡ Some r → slice_get (records_of p) 0 ≡ Some s → r.tick ≤ s.tick

-- What it is behind another. Segments between the two may have been written over, but not where their numbers run on.
pub record Follows (q p : Placed) : Type 0 where
  pub seq : seq_of q < seq_of p
  pub place : next_place q ≤ first_of p
  pub joined : seq_of p ≡ suc (seq_of q) → first_of p ≡ next_place q
  pub ticks : TicksRise q p
  pub seconds : SecondsRise q p
  pub begun : HasNone p → seq_of p ≡ suc (seq_of q)

abbrev pub MayFollow : Option Placed → Placed → Type 0
MayFollow None p = HasNone p → first_of p ≡ 0
MayFollow (Some q) p = Follows q p

-- What it is before the rest. Only the newest may have no records, and it has no summary, nor has the one before it then.
abbrev pub MayPrecede : Placed → List Placed → Type 0
MayPrecede p [] = p.segment.header.summary ≡ None
MayPrecede p (q ∷ []) = (HasNone p → ⊥) × (HasNone q → p.segment.header.summary ≡ None)
MayPrecede p (q ∷ x ∷ rest) = HasNone p → ⊥

pub record IsInPlace (before : Option Placed) (p : Placed) (after : List Placed) : Type 0 where
  pub runs_on : RunsOn p
  pub agrees : IfSome p.segment.header.summary (Agrees p)
  pub follows : MayFollow before p
  pub precedes : MayPrecede p after

-- Each is in its place behind this one.
abbrev pub AreInPlace : Option Placed → List Placed → Type 0
AreInPlace before [] = ⊤
AreInPlace before (p ∷ ps) = IsInPlace before p ps × AreInPlace (Some p) ps

-- The first that is not.
abbrev pub Breaks : Option Placed → List Placed → Placed → Type 0
Breaks before [] x = ⊥
Breaks before (p ∷ ps) x = ((x ≡ p) × (IsInPlace before p ps → ⊥)) ⊎ (IsInPlace before p ps × Breaks (Some p) ps x)

-- A legal order.
abbrev pub AreInOrder : List Placed → Type 0
AreInOrder placed = AreInPlace None placed

-- The place stands in the segment.
pub record HasPlace (place : ℕ) (p : Placed) : Type 0 where
  pub from : first_of p ≤ place
  pub below : place < next_place p
