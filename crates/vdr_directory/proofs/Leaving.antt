-- A segment gets its summary: the medium stays in order, and nothing that is recorded changes.
use Rattle.std.proofs.Common.{◌≡◌, List, [], ◌∷◌, ◌++◌, map, Option, Some, None, refl, sym, ap, ◌∙◌}
use Rattle.std.specs.List.{flat_map}
use Rattle.vdr_terms.specs.Records.{Record}
use Rattle.vdr_entry.specs.declared.summary.Summary.{Summary}
use Rattle.vdr_directory.specs.Sequence.{Placed, batches_of, records_of}
use Rattle.vdr_directory.specs.Order.{Follows, MayFollow, MayPrecede, IsInPlace, AreInPlace, AreInOrder, begin_second, end_second}
use Rattle.vdr_directory.specs.Leaving.{IsExact, summarized}
use Rattle.vdr_directory.specs.Bringing.{MayHaveSummary}
use Rattle.vdr_directory.proofs.Agreeing.{exact_begins, exact_covered, exact_ends}

module _ (p : Placed) (s : Summary) (none : p.segment.header.summary ≡ None) (exact : IsExact p s) where
  begins : begin_second (Some s) (records_of p) ≡ begin_second p.segment.header.summary (records_of p)
  begins = exact_begins (records_of p) s exact.summary ∙ ap (λ (o : Option Summary). begin_second o (records_of p)) (sym none)

  ends : end_second (Some s) (records_of p) ≡ end_second p.segment.header.summary (records_of p)
  ends = exact_ends (records_of p) s exact.summary ∙ ap (λ (o : Option Summary). end_second o (records_of p)) (sym none)

  left_follows : (o : Option Placed) → MayFollow o p → MayFollow o (summarized p s)
  left_follows None h = h
  left_follows (Some q) h = record { seq = h.seq; place = h.place; joined = h.joined; ticks = h.ticks; seconds = λ a b e f. h.seconds a b e (sym begins ∙ f); begun = h.begun }

  followed : (q : Placed) → Follows p q → Follows (summarized p s) q
  followed q h = record { seq = h.seq; place = h.place; joined = h.joined; ticks = h.ticks; seconds = λ a b e f. h.seconds a b (sym ends ∙ e) f; begun = h.begun }

  left_precedes : (rest : List Placed) → MayHaveSummary rest → MayPrecede p rest → MayPrecede (summarized p s) rest
  left_precedes [] due h = absurd due
  left_precedes (q ∷ []) due h = (h.0, λ none. absurd (due none))
  left_precedes (q ∷ x ∷ rest) due h = h

  left_in_place : (o : Option Placed) (rest : List Placed) → MayHaveSummary rest → IsInPlace o p rest → IsInPlace o (summarized p s) rest
  left_in_place o rest due h = record {
    runs_on = record { low = h.runs_on.low; by_place = h.runs_on.by_place; places = h.runs_on.places; ticks = h.runs_on.ticks };
    agrees = record { count = exact.count; covered = exact_covered (records_of p) s h.runs_on.ticks exact.summary };
    follows = left_follows o h.follows;
    precedes = left_precedes rest due h.precedes;
  }

  behind_left : (rest : List Placed) → AreInPlace (Some p) rest → AreInPlace (Some (summarized p s)) rest
  behind_left [] h = tt
  behind_left (q ∷ rest) h = (record { runs_on = h.0.runs_on; agrees = h.0.agrees; follows = followed q h.0.follows; precedes = h.0.precedes }, h.1)

  precedes : (z : Placed) (older rest : List Placed) → MayPrecede z (older ++ p ∷ rest) → MayPrecede z (older ++ summarized p s ∷ rest)
  precedes z [] [] h = h
  precedes z [] (q ∷ rest) h = h
  precedes z (x ∷ []) rest h = h
  precedes z (x ∷ y ∷ older) rest h = h

  left_behind : (o : Option Placed) (older rest : List Placed) → MayHaveSummary rest → AreInPlace o (older ++ p ∷ rest) → AreInPlace o (older ++ summarized p s ∷ rest)
  left_behind o [] rest due h = (left_in_place o rest due h.0, behind_left rest h.1)
  left_behind o (z ∷ older) rest due h = (
    record { runs_on = h.0.runs_on; agrees = h.0.agrees; follows = h.0.follows; precedes = precedes z older rest h.0.precedes },
    left_behind (Some z) older rest due h.1,
  )

  pub left_in_order : (older rest : List Placed) → MayHaveSummary rest → AreInOrder (older ++ p ∷ rest) → AreInOrder (older ++ summarized p s ∷ rest)
  left_in_order older rest due h = left_behind None older rest due h

pub left_segments : (older : List Placed) (p : Placed) (rest : List Placed) (s : Summary) → map batches_of (older ++ summarized p s ∷ rest) ≡ map batches_of (older ++ p ∷ rest)
left_segments [] p rest s = refl
left_segments (z ∷ older) p rest s = ap (λ (xs : List (List (List Record))). batches_of z ∷ xs) (left_segments older p rest s)

pub left_batches : (older : List Placed) (p : Placed) (rest : List Placed) (s : Summary) → flat_map batches_of (older ++ summarized p s ∷ rest) ≡ flat_map batches_of (older ++ p ∷ rest)
left_batches [] p rest s = refl
left_batches (z ∷ older) p rest s = ap (λ (xs : List (List Record)). batches_of z ++ xs) (left_batches older p rest s)
