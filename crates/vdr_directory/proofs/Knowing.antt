-- What opening knows of a medium: it is one, a medium that holds segments has it, and segments in order are in order by it.
use Rattle.std.proofs.Common.{◌≡◌, ◌<◌, ◌≤◌, ℕ, List, [], ◌∷◌, map, drop, slice_get, get_or, All, Contains, Option, Some, None, ⊎_elim, refl, sym, ap, ◌∙◌, subst, arith}
use Rattle.std.proofs.lemmas.List.Elements.{All-nil, All-cons, All-head, All-tail, All-contains}
use Rattle.std.proofs.lemmas.Option.{none-some, same_Some, slice_get_within, slice_get-get_or}
use Rattle.vdr_terms.specs.Records.{Record}
use Rattle.vdr_durability.proofs.Lists.{contains_here, contains_there, contains_cases, none_contained, all_from}
use Rattle.vdr_entry.specs.declared.summary.Summary.{Summary}
use Rattle.vdr_segment.specs.declared.header.Header.{Header}
use Rattle.vdr_segment.specs.Segments.{Segment, AreBatches}
use Rattle.vdr_segment.proofs.BatchListLemmas.{one_batches}
use Rattle.vdr_segment.specs.Slots.{IsFront, header_of}
use Rattle.vdr_segment.proofs.Holding.{slot_of as slot_held, front_at}
use Rattle.vdr_directory.specs.declared.entry.Entry.{Entry}
use Rattle.vdr_directory.specs.Sequence.{Placed, IsBefore, Rises, batches_of, first_of}
use Rattle.vdr_directory.specs.Entries.{Describe, SurveysUnless}
use Rattle.vdr_directory.specs.Knowns.{summary_of, batches_read, known_of}
use Rattle.vdr_directory.specs.Holds.{HoldsPlaced}
use Rattle.vdr_directory.specs.Opening.{AreBatchesRead, AreHeaders, AreKnown, Headed, IsEarlier, RiseBySeq, front_bytes, headed_of, slot_bytes}
use Rattle.vdr_directory.proofs.Finding.{IsRead}

-- A medium that holds segments

contains_map : {X Y : Type 0} (f : X → Y) (xs : List X) (x : X) → Contains xs x → Contains (map f xs) (f x)
contains_map f [] x m = absurd (none_contained x m)
contains_map {X} {Y} f (y ∷ ys) x m =
    ⊎_elim
    (λ (e : y ≡ x). subst (λ (z : X). Contains (f y ∷ map f ys) (f z)) e (contains_here (f y) (map f ys)))
    (λ (k : Contains ys x). contains_there (f y) (map f ys) (f x) (contains_map f ys x k))
    (contains_cases y ys x m)

all_headed : (P : Headed → Type 0) (ps : List Placed) → All (λ p. P (headed_of p)) ps → All P (map headed_of (map known_of ps))
all_headed P [] h = All-nil P
all_headed P (p ∷ ps) h = All-cons P (headed_of p) (map headed_of (map known_of ps)) (All-head (λ p. P (headed_of p)) p ps h) (all_headed P ps (All-tail (λ p. P (headed_of p)) p ps h))

before_headed : (p : Placed) (ps : List Placed) → All (IsBefore p) ps → All (IsEarlier (headed_of p)) (map headed_of (map known_of ps))
before_headed p ps h = all_headed (IsEarlier (headed_of p)) ps h

rise_headed : (ps : List Placed) → Rises ps → RiseBySeq (map headed_of (map known_of ps))
rise_headed [] h = tt
rise_headed (p ∷ ps) h = (before_headed p ps h.0, rise_headed ps h.1)

headed_twice : (ps : List Placed) → map headed_of (map known_of ps) ≡ map headed_of ps
headed_twice [] = refl
headed_twice (p ∷ ps) = ap (λ (xs : List Headed). headed_of p ∷ xs) (headed_twice ps)

module _ (segment count : ℕ) (bytes : List ℕ) (placed : List Placed) (long : 64 ≤ segment) (h : HoldsPlaced segment count placed bytes) where
  front_of : (j : ℕ) (o : Option Segment) → slice_get h.slots j ≡ Some o → IsFront (front_bytes segment j bytes) (header_of o)
  front_of j o at = front_at segment j h.slots o bytes h.holds at long

  named : (j : ℕ) (o : Option Segment) → slice_get h.slots j ≡ Some o → (x : Header) → header_of o ≡ Some x → Contains (map headed_of (map known_of placed)) (record { slot = j; header = x })
  named j None at x is = absurd (none-some x is)
  named j (Some s) at x is =
      let m : Contains (map headed_of placed) (record { slot = j; header = s.header }) = contains_map headed_of placed (record { slot = j; segment = s }) (h.sequence.all j s at) in
      subst (λ (y : List Headed × Header). Contains y.0 (record { slot = j; header = y.1 })) (λ i. (sym (headed_twice placed) i, same_Some s.header x is i)) m

  headers_held : AreHeaders segment count bytes (map headed_of (map known_of placed))
  headers_held = record {
    fronts = λ j lt.
        let at = slice_get-get_or h.slots j None (let e = h.all_slots in omega (arith, lt, e)) in
        (header_of (get_or h.slots j None), front_of j (get_or h.slots j None) at, named j (get_or h.slots j None) at);
    there = all_headed (λ x. (x.slot < count) × IsFront (front_bytes segment x.slot bytes) (Some x.header)) placed
        (all_from (λ p. (p.slot < count) × IsFront (front_bytes segment p.slot bytes) (Some p.segment.header)) placed (λ p m.
        let at = All-contains (λ p. slice_get h.slots p.slot ≡ Some (Some p.segment)) placed p h.sequence.there m in
        let lt = slice_get_within h.slots p.slot (Some p.segment) at in
        let e = h.all_slots in
        (omega (arith, lt, e), front_of p.slot (Some p.segment) at)));
    rising = rise_headed placed h.sequence.rising;
  }

  all_known : (ps : List Placed) → All (λ p. AreBatches (drop 64 (slot_bytes segment p.slot bytes)) p.segment.batches) ps → All (IsRead segment bytes) (map known_of ps)
  all_known [] all = All-nil (IsRead segment bytes)
  all_known (p ∷ ps) all =
      All-cons (IsRead segment bytes) (known_of p) (map known_of ps) (go (summary_of p) (All-head (λ p. AreBatches (drop 64 (slot_bytes segment p.slot bytes)) p.segment.batches) p ps all))
      (all_known ps (All-tail (λ p. AreBatches (drop 64 (slot_bytes segment p.slot bytes)) p.segment.batches) p ps all))
    where
      go : (o : Option Summary) → AreBatches (drop 64 (slot_bytes segment p.slot bytes)) p.segment.batches → AreBatchesRead o (drop 64 (slot_bytes segment p.slot bytes)) (batches_read o p.segment.batches)
      go None a = a
      go (Some s) a = refl

  pub batches_held : All (λ p. AreBatches (drop 64 (slot_bytes segment p.slot bytes)) p.segment.batches) placed
  batches_held = all_from (λ p. AreBatches (drop 64 (slot_bytes segment p.slot bytes)) p.segment.batches) placed (λ p m.
      let at = All-contains (λ p. slice_get h.slots p.slot ≡ Some (Some p.segment)) placed p h.sequence.there m in
      (slot_held segment p.slot h.slots (Some p.segment) bytes h.holds at).1.batches)

  pub known_held : AreKnown segment count bytes (map known_of placed)
  known_held = record { headers = headers_held; batches = all_known placed batches_held }

-- One

batches_once : (o : Option Summary) (bytes : List ℕ) (xs ys : List (List Record)) → AreBatchesRead o bytes xs → AreBatchesRead o bytes ys → xs ≡ ys
batches_once None bytes xs ys h k = one_batches bytes xs ys h k
batches_once (Some s) bytes xs ys h k = h ∙ sym k

placed_once : (segment : ℕ) (bytes : List ℕ) (p q : Placed) → headed_of p ≡ headed_of q → IsRead segment bytes p → IsRead segment bytes q → p ≡ q
placed_once segment bytes p q same h k =
    let there : AreBatchesRead (headed_of q).header.summary (drop 64 (slot_bytes segment (headed_of q).slot bytes)) p.segment.batches =
    subst (λ (x : Headed). AreBatchesRead x.header.summary (drop 64 (slot_bytes segment x.slot bytes)) p.segment.batches) same h in
    let batches = batches_once q.segment.header.summary (drop 64 (slot_bytes segment q.slot bytes)) p.segment.batches q.segment.batches there k in
    λ i. record { slot = (same i).slot; segment = record { header = (same i).header; batches = batches i } }

pub known_once : (segment : ℕ) (bytes : List ℕ) (ps qs : List Placed) → map headed_of ps ≡ map headed_of qs → All (IsRead segment bytes) ps → All (IsRead segment bytes) qs → ps ≡ qs
known_once segment bytes [] [] same h k = refl
known_once segment bytes [] (q ∷ qs) same h k = let bad : ⊥ = cc in absurd bad
known_once segment bytes (p ∷ ps) [] same h k = let bad : ⊥ = cc in absurd bad
known_once segment bytes (p ∷ ps) (q ∷ qs) same h k =
    let first : headed_of p ≡ headed_of q = cc in
    let rest : map headed_of ps ≡ map headed_of qs = cc in
    let one = placed_once segment bytes p q first (All-head (IsRead segment bytes) p ps h) (All-head (IsRead segment bytes) q qs k) in
    let others = known_once segment bytes ps qs rest (All-tail (IsRead segment bytes) p ps h) (All-tail (IsRead segment bytes) q qs k) in
    λ i. one i ∷ others i

-- What entries tell of the segments as they are known they tell of the segments.
pub describe_known : (ps : List Placed) (es : List Entry) → Describe (map known_of ps) es → Describe ps es
describe_known [] [] d = tt
describe_known [] (e ∷ es) d = absurd d
describe_known (p ∷ ps) [] d = absurd d
describe_known (p ∷ ps) (e ∷ es) d = (
  record { slot = d.0.slot; seq = d.0.seq; first = d.0.first; summary = d.0.summary; survey = go (summary_of p) d.0.survey },
  describe_known ps es d.1,
)
  where
    go : (o : Option Summary) → SurveysUnless o (first_of p) (batches_read o (batches_of p)) e.survey → SurveysUnless o (first_of p) (batches_of p) e.survey
    go None h = h
    go (Some s) h = h

-- And the other way round.
pub known_described : (ps : List Placed) (es : List Entry) → Describe ps es → Describe (map known_of ps) es
known_described [] [] d = tt
known_described [] (e ∷ es) d = absurd d
known_described (p ∷ ps) [] d = absurd d
known_described (p ∷ ps) (e ∷ es) d = (
  record { slot = d.0.slot; seq = d.0.seq; first = d.0.first; summary = d.0.summary; survey = go (summary_of p) d.0.survey },
  known_described ps es d.1,
)
  where
    go : (o : Option Summary) → SurveysUnless o (first_of p) (batches_of p) e.survey → SurveysUnless o (first_of p) (batches_read o (batches_of p)) e.survey
    go None h = h
    go (Some s) h = h
