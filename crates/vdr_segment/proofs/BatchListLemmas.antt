-- Batches one after another: they stand in bytes in one way, and a walk finds them in order.
use Rattle.std.proofs.Common.{◌≡◌, ◌<◌, ◌+◌, ℕ, suc, List, [], ◌∷◌, ◌++◌, length, take, drop, slice_index, refl, ap, ◌∙◌, sym, subst, arith, add-zero, zero-add, drop-cons}
use Rattle.std.specs.Prelude.{All}
use Rattle.std.specs.List.{flat_map}
use Rattle.std.proofs.lemmas.List.{length-append, append_assoc, drop-drop, flat_map_more}
use Rattle.std.proofs.lemmas.List.Elements.{All-nil, All-cons, All-head, All-tail, All-push}
use Rattle.vdr_terms.specs.Records.{Record}
use Rattle.vdr_terms.specs.Sizes.{record_size, records_size, batch_size}
use Rattle.vdr_bytes.proofs.NumberLemmas.{drop-front}
use Rattle.vdr_entry.specs.Spelling.{record_bytes, records_bytes}
use Rattle.vdr_entry.proofs.ReadingLemmas.{one_record}
use Rattle.vdr_entry.proofs.SpellingLemmas.{length-record_bytes}
use Rattle.vdr_segment.specs.declared.step.Walk.{Walk}
use Rattle.vdr_segment.specs.declared.step.Walk.TheVariants.{Batch, End, Broken}
use Rattle.vdr_segment.specs.Gates.{closed_gate, IsOpenAt}
use Rattle.vdr_segment.specs.Batches.{batch_bytes, AreRecords, IsBatch, HasBatchAt}
use Rattle.vdr_segment.specs.Segments.{AreBatches}
use Rattle.vdr_segment.specs.Walks.{Walks, TellsBatches}
use Rattle.vdr_segment.proofs.BatchLemmas.{length-batch_bytes}
use Rattle.vdr_segment.proofs.GateLemmas.{open_byte, open_by_byte, open_behind, open_within, zero_is_closed}
use Rattle.vdr_segment.proofs.WalkLemmas.{first_begins, records_behind, batch_shows, batch_at, batch_from}

-- One way

-- bytes are records in one way
pub one_records : (bytes : List ℕ) (ps qs : List Record) → AreRecords bytes ps → AreRecords bytes qs → ps ≡ qs
one_records bytes [] [] a b = refl
one_records bytes [] (q ∷ qs) a b =
    let bad : ⊥ = omega (arith, ap length a.spelled, ap length b.spelled, length-append (record_bytes q) (records_bytes qs), length-record_bytes q) in absurd bad
one_records bytes (p ∷ ps) [] a b =
    let bad : ⊥ = omega (arith, ap length a.spelled, ap length b.spelled, length-append (record_bytes p) (records_bytes ps), length-record_bytes p) in absurd bad
one_records bytes (p ∷ ps) (q ∷ qs) a b =
    let same : p ≡ q = one_record bytes (records_bytes ps) (records_bytes qs) p q (first_begins bytes p ps a) (first_begins bytes q qs b) in
    let behind : AreRecords (drop (record_size p) bytes) qs = subst (λ (x : Record). AreRecords (drop (record_size x) bytes) qs) (sym same) (records_behind bytes q qs b) in
    let rest : ps ≡ qs = one_records (drop (record_size p) bytes) ps qs (records_behind bytes p ps a) behind in
    ap (λ (x : Record). x ∷ ps) same ∙ ap (λ (xs : List Record). q ∷ xs) rest

-- one batch stands at an offset
pub one_batch : (segment : List ℕ) (at : ℕ) (ps qs : List Record) → HasBatchAt segment at ps → HasBatchAt segment at qs → ps ≡ qs
one_batch segment at ps qs a b =
    let s = batch_shows (drop at segment) ps (batch_from segment at ps a) in
    let t = batch_shows (drop at segment) qs (batch_from segment at qs b) in
    let size : records_size qs ≡ records_size ps = sym t.size ∙ s.size in
    one_records _ ps qs s.records (subst (λ (n : ℕ). AreRecords (take n (drop 5 (drop at segment))) qs) size t.records)

-- a batch stands behind an open gate
pub batch_open : (segment : List ℕ) (at : ℕ) (rs : List Record) → HasBatchAt segment at rs → IsOpenAt segment at
batch_open segment at rs h =
    subst (λ (n : ℕ). IsOpenAt segment n) (add-zero at) (open_within segment at 0 (batch_shows (drop at segment) rs (batch_from segment at rs h)).gate)

-- a walk has one answer
pub one_walk : (segment : List ℕ) (at : ℕ) (v w : Walk) → Walks segment at v → Walks segment at w → v ≡ w
one_walk segment at (Batch from to) (Batch from' to') a b =
    let same : records_size a.0 ≡ records_size b.0 = ap records_size (one_batch segment at a.0 b.0 a.1 b.1) in
    let e : from ≡ from' = omega (arith, a.2, b.2) in
    let f : to ≡ to' = omega (arith, a.3, b.3, e, same) in
    ap (λ (n : ℕ). Batch n to) e ∙ ap (λ (n : ℕ). Batch from' n) f
one_walk segment at (Batch from to) End a b = absurd (b (batch_open segment at a.0 a.1))
one_walk segment at (Batch from to) Broken a b = absurd (b.1 a.0 a.1)
one_walk segment at End (Batch from to) a b = absurd (a (batch_open segment at b.0 b.1))
one_walk segment at End End a b = refl
one_walk segment at End Broken a b = absurd (a b.0)
one_walk segment at Broken (Batch from to) a b = absurd (a.1 b.0 b.1)
one_walk segment at Broken End a b = absurd (b a.0)
one_walk segment at Broken Broken a b = refl

-- The first of several batches, and those behind it

pub first_batch : (bytes : List ℕ) (b : List Record) (bs : List (List Record)) → AreBatches bytes (b ∷ bs) → HasBatchAt bytes 0 b
first_batch bytes b bs a =
    let rest : List ℕ = flat_map batch_bytes bs ++ a.gate ∷ a.rest in
    let whole : bytes ≡ batch_bytes b ++ rest = a.spelled ∙ append_assoc (batch_bytes b) (flat_map batch_bytes bs) (a.gate ∷ a.rest) in
    let behind : drop (0 + batch_size b) bytes ≡ rest =
    ap (λ (j : ℕ). drop j bytes) (zero-add (batch_size b)) ∙ ap (λ (xs : List ℕ). drop (batch_size b) xs) whole ∙ drop-front (batch_size b) (batch_bytes b) rest (length-batch_bytes b) in
    record {
      legal = All-head IsBatch b bs a.legal;
      spelled = whole ∙ ap (λ (xs : List ℕ). batch_bytes b ++ xs) (sym behind);
      room = omega (arith, ap length whole, length-append (batch_bytes b) rest, length-append (flat_map batch_bytes bs) (a.gate ∷ a.rest), length-batch_bytes b);
    }

pub batches_behind : (bytes : List ℕ) (b : List Record) (bs : List (List Record)) → AreBatches bytes (b ∷ bs) → AreBatches (drop (batch_size b) bytes) bs
batches_behind bytes b bs a = record {
  legal = All-tail IsBatch b bs a.legal;
  gate = a.gate;
  rest = a.rest;
  closed = a.closed;
  spelled = ap (λ (xs : List ℕ). drop (batch_size b) xs) (a.spelled ∙ append_assoc (batch_bytes b) (flat_map batch_bytes bs) (a.gate ∷ a.rest))
      ∙ drop-front (batch_size b) (batch_bytes b) (flat_map batch_bytes bs ++ a.gate ∷ a.rest) (length-batch_bytes b);
}

pub batches_before : (bytes : List ℕ) (b : List Record) (bs : List (List Record)) → HasBatchAt bytes 0 b → AreBatches (drop (batch_size b) bytes) bs → AreBatches bytes (b ∷ bs)
batches_before bytes b bs h a = record {
  legal = All-cons IsBatch b bs h.legal a.legal;
  gate = a.gate;
  rest = a.rest;
  closed = a.closed;
  spelled = h.spelled ∙ ap (λ (j : ℕ). batch_bytes b ++ drop j bytes) (zero-add (batch_size b)) ∙ ap (λ (xs : List ℕ). batch_bytes b ++ xs) a.spelled
      ∙ sym (append_assoc (batch_bytes b) (flat_map batch_bytes bs) (a.gate ∷ a.rest));
}

-- no batches begin with a closed gate
starts_closed : (bytes : List ℕ) → AreBatches bytes [] → IsOpenAt bytes 0 → ⊥
starts_closed bytes a o = a.closed (sym (ap (λ (xs : List ℕ). slice_index xs 0) a.spelled) ∙ open_byte bytes 0 o)

starts_open : (bytes : List ℕ) (b : List Record) (bs : List (List Record)) → AreBatches bytes (b ∷ bs) → IsOpenAt bytes 0
starts_open bytes b bs a = batch_open bytes 0 b (first_batch bytes b bs a)

-- bytes hold batches in one way
pub one_batches : (bytes : List ℕ) (ps qs : List (List Record)) → AreBatches bytes ps → AreBatches bytes qs → ps ≡ qs
one_batches bytes [] [] a b = refl
one_batches bytes [] (q ∷ qs) a b = absurd (starts_closed bytes a (starts_open bytes q qs b))
one_batches bytes (p ∷ ps) [] a b = absurd (starts_closed bytes b (starts_open bytes p ps a))
one_batches bytes (p ∷ ps) (q ∷ qs) a b =
    let same : p ≡ q = one_batch bytes 0 p q (first_batch bytes p ps a) (first_batch bytes q qs b) in
    let behind : AreBatches (drop (batch_size p) bytes) qs = subst (λ (x : List Record). AreBatches (drop (batch_size x) bytes) qs) (sym same) (batches_behind bytes q qs b) in
    let rest : ps ≡ qs = one_batches (drop (batch_size p) bytes) ps qs (batches_behind bytes p ps a) behind in
    ap (λ (x : List Record). x ∷ ps) same ∙ ap (λ (xs : List (List Record)). q ∷ xs) rest

-- What a walk meets

-- where batches stand, the first of them
pub walk_next : (segment : List ℕ) (at : ℕ) (b : List Record) (bs : List (List Record)) → AreBatches (drop at segment) (b ∷ bs) → HasBatchAt segment at b
walk_next segment at b bs a = batch_at segment at b (first_batch (drop at segment) b bs a)

-- where none stand, no open gate
pub walk_end : (segment : List ℕ) (at : ℕ) → AreBatches (drop at segment) [] → IsOpenAt segment at → ⊥
walk_end segment at a o = starts_closed (drop at segment) a (open_behind segment at 0 (subst (λ (n : ℕ). IsOpenAt segment n) (sym (add-zero at)) o))

-- inside the segment no open gate: no batches, and a closed gate behind them
pub none_stand : (segment : List ℕ) (at : ℕ) → at < length segment → (IsOpenAt segment at → ⊥) → AreBatches (drop at segment) []
none_stand segment at inside none = record {
  legal = All-nil IsBatch;
  gate = slice_index segment at;
  rest = drop (suc at) segment;
  closed = λ e. none (open_by_byte segment at inside e);
  spelled = drop-cons segment at 0 inside;
}

-- the batches behind one that a walk has met
pub walk_on : (segment : List ℕ) (at to : ℕ) (b : List Record) (bs : List (List Record)) → to ≡ at + batch_size b → AreBatches (drop at segment) (b ∷ bs) → AreBatches (drop to segment) bs
walk_on segment at to b bs is a =
    subst (λ (xs : List ℕ). AreBatches xs bs) (drop-drop (batch_size b) at segment ∙ ap (λ (j : ℕ). drop j segment) (sym is)) (batches_behind (drop at segment) b bs a)

pub walk_back : (segment : List ℕ) (at to : ℕ) (b : List Record) (bs : List (List Record)) → to ≡ at + batch_size b → HasBatchAt segment at b → AreBatches (drop to segment) bs → AreBatches (drop at segment) (b ∷ bs)
walk_back segment at to b bs is h a =
    batches_before (drop at segment) b bs (batch_from segment at b h)
    (subst (λ (xs : List ℕ). AreBatches xs bs) (ap (λ (j : ℕ). drop j segment) is ∙ sym (drop-drop (batch_size b) at segment)) a)

-- what a walk tells of all batches from its offset on
pub walk_tells : (segment : List ℕ) (at : ℕ) (w : Walk) → Walks segment at w → TellsBatches segment at w
walk_tells segment at (Batch from to) h =
    let ends : to ≡ at + batch_size h.0 = omega (arith, h.2, h.3) in
    (h.0, h.1, λ bs. (split bs ends, λ x. subst (λ (ys : List (List Record)). AreBatches (drop at segment) ys) (sym x.1) (walk_back segment at to h.0 x.0 ends h.1 x.2)))
  where
    split : (bs : List (List Record)) → to ≡ at + batch_size h.0 → AreBatches (drop at segment) bs → (rest : List (List Record)) × (bs ≡ h.0 ∷ rest) × AreBatches (drop to segment) rest
    split [] ends a = absurd (walk_end segment at a (batch_open segment at h.0 h.1))
    split (b ∷ bs) ends a =
        let same : b ≡ h.0 = one_batch segment at b h.0 (walk_next segment at b bs a) h.1 in
        (bs, ap (λ (x : List Record). x ∷ bs) same, walk_on segment at to b bs (ends ∙ ap (λ (x : List Record). at + batch_size x) (sym same)) a)
walk_tells segment at End none = λ inside bs. (only bs, λ is. subst (λ (ys : List (List Record)). AreBatches (drop at segment) ys) (sym is) (none_stand segment at inside none))
  where
    only : (bs : List (List Record)) → AreBatches (drop at segment) bs → bs ≡ []
    only [] a = refl
    only (b ∷ bs) a = absurd (none (batch_open segment at b (walk_next segment at b bs a)))
walk_tells segment at Broken h = λ bs. never bs
  where
    never : (bs : List (List Record)) → AreBatches (drop at segment) bs → ⊥
    never [] a = walk_end segment at a h.0
    never (b ∷ bs) a = h.1 b (walk_next segment at b bs a)

-- a batch and a closed gate where the closed gate stood: one batch more
pub batches_append : (bs : List (List Record)) (b : List Record) (rest : List ℕ) → All IsBatch bs → IsBatch b → AreBatches (flat_map batch_bytes bs ++ (batch_bytes b ++ closed_gate ∷ rest)) (bs ++ b ∷ [])
batches_append bs b rest all legal = record {
  legal = All-push IsBatch bs b all legal;
  gate = closed_gate;
  rest = rest;
  closed = zero_is_closed;
  spelled = sym (append_assoc (flat_map batch_bytes bs) (batch_bytes b) (closed_gate ∷ rest)) ∙ ap (λ (xs : List ℕ). xs ++ closed_gate ∷ rest) (flat_map_more batch_bytes [] bs b);
}
