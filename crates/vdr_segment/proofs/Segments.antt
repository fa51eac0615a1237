-- What the bytes of one slot are after a write.
use Rattle.std.proofs.Common.{◌≡◌, ◌≢◌, inl, ℕ, ◌+◌, ◌<◌, ◌≤◌, ◌^◌, List, [], ◌∷◌, ◌++◌, length, take, drop, None, Some, sym, ◌∙◌, ap, subst, arith, length-append, append_assoc, length-drop}
use Rattle.std.specs.Prelude.{sum_by}
use Rattle.std.specs.List.{flat_map}
use Rattle.std.proofs.lemmas.List.{drop-drop, take-append-drop}
use Rattle.std.proofs.lemmas.List.Elements.{All-nil}
use Rattle.vdr_terms.specs.Records.{Record}
use Rattle.vdr_terms.specs.Sizes.{batch_size}
use Rattle.vdr_bytes.proofs.NumberLemmas.{take-front}
use Rattle.vdr_outside.specs.Disk.{over}
use Rattle.vdr_outside.proofs.Parts.{part_other}
use Rattle.vdr_segment.specs.Gates.{open_gate, closed_gate}
use Rattle.vdr_segment.specs.Headers.{IsHeader, new_header}
use Rattle.vdr_segment.specs.Batches.{IsBatch, batch_bytes}
use Rattle.vdr_segment.specs.Segments.{Segment, IsSegment, IsSlot, AreBatches, end_of, with_batch}
use Rattle.vdr_segment.proofs.ChangeLemmas.{length-batches, segment_kept, segment_appended}
use Rattle.vdr_segment.proofs.SegmentLemmas.{written_segment}
use Rattle.vdr_segment.proofs.Gates.{before_write, from_write, gate_before, gate_opened, gate_again}

-- Behind a closed gate of the slot

pub closed_behind : (p x : List ℕ) → IsSlot p None → IsSlot (over p 1 x) None
closed_behind p x closed opened = closed (subst (λ (T : Type 0). T) (gate_before p 1 x (omega arith)) opened)

-- the new header, and a closed gate behind it
pub begun : (seq first : ℕ) (p rest : List ℕ) → seq < 2 ^ 64 → first < 2 ^ 64 → 1 ≤ length p → drop 1 p ≡ (drop 1 (new_header seq first) ++ closed_gate ∷ []) ++ rest
    → IsSlot (over p 0 (open_gate ∷ [])) (Some (record { header = record { seq = seq; first = first; summary = None }; batches = [] }))
begun seq first p rest fits_seq fits_first some staged =
    let header : List ℕ = drop 1 (new_header seq first) in
    let whole : over p 0 (open_gate ∷ []) ≡ open_gate ∷ (header ++ (closed_gate ∷ rest)) =
    from_write p 0 (open_gate ∷ []) (omega (arith, some)) ∙ ap (λ (xs : List ℕ). open_gate ∷ xs) (staged ∙ append_assoc header (closed_gate ∷ []) rest) in (
      gate_opened p some,
      subst (λ (xs : List ℕ). IsSegment xs (record { header = record { seq = seq; first = first; summary = None }; batches = [] })) (sym whole)
          (written_segment seq first [] rest fits_seq fits_first (All-nil IsBatch)),
    )

-- Behind the gate that closes the last batch

pub end_within : (p : List ℕ) (s : Segment) → IsSegment p s → end_of s < length p
end_within p s is =
    let a : AreBatches (drop 64 p) s.batches = is.batches in
    omega (arith, ap length a.spelled, length-append (flat_map batch_bytes s.batches) (a.gate ∷ a.rest), length-batches s.batches, length-drop 64 p)

pub segment_behind : (p x : List ℕ) (s : Segment) → IsSlot p (Some s) → IsSlot (over p (end_of s + 1) x) (Some s)
segment_behind p x s is = (
  subst (λ (T : Type 0). T) (sym (gate_before p (end_of s + 1) x (omega arith))) is.0,
  segment_kept p (over p (end_of s + 1) x) s is.1 (before_write p (end_of s + 1) (end_of s + 1) x (omega arith)),
)

-- the closing gate with another byte that closes it
batches_reclosed : (old new : List ℕ) (bs : List (List Record)) (y : ℕ) (rest : List ℕ) → y ≢ open_gate → AreBatches old bs
    → take (sum_by batch_size bs) new ≡ take (sum_by batch_size bs) old → drop (sum_by batch_size bs) new ≡ y ∷ rest → AreBatches new bs
batches_reclosed old new bs y rest ne a same behind = record {
  legal = a.legal;
  gate = y;
  rest = rest;
  closed = ne;
  spelled =
      sym (take-append-drop (sum_by batch_size bs) new)
      ∙ ap (λ (xs : List ℕ). xs ++ drop (sum_by batch_size bs) new) (same ∙ ap (λ (xs : List ℕ). take (sum_by batch_size bs) xs) a.spelled ∙ take-front (sum_by batch_size bs) (flat_map batch_bytes bs) (a.gate ∷ a.rest) (length-batches bs))
      ∙ ap (λ (xs : List ℕ). flat_map batch_bytes bs ++ xs) behind;
}

pub segment_reclosed : (p : List ℕ) (s : Segment) (y : ℕ) → y ≢ open_gate → IsSlot p (Some s) → IsSlot (over p (end_of s) (y ∷ [])) (Some s)
segment_reclosed p s y ne is =
    let new : List ℕ = over p (end_of s) (y ∷ []) in
    let n : ℕ = sum_by batch_size s.batches in (
      subst (λ (T : Type 0). T) (sym (gate_before p (end_of s) (y ∷ []) (omega arith))) is.0,
      record {
        header = subst (λ (xs : List ℕ). IsHeader xs s.header) (sym (before_write p 64 (end_of s) (y ∷ []) (omega arith))) is.1.header;
        batches = batches_reclosed (drop 64 p) (drop 64 new) s.batches y (drop (end_of s + 1) p) ne is.1.batches (part_other p 64 n (end_of s) (y ∷ []) (inl (omega arith)))
            (drop-drop n 64 new ∙ from_write p (end_of s) (y ∷ []) (omega (arith, end_within p s is.1)));
      },
    )

-- the gate of a batch that stands behind it
pub batch_counts : (p : List ℕ) (s : Segment) (records : List Record) (batch rest : List ℕ) → IsBatch records → batch ≡ batch_bytes records ++ closed_gate ∷ []
    → drop (end_of s + 1) p ≡ drop 1 batch ++ rest → IsSlot p (Some s) → IsSlot (over p (end_of s) (open_gate ∷ [])) (Some (with_batch s records))
unfolding batch_bytes
batch_counts p s records batch rest legal spelled staged is =
    let new : List ℕ = over p (end_of s) (open_gate ∷ []) in
    let within : end_of s < length p = end_within p s is.1 in
    let from : drop (end_of s) new ≡ batch_bytes records ++ (closed_gate ∷ rest) =
    from_write p (end_of s) (open_gate ∷ []) (omega (arith, within))
    ∙ ap (λ (xs : List ℕ). open_gate ∷ xs) (staged ∙ ap (λ (xs : List ℕ). drop 1 xs ++ rest) spelled)
    ∙ append_assoc (batch_bytes records) (closed_gate ∷ []) rest in (
      subst (λ (T : Type 0). T) (sym (gate_before p (end_of s) (open_gate ∷ []) (omega arith))) is.0,
      segment_appended p new s records rest is.1 legal (before_write p (end_of s) (end_of s) (open_gate ∷ []) (omega arith)) from,
    )

-- The slot's own gate

pub slot_again : (p : List ℕ) (s : Segment) → IsSlot p (Some s) → IsSlot (over p 0 (open_gate ∷ [])) (Some s)
slot_again p s is = subst (λ (xs : List ℕ). IsSlot xs (Some s)) (sym (gate_again p is.0)) is
