-- What a segment is after a write into its bytes, whole or torn.
use Rattle.std.proofs.Common.{◌≡◌, ◌≤◌, ◌+◌, ℕ, List, [], ◌∷◌, ◌++◌, length, take, drop, Option, refl, ap, ◌∙◌, sym, subst, arith}
use Rattle.std.specs.Prelude.{IfSome, sum_by}
use Rattle.std.specs.List.{flat_map}
use Rattle.std.proofs.lemmas.List.{length-append, append_assoc, drop-drop, drop-take, take-take, take-append-drop}
use Rattle.std.proofs.lemmas.List.Sums.{sum_by-cons}
use Rattle.vdr_terms.specs.Records.{Record}
use Rattle.vdr_terms.specs.Sizes.{batch_size}
use Rattle.vdr_bytes.specs.Numbers.{le_u64s}
use Rattle.vdr_bytes.proofs.NumberLemmas.{take-front, drop-front}
use Rattle.vdr_bytes.proofs.PutsLemmas.{length-le_u64s}
use Rattle.vdr_entry.specs.declared.summary.Summary.{Summary}
use Rattle.vdr_segment.specs.declared.header.Header.{Header}
use Rattle.vdr_segment.specs.Gates.{closed_gate}
use Rattle.vdr_segment.specs.Headers.{IsHeader, FitsSummary, TellsSummary}
use Rattle.vdr_segment.specs.Batches.{IsBatch, batch_bytes}
use Rattle.vdr_segment.specs.Segments.{Segment, IsSegment, AreBatches, end_of, with_batch, with_summary}
use Rattle.vdr_segment.proofs.BatchLemmas.{length-batch_bytes}
use Rattle.vdr_segment.proofs.BatchListLemmas.{batches_append}
use Rattle.vdr_segment.proofs.HeaderLemmas.{front, length-front, length-told}

-- the bytes of batches, one after another
pub length-batches : (bs : List (List Record)) → length (flat_map batch_bytes bs) ≡ sum_by batch_size bs
length-batches [] = refl
length-batches (b ∷ bs) = length-append (batch_bytes b) (flat_map batch_bytes bs) ∙ omega (arith, length-batch_bytes b, length-batches bs, sum_by-cons batch_size b bs)

-- Bytes that begin alike

-- a shorter front, and a part further on, of bytes with one front
alike_front : (m n : ℕ) (old new : List ℕ) → m ≤ n → take n new ≡ take n old → take m new ≡ take m old
alike_front m n old new le same = sym (take-take m n new le) ∙ ap (λ (xs : List ℕ). take m xs) same ∙ take-take m n old le

alike_part : (from n : ℕ) (old new : List ℕ) → take (from + n) new ≡ take (from + n) old → take n (drop from new) ≡ take n (drop from old)
alike_part from n old new same = sym (drop-take from n new) ∙ ap (λ (xs : List ℕ). drop from xs) same ∙ drop-take from n old

alike_header : (n : ℕ) (old new : List ℕ) (h : Header) → 64 ≤ n → take n new ≡ take n old → IsHeader (take 64 old) h → IsHeader (take 64 new) h
alike_header n old new h le same i = subst (λ (xs : List ℕ). IsHeader xs h) (sym (alike_front 64 n old new le same)) i

-- Behind the last batch

-- what stands behind the closing gate is not read: a write there, whole or torn, changes nothing
batches_kept : (old new : List ℕ) (bs : List (List Record)) → AreBatches old bs → take (sum_by batch_size bs + 1) new ≡ take (sum_by batch_size bs + 1) old → AreBatches new bs
batches_kept old new bs a same =
    let n : ℕ = sum_by batch_size bs + 1 in
    let read : List ℕ = flat_map batch_bytes bs ++ a.gate ∷ [] in
    let long : length read ≡ n = omega (arith, length-append (flat_map batch_bytes bs) (a.gate ∷ []), length-batches bs) in
    let whole : old ≡ read ++ a.rest = a.spelled ∙ sym (append_assoc (flat_map batch_bytes bs) (a.gate ∷ []) a.rest) in
    let first : take n new ≡ read = same ∙ ap (λ (xs : List ℕ). take n xs) whole ∙ take-front n read a.rest long in
    record {
      legal = a.legal;
      gate = a.gate;
      rest = drop n new;
      closed = a.closed;
      spelled = sym (take-append-drop n new) ∙ ap (λ (xs : List ℕ). xs ++ drop n new) first ∙ append_assoc (flat_map batch_bytes bs) (a.gate ∷ []) (drop n new);
    }

pub segment_kept : (old new : List ℕ) (s : Segment) → IsSegment old s → take (end_of s + 1) new ≡ take (end_of s + 1) old → IsSegment new s
segment_kept old new s is same = record {
  header = alike_header (end_of s + 1) old new s.header (omega arith) same is.header;
  batches = batches_kept (drop 64 old) (drop 64 new) s.batches is.batches
      (alike_part 64 (sum_by batch_size s.batches + 1) old new (ap (λ (n : ℕ). take n new) (omega arith) ∙ same ∙ ap (λ (n : ℕ). take n old) (omega arith)));
}

-- a batch and a closed gate from where the closed gate stood: one batch more
pub segment_appended : (old new : List ℕ) (s : Segment) (b : List Record) (rest : List ℕ) → IsSegment old s → IsBatch b
    → take (end_of s) new ≡ take (end_of s) old → drop (end_of s) new ≡ batch_bytes b ++ closed_gate ∷ rest
    → IsSegment new (with_batch s b)
segment_appended old new s b rest is legal same appended =
    let n : ℕ = sum_by batch_size s.batches in
    let a : AreBatches (drop 64 old) s.batches = is.batches in
    let before : take n (drop 64 new) ≡ flat_map batch_bytes s.batches =
    alike_part 64 n old new same ∙ ap (λ (xs : List ℕ). take n xs) a.spelled ∙ take-front n (flat_map batch_bytes s.batches) (a.gate ∷ a.rest) (length-batches s.batches) in
    let whole : drop 64 new ≡ flat_map batch_bytes s.batches ++ (batch_bytes b ++ closed_gate ∷ rest) =
    sym (take-append-drop n (drop 64 new)) ∙ ap (λ (xs : List ℕ). xs ++ drop n (drop 64 new)) before
    ∙ ap (λ (xs : List ℕ). flat_map batch_bytes s.batches ++ xs) (drop-drop n 64 new ∙ appended) in
    record {
      header = alike_header (end_of s) old new s.header (omega arith) same is.header;
      batches = subst (λ (xs : List ℕ). AreBatches xs (s.batches ++ b ∷ [])) (sym whole) (batches_append s.batches b rest a.legal legal);
    }

-- In the header

-- the bytes before the summary's gate and behind the summary
header_around : (b : List ℕ) (h : Header) → (i : IsHeader b h) → (take 17 b ≡ i.gate ∷ le_u64s (h.seq ∷ h.first ∷ [])) × (drop 62 b ≡ 0 ∷ 0 ∷ [])
header_around b h i =
    let numbers : List ℕ = le_u64s (h.seq ∷ h.first ∷ []) in
    let f : List ℕ = front i.gate h.seq h.first i.part in
    let head : List ℕ = i.gate ∷ numbers in
    let long : length head ≡ 17 = omega (arith, length-le_u64s (h.seq ∷ h.first ∷ [])) in (
      ap (λ (xs : List ℕ). take 17 xs) (i.spelled ∙ ap (λ (xs : List ℕ). i.gate ∷ xs) (append_assoc numbers i.part (0 ∷ 0 ∷ []))) ∙ take-front 17 head (i.part ++ 0 ∷ 0 ∷ []) long,
      ap (λ (xs : List ℕ). drop 62 xs) i.spelled ∙ drop-front 62 f (0 ∷ 0 ∷ []) (length-front i.gate h.seq h.first i.part (length-told i.part h.summary i.told)),
    )

-- the bytes of a header by its three parts
three_parts : (b : List ℕ) → take 64 b ≡ take 17 b ++ (take 45 (drop 17 b) ++ take 2 (drop 62 b))
three_parts b =
    sym (take-append-drop 17 (take 64 b))
    ∙ ap (λ (xs : List ℕ). xs ++ drop 17 (take 64 b)) (take-take 17 64 b (omega arith))
    ∙ ap (λ (xs : List ℕ). take 17 b ++ xs)
    (drop-take 17 47 b
    ∙ sym (take-append-drop 45 (take 47 (drop 17 b)))
    ∙ ap (λ (xs : List ℕ). xs ++ drop 45 (take 47 (drop 17 b))) (take-take 45 47 (drop 17 b) (omega arith))
    ∙ ap (λ (xs : List ℕ). take 45 (drop 17 b) ++ xs) (drop-take 45 2 (drop 17 b) ∙ ap (λ (xs : List ℕ). take 2 xs) (drop-drop 45 17 b)))

-- The bytes from the summary's gate on are others. Behind a closed gate they tell none: a summary may be written there, whole
-- or torn. With the gate opened they tell it.
pub summarized : (old new : List ℕ) (s : Segment) (o : Option Summary) → IsSegment old s → IfSome o FitsSummary
    → take 17 new ≡ take 17 old → TellsSummary (take 45 (drop 17 new)) o → drop 62 new ≡ drop 62 old
    → IsSegment new (with_summary s o)
summarized old new s o is fits same told behind =
    let i : IsHeader (take 64 old) s.header = is.header in
    let around = header_around (take 64 old) s.header i in
    let numbers : List ℕ = le_u64s (s.header.seq ∷ s.header.first ∷ []) in
    let part : List ℕ = take 45 (drop 17 new) in
    let head : take 17 new ≡ i.gate ∷ numbers = same ∙ sym (take-take 17 64 old (omega arith)) ∙ around.0 in
    let end : take 2 (drop 62 new) ≡ 0 ∷ 0 ∷ [] = ap (λ (xs : List ℕ). take 2 xs) behind ∙ sym (drop-take 62 2 old) ∙ around.1 in
    record {
      header = record {
        gate = i.gate;
        part = part;
        spelled = three_parts new ∙ ap (λ (xs : List ℕ). xs ++ (part ++ take 2 (drop 62 new))) head ∙ ap (λ (xs : List ℕ). i.gate ∷ (numbers ++ (part ++ xs))) end
            ∙ ap (λ (xs : List ℕ). i.gate ∷ xs) (sym (append_assoc numbers part (0 ∷ 0 ∷ [])));
        told = told;
        fits = record { seq = i.fits.seq; first = i.fits.first; summary = fits };
      };
      batches = subst (λ (xs : List ℕ). AreBatches xs s.batches) (sym (drop-drop 2 62 old) ∙ ap (λ (xs : List ℕ). drop 2 xs) (sym behind) ∙ drop-drop 2 62 new) is.batches;
    }
