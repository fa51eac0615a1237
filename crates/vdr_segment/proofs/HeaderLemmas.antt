-- Headers and summaries, as they are written and as they are read.
use Rattle.std.proofs.Common.{◌≡◌, ◌≢◌, ◌<◌, ◌+◌, ◌^◌, ℕ, List, [], ◌∷◌, ◌++◌, length, take, drop, slice_index, Option, None, Some, refl, ap, ◌∙◌, sym, arith, drop-cons, get_or-drop, get_or-take, ℤ, to_z, of_z, w64}
use Rattle.std.specs.Prelude.{replicate}
use Rattle.std.proofs.lemmas.Int.{of_z-to_z}
use Rattle.std.proofs.lemmas.List.{length-append, append_assoc, drop_all}
use Rattle.vdr_terms.specs.Legality.{IsBytes}
use Rattle.vdr_bytes.specs.Numbers.{le_u32, le_u64s, u32_at, Puts}
use Rattle.vdr_terms.proofs.Bytes.{part_long}
use Rattle.vdr_bytes.proofs.NumberLemmas.{length-le_u32, spelled_u32, take-front, cut}
use Rattle.vdr_bytes.proofs.PutsLemmas.{length-le_u64s, puts-more, puts-whole}
use Rattle.vdr_entry.specs.declared.summary.Summary.{Summary}
use Rattle.vdr_segment.specs.declared.header.Header.{Header}
use Rattle.vdr_segment.specs.Gates.{open_gate}
use Rattle.vdr_segment.specs.Headers.{IsHeader, TellsSummary, new_header, summary_bytes}
use Rattle.vdr_segment.proofs.GateLemmas.{open_byte, zero_is_closed}
use Rattle.vdr_segment.proofs.NumberListLemmas.{u64s_at, spelled_u64s}

-- Lengths

pub length-summary_bytes : (s : Summary) → length (summary_bytes s) ≡ 44
unfolding summary_bytes
length-summary_bytes s =
    let five : List ℕ = s.first_second ∷ s.last_second ∷ of_z w64 s.least_utc ∷ of_z w64 s.greatest_utc ∷ s.bits ∷ [] in
    omega (arith, length-append (le_u32 s.count) (le_u64s five), length-le_u32 s.count, length-le_u64s five)

pub length-told : (part : List ℕ) (o : Option Summary) → TellsSummary part o → length part ≡ 45
length-told part None t = t.0
length-told part (Some s) t = ap length t ∙ omega (arith, length-summary_bytes s)

-- the bytes before the two zeros
abbrev pub front : (gate seq first : ℕ) → List ℕ → List ℕ
front gate seq first part = gate ∷ (le_u64s (seq ∷ first ∷ []) ++ part)

pub length-front : (gate seq first : ℕ) (part : List ℕ) → length part ≡ 45 → length (front gate seq first part) ≡ 62
length-front gate seq first part long = omega (arith, length-append (le_u64s (seq ∷ first ∷ [])) part, length-le_u64s (seq ∷ first ∷ []), long)

pub length-header : (b : List ℕ) (h : Header) → IsHeader b h → length b ≡ 64
length-header b h i =
    let f : List ℕ = front i.gate h.seq h.first i.part in
    ap length i.spelled ∙ omega (arith, length-append f (0 ∷ 0 ∷ []), length-front i.gate h.seq h.first i.part (length-told i.part h.summary i.told))

-- What is written

-- a write into zeros makes a new header
pub header_put : (seq first : ℕ) (b : List ℕ) → Puts (replicate 64 0) b 1 (le_u64s (seq ∷ first ∷ [])) → b ≡ new_header seq first
unfolding new_header
header_put seq first b p =
    let numbers : List ℕ = le_u64s (seq ∷ first ∷ []) in
    let behind : 1 + length numbers ≡ 17 = omega (arith, length-le_u64s (seq ∷ first ∷ [])) in
    p.is ∙ ap (λ (n : ℕ). 0 ∷ (numbers ++ drop n (replicate 64 0))) behind

pub new_is_header : (gate seq first : ℕ) → seq < 2 ^ 64 → first < 2 ^ 64
    → IsHeader (gate ∷ drop 1 (new_header seq first)) (record { seq = seq; first = first; summary = None })
unfolding new_header
new_is_header gate seq first p q = record {
  gate = gate;
  part = replicate 45 0;
  spelled = ap (λ (xs : List ℕ). gate ∷ xs) (sym (append_assoc (le_u64s (seq ∷ first ∷ [])) (replicate 45 0) (0 ∷ 0 ∷ [])));
  told = (refl, λ o. zero_is_closed (open_byte (replicate 45 0) 0 o));
  fits = record { seq = p; first = q; summary = tt };
}

-- the two writes of a summary
pub summary_put : (count : ℕ) (five a b c : List ℕ) → length five ≡ 5 → length a ≡ 44 → Puts a b 0 (le_u32 count) → Puts b c 4 (le_u64s five) → c ≡ le_u32 count ++ le_u64s five
summary_put count five a b c all long p q =
    let four = length-le_u32 count in
    let whole : length (le_u32 count ++ le_u64s five) ≡ length a = omega (arith, length-append (le_u32 count) (le_u64s five), four, length-le_u64s five, all, long) in
    puts-whole a c (le_u32 count ++ le_u64s five) (puts-more a b c 0 4 (le_u32 count) (le_u64s five) p q (omega (arith, four)) (omega (arith, four, long))) whole

-- What is read

gate_first : (b : List ℕ) → slice_index (take 45 (drop 17 b)) 0 ≡ slice_index b 17
gate_first b = get_or-take 45 (drop 17 b) 0 0 (omega arith) ∙ get_or-drop 17 b 0 0

-- a summary whose gate is closed
pub closed_told : (b : List ℕ) → length b ≡ 64 → slice_index b 17 ≢ open_gate → TellsSummary (take 45 (drop 17 b)) None
closed_told b long closed = (part_long 17 45 b (omega (arith, long)), λ o. closed (sym (gate_first b) ∙ open_byte (take 45 (drop 17 b)) 0 o))

pub same_five : (a b c d e a' b' c' d' e' : ℕ) → a ≡ a' → b ≡ b' → c ≡ c' → d ≡ d' → e ≡ e' → a ∷ b ∷ c ∷ d ∷ e ∷ [] ≡ a' ∷ b' ∷ c' ∷ d' ∷ e' ∷ []
same_five a b c d e a' b' c' d' e' p q r s t = cc

-- a summary whose gate is open, by the numbers that were read
pub open_told : (b : List ℕ) (count first last bits : ℕ) (least greatest : ℤ) → IsBytes b → length b ≡ 64 → slice_index b 17 ≡ open_gate
    → count ≡ u32_at 18 b → first ∷ last ∷ of_z w64 least ∷ of_z w64 greatest ∷ bits ∷ [] ≡ u64s_at 5 22 b
    → TellsSummary (take 45 (drop 17 b)) (Some (record { count = count; first_second = first; last_second = last; least_utc = least; greatest_utc = greatest; bits = bits }))
unfolding summary_bytes
open_told b count first last bits least greatest are_bytes long gate is are =
    let five : List ℕ = u64s_at 5 22 b in
    let size : length (le_u32 (u32_at 18 b) ++ le_u64s five) ≡ 44 =
    omega (arith, length-append (le_u32 (u32_at 18 b)) (le_u64s five), length-le_u32 (u32_at 18 b), length-le_u64s five) in
    let here : drop 18 b ≡ (le_u32 (u32_at 18 b) ++ le_u64s five) ++ drop 62 b =
    spelled_u32 18 b are_bytes (omega (arith, long))
    ∙ ap (λ (xs : List ℕ). le_u32 (u32_at 18 b) ++ xs) (spelled_u64s 5 22 b are_bytes (omega (arith, long)))
    ∙ sym (append_assoc (le_u32 (u32_at 18 b)) (le_u64s five) (drop 62 b)) in
    ap (λ (xs : List ℕ). take 45 xs) (drop-cons b 17 0 (omega (arith, long)))
    ∙ ap (λ (g : ℕ). g ∷ take 44 (drop 18 b)) gate
    ∙ ap (λ (xs : List ℕ). open_gate ∷ xs)
    (ap (λ (xs : List ℕ). take 44 xs) here
    ∙ take-front 44 (le_u32 (u32_at 18 b) ++ le_u64s five) (drop 62 b) size
    ∙ ap (λ (n : ℕ). le_u32 n ++ le_u64s five) (sym is)
    ∙ ap (λ (ns : List ℕ). le_u32 count ++ le_u64s ns) (sym are))

-- a signed number that was read by its bits
pub bits_again : (z : ℤ) (n m : ℕ) → z ≡ to_z w64 n → n < 2 ^ 64 → n ≡ m → of_z w64 (to_z w64 (of_z w64 z)) ≡ m
bits_again z n m e small is =
    ap (λ (x : ℤ). of_z w64 (to_z w64 (of_z w64 x))) e ∙ ap (λ (k : ℕ). of_z w64 (to_z w64 k)) (of_z-to_z w64 n small) ∙ of_z-to_z w64 n small ∙ is

-- two bytes that are zero, at the end
two_zeros : (b : List ℕ) → length b ≡ 64 → slice_index b 62 ≡ 0 → slice_index b 63 ≡ 0 → drop 62 b ≡ 0 ∷ 0 ∷ []
two_zeros b long p q =
    drop-cons b 62 0 (omega (arith, long)) ∙ ap (λ (n : ℕ). n ∷ drop 63 b) p
    ∙ ap (λ (xs : List ℕ). 0 ∷ xs) (drop-cons b 63 0 (omega (arith, long)) ∙ ap (λ (n : ℕ). n ∷ drop 64 b) q ∙ ap (λ (xs : List ℕ). 0 ∷ xs) (drop_all 64 b (omega (arith, long))))

-- the bytes of a header that was read
pub header_spelled : (b : List ℕ) (seq first : ℕ) → IsBytes b → length b ≡ 64 → seq ∷ first ∷ [] ≡ u64s_at 2 1 b → slice_index b 62 ≡ 0 → slice_index b 63 ≡ 0
    → b ≡ slice_index b 0 ∷ (le_u64s (seq ∷ first ∷ []) ++ take 45 (drop 17 b) ++ 0 ∷ 0 ∷ [])
header_spelled b seq first are_bytes long are p q =
    let part : List ℕ = take 45 (drop 17 b) in
    drop-cons b 0 0 (omega (arith, long))
    ∙ ap (λ (xs : List ℕ). slice_index b 0 ∷ xs)
    (spelled_u64s 2 1 b are_bytes (omega (arith, long))
    ∙ ap (λ (xs : List ℕ). le_u64s (u64s_at 2 1 b) ++ xs) (cut 17 45 b ∙ ap (λ (xs : List ℕ). part ++ xs) (two_zeros b long p q))
    ∙ sym (append_assoc (le_u64s (u64s_at 2 1 b)) part (0 ∷ 0 ∷ []))
    ∙ ap (λ (ns : List ℕ). (le_u64s ns ++ part) ++ 0 ∷ 0 ∷ []) (sym are))
