-- One file is that of one content.
use Rattle.std.proofs.Common.{◌≡◌, ◌<◌, ◌≤◌, ◌^◌, ◌+◌, ℕ, List, [], ◌∷◌, ◌++◌, length, take, drop, codes, refl, ap, ◌∙◌, sym, subst, append_assoc, append-nil, arith}
use Rattle.sha2.specs.Sha256.{sha256}
use Rattle.vdr_bytes.specs.Numbers.{le_u32, le_u64, u32_at}
use Rattle.vdr_bytes.proofs.NumberLemmas.{drop-front, length-le_u32, read_u32, take-front}
use Rattle.vdr_terms.specs.Legality.{IsRecord}
use Rattle.vdr_terms.specs.Records.{Record}
use Rattle.vdr_terms.specs.Sizes.{record_size}
use Rattle.vdr_entry.specs.Spelling.{record_bytes}
use Rattle.vdr_entry.proofs.ReadingLemmas.{one_record}
use Rattle.vdr_entry.proofs.SpellingLemmas.{length-record_bytes, record_short}
use Rattle.vdr_evidence.specs.Files.{Heading, counted, covered, end_mark, evidence_bytes, heading_bytes, part, record_part, record_parts}
use Rattle.vdr_evidence.specs.Laws.{AreRecords, HasLengths, OneContent}

-- Parts at the front of the same bytes are the same, and so is what stands behind them.
cut : (a b x y : List ℕ) → length a < 2 ^ 32 → length b < 2 ^ 32 → part a ++ x ≡ part b ++ y → (a ≡ b) × (x ≡ y)
unfolding part
cut a b x y short too e =
    let first = read_u32 0 (length a) (part b ++ y) (a ++ x) (sym e ∙ append_assoc (le_u32 (length a)) a x) short in
    let second = read_u32 0 (length b) (part b ++ y) (b ++ y) (append_assoc (le_u32 (length b)) b y) too in
    let lengths : length a ≡ length b = sym first.0 ∙ second.0 in
    let rests : a ++ x ≡ b ++ y = sym first.1 ∙ second.1 in (
      sym (take-front (length a) a x refl) ∙ ap (λ (l : List ℕ). take (length a) l) rests ∙ take-front (length a) b y (sym lengths),
      sym (drop-front (length a) a x refl) ∙ ap (λ (l : List ℕ). drop (length a) l) rests ∙ drop-front (length a) b y (sym lengths),
    )

-- ---- the records

record_length : (r : Record) → IsRecord r → length (record_bytes r) < 2 ^ 32
record_length r legal =
    let size = length-record_bytes r in
    let short = record_short r legal in
    omega (arith, size, short)

-- The end mark is no record's length.
no_record : {P : Type 0} (r : Record) (x y : List ℕ) → IsRecord r → le_u32 0 ++ x ≡ record_part r ++ y → P
unfolding part
no_record r x y legal e =
    let none = read_u32 0 0 (record_part r ++ y) x (sym e) (omega arith) in
    let some = read_u32 0 (length (record_bytes r)) (record_part r ++ y) (record_bytes r ++ y) (append_assoc (le_u32 (length (record_bytes r))) (record_bytes r) y) (record_length r legal) in
    let same : 0 ≡ length (record_bytes r) = sym none.0 ∙ some.0 in
    let size = length-record_bytes r in
    let no : ⊥ = omega (arith, same, size) in absurd no

records_one : (xs ys : List Record) (x y : List ℕ) → AreRecords xs → AreRecords ys → record_parts xs ++ (le_u32 0 ++ x) ≡ record_parts ys ++ (le_u32 0 ++ y) → xs ≡ ys
records_one [] [] x y are too e = refl
records_one [] (s ∷ ss) x y are too e = no_record s x (record_parts ss ++ (le_u32 0 ++ y)) too.0 (e ∙ append_assoc (record_part s) (record_parts ss) (le_u32 0 ++ y))
records_one (r ∷ rs) [] x y are too e = no_record r y (record_parts rs ++ (le_u32 0 ++ x)) are.0 (sym e ∙ append_assoc (record_part r) (record_parts rs) (le_u32 0 ++ x))
records_one (r ∷ rs) (s ∷ ss) x y are too e =
    let p = cut (record_bytes r) (record_bytes s) (record_parts rs ++ (le_u32 0 ++ x)) (record_parts ss ++ (le_u32 0 ++ y)) (record_length r are.0) (record_length s too.0)
    (sym (append_assoc (record_part r) (record_parts rs) (le_u32 0 ++ x)) ∙ e ∙ append_assoc (record_part s) (record_parts ss) (le_u32 0 ++ y)) in
    let first : r ≡ s = one_record (record_bytes s) [] [] r s (record { legal = are.0; spelled = sym p.0 ∙ sym (append-nil (record_bytes r)) }) (record { legal = too.0; spelled = sym (append-nil (record_bytes s)) }) in
    let others : rs ≡ ss = records_one rs ss x y are.1 too.1 p.1 in
    λ i. first i ∷ others i

-- ---- the heading

-- What stands behind the heading's parts, one in the other.
spread : (h : Heading) (rest : List ℕ) → heading_bytes h ++ rest
    ≡ codes "VDREVID1" ++ (part h.text ++ (part (h.medium ∷ []) ++ (part (le_u32 h.incident) ++ (part h.label ++ (part h.query ++ rest)))))
unfolding heading_bytes
spread h rest =
    let a = codes "VDREVID1" in
    let b = part h.text in
    let c = part (h.medium ∷ []) in
    let d = part (le_u32 h.incident) in
    let e = part h.label in
    let f = part h.query in
    append_assoc ((((a ++ b) ++ c) ++ d) ++ e) f rest
    ∙ append_assoc (((a ++ b) ++ c) ++ d) e (f ++ rest)
    ∙ append_assoc ((a ++ b) ++ c) d (e ++ (f ++ rest))
    ∙ append_assoc (a ++ b) c (d ++ (e ++ (f ++ rest)))
    ∙ append_assoc a b (c ++ (d ++ (e ++ (f ++ rest))))

magic_off : (x y : List ℕ) → codes "VDREVID1" ++ x ≡ codes "VDREVID1" ++ y → x ≡ y
magic_off x y e = ap (λ (l : List ℕ). drop 8 l) e

id_of : (a b : ℕ) → a < 2 ^ 32 → b < 2 ^ 32 → le_u32 a ≡ le_u32 b → a ≡ b
id_of a b small too e =
    let first = read_u32 0 a (le_u32 b ++ []) [] (ap (λ (l : List ℕ). l ++ []) (sym e)) small in
    let second = read_u32 0 b (le_u32 b ++ []) [] refl too in
    sym first.0 ∙ second.0

one_byte : (a b : ℕ) → a ∷ [] ≡ b ∷ [] → a ≡ b
one_byte a b e = cc

id_short : (n : ℕ) → length (le_u32 n) < 2 ^ 32
id_short n = let size = length-le_u32 n in omega (arith, size)

headings_one : (h k : Heading) (x y : List ℕ) → HasLengths h → HasLengths k → heading_bytes h ++ x ≡ heading_bytes k ++ y → (h ≡ k) × (x ≡ y)
headings_one h k x y short too e =
    let texts = cut h.text k.text _ _ short.text too.text (magic_off _ _ (sym (spread h x) ∙ e ∙ spread k y)) in
    let media = cut (h.medium ∷ []) (k.medium ∷ []) _ _ (omega arith) (omega arith) texts.1 in
    let ids = cut (le_u32 h.incident) (le_u32 k.incident) _ _ (id_short h.incident) (id_short k.incident) media.1 in
    let labels = cut h.label k.label _ _ short.label too.label ids.1 in
    let queries = cut h.query k.query x y short.query too.query labels.1 in
    let medium = one_byte h.medium k.medium media.0 in
    let incident = id_of h.incident k.incident short.incident too.incident ids.0 in (
      λ i. record { text = texts.0 i; medium = medium i; incident = incident i; label = labels.0 i; query = queries.0 i },
      queries.1,
    )

-- The file, with what stands behind the heading in one.
behind_heading : (heading : List ℕ) (xs : List Record)
    → evidence_bytes heading xs ≡ heading ++ (record_parts xs ++ (le_u32 0 ++ (le_u64 (counted xs) ++ sha256 (covered heading xs))))
behind_heading heading xs =
    let s = sha256 (covered heading xs) in
    append_assoc (heading ++ record_parts xs) (end_mark xs) s
    ∙ append_assoc heading (record_parts xs) (end_mark xs ++ s)
    ∙ ap (λ (l : List ℕ). heading ++ (record_parts xs ++ l)) (append_assoc (le_u32 0) (le_u64 (counted xs)) s)

pub one_content : OneContent
one_content h k xs ys short too are all e =
    let parts = headings_one h k _ _ short too (sym (behind_heading (heading_bytes h) xs) ∙ e ∙ behind_heading (heading_bytes k) ys) in
    (parts.0, records_one xs ys _ _ are all parts.1)
