-- What is written of records, one after another.
use Rattle.std.proofs.Common.{◌≡◌, ◌<◌, ◌^◌, ◌+◌, ℕ, Bool, true, false, List, [], ◌∷◌, ◌++◌, length, take, drop, refl, ap, ◌∙◌, sym, subst, append_assoc, append-nil, Result, Ok, Err, OnOk, OnErr}
use Rattle.std.specs.List.{flat_map, fold}
use Rattle.std.proofs.lemmas.Grind.{flat_map-append, fold-append}
use Rattle.std.proofs.lemmas.List.{take_at}
use Rattle.sha2.specs.Sha256.{sha256}
use Rattle.vdr_bytes.specs.Numbers.{Puts, le_u32}
use Rattle.vdr_terms.specs.Records.{Record}
use Rattle.vdr_terms.specs.Sizes.{record_size}
use Rattle.vdr_entry.specs.Spelling.{record_bytes}
use Rattle.vdr_entry.proofs.SpellingLemmas.{length-record_bytes}
use Rattle.vdr_visit.specs.Prints.{lines_behind, whole_text}
use Rattle.vdr_evidence.specs.Files.{closing, counted, covered, end_mark, evidence_bytes, heading_at, last_lines, line_at, one_more, part, record_part, record_parts}
use Rattle.vdr_evidence.specs.Writing.{is_some_record}
use Rattle.vdr_evidence.specs.Laws.{EvidenceIsWritten}

pub on_ok : {T E P Q : Type 0} (r : Result T E) → (P → Q) → OnOk r P → OnOk r Q
on_ok (Ok x) f p = f p
on_ok (Err e) f p = tt

-- ---- the part of a record

-- the bytes of a record at the front of a buffer
front_is : (r : Record) (old new : List ℕ) (size : ℕ) → Puts old new 0 (record_bytes r) → size ≡ record_size r → take size new ≡ record_bytes r
front_is r old new size puts is =
    ap (λ (l : List ℕ). take size l) puts.is ∙ take_at (record_bytes r) (drop (0 + length (record_bytes r)) old) size (length-record_bytes r ∙ sym is)

pub part_is : (r : Record) (old new : List ℕ) (size : ℕ) → Puts old new 0 (record_bytes r) → size ≡ record_size r → le_u32 size ++ take size new ≡ record_part r
unfolding part
part_is r old new size puts is =
    ap (λ (n : ℕ). le_u32 n ++ take size new) (is ∙ sym (length-record_bytes r)) ∙ ap (λ (l : List ℕ). le_u32 (length (record_bytes r)) ++ l) (front_is r old new size puts is)

-- ---- one record more

pub parts_more : (heading : List ℕ) (seen : List Record) (r : Record) → (heading ++ record_parts seen) ++ record_part r ≡ heading ++ record_parts (seen ++ r ∷ [])
parts_more heading seen r =
    append_assoc heading (record_parts seen) (record_part r)
    ∙ ap (λ (l : List ℕ). heading ++ l)
    (sym (flat_map-append record_part seen (r ∷ []) ∙ ap (λ (l : List ℕ). record_parts seen ++ l) (append-nil (record_part r))))

pub count_more : (seen : List Record) (r : Record) → one_more (counted seen) r ≡ counted (seen ++ r ∷ [])
count_more seen r = sym (fold-append one_more 0 seen (r ∷ []))

pub some_more : (seen : List Record) (r : Record) → is_some_record (seen ++ r ∷ []) ≡ true
some_more [] r = refl
some_more (x ∷ xs) r = refl

-- The heading is written once.
pub left_begun : (heading : List ℕ) (seen : List Record) → is_some_record seen ≡ true → heading_at heading seen ≡ []
left_begun heading [] is = let no : ⊥ = cc in absurd no
left_begun heading (x ∷ xs) is = refl

pub left_new : (heading : List ℕ) (seen : List Record) → is_some_record seen ≡ false → heading_at heading seen ≡ heading
left_new heading [] is = refl
left_new heading (x ∷ xs) is = let no : ⊥ = cc in absurd no

-- ---- all of them

behind : (heading : List ℕ) (x : Record) (xs rest : List Record) → lines_behind (line_at heading) (x ∷ xs) rest ≡ record_parts rest
behind heading x xs [] = refl
behind heading x xs (r ∷ rs) = ap (λ (l : List ℕ). record_part r ++ l) (behind heading x (xs ++ r ∷ []) rs)

pub evidence_is_written : EvidenceIsWritten
evidence_is_written heading [] =
    let e = end_mark [] in
    let s = sha256 (covered heading []) in
    sym (append_assoc heading e s) ∙ ap (λ (l : List ℕ). (l ++ e) ++ s) (sym (append-nil heading))
evidence_is_written heading (r ∷ rs) =
    let e = end_mark (r ∷ rs) in
    let s = sha256 (covered heading (r ∷ rs)) in
    let p = record_part r in
    let parts = record_parts rs in
    ap (λ (l : List ℕ). ((heading ++ p) ++ l) ++ (e ++ s)) (behind heading r [] rs)
    ∙ sym (append_assoc ((heading ++ p) ++ parts) e s)
    ∙ ap (λ (l : List ℕ). (l ++ e) ++ s) (append_assoc heading p parts)
