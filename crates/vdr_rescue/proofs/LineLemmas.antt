-- The lines of findings, one more at a time.
use Rattle.std.proofs.Common.{◌≡◌, ◌<◌, ◌+◌, ℕ, zero, suc, List, [], ◌∷◌, ◌++◌, length, take, drop, get_or, refl, sym, ap, ◌∙◌, arith, append_assoc, append-nil, add-one, Option}
use Rattle.std.specs.Io.KnownBytes.{Appends}
use Rattle.vdr_outside.specs.Writes.{AppendsFront}
use Rattle.vdr_rescue.specs.declared.findings.Finding.{Finding}
use Rattle.vdr_rescue.specs.Findings.{findings_text, line_of}

pub text_split : (xs : List Finding) (i : ℕ) (d : Finding) → i < length xs → findings_text xs ≡ findings_text (take i xs) ++ (line_of (get_or xs i d) ++ findings_text (drop (suc i) xs))
text_split [] i d lt = absurd (omega (arith, lt))
text_split (x ∷ xs) zero d lt = refl
text_split (x ∷ xs) (suc i) d lt =
    ap (λ (l : List ℕ). line_of x ++ l) (text_split xs i d (omega (arith, lt)))
    ∙ sym (append_assoc (line_of x) (findings_text (take i xs)) (line_of (get_or xs i d) ++ findings_text (drop (suc i) xs)))

text_next : (xs : List Finding) (i : ℕ) (d : Finding) → i < length xs → findings_text (take (suc i) xs) ≡ findings_text (take i xs) ++ line_of (get_or xs i d)
text_next [] i d lt = absurd (omega (arith, lt))
text_next (x ∷ xs) zero d lt = append-nil (line_of x)
text_next (x ∷ xs) (suc i) d lt =
    ap (λ (l : List ℕ). line_of x ++ l) (text_next xs i d (omega (arith, lt))) ∙ sym (append_assoc (line_of x) (findings_text (take i xs)) (line_of (get_or xs i d)))

pub text_more : (xs : List Finding) (i : ℕ) (d : Finding) → i < length xs → findings_text (take (i + 1) xs) ≡ findings_text (take i xs) ++ line_of (get_or xs i d)
text_more xs i d lt = ap (λ (n : ℕ). findings_text (take n xs)) (add-one i) ∙ text_next xs i d lt

pub all_front : (was now : Option (List ℕ)) (text : List ℕ) → Appends was now text → AppendsFront was now text
all_front was now text printed = (text, [], sym (append-nil text), printed)
