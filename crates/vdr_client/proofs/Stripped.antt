-- What stands behind a front of a line.
use Rattle.std.proofs.Common.{◌≡◌, ◌+◌, ℕ, true, false, List, ◌++◌, length, take, drop, Option, None, Some, IfSome, IfNone, Bor, ap, sym, ◌∙◌}
use Rattle.std.specs.Cmp.Lexicographic.{pointwise}
use Rattle.std.specs.Option.{MatchOption}
use Rattle.std.specs.Prelude.{nat_eq}
use Rattle.std.proofs.lemmas.Bool.{true≢false}
use Rattle.std.proofs.lemmas.List.{take-append-drop}
use Rattle.std.proofs.lemmas.Slice.Eq.{bytes_eq-Decides}
use Rattle.std.proofs.Math.Seq.{take-append_seam}

-- What the call tells.
abbrev pub Stripped : (front line : List ℕ) → Option (Bor (List ℕ)) → Type 0
Stripped front line r =
    MatchOption r (pointwise nat_eq (take (length front) line) front ≡ false) (λ x. (pointwise nat_eq (take (length front) line) front ≡ true) × (x.now ≡ drop (length front) line) × (length x.now + length front ≡ length line))

pub found : (front line : List ℕ) (r : Option (Bor (List ℕ))) → Stripped front line r → IfSome r (λ rest. line ≡ front ++ rest.now)
found front line None told = tt
found front line (Some x) told =
    sym (take-append-drop (length front) line) ∙ ap (λ (l : List ℕ). l ++ drop (length front) line) ((bytes_eq-Decides (take (length front) line) front).0 told.0) ∙ ap (λ (l : List ℕ). front ++ l) (sym told.1)

pub none : (front line : List ℕ) (r : Option (Bor (List ℕ))) → Stripped front line r → IfNone r ((rest : List ℕ) → line ≡ front ++ rest → ⊥)
none front line None told = λ rest e.
    true≢false (sym ((bytes_eq-Decides (take (length front) line) front).1 (ap (λ (l : List ℕ). take (length front) l) e ∙ take-append_seam front rest)) ∙ told)
none front line (Some x) told = tt
