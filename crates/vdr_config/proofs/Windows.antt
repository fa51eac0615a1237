-- Media that fit have the slots that they need, each of them.
use Rattle.std.proofs.Common.{◌≡◌, ◌<◌, ◌≤◌, ℕ, zero, suc, ◌+◌, Bool, true, false, List, [], ◌∷◌, length, get_or, Result, Ok, Err, refl, sym, subst, ◌∙◌, arith}
use Rattle.std.specs.Prelude.{nat_lt, ⊤, OnOk}
use Rattle.std.proofs.lemmas.Bool.{cond-true, cond-false, ltb-false}
use Rattle.vdr_terms.specs.Needs.{Sizes, Fits, needed_slots, slots_in}
use Rattle.vdr_config.specs.declared.media.TooSmall.{TooSmall}
use Rattle.vdr_config.specs.Sizes.{fitting_from, fitting, too_small}

-- The first of some media fits, and so do the rest.
first_fits : (sizes : Sizes) (m size : ℕ) (rest : List ℕ) (b : Bool) → nat_lt (slots_in sizes size) (needed_slots sizes m) ≡ b → fitting_from sizes m (size ∷ rest) ≡ Ok tt
    → Fits sizes m size × (fitting_from sizes (suc m) rest ≡ Ok tt)
first_fits sizes m size rest true small e =
    let clash : Err (too_small sizes m size) ≡ Ok tt = sym (cond-true (nat_lt (slots_in sizes size) (needed_slots sizes m)) (Err (too_small sizes m size)) (fitting_from sizes (suc m) rest) small) ∙ e in
    let none : ⊥ = cc in
    absurd none
first_fits sizes m size rest false roomy e = (
  ltb-false (slots_in sizes size) (needed_slots sizes m) roomy,
  sym (cond-false (nat_lt (slots_in sizes size) (needed_slots sizes m)) (Err (too_small sizes m size)) (fitting_from sizes (suc m) rest) roomy) ∙ e,
)

each_fits : (sizes : Sizes) (m : ℕ) (each : List ℕ) → fitting_from sizes m each ≡ Ok tt → (k : ℕ) → k < length each → Fits sizes (m + k) (get_or each k 0)
each_fits sizes m [] e k lt = absurd (omega (arith, lt))
each_fits sizes m (size ∷ rest) e zero lt =
    let here : m + 0 ≡ m = omega arith in
    subst (λ (n : ℕ). Fits sizes n size) (sym here) (first_fits sizes m size rest (nat_lt (slots_in sizes size) (needed_slots sizes m)) refl e).0
each_fits sizes m (size ∷ rest) e (suc k) lt =
    let there : m + suc k ≡ suc m + k = omega arith in
    let below : k < length rest = omega (arith, lt) in
    subst (λ (n : ℕ). Fits sizes n (get_or rest k 0)) (sym there)
    (each_fits sizes (suc m) rest (first_fits sizes m size rest (nat_lt (slots_in sizes size) (needed_slots sizes m)) refl e).1 k below)

pub each_of : (sizes : Sizes) (each : List ℕ) (r : Result ⊤ TooSmall) → r ≡ fitting sizes each → OnOk r ((m : ℕ) → m < length each → Fits sizes m (get_or each m 0))
each_of sizes each (Ok x) e = λ m lt.
    let here : 0 + m ≡ m = omega arith in
    subst (λ (n : ℕ). Fits sizes n (get_or each m 0)) here (each_fits sizes 0 each (sym e) m lt)
each_of sizes each (Err small) e = tt
