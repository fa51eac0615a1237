-- The first segment that is not in its place.
use Rattle.std.proofs.Common.{◌≡◌, List, [], ◌∷◌, Option, Some, ⊎_elim, sym, ◌∙◌}
use Rattle.vdr_directory.specs.Sequence.{Placed}
use Rattle.vdr_directory.specs.Knowns.{IsInPlaceBy, AreInPlaceBy, BreaksBy}

pub breaks_never : (o : Option Placed) (ps : List Placed) (x : Placed) → AreInPlaceBy o ps → BreaksBy o ps x → ⊥
breaks_never o [] x h b = b
breaks_never o (p ∷ ps) x h b =
    ⊎_elim
    (λ (k : (x ≡ p) × (IsInPlaceBy o p ps → ⊥)). k.1 h.0)
    (λ (k : IsInPlaceBy o p ps × BreaksBy (Some p) ps x). breaks_never (Some p) ps x h.1 k.1)
    b

pub breaks_once : (o : Option Placed) (ps : List Placed) (x y : Placed) → BreaksBy o ps x → BreaksBy o ps y → x ≡ y
breaks_once o [] x y b c = absurd b
breaks_once o (p ∷ ps) x y b c =
    ⊎_elim
    (λ (k : (x ≡ p) × (IsInPlaceBy o p ps → ⊥)). ⊎_elim
    (λ (l : (y ≡ p) × (IsInPlaceBy o p ps → ⊥)). k.0 ∙ sym l.0)
    (λ (l : IsInPlaceBy o p ps × BreaksBy (Some p) ps y). absurd (k.1 l.0))
    c)
    (λ (k : IsInPlaceBy o p ps × BreaksBy (Some p) ps x). ⊎_elim
    (λ (l : (y ≡ p) × (IsInPlaceBy o p ps → ⊥)). absurd (l.1 k.0))
    (λ (l : IsInPlaceBy o p ps × BreaksBy (Some p) ps y). breaks_once (Some p) ps x y k.1 l.1)
    c)
    b
