-- The fronts of a medium's slots, one more at a time.
use Rattle.std.proofs.Common.{◌≡◌, ◌<◌, ◌≤◌, ◌+◌, ℕ, arith, List, [], ◌∷◌, All, subst, sym, add-one}
use Rattle.std.proofs.lemmas.List.Elements.{All-append, All-cons, All-nil}
use Rattle.vdr_rescue.specs.declared.front.Front.{Front}
use Rattle.vdr_rescue.specs.declared.front.Front.TheVariants.{Closed, Torn, Headless, Segment}
use Rattle.vdr_rescue.specs.declared.fronts.Head.{Head}
use Rattle.vdr_rescue.specs.Fronts.{AreFronts, FrontsState, ShowsFront, with_front}
use Rattle.vdr_directory.specs.Opening.{front_bytes}

pub fronts_more : (segment n : ℕ) (bytes : List ℕ) (f g : FrontsState) (front : Front) → AreFronts segment bytes n g → ShowsFront (front_bytes segment n bytes) front → f ≡ with_front n front g
    → AreFronts segment bytes (n + 1) f
fronts_more segment n bytes f g front are shows is = subst (λ (k : ℕ). AreFronts segment bytes k f) (sym (add-one n)) (front, shows, g, are, is)

pub heads_more : (n most : ℕ) (front : Front) (g : FrontsState) → n < most → All (λ h. h.slot < most) g.heads → All (λ h. h.slot < most) (with_front n front g).heads
heads_more n most Closed g lt h = h
heads_more n most Torn g lt h = h
heads_more n most Headless g lt h = h
heads_more n most (Segment seq first) g lt h =
    All-append (λ (x : Head). x.slot < most) g.heads (record { slot = n; seq = seq; first = first } ∷ []) h
    (All-cons (λ (x : Head). x.slot < most) (record { slot = n; seq = seq; first = first }) [] lt (All-nil (λ (x : Head). x.slot < most)))

pub closed_more : (n : ℕ) (front : Front) (g : FrontsState) → g.closed ≤ n → (with_front n front g).closed ≤ n + 1
closed_more n Closed g le = omega (arith, le)
closed_more n Torn g le = omega (arith, le)
closed_more n Headless g le = omega (arith, le)
closed_more n (Segment seq first) g le = omega (arith, le)
