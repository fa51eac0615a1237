-- What passes have seen.
use Rattle.std.proofs.Common.{◌≡◌, ◌++◌, ◌∷◌, List, [], sym, subst}
use mathlib.Core.List.{IsPrefix}
use Rattle.vdr_latch.proofs.Prefixes.{prefix_more}
use Rattle.vdr_desk.proofs.Exchanged.{prefix_join}

-- after one more turn
pub prefix_turn : {E : Type 0} (first seen history : List E) (e : E) (now : List E) → IsPrefix first seen → IsPrefix seen history → now ≡ history ++ e ∷ [] → IsPrefix first now
prefix_turn {E} first seen history e now p q is =
    subst (λ (xs : List E). IsPrefix first xs) (sym is) (prefix_more first history (e ∷ []) (prefix_join first seen history p q))
