-- A history without a pending event is one that has not failed.
use Rattle.std.proofs.Common.{ℕ, suc, ◌≤◌, List, [], ◌∷◌, length, false, Option, Some, None, ◌≡◌, ◌≢◌, ◌↔◌, refl, ap, ◌∙◌, arith}
use Rattle.std.proofs.lemmas.Bool.{le-ltb, ltb-false}
use Rattle.std.proofs.lemmas.List.Elements.{All-nil, All-cons, All-head, All-tail}
use Rattle.vdr_core.specs.Histories.{Event, done, done_from}
use Rattle.vdr_core.specs.RunStates.{has_failed}
use Rattle.vdr_durability.specs.Keeping.{IsWhole}
use Rattle.vdr_durability.proofs.Pending.{Has}

from_within : (o : Option ℕ) (e : Event) (later : List Event) (n : ℕ) → length later ≤ n → length (done_from o e later) ≤ suc n
from_within None e later n h = omega arith
from_within (Some m) e later n h = omega (arith, h)

done_within : (events : List Event) → length (done events) ≤ length events
done_within [] = omega arith
done_within (e ∷ es) = from_within e.moment e (done es) (length es) (done_within es)

from_whole : (o : Option ℕ) (e : Event) (later : List Event) → o ≢ None → length (done_from o e later) ≡ suc (length later)
from_whole None e later some = absurd (some refl)
from_whole (Some m) e later some = refl

done_whole : (events : List Event) → IsWhole events → length (done events) ≡ length events
done_whole [] h = refl
done_whole (e ∷ es) h = from_whole e.moment e (done es) (All-head Has e es h) ∙ ap suc (done_whole es (All-tail Has e es h))

whole_from : (o : Option ℕ) (e : Event) (later : List Event) (n : ℕ) → length later ≤ n → suc n ≤ length (done_from o e later) → (o ≢ None) × (n ≤ length later)
whole_from None e later n h k = absurd (omega (arith, k))
whole_from (Some m) e later n h k = (clash m, omega (arith, k))
  where
    clash : (m : ℕ) → Some m ≡ None → ⊥
    clash m e = cc

whole_where_done : (events : List Event) → length events ≤ length (done events) → IsWhole events
whole_where_done [] h = All-nil Has
whole_where_done (e ∷ es) h =
    let k = whole_from e.moment e (done es) (length es) (done_within es) h in
    All-cons Has e es k.0 (whole_where_done es k.1)

pub whole_has_not_failed : (events : List Event) → IsWhole events ↔ (has_failed events ≡ false)
whole_has_not_failed events = (
  (λ h. let e = done_whole events h in le-ltb (length (done events)) (length events) (omega (arith, e))),
  (λ e. whole_where_done events (ltb-false (length (done events)) (length events) e)),
)
