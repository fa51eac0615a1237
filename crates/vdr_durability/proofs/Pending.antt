-- What follows events of which none is pending, and what follows a pending one.
use Rattle.std.proofs.Common.{ℕ, List, [], ◌∷◌, ◌++◌, Some, None, ◌≡◌, ◌≢◌, sym, ◌∙◌}
use Rattle.std.proofs.lemmas.List.Elements.{All-nil, All-cons, All-head, All-tail}
use Rattle.vdr_core.specs.Histories.{Event, EndsBy, PendingEnds}
use Rattle.vdr_core.specs.Histories.Act.{Look}
use Rattle.vdr_core.proofs.Growing.{ends_whole, ends_look}
use Rattle.vdr_durability.specs.Keeping.{IsWhole}

abbrev pub Has : Event → Type 0
Has e = e.moment ≢ None

-- One more after events that all have a moment: it has one, or it is pending and no look.
pub pending_with : (events : List Event) (e : Event) → IsWhole events → EndsBy e.moment e.act [] (Unit {0}) → PendingEnds (events ++ e ∷ [])
pending_with [] e whole h = h
pending_with (x ∷ xs) e whole h = ends_whole x.moment x.act (xs ++ e ∷ []) (PendingEnds (xs ++ e ∷ [])) (All-head Has x xs whole) (pending_with xs e (All-tail Has x xs whole) h)

-- One more look, where some event has no moment.
pub pending_looks : (events : List Event) (e : Event) → PendingEnds events → (IsWhole events → ⊥) → e.act ≡ Look → e.moment ≡ None → PendingEnds (events ++ e ∷ [])
pending_looks [] e h broken looks none = absurd (broken (All-nil Has))
pending_looks (x ∷ xs) e h broken looks none =
    ends_look x.moment x.act xs e (PendingEnds xs) (PendingEnds (xs ++ e ∷ []))
    (λ m has k. pending_looks xs e k (λ whole. broken (All-cons Has x xs (λ lost. clash m (sym has ∙ lost)) whole)) looks none)
    looks none h
  where
    clash : (m : ℕ) → Some m ≡ None → ⊥
    clash m e = cc
