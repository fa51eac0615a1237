-- A batch that follows the last record leaves all in order, and ends no earlier.
use Rattle.std.proofs.Common.{suc, ◌≤◌, List, [], ◌∷◌, ◌++◌, Contains, Option, Some, refl, sym, ap, subst, append-nil, arith}
use Rattle.std.proofs.lemmas.List.Elements.{All-contains}
use Rattle.vdr_terms.specs.Records.{Record, last_after, last}
use Rattle.vdr_terms.specs.Order.{AreInOrder, NeverFalls, RunOn}
use Rattle.vdr_durability.specs.Retention.{IsNoEarlier}
use Rattle.vdr_durability.specs.Regular.{FollowOn}
use Rattle.vdr_durability.proofs.Lists.{last_behind, last_contained}
use Rattle.vdr_durability.proofs.Ordered.{IsBefore, above, append_in_order, no_later, run_on_in_order}

-- what follows is behind the last one
behind : (newest : Record) (rs : List Record) (r : Record) → RunOn (suc newest.place) rs → NeverFalls newest.tick rs → Contains rs r → IsBefore newest r
behind newest rs r run rises m =
    let c = All-contains (λ r. (suc newest.place ≤ r.place) × (newest.tick ≤ r.tick)) rs r (above (suc newest.place) newest.tick rs run rises) m in
    let a = c.0 in (omega (arith, a), c.1)

-- The medium's order goes on.
pub follow_in_order : (held batch : List Record) → AreInOrder held → FollowOn (last held) batch → AreInOrder (held ++ batch)
follow_in_order [] batch order (place, run, rises) = run_on_in_order place 0 batch run rises
follow_in_order (x ∷ xs) batch order (run, rises) =
    append_in_order (x ∷ xs) batch order (run_on_in_order (suc (last_after x xs).place) (last_after x xs).tick batch run rises) (λ y z m n.
    let p = no_later x xs y order m in
    let q = behind (last_after x xs) batch z run rises n in
    let a = p.0 in let b = p.1 in let c = q.0 in let d = q.1 in
    (omega (arith, a, c), omega (arith, b, d)))

pub follow_no_earlier : (all batch : List Record) → FollowOn (last all) batch → IsNoEarlier (last all) (last (all ++ batch))
follow_no_earlier [] batch follow = tt
follow_no_earlier (x ∷ xs) [] follow = subst (λ (o : Option Record). IsNoEarlier (Some (last_after x xs)) o) (sym (ap last (append-nil (x ∷ xs)))) (omega arith)
follow_no_earlier (x ∷ xs) (y ∷ ys) (run, rises) =
    subst (λ (o : Option Record). IsNoEarlier (Some (last_after x xs)) o) (sym (last_behind (x ∷ xs) y ys))
    (behind (last_after x xs) (y ∷ ys) (last_after y ys) run rises (last_contained (y ∷ ys) (last_after y ys) refl)).1
