-- What follows a recorder's records follows the last of them.
use Rattle.std.proofs.Common.{ℕ, suc, List, [], ◌∷◌, ◌++◌, Option, Some, None, ◌≡◌, sym, ap, subst, arith, append-nil}
use Rattle.vdr_terms.specs.Records.{Record, last, last_after}
use Rattle.vdr_terms.specs.Order.{NeverFalls, RunOn}
use Rattle.vdr_core.specs.Runs.{RunStart, Stamp, last_tick}
use Rattle.vdr_core.specs.Histories.{Continues, stamp_of}
use Rattle.vdr_core.proofs.Growing.{continues_run}
use Rattle.vdr_core.proofs.Ticking.{lower}
use Rattle.vdr_durability.specs.Regular.{FollowOn}
use Rattle.vdr_durability.proofs.Lists.{last_behind}
use Rattle.vdr_durability.specs.Media.{EndsBefore}

-- What a recorder makes from its beginning on follows what was there.
follow_first : (start : RunStart) (o : Option Record) (rs : List Record) → EndsBefore start o → Continues start.channels start.place rs → NeverFalls (last_tick start.last) rs → FollowOn o rs
follow_first start None rs ends places ticks = (start.place, continues_run start.channels start.place rs places, lower 0 (last_tick start.last) rs (omega arith) ticks)
follow_first start (Some r) rs ends places ticks = (
  subst (λ (n : ℕ). RunOn n rs) (sym ends.0) (continues_run start.channels start.place rs places),
  subst (λ (s : Option Stamp). NeverFalls (last_tick s) rs) ends.1 ticks,
)

-- the last of these, and of what was before them
abbrev end_after : Option Record → List Record → Option Record
end_after o [] = o
end_after o (x ∷ xs) = Some (last_after x xs)

past_one : (o : Option Record) (x : Record) (rs : List Record) → FollowOn o (x ∷ rs) → FollowOn (Some x) rs
past_one None x rs (place, (e, run), (l, falls)) = (subst (λ (n : ℕ). RunOn (suc n) rs) (sym e) run, falls)
past_one (Some newest) x rs ((e, run), (l, falls)) = (subst (λ (n : ℕ). RunOn (suc n) rs) (sym e) run, falls)

past_all : (o : Option Record) (xs ys : List Record) → FollowOn o (xs ++ ys) → FollowOn (end_after o xs) ys
past_all o [] ys h = h
past_all o (x ∷ []) ys h = past_one o x ys h
past_all o (x ∷ y ∷ xs) ys h = past_all (Some x) (y ∷ xs) ys (past_one o x (y ∷ (xs ++ ys)) h)

end_of_all : (there xs : List Record) → last (there ++ xs) ≡ end_after (last there) xs
end_of_all there [] = ap last (append-nil there)
end_of_all there (x ∷ xs) = last_behind there x xs

-- What comes after more of it follows the last record of all.
pub follow_last : (start : RunStart) (there xs ys : List Record) → EndsBefore start (last there) → Continues start.channels start.place (xs ++ ys) → NeverFalls (last_tick start.last) (xs ++ ys)
    → FollowOn (last (there ++ xs)) ys
follow_last start there xs ys ends places ticks = subst (λ (o : Option Record). FollowOn o ys) (sym (end_of_all there xs)) (past_all (last there) xs ys (follow_first start (last there) (xs ++ ys) ends places ticks))

falls_from : (x : Record) (xs ys : List Record) → NeverFalls x.tick (xs ++ ys) → NeverFalls x.tick xs × NeverFalls (last_after x xs).tick ys
falls_from x [] ys h = (tt, h)
falls_from x (y ∷ xs) ys h = let k = falls_from y xs ys h.1 in ((h.0, k.0), k.1)

-- ticks that do not fall, cut in two
pub falls_parts : (stamp : Option Stamp) (xs ys : List Record) → NeverFalls (last_tick stamp) (xs ++ ys) → NeverFalls (last_tick stamp) xs × NeverFalls (last_tick (stamp_of (last xs) stamp)) ys
falls_parts stamp [] ys h = (tt, h)
falls_parts stamp (x ∷ xs) ys h = let k = falls_from x xs ys h.1 in ((h.0, k.0), k.1)
