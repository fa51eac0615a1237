-- Slots and ids.
use Rattle.std.proofs.Common.{◌≡◌, ℕ, suc, ◌+◌, ◌<◌, Bool, true, false, cond, List, [], ◌∷◌, length, set, slice_get, Option, None, Some, refl, sym, ◌∙◌, ap, subst, arith}
use Rattle.std.specs.Prelude.{is_none, position, nat_lt, option_and_then}
use Rattle.std.specs.List.{position_or_len}
use Rattle.std.proofs.lemmas.Bool.{ltb-true}
use Rattle.vdr_core.specs.Histories.{Incident, live, with_slot}

some_same : {A : Type 0} (x y : A) → ◌≡◌ {A = Option A} (Some x) (Some y) → x ≡ y
some_same x y e = cc

none_some : {A : Type 0} (x : A) → ◌≡◌ {A = Option A} None (Some x) → ⊥
none_some x e = let none : ⊥ = cc in none

at_first : (table : List (Option Incident)) → position_or_len is_none table < length table → slice_get table (position_or_len is_none table) ≡ Some None
at_first [] lt = absurd (omega (arith, lt))
at_first (None ∷ table) lt = refl
at_first (Some x ∷ table) lt =
    let one : position_or_len is_none (Some x ∷ table) ≡ suc (position_or_len is_none table) = omega arith in
    ap (λ (n : ℕ). slice_get (Some x ∷ table) n) one ∙ at_first table (omega (arith, lt, one))

-- the free slot of least index is free
pub free_held : (table : List (Option Incident)) (slot : ℕ) → position is_none table ≡ Some slot → slice_get table slot ≡ Some None
free_held table slot is = go (nat_lt (position_or_len is_none table) (length table)) refl is
  where
    go : (b : Bool) → nat_lt (position_or_len is_none table) (length table) ≡ b → cond b (Some (position_or_len is_none table)) None ≡ Some slot → slice_get table slot ≡ Some None
    go true lt e = subst (λ (n : ℕ). slice_get table n ≡ Some None) (some_same (position_or_len is_none table) slot e) (at_first table (ltb-true (position_or_len is_none table) (length table) lt))
    go false lt e = absurd (none_some slot e)

pub same_slot : (o : Option ℕ) (k slot : ℕ) → Some k ≡ o → o ≡ Some slot → k ≡ slot
same_slot o k slot e is = some_same k slot (e ∙ is)

live_held : (o : Option (Option Incident)) (x : Incident) → option_and_then (λ slot. slot) o ≡ Some x → o ≡ Some (Some x)
live_held None x e = absurd (none_some x e)
live_held (Some None) x e = absurd (none_some x e)
live_held (Some (Some y)) x e = ap (λ (o : Option Incident). Some o) e

-- A live save, by its id.
pub record HasId (table : List (Option Incident)) (id slot k : ℕ) (x : Incident) : Type 0 where
  pub same : k ≡ slot
  pub held : slice_get table k ≡ Some (Some x)
  pub without : with_slot table id None ≡ set table k None

pub by_id : (table : List (Option Incident)) (id slot k : ℕ) (x : Incident) → id ≡ suc slot → id ≡ k + 1 → live table id ≡ Some x → HasId table id slot k x
by_id table id slot k x is at lives =
    let next : id ≡ suc k = omega (arith, at) in
    record {
      same = omega (arith, is, at);
      held = live_held (slice_get table k) x (sym (ap (λ (n : ℕ). live table n) next) ∙ lives);
      without = ap (λ (n : ℕ). with_slot table n None) next;
    }
