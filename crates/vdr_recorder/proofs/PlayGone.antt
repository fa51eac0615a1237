-- Places that are still to be read and stand on the medium no more.
use Rattle.std.proofs.Common.{◌≡◌, ◌≤◌, ◌<◌, ◌+◌, ◌-◌, ◌⊎◌, inl, inr, ⊎_elim, ℕ, zero, suc, List, [], ◌∷◌, Contains, Any, true, subst, arith}
use Rattle.std.proofs.lemmas.Bool.{and_from, cases_lt, le-leb}
use Rattle.std.proofs.lemmas.List.Elements.{All-contains}
use Rattle.vdr_terms.proofs.Somewhere.{any_cases, any_here, any_none, any_there}
use Rattle.vdr_terms.specs.Records.{Record}
use Rattle.vdr_terms.specs.Windows.{window}
use Rattle.vdr_core.specs.Histories.{Event, Opening, all_records, incidents}
use Rattle.vdr_durability.proofs.Lists.{contains_filter}
use Rattle.vdr_durability.specs.Playback.{medium_of}
use Rattle.vdr_durability.specs.Retention.{HoldsPlaces, Pin, at_places, within}
use Rattle.vdr_durability.specs.Shown.{pins_on}
use Rattle.vdr_outside.specs.Disk.{Disk}
use Rattle.vdr_directory.specs.Lookup.{HoldAll}
use Rattle.vdr_directory.specs.Order.{HasPlace, next_place}
use Rattle.vdr_directory.specs.Sequence.{Placed, first_of}
use Rattle.vdr_directory.specs.Sequence as directory
use Rattle.vdr_entry.specs.declared.query.Query.{Query as Asked}
use Rattle.vdr_entry.specs.Queries.{asked, asked_medium}
use Rattle.vdr_ring.proofs.Pinned.{placed_at}
use Rattle.vdr_vault.proofs.Coming.{holds_on}
use Rattle.vdr_vault.specs.Vaults.{IsReadable, VaultState}
use Rattle.vdr_vault.specs.declared.stretch.Stretch.{Stretch}
use Rattle.vdr_recorder.specs.Resuming.{IsGone}

-- One place stands there or not.

decided_in : (place : ℕ) (p : Placed) → HasPlace place p ⊎ (HasPlace place p → ⊥)
decided_in place p = ⊎_elim
    (λ (low : place < first_of p). inr (λ h. let from = h.from in absurd (omega (arith, from, low))))
    (λ (from : first_of p ≤ place). ⊎_elim
    (λ (below : place < next_place p). inl (record { from = from; below = below }))
    (λ (high : next_place p ≤ place). inr (λ h. let below = h.below in absurd (omega (arith, below, high))))
    (cases_lt place (next_place p)))
    (cases_lt place (first_of p))

decided : (place : ℕ) (placed : List Placed) → Any (HasPlace place) placed ⊎ (Any (HasPlace place) placed → ⊥)
decided place [] = inr (any_none (HasPlace place))
decided place (p ∷ ps) = ⊎_elim
    (λ (here : HasPlace place p). inl (any_here (HasPlace place) p ps here))
    (λ (none : HasPlace place p → ⊥). ⊎_elim
    (λ (there : Any (HasPlace place) ps). inl (any_there (HasPlace place) p ps there))
    (λ (nowhere : Any (HasPlace place) ps → ⊥). inr (λ h. ⊎_elim none nowhere (any_cases (HasPlace place) p ps h)))
    (decided place ps))
    (decided_in place p)

-- So do all of these places, or one of them doesn't.

record Lacks (a b : ℕ) (placed : List Placed) : Type 0 where
  place : ℕ
  from : a ≤ place
  below : place < b
  nowhere : Any (HasPlace place) placed → ⊥

searched : (placed : List Placed) (a n : ℕ) → ((place : ℕ) → a ≤ place → place < a + n → Any (HasPlace place) placed) ⊎ Lacks a (a + n) placed
searched placed a zero = inl (λ place low high. absurd (omega (arith, low, high)))
searched placed a (suc n) = ⊎_elim
    (λ (all : (place : ℕ) → a ≤ place → place < a + n → Any (HasPlace place) placed). ⊎_elim
    (λ (here : Any (HasPlace (a + n)) placed). inl (λ place low high. ⊎_elim
    (λ (less : place < a + n). all place low less)
    (λ (up : a + n ≤ place). let same : a + n ≡ place = omega (arith, up, high) in subst (λ (k : ℕ). Any (HasPlace k) placed) same here)
    (cases_lt place (a + n))))
    (λ (none : Any (HasPlace (a + n)) placed → ⊥). inr (record { place = a + n; from = omega arith; below = omega arith; nowhere = none }))
    (decided (a + n) placed))
    (λ (some : Lacks a (a + n) placed). let below = some.below in inr (record { place = some.place; from = some.from; below = omega (arith, below); nowhere = some.nowhere }))
    (searched placed a n)

held_or_lacks : (a b : ℕ) (placed : List Placed) → HoldAll a b placed ⊎ Lacks a (suc b) placed
held_or_lacks a b placed = ⊎_elim
    (λ (all : (place : ℕ) → a ≤ place → place < a + (suc b - a) → Any (HasPlace place) placed). inl (λ place low high. all place low (omega (arith, low, high))))
    (λ (some : Lacks a (a + (suc b - a)) placed). let from = some.from in let below = some.below in
    inr (record { place = some.place; from = from; below = omega (arith, from, below); nowhere = some.nowhere }))
    (searched placed a (suc b - a))

pub all_held : (a b : ℕ) (placed : List Placed) → ((HoldAll a b placed → ⊥) → ⊥) → HoldAll a b placed
all_held a b placed not_lost = ⊎_elim
    (λ (all : HoldAll a b placed). all)
    (λ (some : Lacks a (suc b) placed). let below = some.below in absurd (not_lost (λ all. some.nowhere (all some.place some.from (omega (arith, below))))))
    (held_or_lacks a b placed)

-- What a medium need not have.
module _ {tells tells_images : Type 0} (opening : Opening) (events : List Event) (vault : VaultState) (placed : ℕ → List Placed) (disk : Disk tells tells_images)
    (readable : IsReadable opening events vault placed disk) (query : Asked) where
  abbrev medium : ℕ
  medium = medium_of (asked_medium query.medium)

  pub is_gone : (s : Stretch) → (HoldAll s.next s.last (placed medium) → ⊥) → IsGone opening events (asked query) s
  is_gone s lost = ⊎_elim
      (λ (all : HoldAll s.next s.last (placed medium)). absurd (lost all))
      (λ (some : Lacks s.next (suc s.last) (placed medium)).
      let at = holds_on opening events vault placed disk readable query.medium in
      let below = some.below in
      let held : (r : Record) → r.place ≡ some.place → Contains (directory.all_records (placed medium)) r → ⊥ =
      λ r same there. some.nowhere (subst (λ (k : ℕ). Any (HasPlace k) (placed medium)) same (placed_at _ (placed medium) r at.reads.order there)) in
      record {
        place = some.place;
        from = some.from;
        upto = omega (arith, below);
        passed = λ r same recent.
            held r same (All-contains (Contains (directory.all_records (placed medium))) (window (opening.settings.seconds medium) (all_records opening medium events)) r at.retains.window.recent recent);
        unpinned = λ pin there low high r same among.
            let inside : within pin.a pin.b r ≡ true = and_from _ _ (le-leb pin.a r.place (omega (arith, same, low))) (le-leb r.place pin.b (omega (arith, same, high))) in
            let places = All-contains (λ (pin : Pin). HoldsPlaces (all_records opening medium events) (directory.all_records (placed medium)) pin.a pin.b) (pins_on medium (incidents opening events)) pin at.retains.places there in
            held r same (All-contains (Contains (directory.all_records (placed medium))) (at_places pin.a pin.b (all_records opening medium events)) r places
            (contains_filter (within pin.a pin.b) (all_records opening medium events) r among inside));
      })
      (held_or_lacks s.next s.last (placed medium))
