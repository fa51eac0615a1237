-- Items that were taken, of whose groups one more is held: each group's are a run, and configured.
use Rattle.std.proofs.Common.{◌≡◌, ◌<◌, ◌≤◌, ◌++◌, ◌==◌, ℕ, Bool, true, List, [], ◌∷◌, All, Contains, Option, None, get_or, ⊎_elim, refl, sym, subst}
use Rattle.std.proofs.lemmas.Bool.{cases_lt, eq-eqb}
use Rattle.std.proofs.lemmas.List.Elements.{Contains-append_left}
use Rattle.vdr_core.specs.Taken.{Captured, of_group}
use Rattle.vdr_intake.specs.Ends.{QueueId, Taking}
use Rattle.vdr_intake.specs.Items.{IsRun}
use Rattle.vdr_durability.proofs.Lists.{all_from, contains_filter, none_contained}
use Rattle.vdr_session.specs.Heads.{AreHeld}
use Rattle.vdr_session.specs.Lanes.{AreMet, held}
use Rattle.vdr_session.proofs.Marked.{met_known, met_run}

run_front : (g : ℕ) (before items more : List Captured) → IsRun g before (items ++ more) → IsRun g before items
run_front g before [] more r = tt
run_front g before (c ∷ items) more r = (r.0, r.1, run_front g (before ++ c ∷ []) items more r.2)

module _ (configured : ℕ → Bool) (queues : List (Option QueueId)) (takers : List (Option Taking)) (met : AreMet configured queues takers) (items : List Captured) (heads : List (Option Captured))
    (h : AreHeld items heads takers) where
  pub runs_held : (g : ℕ) → IsRun g [] (of_group g items)
  runs_held g = ⊎_elim
      (λ (small : g < 16). run_front g [] (of_group g items) (held (get_or heads g None))
      (subst (IsRun g []) (sym (h.each g small)) (met_run configured g (get_or queues g None) (get_or takers g None) (met g small))))
      (λ (high : 16 ≤ g). subst (IsRun g []) (sym (h.beyond g high)) tt)
      (cases_lt g 16)

  pub known_held : All (λ c. configured c.group ≡ true) items
  known_held = all_from (λ (c : Captured). configured c.group ≡ true) items (λ c there.
      let own : Contains (of_group c.group items) c = contains_filter (λ (x : Captured). x.group == c.group) items c there (eq-eqb c.group c.group refl) in
      ⊎_elim
      (λ (small : c.group < 16). met_known configured c.group (get_or queues c.group None) (get_or takers c.group None) (met c.group small) c
      (subst (λ (xs : List Captured). Contains xs c) (h.each c.group small) (Contains-append_left (of_group c.group items) (held (get_or heads c.group None)) c own)))
      (λ (high : 16 ≤ c.group). absurd (none_contained c (subst (λ (xs : List Captured). Contains xs c) (h.beyond c.group high) own)))
      (cases_lt c.group 16))
