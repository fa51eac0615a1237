-- The takers, as one of them pops.
use Rattle.std.proofs.Common.{◌≡◌, ◌<◌, ◌++◌, ◌==◌, ℕ, Bool, List, [], ◌∷◌, All, IfSome, Option, Some, None, length, get_or, set, ⊎_elim, refl, sym, ap, ◌∙◌, subst, append_assoc, arith}
use Rattle.std.proofs.lemmas.List.{get_or-set_same, get_or-set_other}
use Rattle.std.proofs.lemmas.List.Elements.{All-head, All-tail, filter-append}
use Rattle.std.proofs.lemmas.Bool.{cond-true, cases_eq, cond-false, eq-eqb, ne_eqb}
use Rattle.vdr_core.specs.Taken.{Captured, of_group}
use Rattle.vdr_intake.specs.Ends.{QueueId, Taking, Feeding}
use Rattle.vdr_session.specs.Lanes.{AreMet, IsFront, IsMet}

pub of_own : (g : ℕ) (items : List Captured) → All (λ c. c.group ≡ g) items → of_group g items ≡ items
of_own g [] own = refl
of_own g (c ∷ items) own =
    cond-true (c.group == g) (c ∷ of_group g items) (of_group g items) (eq-eqb c.group g (All-head (λ (c : Captured). c.group ≡ g) c items own))
    ∙ ap (λ (cs : List Captured). c ∷ cs) (of_own g items (All-tail (λ (c : Captured). c.group ≡ g) c items own))

pub of_others : (g k : ℕ) (items : List Captured) → All (λ c. c.group ≡ g) items → (g ≡ k → ⊥) → of_group k items ≡ []
of_others g k [] own ne = refl
of_others g k (c ∷ items) own ne =
    cond-false (c.group == k) (c ∷ of_group k items) (of_group k items) (ne_eqb c.group k (λ e. ne (sym (All-head (λ (c : Captured). c.group ≡ g) c items own) ∙ e)))
    ∙ of_others g k items (All-tail (λ (c : Captured). c.group ≡ g) c items own) ne

pub of_appended : (g : ℕ) (items more : List Captured) → of_group g (items ++ more) ≡ of_group g items ++ of_group g more
of_appended g items more = filter-append (λ (c : Captured). c.group == g) items more

-- whether two numbers are the same
pub same_or_not : {P : Type 0} (a b : ℕ) → (a ≡ b → P) → ((a ≡ b → ⊥) → P) → P
same_or_not {P} a b same other = ⊎_elim same other (cases_eq a b)

module _ (n : ℕ) (takers : List (Option Taking)) (sixteen : length takers ≡ 16) (low : n < 16) (new : Option Taking) where
  pub at_own : get_or (set takers n new) n None ≡ new
  at_own = get_or-set_same takers n new None (omega (arith, sixteen, low))

  pub at_other : (g : ℕ) → (g ≡ n → ⊥) → get_or (set takers n new) g None ≡ get_or takers g None
  at_other g ne = get_or-set_other takers n g new None ne

  -- each group's fact
  pub for_each : (P : ℕ → Option Taking → Type 0) → P n new → ((g : ℕ) → g < 16 → (g ≡ n → ⊥) → P g (get_or takers g None)) → (g : ℕ) → g < 16 → P g (get_or (set takers n new) g None)
  for_each P here there g small = same_or_not g n
      (λ e. subst (λ (m : ℕ). P m (get_or (set takers n new) m None)) (sym e) (subst (P n) (sym at_own) here))
      (λ ne. subst (P g) (sym (at_other g ne)) (there g small ne))

  pub met_after : (configured : ℕ → Bool) (queues : List (Option QueueId)) → AreMet configured queues takers → IsMet configured n (get_or queues n None) new → AreMet configured queues (set takers n new)
  met_after configured queues met here = for_each (λ g t. IsMet configured g (get_or queues g None) t) here (λ g small ne. met g small)

-- one more item was popped of what a joined feeder pushed
pub front_more : (joined : Option Feeding) (old : List Captured) (c : Captured) (new : List Captured) → new ≡ old ++ c ∷ []
    → IfSome joined (λ feeder. (rest : List Captured) × (feeder.pushed ≡ old ++ c ∷ rest)) → IsFront new joined
front_more None old c new e h = tt
front_more (Some feeder) old c new e h = (h.0, h.1 ∙ sym (append_assoc old (c ∷ []) h.0) ∙ ap (λ (xs : List Captured). xs ++ h.0) (sym e))

-- What holds of what there is.
pub if_some : {T : Type 0} (P : T → Type 0) (o : Option T) (x : T) → o ≡ Some x → IfSome o P → P x
if_some {T} P o x is h = subst (λ (o : Option T). IfSome o P) is h
