-- How a session ended: where there was no memory nothing is told of groups, and of the media a fault is told that they met.
use Rattle.std.proofs.Common.{◌≡◌, ◌&&◌, inl, inr, ℕ, zero, suc, false, List, Option, None, replicate, get_or, is_some, refl, sym, ap, ◌∙◌, subst}
use Rattle.std.specs.Prelude.{sum}
use Rattle.vdr_terms.specs.declared.rate.Rate.{Rate}
use Rattle.vdr_outside.specs.Causes.{NoneFalls, Rose}
use Rattle.vdr_outside.proofs.Counts.{none_fell}
use Rattle.vdr_capture.specs.declared.sums.Outcome.{Outcome}
use Rattle.vdr_capture.specs.declared.sums.Outcome.TheVariants.{NoMemory, MediaFault, PortFault, LinkFault}
use Rattle.vdr_session.specs.declared.session.SessionEnd.{SessionEnd}
use Rattle.vdr_session.specs.Ended.{IsWithFailures}
use Rattle.vdr_session.specs.Sessions.{HasGroups, HasSessionCause, has_groups}

none_at : (A : Type 0) (n g : ℕ) → is_some (get_or {A = Option A} (replicate n None) g None) ≡ false
none_at A zero g = refl
none_at A (suc n) zero = refl
none_at A (suc n) (suc g) = none_at A n g

none_told : {A : Type 0} (rates : List (Option Rate)) (outcome : Outcome) (os : List (Option A)) (g : ℕ) → outcome ≡ NoMemory → os ≡ replicate 16 None
    → is_some (get_or os g None) ≡ (has_groups outcome && is_some (get_or rates g None))
none_told {A} rates outcome os g is none =
    ap (λ (xs : List (Option A)). is_some (get_or xs g None)) none ∙ none_at A 16 g ∙ sym (ap (λ (o : Outcome). has_groups o && is_some (get_or rates g None)) is)

pub no_groups : (rates : List (Option Rate)) (end : SessionEnd) → end.outcome ≡ NoMemory → (end.groups ≡ replicate 16 None) × (end.intakes ≡ replicate 16 None) → HasGroups rates end
no_groups rates end is none = record {
  sums = λ g small. none_told rates end.outcome end.groups g is none.0;
  intakes = λ g small. none_told rates end.outcome end.intakes g is none.1;
}

pub no_memory_cause : (before now : List ℕ) (outcome : Outcome) → now ≡ before → outcome ≡ NoMemory → HasSessionCause before now outcome
no_memory_cause before now outcome same is = record {
  later = subst (λ (fs : List ℕ). NoneFalls before fs) (sym same) (none_fell before);
  rose = λ fault. let clash : NoMemory ≡ MediaFault = sym is ∙ fault in let none : ⊥ = cc in absurd none;
}

fault_before : (outcome end : Outcome) → IsWithFailures outcome end → end ≡ MediaFault → outcome ≡ MediaFault
fault_before outcome end (inl same) fault = sym same ∙ fault
fault_before outcome end (inr (done, inl (g, is))) fault = let clash : PortFault g ≡ MediaFault = sym is ∙ fault in let none : ⊥ = cc in absurd none
fault_before outcome end (inr (done, inr (i, is))) fault = let clash : LinkFault i ≡ MediaFault = sym is ∙ fault in let none : ⊥ = cc in absurd none

pub session_cause : (before mid now : List ℕ) (outcome end : Outcome) → now ≡ mid → NoneFalls before mid → (outcome ≡ MediaFault → Rose (sum before) (sum mid)) → IsWithFailures outcome end
    → HasSessionCause before now end
session_cause before mid now outcome end same later rose told = record {
  later = subst (λ (fs : List ℕ). NoneFalls before fs) (sym same) later;
  rose = λ fault. subst (λ (fs : List ℕ). Rose (sum before) (sum fs)) (sym same) (rose (fault_before outcome end told fault));
}
