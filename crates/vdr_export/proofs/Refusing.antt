-- What is refused where a visit stops, and what is said of the calls then.
use Rattle.std.proofs.Common.{◌≡◌, ◌≤◌, ℕ, List, Option, Some, None, Result, Err, refl, sym, ap, ◌∙◌, subst, arith}
use Rattle.vdr_terms.specs.Records.{Record}
use Rattle.vdr_outside.specs.Causes.{Rose}
use Rattle.vdr_outside.proofs.Counts.{rose_after}
use Rattle.vdr_visit.specs.Refusals.{HasOutputCause}
use Rattle.vdr_visit.specs.Visits.{HasMade}
use Rattle.vdr_visit.specs.declared.visit_refused.VisitRefused.{VisitRefused}
use Rattle.vdr_visit.specs.declared.visit_refused.VisitRefused.TheVariants as stops
use Rattle.vdr_export.specs.Refusals.{refusal_by}
use Rattle.vdr_export.specs.declared.refused.ExportRefused.{ExportRefused}
use Rattle.vdr_export.specs.declared.refused.ExportRefused.TheVariants.{Output}

pub some_is : (a b : ExportRefused) → Some a ≡ Some b → a ≡ b
some_is a b e = cc

pub is_refused : {T : Type 0} (out : Result T ExportRefused) (refused why : ExportRefused) → out ≡ Err refused → Some refused ≡ Some why → out ≡ Err why
is_refused out refused why is from = is ∙ ap (λ (e : ExportRefused). Err e) (some_is refused why from)

pub none_from : (refused : ExportRefused) → Some refused ≡ None → ⊥
none_from refused e = cc

pub same_refusal : {T : Type 0} (out : Result T ExportRefused) (x y : ExportRefused) → out ≡ Err x → out ≡ Err y → x ≡ y
same_refusal out x y a b = cc

-- A refusal of the media, or of the output, is that of the visit, unless the visitor stopped so.
module _ (refused : ExportRefused) (Has : Type 0) (Stops : ExportRefused → Type 0) (line : List Record → Record → List ℕ) (whole : List ℕ) (seen : List Record) (was now : Option (List ℕ)) where
  pub output_of : (stop : VisitRefused ExportRefused) → Some refused ≡ refusal_by stop → HasMade Has Stops line whole seen was now (Err stop) → (Stops Output → ⊥) → refused ≡ Output → stop ≡ stops.Output
  output_of stops.NoChannel from made never is = absurd (none_from refused from)
  output_of stops.NoIncident from made never is = absurd (none_from refused from)
  output_of stops.Fault from made never is = let none : ⊥ = cc in absurd none
  output_of (stops.Damaged m offset) from made never is = let none : ⊥ = cc in absurd none
  output_of stops.Output from made never is = refl
  output_of (stops.Own e) from made never is = absurd (never (subst Stops (sym (some_is refused e from) ∙ is) made.0))

pub output_as : (before now : ℕ) (first second : Type 0) → (second → first) → HasOutputCause before now first → HasOutputCause before now second
output_as before now first second of h = record { later = h.later; rose = λ is. h.rose (of is) }

pub output_after : (before mid now : ℕ) (blamed : Type 0) → before ≤ mid → HasOutputCause mid now blamed → HasOutputCause before now blamed
output_after before mid now blamed first h = record {
  later = (let second : mid ≤ now = h.later in omega (arith, first, second));
  rose = λ is. rose_after before mid now first (h.rose is);
}

pub output_still : (count : ℕ) (blamed : Type 0) → (blamed → ⊥) → HasOutputCause count count blamed
output_still count blamed never = record { later = omega arith; rose = λ is. absurd (never is) }

-- A sink that never fails is never blamed.
pub never_blamed : {blamed : Type 0} → HasOutputCause 0 0 blamed → blamed → ⊥
never_blamed h is = let more : Rose 0 0 = h.rose is in omega (arith, more)
