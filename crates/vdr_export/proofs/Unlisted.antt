-- How the writing of a list of images ends where the visit stops.
use Rattle.std.proofs.Common.{◌≡◌, inl, inr, ℕ, List, Option, Some, Result, Err, refl, sym, ap, ◌∙◌, subst}
use Rattle.std.specs.Bool.{⊤}
use Rattle.vdr_terms.specs.Records.{Record}
use Rattle.vdr_visit.specs.Visits.{AreVisited, HasHanded, HasMade}
use Rattle.vdr_visit.specs.declared.visit_refused.VisitRefused.{VisitRefused}
use Rattle.vdr_visit.specs.declared.visit_refused.VisitRefused.TheVariants as stops
use Rattle.vdr_export.specs.Answers.{FileEnds, IsListingRefusal}
use Rattle.vdr_export.specs.Refusals.{refusal_by}
use Rattle.vdr_export.specs.declared.refused.ExportRefused.{ExportRefused}
use Rattle.vdr_export.specs.declared.refused.ExportRefused.TheVariants.{Fault, Damaged, NoMemory}
use Rattle.vdr_export.proofs.Ending.{failed_ends}
use Rattle.vdr_export.proofs.Refusing.{is_refused, none_from, some_is}

-- A visit that writes nothing does not stop for its output.
module _ (records seen : List Record) (Has : Type 0) (line : List Record → Record → List ℕ) (whole : List ℕ) (was now : Option (List ℕ)) (refused : ExportRefused) where
  pub listing_stopped : (file : Result (List ℕ) ExportRefused) (stop : VisitRefused ExportRefused) (a : Option (List ℕ)) (out : Result ⊤ ExportRefused) → out ≡ Err refused → Some refused ≡ refusal_by stop
      → (stop ≡ stops.Output → ⊥) → HasMade Has (λ e. e ≡ NoMemory) line whole seen was now (Err stop) → AreVisited seen records (Err stop) → FileEnds file a a out
  listing_stopped file stops.NoChannel a out is from silent made are = absurd (none_from refused from)
  listing_stopped file stops.NoIncident a out is from silent made are = absurd (none_from refused from)
  listing_stopped file stops.Fault a out is from silent made are = failed_ends file a out refused is (inl (is_refused out refused Fault is from))
  listing_stopped file (stops.Damaged m offset) a out is from silent made are = absurd are
  listing_stopped file stops.Output a out is from silent made are = absurd (silent refl)
  listing_stopped file (stops.Own e) a out is from silent made are =
      failed_ends file a out refused is (inr (inr (is_refused out refused e is from ∙ ap (λ (x : ExportRefused). Err x) made.0)))

  pub listing_own : (stop : VisitRefused ExportRefused) → Some refused ≡ refusal_by stop → (stop ≡ stops.Output → ⊥) → HasMade Has (λ e. e ≡ NoMemory) line whole seen was now (Err stop) → IsListingRefusal refused
  listing_own stops.NoChannel from silent made = absurd (none_from refused from)
  listing_own stops.NoIncident from silent made = absurd (none_from refused from)
  listing_own stops.Fault from silent made = subst IsListingRefusal (sym (some_is refused Fault from)) tt
  listing_own (stops.Damaged m offset) from silent made = subst IsListingRefusal (sym (some_is refused (Damaged m offset) from)) tt
  listing_own stops.Output from silent made = absurd (silent refl)
  listing_own (stops.Own e) from silent made = subst IsListingRefusal (sym (some_is refused e from ∙ made.0)) tt

module _ {Tells : List Record → Type 0} {Has : List Record → Type 0} {line : List Record → Record → List ℕ} {whole : List Record → List ℕ}
    {was now : Option (List ℕ)} (refused : ExportRefused) (stop : VisitRefused ExportRefused) (from : Some refused ≡ refusal_by stop) (silent : stop ≡ stops.Output → ⊥)
    (v : HasHanded Tells Has (λ seen e. e ≡ NoMemory) line whole was now (Err stop)) where
  pub no_listing : (file : Result (List ℕ) ExportRefused) (a : Option (List ℕ)) (out : Result ⊤ ExportRefused) → out ≡ Err refused → (records : List Record) → Tells records → FileEnds file a a out
  no_listing file a out is records told = listing_stopped records v.seen (Has v.seen) line (whole v.seen) was now refused file stop a out is from silent v.made (v.are records told)

  pub no_listing_own : IsListingRefusal refused
  no_listing_own = listing_own v.seen v.seen (Has v.seen) line (whole v.seen) was now refused stop from silent v.made
