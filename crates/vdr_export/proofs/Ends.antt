-- How the reads of a file ended, from how its visits did.
use Rattle.std.proofs.Common.{◌≡◌, ◌∙◌, ℕ, List, Option, Some, Result, Ok, Err, refl, sym, ap, subst}
use Rattle.vdr_terms.specs.Records.{Record}
use Rattle.vdr_visit.specs.Visits.{HasMade, ReadEnd, end_of}
use Rattle.vdr_visit.specs.Visits.ReadEnd.{AllRead, CutOff}
use Rattle.vdr_visit.specs.declared.visit_refused.VisitRefused.{VisitRefused}
use Rattle.vdr_visit.specs.declared.visit_refused.VisitRefused.TheVariants as stops
use Rattle.vdr_export.specs.Answers.{file_end}
use Rattle.vdr_export.specs.Refusals.{refusal_by}
use Rattle.vdr_export.specs.declared.refused.ExportRefused.{ExportRefused}
use Rattle.vdr_export.specs.declared.refused.ExportRefused.TheVariants.{Nothing, Mixed, Long, Part, Fault, Damaged, Output, NoMemory}
use Rattle.vdr_export.proofs.Refusing.{is_refused, none_from}

-- A refusal that is none of the media cuts the reads off.
own_end : (T : Type 0) (e : ExportRefused) → (e ≡ Fault → ⊥) → ((m offset : ℕ) → e ≡ Damaged m offset → ⊥) → file_end {T = T} (Err e) ≡ CutOff
own_end T Nothing fault damage = refl
own_end T (Mixed place) fault damage = refl
own_end T Long fault damage = refl
own_end T (Part number) fault damage = refl
own_end T Fault fault damage = absurd (fault refl)
own_end T (Damaged m offset) fault damage = absurd (damage m offset refl)
own_end T Output fault damage = refl
own_end T NoMemory fault damage = refl

-- The reads ended as the visit did, unless the visitor stopped for a reason of the media.
pub stopped_end : {T : Type 0} (refused : ExportRefused) (Has : Type 0) (Stops : ExportRefused → Type 0) (line : List Record → Record → List ℕ) (whole : List ℕ) (seen : List Record) (was now : Option (List ℕ))
    (stop : VisitRefused ExportRefused) → Some refused ≡ refusal_by stop → HasMade Has Stops line whole seen was now (Err stop) → (Stops Fault → ⊥) → ((m offset : ℕ) → Stops (Damaged m offset) → ⊥)
    → (out : Result T ExportRefused) → out ≡ Err refused → end_of (Err stop) ≡ file_end out
stopped_end refused Has Stops line whole seen was now stops.NoChannel from made fault damage out is = absurd (none_from refused from)
stopped_end refused Has Stops line whole seen was now stops.NoIncident from made fault damage out is = absurd (none_from refused from)
stopped_end refused Has Stops line whole seen was now stops.Fault from made fault damage out is = sym (ap file_end (is_refused out refused Fault is from))
stopped_end refused Has Stops line whole seen was now (stops.Damaged m offset) from made fault damage out is = sym (ap file_end (is_refused out refused (Damaged m offset) is from))
stopped_end refused Has Stops line whole seen was now stops.Output from made fault damage out is = sym (ap file_end (is_refused out refused Output is from))
stopped_end {T} refused Has Stops line whole seen was now (stops.Own e) from made fault damage out is =
    sym (ap file_end (is_refused out refused e is from)
    ∙ own_end T e (λ f. fault (subst Stops f made.0)) (λ m offset d. damage m offset (subst Stops d made.0)))

-- All was read, and then refused for no reason of the media, or not at all.
pub read_end : {T : Type 0} (Left : ReadEnd → Type 0) (out : Result T ExportRefused) → Left AllRead → Left CutOff → (out ≡ Err Fault → ⊥) → ((m offset : ℕ) → out ≡ Err (Damaged m offset) → ⊥) → Left (file_end out)
read_end Left (Ok done) all cut fault damage = all
read_end {T} Left (Err e) all cut fault damage =
    subst Left (sym (own_end T e (λ f. fault (ap (λ (x : ExportRefused). Err x) f)) (λ m offset d. damage m offset (ap (λ (x : ExportRefused). Err x) d)))) cut

-- An error was passed on.
pub passed_end : {T U : Type 0} (result : Result T ExportRefused) (why given : ExportRefused) (out : Result U ExportRefused) → result ≡ Err why → given ≡ why → out ≡ Err given → file_end result ≡ file_end out
passed_end {T} {U} result why given out was same is = ap file_end was ∙ by why ∙ ap (λ (e : ExportRefused). file_end {T = U} (Err e)) (sym same) ∙ sym (ap file_end is)
  where
    by : (e : ExportRefused) → file_end {T = T} (Err e) ≡ file_end {T = U} (Err e)
    by Nothing = refl
    by (Mixed place) = refl
    by Long = refl
    by (Part number) = refl
    by Fault = refl
    by (Damaged m offset) = refl
    by Output = refl
    by NoMemory = refl
