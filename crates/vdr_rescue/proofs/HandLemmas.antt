-- What a visitor was handed when a read failed.
use Rattle.std.proofs.Common.{◌≡◌, ◌≤◌, ◌++◌, ℕ, List, Option, Result, Err, refl, sym, subst, ◌∙◌, ap, arith}
use Rattle.std.specs.Bool.{⊤}
use Rattle.std.specs.Io.KnownBytes.{Appends}
use Rattle.vdr_terms.specs.Records.{Record}
use Rattle.vdr_visit.specs.Prints.{text_of, whole_text}
use Rattle.vdr_visit.proofs.Printing.{front_of_whole}
use Rattle.vdr_visit.specs.Visits.{AreVisited, HasHanded, HasMade}
use Rattle.vdr_visit.specs.declared.visit_refused.VisitRefused.{VisitRefused}
use Rattle.vdr_visit.specs.declared.visit_refused.VisitRefused.TheVariants.{NoChannel, NoIncident, Fault, Damaged, Output, Own}
use Rattle.vdr_visit.specs.declared.visit_refused.VisitorRefused.{VisitorRefused}
use Rattle.vdr_visit.specs.declared.visit_refused.VisitorRefused.TheVariants as visitors
use Rattle.vdr_visit.specs.Refusals.{HasOutputCause, stop_of}
use Rattle.vdr_outside.proofs.Counts.{rose_after}
use Rattle.vdr_outside.specs.Disk.{Image, content}
use Rattle.vdr_core.specs.Histories as histories
use Rattle.vdr_terms.specs.Queries.{Query}
use Rattle.vdr_rescue.specs.declared.told.Told.{Told}
use Rattle.vdr_rescue.specs.Cursors.{CursorState, at_front}
use Rattle.vdr_rescue.specs.Visiting.{IsLeft}

pub faulted_made : {R : Type 0} (Has : Type 0) (Stops : R → Type 0) (line : List Record → Record → List ℕ) (whole : List ℕ) (seen : List Record) (was now : Option (List ℕ)) (out : Result ⊤ (VisitRefused R))
    → out ≡ Err Fault → Has × Appends was now (text_of line seen) → HasMade Has Stops line whole seen was now out
faulted_made Has Stops line whole seen was now out is made = subst (HasMade Has Stops line whole seen was now) (sym is) made

pub faulted_front : {R : Type 0} (seen records : List Record) (out : Result ⊤ (VisitRefused R)) → out ≡ Err Fault → ((rest : List Record) × (records ≡ seen ++ rest)) → AreVisited seen records out
faulted_front seen records out is front = subst (AreVisited seen records) (sym is) front

pub is_fault : {R : Type 0} (own stop : VisitRefused R) (out : Result ⊤ (VisitRefused R)) → out ≡ Err stop → stop ≡ own → own ≡ Fault → out ≡ Err Fault
is_fault {R} own stop out is from fault = is ∙ ap (λ (s : VisitRefused R). Err s) (from ∙ fault)

pub stopped : {R : Type 0} (own : VisitorRefused R) (stop : VisitRefused R) (out : Result ⊤ (VisitRefused R)) → out ≡ Err stop → stop ≡ stop_of own → out ≡ Err (stop_of own)
stopped {R} own stop out is from = is ∙ ap (λ (s : VisitRefused R). Err s) from

-- A visit that blames the output had it from the visitor, over a count that did not fall before it.
pub output_cause : {R : Type 0} (own : VisitorRefused R) (result : Result ⊤ (VisitorRefused R)) (out : Result ⊤ (VisitRefused R)) → result ≡ Err own → out ≡ Err (stop_of own)
    → (start before now : ℕ) → start ≤ before → HasOutputCause before now (result ≡ Err visitors.Output) → HasOutputCause start now (out ≡ Err Output)
output_cause {R} own result out was is start before now later cause = record {
  later = let then = cause.later in omega (arith, later, then);
  rose = λ blamed. rose_after start before now later (cause.rose (was ∙ ap (λ (e : VisitorRefused R). Err e) (at_output own out is blamed)));
}
  where
    at_output : (e : VisitorRefused R) (out : Result ⊤ (VisitRefused R)) → out ≡ Err (stop_of e) → out ≡ Err Output → e ≡ visitors.Output
    at_output visitors.Output out is blamed = refl
    at_output (visitors.Own reason) out is blamed = absurd (clash reason out is blamed)
      where
        clash : (reason : R) (out : Result ⊤ (VisitRefused R)) → out ≡ Err (Own reason) → out ≡ Err Output → ⊥
        clash reason out is blamed = cc

-- What was handed before a visit ended early, of a text with an end behind it.
module _ {R : Type 0} {Tells Has : List Record → Type 0} {Stops : List Record → R → Type 0} {line : List Record → Record → List ℕ} {was now : Option (List ℕ)} {ended : Result ⊤ (VisitRefused R)}
    (v : HasHanded Tells Has Stops line (text_of line) was now ended) where
  pub ended_early : (last : List Record → List ℕ) (stop : VisitRefused R) (out : Result ⊤ (VisitRefused R)) → ended ≡ Err stop → out ≡ Err stop
      → HasHanded Tells Has Stops line (whole_text line last) was now out
  ended_early last stop out was_is is = record {
    seen = v.seen;
    made = subst (HasMade (Has v.seen) (Stops v.seen) line (whole_text line last v.seen) v.seen was now) (sym is)
        (by stop (subst (λ (o : Result ⊤ (VisitRefused R)). HasMade (Has v.seen) (Stops v.seen) line (text_of line v.seen) v.seen was now o) was_is v.made));
    are = λ records t. subst (AreVisited v.seen records) (was_is ∙ sym is) (v.are records t);
    front = λ records t. front_of_whole was now (text_of line records) (last records) (v.front records t);
  }
    where
      by : (e : VisitRefused R) → HasMade (Has v.seen) (Stops v.seen) line (text_of line v.seen) v.seen was now (Err e)
          → HasMade (Has v.seen) (Stops v.seen) line (whole_text line last v.seen) v.seen was now (Err e)
      by NoChannel m = m
      by NoIncident m = m
      by Fault m = m
      by (Damaged k offset) m = m
      by Output m = m
      by (Own reason) m = m

-- A visit from the front of a medium, where it was told of a cursor that went back there.
pub from_front : {R : Type 0} (tells : Type 0) (image : Image) (table : List (Option histories.Incident)) (query : Query) (c d : CursorState) {Has : List Record → Type 0} {Stops : List Record → R → Type 0}
    {line : List Record → Record → List ℕ} {whole : List Record → List ℕ} {was now : Option (List ℕ)} {result : Result ⊤ (VisitRefused R)} → d ≡ at_front c
    → HasHanded (λ records. tells × ((all : List Told) × IsLeft (content image d.area.medium) table d query records all)) Has Stops line whole was now result
    → HasHanded (λ records. tells × ((all : List Told) × IsLeft (content image c.area.medium) table (at_front c) query records all)) Has Stops line whole was now result
from_front {R} tells image table query c d {Has} {Stops} {line} {whole} {was} {now} {result} is h =
    subst (λ (e : CursorState). HasHanded (λ (records : List Record). tells × ((all : List Told) × IsLeft (content image e.area.medium) table e query records all)) Has Stops line whole was now result) is h
