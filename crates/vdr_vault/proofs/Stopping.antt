-- Which fault ends a visit, and its cause.
use Rattle.std.proofs.Common.{◌≡◌, ◌≤◌, ℕ, Bool, true, get_or, sum, List, Result, Ok, Err, inl, inr, ⊎_elim, refl, sym, ap, ◌∙◌, arith}
use Rattle.std.specs.Bool.{⊤}
use Rattle.vdr_outside.specs.Causes.{NoneFalls, Rose}
use Rattle.vdr_outside.proofs.Counts.{none_falls_join, rose_after, sum_not_less}
use Rattle.vdr_ring.specs.declared.refused.ReadRefused.{ReadRefused}
use Rattle.vdr_ring.specs.declared.refused.ReadRefused.TheVariants as reads
use Rattle.vdr_vault.specs.Plays.{HasReadCause}
use Rattle.vdr_visit.specs.Refusals.{HasOutputCause, stop_of}
use Rattle.vdr_vault.specs.Refusals.{HasVisitCause, stop_by}
use Rattle.vdr_visit.specs.declared.visit_refused.VisitRefused.{VisitRefused}
use Rattle.vdr_visit.specs.declared.visit_refused.VisitRefused.TheVariants.{Damaged, Fault, Output, Own}
use Rattle.vdr_visit.specs.declared.visit_refused.VisitorRefused.{VisitorRefused}
use Rattle.vdr_visit.specs.declared.visit_refused.VisitorRefused.TheVariants as visitors

-- A visit that ends with a fault of a read met a fault.
fault_of_read : {R : Type 0} (read : ReadRefused) (out : Result ⊤ (VisitRefused R)) → out ≡ Err (stop_by read) → out ≡ Err Fault → read ≡ reads.Fault
fault_of_read reads.Fault out is fault = refl
fault_of_read {R} (reads.Damaged m offset) out is fault = absurd (clash m offset out is fault)
  where
    clash : (m offset : ℕ) (out : Result ⊤ (VisitRefused R)) → out ≡ Err (Damaged m offset) → out ≡ Err Fault → ⊥
    clash m offset out is fault = cc

-- What was answered, by the visitor's own reason.
pub stopped : {R : Type 0} (own : VisitorRefused R) (stop : VisitRefused R) (out : Result ⊤ (VisitRefused R)) → out ≡ Err stop → stop ≡ stop_of own → out ≡ Err (stop_of own)
stopped {R} own stop out is from = is ∙ ap (λ (s : VisitRefused R). Err s) from

-- Its cause is that of the read, over counts that did not fall before it.
pub visit_cause : {R : Type 0} (read : ReadRefused) (result : Result Bool ReadRefused) (out : Result ⊤ (VisitRefused R)) → result ≡ Err read → out ≡ Err (stop_by read)
    → (m : ℕ) (failed : Bool) (start before now : List ℕ) → NoneFalls start before → HasReadCause m failed before now result → HasVisitCause m failed start now (out ≡ Err Fault)
visit_cause read result out was is m failed start before now later cause = record {
  later = none_falls_join start before now later cause.later;
  on_medium = λ fault. ⊎_elim
      (λ (had : failed ≡ true). inl had)
      (λ (rose : Rose (get_or before m 0) (get_or now m 0)). inr (rose_after (get_or start m 0) (get_or before m 0) (get_or now m 0) (later.none_falls m) rose))
      (cause.on_medium (faulted fault));
  in_all = λ fault. ⊎_elim
      (λ (had : failed ≡ true). inl had)
      (λ (rose : Rose (sum before) (sum now)). inr (rose_after (sum start) (sum before) (sum now) (sum_not_less start before later.same_media later.none_falls) rose))
      (cause.in_all (faulted fault));
}
  where
    faulted : out ≡ Err Fault → result ≡ Err reads.Fault
    faulted fault = was ∙ ap (λ (r : ReadRefused). Err r) (fault_of_read read out is fault)

-- A visit that ends with damage of a read met that.
pub damage_of_read : {R : Type 0} (read : ReadRefused) (result : Result Bool ReadRefused) (out : Result ⊤ (VisitRefused R)) → result ≡ Err read → out ≡ Err (stop_by read)
    → (m offset : ℕ) → out ≡ Err (Damaged m offset) → result ≡ Err (reads.Damaged m offset)
damage_of_read {R} read result out was is m offset damage = was ∙ by read (sym is ∙ damage)
  where
    by : (e : ReadRefused) → ◌≡◌ {A = Result ⊤ (VisitRefused R)} (Err (stop_by e)) (Err (Damaged m offset)) → ◌≡◌ {A = Result Bool ReadRefused} (Err e) (Err (reads.Damaged m offset))
    by reads.Fault same = absurd (clash same)
      where
        clash : ◌≡◌ {A = Result ⊤ (VisitRefused R)} (Err Fault) (Err (Damaged m offset)) → ⊥
        clash same = cc
    by (reads.Damaged k at) same = cc

-- The end of a visit is no damage.
pub not_at_end : {R : Type 0} (m offset : ℕ) → ◌≡◌ {A = Result ⊤ (VisitRefused R)} (Ok tt) (Err (Damaged m offset)) → ⊥
not_at_end m offset damage = cc

-- Nor is a visitor that stops.
pub not_by_visitor : {R : Type 0} (own : VisitorRefused R) (out : Result ⊤ (VisitRefused R)) → out ≡ Err (stop_of own) → (m offset : ℕ) → out ≡ Err (Damaged m offset) → ⊥
not_by_visitor visitors.Output out is m offset damage = cc
not_by_visitor (visitors.Own reason) out is m offset damage = cc

-- A visit that blames the output had it from the visitor, over a count that did not fall before it.
pub output_cause : {R : Type 0} (own : VisitorRefused R) (result : Result ⊤ (VisitorRefused R)) (out : Result ⊤ (VisitRefused R)) → result ≡ Err own → out ≡ Err (stop_of own)
    → (start before now : ℕ) → start ≤ before → HasOutputCause before now (result ≡ Err visitors.Output) → HasOutputCause start now (out ≡ Err Output)
output_cause {R} own result out was is start before now later cause = record {
  later = let then = cause.later in omega (arith, later, then);
  rose = λ blamed. rose_after start before now later (cause.rose (was ∙ ap (λ (e : VisitorRefused R). Err e) (at_output own out is blamed)));
}
  where
    at_output : (e : VisitorRefused R) (out : Result ⊤ (VisitRefused R)) → out ≡ Err (stop_of e) → out ≡ Err Output → e ≡ visitors.Output
    at_output visitors.Output out is blamed = refl
    at_output (visitors.Own reason) out is blamed = absurd (clash reason out is blamed)
      where
        clash : (reason : R) (out : Result ⊤ (VisitRefused R)) → out ≡ Err (Own reason) → out ≡ Err Output → ⊥
        clash reason out is blamed = cc
