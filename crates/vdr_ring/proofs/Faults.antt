-- Causes of a fault over several calls on one medium.
use Rattle.std.proofs.Common.{◌≡◌, ℕ, List, get_or, Result, Err, sym, ◌∙◌}
use Rattle.std.specs.Prelude.{IsErrOf}
use Rattle.vdr_outside.specs.Causes.{NoneFalls}
use Rattle.vdr_outside.specs.declared.fault.PartRefused.{PartRefused}
use Rattle.vdr_outside.specs.declared.fault.PartRefused.TheVariants.{Fault}
use Rattle.vdr_outside.proofs.Counts.{rose_after, none_falls_join}
use Rattle.vdr_terms.proofs.Results.{same_err}
use Rattle.vdr_directory.specs.Opening.{HasFaultCause}

-- calls that succeeded, and then one more
pub fault_after : {T : Type 0} (m : ℕ) (a b c : List ℕ) (r : Result T PartRefused) → NoneFalls a b → HasFaultCause m b c r → HasFaultCause m a c r
fault_after m a b c r earlier h = record {
  later = none_falls_join a b c earlier h.later;
  rose = λ is. rose_after (get_or a m 0) (get_or b m 0) (get_or c m 0) (earlier.none_falls m) (h.rose is);
}

-- an answer that is no fault
pub no_fault : {T : Type 0} (m : ℕ) (a b : List ℕ) (r : Result T PartRefused) → NoneFalls a b → (IsErrOf r Fault → ⊥) → HasFaultCause m a b r
no_fault m a b r later other = record { later = later; rose = λ is. absurd (other is) }

-- an error that is passed on
pub fault_passed : {T U : Type 0} (m : ℕ) (a b : List ℕ) (e : PartRefused) (r : Result U PartRefused) → r ≡ Err e → HasFaultCause {T = T} m a b (Err e) → HasFaultCause m a b r
fault_passed m a b e r is h = record { later = h.later; rose = λ fault. h.rose (same_err e Fault (sym is ∙ fault)) }
