-- Which count of faults rose.
use Rattle.std.proofs.Common.{◌≡◌, ◌≤◌, ℕ, List, get_or, Result, Err, subst, arith}
use Rattle.std.specs.Prelude.{OnErr, sum}
use Rattle.vdr_outside.specs.Causes.{HasCauseOn, NoneFalls, Rose}
use Rattle.vdr_outside.proofs.Counts.{none_falls_join, on_err, rose_after, sum_not_less, sum_rose}
use Rattle.vdr_compare.specs.declared.comparing.CompareRefused.{CompareRefused}
use Rattle.vdr_compare.specs.declared.comparing.CompareRefused.TheVariants.{Fault, Output}
use Rattle.vdr_compare.specs.Comparisons.{HasCompareCause}
use Rattle.vdr_compare.specs.Sides.{HasReadCause}

-- The count of medium m rose in a call that failed, behind calls in which none fell.
pub read_failed : {T U E : Type 0} (m : ℕ) (before mid now : List ℕ) (r : Result U E) (e : E) (out : Result T E) → r ≡ Err e → NoneFalls before mid → HasCauseOn m mid now r → HasReadCause before now out
read_failed {T} {U} {E} m before mid now r e out is earlier cause =
    let rose : Rose (get_or mid m 0) (get_or now m 0) = subst (λ (x : Result U E). OnErr x (Rose (get_or mid m 0) (get_or now m 0))) is cause.failed in
    record {
      later = none_falls_join before mid now earlier cause.later;
      failed = on_err out (rose_after (sum before) (sum mid) (sum now) (sum_not_less before mid earlier.same_media earlier.none_falls)
          (sum_rose mid now m cause.later.same_media cause.later.none_falls rose));
    }

pub sum_after : {T E : Type 0} (before mid now : List ℕ) (r : Result T E) (e : E) → r ≡ Err e → NoneFalls before mid → HasReadCause mid now r → Rose (sum before) (sum now)
sum_after {T} {E} before mid now r e is earlier cause =
    rose_after (sum before) (sum mid) (sum now) (sum_not_less before mid earlier.same_media earlier.none_falls)
    (subst (λ (x : Result T E). OnErr x (Rose (sum mid) (sum now))) is cause.failed)

-- A read failed, and the output was not touched.
pub compare_failed : {T U E : Type 0} (before mid now : List ℕ) (printed prints : ℕ) (r : Result U E) (e : E) (out : Result T CompareRefused) (why : CompareRefused) → r ≡ Err e → out ≡ Err why → why ≡ Fault
    → NoneFalls before mid → HasReadCause mid now r → printed ≤ prints → HasCompareCause before now printed prints out
compare_failed {T} before mid now printed prints r e out why is ended fault earlier cause le = record {
  later = none_falls_join before mid now earlier cause.later;
  fault = λ same. sum_after before mid now r e is earlier cause;
  written = le;
  output = λ same. absurd (clash out why ended fault same);
}
  where
    clash : (out : Result T CompareRefused) (why : CompareRefused) → out ≡ Err why → why ≡ Fault → out ≡ Err Output → ⊥
    clash out why ended fault same = cc

-- Behind calls in which no count fell.
pub cause_behind : {T : Type 0} (before mid now : List ℕ) (a b c : ℕ) (r : Result T CompareRefused) → NoneFalls before mid → a ≤ b → HasCompareCause mid now b c r → HasCompareCause before now a c r
cause_behind before mid now a b c r earlier le cause = record {
  later = none_falls_join before mid now earlier cause.later;
  fault = λ is. rose_after (sum before) (sum mid) (sum now) (sum_not_less before mid earlier.same_media earlier.none_falls) (cause.fault is);
  written = let w = cause.written in omega (arith, le, w);
  output = λ is. rose_after a b c le (cause.output is);
}
