-- Causes over several calls.
use Rattle.std.proofs.Common.{ℕ, List, get_or, Result, Ok, Err}
use Rattle.std.specs.Prelude.{Any}
use Rattle.vdr_outside.specs.Causes.{NoneFalls, HasCauseOn, Rose}
use Rattle.vdr_outside.proofs.Counts.{rose_after, sum_rose, none_falls_join, on_err}
use Rattle.vdr_media.specs.Answers.{Answer, HasFaultCause}
use Rattle.vdr_media.specs.Writing.{HasCauseAmong}

-- calls that succeeded, and then one more of medium m
pub cause_after : {T E : Type 0} (m : ℕ) (a b c : List ℕ) (r : Result T E) → NoneFalls a b → HasCauseOn m b c r → HasCauseOn m a c r
cause_after m a b c (Ok x) earlier last = record { later = none_falls_join a b c earlier last.later; failed = tt }
cause_after m a b c (Err e) earlier last = record {
  later = none_falls_join a b c earlier last.later;
  failed = rose_after (get_or a m 0) (get_or b m 0) (get_or c m 0) (earlier.none_falls m) last.failed;
}

-- the cause of a call on one of these media, after calls that succeeded
pub cause_among : {T E : Type 0} (members : List ℕ) (m : ℕ) (a b c : List ℕ) (r : Result T E) → ((P : ℕ → Type 0) → P m → Any P members) → NoneFalls a b → HasCauseOn m b c r → HasCauseAmong members a c r
cause_among members m a b c (Ok x) one_of earlier last = record { later = none_falls_join a b c earlier last.later; failed = tt }
cause_among members m a b c (Err e) one_of earlier last = record {
  later = none_falls_join a b c earlier last.later;
  failed = one_of (λ k. Rose (get_or a k 0) (get_or c k 0)) (rose_after (get_or a m 0) (get_or b m 0) (get_or c m 0) (earlier.none_falls m) last.failed);
}

-- an error that is made of that call's
pub cause_of_error : {T E T' E' : Type 0} (members : List ℕ) (m : ℕ) (a b c : List ℕ) (e : E) (r : Result T' E') → ((P : ℕ → Type 0) → P m → Any P members) → NoneFalls a b → HasCauseOn {T = T} m b c (Err e) → HasCauseAmong members a c r
cause_of_error members m a b c e r one_of earlier last = record {
  later = none_falls_join a b c earlier last.later;
  failed = on_err r (one_of (λ k. Rose (get_or a k 0) (get_or c k 0)) (rose_after (get_or a m 0) (get_or b m 0) (get_or c m 0) (earlier.none_falls m) last.failed));
}

-- calls that succeeded, and then an error that is made of that of calls on these media
pub among_after : {T E T' E' : Type 0} (members a b c : List ℕ) (e : E) (r : Result T' E') → NoneFalls a b → HasCauseAmong {T = T} members b c (Err e) → HasCauseAmong members a c r
among_after members a b c e r earlier last = record {
  later = none_falls_join a b c earlier last.later;
  failed = on_err r (
    last.failed.0,
    last.failed.1,
    last.failed.2,
    last.failed.3,
    rose_after (get_or a last.failed.1 0) (get_or b last.failed.1 0) (get_or c last.failed.1 0) (earlier.none_falls last.failed.1) last.failed.4,
  );
}

-- The causes of an answer of `format`.

pub fault_cause : (members a c : List ℕ) (answer : Answer) → NoneFalls a c → Any (λ m. Rose (get_or a m 0) (get_or c m 0)) members → HasFaultCause members a c answer
fault_cause members a c answer later rose = record {
  later = later;
  by_medium = λ is. rose;
  in_all = λ is. sum_rose a c rose.1 later.same_media later.none_falls rose.4;
}

pub no_fault : (members a c : List ℕ) → NoneFalls a c → HasFaultCause members a c (Ok tt)
no_fault members a c later = record {
  later = later;
  by_medium = λ is. let none : ⊥ = cc in absurd none;
  in_all = λ is. let none : ⊥ = cc in absurd none;
}

-- one of these rose before counts that did not fall earlier
pub rose_among : (members a b c : List ℕ) → NoneFalls a b → Any (λ m. Rose (get_or b m 0) (get_or c m 0)) members → Any (λ m. Rose (get_or a m 0) (get_or c m 0)) members
rose_among members a b c earlier rose = (rose.0, rose.1, rose.2, rose.3, rose_after (get_or a rose.1 0) (get_or b rose.1 0) (get_or c rose.1 0) (earlier.none_falls rose.1) rose.4)
