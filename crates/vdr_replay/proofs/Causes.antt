-- Causes of faults over the calls of a run.
use Rattle.std.proofs.Common.{◌≡◌, ℕ, List, get_or, Bool, true, false, Result, Err, ⊎_elim, sym, ◌∙◌, true≢false}
use Rattle.std.specs.Prelude.{Any, sum}
use Rattle.vdr_outside.specs.Causes.{NoneFalls, Rose}
use Rattle.vdr_outside.proofs.Counts.{none_falls_join, on_err, rose_after, sum_rose}
use Rattle.vdr_media.specs.Formatted.{members}
use Rattle.vdr_vault.specs.Calls.{HasVaultCause}
use Rattle.vdr_vault.specs.Openings.{HasCauseOnBoth}
use Rattle.vdr_replay.specs.Answers.{HasReplayCause}
use Rattle.vdr_replay.specs.declared.ended.Replayed.{Replayed}
use Rattle.vdr_replay.specs.declared.ended.ReplayRefused.{ReplayRefused}

abbrev pub OneRose : List ℕ → List ℕ → Type 0
OneRose before now = Any (λ m. Rose (get_or before m 0) (get_or now m 0)) members

pub rose_joined : (a b c : List ℕ) → NoneFalls a b → OneRose b c → OneRose a c
rose_joined a b c earlier k = (k.0, k.1, k.2, k.3, rose_after (get_or a k.1 0) (get_or b k.1 0) (get_or c k.1 0) (earlier.none_falls k.1) k.4)

pub sum_of_rose : (a c : List ℕ) → NoneFalls a c → OneRose a c → Rose (sum a) (sum c)
sum_of_rose a c later rose = sum_rose a c rose.1 later.same_media later.none_falls rose.4

-- The fault of a call after calls that did not lower a count.
pub cause_joined : {T E U F : Type 0} (a b c : List ℕ) (e : E) (s : Result U F) → NoneFalls a b → HasCauseOnBoth {T = T} members b c (Err e) → HasCauseOnBoth members a c s
cause_joined a b c e s earlier k =
    let later = none_falls_join a b c earlier k.later in
    let rose = rose_joined a b c earlier k.by_medium in
    record { later = later; by_medium = on_err s rose; in_all = on_err s (sum_of_rose a c later rose) }

-- The same of a call of the vault, which had not failed.
pub vault_rose : {T E : Type 0} (failed : Bool) (b c : List ℕ) (e : E) → failed ≡ false → HasVaultCause {T = T} members failed b c (Err e) → OneRose b c
vault_rose failed b c e works k = ⊎_elim (λ (was : failed ≡ true). absurd (true≢false (sym was ∙ works))) (λ (rose : OneRose b c). rose) k.by_medium

pub vault_joined : {T E U F : Type 0} (failed : Bool) (a b c : List ℕ) (e : E) (s : Result U F) → failed ≡ false → NoneFalls a b → HasVaultCause {T = T} members failed b c (Err e) → HasCauseOnBoth members a c s
vault_joined failed a b c e s works earlier k =
    let later = none_falls_join a b c earlier k.later in
    let rose = rose_joined a b c earlier (vault_rose failed b c e works k) in
    record { later = later; by_medium = on_err s rose; in_all = on_err s (sum_of_rose a c later rose) }

-- And of the whole call
pub replay_joined : {T E : Type 0} (a b c : List ℕ) (e : E) (s : Result Replayed ReplayRefused) → NoneFalls a b → HasCauseOnBoth {T = T} members b c (Err e) → HasReplayCause a c s
replay_joined a b c e s earlier k =
    let later = none_falls_join a b c earlier k.later in
    let rose = rose_joined a b c earlier k.by_medium in
    record { later = later; by_medium = λ is. rose; in_all = λ is. sum_of_rose a c later rose }

pub replay_after : (a b c : List ℕ) (s : Result Replayed ReplayRefused) → NoneFalls a b → HasReplayCause b c s → HasReplayCause a c s
replay_after a b c s earlier k =
    let later = none_falls_join a b c earlier k.later in
    record { later = later; by_medium = λ is. rose_joined a b c earlier (k.by_medium is); in_all = λ is. sum_of_rose a c later (rose_joined a b c earlier (k.by_medium is)) }
