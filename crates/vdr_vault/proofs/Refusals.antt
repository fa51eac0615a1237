-- When a call on the table of incidents answers a fault, and what the vault knows of it then.
use Rattle.std.proofs.Common.{◌≡◌, inr, ℕ, Bool, false, List, [], ◌∷◌, ◌++◌, get_or, Result, Ok, Err, OnOk, sym, ap, ◌∙◌, subst, refl}
use Rattle.std.specs.Result.{result_eq}
use Rattle.vdr_core.specs.Histories.{Event, Opening}
use Rattle.vdr_outside.specs.Causes.{NoneFalls, Rose}
use Rattle.vdr_outside.specs.Disk.{Disk}
use Rattle.vdr_outside.proofs.Counts.{sum_rose, none_falls_join, rose_after}
use Rattle.vdr_directory.specs.Sequence.{Placed}
use Rattle.vdr_terms.proofs.Results.{on_ok_both}
use Rattle.vdr_vault.specs.Saves.{Does, HasFaultOn, Saves, refusal_by, refusal_of}
use Rattle.vdr_vault.specs.declared.refused.SaveRefused.{SaveRefused}
use Rattle.vdr_vault.specs.declared.refused.SaveRefused.TheVariants.{Damaged, Fault}
use Rattle.vdr_vault.specs.Vaults.{VaultState, Stands}
use Rattle.std.specs.Prelude.{IsErrAnd}
use Rattle.std.proofs.lemmas.Result.{err_from_is_err_and}
use Rattle.vdr_incident.specs.declared.refused.TableRefused.{TableRefused}
use Rattle.vdr_incident.specs.declared.refused.TableRefused.TheVariants as tables
use Rattle.vdr_ring.specs.declared.refused.ReadRefused.{ReadRefused}
use Rattle.vdr_ring.specs.declared.refused.ReadRefused.TheVariants as reads

-- A success is no error.
pub not_failed : {T E : Type 0} (same : T → T → Bool) (same_error : E → E → Bool) (r : Result T E) (e : E) (b : Bool) → b ≡ result_eq same same_error r (Err e) → OnOk r (b ≡ false)
not_failed same same_error (Ok x) e b is = is
not_failed same same_error (Err x) e b is = tt

-- Damage is no fault.
pub no_fault_of_damage : {T : Type 0} (same : T → T → Bool) (same_error : SaveRefused → SaveRefused → Bool) (r : Result T SaveRefused) (m offset : ℕ) (b : Bool) → r ≡ Err (Damaged m offset)
    → same_error (Damaged m offset) Fault ≡ false → b ≡ result_eq same same_error r (Err Fault) → b ≡ false
no_fault_of_damage same same_error r m offset b is differs told = told ∙ ap (λ (x : Result _ SaveRefused). result_eq same same_error x (Err Fault)) is ∙ differs

pub has_fault : (failed : Bool) (before now : List ℕ) (faulted : Type 0) → NoneFalls before now → (faulted → Rose (get_or before 1 0) (get_or now 1 0)) → HasFaultOn 1 failed before now faulted
has_fault failed before now faulted later rises = record {
  later = later;
  on_medium = λ f. inr (rises f);
  in_all = λ f. inr (sum_rose before now 1 later.same_media later.none_falls (rises f));
}

-- What the vault says of a failure after a success is that there was none.
pub does_so : {tells tells_images T E : Type 0} (opening : Opening) (events : List Event) (e : Event) (placed : ℕ → List Placed) (vault : VaultState) (failed : Bool) (old new : Disk tells tells_images) (result : Result T E)
    → OnOk result (failed ≡ false) → vault.failed ≡ false → Does opening events e placed vault old new result → Does opening events e placed (record vault { failed = failed }) old new result
does_so opening events e placed vault failed old new result fine was does = record {
  moments = does.moments;
  done = on_ok_both result
      (λ is stands. subst (λ (b : Bool). Stands opening (events ++ e ∷ []) (record vault { failed = b }) placed new) (sym is)
      (subst (λ (b : Bool). Stands opening (events ++ e ∷ []) (record vault { failed = b }) placed new) was stands))
      fine does.done;
}

pub stands_so : {tells tells_images : Type 0} (opening : Opening) (events : List Event) (placed : ℕ → List Placed) (vault : VaultState) (failed : Bool) (disk : Disk tells tells_images)
    → failed ≡ false → Stands opening events vault placed disk → Stands opening events (record vault { failed = failed }) placed disk
stands_so opening events placed vault failed disk fine stands =
    subst (λ (b : Bool). Stands opening events (record vault { failed = b }) placed disk) (sym fine)
    (subst (λ (b : Bool). Stands opening events (record vault { failed = b }) placed disk) stands.working stands)

pub saves_so : {tells tells_images : Type 0} (opening : Opening) (events : List Event) (label : List ℕ) (placed : ℕ → List Placed) (vault : VaultState) (failed : Bool) (old new : Disk tells tells_images)
    (result : Result ℕ SaveRefused) → OnOk result (failed ≡ false) → vault.failed ≡ false → Saves opening events label placed vault old new result
    → Saves opening events label placed (record vault { failed = failed }) old new result
saves_so opening events label placed vault failed old new result fine was s = record {
  id = s.id;
  a = s.a;
  b = s.b;
  may_come = s.may_come;
  told = s.told;
  does = λ e is. does_so opening events e placed vault failed old new result fine was (s.does e is);
}

-- What a refusal of a call below is passed on as.

by_fault : (read : ReadRefused) → refusal_by read ≡ Fault → read ≡ reads.Fault
by_fault reads.Fault e = refl
by_fault (reads.Damaged m offset) e = cc

by_damage : (m offset : ℕ) (read : ReadRefused) → refusal_by read ≡ Damaged m offset → read ≡ reads.Damaged m offset
by_damage m offset reads.Fault e = cc
by_damage m offset (reads.Damaged k other) e = cc

of_fault : (refused : TableRefused) → refusal_of refused ≡ Fault → refused ≡ tables.Fault
of_fault tables.TableFull e = cc
of_fault tables.Fault e = refl

pub of_no_damage : (m offset : ℕ) (refused : TableRefused) → refusal_of refused ≡ Damaged m offset → ⊥
of_no_damage m offset tables.TableFull e = cc
of_no_damage m offset tables.Fault e = cc

-- What an error is made of that is handed on.
pub handed_on : {E T : Type 0} (refuses : E → SaveRefused) (below : E) (result : Result T SaveRefused) (x : SaveRefused) → IsErrAnd result (λ refused. refused ≡ refuses below) → result ≡ Err x → refuses below ≡ x
handed_on refuses below result x passed is = let p = err_from_is_err_and result passed in sym p.2 ∙ same p.0 p.1
  where
    same : (y : SaveRefused) → result ≡ Err y → y ≡ x
    same y e = cc

pub damage_handed_on : {T : Type 0} (m offset : ℕ) (read : ReadRefused) (result : Result T SaveRefused) → IsErrAnd result (λ refused. refused ≡ refusal_by read) → result ≡ Err (Damaged m offset)
    → read ≡ reads.Damaged m offset
damage_handed_on m offset read result passed is = by_damage m offset read (handed_on refusal_by read result (Damaged m offset) passed is)

-- Where the vault itself answers damage.
pub damage_is : {T : Type 0} (k at m offset : ℕ) → ◌≡◌ {A = Result T SaveRefused} (Err (Damaged k at)) (Err (Damaged m offset)) → (m ≡ k) × (offset ≡ at)
damage_is k at m offset e = ((cc), (cc))

pub cause_of_read : {S T : Type 0} (before now : List ℕ) (read : ReadRefused) (below : Result S ReadRefused) (result : Result T SaveRefused) → NoneFalls before now
    → (below ≡ Err reads.Fault → Rose (get_or before 1 0) (get_or now 1 0)) → below ≡ Err read → IsErrAnd result (λ refused. refused ≡ refusal_by read)
    → HasFaultOn 1 false before now (result ≡ Err Fault)
cause_of_read before now read below result later rises was passed =
    has_fault false before now (result ≡ Err Fault) later (λ is. rises (was ∙ ap (λ (e : ReadRefused). Err e) (by_fault read (handed_on refusal_by read result Fault passed is))))

pub cause_of_table : {S T : Type 0} (before mid now : List ℕ) (refused : TableRefused) (below : Result S TableRefused) (result : Result T SaveRefused) → NoneFalls before mid → NoneFalls mid now
    → (below ≡ Err tables.Fault → Rose (get_or mid 1 0) (get_or now 1 0)) → below ≡ Err refused → IsErrAnd result (λ passed. passed ≡ refusal_of refused)
    → HasFaultOn 1 false before now (result ≡ Err Fault)
cause_of_table before mid now refused below result first second rises was passed =
    has_fault false before now (result ≡ Err Fault) (none_falls_join before mid now first second)
    (λ is. rose_after _ _ _ (first.none_falls 1) (rises (was ∙ ap (λ (e : TableRefused). Err e) (of_fault refused (handed_on refusal_of refused result Fault passed is)))))
