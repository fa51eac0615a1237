-- Which refusal a refusal of a part, or of a slot that is read, is.
use Rattle.std.proofs.Common.{◌≡◌, ℕ, Result, Err, subst}
use Rattle.vdr_outside.specs.Disk.{Image, content}
use Rattle.vdr_outside.specs.declared.fault.PartRefused.{PartRefused}
use Rattle.vdr_outside.specs.declared.fault.PartRefused.TheVariants as parts
use Rattle.vdr_ring.specs.declared.refused.ReadRefused.{ReadRefused}
use Rattle.vdr_ring.specs.declared.refused.ReadRefused.TheVariants as reads
use Rattle.vdr_remake.specs.Answers.{IsRefused, refusal_of_part, refusal_of_read}
use Rattle.vdr_remake.specs.declared.refused.RemakeRefused.{RemakeRefused}
use Rattle.vdr_remake.specs.declared.refused.RemakeRefused.TheVariants.{Damaged, Fault}

pub part_damaged : {T : Type 0} (x : PartRefused) (m offset : ℕ) → ◌≡◌ {A = Result T RemakeRefused} (Err (refusal_of_part x)) (Err (Damaged m offset)) → x ≡ parts.Damaged m offset
part_damaged parts.NoMemory m offset e = let none : ⊥ = cc in absurd none
part_damaged (parts.Damaged k at) m offset e = cc
part_damaged parts.Fault m offset e = let none : ⊥ = cc in absurd none

pub part_fault : {T : Type 0} (x : PartRefused) → ◌≡◌ {A = Result T RemakeRefused} (Err (refusal_of_part x)) (Err Fault) → x ≡ parts.Fault
part_fault parts.NoMemory e = let none : ⊥ = cc in absurd none
part_fault (parts.Damaged k at) e = let none : ⊥ = cc in absurd none
part_fault parts.Fault e = cc

pub read_damaged : {T : Type 0} (x : ReadRefused) (m offset : ℕ) → ◌≡◌ {A = Result T RemakeRefused} (Err (refusal_of_read x)) (Err (Damaged m offset)) → x ≡ reads.Damaged m offset
read_damaged reads.Fault m offset e = let none : ⊥ = cc in absurd none
read_damaged (reads.Damaged k at) m offset e = cc

pub read_fault : {T : Type 0} (x : ReadRefused) → ◌≡◌ {A = Result T RemakeRefused} (Err (refusal_of_read x)) (Err Fault) → x ≡ reads.Fault
read_fault reads.Fault e = cc
read_fault (reads.Damaged k at) e = let none : ⊥ = cc in absurd none

-- the same refusal by other names of the medium, its segments and its slots
pub refused_by : (s t n k m l : ℕ) (image : Image) (offset : ℕ) → s ≡ t → n ≡ k → m ≡ l → IsRefused s n (content image m) offset → IsRefused t k (content image l) offset
refused_by s t n k m l image offset segment slots medium h =
    subst (λ (x : ℕ). IsRefused x k (content image l) offset) segment
    (subst (λ (x : ℕ). IsRefused s x (content image l) offset) slots
    (subst (λ (x : ℕ). IsRefused s n (content image x) offset) medium h))
