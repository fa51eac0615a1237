-- What reads change of a vault: the buffer of one ring.
use Rattle.std.proofs.Common.{◌≡◌, ◌≤◌, ◌⊎◌, inl, inr, ⊎_elim, ℕ, Bool, true, List, get_or, sum, sym, ap, ◌∙◌, subst, arith, Result, Ok, OnOk}
use Rattle.vdr_terms.specs.Queries.{Query}
use Rattle.vdr_durability.specs.Playback.{medium_of}
use Rattle.vdr_outside.specs.Causes.{Rose}
use Rattle.vdr_outside.specs.Disk.{Disk, Unchanged}
use Rattle.vdr_outside.proofs.Counts.{none_falls_join, rose_after, sum_not_less}
use Rattle.vdr_outside.proofs.Moments.{unchanged_join}
use Rattle.vdr_config.specs.Configuration.{Configuration}
use Rattle.vdr_ring.specs.Rings.{RingState}
use Rattle.vdr_vault.specs.Vaults.{IsDamagedOn, VaultState, ring_of}
use Rattle.vdr_vault.specs.Plays.{ReadsOn}
use Rattle.vdr_vault.proofs.Stepping.{damaged_still}
use Rattle.vdr_vault.specs.Refusals.{HasVisitCause}
use Rattle.vdr_vault.specs.Visits.{HasOnlyRead}

pub reads_keep : (m : ℕ) (x y : VaultState) → ReadsOn m x y
    → (y.config ≡ x.config) × (y.table ≡ x.table) × (y.next_place ≡ x.next_place) × (y.last ≡ x.last) × (y.failed ≡ x.failed)
reads_keep m x y h = (
  ap (λ (s : VaultState). s.config) h.vault,
  ap (λ (s : VaultState). s.table) h.vault,
  ap (λ (s : VaultState). s.next_place) h.vault,
  ap (λ (s : VaultState). s.last) h.vault,
  ap (λ (s : VaultState). s.failed) h.vault,
)

pub reads_keep_failed : (m : ℕ) (x y : VaultState) → ReadsOn m x y → y.failed ≡ x.failed
reads_keep_failed m x y h = (reads_keep m x y h).4

pub reads_join : (m : ℕ) (x y z : VaultState) → ReadsOn m x y → ReadsOn m y z → ReadsOn m x z
reads_join m x y z h k = record {
  vault = k.vault ∙ ap (λ (s : VaultState). record s { rings = z.rings }) h.vault;
  count = k.count ∙ h.count;
  ring = k.ring ∙ ap (λ (r : RingState). record r { buffer = (ring_of z m).buffer; loaded = (ring_of z m).loaded }) h.ring;
  others = λ n other. k.others n other ∙ h.others n other;
}

-- Damage of what was read is damage as it was before.
pub damaged_before : {tells tells_images : Type 0} (m : ℕ) (x y : VaultState) (before after : Disk tells tells_images) → ReadsOn m x y → Unchanged before after → tells
    → (k offset : ℕ) → IsDamagedOn y.config after k offset → IsDamagedOn x.config before k offset
damaged_before m x y before after reads same told k offset damaged =
    damaged_still x.config after before (sym same.sizes) (sym (same.reads told)) k offset
    (subst (λ (c : Configuration). IsDamagedOn c after k offset) (reads_keep m x y reads).0 damaged)

-- What holds after Ok, of a call that answered it.
pub left_of : {T E P : Type 0} {result : Result T E} {x : T} → result ≡ Ok x → OnOk result P → P
left_of {P = P} is h = subst (λ (r : Result _ _). OnOk r P) is h

-- A query's medium was read twice.
pub only_read_join : {tells tells_images : Type 0} (query : Query) (x y z : VaultState) (before mid after : Disk tells tells_images) (read_before read_mid read_after : List ℕ)
    → HasOnlyRead query x y before mid read_before read_mid → HasOnlyRead query y z mid after read_mid read_after → HasOnlyRead query x z before after read_before read_after
only_read_join query x y z before mid after read_before read_mid read_after h k = record {
  vault = reads_join (medium_of query.medium) x y z h.vault k.vault;
  rings = k.rings;
  unchanged = unchanged_join before mid after h.unchanged k.unchanged;
  counts = λ m other. k.counts m other ∙ h.counts m other;
  judged = λ judged. k.judged (h.judged judged);
  stands = λ opening events placed stands. k.stands opening events placed (h.stands opening events placed stands);
  readable = λ opening events placed readable. k.readable opening events placed (h.readable opening events placed readable);
}

-- A count that rose before counts that did not fall.
rose_still : (before mid after : ℕ) → Rose before mid → mid ≤ after → Rose before after
rose_still before mid after rose later = omega (arith, rose, later)

-- The causes of the faults of both.
pub cause_join : (m : ℕ) (failed : Bool) (before mid after : List ℕ) (first second : Type 0) → HasVisitCause m failed before mid first → HasVisitCause m failed mid after second
    → HasVisitCause m failed before after (first ⊎ second)
cause_join m failed before mid after first second h k = record {
  later = none_falls_join before mid after h.later k.later;
  on_medium = λ answered. ⊎_elim
      (λ (one : first). ⊎_elim (λ (had : failed ≡ true). inl had)
      (λ (rose : Rose (get_or before m 0) (get_or mid m 0)). inr (rose_still (get_or before m 0) (get_or mid m 0) (get_or after m 0) rose (k.later.none_falls m))) (h.on_medium one))
      (λ (two : second). ⊎_elim (λ (had : failed ≡ true). inl had)
      (λ (rose : Rose (get_or mid m 0) (get_or after m 0)). inr (rose_after (get_or before m 0) (get_or mid m 0) (get_or after m 0) (h.later.none_falls m) rose)) (k.on_medium two))
      answered;
  in_all = λ answered. ⊎_elim
      (λ (one : first). ⊎_elim (λ (had : failed ≡ true). inl had)
      (λ (rose : Rose (sum before) (sum mid)). inr (rose_still (sum before) (sum mid) (sum after) rose (sum_not_less mid after k.later.same_media k.later.none_falls))) (h.in_all one))
      (λ (two : second). ⊎_elim (λ (had : failed ≡ true). inl had)
      (λ (rose : Rose (sum mid) (sum after)). inr (rose_after (sum before) (sum mid) (sum after) (sum_not_less before mid h.later.same_media h.later.none_falls) rose)) (k.in_all two))
      answered;
}
