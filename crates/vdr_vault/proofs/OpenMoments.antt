-- Causes of faults over the calls of an opening.
use Rattle.std.proofs.Common.{◌≡◌, ◌<◌, ◌≤◌, ◌+◌, ◌-◌, ℕ, List, [], get_or, Result, Ok, Err, refl, subst, ◌⊎◌, inl, inr, None, option_map, false, All, Contains, sym, ap, ◌∙◌, arith, append-nil}
use Rattle.std.specs.Prelude.{Any, IsErrOf}
use Rattle.vdr_outside.specs.Causes.{HasCauseOn, NoneFalls, Rose}
use Rattle.vdr_outside.proofs.Counts.{none_falls_join, on_err, rose_after, sum_rose}
use Rattle.vdr_opening.specs.declared.refused.OpenRefused.{OpenRefused}
use Rattle.vdr_opening.specs.declared.refused.OpenRefused.TheVariants.{Fault as a_fault}
use Rattle.vdr_opening.specs.Media.{members_in, members_with, Contents, HoldsContents, opening_of, reading_of}
use Rattle.vdr_opening.specs.Answers.{HasOpenCause, IsOpened, OpenedState, further_on}
use Rattle.vdr_vault.specs.Openings.{HasCauseOnBoth, EndsWithin, GoesOnBehind, GoesOnSynced, LeavesAll, OpensMeanwhile, opened_with}
use Rattle.std.proofs.lemmas.List.Elements.{All-weaker}
use Rattle.vdr_terms.specs.Order.{AreInOrder as RecordsAreInOrder}
use Rattle.vdr_terms.specs.Records.{Record, last}
use Rattle.vdr_core.specs.Histories.{incidents}
use Rattle.vdr_durability.specs.Retention.{Retains}
use Rattle.vdr_durability.specs.Readings.{AreLevel, next_after, records_on}
use Rattle.vdr_durability.specs.Shown.{given_with, pins_on}
use Rattle.vdr_durability.proofs.Restored.{level_restored}
use Rattle.vdr_durability.proofs.Shows.{retains_itself}
use Rattle.vdr_config.specs.Configuration.{Configuration}
use Rattle.vdr_media.proofs.Members.{of_all, of_each}
use Rattle.vdr_outside.specs.Disk.{Disk, Durable, Image, SameBut, Unchanged, content}
use Rattle.vdr_outside.specs.Moments.{AtEachMoment}
use Rattle.vdr_outside.proofs.Moments.{moments_after_reads, moments_and_reads, moments_join, moments_none, moments_weaken}
use Rattle.vdr_media.specs.Formatted.{IsFormatted, IsUnformatted}
use Rattle.vdr_directory.specs.Sequence.{Placed, all_records}
use Rattle.vdr_ring.proofs.Medium.{in_order_records}
use Rattle.vdr_directory.specs.Holds.{HoldsPlaced, Tells}
use Rattle.vdr_ring.specs.Rings as rings
use Rattle.vdr_opening.specs.Settings.{settings_of}
use Rattle.vdr_vault.specs.Regularity.{AreSound}
use Rattle.vdr_vault.specs.Vaults.{IsReadable, IsReadableAt, VaultState, ShowsHistory, ring_of, tick_utc}
use Rattle.vdr_ring.proofs.Records.{records_are}
use Rattle.vdr_vault.proofs.ShownImages.{is_member}
use Rattle.vdr_vault.proofs.ReconcileBatch.{held_within}
use Rattle.vdr_vault.proofs.OpenContents.{held_durable, restored_shown}

-- A call on one of the media, after calls that did not lower a count.
pub cause_of_call : {T E : Type 0} (ms : List ℕ) (m : ℕ) (a b c : List ℕ) (r : Result T E) → ((P : ℕ → Type 0) → P m → Any P ms) → NoneFalls a b → HasCauseOn m b c r → HasCauseOnBoth ms a c r
cause_of_call ms m a b c (Ok x) one_of earlier h = record { later = none_falls_join a b c earlier h.later; by_medium = tt; in_all = tt }
cause_of_call ms m a b c (Err e) one_of earlier h =
    let later : NoneFalls a c = none_falls_join a b c earlier h.later in
    let rose : Rose (get_or a m 0) (get_or c m 0) = rose_after (get_or a m 0) (get_or b m 0) (get_or c m 0) (earlier.none_falls m) h.failed in
    record { later = later; by_medium = one_of (λ k. Rose (get_or a k 0) (get_or c k 0)) rose; in_all = sum_rose a c m later.same_media later.none_falls rose }

-- An error that is made of the error of such calls.
pub cause_of_error : {T E U F : Type 0} (ms a c : List ℕ) (e : E) (r : Result T E) (s : Result U F) → HasCauseOnBoth ms a c r → r ≡ Err e → HasCauseOnBoth ms a c s
cause_of_error ms a c e r s h is =
    let k = subst (HasCauseOnBoth ms a c) is h in
    record { later = k.later; by_medium = on_err s k.by_medium; in_all = on_err s k.in_all }

-- The fault that opening answers then.
pub fault_of_error : {T E U : Type 0} (ms a b c : List ℕ) (e : E) (r : Result T E) (s : Result U OpenRefused) → NoneFalls a b → HasCauseOnBoth ms b c r → r ≡ Err e → HasOpenCause ms a c s
fault_of_error ms a b c e r s earlier h is =
    let k = subst (HasCauseOnBoth ms b c) is h in
    let later : NoneFalls a c = none_falls_join a b c earlier k.later in
    let rose : Any (λ m. Rose (get_or a m 0) (get_or c m 0)) ms =
    (k.by_medium.0, k.by_medium.1, k.by_medium.2, k.by_medium.3, rose_after (get_or a k.by_medium.1 0) (get_or b k.by_medium.1 0) (get_or c k.by_medium.1 0) (earlier.none_falls k.by_medium.1) k.by_medium.4) in
    record { later = later; by_medium = λ _. rose; in_all = λ _. sum_rose a c rose.1 later.same_media later.none_falls rose.4 }

-- The cause of the last call, after calls that did not lower a count.
pub cause_after : {U : Type 0} (ms a b c : List ℕ) (s : Result U OpenRefused) → NoneFalls a b → HasOpenCause ms b c s → HasOpenCause ms a c s
cause_after ms a b c s earlier k =
    let later : NoneFalls a c = none_falls_join a b c earlier k.later in
    record {
      later = later;
      by_medium = λ is. rose is;
      in_all = λ is. let r = rose is in sum_rose a c r.1 later.same_media later.none_falls r.4;
    }
  where
    rose : IsErrOf s a_fault → Any (λ m. Rose (get_or a m 0) (get_or c m 0)) ms
    rose is = let m = k.by_medium is in (m.0, m.1, m.2, m.3, rose_after (get_or a m.1 0) (get_or b m.1 0) (get_or c m.1 0) (earlier.none_falls m.1) m.4)

pub no_fault : {U : Type 0} (ms a c : List ℕ) (x : U) → NoneFalls a c → HasOpenCause ms a c (Ok x)
no_fault ms a c x later = record {
  later = later;
  by_medium = λ is. let none : ⊥ = cc in absurd none;
  in_all = λ is. let none : ⊥ = cc in absurd none;
}

-- Of so many rings
pub cause_as : {T E : Type 0} (further count : ℕ) (a c : List ℕ) (r : Result T E) → count ≡ 2 + further → HasCauseOnBoth (members_with (count - 2)) a c r → HasCauseOnBoth (members_with further) a c r
cause_as further count a c r is h = let same : count - 2 ≡ further = omega (arith, is) in subst (λ (n : ℕ). HasCauseOnBoth (members_with n) a c r) same h

-- The last of them did not succeed.
pub fault_unless_ok : {T E U : Type 0} (ms a b c : List ℕ) (r : Result T E) (s : Result U OpenRefused) → ((x : T) → r ≡ Ok x → ⊥) → NoneFalls a b → HasCauseOnBoth ms b c r → HasOpenCause ms a c s
fault_unless_ok ms a b c (Ok x) s not_ok earlier h = absurd (not_ok x refl)
fault_unless_ok ms a b c (Err e) s not_ok earlier h = fault_of_error ms a b c e (Err e) s earlier h refl

-- What holds at every moment of an opening, call by call.

-- A vault that is made of what was opened, wherever it goes on.
abbrev pub vault_of : OpenedState → VaultState
vault_of o = record { config = o.config; rings = o.rings; table = o.table; next_place = 0; last = None; failed = false }

-- Media are formatted or not.
pub never_both : (image : Image) → IsFormatted image → IsUnformatted image → ⊥
never_both image formatted (inl small) = let room = formatted.room in omega (arith, room, small)
never_both image formatted (inr closed) = closed formatted.gate

-- Nothing but media behind the first was written, where one stands there.
pub only_later : (a b : Image) (count : ℕ) → count ≡ 2 → ((k : ℕ) → (k < 1) ⊎ (count ≤ k) → content b k ≡ content a k) → SameBut 1 a b
only_later a b count is same k other = same k (grind (arith, other, is))

pub same_beside : (a b c : Image) → b ≡ a → SameBut 1 b c → SameBut 1 a c
same_beside a b c same h = subst (λ (i : Image). SameBut 1 i c) same h

module _ {tells tells_images : Type 0} where
  -- The media that an image says are durable, and so those of its contents.
  pub durable_as : (x : Contents) (disk : Disk tells tells_images) → HoldsContents disk.reads x → All (λ m. Durable m disk) (members_in disk.reads) → All (λ m. Durable m disk) (members_with x.further)
  durable_as x disk holds durable = subst (λ (n : ℕ). All (λ m. Durable m disk) (members_with n)) (sym holds.further) durable

  -- What was read of media, with the batch that is missing.
  pub read_on : (o : OpenedState) (missing : List Record) (x : Contents) (disk : Disk tells tells_images) → missing ≡ o.missing → IsOpened o x disk → IsOpened (opened_with (vault_of o) missing o.lacking) x disk
  read_on o missing x disk is was = subst (λ (rs : List Record). IsOpened (opened_with (vault_of o) rs o.lacking) x disk) (sym is) was

  -- Calls that only read durable media.
  pub reading_meanwhile : (x : Contents) (old new : Disk tells tells_images) → Unchanged old new → All (λ m. Durable m old) (members_with x.further) → HoldsContents old.reads x → OpensMeanwhile x old new
  reading_meanwhile x old new same durable h = record {
    level = λ level. same;
    within = λ meet. moments_and_reads old old new _ (moments_none old _ (λ i now. held_within x i meet (held_durable x old durable h i now))) same;
    moments = λ meet sound. moments_and_reads old old new _ (moments_none old _ (λ i now. restored_shown x i (held_durable x old durable h i now) meet sound)) same;
  }

  -- And then the batch that is missing is appended, if any.
  pub opening_meanwhile : {A : Type 0} (disk : A → Disk tells tells_images) (x : Contents) (old : Disk tells tells_images) (mid new : A) → Unchanged old (disk mid) → (AreLevel (members_with x.further) (reading_of x) → new ≡ mid)
      → AtEachMoment (disk mid) (disk new) (EndsWithin x) → (AreSound x → AtEachMoment (disk mid) (disk new) (ShowsHistory (opening_of x) [])) → OpensMeanwhile x old (disk new)
  opening_meanwhile disk x old mid new same still within shown = record {
    level = λ level. subst (λ a. Unchanged old (disk a)) (sym (still level)) same;
    within = λ meet. moments_after_reads old (disk mid) (disk new) _ same within;
    moments = λ meet sound. moments_after_reads old (disk mid) (disk new) _ same (shown sound);
  }

  -- Before the syncs a stop leaves what it might have left, and after them whole batches.
  pub within_synced : (x : Contents) (old mid new : Disk tells tells_images) → LeavesAll old mid → AtEachMoment mid new (EndsWithin x) → AtEachMoment old new (λ i. old.now i ⊎ EndsWithin x i)
  within_synced x old mid new first second = moments_join old mid new _ (moments_weaken old mid _ _ first (λ i now. inl now)) (moments_weaken mid new _ _ second (λ i s. inr s))

  -- Once the syncs have succeeded.
  pub goes_on_synced : (shows : Image → Type 0) (old mid new : Disk tells tells_images) → LeavesAll old mid → AtEachMoment mid new shows → GoesOnSynced old new shows
  goes_on_synced shows old mid new first second = record {
    synced = mid.clock;
    after_entry = first.later;
    before_exit = second.later;
    moments = moments_join old mid new _ (moments_weaken old mid _ _ first (λ i now. inl now)) (moments_weaken mid new _ _ second (λ i s. inr s));
    since = second.each;
  }

  -- Legible media whose ends are level can be read as they were opened.
  pub opened_to_read : (x : Contents) (vault : VaultState) (missing : List Record) (lacking : ℕ) (disk : Disk tells tells_images) → IsOpened (opened_with vault missing lacking) x disk → AreLevel (members_with x.further) (reading_of x)
      → vault.failed ≡ false → IsReadable (opening_of x) [] vault x.placed disk
  opened_to_read x vault missing lacking disk o level works = record {
    settings = ap (λ (c : Configuration). settings_of c x.text) (sym o.config);
    working = works;
    media = of_all (λ m. IsReadableAt (opening_of x) [] m (ring_of vault m) (x.placed m) disk) (further_on vault.rings) (λ m lt.
        let count = o.count in
        let there : m < 2 + x.further = omega (arith, lt, count) in
        is_there m (is_member x.further m there) (of_each (λ m. rings.Reads (ring_of vault m) (x.placed m) disk) x.further o.rings m there));
    incidents_are = o.table;
  }
    where
      given_is : (m : ℕ) → Contains (members_with x.further) m → given_with (opening_of x) [] m ≡ all_records (x.placed m)
      given_is m there = append-nil ((opening_of x).records m) ∙ level_restored (members_with x.further) (reading_of x) level
          (All-weaker (λ m. rings.Reads (ring_of vault m) (x.placed m) disk) (λ m. RecordsAreInOrder (records_on (reading_of x) m))
          (λ m reads. subst RecordsAreInOrder (sym (records_are (x.placed m))) (in_order_records (x.placed m) reads.order)) (members_with x.further) o.rings) m there
          ∙ records_are (x.placed m)

      is_there : (m : ℕ) → Contains (members_with x.further) m → rings.Reads (ring_of vault m) (x.placed m) disk → IsReadableAt (opening_of x) [] m (ring_of vault m) (x.placed m) disk
      is_there m there reads = record {
        reads = reads;
        order = subst RecordsAreInOrder (sym (given_is m there)) (in_order_records (x.placed m) reads.order);
        retains = subst (λ (all : List Record). Retains ((opening_of x).settings.seconds m) (pins_on m (incidents (opening_of x) [])) all (all_records (x.placed m))) (sym (given_is m there))
            (retains_itself ((opening_of x).settings.seconds m) (pins_on m (incidents (opening_of x) [])) (all_records (x.placed m)));
      }

  pub readable_as : {A : Type 0} (disk : A → Disk tells tells_images) (x : Contents) (vault new : VaultState) (before now : A) → new ≡ vault → now ≡ before
      → IsReadable (opening_of x) [] vault x.placed (disk before) → IsReadable (opening_of x) [] new x.placed (disk now)
  readable_as disk x vault new before now same still h =
      subst (λ a. IsReadable (opening_of x) [] new x.placed (disk a)) (sym still) (subst (λ (s : VaultState). IsReadable (opening_of x) [] s x.placed (disk before)) (sym same) h)

  -- What the leading ring tells of its end, of the contents that the media hold.
  pub goes_on : (x : Contents) (vault : VaultState) (missing : List Record) (lacking : ℕ) (disk : Disk tells tells_images) → tells → IsOpened (opened_with vault missing lacking) x disk
      → ((placed : List Placed) (bytes : List ℕ) → Tells (ring_of vault 0).slots placed (ring_of vault 0).directory → HoldsPlaced (ring_of vault 0).segment (ring_of vault 0).slots placed bytes
      → vault.next_place ≡ next_after (last (all_records placed)))
      → ((placed : List Placed) → Tells (ring_of vault 0).slots placed (ring_of vault 0).directory → vault.last ≡ option_map tick_utc (last (all_records placed)))
      → GoesOnBehind x vault
  goes_on x vault missing lacking disk told o next newest =
      let reads = o.rings 0 0 (omega arith) in
      record { place = next (x.placed 0) _ reads.directory (reads.settled.reads told); newest = newest (x.placed 0) reads.directory }
