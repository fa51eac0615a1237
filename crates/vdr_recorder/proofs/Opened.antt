-- A recorder that was opened has an empty history over its opening.
use Rattle.std.proofs.Common.{◌≡◌, ◌≢◌, ◌<◌, ◌≤◌, ◌+◌, ℕ, List, [], sum_by, suc, false, Option, Some, None, Result, Ok, Err, inl, inr, refl, sym, ap, ◌∙◌, subst, arith, true≢false, ⊎_elim}
use Rattle.std.proofs.lemmas.List.Elements.{All-nil}
use Rattle.vdr_terms.specs.Needs.{cost, usable}
use Rattle.vdr_terms.specs.Order.{AreInOrder}
use Rattle.vdr_terms.specs.Records.{Record, last}
use Rattle.vdr_core.specs.Histories.{Event, Opening, Settings, stamp_of}
use Rattle.vdr_core.specs.Runs.{RunStart}
use Rattle.vdr_durability.specs.Layout.{Batches, batches_size_at, records_in}
use Rattle.vdr_durability.specs.Readings.{next_after}
use Rattle.vdr_durability.specs.Keeping.{Keeps}
use Rattle.vdr_outside.specs.Disk.{Disk, Image}
use Rattle.vdr_config.specs.Sizes.{sizes_of}
use Rattle.vdr_durability.specs.Media.{EndsBefore, IsMediumOf}
use Rattle.vdr_durability.proofs.Media.{at_opening}
use Rattle.vdr_media.proofs.Members.{of_all, of_each}
use Rattle.vdr_directory.specs.Sequence.{Placed, all_records, batches_in, segments_in}
use Rattle.vdr_ring.specs.Regularity.{AreLaidOut, AreRegular}
use Rattle.vdr_opening.specs.declared.refused.OpenRefused.{OpenRefused}
use Rattle.vdr_vault.specs.Openings.{GoesOnSynced, OpensAtEachMoment}
use Rattle.vdr_opening.specs.Answers.{further_on}
use Rattle.vdr_vault.specs.Vaults.{HoldsHistory, VaultState, ShowsHistory, Stands, ring_of}
use Rattle.vdr_ring.proofs.Records.{records_are}
use Rattle.vdr_ring.proofs.Continuing.{last_of, last_by_batch, regular_batches}
use Rattle.vdr_recorder.specs.Recordings.{HasRecorded, start_of_opening}
use Rattle.vdr_run.specs.declared.maker.Maker.{Maker}
use Rattle.vdr_recorder.proofs.Continuing.{told_at_rest}

module _ (cost usable batch : ℕ) (placed : List Placed) where
  regular_order : AreLaidOut cost usable batch placed → AreInOrder (records_in (segments_in placed))
  regular_order (inl none) = subst (λ (ps : List Placed). AreInOrder (records_in (segments_in ps))) (sym none) tt
  regular_order (inr k) = subst (λ (segments : List Batches). AreInOrder (records_in segments)) (sym k.2) k.3.order

  regular_paced : AreLaidOut cost usable batch placed → (s : ℕ) → sum_by (batches_size_at s) (segments_in placed) ≤ cost
  regular_paced (inl none) s = subst (λ (ps : List Placed). sum_by (batches_size_at s) (segments_in ps) ≤ cost) (sym none) (omega arith)
  regular_paced (inr k) s = subst (λ (segments : List Batches). sum_by (batches_size_at s) segments ≤ cost) (sym k.2) (k.3.paced s)

ends_at : (start : RunStart) (o : Option Record) → start.place ≡ next_after o → start.last ≡ stamp_of o None → EndsBefore start o
ends_at start None place stamp = tt
ends_at start (Some r) place stamp = (sym place, stamp)

-- The syncs had succeeded where the opening did.
pub synced_where : {tells tells_images T : Type 0} (old new : Disk tells tells_images) (result : Result T OpenRefused) (x : T) (shows : Image → Type 0) → result ≡ Ok x
    → OpensAtEachMoment old new result shows → GoesOnSynced old new shows
synced_where old new result x shows ok (inl ends) = absurd (clash _ ends.failed)
  where
    clash : (e : OpenRefused) → result ≡ Err e → ⊥
    clash e f = cc
synced_where old new result x shows ok (inr on) = on

-- The answer of a refused opening is passed on.
pub same_refused : {T U : Type 0} (result : Result T OpenRefused) (out : Result U OpenRefused) (was is refused : OpenRefused) → result ≡ Err was → out ≡ Err is → is ≡ was → out ≡ Err refused
    → result ≡ Err refused
same_refused {T} {U} result out was is refused e f same answer = e ∙ ap (λ (x : OpenRefused). Err x) (sym same ∙ one is refused (sym f ∙ answer))
  where
    one : (a b : OpenRefused) → ◌≡◌ {A = Result U OpenRefused} (Err a) (Err b) → a ≡ b
    one a b e = cc

pub opens_as : {tells tells_images T U : Type 0} (old new : Disk tells tells_images) (result : Result T OpenRefused) (out : Result U OpenRefused) (was is : OpenRefused) (shows : Image → Type 0)
    → result ≡ Err was → out ≡ Err is → is ≡ was → OpensAtEachMoment old new result shows → OpensAtEachMoment old new out shows
opens_as old new result out was is shows e f same (inl ends) = inl (record { failed = same_refused out result is was _ f e (sym same) ends.failed; moments = ends.moments })
opens_as old new result out was is shows e f same (inr on) = inr on

-- The media keep what was opened from its syncs on.
pub keeps_synced : {tells tells_images : Type 0} (shows : List Event → Image → Type 0) (t0 : ℕ) (disk : Disk tells tells_images)
    → t0 ≤ disk.clock → ((image : Image) → disk.since t0 image → shows [] image) → Keeps shows [] t0 disk
keeps_synced shows t0 disk low shown = record {
  rising = omega arith;
  pending = tt;
  prefixes = λ t image after end left. record { first = []; rest = []; split = refl; enough = omega arith; shown = shown image (disk.earlier t0 t image after left) };
  one_more = λ t image after end left. ⊎_elim (λ was. inl was) (λ since. inr (record { first = []; rest = []; split = refl; few = omega arith; shown = shown image since })) (disk.until_or_since t0 (suc t) image low left);
  now = λ whole image now. shown image (disk.counts_now t0 image low now);
}

module _ {tells tells_images : Type 0} (opening : Opening) (vault : VaultState) (placed : ℕ → List Placed) (disk : Disk tells tells_images) (stands : Stands opening [] vault placed disk) where
  regular_on : (m : ℕ) → m < 2 + further_on vault.rings → AreRegular (cost (sizes_of vault.config)) (usable (sizes_of vault.config)) vault.config.batch (placed m)
  regular_on m l = (of_each (λ m. HoldsHistory opening [] vault.config m (ring_of vault m) (placed m) disk) (further_on vault.rings) stands.media m l).regular

  ends_first : EndsBefore (start_of_opening opening) (last (all_records (placed 0)))
  ends_first = ends_at (start_of_opening opening) (last (all_records (placed 0))) (let here = stands.place in omega (arith, here)) stands.stamp

  -- All media end with the same record.
  same_end : (m : ℕ) → m < 2 + further_on vault.rings → last (all_records (placed m)) ≡ last (all_records (placed 0))
  same_end m l =
      ap last (sym (records_are (placed m)))
      ∙ last_by_batch (batches_in (placed m)) (regular_batches (cost (sizes_of vault.config)) (usable (sizes_of vault.config)) vault.config.batch (placed m) (regular_on m l).layout)
      ∙ ap last_of (of_each (λ m. last (batches_in (placed m)) ≡ last (batches_in (placed 0))) (further_on vault.rings) stands.level m l)
      ∙ sym (last_by_batch (batches_in (placed 0)) (regular_batches (cost (sizes_of vault.config)) (usable (sizes_of vault.config)) vault.config.batch (placed 0) (regular_on 0 (omega arith)).layout))
      ∙ ap last (records_are (placed 0))

  medium_opened : (m : ℕ) → AreRegular (cost (sizes_of vault.config)) (usable (sizes_of vault.config)) vault.config.batch (placed m) → EndsBefore (start_of_opening opening) (last (all_records (placed m)))
      → IsMediumOf (sizes_of vault.config) (start_of_opening opening) (segments_in (placed m)) [] (segments_in (placed m))
  medium_opened m regular ends =
      at_opening (sizes_of vault.config) (start_of_opening opening) (segments_in (placed m)) (λ g. ap (λ (s : Settings). s.limits g) stands.settings) (record {
        order = regular_order (cost (sizes_of vault.config)) (usable (sizes_of vault.config)) vault.config.batch (placed m) regular.layout;
        ends = ends;
        paced = regular_paced (cost (sizes_of vault.config)) (usable (sizes_of vault.config)) vault.config.batch (placed m) regular.layout;
      })

  pub has_opened : (t0 : ℕ) (maker : Maker) → t0 ≤ disk.clock → ((image : Image) → disk.since t0 image → ShowsHistory opening [] image)
      → HasRecorded opening [] t0 (record { vault = vault; maker = maker; is_open = false }) disk
  has_opened t0 maker low shown = record {
    history = record { follow = tt; pending = tt };
    made = tt;
    failed = stands.working;
    told = told_at_rest opening [] (All-nil (λ (e : Event). e.moment ≢ None)) vault placed disk stands;
    rises = low;
    kept = keeps_synced (ShowsHistory opening) t0 disk low shown;
    works = λ works. record {
      standing = record {
        placed = placed;
        first = placed;
        stands = stands;
        media = of_all (λ m. IsMediumOf (sizes_of vault.config) (start_of_opening opening) (segments_in (placed m)) [] (segments_in (placed m))) (further_on vault.rings)
            (λ m l. medium_opened m (regular_on m l) (subst (EndsBefore (start_of_opening opening)) (sym (same_end m l)) ends_first));
      };
      open_is = refl;
      makes = λ opened. absurd (true≢false (sym opened));
    };
  }
