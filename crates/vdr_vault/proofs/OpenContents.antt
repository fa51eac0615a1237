-- What was opened, by its contents and by what opening reads of them, and what a durable image of them shows.
use Rattle.std.proofs.Common.{◌≡◌, ◌≢◌, ◌<◌, ◌+◌, inl, inr, ℕ, List, [], ◌∷◌, Option, Some, None, option_map, refl, sym, ap, ◌∙◌, subst, arith}
use Rattle.std.specs.Prelude.{length, get_or, drop, true, All}
use Rattle.std.proofs.lemmas.Bool.{false≢true}
use Rattle.std.proofs.lemmas.List.Elements.{All-append, All-cons, All-contains, All-head, All-nil, All-tail}
use Rattle.vdr_terms.specs.Order.{AreInOrder as RecordsAreInOrder, NeverFalls, RunOn}
use Rattle.vdr_terms.specs.Records.{Record, last}
use Rattle.vdr_terms.specs.Slots.{slot_count}
use Rattle.vdr_durability.specs.Layout.{Batches, segment_records}
use Rattle.vdr_durability.proofs.Lists.{last_contained}
use Rattle.vdr_durability.proofs.Ordered.{parts_in_order, run_on_in_order}
use Rattle.vdr_durability.specs.Retention.{Retains}
use Rattle.vdr_core.specs.Histories.{stamp_of}
use Rattle.vdr_durability.specs.Readings.{AreLevel, EndBy, EndsMeet, Reading, ends_before, next_after, records_on, restored, with_next}
use Rattle.vdr_durability.specs.Shown.{pins_on}
use Rattle.vdr_durability.proofs.Restored.{ends_not_before, next_kept}
use Rattle.vdr_durability.proofs.Shows.{opened_shows, retains_itself}
use Rattle.vdr_outside.specs.Disk.{Disk, Durable, Image, content}
use Rattle.vdr_config.specs.Configuration.{Configuration}
use Rattle.vdr_config.specs.Sizes.{window_of}
use Rattle.vdr_entry.specs.declared.summary.Summary.{Summary}
use Rattle.vdr_media.proofs.Members.{of_all, of_each}
use Rattle.vdr_directory.specs.Sequence.{Placed, all_records, batches_in, batches_of, first_of}
use Rattle.vdr_directory.specs.Order.{AreInOrder}
use Rattle.vdr_directory.specs.Knowns.{AreInPlaceBy, batches_read}
use Rattle.vdr_directory.specs.Opening.{AreBatchesRead, slot_bytes}
use Rattle.vdr_directory.specs.Telling.{TellsBy}
use Rattle.vdr_ring.specs.Rings.{RingState}
use Rattle.vdr_ring.specs.Rings as rings
use Rattle.vdr_ring.specs.Whole.{is_filled}
use Rattle.vdr_ring.proofs.Medium.{in_order_records}
use Rattle.vdr_incident.specs.Tables.{HoldsTable}
use Rattle.vdr_opening.specs.Media.{members_with, Contents, HasKnowns, HoldsContents, HoldsParts, IsMedium, IsMediumBy, opening_of, reading_of}
use Rattle.vdr_opening.specs.Settings.{settings_of}
use Rattle.vdr_opening.specs.Answers.{IsMissing, IsOpened, IsOpenedBy, OpenedState, ring_at}
use Rattle.vdr_vault.specs.Openings.{IsLeftAsRead, TellsOfParts}
use Rattle.vdr_vault.specs.Regularity.{AreSound}
use Rattle.vdr_vault.specs.Vaults.{ShowsHistory, VaultState, of_stamp, ring_of, tick_utc}
use Rattle.vdr_ring.proofs.Records.{records_are}
use Rattle.vdr_vault.proofs.Members.{given_at, waiting_at}
use Rattle.vdr_vault.proofs.ShownImages.{are_members, has_long_term}
use Rattle.vdr_vault.proofs.ShownPlaces.{stamp_told}

module _ {tells tells_images : Type 0} where
  -- What a stop may leave of durable media holds what they read as.
  pub held_durable : (x : Contents) (disk : Disk tells tells_images) → All (λ m. Durable m disk) (members_with x.further) → HoldsContents disk.reads x → (i : Image) → disk.now i → HoldsContents i x
  held_durable x disk durable h i now = record {
    further = h.further;
    media = λ k d lt. let m = get_or (members_with x.further) k d in subst (IsMedium m x.config x.text (x.placed m)) (sym ((durable k d lt).each i now)) (h.media k d lt);
    table = subst (HoldsTable x.config.incident_slots x.table) (sym ((durable 1 1 (omega arith)).each i now)) h.table;
    there = h.there;
    filled = λ k d lt.
        let m = get_or (members_with x.further) k d in
        subst (λ (bytes : List ℕ). x.filled m ≡ is_filled (slot_count x.config.segment (length bytes)) (x.placed m)) (sym ((durable k d lt).each i now)) (h.filled k d lt);
  }

-- Contents whose ends meet show what is opened on them.
pub restored_shown : (x : Contents) (image : Image) → HoldsContents image x → EndsMeet (members_with x.further) (reading_of x) → AreSound x → ShowsHistory (opening_of x) [] image
restored_shown x image holds meet sound = (
  members_with x.further,
  reading_of x,
  record { reads = record { members_are = refl; contents = x; holds = holds; is = refl }; sound = sound },
  opened_shows (members_with x.further) (settings_of x.config x.text) (reading_of x) (reading_of x) (are_members x.further) (has_long_term x.further) refl refl meet
      (of_all (λ m. Retains (window_of x.config m) (pins_on m x.table) (given m) (given m)) x.further (λ m lt. retains_itself (window_of x.config m) (pins_on m x.table) (given m))),
)
  where
    given : ℕ → List Record
    given m = records_on (restored (members_with x.further) (reading_of x)) m

-- The leading medium stays as it is, where its batches are in order.
lead_restored : (batches : Batches) → All RecordsAreInOrder batches → segment_records (with_next (last batches) batches) ≡ segment_records batches
lead_restored batches order = go (last batches) refl
  where
    go : (o : Option (List Record)) → last batches ≡ o → segment_records (with_next o batches) ≡ segment_records batches
    go None e = refl
    go (Some batch) e = ap segment_records (next_kept batches batch (ends_not_before batches batch
        (All-contains RecordsAreInOrder batches batch order (last_contained batches batch e)) e))

-- What they begin with is what the capsule has.
capsule_opened : (x : Contents) → All RecordsAreInOrder (batches_in (x.placed 0)) → records_on (restored (members_with x.further) (reading_of x)) 0 ≡ all_records (x.placed 0)
capsule_opened x order = lead_restored (batches_in (x.placed 0)) order ∙ records_are (x.placed 0)

newest_of_capsule : (x : Contents) → All RecordsAreInOrder (batches_in (x.placed 0)) → option_map tick_utc (last (all_records (x.placed 0))) ≡ option_map of_stamp (opening_of x).last
newest_of_capsule x order =
    stamp_told (last (all_records (x.placed 0))) ∙ ap (λ (rs : List Record). option_map of_stamp (stamp_of (last rs) None)) (sym (capsule_opened x order))

place_of_capsule : (x : Contents) → All RecordsAreInOrder (batches_in (x.placed 0)) → next_after (last (all_records (x.placed 0))) ≡ (opening_of x).next_place
place_of_capsule x order = ap (λ (rs : List Record). next_after (last rs)) (sym (capsule_opened x order))

-- Batches of records in order are in order.
each_in_order : (batches : Batches) → RecordsAreInOrder (segment_records batches) → All RecordsAreInOrder batches
each_in_order [] order = All-nil RecordsAreInOrder
each_in_order (b ∷ batches) order = let parts = parts_in_order b (segment_records batches) order in All-cons RecordsAreInOrder b batches parts.0 (each_in_order batches parts.1)

pub batches_in_order : (placed : List Placed) → AreInOrder placed → All RecordsAreInOrder (batches_in placed)
batches_in_order placed order = each_in_order (batches_in placed) (subst RecordsAreInOrder (sym (records_are placed)) (in_order_records placed order))

-- The last record that they begin with is the capsule's, and the place behind it the next one.
pub newest_opened : (x : Contents) → AreInOrder (x.placed 0) → option_map tick_utc (last (all_records (x.placed 0))) ≡ option_map of_stamp (opening_of x).last
newest_opened x order = newest_of_capsule x (batches_in_order (x.placed 0) order)

pub place_opened : (x : Contents) → AreInOrder (x.placed 0) → next_after (last (all_records (x.placed 0))) ≡ (opening_of x).next_place
place_opened x order = place_of_capsule x (batches_in_order (x.placed 0) order)

-- The batches that opening reads of a segment are in order, and so are those of a medium.
batches_read_in_order : (s : Option Summary) (first : ℕ) (bytes : List ℕ) (batches : Batches) → AreBatchesRead s bytes batches → RunOn first (segment_records (batches_read s batches))
    → NeverFalls 0 (segment_records (batches_read s batches)) → All RecordsAreInOrder batches
batches_read_in_order None first bytes batches are places ticks = each_in_order batches (run_on_in_order first 0 (segment_records batches) places ticks)
batches_read_in_order (Some s) first bytes batches are places ticks = subst (All RecordsAreInOrder) (sym are) (All-nil RecordsAreInOrder)

known_batches : (c : Configuration) (known : List Placed) (bytes : List ℕ) → HasKnowns c known bytes → All RecordsAreInOrder (batches_in known)
known_batches c known bytes h = go None known h.order h.are.batches
  where
    Reads : Placed → Type 0
    Reads p = AreBatchesRead p.segment.header.summary (drop 64 (slot_bytes c.segment p.slot bytes)) p.segment.batches

    go : (o : Option Placed) (ps : List Placed) → AreInPlaceBy o ps → All Reads ps → All RecordsAreInOrder (batches_in ps)
    go o [] order are = All-nil RecordsAreInOrder
    go o (p ∷ ps) order are = All-append RecordsAreInOrder (batches_of p) (batches_in ps)
        (batches_read_in_order p.segment.header.summary (first_of p) (drop 64 (slot_bytes c.segment p.slot bytes)) (batches_of p) (All-head Reads p ps are) order.0.runs_on.whole.places order.0.runs_on.whole.ticks)
        (go (Some p) ps order.1 (All-tail Reads p ps are))

-- The last record of what opening reads of the capsule is the one that they begin with.
capsule_read : (x : Contents) (image : Image) → HoldsParts image x → All RecordsAreInOrder (batches_in (x.placed 0))
capsule_read x image h = known_batches x.config (x.placed 0) (content image 0) (h.media 0 0 (omega arith)).segments

pub newest_read : (x : Contents) (image : Image) → HoldsParts image x → option_map tick_utc (last (all_records (x.placed 0))) ≡ option_map of_stamp (opening_of x).last
newest_read x image h = newest_of_capsule x (capsule_read x image h)

pub place_read : (x : Contents) (image : Image) → HoldsParts image x → next_after (last (all_records (x.placed 0))) ≡ (opening_of x).next_place
place_read x image h = place_of_capsule x (capsule_read x image h)

-- Media whose ends are level lack no batch, where those of each are in order.
level_lacks : (missing : List Record) (lacking : ℕ) (x : Contents) → ((k : ℕ) → k < 2 + x.further → All RecordsAreInOrder (batches_in (x.placed k)))
    → (missing ≢ [] → (0 < lacking) × (lacking < 2 + x.further))
    → IsMissing (members_with x.further) missing lacking (reading_of x) → AreLevel (members_with x.further) (reading_of x) → missing ≡ []
level_lacks [] lacking x order behind is_missing level = refl
level_lacks (r ∷ rs) lacking x order behind (inl none) level = none.0
level_lacks (r ∷ rs) lacking x order behind (inr passed) level =
    let inside = behind (λ e. let none : ⊥ = cc in none) in
    let low = inside.0 in
    let high = inside.1 in
    let n = x.further in
    let first = given_at n lacking (r ∷ rs) (reading_of x) passed (omega (arith, high)) 0 low in
    let ends : last (batches_in (x.placed lacking)) ≡ Some (r ∷ rs) = of_each (λ m. last (batches_in (x.placed m)) ≡ last (batches_in (x.placed 0))) n level lacking high ∙ first in
    let waits = waiting_at n lacking (r ∷ rs) (reading_of x) passed lacking (omega arith) high in
    let here = All-contains RecordsAreInOrder (batches_in (x.placed lacking)) (r ∷ rs) (order lacking high) (last_contained (batches_in (x.placed lacking)) (r ∷ rs) ends) in
    absurd (false≢true (sym (ends_not_before (batches_in (x.placed lacking)) (r ∷ rs) here ends) ∙ waits))

module _ {tells tells_images : Type 0} (o : OpenedState) (disk : Disk tells tells_images)
    (behind : o.missing ≢ [] → (0 < o.lacking) × (o.lacking < length o.rings)) where
  -- So many rings as media
  behind_media : (n : ℕ) → length o.rings ≡ 2 + n → o.missing ≢ [] → (0 < o.lacking) × (o.lacking < 2 + n)
  behind_media n count some = let inside = behind some in let high = inside.1 in (inside.0, omega (arith, high, count))

  pub level_lacks_none : (x : Contents) → IsOpened o x disk → AreLevel (members_with x.further) (reading_of x) → o.missing ≡ []
  level_lacks_none x is level = level_lacks o.missing o.lacking x
      (λ k lt. batches_in_order (x.placed k) (of_each (λ m. rings.Reads (ring_at o.rings m) (x.placed m) disk) x.further is.rings k lt).order) (behind_media x.further is.count) is.missing level

  -- The same of parts that were read.
  level_lacks_part : (x : Contents) → IsOpenedBy o x disk → AreLevel (members_with x.further) (reading_of x) → o.missing ≡ []
  level_lacks_part x is level =
      level_lacks o.missing o.lacking x
      (λ k lt. known_batches x.config (x.placed k) (content disk.reads k) (of_each (λ m. IsMediumBy m x.config x.text (x.placed m) (content disk.reads m)) x.further is.holds.media k lt).segments)
      (behind_media x.further is.count) is.missing level

  -- The rings tell of the parts that were read, on each medium to which nothing is appended.
  pub tells_of_parts : (x y : Contents) (vault : VaultState) → IsOpenedBy o y disk → y.further ≡ x.further → ((k : ℕ) → k < 2 + y.further → y.placed k ≡ x.placed k)
      → ring_of vault 0 ≡ ring_at o.rings 0 → (o.missing ≡ [] → (k : ℕ) → ring_of vault k ≡ ring_at o.rings k) → TellsOfParts x vault
  tells_of_parts x y vault is count same capsule still =
      of_all (λ m. IsLeftAsRead x m → TellsBy (ring_of vault m).slots (x.placed m) (ring_of vault m).directory) x.further (λ k lt left. there k (omega (arith, lt, count)) left)
    where
      told : (r s : RingState) (ps qs : List Placed) → r ≡ s → ps ≡ qs → TellsBy s.slots ps s.directory → TellsBy r.slots qs r.directory
      told r s ps qs ring same = subst (λ (p : RingState × List Placed). TellsBy p.0.slots p.1 p.0.directory) (λ i. (sym ring i, same i))

      knows : (k : ℕ) → k < 2 + y.further → TellsBy (ring_at o.rings k).slots (y.placed k) (ring_at o.rings k).directory
      knows k lt = (of_each (λ m. rings.Knows (ring_at o.rings m) (y.placed m) disk) y.further is.rings k lt).directory

      ends_same : (k : ℕ) → k < 2 + y.further → last (batches_in (y.placed k)) ≡ last (batches_in (x.placed k))
      ends_same k lt = ap (λ (ps : List Placed). last (batches_in ps)) (same k lt)

      level_as : AreLevel (members_with x.further) (reading_of x) → AreLevel (members_with y.further) (reading_of y)
      level_as level = of_all (λ m. last (batches_in (y.placed m)) ≡ last (batches_in (y.placed 0))) y.further
          (λ k lt. ends_same k lt ∙ of_each (λ m. last (batches_in (x.placed m)) ≡ last (batches_in (x.placed 0))) x.further level k (omega (arith, lt, count)) ∙ sym (ends_same 0 (omega arith)))

      there : (k : ℕ) → k < 2 + y.further → IsLeftAsRead x k → TellsBy (ring_of vault k).slots (x.placed k) (ring_of vault k).directory
      there k lt (inl first) = subst (λ (m : ℕ). TellsBy (ring_of vault m).slots (x.placed m) (ring_of vault m).directory) (sym first)
          (told (ring_of vault 0) (ring_at o.rings 0) (y.placed 0) (x.placed 0) capsule (same 0 (omega arith)) (knows 0 (omega arith)))
      there k lt (inr level) = told (ring_of vault k) (ring_at o.rings k) (y.placed k) (x.placed k) (still (level_lacks_part y is (level_as level)) k) (same k lt) (knows k lt)
