-- Reads of a ring, one after another.
use Rattle.std.proofs.Common.{◌≡◌, ℕ, List, sym, ap, ◌∙◌, subst, get_or, length, ◌-◌, arith, All}
use Rattle.vdr_outside.specs.Disk.{Disk, Image, content}
use Rattle.vdr_ring.specs.Rings.{RingState}
use Rattle.vdr_ring.specs.Visits.{HasJudged}
use Rattle.vdr_ring.specs.Walks.{HasRead}
use Rattle.vdr_core.specs.Histories.{Event, Opening}
use Rattle.vdr_config.specs.Configuration.{Configuration}
use Rattle.vdr_config.specs.Sizes.{sizes_of}
use Rattle.vdr_terms.specs.Needs.{slots_in}
use Rattle.vdr_directory.specs.Sequence.{Placed}
use Rattle.vdr_incident.specs.Tables.{HoldsTable}
use Rattle.std.proofs.lemmas.List.Elements.{All-weaker}
use Rattle.vdr_opening.specs.Media.{HasFront, members_with}
use Rattle.vdr_opening.specs.Answers.{members_on}
use Rattle.vdr_durability.specs.Readings.{AreLevel}
use Rattle.vdr_vault.specs.Vaults.{reading_with}
use Rattle.vdr_outside.proofs.Moments.{unchanged_now}
use Rattle.vdr_ring.specs.Openings.{IsRingOf}
use Rattle.vdr_ring.specs.Whole.{KeepsAll}
use Rattle.vdr_vault.specs.Vaults.{VaultState, AreJudged, AreRings, HoldsHistory, IsReadable, IsReadableAt, Stands, ring_of}
use Rattle.vdr_vault.specs.Plays.{ReadsOn}
use Rattle.vdr_vault.proofs.Members.{at_one}
use Rattle.vdr_ring.proofs.CursorReading.{other_read, room_kept}

-- What a read of one ring leaves of a vault.

members_same : (old new : VaultState) → length new.rings ≡ length old.rings → members_on old.rings ≡ members_on new.rings
members_same old new count = ap (λ (n : ℕ). members_with (n - 2)) (sym count)

module _ {tells tells_images : Type 0} where
  is_ring_still : (c : Configuration) (m : ℕ) (old new : RingState) (before now : Disk tells tells_images) → HasRead old new before now → IsRingOf c before.sizes m old → IsRingOf c now.sizes m new
  is_ring_still c m old new before now read is =
      let sizes = read.unchanged.sizes in
      record {
        medium = ap (λ (r : RingState). r.medium) read.ring ∙ is.medium;
        segment = ap (λ (r : RingState). r.segment) read.ring ∙ is.segment;
        slots = ap (λ (r : RingState). r.slots) read.ring ∙ is.slots ∙ ap (λ (ns : List ℕ). slots_in (sizes_of c) (get_or ns m 0)) (sym sizes);
        seconds = ap (λ (r : RingState). r.seconds) read.ring ∙ is.seconds;
        room = room_kept old new before now read is.room;
      }

  holds_still : (opening : Opening) (events : List Event) (c : Configuration) (m : ℕ) (old new : RingState) (placed : List Placed) (before now : Disk tells tells_images) → HasRead old new before now
      → HoldsHistory opening events c m old placed before → HoldsHistory opening events c m new placed now
  holds_still opening events c m old new placed before now read h = record {
    is_its = is_ring_still c m old new before now read h.is_its;
    reads = read.reads placed h.reads;
    front = λ told. subst (λ (i : Image). HasFront m c opening.settings.text (content i m)) (sym (read.unchanged.reads told)) (h.front told);
    regular = h.regular;
    order = h.order;
    retains = h.retains;
    pins = h.pins;
    unbroken = h.unbroken;
    keeps = subst (λ (r : RingState). KeepsAll r.seconds r.slots placed) (sym read.ring) h.keeps;
  }

  -- What stands can be read.
  pub stands_to_read : (opening : Opening) (events : List Event) (vault : VaultState) (placed : ℕ → List Placed) (disk : Disk tells tells_images) → Stands opening events vault placed disk
      → IsReadable opening events vault placed disk
  stands_to_read opening events vault placed disk stands = record {
    settings = stands.settings;
    working = stands.working;
    media = All-weaker (λ m. HoldsHistory opening events vault.config m (ring_of vault m) (placed m) disk) (λ m. IsReadableAt opening events m (ring_of vault m) (placed m) disk)
        (λ m h. record { reads = h.reads; order = h.order; retains = h.retains }) (members_on vault.rings) stands.media;
    incidents_are = stands.incidents_are;
  }

  -- A vault whose rings have read stands on.
  pub stands_over : (opening : Opening) (events : List Event) (placed : ℕ → List Placed) (old new : VaultState) (before now : Disk tells tells_images) → new ≡ record old { rings = new.rings } → length new.rings ≡ length old.rings
      → ((k : ℕ) → HasRead (ring_of old k) (ring_of new k) before now) → Stands opening events old placed before → Stands opening events new placed now
  stands_over opening events placed old new before now vault count read stands = subst (λ (s : VaultState). Stands opening events s placed now) (sym vault) (record {
    settings = stands.settings;
    working = stands.working;
    media = subst (λ (ms : List ℕ). All (λ k. HoldsHistory opening events old.config k (ring_of new k) (placed k) now) ms) (members_same old new count) (All-weaker (λ k. HoldsHistory opening events old.config k (ring_of old k) (placed k) before) (λ k. HoldsHistory opening events old.config k (ring_of new k) (placed k) now)
        (λ k h. holds_still opening events old.config k (ring_of old k) (ring_of new k) (placed k) before now (read k) h) (members_on old.rings) stands.media);
    level = subst (λ (ms : List ℕ). AreLevel ms (reading_with opening.settings.text placed old.table)) (members_same old new count) stands.level;
    incidents_are = stands.incidents_are;
    slots = stands.slots;
    version = λ i now_is. ap (λ (n : ℕ). n - 2) count ∙ stands.version i (unchanged_now before now (read 1).unchanged i now_is);
    read_version = λ told. ap (λ (n : ℕ). n - 2) count ∙ stands.read_version told;
    table = λ told. subst (λ (i : Image). HoldsTable old.config.incident_slots old.table (content i 1)) (sym ((read 1).unchanged.reads told)) (stands.table told);
    there = stands.there;
    goes_on = stands.goes_on;
    newest = stands.newest;
    place = stands.place;
    stamp = stands.stamp;
  })

  -- One ring has read, and no other.
  module _ (m : ℕ) (old new : VaultState) (before now : Disk tells tells_images) (vault : ReadsOn m old new) (read : HasRead (ring_of old m) (ring_of new m) before now) where
    each_read : (k : ℕ) → HasRead (ring_of old k) (ring_of new k) before now
    each_read = at_one (λ k. HasRead (ring_of old k) (ring_of new k) before now) m read
        (λ k other. subst (λ (r : RingState). HasRead (ring_of old k) r before now) (sym (vault.others k other)) (other_read (ring_of old k) before now read.unchanged))

    pub stands_still : (opening : Opening) (events : List Event) (placed : ℕ → List Placed) → Stands opening events old placed before → Stands opening events new placed now
    stands_still opening events placed stands = stands_over opening events placed old new before now vault.vault vault.count each_read stands

    -- The slots that were loaded and judged still are.
    pub judged_over : AreJudged old before → AreJudged new now
    judged_over judged = subst (λ (ms : List ℕ). All (λ k. HasJudged (ring_of new k) now) ms) (members_same old new vault.count) (All-weaker (λ k. HasJudged (ring_of old k) before) (λ k. HasJudged (ring_of new k) now) (λ k h. (each_read k).judged h) (members_on old.rings) judged)

    -- The same of what can be read.
    pub readable_still : (opening : Opening) (events : List Event) (placed : ℕ → List Placed) → IsReadable opening events old placed before → IsReadable opening events new placed now
    readable_still opening events placed h = subst (λ (s : VaultState). IsReadable opening events s placed now) (sym vault.vault) (record {
      settings = h.settings;
      working = h.working;
      media = subst (λ (ms : List ℕ). All (λ k. IsReadableAt opening events k (ring_of new k) (placed k) now) ms) (members_same old new vault.count) (All-weaker (λ k. IsReadableAt opening events k (ring_of old k) (placed k) before) (λ k. IsReadableAt opening events k (ring_of new k) (placed k) now)
          (λ k at. record { reads = (each_read k).reads (placed k) at.reads; order = at.order; retains = at.retains }) (members_on old.rings) h.media);
      incidents_are = h.incidents_are;
    })

    pub rings_still : AreRings old before.sizes → AreRings new now.sizes
    rings_still are = subst (λ (s : VaultState). AreRings s now.sizes) (sym vault.vault) (record {
      two = let same = vault.count in let two = are.two in omega (arith, same, two);
      each = subst (λ (ms : List ℕ). All (λ k. IsRingOf old.config now.sizes k (ring_of new k)) ms) (members_same old new vault.count) (All-weaker (λ k. IsRingOf old.config before.sizes k (ring_of old k)) (λ k. IsRingOf old.config now.sizes k (ring_of new k))
          (λ k its. is_ring_still old.config k (ring_of old k) (ring_of new k) before now (each_read k) its) (members_on old.rings) are.each);
    })
