-- A batch that may come next on a vault may come next on each of its media.
use Rattle.std.proofs.Common.{◌≡◌, ◌<◌, ◌≤◌, ℕ, List, ◌==◌, Option, Some, None, sym, ap, ◌∙◌, subst, arith}
use Rattle.std.specs.Prelude.{IfSome, if◌then◌else◌}
use Rattle.std.proofs.lemmas.Bool.{cond_both}
use Rattle.std.proofs.lemmas.List.Elements.{All-contains, All-weaker}
use Rattle.vdr_terms.specs.Needs.{cost, needed_slots, slots_in}
use Rattle.vdr_terms.specs.Records.{Record}
use Rattle.vdr_core.specs.Histories.{Event, Incident, Opening, Settings, incidents}
use Rattle.vdr_durability.specs.Regular.{IsPaced}
use Rattle.vdr_durability.specs.Retention.{Retains}
use Rattle.vdr_durability.proofs.Lists.{all_from}
use Rattle.vdr_durability.specs.Shown.{given_with, pins_of, pins_on}
use Rattle.vdr_durability.proofs.Shows.{OnSlot, pins_hold, slots_hold}
use Rattle.vdr_outside.specs.Disk.{Disk}
use Rattle.vdr_outside.proofs.Moments.{size_read}
use Rattle.vdr_config.specs.Configuration.{Configuration, IsConfiguration}
use Rattle.vdr_config.specs.Sizes.{sizes_of, window_of}
use Rattle.vdr_directory.specs.Sequence.{Placed, all_records, segments_in}
use Rattle.vdr_directory.specs.Lookup.{HoldAll}
use Rattle.vdr_ring.specs.Rings.{RingState}
use Rattle.vdr_opening.specs.Media.{AreThere}
use Rattle.vdr_opening.specs.Settings.{settings_of}
use Rattle.vdr_vault.specs.Vaults.{HoldsHistory}
use Rattle.vdr_ring.proofs.Pinned.{HoldPins}
use Rattle.vdr_ring.proofs.Allowed.{IsReady}

-- The pinned places are there

pub pins_there : (table : List (Option Incident)) (placed : List Placed) → AreThere table placed → HoldPins (pins_of table) placed
pins_there table placed h = λ pin there. All-contains (λ pin. HoldAll pin.a pin.b placed) (pins_of table) pin
    (pins_hold (λ pin. HoldAll pin.a pin.b placed) table (All-weaker (λ slot. IfSome slot (λ incident. HoldAll incident.a incident.b placed)) (OnSlot (λ pin. HoldAll pin.a pin.b placed)) on_slot table h)) there
  where
    on_slot : (slot : Option Incident) → IfSome slot (λ incident. HoldAll incident.a incident.b placed) → OnSlot (λ pin. HoldAll pin.a pin.b placed) slot
    on_slot None k = tt
    on_slot (Some i) k = k

pub are_there : (table : List (Option Incident)) (placed : List Placed) → HoldPins (pins_of table) placed → AreThere table placed
are_there table placed h = All-weaker (OnSlot (λ pin. HoldAll pin.a pin.b placed)) (λ slot. IfSome slot (λ incident. HoldAll incident.a incident.b placed)) in_slot table
    (slots_hold (λ pin. HoldAll pin.a pin.b placed) table (all_from (λ pin. HoldAll pin.a pin.b placed) (pins_of table) h))
  where
    in_slot : (slot : Option Incident) → OnSlot (λ pin. HoldAll pin.a pin.b placed) slot → IfSome slot (λ incident. HoldAll incident.a incident.b placed)
    in_slot None k = tt
    in_slot (Some i) k = k

-- It is one that the configuration allows

pub windowed : (c : Configuration) (m : ℕ) → IsConfiguration c → 0 < window_of c m
windowed c m is =
    let a = is.capsule_low in
    let b = is.long_low in
    let f = is.float_low in
    cond_both (m == 0) c.capsule_seconds (if m == 1 then c.long_seconds else c.float_seconds) (λ (n : ℕ). 0 < n) (λ _. omega (arith, a))
    (λ _. cond_both (m == 1) c.long_seconds c.float_seconds (λ (n : ℕ). 0 < n) (λ _. omega (arith, b)) (λ _. omega (arith, f)))

module _ {tells tells_images : Type 0} where
  pub medium_is_ready : (opening : Opening) (events : List Event) (c : Configuration) (m : ℕ) (ring : RingState) (placed : List Placed) (disk : Disk tells tells_images) (records : List Record)
      → HoldsHistory opening events c m ring placed disk → opening.settings ≡ settings_of c opening.settings.text → IsConfiguration c → tells
      → IsPaced (cost (sizes_of c)) c.batch (segments_in placed) records → HoldPins (pins_on m (incidents opening events)) placed
      → IsReady (sizes_of c) m ring.segment ring.slots ring.seconds (pins_on m (incidents opening events)) (given_with opening events m) records placed
  medium_is_ready opening events c m ring placed disk records h settings is told paced pinned =
      let its = h.is_its in
      let fits = (h.front told).configured.fits in
      let size = size_read disk m told in
      let slots : needed_slots (sizes_of c) m ≤ ring.slots = subst (λ (n : ℕ). needed_slots (sizes_of c) m ≤ n) (sym (its.slots ∙ ap (λ (n : ℕ). slots_in (sizes_of c) n) (sym size))) fits in
      let low = is.segment_low in
      let four = is.four_batches in
      let window : opening.settings.seconds m ≡ ring.seconds = ap (λ (s : Settings). s.seconds m) settings ∙ sym its.seconds in
      record {
        allowed = record {
          regular = h.regular;
          paced = paced;
          saves = h.pins;
          slots = slots;
          segment = sym its.segment;
          room = omega (arith, low, four);
          window = sym its.seconds;
          some = subst (λ (n : ℕ). 0 < n) (sym its.seconds) (windowed c m is);
        };
        order = h.reads.order;
        retains = subst (λ (n : ℕ). Retains n (pins_on m (incidents opening events)) (given_with opening events m) (all_records placed)) window h.retains;
        pinned = pinned;
      }
