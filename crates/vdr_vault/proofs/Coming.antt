-- What is still to come of what a query selects.
use Rattle.std.proofs.Common.{◌≡◌, ℕ, Bool, false, List, Option, None, option_map, Result, Ok, refl, sym, ap, ◌∙◌, subst, arith}
use Rattle.vdr_terms.specs.Records.{Record, second, last}
use Rattle.vdr_terms.specs.Order.{AreInOrder}
use Rattle.vdr_terms.specs.Queries.{Medium, Query, Span}
use Rattle.vdr_terms.specs.Queries.Medium.{WindowOf, Incident}
use Rattle.vdr_terms.specs.Queries.Span.{Window, Places}
use Rattle.vdr_core.specs.Histories.{Event, Opening, Settings, live}
use Rattle.vdr_core.specs.Histories as histories
use Rattle.vdr_durability.specs.Retention.{Retains}
use Rattle.vdr_durability.specs.Playback.{found, medium_of, pins_on, selected, span_of}
use Rattle.vdr_outside.specs.Disk.{Disk}
use Rattle.vdr_entry.specs.Queries.{asked, asked_medium}
use Rattle.vdr_entry.specs.declared.query.Medium.{Medium as Played}
use Rattle.vdr_entry.specs.declared.query.Query.{Query as Asked}
use Rattle.vdr_entry.specs.declared.query.Medium.TheVariants.{Capsule, LongTerm, Incident as PlayedIncident}
use Rattle.vdr_config.specs.Sizes.{window_of}
use Rattle.vdr_directory.specs.Sequence.{Placed, all_records}
use Rattle.vdr_ring.specs.Rings.{RingState}
use Rattle.vdr_ring.specs.declared.refused.ReadRefused.{ReadRefused}
use Rattle.vdr_ring.proofs.Medium.{in_order_records}
use Rattle.vdr_vault.specs.Vaults.{IsReadable, IsReadableAt, VaultState, ring_of}
use Rattle.vdr_ring.specs.Walks.{CursorState, Slots, AreLeft, GivesNext, HasRead, slots_read}
use Rattle.vdr_vault.specs.Plays.{AreToCome, ReadsOn, ring_for, span_in}
use Rattle.vdr_ring.proofs.Walking.{new_left}
use Rattle.vdr_ring.proofs.CursorReading.{same_slots}

-- the rings of a vault do not change what a query's medium comes to
span_with : (vault : VaultState) (rings : List RingState) (placed : ℕ → List Placed) (medium : Medium) → span_in (record vault { rings = rings }) placed medium ≡ span_in vault placed medium
span_with vault rings placed (WindowOf m) = refl
span_with vault rings placed (Incident id) = refl

module _ {tells tells_images : Type 0} where
  pub gives_to_come : (query : Query) (old new : VaultState) (before now : Disk tells tells_images) (placed : ℕ → List Placed) (span : Option Span) (c : CursorState) (records : List Record)
      (result : Result Bool ReadRefused) → tells → ReadsOn (medium_of query.medium) old new → HasRead (ring_for old query) (ring_for new query) before now → span ≡ span_in old placed query.medium
      → GivesNext records result c.visit.item (AreLeft (slots_read (ring_for old query) before) (placed (medium_of query.medium)) query span c)
      → GivesNext records result c.visit.item (AreToCome query new placed now c)
  gives_to_come query old new before now placed span c records result told vault read same gives =
      let slots = same_slots (ring_for old query) (ring_for new query) before now read told in
      let span_same : span_in new placed query.medium ≡ span_in old placed query.medium = ap (λ (s : VaultState). span_in s placed query.medium) vault.vault ∙ span_with old new.rings placed query.medium in
      subst (λ (s : Slots). GivesNext records result c.visit.item (AreLeft s (placed (medium_of query.medium)) query (span_in new placed query.medium) c)) (sym slots)
      (subst (λ (o : Option Span). GivesNext records result c.visit.item (AreLeft (slots_read (ring_for old query) before) (placed (medium_of query.medium)) query o c)) (same ∙ sym span_same) gives)

  -- where the query's medium comes to nothing
  pub none_to_come : (query : Query) (vault : VaultState) (disk : Disk tells tells_images) (placed : ℕ → List Placed) (c new : CursorState) (records : List Record)
      → span_in vault placed query.medium ≡ None → new.standing ≡ None → new.visit.item ≡ None → AreToCome query vault placed disk c records
      → GivesNext records (Ok false) new.visit.item (AreToCome query vault placed disk new)
  none_to_come query vault disk placed c new records none stands item left = (
    left.are ∙ ap (λ (o : Option Span). found query o left.ahead) none,
    item,
    subst (AreToCome query vault placed disk new) (ap (λ (o : Option Span). found query o (all_records (placed (medium_of query.medium)))) none)
        (new_left query (span_in vault placed query.medium) (slots_read (ring_for vault query) disk) (placed (medium_of query.medium)) new stands),
  )

  module _ (opening : Opening) (events : List Event) (vault : VaultState) (placed : ℕ → List Placed) (disk : Disk tells tells_images) (stands : IsReadable opening events vault placed disk) where
    -- what the law of playback says of each query
    abbrev pub IsRetained : Type 0
    IsRetained = (query : Query) (held : List Record) → AreInOrder (histories.all_records opening (medium_of query.medium) events) → AreInOrder held
        → Retains (opening.settings.seconds (medium_of query.medium)) (pins_on opening events (medium_of query.medium)) (histories.all_records opening (medium_of query.medium) events) held
        → found query (span_of opening events query.medium) held ≡ selected opening events query

    pub holds_on : (medium : Played) → IsReadableAt opening events (medium_of (asked_medium medium)) (ring_of vault (medium_of (asked_medium medium))) (placed (medium_of (asked_medium medium))) disk
    holds_on Capsule = stands.media 0 0 (omega arith)
    holds_on LongTerm = stands.media 1 0 (omega arith)
    holds_on (PlayedIncident id) = stands.media 1 0 (omega arith)

    window_same : (m : ℕ) (ring : RingState) → IsReadableAt opening events m ring (placed m) disk → span_of opening events (WindowOf m) ≡ span_in vault placed (WindowOf m)
    window_same m ring holds =
        ap (λ (s : Settings). option_map (λ (r : Record). Window (second r.tick) (s.seconds m)) (last (histories.all_records opening m events))) stands.settings
        ∙ ap (λ (o : Option Record). option_map (λ (r : Record). Window (second r.tick) (window_of vault.config m)) o) (sym holds.retains.window.newest)

    incident_same : (id : ℕ) → span_of opening events (Incident id) ≡ span_in vault placed (Incident id)
    incident_same id = ap (λ (t : List (Option histories.Incident)). option_map (λ (x : histories.Incident). Places x.a x.b) (live t id)) (sym stands.incidents_are)

    span_is : (medium : Played) → span_of opening events (asked_medium medium) ≡ span_in vault placed (asked_medium medium)
    span_is Capsule = window_same 0 (ring_of vault 0) (stands.media 0 0 (omega arith))
    span_is LongTerm = window_same 1 (ring_of vault 1) (stands.media 1 0 (omega arith))
    span_is (PlayedIncident id) = incident_same id

    -- all that is selected is to come of a new cursor
    pub selected_to_come : IsRetained → (query : Asked) (c : CursorState) → c.standing ≡ None → AreToCome (asked query) vault placed disk c (selected opening events (asked query))
    selected_to_come law query c fresh =
        let holds = holds_on query.medium in
        let m = medium_of (asked_medium query.medium) in
        let held = all_records (placed m) in
        let found_is : found (asked query) (span_of opening events (asked_medium query.medium)) held ≡ selected opening events (asked query) =
        law (asked query) held holds.order (in_order_records (placed m) holds.reads.order) holds.retains in
        subst (AreToCome (asked query) vault placed disk c) (ap (λ (o : Option Span). found (asked query) o held) (sym (span_is query.medium)) ∙ found_is)
        (new_left (asked query) (span_in vault placed (asked_medium query.medium)) (slots_read (ring_of vault m) disk) (placed m) c fresh)
