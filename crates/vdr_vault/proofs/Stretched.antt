-- Stretches of a history, and what is read of them.
use Rattle.std.proofs.Common.{◌≡◌, ◌≤◌, inl, inr, ◌++◌, ℕ, Bool, false, List, [], ◌∷◌, Contains, Option, Some, None, option_map, Result, refl, sym, ap, ◌∙◌, subst, arith, append_assoc}
use Rattle.std.specs.Prelude.{slice_get}
use Rattle.std.proofs.lemmas.List.Elements.{All-contains}
use Rattle.vdr_terms.specs.Order.{AreInOrder}
use Rattle.vdr_terms.specs.Queries.{Query, Span}
use Rattle.vdr_terms.specs.Queries.Medium.{WindowOf, Incident}
use Rattle.vdr_terms.specs.Queries.Span.{Places, Window}
use Rattle.vdr_terms.specs.Records.{Record, last, second}
use Rattle.vdr_terms.specs.Windows.{window}
use Rattle.vdr_core.specs.Histories.{Event, Opening, Settings, all_records, incidents, live, recorded, records_of_act}
use Rattle.vdr_core.specs.Histories as histories
use Rattle.vdr_durability.specs.Playback.{found, medium_of, selected, span_of}
use Rattle.vdr_durability.specs.Retention.{Holds}
use Rattle.vdr_durability.proofs.Found.{is_tested, none_passes, parts_found}
use Rattle.vdr_durability.proofs.Lists.{contains_here, contains_there, last_contained}
use Rattle.vdr_durability.proofs.Ordered.{parts_in_order, same_window}
use Rattle.vdr_directory.proofs.Runs.{nil_from_last}
use Rattle.vdr_config.specs.Sizes.{window_of}
use Rattle.vdr_outside.specs.Disk.{Disk}
use Rattle.vdr_directory.specs.Indexed.{HasNoneSelected, is_selected}
use Rattle.vdr_directory.specs.Lookup.{HoldAll}
use Rattle.vdr_directory.specs.Sequence as directory
use Rattle.vdr_directory.specs.Sequence.{Placed}
use Rattle.vdr_entry.specs.declared.query.Query.{Query as Asked}
use Rattle.vdr_entry.specs.declared.query.Medium.{Medium as Played}
use Rattle.vdr_entry.specs.declared.query.Medium.TheVariants.{Capsule, LongTerm, Incident as PlayedIncident}
use Rattle.vdr_entry.specs.Queries.{asked, asked_medium}
use Rattle.vdr_ring.proofs.Medium.{in_order_records}
use Rattle.vdr_ring.specs.declared.refused.ReadRefused.{ReadRefused}
use Rattle.vdr_ring.specs.Walks.{AreLeft, CursorState, GivesNext, HasRead, Slots}
use Rattle.vdr_ring.proofs.CursorReading.{same_slots}
use Rattle.vdr_vault.specs.declared.stretch.Stretch.{Stretch}
use Rattle.vdr_vault.specs.Saves.{first_in_window}
use Rattle.vdr_vault.specs.Vaults.{IsReadable, IsReadableAt, VaultState, ring_of}
use Rattle.vdr_vault.specs.Plays.{ring_for}
use Rattle.vdr_vault.specs.Stretches.{AreLeftWithin, IsClosed, IsIncidentOf, IsWhole, IsWindowFrom, IsWindowOf, still_selected}
use Rattle.vdr_vault.proofs.Coming.{holds_on}
use Rattle.vdr_vault.proofs.Stretching.{none_at, places_before, places_held, places_to_last, window_places}

-- Later events

recorded_on : (before later : List Event) → recorded (before ++ later) ≡ recorded before ++ recorded later
recorded_on [] later = refl
recorded_on (e ∷ before) later = ap (λ (rs : List Record). records_of_act e.act ++ rs) (recorded_on before later) ∙ sym (append_assoc (records_of_act e.act) (recorded before) (recorded later))

all_on : (opening : Opening) (m : ℕ) (before later : List Event) → all_records opening m (before ++ later) ≡ all_records opening m before ++ recorded later
all_on opening m before later =
    ap (λ (rs : List Record). opening.records m ++ rs) (recorded_on before later) ∙ sym (append_assoc (opening.records m) (recorded before) (recorded later))

-- What is recorded behind a history whose last record is at the last place or behind it has a greater place.
pub still_later : (opening : Opening) (before later : List Event) (query : Query) (s : Stretch) → AreInOrder (all_records opening (medium_of query.medium) (before ++ later)) → IsClosed opening before query s
    → still_selected opening (before ++ later) query s ≡ still_selected opening before query s
still_later opening before later query s order (inl less) =
    none_at query s.next s.last (all_records opening (medium_of query.medium) (before ++ later)) less ∙ sym (none_at query s.next s.last (all_records opening (medium_of query.medium) before) less)
still_later opening before later query s order (inr (newest, ends, high)) =
    let m = medium_of query.medium in
    let split = all_on opening m before later in
    let parts = parts_in_order (all_records opening m before) (recorded later) (subst AreInOrder split order) in
    ap (found query (Some (Places s.next s.last))) split
    ∙ places_before query s.next s.last (all_records opening m before) (recorded later)
    (λ r there. let less = (parts.2 newest r (last_contained (all_records opening m before) newest ends) there).0 in omega (arith, less, high))

pub closed_on : (opening : Opening) (events : List Event) (query : Query) (s t : Stretch) → s.next ≤ t.next → t.last ≡ s.last → IsClosed opening events query s → IsClosed opening events query t
closed_on opening events query s t up same (inl less) = inl (omega (arith, up, same, less))
closed_on opening events query s t up same (inr (newest, ends, high)) = inr (newest, ends, omega (arith, same, high))

module _ {tells tells_images : Type 0} (opening : Opening) (events : List Event) (vault : VaultState) (placed : ℕ → List Placed) (disk : Disk tells tells_images)
    (stands : IsReadable opening events vault placed disk) where
  pub order_on : (medium : Played) → AreInOrder (all_records opening (medium_of (asked_medium medium)) events)
  order_on medium = (holds_on opening events vault placed disk stands medium).order

  -- What stands on the medium gives what is still selected.
  pub still_held : (query : Asked) (s : Stretch) → HoldAll s.next s.last (placed (medium_of (asked_medium query.medium)))
      → found (asked query) (Some (Places s.next s.last)) (directory.all_records (placed (medium_of (asked_medium query.medium)))) ≡ still_selected opening events (asked query) s
  still_held query s holds =
      let at = holds_on opening events vault placed disk stands query.medium in
      places_held (asked query) s.next s.last (all_records opening (medium_of (asked_medium query.medium)) events) (placed (medium_of (asked_medium query.medium))) at.order at.reads.order
      at.retains.window.own holds

  -- The places of an incident are all that its query selects.
  pub incident_whole : (query : Asked) (id : ℕ) (s : Stretch) → query.medium ≡ PlayedIncident id → IsIncidentOf (live vault.table id) (last (directory.all_records (placed 1))) s
      → IsWhole opening events (asked query) s
  incident_whole query id s is at = subst (λ (p : Played). IsWhole opening events (record (asked query) { medium = asked_medium p }) s) (sym is)
      (go (live (incidents opening events) id) refl (last all) refl
      (subst (λ (o : Option Record). IsIncidentOf (live (incidents opening events) id) o s) newest
      (subst (λ (t : List (Option histories.Incident)). IsIncidentOf (live t id) (last (directory.all_records (placed 1))) s) stands.incidents_are at)))
    where
      all : List Record
      all = all_records opening 1 events

      newest : last (directory.all_records (placed 1)) ≡ last (all_records opening 1 events)
      newest = (stands.media 1 0 (omega arith)).retains.window.newest

      q : Query
      q = record (asked query) { medium = Incident id }

      tested : found q (span_of opening events (Incident id)) (all_records opening 1 events) ≡ selected opening events q
      tested = is_tested opening events q

      spanned : (o : Option histories.Incident) → live (incidents opening events) id ≡ o
          → selected opening events q ≡ found q (option_map (λ incident. Places incident.a incident.b) o) (all_records opening 1 events)
      spanned o is = sym tested ∙ ap (λ (o : Option histories.Incident). found q (option_map (λ incident. Places incident.a incident.b) o) (all_records opening 1 events)) is

      nothing : (a b : ℕ) → last (all_records opening 1 events) ≡ None → found q (Some (Places a b)) (all_records opening 1 events) ≡ []
      nothing a b none = ap (found q (Some (Places a b))) (nil_from_last (all_records opening 1 events) none)

      go : (o : Option histories.Incident) → live (incidents opening events) id ≡ o → (n : Option Record) → last (all_records opening 1 events) ≡ n → IsIncidentOf o n s → IsWhole opening events q s
      go None none n ends less = record { selects = spanned None none ∙ sym (none_at q s.next s.last (all_records opening 1 events) less); closed = inl less }
      go (Some incident) some None ends less = record {
        selects = spanned (Some incident) some ∙ nothing incident.a incident.b ends ∙ sym (nothing s.next s.last ends);
        closed = inl less;
      }
      go (Some incident) some (Some r) ends (a, b) = record {
        selects = spanned (Some incident) some ∙ places_to_last q incident.a incident.b r (all_records opening 1 events) (stands.media 1 0 (omega arith)).order ends
            ∙ ap (λ (p : ℕ × ℕ). found q (Some (Places p.0 p.1)) (all_records opening 1 events)) (λ i. (sym a i, sym b i));
        closed = inr (r, ends, omega (arith, b));
      }

  -- The places of a window are all that its query selects.
  pub window_whole : (query : Asked) (s : Stretch) → ((id : ℕ) → query.medium ≡ PlayedIncident id → ⊥)
      → IsWindowOf (window_of vault.config (medium_of (asked_medium query.medium))) (directory.all_records (placed (medium_of (asked_medium query.medium)))) s → IsWhole opening events (asked query) s
  window_whole query s none at = go query.medium none (λ medium. record query { medium = medium }) refl at
    where
      of : (medium : Played) (m : ℕ) → asked_medium medium ≡ WindowOf m → IsReadableAt opening events m (ring_of vault m) (placed m) disk
          → IsWindowOf (window_of vault.config m) (directory.all_records (placed m)) s → IsWhole opening events (record (asked query) { medium = WindowOf m }) s
      of medium m is holds at = by (last (all_records opening m events)) refl
          (subst (λ (n : Option Record). IsWindowFrom (window_of vault.config m) (directory.all_records (placed m)) n s) holds.retains.window.newest at)
        where
          q : Query
          q = record (asked query) { medium = WindowOf m }

          seconds_are : opening.settings.seconds m ≡ window_of vault.config m
          seconds_are = ap (λ (x : Settings). x.seconds m) stands.settings

          same : window (window_of vault.config m) (directory.all_records (placed m)) ≡ window (window_of vault.config m) (all_records opening m events)
          same = same_window (window_of vault.config m) (all_records opening m events) (directory.all_records (placed m)) holds.order (in_order_records (placed m) holds.reads.order)
              (subst (λ (n : ℕ). Holds n (all_records opening m events) (directory.all_records (placed m))) seconds_are holds.retains.window)

          tested : found q (span_of opening events (WindowOf m)) (all_records opening m events) ≡ selected opening events q
          tested = is_tested opening events q

          spanned : (o : Option Record) → last (all_records opening m events) ≡ o
              → selected opening events q ≡ found q (option_map (λ (r : Record). Window (second r.tick) (window_of vault.config m)) o) (all_records opening m events)
          spanned o is = sym tested
              ∙ ap (λ (n : ℕ). found q (option_map (λ (r : Record). Window (second r.tick) n) (last (all_records opening m events))) (all_records opening m events)) seconds_are
              ∙ ap (λ (o : Option Record). found q (option_map (λ (r : Record). Window (second r.tick) (window_of vault.config m)) o) (all_records opening m events)) is

          by : (o : Option Record) → last (all_records opening m events) ≡ o → IsWindowFrom (window_of vault.config m) (directory.all_records (placed m)) o s → IsWhole opening events q s
          by None ends less = record { selects = spanned None ends ∙ sym (none_at q s.next s.last (all_records opening m events) less); closed = inl less }
          by (Some r) ends (first, b) =
              let first_of_all : first_in_window (window_of vault.config m) (all_records opening m events) ≡ Some s.next =
              ap (λ (w : List Record). option_map (λ r. r.place) (slice_get w 0)) (sym same) ∙ first in
              record {
                selects = spanned (Some r) ends ∙ window_places q (window_of vault.config m) s.next r (all_records opening m events) holds.order ends first_of_all
                    ∙ ap (λ (n : ℕ). found q (Some (Places s.next n)) (all_records opening m events)) (sym b);
                closed = inr (r, ends, omega (arith, b));
              }

      go : (medium : Played) → ((id : ℕ) → medium ≡ PlayedIncident id → ⊥) → (whole : Played → Asked) → query.medium ≡ medium
          → IsWindowOf (window_of vault.config (medium_of (asked_medium query.medium))) (directory.all_records (placed (medium_of (asked_medium query.medium)))) s → IsWhole opening events (asked query) s
      go Capsule none whole is at = subst (λ (p : Played). IsWhole opening events (record (asked query) { medium = asked_medium p }) s) (sym is)
          (of Capsule 0 refl (stands.media 0 0 (omega arith))
          (subst (λ (p : Played). IsWindowOf (window_of vault.config (medium_of (asked_medium p))) (directory.all_records (placed (medium_of (asked_medium p)))) s) is at))
      go LongTerm none whole is at = subst (λ (p : Played). IsWhole opening events (record (asked query) { medium = asked_medium p }) s) (sym is)
          (of LongTerm 1 refl (stands.media 1 0 (omega arith))
          (subst (λ (p : Played). IsWindowOf (window_of vault.config (medium_of (asked_medium p))) (directory.all_records (placed (medium_of (asked_medium p)))) s) is at))
      go (PlayedIncident id) none whole is at = absurd (none id refl)

-- A step keeps what is left of a part.
pub gives_within : {tells tells_images : Type 0} (query : Query) (part : Stretch) (old new : VaultState) (before now : Disk tells tells_images) (placed : ℕ → List Placed) (c : CursorState)
    (records : List Record) (result : Result Bool ReadRefused) → tells → HasRead (ring_for old query) (ring_for new query) before now
    → GivesNext records result c.visit.item (AreLeftWithin query part old placed before c) → GivesNext records result c.visit.item (AreLeftWithin query part new placed now c)
gives_within query part old new before now placed c records result told read gives =
    subst (λ (s : Slots). GivesNext records result c.visit.item (AreLeft s (placed (medium_of query.medium)) query (Some (Places part.next part.last)) c))
    (sym (same_slots (ring_for old query) (ring_for new query) before now read told)) gives

-- Where none of any segment is selected none is found.
pub none_found : (query : Query) (span : Span) (placed : List Placed) → ((q : Placed) → Contains placed q → HasNoneSelected query span q) → found query (Some span) (directory.all_records placed) ≡ []
none_found query span [] h = refl
none_found query span (p ∷ ps) h =
    let here : found query (Some span) (directory.records_of p) ≡ [] =
    none_passes (is_selected query span) (directory.records_of p) (λ r m. All-contains (λ r. is_selected query span r ≡ false) (directory.records_of p) r (h p (contains_here p ps)) m) in
    let more = none_found query span ps (λ q m. h q (contains_there p ps q m)) in
    parts_found query span (directory.records_of p) (directory.all_records ps) ∙ (λ i. here i ++ more i)
