-- What a query finds on a medium that retains its window and the live incidents.
use Rattle.std.proofs.Common.{ℕ, zero, suc, List, [], ◌∷◌, ◌++◌, Bool, true, false, true≢false, filter, slice_get, option_map, option_and_then, ◌&&◌, if◌then◌else◌, All, Contains, Option, Some, None, ◌≡◌, refl, sym, ap, ◌∙◌, subst}
use Rattle.std.proofs.lemmas.Bool.{and_parts, cond-true, cond-false}
use Rattle.std.proofs.lemmas.List.Elements.{All-contains, All-head, All-tail, filter-append}
use Rattle.vdr_terms.specs.Records.{Record, second, last}
use Rattle.vdr_terms.specs.Windows.{in_window, window, window_before}
use Rattle.vdr_terms.specs.Order.{AreInOrder}
use Rattle.vdr_terms.specs.Queries.{Medium, Query, Span, in_span, matches, meets}
use Rattle.vdr_terms.specs.Queries.Medium.{WindowOf, Incident}
use Rattle.vdr_terms.specs.Queries.Span.{Window, Places}
use Rattle.vdr_terms.proofs.Meeting.{meets_one}
use Rattle.vdr_core.specs.Histories.{Event, Opening, all_records, incidents, live}
use Rattle.vdr_core.specs.Histories as histories
use Rattle.vdr_durability.specs.Retention.{HoldsPlaces, Pin, Retains}
use Rattle.vdr_durability.proofs.Lists.{contains_here, contains_there}
use Rattle.vdr_durability.proofs.Ordered.{filter_in_order, same_places, same_window}
use Rattle.vdr_durability.proofs.Summed.{one_of}
use Rattle.vdr_durability.specs.Playback.{IsSummarised, Summarised, extent, found, medium_of, pins_of, pins_on, records_of_parts, records_of_incident, selected, span_of, that_meet}

-- two tests, one after the other
both_tests : {X : Type 0} (q : X → Bool) (x : X) (both first : List X) → both ≡ filter q first → (t : Bool) → (if t && q x then x ∷ both else both) ≡ filter q (if t then x ∷ first else first)
both_tests q x both first same true = ap (λ ys. if q x then x ∷ ys else ys) same
both_tests q x both first same false = same

filter_twice : {X : Type 0} (p q : X → Bool) (xs : List X) → filter (λ x. p x && q x) xs ≡ filter q (filter p xs)
filter_twice p q [] = refl
filter_twice p q (x ∷ xs) = both_tests q x (filter (λ x. p x && q x) xs) (filter p xs) (filter_twice p q xs) (p x)

-- What is found in a window, and among an incident's places.
found_in_window : (query : Query) (seconds : ℕ) (o : Option Record) (records : List Record)
    → found query (option_map (λ r. Window (second r.tick) seconds) o) records ≡ filter (matches query) (window_before o seconds records)
found_in_window query seconds None records = refl
found_in_window query seconds (Some newest) records = filter_twice (λ r. in_window (second r.tick) (second newest.tick) seconds) (matches query) records

found_at_places : (query : Query) (o : Option histories.Incident) (records : List Record)
    → found query (option_map (λ incident. Places incident.a incident.b) o) records ≡ filter (matches query) (records_of_incident o records)
found_at_places query None records = refl
found_at_places query (Some incident) records = filter_twice (in_span (Places incident.a incident.b)) (matches query) records

module _ (opening : Opening) (events : List Event) (query : Query) where
  pub is_tested : found query (span_of opening events query.medium) (all_records opening (medium_of query.medium) events) ≡ selected opening events query
  is_tested = go query.medium
    where
      go : (medium : Medium) → found query (span_of opening events medium) (all_records opening (medium_of medium) events) ≡ filter (matches query) (extent opening events medium)
      go (WindowOf m) = found_in_window query (opening.settings.seconds m) (last (all_records opening m events)) (all_records opening m events)
      go (Incident id) = found_at_places query (live (incidents opening events) id) (all_records opening 1 events)

  pub is_in_order : AreInOrder (all_records opening (medium_of query.medium) events) → AreInOrder (selected opening events query)
  is_in_order = go query.medium
    where
      windowed : (seconds : ℕ) (o : Option Record) (rs : List Record) → AreInOrder rs → AreInOrder (window_before o seconds rs)
      windowed seconds None rs h = tt
      windowed seconds (Some newest) rs h = filter_in_order (λ r. in_window (second r.tick) (second newest.tick) seconds) rs h

      placed : (o : Option histories.Incident) (rs : List Record) → AreInOrder rs → AreInOrder (records_of_incident o rs)
      placed None rs h = tt
      placed (Some incident) rs h = filter_in_order (in_span (Places incident.a incident.b)) rs h

      go : (medium : Medium) → AreInOrder (all_records opening (medium_of medium) events) → AreInOrder (filter (matches query) (extent opening events medium))
      go (WindowOf m) h = filter_in_order (matches query) (window (opening.settings.seconds m) (all_records opening m events))
          (windowed (opening.settings.seconds m) (last (all_records opening m events)) (all_records opening m events) h)
      go (Incident id) h = filter_in_order (matches query) (records_of_incident (live (incidents opening events) id) (all_records opening 1 events))
          (placed (live (incidents opening events) id) (all_records opening 1 events) h)

  retained_window : (m : ℕ) (held : List Record) (pins : List Pin) → AreInOrder (all_records opening m events) → AreInOrder held
      → Retains (opening.settings.seconds m) pins (all_records opening m events) held
      → filter (matches query) (window (opening.settings.seconds m) held) ≡ filter (matches query) (extent opening events (WindowOf m))
  retained_window m held pins order order' h = ap (filter (matches query)) (same_window (opening.settings.seconds m) (all_records opening m events) held order order' h.window)

  pub window_is : (m : ℕ) (held : List Record) → query.medium ≡ WindowOf m → AreInOrder (all_records opening m events) → AreInOrder held
      → Retains (opening.settings.seconds m) (pins_on opening events m) (all_records opening m events) held
      → filter (matches query) (window (opening.settings.seconds m) held) ≡ selected opening events query
  window_is m held same order order' h =
      retained_window m held (pins_on opening events m) order order' h ∙ ap (λ (medium : Medium). filter (matches query) (extent opening events medium)) (sym same)

  -- the live incident is pinned
  is_pinned : (table : List (Option histories.Incident)) (i : ℕ) (incident : histories.Incident) → option_and_then (λ slot. slot) (slice_get table i) ≡ Some incident
      → Contains (pins_of table) (record { a = incident.a; b = incident.b })
  is_pinned [] i incident e = absurd (none e)
    where
      none : None ≡ Some incident → ⊥
      none e = cc
  is_pinned (None ∷ table) zero incident e = absurd (none e)
    where
      none : None ≡ Some incident → ⊥
      none e = cc
  is_pinned (Some other ∷ table) zero incident e = subst (λ (incident : histories.Incident). Contains (pins_of (Some other ∷ table)) (record { a = incident.a; b = incident.b })) (same e)
      (contains_here (record { a = other.a; b = other.b }) (pins_of table))
    where
      same : Some other ≡ Some incident → other ≡ incident
      same e = cc
  is_pinned (None ∷ table) (suc i) incident e = is_pinned table i incident e
  is_pinned (Some other ∷ table) (suc i) incident e = contains_there (record { a = other.a; b = other.b }) (pins_of table) (record { a = incident.a; b = incident.b }) (is_pinned table i incident e)

  is_live : (table : List (Option histories.Incident)) (id : ℕ) (incident : histories.Incident) → live table id ≡ Some incident → Contains (pins_of table) (record { a = incident.a; b = incident.b })
  is_live table zero incident e = absurd (none e)
    where
      none : None ≡ Some incident → ⊥
      none e = cc
  is_live table (suc i) incident e = is_pinned table i incident e

  retained_places : (id : ℕ) (held : List Record) → AreInOrder (all_records opening 1 events) → AreInOrder held
      → Retains (opening.settings.seconds 1) (pins_of (incidents opening events)) (all_records opening 1 events) held → (o : Option histories.Incident) → live (incidents opening events) id ≡ o
      → records_of_incident o held ≡ records_of_incident o (all_records opening 1 events)
  retained_places id held order order' h None e = refl
  retained_places id held order order' h (Some incident) e = same_places (all_records opening 1 events) held incident.a incident.b order order' h.window.own
      (All-contains (λ pin. HoldsPlaces (all_records opening 1 events) held pin.a pin.b) (pins_of (incidents opening events)) (record { a = incident.a; b = incident.b }) h.places
      (is_live (incidents opening events) id incident e))

  pub is_retained : (held : List Record) → AreInOrder (all_records opening (medium_of query.medium) events) → AreInOrder held
      → Retains (opening.settings.seconds (medium_of query.medium)) (pins_on opening events (medium_of query.medium)) (all_records opening (medium_of query.medium) events) held
      → found query (span_of opening events query.medium) held ≡ selected opening events query
  is_retained held = go query.medium
    where
      go : (medium : Medium) → AreInOrder (all_records opening (medium_of medium) events) → AreInOrder held
          → Retains (opening.settings.seconds (medium_of medium)) (pins_on opening events (medium_of medium)) (all_records opening (medium_of medium) events) held
          → found query (span_of opening events medium) held ≡ filter (matches query) (extent opening events medium)
      go (WindowOf m) order order' h =
          found_in_window query (opening.settings.seconds m) (last (all_records opening m events)) held
          ∙ (ap (λ (o : Option Record). filter (matches query) (window_before o (opening.settings.seconds m) held)) (sym h.window.newest)
          ∙ retained_window m held (pins_on opening events m) order order' h)
      go (Incident id) order order' h =
          found_at_places query (live (incidents opening events) id) held
          ∙ ap (filter (matches query)) (retained_places id held order order' h (live (incidents opening events) id) refl)

pub parts_found : (query : Query) (span : Span) (before behind : List Record) → found query (Some span) (before ++ behind) ≡ found query (Some span) before ++ found query (Some span) behind
parts_found query span before behind = filter-append (λ r. in_span span r && matches query r) before behind

pub none_passes : {X : Type 0} (p : X → Bool) (xs : List X) → ((x : X) → Contains xs x → p x ≡ false) → filter p xs ≡ []
none_passes p [] h = refl
none_passes p (x ∷ xs) h = cond-false (p x) (x ∷ filter p xs) (filter p xs) (h x (contains_here x xs)) ∙ none_passes p xs (λ y m. h y (contains_there x xs y m))

-- A part whose summary does not meet the query has nothing that it selects.
pub nothing_found : (query : Query) (span : Span) (part : Summarised) → IsSummarised part → meets query span part.summary ≡ false → found query (Some span) part.records ≡ []
nothing_found query span part h off = none_passes (λ r. in_span span r && matches query r) part.records (λ r m. fails r m (in_span span r && matches query r) refl)
  where
    fails : (r : Record) → Contains part.records r → (t : Bool) → (in_span span r && matches query r) ≡ t → t ≡ false
    fails r m false e = refl
    fails r m true e =
        let p = and_parts (in_span span r) (matches query r) e in
        absurd (true≢false (sym (meets_one query span part.summary r (one_of part.summary 0 part.records r h.is_theirs h.run_on h.rising m) p.0 p.1) ∙ off))

-- The parts that meet it give the same as all.
pub meeting_found : (query : Query) (span : Span) (parts : List Summarised) → All IsSummarised parts
    → found query (Some span) (records_of_parts (that_meet query span parts)) ≡ found query (Some span) (records_of_parts parts)
meeting_found query span [] all = refl
meeting_found query span (part ∷ parts) all = go (meets query span part.summary) refl (meeting_found query span parts (All-tail IsSummarised part parts all))
  where
    split : found query (Some span) (records_of_parts (part ∷ parts)) ≡ found query (Some span) part.records ++ found query (Some span) (records_of_parts parts)
    split = parts_found query span part.records (records_of_parts parts)

    go : (t : Bool) → meets query span part.summary ≡ t → found query (Some span) (records_of_parts (that_meet query span parts)) ≡ found query (Some span) (records_of_parts parts)
        → found query (Some span) (records_of_parts (that_meet query span (part ∷ parts))) ≡ found query (Some span) (records_of_parts (part ∷ parts))
    go true e same =
        ap (λ (ps : List Summarised). found query (Some span) (records_of_parts ps)) (cond-true (meets query span part.summary) (part ∷ that_meet query span parts) (that_meet query span parts) e)
        ∙ (parts_found query span part.records (records_of_parts (that_meet query span parts))
        ∙ (ap (λ (rs : List Record). found query (Some span) part.records ++ rs) same ∙ sym split))
    go false e same =
        ap (λ (ps : List Summarised). found query (Some span) (records_of_parts ps)) (cond-false (meets query span part.summary) (part ∷ that_meet query span parts) (that_meet query span parts) e)
        ∙ (same ∙ sym (split ∙ ap (λ (rs : List Record). rs ++ found query (Some span) (records_of_parts parts)) (nothing_found query span part (All-head IsSummarised part parts all) e)))
