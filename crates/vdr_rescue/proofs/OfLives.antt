-- A medium with a life that is read alone.
use Rattle.std.proofs.Common.{◌≡◌, ◌⊎◌, ◌<◌, ◌≤◌, ◌&&◌, ℕ, Bool, true, false, List, [], ◌∷◌, ◌++◌, filter, get_or, Any, Contains, Option, Some, None, inl, inr, ⊎_elim, refl, sym, ap, ◌∙◌, subst, arith, append-nil}
use Rattle.std.specs.Prelude.{if◌then◌else◌, nat_le}
use Rattle.std.proofs.lemmas.Bool.{and_parts, cases_Bool, cond-false, leb-true}
use Rattle.std.proofs.lemmas.List.Elements.{All-contains, filter-append}
use Rattle.std.proofs.lemmas.Option.{get_or_from_slice_get, slice_get-get_or}
use Rattle.vdr_terms.specs.Records.{Record, last}
use Rattle.vdr_terms.specs.Order.{AreInOrder}
use Rattle.vdr_terms.specs.Windows.{window}
use Rattle.vdr_terms.specs.Queries.{Medium, Query, matches}
use Rattle.vdr_terms.specs.Queries.Medium.{WindowOf, Incident as IncidentOf}
use Rattle.vdr_core.specs.Histories.{Event, Incident, Opening, live}
use Rattle.vdr_durability.specs.Layout.{Batches, segment_records}
use Rattle.vdr_durability.specs.Playback.{extent, medium_of, records_of_incident, selected}
use Rattle.vdr_durability.specs.Readings.{EndsMeet, ends_before, leading_batch, records_on, restored, with_next}
use Rattle.vdr_durability.specs.Retention.{at_places, within}
use Rattle.vdr_durability.proofs.Lists.{contains_here, contains_there}
use Rattle.vdr_durability.proofs.Ordered.{parts_in_order}
use Rattle.vdr_durability.proofs.Restored.{ends_not_before, last_in_order, next_added, next_kept}
use Rattle.vdr_outside.specs.Disk.{Image, content}
use Rattle.vdr_outside.specs.Parts.{part}
use Rattle.vdr_config.specs.Configuration.{Configuration}
use Rattle.vdr_config.specs.Sizes.{window_of}
use Rattle.vdr_directory.specs.Sequence.{all_records, batches_in}
use Rattle.vdr_incident.specs.Saves.{IsIncidentSlot}
use Rattle.vdr_incident.specs.Tables.{place_of}
use Rattle.vdr_media.specs.Formatted.{IsUnformatted}
use Rattle.vdr_opening.specs.Media.{Contents, HoldsContents, members_with, opening_of, reading_of, slots_on}
use Rattle.vdr_opening.proofs.ContentsHeld.{are_formatted}
use Rattle.vdr_ring.proofs.Records.{records_are}
use Rattle.vdr_vault.specs.Lives.{Life}
use Rattle.vdr_vault.specs.Ours.{IsOurs}
use Rattle.vdr_ring.specs.Whole.{KeepsAll, is_filled}
use Rattle.vdr_vault.specs.Regularity.{AreSound, IsRegularMedium, LacksNothing}
use Rattle.vdr_vault.proofs.Kept.{keeps_all}
use Rattle.vdr_vault.proofs.Lives.{life_incidents, life_ours, life_places, life_windows}
use Rattle.vdr_vault.proofs.SoundMedia.{sound_as}
use Rattle.vdr_rescue.specs.Alones.{Rescue, Rescued, selected_of}
use Rattle.vdr_rescue.specs.Legible.{FindsNothing, GivesAll}
use Rattle.vdr_rescue.specs.Lives.{EndsWithLast, HasNoOlder, RescuesLife}
use Rattle.vdr_rescue.specs.Visiting.{is_among, is_of}
use Rattle.vdr_rescue.proofs.Legible.{legible_finds, legible_gives}

-- The last batch, where batches end before it.
lacking_of : Option (List Record) → Batches → List Record
lacking_of None batches = []
lacking_of (Some batch) batches = if ends_before (Some batch) batches then batch else []

with_lacking : (o : Option (List Record)) (batches : Batches) → segment_records (with_next o batches) ≡ segment_records batches ++ lacking_of o batches
unfolding lacking_of
with_lacking None batches = sym (append-nil (segment_records batches))
with_lacking (Some batch) batches = ⊎_elim
    (λ (e : ends_before (Some batch) batches ≡ true). next_added batches batch e ∙ ap (λ (b : Bool). segment_records batches ++ (if b then batch else [])) (sym e))
    (λ (e : ends_before (Some batch) batches ≡ false).
    ap segment_records (next_kept batches batch e) ∙ sym (append-nil (segment_records batches)) ∙ ap (λ (b : Bool). segment_records batches ++ (if b then batch else [])) (sym e))
    (cases_Bool (ends_before (Some batch) batches))

at_most_last : (o : Option (List Record)) (batches : Batches) → (lacking_of o batches ≡ []) ⊎ (o ≡ Some (lacking_of o batches))
unfolding lacking_of
at_most_last None batches = inl refl
at_most_last (Some batch) batches = go (ends_before (Some batch) batches)
  where
    go : (b : Bool) → ((if b then batch else []) ≡ []) ⊎ (Some batch ≡ Some (if b then batch else []))
    go true = inr refl
    go false = inl refl

none_lacks : (o : Option (List Record)) (batches : Batches) → AreInOrder (segment_records batches) → last batches ≡ o → lacking_of o batches ≡ []
unfolding lacking_of
none_lacks None batches order e = refl
none_lacks (Some batch) batches order e = ap (λ (b : Bool). if b then batch else []) (ends_not_before batches batch (last_in_order batches batch order e) e)

-- Records behind the places that are asked for add none.
none_at : (a b : ℕ) (rs : List Record) → ((r : Record) → Contains rs r → b < r.place) → at_places a b rs ≡ []
none_at a b [] h = refl
none_at a b (r ∷ rs) h = ⊎_elim
    (λ (e : within a b r ≡ true). let le = leb-true r.place b (and_parts (nat_le a r.place) (nat_le r.place b) e).1 in let lt = h r (contains_here r rs) in absurd (omega (arith, le, lt)))
    (λ (e : within a b r ≡ false). cond-false (within a b r) (r ∷ at_places a b rs) (at_places a b rs) e ∙ none_at a b rs (λ s m. h s (contains_there r rs s m)))
    (cases_Bool (within a b r))

at_front : (a b : ℕ) (front rest : List Record) → AreInOrder (front ++ rest) → Any (λ r. r.place ≡ b) front → at_places a b front ≡ at_places a b (front ++ rest)
at_front a b front rest order there =
    let r : Record = there.1 in
    let in_front : Contains front r = (there.0, there.2, there.3) in
    let place = there.4 in
    let none : at_places a b rest ≡ [] = none_at a b rest (λ s m. let lt = ((parts_in_order front rest order).2 r s in_front m).0 in omega (arith, lt, place)) in
    sym (filter-append (within a b) front rest ∙ ap (λ (rs : List Record). at_places a b front ++ rs) none ∙ append-nil (at_places a b front))

-- A live incident has a place.
pub save_order : (image : Image) (y : Contents) (incident : Incident) → HoldsContents image y → Contains y.table (Some incident) → incident.a ≤ incident.b
save_order image y incident holds m =
    let at = m.0 in
    let is : get_or y.table at None ≡ Some incident = get_or_from_slice_get y.table at (Some incident) None (slice_get-get_or y.table at (Some incident) m.1 ∙ ap (λ (o : Option Incident). Some o) m.2) in
    (subst (λ (o : Option Incident). IsIncidentSlot (part (content image 1) (place_of at) 256) o) is (holds.table.each.each at None m.1)).1.legal.order

module _ (image : Image) (y : Contents) (m : ℕ) (holds : HoldsContents image y) (there : Contains (members_with y.further) m) (ours : IsOurs image) where
  meet_and_sound : EndsMeet (members_with y.further) (reading_of y) × AreSound y
  meet_and_sound = ⊎_elim
      (λ (none : IsUnformatted image). absurd (are_formatted image y holds none))
      (λ (o : (x : Contents) × HoldsContents image x × EndsMeet (members_with x.further) (reading_of x) × AreSound x). sound_as image o.0 y o.1 holds (o.2, o.3))
      ours

  pub lacking_here : List Record
  lacking_here = lacking_of (leading_batch (members_with y.further) (reading_of y)) (batches_in (y.placed m))

  pub restored_here : records_on (restored (members_with y.further) (reading_of y)) m ≡ all_records (y.placed m) ++ lacking_here
  unfolding lacking_here
  restored_here = with_lacking (leading_batch (members_with y.further) (reading_of y)) (batches_in (y.placed m)) ∙ ap (λ (rs : List Record). rs ++ lacking_of (leading_batch (members_with y.further) (reading_of y)) (batches_in (y.placed m))) (records_are (y.placed m))

  pub order_here : AreInOrder (all_records (y.placed m) ++ lacking_here)
  order_here = subst AreInOrder restored_here (All-contains (IsRegularMedium y) (members_with y.further) m meet_and_sound.1.regular there).order

  pub none_here : EndsWithLast y m → lacking_here ≡ []
  unfolding lacking_here
  none_here e = none_lacks (leading_batch (members_with y.further) (reading_of y)) (batches_in (y.placed m))
      (subst AreInOrder (sym (records_are (y.placed m))) (parts_in_order (all_records (y.placed m)) (lacking_of (leading_batch (members_with y.further) (reading_of y)) (batches_in (y.placed m))) order_here).0) e

  pub at_most_here : (lacking_here ≡ []) ⊎ (last (batches_in (y.placed 0)) ≡ Some lacking_here)
  unfolding lacking_here
  at_most_here = at_most_last (leading_batch (members_with y.further) (reading_of y)) (batches_in (y.placed m))

  -- It lacks nothing, with the last batch or without.
  keeps_here : KeepsAll (window_of y.config m) (slots_on y.config image m) (y.placed m)
  keeps_here = keeps_all y m (slots_on y.config image m) (All-contains (λ m. y.filled m ≡ is_filled (slots_on y.config image m) (y.placed m)) (members_with y.further) m holds.filled there)
      (All-contains (LacksNothing y) (members_with y.further) m meet_and_sound.1.kept there)

  pub ours_find : (x : Rescue) → Rescued m (content image m) x → FindsNothing x
  ours_find x k = legible_finds image y m holds there x k keeps_here

module _ (c : Configuration) (text : List ℕ) (all : List Event) (image : Image) (y : Contents) (m : ℕ) (x : Rescue) (life : Life c text all image) (holds : HoldsContents image y) (there : Contains (members_with y.further) m) (k : Rescued m (content image m) x) where
  gives : GivesAll y m x
  gives = legible_gives image y m holds there x k

  ours : IsOurs image
  ours = life_ours c text all image life

  given_and : (opening_of y).records m ≡ x.given ++ lacking_here image y m holds there ours
  given_and = restored_here image y m holds there ours ∙ ap (λ (rs : List Record). rs ++ lacking_here image y m holds there ours) (sym gives.given)

  in_order : AreInOrder (x.given ++ lacking_here image y m holds there ours)
  in_order = subst (λ (rs : List Record). AreInOrder (rs ++ lacking_here image y m holds there ours)) (sym gives.given) (order_here image y m holds there ours)

  pub rescues_life : RescuesLife c text all y m x
  rescues_life = record {
    lacking = lacking_here image y m holds there ours;
    at_most = at_most_here image y m holds there ours;
    none_if = none_here image y m holds there ours;
    recent = ap (window (window_of c m)) (sym given_and) ∙ life_windows c text all image y m life holds there;
    table = λ e. gives.table e ∙ life_incidents c text all image y life holds;
    places = λ incident e live.
        let listed : Contains y.table (Some incident) = subst (λ (t : List (Option Incident)). Contains t (Some incident)) (gives.table e) live in
        let last_there : Any (λ r. r.place ≡ incident.b) x.given = gives.places incident e live incident.b (save_order image y incident holds listed) (omega arith) in
        at_front incident.a incident.b x.given (lacking_here image y m holds there ours) in_order last_there
        ∙ ap (at_places incident.a incident.b) (sym given_and)
        ∙ ap (λ (n : ℕ). at_places incident.a incident.b ((opening_of y).records n)) e
        ∙ life_places c text all image y incident life holds listed;
  }

-- What a query selects

both_tests : (p q : Record → Bool) (rs : List Record) → filter (λ r. q r && p r) rs ≡ filter p (filter q rs)
both_tests p q [] = refl
both_tests p q (r ∷ rs) = go (q r) refl (both_tests p q rs)
  where
    go : (b : Bool) → q r ≡ b → filter (λ r. q r && p r) rs ≡ filter p (filter q rs) → filter (λ r. q r && p r) (r ∷ rs) ≡ filter p (filter q (r ∷ rs))
    go true is rest =
        ap (λ (b : Bool). if b && p r then r ∷ filter (λ r. q r && p r) rs else filter (λ r. q r && p r) rs) is
        ∙ ap (λ (xs : List Record). if p r then r ∷ xs else xs) rest
        ∙ ap (λ (b : Bool). filter p (if b then r ∷ filter q rs else filter q rs)) (sym is)
    go false is rest =
        ap (λ (b : Bool). if b && p r then r ∷ filter (λ r. q r && p r) rs else filter (λ r. q r && p r) rs) is
        ∙ rest
        ∙ ap (λ (b : Bool). filter p (if b then r ∷ filter q rs else filter q rs)) (sym is)

none_passes : (p : Record → Bool) (rs : List Record) → filter (λ r. false && p r) rs ≡ []
none_passes p [] = refl
none_passes p (r ∷ rs) = none_passes p rs

module _ (query : Query) (c : Configuration) (table : List (Option Incident)) (given : List Record) where
  window_selects : (m : ℕ) → window (window_of c m) given ≡ given → filter (λ r. is_of table (WindowOf m) r.place && matches query r) given ≡ filter (matches query) (window (window_of c m) given)
  window_selects m none = ap (filter (matches query)) (sym none)

  incident_selects : (o : Option Incident) → filter (λ r. is_among o r.place && matches query r) given ≡ filter (matches query) (records_of_incident o given)
  incident_selects None = none_passes (matches query) given
  incident_selects (Some x) = both_tests (matches query) (within x.a x.b) given

  selects_same : (opening : Opening) (medium : Medium) → HasNoOlder c given medium → opening.settings.seconds ≡ window_of c → opening.records (medium_of medium) ≡ given → (medium_of medium ≡ 1 → opening.table ≡ table)
      → filter (λ r. is_of table medium r.place && matches query r) given ≡ filter (matches query) (extent opening [] medium)
  selects_same opening (WindowOf m) none seconds are tables =
      window_selects m none
      ∙ ap (λ (n : ℕ). filter (matches query) (window n given)) (sym (ap (λ (f : ℕ → ℕ). f m) seconds))
      ∙ ap (λ (rs : List Record). filter (matches query) (window (opening.settings.seconds m) rs)) (sym are ∙ sym (append-nil (opening.records m)))
  selects_same opening (IncidentOf id) none seconds are tables =
      incident_selects (live table id)
      ∙ ap (λ (t : List (Option Incident)). filter (matches query) (records_of_incident (live t id) given)) (sym (tables refl))
      ∙ ap (λ (rs : List Record). filter (matches query) (records_of_incident (live opening.table id) rs)) (sym are ∙ sym (append-nil (opening.records 1)))

pub plays_same : (image : Image) (y : Contents) (x : Rescue) (query : Query) → IsOurs image → HoldsContents image y → Contains (members_with y.further) (medium_of query.medium) → Rescued (medium_of query.medium) (content image (medium_of query.medium)) x
    → EndsWithLast y (medium_of query.medium) → HasNoOlder y.config x.given query.medium → selected_of x query ≡ selected (opening_of y) [] query
plays_same image y x query ours holds there k ends none =
    let m = medium_of query.medium in
    let gives = legible_gives image y m holds there x k in
    let are : (opening_of y).records m ≡ x.given =
    restored_here image y m holds there ours ∙ ap (λ (rs : List Record). all_records (y.placed m) ++ rs) (none_here image y m holds there ours ends) ∙ append-nil (all_records (y.placed m)) ∙ sym gives.given in
    selects_same query y.config x.table x.given (opening_of y) query.medium none refl are (λ e. sym (gives.table e))
