-- Legible media that show a history play back what it has.
use Rattle.std.proofs.Common.{◌≡◌, ℕ, zero, suc, List, [], ◌∷◌, Contains, Option, Some, None, Ok, filter, slice_get, option_and_then, refl, sym, ap, ◌∙◌, subst, append-nil}
use Rattle.std.specs.List.{range_with_len}
use Rattle.std.proofs.lemmas.List.Elements.{All-contains}
use Rattle.vdr_terms.specs.Order.{AreInOrder}
use Rattle.vdr_terms.specs.Queries.{Medium, matches}
use Rattle.vdr_terms.specs.Queries.Medium.{WindowOf, Incident}
use Rattle.vdr_terms.specs.Windows.{window}
use Rattle.vdr_core.specs.Histories.{Event, all_records, incidents, live}
use Rattle.vdr_core.specs.Histories as histories
use Rattle.vdr_durability.specs.Playback.{extent, records_of_incident}
use Rattle.vdr_durability.proofs.Lists.{contains_here, contains_there}
use Rattle.vdr_durability.specs.Readings.{records_on, restored}
use Rattle.vdr_durability.specs.Shown.{RetainsOn, Shows, given_with}
use Rattle.vdr_durability.proofs.Reopened.{reopened_places, reopened_window}
use Rattle.vdr_outside.specs.Disk.{Image, content}
use Rattle.vdr_config.specs.Grammar.{configuration}
use Rattle.vdr_config.specs.Sizes.{window_of}
use Rattle.vdr_media.specs.Formatted.{members}
use Rattle.vdr_opening.specs.Media.{members_with, Contents, HoldsContents, IsMedium, opening_of, reading_of}
use Rattle.vdr_opening.proofs.Fronts.{one_config}
use Rattle.vdr_vault.specs.Regularity.{AreSound}
use Rattle.vdr_vault.specs.Vaults.{ShowsHistory}
use Rattle.vdr_recorder.specs.Headline.{IsThere, PlaysBack}
use Rattle.vdr_recorder.proofs.Ordering.{among_in_order}
use Rattle.vdr_recorder.proofs.Restoring.{restored_rises}

-- The text is read as one configuration.
pub config_read : (image : Image) (x : Contents) → HoldsContents image x → configuration x.text ≡ Ok x.config
config_read image x holds = (All-contains (λ m. IsMedium m x.config x.text (x.placed m) (content image m)) (members_with x.further) 0 holds.media (contains_here 0 (1 ∷ range_with_len 2 x.further))).front.configured.reads

-- A live incident stands in the table.
slot_there : (table : List (Option histories.Incident)) (i : ℕ) (incident : histories.Incident) → option_and_then (λ slot. slot) (slice_get table i) ≡ Some incident → Contains table (Some incident)
slot_there [] i incident e = absurd (none e)
  where
    none : None ≡ Some incident → ⊥
    none e = cc
slot_there (slot ∷ table) zero incident e = subst (Contains (slot ∷ table)) e (contains_here slot table)
slot_there (slot ∷ table) (suc i) incident e = contains_there slot table (Some incident) (slot_there table i incident e)

live_there : (table : List (Option histories.Incident)) (id : ℕ) (incident : histories.Incident) → live table id ≡ Some incident → Contains table (Some incident)
live_there table zero incident e = absurd (none e)
  where
    none : None ≡ Some incident → ⊥
    none e = cc
live_there table (suc i) incident e = slot_there table i incident e

module _ (x : Contents) (reads : configuration x.text ≡ Ok x.config) (events : List Event) (order : (m : ℕ) → Contains members m → AreInOrder (all_records (opening_of x) m events))
    (image : Image) (y : Contents) (holds : HoldsContents image y) (sound : AreSound y) (shown : Shows members (opening_of x) events (reading_of y)) where
  same_config : y.config ≡ x.config
  same_config = one_config x.text y.config x.config (ap configuration (sym shown.media.text) ∙ config_read image y holds) reads

  held_in_order : (m : ℕ) → Contains members m → AreInOrder (records_on (restored members (reading_of y)) m)
  held_in_order m there = among_in_order (all_records (opening_of x) m events) (records_on (restored members (reading_of y)) m) (order m there)
      (All-contains (RetainsOn (opening_of x).settings (incidents (opening_of x) events) (given_with (opening_of x) events) (records_on (restored members (reading_of y)))) members m shown.media.media there).window.own
      (restored_rises image y holds m there)

  now_all : (m : ℕ) → all_records (opening_of y) m [] ≡ records_on (restored members (reading_of y)) m
  now_all m = append-nil (records_on (restored members (reading_of y)) m)

  extent_same : (medium : Medium) → IsThere (opening_of x) events medium → extent (opening_of y) [] medium ≡ extent (opening_of x) events medium
  extent_same (WindowOf m) there =
      (λ i. window (window_of (same_config i) m) (now_all m i))
      ∙ reopened_window members (opening_of x) events (reading_of y) shown m there (order m there) (held_in_order m there)
  extent_same (Incident id) there =
      (λ i. records_of_incident (live (shown.saves.table i) id) (now_all 1 i))
      ∙ at_incident (live (incidents (opening_of x) events) id) refl
    where
      at_incident : (o : Option histories.Incident) → live (incidents (opening_of x) events) id ≡ o
          → records_of_incident (live (incidents (opening_of x) events) id) (records_on (restored members (reading_of y)) 1) ≡ records_of_incident (live (incidents (opening_of x) events) id) (all_records (opening_of x) 1 events)
      at_incident None e = (λ i. records_of_incident (e i) (records_on (restored members (reading_of y)) 1)) ∙ (λ i. records_of_incident (sym e i) (all_records (opening_of x) 1 events))
      at_incident (Some incident) e =
          (λ i. records_of_incident (e i) (records_on (restored members (reading_of y)) 1))
          ∙ reopened_places members (opening_of x) events (reading_of y) shown incident (live_there (incidents (opening_of x) events) id incident e) (order 1 shown.saves.long_term) (held_in_order 1 shown.saves.long_term)
          ∙ (λ i. records_of_incident (sym e i) (all_records (opening_of x) 1 events))

  played_back : PlaysBack (opening_of x) events image
  played_back = record {
    contents = y;
    legible = holds;
    sound = sound;
    shown = shown;
    played = λ query there. ap (filter (matches query)) (extent_same query.medium there);
  }

-- An image that shows the events plays them back.
pub plays : (x : Contents) → configuration x.text ≡ Ok x.config → (events : List Event) → ((m : ℕ) → Contains members m → AreInOrder (all_records (opening_of x) m events)) → (image : Image)
    → ShowsHistory (opening_of x) events image → PlaysBack (opening_of x) events image
plays x reads events order image (numbers, reading, is_read, shown) =
    played_back x reads events order image is_read.reads.contents is_read.reads.holds is_read.sound
    (subst (Shows members (opening_of x) events) is_read.reads.is (subst (λ (ms : List ℕ). Shows ms (opening_of x) events reading) (is_read.reads.members_are ∙ ap members_with is_read.reads.holds.further) shown))
