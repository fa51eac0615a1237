-- What the runs of a life leave, joined to one history.
use Rattle.std.proofs.Common.{◌≡◌, ◌⊎◌, inr, ℕ, List, [], ◌∷◌, ◌++◌, Contains, Option, Some, Ok, refl, sym, ap, ◌∙◌, subst, append_assoc, append-nil, ⊎_elim, arith}
use Rattle.std.proofs.lemmas.List.Elements.{All-contains, All-weaker}
use Rattle.std.proofs.lemmas.Grind.{flat_map-append}
use Rattle.vdr_terms.specs.Order.{AreInOrder}
use Rattle.vdr_terms.specs.Records.{Record, last}
use Rattle.vdr_terms.specs.Windows.{window}
use Rattle.vdr_core.specs.Histories.{Event, Incident, MayFollow, Opening, all_records, incidents, recorded, records_of_act}
use Rattle.vdr_durability.specs.Layout.{segment_records}
use Rattle.vdr_durability.specs.Retention.{Retains, at_places}
use Rattle.vdr_durability.proofs.Lists.{all_from, contains_here}
use Rattle.vdr_durability.proofs.Ordered.{parts_in_order}
use Rattle.vdr_durability.specs.FurtherRuns.{IsTwoRuns}
use Rattle.vdr_durability.specs.Keeping.{ShowsPrefix}
use Rattle.vdr_durability.specs.Readings.{EndsMeet, Reading, records_on, restored, with_next}
use Rattle.vdr_durability.specs.Shown.{RetainsOn, Shows, given_with, opened, pins_on}
use Rattle.vdr_durability.proofs.Joined.{lives_follow, lives_order, lives_show}
use Rattle.vdr_durability.proofs.Reopened.{reopened_places, reopened_window}
use Rattle.vdr_outside.specs.Disk.{Disk, Image}
use Rattle.vdr_config.specs.Configuration.{Configuration}
use Rattle.vdr_config.specs.Grammar.{configuration}
use Rattle.vdr_config.specs.Sizes.{window_of}
use Rattle.vdr_config.proofs.Ranges.{ranges_of}
use Rattle.vdr_media.specs.Formatted.{IsEmptyHistory, members}
use Rattle.vdr_media.proofs.Two.{all_two}
use Rattle.vdr_directory.specs.Sequence.{batches_in}
use Rattle.vdr_opening.specs.Media.{members_with, Contents, HoldsContents, nothing_on, opening_of, reading_of}
use Rattle.vdr_opening.specs.Settings.{settings_of}
use Rattle.vdr_opening.proofs.ContentsHeld.{are_legal, one_configured_text, one_incidents, one_placed_at}
use Rattle.vdr_opening.proofs.SameEnds.{EndsAlike, same_end, same_ends}
use Rattle.vdr_opening.proofs.Fronts.{empty_holds, empty_meet, one_config}
use Rattle.vdr_vault.specs.Openings.{LeavesAll}
use Rattle.vdr_vault.specs.Regularity.{AreSound, IsRegularMedium}
use Rattle.vdr_vault.specs.Vaults.{ShowsHistory}
use Rattle.vdr_vault.proofs.OpenContents.{restored_shown}
use Rattle.vdr_vault.proofs.SoundMedia.{sound_as, sound_nothing}
use Rattle.vdr_vault.specs.Lives.{IsRun, Life, LivesOn, first_opening}
use Rattle.vdr_vault.specs.Lives.Life.{formatted, ran}
use Rattle.vdr_vault.specs.Ours.{IsOurs, RestAs}

-- The first events of a run are one

follow_front : (opening : Opening) (before first rest : List Event) → MayFollow opening before (first ++ rest) → MayFollow opening before first
follow_front opening before [] rest h = tt
follow_front opening before (e ∷ es) rest (may, more) = (may, follow_front opening (before ++ e ∷ []) es rest more)

order_front : (opening : Opening) (m : ℕ) (first rest : List Event) → AreInOrder (all_records opening m (first ++ rest)) → AreInOrder (all_records opening m first)
order_front opening m first rest order = (parts_in_order (all_records opening m first) (recorded rest) (subst AreInOrder
    (ap (λ (rs : List Record). opening.records m ++ rs) (flat_map-append (λ (e : Event). records_of_act e.act) first rest) ∙ sym (append_assoc (opening.records m) (recorded first) (recorded rest))) order)).0

pub run_front : (x : Contents) (first rest events : List Event) → events ≡ first ++ rest → IsRun x events → IsRun x first
run_front x first rest events split run = record {
  follow = follow_front (opening_of x) [] first rest (subst (MayFollow (opening_of x) []) split run.follow);
  order = All-weaker (λ m. AreInOrder (given_with (opening_of x) events m)) (λ m. AreInOrder (given_with (opening_of x) first m))
      (λ m h. order_front (opening_of x) m first rest (subst (λ (es : List Event). AreInOrder (all_records (opening_of x) m es)) split h)) (members_with x.further) run.order;
}

pub run_in_order : (x : Contents) (events : List Event) → MayFollow (opening_of x) [] events → ((m : ℕ) → Contains (members_with x.further) m → AreInOrder (all_records (opening_of x) m events)) → IsRun x events
run_in_order x events follow order = record { follow = follow; order = all_from (λ m. AreInOrder (given_with (opening_of x) events m)) (members_with x.further) order }

-- What media show depends on what both read as alone.
module _ (opening : Opening) (events : List Event) (r s : Reading) (first : r.batches 0 ≡ s.batches 0) (second : r.batches 1 ≡ s.batches 1) (table : r.table ≡ s.table) (text : r.text ≡ s.text) where
  abbrev Kept : Reading → ℕ → Type 0
  Kept reading = RetainsOn opening.settings (incidents opening events) (given_with opening events) (λ m. records_on (restored members reading) m)

  pub shows_as : Shows members opening events r → Shows members opening events s
  shows_as h = record {
    media = record {
      are_members = h.media.are_members;
      text = sym text ∙ h.media.text;
      ends = same_ends r s members (all_two (EndsAlike r s) (same_end first) (same_end second)) h.media.ends;
      media = all_two (Kept s)
          (subst (Retains (opening.settings.seconds 0) (pins_on 0 (incidents opening events)) (given_with opening events 0)) (λ i. segment_records (with_next (last (first i)) (first i))) (h.media.media 0 0 (omega arith)))
          (subst (Retains (opening.settings.seconds 1) (pins_on 1 (incidents opening events)) (given_with opening events 1)) (λ i. segment_records (with_next (last (first i)) (second i))) (h.media.media 1 1 (omega arith)));
    };
    saves = record { long_term = h.saves.long_term; table = sym table ∙ h.saves.table };
  }

module _ (c : Configuration) (text : List ℕ) where
  -- What is known of an image after all of these events.
  record LivesSo (all : List Event) (image : Image) : Type 0 where
    pub contents : Contents
    pub holds : HoldsContents image contents
    pub sound : AreSound contents
    pub shown : Shows members (first_opening c text) all (reading_of contents)
    pub follow : MayFollow (first_opening c text) [] all
    pub order : (m : ℕ) → Contains members m → AreInOrder (all_records (first_opening c text) m all)
    pub reads : configuration text ≡ Ok c

  begun : (image : Image) → IsEmptyHistory members c text image → LivesSo [] image
  begun image empty = from (restored_shown (nothing_on 0 c text) image (empty_holds 0 image c text refl empty) (empty_meet 0 c text) (sound_nothing c text))
    where
      from : ShowsHistory (first_opening c text) [] image → LivesSo [] image
      from (numbers, reading, is_read, shown) = record {
        contents = is_read.reads.contents;
        holds = is_read.reads.holds;
        sound = is_read.sound;
        shown = subst (Shows members (first_opening c text) []) is_read.reads.is (subst (λ (ms : List ℕ). Shows ms (first_opening c text) [] reading) (is_read.reads.members_are ∙ ap members_with is_read.reads.holds.further) shown);
        follow = tt;
        order = λ m there. tt;
        reads = (empty.each 0 0 (omega arith)).holds.reads;
      }

  -- The contents of an image, whichever they are.
  module _ (all : List Event) (image : Image) (l : LivesSo all image) (x : Contents) (holds : HoldsContents image x) where
    -- It is of this version.
    version : members_with x.further ≡ members
    version = ap members_with holds.further

    shown_on : Shows members (first_opening c text) all (reading_of x)
    shown_on = shows_as (first_opening c text) all (reading_of l.contents) (reading_of x) (ap batches_in (one_placed_at (are_legal l.holds) (are_legal holds) 0 (omega arith))) (ap batches_in (one_placed_at (are_legal l.holds) (are_legal holds) 1 (omega arith)))
        (one_incidents (are_legal l.holds) (are_legal holds) l.holds.table holds.table) (one_configured_text (are_legal l.holds) (are_legal holds)) l.shown

    same_text : x.text ≡ text
    same_text = shown_on.media.text

    same_config : x.config ≡ c
    same_config = one_config x.text x.config c (holds.media 0 0 (omega arith)).front.configured.reads (ap configuration same_text ∙ l.reads)

    sound_on : AreSound x
    sound_on = (sound_as image l.contents x l.holds holds (subst (λ (ms : List ℕ). EndsMeet ms (reading_of l.contents)) (ap members_with (sym l.holds.further)) l.shown.media.ends, l.sound)).1

    restored_order : (m : ℕ) → Contains members m → AreInOrder (records_on (restored members (reading_of x)) m)
    restored_order m there =
        subst (λ (ms : List ℕ). AreInOrder (records_on (restored ms (reading_of x)) m)) version
        (All-contains (IsRegularMedium x) (members_with x.further) m sound_on.regular (subst (λ (ms : List ℕ). Contains ms m) (sym version) there)).order

    same_opening : opening_of x ≡ opened members (settings_of c text) (reading_of x)
    same_opening = λ i. opened (version i) (settings_of (same_config i) (same_text i)) (reading_of x)

    windows_on : (m : ℕ) → Contains members m → window (window_of c m) ((opening_of x).records m) ≡ window (window_of c m) (recorded all)
    windows_on m there = reopened_window members (first_opening c text) all (reading_of x) shown_on m there (l.order m there) (restored_order m there)

    places_on : (incident : Incident) → Contains x.table (Some incident) → at_places incident.a incident.b ((opening_of x).records 1) ≡ at_places incident.a incident.b (recorded all)
    places_on incident live = reopened_places members (first_opening c text) all (reading_of x) shown_on incident
        (subst (λ (t : List (Option Incident)). Contains t (Some incident)) shown_on.saves.table live) (l.order 1 shown_on.saves.long_term) (restored_order 1 shown_on.saves.long_term)

    -- One run more.
    module _ (after : Image) (events : List Event) (run : IsRun x events) (numbers : List ℕ) (reading : Reading) (y : Contents) (members_are : numbers ≡ members_with y.further) (is : reading ≡ reading_of y)
        (y_holds : HoldsContents after y) (y_sound : AreSound y) (shown : Shows numbers (opening_of x) events reading) where
      two_runs : IsTwoRuns members (first_opening c text) all (reading_of x) events (reading_of y)
      two_runs = record {
        longer = (ranges_of text c l.reads).1;
        leads = contains_here 0 (1 ∷ []);
        goes_on = record { place = refl; stamp = refl };
        follow = l.follow;
        shown = shown_on;
        again = subst (λ (o : Opening). MayFollow o [] events) same_opening run.follow;
        shown_again = subst (λ (o : Opening). Shows members o events (reading_of y)) same_opening
            (subst (Shows members (opening_of x) events) is (subst (λ (ms : List ℕ). Shows ms (opening_of x) events reading) (members_are ∙ ap members_with y_holds.further) shown));
        order = l.order;
        order_again = λ m there. subst (λ (o : Opening). AreInOrder (all_records o m events)) same_opening (All-contains (λ m. AreInOrder (given_with (opening_of x) events m)) (members_with x.further) m run.order (subst (λ (ms : List ℕ). Contains ms m) (sym version) there));
      }

      further : LivesSo (all ++ events) after
      further = record {
        contents = y;
        holds = y_holds;
        sound = y_sound;
        shown = lives_show members (first_opening c text) all (reading_of x) events (reading_of y) two_runs;
        follow = lives_follow members (first_opening c text) all (reading_of x) events (reading_of y) two_runs;
        order = lives_order members (first_opening c text) all (reading_of x) events (reading_of y) two_runs;
        reads = l.reads;
      }

  one_run : (all : List Event) (before after : Image) (x : Contents) (events : List Event) → LivesSo all before → HoldsContents before x → IsRun x events → ShowsHistory (opening_of x) events after → LivesSo (all ++ events) after
  one_run all before after x events l holds run (numbers, reading, is_read, shown) =
      further all before l x holds after events run numbers reading is_read.reads.contents is_read.reads.members_are is_read.reads.is is_read.reads.holds is_read.sound shown

  lives_so : (all : List Event) (image : Image) → Life c text all image → LivesSo all image
  lives_so _ _ (formatted image empty) = begun image empty
  lives_so _ _ (ran before_all before after x events life holds run shown) = one_run before_all before after x events (lives_so before_all before life) holds run shown

  pub life_stopped : (all events : List Event) (before after : Image) (x : Contents) → Life c text all before → HoldsContents before x → IsRun x events → ShowsPrefix (ShowsHistory (opening_of x)) events 0 after
      → (more : List Event) × (rest : List Event) × (events ≡ more ++ rest) × Life c text (all ++ more) after
  life_stopped all events before after x life holds run shown =
      (shown.first, shown.rest, shown.split, ran all before after x shown.first life holds (run_front x shown.first shown.rest events shown.split run) shown.shown)

  pub life_ours : (all : List Event) (image : Image) → Life c text all image → IsOurs image
  life_ours all image life = let l = lives_so all image life in inr (l.contents, l.holds, subst (λ (ms : List ℕ). EndsMeet ms (reading_of l.contents)) (ap members_with (sym l.holds.further)) l.shown.media.ends, l.sound)

  pub life_config : (all : List Event) (image : Image) (x : Contents) → Life c text all image → HoldsContents image x → x.config ≡ c
  life_config all image x life holds = same_config all image (lives_so all image life) x holds

  pub life_windows : (all : List Event) (image : Image) (x : Contents) (m : ℕ) → Life c text all image → HoldsContents image x → Contains (members_with x.further) m → window (window_of c m) ((opening_of x).records m) ≡ window (window_of c m) (recorded all)
  life_windows all image x m life holds there = windows_on all image (lives_so all image life) x holds m (subst (λ (ms : List ℕ). Contains ms m) (ap members_with holds.further) there)

  pub life_incidents : (all : List Event) (image : Image) (x : Contents) → Life c text all image → HoldsContents image x → x.table ≡ incidents (first_opening c text) all
  life_incidents all image x life holds = (shown_on all image (lives_so all image life) x holds).saves.table

  pub life_places : (all : List Event) (image : Image) (x : Contents) (incident : Incident) → Life c text all image → HoldsContents image x → Contains x.table (Some incident)
      → at_places incident.a incident.b ((opening_of x).records 1) ≡ at_places incident.a incident.b (recorded all)
  life_places all image x incident life holds live = places_on all image (lives_so all image life) x holds incident live

  -- What media with a life hold.
  pub record LifeHolds (image : Image) : Type 0 where
    pub contents : Contents
    pub holds : HoldsContents image contents
    pub meet : EndsMeet (members_with contents.further) (reading_of contents)
    pub sound : AreSound contents

  pub life_holds : (all : List Event) (image : Image) → Life c text all image → LifeHolds image
  life_holds all image life = let l = lives_so all image life in record { contents = l.contents; holds = l.holds; meet = subst (λ (ms : List ℕ). EndsMeet ms (reading_of l.contents)) (ap members_with (sym l.holds.further)) l.shown.media.ends; sound = l.sound }

  module _ {tells tells_images : Type 0} (all : List Event) (image : Image) (old new : Disk tells tells_images) (rest : RestAs image old) (life : Life c text all image) where
    rested : (i : Image) → old.now i → Life c text (all ++ []) i
    rested i now = subst (λ (es : List Event). Life c text es i) (sym (append-nil all)) (subst (Life c text all) (sym (rest.alone i now)) life)

    -- A call that writes nothing.
    pub lives_still : LeavesAll old new → LivesOn c text all old new
    lives_still leaves = record { events = []; each = λ i left. ([], [], refl, rested i (leaves.each i left)) }

    -- And one that leaves what shows the first events of a run.
    pub lives_on : (x : Contents) (events : List Event) → HoldsContents image x → IsRun x events
        → ((i : Image) → new.since old.clock i → old.now i ⊎ ShowsPrefix (ShowsHistory (opening_of x)) events 0 i) → LivesOn c text all old new
    lives_on x events holds run left = record {
      events = events;
      each = λ i since. ⊎_elim (λ now. ([], events, refl, rested i now)) (λ (shown : ShowsPrefix (ShowsHistory (opening_of x)) events 0 i). life_stopped all events image i x life holds run shown) (left i since);
    }
