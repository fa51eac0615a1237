-- What a recording leaves, in the words of its headline.
use Rattle.std.proofs.Common.{◌≡◌, ◌≢◌, ◌⊎◌, inl, inr, ◌≤◌, ℕ, List, [], ◌∷◌, ◌++◌, Contains, Option, None, Ok, ⊎_elim, refl, sym, ap, ◌∙◌, subst, arith, append-nil, suc}
use Rattle.std.specs.List.{range_with_len}
use Rattle.std.proofs.lemmas.List.Elements.{All-contains, All-nil}
use Rattle.vdr_terms.specs.Order.{AreInOrder}
use Rattle.vdr_terms.specs.Needs.{cost, usable}
use Rattle.vdr_terms.specs.Records.{Record, last}
use Rattle.vdr_core.specs.Histories.{Event, IsHistory, Opening, all_records, recorded, stamp_of}
use Rattle.vdr_core.specs.RunStates.{IsRecorderHistory}
use Rattle.vdr_durability.proofs.Lists.{contains_cases, contains_here, contains_there, none_contained}
use Rattle.vdr_durability.specs.Keeping.{IsWhole, Keeps, RiseFrom, ShowsAtMost, ShowsPrefix, acknowledged}
use Rattle.vdr_durability.specs.Readings.{next_after}
use Rattle.vdr_durability.specs.Shown.{GoesOnFrom}
use Rattle.vdr_outside.specs.Disk.{Disk, Image}
use Rattle.vdr_outside.proofs.Moments.{moments_weaken}
use Rattle.vdr_config.specs.Grammar.{configuration}
use Rattle.vdr_config.specs.Sizes.{sizes_of}
use Rattle.vdr_media.specs.Formatted.{members}
use Rattle.vdr_opening.specs.Media.{members_with, Contents, opening_of}
use Rattle.vdr_vault.specs.Openings.{GoesOnSynced}
use Rattle.vdr_vault.specs.Regularity.{AreSound, IsRegularMedium}
use Rattle.vdr_vault.specs.Vaults.{ShowsHistory}
use Rattle.vdr_ring.proofs.Continuing.{one_end}
use Rattle.vdr_recorder.specs.Recordings.{HasRecorded, Passes, RecorderState}
use Rattle.vdr_recorder.proofs.Opened.{keeps_synced}
use Rattle.vdr_recorder.specs.Headline.{Headline, IsHeard, PlaysBack, RecordingHeadline, ToldHeadline}
use Rattle.vdr_recorder.specs.Watched.{Watched, nothing_told}
use Rattle.vdr_recorder.proofs.Ordering.{all_in_order, front_in_order}
use Rattle.vdr_recorder.proofs.Passing.{none_seen, passes_first, passes_join, passes_synced}
use Rattle.vdr_recorder.proofs.Playing.{plays}

-- What shows the first of some events, in other words

module _ (shows others : List Event → Image → Type 0) (events : List Event)
    (to : (first rest : List Event) → events ≡ first ++ rest → (image : Image) → shows first image → others first image) where
  pub prefix_told : (least : ℕ) (image : Image) → ShowsPrefix shows events least image → ShowsPrefix others events least image
  prefix_told least image p = record { first = p.first; rest = p.rest; split = p.split; enough = p.enough; shown = to p.first p.rest p.split image p.shown }

  pub keeps_told : {tells tells_images : Type 0} (t0 : ℕ) (disk : Disk tells tells_images) → Keeps shows events t0 disk → Keeps others events t0 disk
  keeps_told t0 disk h = record {
    rising = h.rising;
    pending = h.pending;
    prefixes = λ t image start end left. prefix_told _ image (h.prefixes t image start end left);
    one_more = λ t image start end left. ⊎_elim (λ was. inl was)
        (λ (m : ShowsAtMost shows events (suc (acknowledged events t)) image). inr (record { first = m.first; rest = m.rest; split = m.split; few = m.few; shown = to m.first m.rest m.split image m.shown }))
        (h.one_more t image start end left);
    now = λ whole image now. to events [] (sym (append-nil events)) image (h.now whole image now);
  }

-- A headline, where what shows its events shows them otherwise too
abbrev pub told_as : {tells tells_images : Type 0} (opening : Opening) (shows others : List Event → Image → Type 0) (Told Tells : List Event → Type 0)
    (pends may_pend : Type 0) (before after : Disk tells tells_images) (hears hears' : Type 0) (w w' : Watched)
    → (h : Headline opening shows Told pends before after hears w)
    → ((first rest : List Event) → h.events ≡ first ++ rest → (image : Image) → shows first image → others first image)
    → (Told h.events → Tells h.events) → (pends → may_pend) → (hears' → IsHeard opening h.events h.synced before w') → Headline opening others Tells may_pend before after hears' w'
told_as opening shows others Told Tells pends may_pend before after hears hears' w w' h to told pend heard = record {
  events = h.events;
  history = h.history;
  order = h.order;
  pending = ⊎_elim (λ whole. inl whole) (λ p. inr (pend p)) h.pending;
  told = told h.told;
  moments = moments_weaken before after (λ image. before.now image ⊎ ShowsPrefix shows h.events 0 image)
      (λ image. before.now image ⊎ ShowsPrefix others h.events 0 image) h.moments
      (λ image p. ⊎_elim (λ now. inl now) (λ shown. inr (prefix_told shows others h.events to 0 image shown)) p);
  synced = h.synced;
  after_entry = h.after_entry;
  before_exit = h.before_exit;
  kept = keeps_told shows others h.events to h.synced after h.kept;
  none_yet = λ image left. ⊎_elim (λ was. inl was) (λ shown. inr (to [] h.events refl image shown)) (h.none_yet image left);
  rises = h.rises;
  heard = heard;
}

-- The order of what the media were given

-- The capsule and the long-term medium are among any count of media.
there_of : (n m : ℕ) → Contains members m → Contains (members_with n) m
there_of n m there = ⊎_elim
    (λ (e : 0 ≡ m). subst (Contains (members_with n)) e (contains_here 0 (1 ∷ range_with_len 2 n)))
    (λ (k : Contains (1 ∷ []) m). ⊎_elim
    (λ (e : 1 ≡ m). subst (Contains (members_with n)) e (contains_there 0 (1 ∷ range_with_len 2 n) 1 (contains_here 1 (range_with_len 2 n))))
    (λ (k : Contains [] m). absurd (none_contained m k))
    (contains_cases 1 [] m k))
    (contains_cases 0 (1 ∷ []) m there)

module _ (x : Contents) (sound : AreSound x) where
  opened_in_order : (m : ℕ) → Contains members m → AreInOrder ((opening_of x).records m)
  opened_in_order m there = (All-contains (IsRegularMedium x) (members_with x.further) m sound.regular (there_of x.further m there)).order

  -- Events that record nothing leave it.
  pub order_quiet : (events : List Event) → recorded events ≡ [] → (m : ℕ) → Contains members m → AreInOrder (all_records (opening_of x) m events)
  order_quiet events none m there =
      subst AreInOrder (sym (ap (λ (rs : List Record). (opening_of x).records m ++ rs) none ∙ append-nil ((opening_of x).records m))) (opened_in_order m there)

  module _ {tells tells_images : Type 0} (t0 : ℕ) (r : RecorderState) (disk : Disk tells tells_images) (h : HasRecorded (opening_of x) [] t0 r disk) where
    lasts_meet : last ((opening_of x).records 1) ≡ last ((opening_of x).records 0)
    lasts_meet =
        let stands = (h.works h.failed).standing.stands in
        let capsule = stands.media 0 0 (omega arith) in
        let long_term = stands.media 1 1 (omega arith) in
        ap last (sym (append-nil ((opening_of x).records 1)))
        ∙ sym long_term.retains.window.newest
        ∙ one_end (cost (sizes_of r.vault.config)) (usable (sizes_of r.vault.config)) r.vault.config.batch ((h.works h.failed).standing.placed 1)
        ((h.works h.failed).standing.placed 0)
        long_term.regular capsule.regular (stands.level 1 1 (omega arith))
        ∙ capsule.retains.window.newest
        ∙ ap last (append-nil ((opening_of x).records 0))

    goes_on_from : (m : ℕ) → Contains members m → GoesOnFrom m (opening_of x)
    goes_on_from m there = ⊎_elim
        (λ (e : 0 ≡ m). subst (λ (m : ℕ). GoesOnFrom m (opening_of x)) e (record { place = refl; stamp = refl }))
        (λ (k : Contains (1 ∷ []) m). ⊎_elim
        (λ (e : 1 ≡ m). subst (λ (m : ℕ). GoesOnFrom m (opening_of x)) e
        (record { place = ap next_after (sym lasts_meet); stamp = ap (λ (o : Option Record). stamp_of o None) (sym lasts_meet) }))
        (λ (k : Contains [] m). absurd (none_contained m k))
        (contains_cases 1 [] m k))
        (contains_cases 0 (1 ∷ []) m there)

    pub order_after : (events : List Event) → IsRecorderHistory (opening_of x) events → (m : ℕ) → Contains members m
        → AreInOrder (all_records (opening_of x) m events)
    order_after events made m there = all_in_order (opening_of x) events made m (goes_on_from m there) (opened_in_order m there)

-- The headline over media that were opened

pub no_event_history : (opening : Opening) → IsHistory opening []
no_event_history opening = record { follow = tt; pending = tt }

pub no_event_whole : IsWhole []
no_event_whole = All-nil (λ (e : Event). e.moment ≢ None)

module _ (x : Contents) (reads : configuration x.text ≡ Ok x.config) where
  pub back : (events : List Event) (order : (m : ℕ) → Contains members m → AreInOrder (all_records (opening_of x) m events))
      (first rest : List Event) → events ≡ first ++ rest
      → (image : Image) → ShowsHistory (opening_of x) first image → PlaysBack (opening_of x) first image
  back events order first rest split image h = plays x reads first (λ m there. front_in_order (opening_of x) m first rest events split (order m there)) image h

  module _ {tells tells_images : Type 0} (Told : List Event → Type 0) (may_pend : Type 0) (old : Disk tells tells_images) (hears : Type 0) (w : Watched) where
    -- These events came after an opening.
    pub after_opening : (t0 : ℕ) (mid new : Disk tells tells_images) → Passes (opening_of x) [] old mid → old.clock ≤ t0 → t0 ≤ mid.clock
        → (events : List Event) → ((m : ℕ) → Contains members m → AreInOrder (all_records (opening_of x) m events)) → IsHistory (opening_of x) events
        → Keeps (ShowsHistory (opening_of x)) events t0 new → RiseFrom t0 new.clock events
        → Passes (opening_of x) events mid new → IsWhole events ⊎ may_pend → Told events → (hears → IsHeard (opening_of x) events t0 old w)
        → ToldHeadline x Told may_pend old new hears w
    after_opening t0 mid new passes entry exit events order history kept rises then pending told heard =
        told_as (opening_of x) (ShowsHistory (opening_of x)) (PlaysBack (opening_of x)) Told Told may_pend may_pend old new hears hears w w
        (record {
          events = events;
          history = history;
          order = order;
          pending = pending;
          told = told;
          moments = passes_join (opening_of x) [] events old mid new passes then;
          synced = t0;
          after_entry = entry;
          before_exit = omega (arith, exit, then.later);
          kept = kept;
          none_yet = λ image left. none_seen (opening_of x) old mid t0 image passes ((then.past t0 image exit).0 left);
          rises = rises;
          heard = heard;
        })
        (back events order) (λ t. t) (λ p. p) heard

  -- Nothing came after it, and nothing is said of who was told.
  module _ {tells tells_images : Type 0} (Told : List Event → Type 0) (may_pend : Type 0) (old : Disk tells tells_images) where
    pub only_opened : AreSound x → (new : Disk tells tells_images) → GoesOnSynced old new (ShowsHistory (opening_of x) []) → Told []
        → RecordingHeadline x Told may_pend old new
    only_opened sound new goes told =
        after_opening Told may_pend old ⊥ nothing_told goes.synced new new (passes_synced (opening_of x) old new goes) goes.after_entry goes.before_exit []
        (order_quiet x sound [] refl) (no_event_history (opening_of x))
        (keeps_synced (ShowsHistory (opening_of x)) goes.synced new goes.before_exit goes.since) goes.before_exit (passes_first (opening_of x) [] new) (inl no_event_whole) told (λ none. absurd none)
