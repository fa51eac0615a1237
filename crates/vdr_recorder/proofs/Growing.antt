-- A call's event is one more of the history that the media keep.
use Rattle.std.proofs.Common.{◌≡◌, ◌≢◌, ℕ, List, [], ◌∷◌, ◌++◌, Bool, true, false, ◌⊎◌, inl, inr, ⊎_elim, refl, sym, ap, ◌∙◌, arith, append-nil}
use Rattle.std.proofs.lemmas.Bool.{cases_Bool}
use Rattle.vdr_core.specs.Histories.{Act, Event, Opening, MayCome}
use Rattle.vdr_core.specs.Histories.Act.{Look}
use Rattle.vdr_core.specs.RunStates.{IsMadeIn, state_left}
use Rattle.vdr_core.proofs.Growing.{history_grows}
use Rattle.vdr_durability.specs.Keeping.{Extends, IsWhole, ShowsEither, ShowsPrefix, moment_of}
use Rattle.vdr_durability.proofs.Kept.{keeps_call}
use Rattle.vdr_durability.proofs.Whole.{whole_has_not_failed}
use Rattle.vdr_durability.proofs.Acknowledged.{rises_with}
use Rattle.vdr_outside.specs.Disk.{Disk, Image}
use Rattle.vdr_outside.proofs.Moments.{moments_weaken}
use Rattle.vdr_vault.specs.Vaults.{VaultState, ShowsHistory}
use Rattle.vdr_vault.proofs.ShownHistory.{stand_shows}
use Rattle.vdr_recorder.specs.Recordings.{HasKept, IsStanding, KeepsEvent, TellsLeft}
use Rattle.vdr_recorder.proofs.Continuing.{ends_by, fails_with, has_moment, made_grows, told_at_rest, told_without, whole_with}

-- An image that shows the events, or the events with one more, shows the first of these.
shown_prefix : (shows : List Event → Image → Type 0) (events : List Event) (e : Event) (possible : Image → Type 0) (image : Image) → ShowsEither shows events e possible image
    → possible image ⊎ ShowsPrefix shows (events ++ e ∷ []) 0 image
shown_prefix shows events e possible image h =
    ⊎_elim
    (λ (now : possible image). inl now)
    (λ (k : shows events image ⊎ shows (events ++ e ∷ []) image). inr (⊎_elim
    (λ (before : shows events image). record { first = events; rest = e ∷ []; split = refl; enough = omega arith; shown = before })
    (λ (after : shows (events ++ e ∷ []) image). record { first = events ++ e ∷ []; rest = []; split = sym (append-nil (events ++ e ∷ [])); enough = omega arith; shown = after })
    k))
    h

module _ {tells tells_images : Type 0} (opening : Opening) (events : List Event) (t0 : ℕ) (vault : VaultState) (old : Disk tells tells_images) (h : HasKept opening events t0 vault old) (works : vault.failed ≡ false) where
  pub whole_events : IsWhole events
  whole_events = (whole_has_not_failed events).1 (sym h.failed ∙ works)

  -- The history with the act, over media at whose every moment it or the history before was shown.
  module _ (act : Act) (after : VaultState) (new : Disk tells tells_images) where
    abbrev pub event : Event
    event = record { act = act; moment = moment_of after.failed new.clock }

    told_after : (after.failed ≡ false → IsStanding opening (events ++ event ∷ []) after new)
        → (after.failed ≡ true → (after.next_place ≡ vault.next_place) × (after.last ≡ vault.last) × (after.table ≡ vault.table)) → (after.failed ≡ true) ⊎ (after.failed ≡ false)
        → TellsLeft opening (events ++ event ∷ []) after
    told_after stands kept (inl fails) =
        told_without opening events event vault after (ap (λ (b : Bool). moment_of b new.clock) fails) h.told (kept fails).0 (kept fails).1 (kept fails).2
    told_after stands kept (inr goes) =
        told_at_rest opening (events ++ event ∷ []) (whole_with events event whole_events (has_moment after.failed new.clock event.moment refl goes)) after (stands goes).placed new (stands goes).stands

    pub event_kept : act ≢ Look → MayCome opening events act → IsMadeIn (state_left opening events) act → Extends (ShowsHistory opening) events event old new
        → (after.failed ≡ false → IsStanding opening (events ++ event ∷ []) after new)
        → (after.failed ≡ true → (after.next_place ≡ vault.next_place) × (after.last ≡ vault.last) × (after.table ≡ vault.table))
        → KeepsEvent opening events t0 act after old new
    event_kept no_look may made moments stands kept = record {
      event = event;
      act_is = refl;
      moment_is = refl;
      has = record {
        history = history_grows opening events event h.history whole_events may (ends_by after.failed new.clock event.moment event.act refl no_look);
        made = made_grows opening events whole_events h.made event made;
        failed = fails_with after.failed new.clock events event (λ _. whole_events) refl;
        told = told_after stands kept (cases_Bool after.failed);
        rises = rises_with events t0 old.clock new.clock event after.failed h.rises moments.later refl;
        kept = keeps_call (ShowsHistory opening) events t0 event after.failed old new h.kept whole_events moments no_look refl
            (λ works image now. stand_shows opening (events ++ event ∷ []) after (stands works).placed new (stands works).stands image now);
        works = stands;
      };
      passes = moments_weaken old new (ShowsEither (ShowsHistory opening) events event old.now)
          (λ image. old.now image ⊎ ShowsPrefix (ShowsHistory opening) (events ++ event ∷ []) 0 image) moments
          (λ image shown. shown_prefix (ShowsHistory opening) events event old.now image shown);
    }
