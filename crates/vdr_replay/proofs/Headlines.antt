-- What a run leaves, in the words of its headline.
use Rattle.std.proofs.Common.{◌≡◌, ◌⊎◌, inl, inr, ◌≤◌, ℕ, List, [], Option, Some, Result, Ok, Err, refl, sym, ◌∙◌}
use Rattle.vdr_terms.specs.Records.{FeedItem}
use Rattle.vdr_core.specs.Histories.{Event, recorded}
use Rattle.vdr_core.specs.Law.{Admits}
use Rattle.vdr_durability.specs.Keeping.{IsWhole}
use Rattle.vdr_durability.proofs.Whole.{whole_has_not_failed}
use Rattle.vdr_outside.specs.Disk.{Disk}
use Rattle.vdr_config.specs.Grammar.{configuration}
use Rattle.vdr_config.specs.Sizes.{limits_in}
use Rattle.vdr_opening.specs.Media.{Contents, opening_of}
use Rattle.vdr_opening.specs.declared.refused.OpenRefused.{OpenRefused}
use Rattle.vdr_vault.specs.Openings.{OpensAtEachMoment}
use Rattle.vdr_vault.specs.Regularity.{AreSound}
use Rattle.vdr_vault.specs.Vaults.{ShowsHistory}
use Rattle.vdr_recorder.specs.Headline.{IsHeard}
use Rattle.vdr_recorder.specs.Recordings.{HasRecorded, Passes, RecorderState, start_of_opening}
use Rattle.vdr_recorder.specs.Watched.{Tells, Watched, nothing_told as nothing_heard}
use Rattle.vdr_recorder.proofs.Headlines.{after_opening, no_event_whole, only_opened, order_after, order_quiet}
use Rattle.vdr_recorder.proofs.Playing.{plays}
use Rattle.vdr_recorder.proofs.Resting.{stand_reads}
use Rattle.vdr_feed.specs.Progress.{HasRead}
use Rattle.vdr_feed.specs.Reader.{Reading}
use Rattle.vdr_replay.specs.Answers.{Answers}
use Rattle.vdr_replay.specs.Headline.{AccountsForFeed, LeavesHistory, NothingIsRecorded, ReplayHeadline, RunEnd}
use Rattle.vdr_replay.specs.Headline.RunEnd.{Broken, Closed, NotStarted}
use Rattle.vdr_replay.specs.Ran.{HasBroken, HasRun, Runs}
use Rattle.vdr_replay.specs.declared.ended.Replayed.{Replayed}
use Rattle.vdr_replay.specs.declared.ended.ReplayRefused.{ReplayRefused}
use Rattle.vdr_replay.specs.declared.ended.ReplayRefused.TheVariants.{NoMemory, Input, Refused, NotFormatted, Damaged, Place, Tick, Media}
use Rattle.vdr_replay.proofs.Cuts.{closed_accounts, cut_accounts, cut_records}

-- Before the run

module _ {tells tells_images : Type 0} (x : Contents) where
  -- Of no event nothing is owed.
  nothing_told : (after : Disk tells tells_images) → AccountsForFeed x after [] NotStarted []
  nothing_told after = record { records = refl; accounts = λ g. tt; reads = λ told is. let none : ⊥ = cc in absurd none }

  module _ (rose : Type 0) (old new : Disk tells tells_images) where
    -- What opening leaves, whatever it answers.
    pub opened_nothing : {T : Type 0} (reads : configuration x.text ≡ Ok x.config) → AreSound x → (result : Result T OpenRefused)
        → OpensAtEachMoment old new result (ShowsHistory (opening_of x) []) → NothingIsRecorded x rose old new
    opened_nothing reads sound result (inl ends) = inl ends.moments
    opened_nothing reads sound result (inr goes) =
        inr (only_opened x reads (AccountsForFeed x new [] NotStarted) ((NotStarted ≡ Broken) × rose) old sound new goes (nothing_told new))

-- What a run makes of it

module _ {tells tells_images : Type 0} (x : Contents) (bytes : List ℕ) (now : Option (List ℕ)) (rose : Type 0) (reads : configuration x.text ≡ Ok x.config)
    (sound : AreSound x) (t0 : ℕ) (r after : RecorderState)
    (old mid new : Disk tells tells_images) (opened : HasRecorded (opening_of x) [] t0 r mid) (passes : Passes (opening_of x) [] old mid)
    (entry : old.clock ≤ t0) (exit : t0 ≤ mid.clock) where
  pub begun_nothing : HasRecorded (opening_of x) [] t0 after new → Passes (opening_of x) [] mid new → NothingIsRecorded x rose old new
  begun_nothing has then =
      inr (after_opening x reads (AccountsForFeed x new [] NotStarted) ((NotStarted ≡ Broken) × rose) old ⊥ nothing_heard t0 mid new passes entry exit [] (order_quiet x sound [] refl)
      has.history has.kept has.rises then (inl no_event_whole) (nothing_told x new) (λ none. absurd none))

  module _ (hears : Type 0) (was is_seen : Watched) (heard : hears → IsHeard (opening_of x) [] t0 old was) (left : Option (List ℕ)) (reader : Reading) (admits : Admits (limits_in x.config.groups)) where
    -- The events of a recorder
    ran : (feed : List FeedItem) (end : RunEnd) (events : List Event) → HasRecorded (opening_of x) events t0 after new → Passes (opening_of x) events mid new
        → IsWhole events ⊎ ((end ≡ Broken) × rose) → AccountsForFeed x new feed end events → Tells hears (opening_of x) [] events was is_seen → ReplayHeadline x rose old new hears is_seen feed end
    ran feed end events has then pending told tells = after_opening x reads (AccountsForFeed x new feed end) ((end ≡ Broken) × rose) old hears is_seen t0 mid new passes entry exit events
        (order_after x sound t0 r mid opened events has.made) has.history has.kept has.rises then pending told
        (λ hearing. let h = heard hearing in record { found = tells.found hearing ∙ h.found; opened = tells.synced hearing ∙ h.opened; told = tells.told hearing h.told })

    closed : (r : Replayed) (h : HasRun (opening_of x) t0 left reader now x.config.groups after mid new hears was is_seen r) → ReplayHeadline x rose old new hears is_seen h.feed Closed
    closed r h = ran h.feed Closed h.closes.more h.closes.has h.closes.passes (inl ((whole_has_not_failed h.closes.more).1 (sym h.closes.has.failed ∙ h.works))) (record {
      records = h.closes.made;
      accounts = closed_accounts (start_of_opening (opening_of x)) h.feed (recorded h.closes.more) admits h.low h.closes.made;
      reads = λ told is.
          let w = (h.closes.has.works h.works).standing in
          plays x reads h.closes.more (order_after x sound t0 _ mid opened h.closes.more h.closes.has.made) new.reads (stand_reads (opening_of x) h.closes.more after.vault w.placed new w.stands told);
    }) h.closes.heard

    broken : rose → (h : HasBroken (opening_of x) t0 left reader now x.config.groups after mid new hears was is_seen) → ReplayHeadline x rose old new hears is_seen h.feed Broken
    broken risen h = ran h.feed Broken h.breaks.more h.breaks.has h.breaks.passes (inr (refl, risen)) (record {
      records = cut_records (start_of_opening (opening_of x)) h.feed (recorded h.breaks.more) h.breaks.cut;
      accounts = cut_accounts (start_of_opening (opening_of x)) h.feed (recorded h.breaks.more) admits h.low h.breaks.cut;
      reads = λ told is. let none : ⊥ = cc in absurd none;
    }) h.breaks.heard

    -- Whatever is known of the input.
    pub leaves : (result : Result Replayed ReplayRefused) → (result ≡ Err Media → rose)
        → Runs (opening_of x) t0 left reader now x.config.groups after mid new hears was is_seen result → LeavesHistory x rose old new hears is_seen
    leaves (Ok r) risen h = inr (h.feed, Closed, closed r h)
    leaves (Err Media) risen h = inr (h.feed, Broken, broken (risen refl) h)
    leaves (Err Place) risen h = inl (begun_nothing h.1.has h.1.passes)
    leaves (Err Tick) risen h = inl (begun_nothing h.2.has h.2.passes)
    leaves (Err NoMemory) risen h = absurd h
    leaves (Err Input) risen h = absurd h
    leaves (Err (Refused number offset)) risen h = absurd h
    leaves (Err NotFormatted) risen h = absurd h
    leaves (Err (Damaged medium offset)) risen h = absurd h

    -- Where it is known.
    pub answers : HasRead (Some bytes) left reader [] → (result : Result Replayed ReplayRefused) → (result ≡ Err Media → rose)
        → Runs (opening_of x) t0 left reader now x.config.groups after mid new hears was is_seen result → Answers x bytes now rose old new hears is_seen result
    answers read (Ok r) risen h = record {
      feed = h.feed;
      read = h.read (Some bytes) read;
      configured = h.known;
      may = h.may;
      left = closed r h;
      sums = h.sums;
      total = h.total;
    }
    answers read (Err Media) risen h = λ meet. inr (record {
      feed = h.feed;
      rest = (h.read (Some bytes) read).0;
      read = (h.read (Some bytes) read).1;
      configured = h.known;
      may = h.may;
      left = broken (risen refl) h;
    })
    answers read (Err Place) risen h = (h.0, begun_nothing h.1.has h.1.passes)
    answers read (Err Tick) risen h = (h.0, h.1, begun_nothing h.2.has h.2.passes)
    answers read (Err NoMemory) risen h = absurd h
    answers read (Err Input) risen h = absurd h
    answers read (Err (Refused number offset)) risen h = absurd h
    answers read (Err NotFormatted) risen h = absurd h
    answers read (Err (Damaged medium offset)) risen h = absurd h
