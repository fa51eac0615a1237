-- What each call of the recorder makes of a feed.
use Rattle.std.proofs.Common.{◌≡◌, inl, inr, ℕ, List, [], ◌∷◌, ◌++◌, false, refl, sym, ap, ◌∙◌, subst, append-nil, append_assoc}
use Rattle.std.proofs.lemmas.Bool.{cond-false}
use Rattle.vdr_terms.specs.declared.counts.Counts.{Counts}
use Rattle.vdr_terms.specs.Records.{Record, FeedItem}
use Rattle.vdr_core.specs.Feed.{feed_records}
use Rattle.vdr_core.specs.Histories.{Act, Event, Opening, recorded, records_of_act}
use Rattle.vdr_core.specs.Histories.Act.{Commit}
use Rattle.vdr_core.specs.Recorder.{begun, closed_run, closing, recorder_after}
use Rattle.vdr_core.specs.RunStates.{RunState, after_act, after_commit, begin_run, next_start, recorder_in, state_left}
use Rattle.vdr_core.specs.Runs.{RunStart}
use Rattle.vdr_core.specs.Taken.{Captured}
use Rattle.vdr_terms.specs.Datagrams.{verdict, is_yes}
use Rattle.vdr_core.specs.Replay.{captured_if, rest_after, taken_of}
use Rattle.vdr_core.proofs.Commits.{further_items}
use Rattle.vdr_core.proofs.Feeding.{is_replay}
use Rattle.vdr_core.proofs.RecorderHistory.{inside_begins_none}
use Rattle.vdr_durability.specs.Keeping.{IsWhole}
use Rattle.vdr_durability.proofs.Shows.{recorded_with}
use Rattle.vdr_durability.proofs.Whole.{whole_has_not_failed}
use Rattle.vdr_outside.specs.Disk.{Disk}
use Rattle.vdr_run.specs.Making.{CountsItems}
use Rattle.vdr_recorder.specs.Recordings.{HasDone, HasRecorded, RecorderState, start_of_opening}
use Rattle.vdr_recorder.specs.Watched.{DoneAndTold, Watched}
use Rattle.vdr_recorder.proofs.Continuing.{has_moment, left_with}
use Rattle.vdr_run.proofs.Given.{taken_one_more}
use Rattle.vdr_replay.specs.Taking.{BreaksOff, Closes, HasTaken, TakesOn}

-- A commit that begins no run goes on with it.
same_start : (s : RunState) (records : List Record) (taken : List Captured) → begin_run records ≡ false → (after_commit s records taken).start ≡ s.start
same_start s records taken begins = cond-false (begin_run records) (next_start s) s.start begins

more_popped : (s : RunState) (records : List Record) (taken : List Captured) → begin_run records ≡ false → (after_commit s records taken).popped ≡ s.popped ++ taken
more_popped s records taken begins = cond-false (begin_run records) taken (s.popped ++ taken) begins

module _ {tells tells_images : Type 0} (opening : Opening) (events : List Event) (t0 : ℕ) (r after : RecorderState) (old new : Disk tells tells_images) (hears : Type 0) (was is : Watched) where
  abbrev Left : RunState
  Left = state_left opening events

  whole : HasRecorded opening events t0 r old → r.vault.failed ≡ false → IsWhole events
  whole h works = (whole_has_not_failed events).1 (sym h.failed ∙ works)

  -- What the history leaves after an event that was done.
  left_now : (act : Act) → HasRecorded opening events t0 r old → r.vault.failed ≡ false → (d : HasDone opening events t0 act after old new) → after.vault.failed ≡ false
      → state_left opening (events ++ d.event ∷ []) ≡ after_act Left act
  left_now act h works d goes =
      left_with opening events d.event (whole h works) (has_moment after.vault.failed new.clock d.event.moment d.moment_is goes) ∙ ap (after_act Left) d.act_is

  recorded_now : (records : List Record) (taken : List Captured) → (d : HasDone opening events t0 (Commit records taken) after old new)
      → recorded (events ++ d.event ∷ []) ≡ recorded events ++ records
  recorded_now records taken d = recorded_with events d.event ∙ ap (λ (a : Act). recorded events ++ records_of_act a) d.act_is

  -- A batch
  module _ (feed : List FeedItem) (batch : List Captured) (records : List Record) (h : HasTaken opening feed batch events t0 r old) (works : r.vault.failed ≡ false)
      (made : (recorder_after Left.start (Left.popped ++ batch)).made ≡ (recorder_in Left).made ++ records)
      (done : DoneAndTold hears opening events t0 (Commit records batch) after old new was is) where
    abbrev d : HasDone opening events t0 (Commit records batch) after old new
    d = done.done

    batch_made : recorded (events ++ d.event ∷ []) ≡ (recorder_after Left.start (Left.popped ++ batch)).made
    batch_made = recorded_now records batch d ∙ ap (λ (rs : List Record). rs ++ records) h.made ∙ sym made

    begins_none : begin_run records ≡ false
    begins_none = inside_begins_none records (further_items Left.start Left.popped batch records made).1

    pub batch_taken : after.vault.failed ≡ false → TakesOn opening feed [] events t0 after old new hears was is
    batch_taken goes = record {
      more = d.event ∷ [];
      taken = record {
        has = d.has;
        begun = start ∙ h.begun;
        made = batch_made ∙ (λ i. (recorder_after (sym start i) (sym popped i)).made);
        order = h.order ∙ sym popped ∙ sym (append-nil (state_left opening (events ++ d.event ∷ [])).popped);
      };
      passes = d.passes;
      heard = done.told;
    }
      where
        left : state_left opening (events ++ d.event ∷ []) ≡ after_commit Left records batch
        left = left_now (Commit records batch) h.has works d goes

        start : (state_left opening (events ++ d.event ∷ [])).start ≡ Left.start
        start = ap (λ (s : RunState). s.start) left ∙ same_start Left records batch begins_none

        popped : (state_left opening (events ++ d.event ∷ [])).popped ≡ Left.popped ++ batch
        popped = ap (λ (s : RunState). s.popped) left ∙ more_popped Left records batch begins_none

    pub batch_breaks : BreaksOff opening feed events t0 after old new hears was is
    batch_breaks = record {
      more = d.event ∷ [];
      has = d.has;
      cut = inl (Left.popped ++ batch, [], h.order ∙ sym (append-nil (Left.popped ++ batch)), batch_made ∙ ap (λ (s : RunStart). (recorder_after s (Left.popped ++ batch)).made) h.begun);
      passes = d.passes;
      heard = done.told;
    }

  -- The same of what a call answers, by items that are the batch's.
  abbrev Batch : List Captured → Type 0
  Batch items = (records : List Record) × ((recorder_after Left.start (Left.popped ++ items)).made ≡ (recorder_in Left).made ++ records)
      × DoneAndTold hears opening events t0 (Commit records items) after old new was is

  module _ (feed : List FeedItem) (batch items : List Captured) (same : items ≡ batch) (h : HasTaken opening feed batch events t0 r old) (works : r.vault.failed ≡ false) (b : Batch items) where
    is_batch : Batch batch
    is_batch = subst Batch same b

    pub takes_batch : after.vault.failed ≡ false → TakesOn opening feed [] events t0 after old new hears was is
    takes_batch goes = batch_taken feed batch is_batch.0 h works is_batch.1 is_batch.2 goes

    pub breaks_batch : BreaksOff opening feed events t0 after old new hears was is
    breaks_batch = batch_breaks feed batch is_batch.0 h works is_batch.1 is_batch.2

  -- The close
  module _ (feed : List FeedItem) (rest : ℕ → Counts) (h : HasTaken opening feed [] events t0 r old) (rest_is : rest ≡ rest_after feed)
      (done : DoneAndTold hears opening events t0 (Commit (closing Left.start (recorder_in Left) rest) []) after old new was is) where
    abbrev d' : HasDone opening events t0 (Commit (closing Left.start (recorder_in Left) rest) []) after old new
    d' = done.done

    all_popped : Left.popped ≡ taken_of [] feed
    all_popped = sym (append-nil Left.popped) ∙ sym h.order

    close_made : recorded (events ++ d'.event ∷ []) ≡ feed_records (start_of_opening opening) feed
    close_made =
        recorded_now (closing Left.start (recorder_in Left) rest) [] d'
        ∙ ap (λ (rs : List Record). rs ++ closing Left.start (recorder_in Left) rest) h.made
        ∙ (λ i. closed_run (h.begun i) (all_popped i) (rest_is i))
        ∙ sym (is_replay (start_of_opening opening) feed)

    pub close_breaks : BreaksOff opening feed events t0 after old new hears was is
    close_breaks = record { more = d'.event ∷ []; has = d'.has; cut = inr close_made; passes = d'.passes; heard = done.told }

    pub closed_now : CountsItems Left.start Left.popped after.maker → Closes opening feed events t0 after old new hears was is
    closed_now counts = record {
      more = d'.event ∷ [];
      has = d'.has;
      made = close_made;
      counts = subst (λ (x : RunStart × List Captured). CountsItems x.0 x.1 after.maker) (λ i. (h.begun i, all_popped i)) counts;
      passes = d'.passes;
      heard = done.told;
    }

-- The Start
module _ {tells tells_images : Type 0} (opening : Opening) (t0 : ℕ) (r after : RecorderState) (old new : Disk tells tells_images) (hears : Type 0) (was is : Watched) (h : HasRecorded opening [] t0 r old)
    (works : r.vault.failed ≡ false) (done : DoneAndTold hears opening [] t0 (Commit (begun (next_start (state_left opening []))).made []) after old new was is) where
  abbrev start_done : HasDone opening [] t0 (Commit (begun (next_start (state_left opening []))).made []) after old new
  start_done = done.done

  start_made : recorded (start_done.event ∷ []) ≡ (begun (start_of_opening opening)).made
  start_made = recorded_now opening [] t0 r after old new hears was is (begun (next_start (state_left opening []))).made [] start_done

  pub run_begins : after.vault.failed ≡ false → TakesOn opening [] [] [] t0 after old new hears was is
  run_begins goes = record {
    more = start_done.event ∷ [];
    taken = record {
      has = start_done.has;
      begun = ap (λ (s : RunState). s.start) left;
      made = start_made ∙ (λ i. (recorder_after (sym (ap (λ (s : RunState). s.start) left) i) (sym (ap (λ (s : RunState). s.popped) left) i)).made);
      order = sym (append-nil (state_left opening (start_done.event ∷ [])).popped ∙ ap (λ (s : RunState). s.popped) left);
    };
    passes = start_done.passes;
    heard = done.told;
  }
    where
      left : state_left opening (start_done.event ∷ []) ≡ after_commit (state_left opening []) (begun (start_of_opening opening)).made []
      left = left_now opening [] t0 r after old new hears was is (Commit (begun (next_start (state_left opening []))).made []) h works start_done goes

  pub start_breaks : BreaksOff opening [] [] t0 after old new hears was is
  start_breaks = record { more = start_done.event ∷ []; has = start_done.has; cut = inl ([], [], refl, start_made); passes = start_done.passes; heard = done.told }

-- One more item waits.
pub taken_more : {tells tells_images : Type 0} (opening : Opening) (feed : List FeedItem) (x : FeedItem) (batch more : List Captured) (events : List Event) (t0 : ℕ) (r : RecorderState) (disk : Disk tells tells_images)
    → HasTaken opening feed batch events t0 r disk → more ≡ batch ++ captured_if (is_yes (verdict x.item.bytes)) feed x → HasTaken opening (feed ++ x ∷ []) more events t0 r disk
taken_more opening feed x batch more events t0 r disk h is = record {
  has = h.has;
  begun = h.begun;
  made = h.made;
  order = taken_one_more feed x
      ∙ ap (λ (cs : List Captured). cs ++ captured_if (is_yes (verdict x.item.bytes)) feed x) h.order
      ∙ append_assoc (state_left opening events).popped batch (captured_if (is_yes (verdict x.item.bytes)) feed x)
      ∙ ap (λ (cs : List Captured). (state_left opening events).popped ++ cs) (sym is);
}

pub takes_more : {tells tells_images : Type 0} (opening : Opening) (feed : List FeedItem) (x : FeedItem) (batch more : List Captured) (events : List Event) (t0 : ℕ) (r : RecorderState) (old new : Disk tells tells_images)
    (hears : Type 0) (was now : Watched) → TakesOn opening feed batch events t0 r old new hears was now → more ≡ batch ++ captured_if (is_yes (verdict x.item.bytes)) feed x → TakesOn opening (feed ++ x ∷ []) more events t0 r old new hears was now
takes_more opening feed x batch more events t0 r old new hears was now t is = record {
  more = t.more;
  taken = taken_more opening feed x batch more (events ++ t.more) t0 r new t.taken is;
  passes = t.passes;
  heard = t.heard;
}
