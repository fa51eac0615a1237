-- A batch of items, and the close of a run, are events of the recorder's history.
use Rattle.std.proofs.Common.{◌≡◌, ◌<◌, ◌≤◌, ◌+◌, ℕ, List, [], ◌∷◌, ◌++◌, length, take, get_or, All, true, false, cond, inl, inr, refl, sym, ap, ◌∙◌, subst, arith, true≢false, length-append}
use Rattle.std.proofs.lemmas.Bool.{cond-true, cond-false}
use Rattle.std.proofs.lemmas.List.{take_more}
use Rattle.std.proofs.lemmas.List.Elements.{All-nil, All-cons, All-head, All-tail, All-append}
use Rattle.vdr_terms.specs.declared.counts.Counts.{Counts}
use Rattle.vdr_terms.specs.declared.datagram.Verdict.TheVariants.{Yes}
use Rattle.vdr_terms.specs.Datagrams.{largest, verdict}
use Rattle.vdr_entry.proofs.SpellingLemmas.{recordable_short}
use Rattle.vdr_terms.specs.Rates.{Limit, is_configured}
use Rattle.vdr_terms.specs.Records.{Record, total}
use Rattle.vdr_terms.specs.Sizes.{records_size}
use Rattle.vdr_core.specs.Histories.{Act, Event, Opening, Settings}
use Rattle.vdr_core.specs.Histories.Act.{Commit}
use Rattle.vdr_core.specs.Recorder.{closing, gaps_below, recorder_after, stop_of}
use Rattle.vdr_core.specs.RunStates.{RunState, after_act, after_commit, begin_run, end_run, next_start, recorder_in, state_left}
use Rattle.vdr_core.specs.Runs.{RunStart}
use Rattle.vdr_core.specs.Taken.{Captured}
use Rattle.vdr_core.proofs.Commits.{further_items}
use Rattle.vdr_core.proofs.RecorderHistory.{ends_with, inside_begins_none, inside_ends_none}
use Rattle.vdr_durability.specs.Keeping.{IsWhole}
use Rattle.vdr_durability.proofs.Whole.{whole_has_not_failed}
use Rattle.vdr_outside.specs.Disk.{Disk}
use Rattle.vdr_config.specs.Configuration.{Configuration}
use Rattle.vdr_config.specs.Sizes.{limits_in}
use Rattle.vdr_durability.specs.Commits.{IsDoneIn, IsFit}
use Rattle.vdr_durability.proofs.ItemSizes.{closes_size}
use Rattle.vdr_run.specs.Making.{Makes, closing_by, rest_of}
use Rattle.vdr_run.specs.declared.maker.Maker.{Maker}
use Rattle.vdr_recorder.specs.Making.{FitBehind, MakesBy}
use Rattle.vdr_recorder.specs.Recordings.{HasDone, HasKept, HasRecorded, KeepsEvent, RecorderState}
use Rattle.vdr_recorder.proofs.Batches.{records_fit}
use Rattle.vdr_recorder.proofs.Continuing.{has_moment, left_with}

-- Items of configured groups that are short enough.
pub fit_all : (limits : ℕ → Limit) (items : List Captured) → All (λ c. is_configured (limits c.group) ≡ true) items → All (λ c. length c.bytes ≤ largest) items → All (IsFit limits) items
fit_all limits [] known short = All-nil (IsFit limits)
fit_all limits (c ∷ cs) known short =
    All-cons (IsFit limits) c cs
    (record { configured = All-head (λ (c : Captured). is_configured (limits c.group) ≡ true) c cs known; short = All-head (λ (c : Captured). length c.bytes ≤ largest) c cs short })
    (fit_all limits cs (All-tail (λ (c : Captured). is_configured (limits c.group) ≡ true) c cs known) (All-tail (λ (c : Captured). length c.bytes ≤ largest) c cs short))

pub short_more : (k : ℕ) (items : List Captured) (c : Captured) → k < length items → c ≡ get_or items k c → All (λ c. length c.bytes ≤ largest) (take k items) → verdict c.bytes ≡ Yes
    → All (λ c. length c.bytes ≤ largest) (take (k + 1) items)
short_more k items c within is before recordable =
    subst (All (λ c. length c.bytes ≤ largest)) (sym (take_more items k c within ∙ ap (λ (x : Captured). take k items ++ x ∷ []) (sym is)))
    (All-append (λ c. length c.bytes ≤ largest) (take k items) (c ∷ []) before
    (All-cons (λ (c : Captured). length c.bytes ≤ largest) c [] (recordable_short c.bytes recordable) (All-nil (λ (c : Captured). length c.bytes ≤ largest))))

-- The records of a batch of items fit the configuration's batch.
pub batch_is_short : (config : Configuration) (maker : Maker) (items : List Captured) (records : List Record) → FitBehind config maker items config.batch
    → ((start : RunStart) (popped : List Captured) → Makes config start popped maker → (recorder_after start (popped ++ items)).made ≡ (recorder_after start popped).made ++ records)
    → records_size records ≤ config.batch
batch_is_short config maker items records short made =
    records_fit (limits_in config.groups) short.start short.popped items records config.batch short.makes.limits short.fit (made short.start short.popped short.makes.makes)

-- And those of a close.
pub close_is_short : (config : Configuration) (rest : List Counts) (records : List Record) (start : RunStart) (popped : List Captured) → 2_048 ≤ config.batch
    → records ≡ closing_by start popped rest → records_size records ≤ config.batch
unfolding closing_by
close_is_short config rest records start popped roomy same =
    let small = closes_size start popped (rest_of rest) in
    let size = ap records_size same in
    omega (arith, roomy, small, size)

-- A batch of which nothing is recorded makes nothing.
pub none_made : (before after records : List Record) → after ≡ before ++ records → after ≡ before → length records ≡ 0
none_made before after records made same =
    let a = ap length made in
    let b = ap length same in
    let sum = length-append before records in
    omega (arith, a, b, sum)

pub closing_is : (start : RunStart) (popped : List Captured) (rest : List Counts) (records made : List Record) → records ≡ made → made ≡ closing_by start popped rest
    → records ≡ closing start (recorder_after start popped) (rest_of rest)
unfolding closing_by
closing_is start popped rest records made same is = same ∙ is

-- A commit that neither begins nor ends a run.
going_on : (s : RunState) (records : List Record) (taken : List Captured) → begin_run records ≡ false → end_run records ≡ false
    → ((after_commit s records taken).is_open ≡ s.is_open) × ((after_commit s records taken).start ≡ s.start) × ((after_commit s records taken).popped ≡ s.popped ++ taken)
going_on s records taken begins ends = (
  cond-false (end_run records) false (cond (begin_run records) true s.is_open) ends ∙ cond-false (begin_run records) true s.is_open begins,
  cond-false (begin_run records) (next_start s) s.start begins,
  cond-false (begin_run records) taken (s.popped ++ taken) begins,
)

module _ {tells tells_images : Type 0} (opening : Opening) (events : List Event) (t0 : ℕ) (r : RecorderState) (old : Disk tells tells_images) (h : HasRecorded opening events t0 r old) where
  -- The vault's part.
  pub kept_of : HasKept opening events t0 r.vault old
  kept_of = record {
    history = h.history;
    made = h.made;
    failed = h.failed;
    told = h.told;
    rises = h.rises;
    kept = h.kept;
    works = λ works. (h.works works).standing;
  }

  module _ (works : r.vault.failed ≡ false) where
    whole : IsWhole events
    whole = (whole_has_not_failed events).1 (sym h.failed ∙ works)

    pub limits_are : (limits_in r.vault.config.groups) ≡ opening.settings.limits
    limits_are = sym (ap (λ (s : Settings). s.limits) (h.works works).standing.stands.settings)

    -- The vault's part and the maker's make the whole.
    pub has_done : (act : Act) (after : RecorderState) (new : Disk tells tells_images) → KeepsEvent opening events t0 act after.vault old new
        → (after.vault.failed ≡ false → (after.is_open ≡ (after_act (state_left opening events) act).is_open)
        × (after.is_open ≡ true → MakesBy after.vault.config (after_act (state_left opening events) act).start (after_act (state_left opening events) act).popped after.maker))
        → HasDone opening events t0 act after old new
    has_done act after new k makes = record {
      event = k.event;
      act_is = k.act_is;
      moment_is = k.moment_is;
      has = record {
        history = k.has.history;
        made = k.has.made;
        failed = k.has.failed;
        told = k.has.told;
        rises = k.has.rises;
        kept = k.has.kept;
        works = λ goes. record {
          standing = k.has.works goes;
          open_is = (makes goes).0 ∙ sym (ap (λ (s : RunState). s.is_open) (left goes));
          makes = λ opened. subst (λ (s : RunState). MakesBy after.vault.config s.start s.popped after.maker) (sym (left goes)) ((makes goes).1 opened);
        };
      };
      passes = k.passes;
    }
      where
        left : after.vault.failed ≡ false → state_left opening (events ++ k.event ∷ []) ≡ after_act (state_left opening events) act
        left goes = left_with opening events k.event whole (has_moment after.vault.failed new.clock k.event.moment k.moment_is goes) ∙ ap (after_act (state_left opening events)) k.act_is

    -- A batch of items.
    module _ (opened : r.is_open ≡ true) where
      pub makes_now : MakesBy r.vault.config (state_left opening events).start (state_left opening events).popped r.maker
      makes_now = (h.works works).makes opened

      pub open_now : (state_left opening events).is_open ≡ true
      open_now = sym (h.works works).open_is ∙ opened

      pub batch_goes_on : (items : List Captured) (records : List Record) → (recorder_after (state_left opening events).start ((state_left opening events).popped ++ items)).made ≡ (recorder_in (state_left opening events)).made ++ records
          → records_size records ≤ r.vault.config.batch → All (λ c. is_configured (limits_in r.vault.config.groups c.group) ≡ true) items → All (λ c. length c.bytes ≤ largest) items
          → IsDoneIn opening.settings.limits r.vault.config.batch (state_left opening events) (Commit records items)
      batch_goes_on items records made fits known short = inl (record {
        made = record { is_open = open_now; made = made };
        fit = subst (λ (limits : ℕ → Limit). All (IsFit limits) items) limits_are (fit_all (limits_in r.vault.config.groups) items known short);
        short = fits;
      })

      pub batch_done : (items : List Captured) (after : RecorderState) (new : Disk tells tells_images) (records : List Record)
          → (recorder_after (state_left opening events).start ((state_left opening events).popped ++ items)).made ≡ (recorder_in (state_left opening events)).made ++ records
          → KeepsEvent opening events t0 (Commit records items) after.vault old new → after.is_open ≡ true
          → MakesBy after.vault.config (state_left opening events).start ((state_left opening events).popped ++ items) after.maker
          → HasDone opening events t0 (Commit records items) after old new
      batch_done items after new records made k is_open makes =
          let inside = (further_items (state_left opening events).start (state_left opening events).popped items records made).1 in
          let on = going_on (state_left opening events) records items (inside_begins_none records inside) (inside_ends_none records inside) in
          has_done (Commit records items) after new k (λ goes. (
            is_open ∙ sym open_now ∙ sym on.0,
            λ again. subst (λ (x : RunStart × List Captured). MakesBy after.vault.config x.0 x.1 after.maker) (λ i. (sym on.1 i, sym on.2 i)) makes,
          ))

      -- The close.
      pub close_goes_on : (rest : ℕ → Counts) → ((g : ℕ) → is_configured (limits_in r.vault.config.groups g) ≡ false → total (rest g) ≡ 0)
          → IsDoneIn opening.settings.limits r.vault.config.batch (state_left opening events) (Commit (closing (state_left opening events).start (recorder_in (state_left opening events)) rest) [])
      close_goes_on rest quiet = inr (inr (record {
        made = record { is_open = open_now; rest = rest; made = refl; none = refl };
        quiet = λ g out. quiet g (ap (λ (limits : ℕ → Limit). is_configured (limits g)) limits_are ∙ out);
      }))

      pub close_done : (rest : ℕ → Counts) (after : RecorderState) (new : Disk tells tells_images)
          → KeepsEvent opening events t0 (Commit (closing (state_left opening events).start (recorder_in (state_left opening events)) rest) []) after.vault old new → after.is_open ≡ false
          → HasDone opening events t0 (Commit (closing (state_left opening events).start (recorder_in (state_left opening events)) rest) []) after old new
      close_done rest after new k is_closed =
          has_done (Commit (closing (state_left opening events).start (recorder_in (state_left opening events)) rest) []) after new k (λ goes. (
            is_closed ∙ sym (ended (state_left opening events) (closing (state_left opening events).start (recorder_in (state_left opening events)) rest)
                (ends_with (gaps_below 16 (state_left opening events).start (recorder_in (state_left opening events)) rest) (stop_of (state_left opening events).start (recorder_in (state_left opening events)) rest) refl)),
            λ again. absurd (true≢false (sym again ∙ is_closed)),
          ))
        where
          ended : (s : RunState) (records : List Record) → end_run records ≡ true → (after_commit s records []).is_open ≡ false
          ended s records ends = cond-true (end_run records) false (cond (begin_run records) true s.is_open) ends
