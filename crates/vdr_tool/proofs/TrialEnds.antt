-- How a trial ends, by how its parts did.
use Rattle.std.specs.Prelude.{◌<◌, ◌^◌, Bool, filter, IfOk, sum}
use Rattle.std.proofs.Common.{◌≡◌, ◌≤◌, ◌⊎◌, inl, inr, ⊎_elim, ℕ, false, List, [], ◌∷◌, length, Some, Result, Ok, Err, refl, sym, ap, subst, ◌∙◌, Contains, Option, None, arith}
use Rattle.vdr_recorder.specs.Watched.{nothing_told}
use Rattle.vdr_terms.specs.Records.{FeedItem, Record, last, second}
use Rattle.std.proofs.lemmas.List.Sums.{count_by-le-length, length-filter}
use Rattle.vdr_terms.specs.Queries.{matches}
use Rattle.vdr_terms.specs.Windows.{in_window, window, window_before}
use Rattle.vdr_durability.proofs.Lists.{contains_here, contains_there}
use Rattle.vdr_durability.specs.Readings.{EndsMeet}
use Rattle.vdr_outside.specs.Causes.{Rose}
use Rattle.vdr_config.specs.Configuration.{Configuration}
use Rattle.vdr_config.specs.Grammar.{configuration}
use Rattle.vdr_config.specs.Sizes.{window_of}
use Rattle.vdr_media.specs.Answers.{room}
use Rattle.vdr_opening.specs.Media.{members_with, Contents, HoldsContents, opening_of, reading_of}
use Rattle.vdr_vault.specs.Calls.{SameElsewhere}
use Rattle.vdr_vault.specs.Regularity.{AreSound}
use Rattle.vdr_vault.specs.Vaults.{ShowsHistory}
use Rattle.vdr_vault.proofs.OpenMoments.{never_both}
use Rattle.vdr_recorder.proofs.Headlines.{told_as}
use Rattle.vdr_replay.specs.Headline.{NothingIsRecorded, ReplayHeadline, RunEnd}
use Rattle.vdr_replay.specs.Headline.RunEnd.{NotStarted, Closed, Broken}
use Rattle.vdr_vault.proofs.Lives.{LifeHolds, life_config, life_holds, life_windows}
use Rattle.vdr_command.specs.Endings.{IsWorkDone}
use Rattle.vdr_command.specs.Opened.{PrintsText}
use Rattle.vdr_command.specs.Outside.{MediaFailed, MediaSeen, OutputFailed, Outside}
use Rattle.vdr_command.proofs.OpenedLemmas.{done_either}
use Rattle.vdr_command.specs.declared.status.Status.{Status}
use Rattle.vdr_command.specs.declared.status.Status.TheVariants.{Done, Words, Config, Small, Unformatted, Formatted, Damaged, MediaFault, PortFault, LinkFault, InputFault, OutputFault, NoMemory, Feed, NoChannel, NoIncident, SaveRefused, Place, Tick, ExportKind, ExportNothing, ExportMixed, ExportLong, ExportPart, Capture, NoEvidence, Missing}
use Rattle.vdr_tool.specs.Formats.{FormatEnds}
use Rattle.vdr_tool.specs.TrialParts.{BreaksOff, CountsWindows, IfStatus, IsBenchStatus, IsOwnStatus, IsRunStatus, IsTally, IsPartStatus, RunsItems, as_u64}
use Rattle.vdr_tool.specs.Trials.{ComesTo, IsAfterRun, IsOfOtherMedia, LeavesRun, TrialEnds, TrialLeaves, Trials, TriesAll, all_of, bench, bench_text, fresh, trial_items, trial_lines, trial_records, trial_text, window_count}
use Rattle.vdr_tool.specs.declared.trying.Ran.{Ran}
use Rattle.vdr_tool.specs.declared.trying.Tally.{Tally}
use Rattle.vdr_tool.specs.declared.trying.Windows.{Windows}
use Rattle.vdr_tool.proofs.FormatLemmas.{one_configuration, one_small}
use Rattle.vdr_tool.proofs.TrialStatuses.{own_after, own_not_other, run_not_formatted, run_not_small, run_trial, stop_prints, stop_status, stop_undone}
use Rattle.vdr_tool.proofs.TrialLemmas.{Lives, RanOn, RecordsItems, bench_reads, elsewhere, empty_now, empty_read, has_room, joined, lived_all, nothing_ran, ran_on, reopened, reopened_shows, was_unformatted}
use Rattle.vdr_media.specs.Formatted.{members}

window_short : (o : Option Record) (seconds : ℕ) (records : List Record) → length (window_before o seconds records) ≤ length records
window_short None seconds records = omega arith
window_short (Some newest) seconds records =
    let p : Record → Bool = (λ (r : Record). in_window (second r.tick) (second newest.tick) seconds) in
    let n = length-filter p records in let few = count_by-le-length p records in omega (arith, n, few)

-- No count is past the greatest u64 where the records are not.
all_counted : (m seconds : ℕ) (records : List Record) → length records < 2 ^ 64 → as_u64 (window_count m seconds records) ≡ window_count m seconds records
all_counted m seconds records low =
    let n = length-filter (matches (all_of m)) (window seconds records) in
    let few = count_by-le-length (matches (all_of m)) (window seconds records) in
    let short = window_short (last records) seconds records in
    omega (arith, n, few, short, low)

if_ok : (P : Windows → Type 0) (result : Result Windows Status) (n : Windows) → result ≡ Ok n → IfOk result P → P n
if_ok P result n is h = subst (λ (r : Result Windows Status). IfOk r P) is h

module _ {tells tells_images : Type 0} (seed count : ℕ) where
  -- Formatting was refused, or failed.
  pub refused_as : (old new : MediaSeen tells tells_images) (s : Status) → IsBenchStatus s → FormatEnds false (Some bench_text) old new s → TrialEnds seed count old new s
  refused_as old new Done h ends = absurd h
  refused_as old new Words h ends = absurd h
  refused_as old new (Config n) h ends = absurd h
  refused_as old new (Small small) h ends = record {
    own = tt;
    formatted = λ is. let none : ⊥ = cc in absurd none;
    small = (let d = ends.small.0 in subst (λ (c : Configuration). room c old.disk.sizes ≡ Err small) (one_configuration (configuration bench_text) d.0 bench d.1 bench_reads) d.2, ends.small.1 refl);
    fault = ends.fault;
    other_media = λ other told. absurd other;
    others = ends.others;
    left = inl (tt, ⊎_elim (λ is. let none : ⊥ = cc in absurd none) (λ k. ⊎_elim (λ is. let none : ⊥ = cc in absurd none) (λ same. same) k) ends.untouched);
  }
  refused_as old new Unformatted h ends = absurd h
  refused_as old new Formatted h ends = record {
    own = tt;
    formatted = λ is. (ends.formatted refl).2;
    small = tt;
    fault = ends.fault;
    other_media = λ other told. absurd other;
    others = ends.others;
    left = inl (tt, ⊎_elim (λ is. let none : ⊥ = cc in absurd none) (λ k. ⊎_elim (λ is. let none : ⊥ = cc in absurd none) (λ same. same) k) ends.untouched);
  }
  refused_as old new (Damaged m offset) h ends = absurd h
  refused_as old new MediaFault h ends = record {
    own = tt;
    formatted = λ is. let none : ⊥ = cc in absurd none;
    small = tt;
    fault = ends.fault;
    other_media = λ other told. absurd other;
    others = ends.others;
    left = inr (inl (refl, (ends.moments (inr refl)).2));
  }
  refused_as old new (PortFault group) h ends = absurd h
  refused_as old new (LinkFault link) h ends = absurd h
  refused_as old new InputFault h ends = absurd h
  refused_as old new OutputFault h ends = absurd h
  refused_as old new NoMemory h ends = record {
    own = tt;
    formatted = λ is. let none : ⊥ = cc in absurd none;
    small = tt;
    fault = ends.fault;
    other_media = λ other told. absurd other;
    others = ends.others;
    left = inl (tt, ⊎_elim (λ is. let none : ⊥ = cc in absurd none) (λ k. ⊎_elim (λ is. let none : ⊥ = cc in absurd none) (λ same. same) k) ends.untouched);
  }
  refused_as old new (Feed n at) h ends = absurd h
  refused_as old new NoChannel h ends = absurd h
  refused_as old new (NoIncident id) h ends = absurd h
  refused_as old new (SaveRefused cause) h ends = absurd h
  refused_as old new Place h ends = absurd h
  refused_as old new Tick h ends = absurd h
  refused_as old new ExportKind h ends = absurd h
  refused_as old new ExportNothing h ends = absurd h
  refused_as old new (ExportMixed place) h ends = absurd h
  refused_as old new ExportLong h ends = absurd h
  refused_as old new (ExportPart part) h ends = absurd h
  refused_as old new (Missing place) h ends = absurd h
  refused_as old new (Capture number offset) h ends = absurd h
  refused_as old new (NoEvidence named offset) h ends = absurd h

  -- The media were formatted. What is left to say of the run is said where they tell.
  module _ (old mid new : MediaSeen tells tells_images) (ends : FormatEnds false (Some bench_text) old mid Done) where
    abbrev pub Left : Status → Type 0
    Left s = tells → (end : RunEnd) × (items : List FeedItem) × ComesTo seed count end items s × LeavesRun (MediaFailed old new) old.disk new.disk items end s

    stopped_as : (s : Status) → IsRunStatus s → (s ≡ MediaFault → MediaFailed old new) → (IsOfOtherMedia s → tells → ⊥)
        → (tells → SameElsewhere members mid.disk.reads new.disk.reads) → Left s → TrialEnds seed count old new s
    stopped_as s stop fault other same left = record {
      own = stop_status s (run_trial s stop);
      formatted = λ is. absurd (run_not_formatted s stop is);
      small = run_not_small _ s stop;
      fault = fault;
      other_media = other;
      others = λ told. elsewhere old mid new.disk.reads ends told (same told);
      left = inr (inr (was_unformatted old mid ends, has_room old mid ends, left));
    }

    pub done_as : (tells → SameElsewhere members mid.disk.reads new.disk.reads) → Left Done → TrialEnds seed count old new Done
    done_as same left = record {
      own = tt;
      formatted = λ is. let none : ⊥ = cc in absurd none;
      small = tt;
      fault = λ is. let none : ⊥ = cc in absurd none;
      other_media = λ other told. absurd other;
      others = λ told. elsewhere old mid new.disk.reads ends told (same told);
      left = inr (inr (was_unformatted old mid ends, has_room old mid ends, left));
    }

    -- The run was not closed.
    module _ (wider : Rose (sum mid.faults) (sum new.faults) → MediaFailed old new) where
      nothing_left : (s : Status) → (s ≡ MediaFault) ⊎ (s ≡ NoMemory) → (IsWorkDone s → ⊥) → tells → NothingIsRecorded fresh (Rose (sum mid.faults) (sum new.faults)) mid.disk new.disk
          → (end : RunEnd) × (items : List FeedItem) × ComesTo seed count end items s × LeavesRun (MediaFailed old new) old.disk new.disk items end s
      nothing_left s is undone told nothing =
          let r = nothing_ran (Rose (sum mid.faults) (sum new.faults)) mid.disk new.disk (empty_read old mid ends told) (empty_now old mid ends) nothing in
          (NotStarted, [], is, joined old mid ends (Rose (sum mid.faults) (sum new.faults)) (MediaFailed old new) new.disk [] NotStarted s wider r (λ done. absurd (undone done)))

      left_by : (s : Status) → tells → RunsItems seed count (Rose (sum mid.faults) (sum new.faults)) mid.disk new.disk (Err s)
          → (end : RunEnd) × (items : List FeedItem) × ComesTo seed count end items s × LeavesRun (MediaFailed old new) old.disk new.disk items end s
      left_by Done told runs = absurd runs
      left_by Words told runs = absurd runs
      left_by (Config n) told runs = absurd runs
      left_by (Small small) told runs = absurd runs
      left_by Unformatted told runs = absurd runs
      left_by Formatted told runs = absurd runs
      left_by (Damaged m offset) told runs = absurd runs
      left_by MediaFault told runs = ⊎_elim
          (λ nothing. nothing_left MediaFault (inl refl) (λ done. done) told nothing)
          (λ (broken : BreaksOff seed count (Rose (sum mid.faults) (sum new.faults)) mid.disk new.disk).
          let r = ran_on (Rose (sum mid.faults) (sum new.faults)) mid.disk new.disk broken.0 Broken (empty_read old mid ends told) broken.2 in
          (Broken, broken.0, (refl, broken.1), joined old mid ends (Rose (sum mid.faults) (sum new.faults)) (MediaFailed old new) new.disk broken.0 Broken MediaFault wider r (λ done. absurd done)))
          runs
      left_by (PortFault group) told runs = absurd runs
      left_by (LinkFault link) told runs = absurd runs
      left_by InputFault told runs = absurd runs
      left_by OutputFault told runs = absurd runs
      left_by NoMemory told runs = nothing_left NoMemory (inr refl) (λ done. done) told runs
      left_by (Feed n at) told runs = absurd runs
      left_by NoChannel told runs = absurd runs
      left_by (NoIncident id) told runs = absurd runs
      left_by (SaveRefused cause) told runs = absurd runs
      left_by Place told runs = absurd runs
      left_by Tick told runs = absurd runs
      left_by ExportKind told runs = absurd runs
      left_by ExportNothing told runs = absurd runs
      left_by (ExportMixed place) told runs = absurd runs
      left_by ExportLong told runs = absurd runs
      left_by (ExportPart part) told runs = absurd runs
      left_by (Missing place) told runs = absurd runs
      left_by (Capture number offset) told runs = absurd runs
      left_by (NoEvidence named offset) told runs = absurd runs

      not_other : (s : Status) → RunsItems seed count (Rose (sum mid.faults) (sum new.faults)) mid.disk new.disk (Err s) → IsOfOtherMedia s → ⊥
      not_other Done runs other = absurd runs
      not_other Words runs other = absurd runs
      not_other (Config n) runs other = absurd runs
      not_other (Small small) runs other = absurd runs
      not_other Unformatted runs other = absurd runs
      not_other Formatted runs other = absurd runs
      not_other (Damaged m offset) runs other = absurd runs
      not_other MediaFault runs other = other
      not_other (PortFault group) runs other = absurd runs
      not_other (LinkFault link) runs other = absurd runs
      not_other InputFault runs other = absurd runs
      not_other OutputFault runs other = absurd runs
      not_other NoMemory runs other = other
      not_other (Feed n at) runs other = absurd runs
      not_other NoChannel runs other = absurd runs
      not_other (NoIncident id) runs other = absurd runs
      not_other (SaveRefused cause) runs other = absurd runs
      not_other Place runs other = absurd runs
      not_other Tick runs other = absurd runs
      not_other ExportKind runs other = absurd runs
      not_other ExportNothing runs other = absurd runs
      not_other (ExportMixed place) runs other = absurd runs
      not_other ExportLong runs other = absurd runs
      not_other (ExportPart part) runs other = absurd runs
      not_other (Missing place) runs other = absurd runs
      not_other (Capture number offset) runs other = absurd runs
      not_other (NoEvidence named offset) runs other = absurd runs

      pub run_stops_as : (s : Status) → IsRunStatus s → (s ≡ MediaFault → Rose (sum mid.faults) (sum new.faults)) → (tells → SameElsewhere members mid.disk.reads new.disk.reads)
          → (tells → RunsItems seed count (Rose (sum mid.faults) (sum new.faults)) mid.disk new.disk (Err s)) → TrialEnds seed count old new s
      run_stops_as s stop fault same runs = stopped_as s stop (λ is. wider (fault is)) (λ other told. not_other s (runs told) other) same (λ told. left_by s told (runs told))

  -- The run was closed, and the media were opened again.
  module _ (old mid late new : MediaSeen tells tells_images) (ends : FormatEnds false (Some bench_text) old mid Done) (rose : Type 0) where
    closed_so : tells → ReplayHeadline fresh rose mid.disk late.disk ⊥ nothing_told (trial_items seed count) Closed → RanOn rose mid.disk late.disk (trial_items seed count) Closed
    closed_so told h = ran_on rose mid.disk late.disk (trial_items seed count) Closed (empty_read old mid ends told) h

    life_so : (told : tells) (h : ReplayHeadline fresh rose mid.disk late.disk ⊥ nothing_told (trial_items seed count) Closed) → Lives (closed_so told h).events late.disk.reads
    unfolding closed_so
    life_so told h = lived_all rose mid.disk late.disk (trial_items seed count) (empty_read old mid ends told) h told

    holds_so : (told : tells) (h : ReplayHeadline fresh rose mid.disk late.disk ⊥ nothing_told (trial_items seed count) Closed) → LifeHolds bench bench_text late.disk.reads
    holds_so told h = life_holds bench bench_text (closed_so told h).events late.disk.reads (life_so told h)

    abbrev pub Counts : Result Windows Status → Type 0
    Counts result = (x : Contents) → tells → HoldsContents late.disk.reads x → EndsMeet (members_with x.further) (reading_of x) → AreSound x → CountsWindows x late.disk new.disk result

    left_closed : (result : Result Windows Status) (s : Status) (told : tells) (h : ReplayHeadline fresh rose mid.disk late.disk ⊥ nothing_told (trial_items seed count) Closed) → IsAfterRun s
        → (c : CountsWindows (holds_so told h).contents late.disk new.disk result) → (IsWorkDone s → ShowsHistory (opening_of (holds_so told h).contents) [] new.disk.reads)
        → (end : RunEnd) × (items : List FeedItem) × ComesTo seed count end items s × LeavesRun (MediaFailed old new) old.disk new.disk items end s
    left_closed result s told h after c shows =
        let l = holds_so told h in
        let r = closed_so told h in
        let again = reopened rose mid.disk late.disk new.disk (trial_items seed count) r l.contents (life_so told h) l.holds l.sound c.moments in
        (Closed, trial_items seed count, (after, refl), joined_closed again (λ done. reopened_shows rose mid.disk late.disk new.disk (trial_items seed count) r l.contents (life_so told h) l.holds l.sound c.moments new.disk.reads (shows done)))
      where
        joined_closed : (r : RanOn rose mid.disk new.disk (trial_items seed count) Closed) → (IsWorkDone s → Lives r.events new.disk.reads) → LeavesRun (MediaFailed old new) old.disk new.disk (trial_items seed count) Closed s
        joined_closed r reads = joined old mid ends ⊥ (MediaFailed old new) new.disk (trial_items seed count) Closed s (λ none. absurd none)
            (told_as (opening_of fresh) Lives Lives (RecordsItems (trial_items seed count) Closed) (RecordsItems (trial_items seed count) Closed) ((Closed ≡ Broken) × rose) ((Closed ≡ Broken) × ⊥) mid.disk new.disk ⊥ ⊥ nothing_told nothing_told r
            (λ first rest split image shown. shown) (λ told. told) (λ (b : (Closed ≡ Broken) × rose). let clash = b.0 in let none : ⊥ = cc in absurd none) (λ none. absurd none))
            reads

    counted_at : (result : Result Windows Status) → Counts result → (told : tells) (h : ReplayHeadline fresh rose mid.disk late.disk ⊥ nothing_told (trial_items seed count) Closed) → CountsWindows (holds_so told h).contents late.disk new.disk result
    counted_at result counts told h = let l = holds_so told h in counts l.contents told l.holds l.meet l.sound

    -- Opening them, or counting, stopped.
    pub count_stops_as : (result : Result Windows Status) (s : Status) → result ≡ Err s → IsRunStatus s → (s ≡ MediaFault → MediaFailed old new) → (tells → SameElsewhere members mid.disk.reads new.disk.reads)
        → (tells → ReplayHeadline fresh rose mid.disk late.disk ⊥ nothing_told (trial_items seed count) Closed) → Counts result → TrialEnds seed count old new s
    count_stops_as result s is stop fault same run counts = stopped_as old mid new ends s stop fault
        (λ other told. own_not_other s (own told) other) same
        (λ told. left_closed result s told (run told) (own_after s (own told)) (counted_at result counts told (run told)) (λ done. stop_undone s (run_trial s stop) done))
      where
        own : tells → IsOwnStatus s
        own told = subst (λ (r : Result Windows Status). IfStatus r IsOwnStatus) is (counted_at result counts told (run told)).cause

    -- All was counted.
    pub counts_as : (result : Result Windows Status) (n : Windows) → result ≡ Ok n → (tells → SameElsewhere members mid.disk.reads new.disk.reads)
        → (tells → ReplayHeadline fresh rose mid.disk late.disk ⊥ nothing_told (trial_items seed count) Closed) → Counts result → TrialEnds seed count old new Done
    counts_as result n is same run counts = done_as old mid new ends same
        (λ told. left_closed result Done told (run told) tt (counted_at result counts told (run told)) (λ done. (counted result n is counts told (run told)).0))
      where
        counted : (result : Result Windows Status) (n : Windows) → result ≡ Ok n → (counts : Counts result) (told : tells) (h : ReplayHeadline fresh rose mid.disk late.disk ⊥ nothing_told (trial_items seed count) Closed)
            → ShowsHistory (opening_of (holds_so told h).contents) [] new.disk.reads
            × (n.capsule ≡ as_u64 (window_count 0 (window_of (holds_so told h).contents.config 0) ((opening_of (holds_so told h).contents).records 0)))
            × (n.long_term ≡ as_u64 (window_count 1 (window_of (holds_so told h).contents.config 1) ((opening_of (holds_so told h).contents).records 1)))
        counted result n is counts told h = if_ok _ result n is (counted_at result counts told h).counted

    -- The windows have what the definition makes of the items.
    pub tally_is : (result : Result Windows Status) (n : Windows) (came : Ran) → came.records < 2 ^ 64 → result ≡ Ok n → tells → RunsItems seed count rose mid.disk late.disk (Ok came) → Counts result → IsTally seed count (record { ran = came; windows = n })
    unfolding trial_records
    tally_is result n came fits is told (sums, records, h) counts =
        let l = holds_so told h in
        let c = if_ok _ result n is (counted_at result counts told h).counted in
        let config : l.contents.config ≡ bench = life_config bench bench_text (closed_so told h).events late.disk.reads l.contents (life_so told h) l.holds in
        let low : length (trial_records seed count) < 2 ^ 64 = omega (arith, fits, records) in
        let on : (m : ℕ) → Contains members m → window (window_of l.contents.config m) ((opening_of l.contents).records m) ≡ window (window_of bench m) (trial_records seed count) =
        (λ m there. ap (λ (d : Configuration). window (window_of d m) ((opening_of l.contents).records m)) config ∙ life_windows bench bench_text (closed_so told h).events late.disk.reads l.contents m (life_so told h) l.holds (subst (λ (ms : List ℕ). Contains ms m) (ap members_with (sym l.holds.further)) there)
        ∙ ap (λ (rs : List Record). window (window_of bench m) rs) (closed_so told h).told.records) in
        record {
          sums = sums;
          records = records;
          capsule = c.1 ∙ (ap (λ (rs : List Record). as_u64 (length (filter (matches (all_of 0)) rs))) (on 0 (contains_here 0 (1 ∷ []))) ∙ all_counted 0 (window_of bench 0) (trial_records seed count) low);
          long_term = c.2 ∙ (ap (λ (rs : List Record). as_u64 (length (filter (matches (all_of 1)) rs))) (on 1 (contains_there 0 (1 ∷ []) 1 (contains_here 1 []))) ∙ all_counted 1 (window_of bench 1) (trial_records seed count) low);
        }

-- By exclusion
module _ {tells tells_images : Type 0} (seed count : ℕ) (old new : MediaSeen tells tells_images) (told : tells) where
  done_all : TrialLeaves seed count old new Done → TriesAll old.disk Done
  done_all (inl refused) = absurd refused.0
  done_all (inr (inl failed)) = let clash = failed.0 in let none : ⊥ = cc in absurd none
  done_all (inr (inr k)) = record {
    formatted = λ f. absurd (never_both old.disk.reads f (k.0 told));
    small = λ un small short. absurd (let clash : Ok tt ≡ Err small = sym k.1 ∙ short in cc);
    done = λ un fits. tt;
  }

  pub tries_all : (s : Status) → (s ≡ OutputFault → ⊥) → (s ≡ MediaFault → ⊥) → TrialEnds seed count old new s → TriesAll old.disk s
  tries_all Done output media ends = done_all ends.left
  tries_all Words output media ends = absurd ends.own
  tries_all (Config n) output media ends = absurd ends.own
  tries_all (Small small) output media ends = record {
    formatted = λ f. absurd (never_both old.disk.reads f (ends.small.1 told));
    small = λ un other short. inl (one_small small other (room bench old.disk.sizes) ends.small.0 short);
    done = λ un fits. absurd (let clash : Err small ≡ Ok tt = sym ends.small.0 ∙ fits in cc);
  }
  tries_all Unformatted output media ends = absurd (ends.other_media tt told)
  tries_all Formatted output media ends = record {
    formatted = λ f. inl refl;
    small = λ un other short. absurd (never_both old.disk.reads ((ends.formatted refl).1 told) un);
    done = λ un fits. absurd (never_both old.disk.reads ((ends.formatted refl).1 told) un);
  }
  tries_all (Damaged m offset) output media ends = absurd (ends.other_media tt told)
  tries_all MediaFault output media ends = absurd (media refl)
  tries_all (PortFault group) output media ends = absurd ends.own
  tries_all (LinkFault link) output media ends = absurd ends.own
  tries_all InputFault output media ends = absurd ends.own
  tries_all OutputFault output media ends = absurd (output refl)
  tries_all NoMemory output media ends = record { formatted = λ f. inr refl; small = λ un other short. inr refl; done = λ un fits. tt }
  tries_all (Feed n at) output media ends = absurd (ends.other_media tt told)
  tries_all NoChannel output media ends = absurd ends.own
  tries_all (NoIncident id) output media ends = absurd ends.own
  tries_all (SaveRefused cause) output media ends = absurd ends.own
  tries_all Place output media ends = absurd (ends.other_media tt told)
  tries_all Tick output media ends = absurd (ends.other_media tt told)
  tries_all ExportKind output media ends = absurd ends.own
  tries_all ExportNothing output media ends = absurd ends.own
  tries_all (ExportMixed place) output media ends = absurd ends.own
  tries_all ExportLong output media ends = absurd ends.own
  tries_all (ExportPart part) output media ends = absurd ends.own
  tries_all (Missing place) output media ends = absurd ends.own
  tries_all (Capture number offset) output media ends = absurd ends.own
  tries_all (NoEvidence named offset) output media ends = absurd ends.own

-- The output failed where all else was done.
pub output_failed : {tells tells_images : Type 0} (seed count : ℕ) (old new : MediaSeen tells tells_images) → TrialEnds seed count old new Done → TrialEnds seed count old new OutputFault
output_failed {tells} seed count old new ends = record {
  own = tt;
  formatted = λ is. let none : ⊥ = cc in absurd none;
  small = tt;
  fault = λ is. let none : ⊥ = cc in absurd none;
  other_media = λ other told. absurd other;
  others = ends.others;
  left = ⊎_elim
      (λ refused. absurd refused.0)
      (λ k. ⊎_elim (λ failed. let clash = failed.0 in let none : ⊥ = cc in absurd none) (λ run. inr (inr (run.0, run.1, λ told. so (run.2 told)))) k)
      ends.left;
}
  where
    so : (end : RunEnd) × (items : List FeedItem) × ComesTo seed count end items Done × LeavesRun (MediaFailed old new) old.disk new.disk items end Done
        → (end : RunEnd) × (items : List FeedItem) × ComesTo seed count end items OutputFault × LeavesRun (MediaFailed old new) old.disk new.disk items end OutputFault
    so (NotStarted, items, comes, leaves) = absurd (elim comes [ inl is ↦ cc | inr is ↦ cc ])
    so (Broken, items, comes, leaves) = let clash = comes.0 in let none : ⊥ = cc in absurd none
    so (Closed, items, comes, leaves) = (
      Closed,
      items,
      (tt, comes.1),
      record {
        events = leaves.events;
        history = leaves.history;
        pending = leaves.pending;
        records = leaves.records;
        accounts = leaves.accounts;
        moments = leaves.moments;
        synced = leaves.synced;
        after_entry = leaves.after_entry;
        before_exit = leaves.before_exit;
        kept = leaves.kept;
        none_yet = leaves.none_yet;
        rises = leaves.rises;
        reads = λ done. leaves.reads tt;
      },
    )

-- What the command owes

pub stopped_trial : {tells tells_images : Type 0} (seed count : ℕ) (old new : Outside tells tells_images) (s : Status) → IsPartStatus s → TrialEnds seed count old.media new.media s → new.output ≡ old.output → Trials seed count old new s
stopped_trial seed count old new s stop ends same = record {
  printed = λ told. stop_prints (trial_text seed count) old.output new.output s stop;
  output = λ is. stop_undone s stop (subst IsWorkDone (sym is) tt);
  silent = inr same;
  media = ends;
  complete = λ none told. tries_all seed count old.media new.media told s (λ is. stop_undone s stop (subst IsWorkDone (sym is) tt)) (λ is. none.media (ends.fault is)) ends;
}

pub printed_as : {tells tells_images : Type 0} (seed count : ℕ) (old new : Outside tells tells_images) (s : Status) (tally : Tally) → IsWorkDone s → TrialEnds seed count old.media new.media Done → (tells → IsTally seed count tally)
    → PrintsText (trial_lines tally.ran.sums tally.ran.records tally.windows.capsule tally.windows.long_term) s old.output new.output → (s ≡ OutputFault → OutputFailed old.output new.output) → Trials seed count old new s
printed_as {tells} {tells_images} seed count old new s tally done ends is prints output = record {
  printed = λ told. let t = is told in
      let same : trial_lines tally.ran.sums tally.ran.records tally.windows.capsule tally.windows.long_term ≡ trial_text seed count = (λ i. trial_lines (t.sums i) (t.records i) (t.capsule i) (t.long_term i)) in
      subst (λ (text : List ℕ). PrintsText text s old.output new.output) same prints;
  output = output;
  silent = inl done;
  media = media;
  complete = λ none told. tries_all seed count old.media new.media told s (λ is. none.output (output is)) (λ is. none.media (media.fault is)) media;
}
  where
    media : TrialEnds seed count old.media new.media s
    media = ⊎_elim
        (λ (is : s ≡ Done). subst (λ (r : Status). TrialEnds seed count old.media new.media r) (sym is) ends)
        (λ (is : s ≡ OutputFault). subst (λ (r : Status). TrialEnds seed count old.media new.media r) (sym is) (output_failed seed count old.media new.media ends))
        (done_either s done)
