-- What a trial leaves: formatting, a run, and opening again, joined.
use Rattle.std.specs.Prelude.{All, ⊤}
use Rattle.std.proofs.Common.{◌≡◌, ◌≤◌, ◌⊎◌, inl, inr, ⊎_elim, ℕ, false, List, [], ◌∷◌, ◌++◌, Some, Ok, Err, Contains, refl, sym, ap, subst, ◌∙◌, append-nil, arith}
use Rattle.std.specs.Str.{is_utf8, chars}
use Rattle.serde_json.proofs.OnLiterals.{serde_json_on_literals}
use Rattle.vdr_recorder.specs.Watched.{nothing_told}
use Rattle.vdr_terms.specs.Records.{FeedItem}
use Rattle.vdr_core.specs.Histories.{Event, recorded}
use Rattle.vdr_durability.specs.Keeping.{IsWhole, ShowsOn, ShowsPrefix}
use Rattle.vdr_durability.proofs.Kept.{keeps_on}
use Rattle.vdr_durability.proofs.Acknowledged.{rises_on}
use Rattle.vdr_outside.specs.Causes.{Rose}
use Rattle.vdr_outside.specs.Disk.{Disk, Image, SameBut, content}
use Rattle.vdr_outside.specs.Moments.{AtEachMoment, Settled}
use Rattle.vdr_outside.proofs.Moments.{in_calls, moments_join, moments_weaken, now_after, settled_image}
use Rattle.vdr_config.specs.Configuration.{Configuration}
use Rattle.vdr_config.specs.Forms.{is_key}
use Rattle.vdr_config.specs.Grammar.{agreement, channel_at, configuration, configuration_of, each_element, group_at, needed_key, only_keys, optional_key, selection_at, top_of}
use Rattle.vdr_media.specs.Answers.{KnownUnformatted, TextTested, room}
use Rattle.vdr_media.specs.Formatted.{IsEmptyHistory, IsEmptyHistoryOf, IsUnformatted, SameBeside, members}
use Rattle.vdr_media.specs.Formatting.{FormatsAtEachMoment}
use Rattle.vdr_media.specs.Medium.{IsEmptyMedium}
use Rattle.vdr_media.specs.declared.refused.FormatRefused.{FormatRefused}
use Rattle.vdr_media.specs.declared.refused.FormatRefused.TheVariants as refusal
use Rattle.vdr_media.proofs.Two.{all_two}
use Rattle.vdr_opening.specs.Media.{Contents, HoldsContents, members_with, opening_of}
use Rattle.vdr_opening.proofs.Fronts.{empty_holds}
use Rattle.vdr_vault.specs.Calls.{SameElsewhere}
use Rattle.vdr_vault.specs.Openings.{LeavesAll}
use Rattle.vdr_vault.specs.Regularity.{AreSound}
use Rattle.vdr_vault.specs.Vaults.{ShowsHistory}
use Rattle.vdr_recorder.specs.Headline.{Headline, PlaysBack}
use Rattle.vdr_recorder.proofs.Headlines.{no_event_history, no_event_whole, order_quiet, told_as}
use Rattle.vdr_replay.specs.Headline.{AccountBy, AccountsForFeed, NothingIsRecorded, RecordsAre, ReplayHeadline, RunEnd}
use Rattle.vdr_replay.specs.Headline.RunEnd.{NotStarted, Closed, Broken}
use Rattle.vdr_vault.specs.Lives.{Life}
use Rattle.vdr_vault.specs.Lives.Life.{formatted, ran}
use Rattle.vdr_vault.proofs.Lives.{run_front, run_in_order}
use Rattle.vdr_command.specs.Endings.{IsWorkDone}
use Rattle.vdr_command.specs.Outside.{MediaSeen}
use Rattle.vdr_command.specs.declared.status.Status.{Status}
use Rattle.vdr_command.specs.declared.status.Status.TheVariants.{Done}
use Rattle.vdr_tool.specs.Formats.{FormatEnds, status_of}
use Rattle.vdr_tool.specs.TrialParts.{IsBenchStatus}
use Rattle.vdr_tool.specs.Trials.{LeavesRun, bench, bench_text, first_run, fresh}
use Rattle.vdr_tool.proofs.FormatLemmas.{one_configuration}
use Rattle.vdr_recorder.proofs.GoingOn.{played_so}
use Rattle.vdr_recorder.proofs.Opened.{keeps_synced}

-- The text is that configuration.
pub bench_reads : configuration bench_text ≡ Ok bench
unfolding serde_json_on_literals is_utf8 chars configuration configuration_of only_keys top_of needed_key optional_key each_element group_at channel_at selection_at agreement is_key
bench_reads = refl

pub stops_at_bench : (r : FormatRefused) → TextTested (Err r) (configuration bench_text) → IsBenchStatus (status_of r)
stops_at_bench refusal.NoMemory tested = tt
stops_at_bench (refusal.Config bad) tested = let clash : Ok bench ≡ Err bad = sym bench_reads ∙ tested in let none : ⊥ = cc in absurd none
stops_at_bench refusal.AlreadyFormatted tested = tt
stops_at_bench (refusal.TooSmall small) tested = tt
stops_at_bench refusal.Fault tested = tt

-- Which statuses come of what

-- A count that rose in a part rose in all of it.
pub rose_wider : (a b c d : ℕ) → a ≤ b → c ≤ d → Rose b c → Rose a d
rose_wider a b c d low high rose = omega (arith, low, high, rose)

abbrev pub IsEmpty : Image → Type 0
IsEmpty image = IsEmptyHistory members bench bench_text image

abbrev pub Lives : List Event → Image → Type 0
Lives events image = Life bench bench_text events image

empty_of : (image : Image) → IsEmptyHistoryOf (0 ∷ 1 ∷ []) bench_text image → IsEmpty image
empty_of image (c, h) = subst (λ (d : Configuration). IsEmptyHistory members d bench_text image) (one_configuration (configuration bench_text) c bench (h.each 0 0 (omega arith)).holds.reads bench_reads) h

pub same_joined : (a b c : Image) → SameElsewhere members a b → SameBut 1 b c → SameElsewhere members a c
same_joined a b c first then k apart = then k (apart 1 1 (omega arith)) ∙ first k apart

-- What a run over these items records, where it ended so.
pub record RecordsItems (items : List FeedItem) (end : RunEnd) (events : List Event) : Type 0 where
  pub records : RecordsAre end first_run items (recorded events)
  pub accounts : (g : ℕ) → AccountBy end first_run items (recorded events) g

module _ {tells tells_images : Type 0} where
  -- Formatting succeeded.
  module _ (old mid : MediaSeen tells tells_images) (ends : FormatEnds false (Some bench_text) old mid Done) where
    settled : All (λ m. Settled m (IsEmptyMedium m bench bench_text) mid.disk) (0 ∷ 1 ∷ [])
    settled =
        let d = (ends.done refl).1 in
        subst (λ (c : Configuration). All (λ m. Settled m (IsEmptyMedium m c bench_text) mid.disk) (0 ∷ 1 ∷ [])) (one_configuration (configuration bench_text) d.0 bench d.1 bench_reads) d.2.1

    pub has_room : room bench old.disk.sizes ≡ Ok tt
    has_room =
        let d = (ends.done refl).1 in
        subst (λ (c : Configuration). room c old.disk.sizes ≡ Ok tt) (one_configuration (configuration bench_text) d.0 bench d.1 bench_reads) d.2.0

    pub was_unformatted : KnownUnformatted old.disk
    was_unformatted = (ends.done refl).0 refl

    pub empty_now : (image : Image) → mid.disk.now image → IsEmpty image
    empty_now image now = record {
      each = all_two (λ m. IsEmptyMedium m bench bench_text (content image m))
          (settled_image 0 (IsEmptyMedium 0 bench bench_text) mid.disk (settled 0 0 (omega arith)) image now)
          (settled_image 1 (IsEmptyMedium 1 bench bench_text) mid.disk (settled 1 1 (omega arith)) image now);
    }

    pub empty_read : tells → IsEmpty mid.disk.reads
    empty_read told = record { each = all_two (λ m. IsEmptyMedium m bench bench_text (content mid.disk.reads m)) ((settled 0 0 (omega arith)).reads told) ((settled 1 1 (omega arith)).reads told) }

    formats : AtEachMoment old.disk mid.disk (λ image. old.disk.now image ⊎ (IsUnformatted image ⊎ IsEmpty image))
    formats = by (ends.moments (inl refl)).2
      where
        by : FormatsAtEachMoment {T = ⊤} {E = Status} old.disk mid.disk (Ok tt) (IsEmptyHistoryOf members bench_text)
            → AtEachMoment old.disk mid.disk (λ image. old.disk.now image ⊎ (IsUnformatted image ⊎ IsEmpty image))
        by (inl early) = let none : ⊥ = cc in absurd none
        by (inr goes) = moments_weaken old.disk mid.disk (λ image. old.disk.now image ⊎ (IsUnformatted image ⊎ IsEmptyHistoryOf (0 ∷ 1 ∷ []) bench_text image))
            (λ image. old.disk.now image ⊎ (IsUnformatted image ⊎ IsEmpty image)) goes.moments
            (λ image p. ⊎_elim (λ now. inl now) (λ k. ⊎_elim (λ un. inr (inl un)) (λ new. inr (inr (empty_of image new))) k) p)

  -- A run on media that were just formatted, from the moment at which it began.
  abbrev pub RanOn : (rose : Type 0) → (mid late : Disk tells tells_images) → List FeedItem → RunEnd → Type 0
  RanOn rose mid late items end = Headline (opening_of fresh) Lives (RecordsItems items end) ((end ≡ Broken) × rose) mid late ⊥ nothing_told

  pub lived : (rose : Type 0) (mid late : Disk tells tells_images) (items : List FeedItem) (end : RunEnd) → IsEmpty mid.reads → (h : ReplayHeadline fresh rose mid late ⊥ nothing_told items end)
      → (first rest : List Event) → h.events ≡ first ++ rest → (image : Image) → PlaysBack (opening_of fresh) first image → Lives first image
  lived rose mid late items end empty h first rest split image p =
      ran [] mid.reads image fresh first (formatted mid.reads empty) (empty_holds 0 mid.reads bench bench_text refl empty)
      (run_front fresh first rest h.events split (run_in_order fresh h.events h.history.follow h.order)) (played_so fresh first image p)

  pub ran_on : (rose : Type 0) (mid late : Disk tells tells_images) (items : List FeedItem) (end : RunEnd) → IsEmpty mid.reads → ReplayHeadline fresh rose mid late ⊥ nothing_told items end → RanOn rose mid late items end
  ran_on rose mid late items end empty h =
      told_as (opening_of fresh) (PlaysBack (opening_of fresh)) Lives (AccountsForFeed fresh late items end) (RecordsItems items end) ((end ≡ Broken) × rose) ((end ≡ Broken) × rose) mid late ⊥ ⊥ nothing_told nothing_told h
      (lived rose mid late items end empty h) (λ told. record { records = told.records; accounts = told.accounts }) (λ p. p) (λ none. absurd none)

  pub lived_all : (rose : Type 0) (mid late : Disk tells tells_images) (items : List FeedItem) (empty : IsEmpty mid.reads) → (h : ReplayHeadline fresh rose mid late ⊥ nothing_told items Closed) → tells
      → Lives (ran_on rose mid late items Closed empty h).events late.reads
  unfolding ran_on
  lived_all rose mid late items empty h told = lived rose mid late items Closed empty h h.events [] (sym (append-nil h.events)) late.reads (h.told.reads told refl)

  -- It was not begun, and a stop leaves the media empty.
  ran_nothing : (rose : Type 0) (mid late : Disk tells tells_images) → ((image : Image) → mid.now image → IsEmpty image) → LeavesAll mid late → RanOn rose mid late [] NotStarted
  ran_nothing rose mid late empty leaves = record {
    events = [];
    history = no_event_history (opening_of fresh);
    order = λ m there. tt;
    pending = inl no_event_whole;
    told = record { records = refl; accounts = λ g. tt };
    moments = moments_weaken mid late (λ image. mid.now image) (λ image. mid.now image ⊎ ShowsPrefix Lives [] 0 image) leaves (λ image now. inl now);
    synced = mid.clock;
    after_entry = omega arith;
    before_exit = leaves.later;
    kept = keeps_synced Lives mid.clock late leaves.later (λ image left. formatted image (empty image (leaves.each image left)));
    none_yet = λ image left. inl ((leaves.past mid.clock image (omega arith)).0 left);
    rises = leaves.later;
    heard = λ none. absurd none;
  }

  pub nothing_ran : (rose : Type 0) (mid late : Disk tells tells_images) → IsEmpty mid.reads → ((image : Image) → mid.now image → IsEmpty image) → NothingIsRecorded fresh rose mid late → RanOn rose mid late [] NotStarted
  nothing_ran rose mid late read empty (inl leaves) = ran_nothing rose mid late empty leaves
  nothing_ran rose mid late read empty (inr h) = ran_on rose mid late [] NotStarted read h

  -- The media were opened again, which changed nothing of what they have.
  module _ (rose : Type 0) (mid late new : Disk tells tells_images) (items : List FeedItem) (r : RanOn rose mid late items Closed) (x : Contents) (life : Lives r.events late.reads)
      (holds : HoldsContents late.reads x) (sound : AreSound x) (moments : AtEachMoment late new (λ image. late.now image ⊎ ShowsHistory (opening_of x) [] image)) where
    pub shows_on : (image : Image) → ShowsHistory (opening_of x) [] image → Lives r.events image
    shows_on image shown = subst (λ (es : List Event). Lives es image) (append-nil r.events)
        (ran r.events late.reads image x [] life holds (run_in_order x [] tt (λ m there. order_quiet x sound [] refl m (subst (λ (ms : List ℕ). Contains ms m) (ap members_with holds.further) there))) shown)

    all_whole : IsWhole r.events
    all_whole = ⊎_elim (λ w. w) (λ (b : (Closed ≡ Broken) × rose). let clash = b.0 in let none : ⊥ = cc in absurd none) r.pending

    goes_on : ShowsOn Lives r.events late new
    goes_on = moments_weaken late new (λ image. late.now image ⊎ ShowsHistory (opening_of x) [] image) (λ image. late.now image ⊎ Lives r.events image) moments
        (λ image p. ⊎_elim (λ now. inl now) (λ shown. inr (shows_on image shown)) p)

    abbrev pub Since : Image → Type 0
    Since image = mid.now image ⊎ ShowsPrefix Lives r.events 0 image

    pub reopened : RanOn rose mid new items Closed
    reopened = record {
      events = r.events;
      history = r.history;
      order = r.order;
      pending = r.pending;
      told = r.told;
      moments = moments_join mid late new Since r.moments (moments_weaken late new (λ image. late.now image ⊎ Lives r.events image) Since goes_on
          (λ image p. ⊎_elim (λ now. now_after mid late Since r.moments image now)
          (λ shown. inr (record { first = r.events; rest = []; split = sym (append-nil r.events); enough = omega arith; shown = shown })) p));
      synced = r.synced;
      after_entry = r.after_entry;
      before_exit = let exit = r.before_exit in let later = moments.later in omega (arith, exit, later);
      kept = keeps_on Lives r.events r.synced late new all_whole goes_on r.kept;
      none_yet = λ image left. r.none_yet image ((moments.past r.synced image r.before_exit).0 left);
      rises = rises_on r.events r.synced late.clock new.clock r.rises moments.later;
      heard = λ none. absurd none;
    }

  pub reopened_shows : (rose : Type 0) (mid late new : Disk tells tells_images) (items : List FeedItem) (r : RanOn rose mid late items Closed) (x : Contents) (life : Lives r.events late.reads)
      (holds : HoldsContents late.reads x) (sound : AreSound x) (moments : AtEachMoment late new (λ image. late.now image ⊎ ShowsHistory (opening_of x) [] image))
      → (image : Image) → ShowsHistory (opening_of x) [] image → Lives (reopened rose mid late new items r x life holds sound moments).events image
  unfolding reopened
  reopened_shows rose mid late new items r x life holds sound moments image shown = shows_on rose mid late new items r x life holds sound moments image shown

  abbrev pub SinceEntry : Disk tells tells_images → List Event → Image → Type 0
  SinceEntry old events image = old.now image ⊎ (IsUnformatted image ⊎ ShowsPrefix Lives events 0 image)

  -- Formatting, and what came after it.
  pub joined : (old mid : MediaSeen tells tells_images) (ends : FormatEnds false (Some bench_text) old mid Done) (rose wider : Type 0) (new : Disk tells tells_images) (items : List FeedItem) (end : RunEnd) (s : Status)
      → (rose → wider) → (r : RanOn rose mid.disk new items end) → (IsWorkDone s → Lives r.events new.reads) → LeavesRun wider old.disk new items end s
  joined old mid ends rose wider new items end s to r reads = record {
    events = r.events;
    history = r.history;
    pending = ⊎_elim (λ w. inl w) (λ (b : (end ≡ Broken) × rose). inr (b.0, to b.1)) r.pending;
    records = r.told.records;
    accounts = r.told.accounts;
    moments = moments_join old.disk mid.disk new (SinceEntry old.disk r.events)
        (moments_weaken old.disk mid.disk (λ image. old.disk.now image ⊎ (IsUnformatted image ⊎ IsEmpty image)) (SinceEntry old.disk r.events) (formats old mid ends)
        (λ image p. ⊎_elim (λ now. inl now) (λ k. ⊎_elim (λ un. inr (inl un)) (λ empty. begun image empty) k) p))
        (moments_weaken mid.disk new (λ image. mid.disk.now image ⊎ ShowsPrefix Lives r.events 0 image) (SinceEntry old.disk r.events) r.moments
        (λ image p. ⊎_elim (λ now. begun image (empty_now old mid ends image now)) (λ shown. inr (inr shown)) p));
    synced = r.synced;
    after_entry = let early = ends.others_meanwhile.later in let entry = r.after_entry in omega (arith, early, entry);
    before_exit = r.before_exit;
    kept = r.kept;
    none_yet = λ image left. ⊎_elim
        (λ was. ⊎_elim (λ early. inl early) (λ p. ⊎_elim (λ now. inl (old.disk.counts_until old.disk.clock image (omega arith) now)) (λ k. ⊎_elim (λ un. inr (inl un)) (λ empty. inr (inr (formatted image empty))) k) p)
        (in_calls old.disk mid.disk (λ image. old.disk.now image ⊎ (IsUnformatted image ⊎ IsEmpty image)) (formats old mid ends) mid.disk.clock image was))
        (λ shown. inr (inr shown)) (r.none_yet image left);
    rises = r.rises;
    reads = reads;
  }
    where
      begun : (image : Image) → IsEmpty image → SinceEntry old.disk r.events image
      begun image empty = inr (inr (record { first = []; rest = r.events; split = refl; enough = omega arith; shown = formatted image empty }))

  -- What is beside the two media

  pub elsewhere : (old mid : MediaSeen tells tells_images) (new : Image) → FormatEnds false (Some bench_text) old mid Done → tells → SameElsewhere members mid.disk.reads new
      → SameBeside members (λ image. image ≡ old.disk.reads) new
  elsewhere old mid new ends told same =
      let f = ends.others told in
      record {
        image = f.image;
        was = f.was;
        same = λ k others. same k others ∙ f.same k others;
      }
