-- What a session leaves: its lanes, its records, and its history, by what was told.
use Rattle.std.proofs.Common.{◌≡◌, ◌⊎◌, inl, inr, ◌<◌, ◌≤◌, ◌+◌, ◌++◌, ℕ, Bool, true, false, true≢false, List, [], Option, Some, None, length, if◌then◌else◌, count_by, refl, sym, ap, ◌∙◌, subst, arith, append-nil}
use Rattle.std.specs.Prelude.{IfSome}
use Rattle.std.proofs.lemmas.Bool.{cases_Bool}
use Rattle.vdr_terms.specs.declared.counts.Counts.{Counts}
use Rattle.vdr_terms.specs.declared.rate.Rate.{Rate}
use Rattle.vdr_terms.specs.Rates.{is_configured, limit_of}
use Rattle.vdr_terms.specs.Records.{Item, Record, none_missed}
use Rattle.vdr_terms.specs.Counting.{Tally}
use Rattle.vdr_terms.specs.Datagrams.{is_bad, is_large, verdict}
use Rattle.vdr_core.specs.Accounts.{Accounts, AccountsPrefix}
use Rattle.vdr_core.specs.FullCounts.{AreFullSteps, FullCounts}
use Rattle.vdr_core.specs.Histories.{Opening}
use Rattle.vdr_core.specs.Recorder.{closed_run, recorder_after}
use Rattle.vdr_core.specs.Runs.{RunStart, base_of}
use Rattle.vdr_core.specs.Sums.{Sums, counted_by, missed_before, missed_in, recorded_in}
use Rattle.vdr_core.specs.Taken.{AllFeed, Captured, Feeds, of_group}
use Rattle.vdr_core.specs.Law.{Admits}
use Rattle.vdr_core.specs.Summary.{CloseAddsUp}
use Rattle.vdr_core.proofs.RunSums.{close_adds_up}
use Rattle.vdr_core.proofs.Feeding.{counts_path}
use Rattle.vdr_intake.specs.Ends.{Feeding, QueueId, Taking, full_of}
use Rattle.vdr_outside.specs.declared.port.Port.{Ghosts as PortTells}
use Rattle.vdr_capture.specs.declared.lane.Cause.{Cause}
use Rattle.vdr_capture.specs.declared.lane.Lane.{Lane}
use Rattle.vdr_capture.specs.declared.sums.GroupSums.{GroupSums}
use Rattle.vdr_capture.specs.declared.sums.Outcome.{Outcome}
use Rattle.vdr_capture.specs.declared.sums.Outcome.TheVariants.{Done, NoMemory, Place, Tick, MediaFault, PortFault, LinkFault}
use Rattle.vdr_capture.specs.Sums.{sums_of}
use Rattle.vdr_recorder.specs.Recordings.{start_of_opening}
use Rattle.vdr_session.specs.declared.mark.Mark.{Mark}
use Rattle.vdr_session.specs.declared.records.Began.{Began}
use Rattle.vdr_session.specs.declared.records.Began.TheVariants as starts
use Rattle.vdr_session.specs.Ended.{IsToldAs, IsWithFailures}
use Rattle.vdr_session.specs.Events.{is_started, run_records}
use Rattle.vdr_session.specs.Feeding.{LaneGave}
use Rattle.vdr_session.specs.Lanes.{AllPopped}
use Rattle.vdr_session.specs.Marks.{has_fault, is_begun, taken_in}
use Rattle.vdr_session.specs.Ran.{IsSetUp, PortRan}
use Rattle.vdr_session.specs.Sessions.{AccountBy, LaneTold, OutcomeMeans, RecordsAre, is_closed}
use Rattle.vdr_session.specs.Standing.{StartMeans}
use Rattle.vdr_session.specs.Summing.{KnowsFull, paired, summed}
use Rattle.vdr_session.proofs.Closes.{closed_accounts, cut_accounts}

-- Whether a run was begun
abbrev pub has_begun : Began → Bool
has_begun starts.Begun = true
has_begun starts.Place = false
has_begun starts.Tick = false
has_begun starts.Fault = false

-- The lanes

-- a lane that ran
pub lane_ran : {P : Type 0} (tells : PortTells P) (turns capacity g : ℕ) (b : Bool) (rate : Option Rate) (queue : Option QueueId) (first taker : Option Taking) (intake : Option (QueueId × Taking)) (orig old new : Lane P) (given : List Item) (rest : Counts)
    → b ≡ is_configured (limit_of rate) → intake ≡ paired queue taker → IsSetUp b g capacity queue first orig old → LaneGave tells turns g queue taker old new given rest
    → LaneTold tells turns capacity true g rate intake orig.port new given rest
lane_ran {P} tells turns capacity g b None None first taker intake orig old new given rest conf is set gave =
    subst (λ (i : Option (QueueId × Taking)). LaneTold tells turns capacity true g None i orig.port new given rest) (sym is)
    (record { same = ap (λ (l : Lane P). l.port) gave.0 ∙ set.port; none = gave.1; none_missed = gave.2 }, ap (λ (l : Lane P). l.cause) gave.0 ∙ set.cause)
lane_ran tells turns capacity g b None (Some queue) first taker intake orig old new given rest conf is set gave = absurd (true≢false (set.known ∙ conf))
lane_ran tells turns capacity g b (Some rate) None first taker intake orig old new given rest conf is set gave = absurd (true≢false (sym (set.known ∙ conf)))
lane_ran tells turns capacity g b (Some rate) (Some queue) first None intake orig old new given rest conf is set gave = absurd gave
lane_ran tells turns capacity g b (Some rate) (Some queue) None (Some taker) intake orig old new given rest conf is set gave = absurd set.ready
lane_ran {P} tells turns capacity g b (Some rate) (Some queue) (Some first) (Some taker) intake orig old new given rest conf is set gave =
    subst (λ (i : Option (QueueId × Taking)). LaneTold tells turns capacity true g (Some rate) i orig.port new given rest) (sym is)
    (set.ready.1, set.room, subst (λ (p : P). PortRan tells turns g queue taker p new.port new.tally new.cause given rest) set.port gave)

-- a lane of a session whose run was not begun
pub lane_rested : {P : Type 0} (tells : PortTells P) (turns capacity g : ℕ) (b : Bool) (rate : Option Rate) (queue : Option QueueId) (first taker : Option Taking) (intake : Option (QueueId × Taking)) (orig old new : Lane P)
    → b ≡ is_configured (limit_of rate) → intake ≡ paired queue taker → IsSetUp b g capacity queue first orig old → new ≡ old → taker ≡ first
    → LaneTold tells turns capacity false g rate intake orig.port new [] none_missed
lane_rested {P} tells turns capacity g b None None first taker intake orig old new conf is set same takers =
    subst (λ (i : Option (QueueId × Taking)). LaneTold tells turns capacity false g None i orig.port new [] none_missed) (sym is)
    (record { same = ap (λ (l : Lane P). l.port) same ∙ set.port; none = refl; none_missed = refl }, ap (λ (l : Lane P). l.cause) same ∙ set.cause)
lane_rested tells turns capacity g b None (Some queue) first taker intake orig old new conf is set same takers = absurd (true≢false (set.known ∙ conf))
lane_rested tells turns capacity g b (Some rate) None first taker intake orig old new conf is set same takers = absurd (true≢false (sym (set.known ∙ conf)))
lane_rested tells turns capacity g b (Some rate) (Some queue) None taker intake orig old new conf is set same takers = absurd set.ready
lane_rested {P} tells turns capacity g b (Some rate) (Some queue) (Some first) taker intake orig old new conf is set same takers =
    subst (λ (i : Option (QueueId × Taking)). LaneTold tells turns capacity false g (Some rate) i orig.port new [] none_missed) (sym (is ∙ ap (paired (Some queue)) takers))
    (set.ready.1, set.room, record { same = ap (λ (l : Lane P). l.port) same ∙ set.port; none = refl; none_missed = refl })

-- Nothing was given, nothing taken
pub nothing_feeds : (items : List Captured) → items ≡ [] → AllFeed (items ++ []) (λ _. none_missed) (λ _. [])
nothing_feeds items none = record {
  lanes = λ g. subst (λ (xs : List Captured). Feeds g (of_group g (xs ++ [])) none_missed []) (sym none)
      (record { inside = []; since = []; order = refl; is_queued = refl; is_counted = record { bad = refl; large = refl; rate = refl; all = refl } });
  beyond = λ g high. refl;
}

-- The records

module _ (start : RunStart) (admits : Admits start.limits) (items lost : List Captured) (rest : ℕ → Counts) (given : ℕ → List Item) (feed : AllFeed (items ++ lost) rest given) (records : List Record) where
  feed_closed : lost ≡ [] → AllFeed items rest given
  feed_closed none = subst (λ (xs : List Captured). AllFeed xs rest given) (ap (λ (xs : List Captured). items ++ xs) none ∙ append-nil items) feed

  pub accounts_closed : lost ≡ [] → records ≡ closed_run start items rest → (g : ℕ)
      → Accounts (start.limits g) (base_of start) records g (given g)
      × Sums g (given g) (length (of_group g items)) ((missed_before (of_group g items)).full + (rest g).full) records
      × ((capacity full_steps : ℕ) → AreFullSteps capacity full_steps (of_group g items) (rest g) → FullCounts capacity full_steps g (of_group g items) (rest g) (given g) records)
  accounts_closed none is g = closed_accounts start admits items rest given (feed_closed none) records is g

  accounts_cut : RecordsAre MediaFault start items lost rest records → (g : ℕ) → AccountsPrefix (start.limits g) (base_of start) records g (given g)
  accounts_cut (inl none) g =
      subst (λ (rs : List Record). AccountsPrefix (start.limits g) (base_of start) rs g (given g)) (sym none) ([], given g, refl, record { gaps = tt; accounted = refl })
  accounts_cut (inr (inl made)) g = cut_accounts start admits items lost rest given feed records made g
  accounts_cut (inr (inr both)) g = (given g, [], sym (append-nil (given g)), (accounts_closed both.0 both.1 g).0)

  pub account_by : (outcome : Outcome) → RecordsAre outcome start items lost rest records → (g : ℕ) → AccountBy outcome start records g (given g)
  account_by Done are g = (accounts_closed are.0 are.1 g).0
  account_by NoMemory are g = tt
  account_by Place are g = tt
  account_by Tick are g = tt
  account_by MediaFault are g = accounts_cut are g
  account_by (PortFault k) are g = (accounts_closed are.0 are.1 g).0
  account_by (LinkFault i) are g = (accounts_closed are.0 are.1 g).0

  sums_path : (s t : GroupSums) → s.taken ≡ t.taken → s.recorded ≡ t.recorded → s.counts ≡ t.counts → s ≡ t
  sums_path s t p q r = λ i. record { taken = p i; recorded = q i; counts = r i }

  -- Of a group whose port ran and whose queue was drained
  module _ (none : lost ≡ []) (closed : records ≡ closed_run start items rest) {P : Type 0} (tells : PortTells P) (turns g : ℕ) (small : g < 16) (queue : QueueId) (taker : Taking) (old new : P) (tally : Tally)
      (told : Option Cause) (ran : PortRan tells turns g queue taker old new tally told (given g) (rest g)) (popped : of_group g items ≡ taker.popped) (drained : AllPopped taker.popped taker.joined) where
    all_pushed : ran.feeder.pushed ≡ taker.popped
    all_pushed = subst (AllPopped taker.popped) ran.joined drained

    full_steps : (missed_before (of_group g items)).full + (rest g).full ≡ ran.feeder.full
    full_steps =
        (λ i. (missed_before ((popped ∙ sym all_pushed) i)).full + (sym ran.rest_is i).full)
        ∙ ran.captured.items.by_steps

    pub sums_told : summed start items tally g ≡ sums_of g (given g) records
    sums_told =
        let close : CloseAddsUp start items rest g = close_adds_up start items rest g small in
        let sums = (accounts_closed none closed g).1 in
        let by_rate = (feed.lanes g).is_counted.rate in
        let merged = ap (λ (c : Counts). c.rate) close.missed in
        let run = ap (λ (rs : List Record). (missed_in g rs).rate) closed in
        let rates : (counted_by (recorder_after start items) g).rate ≡ (missed_in g records).rate = omega (arith, by_rate, merged, run) in
        sums_path (summed start items tally g) (sums_of g (given g) records)
        (ran.captured.items.taken ∙ ap length ran.given_is)
        (sym close.recorded ∙ ap (recorded_in g) (sym closed))
        (counts_path (summed start items tally g).counts (missed_in g records)
        (ran.captured.items.full ∙ sym full_steps ∙ sym sums.full)
        rates
        (ran.captured.items.bad ∙ ap (λ (xs : List Item). count_by (λ i. is_bad (verdict i.bytes)) xs) ran.given_is ∙ sym sums.bad)
        (ran.captured.items.large ∙ ap (λ (xs : List Item). count_by (λ i. is_large (verdict i.bytes)) xs) ran.given_is ∙ sym sums.large))

    pub full_told : (capacity : ℕ) → queue.capacity ≡ capacity → KnowsFull taker → FullCounts capacity (full_of taker.joined) g taker.popped (rest g) (given g) records
    full_told capacity room knows =
        let held : 0 < ran.feeder.full → taker.queue.capacity ≤ length ran.feeder.pushed = subst (λ (o : Option Feeding). IfSome o (λ feeder. 0 < feeder.full → taker.queue.capacity ≤ length feeder.pushed)) ran.joined knows in
        let same_room = ap (λ (q : QueueId). q.capacity) ran.of_queue.1 in
        let pushed = ap length (all_pushed ∙ sym popped) in
        let counts = (accounts_closed none closed g).2 capacity ran.feeder.full (record {
          counted = full_steps;
          held = λ some. (let h = held some in omega (arith, h, same_room, room, pushed));
        }) in
        subst (λ (xs : List Captured). FullCounts capacity (full_of taker.joined) g xs (rest g) (given g) records) popped
        (subst (λ (n : ℕ). FullCounts capacity n g (of_group g items) (rest g) (given g) records) (ap full_of (sym ran.joined)) counts)

-- The history, by what was told

pub closed_is_done : (outcome end : Outcome) → (began : Began) → IsToldAs began outcome → IsWithFailures outcome end → is_closed end ≡ true → (outcome ≡ Done) × (began ≡ starts.Begun)
closed_is_done outcome end began told (inr ports) closed = (ports.0, begun began (subst (IsToldAs began) ports.0 told))
  where
    begun : (began : Began) → IsToldAs began Done → began ≡ starts.Begun
    begun starts.Begun told = refl
    begun starts.Place told = let none : ⊥ = cc in absurd none
    begun starts.Tick told = let none : ⊥ = cc in absurd none
    begun starts.Fault told = let none : ⊥ = cc in absurd none
closed_is_done outcome end began told (inl same) closed = by began told (ap is_closed (sym same) ∙ closed)
  where
    by : (began : Began) → IsToldAs began outcome → is_closed outcome ≡ true → (outcome ≡ Done) × (began ≡ starts.Begun)
    by starts.Begun (inl done) is = (done, refl)
    by starts.Begun (inr fault) is = absurd (true≢false (sym is ∙ ap is_closed fault))
    by starts.Place told is = absurd (true≢false (sym is ∙ ap is_closed told))
    by starts.Tick told is = absurd (true≢false (sym is ∙ ap is_closed told))
    by starts.Fault told is = absurd (true≢false (sym is ∙ ap is_closed told))

-- what is told is no want of memory
pub has_memory : (outcome end : Outcome) (began : Began) → IsToldAs began outcome → IsWithFailures outcome end → end ≡ NoMemory → ⊥
has_memory outcome end began told (inr (done, inl (g, is))) e = never g (sym is ∙ e)
  where
    never : (g : ℕ) → PortFault g ≡ NoMemory → ⊥
    never g e = cc
has_memory outcome end began told (inr (done, inr (i, is))) e = never i (sym is ∙ e)
  where
    never : (i : ℕ) → LinkFault i ≡ NoMemory → ⊥
    never i e = cc
has_memory outcome end began told (inl same) e = by began (subst (IsToldAs began) (sym same ∙ e) told)
  where
    by : (began : Began) → IsToldAs began NoMemory → ⊥
    by starts.Begun (inl e) = cc
    by starts.Begun (inr e) = cc
    by starts.Place e = cc
    by starts.Tick e = cc
    by starts.Fault e = cc

pub outcome_means : (opening : Opening) (began : Began) (outcome end : Outcome) → IsToldAs began outcome → IsWithFailures outcome end → StartMeans opening began → OutcomeMeans opening end
outcome_means opening starts.Begun outcome end told ports means = by told ports
  where
    by : (outcome ≡ Done) ⊎ (outcome ≡ MediaFault) → IsWithFailures outcome end → OutcomeMeans opening end
    by told (inr (done, inl (g, is))) = subst (OutcomeMeans opening) (sym is) means
    by told (inr (done, inr (i, is))) = subst (OutcomeMeans opening) (sym is) means
    by (inl done) (inl same) = subst (OutcomeMeans opening) (sym (same ∙ done)) means
    by (inr fault) (inl same) = subst (OutcomeMeans opening) (sym (same ∙ fault)) tt
outcome_means opening starts.Place outcome end told ports means = by ports
  where
    never : Place ≡ Done → ⊥
    never e = cc

    by : IsWithFailures outcome end → OutcomeMeans opening end
    by (inr (done, fails)) = absurd (never (sym told ∙ done))
    by (inl same) = subst (OutcomeMeans opening) (sym (same ∙ told)) means
outcome_means opening starts.Tick outcome end told ports means = by ports
  where
    never : Tick ≡ Done → ⊥
    never e = cc

    by : IsWithFailures outcome end → OutcomeMeans opening end
    by (inr (done, fails)) = absurd (never (sym told ∙ done))
    by (inl same) = subst (OutcomeMeans opening) (sym (same ∙ told)) means
outcome_means opening starts.Fault outcome end told ports means = by ports
  where
    never : MediaFault ≡ Done → ⊥
    never e = cc

    by : IsWithFailures outcome end → OutcomeMeans opening end
    by (inr (done, fails)) = absurd (never (sym told ∙ done))
    by (inl same) = subst (OutcomeMeans opening) (sym (same ∙ told)) tt

-- the records of a run that was not begun, and of one that was
module _ (opening : Opening) (marks : List Mark) (rest : ℕ → Counts) (records : List Record) (lost : List Captured) where
  abbrev RunOrClosed : Type 0
  RunOrClosed = (records ≡ run_records opening marks) ⊎ ((records ≡ closed_run (start_of_opening opening) (taken_in marks) rest) × (is_begun marks ≡ true) × (has_fault marks ≡ false))

  none_recorded : is_started marks ≡ false → is_begun marks ≡ false → RunOrClosed → records ≡ []
  none_recorded idle refused (inl is) = is ∙ (λ i. if idle i then (recorder_after (start_of_opening opening) (taken_in marks)).made else [])
  none_recorded idle refused (inr (is, begun, none)) = absurd (true≢false (sym begun ∙ refused))

  cut_recorded : (has_fault marks ≡ false → is_begun marks ≡ true → lost ≡ []) → RunOrClosed → RecordsAre MediaFault (start_of_opening opening) (taken_in marks) lost rest records
  cut_recorded whole (inr (is, begun, none)) = inr (inr (whole none begun, is))
  cut_recorded whole (inl is) = by (cases_Bool (is_started marks))
    where
      by : (is_started marks ≡ true) ⊎ (is_started marks ≡ false) → RecordsAre MediaFault (start_of_opening opening) (taken_in marks) lost rest records
      by (inl on) = inr (inl (is ∙ (λ i. if on i then (recorder_after (start_of_opening opening) (taken_in marks)).made else [])))
      by (inr idle) = inl (is ∙ (λ i. if idle i then (recorder_after (start_of_opening opening) (taken_in marks)).made else []))

  module _ (began : Began) (outcome end : Outcome) (told : IsToldAs began outcome) (ports : IsWithFailures outcome end) (whole : has_fault marks ≡ false → is_begun marks ≡ true → lost ≡ []) (run : RunOrClosed)
      (closed : outcome ≡ Done → records ≡ closed_run (start_of_opening opening) (taken_in marks) rest) (works : outcome ≡ Done → has_fault marks ≡ false) (begun : began ≡ starts.Begun → is_begun marks ≡ true)
      (refused : (began ≡ starts.Begun → ⊥) → is_begun marks ≡ false) (idle : (began ≡ starts.Place) ⊎ (began ≡ starts.Tick) → is_started marks ≡ false) where
    abbrev Are : Outcome → Type 0
    Are o = RecordsAre o (start_of_opening opening) (taken_in marks) lost rest records

    are_closed : began ≡ starts.Begun → outcome ≡ Done → (lost ≡ []) × (records ≡ closed_run (start_of_opening opening) (taken_in marks) rest)
    are_closed is done = (whole (works done) (begun is), closed done)

    by_ports : Are outcome → (outcome ≡ Done → (g : ℕ) → Are (PortFault g)) → IsWithFailures outcome end → Are end
    by_ports are closes (inl same) = subst Are (sym same) are
    by_ports are closes (inr (done, inl (g, is))) = subst Are (sym is) (closes done g)
    by_ports are closes (inr (done, inr (i, is))) = subst Are (sym is) (closes done i)

    are : (b : Began) → began ≡ b → IsToldAs b outcome → Are outcome
    are starts.Begun is (inl done) = subst Are (sym done) (are_closed is done)
    are starts.Begun is (inr fault) = subst Are (sym fault) (cut_recorded whole run)
    are starts.Place is told = subst Are (sym told) (none_recorded (idle (inl is)) (refused (λ e. other (sym is ∙ e))) run)
      where
        other : starts.Place ≡ starts.Begun → ⊥
        other e = cc
    are starts.Tick is told = subst Are (sym told) (none_recorded (idle (inr is)) (refused (λ e. other (sym is ∙ e))) run)
      where
        other : starts.Tick ≡ starts.Begun → ⊥
        other e = cc
    are starts.Fault is told = subst Are (sym told) (cut_recorded whole run)

    pub records_are : Are end
    records_are = by_ports (are began refl told) (λ done g. are_closed (begun_of done) done) ports
      where
        begun_of : outcome ≡ Done → began ≡ starts.Begun
        begun_of done = (closed_is_done outcome Done began told (inl (sym done)) refl).1
