-- A session, from what it left under its media and what its counters came to.
use Rattle.std.proofs.Common.{◌≡◌, ◌≢◌, ◌⊎◌, inl, inr, ◌<◌, ◌-◌, ◌++◌, ◌&&◌, ℕ, Bool, true, false, true≢false, List, [], Option, Some, None, length, get_or, is_some, refl, sym, ap, ◌∙◌, subst, arith, append-nil}
use Rattle.std.specs.Prelude.{IfSome}
use Rattle.std.proofs.lemmas.List.Elements.{All-nil}
use Rattle.vdr_terms.specs.declared.counts.Counts.{Counts}
use Rattle.vdr_terms.specs.declared.rate.Rate.{Rate}
use Rattle.vdr_terms.specs.Rates.{is_configured, limit_of}
use Rattle.vdr_terms.specs.Records.{Item, Record, none_missed}
use Rattle.vdr_core.specs.FullCounts.{FullCounts}
use Rattle.vdr_config.specs.Configuration.{Configuration}
use Rattle.vdr_config.specs.Sizes.{limits_in}
use Rattle.vdr_core.specs.Histories.{Event, Opening, Settings, recorded}
use Rattle.vdr_core.specs.Runs.{RunStart}
use Rattle.vdr_core.specs.Taken.{AllFeed, Captured, of_group}
use Rattle.vdr_core.specs.Law.{Admits}
use Rattle.vdr_durability.proofs.Whole.{whole_has_not_failed}
use Rattle.vdr_intake.specs.Ends.{QueueId, Taking, full_of}
use Rattle.vdr_opening.specs.Settings.{settings_of}
use Rattle.vdr_outside.specs.Disk.{Disk}
use Rattle.vdr_outside.specs.declared.port.Port.{Ghosts as PortTells}
use Rattle.vdr_capture.specs.declared.lane.Lane.{Lane}
use Rattle.vdr_capture.specs.declared.sums.GroupSums.{GroupSums}
use Rattle.vdr_capture.specs.declared.sums.Outcome.{Outcome}
use Rattle.vdr_capture.specs.declared.sums.Outcome.TheVariants.{Done, NoMemory, Place, Tick, MediaFault, PortFault, LinkFault}
use Rattle.vdr_capture.specs.Sums.{sums_of}
use Rattle.vdr_run.specs.Making.{CountsItems}
use Rattle.vdr_recorder.specs.Recordings.{HasRecorded, RecorderState, start_of_opening}
use Rattle.vdr_recorder.specs.Watched.{Watched}
use Rattle.vdr_recorder.proofs.Continuing.{left_place}
use Rattle.vdr_recorder.proofs.Resting.{stand_reads}
use Rattle.vdr_recorder.proofs.Passing.{passes_first}
use Rattle.vdr_desk.proofs.Lists.{no_default}
use Rattle.vdr_session.specs.declared.mark.Mark.{Mark}
use Rattle.vdr_session.specs.declared.records.Began.{Began}
use Rattle.vdr_session.specs.declared.records.Began.TheVariants as starts
use Rattle.vdr_session.specs.declared.session.SessionEnd.{SessionEnd}
use Rattle.vdr_session.specs.Closed.{NotBegun, RanLanes}
use Rattle.vdr_session.specs.Ended.{EndsRun, HasEnded, IsToldAs, IsWithFailures}
use Rattle.vdr_session.specs.Events.{is_started}
use Rattle.vdr_session.specs.Feeding.{LaneFed, LaneGave}
use Rattle.vdr_session.specs.Lanes.{IsDrained, popped_by}
use Rattle.vdr_session.specs.Marks.{has_fault, is_begun, taken_in}
use Rattle.vdr_session.specs.Ran.{IsSetUp}
use Rattle.vdr_session.specs.Sessions.{SessionWith, AccountBy, AreSums, CountsFull, HasGroups, KeepsSession, LaneTold, OutcomeMeans, RecordsAre, RecordsSession, Session, has_groups, is_closed}
use Rattle.vdr_session.specs.Summing.{KnowsFull, paired, summed}
use Rattle.vdr_session.proofs.Gathered.{gather}
use Rattle.vdr_session.proofs.LanesFed.{each_fed, feeds_all, none_lost}
use Rattle.vdr_session.proofs.LanesRan.{first_of, ready_group}
use Rattle.vdr_session.proofs.SessionHistory.{account_by, closed_is_done, full_told, has_begun, has_memory, lane_ran, lane_rested, nothing_feeds, outcome_means, records_are, sums_told}

-- The session

refused_is_not_begun : (began : Began) → began ≡ starts.Begun → (began ≡ starts.Place) ⊎ (began ≡ starts.Tick) → ⊥
refused_is_not_begun began is (inl e) = cc
refused_is_not_begun began is (inr e) = cc

pending_told : {W : Type 0} (outcome end : Outcome) → IsWithFailures outcome end → W ⊎ (outcome ≡ MediaFault) → W ⊎ (end ≡ MediaFault)
pending_told outcome end ports (inl whole) = inl whole
pending_told outcome end (inl same) (inr fault) = inr (same ∙ fault)
pending_told outcome end (inr (done, fails)) (inr fault) = absurd (never (sym done ∙ fault))
  where
    never : Done ≡ MediaFault → ⊥
    never e = cc

settings_limits : (opening : Opening) (c : Configuration) (text : List ℕ) → opening.settings ≡ settings_of c text → opening.settings.limits ≡ limits_in c.groups
settings_limits opening c text e = ap (λ (s : Settings). s.limits) e

pair_same : {A B : Type 0} (a : A) (b : B) (p : A × B) → Some (a, b) ≡ Some p → (a, b) ≡ p
pair_same a b p e = cc

some_rate : (o : Option Rate) → is_configured (limit_of o) ≡ is_some o
some_rate None = refl
some_rate (Some rate) = refl

module _ {P : Type 0} (port_tells : PortTells P) {tells tells_images : Type 0} (turns capacity : ℕ) (rates : List (Option Rate)) (configured : List Bool) (queues : List (Option QueueId)) (first last : List (Option Taking))
    (orig old new : List (Lane P)) (recorder : RecorderState) (at_first : Disk tells tells_images) (sizes faults : List ℕ) (beside : Began → List Mark → Type 0) (outcome : Outcome) (r : RecorderState) (disk : Disk tells tells_images) (now : List ℕ) (hears : Type 0) (heard w : Watched) (end : SessionEnd)
    (conf : (g : ℕ) → g < 16 → get_or configured g false ≡ is_configured (limits_in rates g)) (lengths : (length orig ≡ 16) × (length old ≡ 16) × (length new ≡ 16))
    (set : (g : ℕ) (d : Lane P) → g < 16 → IsSetUp (get_or configured g false) g capacity (get_or queues g None) (get_or first g None) (get_or orig g d) (get_or old g d))
    (e : HasEnded port_tells turns (λ g. is_configured (limits_in rates g)) queues first last old new (record { clock = at_first.clock; now = at_first.now; since = at_first.since; until = at_first.until; reads = at_first.reads; channels = recorder.vault.config.channels; hears = hears; heard = heard })
    (λ opening t0. HasRecorded opening [] t0 recorder at_first) sizes faults beside outcome r disk now w)
    (ports : IsWithFailures outcome end.outcome)
    (sums : (start : RunStart) (popped : List Captured) → CountsItems start popped r.maker → (g : ℕ) (d : Lane P) → g < 16 → is_some (get_or queues g None) ≡ true
    → get_or end.groups g None ≡ Some (summed start popped (get_or new g d).tally g))
    (total : end.records ≡ r.vault.next_place - recorder.vault.next_place)
    (intakes : (g : ℕ) → g < 16 → get_or end.intakes g None ≡ paired (get_or queues g None) (get_or last g None))
    (knows : (g : ℕ) (i : QueueId × Taking) → g < 16 → get_or end.intakes g None ≡ Some i → KnowsFull i.1)
    (admits : Admits (limits_in rates)) (rates_are : recorder.vault.config.groups ≡ rates) (works : recorder.vault.failed ≡ false)
    (replied : Opening → List Event → Type 0) (replies : (told : tells) (opening : Opening) (t0 : ℕ) (h : HasRecorded opening [] t0 recorder at_first) → replied opening (e.told told opening t0 h).0.events) where
  abbrev items : List Captured
  items = taken_in e.marks

  some_queue : (g : ℕ) (d : Lane P) → g < 16 → is_some (get_or queues g None) ≡ is_some (get_or rates g None)
  some_queue g d small = (set g d small).known ∙ conf g small ∙ some_rate (get_or rates g None)

  -- By what the ports gave
  module _ (given : ℕ → List Item) (lost : List Captured) (feed : AllFeed (items ++ lost) e.rest given) (whole : has_fault e.marks ≡ false → is_begun e.marks ≡ true → lost ≡ [])
      (lanes : (g : ℕ) (d : Lane P) → g < 16 → LaneTold port_tells turns capacity (has_begun e.began) g (get_or rates g None) (get_or end.intakes g None) (get_or orig g d).port (get_or new g d) (given g) (e.rest g))
      (begun : e.began ≡ starts.Begun → is_begun e.marks ≡ true)
      (closes : e.began ≡ starts.Begun → has_fault e.marks ≡ false → (g : ℕ) (d : Lane P) → g < 16
      → LaneGave port_tells turns g (get_or queues g None) (get_or last g None) (get_or old g d) (get_or new g d) (given g) (e.rest g) × (of_group g items ≡ popped_by (get_or last g None)) × IsDrained (get_or last g None)) where
    module _ (opening : Opening) (t0 : ℕ) (told : tells) (h : HasRecorded opening [] t0 recorder at_first) where
      run : EndsRun (record { clock = at_first.clock; now = at_first.now; since = at_first.since; until = at_first.until; reads = at_first.reads; channels = recorder.vault.config.channels; hears = hears; heard = heard }) opening e.marks t0 e.rest outcome r disk w
      run = (e.told told opening t0 h).0

      abbrev records : List Record
      records = recorded run.events

      admits_here : Admits (start_of_opening opening).limits
      admits_here = subst Admits (sym (settings_limits opening recorder.vault.config opening.settings.text (h.works works).standing.stands.settings ∙ ap limits_in rates_are)) admits

      told_are : RecordsAre end.outcome (start_of_opening opening) items lost e.rest records
      told_are = records_are opening e.marks e.rest records lost e.began outcome end.outcome e.told_as ports whole run.records (λ done. (run.closed done).0) (λ done. (e.works done).0) begun
          (λ ne. (e.lanes.refused ne).refused) (λ either. (idle_of either).0)
        where
          idle_of : (either : (e.began ≡ starts.Place) ⊎ (e.began ≡ starts.Tick)) → (is_started e.marks ≡ false) × (has_fault e.marks ≡ false)
          idle_of either = (e.lanes.refused (λ is. refused_is_not_begun e.began is either)).idle either

      module _ (closed : is_closed end.outcome ≡ true) where
        done : (outcome ≡ Done) × (e.began ≡ starts.Begun)
        done = closed_is_done outcome end.outcome e.began e.told_as ports closed

        none : lost ≡ []
        none = whole (e.works done.0).0 (begun done.1)

        sums_at : (g : ℕ) → g < 16 → (queue : Option QueueId) (taker : Option Taking) (was now : Lane P) → is_some queue ≡ true → LaneGave port_tells turns g queue taker was now (given g) (e.rest g)
            → of_group g items ≡ popped_by taker → IsDrained taker → summed (start_of_opening opening) items now.tally g ≡ sums_of g (given g) records
        sums_at g small None taker was now there gave popped drained = absurd (true≢false (sym there))
        sums_at g small (Some queue) None was now there gave popped drained = absurd gave
        sums_at g small (Some queue) (Some taker) was now there gave popped drained =
            sums_told (start_of_opening opening) admits_here items lost e.rest given feed records none (run.closed done.0).0 port_tells turns g small queue taker was.port now.port now.tally now.cause gave popped drained

        are_sums : AreSums rates given records end.groups
        are_sums g small there =
            let d = first_of new (let l = lengths.2 in omega (arith, l)) in
            let c = closes done.1 (e.works done.0).0 g d small in
            let is : is_some (get_or queues g None) ≡ true = some_queue g d small ∙ there in
            sums (start_of_opening opening) items (run.closed done.0).1 g d small is
            ∙ ap (λ (s : GroupSums). Some s) (sums_at g small (get_or queues g None) (get_or last g None) (get_or old g d) (get_or new g d) is c.0 c.1 c.2)

        full_at : (g : ℕ) → g < 16 → (queue : Option QueueId) (taker : Option Taking) (was now : Lane P) (intake : QueueId × Taking) → paired queue taker ≡ Some intake → LaneGave port_tells turns g queue taker was now (given g) (e.rest g)
            → of_group g items ≡ popped_by taker → IsDrained taker → IfSome queue (λ q. q.capacity ≡ capacity) → KnowsFull intake.1 → FullCounts capacity (full_of intake.1.joined) g intake.1.popped (e.rest g) (given g) records
        full_at g small None taker was now intake is gave popped drained room knows = let never : ⊥ = cc in absurd never
        full_at g small (Some queue) None was now intake is gave popped drained room knows = absurd gave
        full_at g small (Some queue) (Some taker) was now intake is gave popped drained room knows =
            let same = pair_same queue taker intake is in
            subst (λ (i : QueueId × Taking). FullCounts capacity (full_of i.1.joined) g i.1.popped (e.rest g) (given g) records) same
            (full_told (start_of_opening opening) admits_here items lost e.rest given feed records none (run.closed done.0).0 port_tells turns g small queue taker was.port now.port now.tally now.cause gave popped drained
            capacity room (subst (λ (i : QueueId × Taking). KnowsFull i.1) (sym same) knows))

        counts_full : CountsFull capacity given e.rest records end.intakes
        counts_full g intake small there =
            let d = first_of new (let l = lengths.2 in omega (arith, l)) in
            let c = closes done.1 (e.works done.0).0 g d small in
            full_at g small (get_or queues g None) (get_or last g None) (get_or old g d) (get_or new g d) intake (sym (intakes g small) ∙ there) c.0 c.1 c.2 (set g d small).room (knows g intake small there)

        is_total : end.records ≡ length records
        is_total =
            let a = h.told.place in
            let b = run.has.told.place in
            let c = left_place opening run.events ((whole_has_not_failed run.events).1 (sym run.has.failed ∙ (e.works done.0).1)) in
            omega (arith, total, a, b, c)

      pub is_told : (events : List Event) × KeepsSession opening t0 end.outcome at_first disk events × RecordsSession (start_of_opening opening) rates capacity given e.rest items lost end (recorded events) × replied opening events
      unfolding run
      is_told = (
        run.events,
        record {
          history = run.has.history;
          made = run.has.made;
          kept = run.has.kept;
          rises = run.has.rises;
          passes = record { later = run.passes.later; each = run.passes.each; before = run.passes.earlier; past = run.passes.past };
          pending = pending_told outcome end.outcome ports run.pending;
          means = outcome_means opening e.began outcome end.outcome e.told_as ports (e.told told opening t0 h).1;
          reads = λ closed told.
              let done = closed_is_done outcome end.outcome e.began e.told_as ports closed in
              let standing = (run.has.works (e.works done.0).1).standing in
              stand_reads opening run.events r.vault standing.placed disk standing.stands told;
        },
        record {
          are = told_are;
          accounts = account_by (start_of_opening opening) admits_here items lost e.rest given feed records end.outcome told_are;
          sums = are_sums;
          total = is_total;
          full = counts_full;
        },
        replies told opening t0 h,
      )

    pub session : end.outcome ≢ NoMemory → SessionWith port_tells turns capacity rates orig new recorder at_first disk end replied
    session memory = record {
      began = has_begun e.began;
      given = given;
      rest = e.rest;
      items = items;
      lost = lost;
      feed = feed;
      lanes = λ _. lanes;
      runs = λ closed. ap has_begun (closed_is_done outcome end.outcome e.began e.told_as ports closed).1;
      told = λ told opening t0 h. is_told opening t0 told h;
    }

  -- A run that was begun
  module _ (is : e.began ≡ starts.Begun) where
    abbrev ran : RanLanes port_tells turns (λ g. is_configured (limits_in rates g)) queues last old new e.marks
    ran = e.lanes.ran is

    abbrev lane : Lane P
    lane = first_of new (let l = lengths.2 in omega (arith, l))

    abbrev fed : (g : ℕ) → LaneFed port_tells turns g (get_or queues g None) (get_or last g None) (get_or old g lane) (get_or new g lane) (e.rest g)
    fed = each_fed port_tells turns queues last old new lane e.rest ran.sixteen
        (λ g small. ready_group (λ _. get_or configured g false) g (get_or queues g None) (get_or first g None) (get_or old g lane) (set g lane small).ready) (λ g small. ran.lanes g lane small) (e.missed is)

    gave : (g : ℕ) (d : Lane P) → g < 16 → LaneGave port_tells turns g (get_or queues g None) (get_or last g None) (get_or old g d) (get_or new g d) (fed g).given (e.rest g)
    gave g d small =
        subst (λ (x : Lane P × Lane P). LaneGave port_tells turns g (get_or queues g None) (get_or last g None) x.0 x.1 (fed g).given (e.rest g))
        (λ i. (no_default old g lane d (let l = lengths.1 in omega (arith, l, small)) i, no_default new g lane d (let l = lengths.2 in omega (arith, l, small)) i)) ((fed g).lane small)

    pub session_ran : end.outcome ≢ NoMemory → SessionWith port_tells turns capacity rates orig new recorder at_first disk end replied
    session_ran memory =
        let lost = ran.lost ++ gather (λ g. (fed g).queued) 16 in
        let whole : has_fault e.marks ≡ false → lost ≡ [] = λ none. none_lost port_tells turns queues last old new lane e.rest ran.sixteen
        (λ g small. ready_group (λ _. get_or configured g false) g (get_or queues g None) (get_or first g None) (get_or old g lane) (set g lane small).ready) (λ g small. ran.lanes g lane small) (e.missed is)
        ran.lost (ran.whole none) (ran.drained none) in
        session (λ g. (fed g).given) lost
        (feeds_all port_tells turns queues last old new lane e.rest ran.sixteen
        (λ g small. ready_group (λ _. get_or configured g false) g (get_or queues g None) (get_or first g None) (get_or old g lane) (set g lane small).ready) (λ g small. ran.lanes g lane small) (e.missed is)
        items ran.lost ran.popped)
        (λ none _. whole none)
        (λ g d small. subst (λ (b : Bool). LaneTold port_tells turns capacity b g (get_or rates g None) (get_or end.intakes g None) (get_or orig g d).port (get_or new g d) (fed g).given (e.rest g)) (sym (ap has_begun is))
        (lane_ran port_tells turns capacity g (get_or configured g false) (get_or rates g None) (get_or queues g None) (get_or first g None) (get_or last g None) (get_or end.intakes g None) (get_or orig g d) (get_or old g d) (get_or new g d)
        (fed g).given (e.rest g) (conf g small) (intakes g small) (set g d small) (gave g d small)))
        (λ _. ran.begun)
        (λ _ none g d small. (
          gave g d small,
          ap (of_group g) (sym (ap (λ (xs : List Captured). items ++ xs) (ran.whole none) ∙ append-nil items)) ∙ ran.popped.each g small,
          ran.drained none g small,
        ))
        memory

  -- One that was not
  module _ (ne : e.began ≡ starts.Begun → ⊥) where
    rested : NotBegun e.began first last old new e.marks
    rested = e.lanes.refused ne

    not_begun : (b : Began) → (b ≡ starts.Begun → ⊥) → has_begun b ≡ false
    not_begun starts.Begun ne = absurd (ne refl)
    not_begun starts.Place ne = refl
    not_begun starts.Tick ne = refl
    not_begun starts.Fault ne = refl

    pub session_rested : end.outcome ≢ NoMemory → SessionWith port_tells turns capacity rates orig new recorder at_first disk end replied
    session_rested memory = session (λ _. []) []
        (subst (λ (rest : ℕ → Counts). AllFeed (items ++ []) rest (λ _. [])) (λ i g. sym (e.quiet ne g) i) (nothing_feeds items rested.none))
        (λ _ _. refl)
        (λ g d small. subst (λ (x : Bool × Counts). LaneTold port_tells turns capacity x.0 g (get_or rates g None) (get_or end.intakes g None) (get_or orig g d).port (get_or new g d) [] x.1) (λ i. (sym (not_begun e.began ne) i, sym (e.quiet ne g) i))
        (lane_rested port_tells turns capacity g (get_or configured g false) (get_or rates g None) (get_or queues g None) (get_or first g None) (get_or last g None) (get_or end.intakes g None) (get_or orig g d) (get_or old g d) (get_or new g d)
        (conf g small) (intakes g small) (set g d small) (ap (λ (ls : List (Lane P)). get_or ls g d) rested.lanes) (ap (λ (ts : List (Option Taking)). get_or ts g None) rested.takers)))
        (λ is. absurd (ne is))
        (λ is. absurd (ne is))
        memory

  pub session_of : SessionWith port_tells turns capacity rates orig new recorder at_first disk end replied
  session_of = by e.began refl
    where
      memory : end.outcome ≢ NoMemory
      memory = has_memory outcome end.outcome e.began e.told_as ports

      by : (b : Began) → e.began ≡ b → SessionWith port_tells turns capacity rates orig new recorder at_first disk end replied
      by starts.Begun is = session_ran is memory
      by starts.Place is = session_rested (λ b. place_is_not (sym is ∙ b)) memory
        where
          place_is_not : starts.Place ≡ starts.Begun → ⊥
          place_is_not e = cc
      by starts.Tick is = session_rested (λ b. tick_is_not (sym is ∙ b)) memory
        where
          tick_is_not : starts.Tick ≡ starts.Begun → ⊥
          tick_is_not e = cc
      by starts.Fault is = session_rested (λ b. fault_is_not (sym is ∙ b)) memory
        where
          fault_is_not : starts.Fault ≡ starts.Begun → ⊥
          fault_is_not e = cc

-- What is there of a session that ended with memory

told_groups : {P : Type 0} (tells : PortTells P) (turns capacity : ℕ) (began : Bool) (g : ℕ) (rate : Option Rate) (intake : Option (QueueId × Taking)) (port : P) (lane : Lane P) (given : List Item) (rest : Counts)
    → LaneTold tells turns capacity began g rate intake port lane given rest → is_some intake ≡ is_some rate
told_groups tells turns capacity began g None None port lane given rest h = refl
told_groups tells turns capacity began g None (Some intake) port lane given rest h = absurd h
told_groups tells turns capacity began g (Some rate) None port lane given rest h = absurd h
told_groups tells turns capacity began g (Some rate) (Some intake) port lane given rest h = refl

pub queues_some : {P : Type 0} {capacity : ℕ} (configured : List Bool) (rates : List (Option Rate)) (queues : List (Option QueueId)) (takers : List (Option Taking)) (orig old : List (Lane P)) → length orig ≡ 16
    → ((g : ℕ) → g < 16 → get_or configured g false ≡ is_configured (limits_in rates g))
    → ((g : ℕ) (d : Lane P) → g < 16 → IsSetUp (get_or configured g false) g capacity (get_or queues g None) (get_or takers g None) (get_or orig g d) (get_or old g d)) → (g : ℕ) → g < 16
    → is_some (get_or queues g None) ≡ is_some (get_or rates g None)
queues_some configured rates queues takers orig old sixteen conf set g small = (set g (first_of orig (omega (arith, sixteen))) small).known ∙ conf g small ∙ some_rate (get_or rates g None)

with_memory : (o : Outcome) → o ≢ NoMemory → has_groups o ≡ true
with_memory Done ne = refl
with_memory NoMemory ne = absurd (ne refl)
with_memory Place ne = refl
with_memory Tick ne = refl
with_memory MediaFault ne = refl
with_memory (PortFault g) ne = refl
with_memory (LinkFault i) ne = refl

pub groups_of : {P : Type 0} (tells : PortTells P) {media_tells images : Type 0} (turns capacity : ℕ) (rates : List (Option Rate)) (queues : List (Option QueueId)) (old new : List (Lane P)) (recorder : RecorderState) (before after : Disk media_tells images)
    (end : SessionEnd) (replied : Opening → List Event → Type 0) → SessionWith tells turns capacity rates old new recorder before after end replied → end.outcome ≢ NoMemory → length new ≡ 16
    → ((g : ℕ) → g < 16 → is_some (get_or end.groups g None) ≡ is_some (get_or queues g None)) → ((g : ℕ) → g < 16 → is_some (get_or queues g None) ≡ is_some (get_or rates g None)) → HasGroups rates end
groups_of tells turns capacity rates queues old new recorder before after end replied s memory sixteen sums same =
    let d = first_of new (omega (arith, sixteen)) in
    let there = with_memory end.outcome memory in
    record {
      sums = λ g small. sums g small ∙ same g small ∙ ap (λ (b : Bool). b && is_some (get_or rates g None)) (sym there);
      intakes = λ g small. told_groups tells turns capacity s.began g (get_or rates g None) (get_or end.intakes g None) (get_or old g d).port (get_or new g d) (s.given g) (s.rest g) (s.lanes memory g d small)
          ∙ ap (λ (b : Bool). b && is_some (get_or rates g None)) (sym there);
    }

pub ports_memory : (outcome end : Outcome) (began : Began) → IsToldAs began outcome → IsWithFailures outcome end → end ≢ NoMemory
ports_memory outcome end began told ports = has_memory outcome end began told ports

-- Where there was no memory, nothing was done.
pub no_memory_session : {P : Type 0} (tells : PortTells P) {media_tells images : Type 0} (turns capacity : ℕ) (rates : List (Option Rate)) (old new : List (Lane P)) (recorder : RecorderState) (disk : Disk media_tells images) (end : SessionEnd)
    (replied : Opening → List Event → Type 0) → end.outcome ≡ NoMemory → ((opening : Opening) → replied opening []) → SessionWith tells turns capacity rates old new recorder disk disk end replied
no_memory_session {P} tells {media_tells} {images} turns capacity rates old new recorder disk end replied is replies =
    let open_ : is_closed end.outcome ≡ false = ap is_closed is in
    record {
      began = false;
      given = λ _. [];
      rest = λ _. none_missed;
      items = [];
      lost = [];
      feed = nothing_feeds [] refl;
      lanes = λ ne. absurd (ne is);
      runs = λ closed. absurd (true≢false (sym closed ∙ open_));
      told = λ told opening t0 h. (
        [],
        record {
          history = h.history;
          made = h.made;
          kept = h.kept;
          rises = h.rises;
          passes = passes_first opening [] disk;
          pending = inl (All-nil (λ (e : Event). e.moment ≢ None));
          means = subst (OutcomeMeans opening) (sym is) tt;
          reads = λ closed. absurd (true≢false (sym closed ∙ open_));
        },
        record {
          are = subst (λ (o : Outcome). RecordsAre o (start_of_opening opening) [] [] (λ _. none_missed) (recorded [])) (sym is) refl;
          accounts = λ g. subst (λ (o : Outcome). AccountBy o (start_of_opening opening) (recorded []) g []) (sym is) tt;
          sums = λ closed. absurd (true≢false (sym closed ∙ open_));
          total = λ closed. absurd (true≢false (sym closed ∙ open_));
          full = λ closed. absurd (true≢false (sym closed ∙ open_));
        },
        replies opening,
      );
    }

-- A session of which nothing is said of replies.
pub session_alone : {P : Type 0} (tells : PortTells P) {media_tells images : Type 0} (turns capacity : ℕ) (rates : List (Option Rate)) (old new : List (Lane P)) (recorder : RecorderState) (before after : Disk media_tells images) (end : SessionEnd)
    (replied : Opening → List Event → Type 0) → SessionWith tells turns capacity rates old new recorder before after end replied → Session tells turns capacity rates old new recorder before after end
session_alone tells turns capacity rates old new recorder before after end replied s = record {
  began = s.began;
  given = s.given;
  rest = s.rest;
  items = s.items;
  lost = s.lost;
  feed = s.feed;
  lanes = s.lanes;
  runs = s.runs;
  told = λ told opening t0 h. let x = s.told told opening t0 h in (x.0, x.1, x.2, tt);
}
