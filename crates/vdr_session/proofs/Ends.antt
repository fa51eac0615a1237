-- A session's end: a run that was not begun, and one that was stopped.
use Rattle.std.proofs.Common.{◌≡◌, ◌≢◌, ◌⊎◌, inl, inr, ◌<◌, ◌≤◌, ◌+◌, ◌*◌, ◌^◌, ◌++◌, ℕ, Bool, true, false, true≢false, List, [], ◌∷◌, Option, Some, None, length, get_or, ⊎_elim, refl, sym, ap, ◌∙◌, subst, arith, append-nil}
use Rattle.std.specs.Prelude.{sum}
use Rattle.std.proofs.lemmas.Bool.{cases_Bool, cases_lt}
use Rattle.std.proofs.lemmas.List.{length-append}
use Rattle.std.proofs.lemmas.List.Elements.{All-nil}
use Rattle.vdr_terms.specs.declared.counts.Counts.{Counts}
use Rattle.vdr_terms.specs.declared.rate.Rate.{Rate}
use Rattle.vdr_terms.specs.Counting.{next_number}
use Rattle.vdr_terms.specs.Rates.{is_configured}
use Rattle.vdr_terms.specs.Records.{none_missed, total}
use Rattle.vdr_config.specs.Sizes.{limits_in}
use Rattle.vdr_core.specs.Histories.{Event, Opening}
use Rattle.vdr_core.specs.Histories.Act.{Commit}
use Rattle.vdr_core.specs.Recorder.{closing}
use Rattle.vdr_core.specs.Runs.{RunStart}
use Rattle.vdr_core.specs.RunStates.{recorder_in, state_left}
use Rattle.vdr_core.specs.Taken.{Captured}
use Rattle.vdr_durability.specs.Keeping.{IsWhole}
use Rattle.vdr_durability.proofs.Whole.{whole_has_not_failed}
use Rattle.vdr_intake.specs.Ends.{QueueId, Taking}
use Rattle.vdr_intake.specs.Items.{most_items}
use Rattle.vdr_outside.specs.Calls.{Asked}
use Rattle.vdr_outside.specs.Causes.{NoneFalls, Rose}
use Rattle.vdr_outside.specs.Disk.{Disk}
use Rattle.vdr_outside.specs.declared.port.Port.{Ghosts as PortTells}
use Rattle.vdr_outside.proofs.Counts.{none_falls_join, rose_after, sum_not_less}
use Rattle.vdr_capture.specs.declared.lane.Cause.{Cause}
use Rattle.vdr_capture.specs.declared.lane.Cause.TheVariants as causes
use Rattle.vdr_capture.specs.declared.lane.Lane.{Lane}
use Rattle.vdr_capture.specs.declared.sums.Outcome.{Outcome}
use Rattle.vdr_capture.specs.declared.sums.Outcome.TheVariants.{Done, MediaFault}
use Rattle.vdr_capture.specs.Gives.{EndsBy}
use Rattle.vdr_opening.specs.Media.{members_with}
use Rattle.vdr_vault.specs.Calls.{SameElsewhere}
use Rattle.vdr_run.specs.Making.{CountsItems, counted_of}
use Rattle.vdr_recorder.specs.Recordings.{HasRecorded, RecorderState, start_of_opening}
use Rattle.vdr_recorder.specs.Watched.{DoneAndTold, Watched}
use Rattle.vdr_recorder.proofs.Telling.{tells_join, tells_none}
use Rattle.vdr_recorder.proofs.Batches.{numbers_append}
use Rattle.vdr_session.specs.declared.mark.Mark.{Mark}
use Rattle.vdr_session.specs.declared.records.Began.{Began}
use Rattle.vdr_session.specs.declared.records.Began.TheVariants.{Begun, Place, Tick, Fault}
use Rattle.vdr_session.specs.Closed.{HasClosed, RanLanes}
use Rattle.vdr_session.specs.Ended.{EndsRun, HasEnded, IsToldAs}
use Rattle.vdr_session.specs.Events.{events_of}
use Rattle.vdr_session.specs.Feeding.{AreMissed, RestIs}
use Rattle.vdr_session.specs.Lanes.{IsMet}
use Rattle.vdr_session.specs.Marks.{has_fault, taken_in}
use Rattle.vdr_session.specs.Ran.{HasRan, LaneRan}
use Rattle.vdr_session.specs.Standing.{Before, HasSession, HasTaken, IsKept, StartMeans}
use Rattle.vdr_session.proofs.Closes.{closes_session}
use Rattle.vdr_session.proofs.Faults.{all_there, no_fault, whole_along}
use Rattle.vdr_session.proofs.LanesRan.{first_of}
use Rattle.vdr_session.proofs.Marked.{known_popped, runs_popped}
use Rattle.vdr_session.proofs.Numbered.{items_few, numbers_small}
use Rattle.vdr_session.proofs.MarkLemmas.{begun_whole}

-- What is told of a run that was not begun is not that it was closed, and a fault of the media is told of a fault alone.
not_done : (began : Began) (outcome : Outcome) → (began ≡ Begun → ⊥) → IsToldAs began outcome → outcome ≡ Done → ⊥
not_done Begun outcome ne told e = ne refl
not_done Place outcome ne told e = cc
not_done Tick outcome ne told e = cc
not_done Fault outcome ne told e = cc

a_fault : (began : Began) (outcome : Outcome) → (began ≡ Begun → ⊥) → IsToldAs began outcome → outcome ≡ MediaFault → began ≡ Fault
a_fault Begun outcome ne told e = absurd (ne refl)
a_fault Place outcome ne told e = let none : ⊥ = cc in absurd none
a_fault Tick outcome ne told e = let none : ⊥ = cc in absurd none
a_fault Fault outcome ne told e = refl

refused_or_fault : {P : Type 0} (began : Began) (outcome : Outcome) → (began ≡ Begun → ⊥) → IsToldAs began outcome → ((began ≡ Place) ⊎ (began ≡ Tick) → P) → P ⊎ (outcome ≡ MediaFault)
refused_or_fault Begun outcome ne told idle = absurd (ne refl)
refused_or_fault Place outcome ne told idle = inl (idle (inl refl))
refused_or_fault Tick outcome ne told idle = inl (idle (inr refl))
refused_or_fault Fault outcome ne told idle = inr told

fault_is_not_done : MediaFault ≡ Done → ⊥
fault_is_not_done e = cc

done_is_no_fault : Done ≡ MediaFault → ⊥
done_is_no_fault e = cc

-- What a port missed since its last push is no more than it gave.
others_few : (turns others : ℕ) (old new : Asked) (cause : Cause) → EndsBy turns others old new cause → others ≤ turns
others_few turns others old new causes.Ended e = let low = e.0 in omega (arith, low)
others_few turns others old new causes.Failed e = let low = e.0 in omega (arith, low)
others_few turns others old new causes.Turns e = let same = e.0 in omega (arith, same)

missed_few : {P : Type 0} (tells : PortTells P) (turns g : ℕ) (queue : QueueId) (taker : Taking) (old new : Lane P) → HasRan tells turns g queue taker old new → total new.tally.missed ≤ turns
missed_few {P} tells turns g queue taker old new h =
    let c = h.captures.captured in
    let missed = ap (λ (l : Lane P). total l.tally.missed) h.is in
    let all = c.items.in_order.is_counted.all in
    let order = ap length c.items.in_order.order in
    let longer = length-append c.items.in_order.inside c.items.in_order.since in
    let few = c.few in
    let others = others_few turns c.others _ _ h.captures.cause c.ends in
    omega (arith, missed, all, order, longer, few, others)

pub rest_few : {P : Type 0} (tells : PortTells P) (turns g : ℕ) (queue : Option QueueId) (taker : Option Taking) (old new : Lane P) (rest : Counts) → LaneRan tells turns g queue taker old new → RestIs queue new rest → total rest ≤ turns
rest_few tells turns g None taker old new rest h is = let e = ap total is in omega (arith, e)
rest_few tells turns g (Some queue) None old new rest h is = absurd h
rest_few tells turns g (Some queue) (Some taker) old new rest h is = let e = ap total is in let few = missed_few tells turns g queue taker old new h in omega (arith, e, few)

-- A group that is not configured has no queue, and missed nothing.
pub quiet_rest : {P : Type 0} (configured : ℕ → Bool) (g : ℕ) (queue : Option QueueId) (taker : Option Taking) (lane : Lane P) (rest : Counts) → IsMet configured g queue taker → RestIs queue lane rest → configured g ≡ false → total rest ≡ 0
quiet_rest configured g None taker lane rest met is none = ap total is
quiet_rest configured g (Some queue) None lane rest met is none = absurd met
quiet_rest configured g (Some queue) (Some taker) lane rest met is none = absurd (true≢false (sym met.known ∙ none))

module _ {P : Type 0} (port_tells : PortTells P) {tells tells_images : Type 0} (turns : ℕ) (queues : List (Option QueueId)) (first last : List (Option Taking)) (old new : List (Lane P)) (before : Before) (opened : Opening → ℕ → Type 0)
    (rates : List (Option Rate)) (room : ℕ) (sizes faults : List ℕ) (marks : List Mark) (began : Began) (w : Watched) (r : RecorderState) (disk : Disk tells tells_images) (now : List ℕ)
    (k : IsKept before opened rates room sizes faults marks w r disk now) (h : HasClosed port_tells turns (λ g. is_configured (limits_in rates g)) queues first last old new began marks)
    (means : tells → (opening : Opening) (t0 : ℕ) → opened opening t0 → StartMeans opening began) (beside : Began → List Mark → Type 0) (besides : beside began marks) where
  failed_by : has_fault marks ≡ true → r.vault.failed ≡ true
  failed_by fault = by (cases_Bool r.vault.failed)
    where
      by : (r.vault.failed ≡ true) ⊎ (r.vault.failed ≡ false) → r.vault.failed ≡ true
      by (inl fails) = fails
      by (inr works) = absurd (true≢false (sym fault ∙ no_fault marks (k.stage.whole works)))

  session_ends : (outcome : Outcome) (opening : Opening) (t0 : ℕ) (rest : ℕ → Counts) (after : RecorderState) (end : Disk tells tells_images) (w' : Watched) → after ≡ r → end ≡ disk → (before.hears → w' ≡ w) → HasSession before opening marks t0 r disk w → (outcome ≡ Done → ⊥) → (has_fault marks ≡ false) ⊎ (outcome ≡ MediaFault)
      → EndsRun before opening marks t0 rest outcome after end w'
  session_ends outcome opening t0 rest after end w' same still untold s never pending =
      subst (λ (x : RecorderState × Disk tells tells_images). EndsRun before opening marks t0 rest outcome x.0 x.1 w') (λ i. (sym same i, sym still i))
      (record { events = events_of opening marks; behind = []; front = sym (append-nil (events_of opening marks)); has = s.has; passes = s.passes; heard = tells_join s.heard (tells_none untold); pending = whole_or pending; records = inl s.made; closed = λ e. absurd (never e) })
    where
      whole_or : (has_fault marks ≡ false) ⊎ (outcome ≡ MediaFault) → IsWhole (events_of opening marks) ⊎ (outcome ≡ MediaFault)
      whole_or (inl none) = inl (whole_along opening [] [] marks (All-nil (λ (e : Event). e.moment ≢ None)) (all_there marks none))
      whole_or (inr fault) = inr fault

  -- The run was not begun.
  pub not_begun_ends : (outcome : Outcome) → (began ≡ Begun → ⊥) → IsToldAs began outcome
      → HasEnded port_tells turns (λ g. is_configured (limits_in rates g)) queues first last old new before opened sizes faults beside outcome r disk now w
  not_begun_ends outcome ne told_as = record {
    marks = marks;
    began = began;
    besides = besides;
    missed_rose = k.missed;
    lanes = h;
    told_as = told_as;
    rest = λ _. none_missed;
    missed = λ e. absurd (ne e);
    quiet = λ _ g. refl;
    works = λ e. absurd (not_done began outcome ne told_as e);
    later = k.later;
    rose = λ e. k.rose (failed_by ((h.refused ne).fails (a_fault began outcome ne told_as e)));
    sizes_are = k.sizes_are;
    elsewhere = k.elsewhere;
    told = λ told opening t0 b. (session_ends outcome opening t0 (λ _. none_missed) r disk w refl refl (λ heard. refl) (k.told told opening t0 b) (not_done began outcome ne told_as) (refused_or_fault began outcome ne told_as (λ either. ((h.refused ne).idle either).1)), means told opening t0 b);
  }

  module _ (is : began ≡ Begun) (rest : ℕ → Counts) (missed : AreMissed queues new rest) (sixteen : length new ≡ 16) (turns_few : turns ≤ most_items) where
    ran : RanLanes port_tells turns (λ g. is_configured (limits_in rates g)) queues last old new marks
    ran = h.ran is

    lane : Lane P
    lane = first_of new (omega (arith, sixteen))

    stage : (r.is_open ≡ true) × HasTaken marks r
    stage = k.stage.open_is ran.begun

    all_few : length (taken_in marks) ≤ 16 * most_items
    all_few =
        let few = items_few rates (taken_in marks ++ ran.lost) k.sixteen (known_popped (λ g. is_configured (limits_in rates g)) queues last ran.met (taken_in marks ++ ran.lost) ran.popped)
        (runs_popped (λ g. is_configured (limits_in rates g)) queues last ran.met (taken_in marks ++ ran.lost) ran.popped) in
        let l = length-append (taken_in marks) ran.lost in
        omega (arith, few, l)

    -- what a stop asks
    pub stop_open : r.is_open ≡ true
    stop_open = stage.0

    pub stop_place : r.maker.place + 17 < 2 ^ 63
    stop_place = let place = stage.1.place in let few = all_few in omega (arith, place, few)

    pub stop_quiet : (g : ℕ) → is_configured (limits_in r.vault.config.groups g) ≡ false → total (rest g) ≡ 0
    stop_quiet g none = ⊎_elim
        (λ (small : g < 16). quiet_rest (λ g. is_configured (limits_in rates g)) g (get_or queues g None) (get_or last g None) (get_or new g lane) (rest g) (ran.met g small) (missed.each g lane small)
        (ap (λ (rs : List (Option Rate)). is_configured (limits_in rs g)) (sym k.rates_are) ∙ none))
        (λ (high : 16 ≤ g). ap total (missed.beyond g high))
        (cases_lt g 16)

    pub stop_numbers : (g : ℕ) → g < 16 → next_number (counted_of r.maker g).pending + total (rest g) < 2 ^ 63
    stop_numbers g small =
        let number = stage.1.numbers g small in
        let runs = runs_popped (λ g. is_configured (limits_in rates g)) queues last ran.met (taken_in marks ++ ran.lost) ran.popped g in
        let few = numbers_small g (taken_in marks ++ ran.lost) runs in
        let parts = numbers_append g (taken_in marks) ran.lost in
        let counts = rest_few port_tells turns g (get_or queues g None) (get_or last g None) (get_or old g lane) (get_or new g lane) (rest g) (ran.lanes g lane small) (missed.each g lane small) in
        omega (arith, number, few, parts, counts, turns_few)

    works_here : r.vault.failed ≡ false → has_fault marks ≡ false
    works_here works = no_fault marks (k.stage.whole works)

    -- What a stop leaves.
    module _ (w' : Watched) (after : RecorderState) (end : Disk tells tells_images) (later : List ℕ) (still : end.sizes ≡ disk.sizes) (elsewhere : tells → SameElsewhere (members_with 0) disk.reads end.reads) (falls : NoneFalls now later)
        (stopped : (opening : Opening) (events : List Event) (t0 : ℕ) → tells → r.vault.failed ≡ false → HasRecorded opening events t0 r disk
        → DoneAndTold before.hears opening events t0 (Commit (closing (state_left opening events).start (recorder_in (state_left opening events)) rest) []) after disk end w w')
        (counted : (start : RunStart) (popped : List Captured) → CountsItems start popped r.maker → CountsItems start popped after.maker) where
      closes : (outcome : Outcome) → (after.vault.failed ≡ false) ⊎ (outcome ≡ MediaFault) → r.vault.failed ≡ false → (opening : Opening) (t0 : ℕ) → tells → HasSession before opening marks t0 r disk w → EndsRun before opening marks t0 rest outcome after end w'
      closes outcome goes works opening t0 told s =
          let run = closes_session before opening marks t0 rest r after disk end w w' s works ran.begun (sym (begun_whole marks (k.stage.whole works)) ∙ ran.begun) (stopped opening (events_of opening marks) t0 told works s.has) in
          let at_ = s.begun works ran.begun in
          let makes = ((s.has.works works).makes stage.0).makes in
          record {
            events = events_of opening marks ++ run.event ∷ [];
            behind = run.event ∷ [];
            front = refl;
            has = run.has;
            passes = run.passes;
            heard = run.heard;
            pending = ⊎_elim (λ (on : after.vault.failed ≡ false). inl ((whole_has_not_failed (events_of opening marks ++ run.event ∷ [])).1 (sym run.has.failed ∙ on))) (λ (e : outcome ≡ MediaFault). inr e) goes;
            records = inr (run.made, ran.begun, works_here works);
            closed = λ _. (run.made, counted (start_of_opening opening) (taken_in marks) (subst (λ (x : RunStart × List Captured). CountsItems x.0 x.1 r.maker) (λ i. (at_.0 i, at_.1 i)) makes.counts));
          }

      ends_as : (outcome : Outcome) → (outcome ≡ Done) ⊎ (outcome ≡ MediaFault) → (outcome ≡ Done → (r.vault.failed ≡ false) × (after.vault.failed ≡ false)) → (outcome ≡ MediaFault → (r.vault.failed ≡ true) ⊎ Rose (sum now) (sum later))
          → (tells → (opening : Opening) (t0 : ℕ) → HasSession before opening marks t0 r disk w → EndsRun before opening marks t0 rest outcome after end w')
          → HasEnded port_tells turns (λ g. is_configured (limits_in rates g)) queues first last old new before opened sizes faults beside outcome after end later w'
      ends_as outcome told_as works cause run = record {
        marks = marks;
        began = began;
        besides = besides;
        missed_rose = (let more = sum_not_less now later falls.same_media falls.none_falls in let had = k.missed in omega (arith, more, had));
        lanes = h;
        told_as = subst (λ (b : Began). IsToldAs b outcome) (sym is) told_as;
        rest = rest;
        missed = λ _. missed;
        quiet = λ ne. absurd (ne is);
        works = λ e. (works_here (works e).0, (works e).1);
        later = none_falls_join faults now later k.later falls;
        rose = λ e. ⊎_elim
            (λ (had : r.vault.failed ≡ true). let more = sum_not_less now later falls.same_media falls.none_falls in let rose = k.rose had in omega (arith, more, rose))
            (λ (rose : Rose (sum now) (sum later)). rose_after (sum faults) (sum now) (sum later) (sum_not_less faults now k.later.same_media k.later.none_falls) rose)
            (cause e);
        sizes_are = still ∙ k.sizes_are;
        elsewhere = λ told n apart. elsewhere told n apart ∙ k.elsewhere told n apart;
        told = λ told opening t0 b. (run told opening t0 (k.told told opening t0 b), means told opening t0 b);
      }

      -- The run was closed.
      pub done_ends : r.vault.failed ≡ false → after.vault.failed ≡ false
          → HasEnded port_tells turns (λ g. is_configured (limits_in rates g)) queues first last old new before opened sizes faults beside Done after end later w'
      done_ends works goes = ends_as Done (inl refl) (λ _. (works, goes)) (λ e. absurd (done_is_no_fault e)) (λ told opening t0 s. closes Done (inl goes) works opening t0 told s)

      -- The media failed, before or in the close.
      pub fault_ends : (r.vault.failed ≡ true → (after ≡ r) × (end ≡ disk)) → (before.hears → w' ≡ w) → (r.vault.failed ≡ true) ⊎ Rose (sum now) (sum later)
          → HasEnded port_tells turns (λ g. is_configured (limits_in rates g)) queues first last old new before opened sizes faults beside MediaFault after end later w'
      fault_ends same untold cause = ends_as MediaFault (inr refl) (λ e. absurd (fault_is_not_done e)) (λ _. cause)
          (λ told opening t0 s. ⊎_elim
          (λ (fails : r.vault.failed ≡ true). session_ends MediaFault opening t0 rest after end w' (same fails).0 (same fails).1 untold s fault_is_not_done (inr refl))
          (λ (works : r.vault.failed ≡ false). closes MediaFault (inr refl) works opening t0 told s)
          (cases_Bool r.vault.failed))
