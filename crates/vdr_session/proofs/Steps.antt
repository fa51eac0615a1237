-- A recorder under the latch after one more mark.
use Rattle.std.proofs.Common.{◌≡◌, ◌≢◌, ◌⊎◌, inl, inr, ◌<◌, ◌≤◌, ◌+◌, ◌*◌, ◌^◌, ◌++◌, ◌&&◌, ◌||◌, ℕ, Bool, true, false, true≢false, List, [], ◌∷◌, Option, None, length, filter, is_some, not, if◌then◌else◌, ⊎_elim, refl, sym, ap, ◌∙◌, subst, arith, append-nil, ◌↔◌}
use Rattle.std.specs.Prelude.{sum}
use Rattle.std.proofs.lemmas.Bool.{cases_Bool, cond-false, cond-true}
use Rattle.std.proofs.lemmas.Grind.{flat_map-append}
use Rattle.std.proofs.lemmas.List.{length-append}
use Rattle.std.proofs.lemmas.List.Elements.{All-nil}
use Rattle.vdr_terms.specs.Counting.{next_number}
use Rattle.vdr_terms.specs.Records.{Record}
use Rattle.vdr_terms.specs.declared.rate.Rate.{Rate}
use Rattle.vdr_core.specs.Histories.{Event, Opening, recorded, records_of_act}
use Rattle.vdr_core.specs.Histories.Act.{Commit, Look as ALook}
use Rattle.vdr_core.specs.Recorder.{begun, recorder_after}
use Rattle.vdr_core.specs.Runs.{RunStart}
use Rattle.vdr_core.specs.RunStates.{RunState, after_act, begin_run, next_start, recorder_in, state_left}
use Rattle.vdr_core.specs.Taken.{Captured}
use Rattle.vdr_core.proofs.Commits.{further_items}
use Rattle.vdr_core.proofs.RecorderHistory.{inside_begins_none}
use Rattle.vdr_config.specs.Configuration.{Configuration}
use Rattle.vdr_durability.specs.Keeping.{ShowsPrefix, moment_of}
use Rattle.vdr_durability.proofs.Whole.{whole_has_not_failed}
use Rattle.vdr_outside.specs.Causes.{NoneFalls, Rose}
use Rattle.vdr_outside.specs.Disk.{Disk, Image, content}
use Rattle.vdr_outside.proofs.Counts.{none_fell, none_falls_join, rose_after, sum_not_less}
use Rattle.vdr_opening.specs.Media.{members_with}
use Rattle.vdr_vault.specs.Calls.{SameElsewhere}
use Rattle.vdr_vault.specs.Vaults.{AreRings, ShowsHistory}
use Rattle.vdr_run.specs.Making.{counted_of}
use Rattle.vdr_recorder.specs.Making.{MakesBy, numbers_of}
use Rattle.vdr_recorder.specs.Recordings.{HasDone, HasRecorded, Passes, RecorderState, start_of_opening}
use Rattle.vdr_recorder.specs.Watched.{DoneAndTold, IsWatched, Tells, Watched}
use Rattle.vdr_recorder.specs.Watched.{PlainTurn as turns}
use Rattle.vdr_recorder.proofs.Telling.{done_told, tells_join, tells_none}
use Rattle.vdr_recorder.proofs.Answering.{same_disk}
use Rattle.vdr_recorder.proofs.Continuing.{has_moment, left_with}
use Rattle.vdr_recorder.proofs.Looking.{look_done}
use Rattle.vdr_recorder.proofs.Batches.{numbers_append}
use Rattle.vdr_session.specs.declared.mark.Did.{Did}
use Rattle.vdr_session.specs.declared.mark.Did.TheVariants.{Begin, Take, Look}
use Rattle.vdr_session.specs.declared.mark.Mark.{Mark}
use Rattle.vdr_session.specs.Events.{act_of, added_records, event_of, events_of, is_started, run_records}
use Rattle.vdr_session.specs.Marks.{begins, is_begun, is_leading, misses, taken_by, taken_in}
use Rattle.vdr_session.specs.Origins.{RoseBy, failures_in, origins_of}
use Rattle.vdr_session.specs.Standing.{Before, HasSession, HasTaken, IsAt, IsFresh, IsKept, IsTaking, MayStart, PassesSince, batch_mark, start_mark}
use Rattle.vdr_session.proofs.Faults.{none_leads}
use Rattle.vdr_session.proofs.Marked.{taken_more}
use Rattle.vdr_session.proofs.Origins.{failures_once, failures_same, none_failed}
use Rattle.vdr_session.proofs.Told.{events_more}
use Rattle.vdr_session.proofs.MarkLemmas.{added, all_more, begin_told, begun_none, begun_whole, front_shown, look_told, no_moment, started_more, started_same, taken_same_by}

abbrev Possible : Before → Opening → List Event → Image → Type 0
Possible before opening es i = before.now i ⊎ ShowsPrefix (ShowsHistory opening) es 0 i

module _ {tells tells_images : Type 0} (before : Before) (opening : Opening) where
  -- what held of a stop since the session began holds after one more event
  pub passes_more : (events : List Event) (e : Event) (old new : Disk tells tells_images) → PassesSince before opening events old → Passes opening (events ++ e ∷ []) old new
      → PassesSince before opening (events ++ e ∷ []) new
  passes_more events e old new p q = record {
    later = omega (arith, p.later, q.later);
    each = λ i since. ⊎_elim (λ (was : old.since before.clock i). weaker i (p.each i was)) (in_call i) (q.before before.clock i p.later since);
    earlier = λ t i early since. ⊎_elim
        (λ (was : old.since t i). ⊎_elim (λ (h : before.since t i). inl h) (λ (h : Possible before opening events i). inr (weaker i h)) (p.earlier t i early was))
        (λ h. inr (in_call i h))
        (q.before t i (omega (arith, early, p.later)) since);
    past = λ t i early.
        let q_past = q.past t i (omega (arith, early, p.later)) in
        let p_past = p.past t i early in
        ((λ left. p_past.0 (q_past.0 left)), (λ left. q_past.1 (p_past.1 left)));
  }
    where
      weaker : (i : Image) → Possible before opening events i → Possible before opening (events ++ e ∷ []) i
      weaker i h = ⊎_elim (λ (was : before.now i). inl was) (λ (shown : ShowsPrefix (ShowsHistory opening) events 0 i). inr (front_shown events (e ∷ []) 0 i shown)) h

      in_call : (i : Image) → (old.now i ⊎ ShowsPrefix (ShowsHistory opening) (events ++ e ∷ []) 0 i) → Possible before opening (events ++ e ∷ []) i
      in_call i h = ⊎_elim (λ (now : old.now i). weaker i (p.each i (old.counts_now before.clock i p.later now))) (λ (shown : ShowsPrefix (ShowsHistory opening) (events ++ e ∷ []) 0 i). inr shown) h

  module _ (marks : List Mark) (t0 : ℕ) (r : RecorderState) (old : Disk tells tells_images) (w w' : Watched) (s : HasSession before opening marks t0 r old w) (m : Mark) (after : RecorderState) (new : Disk tells tells_images)
      (done : DoneAndTold before.hears opening (events_of opening marks) t0 (act_of opening (taken_in marks) (events_of opening marks) m.did) after old new w w') (moment_is : m.moment ≡ moment_of after.vault.failed new.clock)
      (lasts : after.vault.failed ≡ false → r.vault.failed ≡ false) where
    abbrev events : List Event
    events = events_of opening marks

    abbrev d : HasDone opening (events_of opening marks) t0 (act_of opening (taken_in marks) (events_of opening marks) m.did) after old new
    d = done.done

    abbrev own : Event
    own = event_of opening (taken_in marks) events m

    own_is : d.event ≡ own
    own_is = λ i. record { act = d.act_is i; moment = (d.moment_is ∙ sym moment_is) i }

    events_are : events ++ d.event ∷ [] ≡ events_of opening (marks ++ m ∷ [])
    events_are = ap (λ (e : Event). events ++ e ∷ []) own_is ∙ sym (events_more opening marks m)

    has_more : HasRecorded opening (events_of opening (marks ++ m ∷ [])) t0 after new
    has_more = subst (λ (es : List Event). HasRecorded opening es t0 after new) events_are d.has

    heard_more : Tells before.hears opening [] (events_of opening (marks ++ m ∷ [])) before.heard w'
    heard_more = subst (λ (es : List Event). Tells before.hears opening [] es before.heard w') events_are (tells_join s.heard done.told)

    since_more : PassesSince before opening (events_of opening (marks ++ m ∷ [])) new
    since_more = subst (λ (es : List Event). PassesSince before opening es new) events_are (passes_more events d.event old new s.passes d.passes)

    recorded_more : recorded (events_of opening (marks ++ m ∷ [])) ≡ run_records opening marks ++ records_of_act (act_of opening (taken_in marks) events m.did)
    recorded_more =
        ap recorded (events_more opening marks m)
        ∙ flat_map-append (λ (e : Event). records_of_act e.act) events (own ∷ [])
        ∙ (λ i. s.made i ++ append-nil (records_of_act own.act) i)

    left_more : after.vault.failed ≡ false → state_left opening (events_of opening (marks ++ m ∷ [])) ≡ after_act (state_left opening events) (act_of opening (taken_in marks) events m.did)
    left_more goes =
        ap (state_left opening) (events_more opening marks m)
        ∙ left_with opening events own ((whole_has_not_failed events).1 (sym s.has.failed ∙ lasts goes)) (has_moment after.vault.failed new.clock m.moment moment_is goes)

    -- the mark begins nothing, takes nothing and records nothing
    pub still_session : begins m.did ≡ false → taken_by m.did ≡ [] → records_of_act (act_of opening (taken_in marks) events m.did) ≡ []
        → ((t : RunState) → after_act t (act_of opening (taken_in marks) events m.did) ≡ t) → HasSession before opening (marks ++ m ∷ []) t0 after new w'
    still_session begins_none takes_none records_none leaves = record {
      has = has_more;
      made = recorded_more
          ∙ ap (λ (rs : List Record). run_records opening marks ++ rs) records_none
          ∙ append-nil (run_records opening marks)
          ∙ (λ i. if (sym (started_same marks m begins_none) i) then (recorder_after (start_of_opening opening) (sym (taken_same_by marks m takes_none) i)).made else []);
      begun = λ goes is.
          let left = left_more goes ∙ leaves (state_left opening events) in
          let was = s.begun (lasts goes) (sym (begun_none marks m (ap (λ (b : Bool). b && is_some m.moment) begins_none)) ∙ is) in
          (ap (λ (t : RunState). t.start) left ∙ was.0, ap (λ (t : RunState). t.popped) left ∙ was.1 ∙ sym (taken_same_by marks m takes_none));
      next = λ goes idle. ap next_start (left_more goes ∙ leaves (state_left opening events)) ∙ s.next (lasts goes) (sym (started_same marks m begins_none) ∙ idle);
      passes = since_more;
      heard = heard_more;
    }

    -- the mark began the run
    pub begun_session : m.did ≡ Begin → r.vault.failed ≡ false → is_started marks ≡ false → taken_in marks ≡ [] → HasSession before opening (marks ++ m ∷ []) t0 after new w'
    begun_session did_is works idle none =
        let act_is : act_of opening (taken_in marks) events m.did ≡ Commit (begun (start_of_opening opening)).made [] = ap (act_of opening (taken_in marks) events) did_is in
        let begins_is : begins m.did ≡ true = ap begins did_is in
        let takes_none : taken_by m.did ≡ [] = ap taken_by did_is in
        let taken : taken_in (marks ++ m ∷ []) ≡ [] = taken_same_by marks m takes_none ∙ none in
        let started : is_started (marks ++ m ∷ []) ≡ true = started_more marks m ∙ (λ i. idle i || begins_is i) in
        record {
          has = has_more;
          made = recorded_more
              ∙ (λ i. (if idle i then (recorder_after (start_of_opening opening) (taken_in marks)).made else []) ++ records_of_act (act_is i))
              ∙ (λ i. if (sym started i) then (recorder_after (start_of_opening opening) (sym taken i)).made else []);
          begun = λ goes is.
              let left = left_more goes ∙ ap (after_act (state_left opening events)) act_is in
              (ap (λ (t : RunState). t.start) left ∙ s.next works idle, ap (λ (t : RunState). t.popped) left ∙ sym taken);
          next = λ goes none_started. absurd (true≢false (sym started ∙ none_started));
          passes = since_more;
          heard = heard_more;
        }

    -- the mark took items
    pub taken_session : (items : List Captured) → m.did ≡ Take items → is_started marks ≡ true
        → (recorder_after (start_of_opening opening) (taken_in marks ++ items)).made ≡ (recorder_after (start_of_opening opening) (taken_in marks)).made ++ added_records (start_of_opening opening) (taken_in marks) items
        → (after.vault.failed ≡ false → is_begun marks ≡ true) → HasSession before opening (marks ++ m ∷ []) t0 after new w'
    taken_session items did_is started made was_begun =
        let act_is : act_of opening (taken_in marks) events m.did ≡ Commit (added_records (start_of_opening opening) (taken_in marks) items) items = ap (act_of opening (taken_in marks) events) did_is in
        let begins_none : begins m.did ≡ false = ap begins did_is in
        let taken : taken_in (marks ++ m ∷ []) ≡ taken_in marks ++ items = taken_more marks m ∙ ap (λ (did : Did). taken_in marks ++ taken_by did) did_is in
        let still : is_started (marks ++ m ∷ []) ≡ true = started_same marks m begins_none ∙ started in
        let none_begins : begin_run (added_records (start_of_opening opening) (taken_in marks) items) ≡ false =
        inside_begins_none (added_records (start_of_opening opening) (taken_in marks) items) (further_items (start_of_opening opening) (taken_in marks) items (added_records (start_of_opening opening) (taken_in marks) items) made).1 in
        record {
          has = has_more;
          made = recorded_more
              ∙ (λ i. (if started i then (recorder_after (start_of_opening opening) (taken_in marks)).made else []) ++ records_of_act (act_is i))
              ∙ sym made
              ∙ (λ i. if (sym still i) then (recorder_after (start_of_opening opening) (sym taken i)).made else []);
          begun = λ goes is.
              let left = left_more goes ∙ ap (after_act (state_left opening events)) act_is in
              let was = s.begun (lasts goes) (was_begun goes) in (
                ap (λ (t : RunState). t.start) left
                    ∙ cond-false (begin_run (added_records (start_of_opening opening) (taken_in marks) items)) (next_start (state_left opening events)) (state_left opening events).start none_begins
                    ∙ was.0,
                ap (λ (t : RunState). t.popped) left
                    ∙ cond-false (begin_run (added_records (start_of_opening opening) (taken_in marks) items)) items ((state_left opening events).popped ++ items) none_begins
                    ∙ ap (λ (xs : List Captured). xs ++ items) was.1
                    ∙ sym taken,
              );
          next = λ goes none_started. absurd (true≢false (sym still ∙ none_started));
          passes = since_more;
          heard = heard_more;
        }

-- A look was told, whatever was recorded before it.
abbrev pub LooksTold : {tells tells_images : Type 0} → (hears : Type 0) → RecorderState → Disk tells tells_images → (was now : Watched) → Type 0
LooksTold hears r disk was now = (opening : Opening) (events : List Event) (t0 : ℕ) → HasRecorded opening events t0 r disk → DoneAndTold hears opening events t0 ALook r disk disk was now

-- One behind a fault is not told.
pub untold_look : {tells tells_images hears : Type 0} (r : RecorderState) (disk : Disk tells tells_images) (was now : Watched) → r.vault.failed ≡ true → (hears → now ≡ was) → LooksTold hears r disk was now
untold_look r disk was now fails untold opening events t0 h =
    done_told opening events t0 ALook r disk disk (look_done opening events t0 r disk disk h r.vault (same_disk disk) refl refl refl refl refl refl (λ placed stands. stands)) turns.Look was now false (ap not fails) (λ works. refl) untold

-- What a call leaves at home.
pub record StaysHome {tells tells_images : Type 0} (r : RecorderState) (old : Disk tells tells_images) (was : List ℕ) (after : RecorderState) (new : Disk tells tells_images) (now : List ℕ) : Type 0 where
  pub config : after.vault.config ≡ r.vault.config
  pub rings : AreRings after.vault new.sizes
  pub sizes : new.sizes ≡ old.sizes
  pub later : NoneFalls was now
  pub rose : after.vault.failed ≡ true → (r.vault.failed ≡ true) ⊎ Rose (sum was) (sum now)
  pub elsewhere : tells → SameElsewhere (members_with 0) old.reads new.reads

module _ {tells tells_images : Type 0} (before : Before) (began : Opening → ℕ → Type 0) (rates : List (Option Rate)) (room : ℕ) (sizes faults : List ℕ) (marks : List Mark) (w : Watched) (r : RecorderState)
    (old : Disk tells tells_images) (was : List ℕ) (k : IsKept before began rates room sizes faults marks w r old was) where
  -- with what holds at home, the rest is the stage and the history
  pub kept_by : (m : Mark) (w' : Watched) (after : RecorderState) (new : Disk tells tells_images) (now : List ℕ) → IsWatched before.hears w' after new → StaysHome r old was after new now → (misses m.did ≡ true → Rose (sum was) (sum now)) → IsAt (marks ++ m ∷ []) after
      → (tells → (opening : Opening) (t0 : ℕ) → began opening t0 → HasSession before opening (marks ++ m ∷ []) t0 after new w') → IsKept before began rates room sizes faults (marks ++ m ∷ []) w' after new now
  kept_by m w' after new now watched home fell stage told = record {
    rates_are = ap (λ (c : Configuration). c.groups) home.config ∙ k.rates_are;
    sixteen = k.sixteen;
    room_is = ap (λ (c : Configuration). c.batch) home.config ∙ k.room_is;
    rings = home.rings;
    sizes_are = home.sizes ∙ k.sizes_are;
    elsewhere = λ told n apart. home.elsewhere told n apart ∙ k.elsewhere told n apart;
    later = none_falls_join faults was now k.later home.later;
    rose = λ fails. ⊎_elim
        (λ (had : r.vault.failed ≡ true). let more = sum_not_less was now home.later.same_media home.later.none_falls in let rose = k.rose had in omega (arith, more, rose))
        (λ (rose : Rose (sum was) (sum now)). rose_after (sum faults) (sum was) (sum now) (sum_not_less faults was k.later.same_media k.later.none_falls) rose)
        (home.rose fails);
    stage = stage;
    channels_are = ap (λ (c : Configuration). c.channels) home.config ∙ k.channels_are;
    missed = missed_by (cases_Bool (misses m.did));
    told = told;
    watched = watched;
  }
    where
      missed_by : (misses m.did ≡ true) ⊎ (misses m.did ≡ false) → RoseBy (failures_in (origins_of (marks ++ m ∷ []))) (sum faults) (sum now)
      missed_by (inl is) = let one = failures_once marks m is in let rose = fell is in let had = k.missed in omega (arith, one, rose, had)
      missed_by (inr none) =
          let same = failures_same marks m none in
          let more = sum_not_less was now home.later.same_media home.later.none_falls in
          let had = k.missed in
          omega (arith, same, more, had)

  home_same : StaysHome r old was r old was
  home_same = record { config = refl; rings = k.rings; sizes = refl; later = none_fell was; rose = λ fails. inl fails; elsewhere = λ told n apart. refl }

  abbrev look_mark : Mark
  look_mark = record { did = Look; moment = moment_of r.vault.failed old.clock; desk = None }

  -- a call that touched nothing
  pub look_kept : (w' : Watched) → IsWatched before.hears w' r old → LooksTold before.hears r old w w' → IsKept before began rates room sizes faults (marks ++ look_mark ∷ []) w' r old was
  look_kept w' watched looked = kept_by look_mark w' r old was watched home_same (λ e. absurd (true≢false (sym e)))
      (record {
        open_is = λ is. let o = k.stage.open_is (sym (begun_none marks look_mark refl) ∙ is) in (
          o.0,
          record {
            makes = (o.1.makes.0, subst (λ (xs : List Captured). MakesBy r.vault.config o.1.makes.0 xs r.maker) (sym (taken_same_by marks look_mark refl)) o.1.makes.1);
            place = subst (λ (xs : List Captured). r.maker.place ≤ 2 ^ 62 + 2 * length xs) (sym (taken_same_by marks look_mark refl)) o.1.place;
            numbers = subst (λ (xs : List Captured). (g : ℕ) → g < 16 → next_number (counted_of r.maker g).pending ≤ numbers_of g xs) (sym (taken_same_by marks look_mark refl)) o.1.numbers;
          },
        );
        idle = λ is. let o = k.stage.idle (sym (started_same marks look_mark refl) ∙ is) in (o.0, taken_same_by marks look_mark refl ∙ o.1);
        ready = λ is. k.stage.ready (sym (started_same marks look_mark refl) ∙ is);
        whole = λ goes. all_more marks look_mark (k.stage.whole goes) (has_moment r.vault.failed old.clock look_mark.moment refl goes);
      })
      (λ told opening t0 b.
      let s = k.told told opening t0 b in
      still_session before opening marks t0 r old w w' s look_mark r old
      (looked opening (events_of opening marks) t0 s.has)
      refl (λ goes. goes) refl refl refl (λ t. refl))

  -- a start and a batch that touched nothing
  pub start_look_kept : r.is_open ≡ false → (w' : Watched) (after : RecorderState) (new : Disk tells tells_images) (now : List ℕ) → after ≡ r → new ≡ old → now ≡ was
      → IsWatched before.hears w' after new → LooksTold before.hears after new w w' → IsKept before began rates room sizes faults (marks ++ start_mark r after new.clock ∷ []) w' after new now
  start_look_kept closed w' after new now same same_disk_ same_now =
      subst (λ (x : RecorderState × Disk tells tells_images × List ℕ). IsWatched before.hears w' x.0 x.1 → LooksTold before.hears x.0 x.1 w w'
      → IsKept before began rates room sizes faults (marks ++ start_mark r x.0 x.1.clock ∷ []) w' x.0 x.1 x.2)
      (λ i. (sym same i, sym same_disk_ i, sym same_now i))
      (λ watched looked. subst (λ (did : Did). IsKept before began rates room sizes faults (marks ++ record { did = did; moment = moment_of r.vault.failed old.clock; desk = None } ∷ []) w' r old was)
      (sym (look_told r closed (cases_Bool r.vault.failed))) (look_kept w' watched looked))

  pub batch_look_kept : (items : List Captured) → r.vault.failed ≡ true → (w' : Watched) (after : RecorderState) (new : Disk tells tells_images) (now : List ℕ) → after ≡ r → new ≡ old → now ≡ was
      → IsWatched before.hears w' after new → LooksTold before.hears after new w w' → IsKept before began rates room sizes faults (marks ++ batch_mark r.vault.failed items after.vault.failed new.clock ∷ []) w' after new now
  batch_look_kept items fails w' after new now same same_disk_ same_now =
      subst (λ (x : RecorderState × Disk tells tells_images × List ℕ). IsWatched before.hears w' x.0 x.1 → LooksTold before.hears x.0 x.1 w w'
      → IsKept before began rates room sizes faults (marks ++ batch_mark r.vault.failed items x.0.vault.failed x.1.clock ∷ []) w' x.0 x.1 x.2)
      (λ i. (sym same i, sym same_disk_ i, sym same_now i))
      (λ watched looked. subst (λ (did : Did). IsKept before began rates room sizes faults (marks ++ record { did = did; moment = moment_of r.vault.failed old.clock; desk = None } ∷ []) w' r old was)
      (sym (cond-true r.vault.failed Look (Take items) fails)) (look_kept w' watched looked))

  -- no run was begun where none is open
  pub none_started : r.is_open ≡ false → r.vault.failed ≡ false → (is_begun marks ≡ false) × (is_started marks ≡ false)
  none_started closed works = let none : is_begun marks ≡ false = none_begun_yet (cases_Bool (is_begun marks)) in (none, sym (begun_whole marks (k.stage.whole works)) ∙ none)
    where
      none_begun_yet : (is_begun marks ≡ true) ⊎ (is_begun marks ≡ false) → is_begun marks ≡ false
      none_begun_yet (inl is) = absurd (true≢false (sym (k.stage.open_is is).0 ∙ closed))
      none_begun_yet (inr none) = none

  -- a run is started where one is open
  pub is_on : r.is_open ≡ true → is_started marks ≡ true
  is_on opened = on (cases_Bool (is_started marks))
    where
      on : (is_started marks ≡ true) ⊎ (is_started marks ≡ false) → is_started marks ≡ true
      on (inl is) = is
      on (inr none) = absurd (true≢false (sym opened ∙ (k.stage.idle none).0))

  module _ (w' : Watched) (after : RecorderState) (new : Disk tells tells_images) (now : List ℕ) (watched : IsWatched before.hears w' after new) (home : StaysHome r old was after new now) (works : r.vault.failed ≡ false) where
    abbrev begin_mark : Mark
    begin_mark = record { did = Begin; moment = moment_of after.vault.failed new.clock; desk = None }

    -- a start that called the media
    pub begin_kept : r.is_open ≡ false
        → (after.vault.failed ≡ false → (after.is_open ≡ true) × (after.maker.place ≤ 2 ^ 62) × ((g : ℕ) → g < 16 → next_number (counted_of after.maker g).pending ≡ 0)
        × ((start : RunStart) × MakesBy after.vault.config start [] after.maker))
        → ((opening : Opening) (events : List Event) (t0 : ℕ) → tells → HasRecorded opening events t0 r old → DoneAndTold before.hears opening events t0 (Commit (begun (next_start (state_left opening events))).made []) after old new w w')
        → IsKept before began rates room sizes faults (marks ++ begin_mark ∷ []) w' after new now
    begin_kept closed opens done =
        let none = none_started closed works in
        let idle = k.stage.idle none.1 in
        let started : is_started (marks ++ begin_mark ∷ []) ≡ true = started_more marks begin_mark ∙ ap (λ (b : Bool). b || true) none.1 in
        kept_by begin_mark w' after new now watched home (λ e. absurd (true≢false (sym e)))
        (record {
          open_is = λ is. opened (none.0) idle.1 is (cases_Bool after.vault.failed);
          idle = λ is. absurd (true≢false (sym started ∙ is));
          ready = λ is. absurd (true≢false (sym started ∙ is));
          whole = λ goes. all_more marks begin_mark (k.stage.whole works) (has_moment after.vault.failed new.clock begin_mark.moment refl goes);
        })
        (λ told opening t0 b.
        let s = k.told told opening t0 b in
        begun_session before opening marks t0 r old w w' s begin_mark after new
        (subst (λ (start : RunStart). DoneAndTold before.hears opening (events_of opening marks) t0 (Commit (begun start).made []) after old new w w') (s.next works none.1) (done opening (events_of opening marks) t0 told s.has))
        refl (λ goes. works) refl works none.1 idle.1)
      where
        opened : is_begun marks ≡ false → taken_in marks ≡ [] → is_begun (marks ++ begin_mark ∷ []) ≡ true → (after.vault.failed ≡ true) ⊎ (after.vault.failed ≡ false) → (after.is_open ≡ true) × HasTaken (marks ++ begin_mark ∷ []) after
        opened none idle is (inl fails) = absurd (true≢false (sym is ∙ begun_none marks begin_mark (no_moment after.vault.failed new.clock fails) ∙ none))
        opened none idle is (inr goes) = let o = opens goes in (
          o.0,
          record {
            makes = (o.3.0, subst (λ (xs : List Captured). MakesBy after.vault.config o.3.0 xs after.maker) (sym (taken_same_by marks begin_mark refl ∙ idle)) o.3.1);
            place = (let p = o.1 in omega (arith, p));
            numbers = λ g small. let n = o.2 g small in omega (arith, n);
          },
        )

    pub start_kept : r.is_open ≡ false → (after.is_open ≡ true) ⊎ (after.vault.failed ≡ true)
        → (after.vault.failed ≡ false → (after.is_open ≡ true) × (after.maker.place ≤ 2 ^ 62) × ((g : ℕ) → g < 16 → next_number (counted_of after.maker g).pending ≡ 0)
        × ((start : RunStart) × MakesBy after.vault.config start [] after.maker))
        → ((opening : Opening) (events : List Event) (t0 : ℕ) → tells → HasRecorded opening events t0 r old → DoneAndTold before.hears opening events t0 (Commit (begun (next_start (state_left opening events))).made []) after old new w w')
        → IsKept before began rates room sizes faults (marks ++ start_mark r after new.clock ∷ []) w' after new now
    start_kept closed how opens done =
        subst (λ (did : Did). IsKept before began rates room sizes faults (marks ++ record { did = did; moment = moment_of after.vault.failed new.clock; desk = None } ∷ []) w' after new now)
        (sym (begin_told r after works how)) (begin_kept closed opens done)

    module _ (items : List Captured) where
      abbrev take_mark : Mark
      take_mark = record { did = Take items; moment = moment_of after.vault.failed new.clock; desk = None }

      -- a batch that called the media
      pub take_kept : r.is_open ≡ true → after.is_open ≡ true
          → ((start : RunStart) (popped : List Captured) → MakesBy r.vault.config start popped r.maker → MakesBy after.vault.config start (popped ++ items) after.maker)
          → after.maker.place ≤ r.maker.place + 2 * length items
          → ((g : ℕ) → g < 16 → next_number (counted_of after.maker g).pending ≤ next_number (counted_of r.maker g).pending + numbers_of g items)
          → ((opening : Opening) (events : List Event) (t0 : ℕ) → tells → HasRecorded opening events t0 r old
          → (records : List Record)
          × ((recorder_after (state_left opening events).start ((state_left opening events).popped ++ items)).made ≡ (recorder_in (state_left opening events)).made ++ records)
          × DoneAndTold before.hears opening events t0 (Commit records items) after old new w w')
          → IsKept before began rates room sizes faults (marks ++ take_mark ∷ []) w' after new now
      take_kept open_was open_is makes place numbers done =
          let started : is_started marks ≡ true = is_on open_was in
          let is_begun_now : is_begun marks ≡ true = begun_whole marks (k.stage.whole works) ∙ started in
          let few = (k.stage.open_is is_begun_now).1 in
          let taken : taken_in (marks ++ take_mark ∷ []) ≡ taken_in marks ++ items = taken_more marks take_mark in
          kept_by take_mark w' after new now watched home (λ e. absurd (true≢false (sym e)))
          (record {
            open_is = λ is. (
              open_is,
              record {
                makes = (few.makes.0, subst (λ (xs : List Captured). MakesBy after.vault.config few.makes.0 xs after.maker) (sym taken) (makes few.makes.0 (taken_in marks) few.makes.1));
                place = (let l = ap length taken in let m = length-append (taken_in marks) items in let p = few.place in omega (arith, l, m, p, place));
                numbers = λ g small. let n = numbers g small in let o = few.numbers g small in let e = ap (numbers_of g) taken in let a = numbers_append g (taken_in marks) items in omega (arith, n, o, e, a);
              },
            );
            idle = λ is. absurd (true≢false (sym (started_same marks take_mark refl ∙ started) ∙ is));
            ready = λ is. absurd (true≢false (sym (started_same marks take_mark refl ∙ started) ∙ is));
            whole = λ goes. all_more marks take_mark (k.stage.whole works) (has_moment after.vault.failed new.clock take_mark.moment refl goes);
          })
          (λ told opening t0 b.
          let s = k.told told opening t0 b in
          let at_ = s.begun works is_begun_now in
          let d = done opening (events_of opening marks) t0 told s.has in
          let made : (recorder_after (start_of_opening opening) (taken_in marks ++ items)).made ≡ (recorder_after (start_of_opening opening) (taken_in marks)).made ++ d.0 =
          subst (λ (x : RunStart × List Captured). (recorder_after x.0 (x.1 ++ items)).made ≡ (recorder_after x.0 x.1).made ++ d.0) (λ i. (at_.0 i, at_.1 i)) d.1 in
          let same : added_records (start_of_opening opening) (taken_in marks) items ≡ d.0 = added (start_of_opening opening) (taken_in marks) items d.0 made in
          taken_session before opening marks t0 r old w w' s take_mark after new
          (subst (λ (rs : List Record). DoneAndTold before.hears opening (events_of opening marks) t0 (Commit rs items) after old new w w') (sym same) d.2)
          refl (λ goes. works) items refl started
          (made ∙ ap (λ (rs : List Record). (recorder_after (start_of_opening opening) (taken_in marks)).made ++ rs) (sym same))
          (λ goes. is_begun_now))

      pub batch_kept : r.is_open ≡ true → after.is_open ≡ true
          → ((start : RunStart) (popped : List Captured) → MakesBy r.vault.config start popped r.maker → MakesBy after.vault.config start (popped ++ items) after.maker)
          → after.maker.place ≤ r.maker.place + 2 * length items
          → ((g : ℕ) → g < 16 → next_number (counted_of after.maker g).pending ≤ next_number (counted_of r.maker g).pending + numbers_of g items)
          → ((opening : Opening) (events : List Event) (t0 : ℕ) → tells → HasRecorded opening events t0 r old
          → (records : List Record)
          × ((recorder_after (state_left opening events).start ((state_left opening events).popped ++ items)).made ≡ (recorder_in (state_left opening events)).made ++ records)
          × DoneAndTold before.hears opening events t0 (Commit records items) after old new w w')
          → IsKept before began rates room sizes faults (marks ++ batch_mark r.vault.failed items after.vault.failed new.clock ∷ []) w' after new now
      batch_kept open_was open_is makes place numbers done =
          subst (λ (did : Did). IsKept before began rates room sizes faults (marks ++ record { did = did; moment = moment_of after.vault.failed new.clock; desk = None } ∷ []) w' after new now)
          (sym (cond-false r.vault.failed Look (Take items) works)) (take_kept open_was open_is makes place numbers done)

module _ {tells tells_images : Type 0} (before : Before) (began : Opening → ℕ → Type 0) (rates : List (Option Rate)) (room : ℕ) (sizes faults : List ℕ) where
  pub fresh_kept : (marks : List Mark) (w : Watched) (r : RecorderState) (disk : Disk tells tells_images) (now : List ℕ) → IsKept before began rates room sizes faults marks w r disk now → filter is_leading marks ≡ []
      → IsFresh before.hears w r disk
  fresh_kept marks w r disk now k e = record { watched = k.watched; rings = k.rings; closed = (k.stage.idle (none_leads is_leading (λ m. refl) marks e)).0 }

  pub taking_kept : (marks : List Mark) (w : Watched) (r : RecorderState) (disk : Disk tells tells_images) (now : List ℕ) → IsKept before began rates room sizes faults marks w r disk now → is_begun marks ≡ true
      → IsTaking rates room (taken_in marks) before.hears w r disk
  taking_kept marks w r disk now k is =
      let o = k.stage.open_is is in
      record { watched = k.watched; rings = k.rings; open_is = o.0; rates_are = k.rates_are; sixteen = k.sixteen; room_is = k.room_is; makes = o.1.makes; place = o.1.place; numbers = o.1.numbers }

  -- before any turn
  pub first_kept : (r : RecorderState) (disk : Disk tells tells_images) (now : List ℕ) → (r.vault.config.groups ≡ rates) × (r.vault.config.batch ≡ room) × (length rates ≡ 16)
      → r.vault.config.channels ≡ before.channels → AreRings r.vault disk.sizes → (r.is_open ≡ false) × (r.vault.failed ≡ false) → MayStart r.vault → disk.sizes ≡ sizes → now ≡ faults
      → (before.clock ≡ disk.clock) × ((i : Image) → disk.now i → before.now i) × ((t : ℕ) (i : Image) → disk.since t i → before.since t i) × (disk.reads ≡ before.reads) × ((t : ℕ) (i : Image) → disk.until t i ↔ before.until t i)
      → ((opening : Opening) (t0 : ℕ) → began opening t0 → HasRecorded opening [] t0 r disk) → IsWatched before.hears before.heard r disk → IsKept before began rates room sizes faults [] before.heard r disk now
  first_kept r disk now config channels rings new may sizes_are faults_are was has watched = record {
    watched = watched;
    rates_are = config.0;
    sixteen = config.2;
    room_is = config.1;
    rings = rings;
    sizes_are = sizes_are;
    elsewhere = λ told n apart. ap (λ (image : Image). content image n) was.3;
    later = subst (λ (fs : List ℕ). NoneFalls fs now) faults_are (none_fell now);
    rose = λ fails. absurd (true≢false (sym fails ∙ new.1));
    channels_are = channels;
    missed = (let none = none_failed in let same = ap sum faults_are in omega (arith, none, same));
    stage = record { open_is = λ is. absurd (true≢false (sym is)); idle = λ is. (new.0, refl); whole = λ goes. All-nil (λ (m : Mark). m.moment ≢ None); ready = λ is. may };
    told = λ told opening t0 b. record {
      has = has opening t0 b;
      made = refl;
      begun = λ goes is. absurd (true≢false (sym is));
      next = λ goes idle. refl;
      passes = record {
        later = (let c = was.0 in omega (arith, c));
        each = λ i since. inl (was.1 i (disk.only_now i (subst (λ (t : ℕ). disk.since t i) was.0 since)));
        earlier = λ t i early since. inl (was.2 t i since);
        past = λ t i early. was.4 t i;
      };
      heard = tells_none (λ heard. refl);
    };
  }
