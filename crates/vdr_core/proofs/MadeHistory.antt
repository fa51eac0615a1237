-- The records of a recorder's history run on from the opening.
use Rattle.std.proofs.Common.{◌≡◌, ◌≤◌, ◌⊎◌, ◌+◌, ℕ, List, [], ◌∷◌, ◌++◌, length, flat_map, true, false, cond, refl, sym, ap, ◌∙◌, subst, arith, ⊎_elim, length-append, true≢false}
use Rattle.std.proofs.lemmas.Bool.{cond-true, cond-false, cond_both}
use Rattle.vdr_terms.specs.Records.{Record}
use Rattle.vdr_terms.specs.Records.Content.{Start}
use Rattle.vdr_terms.specs.Channels.{Channels, bits_of}
use Rattle.vdr_terms.specs.Order.{NeverFalls}
use Rattle.vdr_core.specs.Runs.{RunStart, last_tick}
use Rattle.vdr_core.specs.Taken.{Captured}
use Rattle.vdr_core.specs.Histories.{Act, Continues, records_of_act}
use Rattle.vdr_core.specs.Histories.Act.{Commit, Save, Release, Look}
use Rattle.vdr_core.specs.Recorder.{begun, next_in, tick_of, recorder_after, gaps_below, stop_of, closing}
use Rattle.vdr_core.specs.RunStates.{RunState, begin_run, end_run, next_start, after_commit, between_runs, recorder_in, GoesOnWith, BeginsWith, ClosesWith, AreMadeFrom}
use Rattle.vdr_core.specs.Commits.{ComeNext, MadeHistoriesRunOn}
use Rattle.vdr_core.proofs.Places.{continues_append}
use Rattle.vdr_core.proofs.Ticking.{lower}
use Rattle.vdr_core.proofs.Commits.{further_items, further_stamp, closes}
use Rattle.vdr_core.proofs.HistoryRecords.{base_is_later, falls_append}
use Rattle.vdr_core.proofs.RecorderHistory.{inside_begins_none, ends_with}

-- a run of this start, of which these items were popped, goes on from this place and tick
record RunsOnFrom (s : RunState) (start : RunStart) (popped : List Captured) : Type 0 where
  place : s.place ≡ next_in start (recorder_after start popped).made
  tick : last_tick s.last ≤ tick_of start (recorder_after start popped)

record Ready (channels : Channels) (s : RunState) : Type 0 where
  same : s.start.channels ≡ channels
  here : s.is_open ≡ true → RunsOnFrom s s.start s.popped

-- what one commit adds, and the state after it
record Adds (channels : Channels) (s : RunState) (records : List Record) (taken : List Captured) : Type 0 where
  places : Continues channels s.place records
  ticks : NeverFalls (last_tick s.last) records
  ready : Ready channels (after_commit s records taken)

module _ (channels : Channels) (s : RunState) (h : Ready channels s) where
  goes_on : (records : List Record) (taken : List Captured) → GoesOnWith s records taken → Adds channels s records taken
  goes_on records taken g =
      let here : RunsOnFrom s s.start s.popped = h.here g.is_open in
      let next = further_items s.start s.popped taken records g.made in
      let none_begins : begin_run records ≡ false = inside_begins_none records next.1 in
      let start : cond (begin_run records) (next_start s) s.start ≡ s.start = cond-false (begin_run records) (next_start s) s.start none_begins in
      let popped : cond (begin_run records) taken (s.popped ++ taken) ≡ s.popped ++ taken = cond-false (begin_run records) taken (s.popped ++ taken) none_begins in
      record {
        places = subst (λ (x : Channels × ℕ). Continues x.0 x.1 records) (λ i. (h.same i, sym here.place i)) next.0.places;
        ticks = lower (last_tick s.last) (tick_of s.start (recorder_in s)) records here.tick next.0.ticks;
        ready = record {
          same = ap (λ (start : RunStart). start.channels) start ∙ h.same;
          here = λ _. subst (λ (x : RunStart × List Captured). RunsOnFrom (after_commit s records taken) x.0 x.1) (λ i. (sym start i, sym popped i)) (record {
            place = let a = here.place in let b = ap (λ (rs : List Record). length rs) g.made in let c = length-append (recorder_in s).made records in omega (arith, a, b, c);
            tick = further_stamp s.start s.popped taken records s.last g.made here.tick;
          });
        };
      }

  begins : Adds channels s (begun (next_start s)).made []
  begins = record {
    places = (refl, ap (λ (c : Channels). bits_of c 255 Start) h.same, tt);
    ticks = (base_is_later s.last, tt);
    ready = record {
      same = h.same;
      here = λ _. record { place = refl; tick = omega arith };
    };
  }

  closes_with : (records : List Record) → ComeNext s.start s.popped records → end_run records ≡ true → s.is_open ≡ true → Adds channels s records []
  closes_with records next all_end is_open =
      let here : RunsOnFrom s s.start s.popped = h.here is_open in
      record {
        places = subst (λ (x : Channels × ℕ). Continues x.0 x.1 records) (λ i. (h.same i, sym here.place i)) next.places;
        ticks = lower (last_tick s.last) (tick_of s.start (recorder_in s)) records here.tick next.ticks;
        ready = record {
          same = cond_both (begin_run records) (next_start s) s.start (λ start. start.channels ≡ channels) (λ _. h.same) (λ _. h.same);
          here = λ opened. absurd (true≢false (sym opened ∙ cond-true (end_run records) false (cond (begin_run records) true s.is_open) all_end));
        };
      }

  begins_with : (records : List Record) (taken : List Captured) → BeginsWith s records taken → Adds channels s records taken
  begins_with records taken b = subst (λ (x : List Record × List Captured). Adds channels s x.0 x.1) (λ i. (sym b.made i, sym b.none i)) begins

  closes_by : (records : List Record) (taken : List Captured) → ClosesWith s records taken → Adds channels s records taken
  closes_by records taken c = subst (λ (x : List Record × List Captured). Adds channels s x.0 x.1) (λ i. (sym c.made i, sym c.none i))
      (closes_with (closing s.start (recorder_in s) c.rest) (closes s.start s.popped c.rest)
      (ends_with (gaps_below 16 s.start (recorder_in s) c.rest) (stop_of s.start (recorder_in s) c.rest) refl) c.is_open)

runs_on : (channels : Channels) (s : RunState) (acts : List Act) → Ready channels s → AreMadeFrom s acts
    → Continues channels s.place (flat_map records_of_act acts) × NeverFalls (last_tick s.last) (flat_map records_of_act acts)
runs_on channels s [] h made = (tt, tt)
runs_on channels s (Commit records taken ∷ acts) h made =
    let adds : Adds channels s records taken = ⊎_elim
    (λ (g : GoesOnWith s records taken). goes_on channels s h records taken g)
    (λ (o : BeginsWith s records taken ⊎ ClosesWith s records taken). ⊎_elim
    (λ (b : BeginsWith s records taken). begins_with channels s h records taken b)
    (λ (c : ClosesWith s records taken). closes_by channels s h records taken c) o)
    made.0 in
    let later = runs_on channels (after_commit s records taken) acts adds.ready made.1 in (
      continues_append channels s.place records (flat_map records_of_act acts) adds.places later.0,
      falls_append s.last records (flat_map records_of_act acts) adds.ticks later.1,
    )
runs_on channels s (Save id label a b ∷ acts) h made = runs_on channels s acts h made.1
runs_on channels s (Release id ∷ acts) h made = runs_on channels s acts h made.1
runs_on channels s (Look ∷ acts) h made = runs_on channels s acts h made.1

pub made_runs_on : (start : RunStart) → MadeHistoriesRunOn start
made_runs_on start acts made = runs_on start.channels (between_runs start) acts (record { same = refl; here = λ opened. absurd (true≢false (sym opened)) }) made
