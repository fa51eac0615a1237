-- A recorder under the latch after the order of a desk.
use Rattle.std.proofs.Common.{◌≡◌, ◌⊎◌, inl, inr, ◌<◌, ◌+◌, ◌-◌, ◌^◌, ◌++◌, ◌∷◌, ◌≢◌, ◌&&◌, is_some, ℕ, ℤ, Bool, true, false, true≢false, List, [], length, cond, option_map, Some, None, refl, sym, ap, ◌∙◌, subst, arith}
use Rattle.std.specs.Prelude.{min, sum}
use Rattle.std.proofs.lemmas.Bool.{cases_Bool, le-leb, leb-true}
use Rattle.vdr_terms.specs.Counting.{next_number}
use Rattle.vdr_terms.specs.declared.rate.Rate.{Rate}
use Rattle.std.specs.Prelude.{Option}
use Rattle.vdr_core.specs.Histories.{Act, Event, Opening, records_of_act}
use Rattle.vdr_core.specs.Runs.{base_after}
use Rattle.vdr_core.specs.RunStates.{RunState, after_act, state_left}
use Rattle.vdr_core.specs.Taken.{Captured}
use Rattle.vdr_outside.specs.Causes.{Rose}
use Rattle.vdr_outside.specs.Disk.{Disk}
use Rattle.vdr_durability.specs.Keeping.{moment_of}
use Rattle.vdr_config.specs.Configuration.{Configuration, Selector}
use Rattle.vdr_control.specs.Orders.{PlainOrder}
use Rattle.vdr_control.specs.Orders.PlainOrder.{Status, Save, Release, Incidents, Play, Evidence, Tell}
use Rattle.vdr_control.specs.Orders.PlainOrder.{Health}
use Rattle.vdr_control.specs.Orders.PlainOrder.{Export}
use Rattle.vdr_vault.specs.Vaults.{VaultState}
use Rattle.vdr_run.specs.declared.maker.Maker.{Maker}
use Rattle.vdr_run.specs.Making.{counted_of}
use Rattle.vdr_run.specs.Starts.{stamp_of}
use Rattle.vdr_health.specs.Tallies.{KnowsRun}
use Rattle.vdr_health.specs.declared.tallied.RunTally.{RunTally}
use Rattle.vdr_recorder.specs.Making.{MakesBy, numbers_of}
use Rattle.vdr_recorder.specs.Recordings.{HasRecorded, RecorderState}
use Rattle.vdr_recorder.specs.Watched.{DoneAndTold, IsWatched, Watched}
use Rattle.vdr_recorder.proofs.Continuing.{has_moment}
use Rattle.vdr_desk.specs.Answers.{Answer, ToldSoFar, seen_by, told_on}
use Rattle.vdr_reply.specs.declared.rest.Rest.{Rest}
use Rattle.vdr_reply.specs.Answers.{HasAnsweredSoFar, HasGoneOn, IsAnswer, LeavesRest}
use Rattle.vdr_reply.specs.Plays.{IsWaiting}
use Rattle.vdr_reply.specs.Orders.{changes, granted_act}
use Rattle.vdr_session.specs.declared.mark.Did.TheVariants as dids
use Rattle.vdr_session.specs.declared.mark.Mark.{Mark}
use Rattle.vdr_session.specs.Answering.{AnswersMark, AwaitsMark, answer_over, did_for, last_mark, order_mark, rose_in, step_mark}
use Rattle.vdr_session.specs.Events.{act_of, event_of, events_of}
use Rattle.vdr_session.specs.Marks.{begins, leads, misses, taken_by, taken_in}
use Rattle.vdr_session.specs.Standing.{Before, IsAt, IsKept}
use Rattle.vdr_session.proofs.Spelled.{answer_so, answer_unless}
use Rattle.vdr_session.proofs.MarkLemmas.{all_more, begun_none, started_same, taken_same_by}
use Rattle.vdr_session.specs.Tallied.{IsTallied}
use Rattle.vdr_session.proofs.Tallied.{knows_run, tallied_same}
use Rattle.vdr_session.proofs.Over.{event, further, last_is, over_fresh, over_later, over_on}
use Rattle.vdr_session.proofs.Steps.{StaysHome, kept_by, still_session}

-- an order begins nothing, takes nothing and doesn't lead
begins_none : (b c : Bool) (order : PlainOrder) → begins (cond b (did_for order) (cond c dids.Miss dids.Look)) ≡ false
begins_none false false order = refl
begins_none false true order = refl
begins_none true c Status = refl
begins_none true c (Save label) = refl
begins_none true c (Release id) = refl
begins_none true c Incidents = refl
begins_none true c Health = refl
begins_none true c (Play medium name from to) = refl
begins_none true c (Evidence id) = refl
begins_none true c (Tell medium telling) = refl
begins_none true c (Export medium name from to exporting) = refl

takes_none : (b c : Bool) (order : PlainOrder) → taken_by (cond b (did_for order) (cond c dids.Miss dids.Look)) ≡ []
takes_none false false order = refl
takes_none false true order = refl
takes_none true c Status = refl
takes_none true c (Save label) = refl
takes_none true c (Release id) = refl
takes_none true c Incidents = refl
takes_none true c Health = refl
takes_none true c (Play medium name from to) = refl
takes_none true c (Evidence id) = refl
takes_none true c (Tell medium telling) = refl
takes_none true c (Export medium name from to exporting) = refl

pub follows : (b c : Bool) (order : PlainOrder) → leads (cond b (did_for order) (cond c dids.Miss dids.Look)) ≡ false
follows false false order = refl
follows false true order = refl
follows true c Status = refl
follows true c (Save label) = refl
follows true c (Release id) = refl
follows true c Incidents = refl
follows true c Health = refl
follows true c (Play medium name from to) = refl
follows true c (Evidence id) = refl
follows true c (Tell medium telling) = refl
follows true c (Export medium name from to exporting) = refl

misses_so : (b c : Bool) (order : PlainOrder) → misses (cond b (did_for order) (cond c dids.Miss dids.Look)) ≡ true → c ≡ true
misses_so false false order e = absurd (true≢false (sym e))
misses_so false true order e = refl
misses_so true c Status e = absurd (true≢false (sym e))
misses_so true c (Save label) e = absurd (true≢false (sym e))
misses_so true c (Release id) e = absurd (true≢false (sym e))
misses_so true c Incidents e = absurd (true≢false (sym e))
misses_so true c Health e = absurd (true≢false (sym e))
misses_so true c (Play medium name from to) e = absurd (true≢false (sym e))
misses_so true c (Evidence id) e = absurd (true≢false (sym e))
misses_so true c (Tell medium telling) e = absurd (true≢false (sym e))
misses_so true c (Export medium name from to exporting) e = absurd (true≢false (sym e))

missed_so : (b c : Bool) (order : PlainOrder) → b ≡ false → c ≡ true → misses (cond b (did_for order) (cond c dids.Miss dids.Look)) ≡ true
missed_so false false order none e = absurd (true≢false (sym e))
missed_so false true order none e = refl
missed_so true c order none e = absurd (true≢false none)

-- its act, of which the history has no records
act_is : (opening : Opening) (taken : List Captured) (events : List Event) (b c : Bool) (order : PlainOrder)
    → act_of opening taken events (cond b (did_for order) (cond c dids.Miss dids.Look)) ≡ cond b (granted_act opening events order) Act.Look
act_is opening taken events false false order = refl
act_is opening taken events false true order = refl
act_is opening taken events true c Status = refl
act_is opening taken events true c (Save label) = refl
act_is opening taken events true c (Release id) = refl
act_is opening taken events true c Incidents = refl
act_is opening taken events true c Health = refl
act_is opening taken events true c (Play medium name from to) = refl
act_is opening taken events true c (Evidence id) = refl
act_is opening taken events true c (Tell medium telling) = refl
act_is opening taken events true c (Export medium name from to exporting) = refl

records_none : (opening : Opening) (events : List Event) (b : Bool) (order : PlainOrder) → records_of_act (cond b (granted_act opening events order) Act.Look) ≡ []
records_none opening events false order = refl
records_none opening events true Status = refl
records_none opening events true (Save label) = refl
records_none opening events true (Release id) = refl
records_none opening events true Incidents = refl
records_none opening events true Health = refl
records_none opening events true (Play medium name from to) = refl
records_none opening events true (Evidence id) = refl
records_none opening events true (Tell medium telling) = refl
records_none opening events true (Export medium name from to exporting) = refl

leaves_state : (opening : Opening) (events : List Event) (b : Bool) (order : PlainOrder) (t : RunState) → after_act t (cond b (granted_act opening events order) Act.Look) ≡ t
leaves_state opening events false order t = refl
leaves_state opening events true Status t = refl
leaves_state opening events true (Save label) t = refl
leaves_state opening events true (Release id) t = refl
leaves_state opening events true Incidents t = refl
leaves_state opening events true Health t = refl
leaves_state opening events true (Play medium name from to) t = refl
leaves_state opening events true (Evidence id) t = refl
leaves_state opening events true (Tell medium telling) t = refl
leaves_state opening events true (Export medium name from to exporting) t = refl

-- a mark that begins nothing and takes nothing leaves the run where it is
still_at : (marks : List Mark) (r : RecorderState) → IsAt marks r → (mark : Mark) (after : RecorderState) → LeavesRest r after → (after.vault.failed ≡ false → r.vault.failed ≡ false) → begins mark.did ≡ false → taken_by mark.did ≡ []
    → (after.vault.failed ≡ false → mark.moment ≢ None) → IsAt (marks ++ mark ∷ []) after
still_at marks r stage mark after rest lasts none empty told =
    let taken : taken_in (marks ++ mark ∷ []) ≡ taken_in marks = taken_same_by marks mark empty in
    record {
      open_is = λ is. let o = stage.open_is (sym (begun_none marks mark (ap (λ (b : Bool). b && is_some mark.moment) none)) ∙ is) in (
        rest.is_open ∙ o.0,
        record {
          makes = (
            o.1.makes.0,
            subst (λ (x : Configuration × List Captured × Maker). MakesBy x.0 o.1.makes.0 x.1 x.2) (λ i. (sym rest.config i, sym taken i, sym rest.maker i)) o.1.makes.1,
          );
          place = (let p = o.1.place in let m = ap (λ (x : Maker). x.place) rest.maker in let t = ap length taken in omega (arith, p, m, t));
          numbers = λ g small. (let n = o.1.numbers g small in let m = ap (λ (x : Maker). next_number (counted_of x g).pending) rest.maker in let t = ap (numbers_of g) taken in omega (arith, n, m, t));
        },
      );
      idle = λ is. let o = stage.idle (sym (started_same marks mark none) ∙ is) in (rest.is_open ∙ o.0, taken ∙ o.1);
      ready = λ is. let may = stage.ready (sym (started_same marks mark none) ∙ is) in record {
        place = subst (λ (n : ℕ). n < 2 ^ 62) (sym rest.place) may.place;
        base = subst (λ (o : Option (ℕ × ℤ)). base_after (option_map stamp_of o) < 2 ^ 62) (sym rest.last) may.base;
      };
      whole = λ goes. all_more marks mark (stage.whole (lasts goes)) (told goes);
    }

-- an answer so far, with another cause of a fault
so_far_so : (channels : List Selector) (opening : Opening) (A B : Type 0) (vault : VaultState) (a : Answer Event) (left : Option Rest) → (changes a.order vault ≡ false → A → B)
    → ToldSoFar (IsAnswer channels A opening) (IsWaiting channels opening) a left → ToldSoFar (IsAnswer channels B opening) (IsWaiting channels opening) a left
so_far_so channels opening A B vault a None so h = answer_unless channels A B opening vault a so h
so_far_so channels opening A B vault a (Some rest) so h = h

so_far_met : (channels : List Selector) (opening : Opening) (A B : Type 0) (a : Answer Event) (left : Option Rest) → (A → B)
    → ToldSoFar (IsAnswer channels A opening) (IsWaiting channels opening) a left → ToldSoFar (IsAnswer channels B opening) (IsWaiting channels opening) a left
so_far_met channels opening A B a None so h = answer_so so h
so_far_met channels opening A B a (Some rest) so h = h

-- what it is at the marks is what it is in each history
so_far_marks : (tells : Type 0) (began : Opening → ℕ → Type 0) (channels : List Selector) (desk : ℕ) (a : Answer Mark) (left : Option Rest) → a.own.desk ≡ Some desk
    → (tells → (opening : Opening) (t0 : ℕ) → began opening t0 → ToldSoFar (IsAnswer channels (misses (last_mark a).did ≡ true) opening) (IsWaiting channels opening) (answer_over opening a) left)
    → ToldSoFar (AnswersMark tells began channels desk) (AwaitsMark tells began channels desk) a left
so_far_marks tells began channels desk a None is h = (is, h)
so_far_marks tells began channels desk a (Some rest) is h = (is, h)

module _ {tells tells_images : Type 0} (before : Before) (began : Opening → ℕ → Type 0) (rates : List (Option Rate)) (room : ℕ) (sizes faults : List ℕ) (marks : List Mark) (w w' : Watched) (r : RecorderState)
    (old : Disk tells tells_images) (was : List ℕ) (k : IsKept before began rates room sizes faults marks w r old was) (desk : ℕ) (order : PlainOrder) (text : List ℕ) (left : Option Rest) (after : RecorderState) (new : Disk tells tells_images) (now : List ℕ)
    (watched : IsWatched before.hears w' after new) (home : StaysHome r old was after new now) (rest : LeavesRest r after) (stays : r.vault.failed ≡ true → after.vault.failed ≡ true)
    (tally : RunTally) (tallied : IsTallied marks tally)
    (answered : (opening : Opening) (events : List Event) (t0 : ℕ) → tells → HasRecorded opening events t0 r old → (order ≡ Health → r.vault.failed ≡ false → KnowsRun (state_left opening events) tally) → HasAnsweredSoFar r.vault.config.channels (Rose (sum was) (sum now)) opening events t0 order text left r after old new before.hears w w') where
  abbrev mark : Mark
  mark = order_mark desk order r.vault after.vault.failed new.clock (sum was) (sum now)

  abbrev granted : Bool
  granted = changes order r.vault

  abbrev rose : Bool
  rose = rose_in (sum was) (sum now)

  lasts : after.vault.failed ≡ false → r.vault.failed ≡ false
  lasts goes = by (cases_Bool r.vault.failed)
    where
      by : (r.vault.failed ≡ true) ⊎ (r.vault.failed ≡ false) → r.vault.failed ≡ false
      by (inl fails) = absurd (true≢false (sym (stays fails) ∙ goes))
      by (inr works) = works

  pub order_kept : IsKept before began rates room sizes faults (marks ++ mark ∷ []) w' after new now
  order_kept = kept_by before began rates room sizes faults marks w r old was k mark w' after new now watched home
      (λ e. leb-true (min (sum was + 1) (2 ^ 64 - 1)) (sum now) (misses_so granted rose order e))
      (still_at marks r k.stage mark after rest lasts (begins_none granted rose order) (takes_none granted rose order) (λ goes. has_moment after.vault.failed new.clock mark.moment refl goes))
      (λ told opening t0 b.
      let s = k.told told opening t0 b in
      let a = answered opening (events_of opening marks) t0 told s.has (λ _. knows_run before opening marks t0 r old w tally s k.stage tallied) in
      let act = act_is opening (taken_in marks) (events_of opening marks) granted rose order in
      still_session before opening marks t0 r old w w' s mark after new
      (subst (λ (act : Act). DoneAndTold before.hears opening (events_of opening marks) t0 act after old new w w') (sym act) a.done)
      refl lasts (begins_none granted rose order) (takes_none granted rose order)
      (ap records_of_act act ∙ records_none opening (events_of opening marks) granted order)
      (λ t. ap (after_act t) act ∙ leaves_state opening (events_of opening marks) granted order t))

  abbrev first_told : Answer Mark
  first_told = record { order = order; before = marks; own = mark; during = []; text = text }

  pub order_answers : ToldSoFar (AnswersMark tells began before.channels desk) (AwaitsMark tells began before.channels desk) first_told left
  order_answers = so_far_marks tells began before.channels desk first_told left refl
      (λ told opening t0 b.
      let s = k.told told opening t0 b in
      let events = events_of opening marks in
      let a = answered opening events t0 told s.has (λ _. knows_run before opening marks t0 r old w tally s k.stage tallied) in
      let act = act_is opening (taken_in marks) events granted rose order in
      let own : event_of opening (taken_in marks) events mark ≡ record { act = cond granted (granted_act opening events order) Act.Look; moment = mark.moment } =
      λ i. record { act = act i; moment = mark.moment } in
      let same : answer_over opening first_told ≡ record { order = order; before = events; own = record { act = cond granted (granted_act opening events order) Act.Look; moment = mark.moment }; during = []; text = text } =
      over_fresh opening first_told refl ∙ (λ i. record { order = order; before = events; own = own i; during = []; text = text }) in
      subst (λ (x : List Selector × Answer Event). ToldSoFar (IsAnswer x.0 (misses mark.did ≡ true) opening) (IsWaiting x.0 opening) x.1 left) (λ i. (k.channels_are i, sym same i))
      (so_far_so r.vault.config.channels opening (Rose (sum was) (sum now)) (misses mark.did ≡ true) r.vault _ left (λ none rose_now. missed_so granted rose order none (le-leb (min (sum was + 1) (2 ^ 64 - 1)) (sum now) rose_now)) a.answer))

  pub order_tallied : IsTallied (marks ++ mark ∷ []) tally
  order_tallied = tallied_same marks mark tally (ap (λ (b : Bool). b && is_some mark.moment) (begins_none granted rose order)) (takes_none granted rose order) tallied

-- a further turn
step_begins : (b : Bool) → begins (cond b dids.Miss dids.Look) ≡ false
step_begins true = refl
step_begins false = refl

step_takes : (b : Bool) → taken_by (cond b dids.Miss dids.Look) ≡ []
step_takes true = refl
step_takes false = refl

pub step_follows : (b : Bool) → leads (cond b dids.Miss dids.Look) ≡ false
step_follows true = refl
step_follows false = refl

step_misses : (b : Bool) → misses (cond b dids.Miss dids.Look) ≡ b
step_misses true = refl
step_misses false = refl

step_act : (opening : Opening) (taken : List Captured) (events : List Event) (b : Bool) → act_of opening taken events (cond b dids.Miss dids.Look) ≡ Act.Look
step_act opening taken events true = refl
step_act opening taken events false = refl

module _ {tells tells_images : Type 0} (before : Before) (began : Opening → ℕ → Type 0) (rates : List (Option Rate)) (room : ℕ) (sizes faults : List ℕ) (marks : List Mark) (w w' : Watched) (r : RecorderState)
    (old : Disk tells tells_images) (was : List ℕ) (k : IsKept before began rates room sizes faults marks w r old was) (desk : ℕ) (after : RecorderState) (new : Disk tells tells_images) (now : List ℕ)
    (watched : IsWatched before.hears w' after new) (home : StaysHome r old was after new now) (rest : LeavesRest r after) (stays : r.vault.failed ≡ true → after.vault.failed ≡ true) where
  abbrev step : Mark
  step = step_mark desk after.vault.failed new.clock (sum was) (sum now)

  abbrev step_rose : Bool
  step_rose = rose_in (sum was) (sum now)

  step_lasts : after.vault.failed ≡ false → r.vault.failed ≡ false
  step_lasts goes = by (cases_Bool r.vault.failed)
    where
      by : (r.vault.failed ≡ true) ⊎ (r.vault.failed ≡ false) → r.vault.failed ≡ false
      by (inl fails) = absurd (true≢false (sym (stays fails) ∙ goes))
      by (inr works) = works

  pub step_kept : (tells → (opening : Opening) (t0 : ℕ) → began opening t0 → DoneAndTold before.hears opening (events_of opening marks) t0 Act.Look after old new w w')
      → IsKept before began rates room sizes faults (marks ++ step ∷ []) w' after new now
  step_kept done = kept_by before began rates room sizes faults marks w r old was k step w' after new now watched home
      (λ e. leb-true (min (sum was + 1) (2 ^ 64 - 1)) (sum now) (sym (step_misses step_rose) ∙ e))
      (still_at marks r k.stage step after rest step_lasts (step_begins step_rose) (step_takes step_rose) (λ goes. has_moment after.vault.failed new.clock step.moment refl goes))
      (λ told opening t0 b.
      let s = k.told told opening t0 b in
      let act = step_act opening (taken_in marks) (events_of opening marks) step_rose in
      still_session before opening marks t0 r old w w' s step after new
      (subst (λ (act : Act). DoneAndTold before.hears opening (events_of opening marks) t0 act after old new w w') (sym act) (done told opening t0 b))
      refl step_lasts (step_begins step_rose) (step_takes step_rose) (ap records_of_act act) (λ t. ap (after_act t) act))

  pub step_tallied : (tally : RunTally) → IsTallied marks tally → IsTallied (marks ++ step ∷ []) tally
  step_tallied tally tallied = tallied_same marks step tally (ap (λ (b : Bool). b && is_some step.moment) (step_begins step_rose)) (step_takes step_rose) tallied

-- a piece was told in it
module _ {tells tells_images : Type 0} (before : Before) (began : Opening → ℕ → Type 0) (rates : List (Option Rate)) (room : ℕ) (sizes faults : List ℕ) (a : Answer Mark) (later : List Mark) (w : Watched) (r : RecorderState)
    (old : Disk tells tells_images) (was : List ℕ) (k : IsKept before began rates room sizes faults (seen_by a ++ later) w r old was) (desk : ℕ) (failed : Bool) (clock : ℕ) (now : List ℕ) (piece : List ℕ) (rest : Rest) (left : Option Rest)
    (waits : AwaitsMark tells began before.channels desk a rest)
    (went : (opening : Opening) (o : Answer Event) (behind : List Event) (t0 : ℕ) → tells → HasRecorded opening (seen_by o ++ behind) t0 r old → IsWaiting r.vault.config.channels opening o rest
    → HasGoneOn r.vault.config.channels (Rose (sum was) (sum now)) opening o behind (moment_of failed clock) piece left) where
  abbrev stepped : Mark
  stepped = step_mark desk failed clock (sum was) (sum now)

  abbrev on : Answer Mark
  on = told_on a (later ++ stepped ∷ []) piece

  step_rises : Rose (sum was) (sum now) → misses stepped.did ≡ true
  step_rises rose_now = step_misses (rose_in (sum was) (sum now)) ∙ le-leb (min (sum was + 1) (2 ^ 64 - 1)) (sum now) rose_now

  pub step_answers : ToldSoFar (AnswersMark tells began before.channels desk) (AwaitsMark tells began before.channels desk) on left
  step_answers = so_far_marks tells began before.channels desk on left waits.0
      (λ told opening t0 b.
      let s = k.told told opening t0 b in
      let o = answer_over opening a in
      let behind = further opening a later stepped piece in
      let has : HasRecorded opening (seen_by o ++ behind) t0 r old = subst (λ (es : List Event). HasRecorded opening es t0 r old) (over_later opening a later stepped piece) s.has in
      let waiting : IsWaiting r.vault.config.channels opening o rest = subst (λ (cs : List Selector). IsWaiting cs opening o rest) (sym k.channels_are) (waits.1 told opening t0 b) in
      let e = event opening a later stepped piece in
      let own : e ≡ record { act = Act.Look; moment = moment_of failed clock } =
      (let act = step_act opening (taken_in (seen_by a ++ later)) (events_of opening (seen_by a ++ later)) (rose_in (sum was) (sum now)) in λ i. record { act = act i; moment = moment_of failed clock }) in
      let same : answer_over opening on ≡ told_on o (behind ++ record { act = Act.Look; moment = moment_of failed clock } ∷ []) piece =
      over_on opening a later stepped piece ∙ ap (λ (x : Event). told_on o (behind ++ x ∷ []) piece) own in
      let last = last_is a later stepped piece in
      subst (λ (x : List Selector × Answer Event × Mark). ToldSoFar (IsAnswer x.0 (misses x.2.did ≡ true) opening) (IsWaiting x.0 opening) x.1 left) (λ i. (k.channels_are i, sym same i, sym last i))
      (so_far_met r.vault.config.channels opening (Rose (sum was) (sum now)) (misses stepped.did ≡ true) _ left step_rises (went opening o behind t0 told has waiting)))
