-- A call that was done may be told, and what was told goes on.
use Rattle.std.proofs.Common.{◌≡◌, ◌≢◌, ℕ, List, [], ◌∷◌, ◌++◌, Bool, true, false, true≢false, not, length, None, Result, Ok, Err, refl, sym, ◌∙◌, ap, subst}
use Rattle.std.specs.Prelude.{IfOk, IsErr, OnErr, drop}
use Rattle.std.proofs.Math.Seq.{drop-append_seam}
use Rattle.std.proofs.lemmas.List.Elements.{All-head, All-nil, All-cons, All-tail}
use Rattle.vdr_terms.specs.Records.{Record}
use Rattle.vdr_core.specs.Histories.{Act, Event, Opening}
use Rattle.vdr_core.specs.Histories.Act.{Commit, Look}
use Rattle.vdr_core.specs.Recorder.{recorder_after}
use Rattle.vdr_core.specs.RunStates.{recorder_in, state_left}
use Rattle.vdr_core.specs.Taken.{Captured}
use Rattle.vdr_durability.specs.Keeping.{IsWhole, moment_of}
use Rattle.vdr_durability.proofs.Whole.{whole_has_not_failed}
use Rattle.vdr_outside.specs.Disk.{Disk, Image}
use Rattle.vdr_opening.specs.Media.{HoldsContents, opening_of}
use Rattle.vdr_opening.specs.declared.refused.OpenRefused.{OpenRefused}
use Rattle.vdr_vault.specs.Vaults.{ShowsHistory}
use Rattle.vdr_recorder.specs.Recordings.{HasDone, HasRecorded, RecorderState}
use Rattle.vdr_recorder.specs.Headline.{IsHeard}
use Rattle.vdr_recorder.specs.Watched.{AreTold, DoneAndTold, HasRecordedTold, HearsOpening, IsWatched, PlainTurn, ShowsTold, Tells, Told, Watched, act_of, event_of, events_along, events_of, told_if, with_turn}
use Rattle.vdr_recorder.specs.Watched.PlainTurn.{Items}
use Rattle.vdr_recorder.proofs.Continuing.{done_whole, done_without}

-- One turn more
along_more : (opening : Opening) (events : List Event) (told : List Told) (t : Told) → events_along opening events (told ++ t ∷ []) ≡ events_along opening events told ++ event_of opening (events_along opening events told) t ∷ []
along_more opening events [] t = refl
along_more opening events (x ∷ xs) t = along_more opening (events ++ event_of opening events x ∷ []) xs t

whole_before : (events : List Event) (e : Event) → IsWhole (events ++ e ∷ []) → IsWhole events
whole_before [] e whole = All-nil (λ (e : Event). e.moment ≢ None)
whole_before (x ∷ xs) e whole = All-cons (λ (e : Event). e.moment ≢ None) x xs (All-head (λ (e : Event). e.moment ≢ None) x (xs ++ e ∷ []) whole)
    (whole_before xs e (All-tail (λ (e : Event). e.moment ≢ None) x (xs ++ e ∷ []) whole))

-- What items add to a run, by what is made with them
pub added_are : (opening : Opening) (events : List Event) (items : List Captured) (records : List Record)
    → (recorder_after (state_left opening events).start ((state_left opening events).popped ++ items)).made ≡ (recorder_in (state_left opening events)).made ++ records
    → Commit records items ≡ act_of opening events (Items items)
added_are opening events items records made = ap (λ (rs : List Record). Commit rs items)
    (sym (ap (drop (length (recorder_in (state_left opening events)).made)) made ∙ drop-append_seam (recorder_in (state_left opening events)).made records))

-- Of nothing that was done nothing is told, and a call that tells nothing leaves what was told
pub tells_none : {hears : Type 0} {opening : Opening} {events : List Event} {was now : Watched} → (hears → now ≡ was) → Tells hears opening events events was now
tells_none {opening = opening} {events = events} same = record {
  found = λ heard. ap (λ (w : Watched). w.found) (same heard);
  synced = λ heard. ap (λ (w : Watched). w.synced) (same heard);
  told = λ heard told. subst (λ (w : Watched). AreTold opening events w.turns) (sym (same heard)) told;
}

pub tells_join : {hears : Type 0} {opening : Opening} {before mid after : List Event} {was then now : Watched} → Tells hears opening before mid was then → Tells hears opening mid after then now
    → Tells hears opening before after was now
tells_join p q = record {
  found = λ heard. q.found heard ∙ p.found heard;
  synced = λ heard. q.synced heard ∙ p.synced heard;
  told = λ heard told. q.told heard (p.told heard told);
}

module _ {tells tells_images : Type 0} (opening : Opening) (events : List Event) (t0 : ℕ) (act : Act) (r : RecorderState) (old new : Disk tells tells_images) (d : HasDone opening events t0 act r old new) where
  abbrev own : List Event
  own = events ++ d.event ∷ []

  still_told : r.vault.failed ≡ true → (turns : List Told) → AreTold opening events turns → AreTold opening own turns
  still_told fails turns told = done_without events d.event (d.moment_is ∙ ap (λ (b : Bool). moment_of b new.clock) fails) ∙ told

  module _ (did : PlainTurn) (works : r.vault.failed ≡ false) (same : act ≡ act_of opening events did) (turns : List Told) (told : AreTold opening events turns) where
    abbrev more : List Told
    more = turns ++ record { did = did; moment = new.clock } ∷ []

    whole : IsWhole own
    whole = (whole_has_not_failed own).1 (sym d.has.failed ∙ works)

    are : events ≡ events_of opening turns
    are = sym (done_whole events (whole_before events d.event whole)) ∙ told

    event_is : d.event ≡ event_of opening events (record { did = did; moment = new.clock })
    event_is = λ i. record { act = (d.act_is ∙ same) i; moment = (d.moment_is ∙ ap (λ (b : Bool). moment_of b new.clock) works) i }

    own_are : own ≡ events_of opening more
    own_are = (λ i. are i ++ (event_is ∙ (λ j. event_of opening (are j) (record { did = did; moment = new.clock }))) i ∷ [])
        ∙ sym (along_more opening [] turns (record { did = did; moment = new.clock }))

    more_told : AreTold opening own more
    more_told = done_whole own whole ∙ own_are

    more_shown : (i : Image) → new.now i → ShowsHistory opening (events_of opening more) i
    more_shown i now = subst (λ (es : List Event). ShowsHistory opening es i) own_are (d.has.kept.now whole i now)

  -- A call that was told where it was done
  pub done_told : {hears : Type 0} (did : PlainTurn) (was now : Watched) (told : Bool) → not r.vault.failed ≡ told → (r.vault.failed ≡ false → act ≡ act_of opening events did)
      → (hears → now ≡ told_if told did new.clock was) → DoneAndTold hears opening events t0 act r old new was now
  done_told {hears} did was now told so same is = record {
    done = d;
    told = record { found = λ heard. (by r.vault.failed refl (is heard)).0; synced = λ heard. (by r.vault.failed refl (is heard)).1; told = λ heard. (by r.vault.failed refl (is heard)).2 };
  }
    where
      by : (b : Bool) → r.vault.failed ≡ b → now ≡ told_if told did new.clock was
          → (now.found ≡ was.found) × (now.synced ≡ was.synced) × (AreTold opening events was.turns → AreTold opening own now.turns)
      by true fails e =
          let f : now ≡ was = e ∙ ap (λ (b : Bool). told_if b did new.clock was) (sym so ∙ ap not fails) in
          (ap (λ (w : Watched). w.found) f, ap (λ (w : Watched). w.synced) f, λ told. subst (λ (w : Watched). AreTold opening own w.turns) (sym f) (still_told fails was.turns told))
      by false works e =
          let f : now ≡ with_turn was did new.clock = e ∙ ap (λ (b : Bool). told_if b did new.clock was) (sym so ∙ ap not works) in (
            ap (λ (w : Watched). w.found) f,
            ap (λ (w : Watched). w.synced) f,
            λ told. subst (λ (w : Watched). AreTold opening own w.turns) (sym f) (more_told did works (same works) was.turns told),
          )

-- What a call was, whatever was recorded before it
abbrev pub Called : {tells tells_images : Type 0} → (t0 : ℕ) → RecorderState → Disk tells tells_images → RecorderState → Disk tells tells_images → PlainTurn → Type 0
Called {tells} {tells_images} t0 r old after new did = (opening : Opening) (events : List Event) → tells → HasRecorded opening events t0 r old
    → (act : Act) × HasDone opening events t0 act after old new × (after.vault.failed ≡ false → act ≡ act_of opening events did)

-- A recorder over what was found, and a call of it
module _ {tells tells_images hears : Type 0} (was : Watched) (r : RecorderState) (old : Disk tells tells_images) (w : IsWatched hears was r old) (after : RecorderState) (new : Disk tells tells_images) where
  pub may_tell : (did : PlainTurn) → Called was.synced r old after new did → after.vault.failed ≡ false → hears → ShowsTold (with_turn was did new.clock) new
  may_tell did call works heard told x holds sound i now =
      let h = w heard told x holds sound in
      let d = call (opening_of x) h.events told h.has in
      more_shown (opening_of x) h.events was.synced d.0 after old new d.1 did works (d.2 works) was.turns h.told i now

  pub still_watched : (did : PlainTurn) → Called was.synced r old after new did → (now : Watched) (told : Bool) → not after.vault.failed ≡ told → (hears → now ≡ told_if told did new.clock was) → IsWatched hears now after new
  unfolding done_told
  still_watched did call now told so is heard tell x holds sound =
      let found : now.found ≡ was.found = found_by told (is heard) in
      let h = w heard tell x (subst (λ (image : Image). HoldsContents image x) found holds) sound in
      let d = call (opening_of x) h.events tell h.has in
      let t = (done_told (opening_of x) h.events was.synced d.0 after old new d.1 {hears = hears} did was now told so d.2 is).told in
      record {
        events = h.events ++ d.1.event ∷ [];
        has = subst (λ (t0 : ℕ). HasRecorded (opening_of x) (h.events ++ d.1.event ∷ []) t0 after new) (sym (t.synced heard)) d.1.has;
        told = t.told heard h.told;
      }
    where
      found_by : (told : Bool) → now ≡ told_if told did new.clock was → now.found ≡ was.found
      found_by true e = ap (λ (w : Watched). w.found) e
      found_by false e = ap (λ (w : Watched). w.found) e

  -- a call that did nothing
  pub watched_same : (now : Watched) → after ≡ r → new ≡ old → (hears → now ≡ was) → IsWatched hears now after new
  watched_same now same disk is heard tell x holds sound =
      let e = is heard in
      let h = w heard tell x (subst (λ (w : Watched). HoldsContents w.found x) e holds) sound in
      subst (λ (w : Watched). HasRecordedTold (opening_of x) w after new) (sym e)
      (subst (λ (d : Disk tells tells_images). HasRecordedTold (opening_of x) was after d) (sym disk) (subst (λ (r : RecorderState). HasRecordedTold (opening_of x) was r old) (sym same) h))

-- An opening that was told
pub heard_opening : {tells tells_images T : Type 0} (opening : Opening) (w : Watched) (old new : Disk tells tells_images) (result : Result T OpenRefused) (x : T) → result ≡ Ok x → HearsOpening w old new result
    → IsHeard opening [] new.clock old w
heard_opening {T = T} opening w old new result x is h = record {
  found = h.found;
  opened = subst (λ (r : Result T OpenRefused). IfOk r (λ _. w.synced ≡ new.clock)) is h.synced;
  told = ap (events_of opening) (sym h.turns);
}

-- What holds after an error
pub untold_err : {T E P : Type 0} (result : Result T E) → IsErr result → OnErr result P → P
untold_err (Ok x) none h = absurd (true≢false (sym none))
untold_err (Err e) is h = h

-- A look behind a call that told nothing
pub look_from : {tells tells_images hears : Type 0} {opening : Opening} {events : List Event} {t0 : ℕ} {r : RecorderState} {disk : Disk tells tells_images} {was then now : Watched} → (hears → then ≡ was)
    → DoneAndTold hears opening events t0 Look r disk disk then now → DoneAndTold hears opening events t0 Look r disk disk was now
look_from same d = record { done = d.done; told = tells_join (tells_none same) d.told }
