-- The calls of a recorder that somebody is told of.
use Rattle.std.specs.Bool.{⊤}
use Rattle.std.specs.Prelude.{IfOk, IsErr, OnErr, OnOk, is_ok}
use Rattle.std.proofs.Common.{◌≡◌, ◌≢◌, ◌≤◌, ◌⊎◌, inl, inr, ℕ, List, [], Bool, true, false, true≢false, not, Option, Some, None, Result, Ok, Err, refl, sym, ◌∙◌, ap, subst, arith}
use Rattle.std.proofs.lemmas.Bool.{cases_Bool}
use Rattle.std.proofs.lemmas.List.Elements.{All-nil}
use Rattle.vdr_core.specs.Histories.{Act, Event, Incident, MayCome, Opening, live}
use Rattle.vdr_core.specs.Histories.Act.{Look, Release, Save}
use Rattle.vdr_outside.specs.Disk.{Disk, Image}
use Rattle.vdr_opening.specs.Media.{Contents, HoldsContents, opening_of}
use Rattle.vdr_vault.specs.Regularity.{AreSound}
use Rattle.vdr_incident.specs.declared.refused.ReleaseRefused.{ReleaseRefused}
use Rattle.vdr_incident.specs.declared.refused.ReleaseRefused.TheVariants as releases
use Rattle.vdr_vault.specs.Saves.{save_refusal}
use Rattle.vdr_vault.specs.declared.refused.SaveRefused.{SaveRefused}
use Rattle.vdr_vault.specs.declared.refused.SaveRefused.TheVariants as saves
use Rattle.vdr_vault.specs.Vaults.{ShowsHistory}
use Rattle.vdr_recorder.specs.declared.run.StartRefused.{StartRefused}
use Rattle.vdr_recorder.specs.declared.run.StartRefused.TheVariants.{Fault, Place, Tick}
use Rattle.vdr_recorder.specs.Recordings.{HasDone, HasRecorded, RecorderState}
use Rattle.vdr_recorder.specs.Watched.{HasRecordedTold, IsWatched, PlainTurn, ShowsTold, Watched, act_of, told_if, turn_of_release, turn_of_save, with_turn}
use Rattle.vdr_recorder.specs.Watched.{PlainTurn as turns}
use Rattle.vdr_recorder.proofs.Answering.{same_disk}
use Rattle.vdr_recorder.proofs.Coming.{come_last, save_is}
use Rattle.vdr_recorder.proofs.Looking.{look_done}
use Rattle.vdr_recorder.proofs.Telling.{Called, may_tell, still_watched, watched_same}
use Rattle.vdr_durability.proofs.Kept.{keeps_since}

-- What was answered, and whether it is told

pub not_is : (b : Bool) → not b ≡ true → b ≡ false
not_is true e = absurd (true≢false (sym e))
not_is false e = refl

pub told_ok : {T E : Type 0} (result : Result T E) (failed told : Bool) → told ≡ is_ok result → OnOk result (failed ≡ false) → OnErr result (failed ≡ true) → not failed ≡ told
told_ok (Ok x) failed told is works fails = ap not works ∙ sym is
told_ok (Err e) failed told is works fails = ap not fails ∙ sym is

pub works_ok : {T E P : Type 0} (result : Result T E) (told : Bool) → told ≡ is_ok result → told ≡ true → OnOk result P → P
works_ok (Ok x) told is told_so h = h
works_ok (Err e) told is told_so h = absurd (true≢false (sym told_so ∙ is))

pub works_is : {T E : Type 0} (result : Result T E) (told : Bool) → told ≡ is_ok result → told ≡ true → IsErr result → ⊥
works_is (Ok x) told is told_so err = true≢false (sym err)
works_is (Err e) told is told_so err = true≢false (sym told_so ∙ is)

pub works_before : {failed : Bool} {P : Type 0} → (failed ≡ true → P) → (P → ⊥) → failed ≡ false
works_before {failed = failed} is not_so = by (cases_Bool failed)
  where
    by : (failed ≡ true) ⊎ (failed ≡ false) → failed ≡ false
    by (inl fails) = absurd (not_so (is fails))
    by (inr works) = works

pub goes_before : {before after : Bool} → (before ≡ true → after ≡ true) → after ≡ false → before ≡ false
goes_before {before = before} stays goes = works_before stays (λ fails. true≢false (sym fails ∙ goes))

pub by_failed : {failed : Bool} {P : Type 0} → (failed ≡ true → P) → (failed ≡ false → P) → P
by_failed {failed = failed} {P = P} fails works = by (cases_Bool failed)
  where
    by : (failed ≡ true) ⊎ (failed ≡ false) → P
    by (inl f) = fails f
    by (inr w) = works w

pub not_told : {T E : Type 0} (result : Result T E) (told : Bool) (did : PlainTurn) (clock : ℕ) (was now : Watched) → told ≡ is_ok result → now ≡ told_if told did clock was → OnErr result (now ≡ was)
not_told (Ok x) told did clock was now is e = tt
not_told (Err x) told did clock was now is e = e ∙ ap (λ (b : Bool). told_if b did clock was) is

-- A call was one event, that of this turn where it was done
abbrev pub Does : {tells tells_images : Type 0} → Opening → List Event → (t0 : ℕ) → (old : Disk tells tells_images) → RecorderState → (new : Disk tells tells_images) → PlainTurn → Type 0
Does opening events t0 old after new did = (act : Act) × HasDone opening events t0 act after old new × (after.vault.failed ≡ false → act ≡ act_of opening events did)

-- Where a write had failed before, a call does nothing
module _ {tells tells_images hears : Type 0} (was : Watched) (r : RecorderState) (old : Disk tells tells_images) (w : IsWatched hears was r old) (after : RecorderState) (new : Disk tells tells_images) (now : Watched) where
  pub watched_by : (did : PlainTurn) (told : Bool) → not after.vault.failed ≡ told → (hears → now ≡ told_if told did new.clock was) → (r.vault.failed ≡ true → (after ≡ r) × (new ≡ old)) → (r.vault.failed ≡ false → Called was.synced r old after new did)
      → IsWatched hears now after new
  watched_by did told so is same call = by (cases_Bool r.vault.failed)
    where
      by : (r.vault.failed ≡ true) ⊎ (r.vault.failed ≡ false) → IsWatched hears now after new
      by (inl fails) =
          let s = same fails in
          let none : told ≡ false = sym so ∙ ap (λ (r : RecorderState). not r.vault.failed) s.0 ∙ ap not fails in
          watched_same was r old w after new now s.0 s.1 (λ heard. is heard ∙ ap (λ (b : Bool). told_if b did new.clock was) none)
      by (inr works) = still_watched was r old w after new did (call works) now told so is

-- A start

abbrev pub Started : Type 0
Started = Result (Unit {0}) StartRefused

no_place : (x : Unit {0}) → ◌≡◌ {A = Started} (Ok x) (Err Place) → ⊥
no_place x e = cc

no_tick : (x : Unit {0}) → ◌≡◌ {A = Started} (Ok x) (Err Tick) → ⊥
no_tick x e = cc

fault_no_place : ◌≡◌ {A = Started} (Err Fault) (Err Place) → ⊥
fault_no_place e = cc

fault_no_tick : ◌≡◌ {A = Started} (Err Fault) (Err Tick) → ⊥
fault_no_tick e = cc

pub start_told : (result : Started) (failed told : Bool) → told ≡ is_ok result → OnOk result (failed ≡ false) → (result ≡ Err Fault → failed ≡ true) → (result ≡ Err Place → ⊥) → (result ≡ Err Tick → ⊥) → not failed ≡ told
start_told (Ok x) failed told is works fails np nt = ap not works ∙ sym is
start_told (Err Place) failed told is works fails np nt = absurd (np refl)
start_told (Err Tick) failed told is works fails np nt = absurd (nt refl)
start_told (Err Fault) failed told is works fails np nt = ap not (fails refl) ∙ sym is

module _ {tells tells_images hears : Type 0} (was : Watched) (r : RecorderState) (old : Disk tells tells_images) (w : IsWatched hears was r old) (after : RecorderState) (new : Disk tells tells_images) (result : Started)
    (call : r.vault.failed ≡ false → (result ≡ Err Place → ⊥) → (result ≡ Err Tick → ⊥) → Called was.synced r old after new turns.Start)
    (failed : r.vault.failed ≡ true → (result ≡ Err Fault) × (after ≡ r) × (new ≡ old)) where
  works_ok_before : (x : Unit {0}) → result ≡ Ok x → r.vault.failed ≡ false
  works_ok_before x ok = by (cases_Bool r.vault.failed)
    where
      by : (r.vault.failed ≡ true) ⊎ (r.vault.failed ≡ false) → r.vault.failed ≡ false
      by (inl fails) = let e = sym ok ∙ (failed fails).0 in let none : ⊥ = cc in absurd none
      by (inr works) = works

  pub may_start : (told : Bool) → told ≡ is_ok result → told ≡ true → OnOk result (after.vault.failed ≡ false) → hears → ShowsTold (with_turn was turns.Start new.clock) new
  may_start told is told_so works = by result refl works is
    where
      by : (res : Started) → result ≡ res → OnOk res (after.vault.failed ≡ false) → told ≡ is_ok res → hears → ShowsTold (with_turn was turns.Start new.clock) new
      by (Ok x) ok goes is = may_tell was r old w after new turns.Start (call (works_ok_before x ok) (λ e. no_place x (sym ok ∙ e)) (λ e. no_tick x (sym ok ∙ e))) goes
      by (Err e) err goes is = absurd (true≢false (sym told_so ∙ is))

  pub watched_start : (now : Watched) (told : Bool) → told ≡ is_ok result → OnOk result (after.vault.failed ≡ false) → (result ≡ Err Fault → after.vault.failed ≡ true)
      → ((result ≡ Err Place) ⊎ (result ≡ Err Tick) → (after ≡ r) × (new ≡ old)) → (hears → now ≡ told_if told turns.Start new.clock was) → IsWatched hears now after new
  watched_start now told is works fails refused tell = by result refl works fails is
    where
      untold : told ≡ false → hears → now ≡ was
      untold none heard = tell heard ∙ ap (λ (b : Bool). told_if b turns.Start new.clock was) none

      by : (res : Started) → result ≡ res → OnOk res (after.vault.failed ≡ false) → (res ≡ Err Fault → after.vault.failed ≡ true) → told ≡ is_ok res → IsWatched hears now after new
      by (Ok x) ok goes fails is = still_watched was r old w after new turns.Start (call (works_ok_before x ok) (λ e. no_place x (sym ok ∙ e)) (λ e. no_tick x (sym ok ∙ e))) now told (ap not goes ∙ sym is) tell
      by (Err Place) err goes fails is = let s = refused (inl err) in watched_same was r old w after new now s.0 s.1 (untold is)
      by (Err Tick) err goes fails is = let s = refused (inr err) in watched_same was r old w after new now s.0 s.1 (untold is)
      by (Err Fault) err goes fails is = watched_by was r old w after new now turns.Start told (ap not (fails refl) ∙ sym is) tell (λ had. let s = failed had in (s.1, s.2))
          (λ works. call works (λ e. fault_no_place (sym err ∙ e)) (λ e. fault_no_tick (sym err ∙ e)))

-- Looks

pub look_at : {tells tells_images : Type 0} (t0 : ℕ) (r : RecorderState) (disk : Disk tells tells_images) (opening : Opening) (events : List Event) → HasRecorded opening events t0 r disk → HasDone opening events t0 Look r disk disk
look_at t0 r disk opening events h = look_done opening events t0 r disk disk h r.vault (same_disk disk) refl refl refl refl refl refl (λ placed stands. stands)

pub look_called : {tells tells_images : Type 0} (t0 : ℕ) (r : RecorderState) (disk : Disk tells tells_images) → Called t0 r disk r disk turns.Look
look_called t0 r disk opening events told h = (Look, look_at t0 r disk opening events h, λ works. refl)

-- A save

module _ {tells tells_images : Type 0} (label : List ℕ) (t0 : ℕ) (r : RecorderState) (old : Disk tells tells_images) (after : RecorderState) (new : Disk tells tells_images) (saved : Result ℕ SaveRefused) (works : r.vault.failed ≡ false)
    (saves_so : (opening : Opening) (events : List Event) (t0 : ℕ) → tells → r.vault.failed ≡ false → save_refusal label r.vault ≡ None → ((m offset : ℕ) → saved ≡ Err (saves.Damaged m offset) → ⊥)
    → HasRecorded opening events t0 r old → (id : ℕ) × (a : ℕ) × (b : ℕ) × IfOk saved (λ told. told ≡ id) × HasDone opening events t0 (Save id label a b) after old new)
    (looked : (opening : Opening) (events : List Event) (t0 : ℕ) (refused : SaveRefused) → (r.vault.failed ≡ true) ⊎ (save_refusal label r.vault ≡ Some refused)
    → HasRecorded opening events t0 r old → HasDone opening events t0 Look after old new)
    (met_damage : (opening : Opening) (events : List Event) (t0 m offset : ℕ) → tells → saved ≡ Err (saves.Damaged m offset) → HasRecorded opening events t0 r old → HasDone opening events t0 Look after old new)
    (refused_so : (refused : SaveRefused) → r.vault.failed ≡ false → save_refusal label r.vault ≡ Some refused → saved ≡ Err refused)
    (reason : (refused : SaveRefused) → saved ≡ Err refused → (refused ≡ saves.Label) ⊎ ((refused ≡ saves.Nothing) ⊎ (refused ≡ saves.TableFull)) → save_refusal label r.vault ≡ Some refused)
    (fails : saved ≡ Err saves.Fault → after.vault.failed ≡ true) where
  -- a save that was done is that of the history
  saved_act : (opening : Opening) (events : List Event) (id a b : ℕ) → HasDone opening events t0 (Save id label a b) after old new → Save id label a b ≡ act_of opening events (turns.Save label)
  saved_act opening events id a b d = save_is opening events label id a b (subst (λ (act : Act). MayCome opening events act) d.act_is (come_last opening events d.event d.has.history.follow))

  not_refused : {P : Type 0} (id : ℕ) → saved ≡ Ok id → (refused : SaveRefused) → save_refusal label r.vault ≡ Some refused → P
  not_refused id ok refused some = let e = sym ok ∙ refused_so refused works some in let none : ⊥ = cc in absurd none

  -- where nothing stood in its way and no damage was met
  pub saved_did : (opening : Opening) (events : List Event) (id a b : ℕ) → HasDone opening events t0 (Save id label a b) after old new → save_refusal label r.vault ≡ None → ((m offset : ℕ) → saved ≡ Err (saves.Damaged m offset) → ⊥)
      → after.vault.failed ≡ false → Save id label a b ≡ act_of opening events (turn_of_save saved label)
  saved_did opening events id a b d none whole goes = by saved refl
    where
      reasoned : (refused : SaveRefused) → save_refusal label r.vault ≡ Some refused → ⊥
      reasoned refused some = let e = sym none ∙ some in cc

      by : (res : Result ℕ SaveRefused) → saved ≡ res → Save id label a b ≡ act_of opening events (turn_of_save res label)
      by (Ok told) e = saved_act opening events id a b d
      by (Err saves.Label) e = absurd (reasoned saves.Label (reason saves.Label e (inl refl)))
      by (Err saves.Nothing) e = absurd (reasoned saves.Nothing (reason saves.Nothing e (inr (inl refl))))
      by (Err saves.TableFull) e = absurd (reasoned saves.TableFull (reason saves.TableFull e (inr (inr refl))))
      by (Err (saves.Damaged m offset)) e = absurd (whole m offset e)
      by (Err saves.Fault) e = absurd (true≢false (sym (fails e) ∙ goes))

  pub save_called : Called t0 r old after new (turn_of_save saved label)
  save_called opening events told h = by saved refl
    where
      look_of : (refused : SaveRefused) → save_refusal label r.vault ≡ Some refused → HasDone opening events t0 Look after old new
      look_of refused some = looked opening events t0 refused (inr some) h

      by_refusal : (id : ℕ) → saved ≡ Ok id → (o : Option SaveRefused) → save_refusal label r.vault ≡ o → Does opening events t0 old after new (turns.Save label)
      by_refusal id ok (Some refused) some = not_refused id ok refused some
      by_refusal id ok None none =
          let s = saves_so opening events t0 told works none (λ m offset e. let f = sym ok ∙ e in cc) h in
          (Save s.0 label s.1 s.2, s.4, λ goes. saved_act opening events s.0 s.1 s.2 s.4)

      by_fault : saved ≡ Err saves.Fault → (o : Option SaveRefused) → save_refusal label r.vault ≡ o → Does opening events t0 old after new turns.Look
      by_fault fault (Some refused) some = (Look, look_of refused some, λ goes. refl)
      by_fault fault None none =
          let s = saves_so opening events t0 told works none (λ m offset e. let f = sym fault ∙ e in cc) h in
          (Save s.0 label s.1 s.2, s.4, λ goes. absurd (true≢false (sym (fails fault) ∙ goes)))

      by : (res : Result ℕ SaveRefused) → saved ≡ res → Does opening events t0 old after new (turn_of_save res label)
      by (Ok id) e = by_refusal id e (save_refusal label r.vault) refl
      by (Err saves.Label) e = (Look, look_of saves.Label (reason saves.Label e (inl refl)), λ goes. refl)
      by (Err saves.Nothing) e = (Look, look_of saves.Nothing (reason saves.Nothing e (inr (inl refl))), λ goes. refl)
      by (Err saves.TableFull) e = (Look, look_of saves.TableFull (reason saves.TableFull e (inr (inr refl))), λ goes. refl)
      by (Err (saves.Damaged m offset)) e = (Look, met_damage opening events t0 m offset told e h, λ goes. refl)
      by (Err saves.Fault) e = by_fault e (save_refusal label r.vault) refl

-- a save that was refused is a look
pub refused_did : (opening : Opening) (events : List Event) (label : List ℕ) (saved : Result ℕ SaveRefused) (refused : SaveRefused) → saved ≡ Err refused → Look ≡ act_of opening events (turn_of_save saved label)
refused_did opening events label saved refused is = ap (λ (r : Result ℕ SaveRefused). act_of opening events (turn_of_save r label)) (sym is)

-- A release

module _ {tells tells_images : Type 0} (id t0 : ℕ) (r : RecorderState) (old : Disk tells tells_images) (after : RecorderState) (new : Disk tells tells_images) (released : Result ⊤ ReleaseRefused) (works : r.vault.failed ≡ false)
    (releases_so : (opening : Opening) (events : List Event) (t0 : ℕ) (saved : Incident) → tells → r.vault.failed ≡ false → live r.vault.table id ≡ Some saved → HasRecorded opening events t0 r old
    → HasDone opening events t0 (Release id) after old new)
    (looked : (opening : Opening) (events : List Event) (t0 : ℕ) → (r.vault.failed ≡ true) ⊎ (live r.vault.table id ≡ None) → HasRecorded opening events t0 r old → HasDone opening events t0 Look after old new)
    (refused_so : live r.vault.table id ≡ None → released ≡ Err releases.NoSuch)
    (reason : released ≡ Err releases.NoSuch → live r.vault.table id ≡ None)
    (fails : released ≡ Err releases.Fault → after.vault.failed ≡ true) where
  pub released_did : (opening : Opening) (events : List Event) (saved : Incident) → live r.vault.table id ≡ Some saved → after.vault.failed ≡ false → Release id ≡ act_of opening events (turn_of_release released id)
  released_did opening events saved some goes = by released refl
    where
      by : (res : Result ⊤ ReleaseRefused) → released ≡ res → Release id ≡ act_of opening events (turn_of_release res id)
      by (Ok x) e = refl
      by (Err releases.NoSuch) e = let n = sym (reason e) ∙ some in let none : ⊥ = cc in absurd none
      by (Err releases.Fault) e = absurd (true≢false (sym (fails e) ∙ goes))

  pub release_called : Called t0 r old after new (turn_of_release released id)
  release_called opening events told h = by (live r.vault.table id) refl
    where
      by : (o : Option Incident) → live r.vault.table id ≡ o → Does opening events t0 old after new (turn_of_release released id)
      by (Some saved) some = (Release id, releases_so opening events t0 saved told works some h, λ goes. released_did opening events saved some goes)
      by None none = (Look, looked opening events t0 (inr none) h, λ goes. ap (λ (r : Result ⊤ ReleaseRefused). act_of opening events (turn_of_release r id)) (sym (refused_so none)))

pub unreleased_did : (opening : Opening) (events : List Event) (id : ℕ) (released : Result ⊤ ReleaseRefused) (refused : ReleaseRefused) → released ≡ Err refused → Look ≡ act_of opening events (turn_of_release released id)
unreleased_did opening events id released refused is = ap (λ (r : Result ⊤ ReleaseRefused). act_of opening events (turn_of_release r id)) (sym is)

-- An opening

module _ {tells tells_images : Type 0} (old new : Disk tells tells_images) where
  -- from the clock of its return on
  abbrev pub RecordedNow : RecorderState → Type 0
  RecordedNow r = (x : Contents) → tells → HoldsContents old.reads x → AreSound x → HasRecorded (opening_of x) [] new.clock r new

  pub recorded_now : {E : Type 0} (result : Result RecorderState E)
      → IfOk result (λ r. (x : Contents) → tells → HoldsContents old.reads x → AreSound x → (t0 : ℕ) × (old.clock ≤ t0) × (t0 ≤ new.clock) × HasRecorded (opening_of x) [] t0 r new) → IfOk result RecordedNow
  recorded_now (Ok r) opened = λ x told holds sound. later (opening_of x) r (opened x told holds sound)
    where
      later : (opening : Opening) (r : RecorderState) → (t0 : ℕ) × (old.clock ≤ t0) × (t0 ≤ new.clock) × HasRecorded opening [] t0 r new → HasRecorded opening [] new.clock r new
      later opening r (t0, from, upto, h) = record {
        history = h.history;
        made = h.made;
        failed = h.failed;
        told = h.told;
        rises = omega arith;
        kept = keeps_since (ShowsHistory opening) [] t0 new.clock new upto h.kept;
        works = h.works;
      }
  recorded_now (Err e) opened = tt

  pub watched_opened : {E hears : Type 0} (w : Watched) (result : Result RecorderState E) → IfOk result RecordedNow → (hears → w ≡ record { found = old.reads; synced = new.clock; turns = [] }) → IfOk result (λ r. IsWatched hears w r new)
  watched_opened w (Ok r) recorded is = λ heard tell x holds sound.
      let e = is heard in
      subst (λ (w : Watched). HasRecordedTold (opening_of x) w r new) (sym e)
      (record { events = []; has = recorded x tell (subst (λ (w : Watched). HoldsContents w.found x) e holds) sound; told = refl })
  watched_opened w (Err e) recorded is = tt

  pub shows_opened : {E hears : Type 0} (w : Watched) (result : Result RecorderState E) → is_ok result ≡ true → IfOk result RecordedNow → (hears → w.found ≡ old.reads) → hears → ShowsTold (record w { turns = [] }) new
  shows_opened w (Ok r) ok recorded found heard tell x holds sound i now =
      (recorded x tell (subst (λ (image : Image). HoldsContents image x) (found heard) holds) sound).kept.now (All-nil (λ (e : Event). e.moment ≢ None)) i now
  shows_opened w (Err e) ok recorded found heard tell x holds sound i now = absurd (true≢false (sym ok))
