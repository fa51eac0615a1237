-- What the recorder's answers come to as replies of its history.
use Rattle.std.proofs.Common.{◌≡◌, ◌⊎◌, inl, inr, ◌&&◌, ◌++◌, not, ℕ, Bool, true, false, List, Option, Some, None, Result, Ok, Err, cond, refl, sym, ap, ◌∙◌, subst}
use Rattle.std.specs.Prelude.{codes, IfOk, count_by, is_none, is_some, option_map, position, suc, ⊤}
use Rattle.std.proofs.lemmas.Bool.{cond-false, cond-true}
use Rattle.vdr_core.specs.Histories.{Act, Event, Incident, MayCome, Opening, incidents, last_stamp, live}
use Rattle.vdr_core.specs.Histories.Act.{Look, Release, Save}
use Rattle.vdr_core.specs.RunStates.{state_left}
use Rattle.vdr_core.specs.Runs.{Stamp, last_tick}
use Rattle.vdr_durability.specs.Keeping.{moment_of}
use Rattle.vdr_durability.specs.Replies.{act_of, release_reply, reply, save_of, save_reply}
use Rattle.vdr_durability.specs.Replies as replies
use Rattle.vdr_durability.specs.Replies.Reply.{Saved, NoLabel, NothingToSave, TableFull, Failed}
use Rattle.vdr_terms.specs.Texts.{is_label}
use Rattle.vdr_incident.specs.declared.refused.ReleaseRefused.{ReleaseRefused}
use Rattle.vdr_incident.specs.declared.refused.ReleaseRefused.TheVariants as releases
use Rattle.vdr_outside.specs.Disk.{Disk}
use Rattle.vdr_config.specs.Configuration.{Selector}
use Rattle.vdr_health.specs.Health.{nothing_gauged}
use Rattle.vdr_health.specs.declared.gauged.Gauged.{Gauged}
use Rattle.vdr_media.specs.Formatted.{members}
use Rattle.vdr_vault.specs.Saves.{refusal_from, save_refusal}
use Rattle.vdr_vault.specs.Vaults.{Stands, of_stamp}
use Rattle.vdr_vault.specs.declared.refused.SaveRefused.{SaveRefused}
use Rattle.vdr_vault.specs.declared.refused.SaveRefused.TheVariants as saves
use Rattle.vdr_control.specs.Orders.{PlainOrder}
use Rattle.vdr_control.specs.Orders.PlainOrder.{Status as StatusOrder, Save as SaveOrder, Release as ReleaseOrder, Incidents as IncidentsOrder, Play as PlayOrder, Evidence as EvidenceOrder, Tell as TellOrder}
use Rattle.vdr_control.specs.Orders.PlainOrder.{Health as HealthOrder}
use Rattle.vdr_control.specs.Orders.PlainOrder.{Export as ExportOrder}
use Rattle.vdr_recorder.specs.Recordings.{HasRecorded, RecorderState}
use Rattle.vdr_recorder.specs.Watched.{DoneAndTold, Watched, id_or_0}
use Rattle.vdr_recorder.specs.Watched.PlainTurn.{Look as ALook}
use Rattle.vdr_run.specs.Starts.{stamp_of}
use Rattle.vdr_recorder.proofs.Answering.{same_disk}
use Rattle.vdr_recorder.proofs.Looking.{look_done}
use Rattle.vdr_reply.specs.Answers.{HasAnswered, Spells, text_at}
use Rattle.vdr_reply.specs.Orders.{act_after, changes, granted_act, health_after, is_granted, text_after}
use Rattle.vdr_reply.specs.Texts.{IsTextOr9, done_line, fault_line, id_line, memory_line, page_text, release_line, save_line, state_line, text_of, with_end}
use Rattle.vdr_teller.specs.Incidents.{incidents_text}
use Rattle.vdr_recorder.proofs.Coming.{come_last, same_some, save_is}
use Rattle.vdr_recorder.proofs.Telling.{done_told}

-- a reply, as the media work or have failed by then
pub said_working : (failed : Bool) (clock : ℕ) (said : List ℕ) → failed ≡ false → text_at (moment_of failed clock) said ≡ said
said_working failed clock said works = ap (λ (b : Bool). text_at (moment_of b clock) said) works

pub said_failed : (failed : Bool) (clock : ℕ) (said : List ℕ) → failed ≡ true → text_at (moment_of failed clock) said ≡ fault_line
said_failed failed clock said fails = ap (λ (b : Bool). text_at (moment_of b clock) said) fails

no_moment : (failed : Bool) (clock : ℕ) → failed ≡ true → moment_of failed clock ≡ None
no_moment failed clock fails = ap (λ (b : Bool). moment_of b clock) fails

-- a page with its end
pub page_is : (told : List ℕ) → done_line ++ told ++ codes ".\n" ≡ page_text told
unfolding page_text
page_is told = refl

tick_is : (o : Option Stamp) → last_tick (option_map stamp_of (option_map of_stamp o)) ≡ last_tick o
tick_is None = refl
tick_is (Some s) = refl

-- a save that is refused, and one that is not
refused_so : (labelled : Bool) (stamp : Option Stamp) (free : Option ℕ) (refused : SaveRefused) → refusal_from labelled (option_map of_stamp stamp) free ≡ Some refused
    → (text_of (save_reply labelled stamp (option_map suc free)) ≡ save_line (Err refused))
    × ((opening : Opening) (events : List Event) (label : List ℕ) → act_of opening events (replies.Order.Save label) (save_reply labelled stamp (option_map suc free)) ≡ Look)
refused_so false stamp free refused e = (subst (λ (x : SaveRefused). text_of NoLabel ≡ save_line (Err x)) (same_some saves.Label refused e) refl, λ opening events label. refl)
refused_so true None free refused e = (subst (λ (x : SaveRefused). text_of NothingToSave ≡ save_line (Err x)) (same_some saves.Nothing refused e) refl, λ opening events label. refl)
refused_so true (Some s) None refused e = (subst (λ (x : SaveRefused). text_of TableFull ≡ save_line (Err x)) (same_some saves.TableFull refused e) refl, λ opening events label. refl)
refused_so true (Some s) (Some slot) refused e = let none : ⊥ = cc in absurd none

granted_so : (labelled : Bool) (stamp : Option Stamp) (free : Option ℕ) (id : ℕ) → refusal_from labelled (option_map of_stamp stamp) free ≡ None → option_map suc free ≡ Some id
    → save_reply labelled stamp (option_map suc free) ≡ Saved id
granted_so false stamp free id e is = let none : ⊥ = cc in absurd none
granted_so true None free id e is = let none : ⊥ = cc in absurd none
granted_so true (Some s) None id e is = let none : ⊥ = cc in absurd none
granted_so true (Some s) (Some slot) id e is = ap Saved (same_some (suc slot) id is)

module _ {tells tells_images : Type 0} (opening : Opening) (events : List Event) (t0 : ℕ) (r : RecorderState) (old : Disk tells tells_images) (h : HasRecorded opening events t0 r old)
    (channels : List Selector) (met_fault : Type 0) (text : List ℕ) (hears : Type 0) (was heard : Watched) where
  -- an order that is a look, whatever was gauged outside
  pub gauged_answer : (gauged : Gauged) (order : PlainOrder) (after : RecorderState) (new : Disk tells tells_images) → changes order r.vault ≡ false → DoneAndTold hears opening events t0 Look after old new was heard
      → (act_after opening events order ≡ Look) ⊎ (after.vault.failed ≡ true)
      → Spells met_fault order (text_at (moment_of after.vault.failed new.clock) (text_after gauged channels opening events order)) text
      → HasAnswered channels met_fault opening events t0 order text r after old new hears was heard
  gauged_answer gauged order after new none d act is = record { done = subst (λ (act : Act). DoneAndTold hears opening events t0 act after old new was heard) (sym looks) d; answer = record { act_is = acts act; gauged = gauged; text_is = is } }
    where
      looks : cond (changes order r.vault) (granted_act opening events order) Look ≡ Look
      looks = cond-false (changes order r.vault) (granted_act opening events order) Look none

      acts : (act_after opening events order ≡ Look) ⊎ (after.vault.failed ≡ true)
          → (cond (changes order r.vault) (granted_act opening events order) Look ≡ act_after opening events order)
          ⊎ ((cond (changes order r.vault) (granted_act opening events order) Look ≡ Look) × (moment_of after.vault.failed new.clock ≡ None))
      acts (inl a) = inl (looks ∙ sym a)
      acts (inr fails) = inr (looks, no_moment after.vault.failed new.clock fails)

  pub looked_answer : (order : PlainOrder) (after : RecorderState) (new : Disk tells tells_images) → changes order r.vault ≡ false → DoneAndTold hears opening events t0 Look after old new was heard
      → (act_after opening events order ≡ Look) ⊎ (after.vault.failed ≡ true)
      → Spells met_fault order (text_at (moment_of after.vault.failed new.clock) (text_after nothing_gauged channels opening events order)) text
      → HasAnswered channels met_fault opening events t0 order text r after old new hears was heard
  looked_answer order after new none d act is = gauged_answer nothing_gauged order after new none d act is

  -- an order that was answered with nothing called
  pub still_answer : (order : PlainOrder) → DoneAndTold hears opening events t0 Look r old old was heard → changes order r.vault ≡ false
      → (act_after opening events order ≡ Look) ⊎ (r.vault.failed ≡ true)
      → Spells met_fault order (text_at (moment_of r.vault.failed old.clock) (text_after nothing_gauged channels opening events order)) text
      → HasAnswered channels met_fault opening events t0 order text r r old old hears was heard
  still_answer order d none act is = looked_answer order r old none d act is

  -- each order after a fault
  pub failed_answer : (order : PlainOrder) → r.vault.failed ≡ true → text ≡ fault_line → (hears → heard ≡ was) → HasAnswered channels met_fault opening events t0 order text r r old old hears was heard
  failed_answer order fails is untold = still_answer order (done_told opening events t0 Look r old old
      (look_done opening events t0 r old old h r.vault (same_disk old) refl refl refl refl refl refl (λ placed stands. stands)) {hears = hears} ALook was heard false (ap not fails) (λ works. refl) untold) (ap (λ (b : Bool). not b && is_granted order r.vault) fails) (inr fails) (spelled order (said_failed r.vault.failed old.clock (text_after nothing_gauged channels opening events order) fails))
    where
      spelled : (order : PlainOrder) → text_at (moment_of r.vault.failed old.clock) (text_after nothing_gauged channels opening events order) ≡ fault_line
          → Spells met_fault order (text_at (moment_of r.vault.failed old.clock) (text_after nothing_gauged channels opening events order)) text
      spelled StatusOrder e = is ∙ sym e
      spelled (SaveOrder label) e = is ∙ sym e
      spelled (ReleaseOrder id) e = is ∙ sym e
      spelled IncidentsOrder e = inl (is ∙ sym e)
      spelled HealthOrder e = is ∙ sym e
      spelled (PlayOrder medium name from to) e = inl (is ∙ sym e)
      spelled (EvidenceOrder id) e = inl (is ∙ sym e)
      spelled (TellOrder medium telling) e = inl (is ∙ sym e)
      spelled (ExportOrder medium name from to exporting) e = inl (is ∙ sym e)

  module _ (works : r.vault.failed ≡ false) where
    stands : Stands opening events r.vault (h.works works).standing.placed old
    stands = (h.works works).standing.stands

    unchanged : (order : PlainOrder) → is_granted order r.vault ≡ false → changes order r.vault ≡ false
    unchanged order none = ap (λ (b : Bool). not b && is_granted order r.vault) works ∙ none

    changed : (order : PlainOrder) → is_granted order r.vault ≡ true → changes order r.vault ≡ true
    changed order some = ap (λ (b : Bool). not b && is_granted order r.vault) works ∙ some

    pub status_answer : DoneAndTold hears opening events t0 Look r old old was heard → text ≡ state_line r.vault.next_place (last_tick (option_map stamp_of r.vault.last)) (count_by is_some r.vault.table)
        → HasAnswered channels met_fault opening events t0 StatusOrder text r r old old hears was heard
    status_answer d is = still_answer StatusOrder d (unchanged StatusOrder refl) (inl refl) (is ∙ told ∙ sym (said_working r.vault.failed old.clock (text_after nothing_gauged channels opening events StatusOrder) works))
      where
        tick : last_tick (option_map stamp_of r.vault.last) ≡ last_tick (last_stamp opening events)
        tick = ap (λ (o : Option (ℕ × _)). last_tick (option_map stamp_of o)) stands.newest ∙ tick_is (last_stamp opening events)

        told : state_line r.vault.next_place (last_tick (option_map stamp_of r.vault.last)) (count_by is_some r.vault.table) ≡ text_of (reply members opening events replies.Order.Status)
        told = λ i. state_line (stands.goes_on i) (tick i) (count_by is_some (stands.incidents_are i))

    -- how the run fares, where this was gauged outside
    pub health_answer : (gauged : Gauged) → DoneAndTold hears opening events t0 Look r old old was heard → text ≡ health_after gauged (state_left opening events)
        → HasAnswered channels met_fault opening events t0 HealthOrder text r r old old hears was heard
    health_answer gauged d is = gauged_answer gauged HealthOrder r old (unchanged HealthOrder refl) d (inl refl) (is ∙ sym (said_working r.vault.failed old.clock (health_after gauged (state_left opening events)) works))

    -- the live incidents, and where there was no memory for them
    pub incidents_answer : (page : List ℕ) → DoneAndTold hears opening events t0 Look r old old was heard → page ≡ done_line ++ incidents_text r.vault.table → IsTextOr9 (with_end page) text
        → HasAnswered channels met_fault opening events t0 IncidentsOrder text r r old old hears was heard
    incidents_answer page d made ends = still_answer IncidentsOrder d (unchanged IncidentsOrder refl) (inl refl) (by ends)
      where
        said : text_at (moment_of r.vault.failed old.clock) (text_after nothing_gauged channels opening events IncidentsOrder) ≡ page_text (incidents_text r.vault.table)
        said = said_working r.vault.failed old.clock (text_after nothing_gauged channels opening events IncidentsOrder) works ∙ ap (λ (t : List (Option Incident)). page_text (incidents_text t)) (sym stands.incidents_are)

        by : IsTextOr9 (with_end page) text → Spells met_fault IncidentsOrder (text_at (moment_of r.vault.failed old.clock) (text_after nothing_gauged channels opening events IncidentsOrder)) text
        by (inl all) = inl (all ∙ ap (λ (l : List ℕ). l ++ codes ".\n") made ∙ page_is (incidents_text r.vault.table) ∙ sym said)
        by (inr none) = inr (none, incidents_text r.vault.table, said)

    pub no_memory_for_incidents : DoneAndTold hears opening events t0 Look r old old was heard → text ≡ memory_line → HasAnswered channels met_fault opening events t0 IncidentsOrder text r r old old hears was heard
    no_memory_for_incidents d is = incidents_answer (done_line ++ incidents_text r.vault.table) d refl (inr is)

    module _ (after : RecorderState) (new : Disk tells tells_images) where
      pub save_answer : (label : List ℕ) (saved : Result ℕ SaveRefused) → text ≡ save_line saved
          → (save_refusal label r.vault ≡ None → ((m offset : ℕ) → saved ≡ Err (saves.Damaged m offset) → ⊥)
          → (id : ℕ) × (a : ℕ) × (b : ℕ) × IfOk saved (λ told. told ≡ id) × DoneAndTold hears opening events t0 (Save id label a b) after old new was heard)
          → ((refused : SaveRefused) → save_refusal label r.vault ≡ Some refused → DoneAndTold hears opening events t0 Look after old new was heard)
          → ((refused : SaveRefused) → save_refusal label r.vault ≡ Some refused → (saved ≡ Err refused) × (after ≡ r))
          → ((refused : SaveRefused) → saved ≡ Err refused → (refused ≡ saves.Label) ⊎ ((refused ≡ saves.Nothing) ⊎ (refused ≡ saves.TableFull)) → save_refusal label r.vault ≡ Some refused)
          → ((m offset : ℕ) → saved ≡ Err (saves.Damaged m offset) → ⊥)
          → (saved ≡ Err saves.Fault → after.vault.failed ≡ true) → ((saved ≡ Err saves.Fault → ⊥) → after.vault.failed ≡ false)
          → HasAnswered channels met_fault opening events t0 (SaveOrder label) text r after old new hears was heard
      save_answer label saved is keeps looked refused reason undamaged fails goes = by_refusal (save_refusal label r.vault) refl
        where
          order : PlainOrder
          order = SaveOrder label

          judged : save_refusal label r.vault ≡ refusal_from (is_label label) (option_map of_stamp (last_stamp opening events)) (position is_none (incidents opening events))
          judged = λ i. refusal_from (is_label label) (stands.newest i) (position is_none (stands.incidents_are i))

          text_by : (res : Result ℕ SaveRefused) → saved ≡ res → save_refusal label r.vault ≡ None → (id : ℕ) → reply members opening events (replies.Order.Save label) ≡ Saved id → IfOk res (λ told. told ≡ id)
              → text ≡ text_at (moment_of after.vault.failed new.clock) (text_after nothing_gauged channels opening events (SaveOrder label))
          text_by (Ok told) e none id answer same =
              is ∙ ap save_line e ∙ ap id_line same ∙ ap text_of (sym answer)
              ∙ sym (said_working after.vault.failed new.clock (text_after nothing_gauged channels opening events (SaveOrder label)) (goes (λ f. let no : ⊥ = cc in no)))
          text_by (Err saves.Label) e none id answer same = let some = reason saves.Label e (inl refl) in let no : ⊥ = cc in absurd no
          text_by (Err saves.Nothing) e none id answer same = let some = reason saves.Nothing e (inr (inl refl)) in let no : ⊥ = cc in absurd no
          text_by (Err saves.TableFull) e none id answer same = let some = reason saves.TableFull e (inr (inr refl)) in let no : ⊥ = cc in absurd no
          text_by (Err (saves.Damaged m offset)) e none id answer same = absurd (undamaged m offset e)
          text_by (Err saves.Fault) e none id answer same =
              is ∙ ap save_line e ∙ sym (said_failed after.vault.failed new.clock (text_after nothing_gauged channels opening events (SaveOrder label)) (fails e))

          by_refusal : (o : Option SaveRefused) → save_refusal label r.vault ≡ o → HasAnswered channels met_fault opening events t0 order text r after old new hears was heard
          by_refusal (Some x) e =
              let so = refused_so (is_label label) (last_stamp opening events) (position is_none (incidents opening events)) x (sym judged ∙ e) in
              let same = refused x e in
              let good : after.vault.failed ≡ false = ap (λ (s : RecorderState). s.vault.failed) same.1 ∙ works in
              looked_answer order after new (unchanged order (ap is_none e)) (looked x e) (inl (so.1 opening events label))
              (is ∙ ap save_line same.0 ∙ sym so.0 ∙ sym (said_working after.vault.failed new.clock (text_after nothing_gauged channels opening events (SaveOrder label)) good))
          by_refusal None e =
              let s = keeps e undamaged in
              let d = s.4 in
              let may : MayCome opening events (Save s.0 label s.1 s.2) = subst (λ (act : Act). MayCome opening events act) d.done.act_is (come_last opening events d.done.event d.done.has.history.follow) in
              let answer = granted_so (is_label label) (last_stamp opening events) (position is_none (incidents opening events)) s.0 (sym judged ∙ e) may.0 in
              let act : cond (changes order r.vault) (granted_act opening events order) Look ≡ granted_act opening events order = cond-true (changes order r.vault) (granted_act opening events order) Look (changed order (ap is_none e)) in
              record {
                done = subst (λ (act : Act). DoneAndTold hears opening events t0 act after old new was heard) (save_is opening events label s.0 s.1 s.2 may ∙ sym act) d;
                answer = record {
                  act_is = inl (act ∙ ap (save_of opening events label) (ap id_or_0 may.0) ∙ ap (act_of opening events (replies.Order.Save label)) (sym answer));
                  gauged = nothing_gauged;
                  text_is = text_by saved refl e s.0 answer s.3;
                };
              }

      pub release_answer : (id : ℕ) (released : Result ⊤ ReleaseRefused) → text ≡ release_line released
          → ((saved : Incident) → live r.vault.table id ≡ Some saved → DoneAndTold hears opening events t0 (Release id) after old new was heard)
          → (live r.vault.table id ≡ None → DoneAndTold hears opening events t0 Look after old new was heard)
          → (live r.vault.table id ≡ None → (released ≡ Err releases.NoSuch) × (after ≡ r))
          → (released ≡ Err releases.NoSuch → live r.vault.table id ≡ None)
          → (released ≡ Err releases.Fault → after.vault.failed ≡ true) → ((released ≡ Err releases.Fault → ⊥) → after.vault.failed ≡ false)
          → HasAnswered channels met_fault opening events t0 (ReleaseOrder id) text r after old new hears was heard
      release_answer id released is keeps looked refused reason fails goes = by_live (live r.vault.table id) refl
        where
          order : PlainOrder
          order = ReleaseOrder id

          answer_by : (o : Option Incident) → live r.vault.table id ≡ o → reply members opening events (replies.Order.Release id) ≡ release_reply o
          answer_by o e = ap release_reply (ap (λ (t : List (Option Incident)). live t id) (sym stands.incidents_are) ∙ e)

          text_by : (res : Result ⊤ ReleaseRefused) → released ≡ res → (saved : Incident) → live r.vault.table id ≡ Some saved
              → text ≡ text_at (moment_of after.vault.failed new.clock) (text_after nothing_gauged channels opening events (ReleaseOrder id))
          text_by (Ok x) e saved some =
              is ∙ ap release_line e ∙ ap text_of (sym (answer_by (Some saved) some))
              ∙ sym (said_working after.vault.failed new.clock (text_after nothing_gauged channels opening events (ReleaseOrder id)) (goes (λ f. let no : ⊥ = cc in no)))
          text_by (Err releases.NoSuch) e saved some = let none = reason e in let no : ⊥ = cc in absurd no
          text_by (Err releases.Fault) e saved some =
              is ∙ ap release_line e ∙ sym (said_failed after.vault.failed new.clock (text_after nothing_gauged channels opening events (ReleaseOrder id)) (fails e))

          by_live : (o : Option Incident) → live r.vault.table id ≡ o → HasAnswered channels met_fault opening events t0 order text r after old new hears was heard
          by_live None e =
              let same = refused e in
              let good : after.vault.failed ≡ false = ap (λ (s : RecorderState). s.vault.failed) same.1 ∙ works in
              looked_answer order after new (unchanged order (ap is_some e)) (looked e) (inl (ap (act_of opening events (replies.Order.Release id)) (answer_by None e)))
              (is ∙ ap release_line same.0 ∙ ap text_of (sym (answer_by None e)) ∙ sym (said_working after.vault.failed new.clock (text_after nothing_gauged channels opening events (ReleaseOrder id)) good))
          by_live (Some saved) e =
              let act : cond (changes order r.vault) (granted_act opening events order) Look ≡ granted_act opening events order = cond-true (changes order r.vault) (granted_act opening events order) Look (changed order (ap is_some e)) in
              record {
                done = subst (λ (act : Act). DoneAndTold hears opening events t0 act after old new was heard) (sym act) (keeps saved e);
                answer = record {
                  act_is = inl (act ∙ ap (act_of opening events (replies.Order.Release id)) (sym (answer_by (Some saved) e)));
                  gauged = nothing_gauged;
                  text_is = text_by released refl saved e;
                };
              }
