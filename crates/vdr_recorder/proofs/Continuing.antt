-- A recorder's history grows by one event, and what it leaves of its runs.
use Rattle.std.proofs.Common.{◌≡◌, ◌≢◌, ◌+◌, ℕ, List, [], ◌∷◌, ◌++◌, length, flat_map, Bool, true, false, if◌then◌else◌, Option, Some, None, option_map, refl, sym, ap, ◌∙◌, subst, arith, append-nil, length-append}
use Rattle.std.proofs.lemmas.List.Elements.{All-nil, All-cons, All-head, All-tail}
use Rattle.std.proofs.lemmas.Grind.{flat_map-append}
use Rattle.vdr_terms.specs.Records.{Record, last}
use Rattle.vdr_terms.specs.Rates.{Limit}
use Rattle.vdr_core.specs.Taken.{Captured}
use Rattle.vdr_core.specs.Histories.{Act, Event, Opening, Continues, EndsBy, done, done_from, incidents, next_place, last_stamp, recorded, records_of_act, stamp_of}
use Rattle.vdr_core.specs.Histories.Act.{Commit, Save, Release, Look}
use Rattle.vdr_core.specs.RunStates.{RunState, AreMadeFrom, IsMadeIn, IsRecorderHistory, after_act, begin_run, has_failed, next_start, state_along, state_left, state_opened}
use Rattle.vdr_core.proofs.MadeHistory.{made_runs_on}
use Rattle.vdr_core.proofs.Commits.{continues_back}
use Rattle.vdr_core.proofs.RecorderHistory.{stamp_append, made_snoc}
use Rattle.vdr_durability.specs.Keeping.{IsWhole, moment_of}
use Rattle.vdr_durability.proofs.Acknowledged.{whole_last}
use Rattle.vdr_durability.proofs.Whole.{whole_has_not_failed}
use Rattle.vdr_durability.specs.Commits.{IsDoneIn}
use Rattle.vdr_durability.specs.Media.{state_after}
use Rattle.vdr_durability.proofs.Media.{all_made}
use Rattle.vdr_outside.specs.Disk.{Disk}
use Rattle.vdr_directory.specs.Sequence.{Placed}
use Rattle.vdr_vault.specs.Vaults.{VaultState, Stands, of_stamp}
use Rattle.vdr_recorder.specs.Recordings.{TellsLeft, acts_of, start_of_opening}

-- Events that all have a moment are done.
kept_event : (o : Option ℕ) (e : Event) (later events : List Event) → o ≢ None → later ≡ events → done_from o e later ≡ e ∷ events
kept_event None e later events some same = absurd (some refl)
kept_event (Some m) e later events some same = ap (λ (es : List Event). e ∷ es) same

pub done_whole : (events : List Event) → IsWhole events → done events ≡ events
done_whole [] whole = refl
done_whole (e ∷ es) whole =
    kept_event e.moment e (done es) es (All-head (λ (e : Event). e.moment ≢ None) e es whole) (done_whole es (All-tail (λ (e : Event). e.moment ≢ None) e es whole))

-- An event without a moment is not done.
pub done_without : (events : List Event) (e : Event) → e.moment ≡ None → done (events ++ e ∷ []) ≡ done events
done_without [] e none = ap (λ (o : Option ℕ). done_from o e []) none
done_without (x ∷ xs) e none = ap (done_from x.moment x) (done_without xs e none)

pub whole_with : (events : List Event) (e : Event) → IsWhole events → e.moment ≢ None → IsWhole (events ++ e ∷ [])
whole_with [] e whole some = All-cons (λ (e : Event). e.moment ≢ None) e [] some (All-nil (λ (e : Event). e.moment ≢ None))
whole_with (x ∷ xs) e whole some =
    All-cons (λ (e : Event). e.moment ≢ None) x (xs ++ e ∷ []) (All-head (λ (e : Event). e.moment ≢ None) x xs whole) (whole_with xs e (All-tail (λ (e : Event). e.moment ≢ None) x xs whole) some)

-- The acts of events, and their records.
pub acts_with : (events : List Event) (e : Event) → acts_of (events ++ e ∷ []) ≡ acts_of events ++ e.act ∷ []
acts_with [] e = refl
acts_with (x ∷ xs) e = ap (λ (acts : List Act). x.act ∷ acts) (acts_with xs e)

pub recorded_acts : (events : List Event) → flat_map records_of_act (acts_of events) ≡ recorded events
recorded_acts [] = refl
recorded_acts (x ∷ xs) = ap (λ (rs : List Record). records_of_act x.act ++ rs) (recorded_acts xs)

-- What a further act leaves.
along_with : (s : RunState) (acts : List Act) (act : Act) → state_along s (acts ++ act ∷ []) ≡ after_act (state_along s acts) act
along_with s [] act = refl
along_with s (x ∷ xs) act = along_with (after_act s x) xs act

-- The events before a pending one leave what their acts do.
pub left_whole : (opening : Opening) (events : List Event) → IsWhole events → state_left opening events ≡ state_after (start_of_opening opening) (acts_of events)
left_whole opening events whole = ap (λ (es : List Event). state_along (state_opened opening) (acts_of es)) (done_whole events whole)

pub left_with : (opening : Opening) (events : List Event) (e : Event) → IsWhole events → e.moment ≢ None → state_left opening (events ++ e ∷ []) ≡ after_act (state_left opening events) e.act
left_with opening events e whole some =
    left_whole opening (events ++ e ∷ []) (whole_with events e whole some)
    ∙ ap (λ (acts : List Act). state_along (state_opened opening) acts) (acts_with events e)
    ∙ along_with (state_opened opening) (acts_of events) e.act
    ∙ ap (λ (s : RunState). after_act s e.act) (sym (left_whole opening events whole))

-- A pending event leaves what those before it do.
pub left_without : (opening : Opening) (events : List Event) (e : Event) → e.moment ≡ None → state_left opening (events ++ e ∷ []) ≡ state_left opening events
left_without opening events e none = ap (λ (es : List Event). state_along (state_opened opening) (acts_of es)) (done_without events e none)

-- A run's limits and channels are those of the opening.
chosen_limits : (b : Bool) (s : RunState) → (if b then next_start s else s.start).limits ≡ s.start.limits
chosen_limits true s = refl
chosen_limits false s = refl

chosen_channels : (b : Bool) (s : RunState) → (if b then next_start s else s.start).channels ≡ s.start.channels
chosen_channels true s = refl
chosen_channels false s = refl

act_limits : (s : RunState) (act : Act) → (after_act s act).start.limits ≡ s.start.limits
act_limits s (Commit records taken) = chosen_limits (begin_run records) s
act_limits s (Save id label a b) = refl
act_limits s (Release id) = refl
act_limits s Look = refl

act_channels : (s : RunState) (act : Act) → (after_act s act).start.channels ≡ s.start.channels
act_channels s (Commit records taken) = chosen_channels (begin_run records) s
act_channels s (Save id label a b) = refl
act_channels s (Release id) = refl
act_channels s Look = refl

along_limits : (s : RunState) (acts : List Act) → (state_along s acts).start.limits ≡ s.start.limits
along_limits s [] = refl
along_limits s (act ∷ acts) = along_limits (after_act s act) acts ∙ act_limits s act

along_channels : (s : RunState) (acts : List Act) → (state_along s acts).start.channels ≡ s.start.channels
along_channels s [] = refl
along_channels s (act ∷ acts) = along_channels (after_act s act) acts ∙ act_channels s act

-- The next place and the last stamp are those of the records.
act_place : (s : RunState) (act : Act) → (after_act s act).place ≡ s.place + length (records_of_act act)
act_place s (Commit records taken) = refl
act_place s (Save id label a b) = omega arith
act_place s (Release id) = omega arith
act_place s Look = omega arith

act_stamp : (s : RunState) (act : Act) → (after_act s act).last ≡ stamp_of (last (records_of_act act)) s.last
act_stamp s (Commit records taken) = refl
act_stamp s (Save id label a b) = refl
act_stamp s (Release id) = refl
act_stamp s Look = refl

along_place : (s : RunState) (acts : List Act) → (state_along s acts).place ≡ s.place + length (flat_map records_of_act acts)
along_place s [] = omega arith
along_place s (act ∷ acts) =
    let a = along_place (after_act s act) acts in
    let b = act_place s act in
    let c = length-append (records_of_act act) (flat_map records_of_act acts) in
    omega (arith, a, b, c)

along_stamp : (s : RunState) (acts : List Act) → (state_along s acts).last ≡ stamp_of (last (flat_map records_of_act acts)) s.last
along_stamp s [] = refl
along_stamp s (act ∷ acts) =
    along_stamp (after_act s act) acts
    ∙ ap (stamp_of (last (flat_map records_of_act acts))) (act_stamp s act)
    ∙ sym (stamp_append (records_of_act act) (flat_map records_of_act acts) s.last)

module _ (opening : Opening) (events : List Event) (whole : IsWhole events) where
  pub left_limits : (state_left opening events).start.limits ≡ opening.settings.limits
  left_limits = ap (λ (s : RunState). s.start.limits) (left_whole opening events whole) ∙ along_limits (state_opened opening) (acts_of events)

  pub left_channels : (state_left opening events).start.channels ≡ opening.settings.channels
  left_channels = ap (λ (s : RunState). s.start.channels) (left_whole opening events whole) ∙ along_channels (state_opened opening) (acts_of events)

  pub left_place : (state_left opening events).place ≡ next_place opening events
  left_place =
      ap (λ (s : RunState). s.place) (left_whole opening events whole)
      ∙ along_place (state_opened opening) (acts_of events)
      ∙ ap (λ (rs : List Record). opening.next_place + length rs) (recorded_acts events)

  pub left_stamp : (state_left opening events).last ≡ last_stamp opening events
  left_stamp =
      ap (λ (s : RunState). s.last) (left_whole opening events whole)
      ∙ along_stamp (state_opened opening) (acts_of events)
      ∙ ap (λ (rs : List Record). stamp_of (last rs) opening.last) (recorded_acts events)

  -- A vault at rest tells what they leave.
  pub told_at_rest : {tells tells_images : Type 0} (vault : VaultState) (placed : ℕ → List Placed) (disk : Disk tells tells_images) → Stands opening events vault placed disk → TellsLeft opening events vault
  told_at_rest vault placed disk stands = record {
    place = stands.goes_on ∙ sym left_place;
    stamp = stands.newest ∙ ap (option_map of_stamp) (sym left_stamp);
    table = stands.incidents_are ∙ ap (incidents opening) (sym (done_whole events whole));
  }

-- After a pending event it tells what it told before.
pub told_without : (opening : Opening) (events : List Event) (e : Event) (before after : VaultState) → e.moment ≡ None → TellsLeft opening events before
    → after.next_place ≡ before.next_place → after.last ≡ before.last → after.table ≡ before.table → TellsLeft opening (events ++ e ∷ []) after
told_without opening events e before after none told place stamp table = record {
  place = place ∙ told.place ∙ ap (λ (s : RunState). s.place) (sym (left_without opening events e none));
  stamp = stamp ∙ told.stamp ∙ ap (λ (s : RunState). option_map of_stamp s.last) (sym (left_without opening events e none));
  table = table ∙ told.table ∙ ap (incidents opening) (sym (done_without events e none));
}

-- A look is made in any state.
pub made_looks : (opening : Opening) (events : List Event) (e : Event) → IsRecorderHistory opening events → e.act ≡ Look → IsRecorderHistory opening (events ++ e ∷ [])
made_looks opening events e made looks = subst (AreMadeFrom (state_opened opening)) (sym (acts_with events e))
    (made_snoc (state_opened opening) (acts_of events) e.act made (subst (IsMadeIn (state_along (state_opened opening) (acts_of events))) (sym looks) tt))

-- A commit of what a recorder makes comes next.
module _ (opening : Opening) (events : List Event) (whole : IsWhole events) (made : IsRecorderHistory opening events) where
  pub act_made : (limits : ℕ → Limit) (batch : ℕ) (act : Act) → IsDoneIn limits batch (state_left opening events) act → IsMadeIn (state_left opening events) act
  act_made limits batch act h = (all_made limits batch (state_left opening events) (act ∷ []) (h, tt)).0

  pub made_grows : (e : Event) → IsMadeIn (state_left opening events) e.act → IsRecorderHistory opening (events ++ e ∷ [])
  made_grows e h = subst (AreMadeFrom (state_opened opening)) (sym (acts_with events e))
      (made_snoc (state_opened opening) (acts_of events) e.act made (subst (λ (s : RunState). IsMadeIn s e.act) (left_whole opening events whole) h))

  pub commit_continues : (records : List Record) (taken : List Captured) → IsMadeIn (state_left opening events) (Commit records taken)
      → Continues opening.settings.channels (next_place opening events) records
  commit_continues records taken h =
      let all = made_snoc (state_opened opening) (acts_of events) (Commit records taken) made (subst (λ (s : RunState). IsMadeIn s (Commit records taken)) (left_whole opening events whole) h) in
      let runs = (made_runs_on (start_of_opening opening) (acts_of events ++ Commit records taken ∷ []) all).0 in
      subst (λ (rs : List Record). Continues opening.settings.channels (opening.next_place + length rs) records) (recorded_acts events)
      (continues_back opening.settings.channels opening.next_place (flat_map records_of_act (acts_of events)) records
      (subst (Continues opening.settings.channels opening.next_place) (same records) runs))
    where
      same : (records : List Record) → flat_map records_of_act (acts_of events ++ Commit records taken ∷ []) ≡ flat_map records_of_act (acts_of events) ++ records
      same records = flat_map-append records_of_act (acts_of events) (Commit records taken ∷ []) ∙ ap (λ (rs : List Record). flat_map records_of_act (acts_of events) ++ rs) (append-nil records)

-- Whether the events end with a fault.
some_moment : (failed : Bool) (clock : ℕ) → failed ≡ false → moment_of failed clock ≢ None
some_moment false clock e none = clash clock none
  where
    clash : (m : ℕ) → Some m ≡ None → ⊥
    clash m e = cc
some_moment true clock e none = clash e
  where
    clash : true ≡ false → ⊥
    clash e = cc

pub has_moment : (failed : Bool) (clock : ℕ) (o : Option ℕ) → o ≡ moment_of failed clock → failed ≡ false → o ≢ None
has_moment failed clock o same works none = some_moment failed clock works (sym same ∙ none)

pub fails_with : (failed : Bool) (clock : ℕ) (events : List Event) (e : Event) → (failed ≡ false → IsWhole events) → e.moment ≡ moment_of failed clock → failed ≡ has_failed (events ++ e ∷ [])
fails_with false clock events e whole same = sym ((whole_has_not_failed (events ++ e ∷ [])).0 (whole_with events e (whole refl) (has_moment false clock e.moment same refl)))
fails_with true clock events e whole same = go (has_failed (events ++ e ∷ [])) refl
  where
    go : (b : Bool) → has_failed (events ++ e ∷ []) ≡ b → true ≡ b
    go true h = refl
    go false h = absurd (whole_last events e ((whole_has_not_failed (events ++ e ∷ [])).1 h) same)

pub ends_by : (failed : Bool) (clock : ℕ) (o : Option ℕ) (act : Act) → o ≡ moment_of failed clock → act ≢ Look → EndsBy o act [] (Unit {0})
ends_by failed clock o act same acts = subst (λ (o : Option ℕ). EndsBy o act [] (Unit {0})) (sym same) (go failed)
  where
    go : (failed : Bool) → EndsBy (moment_of failed clock) act [] (Unit {0})
    go true = (acts, tt)
    go false = tt
