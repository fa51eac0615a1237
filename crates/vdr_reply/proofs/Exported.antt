-- What a file comes to as a reply of the history.
use Rattle.std.proofs.Common.{◌≡◌, ◌⊎◌, ◌-◌, inl, inr, ℕ, ℤ, Bool, true, false, true≢false, List, [], Option, Some, None, Result, Ok, Err, refl, sym, ap, ◌∙◌, subst}
use Rattle.std.specs.Prelude.{All, ⊤}
use Rattle.vdr_terms.specs.Queries.{Query}
use Rattle.vdr_terms.specs.Records.{Record}
use Rattle.vdr_core.specs.Histories.{Event, Opening, incidents}
use Rattle.vdr_core.specs.Histories.Act.{Look}
use Rattle.vdr_core.specs.RunStates.{state_left}
use Rattle.vdr_durability.specs.Keeping.{RiseFrom, moment_of}
use Rattle.vdr_durability.specs.Media.{IsMediumOf}
use Rattle.vdr_durability.specs.Playback.{medium_of, selected}
use Rattle.vdr_durability.specs.Replies.{is_there, play_reply, refusal_of}
use Rattle.vdr_durability.specs.Replies.Reply.{NoIncident}
use Rattle.vdr_durability.proofs.Kept.{keeps_still}
use Rattle.vdr_outside.specs.Disk.{Disk}
use Rattle.vdr_config.specs.Configuration.{Configuration, Selector}
use Rattle.vdr_config.specs.Sizes.{sizes_of}
use Rattle.vdr_directory.specs.Sequence.{segments_in}
use Rattle.vdr_entry.specs.Queries.{asked_medium}
use Rattle.vdr_entry.specs.declared.query.Medium.{Medium}
use Rattle.vdr_media.specs.Formatted.{members, members_with}
use Rattle.vdr_vault.specs.Vaults.{ShowsHistory}
use Rattle.vdr_vault.proofs.Reading.{reads_keep}
use Rattle.vdr_visit.specs.Refusals.{lacks_incident}
use Rattle.vdr_base64.specs.Lines.{lines_of}
use Rattle.vdr_health.specs.Health.{nothing_gauged}
use Rattle.vdr_control.specs.Orders.{PlainOrder}
use Rattle.vdr_control.specs.Orders.PlainOrder.{Export as ExportOrder}
use Rattle.vdr_control.specs.declared.export.Exporting.{Exporting}
use Rattle.vdr_export.specs.Answers.{FileEnds, IsFailure, file_of}
use Rattle.vdr_export.specs.Wishes.{kind_at, wished}
use Rattle.vdr_export.specs.declared.file.File.{File}
use Rattle.vdr_export.specs.declared.refused.ExportRefused.{ExportRefused}
use Rattle.vdr_export.specs.declared.refused.ExportRefused.TheVariants as exports
use Rattle.vdr_export.specs.declared.wish.Wish.{Wish}
use Rattle.vdr_recorder.specs.Looks.{HasLooked}
use Rattle.vdr_recorder.specs.Making.{MakesBy}
use Rattle.vdr_recorder.specs.Recordings.{HasRecorded, IsWorking, RecorderState, acts_of, start_of_opening}
use Rattle.vdr_recorder.specs.Watched.{DoneAndTold, IsWatched, Watched}
use Rattle.vdr_run.specs.declared.maker.Maker.{Maker}
use Rattle.vdr_reply.specs.Answers.{HasAnswered, HasOrderCause, LeavesRest, text_at}
use Rattle.vdr_reply.specs.Exports.{IsSent, LacksMemoryToExport, export_line, file_text, kind_line, made_text, wish_of}
use Rattle.vdr_reply.specs.Orders.{file_for, is_named, query_of, text_after}
use Rattle.vdr_reply.specs.Texts.{fault_line, not_there_line, page_text, text_by}
use Rattle.vdr_reply.proofs.Answered.{looked_answer, page_is, said_working, still_answer}
use Rattle.vdr_reply.proofs.Before.{read_cause}
use Rattle.vdr_reply.proofs.Told.{and_false, lacks_not, there_or_not}

-- ---- reads that are told once they are over

module _ {tells tells_images : Type 0} (query : Query) (r after : RecorderState) (old new : Disk tells tells_images) (read_before read_now faults_before faults_now : List ℕ) (answered : Type 0)
    (l : HasLooked query r after old new read_before read_now faults_before faults_now answered) where
  stays : (after.vault.config ≡ r.vault.config) × (after.vault.table ≡ r.vault.table) × (after.vault.next_place ≡ r.vault.next_place) × (after.vault.last ≡ r.vault.last) × (after.vault.failed ≡ r.vault.failed)
  stays = reads_keep (medium_of query.medium) r.vault after.vault l.read.vault

  working : (opening : Opening) (events : List Event) → IsWorking opening events r old → IsWorking opening events after new
  working opening events w = record {
    standing = record {
      placed = w.standing.placed;
      first = w.standing.first;
      stands = l.read.stands opening events w.standing.placed w.standing.stands;
      media = subst
          (λ (x : Configuration × ℕ). All (λ m. IsMediumOf (sizes_of x.0) (start_of_opening opening) (segments_in (w.standing.first m)) (acts_of events) (segments_in (w.standing.placed m))) (members_with (x.1 - 2)))
          (λ i. (sym stays.0 i, sym l.read.vault.count i)) w.standing.media;
    };
    open_is = l.is_open ∙ w.open_is;
    makes = λ opened. subst (λ (x : Configuration × Maker). MakesBy x.0 (state_left opening events).start (state_left opening events).popped x.1) (λ i. (sym stays.0 i, sym l.maker i))
        (w.makes (sym l.is_open ∙ opened));
  }

  pub recorded_read : (opening : Opening) (events : List Event) (t0 : ℕ) → HasRecorded opening events t0 r old → HasRecorded opening events t0 after new
  recorded_read opening events t0 h = record {
    history = h.history;
    made = h.made;
    failed = stays.4 ∙ h.failed;
    told = record { place = stays.2 ∙ h.told.place; stamp = stays.3 ∙ h.told.stamp; table = stays.1 ∙ h.told.table };
    rises = subst (λ (clock : ℕ). RiseFrom t0 clock events) (sym l.read.unchanged.clock) h.rises;
    kept = keeps_still (ShowsHistory opening) events t0 old new l.read.unchanged h.kept;
    works = λ goes. working opening events (h.works (sym stays.4 ∙ goes));
  }

  pub watched_read : {hears : Type 0} (w : Watched) → IsWatched hears w r old → IsWatched hears w after new
  watched_read w watched heard told x holds sound =
      let h = watched heard told x holds sound in
      record { events = h.events; has = recorded_read _ h.events w.synced h.has; told = h.told }

  pub rest_read : LeavesRest r after
  rest_read = record { config = stays.0; maker = l.maker; is_open = l.is_open; place = stays.2; last = stays.3 }

  pub cause_read : HasOrderCause r.vault.failed after.vault.failed faults_before faults_now
  cause_read = subst (λ (failed : Bool). HasOrderCause r.vault.failed failed faults_before faults_now) (sym stays.4) (read_cause r.vault.failed faults_before faults_now l.cause.later)

-- ---- what is sent

module _ (made : Result (List ℕ) ExportRefused) (text : List ℕ) (met_fault : Type 0) where
  -- the media or the output failed, or there was no memory
  failing : (why : ExportRefused) → IsFailure (Err why) → text ≡ export_line why → (why ≡ exports.Fault → met_fault)
      → (text ≡ made_text made) ⊎ (((text ≡ fault_line) × met_fault) ⊎ LacksMemoryToExport (made_text made) text)
  failing why (inl e) is fault = let same : why ≡ exports.Fault = cc in inr (inl (is ∙ ap export_line same, fault same))
  failing why (inr (inl e)) is fault = let same : why ≡ exports.Output = cc in inr (inr (is ∙ ap export_line same, made, refl))
  failing why (inr (inr e)) is fault = let same : why ≡ exports.NoMemory = cc in inr (inr (is ∙ ap export_line same, made, refl))

pub sent_so : (made : Result (List ℕ) ExportRefused) (result : Result ⊤ ExportRefused) (page text : List ℕ) (met_fault : Type 0) → FileEnds made (Some []) (Some page) result → IsSent result page text
    → (result ≡ Err exports.Fault → met_fault) → (text ≡ made_text made) ⊎ (((text ≡ fault_line) × met_fault) ⊎ LacksMemoryToExport (made_text made) text)
sent_so (Ok bytes) (Ok done) page text met_fault ends (inl all) fault = inl (all ∙ page_is (lines_of page) ∙ ap (λ (l : List ℕ). page_text (lines_of l)) (ends.written bytes refl))
sent_so (Ok bytes) (Ok done) page text met_fault ends (inr none) fault = inr (inr (none, Ok bytes, refl))
sent_so (Ok bytes) (Err why) page text met_fault ends is fault = by (ends.done bytes refl)
  where
    by : (◌≡◌ {A = Result ⊤ ExportRefused} (Err why) (Ok tt)) ⊎ IsFailure (Err why) → (text ≡ made_text (Ok bytes)) ⊎ (((text ≡ fault_line) × met_fault) ⊎ LacksMemoryToExport (made_text (Ok bytes)) text)
    by (inl e) = let none : ⊥ = cc in absurd none
    by (inr failed) = failing (Ok bytes) text met_fault why failed is (λ same. fault (ap Err same))
sent_so (Err reason) (Ok done) page text met_fault ends is fault = by (ends.refused reason refl)
  where
    by : (◌≡◌ {A = Result ⊤ ExportRefused} (Ok done) (Err reason)) ⊎ IsFailure (Ok done) → (text ≡ made_text (Err reason)) ⊎ (((text ≡ fault_line) × met_fault) ⊎ LacksMemoryToExport (made_text (Err reason)) text)
    by (inl e) = let none : ⊥ = cc in absurd none
    by (inr (inl e)) = let none : ⊥ = cc in absurd none
    by (inr (inr (inl e))) = let none : ⊥ = cc in absurd none
    by (inr (inr (inr e))) = let none : ⊥ = cc in absurd none
sent_so (Err reason) (Err why) page text met_fault ends is fault = by (ends.refused reason refl)
  where
    by : (◌≡◌ {A = Result ⊤ ExportRefused} (Err why) (Err reason)) ⊎ IsFailure (Err why) → (text ≡ made_text (Err reason)) ⊎ (((text ≡ fault_line) × met_fault) ⊎ LacksMemoryToExport (made_text (Err reason)) text)
    by (inl e) = let same : why ≡ reason = cc in inl (is ∙ ap export_line same)
    by (inr failed) = failing (Err reason) text met_fault why failed is (λ same. fault (ap Err same))

-- ---- the file that is asked for

pub file_found : (channels there : List Selector) (exporting : Exporting) (from : ℤ) (query : Query) (wish : Wish) (file : Option File) → wish ≡ wish_of exporting from → there ≡ channels
    → file ≡ wished wish (kind_at there query.channel) → file_for channels exporting from query ≡ file
file_found channels there exporting from query wish file w t f = sym (f ∙ (λ i. wished (w i) (kind_at (t i) query.channel)))

-- ---- the answers

module _ {tells tells_images : Type 0} (opening : Opening) (events : List Event) (t0 : ℕ) (r : RecorderState) (old : Disk tells tells_images) (h : HasRecorded opening events t0 r old)
    (met_fault : Type 0) (text : List ℕ) (hears : Type 0) (was heard : Watched) (works : r.vault.failed ≡ false) (medium : Medium) (name : List ℕ) (from to : ℤ) (exporting : Exporting) where
  abbrev channels : List Selector
  channels = r.vault.config.channels

  abbrev order : PlainOrder
  order = ExportOrder medium name from to exporting

  abbrev query : Query
  query = query_of channels medium name from to

  abbrev said : List Record → List ℕ
  said records = file_text (file_for channels exporting from query) records

  table_is : r.vault.table ≡ incidents opening events
  table_is = (h.works works).standing.stands.incidents_are

  -- the text, by whether the channel and the medium are there
  said_by : (named there : Bool) → is_named channels name ≡ named → is_there members opening events (asked_medium medium) ≡ there
      → text_after nothing_gauged channels opening events order ≡ text_by said (play_reply named there (refusal_of (asked_medium medium)) (selected opening events query))
  said_by named there n t = λ i. text_by said (play_reply (n i) (t i) (refusal_of (asked_medium medium)) (selected opening events query))

  is_not_there : lacks_incident r.vault.table (asked_medium medium) ≡ true → (is_there members opening events (asked_medium medium) ≡ false) × (refusal_of (asked_medium medium) ≡ NoIncident)
  is_not_there lacks = by (there_or_not opening events r.vault.table medium table_is)
    where
      by : (is_there members opening events (asked_medium medium) ≡ true)
          ⊎ ((is_there members opening events (asked_medium medium) ≡ false) × (lacks_incident r.vault.table (asked_medium medium) ≡ true) × (refusal_of (asked_medium medium) ≡ NoIncident))
          → (is_there members opening events (asked_medium medium) ≡ false) × (refusal_of (asked_medium medium) ≡ NoIncident)
      by (inl there) = absurd (lacks_not opening events r.vault.table medium table_is lacks there)
      by (inr n) = (n.0, n.2)

  is_here : lacks_incident r.vault.table (asked_medium medium) ≡ false → is_there members opening events (asked_medium medium) ≡ true
  is_here has = by (there_or_not opening events r.vault.table medium table_is)
    where
      by : (is_there members opening events (asked_medium medium) ≡ true)
          ⊎ ((is_there members opening events (asked_medium medium) ≡ false) × (lacks_incident r.vault.table (asked_medium medium) ≡ true) × (refusal_of (asked_medium medium) ≡ NoIncident))
          → is_there members opening events (asked_medium medium) ≡ true
      by (inl there) = there
      by (inr n) = absurd (true≢false (sym n.1 ∙ has))

  still : (line : List ℕ) → DoneAndTold hears opening events t0 Look r old old was heard → text_after nothing_gauged channels opening events order ≡ line → text ≡ line
      → HasAnswered channels met_fault opening events t0 order text r r old old hears was heard
  still line d so is = still_answer opening events t0 r old h channels met_fault text hears was heard order d (and_false r.vault.failed) (inl refl)
      (inl (is ∙ sym (said_working r.vault.failed old.clock (text_after nothing_gauged channels opening events order) works ∙ so)))

  -- no channel of that name is configured
  pub unnamed_export : DoneAndTold hears opening events t0 Look r old old was heard → is_named channels name ≡ false → text ≡ not_there_line
      → HasAnswered channels met_fault opening events t0 order text r r old old hears was heard
  unnamed_export d none is = still not_there_line d (said_by false (is_there members opening events (asked_medium medium)) none refl) is

  -- no such incident is live
  pub missing_export : DoneAndTold hears opening events t0 Look r old old was heard → is_named channels name ≡ true → lacks_incident r.vault.table (asked_medium medium) ≡ true → text ≡ not_there_line
      → HasAnswered channels met_fault opening events t0 order text r r old old hears was heard
  missing_export d named lacks is =
      let none = is_not_there lacks in
      still not_there_line d (said_by true false named none.0 ∙ ap (text_by said) none.1) is

  -- the channel has no such file
  pub kind_export : DoneAndTold hears opening events t0 Look r old old was heard → is_named channels name ≡ true → lacks_incident r.vault.table (asked_medium medium) ≡ false
      → file_for channels exporting from query ≡ None → text ≡ kind_line → HasAnswered channels met_fault opening events t0 order text r r old old hears was heard
  kind_export d named has none is =
      still kind_line d (said_by true true named (is_here has) ∙ ap (λ (file : Option File). file_text file (selected opening events query)) none) is

  -- the file, or why there is none
  pub file_answer : (file : File) (after : RecorderState) (new : Disk tells tells_images) (result : Result ⊤ ExportRefused) (page : List ℕ) → DoneAndTold hears opening events t0 Look after old new was heard
      → after.vault.failed ≡ false → is_named channels name ≡ true → lacks_incident r.vault.table (asked_medium medium) ≡ false → file_for channels exporting from query ≡ Some file
      → FileEnds (file_of file (selected opening events query)) (Some []) (Some page) result → IsSent result page text → (result ≡ Err exports.Fault → met_fault)
      → HasAnswered channels met_fault opening events t0 order text r after old new hears was heard
  file_answer file after new result page d goes named has is ends sent fault =
      let made = file_of file (selected opening events query) in
      let so : text_at (moment_of after.vault.failed new.clock) (text_after nothing_gauged channels opening events order) ≡ made_text made =
      said_working after.vault.failed new.clock (text_after nothing_gauged channels opening events order) goes ∙ said_by true true named (is_here has)
      ∙ ap (λ (f : Option File). file_text f (selected opening events query)) is in
      looked_answer opening events t0 r old h channels met_fault text hears was heard order after new (and_false r.vault.failed) d (inl refl)
      (subst (λ (s : List ℕ). (text ≡ s) ⊎ (((text ≡ fault_line) × met_fault) ⊎ LacksMemoryToExport s text)) (sym so) (sent_so made result page text met_fault ends sent fault))
