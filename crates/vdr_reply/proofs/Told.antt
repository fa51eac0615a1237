-- What records that are told come to as a reply of the history.
use Rattle.std.proofs.Common.{◌≡◌, ◌⊎◌, inl, inr, ◌++◌, ◌&&◌, not, ℕ, ℤ, Bool, true, false, true≢false, List, Option, Some, None, Result, Ok, Err, length, refl, sym, ap, ◌∙◌, subst}
use Rattle.std.specs.Prelude.{bytes_eq, is_none, is_ok, is_some, ⊤}
use Rattle.vdr_terms.specs.Queries.{Medium as Read, Query}
use Rattle.vdr_terms.specs.Records.{Record}
use Rattle.vdr_core.specs.Histories.{Event, Incident, Opening, incidents, live}
use Rattle.vdr_core.specs.Histories.Act.{Look}
use Rattle.vdr_durability.specs.Keeping.{moment_of}
use Rattle.vdr_durability.specs.Playback.{selected}
use Rattle.vdr_durability.specs.Replies.{is_there, play_reply, refusal_of}
use Rattle.vdr_durability.specs.Replies.Reply.{NoIncident}
use Rattle.vdr_outside.specs.Disk.{Disk}
use Rattle.vdr_config.specs.Configuration.{Selector}
use Rattle.vdr_health.specs.Health.{nothing_gauged}
use Rattle.vdr_entry.specs.Queries.{asked_medium}
use Rattle.vdr_entry.specs.declared.query.Medium.{Medium}
use Rattle.vdr_entry.specs.declared.query.Medium.TheVariants.{Capsule, LongTerm, Incident as AnIncident}
use Rattle.vdr_media.specs.Formatted.{members}
use Rattle.vdr_control.specs.Orders.{PlainOrder}
use Rattle.vdr_control.specs.Orders.PlainOrder.{Status as StatusOrder, Save as SaveOrder, Release as ReleaseOrder, Incidents as IncidentsOrder, Play as PlayOrder, Evidence as EvidenceOrder, Tell as TellOrder}
use Rattle.vdr_control.specs.Orders.PlainOrder.{Health as HealthOrder}
use Rattle.vdr_control.specs.Orders.PlainOrder.{Export as ExportOrder}
use Rattle.vdr_recorder.specs.Recordings.{HasRecorded, RecorderState}
use Rattle.vdr_recorder.specs.Watched.{DoneAndTold, Watched}
use Rattle.vdr_teller.specs.Evidence.{save_query}
use Rattle.vdr_teller.specs.Tellings.{query_told, told_text}
use Rattle.vdr_vault.specs.Vaults.{VaultState}
use Rattle.vdr_vault.specs.Visits.{HasVisited}
use Rattle.vdr_vault.proofs.Channels.{has_number, number_if, position_within}
use Rattle.vdr_visit.specs.Refusals.{IsAccepted, lacks_channel, lacks_incident, unanswered}
use Rattle.vdr_visit.specs.Visits.{AreVisited, HasMade}
use Rattle.vdr_visit.specs.declared.visit_refused.VisitRefused.{VisitRefused}
use Rattle.vdr_visit.specs.declared.visit_refused.VisitRefused.TheVariants as visits
use Rattle.vdr_reply.specs.Answers.{HasAnswered, LacksMemory, Spells, text_at}
use Rattle.vdr_reply.specs.Orders.{AsksToTell, act_after, channel_in, evidence_lines, is_every, is_granted, is_named, query_of, text_after}
use Rattle.vdr_reply.specs.Texts.{IsTold, fault_line, memory_line, not_there_line, page_text, text_of, text_with}
use Rattle.vdr_reply.proofs.Answered.{looked_answer, said_working, still_answer}

pub and_false : (b : Bool) → (not b && false) ≡ false
and_false true = refl
and_false false = refl

-- a channel that is asked for by its name is configured
pub asked_within : (channels : List Selector) (medium : Medium) (name : List ℕ) (from to : ℤ) → lacks_channel (length channels) (query_of channels medium name from to).channel ≡ false
asked_within channels medium name from to = has_number (length channels) (query_of channels medium name from to).channel
    (λ k is. position_within (λ channel. bytes_eq channel.name name) channels k (number_if (is_every name) (channel_in channels name) k is))

-- what is asked for is there, or it is an incident that is not live
pub there_or_not : (opening : Opening) (events : List Event) (table : List (Option Incident)) (medium : Medium) → table ≡ incidents opening events
    → (is_there members opening events (asked_medium medium) ≡ true)
    ⊎ ((is_there members opening events (asked_medium medium) ≡ false) × (lacks_incident table (asked_medium medium) ≡ true) × (refusal_of (asked_medium medium) ≡ NoIncident))
there_or_not opening events table Capsule e = inl refl
there_or_not opening events table LongTerm e = inl refl
there_or_not opening events table (AnIncident id) e = by_live (live (incidents opening events) id) (ap (λ (t : List (Option Incident)). live t id) (sym e)) refl
  where
    by_live : (o : Option Incident) → live (incidents opening events) id ≡ live table id → live (incidents opening events) id ≡ o
        → (is_some (live (incidents opening events) id) ≡ true) ⊎ ((is_some (live (incidents opening events) id) ≡ false) × (is_none (live table id) ≡ true) × (NoIncident ≡ NoIncident))
    by_live None same is = inr (ap is_some is, ap is_none (sym same ∙ is), refl)
    by_live (Some x) same is = inl (ap is_some is)

-- the same of what it lacks
pub lacks_not : (opening : Opening) (events : List Event) (table : List (Option Incident)) (medium : Medium) → table ≡ incidents opening events → lacks_incident table (asked_medium medium) ≡ true
    → is_there members opening events (asked_medium medium) ≡ true → ⊥
lacks_not opening events table Capsule e lacks there = true≢false (sym lacks)
lacks_not opening events table LongTerm e lacks there = true≢false (sym lacks)
lacks_not opening events table (AnIncident id) e lacks there = clash (live table id) lacks (ap (λ (t : List (Option Incident)). is_some (live t id)) e ∙ there)
  where
    clash : (o : Option Incident) → is_none o ≡ true → is_some o ≡ true → ⊥
    clash None n s = true≢false (sym s)
    clash (Some x) n s = true≢false (sym n)

-- What a query asks for is there, or it is not.
pub there_so : {R : Type 0} (no_channel no_incident : Bool) (r : Result ⊤ (VisitRefused R)) → r ≡ unanswered no_channel no_incident → is_ok r ≡ (not no_channel && not no_incident)
there_so true b r e = ap is_ok e
there_so false true r e = ap is_ok e
there_so false false r e = ap is_ok e

pub lacks_so : (no_channel no_incident there : Bool) → no_channel ≡ false → there ≡ (not no_channel && not no_incident) → there ≡ false → no_incident ≡ true
lacks_so a true there e is none = refl
lacks_so a false there e is none = absurd (true≢false (ap (λ (b : Bool). not b && true) (sym e) ∙ sym is ∙ none))

pub has_so : (no_channel no_incident there : Bool) → there ≡ (not no_channel && not no_incident) → there ≡ true → no_incident ≡ false
has_so a false there is all = refl
has_so true true there is all = absurd (true≢false (sym all ∙ is))
has_so false true there is all = absurd (true≢false (sym all ∙ is))

-- What an order is that has records told.
module _ (channels : List Selector) (opening : Opening) (events : List Event) (query : Query) (told : List Record → List ℕ) where
  medium_is : (order : PlainOrder) → AsksToTell channels opening events order query told → (medium : Medium) × (query.medium ≡ asked_medium medium)
  medium_is (PlayOrder medium name from to) a = absurd a
  medium_is (EvidenceOrder id) a = (AnIncident id, ap (λ (q : Query). q.medium) a.0)
  medium_is (TellOrder medium telling) a = (medium, ap (λ (q : Query). q.medium) a.0)
  medium_is StatusOrder a = absurd a
  medium_is (SaveOrder label) a = absurd a
  medium_is (ReleaseOrder id) a = absurd a
  medium_is IncidentsOrder a = absurd a
  medium_is HealthOrder a = absurd a
  medium_is (ExportOrder medium name from to exporting) a = absurd a

  pub channel_is : (order : PlainOrder) → AsksToTell channels opening events order query told → lacks_channel (length channels) query.channel ≡ false
  channel_is (PlayOrder medium name from to) a = absurd a
  channel_is (EvidenceOrder id) a = ap (λ (q : Query). lacks_channel (length channels) q.channel) a.0
  channel_is (TellOrder medium telling) a = ap (λ (q : Query). lacks_channel (length channels) q.channel) a.0
  channel_is StatusOrder a = absurd a
  channel_is (SaveOrder label) a = absurd a
  channel_is (ReleaseOrder id) a = absurd a
  channel_is IncidentsOrder a = absurd a
  channel_is HealthOrder a = absurd a
  channel_is (ExportOrder medium name from to exporting) a = absurd a

  looks : (order : PlainOrder) → AsksToTell channels opening events order query told → act_after opening events order ≡ Look
  looks (PlayOrder medium name from to) a = absurd a
  looks (EvidenceOrder id) a = refl
  looks (TellOrder medium telling) a = refl
  looks StatusOrder a = absurd a
  looks (SaveOrder label) a = absurd a
  looks (ReleaseOrder id) a = absurd a
  looks IncidentsOrder a = absurd a
  looks HealthOrder a = absurd a
  looks (ExportOrder medium name from to exporting) a = absurd a

  changes_none : (vault : VaultState) (order : PlainOrder) → AsksToTell channels opening events order query told → (not vault.failed && is_granted order vault) ≡ false
  changes_none vault (PlayOrder medium name from to) a = absurd a
  changes_none vault (EvidenceOrder id) a = and_false vault.failed
  changes_none vault (TellOrder medium telling) a = and_false vault.failed
  changes_none vault StatusOrder a = absurd a
  changes_none vault (SaveOrder label) a = absurd a
  changes_none vault (ReleaseOrder id) a = absurd a
  changes_none vault IncidentsOrder a = absurd a
  changes_none vault HealthOrder a = absurd a
  changes_none vault (ExportOrder medium name from to exporting) a = absurd a

  spells_page : (met_fault : Type 0) (said text : List ℕ) (order : PlainOrder) → AsksToTell channels opening events order query told
      → (text ≡ said) ⊎ (((text ≡ fault_line) × met_fault) ⊎ LacksMemory said text) → Spells met_fault order said text
  spells_page met_fault said text (PlayOrder medium name from to) a is = absurd a
  spells_page met_fault said text (EvidenceOrder id) a is = is
  spells_page met_fault said text (TellOrder medium telling) a is = is
  spells_page met_fault said text StatusOrder a is = absurd a
  spells_page met_fault said text (SaveOrder label) a is = absurd a
  spells_page met_fault said text (ReleaseOrder id) a is = absurd a
  spells_page met_fault said text IncidentsOrder a is = absurd a
  spells_page met_fault said text HealthOrder a is = absurd a
  spells_page met_fault said text (ExportOrder medium name from to exporting) a is = absurd a

  -- the text where what is asked for is there
  paged : (order : PlainOrder) → AsksToTell channels opening events order query told → is_there members opening events query.medium ≡ true
      → text_after nothing_gauged channels opening events order ≡ page_text (told (selected opening events query))
  paged (PlayOrder medium name from to) a there = absurd a
  paged (EvidenceOrder id) a there =
      let q = save_query id in
      let lines = evidence_lines opening events id in
      let here : is_there members opening events q.medium ≡ true = subst (λ (q : Query). is_there members opening events q.medium ≡ true) a.0 there in
      ap (λ (b : Bool). text_with lines (play_reply true b (refusal_of q.medium) (selected opening events q))) here
      ∙ ap (λ (q : Query). page_text (lines (selected opening events q))) (sym a.0)
      ∙ ap page_text (sym (a.1 (selected opening events query)))
  paged (TellOrder medium telling) a there =
      let q = query_told medium telling in
      let here : is_there members opening events q.medium ≡ true = subst (λ (q : Query). is_there members opening events q.medium ≡ true) a.0 there in
      ap (λ (b : Bool). text_with (told_text telling) (play_reply true b (refusal_of q.medium) (selected opening events q))) here
      ∙ ap (λ (q : Query). page_text (told_text telling (selected opening events q))) (sym a.0)
      ∙ ap page_text (sym (a.1 (selected opening events query)))
  paged StatusOrder a there = absurd a
  paged (SaveOrder label) a there = absurd a
  paged (ReleaseOrder id) a there = absurd a
  paged IncidentsOrder a there = absurd a
  paged HealthOrder a there = absurd a
  paged (ExportOrder medium name from to exporting) a there = absurd a

  -- and where it is an incident that is not live
  missing : (order : PlainOrder) → AsksToTell channels opening events order query told → is_there members opening events query.medium ≡ false → refusal_of query.medium ≡ NoIncident
      → text_after nothing_gauged channels opening events order ≡ not_there_line
  missing (PlayOrder medium name from to) a none refusal = absurd a
  missing (EvidenceOrder id) a none refusal =
      let q = save_query id in
      let lines = evidence_lines opening events id in
      ap (λ (b : Bool). text_with lines (play_reply true b (refusal_of q.medium) (selected opening events q))) (subst (λ (q : Query). is_there members opening events q.medium ≡ false) a.0 none)
      ∙ ap (text_with lines) (subst (λ (q : Query). refusal_of q.medium ≡ NoIncident) a.0 refusal)
  missing (TellOrder medium telling) a none refusal =
      let q = query_told medium telling in
      ap (λ (b : Bool). text_with (told_text telling) (play_reply true b (refusal_of q.medium) (selected opening events q))) (subst (λ (q : Query). is_there members opening events q.medium ≡ false) a.0 none)
      ∙ ap (text_with (told_text telling)) (subst (λ (q : Query). refusal_of q.medium ≡ NoIncident) a.0 refusal)
  missing StatusOrder a none refusal = absurd a
  missing (SaveOrder label) a none refusal = absurd a
  missing (ReleaseOrder id) a none refusal = absurd a
  missing IncidentsOrder a none refusal = absurd a
  missing (ExportOrder medium name from to exporting) a none refusal = absurd a
  missing HealthOrder a none refusal = absurd a

module _ {tells tells_images : Type 0} (opening : Opening) (events : List Event) (t0 : ℕ) (r : RecorderState) (old : Disk tells tells_images) (h : HasRecorded opening events t0 r old)
    (met_fault : Type 0) (text : List ℕ) (hears : Type 0) (was heard : Watched) (works : r.vault.failed ≡ false) where
  abbrev channels : List Selector
  channels = r.vault.config.channels

  table_is : r.vault.table ≡ incidents opening events
  table_is = (h.works works).standing.stands.incidents_are

  -- no channel of that name is configured
  pub unnamed_answer : (medium : Medium) (name : List ℕ) (from to : ℤ) → DoneAndTold hears opening events t0 Look r old old was heard → is_named channels name ≡ false → text ≡ not_there_line
      → HasAnswered channels met_fault opening events t0 (PlayOrder medium name from to) text r r old old hears was heard
  unnamed_answer medium name from to d none is = still_answer opening events t0 r old h channels met_fault text hears was heard (PlayOrder medium name from to) d (and_false r.vault.failed) (inl refl)
      (inl (is ∙ sym (said_working r.vault.failed old.clock (text_after nothing_gauged channels opening events (PlayOrder medium name from to)) works ∙ ap (λ (b : Bool). text_of (play_reply b (is_there members opening events (asked_medium medium)) (refusal_of (asked_medium medium)) (selected opening events (query_of channels medium name from to)))) none)))

  module _ (order : PlainOrder) (query : Query) (told : List Record → List ℕ) (asks : AsksToTell channels opening events order query told) where
    abbrev said : List ℕ
    said = text_after nothing_gauged channels opening events order

    kind_of_medium : (is_there members opening events query.medium ≡ true) ⊎ ((is_there members opening events query.medium ≡ false) × (lacks_incident r.vault.table query.medium ≡ true) × (refusal_of query.medium ≡ NoIncident))
    kind_of_medium =
        let m = medium_is channels opening events query told order asks in
        subst (λ (n : Read). (is_there members opening events n ≡ true) ⊎ ((is_there members opening events n ≡ false) × (lacks_incident r.vault.table n ≡ true) × (refusal_of n ≡ NoIncident))) (sym m.1)
        (there_or_not opening events r.vault.table m.0 table_is)

    is_paged : lacks_incident r.vault.table query.medium ≡ false → said ≡ page_text (told (selected opening events query))
    is_paged has = by kind_of_medium
      where
        by : (is_there members opening events query.medium ≡ true) ⊎ ((is_there members opening events query.medium ≡ false) × (lacks_incident r.vault.table query.medium ≡ true) × (refusal_of query.medium ≡ NoIncident))
            → said ≡ page_text (told (selected opening events query))
        by (inl there) = paged channels opening events query told order asks there
        by (inr n) = absurd (true≢false (sym n.1 ∙ has))

    is_missing : lacks_incident r.vault.table query.medium ≡ true → said ≡ not_there_line
    is_missing lacks = by kind_of_medium
      where
        never : is_there members opening events query.medium ≡ true → ⊥
        never there =
            let m = medium_is channels opening events query told order asks in
            lacks_not opening events r.vault.table m.0 table_is (ap (λ (n : Read). lacks_incident r.vault.table n) (sym m.1) ∙ lacks) (ap (λ (n : Read). is_there members opening events n) (sym m.1) ∙ there)

        by : (is_there members opening events query.medium ≡ true) ⊎ ((is_there members opening events query.medium ≡ false) × (lacks_incident r.vault.table query.medium ≡ true) × (refusal_of query.medium ≡ NoIncident))
            → said ≡ not_there_line
        by (inl there) = absurd (never there)
        by (inr n) = missing channels opening events query told order asks n.0 n.2

    pub not_there_answer : DoneAndTold hears opening events t0 Look r old old was heard → lacks_incident r.vault.table query.medium ≡ true → text ≡ not_there_line
        → HasAnswered channels met_fault opening events t0 order text r r old old hears was heard
    not_there_answer d lacks is = still_answer opening events t0 r old h channels met_fault text hears was heard order d (changes_none channels opening events query told r.vault order asks)
        (inl (looks channels opening events query told order asks))
        (spells_page channels opening events query told met_fault _ text order asks (inl (is ∙ sym (said_working r.vault.failed old.clock said works ∙ is_missing lacks))))

    pub no_memory_answer : DoneAndTold hears opening events t0 Look r old old was heard → lacks_incident r.vault.table query.medium ≡ false → text ≡ memory_line
        → HasAnswered channels met_fault opening events t0 order text r r old old hears was heard
    no_memory_answer d has is = still_answer opening events t0 r old h channels met_fault text hears was heard order d (changes_none channels opening events query told r.vault order asks)
        (inl (looks channels opening events query told order asks))
        (spells_page channels opening events query told met_fault _ text order asks (inr (inr (is, told (selected opening events query), said_working r.vault.failed old.clock said works ∙ is_paged has))))

    -- the visitor prints that, and it is sent so
    pub told_answer : {R : Type 0} {Has : List Record → Type 0} {Stops : List Record → R → Type 0} {line : List Record → Record → List ℕ} {whole : List Record → List ℕ} (sent : List ℕ → List ℕ) (after : RecorderState)
        (new : Disk tells tells_images) (ended : Result ⊤ (VisitRefused R)) (begun page : List ℕ) → ((records : List Record) → sent (begun ++ whole records) ≡ page_text (told records)) → IsTold sent ended page text → DoneAndTold hears opening events t0 Look after old new was heard → after.vault.failed ≡ false
        → lacks_incident r.vault.table query.medium ≡ false → IsAccepted (lacks_channel (length channels) query.channel) (lacks_incident r.vault.table query.medium) ended
        → (v : HasVisited query r.vault old Has Stops line whole (Some begun) (Some page) ended)
        → AreVisited v.seen (selected opening events query) ended → (ended ≡ Err visits.Fault → met_fault)
        → HasAnswered channels met_fault opening events t0 order text r after old new hears was heard
    told_answer {R = R} {Has = Has} {Stops = Stops} {line = line} {whole = whole} sent after new ended begun page sends is d goes has accepted v are fault =
        looked_answer opening events t0 r old h channels met_fault text hears was heard order after new (changes_none channels opening events query told r.vault order asks) d
        (inl (looks channels opening events query told order asks))
        (spells_page channels opening events query told met_fault _ text order asks (spelled ended refl is v.made are))
      where
        works_then : text_at (moment_of after.vault.failed new.clock) said ≡ page_text (told (selected opening events query))
        works_then = said_working after.vault.failed new.clock said goes ∙ is_paged has

        lacking : LacksMemory (text_at (moment_of after.vault.failed new.clock) said) text → (text ≡ text_at (moment_of after.vault.failed new.clock) said) ⊎ (((text ≡ fault_line) × met_fault) ⊎ LacksMemory (text_at (moment_of after.vault.failed new.clock) said) text)
        lacking none = inr (inr none)

        spelled : (res : Result ⊤ (VisitRefused R)) → ended ≡ res → IsTold sent res page text → HasMade (Has v.seen) (Stops v.seen) line (whole v.seen) v.seen (Some begun) (Some page) res
            → AreVisited v.seen (selected opening events query) res
            → (text ≡ text_at (moment_of after.vault.failed new.clock) said) ⊎ (((text ≡ fault_line) × met_fault) ⊎ LacksMemory (text_at (moment_of after.vault.failed new.clock) said) text)
        spelled (Ok x) e (inl ends) made are =
            inl (ends ∙ ap sent (made.1 ∙ ap (λ (records : List Record). begun ++ whole records) are) ∙ sends (selected opening events query) ∙ sym works_then)
        spelled (Ok x) e (inr none) made are = lacking (none, told (selected opening events query), works_then)
        spelled (Err visits.NoChannel) e is made are = absurd (true≢false (sym (accepted.channel.0 e) ∙ channel_is channels opening events query told order asks))
        spelled (Err visits.NoIncident) e is made are = absurd (true≢false (sym (accepted.incident.0 e).1 ∙ has))
        spelled (Err visits.Fault) e is made are = inr (inl (is, fault e))
        spelled (Err (visits.Damaged m offset)) e is made are = absurd are
        spelled (Err visits.Output) e is made are = lacking (is, told (selected opening events query), works_then)
        spelled (Err (visits.Own reason)) e is made are = lacking (is, told (selected opening events query), works_then)
