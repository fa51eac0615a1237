-- What a play comes to as an answer of the history, in several turns.
use Rattle.std.proofs.Common.{◌≡◌, ◌⊎◌, inl, inr, ◌++◌, ◌∷◌, ℕ, ℤ, Bool, true, false, List, [], Option, Some, None, Result, Ok, Err, length, cond, refl, sym, ap, ◌∙◌, subst, append_assoc, append-nil}
use Rattle.std.specs.Prelude.{IfOk, codes}
use Rattle.std.proofs.lemmas.Bool.{cond-false}
use Rattle.vdr_terms.specs.Queries.{Query}
use Rattle.vdr_core.specs.Histories.{Act, Event, Opening, incidents}
use Rattle.vdr_core.specs.Histories.Act.{Look}
use Rattle.vdr_durability.specs.Keeping.{moment_of}
use Rattle.vdr_durability.specs.Playback.{selected}
use Rattle.vdr_durability.specs.Replies.{is_there, play_reply, refusal_of}
use Rattle.vdr_durability.specs.Replies.Reply.{NoIncident}
use Rattle.vdr_play.specs.Streams.{nothing_seen}
use Rattle.vdr_play.specs.Texts.{records_text}
use Rattle.vdr_outside.specs.Disk.{Disk}
use Rattle.vdr_config.specs.Configuration.{Selector}
use Rattle.vdr_entry.specs.Queries.{asked, asked_medium}
use Rattle.vdr_entry.specs.declared.query.Medium.{Medium}
use Rattle.vdr_health.specs.Health.{nothing_gauged}
use Rattle.vdr_media.specs.Formatted.{members}
use Rattle.vdr_ring.specs.declared.refused.ReadRefused.{ReadRefused}
use Rattle.vdr_ring.specs.declared.refused.ReadRefused.TheVariants.{Damaged, Fault}
use Rattle.vdr_vault.specs.Stretches.{still_selected}
use Rattle.vdr_visit.specs.Refusals.{lacks_channel, lacks_incident}
use Rattle.vdr_control.specs.Orders.{PlainOrder}
use Rattle.vdr_control.specs.Orders.PlainOrder.{Play as PlayOrder}
use Rattle.vdr_recorder.specs.Recordings.{HasRecorded, RecorderState}
use Rattle.vdr_recorder.specs.Resuming.{HasPlayedOn, IsGone, IsPlaying}
use Rattle.vdr_recorder.specs.Watched.{DoneAndTold, Watched}
use Rattle.vdr_recorder.specs.declared.resume.Going.{Going}
use Rattle.vdr_recorder.specs.declared.resume.Going.TheVariants.{All, Gone, More}
use Rattle.vdr_recorder.specs.declared.resume.OpenPlay.{OpenPlay}
use Rattle.vdr_desk.specs.Answers.{Answer, ToldSoFar, seen_by, told_on}
use Rattle.vdr_reply.specs.declared.rest.Rest.{Rest}
use Rattle.vdr_reply.specs.Answers.{HasAnswered, HasAnsweredSoFar, HasGoneOn, IsAnswer}
use Rattle.vdr_reply.specs.Orders.{changes, granted_act, is_named, query_of, text_after}
use Rattle.vdr_reply.specs.Plays.{BeginsPlay, EndsTurn, HasBegun, IsWaiting}
use Rattle.vdr_reply.specs.Texts.{done_line, fault_line, gone_line, not_there_line, text_of}
use Rattle.vdr_reply.proofs.Answered.{looked_answer, page_is, said_working, still_answer}
use Rattle.vdr_reply.proofs.Told.{and_false, asked_within, lacks_not, there_or_not}

-- an answer in one turn
pub whole_answer : {tells tells_images : Type 0} (channels : List Selector) (met_fault : Type 0) (opening : Opening) (events : List Event) (t0 : ℕ) (order : PlainOrder) (text : List ℕ) (before after : RecorderState)
    (old new : Disk tells tells_images) (hears : Type 0) (was heard : Watched) → HasAnswered channels met_fault opening events t0 order text before after old new hears was heard
    → HasAnsweredSoFar channels met_fault opening events t0 order text None before after old new hears was heard
whole_answer channels met_fault opening events t0 order text before after old new hears was heard a = record { done = a.done; answer = inl (a.answer, refl) }

-- what a play asks for is there, where its incident is not lacking
module _ (opening : Opening) (events : List Event) (channels : List Selector) (medium : Medium) (name : List ℕ) (from to : ℤ) (named : is_named channels name ≡ true) where
  abbrev query : Query
  query = query_of channels medium name from to

  pub there_as : (table : List _) → table ≡ incidents opening events → lacks_incident table (asked_medium medium) ≡ false → is_there members opening events (asked_medium medium) ≡ true
  there_as table is has = by (there_or_not opening events table medium is)
    where
      by : (is_there members opening events (asked_medium medium) ≡ true) ⊎ ((is_there members opening events (asked_medium medium) ≡ false) × (lacks_incident table (asked_medium medium) ≡ true) × (refusal_of (asked_medium medium) ≡ NoIncident))
          → is_there members opening events (asked_medium medium) ≡ true
      by (inl there) = there
      by (inr n) = let none : true ≡ false = sym n.1 ∙ has in let absent : ⊥ = cc in absurd absent

  lacking : (table : List _) → table ≡ incidents opening events → lacks_incident table (asked_medium medium) ≡ true
      → text_after nothing_gauged channels opening events (PlayOrder medium name from to) ≡ not_there_line
  lacking table is lacks = by (there_or_not opening events table medium is)
    where
      by : (is_there members opening events (asked_medium medium) ≡ true) ⊎ ((is_there members opening events (asked_medium medium) ≡ false) × (lacks_incident table (asked_medium medium) ≡ true) × (refusal_of (asked_medium medium) ≡ NoIncident))
          → text_after nothing_gauged channels opening events (PlayOrder medium name from to) ≡ not_there_line
      by (inl there) = absurd (lacks_not opening events table medium is lacks there)
      by (inr n) =
          ap (λ (b : Bool). text_of (play_reply b (is_there members opening events (asked_medium medium)) (refusal_of (asked_medium medium)) (selected opening events query))) named
          ∙ ap (λ (b : Bool). text_of (play_reply true b (refusal_of (asked_medium medium)) (selected opening events query))) n.0
          ∙ ap text_of n.2

module _ {tells tells_images : Type 0} (opening : Opening) (events : List Event) (t0 : ℕ) (r : RecorderState) (old : Disk tells tells_images) (h : HasRecorded opening events t0 r old)
    (met_fault : Type 0) (text : List ℕ) (hears : Type 0) (was heard : Watched) (works : r.vault.failed ≡ false) (medium : Medium) (name : List ℕ) (from to : ℤ) where
  abbrev channels : List Selector
  channels = r.vault.config.channels

  abbrev order : PlainOrder
  order = PlayOrder medium name from to

  table_is : r.vault.table ≡ incidents opening events
  table_is = (h.works works).standing.stands.incidents_are

  -- an incident that is not live
  pub absent_answer : DoneAndTold hears opening events t0 Look r old old was heard → is_named channels name ≡ true → lacks_incident r.vault.table (asked_medium medium) ≡ true → text ≡ not_there_line
      → HasAnsweredSoFar channels met_fault opening events t0 order text None r r old old hears was heard
  absent_answer d named lacks is = whole_answer channels met_fault opening events t0 order text r r old old hears was heard
      (still_answer opening events t0 r old h channels met_fault text hears was heard order d (and_false r.vault.failed) (inl refl)
      (inl (is ∙ sym (said_working r.vault.failed old.clock (text_after nothing_gauged channels opening events order) works ∙ lacking opening events channels medium name from to named r.vault.table table_is lacks))))

  -- a play that was begun
  module _ (after : RecorderState) (new : Disk tells tells_images) (d : DoneAndTold hears opening events t0 Look after old new was heard) (goes : after.vault.failed ≡ false)
      (named : is_named channels name ≡ true) (has : lacks_incident r.vault.table (asked_medium medium) ≡ false) where
    looks : cond (changes order r.vault) (granted_act opening events order) Act.Look ≡ Act.Look
    looks = cond-false (changes order r.vault) (granted_act opening events order) Act.Look (and_false r.vault.failed)

    abbrev first_turn : Answer Event
    first_turn = record { order = order; before = events; own = record { act = cond (changes order r.vault) (granted_act opening events order) Act.Look; moment = moment_of after.vault.failed new.clock }; during = []; text = text }

    has_begun : HasBegun channels opening first_turn (query_of channels medium name from to)
    has_begun = record {
      asks = (named, refl);
      there = there_as opening events channels medium name from to named r.vault.table table_is has;
      act_is = looks;
      works = λ none. let clash : Some new.clock ≡ None = ap (λ (b : Bool). moment_of b new.clock) (sym goes) ∙ none in let absent : ⊥ = cc in absurd absent;
    }

    pub begun_answer : (begun : Result OpenPlay ReadRefused) (left : Option Rest) → BeginsPlay begun text left → IfOk begun (λ p. asked p.query ≡ query_of channels medium name from to) → IfOk begun (IsPlaying opening events [])
        → ((m offset : ℕ) → begun ≡ Err (Damaged m offset) → ⊥) → (begun ≡ Err Fault → met_fault)
        → HasAnsweredSoFar channels met_fault opening events t0 order text left r after old new hears was heard
    begun_answer begun left begins asks playing undamaged fault = record {
      done = subst (λ (act : Act). DoneAndTold hears opening events t0 act after old new was heard) (sym looks) d;
      answer = by begun refl begins asks playing;
    }
      where
        by : (res : Result OpenPlay ReadRefused) → begun ≡ res → BeginsPlay res text left → IfOk res (λ p. asked p.query ≡ query_of channels medium name from to) → IfOk res (IsPlaying opening events [])
            → ToldSoFar (IsAnswer channels met_fault opening) (IsWaiting channels opening) first_turn left
        by (Ok play) e b asks playing = subst (ToldSoFar (IsAnswer channels met_fault opening) (IsWaiting channels opening) first_turn) (sym b.1) (record {
          begun = subst (HasBegun channels opening first_turn) (sym asks) has_begun;
          printed = [];
          text_is = b.0 ∙ sym (append-nil done_line);
          playing = playing;
        })
        by (Err Fault) e b asks playing = subst (ToldSoFar (IsAnswer channels met_fault opening) (IsWaiting channels opening) first_turn) (sym b.1)
            (inl ((looked_answer opening events t0 r old h channels met_fault text hears was heard order after new (and_false r.vault.failed) d (inl refl) (inr (b.0, fault e))).answer, refl))
        by (Err (Damaged m offset)) e b asks playing = absurd (undamaged m offset e)

-- a further turn of it
module _ (channels : List Selector) (met_fault : Type 0) (opening : Opening) (a : Answer Event) (later : List Event) (moment : Option ℕ) (rest : Rest) (waits : IsWaiting channels opening a rest) where
  abbrev look : Event
  look = record { act = Act.Look; moment = moment }

  joined : (piece : List ℕ) → seen_by (told_on a (later ++ look ∷ []) piece) ≡ (seen_by a ++ later) ++ look ∷ []
  joined piece = ap (λ (xs : List Event). a.before ++ a.own ∷ xs) (sym (append_assoc a.during later (look ∷ []))) ∙ sym (append_assoc a.before (a.own ∷ (a.during ++ later)) (look ∷ []))
      ∙ ap (λ (xs : List Event). xs ++ look ∷ []) (sym (append_assoc a.before (a.own ∷ a.during) later))

  begun_on : (piece : List ℕ) → HasBegun channels opening (told_on a (later ++ look ∷ []) piece) (asked rest.play.query)
  begun_on piece = record { asks = waits.begun.asks; there = waits.begun.there; act_is = waits.begun.act_is; works = waits.begun.works }

  -- behind what was sent so far
  sent_on : (more piece line : List ℕ) → piece ≡ more ++ line → a.text ++ piece ≡ (done_line ++ (waits.printed ++ more)) ++ line
  sent_on more piece line is =
      ap (λ (xs : List ℕ). a.text ++ xs) is ∙ sym (append_assoc a.text more line)
      ∙ ap (λ (xs : List ℕ). (xs ++ more) ++ line) waits.text_is ∙ ap (λ (xs : List ℕ). xs ++ line) (append_assoc done_line waits.printed more)

  pub goes_so : (went : Result Going ReadRefused) (play : OpenPlay) (more piece : List ℕ) (left : Option Rest) → play.query ≡ rest.play.query → HasPlayedOn opening a.before (waits.printed ++ more) play went
      → ((place : ℕ) → went ≡ Ok (Gone place) → IsGone opening (seen_by a ++ later) (asked play.query) play.stretch) → (went ≡ Err Fault → met_fault ⊎ (moment ≡ None))
      → EndsTurn went play more piece left → HasGoneOn channels met_fault opening a later moment piece left
  goes_so (Ok All) play more piece left asks played lost fault ends =
      subst (ToldSoFar (IsAnswer channels met_fault opening) (IsWaiting channels opening) (told_on a (later ++ look ∷ []) piece)) (sym ends.1) (inr (record {
        query = asked play.query;
        begun = subst (HasBegun channels opening (told_on a (later ++ look ∷ []) piece)) (sym (ap asked asks)) (begun_on piece);
        ends = inl (sent_on more piece (codes ".\n") ends.0 ∙ ap (λ (xs : List ℕ). (done_line ++ xs) ++ codes ".\n") played ∙ page_is (records_text nothing_seen (selected opening a.before (asked play.query))));
      }))
  goes_so (Ok More) play more piece left asks played lost fault ends =
      subst (ToldSoFar (IsAnswer channels met_fault opening) (IsWaiting channels opening) (told_on a (later ++ look ∷ []) piece)) (sym ends.1) (record {
        begun = subst (HasBegun channels opening (told_on a (later ++ look ∷ []) piece)) (sym (ap asked asks)) (begun_on piece);
        printed = waits.printed ++ more;
        text_is = sent_on more piece [] (ends.0 ∙ sym (append-nil more)) ∙ append-nil (done_line ++ (waits.printed ++ more));
        playing = played;
      })
  goes_so (Ok (Gone place)) play more piece left asks played lost fault ends =
      subst (ToldSoFar (IsAnswer channels met_fault opening) (IsWaiting channels opening) (told_on a (later ++ look ∷ []) piece)) (sym ends.1) (inr (record {
        query = asked play.query;
        begun = subst (HasBegun channels opening (told_on a (later ++ look ∷ []) piece)) (sym (ap asked asks)) (begun_on piece);
        ends = inr (inr (record {
          stretch = play.stretch;
          cut = record {
            front = played.0.front;
            selects = played.0.selects;
            text_is = sent_on more piece (gone_line place) ends.0 ∙ ap (λ (xs : List ℕ). (done_line ++ xs) ++ gone_line place) played.0.text
                ∙ ap (λ (n : ℕ). (done_line ++ records_text nothing_seen played.0.front) ++ gone_line n) played.1;
          };
          turn = record { events = seen_by a ++ later; last = look; split = joined piece };
          gone = lost place refl;
        }));
      }))
  goes_so (Err Fault) play more piece left asks played lost fault ends =
      subst (ToldSoFar (IsAnswer channels met_fault opening) (IsWaiting channels opening) (told_on a (later ++ look ∷ []) piece)) (sym ends.1) (inr (record {
        query = asked play.query;
        begun = subst (HasBegun channels opening (told_on a (later ++ look ∷ []) piece)) (sym (ap asked asks)) (begun_on piece);
        ends = inr (inl (record {
          left = played.rest;
          cut = record {
            front = played.front;
            selects = played.selects;
            text_is = sent_on more piece fault_line ends.0 ∙ ap (λ (xs : List ℕ). (done_line ++ xs) ++ fault_line) played.text;
          };
          turn = record { events = seen_by a ++ later; last = look; split = joined piece };
          fault = fault refl;
        }));
      }))
  goes_so (Err (Damaged m offset)) play more piece left asks played lost fault ends = absurd played

-- where the media had failed before, nothing more was sent
pub failed_played : (opening : Opening) (before : List Event) (printed : List ℕ) (old new : OpenPlay) (went : Result Going ReadRefused) → new.query ≡ old.query → went ≡ Err Fault → IsPlaying opening before printed old
    → HasPlayedOn opening before (printed ++ []) new went
failed_played opening before printed old new went same is p = subst (HasPlayedOn opening before (printed ++ []) new) (sym is) (record {
  front = p.front;
  rest = still_selected opening before (asked old.query) old.stretch;
  selects = ap (λ (q : _). selected opening before (asked q)) same ∙ p.selects;
  text = append-nil printed ∙ p.text;
})

-- the channel of what is asked for by its name
pub asked_channel : (channels : List Selector) (medium : Medium) (name : List ℕ) (from to : ℤ) (q : Query) → q ≡ query_of channels medium name from to → lacks_channel (length channels) q.channel ≡ false
asked_channel channels medium name from to q is = ap (λ (q : Query). lacks_channel (length channels) q.channel) is ∙ asked_within channels medium name from to

pub asks_ok : (begun : Result OpenPlay ReadRefused) (was : _) (q : Query) → asked was ≡ q → IfOk begun (λ p. p.query ≡ was) → IfOk begun (λ p. asked p.query ≡ q)
asks_ok (Ok play) was q is h = ap asked h ∙ is
asks_ok (Err e) was q is h = tt
