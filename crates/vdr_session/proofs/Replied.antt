-- What was replied at the desks of a session, in its history.
use Rattle.std.proofs.Common.{◌≡◌, ◌⊎◌, inl, inr, ◌≤◌, ◌<◌, ◌+◌, ◌++◌, ◌∷◌, ℕ, Bool, true, false, List, [], Some, None, length, get_or, refl, sym, ap, ◌∙◌, subst, arith, append_assoc}
use Rattle.std.proofs.lemmas.List.{length-append}
use Rattle.vdr_core.specs.Histories.{Event, Opening}
use Rattle.vdr_terms.specs.declared.counts.Counts.{Counts}
use Rattle.vdr_outside.specs.declared.link.Link.{Ghosts as LinkTells}
use Rattle.vdr_outside.specs.Disk.{Disk}
use Rattle.vdr_config.specs.Configuration.{Selector}
use Rattle.vdr_capture.specs.declared.sums.Outcome.{Outcome}
use Rattle.vdr_capture.specs.declared.lane.Cause.{Cause}
use Rattle.vdr_capture.specs.declared.lane.Cause.TheVariants.{Failed}
use Rattle.vdr_recorder.specs.Recordings.{RecorderState}
use Rattle.vdr_recorder.specs.Watched.{Watched}
use Rattle.vdr_desk.specs.declared.desk.Desk.{Desk}
use Rattle.vdr_desk.specs.Answers.{Answer, seen_by}
use Rattle.vdr_desk.specs.Exchanges.{AreServed, Exchange}
use Rattle.vdr_desk.specs.Links.{Converses}
use Rattle.vdr_desk.proofs.Exchanged.{Stands, served_so, served_until}
use Rattle.vdr_session.specs.declared.mark.Mark.{Mark}
use Rattle.vdr_session.specs.declared.records.Began.{Began}
use Rattle.vdr_session.specs.declared.records.Began.TheVariants as starts
use Rattle.vdr_session.specs.Answering.{AnswersMark, BeginsMark, answer_over, last_mark}
use Rattle.vdr_session.specs.Closed.{DesksRan}
use Rattle.vdr_session.specs.Desks.{DeskReplied, DesksReplied, DesksTold, HasSpoken}
use Rattle.vdr_session.specs.Ended.{EndsRun, IsToldAs, IsWithFailures}
use Rattle.vdr_session.specs.Events.{events_of}
use Rattle.vdr_session.specs.Origins.{IsAnswerOf, IsBegunOf, Origin, RoseBy, failures_in, origin_at, origin_of, origins_of}
use Rattle.vdr_session.specs.Sessions.{is_closed}
use Rattle.vdr_session.specs.Standing.{Before}
use Rattle.vdr_session.proofs.SessionHistory.{closed_is_done}
use Rattle.vdr_session.proofs.Origins.{none_failed, origin_behind}
use Rattle.vdr_session.proofs.Spelled.{answer_so}
use Rattle.vdr_session.proofs.Over.{as_long, events_front, origin_last, over_during, over_early, over_seen}

-- with another failure
served_failed : {E : Type 0} (answers begins : Answer E → Type 0) (history : List E) (A B : Type 0) (from to : ℕ) (xs : List Exchange) → (A → B) → AreServed answers begins history A from xs to → AreServed answers begins history B from xs to
served_failed answers begins history A B from to xs so (inl h) = inl h
served_failed answers begins history A B from to xs so (inr h) = inr (so h.0, h.1)

begun_or_not : (began : Began) → (began ≡ starts.Begun) ⊎ (began ≡ starts.Begun → ⊥)
begun_or_not starts.Begun = inl refl
begun_or_not starts.Place = inr (λ e. cc)
begun_or_not starts.Tick = inr (λ e. cc)
begun_or_not starts.Fault = inr (λ e. cc)

not_closed : (b : Bool) → (b ≡ true → ⊥) → b ≡ false
not_closed true ne = absurd (ne refl)
not_closed false ne = refl

module _ {L : Type 0} (tells : LinkTells L) (turns : ℕ) (media_tells : Type 0) (opened : Opening → ℕ → Type 0) (channels : List Selector) (orig old new : List (Desk L Mark)) (began : Began) (marks : List Mark) (outcome end : Outcome)
    (set : (i : ℕ) (d : Desk L Mark) → i < length orig → get_or old i d ≡ record (get_or orig i d) { pass = None; cause = None }) (set_long : length old ≡ length orig)
    (ran : DesksRan tells (AnswersMark media_tells opened channels) (BeginsMark media_tells opened channels) turns old new began marks) (told_as : IsToldAs began outcome) (failures : IsWithFailures outcome end) where
  closed_not : (began ≡ starts.Begun → ⊥) → is_closed end ≡ false
  closed_not ne = not_closed (is_closed end) (λ closed. ne (closed_is_done outcome end began told_as failures closed).1)

  old_link : (i : ℕ) (d : Desk L Mark) → i < length orig → (get_or old i d).link ≡ (get_or orig i d).link
  old_link i d low = ap (λ (x : Desk L Mark). x.link) (set i d low)

  spoken : (i : ℕ) (d : Desk L Mark) → i < length orig → (exchanges : List Exchange) × HasSpoken tells turns end (get_or orig i d) (get_or new i d) exchanges × AreServed (AnswersMark media_tells opened channels i) (BeginsMark media_tells opened channels i) marks ((get_or new i d).cause ≡ Some Failed) 0 exchanges (length marks)
  spoken i d low = by (begun_or_not began)
    where
      by : (began ≡ starts.Begun) ⊎ (began ≡ starts.Begun → ⊥) → (exchanges : List Exchange) × HasSpoken tells turns end (get_or orig i d) (get_or new i d) exchanges × AreServed (AnswersMark media_tells opened channels i) (BeginsMark media_tells opened channels i) marks ((get_or new i d).cause ≡ Some Failed) 0 exchanges (length marks)
      by (inl is) =
          let s = (ran.served is i d (omega (arith, low, set_long))).0 in (
            s.exchanges,
            inl (record { cause = s.cause; told = s.told; conversed = subst (λ (l : L). Converses tells turns l (get_or new i d).link s.exchanges s.cause) (old_link i d low) s.conversed }),
            served_failed (AnswersMark media_tells opened channels i) (BeginsMark media_tells opened channels i) marks (s.cause ≡ Failed) ((get_or new i d).cause ≡ Some Failed) 0 (length marks) s.exchanges (λ is. s.told ∙ ap (λ (c : Cause). Some c) is) s.answered,
          )
      by (inr ne) =
          let same = ap (λ (ds : List (Desk L Mark)). get_or ds i d) (ran.rested ne) ∙ set i d low in (
            [],
            inr (closed_not ne, record { none = refl; same = ap (λ (x : Desk L Mark). x.link) same; idle = ap (λ (x : Desk L Mark). x.cause) same }),
            inl (omega arith),
          )

  pub desks_told : DesksTold tells turns end orig new
  desks_told = record {
    as_many = ran.as_many ∙ set_long;
    each = λ i d low. let s = spoken i d low in (s.0, s.1);
  }

  pub desks_replied : {images : Type 0} (was now : ℕ) (missed : RoseBy (failures_in (origins_of marks)) was now) (before : Before) (t0 : ℕ) (rest : ℕ → Counts) (r : RecorderState) (disk : Disk media_tells images) (w : Watched)
      → media_tells → (opening : Opening) → opened opening t0 → (run : EndsRun before opening marks t0 rest outcome r disk w) → DesksReplied tells turns channels was now end orig new opening run.events
  desks_replied was now missed before t0 rest r disk w told opening opens run = record { origins = origins_of marks; failures = missed; each = replied }
    where
      stands : (a : Answer Mark) (behind : List Mark) → marks ≡ seen_by a ++ behind → Stands a (answer_over opening a) run.events
      stands a behind split =
          let f = events_front opening (seen_by a) behind in
          record {
            order = refl;
            text = refl;
            early = over_early opening a;
            late = ap length (over_seen opening a) ∙ as_long opening (seen_by a);
            behind = f.0 ++ run.behind;
            split = run.front ∙ ap (λ (ms : List Mark). events_of opening ms ++ run.behind) split ∙ ap (λ (es : List Event). es ++ run.behind) (f.1 ∙ ap (λ (es : List Event). es ++ f.0) (sym (over_seen opening a)))
                ∙ append_assoc (seen_by (answer_over opening a)) f.0 run.behind;
          }

      -- the origins of its own event and of that of its last turn
      origin_own : (a : Answer Mark) (behind : List Mark) → marks ≡ seen_by a ++ behind → origin_at (origins_of marks) (length (answer_over opening a).before) ≡ origin_of a.own
      origin_own a behind split =
          (λ k. origin_at (origins_of ((split ∙ append_assoc a.before (a.own ∷ a.during) behind) k)) (over_early opening a k)) ∙ origin_behind a.before a.own (a.during ++ behind) (record { desk = None; failed = false })

      origin_end : (a : Answer Mark) (behind : List Mark) → marks ≡ seen_by a ++ behind
          → origin_at (origins_of marks) (length (answer_over opening a).before + length (answer_over opening a).during) ≡ origin_of (last_mark a)
      origin_end a behind split = (λ k. origin_at (origins_of (split k)) (over_early opening a k + over_during opening a k)) ∙ origin_last a behind

      answers_so : (i : ℕ) (a : Answer Mark) (behind : List Mark) → marks ≡ seen_by a ++ behind → AnswersMark media_tells opened channels i a → IsAnswerOf channels (origins_of marks) i opening (answer_over opening a)
      answers_so i a behind split h = record {
        asked = ap (λ (o : Origin). o.desk) (origin_own a behind split) ∙ h.0;
        answer = answer_so (λ miss. ap (λ (o : Origin). o.failed) (origin_end a behind split) ∙ miss) (h.1 told opening t0 opens);
      }

      begins_so : (i : ℕ) (a : Answer Mark) (behind : List Mark) → marks ≡ seen_by a ++ behind → BeginsMark media_tells opened channels i a → IsBegunOf channels (origins_of marks) i opening (answer_over opening a)
      begins_so i a behind split h = record {
        asked = ap (λ (o : Origin). o.desk) (origin_own a behind split) ∙ h.1.0;
        waits = (h.0, h.1.1 told opening t0 opens);
      }

      long : length marks ≤ length run.events
      long = let a = ap length run.front in let b = length-append (events_of opening marks) run.behind in let c = as_long opening marks in omega (arith, a, b, c)

      replied : (i : ℕ) (d : Desk L Mark) → i < length orig → DeskReplied tells turns channels (origins_of marks) i end opening run.events (get_or orig i d) (get_or new i d)
      replied i d low =
          let s = spoken i d low in
          record {
            exchanges = s.0;
            spoken = s.1;
            answered = served_until (IsAnswerOf channels (origins_of marks) i opening) (IsBegunOf channels (origins_of marks) i opening) ((get_or new i d).cause ≡ Some Failed) run.events 0 (length marks) (length run.events) s.0 long
                (served_so (answer_over opening) marks run.events stands (AnswersMark media_tells opened channels i) (BeginsMark media_tells opened channels i) (IsAnswerOf channels (origins_of marks) i opening) (IsBegunOf channels (origins_of marks) i opening)
                ((get_or new i d).cause ≡ Some Failed) (answers_so i) (begins_so i) 0 (length marks) s.0 s.2);
          }

-- Desks of which nothing was asked, where there was no memory.
module _ {L : Type 0} (tells : LinkTells L) (turns : ℕ) (orig new : List (Desk L Mark)) (end : Outcome) (set : (i : ℕ) (d : Desk L Mark) → i < length orig → get_or new i d ≡ record (get_or orig i d) { pass = None; cause = None })
    (set_long : length new ≡ length orig) (open_ : is_closed end ≡ false) where
  rested : (i : ℕ) (d : Desk L Mark) → i < length orig → HasSpoken tells turns end (get_or orig i d) (get_or new i d) []
  rested i d low = inr (open_, record { none = refl; same = ap (λ (x : Desk L Mark). x.link) (set i d low); idle = ap (λ (x : Desk L Mark). x.cause) (set i d low) })

  pub desks_rested : DesksTold tells turns end orig new
  desks_rested = record { as_many = set_long; each = λ i d low. ([], rested i d low) }

  pub none_replied : (channels : List Selector) (faults : ℕ) (opening : Opening) → DesksReplied tells turns channels faults faults end orig new opening []
  none_replied channels faults opening = record {
    origins = [];
    failures = (let none = none_failed in omega (arith, none));
    each = λ i d low. record { exchanges = []; spoken = rested i d low; answered = inl (omega arith) };
  }
