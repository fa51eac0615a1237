-- Desks that were served, in the whole history.
use Rattle.std.proofs.Common.{◌≡◌, ℕ, Bool, List, Option, Some, None, IfSome, length, sym, ap, ◌∙◌, subst, arith}
use mathlib.Core.List.{IsPrefix}
use Rattle.vdr_latch.specs.Passes.{Passing}
use Rattle.vdr_outside.specs.declared.link.Link.{Ghosts as LinkTells}
use Rattle.vdr_intake.specs.Ends.{QueueId, Taking}
use Rattle.vdr_capture.specs.declared.lane.Lane.{Lane}
use Rattle.vdr_capture.specs.declared.lane.Cause.TheVariants.{Failed}
use Rattle.vdr_desk.specs.declared.desk.Desk.{Desk}
use Rattle.vdr_desk.specs.Desks.{HasServed, Serves}
use Rattle.vdr_desk.specs.Answers.{Answer}
use Rattle.vdr_desk.specs.Links.{Converses}
use Rattle.vdr_desk.proofs.Exchanged.{served_later}
use Rattle.vdr_session.specs.declared.mark.Mark.{Mark}
use Rattle.vdr_session.specs.Ran.{LaneIsReady}

module _ (answers begins : Answer Mark → Type 0) {L : Type 0} (tells : LinkTells L) (turns : ℕ) where
  -- the same in a longer history
  pub served_on : (history longer : List Mark) (old new : Desk L Mark) → IsPrefix history longer → HasServed tells answers begins turns 0 history old new → HasServed tells answers begins turns 0 longer old new
  served_on history longer old new p s = record {
    exchanges = s.exchanges;
    cause = s.cause;
    told = s.told;
    conversed = s.conversed;
    answered = served_later answers begins (s.cause ≡ Failed) history longer 0 0 s.exchanges p (omega arith) s.answered;
  }

  -- a desk that was given a pass, and whose pass was joined
  pub served_whole : (orig given held gone : Desk L Mark) (o : Option (Passing Mark)) (whole : List Mark) → given ≡ record orig { pass = o } → Serves tells answers begins turns given held
      → IfSome held.pass (λ p. IsPrefix p.seen whole) → gone ≡ record held { pass = None } → HasServed tells answers begins turns 0 whole orig gone × (gone.pass ≡ None)
  served_whole orig given held gone o whole is s seen after =
      let p : IsPrefix s.after.seen whole = subst (λ (x : Option (Passing Mark)). IfSome x (λ p. IsPrefix p.seen whole)) s.holds seen in
      let h = s.served in (
        record {
          exchanges = h.exchanges;
          cause = h.cause;
          told = ap (λ (x : Desk L Mark). x.cause) after ∙ h.told;
          conversed = subst (λ (x : L × L). Converses tells turns x.0 x.1 h.exchanges h.cause) (λ i. ((is i).link, (sym after i).link)) h.conversed;
          answered = served_later answers begins (h.cause ≡ Failed) s.after.seen whole 0 (length s.before.seen) h.exchanges p (omega arith) h.answered;
        },
        ap (λ (x : Desk L Mark). x.pass) after,
      )

-- a lane that is ready, with the group configured in other words
pub ready_as : {P : Type 0} (a b : ℕ → Bool) (g : ℕ) (queue : Option QueueId) (taker : Option Taking) (lane : Lane P) → a g ≡ b g → LaneIsReady a g queue taker lane → LaneIsReady b g queue taker lane
ready_as a b g None None lane same h = h
ready_as a b g None (Some taker) lane same h = absurd h
ready_as a b g (Some queue) None lane same h = absurd h
ready_as a b g (Some queue) (Some taker) lane same h = (h.0, h.1, sym same ∙ h.2, h.3, h.4, h.5)
