use Rattle.std.proofs.Common.{rules, ◌≡◌, ◌++◌, List, [], false, Option, get_or, None, length, sym, ap, ◌∙◌, subst}
use Rattle.std.specs.List.{filter}
use Rattle.vdr_intake.specs.Ends.{Taking}
use Rattle.vdr_capture.specs.declared.lane.Lane.{Lane}
use Rattle.vdr_core.specs.Taken.{Captured}
use Rattle.vdr_session.specs.declared.mark.Mark.{Mark as Marked}
use Rattle.vdr_session.specs.Lanes.{AreDrained, AreMet, ArePopped}
use Rattle.vdr_session.specs.Marks.{has_fault, is_begun, taken_in}
use Rattle.vdr_latch.specs.Passes.{Passing}
use Rattle.vdr_desk.specs.declared.desk.Desk.{Desk}
use Rattle.vdr_desk.specs.Answers.{IsBegun}
use Rattle.vdr_desk.specs.Desks.{HasServed}
use Rattle.vdr_session.specs.Ran.{LaneRan}
use Rattle.vdr_session.specs.Events.{is_started}
use Rattle.vdr_session.proofs.Faults.{fault_last, fault_none, none_leads, started_by}
use Rattle.vdr_session.proofs.Marked.{begun_same, none_begun, taken_none, taken_same}
use Rattle.vdr_session.proofs.under_latch.under_latch.Goals as goal
use Rattle.vdr_session.proofs.under_latch.under_latch.Goals.{in-Begun, in_default}

pub returns-clause-closed : goal.returns-clause-closed
returns-clause-closed g c =
    let marks = c.match-start.pass.seen in
    let t = c.turn.ensures.event in
    let leads = c.close.ensures.leads in
    let led = c.close.ensures.possible.led leads in
    let taken = taken_same g.T.Stepped.leading c.requires.marks marks c.match-start.pass.own led in
    let begun = begun_same g.T.Stepped.leading c.requires.marks marks c.match-start.pass.own led in
    let first : c.in_ok-latch.pass.own ≡ [] = ap (λ (p : Passing Marked). p.own) c.in_ok-latch.ensures.pass in
    let leads_first = ap (λ (p : Passing Marked). p.leads) c.in_ok-latch.ensures.pass in
    let first_idle : is_started t.history ≡ false = none_leads g.T.Stepped.leading c.requires.marks t.history (t.possible.led leads_first ∙ ap (filter g.T.Stepped.leading) first) in
    let means = t.related.1 t.history t.before first_idle in
    elim c.match-start.branch [
      | in-Begun w ↦
          (let r = w.run_lanes.ensures in (
            marks,
            c.close.ensures.value,
            (record {
              ran = λ e. record {
                begun = begun ∙ ap (λ (p : Passing Marked). is_begun p.own) w.pass-is ∙ r.pass.3;
                lanes = λ k d small.
                    subst (λ (ts : List (Option Taking)). LaneRan g.P.Port c.args.turns k (get_or c.args.queues.now k None) (get_or ts k None) (get_or c.args.lanes.now k d) (get_or c.match-start.lanes k d)) (sym w.takers-is)
                    (subst (λ (ls : List (Lane g.row.P.Denot)). LaneRan g.P.Port c.args.turns k (get_or c.args.queues.now k None) (get_or w.run_lanes.new.takers k None) (get_or c.args.lanes.now k d) (get_or ls k d)) (sym w.lanes-is)
                    (r.lanes k d small));
                lost = r.popped.0;
                popped = subst (λ (ts : List (Option Taking)). ArePopped (taken_in marks ++ r.popped.0) ts) (sym w.takers-is)
                    (subst (λ (xs : List Captured). ArePopped (xs ++ r.popped.0) w.run_lanes.new.takers) (sym (taken ∙ ap (λ (p : Passing Marked). taken_in p.own) w.pass-is)) r.popped.1);
                whole = λ e. r.popped.2 (sym (ap (λ (p : Passing Marked). has_fault p.seen) w.pass-is) ∙ e);
                drained = λ e. subst AreDrained (sym w.takers-is) (r.drained (sym (ap (λ (p : Passing Marked). has_fault p.seen) w.pass-is) ∙ e));
                sixteen = ap length w.takers-is ∙ r.sixteen;
                met = subst (AreMet g.T.Records.configured c.args.queues.now) (sym w.takers-is) r.met;
              };
              refused = λ ne. absurd (ne w.in-Begun.is);
            }),
            (record {
              as_many = ap length w.desks-is ∙ r.as_many;
              served = λ e i d low.
                  subst (λ (x : List (Desk g.row.L.Denot Marked) × Passing Marked). HasServed g.L.Link (g.T.Answers.answers i) (IsBegun (g.T.Answers.waits i)) c.args.turns 0 x.1.seen (get_or c.args.desks.now i d) (get_or x.0 i d) × ((get_or x.0 i d).pass ≡ None))
                  (λ k. (sym w.desks-is k, sym w.pass-is k)) (r.desks i d low);
              rested = λ ne. absurd (ne w.in-Begun.is);
            }),
            means.0,
          ))
      | in_default w ↦ (
        marks,
        c.close.ensures.value,
        (record {
          ran = λ e. absurd (search (rules, e));
          refused = λ ne. record {
            none = taken ∙ ap (λ (p : Passing Marked). taken_in p.own) w.pass-is ∙ taken_none c.in_ok-latch.pass.own _ t.own t.related.0.takes (ap taken_in first);
            refused = begun ∙ ap (λ (p : Passing Marked). is_begun p.own) w.pass-is ∙ none_begun c.in_ok-latch.pass.own _ t.own (ap is_begun first) (t.related.0.refused ne);
            idle = λ either. (
              ap (λ (p : Passing Marked). is_started p.seen) w.pass-is ∙ started_by t.history _ t.seen first_idle (t.related.0.idle either).0,
              ap (λ (p : Passing Marked). has_fault p.seen) w.pass-is ∙ fault_none t.history _ t.seen (means.1 either) (t.related.0.idle either).1,
            );
            fails = λ e. ap (λ (p : Passing Marked). has_fault p.seen) w.pass-is ∙ fault_last t.history _ t.seen (t.related.0.fails e);
            lanes = w.lanes-is;
            takers = w.takers-is;
          };
        }),
        (record {
          as_many = ap length w.desks-is;
          served = λ e. absurd (search (rules, e));
          rested = λ ne. w.desks-is;
        }),
        means.0,
      )
    ]
