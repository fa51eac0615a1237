use Rattle.std.proofs.Common.{◌<◌, get_or, length, refl, sym, ap, ◌∙◌, arith}
use Rattle.vdr_latch.specs.Passes.{Passing}
use Rattle.vdr_desk.specs.Answers.{IsBegun}
use Rattle.vdr_desk.specs.declared.desk.Desk.{Desk}
use Rattle.vdr_session.specs.declared.mark.Mark.{Mark}
use Rattle.vdr_desk.proofs.Lists.{same_some}
use Rattle.vdr_session.proofs.Served.{served_whole}
use Rattle.vdr_session.proofs.attending.record_and_serve.Goals as goal

pub run_beside-works-requires-clause-held : goal.run_beside-works-requires-clause-held
run_beside-works-requires-clause-held g c κs within i d low =
    let s = ap (λ (x : Desk g.row.L.Denot Mark). x.pass) (c.split_desks.ensures.desks i d (let l = c.split_desks.ensures.length in omega (arith, l, low))) in
    (_, s, c.requires.latch, refl)

pub join_desks-requires-clause-held : goal.join_desks-requires-clause-held
join_desks-requires-clause-held g c i d low =
    let few : i < length c.args.desks.now = (let a = c.run_beside-works.ensures.as_many in let b = c.split_desks.ensures.length in omega (arith, a, b, low)) in
    let s = c.run_beside-works.ensures.each i d (let b = c.split_desks.ensures.length in omega (arith, b, few)) in
    let given = ap (λ (x : Desk g.row.L.Denot Mark). x.pass) (c.split_desks.ensures.desks i d few) in
    let same = same_some _ _ (sym s.held ∙ given) in (
      s.after,
      s.holds,
      s.latch ∙ ap (λ (p : Passing Mark). p.latch) same ∙ c.requires.latch,
      s.leads ∙ ap (λ (p : Passing Mark). p.leads) same,
      s.parts ∙ ap (λ (p : Passing Mark). p.parts) same,
    )

pub returns-clause-desks : goal.returns-clause-desks
returns-clause-desks g c i d low =
    let there : i < length c.split_desks.new.desks = (let b = c.split_desks.ensures.length in omega (arith, b, low)) in
    let held : i < length c.run_beside-works.new.desks = (let a = c.run_beside-works.ensures.as_many in omega (arith, a, there)) in
    served_whole (g.T.Answers.answers i) (IsBegun (g.T.Answers.waits i)) g.L.Link c.args.turns (get_or c.args.desks.now i d) (get_or c.split_desks.new.desks i d) (get_or c.run_beside-works.new.desks i d) (get_or c.join_desks.new.desks i d) _ c.join_desks.new.pass.seen
    (c.split_desks.ensures.desks i d low) (c.run_beside-works.ensures.each i d there) (c.join_desks.ensures.theirs i d held) (c.join_desks.ensures.desks i d held)
