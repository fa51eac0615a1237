use Rattle.std.proofs.Common.{refl, arith}
use Rattle.std.proofs.lemmas.Result.{IfOk-from_err}
use Rattle.vdr_outside.proofs.Counts.{none_fell}
use Rattle.vdr_segment.proofs.Fronts.{front_same}
use Rattle.vdr_vault.proofs.Brought.{brings_none, brings_step, cause_here, judged_on, keeps_on, moments_on}
use Rattle.vdr_vault.proofs.Passed.{its_ring}
use Rattle.vdr_vault.proofs.bringing.bring_up_all.Goals as goal

pub loop-m-init : goal.loop-m-init
loop-m-init g c = record {
  high = omega arith;
  keeps = record { rings = λ d are. are; size = refl; untouched = λ k lt. refl; fronts = λ told k. front_same _; others = λ told k out. refl; sizes = refl; counts = refl; later = none_fell _ };
  judged = λ judged. judged;
  brings = λ placed told reads. brings_none c.args.rings.now placed (g.M.Media.disk c.args.media.now) c.requires.rings.1 reads;
}

pub bring_up-requires : goal.bring_up-requires
bring_up-requires g c = record { room = (its_ring g.M.Media 0 c.loop-m.m c.args.rings.now c.loop-m.rings c.loop-m-test.true c.index-rings-m.result c.args.media.now c.loop-m.media c.requires.rings.1 c.loop-m.invariant.keeps).room }

pub returns-in_err-bring_up-clause-brought : goal.returns-in_err-bring_up-clause-brought
returns-in_err-bring_up-clause-brought g c placed told reads =
    let call = c.bring_up.ensures in
    record {
      moments = moments_on g.M.Media c.loop-m.m c.args.rings.now c.loop-m.rings c.loop-m-test.true c.index-rings-m.result c.args.media.now c.loop-m.media c.requires.rings.1 c.loop-m.invariant.keeps
          c.bring_up.new.self c.bring_up.new.media call.keeps.ring call.keeps.front call.others call.sizes placed told
          (c.loop-m.invariant.brings placed told reads) c.bring_up.result call.brought;
      done = IfOk-from_err c.from_residual.result _ c.from_residual.ensures.0;
    }

pub returns-in_err-bring_up-clause-keeps : goal.returns-in_err-bring_up-clause-keeps
returns-in_err-bring_up-clause-keeps g c =
    let call = c.bring_up.ensures in
    keeps_on g.M.Media c.loop-m.m c.args.rings.now c.loop-m.rings c.loop-m-test.true c.index-rings-m.result c.args.media.now c.loop-m.media c.requires.rings.1 c.loop-m.invariant.keeps
    c.bring_up.new.self c.bring_up.new.media call.keeps.ring call.keeps.front call.others call.sizes call.counts call.cause.later

pub returns-in_err-bring_up-clause-judged : goal.returns-in_err-bring_up-clause-judged
returns-in_err-bring_up-clause-judged g c judged =
    let call = c.bring_up.ensures in
    judged_on g.M.Media c.loop-m.m c.args.rings.now c.loop-m.rings c.loop-m-test.true c.index-rings-m.result c.args.media.now c.loop-m.media c.requires.rings.1
    c.loop-m.invariant.keeps
    c.bring_up.new.self c.bring_up.new.media call.keeps.ring call.keeps.front call.others call.sizes call.keeps.judged (c.loop-m.invariant.judged judged)

pub returns-in_err-bring_up-clause-cause : goal.returns-in_err-bring_up-clause-cause
returns-in_err-bring_up-clause-cause g c =
    let call = c.bring_up.ensures in
    cause_here g.M.Media c.loop-m.m c.args.rings.now c.loop-m.rings c.loop-m-test.true c.index-rings-m.result c.args.media.now c.loop-m.media c.requires.rings.1 c.loop-m.invariant.keeps
    c.bring_up.new.self c.bring_up.new.media call.keeps.ring call.keeps.front call.others call.sizes c.from_residual.result
    c.in_err-bring_up.ensures.cause.failed

pub returns-clause-brought : goal.returns-clause-brought
returns-clause-brought g c placed told reads =
    let brings = c.loop-m.invariant.brings placed told reads in
    let over = c.loop-m-test.false in
    record { moments = brings.moments; done = λ k lt. brings.brought k lt (omega (arith, over, lt)) }

pub loop-m-preserved : goal.loop-m-preserved
loop-m-preserved g c =
    let call = c.bring_up.ensures in
    let high = c.loop-m-test.true in
    record {
      high = omega (arith, high);
      keeps = keeps_on g.M.Media c.loop-m.m c.args.rings.now c.loop-m.rings c.loop-m-test.true c.index-rings-m.result c.args.media.now c.loop-m.media c.requires.rings.1 c.loop-m.invariant.keeps
          c.bring_up.new.self c.bring_up.new.media call.keeps.ring call.keeps.front call.others call.sizes call.counts call.cause.later;
      judged = λ judged. judged_on g.M.Media c.loop-m.m c.args.rings.now c.loop-m.rings c.loop-m-test.true c.index-rings-m.result c.args.media.now
          c.loop-m.media c.requires.rings.1 c.loop-m.invariant.keeps
          c.bring_up.new.self c.bring_up.new.media call.keeps.ring call.keeps.front call.others call.sizes call.keeps.judged (c.loop-m.invariant.judged judged);
      brings = λ placed told reads. brings_step g.M.Media c.loop-m.m c.args.rings.now c.loop-m.rings c.loop-m-test.true c.index-rings-m.result c.args.media.now c.loop-m.media c.requires.rings.1 c.loop-m.invariant.keeps
          c.bring_up.new.self c.bring_up.new.media call.keeps.ring call.keeps.front call.others call.sizes placed told
          (c.loop-m.invariant.brings placed told reads) c.bring_up.result call.brought _ c.in_ok-bring_up.was;
    }
