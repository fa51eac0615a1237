use Rattle.std.proofs.Common.{◌≤◌, ℕ, get_or, refl, subst, arith}
use Rattle.std.proofs.lemmas.Result.{IfOk-from_err}
use Rattle.vdr_outside.specs.Causes.{Rose}
use Rattle.vdr_outside.specs.Disk.{SameBut}
use Rattle.vdr_outside.proofs.Counts.{none_fell, on_err, rose_after}
use Rattle.vdr_segment.proofs.Fronts.{front_same}
use Rattle.vdr_vault.proofs.Passed.{its_ring, keeps_on, starts, walks_on, walks_step}
use Rattle.vdr_vault.proofs.Stepping.{judged_after, unloaded}
use Rattle.vdr_vault.proofs.appending.append_from.Goals as goal

pub loop-m-init : goal.loop-m-init
loop-m-init g c = record {
  low = omega arith;
  high = c.requires.few;
  keeps = record { rings = λ d are. are; size = refl; untouched = λ k lt. refl; fronts = λ told k. front_same _; others = λ told k out. refl; sizes = refl; counts = refl; later = none_fell _ };
  judged = λ judged. judged;
  walks = λ ordered sizes placed first all told waits. starts ordered sizes c.args.from c.args.rings.now c.args.pins.now placed first all c.args.records.now (g.M.Media.disk c.args.media.now) c.requires.rings.1 c.requires.few waits;
}

pub append-requires-clause-room : goal.append-requires-clause-room
append-requires-clause-room g c = (its_ring g.M.Media c.args.from c.loop-m.m c.args.rings.now c.loop-m.rings c.loop-m-test.true c.index-rings-m.result c.args.media.now c.loop-m.media c.requires.rings.1 c.loop-m.invariant.keeps).room

pub append-requires-clause-fits : goal.append-requires-clause-fits
append-requires-clause-fits g c =
    let fits = c.requires.rings.2 in
    let segment = (its_ring g.M.Media c.args.from c.loop-m.m c.args.rings.now c.loop-m.rings c.loop-m-test.true c.index-rings-m.result c.args.media.now c.loop-m.media c.requires.rings.1 c.loop-m.invariant.keeps).segment in
    omega (arith, fits, segment)

pub returns-in_err-append-clause-passed : goal.returns-in_err-append-clause-passed
returns-in_err-append-clause-passed g c ordered sizes placed first all told waits =
    let inv = c.loop-m.invariant in
    record {
      moments = walks_on g.M.Media c.args.from c.loop-m.m c.args.rings.now c.loop-m.rings c.loop-m-test.true c.index-rings-m.result c.args.media.now c.loop-m.media c.requires.rings.1 inv.keeps
          inv.low c.append.new.self c.append.new.media c.append.result c.append.ensures.ring c.append.ensures.front c.append.ensures.writes ordered sizes c.args.pins.now c.pins_at.result.now placed first all c.args.records.now c.pins_at.ensures told (inv.walks ordered sizes placed first all told waits) c.append.ensures.appended c.append.ensures.kept;
      done = IfOk-from_err c.from_residual.result _ c.from_residual.ensures.0;
    }

pub returns-in_err-append-clause-keeps : goal.returns-in_err-append-clause-keeps
returns-in_err-append-clause-keeps g c = let inv = c.loop-m.invariant in keeps_on g.M.Media c.args.from c.loop-m.m c.args.rings.now c.loop-m.rings c.loop-m-test.true c.index-rings-m.result c.args.media.now c.loop-m.media c.requires.rings.1 inv.keeps
    inv.low c.append.new.self c.append.new.media c.append.result c.append.ensures.ring c.append.ensures.front c.append.ensures.writes

pub returns-in_err-append-clause-judged : goal.returns-in_err-append-clause-judged
returns-in_err-append-clause-judged g c judged =
    let inv = c.loop-m.invariant in
    let its = (its_ring g.M.Media c.args.from c.loop-m.m c.args.rings.now c.loop-m.rings c.loop-m-test.true c.index-rings-m.result c.args.media.now c.loop-m.media c.requires.rings.1 inv.keeps).medium in
    judged_after _ c.loop-m.m c.append.new.self (g.M.Media.disk c.loop-m.media) (g.M.Media.disk c.append.new.media) (inv.keeps.rings _ c.requires.rings.1)
    (let high = c.loop-m-test.true in let size = inv.keeps.size in omega (arith, high, size)) (unloaded c.append.new.self (g.M.Media.disk c.append.new.media) c.append.ensures.loaded)
    (subst (λ (k : ℕ). g.M.Media.tells → SameBut k (g.M.Media.disk c.loop-m.media).reads (g.M.Media.disk c.append.new.media).reads) its c.append.ensures.writes.others) (inv.judged judged)

pub returns-in_err-append-clause-cause : goal.returns-in_err-append-clause-cause
returns-in_err-append-clause-cause g c =
    let inv = c.loop-m.invariant in
    on_err c.from_residual.result (
      c.loop-m.m,
      inv.low,
      (let high = c.loop-m-test.true in let size = inv.keeps.size in omega (arith, high, size)),
      rose_after _ _ _ (inv.keeps.later.none_falls c.loop-m.m)
          (subst (λ (k : ℕ). Rose (get_or (g.M.Media.faults c.loop-m.media) k 0) (get_or (g.M.Media.faults c.append.new.media) k 0)) (its_ring g.M.Media c.args.from c.loop-m.m c.args.rings.now c.loop-m.rings c.loop-m-test.true c.index-rings-m.result c.args.media.now c.loop-m.media c.requires.rings.1 c.loop-m.invariant.keeps).medium
          c.in_err-append.ensures.writes.cause.failed),
    )

pub returns-clause-passed : goal.returns-clause-passed
returns-clause-passed g c ordered sizes placed first all told waits =
    let walks = c.loop-m.invariant.walks ordered sizes placed first all told waits in
    let over = c.loop-m-test.false in
    record { moments = walks.walked.moments; done = λ k low lt. walks.given k (omega (arith, over, lt)) low }

pub loop-m-preserved : goal.loop-m-preserved
loop-m-preserved g c =
    let inv = c.loop-m.invariant in
    let low : c.args.from ≤ c.loop-m.m = inv.low in
    let high = c.loop-m-test.true in
    let its = (its_ring g.M.Media c.args.from c.loop-m.m c.args.rings.now c.loop-m.rings c.loop-m-test.true c.index-rings-m.result c.args.media.now c.loop-m.media c.requires.rings.1 inv.keeps).medium in
    record {
      low = omega (arith, low);
      high = omega (arith, high);
      keeps = keeps_on g.M.Media c.args.from c.loop-m.m c.args.rings.now c.loop-m.rings c.loop-m-test.true c.index-rings-m.result c.args.media.now c.loop-m.media c.requires.rings.1 inv.keeps
          inv.low c.append.new.self c.append.new.media c.append.result c.append.ensures.ring c.append.ensures.front c.append.ensures.writes;
      judged = λ judged. judged_after _ c.loop-m.m c.append.new.self (g.M.Media.disk c.loop-m.media) (g.M.Media.disk c.append.new.media)
          (inv.keeps.rings _ c.requires.rings.1) (let size = inv.keeps.size in omega (arith, high, size)) (unloaded c.append.new.self (g.M.Media.disk c.append.new.media) c.append.ensures.loaded)
          (subst (λ (k : ℕ). g.M.Media.tells → SameBut k (g.M.Media.disk c.loop-m.media).reads (g.M.Media.disk c.append.new.media).reads) its c.append.ensures.writes.others) (inv.judged judged);
      walks = λ ordered sizes placed first all told waits. walks_step g.M.Media c.args.from c.loop-m.m c.args.rings.now c.loop-m.rings c.loop-m-test.true c.index-rings-m.result c.args.media.now c.loop-m.media c.requires.rings.1 inv.keeps
          inv.low c.append.new.self c.append.new.media c.append.result c.append.ensures.ring c.append.ensures.front c.append.ensures.writes ordered sizes c.args.pins.now c.pins_at.result.now placed first all c.args.records.now c.pins_at.ensures told (inv.walks ordered sizes placed first all told waits) c.append.ensures.appended c.append.ensures.kept _ c.in_ok-append.was;
    }
