use Rattle.std.proofs.Common.{rules, ◌<◌, ◌≤◌, ◌-◌, ℕ, List, length, get_or, refl, sym, subst, arith}
use Rattle.vdr_outside.proofs.Counts.{none_falls_join}
use Rattle.vdr_terms.specs.Needs.{Fits}
use Rattle.vdr_config.specs.Sizes.{sizes_of}
use Rattle.vdr_media.specs.Medium.{IsEmptyMedium}
use Rattle.vdr_media.proofs.Causes.{cause_of_error}
use Rattle.vdr_media.proofs.Emptied.{besides_none, besides_on, made_on, others_on}
use Rattle.vdr_media.proofs.Members.{any_at}
use Rattle.vdr_media.proofs.emptying.make_others_empty.Goals as goal

pub loop-m-init : goal.loop-m-init
loop-m-init g c = record {
  moments = besides_none 1 c.args.count (g.M.Media.disk c.args.media.now);
  made = λ k low high. absurd (omega (arith, low, high));
  others = λ told k out. refl;
  sizes = refl;
  counts = refl;
  later = search rules;
}

pub make_empty-requires-clause-there : goal.make_empty-requires-clause-there
make_empty-requires-clause-there g c = subst (λ (sizes : List ℕ). c.loop-m.m - 1 < length sizes) (sym c.loop-m.invariant.sizes) (omega (arith, c.loop-m.auto.m, c.requires.there, c.loop-m-test.true))

pub make_empty-requires-clause-fits : goal.make_empty-requires-clause-fits
make_empty-requires-clause-fits g c = subst (λ (sizes : List ℕ). Fits (sizes_of c.args.config.now) (c.loop-m.m - 1) (get_or sizes (c.loop-m.m - 1) 0)) (sym c.loop-m.invariant.sizes)
    (c.requires.fits (c.loop-m.m - 1) (omega (arith, c.loop-m-test.true)) (omega (arith, c.loop-m.auto.m, c.loop-m-test.true)))

pub loop-m-preserved : goal.loop-m-preserved
loop-m-preserved g c =
    let m = c.loop-m.m - 1 in
    let low : 1 ≤ m = omega (arith, c.loop-m-test.true) in
    let high : m < c.args.count = omega (arith, c.loop-m.auto.m, c.loop-m-test.true) in
    record {
      moments = besides_on 1 c.args.count m low high _ (g.M.Media.disk c.args.media.now) (g.M.Media.disk c.loop-m.media) (g.M.Media.disk c.make_empty.new.media) c.loop-m.invariant.moments c.make_empty.ensures.meanwhile;
      made = made_on 1 c.args.count m low high _ (g.M.Media.disk c.args.media.now) (g.M.Media.disk c.loop-m.media) (g.M.Media.disk c.make_empty.new.media) c.loop-m.invariant.moments c.make_empty.ensures.meanwhile
          (λ k. IsEmptyMedium k c.args.config.now c.args.text.now) c.loop-m.m (omega (arith, c.loop-m-test.true)) c.loop-m.invariant.made c.make_empty.ensures.others c.in_ok-make_empty.ensures.done;
      others = λ told. others_on 1 c.args.count m low high _ (g.M.Media.disk c.args.media.now) (g.M.Media.disk c.loop-m.media) (g.M.Media.disk c.make_empty.new.media) c.loop-m.invariant.moments c.make_empty.ensures.meanwhile
          told c.loop-m.invariant.others c.make_empty.ensures.others;
      sizes = search rules;
      counts = search rules;
      later = none_falls_join _ _ _ c.loop-m.invariant.later c.make_empty.ensures.cause.later;
    }

pub returns-in_err-make_empty-clause-meanwhile : goal.returns-in_err-make_empty-clause-meanwhile
returns-in_err-make_empty-clause-meanwhile g c = besides_on 1 c.args.count (c.loop-m.m - 1) (omega (arith, c.loop-m-test.true)) (omega (arith, c.loop-m.auto.m, c.loop-m-test.true)) _ (g.M.Media.disk c.args.media.now)
    (g.M.Media.disk c.loop-m.media) (g.M.Media.disk c.make_empty.new.media) c.loop-m.invariant.moments c.make_empty.ensures.meanwhile

pub returns-in_err-make_empty-clause-others : goal.returns-in_err-make_empty-clause-others
returns-in_err-make_empty-clause-others g c told = others_on 1 c.args.count (c.loop-m.m - 1) (omega (arith, c.loop-m-test.true)) (omega (arith, c.loop-m.auto.m, c.loop-m-test.true)) _ (g.M.Media.disk c.args.media.now)
    (g.M.Media.disk c.loop-m.media) (g.M.Media.disk c.make_empty.new.media) c.loop-m.invariant.moments c.make_empty.ensures.meanwhile told c.loop-m.invariant.others c.make_empty.ensures.others

pub returns-in_err-make_empty-clause-cause : goal.returns-in_err-make_empty-clause-cause
returns-in_err-make_empty-clause-cause g c = cause_of_error _ (c.loop-m.m - 1) _ _ _ _ _
    (λ P here. any_at P (c.args.count - 2) (c.loop-m.m - 1) (omega (arith, c.loop-m.auto.m, c.loop-m-test.true, c.requires.two)) here) c.loop-m.invariant.later c.in_err-make_empty.ensures.cause
