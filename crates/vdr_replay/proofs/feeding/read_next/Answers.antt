use Rattle.std.proofs.Common.{◌≡◌, ◌<◌, length, Bool, Result, Err, refl, ap, arith}
use Rattle.vdr_config.specs.Configuration.{Configuration}
use Rattle.vdr_feed.specs.declared.fault.FeedFault.{FeedFault}
use Rattle.vdr_run.proofs.Given.{gave_true}
use Rattle.vdr_replay.proofs.Given.{none_there}
use Rattle.vdr_replay.proofs.Reading.{ends_failed, ends_strange}
use Rattle.vdr_replay.proofs.feeding.read_next.Goals as goal

pub returns-then-is_none-clause-ended : goal.returns-then-is_none-clause-ended
returns-then-is_none-clause-ended g c = λ first feed h.
    let gave = gave_true _ _ _ _ _ c.in-Ok-true.field-0 c.in-Ok-true.field-0-test c.in-Ok-true.ensures.gave.1 in
    let low = gave.1.legal.group in
    let own = gave.1.holds.group in
    let sixteen = c.config.invariant.sixteen in
    let within : c.item.new.into.group < length c.config.inside.groups = omega (arith, low, own, sixteen) in
    ends_strange c.args.config.now.groups first _ _ _ _ feed gave.0 _ _ h gave.1
    (λ rated. none_there c.args.config.now.groups c.config.inside.groups gave.0.group c.item.new.into.group _ (ap (λ (s : Configuration). s.groups) c.config.view_is) own within c.if-is_none.ensures rated)
    refl c.offset-offset.ensures

err_is : (e f : FeedFault) → e ≡ f → ◌≡◌ {A = Result Bool FeedFault} (Err e) (Err f)
err_is e f same i = Err (same i)

pub returns-in-Err-Fault-clause-ended : goal.returns-in-Err-Fault-clause-ended
returns-in-Err-Fault-clause-ended g c = λ first feed h.
    ends_failed c.args.config.now.groups first _ _ _ feed h (c.in-Err-Fault.ensures.part h.going (err_is _ _ c.in-Err-Fault.field-0-is))
