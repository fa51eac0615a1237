use Rattle.std.proofs.Common.{◌≡◌, ◌∷◌, [], true, length-append, arith}
use Rattle.std.proofs.lemmas.Result.{err_from_is_err_and}
use Rattle.std.proofs.lemmas.List.Elements.{All-push}
use Rattle.vdr_config.specs.Names.{is_channel_name}
use Rattle.vdr_config.specs.Configuration.{Selector, is_selection}
use Rattle.vdr_config.specs.Grammar.{channel_at, has_group}
use Rattle.vdr_config.proofs.Elements.{goes_on, ends, is_done}
use Rattle.vdr_config.proofs.channels.channels.Goals as goal

pub returns-in_err-channel-clause-exact : goal.returns-in_err-channel-clause-exact
returns-in_err-channel-clause-exact c =
    let p = err_from_is_err_and c.from_residual.result c.from_residual.ensures.1 in
    rw (p.1, p.2) (ends (channel_at c.args.groups.now) c.loop-i.channels.items c.args.values.now c.loop-i.i c.index-values-i.result c.in_err-channel.field-0.0 _ c.loop-i-test.true c.index-values-i.is c.in_err-channel.ensures.exact c.loop-i.invariant.told)

pub loop-i-preserved : goal.loop-i-preserved
loop-i-preserved c =
    let x = c.in_ok-channel.channel in
    let P = λ (s : Selector). has_group c.args.groups.now s.group ≡ true in
    record {
      told = rw c.in_ok-push.ensures.items (goes_on (channel_at c.args.groups.now) c.loop-i.channels.items c.args.values.now c.loop-i.i c.index-values-i.result x _ c.loop-i-test.true c.index-values-i.is c.in_ok-channel.ensures.exact c.loop-i.invariant.told);
      found = rw c.in_ok-push.ensures.items (All-push P c.loop-i.channels.items x c.loop-i.invariant.found c.in_ok-channel.ensures.found);
      names = rw c.in_ok-push.ensures.items (All-push (λ (s : Selector). is_channel_name s.name ≡ true) c.loop-i.channels.items x c.loop-i.invariant.names c.in_ok-channel.ensures.name);
      forms = rw c.in_ok-push.ensures.items (All-push (λ (s : Selector). is_selection s.kind ≡ true) c.loop-i.channels.items x c.loop-i.invariant.forms c.in_ok-channel.ensures.form);
      count = rw c.in_ok-push.ensures.items (omega (arith, length-append c.loop-i.channels.items (x ∷ []), c.loop-i.invariant.count));
    }

pub returns-clause-exact : goal.returns-clause-exact
returns-clause-exact c = is_done (channel_at c.args.groups.now) c.loop-i.channels.items c.args.values.now c.loop-i.i _ c.loop-i-test.false c.loop-i.invariant.told
