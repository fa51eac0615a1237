use Rattle.std.proofs.Common.{◌∙◌, ap}
use Rattle.vdr_config.specs.Configuration.{Configuration}
use Rattle.vdr_config.proofs.Repeats.{own_position}
use Rattle.vdr_config.proofs.config.Config.channel_of.Goals as goal

pub returns-in-Some-clause-own_name : goal.returns-in-Some-clause-own_name
returns-in-Some-clause-own_name c i own here is =
    let same = ap (λ (s : Configuration). s.channels) c.self.view_is in
    let found = own_position c.self.inside.channels.items c.args.name.now i own c.self.invariant.names_differ (rw (← same) at here) is in
    c.in-Some.ensures.index ∙ rw c.deref.ensures.value found

pub returns-in-None-clause-own_name : goal.returns-in-None-clause-own_name
returns-in-None-clause-own_name c i own here is =
    let same = ap (λ (s : Configuration). s.channels) c.self.view_is in
    let found = own_position c.self.inside.channels.items c.args.name.now i own c.self.invariant.names_differ (rw (← same) at here) is in
    c.in-None.ensures.index ∙ rw c.deref.ensures.value found
