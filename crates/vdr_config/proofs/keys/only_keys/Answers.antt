use Rattle.std.proofs.Common.{◌∙◌, refl}
use Rattle.vdr_config.proofs.Members.{only_finds}
use Rattle.vdr_config.proofs.keys.only_keys.Goals as goal

pub returns-in_ok-path-in-Some-unknown_of : goal.returns-in_ok-path-in-Some-unknown_of
returns-in_ok-path-in-Some-unknown_of c =
    only_finds c.args.scope c.args.shape _ c.in-Some.members.now.entries _ c.in-Some.ensures c.in-Some-unknown_of.ensures.ordered c.in-Some-unknown_of.ensures.first ∙ rw (c.in_ok-path-in-Some-unknown_of.ensures, c.as_str.ensures.value) refl

pub returns-in-None-unknown_of : goal.returns-in-None-unknown_of
returns-in-None-unknown_of c = only_finds c.args.scope c.args.shape _ c.in-Some.members.now.entries _ c.in-Some.ensures c.in-None-unknown_of.ensures.ordered c.in-None-unknown_of.ensures.first
