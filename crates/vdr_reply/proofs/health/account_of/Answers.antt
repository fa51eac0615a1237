use Rattle.std.proofs.Common.{◌∙◌, Some, not, ap}
use Rattle.vdr_reply.proofs.Healths.{an_account, no_account}
use Rattle.vdr_reply.proofs.health.account_of.Goals as goal

pub returns-then-is_none : goal.returns-then-is_none
returns-then-is_none c = λ start popped makes own counted. no_account start popped c.args.recorder.now.vault.config.groups c.args.group makes.limits c.args.rate own (c.is_none.ensures ∙ ap not c.if-is_none.true)

pub returns : goal.returns
returns c = λ start popped makes own counted.
    (λ i. Some (record { taken = (counted i).taken; recorded = (c.recorded-recorded.ensures.sums start popped makes.makes.counts c.requires i).0; counts = record (counted i).missed { rate = (c.recorded-recorded.ensures.sums start popped makes.makes.counts c.requires i).1 } }))
    ∙ an_account start popped c.args.recorder.now.vault.config.groups c.args.group makes.limits c.args.rate own (c.is_none.ensures ∙ ap not c.if-is_none.false)
