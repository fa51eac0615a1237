use Rattle.std.proofs.Common.{sym, subst}
use Rattle.vdr_pcap.specs.Steps.{Settles}
use Rattle.vdr_pcap.specs.declared.unit.Unit.{Unit as Found}
use Rattle.vdr_pcap.proofs.steps.settle.Goals as goal

pub returns-in-Says : goal.returns-in-Says
returns-in-Says c =
    subst (λ (u : Found). Settles c.args.limit c.args.offset.now c.settle_other.new.offset c.args.account.now c.settle_other.new.account u c.args.front.now c.args.into.now c.args.into.now c.settle_other.result)
    (sym c.in-Says.is) (c.settle_other.ensures c.args.limit c.args.into.now)

pub returns-in-Unread : goal.returns-in-Unread
returns-in-Unread c =
    subst (λ (u : Found). Settles c.args.limit c.args.offset.now c.settle_other-in-Unread.new.offset c.args.account.now c.settle_other-in-Unread.new.account u c.args.front.now c.args.into.now c.args.into.now c.settle_other-in-Unread.result)
    (sym c.in-Unread.is) (c.settle_other-in-Unread.ensures c.args.limit c.args.into.now)
