use Rattle.std.proofs.Common.{◌∙◌, arith}
use Rattle.vdr_rescue.specs.Alones.{account_of}
use Rattle.vdr_rescue.proofs.FindLemmas.{empty_by, found}
use Rattle.vdr_rescue.proofs.alone.Alone.findings.Goals as goal

pub returns : goal.returns
returns c =
    let gaps = c.in_ok-gaps.gaps in
    found (account_of c.args.self.now) c.is_empty-whole.result gaps.items c.in_ok-damaged.damaged.items c.sort.new.offsets.items c.in_ok-closed.closed.items
    c.new-findings.result.items c.add_missing.new.findings.items c.add_damaged.new.findings.items c.add_closed.new.findings.items c.deref.result.now c.deref-2.result.now c.deref-3.result.now
    c.in_ok-gaps.ensures (c.is_empty-whole.ensures ∙ empty_by gaps.items gaps.len (omega (arith, gaps.ok.0))) c.in_ok-damaged.ensures c.sort.ensures.moved c.sort.ensures.rising c.in_ok-closed.ensures
    c.new-findings.ensures.items c.in_ok-add_missing.ensures c.deref.ensures.value c.in_ok-add_damaged.ensures c.deref-2.ensures.value c.in_ok-add_closed.ensures c.deref-3.ensures.value
