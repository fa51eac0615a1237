use Rattle.std.proofs.Common.{◌∙◌, arith}
use Rattle.vdr_entry.proofs.PayloadLemmas.{gap_made, gap_carried}
use Rattle.vdr_entry.proofs.record.Record.gap.Goals as goal

pub returns : goal.returns
returns c =
    let legal = c.gap_payload.ensures.legal c.requires.missed in
    gap_made _ _ _ _ _ _ _ _ (c.kept.ensures ∙ c.gap_payload.ensures.bytes) c.requires.utc legal (omega arith)

pub invariant_of-result : goal.invariant_of-result
invariant_of-result c =
    let legal = c.gap_payload.ensures.legal c.requires.missed in
    gap_carried _ _ _ _ _ _ _ _ (c.kept.ensures ∙ c.gap_payload.ensures.bytes) c.requires.utc legal (omega arith) c.requires.group (omega arith) c.requires.place c.requires.tick
