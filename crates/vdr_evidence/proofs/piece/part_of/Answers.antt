use Rattle.std.proofs.Common.{◌∙◌, ◌++◌, List, ℕ, ap, take}
use Rattle.vdr_evidence.proofs.Parts.{part_is}
use Rattle.vdr_evidence.proofs.piece.part_of.Goals as goal

pub returns : goal.returns
returns c =
    c.push-2.ensures
    ∙ ap (λ (l : List ℕ). l ++ take c.write_record-size.result c.write_record-size.new.into) (c.push.ensures ∙ (λ i. c.new-piece.ensures i ++ c.u32_bytes.ensures i))
    ∙ part_is c.args.item.now _ c.write_record-size.new.into c.write_record-size.result c.write_record-size.ensures.bytes c.write_record-size.ensures.size
