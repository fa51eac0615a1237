use Rattle.std.proofs.Common.{◌∷◌, ◌++◌, [], ap, ◌∙◌, arith}
use Rattle.std.proofs.lemmas.List.{take_more_set}
use Rattle.vdr_entry.specs.Buffers.{Buffered}
use Rattle.vdr_entry.proofs.PayloadLemmas.{gap_made, gap_carried}
use Rattle.vdr_entry.proofs.buffer.RecordBuffer.push_gap.Goals as goal

pub refill-requires : goal.refill-requires
refill-requires c =
    let legal = c.gap_payload-payload.ensures.legal c.requires.missed in
    gap_carried _ _ _ _ _ _ _ _ c.gap_payload-payload.ensures.bytes c.requires.utc legal (omega arith) c.requires.group (omega arith) c.requires.place c.requires.tick

pub returns-clause-items : goal.returns-clause-items
returns-clause-items c =
    let legal = c.gap_payload-payload.ensures.legal c.requires.missed in
    let items = c.add_where_full.ensures.same ∙ ap (λ (b : Buffered). b.items) c.self.view_is in
    let made = c.refill.ensures ∙ gap_made _ _ _ _ _ _ _ _ c.gap_payload-payload.ensures.bytes c.requires.utc legal (omega arith) in
    take_more_set c.add_where_full.new.slots.items c.self.inside.used c.refill.new.self c.add_where_full.ensures.more
    ∙ (λ i. items i ++ made i ∷ [])
