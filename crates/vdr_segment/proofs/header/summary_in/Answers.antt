use Rattle.vdr_terms.specs.Legality.{IsBytes}
use Rattle.vdr_segment.proofs.HeaderLemmas.{closed_told, open_told, bits_again, same_five}
use Rattle.vdr_segment.proofs.header.summary_in.Goals as goal

pub returns-then-bytes-ne-OPEN_GATE-clause-told : goal.returns-then-bytes-ne-OPEN_GATE-clause-told
returns-then-bytes-ne-OPEN_GATE-clause-told c = closed_told c.args.bytes.now c.told-bytes c.if-bytes-ne-OPEN_GATE.true

pub returns-clause-told : goal.returns-clause-told
returns-clause-told c =
    let are_bytes : IsBytes c.args.bytes.now = c.fits-bytes in
    open_told c.args.bytes.now _ _ _ _ _ _ are_bytes c.told-bytes c.if-bytes-ne-OPEN_GATE.false c.u32_at.ensures
    (same_five _ _ _ _ _ _ _ _ _ _ c.u64_at.ensures c.u64_at-2.ensures
    (bits_again c.cast_signed.result c.u64_at-3.result _ c.cast_signed.ensures c.u64_at-3.type_inv c.u64_at-3.ensures)
    (bits_again c.cast_signed-2.result c.u64_at-4.result _ c.cast_signed-2.ensures c.u64_at-4.type_inv c.u64_at-4.ensures) c.u64_at-5.ensures)
