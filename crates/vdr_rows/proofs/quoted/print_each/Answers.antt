use Rattle.vdr_outside.proofs.Known.{front-more, pieces-at}
use Rattle.vdr_rows.specs.Texts.{doubled_byte}
use Rattle.vdr_rows.proofs.quoted.print_each.Goals as goal

pub returns-in_err-print_byte-clause-front : goal.returns-in_err-print_byte-clause-front
returns-in_err-print_byte-clause-front g c =
    front-more _ _ _ _ _ _ _ (pieces-at doubled_byte c.args.text.now c.loop-byte.byte-index _ c.loop-byte-test.true) c.loop-byte.invariant.written c.in_err-print_byte.ensures.front
