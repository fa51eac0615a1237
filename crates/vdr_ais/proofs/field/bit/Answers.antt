use Rattle.std.proofs.Common.{◌∙◌, ◌/◌, ◌%◌, length, get_or, sym, ap, arith}
use Rattle.vdr_ais.specs.Views.{message_of}
use Rattle.vdr_ais.proofs.BitLemmas.{bit_at, bits_length, places}
use Rattle.vdr_ais.proofs.field.bit.Goals as goal

pub bounds-deref-at : goal.bounds-deref-at
bounds-deref-at c =
    let n = bits_length (message_of c.args.message.now) in
    let same = ap length c.deref.ensures.0 in
    omega (arith, n, c.requires, same)

pub returns-clause-value : goal.returns-clause-value
returns-clause-value c = c.from.ensures ∙ ap (λ xs. get_or xs (c.args.at / 6) 0 / get_or places (c.args.at % 6) 0 % 2) c.deref.ensures.0 ∙ sym (bit_at (message_of c.args.message.now) c.args.at c.requires)
