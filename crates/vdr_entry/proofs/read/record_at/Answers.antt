use Rattle.std.proofs.Common.{length, arith, ap}
use Rattle.vdr_terms.specs.Legality.{IsBytes}
use Rattle.vdr_entry.proofs.ReadingLemmas.{nothing_spotted, spotted_begins, spotted_size}
use Rattle.vdr_entry.proofs.read.record_at.Goals as goal

pub returns-in_default-clause-none : goal.returns-in_default-clause-none
returns-in_default-clause-none c = λ r rest g. nothing_spotted c.args.bytes.now rest r (c.in_default.ensures.none) g

pub returns-clause-found : goal.returns-clause-found
returns-clause-found c =
    let bytes : IsBytes c.args.bytes.now = λ i. omega (arith, c.type_inv.bytes i) in
    let size = spotted_size c.args.bytes.now _ c.in-Some.ensures.found in
    (_, _, spotted_begins c.args.bytes.now _ bytes c.in-Some.ensures.found, omega (arith, size, ap length c.in-Some.ensures.payload))
