use Rattle.std.proofs.Common.{◌≡◌, ℕ, List, length, arith, ap, ◌∙◌, subst, sym}
use Rattle.vdr_terms.specs.Legality.{IsBytes}
use Rattle.vdr_terms.specs.Records.{Record}
use Rattle.vdr_terms.specs.Sizes.{record_size}
use Rattle.vdr_entry.specs.Reading.{Begins}
use Rattle.vdr_entry.proofs.ReadingLemmas.{nothing_spotted, spotted_begins, spotted_short}
use Rattle.vdr_entry.proofs.FieldLemmas.{read_is}
use Rattle.vdr_entry.proofs.record.Record.read_from.Goals as goal

pub returns-in_default-clause-none : goal.returns-in_default-clause-none
returns-in_default-clause-none c = λ r rest g. nothing_spotted c.args.bytes.now rest r (c.in_default.ensures.none) g

pub refill-requires : goal.refill-requires
refill-requires c =
    let bytes : IsBytes c.args.bytes.now = λ i. omega (arith, c.type_inv.bytes i) in
    omega (arith, spotted_short c.args.bytes.now _ bytes c.in-Some.ensures.found, ap length c.in-Some.ensures.payload)

found : (bytes : List ℕ) (r s : Record) (n : ℕ) (rest : List ℕ) → r ≡ s → Begins bytes s rest → n ≡ record_size r → (xs : List ℕ) × Begins bytes r xs × (n ≡ record_size r)
found bytes r s n rest same g n_is = (rest, subst (λ (x : Record). Begins bytes x rest) (sym same) g, n_is)

pub returns-clause-found : goal.returns-clause-found
returns-clause-found c =
    let bytes : IsBytes c.args.bytes.now = λ i. omega (arith, c.type_inv.bytes i) in
    let items = c.refill.ensures ∙ c.in-Some.ensures.payload in
    found c.args.bytes.now _ _ _ _
    (read_is c.args.bytes.now c.in-Some.kind _ _ _ _ _ _ c.in-Some.ensures.found items c.u64_at-self-inside.ensures c.u64_at-self-inside-2.ensures c.u64_at-self-inside-3.ensures c.u64_at-self-inside-4.ensures c.u64_at.ensures)
    (spotted_begins c.args.bytes.now _ bytes c.in-Some.ensures.found) c.size.ensures
