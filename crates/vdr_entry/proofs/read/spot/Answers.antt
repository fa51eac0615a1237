use Rattle.std.proofs.Common.{◌≡◌, IsTrue, slice_index, sym, ◌∙◌, subst, arith}
use Rattle.vdr_bytes.specs.Numbers.{u64_at}
use Rattle.vdr_entry.specs.declared.kind.Kind.{Kind}
use Rattle.vdr_entry.specs.Spotting.{Suits, payload_in}
use Rattle.vdr_entry.proofs.ReadingLemmas.{one_kind}
use Rattle.vdr_entry.proofs.FieldLemmas.{ranged, suited, payload_is_cut}
use Rattle.vdr_entry.proofs.read.spot.Goals as goal

pub returns-then-not-suits-clause-none : goal.returns-then-not-suits-clause-none
returns-then-not-suits-clause-none c = λ kind s.
    let same : kind ≡ c.in_ok-kind.kind = one_kind _ _ (sym s.code ∙ c.in_ok-kind.ensures.found) in
    let moved : Suits c.in_ok-kind.kind (slice_index c.args.bytes.now 1) (u64_at 20 c.args.bytes.now) (payload_in c.args.bytes.now) =
    subst (λ (k : Kind). Suits k (slice_index c.args.bytes.now 1) (u64_at 20 c.args.bytes.now) (payload_in c.args.bytes.now)) same s.payload in
    let met : IsTrue c.suits.result = c.suits.ensures.1 (suited _ _ _ _ _ _ (sym c.u64_at-4.ensures) (sym (payload_is_cut c.args.bytes.now c.u16_at-len.result c.u16_at-len.ensures)) moved) in
    cc

pub returns-clause-found : goal.returns-clause-found
returns-clause-found c = record {
  long = omega (arith, c.if-bytes-len.false, c.u16_at-len.ensures, c.if-bytes-lt44.false);
  code = c.in_ok-kind.ensures.found;
  numbers = ranged _ _ _ _ _ _ c.u64_at.ensures c.u64_at-2.ensures c.u64_at-3.ensures (c.are_in_range.ensures.0 c.if-not-are_in_range.false);
  payload = suited _ _ _ _ _ _ c.u64_at-4.ensures (payload_is_cut c.args.bytes.now c.u16_at-len.result c.u16_at-len.ensures) (c.suits.ensures.0 c.if-not-suits.false);
}

pub returns-clause-payload : goal.returns-clause-payload
returns-clause-payload c = payload_is_cut c.args.bytes.now c.u16_at-len.result c.u16_at-len.ensures
