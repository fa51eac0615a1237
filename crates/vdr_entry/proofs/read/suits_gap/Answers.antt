use Rattle.std.proofs.Common.{◌≡◌, ◌∙◌, sym, ap, length, arith}
use Rattle.vdr_bytes.specs.Numbers.{u64_at}
use Rattle.vdr_terms.specs.Legality.{IsBytes}
use Rattle.vdr_terms.specs.Records.{total}
use Rattle.vdr_entry.specs.Fields.{missed_in}
use Rattle.vdr_entry.proofs.SpellingLemmas.{length-gap_payload}
use Rattle.vdr_entry.proofs.PayloadLemmas.{gap_spelled, gap_read, missed_kept}
use Rattle.vdr_entry.proofs.read.suits_gap.Goals as goal

pub returns-then-payload-ne-GAP_SIZE : goal.returns-then-payload-ne-GAP_SIZE
returns-then-payload-ne-GAP_SIZE c = (
  λ h. let bad : ⊥ = cc in absurd bad,
  λ p. absurd (omega (arith, length-gap_payload c.args.number (missed_in c.args.payload.now), ap length p.1, c.if-payload-ne-GAP_SIZE.true)),
)

pub returns-then-u64_at-number : goal.returns-then-u64_at-number
returns-then-u64_at-number c = (
  λ h. let bad : ⊥ = cc in absurd bad,
  λ p. let first : u64_at 0 c.args.payload.now ≡ c.args.number = ap (u64_at 0) p.1 ∙ (gap_read c.args.number (missed_in c.args.payload.now) (omega (arith, c.ranges.number)) p.0).1 in
      absurd (c.if-u64_at-number.true (c.u64_at.ensures ∙ first)),
)

pub returns : goal.returns
returns c =
    let bytes : IsBytes c.args.payload.now = λ i. omega (arith, c.type_inv.payload i) in
    let same : total c.missed_in.result ≡ total (missed_in c.args.payload.now) = ap total c.missed_in.ensures in (
      λ h. (
        missed_kept c.args.payload.now bytes (omega (arith, same, c.is_any.ensures.0 h)),
        gap_spelled c.args.number c.args.payload.now bytes c.if-payload-ne-GAP_SIZE.false (sym c.u64_at.ensures ∙ c.if-u64_at-number.false),
      ),
      λ p. c.is_any.ensures.1 (omega (arith, same, p.0.some)),
    )
