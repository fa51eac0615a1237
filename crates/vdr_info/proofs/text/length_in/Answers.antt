use Rattle.std.proofs.Common.{ℕ, sym, ◌∙◌, ap, arith}
use Rattle.vdr_terms.specs.Legality.{IsBytes}
use Rattle.vdr_bytes.specs.Numbers.{le_u32}
use Rattle.vdr_opening.proofs.Fronts.{spelled}
use Rattle.vdr_info.proofs.text.length_in.Goals as goal

pub returns : goal.returns
returns c =
    let are_bytes : IsBytes c.args.bytes.now = λ i. omega (arith, c.type_inv.bytes i) in
    spelled c.args.bytes.now are_bytes c.requires ∙ ap (λ (n : ℕ). le_u32 n) (sym c.u32_at.ensures)
