use Rattle.std.proofs.Common.{◌∙◌, sym, arith}
use Rattle.vdr_terms.specs.Legality.{IsBytes}
use Rattle.vdr_image.proofs.ImageLemmas.{made_image, made_legal, made_read, no_image, refused}
use Rattle.vdr_image.proofs.read.read_image.Goals as goal

pub returns-then-not-is_image-clause-no_image : goal.returns-then-not-is_image-clause-no_image
returns-then-not-is_image-clause-no_image c = no_image c.args.bytes.now (refused c.args.bytes.now (sym c.is_image.ensures ∙ c.if-not-is_image.true))

pub returns-then-not-is_image-clause-exact : goal.returns-then-not-is_image-clause-exact
returns-then-not-is_image-clause-exact c = refused c.args.bytes.now (sym c.is_image.ensures ∙ c.if-not-is_image.true)

pub invariant_of-result : goal.invariant_of-result
invariant_of-result c =
    let are_bytes : IsBytes c.args.bytes.now = λ i. omega (arith, c.type_inv.bytes i) in
    record {
      legal = made_legal c.args.bytes.now _ _ _ are_bytes
          (record { met = sym c.is_image.ensures ∙ c.if-not-is_image.false; block_is = c.u32_at.ensures; sequence_is = c.u32_at-2.ensures; greatest_is = c.u32_at-3.ensures });
    }

pub returns-clause-image : goal.returns-clause-image
returns-clause-image c =
    let are_bytes : IsBytes c.args.bytes.now = λ i. omega (arith, c.type_inv.bytes i) in
    made_image c.args.bytes.now _ _ _ are_bytes
    (record { met = sym c.is_image.ensures ∙ c.if-not-is_image.false; block_is = c.u32_at.ensures; sequence_is = c.u32_at-2.ensures; greatest_is = c.u32_at-3.ensures })

pub returns-clause-exact : goal.returns-clause-exact
returns-clause-exact c =
    made_read c.args.bytes.now _ _ _
    (record { met = sym c.is_image.ensures ∙ c.if-not-is_image.false; block_is = c.u32_at.ensures; sequence_is = c.u32_at-2.ensures; greatest_is = c.u32_at-3.ensures })
