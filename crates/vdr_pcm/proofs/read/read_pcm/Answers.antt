use Rattle.std.proofs.Common.{◌≡◌, true, ◌∙◌, sym, arith}
use Rattle.vdr_terms.specs.Legality.{IsBytes}
use Rattle.vdr_pcm.specs.Datagrams.{is_pcm}
use Rattle.vdr_pcm.proofs.PcmLemmas.{made_legal, made_pcm, made_read, no_pcm, refused}
use Rattle.vdr_pcm.proofs.read.read_pcm.Goals as goal

pub returns-then-not-is_pcm-clause-no_frame : goal.returns-then-not-is_pcm-clause-no_frame
returns-then-not-is_pcm-clause-no_frame c = no_pcm c.args.bytes.now (refused c.args.bytes.now (sym c.is_pcm.ensures ∙ c.if-not-is_pcm.true))

pub returns-then-not-is_pcm-clause-exact : goal.returns-then-not-is_pcm-clause-exact
returns-then-not-is_pcm-clause-exact c = refused c.args.bytes.now (sym c.is_pcm.ensures ∙ c.if-not-is_pcm.true)

pub invariant_of-result : goal.invariant_of-result
invariant_of-result c =
    let are_bytes : IsBytes c.args.bytes.now = λ i. omega (arith, c.type_inv.bytes i) in
    let met : is_pcm c.args.bytes.now ≡ true = sym c.is_pcm.ensures ∙ c.if-not-is_pcm.false in
    record { legal = made_legal c.args.bytes.now _ _ are_bytes met c.u32_at.ensures c.u32_at-2.ensures }

pub returns-clause-frame : goal.returns-clause-frame
returns-clause-frame c =
    let are_bytes : IsBytes c.args.bytes.now = λ i. omega (arith, c.type_inv.bytes i) in
    made_pcm c.args.bytes.now _ _ are_bytes (sym c.is_pcm.ensures ∙ c.if-not-is_pcm.false) c.u32_at.ensures c.u32_at-2.ensures

pub returns-clause-exact : goal.returns-clause-exact
returns-clause-exact c = made_read c.args.bytes.now _ _ (sym c.is_pcm.ensures ∙ c.if-not-is_pcm.false) c.u32_at.ensures c.u32_at-2.ensures
