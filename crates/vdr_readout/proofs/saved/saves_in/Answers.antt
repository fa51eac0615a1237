use Rattle.std.proofs.Common.{◌≡◌, ◌∙◌, ℕ, ap, arith}
use Rattle.vdr_readout.specs.Paged.{saves_in, saves_to}
use Rattle.vdr_readout.proofs.saved.saves_in.Goals as goal

pub returns : goal.returns
unfolding saves_in
returns c =
    let end : c.loop-before.before ≡ 32 = omega (arith, c.loop-before-test.false, c.loop-before.auto.before-end) in
    c.loop-before.invariant.are ∙ ap (λ (n : ℕ). saves_to n c.args.recorder.now.vault.table) end
