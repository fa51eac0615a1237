use Rattle.std.proofs.Common.{◌∙◌, ◌*◌, ◌/◌, ℕ, ap, drop}
use Rattle.vdr_base64.specs.Lines.{left_over}
use Rattle.vdr_base64.proofs.pending.Pending.hand_on.Goals as goal

pub returns-clause-kept : goal.returns-clause-kept
unfolding left_over
returns-clause-kept g c = c.drop-drain.ensures.items ∙ c.drain.ensures.kept ∙ ap (λ (n : ℕ). drop (n / 4095 * 4095) c.args.self.now.bytes.items) c.len.ensures
