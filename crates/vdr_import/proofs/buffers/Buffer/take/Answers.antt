use Rattle.std.proofs.Common.{arith, drop, ◌≤◌, ◌-◌}
use Rattle.std.proofs.lemmas.Grind.{common_steps}
use Rattle.vdr_import.proofs.Relaying.{took_ahead}
use Rattle.vdr_import.proofs.buffers.Buffer.take.Goals as goal

pub returns-clause-took : goal.returns-clause-took
returns-clause-took c =
    let s = c.args.self.now in
    let few : c.min-count.result ≤ s.to - s.from = omega (arith, c.min-count.ensures) in
    took_ahead s.bytes _ c.copy_from_slice.new.self (drop c.min-count.result c.args.into.now) s.from s.to c.min-count.result s.order s.within few (grind (arith, common_steps)) c.copy_from_slice.ensures.after
