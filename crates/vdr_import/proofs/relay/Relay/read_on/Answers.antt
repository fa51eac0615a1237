-- What is gathered was written, and a failed read is the input's.
use Rattle.std.proofs.Common.{List, ℕ, subst, sym}
use Rattle.vdr_import.specs.Relayed.{Gathers}
use Rattle.vdr_import.proofs.Relaying.{blames_input, blames_on, gathers_on}
use Rattle.vdr_import.proofs.relay.Relay.read_on.Goals as goal

pub invariant_of-self-in-Err-read_on : goal.invariant_of-self-in-Err-read_on
invariant_of-self-in-Err-read_on g c = record {
  same_input = c.args.self.now.same_input;
  same_output = c.args.self.now.same_output;
  same_buffers = c.args.self.now.same_buffers;
  gathers = subst (λ (w : List ℕ). Gathers g.L.Lending.taken (g.O.Sink.taken c.hand_on.new.output) g.L.Lending.waiting w) (sym c.in-Err-read_on.ensures.waiting)
      (gathers_on _ _ _ _ _ _ c.args.self.now.gathers c.in_default.ensures.handed);
  blames = blames_input _ _ _ _ _ _ _ c.args.self.now.blames c.in-Err-read_on.ensures.cause.later c.in-Err-read_on.ensures.cause.failed c.in_default.ensures.cause.later;
}

pub invariant_of-self-in_default-read_on : goal.invariant_of-self-in_default-read_on
invariant_of-self-in_default-read_on g c = record {
  same_input = c.args.self.now.same_input;
  same_output = c.args.self.now.same_output;
  same_buffers = c.args.self.now.same_buffers;
  gathers = subst (λ (w : List ℕ). Gathers g.L.Lending.taken (g.O.Sink.taken c.hand_on.new.output) g.L.Lending.waiting w) (sym c.in_default-read_on.ensures.waiting)
      (gathers_on _ _ _ _ _ _ c.args.self.now.gathers c.in_default.ensures.handed);
  blames = blames_on _ _ _ _ _ _ _ c.args.self.now.blames c.in_default-read_on.ensures.cause.later c.in_default.ensures.cause.later;
}
