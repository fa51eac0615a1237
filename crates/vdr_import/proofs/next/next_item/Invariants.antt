use Rattle.vdr_import.specs.Relayed.{held_in}
use Rattle.vdr_import.proofs.next.next_item.Given as goal

abbrev pub ghosts-item_lent : goal.ghosts-item_lent
ghosts-item_lent g a = record {
  input = a.ends.input.ghost_name;
  output = a.ends.output.ghost_name;
  buffers = a.ends.buffers.ghost_name;
  taken = g.O.Sink.taken a.ends.output.now;
  waiting = held_in a.ends.buffers.now.gathered;
  input_faults = g.I.Source.faults a.ends.input.now;
  output_faults = g.O.Sink.faults a.ends.output.now;
}
