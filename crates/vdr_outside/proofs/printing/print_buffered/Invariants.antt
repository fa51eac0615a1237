use Rattle.vdr_outside.proofs.printing.print_buffered.Given as goal

abbrev pub ghosts-print_lent : goal.ghosts-print_lent
ghosts-print_lent g a = record { name = a.lent.sink.ghost_name; start = g.O.Sink.taken a.lent.sink.now }
