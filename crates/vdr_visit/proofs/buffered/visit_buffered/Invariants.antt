use Rattle.vdr_visit.proofs.buffered.visit_buffered.Given as goal

abbrev pub ghosts-visit_lent : goal.ghosts-visit_lent
ghosts-visit_lent g a = record { name = a.lent.sink.ghost_name; start = g.O.Sink.taken a.lent.sink.now }
