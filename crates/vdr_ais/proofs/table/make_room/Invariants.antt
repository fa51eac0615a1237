use Rattle.vdr_ais.specs.Lines.{lines_in}
use Rattle.vdr_ais.specs.Pending.{HasNoFewer}
use Rattle.vdr_ais.proofs.Shown.{HasRoom, left}
use Rattle.vdr_ais.proofs.table.make_room.Given as goal

abbrev pub invariant-loop-line : goal.invariant-loop-line
invariant-loop-line l = record {
  same : HasNoFewer l.initial.unfinished l.unfinished;
  room : HasRoom l.unfinished (lines_in l.group l.payload) (left l.group l.line-iterator) l.count;
}
