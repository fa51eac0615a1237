use Rattle.std.proofs.Common.{◌≡◌, ◌≤◌, List, length}
use Rattle.vdr_terms.specs.Records.{Item}
use Rattle.vdr_capture.specs.Gives.{Gave, asked_often}
use Rattle.vdr_capture.specs.Items.{HasCaptured}
use Rattle.vdr_capture.proofs.work.take_all.Given as goal

abbrev pub invariant-loop-turn : goal.invariant-loop-turn
invariant-loop-turn g l = record {
  queue : l.feeder.queue ≡ l.queue;
  given : List Item;
  gave : Gave (g.P.Port.standing l.initial.port) (g.P.Port.standing l.port) given;
  few : length given ≤ l._turn;
  asked : g.P.Port.asked l.port ≡ asked_often l._turn (g.P.Port.asked l.initial.port);
  faults : g.P.Port.faults l.initial.port ≤ g.P.Port.faults l.port;
  items : HasCaptured l.queue.group given l.feeder.pushed l.feeder.full l.tally;
}
