use Rattle.std.proofs.Common.{◌≡◌, ◌≤◌, List, length, map}
use Rattle.std.specs.Io.KnownBytes.{Appends}
use Rattle.vdr_capture.specs.Gives.{asked_often}
use Rattle.vdr_desk.specs.Exchanges.{AreExchanged, Exchange, texts_of}
use Rattle.vdr_desk.specs.Links.{HeardAll}
use Rattle.vdr_desk.proofs.serving.serve.Given as goal

abbrev pub invariant-loop-turn : goal.invariant-loop-turn
invariant-loop-turn g l = record {
  pass : (l.pass.latch ≡ l.initial.pass.latch) × (l.pass.parts ≡ l.initial.pass.parts) × (l.pass.leads ≡ l.initial.pass.leads);
  exchanges : List Exchange;
  heard : HeardAll (g.L.Link.left l.initial.link) (g.L.Link.left l.link) (map (λ x. x.line) exchanges);
  few : length exchanges ≤ l._turn;
  replied : Appends (g.L.Link.replied l.initial.link) (g.L.Link.replied l.link) (texts_of exchanges);
  asked : g.L.Link.asked l.link ≡ asked_often l._turn (g.L.Link.asked l.initial.link);
  faults : g.L.Link.faults l.initial.link ≤ g.L.Link.faults l.link;
  answered : AreExchanged (g.T.Answers.answers l.number) l.pass.seen (length l.initial.pass.seen) exchanges (length l.pass.seen);
}
