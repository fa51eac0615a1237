use Rattle.vdr_datagram.specs.Channels.{channels_of}
use Rattle.vdr_run.specs.Making.{ClosesBelow}
use Rattle.vdr_run.proofs.maker.Maker.push_closing_gaps.Given as goal

abbrev pub invariant-loop-group : goal.invariant-loop-group
invariant-loop-group l = record {
  closes : ClosesBelow l.group (channels_of l.config) l.rest l.initial.self l.self;
}
