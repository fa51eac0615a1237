use Rattle.std.proofs.Common.{◌+◌, refl, arith}
use Rattle.vdr_terms.specs.Records.Content.{Gap}
use Rattle.vdr_datagram.specs.Channels.{channels_of}
use Rattle.vdr_terms.proofs.Stamping.{stamp_kept}
use Rattle.vdr_run.proofs.Gaps.{adds_gap}
use Rattle.vdr_run.proofs.maker.Maker.push_gap.Goals as goal

pub returns : goal.returns
returns c =
    adds_gap (channels_of c.args.config.now) c.args.group c.args.self.now.place (c.args.self.now.base + c.args.self.now.greatest) c.args.self.now.utc c.args.gap c.in-Some.first c.in-Some.missed
    _ c.args.self.now _ c.in-Some.is
    (λ i. record {
      content = Gap c.in-Some.missed;
      group = c.args.group;
      bits = c.gap_bits-bits.ensures c.in-Some.missed i;
      place = c.args.self.now.place;
      number = c.in-Some.first;
      tick = c.tick-tick.ensures.tick i;
      utc = stamp_kept c.args.self.now.utc c.args.self.now.stamp i;
    })
    refl refl refl refl refl refl c.push_gap.ensures.items (omega (arith, c.push_gap.ensures.capacity))
