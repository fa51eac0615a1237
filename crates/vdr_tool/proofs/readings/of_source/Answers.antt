use Rattle.std.proofs.Common.{◌≡◌, true, ap}
use Rattle.vdr_tag.specs.Values.{is_identifier as names_source}
use Rattle.vdr_readout.specs.Readings.Reading.{Track}
use Rattle.vdr_readout.specs.Reads.{plain_play}
use Rattle.vdr_tool.proofs.readings.of_source.Goals as goal

pub returns-clause-only : goal.returns-clause-only
returns-clause-only c =
    let named : names_source c.args.source.now ≡ true = cc in
    (plain_play c.in_ok-wanted.wanted, ap (Track (plain_play c.in_ok-wanted.wanted)) c.as_bytes.ensures.value, named, c.in_ok-wanted.ensures.only)
