use Rattle.vdr_tag.specs.Blocks.{block_values}
use Rattle.vdr_tag.proofs.FrontLemmas.{OpensBlock-from_none}
use Rattle.vdr_tag.proofs.block.read_block.Goals as goal

pub returns-clause-block : goal.returns-clause-block
returns-clause-block c =
    let inside = c.in-Some.inside.now in
    let cut = c.in-Some.ensures in
    let block = c.in_ok-read_inside.ensures in
    (block_values inside, OpensBlock-from_none c.args.after.now inside c.in-Some.rest.now cut.found cut.before cut.after block.accepted, block.said)
