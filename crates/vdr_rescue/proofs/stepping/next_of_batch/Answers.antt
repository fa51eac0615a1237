use Rattle.vdr_index.proofs.StepLemmas.{never_stuck}
use Rattle.vdr_rescue.proofs.GivenLemmas.{on_within}
use Rattle.vdr_rescue.proofs.stepping.next_of_batch.Goals as goal

pub unreachable-requires : goal.unreachable-requires
unreachable-requires c = never_stuck c.args.segment.now c.args.position c.requires.stands c.requires.more c.in_default.ensures.none

pub returns : goal.returns
returns c =
    let f = c.in-Some.ensures.found in
    on_within c.args.segment.now c.args.position c.read_from.new.self c.in-Some.size c.requires.stands c.requires.more (record { after = f.0; begins = f.1; size_is = f.2 })
