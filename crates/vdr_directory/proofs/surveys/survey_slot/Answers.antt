use Rattle.std.proofs.Common.{arith}
use Rattle.vdr_directory.proofs.Surveying.{breaks_inside, place_small}
use Rattle.vdr_directory.proofs.surveys.survey_slot.Goals as goal

pub overflow_add-result : goal.overflow_add-result
overflow_add-result g c =
    let inside = breaks_inside _ _ c.in-Err.ensures.broken in
    let small = place_small c.args.area.segment c.args.slot c.args.area.slots c.in-Err.at c.args.area.segment_high c.requires.within c.args.area.slots_high (omega (arith, inside)) in
    omega arith
