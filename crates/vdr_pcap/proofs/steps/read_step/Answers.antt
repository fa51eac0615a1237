use Rattle.std.proofs.Common.{refl}
use Rattle.vdr_pcap.specs.Blocks.{parsed}
use Rattle.vdr_pcap.specs.Seen.{standing_of}
use Rattle.vdr_pcap.specs.Steps.{course_of}
use Rattle.vdr_pcap.proofs.StepLemmas.{end_of, step_ends, steps_by, unit_of}
use Rattle.vdr_pcap.proofs.steps.read_step.Goals as goal

pub returns-in_default-clause-read : goal.returns-in_default-clause-read
returns-in_default-clause-read g c =
    let e = end_of _ _ (parsed (standing_of c.args.course.now.said)) (standing_of c.args.course.now.said) (standing_of c.read_unit.new.said) c.read_unit.new.buffers.front c.in_ok-unit.field-0 c.in_ok-unit.ensures.read c.in_default.is in
    (e.0, e.1, step_ends c.args.limit (course_of c.args.course.now) e.2, (λ i. record { standing = e.3 i; offset = c.args.course.now.offset; account = c.args.course.now.account }), refl)

pub returns-clause-read : goal.returns-clause-read
returns-clause-read g c =
    steps_by _ _ c.args.limit (course_of c.args.course.now) (standing_of c.read_unit.new.said) c.settle.new.offset c.settle.new.account c.in-Some.unit c.read_unit.new.buffers.front c.args.into.now c.settle.new.into c.settle.result
    (unit_of _ _ (parsed (standing_of c.args.course.now.said)) (standing_of c.args.course.now.said) (standing_of c.read_unit.new.said) c.read_unit.new.buffers.front c.in_ok-unit.field-0 c.in-Some.unit c.in_ok-unit.ensures.read c.in-Some.is)
    c.settle.ensures
