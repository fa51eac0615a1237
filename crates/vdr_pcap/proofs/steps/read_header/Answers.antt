use Rattle.std.proofs.Common.{rules, ◌<◌, ◌^◌, subst}
use Rattle.vdr_pcap.specs.Blocks.{beginning}
use Rattle.vdr_pcap.specs.Seen.{Tells, standing_of}
use Rattle.vdr_pcap.specs.Steps.{course_of}
use Rattle.vdr_pcap.specs.declared.unit.Unit.{Unit as Found}
use Rattle.vdr_pcap.proofs.StepLemmas.{begins_with}
use Rattle.vdr_pcap.proofs.steps.read_header.Goals as goal

pub returns-in-Says-clause-read : goal.returns-in-Says-clause-read
returns-in-Says-clause-read g c =
    let fits : c.in-Says.size < 2 ^ 64 = search rules in
    begins_with _ _ c.args.limit (course_of c.args.course.now) (standing_of c.read_beginning.new.said) c.in-Says.size c.read_beginning.new.buffers.front c.requires
    (subst (λ (u : Found). Tells (g.I.Source.left c.args.input.now) (g.I.Source.left c.read_beginning.new.input) (beginning (standing_of c.args.course.now.said)) 0 u (standing_of c.read_beginning.new.said) c.read_beginning.new.buffers.front)
    c.in-Says.is c.in_ok-number.ensures.read) fits
