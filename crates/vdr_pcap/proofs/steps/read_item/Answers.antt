use Rattle.std.proofs.Common.{rules, arith, ◌<◌, ◌^◌, [], subst, ◌∙◌}
use Rattle.vdr_pcap.specs.Steps.{StepsBy, course_of}
use Rattle.vdr_pcap.specs.declared.steps.Stepped.{Stepped}
use Rattle.vdr_pcap.proofs.StepLemmas.{finds, gives_more}
use Rattle.vdr_pcap.proofs.steps.read_item.Goals as goal

pub loop-stepped-preserved : goal.loop-stepped-preserved
loop-stepped-preserved g c =
    let s = subst (λ (st : Stepped). StepsBy (g.I.Source.left c.loop-stepped.input) (g.I.Source.left c.read_step.new.input) c.args.limit (course_of c.loop-stepped.course) (course_of c.read_step.new.course) c.loop-stepped.into c.read_step.new.into st)
    c.in-Passed.is c.in_ok-stepped.ensures.read in
    record {
      gives = gives_more _ _ _ c.args.limit _ _ _ [] c.loop-stepped.invariant.gives s.0;
      held = s.1 ∙ c.loop-stepped.invariant.held;
      later = search rules;
    }

pub loop-stepped-smaller : goal.loop-stepped-smaller
loop-stepped-smaller g c =
    let s = subst (λ (st : Stepped). StepsBy (g.I.Source.left c.loop-stepped.input) (g.I.Source.left c.read_step.new.input) c.args.limit (course_of c.loop-stepped.course) (course_of c.read_step.new.course) c.loop-stepped.into c.read_step.new.into st)
    c.in-Passed.is c.in_ok-stepped.ensures.read in
    let longer : c.loop-stepped.course.offset < c.read_step.new.course.offset = s.0.longer in
    let fits : c.read_step.new.course.offset < 2 ^ 64 = s.0.fits in
    omega (arith, longer, fits)

pub returns-in_default : goal.returns-in_default
returns-in_default g c = record {
  read = finds _ _ _ c.args.limit _ (course_of c.loop-stepped.course) _ _ c.loop-stepped.into _ _ c.loop-stepped.invariant.gives c.loop-stepped.invariant.held c.in_ok-stepped.ensures.read c.in_default.not-Passed;
  cause = search rules;
}
