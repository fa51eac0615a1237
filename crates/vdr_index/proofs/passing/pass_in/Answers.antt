use Rattle.std.proofs.Common.{◌∙◌, sym}
use Rattle.vdr_index.specs.declared.position.Position.{Position}
use Rattle.vdr_index.proofs.PassLemmas.{begun_here, pass_none, passed_more, starts_here}
use Rattle.vdr_index.proofs.passing.pass_in.Goals as goal

pub loop-at-init : goal.loop-at-init
loop-at-init c = pass_none c.args.segment.now c.args.selection.now c.args.position c.requires

pub head_at-head-requires : goal.head_at-head-requires
head_at-head-requires c =
    let here : Position = record { at = c.loop-at.at; to = c.args.position.to } in
    begun_here c.args.segment.now c.args.selection.now here c.loop-at.invariant.stands c.loop-at-test.true

pub returns-then-has-clause-next : goal.returns-then-has-clause-next
returns-then-has-clause-next c = λ _.
    let here : Position = record { at = c.loop-at.at; to = c.args.position.to } in
    starts_here c.args.segment.now c.args.selection.now here c.loop-at.invariant.stands c.loop-at-test.true c.head_at-head.result c.head_at-head.ensures (sym c.has.ensures ∙ c.if-has.true)

pub loop-at-preserved : goal.loop-at-preserved
loop-at-preserved c =
    let here : Position = record { at = c.loop-at.at; to = c.args.position.to } in
    passed_more c.args.segment.now c.args.selection.now c.args.position here c.head_at-head.result c.loop-at.invariant c.loop-at-test.true c.head_at-head.ensures (sym c.has.ensures ∙ c.if-has.false)
