use Rattle.std.proofs.Common.{arith}
use Rattle.std.proofs.lemmas.List.{length-drop}
use Rattle.vdr_page.specs.Strings.{inlined}
use Rattle.vdr_page.proofs.Plain.{more_of}
use Rattle.vdr_page.proofs.field.push_inlined.Goals as goal

pub loop-done-preserved : goal.loop-done-preserved
loop-done-preserved c = record {
  within = let few = c.in_ok-done.ensures.few in let left = length-drop c.loop-done.done c.args.fields.now in let inside = c.loop-done.invariant.within in omega (arith, few, left, inside);
  text = more_of inlined c.args.fields.now c.args.text.now.items _ _ c.loop-done.done c.in_ok-done.field-0 c.loop-done.invariant.text c.in_ok-done.ensures.text;
}
