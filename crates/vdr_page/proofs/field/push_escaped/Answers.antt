use Rattle.std.proofs.Common.{arith}
use Rattle.std.proofs.lemmas.List.{length-drop}
use Rattle.vdr_page.specs.Strings.{escaped}
use Rattle.vdr_page.proofs.Plain.{more_of}
use Rattle.vdr_page.proofs.field.push_escaped.Goals as goal

pub loop-done-preserved : goal.loop-done-preserved
loop-done-preserved c = record {
  within = let few = c.in_ok-done.ensures.few in let left = length-drop c.loop-done.done c.args.bytes.now in let inside = c.loop-done.invariant.within in omega (arith, few, left, inside);
  text = more_of escaped c.args.bytes.now c.args.text.now.items _ _ c.loop-done.done c.in_ok-done.field-0 c.loop-done.invariant.text c.in_ok-done.ensures.text;
}
