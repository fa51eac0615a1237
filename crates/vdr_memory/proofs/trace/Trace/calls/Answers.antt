use Rattle.std.proofs.Common.{◌≤◌, List, length, map, reverse, sym, ◌∙◌, ap, arith}
use Rattle.std.proofs.lemmas.List.{reverse-reverse}
use Rattle.vdr_memory.specs.Steps.{Step}
use Rattle.vdr_memory.specs.Traces.{TraceInMemory, call_of, steps_of}
use Rattle.vdr_memory.proofs.Traces.{length_of_all, calls_of_steps}
use Rattle.vdr_memory.proofs.trace.Trace.calls.Goals as goal

pub returns : goal.returns
returns c =
    let calls = c.self.inside.calls.items in
    let bytes = c.self.inside.bytes.items in
    let fits : length_of_all calls ≤ length bytes = omega (arith, c.self.invariant.1) in
    c.deref.ensures.value
    ∙ sym (calls_of_steps calls bytes fits)
    ∙ ap (λ (l : List Step). map call_of l) (sym (reverse-reverse (steps_of calls bytes)))
    ∙ ap (λ (t : TraceInMemory). map call_of (reverse t.steps)) c.self.view_is
