use Rattle.std.proofs.Common.{◌≡◌, ℕ, List, [], ◌∷◌, ◌++◌, length, reverse, Vec, sym, ◌∙◌, ap, arith, length-append}
use Rattle.std.specs.declared.alloc.Global.{Global}
use Rattle.std.proofs.lemmas.List.{length-reverse, with_items_is}
use Rattle.std.specs.List.{sum_by}
use Rattle.std.proofs.lemmas.List.Sums.{sum_by_push}
use Rattle.vdr_outside.specs.Disk.{Image}
use Rattle.vdr_memory.specs.declared.call.Call.{Call}
use Rattle.vdr_memory.specs.Contents.{contents}
use Rattle.vdr_memory.specs.Steps.{Step, after, reads_after}
use Rattle.vdr_memory.specs.Traces.{TraceInMemory, length_of, step_of, steps_of}
use Rattle.vdr_memory.proofs.Traces.{length-steps_of, newest_first, size_of_step}
use Rattle.vdr_memory.proofs.trace.Trace.push.Goals as goal

-- What the media read as, with one more call on the record.
reads_more : (start held : Image) (calls calls' : List Call) (bytes bytes' : List ℕ) (c : Call) (x : List ℕ) → held ≡ reads_after start (reverse (steps_of calls bytes))
    → reverse (steps_of calls' bytes') ≡ step_of c.medium c.work x c.done ∷ reverse (steps_of calls bytes) → after (step_of c.medium c.work x c.done) held ≡ reads_after start (reverse (steps_of calls' bytes'))
reads_more start held calls calls' bytes bytes' c x is more =
    ap (λ (i : Image). after (step_of c.medium c.work x c.done) i) is ∙ sym (ap (λ (l : List Step). reads_after start l) more)

pub invariant_of-self-2 : goal.invariant_of-self-2
invariant_of-self-2 c =
    let calls_is : c.push.new.self.items ≡ c.self.inside.calls.items ++ c.args.call ∷ [] = c.in_ok-push.ensures.items ∙ ap (λ (l : List Call). l ++ c.args.call ∷ []) c.reserve.ensures.items in
    let more = newest_first c.self.inside.calls.items c.push.new.self.items c.self.inside.bytes.items c.extend_from_slice.new.self.items c.args.call c.args.bytes.now c.self.invariant.1 calls_is c.in_ok-extend_from_slice.ensures.items in (
      ap (λ (l : List (Vec ℕ Global)). contents l) (with_items_is c.self.inside.held c.apply.new.held (c.apply.auto.held ∙ c.deref_mut.ensures.len))
          ∙ c.apply.ensures
          ∙ reads_more (contents c.self.inside.start.items) (contents c.deref_mut.result.now) c.self.inside.calls.items c.push.new.self.items c.self.inside.bytes.items c.extend_from_slice.new.self.items c.args.call c.args.bytes.now
          (ap (λ (l : List (Vec ℕ Global)). contents l) c.deref_mut.ensures.value ∙ c.self.invariant.0) more,
      omega (arith, ap (λ (l : List Call). sum_by (λ d. length_of d.work) l) calls_is, sum_by_push (λ (d : Call). length_of d.work) c.self.inside.calls.items c.args.call, ap (λ (l : List ℕ). length l) c.in_ok-extend_from_slice.ensures.items, length-append c.self.inside.bytes.items c.args.bytes.now, c.self.invariant.1),
    )

pub returns-clause-ok : goal.returns-clause-ok
returns-clause-ok c =
    let calls_is : c.push.new.self.items ≡ c.self.inside.calls.items ++ c.args.call ∷ [] = c.in_ok-push.ensures.items ∙ ap (λ (l : List Call). l ++ c.args.call ∷ []) c.reserve.ensures.items in
    let more = newest_first c.self.inside.calls.items c.push.new.self.items c.self.inside.bytes.items c.extend_from_slice.new.self.items c.args.call c.args.bytes.now c.self.invariant.1 calls_is c.in_ok-extend_from_slice.ensures.items in
    let step = step_of c.args.call.medium c.args.call.work c.args.bytes.now c.args.call.done in
    record {
      start = ap (λ (t : TraceInMemory). t.start) c.self.view_is;
      steps = more ∙ ap (λ (t : TraceInMemory). step ∷ t.steps) c.self.view_is;
      few = omega (arith, length-reverse (steps_of c.push.new.self.items c.extend_from_slice.new.self.items), length-steps_of c.push.new.self.items c.extend_from_slice.new.self.items);
      calls = omega (arith, ap (λ (t : TraceInMemory). t.spare_calls) c.self.view_is, c.in_ok-push.ensures.len);
      bytes = omega (arith, ap (λ (t : TraceInMemory). t.spare_bytes) c.self.view_is, c.in_ok-extend_from_slice.ensures.len, size_of_step c.args.call.medium c.args.call.work c.args.bytes.now c.args.call.done c.requires);
    }
