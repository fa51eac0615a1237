use Rattle.std.proofs.Common.{rules, arith, List, ℕ, subst, ◌≤◌}
use Rattle.std.specs.Io.KnownBytes.{Appends}
use Rattle.vdr_outside.specs.Writes.{AppendsFront}
use Rattle.vdr_export.proofs.Silent.{of_zeros, silence_front, silence_more}
use Rattle.vdr_export.proofs.silence.write_silence.Goals as goal

pub returns-in_err-write_all-clause-front : goal.returns-in_err-write_all-clause-front
returns-in_err-write_all-clause-front g c =
    let few : c.min-now.result ≤ 512 = omega (arith, c.min-now.ensures) in
    silence_front _ _ _ c.args.samples c.loop-left.left c.min-now.result c.loop-left.invariant.within (omega (arith, c.min-now.ensures)) c.loop-left.invariant.written
    (subst (λ (l : List ℕ). AppendsFront (g.O.Sink.taken c.loop-left.out) (g.O.Sink.taken c.write_all.new.sink) l) (of_zeros c.min-now.result few) c.write_all.ensures.front)

pub loop-left-preserved : goal.loop-left-preserved
loop-left-preserved g c =
    let few : c.min-now.result ≤ 512 = omega (arith, c.min-now.ensures) in
    record {
      within = omega (arith, c.loop-left.invariant.within);
      written = silence_more _ _ _ c.args.samples c.loop-left.left c.min-now.result c.loop-left.invariant.within (omega (arith, c.min-now.ensures)) c.loop-left.invariant.written
          (subst (λ (l : List ℕ). Appends (g.O.Sink.taken c.loop-left.out) (g.O.Sink.taken c.write_all.new.sink) l) (of_zeros c.min-now.result few) c.in_ok-write_all.ensures.all);
      later = search rules;
    }
