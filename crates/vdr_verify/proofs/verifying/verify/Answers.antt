use Rattle.std.proofs.Common.{subst, List, ℕ}
use Rattle.vdr_outside.specs.Writes.{AppendsFront}
use Rattle.vdr_verify.proofs.Telling.{printed_front}
use Rattle.vdr_verify.proofs.verifying.verify.Goals as goal

pub returns-in-Err-write_all-clause-verifies : goal.returns-in-Err-write_all-clause-verifies
returns-in-Err-write_all-clause-verifies g c =
    let tells = c.in-Ok.ensures.tells in
    (tells.0, printed_front _ _ _ _ (subst (λ (l : List ℕ). AppendsFront (g.O.Sink.taken c.args.output.now) (g.O.Sink.taken c.write_all.new.sink) l) c.as_slice.ensures.value c.in-Err-write_all.ensures.front) tells.1)
