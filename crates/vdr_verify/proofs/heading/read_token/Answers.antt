use Rattle.std.proofs.Common.{refl, subst, List, ℕ, IfSome}
use Rattle.vdr_verify.specs.Reading.{Lacks}
use Rattle.vdr_verify.proofs.Refusals.{token_stops, unexpected}
use Rattle.vdr_verify.proofs.heading.read_token.Goals as goal

pub returns-clause-stage : goal.returns-clause-stage
returns-clause-stage g c = λ first is.
    token_stops _ _ _ _ is refl
    (subst (λ (l : List ℕ). IfSome (g.I.Source.left c.args.input.now) (Lacks l)) c.as_slice.ensures (unexpected _ _ _ _ _ c.in-Ok.same c.in-Ok.ensures.expects c.if-same.false))
