use Rattle.std.proofs.Common.{subst}
use Rattle.vdr_index.specs.Summaries.{Summarises}
use Rattle.vdr_index.proofs.CoverLemmas.{covered, covers}
use Rattle.vdr_index.proofs.agreeing.are_covered.Goals as goal

pub returns-in-Some : goal.returns-in-Some
returns-in-Some c = λ records of_them falls.
    let is = subst (Summarises records) c.in-Some.is of_them in (
      λ b. covered records _ _ falls is (c.covers.ensures.0 b),
      λ all. c.covers.ensures.1 (covers records _ _ is all),
    )
