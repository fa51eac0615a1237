-- The tally of a session's run, as its marks tell the run (this project's profile).
use Rattle.std.specs.Prelude.{List}
use Rattle.vdr_health.specs.Tallies.{Tallies}
use Rattle.vdr_health.specs.declared.tallied.RunTally.{RunTally}
use Rattle.vdr_session.specs.declared.mark.Mark.{Mark}
use Rattle.vdr_session.specs.Marks.{is_begun, taken_in}

-- It is that of the run that the marks began, with the items that they took.
abbrev pub IsTallied : List Mark → RunTally → Type 0
IsTallied marks tally = Tallies (is_begun marks) (taken_in marks) tally
