use Rattle.std.specs.Prelude.{map}
use Rattle.vdr_directory.specs.Knowns.{known_of}
use Rattle.vdr_directory.proofs.ByKnowns.{in_order_known}
use Rattle.vdr_directory.proofs.Knowing.{known_held}
use Rattle.vdr_directory.proofs.OneAnswer.{never_refused, one_known, one_refusal}
use Rattle.vdr_directory.proofs.law.law_of_opening.Goals as goal

pub returns-clause-either : goal.returns-clause-either
returns-clause-either c segment count offset known bytes are order refused = never_refused segment count bytes known offset are order refused

pub returns-clause-offset : goal.returns-clause-offset
returns-clause-offset c segment count m n bytes first second = one_refusal segment count bytes m n first second

pub returns-clause-parts : goal.returns-clause-parts
returns-clause-parts c segment count ps qs bytes h k = one_known segment count bytes ps qs h k

pub returns-clause-legible : goal.returns-clause-legible
returns-clause-legible c segment count placed bytes long holds order = (known_held segment count bytes placed long holds, in_order_known segment count bytes placed long holds order)

pub returns-clause-unrefused : goal.returns-clause-unrefused
returns-clause-unrefused c segment count offset placed bytes long holds order refused =
    never_refused segment count bytes (map known_of placed) offset (known_held segment count bytes placed long holds) (in_order_known segment count bytes placed long holds order) refused
