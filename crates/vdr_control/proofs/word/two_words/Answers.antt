use Rattle.vdr_control.proofs.WordLemmas.{longer_words}
use Rattle.vdr_control.proofs.word.two_words.Goals as goal

pub returns-in-Some-clause-none : goal.returns-in-Some-clause-none
returns-in-Some-clause-none c = longer_words c.args.text.now c.in_ok-first.second.now c.in-Some.field-0.1.now c.in_ok-first.ensures.found c.in-Some.ensures.found
