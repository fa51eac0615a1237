use Rattle.vdr_control.proofs.WordLemmas.{more_words}
use Rattle.vdr_control.proofs.word.four_words.Goals as goal

pub returns-in-Some-clause-none : goal.returns-in-Some-clause-none
returns-in-Some-clause-none c =
    more_words c.args.text.now c.in_ok-first.rest.now c.in_ok-second.rest.now c.in_ok-third.fourth.now c.in-Some.field-0.1.now c.in_ok-first.ensures.found c.in_ok-second.ensures.found c.in_ok-third.ensures.found c.in-Some.ensures.found
