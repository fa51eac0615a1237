use Rattle.vdr_play.proofs.WordLemmas.{spaced-at}
use Rattle.vdr_outside.proofs.Known.{front-more}
use Rattle.vdr_play.proofs.words.print_words.Goals as goal

pub returns-in_err-print_word-clause-front : goal.returns-in_err-print_word-clause-front
returns-in_err-print_word-clause-front g c =
    front-more _ _ _ _ _ _ _ (spaced-at c.args.words.now c.loop-word.word-index _ c.loop-word-test.true) c.loop-word.invariant.written c.in_err-print_word.ensures.front
