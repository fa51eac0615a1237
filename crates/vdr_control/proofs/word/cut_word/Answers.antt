use Rattle.vdr_control.proofs.IdLemmas.{if_none}
use Rattle.vdr_control.proofs.WordLemmas.{first_word, one_word}
use Rattle.vdr_control.proofs.word.cut_word.Goals as goal

pub returns-in_err-place-clause-none : goal.returns-in_err-place-clause-none
returns-in_err-place-clause-none c = if_none c.from_residual.result (one_word c.args.text.now c.in_err-place.ensures)

pub returns-clause-found : goal.returns-clause-found
returns-clause-found c = first_word c.args.text.now c.in_ok-place.place c.in_ok-place.ensures
