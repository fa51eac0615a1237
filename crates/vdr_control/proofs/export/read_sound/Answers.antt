use Rattle.vdr_control.proofs.ExportLemmas.{sound_words, timed_words}
use Rattle.vdr_control.proofs.LineLemmas.{none_so}
use Rattle.vdr_control.proofs.export.read_sound.Goals as goal

pub returns-in-Some-clause-none : goal.returns-in-Some-clause-none
returns-in-Some-clause-none c =
    none_so c.asked_by.result
    (λ none m n f t timed x. none m n f t x.named (sound_words c.args.text.now c.in-Some.medium.now c.in-Some.channel.now c.in-Some.from.now c.in-Some.to.now c.in-Some.ensures.found m n f t timed x))
    c.asked_by.ensures.none

pub returns-clause-none : goal.returns-clause-none
returns-clause-none c =
    none_so c.asked_by-2.result
    (λ none m n f t timed x. none m n f t x.named (timed_words c.args.text.now c.in_ok-medium.medium.now c.in_ok-medium.channel.now c.in_ok-medium.from.now c.in_ok-medium.to.now c.in_ok-medium.last.now c.in_ok-medium.ensures.found m n f t timed x).0)
    c.asked_by-2.ensures.none
