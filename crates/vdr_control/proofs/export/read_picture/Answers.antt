use Rattle.vdr_control.proofs.ExportLemmas.{picture_words}
use Rattle.vdr_control.proofs.LineLemmas.{none_so}
use Rattle.vdr_control.proofs.export.read_picture.Goals as goal

pub returns-clause-none : goal.returns-clause-none
returns-clause-none c =
    none_so c.asked_by.result
    (λ none m n f t source block x. none m n f t x.named (picture_words c.args.text.now c.in_ok-medium.medium.now c.in_ok-medium.channel.now c.in_ok-medium.source.now c.in_ok-medium.block.now c.in_ok-medium.from.now c.in_ok-medium.to.now
    c.in_ok-medium.ensures.found m n f t source block x).0)
    c.asked_by.ensures.none
