use Rattle.std.proofs.Common.{refl}
use Rattle.std.proofs.lemmas.Result.{on_ok_weaker}
use Rattle.vdr_page.specs.Surveys.{step_of}
use Rattle.vdr_page.proofs.Opening.{joined}
use Rattle.vdr_page.proofs.ledger.Ledger.take_datagram.Goals as goal

pub returns-clause-text : goal.returns-clause-text
returns-clause-text c o keeps =
    on_ok_weaker c.take_lines.result (λ last. joined c.args.text.now.items _ _ _ _ c.push_payload.new.text.items c.take_lines.new.text.items c.in_ok-push_payload.ensures last refl refl)
    (c.take_lines.ensures.text (step_of c.args.survey.now) o keeps)
