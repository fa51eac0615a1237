use Rattle.std.proofs.Common.{◌∙◌, ◌++◌, List, ℕ, ap}
use Rattle.vdr_base64.specs.Lines.{left_over}
use Rattle.vdr_base64.proofs.Pieces.{on_ok_by}
use Rattle.vdr_base64.proofs.Printed.{waits_more}
use Rattle.vdr_base64.proofs.printer.Base64PrinterVisitor.visit.Goals as goal

pub returns-in-Ok-clause-has : goal.returns-in-Ok-clause-has
returns-in-Ok-clause-has g c first seen has =
    on_ok_by c.hand_on.result c.ended_by.result _
    (λ kept. (
      c.in-Ok.ensures.has first.visitor seen has.0,
      kept ∙ ap left_over (c.in-Ok.ensures.printed first.visitor seen has.0 ∙ ap (λ (l : List ℕ). l ++ g.V.Visitor.line first.visitor seen c.args.item.now) has.1)
          ∙ waits_more (g.V.Visitor.line first.visitor) seen c.args.item.now,
    )) c.hand_on.ensures.kept c.ended_by.ensures.failed
