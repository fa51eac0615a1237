use Rattle.std.proofs.Common.{◌∙◌, ap, sym, take}
use Rattle.std.proofs.lemmas.List.{take_at}
use Rattle.vdr_base64.proofs.Pieces.{on_either}
use Rattle.vdr_base64.proofs.printer.Base64PrinterVisitor.finish.Goals as goal

pub returns-in-Ok-clause-has : goal.returns-in-Ok-clause-has
returns-in-Ok-clause-has g c first seen has =
    on_either c.ended_by.result (
      c.in-Ok.ensures.has first.visitor seen has.0,
      c.end.ensures.kept ∙ ap (take c.len-waiting.result) (c.in-Ok.ensures.printed first.visitor seen has.0)
          ∙ take_at c.args.self.now.pending.bytes.items (g.V.Visitor.last first.visitor seen) c.len-waiting.result (sym c.len-waiting.ensures) ∙ has.1,
    )
