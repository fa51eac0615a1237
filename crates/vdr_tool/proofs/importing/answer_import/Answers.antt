use Rattle.std.proofs.Common.{Err, Ok, refl}
use Rattle.vdr_tool.proofs.CaptureLemmas.{import_owes}
use Rattle.vdr_tool.proofs.importing.answer_import.Goals as goal

pub returns-in-Ok-clause-owed : goal.returns-in-Ok-clause-owed
returns-in-Ok-clause-owed g c =
    let law = c.law_of_captures.ensures in
    import_owes _ _ _ (Ok c.in-Ok.field-0) refl c.in-Ok.ensures.imports c.in-Ok.ensures.causes law.whole law.refusal

pub returns-in-Err-clause-owed : goal.returns-in-Err-clause-owed
returns-in-Err-clause-owed g c =
    let law = c.law_of_captures.ensures in
    import_owes _ _ _ (Err c.in-Err.refused) c.status_of.ensures c.in-Err.ensures.imports c.in-Err.ensures.causes law.whole law.refusal
