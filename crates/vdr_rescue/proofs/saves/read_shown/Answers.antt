use Rattle.std.proofs.Common.{Err, ap}
use Rattle.vdr_outside.specs.declared.fault.PartRefused.{PartRefused}
use Rattle.vdr_rescue.proofs.saves.read_shown.Goals as goal

pub returns-in-Err-Damaged-clause-shown : goal.returns-in-Err-Damaged-clause-shown
returns-in-Err-Damaged-clause-shown g c told saved is =
    let e = c.in-Err-Damaged in
    (e.ensures.damaged e.field-0-0 e.field-0-1 (ap (λ (x : PartRefused). Err x) e.field-0-is)).2 told saved is
