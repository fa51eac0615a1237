use Rattle.std.proofs.Common.{take, arith}
use Rattle.vdr_outside.proofs.Known.{front-more}
use Rattle.vdr_compare.specs.Conditions.{damage_lines}
use Rattle.vdr_compare.proofs.Damages.{damages_split}
use Rattle.vdr_compare.proofs.condition.print_damages.Goals as goal

pub returns-in_err-print_damage-clause-front : goal.returns-in_err-print_damage-clause-front
returns-in_err-print_damage-clause-front g c =
    let i = c.loop-finding.finding-index in
    let m = c.args.medium in
    front-more _ _ _ (damage_lines m (take i c.args.findings.now)) _ _ (damage_lines m c.args.findings.now) (damages_split m c.args.findings.now i _ (omega (arith, c.loop-finding-test.true)))
    c.loop-finding.invariant.printed c.in_err-print_damage.ensures.front
