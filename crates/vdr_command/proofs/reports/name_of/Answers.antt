use Rattle.std.proofs.Common.{◌≤◌, ◌∙◌, List, ℕ, arith, length, sym, subst}
use Rattle.vdr_command.proofs.GroupNames.{name_beyond, name_short}
use Rattle.vdr_command.proofs.reports.name_of.Goals as goal

pub returns-clause-short : goal.returns-clause-short
returns-clause-short c = subst (λ (name : List ℕ). length name ≤ 4) (sym (c.as_bytes.ensures.value ∙ c.group_name.ensures)) (name_short c.args.group)

pub returns-then-group-gt15-clause-name : goal.returns-then-group-gt15-clause-name
returns-then-group-gt15-clause-name c = name_beyond c.args.group (omega arith)
