use Rattle.std.proofs.Common.{refl, subst}
use Rattle.vdr_outside.specs.Disk.{Image, content}
use Rattle.vdr_outside.proofs.Counts.{none_fell}
use Rattle.vdr_compare.specs.Sides.{Gives, IsAhead}
use Rattle.vdr_compare.proofs.Causes.{read_failed}
use Rattle.vdr_compare.proofs.comparing.both_fronts.Goals as goal

pub returns-in_err-first-clause-cause : goal.returns-in_err-first-clause-cause
returns-in_err-first-clause-cause g c = read_failed _ _ _ _ c.front.result c.in_err-first.field-0.0 _ c.in_err-first.was (none_fell _) c.front.ensures.cause

pub returns-in_err-second-clause-cause : goal.returns-in_err-second-clause-cause
returns-in_err-second-clause-cause g c = read_failed _ _ _ _ c.front-2.result c.in_err-second.field-0.0 _ c.in_err-second.was c.front.ensures.cause.later c.front-2.ensures.cause

pub returns-clause-gives : goal.returns-clause-gives
returns-clause-gives g c told rs ss first second =
    record {
      first = rs;
      second = ss;
      capsule_gives = c.in_ok-first.ensures.gives told rs first;
      longterm_gives =
          subst (λ (image : Image). Gives (content image c.args.longterm.area.medium) c.args.longterm ss → IsAhead (content image c.args.longterm.area.medium) c.in_ok-second.second ss)
          (c.front.ensures.unchanged.reads told) (c.in_ok-second.ensures.gives told ss) second;
      are = refl;
    }
