use Rattle.std.proofs.Common.{sym, subst}
use Rattle.vdr_outside.specs.Disk.{content}
use Rattle.vdr_compare.specs.Sides.{Gives}
use Rattle.vdr_compare.specs.Standings.{standings}
use Rattle.vdr_compare.specs.Surveys.{SurveyState, surveyed_condition, surveyed_windows}
use Rattle.vdr_compare.proofs.Going.{compares_as}
use Rattle.vdr_compare.proofs.comparing.compare.Goals as goal

pub returns-clause-compares : goal.returns-clause-compares
returns-clause-compares g c told rs ss first second =
    let image = (g.M.Media.disk c.args.media.now).reads in
    compares_as _ (surveyed_condition c.args.alike c.args.capsule c.args.longterm) _ (surveyed_windows c.args.capsule c.args.longterm) (standings rs ss) _ _ c.print_comparison.result
    (λ i. record { alike = c.args.alike; capsule = (c.capsule.view_is i).findings; longterm = (c.longterm.view_is i).findings })
    c.windows_of-windows.ensures
    (c.print_comparison.ensures.compares told rs ss
    (subst (λ (s : SurveyState). Gives (content image s.cursor.area.medium) s.cursor rs) (sym c.capsule.view_is) first)
    (subst (λ (s : SurveyState). Gives (content image s.cursor.area.medium) s.cursor ss) (sym c.longterm.view_is) second))
