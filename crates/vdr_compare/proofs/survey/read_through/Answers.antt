use Rattle.std.proofs.Common.{◌≡◌, List, refl, ap, ◌∙◌, subst, sym}
use Rattle.vdr_terms.specs.Records.{Record}
use Rattle.vdr_outside.specs.Disk.{content}
use Rattle.vdr_rescue.specs.Alones.{Selects, selected_of}
use Rattle.vdr_compare.specs.Seconds.{last_second}
use Rattle.vdr_compare.proofs.Given.{rescued_legal}
use Rattle.vdr_compare.proofs.Selecting.{all_of, all_selected}
use Rattle.vdr_compare.proofs.survey.read_through.Goals as goal

pub returns-in-Ok-clause-second : goal.returns-in-Ok-clause-second
returns-in-Ok-clause-second g c told m x alone rescued =
    let image = (g.M.Media.disk c.args.media.now).reads in
    let handed = c.in-Ok.ensures.handed (record { second = 0 }) refl in
    let selects = c.law_of_alone.ensures.given m (content image m) c.args.alone.now x all_of alone rescued in
    let here : Selects (content image c.args.alone.now.cursor.area.medium) c.args.alone.now all_of (selected_of x all_of) =
    subst (λ k. Selects (content image k) c.args.alone.now all_of (selected_of x all_of)) (sym alone.medium) selects in
    let all : handed.seen ≡ x.given = handed.are (selected_of x all_of) (told, here) ∙ all_selected x.table x.given (rescued_legal m (content image m) x rescued) in
    handed.made.0 ∙ ap (λ (rs : List Record). last_second rs) all
