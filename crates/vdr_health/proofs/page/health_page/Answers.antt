use Rattle.std.proofs.Common.{◌≡◌, ◌++◌, ◌∙◌, ℕ, List, ap, None, append_assoc}
use Rattle.std.specs.Prelude.{codes, slice_index_or}
use Rattle.vdr_health.specs.Health.{ends_text, health_text, lines_below, no_gauge}
use Rattle.vdr_health.proofs.Lines.{lines_same}
use Rattle.vdr_health.proofs.page.health_page.Goals as goal

pub returns : goal.returns
unfolding health_text
returns c = λ known same.
    let gauges = λ (g : ℕ). slice_index_or c.args.gauged.now.groups g no_gauge in
    let lines = lines_below 16 (λ (g : ℕ). slice_index_or c.args.sums.now g None) gauges in
    let ends = ends_text c.args.since c.args.gauged.now in
    rw (c.push_text-2.ensures, c.push_ends.ensures.text, c.push_lines.ensures.text, c.push_text.ensures, c.new-page.ensures)
    (ap (λ (xs : List ℕ). xs ++ codes ".\n") (append_assoc (codes "OK\n") lines ends)
    ∙ ap (λ (xs : List ℕ). codes "OK\n" ++ (xs ++ ends) ++ codes ".\n") (lines_same 16 (λ (g : ℕ). slice_index_or c.args.sums.now g None) known gauges same))
