use Rattle.std.proofs.Common.{◌≡◌, ◌∙◌, List, ℤ, fold, sym, ap, subst, w64, to_z, of_z, FitsSigned}
use Rattle.std.proofs.lemmas.Int.{to_z-of_z}
use Rattle.vdr_durability.specs.Sources.{Row, with_line}
use Rattle.vdr_terms.specs.Records.{Record}
use Rattle.vdr_terms.proofs.Stamping.{stamp_fits}
use Rattle.vdr_sources.specs.Rows.{lines_at}
use Rattle.vdr_sources.specs.Tables.{read_lines}
use Rattle.vdr_sources.proofs.Lines.{of_record}
use Rattle.vdr_sources.proofs.table.SourceTable.add.Goals as goal

pub returns-clause-added : goal.returns-clause-added
returns-clause-added c =
    let stands : c.reserve.new.self.items ≡ c.args.self.now = c.in_ok-reserve.ensures.items ∙ c.self.view_is in
    let utc : to_z w64 (of_z w64 c.item.inside.utc) ≡ c.args.item.now.utc =
    to_z-of_z w64 c.item.inside.utc (subst (λ (t : ℤ). FitsSigned w64 t) (sym (ap (λ (r : Record). r.utc) c.item.view_is)) (stamp_fits c.args.item.now.utc c.content.ensures.legal.utc)) ∙ ap (λ (r : Record). r.utc) c.item.view_is in
    c.count_all.ensures.rows
    ∙ ap (λ (rows : List Row). fold with_line rows (lines_at c.item.inside.group (to_z w64 (of_z w64 c.item.inside.utc)) (read_lines c.in-Datagram.payload.now))) stands
    ∙ ap (λ (t : ℤ). fold with_line c.args.self.now (lines_at c.item.inside.group t (read_lines c.in-Datagram.payload.now))) utc
    ∙ ap (λ (r : Record). fold with_line c.args.self.now (lines_at r.group c.args.item.now.utc (read_lines c.in-Datagram.payload.now))) c.item.view_is
    ∙ ap (fold with_line c.args.self.now) (of_record c.args.item.now c.in-Datagram.payload.now c.in-Datagram.ensures.said)
