use Rattle.std.proofs.Common.{◌≡◌, ◌∙◌, ℤ, fold, sym, ap, subst, w64, to_z, of_z, FitsSigned}
use Rattle.std.proofs.lemmas.Int.{to_z-of_z}
use Rattle.vdr_terms.specs.Records.{Content, Record}
use Rattle.vdr_terms.proofs.Stamping.{stamp_fits}
use Rattle.vdr_ais.specs.Lines.{lines_in, lines_of}
use Rattle.vdr_ais.specs.Pending.{Entries, HasRead}
use Rattle.vdr_ais.specs.Tables.{Shows, Table, table_of}
use Rattle.vdr_ais.specs.Targets.{Seen, with_line}
use Rattle.vdr_ais.proofs.table.TargetTable.add.Goals as goal

pub returns-clause-added : goal.returns-clause-added
returns-clause-added c = λ seen h.
    let was = subst (λ (t : Table). Shows seen t) (sym c.self.view_is) h in
    let before : Shows seen (table_of c.make_room.new.unfinished c.reserve.new.self.items) = record {
      read = subst (λ (es : Entries). HasRead seen.back es) (sym c.make_room.ensures.same.same) was.read;
      ships = c.in_ok-reserve.ensures.items ∙ was.ships;
    } in
    let payload = c.in-Datagram.payload.now in
    let utc : to_z w64 (of_z w64 c.item.inside.utc) ≡ c.args.item.now.utc =
    to_z-of_z w64 c.item.inside.utc (subst (λ (t : ℤ). FitsSigned w64 t) (sym (ap (λ (r : Record). r.utc) c.item.view_is)) (stamp_fits c.args.item.now.utc c.content.ensures.legal.utc)) ∙ ap (λ (r : Record). r.utc) c.item.view_is in
    subst (λ (s : Seen). Shows s (table_of c.take_lines.new.unfinished c.take_lines.new.ships.items))
    (ap (λ (t : ℤ). fold (with_line t) seen (lines_in c.item.inside.group payload)) utc
    ∙ ap (λ (r : Record). fold (with_line c.args.item.now.utc) seen (lines_in r.group payload)) c.item.view_is
    ∙ ap (λ (content : Content). fold (with_line c.args.item.now.utc) seen (lines_of c.args.item.now.group content)) c.in-Datagram.ensures.said)
    (c.take_lines.ensures.shows seen before)
