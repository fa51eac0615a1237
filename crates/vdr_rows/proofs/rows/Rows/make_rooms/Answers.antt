use Rattle.std.proofs.Common.{◌∙◌, All, List, ap, subst}
use Rattle.std.specs.Prelude.{OnOk}
use Rattle.vdr_terms.specs.Records.{Record}
use Rattle.vdr_ais.specs.Lines.{Line, lines_in, lines_of}
use Rattle.vdr_ais.specs.Pending.{HasPlace}
use Rattle.vdr_rows.proofs.rows.Rows.make_rooms.Goals as goal

pub returns-in-Datagram-clause-rooms : goal.returns-in-Datagram-clause-rooms
returns-in-Datagram-clause-rooms c =
    subst (λ (lines : List Line). OnOk c.make_rooms.result (All (λ line. HasPlace c.make_rooms.new.self line.key) lines))
    (ap (λ (r : Record). lines_in r.group c.in-Datagram.payload.now) c.item.view_is ∙ ap (lines_of c.args.item.now.group) c.in-Datagram.ensures.said)
    c.make_rooms.ensures.rooms
