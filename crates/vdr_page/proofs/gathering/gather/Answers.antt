use Rattle.std.proofs.Common.{◌≡◌, ◌++◌, ℕ, List, ap, map, subst}
use Rattle.std.specs.Prelude.{OnOk}
use Rattle.vdr_terms.specs.Records.{Content, Record}
use Rattle.vdr_ais.specs.Pending.{HasRead}
use Rattle.vdr_datagram.specs.Verdicts.{line_spans}
use Rattle.vdr_rows.specs.Tables.{back_behind, back_by}
use Rattle.vdr_page.specs.Tellings.{content_tellings, lines_tellings}
use Rattle.vdr_page.specs.TellingViews.{telling_of}
use Rattle.vdr_page.specs.declared.tellings.Telling.{Telling}
use Rattle.vdr_page.proofs.gathering.gather.Goals as goal

pub returns-in_ok-make_rooms-in-Datagram-clause-read : goal.returns-in_ok-make_rooms-in-Datagram-clause-read
returns-in_ok-make_rooms-in-Datagram-clause-read c = λ back h.
    let group : c.item.inside.group ≡ c.args.item.now.group = ap (λ (r : Record). r.group) c.item.view_is in
    subst (λ (content : Content). OnOk c.add_lines.result (HasRead (back_behind back c.args.item.now.group content) c.add_lines.new.unfinished)) c.in-Datagram.ensures.said
    (subst (λ (n : ℕ). OnOk c.add_lines.result (HasRead (back_by back n (line_spans c.in-Datagram.payload.now)) c.add_lines.new.unfinished)) group (c.add_lines.ensures.read back (c.make_rooms.ensures.read back h)))

pub returns-in_ok-make_rooms-in-Datagram-clause-told : goal.returns-in_ok-make_rooms-in-Datagram-clause-told
returns-in_ok-make_rooms-in-Datagram-clause-told c = λ back h.
    let group : c.item.inside.group ≡ c.args.item.now.group = ap (λ (r : Record). r.group) c.item.view_is in
    subst (λ (content : Content). OnOk c.add_lines.result (map telling_of c.add_lines.new.into.items ≡ content_tellings back c.args.item.now.group content)) c.in-Datagram.ensures.said
    (subst (λ (n : ℕ). OnOk c.add_lines.result (map telling_of c.add_lines.new.into.items ≡ lines_tellings back n (line_spans c.in-Datagram.payload.now))) group
    (subst (λ (items : List Telling). OnOk c.add_lines.result (map telling_of c.add_lines.new.into.items ≡ map telling_of items ++ lines_tellings back c.item.inside.group (line_spans c.in-Datagram.payload.now))) c.clear.ensures.items
    (c.add_lines.ensures.told back (c.make_rooms.ensures.read back h))))
