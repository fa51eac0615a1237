use Rattle.std.proofs.Common.{◌∙◌, List, ℕ, ap, subst}
use Rattle.vdr_outside.specs.Writes.{AppendsFront}
use Rattle.vdr_terms.specs.Records.{Record}
use Rattle.vdr_watch.proofs.Records.{datagram_told}
use Rattle.vdr_watch.proofs.tables.Tables.add_datagram.Goals as goal

pub returns-in_err-tell_lines-clause-front : goal.returns-in_err-tell_lines-clause-front
returns-in_err-tell_lines-clause-front g c met keeps =
    let text = datagram_told c.args.item.now c.of.result c.item.inside.group c.args.payload.now met c.of.ensures (ap (λ (r : Record). r.group) c.item.view_is) c.requires.said in
    subst (λ (xs : List ℕ). AppendsFront (g.O.Sink.taken c.args.out.now) (g.O.Sink.taken c.tell_lines.new.out) xs) text
    (c.in_err-tell_lines.ensures.front met (record { beats = c.make_room.ensures.beats ∙ keeps.beats; states = c.make_room.ensures.alarms ∙ keeps.states; alerts = c.make_room.ensures.board ∙ keeps.alerts }))

pub returns-clause-front : goal.returns-clause-front
returns-clause-front g c met keeps =
    let text = datagram_told c.args.item.now c.of.result c.item.inside.group c.args.payload.now met c.of.ensures (ap (λ (r : Record). r.group) c.item.view_is) c.requires.said in
    subst (λ (xs : List ℕ). AppendsFront (g.O.Sink.taken c.args.out.now) (g.O.Sink.taken c.tell_lines.new.out) xs) text
    (c.in_ok-tell_lines.ensures.front met (record { beats = c.make_room.ensures.beats ∙ keeps.beats; states = c.make_room.ensures.alarms ∙ keeps.states; alerts = c.make_room.ensures.board ∙ keeps.alerts }))
