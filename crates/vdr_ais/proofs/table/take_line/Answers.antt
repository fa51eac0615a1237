use Rattle.std.proofs.Common.{◌≡◌, ◌∙◌, Some, sym, ap, option_map}
use Rattle.std.proofs.lemmas.Int.{to_z-of_z}
use Rattle.vdr_ais.specs.Targets.{if_ended, if_reported}
use Rattle.vdr_ais.specs.Views.{line_said, message_of, report_said}
use Rattle.vdr_ais.proofs.Shown.{shows_more}
use Rattle.vdr_ais.proofs.table.take_line.Goals as goal

pub returns-clause-shows : goal.returns-clause-shows
returns-clause-shows c = λ seen h.
    let ended : option_map message_of c.join.result ≡ Some (message_of c.in-Some.message) = ap (option_map message_of) c.in-Some.is in
    shows_more c.args.utc seen (line_said c.args.line.now) c.args.unfinished.now c.join.new.self c.args.ships.now.items c.put_report.new.ships.items (option_map message_of c.join.result)
    c.join.ensures.before c.join.ensures.entries c.join.ensures.next c.join.ensures.ended
    ((simp (to_z-of_z, c.ranges.utc) at c.put_report.ensures.with)
    ∙ ap (if_reported c.args.utc c.args.ships.now.items) (sym (ap (option_map report_said) c.in-Some-read_message.is) ∙ c.read_message.ensures)
    ∙ sym (ap (if_ended c.args.utc c.args.ships.now.items) ended))
    h

pub returns-in_default-clause-shows : goal.returns-in_default-clause-shows
returns-in_default-clause-shows c = λ seen h.
    shows_more c.args.utc seen (line_said c.args.line.now) c.args.unfinished.now c.join.new.self c.args.ships.now.items c.args.ships.now.items (option_map message_of c.join.result)
    c.join.ensures.before c.join.ensures.entries c.join.ensures.next c.join.ensures.ended
    (sym (ap (λ o. if_ended c.args.utc c.args.ships.now.items (option_map message_of o)) c.in_default.is))
    h

pub returns-in_default-read_message-clause-shows : goal.returns-in_default-read_message-clause-shows
returns-in_default-read_message-clause-shows c = λ seen h.
    let ended : option_map message_of c.join.result ≡ Some (message_of c.in-Some.message) = ap (option_map message_of) c.in-Some.is in
    shows_more c.args.utc seen (line_said c.args.line.now) c.args.unfinished.now c.join.new.self c.args.ships.now.items c.args.ships.now.items (option_map message_of c.join.result)
    c.join.ensures.before c.join.ensures.entries c.join.ensures.next c.join.ensures.ended
    (ap (if_reported c.args.utc c.args.ships.now.items) (sym (ap (option_map report_said) c.in_default-read_message.is) ∙ c.read_message.ensures)
    ∙ sym (ap (if_ended c.args.utc c.args.ships.now.items) ended))
    h
