use Rattle.std.proofs.Common.{◌∙◌, ◌∷◌, sym, subst}
use Rattle.vdr_ais.specs.Pending.{Entries, HasRead}
use Rattle.vdr_ais.specs.Views.{line_said}
use Rattle.vdr_ais.proofs.Begun.{read_all, read_begun}
use Rattle.vdr_ais.proofs.Looking.{ends_so, read_more}
use Rattle.vdr_ais.proofs.unfinished.Unfinished.take.Goals as goal

pub returns-clause-read : goal.returns-clause-read
returns-clause-read c = λ back h.
    let line = line_said c.args.line.now in
    let before = read_all back c.make_room.new.self c.make_room.ensures.entries (subst (λ (es : Entries). HasRead back es) (sym c.make_room.ensures.same.same) h) in
    read_begun (line ∷ back) c.join.new.self c.join.ensures.entries (read_more back line c.make_room.new.self c.join.new.self before c.join.ensures.next)

pub returns-clause-joined : goal.returns-clause-joined
returns-clause-joined c = λ back h.
    let before = read_all back c.make_room.new.self c.make_room.ensures.entries (subst (λ (es : Entries). HasRead back es) (sym c.make_room.ensures.same.same) h) in
    c.join.ensures.ended ∙ sym (ends_so back (line_said c.args.line.now) c.make_room.new.self before)
