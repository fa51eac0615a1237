use Rattle.std.proofs.Common.{sym, subst}
use Rattle.vdr_ais.specs.Pending.{AreEntries, Entries, HasRead}
use Rattle.vdr_ais.proofs.Begun.{read_all, read_begun}
use Rattle.vdr_ais.proofs.unfinished.Unfinished.make_rooms.Goals as goal

pub returns-clause-read : goal.returns-clause-read
returns-clause-read c = λ back h.
    let old = subst AreEntries c.self.view_is c.self.invariant in
    let new = subst AreEntries c.self-2.view_is c.self-2.invariant in
    read_all back c.make_room-made.new.unfinished new (subst (λ (es : Entries). HasRead back es) (sym c.make_room-made.ensures.same.same) (read_begun back c.args.self.now old h))
