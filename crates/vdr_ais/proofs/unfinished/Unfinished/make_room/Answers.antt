use Rattle.std.proofs.Common.{◌∙◌, ap, sym}
use Rattle.std.specs.List.{insert}
use Rattle.vdr_ais.specs.Lines.{Key}
use Rattle.vdr_ais.specs.Pending.{Pending}
use Rattle.vdr_ais.specs.Views.{key_of}
use Rattle.vdr_ais.proofs.Begun.{place_found, room_made}
use Rattle.vdr_ais.proofs.unfinished.Unfinished.make_room.Goals as goal

pub returns-in_default-clause-room : goal.returns-in_default-clause-room
returns-in_default-clause-room c = place_found (key_of c.args.key.now) c.args.self.now c.in_default.field-0 (rw (c.as_slice.ensures.value, c.self.view_is) at c.in_default.ensures.found)

pub invariant_of-self-2 : goal.invariant_of-self-2
invariant_of-self-2 c =
    (room_made (key_of c.args.key.now) c.self.inside.entries.items c.insert.new.self.items c.in-Err.at (rw c.as_slice.ensures.value at c.in-Err.ensures.absent)
    (c.in_ok-insert.ensures.items ∙ ap (λ (e : Key × Pending). insert c.self.inside.entries.items c.in-Err.at e) c.in_ok-entry.ensures) c.self.invariant).0

pub returns-clause-room : goal.returns-clause-room
returns-clause-room c =
    (room_made (key_of c.args.key.now) c.self.inside.entries.items c.insert.new.self.items c.in-Err.at (rw c.as_slice.ensures.value at c.in-Err.ensures.absent)
    (c.in_ok-insert.ensures.items ∙ ap (λ (e : Key × Pending). insert c.self.inside.entries.items c.in-Err.at e) c.in_ok-entry.ensures) c.self.invariant).1

pub returns-clause-same : goal.returns-clause-same
returns-clause-same c =
    rw (sym c.self.view_is)
    (room_made (key_of c.args.key.now) c.self.inside.entries.items c.insert.new.self.items c.in-Err.at (rw c.as_slice.ensures.value at c.in-Err.ensures.absent)
    (c.in_ok-insert.ensures.items ∙ ap (λ (e : Key × Pending). insert c.self.inside.entries.items c.in-Err.at e) c.in_ok-entry.ensures) c.self.invariant).2

pub returns-clause-entries : goal.returns-clause-entries
returns-clause-entries c =
    (room_made (key_of c.args.key.now) c.self.inside.entries.items c.insert.new.self.items c.in-Err.at (rw c.as_slice.ensures.value at c.in-Err.ensures.absent)
    (c.in_ok-insert.ensures.items ∙ ap (λ (e : Key × Pending). insert c.self.inside.entries.items c.in-Err.at e) c.in_ok-entry.ensures) c.self.invariant).0
