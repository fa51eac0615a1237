use Rattle.std.proofs.Common.{None, sym, ◌∙◌}
use Rattle.std.proofs.lemmas.Option.{none-some, get_or_from_slice_get}
use Rattle.vdr_directory.proofs.Behind.{left_newest, none_left_clear, none_left_full}
use Rattle.vdr_directory.proofs.directory.Directory.left_behind.Goals as goal

pub returns-in_err-empty_newest-clause-left : goal.returns-in_err-empty_newest-clause-left
returns-in_err-empty_newest-clause-left c placed tells order = rw c.from_residual.ensures (none_left_full _ placed _ tells c.in_err-empty_newest.ensures.none)

pub returns-in_err-slot-clause-left : goal.returns-in_err-slot-clause-left
returns-in_err-slot-clause-left c = rw (sym c.self.view_is, c.from_residual-in_err-slot.ensures) (λ placed tells order. none_left_clear _ placed _ tells order c.in_err-slot.ensures.none)

pub returns-in_err-known-clause-left : goal.returns-in_err-known-clause-left
returns-in_err-known-clause-left c placed tells order =
    let newest = c.in_ok-slot.ensures.some in
    absurd (none-some newest.known (c.in_err-known.ensures ∙ get_or_from_slice_get c.self.inside.index c.in_ok-slot.slot _ None newest.there))

pub returns-clause-left : goal.returns-clause-left
returns-clause-left c = rw (sym c.self.view_is) (
    let empty = rw (sym c.self.view_is) at c.in_ok-empty_newest.ensures.some in
    λ placed tells order. left_newest _ placed _ tells order _ empty.0 empty.1 c.in_ok-slot.slot c.in_ok-known.known c.in_ok-slot.ensures.some (sym c.in_ok-known.ensures))
