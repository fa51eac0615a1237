use Rattle.vdr_entry.specs.Queries.{asked}
use Rattle.vdr_ring.specs.Walks.{steps_left}
use Rattle.vdr_recorder.proofs.PlayParts.{IsPrinting}
use Rattle.vdr_recorder.proofs.resume.print_part.Given as goal

abbrev pub invariant-loop-part : goal.invariant-loop-part
invariant-loop-part g l =
    IsPrinting g.M.Media (asked l.query) l.part l.fn.vault l.vault l.fn.media l.media l.fn.piece.bytes.items l.piece.bytes.items l.fn.tracks l.tracks l.cursor l.upto

abbrev pub decreases-loop-part : goal.decreases-loop-part
decreases-loop-part g l = steps_left l.cursor
