use Rattle.std.proofs.Common.{ap}
use Rattle.vdr_outside.specs.Disk.{content}
use Rattle.vdr_rescue.specs.Cursors.{CursorState}
use Rattle.vdr_compare.proofs.Stepping.{begins_on}
use Rattle.vdr_compare.proofs.side.Side.front.Goals as goal

pub returns-clause-gives : goal.returns-clause-gives
returns-clause-gives g c told given h =
    begins_on _ _ c.args.cursor c.rewind.new.self c.step.new.self c.step.new.item c.in_ok-more.more given c.rewind.ensures
    (ap (λ (x : CursorState). content (g.M.Media.disk c.args.media.now).reads x.area.medium) c.rewind.ensures) (c.in_ok-more.ensures.gives told) h
