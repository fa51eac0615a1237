use Rattle.std.proofs.Common.{List, ℕ}
use Rattle.vdr_outside.specs.Disk.{content}
use Rattle.vdr_directory.specs.Opening.{slot_bytes}
use Rattle.vdr_directory.proofs.Latest.{none_behind, closed_before}
use Rattle.vdr_directory.proofs.surveys.is_newest_empty.Goals as goal

pub returns-in-Ok-clause-empty : goal.returns-in-Ok-clause-empty
returns-in-Ok-clause-empty g c told =
    let bytes : List ℕ = slot_bytes c.args.area.segment c.args.slot (content (g.M.Media.disk c.args.media.now).reads c.args.area.medium) in (
      none_behind bytes _ (c.in-Ok.ensures.gate told),
      λ newest. closed_before bytes _ (c.in-Ok.ensures.gate told),
    )
