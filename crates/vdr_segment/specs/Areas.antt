-- Where the slots of a medium stand.
use Rattle.std.specs.Prelude.{ℕ, ◌+◌, ◌*◌, ◌<◌, ◌≤◌, List, length, get_or}
use Rattle.vdr_segment.specs.declared.area.Area.{Area}
use Rattle.vdr_terms.specs.Slots.{slots_from}

-- There is such a medium among those of these sizes, and all its slots stand within it.
pub record HasRoom (area : Area) (sizes : List ℕ) : Type 0 where
  pub there : area.medium < length sizes
  pub room : slots_from + area.slots * area.segment ≤ get_or sizes area.medium 0
