use Rattle.std.proofs.Common.{◌≡◌, ◌<◌, ◌+◌, ◌*◌, ℕ, Some, length, map, take, All}
use Rattle.vdr_directory.specs.Opening.{slot_bytes}
use Rattle.std.specs.List.{AllWithin}
use Rattle.vdr_outside.specs.Causes.{NoneFalls}
use Rattle.vdr_outside.specs.Disk.{Unchanged, content}
use Rattle.vdr_directory.specs.Costs.{ReadsAtMost, unsummarized}
use Rattle.vdr_directory.specs.Fronts.{head_of, IsSurveyed}
use Rattle.vdr_directory.proofs.Latest.{IsHeld}
use Rattle.vdr_directory.proofs.surveys.survey_all.Given as goal

abbrev pub invariant-loop-i : goal.invariant-loop-i
invariant-loop-i g l = record {
  unchanged : Unchanged (g.M.Media.disk l.fn.media) (g.M.Media.disk l.media);
  later : NoneFalls (g.M.Media.faults l.fn.media) (g.M.Media.faults l.media);
  heads : map head_of l.opened ≡ map head_of l.fn.opened;
  within : All (λ e. e.slot < l.area.slots) l.opened;
  counts : l.i < length l.opened → ReadsAtMost l.area.medium (l.area.segment * unsummarized (take l.i l.fn.opened)) (g.M.Media.bytes_read l.fn.media) (g.M.Media.bytes_read l.media);
  counts_all : ReadsAtMost l.area.medium (1 + l.area.segment * unsummarized (take l.i l.fn.opened)) (g.M.Media.bytes_read l.fn.media) (g.M.Media.bytes_read l.media);
  held : g.M.Media.tells → (slot : ℕ) → l.held ≡ Some slot → l.buffer ≡ slot_bytes l.area.segment slot (content (g.M.Media.disk l.fn.media).reads l.area.medium);
  latest : g.M.Media.tells → IsHeld l.opened l.i l.held;
  told : g.M.Media.tells → AllWithin (IsSurveyed l.area.segment (content (g.M.Media.disk l.fn.media).reads l.area.medium)) l.opened 0 l.i;
}
