-- Media that no call changed, and a fault that has its cause in a call.
use Rattle.std.proofs.Common.{◌≡◌, ◌⊎◌, inl, inr, Bool, true, false, true≢false, sym, ◌∙◌}
use Rattle.vdr_outside.specs.Disk.{Disk, Unchanged}
use Rattle.vdr_outside.proofs.Moments.{unchanged_none}

module _ {tells tells_images : Type 0} where
  pub same_disk : (disk : Disk tells tells_images) → Unchanged disk disk
  same_disk disk = unchanged_none disk

-- The media had not failed before, so that a fault has its cause in the call.
pub in_this_call : (failed : Bool) (rose : Type 0) → failed ≡ false → (failed ≡ true) ⊎ rose → rose
in_this_call failed rose works (inl fails) = absurd (true≢false (sym fails ∙ works))
in_this_call failed rose works (inr is) = is
