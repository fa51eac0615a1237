-- Images of this product: what leaves them so, and what they hold.
use Rattle.std.proofs.Common.{◌≤◌, ◌⊎◌, inl, inr, ℕ, List, Result, ⊎_elim, refl, sym, subst, arith}
use Rattle.vdr_durability.specs.Readings.{EndsMeet}
use Rattle.vdr_outside.specs.Disk.{Disk, Image, Unchanged}
use Rattle.vdr_config.specs.Configuration.{Configuration}
use Rattle.vdr_media.specs.Formatted.{IsEmptyHistory, IsEmptyHistoryOf, IsUnformatted}
use Rattle.vdr_media.specs.Formatting.{ClosedAlone, FormatsAtEachMoment}
use Rattle.vdr_opening.specs.Media.{members_with, Contents, HoldsContents, nothing_on, reading_of}
use Rattle.vdr_opening.proofs.ContentsHeld.{are_formatted}
use Rattle.vdr_opening.proofs.Fronts.{empty_holds, empty_meet}
use Rattle.vdr_vault.specs.Openings.{LeavesAll}
use Rattle.vdr_vault.specs.Regularity.{AreSound}
use Rattle.vdr_vault.proofs.SoundMedia.{sound_as, sound_nothing}
use Rattle.vdr_vault.specs.Ours.{AreOurs, IsOurs, RestAs, StayOurs}

pub contents_ours : (image : Image) (x : Contents) → IsOurs image → HoldsContents image x → EndsMeet (members_with x.further) (reading_of x) × AreSound x
contents_ours image x (inl unformatted) holds = absurd (are_formatted image x holds unformatted)
contents_ours image x (inr (y, h, meet, sound)) holds = sound_as image y x h holds (meet, sound)

pub empty_ours : (image : Image) (c : Configuration) (text : List ℕ) → IsEmptyHistory (members_with 0) c text image → IsOurs image
empty_ours image c text empty = inr (nothing_on 0 c text, empty_holds 0 image c text refl empty, empty_meet 0 c text, sound_nothing c text)

module _ {tells tells_images : Type 0} where
  pub ours_on : (old new : Disk tells tells_images) → StayOurs old new → AreOurs new
  ours_on old new h image now = h.each image (new.counts_now old.clock image h.later now)

  pub ours_at_rest : (image : Image) (disk : Disk tells tells_images) → IsOurs image → RestAs image disk → AreOurs disk
  ours_at_rest image disk ours rest i now = subst IsOurs (sym (rest.alone i now)) ours

  pub ours_sound : (disk : Disk tells tells_images) (x : Contents) → tells_images → AreOurs disk → HoldsContents disk.reads x → EndsMeet (members_with x.further) (reading_of x) × AreSound x
  ours_sound disk x told ours holds = contents_ours disk.reads x (ours disk.reads (disk.shown told).1) holds

  -- A call that leaves what might have been left before, or what is ours.
  pub ours_kept : (old new : Disk tells tells_images) → LeavesAll old new → AreOurs old → StayOurs old new
  ours_kept old new leaves ours = record { later = leaves.later; each = λ image left. ours image (leaves.each image left) }

  pub ours_unchanged : (old new : Disk tells tells_images) → Unchanged old new → AreOurs old → StayOurs old new
  ours_unchanged old new same ours = record {
    later = let clock = same.clock in omega (arith, clock);
    each = λ image left. ours image (old.only_now image ((same.since old.clock image).0 left));
  }

  -- A call on media that were opened: nothing was written, or what a stop left is what it might have left before or is ours.
  pub ours_opened : (old new : Disk tells tells_images) → tells_images → AreOurs old → (tells → IsUnformatted old.reads → LeavesAll old new)
      → ((x : Contents) → tells → HoldsContents old.reads x → EndsMeet (members_with x.further) (reading_of x) → AreSound x
      → LeavesAll old new ⊎ ((old.clock ≤ new.clock) × ((image : Image) → new.since old.clock image → old.now image ⊎ IsOurs image)))
      → StayOurs old new
  ours_opened old new told ours blank kept = by_reads (ours old.reads (old.shown told).1)
    where
      by_kept : LeavesAll old new ⊎ ((old.clock ≤ new.clock) × ((image : Image) → new.since old.clock image → old.now image ⊎ IsOurs image)) → StayOurs old new
      by_kept (inl leaves) = ours_kept old new leaves ours
      by_kept (inr (later, each)) = record { later = later; each = λ image left. ⊎_elim (ours image) (λ is. is) (each image left) }

      by_reads : IsOurs old.reads → StayOurs old new
      by_reads (inl unformatted) = ours_kept old new (blank (old.shown told).0 unformatted) ours
      by_reads (inr (x, holds, meet, sound)) = by_kept (kept x (old.shown told).0 holds meet sound)

  -- A call that formats them.
  pub ours_formatted : {T E : Type 0} (old new : Disk tells tells_images) (result : Result T E) (text : List ℕ) → AreOurs old → FormatsAtEachMoment old new result (IsEmptyHistoryOf (members_with 0) text) → StayOurs old new
  ours_formatted old new result text ours (inl ends) = record {
    later = ends.moments.later;
    each = λ image left. ⊎_elim (ours image) (λ (closed : ClosedAlone old.now image). inl closed.unformatted) (ends.moments.each image left);
  }
  ours_formatted old new result text ours (inr goes) = record {
    later = goes.moments.later;
    each = λ image left. ⊎_elim (ours image) (λ formatting. ⊎_elim (λ unformatted. inl unformatted) (λ (new : IsEmptyHistoryOf (members_with 0) text image). empty_ours image new.0 text new.1) formatting) (goes.moments.each image left);
  }
