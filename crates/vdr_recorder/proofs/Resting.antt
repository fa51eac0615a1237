-- What the media of a vault at rest read as: all its events.
use Rattle.std.proofs.Common.{◌≡◌, ℕ, List, refl}
use Rattle.std.proofs.lemmas.List.Elements.{All-weaker}
use Rattle.vdr_core.specs.Histories.{Event, Opening, incidents}
use Rattle.vdr_durability.specs.Retention.{Retains}
use Rattle.vdr_durability.specs.Shown.{given_with, pins_on}
use Rattle.vdr_outside.specs.Disk.{Disk, content}
use Rattle.vdr_outside.proofs.Moments.{size_read}
use Rattle.vdr_directory.specs.Sequence.{all_records}
use Rattle.vdr_ring.specs.Whole.{is_filled}
use Rattle.vdr_opening.specs.Answers.{members_on}
use Rattle.vdr_opening.specs.Media.{Contents, HoldsContents, IsMedium, slots_on}
use Rattle.vdr_vault.specs.Vaults.{HoldsHistory, VaultState, ShowsHistory, Stands, contents_of, ring_of}
use Rattle.vdr_vault.proofs.Kept.{filled_there}
use Rattle.vdr_vault.proofs.ShownHistory.{held_at, stands_sound}
use Rattle.vdr_vault.proofs.ShownImages.{placed_there, shown_level}
use Rattle.vdr_directory.specs.Sequence.{Placed}

module _ {tells tells_images : Type 0} (opening : Opening) (events : List Event) (vault : VaultState) (placed : ℕ → List Placed) (disk : Disk tells tells_images)
    (stands : Stands opening events vault placed disk) (told : tells) where
  abbrev Holds : ℕ → Type 0
  Holds m = HoldsHistory opening events vault.config m (ring_of vault m) (placed m) disk

  read_at : (m : ℕ) → Holds m → IsMedium m vault.config opening.settings.text (placed m) (content disk.reads m)
  read_at m h = record {
    front = h.front told;
    segments = record {
      holds = placed_there vault.config disk.sizes m (ring_of vault m) (placed m) (content disk.reads m) h.is_its (size_read disk m told)
          (held_at opening events vault.config m (ring_of vault m) (placed m) disk h told);
      order = h.reads.order;
    };
  }

  abbrev Held : Contents
  Held = contents_of opening vault placed vault.table

  holds : HoldsContents disk.reads Held
  holds = record {
    further = stands.read_version told;
    media = All-weaker Holds (λ m. IsMedium m vault.config opening.settings.text (placed m) (content disk.reads m)) read_at (members_on vault.rings) stands.media;
    table = stands.table told;
    there = stands.there;
    filled = All-weaker Holds (λ m. is_filled (ring_of vault m).slots (placed m) ≡ is_filled (slots_on vault.config disk.reads m) (placed m))
        (λ m h. filled_there vault.config disk.sizes m (ring_of vault m) (placed m) (content disk.reads m) h.is_its (size_read disk m told)) (members_on vault.rings) stands.media;
  }

  pub stand_reads : ShowsHistory opening events disk.reads
  stand_reads = shown_level opening events Held disk.reads holds (stands_sound opening events vault placed disk stands) refl stands.incidents_are stands.level
      (All-weaker Holds (λ m. Retains (opening.settings.seconds m) (pins_on m (incidents opening events)) (given_with opening events m) (all_records (placed m))) (λ m h. h.retains) (members_on vault.rings) stands.media)
