-- What file is wished for of a channel (this project's profile).
use Rattle.std.specs.Prelude.{◌==◌, if◌then◌else◌, ℕ, ℤ, List, slice_get, option_map, unsigned_abs, Option, Some, None}
use Rattle.vdr_config.specs.Configuration.{Selection, Selector}
use Rattle.vdr_config.specs.Configuration.Selection.{Sentence, Image as Images, Pcm, Opaque}
use Rattle.vdr_export.specs.declared.block.Block.{Block}
use Rattle.vdr_export.specs.declared.file.File.{File}
use Rattle.vdr_export.specs.declared.file.File.TheVariants as files
use Rattle.vdr_export.specs.declared.timing.Timing.{Timing}
use Rattle.vdr_export.specs.declared.timing.Timing.TheVariants.{Stamped}
use Rattle.vdr_export.specs.declared.wish.Wish.{Wish}
use Rattle.vdr_export.specs.declared.wish.Wish.TheVariants.{Sound, Picture, Listing}

-- What the channel of this number selects, None where there is none.
abbrev pub kind_at : List Selector → Option ℕ → Option Selection
kind_at channels None = None
kind_at channels (Some k) = option_map (λ channel. channel.kind) (slice_get channels k)

-- The file that is to be made of a channel, None where its kind is another, and of all records.
abbrev pub sound_of : Timing → Option Selection → Option File
sound_of timing None = None
sound_of timing (Some (Sentence formatter source)) = None
sound_of timing (Some (Images source)) = None
sound_of timing (Some (Pcm microphone)) = Some (files.Sound microphone timing)
sound_of timing (Some Opaque) = None

abbrev pub picture_in : Block → Option Selection → Option File
picture_in block None = None
picture_in block (Some (Sentence formatter source)) = None
picture_in block (Some (Images source)) = Some (files.Picture block)
picture_in block (Some (Pcm microphone)) = None
picture_in block (Some Opaque) = None

abbrev pub listing_in : Option Selection → Option File
listing_in None = None
listing_in (Some (Sentence formatter source)) = None
listing_in (Some (Images source)) = Some files.Listing
listing_in (Some (Pcm microphone)) = None
listing_in (Some Opaque) = None

abbrev pub wished : Wish → Option Selection → Option File
wished (Sound timing) kind = sound_of timing kind
wished (Picture block) kind = picture_in block kind
wished Listing kind = listing_in kind

-- A sound on its time line begins at FROM, or with its first frame where that is no bound, which is 0.
abbrev pub timed_from : (from : ℤ) → Timing
timed_from from = Stamped (if unsigned_abs from == 0 then None else Some (unsigned_abs from))
