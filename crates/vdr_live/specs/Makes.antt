-- `make`: the media that a configuration asks for are made and formatted (this project's profile).
use Rattle.std.specs.Prelude.{◌≡◌, ◌≤◌, ◌<◌, ◌⊎◌, ◌∷◌, ℕ, Bool, false, List, [], String, map, string_bytes, codes, sum, Option, Some, None, Ok, Err, All, ⊤}
use Rattle.std.specs.Io.KnownBytes.{IsAtEnd}
use Rattle.std.specs.declared.alloc.Global.{Global}
use Rattle.vdr_terms.specs.Needs.{Fits}
use Rattle.vdr_outside.specs.Causes.{Rose}
use Rattle.vdr_outside.specs.Disk.{Disk, Image}
use Rattle.vdr_outside.specs.Moments.{Settled}
use Rattle.vdr_outside.specs.declared.media.Media.{Ghosts as MediaTells}
use Rattle.vdr_feed.specs.Reader.{IfKnown}
use Rattle.vdr_config.specs.declared.bad.ConfigBad.{ConfigBad}
use Rattle.vdr_config.specs.declared.media.TooSmall.{TooSmall}
use Rattle.vdr_config.specs.Configuration.{Configuration}
use Rattle.vdr_config.specs.Grammar.{configuration}
use Rattle.vdr_config.specs.Sizes.{sizes_of}
use Rattle.vdr_media.specs.Formatted.{members, IsEmptyHistoryOf, IsUnformatted}
use Rattle.vdr_media.specs.Medium.{IsEmptyMedium}
use Rattle.vdr_command.specs.Endings.{IsConfigRefusal, IsDone, WritesLine}
use Rattle.vdr_command.specs.Outside.{InputFailed, InputSeen, OutputSeen}
use Rattle.vdr_command.specs.Refusals.{RefusesConfig}
use Rattle.vdr_command.specs.StatusLine.{IsConfig}
use Rattle.vdr_command.specs.declared.status.Status.{Status}
use Rattle.vdr_command.specs.declared.status.Status.TheVariants.{Done, Config, Small, Formatted, MediaFault, InputFault, NoMemory}
use Rattle.vdr_tool.specs.Formats.{IfConfiguration}
use Rattle.vdr_live.specs.Making.{IsFirstLacking, IsLeast, NoneFits}

-- The words ask for it.
abbrev pub AsksMake : List (String Global) → Type 0
AsksMake words = map string_bytes words ≡ codes "make" ∷ []

-- What makes the media, as it tells of itself.
pub record MakerSeen : Type 1 where
  pub stands : Bool  -- media that it made stand
  pub taken : Type 0  -- a fact where the name of a medium is taken
  pub faults : ℕ  -- how often a call of it failed, or a name was taken

-- What stands outside of `make`: in the place of media what makes them.
pub record MakeOutside : Type 1 where
  pub input : InputSeen
  pub output : OutputSeen
  pub maker : MakerSeen

abbrev pub MakerFailed : (old new : MakerSeen) → Type 0
MakerFailed old new = Rose old.faults new.faults

-- Media were made, and have P.
abbrev pub AreMadeWith : {M : Type 0} → Option M → (M → Type 0) → Type 0
AreMadeWith None P = ⊥
AreMadeWith (Some media) P = P media

-- Each stop since they were made left media that are not formatted, or that hold nothing but this text's configuration.
pub record IsFormattedSince {tells tells_images : Type 0} (text : List ℕ) (disk : Disk tells tells_images) : Type 0 where
  pub made : ℕ
  pub before_exit : made ≤ disk.clock
  pub since : (i : Image) → disk.since made i → IsUnformatted i ⊎ IsEmptyHistoryOf members text i

-- Media of these sizes that are formatted with this configuration, and hold nothing. A stop leaves them so.
pub record AreFormatted {tells tells_images : Type 0} (c : Configuration) (text : List ℕ) (capsule long_term : ℕ) (disk : Disk tells tells_images) : Type 0 where
  pub sizes : disk.sizes ≡ capsule ∷ long_term ∷ []
  pub formatted : All (λ m. Settled m (IsEmptyMedium m c text) disk) members
  pub moments : IsFormattedSince text disk

-- The text is a configuration, of which these are the least sizes of media.
pub record AsksSizes (text : List ℕ) (capsule long_term : ℕ) : Type 0 where
  pub config : Configuration
  pub is : configuration text ≡ Ok config
  pub capsule_is : IsLeast config 0 capsule
  pub long_term_is : IsLeast config 1 long_term

module _ {M : Type 0} (media : MediaTells M) where
  -- A call on the media that were made failed.
  abbrev pub MadeFailed : Option M → Type 0
  MadeFailed made = AreMadeWith made (λ m. Rose 0 (sum (media.faults m)))

  -- Media were made of the least sizes that the text asks for, and formatted with it.
  pub record MakesFor (text : List ℕ) (made : Option M) : Type 0 where
    pub capsule : ℕ
    pub long_term : ℕ
    pub asks : AsksSizes text capsule long_term
    pub are : AreMadeWith made (λ m. AreFormatted asks.config text capsule long_term (media.disk m))

  -- All was done: no name was taken, and the input, which was read to its end, is the text for which media were made.
  pub record MakeDone (left : Option (List ℕ)) (old new : MakeOutside) (made : Option M) : Type 0 where
    pub free : old.maker.taken → ⊥
    pub at_end : IsAtEnd new.input.left
    pub text : List ℕ
    pub whole : IfKnown left (λ bytes. bytes ≡ text)
    pub makes : MakesFor text made

  -- What each status says: each comes only with its cause, and none but these. The input is what is left of it at first.
  abbrev pub MakeSays : (left : Option (List ℕ)) → (old new : MakeOutside) → Option M → Status → Type 0
  MakeSays left old new made Done = MakeDone left old new made
  -- it is no configuration, and its refusal is written, with the key
  MakeSays left old new made (Config number) = RefusesConfig (Config number) left old.output new.output
  -- it is a configuration for which no medium has enough slots
  MakeSays left old new made (Small small) = IfConfiguration left (λ c bytes. IsFirstLacking c small)
  -- new media were found formatted, which media that tell what they read as never are
  MakeSays left old new made Formatted = media.tells → ⊥
  -- a name is taken, or a call of the maker or on what it made failed
  MakeSays left old new made MediaFault = MakerFailed old.maker new.maker ⊎ MadeFailed made
  MakeSays left old new made InputFault = InputFailed old.input new.input
  MakeSays left old new made NoMemory = ⊤
  MakeSays left old new made status = ⊥

-- A configuration for which there are media is done, one for which there are none and what is none are refused so, or there was no memory.
pub record MakesAll (bytes : List ℕ) (status : Status) : Type 0 where
  pub refused : (bad : ConfigBad) → configuration bytes ≡ Err bad → IsConfigRefusal bad status
  pub small : (c : Configuration) → configuration bytes ≡ Ok c → NoneFits c 0 ⊎ NoneFits c 1 → ((small : TooSmall) × (status ≡ Small small) × IsFirstLacking c small) ⊎ (status ≡ NoMemory)
  pub done : (c : Configuration) → configuration bytes ≡ Ok c → (capsule long_term : ℕ) → Fits (sizes_of c) 0 capsule → Fits (sizes_of c) 1 long_term → IsDone status

-- What `make` owes. It prints nothing.
pub record MakesMedia {M : Type 0} (media : MediaTells M) (old new : MakeOutside) (made : Option M) (status : Status) : Type 0 where
  pub says : MakeSays media old.input.left old new made status
  -- where the maker failed, or a name was taken, that is told, and nothing else
  pub failed : old.maker.faults < new.maker.faults → status ≡ MediaFault
  -- unless all was done nothing is left of what was made
  pub left : (status ≡ Done) ⊎ (old.maker.stands ≡ false → new.maker.stands ≡ false)
  pub silent : IsConfig status ⊎ (new.output ≡ old.output)
  -- and where nothing failed nothing else comes in the place of a refusal, or of a success, but want of memory
  pub complete : (InputFailed old.input new.input → ⊥) → (MakerFailed old.maker new.maker → ⊥) → (MadeFailed media made → ⊥) → IfKnown old.input.left (λ bytes. media.tells → MakesAll bytes status)

-- It was done, and then the line of its status was written.
pub record EndsMake {M : Type 0} (media : MediaTells M) (old new : MakeOutside) (made : Option M) (status : Status) : Type 0 where
  pub between : OutputSeen
  pub owed : MakesMedia media old (record { input = new.input; output = between; maker = new.maker }) made status
  pub line : WritesLine status between new.output
  pub later : (old.output.faults ≤ between.faults) × (between.faults ≤ new.output.faults)
