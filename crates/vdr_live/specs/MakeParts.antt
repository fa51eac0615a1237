-- What the parts of `make` answer: the reading of the sizes, and the making of media for a text (this project's profile).
use Rattle.std.specs.Prelude.{◌≡◌, ◌⊎◌, ℕ, List, Option, Ok, Err, ⊤}
use Rattle.vdr_config.specs.declared.bad.ConfigBad.{ConfigBad}
use Rattle.vdr_config.specs.declared.media.TooSmall.{TooSmall}
use Rattle.vdr_config.specs.Configuration.{Configuration}
use Rattle.vdr_config.specs.Grammar.{configuration}
use Rattle.vdr_outside.specs.declared.media.Media.{Ghosts as MediaTells}
use Rattle.vdr_command.specs.Outside.{OutputSeen, Writes}
use Rattle.vdr_command.specs.Refusals.{number_of, refusal_line}
use Rattle.vdr_command.specs.declared.status.Status.{Status}
use Rattle.vdr_command.specs.declared.status.Status.TheVariants.{Done, Config, Small, Formatted, MediaFault, NoMemory}
use Rattle.vdr_live.specs.declared.asking.Unasked.{Unasked}
use Rattle.vdr_live.specs.declared.asking.Unasked.TheVariants as unasked
use Rattle.vdr_live.specs.Making.{IsFirstLacking}
use Rattle.vdr_live.specs.Makes.{MadeFailed, MakerFailed, MakerSeen, MakesFor}

-- The status with which the command ends.
abbrev pub unasked_status : Unasked → Status
unasked_status unasked.NoMemory = NoMemory
unasked_status (unasked.Config number) = Config number
unasked_status (unasked.Small small) = Small small

-- The text is a configuration for which there are no media.
pub record LacksMedia (text : List ℕ) (small : TooSmall) : Type 0 where
  pub config : Configuration
  pub is : configuration text ≡ Ok config
  pub lacking : IsFirstLacking config small

-- The text is refused so, which is written.
pub record RefusesText (text : List ℕ) (number : ℕ) (old new : OutputSeen) : Type 0 where
  pub bad : ConfigBad
  pub number_is : number_of bad ≡ number
  pub is : configuration text ≡ Err bad
  pub wrote : Writes (refusal_line bad) old new

-- Why the text asks for no media. Nothing is written but a refusal.
abbrev pub AsksNone : List ℕ → (old new : OutputSeen) → Unasked → Type 0
AsksNone text old new unasked.NoMemory = new ≡ old
AsksNone text old new (unasked.Config number) = RefusesText text number old new
AsksNone text old new (unasked.Small small) = LacksMedia text small × (new ≡ old)

-- How the making of media for a text ended, that is a configuration for which there are some.
abbrev pub MadeSays : {M : Type 0} → MediaTells M → (old new : MakerSeen) → (text : List ℕ) → Option M → Status → Type 0
MadeSays media old new text made Done = (old.taken → ⊥) × MakesFor media text made
MadeSays media old new text made Formatted = media.tells → ⊥
MadeSays media old new text made MediaFault = MakerFailed old new ⊎ MadeFailed media made
MadeSays media old new text made NoMemory = ⊤
MadeSays media old new text made status = ⊥
