-- What the kind of a channel stands for.
use Rattle.std.specs.Prelude.{ℕ, List, Option, option_map}
use Rattle.arrayvec.specs.ArrayVec.{ArrayVec}
use Rattle.vdr_config.specs.declared.channel.ChannelKind.{ChannelKind}
use Rattle.vdr_config.specs.declared.channel.ChannelKind.TheVariants as kinds
use Rattle.vdr_config.specs.Configuration.{Selection}
use Rattle.vdr_config.specs.Configuration.Selection.{Sentence, Image, Pcm, Opaque}

-- The bytes of a source, where it is given.
abbrev pub source_of : Option (ArrayVec ℕ) → Option (List ℕ)
source_of s = option_map (λ v. v.items) s

abbrev pub selection_of : ChannelKind → Selection
selection_of (kinds.Sentence formatter source) = Sentence formatter (source_of source)
selection_of (kinds.Image source) = Image (source_of source)
selection_of (kinds.Pcm microphone) = Pcm microphone
selection_of kinds.Opaque = Opaque
