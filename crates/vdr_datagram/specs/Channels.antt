-- Which datagrams the channels of a configuration select (this project's profile).
use Rattle.std.specs.Prelude.{ℕ, ◌+◌, ◌-◌, ◌*◌, Bool, true, false, not, ◌&&◌, ◌==◌, List, [], ◌∷◌, length, map, drop, slice_index, bytes_eq, Option, Some, None, is_none, if◌then◌else◌}
use Rattle.std.specs.List.{list_any}
use Rattle.vdr_terms.specs.Channels.{Channels}
use Rattle.vdr_config.specs.Configuration.{Configuration, Selector, Selection}
use Rattle.vdr_config.specs.Configuration.Selection.{Sentence, Image, Pcm, Opaque}
use Rattle.vdr_sentence.specs.Addresses.{address_of}
use Rattle.vdr_image.specs.Headers.{Header}
use Rattle.vdr_image.specs.Images.{image_in}
use Rattle.vdr_pcm.specs.Frames.{Frame}
use Rattle.vdr_pcm.specs.Datagrams.{pcm_in}
use Rattle.vdr_datagram.specs.declared.tokens.Token.{Token}
use Rattle.vdr_datagram.specs.declared.tokens.Token.TheVariants as tokens
use Rattle.vdr_datagram.specs.Tokens.{token}
use Rattle.vdr_datagram.specs.Verdicts.{LineReading, Good, Tag, Sentence as Refused, line_spans}

-- The formatter: the last three characters of an address (IEC 61162-1). A proprietary address, which begins with `P`, has none.
abbrev pub formatter_of : (address : List ℕ) → Option (List ℕ)
formatter_of address = if slice_index address 0 == 80 then None else Some (drop (length address - 3) address)

-- The text that is found is the one that is asked for, where one is.
abbrev pub is_asked : (asked found : Option (List ℕ)) → Bool
is_asked None found = true
is_asked (Some text) None = false
is_asked (Some text) (Some found) = bytes_eq text found

-- A good line has the formatter and the source. A refused line has neither.
abbrev pub is_line_of : (formatter source : Option (List ℕ)) → LineReading → Bool
is_line_of formatter source (Good tags sentence) = is_asked formatter (formatter_of (address_of sentence.content)) && is_asked source tags.source
is_line_of formatter source (Tag bad) = false
is_line_of formatter source (Refused tags bad) = false

abbrev pub holds_sentences : Token → Bool
holds_sentences tokens.Sentences = true
holds_sentences tokens.Image = false
holds_sentences tokens.Pcm = false
holds_sentences tokens.Other = false
holds_sentences tokens.NoToken = false

-- An image datagram, and of the source that is asked for, where one is.
abbrev pub is_image_of : (source : Option (List ℕ)) → Option Header → Bool
is_image_of source None = false
is_image_of source (Some header) = is_asked source (Some header.source)

-- A PCM frame of the microphone.
abbrev pub is_frame_of : (microphone : ℕ) → Option Frame → Bool
is_frame_of microphone None = false
is_frame_of microphone (Some frame) = microphone == frame.microphone

-- The datagram is one that the channel selects of its group. What is neither sentences nor an image nor a PCM frame is opaque.
abbrev pub selects : Selection → (bytes : List ℕ) → Bool
selects (Sentence formatter source) bytes = list_any (λ line. is_line_of formatter source line.verdict) (line_spans bytes)
selects (Image source) bytes = is_image_of source (image_in bytes)
selects (Pcm microphone) bytes = is_frame_of microphone (pcm_in bytes)
selects Opaque bytes = not (holds_sentences (token bytes)) && is_none (image_in bytes) && is_none (pcm_in bytes)

-- Bit k for each channel k that passes.
abbrev pub bits_where : (Selector → Bool) → List Selector → ℕ
bits_where passes [] = 0
bits_where passes (c ∷ channels) = (if passes c then 1 else 0) + 2 * bits_where passes channels

-- Bit k for each channel k that selects a group's datagram.
abbrev pub channel_bits : List Selector → (group : ℕ) → (bytes : List ℕ) → ℕ
channel_bits channels group bytes = bits_where (λ c. (c.group == group) && selects c.kind bytes) channels

-- The channels of a configuration, as records have their bits.
abbrev pub channels_of : Configuration → Channels
channels_of c = record { groups = map (λ s. s.group) c.channels; selects = channel_bits c.channels }
