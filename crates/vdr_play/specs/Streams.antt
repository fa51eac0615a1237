-- The lines of image headers and PCM frames, and the tracks that tell how each follows the one before it (this project's profile).
use Rattle.std.specs.Prelude.{ℕ, List, [], ◌∷◌, length, codes, decimal, Option, Some, None, option_map}
use Rattle.vdr_terms.specs.Records.{Content}
use Rattle.vdr_terms.specs.Records.Content.{Start, Datagram, Gap, Stop}
use Rattle.vdr_image.specs.Headers.{Header}
use Rattle.vdr_image.specs.Images.{image_in}
use Rattle.vdr_image.specs.Tracks.{image_step, part_of}
use Rattle.vdr_image.specs.declared.part.Part.{Part}
use Rattle.vdr_image.specs.declared.step.ImageStep.{ImageStep}
use Rattle.vdr_image.specs.declared.step.ImageStep.TheVariants.{First, Next, Break}
use Rattle.vdr_pcm.specs.Frames.{Frame, sample_count}
use Rattle.vdr_pcm.specs.Datagrams.{pcm_in}
use Rattle.vdr_pcm.specs.Tracks.{number_of, pcm_step}
use Rattle.vdr_pcm.specs.declared.frame_number.FrameNumber.{FrameNumber}
use Rattle.vdr_pcm.specs.declared.step.PcmStep.{PcmStep}
use Rattle.vdr_pcm.specs.declared.step.PcmStep.TheVariants.{First as FirstFrame, Missing, Back}
use Rattle.vdr_datagram.specs.Tokens.{token}
use Rattle.vdr_datagram.specs.declared.tokens.Token.{Token}
use Rattle.vdr_datagram.specs.declared.tokens.Token.TheVariants.{Sentences, Image, Pcm, Other, NoToken}
use Rattle.vdr_play.specs.Verdicts.{indented}

-- The part of an image and the frame of sound last seen.
pub record Seen : Type 0 where
  pub image : Option Part
  pub pcm : Option FrameNumber

-- Nothing was seen yet.
abbrev pub nothing_seen : Seen
nothing_seen = record { image = None; pcm = None }

abbrev pub image_step_word : ImageStep → List ℕ
image_step_word First = codes "first"
image_step_word Next = codes "next"
image_step_word Break = codes "break"

abbrev pub pcm_step_words : PcmStep → List (List ℕ)
pcm_step_words FirstFrame = codes "first" ∷ []
pcm_step_words (Missing m) = codes "missing" ∷ decimal m ∷ []
pcm_step_words Back = codes "back" ∷ []

-- image SOURCE BLOCK SEQUENCE GREATEST BYTES, and how the part follows
abbrev pub image_words : Header → ImageStep → List (List ℕ)
image_words h how = codes "image" ∷ h.source ∷ decimal h.block ∷ decimal h.sequence ∷ decimal h.greatest ∷ decimal (length h.body) ∷ image_step_word how ∷ []

-- pcm MICROPHONE FRAME RATE COUNT, and how the frame follows
abbrev pub frame_words : Frame → (how : List (List ℕ)) → List (List ℕ)
frame_words f how = codes "pcm" ∷ decimal f.microphone ∷ decimal f.frame ∷ decimal f.rate ∷ decimal (sample_count f.samples) ∷ how

abbrev pub opaque_text : List ℕ
opaque_text = indented (codes "opaque" ∷ [])

-- The line of what an image datagram reads as.
abbrev pub image_text : Option Part → Option Header → List ℕ
image_text last None = opaque_text
image_text last (Some h) = indented (image_words h (image_step last (part_of h)))

abbrev pub pcm_text : Option FrameNumber → Option Frame → List ℕ
pcm_text last None = opaque_text
pcm_text last (Some f) = indented (frame_words f (pcm_step_words (pcm_step last (number_of f))))

-- What was seen last, once there may have been one more.
abbrev pub latest : {A : Type 0} → Option A → Option A → Option A
latest last None = last
latest last (Some now) = Some now

-- What was seen after a datagram of this token.
abbrev pub seen_under : Seen → Token → (payload : List ℕ) → Seen
seen_under seen Sentences payload = seen
seen_under seen Image payload = record seen { image = latest seen.image (option_map part_of (image_in payload)) }
seen_under seen Pcm payload = record seen { pcm = latest seen.pcm (option_map number_of (pcm_in payload)) }
seen_under seen Other payload = seen
seen_under seen NoToken payload = seen

abbrev pub seen_after : Seen → Content → Seen
seen_after seen (Datagram payload) = seen_under seen (token payload) payload
seen_after seen (Gap missed) = seen
seen_after seen Start = seen
seen_after seen Stop = seen
