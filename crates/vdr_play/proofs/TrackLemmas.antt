-- What stands under a datagram of an image or of sound, and what was seen after it.
use Rattle.std.proofs.Common.{◌≡◌, ℕ, List, Option, Some, ap, ◌∙◌}
use Rattle.std.specs.Prelude.{option_map}
use Rattle.vdr_datagram.specs.Tokens.{token}
use Rattle.vdr_datagram.specs.declared.tokens.Token.{Token}
use Rattle.vdr_datagram.specs.declared.tokens.Token.TheVariants.{Image, Pcm}
use Rattle.vdr_image.specs.Headers.{Header}
use Rattle.vdr_image.specs.Images.{image_in}
use Rattle.vdr_image.specs.Tracks.{image_step, part_of}
use Rattle.vdr_image.specs.declared.part.Part.{Part}
use Rattle.vdr_image.specs.declared.step.ImageStep.{ImageStep}
use Rattle.vdr_pcm.specs.Datagrams.{pcm_in}
use Rattle.vdr_pcm.specs.Tracks.{number_of}
use Rattle.vdr_pcm.specs.declared.frame_number.FrameNumber.{FrameNumber}
use Rattle.vdr_play.specs.Streams.{Seen, image_text, pcm_text, image_words, latest, seen_under}
use Rattle.vdr_play.specs.Texts.{text_under}
use Rattle.vdr_play.specs.Verdicts.{indented}

abbrev seen_as : Option Part → Option FrameNumber → Seen
seen_as image pcm = record { image = image; pcm = pcm }

pub image_under : (seen : Seen) (image : Option Part) (pcm : Option FrameNumber) (payload : List ℕ) → Image ≡ token payload → seen_as image pcm ≡ seen
    → image_text image (image_in payload) ≡ text_under seen (token payload) payload
image_under seen image pcm payload is view = ap (λ (s : Seen). image_text s.image (image_in payload)) view ∙ ap (λ (t : Token). text_under seen t payload) is

pub image_seen : (seen : Seen) (image now : Option Part) (pcm : Option FrameNumber) (payload : List ℕ) → Image ≡ token payload → seen_as image pcm ≡ seen
    → now ≡ latest image (option_map part_of (image_in payload)) → seen_as now pcm ≡ seen_under seen (token payload) payload
image_seen seen image now pcm payload is view told =
    ap (λ (i : Option Part). seen_as i pcm) told
    ∙ ap (λ (s : Seen). record s { image = latest s.image (option_map part_of (image_in payload)) }) view
    ∙ ap (λ (t : Token). seen_under seen t payload) is

pub pcm_under : (seen : Seen) (image : Option Part) (pcm : Option FrameNumber) (payload : List ℕ) → Pcm ≡ token payload → seen_as image pcm ≡ seen
    → pcm_text pcm (pcm_in payload) ≡ text_under seen (token payload) payload
pcm_under seen image pcm payload is view = ap (λ (s : Seen). pcm_text s.pcm (pcm_in payload)) view ∙ ap (λ (t : Token). text_under seen t payload) is

pub pcm_seen : (seen : Seen) (image : Option Part) (pcm now : Option FrameNumber) (payload : List ℕ) → Pcm ≡ token payload → seen_as image pcm ≡ seen
    → now ≡ latest pcm (option_map number_of (pcm_in payload)) → seen_as image now ≡ seen_under seen (token payload) payload
pcm_seen seen image pcm now payload is view told =
    ap (λ (p : Option FrameNumber). seen_as image p) told
    ∙ ap (λ (s : Seen). record s { pcm = latest s.pcm (option_map number_of (pcm_in payload)) }) view
    ∙ ap (λ (t : Token). seen_under seen t payload) is

-- The line of a header that was read.
pub header_text : (last : Option Part) (read : Option Header) (h : Header) (how : ImageStep) → Some h ≡ read → how ≡ image_step last (part_of h)
    → indented (image_words h how) ≡ image_text last read
header_text last read h how is step = ap (λ (s : ImageStep). indented (image_words h s)) step ∙ ap (image_text last) is
