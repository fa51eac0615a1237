-- What a datagram that is no sentence datagram shows, and which channels select it.
use Rattle.std.proofs.Common.{◌≡◌, ℕ, Bool, true, false, not, ◌&&◌, List, Some, None, refl, sym, ap}
use Rattle.std.specs.Prelude.{is_none}
use Rattle.std.specs.List.{list_any}
use Rattle.std.proofs.lemmas.Bool.{and_from, and_left, and_right}
use Rattle.vdr_config.specs.Configuration.{Selection}
use Rattle.vdr_config.specs.Configuration.Selection.{Sentence, Image, Pcm, Opaque}
use Rattle.vdr_image.specs.Headers.{Header}
use Rattle.vdr_image.specs.Images.{image_in}
use Rattle.vdr_pcm.specs.Frames.{Frame}
use Rattle.vdr_pcm.specs.Datagrams.{pcm_in}
use Rattle.vdr_datagram.specs.declared.tokens.Token.{Token}
use Rattle.vdr_datagram.specs.declared.tokens.Token.TheVariants as tokens
use Rattle.vdr_datagram.specs.Tokens.{token}
use Rattle.vdr_datagram.specs.Verdicts.{LineSpan, line_spans}
use Rattle.vdr_datagram.specs.Channels.{holds_sentences, is_frame_of, is_image_of, is_line_of, selects}
use Rattle.vdr_datagram.specs.Marks.{is_opaque, of_frame, of_image}
use Rattle.vdr_datagram.proofs.TokenLemmas.{no_frame-of_image, no_spans}

-- none of its lines is asked for, since it has none
no_line : (passes : LineSpan → Bool) (bytes : List ℕ) → (token bytes ≡ tokens.Sentences → ⊥) → false ≡ list_any passes (line_spans bytes)
no_line passes bytes other = ap (list_any passes) (sym (no_spans (token bytes) bytes other))

no_sentences : (kind : Token) → (kind ≡ tokens.Sentences → ⊥) → not (holds_sentences kind) ≡ true
no_sentences tokens.Sentences other = absurd (other refl)
no_sentences tokens.Image other = refl
no_sentences tokens.Pcm other = refl
no_sentences tokens.Other other = refl
no_sentences tokens.NoToken other = refl

pub image_shown : (bytes : List ℕ) (h : Header) → Some h ≡ image_in bytes → (token bytes ≡ tokens.Sentences → ⊥) → (kind : Selection) → of_image h.source kind ≡ selects kind bytes
image_shown bytes h is other (Sentence formatter source) = no_line (λ line. is_line_of formatter source line.verdict) bytes other
image_shown bytes h is other (Image source) = ap (is_image_of source) is
image_shown bytes h is other (Pcm microphone) = ap (is_frame_of microphone) (sym (no_frame-of_image bytes h (sym is)))
image_shown bytes h is other Opaque =
    sym (and_left (not (holds_sentences (token bytes)) && is_none (image_in bytes)) (is_none (pcm_in bytes)) (and_right (not (holds_sentences (token bytes))) (is_none (image_in bytes)) (ap is_none (sym is))))

pub frame_shown : (bytes : List ℕ) (f : Frame) → None ≡ image_in bytes → Some f ≡ pcm_in bytes → (token bytes ≡ tokens.Sentences → ⊥)
    → (kind : Selection) → of_frame f.microphone kind ≡ selects kind bytes
frame_shown bytes f no_image is other (Sentence formatter source) = no_line (λ line. is_line_of formatter source line.verdict) bytes other
frame_shown bytes f no_image is other (Image source) = ap (is_image_of source) no_image
frame_shown bytes f no_image is other (Pcm microphone) = ap (is_frame_of microphone) is
frame_shown bytes f no_image is other Opaque =
    sym (and_right (not (holds_sentences (token bytes)) && is_none (image_in bytes)) (is_none (pcm_in bytes)) (ap is_none (sym is)))

pub opaque_shown : (bytes : List ℕ) → None ≡ image_in bytes → None ≡ pcm_in bytes → (token bytes ≡ tokens.Sentences → ⊥) → (kind : Selection) → is_opaque kind ≡ selects kind bytes
opaque_shown bytes no_image no_frame other (Sentence formatter source) = no_line (λ line. is_line_of formatter source line.verdict) bytes other
opaque_shown bytes no_image no_frame other (Image source) = ap (is_image_of source) no_image
opaque_shown bytes no_image no_frame other (Pcm microphone) = ap (is_frame_of microphone) no_frame
opaque_shown bytes no_image no_frame other Opaque =
    sym (and_from (not (holds_sentences (token bytes)) && is_none (image_in bytes)) (is_none (pcm_in bytes))
    (and_from (not (holds_sentences (token bytes))) (is_none (image_in bytes)) (no_sentences (token bytes) other) (ap is_none (sym no_image))) (ap is_none (sym no_frame)))
