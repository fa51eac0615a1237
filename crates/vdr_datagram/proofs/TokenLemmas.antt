-- Tokens, and which datagrams have lines.
use Rattle.std.proofs.Common.{◌≡◌, ◌≤◌, ◌||◌, inl, inr, ℕ, true, false, List, [], ◌∷◌, ◌++◌, length, take, Option, Some, None, refl, sym, ap, ◌∙◌}
use Rattle.std.specs.Prelude.{codes, nat_eq}
use Rattle.std.specs.List.{starts_with}
use Rattle.std.specs.Cmp.Lexicographic.{pointwise}
use Rattle.std.proofs.lemmas.Bool.{and_parts, cond-false, cond-true, or_cases}
use Rattle.std.proofs.lemmas.Option.{cond_some}
use Rattle.std.proofs.lemmas.Slice.Eq.{bytes_eq-Decides}
use Rattle.vdr_image.specs.Headers.{Header}
use Rattle.vdr_image.specs.Images.{has_image_token, header_at, image_in, is_image}
use Rattle.vdr_pcm.specs.Frames.{Frame}
use Rattle.vdr_pcm.specs.Datagrams.{frame_at, is_pcm, pcm_in}
use Rattle.vdr_datagram.specs.declared.tokens.Token.{Token}
use Rattle.vdr_datagram.specs.declared.tokens.Token.TheVariants.{Sentences, Image, Pcm, Other, NoToken}
use Rattle.vdr_datagram.specs.Tokens.{begins, token}
use Rattle.vdr_datagram.specs.Verdicts.{spans_under}

-- only a sentence datagram has lines
pub no_spans : (kind : Token) (bytes : List ℕ) → (kind ≡ Sentences → ⊥) → spans_under kind bytes ≡ []
no_spans Sentences bytes other = absurd (other refl)
no_spans Image bytes other = refl
no_spans Pcm bytes other = refl
no_spans Other bytes other = refl
no_spans NoToken bytes other = refl

-- An image datagram and a PCM frame have their token

-- bytes that begin with a text have it at their front
front_is : (text bytes : List ℕ) → starts_with nat_eq bytes text ≡ true → take (length text) bytes ≡ text
front_is text bytes h = sym ((bytes_eq-Decides text (take (length text) bytes)).0 h)

no_sentences : (text bytes : List ℕ) → take 6 bytes ≡ text → pointwise nat_eq (codes "UdPbC" ++ 0 ∷ []) text ≡ false → begins (codes "UdPbC") bytes ≡ false
no_sentences text bytes front other = ap (λ (xs : List ℕ). pointwise nat_eq (codes "UdPbC" ++ 0 ∷ []) xs) front ∙ other

pub token-of_image : (bytes : List ℕ) (h : Header) → image_in bytes ≡ Some h → token bytes ≡ Image
unfolding image_in
token-of_image bytes h e =
    let met = (cond_some (is_image bytes) (header_at bytes) h e).0 in
    let begun : has_image_token bytes ≡ true = (and_parts _ _ (and_parts _ _ (and_parts _ _ met).0).0).1 in
    let other : begins (codes "UdPbC") bytes ≡ false = elim (or_cases (begins (codes "RaUdP") bytes) (begins (codes "RrUdP") bytes) begun) [
      | inl a ↦ no_sentences _ bytes (front_is (codes "RaUdP" ++ 0 ∷ []) bytes a) refl
      | inr b ↦ no_sentences _ bytes (front_is (codes "RrUdP" ++ 0 ∷ []) bytes b) refl
    ] in
    cond-false (begins (codes "UdPbC") bytes) Sentences _ other ∙ cond-true (has_image_token bytes) Image _ begun

pub token-of_frame : (bytes : List ℕ) (f : Frame) → pcm_in bytes ≡ Some f → token bytes ≡ Pcm
unfolding pcm_in
token-of_frame bytes f e =
    let met = (cond_some (is_pcm bytes) (frame_at bytes) f e).0 in
    let begun : begins (codes "PcmFr") bytes ≡ true = (and_parts _ _ (and_parts _ _ met).0).0 in
    let front : take 6 bytes ≡ codes "PcmFr" ++ 0 ∷ [] = front_is (codes "PcmFr" ++ 0 ∷ []) bytes begun in
    let no_image : has_image_token bytes ≡ false =
    ap (λ (xs : List ℕ). pointwise nat_eq (codes "RaUdP" ++ 0 ∷ []) xs || pointwise nat_eq (codes "RrUdP" ++ 0 ∷ []) xs) front in
    cond-false (begins (codes "UdPbC") bytes) Sentences _ (no_sentences _ bytes front refl)
    ∙ cond-false (has_image_token bytes) Image _ no_image ∙ cond-true (begins (codes "PcmFr") bytes) Pcm _ begun

-- So it is of no other kind

none_from : {A : Type 0} (o : Option A) → ((x : A) → o ≡ Some x → ⊥) → o ≡ None
none_from None never = refl
none_from (Some x) never = absurd (never x refl)

apart : (kind : Token) → kind ≡ Image → kind ≡ Sentences → ⊥
apart kind image sentences = cc

frame_apart : (kind : Token) → kind ≡ Pcm → (kind ≡ Sentences → ⊥) × (kind ≡ Image → ⊥)
frame_apart kind pcm = ((λ sentences. (cc)), (λ image. (cc)))

pub no_image-of_sentences : (bytes : List ℕ) → token bytes ≡ Sentences → image_in bytes ≡ None
no_image-of_sentences bytes sentences = none_from (image_in bytes) (λ h e. apart (token bytes) (token-of_image bytes h e) sentences)

pub no_frame-of_sentences : (bytes : List ℕ) → token bytes ≡ Sentences → pcm_in bytes ≡ None
no_frame-of_sentences bytes sentences = none_from (pcm_in bytes) (λ f e. (frame_apart (token bytes) (token-of_frame bytes f e)).0 sentences)

pub no_frame-of_image : (bytes : List ℕ) (h : Header) → image_in bytes ≡ Some h → pcm_in bytes ≡ None
no_frame-of_image bytes h image = none_from (pcm_in bytes) (λ f e. (frame_apart (token bytes) (token-of_frame bytes f e)).1 (token-of_image bytes h image))
