-- Which channels the lines of a datagram are of.
use Rattle.std.proofs.Common.{◌≡◌, ℕ, Bool, true, false, not, ◌&&◌, ◌||◌, ◌==◌, List, [], ◌∷◌, refl, sym, ap, ap₂, ◌∙◌}
use Rattle.std.specs.Prelude.{bit_or, is_none}
use Rattle.std.specs.List.{list_any}
use Rattle.vdr_tag.specs.declared.bad.BadTag.{BadTag}
use Rattle.vdr_tag.specs.Values.{TagValues}
use Rattle.vdr_tag.specs.Views.{values_of}
use Rattle.vdr_tag.specs.declared.tags.Tags.{Tags}
use Rattle.vdr_sentence.specs.declared.sentence.Sentence.{Sentence as SentenceOf}
use Rattle.vdr_datagram.specs.declared.line.LineVerdict.{LineVerdict}
use Rattle.vdr_datagram.specs.declared.line.LineVerdict.TheVariants.{Good, Tag as IsTag, Sentence as IsSentence}
use Rattle.vdr_datagram.specs.Views.{verdict_of}
use Rattle.vdr_sentence.specs.declared.bad.Bad.{Bad}
use Rattle.vdr_config.specs.Configuration.{Selector, Selection}
use Rattle.vdr_config.specs.Configuration.Selection.{Sentence, Image, Pcm, Opaque}
use Rattle.vdr_image.specs.Images.{image_in}
use Rattle.vdr_pcm.specs.Datagrams.{pcm_in}
use Rattle.vdr_datagram.specs.declared.tokens.Token.{Token}
use Rattle.vdr_datagram.specs.declared.tokens.Token.TheVariants as tokens
use Rattle.vdr_datagram.specs.Tokens.{token}
use Rattle.vdr_datagram.specs.Verdicts.{LineReading, LineSpan, Tag, Sentence as Refused, line_spans}
use Rattle.vdr_datagram.specs.Channels.{bits_where, holds_sentences, is_frame_of, is_image_of, selects}
use Rattle.vdr_datagram.specs.Marks.{takes_line}
use Rattle.vdr_datagram.proofs.TokenLemmas.{no_frame-of_sentences, no_image-of_sentences}
use Rattle.vdr_datagram.proofs.BitLemmas.{bits_same, bits_none, bits_or}

and_false : (a : Bool) → (a && false) ≡ false
and_false true = refl
and_false false = refl

takes_no_tag : (bad : BadTag) (kind : Selection) → takes_line (Tag bad) kind ≡ false
takes_no_tag bad (Sentence formatter source) = refl
takes_no_tag bad (Image source) = refl
takes_no_tag bad (Pcm microphone) = refl
takes_no_tag bad Opaque = refl

takes_no_refused : (tags : TagValues) (bad : Bad) (kind : Selection) → takes_line (Refused tags bad) kind ≡ false
takes_no_refused tags bad (Sentence formatter source) = refl
takes_no_refused tags bad (Image source) = refl
takes_no_refused tags bad (Pcm microphone) = refl
takes_no_refused tags bad Opaque = refl

no_bits : (line : LineReading) → ((kind : Selection) → takes_line line kind ≡ false) → (group : ℕ) (channels : List Selector)
    → 0 ≡ bits_where (λ c. (c.group == group) && takes_line line c.kind) channels
no_bits line none group channels =
    sym (bits_same _ (λ c. false) (λ c. ap (λ (b : Bool). (c.group == group) && b) (none c.kind) ∙ and_false (c.group == group)) channels ∙ bits_none channels)

-- a refused line is of no channel
pub no_bits_of_refusal : (line : LineVerdict) → ((tags : Tags) (sentence : SentenceOf) → line ≡ Good tags sentence → ⊥) → (group : ℕ) (channels : List Selector)
    → 0 ≡ bits_where (λ c. (c.group == group) && takes_line (verdict_of line) c.kind) channels
no_bits_of_refusal (Good tags sentence) other group channels = absurd (other tags sentence refl)
no_bits_of_refusal (IsTag bad) other group channels = no_bits (Tag bad) (takes_no_tag bad) group channels
no_bits_of_refusal (IsSentence tags bad) other group channels = no_bits (Refused (values_of tags) bad) (takes_no_refused (values_of tags) bad) group channels

-- a channel of the group takes one of these lines
abbrev pub takes_one : (group : ℕ) → List LineSpan → Selector → Bool
takes_one group lines c = (c.group == group) && list_any (λ line. takes_line line.verdict c.kind) lines

-- The bits of the channels that take one of the lines that were read, when some are left.
pub record HasBits (group bits : ℕ) (channels : List Selector) (all left : List LineSpan) : Type 0 where
  pub before : Selector → Bool
  pub is : bits ≡ bits_where before channels
  pub whole : (c : Selector) → (before c || takes_one group left c) ≡ takes_one group all c

pub bits_begin : (group : ℕ) (channels : List Selector) (all left : List LineSpan) → left ≡ all → HasBits group 0 channels all left
bits_begin group channels all left same = record {
  before = λ c. false;
  is = sym (bits_none channels);
  whole = λ c. ap (λ (lines : List LineSpan). takes_one group lines c) same;
}

or_later : (before mine first later : Bool) → ((before || (mine && first)) || (mine && later)) ≡ (before || (mine && (first || later)))
or_later true mine first later = refl
or_later false true first later = refl
or_later false false first later = refl

pub bits_next : (group bits n : ℕ) (channels : List Selector) (all left later : List LineSpan) (line : LineSpan) → HasBits group bits channels all left → left ≡ line ∷ later
    → n ≡ bits_where (λ c. (c.group == group) && takes_line line.verdict c.kind) channels → HasBits group (bit_or bits n) channels all later
bits_next group bits n channels all left later line has split is = record {
  before = λ c. has.before c || ((c.group == group) && takes_line line.verdict c.kind);
  is = ap₂ bit_or has.is is ∙ bits_or has.before (λ c. (c.group == group) && takes_line line.verdict c.kind) channels;
  whole = λ c. or_later (has.before c) (c.group == group) (takes_line line.verdict c.kind) (list_any (λ line. takes_line line.verdict c.kind) later)
      ∙ ap (λ (lines : List LineSpan). has.before c || takes_one group lines c) (sym split) ∙ has.whole c;
}

or_false : (a b : Bool) → a ≡ (a || (b && false))
or_false true b = refl
or_false false true = refl
or_false false false = refl

pub bits_end : (group bits : ℕ) (channels : List Selector) (all left : List LineSpan) → HasBits group bits channels all left → left ≡ [] → bits ≡ bits_where (takes_one group all) channels
bits_end group bits channels all left has done =
    has.is ∙ bits_same has.before (takes_one group all)
    (λ c. or_false (has.before c) (c.group == group) ∙ ap (λ (lines : List LineSpan). has.before c || takes_one group lines c) (sym done) ∙ has.whole c) channels

none_taken : (lines : List LineSpan) → list_any (λ line. false) lines ≡ false
none_taken [] = refl
none_taken (line ∷ lines) = none_taken lines

-- a sentence datagram is selected for its lines alone
selected_for_lines : (kind : Selection) (bytes : List ℕ) → token bytes ≡ tokens.Sentences
    → list_any (λ line. takes_line line.verdict kind) (line_spans bytes) ≡ selects kind bytes
selected_for_lines (Sentence formatter source) bytes sentences = refl
selected_for_lines (Image source) bytes sentences = none_taken (line_spans bytes) ∙ ap (is_image_of source) (sym (no_image-of_sentences bytes sentences))
selected_for_lines (Pcm microphone) bytes sentences = none_taken (line_spans bytes) ∙ ap (is_frame_of microphone) (sym (no_frame-of_sentences bytes sentences))
selected_for_lines Opaque bytes sentences =
    none_taken (line_spans bytes) ∙ ap (λ (kind : Token). not (holds_sentences kind) && is_none (image_in bytes) && is_none (pcm_in bytes)) (sym sentences)

-- the bits of a sentence datagram
pub bits_of_sentences : (group : ℕ) (bytes : List ℕ) (channels : List Selector) → token bytes ≡ tokens.Sentences
    → bits_where (λ c. (c.group == group) && list_any (λ line. takes_line line.verdict c.kind) (line_spans bytes)) channels
    ≡ bits_where (λ c. (c.group == group) && selects c.kind bytes) channels
bits_of_sentences group bytes channels sentences =
    bits_same _ _ (λ c. ap (λ (b : Bool). (c.group == group) && b) (selected_for_lines c.kind bytes sentences)) channels

-- the bits of any other, whose mark is shown
pub bits_of_others : (group : ℕ) (bytes : List ℕ) (shown : Selection → Bool) (channels : List Selector) → ((kind : Selection) → shown kind ≡ selects kind bytes)
    → bits_where (λ c. (c.group == group) && shown c.kind) channels ≡ bits_where (λ c. (c.group == group) && selects c.kind bytes) channels
bits_of_others group bytes shown channels same =
    bits_same _ _ (λ c. ap (λ (b : Bool). (c.group == group) && b) (same c.kind)) channels
