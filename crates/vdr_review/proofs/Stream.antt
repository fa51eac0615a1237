-- What a reader that stands in a feed says of the whole input.
use Rattle.std.proofs.Common.{◌≡◌, ◌≢◌, inl, inr, ℕ, List, ◌++◌, take, Option, None, Some, ap, ◌∙◌}
use Rattle.std.specs.Io.KnownBytes.{IsAtEnd}
use Rattle.vdr_terms.specs.Rates.{Limit}
use Rattle.vdr_terms.specs.Records.{FeedItem}
use Rattle.vdr_feed.specs.Feed.{feed, feed_header, fault_of, IsRefused, longest_feed}
use Rattle.vdr_feed.specs.Reader.{Reading, IfKnown}
use Rattle.vdr_feed.specs.Progress.{HasRead}
use Rattle.vdr_feed.proofs.Progress.{refused_behind}
use Rattle.vdr_review.specs.Review.{IfReviewed, review_text}

-- at the end of the input the bytes are a feed of the items
pub reviews : (limit : Limit) (first now : Option (List ℕ)) (r : Reading) (items : List FeedItem) (P : List ℕ → Type 0) → HasRead first now r items → IsAtEnd now → P (review_text limit items) → IfReviewed limit first P
reviews limit None now r items P s end p = tt
reviews limit (Some bytes) None r items P s end p = absurd s.read
reviews limit (Some bytes) (Some rest) r items P s end p =
    (items, record { spelled = s.read ∙ ap (λ (t : List ℕ). feed items ++ t) end; legal = s.legal; few = s.few }, p)

-- a refusal is that of the whole input
pub refuses : (first now : Option (List ℕ)) (r : Reading) (items : List FeedItem) (number offset : ℕ) → HasRead first now r items → offset ≡ r.offset
    → IfKnown now (λ bytes. fault_of r.limit r.count r.floor bytes ≡ Some number) → IfKnown first (λ bytes. IsRefused longest_feed bytes number offset)
refuses None now r items number offset s at fault = tt
refuses (Some bytes) None r items number offset s at fault = absurd s.read
refuses (Some bytes) (Some rest) r items number offset s at fault = inr (items, rest, refused_behind bytes rest r items number offset s at fault)

pub refuses_header : (first : Option (List ℕ)) (number offset : ℕ) → (number ≡ 1) × (offset ≡ 0) × IfKnown first (λ bytes. take 8 bytes ≢ feed_header)
    → IfKnown first (λ bytes. IsRefused longest_feed bytes number offset)
refuses_header None number offset p = tt
refuses_header (Some bytes) number offset p = inl (p.2, p.0, p.1)
