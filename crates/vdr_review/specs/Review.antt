-- What `review` prints of a feed (this project's profile).
use Rattle.std.specs.Prelude.{ℕ, ◌+◌, ◌≤◌, ◌≡◌, Bool, true, false, List, [], ◌∷◌, filter, Option, None, Some}
use Rattle.vdr_terms.specs.Records.{Record, FeedItem, has_items, second}
use Rattle.vdr_terms.specs.Rates.{Limit}
use Rattle.vdr_terms.specs.Rates.Limit.{Unlimited, AtMost}
use Rattle.vdr_terms.specs.declared.rate.Rate.{Rate}
use Rattle.vdr_terms.specs.Channels.{no_channels}
use Rattle.vdr_terms.specs.Windows.{window, in_window}
use Rattle.vdr_core.specs.Runs.{RunStart}
use Rattle.vdr_core.specs.Feed.{feed_records}
use Rattle.vdr_play.specs.Streams.{nothing_seen}
use Rattle.vdr_play.specs.Texts.{records_text}
use Rattle.vdr_feed.specs.Feed.{IsFeed, longest_feed}
use Rattle.vdr_feed.specs.Reader.{IfKnown}

-- The window of a review: 48 hours, as the fixed medium keeps them (IEC 61996-1).
abbrev pub review_seconds : ℕ
review_seconds = 172_800

-- The limit of each group: there is none where no rate is asked for.
abbrev pub limit_asked : Option Rate → Limit
limit_asked None = Unlimited
limit_asked (Some rate) = AtMost rate

-- A review begins with nothing recorded, and has no channels. Each group has the same limit.
abbrev pub review_start : Limit → RunStart
review_start limit = record { limits = λ g. limit; channels = no_channels; place = 0; last = None }

-- The Datagrams and Gaps in the window of the feed's history.
unfoldable pub reviewed : Limit → List FeedItem → List Record
reviewed limit items = filter (λ r. has_items r.content) (window review_seconds (feed_records (review_start limit) items))

-- There is a first one, of which this holds.
abbrev pub OnFirst : {A : Type 0} → (A → Type 0) → List A → Type 0
OnFirst P [] = ⊥
OnFirst P (x ∷ xs) = P x

-- The first record was so old and went, or all stayed.
abbrev pub PopsOld : ℕ → Bool → List Record → List Record → Type 0
PopsOld last true old new = (r : Record) × (old ≡ r ∷ new) × (second r.tick + review_seconds ≤ last)
PopsOld last false old new = new ≡ old

-- What `review` prints. Its tracks step over these records alone.
unfoldable pub review_text : Limit → List FeedItem → List ℕ
review_text limit items = records_text nothing_seen (reviewed limit items)

-- The bytes, where they are known, are a feed, and P holds of what `review` prints of it by this limit.
abbrev pub IfReviewed : Limit → Option (List ℕ) → (List ℕ → Type 0) → Type 0
IfReviewed limit left P = IfKnown left (λ bytes. (items : List FeedItem) × IsFeed longest_feed bytes items × P (review_text limit items))

-- The records of a window that ends in this second.
abbrev pub shown_records : ℕ → List Record → List Record
shown_records last records = filter (λ r. in_window (second r.tick) last review_seconds) records
