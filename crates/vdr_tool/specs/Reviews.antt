-- `review`, and `review D B`: a feed is read from the input to its end, and the review of its recording is printed (this project's
-- profile).
use Rattle.std.specs.Prelude.{◌≡◌, ◌⊎◌, ℕ, List, [], ◌∷◌, codes, decimal, Option, Some, None, IfSome, ⊤}
use Rattle.std.specs.Io.KnownBytes.{IsAtEnd}
use Rattle.vdr_terms.specs.Records.{FeedItem}
use Rattle.vdr_terms.specs.declared.rate.Rate.{Rate}
use Rattle.vdr_feed.specs.Feed.{IsFeed, IsRefused, longest_feed}
use Rattle.vdr_feed.specs.Reader.{IfKnown}
use Rattle.vdr_config.specs.Configuration.{IsRate}
use Rattle.vdr_review.specs.Review.{limit_asked, IfReviewed}
use Rattle.vdr_command.specs.Endings.{IsDone, IsRefusal, IsWorkDone}
use Rattle.vdr_command.specs.Outside.{InputFailed, NothingFailed, OutputFailed, Outside, Prints, PrintsFront}
use Rattle.vdr_command.specs.Promises.{Promise}
use Rattle.vdr_command.specs.StatusLine.{IfFeed}
use Rattle.vdr_command.specs.declared.status.Status.{Status}
use Rattle.vdr_command.specs.declared.status.Status.TheVariants.{Done, InputFault, OutputFault, NoMemory, Feed}

-- `review`, and with a rate the datagrams and the bytes of a second.
abbrev pub review_words : Option Rate → List (List ℕ)
review_words None = codes "review" ∷ []
review_words (Some rate) = codes "review" ∷ decimal rate.datagrams ∷ decimal rate.bytes ∷ []

-- The command ends so, and in no other way.
abbrev pub IsReviewStatus : Status → Type 0
IsReviewStatus Done = ⊤
IsReviewStatus InputFault = ⊤
IsReviewStatus OutputFault = ⊤
IsReviewStatus NoMemory = ⊤
IsReviewStatus (Feed number offset) = ⊤
IsReviewStatus status = ⊥

-- A feed is done, and what is none is refused by its own number and offset.
abbrev pub ReviewsAll : List ℕ → Status → Type 0
ReviewsAll bytes status =
    ((items : List FeedItem) → IsFeed longest_feed bytes items → IsDone status)
    × ((number offset : ℕ) → IsRefused longest_feed bytes number offset → IsRefusal number offset status)

-- What `review` owes.
pub record Reviews {tells tells_images : Type 0} (rate : Option Rate) (old new : Outside tells tells_images) (status : Status) : Type 0 where
  pub own : IsReviewStatus status
  -- all was done: the input was read to its end, and its review is printed
  pub done : status ≡ Done → IsAtEnd new.input.left × IfReviewed (limit_asked rate) old.input.left (λ text. Prints text old.output new.output)
  -- each refusal and failure comes only with its cause
  pub feed : IfFeed status (λ number offset. IfKnown old.input.left (λ bytes. IsRefused longest_feed bytes number offset))
  pub input : status ≡ InputFault → InputFailed old.input new.input
  pub output : status ≡ OutputFault → OutputFailed old.output new.output × IfReviewed (limit_asked rate) old.input.left (λ text. PrintsFront text old.output new.output)
  -- a status line stands alone
  pub silent : IsWorkDone status ⊎ (new.output ≡ old.output)
  -- nothing else comes in the place of a review, or of a refusal, but want of memory
  pub complete : NothingFailed old new → IfKnown old.input.left (λ bytes. ReviewsAll bytes status)

abbrev pub reviewing : Option Rate → Promise
reviewing rate = record {
  words = λ texts. texts ≡ review_words rate;
  legal = IfSome rate IsRate;
  reads_input = ⊤;
  uses_media = ⊥;
  owes = λ old new hears w status. Reviews rate old new status;
}
