-- What a review prints.
use Rattle.std.specs.Prelude.{ℕ, List}
use Rattle.vdr_play.specs.Streams.{nothing_seen}
use Rattle.vdr_play.specs.Texts.{records_text}
use Rattle.vdr_review.specs.declared.window.Review.{Review}
use Rattle.vdr_review.specs.Review.{shown_records}

abbrev pub printed : Review → List ℕ
printed review = records_text nothing_seen (shown_records review.last review.window)
