use Rattle.std.proofs.Common.{rules, ◌≡◌, ◌∙◌, ℕ, Bool, true, false, List, [], ◌∷◌, ◌++◌, Option, ap}
use Rattle.std.specs.Io.KnownBytes.{IsAtEnd}
use Rattle.vdr_terms.specs.Records.{FeedItem, Record}
use Rattle.vdr_terms.specs.Rates.{Limit}
use Rattle.vdr_play.specs.Streams.{nothing_seen}
use Rattle.vdr_play.specs.Texts.{records_text}
use Rattle.vdr_feed.specs.Kept.{Holds}
use Rattle.vdr_feed.specs.Reader.{Reading, GivesItem}
use Rattle.vdr_feed.specs.declared.item.Item.{Item as Held}
use Rattle.vdr_run.proofs.Given.{gave_true}
use Rattle.vdr_review.specs.Review.{IfReviewed, limit_asked, reviewed, review_text}
use Rattle.vdr_review.specs.Walks.{Tells}
use Rattle.vdr_review.specs.declared.walk.Walk.{Walk}
use Rattle.vdr_feed.specs.Progress.{HasRead}
use Rattle.vdr_feed.proofs.Progress.{read_first, read_next}
use Rattle.vdr_review.proofs.Stream.{reviews}
use Rattle.vdr_review.proofs.reading.review.Goals as goal

-- the walk has met the items that the reader has read
abbrev Walked : Limit → Option (List ℕ) → Option (List ℕ) → Reading → Walk → Type 0
Walked limit first now r walk = (feed : List FeedItem) × HasRead first now r feed × Tells limit walk feed

more : (limit : Limit) (first before now : Option (List ℕ)) (r r' : Reading) (held : Held) (w w' : Walk) → Walked limit first before r w → GivesItem before now r r' held true
    → ((l : Limit) (feed : List FeedItem) (x : FeedItem) → Tells l w feed → Holds held x → Tells l w' (feed ++ x ∷ []))
    → Walked limit first now r' w'
more limit first before now r r' held w w' p i add = (
  p.0 ++ i.0 ∷ [],
  read_next first before now r r' held p.0 i.0 p.1 i.1 i.2,
  add limit p.0 i.0 p.2 i.1.holds,
)

gave_false : (before now : Option (List ℕ)) (r r' : Reading) (held : Held) (b : Bool) → b ≡ false → GivesItem before now r r' held b → GivesItem before now r r' held false
gave_false before now r r' held false is p = p
gave_false before now r r' held true is p = let none : ⊥ = cc in absurd none

ends : (limit : Limit) (first before now : Option (List ℕ)) (r r' : Reading) (held : Held) (w : Walk) (records : List Record) → Walked limit first before r w → GivesItem before now r r' held false
    → ((l : Limit) (feed : List FeedItem) → Tells l w feed → records ≡ reviewed l feed)
    → IsAtEnd now × IfReviewed limit first (λ text. records_text nothing_seen records ≡ text)
unfolding review_text
ends limit first before now r r' held w records p e told =
    (e.1, reviews limit first before r p.0 (λ text. records_text nothing_seen records ≡ text) p.1 e.0 (ap (records_text nothing_seen) (told limit p.0 p.2)))

pub loop-item-init : goal.loop-item-init
loop-item-init g c = record {
  walked = ([], read_first _ _ _ c.in-Ok.ensures.bytes (c.in-Ok.ensures.ready ∙ search rules), c.in-Ok-new.ensures);
  later = search rules;
}

pub loop-item-preserved : goal.loop-item-preserved
loop-item-preserved g c =
    let gave = gave_true _ _ _ _ _ c.in-Ok-true.field-0 c.in-Ok-true.field-0-test c.in-Ok-true.ensures.gave.1 in
    record { walked = more (limit_asked c.args.rate) _ _ _ _ _ _ _ _ c.loop-item.invariant.walked gave c.in-Ok-add.ensures; later = search rules }

pub returns-in-Ok-false-clause-text : goal.returns-in-Ok-false-clause-text
returns-in-Ok-false-clause-text g c =
    ends (limit_asked c.args.rate) _ _ _ _ _ c.item.new.into _ _ c.loop-item.invariant.walked (gave_false _ _ _ _ _ c.in-Ok-false.field-0 c.in-Ok-false.field-0-test c.in-Ok-false.ensures.gave.1) c.in-Ok-finish.ensures
