use Rattle.std.proofs.Common.{◌≡◌, ◌≤◌, ◌-◌, ◌∙◌, List, ℕ, min, drop, length, arith, sym}
use Rattle.std.specs.List.{flat_map}
use Rattle.vdr_feed.specs.Feed.{spelling}
use Rattle.vdr_feed.specs.Generated.{items_from}
use Rattle.vdr_outside.proofs.Pieces.{count_is}
use Rattle.vdr_feed.proofs.Left.{gave, gave_none}
use Rattle.vdr_feed.proofs.trial_source.GeneratedFeedSource.read.Goals as goal

pub returns-clause-bytes : goal.returns-clause-bytes
returns-clause-bytes c =
    let s = c.refill.new.s in
    let n = c.min-count.result in
    let tail : List ℕ = flat_map spelling (items_from (s.count - s.index) s.state s.index) in
    let count : n ≡ min (length c.args.into.now) (length (drop s.given s.piece.items)) =
    count_is s.piece.items c.as_slice.result.now s.given (length c.args.into.now) n c.as_slice.ensures.value c.min-count.ensures in
    let within : n ≤ length (drop s.given s.piece.items) = omega (arith, count) in (
      sym c.self.view_is ∙ sym c.refill.ensures.left
          ∙ gave s.piece.items c.as_slice.result.now c.copy_from_slice.new.self (drop n c.args.into.now) tail s.given n within c.as_slice.ensures.value c.copy_from_slice.ensures.after,
      λ none room. gave_none s.piece.items c.args.into.now c.copy_from_slice.new.self tail s.given n count c.copy_from_slice.ensures.len none room c.refill.ensures.ready,
    )
