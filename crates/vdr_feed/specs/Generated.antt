-- The generated feed (this project's profile): so many items from a seed on.
use Rattle.std.specs.Prelude.{◌≤◌, ℕ, zero, suc, ◌+◌, ◌-◌, List, [], ◌∷◌, ◌++◌, drop, length}
use Rattle.std.specs.List.{flat_map}
use Rattle.vdr_terms.specs.Records.{FeedItem}
use Rattle.vdr_feed.specs.Feed.{feed, spelling}
use Rattle.vdr_feed.specs.Trial.{trial_item, trial_state}
use Rattle.vdr_feed.specs.declared.trial_source.Spelled.{Spelled}

-- So many items from this index on, where the state is the one before it.
abbrev pub items_from : (count state index : ℕ) → List FeedItem
items_from zero state index = []
items_from (suc count) state index = trial_item (trial_state state) index ∷ items_from count (trial_state state) (index + 1)

abbrev pub generated_feed : (seed count : ℕ) → List ℕ
generated_feed seed count = feed (items_from count seed 0)

-- What is left of it: of what was spelled last, and the items behind that.
abbrev pub left_of : Spelled → List ℕ
left_of s = drop s.given s.piece.items ++ flat_map spelling (items_from (s.count - s.index) s.state s.index)

pub record IsSpelled (s : Spelled) : Type 0 where
  pub given : s.given ≤ length s.piece.items
  pub index : s.index ≤ s.count
  pub count : s.count ≤ 1_000_000
