-- Which records are selected, and how others are passed by.
use Rattle.std.specs.Prelude.{◌≡◌, ◌≤◌, ◌↔◌, ℕ, Bool, true, false, List, ◌∷◌, ◌++◌, All, ◌&&◌}
use Rattle.vdr_terms.specs.Records.{Record}
use Rattle.vdr_terms.specs.Records.Content.{Start}
use Rattle.vdr_terms.specs.Sizes.{record_size}
use Rattle.vdr_terms.specs.Queries.{in_span, matches}
use Rattle.vdr_entry.specs.Queries.{asked}
use Rattle.vdr_index.specs.Indexes.{span_as}
use Rattle.vdr_index.specs.declared.head.Head.{Head}
use Rattle.vdr_index.specs.declared.position.Position.{Position}
use Rattle.vdr_index.specs.declared.selection.Selection.{Selection}
use Rattle.vdr_index.specs.Positions.{IsAt, HasAhead, IsBrokenAt}

-- The record is of the span, and the query selects it.
abbrev pub is_selected : Selection → Record → Bool
is_selected s r = in_span (span_as s.span) r && matches (asked s.query) r

-- The head of a record, and a record with this head. No public clause cites them.
abbrev pub head_of : Record → Head
head_of r = record { bits = r.bits; place = r.place; tick = r.tick; utc = r.utc; size = record_size r }

abbrev pub shown : Head → Record
shown h = record { content = Start; group = 255; bits = h.bits; place = h.place; number = 0; tick = h.tick; utc = h.utc }

-- From one position to the next, over records of which none is selected: they are the first of those ahead, and the others are
-- ahead of the next position. No batch is passed by that is not legal.
pub record Passes (segment : List ℕ) (selection : Selection) (p next : Position) : Type 0 where
  pub stands : IsAt segment next
  pub onward : p.at ≤ next.at
  pub passed : List Record
  pub none : All (λ r. is_selected selection r ≡ false) passed
  pub ahead : (records : List Record) → HasAhead segment p records ↔ ((more : List Record) × (records ≡ passed ++ more) × HasAhead segment next more)
  pub whole : IsBrokenAt segment p → next ≡ p

-- The first record ahead, if there is one, is selected.
abbrev pub StartsSelected : (segment : List ℕ) → Selection → Position → Type 0
StartsSelected segment selection p = (r : Record) (more : List Record) → HasAhead segment p (r ∷ more) → is_selected selection r ≡ true
