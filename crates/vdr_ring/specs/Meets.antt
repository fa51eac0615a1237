-- What a ring knows of the segments that may have a record that a query selects.
use Rattle.std.specs.Prelude.{◌≡◌, ℕ, true, List, Option}
use Rattle.vdr_terms.specs.Queries.{Query, Span, meets}
use Rattle.vdr_index.specs.declared.known.Known.{Known}
use Rattle.vdr_index.specs.Indexes.{Keeps, summary_of}

-- The slot has a segment of this sequence number, and what is known of it meets the query.
pub record IsKnownToMeet (query : Query) (span : Span) (index : List (Option Known)) (slot seq : ℕ) : Type 0 where
  pub known : Known
  pub there : Keeps index slot known
  pub number : known.seq ≡ seq
  pub meets_it : meets query span (summary_of known) ≡ true

-- No two segments that an index keeps have one sequence number.
abbrev pub AreApart : List (Option Known) → Type 0
AreApart index = (i j : ℕ) (a b : Known) → Keeps index i a → Keeps index j b → a.seq ≡ b.seq → i ≡ j
