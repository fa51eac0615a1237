-- What a directory tells of segments as opening knows them (this project's profile).
use Rattle.std.specs.Prelude.{◌≡◌, ◌≢◌, ◌<◌, ◌≤◌, ℕ, List, [], ◌∷◌, length, get_or, option_map, All, Any, Option, Some, None, ⊤}
use Rattle.vdr_terms.specs.Records.{last}
use Rattle.vdr_index.specs.Extents.{extent_of}
use Rattle.vdr_index.specs.declared.known.Known.{Known}
use Rattle.vdr_directory.specs.Sequence.{Placed, seq_of, first_of, batches_in}
use Rattle.vdr_directory.specs.Knowns.{HasNoneBy, next_known}
use Rattle.vdr_directory.specs.Indexed.{StandsFor}
use Rattle.vdr_directory.specs.Directories.{DirectoryState, newest_of, ending_by}

-- This is known of a segment that has records, as far as opening knows it.
pub record IsKnownBy (p : Placed) (k : Known) : Type 0 where
  pub seq : k.seq ≡ seq_of p
  pub first : k.first ≡ first_of p
  pub some : HasNoneBy p → ⊥
  pub summary : StandsFor p.segment.header.summary p k.summary

-- Of a segment without records nothing is known.
abbrev pub IsKnownAsBy : Placed → Option Known → Type 0
IsKnownAsBy p None = HasNoneBy p
IsKnownAsBy p (Some k) = IsKnownBy p k

-- The index keeps of each of these segments, in its slot, what is known of it; all other slots are clear.
pub record IsIndexedBy (count : ℕ) (known : List Placed) (index : List (Option Known)) : Type 0 where
  pub size : length index ≡ count
  pub kept : All (λ p. IsKnownAsBy p (get_or index p.slot None)) known
  pub clear : (j : ℕ) → All (λ p. p.slot ≢ j) known → get_or index j None ≡ None

-- The directory tells of segments that opening knows so: its index knows of each, and it keeps the newest of them and the end of their
-- records. The last record is never in a segment that has a summary, so that is among those that were read.
pub record TellsBy (count : ℕ) (known : List Placed) (directory : DirectoryState) : Type 0 where
  pub index : IsIndexedBy count known directory.index
  pub newest : directory.newest ≡ option_map newest_of (last known)
  pub ending : directory.ending ≡ option_map ending_by (extent_of (batches_in known))

-- By what is known of it, the place stands in the segment.
pub record HasPlaceBy (place : ℕ) (p : Placed) : Type 0 where
  pub from : first_of p ≤ place
  pub below : place < next_known p

-- All places from a to b stand in these segments, by what is known of them.
abbrev pub HoldAllBy : (a b : ℕ) → List Placed → Type 0
HoldAllBy a b known = (place : ℕ) → a ≤ place → place ≤ b → Any (HasPlaceBy place) known

-- q comes before p, with all its places, by what is known of it.
abbrev pub IsEarlierBy : Placed → Placed → Type 0
IsEarlierBy q p = (seq_of q < seq_of p) × (next_known q ≤ first_of p)

-- Each comes before those behind it.
abbrev pub RiseBy : List Placed → Type 0
RiseBy [] = ⊤
RiseBy (p ∷ ps) = All (IsEarlierBy p) ps × RiseBy ps
