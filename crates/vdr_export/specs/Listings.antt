-- The images of which records have a part, as they are listed (this project's profile).
use Rattle.std.specs.Prelude.{ℕ, ◌-◌, ◌≤◌, ℤ, Bool, true, false, not, ◌&&◌, ◌||◌, ◌==◌, List, [], ◌++◌, codes, count_by, decimal, flat_map, fold, length, replicate, slice_set, if◌then◌else◌, Option, Some, None, unwrap_or, bytes_eq}
use Rattle.std.specs.Map.{lookup}
use Rattle.indexmap.specs.IndexMap.{insert_entry}
use Rattle.vdr_terms.specs.Records.{Record}
use Rattle.vdr_terms.specs.Stamps.{IsStamp}
use Rattle.vdr_entry.specs.Utc.{utc_text}
use Rattle.vdr_image.specs.Headers.{Header}
use Rattle.vdr_export.specs.Pictures.{header_in}
use Rattle.vdr_export.specs.declared.block.Block.{Block}

-- What is known of an image: the stamp of the record of its first part; of each part, up to the number of parts that the first one says,
-- whether it is there; and whether another part says another number of parts.
pub record Listed : Type 0 where
  pub utc : ℤ
  pub had : List Bool
  pub mixed : Bool

-- Images by their blocks, in the order of their first parts.
abbrev pub Listing : Type 0
Listing = List (Block × Listed)

abbrev pub same_block : Block → Block → Bool
same_block a b = bytes_eq a.source b.source && a.number == b.number

abbrev pub block_of : Header → Block
block_of h = record { source = h.source; number = h.block }

-- None of its parts is there.
abbrev pub unseen : (utc : ℤ) → Header → Listed
unseen utc h = record { utc = utc; had = replicate h.greatest false; mixed = false }

-- One more of its parts.
abbrev pub with_part : Header → Listed → Listed
with_part h x = record { utc = x.utc; had = slice_set x.had (h.sequence - 1) true; mixed = x.mixed || not (h.greatest == length x.had) }

abbrev pub listed_as : Listing → (utc : ℤ) → Header → Listed
listed_as images utc h = unwrap_or (lookup (same_block (block_of h)) images) (unseen utc h)

-- A part of an image that is listed is added to it. Another image comes last.
abbrev pub with_header : (utc : ℤ) → Listing → Option Header → Listing
with_header utc images None = images
with_header utc images (Some h) = insert_entry same_block images (block_of h) (with_part h (listed_as images utc h))

abbrev pub with_record : Listing → Record → Listing
with_record images r = with_header r.utc images (header_in r.content)

-- The images of which these records have a part.
abbrev pub listing_of : List Record → Listing
listing_of records = fold with_record [] records

-- How many parts are there.
abbrev pub parts_in : List Bool → ℕ
parts_in had = count_by (λ there. there) had

-- All of it is there, or not all, or parts say several numbers of parts.
abbrev pub state_word : Listed → List ℕ
state_word x = if x.mixed then codes "mixed" else if parts_in x.had == length x.had then codes "complete" else codes "part"

-- SOURCE BLOCK UTC PARTS OF COMPLETE
unfoldable pub listed_text : Block × Listed → List ℕ
listed_text (block, x) =
    block.source
    ++ codes " "
    ++ decimal block.number
    ++ codes " "
    ++ utc_text x.utc
    ++ codes " "
    ++ decimal (parts_in x.had)
    ++ codes " "
    ++ decimal (length x.had)
    ++ codes " "
    ++ state_word x
    ++ codes "\n"

abbrev pub listing_text : Listing → List ℕ
listing_text images = flat_map listed_text images

-- What is kept of an image: its stamp is one, and it has at most as many parts as a header can say.
pub record IsListed (x : Listed) : Type 0 where
  pub utc : IsStamp x.utc
  pub few : length x.had ≤ 65_535
