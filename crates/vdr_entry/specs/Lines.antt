-- The line that a record is printed as (this project's profile).
use Rattle.std.specs.Prelude.{ℕ, List, [], ◌∷◌, ◌++◌, length, codes, decimal}
use Rattle.std.specs.List.{flat_map}
use Rattle.vdr_terms.specs.Groups.{group_name}
use Rattle.vdr_terms.specs.Records.{Record, Content}
use Rattle.vdr_terms.specs.Records.Content.{Start, Datagram, Gap, Stop}
use Rattle.vdr_entry.specs.Escape.{escaped}
use Rattle.vdr_entry.specs.Utc.{utc_text}

-- Words with a space before each.
abbrev pub spaced : List (List ℕ) → List ℕ
spaced = flat_map (λ word. 32 ∷ word)

-- A record of no group.
abbrev pub mark_words : (mark : List ℕ) → Record → List (List ℕ)
mark_words mark r = codes "-" ∷ codes "-" ∷ utc_text r.utc ∷ mark ∷ []

-- What stands behind the place:
--   GROUP NUMBER UTC data LENGTH PAYLOAD
--   GROUP FIRST UTC gap FULL RATE BAD LARGE
--   - - UTC start
--   - - UTC stop
abbrev pub words_of : Content → Record → List (List ℕ)
words_of (Datagram payload) r =
    group_name r.group ∷ decimal r.number ∷ utc_text r.utc ∷ codes "data" ∷ decimal (length payload) ∷ escaped payload ∷ []
words_of (Gap missed) r =
    group_name r.group ∷ decimal r.number ∷ utc_text r.utc ∷ codes "gap"
    ∷ decimal missed.full ∷ decimal missed.rate ∷ decimal missed.bad ∷ decimal missed.large ∷ []
words_of Start r = mark_words (codes "start") r
words_of Stop r = mark_words (codes "stop") r

-- The place, these words, and LF.
unfoldable pub record_line : Record → List ℕ
record_line r = decimal r.place ++ spaced (words_of r.content r) ++ 10 ∷ []
