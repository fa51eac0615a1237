-- The line that an operator's words ask for, and how the first line of a reply is told (this project's profile).
use Rattle.std.specs.Prelude.{◌≡◌, ◌≤◌, ℕ, List, [], ◌∷◌, ◌++◌, map, String, string_bytes, codes, All, ⊤}
use Rattle.std.specs.Char.{to_ascii_uppercase}
use Rattle.std.specs.List.{flat_map}
use Rattle.std.specs.declared.alloc.Global.{Global}
use Rattle.vdr_client.specs.declared.told.Told.{Told}
use Rattle.vdr_client.specs.declared.told.Told.TheVariants.{Words, Damaged, Media, Memory, NotThere, Label, Nothing, Full}

-- A further word of a line, with the space before it.
abbrev pub spaced : String Global → List ℕ
spaced word = 32 ∷ string_bytes word

-- The words of a line, with one space between two of them, the first one in capitals.
abbrev pub line_of : List (String Global) → List ℕ
line_of [] = []
line_of (word ∷ words) = map to_ascii_uppercase (string_bytes word) ++ flat_map spaced words

-- The line in which a recorder refuses an order, or tells that it failed, without its LF.
abbrev pub refusal : Told → List ℕ
refusal Words = codes "REFUSED 2"
refusal Damaged = codes "FAULT 4"
refusal Media = codes "FAULT 5"
refusal Memory = codes "FAULT 9"
refusal NotThere = codes "REFUSED 11"
refusal Label = codes "REFUSED 12 label"
refusal Nothing = codes "REFUSED 12 nothing"
refusal Full = codes "REFUSED 12 full"

-- The line in which it tells why there is no such file, without its LF.
abbrev pub no_file_line : (why : List ℕ) → List ℕ
no_file_line why = codes "REFUSED 14 " ++ why

-- The line behind the records of a play that tells from which place on they were written over before they were sent, without its LF.
abbrev pub gone_line : (place : List ℕ) → List ℕ
gone_line place = codes "GONE " ++ place

-- The status line for a refusal.
abbrev pub status_line : Told → List ℕ
status_line Words = codes "status 2 words\n"
status_line Damaged = codes "status 4 damaged\n"
status_line Media = codes "status 5 media\n"
status_line Memory = codes "status 9 memory\n"
status_line NotThere = codes "status 11\n"
status_line Label = codes "status 12 label\n"
status_line Nothing = codes "status 12 nothing\n"
status_line Full = codes "status 12 full\n"

abbrev pub status_code : Told → ℕ
status_code Words = 2
status_code Damaged = 4
status_code Media = 5
status_code Memory = 9
status_code NotThere = 11
status_code Label = 12
status_code Nothing = 12
status_code Full = 12
