-- The generated feed (this project's profile): a gyro's headings on transmission group NAVD, 400 milliseconds apart.
use Rattle.std.specs.Prelude.{ℕ, ◌+◌, ◌*◌, ◌/◌, ◌%◌, ◌^◌, pos, List, [], ◌∷◌, ◌++◌, codes}
use Rattle.vdr_terms.specs.Records.{FeedItem}
use Rattle.vdr_bytes.specs.Checksum.{checksum}
use Rattle.vdr_bytes.specs.Digits.{upper_digits}

-- The next state, from which an item's heading is taken.
abbrev pub trial_state : ℕ → ℕ
trial_state state = (1_103_515_245 * state + 12_345) % 2 ^ 31

-- A text, `*`, and its checksum.
abbrev pub checked : List ℕ → List ℕ
checked text = text ++ codes "*" ++ upper_digits (checksum text)

-- The last three digits.
abbrev pub three_digits : ℕ → List ℕ
three_digits n = (48 + n / 100 % 10) ∷ (48 + n / 10 % 10) ∷ (48 + n % 10) ∷ []

-- A TAG block with a source and a line count.
abbrev pub trial_tag : ℕ → List ℕ
trial_tag index = codes "s:GP0001,n:" ++ three_digits index

-- A true heading in tenths of a degree.
abbrev pub trial_heading : ℕ → List ℕ
trial_heading tenths = codes "GPHDT," ++ three_digits (tenths / 10) ++ codes "." ++ (48 + tenths % 10) ∷ [] ++ codes ",T"

-- A datagram of one line: `\`, the TAG block, `\`, `$`, the sentence, CR and LF.
abbrev pub trial_bytes : ℕ → ℕ → List ℕ
trial_bytes state index =
    codes "UdPbC" ++ 0 ∷ 92 ∷ [] ++ checked (trial_tag index) ++ 92 ∷ 36 ∷ [] ++ checked (trial_heading (state % 3600)) ++ 13 ∷ 10 ∷ []

-- The item of this index, where the state is the one after so many steps and one more. The first stands at the start of 2024.
abbrev pub trial_item : ℕ → ℕ → FeedItem
trial_item state index = record {
  group = 3;
  item = record { received = 400 * index; utc = pos (1_704_067_200_000 + 400 * index); bytes = trial_bytes state index };
}
