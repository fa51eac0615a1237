-- Lines that may be signs, by the formatter in their address.
use Rattle.std.specs.Prelude.{ℕ, Bool, false, ◌||◌, List, drop, bytes_eq, codes}
use Rattle.vdr_sentence.specs.Addresses.{address_of}
use Rattle.vdr_datagram.specs.Verdicts.{LineReading}
use Rattle.vdr_datagram.specs.Verdicts.LineReading.{Good, Tag, Sentence}

abbrev pub watches : (formatter : List ℕ) → Bool
watches formatter = bytes_eq formatter (codes "HBT") || (bytes_eq formatter (codes "ALR") || (bytes_eq formatter (codes "ALF") || bytes_eq formatter (codes "ALC")))

-- The formatter stands behind the two letters of the talker.
abbrev pub is_watched : LineReading → Bool
is_watched (Good tags sentence) = watches (drop 2 (address_of sentence.content))
is_watched (Tag bad) = false
is_watched (Sentence tags bad) = false
