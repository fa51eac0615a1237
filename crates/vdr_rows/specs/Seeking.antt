-- Formatters that are looked for in the bytes of a datagram. One that names none of them need not be cut into its lines.
use Rattle.std.specs.Prelude.{ℕ, Bool, false, ◌||◌, List, [], ◌∷◌, drop, bytes_eq, codes, Some, unwrap_or}
use Rattle.std.specs.List.{list_any}
use Rattle.vdr_sentence.specs.Addresses.{address_of}
use Rattle.vdr_datagram.specs.Verdicts.{LineReading}
use Rattle.vdr_datagram.specs.Verdicts.LineReading.{Good, Tag, Sentence}
use Rattle.vdr_ais.specs.Lines.{carries}
use Rattle.vdr_terms.specs.Records.{Record}
use Rattle.vdr_ais.specs.Bits.{Message}
use Rattle.vdr_rows.specs.Reported.{message_values}
use Rattle.vdr_rows.specs.Tables.{rows_of}
use Rattle.vdr_rows.specs.Texts.{Row, heading_of}
use Rattle.vdr_rows.specs.declared.seeking.Sought.{Sought}
use Rattle.vdr_rows.specs.declared.seeking.Sought.TheVariants.{Parts, Position}

-- Those that carry parts of AIS messages, and those that say a position (IEC 61162-1).
abbrev pub formatters_of : Sought → List (List ℕ)
formatters_of Parts = codes "VDM" ∷ codes "VDO" ∷ []
formatters_of Position = codes "GGA" ∷ codes "GLL" ∷ codes "GNS" ∷ codes "RMC" ∷ []

-- These three bytes are one of them.
abbrev pub is_sought : Sought → (first second third : ℕ) → Bool
is_sought sought a b c = list_any (λ formatter. bytes_eq (a ∷ b ∷ c ∷ []) formatter) (formatters_of sought)

abbrev pub begins : Sought → List ℕ → Bool
begins sought (a ∷ b ∷ c ∷ text) = is_sought sought a b c
begins sought _ = false

-- One of them stands in the text.
abbrev pub mentions : Sought → List ℕ → Bool
mentions sought [] = false
mentions sought (b ∷ text) = begins sought (b ∷ text) || mentions sought text

-- A line whose address names VDM or VDO may carry a part of an AIS message. The formatter stands behind the two letters of the talker.
abbrev pub is_carrier : LineReading → Bool
is_carrier (Good tags sentence) = carries (drop 2 (address_of sentence.content))
is_carrier (Tag bad) = false
is_carrier (Sentence tags bad) = false

-- The rows of a message that ends at a line.
abbrev pub carried_rows : Record → LineReading → Message → List Row
carried_rows r (Good tags sentence) m = rows_of (heading_of r (unwrap_or tags.source (codes "-")) (address_of sentence.content)) (message_values (Some m))
carried_rows r (Tag bad) m = []
carried_rows r (Sentence tags bad) m = []
