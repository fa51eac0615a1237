-- The words that ask for a reading of a stored file (this project's profile).
use Rattle.std.specs.Prelude.{◌≡◌, ◌∷◌, ℕ, List, [], codes}
use Rattle.vdr_readout.specs.Readings.{Reading, SpellsReading}

-- The words of a command without its medium: those of the command once a medium stands in its place, behind the first word. Which medium
-- that is says nothing here.
abbrev pub SpellsBehind : (texts : List (List ℕ)) → Reading → Type 0
SpellsBehind [] reading = ⊥
SpellsBehind (word ∷ rest) reading = SpellsReading (word ∷ codes "longterm" ∷ rest) reading

-- `from`, and such words.
pub record SpellsFrom (texts : List (List ℕ)) (reading : Reading) : Type 0 where
  pub rest : List (List ℕ)
  pub words : texts ≡ codes "from" ∷ rest
  pub spelled : SpellsBehind rest reading
