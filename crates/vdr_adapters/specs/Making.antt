-- How the file of a medium is made (this project's profile).
use Rattle.std.specs.Prelude.{◌≡◌, ◌+◌, ℕ, List, [], ◌∷◌, ◌++◌, length, replicate, codes, Option}
use Rattle.vdr_adapters.specs.Files.{Call, FileSeen, IsFile, IsOpenFile, Place}
use Rattle.vdr_adapters.specs.Files.Call.{Length, Lock, Read, Write, Sync, Leave}
use Rattle.vdr_adapters.specs.declared.folder.Access.TheVariants.{Full}

abbrev pub AreZeros : List ℕ → Type 0
AreZeros bytes = bytes ≡ replicate (length bytes) 0

-- The calls write zeros from here to there, each where the one before it ended.
abbrev pub WritesZeros : (here there : ℕ) → List Call → Type 0
WritesZeros here there [] = here ≡ there
WritesZeros here there (Write at bytes ∷ rest) = (at ≡ here) × AreZeros bytes × WritesZeros (here + length bytes) there rest
WritesZeros here there (Length n ∷ rest) = ⊥
WritesZeros here there (Lock access ∷ rest) = ⊥
WritesZeros here there (Read at n ∷ rest) = ⊥
WritesZeros here there (Sync ∷ rest) = ⊥
WritesZeros here there (Leave ∷ rest) = ⊥

-- The file was made by this name, locked before any other call, filled with zeros up to its size, and synced.
abbrev pub IsFilled : Option FileSeen → (name mark : List ℕ) → (size : ℕ) → Type 0
IsFilled seen name mark size = (writes : List Call) × WritesZeros 0 size writes
    × IsFile seen (record { name = name; mark = mark; access = Full; calls = (Lock Full ∷ writes) ++ Sync ∷ [] })

module _ {F : Type 0} (seen : F → Option FileSeen) where
  -- The place of a medium is a file that was made so.
  abbrev pub IsMade : Place F → (name mark : List ℕ) → (size : ℕ) → Type 0
  IsMade place name mark size = IsOpenFile seen place (λ file. IsFilled (seen file) name mark size)

  -- Both media are files that were made so.
  pub record AreMade (capsule : Place F) (capsule_size : ℕ) (long_term : Place F) (long_term_size : ℕ) : Type 0 where
    pub capsule_is : IsMade capsule (codes "capsule.vdr") (codes "capsule.left") capsule_size
    pub long_term_is : IsMade long_term (codes "longterm.vdr") (codes "longterm.left") long_term_size
