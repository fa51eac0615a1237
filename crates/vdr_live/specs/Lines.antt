-- Which word of the program is the folder, and which are those of the command (this project's profile).
use Rattle.std.specs.Prelude.{◌≡◌, ◌⊎◌, ℕ, List, [], ◌∷◌, String, map, string_bytes, codes}
use Rattle.std.specs.declared.alloc.Global.{Global}
use Rattle.vdr_live.specs.declared.line.Line.{Line}
use Rattle.vdr_live.specs.declared.line.Line.TheVariants as lines

abbrev pub AsksHelp : List (List ℕ) → Type 0
AsksHelp texts = (texts ≡ codes "--help" ∷ []) ⊎ (texts ≡ codes "-h" ∷ [])

abbrev pub AsksVersion : List (List ℕ) → Type 0
AsksVersion texts = texts ≡ codes "--version" ∷ []

-- A word by itself asks for what the program says of itself.
abbrev pub SpellsAlone : List (List ℕ) → Line → Type 0
SpellsAlone texts lines.Help = AsksHelp texts
SpellsAlone texts (lines.HelpOf command) = ⊥
SpellsAlone texts lines.Version = AsksVersion texts
SpellsAlone texts (lines.Order rest) = ⊥
SpellsAlone texts (lines.Command folder command) = ⊥

pub record AsksNothingAlone (texts : List (List ℕ)) : Type 0 where
  pub no_help : AsksHelp texts → ⊥
  pub no_version : AsksVersion texts → ⊥

-- The first word is `--help`, and the second and last one names a command.
pub record AsksHelpOf (words : List (String Global)) (command : List ℕ) : Type 0 where
  pub word : String Global
  pub name : String Global
  pub is : words ≡ word ∷ name ∷ []
  pub help : string_bytes word ≡ codes "--help"
  pub named : string_bytes name ≡ command

-- The second word is `order`, and these stand behind it.
pub record AsksOrder (words rest : List (String Global)) : Type 0 where
  pub folder : String Global
  pub word : String Global
  pub is : words ≡ folder ∷ word ∷ rest
  pub order : string_bytes word ≡ codes "order"

-- The words ask for a command, of this folder. Where the first of two is `--help` they ask for no order.
pub record IsCommand (words : List (String Global)) (folder : List ℕ) (command : List (String Global)) : Type 0 where
  pub alone : AsksNothingAlone (map string_bytes words)
  pub no_help_of : (name : List ℕ) → AsksHelpOf words name → ⊥
  pub no_order : (rest : List (String Global)) → AsksOrder words rest → ⊥
  pub none : words ≡ [] → (folder ≡ codes ".") × (command ≡ [])
  pub first : (word : String Global) (rest : List (String Global)) → words ≡ word ∷ rest → (folder ≡ string_bytes word) × (command ≡ rest)

abbrev pub IsLine : List (String Global) → Line → Type 0
IsLine words lines.Help = AsksHelp (map string_bytes words)
IsLine words (lines.HelpOf command) = AsksHelpOf words command.now
IsLine words lines.Version = AsksVersion (map string_bytes words)
IsLine words (lines.Order rest) = AsksOrder words rest.now
IsLine words (lines.Command folder command) = IsCommand words folder.now command.now
