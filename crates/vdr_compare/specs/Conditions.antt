-- What is told of two media before their places: whether their configurations have the same text, and where each one is damaged (this
-- project's profile).
use Rattle.std.specs.Prelude.{Bool, true, false, ℕ, List, [], ◌++◌, codes, decimal}
use Rattle.std.specs.List.{flat_map}
use Rattle.vdr_rescue.specs.declared.findings.Finding.{Finding}
use Rattle.vdr_rescue.specs.declared.findings.Finding.TheVariants.{Missing, Damaged, Closed}
use Rattle.vdr_rescue.specs.declared.found.Found.{Found}
use Rattle.vdr_rescue.specs.declared.found.Found.TheVariants as found
use Rattle.vdr_rescue.specs.Findings.{found_in}
use Rattle.vdr_compare.specs.declared.difference.Verdict.{Verdict}
use Rattle.vdr_compare.specs.declared.difference.Verdict.TheVariants as verdict
use Rattle.vdr_compare.specs.Differences.{medium_name}

-- Whether the texts are the same, and what is found of each medium that is read alone.
pub record Condition : Type 0 where
  pub alike : Bool
  pub capsule : List Finding
  pub longterm : List Finding

-- A line before all others where the texts of the configurations differ.
abbrev pub configuration_line : (alike : Bool) → List ℕ
configuration_line true = []
configuration_line false = codes "differs configuration\n"

-- A line for each damage that is found of medium m, by rising offset, as findings have it. No other finding has one.
abbrev pub damage_line : (m : ℕ) → Finding → List ℕ
damage_line m (Missing a b) = []
damage_line m (Damaged at) = codes "damaged " ++ medium_name m ++ codes " " ++ decimal at ++ codes "\n"
damage_line m (Closed at) = []

abbrev pub damage_lines : (m : ℕ) → List Finding → List ℕ
damage_lines m findings = flat_map (damage_line m) findings

-- The capsule is medium 0.
abbrev pub condition_text : Condition → List ℕ
condition_text c = configuration_line c.alike ++ (damage_lines 0 c.capsule ++ damage_lines 1 c.longterm)

-- What the first of these lines comes to.
abbrev pub damaged_else : (m : ℕ) → Found → Verdict → Verdict
damaged_else m (found.Damaged offset) other = verdict.Damaged m offset
damaged_else m found.Whole other = other
damaged_else m (found.Missing place) other = other

abbrev pub verdict_of_condition : (alike : Bool) → (capsule longterm : Found) → Verdict
verdict_of_condition true capsule longterm = damaged_else 0 capsule (damaged_else 1 longterm verdict.Same)
verdict_of_condition false capsule longterm = verdict.Configuration

abbrev pub first_verdict : Condition → Verdict
first_verdict c = verdict_of_condition c.alike (found_in c.capsule) (found_in c.longterm)
