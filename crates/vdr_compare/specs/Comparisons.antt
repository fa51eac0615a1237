-- What a comparison of two media prints (this project's profile).
use Rattle.std.specs.Prelude.{◌≡◌, ◌≤◌, ℕ, max, List, ◌++◌, fold, Option, Result, Ok, Err, sum}
use Rattle.std.specs.Io.KnownBytes.{Appends}
use Rattle.vdr_terms.specs.Records.{Record}
use Rattle.vdr_outside.specs.Causes.{NoneFalls, Rose}
use Rattle.vdr_outside.specs.Writes.{AppendsFront}
use Rattle.vdr_compare.specs.declared.comparing.CompareRefused.{CompareRefused}
use Rattle.vdr_compare.specs.declared.comparing.CompareRefused.TheVariants.{Fault, Output}
use Rattle.vdr_compare.specs.declared.difference.Verdict.{Verdict}
use Rattle.vdr_compare.specs.declared.standing.Standing.{Standing}
use Rattle.vdr_compare.specs.declared.standing.Windows.{Windows}
use Rattle.vdr_compare.specs.Conditions.{Condition, condition_text, first_verdict}
use Rattle.vdr_compare.specs.Differences.{differences, joined, lines_of, same_line, same_places, verdict_with}
use Rattle.vdr_compare.specs.Seconds.{last_second}

-- The windows in seconds, of media that give these records.
abbrev pub windows_of : (capsule_seconds longterm_seconds : ℕ) → (capsule longterm : List Record) → Windows
windows_of capsule_seconds longterm_seconds rs ss = record { capsule = capsule_seconds; longterm = longterm_seconds; last_second = max (last_second rs) (last_second ss) }

-- The lines: `differs configuration` where the texts are not alike, the damage of each medium, each place that differs and each longest run
-- that a medium lacks by rising place, and between which places the media say the same.
abbrev pub comparison_text : Condition → Windows → List Standing → List ℕ
comparison_text c w places = condition_text c ++ (lines_of (joined (differences w places)) ++ same_line (same_places places))

-- The first of them but the last.
abbrev pub comparison_verdict : Condition → Windows → List Standing → Verdict
comparison_verdict c w places = fold verdict_with (first_verdict c) (differences w places)

-- All of the text stands in the output, and the verdict is answered; a front of it where a read or a write failed.
abbrev pub Compares : Condition → Windows → List Standing → (old new : Option (List ℕ)) → Result Verdict CompareRefused → Type 0
Compares c w places old new (Ok verdict) = Appends old new (comparison_text c w places) × (verdict ≡ comparison_verdict c w places)
Compares c w places old new (Err why) = AppendsFront old new (comparison_text c w places)

-- Which object failed where there is an error.
pub record HasCompareCause {T : Type 0} (before now : List ℕ) (printed prints : ℕ) (result : Result T CompareRefused) : Type 0 where
  pub later : NoneFalls before now
  pub fault : result ≡ Err Fault → Rose (sum before) (sum now)
  pub written : printed ≤ prints
  pub output : result ≡ Err Output → Rose printed prints
