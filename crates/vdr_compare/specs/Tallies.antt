-- What a comparison keeps as it goes from place to place, and what it has still to print (this project's profile).
use Rattle.std.specs.Prelude.{◌≡◌, ℕ, if◌then◌else◌, List, [], ◌∷◌, ◌++◌, fold, Option, Some, None, Result, Ok, Err, IfOk}
use Rattle.std.specs.Io.KnownBytes.{Appends}
use Rattle.vdr_outside.specs.Writes.{AppendsFront}
use Rattle.vdr_compare.specs.declared.difference.Difference.{Difference}
use Rattle.vdr_compare.specs.declared.difference.Verdict.{Verdict}
use Rattle.vdr_compare.specs.declared.standing.Standing.{Standing}
use Rattle.vdr_compare.specs.declared.tally.Tally.{Tally}
use Rattle.vdr_compare.specs.Differences.{difference_at, differences, goes_on, joined, lines_of, said, same_line, same_with, verdict_with, with_next}

-- The run that waits, once one more difference has come: grown by it, or printed and followed by it.
abbrev pub waiting_with : Option Difference → Difference → Difference
waiting_with None x = x
waiting_with (Some run) x = if goes_on run x then with_next run x else x

abbrev pub closed_by : Option Difference → Difference → List Difference
closed_by None x = []
closed_by (Some run) x = if goes_on run x then [] else run ∷ []

abbrev pub with_difference : Tally → Option Difference → Tally
with_difference t None = t
with_difference t (Some x) = record t { waiting = Some (waiting_with t.waiting x); verdict = verdict_with t.verdict x }

abbrev pub closing_text : Tally → Option Difference → List ℕ
closing_text t None = []
closing_text t (Some x) = lines_of (closed_by t.waiting x)

-- Behind one more place, and what is printed there.
abbrev pub tally_with : Tally → Standing → Tally
tally_with t s = with_difference (record t { same = same_with t.same s }) (difference_at t.windows s)

abbrev pub text_at : Tally → Standing → List ℕ
text_at t s = closing_text t (difference_at t.windows s)

-- All that is printed from there on, where these places are ahead, and what it comes to.
abbrev pub left_text : Tally → List Standing → List ℕ
left_text t ahead = lines_of (joined (said t.waiting ++ differences t.windows ahead)) ++ same_line (fold same_with t.same ahead)

abbrev pub left_verdict : Tally → List Standing → Verdict
left_verdict t ahead = fold verdict_with t.verdict (differences t.windows ahead)

-- These places were gone over: what ended stands in the output, and this is kept; a front of all where a read or a write failed.
pub record Tallies {E : Type 0} (was : Tally) (ahead : List Standing) (old new : Option (List ℕ)) (result : Result Tally E) : Type 0 where
  pub front : AppendsFront old new (left_text was ahead)
  pub done : IfOk result (λ now. (text : List ℕ) × Appends old new text × (left_text was ahead ≡ text ++ left_text now []) × (left_verdict was ahead ≡ now.verdict))

-- All of it stands there, and this is what it comes to.
abbrev pub TellsLeft : {E : Type 0} → Tally → List Standing → (old new : Option (List ℕ)) → Result Verdict E → Type 0
TellsLeft t ahead old new (Ok verdict) = Appends old new (left_text t ahead) × (verdict ≡ left_verdict t ahead)
TellsLeft t ahead old new (Err why) = AppendsFront old new (left_text t ahead)
