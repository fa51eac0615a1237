-- What a comparison has still to print, one place further.
use Rattle.std.proofs.Common.{◌≡◌, ◌++◌, ℕ, Bool, true, false, cond, fold, List, [], ◌∷◌, Option, None, Some, refl, sym, ap, ◌∙◌, append_assoc, append-nil}
use Rattle.vdr_compare.specs.declared.difference.Difference.{Difference}
use Rattle.vdr_compare.specs.declared.standing.Standing.{Standing}
use Rattle.vdr_compare.specs.declared.tally.Tally.{Tally}
use Rattle.vdr_compare.specs.Differences.{difference_at, differences, goes_on, joined, line_of, lines_of, said, same_line, same_with, verdict_with, with_next}
use Rattle.vdr_compare.specs.Tallies.{closed_by, closing_text, left_text, left_verdict, tally_with, text_at, waiting_with, with_difference}
use Rattle.vdr_compare.proofs.Joining.{closed, grown}

-- A run that waits, and one more difference.
waits : (b : Bool) (run x : Difference) (xs : List Difference) → goes_on run x ≡ b
    → lines_of (joined (run ∷ x ∷ xs)) ≡ lines_of (cond b [] (run ∷ [])) ++ lines_of (joined (cond b (with_next run x) x ∷ xs))
waits true run x xs e = ap lines_of (grown run x (joined xs) e)
waits false run x xs e =
    ap lines_of (closed run x (joined xs) e) ∙ ap (λ (l : List ℕ). l ++ lines_of (joined (x ∷ xs))) (sym (append-nil (line_of run)))

told_with : (waiting : Option Difference) (x : Difference) (xs : List Difference) → lines_of (joined (said waiting ++ x ∷ xs)) ≡ lines_of (closed_by waiting x) ++ lines_of (joined (waiting_with waiting x ∷ xs))
told_with None x xs = refl
told_with (Some run) x xs = waits (goes_on run x) run x xs refl

module _ (t : Tally) (s : Standing) (more : List Standing) where
  text_by : (d : Option Difference) → lines_of (joined (said t.waiting ++ (said d ++ differences t.windows more))) ++ same_line (fold same_with (same_with t.same s) more)
      ≡ closing_text t d ++ left_text (with_difference (record t { same = same_with t.same s }) d) more
  text_by None = refl
  text_by (Some x) =
      let last = same_line (fold same_with (same_with t.same s) more) in
      ap (λ (l : List ℕ). l ++ last) (told_with t.waiting x (differences t.windows more))
      ∙ append_assoc (lines_of (closed_by t.waiting x)) (lines_of (joined (waiting_with t.waiting x ∷ differences t.windows more))) last

  verdict_by : (d : Option Difference) → fold verdict_with t.verdict (said d ++ differences t.windows more) ≡ left_verdict (with_difference (record t { same = same_with t.same s }) d) more
  verdict_by None = refl
  verdict_by (Some x) = refl

  pub text_step : left_text t (s ∷ more) ≡ text_at t s ++ left_text (tally_with t s) more
  text_step = text_by (difference_at t.windows s)

  pub verdict_step : left_verdict t (s ∷ more) ≡ left_verdict (tally_with t s) more
  verdict_step = verdict_by (difference_at t.windows s)

-- What is left behind the last place.
pub text_behind : (t : Tally) → left_text t [] ≡ lines_of (said t.waiting) ++ same_line t.same
text_behind t = by t.waiting
  where
    by : (w : Option Difference) → lines_of (joined (said w ++ [])) ++ same_line t.same ≡ lines_of (said w) ++ same_line t.same
    by None = refl
    by (Some x) = refl
