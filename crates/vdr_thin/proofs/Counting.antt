-- How many readings runs have.
use Rattle.std.proofs.Common.{◌≡◌, ◌+◌, ◌∙◌, ℕ, suc, Bool, true, false, cond, List, [], ◌∷◌, length, sum_by, refl, arith}
use Rattle.std.proofs.lemmas.List.Sums.{sum_by-cons}
use Rattle.vdr_thin.specs.Runs.{Reading, Run, begun, count_of, ends, grown, is_missed, runs_from, runs_of}

either : (b : Bool) (run : Run) (new more : List Run) (n : ℕ) → sum_by count_of new ≡ 1 + n → sum_by count_of more ≡ (run.last.number + 1) + n
    → sum_by count_of (cond b (run ∷ new) more) ≡ run.last.number + suc n
either true run new more n p q = let sum : count_of run + sum_by count_of new ≡ run.last.number + suc n = omega (arith, p) in sum_by-cons count_of run new ∙ sum
either false run new more n p q = let sum : sum_by count_of more ≡ run.last.number + suc n = omega (arith, q) in sum

from : (step longest : ℕ) (run : Run) (rs : List Reading) → sum_by count_of (runs_from step longest run rs) ≡ run.last.number + length rs
from step longest run [] = sum_by-cons count_of run []
from step longest run (r ∷ rs) =
    either (ends step longest run.last.reading r) run (runs_from step longest (begun (is_missed run.last.reading r) r) rs) (runs_from step longest (grown run r) rs) (length rs)
    (from step longest (begun (is_missed run.last.reading r) r) rs) (from step longest (grown run r) rs)

pub each_counts : (step longest : ℕ) (rs : List Reading) → sum_by count_of (runs_of step longest rs) ≡ length rs
each_counts step longest [] = refl
each_counts step longest (r ∷ rs) = from step longest (begun true r) rs ∙ one_more (length rs)
  where
    one_more : (n : ℕ) → 1 + n ≡ suc n
    one_more n = omega arith
