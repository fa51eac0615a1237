-- Sums of counts.
use Rattle.std.proofs.Common.{◌≡◌, List, [], ◌∷◌, ◌++◌, Bool, true, false, cond, refl, ◌∙◌, arith}
use Rattle.std.proofs.lemmas.List.Sums.{sum_by-append}
use Rattle.vdr_terms.specs.declared.counts.Counts.{Counts}
use Rattle.vdr_terms.specs.Records.{none_missed, total}
use Rattle.vdr_terms.specs.Counting.{merged}
use Rattle.vdr_core.specs.Sums.{sum_counts}
use Rattle.vdr_core.proofs.Feeding.{counts_path}

pub merged_none : (c : Counts) → merged c none_missed ≡ c
merged_none c = counts_path (merged c none_missed) c (omega arith) (omega arith) (omega arith) (omega arith)

pub none_merged : (c : Counts) → merged none_missed c ≡ c
none_merged c = counts_path (merged none_missed c) c (omega arith) (omega arith) (omega arith) (omega arith)

pub merged_assoc : (a b c : Counts) → merged (merged a b) c ≡ merged a (merged b c)
merged_assoc a b c = counts_path (merged (merged a b) c) (merged a (merged b c)) (omega arith) (omega arith) (omega arith) (omega arith)

pub all_zero : (c : Counts) → total c ≡ 0 → c ≡ none_missed
all_zero c e = counts_path c none_missed (omega (arith, e)) (omega (arith, e)) (omega (arith, e)) (omega (arith, e))

pub sum_append : {X : Type 0} (counts : X → Counts) (xs ys : List X) → sum_counts counts (xs ++ ys) ≡ merged (sum_counts counts xs) (sum_counts counts ys)
sum_append counts xs ys = counts_path (sum_counts counts (xs ++ ys)) (merged (sum_counts counts xs) (sum_counts counts ys))
    (sum_by-append (λ x. (counts x).full) xs ys)
    (sum_by-append (λ x. (counts x).rate) xs ys)
    (sum_by-append (λ x. (counts x).bad) xs ys)
    (sum_by-append (λ x. (counts x).large) xs ys)

pub sum_one : {X : Type 0} (counts : X → Counts) (x : X) → sum_counts counts (x ∷ []) ≡ counts x
sum_one counts x = none_merged (counts x)

-- one that counts nothing, kept or left out
pub sum_if : {X : Type 0} (counts : X → Counts) (x : X) (b : Bool) → counts x ≡ none_missed → sum_counts counts (cond b (x ∷ []) []) ≡ none_missed
sum_if counts x true e = sum_one counts x ∙ e
sum_if counts x false e = refl
