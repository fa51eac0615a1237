use Rattle.std.proofs.Common.{◌≡◌, rules, ◌+◌, ◌++◌, ℤ, min, bit_or, sym, subst, w64, FitsSigned}
use Rattle.std.proofs.lemmas.Int.{to_z-of_z}
use Rattle.vdr_index.specs.Summaries.{IsSummaryOf, greatest_count}
use Rattle.vdr_index.proofs.JoinLemmas.{joined_summary}
use Rattle.vdr_index.proofs.summary.joined_summary.Goals as goal

pub returns : goal.returns
returns c xs ys p q =
    let l : FitsSigned w64 c.least.result = search rules in
    let g : FitsSigned w64 c.greatest.result = search rules in
    let la : FitsSigned w64 c.args.before.least_utc = search rules in
    let lb : FitsSigned w64 c.args.behind.least_utc = search rules in
    let ga : FitsSigned w64 c.args.before.greatest_utc = search rules in
    let gb : FitsSigned w64 c.args.behind.greatest_utc = search rules in
    let n : c.saturating_add.result ≡ min (c.args.before.count + c.args.behind.count) greatest_count = c.saturating_add.ensures in
    subst
    (λ (z : ℤ × ℤ). IsSummaryOf (xs ++ ys) (record { count = c.saturating_add.result; first_second = c.args.before.first_second; last_second = c.args.behind.last_second; least_utc = z.0; greatest_utc = z.1; bits = bit_or c.args.before.bits c.args.behind.bits }))
    (λ i. (sym (to_z-of_z w64 c.least.result l) i, sym (to_z-of_z w64 c.greatest.result g) i))
    (joined_summary c.args.before c.args.behind c.saturating_add.result n c.least.result c.greatest.result (simp to_z-of_z at c.least.ensures.first) (simp to_z-of_z at c.least.ensures.second) (simp to_z-of_z at c.least.ensures.one)
    (simp to_z-of_z at c.greatest.ensures.first) (simp to_z-of_z at c.greatest.ensures.second) (simp to_z-of_z at c.greatest.ensures.one) xs ys p q)
