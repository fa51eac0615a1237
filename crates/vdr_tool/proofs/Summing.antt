-- The lines of a summary, one group after another.
use Rattle.std.proofs.Common.{◌≡◌, ◌≤◌, ◌<◌, ◌+◌, ◌∙◌, ◌++◌, ℕ, zero, suc, List, [], Option, None, refl, sym, ap, subst, arith, add-one, append_assoc, append-nil, ⊎_elim}
use Rattle.std.specs.Prelude.{slice_index_or}
use Rattle.std.specs.Io.KnownBytes.{Appends}
use Rattle.std.proofs.KnownBytes.{Appends-trans}
use Rattle.std.proofs.lemmas.Bool.{cases_lt}
use Rattle.vdr_outside.specs.Writes.{AppendsFront}
use Rattle.vdr_capture.specs.declared.sums.GroupSums.{GroupSums}
use Rattle.vdr_tool.specs.Summaries.{line_if, lines_below, records_line, summary_text}
use Rattle.vdr_command.proofs.Lines.{front_later}

-- The lines of the first groups, and of one more.
pub lines_more : (g n : ℕ) (groups : List (Option GroupSums)) (old now new : Option (List ℕ)) → n ≡ g + 1
    → Appends old now (lines_below g groups) → Appends now new (line_if g (slice_index_or groups g None)) → Appends old new (lines_below n groups)
lines_more g n groups old now new next before here =
    let is : n ≡ suc g = next ∙ add-one g in
    subst (λ (m : ℕ). Appends old new (lines_below m groups)) (sym is) (Appends-trans old now new _ _ before here)

-- The lines of the first groups are a front of those of all.
lines_begin : (g n : ℕ) (groups : List (Option GroupSums)) → g ≤ n → (rest : List ℕ) × (lines_below n groups ≡ lines_below g groups ++ rest)
lines_begin g zero groups few =
    let same : g ≡ 0 = omega (arith, few) in
    ([], subst (λ (m : ℕ). lines_below 0 groups ≡ lines_below m groups ++ []) (sym same) refl)
lines_begin g (suc n) groups few = ⊎_elim
    (λ (above : n < g). let same : g ≡ suc n = omega (arith, few, above) in
    ([], subst (λ (m : ℕ). lines_below (suc n) groups ≡ lines_below m groups ++ []) (sym same) (sym (append-nil (lines_below (suc n) groups)))))
    (λ (below : g ≤ n). let first = lines_begin g n groups below in
    let last : List ℕ = line_if n (slice_index_or groups n None) in
    (first.0 ++ last, ap (λ (xs : List ℕ). xs ++ last) first.1 ∙ append_assoc (lines_below g groups) first.0 last))
    (cases_lt n g)

-- Where a group's line fails, a front of all is written.
front_among : (g n : ℕ) (groups : List (Option GroupSums)) (end : List ℕ) (old now new : Option (List ℕ)) → g < n
    → Appends old now (lines_below g groups) → AppendsFront now new (line_if g (slice_index_or groups g None)) → AppendsFront old new (lines_below n groups ++ end)
front_among g n groups end old now new few before here =
    let line : List ℕ = line_if g (slice_index_or groups g None) in
    let more = lines_begin (suc g) n groups (omega (arith, few)) in
    let is : lines_below n groups ++ end ≡ lines_below g groups ++ (line ++ (more.0 ++ end)) =
    ap (λ (xs : List ℕ). xs ++ end) more.1 ∙ append_assoc (lines_below g groups ++ line) more.0 end ∙ append_assoc (lines_below g groups) line (more.0 ++ end) in
    front_later old now new (lines_below g groups) line (more.0 ++ end) _ is before here

pub summary_front : (g records : ℕ) (groups : List (Option GroupSums)) (old now new : Option (List ℕ)) → g < 16
    → Appends old now (lines_below g groups) → AppendsFront now new (line_if g (slice_index_or groups g None)) → AppendsFront old new (summary_text groups records)
unfolding summary_text
summary_front g records groups old now new few before here = front_among g 16 groups (records_line records) old now new few before here

-- The last line.
pub summary_all : (records : ℕ) (groups : List (Option GroupSums)) (old now new : Option (List ℕ))
    → Appends old now (lines_below 16 groups) → Appends now new (records_line records) → Appends old new (summary_text groups records)
unfolding summary_text
summary_all records groups old now new before here = Appends-trans old now new (lines_below 16 groups) (records_line records) before here

pub summary_last : (records : ℕ) (groups : List (Option GroupSums)) (old now new : Option (List ℕ))
    → Appends old now (lines_below 16 groups) → AppendsFront now new (records_line records) → AppendsFront old new (summary_text groups records)
unfolding summary_text
summary_last records groups old now new before here =
    let is : lines_below 16 groups ++ records_line records ≡ lines_below 16 groups ++ (records_line records ++ []) = ap (λ (xs : List ℕ). lines_below 16 groups ++ xs) (sym (append-nil (records_line records))) in
    front_later old now new (lines_below 16 groups) (records_line records) [] _ is before here
