-- The order of sources.
use Rattle.std.proofs.Common.{ℕ, Bool, cond, true, false, true≢false, ◌&&◌, ◌==◌, bytes_eq, nat_lt, ◌≡◌, refl, sym, ap, ◌∙◌, arith, Ordering, Less, Equal, Greater, nat_cmp, is_eq}
use Rattle.std.specs.Ordering.{ordering_then, ordering_reverse}
use Rattle.std.specs.Cmp.{IsTotalOrder}
use Rattle.std.specs.Cmp.Lexicographic.{slice_cmp}
use Rattle.std.proofs.lemmas.Bool.{and_parts, eqb-true, ltb-true, ne_eqb}
use Rattle.std.proofs.lemmas.Cmp.{nat_cmp_total, nat_list_cmp_total, on_total, then_total, tied_itself}
use Rattle.std.proofs.lemmas.Slice.Eq.{bytes_eq-Decides}
use Rattle.std.proofs.lemmas.Map.Text.{is_eq-slice_cmp}
use Rattle.vdr_durability.specs.Sources.{Source, is_same, source_cmp}

pub source_total : IsTotalOrder source_cmp
source_total = then_total (on_total (λ (s : Source). s.group) nat_cmp_total) (on_total (λ (s : Source). s.name) nat_list_cmp_total)

pub itself : (s : Source) → source_cmp s s ≡ Equal
itself s = tied_itself source_total s

pub turned : (a b : Source) → source_cmp a b ≡ ordering_reverse (source_cmp b a)
turned a b = source_total.antisymm a b

pub before_both : (a b c : Source) → source_cmp a b ≡ Less → source_cmp b c ≡ Less → source_cmp a c ≡ Less
before_both a b c = source_total.trans a b c

pub same_before : (a b c : Source) → source_cmp a b ≡ Equal → source_cmp b c ≡ Less → source_cmp a c ≡ Less
same_before a b c e l = source_total.congr a b c e ∙ l

-- The order's test of equality.
by_tests : (t u : Bool) (o : Ordering) (b : Bool) → (t ≡ true → u ≡ false) → is_eq o ≡ b → is_eq (ordering_then (cond t Less (cond u Equal Greater)) o) ≡ u && b
by_tests true true o b apart e = absurd (true≢false (apart refl))
by_tests true false o b apart e = refl
by_tests false true o b apart e = e
by_tests false false o b apart e = refl

same_test : (g h : ℕ) (o : Ordering) (b : Bool) → is_eq o ≡ b → is_eq (ordering_then (nat_cmp g h) o) ≡ (g == h) && b
same_test g h o b e = by_tests (nat_lt g h) (g == h) o b (λ less. let l = ltb-true g h less in ne_eqb g h (λ same. absurd (omega (arith, l, same)))) e

pub is_same_by : (a b : Source) → is_eq (source_cmp a b) ≡ is_same a b
is_same_by a b = same_test a.group b.group (slice_cmp nat_cmp a.name b.name) (bytes_eq a.name b.name) (is_eq-slice_cmp a.name b.name)

-- Sources that are tested as the same are one.
pub same_source : (a b : Source) → is_same a b ≡ true → a ≡ b
same_source a b e =
    let p = and_parts (a.group == b.group) (bytes_eq a.name b.name) e in
    let g : a.group ≡ b.group = eqb-true a.group b.group p.0 in
    let n : a.name ≡ b.name = (bytes_eq-Decides a.name b.name).0 p.1 in
    λ i. record { group = g i; name = n i }

-- What the order of two sources says of the test.
pub is_same_where : (a b : Source) (o : Ordering) → source_cmp a b ≡ o → is_same a b ≡ is_eq o
is_same_where a b o e = sym (is_same_by a b) ∙ ap is_eq e

pub one_where : (a b : Source) → source_cmp a b ≡ Equal → a ≡ b
one_where a b e = same_source a b (is_same_where a b Equal e)
