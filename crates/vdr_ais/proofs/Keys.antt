-- The order of keys.
use Rattle.std.proofs.Common.{ℕ, Bool, cond, true, false, true≢false, ◌&&◌, ◌==◌, nat_eq, bytes_eq, nat_lt, ◌≡◌, refl, sym, ap, ◌∙◌, arith, Option, Some, None, Ordering, Less, Equal, Greater, nat_cmp, is_eq}
use Rattle.std.specs.Ordering.{ordering_then}
use Rattle.std.specs.Option.{option_cmp, option_eq}
use Rattle.std.specs.Cmp.{IsTotalOrder}
use Rattle.std.specs.Cmp.Lexicographic.{options_total}
use Rattle.std.proofs.lemmas.Bool.{and_parts, eqb-true, ltb-true, ne_eqb}
use Rattle.std.proofs.lemmas.Cmp.{nat_cmp_total, nat_list_cmp_total, on_total, then_total}
use Rattle.std.proofs.lemmas.Slice.Eq.{bytes_eq-Decides}
use Rattle.std.proofs.lemmas.Map.Text.{is_eq-slice_cmp}
use Rattle.vdr_ais.specs.Lines.{Key, is_same}
use Rattle.vdr_ais.specs.Pending.{key_cmp}

pub key_total : IsTotalOrder key_cmp
unfolding key_cmp
key_total =
    then_total (on_total (λ (k : Key). k.group) nat_cmp_total)
    (then_total (on_total (λ (k : Key). k.source) nat_list_cmp_total)
    (then_total (on_total (λ (k : Key). k.formatter) nat_list_cmp_total)
    (then_total (on_total (λ (k : Key). k.sequence) (options_total nat_cmp_total))
    (on_total (λ (k : Key). k.channel) nat_list_cmp_total))))

then_eq : (o p : Ordering) (s t : Bool) → is_eq o ≡ s → is_eq p ≡ t → is_eq (ordering_then o p) ≡ s && t
then_eq Less p s t d e = ap (λ b. b && t) d
then_eq Equal p s t d e = e ∙ ap (λ b. b && t) d
then_eq Greater p s t d e = ap (λ b. b && t) d

by_tests : (less same : Bool) → (less ≡ true → same ≡ false) → is_eq (cond less Less (cond same Equal Greater)) ≡ same
by_tests true same apart = sym (apart refl)
by_tests false true apart = refl
by_tests false false apart = refl

number_eq : (a b : ℕ) → is_eq (nat_cmp a b) ≡ nat_eq a b
number_eq a b = by_tests (nat_lt a b) (a == b) (λ less. let l = ltb-true a b less in ne_eqb a b (λ same. absurd (omega (arith, l, same))))

option_is : (a b : Option ℕ) → is_eq (option_cmp nat_cmp a b) ≡ option_eq nat_eq a b
option_is None None = refl
option_is None (Some b) = refl
option_is (Some a) None = refl
option_is (Some a) (Some b) = number_eq a b

-- Keys are equal in their order where they are the same.
pub same_by : (a b : Key) → is_eq (key_cmp a b) ≡ is_same a b
unfolding key_cmp is_same
same_by a b =
    then_eq _ _ _ _ (number_eq a.group b.group)
    (then_eq _ _ _ _ (is_eq-slice_cmp a.source b.source)
    (then_eq _ _ _ _ (is_eq-slice_cmp a.formatter b.formatter)
    (then_eq _ _ _ _ (option_is a.sequence b.sequence) (is_eq-slice_cmp a.channel b.channel))))

option_same : (a b : Option ℕ) → option_eq nat_eq a b ≡ true → a ≡ b
option_same None None e = refl
option_same None (Some b) e = absurd (true≢false (sym e))
option_same (Some a) None e = absurd (true≢false (sym e))
option_same (Some a) (Some b) e = ap Some (eqb-true a b e)

-- Keys that are tested as the same are one.
pub same_key : (a b : Key) → is_same a b ≡ true → a ≡ b
unfolding is_same
same_key a b e =
    let p = and_parts (a.group == b.group) _ e in
    let q = and_parts (bytes_eq a.source b.source) _ p.1 in
    let r = and_parts (bytes_eq a.formatter b.formatter) _ q.1 in
    let s = and_parts (option_eq nat_eq a.sequence b.sequence) _ r.1 in
    let group : a.group ≡ b.group = eqb-true a.group b.group p.0 in
    let source : a.source ≡ b.source = (bytes_eq-Decides a.source b.source).0 q.0 in
    let formatter : a.formatter ≡ b.formatter = (bytes_eq-Decides a.formatter b.formatter).0 r.0 in
    let sequence = option_same a.sequence b.sequence s.0 in
    let channel : a.channel ≡ b.channel = (bytes_eq-Decides a.channel b.channel).0 s.1 in
    λ i. record { group = group i; source = source i; formatter = formatter i; sequence = sequence i; channel = channel i }
