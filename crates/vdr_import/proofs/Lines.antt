-- The lines of an account, one more.
use Rattle.std.proofs.Common.{◌≡◌, ◌+◌, ℕ, List, ◌++◌, ap, ◌∙◌, sym, [], append_assoc, add-one}
use Rattle.std.proofs.lemmas.List.{append-nil}
use Rattle.std.specs.Prelude.{get_or}
use Rattle.vdr_pcap.specs.declared.account.Account.{Account}
use Rattle.vdr_import.specs.AccountTexts.{group_line, groups_below, left_below, left_line}

-- a text that grew by lines and by one line more
pub grown_by : (start before now lines line all : List ℕ) → before ≡ start ++ lines → now ≡ before ++ line → all ≡ lines ++ line → now ≡ start ++ all
grown_by start before now lines line all b n a =
    n ∙ ap (λ (t : List ℕ). t ++ line) b ∙ append_assoc start lines line ∙ ap (λ (t : List ℕ). start ++ t) (sym a)

pub groups_more : (g whole cut : ℕ) (a : Account) → whole ≡ get_or a.whole g 0 → cut ≡ get_or a.cut g 0 → groups_below (g + 1) a ≡ groups_below g a ++ group_line g whole cut
unfolding groups_below
groups_more g whole cut a w c = ap (λ (n : ℕ). groups_below n a) (add-one g) ∙ (λ i. groups_below g a ++ group_line g (sym w i) (sym c i))

pub left_more : (row n : ℕ) (a : Account) → n ≡ get_or a.left row 0 → left_below (row + 1) a ≡ left_below row a ++ left_line row n
unfolding left_below
left_more row n a is = ap (λ (k : ℕ). left_below k a) (add-one row) ∙ (λ i. left_below row a ++ left_line row (sym is i))

none_more : (xs : List ℕ) → xs ≡ xs ++ []
none_more xs = sym (append-nil xs)

pub none_grown_groups : (xs : List ℕ) (a : Account) → xs ≡ xs ++ groups_below 0 a
unfolding groups_below
none_grown_groups xs a = none_more xs

pub none_grown_left : (xs : List ℕ) (a : Account) → xs ≡ xs ++ left_below 0 a
unfolding left_below
none_grown_left xs a = none_more xs
