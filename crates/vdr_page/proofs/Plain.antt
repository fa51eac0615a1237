-- Bytes that stand for themselves, in one piece.
use Rattle.std.proofs.Common.{◌≡◌, ◌∙◌, ◌||◌, ◌==◌, ◌++◌, ◌+◌, ℕ, zero, suc, Bool, true, cond, List, [], ◌∷◌, All, codes, take, drop, refl, sym, ap, append_assoc, get_or, length, ◌-◌, ◌<◌, ◌/◌, ◌%◌, subst, arith, add-one}
use Rattle.std.specs.List.{flat_map}
use Rattle.std.proofs.lemmas.Grind.{flat_map-append}
use Rattle.std.proofs.lemmas.List.Elements.{All-cons, All-head, All-nil, All-tail}
use Rattle.std.proofs.Math.Seq.{take-add}
use Rattle.std.proofs.lemmas.List.{take_rest}
use Rattle.vdr_page.specs.Strings.{escaped, hex_digit, inlined, is_plain}

one_escaped : (byte : ℕ) → is_plain byte ≡ true → escaped byte ≡ byte ∷ []
unfolding escaped
one_escaped byte is = ap (λ (plain : Bool). cond plain (byte ∷ []) (codes "\\u00" ++ hex_digit (byte / 16 % 16) ∷ hex_digit (byte % 16) ∷ [])) is

one_inlined : (byte : ℕ) → is_plain byte ≡ true → inlined byte ≡ byte ∷ []
unfolding inlined
one_inlined byte is = ap (λ (plain : Bool). cond (plain || byte == 34 || byte == 92) (byte ∷ []) (escaped byte)) is

module _ (f : ℕ → List ℕ) (one : (byte : ℕ) → is_plain byte ≡ true → f byte ≡ byte ∷ []) where
  all_same : (xs : List ℕ) → All (λ byte. is_plain byte ≡ true) xs → flat_map f xs ≡ xs
  all_same [] h = refl
  all_same (x ∷ xs) h = (λ i. one x (All-head (λ byte. is_plain byte ≡ true) x xs h) i ++ all_same xs (All-tail (λ byte. is_plain byte ≡ true) x xs h) i)

pub plain_escaped : (xs : List ℕ) → All (λ byte. is_plain byte ≡ true) xs → xs ≡ flat_map escaped xs
plain_escaped xs h = sym (all_same escaped one_escaped xs h)

pub plain_inlined : (xs : List ℕ) → All (λ byte. is_plain byte ≡ true) xs → xs ≡ flat_map inlined xs
plain_inlined xs h = sym (all_same inlined one_inlined xs h)

-- The text with more of the bytes.
pub more_of : (f : ℕ → List ℕ) (xs text now all : List ℕ) (done count : ℕ) → now ≡ text ++ flat_map f (take done xs)
    → all ≡ now ++ flat_map f (take count (take (length xs - done) (drop done xs))) → all ≡ text ++ flat_map f (take (done + count) xs)
more_of f xs text now all done count now_is all_is =
    all_is ∙ ap (λ (rest : List ℕ). now ++ flat_map f (take count rest)) (take_rest xs done) ∙ ap (λ (t : List ℕ). t ++ flat_map f (take count (drop done xs))) now_is
    ∙ append_assoc text (flat_map f (take done xs)) (flat_map f (take count (drop done xs)))
    ∙ ap (λ (t : List ℕ). text ++ t) (sym (flat_map-append f (take done xs) (take count (drop done xs))) ∙ ap (flat_map f) (sym (take-add done count xs)))

all_take : (xs : List ℕ) (n : ℕ) → n < length xs → All (λ byte. is_plain byte ≡ true) (take n xs) → is_plain (get_or xs n 0) ≡ true → All (λ byte. is_plain byte ≡ true) (take (suc n) xs)
all_take [] n lt h here = absurd (omega (arith, lt))
all_take (x ∷ xs) zero lt h here = All-cons (λ byte. is_plain byte ≡ true) x [] here (All-nil (λ byte. is_plain byte ≡ true))
all_take (x ∷ xs) (suc n) lt h here =
    All-cons (λ byte. is_plain byte ≡ true) x (take (suc n) xs) (All-head (λ byte. is_plain byte ≡ true) x (take n xs) h)
    (all_take xs n (omega (arith, lt)) (All-tail (λ byte. is_plain byte ≡ true) x (take n xs) h) here)

pub one_more_plain : (xs : List ℕ) (n : ℕ) → n < length xs → All (λ byte. is_plain byte ≡ true) (take n xs) → is_plain (get_or xs n 0) ≡ true → All (λ byte. is_plain byte ≡ true) (take (n + 1) xs)
one_more_plain xs n lt h here = subst (λ (k : ℕ). All (λ byte. is_plain byte ≡ true) (take k xs)) (sym (add-one n)) (all_take xs n lt h here)
