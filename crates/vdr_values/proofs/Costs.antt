-- How long a text of the table is printed, each field of which stands in it once at most.
use Rattle.std.proofs.Common.{◌≡◌, ◌≤◌, ◌<◌, ◌+◌, ◌-◌, ◌*◌, ℕ, zero, suc, Bool, true, false, not, ◌&&◌, ◌||◌, List, [], ◌∷◌, length, take, drop, sum_by, Option, Some, None, refl, ap, arith, length-append, eqb, ltb}
use Rattle.std.proofs.lemmas.Bool.{and_parts, or_parts, eqb-false, ltb-true}
use Rattle.std.proofs.lemmas.List.Sums.{sum_by-cons}
use Rattle.vdr_values.specs.Values.{value_at}
use Rattle.vdr_values.specs.Texts.{field_text, group_text, index_in, piece, piece_of, text_along}
use Rattle.vdr_values.proofs.Along.{Values}
use Rattle.vdr_values.proofs.Legal.{text_size}

-- The costs below a number, in all.
abbrev pub in_all : (ℕ → ℕ) → ℕ → ℕ
in_all w zero = 0
in_all w (suc n) = w 0 + in_all (λ k. w (suc k)) n

-- The costs where that of one is nothing.
abbrev without : (ℕ → ℕ) → (k j : ℕ) → ℕ
without w zero zero = 0
without w zero (suc j) = w (suc j)
without w (suc k) zero = w 0
without w (suc k) (suc j) = without (λ i. w (suc i)) k j

in_all-without : (w : ℕ → ℕ) (k n : ℕ) → k < n → in_all w n ≡ w k + in_all (without w k) n
in_all-without w k zero below = absurd (omega (arith, below))
in_all-without w zero (suc n) below = omega arith
in_all-without w (suc k) (suc n) below = omega (arith, in_all-without (λ i. w (suc i)) k n (omega (arith, below)))

without-other : (w : ℕ → ℕ) (k j : ℕ) → (j ≡ k → ⊥) → without w k j ≡ w j
without-other w zero zero other = absurd (other refl)
without-other w zero (suc j) other = refl
without-other w (suc k) zero other = refl
without-other w (suc k) (suc j) other = without-other (λ i. w (suc i)) k j (λ e. other (ap suc e))

-- What a byte of the text costs, and the text.
abbrev byte_cost : (ℕ → ℕ) → Option ℕ → ℕ
byte_cost w None = 1
byte_cost w (Some k) = w k

abbrev pub cost : (ℕ → ℕ) → List ℕ → ℕ
cost w [] = 0
cost w (b ∷ text) = byte_cost w (index_in b) + cost w text

abbrev is_index : ℕ → Option ℕ → Bool
is_index k None = false
is_index k (Some j) = eqb j k

abbrev mentions : ℕ → List ℕ → Bool
mentions k [] = false
mentions k (b ∷ text) = is_index k (index_in b) || mentions k text

abbrev is_new : ℕ → Option ℕ → List ℕ → Bool
is_new n None text = true
is_new n (Some k) text = ltb k n && not (mentions k text)

-- Each of the first n fields stands in the text once at most, and no other.
abbrev pub is_once : ℕ → List ℕ → Bool
is_once n [] = true
is_once n (b ∷ text) = is_new n (index_in b) text && is_once n text

abbrev is_word : Option ℕ → ℕ
is_word None = 1
is_word (Some k) = 0

-- The bytes of the text that stand for themselves.
abbrev pub words : List ℕ → ℕ
words [] = 0
words (b ∷ text) = is_word (index_in b) + words text

cost-without : (w : ℕ → ℕ) (k : ℕ) (text : List ℕ) → mentions k text ≡ false → cost (without w k) text ≡ cost w text
cost-without w k [] h = refl
cost-without w k (b ∷ text) h =
    let parts = or_parts (is_index k (index_in b)) (mentions k text) h in
    (λ i. by_index (index_in b) parts.0 i + cost-without w k text parts.1 i)
  where
    by_index : (o : Option ℕ) → is_index k o ≡ false → byte_cost (without w k) o ≡ byte_cost w o
    by_index None h = refl
    by_index (Some j) h = without-other w k j (eqb-false j k h)

not-true : (b : Bool) → not b ≡ true → b ≡ false
not-true false h = refl
not-true true h = absurd (cc)

pub cost-once : (w : ℕ → ℕ) (n : ℕ) (text : List ℕ) → is_once n text ≡ true → cost w text ≤ words text + in_all w n
cost-once w n [] h = omega arith
cost-once w n (b ∷ text) h =
    let parts = and_parts (is_new n (index_in b) text) (is_once n text) h in
    by_index (index_in b) parts.0 (λ v. cost-once v n text parts.1)
  where
    by_index : (o : Option ℕ) → is_new n o text ≡ true → ((v : ℕ → ℕ) → cost v text ≤ words text + in_all v n) → byte_cost w o + cost w text ≤ is_word o + words text + in_all w n
    by_index None h more = omega (arith, more w)
    by_index (Some k) h more =
        let parts = and_parts (ltb k n) (not (mentions k text)) h in
        omega (arith, more (without w k), cost-without w k text (not-true _ parts.1), in_all-without w k n (ltb-true k n parts.0))

-- What the field at an index costs; one that is left out is printed as `null`.
abbrev pub cost_in : Values → ℕ → ℕ
cost_in values k = text_size (value_at values k)

pub length-text_along : (text : List ℕ) (values : Values) → length (text_along text values) ≡ cost (cost_in values) text
length-text_along [] values = refl
length-text_along (b ∷ text) values = omega (arith, length-append (piece values b) (text_along text values), length-text_along text values, by_index (index_in b))
  where
    by_index : (o : Option ℕ) → length (piece_of b o values) ≡ byte_cost (cost_in values) o
    by_index None = refl
    by_index (Some k) = refl

none-taken : (n : ℕ) → sum_by text_size (take n []) ≡ 0
none-taken zero = refl
none-taken (suc n) = refl

pub in_all-values : (values : Values) (n : ℕ) → in_all (cost_in values) n ≤ sum_by text_size (take n values) + 4 * (n - length values)
in_all-values values zero = omega arith
in_all-values [] (suc n) = omega (arith, in_all-values [] n, none-taken n)
in_all-values (value ∷ values) (suc n) = omega (arith, in_all-values values n, sum_by-cons text_size value (take n values))

pub length-group_text : (values : Values) → length (group_text values) ≡ length values + sum_by text_size values
length-group_text [] = refl
length-group_text (value ∷ values) = omega (arith, length-append (32 ∷ field_text value) (group_text values), length-group_text values, sum_by-cons text_size value values)

pub sum-parts : (n : ℕ) (values : Values) → sum_by text_size (take n values) + sum_by text_size (drop n values) ≡ sum_by text_size values
sum-parts zero values = omega arith
sum-parts (suc n) [] = refl
sum-parts (suc n) (value ∷ values) = omega (arith, sum-parts n values, sum_by-cons text_size value (take n values), sum_by-cons text_size value values)
