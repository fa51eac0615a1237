-- The summary of records and of more behind them, and that records have one.
use Rattle.std.proofs.Common.{◌≡◌, ◌⊎◌, ◌+◌, ◌/◌, ◌%◌, ◌^◌, ◌==◌, ◌||◌, ℕ, zero, suc, ℤ, true, pos, negsuc, ◌<◌, List, [], ◌∷◌, ◌++◌, slice_get, All, Any, Option, Some, None, inl, inr, ⊎_elim, refl, sym, ap, ◌∙◌, subst, arith, length-append}
use Rattle.std.specs.Prelude.{bit_or, int_le, option_map, max, min}
use Rattle.std.specs.List.{list_any}
use Rattle.std.specs.Int.{bit_at}
use Rattle.std.proofs.lemmas.Nat.Bits.{bit_at_or, bit_at-lt, same_from_bits}
use Rattle.std.proofs.lemmas.List.Folds.{list_any-append}
use Rattle.std.proofs.lemmas.List.Elements.{All-append, All-weaker}
use Rattle.std.proofs.lemmas.Bool.{cases_eq, true≢false, leb-true}
use Rattle.std.proofs.lemmas.Option.{none-some, same_Some}
use Rattle.vdr_terms.specs.Records.{Record, second, last}
use Rattle.vdr_terms.specs.Queries.{has_channel}
use Rattle.vdr_terms.proofs.Running.{last_join}
use Rattle.vdr_terms.proofs.Somewhere.{any_left, any_right}
use Rattle.vdr_terms.proofs.Meeting.{int_le_trans}
use Rattle.vdr_entry.specs.declared.summary.Summary.{Summary}
use Rattle.vdr_index.specs.Summaries.{IsSummaryOf, Summarises, greatest_count}

-- Bits

two : (n : ℕ) → (n % 2 ≡ 0) ⊎ (n % 2 ≡ 1)
two n = ⊎_elim (λ (z : n % 2 ≡ 0). inl z) (λ (nz : n % 2 ≡ 0 → ⊥). inr (omega (arith, nz))) (cases_eq (n % 2) 0)

either_bit : (x y : ℕ) → (x ≡ 0) ⊎ (x ≡ 1) → (y ≡ 0) ⊎ (y ≡ 1) → (max x y == 1) ≡ ((x == 1) || (y == 1))
either_bit x y (inl e) (inl f) = rw (e, f) refl
either_bit x y (inl e) (inr f) = rw (e, f) refl
either_bit x y (inr e) (inl f) = rw (e, f) refl
either_bit x y (inr e) (inr f) = rw (e, f) refl

pub has_or : (k a b : ℕ) → has_channel (Some k) (bit_or a b) ≡ (has_channel (Some k) a || has_channel (Some k) b)
has_or k a b = ap (λ (n : ℕ). n == 1) (bit_at_or a b k) ∙ either_bit (bit_at a k) (bit_at b k) (two (a / 2 ^ k)) (two (b / 2 ^ k))

-- Stamps

abbrev Within : (l g : ℤ) → Record → Type 0
Within l g r = (int_le l r.utc ≡ true) × (int_le r.utc g ≡ true)

-- First and last

first_of : (xs ys : List Record) (s : ℕ) → option_map (λ r. second r.tick) (slice_get xs 0) ≡ Some s → option_map (λ r. second r.tick) (slice_get (xs ++ ys) 0) ≡ Some s
first_of [] ys s e = absurd (none-some s e)
first_of (x ∷ xs) ys s e = e

last_of : (xs ys : List Record) (s : ℕ) → option_map (λ r. second r.tick) (last ys) ≡ Some s → option_map (λ r. second r.tick) (last (xs ++ ys)) ≡ Some s
last_of xs [] s e = absurd (none-some s e)
last_of [] (y ∷ ys) s e = e
last_of (x ∷ xs) (y ∷ ys) s e = ap (λ (r : Record). Some (second r.tick)) (last_join x xs y ys) ∙ e

-- Both

pub joined_summary : (a b : Summary) (n : ℕ) → n ≡ min (a.count + b.count) greatest_count → (l g : ℤ) → int_le l a.least_utc ≡ true → int_le l b.least_utc ≡ true → (l ≡ a.least_utc) ⊎ (l ≡ b.least_utc)
    → int_le a.greatest_utc g ≡ true → int_le b.greatest_utc g ≡ true → (g ≡ a.greatest_utc) ⊎ (g ≡ b.greatest_utc) → (xs ys : List Record) → IsSummaryOf xs a → IsSummaryOf ys b
    → IsSummaryOf (xs ++ ys) (record { count = n; first_second = a.first_second; last_second = b.last_second; least_utc = l; greatest_utc = g; bits = bit_or a.bits b.bits })
joined_summary a b n n_is l g la lb lone ga gb gone xs ys p q = record {
  count = let x = p.count in let y = q.count in omega (arith, n_is, x, y, length-append xs ys);
  first_second = first_of xs ys a.first_second p.first_second;
  last_second = last_of xs ys b.last_second q.last_second;
  utc = All-append (Within l g) xs ys
      (All-weaker (Within a.least_utc a.greatest_utc) (Within l g) (λ r h. (int_le_trans l a.least_utc r.utc la h.0, int_le_trans r.utc a.greatest_utc g h.1 ga)) xs p.utc)
      (All-weaker (Within b.least_utc b.greatest_utc) (Within l g) (λ r h. (int_le_trans l b.least_utc r.utc lb h.0, int_le_trans r.utc b.greatest_utc g h.1 gb)) ys q.utc);
  least = ⊎_elim
      (λ (e : l ≡ a.least_utc). subst (λ (z : ℤ). Any (λ (r : Record). r.utc ≡ z) (xs ++ ys)) (sym e) (any_left (λ (r : Record). r.utc ≡ a.least_utc) xs ys p.least))
      (λ (e : l ≡ b.least_utc). subst (λ (z : ℤ). Any (λ (r : Record). r.utc ≡ z) (xs ++ ys)) (sym e) (any_right (λ (r : Record). r.utc ≡ b.least_utc) xs ys q.least))
      lone;
  greatest = ⊎_elim
      (λ (e : g ≡ a.greatest_utc). subst (λ (z : ℤ). Any (λ (r : Record). r.utc ≡ z) (xs ++ ys)) (sym e) (any_left (λ (r : Record). r.utc ≡ a.greatest_utc) xs ys p.greatest))
      (λ (e : g ≡ b.greatest_utc). subst (λ (z : ℤ). Any (λ (r : Record). r.utc ≡ z) (xs ++ ys)) (sym e) (any_right (λ (r : Record). r.utc ≡ b.greatest_utc) xs ys q.greatest))
      gone;
  bits = λ k. has_or k a.bits b.bits ∙ both k ∙ sym (list_any-append (λ (r : Record). has_channel (Some k) r.bits) xs ys);
}
  where
    both : (k : ℕ) → (has_channel (Some k) a.bits || has_channel (Some k) b.bits) ≡ (list_any (λ (r : Record). has_channel (Some k) r.bits) xs || list_any (λ (r : Record). has_channel (Some k) r.bits) ys)
    both k = λ i. p.bits k i || q.bits k i

-- Records have one summary

int_le_antisymmetric : (a b : ℤ) → int_le a b ≡ true → int_le b a ≡ true → a ≡ b
int_le_antisymmetric (pos a) (pos b) p q = let x = leb-true a b p in let y = leb-true b a q in let e : a ≡ b = omega (arith, x, y) in ap pos e
int_le_antisymmetric (pos a) (negsuc b) p q = absurd (true≢false (sym p))
int_le_antisymmetric (negsuc a) (pos b) p q = absurd (true≢false (sym q))
int_le_antisymmetric (negsuc a) (negsuc b) p q = let x = leb-true b a p in let y = leb-true a b q in let e : a ≡ b = omega (arith, x, y) in ap negsuc e

bit_by_test : (x y : ℕ) → x < 2 → y < 2 → (x == 1) ≡ (y == 1) → x ≡ y
bit_by_test zero zero p q e = refl
bit_by_test zero (suc zero) p q e = absurd (true≢false (sym e))
bit_by_test (suc zero) zero p q e = absurd (true≢false e)
bit_by_test (suc zero) (suc zero) p q e = refl
bit_by_test (suc (suc x)) y p q e = absurd (omega (arith, p))
bit_by_test zero (suc (suc y)) p q e = absurd (omega (arith, q))
bit_by_test (suc zero) (suc (suc y)) p q e = absurd (omega (arith, q))

same_bits : (a b : ℕ) → ((k : ℕ) → has_channel (Some k) a ≡ has_channel (Some k) b) → a ≡ b
same_bits a b same = same_from_bits a b (λ k. bit_by_test (bit_at a k) (bit_at b k) (bit_at-lt a k) (bit_at-lt b k) (same k))

-- the stamp that one has lies within the bounds of both
found_within : (records : List Record) (l g z : ℤ) → All (Within l g) records → Any (λ r. r.utc ≡ z) records → (int_le l z ≡ true) × (int_le z g ≡ true)
found_within records l g z all h =
    let w : Within l g h.1 = subst (Within l g) h.3 (all h.0 h.1 h.2) in
    subst (λ (u : ℤ). (int_le l u ≡ true) × (int_le u g ≡ true)) h.4 w

one_summary : (records : List Record) (s t : Summary) → IsSummaryOf records s → IsSummaryOf records t → s ≡ t
one_summary records s t p q = by_fields s t (p.count ∙ sym q.count)
    (same_Some s.first_second t.first_second (sym p.first_second ∙ q.first_second)) (same_Some s.last_second t.last_second (sym p.last_second ∙ q.last_second))
    (int_le_antisymmetric s.least_utc t.least_utc (found_within records s.least_utc s.greatest_utc t.least_utc p.utc q.least).0 (found_within records t.least_utc t.greatest_utc s.least_utc q.utc p.least).0)
    (int_le_antisymmetric s.greatest_utc t.greatest_utc (found_within records t.least_utc t.greatest_utc s.greatest_utc q.utc p.greatest).1 (found_within records s.least_utc s.greatest_utc t.greatest_utc p.utc q.greatest).1)
    (same_bits s.bits t.bits (λ k. p.bits k ∙ sym (q.bits k)))
  where
    by_fields : (s t : Summary) → s.count ≡ t.count → s.first_second ≡ t.first_second → s.last_second ≡ t.last_second → s.least_utc ≡ t.least_utc → s.greatest_utc ≡ t.greatest_utc → s.bits ≡ t.bits → s ≡ t
    by_fields s t a b c d e f = λ i. record { count = a i; first_second = b i; last_second = c i; least_utc = d i; greatest_utc = e i; bits = f i }

none_summarised : (records : List Record) (s : Summary) → records ≡ [] → IsSummaryOf records s → ⊥
none_summarised records s none p = none-some s.first_second (subst (λ (rs : List Record). option_map (λ r. second r.tick) (slice_get rs 0) ≡ Some s.first_second) none p.first_second)

pub one_summarised : (records : List Record) (s t : Option Summary) → Summarises records s → Summarises records t → s ≡ t
one_summarised records None None p q = refl
one_summarised records None (Some t) p q = absurd (none_summarised records t p q)
one_summarised records (Some s) None p q = absurd (none_summarised records s q p)
one_summarised records (Some s) (Some t) p q = ap (λ (x : Summary). Some x) (one_summary records s t p q)
