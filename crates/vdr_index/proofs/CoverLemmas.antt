-- Whether records are within a summary, by the one that they have of their own.
use Rattle.std.proofs.Common.{◌≡◌, ◌≤◌, ◌||◌, ℕ, ℤ, Bool, true, List, [], ◌∷◌, slice_get, All, Any, Some, ⊎_elim, sym, ap, ◌∙◌, subst, arith, eq-eqb}
use Rattle.std.specs.Prelude.{bit_or, int_le, option_map}
use Rattle.std.specs.List.{list_any}
use Rattle.std.specs.Int.{bit_at}
use Rattle.std.proofs.lemmas.Bool.{cases_eq, eqb-true, or_left, or_right}
use Rattle.std.proofs.lemmas.List.Elements.{All-nil, All-cons, All-head, All-tail, All-contains}
use Rattle.std.proofs.lemmas.List.Folds.{Any-from_list_any}
use Rattle.std.proofs.lemmas.Nat.Bits.{bit_at_or, bit_at-lt, same_from_bits}
use Rattle.std.proofs.lemmas.Option.{none-some, same_Some}
use Rattle.vdr_terms.specs.Records.{Record, last, last_after, second}
use Rattle.vdr_terms.specs.Order.{NeverFalls}
use Rattle.vdr_terms.specs.Queries.{has_channel}
use Rattle.vdr_terms.proofs.Meeting.{int_le_trans}
use Rattle.vdr_entry.specs.declared.summary.Summary.{Summary}
use Rattle.vdr_index.specs.Summaries.{IsSummaryOf}
use Rattle.vdr_index.specs.Audits.{Covers, IsCovered}
use Rattle.vdr_index.proofs.JoinLemmas.{has_or}

-- Bits that are all among others

pub wider : (a b : ℕ) → bit_or a b ≡ b → (k : ℕ) → has_channel (Some k) a ≡ true → has_channel (Some k) b ≡ true
wider a b e k h = ap (has_channel (Some k)) (sym e) ∙ has_or k a b ∙ ap (λ (x : Bool). x || has_channel (Some k) b) h

pub no_wider : (a b : ℕ) → ((k : ℕ) → has_channel (Some k) a ≡ true → has_channel (Some k) b ≡ true) → bit_or a b ≡ b
no_wider a b h = same_from_bits (bit_or a b) b (λ k. ⊎_elim
    (λ (one : bit_at a k ≡ 1). let c : bit_at b k ≡ 1 = eqb-true (bit_at b k) 1 (h k (eq-eqb (bit_at a k) 1 one)) in let r : bit_at (bit_or a b) k ≡ bit_at b k = omega (arith, bit_at_or a b k, one, c) in r)
    (λ (ne : bit_at a k ≡ 1 → ⊥). let r : bit_at (bit_or a b) k ≡ bit_at b k = omega (arith, bit_at_or a b k, ne, bit_at-lt a k) in r)
    (cases_eq (bit_at a k) 1))

-- Records whose ticks never fall

first_to_last : (x : Record) (xs : List Record) → NeverFalls x.tick xs → x.tick ≤ (last_after x xs).tick
first_to_last x [] h = omega arith
first_to_last x (y ∷ ys) h = let a = h.0 in let b = first_to_last y ys h.1 in omega (arith, a, b)

-- what is known of a record: its second is no earlier and no later than these, and its stamp and its bits are among those
record IsKnown (own : Summary) (r : Record) : Type 0 where
  no_earlier : own.first_second ≤ second r.tick
  no_later : second r.tick ≤ own.last_second
  utc : (int_le own.least_utc r.utc ≡ true) × (int_le r.utc own.greatest_utc ≡ true)
  bits : (k : ℕ) → has_channel (Some k) r.bits ≡ true → has_channel (Some k) own.bits ≡ true

known_covered : (s own : Summary) (r : Record) → Covers s own → IsKnown own r → IsCovered s r
known_covered s own r c k =
    let a = k.no_earlier in
    let b = k.no_later in
    let d = c.first in
    let e = c.ends in
    record {
      no_earlier = omega (arith, a, d);
      no_later = omega (arith, b, e);
      least = int_le_trans s.least_utc own.least_utc r.utc c.least k.utc.0;
      greatest = int_le_trans r.utc own.greatest_utc s.greatest_utc k.utc.1 c.greatest;
      bits = λ j one. c.bits j (k.bits j one);
    }

module _ (s own : Summary) (c : Covers s own) where
  abbrev Stamped : Record → Type 0
  Stamped r = (int_le own.least_utc r.utc ≡ true) × (int_le r.utc own.greatest_utc ≡ true)

  abbrev Has : ℕ → Record → Bool
  Has k r = has_channel (Some k) r.bits

  -- each of the records behind one
  each_behind : (x : Record) (rs : List Record) → own.first_second ≤ second x.tick → NeverFalls x.tick rs → second (last_after x rs).tick ≤ own.last_second
      → All Stamped rs → ((k : ℕ) → list_any (Has k) rs ≡ true → has_channel (Some k) own.bits ≡ true) → All (IsCovered s) rs
  each_behind x [] from falls to utc bits = All-nil (IsCovered s)
  each_behind x (y ∷ ys) from falls to utc bits =
      let a = falls.0 in
      let begins : own.first_second ≤ second y.tick = omega (arith, from, a) in
      let here : IsCovered s y = known_covered s own y c (record {
        no_earlier = begins;
        no_later = let b = first_to_last y ys falls.1 in omega (arith, b, to);
        utc = All-head Stamped y ys utc;
        bits = λ k one. bits k (or_left (Has k y) (list_any (Has k) ys) one);
      }) in
      All-cons (IsCovered s) y ys here (each_behind y ys begins falls.1 to (All-tail Stamped y ys utc) (λ k one. bits k (or_right (Has k y) (list_any (Has k) ys) one)))

pub covered : (rs : List Record) (s own : Summary) → NeverFalls 0 rs → IsSummaryOf rs own → Covers s own → All (IsCovered s) rs
covered [] s own falls is c = All-nil (IsCovered s)
covered (x ∷ xs) s own falls is c =
    let a : second x.tick ≡ own.first_second = same_Some (second x.tick) own.first_second is.first_second in
    let b : second (last_after x xs).tick ≡ own.last_second = same_Some (second (last_after x xs).tick) own.last_second is.last_second in
    each_behind s own c x (x ∷ xs) (omega (arith, a)) (omega arith, falls.1) (omega (arith, b)) is.utc (λ k one. is.bits k ∙ one)

-- Records that are all within a summary

last_covered : (P : Record → Type 0) (x : Record) (xs : List Record) → All P (x ∷ xs) → P (last_after x xs)
last_covered P x [] all = All-head P x [] all
last_covered P x (y ∷ ys) all = last_covered P y ys (All-tail P x (y ∷ ys) all)

first_within : (rs : List Record) (s : Summary) (n : ℕ) → option_map (λ r. second r.tick) (slice_get rs 0) ≡ Some n → All (IsCovered s) rs → s.first_second ≤ n
first_within [] s n is all = absurd (none-some n is)
first_within (x ∷ xs) s n is all = let a : second x.tick ≡ n = same_Some (second x.tick) n is in let b = (All-head (IsCovered s) x xs all).no_earlier in omega (arith, a, b)

last_within : (rs : List Record) (s : Summary) (n : ℕ) → option_map (λ r. second r.tick) (last rs) ≡ Some n → All (IsCovered s) rs → n ≤ s.last_second
last_within [] s n is all = absurd (none-some n is)
last_within (x ∷ xs) s n is all =
    let a : second (last_after x xs).tick ≡ n = same_Some (second (last_after x xs).tick) n is in
    let b = (last_covered (IsCovered s) x xs all).no_later in
    omega (arith, a, b)

-- what holds of each record holds of one that is found
found : (rs : List Record) (s : Summary) (P : Record → Type 0) (Q : Type 0) → All (IsCovered s) rs → Any P rs → ((r : Record) → IsCovered s r → P r → Q) → Q
found rs s P Q all h then = then h.1 (All-contains (IsCovered s) rs h.1 all (h.0, h.2, h.3)) h.4

pub covers : (rs : List Record) (s own : Summary) → IsSummaryOf rs own → All (IsCovered s) rs → Covers s own
covers rs s own is all = record {
  first = first_within rs s own.first_second is.first_second all;
  ends = last_within rs s own.last_second is.last_second all;
  least = found rs s (λ r. r.utc ≡ own.least_utc) (int_le s.least_utc own.least_utc ≡ true) all is.least (λ r c e. subst (λ (z : ℤ). int_le s.least_utc z ≡ true) e c.least);
  greatest = found rs s (λ r. r.utc ≡ own.greatest_utc) (int_le own.greatest_utc s.greatest_utc ≡ true) all is.greatest (λ r c e. subst (λ (z : ℤ). int_le z s.greatest_utc ≡ true) e c.greatest);
  bits = λ k one.
      found rs s (λ r. has_channel (Some k) r.bits ≡ true) (has_channel (Some k) s.bits ≡ true) all
      (Any-from_list_any (λ (r : Record). has_channel (Some k) r.bits) rs (sym (is.bits k) ∙ one)) (λ r c e. c.bits k e);
}
