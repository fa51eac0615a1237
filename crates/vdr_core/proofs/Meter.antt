-- A refusal at the meter is shown by the records.
use Rattle.std.proofs.Common.{◌≡◌, ◌≤◌, ◌<◌, ◌+◌, ◌⊎◌, ℕ, List, [], ◌∷◌, ◌++◌, length, map, filter, sum, Bool, true, false, cond, not, ◌&&◌, ◌==◌, nat_lt, nat_le, Option, Some, refl, sym, ap, ◌∙◌, subst, arith, inl, inr, ⊎_elim, true≢false}
use Rattle.std.proofs.lemmas.Bool.{cases_Bool, cases_lt, and_from, or_left, or_right, cond-true, cond-false, ltb-false, lt-ltb, le-leb, ne_eqb, both_ways}
use Rattle.std.proofs.lemmas.List.Elements.{filter-append}
use Rattle.vdr_terms.specs.Records.{Content, Record, Item, second, payload_of, is_datagram, has_items, records_of, datagrams_of, last, last_after}
use Rattle.vdr_terms.specs.Records.Content.{Start, Datagram, Gap, Stop}
use Rattle.vdr_terms.specs.declared.rate.Rate.{Rate}
use Rattle.vdr_terms.specs.Rates.Limit.{NotConfigured, Unlimited, AtMost}
use Rattle.vdr_terms.specs.Rates.{Limit, is_admitted, is_full_after, is_licensed}

-- a test that is stronger keeps the same after a weaker one
pub filter_twice : {X : Type 0} (p q : X → Bool) → ((x : X) → p x ≡ true → q x ≡ true) → (xs : List X) → filter p (filter q xs) ≡ filter p xs
filter_twice p q up [] = refl
filter_twice {X} p q up (x ∷ xs) =
    ⊎_elim
    (λ (e : q x ≡ true).
    ap (filter p) (cond-true (q x) (x ∷ filter q xs) (filter q xs) e) ∙ ap (λ (ys : List X). cond (p x) (x ∷ ys) ys) (filter_twice p q up xs))
    (λ (e : q x ≡ false).
    ap (filter p) (cond-false (q x) (x ∷ filter q xs) (filter q xs) e)
    ∙ (filter_twice p q up xs ∙ sym (cond-false (p x) (x ∷ filter p xs) (filter p xs) (none e))))
    (cases_Bool (q x))
  where
    none : q x ≡ false → p x ≡ false
    none e = ⊎_elim (λ (t : p x ≡ true). absurd (both_ways (q x) e (up x t))) (λ (f : p x ≡ false). f) (cases_Bool (p x))

data_has_items : (c : Content) (b : Bool) → (is_datagram c && b) ≡ true → (has_items c && b) ≡ true
data_has_items Start b e = absurd (true≢false (sym e))
data_has_items (Datagram p) b e = e
data_has_items (Gap m) b e = absurd (true≢false (sym e))
data_has_items Stop b e = absurd (true≢false (sym e))

pub same_datagrams : (g : ℕ) (rs : List Record) → datagrams_of g (records_of g rs) ≡ datagrams_of g rs
same_datagrams g rs = filter_twice (λ (r : Record). is_datagram r.content && r.group == g) (λ (r : Record). has_items r.content && r.group == g) (λ r e. data_has_items r.content (r.group == g) e) rs

pub same_admitted : (limit : Limit) (g : ℕ) (rs : List Record) (s n : ℕ) → is_admitted limit (records_of g rs) g s n ≡ is_admitted limit rs g s n
same_admitted NotConfigured g rs s n = refl
same_admitted Unlimited g rs s n = refl
same_admitted (AtMost rate) g rs s n =
    ap (λ (ds : List Record). nat_lt (length (map (λ (r : Record). length (payload_of r.content)) (filter (λ (r : Record). second r.tick == s) ds))) rate.datagrams
    && nat_le (sum (map (λ (r : Record). length (payload_of r.content)) (filter (λ (r : Record). second r.tick == s) ds)) + n) rate.bytes)
    (same_datagrams g rs)

pub last_snoc : {A : Type 0} (xs : List A) (x : A) → last (xs ++ x ∷ []) ≡ Some x
last_snoc [] x = refl
last_snoc {A} (y ∷ ys) x = ap Some (go y ys)
  where
    go : (y : A) (ys : List A) → last_after y (ys ++ x ∷ []) ≡ x
    go y [] = refl
    go y (z ∷ zs) = go z zs

-- the Datagrams in a second
abbrev pub at_second : ℕ → List Record → List Record
at_second s ds = filter (λ r. second r.tick == s) ds

-- no Datagram is later than this tick, and one of its own second is the last
pub record Latest (ds : List Record) (tick : ℕ) : Type 0 where
  pub later : (s : ℕ) → second tick < s → at_second s ds ≡ []
  pub now : (at_second (second tick) ds ≡ []) ⊎ ((d : Record) × (last ds ≡ Some d) × (second d.tick ≡ second tick))

pub latest_none : (tick : ℕ) → Latest [] tick
latest_none tick = record { later = λ s l. refl; now = inl refl }

pub latest_grows : (ds : List Record) (t u : ℕ) → t ≤ u → Latest ds t → Latest ds u
latest_grows ds t u le h = record {
  later = λ s l. h.later s (omega arith);
  now = ⊎_elim
      (λ (l : second t < second u). inl (h.later (second u) l))
      (λ (l : second u ≤ second t). let e : second t ≡ second u = omega arith in
      subst (λ (s : ℕ). (at_second s ds ≡ []) ⊎ ((d : Record) × (last ds ≡ Some d) × (second d.tick ≡ s))) e h.now)
      (cases_lt (second t) (second u));
}

pub latest_snoc : (ds : List Record) (t : ℕ) (d : Record) → d.tick ≡ t → Latest ds t → Latest (ds ++ d ∷ []) t
latest_snoc ds t d e h = record {
  later = λ s l. filter-append (λ (r : Record). second r.tick == s) ds (d ∷ [])
      ∙ (ap (λ (xs : List Record). xs ++ at_second s (d ∷ [])) (h.later s l)
      ∙ cond-false (second d.tick == s) (d ∷ []) [] (ne_eqb (second d.tick) s (λ q. off s l q)));
  now = inr (d, last_snoc ds d, ap second e);
}
  where
    off : (s : ℕ) → second t < s → second d.tick ≡ s → ⊥
    off s l q = omega (arith, ap second e)

-- An item that the meter refuses now is one that the records show as refused.
pub licence : (rate : Rate) (base t : ℕ) (rs : List Record) (g : ℕ) (i : Item)
    → Latest (datagrams_of g rs) t → 1 ≤ rate.datagrams → base + i.received ≤ t
    → is_admitted (AtMost rate) rs g (second t) (length i.bytes) ≡ false → is_licensed (AtMost rate) base rs g i ≡ true
licence rate base t rs g i h one le refused =
    ⊎_elim
    (λ (e : nat_lt rate.bytes (length i.bytes) ≡ true). or_left _ _ e)
    (λ (e : nat_lt rate.bytes (length i.bytes) ≡ false). or_right (nat_lt rate.bytes (length i.bytes)) _ (full (ltb-false rate.bytes (length i.bytes) e)))
    (cases_Bool (nat_lt rate.bytes (length i.bytes)))
  where
    free : length i.bytes ≤ rate.bytes → at_second (second t) (datagrams_of g rs) ≡ [] → ⊥
    free small e = both_ways (is_admitted (AtMost rate) rs g (second t) (length i.bytes)) refused
        (subst (λ (ds : List Record). (nat_lt (length (map (λ (r : Record). length (payload_of r.content)) ds)) rate.datagrams && nat_le (sum (map (λ (r : Record). length (payload_of r.content)) ds) + length i.bytes) rate.bytes) ≡ true)
        (sym e)
        (and_from _ _ (lt-ltb 0 rate.datagrams one) (le-leb (0 + length i.bytes) rate.bytes (omega arith))))

    at_last : (d : Record) → last (datagrams_of g rs) ≡ Some d → second d.tick ≡ second t → is_full_after (last (datagrams_of g rs)) rate rs g (second (base + i.received)) (length i.bytes) ≡ true
    at_last d l e = ap (λ (x : Option Record). is_full_after x rate rs g (second (base + i.received)) (length i.bytes)) l
        ∙ and_from _ _
        (ap not (ap (λ (s : ℕ). is_admitted (AtMost rate) rs g s (length i.bytes)) e ∙ refused))
        (le-leb (second (base + i.received)) (second d.tick) (omega arith))

    full : length i.bytes ≤ rate.bytes → is_full_after (last (datagrams_of g rs)) rate rs g (second (base + i.received)) (length i.bytes) ≡ true
    full small = ⊎_elim
        (λ (e : at_second (second t) (datagrams_of g rs) ≡ []). absurd (free small e))
        (λ (x : (d : Record) × (last (datagrams_of g rs) ≡ Some d) × (second d.tick ≡ second t)). at_last x.0 x.1 x.2)
        h.now
