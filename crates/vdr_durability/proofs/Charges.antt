-- What a batch takes of a second is paid by its records, where one of its first second is no Gap.
use Rattle.std.proofs.Common.{ℕ, ◌+◌, ◌<◌, ◌≤◌, ℤ, List, [], ◌∷◌, ◌++◌, length, sum_by, Bool, true, false, true≢false, cond, ◌==◌, if◌then◌else◌, Contains, ◌≡◌, ⊎_elim, refl, sym, ap, ◌∙◌, arith}
use Rattle.std.specs.List.{AllByRecursion}
use Rattle.std.proofs.lemmas.List.Sums.{sum_by-cons}
use Rattle.std.proofs.lemmas.List.Elements.{Contains-push}
use Rattle.std.proofs.lemmas.Bool.{cases_eq, cond-true, cond-false, eq-eqb, ne_eqb}
use Rattle.vdr_terms.specs.Records.{Content, Record, second, is_datagram, is_gap}
use Rattle.vdr_terms.specs.Records.Content.{Start, Datagram, Gap, Stop}
use Rattle.vdr_terms.specs.Sizes.{record_size}
use Rattle.vdr_core.specs.Shapes.{MayStandBefore, AreInside}
use Rattle.vdr_durability.specs.Layout.{batch_size_at, record_size_at}
use Rattle.vdr_durability.proofs.Lists.{none_contained, contains_here, contains_there, contains_cases}

-- A record pays for its own bytes. One that is no Gap pays for the five bytes of its batch too.
abbrev pub charge : Record → ℕ
charge r = record_size r + (if is_gap r.content then 0 else 5)

abbrev pub charge_at : ℕ → Record → ℕ
charge_at s r = if second r.tick == s then charge r else 0

-- The batch has a record that is no Gap in the second of its first one.
abbrev pub IsHeaded : List Record → Type 0
IsHeaded [] = ⊥
IsHeaded (x ∷ xs) = (r : Record) × Contains (x ∷ xs) r × (second r.tick ≡ second x.tick) × (is_gap r.content ≡ false)

more_if : (t : Bool) (a b : ℕ) → cond t a 0 ≤ cond t (a + b) 0
more_if true a b = omega arith
more_if false a b = omega arith

-- a record's bytes are within its charge
own_charge : (s : ℕ) (x : Record) → record_size_at s x ≤ charge_at s x
own_charge s x = more_if (second x.tick == s) (record_size x) (if is_gap x.content then 0 else 5)

-- and with a batch's head, where it is no Gap
head_charge : (s : ℕ) (x : Record) → second x.tick ≡ s → is_gap x.content ≡ false → 5 + record_size_at s x ≤ charge_at s x
head_charge s x now plain =
    let a = cond-true {A = ℕ} (second x.tick == s) (record_size x) 0 (eq-eqb (second x.tick) s now) in
    let b = cond-true {A = ℕ} (second x.tick == s) (charge x) 0 (eq-eqb (second x.tick) s now) in
    let c = cond-false {A = ℕ} (is_gap x.content) 0 5 plain in
    omega (arith, a, b, c)

charges : (s : ℕ) (b : List Record) → sum_by (record_size_at s) b ≤ sum_by (charge_at s) b
charges s [] = omega arith
charges s (x ∷ xs) =
    let a = sum_by-cons (record_size_at s) x xs in
    let b = sum_by-cons (charge_at s) x xs in
    let c = charges s xs in
    let d = own_charge s x in
    omega (arith, a, b, c, d)

paid : (s : ℕ) (b : List Record) (r : Record) → Contains b r → second r.tick ≡ s → is_gap r.content ≡ false → 5 + sum_by (record_size_at s) b ≤ sum_by (charge_at s) b
paid s [] r m now plain = absurd (none_contained r m)
paid s (x ∷ xs) r m now plain =
    let a = sum_by-cons (record_size_at s) x xs in
    let b = sum_by-cons (charge_at s) x xs in
    ⊎_elim
    (λ (e : x ≡ r).
    let c = charges s xs in
    let d = head_charge s x (ap (λ (r : Record). second r.tick) e ∙ now) (ap (λ (r : Record). is_gap r.content) e ∙ plain) in
    omega (arith, a, b, c, d))
    (λ (k : Contains xs r).
    let c = paid s xs r k now plain in
    let d = own_charge s x in
    omega (arith, a, b, c, d))
    (contains_cases x xs r m)

-- a batch's bytes are paid by its records
pub batch_paid : (s : ℕ) (b : List Record) → IsHeaded b → batch_size_at s b ≤ sum_by (charge_at s) b
batch_paid s [] h = absurd h
batch_paid s (x ∷ xs) (r, m, same, plain) =
    ⊎_elim
    (λ (e : second x.tick ≡ s).
    let a = cond-true {A = ℕ} (second x.tick == s) 5 0 (eq-eqb (second x.tick) s e) in
    let b = paid s (x ∷ xs) r m (same ∙ e) plain in
    omega (arith, a, b))
    (λ (ne : second x.tick ≡ s → ⊥).
    let a = cond-false {A = ℕ} (second x.tick == s) 5 0 (ne_eqb (second x.tick) s ne) in
    let b = charges s (x ∷ xs) in
    omega (arith, a, b))
    (cases_eq (second x.tick) s)

-- A batch without records of a second has no bytes of it.
pub none_at : (s : ℕ) (b : List Record) → ((r : Record) → Contains b r → second r.tick ≡ s → ⊥) → batch_size_at s b ≡ 0
none_at s [] h = refl
none_at s (x ∷ xs) h =
    let a = sum_by-cons (record_size_at s) x xs in
    let c = cond-false {A = ℕ} (second x.tick == s) (record_size x) 0 (ne_eqb (second x.tick) s (h x (contains_here x xs))) in
    let d = cond-false {A = ℕ} (second x.tick == s) 5 0 (ne_eqb (second x.tick) s (h x (contains_here x xs))) in
    let e = none_in xs (λ r m. h r (contains_there x xs r m)) in
    omega (arith, a, c, d, e)
  where
    none_in : (rs : List Record) → ((r : Record) → Contains rs r → second r.tick ≡ s → ⊥) → sum_by (record_size_at s) rs ≡ 0
    none_in [] h = refl
    none_in (y ∷ ys) h =
        let a = sum_by-cons (record_size_at s) y ys in
        let c = cond-false {A = ℕ} (second y.tick == s) (record_size y) 0 (ne_eqb (second y.tick) s (h y (contains_here y ys))) in
        let e = none_in ys (λ r m. h r (contains_there y ys r m)) in
        omega (arith, a, c, e)

no_gap : (c : Content) → is_datagram c ≡ true → is_gap c ≡ false
no_gap Start e = refl
no_gap (Datagram payload) e = refl
no_gap (Gap missed) e = absurd (true≢false (sym e))
no_gap Stop e = refl

headed_by : (x : Record) (xs : List Record) (c : Content) → x.content ≡ c → MayStandBefore xs x c → IsHeaded (x ∷ xs)
headed_by x xs Start e k = absurd k
headed_by x xs (Datagram payload) e k = (x, contains_here x xs, refl, ap is_gap e)
headed_by x [] (Gap missed) e k = absurd k.0
headed_by x (y ∷ ys) (Gap missed) e k = (y, contains_there x (y ∷ ys) y (contains_here y ys), sym (ap second k.1.0), no_gap y.content k.0.0)
headed_by x xs Stop e k = absurd k

-- What items make begins with a Datagram, or with a Gap that has the tick of the Datagram behind it.
pub inside_headed : (xs : List Record) → 0 < length xs → AreInside xs → IsHeaded xs
inside_headed [] some h = absurd (omega (arith, some))
inside_headed (x ∷ xs) some h = headed_by x xs x.content refl h.0

-- Gaps with the tick of the record behind them, which is none.
pub closing_headed : (tick : ℕ) (utc : ℤ) (gaps : List Record) (stop : Record) → AllByRecursion (λ (x : Record). (x.tick ≡ tick) × (x.utc ≡ utc)) gaps
    → stop.tick ≡ tick → is_gap stop.content ≡ false → IsHeaded (gaps ++ stop ∷ [])
closing_headed tick utc [] stop h now plain = (stop, contains_here stop [], refl, plain)
closing_headed tick utc (x ∷ gaps) stop h now plain = (stop, Contains-push (x ∷ gaps) stop, ap second (now ∙ sym h.0.0), plain)
