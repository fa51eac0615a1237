-- What a meter knows of records to which others are added.
use Rattle.std.proofs.Common.{◌≡◌, ◌≢◌, ◌≤◌, ◌<◌, ◌+◌, ◌==◌, ◌&&◌, ℕ, suc, Bool, true, false, cond, List, [], ◌∷◌, ◌++◌, length, sum, refl, sym, ap, ◌∙◌, subst, arith, length-append, inl, inr, eq-eqb, Option, replicate}
use Rattle.std.proofs.lemmas.Bool.{cond-false, ne_eqb, cases_eq}
use Rattle.std.proofs.lemmas.List.{append-nil, get_or-replicate}
use Rattle.std.proofs.lemmas.List.Sums.{sum_by-append}
use Rattle.vdr_terms.specs.declared.rate.Rate.{Rate}
use Rattle.vdr_terms.specs.Records.{Record, second, payload_of, is_datagram}
use Rattle.vdr_terms.specs.Rates.{lengths_in}
use Rattle.vdr_terms.proofs.Lengths.{lengths_in-append}
use Rattle.vdr_meter.specs.declared.meter.Used.{Used}
use Rattle.vdr_meter.specs.Metering.{Metering, Measures, HasNoDatagram, IsDatagramOf, used_in, nothing}

no_lengths_at : (g s : ℕ) (r : Record) (rs : List Record) → is_datagram r.content ≡ false → lengths_in g s rs ≡ [] → lengths_in g s (r ∷ rs) ≡ []
no_lengths_at g s r rs none rest = rw none rest

-- Where there is no Datagram there are no lengths.
pub no_lengths : (g s : ℕ) (rs : List Record) → HasNoDatagram rs → lengths_in g s rs ≡ []
no_lengths g s [] none = refl
no_lengths g s (r ∷ rs) none = no_lengths_at g s r rs (none 0 r (omega arith)) (no_lengths g s rs (λ k d lt. none (suc k) d (omega arith)))

one_length_at : (a b : Bool) (h s n : ℕ) (r : Record) → is_datagram r.content ≡ true → (r.group == h) ≡ a → (second r.tick == s) ≡ b → length (payload_of r.content) ≡ n → lengths_in h s (r ∷ []) ≡ cond a (cond b (n ∷ []) []) []
one_length_at true true h s n r kind group tick bytes = rw (kind, group, tick, bytes) refl
one_length_at true false h s n r kind group tick bytes = rw (kind, group, tick) refl
one_length_at false b h s n r kind group tick bytes = rw (kind, group) refl

-- A Datagram adds its length to those of its group and second, and to no others.
pub lengths_after : (h s g t n : ℕ) (records gap : List Record) (r : Record) → HasNoDatagram gap → IsDatagramOf r g t n
    → lengths_in h s (records ++ (gap ++ r ∷ [])) ≡ lengths_in h s records ++ cond (g == h) (cond (second t == s) (n ∷ []) []) []
lengths_after h s g t n records gap r none is =
    let one = one_length_at (g == h) (second t == s) h s n r is.kind (ap (λ x. x == h) is.group) (ap (λ x. second x == s) is.tick) is.bytes in
    rw (lengths_in-append h s records (gap ++ r ∷ []), lengths_in-append h s gap (r ∷ []), no_lengths h s gap none, one) refl

-- So many Datagrams, of so many bytes in all.
record Has (used : Used) (lengths : List ℕ) : Type 0 where
  datagrams : used.datagrams ≡ length lengths
  bytes : used.bytes ≡ sum lengths

cond_same : {A : Type 0} (b : Bool) {x : A} → cond b x x ≡ x
cond_same true = refl
cond_same false = refl

-- A meter admits one more item, of n bytes, of group g in second s.
pub record Admits (old new : Metering) (g s n : ℕ) (used : Used) : Type 0 where
  pub group : g < 16
  pub forward : old.second ≤ s
  pub second : new.second ≡ s
  pub datagrams : used.datagrams ≡ (used_in old g s).datagrams + 1
  pub bytes : used.bytes ≡ (used_in old g s).bytes + n
  pub own : used_in new g s ≡ used
  pub others : (h : ℕ) → h ≢ g → used_in new h s ≡ used_in old h s

has : (meter : Metering) (records : List Record) (h s : ℕ) → Measures meter records → h < 16 → meter.second ≤ s → Has (used_in meter h s) (lengths_in h s records)
has meter records h s known below from = record { datagrams = known.datagrams h s below from; bytes = known.bytes h s below from }

-- Of a later second a meter has nothing.
later : (meter : Metering) (h s : ℕ) → meter.second < s → used_in meter h s ≡ nothing
later meter h s before = cond-false (meter.second == s) _ nothing (ne_eqb meter.second s (λ e. omega (arith, e)))

with_own : (old new : Metering) (g s n : ℕ) (used : Used) (xs : List ℕ) → Admits old new g s n used → Has (used_in old g s) xs → Has (used_in new g s) (xs ++ n ∷ [])
with_own old new g s n used xs admits before = record {
  datagrams = ap (λ (u : Used). u.datagrams) admits.own ∙ omega (arith, admits.datagrams, before.datagrams, length-append xs (n ∷ []));
  bytes = ap (λ (u : Used). u.bytes) admits.own ∙ omega (arith, admits.bytes, before.bytes, sum_by-append (λ k. k) xs (n ∷ []));
}

in_its_second : (old new : Metering) (g s n : ℕ) (used : Used) (h : ℕ) (xs : List ℕ) → Admits old new g s n used → Has (used_in old h s) xs → Has (used_in new h s) (xs ++ cond (g == h) (n ∷ []) [])
in_its_second old new g s n used h xs admits before =
    elim (cases_eq g h) [
      | inl same ↦ rw (eq-eqb g h same) (subst (λ k. Has (used_in old k s) xs → Has (used_in new k s) (xs ++ n ∷ [])) same (with_own old new g s n used xs admits) before)
      | inr differ ↦ rw (ne_eqb g h differ, append-nil xs, admits.others h (λ e. differ (sym e))) before
    ]

in_a_later_second : (old new : Metering) (g s n : ℕ) (used : Used) (h t : ℕ) (xs : List ℕ) → Admits old new g s n used → Has (used_in old h t) xs → s < t → Has (used_in new h t) (xs ++ [])
in_a_later_second old new g s n used h t xs admits before after =
    let was = later old h t (omega (arith, admits.forward)) in
    let now = later new h t (omega (arith, admits.second)) in
    rw (append-nil xs, now, ← was) before

has_after : (old new : Metering) (g s n : ℕ) (used : Used) (h t : ℕ) (xs : List ℕ) → Admits old new g s n used → Has (used_in old h t) xs → s ≤ t → Has (used_in new h t) (xs ++ cond (g == h) (cond (s == t) (n ∷ []) []) [])
has_after old new g s n used h t xs admits before from =
    elim (cases_eq s t) [
      | inl same ↦ rw (eq-eqb s t same) (subst (λ k. Has (used_in old h k) xs → Has (used_in new h k) (xs ++ cond (g == h) (n ∷ []) [])) same (in_its_second old new g s n used h xs admits) before)
      | inr differ ↦ rw (ne_eqb s t differ, cond_same (g == h)) (in_a_later_second old new g s n used h t xs admits before (omega arith))
    ]

-- The meter that admitted a Datagram knows the records with it.
pub measures_after : (old new : Metering) (g t n : ℕ) (used : Used) (records gap : List Record) (r : Record) → Admits old new g (second t) n used → Measures old records → HasNoDatagram gap → IsDatagramOf r g t n
    → Measures new (records ++ (gap ++ r ∷ []))
measures_after old new g t n used records gap r admits known none is = record {
  datagrams = λ h s below from. (all_after h s below from).datagrams;
  bytes = λ h s below from. (all_after h s below from).bytes;
}
  where
    all_after : (h s : ℕ) → h < 16 → new.second ≤ s → Has (used_in new h s) (lengths_in h s (records ++ (gap ++ r ∷ [])))
    all_after h s below from =
        let before = has old records h s known below (omega (arith, admits.forward, admits.second)) in
        rw (lengths_after h s g t n records gap r none is) (has_after old new g (second t) n used h s (lengths_in h s records) admits before (omega (arith, admits.second)))

new_used : (rates : List (Option Rate)) (h s : ℕ) → h < 16 → used_in (record { rates = rates; second = 0; used = replicate 16 nothing }) h s ≡ nothing
new_used rates h s below = rw (get_or-replicate 16 h nothing nothing below) (cond_same (0 == s))

-- A new meter knows all records that have no Datagram.
pub measures_new : (rates : List (Option Rate)) (records : List Record) → HasNoDatagram records → Measures (record { rates = rates; second = 0; used = replicate 16 nothing }) records
measures_new rates records none = record {
  datagrams = λ h s below from. rw (new_used rates h s below, no_lengths h s records none) refl;
  bytes = λ h s below from. rw (new_used rates h s below, no_lengths h s records none) refl;
}
