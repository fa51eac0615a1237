-- Which segments a medium needs, by a test, both ways: so of the segments of a medium there is an oldest one that may go, or none may.
use Rattle.std.proofs.Common.{ℕ, suc, ◌+◌, ◌<◌, List, [], ◌∷◌, ◌++◌, length, Bool, true, false, cond, ◌||◌, All, Contains, count_by, Option, Some, None, ◌≡◌, ◌⊎◌, inl, inr, ⊎_elim, refl, sym, ap, ap₂, ◌∙◌, subst, arith, length-append}
use Rattle.std.specs.List.{list_any}
use Rattle.std.proofs.lemmas.Bool.{cases_Bool, cond-true, or_cases, or_parts, true≢false}
use Rattle.std.proofs.lemmas.List.Elements.{All-contains, All-cons, All-nil, Contains-append_left}
use Rattle.std.proofs.lemmas.List.Sums.{sum_by-cons}
use Rattle.vdr_terms.specs.Records.{Record, second, last_after, last}
use Rattle.vdr_terms.specs.Windows.{in_window, window_before, window}
use Rattle.vdr_durability.specs.Layout.{Batches, records_in, segment_records}
use Rattle.vdr_durability.specs.Retention.{AreAmong, HaveNoPlace, Pin, within}
use Rattle.vdr_durability.specs.Victims.{HasCandidate, HasNoCandidate, HasVictim, IsOldestCandidate, MayGo, NoneMayGo}
use Rattle.vdr_durability.proofs.Lists.{all_from, contains_filter, contains_flat, contains_here, contains_there, filter_test, last_behind, last_contained, none_contained, records_split}
use Rattle.vdr_durability.proofs.Retained.{in_the_window}
use Rattle.vdr_durability.proofs.Touched.{any_there, none_there, touches}

-- the test of the window, by the last record
abbrev pub is_recent : Option Record → ℕ → Record → Bool
is_recent None seconds r = false
is_recent (Some newest) seconds r = in_window (second r.tick) (second newest.tick) seconds

abbrev pub is_pinned : Pin → Record → Bool
is_pinned pin r = within pin.a pin.b r

abbrev pub is_needed : ℕ → List Pin → List Record → Batches → Bool
is_needed seconds pins held s = touches (is_recent (last held) seconds) s || list_any (λ pin. touches (is_pinned pin) s) pins

recent_passes : (o : Option Record) (seconds : ℕ) (held : List Record) (r : Record) → Contains (window_before o seconds held) r → is_recent o seconds r ≡ true
recent_passes None seconds held r h = absurd (none_contained r h)
recent_passes (Some newest) seconds held r h = filter_test (λ (r : Record). in_window (second r.tick) (second newest.tick) seconds) held r h

passes_recent : (o : Option Record) (seconds : ℕ) (held : List Record) (r : Record) → Contains held r → is_recent o seconds r ≡ true → Contains (window_before o seconds held) r
passes_recent None seconds held r m e = absurd (true≢false (sym e))
passes_recent (Some newest) seconds held r m e = contains_filter (λ (r : Record). in_window (second r.tick) (second newest.tick) seconds) held r m e

pub goes_unneeded : (seconds : ℕ) (pins : List Pin) (held : List Record) (s : Batches) → is_needed seconds pins held s ≡ false → MayGo seconds pins held s
goes_unneeded seconds pins held s e = record {
  old = all_from (λ r. Contains (window seconds held) r → ⊥) (segment_records s)
      (λ r m h. true≢false (sym (recent_passes (last held) seconds held r h) ∙ none_there (is_recent (last held) seconds) (segment_records s) parts.0 r m));
  free = all_from (λ pin. HaveNoPlace pin.a pin.b (segment_records s)) pins
      (λ pin m. all_from (λ r. within pin.a pin.b r ≡ false) (segment_records s)
      (λ r n. none_there (is_pinned pin) (segment_records s) (none_there (λ pin. touches (is_pinned pin) s) pins parts.1 pin m) r n));
}
  where
    parts : (touches (is_recent (last held) seconds) s ≡ false) × (list_any (λ pin. touches (is_pinned pin) s) pins ≡ false)
    parts = or_parts (touches (is_recent (last held) seconds) s) (list_any (λ pin. touches (is_pinned pin) s) pins) e

pub needed_stays : (seconds : ℕ) (pins : List Pin) (held : List Record) (s : Batches) → AreAmong (segment_records s) held → is_needed seconds pins held s ≡ true → MayGo seconds pins held s → ⊥
needed_stays seconds pins held s own e h =
    ⊎_elim
    (λ (a : touches (is_recent (last held) seconds) s ≡ true).
    let x = any_there (is_recent (last held) seconds) (segment_records s) a in
    All-contains (λ r. Contains (window seconds held) r → ⊥) (segment_records s) x.0 h.old x.1
    (passes_recent (last held) seconds held x.0 (All-contains (Contains held) (segment_records s) x.0 own x.1) x.2))
    (λ (a : list_any (λ pin. touches (is_pinned pin) s) pins ≡ true).
    let p = any_there (λ pin. touches (is_pinned pin) s) pins a in
    let x = any_there (is_pinned p.0) (segment_records s) p.2 in
    true≢false (sym x.2 ∙ All-contains (λ r. within p.0.a p.0.b r ≡ false) (segment_records s) x.0 (All-contains (λ pin. HaveNoPlace pin.a pin.b (segment_records s)) pins p.0 h.free p.1) x.1))
    (or_cases (touches (is_recent (last held) seconds) s) (list_any (λ pin. touches (is_pinned pin) s) pins) e)

-- the first that does not pass, with what stands round it
pub record FirstOff {X : Type 0} (p : X → Bool) (xs : List X) : Type 0 where
  pub before : List X
  pub item : X
  pub after : List X
  pub split : xs ≡ before ++ item ∷ after
  pub off : p item ≡ false
  pub on : All (λ x. p x ≡ true) before

pub first_off : {X : Type 0} (p : X → Bool) (xs : List X) → FirstOff p xs ⊎ All (λ x. p x ≡ true) xs
first_off p [] = inr (All-nil (λ x. p x ≡ true))
first_off {X} p (x ∷ xs) =
    ⊎_elim
    (λ (e : p x ≡ true). ⊎_elim
    (λ (k : FirstOff p xs). inl (record {
      before = x ∷ k.before;
      item = k.item;
      after = k.after;
      split = ap (λ (ys : List X). x ∷ ys) k.split;
      off = k.off;
      on = All-cons (λ x. p x ≡ true) x k.before e k.on;
    }))
    (λ (k : All (λ x. p x ≡ true) xs). inr (All-cons (λ x. p x ≡ true) x xs e k))
    (first_off p xs))
    (λ (e : p x ≡ false). inl (record { before = []; item = x; after = xs; split = refl; off = e; on = All-nil (λ x. p x ≡ true) }))
    (cases_Bool (p x))

pub count_all : {X : Type 0} (p : X → Bool) (xs : List X) → All (λ x. p x ≡ true) xs → count_by p xs ≡ length xs
count_all p [] h = refl
count_all {X} p (x ∷ xs) h =
    let a = sum_by-cons (λ x. cond (p x) 1 0) x xs in
    let b = count_all p xs (all_from (λ x. p x ≡ true) xs (λ y m. All-contains (λ x. p x ≡ true) (x ∷ xs) y h (contains_there x xs y m))) in
    let c = cond-true {A = ℕ} (p x) 1 0 (All-contains (λ x. p x ≡ true) (x ∷ xs) x h (contains_here x xs)) in
    omega (arith, a, b, c)

-- the records of a segment of the medium are among its records
pub segment_among : (segments : List Batches) (s : Batches) → Contains segments s → AreAmong (segment_records s) (records_in segments)
segment_among segments s m = all_from (Contains (records_in segments)) (segment_records s) (λ r n. contains_flat segment_records segments s r m n)

-- Of the segments of a medium there is an oldest one that may go, or none may.
pub oldest_or_none : (seconds : ℕ) (pins : List Pin) (segments : List Batches) → HasCandidate seconds pins segments ⊎ HasNoCandidate seconds pins segments
oldest_or_none seconds pins segments =
    ⊎_elim
    (λ (k : FirstOff (is_needed seconds pins (records_in segments)) segments). inl (record {
      before = k.before;
      victim = k.item;
      after = k.after;
      oldest = record {
        split = k.split;
        may_go = goes_unneeded seconds pins (records_in segments) k.item k.off;
        oldest = none k.before k.on (λ s m. subst (λ (xs : List Batches). Contains xs s) (sym k.split) (Contains-append_left k.before (k.item ∷ k.after) s m));
      };
    }))
    (λ (k : All (λ s. is_needed seconds pins (records_in segments) s ≡ true) segments). inr (none segments k (λ s m. m)))
    (first_off (is_needed seconds pins (records_in segments)) segments)
  where
    none : (some : List Batches) → All (λ s. is_needed seconds pins (records_in segments) s ≡ true) some → ((s : Batches) → Contains some s → Contains segments s) → NoneMayGo seconds pins (records_in segments) some
    none some on own = all_from (λ s. MayGo seconds pins (records_in segments) s → ⊥) some
        (λ s m. needed_stays seconds pins (records_in segments) s (segment_among segments s (own s m)) (All-contains (λ s. is_needed seconds pins (records_in segments) s ≡ true) some s on m))

-- The segment that holds the medium's last record never goes, where the window has at least a second.
pub last_stays : (seconds : ℕ) (pins : List Pin) (held : List Record) (s : Batches) (newest : Record) → 0 < seconds → last held ≡ Some newest → Contains (segment_records s) newest → MayGo seconds pins held s → ⊥
last_stays seconds pins held s newest some ends m h =
    All-contains (λ r. Contains (window seconds held) r → ⊥) (segment_records s) newest h.old m
    (in_the_window seconds held newest (record { newest = newest; ends = ends; there = last_contained held newest ends; close = omega (arith, some) }))

head : (x y : Batches) (xs ys : List Batches) → x ∷ xs ≡ y ∷ ys → x ≡ y
head x y xs ys e = cc

tail : (x y : Batches) (xs ys : List Batches) → x ∷ xs ≡ y ∷ ys → xs ≡ ys
tail x y xs ys e = cc

-- There is one oldest candidate at most.
module _ (seconds : ℕ) (pins : List Pin) (held : List Record) where
  rest : (x : Batches) (xs : List Batches) → NoneMayGo seconds pins held (x ∷ xs) → NoneMayGo seconds pins held xs
  rest x xs h = all_from (λ s. MayGo seconds pins held s → ⊥) xs (λ s m. All-contains (λ s. MayGo seconds pins held s → ⊥) (x ∷ xs) s h (contains_there x xs s m))

  split_once : (before : List Batches) (victim : Batches) (after before' : List Batches) (victim' : Batches) (after' : List Batches) → before ++ victim ∷ after ≡ before' ++ victim' ∷ after'
      → MayGo seconds pins held victim → MayGo seconds pins held victim' → NoneMayGo seconds pins held before → NoneMayGo seconds pins held before'
      → (before ≡ before') × (victim ≡ victim') × (after ≡ after')
  split_once [] victim after [] victim' after' e go go' none none' = (refl, head victim victim' after after' e, tail victim victim' after after' e)
  split_once [] victim after (b ∷ bs) victim' after' e go go' none none' =
      absurd (All-contains (λ s. MayGo seconds pins held s → ⊥) (b ∷ bs) b none' (contains_here b bs) (subst (λ (s : Batches). MayGo seconds pins held s) (head victim b after (bs ++ victim' ∷ after') e) go))
  split_once (b ∷ bs) victim after [] victim' after' e go go' none none' =
      absurd (All-contains (λ s. MayGo seconds pins held s → ⊥) (b ∷ bs) b none (contains_here b bs) (subst (λ (s : Batches). MayGo seconds pins held s) (sym (head b victim' (bs ++ victim ∷ after) after' e)) go'))
  split_once (b ∷ bs) victim after (d ∷ ds) victim' after' e go go' none none' =
      let k = split_once bs victim after ds victim' after' (tail b d (bs ++ victim ∷ after) (ds ++ victim' ∷ after') e) go go' (rest b bs none) (rest d ds none') in
      (ap₂ (λ (x : Batches) (xs : List Batches). x ∷ xs) (head b d (bs ++ victim ∷ after) (ds ++ victim' ∷ after') e) k.0, k.1, k.2)

pub one_victim : (seconds : ℕ) (pins : List Pin) (segments before : List Batches) (victim : Batches) (after before' : List Batches) (victim' : Batches) (after' : List Batches)
    → IsOldestCandidate seconds pins segments before victim after → IsOldestCandidate seconds pins segments before' victim' after' → (before ≡ before') × (victim ≡ victim') × (after ≡ after')
one_victim seconds pins segments before victim after before' victim' after' h k =
    split_once seconds pins (records_in segments) before victim after before' victim' after' (sym h.split ∙ k.split) h.may_go k.may_go h.oldest k.oldest

-- On a medium whose newest segment has records, a candidate is one of the older ones.
ends_with : (older : List Batches) (newest : Batches) (before : List Batches) (victim : Batches) (after : List Batches) → older ++ newest ∷ [] ≡ before ++ victim ∷ after
    → (victim ≡ newest) ⊎ ((rest : List Batches) × (older ≡ before ++ victim ∷ rest) × (after ≡ rest ++ newest ∷ []))
ends_with [] newest [] victim after e = inl (sym (head newest victim [] after e))
ends_with [] newest (b ∷ bs) victim after e =
    let n = ap length (tail newest b [] (bs ++ victim ∷ after) e) in
    let k = length-append bs (victim ∷ after) in
    absurd (none (length bs) (length after) (n ∙ k))
  where
    none : (m n : ℕ) → 0 ≡ m + suc n → ⊥
    none m n e = omega (arith, e)
ends_with (o ∷ os) newest [] victim after e =
    inr (os, ap (λ (s : Batches). s ∷ os) (head o victim (os ++ newest ∷ []) after e), sym (tail o victim (os ++ newest ∷ []) after e))
ends_with (o ∷ os) newest (b ∷ bs) victim after e =
    ⊎_elim
    (λ (k : victim ≡ newest). inl k)
    (λ (k : (rest : List Batches) × (os ≡ bs ++ victim ∷ rest) × (after ≡ rest ++ newest ∷ [])).
    inr (k.0, ap₂ (λ (s : Batches) (ss : List Batches). s ∷ ss) (head o b (os ++ newest ∷ []) (bs ++ victim ∷ after) e) k.1, k.2))
    (ends_with os newest bs victim after (tail o b (os ++ newest ∷ []) (bs ++ victim ∷ after) e))

pub candidate_is_older : (seconds : ℕ) (pins : List Pin) (older : List Batches) (newest : Batches) → 0 < seconds → 0 < length (segment_records newest)
    → HasCandidate seconds pins (older ++ newest ∷ []) → HasVictim seconds pins older newest
candidate_is_older seconds pins older newest some full h =
    ⊎_elim
    (λ (k : h.victim ≡ newest). absurd (stays (segment_records newest) refl full (subst (λ (s : Batches). MayGo seconds pins (records_in (older ++ newest ∷ [])) s) k h.oldest.may_go)))
    (λ (k : (rest : List Batches) × (older ≡ h.before ++ h.victim ∷ rest) × (h.after ≡ rest ++ newest ∷ [])).
    record {
      before = h.before;
      victim = h.victim;
      after = k.0;
      split = k.1;
      oldest = subst (λ (ss : List Batches). IsOldestCandidate seconds pins (older ++ newest ∷ []) h.before h.victim ss) k.2 h.oldest;
    })
    (ends_with older newest h.before h.victim h.after h.oldest.split)
  where
    stays : (rs : List Record) → segment_records newest ≡ rs → 0 < length rs → MayGo seconds pins (records_in (older ++ newest ∷ [])) newest → ⊥
    stays [] e n go = omega (arith, n)
    stays (y ∷ ys) e n go =
        let ends : last (records_in (older ++ newest ∷ [])) ≡ Some (last_after y ys) =
        ap last (records_split older newest ∙ ap (λ (rs : List Record). records_in older ++ rs) e) ∙ last_behind (records_in older) y ys in
        last_stays seconds pins (records_in (older ++ newest ∷ [])) newest (last_after y ys) some ends
        (subst (λ (rs : List Record). Contains rs (last_after y ys)) (sym e) (last_contained (y ∷ ys) (last_after y ys) refl)) go
