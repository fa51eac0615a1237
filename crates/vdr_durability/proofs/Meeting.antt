-- Where the ends of media meet, and the first medium at which they no longer do.
use Rattle.std.proofs.Common.{ℕ, ◌<◌, List, [], ◌∷◌, ◌++◌, length, true, false, All, Contains, Option, Some, None, ◌≡◌, ◌⊎◌, inl, inr, ⊎_elim, refl, sym, ap, ◌∙◌, subst, append_assoc, append-nil, arith, true≢false}
use Rattle.std.proofs.lemmas.Bool.{cases_Bool}
use Rattle.std.proofs.lemmas.List.Elements.{All-nil, All-cons, All-head, All-tail, Contains-append_left}
use Rattle.vdr_terms.proofs.Somewhere.{same_rest}
use Rattle.vdr_terms.specs.Records.{Record, last}
use Rattle.vdr_durability.proofs.Lists.{contains_here, contains_there}
use Rattle.vdr_durability.specs.Readings.{Reading, AreLevel, EndBy, EndsMeet, EndsOff, IsPassedOn, ends_before, leading_batch}

module _ (reading : Reading) (batch : Option (List Record)) where
  abbrev EndsWith : ℕ → Type 0
  EndsWith m = last (reading.batches m) ≡ batch

  abbrev Lacks : ℕ → Type 0
  Lacks m = ends_before batch (reading.batches m) ≡ true

  pub all_end : (ms : List ℕ) → All EndsWith ms → EndBy reading batch ms
  all_end [] h = tt
  all_end (m ∷ ms) h = inl (All-head EndsWith m ms h, all_end ms (All-tail EndsWith m ms h))

  all_front : (P : ℕ → Type 0) (xs ys : List ℕ) → All P (xs ++ ys) → All P xs
  all_front P [] ys h = All-nil P
  all_front P (x ∷ xs) ys h = All-cons P x xs (All-head P x (xs ++ ys) h) (all_front P xs ys (All-tail P x (xs ++ ys) h))

  pub front_ends : (xs ys : List ℕ) → EndBy reading batch (xs ++ ys) → EndBy reading batch xs
  front_ends [] ys h = tt
  front_ends (x ∷ xs) ys (inl (e, more)) = inl (e, front_ends xs ys more)
  front_ends (x ∷ xs) ys (inr all) = inr (all_front Lacks (x ∷ xs) ys all)

  -- first some that end with the batch, and then some that end before it
  pub then_lack : (given waiting : List ℕ) → All EndsWith given → All Lacks waiting → EndBy reading batch (given ++ waiting)
  then_lack [] [] h k = tt
  then_lack [] (m ∷ ms) h k = inr k
  then_lack (m ∷ ms) waiting h k = inl (All-head EndsWith m ms h, then_lack ms waiting (All-tail EndsWith m ms h) k)

  all_or_not : (ms : List ℕ) → All Lacks ms ⊎ (All Lacks ms → ⊥)
  all_or_not [] = inl (All-nil Lacks)
  all_or_not (m ∷ ms) =
      ⊎_elim
      (λ (e : Lacks m). ⊎_elim (λ (k : All Lacks ms). inl (All-cons Lacks m ms e k)) (λ (k : All Lacks ms → ⊥). inr (λ h. k (All-tail Lacks m ms h))) (all_or_not ms))
      (λ (e : ends_before batch (reading.batches m) ≡ false). inr (λ h. true≢false (sym (All-head Lacks m ms h) ∙ e)))
      (cases_Bool (ends_before batch (reading.batches m)))

  -- where each end is known to be the batch or not, so is whether they meet
  pub end_or_not : (ms : List ℕ) → ((m : ℕ) → Contains ms m → EndsWith m ⊎ (EndsWith m → ⊥)) → EndBy reading batch ms ⊎ (EndBy reading batch ms → ⊥)
  end_or_not [] known = inl tt
  end_or_not (m ∷ ms) known =
      ⊎_elim
      (λ (k : All Lacks (m ∷ ms)). inl (inr k))
      (λ (k : All Lacks (m ∷ ms) → ⊥). ⊎_elim
      (λ (e : EndsWith m). ⊎_elim
      (λ (more : EndBy reading batch ms). inl (inl (e, more)))
      (λ (off : EndBy reading batch ms → ⊥). inr (λ h. ⊎_elim (λ p. off p.1) k h))
      (end_or_not ms (λ n c. known n (contains_there m ms n c))))
      (λ (e : EndsWith m → ⊥). inr (λ h. ⊎_elim (λ p. e p.0) k h))
      (known m (contains_here m ms)))
      (all_or_not (m ∷ ms))

-- Media that are level meet.
pub level_meet : (members : List ℕ) (reading : Reading) → AreLevel members reading → EndsMeet members reading
level_meet members reading h = all_end reading (leading_batch members reading) members h

-- The first of media that meet do so too.
pub front_meets : (before after : List ℕ) (reading : Reading) → EndsMeet (before ++ after) reading → EndsMeet before reading
front_meets [] after reading h = tt
front_meets (m ∷ ms) after reading h = front_ends reading (last (reading.batches m)) (m ∷ ms) after h

-- Where they meet, none is off.
pub none_off : (members : List ℕ) (reading : Reading) (m : ℕ) → EndsMeet members reading → EndsOff members reading m → ⊥
none_off members reading m h off =
    off.off (front_meets (off.before ++ m ∷ []) off.after reading
    (subst (λ (ms : List ℕ). EndsMeet ms reading) (off.split ∙ sym (append_assoc off.before (m ∷ []) off.after)) h))

-- Where two splits of a list stand: the same element, or one behind the other.
record Behind (before after : List ℕ) (m : ℕ) : Type 0 where
  pub rest : List ℕ
  pub split : before ≡ (after ++ m ∷ []) ++ rest

heads : (x y : ℕ) (xs ys : List ℕ) → x ∷ xs ≡ y ∷ ys → x ≡ y
heads x y xs ys e = cc

behind_more : (x y m : ℕ) (before after : List ℕ) → y ≡ x → Behind before after m → Behind (y ∷ before) (x ∷ after) m
behind_more x y m before after e h = record { rest = h.rest; split = same x y before ((after ++ m ∷ []) ++ h.rest) e h.split }
  where
    same : (x y : ℕ) (xs ys : List ℕ) → y ≡ x → xs ≡ ys → y ∷ xs ≡ x ∷ ys
    same x y xs ys p q = cc

two_splits : (before : List ℕ) (m : ℕ) (after before' : List ℕ) (m' : ℕ) (after' : List ℕ) → before ++ m ∷ after ≡ before' ++ m' ∷ after'
    → (m ≡ m') ⊎ (Behind before' before m ⊎ Behind before before' m')
two_splits [] m after [] m' after' e = inl (heads m m' after after' e)
two_splits [] m after (x ∷ xs) m' after' e = inr (inl (record { rest = xs; split = ap (λ (n : ℕ). n ∷ xs) (sym (heads m x after (xs ++ m' ∷ after') e)) }))
two_splits (x ∷ xs) m after [] m' after' e = inr (inr (record { rest = xs; split = ap (λ (n : ℕ). n ∷ xs) (heads x m' (xs ++ m ∷ after) after' e) }))
two_splits (x ∷ xs) m after (y ∷ ys) m' after' e =
    let same : x ≡ y = heads x y (xs ++ m ∷ after) (ys ++ m' ∷ after') e in
    ⊎_elim
    (λ (k : m ≡ m'). inl k)
    (λ (k : Behind ys xs m ⊎ Behind xs ys m'). inr (⊎_elim
    (λ (h : Behind ys xs m). inl (behind_more x y m ys xs (sym same) h))
    (λ (h : Behind xs ys m'). inr (behind_more y x m' xs ys same h))
    k))
    (two_splits xs m after ys m' after' (same_rest x y (xs ++ m ∷ after) (ys ++ m' ∷ after') e))

-- There is one such medium at most.
pub one_off : (members : List ℕ) (reading : Reading) (m m' : ℕ) → EndsOff members reading m → EndsOff members reading m' → m ≡ m'
one_off members reading m m' h k =
    ⊎_elim
    (λ (e : m ≡ m'). e)
    (λ (b : Behind k.before h.before m ⊎ Behind h.before k.before m'). absurd (⊎_elim (earlier h.before k.before m h.off k.meet) (earlier k.before h.before m' k.off h.meet) b))
    (two_splits h.before m h.after k.before m' k.after (sym h.split ∙ k.split))
  where
    earlier : (before after : List ℕ) (m : ℕ) → (EndsMeet (before ++ m ∷ []) reading → ⊥) → EndsMeet after reading → Behind after before m → ⊥
    earlier before after m off meet b = off (front_meets (before ++ m ∷ []) b.rest reading (subst (λ (ms : List ℕ). EndsMeet ms reading) b.split meet))

module _ (first : ℕ) (others : List ℕ) (reading : Reading) where
  abbrev batch : Option (List Record)
  batch = last (reading.batches first)

  abbrev Known : List ℕ → Type 0
  Known ms = (m : ℕ) → Contains ms m → (last (reading.batches m) ≡ batch) ⊎ (last (reading.batches m) ≡ batch → ⊥)

  abbrev Answer : Type 0
  Answer = EndsMeet (first ∷ others) reading ⊎ ((m : ℕ) × EndsOff (first ∷ others) reading m)

  some_off : (before ms : List ℕ) → first ∷ others ≡ (first ∷ before) ++ ms → EndsMeet (first ∷ before) reading → Known (first ∷ others) → Answer
  some_off before [] split meet known = inl (subst (λ (all : List ℕ). EndsMeet all reading) (sym (split ∙ append-nil (first ∷ before))) meet)
  some_off before (m ∷ ms) split meet known =
      ⊎_elim
      (λ (k : EndsMeet (first ∷ (before ++ m ∷ [])) reading). some_off (before ++ m ∷ []) ms (split ∙ sym (append_assoc (first ∷ before) (m ∷ []) ms)) k known)
      (λ (k : EndsMeet (first ∷ (before ++ m ∷ [])) reading → ⊥). inr (m, record { before = first ∷ before; after = ms; split = split; meet = meet; off = k }))
      (end_or_not reading batch (first ∷ (before ++ m ∷ [])) (λ n c. known n (there n c)))
    where
      there : (n : ℕ) → Contains (first ∷ (before ++ m ∷ [])) n → Contains (first ∷ others) n
      there n c = subst (λ (all : List ℕ). Contains all n) (append_assoc (first ∷ before) (m ∷ []) ms ∙ sym split) (Contains-append_left (first ∷ (before ++ m ∷ [])) ms n c)

-- Where each end is known to be the leading one's or not, the media meet, or one is the first at which they do not.
pub meet_or_off : (members : List ℕ) (reading : Reading)
    → ((m : ℕ) → Contains members m → (last (reading.batches m) ≡ leading_batch members reading) ⊎ (last (reading.batches m) ≡ leading_batch members reading → ⊥))
    → EndsMeet members reading ⊎ ((m : ℕ) × EndsOff members reading m)
meet_or_off [] reading known = inl tt
meet_or_off (first ∷ others) reading known = some_off first others reading [] others refl (inl (refl, tt)) known

-- Media that meet at the end of a batch: the first of them have it, and the others end before it.
record Parted (reading : Reading) (batch : List Record) (ms : List ℕ) : Type 0 where
  pub given : List ℕ
  pub waiting : List ℕ
  pub split : ms ≡ given ++ waiting
  pub given_end : All (λ m. last (reading.batches m) ≡ Some batch) given
  pub waiting_end : All (λ m. ends_before (Some batch) (reading.batches m) ≡ true) waiting

parted : (reading : Reading) (batch : List Record) (ms : List ℕ) → EndBy reading (Some batch) ms → Parted reading batch ms
parted reading batch [] h = record { given = []; waiting = []; split = refl; given_end = All-nil (EndsWith reading (Some batch)); waiting_end = All-nil (Lacks reading (Some batch)) }
parted reading batch (m ∷ ms) (inl (e, more)) =
    let k = parted reading batch ms more in
    record {
      given = m ∷ k.given;
      waiting = k.waiting;
      split = ap (λ (xs : List ℕ). m ∷ xs) k.split;
      given_end = All-cons (EndsWith reading (Some batch)) m k.given e k.given_end;
      waiting_end = k.waiting_end;
    }
parted reading batch (m ∷ ms) (inr all) = record { given = []; waiting = m ∷ ms; split = refl; given_end = All-nil (EndsWith reading (Some batch)); waiting_end = all }

-- the first of them ends with its own last batch
pub meet_parts : (members : List ℕ) (reading : Reading) (batch : List Record) → 0 < length members → EndsMeet members reading → leading_batch members reading ≡ Some batch
    → (given waiting : List ℕ) × IsPassedOn members given waiting batch reading
meet_parts [] reading batch some h leads = absurd (omega (arith, some))
meet_parts (m ∷ ms) reading batch some h leads = go (subst (λ (o : Option (List Record)). EndBy reading o (m ∷ ms)) leads h)
  where
    go : EndBy reading (Some batch) (m ∷ ms) → (given waiting : List ℕ) × IsPassedOn (m ∷ ms) given waiting batch reading
    go (inl (e, more)) =
        let k = parted reading batch ms more in (
          m ∷ k.given,
          k.waiting,
          record { split = ap (λ (xs : List ℕ). m ∷ xs) k.split; some = omega arith; given_end = All-cons (EndsWith reading (Some batch)) m k.given e k.given_end; waiting_end = k.waiting_end },
        )
    go (inr all) = (
      m ∷ [],
      ms,
      record {
        split = refl;
        some = omega arith;
        given_end = All-cons (EndsWith reading (Some batch)) m [] leads (All-nil (EndsWith reading (Some batch)));
        waiting_end = All-tail (Lacks reading (Some batch)) m ms all;
      },
    )

-- Where the leading medium has no batch, none has one.
pub none_meet : (members : List ℕ) (reading : Reading) → EndsMeet members reading → leading_batch members reading ≡ None → AreLevel members reading
none_meet members reading h leads =
    subst (λ (o : Option (List Record)). All (λ m. last (reading.batches m) ≡ o) members) (sym leads)
    (none members (subst (λ (o : Option (List Record)). EndBy reading o members) leads h))
  where
    none : (ms : List ℕ) → EndBy reading None ms → All (λ m. last (reading.batches m) ≡ None) ms
    none [] h = All-nil (EndsWith reading None)
    none (m ∷ ms) (inl (e, more)) = All-cons (EndsWith reading None) m ms e (none ms more)
    none (m ∷ ms) (inr all) = absurd (true≢false (sym (All-head (Lacks reading None) m ms all)))
