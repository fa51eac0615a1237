-- Media that get one event after another keep them. Media that take two events back keep no history, even if they give them again, and so do
-- media that get two at once.
use Rattle.std.proofs.Common.{ℕ, zero, suc, ◌<◌, ◌≤◌, List, [], ◌∷◌, length, map, Some, ◌≡◌, ◌⊎◌, inl, inr, ⊎_elim, refl, sym, ◌∙◌, ap, subst, arith, get_or}
use Rattle.std.proofs.lemmas.Bool.{cases_lt}
use Rattle.std.specs.Prelude.{⊤}
use Rattle.vdr_core.specs.Histories.{Event}
use Rattle.vdr_core.specs.Histories.Act.{Release}
use Rattle.vdr_outside.specs.Disk.{Disk, Image}
use Rattle.vdr_durability.specs.Keeping.{Keeps, ShowsAtMost, ShowsPrefix, acknowledged}

-- An image with a number of events on it.
abbrev pub marked : ℕ → Image
marked n = (n ∷ []) ∷ []

abbrev pub shows : List Event → Image → Type 0
shows events image = image ≡ marked (length events)

one_number : (a b : ℕ) → marked a ≡ marked b → a ≡ b
one_number a b p = cc

-- What was left at some moment between these.
pub record At (f : ℕ → ℕ) (from to : ℕ) (i : Image) : Type 0 where
  pub moment : ℕ
  pub after : from ≤ moment
  pub before : moment ≤ to
  pub is : i ≡ marked (f moment)

-- Up to a moment, and to the end.
pub record Upto (f : ℕ → ℕ) (t end : ℕ) (i : Image) : Type 0 where
  pub moment : ℕ
  pub by : moment ≤ t
  pub before : moment ≤ end
  pub is : i ≡ marked (f moment)

-- Media with f u events on them at each moment u up to the end.
abbrev pub media_of : (f : ℕ → ℕ) (end : ℕ) → Disk ⊤ ⊤
media_of f end = record {
  sizes = 1 ∷ [];
  reads = marked (f end);
  now = λ i. i ≡ marked (f end);
  clock = end;
  since = λ t i. At f t end i;
  until = λ t i. Upto f t end i;
  told = λ i left. tt;
  shown = λ told. (tt, refl);
  sized = λ t i left. ap (map length) left.is;
  sized_as_read = λ told. refl;
  counts_now = λ t i le left. record { moment = end; after = le; before = omega arith; is = left };
  only_now = λ i left. subst (λ (u : ℕ). i ≡ marked (f u)) (same left.moment left.before left.after) left.is;
  earlier = λ t u i le left. record { moment = left.moment; after = (let a = left.after in omega (arith, le, a)); before = left.before; is = left.is };
  counts_until = λ t i le left. record { moment = end; by = le; before = omega arith; is = left };
  later = λ t u i le left. record { moment = left.moment; by = (let a = left.by in omega (arith, le, a)); before = left.before; is = left.is };
  until_or_since = λ t u i le left. ⊎_elim
      (λ (early : left.moment < t). inl (record { moment = left.moment; by = omega (arith, early); before = left.before; is = left.is }))
      (λ (late : t ≤ left.moment). inr (record { moment = left.moment; after = late; before = left.before; is = left.is }))
      (cases_lt left.moment t);
}
  where
    same : (u : ℕ) → u ≤ end → end ≤ u → u ≡ end
    same u a b = omega arith

-- Whatever is chosen as the events, their moments and where they begin: media on which one moment has two events more than another one, with no
-- more than a moment between them, keep nothing, if nothing was to be seen at the beginning.
module _ (f : ℕ → ℕ) (end : ℕ) (events : List Event) (t0 : ℕ) (h : Keeps shows events t0 (media_of f end)) (none : (i : Image) → (media_of f end).until t0 i → shows [] i) (t u v : ℕ) where
  refused : t < end → u ≤ suc t → u ≤ end → t ≤ v → v ≤ end → suc (f v) < f u → ⊥
  refused early by within late last more = ⊎_elim
      (λ (before : t < t0). none_there (record { moment = u; by = omega (arith, by, before); before = within; is = refl }))
      (λ (start : t0 ≤ t). ⊎_elim none_there
      (λ (m : ShowsAtMost shows events (suc (acknowledged events t)) (marked (f u))).
      let few = m.few in
      let many = one_number (f u) (length m.first) m.shown in
      let k : ShowsPrefix shows events (acknowledged events t) (marked (f v)) = h.prefixes t (marked (f v)) start (omega (arith, early)) (record { moment = v; after = late; before = last; is = refl }) in
      let enough = k.enough in
      let least = one_number (f v) (length k.first) k.shown in
      absurd_of (omega (arith, few, many, enough, least)))
      (h.one_more t (marked (f u)) start early (record { moment = u; by = by; before = within; is = refl })))
      (cases_lt t t0)
    where
      absurd_of : f u ≤ suc (f v) → ⊥
      absurd_of le = omega (arith, le, more)

      none_there : (media_of f end).until t0 (marked (f u)) → ⊥
      none_there left = let no_events = one_number (f u) 0 (none (marked (f u)) left) in omega (arith, no_events, more)

-- Two events, then none for a moment, and then both again.
abbrev pub falls : ℕ → ℕ
falls t = get_or (0 ∷ 1 ∷ 2 ∷ 0 ∷ []) t 2

pub falls_refused : (events : List Event) (t0 : ℕ) → Keeps shows events t0 (media_of falls 4) → ((i : Image) → (media_of falls 4).until t0 i → shows [] i) → ⊥
falls_refused events t0 h none = refused falls 4 events t0 h none 2 2 3 (omega arith) (omega arith) (omega arith) (omega arith) (omega arith) (omega arith)

-- Nothing before the end, and then both at once.
abbrev pub leaps : ℕ → ℕ
leaps t = get_or (0 ∷ 0 ∷ 0 ∷ []) t 2

pub leaps_refused : (events : List Event) (t0 : ℕ) → Keeps shows events t0 (media_of leaps 3) → ((i : Image) → (media_of leaps 3).until t0 i → shows [] i) → ⊥
leaps_refused events t0 h none = refused leaps 3 events t0 h none 2 3 2 (omega arith) (omega arith) (omega arith) (omega arith) (omega arith) (omega arith)

-- One event after another.
abbrev pub grows : ℕ → ℕ
grows t = get_or (0 ∷ 1 ∷ []) t 2

abbrev pub two : List Event
two = record { act = Release 1; moment = Some 1 } ∷ record { act = Release 2; moment = Some 2 } ∷ []

abbrev first_of : ℕ → List Event
first_of zero = []
first_of (suc zero) = record { act = Release 1; moment = Some 1 } ∷ []
first_of (suc (suc n)) = two

module _ (i : Image) where
  at_least : (t u : ℕ) → t ≤ u → u ≤ 2 → i ≡ marked (grows u) → ShowsPrefix shows two (acknowledged two t) i
  at_least zero zero le few is = record { first = []; rest = two; split = refl; enough = omega arith; shown = is }
  at_least zero (suc zero) le few is = record { first = first_of 1; rest = record { act = Release 2; moment = Some 2 } ∷ []; split = refl; enough = omega arith; shown = is }
  at_least (suc zero) zero le few is = absurd (omega (arith, le))
  at_least (suc zero) (suc zero) le few is = record { first = first_of 1; rest = record { act = Release 2; moment = Some 2 } ∷ []; split = refl; enough = omega arith; shown = is }
  at_least (suc (suc t)) zero le few is = absurd (omega (arith, le))
  at_least (suc (suc t)) (suc zero) le few is = absurd (omega (arith, le))
  at_least zero (suc (suc zero)) le few is = record { first = two; rest = []; split = refl; enough = omega arith; shown = is }
  at_least (suc zero) (suc (suc zero)) le few is = record { first = two; rest = []; split = refl; enough = omega arith; shown = is }
  at_least (suc (suc zero)) (suc (suc zero)) le few is = record { first = two; rest = []; split = refl; enough = omega arith; shown = is }
  at_least (suc (suc (suc t))) (suc (suc zero)) le few is = absurd (omega (arith, le))
  at_least t (suc (suc (suc u))) le few is = absurd (omega (arith, few))

  at_most : (t u : ℕ) → t < 2 → u ≤ suc t → i ≡ marked (grows u) → ShowsAtMost shows two (suc (acknowledged two t)) i
  at_most t zero early by is = record { first = []; rest = two; split = refl; few = omega arith; shown = is }
  at_most t (suc zero) early by is = record { first = first_of 1; rest = record { act = Release 2; moment = Some 2 } ∷ []; split = refl; few = omega arith; shown = is }
  at_most zero (suc (suc u)) early by is = absurd (omega (arith, by))
  at_most (suc zero) (suc (suc zero)) early by is = record { first = two; rest = []; split = refl; few = omega arith; shown = is }
  at_most (suc zero) (suc (suc (suc u))) early by is = absurd (omega (arith, by))
  at_most (suc (suc t)) (suc (suc u)) early by is = absurd (omega (arith, early))

pub grows_keeps : Keeps shows two 0 (media_of grows 2)
grows_keeps = record {
  rising = (omega arith, (omega arith, omega arith));
  pending = tt;
  prefixes = λ t i start end left. at_least i t left.moment left.after left.before left.is;
  one_more = λ t i start end left. inr (at_most i t left.moment end left.by left.is);
  now = λ whole i now. now;
}
