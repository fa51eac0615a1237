-- What came to the media shows at most one event that was not yet acknowledged a moment before.
use Rattle.std.proofs.Common.{ℕ, suc, ◌<◌, ◌≤◌, ◌-◌, List, [], ◌∷◌, ◌++◌, length, ◌≡◌, ◌⊎◌, inl, inr, ⊎_elim, sym, ap, ◌∙◌, subst, arith, append_assoc, append-nil}
use Rattle.std.proofs.lemmas.Bool.{cases_lt}
use Rattle.vdr_core.specs.Histories.{Event}
use Rattle.vdr_outside.specs.Disk.{Disk, Image, Unchanged}
use Rattle.vdr_outside.specs.Moments.{AtEachMoment}
use Rattle.vdr_outside.proofs.Moments.{in_calls}
use Rattle.vdr_durability.specs.Keeping.{HasOneInDoubt, IsWhole, Keeps, ShowsAtMost, ShowsPrefix, acknowledged}
use Rattle.vdr_durability.proofs.Acknowledged.{acknowledged_more, acknowledged_within, all_acknowledged, length_with}

module _ (shows : List Event → Image → Type 0) where
  pub no_more : (events : List Event) (most most' : ℕ) (image : Image) → most ≤ most' → ShowsAtMost shows events most image → ShowsAtMost shows events most' image
  no_more events most most' image le h = record { first = h.first; rest = h.rest; split = h.split; few = (let a = h.few in omega (arith, a, le)); shown = h.shown }

  -- All of the events, and the first of them where there is one more.
  pub all_at_most : (events : List Event) (most : ℕ) (image : Image) → length events ≤ most → shows events image → ShowsAtMost shows events most image
  all_at_most events most image few h = record { first = events; rest = []; split = sym (append-nil events); few = few; shown = h }

  pub front_at_most : (events : List Event) (e : Event) (most most' : ℕ) (image : Image) → most ≤ most' → ShowsAtMost shows events most image → ShowsAtMost shows (events ++ e ∷ []) most' image
  front_at_most events e most most' image le h = record {
    first = h.first;
    rest = h.rest ++ e ∷ [];
    split = ap (λ (es : List Event). es ++ e ∷ []) h.split ∙ append_assoc h.first h.rest (e ∷ []);
    few = (let a = h.few in omega (arith, a, le));
    shown = h.shown;
  }

  -- The one or the other.
  pub either_at_most : (events : List Event) (e : Event) (image : Image) → shows events image ⊎ shows (events ++ e ∷ []) image → ShowsAtMost shows (events ++ e ∷ []) (suc (length events)) image
  either_at_most events e image h =
      let n = length_with events e in
      ⊎_elim
      (λ (k : shows events image). front_at_most events e (length events) (suc (length events)) image (omega arith) (all_at_most events (length events) image (omega arith) k))
      (λ (k : shows (events ++ e ∷ []) image). all_at_most (events ++ e ∷ []) (suc (length events)) image (omega (arith, n)) k)
      h

module _ {tells tells_images : Type 0} (shows : List Event → Image → Type 0) (events : List Event) (t0 : ℕ) (old new : Disk tells tells_images) (h : Keeps shows events t0 old) where
  -- What was left by now, where the events were kept since an earlier moment.
  left_by_now : t0 < old.clock → (image : Image) → old.until old.clock image → old.until t0 image ⊎ ShowsAtMost shows events (suc (length events)) image
  left_by_now below image left =
      let before : suc (old.clock - 1) ≡ old.clock = omega (arith, below) in
      ⊎_elim
      (λ was. inl was)
      (λ (k : ShowsAtMost shows events (suc (acknowledged events (old.clock - 1))) image).
      let few = acknowledged_within events (old.clock - 1) in
      inr (no_more shows events (suc (acknowledged events (old.clock - 1))) (suc (length events)) image (omega (arith, few)) k))
      (h.one_more (old.clock - 1) image (omega (arith, below)) (omega (arith, below)) (subst (λ (u : ℕ). old.until u image) (sym before) left))

  -- Calls at whose every moment the images have P, where these show at most one event more than there were.
  module _ (P : Image → Type 0) (goes : AtEachMoment old new P) (whole : IsWhole events) (longer : List Event) (more : (t : ℕ) → acknowledged events t ≤ acknowledged longer t)
      (front : (most most' : ℕ) (image : Image) → most ≤ most' → ShowsAtMost shows events most image → ShowsAtMost shows longer most' image)
      (in_call : (image : Image) → P image → ShowsAtMost shows longer (suc (length events)) image) where
    -- from the return of the call before on all the events were acknowledged
    all_by : (t : ℕ) → old.clock ≤ t → suc (length events) ≤ suc (acknowledged longer t)
    all_by t le = let a = all_acknowledged old.clock 0 t events whole h.rising le in let b = more t in omega (arith, a, b)

    -- what was left before the calls
    was_left : (t : ℕ) (image : Image) → old.clock ≤ t → old.until old.clock image → new.until t0 image ⊎ ShowsAtMost shows longer (suc (acknowledged longer t)) image
    was_left t image le was = ⊎_elim
        (λ (below : t0 < old.clock). ⊎_elim
        (λ early. inl ((goes.past t0 image (omega (arith, below))).1 early))
        (λ (k : ShowsAtMost shows events (suc (length events)) image). inr (front (suc (length events)) (suc (acknowledged longer t)) image (all_by t le) k))
        (left_by_now below image was))
        (λ (above : old.clock ≤ t0). inl (new.later old.clock t0 image above ((goes.past old.clock image (omega arith)).1 was)))
        (cases_lt t0 old.clock)

    pub one_more_on : (t : ℕ) (image : Image) → t0 ≤ t → t < new.clock → new.until (suc t) image → new.until t0 image ⊎ ShowsAtMost shows longer (suc (acknowledged longer t)) image
    one_more_on t image start end left = ⊎_elim
        (λ (early : t < old.clock). ⊎_elim
        (λ was. inl ((goes.past t0 image (omega (arith, early, start))).1 was))
        (λ (k : ShowsAtMost shows events (suc (acknowledged events t)) image).
        let up = more t in
        inr (front (suc (acknowledged events t)) (suc (acknowledged longer t)) image (omega (arith, up)) k))
        (h.one_more t image start early ((goes.past (suc t) image (omega (arith, early))).0 left)))
        (λ (late : old.clock ≤ t). ⊎_elim
        (λ was. was_left t image late was)
        (λ p. inr (no_more shows longer (suc (length events)) (suc (acknowledged longer t)) image (all_by t late) (in_call image p)))
        (in_calls old new P goes (suc t) image left))
        (cases_lt t old.clock)

  -- Calls that leave the media alone.
  pub one_more_still : Unchanged old new → (longer : List Event) → ((t : ℕ) → acknowledged events t ≤ acknowledged longer t)
      → ((most most' : ℕ) (image : Image) → most ≤ most' → ShowsAtMost shows events most image → ShowsAtMost shows longer most' image)
      → (t : ℕ) (image : Image) → t0 ≤ t → t < new.clock → new.until (suc t) image → new.until t0 image ⊎ ShowsAtMost shows longer (suc (acknowledged longer t)) image
  one_more_still same longer more front t image start end left =
      let clock = same.clock in
      let up = more t in
      ⊎_elim
      (λ was. inl ((same.until t0 image).1 was))
      (λ (k : ShowsAtMost shows events (suc (acknowledged events t)) image). inr (front (suc (acknowledged events t)) (suc (acknowledged longer t)) image (omega (arith, up)) k))
      (h.one_more t image start (omega (arith, end, clock)) ((same.until (suc t) image).0 left))

-- The law.
pub one_in_doubt : {tells tells_images : Type 0} (shows : List Event → Image → Type 0) (disk : Disk tells tells_images) → HasOneInDoubt shows disk
one_in_doubt shows disk = record {
  each = λ events t0 t image other h start end left right.
      let k : ShowsPrefix shows events (acknowledged events t) other = h.prefixes t other start (omega (arith, end)) right in
      ⊎_elim
      (λ was. inl was)
      (λ (m : ShowsAtMost shows events (suc (acknowledged events t)) image). inr (record {
        this = record { first = m.first; rest = m.rest; split = m.split; enough = omega arith; shown = m.shown };
        other_one = record { first = k.first; rest = k.rest; split = k.split; enough = omega arith; shown = k.shown };
        near = (let a = m.few in let b = k.enough in omega (arith, a, b));
      }))
      (h.one_more t image start end left);
}
