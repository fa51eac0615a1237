-- The media keep a history that grows by one event, and go on keeping it between the events.
use Rattle.std.proofs.Common.{ℕ, suc, ◌<◌, ◌≤◌, List, [], ◌∷◌, ◌++◌, length, Bool, true, false, Option, Some, None, ◌≡◌, ◌≢◌, ◌⊎◌, inl, inr, ⊎_elim, refl, sym, ap, ◌∙◌, subst, arith, append_assoc, append-nil}
use Rattle.std.proofs.lemmas.Bool.{cases_Bool, cases_lt}
use Rattle.vdr_core.specs.Histories.{Act, Event, EndsBy}
use Rattle.vdr_core.specs.Histories.Act.{Look}
use Rattle.vdr_outside.specs.Disk.{Disk, Image, Unchanged}
use Rattle.vdr_outside.specs.Moments.{AtEachMoment}
use Rattle.vdr_outside.proofs.Moments.{moments_still, now_after, unchanged_now}
use Rattle.vdr_durability.specs.Keeping.{Extends, IsWhole, Keeps, RiseTo, ShowsAtMost, ShowsEither, ShowsOn, ShowsPrefix, acknowledged, is_by, moment_of, moments}
use Rattle.vdr_durability.proofs.Pending.{pending_with, pending_looks}
use Rattle.vdr_durability.proofs.Acknowledged.{acknowledged_more, acknowledged_without, acknowledged_within, length_with, moments_none, moments_some, reached, rise_longer, rise_with, whole_last}
use Rattle.vdr_durability.proofs.Doubt.{all_at_most, either_at_most, front_at_most, no_more, one_more_on, one_more_still}

some_is : (o : Option ℕ) (m : ℕ) → o ≡ Some m → o ≢ None
some_is o m e = λ n. clash m (sym e ∙ n)
  where
    clash : (m : ℕ) → Some m ≡ None → ⊥
    clash m e = cc

module _ (shows : List Event → Image → Type 0) where
  -- All of the events, and a first part of them where there are more.
  all_shown : (events : List Event) (least : ℕ) (image : Image) → least ≤ length events → shows events image → ShowsPrefix shows events least image
  all_shown events least image few h = record { first = events; rest = []; split = sym (append-nil events); enough = few; shown = h }

  longer : (events : List Event) (e : Event) (least : ℕ) (image : Image) → ShowsPrefix shows events least image → ShowsPrefix shows (events ++ e ∷ []) least image
  longer events e least image h = record {
    first = h.first;
    rest = h.rest ++ e ∷ [];
    split = ap (λ (es : List Event). es ++ e ∷ []) h.split ∙ append_assoc h.first h.rest (e ∷ []);
    enough = h.enough;
    shown = h.shown;
  }

  -- An image that shows the one or the other.
  either : (events : List Event) (e : Event) (t : ℕ) (image : Image) → shows events image ⊎ shows (events ++ e ∷ []) image → ShowsPrefix shows (events ++ e ∷ []) (acknowledged events t) image
  either events e t image h =
      let w = acknowledged_within events t in
      let n = length_with events e in
      ⊎_elim
      (λ (k : shows events image). longer events e (acknowledged events t) image (all_shown events (acknowledged events t) image w k))
      (λ (k : shows (events ++ e ∷ []) image). all_shown (events ++ e ∷ []) (acknowledged events t) image (omega (arith, w, n)) k)
      h

in_order : (t clock : ℕ) → (t ≤ clock) ⊎ (clock ≤ t)
in_order t clock = ⊎_elim (λ (l : t < clock). inl (omega arith)) (λ (g : clock ≤ t). inr g) (cases_lt t clock)

module _ {tells tells_images : Type 0} (shows : List Event → Image → Type 0) (events : List Event) (t0 : ℕ) where
  -- What may have been left since t of media that have P at each moment of a call.
  by_moment : (old new : Disk tells tells_images) (P : Image → Type 0) (t : ℕ) (image : Image) → AtEachMoment old new P → new.since t image → ((t ≤ old.clock) × old.since t image) ⊎ P image
  by_moment old new P t image moments left =
      ⊎_elim
      (λ (early : t ≤ old.clock). ⊎_elim (λ since. inl (early, since)) (λ p. inr p) (moments.before t image early left))
      (λ (late : old.clock ≤ t). inr (moments.each image (new.earlier old.clock t image late left)))
      (in_order t old.clock)

  module _ (e : Event) (old new : Disk tells tells_images) (h : Keeps shows events t0 old) where
    -- What might be left before shows all that was whole.
    now_either : IsWhole events → (image : Image) → ShowsEither shows events e old.now image → shows events image ⊎ shows (events ++ e ∷ []) image
    now_either whole image k = ⊎_elim (λ now. inl (h.now whole image now)) (λ k. k) k

    -- the images that are left before the event counts
    not_counted : IsWhole events → Extends shows events e old new → (t : ℕ) (image : Image) → t0 ≤ t → new.since t image → ShowsPrefix shows (events ++ e ∷ []) (acknowledged events t) image
    not_counted whole goes t image start left =
        ⊎_elim
        (λ (k : (t ≤ old.clock) × old.since t image). longer shows events e (acknowledged events t) image (h.prefixes t image start k.0 k.1))
        (λ (k : ShowsEither shows events e old.now image). either shows events e t image (now_either whole image k))
        (by_moment old new (ShowsEither shows events e old.now) t image goes left)

    -- what came to the media by then
    more_with : IsWhole events → Extends shows events e old new → (t : ℕ) (image : Image) → t0 ≤ t → t < new.clock → new.until (suc t) image
        → new.until t0 image ⊎ ShowsAtMost shows (events ++ e ∷ []) (suc (acknowledged (events ++ e ∷ []) t)) image
    more_with whole goes = one_more_on shows events t0 old new h (ShowsEither shows events e old.now) goes whole (events ++ e ∷ []) (acknowledged_more events e)
        (front_at_most shows events e) (λ image k. either_at_most shows events e image (now_either whole image k))

    -- A call that answered: its moment is the clock as it returned, and what may be left now shows its event.
    pub keeps_done : IsWhole events → Extends shows events e old new → e.moment ≡ Some new.clock → ((image : Image) → new.now image → shows (events ++ e ∷ []) image)
        → Keeps shows (events ++ e ∷ []) t0 new
    keeps_done whole goes moment now = record {
      rising = subst (RiseTo new.clock 0) (sym (moments_some events e new.clock moment)) (rise_with old.clock new.clock 0 (moments events) goes.later h.rising);
      pending = pending_with events e whole (has_moment e.moment e.act (some_is e.moment new.clock moment));
      prefixes = λ t image start end left. ⊎_elim
          (λ (counts : is_by t e.moment ≡ true). all_shown shows (events ++ e ∷ []) (acknowledged (events ++ e ∷ []) t) image (acknowledged_within (events ++ e ∷ []) t)
          (now image (new.only_now image (subst (λ (u : ℕ). new.since u image) (same t end (reached e.moment new.clock t moment counts)) left))))
          (λ (not_yet : is_by t e.moment ≡ false). subst (λ (n : ℕ). ShowsPrefix shows (events ++ e ∷ []) n image) (sym (acknowledged_without events e t not_yet))
          (not_counted whole goes t image start left))
          (cases_Bool (is_by t e.moment));
      one_more = more_with whole goes;
      now = λ _. now;
    }
      where
        same : (t : ℕ) → t ≤ new.clock → new.clock ≤ t → t ≡ new.clock
        same t a b = omega arith

        has_moment : (o : Option ℕ) (act : Act) → o ≢ None → EndsBy o act [] (Unit {0})
        has_moment None act some = absurd (some refl)
        has_moment (Some m) act some = tt

    -- A call that answered a fault: its event is pending.
    pub keeps_faulted : IsWhole events → Extends shows events e old new → e.act ≢ Look → e.moment ≡ None → Keeps shows (events ++ e ∷ []) t0 new
    keeps_faulted whole goes acts moment = record {
      rising = subst (RiseTo new.clock 0) (sym (moments_none events e moment)) (rise_longer old.clock new.clock 0 (moments events) goes.later h.rising);
      pending = pending_with events e whole (subst (λ (o : Option ℕ). EndsBy o e.act [] (Unit {0})) (sym moment) (acts, tt));
      prefixes = λ t image start end left. subst (λ (n : ℕ). ShowsPrefix shows (events ++ e ∷ []) n image) (sym (acknowledged_without events e t (ap (is_by t) moment)))
          (not_counted whole goes t image start left);
      one_more = more_with whole goes;
      now = λ all. absurd (whole_last events e all moment);
    }

    -- A look after a fault, which leaves the media alone.
    pub keeps_after_fault : (IsWhole events → ⊥) → Unchanged old new → e.act ≡ Look → e.moment ≡ None → Keeps shows (events ++ e ∷ []) t0 new
    keeps_after_fault broken same looks moment = record {
      rising = subst (RiseTo new.clock 0) (sym (moments_none events e moment)) (rise_longer old.clock new.clock 0 (moments events) (omega (arith, same.clock)) h.rising);
      pending = pending_looks events e h.pending broken looks moment;
      prefixes = λ t image start end left. subst (λ (n : ℕ). ShowsPrefix shows (events ++ e ∷ []) n image) (sym (acknowledged_without events e t (ap (is_by t) moment)))
          (longer shows events e (acknowledged events t) image (h.prefixes t image start (omega (arith, end, same.clock)) ((same.since t image).0 left)));
      one_more = one_more_still shows events t0 old new h same (events ++ e ∷ []) (acknowledged_more events e) (front_at_most shows events e);
      now = λ all. absurd (whole_last events e all moment);
    }

    -- An event that shows at once, as a look or an empty commit, and leaves the media alone.
    pub keeps_silent : IsWhole events → Unchanged old new → e.moment ≡ Some new.clock → ((image : Image) → shows events image → shows (events ++ e ∷ []) image) → Keeps shows (events ++ e ∷ []) t0 new
    keeps_silent whole same moment silent = keeps_done whole (moments_still old new (ShowsEither shows events e old.now) same (λ image now. inl now)) moment (λ image now. silent image (h.now whole image (unchanged_now old new same image now)))

  -- A call that answered, or met a fault.
  pub keeps_call : (e : Event) (failed : Bool) (old new : Disk tells tells_images) → Keeps shows events t0 old → IsWhole events → Extends shows events e old new
      → e.act ≢ Look → e.moment ≡ moment_of failed new.clock → (failed ≡ false → (image : Image) → new.now image → shows (events ++ e ∷ []) image)
      → Keeps shows (events ++ e ∷ []) t0 new
  keeps_call e true old new h whole goes acts moment now = keeps_faulted e old new h whole goes acts moment
  keeps_call e false old new h whole goes acts moment now = keeps_done e old new h whole goes moment (now refl)

  -- Calls that are no event: those that leave the media alone, and those throughout which the media show the same.
  pub keeps_still : (old new : Disk tells tells_images) → Unchanged old new → Keeps shows events t0 old → Keeps shows events t0 new
  keeps_still old new same h = record {
    rising = subst (λ (clock : ℕ). RiseTo clock 0 (moments events)) (sym same.clock) h.rising;
    pending = h.pending;
    prefixes = λ t image start end left. h.prefixes t image start (omega (arith, end, same.clock)) ((same.since t image).0 left);
    one_more = one_more_still shows events t0 old new h same events (λ t. omega arith) (no_more shows events);
    now = λ whole image now. h.now whole image (unchanged_now old new same image now);
  }

  pub keeps_on : (old new : Disk tells tells_images) → IsWhole events → ShowsOn shows events old new → Keeps shows events t0 old → Keeps shows events t0 new
  keeps_on old new whole goes h = record {
    rising = subst (λ (ms : List ℕ). RiseTo new.clock 0 ms) (append-nil (moments events)) (rise_longer old.clock new.clock 0 (moments events) goes.later h.rising);
    pending = h.pending;
    prefixes = λ t image start end left. ⊎_elim
        (λ (k : (t ≤ old.clock) × old.since t image). h.prefixes t image start k.0 k.1)
        (λ (k : old.now image ⊎ shows events image). all_shown shows events (acknowledged events t) image (acknowledged_within events t) (shown image k))
        (by_moment old new (λ image. old.now image ⊎ shows events image) t image goes left);
    one_more = one_more_on shows events t0 old new h (λ image. old.now image ⊎ shows events image) goes whole events (λ t. omega arith) (no_more shows events)
        (λ image k. all_at_most shows events (suc (length events)) image (omega arith) (shown image k));
    now = λ _ image now. shown image (now_after old new (λ image. old.now image ⊎ shows events image) goes image now);
  }
    where
      shown : (image : Image) → old.now image ⊎ shows events image → shows events image
      shown image k = ⊎_elim (λ now. h.now whole image now) (λ k. k) k

  -- What is kept since a moment is kept since a later one.
  pub keeps_since : (later : ℕ) (disk : Disk tells tells_images) → t0 ≤ later → Keeps shows events t0 disk → Keeps shows events later disk
  keeps_since later disk after h = record {
    rising = h.rising;
    pending = h.pending;
    prefixes = λ t image start end left. h.prefixes t image (omega (arith, after, start)) end left;
    one_more = λ t image start end left. ⊎_elim (λ was. inl (disk.later t0 later image after was)) (λ k. inr k) (h.one_more t image (omega (arith, after, start)) end left);
    now = h.now;
  }

-- As the media are opened: what a stop may leave from now on shows what was opened.
pub keeps_opened : {tells tells_images : Type 0} (shows : List Event → Image → Type 0) (disk : Disk tells tells_images) → ((image : Image) → disk.now image → shows [] image) → Keeps shows [] disk.clock disk
keeps_opened shows disk h = record {
  rising = omega arith;
  pending = tt;
  prefixes = λ t image start end left. all_shown shows [] 0 image (omega arith) (h image (disk.only_now image (subst (λ (u : ℕ). disk.since u image) (same t start end) left)));
  one_more = λ t image start end left. absurd (omega (arith, start, end));
  now = λ _. h;
}
  where
    same : (t : ℕ) → disk.clock ≤ t → t ≤ disk.clock → t ≡ disk.clock
    same t a b = omega arith
