-- How what holds at every moment goes on from call to call.
use Rattle.std.proofs.Common.{◌≡◌, ◌≢◌, ◌≤◌, ◌⊎◌, inl, inr, ⊎_elim, ℕ, List, length, map, get_or, refl, sym, ◌∙◌, ap, subst, arith}
use Rattle.vdr_outside.specs.Disk.{Disk, Image, content, over, InRange, Elapses, Overwritten, Tears, Narrows, Durable, SameBut, Unchanged}
use Rattle.vdr_outside.specs.Moments.{AtEachMoment, Changed, ChangesOnly, Settled}
use Rattle.vdr_outside.proofs.Bytes.{size_of}
use Rattle.vdr_outside.proofs.Images.{changed_own, changed_again, changed_overwritten, overwritten_self}

module _ {tells tells_images : Type 0} where
  -- an image that may be left now is one of those since any moment of the call
  pub now_after : (old new : Disk tells tells_images) (P : Image → Type 0) → AtEachMoment old new P → (i : Image) → new.now i → P i
  now_after old new P moments i now = moments.each i (new.counts_now old.clock i moments.later now)

  -- what was left until now was left before the calls, or in them
  pub in_calls : (old new : Disk tells tells_images) (P : Image → Type 0) → AtEachMoment old new P → (t : ℕ) (i : Image) → new.until t i → old.until old.clock i ⊎ P i
  in_calls old new P moments t i left = ⊎_elim (λ was. inl ((moments.past old.clock i (omega arith)).0 was)) (λ since. inr (moments.each i since)) (new.until_or_since old.clock t i moments.later left)

  -- calls that read alone, of media whose images have P
  pub moments_still : (old new : Disk tells tells_images) (P : Image → Type 0) → Unchanged old new → ((i : Image) → old.now i → P i) → AtEachMoment old new P
  moments_still old new P same here = record {
    later = omega (arith, same.clock);
    each = λ i left. here i (old.only_now i ((same.since old.clock i).0 left));
    before = λ t i le left. inl ((same.since t i).0 left);
    past = λ t i le. same.until t i;
  }

  -- nothing changed
  pub unchanged_none : (d : Disk tells tells_images) → Unchanged d d
  unchanged_none d = record { sizes = refl; reads = λ told. refl; clock = refl; since = λ t i. ((λ left. left), (λ left. left)); until = λ t i. ((λ left. left), (λ left. left)) }

  -- before the first call
  pub moments_none : (d : Disk tells tells_images) (P : Image → Type 0) → ((i : Image) → d.now i → P i) → AtEachMoment d d P
  moments_none d P here = record {
    later = omega arith;
    each = λ i left. here i (d.only_now i left);
    before = λ t i le left. inl left;
    past = λ t i le. ((λ left. left), (λ left. left));
  }

  -- one call of the media
  pub moments_one : (old new : Disk tells tells_images) (P : Image → Type 0) → Elapses old new → ((i : Image) → old.now i → P i) → ((i : Image) → new.now i → P i) → AtEachMoment old new P
  moments_one old new P time here there = record {
    later = time.later;
    each = λ i left. ⊎_elim (λ since. here i (old.only_now i since)) (there i) (time.nothing_else old.clock i (omega arith) left);
    before = λ t i le left. ⊎_elim (λ since. inl since) (λ now. inr (there i now)) (time.nothing_else t i le left);
    past = time.past;
  }

  -- one call after another
  pub moments_join : (old mid new : Disk tells tells_images) (P : Image → Type 0) → AtEachMoment old mid P → AtEachMoment mid new P → AtEachMoment old new P
  moments_join old mid new P first second = record {
    later = omega (arith, first.later, second.later);
    each = λ i left. ⊎_elim (first.each i) (λ p. p) (second.before old.clock i first.later left);
    before = λ t i le left. ⊎_elim (first.before t i le) (λ p. inr p) (second.before t i (omega (arith, le, first.later)) left);
    past = λ t i le.
        let onward : t ≤ mid.clock = omega (arith, le, first.later) in
        ((λ left. (first.past t i le).0 ((second.past t i onward).0 left)), (λ left. (second.past t i onward).1 ((first.past t i le).1 left)));
  }

  pub moments_weaken : (old new : Disk tells tells_images) (P Q : Image → Type 0) → AtEachMoment old new P → ((i : Image) → P i → Q i) → AtEachMoment old new Q
  moments_weaken old new P Q moments to = record {
    later = moments.later;
    each = λ i left. to i (moments.each i left);
    before = λ t i le left. ⊎_elim (λ since. inl since) (λ p. inr (to i p)) (moments.before t i le left);
    past = moments.past;
  }

  -- an image is itself with its own bytes in the range
  pub overwritten_own : (d : Disk tells tells_images) (m at n : ℕ) → InRange d.sizes m at n → (i : Image) → d.now i → Overwritten m at n d.now i
  overwritten_own d m at n range i now =
      let sizes : map length i ≡ d.sizes = d.sized d.clock i (d.counts_now d.clock i (omega arith) now) in
      let size : length (content i m) ≡ get_or d.sizes m 0 = size_of i m ∙ ap (λ (s : List ℕ). get_or s m 0) sizes in
      overwritten_self d.now i m at n (omega (arith, size, range.1)) now

  -- a write, whatever it answered
  pub moments_write : (old new : Disk tells tells_images) (m at n : ℕ) → InRange old.sizes m at n → Elapses old new → Tears m at n old new → AtEachMoment old new (Overwritten m at n old.now)
  moments_write old new m at n range time tears = moments_one old new _ time (overwritten_own old m at n range) tears

  -- and then a sync or a read, whatever it answered
  pub moments_then : (old mid new : Disk tells tells_images) (P : Image → Type 0) → AtEachMoment old mid P → Elapses mid new → Narrows mid new → AtEachMoment old new P
  moments_then old mid new P moments time narrows =
      moments_join old mid new P moments (moments_one mid new P time (now_after old mid P moments) (λ i now. now_after old mid P moments i (narrows i now)))

  -- Calls that change one medium.

  pub changes_join : (m : ℕ) (P : List ℕ → Type 0) (old mid new : Disk tells tells_images) → ChangesOnly m P old mid → ChangesOnly m P mid new → ChangesOnly m P old new
  changes_join m P old mid new first second =
      moments_join old mid new _ first (moments_weaken mid new _ _ second (changed_again m P P old.now mid.now (now_after old mid _ first)))

  pub changes_weaken : (m : ℕ) (P Q : List ℕ → Type 0) (old new : Disk tells tells_images) → ChangesOnly m P old new → ((b : List ℕ) → P b → Q b) → ChangesOnly m Q old new
  changes_weaken m P Q old new moments to =
      moments_weaken old new _ _ moments (λ i c. record { image = c.image; was = c.was; others = c.others; has = to (content i m) c.has })

  -- What each image has now of a settled medium.
  pub settled_image : (m : ℕ) (Q : List ℕ → Type 0) (d : Disk tells tells_images) → Settled m Q d → (i : Image) → d.now i → Q (content i m)
  settled_image m Q d settled i now = subst Q (sym (settled.durable.each i now)) (settled.reads (d.shown (d.told i now)).0)

  -- the same of another medium, while medium m changes
  pub settled_meanwhile : (m k : ℕ) (P Q : List ℕ → Type 0) (d : Disk tells tells_images) → k ≢ m → Settled k Q d → (i : Image) → Changed m P d.now i → Q (content i k)
  settled_meanwhile m k P Q d ne settled i c = subst Q (sym (c.others k ne)) (settled_image k Q d settled c.image c.was)

  -- after calls that change medium m alone the others are settled as before
  pub settled_other : (m k : ℕ) (P Q : List ℕ → Type 0) (old new : Disk tells tells_images) → k ≢ m → ChangesOnly m P old new → (tells → SameBut m old.reads new.reads) → Settled k Q old → Settled k Q new
  settled_other m k P Q old new ne moments same settled = record {
    durable = record {
      each = λ i now.
          let c = now_after old new _ moments i now in
          c.others k ne ∙ settled.durable.each c.image c.was ∙ sym (same (new.shown (new.told i now)).0 k ne);
    };
    reads = λ told. subst Q (sym (same told k ne)) (settled.reads told);
  }

  pub size_read : (d : Disk tells tells_images) (m : ℕ) → tells → length (content d.reads m) ≡ get_or d.sizes m 0
  size_read d m told = size_of d.reads m ∙ ap (λ (s : List ℕ). get_or s m 0) (d.sized_as_read told)

  -- A write and a sync of a settled medium. P is what any bytes in the range make of its contents.
  pub changes_through : (m at n : ℕ) (Q P : List ℕ → Type 0) (old new : Disk tells tells_images) → Settled m Q old → AtEachMoment old new (Overwritten m at n old.now) → ((b x : List ℕ) → Q b → length b ≡ get_or old.sizes m 0 → length x ≡ n → P (over b at x)) → ChangesOnly m P old new
  changes_through m at n Q P old new settled moments has =
      moments_weaken old new _ _ moments (changed_overwritten m at n P old.now (λ j x now size.
      let told = (old.shown (old.told j now)).0 in
      let same : content j m ≡ content old.reads m = settled.durable.each j now in
      subst (λ (b : List ℕ). P (over b at x)) (sym same) (has (content old.reads m) x (settled.reads told) (size_read old m told) size)))

  -- R is what these bytes make of its contents, once it is synced.
  pub settled_through : (m at : ℕ) (bytes : List ℕ) (Q R : List ℕ → Type 0) (old new : Disk tells tells_images) → Settled m Q old → Durable m new → (tells → content new.reads m ≡ over (content old.reads m) at bytes) → ((b : List ℕ) → Q b → length b ≡ get_or old.sizes m 0 → R (over b at bytes)) → Settled m R new
  settled_through m at bytes Q R old new settled durable reads has = record {
    durable = durable;
    reads = λ told. subst R (sym (reads told)) (has (content old.reads m) (settled.reads told) (size_read old m told));
  }

  -- One more write of a medium with P, synced or not: P is kept whatever the range holds.
  pub changes_write : (m at n : ℕ) (P : List ℕ → Type 0) (old mid new : Disk tells tells_images) → ChangesOnly m P old mid → InRange mid.sizes m at n → Elapses mid new → Tears m at n mid new → ((b x : List ℕ) → P b → length x ≡ n → P (over b at x)) → ChangesOnly m P old new
  changes_write m at n P old mid new so_far range time tears keeps =
      changes_join m P old mid new so_far (moments_weaken mid new _ _ (moments_write mid new m at n range time tears)
      (changed_overwritten m at n P mid.now (λ j x now size. keeps (content j m) x (now_after old mid _ so_far j now).has size)))

  -- before the first call
  pub changes_none : (m : ℕ) (P : List ℕ → Type 0) (d : Disk tells tells_images) → ((i : Image) → d.now i → P (content i m)) → ChangesOnly m P d d
  changes_none m P d has = moments_none d _ (changed_own m P d.now has)

  -- a sync or a read of any medium
  pub changes_then : (m : ℕ) (P : List ℕ → Type 0) (old mid new : Disk tells tells_images) → ChangesOnly m P old mid → Elapses mid new → Narrows mid new → ChangesOnly m P old new
  changes_then m P old mid new so_far time narrows = moments_then old mid new _ so_far time narrows

  -- Calls that read alone.

  pub unchanged_join : (old mid new : Disk tells tells_images) → Unchanged old mid → Unchanged mid new → Unchanged old new
  unchanged_join old mid new first second = record {
    sizes = second.sizes ∙ first.sizes;
    reads = λ told. second.reads told ∙ first.reads told;
    clock = second.clock ∙ first.clock;
    since = λ t i. ((λ left. (first.since t i).0 ((second.since t i).0 left)), (λ left. (second.since t i).1 ((first.since t i).1 left)));
    until = λ t i. ((λ left. (first.until t i).0 ((second.until t i).0 left)), (λ left. (second.until t i).1 ((first.until t i).1 left)));
  }

  pub unchanged_now : (old new : Disk tells tells_images) → Unchanged old new → (i : Image) → new.now i → old.now i
  unchanged_now old new same i now =
      let left : old.since new.clock i = (same.since new.clock i).0 (new.counts_now new.clock i (omega arith) now) in
      old.only_now i (subst (λ (t : ℕ). old.since t i) same.clock left)

  pub settled_still : (m : ℕ) (Q : List ℕ → Type 0) (old new : Disk tells tells_images) → Unchanged old new → Settled m Q old → Settled m Q new
  settled_still m Q old new same settled = record {
    durable = record {
      each = λ i now. settled.durable.each i (unchanged_now old new same i now) ∙ ap (λ (l : Image). content l m) (sym (same.reads (new.shown (new.told i now)).0));
    };
    reads = λ told. subst (λ (l : Image). Q (content l m)) (sym (same.reads told)) (settled.reads told);
  }

  -- reads before a call, and after it
  pub moments_after_reads : (old mid new : Disk tells tells_images) (P : Image → Type 0) → Unchanged old mid → AtEachMoment mid new P → AtEachMoment old new P
  moments_after_reads old mid new P same moments = record {
    later = omega (arith, same.clock, moments.later);
    each = λ i left. moments.each i (subst (λ (t : ℕ). new.since t i) (sym same.clock) left);
    before = λ t i le left. ⊎_elim (λ since. inl ((same.since t i).0 since)) (λ p. inr p) (moments.before t i (omega (arith, le, same.clock)) left);
    past = λ t i le.
        let past = moments.past t i (omega (arith, le, same.clock)) in
        ((λ left. (same.until t i).0 (past.0 left)), (λ left. past.1 ((same.until t i).1 left)));
  }

  pub moments_and_reads : (old mid new : Disk tells tells_images) (P : Image → Type 0) → AtEachMoment old mid P → Unchanged mid new → AtEachMoment old new P
  moments_and_reads old mid new P moments same = record {
    later = omega (arith, same.clock, moments.later);
    each = λ i left. moments.each i ((same.since old.clock i).0 left);
    before = λ t i le left. moments.before t i le ((same.since t i).0 left);
    past = λ t i le. ((λ left. (moments.past t i le).0 ((same.until t i).0 left)), (λ left. (same.until t i).1 ((moments.past t i le).1 left)));
  }
