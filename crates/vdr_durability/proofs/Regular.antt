-- Regular members: their victims, and the batch that they lack.
use Rattle.std.proofs.Common.{ℕ, suc, ◌<◌, ◌≤◌, List, [], ◌∷◌, ◌++◌, length, true, false, All, Contains, sum_by, Option, Some, None, ◌≡◌, ⊎_elim, refl, sym, ap, ◌∙◌, subst, arith}
use Rattle.std.proofs.lemmas.Bool.{and_parts, cases_Bool, cond-true, eqb-true}
use Rattle.std.proofs.lemmas.List.Sums.{sum_by-cons, sum_by-append}
use Rattle.std.proofs.lemmas.List.Elements.{All-nil, All-head, All-tail, All-append, All-contains, Contains-append_left, Contains-append_right, Contains-push}
use Rattle.vdr_terms.specs.Records.{Record, last}
use Rattle.vdr_terms.specs.Sizes.{records_size}
use Rattle.vdr_terms.specs.Order.{AreInOrder, NeverFalls, RunOn}
use Rattle.vdr_terms.specs.Needs.{Sizes, cost, usable, needed_slots}
use Rattle.vdr_durability.specs.Layout.{Batches, batch_size_at, batches_size_at, records_in, segment_records, batches_in}
use Rattle.vdr_durability.specs.Regular.{FollowOn, IsPaced}
use Rattle.vdr_durability.specs.Retention.{at_places, within}
use Rattle.vdr_durability.specs.Victims.{ArePinsOf, HasVictim}
use Rattle.vdr_durability.proofs.Lists.{all_from, contains_filter, filter_test, filter_was, last_contained, records_of_batches}
use Rattle.vdr_durability.proofs.Ordered.{parts_in_order}
use Rattle.vdr_durability.proofs.Following.{follow_in_order}
use Rattle.vdr_durability.proofs.Victims.{medium_has_victim}
use Rattle.vdr_durability.specs.Readings.{Reading, AreLevel, IsPassedOn, begins_at, ends_before, lead, leading_batch, next_after, records_on, restored, with_next}
use Rattle.vdr_durability.specs.Shown.{pins_on}
use Rattle.vdr_durability.specs.Regularity.{AreRegular, IsRegularAsRead, IsRegularMember, Layout, segments_of}
use Rattle.vdr_durability.proofs.Restored.{all_with, ends_in, ends_not_before, last_in_order, next_added, next_kept, passed_leads}

size_of_batches : (t : ℕ) (segments : List Batches) → batches_size_at t (batches_in segments) ≡ sum_by (batches_size_at t) segments
size_of_batches t [] = refl
size_of_batches t (s ∷ segments) =
    let a = sum_by-append (batch_size_at t) s (batches_in segments) in
    let b = sum_by-cons (batches_size_at t) s segments in
    let c = size_of_batches t segments in
    omega (arith, a, b, c)

all_batches : (P : List Record → Type 0) (segments : List Batches) → All (λ s. All P s) segments → All P (batches_in segments)
all_batches P [] h = All-nil P
all_batches P (s ∷ segments) h = All-append P s (batches_in segments) (All-head (λ s. All P s) s segments h) (all_batches P segments (All-tail (λ s. All P s) s segments h))

-- What is on a medium is there once it is restored.
still_there : (o : Option (List Record)) (batches : Batches) (r : Record) → Contains (segment_records batches) r → Contains (segment_records (with_next o batches)) r
still_there None batches r h = h
still_there (Some batch) batches r h =
    ⊎_elim
    (λ (e : ends_before (Some batch) batches ≡ true). subst (λ (xs : List Record). Contains xs r) (sym (next_added batches batch e)) (Contains-append_left (segment_records batches) batch r h))
    (λ (e : ends_before (Some batch) batches ≡ false). subst (λ (xs : Batches). Contains (segment_records xs) r) (sym (next_kept batches batch e)) h)
    (cases_Bool (ends_before (Some batch) batches))

at_places_more : (a b : ℕ) (xs ys : List Record) → ((r : Record) → Contains xs r → Contains ys r) → (r : Record) → Contains (at_places a b xs) r → Contains (at_places a b ys) r
at_places_more a b xs ys more r h = contains_filter (within a b) ys r (more r (filter_was (within a b) xs r h)) (filter_test (within a b) xs r h)

module _ (sizes : Sizes) (members : List ℕ) (layouts : ℕ → Layout) (reading : Reading) (regular : AreRegular sizes members layouts reading) where
  abbrev IsRegularOne : ℕ → Type 0
  IsRegularOne m = IsRegularMember sizes members reading m (layouts m)

  member : (m : ℕ) → Contains members m → IsRegularOne m
  member m there = All-contains IsRegularOne members m regular there

  records_are : (m : ℕ) → Contains members m → records_on reading m ≡ records_in (segments_of (layouts m))
  records_are m there = ap segment_records (member m there).as_read.laid_out ∙ records_of_batches (segments_of (layouts m))

  -- The pins of a medium as it is are those that its configuration allows.
  pub pins_allowed : (m : ℕ) → Contains members m → ArePinsOf sizes m (records_in (segments_of (layouts m))) (pins_on m reading.table)
  pins_allowed m there = record {
    few = (member m there).pins.few;
    short = λ pin c r s k l. (member m there).pins.short pin c r s (more pin.a pin.b r k) (more pin.a pin.b s l);
  }
    where
      more : (a b : ℕ) (r : Record) → Contains (at_places a b (records_in (segments_of (layouts m)))) r → Contains (at_places a b (records_on (restored members reading) m)) r
      more a b = at_places_more a b (records_in (segments_of (layouts m))) (records_on (restored members reading) m)
          (λ r c. still_there (leading_batch members reading) (reading.batches m) r (subst (λ (xs : List Record). Contains xs r) (sym (records_are m there)) c))

  -- So where all slots that it needs are open, it has a victim.
  pub member_has_victim : (m : ℕ) → Contains members m → 0 < usable sizes → needed_slots sizes m ≤ length (segments_of (layouts m))
      → HasVictim (sizes.seconds m) (pins_on m reading.table) (layouts m).older (layouts m).newest
  member_has_victim m there some open_slots = medium_has_victim sizes m (layouts m).older (layouts m).newest (pins_on m reading.table) (member m there).as_read.segments some (pins_allowed m there) open_slots

  -- The last batch of the leading medium is no longer than a batch may be.
  leading_short : (batch : List Record) → Contains members (lead members) → leading_batch members reading ≡ Some batch → (0 < length batch) × (records_size batch ≤ sizes.batch)
  leading_short batch there leads =
      All-contains (λ b. (0 < length b) × (records_size b ≤ sizes.batch)) (batches_in (segments_of (layouts (lead members)))) batch
      (all_batches (λ b. (0 < length b) × (records_size b ≤ sizes.batch)) (segments_of (layouts (lead members))) (member (lead members) there).as_read.segments.batches)
      (subst (λ (xs : Batches). Contains xs batch) (member (lead members) there).as_read.laid_out (ended (reading.batches (lead members)) batch leads))
    where
      ended : (batches : Batches) (batch : List Record) → last batches ≡ Some batch → Contains batches batch
      ended batches batch e = let k = ends_in batches batch e in subst (λ (xs : Batches). Contains xs batch) (sym k.split) (Contains-push k.front batch)

-- Records in order do not fall from the last of those before them.
falls_never : (from : ℕ) (rs : List Record) → All (λ r. from ≤ r.tick) rs → AreInOrder rs → NeverFalls from rs
falls_never from [] h order = tt
falls_never from (r ∷ rs) h (later, more) = (All-head (λ r. from ≤ r.tick) r rs h, falls_never r.tick rs (all_from (λ s. r.tick ≤ s.tick) rs (λ s c. (All-contains (λ s. (r.place < s.place) × (r.tick ≤ s.tick)) rs s later c).1)) more)

-- A batch before which the medium ends follows its last record.
pub follows_end : (held batch : List Record) (place : ℕ) → RunOn place batch → begins_at (next_after (last held)) batch ≡ true → AreInOrder (held ++ batch) → FollowOn (last held) batch
follows_end held batch place run begins order = go (last held) refl begins
  where
    parts : AreInOrder held × AreInOrder batch × ((x y : Record) → Contains held x → Contains batch y → (x.place < y.place) × (x.tick ≤ y.tick))
    parts = parts_in_order held batch order

    run_from : (batch : List Record) (from place : ℕ) → RunOn place batch → begins_at from batch ≡ true → RunOn from batch
    run_from [] from place run e = tt
    run_from (r ∷ rs) from place (is, more) e = subst (λ (n : ℕ). RunOn n (r ∷ rs)) (sym is ∙ eqb-true r.place from e) (is, more)

    go : (o : Option Record) → last held ≡ o → begins_at (next_after o) batch ≡ true → FollowOn o batch
    go None e b = (0, run_from batch 0 place run b, falls_never 0 batch (all_from (λ r. 0 ≤ r.tick) batch (λ r c. omega arith)) parts.1)
    go (Some newest) e b = (
      run_from batch (suc newest.place) place run b,
      falls_never newest.tick batch (all_from (λ r. newest.tick ≤ r.tick) batch (λ r c. (parts.2 newest r (last_contained held newest e) c).1)) parts.1,
    )

-- The batch that a medium lacks may come next on it.
pub lacked_is_paced : (sizes : Sizes) (members : List ℕ) (layouts : ℕ → Layout) (reading : Reading) (m : ℕ) (batch : List Record) (place : ℕ) → AreRegular sizes members layouts reading
    → Contains members m → Contains members (lead members) → leading_batch members reading ≡ Some batch → ends_before (Some batch) (reading.batches m) ≡ true → RunOn place batch
    → IsPaced (cost sizes) sizes.batch (segments_of (layouts m)) batch
lacked_is_paced sizes members layouts reading m batch place regular there there' leads lacks run = record {
  some = short.0;
  short = short.1;
  order = subst (λ (xs : List Record). FollowOn (last xs) batch) records
      (follows_end (records_on reading m) batch place run (and_parts _ _ lacks).0 (subst AreInOrder (ap segment_records grown ∙ all_with (reading.batches m) batch) one.order));
  paced = λ s.
      let a = one.paced s in
      let b = ap (batches_size_at s) grown in
      let c = sum_by-append (batch_size_at s) (reading.batches m) (batch ∷ []) in
      let d = ap (batches_size_at s) one.as_read.laid_out in
      let e = size_of_batches s (segments_of (layouts m)) in
      let f = sum_by-cons (batch_size_at s) batch [] in
      omega (arith, a, b, c, d, e, f);
}
  where
    one : IsRegularMember sizes members reading m (layouts m)
    one = member sizes members layouts reading regular m there

    short : (0 < length batch) × (records_size batch ≤ sizes.batch)
    short = leading_short sizes members layouts reading regular batch there' leads

    records : records_on reading m ≡ records_in (segments_of (layouts m))
    records = records_are sizes members layouts reading regular m there

    grown : (restored members reading).batches m ≡ reading.batches m ++ batch ∷ []
    grown = ap (λ (o : Option (List Record)). with_next o (reading.batches m)) leads ∙ cond-true (ends_before (Some batch) (reading.batches m)) (reading.batches m ++ batch ∷ []) (reading.batches m) lacks

-- Regular media that are level are regular as they are restored.
read_records : (sizes : Sizes) (reading : Reading) (m : ℕ) (layout : Layout) → IsRegularAsRead sizes reading m layout → records_on reading m ≡ records_in (segments_of layout)
read_records sizes reading m layout h = ap segment_records h.laid_out ∙ records_of_batches (segments_of layout)

read_in_order : (sizes : Sizes) (reading : Reading) (m : ℕ) (layout : Layout) → IsRegularAsRead sizes reading m layout → AreInOrder (records_on reading m)
read_in_order sizes reading m layout h = subst AreInOrder (sym (read_records sizes reading m layout h)) h.segments.order

read_paced : (sizes : Sizes) (reading : Reading) (m : ℕ) (layout : Layout) → IsRegularAsRead sizes reading m layout → (s : ℕ) → batches_size_at s (reading.batches m) ≤ cost sizes
read_paced sizes reading m layout h s =
    let a = ap (batches_size_at s) h.laid_out in
    let b = size_of_batches s (segments_of layout) in
    let c = h.segments.paced s in
    omega (arith, a, b, c)

-- A regular medium stays so as it is restored: it ends with the batch, or the batch may come next on it.
regular_there : (sizes : Sizes) (reading : Reading) (m : ℕ) (layout : Layout) (batch : List Record) → IsRegularAsRead sizes reading m layout → last (reading.batches m) ≡ Some batch
    → with_next (Some batch) (reading.batches m) ≡ reading.batches m
regular_there sizes reading m layout batch h e = next_kept (reading.batches m) batch
    (ends_not_before (reading.batches m) batch (last_in_order (reading.batches m) batch (read_in_order sizes reading m layout h) e) e)

module _ (sizes : Sizes) (members : List ℕ) (layouts : ℕ → Layout) (reading : Reading) where
  abbrev AsRead : ℕ → Type 0
  AsRead m = IsRegularAsRead sizes reading m (layouts m)

  abbrev Pinned : ℕ → Type 0
  Pinned m = ArePinsOf sizes m (records_on (restored members reading) m) (pins_on m reading.table)

  -- what is restored as it is
  kept_regular : (m : ℕ) → AsRead m → Pinned m → (restored members reading).batches m ≡ reading.batches m → IsRegularMember sizes members reading m (layouts m)
  kept_regular m h pins same = record {
    as_read = h;
    order = subst AreInOrder (sym (ap segment_records same)) (read_in_order sizes reading m (layouts m) h);
    paced = λ s. let a = ap (batches_size_at s) same in let b = read_paced sizes reading m (layouts m) h s in omega (arith, a, b);
    pins = pins;
  }

  -- what is restored with the batch
  grown_regular : (m : ℕ) (batch : List Record) → AsRead m → Pinned m → IsPaced (cost sizes) sizes.batch (segments_of (layouts m)) batch
      → (restored members reading).batches m ≡ reading.batches m ++ batch ∷ [] → IsRegularMember sizes members reading m (layouts m)
  grown_regular m batch h pins paced grown = record {
    as_read = h;
    order = subst AreInOrder (sym (ap segment_records grown ∙ all_with (reading.batches m) batch))
        (follow_in_order (records_on reading m) batch (read_in_order sizes reading m (layouts m) h)
        (subst (λ (xs : List Record). FollowOn (last xs) batch) (sym (read_records sizes reading m (layouts m) h)) paced.order));
    paced = λ s.
        let a = ap (batches_size_at s) grown in
        let b = sum_by-append (batch_size_at s) (reading.batches m) (batch ∷ []) in
        let c = sum_by-cons (batch_size_at s) batch [] in
        let d = ap (batches_size_at s) h.laid_out in
        let e = size_of_batches s (segments_of (layouts m)) in
        let f = paced.paced s in
        omega (arith, a, b, c, d, e, f);
    pins = pins;
  }

  pub level_regular : AreLevel members reading → All AsRead members → All Pinned members → AreRegular sizes members layouts reading
  level_regular level h pins = all_from (λ m. IsRegularMember sizes members reading m (layouts m)) members (λ m c.
      kept_regular m (All-contains AsRead members m h c) (All-contains Pinned members m pins c)
      (same m (leading_batch members reading) (All-contains AsRead members m h c) (All-contains (λ m. last (reading.batches m) ≡ leading_batch members reading) members m level c)))
    where
      same : (m : ℕ) (o : Option (List Record)) → AsRead m → last (reading.batches m) ≡ o → with_next o (reading.batches m) ≡ reading.batches m
      same m None h e = refl
      same m (Some batch) h e = regular_there sizes reading m (layouts m) batch h e

  -- A batch on its way, which may come next on each medium that lacks it, leaves the media regular.
  pub passed_regular : (given waiting : List ℕ) (batch : List Record) → IsPassedOn members given waiting batch reading → All AsRead members → All Pinned members
      → All (λ m. IsPaced (cost sizes) sizes.batch (segments_of (layouts m)) batch) waiting → AreRegular sizes members layouts reading
  passed_regular given waiting batch passed h pins paced =
      subst (All One) (sym passed.split) (All-append One given waiting
      (all_from One given (λ m c.
      kept_regular m (read m (Contains-append_left given waiting m c)) (pinned m (Contains-append_left given waiting m c))
      (led m ∙ regular_there sizes reading m (layouts m) batch (read m (Contains-append_left given waiting m c)) (All-contains (λ m. last (reading.batches m) ≡ Some batch) given m passed.given_end c))))
      (all_from One waiting (λ m c.
      grown_regular m batch (read m (Contains-append_right given waiting m c)) (pinned m (Contains-append_right given waiting m c))
      (All-contains (λ m. IsPaced (cost sizes) sizes.batch (segments_of (layouts m)) batch) waiting m paced c)
      (led m ∙ cond-true (ends_before (Some batch) (reading.batches m)) (reading.batches m ++ batch ∷ []) (reading.batches m) (All-contains (λ m. ends_before (Some batch) (reading.batches m) ≡ true) waiting m passed.waiting_end c)))))
    where
      One : ℕ → Type 0
      One m = IsRegularMember sizes members reading m (layouts m)

      there : (m : ℕ) → Contains (given ++ waiting) m → Contains members m
      there m c = subst (λ (ms : List ℕ). Contains ms m) (sym passed.split) c

      read : (m : ℕ) → Contains (given ++ waiting) m → AsRead m
      read m c = All-contains AsRead members m h (there m c)

      pinned : (m : ℕ) → Contains (given ++ waiting) m → Pinned m
      pinned m c = All-contains Pinned members m pins (there m c)

      led : (m : ℕ) → (restored members reading).batches m ≡ with_next (Some batch) (reading.batches m)
      led m = ap (λ (o : Option (List Record)). with_next o (reading.batches m)) (passed_leads members given waiting batch reading passed)
