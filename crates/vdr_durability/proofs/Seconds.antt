-- No second has more bytes of a recorder's batches than its cost.
use Rattle.std.proofs.Common.{ℕ, ◌+◌, ◌<◌, ◌≤◌, List, [], ◌∷◌, ◌++◌, map, flat_map, sum_by, true, false, true≢false, cond, All, Contains, Option, Some, None, ◌≡◌, ◌⊎◌, ⊎_elim, refl, sym, ap, ◌∙◌, subst, arith, append-nil}
use Rattle.std.proofs.lemmas.Bool.{cases_lt, cond-true, cond-false, cond_both}
use Rattle.std.proofs.lemmas.Grind.{flat_map-append}
use Rattle.std.proofs.lemmas.List.Elements.{All-append, All-contains, All-nil, All-weaker, Contains-append_left, Contains-append_right}
use Rattle.std.proofs.lemmas.List.Sums.{sum_by-cons, sum_by-append}
use Rattle.vdr_terms.specs.declared.counts.Counts.{Counts}
use Rattle.vdr_terms.specs.Records.{Record, total, second, last, last_after}
use Rattle.vdr_terms.specs.Order.{NeverFalls}
use Rattle.vdr_terms.specs.Needs.{Sizes, cost}
use Rattle.vdr_terms.specs.Rates.{Limit, is_configured}
use Rattle.vdr_core.specs.Runs.{RunStart, Stamp, base_after, base_of, last_tick}
use Rattle.vdr_core.specs.Taken.{Captured}
use Rattle.vdr_core.specs.Histories.{Act, records_of_act, stamp_of}
use Rattle.vdr_core.specs.Histories.Act.{Commit, Save, Release, Look}
use Rattle.vdr_core.specs.Recorder.{begun, tick_of, recorder_after, gaps_below, stop_of, closing}
use Rattle.vdr_core.specs.RunStates.{RunState, begin_run, end_run, next_start, after_commit, recorder_in, BeginsWith}
use Rattle.vdr_core.specs.Shapes.{AreInside}
use Rattle.vdr_core.specs.Commits.{ComeNext}
use Rattle.vdr_core.proofs.Commits.{further_items, closes}
use Rattle.vdr_core.proofs.RecorderHistory.{inside_begins_none, ends_with}
use Rattle.vdr_core.proofs.Ticking.{closing_ticks}
use Rattle.vdr_durability.specs.Layout.{Batches, batch_size_at, segment_records}
use Rattle.vdr_durability.proofs.Lists.{all_from, contains_here, contains_cases, none_contained, ticks_from}
use Rattle.vdr_durability.specs.Commits.{IsFit, TakesItems, ClosesRun, AreDoneFrom}
use Rattle.vdr_durability.specs.Media.{AreLimitsOf}
use Rattle.vdr_durability.proofs.Charges.{charge_at, IsHeaded, batch_paid, none_at, inside_headed, closing_headed}
use Rattle.vdr_durability.proofs.Closing.{IsConfigured, open_paced, closed_paced}
use Rattle.vdr_durability.proofs.Follow.{falls_parts}

-- The record is there, and no later than the stamp.
abbrev pub IsNoLater : Option Stamp → Record → Type 0
IsNoLater None r = ⊥
IsNoLater (Some stamp) r = r.tick ≤ stamp.tick

-- and at most the last
to_last : (x : Record) (xs : List Record) (r : Record) → NeverFalls x.tick xs → Contains (x ∷ xs) r → r.tick ≤ (last_after x xs).tick
to_last x [] r h m =
    ⊎_elim (λ (e : x ≡ r). let a = ap (λ (r : Record). r.tick) e in omega (arith, a)) (λ (k : Contains [] r). absurd (none_contained r k)) (contains_cases x [] r m)
to_last x (y ∷ ys) r h m =
    ⊎_elim
    (λ (e : x ≡ r).
    let a = ap (λ (r : Record). r.tick) e in
    let b = h.0 in
    let c = to_last y ys y h.1 (contains_here y ys) in
    omega (arith, a, b, c))
    (λ (k : Contains (y ∷ ys) r). to_last y ys r h.1 k)
    (contains_cases x (y ∷ ys) r m)

still_no_later : (stamp : Option Stamp) (x : Record) (xs : List Record) → NeverFalls (last_tick stamp) (x ∷ xs) → (r : Record) → IsNoLater stamp r → IsNoLater (stamp_of (last (x ∷ xs)) stamp) r
still_no_later None x xs h r l = absurd l
still_no_later (Some s) x xs h r l = let a = h.0 in let b = to_last x xs x h.1 (contains_here x xs) in omega (arith, l, a, b)

late_more : (stamp : Option Stamp) (batches : Batches) (records : List Record) → All (IsNoLater stamp) (segment_records batches) → NeverFalls (last_tick stamp) records
    → All (IsNoLater (stamp_of (last records) stamp)) (segment_records (batches ++ records ∷ []))
late_more stamp batches records late h = subst (λ (rs : List Record). All (IsNoLater (stamp_of (last records) stamp)) rs)
    (sym (flat_map-append (λ (b : List Record). b) batches (records ∷ []) ∙ ap (λ (rs : List Record). segment_records batches ++ rs) (append-nil records))) (go records h)
  where
    go : (records : List Record) → NeverFalls (last_tick stamp) records → All (IsNoLater (stamp_of (last records) stamp)) (segment_records batches ++ records)
    go [] h = subst (λ (rs : List Record). All (IsNoLater stamp) rs) (sym (append-nil (segment_records batches))) late
    go (x ∷ xs) h = All-append (IsNoLater (stamp_of (last (x ∷ xs)) stamp)) (segment_records batches) (x ∷ xs)
        (All-weaker (IsNoLater stamp) (IsNoLater (stamp_of (last (x ∷ xs)) stamp)) (still_no_later stamp x xs h) (segment_records batches) late)
        (all_from (IsNoLater (stamp_of (last (x ∷ xs)) stamp)) (x ∷ xs) (λ r m. to_last x xs r h.1 m))

-- one more batch, of records from this second on
one_more : (most low : ℕ) (batches : Batches) (records : List Record) → ((s : ℕ) → sum_by (batch_size_at s) batches ≤ most)
    → ((s : ℕ) → low ≤ s → sum_by (batch_size_at s) batches + batch_size_at s records ≤ most) → ((r : Record) → Contains records r → low ≤ second r.tick)
    → (s : ℕ) → sum_by (batch_size_at s) (batches ++ records ∷ []) ≤ most
one_more most low batches records before here above s =
    let a = sum_by-append (batch_size_at s) batches (records ∷ []) in
    ⊎_elim
    (λ (l : s < low). let b = none_at s records (λ r m e. let d = above r m in absurd (omega (arith, d, e, l))) in let c = before s in omega (arith, a, b, c))
    (λ (g : low ≤ s). let b = here s g in omega (arith, a, b))
    (cases_lt s low)

-- a record no later than the last one is of an earlier second than what comes next
before_base : (start : RunStart) (r : Record) → IsNoLater start.last r → second r.tick < second (base_of start)
before_base start r l = go start.last l
  where
    go : (o : Option Stamp) → IsNoLater o r → second r.tick < second (base_after o)
    go None l = absurd l
    go (Some stamp) l = omega (arith, l)

-- no second has bytes of batches whose records are all earlier
none_yet : (low s : ℕ) (batches : Batches) → low ≤ s → ((r : Record) → Contains (segment_records batches) r → second r.tick < low) → sum_by (batch_size_at s) batches ≡ 0
none_yet low s [] l h = refl
none_yet low s (b ∷ bs) l h =
    let a = sum_by-cons (batch_size_at s) b bs in
    let c = none_at s b (λ r m e. let d = h r (Contains-append_left b (segment_records bs) r m) in absurd (omega (arith, d, e, l))) in
    let d = none_yet low s bs l (λ r m. h r (Contains-append_right b (segment_records bs) r m)) in
    omega (arith, a, c, d)

module _ (sizes : Sizes) (limits : ℕ → Limit) (of : AreLimitsOf sizes limits) where
  -- what holds of all batches up to a state
  pub record Kept (batches : Batches) (s : RunState) : Type 0 where
    pub same : s.start.limits ≡ limits
    pub fit : s.is_open ≡ true → All (IsConfigured limits) s.popped
    pub late : All (IsNoLater s.last) (segment_records batches)
    pub paced : (at : ℕ) → sum_by (batch_size_at at) batches ≤ cost sizes
    pub paid : s.is_open ≡ true → (at : ℕ) → second (base_of s.start) ≤ at → sum_by (batch_size_at at) batches ≤ sum_by (charge_at at) (recorder_in s).made

  of_start : (start : RunStart) → start.limits ≡ limits → AreLimitsOf sizes start.limits
  of_start start same = subst (AreLimitsOf sizes) (sym same) of

  module _ (batches : Batches) (s : RunState) (h : Kept batches s) where
    same_after : (records : List Record) (taken : List Captured) → (after_commit s records taken).start.limits ≡ limits
    same_after records taken = cond_both (begin_run records) (next_start s) s.start (λ start. start.limits ≡ limits) (λ _. h.same) (λ _. h.same)

    -- items
    takes : (records : List Record) (taken : List Captured) → TakesItems limits sizes.batch s records taken → NeverFalls (last_tick s.last) records
        → Kept (batches ++ records ∷ []) (after_commit s records taken)
    takes records taken t falls = record {
      same = same_after records taken;
      fit = λ _. subst (λ (items : List Captured). All (IsConfigured limits) items) (sym popped)
          (All-append (IsConfigured limits) s.popped taken (h.fit t.made.is_open) (All-weaker (IsFit limits) (IsConfigured limits) (λ c k. k.configured) taken t.fit));
      late = late_more s.last batches records h.late falls;
      paced = one_more (cost sizes) (second (base_of s.start)) batches records h.paced
          (λ at low. let a = now at low in let b = open_paced sizes s.start (of_start s.start h.same) (s.popped ++ taken) at in omega (arith, a, b))
          (λ r m. let a = ticks_from (tick_of s.start (recorder_in s)) records r next.0.ticks m in omega (arith, a));
      paid = λ _ at low. subst (λ (x : RunStart × List Captured). second (base_of x.0) ≤ at → sum_by (batch_size_at at) (batches ++ records ∷ []) ≤ sum_by (charge_at at) (recorder_after x.0 x.1).made)
          (λ i. (sym start i, sym popped i)) (λ low. let a = now at low in let b = sum_by-append (batch_size_at at) batches (records ∷ []) in omega (arith, a, b)) low;
    }
      where
        next : ComeNext s.start s.popped records × AreInside records
        next = further_items s.start s.popped taken records t.made.made

        none_begins : begin_run records ≡ false
        none_begins = inside_begins_none records next.1

        start : (after_commit s records taken).start ≡ s.start
        start = cond-false (begin_run records) (next_start s) s.start none_begins

        popped : (after_commit s records taken).popped ≡ s.popped ++ taken
        popped = cond-false (begin_run records) taken (s.popped ++ taken) none_begins

        its_own : (at : ℕ) (records : List Record) → AreInside records → batch_size_at at records ≤ sum_by (charge_at at) records
        its_own at [] k = omega arith
        its_own at (x ∷ xs) k = batch_paid at (x ∷ xs) (inside_headed (x ∷ xs) (omega arith) k)

        now : (at : ℕ) → second (base_of s.start) ≤ at → sum_by (batch_size_at at) batches + batch_size_at at records ≤ sum_by (charge_at at) (recorder_after s.start (s.popped ++ taken)).made
        now at low =
            let a = h.paid t.made.is_open at low in
            let b = its_own at records next.1 in
            let c = ap (sum_by (charge_at at)) t.made.made ∙ sum_by-append (charge_at at) (recorder_in s).made records in
            omega (arith, a, b, c)

    -- the Start of a run
    begins : NeverFalls (last_tick s.last) (begun (next_start s)).made → Kept (batches ++ (begun (next_start s)).made ∷ []) (after_commit s (begun (next_start s)).made [])
    begins falls = record {
      same = h.same;
      fit = λ _. All-nil (IsConfigured limits);
      late = late_more s.last batches (begun (next_start s)).made h.late falls;
      paced = one_more (cost sizes) (second (base_of (next_start s))) batches (begun (next_start s)).made h.paced
          (λ at low. let a = now at low in let b = open_paced sizes (next_start s) (of_start (next_start s) h.same) [] at in omega (arith, a, b))
          (λ r m. let a = ticks_from (base_of (next_start s)) (begun (next_start s)).made r (omega arith, tt) m in omega (arith, a));
      paid = λ _ at low. let a = now at low in let b = sum_by-append (batch_size_at at) batches ((begun (next_start s)).made ∷ []) in omega (arith, a, b);
    }
      where
        now : (at : ℕ) → second (base_of (next_start s)) ≤ at → sum_by (batch_size_at at) batches + batch_size_at at (begun (next_start s)).made ≤ sum_by (charge_at at) (begun (next_start s)).made
        now at low =
            let a = none_yet (second (base_of (next_start s))) at batches low (λ r m. before_base (next_start s) r (All-contains (IsNoLater s.last) (segment_records batches) r h.late m)) in
            let b = batch_paid at (begun (next_start s)).made (closing_headed (base_of (next_start s)) (begun (next_start s)).utc [] _ tt refl refl) in
            omega (arith, a, b)

    -- a close
    closes_run : (records : List Record) (rest : ℕ → Counts) → records ≡ closing s.start (recorder_in s) rest → s.is_open ≡ true → ((g : ℕ) → is_configured (limits g) ≡ false → total (rest g) ≡ 0)
        → NeverFalls (last_tick s.last) records → Kept (batches ++ records ∷ []) (after_commit s records [])
    closes_run records rest made is_open quiet falls = record {
      same = same_after records [];
      fit = λ opened. absurd (true≢false (sym opened ∙ none_open));
      late = late_more s.last batches records h.late falls;
      paced = one_more (cost sizes) (second (base_of s.start)) batches records h.paced
          (λ at low.
          let a = h.paid is_open at low in
          let b = batch_paid at records headed in
          let c = ap (sum_by (charge_at at)) made in
          let d = closed_paced sizes s.start (of_start s.start h.same) s.popped rest all_fit all_quiet at in
          omega (arith, a, b, c, d))
          (λ r m. let a = ticks_from (tick_of s.start (recorder_in s)) records r (subst (NeverFalls (tick_of s.start (recorder_in s))) (sym made) (closes s.start s.popped rest).ticks) m in omega (arith, a));
      paid = λ opened. absurd (true≢false (sym opened ∙ none_open));
    }
      where
        all_fit : All (IsConfigured s.start.limits) s.popped
        all_fit = subst (λ (l : ℕ → Limit). All (IsConfigured l) s.popped) (sym h.same) (h.fit is_open)

        all_quiet : (g : ℕ) → is_configured (s.start.limits g) ≡ false → total (rest g) ≡ 0
        all_quiet = subst (λ (l : ℕ → Limit). (g : ℕ) → is_configured (l g) ≡ false → total (rest g) ≡ 0) (sym h.same) quiet

        none_open : (after_commit s records []).is_open ≡ false
        none_open = cond-true (end_run records) false (cond (begin_run records) true s.is_open)
            (ap end_run made ∙ ends_with (gaps_below 16 s.start (recorder_in s) rest) (stop_of s.start (recorder_in s) rest) refl)

        headed : IsHeaded records
        headed = subst IsHeaded (sym made)
            (closing_headed (tick_of s.start (recorder_in s)) (recorder_in s).utc (gaps_below 16 s.start (recorder_in s) rest) (stop_of s.start (recorder_in s) rest)
            (closing_ticks s.start (recorder_in s) rest 16) refl refl)

    committed : (records : List Record) (taken : List Captured) → TakesItems limits sizes.batch s records taken ⊎ (BeginsWith s records taken ⊎ ClosesRun limits s records taken)
        → NeverFalls (last_tick s.last) records → Kept (batches ++ records ∷ []) (after_commit s records taken)
    committed records taken done falls =
        ⊎_elim
        (λ (t : TakesItems limits sizes.batch s records taken). takes records taken t falls)
        (λ (o : BeginsWith s records taken ⊎ ClosesRun limits s records taken). ⊎_elim
        (λ (b : BeginsWith s records taken). subst (λ (x : List Record × List Captured). Kept (batches ++ x.0 ∷ []) (after_commit s x.0 x.1)) (λ i. (sym b.made i, sym b.none i))
        (begins (subst (NeverFalls (last_tick s.last)) b.made falls)))
        (λ (c : ClosesRun limits s records taken). subst (λ (taken : List Captured). Kept (batches ++ records ∷ []) (after_commit s records taken)) (sym c.made.none)
        (closes_run records c.made.rest c.made.made c.made.is_open c.quiet falls))
        o)
        done

  pub all_paced : (batches : Batches) (s : RunState) (acts : List Act) → Kept batches s → AreDoneFrom limits sizes.batch s acts → NeverFalls (last_tick s.last) (flat_map records_of_act acts)
      → (at : ℕ) → sum_by (batch_size_at at) batches + sum_by (batch_size_at at) (map records_of_act acts) ≤ cost sizes
  all_paced batches s [] h done falls at = let a = h.paced at in omega (arith, a)
  all_paced batches s (Commit records taken ∷ acts) h done falls at =
      let p = falls_parts s.last records (flat_map records_of_act acts) falls in
      let a = all_paced (batches ++ records ∷ []) (after_commit s records taken) acts (committed batches s h records taken done.0 p.0) done.1 p.1 at in
      let b = sum_by-append (batch_size_at at) batches (records ∷ []) in
      let c = sum_by-cons (batch_size_at at) records (map records_of_act acts) in
      omega (arith, a, b, c)
  all_paced batches s (Save id label a b ∷ acts) h done falls at =
      let c = all_paced batches s acts h done.1 falls at in let d = sum_by-cons (batch_size_at at) [] (map records_of_act acts) in omega (arith, c, d)
  all_paced batches s (Release id ∷ acts) h done falls at =
      let c = all_paced batches s acts h done.1 falls at in let d = sum_by-cons (batch_size_at at) [] (map records_of_act acts) in omega (arith, c, d)
  all_paced batches s (Look ∷ acts) h done falls at =
      let c = all_paced batches s acts h done.1 falls at in let d = sum_by-cons (batch_size_at at) [] (map records_of_act acts) in omega (arith, c, d)
