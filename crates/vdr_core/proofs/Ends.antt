-- A run that ends: by its close, or cut off.
use Rattle.std.proofs.Common.{◌≡◌, ◌≤◌, ◌<◌, ◌+◌, ℕ, List, [], ◌∷◌, ◌++◌, length, cond, ◌&&◌, ◌==◌, Option, None, option_to_list, refl, sym, ap, ◌∙◌, subst, arith, ⊎_elim, append-nil, append_assoc}
use Rattle.std.proofs.lemmas.Bool.{cases_lt}
use Rattle.std.proofs.lemmas.List.Elements.{filter-append}
use Rattle.vdr_terms.specs.declared.counts.Counts.{Counts}
use Rattle.vdr_terms.specs.Records.{Content, Record, Item, total, has_items, records_of}
use Rattle.vdr_terms.specs.Records.Content.{Stop}
use Rattle.vdr_terms.specs.Rates.{Limit}
use Rattle.vdr_core.specs.Accounts.{AreMissed, AllAccounted, Accounts, AccountsPrefix}
use Rattle.vdr_core.specs.Runs.{RunStart, base_of}
use Rattle.vdr_terms.specs.Counting.{Pending, merged, with_missed}
use Rattle.vdr_core.specs.Recorder.{Recorder, tick_of, gap_of, gaps_below, stop_of, closing}
use Rattle.vdr_core.specs.Machine.{Lane}
use Rattle.vdr_core.specs.Taken.{AreQueued, Captured}
use Rattle.vdr_core.proofs.Counted.{missed_more}
use Rattle.vdr_core.proofs.Walk.{first_part}
use Rattle.vdr_core.proofs.Lanes.{Inv, with_gap}
use Rattle.vdr_core.proofs.Gaps.{GapsPaired, stand_paired, stand_closing, stand_closed, all_gaps, closes, own_gap, no_gap}
use Rattle.vdr_core.proofs.Taking.{AllLanes}

-- the group's records with its closing gap account for all that its port gave
close_lane : (start : RunStart) (limit : Limit) (base tick g : ℕ) (rs : List Record) (p : Pending) (l : Lane) (place : ℕ) (r : Recorder)
    → Inv limit base tick g rs p l → l.worker ≡ None → l.queue ≡ []
    → AllAccounted limit base [] (rs ++ gap_of start g place (tick_of start r) r.utc (with_missed l.tally.missed p)) 0 l.given
close_lane start limit base tick g rs p l place r h no_worker no_queue =
    let inside : h.inside ≡ [] = subst (λ (q : List Captured). AreQueued g (length h.used + length h.waiting) q h.inside) no_queue h.is_queued in
    let are : AreMissed limit base rs g (merged p.missed l.tally.missed) (h.waiting ++ h.since) =
    missed_more limit base rs g p.missed l.tally.missed h.waiting h.since h.is_pending h.is_counted in
    let order : l.given ≡ h.used ++ (h.waiting ++ h.since) =
    h.order ∙ (ap (λ (w : Option Item). h.used ++ h.waiting ++ h.inside ++ h.since ++ option_to_list w) no_worker
    ∙ (ap (λ (xs : List Item). h.used ++ h.waiting ++ xs ++ h.since ++ []) inside ∙ simp (append_assoc, append-nil))) in
    subst (λ (xs : List Item). AllAccounted limit base [] (rs ++ gap_of start g place (tick_of start r) r.utc (with_missed l.tally.missed p)) 0 xs) (sym order)
    (with_gap start limit base g rs place p.first (tick_of start r) r.utc (merged p.missed l.tally.missed) (total (merged p.missed l.tally.missed))
    h.used (h.waiting ++ h.since) h.recorded h.first are are.all)

-- where nothing was given, nothing is to account for
quiet_lane : (limit : Limit) (base tick g : ℕ) (rs : List Record) (p : Pending) (l : Lane) → Inv limit base tick g rs p l → l.given ≡ [] → AllAccounted limit base [] rs 0 l.given
quiet_lane limit base tick g rs p l h e =
    subst (λ (xs : List Item). AllAccounted limit base [] rs 0 xs) (used_up h.used (sym h.order ∙ e) ∙ sym e) h.recorded
  where
    used_up : (xs : List Item) → xs ++ h.waiting ++ h.inside ++ h.since ++ option_to_list l.worker ≡ [] → xs ≡ []
    used_up [] q = refl
    used_up (x ∷ xs) q = absurd (omega (arith, ap (λ (ys : List Item). length ys) q))

module _ (start : RunStart) (r : Recorder) (rest : ℕ → Counts) (lanes : ℕ → Lane) (all : AllLanes start r lanes) (counts : (g : ℕ) → (lanes g).tally.missed ≡ rest g) where
  -- with any record that is a Stop, after the gaps of the groups below n
  closed_accounts : (n : ℕ) (stop : Record) → stop.content ≡ Stop → ((g : ℕ) → n ≤ g → (lanes g).given ≡ []) → ((g : ℕ) → g < n → ((lanes g).worker ≡ None) × ((lanes g).queue ≡ []))
      → (g : ℕ) → AllAccounted (start.limits g) (base_of start) [] (records_of g (r.made ++ (gaps_below n start r rest ++ stop ∷ []))) 0 (lanes g).given
  closed_accounts n stop is_stop beyond quiet g =
      subst (λ (xs : List Record). AllAccounted (start.limits g) (base_of start) [] xs 0 (lanes g).given)
      (sym (filter-append (λ (r : Record). has_items r.content && r.group == g) r.made (gaps_below n start r rest ++ stop ∷ [])
      ∙ ap (λ (xs : List Record). records_of g r.made ++ xs) last_part))
      (⊎_elim near far (cases_lt g n))
    where
      last_part : records_of g (gaps_below n start r rest ++ stop ∷ []) ≡ records_of g (gaps_below n start r rest)
      last_part = filter-append (λ (r : Record). has_items r.content && r.group == g) (gaps_below n start r rest) (stop ∷ [])
          ∙ (ap (λ (c : Content). records_of g (gaps_below n start r rest) ++ cond (has_items c && stop.group == g) (stop ∷ []) []) is_stop ∙ append-nil (records_of g (gaps_below n start r rest)))

      near : g < n → AllAccounted (start.limits g) (base_of start) [] (records_of g r.made ++ records_of g (gaps_below n start r rest)) 0 (lanes g).given
      near l =
          let p = own_gap start r rest n g l in
          let q = quiet g l in
          subst (λ (xs : List Record). AllAccounted (start.limits g) (base_of start) [] (records_of g r.made ++ xs) 0 (lanes g).given)
          (ap (λ (c : Counts). gap_of start g p.0 (tick_of start r) r.utc (with_missed c (r.pending g))) (counts g) ∙ sym p.1)
          (close_lane start (start.limits g) (base_of start) (tick_of start r) g (records_of g r.made) (r.pending g) (lanes g) p.0 r (all g) q.0 q.1)

      far : n ≤ g → AllAccounted (start.limits g) (base_of start) [] (records_of g r.made ++ records_of g (gaps_below n start r rest)) 0 (lanes g).given
      far l =
          subst (λ (xs : List Record). AllAccounted (start.limits g) (base_of start) [] (records_of g r.made ++ xs) 0 (lanes g).given) (sym (no_gap start r rest n g l))
          (subst (λ (xs : List Record). AllAccounted (start.limits g) (base_of start) [] xs 0 (lanes g).given) (sym (append-nil (records_of g r.made)))
          (quiet_lane (start.limits g) (base_of start) (tick_of start r) g (records_of g r.made) (r.pending g) (lanes g) (all g) (beyond g l)))

  closed_below : (n : ℕ) (stop : Record) → stop.content ≡ Stop → GapsPaired r.made → ((g : ℕ) → n ≤ g → (lanes g).given ≡ []) → ((g : ℕ) → g < n → ((lanes g).worker ≡ None) × ((lanes g).queue ≡ []))
      → (g : ℕ) → Accounts (start.limits g) (base_of start) (r.made ++ (gaps_below n start r rest ++ stop ∷ [])) g (lanes g).given
  closed_below n stop is_stop paired beyond quiet g = record {
    gaps = stand_closed r.made (gaps_below n start r rest ++ stop ∷ []) paired
        (stand_closing (gaps_below n start r rest ++ stop ∷ []) (closes (gaps_below n start r rest) stop is_stop (all_gaps start r rest n)));
    accounted = closed_accounts n stop is_stop beyond quiet g;
  }

  pub closed : GapsPaired r.made → ((g : ℕ) → 16 ≤ g → (lanes g).given ≡ []) → ((g : ℕ) → g < 16 → ((lanes g).worker ≡ None) × ((lanes g).queue ≡ []))
      → (g : ℕ) → Accounts (start.limits g) (base_of start) (r.made ++ closing start r rest) g (lanes g).given
  closed paired beyond quiet g = closed_below 16 (stop_of start r rest) refl paired beyond quiet g

-- the first of the records account for the first of the items
pub cut : (limit : Limit) (base tick g : ℕ) (records more : List Record) (p : Pending) (l : Lane) → GapsPaired records
    → Inv limit base tick g (records_of g (records ++ more)) p l → AccountsPrefix limit base records g l.given
cut limit base tick g records more p l paired h =
    let q : (kept lost : List Item) × (h.used ≡ kept ++ lost) × AllAccounted limit base [] (records_of g records) 0 kept =
    first_part limit base [] (records_of g records) (records_of g more) 0 h.used
    (subst (λ (xs : List Record). AllAccounted limit base [] xs 0 h.used) (filter-append (λ (r : Record). has_items r.content && r.group == g) records more) h.recorded) in (
      q.0,
      q.1 ++ h.waiting ++ h.inside ++ h.since ++ option_to_list l.worker,
      h.order ∙ (ap (λ (xs : List Item). xs ++ h.waiting ++ h.inside ++ h.since ++ option_to_list l.worker) q.2 ∙ simp append_assoc),
      record { gaps = stand_paired records paired; accounted = q.3 },
    )
