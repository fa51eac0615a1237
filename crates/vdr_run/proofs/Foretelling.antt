-- What foretells the bytes of an item's records, before the item and behind it.
use Rattle.std.proofs.Common.{◌≡◌, ◌≢◌, ◌<◌, ◌+◌, ◌==◌, ◌↔◌, ℕ, zero, suc, max, List, [], ◌∷◌, ◌++◌, length, Bool, true, false, cond, not, slice_index_or, slice_set, refl, sym, ap, ◌∙◌, subst, arith, ⊎_elim, get_or-set_same, get_or-set_other, length-set, zero-add, true≢false}
use Rattle.std.proofs.lemmas.Bool.{cases_eq, eq-eqb, ne_eqb, cond-true, cond-false}
use Rattle.vdr_terms.specs.Rates.{Limit, is_admitted}
use Rattle.vdr_terms.specs.Records.{Record, second, total}
use Rattle.vdr_terms.specs.Sizes.{records_size}
use Rattle.vdr_terms.specs.Counting.{Pending, with_missed, past_datagram, past_refusal}
use Rattle.vdr_core.specs.Taken.{Captured}
use Rattle.vdr_core.specs.Recorder.{Recorder, passed, tick_with, admits, took, recorder_after, with_pending}
use Rattle.vdr_core.proofs.Taking.{one_more_taken}
use Rattle.vdr_config.specs.Sizes.{limits_in}
use Rattle.vdr_meter.specs.Metering.{Measures, Metering}
use Rattle.vdr_run.specs.Charges.{Foretells}
use Rattle.vdr_run.specs.Sizes.{IsDue, bytes_of, charge, run_by}
use Rattle.vdr_run.specs.Meters.{IsMeterOf}
use Rattle.vdr_run.specs.declared.charges.Charges.{Charges}
use Rattle.vdr_run.proofs.Sizes.{admitted_size, gap_bytes}

-- The bytes of a Gap, by whether one is due.
gap_is : (n : ℕ) (due : Bool) → (due ≡ true) ↔ (0 < n) → gap_bytes n ≡ cond due 84 0
gap_is zero false e = refl
gap_is zero true e = let none = e.0 refl in absurd (omega (arith, none))
gap_is (suc n) false e = absurd (true≢false (sym (e.1 (omega arith))))
gap_is (suc n) true e = refl

module _ (limits : ℕ → Limit) (popped : List Captured) (c : Captured) where
  abbrev r : Recorder
  r = recorder_after (run_by limits) popped

  abbrev now : Recorder
  now = recorder_after (run_by limits) (popped ++ c ∷ [])

  abbrev p : Pending
  p = with_missed c.missed (r.pending c.group)

  passed_as : (b : Bool) → admits (run_by limits) r c ≡ b → now ≡ passed b (run_by limits) c (tick_with (run_by limits) r c) r p
  passed_as b e = one_more_taken (run_by limits) popped c ∙ ap (λ (b : Bool). passed b (run_by limits) c (tick_with (run_by limits) r c) r p) e

  -- what the meter says of it
  pub decided_by : (meter : Metering) (result : Bool) (tick len : ℕ) → ((records : List Record) → Measures meter records → result ≡ is_admitted (limits_in meter.rates c.group) records c.group (second tick) len)
      → IsMeterOf limits meter r.made → c.group < 16 → tick_with (run_by limits) r c ≡ tick → length c.bytes ≡ len → admits (run_by limits) r c ≡ result
  decided_by meter result tick len exact known low ticks lengths =
      sym (exact r.made known.measures ∙ (λ i. is_admitted (known.rates c.group low i) r.made c.group (second (sym ticks i)) (sym lengths i)))

  -- the item's tick
  pub tick_is : (greatest : ℕ) → greatest ≡ r.greatest → tick_with (run_by limits) r c ≡ max greatest c.received
  tick_is greatest e = zero-add (max r.greatest c.received) ∙ ap (λ (n : ℕ). max n c.received) (sym e)

  pub charge_is : (admitted due : Bool) → admits (run_by limits) r c ≡ admitted → (due ≡ true) ↔ IsDue p
      → bytes_of limits (popped ++ c ∷ []) ≡ bytes_of limits popped + charge admitted due (length c.bytes)
  charge_is false due admitted is = let a = ap (λ (q : Recorder). records_size q.made) (passed_as false admitted) in omega (arith, a)
  charge_is true false admitted is =
      let a = ap (λ (q : Recorder). records_size q.made) (passed_as true admitted) in
      let b = admitted_size (run_by limits) c (tick_with (run_by limits) r c) r p in
      let d = gap_is (total p.missed) false is in
      omega (arith, a, b, d)
  charge_is true true admitted is =
      let a = ap (λ (q : Recorder). records_size q.made) (passed_as true admitted) in
      let b = admitted_size (run_by limits) c (tick_with (run_by limits) r c) r p in
      let d = gap_is (total p.missed) true is in
      omega (arith, a, b, d)

  -- Behind the item its group's Gap is due where the rate refused it.
  abbrev settled : Bool → Pending
  settled true = past_datagram p
  settled false = past_refusal p

  due_own : (admitted : Bool) → (not admitted ≡ true) ↔ IsDue (settled admitted)
  due_own true = ((λ e. absurd (true≢false (sym e))), (λ some. absurd (omega (arith, some))))
  due_own false = ((λ e. omega arith), (λ some. refl))

  pending_now : (admitted : Bool) → admits (run_by limits) r c ≡ admitted → (g : ℕ) → now.pending g ≡ with_pending r.pending c.group (settled admitted) g
  pending_now true e g = ap (λ (q : Recorder). q.pending g) (passed_as true e)
  pending_now false e g = ap (λ (q : Recorder). q.pending g) (passed_as false e)

  greatest_now : (admitted : Bool) → admits (run_by limits) r c ≡ admitted → now.greatest ≡ max r.greatest c.received
  greatest_now true e = ap (λ (q : Recorder). q.greatest) (passed_as true e)
  greatest_now false e = ap (λ (q : Recorder). q.greatest) (passed_as false e)

  module _ (old new : Charges) (h : Foretells limits popped old) (low : c.group < 16) (admitted : Bool) (decides : admits (run_by limits) r c ≡ admitted)
      (greatest : new.greatest ≡ max old.greatest c.received) (due : new.due ≡ slice_set old.due c.group (not admitted)) (metered : IsMeterOf limits new.meter (took (run_by limits) r c).made) where
    within : c.group < length old.due
    within = let all = h.sixteen in omega (arith, all, low)

    own : (slice_index_or new.due c.group false ≡ true) ↔ IsDue (now.pending c.group)
    own = subst (λ (x : Bool × Pending). (x.0 ≡ true) ↔ IsDue x.1)
        (λ i. (
          sym (ap (λ (xs : List Bool). slice_index_or xs c.group false) due ∙ get_or-set_same old.due c.group (not admitted) false within) i,
          sym (pending_now admitted decides c.group ∙ cond-true (c.group == c.group) (settled admitted) (r.pending c.group) (eq-eqb c.group c.group refl)) i,
        ))
        (due_own admitted)

    other : (g : ℕ) → g < 16 → c.group ≢ g → (slice_index_or new.due g false ≡ true) ↔ IsDue (now.pending g)
    other g small ne = subst (λ (x : Bool × Pending). (x.0 ≡ true) ↔ IsDue x.1)
        (λ i. (
          sym (ap (λ (xs : List Bool). slice_index_or xs g false) due ∙ get_or-set_other old.due c.group g (not admitted) false (λ q. ne (sym q))) i,
          sym (pending_now admitted decides g ∙ cond-false (g == c.group) (settled admitted) (r.pending g) (ne_eqb g c.group (λ q. ne (sym q)))) i,
        ))
        (h.due g small)

    pub foretells_more : Foretells limits (popped ++ c ∷ []) new
    foretells_more = record {
      greatest = greatest ∙ (ap (λ (n : ℕ). max n c.received) h.greatest ∙ sym (greatest_now admitted decides));
      sixteen = ap (λ (xs : List Bool). length xs) due ∙ (simp length-set h.sixteen);
      due = λ g small. ⊎_elim
          (λ (e : c.group ≡ g). subst (λ (k : ℕ). (slice_index_or new.due k false ≡ true) ↔ IsDue (now.pending k)) e own)
          (λ (ne : c.group ≢ g). other g small ne)
          (cases_eq c.group g);
      metered = subst (λ (q : Recorder). IsMeterOf limits new.meter q.made) (sym (one_more_taken (run_by limits) popped c)) metered;
    }
