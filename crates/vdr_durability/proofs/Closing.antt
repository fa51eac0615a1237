-- What a run is charged in a second, while it is open and once it is closed.
use Rattle.std.proofs.Common.{ℕ, zero, suc, ◌+◌, ◌*◌, ◌<◌, ◌≤◌, List, [], ◌∷◌, length, sum, sum_by, Bool, true, false, true≢false, ◌==◌, if◌then◌else◌, All, Option, Some, None, ◌≡◌, refl, sym, ap, ◌∙◌, subst, arith}
use Rattle.std.proofs.lemmas.List.Elements.{All-head, All-tail}
use Rattle.std.proofs.lemmas.List.Sums.{sum_by-append}
use Rattle.std.proofs.lemmas.Bool.{cond-true, cond-false, ne_eqb}
use Rattle.vdr_terms.specs.declared.counts.Counts.{Counts}
use Rattle.vdr_terms.specs.declared.rate.Rate.{Rate}
use Rattle.vdr_terms.specs.Records.{total, second}
use Rattle.vdr_terms.specs.Rates.{Limit, is_configured, limit_of, lengths_in}
use Rattle.vdr_terms.specs.Counting.{Pending, with_missed, past_datagram, past_refusal}
use Rattle.vdr_terms.specs.Needs.{Sizes, cost}
use Rattle.vdr_core.specs.Runs.{RunStart}
use Rattle.vdr_core.specs.Taken.{Captured}
use Rattle.vdr_core.specs.Recorder.{Recorder, begun, next_in, tick_of, tick_with, gap_unless_none, gap_of, passed, admits, took, taken_all, recorder_after, gaps_below, stop_of, closing}
use Rattle.vdr_durability.specs.Media.{AreLimitsOf}
use Rattle.vdr_durability.proofs.Charges.{charge_at}
use Rattle.vdr_durability.proofs.Loads.{over_groups, over_most, load, gap_charge, IsWithin, recorder_paced}
use Rattle.vdr_durability.proofs.Groups.{rate_at, data_cost, gap_cost, over_some, parts_within, is_one_of}

-- The item's group is configured.
abbrev pub IsConfigured : (ℕ → Limit) → Captured → Type 0
IsConfigured limits c = is_configured (limits c.group) ≡ true

-- an item of another group changes nothing of a group's pending counts
took_other : (start : RunStart) (r : Recorder) (c : Captured) (g : ℕ) → (g ≡ c.group → ⊥) → (took start r c).pending g ≡ r.pending g
took_other start r c g other = go (admits start r c)
  where
    go : (passes : Bool) → (passed passes start c (tick_with start r c) r (with_missed c.missed (r.pending c.group))).pending g ≡ r.pending g
    go true = cond-false (g == c.group) (past_datagram (with_missed c.missed (r.pending c.group))) (r.pending g) (ne_eqb g c.group other)
    go false = cond-false (g == c.group) (past_refusal (with_missed c.missed (r.pending c.group))) (r.pending g) (ne_eqb g c.group other)

all_other : (start : RunStart) (g : ℕ) → is_configured (start.limits g) ≡ false → (r : Recorder) (items : List Captured) → All (IsConfigured start.limits) items
    → (taken_all start r items).pending g ≡ r.pending g
all_other start g quiet r [] all = refl
all_other start g quiet r (c ∷ items) all =
    all_other start g quiet (took start r c) items (All-tail (IsConfigured start.limits) c items all)
    ∙ took_other start r c g (λ same. true≢false (sym (All-head (IsConfigured start.limits) c items all) ∙ (ap (λ (k : ℕ). is_configured (start.limits k)) (sym same) ∙ quiet)))

-- A group that is not configured has nothing pending.
none_pending : (start : RunStart) (items : List Captured) (rest : ℕ → Counts) (g : ℕ) → All (IsConfigured start.limits) items → is_configured (start.limits g) ≡ false
    → total (rest g) ≡ 0 → total (with_missed (rest g) ((recorder_after start items).pending g)).missed ≡ 0
none_pending start items rest g all quiet none = ap (λ (p : Pending). total (with_missed (rest g) p).missed) (all_other start g quiet (begun start) items all)
    ∙ omega (arith, none)

module _ (sizes : Sizes) (start : RunStart) (of : AreLimitsOf sizes start.limits) (items : List Captured) where
  abbrev r : Recorder
  r = recorder_after start items

  is_below : (g : ℕ) → is_configured (start.limits g) ≡ true → g < length sizes.groups
  is_below g e = is_one_of sizes.groups g (ap is_configured (sym (of g)) ∙ e)

  abbrev made_load : ℕ → ℕ
  made_load s = over_groups (length sizes.groups) (λ g. load g s r.made)

  loads_most : (s : ℕ) → over_groups (length sizes.groups) (λ g. load g s (recorder_after start items).made) ≤ sum_by data_cost sizes.groups
  loads_most s =
      let p = (recorder_paced start (length sizes.groups) is_below items).1 in
      let a = over_most (length sizes.groups) (λ g. load g s r.made) (λ g. data_cost (rate_at sizes.groups g))
      (λ g. most (rate_at sizes.groups g) (lengths_in g s r.made) (subst (λ (l : Limit). IsWithin l (lengths_in g s r.made)) (of g) (p g s))) in
      let b = over_some data_cost refl (length sizes.groups) sizes.groups in
      omega (arith, a, b)
    where
      most : (o : Option Rate) (lengths : List ℕ) → IsWithin (limit_of o) lengths → 140 * length lengths + sum lengths ≤ data_cost o
      most None lengths e = let a = ap length e in let b = ap sum e in omega (arith, a, b)
      most (Some rate) lengths (a, b) = omega (arith, a, b)

  -- An open run is charged at most its cost in each second.
  pub open_paced : (s : ℕ) → sum_by (charge_at s) (recorder_after start items).made ≤ cost sizes
  open_paced s =
      let a = (recorder_paced start (length sizes.groups) is_below items).0 s in
      let b = loads_most s in
      let c = parts_within sizes.groups in
      omega (arith, a, b, c)

  module _ (rest : ℕ → Counts) (all : All (IsConfigured start.limits) items) (quiet : (g : ℕ) → is_configured (start.limits g) ≡ false → total (rest g) ≡ 0) where
    one_gap : (g s place : ℕ) (o : Option Rate) → rate_at sizes.groups g ≡ o
        → sum_by (charge_at s) (gap_of start g place (tick_of start r) r.utc (with_missed (rest g) (r.pending g))) ≤ gap_cost o
    one_gap g s place None e =
        let off : is_configured (start.limits g) ≡ false = ap is_configured (of g ∙ ap limit_of e) in
        let a : sum_by (charge_at s) (gap_of start g place (tick_of start r) r.utc (with_missed (rest g) (r.pending g))) ≡ 0 =
        ap (λ (k : ℕ). sum_by (charge_at s) (gap_unless_none start g place (with_missed (rest g) (r.pending g)).first (tick_of start r) r.utc (with_missed (rest g) (r.pending g)).missed k))
        (none_pending start items rest g all off (quiet g off)) in
        omega (arith, a)
    one_gap g s place (Some rate) e =
        let a = gap_charge start g s place (with_missed (rest g) (r.pending g)).first (tick_of start r) r.utc (with_missed (rest g) (r.pending g)).missed (total (with_missed (rest g) (r.pending g)).missed) in
        most (second (tick_of start r) == s) a
      where
        most : (t : Bool) → sum_by (charge_at s) (gap_of start g place (tick_of start r) r.utc (with_missed (rest g) (r.pending g))) ≤ (if t then 84 else 0)
            → sum_by (charge_at s) (gap_of start g place (tick_of start r) r.utc (with_missed (rest g) (r.pending g))) ≤ 84
        most true a = a
        most false a = omega (arith, a)

    gaps_paced : (n s : ℕ) → sum_by (charge_at s) (gaps_below n start r rest) ≤ over_groups n (λ g. gap_cost (rate_at sizes.groups g))
    gaps_paced zero s = omega arith
    gaps_paced (suc n) s =
        let a = sum_by-append (charge_at s) (gaps_below n start r rest) (gap_of start n (next_in start r.made + length (gaps_below n start r rest)) (tick_of start r) r.utc (with_missed (rest n) (r.pending n))) in
        let b = one_gap n s (next_in start r.made + length (gaps_below n start r rest)) (rate_at sizes.groups n) refl in
        let c = gaps_paced n s in
        omega (arith, a, b, c)

    stop_paced : (s : ℕ) → sum_by (charge_at s) (stop_of start r rest ∷ []) ≤ 49
    stop_paced s = go (second (tick_of start r) == s) refl
      where
        go : (t : Bool) → (second (tick_of start r) == s) ≡ t → sum_by (charge_at s) (stop_of start r rest ∷ []) ≤ 49
        go true e = let k = cond-true {A = ℕ} (second (tick_of start r) == s) 49 0 e in omega (arith, k)
        go false e = let k = cond-false {A = ℕ} (second (tick_of start r) == s) 49 0 e in omega (arith, k)

    -- A closed run is charged at most its cost in each second.
    pub closed_paced : (s : ℕ) → sum_by (charge_at s) (recorder_after start items).made + sum_by (charge_at s) (closing start (recorder_after start items) rest) ≤ cost sizes
    closed_paced s =
        let a = sum_by-append (charge_at s) (gaps_below 16 start r rest) (stop_of start r rest ∷ []) in
        let b = gaps_paced 16 s in
        let c = over_some gap_cost refl 16 sizes.groups in
        let d = stop_paced s in
        let e = (recorder_paced start (length sizes.groups) is_below items).0 s in
        let f = loads_most s in
        let g = parts_within sizes.groups in
        omega (arith, a, b, c, d, e, f, g)
