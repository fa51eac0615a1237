-- What a meter decides of an item, and what it knows then.
use Rattle.std.proofs.Common.{◌≡◌, ◌∷◌, ◌++◌, [], ℕ, ℤ, zero, suc, Bool, true, false, List, length, ◌<◌, Option, refl, sym, ap, ◌∙◌, subst, arith}
use Rattle.std.specs.Bool.{OnFalse}
use Rattle.vdr_terms.specs.declared.counts.Counts.{Counts}
use Rattle.vdr_terms.specs.declared.rate.Rate.{Rate}
use Rattle.vdr_terms.specs.Records.{Record, second, is_datagram}
use Rattle.vdr_terms.specs.Rates.{is_admitted}
use Rattle.vdr_terms.specs.Counting.{Pending, with_missed}
use Rattle.vdr_core.specs.Runs.{RunStart}
use Rattle.vdr_core.specs.Taken.{Captured}
use Rattle.vdr_core.specs.Recorder.{Recorder, passed, with_datagram, gap_unless_none, tick_with, admits, took}
use Rattle.vdr_config.specs.Sizes.{limits_in}
use Rattle.vdr_meter.specs.Metering.{Metering, Measures, HasNoDatagram, IsDatagramOf}
use Rattle.vdr_run.specs.Meters.{IsMeterOf}

pub no_datagram : (r : Record) → is_datagram r.content ≡ false → HasNoDatagram (r ∷ [])
no_datagram r e zero d l = e
no_datagram r e (suc k) d l = absurd (omega arith)

pub gap_alone : (start : RunStart) (g place first tick : ℕ) (utc : ℤ) (missed : Counts) (n : ℕ) → HasNoDatagram (gap_unless_none start g place first tick utc missed n)
gap_alone start g place first tick utc missed zero = λ k d l. absurd (omega arith)
gap_alone start g place first tick utc missed (suc n) = no_datagram _ refl

-- the meter knows the records in both cases
passed_measures : (m : Metering) (b : Bool) (start : RunStart) (c : Captured) (tick : ℕ) (r : Recorder) (p : Pending)
    → (b ≡ true → Measures m (with_datagram start c tick p r.made)) → (b ≡ false → Measures m r.made) → Measures m (passed b start c tick r p).made
passed_measures m true start c tick r p recorded refused = recorded refl
passed_measures m false start c tick r p recorded refused = refused refl

-- what a call of the meter promises
pub record Meters (old new : Metering) (group tick len : ℕ) (result : Bool) : Type 0 where
  pub exact : (records : List Record) → Measures old records → result ≡ is_admitted (limits_in old.rates group) records group (second tick) len
  pub refused : OnFalse result (new ≡ old)
  pub rates : new.rates ≡ old.rates
  pub recorded : (records gap : List Record) (r : Record) → Measures old records → HasNoDatagram gap → IsDatagramOf r group tick len → result ≡ true
      → Measures new (records ++ (gap ++ r ∷ []))

module _ (start : RunStart) (r : Recorder) (c : Captured) (old new : Metering) (result : Bool) (tick len : ℕ)
    (call : Meters old new c.group tick len result) (known : IsMeterOf start.limits old r.made) (low : c.group < 16)
    (ticks : tick_with start r c ≡ tick) (lengths : length c.bytes ≡ len) where
  pub decided : result ≡ admits start r c
  decided = call.exact r.made known.measures ∙ (λ i. is_admitted (known.rates c.group low i) r.made c.group (second (sym ticks i)) (sym lengths i))

  same_meter : result ≡ false → new ≡ old
  same_meter e = rw e at call.refused

  pub measured : IsMeterOf start.limits new (took start r c).made
  measured = record {
    rates = λ g l. ap (λ (rates : List (Option Rate)). limits_in rates g) call.rates ∙ known.rates g l;
    measures = passed_measures new (admits start r c) start c (tick_with start r c) r (with_missed c.missed (r.pending c.group))
        (λ e. call.recorded r.made _ _ known.measures (gap_alone start c.group _ _ _ _ _ _) (record { kind = refl; group = refl; tick = ticks; bytes = lengths }) (decided ∙ e))
        (λ e. subst (λ (m : Metering). Measures m r.made) (sym (same_meter (decided ∙ e))) known.measures);
  }
