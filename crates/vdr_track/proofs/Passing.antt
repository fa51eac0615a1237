-- Lines that say nothing of a position leave the track as it is.
use Rattle.std.proofs.Common.{◌≡◌, ◌∙◌, ◌++◌, ◌∷◌, [], ℕ, Bool, true, false, cond, List, Option, refl, ap}
use Rattle.vdr_terms.specs.Records.{Record}
use Rattle.vdr_datagram.specs.Verdicts.{LineReading, LineSpan}
use Rattle.vdr_rows.specs.declared.fix.Fix.TheVariants.{Unsaid}
use Rattle.vdr_rows.specs.Fixes.{AreUnsaid, fix_in, source_of}
use Rattle.vdr_track.specs.Segments.{open_after, open_with}
use Rattle.vdr_track.specs.Steps.{is_of, line_step, step_by}
use Rattle.vdr_track.specs.Texts.{step_text, steps_text}
use Rattle.vdr_track.specs.declared.point.Point.{Point}
use Rattle.vdr_track.specs.declared.point.Step.{Step}
use Rattle.vdr_track.specs.declared.point.Step.TheVariants.{Silent}
use Rattle.vdr_track.proofs.Turning.{along}

module _ (source : List ℕ) (r : Record) where
  silent : (line : LineReading) → fix_in line ≡ Unsaid → line_step source r line ≡ Silent
  silent line h = by_test (is_of source (source_of line))
    where
      by_test : (t : Bool) → cond t (step_by r (fix_in line)) Silent ≡ Silent
      by_test true = ap (step_by r) h
      by_test false = refl

  pub stays_open : (spans : List LineSpan) (last : Option Point) → AreUnsaid spans → open_after last (along source r spans) ≡ last
  stays_open [] last all = refl
  stays_open (span ∷ spans) last all = ap (λ (step : Step). open_after (open_with last step) (along source r spans)) (silent span.verdict all.0) ∙ stays_open spans last all.1

  pub prints_none : (spans : List LineSpan) (last : Option Point) → AreUnsaid spans → steps_text last (along source r spans) ≡ []
  prints_none [] last all = refl
  prints_none (span ∷ spans) last all =
      ap (λ (step : Step). step_text last step ++ steps_text (open_with last step) (along source r spans)) (silent span.verdict all.0) ∙ prints_none spans last all.1
