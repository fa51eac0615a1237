-- The extremes of a series are shown.
use Rattle.std.proofs.Common.{◌≡◌, ◌∙◌, ◌++◌, ℕ, List, [], ◌∷◌, Option, None, Some, sym, subst}
use Rattle.std.specs.Prelude.{map}
use Rattle.std.specs.List.{AllByRecursion, flat_map}
use Rattle.vdr_thin.specs.declared.reading.Axis.{Axis}
use Rattle.vdr_thin.specs.Laws.{AreRuns, Has, IsAbove, IsBelow, IsFrom, IsPoint, IsRun, IsUpTo, ShowsExtremes, shown_of}
use Rattle.vdr_thin.specs.Runs.{Point, Reading, Run, kept, runs_of}
use Rattle.vdr_thin.proofs.Cutting.{readings_cut}
use Rattle.vdr_thin.proofs.Parts.{all_both, all_get, all_joined, all_mapped, all_so, has_get, has_left, has_mapped, has_right}

abbrev reading_of : Point → Reading
reading_of p = p.reading

module _ (step longest : ℕ) (before : Option Reading) (part : List Reading) (run : Run) (is : IsRun step longest before part run) where
  of_part : AllByRecursion (λ p. Has (λ r. p ≡ r) part) (map reading_of (kept run))
  of_part = all_mapped (IsPoint part) (λ p. Has (λ r. p ≡ r) part) reading_of (λ p at. has_get part at.place p.reading at.stands) (kept run) is.shown

  one_valid : (r : Reading) (p : Point) → run.first.reading.valid ≡ r.valid → IsPoint part p → p.reading.valid ≡ r.valid
  one_valid r p valid at = sym (all_get (λ r. run.first.reading.valid ≡ r.valid) part at.place p.reading at.stands is.valid) ∙ valid

  below : (axis : Axis) → AllByRecursion (λ r. Has (IsBelow axis r) (map reading_of (kept run))) part
  below axis =
      all_both (λ r. run.first.reading.valid ≡ r.valid) (λ r. Has (IsUpTo axis r) (kept run)) (λ r. Has (IsBelow axis r) (map reading_of (kept run)))
      (λ r valid has. has_mapped (IsPoint part) (IsUpTo axis r) (IsBelow axis r) reading_of (λ p at le. record { valid = one_valid r p valid at; up_to = le }) (kept run) is.shown has)
      part is.valid (is.least axis)

  above : (axis : Axis) → AllByRecursion (λ r. Has (IsAbove axis r) (map reading_of (kept run))) part
  above axis =
      all_both (λ r. run.first.reading.valid ≡ r.valid) (λ r. Has (IsFrom axis r) (kept run)) (λ r. Has (IsAbove axis r) (map reading_of (kept run)))
      (λ r valid has. has_mapped (IsPoint part) (IsFrom axis r) (IsAbove axis r) reading_of (λ p at le. record { valid = one_valid r p valid at; up_to = le }) (kept run) is.shown has)
      part is.valid (is.greatest axis)

  more : (rest : List Reading) (runs : List Run) → ShowsExtremes rest (shown_of runs) → ShowsExtremes (part ++ rest) (map reading_of (kept run) ++ shown_of runs)
  more rest runs later =
      let here : List Reading = map reading_of (kept run) in
      let there : List Reading = shown_of runs in
      record {
        are_readings =
            all_joined (λ p. Has (λ r. p ≡ r) (part ++ rest)) here there
            (all_so (λ p. Has (λ r. p ≡ r) part) (λ p. Has (λ r. p ≡ r) (part ++ rest)) (λ p h. has_left (λ r. p ≡ r) part rest h) here of_part)
            (all_so (λ p. Has (λ r. p ≡ r) rest) (λ p. Has (λ r. p ≡ r) (part ++ rest)) (λ p h. has_right (λ r. p ≡ r) part rest h) there later.are_readings);
        least = λ axis.
            all_joined (λ r. Has (IsBelow axis r) (here ++ there)) part rest
            (all_so (λ r. Has (IsBelow axis r) here) (λ r. Has (IsBelow axis r) (here ++ there)) (λ r h. has_left (IsBelow axis r) here there h) part (below axis))
            (all_so (λ r. Has (IsBelow axis r) there) (λ r. Has (IsBelow axis r) (here ++ there)) (λ r h. has_right (IsBelow axis r) here there h) rest (later.least axis));
        greatest = λ axis.
            all_joined (λ r. Has (IsAbove axis r) (here ++ there)) part rest
            (all_so (λ r. Has (IsAbove axis r) here) (λ r. Has (IsAbove axis r) (here ++ there)) (λ r h. has_left (IsAbove axis r) here there h) part (above axis))
            (all_so (λ r. Has (IsAbove axis r) there) (λ r. Has (IsAbove axis r) (here ++ there)) (λ r h. has_right (IsAbove axis r) here there h) rest (later.greatest axis));
      }

module _ (step longest : ℕ) where
  along_runs : (before : Option Reading) (parts : List (List Reading)) (runs : List Run) → AreRuns step longest before parts runs
      → ShowsExtremes (flat_map (λ (part : List Reading). part) parts) (shown_of runs)
  along_runs before [] [] h = record { are_readings = tt; least = λ axis. tt; greatest = λ axis. tt }
  along_runs before [] (run ∷ runs) h = absurd h
  along_runs before (part ∷ parts) [] h = absurd h
  along_runs before (part ∷ parts) (run ∷ runs) h =
      more step longest before part run h.0 (flat_map (λ (part : List Reading). part) parts) runs (along_runs (Some run.last.reading) parts runs h.1)

  pub extremes_shown : (readings : List Reading) → ShowsExtremes readings (shown_of (runs_of step longest readings))
  extremes_shown readings =
      let cut = readings_cut step longest readings in
      subst (λ (rs : List Reading). ShowsExtremes rs (shown_of (runs_of step longest readings))) cut.whole (along_runs None cut.parts (runs_of step longest readings) cut.are_runs)
