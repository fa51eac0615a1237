-- The readings of a series are those of its runs.
use Rattle.std.proofs.Common.{◌≡◌, ◌∙◌, ◌++◌, ℕ, Bool, true, false, cond, List, [], ◌∷◌, Option, None, Some, refl, ap, append_assoc}
use Rattle.vdr_thin.specs.Laws.{AreCut, IsApart}
use Rattle.vdr_thin.specs.Runs.{Reading, Run, begun, ends, grown, is_missed, runs_from, runs_of}
use Rattle.vdr_thin.proofs.Following.{apart}
use Rattle.vdr_thin.proofs.Keeping.{Keeps, keeps_begun, keeps_grown}
use Rattle.vdr_thin.proofs.Showing.{run_is}

module _ (step longest : ℕ) where
  cut : (before : Option Reading) (part : List Reading) (run : Run) (rs : List Reading) → Keeps step longest before part run
      → AreCut step longest before (part ++ rs) (runs_from step longest run rs)
  cut before part run [] k = record { parts = part ∷ []; whole = refl; are_runs = (run_is step longest before part run k, tt) }
  cut before part run (r ∷ rs) k =
      go (ends step longest run.last.reading r) refl
      (λ (new : IsApart step longest (Some run.last.reading) r).
      cut (Some run.last.reading) (r ∷ []) (begun (is_missed run.last.reading r) r) rs (keeps_begun step longest (Some run.last.reading) r new))
      (λ (more : ends step longest run.last.reading r ≡ false). cut before (part ++ r ∷ []) (grown run r) rs (keeps_grown step longest before part run r more k))
    where
      go : (b : Bool) → ends step longest run.last.reading r ≡ b
          → (IsApart step longest (Some run.last.reading) r → AreCut step longest (Some run.last.reading) (r ∷ rs) (runs_from step longest (begun (is_missed run.last.reading r) r) rs))
          → (ends step longest run.last.reading r ≡ false → AreCut step longest before ((part ++ r ∷ []) ++ rs) (runs_from step longest (grown run r) rs))
          → AreCut step longest before (part ++ r ∷ rs) (cond b (run ∷ runs_from step longest (begun (is_missed run.last.reading r) r) rs) (runs_from step longest (grown run r) rs))
      go true e new more =
          let later = new (apart step longest run.last.reading r e) in
          record { parts = part ∷ later.parts; whole = ap (λ (xs : List Reading). part ++ xs) later.whole; are_runs = (run_is step longest before part run k, later.are_runs) }
      go false e new more = let later = more e in record { parts = later.parts; whole = later.whole ∙ append_assoc part (r ∷ []) rs; are_runs = later.are_runs }

  pub readings_cut : (readings : List Reading) → AreCut step longest None readings (runs_of step longest readings)
  readings_cut [] = record { parts = []; whole = refl; are_runs = tt }
  readings_cut (r ∷ rs) = cut None (r ∷ []) (begun true r) rs (keeps_begun step longest None r tt)
