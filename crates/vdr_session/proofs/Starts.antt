-- What the answer of a start means for the opening.
use Rattle.std.proofs.Common.{◌≡◌, ◌↔◌, ◌<◌, ◌≤◌, ◌^◌, ℕ, ℤ, false, Option, option_map, Result, Err, ⊎_elim, sym, ap, ◌∙◌, subst, arith, List}
use Rattle.std.proofs.lemmas.Bool.{cases_lt}
use Rattle.vdr_core.specs.Histories.{Opening}
use Rattle.vdr_core.specs.Runs.{RunStart, base_after}
use Rattle.vdr_core.specs.RunStates.{state_left}
use Rattle.vdr_outside.specs.Disk.{Disk}
use Rattle.vdr_recorder.specs.Recordings.{RecorderState}
use Rattle.vdr_run.specs.Starts.{stamp_of}
use Rattle.vdr_recorder.specs.declared.run.StartRefused.{StartRefused}
use Rattle.vdr_recorder.specs.declared.run.StartRefused.TheVariants.{Place, Tick}
use Rattle.vdr_recorder.specs.Refusals.{MayBegin}
use Rattle.vdr_recorder.specs.Watched.{Watched}
use Rattle.vdr_recorder.proofs.Starting.{same_stamp}
use Rattle.vdr_session.specs.declared.mark.Mark.{Mark}
use Rattle.vdr_session.specs.Events.{events_of, is_started}
use Rattle.vdr_session.specs.Standing.{Before, HasSession}

module _ {tells tells_images : Type 0} {before : Before} {opening : Opening} {marks : List Mark} {t0 : ℕ} {r : RecorderState} {disk : Disk tells tells_images} {w : Watched}
    (s : HasSession before opening marks t0 r disk w) (works : r.vault.failed ≡ false) (idle : is_started marks ≡ false) where
  place_is : r.vault.next_place ≡ opening.next_place
  place_is = s.has.told.place ∙ ap (λ (start : RunStart). start.place) (s.next works idle)

  base_is : base_after (option_map stamp_of r.vault.last) ≡ base_after opening.last
  base_is =
      ap (λ (o : Option (ℕ × ℤ)). base_after (option_map stamp_of o)) s.has.told.stamp
      ∙ ap base_after (same_stamp (state_left opening (events_of opening marks)).last)
      ∙ ap (λ (start : RunStart). base_after start.last) (s.next works idle)

  pub may_begin : {started : Result (Unit {0}) StartRefused} → (started ≡ Err Place) ↔ (2 ^ 62 ≤ r.vault.next_place)
      → (started ≡ Err Tick) ↔ ((r.vault.next_place < 2 ^ 62) × (2 ^ 62 ≤ base_after (option_map stamp_of r.vault.last)))
      → (started ≡ Err Place → ⊥) → (started ≡ Err Tick → ⊥) → MayBegin opening
  may_begin place tick not_place not_tick =
      let low : r.vault.next_place < 2 ^ 62 = ⊎_elim (λ (l : r.vault.next_place < 2 ^ 62). l) (λ (k : 2 ^ 62 ≤ r.vault.next_place). absurd (not_place (place.1 k))) (cases_lt r.vault.next_place (2 ^ 62)) in
      record {
        place = let a = place_is in omega (arith, a, low);
        base = ⊎_elim (λ (l : base_after opening.last < 2 ^ 62). l)
            (λ (k : 2 ^ 62 ≤ base_after opening.last). absurd (not_tick (tick.1 (low, subst (λ (n : ℕ). 2 ^ 62 ≤ n) (sym base_is) k)))) (cases_lt (base_after opening.last) (2 ^ 62));
      }
