-- What an object outside was told of a save and of a release.
use Rattle.std.specs.Bool.{⊤}
use Rattle.std.proofs.Common.{◌≡◌, ◌∷◌, ◌++◌, ℕ, List, [], Bool, false, not, Result, Ok, Err, ◌∙◌, ap}
use Rattle.vdr_outside.specs.Disk.{Disk}
use Rattle.vdr_incident.specs.declared.refused.ReleaseRefused.{ReleaseRefused}
use Rattle.vdr_incident.specs.declared.refused.ReleaseRefused.TheVariants as releases
use Rattle.vdr_opening.specs.declared.refused.OpenRefused.{OpenRefused}
use Rattle.vdr_opening.specs.declared.refused.OpenRefused.TheVariants as openings
use Rattle.vdr_vault.specs.declared.refused.SaveRefused.{SaveRefused}
use Rattle.vdr_vault.specs.declared.refused.SaveRefused.TheVariants as saves
use Rattle.vdr_recorder.specs.Watched.{HearsOpening, IsToldOnce, PlainTurn, Told, Watched, told_if, turn_of_release, turn_of_save, with_turn}
use Rattle.vdr_recorder.specs.Watched.PlainTurn.{Release, Save}
use Rattle.vdr_command.specs.Endings.{IsWorkDone}
use Rattle.vdr_command.specs.Statuses.{status_of_opening, status_of_save}
use Rattle.vdr_tool.specs.Releases.{status_of_release}

-- What was refused is not done
pub not_done_opening : {P : Type 0} (refused : OpenRefused) → IsWorkDone (status_of_opening refused) → P
not_done_opening openings.NoMemory done = absurd done
not_done_opening openings.NotFormatted done = absurd done
not_done_opening (openings.Damaged m offset) done = absurd done
not_done_opening openings.Fault done = absurd done

pub not_done_save : {P : Type 0} (refused : SaveRefused) → IsWorkDone (status_of_save refused) → P
not_done_save saves.Label done = absurd done
not_done_save saves.Nothing done = absurd done
not_done_save saves.TableFull done = absurd done
not_done_save (saves.Damaged m offset) done = absurd done
not_done_save saves.Fault done = absurd done

pub told_saved : (result : Result ℕ SaveRefused) (id : ℕ) (label : List ℕ) (clock : ℕ) (was now : Watched) (failed : Bool) → result ≡ Ok id → ((result ≡ Err saves.Fault → ⊥) → failed ≡ false)
    → now ≡ told_if (not failed) (turn_of_save result label) clock was → now ≡ with_turn was (Save label) clock
told_saved result id label clock was now failed is works told =
    let goes = works (λ fault. let none : ⊥ = cc in none) in
    told ∙ (λ i. told_if (not (goes i)) (turn_of_save (is i) label) clock was)

pub told_released : (result : Result ⊤ ReleaseRefused) (id clock : ℕ) (was now : Watched) (failed : Bool) → IsWorkDone (status_of_release result id) → ((result ≡ Err releases.Fault → ⊥) → failed ≡ false)
    → now ≡ told_if (not failed) (turn_of_release result id) clock was → now ≡ with_turn was (Release id) clock
told_released (Ok x) id clock was now failed done works told =
    let goes = works (λ fault. let none : ⊥ = cc in none) in
    told ∙ (λ i. told_if (not (goes i)) (Release id) clock was)
told_released (Err releases.NoSuch) id clock was now failed done works told = absurd done
told_released (Err releases.Fault) id clock was now failed done works told = absurd done

-- An opening and one turn
pub told_once : {tells tells_images T : Type 0} (old mid new : Disk tells tells_images) (result : Result T OpenRefused) (was now : Watched) (did : PlainTurn) → HearsOpening was old mid result → now ≡ with_turn was did new.clock
    → IsToldOnce old new did now
told_once old mid new result was now did h is = record {
  found = ap (λ (w : Watched). w.found) is ∙ h.found;
  turns = ap (λ (w : Watched). w.turns) is ∙ ap (λ (turns : List Told). turns ++ record { did = did; moment = new.clock } ∷ []) h.turns;
}
