-- What a visit that stopped makes the calls answer.
use Rattle.std.proofs.Common.{◌≡◌, ℕ, List, Option, Some, Result, Err, ap}
use Rattle.std.specs.Bool.{⊤}
use Rattle.vdr_terms.specs.Records.{Record}
use Rattle.vdr_visit.specs.Visits.{HasHanded, end_of}
use Rattle.vdr_visit.specs.declared.visit_refused.VisitRefused.{VisitRefused}
use Rattle.vdr_visit.specs.declared.visit_refused.VisitRefused.TheVariants as stops
use Rattle.vdr_export.specs.Answers.{AnswersOrFails, FileEnds, IsPictureRefusal, IsSizeRefusal, IsWriteRefusal, OkOrFails, file_end, picture_of, size_of}
use Rattle.vdr_export.specs.Collected.{StopsAt}
use Rattle.vdr_export.specs.Heard.{IsMixed}
use Rattle.vdr_export.specs.Pictures.{shown}
use Rattle.vdr_export.specs.Sounds.{heard}
use Rattle.vdr_export.specs.Refusals.{refusal_by}
use Rattle.vdr_export.specs.declared.block.Block.{Block}
use Rattle.vdr_export.specs.declared.refused.ExportRefused.{ExportRefused}
use Rattle.vdr_export.specs.declared.refused.ExportRefused.TheVariants.{Damaged, Fault, Output}
use Rattle.vdr_export.specs.declared.timing.Timing.{Timing}
use Rattle.vdr_export.specs.declared.wave.WaveSize.{WaveSize}
use Rattle.vdr_export.proofs.Ends.{stopped_end}
use Rattle.vdr_export.proofs.Ending.{picture_own, picture_stopped}
use Rattle.vdr_export.proofs.Passes.{size_own, size_stopped, wave_undamaged, write_own}
use Rattle.vdr_export.proofs.Refusing.{output_of, same_refusal}

module _ {Tells : List Record → Type 0} {Has : List Record → Type 0} {line : List Record → Record → List ℕ} {whole : List Record → List ℕ}
    {was now : Option (List ℕ)} (refused : ExportRefused) (stop : VisitRefused ExportRefused) (from : Some refused ≡ refusal_by stop) where
  module _ {Stops : List Record → ExportRefused → Type 0} (v : HasHanded Tells Has Stops line whole was now (Err stop)) where
    pub blames_output : {T : Type 0} (out : Result T ExportRefused) → out ≡ Err refused → (Stops v.seen Output → ⊥) → out ≡ Err Output → ◌≡◌ {A = Result ⊤ (VisitRefused ExportRefused)} (Err stop) (Err stops.Output)
    blames_output out is never fault = ap (λ (s : VisitRefused ExportRefused). Err s) (output_of refused (Has v.seen) (Stops v.seen) line (whole v.seen) v.seen was now stop from v.made never (same_refusal out refused Output is fault))

    -- The reads ended as the visit did.
    pub ended_so : {T : Type 0} (out : Result T ExportRefused) → out ≡ Err refused → (Stops v.seen Fault → ⊥) → ((m offset : ℕ) → Stops v.seen (Damaged m offset) → ⊥) → end_of (Err stop) ≡ file_end out
    ended_so out is fault damage = stopped_end refused (Has v.seen) (Stops v.seen) line (whole v.seen) v.seen was now stop from v.made fault damage out is

  module _ (microphone : ℕ) (timing : Timing) (silent : stop ≡ stops.Output → ⊥) (v : HasHanded Tells Has (λ seen e. IsMixed (heard microphone seen) e) line whole was now (Err stop)) where
    pub no_size : (out : Result WaveSize ExportRefused) → out ≡ Err refused → (records : List Record) → Tells records
        → AnswersOrFails (size_of timing (heard microphone records)) out
    no_size out is records told =
        size_stopped microphone timing records v.seen (Has v.seen) line (whole v.seen) was now refused stop out is from silent v.made (v.are records told)

    pub no_size_own : IsSizeRefusal refused
    no_size_own = size_own microphone timing v.seen v.seen (Has v.seen) line (whole v.seen) was now refused stop from silent v.made

  module _ (v : HasHanded Tells Has (λ _ _. ⊥) line whole was now (Err stop)) where
    pub undamaged : (out : Result ⊤ ExportRefused) → out ≡ Err refused → (records : List Record) → Tells records → OkOrFails out
    undamaged out is records told =
        wave_undamaged (Has v.seen) line (whole v.seen) was now v.seen records stop refused out is from v.made (v.are records told)

    pub not_written_own : IsWriteRefusal refused
    not_written_own = write_own (Has v.seen) line (whole v.seen) was now v.seen stop refused from v.made

  module _ (block : Block) (silent : stop ≡ stops.Output → ⊥) (v : HasHanded Tells Has (λ seen e. StopsAt (shown block seen) e) line whole was now (Err stop)) where
    pub no_picture : (a : Option (List ℕ)) (out : Result ⊤ ExportRefused) → out ≡ Err refused → (records : List Record) → Tells records
        → FileEnds (picture_of (shown block records)) a a out
    no_picture a out is records told =
        picture_stopped block records v.seen (Has v.seen) line (whole v.seen) was now refused stop a out is from silent v.made (v.are records told)

    pub no_picture_own : IsPictureRefusal refused
    no_picture_own = picture_own block v.seen v.seen (Has v.seen) line (whole v.seen) was now refused stop from silent v.made
