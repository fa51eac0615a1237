-- A sound in two passes.
use Rattle.std.proofs.Common.{◌≡◌, inl, inr, ⊎_elim, ℕ, List, Option, Result, Ok, Err, sym, ap, ◌∙◌, subst}
use Rattle.std.specs.Bool.{⊤}
use Rattle.std.specs.Prelude.{OnOk}
use Rattle.std.specs.Io.KnownBytes.{Appends}
use Rattle.vdr_outside.specs.Writes.{AppendsFront}
use Rattle.vdr_export.specs.Answers.{AnswersOrFails, FileEnds, OkOrFails, size_of, wave_of, wave_with}
use Rattle.vdr_export.specs.Sounds.{Heard}
use Rattle.vdr_export.specs.Waves.{wave_file}
use Rattle.vdr_export.specs.declared.refused.ExportRefused.{ExportRefused}
use Rattle.vdr_export.specs.declared.refused.ExportRefused.TheVariants.{Fault}
use Rattle.vdr_export.specs.declared.timing.Timing.{Timing}
use Rattle.vdr_export.specs.declared.wave.WaveSize.{WaveSize}
use Rattle.vdr_export.proofs.Ending.{failed_ends, never_both, one_file, refused_ends}

size_is : (timing : Timing) (hs : List Heard) (size : WaveSize) (result : Result WaveSize ExportRefused) → AnswersOrFails (size_of timing hs) result → result ≡ Ok size → size_of timing hs ≡ Ok size
size_is timing hs size result answers is = ⊎_elim (λ (same : result ≡ size_of timing hs). sym same ∙ is) (λ (failed : result ≡ Err Fault). let no : ⊥ = cc in absurd no) answers

one_error : (r : Result WaveSize ExportRefused) (e : ExportRefused) → r ≡ Err e → r ≡ Err Fault → e ≡ Fault
one_error r e p q = cc

-- No size, and so no file.
pub no_wave : (timing : Timing) (hs : List Heard) (a : Option (List ℕ)) (result : Result WaveSize ExportRefused) (why : ExportRefused) (out : Result ⊤ ExportRefused) → AnswersOrFails (size_of timing hs) result → result ≡ Err why → out ≡ Err why → FileEnds (wave_of timing hs) a a out
no_wave timing hs a result why out answers was is = ⊎_elim
    (λ (same : result ≡ size_of timing hs). refused_ends (wave_of timing hs) a out why (ap (wave_with timing hs) (sym same ∙ was)) is)
    (λ (failed : result ≡ Err Fault). failed_ends (wave_of timing hs) a out why is (inl (is ∙ ap (λ (e : ExportRefused). Err e) (one_error result why was failed))))
    answers

-- The file of this size.
pub the_wave : (timing : Timing) (hs : List Heard) (size : WaveSize) (result : Result WaveSize ExportRefused) (a b : Option (List ℕ)) (out : Result ⊤ ExportRefused) → AnswersOrFails (size_of timing hs) result → result ≡ Ok size
    → OnOk out (Appends a b (wave_file size timing hs)) → AppendsFront a b (wave_file size timing hs) → OkOrFails out → FileEnds (wave_of timing hs) a b out
the_wave timing hs size result a b out answers is written front ends =
    let file : wave_of timing hs ≡ Ok (wave_file size timing hs) = ap (wave_with timing hs) (size_is timing hs size result answers is) in
    record {
      written = λ bytes f. subst (λ (l : List ℕ). OnOk out (Appends a b l)) (one_file (wave_of timing hs) (wave_file size timing hs) bytes file f) written;
      front = λ bytes f. subst (λ (l : List ℕ). AppendsFront a b l) (one_file (wave_of timing hs) (wave_file size timing hs) bytes file f) front;
      done = λ bytes f. ⊎_elim (λ ok. inl ok) (λ failed. inr (⊎_elim (λ fault. inl fault) (λ output. inr (inl output)) failed)) ends;
      refused = λ why f. absurd (never_both (wave_of timing hs) (wave_file size timing hs) why file f);
    }
