-- What the two passes over a sound answer.
use Rattle.std.proofs.Common.{◌≡◌, ◌++◌, inl, inr, ℕ, List, [], ◌∷◌, length, Option, Some, None, Result, Err, refl, sym, ap, ◌∙◌, subst, append-nil}
use Rattle.std.specs.Bool.{⊤}
use Rattle.std.specs.List.{cons_option}
use Rattle.std.proofs.KnownBytes.{Appends-trans}
use Rattle.std.specs.Io.KnownBytes.{Appends}
use Rattle.vdr_terms.specs.Records.{Record}
use Rattle.vdr_outside.specs.Writes.{AppendsFront}
use Rattle.vdr_visit.specs.Prints.{lines_behind, text_of, whole_text}
use Rattle.vdr_visit.specs.Visits.{AreVisited, HasMade}
use Rattle.vdr_visit.specs.declared.visit_refused.VisitRefused.{VisitRefused}
use Rattle.vdr_visit.specs.declared.visit_refused.VisitRefused.TheVariants as stops
use Rattle.vdr_export.specs.Answers.{AnswersOrFails, IsSizeRefusal, IsWriteRefusal, OkOrFails, size_of, unless_long, unless_mixed}
use Rattle.vdr_export.specs.Heard.{IsMixed, added, added_by}
use Rattle.vdr_export.specs.Numbers.{mixed_at}
use Rattle.vdr_export.specs.Sounds.{Heard, heard, heard_in, piece, rates_of, sound, sound_after, track_of, with_heard}
use Rattle.vdr_export.specs.Tracks.{Track}
use Rattle.vdr_export.specs.Refusals.{refusal_by}
use Rattle.vdr_export.specs.declared.refused.ExportRefused.{ExportRefused}
use Rattle.vdr_export.specs.declared.refused.ExportRefused.TheVariants.{Fault, Damaged, Mixed, Output}
use Rattle.vdr_export.specs.declared.timing.Timing.{Timing}
use Rattle.vdr_export.specs.declared.wave.WaveSize.{WaveSize}
use Rattle.vdr_export.proofs.Fronts.{front_second}
use Rattle.vdr_export.proofs.Refusing.{is_refused, none_from, some_is}
use Rattle.vdr_export.proofs.Sounding.{heard_none, heard_some, mixed_stays, rates_of_all, track_more}

mixed_answer : (timing : Timing) (hs : List Heard) (place : ℕ) → mixed_at (rates_of hs) ≡ Some place → size_of timing hs ≡ Err (Mixed place)
mixed_answer timing [] place is = let no : ⊥ = cc in absurd no
mixed_answer timing (h ∷ hs) place is = ap (λ (o : Option ℕ). unless_mixed o (unless_long h.frame.rate (length (sound timing (h ∷ hs))))) is

-- A size is refused where the visit stops. A visit that writes nothing does not stop for its output.
module _ (microphone : ℕ) (timing : Timing) (records seen : List Record) (Has : Type 0) (line : List Record → Record → List ℕ) (whole : List ℕ) (was now : Option (List ℕ)) (refused : ExportRefused) where
  pub size_stopped : (stop : VisitRefused ExportRefused) (out : Result WaveSize ExportRefused) → out ≡ Err refused → Some refused ≡ refusal_by stop → (stop ≡ stops.Output → ⊥)
      → HasMade Has (λ e. IsMixed (heard microphone seen) e) line whole seen was now (Err stop) → AreVisited seen records (Err stop) → AnswersOrFails (size_of timing (heard microphone records)) out
  size_stopped stops.NoChannel out is from silent made are = absurd (none_from refused from)
  size_stopped stops.NoIncident out is from silent made are = absurd (none_from refused from)
  size_stopped stops.Fault out is from silent made are = inr (is_refused out refused Fault is from)
  size_stopped (stops.Damaged m offset) out is from silent made are = absurd are
  size_stopped stops.Output out is from silent made are = absurd (silent refl)
  size_stopped (stops.Own e) out is from silent made are =
      let mixed = made.0 in
      let all : mixed_at (rates_of (heard microphone records)) ≡ Some mixed.0 =
      ap (λ (rs : List Record). mixed_at (rates_of (heard microphone rs))) are.1 ∙ ap mixed_at (rates_of_all microphone seen are.0)
      ∙ mixed_stays (rates_of (heard microphone seen)) (rates_of (heard microphone are.0)) mixed.0 mixed.2 in
      inl (is_refused out refused e is from ∙ ap (λ (x : ExportRefused). Err x) mixed.1 ∙ sym (mixed_answer timing (heard microphone records) mixed.0 all))

  pub size_own : (stop : VisitRefused ExportRefused) → Some refused ≡ refusal_by stop → (stop ≡ stops.Output → ⊥)
      → HasMade Has (λ e. IsMixed (heard microphone seen) e) line whole seen was now (Err stop) → IsSizeRefusal refused
  size_own stops.NoChannel from silent made = absurd (none_from refused from)
  size_own stops.NoIncident from silent made = absurd (none_from refused from)
  size_own stops.Fault from silent made = subst IsSizeRefusal (sym (some_is refused Fault from)) tt
  size_own (stops.Damaged m offset) from silent made = subst IsSizeRefusal (sym (some_is refused (Damaged m offset) from)) tt
  size_own stops.Output from silent made = absurd (silent refl)
  size_own (stops.Own e) from silent made = subst IsSizeRefusal (sym (some_is refused e from ∙ made.0.1)) tt

pub never_mixed : (hs : List Heard) (e : ExportRefused) → ((place : ℕ) → e ≡ Mixed place → ⊥) → IsMixed hs e → ⊥
never_mixed hs e never mixed = never mixed.0 mixed.1

-- What is written, where a header was written before.
module _ (microphone : ℕ) (timing : Timing) (a b c : Option (List ℕ)) (header : List ℕ) (begun : Appends a b header) where
  pub wave_front : (records : List Record) → AppendsFront b c (sound timing (heard microphone records)) → AppendsFront a c (header ++ sound timing (heard microphone records))
  wave_front records p = front_second a b c header (sound timing (heard microphone records)) begun p

  pub wave_written : (records : List Record) → Appends b c (sound timing (heard microphone records)) → Appends a c (header ++ sound timing (heard microphone records))
  wave_written records p = Appends-trans a b c header (sound timing (heard microphone records)) begun p

-- On media that can be read only a fault of the media or of the output stops it.
pub wave_undamaged : (Has : Type 0) (line : List Record → Record → List ℕ) (whole : List ℕ) (was now : Option (List ℕ)) (seen records : List Record) (stop : VisitRefused ExportRefused) (refused : ExportRefused)
    (out : Result ⊤ ExportRefused) → out ≡ Err refused → Some refused ≡ refusal_by stop → HasMade Has (λ _. ⊥) line whole seen was now (Err stop) → AreVisited seen records (Err stop) → OkOrFails out
wave_undamaged Has line whole was now seen records stops.NoChannel refused out is from made are = absurd (none_from refused from)
wave_undamaged Has line whole was now seen records stops.NoIncident refused out is from made are = absurd (none_from refused from)
wave_undamaged Has line whole was now seen records stops.Fault refused out is from made are = inr (inl (is_refused out refused Fault is from))
wave_undamaged Has line whole was now seen records (stops.Damaged m offset) refused out is from made are = absurd are
wave_undamaged Has line whole was now seen records stops.Output refused out is from made are = inr (inr (is_refused out refused Output is from))
wave_undamaged Has line whole was now seen records (stops.Own e) refused out is from made are = absurd made.0

pub write_own : (Has : Type 0) (line : List Record → Record → List ℕ) (whole : List ℕ) (was now : Option (List ℕ)) (seen : List Record) (stop : VisitRefused ExportRefused) (refused : ExportRefused)
    → Some refused ≡ refusal_by stop → HasMade Has (λ _. ⊥) line whole seen was now (Err stop) → IsWriteRefusal refused
write_own Has line whole was now seen stops.NoChannel refused from made = absurd (none_from refused from)
write_own Has line whole was now seen stops.NoIncident refused from made = absurd (none_from refused from)
write_own Has line whole was now seen stops.Fault refused from made = subst IsWriteRefusal (sym (some_is refused Fault from)) tt
write_own Has line whole was now seen (stops.Damaged m offset) refused from made = subst IsWriteRefusal (sym (some_is refused (Damaged m offset) from)) tt
write_own Has line whole was now seen stops.Output refused from made = subst IsWriteRefusal (sym (some_is refused Output from)) tt
write_own Has line whole was now seen (stops.Own e) refused from made = absurd made.0

-- What the records add one after another is the sound of all of them.
step_behind : (microphone : ℕ) (timing : Timing) (seen rest : List Record) (r : Record) (o : Option Heard) → heard_in microphone r ≡ o
    → lines_behind (added microphone timing) (seen ++ r ∷ []) rest ≡ sound_after timing (track_of timing (heard microphone (seen ++ r ∷ []))) (heard microphone rest)
    → added_by timing (track_of timing (heard microphone seen)) o ++ lines_behind (added microphone timing) (seen ++ r ∷ []) rest
    ≡ sound_after timing (track_of timing (heard microphone seen)) (cons_option o (heard microphone rest))
unfolding sound_after
step_behind microphone timing seen rest r None is later =
    later ∙ heard_none (λ (hs : List Heard). sound_after timing (track_of timing hs) (heard microphone rest) ≡ sound_after timing (track_of timing (heard microphone seen)) (heard microphone rest))
    microphone seen r is refl
step_behind microphone timing seen rest r (Some h) is later =
    ap (λ (l : List ℕ). piece timing (track_of timing (heard microphone seen)) h ++ l)
    (later ∙ heard_some (λ (hs : List Heard). sound_after timing (track_of timing hs) (heard microphone rest) ≡ sound_after timing (with_heard timing (track_of timing (heard microphone seen)) h) (heard microphone rest))
    microphone seen r h is (ap (λ (t : Track). sound_after timing t (heard microphone rest)) (track_more timing (heard microphone seen) h)))

behind : (microphone : ℕ) (timing : Timing) (seen records : List Record) → lines_behind (added microphone timing) seen records ≡ sound_after timing (track_of timing (heard microphone seen)) (heard microphone records)
unfolding sound_after
behind microphone timing seen [] = refl
behind microphone timing seen (r ∷ records) =
    step_behind microphone timing seen records r (heard_in microphone r) refl (behind microphone timing (seen ++ r ∷ []) records)

pub whole_sound : (microphone : ℕ) (timing : Timing) (records : List Record) → whole_text (added microphone timing) (λ _. []) records ≡ sound timing (heard microphone records)
whole_sound microphone timing records = append-nil (text_of (added microphone timing) records) ∙ behind microphone timing [] records
