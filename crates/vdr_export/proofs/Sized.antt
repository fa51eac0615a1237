-- What is kept of the frames that were heard, once one more is.
use Rattle.std.proofs.Common.{◌≡◌, ◌+◌, ◌*◌, ◌++◌, ◌==◌, ◌^◌, min, ℕ, List, [], ◌∷◌, length, true, false, Some, None, refl, sym, ap, ◌∙◌, subst, arith}
use Rattle.std.specs.Prelude.{slice_get, option_map}
use Rattle.std.proofs.lemmas.List.{map-append}
use Rattle.std.proofs.lemmas.Bool.{false_from_ne_true, eqb-true, eq-eqb}
use Rattle.vdr_export.specs.Heard.{IsSized, IsTrack}
use Rattle.vdr_export.specs.Numbers.{Numbered, mixed_at}
use Rattle.vdr_export.specs.Sounds.{Heard, rates_of, sound, track_of, with_heard}
use Rattle.vdr_export.specs.Tracks.{Track, gap}
use Rattle.vdr_export.specs.declared.rate.SampleRate.{SampleRate}
use Rattle.vdr_export.specs.declared.sizing.Sizing.{Sizing}
use Rattle.vdr_export.specs.declared.timing.Timing.{Timing}
use Rattle.vdr_export.proofs.Sounding.{first_number, first_one, first_stays, mixed_first, mixed_other, mixed_same, size_more, track_more}

rates_more : (hs : List Heard) (h : Heard) → rates_of (hs ++ h ∷ []) ≡ rates_of hs ++ record { place = h.place; number = h.frame.rate } ∷ []
rates_more hs h = map-append (λ (h : Heard). record { place = h.place; number = h.frame.rate }) hs (h ∷ [])

first_rate : (hs : List Heard) → option_map (λ h. h.frame.rate) (slice_get hs 0) ≡ first_number (rates_of hs)
first_rate [] = refl
first_rate (h ∷ hs) = refl

capped : (n a : ℕ) → min (min (min n (2 ^ 32) + a) 18446744073709551615) 4294967296 ≡ min (n + a) (2 ^ 32)
capped n a = omega arith

module _ (timing : Timing) (hs : List Heard) (was : Sizing) (sized : IsSized timing hs was) (h : Heard) where
  abbrev one : Numbered
  one = record { place = h.place; number = h.frame.rate }

  rate_was : option_map (λ r. r.hertz) was.rate ≡ first_number (rates_of hs)
  rate_was = sized.rate ∙ first_rate hs

  had_is : (rate : SampleRate) → was.rate ≡ Some rate → first_number (rates_of hs) ≡ Some rate.hertz
  had_is rate is = sym rate_was ∙ ap (option_map (λ (r : SampleRate). r.hertz)) is

  none_is : was.rate ≡ None → first_number (rates_of hs) ≡ None
  none_is none = sym rate_was ∙ ap (option_map (λ (r : SampleRate). r.hertz)) none

  -- Its rate is another.
  pub mixed_here : (rate : SampleRate) → was.rate ≡ Some rate → (h.frame.rate == rate.hertz) ≡ false → mixed_at (rates_of (hs ++ h ∷ [])) ≡ Some h.place
  mixed_here rate is other = ap mixed_at (rates_more hs h) ∙ mixed_other (rates_of hs) one rate.hertz sized.uniform (had_is rate is) other

  -- Its rate is the first, or that of the others.
  module _ (now : Sizing) (silent : ℕ) (track : IsTrack timing (with_heard timing (track_of timing hs) h) now.track) (few : silent ≡ gap timing (track_of timing hs) h.stamp h.frame)
      (bytes : now.bytes ≡ min (min (was.bytes + (2 * silent + length h.frame.samples)) 18446744073709551615) 4294967296) where
    bytes_now : now.bytes ≡ min (length (sound timing (hs ++ h ∷ []))) (2 ^ 32)
    bytes_now = bytes
        ∙ (λ i. min (min (sized.bytes i + (2 * few i + length h.frame.samples)) 18446744073709551615) 4294967296)
        ∙ capped (length (sound timing hs)) (2 * gap timing (track_of timing hs) h.stamp h.frame + length h.frame.samples)
        ∙ ap (λ (n : ℕ). min n (2 ^ 32)) (sym (size_more timing hs h))

    track_now : IsTrack timing (track_of timing (hs ++ h ∷ [])) now.track
    track_now = subst (λ (t : Track). IsTrack timing t now.track) (sym (track_more timing hs h)) track

    pub sized_first : was.rate ≡ None → option_map (λ r. r.hertz) now.rate ≡ Some h.frame.rate → IsSized timing (hs ++ h ∷ []) now
    sized_first none is = record {
      uniform = ap mixed_at (rates_more hs h) ∙ mixed_first (rates_of hs) one (none_is none);
      rate = is ∙ sym (first_rate (hs ++ h ∷ []) ∙ ap first_number (rates_more hs h) ∙ first_one (rates_of hs) one (none_is none));
      track = track_now;
      bytes = bytes_now;
    }

    pub sized_next : (rate : SampleRate) → was.rate ≡ Some rate → (h.frame.rate == rate.hertz) ≡ true → now.rate ≡ was.rate → IsSized timing (hs ++ h ∷ []) now
    sized_next rate had same is = record {
      uniform = ap mixed_at (rates_more hs h) ∙ mixed_same (rates_of hs) one rate.hertz sized.uniform (had_is rate had) same;
      rate = ap (option_map (λ (r : SampleRate). r.hertz)) (is ∙ had) ∙ sym (first_rate (hs ++ h ∷ []) ∙ ap first_number (rates_more hs h) ∙ first_stays (rates_of hs) one rate.hertz (had_is rate had));
      track = track_now;
      bytes = bytes_now;
    }

pub other_rate : (rate own : ℕ) → (rate ≡ own → ⊥) → (own == rate) ≡ false
other_rate rate own other = false_from_ne_true (own == rate) (λ same. other (sym (eqb-true own rate same)))

pub same_rate : (rate own : ℕ) → rate ≡ own → (own == rate) ≡ true
same_rate rate own same = eq-eqb own rate (sym same)
