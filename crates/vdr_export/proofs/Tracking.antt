-- What is kept of where a sound goes on, and how many samples some milliseconds have.
use Rattle.std.proofs.Common.{◌≡◌, ◌≤◌, ◌+◌, ◌-◌, ◌*◌, ◌/◌, ◌%◌, ◌^◌, min, ℕ, Option, Some, ap, ◌∙◌, arith, add-mul, mul_assoc, mul-le-mul, unwrap_or}
use Rattle.vdr_terms.specs.Stamps.{last_stamp}
use Rattle.vdr_pcm.specs.Frames.{Frame, sample_count}
use Rattle.vdr_export.specs.Heard.{IsTrack}
use Rattle.vdr_export.specs.Tails.{tail_of}
use Rattle.vdr_export.specs.Tracks.{Track, gap, jitter, missing, next, pause, position, samples_in, start_of}
use Rattle.vdr_export.specs.declared.timing.Timing.{Timing}
use Rattle.vdr_export.specs.declared.timing.Timing.TheVariants.{Numbered, Stamped}
use Rattle.vdr_export.specs.declared.track.Track.{Track as Kept}

-- Those of whole seconds, and those of the rest.
divided : (n a b : ℕ) → n ≡ 1000 * a + b → a + b / 1000 ≡ n / 1000
divided n a b is = omega (arith, is)

pub by_parts : (rate ms : ℕ) → ms / 1000 * rate + ms % 1000 * rate / 1000 ≡ samples_in rate ms
by_parts rate ms =
    let parts : ms ≡ 1000 * (ms / 1000) + ms % 1000 = omega arith in
    divided (ms * rate) (ms / 1000 * rate) (ms % 1000 * rate)
    (ap (λ (n : ℕ). n * rate) parts ∙ add-mul (1000 * (ms / 1000)) (ms % 1000) rate ∙ ap (λ (n : ℕ). n + ms % 1000 * rate) (mul_assoc 1000 (ms / 1000) rate))

-- They are few, since stamps end.
pub few_samples : (rate ms : ℕ) → rate ≤ 192_000 → ms ≤ last_stamp → samples_in rate ms ≤ 2 ^ 56
few_samples rate ms low early =
    let most : ms * rate ≤ 253_402_300_799_999 * 192_000 = mul-le-mul early low in
    omega (arith, most)

-- The same silence, by what is kept.
pub gap_by_number : (of : Timing) (t : Track) (stamp : ℕ) (f : Frame) (n : ℕ) → Numbered ≡ of → n ≡ missing t.last f → n ≡ gap of t stamp f
unfolding gap
gap_by_number of t stamp f n is by = by ∙ ap (λ (k : Timing). gap k t stamp f) is

pub gap_by_stamp : (of : Timing) (t : Track) (stamp : ℕ) (f : Frame) (from : Option ℕ) (n end : ℕ) → Stamped from ≡ of → end ≡ min t.end (2 ^ 56)
    → position (start_of from t.first stamp) stamp f ≤ 2 ^ 56 → n ≡ pause (samples_in f.rate jitter) (position (start_of from t.first stamp) stamp f - end) → n ≡ gap of t stamp f
unfolding gap
gap_by_stamp of t stamp f from n end is kept few by =
    by ∙ ap (pause (samples_in f.rate jitter)) (later (position (start_of from t.first stamp) stamp f) end t.end few kept) ∙ ap (λ (k : Timing). gap k t stamp f) is
  where
    later : (p end all : ℕ) → p ≤ 2 ^ 56 → end ≡ min all (2 ^ 56) → p - end ≡ p - all
    later p end all few kept = omega (arith, few, kept)

capped : (n a : ℕ) → min (min (min n (2 ^ 56) + a) 18446744073709551615) 72057594037927936 ≡ min (n + a) (2 ^ 56)
capped n a = omega arith

-- Where it goes on behind one more frame.
pub track_next : (of : Timing) (t : Track) (was now : Kept) (stamp : ℕ) (f : Frame) (n : ℕ) → IsTrack of t was → n ≡ gap of t stamp f → now.timing ≡ was.timing → now.last ≡ Some (tail_of f)
    → now.first ≡ Some (unwrap_or was.first stamp) → now.end ≡ min (min (was.end + (n + sample_count f.samples)) 18446744073709551615) 72057594037927936 → IsTrack of (next of t stamp f) now
unfolding next
track_next of t was now stamp f n h is timing last first end = record {
  timing = timing ∙ h.timing;
  last = last;
  first = first ∙ ap (λ (o : Option ℕ). Some (unwrap_or o stamp)) h.first;
  end = end ∙ (λ i. min (min (h.end i + (is i + sample_count f.samples)) 18446744073709551615) 72057594037927936) ∙ capped t.end (gap of t stamp f + sample_count f.samples);
}
