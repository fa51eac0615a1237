-- Where the frames of a sound by stamps begin.
use Rattle.std.proofs.Common.{◌≡◌, ◌≤◌, ◌<◌, ◌+◌, ◌-◌, ◌*◌, ◌++◌, ◌==◌, inl, inr, ℕ, List, [], ◌∷◌, length, drop, Bool, true, false, if◌then◌else◌, Option, Some, None, refl, sym, ap, ◌∙◌, subst, arith, fold, length-append, length-drop, unsigned_abs, unwrap_or, zero-add}
use Rattle.std.specs.Bool.{⊤}
use Rattle.std.specs.Prelude.{nat_lt}
use Rattle.std.specs.List.{cons_option}
use Rattle.std.specs.Option.{option_and_then}
use Rattle.std.proofs.lemmas.Bool.{and_parts, eqb-true, ltb-false, ltb-true}
use Rattle.std.proofs.lemmas.List.{length-replicate}
use Rattle.vdr_bytes.specs.Numbers.{u16_at}
use Rattle.vdr_terms.specs.Records.{Content, Record}
use Rattle.vdr_terms.specs.Records.Content.{Start, Datagram, Gap, Stop}
use Rattle.vdr_pcm.specs.Datagrams.{frame_at, is_pcm, pcm_in}
use Rattle.vdr_pcm.specs.Frames.{Frame, sample_count}
use Rattle.vdr_export.specs.Laws.{BeginsInTime, IsInTime, first_stamp}
use Rattle.vdr_export.specs.Sounds.{Heard, frame_in, heard, heard_in, of_microphone, piece, silence, sound, sound_after, track_of, with_heard}
use Rattle.vdr_export.specs.Tracks.{Track, gap, jitter, next, no_track, pause, position, samples_in, start_of}
use Rattle.vdr_export.specs.declared.timing.Timing.{Timing}
use Rattle.vdr_export.specs.declared.timing.Timing.TheVariants.{Stamped}
use Rattle.vdr_export.proofs.Sounding.{sound_joined, sound_more}

-- A frame has whole samples.
abbrev IsWhole : List ℕ → Type 0
IsWhole samples = length samples ≡ 2 * sample_count samples

halved : (samples : List ℕ) (n : ℕ) → length samples ≡ 2 * n → IsWhole samples
halved samples n is = omega (arith, is)

frame_length : (bytes : List ℕ) → is_pcm bytes ≡ true → length bytes ≡ 17 + 2 * u16_at 15 bytes
frame_length bytes met = eqb-true _ _ (and_parts _ _ (and_parts _ _ met).0).1

frame_whole : (bytes : List ℕ) (f : Frame) → pcm_in bytes ≡ Some f → IsWhole f.samples
unfolding pcm_in frame_at
frame_whole bytes f is = by (is_pcm bytes) refl is
  where
    by : (b : Bool) → is_pcm bytes ≡ b → (if b then Some (frame_at bytes) else None) ≡ Some f → IsWhole f.samples
    by true met e =
        let long : length bytes ≡ 17 + 2 * u16_at 15 bytes = frame_length bytes met in
        let count : length (drop 17 bytes) ≡ 2 * u16_at 15 bytes = omega (arith, length-drop 17 bytes, long) in
        let same : frame_at bytes ≡ f = cc in
        subst (λ (g : Frame). IsWhole g.samples) same (halved (drop 17 bytes) (u16_at 15 bytes) count)
    by false met e = let none : ⊥ = cc in absurd none

heard_whole : (microphone : ℕ) (r : Record) (h : Heard) → heard_in microphone r ≡ Some h → IsWhole h.frame.samples
heard_whole microphone r h is = by_content r.content (unsigned_abs r.utc) is
  where
    by_microphone : (b : Bool) (stamp : ℕ) (f : Frame) → IsWhole f.samples → (if b then Some (record { place = r.place; stamp = stamp; frame = f }) else None) ≡ Some h → IsWhole h.frame.samples
    by_microphone true stamp f whole e =
        let same : ◌≡◌ {A = Heard} (record { place = r.place; stamp = stamp; frame = f }) h = cc in
        subst (λ (g : Heard). IsWhole g.frame.samples) same whole
    by_microphone false stamp f whole e = let none : ⊥ = cc in absurd none

    by_frame : (o : Option Frame) (stamp : ℕ) → ((f : Frame) → o ≡ Some f → IsWhole f.samples) → option_and_then (of_microphone microphone r.place stamp) o ≡ Some h → IsWhole h.frame.samples
    by_frame None stamp whole e = let none : ⊥ = cc in absurd none
    by_frame (Some f) stamp whole e = by_microphone (f.microphone == microphone) stamp f (whole f refl) e

    by_content : (content : Content) (stamp : ℕ) → option_and_then (of_microphone microphone r.place stamp) (frame_in content) ≡ Some h → IsWhole h.frame.samples
    by_content (Datagram payload) stamp e = by_frame (pcm_in payload) stamp (λ f g. frame_whole payload f g) e
    by_content Start stamp e = let none : ⊥ = cc in absurd none
    by_content (Gap missed) stamp e = let none : ⊥ = cc in absurd none
    by_content Stop stamp e = let none : ⊥ = cc in absurd none

abbrev AreWhole : List Heard → Type 0
AreWhole [] = ⊤
AreWhole (h ∷ hs) = IsWhole h.frame.samples × AreWhole hs

all_whole : (microphone : ℕ) (records : List Record) → AreWhole (heard microphone records)
all_whole microphone [] = tt
all_whole microphone (r ∷ records) = by (heard_in microphone r) refl (all_whole microphone records)
  where
    by : (o : Option Heard) → heard_in microphone r ≡ o → AreWhole (heard microphone records) → AreWhole (cons_option o (heard microphone records))
    by None is rest = rest
    by (Some h) is rest = (heard_whole microphone r h is, rest)

-- So many samples has the sound of frames.
piece_length : (timing : Timing) (before : Track) (h : Heard) → length (piece timing before h) ≡ 2 * gap timing before h.stamp h.frame + length h.frame.samples
piece_length timing before h =
    let n = gap timing before h.stamp h.frame in
    length-append (silence n) h.frame.samples ∙ ap (λ (m : ℕ). m + length h.frame.samples) (length-replicate (2 * n) 0)

twice : (bytes end n samples long : ℕ) → bytes ≡ 2 * end → long ≡ 2 * samples → bytes + (2 * n + long) ≡ 2 * (end + (n + samples))
twice bytes end n samples long is whole = omega (arith, is, whole)

ends_so : (timing : Timing) (before : Track) (bytes : ℕ) (hs : List Heard) → AreWhole hs → bytes ≡ 2 * before.end
    → bytes + length (sound_after timing before hs) ≡ 2 * (fold (with_heard timing) before hs).end
unfolding sound_after next
ends_so timing before bytes [] whole is = omega (arith, is)
ends_so timing before bytes (h ∷ hs) whole is =
    let now = with_heard timing before h in
    let n = gap timing before h.stamp h.frame in
    let later = ends_so timing now (bytes + (2 * n + length h.frame.samples)) hs whole.1 (twice bytes before.end n (sample_count h.frame.samples) (length h.frame.samples) is whole.0) in
    ap (λ (m : ℕ). bytes + m) (length-append (piece timing before h) (sound_after timing now hs) ∙ ap (λ (m : ℕ). m + length (sound_after timing now hs)) (piece_length timing before h))
    ∙ shifted bytes (2 * n + length h.frame.samples) (length (sound_after timing now hs)) ∙ later
  where
    shifted : (a b c : ℕ) → a + (b + c) ≡ (a + b) + c
    shifted a b c = omega arith

sound_ends : (timing : Timing) (microphone : ℕ) (records : List Record) → length (sound timing (heard microphone records)) ≡ 2 * (track_of timing (heard microphone records)).end
sound_ends timing microphone records =
    sym (zero-add (length (sound timing (heard microphone records)))) ∙ ends_so timing no_track 0 (heard microphone records) (all_whole microphone records) refl

-- It begins with its first frame, where no stamp is asked for.
first_kept : (timing : Timing) (before : Track) (stamp : ℕ) (hs : List Heard) → before.first ≡ Some stamp → (fold (with_heard timing) before hs).first ≡ Some stamp
unfolding next
first_kept timing before stamp [] is = is
first_kept timing before stamp (h ∷ hs) is = first_kept timing (with_heard timing before h) stamp hs (ap (λ (o : Option ℕ). Some (unwrap_or o h.stamp)) is)

starts_so : (from : Option ℕ) (first : Option ℕ) (stamp is : ℕ) → unwrap_or first stamp ≡ is → start_of from first stamp ≡ unwrap_or from is
starts_so None first stamp is e = e
starts_so (Some s) first stamp is e = refl

start_is : (from : Option ℕ) (timing : Timing) (hs : List Heard) (h : Heard) → start_of from (track_of timing hs).first h.stamp ≡ first_stamp from (hs ++ h ∷ [])
unfolding next
start_is from timing [] h = starts_so from None h.stamp h.stamp refl
start_is from timing (g ∷ hs) h =
    starts_so from (track_of timing (g ∷ hs)).first h.stamp g.stamp (ap (λ (o : Option ℕ). unwrap_or o h.stamp) (first_kept timing (with_heard timing no_track g) g.stamp hs refl))

-- The silence brings it to its sample, or there is none.
begins_so : (slack place end : ℕ) → BeginsInTime (end + pause slack (place - end)) end place slack
begins_so slack place end = by (nat_lt slack (place - end)) refl
  where
    by : (b : Bool) → nat_lt slack (place - end) ≡ b → BeginsInTime (end + (if b then place - end else 0)) end place slack
    by true late = let more : slack < place - end = ltb-true _ _ late in inl (omega (arith, more), omega (arith, more))
    by false late = let few : place - end ≤ slack = ltb-false _ _ late in inr (omega (arith, few), omega arith)

pub in_time : (microphone : ℕ) (from : Option ℕ) (records : List Record) (h : Heard) → IsInTime from (heard microphone records) h
unfolding gap
in_time microphone from records h =
    let timing = Stamped from in
    let hs = heard microphone records in
    let t = track_of timing hs in
    let slack = samples_in h.frame.rate jitter in
    record {
      end = t.end;
      ends = sound_ends timing microphone records;
      begin = t.end + gap timing t h.stamp h.frame;
      split = sound_more timing hs h ∙ ap (λ (n : ℕ). sound timing hs ++ (silence n ++ h.frame.samples)) (between t.end (gap timing t h.stamp h.frame));
      begins = subst (λ (start : ℕ). BeginsInTime (t.end + pause slack (position (start_of from t.first h.stamp) h.stamp h.frame - t.end)) t.end (position start h.stamp h.frame) slack) (start_is from timing hs h)
          (begins_so slack (position (start_of from t.first h.stamp) h.stamp h.frame) t.end);
    }
  where
    between : (end n : ℕ) → n ≡ (end + n) - end
    between end n = omega arith

pub goes_on : (timing : Timing) (front rest : List Heard) → (more : List ℕ) × (sound timing (front ++ rest) ≡ sound timing front ++ more)
goes_on timing front rest = (sound_after timing (track_of timing front) rest, sound_joined timing no_track front rest)
