-- PCM frames, read and spelled.
use Rattle.std.proofs.Common.{◌≡◌, ◌≤◌, ◌+◌, ◌-◌, ◌*◌, ℕ, true, false, List, ◌∷◌, ◌++◌, length, take, drop, slice_index, Some, None, refl, ap, ◌∙◌, sym, subst, arith}
use Rattle.std.proofs.lemmas.Bool.{and_from, and_parts, cond-false, cond-true, eqb-true, eq-eqb, leb-true, le-leb}
use Rattle.std.proofs.lemmas.Option.{cond_some, none-some}
use Rattle.std.proofs.lemmas.Slice.Eq.{bytes_eq-Decides}
use Rattle.std.proofs.lemmas.List.{append_assoc, drop_more, length-append, length-drop, take-append-drop, take_all}
use Rattle.vdr_terms.specs.Legality.{IsBytes}
use Rattle.vdr_bytes.specs.Numbers.{le_u16, le_u32, u16_at, u32_at}
use Rattle.vdr_bytes.proofs.NumberLemmas.{length-le_u16, read_u16, read_u32, spelled_u16, spelled_u32, u16_at-fits, u32_at-fits}
use Rattle.vdr_pcm.specs.Frames.{Frame, IsFrame, sample_count}
use Rattle.vdr_pcm.specs.Datagrams.{IsPcm, frame_at, is_pcm, pcm_bytes, pcm_in, pcm_token}

-- frames with the same fields
same_frame : (f : Frame) (m n r : ℕ) (x : List ℕ) → m ≡ f.microphone → n ≡ f.frame → r ≡ f.rate → x ≡ f.samples
    → ◌≡◌ {A = Frame} (record { microphone = m; frame = n; rate = r; samples = x }) f
same_frame f m n r x em en er ex =
    let same : ◌≡◌ {A = Frame} (record { microphone = m; frame = n; rate = r; samples = x }) (record { microphone = f.microphone; frame = f.frame; rate = f.rate; samples = f.samples }) = cc in
    same

-- What the test says.
record IsMet (bytes : List ℕ) : Type 0 where
  token : take 6 bytes ≡ pcm_token
  long : length bytes ≡ 17 + 2 * u16_at 15 bytes
  least : 1 ≤ u32_at 11 bytes
  greatest : u32_at 11 bytes ≤ 192_000

IsMet-from_test : (bytes : List ℕ) → is_pcm bytes ≡ true → IsMet bytes
IsMet-from_test bytes h =
    let outer = and_parts _ _ h in
    let front = and_parts _ _ outer.0 in
    let rate = and_parts _ _ outer.1 in
    record {
      token = sym ((bytes_eq-Decides pcm_token (take 6 bytes)).0 front.0);
      long = eqb-true _ _ front.1;
      least = leb-true _ _ rate.0;
      greatest = leb-true _ _ rate.1;
    }

test-from_IsMet : (bytes : List ℕ) → IsMet bytes → is_pcm bytes ≡ true
test-from_IsMet bytes met =
    and_from _ _ (and_from _ _ ((bytes_eq-Decides pcm_token (take 6 bytes)).1 (sym met.token)) (eq-eqb _ _ met.long))
    (and_from _ _ (le-leb _ _ met.least) (le-leb _ _ met.greatest))

-- a frame as its parts
apart : (f : Frame) → pcm_bytes f ≡ pcm_token ++ (f.microphone ∷ (le_u32 f.frame ++ (le_u32 f.rate ++ (le_u16 (sample_count f.samples) ++ f.samples))))
unfolding pcm_bytes
apart f = simp append_assoc

-- how many samples stand behind the header
counted : (bytes : List ℕ) → IsMet bytes → sample_count (drop 17 bytes) ≡ u16_at 15 bytes
counted bytes met = omega (arith, length-drop 17 bytes, met.long)

legal : (bytes : List ℕ) → IsBytes bytes → IsMet bytes → IsFrame (frame_at bytes)
unfolding frame_at
legal bytes are_bytes met = record {
  microphone = are_bytes 6;
  frame = u32_at-fits 7 bytes are_bytes;
  least = met.least;
  greatest = met.greatest;
  whole = omega (arith, length-drop 17 bytes, met.long);
  counted = omega (arith, counted bytes met, u16_at-fits 15 bytes are_bytes);
}

-- what stands at each offset, one behind the other
spelled : (bytes : List ℕ) → IsBytes bytes → IsMet bytes → bytes ≡ pcm_bytes (frame_at bytes)
unfolding frame_at
spelled bytes are_bytes met =
    let at15 : drop 15 bytes ≡ le_u16 (u16_at 15 bytes) ++ drop 17 bytes = spelled_u16 15 bytes are_bytes (omega (arith, met.long)) in
    let at11 : drop 11 bytes ≡ le_u32 (u32_at 11 bytes) ++ drop 15 bytes = spelled_u32 11 bytes are_bytes (omega (arith, met.long)) in
    let at7 : drop 7 bytes ≡ le_u32 (u32_at 7 bytes) ++ drop 11 bytes = spelled_u32 7 bytes are_bytes (omega (arith, met.long)) in
    let at6 : drop 6 bytes ≡ slice_index bytes 6 ∷ drop 7 bytes = drop_more bytes 6 0 (omega (arith, met.long)) in
    sym (take-append-drop 6 bytes)
    ∙ ap (λ (xs : List ℕ). xs ++ drop 6 bytes) met.token
    ∙ ap (λ (xs : List ℕ). pcm_token ++ xs)
    (at6
    ∙ ap (λ (xs : List ℕ). slice_index bytes 6 ∷ xs)
    (at7
    ∙ ap (λ (xs : List ℕ). le_u32 (u32_at 7 bytes) ++ xs)
    (at11
    ∙ ap (λ (xs : List ℕ). le_u32 (u32_at 11 bytes) ++ xs)
    (at15 ∙ ap (λ (n : ℕ). le_u16 n ++ drop 17 bytes) (sym (counted bytes met))))))
    ∙ sym (apart (frame_at bytes))

pub IsPcm-from_reading : (bytes : List ℕ) (f : Frame) → IsBytes bytes → pcm_in bytes ≡ Some f → IsPcm bytes f
unfolding pcm_in
IsPcm-from_reading bytes f are_bytes e =
    let read = cond_some (is_pcm bytes) (frame_at bytes) f e in
    let met = IsMet-from_test bytes read.0 in
    subst (IsPcm bytes) read.1 (record { legal = legal bytes are_bytes met; spelled = spelled bytes are_bytes met })

pub reading-from_IsPcm : (bytes : List ℕ) (f : Frame) → IsPcm bytes f → pcm_in bytes ≡ Some f
unfolding pcm_in frame_at
reading-from_IsPcm bytes f pcm =
    let is = pcm.spelled ∙ apart f in
    let behind : drop 7 bytes ≡ le_u32 f.frame ++ (le_u32 f.rate ++ (le_u16 (sample_count f.samples) ++ f.samples)) = ap (λ (xs : List ℕ). drop 7 xs) is in
    let frame = read_u32 7 f.frame bytes _ behind pcm.legal.frame in
    let rate = read_u32 11 f.rate bytes _ frame.1 (omega (arith, pcm.legal.greatest)) in
    let count = read_u16 15 (sample_count f.samples) bytes f.samples rate.1 pcm.legal.counted in
    let met : IsMet bytes = record {
      token = ap (λ (xs : List ℕ). take 6 xs) is;
      long = omega (arith, ap length rate.1, length-drop 15 bytes, length-append (le_u16 (sample_count f.samples)) f.samples, length-le_u16 (sample_count f.samples), count.0, pcm.legal.whole);
      least = omega (arith, rate.0, pcm.legal.least);
      greatest = omega (arith, rate.0, pcm.legal.greatest);
    } in
    cond-true (is_pcm bytes) (Some (frame_at bytes)) None (test-from_IsMet bytes met)
    ∙ ap Some (same_frame f _ _ _ _ (ap (λ (xs : List ℕ). slice_index xs 6) is) frame.0 rate.0 count.1)

-- what the reader answers

pub refused : (bytes : List ℕ) → is_pcm bytes ≡ false → None ≡ pcm_in bytes
unfolding pcm_in
refused bytes not_met = sym (cond-false (is_pcm bytes) (Some (frame_at bytes)) None not_met)

pub no_pcm : (bytes : List ℕ) → None ≡ pcm_in bytes → (frame : Frame) → IsPcm bytes frame → ⊥
no_pcm bytes e frame pcm = none-some frame (e ∙ reading-from_IsPcm bytes frame pcm)

-- the frame that the code makes
abbrev pub made : (bytes : List ℕ) (frame rate : ℕ) → Frame
made bytes frame rate = record { microphone = slice_index bytes 6; frame = frame; rate = rate; samples = take (length bytes - 17) (drop 17 bytes) }

made_is : (bytes : List ℕ) (frame rate : ℕ) → frame ≡ u32_at 7 bytes → rate ≡ u32_at 11 bytes → made bytes frame rate ≡ frame_at bytes
unfolding frame_at
made_is bytes frame rate frame_is rate_is =
    same_frame (frame_at bytes) (slice_index bytes 6) frame rate _ refl frame_is rate_is (take_all (length bytes - 17) (drop 17 bytes) (omega (arith, length-drop 17 bytes)))

pub made_legal : (bytes : List ℕ) (frame rate : ℕ) → IsBytes bytes → is_pcm bytes ≡ true → frame ≡ u32_at 7 bytes → rate ≡ u32_at 11 bytes → IsFrame (made bytes frame rate)
made_legal bytes frame rate are_bytes met frame_is rate_is =
    subst IsFrame (sym (made_is bytes frame rate frame_is rate_is)) (legal bytes are_bytes (IsMet-from_test bytes met))

pub made_read : (bytes : List ℕ) (frame rate : ℕ) → is_pcm bytes ≡ true → frame ≡ u32_at 7 bytes → rate ≡ u32_at 11 bytes → Some (made bytes frame rate) ≡ pcm_in bytes
unfolding pcm_in
made_read bytes frame rate met frame_is rate_is =
    ap Some (made_is bytes frame rate frame_is rate_is) ∙ sym (cond-true (is_pcm bytes) (Some (frame_at bytes)) None met)

pub made_pcm : (bytes : List ℕ) (frame rate : ℕ) → IsBytes bytes → is_pcm bytes ≡ true → frame ≡ u32_at 7 bytes → rate ≡ u32_at 11 bytes → IsPcm bytes (made bytes frame rate)
made_pcm bytes frame rate are_bytes met frame_is rate_is = IsPcm-from_reading bytes _ are_bytes (sym (made_read bytes frame rate met frame_is rate_is))
