-- The sound with one more frame, and whether its rate is that of the others.
use Rattle.std.proofs.Common.{◌≡◌, ◌+◌, ◌*◌, ◌++◌, ◌==◌, ℕ, List, [], ◌∷◌, length, Bool, true, false, Option, Some, None, refl, sym, ap, ◌∙◌, subst, append_assoc, append-nil, fold, unsigned_abs}
use Rattle.std.specs.Prelude.{if◌then◌else◌, slice_get, option_map}
use Rattle.std.specs.List.{cons_option}
use Rattle.std.proofs.lemmas.List.{map-append, length-append, length-replicate}
use Rattle.std.proofs.lemmas.List.Elements.{filter_map-append}
use Rattle.std.proofs.lemmas.List.Sums.{fold-append}
use Rattle.vdr_terms.specs.Records.{Record}
use Rattle.vdr_pcm.specs.declared.frame.PcmFrame.{PcmFrame}
use Rattle.vdr_export.specs.Numbers.{Numbered, first_other, mixed_at}
use Rattle.vdr_export.specs.Sounds.{Heard, heard, heard_in, piece, rates_of, silence, sound, sound_after, track_of, with_heard}
use Rattle.vdr_export.specs.Tails.{heard_as}
use Rattle.vdr_export.specs.Tracks.{Track, gap, no_track}
use Rattle.vdr_export.specs.declared.timing.Timing.{Timing}

-- The frames that are heard once there is one more record.
pub heard_some : (P : List Heard → Type 0) (microphone : ℕ) (seen : List Record) (r : Record) (h : Heard) → heard_in microphone r ≡ Some h → P (heard microphone seen ++ h ∷ []) → P (heard microphone (seen ++ r ∷ []))
heard_some P microphone seen r h is p = subst P (sym (filter_map-append (heard_in microphone) seen (r ∷ []) ∙ ap (λ (o : Option Heard). heard microphone seen ++ cons_option o []) is)) p

pub heard_none : (P : List Heard → Type 0) (microphone : ℕ) (seen : List Record) (r : Record) → heard_in microphone r ≡ None → P (heard microphone seen) → P (heard microphone (seen ++ r ∷ []))
heard_none P microphone seen r is p = subst P (sym (filter_map-append (heard_in microphone) seen (r ∷ []) ∙ ap (λ (o : Option Heard). heard microphone seen ++ cons_option o []) is ∙ append-nil (heard microphone seen))) p

-- The sound of the first frames is a front of the sound of all.
pub sound_joined : (timing : Timing) (before : Track) (hs gs : List Heard) → sound_after timing before (hs ++ gs) ≡ sound_after timing before hs ++ sound_after timing (fold (with_heard timing) before hs) gs
unfolding sound_after
sound_joined timing before [] gs = refl
sound_joined timing before (h ∷ hs) gs = ap (λ (l : List ℕ). piece timing before h ++ l) (sound_joined timing (with_heard timing before h) hs gs)
    ∙ sym (append_assoc (piece timing before h) (sound_after timing (with_heard timing before h) hs) (sound_after timing (fold (with_heard timing) (with_heard timing before h) hs) gs))

-- It goes on behind one more frame.
pub track_more : (timing : Timing) (hs : List Heard) (h : Heard) → track_of timing (hs ++ h ∷ []) ≡ with_heard timing (track_of timing hs) h
track_more timing hs h = fold-append (with_heard timing) no_track hs (h ∷ [])

pub sound_more : (timing : Timing) (hs : List Heard) (h : Heard) → sound timing (hs ++ h ∷ []) ≡ sound timing hs ++ piece timing (track_of timing hs) h
unfolding sound_after
sound_more timing hs h = sound_joined timing no_track hs (h ∷ []) ∙ ap (λ (l : List ℕ). sound timing hs ++ l) (append-nil (piece timing (track_of timing hs) h))

pub size_more : (timing : Timing) (hs : List Heard) (h : Heard) → length (sound timing (hs ++ h ∷ [])) ≡ length (sound timing hs) + (2 * gap timing (track_of timing hs) h.stamp h.frame + length h.frame.samples)
size_more timing hs h =
    let n = gap timing (track_of timing hs) h.stamp h.frame in
    ap (λ (l : List ℕ). length l) (sound_more timing hs h) ∙ length-append (sound timing hs) (silence n ++ h.frame.samples)
    ∙ ap (λ (m : ℕ). length (sound timing hs) + m) (length-append (silence n) h.frame.samples ∙ ap (λ (m : ℕ). m + length h.frame.samples) (length-replicate (2 * n) 0))

-- One more number.
others_step : (b : Bool) (n : ℕ) (xs : List Numbered) (x y : Numbered) (last : Option ℕ) → (first_other n xs ≡ None → first_other n (xs ++ x ∷ []) ≡ last)
    → (if b then first_other n xs else Some y.place) ≡ None → (if b then first_other n (xs ++ x ∷ []) else Some y.place) ≡ last
others_step true n xs x y last later none = later none
others_step false n xs x y last later none = let no : ⊥ = cc in absurd no

others_more : (n : ℕ) (xs : List Numbered) (x : Numbered) → first_other n xs ≡ None → first_other n (xs ++ x ∷ []) ≡ (if x.number == n then None else Some x.place)
others_more n [] x none = refl
others_more n (y ∷ xs) x none = others_step (y.number == n) n xs x y (if x.number == n then None else Some x.place) (others_more n xs x) none

-- The number of the first one.
abbrev pub first_number : List Numbered → Option ℕ
first_number xs = option_map (λ x. x.number) (slice_get xs 0)

pub mixed_first : (xs : List Numbered) (x : Numbered) → first_number xs ≡ None → mixed_at (xs ++ x ∷ []) ≡ None
mixed_first [] x none = refl
mixed_first (y ∷ xs) x none = let no : ⊥ = cc in absurd no

pub mixed_same : (xs : List Numbered) (x : Numbered) (n : ℕ) → mixed_at xs ≡ None → first_number xs ≡ Some n → (x.number == n) ≡ true → mixed_at (xs ++ x ∷ []) ≡ None
mixed_same [] x n uniform is same = refl
mixed_same (y ∷ xs) x n uniform is same =
    let own : y.number ≡ n = cc in
    others_more y.number xs x uniform ∙ ap (λ (k : ℕ). if x.number == k then None else Some x.place) own ∙ ap (λ (b : Bool). if b then None else Some x.place) same

pub mixed_other : (xs : List Numbered) (x : Numbered) (n : ℕ) → mixed_at xs ≡ None → first_number xs ≡ Some n → (x.number == n) ≡ false → mixed_at (xs ++ x ∷ []) ≡ Some x.place
mixed_other [] x n uniform is other = let no : ⊥ = cc in absurd no
mixed_other (y ∷ xs) x n uniform is other =
    let own : y.number ≡ n = cc in
    others_more y.number xs x uniform ∙ ap (λ (k : ℕ). if x.number == k then None else Some x.place) own ∙ ap (λ (b : Bool). if b then None else Some x.place) other

pub first_stays : (xs : List Numbered) (x : Numbered) (n : ℕ) → first_number xs ≡ Some n → first_number (xs ++ x ∷ []) ≡ Some n
first_stays [] x n is = let no : ⊥ = cc in absurd no
first_stays (y ∷ xs) x n is = is

pub first_one : (xs : List Numbered) (x : Numbered) → first_number xs ≡ None → first_number (xs ++ x ∷ []) ≡ Some x.number
first_one [] x none = refl
first_one (y ∷ xs) x none = let no : ⊥ = cc in absurd no

-- What is read of a record is what is heard of it.
pub heard_so : (microphone own : ℕ) (r : Record) (read was : Option PcmFrame) → option_map (heard_as r.place (unsigned_abs r.utc)) read ≡ heard_in own r → own ≡ microphone → read ≡ was
    → heard_in microphone r ≡ option_map (heard_as r.place (unsigned_abs r.utc)) was
heard_so microphone own r read was reads same is =
    ap (λ (m : ℕ). heard_in m r) (sym same) ∙ sym reads ∙ ap (λ (o : Option PcmFrame). option_map (heard_as r.place (unsigned_abs r.utc)) o) is

-- What is mixed stays so.
other_step : (b : Bool) (n : ℕ) (xs ys : List Numbered) (x : Numbered) (place : ℕ) → (first_other n xs ≡ Some place → first_other n (xs ++ ys) ≡ Some place)
    → (if b then first_other n xs else Some x.place) ≡ Some place → (if b then first_other n (xs ++ ys) else Some x.place) ≡ Some place
other_step true n xs ys x place later is = later is
other_step false n xs ys x place later is = is

other_stays : (n : ℕ) (xs ys : List Numbered) (place : ℕ) → first_other n xs ≡ Some place → first_other n (xs ++ ys) ≡ Some place
other_stays n [] ys place is = let no : ⊥ = cc in absurd no
other_stays n (x ∷ xs) ys place is = other_step (x.number == n) n xs ys x place (other_stays n xs ys place) is

pub mixed_stays : (xs ys : List Numbered) (place : ℕ) → mixed_at xs ≡ Some place → mixed_at (xs ++ ys) ≡ Some place
mixed_stays [] ys place is = let no : ⊥ = cc in absurd no
mixed_stays (x ∷ xs) ys place is = other_stays x.number xs ys place is

pub rates_of_all : (microphone : ℕ) (front rest : List Record) → rates_of (heard microphone (front ++ rest)) ≡ rates_of (heard microphone front) ++ rates_of (heard microphone rest)
rates_of_all microphone front rest = ap rates_of (filter_map-append (heard_in microphone) front rest)
    ∙ map-append (λ (h : Heard). record { place = h.place; number = h.frame.rate }) (heard microphone front) (heard microphone rest)
