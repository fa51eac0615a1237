-- Segments surveyed one after another: each keeps what its header says.
use Rattle.std.proofs.Common.{◌≡◌, ◌<◌, ◌≤◌, ◌+◌, ◌*◌, ◌^◌, ℕ, suc, List, [], ◌∷◌, ◌++◌, length, map, take, drop, get_or, set, All, Option, Some, None, sym, ap, ◌∙◌, subst, arith, length-take, drop-cons}
use Rattle.std.specs.Prelude.{Bool, true, false, cond}
use Rattle.std.specs.List.{AllWithin}
use Rattle.std.proofs.Math.Nat.{mul-le-mul_right}
use Rattle.std.proofs.lemmas.List.{get_or-take, take-append-drop}
use Rattle.std.proofs.lemmas.List.Elements.{All-head, All-tail, All-cons, AllWithin-more_set}
use Rattle.std.proofs.lemmas.Option.{same_Some, slice_get_within}
use Rattle.vdr_directory.specs.Opening.{slot_bytes}
use Rattle.vdr_segment.specs.Slots.{place_of}
use Rattle.vdr_segment.specs.Gates.{open_gate}
use Rattle.vdr_entry.specs.declared.summary.Summary.{Summary}
use Rattle.vdr_index.specs.declared.extent.Survey.{Survey}
use Rattle.vdr_index.specs.Surveys.{BreaksAt}
use Rattle.vdr_directory.specs.declared.entry.Entry.{Entry}
use Rattle.vdr_directory.specs.Fronts.{head_of, HasSurveyUnless, BreaksIn, IsSurveyed, BreaksAmong}

-- a broken batch begins within its segment
pub breaks_inside : (segment : List ℕ) (at : ℕ) → BreaksAt segment at → at < length segment
breaks_inside segment at h = slice_get_within segment at open_gate h.broken.0

-- and within a number of eight bytes
pub place_small : (segment slot slots at : ℕ) → segment ≤ 16777216 → slot < slots → slots ≤ 1000000 → at < segment → place_of segment slot + at < 2 ^ 64
place_small segment slot slots at low lt most inside =
    let le : slot * segment ≤ 1000000 * segment = mul-le-mul_right segment (omega (arith, lt, most)) in
    omega (arith, le, low, inside)

-- what holds of entries by their heads
pub heads_all : (P : Entry → Type 0) → ((e f : Entry) → head_of e ≡ head_of f → P e → P f) → (es fs : List Entry) → map head_of fs ≡ map head_of es → All P es → All P fs
heads_all P keeps [] [] same all = all
heads_all P keeps [] (f ∷ fs) same all = let bad : ⊥ = cc in absurd bad
heads_all P keeps (e ∷ es) [] same all = let bad : ⊥ = cc in absurd bad
heads_all P keeps (e ∷ es) (f ∷ fs) same all =
    let first : head_of f ≡ head_of e = cc in
    let rest : map head_of fs ≡ map head_of es = cc in
    All-cons P f fs (keeps e f (sym first) (All-head P e es all)) (heads_all P keeps es fs rest (All-tail P e es all))

-- media that read as before
pub breaks_still : (segment slot offset : ℕ) (old now : List ℕ) → now ≡ old → BreaksIn segment slot now offset → BreaksIn segment slot old offset
breaks_still segment slot offset old now same h = subst (λ (bytes : List ℕ). BreaksIn segment slot bytes offset) same h

pub survey_still : (segment slot first : ℕ) (o : Option Summary) (s : Option Survey) (old now : List ℕ) → now ≡ old → HasSurveyUnless segment slot now first o s → HasSurveyUnless segment slot old first o s
survey_still segment slot first o s old now same h = subst (λ (bytes : List ℕ). HasSurveyUnless segment slot bytes first o s) same h

pub held_now : (segment : ℕ) (old now buffer : List ℕ) (s slot : ℕ) → Some s ≡ Some slot → now ≡ old → buffer ≡ slot_bytes segment s now → buffer ≡ slot_bytes segment slot old
held_now segment old now buffer s slot is same h =
    subst (λ (j : ℕ). buffer ≡ slot_bytes segment j old) (same_Some s slot is) (subst (λ (bytes : List ℕ). buffer ≡ slot_bytes segment s bytes) same h)

-- the buffer holds the slot that was read last, which is the one before where nothing was read
pub held_next : {T : Type 0} (segment slot : ℕ) (read : Bool) (held next : Option ℕ) (old now buffer new : List ℕ) → T → now ≡ old → cond read (T → new ≡ slot_bytes segment slot now) (new ≡ buffer)
    → next ≡ cond read (Some slot) held → ((s : ℕ) → held ≡ Some s → buffer ≡ slot_bytes segment s old) → (s : ℕ) → next ≡ Some s → new ≡ slot_bytes segment s old
held_next segment slot false held next old now buffer new t same h is was s at = h ∙ was s (sym is ∙ at)
held_next segment slot true held next old now buffer new t same h is was s at = held_now segment old now new slot s (sym is ∙ at) same (h t)

-- All up to the entry at i were surveyed.

module _ (segment : ℕ) (bytes : List ℕ) (es : List Entry) (i : ℕ) (d : Entry) (lt : i < length es) (before : AllWithin (IsSurveyed segment bytes) es 0 i) where
  legal_before : All (IsSurveyed segment bytes) (take i es)
  legal_before k x inside =
      let low : k < i = omega (arith, inside, length-take i es) in
      subst (IsSurveyed segment bytes) (sym (get_or-take i es k x low)) (before k x (omega arith) low)

  split_at : es ≡ take i es ++ get_or es i d ∷ drop (suc i) es
  split_at = sym (take-append-drop i es) ∙ ap (λ (xs : List Entry). take i es ++ xs) (drop-cons es i d lt)

  pub breaks_among : (offset : ℕ) → (get_or es i d).summary ≡ None → BreaksIn segment (get_or es i d).slot bytes offset → BreaksAmong segment bytes es offset
  breaks_among offset bare broken = record {
    before = take i es;
    here = get_or es i d;
    after = drop (suc i) es;
    split = split_at;
    legal = legal_before;
    bare = bare;
    broken = broken;
  }

  pub surveyed_more : (s : Option Survey) → HasSurveyUnless segment (get_or es i d).slot bytes (get_or es i d).first (get_or es i d).summary s → AllWithin (IsSurveyed segment bytes) (set es i (record (get_or es i d) { survey = s })) 0 (i + 1)
  surveyed_more s here = AllWithin-more_set es i (record (get_or es i d) { survey = s }) lt (IsSurveyed segment bytes) before here
