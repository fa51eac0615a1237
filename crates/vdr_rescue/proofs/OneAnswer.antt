-- A medium gives one answer.
use Rattle.std.proofs.Common.{◌≡◌, ◌++◌, ℕ, zero, suc, Bool, true, false, List, [], ◌∷◌, map, slice_get, Option, Some, None, Ok, refl, sym, ap, ◌∙◌, subst, arith}
use Rattle.std.specs.Prelude.{◌↔◌, IsTrue}
use Rattle.vdr_terms.specs.Records.{Record}
use Rattle.vdr_core.specs.Histories.{Incident}
use Rattle.vdr_outside.specs.Parts.{part}
use Rattle.vdr_config.specs.Configuration.{Configuration}
use Rattle.vdr_config.specs.Grammar.{configuration}
use Rattle.vdr_segment.specs.declared.header.Header.{Header}
use Rattle.vdr_segment.specs.Gates.{IsOpenAt}
use Rattle.vdr_segment.proofs.SegmentLemmas.{one_header}
use Rattle.vdr_index.specs.Extents.{records_in}
use Rattle.vdr_directory.specs.Opening.{front_bytes, slot_bytes}
use Rattle.vdr_incident.specs.Tables.{place_of}
use Rattle.vdr_incident.proofs.Slot.{one_slot}
use Rattle.vdr_media.proofs.Rooms.{text_fits}
use Rattle.vdr_opening.specs.Media.{HoldsConfigText}
use Rattle.vdr_opening.proofs.ContentsHeld.{one_text}
use Rattle.vdr_opening.proofs.Fronts.{one_config}
use Rattle.vdr_rescue.specs.declared.findings.Finding.{Finding}
use Rattle.vdr_rescue.specs.declared.front.Front.{Front}
use Rattle.vdr_rescue.specs.declared.front.Front.TheVariants.{Closed, Torn, Headless, Segment}
use Rattle.vdr_rescue.specs.declared.fronts.Head.{Head}
use Rattle.vdr_rescue.specs.declared.told.Told.{Told}
use Rattle.vdr_rescue.specs.Findings.{Account, AreFindings, as_closed, as_damaged, as_missing, closes, lacks}
use Rattle.vdr_rescue.specs.Fronts.{AreFronts, FrontsState, ShowsFront, with_front}
use Rattle.vdr_rescue.specs.Given.{GivenBy, above, in_place}
use Rattle.vdr_rescue.specs.Readings.{AreRead, floor_behind}
use Rattle.vdr_rescue.specs.Runs.{run_behind}
use Rattle.vdr_rescue.specs.Saves.{AreSaves, SavesState, ShowsSave, with_save}
use Rattle.vdr_rescue.proofs.CursorLemmas.{told_path}
use Rattle.vdr_rescue.proofs.GivenLemmas.{one_legal}
use Rattle.vdr_rescue.proofs.JudgeLemmas.{one_judgement}
use Rattle.vdr_rescue.proofs.SortLemmas.{one_sorted}

pub one_configuration : (c d : Configuration) (b : List ℕ) → HoldsConfigText c b → HoldsConfigText d b → c ≡ d
one_configuration c d b h k =
    let same : h.text ≡ k.text = one_text h.text k.text b h.holds k.holds (text_fits h.text c h.reads) (text_fits k.text d k.reads) in
    one_config k.text c d (subst (λ (l : List ℕ). configuration l ≡ Ok c) same h.reads) k.reads

-- Fronts

some_byte : (m n : ℕ) → ◌≡◌ {A = Option ℕ} (Some m) (Some n) → m ≡ n
some_byte m n e = cc

pub open_closed : (bytes : List ℕ) → slice_get bytes 0 ≡ Some 0 → IsOpenAt bytes 0 → ⊥
open_closed bytes x y = let e = some_byte 0 165 (sym x ∙ y) in omega (arith, e)

segment_path : (s t f e : ℕ) → s ≡ t → f ≡ e → ◌≡◌ {A = Front} (Segment s f) (Segment t e)
segment_path s t f e p q = λ i. Segment (p i) (q i)

shows_once : (bytes : List ℕ) (a b : Front) → ShowsFront bytes a → ShowsFront bytes b → a ≡ b
shows_once bytes Closed Closed x y = refl
shows_once bytes Closed Torn x y = absurd (y.1 x)
shows_once bytes Closed Headless x y = absurd (open_closed bytes x y.0)
shows_once bytes Closed (Segment t e) x y = absurd (open_closed bytes x y.0)
shows_once bytes Torn Closed x y = absurd (x.1 y)
shows_once bytes Torn Torn x y = refl
shows_once bytes Torn Headless x y = absurd (x.0 y.0)
shows_once bytes Torn (Segment t e) x y = absurd (x.0 y.0)
shows_once bytes Headless Closed x y = absurd (open_closed bytes y x.0)
shows_once bytes Headless Torn x y = absurd (y.0 x.0)
shows_once bytes Headless Headless x y = refl
shows_once bytes Headless (Segment t e) x y = absurd (x.1 y.1 y.2)
shows_once bytes (Segment s f) Closed x y = absurd (open_closed bytes y x.0)
shows_once bytes (Segment s f) Torn x y = absurd (y.0 x.0)
shows_once bytes (Segment s f) Headless x y = absurd (y.1 x.1 x.2)
shows_once bytes (Segment s f) (Segment t e) x y =
    let same : x.1 ≡ y.1 = one_header bytes x.1 y.1 x.2 y.2 in
    segment_path s t f e (sym x.3 ∙ ap (λ (h : Header). h.seq) same ∙ y.3) (sym x.4 ∙ ap (λ (h : Header). h.first) same ∙ y.4)

pub one_fronts : (segment : ℕ) (bytes : List ℕ) (n : ℕ) (f g : FrontsState) → AreFronts segment bytes n f → AreFronts segment bytes n g → f ≡ g
one_fronts segment bytes zero f g x y = x ∙ sym y
one_fronts segment bytes (suc n) f g x y =
    x.4 ∙ ap (λ (r : Front). with_front n r x.2) (shows_once (front_bytes segment n bytes) x.0 y.0 x.1 y.1)
    ∙ ap (with_front n y.0) (one_fronts segment bytes n x.2 y.2 x.3 y.3) ∙ sym y.4

-- Incident slots

pub saved_once : (bytes : List ℕ) (a b : Option (Option Incident)) → ShowsSave bytes a → ShowsSave bytes b → a ≡ b
saved_once bytes None None x y = refl
saved_once bytes None (Some t) x y = absurd (x t y)
saved_once bytes (Some s) None x y = absurd (y s x)
saved_once bytes (Some s) (Some t) x y = ap (λ (o : Option Incident). Some o) (one_slot bytes s t x y)

pub one_saves : (bytes : List ℕ) (n : ℕ) (s t : SavesState) → AreSaves bytes n s → AreSaves bytes n t → s ≡ t
one_saves bytes zero s t x y = x ∙ sym y
one_saves bytes (suc n) s t x y =
    x.4 ∙ ap (λ (o : Option (Option Incident)). with_save n o x.2) (saved_once (part bytes (place_of n) 256) x.0 y.0 x.1 y.1)
    ∙ ap (with_save n y.0) (one_saves bytes n x.2 y.2 x.3 y.3) ∙ sym y.4

-- Records, and what is told of segments

one_given : (bytes : List ℕ) (first : ℕ) (rs qs : List Record) → GivenBy bytes first rs → GivenBy bytes first qs → rs ≡ qs
one_given bytes first rs qs g h = g.are ∙ ap (λ (bs : List (List Record)). in_place first (records_in bs)) (one_legal bytes 64 g.batches h.batches g.legal h.legal) ∙ sym h.are

pub one_reading : (segment : ℕ) (bytes : List ℕ) (before : Option ℕ) (floor : ℕ) (hs : List Head) (ts us : List Told) (g e : List Record)
    → AreRead segment bytes before floor hs ts g → AreRead segment bytes before floor hs us e → (ts ≡ us) × (g ≡ e)
one_reading segment bytes before floor [] [] [] g e x y = (refl, x ∙ sym y)
one_reading segment bytes before floor [] [] (u ∷ us) g e x y = absurd y
one_reading segment bytes before floor [] (t ∷ ts) us g e x y = absurd x
one_reading segment bytes before floor (h ∷ hs) [] us g e x y = absurd x
one_reading segment bytes before floor (h ∷ hs) (t ∷ ts) [] g e x y = absurd y
one_reading segment bytes before floor (h ∷ hs) (t ∷ ts) (u ∷ us) g e x y =
    let i = x.1 in
    let j = y.1 in
    let here : x.0 ≡ y.0 = i.are ∙ ap (above floor) (one_given (slot_bytes segment h.slot bytes) h.first i.all j.all i.gives j.gives) ∙ sym j.are in
    let same : t ≡ u = told_path t.fault u.fault t.run u.run (one_judgement (slot_bytes segment h.slot bytes) before floor h t.fault u.fault i.fault j.fault) (i.run ∙ ap (run_behind None) here ∙ sym j.run) in
    let rest = one_reading segment bytes (Some h.seq) (floor_behind floor x.0) hs ts us x.2.0 y.2.0 x.2.1
    (subst (λ (rs : List Record). AreRead segment bytes (Some h.seq) (floor_behind floor rs) hs us y.2.0) (sym here) y.2.1) in (
      ap (λ (z : Told). z ∷ ts) same ∙ ap (λ (zs : List Told). u ∷ zs) rest.0,
      x.2.2 ∙ ap (λ (rs : List Record). rs ++ x.2.0) here ∙ ap (λ (rs : List Record). y.0 ++ rs) rest.1 ∙ sym y.2.2,
    )

-- Findings

pub one_findings : (x : Account) (fs gs : List Finding) → AreFindings x fs → AreFindings x gs → fs ≡ gs
one_findings x fs gs f g =
    f.are ∙ ap (λ (l : List ℕ). map as_missing (lacks x) ++ map as_damaged l ++ map as_closed (closes x)) (one_sorted _ f.damaged g.damaged f.moved g.moved f.rising g.rising) ∙ sym g.are

pub one_test : (P : Type 0) (a b : Bool) → IsTrue a ↔ P → IsTrue b ↔ P → a ≡ b
one_test P true true x y = refl
one_test P false false x y = refl
one_test P true false x y = sym (y.1 (x.0 refl))
one_test P false true x y = x.1 (y.0 refl)
