-- An image holds one list of contents.
use Rattle.std.proofs.Common.{◌≡◌, All, ℕ, ◌+◌, ◌<◌, ◌≤◌, ◌^◌, List, [], length, Option, Result, Ok, inl, inr, sym, ap, ◌∙◌, subst, append-nil, arith, ◌↔◌, suc, Bool, true, false, ◌∷◌, ◌++◌, get_or, take, drop, Some, None, refl, IsTrue, add-one, drop-cons}
use Rattle.vdr_core.specs.Histories.{Incident, live}
use Rattle.vdr_bytes.specs.Numbers.{le_u32, u32_at}
use Rattle.vdr_bytes.proofs.NumberLemmas.{read_u32}
use Rattle.vdr_outside.specs.Disk.{Image, content}
use Rattle.vdr_outside.specs.Parts.{part}
use Rattle.vdr_segment.specs.Segments.{Segment}
use Rattle.vdr_segment.proofs.Holding.{one_holding}
use Rattle.vdr_directory.specs.Sequence.{Placed, AreInSequence}
use Rattle.vdr_directory.specs.Holds.{HoldsPlaced}
use Rattle.vdr_directory.proofs.Placing.{one_sequence}
use Rattle.vdr_incident.specs.Tables.{HoldsTable}
use Rattle.vdr_incident.proofs.Holding.{one_table}
use Rattle.vdr_config.specs.Configuration.{Configuration}
use Rattle.vdr_config.specs.Grammar.{configuration}
use Rattle.vdr_terms.specs.Slots.{slot_count}
use Rattle.vdr_media.specs.Layout.{text_from}
use Rattle.vdr_media.specs.Medium.{HoldsText, IsSuperblock}
use Rattle.vdr_media.specs.Formatted.{IsUnformatted}
use Rattle.vdr_media.proofs.Rooms.{text_fits}
use Rattle.vdr_ring.specs.Whole.{is_filled}
use Rattle.vdr_media.proofs.Members.{of_each}
use Rattle.vdr_opening.specs.Media.{members_in, members_with, further_in, HasFront, HasSegments, IsMedium, Contents, HoldsContents, AreThereBy, slots_on}
use Rattle.std.specs.Prelude.{option_and_then}
use Rattle.std.proofs.lemmas.List.{take-append-drop, length-take-le, get_or-take}
use Rattle.std.proofs.lemmas.Option.{slice_get-get_or}
use Rattle.vdr_directory.specs.Telling.{HoldAllBy}
use Rattle.vdr_opening.specs.Parts.{IsThere, LacksPlaces}

-- One medium

number_read : (n : ℕ) → n < 2 ^ 32 → u32_at 0 (le_u32 n) ≡ n
number_read n small = (read_u32 0 n (le_u32 n) [] (sym (append-nil (le_u32 n))) small).0

pub one_number : (m n : ℕ) → m < 2 ^ 32 → n < 2 ^ 32 → le_u32 m ≡ le_u32 n → m ≡ n
one_number m n small low same = sym (number_read m small) ∙ ap (λ (xs : List ℕ). u32_at 0 xs) same ∙ number_read n low

-- Its text has one length, and so it is one.
pub one_text : (s t bytes : List ℕ) → HoldsText s bytes → HoldsText t bytes → length s ≤ 16380 → length t ≤ 16380 → s ≡ t
one_text s t bytes h k short brief = sym h.verbatim ∙ ap (λ (n : ℕ). part bytes (text_from + 4) n) size ∙ k.verbatim
  where
    size : length s ≡ length t
    size = one_number (length s) (length t) (omega (arith, short)) (omega (arith, brief)) (sym h.size ∙ k.size)

one_reading : (c d : Configuration) (s t : List ℕ) → configuration s ≡ Ok c → configuration t ≡ Ok d → s ≡ t → c ≡ d
one_reading c d s t reads other same = ok_same c d (sym reads ∙ ap configuration same ∙ other)
  where
    ok_same : {E : Type 0} (c d : Configuration) → ◌≡◌ {A = Result Configuration E} (Ok c) (Ok d) → c ≡ d
    ok_same c d e = cc

-- It holds one configuration.
pub one_front : {m k : ℕ} {c d : Configuration} {s t bytes : List ℕ} → HasFront m c s bytes → HasFront k d t bytes → (c ≡ d) × (s ≡ t)
one_front {m} {k} {c} {d} {s} {t} {bytes} h g = (one_reading c d s t h.configured.reads g.configured.reads same, same)
  where
    same : s ≡ t
    same = one_text s t bytes h.configured.holds_text g.configured.holds_text (text_fits s c h.configured.reads) (text_fits t d g.configured.reads)

-- Its slots hold one list of segments.
one_placed : {segment count : ℕ} {ps qs : List Placed} {bytes : List ℕ}
    → HoldsPlaced segment count ps bytes → HoldsPlaced segment count qs bytes → ps ≡ qs
one_placed {segment} {count} {ps} {qs} {bytes} h k =
    let slots : h.slots ≡ k.slots = one_holding segment h.slots k.slots bytes h.holds k.holds (h.all_slots ∙ sym k.all_slots) in
    one_sequence k.slots ps qs (subst (λ (xs : List (Option Segment)). AreInSequence xs ps) slots h.sequence) k.sequence

one_segments : {c d : Configuration} {ps qs : List Placed} {bytes : List ℕ} → c ≡ d → HasSegments c ps bytes → HasSegments d qs bytes → ps ≡ qs
one_segments {c} {d} {ps} {qs} {bytes} same h k =
    one_placed (subst (λ (e : Configuration). HoldsPlaced e.segment (slot_count e.segment (length bytes)) ps bytes) same h.holds) k.holds

-- Their incident slots hold one table.
pub table_once : {c d : Configuration} {xs ys : List (Option Incident)} {bytes : List ℕ} → c ≡ d → HoldsTable c.incident_slots xs bytes → HoldsTable d.incident_slots ys bytes → xs ≡ ys
table_once {c} {d} {xs} {ys} {bytes} same held kept =
    one_table d.incident_slots xs ys bytes (subst (λ (e : Configuration). HoldsTable e.incident_slots xs bytes) same held) kept

-- Legal media

-- Each medium is legal, with one configuration.
pub record AreMedia (image : Image) (c : Configuration) (text : List ℕ) (placed : ℕ → List Placed) : Type 0 where
  pub each : All (λ m. IsMedium m c text (placed m) (content image m)) (members_in image)

module _ {image : Image} {c d : Configuration} {s t : List ℕ} {ps qs : ℕ → List Placed} (h : AreMedia image c s ps) (k : AreMedia image d t qs) where
  pub one_config : c ≡ d
  one_config = (one_front (h.each 0 0 (omega arith)).front (k.each 0 0 (omega arith)).front).0

  pub one_configured_text : s ≡ t
  one_configured_text = (one_front (h.each 0 0 (omega arith)).front (k.each 0 0 (omega arith)).front).1

  pub one_placed_at : (m : ℕ) → m < 2 + further_in image → ps m ≡ qs m
  one_placed_at m lt =
      one_segments one_config (of_each (λ k. IsMedium k c s (ps k) (content image k)) (further_in image) h.each m lt).segments
      (of_each (λ k. IsMedium k d t (qs k) (content image k)) (further_in image) k.each m lt).segments

  pub one_incidents : {xs ys : List (Option Incident)}
      → HoldsTable c.incident_slots xs (content image 1) → HoldsTable d.incident_slots ys (content image 1) → xs ≡ ys
  one_incidents held kept = table_once one_config held kept

-- Contents

pub are_legal : {image : Image} {x : Contents} → HoldsContents image x → AreMedia image x.config x.text x.placed
are_legal {image} {x} h = record { each = subst (λ (n : ℕ). All (λ m. IsMedium m x.config x.text (x.placed m) (content image m)) (members_with n)) h.further h.media }

-- and whether each medium is filled.
pub filled_at : {image : Image} {x : Contents} → HoldsContents image x → (m : ℕ) → m < 2 + further_in image → x.filled m ≡ is_filled (slots_on x.config image m) (x.placed m)
filled_at {image} {x} h m lt =
    of_each (λ k. x.filled k ≡ is_filled (slots_on x.config image k) (x.placed k)) (further_in image)
    (subst (λ (n : ℕ). All (λ k. x.filled k ≡ is_filled (slots_on x.config image k) (x.placed k)) (members_with n)) h.further h.filled) m lt

pub one_filled : {image : Image} {x y : Contents} → HoldsContents image x → HoldsContents image y → (m : ℕ) → m < 2 + further_in image → x.filled m ≡ y.filled m
one_filled {image} {x} {y} h k m lt =
    let config = one_config (are_legal h) (are_legal k) in
    let segments = one_placed_at (are_legal h) (are_legal k) m lt in
    filled_at h m lt ∙ (λ i. is_filled (slots_on (config i) image m) (segments i)) ∙ sym (filled_at k m lt)

-- A medium with a superblock is formatted, and so are media that hold contents.
pub never_unformatted : (m segment : ℕ) (image : Image) → IsSuperblock m segment (content image 0) → IsUnformatted image → ⊥
never_unformatted m segment image h (inl small) = let room = h.room in omega (arith, small, room)
never_unformatted m segment image h (inr closed) = closed h.gate

pub are_formatted : (image : Image) (x : Contents) → HoldsContents image x → IsUnformatted image → ⊥
are_formatted image x h = never_unformatted 0 x.config.segment image (h.media 0 0 (omega arith)).front.superblock

-- Whether the places of the live incidents are there, slot by slot.

live_at : (table : List (Option Incident)) (k : ℕ) (d : Option Incident) → k < length table → live table (suc k) ≡ get_or table k d
live_at table k d lt = ap (λ (o : Option (Option Incident)). option_and_then (λ slot. slot) o) (slice_get-get_or table k d lt)

module _ (known : List Placed) where
  pub all_there : (table : List (Option Incident)) (n : ℕ) → length table ≡ n → ((k : ℕ) → k < n → IsThere known (live table (suc k))) → AreThereBy table known
  all_there table n size each k d lt = subst (IsThere known) (live_at table k d lt) (each k (omega (arith, lt, size)))

  front_there : (table : List (Option Incident)) (n : ℕ) → n ≤ length table → ((k : ℕ) → k < n → IsThere known (live table (suc k))) → AreThereBy (take n table) known
  front_there table n within each k d lt =
      let long : length (take n table) ≡ n = length-take-le n table within in
      let below : k < n = omega (arith, lt, long) in
      subst (IsThere known) (live_at table k d (omega (arith, below, within)) ∙ sym (get_or-take n table k d below)) (each k below)

  lacks_at : (table : List (Option Incident)) (slot : ℕ) (o : Option Incident) → slot < length table → ((k : ℕ) → k < slot → IsThere known (live table (suc k))) → get_or table slot None ≡ o → (IsThere known o → ⊥) → LacksPlaces table known slot
  lacks_at table slot None lt each is missing = absurd (missing tt)
  lacks_at table slot (Some x) lt each is missing = record {
    before = take slot table;
    here = x;
    after = drop (suc slot) table;
    split = sym (take-append-drop slot table) ∙ ap (λ (l : List (Option Incident)). take slot table ++ l) (drop-cons table slot None lt ∙ ap (λ (o : Option Incident). o ∷ drop (suc slot) table) is);
    index = length-take-le slot table (omega (arith, lt));
    there = front_there table slot (omega (arith, lt)) each;
    missing = missing;
  }

  pub lacks : (table : List (Option Incident)) (slot n : ℕ) (here : Bool) → length table ≡ n → slot < n → ((k : ℕ) → k < slot → IsThere known (live table (suc k))) → IsTrue here ↔ IsThere known (live table (suc slot)) → here ≡ false → LacksPlaces table known slot
  lacks table slot n here size lt each tested not_there =
      let within : slot < length table = omega (arith, size, lt) in
      lacks_at table slot (get_or table slot None) within each refl
      (λ there. let yes_there = tested.1 (subst (IsThere known) (sym (live_at table slot None within)) there) in let none : ⊥ = cc in none)

-- what the code finds of a slot
pub there_by : (known : List Placed) (table : List (Option Incident)) (slot a b : ℕ) (x : Incident) (here : Bool) → Some x ≡ live table (slot + 1) → a ≡ x.a → b ≡ x.b → IsTrue here ↔ HoldAllBy a b known → IsTrue here ↔ IsThere known (live table (suc slot))
there_by known table slot a b x here is a_is b_is tested =
    let both : HoldAllBy a b known ≡ HoldAllBy x.a x.b known = λ i. HoldAllBy (a_is i) (b_is i) known in
    let there : IsTrue here ↔ IsThere known (Some x) = subst (λ (P : Type 0). IsTrue here ↔ P) both tested in
    subst (λ (o : Option Incident). IsTrue here ↔ IsThere known o) (is ∙ ap (λ (n : ℕ). live table n) (add-one slot)) there

pub there_if_free : (known : List Placed) (table : List (Option Incident)) (slot : ℕ) → None ≡ live table (slot + 1) → IsTrue true ↔ IsThere known (live table (suc slot))
there_if_free known table slot is = subst (λ (o : Option Incident). IsTrue true ↔ IsThere known o) (is ∙ ap (λ (n : ℕ). live table n) (add-one slot)) (λ _. tt, λ _. refl)
