-- The segment size that a superblock says, and what `!=` says of bytes.
use Rattle.std.proofs.Common.{◌≡◌, ℕ, Bool, true, false, List, sym, ◌∙◌, ap, ◌-◌, ◌≤◌, [], ◌∷◌, ◌++◌, length, get_or, take, drop, slice_get, Some, refl, arith, append_assoc, ◌+◌, ◌<◌, ◌^◌, subst, ◌↔◌, Option, Ok, Err, Result, IsTrue, ◌*◌, zero, suc, replicate, None}
use Rattle.std.specs.Prelude.{bytes_eq, not, IfSome}
use Rattle.std.proofs.lemmas.Slice.Eq.{bytes_eq-Decides}
use Rattle.std.proofs.lemmas.Bool.{lt-leb}
use Rattle.std.proofs.lemmas.List.{drop-drop, take_rest, append-nil, drop_all, get_or-replicate, length-replicate}
use Rattle.std.proofs.lemmas.Option.{get_or_from_slice_get, slice_get-get_or, slice_get_within}
use Rattle.vdr_bytes.specs.Numbers.{le_u32, le_u64, u32_at}
use Rattle.vdr_bytes.proofs.NumberLemmas.{drop-front, length-le_u64, read_u32, spelled_u32, take-front}
use Rattle.vdr_segment.specs.Gates.{IsOpenAt}
use Rattle.vdr_terms.specs.Slots.{slot_count}
use Rattle.vdr_media.specs.Layout.{superblock_bytes}
use Rattle.vdr_media.specs.Medium.{IsSuperblock, HoldsText, IsEmptyMedium}
use Rattle.vdr_opening.specs.Refusals.{RefusesSuperblock, IsSameText, RefusesConfiguration}
use Rattle.vdr_opening.specs.Parts.{SaysSegment}
use Rattle.vdr_terms.specs.Legality.{IsBytes}
use Rattle.vdr_outside.specs.Parts.{part}
use Rattle.vdr_opening.proofs.ContentsHeld.{one_number, one_text}
use Rattle.vdr_terms.specs.Needs.{Fits}
use Rattle.vdr_terms.specs.Records.{last}
use Rattle.vdr_outside.specs.declared.fault.PartRefused.{PartRefused}
use Rattle.vdr_outside.specs.declared.fault.PartRefused.TheVariants.{Damaged}
use Rattle.vdr_config.specs.Configuration.{Configuration}
use Rattle.vdr_config.specs.Grammar.{configuration}
use Rattle.vdr_config.specs.Sizes.{sizes_of}
use Rattle.vdr_media.proofs.Rooms.{text_fits, slots_fit, some_slot}
use Rattle.vdr_ring.specs.Whole.{is_filled}
use Rattle.vdr_opening.specs.Media.{HasFront, members_with, further_in, AreThere, HoldsContents, IsMedium, nothing_on, reading_of, slots_on}
use Rattle.std.proofs.lemmas.List.Elements.{All-nil}
use Rattle.vdr_core.specs.Histories.{Incident}
use Rattle.vdr_durability.specs.Readings.{EndsMeet, leading_batch}
use Rattle.vdr_outside.specs.Disk.{Image, content}
use Rattle.vdr_config.proofs.Ranges.{ranges_of}
use Rattle.vdr_segment.specs.Segments.{IsSlot, Segment}
use Rattle.vdr_directory.specs.Lookup.{HoldAll}
use Rattle.vdr_directory.specs.Holds.{HoldsPlaced}
use Rattle.vdr_directory.specs.Sequence.{Placed}
use Rattle.vdr_incident.specs.Saves.{IsIncidentSlot}
use Rattle.vdr_incident.specs.Tables.{HoldsTable}
use Rattle.vdr_media.specs.Formatted.{IsEmptyHistory}
use Rattle.vdr_media.proofs.Members.{of_all, of_each}
use Rattle.vdr_durability.proofs.Meeting.{level_meet}

is_true : (b : Bool) → not b ≡ false → b ≡ true
is_true true is = cc
is_true false is = cc

pub are_same : (xs ys : List ℕ) (r : Bool) → r ≡ not (bytes_eq xs ys) → r ≡ false → xs ≡ ys
are_same xs ys r is same = (bytes_eq-Decides xs ys).0 (is_true (bytes_eq xs ys) (sym is ∙ same))

pub differ : (xs ys : List ℕ) (r : Bool) → r ≡ not (bytes_eq xs ys) → r ≡ true → xs ≡ ys → ⊥
differ xs ys r is differs same =
    let both : bytes_eq xs ys ≡ true = (bytes_eq-Decides xs ys).1 same in
    let equal : r ≡ false = is ∙ ap not both in
    let none : ⊥ = cc in
    none

-- The segment size that a superblock says.

fields_front : ℕ → ℕ → List ℕ
fields_front kind size = 86 ∷ 68 ∷ 82 ∷ 77 ∷ 1 ∷ kind ∷ le_u64 size

fields_split : (kind size segment slots : ℕ) → superblock_bytes kind size segment slots ≡ fields_front kind size ++ (le_u32 segment ++ le_u32 slots)
unfolding fields_front
fields_split kind size segment slots = append_assoc (86 ∷ 68 ∷ 82 ∷ 77 ∷ 1 ∷ kind ∷ le_u64 size) (le_u32 segment) (le_u32 slots)

length-fields_front : (kind size : ℕ) → length (fields_front kind size) ≡ 14
unfolding fields_front
length-fields_front kind size = omega (arith, length-le_u64 size)

-- what stands where the size of a segment does
pub said : (m size segment : ℕ) (bytes : List ℕ) → SaysSegment m size segment bytes → u32_at 15 bytes ≡ segment
said m size segment bytes s =
    let behind : drop 15 bytes ≡ le_u32 segment ++ le_u32 (slot_count segment size) =
    sym (drop-drop 14 1 bytes) ∙ ap (λ (b : List ℕ). drop 14 b) (s.fields ∙ fields_split m size segment (slot_count segment size))
    ∙ drop-front 14 (fields_front m size) (le_u32 segment ++ le_u32 (slot_count segment size)) (length-fields_front m size) in
    (read_u32 15 segment bytes (le_u32 (slot_count segment size)) behind (omega (arith, s.segment_high))).0

pub said_by : (m size segment read : ℕ) (bytes : List ℕ) → read ≡ u32_at 15 bytes → SaysSegment m size segment bytes → read ≡ segment
said_by m size segment read bytes is s = is ∙ said m size segment bytes s

-- the gate as the code reads it
pub gate_open : (bytes : List ℕ) → length bytes ≡ 23 → get_or bytes 0 0 ≡ 165 → IsOpenAt bytes 0
gate_open bytes long is = slice_get-get_or bytes 0 0 (omega arith) ∙ ap (λ (n : ℕ). Some n) is

pub gate_byte : (bytes : List ℕ) → IsOpenAt bytes 0 → get_or bytes 0 0 ≡ 165
gate_byte bytes opened = get_or_from_slice_get bytes 0 165 0 opened

module _ (m size segment slots : ℕ) (bytes legal : List ℕ) (r : Bool) (counted : slots ≡ slot_count segment size) (is_legal : legal ≡ superblock_bytes m size segment slots) (compared : r ≡ not (bytes_eq (take (length bytes - 1) (drop 1 bytes)) legal)) where
  legal_is : legal ≡ superblock_bytes m size segment (slot_count segment size)
  legal_is = is_legal ∙ ap (λ (n : ℕ). superblock_bytes m size segment n) counted

  pub says : length bytes ≡ 23 → get_or bytes 0 0 ≡ 165 → 8192 ≤ segment → segment ≤ 16777216 → r ≡ false → SaysSegment m size segment bytes
  says long opened low high same = record {
    gate = gate_open bytes long opened;
    fields = sym (take_rest bytes 1) ∙ are_same (take (length bytes - 1) (drop 1 bytes)) legal r compared same ∙ legal_is;
    segment_low = low;
    segment_high = high;
  }

  pub says_none : segment ≡ u32_at 15 bytes → r ≡ true → (other : ℕ) → SaysSegment m size other bytes → ⊥
  says_none read differs other s =
      let one : segment ≡ other = said_by m size other segment bytes read s in
      differ (take (length bytes - 1) (drop 1 bytes)) legal r compared differs
      (take_rest bytes 1 ∙ s.fields ∙ sym (legal_is ∙ ap (λ (n : ℕ). superblock_bytes m size n (slot_count n size)) one))

-- The first bytes of a medium, and its superblock

front_fields : (b : List ℕ) → drop 1 (take 23 b) ≡ take 22 (drop 1 b)
front_fields [] = refl
front_fields (x ∷ b) = refl

front_gate : (b : List ℕ) → slice_get (take 23 b) 0 ≡ slice_get b 0
front_gate [] = refl
front_gate (x ∷ b) = refl

module _ (m size segment : ℕ) (b bytes : List ℕ) (reads : bytes ≡ take 23 b) (whole : length b ≡ size) where
  pub is_superblock : 32768 ≤ size → SaysSegment m size segment bytes → IsSuperblock m segment b
  is_superblock room s = record {
    room = omega (arith, room, whole);
    gate = sym (front_gate b) ∙ ap (λ (l : List ℕ). slice_get l 0) (sym reads) ∙ s.gate;
    fields = sym (front_fields b) ∙ ap (λ (l : List ℕ). drop 1 l) (sym reads) ∙ s.fields ∙ ap (λ (n : ℕ). superblock_bytes m n segment (slot_count segment n)) (sym whole);
    segment_low = s.segment_low;
    segment_high = s.segment_high;
  }

  pub says_front : IsSuperblock m segment b → SaysSegment m size segment bytes
  says_front s = record {
    gate = ap (λ (l : List ℕ). slice_get l 0) reads ∙ front_gate b ∙ s.gate;
    fields = ap (λ (l : List ℕ). drop 1 l) reads ∙ front_fields b ∙ s.fields ∙ ap (λ (n : ℕ). superblock_bytes m n segment (slot_count segment n)) whole;
    segment_low = s.segment_low;
    segment_high = s.segment_high;
  }

pub one_segment : (m s t : ℕ) (b : List ℕ) → IsSuperblock m s b → IsSuperblock m t b → s ≡ t
one_segment m s t b x y = sym (said m (length b) s (take 23 b) (says_front m (length b) s b (take 23 b) refl refl x)) ∙ said m (length b) t (take 23 b) (says_front m (length b) t b (take 23 b) refl refl y)

pub refused_front : (m size : ℕ) (b bytes : List ℕ) → bytes ≡ take 23 b → length b ≡ size → ((segment : ℕ) → SaysSegment m size segment bytes → ⊥) → RefusesSuperblock m b 0
refused_front m size b bytes reads whole says_none = record { broken = λ segment s. says_none segment (says_front m size segment b bytes reads whole s); at = refl }

-- What stands before the slots of a medium: the text of its configuration, and where it is refused.

-- four bytes are those of the number that they are read as
pub spelled : (bytes : List ℕ) → IsBytes bytes → length bytes ≡ 4 → bytes ≡ le_u32 (u32_at 0 bytes)
spelled bytes are_bytes long =
    spelled_u32 0 bytes are_bytes (omega (arith, long)) ∙ ap (λ (l : List ℕ). le_u32 (u32_at 0 bytes) ++ l) (drop_all 4 bytes (omega (arith, long))) ∙ append-nil (le_u32 (u32_at 0 bytes))

pub too_long : (n : ℕ) (b : List ℕ) → part b 12288 4 ≡ le_u32 n → n < 2 ^ 32 → 16380 < n → (text : List ℕ) → length text ≤ 16380 → HoldsText text b → ⊥
too_long n b says small long text short h =
    let same : length text ≡ n = one_number (length text) n (omega (arith, short)) small (sym h.size ∙ says) in
    omega (arith, same, short, long)

-- what is read into a buffer of this length is the text
pub text_read : (n len : ℕ) (b into items : List ℕ) → part b 12288 4 ≡ le_u32 n → len ≡ n → length into ≡ n → into ≡ take (12292 + n - 12292) (drop 12292 b) → HoldsText (take len (into ++ drop (length into) items)) b
text_read n len b into items says len_is long reads =
    let back : take len (into ++ drop (length into) items) ≡ into = take-front len into (drop (length into) items) (long ∙ sym len_is) in
    let count : 12292 + n - 12292 ≡ length into = omega (arith, long) in
    let whole : HoldsText into b = record {
      size = says ∙ ap (λ (k : ℕ). le_u32 k) (sym long);
      verbatim = ap (λ (k : ℕ). take k (drop 12292 b)) (sym count) ∙ sym reads;
    } in
    subst (λ (l : List ℕ). HoldsText l b) (sym back) whole

-- what a read gives of a medium that was read before
pub read_part : (n lent : ℕ) (b now into : List ℕ) → now ≡ b → lent ≡ n → into ≡ take (12292 + lent - 12292) (drop 12292 now) → into ≡ take (12292 + n - 12292) (drop 12292 b)
read_part n lent b now into same lent_is is = is ∙ ap (λ (l : List ℕ). take (12292 + lent - 12292) (drop 12292 l)) same ∙ ap (λ (k : ℕ). take (12292 + k - 12292) (drop 12292 b)) lent_is

-- What stands before the slots of a medium, and where it is refused.

-- what an answer that was made here says
pub named : {T : Type 0} (m at k offset : ℕ) (r : PartRefused) → r ≡ Damaged m at → ◌≡◌ {A = Result T PartRefused} (Err r) (Err (Damaged k offset)) → (k ≡ m) × (offset ≡ at)
named m at k offset r is e = ((cc), (cc))

-- the configurations of one text
pub one_config : (text : List ℕ) (c d : Configuration) → configuration text ≡ Ok c → configuration text ≡ Ok d → c ≡ d
one_config text c d x y = cc

module _ (m segment : ℕ) (before : Option (List ℕ)) (b : List ℕ) (superblock : IsSuperblock m segment b) where
  -- the medium has no text
  pub refused_textless : ((text : List ℕ) → length text ≤ 16380 → HoldsText text b → ⊥) → RefusesConfiguration m before b 12288
  refused_textless textless = record {
    segment = segment;
    superblock = superblock;
    broken = λ c text front same. textless text (text_fits text c front.configured.reads) front.configured.holds_text;
    at = refl;
  }

  -- it has this one, which is not legal there
  pub refused_text : (text : List ℕ) → length text ≤ 16380 → HoldsText text b
      → ((c : Configuration) → configuration text ≡ Ok c → c.segment ≡ segment → Fits (sizes_of c) m (length b) → IsSameText before text → ⊥) → RefusesConfiguration m before b 12288
  refused_text text short holds illegal = record {
    segment = segment;
    superblock = superblock;
    broken = λ c other front same.
        let is : other ≡ text = one_text other text b front.configured.holds_text holds (text_fits other c front.configured.reads) short in
        illegal c (subst (λ (l : List ℕ). configuration l ≡ Ok c) is front.configured.reads) (one_segment m c.segment segment b front.superblock superblock) front.configured.fits
        (subst (λ (l : List ℕ). IsSameText before l) is same);
    at = refl;
  }

  pub has_front : (text : List ℕ) (c : Configuration) → HoldsText text b → configuration text ≡ Ok c → c.segment ≡ segment → Fits (sizes_of c) m (length b) → HasFront m c text b
  has_front text c holds reads same fits = record {
    superblock = subst (λ (s : ℕ). IsSuperblock m s b) (sym same) superblock;
    configured = record { holds_text = holds; reads = reads; fits = fits };
  }

-- a configuration that does not go with the medium is the only one of its text
pub other_config : (m segment size measured : ℕ) (text read : List ℕ) (c : Configuration) (d : Configuration) (goes : Bool) → read ≡ text → configuration read ≡ Ok d → configuration text ≡ Ok c → c.segment ≡ segment → Fits (sizes_of c) m size → measured ≡ size
    → IsTrue goes ↔ ((d.segment ≡ segment) × Fits (sizes_of d) m measured) → goes ≡ false → ⊥
other_config m segment size measured text read c d goes text_is reads_d reads_c same fits measures tested no_good =
    let is : c ≡ d = one_config text c d reads_c (subst (λ (l : List ℕ). configuration l ≡ Ok d) text_is reads_d) in
    let passes = tested.1 (ap (λ (x : Configuration). x.segment) (sym is) ∙ same, subst (λ (n : ℕ). Fits (sizes_of d) m n) (sym measures) (subst (λ (x : Configuration). Fits (sizes_of x) m size) is fits)) in
    let none : ⊥ = cc in
    none

-- Media that were just formatted hold no segment and no incident.

-- The first byte of a part is that of the medium.
first_byte : (bytes : List ℕ) (at n : ℕ) → 0 < n → slice_get (part bytes at n) 0 ≡ slice_get bytes at
first_byte bytes at zero lt = absurd (omega (arith, lt))
first_byte [] zero (suc n) lt = refl
first_byte [] (suc at) (suc n) lt = refl
first_byte (y ∷ bytes) zero (suc n) lt = refl
first_byte (y ∷ bytes) (suc at) (suc n) lt = first_byte bytes at (suc n) lt

none_open : (n j : ℕ) (s : Segment) → slice_get (replicate {A = Option Segment} n None) j ≡ Some (Some s) → ⊥
none_open n j s e = clash (sym (slice_get-get_or (replicate n None) j None within ∙ ap (λ (o : Option Segment). Some o) (get_or-replicate n j None None below)) ∙ e)
  where
    within : j < length (replicate {A = Option Segment} n None)
    within = slice_get_within (replicate n None) j (Some s) e

    below : j < n
    below = let size = length-replicate {A = Option Segment} n None in omega (arith, within, size)

    clash : Some None ≡ Some (Some s) → ⊥
    clash e = cc

module _ (m : ℕ) (c : Configuration) (text bytes : List ℕ) (h : IsEmptyMedium m c text bytes) where
  no_slot : (j : ℕ) (d : Option Segment) → j < length (replicate {A = Option Segment} (slot_count c.segment (length bytes)) None) → IsSlot (part bytes (32768 + j * c.segment) c.segment) (get_or (replicate (slot_count c.segment (length bytes)) None) j d)
  no_slot j d lt =
      let size = length-replicate {A = Option Segment} (slot_count c.segment (length bytes)) None in
      let low = h.superblock.segment_low in
      subst (IsSlot (part bytes (32768 + j * c.segment) c.segment)) (sym (get_or-replicate (slot_count c.segment (length bytes)) j None d (omega (arith, lt, size))))
      (λ opened. h.segments.each j (omega (arith, lt, size)) (sym (first_byte bytes (32768 + j * c.segment) c.segment (omega (arith, low))) ∙ opened))

  no_segment : HoldsPlaced c.segment (slot_count c.segment (length bytes)) [] bytes
  no_segment = record {
    slots = replicate (slot_count c.segment (length bytes)) None;
    all_slots = length-replicate (slot_count c.segment (length bytes)) None;
    holds = record {
      room =
          let size = length-replicate {A = Option Segment} (slot_count c.segment (length bytes)) None in
          let low = h.superblock.segment_low in
          subst (λ (n : ℕ). 32768 + n * c.segment ≤ length bytes) (sym size)
          (slots_fit c.segment (length bytes) (omega (arith, low)) (some_slot (sizes_of c) m (length bytes) h.holds.fits));
      each = record { each = no_slot };
    };
    sequence = record {
      there = All-nil (λ (p : Placed). slice_get (replicate (slot_count c.segment (length bytes)) None) p.slot ≡ Some (Some p.segment));
      all = λ j s e. absurd (none_open (slot_count c.segment (length bytes)) j s e);
      rising = tt;
    };
  }

  pub empty_is_medium : IsMedium m c text [] bytes
  empty_is_medium = record { front = record { superblock = h.superblock; configured = h.holds }; segments = record { holds = no_segment; order = tt } }

  -- Most of its slots are not open.
  pub none_filled : false ≡ is_filled (slot_count c.segment (length bytes)) []
  none_filled = let enough = h.holds.fits in sym (lt-leb (slot_count c.segment (length bytes)) 1 (omega (arith, enough)))

  no_incident : (j : ℕ) (d : Option Incident) → j < length (replicate {A = Option Incident} c.incident_slots None) → IsIncidentSlot (part bytes (4096 + j * 256) 256) (get_or (replicate c.incident_slots None) j d)
  no_incident j d lt =
      let size = length-replicate {A = Option Incident} c.incident_slots None in
      let few = (ranges_of text c h.holds.reads).0 in
      subst (IsIncidentSlot (part bytes (4096 + j * 256) 256)) (sym (get_or-replicate c.incident_slots j None d (omega (arith, lt, size))))
      (λ opened. h.incidents.each j (omega (arith, lt, size, few)) (sym (first_byte bytes (4096 + j * 256) 256 (omega arith)) ∙ opened))

  pub empty_table : HoldsTable c.incident_slots (replicate c.incident_slots None) bytes
  empty_table = record {
    size = length-replicate c.incident_slots None;
    room =
        let few = (ranges_of text c h.holds.reads).0 in
        let room = h.superblock.room in
        omega (arith, few, room);
    each = record { each = no_incident };
  }

-- No place is asked for where no incident is live.
pub none_missing : (n : ℕ) (placed : List Placed) → AreThere (replicate n None) placed
none_missing n placed k d lt =
    let size = length-replicate {A = Option Incident} n None in
    subst (λ (slot : Option Incident). IfSome slot (λ incident. HoldAll incident.a incident.b placed)) (sym (get_or-replicate n k None d (omega (arith, lt, size)))) tt

pub empty_holds : (further : ℕ) (image : Image) (c : Configuration) (text : List ℕ) → further ≡ further_in image → IsEmptyHistory (members_with further) c text image → HoldsContents image (nothing_on further c text)
empty_holds further image c text version h = record {
  further = version;
  media = of_all (λ m. IsMedium m c text [] (content image m)) further
      (λ k lt. empty_is_medium k c text (content image k) (of_each (λ m. IsEmptyMedium m c text (content image m)) further h.each k lt));
  table = empty_table 1 c text (content image 1) (h.each 1 1 (omega arith));
  there = none_missing c.incident_slots [];
  filled = of_all (λ m. false ≡ is_filled (slots_on c image m) []) further
      (λ k lt. none_filled k c text (content image k) (of_each (λ m. IsEmptyMedium m c text (content image m)) further h.each k lt));
}

pub empty_meet : (further : ℕ) (c : Configuration) (text : List ℕ) → EndsMeet (members_with further) (reading_of (nothing_on further c text))
empty_meet further c text =
    let reading = reading_of (nothing_on further c text) in
    level_meet (members_with further) reading (of_all (λ m. last (reading.batches m) ≡ leading_batch (members_with further) reading) further (λ k lt. refl))
