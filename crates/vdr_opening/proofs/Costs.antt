-- How many bytes opening reads, one part of the media after another.
use Rattle.std.proofs.Common.{◌≡◌, ◌≤◌, ◌<◌, ◌+◌, ◌*◌, ℕ, List, get_or, length, zero, suc, inl, inr, refl, sym, ◌∙◌, subst, arith}
use Rattle.std.specs.Prelude.{All}
use Rattle.std.proofs.lemmas.Bool.{cases_eq}
use Rattle.vdr_terms.specs.Slots.{slot_count}
use Rattle.vdr_outside.specs.Causes.{counted}
use Rattle.vdr_outside.specs.Disk.{Disk}
use Rattle.vdr_config.specs.Configuration.{Configuration}
use Rattle.vdr_media.specs.Answers.{ReadsOneByte}
use Rattle.vdr_incident.specs.Tables.{ReadsSlots, counted_slots}
use Rattle.vdr_directory.specs.Costs.{ReadsAtMost, lacking}
use Rattle.vdr_directory.specs.Sequence.{Placed}
use Rattle.vdr_directory.proofs.CostLemmas.{reads_none, reads_counted, reads_join, reads_more}
use Rattle.vdr_ring.specs.Rings.{HoldsNewest, RingState}
use Rattle.vdr_media.proofs.Members.{of_each}
use Rattle.vdr_media.specs.Formatted.{members_with}
use Rattle.vdr_opening.specs.Costs.{ReadsParts, opening_bytes}
use Rattle.vdr_opening.specs.Answers.{further_on, members_on, ring_at}
use Rattle.vdr_ring.specs.Openings.{IsRingOf}
use Rattle.vdr_opening.specs.Parts.{KnowsMedium}

-- What stands before the slots of a medium

-- the length of the text, and the text
pub text_bytes : (m n : ℕ) (before mid now : List ℕ) → n ≤ 16380 → mid ≡ counted before m 4 → now ≡ counted mid m n → ReadsAtMost m 16384 before now
text_bytes m n before mid now short first second = reads_join m 4 n 16384 before mid now (omega (arith, short)) (reads_counted m 4 before mid first) (reads_counted m n mid now second)

slots_bytes : (n : ℕ) (before : List ℕ) → ReadsAtMost 1 (n * 256) before (counted_slots before n)
slots_bytes zero before = reads_none 1 0 before before refl
slots_bytes (suc n) before = reads_join 1 (n * 256) 256 (suc n * 256) before (counted_slots before n) (counted (counted_slots before n) 1 256) (omega arith) (slots_bytes n before) (reads_counted 1 256 (counted_slots before n) _ refl)

-- the incident slots
pub table_bytes : (slots : ℕ) (before now : List ℕ) → slots ≤ 32 → ReadsSlots slots before now → ReadsAtMost 1 8192 before now
table_bytes slots before now few h =
    let within = h.within in
    reads_more 1 (h.read * 256) 8192 before now (omega (arith, few, within)) (subst (ReadsAtMost 1 (h.read * 256) before) (sym h.counts) (slots_bytes h.read before))

-- whether media are formatted
pub gate_byte : (before now : List ℕ) → ReadsOneByte before now → ReadsAtMost 0 1 before now
gate_byte before now (inl same) = reads_none 0 1 before now same
gate_byte before now (inr is) = reads_counted 0 1 before now is

-- A medium

front_joined : (slots bare : ℕ) → 16407 + (1 + slots + bare) ≤ 16408 + slots + bare
front_joined slots bare = omega arith

-- its superblock, its configuration, its segments
pub medium_bytes : (m segment slots : ℕ) (known : List Placed) (a b c d : List ℕ) → ReadsAtMost m 23 a b → ReadsAtMost m 16384 b c → ReadsAtMost m (1 + 64 * slots + segment * lacking known) c d
    → ReadsAtMost m (opening_bytes 16408 segment slots known) a d
medium_bytes m segment slots known a b c d first second third =
    reads_join m 16407 (1 + 64 * slots + segment * lacking known) (opening_bytes 16408 segment slots known) a c d (front_joined (64 * slots) (segment * lacking known))
    (reads_join m 23 16384 16407 a b c (omega arith) first second) third

-- At most so many bytes of medium m were read, of which this is known, where the media have these sizes.
abbrev pub OwnBytes : (m front : ℕ) (c : Configuration) (known : List Placed) (sizes before now : List ℕ) → Type 0
OwnBytes m front c known sizes before now = get_or now m 0 ≤ get_or before m 0 + opening_bytes front c.segment (slot_count c.segment (get_or sizes m 0)) known

-- What opening reads of medium m is legal but for its incident slots, the ring knows it, and it was read so.
pub record IsReadBy {tells tells_images : Type 0} (m : ℕ) (c : Configuration) (text : List ℕ) (known : List Placed) (ring : RingState) (disk : Disk tells tells_images) (sizes before now : List ℕ) : Type 0 where
  pub knows : KnowsMedium m c text known ring disk
  pub own : OwnBytes m 16408 c known sizes before now

same_bound : (x y z n k : ℕ) → y ≡ x → n ≡ k → z ≤ y + n → z ≤ x + k
same_bound x y z n k same is most = omega (arith, same, is, most)

-- the medium that is read next, of which nothing was read before
pub own_bytes : (m : ℕ) (c : Configuration) (sizes : List ℕ) (ring : RingState) (known : List Placed) (before mid now : List ℕ) → IsRingOf c sizes m ring → get_or mid m 0 ≡ get_or before m 0
    → ReadsAtMost m (opening_bytes 16408 ring.segment ring.slots known) mid now → OwnBytes m 16408 c known sizes before now
own_bytes m c sizes ring known before mid now is unread h =
    same_bound (get_or before m 0) (get_or mid m 0) (get_or now m 0) (opening_bytes 16408 ring.segment ring.slots known) (opening_bytes 16408 c.segment (slot_count c.segment (get_or sizes m 0)) known)
    unread (λ i. opening_bytes 16408 (is.segment i) (is.slots i) known) h.own

-- those before it
pub own_still : (k m n front : ℕ) (c : Configuration) (known : List Placed) (sizes before mid now : List ℕ) → k < m → ReadsAtMost m n mid now → OwnBytes k front c known sizes before mid → OwnBytes k front c known sizes before now
own_still k m n front c known sizes before mid now lt h own =
    subst (λ (x : ℕ). x ≤ get_or before k 0 + opening_bytes front c.segment (slot_count c.segment (get_or sizes k 0)) known) (sym (h.others k (λ is. omega (arith, is, lt)))) own

-- and those behind it
pub unread_still : (m n k : ℕ) (before mid now : List ℕ) → m + 1 ≤ k → ReadsAtMost m n mid now → get_or mid k 0 ≡ get_or before k 0 → get_or now k 0 ≡ get_or before k 0
unread_still m n k before mid now above h unread = h.others k (λ is. omega (arith, is, above)) ∙ unread

-- The media, and a call on one of them

at_most : (m n k : ℕ) (before now : List ℕ) → ReadsAtMost m n before now → get_or now k 0 ≤ get_or before k 0 + n
at_most m n k before now h = elim (cases_eq k m) [
  | inl same ↦ subst (λ (j : ℕ). get_or now j 0 ≤ get_or before j 0 + n) (sym same) h.own
  | inr other ↦ let is = h.others k (λ same. let none : ⊥ = grind (arith, same, other) in none) in omega (arith, is)
]

behind_bound : (x y z front n more slots bare : ℕ) → front + n ≤ more → y ≤ x + (front + slots + bare) → z ≤ y + n → z ≤ x + (more + slots + bare)
behind_bound x y z front n more slots bare sum first second = omega (arith, sum, first, second)

before_bound : (x y z front n more slots bare : ℕ) → front + n ≤ more → y ≤ x + n → z ≤ y + (front + slots + bare) → z ≤ x + (more + slots + bare)
before_bound x y z front n more slots bare sum first second = omega (arith, sum, first, second)

module _ (front segment : ℕ) (known : ℕ → List Placed) (sizes before mid now : List ℕ) (m n more further : ℕ) (lt : m < 2 + further) (sum : front + n ≤ more) where
  -- behind them
  pub parts_more : ReadsParts further front segment known sizes before mid → ReadsAtMost m n mid now → ReadsParts further more segment known sizes before now
  parts_more all h = record {
    each = λ i d there.
        let k = get_or (members_with further) i d in
        behind_bound (get_or before k 0) (get_or mid k 0) (get_or now k 0) front n more (64 * slot_count segment (get_or sizes k 0)) (segment * lacking (known k)) sum (all.each i d there) (at_most m n k mid now h);
    others = λ k above. h.others k (λ is. omega (arith, is, above, lt)) ∙ all.others k above;
  }

  -- before them
  pub more_parts : ReadsAtMost m n before mid → ReadsParts further front segment known sizes mid now → ReadsParts further more segment known sizes before now
  more_parts h all = record {
    each = λ i d there.
        let k = get_or (members_with further) i d in
        before_bound (get_or before k 0) (get_or mid k 0) (get_or now k 0) front n more (64 * slot_count segment (get_or sizes k 0)) (segment * lacking (known k)) sum (at_most m n k before mid h) (all.each i d there);
    others = λ k above. all.others k above ∙ h.others k (λ is. omega (arith, is, above, lt));
  }

-- The last batches, of rings whose buffers hold them

pub next_held : (on now : List RingState) (m : ℕ) → m < length on → ring_at now m ≡ ring_at on m → All (λ k. HoldsNewest (ring_at on k)) (members_on on) → HoldsNewest (ring_at now m)
next_held on now m lt same held = subst (λ (ring : RingState). HoldsNewest ring) (sym same) (of_each (λ k. HoldsNewest (ring_at on k)) (further_on on) held m (omega (arith, lt)))
