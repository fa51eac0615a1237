-- What calls that only read leave as it was.
use Rattle.std.proofs.Common.{◌≡◌, ℕ, List, sym, ◌∙◌, ap, subst, Option, Some, None, IfSome, get_or, length, ◌<◌, ◌+◌, inl, inr, [], ◌∷◌, ◌++◌, set, take, IfNone, arith, get_or-set_same, get_or-set_other, length-set, ◌≤◌, ◌-◌, ◌⊎◌, drop, Result, Err}
use Rattle.vdr_outside.specs.Disk.{Disk, Image, Durable, Unchanged, content}
use Rattle.vdr_directory.specs.Holds.{HoldsPlaced}
use Rattle.vdr_directory.specs.Order.{AreInOrder}
use Rattle.vdr_ring.specs.Rings.{RingState}
use Rattle.vdr_ring.specs.Rings as rings
use Rattle.vdr_ring.specs.Damage.{IsIntact}
use Rattle.vdr_ring.specs.Visits.{HasJudged}
use Rattle.vdr_directory.specs.Sequence.{Placed}
use Rattle.vdr_terms.specs.Needs.{slots_in}
use Rattle.vdr_outside.proofs.Moments.{size_read, unchanged_join, unchanged_now}
use Rattle.vdr_config.specs.Configuration.{Configuration}
use Rattle.vdr_config.specs.Sizes.{sizes_of}
use Rattle.vdr_directory.specs.Opening.{AreKnown, Refuses, HasFaultCause, slot_bytes}
use Rattle.vdr_terms.specs.Slots.{slot_count}
use Rattle.vdr_opening.specs.Media.{HasFront, members_with, IsMedium, IsMediumBy}
use Rattle.vdr_opening.specs.Refusals.{IsSameText, RefusesSegments, IsLegalBehind, RefusesFrom, RefusesMedium}
use Rattle.vdr_opening.specs.declared.text.Configured.{Configured}
use Rattle.vdr_opening.specs.Parts.{KnowsMedium, ReadsLegal, text_of, AreKnownTo, KeepsRings, HasPartCause, refusal_by}
use Rattle.std.specs.Prelude.{All, Any, IsErrOf}
use Rattle.std.proofs.lemmas.Bool.{cases_eq, cases_lt}
use Rattle.std.proofs.lemmas.List.{get_or_append_left, get_or_push, take-append-le, take_all}
use Rattle.vdr_media.proofs.Members.{any_at, numbers, of_all, rest_at}
use Rattle.vdr_opening.specs.Answers.{AreJudgedOn, further_on, members_on, no_ring, ring_at, HasOpenCause}
use Rattle.vdr_ring.specs.Openings.{IsRingOf}
use Rattle.vdr_outside.specs.Causes.{NoneFalls, Rose}
use Rattle.vdr_outside.specs.declared.fault.PartRefused.{PartRefused}
use Rattle.vdr_outside.specs.declared.fault.PartRefused.TheVariants.{Fault}
use Rattle.vdr_outside.specs.declared.fault.PartRefused.TheVariants as parts
use Rattle.vdr_outside.proofs.Counts.{none_falls_join, rose_after, sum_rose}
use Rattle.vdr_terms.proofs.Results.{same_err}
use Rattle.vdr_opening.specs.declared.refused.OpenRefused.{OpenRefused}
use Rattle.vdr_opening.specs.declared.refused.OpenRefused.TheVariants.{Damaged}
use Rattle.vdr_opening.specs.declared.refused.OpenRefused.TheVariants as refused
use Rattle.vdr_ring.proofs.Still.{knows_still, reads_still}

module _ {tells tells_images : Type 0} where
  pub same_content : (m : ℕ) (old new : Disk tells tells_images) → Unchanged old new → tells → content new.reads m ≡ content old.reads m
  same_content m old new same told = ap (λ (i : Image). content i m) (same.reads told)

  pub durable_still : (m : ℕ) (old new : Disk tells tells_images) → Unchanged old new → Durable m old → Durable m new
  durable_still m old new same durable = record {
    each = λ i now. durable.each i (unchanged_now old new same i now) ∙ ap (λ (l : Image). content l m) (sym (same.reads (new.shown (new.told i now)).0));
  }

  -- The slot that a ring has loaded was judged, and its medium reads as before.
  pub judged_beside : (ring : RingState) (before now : Disk tells tells_images) → (tells → content now.reads ring.medium ≡ content before.reads ring.medium) → HasJudged ring before → HasJudged ring now
  judged_beside ring before now same judged slot at told =
      subst (λ (l : List ℕ). (ring.buffer ≡ slot_bytes ring.segment slot l) × IsIntact (slot_bytes ring.segment slot l)) (sym (same told)) (judged slot at told)

  pub judged_still : (ring : RingState) (before now : Disk tells tells_images) → Unchanged before now → HasJudged ring before → HasJudged ring now
  judged_still ring before now same = judged_beside ring before now (same_content ring.medium before now same)

-- The segments of a medium, as its ring knows them or as it is refused.

-- the text is that of the medium before, where there is one
pub same_text : (before : Option Configured) (now : Configured) → IfSome before (λ first. now ≡ first) → IsSameText (text_of before) now.text.items
same_text None now same = tt
same_text (Some first) now same = ap (λ (c : Configured). c.text.items) same

module _ {tells tells_images : Type 0} (m : ℕ) (c : Configuration) (text : List ℕ) (old new : Disk tells tells_images) (same : Unchanged old new) (told : tells) (front : HasFront m c text (content old.reads m)) where
  counts : slots_in (sizes_of c) (get_or new.sizes m 0) ≡ slot_count c.segment (length (content old.reads m))
  counts = ap (λ (n : ℕ). slot_count c.segment n) (ap (λ (s : List ℕ). get_or s m 0) same.sizes ∙ sym (size_read old m told))

  pub refuses_segments : (before : Option (List ℕ)) (offset : ℕ) → IsSameText before text → Refuses c.segment (slots_in (sizes_of c) (get_or new.sizes m 0)) (content new.reads m) offset → RefusesSegments m before (content old.reads m) offset
  refuses_segments before offset same_text refuses = record {
    config = c;
    text = text;
    front = front;
    same = same_text;
    refuses = subst (λ (n : ℕ). Refuses c.segment n (content old.reads m) offset) counts
        (subst (λ (l : List ℕ). Refuses c.segment (slots_in (sizes_of c) (get_or new.sizes m 0)) l offset) (same_content m old new same told) refuses);
  }

  pub knows_medium : (ring : RingState) (known : List Placed) → ring.medium ≡ m → ring.segment ≡ c.segment → ring.slots ≡ slots_in (sizes_of c) (get_or old.sizes m 0) → rings.Knows ring known new → KnowsMedium m c text known ring new
  knows_medium ring known medium_is segment_is slots_are knows =
      let here : AreKnown ring.segment ring.slots (content new.reads m) known = subst (λ (k : ℕ). AreKnown ring.segment ring.slots (content new.reads k) known) medium_is (knows.are told) in
      let sized : AreKnown c.segment ring.slots (content new.reads m) known = subst (λ (n : ℕ). AreKnown n ring.slots (content new.reads m) known) segment_is here in
      let whole : get_or old.sizes m 0 ≡ length (content new.reads m) = sym (size_read old m told) ∙ ap length (sym (same_content m old new same told)) in
      record {
        legal = record {
          front = subst (λ (l : List ℕ). HasFront m c text l) (sym (same_content m old new same told)) front;
          segments = record {
            are = subst (λ (n : ℕ). AreKnown c.segment n (content new.reads m) known) (slots_are ∙ ap (λ (n : ℕ). slot_count c.segment n) whole) sized;
            order = knows.order;
          };
        };
        knows = knows;
      }

-- What the ring reads where its medium is legal, from what it reads of the medium's slots.
pub reads_legal : {tells tells_images : Type 0} (m : ℕ) (c : Configuration) (text : List ℕ) (ring : RingState) (old new : Disk tells tells_images) → Unchanged old new → tells
    → ((placed : List Placed) → HoldsPlaced c.segment (slots_in (sizes_of c) (get_or old.sizes m 0)) placed (content old.reads m) → AreInOrder placed → rings.Reads ring placed new) → ReadsLegal m c text ring new
reads_legal m c text ring old new same told reads placed legal =
    let there : HoldsPlaced c.segment (slot_count c.segment (length (content old.reads m))) placed (content old.reads m) =
    subst (λ (l : List ℕ). HoldsPlaced c.segment (slot_count c.segment (length l)) placed l) (same_content m old new same told) legal.segments.holds in
    reads placed (subst (λ (n : ℕ). HoldsPlaced c.segment (slot_count c.segment n) placed (content old.reads m)) (size_read old m told) there) legal.segments.order

-- The rings of media, one after another.

pub take_front : (n : ℕ) (xs ys : List RingState) → length xs ≡ n → take n (xs ++ ys) ≡ xs
take_front n xs ys size = take-append-le n xs ys (omega (arith, size)) ∙ take_all n xs (omega (arith, size))

-- one more ring
pub each_more : (P : ℕ → RingState → Type 0) (on : List RingState) (ring : RingState) (m : ℕ) → length on ≡ m → ((k : ℕ) → k < m → P k (ring_at on k)) → P m ring → (k : ℕ) → k < m + 1 → P k (ring_at (on ++ ring ∷ []) k)
each_more P on ring m size each here k lt = elim (cases_eq k m) [
  | inl same ↦ subst (λ (j : ℕ). P j (ring_at (on ++ ring ∷ []) j)) (sym same) (subst (λ (r : RingState). P m r) (sym (get_or_push on ring no_ring m size)) here)
  | inr other ↦ let below : k < m = grind (arith, lt, other) in subst (λ (r : RingState). P k r) (sym (get_or_append_left on (ring ∷ []) no_ring k (omega (arith, below, size)))) (each k below)
]

-- what holds with the configuration of the media before holds with that of this one, which is the same
pub carry : (P : Configured → ℕ → Type 0) (before : Option Configured) (now : Configured) (m : ℕ) → IfNone before (m ≡ 0) → IfSome before (λ first. now ≡ first) → IfSome before (λ first. (k : ℕ) → k < m → P first k) → (k : ℕ) → k < m → P now k
carry P None now m none same each k lt = absurd (omega (arith, none, lt))
carry P (Some first) now m none same each k lt = subst (λ (c : Configured). P c k) (sym same) (each k lt)

-- One of them is read

each_set : (P : ℕ → RingState → Type 0) (on : List RingState) (m : ℕ) (new : RingState) → m < length on → ((k : ℕ) → P k (ring_at on k)) → P m new → (k : ℕ) → P k (ring_at (set on m new) k)
each_set P on m new there each here k = elim (cases_eq k m) [
  | inl at ↦ subst (λ (j : ℕ). P j (ring_at (set on m new) j)) (sym at) (subst (P m) (sym (get_or-set_same on m new no_ring there)) here)
  | inr other ↦ subst (P k) (sym (get_or-set_other on m k new no_ring other)) (each k)
]

ring_of : (c : Configuration) (sizes : List ℕ) (m : ℕ) (ring : RingState) (buffer : List ℕ) (loaded : Option ℕ) → IsRingOf c sizes m ring → IsRingOf c sizes m (record ring { buffer = buffer; loaded = loaded })
ring_of c sizes m ring buffer loaded is = record { medium = is.medium; segment = is.segment; slots = is.slots; seconds = is.seconds; room = record { there = is.room.there; room = is.room.room } }

module _ {tells tells_images : Type 0} where
  pub keeps_one : (on : List RingState) (m : ℕ) (ring new : RingState) (before after : Disk tells tells_images) → m < length on → ring ≡ ring_at on m → new ≡ record ring { buffer = new.buffer; loaded = new.loaded }
      → ((placed : List Placed) → rings.Reads ring placed before → rings.Reads new placed after) → ((known : List Placed) → rings.Knows ring known before → rings.Knows new known after)
      → (HasJudged ring before → HasJudged new after) → Unchanged before after → KeepsRings on (set on m new) before after
  keeps_one on m ring new before after there is same reads knows judged unchanged = record {
    of_media = λ c sizes are. record {
      two = let same = length-set on m new in let two = are.two in omega (arith, same, two);
      each = subst (λ (n : ℕ). All (λ k. IsRingOf c sizes k (ring_at (set on m new) k)) (members_with (n - 2))) (sym (length-set on m new)) (λ i d lt. each_set (λ k r. IsRingOf c sizes k (ring_at on k) → IsRingOf c sizes k r) on m new there (λ k was. was)
          (λ was. subst (IsRingOf c sizes m) (sym same) (ring_of c sizes m ring new.buffer new.loaded (subst (IsRingOf c sizes m) (sym is) was))) (get_or (members_on on) i d) (are.each i d lt));
    };
    size = length-set on m new;
    reads = each_set (λ k r. (placed : List Placed) → rings.Reads (ring_at on k) placed before → rings.Reads r placed after) on m new there (λ k placed. reads_still (ring_at on k) placed before after unchanged)
        (λ placed r. reads placed (subst (λ (x : RingState). rings.Reads x placed before) (sym is) r));
    knows = each_set (λ k r. (known : List Placed) → rings.Knows (ring_at on k) known before → rings.Knows r known after) on m new there (λ k known. knows_still (ring_at on k) known before after unchanged)
        (λ known r. knows known (subst (λ (x : RingState). rings.Knows x known before) (sym is) r));
    judged = each_set (λ k r. HasJudged (ring_at on k) before → HasJudged r after) on m new there (λ k. judged_still (ring_at on k) before after unchanged)
        (λ j. judged (subst (λ (x : RingState). HasJudged x before) (sym is) j));
    unchanged = unchanged;
  }

  pub keeps_join : (on mid new : List RingState) (a b c : Disk tells tells_images) → KeepsRings on mid a b → KeepsRings mid new b c → KeepsRings on new a c
  keeps_join on mid new a b c x y = record {
    size = y.size ∙ x.size;
    of_media = λ config sizes are. y.of_media config sizes (x.of_media config sizes are);
    reads = λ m placed r. y.reads m placed (x.reads m placed r);
    knows = λ m known r. y.knows m known (x.knows m known r);
    judged = λ m j. y.judged m (x.judged m j);
    unchanged = unchanged_join a b c x.unchanged y.unchanged;
  }

  pub known_still : (on new : List RingState) (known : ℕ → List Placed) (before after : Disk tells tells_images) → KeepsRings on new before after → AreKnownTo on known before → AreKnownTo new known after
  known_still on new known before after kept knows =
      subst (λ (n : ℕ). All (λ m. rings.Knows (ring_at new m) (known m) after) (members_with (n - 2))) (sym kept.size)
      (λ i d lt. kept.knows (get_or (members_on on) i d) (known (get_or (members_on on) i d)) (knows i d lt))

  pub judged_on : (on new : List RingState) (before after : Disk tells tells_images) → KeepsRings on new before after → AreJudgedOn on before → AreJudgedOn new after
  judged_on on new before after kept judged =
      subst (λ (n : ℕ). All (λ m. HasJudged (ring_at new m) after) (members_with (n - 2))) (sym kept.size) (λ i d lt. kept.judged (get_or (members_on on) i d) (judged i d lt))

  pub judged_lent : (on lent : List RingState) (before after : Disk tells tells_images) → lent ≡ on → Unchanged before after → AreJudgedOn on before → AreJudgedOn lent after
  judged_lent on lent before after is still judged =
      subst (λ (l : List RingState). AreJudgedOn l after) (sym is) (λ i d lt. judged_still (ring_at on (get_or (members_on on) i d)) before after still (judged i d lt))

-- One medium after another is read, and each is legal behind those before it or refused.

module _ (before : Option (List ℕ)) (image : Image) (m offset n : ℕ) where
  pub refused_at : (k : ℕ) → k < 2 + n → m ≡ k → RefusesMedium k before (content image k) offset → RefusesFrom before (drop k (members_with n)) image m offset
  refused_at k lt is refuses = subst (λ (ks : List ℕ). RefusesFrom before ks image m offset) (sym (rest_at (numbers n) k lt)) (inl (is, refuses))

  pub legal_at : (k : ℕ) (text : List ℕ) → k < 2 + n → IsLegalBehind k before text (content image k) → RefusesFrom (Some text) (drop (k + 1) (members_with n)) image m offset → RefusesFrom before (drop k (members_with n)) image m offset
  legal_at k text lt legal refuses = subst (λ (ks : List ℕ). RefusesFrom before ks image m offset) (sym (rest_at (numbers n) k lt)) (inr (text, legal, refuses))

-- What a ring knows, and what it reads where its medium is legal, stays where nothing is written.
module _ {tells tells_images : Type 0} (m : ℕ) (c : Configuration) (text : List ℕ) (ring : RingState) (old new : Disk tells tells_images) (same : Unchanged old new) (told : tells) where
  pub medium_still : (known : List Placed) → KnowsMedium m c text known ring old → KnowsMedium m c text known ring new
  medium_still known r = record {
    legal = subst (IsMediumBy m c text known) (sym (same_content m old new same told)) r.legal;
    knows = knows_still ring known old new same r.knows;
  }

  pub legal_still : ReadsLegal m c text ring old → ReadsLegal m c text ring new
  legal_still reads placed legal = reads_still ring placed old new same (reads placed (subst (IsMedium m c text placed) (same_content m old new same told) legal))

-- The media with the configuration of them all

-- what is said of each
pub each_read : (P : Configured → ℕ → Type 0) (before : Option Configured) (now : Configured) (m n : ℕ) → before ≡ Some now → 2 + n ≤ m → IfSome before (λ first. (k : ℕ) → k < m → P first k) → All (P now) (members_with n)
each_read P before now m n is all each =
    let known = subst (λ (o : Option Configured). IfSome o (λ first. (k : ℕ) → k < m → P first k)) is each in
    of_all (P now) n (λ k lt. known k (omega (arith, all, lt)))

-- what is known of each by its number
module _ (P : ℕ → List Placed → Type 0) (m : ℕ) (each : (k : ℕ) → k < m → (known : List Placed) × P k known) where
  pick : (k : ℕ) → (k < m) ⊎ (m ≤ k) → List Placed
  pick k (inl lt) = (each k lt).0
  pick k (inr above) = []

  chosen : ℕ → List Placed
  chosen k = pick k (cases_lt k m)

  picked : (k : ℕ) (side : (k < m) ⊎ (m ≤ k)) → k < m → P k (pick k side)
  unfolding pick
  picked k (inl below) lt = (each k below).1
  picked k (inr above) lt = absurd (omega (arith, above, lt))

  chosen_is : (k : ℕ) → k < m → P k (chosen k)
  unfolding chosen pick
  chosen_is k lt = picked k (cases_lt k m) lt

pub all_known : (P : Configured → ℕ → List Placed → Type 0) (before : Option Configured) (now : Configured) (m n : ℕ) → before ≡ Some now → 2 + n ≤ m → IfSome before (λ first. (k : ℕ) → k < m → (known : List Placed) × P first k known)
    → (known : ℕ → List Placed) × All (λ k. P now k (known k)) (members_with n)
all_known P before now m n is all each =
    let each_is = subst (λ (o : Option Configured). IfSome o (λ first. (k : ℕ) → k < m → (known : List Placed) × P first k known)) is each in
    (chosen (P now) m each_is, of_all (λ k. P now k (chosen (P now) m each_is k)) n (λ k lt. chosen_is (P now) m each_is k (omega (arith, all, lt))))

-- The media that so many rings are on.

pub from_rings : (P : List ℕ → Type 0) (rings : List RingState) (n : ℕ) → length rings ≡ 2 + n → P (members_on rings) → P (members_with n)
from_rings P rings n size held = let is : further_on rings ≡ n = omega (arith, size) in subst (λ (k : ℕ). P (members_with k)) is held

pub to_rings : (P : List ℕ → Type 0) (rings : List RingState) (n : ℕ) → length rings ≡ 2 + n → P (members_with n) → P (members_on rings)
to_rings P rings n size held = let is : n ≡ further_on rings = omega (arith, size) in subst (λ (k : ℕ). P (members_with k)) is held

-- Causes of a fault over the calls on the media.

-- a call on one of the media
pub part_by : {T : Type 0} (n m k : ℕ) (a b : List ℕ) (r : Result T PartRefused) → k ≡ m → m < 2 + n → HasFaultCause k a b r → HasPartCause (members_with n) a b r
part_by n m k a b r is lt h = record {
  later = h.later;
  rose = λ fault. any_at (λ j. Rose (get_or a j 0) (get_or b j 0)) n m lt (subst (λ j. Rose (get_or a j 0) (get_or b j 0)) is (h.rose fault));
}

-- the same media, by another count that is the same
pub part_moved : {T : Type 0} (k n : ℕ) (a b : List ℕ) (r : Result T PartRefused) → k ≡ n → HasPartCause (members_with (k - 2)) a b r → HasPartCause (members_with (n - 2)) a b r
part_moved k n a b r is h = subst (λ (j : ℕ). HasPartCause (members_with (j - 2)) a b r) is h

-- an error, after calls that succeeded
pub part_passed : {T U : Type 0} {ms : List ℕ} (a b c : List ℕ) (e : PartRefused) → NoneFalls a b → HasPartCause {T = T} ms b c (Err e) → HasPartCause {T = U} ms a c (Err e)
part_passed a b c e earlier h = record {
  later = none_falls_join a b c earlier h.later;
  rose = λ fault.
      let rose = h.rose (same_err e Fault fault) in
      (rose.0, rose.1, rose.2, rose.3, rose_after (get_or a rose.1 0) (get_or b rose.1 0) (get_or c rose.1 0) (earlier.none_falls rose.1) rose.4);
}

-- Causes of an answer of opening

damaged_part : (e : PartRefused) (m offset : ℕ) → refusal_by e ≡ Damaged m offset → e ≡ parts.Damaged m offset
damaged_part parts.NoMemory m offset is = cc
damaged_part (parts.Damaged k at) m offset is = cc
damaged_part parts.Fault m offset is = cc

fault_part : (e : PartRefused) → refusal_by e ≡ refused.Fault → e ≡ parts.Fault
fault_part parts.NoMemory is = cc
fault_part (parts.Damaged k at) is = cc
fault_part parts.Fault is = cc

error_of : {T E : Type 0} (x y : E) → ◌≡◌ {A = Result T E} (Err x) (Err y) → x ≡ y
error_of x y is = cc

-- an answer where a count of one of the media rose, or that is no fault
pub open_cause : {T : Type 0} {ms : List ℕ} (a c : List ℕ) (r : Result T OpenRefused) → NoneFalls a c → (IsErrOf r refused.Fault → Any (λ m. Rose (get_or a m 0) (get_or c m 0)) ms) → HasOpenCause ms a c r
open_cause a c r later rose = record { later = later; by_medium = rose; in_all = λ is. let one = rose is in sum_rose a c one.1 later.same_media later.none_falls one.4 }

pub open_failed : {T U : Type 0} {ms : List ℕ} (a b c : List ℕ) (e : PartRefused) → NoneFalls a b → HasPartCause {T = T} ms b c (Err e) → HasOpenCause {T = U} ms a c (Err (refusal_by e))
open_failed {T} {U} {ms} a b c e earlier h =
    let whole = part_passed {T = T} {U = T} {ms = ms} a b c e earlier h in
    open_cause a c (Err (refusal_by e)) whole.later (λ fault. whole.rose (ap (λ (x : PartRefused). let y : Result T PartRefused = Err x in y) (fault_part e (error_of (refusal_by e) refused.Fault fault))))

-- the part that was refused, from the answer that it was made into
pub passed_damaged : {T U : Type 0} (e : PartRefused) (x : OpenRefused) (m offset : ℕ) → x ≡ refusal_by e → ◌≡◌ {A = Result T OpenRefused} (Err x) (Err (Damaged m offset)) → ◌≡◌ {A = Result U PartRefused} (Err e) (Err (parts.Damaged m offset))
passed_damaged e x m offset is made = let named : e ≡ parts.Damaged m offset = damaged_part e m offset (sym is ∙ error_of x (Damaged m offset) made) in cc
