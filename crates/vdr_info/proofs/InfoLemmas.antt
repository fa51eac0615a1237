-- What is told of media, from what each call says.
use Rattle.std.proofs.Common.{◌≡◌, ◌≤◌, ◌<◌, ◌+◌, ◌*◌, ℕ, ℤ, zero, suc, Bool, true, false, List, [], ◌∷◌, length, get_or, Option, Some, None, Result, Ok, Err, refl, sym, ap, ◌∙◌, subst, arith, add-one}
use Rattle.std.specs.Prelude.{◌↔◌, All, IsTrue, OnOk, if◌then◌else◌, option_map, slice_get}
use Rattle.std.proofs.lemmas.List.Elements.{All-head}
use Rattle.std.proofs.lemmas.Option.{none-some, same_Some}
use Rattle.vdr_terms.specs.Needs.{slots_in}
use Rattle.vdr_terms.specs.Records.{Record, last, second}
use Rattle.vdr_terms.specs.Slots.{slot_count}
use Rattle.vdr_outside.specs.Causes.{HasCauseOn, NoneFalls, Rose}
use Rattle.vdr_outside.specs.Disk.{Disk, Image, Unchanged, content}
use Rattle.vdr_outside.proofs.Counts.{none_falls_join, rose_after}
use Rattle.vdr_outside.proofs.Moments.{size_read, unchanged_none}
use Rattle.vdr_config.specs.Configuration.{Configuration}
use Rattle.vdr_config.specs.Sizes.{sizes_of}
use Rattle.vdr_segment.specs.declared.area.Area.{Area}
use Rattle.vdr_index.specs.declared.known.Known.{Known}
use Rattle.vdr_directory.specs.declared.entry.Entry.{Entry}
use Rattle.vdr_directory.specs.declared.newest.Ending.{Ending}
use Rattle.vdr_directory.specs.Costs.{ReadsAtMost, lacking}
use Rattle.vdr_directory.specs.Entries.{Describe}
use Rattle.vdr_directory.specs.Knowns.{AreInOrderBy}
use Rattle.vdr_directory.specs.Opening.{AreKnown, front_bytes}
use Rattle.vdr_directory.specs.Sequence.{Placed, all_records}
use Rattle.vdr_directory.specs.Telling.{IsKnownAsBy}
use Rattle.vdr_media.specs.Medium.{HoldsText}
use Rattle.vdr_media.proofs.Rooms.{text_fits}
use Rattle.vdr_media.proofs.Two.{all_two}
use Rattle.vdr_media.proofs.Members.{any_at, of_each}
use Rattle.vdr_opening.specs.Costs.{ReadsParts, ReadsToOpen, opening_bytes}
use Rattle.vdr_opening.specs.Media.{members_with, Contents, HoldsParts, IsMediumBy}
use Rattle.vdr_opening.proofs.ContentsHeld.{one_text}
use Rattle.vdr_ring.specs.Openings.{IsRingOf}
use Rattle.vdr_ring.specs.Rings.{RingState}
use Rattle.vdr_opening.specs.Answers.{HasOpenCause, RefusesAsRead}
use Rattle.vdr_opening.specs.Parts.{HasRoomBefore, refusal_by}
use Rattle.vdr_opening.specs.declared.refused.OpenRefused.{OpenRefused}
use Rattle.vdr_opening.specs.declared.refused.OpenRefused.TheVariants.{NotFormatted}
use Rattle.vdr_outside.specs.declared.fault.PartRefused.{PartRefused}
use Rattle.vdr_outside.specs.declared.fault.PartRefused.TheVariants as parts
use Rattle.vdr_opening.proofs.Rings.{open_cause}
use Rattle.vdr_terms.proofs.Results.{same_err}
use Rattle.vdr_info.specs.Costs.{ReadsTwice}
use Rattle.vdr_info.specs.Helds.{TellsFirst, TellsHeld, begin_of, stand_of}
use Rattle.vdr_info.specs.Infos.{HasBothCause}
use Rattle.vdr_info.specs.Used.{AreUsed, IsUsed}
use Rattle.vdr_info.specs.declared.held.Held.{Held}
use Rattle.vdr_info.specs.declared.held.Stand.{Stand}

-- Where the oldest segment begins, by what an index keeps of it.
abbrev pub begin_in : Option Known → Option Stand
begin_in known = option_map (λ k. begin_of k.first k.summary) known

pub first_known : (p : Placed) (ps : List Placed) (known : Option Known) → IsKnownAsBy p known → TellsFirst (p ∷ ps) (begin_in known)
first_known p ps None none = none
first_known p ps (Some k) h = (k.summary, h.summary, ap (λ (n : ℕ). begin_of n k.summary) h.first)

pub first_told : (known : List Placed) (opened : List Entry) (index : List (Option Known)) → Describe known opened → All (λ p. IsKnownAsBy p (get_or index p.slot None)) known
    → (e : Entry) → slice_get opened 0 ≡ Some e → TellsFirst known (begin_in (get_or index e.slot None))
first_told [] [] index d kept e is = absurd (none-some e is)
first_told [] (f ∷ fs) index d kept e is = absurd d
first_told (p ∷ ps) [] index d kept e is = absurd d
first_told (p ∷ ps) (f ∷ fs) index d kept e is =
    let same : f ≡ e = same_Some f e is in
    let slot : p.slot ≡ e.slot = sym d.0.slot ∙ ap (λ (x : Entry). x.slot) same in
    first_known p ps (get_or index e.slot None)
    (subst (λ (n : ℕ). IsKnownAsBy p (get_or index n None)) slot (All-head (λ p. IsKnownAsBy p (get_or index p.slot None)) p ps kept))

-- None is told where there is none.
pub first_of_none : (known : List Placed) (opened : List Entry) → Describe known opened → slice_get opened 0 ≡ None → TellsFirst known None
first_of_none [] [] d is = refl
first_of_none [] (f ∷ fs) d is = refl
first_of_none (p ∷ ps) [] d is = absurd d
first_of_none (p ∷ ps) (f ∷ fs) d is = absurd (none-some f (sym is))

-- As many are told of as there are.
pub as_many : (known : List Placed) (opened : List Entry) → Describe known opened → length opened ≡ length known
as_many [] [] d = refl
as_many [] (e ∷ es) d = absurd d
as_many (p ∷ ps) [] d = absurd d
as_many (p ∷ ps) (e ∷ es) d = ap suc (as_many ps es d.1)

-- The last record, by what is kept of it.
abbrev stand_from : ℕ × ℕ × ℤ → Stand
stand_from x = record { place = x.0; utc = x.2; second = second x.1 }

abbrev pub stand_in : Ending → Stand
stand_in e = record { place = e.place; utc = e.utc; second = second e.tick }

both_maps : (o : Option Ending) (r : Option Record) → option_map {U = ℕ × ℕ × ℤ} (λ e. (e.place, e.tick, e.utc)) o ≡ option_map {U = ℕ × ℕ × ℤ} (λ r. (r.place, r.tick, r.utc)) r → option_map stand_in o ≡ option_map stand_of r
both_maps None None is = refl
both_maps None (Some r) is = absurd (none-some _ is)
both_maps (Some e) None is = absurd (none-some _ (sym is))
both_maps (Some e) (Some r) is = ap (λ (x : Option (ℕ × ℕ × ℤ)). option_map stand_from x) is

pub last_stands : (known : List Placed) (o : Option Ending) → option_map {U = ℕ × ℕ × ℤ} (λ e. (e.place, e.tick, e.utc)) o ≡ option_map {U = ℕ × ℕ × ℤ} (λ r. (r.place, r.tick, r.utc)) (last (all_records known))
    → option_map stand_in o ≡ option_map stand_of (last (all_records known))
last_stands known o is = both_maps o (last (all_records known)) is

-- ---- the segments of a medium, as opening knows them

-- One number is another's.
known_at : (known : List Placed) (s t n k : ℕ) (b c : List ℕ) → s ≡ t → n ≡ k → b ≡ c → AreKnown s n b known → AreKnown t k c known
known_at known s t n k b c same many bytes are =
    subst (λ (y : List ℕ). AreKnown t k y known) bytes (subst (λ (y : ℕ). AreKnown t y b known) many (subst (λ (y : ℕ). AreKnown y n b known) same are))

module _ {tells tells_images : Type 0} (old now : Disk tells tells_images) (same : Unchanged old now) (t : tells) (x : Contents) (holds : HoldsParts old.reads x) (c : Configuration) (is : c ≡ x.config) where
  abbrev by_number : ℕ → Type 0
  by_number k = IsMediumBy k x.config x.text (x.placed k) (content old.reads k)

  its : (m : ℕ) → m < 2 → by_number m
  its m lt = of_each by_number x.further holds.media m (omega (arith, lt))

  module _ (m : ℕ) (lt : m < 2) (area : Area) (medium : area.medium ≡ m) (segment : area.segment ≡ c.segment) (size : ℕ) (slots : area.slots ≡ slots_in (sizes_of c) size) (size_is : size ≡ get_or old.sizes m 0) where
    pub segment_is : area.segment ≡ x.config.segment
    segment_is = segment ∙ ap (λ (d : Configuration). d.segment) is

    pub slots_are : area.slots ≡ slot_count x.config.segment (get_or old.sizes m 0)
    slots_are = slots ∙ ap (λ (d : Configuration). slot_count d.segment size) is ∙ ap (λ (n : ℕ). slot_count x.config.segment n) size_is

    pub known_here : AreKnown area.segment area.slots (content now.reads area.medium) (x.placed m)
    known_here = known_at (x.placed m) x.config.segment area.segment (slot_count x.config.segment (length (content old.reads m))) area.slots (content old.reads m) (content now.reads area.medium)
        (sym segment_is) (ap (λ (n : ℕ). slot_count x.config.segment n) (size_read old m t) ∙ sym slots_are)
        (ap (λ (i : Image). content i m) (sym (same.reads t)) ∙ ap (λ (k : ℕ). content now.reads k) (sym medium))
        (its m lt).segments.are

    pub order_here : AreInOrderBy (x.placed m)
    order_here = (its m lt).segments.order

    pub held_here : (h : Held) → TellsHeld area.medium area.segment area.slots (x.placed m) h → TellsHeld m x.config.segment (slot_count x.config.segment (get_or old.sizes m 0)) (x.placed m) h
    held_here h told = record {
      medium = told.medium ∙ medium;
      segment_is = told.segment_is ∙ segment_is;
      slots_are = told.slots_are ∙ slots_are;
      used = told.used;
      first = told.first;
      last_is = told.last_is;
    }

    pub bytes_here : (before after : List ℕ) → ReadsAtMost area.medium (1 + 64 * area.slots + area.segment * lacking (x.placed m)) before after
        → ReadsAtMost m (1 + 64 * slot_count x.config.segment (get_or old.sizes m 0) + x.config.segment * lacking (x.placed m)) before after
    bytes_here before after h =
        subst (λ (k : ℕ). ReadsAtMost k (1 + 64 * slot_count x.config.segment (get_or old.sizes m 0) + x.config.segment * lacking (x.placed m)) before after) medium
        (subst (λ (n : ℕ). ReadsAtMost area.medium n before after) (λ i. 1 + 64 * slots_are i + segment_is i * lacking (x.placed m)) h)

  -- The text that a medium holds.
  pub text_here : (text : List ℕ) → length text ≤ 16380 → HoldsText text (content now.reads 0) → text ≡ x.text
  text_here text short h =
      let front = (its 0 (omega arith)).front.configured in
      one_text text x.text (content old.reads 0) (subst (λ (i : Image). HoldsText text (content i 0)) (same.reads t) h) front.holds_text short (text_fits x.text x.config front.reads)

  pub text_there : ((text : List ℕ) → length text ≤ 16380 → HoldsText text (content now.reads 0) → ⊥) → ⊥
  text_there none =
      let front = (its 0 (omega arith)).front.configured in
      none x.text (text_fits x.text x.config front.reads) (subst (λ (i : Image). HoldsText x.text (content i 0)) (sym (same.reads t)) front.holds_text)

-- ---- what was read

behind_two : (a b c d n : ℕ) → b ≤ a + n → c ≡ b → d ≤ c + 16384 → d ≤ a + (16384 + n)
behind_two a b c d n first same last = omega (arith, first, same, last)

between_two : (a b c d n : ℕ) → b ≡ a → c ≤ b + n → d ≡ c → d ≤ a + (16384 + n)
between_two a b c d n first next last = omega (arith, first, next, last)

one_sum : (slots bare : ℕ) → 16384 + (1 + slots + bare) ≡ 16385 + slots + bare
one_sum slots bare = omega arith

module _ (segment : ℕ) (known : ℕ → List Placed) (sizes a b c d : List ℕ) where
  abbrev of_slots : ℕ → ℕ
  of_slots m = 1 + 64 * slot_count segment (get_or sizes m 0) + segment * lacking (known m)

  pub parts_read : ReadsAtMost 0 (of_slots 0) a b → ReadsAtMost 1 (of_slots 1) b c → ReadsAtMost 0 16384 c d → ReadsParts 0 16385 segment known sizes a d
  parts_read first next text = record {
    each = all_two (λ m. get_or d m 0 ≤ get_or a m 0 + opening_bytes 16385 segment (slot_count segment (get_or sizes m 0)) (known m))
        (subst (λ (n : ℕ). get_or d 0 0 ≤ get_or a 0 0 + n) (one_sum (64 * slot_count segment (get_or sizes 0 0)) (segment * lacking (known 0)))
        (behind_two (get_or a 0 0) (get_or b 0 0) (get_or c 0 0) (get_or d 0 0) (of_slots 0) first.own (next.others 0 (λ e. omega (arith, e))) text.own))
        (subst (λ (n : ℕ). get_or d 1 0 ≤ get_or a 1 0 + n) (one_sum (64 * slot_count segment (get_or sizes 1 0)) (segment * lacking (known 1)))
        (between_two (get_or a 1 0) (get_or b 1 0) (get_or c 1 0) (get_or d 1 0) (of_slots 1) (first.others 1 (λ e. omega (arith, e))) next.own (text.others 1 (λ e. omega (arith, e)))));
    others = λ k above. text.others k (λ e. omega (arith, e, above)) ∙ next.others k (λ e. omega (arith, e, above)) ∙ first.others k (λ e. omega (arith, e, above));
  }

twice : (x y z slots bare : ℕ) → y ≤ x + (32768 + slots + bare) → z ≤ y + (16385 + slots + bare) → z ≤ x + 2 * (32768 + slots + bare)
twice x y z slots bare first next = omega (arith, first, next)

pub reads_twice : (x : Contents) (sizes a b c : List ℕ) → ReadsToOpen x sizes a b → ReadsParts x.further 16385 x.config.segment x.placed sizes b c → ReadsTwice x sizes a c
reads_twice x sizes a b c first next = record {
  each = λ i d there.
      let m = get_or (members_with x.further) i d in
      twice (get_or a m 0) (get_or b m 0) (get_or c m 0) (64 * slot_count x.config.segment (get_or sizes m 0)) (x.config.segment * lacking (x.placed m)) (first.each i d there) (next.each i d there);
  others = λ k above. next.others k above ∙ first.others k above;
}

-- ---- the used slots

pub used_more : (segment n used : ℕ) (bytes : List ℕ) (here : Bool) → AreUsed segment bytes n used → IsTrue here ↔ IsUsed (front_bytes segment n bytes) → AreUsed segment bytes (n + 1) (if here then used + 1 else used)
used_more segment n used bytes here before is = subst (λ (k : ℕ). AreUsed segment bytes k (if here then used + 1 else used)) (sym (add-one n)) (here, is, used, before, refl)

pub few_more : (here : Bool) (used slot : ℕ) → used ≤ slot → (if here then used + 1 else used) ≤ slot + 1
few_more true used slot few = omega (arith, few)
few_more false used slot few = omega (arith, few)

-- ---- the media, one after another

pub upto : (P : ℕ → Type 0) (n : ℕ) → ((k : ℕ) → k < n → P k) → P n → (k : ℕ) → k < n + 1 → P k
upto P zero before here zero lt = here
upto P zero before here (suc k) lt = absurd (omega (arith, lt))
upto P (suc n) before here zero lt = before zero (omega arith)
upto P (suc n) before here (suc k) lt = upto (λ j. P (suc j)) n (λ j lt. before (suc j) (omega (arith, lt))) here k (omega (arith, lt))

-- A call on one of them that failed, after calls that did not lower a count.
pub both_cause : {T U E F : Type 0} (m : ℕ) (a b c : List ℕ) (e : E) (f : F) → m < 2 → NoneFalls a b → HasCauseOn {T = T} m b c (Err e) → HasBothCause {T = U} a c (Err f)
both_cause m a b c e f lt earlier h = record {
  later = none_falls_join a b c earlier h.later;
  rose = any_at (λ k. Rose (get_or a k 0) (get_or c k 0)) 0 m lt (rose_after (get_or a m 0) (get_or b m 0) (get_or c m 0) (earlier.none_falls m) h.failed);
}

pub both_none : {T E : Type 0} (a c : List ℕ) (x : T) → NoneFalls a c → HasBothCause {E = E} a c (Ok x)
both_none a c x later = record { later = later; rose = tt }

-- There is one such number of used slots.
one_test : (P : Type 0) (a b : Bool) → IsTrue a ↔ P → IsTrue b ↔ P → a ≡ b
one_test P true true x y = refl
one_test P false false x y = refl
one_test P true false x y = sym (y.1 (x.0 refl))
one_test P false true x y = x.1 (y.0 refl)

pub one_used : (segment : ℕ) (bytes : List ℕ) (n a b : ℕ) → AreUsed segment bytes n a → AreUsed segment bytes n b → a ≡ b
one_used segment bytes zero a b h k = h ∙ sym k
one_used segment bytes (suc n) a b h k =
    let here : h.0 ≡ k.0 = one_test (IsUsed (front_bytes segment n bytes)) h.0 k.0 h.1 k.1 in
    let before : h.2 ≡ k.2 = one_used segment bytes n h.2 k.2 h.3 k.3 in
    h.4 ∙ (λ i. if here i then before i + 1 else before i) ∙ sym k.4

-- What was not touched.
pub unchanged_still : {tells tells_images : Type 0} (d : Disk tells tells_images) → Unchanged d d
unchanged_still d = unchanged_none d

-- A medium of a ring has room for what stands before its slots.
pub room_before : (c : Configuration) (sizes : List ℕ) (m : ℕ) (ring : RingState) → IsRingOf c sizes m ring → HasRoomBefore m sizes
room_before c sizes m ring h = record {
  there = subst (λ (k : ℕ). k < length sizes) h.medium h.room.there;
  room = subst (λ (k : ℕ). 32768 ≤ get_or sizes k 0) h.medium (let a = h.room.room in omega (arith, a));
}

-- Why opening failed, behind calls that did not lower a count.
pub cause_behind : {T : Type 0} {ms : List ℕ} (a b c : List ℕ) (r : Result T OpenRefused) → NoneFalls a b → HasOpenCause ms b c r → HasOpenCause ms a c r
cause_behind a b c r earlier h = open_cause a c r (none_falls_join a b c earlier h.later)
    (λ is. let one = h.by_medium is in (one.0, one.1, one.2, one.3, rose_after (get_or a one.1 0) (get_or b one.1 0) (get_or c one.1 0) (earlier.none_falls one.1) one.4))

-- Of what refuses a part none is that the media are not formatted.
pub never_unformatted : {T : Type 0} (e : PartRefused) (x : OpenRefused) → x ≡ refusal_by e → ◌≡◌ {A = Result T OpenRefused} (Err x) (Err NotFormatted) → ⊥
never_unformatted {T} e x is made = of e (sym is ∙ one made)
  where
    one : ◌≡◌ {A = Result T OpenRefused} (Err x) (Err NotFormatted) → x ≡ NotFormatted
    one made = cc

    of : (e : PartRefused) → refusal_by e ≡ NotFormatted → ⊥
    of parts.NoMemory h = cc
    of (parts.Damaged m offset) h = cc
    of parts.Fault h = cc

-- What was refused, of another answer.
pub refused_so : {tells tells_images T U : Type 0} (disk : Disk tells tells_images) (e : OpenRefused) → RefusesAsRead {T = T} (Err e) disk → RefusesAsRead {T = U} (Err e) disk
refused_so disk e h = record {
  unformatted = λ is. h.unformatted (same_err _ _ is);
  damaged = λ m offset is. h.damaged m offset (same_err _ _ is);
}

-- What holds after Ok.
pub on_ok : {T E P Q : Type 0} (r : Result T E) → (P → Q) → OnOk r P → OnOk r Q
on_ok (Ok x) f p = f p
on_ok (Err e) f p = tt
