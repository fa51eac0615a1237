-- What stands before the slots stays while batches are written.
use Rattle.std.proofs.Common.{◌≡◌, ◌≤◌, ◌+◌, ◌*◌, ℕ, Bool, true, false, List, [], ◌∷◌, length, get_or, take, slice_get, if◌then◌else◌, Option, Result, Ok, Err, refl, sym, ap, ◌∙◌, subst, arith, ◌<◌, ◌++◌, All, Contains, zero, suc}
use Rattle.std.specs.List.{range_with_len}
use Rattle.vdr_media.proofs.Members.{numbers}
use Rattle.std.specs.Prelude.{nat_lt}
use Rattle.std.proofs.lemmas.Bool.{ltb-false}
use Rattle.vdr_terms.specs.Needs.{Fits}
use Rattle.vdr_core.specs.Histories.{Incident, Act, Event, Opening, all_records as all_given, incidents}
use Rattle.vdr_config.specs.declared.bad.ConfigBad.{ConfigBad}
use Rattle.vdr_config.specs.Configuration.{Configuration}
use Rattle.vdr_config.specs.Grammar.{configuration}
use Rattle.vdr_config.specs.Sizes.{sizes_of}
use Rattle.vdr_terms.specs.Slots.{slot_count, slots_from}
use Rattle.vdr_media.specs.Layout.{superblock_bytes, text_from}
use Rattle.vdr_media.specs.Medium.{IsSuperblock}
use Rattle.vdr_outside.specs.Parts.{part}
use Rattle.vdr_segment.specs.Slots.{SameFront}
use Rattle.vdr_incident.specs.Saves.{IsIncidentSlot}
use Rattle.vdr_incident.specs.Tables.{HoldsTable}
use Rattle.vdr_opening.specs.Media.{HasFront, members_with, Contents, HoldsContents, IsMedium, reading_of}
use Rattle.std.proofs.lemmas.List.Elements.{Contains-get_or, All-nil, All-cons, All-weaker}
use Rattle.vdr_terms.specs.Records.{Record, last}
use Rattle.vdr_terms.specs.Order.{AreInOrder as RecordsAreInOrder}
use Rattle.vdr_core.specs.Histories.Act.{Commit}
use Rattle.vdr_core.specs.Taken.{Captured}
use Rattle.vdr_durability.specs.Layout.{segment_records}
use Rattle.vdr_durability.specs.Regular.{FollowOn}
use Rattle.vdr_durability.specs.Retention.{Retains}
use Rattle.vdr_durability.proofs.Lists.{contains_here, contains_there}
use Rattle.vdr_durability.specs.Readings.{AreLevel, AreMembers, Ascend, IsPassedOn}
use Rattle.vdr_durability.specs.Shown.{Shows, pins_on}
use Rattle.vdr_durability.proofs.Shows.{commit_shows, level_shows}
use Rattle.vdr_outside.specs.Disk.{Image, content}
use Rattle.vdr_directory.specs.Sequence.{Placed, all_records, batches_in}
use Rattle.vdr_directory.specs.Holds.{HoldsPlaced}
use Rattle.vdr_ring.specs.Rings.{RingState}
use Rattle.vdr_ring.proofs.Medium.{in_order_records}
use Rattle.vdr_ring.specs.Openings.{IsRingOf}
use Rattle.vdr_vault.specs.Regularity.{AreSound}
use Rattle.vdr_vault.specs.Vaults.{ShowsHistory}
use Rattle.vdr_vault.proofs.Kept.{slots_there}
use Rattle.vdr_ring.proofs.Records.{records_are}

not_ok : {A : Type 0} (e : ConfigBad) (x : A) → ◌≡◌ {A = Result A ConfigBad} (Err e) (Ok x) → ⊥
not_ok e x h = cc

short_or_refused : {A : Type 0} (b : Bool) (n : ℕ) (e : ConfigBad) (rest : Result A ConfigBad) (x : A) → nat_lt 16_380 n ≡ b → (if b then Err e else rest) ≡ Ok x → n ≤ 16_380
short_or_refused true n e rest x is h = absurd (not_ok e x h)
short_or_refused false n e rest x is h = let a = ltb-false 16_380 n is in omega (arith, a)

-- A text that is a configuration is short.
text_is_short : (text : List ℕ) (c : Configuration) → configuration text ≡ Ok c → length text ≤ 16_380
unfolding configuration
text_is_short text c h = short_or_refused (nat_lt 16_380 (length text)) (length text) _ _ c refl h

first_byte : (xs : List ℕ) → slice_get (take 1 xs) 0 ≡ slice_get xs 0
first_byte [] = refl
first_byte (x ∷ xs) = refl

module _ (old new : List ℕ) (size : length new ≡ length old) (head : (from n : ℕ) → from + n ≤ 4096 → part new from n ≡ part old from n)
    (texts : (from n : ℕ) → text_from ≤ from → from + n ≤ slots_from → part new from n ≡ part old from n) where
  same_superblock : (m segment : ℕ) → IsSuperblock m segment old → IsSuperblock m segment new
  same_superblock m segment h = record {
    room = omega (arith, h.room, size);
    gate = sym (first_byte new) ∙ ap (λ (xs : List ℕ). slice_get xs 0) (head 0 1 (omega arith)) ∙ first_byte old ∙ h.gate;
    fields = head 1 22 (omega arith) ∙ h.fields ∙ ap (λ (n : ℕ). superblock_bytes m n segment (slot_count segment n)) (sym size);
    segment_low = h.segment_low;
    segment_high = h.segment_high;
  }

  -- Superblock and configuration are the same where their bytes are.
  pub front_as : (m : ℕ) (c : Configuration) (text : List ℕ) → HasFront m c text old → HasFront m c text new
  front_as m c text h = record {
    superblock = same_superblock m c.segment h.superblock;
    configured = record {
      holds_text = record {
        size = texts text_from 4 (omega arith) (omega arith) ∙ h.configured.holds_text.size;
        verbatim = texts (text_from + 4) (length text) (omega arith) (omega (arith, text_is_short text c h.configured.reads)) ∙ h.configured.holds_text.verbatim;
      };
      reads = h.configured.reads;
      fits = subst (Fits (sizes_of c) m) (sym size) h.configured.fits;
    };
  }

module _ (old new : List ℕ) (same : SameFront old new) where
  pub front_stays : (m : ℕ) (c : Configuration) (text : List ℕ) → HasFront m c text old → HasFront m c text new
  front_stays = front_as old new same.size (λ from n le. same.same from n (omega (arith, le))) (λ from n low le. same.same from n le)

  pub table_stays : (slots : ℕ) (table : List (Option Incident)) → slots ≤ 32 → HoldsTable slots table old → HoldsTable slots table new
  table_stays slots table few h = record {
    size = h.size;
    room = omega (arith, h.room, same.size);
    each = record {
      each = λ j d lt. subst (λ (bytes : List ℕ). IsIncidentSlot bytes (get_or table j d)) (sym (same.same (4096 + j * 256) 256 (omega (arith, lt, few, h.size)))) (h.each.each j d lt);
    };
  }

-- What an image shows that holds legible contents.

above : (a b n : ℕ) → a < b → All (λ k. a < k) (range_with_len b n)
above a b zero lt = All-nil (λ k. a < k)
above a b (suc n) lt = All-cons (λ k. a < k) b (range_with_len (b + 1) n) lt (above a (b + 1) n (omega (arith, lt)))

ascending : (a n : ℕ) → Ascend (range_with_len a n)
ascending a zero = tt
ascending a (suc n) = (above a (a + 1) n (omega arith), ascending (a + 1) n)

pub are_members : (n : ℕ) → AreMembers (members_with n)
are_members n = record {
  some = omega arith;
  ascend = (All-cons (λ k. 0 < k) 1 (range_with_len 2 n) (omega arith) (above 0 2 n (omega arith)), (above 1 2 n (omega arith), ascending 2 n));
}

pub has_capsule : (n : ℕ) → Contains (members_with n) 0
has_capsule n = contains_here 0 (1 ∷ range_with_len 2 n)

pub has_long_term : (n : ℕ) → Contains (members_with n) 1
has_long_term n = contains_there 0 (1 ∷ range_with_len 2 n) 1 (contains_here 1 (range_with_len 2 n))

pub is_member : (n m : ℕ) → m < 2 + n → Contains (members_with n) m
is_member n m lt = let size = (numbers n).size in subst (Contains (members_with n)) ((numbers n).at m 0 lt) (Contains-get_or (members_with n) m 0 (omega (arith, lt, size)))

-- What medium m was given is retained in these segments.
abbrev pub RetainsGiven : Opening → List Event → (given : ℕ → List Record) → (placed : ℕ → List Placed) → ℕ → Type 0
RetainsGiven opening events given placed m = Retains (opening.settings.seconds m) (pins_on m (incidents opening events)) (given m) (all_records (placed m))

module _ (opening : Opening) (events : List Event) (x : Contents) (image : Image) (holds : HoldsContents image x) (sound : AreSound x) (text : x.text ≡ opening.settings.text) (table : x.table ≡ incidents opening events) where
  read_retained : (given : ℕ → List Record) (m : ℕ) → RetainsGiven opening events given x.placed m
      → Retains (opening.settings.seconds m) (pins_on m (incidents opening events)) (given m) (segment_records (batches_in (x.placed m)))
  read_retained given m h = subst (Retains (opening.settings.seconds m) (pins_on m (incidents opening events)) (given m)) (sym (records_are (x.placed m))) h

  -- Level media show what they retain.
  pub shown_level : AreLevel (members_with x.further) (reading_of x) → All (RetainsGiven opening events (λ m. all_given opening m events) x.placed) (members_with x.further) → ShowsHistory opening events image
  shown_level level retained = (
    members_with x.further,
    reading_of x,
    record { reads = record { members_are = refl; contents = x; holds = holds; is = refl }; sound = sound },
    level_shows (members_with x.further) opening events (reading_of x) (are_members x.further) (has_long_term x.further) text table level
        (All-weaker (λ m. IsMedium m x.config x.text (x.placed m) (content image m)) (λ m. RecordsAreInOrder (segment_records (batches_in (x.placed m))))
        (λ m h. subst RecordsAreInOrder (sym (records_are (x.placed m))) (in_order_records (x.placed m) h.segments.order)) (members_with x.further) holds.media)
        (All-weaker (RetainsGiven opening events (λ m. all_given opening m events) x.placed) (λ m. Retains (opening.settings.seconds m) (pins_on m (incidents opening events)) (all_given opening m events) (segment_records (batches_in (x.placed m))))
        (λ m h. read_retained (λ m. all_given opening m events) m h) (members_with x.further) retained),
  )

  -- Media to which a batch is on its way show it, once the first has it.
  pub shown_passed : (e : Event) (records : List Record) (taken : List Captured) (given waiting : List ℕ) → e.act ≡ Commit records taken → IsPassedOn (members_with x.further) given waiting records (reading_of x)
      → All (λ m. FollowOn (last (all_given opening m events)) records) (members_with x.further)
      → All (RetainsGiven opening events (λ m. all_given opening m events ++ records) x.placed) given
      → All (RetainsGiven opening events (λ m. all_given opening m events) x.placed) waiting
      → ShowsHistory opening (events ++ e ∷ []) image
  shown_passed e records taken given waiting is passed follow here there = (
    members_with x.further,
    reading_of x,
    record { reads = record { members_are = refl; contents = x; holds = holds; is = refl }; sound = sound },
    subst (λ (a : Act). Shows (members_with x.further) opening (events ++ record { act = a; moment = e.moment } ∷ []) (reading_of x)) (sym is)
        (commit_shows (members_with x.further) given waiting opening events records taken e.moment (reading_of x) (are_members x.further) (has_long_term x.further) text table passed follow
        (All-weaker (RetainsGiven opening events (λ m. all_given opening m events ++ records) x.placed) (λ m. Retains (opening.settings.seconds m) (pins_on m (incidents opening events)) (all_given opening m events ++ records) (segment_records (batches_in (x.placed m))))
        (λ m h. read_retained (λ m. all_given opening m events ++ records) m h) given here)
        (All-weaker (RetainsGiven opening events (λ m. all_given opening m events) x.placed) (λ m. Retains (opening.settings.seconds m) (pins_on m (incidents opening events)) (all_given opening m events) (segment_records (batches_in (x.placed m))))
        (λ m h. read_retained (λ m. all_given opening m events) m h) waiting there)),
  )

-- What a ring reads of its medium the configuration reads too.
pub placed_there : (c : Configuration) (sizes : List ℕ) (m : ℕ) (ring : RingState) (placed : List Placed) (bytes : List ℕ) → IsRingOf c sizes m ring → length bytes ≡ get_or sizes m 0
    → HoldsPlaced ring.segment ring.slots placed bytes → HoldsPlaced c.segment (slot_count c.segment (length bytes)) placed bytes
placed_there c sizes m ring placed bytes its size h =
    let slots = slots_there c sizes m ring bytes its size in
    subst (λ (p : ℕ × ℕ). HoldsPlaced p.0 p.1 placed bytes) (λ i. (its.segment i, slots i)) h
