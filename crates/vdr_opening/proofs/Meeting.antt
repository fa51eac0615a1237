-- Where the ends of the media meet, as one after another is read.
use Rattle.std.proofs.Common.{◌≡◌, ◌≤◌, ◌<◌, ◌+◌, ◌⊎◌, ◌↔◌, inl, inr, ℕ, zero, suc, Bool, true, false, List, [], ◌∷◌, ◌++◌, length, get_or, take, drop, Option, Some, refl, sym, ◌∙◌, ap, subst, arith, IsTrue}
use Rattle.std.specs.Prelude.{All}
use Rattle.std.proofs.lemmas.List.{get_or_default, take-append-drop}
use Rattle.std.proofs.lemmas.List.Elements.{All-cons, All-head, All-nil, All-tail}
use Rattle.std.proofs.lemmas.Option.{same_Some}
use Rattle.vdr_terms.specs.Records.{Record, last}
use Rattle.vdr_durability.specs.Layout.{Batches, segment_records}
use Rattle.vdr_durability.specs.Readings.{EndBy, EndsMeet, EndsOff, Reading, comes_next, ends_before}
use Rattle.vdr_durability.proofs.Meeting.{level_meet, then_lack}
use Rattle.vdr_outside.specs.Disk.{Disk, Image, Unchanged, content}
use Rattle.vdr_ring.specs.Lasts.{batch_or_none}
use Rattle.vdr_ring.specs.Rings.{RingState}
use Rattle.vdr_ring.specs.Rings as rings
use Rattle.vdr_directory.specs.Knowns.{AreInOrderBy}
use Rattle.vdr_directory.specs.Telling.{TellsBy}
use Rattle.vdr_directory.specs.Sequence.{Placed, all_records, batches_in}
use Rattle.std.proofs.lemmas.Bool.{cases_eq, cases_lt}
use Rattle.vdr_media.proofs.Members.{each_of, front_numbers, front_of, numbers, of_all, of_each, rest_at, rest_of}
use Rattle.vdr_opening.specs.Media.{members_with, further_in, Contents, reading_of, AreThereBy, HoldsParts, IsMediumBy}
use Rattle.vdr_opening.specs.Answers.{IsMissing, further_on, no_ring, ring_at, IsOpenedBy, OpenedState}
use Rattle.vdr_opening.specs.Parts.{AreKnownTo, LacksPlacesAt, KnowsMedium}
use Rattle.vdr_core.specs.Histories.{Incident}
use Rattle.vdr_config.specs.Configuration.{Configuration}
use Rattle.vdr_incident.specs.Tables.{HoldsTable}
use Rattle.vdr_incident.specs.Tables as incidents
use Rattle.vdr_opening.specs.Refusals.{AreLegal, IsRefused}
use Rattle.vdr_outside.proofs.Moments.{unchanged_join}
use Rattle.vdr_ring.proofs.Still.{knows_still}
use Rattle.vdr_ring.proofs.Records.{records_are}

one_batch : (x y : List Record) → batch_or_none x ≡ batch_or_none y → x ≡ y
one_batch [] [] is = refl
one_batch [] (y ∷ ys) is = cc
one_batch (x ∷ xs) [] is = cc
one_batch (x ∷ xs) (y ∷ ys) is = same_Some _ _ is

before_is : (batch : List Record) (batches : Batches) → ends_before (batch_or_none batch) batches ≡ comes_next (last (segment_records batches)) batch
before_is [] batches = refl
before_is (r ∷ rs) batches = refl

-- a batch before which a medium ends is one
is_batch : (batch : List Record) (batches : Batches) → ends_before (batch_or_none batch) batches ≡ true → batch_or_none batch ≡ Some batch
is_batch [] batches ends = cc
is_batch (r ∷ rs) batches ends = refl

-- What is known of a medium

module _ {tells tells_images : Type 0} (on : List RingState) (known : ℕ → List Placed) (disk : Disk tells tells_images) (are : AreKnownTo on known disk) (m : ℕ) (lt : m < length on) where
  pub known_at : rings.Knows (ring_at on m) (known m) disk
  known_at = of_each (λ k. rings.Knows (ring_at on k) (known k) disk) (further_on on) are m (omega (arith, lt))

  pub ends_as : (d : RingState) (batch lent : List Record) (follows : Bool) → m < length on → lent ≡ batch → ((ps : List Placed) → TellsBy (get_or on m d).slots ps (get_or on m d).directory → follows ≡ comes_next (last (all_records ps)) lent)
      → ends_before (batch_or_none batch) (batches_in (known m)) ≡ follows
  ends_as d batch lent follows there lent_is tested =
      before_is batch (batches_in (known m)) ∙ ap (λ (rs : List Record). comes_next (last rs) batch) (records_are (known m)) ∙ ap (λ (l : List Record). comes_next (last (all_records (known m))) l) (sym lent_is)
      ∙ sym (tested (known m) (subst (λ (r : RingState). TellsBy r.slots (known m) r.directory) (get_or_default on m no_ring d there) known_at.directory))

-- Below medium m, so many media end with the batch of the first one, the next one does not, and that and the others end directly
-- before it.
pub record EndBelow (batch : List Record) (lacking m : ℕ) (placed : ℕ → List Placed) : Type 0 where
  pub same : (k : ℕ) → k < lacking → batch_or_none batch ≡ last (batches_in (placed k))
  pub before : (k : ℕ) → lacking ≤ k → k < m → ends_before (batch_or_none batch) (batches_in (placed k)) ≡ true
  pub differs : lacking < m → batch_or_none batch ≡ last (batches_in (placed lacking)) → ⊥

-- One more medium ends with it, or before it.
pub ended : (batch : List Record) (lacking now m : ℕ) (placed : ℕ → List Placed) → now ≡ lacking + 1 → lacking ≡ m → EndBelow batch lacking m placed → batch_or_none batch ≡ last (batches_in (placed m)) → EndBelow batch now (m + 1) placed
ended batch lacking now m placed more here h is = record {
  same = λ k lt. elim (cases_eq k m) [
    | inl at ↦ is ∙ ap (λ (j : ℕ). last (batches_in (placed j))) (sym at)
    | inr other ↦ h.same k (grind (arith, lt, more, here, other))
  ];
  before = λ k above below. absurd (omega (arith, above, below, more, here));
  differs = λ less. absurd (omega (arith, less, more, here));
}

pub waited : (batch other : List Record) (lacking now m : ℕ) (placed : ℕ → List Placed) → now ≡ lacking → lacking ≤ m → EndBelow batch lacking m placed → ends_before (batch_or_none batch) (batches_in (placed m)) ≡ true
    → batch_or_none other ≡ last (batches_in (placed m)) → (lacking ≡ m → batch ≡ other → ⊥) → EndBelow batch now (m + 1) placed
waited batch other lacking now m placed same within h lacks waits differ = record {
  same = λ k lt. h.same k (omega (arith, lt, same));
  before = λ k above below. elim (cases_eq k m) [
    | inl at ↦ subst (λ (j : ℕ). ends_before (batch_or_none batch) (batches_in (placed j)) ≡ true) (sym at) lacks
    | inr less ↦ h.before k (omega (arith, above, same)) (grind (arith, below, less))
  ];
  differs = λ less has. elim (cases_eq lacking m) [
    | inl at ↦ differ at (one_batch batch other (has ∙ ap (λ (j : ℕ). last (batches_in (placed j))) (same ∙ at) ∙ sym waits))
    | inr below ↦ h.differs (grind (arith, within, below)) (has ∙ ap (λ (j : ℕ). last (batches_in (placed j))) same)
  ];
}

-- Where media that are followed by one more meet, they end with the batch and so does it, or it ends before it.
module _ (r : Reading) (batch : Option (List Record)) (m : ℕ) where
  abbrev Has : ℕ → Type 0
  Has k = last (r.batches k) ≡ batch

  abbrev Lacks : ℕ → Type 0
  Lacks k = ends_before batch (r.batches k) ≡ true

  lacks_behind : (ks : List ℕ) → All Lacks (ks ++ m ∷ []) → Lacks m
  lacks_behind [] all = All-head Lacks m [] all
  lacks_behind (k ∷ ks) all = lacks_behind ks (All-tail Lacks k (ks ++ m ∷ []) all)

  last_end : (ks : List ℕ) → EndBy r batch (ks ++ m ∷ []) → (All Has ks × Has m) ⊎ Lacks m
  last_end [] (inl (has, rest)) = inl (All-nil Has, has)
  last_end [] (inr all) = inr (All-head Lacks m [] all)
  last_end (k ∷ ks) (inl (has, rest)) = elim (last_end ks rest) [
    | inl more ↦ inl (All-cons Has k ks has more.0, more.1)
    | inr lacks ↦ inr lacks
  ]
  last_end (k ∷ ks) (inr all) = inr (lacks_behind (k ∷ ks) all)

module _ (batch : List Record) (x : Contents) (n lacking m : ℕ) (h : EndBelow batch lacking m x.placed) where
  abbrev Ended : ℕ → Type 0
  Ended k = last (batches_in (x.placed k)) ≡ batch_or_none batch

  abbrev Waiting : ℕ → Type 0
  Waiting k = ends_before (batch_or_none batch) (batches_in (x.placed k)) ≡ true

  pub all_level : (missing : List Record) → lacking ≡ 2 + n → missing ≡ [] → EndsMeet (members_with n) (reading_of x) × IsMissing (members_with n) missing lacking (reading_of x)
  all_level missing all none =
      let level = of_all (λ k. last (batches_in (x.placed k)) ≡ last (batches_in (x.placed 0))) n (λ k lt. sym (h.same k (omega (arith, lt, all))) ∙ h.same 0 (omega (arith, all))) in
      (level_meet (members_with n) (reading_of x) level, inl (none, level))

  pub some_lack : 1 ≤ lacking → lacking < 2 + n → 2 + n ≤ m → EndsMeet (members_with n) (reading_of x) × IsMissing (members_with n) batch lacking (reading_of x)
  some_lack some few all =
      let is : batch_or_none batch ≡ Some batch = is_batch batch (batches_in (x.placed lacking)) (h.before lacking (omega arith) (omega (arith, few, all))) in
      let given = front_of (numbers n) (λ k. last (batches_in (x.placed k)) ≡ Some batch) lacking (omega (arith, few)) (λ k lt. sym (h.same k lt) ∙ is) in
      let waiting = rest_of (numbers n) (λ k. ends_before (Some batch) (batches_in (x.placed k)) ≡ true) lacking
      (λ k above lt. ap (λ (o : Option (List Record)). ends_before o (batches_in (x.placed k))) (sym is) ∙ h.before k above (omega (arith, lt, all))) in
      let split = take-append-drop lacking (members_with n) in
      let size = (front_numbers (numbers n) lacking (omega (arith, few))).size in
      let leads : last (batches_in (x.placed 0)) ≡ Some batch = sym (h.same 0 some) ∙ is in (
        subst (λ (o : Option (List Record)). EndBy (reading_of x) o (members_with n)) (sym leads)
            (subst (λ (ms : List ℕ). EndBy (reading_of x) (Some batch) ms) split (then_lack (reading_of x) (Some batch) (take lacking (members_with n)) (drop lacking (members_with n)) given waiting)),
        inr (record { split = sym split; some = omega (arith, size, some); given_end = given; waiting_end = waiting }),
      )

  -- The media before medium m meet.
  before_meet : lacking ≤ m → m ≤ 2 + n → EndBy (reading_of x) (batch_or_none batch) (take m (members_with n))
  before_meet within below =
      let front = front_numbers (numbers n) m below in
      subst (λ (ms : List ℕ). EndBy (reading_of x) (batch_or_none batch) ms) (take-append-drop lacking (take m (members_with n)))
      (then_lack (reading_of x) (batch_or_none batch) (take lacking (take m (members_with n))) (drop lacking (take m (members_with n)))
      (front_of front Ended lacking within (λ k lt. sym (h.same k lt))) (rest_of front Waiting lacking (λ k above lt. h.before k above lt)))

  -- And it does not go on.
  pub here_off : (other : List Record) → 1 ≤ lacking → lacking ≤ m → m < 2 + n → batch_or_none other ≡ last (batches_in (x.placed m)) → (lacking ≡ m → batch ≡ other → ⊥)
      → ends_before (batch_or_none batch) (batches_in (x.placed m)) ≡ false → EndsOff (members_with n) (reading_of x) m
  here_off other some within lt waits differ elsewhere = record {
    before = take m (members_with n);
    after = drop (m + 1) (members_with n);
    split = sym (take-append-drop m (members_with n)) ∙ ap (λ (ms : List ℕ). take m (members_with n) ++ ms) (rest_at (numbers n) m lt);
    meet = meets m (omega (arith, some, within)) refl (before_meet within (omega (arith, lt)));
    off = λ meet. off (last_end (reading_of x) (batch_or_none batch) m (take m (members_with n)) (starts m (omega (arith, some, within)) meet));
  }
    where
      leads : batch_or_none batch ≡ last (batches_in (x.placed 0))
      leads = h.same 0 some

      meets : (k : ℕ) → 1 ≤ k → k ≡ m → EndBy (reading_of x) (batch_or_none batch) (take k (members_with n)) → EndsMeet (take k (members_with n)) (reading_of x)
      meets zero one is ends = tt
      meets (suc k) one is ends = subst (λ (o : Option (List Record)). EndBy (reading_of x) o (take (suc k) (members_with n))) leads ends

      starts : (k : ℕ) → 1 ≤ k → EndsMeet (take k (members_with n) ++ m ∷ []) (reading_of x) → EndBy (reading_of x) (batch_or_none batch) (take k (members_with n) ++ m ∷ [])
      starts zero one meet = absurd (omega (arith, one))
      starts (suc k) one meet = subst (λ (o : Option (List Record)). EndBy (reading_of x) o (take (suc k) (members_with n) ++ m ∷ [])) (sym leads) meet

      off : (All Ended (take m (members_with n)) × Ended m) ⊎ Waiting m → ⊥
      off (inl (all, has)) = elim (cases_lt lacking m) [
        | inl below ↦ h.differs below (sym (each_of (front_numbers (numbers n) m (omega (arith, lt))) Ended all lacking below))
        | inr above ↦ differ (omega (arith, above, within)) (one_batch batch other (sym has ∙ sym waits))
      ]
      off (inr waiting) = let none : ⊥ = cc in none

pub not_same : (a b x y : List Record) (same : Bool) → IsTrue same ↔ (a ≡ b) → same ≡ false → a ≡ x → b ≡ y → x ≡ y → ⊥
not_same a b x y same tested differ a_is b_is is =
    let equal = tested.1 (a_is ∙ is ∙ sym b_is) in
    let none : ⊥ = cc in
    none

-- What is read of the media as a whole, or where they are refused, from what was found of each over calls that only
-- read.

abbrev pub contents_of : (further : ℕ) → Configuration → (text : List ℕ) → (ℕ → List Placed) → List (Option Incident) → Contents
contents_of further c text known table = record { further = further; config = c; text = text; placed = known; table = table; filled = λ m. false }

module _ {tells tells_images : Type 0} (start one : Disk tells tells_images) (same : Unchanged start one) (told : tells) (n : ℕ) (version : n ≡ further_in start.reads) (c : Configuration) (text : List ℕ) (known : ℕ → List Placed) (on : List RingState)
    (each : All (λ m. KnowsMedium m c text (known m) (ring_at on m) one) (members_with n)) (long_term : RingState) (long_term_is : long_term ≡ ring_at on 1) where
  are_legal : AreLegal start.reads c text known
  are_legal = record { each = subst (λ (k : ℕ). All (λ m. IsMediumBy m c text (known m) (content start.reads m)) (members_with k)) version legal_each }
    where
      legal_each : All (λ m. IsMediumBy m c text (known m) (content start.reads m)) (members_with n)
      legal_each i d lt = subst (λ (image : Image). IsMediumBy (get_or (members_with n) i d) c text (known (get_or (members_with n) i d)) (content image (get_or (members_with n) i d))) (same.reads told) (each i d lt).legal

  -- what the directory of the long-term medium's ring says, of its segments
  said : (P : List Placed → Type 0) → ((ps : List Placed) → TellsBy long_term.slots ps long_term.directory → AreInOrderBy ps → P ps) → P (known 1)
  said P all =
      let knows : rings.Knows long_term (known 1) one = subst (λ (ring : RingState). rings.Knows ring (known 1) one) (sym long_term_is) (each 1 0 (omega arith)).knows in
      all (known 1) knows.directory knows.order

  pub incidents_refused : (m offset : ℕ) → m ≡ 1
      → incidents.Refuses c.incident_slots (content one.reads 1) offset
      ⊎ ((ps : List Placed) → TellsBy long_term.slots ps long_term.directory → AreInOrderBy ps → LacksPlacesAt c.incident_slots ps (content one.reads 1) offset) → IsRefused start.reads m offset
  incidents_refused m offset is (inl refuses) = inr (inl (record {
    config = c;
    text = text;
    known = known;
    legal = are_legal;
    refuses = subst (λ (image : Image). incidents.Refuses c.incident_slots (content image 1) offset) (same.reads told) refuses;
    on = is;
  }))
  incidents_refused m offset is (inr lacks) =
      let found = subst (λ (image : Image). LacksPlacesAt c.incident_slots (known 1) (content image 1) offset) (same.reads told) (said (λ ps. LacksPlacesAt c.incident_slots ps (content one.reads 1) offset) lacks) in
      let at = found.lacks in
      inr (inr (inl (record {
        config = c;
        text = text;
        known = known;
        legal = are_legal;
        before = at.before;
        here = at.here;
        after = at.after;
        table = subst (λ (table : List (Option Incident)). HoldsTable c.incident_slots table (content start.reads 1)) at.split found.holds;
        there = at.there;
        missing = at.missing;
        at = found.at ∙ (λ i. incidents.place_of (sym at.index i));
        on = is;
      })))

  pub are_known : (two : Disk tells tells_images) (lent : List RingState) → length on ≡ 2 + n → lent ≡ on → Unchanged one two → AreKnownTo lent known two
  are_known two lent count is still =
      let rest : n ≡ further_on on = omega (arith, count) in
      subst (λ (l : List RingState). AreKnownTo l known two) (sym is) (subst (λ (k : ℕ). All (λ m. rings.Knows (ring_at on m) (known m) two) (members_with k)) rest
      (λ i d lt. knows_still (ring_at on (get_or (members_with n) i d)) (known (get_or (members_with n) i d)) one two still (each i d lt).knows))

  module _ (table : List (Option Incident)) (holds : HoldsTable c.incident_slots table (content one.reads 1)) (there : (ps : List Placed) → TellsBy long_term.slots ps long_term.directory → AreInOrderBy ps → AreThereBy table ps) where
    abbrev found : Contents
    found = contents_of n c text known table

    pub holds_parts : HoldsParts start.reads found
    holds_parts = record {
      further = version;
      media = subst (λ (k : ℕ). All (λ m. IsMediumBy m c text (known m) (content start.reads m)) (members_with k)) (sym version) are_legal.each;
      table = subst (λ (image : Image). HoldsTable c.incident_slots table (content image 1)) (same.reads told) holds;
      there = said (AreThereBy table) there;
    }

    pub ends_refused : (m offset : ℕ) → (offset ≡ 0) × EndsOff (members_with n) (reading_of found) m → IsRefused start.reads m offset
    ends_refused m offset off = inr (inr (inr (record { parts = found; holds = holds_parts; off = off.1; at = off.0 })))

    pub is_opened_by : (last : Disk tells tells_images) → Unchanged one last → (o : OpenedState) → o.config ≡ c → o.table ≡ table → length o.rings ≡ 2 + n → All (λ m. rings.Knows (ring_at o.rings m) (known m) last) (members_with n)
        → EndsMeet (members_with n) (reading_of found) × IsMissing (members_with n) o.missing o.lacking (reading_of found) → IsOpenedBy o found last
    is_opened_by last still o config_is table_is count knows ends = record {
      holds = subst (λ (image : Image). HoldsParts image found) (sym ((unchanged_join start one last same still).reads told)) holds_parts;
      meet = ends.0;
      config = config_is;
      count = count;
      rings = knows;
      table = table_is;
      missing = ends.1;
    }
