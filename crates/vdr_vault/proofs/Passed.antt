-- One medium after the other is given a batch: what each moment shows of all of them.
use Rattle.std.proofs.Common.{◌≡◌, ◌≢◌, ◌⊎◌, inl, inr, ⊎_elim, ◌+◌, ◌<◌, ◌≤◌, ℕ, zero, suc, List, refl, sym, ◌∙◌, subst, arith, Bool, Result, OnOk, ap, length, get_or, set, Ok}
use Rattle.vdr_outside.specs.Disk.{Disk, Image, SameBut, content}
use Rattle.vdr_outside.specs.Moments.{AtEachMoment, Changed, ChangesOnly, Settled}
use Rattle.vdr_outside.proofs.Moments.{moments_join, moments_none, moments_weaken, now_after, settled_image, settled_other}
use Rattle.vdr_ring.specs.Taking.{Has, IsAppendedTo, IsGiven, Lacks, Waits}
use Rattle.vdr_vault.specs.Passes.{Passes, KeepsBeside, pins_at}
use Rattle.std.specs.Prelude.{⊤}
use Rattle.vdr_terms.specs.Needs.{Sizes, slots_in}
use Rattle.vdr_terms.specs.Records.{Record}
use Rattle.vdr_durability.specs.Retention.{Pin}
use Rattle.vdr_outside.specs.declared.fault.Fault.{Fault}
use Rattle.vdr_segment.specs.Slots.{SameFront}
use Rattle.vdr_segment.proofs.Fronts.{front_same, front_joined}
use Rattle.vdr_directory.specs.Sequence.{Placed}
use Rattle.vdr_ring.specs.Rings.{RingState, StaysOnMedium}
use Rattle.vdr_ring.specs.Rings as rings
use Rattle.std.proofs.lemmas.List.{get_or-set_other, get_or-set_same, length-set}
use Rattle.vdr_outside.specs.declared.media.Media.{Ghosts as MediaTells}
use Rattle.vdr_outside.specs.Frames.{WritesTo}
use Rattle.vdr_outside.proofs.Counts.{none_falls_join}
use Rattle.vdr_segment.specs.Writes.{KeepsFront}
use Rattle.vdr_config.specs.Configuration.{Configuration}
use Rattle.vdr_config.specs.Sizes.{sizes_of}
use Rattle.vdr_opening.specs.Answers.{AreRingsOf, further_on, no_ring, ring_at}
use Rattle.vdr_ring.specs.Openings.{IsRingOf}
use Rattle.vdr_vault.proofs.Members.{at_one, ring_is, ring_there}
use Rattle.vdr_media.proofs.Members.{of_all}
use Rattle.vdr_ring.proofs.Taken.{GoesByStages, Keeps, appended_to, given_settled, reads_beside, waits_settled}

-- From n on, where it holds of n and of all behind it; and up to n.
pub upward : (P : ℕ → Type 0) (n : ℕ) → P n → ((k : ℕ) → n < k → P k) → (k : ℕ) → n ≤ k → P k
upward P zero here behind zero le = here
upward P zero here behind (suc k) le = behind (suc k) (omega arith)
upward P (suc n) here behind zero le = absurd (omega (arith, le))
upward P (suc n) here behind (suc k) le = upward (λ j. P (suc j)) n here (λ j lt. behind (suc j) (omega (arith, lt))) k (omega (arith, le))

pub upto : (P : ℕ → Type 0) (n : ℕ) → ((k : ℕ) → k < n → P k) → P n → (k : ℕ) → k < n + 1 → P k
upto P zero before here zero lt = here
upto P zero before here (suc k) lt = absurd (omega (arith, lt))
upto P (suc n) before here zero lt = before zero (omega arith)
upto P (suc n) before here (suc k) lt = upto (λ j. P (suc j)) n (λ j lt. before (suc j) (omega (arith, lt))) here k (omega (arith, lt))

pub lower : (k m : ℕ) → k < m → k ≢ m
lower k m lt e = omega (arith, lt, e)

pub higher : (k m : ℕ) → m < k → k ≢ m
higher k m lt e = omega (arith, lt, e)

pub outside : (from count m k : ℕ) → from ≤ m → m < count → (k < from) ⊎ (count ≤ k) → k ≢ m
outside from count m k low high out e = grind (arith, low, high, out, e)

pub not_at : (m k : ℕ) → k ≢ m → (k < m) ⊎ (m + 1 ≤ k)
not_at m k other = grind (arith, other)

module _ {tells tells_images : Type 0} (LacksIt HasIt : ℕ → List ℕ → Type 0) (from count : ℕ) where
  -- The media below m have it, and the others lack it.
  pub record Walked (m : ℕ) (old mid : Disk tells tells_images) : Type 0 where
    pub moments : AtEachMoment old mid (Passes LacksIt HasIt from count old.now)
    pub has : (k : ℕ) → k < m → from ≤ k → Settled k (HasIt k) mid
    pub lack : (k : ℕ) → m ≤ k → k < count → Settled k (LacksIt k) mid

  pub begins : (old : Disk tells tells_images) → from ≤ count → ((k : ℕ) → from ≤ k → k < count → Settled k (LacksIt k) old) → Walked from old old
  begins old le lack = record {
    moments = moments_none old _ (λ i now. record {
      given = from;
      above = omega arith;
      below = le;
      has = λ k low high. absurd (omega (arith, low, high));
      lack = λ k low high. settled_image k (LacksIt k) old (lack k low high) i now;
      image = i;
      was = now;
      others = λ k out. refl;
    });
    has = λ k low high. absurd (omega (arith, low, high));
    lack = lack;
  }

  -- Medium m has its turn.
  module _ (m : ℕ) (low : from ≤ m) (high : m < count) (old mid new : Disk tells tells_images) (walk : Walked m old mid) (changes : ChangesOnly m (λ b. LacksIt m b ⊎ HasIt m b) mid new) where
    beside : (P : ℕ → List ℕ → Type 0) (k : ℕ) → k ≢ m → Settled k (P k) mid → (i : Image) → Changed m (λ b. LacksIt m b ⊎ HasIt m b) mid.now i → P k (content i k)
    beside P k other settled i c = subst (P k) (sym (c.others k other)) (settled_image k (P k) mid settled c.image c.was)

    in_between : (i : Image) → Changed m (λ b. LacksIt m b ⊎ HasIt m b) mid.now i → Passes LacksIt HasIt from count old.now i
    in_between i c = ⊎_elim
        (λ (l : LacksIt m (content i m)). record {
          given = m;
          above = low;
          below = omega (arith, high);
          has = λ k from_on lt. given_has k lt from_on;
          lack = λ k le lt. upward (λ k. k < count → LacksIt k (content i k)) m (λ _. l) (λ k more lt. behind k more lt) k le lt;
          image = before.image;
          was = before.was;
          others = elsewhere;
        })
        (λ (h : HasIt m (content i m)). record {
          given = m + 1;
          above = omega (arith, low);
          below = omega (arith, high);
          has = λ k from_on lt. upto (λ k. from ≤ k → HasIt k (content i k)) m (λ k lt from_on. given_has k lt from_on) (λ _. h) k lt from_on;
          lack = λ k le lt. behind k (omega (arith, le)) lt;
          image = before.image;
          was = before.was;
          others = elsewhere;
        })
        c.has
      where
        before : Passes LacksIt HasIt from count old.now c.image
        before = now_after old mid (Passes LacksIt HasIt from count old.now) walk.moments c.image c.was

        given_has : (k : ℕ) → k < m → from ≤ k → HasIt k (content i k)
        given_has k lt from_on = beside HasIt k (lower k m lt) (walk.has k lt from_on) i c

        behind : (k : ℕ) → m < k → k < count → LacksIt k (content i k)
        behind k more lt = beside LacksIt k (higher k m more) (walk.lack k (omega (arith, more)) lt) i c

        elsewhere : (k : ℕ) → (k < from) ⊎ (count ≤ k) → content i k ≡ content before.image k
        elsewhere k out = c.others k (outside from count m k low high out) ∙ before.others k out

    -- At every moment the first media have it.
    pub goes_on : AtEachMoment old new (Passes LacksIt HasIt from count old.now)
    goes_on = moments_join old mid new _ walk.moments (moments_weaken mid new _ _ changes in_between)

    pub steps : (tells → SameBut m mid.reads new.reads) → Settled m (HasIt m) new → Walked (m + 1) old new
    steps others given = record {
      moments = goes_on;
      has = λ k lt. upto (λ k. from ≤ k → Settled k (HasIt k) new) m (λ k lt from_on. settled_other m k _ (HasIt k) mid new (lower k m lt) changes others (walk.has k lt from_on)) (λ _. given) k lt;
      lack = λ k le lt. settled_other m k _ (LacksIt k) mid new (higher k m (omega (arith, le))) changes others (walk.lack k (omega (arith, le)) lt);
    }

-- The media of a vault are given a batch, one after the other: the loop's step.

module _ {tells tells_images : Type 0} (ordered : Bool) (sizes : Sizes) (from : ℕ) (rings : List RingState) (pins : List Pin) (placed : ℕ → List Placed) (first : ℕ) (all : ℕ → List Record) (records : List Record)
    (old : Disk tells tells_images) where
  abbrev pub LacksAt : ℕ → List ℕ → Type 0
  LacksAt k = Lacks ordered (ring_at rings k) (pins_at k pins) (placed k) first records (content old.reads k)

  abbrev pub HasAt : ℕ → List ℕ → Type 0
  HasAt k = Has ordered (ring_at rings k) (pins_at k pins) (placed k) first records (content old.reads k)

  abbrev pub WaitsAt : ℕ → Disk tells tells_images → Type 0
  WaitsAt k disk = Waits ordered sizes (ring_at rings k) (pins_at k pins) (placed k) first (all k) records disk

  -- The media below m have the batch, and the others wait for it as they were.
  pub record Walks (m : ℕ) (now : List RingState) (mid : Disk tells tells_images) : Type 0 where
    pub walked : Walked LacksAt HasAt from (length rings) m old mid
    pub waiting : (k : ℕ) → m ≤ k → k < length rings → WaitsAt k mid
    pub untouched : (k : ℕ) → m ≤ k → ring_at now k ≡ ring_at rings k
    pub unread : (k : ℕ) → m ≤ k → content mid.reads k ≡ content old.reads k
    pub given : (k : ℕ) → k < m → from ≤ k → IsGiven (ring_at rings k) (ring_at now k) (pins_at k pins) (placed k) first records mid

  pub starts : {c : Configuration} → AreRingsOf c old.sizes rings → from ≤ length rings → ((k : ℕ) → from ≤ k → k < length rings → WaitsAt k old) → Walks from rings old
  starts are few waits = record {
    walked = begins LacksAt HasAt from (length rings) old few (λ k low lt. waits_settled ordered sizes k (ring_at rings k) (pins_at k pins) (placed k) first (all k) records old (ring_is are k lt).medium (waits k low lt));
    waiting = waits;
    untouched = λ k low. refl;
    unread = λ k low. refl;
    given = λ k lt low. absurd (omega (arith, lt, low));
  }

-- The ring of medium m has its turn.
module _ {M : Type 0} (media : MediaTells M) (from m : ℕ) (a b : List RingState) (inside : m < length a) (d : RingState) (x y : M) {c : Configuration} (are : AreRingsOf c (media.disk x).sizes a)
    (keeps : KeepsBeside media from a b x y) where
  high : m < length a
  high = inside

  high_now : m < length b
  high_now = let size = keeps.size in omega (arith, inside, size)

  is : get_or b m d ≡ ring_at b m
  is = ring_there (keeps.rings c are) m high_now d

  pub its_ring : IsRingOf c (media.disk y).sizes m (get_or b m d)
  its_ring = subst (IsRingOf c (media.disk y).sizes m) (sym is) (ring_is (keeps.rings c are) m high_now)

  module _ (low : from ≤ m) (now : RingState) (z : M) (result : Result ⊤ Fault) (stays : StaysOnMedium (get_or b m d) now (media.disk z).sizes) (front : KeepsFront (get_or b m d).medium (media.disk y) (media.disk z))
      (writes : WritesTo media (get_or b m d).medium y z result) where
    abbrev ring : RingState
    ring = get_or b m d

    its_medium : ring.medium ≡ m
    its_medium = its_ring.medium

    others : media.tells → SameBut m (media.disk y).reads (media.disk z).reads
    others told = subst (λ (k : ℕ). SameBut k (media.disk y).reads (media.disk z).reads) its_medium (writes.others told)

    front_here : media.tells → SameFront (content (media.disk y).reads m) (content (media.disk z).reads m)
    front_here told = subst (λ (k : ℕ). SameFront (content (media.disk y).reads k) (content (media.disk z).reads k)) its_medium (front.reads told)

    set_here : ring_at (set b m now) m ≡ now
    set_here = get_or-set_same b m now no_ring high_now

    set_beside : (k : ℕ) → k ≢ m → ring_at (set b m now) k ≡ ring_at b k
    set_beside k other = get_or-set_other b m k now no_ring other

    are_after : (d : Configuration) → AreRingsOf d (media.disk x).sizes a → AreRingsOf d (media.disk z).sizes (set b m now)
    are_after d of_it =
        let before = keeps.rings d of_it in
        record {
          two = let size = length-set b m now in let two = before.two in omega (arith, size, two);
          each = of_all (λ k. IsRingOf d (media.disk z).sizes k (ring_at (set b m now) k)) (further_on (set b m now)) (λ k below. at_one (λ k. k < length b → IsRingOf d (media.disk z).sizes k (ring_at (set b m now) k)) m
              (λ lt. subst (IsRingOf d (media.disk z).sizes m) (sym set_here) (here (subst (IsRingOf d (media.disk y).sizes m) (sym is) (ring_is before m lt))))
              (λ k other lt. subst (IsRingOf d (media.disk z).sizes k) (sym (set_beside k other)) (subst (λ (s : List ℕ). IsRingOf d s k (ring_at b k)) (sym writes.sizes) (ring_is before k lt))) k
              (let size = length-set b m now in let two = before.two in omega (arith, below, size, two)));
        }
      where
        here : IsRingOf d (media.disk y).sizes m ring → IsRingOf d (media.disk z).sizes m now
        here was = record {
          medium = stays.same.medium ∙ was.medium;
          segment = stays.same.segment ∙ was.segment;
          slots = stays.same.slots ∙ was.slots ∙ ap (λ (s : List ℕ). slots_in (sizes_of d) (get_or s m 0)) (sym writes.sizes);
          seconds = stays.same.seconds ∙ was.seconds;
          room = stays.medium;
        }

    pub keeps_on : KeepsBeside media from a (set b m now) x z
    keeps_on = record {
      size = length-set b m now ∙ keeps.size;
      rings = are_after;
      untouched = λ k lt. set_beside k (lower k m (omega (arith, lt, low))) ∙ keeps.untouched k lt;
      fronts = λ told k. front_joined _ _ _ (keeps.fronts told k) (at_one (λ k. SameFront (content (media.disk y).reads k) (content (media.disk z).reads k)) m (front_here told)
          (λ k other. subst (SameFront (content (media.disk y).reads k)) (sym (others told k other)) (front_same _)) k);
      others = λ told k out. others told k (outside from (length a) m k low high out) ∙ keeps.others told k out;
      sizes = writes.sizes ∙ keeps.sizes;
      counts = writes.counts ∙ keeps.counts;
      later = none_falls_join _ _ _ keeps.later writes.cause.later;
    }

    module _ (ordered : Bool) (sizes : Sizes) (pins passed : List Pin) (placed : ℕ → List Placed) (first : ℕ) (all : ℕ → List Record) (records : List Record) (passed_is : passed ≡ pins_at m pins) (told : media.tells)
        (walks : Walks ordered sizes from a pins placed first all records (media.disk x) m b (media.disk y)) (appended : GoesByStages ring now passed records (media.disk y) (media.disk z) result)
        (kept : Keeps ring now passed records (media.disk y) (media.disk z) result) where
      abbrev LacksIt : ℕ → List ℕ → Type 0
      LacksIt = LacksAt ordered sizes from a pins placed first all records (media.disk x)

      abbrev HasIt : ℕ → List ℕ → Type 0
      HasIt = HasAt ordered sizes from a pins placed first all records (media.disk x)

      is_first : ring ≡ ring_at a m
      is_first = is ∙ walks.untouched m (omega arith)

      made : IsAppendedTo ordered m ring now (pins_at m pins) (placed m) first records (media.disk y) (media.disk z) result
      made = appended_to ordered sizes m ring now (pins_at m pins) passed (placed m) first (all m) records (media.disk y) (media.disk z) result its_medium passed_is told
          (subst (λ (r : RingState). Waits ordered sizes r (pins_at m pins) (placed m) first (all m) records (media.disk y)) (sym is_first) (walks.waiting m (omega arith) high)) appended kept front.meanwhile

      changes : ChangesOnly m (λ bytes. LacksIt m bytes ⊎ HasIt m bytes) (media.disk y) (media.disk z)
      changes = subst (λ (p : RingState × List ℕ). ChangesOnly m (λ bytes. Lacks ordered p.0 (pins_at m pins) (placed m) first records p.1 bytes ⊎ Has ordered p.0 (pins_at m pins) (placed m) first records p.1 bytes)
          (media.disk y) (media.disk z)) (λ i. (is_first i, walks.unread m (omega arith) i)) made.moments

      pub walks_on : AtEachMoment (media.disk x) (media.disk z) (Passes LacksIt HasIt from (length a) (media.disk x).now)
      walks_on = goes_on LacksIt HasIt from (length a) m low high (media.disk x) (media.disk y) (media.disk z) walks.walked changes

      -- It has it.
      pub walks_step : (u : ⊤) → result ≡ Ok u → Walks ordered sizes from a pins placed first all records (media.disk x) (m + 1) (set b m now) (media.disk z)
      walks_step u ok = record {
        walked = steps LacksIt HasIt from (length a) m low high (media.disk x) (media.disk y) (media.disk z) walks.walked changes others given_here;
        waiting = λ k le lt.
            let w = walks.waiting k (omega (arith, le)) lt in
            record { reads = still (ring_at a k) (placed k) (apart are k lt (higher k m (omega (arith, le)))) w.reads; goes_on = w.goes_on; may = w.may };
        untouched = λ k le. set_beside k (higher k m (omega (arith, le))) ∙ walks.untouched k (omega (arith, le));
        unread = λ k le. others told k (higher k m (omega (arith, le))) ∙ walks.unread k (omega (arith, le));
        given = λ k lt. upto (λ k. from ≤ k → IsGiven (ring_at a k) (ring_at (set b m now) k) (pins_at k pins) (placed k) first records (media.disk z)) m (λ k lt low.
            let g = walks.given k lt low in
            record {
              stages = g.stages;
              are = g.are;
              reads = subst (λ (r : RingState). rings.Reads r g.stages.left (media.disk z)) (sym (set_beside k (lower k m lt)))
                  (still (ring_at b k) g.stages.left (apart (keeps.rings c are) k (omega (arith, lt, high_now)) (lower k m lt)) g.reads);
            }) (λ low. subst (λ (r : RingState). IsGiven (ring_at a m) r (pins_at m pins) (placed m) first records (media.disk z)) (sym set_here) given_now) k lt;
      }
        where
          apart : {s : List ℕ} {rs : List RingState} → AreRingsOf c s rs → (k : ℕ) → k < length rs → k ≢ m → (ring_at rs k).medium ≢ m
          apart of_it k lt other = λ e. other (sym (ring_is of_it k lt).medium ∙ e)

          still : (r : RingState) (ps : List Placed) → r.medium ≢ m → rings.Reads r ps (media.disk y) → rings.Reads r ps (media.disk z)
          still r ps other = reads_beside r ps m _ (media.disk y) (media.disk z) other changes others

          given_now : IsGiven (ring_at a m) now (pins_at m pins) (placed m) first records (media.disk z)
          given_now = subst (λ (r : RingState). IsGiven r now (pins_at m pins) (placed m) first records (media.disk z)) is_first
              (subst (λ (r : Result ⊤ Fault). OnOk r (IsGiven ring now (pins_at m pins) (placed m) first records (media.disk z))) ok made.done)

          given_here : Settled m (HasIt m) (media.disk z)
          given_here = given_settled ordered m (ring_at a m) now (pins_at m pins) (placed m) first records (content (media.disk x).reads m) (media.disk z) (stays.same.medium ∙ its_medium)
              (stays.same.segment ∙ ap (λ (r : RingState). r.segment) is_first) (stays.same.slots ∙ ap (λ (r : RingState). r.slots) is_first)
              (λ t. subst (λ (bytes : List ℕ). SameFront bytes (content (media.disk z).reads m)) (walks.unread m (omega arith)) (front_here t)) given_now
