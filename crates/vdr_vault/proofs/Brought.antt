-- The media of a vault are brought up, one after the other: the loop's step.
use Rattle.std.proofs.Common.{◌≡◌, ◌≢◌, ◌⊎◌, ◌+◌, ◌<◌, ◌≤◌, ℕ, List, refl, sym, ap, ◌∙◌, subst, arith, Result, OnOk, Vec, length, get_or, set, length-set, Ok, Err}
use Rattle.std.specs.Prelude.{⊤}
use Rattle.std.specs.Vec.{with_items}
use Rattle.std.proofs.lemmas.List.{get_or-set_other, get_or-set_same}
use Rattle.vdr_terms.specs.Needs.{slots_in}
use Rattle.vdr_outside.specs.declared.fault.Fault.{Fault}
use Rattle.vdr_outside.specs.declared.media.Media.{Ghosts as MediaTells}
use Rattle.vdr_outside.specs.Causes.{NoneFalls, Rose}
use Rattle.vdr_outside.specs.Disk.{Disk, SameBut, content}
use Rattle.vdr_outside.specs.Moments.{AtEachMoment, ChangesOnly}
use Rattle.vdr_outside.proofs.Counts.{none_falls_join, on_err, rose_after}
use Rattle.vdr_outside.proofs.Moments.{changes_weaken, moments_join, moments_none, moments_weaken, now_after}
use Rattle.vdr_config.specs.Configuration.{Configuration}
use Rattle.vdr_config.specs.Sizes.{sizes_of}
use Rattle.vdr_segment.specs.Slots.{SameFront}
use Rattle.vdr_segment.specs.Writes.{KeepsFront}
use Rattle.vdr_segment.proofs.Fronts.{front_joined, front_same}
use Rattle.vdr_directory.specs.Sequence.{Placed}
use Rattle.vdr_ring.specs.Rings.{RingState, StaysOnMedium}
use Rattle.vdr_ring.specs.Rings as rings
use Rattle.vdr_ring.specs.Bringing.{HasBroughtUp, HoldsAlike}
use Rattle.vdr_ring.proofs.AlikeMedia.{alike_image}
use Rattle.vdr_opening.specs.Answers.{AreJudgedOn, AreRingsOf, further_on, no_ring, ring_at}
use Rattle.vdr_ring.specs.Openings.{IsRingOf}
use Rattle.vdr_ring.specs.Visits.{HasJudged}
use Rattle.vdr_vault.specs.Passes.{HasCauseFrom, KeepsBeside}
use Rattle.vdr_vault.specs.Bringing.{AllStayAlike, StaysAlike}
use Rattle.vdr_ring.proofs.Taken.{changes_both, reads_beside}
use Rattle.vdr_vault.proofs.Members.{at_one, ring_is, ring_there, same_rings}
use Rattle.vdr_media.proofs.Members.{of_all, of_each}
use Rattle.vdr_vault.proofs.Passed.{higher, its_ring, outside}
use Rattle.vdr_vault.proofs.Stepping.{judged_after}

-- What calls on all media keep, one after the other.
pub keeps_join : {M : Type 0} (media : MediaTells M) (a b d : List RingState) (x y z : M) → KeepsBeside media 0 a b x y → KeepsBeside media 0 b d y z → KeepsBeside media 0 a d x z
keeps_join media a b d x y z first second = record {
  size = second.size ∙ first.size;
  rings = λ c are. second.rings c (first.rings c are);
  untouched = λ k lt. second.untouched k lt ∙ first.untouched k lt;
  fronts = λ told k. front_joined _ _ _ (first.fronts told k) (second.fronts told k);
  others = λ told k out. second.others told k (subst (λ (n : ℕ). (k < 0) ⊎ (n ≤ k)) (sym first.size) out) ∙ first.others told k out;
  sizes = second.sizes ∙ first.sizes;
  counts = second.counts ∙ first.counts;
  later = none_falls_join _ _ _ first.later second.later;
}

-- A vector of rings that is lent twice.
pub lent_twice : {M Z : Type 0} (media : MediaTells M) (v : Vec RingState Z) {first second : List RingState} {x y z : M} → KeepsBeside media 0 v.items first x y
    → KeepsBeside media 0 first second y z → (with_items (with_items v first) second).items ≡ second
lent_twice media v {first} {second} once twice =
    same_rings (with_items v first) second (twice.size ∙ ap (λ (l : List RingState). length l) (sym (same_rings v first once.size)))

-- A cause behind calls that lowered no count.
pub cause_behind : {T E : Type 0} (n : ℕ) (a b d : List ℕ) (r : Result T E) → NoneFalls a b → HasCauseFrom 0 n b d r → HasCauseFrom 0 n a d r
cause_behind n a b d (Ok x) earlier h = tt
cause_behind n a b d (Err e) earlier (k, low, high, rose) = (k, low, high, rose_after _ _ _ (earlier.none_falls k) rose)

-- The media below m are brought up, and the others are as they were.
pub record Brings {tells tells_images : Type 0} (old : List RingState) (placed : ℕ → List Placed) (before : Disk tells tells_images) (m : ℕ) (now : List RingState) (mid : Disk tells tells_images) : Type 0 where
  pub moments : AtEachMoment before mid (AllStayAlike old placed before.reads before.now)
  pub waiting : (k : ℕ) → k < length old → m ≤ k → rings.Reads (ring_at old k) (placed k) mid × (ring_at now k ≡ ring_at old k)
  pub brought : (k : ℕ) → k < length old → k < m → HasBroughtUp (placed k) (ring_at old k) (ring_at now k) mid

pub brings_none : {tells tells_images : Type 0} {c : Configuration} (old : List RingState) (placed : ℕ → List Placed) (d : Disk tells tells_images) → AreRingsOf c d.sizes old
    → ((k : ℕ) → k < length old → rings.Reads (ring_at old k) (placed k) d) → Brings old placed d 0 old d
brings_none old placed d are reads = record {
  moments = moments_none d _ (λ i now. record {
    each = λ k lt. subst (λ (m : ℕ). StaysAlike (ring_at old k) (placed k) (content d.reads m) (content i m)) (ring_is are k lt).medium (alike_image (ring_at old k) (placed k) d (reads k lt) i now);
    image = i;
    was = now;
    others = λ k out. refl;
  });
  waiting = λ k lt low. (reads k lt, refl);
  brought = λ k lt none. absurd (omega (arith, none));
}

-- The ring of medium m has its turn.
module _ {M : Type 0} (media : MediaTells M) (m : ℕ) (a b : List RingState) (inside : m < length a) (d : RingState) (x y : M) {c : Configuration} (are : AreRingsOf c (media.disk x).sizes a)
    (keeps : KeepsBeside media 0 a b x y) (now : RingState) (z : M) (stays : StaysOnMedium (get_or b m d) now (media.disk z).sizes) (front : KeepsFront (get_or b m d).medium (media.disk y) (media.disk z))
    (others : media.tells → SameBut (get_or b m d).medium (media.disk y).reads (media.disk z).reads) (sizes : (media.disk z).sizes ≡ (media.disk y).sizes) where
  abbrev ring : RingState
  ring = get_or b m d

  high : m < length a
  high = inside

  high_now : m < length b
  high_now = let size = keeps.size in omega (arith, inside, size)

  its_medium : ring.medium ≡ m
  its_medium = (its_ring media 0 m a b inside d x y are keeps).medium

  beside : media.tells → SameBut m (media.disk y).reads (media.disk z).reads
  beside told = subst (λ (k : ℕ). SameBut k (media.disk y).reads (media.disk z).reads) its_medium (others told)

  -- What holds of it and of each other ring holds of all.
  set_each : (P : ℕ → RingState → Type 0) → P m now → ((k : ℕ) → k ≢ m → k < length b → P k (ring_at b k)) → (k : ℕ) → k < length b → P k (ring_at (set b m now) k)
  set_each P here there = at_one (λ k. k < length b → P k (ring_at (set b m now) k)) m
      (λ lt. subst (P m) (sym (get_or-set_same b m now no_ring lt)) here)
      (λ k other lt. subst (P k) (sym (get_or-set_other b m k now no_ring other)) (there k other lt))

  are_after : (e : Configuration) → AreRingsOf e (media.disk y).sizes b → AreRingsOf e (media.disk z).sizes (set b m now)
  are_after e before =
      let was = subst (IsRingOf e (media.disk y).sizes m) (sym (ring_there before m high_now d)) (ring_is before m high_now) in
      record {
        two = let size = length-set b m now in let two = before.two in omega (arith, size, two);
        each = of_all (λ k. IsRingOf e (media.disk z).sizes k (ring_at (set b m now) k)) (further_on (set b m now)) (λ k below. set_each (IsRingOf e (media.disk z).sizes) (record {
          medium = stays.same.medium ∙ was.medium;
          segment = stays.same.segment ∙ was.segment;
          slots = stays.same.slots ∙ was.slots ∙ ap (λ (s : List ℕ). slots_in (sizes_of e) (get_or s m 0)) (sym sizes);
          seconds = stays.same.seconds ∙ was.seconds;
          room = stays.medium;
        }) (λ k other lt. subst (λ (s : List ℕ). IsRingOf e s k (ring_at b k)) (sym sizes) (ring_is before k lt)) k (let size = length-set b m now in let two = before.two in omega (arith, below, size, two)));
      }

  pub keeps_on : media.bytes_read z ≡ media.bytes_read y → NoneFalls (media.faults y) (media.faults z) → KeepsBeside media 0 a (set b m now) x z
  keeps_on counts later = keeps_join media a b (set b m now) x y z keeps (record {
    size = length-set b m now;
    rings = are_after;
    untouched = λ k lt. absurd (omega (arith, lt));
    fronts = λ told. at_one (λ k. SameFront (content (media.disk y).reads k) (content (media.disk z).reads k)) m
        (subst (λ (k : ℕ). SameFront (content (media.disk y).reads k) (content (media.disk z).reads k)) its_medium (front.reads told))
        (λ k other. subst (SameFront (content (media.disk y).reads k)) (sym (beside told k other)) (front_same _));
    others = λ told k out. beside told k (outside 0 (length b) m k (omega arith) high_now out);
    sizes = sizes;
    counts = counts;
    later = later;
  })

  -- The slots that are loaded were judged, where that of this ring is.
  pub judged_on : (HasJudged ring (media.disk y) → HasJudged now (media.disk z)) → AreJudgedOn b (media.disk y) → AreJudgedOn (set b m now) (media.disk z)
  judged_on here judged = judged_after b m now (media.disk y) (media.disk z) (keeps.rings c are) high_now
      (here (subst (λ (r : RingState). HasJudged r (media.disk y)) (sym (ring_there (keeps.rings c are) m high_now d))
      (of_each (λ k. HasJudged (ring_at b k) (media.disk y)) (further_on b) judged m (omega (arith, high_now)))))
      beside judged

  pub cause_here : {T E : Type 0} (r : Result T E) → Rose (get_or (media.faults y) ring.medium 0) (get_or (media.faults z) ring.medium 0) → HasCauseFrom 0 (length a) (media.faults x) (media.faults z) r
  cause_here r rose = on_err r (m, omega arith, high, rose_after _ _ _ (keeps.later.none_falls m) (subst (λ (k : ℕ). Rose (get_or (media.faults y) k 0) (get_or (media.faults z) k 0)) its_medium rose))

  module _ (placed : ℕ → List Placed) (told : media.tells) (brings : Brings a placed (media.disk x) m b (media.disk y)) (result : Result ⊤ Fault)
      (call : (ps : List Placed) → media.tells → rings.Reads ring ps (media.disk y)
      → ChangesOnly ring.medium (HoldsAlike ring.segment ring.slots ps) (media.disk y) (media.disk z) × OnOk result (HasBroughtUp ps ring now (media.disk z))) where
    abbrev AlikeAt : ℕ → List ℕ → Type 0
    AlikeAt k = StaysAlike (ring_at a k) (placed k) (content (media.disk x).reads k)

    made : ChangesOnly m (AlikeAt m) (media.disk y) (media.disk z) × OnOk result (HasBroughtUp (placed m) (ring_at a m) now (media.disk z))
    made =
        let was = brings.waiting m high (omega arith) in
        let is = ring_there (keeps.rings c are) m high_now d ∙ was.1 in
        let reads = subst (λ (r : RingState). rings.Reads r (placed m) (media.disk y)) (sym is) was.0 in
        let done = call (placed m) told reads in
        subst (λ (p : ℕ × RingState). ChangesOnly p.0 (StaysAlike p.1 (placed m) (content (media.disk x).reads p.0)) (media.disk y) (media.disk z) × OnOk result (HasBroughtUp (placed m) p.1 now (media.disk z)))
        (λ i. (its_medium i, is i)) (
          changes_weaken ring.medium _ _ (media.disk y) (media.disk z) (changes_both ring.medium _ _ (media.disk y) (media.disk z) done.0 (front.meanwhile reads.settled.durable))
              (λ bytes p. (p.0, front_joined _ _ _ (keeps.fronts told ring.medium) p.1)),
          done.1,
        )

    pub moments_on : AtEachMoment (media.disk x) (media.disk z) (AllStayAlike a placed (media.disk x).reads (media.disk x).now)
    moments_on = moments_join (media.disk x) (media.disk y) (media.disk z) _ brings.moments (moments_weaken (media.disk y) (media.disk z) _ _ made.0 (λ i it.
        let before = now_after (media.disk x) (media.disk y) _ brings.moments it.image it.was in
        record {
          each = at_one (λ k. k < length a → AlikeAt k (content i k)) m (λ _. it.has) (λ k other lt. subst (AlikeAt k) (sym (it.others k other)) (before.each k lt));
          image = before.image;
          was = before.was;
          others = λ k out. it.others k (higher k m (omega (arith, out, high))) ∙ before.others k out;
        }))

    still : (k : ℕ) (r : RingState) (ps : List Placed) → k ≢ m → r.medium ≡ k → rings.Reads r ps (media.disk y) → rings.Reads r ps (media.disk z)
    still k r ps other is = reads_beside r ps m _ (media.disk y) (media.disk z) (λ same. other (sym is ∙ same)) made.0 beside

    -- It is brought up.
    pub brings_step : (u : ⊤) → result ≡ Ok u → Brings a placed (media.disk x) (m + 1) (set b m now) (media.disk z)
    brings_step u ok = record {
      moments = moments_on;
      waiting = λ k below. let size = keeps.size in set_each (λ k r. m + 1 ≤ k → rings.Reads (ring_at a k) (placed k) (media.disk z) × (r ≡ ring_at a k)) (λ low. absurd (omega (arith, low))) (λ k other lt low.
          let was = brings.waiting k (omega (arith, lt, size)) (omega (arith, low)) in
          (still k (ring_at a k) (placed k) other (ring_is are k (omega (arith, lt, size))).medium was.0, was.1)) k (omega (arith, below, size));
      brought = λ k below. let size = keeps.size in set_each (λ k r. k < m + 1 → HasBroughtUp (placed k) (ring_at a k) r (media.disk z))
          (λ low. subst (λ (r : Result ⊤ Fault). OnOk r (HasBroughtUp (placed m) (ring_at a m) now (media.disk z))) ok made.1)
          (λ k other lt low.
          let was = brings.brought k (omega (arith, lt, size)) (omega (arith, low, other)) in
          record { now = was.now; reads = still k (ring_at b k) was.now other (ring_is (keeps.rings c are) k lt).medium was.reads; alike = was.alike; brought = was.brought }) k (omega (arith, below, size));
    }
