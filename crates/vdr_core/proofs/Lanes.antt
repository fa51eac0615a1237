-- What is kept of each lane, and that each step of its port, its worker and the recorder keeps it.
use Rattle.std.proofs.Common.{◌≡◌, ◌≤◌, ◌+◌, ℕ, zero, suc, ℤ, List, [], ◌∷◌, ◌++◌, length, map, filter, sum, true, false, ◌&&◌, ◌==◌, nat_lt, nat_le, Option, Some, None, option_to_list, refl, sym, ap, ◌∙◌, subst, arith, append-nil, append_assoc, length-append, true≢false}
use Rattle.std.proofs.lemmas.Bool.{eq-eqb, ne_eqb, cond-true, cond-false}
use Rattle.std.proofs.lemmas.List.Elements.{filter-append}
use Rattle.vdr_terms.specs.declared.counts.Counts.{Counts}
use Rattle.vdr_terms.specs.Records.{Record, Item, total, second, payload_of, is_datagram, has_items, records_of, datagrams_of}
use Rattle.vdr_terms.specs.Records.Content.{Gap}
use Rattle.vdr_terms.specs.Datagrams.{verdict}
use Rattle.vdr_terms.specs.declared.datagram.Verdict.TheVariants.{Yes}
use Rattle.vdr_terms.specs.declared.rate.Rate.{Rate}
use Rattle.vdr_terms.specs.Rates.{Limit, is_admitted, is_licensed}
use Rattle.vdr_terms.specs.Rates.Limit.{NotConfigured, Unlimited, AtMost}
use Rattle.vdr_core.specs.Accounts.{AreMissed, AllAccounted}
use Rattle.vdr_core.specs.Runs.{RunStart, base_of}
use Rattle.vdr_terms.specs.Counting.{Pending, merged, with_missed, past_datagram, past_refusal, no_pending}
use Rattle.vdr_core.specs.Recorder.{make, gap_unless_none, datagram_of}
use Rattle.vdr_core.specs.Machine.{Lane, idle, with_item, counted, captured, queued, with_queue}
use Rattle.vdr_core.specs.Taken.{AreCounted, AreQueued, Captured, IsQueued}
use Rattle.vdr_core.proofs.Counted.{none_counted, none_are_missed, missed_more, missed_rate, length_snoc}
use Rattle.vdr_core.proofs.Walk.{one_more}
use Rattle.vdr_core.proofs.Meter.{Latest, latest_none, latest_grows, latest_snoc, licence}

-- rs are the group's records so far, and tick is the present one
pub record Inv (limit : Limit) (base tick : ℕ) (g : ℕ) (rs : List Record) (p : Pending) (l : Lane) : Type 0 where
  pub used : List Item
  pub waiting : List Item
  pub inside : List Item
  pub since : List Item
  pub order : l.given ≡ used ++ waiting ++ inside ++ since ++ option_to_list l.worker
  pub recorded : AllAccounted limit base [] rs 0 used
  pub is_pending : AreMissed limit base rs g p.missed waiting
  pub first : p.first ≡ length used
  pub is_queued : AreQueued g (length used + length waiting) l.queue inside
  pub is_counted : AreCounted l.tally.missed since
  pub taken : l.tally.taken ≡ length used + length waiting + length inside + length since
  pub latest : Latest (datagrams_of g rs) tick

pub queue_more : (g from : ℕ) (queue : List Captured) (items since : List Item) (c : Captured) (i : Item)
    → AreQueued g from queue items → AreCounted c.missed since → IsQueued g (from + length items + length since) c i
    → AreQueued g from (queue ++ c ∷ []) (items ++ since ++ i ∷ [])
queue_more g from [] items since c i h k q = (
  since,
  [],
  i,
  ap (λ (xs : List Item). xs ++ since ++ i ∷ []) h,
  k,
  subst (λ (n : ℕ). IsQueued g n c i) (let a = ap length h in omega (arith, a)) q,
  refl,
)
queue_more g from (x ∷ queue) items since c i (b, rest, j, split, counts, is, more) k q = (
  b,
  rest ++ since ++ i ∷ [],
  j,
  ap (λ (xs : List Item). xs ++ since ++ i ∷ []) split ∙ simp append_assoc,
  counts,
  is,
  queue_more g (from + length b + 1) queue rest since c i more k
      (subst (λ (n : ℕ). IsQueued g n c i) (let a = ap length split in let d = length-append b (j ∷ rest) in omega (arith, a, d)) q),
)

module _ (limit : Limit) (base : ℕ) (g : ℕ) where
  pub inv_idle : (tick : ℕ) → Inv limit base tick g [] no_pending idle
  inv_idle tick = record {
    used = [];
    waiting = [];
    inside = [];
    since = [];
    order = refl;
    recorded = refl;
    is_pending = none_are_missed limit base [] g;
    first = refl;
    is_queued = refl;
    is_counted = none_counted;
    taken = refl;
    latest = latest_none tick;
  }

  pub inv_grows : (t u : ℕ) (rs : List Record) (p : Pending) (l : Lane) → t ≤ u → Inv limit base t g rs p l → Inv limit base u g rs p l
  inv_grows t u rs p l le h = record {
    used = h.used;
    waiting = h.waiting;
    inside = h.inside;
    since = h.since;
    order = h.order;
    recorded = h.recorded;
    is_pending = h.is_pending;
    first = h.first;
    is_queued = h.is_queued;
    is_counted = h.is_counted;
    taken = h.taken;
    latest = latest_grows (datagrams_of g rs) t u le h.latest;
  }

  module _ (tick : ℕ) (rs : List Record) (p : Pending) where
    pub inv_took : (l : Lane) (i : Item) → l.worker ≡ None → Inv limit base tick g rs p l → Inv limit base tick g rs p (with_item i l)
    inv_took l i e h = record {
      used = h.used;
      waiting = h.waiting;
      inside = h.inside;
      since = h.since;
      order = ap (λ (xs : List Item). xs ++ i ∷ []) (h.order ∙ ap (λ (w : Option Item). h.used ++ h.waiting ++ h.inside ++ h.since ++ option_to_list w) e)
          ∙ simp (append_assoc, append-nil);
      recorded = h.recorded;
      is_pending = h.is_pending;
      first = h.first;
      is_queued = h.is_queued;
      is_counted = h.is_counted;
      taken = h.taken;
      latest = h.latest;
    }

    pub inv_counted : (l : Lane) (one : Counts → Counts) (i : Item) → l.worker ≡ Some i
        → ((c : Counts) (items : List Item) → AreCounted c items → AreCounted (one c) (items ++ i ∷ []))
        → Inv limit base tick g rs p l → Inv limit base tick g rs p (counted one l)
    inv_counted l one i e more h = record {
      used = h.used;
      waiting = h.waiting;
      inside = h.inside;
      since = h.since ++ i ∷ [];
      order = h.order ∙ (ap (λ (w : Option Item). h.used ++ h.waiting ++ h.inside ++ h.since ++ option_to_list w) e ∙ simp (append_assoc, append-nil));
      recorded = h.recorded;
      is_pending = h.is_pending;
      first = h.first;
      is_queued = h.is_queued;
      is_counted = more l.tally.missed h.since h.is_counted;
      taken = let a = length_snoc h.since i in let b = h.taken in omega (arith, a, b);
      latest = h.latest;
    }

    pub inv_queued : (l : Lane) (i : Item) → l.worker ≡ Some i → verdict i.bytes ≡ Yes → Inv limit base tick g rs p l → Inv limit base tick g rs p (queued g i l)
    inv_queued l i e v h = record {
      used = h.used;
      waiting = h.waiting;
      inside = h.inside ++ h.since ++ i ∷ [];
      since = [];
      order = h.order ∙ (ap (λ (w : Option Item). h.used ++ h.waiting ++ h.inside ++ h.since ++ option_to_list w) e ∙ simp (append_assoc, append-nil));
      recorded = h.recorded;
      is_pending = h.is_pending;
      first = h.first;
      is_queued = queue_more g (length h.used + length h.waiting) l.queue h.inside h.since (captured g i l.tally) i h.is_queued h.is_counted
          (record { recordable = v; group = refl; number = h.taken; received = refl; utc = refl; bytes = refl });
      is_counted = none_counted;
      taken = let a = length-append h.inside h.since in let b = length_snoc (h.inside ++ h.since) i in let d = h.taken in omega (arith, a, b, d);
      latest = h.latest;
    }

pub gap_own : (start : RunStart) (g place n tick : ℕ) (utc : ℤ) (m : Counts) (k : ℕ) → records_of g (gap_unless_none start g place n tick utc m k) ≡ gap_unless_none start g place n tick utc m k
gap_own start g place n tick utc m zero = refl
gap_own start g place n tick utc m (suc k) = cond-true (g == g) (make start.channels g place n tick utc (Gap m) ∷ []) [] (eq-eqb g g refl)

pub gap_other : (start : RunStart) (g place n tick : ℕ) (utc : ℤ) (m : Counts) (k h : ℕ) → (g ≡ h → ⊥) → records_of h (gap_unless_none start g place n tick utc m k) ≡ []
gap_other start g place n tick utc m zero h ne = refl
gap_other start g place n tick utc m (suc k) h ne = cond-false (g == h) (make start.channels g place n tick utc (Gap m) ∷ []) [] (ne_eqb g h ne)

pub gap_no_data : (start : RunStart) (g place n tick : ℕ) (utc : ℤ) (m : Counts) (k h : ℕ) → datagrams_of h (gap_unless_none start g place n tick utc m k) ≡ []
gap_no_data start g place n tick utc m zero h = refl
gap_no_data start g place n tick utc m (suc k) h = refl

-- what an admitted item adds
module _ (start : RunStart) (c : Captured) (tick place at first : ℕ) (missed : Counts) (k : ℕ) where
  abbrev pub added : List Record
  added = gap_unless_none start c.group place first tick c.utc missed k ++ datagram_of start c tick at ∷ []

  pub added_own : records_of c.group added ≡ added
  added_own =
      filter-append (λ (r : Record). has_items r.content && r.group == c.group) (gap_unless_none start c.group place first tick c.utc missed k) (datagram_of start c tick at ∷ [])
      ∙ (ap (λ (xs : List Record). xs ++ records_of c.group (datagram_of start c tick at ∷ [])) (gap_own start c.group place first tick c.utc missed k)
      ∙ ap (λ (xs : List Record). gap_unless_none start c.group place first tick c.utc missed k ++ xs) (cond-true (c.group == c.group) (datagram_of start c tick at ∷ []) [] (eq-eqb c.group c.group refl)))

  pub added_other : (h : ℕ) → (c.group ≡ h → ⊥) → records_of h added ≡ []
  added_other h ne =
      filter-append (λ (r : Record). has_items r.content && r.group == h) (gap_unless_none start c.group place first tick c.utc missed k) (datagram_of start c tick at ∷ [])
      ∙ (ap (λ (xs : List Record). xs ++ records_of h (datagram_of start c tick at ∷ [])) (gap_other start c.group place first tick c.utc missed k h ne)
      ∙ cond-false (c.group == h) (datagram_of start c tick at ∷ []) [] (ne_eqb c.group h ne))

  pub added_data : datagrams_of c.group added ≡ datagram_of start c tick at ∷ []
  added_data =
      filter-append (λ (r : Record). is_datagram r.content && r.group == c.group) (gap_unless_none start c.group place first tick c.utc missed k) (datagram_of start c tick at ∷ [])
      ∙ (ap (λ (xs : List Record). xs ++ datagrams_of c.group (datagram_of start c tick at ∷ [])) (gap_no_data start c.group place first tick c.utc missed k c.group)
      ∙ cond-true (c.group == c.group) (datagram_of start c tick at ∷ []) [] (eq-eqb c.group c.group refl))

-- where nothing is missed there are no items
nothing : (xs : List Item) → length xs ≡ 0 → xs ≡ []
nothing [] e = refl
nothing (x ∷ xs) e = absurd (omega (arith, e))

shown : (limit : Limit) (base u : ℕ) (rs : List Record) (g : ℕ) (i : Item) → ((rate : Rate) → limit ≡ AtMost rate → 1 ≤ rate.datagrams)
    → Latest (datagrams_of g rs) u → base + i.received ≤ u → is_admitted limit rs g (second u) (length i.bytes) ≡ false → is_licensed limit base rs g i ≡ true
shown NotConfigured base u rs g i ok h le e = refl
shown Unlimited base u rs g i ok h le e = absurd (true≢false e)
shown (AtMost rate) base u rs g i ok h le e = licence rate base u rs g i h (ok rate refl) le e

-- The group's records with a Gap account for what was missed, if anything was, and with the Datagram for its item.
pub with_gap : (start : RunStart) (limit : Limit) (base g : ℕ) (rs : List Record) (place first tick : ℕ) (utc : ℤ) (missed : Counts) (k : ℕ) (used items : List Item)
    → AllAccounted limit base [] rs 0 used → first ≡ length used → AreMissed limit base rs g missed items → k ≡ length items
    → AllAccounted limit base [] (rs ++ gap_unless_none start g place first tick utc missed k) 0 (used ++ items)
with_gap start limit base g rs place first tick utc missed zero used items h f m e =
    subst (λ (xs : List Record). AllAccounted limit base [] xs 0 (used ++ items)) (sym (append-nil rs))
    (subst (λ (xs : List Item). AllAccounted limit base [] rs 0 (used ++ xs)) (sym (nothing items (sym e)))
    (subst (λ (xs : List Item). AllAccounted limit base [] rs 0 xs) (sym (append-nil used)) h))
with_gap start limit base g rs place first tick utc missed (suc k) used items h f m e =
    one_more limit base [] rs (make start.channels g place first tick utc (Gap missed)) 0 used items h (omega (arith, f)) m

-- a Gap changes nothing for the meter
gap_admitted : (start : RunStart) (limit : Limit) (g : ℕ) (rs : List Record) (s n place first tick : ℕ) (utc : ℤ) (missed : Counts) (k : ℕ)
    → is_admitted limit (rs ++ gap_unless_none start g place first tick utc missed k) g s n ≡ is_admitted limit rs g s n
gap_admitted start NotConfigured g rs s n place first tick utc missed k = refl
gap_admitted start Unlimited g rs s n place first tick utc missed k = refl
gap_admitted start (AtMost rate) g rs s n place first tick utc missed k =
    ap (λ (ds : List Record). nat_lt (length (map (λ (r : Record). length (payload_of r.content)) (filter (λ (r : Record). second r.tick == s) ds))) rate.datagrams
    && nat_le (sum (map (λ (r : Record). length (payload_of r.content)) (filter (λ (r : Record). second r.tick == s) ds)) + n) rate.bytes)
    (filter-append (λ (r : Record). is_datagram r.content && r.group == g) rs (gap_unless_none start g place first tick utc missed k)
    ∙ (ap (λ (xs : List Record). datagrams_of g rs ++ xs) (gap_no_data start g place first tick utc missed k g) ∙ append-nil (datagrams_of g rs)))

module _ (start : RunStart) (t u : ℕ) (rs : List Record) (p : Pending) (l : Lane) (c : Captured) (queue : List Captured) where
  abbrev Was : Type 0
  Was = Inv (start.limits c.group) (base_of start) t c.group rs p l

  -- the front of the queue, of the lane as it was
  abbrev Front : Was → Type 0
  Front h = AreQueued c.group (length h.used + length h.waiting) (c ∷ queue) h.inside

  front : (h : Was) → l.queue ≡ c ∷ queue → Front h
  front h e = subst (λ (q : List Captured). AreQueued c.group (length h.used + length h.waiting) q h.inside) e h.is_queued

  pub inv_refused : l.queue ≡ c ∷ queue → t ≤ u → base_of start + c.received ≤ u → ((rate : Rate) → start.limits c.group ≡ AtMost rate → 1 ≤ rate.datagrams)
      → is_admitted (start.limits c.group) rs c.group (second u) (length c.bytes) ≡ false → Was
      → Inv (start.limits c.group) (base_of start) u c.group rs (past_refusal (with_missed c.missed p)) (with_queue queue l)
  inv_refused e le arrived ok not_admitted h =
      let limit : Limit = start.limits c.group in
      let base : ℕ = base_of start in
      let q : Front h = front h e in
      let now : Latest (datagrams_of c.group rs) u = latest_grows (datagrams_of c.group rs) t u le h.latest in
      record {
        used = h.used;
        waiting = (h.waiting ++ q.0) ++ q.2 ∷ [];
        inside = q.1;
        since = h.since;
        order = h.order ∙ (ap (λ (xs : List Item). h.used ++ h.waiting ++ xs ++ h.since ++ option_to_list l.worker) q.3 ∙ simp append_assoc);
        recorded = h.recorded;
        is_pending = missed_rate limit base rs c.group (merged p.missed c.missed) (h.waiting ++ q.0) q.2
            (missed_more limit base rs c.group p.missed c.missed h.waiting q.0 h.is_pending q.4)
            q.5.recordable
            (shown limit base u rs c.group q.2 ok now (subst (λ (n : ℕ). base + n ≤ u) q.5.received arrived)
            (subst (λ (bs : List ℕ). is_admitted limit rs c.group (second u) (length bs) ≡ false) q.5.bytes not_admitted));
        first = h.first;
        is_queued = subst (λ (n : ℕ). AreQueued c.group n queue q.1)
            (let a = length_snoc (h.waiting ++ q.0) q.2 in let b = length-append h.waiting q.0 in omega (arith, a, b)) q.6;
        is_counted = h.is_counted;
        taken = let a = length_snoc (h.waiting ++ q.0) q.2 in let b = length-append h.waiting q.0 in let d = ap length q.3 in let f = length-append q.0 (q.2 ∷ q.1) in let k = h.taken in omega (arith, a, b, d, f, k);
        latest = now;
      }

  pub inv_admitted : (place at : ℕ) → l.queue ≡ c ∷ queue → t ≤ u
      → is_admitted (start.limits c.group) rs c.group (second u) (length c.bytes) ≡ true → Was
      → Inv (start.limits c.group) (base_of start) u c.group
      (rs ++ added start c u place at p.first (merged p.missed c.missed) (total (merged p.missed c.missed)))
      (past_datagram (with_missed c.missed p)) (with_queue queue l)
  inv_admitted place at e le admitted h =
      let limit : Limit = start.limits c.group in
      let base : ℕ = base_of start in
      let q : Front h = front h e in
      let missed : Counts = merged p.missed c.missed in
      let items : List Item = h.waiting ++ q.0 in
      let gap : List Record = gap_unless_none start c.group place p.first u c.utc missed (total missed) in
      let d : Record = datagram_of start c u at in
      let new : List Record = added start c u place at p.first missed (total missed) in
      let are : AreMissed limit base rs c.group missed items = missed_more limit base rs c.group p.missed c.missed h.waiting q.0 h.is_pending q.4 in
      let size : length items ≡ length h.waiting + length q.0 = length-append h.waiting q.0 in
      let walked : AllAccounted limit base [] (rs ++ gap) 0 (h.used ++ items) = with_gap start limit base c.group rs place p.first u c.utc missed (total missed) h.used items h.recorded h.first are are.all in
      let all : AllAccounted limit base [] (rs ++ gap ++ d ∷ []) 0 (h.used ++ items ++ q.2 ∷ []) =
      one_more limit base [] (rs ++ gap) d 0 (h.used ++ items) (q.2 ∷ []) walked
      (let a = length-append h.used items in let n = q.5.number in omega (arith, a, n, size)) (
        q.2,
        refl,
        record {
          recordable = q.5.recordable;
          payload = q.5.bytes;
          utc = q.5.utc;
          admitted = gap_admitted start limit c.group rs (second u) (length c.bytes) place p.first u c.utc missed (total missed) ∙ admitted;
        },
      ) in
      record {
        used = h.used ++ items ++ q.2 ∷ [];
        waiting = [];
        inside = q.1;
        since = h.since;
        order = h.order ∙ (ap (λ (xs : List Item). h.used ++ h.waiting ++ xs ++ h.since ++ option_to_list l.worker) q.3 ∙ simp (append_assoc, append-nil));
        recorded = subst (λ (xs : List Record). AllAccounted limit base [] xs 0 (h.used ++ items ++ q.2 ∷ [])) (append_assoc rs gap (d ∷ [])) all;
        is_pending = none_are_missed limit base (rs ++ new) c.group;
        first = let a = length_snoc (h.used ++ items) q.2 in let b = length-append h.used items in let f = h.first in let k = are.all in omega (arith, a, b, f, k);
        is_queued = subst (λ (n : ℕ). AreQueued c.group n queue q.1)
            (let a = length_snoc (h.used ++ items) q.2 in let b = length-append h.used items in omega (arith, a, b, size)) q.6;
        is_counted = h.is_counted;
        taken = let a = length_snoc (h.used ++ items) q.2 in let b = length-append h.used items in let d = ap length q.3 in let f = length-append q.0 (q.2 ∷ q.1) in let k = h.taken in omega (arith, a, b, d, f, k, size);
        latest = subst (λ (ds : List Record). Latest ds u)
            (sym (filter-append (λ (r : Record). is_datagram r.content && r.group == c.group) rs new
            ∙ ap (λ (xs : List Record). datagrams_of c.group rs ++ xs) (added_data start c u place at p.first missed (total missed))))
            (latest_snoc (datagrams_of c.group rs) u d refl (latest_grows (datagrams_of c.group rs) t u le h.latest));
      }
