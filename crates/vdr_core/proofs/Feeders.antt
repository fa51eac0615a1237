-- What the feeder of a queue has pushed, popped since or not, and its full steps.
use Rattle.std.proofs.Common.{◌≡◌, ◌≤◌, ◌<◌, ◌+◌, ℕ, List, [], ◌∷◌, ◌++◌, length, Option, Some, None, option_to_list, refl, ap, ◌∙◌, arith, append-nil, append_assoc, length-append}
use Rattle.vdr_terms.specs.declared.counts.Counts.{Counts}
use Rattle.vdr_terms.specs.declared.datagram.Verdict.TheVariants.{Yes}
use Rattle.vdr_terms.specs.Records.{Item}
use Rattle.vdr_terms.specs.Datagrams.{verdict}
use Rattle.vdr_terms.specs.Rates.{Limit}
use Rattle.vdr_terms.specs.Counting.{no_pending}
use Rattle.vdr_core.specs.Taken.{Captured, AreQueued, AreCounted}
use Rattle.vdr_core.specs.Sums.{missed_before}
use Rattle.vdr_core.specs.Machine.{Lane, idle, with_item, counted, captured, queued, was_full, with_queue}
use Rattle.vdr_core.proofs.Counted.{none_counted, none_are_missed, counts_full, length_snoc}
use Rattle.vdr_core.proofs.Meter.{latest_none}
use Rattle.vdr_core.proofs.Counts.{sum_append, sum_one}
use Rattle.vdr_core.proofs.Lanes.{Inv, queue_more}

pub record Pushed (capacity g : ℕ) (all : List Captured) (l : Lane) : Type 0 where
  pub inside : List Item
  pub since : List Item
  pub order : l.given ≡ inside ++ since ++ option_to_list l.worker
  pub is_queued : AreQueued g 0 all inside
  pub is_counted : AreCounted l.tally.missed since
  pub taken : l.tally.taken ≡ length inside + length since
  pub counted : (missed_before all).full + l.tally.missed.full ≡ l.full_steps
  pub held : 0 < l.full_steps → capacity ≤ length all

module _ (capacity g : ℕ) where
  pub pushed_idle : Pushed capacity g [] idle
  pushed_idle = record {
    inside = [];
    since = [];
    order = refl;
    is_queued = refl;
    is_counted = none_counted;
    taken = refl;
    counted = refl;
    held = λ l. absurd (none l);
  }
    where
      none : 0 < 0 → ⊥
      none l = omega arith

  module _ (all : List Captured) (l : Lane) (h : Pushed capacity g all l) where
    pub pushed_took : (i : Item) → l.worker ≡ None → Pushed capacity g all (with_item i l)
    pushed_took i e = record {
      inside = h.inside;
      since = h.since;
      order = ap (λ (xs : List Item). xs ++ i ∷ []) (h.order ∙ ap (λ (w : Option Item). h.inside ++ h.since ++ option_to_list w) e) ∙ simp (append_assoc, append-nil);
      is_queued = h.is_queued;
      is_counted = h.is_counted;
      taken = h.taken;
      counted = h.counted;
      held = h.held;
    }

    pub pushed_counted : (one : Counts → Counts) (i : Item) → l.worker ≡ Some i → ((c : Counts) (items : List Item) → AreCounted c items → AreCounted (one c) (items ++ i ∷ []))
        → ((c : Counts) → (one c).full ≡ c.full) → Pushed capacity g all (counted one l)
    pushed_counted one i e more same = record {
      inside = h.inside;
      since = h.since ++ i ∷ [];
      order = h.order ∙ (ap (λ (w : Option Item). h.inside ++ h.since ++ option_to_list w) e ∙ simp (append_assoc, append-nil));
      is_queued = h.is_queued;
      is_counted = more l.tally.missed h.since h.is_counted;
      taken = let a = length_snoc h.since i in let b = h.taken in omega (arith, a, b);
      counted = let a = same l.tally.missed in let b = h.counted in omega (arith, a, b);
      held = h.held;
    }

    pub pushed_was_full : (i : Item) → l.worker ≡ Some i → verdict i.bytes ≡ Yes → capacity ≤ length all → Pushed capacity g all (was_full l)
    pushed_was_full i e v full = record {
      inside = h.inside;
      since = h.since ++ i ∷ [];
      order = h.order ∙ (ap (λ (w : Option Item). h.inside ++ h.since ++ option_to_list w) e ∙ simp (append_assoc, append-nil));
      is_queued = h.is_queued;
      is_counted = counts_full l.tally.missed h.since i h.is_counted v;
      taken = let a = length_snoc h.since i in let b = h.taken in omega (arith, a, b);
      counted = let b = h.counted in omega (arith, b);
      held = λ _. full;
    }

    pub pushed_queued : (i : Item) → l.worker ≡ Some i → verdict i.bytes ≡ Yes → Pushed capacity g (all ++ captured g i l.tally ∷ []) (queued g i l)
    pushed_queued i e v = record {
      inside = h.inside ++ h.since ++ i ∷ [];
      since = [];
      order = h.order ∙ (ap (λ (w : Option Item). h.inside ++ h.since ++ option_to_list w) e ∙ simp (append_assoc, append-nil));
      is_queued = queue_more g 0 all h.inside h.since (captured g i l.tally) i h.is_queued h.is_counted
          (record { recordable = v; group = refl; number = let a = h.taken in omega (arith, a); received = refl; utc = refl; bytes = refl });
      is_counted = none_counted;
      taken = let a = length-append h.inside h.since in let b = length_snoc (h.inside ++ h.since) i in let d = h.taken in omega (arith, a, b, d);
      counted = let a = ap (λ (c : Counts). c.full) (sum_append (λ (c : Captured). c.missed) all (captured g i l.tally ∷ [])) in
          let b = ap (λ (c : Counts). c.full) (sum_one (λ (c : Captured). c.missed) (captured g i l.tally)) in let d = h.counted in omega (arith, a, b, d);
      held = λ m. let a = length_snoc all (captured g i l.tally) in let b = h.held m in omega (arith, a, b);
    }

    -- an item that is popped stays pushed
    pub pushed_popped : (queue : List Captured) → Pushed capacity g all (with_queue queue l)
    pushed_popped queue = record {
      inside = h.inside;
      since = h.since;
      order = h.order;
      is_queued = h.is_queued;
      is_counted = h.is_counted;
      taken = h.taken;
      counted = h.counted;
      held = h.held;
    }

    -- a run that takes what was pushed from its start
    pub pushed_lane : (limit : Limit) (base tick : ℕ) → Inv limit base tick g [] no_pending (with_queue all l)
    pushed_lane limit base tick = record {
      used = [];
      waiting = [];
      inside = h.inside;
      since = h.since;
      order = h.order;
      recorded = refl;
      is_pending = none_are_missed limit base [] g;
      first = refl;
      is_queued = h.is_queued;
      is_counted = h.is_counted;
      taken = let a = h.taken in omega (arith, a);
      latest = latest_none tick;
    }
