-- One more item, pushed or counted.
use Rattle.std.proofs.Common.{◌≡◌, ◌+◌, ℕ, suc, List, [], ◌∷◌, ◌++◌, length, refl, sym, ap, ◌∙◌, subst, ⊎_elim, append-nil, append_assoc, length-append, arith}
use Rattle.std.proofs.lemmas.List.Sums.{sum_by-append}
use Rattle.vdr_terms.specs.declared.datagram.Verdict.TheVariants.{Yes, Bad, Large}
use Rattle.vdr_terms.specs.Records.{Item, last}
use Rattle.vdr_terms.specs.Datagrams.{verdict, is_bad, is_large}
use Rattle.vdr_terms.specs.Counting.{Tally, pushed, tallied, no_tally, one_full, one_bad, one_large}
use Rattle.vdr_core.specs.Taken.{Captured, AreQueued}
use Rattle.vdr_core.specs.Machine.{captured}
use Rattle.vdr_core.proofs.Counted.{count_yes, count_no, length_snoc, none_counted, counts_bad, counts_large, counts_full}
use Rattle.vdr_core.proofs.Lanes.{queue_more}
use Rattle.vdr_intake.specs.Ends.{Feeding}
use Rattle.vdr_intake.specs.Items.{Follows, number_after}
use Rattle.vdr_capture.specs.Items.{HasCaptured, IsPush, IsFull, IsOffered}

-- the number after the queue's last item is that of the items that the queue tells
ends_at : (group from : ℕ) (c : Captured) (queue : List Captured) (given : List Item) → AreQueued group from (c ∷ queue) given → number_after (last (c ∷ queue)) ≡ from + length given
ends_at group from c [] given (before, rest, item, split, counts, is, none) =
    let n = is.number in
    let l = ap length split ∙ length-append before (item ∷ rest) in
    let e = ap length none in
    omega arith
ends_at group from c (d ∷ queue) given (before, rest, item, split, counts, is, more) =
    let h = ends_at group (from + length before + 1) d queue rest more in
    let l = ap length split ∙ length-append before (item ∷ rest) in
    omega arith

ends : (group : ℕ) (queue : List Captured) (given : List Item) → AreQueued group 0 queue given → number_after (last queue) ≡ length given
ends group [] given none = ap length (sym none)
ends group (c ∷ queue) given h = let e = ends_at group 0 c queue given h in omega arith

module _ (group : ℕ) (given : List Item) (items : List Captured) (steps : ℕ) (t : Tally) (h : HasCaptured group given items steps t) (item : Item) where
  module _ (yes : verdict item.bytes ≡ Yes) where
    pub follows_next : Follows group items (captured group item t)
    follows_next = record {
      of_group = refl;
      in_order =
          (let e = ends group items h.in_order.inside h.in_order.is_queued in
          let l = ap length h.in_order.order ∙ length-append h.in_order.inside h.in_order.since in
          let m = h.in_order.is_counted.all in
          let n = h.taken in
          omega arith);
    }

    pushed_more : HasCaptured group (given ++ item ∷ []) (items ++ captured group item t ∷ []) steps (pushed t)
    pushed_more = record {
      in_order = record {
        inside = h.in_order.inside ++ h.in_order.since ++ item ∷ [];
        since = [];
        order = ap (λ (l : List Item). l ++ item ∷ []) h.in_order.order ∙ sym (append-nil (h.in_order.inside ++ h.in_order.since ++ item ∷ []));
        is_queued = queue_more group 0 items h.in_order.inside h.in_order.since (captured group item t) item h.in_order.is_queued h.in_order.is_counted
            (record {
              recordable = yes;
              group = refl;
              number = (let l = ap length h.in_order.order ∙ length-append h.in_order.inside h.in_order.since in let n = h.taken in omega arith);
              received = refl;
              utc = refl;
              bytes = refl;
            });
        is_counted = none_counted;
      };
      taken = (let l = length_snoc given item in let n = h.taken in omega arith);
      each_once = (let l = length_snoc given item in let m = length_snoc items (captured group item t) in let n = h.each_once in omega arith);
      bad = h.bad ∙ sym (count_no (λ (i : Item). is_bad (verdict i.bytes)) given item (ap is_bad yes));
      large = h.large ∙ sym (count_no (λ (i : Item). is_large (verdict i.bytes)) given item (ap is_large yes));
      rate = h.rate;
      full = h.full;
      by_steps = (let s = sum_by-append (λ (c : Captured). c.missed.full) items (captured group item t ∷ []) in let n = h.by_steps in omega arith);
    }

    full_more : HasCaptured group (given ++ item ∷ []) items (steps + 1) (tallied one_full t)
    full_more = record {
      in_order = record {
        inside = h.in_order.inside;
        since = h.in_order.since ++ item ∷ [];
        order = ap (λ (l : List Item). l ++ item ∷ []) h.in_order.order ∙ append_assoc h.in_order.inside h.in_order.since (item ∷ []);
        is_queued = h.in_order.is_queued;
        is_counted = counts_full t.missed h.in_order.since item h.in_order.is_counted yes;
      };
      taken = (let l = length_snoc given item in let n = h.taken in omega arith);
      each_once = (let l = length_snoc given item in let n = h.each_once in omega arith);
      bad = h.bad ∙ sym (count_no (λ (i : Item). is_bad (verdict i.bytes)) given item (ap is_bad yes));
      large = h.large ∙ sym (count_no (λ (i : Item). is_large (verdict i.bytes)) given item (ap is_large yes));
      rate = h.rate;
      full = (let n = h.full in omega arith);
      by_steps = (let n = h.by_steps in omega arith);
    }

    pub offered_more : (old new : Feeding) (u : Tally) → old.pushed ≡ items → old.full ≡ steps → IsOffered (captured group item t) old new t u → HasCaptured group (given ++ item ∷ []) new.pushed new.full u
    offered_more old new u p s o = ⊎_elim
        (λ (push : IsPush (captured group item t) old new t u). moved (items ++ captured group item t ∷ []) steps (pushed t) (push.list ∙ ap (λ (l : List Captured). l ++ captured group item t ∷ []) p) (push.steps ∙ s) push.counted pushed_more)
        (λ (full : IsFull old new t u). moved items (steps + 1) (tallied one_full t) (full.list ∙ p) (full.steps ∙ ap (λ (n : ℕ). n + 1) s) full.counted full_more) o
      where
        moved : (list : List Captured) (n : ℕ) (w : Tally) → new.pushed ≡ list → new.full ≡ n → u ≡ w → HasCaptured group (given ++ item ∷ []) list n w → HasCaptured group (given ++ item ∷ []) new.pushed new.full u
        moved list n w a b c k = subst (λ (x : List Captured × ℕ × Tally). HasCaptured group (given ++ item ∷ []) x.0 x.1 x.2) (λ i. (sym a i, sym b i, sym c i)) k

  pub bad_more : verdict item.bytes ≡ Bad → HasCaptured group (given ++ item ∷ []) items steps (tallied one_bad t)
  bad_more bad = record {
    in_order = record {
      inside = h.in_order.inside;
      since = h.in_order.since ++ item ∷ [];
      order = ap (λ (l : List Item). l ++ item ∷ []) h.in_order.order ∙ append_assoc h.in_order.inside h.in_order.since (item ∷ []);
      is_queued = h.in_order.is_queued;
      is_counted = counts_bad t.missed h.in_order.since item h.in_order.is_counted bad;
    };
    taken = (let l = length_snoc given item in let n = h.taken in omega arith);
    each_once = (let l = length_snoc given item in let n = h.each_once in omega arith);
    bad = ap suc h.bad ∙ sym (count_yes (λ (i : Item). is_bad (verdict i.bytes)) given item (ap is_bad bad));
    large = h.large ∙ sym (count_no (λ (i : Item). is_large (verdict i.bytes)) given item (ap is_large bad));
    rate = h.rate;
    full = h.full;
    by_steps = h.by_steps;
  }

  pub large_more : verdict item.bytes ≡ Large → HasCaptured group (given ++ item ∷ []) items steps (tallied one_large t)
  large_more large = record {
    in_order = record {
      inside = h.in_order.inside;
      since = h.in_order.since ++ item ∷ [];
      order = ap (λ (l : List Item). l ++ item ∷ []) h.in_order.order ∙ append_assoc h.in_order.inside h.in_order.since (item ∷ []);
      is_queued = h.in_order.is_queued;
      is_counted = counts_large t.missed h.in_order.since item h.in_order.is_counted large;
    };
    taken = (let l = length_snoc given item in let n = h.taken in omega arith);
    each_once = (let l = length_snoc given item in let n = h.each_once in omega arith);
    bad = h.bad ∙ sym (count_no (λ (i : Item). is_bad (verdict i.bytes)) given item (ap is_bad large));
    large = ap suc h.large ∙ sym (count_yes (λ (i : Item). is_large (verdict i.bytes)) given item (ap is_large large));
    rate = h.rate;
    full = h.full;
    by_steps = h.by_steps;
  }

begun : (group : ℕ) → HasCaptured group [] [] 0 no_tally
begun group = record {
  in_order = record { inside = []; since = []; order = refl; is_queued = refl; is_counted = none_counted };
  taken = refl;
  each_once = refl;
  bad = refl;
  large = refl;
  rate = refl;
  full = refl;
  by_steps = refl;
}

-- a worker that begins
pub has_none : (group : ℕ) (items : List Captured) (steps : ℕ) (t : Tally) → items ≡ [] → steps ≡ 0 → t ≡ no_tally → HasCaptured group [] items steps t
has_none group items steps t i s e = subst (λ (x : List Captured × ℕ × Tally). HasCaptured group [] x.0 x.1 x.2) (λ k. (sym i k, sym s k, sym e k)) (begun group)
