-- What is held of each group, as one step is made after another.
use Rattle.std.proofs.Common.{◌≡◌, ◌<◌, ◌≤◌, ◌++◌, ◌+◌, ℕ, zero, suc, Bool, List, [], ◌∷◌, All, Option, Some, None, IfSome, IfNone, is_some, false, length, get_or, set, replicate, refl, sym, ap, ◌∙◌, subst, append-nil, arith}
use Rattle.std.proofs.lemmas.List.{get_or-set_same, get_or-set_other}
use Rattle.std.proofs.lemmas.List.Elements.{All-cons, All-nil}
use Rattle.vdr_core.specs.Taken.{Captured, of_group}
use Rattle.vdr_intake.specs.Ends.{Feeding, QueueId, Taking}
use Rattle.vdr_intake.specs.Items.{Follows, IsRun, most_items}
use Rattle.vdr_intake.proofs.Runs.{run_more}
use Rattle.vdr_desk.proofs.Lists.{no_default, at_each}
use Rattle.vdr_session.specs.Heads.{AreHeld, NoneHeld, Steps}
use Rattle.vdr_session.specs.Lanes.{AreMet, ArePopped, HasPopped, IsDrained, IsFront, IsMet, Pops, StayJoined, held, joined_to, popped_by}
use Rattle.vdr_session.proofs.Popped.{at_other, at_own, for_each, front_more, of_appended, of_others, of_own, same_or_not}

-- What the next item of a queue tells of its taker, or that there is none.
pub popped_next : (group : ℕ) (old new : Taking) (item : Option Captured) → (new.queue ≡ old.queue) × (new.joined ≡ old.joined) → IfSome item (λ c. new.popped ≡ old.popped ++ c ∷ [])
    → IfSome item (λ c. Follows group old.popped c × (c.number < most_items)) → IfSome item (λ c. IfSome old.joined (λ feeder. (rest : List Captured) × (feeder.pushed ≡ old.popped ++ c ∷ rest)))
    → IfNone item (new.popped ≡ old.popped) → IsRun group [] old.popped → IsFront old.popped old.joined → HasPopped group old new item
popped_next group old new None kept taken follows order none run front = record {
  queue = kept.0;
  joined = kept.1;
  popped = none ∙ sym (append-nil old.popped);
  own = All-nil (λ (c : Captured). c.group ≡ group);
  run = subst (IsRun group []) (sym none) run;
  front = subst (λ (x : List Captured × Option Feeding). IsFront x.0 x.1) (λ i. (sym none i, sym kept.1 i)) front;
}
popped_next group old new (Some c) kept taken follows order none run front = record {
  queue = kept.0;
  joined = kept.1;
  popped = taken;
  own = All-cons (λ (c : Captured). c.group ≡ group) c [] follows.0.of_group (All-nil (λ (c : Captured). c.group ≡ group));
  run = subst (IsRun group []) (sym taken) (run_more group [] old.popped c run follows.0 follows.1);
  front = subst (IsFront new.popped) (sym kept.1) (front_more old.joined old.popped c new.popped taken order);
}

pub none_is : {X : Type 0} (o : Option X) → is_some o ≡ false → o ≡ None
none_is None e = refl
none_is (Some x) e = cc

-- The steps at one group: nothing where one is held; the first that is held; the next behind one that goes to the batch.
pub kept_step : (configured : ℕ → Bool) (g : ℕ) (queue : Option QueueId) (taker : Option Taking) (head : Option Captured) → IsMet configured g queue taker → Steps configured g queue taker taker head head []
kept_step configured g queue taker head met = record {
  met = met;
  joined = refl;
  order = λ items e. ap (λ (xs : List Captured). xs ++ held head) (append-nil items) ∙ e;
  own = λ own. (All-nil (λ (c : Captured). c.group ≡ g), own);
}

pub first_step : (configured : ℕ → Bool) (g : ℕ) (queue : Option QueueId) (old new : Option Taking) (was is : Option Captured) → was ≡ None → Pops configured g queue old new is → Steps configured g queue old new was is []
first_step configured g queue old new was is none p = record {
  met = p.met;
  joined = p.joined;
  order = λ items e. ap (λ (xs : List Captured). xs ++ held is) (ap (λ (h : Option Captured). items ++ held h) (sym none) ∙ e) ∙ sym p.popped;
  own = λ own. (All-nil (λ (c : Captured). c.group ≡ g), p.own);
}

pub next_step : (configured : ℕ → Bool) (g : ℕ) (queue : Option QueueId) (old new : Option Taking) (was is : Option Captured) → Pops configured g queue old new is → Steps configured g queue old new was is (held was)
next_step configured g queue old new was is p = record {
  met = p.met;
  joined = p.joined;
  order = λ items e. ap (λ (xs : List Captured). xs ++ held is) e ∙ sym p.popped;
  own = λ own. (own, p.own);
}

-- A step at an index is one of what stands there.
module _ (configured : ℕ → Bool) (n : ℕ) (queues : List (Option QueueId)) (takers : List (Option Taking)) (heads : List (Option Captured)) (low : n < 16)
    (all : length queues ≡ 16) (sixteen : length takers ≡ 16) (as_many : length heads ≡ 16) (q : Option QueueId) (t : Option Taking) (h : Option Captured) (met : AreMet configured queues takers) where
  its_queue : get_or queues n None ≡ get_or queues n q
  its_queue = no_default queues n None q (omega (arith, all, low))

  its_taker : get_or takers n None ≡ get_or takers n t
  its_taker = no_default takers n None t (omega (arith, sixteen, low))

  its_head : get_or heads n None ≡ get_or heads n h
  its_head = no_default heads n None h (omega (arith, as_many, low))

  pub met_there : IsMet configured n (get_or queues n q) (get_or takers n t)
  met_there = subst (λ (x : Option QueueId × Option Taking). IsMet configured n x.0 x.1) (λ i. (its_queue i, its_taker i)) (met n low)

  pub steps_there : (taker : Option Taking) (head : Option Captured) (more : Option Captured → List Captured)
      → ((configured : ℕ → Bool) (g : ℕ) → IsMet configured g (get_or queues n q) (get_or takers n t) → Steps configured g (get_or queues n q) (get_or takers n t) taker (get_or heads n h) head (more (get_or heads n h)))
      → Steps configured n (get_or queues n None) (get_or takers n None) taker (get_or heads n None) head (more (get_or heads n None))
  steps_there taker head more steps = subst (λ (x : Option QueueId × Option Taking × Option Captured). Steps configured n x.0 x.1 taker x.2 head (more x.2))
      (λ i. (sym its_queue i, sym its_taker i, sym its_head i)) (steps configured n met_there)

module _ (n : ℕ) (takers : List (Option Taking)) (heads : List (Option Captured)) (sixteen : length takers ≡ 16) (as_many : length heads ≡ 16) (low : n < 16)
    (taker : Option Taking) (head : Option Captured) where
  pub none_after : ((k : ℕ) → k < n → (get_or heads k None ≡ None) × IsDrained (get_or takers k None)) → (head ≡ None) × IsDrained taker
      → (k : ℕ) → k < n + 1 → (get_or (set heads n head) k None ≡ None) × IsDrained (get_or (set takers n taker) k None)
  none_after before here k small = same_or_not k n
      (λ e. subst (λ (m : ℕ). (get_or (set heads n head) m None ≡ None) × IsDrained (get_or (set takers n taker) m None)) (sym e)
      (get_or-set_same heads n head None (omega (arith, as_many, low)) ∙ here.0, subst IsDrained (sym (at_own n takers sixteen low taker)) here.1))
      (λ ne. let there = before k (omega (arith, small, ne)) in
      (get_or-set_other heads n k head None ne ∙ there.0, subst IsDrained (sym (at_other n takers sixteen low taker k ne)) there.1))

  module _ (configured : ℕ → Bool) (queue : Option QueueId) (more : List Captured) (steps : Steps configured n queue (get_or takers n None) taker (get_or heads n None) head more) where
    pub joined_after : (old : List (Option Taking)) → StayJoined old takers → StayJoined old (set takers n taker)
    joined_after old stay = for_each n takers sixteen low taker (λ g t. joined_to t ≡ joined_to (get_or old g None)) (steps.joined ∙ stay n low) (λ g small ne. stay g small)

    pub held_after : (items : List Captured) → AreHeld items heads takers → AreHeld (items ++ more) (set heads n head) (set takers n taker)
    held_after items h = record {
      each = for_each n takers sixteen low taker (λ g t. of_group g (items ++ more) ++ held (get_or (set heads n head) g None) ≡ popped_by t)
          (ap (λ (x : Option Captured). of_group n (items ++ more) ++ held x) (get_or-set_same heads n head None (omega (arith, as_many, low)))
          ∙ ap (λ (xs : List Captured). xs ++ held head) (of_appended n items more ∙ ap (λ (xs : List Captured). of_group n items ++ xs) (of_own n more own.0))
          ∙ steps.order (of_group n items) (h.each n low))
          (λ g small ne. ap (λ (x : Option Captured). of_group g (items ++ more) ++ held x) (get_or-set_other heads n g head None ne)
          ∙ ap (λ (xs : List Captured). xs ++ held (get_or heads g None)) (others g (λ e. ne (sym e)))
          ∙ h.each g small);
      own = λ g small. at_each heads n head (omega (arith, as_many, low)) (λ g x. All (λ c. c.group ≡ g) (held x)) None own.1 g (λ ne. h.own g small);
      beyond = λ g high. others g (λ e. omega (arith, e, high, low)) ∙ h.beyond g high;
    }
      where
        own : All (λ c. c.group ≡ n) more × All (λ c. c.group ≡ n) (held head)
        own = steps.own (h.own n low)

        others : (g : ℕ) → (n ≡ g → ⊥) → of_group g (items ++ more) ≡ of_group g items
        others g ne = of_appended g items more ∙ ap (λ (xs : List Captured). of_group g items ++ xs) (of_others n g more own.0 ne) ∙ append-nil (of_group g items)

-- Nothing is held at first.
none_at : (n g : ℕ) → ◌≡◌ {A = Option Captured} (get_or (replicate n None) g None) None
none_at zero g = refl
none_at (suc n) zero = refl
none_at (suc n) (suc g) = none_at n g

pub none_held : (items : List Captured) (heads : List (Option Captured)) (takers : List (Option Taking)) → heads ≡ replicate 16 None → ArePopped items takers → AreHeld items heads takers
none_held items heads takers none h = record {
  each = λ g small. ap (λ (x : Option Captured). of_group g items ++ held x) (at g) ∙ append-nil (of_group g items) ∙ h.each g small;
  own = λ g small. subst (λ (x : Option Captured). All (λ (c : Captured). c.group ≡ g) (held x)) (sym (at g)) (All-nil (λ (c : Captured). c.group ≡ g));
  beyond = h.beyond;
}
  where
    at : (g : ℕ) → get_or heads g None ≡ None
    at g = ap (λ (xs : List (Option Captured)). get_or xs g None) none ∙ none_at 16 g

-- Where nothing is held, all that was popped was taken; and what is held is lost where no batch takes it.
pub all_taken : (items : List Captured) (heads : List (Option Captured)) (takers : List (Option Taking)) → NoneHeld heads → AreHeld items heads takers → ArePopped items takers
all_taken items heads takers none h = record {
  each = λ g small. sym (append-nil (of_group g items)) ∙ ap (λ (x : Option Captured). of_group g items ++ held x) (sym (none g small)) ∙ h.each g small;
  beyond = h.beyond;
}

abbrev pub held_below : ℕ → List (Option Captured) → List Captured
held_below zero heads = []
held_below (suc n) heads = held_below n heads ++ held (get_or heads n None)

of_below : (heads : List (Option Captured)) (g n : ℕ) → ((k : ℕ) → k < n → All (λ c. c.group ≡ k) (held (get_or heads k None)))
    → (g < n → of_group g (held_below n heads) ≡ held (get_or heads g None)) × (n ≤ g → of_group g (held_below n heads) ≡ [])
of_below heads g zero own = (λ small. absurd (omega (arith, small)), λ high. refl)
of_below heads g (suc n) own = let below = of_below heads g n (λ k small. own k (omega (arith, small))) in same_or_not g n (here n own below) (there n own below)
  where
    parts : (n : ℕ) → of_group g (held_below n heads ++ held (get_or heads n None)) ≡ of_group g (held_below n heads) ++ of_group g (held (get_or heads n None))
    parts n = of_appended g (held_below n heads) (held (get_or heads n None))

    here : (n : ℕ) → ((k : ℕ) → k < suc n → All (λ c. c.group ≡ k) (held (get_or heads k None)))
        → (g < n → of_group g (held_below n heads) ≡ held (get_or heads g None)) × (n ≤ g → of_group g (held_below n heads) ≡ [])
        → g ≡ n → (g < suc n → of_group g (held_below (suc n) heads) ≡ held (get_or heads g None)) × (suc n ≤ g → of_group g (held_below (suc n) heads) ≡ [])
    here n own below e = (
      λ small. parts n ∙ ap (λ (xs : List Captured). xs ++ of_group g (held (get_or heads n None))) (below.1 (omega (arith, e)))
          ∙ subst (λ (m : ℕ). of_group g (held (get_or heads m None)) ≡ held (get_or heads g None)) e (of_own g (held (get_or heads g None)) (own g small)),
      λ high. absurd (omega (arith, e, high)),
    )

    there : (n : ℕ) → ((k : ℕ) → k < suc n → All (λ c. c.group ≡ k) (held (get_or heads k None)))
        → (g < n → of_group g (held_below n heads) ≡ held (get_or heads g None)) × (n ≤ g → of_group g (held_below n heads) ≡ [])
        → (g ≡ n → ⊥) → (g < suc n → of_group g (held_below (suc n) heads) ≡ held (get_or heads g None)) × (suc n ≤ g → of_group g (held_below (suc n) heads) ≡ [])
    there n own below ne =
        let none = of_others n g (held (get_or heads n None)) (own n (omega arith)) (λ e. ne (sym e)) in
        let first = parts n ∙ ap (λ (xs : List Captured). of_group g (held_below n heads) ++ xs) none ∙ append-nil (of_group g (held_below n heads)) in
        (λ small. first ∙ below.0 (omega (arith, small, ne)), λ high. first ∙ below.1 (omega (arith, high)))

pub let_go : (items : List Captured) (heads : List (Option Captured)) (takers : List (Option Taking)) → AreHeld items heads takers → ArePopped (items ++ held_below 16 heads) takers
let_go items heads takers h = record {
  each = λ g small. of_appended g items (held_below 16 heads) ∙ ap (λ (xs : List Captured). of_group g items ++ xs) ((of_below heads g 16 h.own).0 small) ∙ h.each g small;
  beyond = λ g high. of_appended g items (held_below 16 heads) ∙ ap (λ (xs : List Captured). of_group g items ++ xs) ((of_below heads g 16 h.own).1 high) ∙ append-nil (of_group g items) ∙ h.beyond g high;
}
