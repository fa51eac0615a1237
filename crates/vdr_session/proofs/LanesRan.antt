-- A lane through a session: made ready, captured, joined, drained.
use Rattle.std.proofs.Common.{◌≡◌, ◌<◌, ◌++◌, ℕ, Bool, false, List, [], ◌∷◌, Option, Some, None, length, get_or, set, refl, sym, ap, ◌∙◌, subst, arith}
use Rattle.vdr_core.specs.Taken.{Captured, of_group}
use Rattle.vdr_intake.specs.Ends.{QueueId, Taking, Feeding}
use Rattle.vdr_intake.specs.Items.{IsRun}
use Rattle.vdr_outside.specs.declared.port.Port.{Ghosts as PortTells}
use Rattle.vdr_capture.specs.declared.lane.Lane.{Lane}
use Rattle.vdr_capture.specs.Lanes.{CapturesHeld}
use Rattle.vdr_session.specs.Joins.{Joins, MayJoin}
use Rattle.vdr_session.specs.Lanes.{ArePopped, IsFront, IsMet, IsTakerOf, joined_to, popped_by}
use Rattle.vdr_session.specs.Ran.{IsSetUp, LaneIsReady, LaneRan}
use Rattle.vdr_session.proofs.Popped.{same_or_not}
use Rattle.std.proofs.lemmas.List.{get_or-set_same, get_or-set_other}

module _ {P : Type 0} (configured : ℕ → Bool) (g : ℕ) where
  pub ready_met : (queue : Option QueueId) (taker : Option Taking) (lane : Lane P) → LaneIsReady configured g queue taker lane → IsMet configured g queue taker
  ready_met None None lane h = tt
  ready_met None (Some taker) lane h = absurd h
  ready_met (Some queue) None lane h = absurd h
  ready_met (Some queue) (Some taker) lane h =
      subst (IsTakerOf configured g queue) (sym h.5) (record { of_queue = refl; in_group = h.1; known = h.2; run = tt; front = tt })

  pub ready_popped : (queue : Option QueueId) (taker : Option Taking) (lane : Lane P) → LaneIsReady configured g queue taker lane → popped_by taker ≡ []
  ready_popped None None lane h = refl
  ready_popped None (Some taker) lane h = absurd h
  ready_popped (Some queue) None lane h = absurd h
  ready_popped (Some queue) (Some taker) lane h = ap (λ (t : Taking). t.popped) h.5

  module _ (tells : PortTells P) (turns : ℕ) where
    pub may_join : (queue : Option QueueId) (first taker : Option Taking) (old captured : Lane P) → LaneIsReady configured g queue first old → CapturesHeld tells turns old captured
        → IsMet configured g queue taker → MayJoin queue taker captured.feeder
    may_join None None None old captured ready held met = subst (MayJoin None None) (sym (ap (λ (l : Lane P). l.feeder) (held.without ready.1) ∙ ready.1)) tt
    may_join None None (Some taker) old captured ready held met = absurd met
    may_join None (Some first) taker old captured ready held met = absurd ready
    may_join (Some queue) None taker old captured ready held met = absurd ready
    may_join (Some queue) (Some first) None old captured ready held met = absurd met
    may_join (Some queue) (Some first) (Some taker) old captured ready held met =
        let c = held.held (record { queue = queue; pushed = []; full = 0 }) ready.4 in
        subst (MayJoin (Some queue) (Some taker)) (sym c.holds) (met.of_queue, c.of_queue)

    pub ran : (queue : Option QueueId) (first taker : Option Taking) (old captured new : Lane P) → LaneIsReady configured g queue first old → CapturesHeld tells turns old captured
        → new ≡ record captured { feeder = None } → IsMet configured g queue taker → joined_to taker ≡ captured.feeder → LaneRan tells turns g queue taker old new
    ran None None None old captured new ready held is met joined =
        (is ∙ (λ i. record (held.without ready.1 i) { feeder = None }) ∙ (λ i. record old { feeder = sym ready.1 i }), refl)
    ran None None (Some taker) old captured new ready held is met joined = absurd met
    ran None (Some first) taker old captured new ready held is met joined = absurd ready
    ran (Some queue) None taker old captured new ready held is met joined = absurd ready
    ran (Some queue) (Some first) None old captured new ready held is met joined = absurd met
    ran (Some queue) (Some first) (Some taker) old captured new ready held is met joined =
        let c = held.held (record { queue = queue; pushed = []; full = 0 }) ready.4 in
        let front : IsFront taker.popped (Some c.feeder) = subst (IsFront taker.popped) (joined ∙ c.holds) met.front in
        record {
          captured = captured;
          captures = c;
          feeder = c.feeder;
          held = c.holds;
          is = is;
          of_queue = met.of_queue;
          joined = joined ∙ c.holds;
          queued = front.0;
          order = front.1;
        }

module _ (configured : ℕ → Bool) (g : ℕ) where
  pub joins_joined : (queue : Option QueueId) (old new : Option Taking) (feeder : Option Feeding) → MayJoin queue old feeder → Joins queue old new feeder → joined_to new ≡ feeder
  joins_joined None None new None may joins = ap joined_to joins
  joins_joined None None new (Some feeder) may joins = absurd may
  joins_joined None (Some old) new feeder may joins = absurd may
  joins_joined (Some queue) None new feeder may joins = absurd may
  joins_joined (Some queue) (Some old) None None may joins = absurd may
  joins_joined (Some queue) (Some old) None (Some feeder) may joins = absurd joins
  joins_joined (Some queue) (Some old) (Some new) None may joins = absurd may
  joins_joined (Some queue) (Some old) (Some new) (Some feeder) may joins = joins.joined

  pub joins_popped : (queue : Option QueueId) (old new : Option Taking) (feeder : Option Feeding) → MayJoin queue old feeder → Joins queue old new feeder → popped_by old ≡ popped_by new
  joins_popped None None new None may joins = ap popped_by (sym joins)
  joins_popped None None new (Some feeder) may joins = absurd may
  joins_popped None (Some old) new feeder may joins = absurd may
  joins_popped (Some queue) None new feeder may joins = absurd may
  joins_popped (Some queue) (Some old) None None may joins = absurd may
  joins_popped (Some queue) (Some old) None (Some feeder) may joins = absurd joins
  joins_popped (Some queue) (Some old) (Some new) None may joins = absurd may
  joins_popped (Some queue) (Some old) (Some new) (Some feeder) may joins = sym joins.popped

  pub joins_met : (queue : Option QueueId) (old new : Option Taking) (feeder : Option Feeding) → IsMet configured g queue old → MayJoin queue old feeder → Joins queue old new feeder → IsMet configured g queue new
  joins_met None None new None met may joins = subst (IsMet configured g None) (sym joins) tt
  joins_met None None new (Some feeder) met may joins = absurd may
  joins_met None (Some old) new feeder met may joins = absurd may
  joins_met (Some queue) None new feeder met may joins = absurd may
  joins_met (Some queue) (Some old) None None met may joins = absurd may
  joins_met (Some queue) (Some old) None (Some feeder) met may joins = absurd joins
  joins_met (Some queue) (Some old) (Some new) None met may joins = absurd may
  joins_met (Some queue) (Some old) (Some new) (Some feeder) met may joins = record {
    of_queue = joins.queue ∙ met.of_queue;
    in_group = met.in_group;
    known = met.known;
    run = subst (IsRun g []) (sym joins.popped) met.run;
    front = subst (IsFront new.popped) (sym joins.joined) (joins.queued, joins.order ∙ ap (λ (xs : List Captured). xs ++ joins.queued) (sym joins.popped));
  }

-- the same was popped
pub popped_stays : (items : List Captured) (old new : List (Option Taking)) → ((g : ℕ) → g < 16 → popped_by (get_or old g None) ≡ popped_by (get_or new g None)) → ArePopped items old → ArePopped items new
popped_stays items old new same h = record { each = λ g small. h.each g small ∙ same g small; beyond = h.beyond }

-- nothing was popped
pub none_popped : (items : List Captured) (takers : List (Option Taking)) → items ≡ [] → ((g : ℕ) → g < 16 → popped_by (get_or takers g None) ≡ []) → ArePopped items takers
none_popped items takers e none = record { each = λ g small. ap (of_group g) e ∙ sym (none g small); beyond = λ g high. ap (of_group g) e }

pub first_of : {X : Type 0} (xs : List X) → 0 < length xs → X
first_of [] some = absurd (omega (arith, some))
first_of (x ∷ xs) some = x

-- one more lane was set anew
pub set_up_each : {P : Type 0} (configured : List Bool) (capacity n : ℕ) (queues : List (Option QueueId)) (takers : List (Option Taking)) (lanes first : List (Lane P)) (q : Option QueueId) (t : Option Taking) (l d : Lane P)
    → n < length queues → n < length takers → n < length lanes → IsSetUp (get_or configured n false) n capacity q t (get_or first n d) l → (k : ℕ)
    → ((k ≡ n → ⊥) → IsSetUp (get_or configured k false) k capacity (get_or queues k None) (get_or takers k None) (get_or first k d) (get_or lanes k d))
    → IsSetUp (get_or configured k false) k capacity (get_or (set queues n q) k None) (get_or (set takers n t) k None) (get_or first k d) (get_or (set lanes n l) k d)
set_up_each {P} configured capacity n queues takers lanes first q t l d few some more here k there =
    let S : ℕ → Option QueueId → Option Taking → Lane P → Type 0 = λ k q t l. IsSetUp (get_or configured k false) k capacity q t (get_or first k d) l in
    same_or_not k n
    (λ e. subst (λ (m : ℕ). S m (get_or (set queues n q) m None) (get_or (set takers n t) m None) (get_or (set lanes n l) m d)) (sym e)
    (subst (λ (x : Option QueueId). S n x (get_or (set takers n t) n None) (get_or (set lanes n l) n d)) (sym (get_or-set_same queues n q None few))
    (subst (λ (x : Option Taking). S n q x (get_or (set lanes n l) n d)) (sym (get_or-set_same takers n t None some))
    (subst (λ (x : Lane P). S n q t x) (sym (get_or-set_same lanes n l d more)) here))))
    (λ ne. subst (λ (x : Option QueueId). S k x (get_or (set takers n t) k None) (get_or (set lanes n l) k d)) (sym (get_or-set_other queues n k q None ne))
    (subst (λ (x : Option Taking). S k (get_or queues k None) x (get_or (set lanes n l) k d)) (sym (get_or-set_other takers n k t None ne))
    (subst (λ (x : Lane P). S k (get_or queues k None) (get_or takers k None) x) (sym (get_or-set_other lanes n k l d ne)) (there ne))))

pub ready_group : {P : Type 0} (configured : ℕ → Bool) (g : ℕ) (queue : Option QueueId) (taker : Option Taking) (lane : Lane P) → LaneIsReady configured g queue taker lane → lane.group ≡ g
ready_group configured g None None lane h = h.0
ready_group configured g None (Some taker) lane h = absurd h
ready_group configured g (Some queue) None lane h = absurd h
ready_group configured g (Some queue) (Some taker) lane h = h.0
