-- What a lane's port gave, by its capture and by what was popped.
use Rattle.std.proofs.Common.{◌≡◌, ◌<◌, ◌≤◌, ◌++◌, ◌+◌, ℕ, true, false, List, [], ◌∷◌, All, Option, Some, None, length, length-append, get_or, ⊎_elim, append_assoc, refl, sym, ap, ◌∙◌, subst, arith}
use Rattle.std.proofs.lemmas.List.Elements.{All-cons, All-nil, All-tail}
use Rattle.std.proofs.Math.Dec.{leb}
use Rattle.std.proofs.lemmas.Bool.Decides.{leb_tells}
use Rattle.std.proofs.lemmas.List.{get_or_past}
use Rattle.vdr_terms.specs.declared.counts.Counts.{Counts}
use Rattle.vdr_terms.specs.Records.{Item, none_missed}
use Rattle.vdr_core.specs.Taken.{AllFeed, AreQueued, Captured, Feeds}
use Rattle.vdr_intake.specs.Ends.{Feeding, QueueId, Taking}
use Rattle.vdr_outside.specs.declared.port.Port.{Ghosts as PortTells}
use Rattle.vdr_capture.specs.declared.lane.Lane.{Lane}
use Rattle.vdr_capture.specs.Captures.{IsCapture}
use Rattle.vdr_capture.specs.Lanes.{telling_of}
use Rattle.vdr_session.specs.Feeding.{AreMissed, LaneFed, RestIs}
use Rattle.vdr_session.specs.Lanes.{AllPopped, AreDrained, ArePopped}
use Rattle.vdr_session.proofs.Gathered.{all_feed, gather, none_gathered}
use Rattle.vdr_session.proofs.Marked.{no_items}
use Rattle.vdr_session.specs.Ran.{HasRan, LaneRan}

-- the items of a queue are of its group
queued_own : (g : ℕ) (queue : List Captured) (from : ℕ) (items : List Item) → AreQueued g from queue items → All (λ c. c.group ≡ g) queue
queued_own g [] from items h = All-nil (λ (c : Captured). c.group ≡ g)
queued_own g (c ∷ queue) from items (before, rest, item, order, counted, is, later) = All-cons (λ (c : Captured). c.group ≡ g) c queue is.group (queued_own g queue (from + length before + 1) rest later)

pub all_behind : {X : Type 0} (P : X → Type 0) (front back : List X) → All P (front ++ back) → All P back
all_behind P [] back h = h
all_behind P (x ∷ front) back h = all_behind P front back (All-tail P x (front ++ back) h)

-- where as much was popped as was pushed, nothing is queued
none_behind : (front back : List Captured) → front ++ back ≡ front → back ≡ []
none_behind front back e = no_items back (let l = length-append front back in let k = ap length e in omega (arith, l, k))

drained_none : (popped queued : List Captured) (joined : Option Feeding) (feeder : Feeding) → joined ≡ Some feeder → feeder.pushed ≡ popped ++ queued → AllPopped popped joined → queued ≡ []
drained_none popped queued joined feeder is order all = none_behind popped queued (sym order ∙ subst (AllPopped popped) is all)

some_same : (a b : Feeding) → Some a ≡ Some b → a ≡ b
some_same a b e = cc

module _ {P : Type 0} (tells : PortTells P) (turns g : ℕ) where
  -- a port that gave nothing
  pub nothing_fed : (queue : Option QueueId) (old new : Lane P) (rest : Counts) → rest ≡ none_missed → (g < 16 → (queue ≡ None) × (new ≡ old)) → LaneFed tells turns g queue None old new rest
  nothing_fed None old new rest none same = record {
    given = [];
    lane = λ small. ((same small).1, refl, none);
    queued = [];
    feeds = subst (λ (r : Counts). Feeds g [] r []) (sym none) (record { inside = []; since = []; order = refl; is_queued = refl; is_counted = record { bad = refl; large = refl; rate = refl; all = refl } });
    own = All-nil (λ (c : Captured). c.group ≡ g);
    beyond = λ high. (refl, refl);
    drained = λ _. refl;
  }
  nothing_fed (Some queue) old new rest none same = record {
    given = [];
    lane = λ small. absurd (no_queue (same small).0);
    queued = [];
    feeds = subst (λ (r : Counts). Feeds g [] r []) (sym none) (record { inside = []; since = []; order = refl; is_queued = refl; is_counted = record { bad = refl; large = refl; rate = refl; all = refl } });
    own = All-nil (λ (c : Captured). c.group ≡ g);
    beyond = λ high. (refl, refl);
    drained = λ _. refl;
  }
    where
      no_queue : Some queue ≡ None → ⊥
      no_queue e = cc

  ran_fed : (queue : QueueId) (taker : Taking) (old new : Lane P) (rest : Counts) → g < 16 → old.group ≡ g → HasRan tells turns g queue taker old new → rest ≡ new.tally.missed → LaneFed tells turns g (Some queue) (Some taker) old new rest
  ran_fed queue taker old new rest small is h missed =
      let same : h.captures.feeder ≡ h.feeder = some_same h.captures.feeder h.feeder (sym h.captures.holds ∙ h.held) in
      let c : IsCapture turns g (telling_of tells old.port) (telling_of tells h.captured.port) h.captures.feeder h.captured.tally h.captures.cause =
      subst (λ (k : ℕ). IsCapture turns k (telling_of tells old.port) (telling_of tells h.captured.port) h.captures.feeder h.captured.tally h.captures.cause) is h.captures.captured in
      let rests : h.captured.tally.missed ≡ rest = sym (missed ∙ ap (λ (l : Lane P). l.tally.missed) h.is) in
      let feeds : Feeds g (taker.popped ++ h.queued) rest c.given =
      subst (λ (r : Counts). Feeds g (taker.popped ++ h.queued) r c.given) rests
      (subst (λ (xs : List Captured). Feeds g xs h.captured.tally.missed c.given) (ap (λ (f : Feeding). f.pushed) same ∙ h.order) c.items.in_order) in
      subst (λ (l : Lane P). LaneFed tells turns g (Some queue) (Some taker) old l rest) (sym h.is)
      (record {
        given = c.given;
        lane = λ _. record {
          feeder = h.captures.feeder;
          cause = h.captures.cause;
          told_is = h.captures.told;
          captured = c;
          given_is = refl;
          rest_is = rests;
          of_queue = (h.captures.of_queue, h.of_queue);
          joined = h.joined ∙ ap (λ (f : Feeding). Some f) (sym same);
          queued = h.queued;
          order = ap (λ (f : Feeding). f.pushed) same ∙ h.order;
          faults = h.captures.faults;
          fails = h.captures.failed;
          ends = h.captures.ended;
        };
        queued = h.queued;
        feeds = feeds;
        own = all_behind (λ (c : Captured). c.group ≡ g) taker.popped h.queued (queued_own g (taker.popped ++ h.queued) 0 feeds.inside feeds.is_queued);
        beyond = λ high. absurd (omega (arith, small, high));
        drained = λ all. drained_none taker.popped h.queued taker.joined h.feeder h.joined h.order all;
      })

  pub lane_fed : (queue : Option QueueId) (taker : Option Taking) (old new : Lane P) (rest : Counts) → g < 16 → old.group ≡ g → LaneRan tells turns g queue taker old new → RestIs queue new rest
      → LaneFed tells turns g queue taker old new rest
  lane_fed None taker old new rest small is h none = subst (λ (t : Option Taking). LaneFed tells turns g None t old new rest) (sym h.1) (nothing_fed None old new rest none (λ _. (refl, h.0)))
  lane_fed (Some queue) None old new rest small is h missed = absurd h
  lane_fed (Some queue) (Some taker) old new rest small is h missed = ran_fed queue taker old new rest small is h missed

module _ {P : Type 0} (tells : PortTells P) (turns : ℕ) (queues : List (Option QueueId)) (takers : List (Option Taking)) (old new : List (Lane P)) (d : Lane P) (rest : ℕ → Counts)
    (sixteen : length takers ≡ 16) (groups : (g : ℕ) → g < 16 → (get_or old g d).group ≡ g)
    (ran : (g : ℕ) → g < 16 → LaneRan tells turns g (get_or queues g None) (get_or takers g None) (get_or old g d) (get_or new g d))
    (missed : AreMissed queues new rest) where
  pub each_fed : (g : ℕ) → LaneFed tells turns g (get_or queues g None) (get_or takers g None) (get_or old g d) (get_or new g d) (rest g)
  each_fed g = ⊎_elim
      (λ (t : (leb 16 g ≡ true) × (16 ≤ g)). subst (λ (o : Option Taking). LaneFed tells turns g (get_or queues g None) o (get_or old g d) (get_or new g d) (rest g)) (sym (get_or_past takers g None (omega (arith, sixteen, t.1))))
      (nothing_fed tells turns g (get_or queues g None) (get_or old g d) (get_or new g d) (rest g) (missed.beyond g t.1) (λ small. absurd (high_or_small g t.1 small))))
      (λ (t : (leb 16 g ≡ false) × (g < 16)). lane_fed tells turns g (get_or queues g None) (get_or takers g None) (get_or old g d) (get_or new g d) (rest g) t.1 (groups g t.1) (ran g t.1) (missed.each g d t.1))
      (leb_tells 16 g)
    where
      high_or_small : (g : ℕ) → 16 ≤ g → g < 16 → ⊥
      high_or_small g high small = omega (arith, high, small)

  -- What was taken, and what was lost where the media failed, is what the ports gave.
  pub feeds_all : (taken lost : List Captured) → ArePopped (taken ++ lost) takers → AllFeed (taken ++ (lost ++ gather (λ g. (each_fed g).queued) 16)) rest (λ g. (each_fed g).given)
  feeds_all taken lost popped =
      subst (λ (xs : List Captured). AllFeed xs rest (λ g. (each_fed g).given)) (append_assoc taken lost (gather (λ g. (each_fed g).queued) 16))
      (all_feed tells turns queues takers old new d rest sixteen (taken ++ lost) popped each_fed)

  -- Where no call failed, nothing was lost.
  pub none_lost : (lost : List Captured) → lost ≡ [] → AreDrained takers → lost ++ gather (λ g. (each_fed g).queued) 16 ≡ []
  none_lost lost none drained =
      (λ i. none i ++ gather (λ g. (each_fed g).queued) 16)
      ∙ none_gathered (λ g. (each_fed g).queued) 16 (λ k small. (each_fed k).drained (drained k small))
