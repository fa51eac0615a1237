-- The law by what was taken from the queues.
use Rattle.std.proofs.Common.{◌+◌, ℕ, List, [], ◌∷◌, ◌++◌, length, ◌==◌, None, refl, sym, ap, ◌∙◌, subst, arith, append-nil}
use Rattle.std.proofs.lemmas.Bool.{eq-eqb, ne_eqb, cond-true, cond-false}
use Rattle.std.proofs.lemmas.List.Elements.{filter-append}
use Rattle.vdr_terms.specs.declared.counts.Counts.{Counts}
use Rattle.vdr_terms.specs.Records.{Record, Item, records_of}
use Rattle.vdr_terms.specs.Rates.{Limit}
use Rattle.vdr_core.specs.Accounts.{AccountsPrefix}
use Rattle.vdr_core.specs.Runs.{RunStart, base_of}
use Rattle.vdr_terms.specs.Counting.{no_pending}
use Rattle.vdr_core.specs.Recorder.{Recorder, begun, took, taken_all, tick_of, recorder_after}
use Rattle.vdr_core.specs.Machine.{Lane, with_queue}
use Rattle.vdr_core.specs.Law.{Admits, ClosedRunsAccount, CutRunsAccount}
use Rattle.vdr_core.specs.Taken.{AllFeed, Captured, Feeds, of_group}
use Rattle.vdr_core.proofs.Counted.{none_are_missed}
use Rattle.vdr_core.proofs.Meter.{latest_none}
use Rattle.vdr_core.proofs.Lanes.{Inv}
use Rattle.vdr_core.proofs.Taking.{AllLanes, took_keeps, made_paired}
use Rattle.vdr_core.proofs.Ends.{closed, cut}

-- a lane whose port is done, and whose queue has these items
abbrev pub full_lane : (g : ℕ) (items : List Captured) (rest : Counts) (given : List Item) → Feeds g items rest given → Lane
full_lane g items rest given f = record { given = given; worker = None; tally = record { taken = length f.inside + length f.since; missed = rest; totals = rest }; queue = items; full_steps = 0 }

pub full_keeps : (limit : Limit) (base tick g : ℕ) (items : List Captured) (rest : Counts) (given : List Item) (f : Feeds g items rest given)
    → Inv limit base tick g [] no_pending (full_lane g items rest given f)
full_keeps limit base tick g items rest given f = record {
  used = [];
  waiting = [];
  inside = f.inside;
  since = f.since;
  order = f.order ∙ sym (append-nil (f.inside ++ f.since));
  recorded = refl;
  is_pending = none_are_missed limit base [] g;
  first = refl;
  is_queued = f.is_queued;
  is_counted = f.is_counted;
  taken = omega arith;
  latest = latest_none tick;
}

-- the items at the front of the queues, group by group, are taken one after the other
pub taken_keeps : (start : RunStart) → Admits start.limits → (r : Recorder) (items : List Captured) (queues : ℕ → List Captured) (lanes : ℕ → Lane)
    → AllLanes start r (λ g. with_queue (of_group g items ++ queues g) (lanes g))
    → AllLanes start (taken_all start r items) (λ g. with_queue (queues g) (lanes g))
taken_keeps start ok r [] queues lanes h = h
taken_keeps start ok r (c ∷ items) queues lanes h =
    taken_keeps start ok (took start r c) items queues lanes
    (took_keeps start ok r c (of_group c.group items ++ queues c.group)
    (λ g. with_queue (of_group g (c ∷ items) ++ queues g) (lanes g))
    (λ g. with_queue (of_group g items ++ queues g) (lanes g))
    (ap (λ (cs : List Captured). cs ++ queues c.group) (cond-true (c.group == c.group) (c ∷ of_group c.group items) (of_group c.group items) (eq-eqb c.group c.group refl)))
    refl
    (λ g ne. ap (λ (cs : List Captured). with_queue (cs ++ queues g) (lanes g)) (sym (cond-false (c.group == g) (c ∷ of_group g items) (of_group g items) (ne_eqb c.group g ne))))
    h)

module _ (start : RunStart) (ok : Admits start.limits) (items : List Captured) (queues : ℕ → List Captured) (rest : ℕ → Counts) (given : ℕ → List Item)
    (feeds : (g : ℕ) → Feeds g (of_group g items ++ queues g) (rest g) (given g)) where
  abbrev pub lane_of : ℕ → Lane
  lane_of g = full_lane g (of_group g items ++ queues g) (rest g) (given g) (feeds g)

  pub first_lanes : AllLanes start (begun start) (λ g. with_queue (of_group g items ++ queues g) (lane_of g))
  first_lanes g = full_keeps (start.limits g) (base_of start) (tick_of start (begun start)) g (of_group g items ++ queues g) (rest g) (given g) (feeds g)

  pub after_items : AllLanes start (recorder_after start items) (λ g. with_queue (queues g) (lane_of g))
  after_items = taken_keeps start ok (begun start) items queues lane_of first_lanes

  pub cut_run : (g : ℕ) → AccountsPrefix (start.limits g) (base_of start) (recorder_after start items).made g (given g)
  cut_run g = cut (start.limits g) (base_of start) (tick_of start (recorder_after start items)) g (recorder_after start items).made []
      ((recorder_after start items).pending g) (with_queue (queues g) (lane_of g)) (made_paired start items)
      (subst (λ (xs : List Record). Inv (start.limits g) (base_of start) (tick_of start (recorder_after start items)) g (records_of g xs) ((recorder_after start items).pending g) (with_queue (queues g) (lane_of g)))
      (sym (append-nil (recorder_after start items).made)) (after_items g))

-- the queues with what is taken first, and with nothing behind it
pub feeds_first : (items more : List Captured) (rest : ℕ → Counts) (given : ℕ → List Item) → AllFeed (items ++ more) rest given → (g : ℕ) → Feeds g (of_group g items ++ of_group g more) (rest g) (given g)
feeds_first items more rest given feed g = subst (λ (cs : List Captured). Feeds g cs (rest g) (given g)) (filter-append (λ (c : Captured). c.group == g) items more) (feed.lanes g)

pub feeds_all : (items : List Captured) (rest : ℕ → Counts) (given : ℕ → List Item) → AllFeed items rest given → (g : ℕ) → Feeds g (of_group g items ++ []) (rest g) (given g)
feeds_all items rest given feed g = subst (λ (cs : List Captured). Feeds g cs (rest g) (given g)) (sym (append-nil (of_group g items))) (feed.lanes g)

pub cut_runs : (start : RunStart) → Admits start.limits → CutRunsAccount start
cut_runs start ok items more rest given feed g = cut_run start ok items (λ g. of_group g more) rest given (feeds_first items more rest given feed) g

pub closed_runs : (start : RunStart) → Admits start.limits → ClosedRunsAccount start
closed_runs start ok items rest given feed g =
    closed start (recorder_after start items) rest (λ g. with_queue [] (lane_of start ok items (λ g. []) rest given (feeds_all items rest given feed) g))
    (after_items start ok items (λ g. []) rest given (feeds_all items rest given feed)) (λ g. refl) (made_paired start items) feed.beyond (λ g l. (refl, refl)) g
