use Rattle.std.proofs.Common.{rules}
use Rattle.vdr_ring.specs.Damage.{IsIntact}
use Rattle.vdr_ring.specs.Visits.{HasJudged, IsLoaded, Steps, slot_read}
use Rattle.vdr_segment.specs.Slots.{place_of}
use Rattle.vdr_ring.proofs.Judging.{judged_on, judged_still, not_moved, slot_intact, stands_among, step_damage}
use Rattle.vdr_ring.proofs.Visiting.{step_visits, read_steps}
use Rattle.vdr_ring.proofs.ring.Ring.read_span.Goals as goal

pub returns-clause-keeps : goal.returns-clause-keeps
returns-clause-keeps g c = record {
  ring = search rules;
  room = search rules;
  bytes = search rules;
  judged = λ judged. judged_still c.load.new.self c.step_in.new.self (g.M.Media.disk c.load.new.media) c.step_in.ensures.ring c.step_in.ensures.left
      (judged_on c.args.self.now c.load.new.self _ _ c.load.ensures.ring c.load.ensures.unchanged c.load.ensures.bytes c.args.slot c.in_ok-held.ensures.loaded c.in_ok-held.held c.in_ok-held.ensures.held c.in_ok-held.ensures.judged judged);
  reads = search rules;
  knows = search rules;
  unchanged = search rules;
}

pub returns-clause-steps : goal.returns-clause-steps
returns-clause-steps g c =
    let ring = c.args.self.now in
    let before = g.M.Media.disk c.args.media.now in
    let slot = c.args.slot in
    let steps : g.M.Media.tells → IsLoaded ring before
    → Steps c.args.selection.now ring.medium slot (place_of ring.segment slot) (slot_read ring slot before) c.args.visit.now c.step_in.result c.step_in.new.visit
    = λ told loaded.
    read_steps c.args.selection.now ring c.load.new.self before (g.M.Media.disk c.load.new.media) slot c.args.visit.now c.clear_item.new.self c.step_in.new.visit c.step_in.result told
    c.load.ensures.ring c.clear_item.ensures c.load.ensures.unchanged (c.load.ensures.bytes loaded) c.in_ok-held.ensures.loaded c.step_in.ensures.steps in
    let stepped = λ (told : g.M.Media.tells) (judged : HasJudged ring before). steps told (λ j loaded told. (judged j loaded told).0) in
    let intact : g.M.Media.tells → HasJudged ring before → IsIntact (slot_read ring slot before) =
    slot_intact ring c.load.new.self before (g.M.Media.disk c.load.new.media) c.load.ensures.ring c.load.ensures.unchanged c.load.ensures.bytes slot c.in_ok-held.ensures.loaded c.in_ok-held.held
    c.in_ok-held.ensures.held c.in_ok-held.ensures.judged in
    record {
      stands = search rules;
      item = search rules;
      loaded = search rules;
      intact = search (rules, intact);
      onward = search rules;
      steps = steps;
      visits = λ told placed records reads ahead.
          step_visits c.args.selection.now ring placed before slot _ c.args.visit.now c.step_in.new.visit records c.step_in.result told c.requires.within reads ahead (steps told reads.loaded);
      among = λ told judged stands. stands_among ring before slot c.args.visit.now c.step_in.new.visit c.args.selection.now c.step_in.result (intact told judged) stands (stepped told judged);
      medium = search rules;
      damaged = λ told judged stands.
          step_damage ring before slot c.args.visit.now c.step_in.new.visit c.args.selection.now c.step_in.result (intact told judged) stands (stepped told judged);
    }

pub returns-in_err-held-clause-steps : goal.returns-in_err-held-clause-steps
returns-in_err-held-clause-steps g c =
    let ring = c.args.self.now in
    let before = g.M.Media.disk c.args.media.now in
    let slot = c.args.slot in
    let steps : g.M.Media.tells → IsLoaded ring before
    → Steps c.args.selection.now ring.medium slot (place_of ring.segment slot) (slot_read ring slot before) c.args.visit.now c.from_residual.result c.clear_item.new.self
    = search rules in
    record {
      stands = search rules;
      item = search rules;
      loaded = search rules;
      intact = search rules;
      onward = search rules;
      steps = steps;
      visits = λ told placed records reads ahead.
          step_visits c.args.selection.now ring placed before slot _ c.args.visit.now c.clear_item.new.self records c.from_residual.result told c.requires.within reads ahead (steps told reads.loaded);
      among = λ told judged stands. not_moved ring before c.args.visit.now c.clear_item.new.self c.clear_item.ensures stands;
      medium = search rules;
      damaged = search rules;
    }
