use Rattle.std.proofs.Common.{◌≡◌, ◌∙◌, refl, sym}
use Rattle.vdr_core.specs.Recorder.{Recorder, admits, recorder_after, tick_with}
use Rattle.vdr_core.specs.Runs.{RunStart}
use Rattle.vdr_core.specs.Taken.{Captured}
use Rattle.vdr_run.specs.Making.{item_told}
use Rattle.vdr_run.specs.Sizes.{run_by}
use Rattle.vdr_run.proofs.Foretelling.{decided_by, foretells_more, tick_is}
use Rattle.vdr_run.proofs.Meters.{measured}
use Rattle.vdr_run.proofs.charges.Charges.count.Goals as goal

pub returns : goal.returns
returns c limits popped bytes h len =
    let start : RunStart = run_by limits in
    let r : Recorder = recorder_after start popped in
    let x : Captured = item_told c.args.item.now bytes in
    let ticks : tick_with start r x ≡ c.max-self.result = tick_is limits popped x c.args.self.now.greatest h.greatest ∙ sym c.max-self.ensures in
    let decides : admits start r x ≡ c.admit.result = decided_by limits popped x c.args.self.now.meter c.admit.result c.max-self.result c.args.len c.admit.ensures.exact h.metered c.requires.group ticks len in
    foretells_more limits popped x c.args.self.now _ h c.requires.group c.admit.result decides c.max-self.ensures refl
    (measured start r x c.args.self.now.meter c.admit.new.self c.admit.result c.max-self.result c.args.len
    (record { exact = c.admit.ensures.exact; refused = c.admit.ensures.refused; rates = c.admit.ensures.rates; recorded = c.admit.ensures.recorded })
    h.metered c.requires.group ticks len)
