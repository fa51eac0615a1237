use Rattle.std.proofs.Common.{◌≡◌, ◌+◌, ◌∙◌, sym, ap}
use Rattle.vdr_core.specs.Recorder.{Recorder, admits, recorder_after, tick_with}
use Rattle.vdr_core.specs.Runs.{RunStart}
use Rattle.vdr_core.specs.Taken.{Captured}
use Rattle.vdr_run.specs.Making.{item_told}
use Rattle.vdr_run.specs.Sizes.{bytes_of, charge, run_by}
use Rattle.vdr_run.proofs.Foretelling.{charge_is, decided_by, tick_is}
use Rattle.vdr_run.proofs.charges.Charges.size_of.Goals as goal

pub returns : goal.returns
returns c limits popped bytes h len =
    let start : RunStart = run_by limits in
    let r : Recorder = recorder_after start popped in
    let x : Captured = item_told c.args.item.now bytes in
    let ticks : tick_with start r x ≡ c.max-tick.result = tick_is limits popped x c.args.self.now.greatest h.greatest ∙ sym c.max-tick.ensures in
    let decides : admits start r x ≡ c.admits-is_admitted.result = decided_by limits popped x c.args.self.now.meter c.admits-is_admitted.result c.max-tick.result c.args.len c.admits-is_admitted.ensures.exact h.metered c.requires.group ticks len in
    charge_is limits popped x c.admits-is_admitted.result c.is_due.result decides (c.is_due.ensures limits popped h)
    ∙ ap (λ n. bytes_of limits popped + n) (ap (charge c.admits-is_admitted.result c.is_due.result) len ∙ sym c.size_as.ensures)
