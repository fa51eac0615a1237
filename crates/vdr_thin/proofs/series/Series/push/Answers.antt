use Rattle.vdr_thin.specs.Tables.{Key}
use Rattle.vdr_thin.proofs.Placing.{ordered_after}
use Rattle.vdr_thin.proofs.series.Series.push.Goals as goal

pub invariant_of-self : goal.invariant_of-self
invariant_of-self c =
    let key : Key = record { kind = c.args.kind; text = c.args.key.now } in
    record {
      step = c.self.invariant.step;
      ordered = ordered_after c.self.inside.step c.self.inside.rows.items key c.args.reading c.self.invariant.ordered c.push_reading.new.rows.items c.push_reading.result c.push_reading.ensures.rows c.push_reading.ensures.kept;
    }
