use Rattle.vdr_readout.proofs.ExportCompleteness.{exports_all}
use Rattle.vdr_readout.proofs.exporting.answer_export.Goals as goal

pub returns-clause-owed : goal.returns-clause-owed
returns-clause-owed g c =
    let ends = c.export.ensures.ends in
    record {
      ends = ends;
      complete = λ none t. exports_all _ _ _ _ t (c.law_of_openings.ensures (g.M.Media.disk c.args.world.now.media).reads) _ (λ is. none.output (ends.output is)) (λ is. none.media (ends.media.media.fault is)) ends;
    }
