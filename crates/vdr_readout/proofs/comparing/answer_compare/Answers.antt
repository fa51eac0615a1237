use Rattle.std.proofs.Common.{◌∙◌, sym}
use Rattle.vdr_readout.proofs.CompareLemmas.{not_words, read_rose, write_rose}
use Rattle.vdr_readout.proofs.comparing.answer_compare.Goals as goal

pub returns-clause-owed : goal.returns-clause-owed
returns-clause-owed g c =
    let told = c.compare_media-ended.ensures in
    let r = c.compare_media-ended.result in
    record {
      own = λ e. not_words r (sym c.ended_as.ensures ∙ e);
      ended = r;
      status_is = c.ended_as.ensures;
      shown = told.compares;
      fault = λ e. read_rose _ _ _ _ r told.cause (sym c.ended_as.ensures ∙ e);
      output = λ e. write_rose _ _ _ _ r told.cause (sym c.ended_as.ensures ∙ e);
      unchanged = told.unchanged;
    }

pub returns-clause-known : goal.returns-clause-known
returns-clause-known g c e = not_words c.compare_media-ended.result (sym c.ended_as.ensures ∙ e)
