use Rattle.vdr_readout.proofs.PageLemmas.{page_known}
use Rattle.vdr_readout.proofs.PlayCompleteness.{plays_all}
use Rattle.vdr_readout.proofs.paging.answer_page.Goals as goal

pub returns-clause-owed : goal.returns-clause-owed
returns-clause-owed g c =
    let ends = c.page.ensures.ends in
    record {
      ends = ends;
      complete = λ none t. plays_all _ _ _ t (c.law_of_openings.ensures (g.M.Media.disk c.args.world.now.media).reads) _ (λ is. none.output (ends.output is)) (λ is. none.media (ends.media.media.fault is)) ends.own ends.media;
    }

pub returns-clause-known : goal.returns-clause-known
returns-clause-known g c = page_known c.page.ensures.ends
