use Rattle.vdr_feed.proofs.Spelled.{no_fault, same_item}
use Rattle.vdr_feed.proofs.law.law_of_written_items.Goals as goal

pub returns : goal.returns
returns c =
    λ limit count floor i rest room legal.
    (no_fault limit count floor i rest room legal, λ other more is_legal same. same_item floor floor i other rest more legal is_legal same)
