use Rattle.std.proofs.Common.{◌∙◌, List, Option, Some, None, get_or, sym, ap, subst}
use Rattle.vdr_index.specs.declared.known.Known.{Known}
use Rattle.vdr_info.specs.Helds.{TellsFirst}
use Rattle.vdr_info.specs.declared.held.Stand.{Stand}
use Rattle.vdr_info.proofs.InfoLemmas.{begin_in, first_told}
use Rattle.vdr_info.proofs.surveying.first_of.Goals as goal

pub returns : goal.returns
returns c count known described tells =
    let at = first_told known c.args.opened.now c.args.directory.now.index described tells.index.kept c.in_ok-entry.entry.now (sym c.in_ok-entry.ensures.value) in
    subst (λ (o : Option Stand). TellsFirst known o)
    (ap begin_in (ap (λ (index : List (Option Known)). get_or index c.in_ok-entry.entry.now.slot None) (sym c.index.ensures.index) ∙ sym c.known.ensures ∙ c.in_ok-known.was) ∙ ap (λ (s : Stand). Some s) (sym c.of_segment.ensures)) at
