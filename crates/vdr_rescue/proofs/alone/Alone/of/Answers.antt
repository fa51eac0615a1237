use Rattle.std.proofs.Common.{◌<◌, All, sym, subst}
use Rattle.std.proofs.lemmas.List.Sorted.{All-permutation}
use Rattle.vdr_rescue.specs.declared.fronts.Head.{Head}
use Rattle.vdr_rescue.specs.Fronts.{FrontsState}
use Rattle.vdr_rescue.proofs.alone.Alone.of.Goals as goal

pub new-requires : goal.new-requires
new-requires c = record {
  slots = All-permutation (λ (h : Head). h.slot < c.args.area.slots) _ _ c.sort.ensures.moved
      (subst (λ (f : FrontsState). All (λ (h : Head). h.slot < c.args.area.slots) f.heads) (sym c.fronts.view_is) c.requires.slots);
}
