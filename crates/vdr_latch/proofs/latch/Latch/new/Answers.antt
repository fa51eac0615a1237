use Rattle.std.proofs.Common.{◌≡◌, Option, Some, List, [], ◌∷◌, ◌++◌, sym, ap, ◌∙◌, subst}
use Rattle.atomic_table.specs.Table.{opening}
use Rattle.vdr_latch.specs.Rule.{IsKept}
use Rattle.vdr_latch.specs.Views.{founder}
use Rattle.vdr_latch.proofs.Ends.{opens}
use Rattle.vdr_latch.proofs.latch.Latch.new.Goals as goal

pub new-requires : goal.new-requires
new-requires g c =
    let items : c.push_reserved.new.self.items ≡ Some c.args.value ∷ [] = c.push_reserved.ensures.items ∙ ap (λ (l : List (Option g.row.T.Denot)). l ++ Some c.args.value ∷ []) c.in-Ok.ensures.items in
    subst (λ (l : List (Option g.row.T.Denot)). IsKept g.T.Stepped.leaves g.T.Stepped.leading (opening (0 ∷ 0 ∷ []) l founder)) (sym items) (opens _ _ c.args.value c.requires)
