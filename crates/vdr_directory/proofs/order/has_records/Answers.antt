use Rattle.std.proofs.Common.{arith, ap, sym, subst, ◌∙◌}
use Rattle.std.specs.Prelude.{◌↔◌, Bool, IsTrue, Option, is_some}
use Rattle.std.proofs.lemmas.Bool.{ltb-true, lt-ltb}
use Rattle.vdr_index.specs.declared.extent.Extent.{Extent}
use Rattle.vdr_directory.specs.Knowns.{HasNoneBy}
use Rattle.vdr_directory.proofs.Extents.{count_summarized, has_some_bare}
use Rattle.vdr_directory.proofs.order.has_records.Goals as goal

pub returns-in-Some : goal.returns-in-Some
returns-in-Some c p d =
    let count = count_summarized p _ (sym d.summary ∙ c.in-Some.is) in (
      λ b none. let some = ltb-true 0 c.in-Some.summary.count b in let bad : ⊥ = omega (arith, count, none, some) in bad,
      λ some. lt-ltb 0 c.in-Some.summary.count (omega (arith, count, some)),
    )

pub returns-in-None : goal.returns-in-None
returns-in-None c p d =
    subst (λ (b : Bool). IsTrue b ↔ (HasNoneBy p → ⊥)) (sym (c.is_some.ensures ∙ ap (λ (o : Option Extent). is_some o) c.extent.ensures)) (has_some_bare p _ d c.in-None.is)
