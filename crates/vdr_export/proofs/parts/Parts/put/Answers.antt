use Rattle.std.proofs.Common.{◌≡◌, ◌≤◌, ◌<◌, ◌-◌, ◌∙◌, ℕ, List, Option, length, map, set, Some, sym, ap, subst, arith}
use Rattle.std.specs.Prelude.{is_some}
use Rattle.std.proofs.lemmas.List.{length-map}
use Rattle.vdr_export.specs.Collected.{with_part}
use Rattle.vdr_export.specs.Kept.{kept}
use Rattle.vdr_export.proofs.Placing.{placed}
use Rattle.vdr_export.proofs.parts.Parts.put.Goals.{in-Some-1, in-None-1}
use Rattle.vdr_export.proofs.parts.Parts.put.Goals as goal

pub returns-in_ok-copied-clause-put : goal.returns-in_ok-copied-clause-put
returns-in_ok-copied-clause-put c =
    let items = c.self.inside.bodies.items in
    let slot : ℕ = c.args.header.now.sequence - 1 in
    let first : 1 ≤ c.args.header.now.sequence = c.args.header.now.legal.first in
    let room : c.args.header.now.sequence ≤ length c.args.self.now = c.requires.room in
    let size : length c.args.self.now ≡ length items = ap (λ (s : List (Option (List ℕ))). length s) (sym c.self.view_is) ∙ length-map items kept in
    let within : slot < length items = omega (arith, first, room, size) in
    let put : map kept (set items slot (Some c.in_ok-copied.field-0)) ≡ with_part c.args.header.now.sequence c.args.header.now.body.now c.args.self.now =
    subst (λ (s : List (Option (List ℕ))). map kept (set items slot (Some c.in_ok-copied.field-0)) ≡ with_part c.args.header.now.sequence c.args.header.now.body.now s) c.self.view_is
    (placed items slot c.in_ok-copied.field-0 c.args.header.now.body.now c.index.result.now c.is_none.result within
    (ap is_some (sym c.index.ensures) ∙ c.is_none.ensures) c.if-is_none.true c.in_ok-copied.ensures.copy) in
    elim c.match-index_mut.branch [
      | in-Some-1 w ↦ w.self-is ∙ put
      | in-None-1 w ↦ w.self-is ∙ put
    ]
