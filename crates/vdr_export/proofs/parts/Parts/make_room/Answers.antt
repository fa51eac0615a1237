use Rattle.std.proofs.Common.{rules, ◌≡◌, ℕ, List, Option, map, subst}
use Rattle.vdr_export.specs.Collected.{room_for}
use Rattle.vdr_export.specs.Kept.{kept}
use Rattle.vdr_export.proofs.Placing.{roomy}
use Rattle.vdr_export.proofs.parts.Parts.make_room.Goals as goal

pub returns-then-is_empty-clause-room : goal.returns-then-is_empty-clause-room
returns-then-is_empty-clause-room c =
    let made = roomy c.self.inside.bodies.items c.in_ok-self-inside.field-0.items c.args.greatest (search rules) c.in_ok-self-inside.ensures.parts in (
      subst (λ (s : List (Option (List ℕ))). map kept c.in_ok-self-inside.field-0.items ≡ room_for c.args.greatest s) c.self.view_is made.0,
      made.1,
    )
