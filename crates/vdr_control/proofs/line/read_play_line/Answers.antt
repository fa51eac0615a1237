use Rattle.std.proofs.Common.{◌≡◌, ◌<◌, ℕ, List, [], ◌∷◌, ◌++◌, length, codes, Option, None, Some, IfSome, rules, arith}
use Rattle.vdr_control.specs.Lines.{IsPlayLine}
use Rattle.vdr_control.specs.Words.{words}
use Rattle.vdr_control.specs.Orders.{plain}
use Rattle.vdr_control.specs.Plays.{SpellsPlay}
use Rattle.vdr_control.specs.declared.order.Order.{Order}
use Rattle.vdr_control.proofs.line.read_play_line.Goals as goal

if_play : (result : Option Order) (line rest medium channel from to : List ℕ) → line ≡ codes "PLAY " ++ rest → words rest ≡ medium ∷ channel ∷ from ∷ to ∷ [] → 0 < length channel
    → IfSome result (λ order. SpellsPlay medium channel from to (plain order)) → IfSome result (λ order. IsPlayLine line (plain order))
if_play None line rest medium channel from to begins cut named spelled = tt
if_play (Some order) line rest medium channel from to begins cut named spelled =
    record { rest = rest; medium = medium; channel = channel; from = from; to = to; begins = begins; cut = cut; named = named; spelled = spelled }

pub returns-clause-found : goal.returns-clause-found
returns-clause-found c =
    let named : 0 < length c.in_ok-medium.channel.now = search rules in
    if_play c.read_play.result c.args.line.now c.in_ok-rest.rest.now c.in_ok-medium.medium.now c.in_ok-medium.channel.now c.in_ok-medium.from.now c.in_ok-medium.to.now c.in_ok-rest.ensures.found c.in_ok-medium.ensures.found named c.read_play.ensures.found
