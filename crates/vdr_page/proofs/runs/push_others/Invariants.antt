use Rattle.std.proofs.Common.{◌≡◌, ◌++◌, codes, take}
use Rattle.std.specs.List.{flat_map}
use Rattle.vdr_page.specs.Runs.{point_text}
use Rattle.vdr_page.proofs.runs.push_others.Given as goal

abbrev pub invariant-loop-point : goal.invariant-loop-point
invariant-loop-point l = l.text.items ≡ l.initial.text.items ++ flat_map (λ q. codes "," ++ point_text q) (take l.point-index l.points)
