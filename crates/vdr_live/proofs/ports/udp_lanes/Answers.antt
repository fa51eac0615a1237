use Rattle.std.proofs.Common.{◌+◌, ◌∙◌, ℕ, ap, length, get_or}
use Rattle.std.proofs.lemmas.List.{length_push}
use Rattle.vdr_live.proofs.Numbered.{one_more}
use Rattle.vdr_live.proofs.ports.udp_lanes.Goals as goal

pub loop-group-preserved : goal.loop-group-preserved
loop-group-preserved g c =
    let kept = c.loop-group.invariant in
    let pushed = c.in_ok-push.ensures.items in (
      ap (λ lanes. length lanes) pushed ∙ length_push c.loop-group.lanes.items c.new-in-loop-group.result ∙ ap (λ (n : ℕ). n + 1) kept.0,
      λ k d below. ap (λ lanes. (get_or lanes k d).group) pushed
          ∙ one_more c.loop-group.lanes.items c.new-in-loop-group.result c.loop-group.group kept.0 c.new-in-loop-group.ensures.group kept.1 k d below,
    )
