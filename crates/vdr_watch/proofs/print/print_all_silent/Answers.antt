use Rattle.std.proofs.Common.{◌+◌, List, ℕ, drop, get_or, subst, take}
use Rattle.std.specs.List.{flat_map}
use Rattle.vdr_outside.specs.Writes.{AppendsFront}
use Rattle.vdr_outside.proofs.Known.{front-more, pieces-at}
use Rattle.vdr_watch.specs.Signs.{Heartbeat}
use Rattle.vdr_watch.specs.Texts.{silent_text}
use Rattle.vdr_watch.proofs.print.print_all_silent.Goals as goal

pub returns-in_err-print_silent-clause-front : goal.returns-in_err-print_silent-clause-front
returns-in_err-print_silent-clause-front g c =
    let beats : List Heartbeat = c.args.beats.now in
    let text : Heartbeat → List ℕ = silent_text c.args.mark.now in
    let i : ℕ = c.loop-beat.beat-index in
    front-more (g.O.Sink.taken c.args.out.now) (g.O.Sink.taken c.loop-beat.out) (g.O.Sink.taken c.print_silent.new.out) (flat_map text (take i beats)) (text (get_or beats i c.beat-item.result))
    (flat_map text (drop (i + 1) beats)) (flat_map text beats) (pieces-at text beats i c.beat-item.result c.loop-beat-test.true) c.loop-beat.invariant.written
    (subst (λ (b : Heartbeat). AppendsFront (g.O.Sink.taken c.loop-beat.out) (g.O.Sink.taken c.print_silent.new.out) (text b)) c.beat-item.is c.in_err-print_silent.ensures.front)
