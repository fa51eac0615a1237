use Rattle.std.proofs.Common.{◌<◌, ℕ, List, [], Bool, None, get_or, set, ◌∙◌, subst, append-nil}
use Rattle.std.proofs.lemmas.List.{length-set}
use Rattle.std.proofs.lemmas.Bool.{and_parts}
use Rattle.vdr_core.specs.Taken.{Captured as CapturedTold}
use Rattle.vdr_session.specs.Heads.{AreHeld, Steps}
use Rattle.vdr_session.specs.Lanes.{AreMet}
use Rattle.vdr_session.proofs.Popped.{met_after}
use Rattle.vdr_session.proofs.Holding.{held_after, joined_after, met_there, none_after, steps_there}
use Rattle.vdr_session.proofs.heads.hold_all.Goals as goal

pub hold-none-requires : goal.hold-none-requires
hold-none-requires g c =
    let i = c.loop-group.invariant in record {
      met = (
        c.requires.met.0,
        c.loop-group.group,
        met_there c.requires.met.0 c.loop-group.group c.args.queues.now c.loop-group.takers c.loop-group.heads c.loop-group-test.true c.type_inv.queues i.4 i.5 c.index-queues-group.result c.index-takers-group.result None
            (i.0 c.requires.met.0 c.requires.met.1),
      );
    }

pub loop-group-preserved : goal.loop-group-preserved
loop-group-preserved g c =
    let i = c.loop-group.invariant in
    let n = c.loop-group.group in
    let low : n < 16 = c.loop-group-test.true in
    let queues = c.args.queues.now in
    let takers = c.loop-group.takers in
    let heads = c.loop-group.heads in
    let taker = c.hold-none.new.taker in
    let head = c.hold-none.new.head in
    let now : (configured : ℕ → Bool) → AreMet configured queues c.args.takers.now → Steps configured n (get_or queues n None) (get_or takers n None) taker (get_or heads n None) head [] =
    λ configured met. steps_there configured n queues takers heads low c.type_inv.queues i.4 i.5 c.index-queues-group.result c.index-takers-group.result c.index-heads-group.result (i.0 configured met)
    taker head (λ x. []) c.hold-none.ensures.steps in
    let some = now c.requires.met.0 c.requires.met.1 in (
      (λ configured met. met_after n takers i.4 low taker configured queues (i.0 configured met) (now configured met).met),
      (λ items held. subst (λ (xs : List CapturedTold). AreHeld xs (set heads n head) (set takers n taker)) (append-nil items)
          (held_after n takers heads i.4 i.5 low taker head c.requires.met.0 (get_or queues n None) [] some items (i.1 items held))),
      joined_after n takers heads i.4 i.5 low taker head c.requires.met.0 (get_or queues n None) [] some c.args.takers.now i.2,
      (λ both. let parts = and_parts c.loop-group.none c.hold-none.result both in none_after n takers heads i.4 i.5 low taker head (i.3 parts.0) (c.hold-none.ensures.none parts.1)),
      length-set takers n taker ∙ i.4,
      length-set heads n head ∙ i.5,
    )
