use Rattle.std.proofs.Common.{◌≡◌, ◌<◌, ◌++◌, ℕ, List, Bool, Option, None, length, get_or, set, arith, ap, ◌∙◌, sym, subst, append_assoc}
use Rattle.std.proofs.lemmas.List.{length-set}
use Rattle.vdr_core.specs.Taken.{Captured as CapturedTold}
use Rattle.vdr_desk.proofs.Lists.{no_default}
use Rattle.vdr_session.specs.Heads.{AreHeld, Steps}
use Rattle.vdr_session.specs.Lanes.{AreMet, held}
use Rattle.vdr_session.proofs.Charged.{ends_there, one_more}
use Rattle.vdr_session.proofs.Popped.{met_after}
use Rattle.vdr_session.proofs.Holding.{held_after, joined_after, met_there, steps_there}
use Rattle.vdr_session.proofs.heads.fill.Goals as goal

pub returns-in_default-clause-full : goal.returns-in_default-clause-full
returns-in_default-clause-full g c limits popped h =
    let a = c.loop-group.invariant.3 limits popped h in
    (ends_there limits popped c.loop-group.items.items c.loop-group.left c.args.room c.loop-group.charges a c.loop-group.heads c.next_of.new.charges
    (c.in_default.ensures.charges limits (popped ++ c.loop-group.items.items) a.foretells)).1

pub take-requires-clause-met : goal.take-requires-clause-met
take-requires-clause-met g c =
    let i = c.loop-group.invariant in (
      c.requires.met.0,
      c.in-Some.group,
      met_there c.requires.met.0 c.in-Some.group c.args.queues.now c.loop-group.takers c.loop-group.heads c.in-Some.ensures.next.0.group c.type_inv.queues i.5 i.6 c.index-queues-group.result c.index-takers-group.result None
          (i.0 c.requires.met.0 c.requires.met.1),
    )

pub loop-group-preserved : goal.loop-group-preserved
loop-group-preserved g c =
    let i = c.loop-group.invariant in
    let n = c.in-Some.group in
    let low : n < 16 = c.in-Some.ensures.next.0.group in
    let queues = c.args.queues.now in
    let takers = c.loop-group.takers in
    let heads = c.loop-group.heads in
    let taker = c.take.new.taker in
    let head = c.take.new.head in
    let more = held (get_or heads n None) in
    let within : n < length heads = omega (arith, i.6, low) in
    let same = no_default heads n c.index-heads-group.result None within in
    let batch : c.take.new.batch.items ≡ c.loop-group.items.items ++ more = c.take.ensures.batch ∙ ap (λ (x : Option CapturedTold). c.loop-group.items.items ++ held x) same in
    let now : (configured : ℕ → Bool) → AreMet configured queues c.args.takers.now → Steps configured n (get_or queues n None) (get_or takers n None) taker (get_or heads n None) head more =
    λ configured met. steps_there configured n queues takers heads low c.type_inv.queues i.5 i.6 c.index-queues-group.result c.index-takers-group.result c.index-heads-group.result (i.0 configured met)
    taker head held c.take.ensures.steps in
    let some = now c.requires.met.0 c.requires.met.1 in (
      (λ configured met. met_after n takers i.5 low taker configured queues (i.0 configured met) (now configured met).met),
      (λ before h. subst (λ (xs : List CapturedTold). AreHeld xs (set heads n head) (set takers n taker)) (append_assoc before c.loop-group.items.items more ∙ ap (λ (xs : List CapturedTold). before ++ xs) (sym batch))
          (held_after n takers heads i.5 i.6 low taker head c.requires.met.0 (get_or queues n None) more some (before ++ c.loop-group.items.items) (i.1 before h))),
      joined_after n takers heads i.5 i.6 low taker head c.requires.met.0 (get_or queues n None) more some c.args.takers.now i.2,
      (λ limits popped h.
          let a = i.3 limits popped h in
          one_more limits popped c.loop-group.items.items c.loop-group.left c.args.room c.loop-group.charges a (get_or heads n None) c.take.new.batch.items c.next_of.new.charges c.in-Some.size batch
          (c.in-Some.ensures.charges limits (popped ++ c.loop-group.items.items) a.foretells)),
      (let space = c.take.ensures.space in let kept = i.4 in omega (arith, space, kept)),
      length-set takers n taker ∙ i.5,
      length-set heads n head ∙ i.6,
    )
