use Rattle.std.proofs.Common.{List, Option, None, Ok, get_or, refl, sym, ap, ◌∙◌}
use Rattle.std.proofs.lemmas.Result.{IfOk-from_err}
use Rattle.std.specs.Prelude.{⊤}
use Rattle.vdr_outside.proofs.Counts.{none_fell, none_falls_join}
use Rattle.vdr_outside.proofs.Moments.{changes_join}
use Rattle.vdr_index.specs.declared.known.Known.{Known}
use Rattle.vdr_ring.proofs.Alike.{alike_all, alike_before, alike_moments, alike_next, alike_settled, first_known, front_before, front_more}
use Rattle.vdr_ring.proofs.bringing.summarize_all.Goals as goal
use Rattle.vdr_ring.proofs.bringing.summarize_all.Goals.{in-Some+in_ok-summarize, in_default}

pub loop-slot-init : goal.loop-slot-init
loop-slot-init g c = record {
  brought = λ placed told h. (alike_before _ _ _ _ placed _ _ h, h);
  front = front_before _ _;
  durable = λ synced. synced;
  others = λ told k ne. refl;
  sizes = refl;
  counts = refl;
  cause = none_fell _;
}

pub loop-slot-preserved : goal.loop-slot-preserved
loop-slot-preserved g c =
    let so_far = c.loop-slot.invariant in
    let index = ap (λ (index : List (Option Known)). get_or index (get_or c.args.bare.now c.loop-slot.slot-index 0) None) (sym c.index.ensures.index) ∙ sym c.known.ensures in
    elim c.match-known.branch [
      | in-Some+in_ok-summarize w ↦ rw w.media-is (record {
        brought = λ placed told h.
            let b = so_far.brought placed told h in
            let n = alike_next _ _ _ _ placed _ _ _ c.loop-slot-test.true b.1 in (
              changes_join _ _ _ _ _ b.0 (alike_moments _ _ _ _ placed _ _ _ n _ (index ∙ w.in-Some.is) _ told w.summarize.ensures.moments),
              alike_settled _ _ _ _ placed _ _ _ n _ (index ∙ w.in-Some.is) _ told {T = ⊤} {E = ⊤} (Ok tt) w.in_ok-summarize.ensures.settled,
            );
        front = front_more _ _ _ _ so_far.front so_far.durable w.summarize.ensures.front;
        durable = λ synced. w.in_ok-summarize.ensures.writes.durable;
        others = λ told k ne. w.summarize.ensures.writes.medium.others told k ne ∙ so_far.others told k ne;
        sizes = w.summarize.ensures.writes.medium.sizes ∙ so_far.sizes;
        counts = w.summarize.ensures.writes.medium.counts ∙ so_far.counts;
        cause = none_falls_join _ _ _ so_far.cause w.summarize.ensures.writes.medium.cause.later;
      })
      | in_default w ↦ rw w.media-is (record {
        brought = λ placed told h.
            let b = so_far.brought placed told h in
            absurd (first_known _ _ _ _ placed _ _ _ (alike_next _ _ _ _ placed _ _ _ c.loop-slot-test.true b.1) (index ∙ w.in_default.is));
        front = so_far.front;
        durable = so_far.durable;
        others = so_far.others;
        sizes = so_far.sizes;
        counts = so_far.counts;
        cause = so_far.cause;
      })
    ]

pub returns-in_err-summarize-clause-brought : goal.returns-in_err-summarize-clause-brought
returns-in_err-summarize-clause-brought g c placed told h =
    let index = ap (λ (index : List (Option Known)). get_or index (get_or c.args.bare.now c.loop-slot.slot-index 0) None) (sym c.index.ensures.index) ∙ sym c.known.ensures in
    let b = c.loop-slot.invariant.brought placed told h in
    let n = alike_next _ _ _ _ placed _ _ _ c.loop-slot-test.true b.1 in (
      changes_join _ _ _ _ _ b.0 (alike_moments _ _ _ _ placed _ _ _ n _ (index ∙ c.in-Some.is) _ told c.summarize.ensures.moments),
      IfOk-from_err c.from_residual.result _ c.from_residual.ensures.0,
    )

pub returns-in_err-summarize-clause-front : goal.returns-in_err-summarize-clause-front
returns-in_err-summarize-clause-front g c = front_more _ _ _ _ c.loop-slot.invariant.front c.loop-slot.invariant.durable c.summarize.ensures.front

pub returns-clause-brought : goal.returns-clause-brought
returns-clause-brought g c placed told h =
    let b = c.loop-slot.invariant.brought placed told h in
    (b.0, alike_all _ _ _ _ placed _ _ _ c.loop-slot-test.false b.1)
