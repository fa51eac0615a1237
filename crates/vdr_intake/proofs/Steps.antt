-- Each step keeps the rule of the queue.
use Rattle.std.proofs.Common.{◌≡◌, ◌≢◌, ◌<◌, ◌+◌, ℕ, true, true≢false, List, [], ◌∷◌, ◌++◌, length, set, refl, sym, ap, ◌∙◌, subst, ⊎_elim, append_assoc, length-append, arith}
use mathlib.Core.Option.{some}
use lib.ListN.{get_elem?}
use Rattle.crossbeam_queue.specs.Fifo.{Pushes, Pops, Forks, Merges, Learns}
use Rattle.crossbeam_queue.proofs.Lists.{at_set}
use Rattle.vdr_core.specs.Taken.{Captured}
use Rattle.vdr_intake.specs.declared.view.EndView.{EndView}
use Rattle.vdr_intake.specs.Items.{Follows, IsRun, most_items}
use Rattle.vdr_intake.specs.Rule.{Agrees, IsOrdered, HasPushed, HasPopped, IsNoLonger, IsLeft, whole, feeding, taking, joined, spent}
use Rattle.vdr_intake.proofs.Runs.{run_more, run_at}
use Rattle.vdr_intake.proofs.Views.{Each, each_set, each_more, each_first}

pub begins : IsOrdered [] (whole ∷ [])
begins = record {
  feeder = 0;
  taker = 0;
  group = 0;
  pushed = [];
  popped = [];
  queued = refl;
  run = tt;
  each = each_first (Agrees 0 0 0 [] []) whole (record { as_feeder = λ _. (refl, refl, refl); as_taker = λ _. (refl, refl, refl) });
}

pub pushes : (n port : ℕ) (v : EndView) (c : Captured) → v.feeds ≡ true → Follows v.group v.pushed c → c.number < most_items → Pushes IsOrdered n port v c (HasPushed v c)
pushes n port v c feeds follows few items views _ h at =
    let w : EndView = record v { pushed = v.pushed ++ c ∷ [] } in
    let mine : Agrees h.feeder h.taker h.group h.pushed h.popped port v = h.each port v at in
    let me = mine.as_feeder feeds in
    let pushed : List Captured = h.pushed ++ c ∷ [] in (
      w,
      record {
        feeder = h.feeder;
        taker = h.taker;
        group = h.group;
        pushed = pushed;
        popped = h.popped;
        queued = ap (λ (l : List Captured). l ++ c ∷ []) h.queued ∙ append_assoc h.popped items (c ∷ []);
        run = run_more h.group [] h.pushed c h.run (subst (λ (x : ℕ × List Captured). Follows x.0 x.1 c) (λ i. (me.1 i, me.2 i)) follows) few;
        each = each_set (Agrees h.feeder h.taker h.group pushed h.popped) views port w
            (record { as_feeder = λ _. (me.0, me.1, ap (λ (l : List Captured). l ++ c ∷ []) me.2); as_taker = mine.as_taker })
            (λ other u apart e. record {
              as_feeder = λ f. absurd (apart (((h.each other u e).as_feeder f).0 ∙ sym me.0));
              as_taker = (h.each other u e).as_taker;
            });
      },
      refl,
    )

pub queued_of : (port : ℕ) (v : EndView) → v.feeds ≡ true → Learns IsOrdered port v (IsNoLonger v)
queued_of port v feeds items views h at =
    let me = (h.each port v at).as_feeder feeds in
    let lengths : length v.pushed ≡ length h.popped + length items = ap length (me.2 ∙ h.queued) ∙ length-append h.popped items in
    omega arith

pub pops : (port : ℕ) (v : EndView) → v.takes ≡ true → Pops IsOrdered port v (HasPopped v)
pops port v takes c items views h at =
    let w : EndView = record v { popped = v.popped ++ c ∷ [] } in
    let mine : Agrees h.feeder h.taker h.group h.pushed h.popped port v = h.each port v at in
    let me = mine.as_taker takes in
    let popped : List Captured = h.popped ++ c ∷ [] in
    let here = run_at h.group [] h.popped c items (subst (λ (l : List Captured). IsRun h.group [] l) h.queued h.run) in (
      w,
      record {
        feeder = h.feeder;
        taker = h.taker;
        group = h.group;
        pushed = h.pushed;
        popped = popped;
        queued = h.queued ∙ sym (append_assoc h.popped (c ∷ []) items);
        run = h.run;
        each = each_set (Agrees h.feeder h.taker h.group h.pushed popped) views port w
            (record { as_feeder = mine.as_feeder; as_taker = λ _. (me.0, me.1, ap (λ (l : List Captured). l ++ c ∷ []) me.2) })
            (λ other u apart e. record {
              as_feeder = (h.each other u e).as_feeder;
              as_taker = λ t. absurd (apart (((h.each other u e).as_taker t).0 ∙ sym me.0));
            });
      },
      record {
        taken = refl;
        follows = subst (λ (x : ℕ × List Captured). Follows x.0 x.1 c) (λ i. (sym me.1 i, sym me.2 i)) here.0;
        few = here.1;
        order = λ feeds. (items, (mine.as_feeder feeds).2 ∙ (h.queued ∙ ap (λ (l : List Captured). l ++ c ∷ items) (sym me.2)));
      },
    )

pub is_left : (port : ℕ) (v : EndView) → v.takes ≡ true → Learns IsOrdered port v (IsLeft v)
is_left port v takes items views h at feeds =
    let mine : Agrees h.feeder h.taker h.group h.pushed h.popped port v = h.each port v at in
    (mine.as_feeder feeds).2 ∙ (h.queued ∙ ap (λ (l : List Captured). l ++ items) (sym (mine.as_taker takes).2))

-- an end that may neither push nor pop agrees with any rule
apart : (feeder taker group : ℕ) (pushed popped : List Captured) (port : ℕ) → Agrees feeder taker group pushed popped port spent
apart feeder taker group pushed popped port = record { as_feeder = λ f. absurd (true≢false (sym f)); as_taker = λ t. absurd (true≢false (sym t)) }

pub forks : (port : ℕ) (v : EndView) (group capacity : ℕ) → v ≡ whole → Forks IsOrdered port v (feeding group capacity) (taking group capacity)
forks port v group capacity is items views h at =
    let l : EndView = feeding group capacity in
    let r : EndView = taking group capacity in
    let mine : Agrees h.feeder h.taker h.group h.pushed h.popped port v = h.each port v at in
    let fed = mine.as_feeder (ap (λ (y : EndView). y.feeds) is) in
    let took = mine.as_taker (ap (λ (y : EndView). y.takes) is) in
    let pushed : [] ≡ h.pushed = ap (λ (y : EndView). y.pushed) (sym is) ∙ fed.2 in
    let popped : [] ≡ h.popped = ap (λ (y : EndView). y.popped) (sym is) ∙ took.2 in
    let vs : List EndView = set views port l in
    let P : ℕ → EndView → Type 0 = Agrees port (length vs) group h.pushed h.popped in record {
      feeder = port;
      taker = length vs;
      group = group;
      pushed = h.pushed;
      popped = h.popped;
      queued = h.queued;
      run = subst (λ (l : List Captured). IsRun group [] l) pushed tt;
      each = each_more P vs r
          (each_set P views port l
          (record { as_feeder = λ _. (refl, refl, pushed); as_taker = λ t. absurd (true≢false (sym t)) })
          (λ other u other_port e. record {
            as_feeder = λ f. absurd (other_port (((h.each other u e).as_feeder f).0 ∙ sym fed.0));
            as_taker = λ t. absurd (other_port (((h.each other u e).as_taker t).0 ∙ sym took.0));
          }))
          (record { as_feeder = λ f. absurd (true≢false (sym f)); as_taker = λ _. (refl, refl, popped) });
    }

pub merges : (port : ℕ) (v : EndView) (other : ℕ) (u : EndView) → v.takes ≡ true → u.feeds ≡ true → Merges IsOrdered port v other u (joined v u) spent
merges port v other u takes feeds items views h at two at' =
    let now : EndView = joined v u in
    let vs : List EndView = set views port now in
    let was : get_elem? views other ≡ some u = ⊎_elim (λ x. absurd (two x.0)) (λ x. x.1) (at_set views port other now u at') in
    let fed = (h.each other u was).as_feeder feeds in
    let me = (h.each port v at).as_taker takes in
    let P : ℕ → EndView → Type 0 = Agrees port h.taker h.group h.pushed h.popped in
    let Others : ℕ → EndView → Type 0 = λ at y. at ≢ other → P at y in
    let others : Each Others vs = each_set Others views port now
    (λ _. record { as_feeder = λ _. (refl, me.1, fed.2); as_taker = λ _. me })
    (λ at y _ e not_other. record {
      as_feeder = λ f. absurd (not_other (((h.each at y e).as_feeder f).0 ∙ sym fed.0));
      as_taker = (h.each at y e).as_taker;
    }) in record {
      feeder = port;
      taker = h.taker;
      group = h.group;
      pushed = h.pushed;
      popped = h.popped;
      queued = h.queued;
      run = h.run;
      each = each_set P vs other spent (apart port h.taker h.group h.pushed h.popped other) (λ at y not_other e. others at y e not_other);
    }
