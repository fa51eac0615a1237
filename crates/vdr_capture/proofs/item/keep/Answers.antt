use Rattle.std.proofs.Common.{◌≡◌, ℕ, [], ◌∷◌, ◌++◌, refl, sym, ap, ◌∙◌, subst}
use Rattle.std.proofs.lemmas.Int.{to_z-of_z}
use Rattle.vdr_terms.specs.Records.{Item}
use Rattle.vdr_terms.specs.Counting.{Tally}
use Rattle.vdr_core.specs.Taken.{Captured}
use Rattle.vdr_core.specs.Machine.{captured}
use Rattle.vdr_intake.specs.Items.{Follows}
use Rattle.vdr_capture.specs.Items.{HasCaptured, IsOffered}
use Rattle.vdr_capture.proofs.Keeping.{follows_next, offered_more, bad_more, large_more}
use Rattle.vdr_capture.proofs.item.keep.Goals as goal

of_group : (c : Captured) (g h : ℕ) (item : Item) (t : Tally) → g ≡ h → c ≡ captured g item t → c ≡ captured h item t
of_group c g h item t same is = is ∙ ap (λ (n : ℕ). captured n item t) same

pub offer-requires-clause-follows : goal.offer-requires-clause-follows
offer-requires-clause-follows g c =
    let item : Item = record { received = c.args.received; utc = c.args.utc; bytes = c.args.bytes.now } in
    let is = of_group c.as_captured-item.result c.group.result c.args.queue.now.group item c.args.tally.now c.group.ensures.number (simp (to_z-of_z, c.ranges.utc) at c.as_captured-item.ensures) in
    subst (λ (x : Captured). Follows c.args.queue.now.group c.args.feeder.now.pushed x) (sym is)
    (follows_next _ _ _ _ _ c.requires.so_far.1 item (sym (c.in-Yes.ensures)))

pub returns-in-Yes-clause-kept : goal.returns-in-Yes-clause-kept
returns-in-Yes-clause-kept g c given h =
    let item : Item = record { received = c.args.received; utc = c.args.utc; bytes = c.args.bytes.now } in
    let is = of_group c.as_captured-item.result c.group.result c.args.queue.now.group item c.args.tally.now c.group.ensures.number (simp (to_z-of_z, c.ranges.utc) at c.as_captured-item.ensures) in
    offered_more _ _ _ _ _ h item (sym c.in-Yes.ensures) c.args.feeder.now c.offer.new.feeder c.offer.new.tally refl refl
    (subst (λ (x : Captured). IsOffered x c.args.feeder.now c.offer.new.feeder c.args.tally.now c.offer.new.tally) is c.offer.ensures.offered)

pub returns-in-Bad-clause-kept : goal.returns-in-Bad-clause-kept
returns-in-Bad-clause-kept g c given h =
    let item : Item = record { received = c.args.received; utc = c.args.utc; bytes = c.args.bytes.now } in
    subst (λ (t : Tally). HasCaptured c.args.queue.now.group (given ++ item ∷ []) c.args.feeder.now.pushed c.args.feeder.now.full t) (sym c.bad.ensures)
    (bad_more _ _ _ _ _ h item (sym c.in-Bad.ensures))

pub returns-in-Large-clause-kept : goal.returns-in-Large-clause-kept
returns-in-Large-clause-kept g c given h =
    let item : Item = record { received = c.args.received; utc = c.args.utc; bytes = c.args.bytes.now } in
    subst (λ (t : Tally). HasCaptured c.args.queue.now.group (given ++ item ∷ []) c.args.feeder.now.pushed c.args.feeder.now.full t) (sym c.large.ensures)
    (large_more _ _ _ _ _ h item (sym c.in-Large.ensures))
