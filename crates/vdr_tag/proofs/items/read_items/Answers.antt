use Rattle.std.proofs.Common.{◌≡◌, ◌≤◌, ◌∙◌, ap, sym, subst, ℕ, Bool, ◌&&◌, List, [], ◌∷◌, true, false}
use Rattle.std.proofs.lemmas.Result.{err_from_is_err_and}
use Rattle.vdr_tag.specs.Values.{TagValues}
use Rattle.vdr_tag.specs.Items.{has_code, item_values, items, over_item}
use Rattle.vdr_tag.specs.Views.{values_of}
use Rattle.vdr_tag.proofs.ValueLemmas.{IsCounted}
use Rattle.vdr_tag.proofs.ItemLemmas.{Reads, ReadsAll, Reads-more, ReadsAll-last, accepted_all, is_accepted, refused_code, refused_value}
use Rattle.vdr_tag.proofs.items.read_items.Goals as goal

pub loop-item-preserved : goal.loop-item-preserved
loop-item-preserved c =
    let P : TagValues × Bool → Type 0 = λ (v, ok). Reads (values_of c.args.tags.now) c.args.text.now c.in-Some.more.now v (c.loop-item.accepted && ok) in
    subst P (λ i. (sym c.in_ok-accepted.ensures.said i, sym c.in_ok-accepted.ensures.accepted i))
    (Reads-more (values_of c.args.tags.now) c.args.text.now c.loop-item.rest.now c.in-Some.more.now c.in-Some.item.now (values_of c.loop-item.tags) c.loop-item.accepted
    c.loop-item.invariant c.in-Some.ensures.parts c.in_ok-accepted.ensures.coded)

pub returns-in_err-accepted-clause-refused : goal.returns-in_err-accepted-clause-refused
returns-in_err-accepted-clause-refused c =
    let p = err_from_is_err_and c.from_residual.result c.from_residual.ensures.1 in
    rw (p.1, p.2, c.in_err-accepted.ensures.refused.1)
    (refused_code (values_of c.args.tags.now) c.args.text.now c.loop-item.rest.now c.in-Some.item.now _ (values_of c.loop-item.tags) c.loop-item.accepted
    c.loop-item.invariant c.in-Some.ensures.parts c.in_err-accepted.ensures.refused.0)

pub returns-in_err-accepted-2-clause-refused : goal.returns-in_err-accepted-2-clause-refused
returns-in_err-accepted-2-clause-refused c =
    let p = err_from_is_err_and c.from_residual-in_err-accepted-2.result c.from_residual-in_err-accepted-2.ensures.1 in
    rw (p.1, p.2, c.in_err-accepted-2.ensures.refused.1)
    (refused_code (values_of c.args.tags.now) c.args.text.now c.loop-item.rest.now c.loop-item.rest.now _ (values_of c.loop-item.tags) c.loop-item.accepted
    c.loop-item.invariant c.in_default.ensures.whole c.in_err-accepted-2.ensures.refused.0)

-- What was read with the last item, which leaves the values and the answer of the whole.
all_read : (before : TagValues) (text rest : List ℕ) (said after : TagValues) (ok last end : Bool) → Reads before text rest said ok → items rest ≡ rest ∷ [] → has_code rest ≡ true
    → after ≡ over_item said (item_values rest) → after.others ≤ 65535 → last ≡ is_accepted rest → (ok && last) ≡ end → ReadsAll before text after end
all_read before text rest said after ok last end h whole code values fits answer e =
    let counted : IsCounted after = record { fits = fits } in
    let P : TagValues × Bool → Type 0 = λ (v, b). ReadsAll before text v b in
    subst P (λ i. (sym values i, (ap (λ b. ok && b) (sym answer) ∙ e) i)) (ReadsAll-last before text rest said ok h whole code (subst IsCounted values counted))

pub returns-then-accepted-clause-accepted : goal.returns-then-accepted-clause-accepted
returns-then-accepted-clause-accepted c =
    let last = c.in_ok-accepted-2.ensures in
    accepted_all (values_of c.args.tags.now) c.args.text.now (values_of c.add_item-2.new.tags)
    (all_read (values_of c.args.tags.now) c.args.text.now c.loop-item.rest.now (values_of c.loop-item.tags) (values_of c.add_item-2.new.tags) c.loop-item.accepted c.in_ok-accepted-2.field-0 true
    c.loop-item.invariant c.in_default.ensures.whole last.coded last.said last.counted last.accepted c.if-accepted.true)

pub returns-then-accepted-clause-said : goal.returns-then-accepted-clause-said
returns-then-accepted-clause-said c =
    let last = c.in_ok-accepted-2.ensures in
    sym (all_read (values_of c.args.tags.now) c.args.text.now c.loop-item.rest.now (values_of c.loop-item.tags) (values_of c.add_item-2.new.tags) c.loop-item.accepted c.in_ok-accepted-2.field-0 true
    c.loop-item.invariant c.in_default.ensures.whole last.coded last.said last.counted last.accepted c.if-accepted.true).values

pub returns-else-accepted-clause-refused : goal.returns-else-accepted-clause-refused
returns-else-accepted-clause-refused c =
    let last = c.in_ok-accepted-2.ensures in
    refused_value (values_of c.args.tags.now) c.args.text.now (values_of c.add_item-2.new.tags)
    (all_read (values_of c.args.tags.now) c.args.text.now c.loop-item.rest.now (values_of c.loop-item.tags) (values_of c.add_item-2.new.tags) c.loop-item.accepted c.in_ok-accepted-2.field-0 false
    c.loop-item.invariant c.in_default.ensures.whole last.coded last.said last.counted last.accepted c.if-accepted.false)
