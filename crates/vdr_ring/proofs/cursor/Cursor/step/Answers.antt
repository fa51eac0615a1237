use Rattle.std.proofs.Common.{◌≡◌, Bool, false, [], Some, refl, Ok, Err, ◌∙◌, ap, sym, subst, arith, rules}
use Rattle.std.proofs.lemmas.Option.{none-some}
use Rattle.std.proofs.lemmas.Result.{err_from_is_err_and}
use Rattle.vdr_ring.specs.declared.refused.ReadRefused.{ReadRefused}
use Rattle.vdr_entry.specs.Queries.{asked}
use Rattle.vdr_index.specs.Indexes.{span_as}
use Rattle.vdr_ring.specs.Steps.{TellsDamage}
use Rattle.vdr_ring.specs.Walks.{AreLeft, CursorState, slots_read}
use Rattle.vdr_ring.proofs.Midway.{entered_onward, found_next, found_or_none, is_behind, keeps_since, left_since, meets_at_end, meets_at_start, meets_since}
use Rattle.vdr_ring.proofs.Midway.{not_refused, passed_then, refused_next, tells_done, tells_since}
use Rattle.vdr_ring.proofs.cursor.Cursor.step.Goals as goal

pub returns-in_err-step_in-clause-keeps : goal.returns-in_err-step_in-clause-keeps
returns-in_err-step_in-clause-keeps g c =
    let p = err_from_is_err_and c.from_residual.result c.from_residual.ensures.1 in
    keeps_since c.loop-self.invariant c.step_in.ensures.keeps c.from_residual.result (c.in_err-step_in.was ∙ sym (p.1 ∙ ap (λ (x : ReadRefused). Err x) p.2))

pub returns-in_err-step_in-clause-plays : goal.returns-in_err-step_in-clause-plays
returns-in_err-step_in-clause-plays g c told placed records reads left =
    let p = err_from_is_err_and c.from_residual.result c.from_residual.ensures.1 in
    refused_next c.loop-self.invariant c.step_in.new.self c.step_in.result c.step_in.ensures.steps told placed records reads left
    c.in_err-step_in.field-0.0 c.from_residual.result c.in_err-step_in.was (p.1 ∙ ap (λ (x : ReadRefused). Err x) p.2)

pub returns-in_err-step_in-clause-tells : goal.returns-in_err-step_in-clause-tells
returns-in_err-step_in-clause-tells g c =
    let p = err_from_is_err_and c.from_residual.result c.from_residual.ensures.1 in
    tells_since c.loop-self.invariant c.step_in.ensures.judges c.from_residual.result (c.in_err-step_in.was ∙ sym (p.1 ∙ ap (λ (x : ReadRefused). Err x) p.2))
    (λ none. not_refused p.0 (sym none ∙ p.1))

pub returns-then-not-enter_next-clause-keeps : goal.returns-then-not-enter_next-clause-keeps
returns-then-not-enter_next-clause-keeps g c =
    let keeps = keeps_since c.loop-self.invariant c.step_in.ensures.keeps c.step_in.result refl in
    let left = left_since c.loop-self.invariant c.step_in.ensures.keeps c.in_ok-step_in.field-0 c.in_ok-step_in.was in
    let entered = c.enter_next.ensures.spends in
    record {
      read = keeps.read;
      counts = keeps.counts;
      spends = record { within = keeps.spends.within; left = omega (arith, left, entered) };
      may = search rules;
      item = search rules;
      onward = search rules;
      cause = search rules;
    }

pub returns-then-not-enter_next-clause-plays : goal.returns-then-not-enter_next-clause-plays
returns-then-not-enter_next-clause-plays g c told placed records reads left =
    let query = asked c.args.selection.now.query in
    let span = span_as c.args.selection.now.span in
    let slots = slots_read c.args.ring.now (g.M.Media.disk c.args.media.now) in
    let later = c.step_in.ensures.keeps.read.reads placed (c.loop-self.invariant.read.reads placed reads) in
    let behind =
    is_behind c.loop-self.invariant c.step_in.new.self c.step_in.result c.step_in.ensures.steps told placed records reads left
    (c.in_ok-step_in.was ∙ ap (λ (b : Bool). Ok b) c.if-not-branch.true) in
    let entered = c.enter_next.ensures.enters slots placed records later.directory later.order behind in
    let none : records ≡ [] = entered.1 c.if-not-enter_next.true in
    (none, c.enter_next.ensures.item, subst (AreLeft slots placed query (Some span) c.enter_next.new.self) none entered.0)

pub returns-then-not-enter_next-clause-tells : goal.returns-then-not-enter_next-clause-tells
returns-then-not-enter_next-clause-tells g c =
    let query = asked c.args.selection.now.query in
    let span = span_as c.args.selection.now.span in
    let keeps = keeps_since c.loop-self.invariant c.step_in.ensures.keeps c.step_in.result refl in
    subst (λ (s : CursorState). TellsDamage query span c.args.ring.now (g.M.Media.disk c.args.media.now) c.args.self.now s (Ok false))
    (sym (c.enter_next.ensures.stays c.if-not-enter_next.true))
    (tells_done c.loop-self.invariant c.step_in.ensures.judges keeps.read (c.in_ok-step_in.was ∙ ap (λ (b : Bool). Ok b) c.if-not-branch.true)
    c.enter_next.ensures.passes c.if-not-enter_next.true)

pub loop-self-preserved : goal.loop-self-preserved
loop-self-preserved g c =
    let query = asked c.args.selection.now.query in
    let span = span_as c.args.selection.now.span in
    let start = slots_read c.args.ring.now (g.M.Media.disk c.args.media.now) in
    let judges = c.step_in.ensures.judges in
    let entered = c.if-not-enter_next.false in
    let keeps = keeps_since c.loop-self.invariant c.step_in.ensures.keeps c.step_in.result refl in
    let left = left_since c.loop-self.invariant c.step_in.ensures.keeps c.in_ok-step_in.field-0 c.in_ok-step_in.was in
    let spends = c.enter_next.ensures.spends in
    let none = c.in_ok-step_in.was ∙ ap (λ (b : Bool). Ok b) c.if-not-branch.true in
    record {
      read = keeps.read;
      counts = keeps.counts;
      spent = omega (arith, left, spends);
      may = c.enter_next.ensures.may;
      among = λ told judged stands slot at. absurd (none-some slot (sym (c.enter_next.ensures.front entered) ∙ at));
      meets = λ meets.
          let there = meets_at_end query span c.step_in.new.self.standing keeps.read (meets_since c.loop-self.invariant judges meets) in
          meets_at_start query span c.enter_next.new.self.standing keeps.read (c.enter_next.ensures.meets there);
      passed = passed_then c.loop-self.invariant judges keeps.read none c.enter_next.ensures.passes;
      onward = entered_onward c.loop-self.invariant c.step_in.new.self c.enter_next.new.self judges.standing (c.enter_next.ensures.entered entered);
      left = λ told placed records reads left.
          let later = c.step_in.ensures.keeps.read.reads placed (c.loop-self.invariant.read.reads placed reads) in
          let behind = is_behind c.loop-self.invariant c.step_in.new.self c.step_in.result c.step_in.ensures.steps told placed records reads left none in
          (c.enter_next.ensures.enters start placed records later.directory later.order behind).0;
    }

pub returns-clause-keeps : goal.returns-clause-keeps
returns-clause-keeps g c = keeps_since c.loop-self.invariant c.step_in.ensures.keeps _ (c.in_ok-step_in.was ∙ ap (λ (b : Bool). Ok b) c.if-not-branch.false)

pub returns-clause-plays : goal.returns-clause-plays
returns-clause-plays g c told placed records reads left =
    found_next c.loop-self.invariant c.step_in.new.self c.step_in.result c.step_in.ensures.steps told placed records reads left
    (c.in_ok-step_in.was ∙ ap (λ (b : Bool). Ok b) c.if-not-branch.false)

pub returns-clause-tells : goal.returns-clause-tells
returns-clause-tells g c =
    tells_since c.loop-self.invariant c.step_in.ensures.judges _ (c.in_ok-step_in.was ∙ ap (λ (b : Bool). Ok b) c.if-not-branch.false) found_or_none
