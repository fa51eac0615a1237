use Rattle.std.proofs.Common.{◌≡◌, ◌≤◌, ℕ, true, false, Option, Some, refl, sym, subst}
use Rattle.std.proofs.lemmas.Bool.{false≢true}
use Rattle.vdr_entry.specs.Queries.{asked}
use Rattle.vdr_index.specs.Indexes.{span_as}
use Rattle.vdr_directory.specs.Sequence.{seq_of}
use Rattle.vdr_index.specs.declared.known.Known.{Known}
use Rattle.vdr_index.specs.Indexes.{IsAbove, Keeps, MayAnswer}
use Rattle.vdr_ring.specs.declared.cursor.Standing.{Standing}
use Rattle.vdr_ring.specs.contracts.cursor.Cursor.{the_view}
use Rattle.vdr_ring.proofs.Passing.{passes_all, passes_entered}
use Rattle.vdr_ring.proofs.Spending.{entered_budget}
use Rattle.vdr_ring.proofs.Walking.{entered_left, none_left}
use Rattle.vdr_ring.proofs.cursor.Cursor.enter_next.Goals as goal

pub returns-in_default-clause-enters : goal.returns-in_default-clause-enters
returns-in_default-clause-enters c slots placed records tells order left =
    let selection = c.args.selection.now in
    let none = none_left (asked selection.query) (span_as selection.span) slots placed c.args.self.now records order left
    (λ q m above. c.in_default.ensures.passed_over placed tells order q m (subst (λ (o : Option ℕ). IsAbove o (seq_of q)) (sym c.seq.ensures) above) tt) in
    (none.0, λ _. none.1)

pub returns-clause-enters : goal.returns-clause-enters
returns-clause-enters c slots placed records tells order left =
    let selection = c.args.selection.now in
    let next = c.in-Some.ensures.some placed tells in
    let s : Standing = record { slot = c.in-Some.slot; seq = c.in-Some.seq } in (
      entered_left (asked selection.query) (span_as selection.span) slots placed c.args.self.now records order left (the_view (record { standing = Some s; visit = c.new-self-inside.result })) s next.0 next.1.there
          (subst (λ (o : Option ℕ). IsAbove o (seq_of next.0)) c.seq.ensures next.1.above)
          (λ q m above lt. c.in-Some.ensures.passed_over placed tells order q m (subst (λ (o : Option ℕ). IsAbove o (seq_of q)) (sym c.seq.ensures) above) lt)
          refl next.2 next.3 c.new-self-inside.ensures.slot,
      λ (e : true ≡ false). absurd (false≢true (sym e)),
    )

pub returns-clause-spends : goal.returns-clause-spends
returns-clause-spends c =
    let selection = c.args.selection.now in
    entered_budget (asked selection.query) (span_as selection.span) c.args.ring.now c.args.self.now.standing c.in-Some.slot c.in-Some.seq
    (subst (λ (o : Option ℕ). IsAbove o c.in-Some.seq) c.seq.ensures c.in-Some.ensures.above) c.in-Some.ensures.known

pub returns-clause-passes : goal.returns-clause-passes
returns-clause-passes c apart meets =
    let query = asked c.args.selection.now.query in
    let span = span_as c.args.selection.now.span in
    let index = c.args.ring.now.directory.index in
    let to : Standing = record { slot = c.in-Some.slot; seq = c.in-Some.seq } in
    passes_entered query span c.args.ring.now apart c.args.self.now.standing to meets
    (subst (λ (o : Option ℕ). (slot : ℕ) (k : Known) → Keeps index slot k → MayAnswer query span o k → to.seq ≤ k.seq) c.seq.ensures c.in-Some.ensures.least)

pub returns-in_default-clause-passes : goal.returns-in_default-clause-passes
returns-in_default-clause-passes c apart meets =
    let query = asked c.args.selection.now.query in
    let span = span_as c.args.selection.now.span in
    let index = c.args.ring.now.directory.index in
    passes_all query span c.args.ring.now apart c.args.self.now.standing meets
    (subst (λ (o : Option ℕ). (slot : ℕ) (k : Known) → Keeps index slot k → MayAnswer query span o k → ⊥) c.seq.ensures c.in_default.ensures.none_known)
