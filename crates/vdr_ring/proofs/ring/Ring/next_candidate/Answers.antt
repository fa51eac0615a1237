use Rattle.std.proofs.Common.{ℕ, List, length, Option, sym, ap, ◌∙◌, subst, arith}
use Rattle.vdr_entry.specs.Queries.{asked}
use Rattle.vdr_index.specs.declared.known.Known.{Known}
use Rattle.vdr_index.specs.Indexes.{IsAbove, Keeps, span_as}
use Rattle.vdr_directory.specs.Indexed.{IsIndexed}
use Rattle.vdr_ring.specs.Rings.{RingState}
use Rattle.vdr_ring.proofs.Answering.{above_ring, found_next, none_meets, passed_none, passed_some, seq_kept, seq_read, never_none}
use Rattle.vdr_ring.proofs.ring.Ring.next_candidate.Goals as goal

pub returns-in_err-slot-clause-none : goal.returns-in_err-slot-clause-none
returns-in_err-slot-clause-none c = rw (sym c.self.view_is, c.from_residual.ensures) (λ placed tells.
    none_meets (asked c.args.query.now) (span_as c.args.span.now) c.args.after _ placed c.index-index.result.now
    (subst (λ (index : List (Option Known)). IsIndexed c.self.inside.area.slots placed index) (sym c.index-index.ensures.index) tells.index) c.in_err-slot.ensures.none)

pub returns-in_err-slot-clause-passed_over : goal.returns-in_err-slot-clause-passed_over
returns-in_err-slot-clause-passed_over c = rw (sym c.self.view_is, c.from_residual.ensures) (λ placed tells order q m up before.
    passed_none (asked c.args.query.now) (span_as c.args.span.now) c.args.after _ placed c.index-index.result.now
    (subst (λ (index : List (Option Known)). IsIndexed c.self.inside.area.slots placed index) (sym c.index-index.ensures.index) tells.index) c.law_of_candidates.ensures c.in_err-slot.ensures.none order q m up)

pub unreachable-requires : goal.unreachable-requires
unreachable-requires c =
    never_none _ _ (seq_kept _ (asked c.args.query.now) (span_as c.args.span.now) c.args.after c.in_ok-slot.slot c.in_ok-slot.ensures.some) (sym c.get.ensures ∙ c.in_default.is)

pub returns-clause-within : goal.returns-clause-within
returns-clause-within c = rw (sym c.self.view_is)
    (let lt = c.in_ok-slot.ensures.within in
    let e = ap length c.index-index.ensures.index in
    let i = c.self.invariant.0 in omega (arith, lt, e, i))

pub returns-clause-above : goal.returns-clause-above
returns-clause-above c =
    let seq_is = seq_read _ _ _ (seq_kept _ (asked c.args.query.now) (span_as c.args.span.now) c.args.after c.in_ok-slot.slot c.in_ok-slot.ensures.some) (sym c.get.ensures ∙ c.in-Some.is) in
    above_ring c.args.after c.in-Some.seq (subst (λ (n : ℕ). IsAbove c.args.after n) (sym seq_is) c.in_ok-slot.ensures.some.may.above)

pub returns-clause-known : goal.returns-clause-known
returns-clause-known c =
    let found = c.in_ok-slot.ensures.some in
    record {
      known = found.known;
      there = subst (λ (index : List (Option Known)). Keeps index c.in_ok-slot.slot found.known) (c.index-index.ensures.index ∙ ap (λ (r : RingState). r.directory.index) c.self.view_is) found.there;
      number = sym (seq_read _ _ _ (seq_kept _ (asked c.args.query.now) (span_as c.args.span.now) c.args.after c.in_ok-slot.slot found) (sym c.get.ensures ∙ c.in-Some.is));
      meets_it = found.may.meets_it;
    }

pub returns-clause-some : goal.returns-clause-some
returns-clause-some c = rw (sym c.self.view_is) (λ placed tells.
    let seq_is = seq_read _ _ _ (seq_kept _ (asked c.args.query.now) (span_as c.args.span.now) c.args.after c.in_ok-slot.slot c.in_ok-slot.ensures.some) (sym c.get.ensures ∙ c.in-Some.is) in
    found_next (asked c.args.query.now) (span_as c.args.span.now) c.args.after _ placed c.index-index.result.now
    (subst (λ (index : List (Option Known)). IsIndexed c.self.inside.area.slots placed index) (sym c.index-index.ensures.index) tells.index) c.in_ok-slot.slot c.in-Some.seq c.in_ok-slot.ensures.some seq_is)

pub returns-clause-passed_over : goal.returns-clause-passed_over
returns-clause-passed_over c = rw (sym c.self.view_is) (λ placed tells order q m up before.
    let seq_is = seq_read _ _ _ (seq_kept _ (asked c.args.query.now) (span_as c.args.span.now) c.args.after c.in_ok-slot.slot c.in_ok-slot.ensures.some) (sym c.get.ensures ∙ c.in-Some.is) in
    passed_some (asked c.args.query.now) (span_as c.args.span.now) c.args.after _ placed c.index-index.result.now
    (subst (λ (index : List (Option Known)). IsIndexed c.self.inside.area.slots placed index) (sym c.index-index.ensures.index) tells.index) c.law_of_candidates.ensures c.in_ok-slot.slot c.in-Some.seq c.in_ok-slot.ensures.some seq_is order q m up
    before)
