use Rattle.std.proofs.Common.{◌≡◌, ◌<◌, ◌+◌, sym, ap, ◌∙◌, subst, arith}
use Rattle.vdr_entry.specs.Queries.{asked}
use Rattle.vdr_index.specs.declared.known.Known.{Known}
use Rattle.vdr_ring.specs.Rings.{RingState}
use Rattle.vdr_ring.proofs.OnePart.{ends_within, kept_is, one_segment, within_kept}
use Rattle.vdr_ring.proofs.ring.Ring.part_end.Goals as goal

pub last_within-requires-clause-some : goal.last_within-requires-clause-some
last_within-requires-clause-some c =
    let found = c.in_ok-slot.ensures.known in
    let same : found.known ≡ c.in-Some.known =
    kept_is c.args.self.now.directory.index _ c.in_ok-slot.slot found.known c.in-Some.known c.known.result
    (c.index.ensures.index ∙ ap (λ (r : RingState). r.directory.index) c.self.view_is) found.there c.known.ensures c.in-Some.is in
    let in_it = within_kept (asked c.args.query.now) c.args.a c.args.b found.known c.in-Some.known same found.meets_it in
    let begins = in_it.begins in
    let ends = in_it.ends in
    let order = c.if-a-b.false in
    omega (arith, begins, ends, order)

pub returns-clause-within : goal.returns-clause-within
returns-clause-within c =
    let found = c.in_ok-slot.ensures.known in
    let same : found.known ≡ c.in-Some.known =
    kept_is c.args.self.now.directory.index _ c.in_ok-slot.slot found.known c.in-Some.known c.known.result
    (c.index.ensures.index ∙ ap (λ (r : RingState). r.directory.index) c.self.view_is) found.there c.known.ensures c.in-Some.is in
    let in_it = within_kept (asked c.args.query.now) c.args.a c.args.b found.known c.in-Some.known same found.meets_it in
    ends_within c.args.a c.args.b c.last_within.result c.in-Some.known.first c.in-Some.known.summary.count (omega (arith, c.if-a-b.false)) in_it.begins in_it.ends
    c.last_within.ensures.below c.last_within.ensures.last

pub returns-clause-one : goal.returns-clause-one
returns-clause-one c placed tells order =
    let found = c.in_ok-slot.ensures.known in
    let same : found.known ≡ c.in-Some.known =
    kept_is c.args.self.now.directory.index _ c.in_ok-slot.slot found.known c.in-Some.known c.known.result
    (c.index.ensures.index ∙ ap (λ (r : RingState). r.directory.index) c.self.view_is) found.there c.known.ensures c.in-Some.is in
    one_segment (asked c.args.query.now) c.args.a c.args.b c.last_within.result c.in_ok-slot.slot c.in_ok-slot.field-0-1 c.args.self.now found
    (λ other k at h. c.in_ok-slot.ensures.least other k at (record { above = tt; meets_it = h }))
    c.last_within.ensures.below
    (subst (λ (k : Known). c.last_within.result < k.first + k.summary.count) (sym same) c.last_within.ensures.own) placed tells order
