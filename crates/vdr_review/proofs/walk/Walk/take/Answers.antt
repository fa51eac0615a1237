use Rattle.std.proofs.Common.{◌≤◌, ◌+◌, ◌∷◌, ◌++◌, [], ℕ, List, All, refl, sym, ap, ◌∙◌, subst, arith}
use Rattle.vdr_terms.specs.Records.{Record, second}
use Rattle.vdr_terms.proofs.Stamping.{stamp_kept}
use Rattle.vdr_review.specs.Review.{review_seconds}
use Rattle.vdr_review.specs.Walks.{kept_of}
use Rattle.vdr_review.proofs.Walking.{has_taken}
use Rattle.vdr_review.proofs.walk.Walk.take.Goals as goal

pub returns : goal.returns
returns c = has_taken c.args.item.now (c.args.number, c.args.missed) c.args.self.now _ c.clear.new.self _
    (λ i. record {
      group = c.args.item.now.group;
      number = c.args.number;
      received = c.args.item.now.received;
      utc = stamp_kept c.args.item.now.utc c.requires.legal.utc i;
      missed = c.args.missed;
      bytes = c.as_slice.ensures.value i;
    } ∷ [])
    refl refl (λ start popped m. c.clear.ensures.makes c.args.self.now.config start popped m) c.clear.ensures.empty c.take.ensures.making
    (let base = c.take.ensures.one.base in let later = c.take.ensures.one.later in let same = c.clear.ensures.same in omega (arith, base, later, same.0, same.1))
    c.drop_before.ensures.0
    (ap (λ (xs : List Record). c.args.self.now.window ++ kept_of xs) (sym c.records.ensures) ∙ (sym c.in_ok-keep.ensures ∙ c.drop_before.ensures.1))
    (subst (λ (n : ℕ). All (λ (r : Record). second r.tick + review_seconds ≤ second n) c.drop_before.ensures.0) c.tick.ensures.tick c.drop_before.ensures.2)
