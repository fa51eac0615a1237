use Rattle.std.proofs.Common.{◌≡◌, inl, inr, ◌∙◌, ℕ, List, get_or, refl, sym, subst, arith}
use Rattle.std.proofs.lemmas.Result.{on_ok_weaker}
use Rattle.vdr_terms.specs.Needs.{Fits}
use Rattle.vdr_config.specs.Sizes.{sizes_of}
use Rattle.vdr_outside.proofs.Counts.{none_falls_join}
use Rattle.vdr_media.proofs.Causes.{among_after, cause_among}
use Rattle.vdr_media.proofs.Emptied.{settled_besides}
use Rattle.vdr_media.proofs.Formats.{all_made, all_moments, beside_changed, beside_closed, beside_join, beside_others, beyond, first_moments, goes_on}
use Rattle.vdr_media.proofs.Two.{first_of, not_first}
use Rattle.vdr_media.proofs.Unformatted.{closed_as_read}
use Rattle.vdr_media.proofs.emptying.make_all_empty.Goals as goal

pub returns-in_err-unformat-clause-moments : goal.returns-in_err-unformat-clause-moments
returns-in_err-unformat-clause-moments g c = inl (record { failed = c.from_residual.ensures.0; moments = c.unformat.ensures.moments })

pub returns-in_err-unformat-clause-others : goal.returns-in_err-unformat-clause-others
returns-in_err-unformat-clause-others g c told = record {
  image = (g.M.Media.disk c.args.media.now).reads;
  was = refl;
  same = λ k others. c.unformat.ensures.others told k (not_first k others);
}

pub returns-in_err-unformat-clause-others_meanwhile :
    goal.returns-in_err-unformat-clause-others_meanwhile
returns-in_err-unformat-clause-others_meanwhile g c = beside_closed _ _ _ not_first c.unformat.ensures.moments

pub make_others_empty-requires-clause-fits : goal.make_others_empty-requires-clause-fits
make_others_empty-requires-clause-fits g c k low high =
    let is : 1 ≡ k = omega (arith, low, high) in
    subst (λ (sizes : List ℕ). Fits (sizes_of c.args.config.now) k (get_or sizes k 0)) (sym c.unformat.ensures.sizes)
    (subst (λ (m : ℕ). Fits (sizes_of c.args.config.now) m (get_or (g.M.Media.disk c.args.media.now).sizes m 0)) is c.requires.long)

pub returns-in_err-make_others_empty-clause-moments : goal.returns-in_err-make_others_empty-clause-moments
returns-in_err-make_others_empty-clause-moments g c = inr (goes_on _ _ _ _
    c.unformat.ensures.moments
    (first_moments 0 c.args.config.now c.args.text.now _ _ (c.in_ok-unformat.ensures.done (λ is. closed_as_read (g.M.Media.disk c.args.media.now) c.requires.room (c.requires.unformatted is))) c.make_others_empty.ensures.meanwhile))

pub returns-in_err-make_others_empty-clause-others : goal.returns-in_err-make_others_empty-clause-others
returns-in_err-make_others_empty-clause-others g c told = record {
  image = (g.M.Media.disk c.args.media.now).reads;
  was = refl;
  same = λ k others. c.make_others_empty.ensures.others told k (beyond 0 k others) ∙ c.unformat.ensures.others told k (not_first k others);
}

pub returns-in_err-make_others_empty-clause-others_meanwhile :
    goal.returns-in_err-make_others_empty-clause-others_meanwhile
returns-in_err-make_others_empty-clause-others_meanwhile g c =
    beside_join _ _ _ _ (beside_closed _ _ _ not_first c.unformat.ensures.moments) (beside_others 0 _ _ c.make_others_empty.ensures.meanwhile)

pub returns-in_err-make_others_empty-clause-cause : goal.returns-in_err-make_others_empty-clause-cause
returns-in_err-make_others_empty-clause-cause g c = among_after _ _ _ _ _ _ c.unformat.ensures.cause.later c.in_err-make_others_empty.ensures.cause

pub returns-clause-done : goal.returns-clause-done
returns-clause-done g c =
    on_ok_weaker c.make_empty.result (λ first. all_made 0 c.args.config.now c.args.text.now _ _
    (c.in_ok-unformat.ensures.done (λ is. closed_as_read (g.M.Media.disk c.args.media.now) c.requires.room (c.requires.unformatted is))) c.make_others_empty.ensures.meanwhile
    c.in_ok-make_others_empty.ensures.done _ _ c.make_empty.ensures.meanwhile c.make_empty.ensures.others first) c.make_empty.ensures.done

pub returns-clause-moments : goal.returns-clause-moments
returns-clause-moments g c =
    let closed = c.in_ok-unformat.ensures.done (λ is. closed_as_read (g.M.Media.disk c.args.media.now) c.requires.room (c.requires.unformatted is)) in
    let kept = settled_besides 1 2 0 _ _ _ (inl (omega arith)) c.make_others_empty.ensures.meanwhile c.make_others_empty.ensures.others closed in
    inr (goes_on _ _ _ _
    c.unformat.ensures.moments
    (all_moments 0 c.args.config.now c.args.text.now _ _ closed c.make_others_empty.ensures.meanwhile c.in_ok-make_others_empty.ensures.done _ (c.make_empty.ensures.moments kept)))

pub returns-clause-others : goal.returns-clause-others
returns-clause-others g c told = record {
  image = (g.M.Media.disk c.args.media.now).reads;
  was = refl;
  same = λ k others. c.make_empty.ensures.others told k (not_first k others) ∙ c.make_others_empty.ensures.others told k (beyond 0 k others) ∙ c.unformat.ensures.others told k (not_first k others);
}

pub returns-clause-others_meanwhile : goal.returns-clause-others_meanwhile
returns-clause-others_meanwhile g c =
    beside_join _ _ _ _
    (beside_join _ _ _ _ (beside_closed _ _ _ not_first c.unformat.ensures.moments) (beside_others 0 _ _ c.make_others_empty.ensures.meanwhile))
    (beside_changed _ 0 _ _ _ not_first c.make_empty.ensures.meanwhile)

pub returns-clause-cause : goal.returns-clause-cause
returns-clause-cause g c = cause_among _ 0 _ _ _ _ first_of (none_falls_join _ _ _ c.unformat.ensures.cause.later c.make_others_empty.ensures.cause.later) c.make_empty.ensures.cause
