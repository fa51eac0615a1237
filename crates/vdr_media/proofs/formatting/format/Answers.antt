use Rattle.std.proofs.Common.{rules, ◌≡◌, ◌⊎◌, inl, inr, ℕ, Bool, true, false, List, [], ◌∷◌, get_or, Ok, sym, ◌∙◌, subst}
use Rattle.std.proofs.lemmas.Result.{err_from_is_err_and}
use Rattle.vdr_outside.specs.Causes.{Rose}
use Rattle.vdr_outside.proofs.Counts.{none_falls_join}
use Rattle.vdr_media.specs.Answers.{ReadsOneByte}
use Rattle.vdr_media.proofs.Causes.{fault_cause, no_fault, rose_among}
use Rattle.vdr_media.proofs.Formats.{formats_after_reads, formats_unchanged, beside_unchanged, beside_join}
use Rattle.vdr_media.proofs.Two.{first_of}
use Rattle.vdr_media.proofs.Unformatted.{unchanged_moments}
use Rattle.vdr_media.proofs.formatting.format.Goals as goal
use Rattle.vdr_media.proofs.formatting.format.Goals.{else-formatted-via-then-formatted+else-not-again}

-- media that are not formatted, or are to be formatted again
unless_again : {P : Type 0} (formatted again : Bool) → ((formatted ≡ true) × (again ≡ true)) ⊎ (formatted ≡ false) → (formatted ≡ false → P) → again ≡ false → P
unless_again formatted again (inl both) unformatted first = let none : ⊥ = cc in absurd none
unless_again formatted again (inr not_formatted) unformatted first = unformatted not_formatted

pub returns-in_err-formatted-clause-writes : goal.returns-in_err-formatted-clause-writes
returns-in_err-formatted-clause-writes g c = record {
  others = search rules;
  others_meanwhile = beside_unchanged _ _ _ (unchanged_moments _ _ c.are_formatted.ensures.unchanged);
  sizes = search rules;
  counts = search rules;
  cause = fault_cause _ _ _ _ c.are_formatted.ensures.cause.later (first_of (λ m. Rose (get_or (g.M.Media.faults c.args.media.now) m 0) (get_or (g.M.Media.faults c.are_formatted.new.media) m 0)) c.in_err-formatted.ensures.cause.failed);
}

pub returns-in_err-fits-clause-tested : goal.returns-in_err-fits-clause-tested
returns-in_err-fits-clause-tested g c =
    let p = err_from_is_err_and c.from_residual-in_err-fits.result c.from_residual-in_err-fits.ensures.1 in
    rw (p.1, p.2) (record { config = search rules; formatted = unless_again _ _ c.else-formatted.either c.in_ok-formatted.ensures.unformatted; small = search rules })

pub returns-in_err-fits-clause-moments : goal.returns-in_err-fits-clause-moments
returns-in_err-fits-clause-moments g c = formats_unchanged _ _ _ _ c.are_formatted.ensures.unchanged c.from_residual-in_err-fits.ensures.0

pub returns-in_err-fits-clause-writes : goal.returns-in_err-fits-clause-writes
returns-in_err-fits-clause-writes g c = record {
  others = search rules;
  others_meanwhile = beside_unchanged _ _ _ (unchanged_moments _ _ c.are_formatted.ensures.unchanged);
  sizes = search rules;
  counts = search rules;
  cause = search rules;
}

pub returns-in_err-make_all_empty-clause-tested : goal.returns-in_err-make_all_empty-clause-tested
returns-in_err-make_all_empty-clause-tested g c =
    let p = err_from_is_err_and c.from_residual-in_err-make_all_empty.result c.from_residual-in_err-make_all_empty.ensures.1 in
    rw (p.1, p.2) (record { config = search rules; formatted = inl (unless_again _ _ c.else-formatted.either c.in_ok-formatted.ensures.unformatted); small = search rules })

pub returns-in_err-make_all_empty-clause-moments :
    goal.returns-in_err-make_all_empty-clause-moments
returns-in_err-make_all_empty-clause-moments g c =
    formats_after_reads _ _ _ c.are_formatted.ensures.unchanged c.make_all_empty.result _ _ (λ is. c.from_residual-in_err-make_all_empty.ensures.0) c.make_all_empty.ensures.moments

pub returns-in_err-make_all_empty-clause-writes : goal.returns-in_err-make_all_empty-clause-writes
returns-in_err-make_all_empty-clause-writes g c = record {
  others = λ told.
      let s = c.make_all_empty.ensures.others told in
      record { image = s.image; was = s.was ∙ c.are_formatted.ensures.unchanged.reads told; same = s.same };
  others_meanwhile = beside_join _ _ _ _ (beside_unchanged _ _ _ (unchanged_moments _ _ c.are_formatted.ensures.unchanged)) c.make_all_empty.ensures.others_meanwhile;
  sizes = search rules;
  counts = subst (λ (n : List ℕ). ReadsOneByte (g.M.Media.bytes_read c.args.media.now) n) (sym c.make_all_empty.ensures.counts) c.are_formatted.ensures.counts;
  cause = fault_cause _ _ _ _ (none_falls_join _ _ _ c.are_formatted.ensures.cause.later c.make_all_empty.ensures.cause.later)
      (rose_among (0 ∷ 1 ∷ []) (g.M.Media.faults c.args.media.now) (g.M.Media.faults c.are_formatted.new.media) (g.M.Media.faults c.make_all_empty.new.media) c.are_formatted.ensures.cause.later c.in_err-make_all_empty.ensures.cause.failed);
}

pub returns-clause-tested : goal.returns-clause-tested
returns-clause-tested g c = record { config = search rules; formatted = unless_again _ _ c.else-formatted.either c.in_ok-formatted.ensures.unformatted; small = search rules }

pub returns-clause-moments : goal.returns-clause-moments
returns-clause-moments g c =
    formats_after_reads _ _ _ c.are_formatted.ensures.unchanged (Ok tt) (Ok tt) _ (λ is. is) c.in_ok-make_all_empty.ensures.moments

pub returns-clause-writes : goal.returns-clause-writes
returns-clause-writes g c = record {
  others = λ told.
      let s = c.make_all_empty.ensures.others told in
      record { image = s.image; was = s.was ∙ c.are_formatted.ensures.unchanged.reads told; same = s.same };
  others_meanwhile = beside_join _ _ _ _ (beside_unchanged _ _ _ (unchanged_moments _ _ c.are_formatted.ensures.unchanged)) c.make_all_empty.ensures.others_meanwhile;
  sizes = search rules;
  counts = subst (λ (n : List ℕ). ReadsOneByte (g.M.Media.bytes_read c.args.media.now) n) (sym c.make_all_empty.ensures.counts) c.are_formatted.ensures.counts;
  cause = no_fault _ _ _ (none_falls_join _ _ _ c.are_formatted.ensures.cause.later c.make_all_empty.ensures.cause.later);
}
