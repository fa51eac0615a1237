use Rattle.std.proofs.Common.{◌≡◌, ◌∙◌, [], Err, refl, ap, subst, Result}
use Rattle.std.specs.Bool.{⊤}
use Rattle.std.specs.Io.KnownBytes.{Appends}
use Rattle.vdr_outside.specs.Writes.{AppendsFront}
use Rattle.vdr_entry.specs.Queries.{asked}
use Rattle.vdr_visit.specs.Visits.{ReadEnd}
use Rattle.vdr_export.specs.Listings.{Listing, listing_of, listing_text}
use Rattle.vdr_export.specs.declared.refused.ExportRefused.{ExportRefused}
use Rattle.vdr_export.proofs.Ending.{front_ends, written_ends}
use Rattle.vdr_export.proofs.Refusing.{never_blamed, output_still}
use Rattle.vdr_export.proofs.Unlisted.{no_listing, no_listing_own}
use Rattle.vdr_export.proofs.Visited.{blames_output, ended_so}
use Rattle.vdr_export.proofs.images.write_listing.Goals as goal

pub returns-in-Err-clause-listing : goal.returns-in-Err-clause-listing
returns-in-Err-clause-listing g c records told =
    let v = c.in-Err.ensures.handed [] (refl, c.new-listing.ensures) in
    no_listing c.refusal_of.result c.in-Err.stop c.refusal_of.ensures (λ is. never_blamed c.in-Err.ensures.output (ap (λ s. Err s) is)) v _ _ _ refl records told

pub returns-in-Err-clause-own : goal.returns-in-Err-clause-own
returns-in-Err-clause-own g c =
    let v = c.in-Err.ensures.handed [] (refl, c.new-listing.ensures) in
    no_listing_own c.refusal_of.result c.in-Err.stop c.refusal_of.ensures (λ is. never_blamed c.in-Err.ensures.output (ap (λ s. Err s) is)) v

pub returns-in-Err-clause-output : goal.returns-in-Err-clause-output
returns-in-Err-clause-output g c =
    let v = c.in-Err.ensures.handed [] (refl, c.new-listing.ensures) in
    output_still _ _
    (λ is. never_blamed c.in-Err.ensures.output (blames_output c.refusal_of.result c.in-Err.stop c.refusal_of.ensures v _ refl (λ none. let no : ⊥ = cc in no) is))

pub returns-in-Err-clause-leaves : goal.returns-in-Err-clause-leaves
returns-in-Err-clause-leaves g c =
    let v = c.in-Err.ensures.handed [] (refl, c.new-listing.ensures) in
    let is : ◌≡◌ {A = Result ⊤ ExportRefused} (Err c.refusal_of.result) (Err c.refusal_of.result) = refl in
    subst (λ (e : ReadEnd). g.R.Reader.leaves _ g.M.Media (asked c.args.query.now) c.args.reader.now c.visit.new.self c.args.media.now c.visit.new.media e)
    (ended_so c.refusal_of.result c.in-Err.stop c.refusal_of.ensures v _ is (λ none. let no : ⊥ = cc in no) (λ m offset none. let no : ⊥ = cc in no))
    c.in-Err.ensures.leaves

pub returns-in-Ok-clause-listing : goal.returns-in-Ok-clause-listing
returns-in-Ok-clause-listing g c records told =
    let v = c.in_default.ensures.handed [] (refl, c.new-listing.ensures) in
    let all : c.visit.new.visitor ≡ listing_of records = v.made.0.1 ∙ ap listing_of (v.are records told) in
    written_ends _ _ _ (listing_text (listing_of records)) refl
    (subst (λ (l : Listing). Appends (g.O.Sink.taken c.args.out.now) (g.O.Sink.taken c.write.new.out) (listing_text l)) all c.in-Ok.ensures.all)

pub returns-clause-listing : goal.returns-clause-listing
returns-clause-listing g c records told =
    let v = c.in_default.ensures.handed [] (refl, c.new-listing.ensures) in
    let all : c.visit.new.visitor ≡ listing_of records = v.made.0.1 ∙ ap listing_of (v.are records told) in
    front_ends _ _ _ (listing_text (listing_of records)) refl
    (subst (λ (l : Listing). AppendsFront (g.O.Sink.taken c.args.out.now) (g.O.Sink.taken c.write.new.out) (listing_text l)) all c.write.ensures.front)

pub returns-clause-leaves : goal.returns-clause-leaves
returns-clause-leaves g c = c.law_of_visits.ensures.cut _ _ _ _ _ _ c.in_default.ensures.leaves
