use Rattle.std.proofs.Common.{◌≡◌, ◌*◌, ℕ, List, [], length, All, inl, sym, ◌∙◌, ap, subst, arith, length-take}
use Rattle.std.proofs.lemmas.Result.{err_from_is_err_and}
use Rattle.vdr_outside.specs.Disk.{Image, content}
use Rattle.vdr_terms.proofs.Results.{same_err}
use Rattle.vdr_directory.specs.declared.entry.Entry.{Entry}
use Rattle.vdr_directory.specs.Fronts.{AreSlots, IsSurveyed, BreaksAmong}
use Rattle.vdr_directory.proofs.Reordering.{reordered, second_within, last_done}
use Rattle.vdr_directory.proofs.Sequencing.{sequenced_slots}
use Rattle.vdr_directory.specs.Costs.{unsummarized}
use Rattle.vdr_directory.proofs.CostLemmas.{reads_join, unsummarized_by_heads}
use Rattle.vdr_directory.proofs.OneAnswer.{found_legible}
use Rattle.vdr_directory.proofs.Opened.{batch_refused, order_refused, found}
use Rattle.vdr_directory.proofs.segments.read_segments.Goals as goal

pub returns-in_err-opened-clause-damaged : goal.returns-in_err-opened-clause-damaged
returns-in_err-opened-clause-damaged g c =
    let p = err_from_is_err_and c.from_residual.result c.from_residual.ensures.1 in
    rw (p.1, p.2) (λ k offset e. let h = c.in_err-opened.ensures.damaged k offset (same_err _ _ e) in (h.0, λ told. inl (h.1 told)))

pub survey_all-requires-clause-within : goal.survey_all-requires-clause-within
survey_all-requires-clause-within g c =
    second_within _ _ _ _ _ _ [] c.in_ok-opened.ensures.slots c.in_ok-opened.ensures.ascends (omega (arith, c.in_ok-opened.opened.ok.0)) c.deref_mut.ensures.value c.sort_by_seq.ensures.permutation c.sort_by_seq.ensures.sorted
    c.deref_mut-2.ensures.value

pub returns-in_err-held-clause-damaged : goal.returns-in_err-held-clause-damaged
returns-in_err-held-clause-damaged g c =
    let s = reordered _ _ _ _ _ _ _ c.in_ok-opened.ensures.slots c.in_ok-opened.ensures.ascends (omega (arith, c.in_ok-opened.opened.ok.0)) c.deref_mut.ensures.value c.sort_by_seq.ensures.permutation c.sort_by_seq.ensures.sorted
    c.deref_mut-2.ensures.value c.survey_all.ensures.heads in
    let p = err_from_is_err_and c.from_residual-in_err-held.result c.from_residual-in_err-held.ensures.1 in
    rw (p.1, p.2) (λ k offset e.
    let h = c.in_err-held.ensures.damaged k offset (same_err _ _ e) in (
      h.0,
      λ told. batch_refused _ _ _ _ _ _ s (c.in_ok-opened.ensures.told told) offset
          (subst (λ (image : Image). BreaksAmong c.args.area.segment (content image c.args.area.medium) c.survey_all.new.opened offset) (c.read_fronts.ensures.unchanged.reads told) (h.1 told)),
    ))

pub index-requires : goal.index-requires
index-requires g c = omega (arith, c.in-Some.ensures.within, ap length c.deref.ensures.value, length-take {A = Entry})

pub returns-in-Some-clause-damaged : goal.returns-in-Some-clause-damaged
returns-in-Some-clause-damaged g c k offset e =
    let s = reordered _ _ _ _ _ _ _ c.in_ok-opened.ensures.slots c.in_ok-opened.ensures.ascends (omega (arith, c.in_ok-opened.opened.ok.0)) c.deref_mut.ensures.value c.sort_by_seq.ensures.permutation c.sort_by_seq.ensures.sorted
    c.deref_mut-2.ensures.value c.survey_all.ensures.heads in
    let l = last_done _ _ _ _ _ _ _ c.in_ok-opened.ensures.slots c.in_ok-opened.ensures.ascends (omega (arith, c.in_ok-opened.opened.ok.0)) c.deref_mut.ensures.value c.sort_by_seq.ensures.permutation c.sort_by_seq.ensures.sorted
    c.deref_mut-2.ensures.value c.survey_all.ensures.heads in (
      cc,
      λ told. order_refused _ _ _ _ _ _ s (c.in_ok-opened.ensures.told told)
          (subst (λ (image : Image). All (IsSurveyed c.args.area.segment (content image c.args.area.medium)) c.survey_all.new.opened) (c.read_fronts.ensures.unchanged.reads told) (c.in_ok-held.ensures.surveyed told))
          _ _ c.in-Some.index _ offset l c.deref.ensures.value c.in-Some.ensures.some c.index.ensures (let at : offset ≡ c.place_of.result = cc in at ∙ c.place_of.ensures),
    )

pub returns-clause-slots : goal.returns-clause-slots
returns-clause-slots g c =
    let s = reordered _ _ _ _ _ _ _ c.in_ok-opened.ensures.slots c.in_ok-opened.ensures.ascends (omega (arith, c.in_ok-opened.opened.ok.0)) c.deref_mut.ensures.value c.sort_by_seq.ensures.permutation c.sort_by_seq.ensures.sorted
    c.deref_mut-2.ensures.value c.survey_all.ensures.heads in
    let l = last_done _ _ _ _ _ _ _ c.in_ok-opened.ensures.slots c.in_ok-opened.ensures.ascends (omega (arith, c.in_ok-opened.opened.ok.0)) c.deref_mut.ensures.value c.sort_by_seq.ensures.permutation c.sort_by_seq.ensures.sorted
    c.deref_mut-2.ensures.value c.survey_all.ensures.heads in
    subst (λ (es : List Entry). AreSlots c.args.area.slots es) (sym l) (sequenced_slots _ _ _ _ s)

pub returns-clause-parts : goal.returns-clause-parts
returns-clause-parts g c told =
    let s = reordered _ _ _ _ _ _ _ c.in_ok-opened.ensures.slots c.in_ok-opened.ensures.ascends (omega (arith, c.in_ok-opened.opened.ok.0)) c.deref_mut.ensures.value c.sort_by_seq.ensures.permutation c.sort_by_seq.ensures.sorted
    c.deref_mut-2.ensures.value c.survey_all.ensures.heads in
    let l = last_done _ _ _ _ _ _ _ c.in_ok-opened.ensures.slots c.in_ok-opened.ensures.ascends (omega (arith, c.in_ok-opened.opened.ok.0)) c.deref_mut.ensures.value c.sort_by_seq.ensures.permutation c.sort_by_seq.ensures.sorted
    c.deref_mut-2.ensures.value c.survey_all.ensures.heads in
    found _ _ _ _ _ _ s (c.in_ok-opened.ensures.told told)
    (subst (λ (image : Image). All (IsSurveyed c.args.area.segment (content image c.args.area.medium)) c.survey_all.new.opened) (c.read_fronts.ensures.unchanged.reads told) (c.in_ok-held.ensures.surveyed told))
    _ _ l c.deref.ensures.value c.in_default.ensures.none

pub returns-clause-found : goal.returns-clause-found
returns-clause-found g c told placed holds order =
    let s = reordered _ _ _ _ _ _ _ c.in_ok-opened.ensures.slots c.in_ok-opened.ensures.ascends (omega (arith, c.in_ok-opened.opened.ok.0)) c.deref_mut.ensures.value c.sort_by_seq.ensures.permutation c.sort_by_seq.ensures.sorted
    c.deref_mut-2.ensures.value c.survey_all.ensures.heads in
    let l = last_done _ _ _ _ _ _ _ c.in_ok-opened.ensures.slots c.in_ok-opened.ensures.ascends (omega (arith, c.in_ok-opened.opened.ok.0)) c.deref_mut.ensures.value c.sort_by_seq.ensures.permutation c.sort_by_seq.ensures.sorted
    c.deref_mut-2.ensures.value c.survey_all.ensures.heads in
    found_legible _ _ _ _ placed (omega (arith, c.args.area.segment_low)) holds
    (found _ _ _ _ _ _ s (c.in_ok-opened.ensures.told told)
    (subst (λ (image : Image). All (IsSurveyed c.args.area.segment (content image c.args.area.medium)) c.survey_all.new.opened) (c.read_fronts.ensures.unchanged.reads told) (c.in_ok-held.ensures.surveyed told))
    _ _ l c.deref.ensures.value c.in_default.ensures.none)

pub returns-clause-counts : goal.returns-clause-counts
returns-clause-counts g c =
    let l = last_done _ _ _ _ _ _ _ c.in_ok-opened.ensures.slots c.in_ok-opened.ensures.ascends (omega (arith, c.in_ok-opened.opened.ok.0)) c.deref_mut.ensures.value c.sort_by_seq.ensures.permutation c.sort_by_seq.ensures.sorted
    c.deref_mut-2.ensures.value c.survey_all.ensures.heads in
    let same = ap (λ (es : List Entry). c.args.area.segment * unsummarized es) l in
    let heads = ap (λ (n : ℕ). c.args.area.segment * n) (unsummarized_by_heads _ _ c.survey_all.ensures.heads) in
    reads_join _ _ _ _ _ _ _ (omega (arith, same, heads)) c.in_ok-opened.ensures.counts c.in_ok-held.ensures.counts
