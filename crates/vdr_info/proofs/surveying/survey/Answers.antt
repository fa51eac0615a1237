use Rattle.std.proofs.Common.{rules, ◌≡◌, ◌<◌, ◌+◌, ◌*◌, ℕ, List, All, sym, subst, arith}
use Rattle.std.proofs.lemmas.Result.{err_from_is_err_and}
use Rattle.vdr_terms.proofs.Results.{same_err}
use Rattle.vdr_directory.specs.declared.entry.Entry.{Entry}
use Rattle.vdr_directory.specs.Costs.{ReadsAtMost}
use Rattle.vdr_directory.specs.Entries.{Describe}
use Rattle.vdr_directory.specs.Sequence.{Placed}
use Rattle.vdr_directory.proofs.CostLemmas.{lacking_described}
use Rattle.vdr_directory.proofs.Reordering.{slots_below}
use Rattle.vdr_info.proofs.InfoLemmas.{as_many}
use Rattle.vdr_info.proofs.surveying.survey.Goals as goal

pub returns-in_err-opened-clause-legal : goal.returns-in_err-opened-clause-legal
returns-in_err-opened-clause-legal g c =
    let p = err_from_is_err_and c.from_residual.result c.from_residual.ensures.1 in
    rw (p.1, p.2) (λ k offset e told known are order. c.law_of_opening.ensures.either _ _ offset known _ are order ((c.in_err-opened.ensures.damaged k offset (same_err _ _ e)).1 told))

pub of-requires : goal.of-requires
of-requires g c =
    subst (λ (es : List Entry). All (λ e. e.slot < c.args.area.slots) es) (sym c.deref.ensures.value) (slots_below _ _ c.in_ok-opened.ensures.slots)

pub returns-clause-held : goal.returns-clause-held
returns-clause-held g c told known are order =
    let found = c.in_ok-opened.ensures.parts told in
    let same : found.known ≡ known = c.law_of_opening.ensures.parts _ _ found.known known _ found.are are in
    let described = subst (λ (ps : List Placed). Describe ps c.in_ok-opened.opened.items) same found.describe in
    let high = c.args.area.segment_high in
    let tells = c.in-Ok-of.ensures.known c.args.area.segment known _ (omega (arith, high)) are order (subst (λ (es : List Entry). Describe known es) (sym c.deref.ensures.value) described) in
    let many = as_many known _ described in
    record {
      medium = search rules;
      segment_is = search rules;
      slots_are = search rules;
      used = search rules;
      first = c.first_of.ensures _ known (subst (λ (es : List Entry). Describe known es) (sym c.deref-2.ensures.value) described) tells;
      last_is = c.last_of.ensures _ known tells;
    }

pub returns-clause-counts : goal.returns-clause-counts
returns-clause-counts g c told known are =
    let found = c.in_ok-opened.ensures.parts told in
    let same : found.known ≡ known = c.law_of_opening.ensures.parts _ _ found.known known _ found.are are in
    let bare = lacking_described known _ (subst (λ (ps : List Placed). Describe ps c.in_ok-opened.opened.items) same found.describe) in
    subst (λ (n : ℕ). ReadsAtMost c.args.area.medium (1 + 64 * c.args.area.slots + c.args.area.segment * n) (g.M.Media.bytes_read c.args.media.now) (g.M.Media.bytes_read c.read_segments.new.media)) bare c.in_ok-opened.ensures.counts
