use Rattle.std.proofs.Common.{rules, ◌<◌, inl, inr, List, All, Err, sym, ◌∙◌, ap, subst}
use Rattle.std.proofs.lemmas.Result.{err_from_is_err_and}
use Rattle.vdr_outside.specs.Disk.{Image, content}
use Rattle.vdr_outside.specs.declared.fault.PartRefused.{PartRefused}
use Rattle.vdr_outside.proofs.Counts.{none_falls_join}
use Rattle.vdr_directory.specs.declared.entry.Entry.{Entry}
use Rattle.vdr_directory.proofs.Reordering.{slots_below}
use Rattle.vdr_ring.specs.Damage.{HasDamage}
use Rattle.vdr_ring.specs.declared.refused.ReadRefused.{ReadRefused}
use Rattle.vdr_remake.proofs.Causes.{rose_first, rose_later, rose_never, rose_passed}
use Rattle.vdr_remake.proofs.Copies.{held_by}
use Rattle.vdr_remake.proofs.Refusals.{part_damaged, part_fault, read_damaged, read_fault}
use Rattle.vdr_remake.proofs.Remade.{remakes_after_reads, remakes_nothing}
use Rattle.vdr_remake.proofs.remaking.remake_in.Goals as goal

pub returns-in_err-opened-clause-moments : goal.returns-in_err-opened-clause-moments
returns-in_err-opened-clause-moments g c placed told holds order = remakes_nothing _ _ _ _ _ c.from_residual.ensures.0 c.read_segments.ensures.unchanged

pub returns-in_err-opened-clause-damaged : goal.returns-in_err-opened-clause-damaged
returns-in_err-opened-clause-damaged g c =
    let p = err_from_is_err_and c.from_residual.result c.from_residual.ensures.1 in
    rw (p.1, p.2) (λ m offset e.
    let h = c.in_err-opened.ensures.damaged m offset (ap (λ (x : PartRefused). Err x) (part_damaged c.in_err-opened.field-0.0 m offset e)) in
    (h.0, λ told. inl (h.1 told)))

pub returns-in_err-opened-clause-cause : goal.returns-in_err-opened-clause-cause
returns-in_err-opened-clause-cause g c =
    let p = err_from_is_err_and c.from_residual.result c.from_residual.ensures.1 in
    rw (p.1, p.2) (rose_first _ _ c.in_err-opened.ensures.cause.later _ _ _ (λ e. c.in_err-opened.ensures.cause.rose (ap (λ (x : PartRefused). Err x) (part_fault c.in_err-opened.field-0.0 e))))

pub remake_from-requires-clause-from_within : goal.remake_from-requires-clause-from_within
remake_from-requires-clause-from_within g c =
    subst (λ (es : List Entry). All (λ e. e.slot < c.args.from.slots) es) (sym c.deref.ensures.value) (slots_below _ _ c.in_ok-opened.ensures.slots)

pub returns-in_err-remake_from-clause-moments : goal.returns-in_err-remake_from-clause-moments
returns-in_err-remake_from-clause-moments g c placed told holds order =
    let same = ap (λ (l : Image). content l c.args.from.medium) (c.read_segments.ensures.unchanged.reads told) in
    let h = held_by c.args.from.segment c.args.from.slots _ _ placed _ _ same c.deref.ensures.value holds (c.in_ok-opened.ensures.found told placed holds order) in
    remakes_after_reads _ _ _ _ _ _ _ (λ failed. c.from_residual-in_err-remake_from.ensures.0) c.read_segments.ensures.unchanged (c.in_err-remake_from.ensures.moments placed told h order)

pub returns-in_err-remake_from-clause-damaged : goal.returns-in_err-remake_from-clause-damaged
returns-in_err-remake_from-clause-damaged g c =
    let p = err_from_is_err_and c.from_residual-in_err-remake_from.result c.from_residual-in_err-remake_from.ensures.1 in
    rw (p.1, p.2) (λ m offset e.
    let h = c.in_err-remake_from.ensures.damaged m offset (ap (λ (x : ReadRefused). Err x) (read_damaged c.in_err-remake_from.field-0.0 m offset e)) in
    (h.0, λ told. inr (subst (λ (l : Image). HasDamage c.args.from.segment c.args.from.slots (content l c.args.from.medium) offset) (c.read_segments.ensures.unchanged.reads told) (h.1 told))))

pub returns-in_err-remake_from-clause-cause : goal.returns-in_err-remake_from-clause-cause
returns-in_err-remake_from-clause-cause g c =
    let p = err_from_is_err_and c.from_residual-in_err-remake_from.result c.from_residual-in_err-remake_from.ensures.1 in
    rw (p.1, p.2) (rose_later _ _ _ _ _ c.read_segments.ensures.cause.later
    (rose_passed _ _ _ _ _ (λ e. ap (λ (x : ReadRefused). Err x) (read_fault c.in_err-remake_from.field-0.0 e)) c.in_err-remake_from.ensures.cause))

pub returns-clause-moments : goal.returns-clause-moments
returns-clause-moments g c placed told holds order =
    let same = ap (λ (l : Image). content l c.args.from.medium) (c.read_segments.ensures.unchanged.reads told) in
    let h = held_by c.args.from.segment c.args.from.slots _ _ placed _ _ same c.deref.ensures.value holds (c.in_ok-opened.ensures.found told placed holds order) in
    remakes_after_reads _ _ _ _ _ _ _ (λ failed. let none : ⊥ = search rules in absurd none) c.read_segments.ensures.unchanged (c.in_ok-remake_from.ensures.moments placed told h order)

pub returns-clause-done : goal.returns-clause-done
returns-clause-done g c placed told holds order =
    let same = ap (λ (l : Image). content l c.args.from.medium) (c.read_segments.ensures.unchanged.reads told) in
    let h = held_by c.args.from.segment c.args.from.slots _ _ placed _ _ same c.deref.ensures.value holds (c.in_ok-opened.ensures.found told placed holds order) in
    c.in_ok-remake_from.ensures.done placed told h order

pub returns-clause-others : goal.returns-clause-others
returns-clause-others g c told k ne = c.remake_from.ensures.others told k ne ∙ ap (λ (l : Image). content l k) (c.read_segments.ensures.unchanged.reads told)

pub returns-clause-cause : goal.returns-clause-cause
returns-clause-cause g c = rose_never _ _ (none_falls_join _ _ _ c.read_segments.ensures.cause.later c.remake_from.ensures.cause.later) _ _ (λ is. let none : ⊥ = cc in absurd none)
