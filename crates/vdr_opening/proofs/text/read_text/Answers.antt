use Rattle.std.proofs.Common.{◌≡◌, length, arith, ◌∙◌, ap}
use Rattle.vdr_outside.specs.Disk.{Image, content}
use Rattle.vdr_opening.proofs.Fronts.{named, too_long, text_read, read_part}
use Rattle.vdr_opening.proofs.Costs.{text_bytes}
use Rattle.vdr_opening.proofs.text.read_text.Goals as goal

pub returns-then-length-gt-LONGEST-clause-damaged :
    goal.returns-then-length-gt-LONGEST-clause-damaged
returns-then-length-gt-LONGEST-clause-damaged g c k offset e =
    let h = named _ _ _ _ _ c.refused.ensures e in
    (h.0, h.1, λ told. too_long _ _ (c.in_ok-length.ensures.spelled told) (omega (arith, c.in_ok-length.ensures.small)) (omega (arith, c.if-length-gt-LONGEST.true)))

pub returns-clause-text : goal.returns-clause-text
returns-clause-text g c told =
    let len_is : c.in-Ok.text.len ≡ c.in_ok-length.length = c.in-Ok.ensures.len in
    let lent : length c.deref_mut.result.now ≡ c.in_ok-length.length = c.deref_mut.ensures.len ∙ len_is in
    text_read _ _ _ _ c.in-Ok.text.items (c.in_ok-length.ensures.spelled told) len_is (c.read.auto.into ∙ lent)
    (read_part _ _ _ _ _ (ap (λ (l : Image). content l c.args.m) (c.read_length.ensures.unchanged.reads told)) lent (c.in_ok-read.ensures.bytes told))

pub returns-clause-counts : goal.returns-clause-counts
returns-clause-counts g c =
    let lent : length c.deref_mut.result.now ≡ c.in_ok-length.length = c.deref_mut.ensures.len ∙ c.in-Ok.ensures.len in
    text_bytes c.args.m (length c.deref_mut.result.now) _ _ _ (omega (arith, lent, c.if-length-gt-LONGEST.false)) c.read_length.ensures.counts c.read.ensures.counts

pub returns-in_err-read-clause-counts : goal.returns-in_err-read-clause-counts
returns-in_err-read-clause-counts g c =
    let lent : length c.deref_mut.result.now ≡ c.in_ok-length.length = c.deref_mut.ensures.len ∙ c.in-Ok.ensures.len in
    text_bytes c.args.m (length c.deref_mut.result.now) _ _ _ (omega (arith, lent, c.if-length-gt-LONGEST.false)) c.read_length.ensures.counts c.read.ensures.counts
