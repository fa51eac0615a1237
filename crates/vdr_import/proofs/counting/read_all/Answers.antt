-- Each item takes the reader on in the capture.
use Rattle.std.proofs.Common.{◌≡◌, Bool, ap, sym, arith, rules}
use Rattle.std.specs.Prelude.{⊤}
use Rattle.vdr_pcap.specs.Reader.{Reading}
use Rattle.vdr_import.specs.Counts.{counted_text, course_text}
use Rattle.vdr_import.proofs.Progress.{course_counts, first_refused, gave_false, gave_true, read_first, read_next, read_refused, read_whole, refused_as, refusal_told}
use Rattle.vdr_import.proofs.counting.read_all.Goals as goal

pub loop-item-init : goal.loop-item-init
loop-item-init g c =
    let first = read_first _ _ _ _ (ap (λ (r : Reading). r.limit) c.requires) c.in-Ok.ensures.gave in
    record { read = (first.0, first.1); later = search rules }

pub loop-item-smaller : goal.loop-item-smaller
loop-item-smaller g c =
    let gave = gave_true _ _ c.loop-item.reader c.item.new.self _ c.in-Ok-true.field-0 c.in-Ok-true.field-0-test c.in-Ok-true.ensures.gave.1 in
    let read = c.loop-item.invariant.read in
    let next = read_next _ _ _ _ _ read.0 _ read.1 gave.0 gave.1 in
    omega (arith, next.grown, read.1.few)

pub loop-item-preserved : goal.loop-item-preserved
loop-item-preserved g c =
    let gave = gave_true _ _ c.loop-item.reader c.item.new.self _ c.in-Ok-true.field-0 c.in-Ok-true.field-0-test c.in-Ok-true.ensures.gave.1 in
    let read = c.loop-item.invariant.read in
    let next = read_next _ _ _ _ _ read.0 _ read.1 gave.0 gave.1 in
    record { read = (next.all, next.read); later = search rules }

pub returns-in-Ok-false-clause-reads : goal.returns-in-Ok-false-clause-reads
returns-in-Ok-false-clause-reads g c =
    let gave = gave_false _ _ c.loop-item.reader c.item.new.self _ c.in-Ok-false.field-0 c.in-Ok-false.field-0-test c.in-Ok-false.ensures.gave.1 in
    let read = c.loop-item.invariant.read in
    let next = read_next _ _ _ _ _ read.0 _ read.1 gave.0 gave.3 in
    (gave.1, read_whole (λ parts. course_text c.item.new.self.course ≡ counted_text parts) _ _ _ _ next.all next.read gave.1 read.1.limit gave.2 (course_counts _ _ _ next.all next.read))

pub returns-in-Err-Refused-item-clause-reads : goal.returns-in-Err-Refused-item-clause-reads
returns-in-Err-Refused-item-clause-reads g c =
    let read = c.loop-item.invariant.read in
    refused_as (λ parts. ⊤) _ _ _ _ _ (sym c.in-Err-Refused-item.number-is) (sym c.in-Err-Refused-item.offset-is)
    (read_refused (λ parts. ⊤) _ _ _ read.0 _ _ read.1
    (refusal_told Bool _ c.in-Err-Refused-item.field-0 _ _ c.in-Err-Refused-item.field-0-is (c.in-Err-Refused-item.ensures.refused read.1.going)) (λ all same. tt))

-- what is refused at the beginning
pub returns-in-Err-Refused-clause-reads : goal.returns-in-Err-Refused-clause-reads
returns-in-Err-Refused-clause-reads g c =
    refused_as (λ parts. ⊤) _ _ _ _ _ (sym c.in-Err-Refused.number-is) (sym c.in-Err-Refused.offset-is)
    (first_refused (λ parts. ⊤) _ _ _ _ (ap (λ (r : Reading). r.limit) c.requires)
    (refusal_told ⊤ _ c.in-Err-Refused.field-0 _ _ c.in-Err-Refused.field-0-is c.in-Err-Refused.ensures.refused) tt)
