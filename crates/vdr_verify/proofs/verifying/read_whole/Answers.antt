use Rattle.std.proofs.Common.{rules}
use Rattle.vdr_evidence.specs.Files.{evidence_bytes, heading_bytes}
use Rattle.vdr_verify.specs.Closings.{EndsAll, EndsCovered, IsWhole}
use Rattle.vdr_verify.specs.Evidences.{ReadsWhole}
use Rattle.vdr_verify.specs.Heads.{ReadsHeading}
use Rattle.vdr_verify.specs.Lists.{ReadsRecords}
use Rattle.vdr_verify.proofs.Telling.{before_number, before_records, begun, refused_out}
use Rattle.vdr_verify.proofs.verifying.read_whole.Goals as goal

pub returns-in_err-head-clause-reads : goal.returns-in_err-head-clause-reads
returns-in_err-head-clause-reads g c =
    let first = g.I.Source.left c.args.input.now in
    refused_out (ReadsWhole first _) (ReadsHeading first _ _) c.read_heading.result c.from_residual.result c.in_err-head.field-0.0 c.in_err-head.was (search rules)
    (c.read_heading.ensures.reads first (begun first _ c.new-reader.ensures)) (λ refused. refused)

pub returns-in_err-listed-clause-reads : goal.returns-in_err-listed-clause-reads
returns-in_err-listed-clause-reads g c =
    let first = g.I.Source.left c.args.input.now in
    let head = c.in_ok-head.ensures.reads first (begun first _ c.new-reader.ensures) in
    let h = head.0 in
    let q = c.in_ok-head.head.asked in
    refused_out (ReadsWhole first _) (ReadsRecords first _ _ q h) c.read_records.result c.from_residual-in_err-listed.result c.in_err-listed.field-0.0 c.in_err-listed.was (search rules)
    (c.read_records.ensures.reads first h (before_records first _ _ q h head.1.heading head.2)) (λ refused. refused)

pub returns-in_err-read_number-clause-reads : goal.returns-in_err-read_number-clause-reads
returns-in_err-read_number-clause-reads g c =
    let first = g.I.Source.left c.args.input.now in
    let head = c.in_ok-head.ensures.reads first (begun first _ c.new-reader.ensures) in
    let h = head.0 in
    let q = c.in_ok-head.head.asked in
    let listed = c.in_ok-listed.ensures.reads first h (before_records first _ _ q h head.1.heading head.2) in
    refused_out (ReadsWhole first _) (EndsCovered first _ _ h listed.records) c.read_number.result c.from_residual-in_err-read_number.result c.in_err-read_number.field-0.0 c.in_err-read_number.was (search rules)
    (c.read_number.ensures.reads first h q listed.records (before_number first _ _ q h _ listed)) (λ refused. refused)

pub returns-in_err-read_digest-clause-reads : goal.returns-in_err-read_digest-clause-reads
returns-in_err-read_digest-clause-reads g c =
    let first = g.I.Source.left c.args.input.now in
    let head = c.in_ok-head.ensures.reads first (begun first _ c.new-reader.ensures) in
    let h = head.0 in
    let q = c.in_ok-head.head.asked in
    let listed = c.in_ok-listed.ensures.reads first h (before_records first _ _ q h head.1.heading head.2) in
    let number = c.in_ok-read_number.ensures.reads first h q listed.records (before_number first _ _ q h _ listed) in
    refused_out (ReadsWhole first _) (EndsAll first _ _ h listed.records) c.read_digest.result c.from_residual-in_err-read_digest.result c.in_err-read_digest.field-0.0 c.in_err-read_digest.was (search rules)
    (c.read_digest.ensures.reads first h q listed.records (record { holds = listed.holds; behind = number })) (λ refused. refused)

pub returns-in_err-read_behind-clause-reads : goal.returns-in_err-read_behind-clause-reads
returns-in_err-read_behind-clause-reads g c =
    let first = g.I.Source.left c.args.input.now in
    let head = c.in_ok-head.ensures.reads first (begun first _ c.new-reader.ensures) in
    let h = head.0 in
    let q = c.in_ok-head.head.asked in
    let listed = c.in_ok-listed.ensures.reads first h (before_records first _ _ q h head.1.heading head.2) in
    let number = c.in_ok-read_number.ensures.reads first h q listed.records (before_number first _ _ q h _ listed) in
    let digest = c.in_ok-read_digest.ensures.reads first h q listed.records (record { holds = listed.holds; behind = number }) in
    refused_out (ReadsWhole first _) (IsWhole first _ h listed.records) c.read_behind.result c.from_residual-in_err-read_behind.result c.in_err-read_behind.field-0.0 c.in_err-read_behind.was (search rules)
    (c.read_behind.ensures.reads first h q listed.records (record { holds = listed.holds; behind = digest })) (λ refused. refused)

pub returns-clause-reads : goal.returns-clause-reads
returns-clause-reads g c =
    let first = g.I.Source.left c.args.input.now in
    let head = c.in_ok-head.ensures.reads first (begun first _ c.new-reader.ensures) in
    let h = head.0 in
    let q = c.in_ok-head.head.asked in
    let listed = c.in_ok-listed.ensures.reads first h (before_records first _ _ q h head.1.heading head.2) in
    let number = c.in_ok-read_number.ensures.reads first h q listed.records (before_number first _ _ q h _ listed) in
    let digest = c.in_ok-read_digest.ensures.reads first h q listed.records (record { holds = listed.holds; behind = number }) in
    let whole = c.in_ok-read_behind.ensures.reads first h q listed.records (record { holds = listed.holds; behind = digest }) in (
      h,
      listed.records,
      record {
        head = head.1;
        legal = listed.holds.legal;
        account_is = listed.account_is;
        begin_is = head.2.held.offset_is;
        digest_is = c.digest-digest.ensures (evidence_bytes (heading_bytes h) listed.records) digest.held;
      },
      whole.0,
      whole.1,
    )
