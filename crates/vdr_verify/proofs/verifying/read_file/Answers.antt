use Rattle.std.proofs.Common.{ℕ, rules}
use Rattle.arrayvec.specs.ArrayVec.{ArrayVec}
use Rattle.vdr_evidence.specs.Files.{evidence_bytes, heading_bytes}
use Rattle.vdr_verify.specs.Evidences.{ReadsWhole}
use Rattle.vdr_verify.proofs.Telling.{passes_out, told, told_text}
use Rattle.vdr_verify.proofs.verifying.read_file.Goals as goal

pub returns-in_err-evidence-clause-tells : goal.returns-in_err-evidence-clause-tells
returns-in_err-evidence-clause-tells g c =
    let first = g.I.Source.left c.args.input.now in
    passes_out first _ (λ (text : ArrayVec ℕ). text.items) (ReadsWhole first _) c.read_whole.result c.from_residual.result c.in_err-evidence.field-0.0 c.in_err-evidence.was (search rules)
    (c.read_whole.ensures.reads) (λ refused. refused)

pub returns-clause-tells : goal.returns-clause-tells
returns-clause-tells g c =
    let first = g.I.Source.left c.args.input.now in
    let whole = c.in_ok-evidence.ensures.reads in
    let h = whole.0 in
    let records = whole.1 in
    let kept = whole.2 in (
      whole.3,
      told first _ h _ records kept.head.heading kept.legal whole.4
          (told_text _ h _ records _ (evidence_bytes (heading_bytes h) records) _ kept.head kept.account_is kept.digest_is c.text_of.ensures),
    )
