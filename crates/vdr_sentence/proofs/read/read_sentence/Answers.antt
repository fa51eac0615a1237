use Rattle.std.proofs.Common.{◌≡◌, ◌∙◌, ap, sym, ℕ, List, Some, None}
use Rattle.std.specs.Option.{option_or}
use Rattle.std.proofs.lemmas.Result.{err_from_is_err_and, IfErr-weaker, IfOk-weaker, MatchResult-from_both}
use Rattle.vdr_sentence.specs.Refusals.{body, body_refusal, first_refusal, frame_refusal}
use Rattle.vdr_sentence.specs.declared.bad.Bad.{Bad}
use Rattle.vdr_sentence.proofs.Readings.{IsSentence-from_parts, no_sentence-refused, reading-from_sentence, reading-refused}
use Rattle.vdr_sentence.proofs.read.read_sentence.Goals as goal

-- A refusal by the frame is the first, and one by the body is where the frame has none.
refused_by_frame : (bytes : List ℕ) (bad : Bad) → frame_refusal bytes ≡ Some bad → first_refusal bytes ≡ Some bad
refused_by_frame bytes bad h = ap (λ o. option_or o (body_refusal (body bytes))) h

refused_by_body : (bytes text : List ℕ) (bad : Bad) → frame_refusal bytes ≡ None → text ≡ body bytes → body_refusal text ≡ Some bad → first_refusal bytes ≡ Some bad
refused_by_body bytes text bad framed is_body h = (λ i. option_or (framed i) (body_refusal (sym is_body i))) ∙ h

pub returns-in_err-frame-clause-no_sentence : goal.returns-in_err-frame-clause-no_sentence
returns-in_err-frame-clause-no_sentence c =
    let p = err_from_is_err_and c.from_residual.result c.from_residual.ensures.1 in
    rw p.1 (no_sentence-refused c.args.bytes.now c.in_err-frame.field-0.0 (refused_by_frame c.args.bytes.now c.in_err-frame.field-0.0 c.in_err-frame.ensures.refused))

pub returns-in_err-frame-clause-exact : goal.returns-in_err-frame-clause-exact
returns-in_err-frame-clause-exact c =
    let p = err_from_is_err_and c.from_residual.result c.from_residual.ensures.1 in
    rw (p.1, p.2) (reading-refused c.args.bytes.now c.in_err-frame.field-0.0 (refused_by_frame c.args.bytes.now c.in_err-frame.field-0.0 c.in_err-frame.ensures.refused))

pub returns-clause-sentence : goal.returns-clause-sentence
returns-clause-sentence c =
    IfOk-weaker c.sentence_in.result _ _
    (λ s h. IsSentence-from_parts c.args.bytes.now s.start c.in_ok-frame.frame.body.now s.content.now c.in_ok-frame.ensures.accepted (h.1 ∙ c.in_ok-frame.ensures.start) c.in_ok-frame.ensures.body h.0 h.2)
    c.sentence_in.ensures.accepted

pub returns-clause-no_sentence : goal.returns-clause-no_sentence
returns-clause-no_sentence c =
    IfErr-weaker c.sentence_in.result _ _
    (λ bad h. no_sentence-refused c.args.bytes.now bad (refused_by_body c.args.bytes.now c.in_ok-frame.frame.body.now bad c.in_ok-frame.ensures.accepted c.in_ok-frame.ensures.body h))
    c.sentence_in.ensures.refused

pub returns-clause-exact : goal.returns-clause-exact
returns-clause-exact c =
    MatchResult-from_both c.sentence_in.result _ _
    (IfOk-weaker c.sentence_in.result _ _ (λ s h. reading-from_sentence c.args.bytes.now s.start s.content.now
    (IsSentence-from_parts c.args.bytes.now s.start c.in_ok-frame.frame.body.now s.content.now c.in_ok-frame.ensures.accepted (h.1 ∙ c.in_ok-frame.ensures.start) c.in_ok-frame.ensures.body h.0 h.2))
    c.sentence_in.ensures.accepted)
    (IfErr-weaker c.sentence_in.result _ _
    (λ bad h. reading-refused c.args.bytes.now bad (refused_by_body c.args.bytes.now c.in_ok-frame.frame.body.now bad c.in_ok-frame.ensures.accepted c.in_ok-frame.ensures.body h))
    c.sentence_in.ensures.refused)
