use Rattle.std.proofs.Common.{inr, ⊎_elim}
use Rattle.vdr_sentence.proofs.FieldLemmas.{none_above_count, above_count_none}
use Rattle.vdr_sentence.proofs.sentence.Sentence.field.Goals as goal

pub returns-clause-none : goal.returns-clause-none
returns-clause-none c =
    let content = c.args.self.now.content.now in (
      (λ none. inr (none_above_count content c.args.n c.part_at.result c.part_at.ensures none)),
      ⊎_elim (λ zero. absurd (c.if-n-eq0.false zero)) (λ above. above_count_none content c.args.n c.part_at.result c.part_at.ensures above),
    )
