use Rattle.std.proofs.Common.{◌≡◌, ◌∙◌, Bool, List, ℕ, [], cond, ap, sym, refl}
use Rattle.vdr_terms.specs.Records.{Record}
use Rattle.vdr_digest.specs.Digests.{hour_line}
use Rattle.vdr_digest.proofs.Holding.{emptied}
use Rattle.vdr_digest.proofs.hours.Hours.line_before.Goals as goal

pub returns-clause-text : goal.returns-clause-text
returns-clause-text c held holds =
    c.line-text.ensures.text held holds ∙ ap (λ (b : Bool). cond b [] (hour_line held)) (sym (sym (c.are_of.ensures held holds) ∙ c.if-are_of.false))

pub returns-clause-left : goal.returns-clause-left
returns-clause-left c held holds =
    emptied _ held _ (sym (c.are_of.ensures held holds) ∙ c.if-are_of.false) (record { hour_is = refl; span_is = refl; bytes_are = c.reset.ensures })
