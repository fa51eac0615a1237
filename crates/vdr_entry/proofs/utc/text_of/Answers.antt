use Rattle.std.proofs.Common.{arith, ◌∙◌, ◌++◌, ◌%◌, ◌/◌, sym, ap, List, ℕ, FitsSigned, w16}
use Rattle.std.specs.Prelude.{codes}
use Rattle.std.proofs.lemmas.Int.{to_z-of_z}
use Rattle.jiff.proofs.SpanFacts.{signed_arith}
use Rattle.jiff.specs.Words.{epoch_day}
use Rattle.jiff_core.specs.declared.civil.date.Date.{Date}
use Rattle.vdr_entry.specs.Utc.{utc_text, time_text}
use Rattle.vdr_entry.proofs.Calendar.{shows}
use Rattle.vdr_entry.proofs.utc.text_of.Goals as goal

pub returns : goal.returns
unfolding utc_text
returns c =
    let bounds = c.to_plain-date.result.year_in in
    let fits : FitsSigned w16 c.to_plain-date.result.year = omega (arith, signed_arith, bounds) in
    let year = simp to_z-of_z at c.unsigned_abs-year.ensures.value in
    let text = shows c.to_plain-date.result (c.args.utc / 86_400_000) c.unsigned_abs-year.result (ap (λ (d : Date). epoch_day d) c.to_plain-date.ensures ∙ c.date_of.ensures) year in
    c.characters.ensures ∙ ap (λ (t : List ℕ). t ++ codes "T" ++ time_text (c.args.utc % 86_400_000) ++ codes "Z") (sym text)
