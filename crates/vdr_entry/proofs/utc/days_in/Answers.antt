use Rattle.std.proofs.Common.{ℕ, pos, w8, w16, ap, ◌∙◌, arith}
use Rattle.std.proofs.lemmas.Int.{to_z_pos}
use Rattle.std.proofs.lemmas.Option.{same_Some}
use Rattle.vdr_entry.proofs.DayLemmas.{signed-at}
use Rattle.vdr_entry.proofs.StampLemmas.{nothing, reads_date}
use Rattle.vdr_entry.proofs.utc.days_in.Goals as goal

pub returns-in_err-year-clause-exact : goal.returns-in_err-year-clause-exact
returns-in_err-year-clause-exact c = λ days few is.
    nothing _ _ _ c.in_err-year.was (c.number.ensures.number ∙ (reads_date c.args.date.now days few is).year)

pub returns-in_err-month-clause-exact : goal.returns-in_err-month-clause-exact
returns-in_err-month-clause-exact c = λ days few is.
    nothing _ _ _ c.in_err-month.was (c.number-2.ensures.number ∙ (reads_date c.args.date.now days few is).month)

pub returns-in_err-day-clause-exact : goal.returns-in_err-day-clause-exact
returns-in_err-day-clause-exact c = λ days few is.
    nothing _ _ _ c.in_err-day.was (c.number-3.ensures.number ∙ (reads_date c.args.date.now days few is).day)

pub returns-clause-exact : goal.returns-clause-exact
returns-clause-exact c = λ days few is.
    let read = reads_date c.args.date.now days few is in
    let year = to_z_pos w16 c.in_ok-year.year (omega (arith, c.in_ok-year.ensures.below)) ∙ ap (λ (n : ℕ). pos n) (same_Some _ _ (c.in_ok-year.ensures.number ∙ read.year)) in
    let month = to_z_pos w8 c.in_ok-month.month (omega (arith, c.in_ok-month.ensures.below)) ∙ ap (λ (n : ℕ). pos n) (same_Some _ _ (c.in_ok-month.ensures.number ∙ read.month)) in
    let day = to_z_pos w8 c.in_ok-day.day (omega (arith, c.in_ok-day.ensures.below)) ∙ ap (λ (n : ℕ). pos n) (same_Some _ _ (c.in_ok-day.ensures.number ∙ read.day)) in
    let date = signed-at days read.at _ _ _ year month day in
    c.day_number.ensures.exact days date.0 date.1
