use Rattle.std.proofs.Common.{◌/◌, ◌%◌, unsigned_abs, Some, ap, ◌∙◌, sym, arith}
use Rattle.std.proofs.lemmas.Option.{same_Some}
use Rattle.vdr_entry.proofs.StampLemmas.{nothing, reads_stamp}
use Rattle.vdr_entry.proofs.utc.stamp_in.Goals as goal

pub returns-then-text-ne24-clause-exact : goal.returns-then-text-ne24-clause-exact
returns-then-text-ne24-clause-exact c = λ utc stamp is. absurd (c.if-text-ne24.true (reads_stamp c.args.text.now utc stamp is).long)

pub returns-in_err-days-clause-exact : goal.returns-in_err-days-clause-exact
returns-in_err-days-clause-exact c = λ utc stamp is.
    let read = reads_stamp c.args.text.now utc stamp is in
    nothing _ _ _ c.in_err-days.was (c.days_in.ensures.exact (unsigned_abs utc / 86_400_000) read.days read.date)

pub returns-in_err-millis-clause-exact : goal.returns-in_err-millis-clause-exact
returns-in_err-millis-clause-exact c = λ utc stamp is.
    let read = reads_stamp c.args.text.now utc stamp is in
    nothing _ _ _ c.in_err-millis.was (c.millis_in.ensures.exact (unsigned_abs utc % 86_400_000) (omega arith) read.time)

pub returns-clause-exact : goal.returns-clause-exact
returns-clause-exact c = λ utc stamp is.
    let read = reads_stamp c.args.text.now utc stamp is in
    let days = same_Some _ _ (sym c.in_ok-days.was ∙ c.days_in.ensures.exact (unsigned_abs utc / 86_400_000) read.days read.date) in
    let millis = same_Some _ _ (sym c.in_ok-millis.was ∙ c.millis_in.ensures.exact (unsigned_abs utc % 86_400_000) (omega arith) read.time) in
    ap Some (omega (arith, days, millis))
