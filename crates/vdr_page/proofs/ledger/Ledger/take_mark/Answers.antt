use Rattle.std.proofs.Common.{refl}
use Rattle.std.proofs.lemmas.Result.{on_ok_weaker}
use Rattle.vdr_page.specs.Opens.{closing}
use Rattle.vdr_page.specs.Rows.{mark_row}
use Rattle.vdr_page.proofs.Opening.{joined}
use Rattle.vdr_page.proofs.ledger.Ledger.take_mark.Goals as goal

pub returns-clause-open : goal.returns-clause-open
returns-clause-open c step o keeps = on_ok_weaker c.push_mark.result (λ told. c.in_ok-close.ensures.open step o keeps) c.push_mark.ensures

pub returns-clause-text : goal.returns-clause-text
returns-clause-text c step o keeps =
    on_ok_weaker c.push_mark.result
    (λ last. joined c.args.text.now.items (closing o) (mark_row c.args.name.now c.args.item.now) (closing o) (mark_row c.args.name.now c.args.item.now) c.close.new.text.items c.push_mark.new.text.items
    (c.in_ok-close.ensures.text step o keeps) last refl refl)
    c.push_mark.ensures
