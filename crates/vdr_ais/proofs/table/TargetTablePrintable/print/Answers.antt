use Rattle.std.proofs.Common.{◌≡◌, ◌<◌, ◌∙◌, ◌++◌, ◌+◌, List, ℕ, ap, sym, subst, drop, take, length, get_or}
use Rattle.vdr_outside.specs.Writes.{AppendsFront}
use Rattle.vdr_outside.proofs.Known.{front-more, pieces-at}
use Rattle.vdr_ais.specs.Tables.{Table}
use Rattle.vdr_ais.specs.Targets.{Ship, Ships, ship_text, targets_text}
use Rattle.vdr_ais.proofs.table.TargetTablePrintable.print.Goals as goal

pub returns-in_err-write_all-clause-front : goal.returns-in_err-write_all-clause-front
returns-in_err-write_all-clause-front g c =
    let rows : Ships = c.args.self.now.ships in
    let i : ℕ = c.loop-ship.ship-index in
    let same : c.deref-ship-items.result.now ≡ rows = c.deref-ship-items.ensures.value ∙ ap (λ (t : Table). t.ships) c.self.view_is in
    let within : i < length rows = subst (λ (rs : Ships). i < length rs) same c.loop-ship-test.true in
    let at : c.ship-item.result ≡ get_or rows i c.ship-item.result = c.ship-item.is ∙ ap (λ (rs : Ships). get_or rs i c.ship-item.result) same in
    let split = pieces-at ship_text rows i c.ship-item.result within in
    let whole : targets_text rows ≡ targets_text (take i rows) ++ (ship_text c.ship-item.result ++ targets_text (drop (i + 1) rows)) =
    split ∙ ap (λ (r : ℕ × Ship). targets_text (take i rows) ++ (ship_text r ++ targets_text (drop (i + 1) rows))) (sym at) in
    front-more (g.O.Sink.taken c.args.out.now) (g.O.Sink.taken c.loop-ship.out) (g.O.Sink.taken c.write_all.new.sink) (targets_text (take i rows)) (ship_text c.ship-item.result)
    (targets_text (drop (i + 1) rows)) (targets_text rows) whole c.loop-ship.invariant.written
    (subst (λ (xs : List ℕ). AppendsFront (g.O.Sink.taken c.loop-ship.out) (g.O.Sink.taken c.write_all.new.sink) xs) (c.as_slice.ensures.value ∙ c.text.ensures) c.in_err-write_all.ensures.front)
