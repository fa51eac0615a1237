use Rattle.std.proofs.Common.{◌≡◌, ◌<◌, ◌∙◌, ◌++◌, ◌+◌, List, ℕ, ap, sym, subst, drop, take, length, get_or}
use Rattle.vdr_outside.specs.Writes.{AppendsFront}
use Rattle.vdr_outside.proofs.Known.{front-more, pieces-at}
use Rattle.vdr_durability.specs.Sources.{Row}
use Rattle.vdr_sources.specs.Tables.{row_text, sources_text}
use Rattle.vdr_sources.proofs.table.SourceTablePrintable.print.Goals as goal

pub returns-in_err-write_all-clause-front : goal.returns-in_err-write_all-clause-front
returns-in_err-write_all-clause-front g c =
    let rows : List Row = c.args.self.now in
    let i : ℕ = c.loop-row.row-index in
    let same : c.deref-row-items.result.now ≡ rows = c.deref-row-items.ensures.value ∙ c.self.view_is in
    let within : i < length rows = subst (λ (rs : List Row). i < length rs) same c.loop-row-test.true in
    let at : c.row-item.result ≡ get_or rows i c.row-item.result = c.row-item.is ∙ ap (λ (rs : List Row). get_or rs i c.row-item.result) same in
    let split = pieces-at row_text rows i c.row-item.result within in
    let whole : sources_text rows ≡ sources_text (take i rows) ++ (row_text c.row-item.result ++ sources_text (drop (i + 1) rows)) =
    split ∙ ap (λ (r : Row). sources_text (take i rows) ++ (row_text r ++ sources_text (drop (i + 1) rows))) (sym at) in
    front-more (g.O.Sink.taken c.args.out.now) (g.O.Sink.taken c.loop-row.out) (g.O.Sink.taken c.write_all.new.sink) (sources_text (take i rows)) (row_text c.row-item.result)
    (sources_text (drop (i + 1) rows)) (sources_text rows) whole c.loop-row.invariant.written
    (subst (λ (xs : List ℕ). AppendsFront (g.O.Sink.taken c.loop-row.out) (g.O.Sink.taken c.write_all.new.sink) xs) (c.as_slice.ensures.value ∙ c.text.ensures) c.in_err-write_all.ensures.front)
