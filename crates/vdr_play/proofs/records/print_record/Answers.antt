use Rattle.std.proofs.Common.{List, ℕ, [], ◌++◌, sym, ap, refl}
use Rattle.std.proofs.lemmas.List.{append-nil}
use Rattle.std.proofs.lemmas.Result.{on_ok_weaker}
use Rattle.std.proofs.KnownBytes.{Appends-trans}
use Rattle.vdr_entry.specs.Lines.{record_line}
use Rattle.vdr_outside.proofs.Known.{front-more}
use Rattle.vdr_play.specs.Texts.{content_text, record_text}
use Rattle.vdr_play.proofs.Fronts.{front-first}
use Rattle.vdr_play.proofs.records.print_record.Goals as goal

pub returns-in_err-print_line-clause-front : goal.returns-in_err-print_line-clause-front
unfolding record_text
returns-in_err-print_line-clause-front g c =
    front-first _ _ (record_line c.args.item.now) (content_text c.args.tracks.now c.args.item.now.content) (record_line c.args.item.now ++ content_text c.args.tracks.now c.args.item.now.content) refl c.in_err-print_line.ensures.front

pub returns-clause-all : goal.returns-clause-all
unfolding record_text
returns-clause-all g c =
    on_ok_weaker c.print_below.result (λ last. Appends-trans _ _ _ (record_line c.args.item.now) (content_text c.args.tracks.now c.args.item.now.content) c.in_ok-print_line.ensures.all last) c.print_below.ensures.all

pub returns-clause-front : goal.returns-clause-front
unfolding record_text
returns-clause-front g c =
    let text : List ℕ = content_text c.args.tracks.now c.args.item.now.content in
    front-more _ _ _ (record_line c.args.item.now) text [] (record_line c.args.item.now ++ text) (ap (λ (xs : List ℕ). record_line c.args.item.now ++ xs) (sym (append-nil text))) c.in_ok-print_line.ensures.all c.print_below.ensures.front
