use Rattle.std.proofs.Common.{◌≡◌, ◌∙◌, ◌∷◌, ◌++◌, [], ℕ, List, option_map, ap, sym, subst}
use Rattle.std.specs.Io.KnownBytes.{Appends}
use Rattle.vdr_terms.specs.Records.{Record}
use Rattle.vdr_datagram.specs.Verdicts.{LineReading}
use Rattle.vdr_datagram.specs.Views.{verdict_of}
use Rattle.vdr_ais.specs.Lines.{Line}
use Rattle.vdr_ais.specs.Pending.{Entries, HasRead}
use Rattle.vdr_ais.specs.Views.{message_of}
use Rattle.vdr_outside.specs.Writes.{AppendsFront}
use Rattle.vdr_rows.specs.Tables.{back_of, back_with, ended_at}
use Rattle.vdr_rows.proofs.OneLine.{back_by_line, text_by_line}
use Rattle.vdr_rows.proofs.TableLemmas.{some_seen}
use Rattle.vdr_rows.proofs.rows.Rows.visit_only.Goals as goal

pub returns-in-Ok-print_only-clause-has : goal.returns-in-Ok-print_only-clause-has
returns-in-Ok-print_only-clause-has g c = λ seen h.
    let r : Record = c.args.item.now in
    let v : LineReading = verdict_of c.args.line.now in
    let group : c.item.inside.group ≡ r.group = ap (λ (e : Record). e.group) c.item.view_is in
    let lines : back_with (back_of seen) c.item.inside.group v ≡ back_of (seen ++ r ∷ []) =
    ap (λ (n : ℕ). back_with (back_of seen) n v) group ∙ sym (back_by_line seen r v c.requires.only) in
    record {
      begun = c.in-Ok-print_only.ensures.begun ∙ sym (some_seen seen r);
      read = subst (λ (es : Entries). HasRead (back_of (seen ++ r ∷ [])) es) (sym c.print_only.ensures.same)
          (subst (λ (before : List Line). HasRead before c.try_take_line.new.self) lines (c.in-Ok.ensures.read (back_of seen) h.read));
    }

pub returns-in-Ok-print_only-clause-printed : goal.returns-in-Ok-print_only-clause-printed
returns-in-Ok-print_only-clause-printed g c = λ seen h.
    let r : Record = c.args.item.now in
    let v : LineReading = verdict_of c.args.line.now in
    let group : c.item.inside.group ≡ r.group = ap (λ (e : Record). e.group) c.item.view_is in
    let ended : option_map message_of c.in-Ok.ended ≡ ended_at (back_of seen) r.group v =
    subst (λ (n : ℕ). option_map message_of c.in-Ok.ended ≡ ended_at (back_of seen) n v) group (c.in-Ok.ensures.ended (back_of seen) h.read) in
    subst (λ (text : List ℕ). Appends (g.O.Sink.taken c.args.out.now) (g.O.Sink.taken c.print_only.new.out) text) (text_by_line seen r v (option_map message_of c.in-Ok.ended) c.requires.only ended)
    (c.in-Ok-print_only.ensures.all seen h.begun)

pub returns-in-Err-print_only-clause-printed : goal.returns-in-Err-print_only-clause-printed
returns-in-Err-print_only-clause-printed g c = λ seen h.
    let r : Record = c.args.item.now in
    let v : LineReading = verdict_of c.args.line.now in
    let group : c.item.inside.group ≡ r.group = ap (λ (e : Record). e.group) c.item.view_is in
    let ended : option_map message_of c.in-Ok.ended ≡ ended_at (back_of seen) r.group v =
    subst (λ (n : ℕ). option_map message_of c.in-Ok.ended ≡ ended_at (back_of seen) n v) group (c.in-Ok.ensures.ended (back_of seen) h.read) in
    subst (λ (text : List ℕ). AppendsFront (g.O.Sink.taken c.args.out.now) (g.O.Sink.taken c.print_only.new.out) text) (text_by_line seen r v (option_map message_of c.in-Ok.ended) c.requires.only ended)
    (c.print_only.ensures.front seen h.begun)
