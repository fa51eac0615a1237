use Rattle.std.proofs.Common.{[], ◌∷◌, List, refl, subst, sym}
use Rattle.std.proofs.lemmas.List.Sums.{fold-append}
use Rattle.std.proofs.lemmas.Result.{on_ok_weaker}
use Rattle.vdr_ais.specs.Lines.{Line}
use Rattle.vdr_ais.specs.Pending.{HasRead}
use Rattle.vdr_rows.specs.Tables.{back_after, back_of, header_behind, record_rows}
use Rattle.vdr_rows.specs.Texts.{rows_text}
use Rattle.vdr_rows.proofs.Printing.{first_front, last_all, last_front}
use Rattle.vdr_rows.proofs.TableLemmas.{some_seen}
use Rattle.vdr_rows.proofs.rows.Rows.print.Goals as goal

pub returns-in_err-print_header-clause-front : goal.returns-in_err-print_header-clause-front
returns-in_err-print_header-clause-front g c = λ seen h.
    first_front _ _ (header_behind seen) (rows_text (record_rows (back_of seen) c.args.item.now)) _ refl (c.in_err-print_header.ensures.front seen h.begun)

pub returns-clause-visited : goal.returns-clause-visited
returns-clause-visited g c = λ seen h.
    on_ok_weaker c.print_record.result
    (λ read. record {
      begun = sym (some_seen seen c.args.item.now);
      read = subst (λ (lines : List Line). HasRead lines c.print_record.new.unfinished) (sym (fold-append back_after [] seen (c.args.item.now ∷ []))) read;
    })
    (c.print_record.ensures.read (back_of seen) h.read)

pub returns-clause-all : goal.returns-clause-all
returns-clause-all g c = λ seen h.
    last_all _ _ _ _ (header_behind seen) (rows_text (record_rows (back_of seen) c.args.item.now)) _ refl (c.in_ok-print_header.ensures.all seen h.begun) (c.print_record.ensures.all (back_of seen) h.read)

pub returns-clause-front : goal.returns-clause-front
returns-clause-front g c = λ seen h.
    last_front _ _ _ (header_behind seen) (rows_text (record_rows (back_of seen) c.args.item.now)) _ refl (c.in_ok-print_header.ensures.all seen h.begun) (c.print_record.ensures.front (back_of seen) h.read)
