use Rattle.std.proofs.Common.{ℕ, List, subst}
use Rattle.std.proofs.lemmas.Result.{err_from_is_err_and}
use Rattle.std.specs.Prelude.{map}
use Rattle.std.specs.Io.KnownBytes.{Appends}
use Rattle.vdr_entry.specs.Queries.{asked}
use Rattle.vdr_visit.specs.Visits.ReadEnd.{AllRead}
use Rattle.vdr_page.specs.Fronts.{save_of, words_of}
use Rattle.vdr_export.proofs.Paging.{front_stopped, paged}
use Rattle.vdr_export.proofs.pages.write_page.Goals as goal

pub returns-in_err-print_front-clause-page : goal.returns-in_err-print_front-clause-page
returns-in_err-print_front-clause-page g c =
    let p = err_from_is_err_and c.from_residual-in_err-print_front.result c.from_residual-in_err-print_front.ensures.1 in
    rw (p.1, p.2)
    (front_stopped (words_of c.args.words.now) (map save_of c.args.saves.now) c.in_ok-survey.survey (g.O.Sink.taken c.args.out.now) (g.O.Sink.taken c.print_front.new.out)
    (g.R.Reader.tells _ g.M.Media c.args.reader.now c.args.media.now (asked c.args.query.now)) c.law_of_pages.ensures c.in_ok-survey.ensures.found c.in_err-print_front.field-0.0 c.in_err-print_front.ensures.printed)

pub returns-clause-page : goal.returns-clause-page
returns-clause-page g c =
    paged (words_of c.args.words.now) (map save_of c.args.saves.now) c.in_ok-survey.survey (g.O.Sink.taken c.args.out.now) (g.O.Sink.taken c.print_front.new.out) (g.O.Sink.taken c.print_rows.new.out)
    (g.R.Reader.tells _ g.M.Media c.args.reader.now c.args.media.now (asked c.args.query.now)) c.law_of_pages.ensures c.in_ok-survey.ensures.found c.in_ok-print_front.ensures.printed
    c.print_rows.result
    (let v = c.print_rows.ensures.handed in
    record {
      seen = v.seen;
      made = v.made;
      are = λ records told. v.are records (c.law_of_visits.ensures.told (asked c.args.query.now) c.args.reader.now c.survey_of.new.reader c.args.media.now c.survey_of.new.media AllRead c.in_ok-survey.ensures.leaves records told);
      front = λ records told. v.front records (c.law_of_visits.ensures.told (asked c.args.query.now) c.args.reader.now c.survey_of.new.reader c.args.media.now c.survey_of.new.media AllRead c.in_ok-survey.ensures.leaves records told);
    })
