-- What a printer of pages keeps of the records that it has told.
use Rattle.std.specs.Prelude.{◌≡◌, List}
use Rattle.vdr_terms.specs.Records.{Record}
use Rattle.vdr_sources.specs.Tables.{sources_of}
use Rattle.vdr_watch.specs.Kept.{kept_of}
use Rattle.vdr_page.specs.Ledgers.{Keeps}
use Rattle.vdr_page.specs.Opens.{open_behind}
use Rattle.vdr_page.specs.Surveys.{step_of}
use Rattle.vdr_page.specs.declared.printer.PagePrinter.{PagePrinter}
use Rattle.vdr_page.specs.declared.survey.Survey.{Survey}

pub record HasTold (survey : Survey) (seen : List Record) (p : PagePrinter) : Type 0 where
  pub survey_is : p.survey ≡ survey
  pub open_is : Keeps (step_of survey) (open_behind (step_of survey) seen) p.ledger
  pub sources_are : p.sources ≡ sources_of seen
  pub watch_is : p.watch ≡ kept_of seen
