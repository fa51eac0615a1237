use Rattle.std.proofs.Common.{◌∷◌, ◌++◌, [], subst, sym}
use Rattle.std.proofs.lemmas.Result.{on_ok_weaker}
use Rattle.vdr_page.specs.Ledgers.{Keeps}
use Rattle.vdr_page.specs.Opens.{Open, open_behind}
use Rattle.vdr_page.specs.Surveys.{step_of}
use Rattle.vdr_page.specs.declared.survey.Survey.{Survey}
use Rattle.vdr_page.proofs.Holding.{line_told, open_next, sources_next}
use Rattle.vdr_page.proofs.printer.PagePrinter.tell.Goals as goal

pub returns-clause-told : goal.returns-clause-told
returns-clause-told c survey seen told =
    let known = c.args.self.now.survey in
    let open_is : Keeps (step_of known) (open_behind (step_of known) seen) c.args.self.now.ledger = subst (λ (s : Survey). Keeps (step_of s) (open_behind (step_of s) seen) c.args.self.now.ledger) (sym told.survey_is) told.open_is in
    on_ok_weaker c.push_watched.result
    (λ watched. record {
      survey_is = told.survey_is;
      open_is = subst (λ (s : Survey). Keeps (step_of s) (open_behind (step_of s) (seen ++ c.args.item.now ∷ [])) c.take.new.self) told.survey_is
          (subst (λ (o : Open). Keeps (step_of known) o c.take.new.self) (open_next (step_of known) seen c.args.item.now) (c.in_ok-take.ensures.open (open_behind (step_of known) seen) open_is));
      sources_are = sources_next c.args.self.now.sources _ seen c.args.item.now told.sources_are c.in_ok-add.ensures.added;
      watch_is = watched;
    })
    (c.push_watched.ensures.watch seen told.watch_is)

pub returns-clause-text : goal.returns-clause-text
returns-clause-text c survey seen told =
    let known = c.args.self.now.survey in
    let open_is : Keeps (step_of known) (open_behind (step_of known) seen) c.args.self.now.ledger = subst (λ (s : Survey). Keeps (step_of s) (open_behind (step_of s) seen) c.args.self.now.ledger) (sym told.survey_is) told.open_is in
    on_ok_weaker c.push_watched.result
    (λ watched. line_told survey known seen c.args.item.now _ _ _ told.survey_is c.clear.ensures.items (c.in_ok-take.ensures.text (open_behind (step_of known) seen) open_is) watched)
    (c.push_watched.ensures.text seen told.watch_is)
