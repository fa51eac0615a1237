use Rattle.std.proofs.Common.{◌≡◌, ◌∙◌, true, sym}
use Rattle.vdr_reply.proofs.Healths.{closed, opened}
use Rattle.vdr_reply.proofs.health.told.Goals as goal

pub returns-then-not-is_open : goal.returns-then-not-is_open
returns-then-not-is_open c = λ run knows makes. c.of_line.ensures ∙ closed c.args.gauged.now run (sym knows.open_is ∙ sym c.is_open.ensures ∙ c.if-not-is_open.true)

pub returns : goal.returns
returns c = λ run knows makes.
    let is : run.is_open ≡ true = sym knows.open_is ∙ sym c.is_open.ensures ∙ c.if-not-is_open.false in
    c.page_of.ensures run.start run.popped (makes is) (knows.tallies is) ∙ opened c.args.gauged.now run is
