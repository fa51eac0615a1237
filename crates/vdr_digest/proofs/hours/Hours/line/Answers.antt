use Rattle.std.proofs.Common.{◌≡◌, ◌∙◌, false, refl}
use Rattle.std.specs.Option.{is_some}
use Rattle.vdr_digest.proofs.Holding.{none_line}
use Rattle.vdr_digest.proofs.hours.Hours.line.Goals as goal

pub returns-then-is_none-clause-text : goal.returns-then-is_none-clause-text
returns-then-is_none-clause-text c held holds =
    let none : is_some c.args.self.now.span ≡ false = let e = c.is_none.ensures in let t = c.if-is_none.true in cc in
    let empty = none_line c.args.self.now held holds none in let new = c.new-text.ensures in cc
