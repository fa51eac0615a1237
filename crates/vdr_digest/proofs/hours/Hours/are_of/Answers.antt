use Rattle.std.proofs.Common.{◌∙◌, Bool, ◌&&◌, nat_eq, ap, sym}
use Rattle.vdr_digest.proofs.Holding.{is_of}
use Rattle.vdr_digest.proofs.hours.Hours.are_of.Goals as goal

pub returns-else-is_some : goal.returns-else-is_some
returns-else-is_some c held holds =
    let h = c.args.self.now in
    c.if-is_some.false ∙ ap (λ (b : Bool). b && nat_eq h.hour c.args.hour) (sym (sym c.is_some.ensures ∙ c.if-is_some.false)) ∙ is_of h held c.args.hour holds
