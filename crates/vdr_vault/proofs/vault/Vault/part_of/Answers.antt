use Rattle.std.proofs.Common.{◌≡◌, ℕ, sym, ap, ◌∙◌, subst}
use Rattle.vdr_terms.specs.Queries.Span.{Places}
use Rattle.vdr_entry.specs.Queries.{asked}
use Rattle.vdr_directory.specs.Holds.{Tells}
use Rattle.vdr_ring.specs.Rings.{RingState}
use Rattle.vdr_vault.specs.Plays.{ring_for}
use Rattle.vdr_vault.specs.Vaults.{ring_of}
use Rattle.vdr_vault.proofs.Stretched.{none_found}
use Rattle.vdr_vault.proofs.vault.Vault.part_of.Goals as goal

pub returns-in-None-clause-over : goal.returns-in-None-clause-over
returns-in-None-clause-over c is placed tells order =
    let same : c.ring-ring.result.now ≡ ring_for c.args.self.now (asked c.args.query.now) = c.ring-ring.ensures ∙ ap (λ (m : ℕ). ring_of c.args.self.now m) c.number_of.ensures.number in
    none_found (asked c.args.query.now) (Places c.args.stretch.next c.args.stretch.last) placed
    (c.in-None.ensures.none placed (subst (λ (r : RingState). Tells r.slots placed r.directory) (sym same) tells) order)
