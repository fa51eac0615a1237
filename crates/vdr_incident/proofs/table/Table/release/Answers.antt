use Rattle.std.proofs.Common.{ℕ, List, Option, None, subst, sym}
use Rattle.vdr_core.specs.Histories.{Incident, with_slot}
use Rattle.vdr_outside.specs.Disk.{content}
use Rattle.vdr_outside.specs.Moments.{ChangesOnly, Settled}
use Rattle.vdr_incident.specs.Tables.{HoldsBeside, HoldsEither}
use Rattle.vdr_incident.proofs.Ids.{by_id}
use Rattle.vdr_incident.proofs.table.Table.release.Goals as goal

pub returns-in_err-close_slot-clause-moments : goal.returns-in_err-close_slot-clause-moments
returns-in_err-close_slot-clause-moments g c slots slot x settled is lives =
    let id = by_id c.args.self.now c.args.id slot c.in-Some.slot x is c.in-Some.ensures.found.0 lives in
    subst (λ (n : ℕ). ChangesOnly 1 (HoldsEither n slots c.args.self.now (with_slot c.args.self.now c.args.id None) (content (g.M.Media.disk c.args.media.now).reads 1)) (g.M.Media.disk c.args.media.now) (g.M.Media.disk c.close_slot.new.media)) id.same
    (subst (λ (t : List (Option Incident)). ChangesOnly 1 (HoldsEither c.in-Some.slot slots c.args.self.now t (content (g.M.Media.disk c.args.media.now).reads 1)) (g.M.Media.disk c.args.media.now) (g.M.Media.disk c.close_slot.new.media)) (sym id.without)
    (c.close_slot.ensures.moments slots c.args.self.now x settled id.held))

pub returns-clause-moments : goal.returns-clause-moments
returns-clause-moments g c slots slot x settled is lives =
    let id = by_id c.args.self.now c.args.id slot c.in-Some.slot x is c.in-Some.ensures.found.0 lives in
    subst (λ (n : ℕ). ChangesOnly 1 (HoldsEither n slots c.args.self.now (with_slot c.args.self.now c.args.id None) (content (g.M.Media.disk c.args.media.now).reads 1)) (g.M.Media.disk c.args.media.now) (g.M.Media.disk c.close_slot.new.media)) id.same
    (subst (λ (t : List (Option Incident)). ChangesOnly 1 (HoldsEither c.in-Some.slot slots c.args.self.now t (content (g.M.Media.disk c.args.media.now).reads 1)) (g.M.Media.disk c.args.media.now) (g.M.Media.disk c.close_slot.new.media)) (sym id.without)
    (c.close_slot.ensures.moments slots c.args.self.now x settled id.held))

pub returns-clause-settled : goal.returns-clause-settled
returns-clause-settled g c slots slot x settled is lives =
    let id = by_id c.args.self.now c.args.id slot c.in-Some.slot x is c.in-Some.ensures.found.0 lives in
    subst (λ (n : ℕ). Settled 1 (HoldsBeside n slots (with_slot c.args.self.now c.args.id None) (content (g.M.Media.disk c.args.media.now).reads 1)) (g.M.Media.disk c.close_slot.new.media)) id.same
    (subst (λ (t : List (Option Incident)). Settled 1 (HoldsBeside c.in-Some.slot slots t (content (g.M.Media.disk c.args.media.now).reads 1)) (g.M.Media.disk c.close_slot.new.media)) (sym id.without)
    (c.in_ok-close_slot.ensures.settled slots c.args.self.now x settled id.held))
