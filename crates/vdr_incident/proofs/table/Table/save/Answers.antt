use Rattle.std.proofs.Common.{◌≡◌, ℕ, Some, None, set, slice_get, subst, sym}
use Rattle.vdr_outside.specs.Disk.{content}
use Rattle.vdr_outside.specs.Moments.{ChangesOnly, Settled}
use Rattle.vdr_incident.specs.Tables.{HoldsBeside, HoldsEither}
use Rattle.vdr_incident.proofs.Ids.{free_held, same_slot}
use Rattle.vdr_incident.proofs.table.Table.save.Goals as goal

pub returns-in_err-write_save-clause-moments : goal.returns-in_err-write_save-clause-moments
returns-in_err-write_save-clause-moments g c slots slot settled free =
    let same = same_slot _ c.in-Some.slot slot c.in-Some.ensures.free free in
    subst (λ (n : ℕ). ChangesOnly 1 (HoldsEither n slots c.args.self.now (set c.args.self.now n (Some c.args.save.now)) (content (g.M.Media.disk c.args.media.now).reads 1)) (g.M.Media.disk c.args.media.now) (g.M.Media.disk c.write_save.new.media)) same
    (c.write_save.ensures.moments slots c.args.self.now settled (subst (λ (n : ℕ). slice_get c.args.self.now n ≡ Some None) (sym same) (free_held c.args.self.now slot free)))

pub returns-clause-moments : goal.returns-clause-moments
returns-clause-moments g c slots slot settled free =
    let same = same_slot _ c.in-Some.slot slot c.in-Some.ensures.free free in
    subst (λ (n : ℕ). ChangesOnly 1 (HoldsEither n slots c.args.self.now (set c.args.self.now n (Some c.args.save.now)) (content (g.M.Media.disk c.args.media.now).reads 1)) (g.M.Media.disk c.args.media.now) (g.M.Media.disk c.write_save.new.media)) same
    (c.write_save.ensures.moments slots c.args.self.now settled (subst (λ (n : ℕ). slice_get c.args.self.now n ≡ Some None) (sym same) (free_held c.args.self.now slot free)))

pub returns-clause-settled : goal.returns-clause-settled
returns-clause-settled g c slots slot settled free =
    let same = same_slot _ c.in-Some.slot slot c.in-Some.ensures.free free in
    subst (λ (n : ℕ). Settled 1 (HoldsBeside n slots (set c.args.self.now n (Some c.args.save.now)) (content (g.M.Media.disk c.args.media.now).reads 1)) (g.M.Media.disk c.write_save.new.media)) same
    (c.in_ok-write_save.ensures.settled slots c.args.self.now settled (subst (λ (n : ℕ). slice_get c.args.self.now n ≡ Some None) (sym same) (free_held c.args.self.now slot free)))
