use Rattle.std.proofs.Common.{ℕ, [], ◌∷◌, subst, sym, ◌∙◌}
use Rattle.vdr_adapters.specs.Files.{IsFile, IsPlaced, place_of, placed}
use Rattle.vdr_adapters.specs.Files.Call.{Length, Lock}
use Rattle.vdr_adapters.proofs.Placing.{is_placed, place_is, two_calls}
use Rattle.vdr_adapters.proofs.file.FileMedium.of.Goals as goal

pub returns : goal.returns
returns g c = λ name mark is.
    let seen = g.F.MediumFile.seen in
    let file = c.try_lock.new.self in
    let access = c.args.access in
    let size = c.in-Ok.size in
    let calls : IsFile (seen file) (record { name = name; mark = mark; access = access; calls = Length size ∷ Lock access ∷ [] }) =
    two_calls (seen c.args.file) (seen c.length.new.self) (seen file) (record { name = name; mark = mark; access = access; calls = [] }) (Length size) (Lock access)
    is c.in-Ok.ensures.call c.in_default.ensures.call in
    let at = subst (λ (n : ℕ). IsPlaced seen (placed file access) name mark access n) (sym c.new-2.ensures.size) (is_placed seen file name mark access size calls) in
    subst (λ p. IsPlaced seen p name mark access c.new-2.result.size)
    (sym ((λ i. place_of ((c.new-2.ensures.state ∙ c.state_of.ensures) i) (c.new-2.ensures.file i)) ∙ place_is file access)) at
