use Rattle.std.proofs.Common.{◌≡◌, true, false}
use Rattle.vdr_live.specs.Makes.{MakerSeen}
use Rattle.vdr_live.proofs.MakeLemmas.{done_new, refused_new}
use Rattle.vdr_live.proofs.making.make_formatted.Goals as goal

pub returns-in_default-clause-says : goal.returns-in_default-clause-says
returns-in_default-clause-says g c = λ asks.
    let maker = g.K.MediaMaker in
    let was : MakerSeen = record { stands = maker.stands c.args.maker.now; taken = maker.taken c.args.maker.now; faults = maker.faults c.args.maker.now } in
    let now : MakerSeen = record { stands = maker.stands c.make.new.self; taken = maker.taken c.make.new.self; faults = maker.faults c.make.new.self } in
    let made = c.in-Ok.ensures in
    let told = c.in_default.ensures in
    done_new g.M.Media was now c.args.text.now c.args.sizes.0 c.args.sizes.1 asks _ _ made.zeros made.unfailed
    (λ taken. let refused : false ≡ true = made.names taken in let none : ⊥ = cc in none) told.writes.sizes told.done told.moments

pub returns-clause-says : goal.returns-clause-says
returns-clause-says g c = λ asks.
    let maker = g.K.MediaMaker in
    let was : MakerSeen = record { stands = maker.stands c.args.maker.now; taken = maker.taken c.args.maker.now; faults = maker.faults c.args.maker.now } in
    let now : MakerSeen = record { stands = maker.stands c.unmake.new.self; taken = maker.taken c.unmake.new.self; faults = maker.faults c.unmake.new.self } in
    let made = c.in-Ok.ensures in
    let told = c.in-Err.ensures in
    rw c.status_of.ensures
    (refused_new g.M.Media was now c.args.text.now c.args.sizes.0 c.args.sizes.1 asks _ _ made.zeros made.unfailed c.in-Err.refused told.tested.config told.tested.formatted told.tested.small told.writes.cause.in_all)
