use Rattle.std.proofs.Common.{◌≡◌, arith}
use Rattle.vdr_alerts.proofs.Keeping.{names_all}
use Rattle.vdr_alerts.proofs.saying.names.Goals as goal

pub returns : goal.returns
returns c =
    let end : c.loop-place.place ≡ 30 = let most = c.loop-place.auto.place-end in let last = c.loop-place-test.false in omega (arith, most, last) in
    names_all c.args.reading.now.values c.args.alert.now c.loop-place.place c.loop-place.is_listed c.loop-place.invariant end
