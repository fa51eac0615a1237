use Rattle.std.proofs.Common.{◌≡◌, ◌≤◌, ℤ, subst, sym, arith, rules, w64, to_z, of_z}
use mir.Val.{SFits}
use Rattle.std.proofs.lemmas.Int.{to_z-of_z}
use Rattle.vdr_outside.specs.Takes.{Gives, Standing}
use Rattle.vdr_sockets.specs.Sockets.{untold}
use Rattle.vdr_sockets.proofs.Hearing.{gives}
use Rattle.vdr_sockets.proofs.udp.UdpPortPort.take.Goals as goal

pub returns-in-Ok-Datagram-clause-took : goal.returns-in-Ok-Datagram-clause-took
returns-in-Ok-Datagram-clause-took g c =
    let bytes = c.receive.new.into.items in
    let received = c.received-received.result in
    let utc = c.utc-utc.result in
    let fits : SFits w64 utc = search rules in
    let whole : to_z w64 (of_z w64 utc) ≡ utc = to_z-of_z w64 utc fits in
    let later : c.args.self.now.floor ≤ received = omega (arith, c.received-received.ensures.later, c.receive.ensures.floor) in
    subst (λ (z : ℤ). Gives (untold c.args.self.now.floor) (untold received) received z bytes) (sym whole)
    (gives c.args.self.now.floor received utc bytes c.receive.ensures.short later c.received-received.ensures.small c.utc-utc.ensures)
