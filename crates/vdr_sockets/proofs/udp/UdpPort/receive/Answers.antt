use Rattle.std.proofs.Common.{rules}
use Rattle.vdr_sockets.proofs.Handing.{hands_begun, hands_none}
use Rattle.vdr_sockets.proofs.udp.UdpPort.receive.Goals as goal

pub returns-then-is_over-clause-given : goal.returns-then-is_over-clause-given
returns-then-is_over-clause-given g c = hands_none g.R.Socket.DatagramSocket.seen c.args.self.now.socket c.args.self.now.number

pub returns-in_err-bind-clause-not_given : goal.returns-in_err-bind-clause-not_given
returns-in_err-bind-clause-not_given g c =
    let none = hands_begun g.R.Socket.DatagramSocket.seen c.args.self.now.socket c.bind.new.self.socket c.args.self.now.number c.bind.ensures.begun in
    search rules
