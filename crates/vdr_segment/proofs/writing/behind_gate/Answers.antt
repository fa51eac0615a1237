use Rattle.vdr_segment.proofs.Opening.{gate_cut}
use Rattle.vdr_segment.proofs.writing.behind_gate.Goals as goal

pub returns : goal.returns
returns c = gate_cut c.args.seq c.args.first _ _ c.write_header.ensures.bytes c.put.ensures
