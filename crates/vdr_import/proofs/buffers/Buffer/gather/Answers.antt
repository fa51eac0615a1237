use Rattle.vdr_import.proofs.Relaying.{held_more}
use Rattle.vdr_import.proofs.buffers.Buffer.gather.Goals as goal

pub returns-clause-held : goal.returns-clause-held
returns-clause-held c =
    let s = c.args.self.now in held_more s.bytes c.args.bytes.now c.copy_from_slice.new.self s.from s.to _ s.order s.within c.copy_from_slice.ensures.after
