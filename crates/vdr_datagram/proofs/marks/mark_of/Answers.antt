use Rattle.vdr_datagram.proofs.MarkLemmas.{frame_shown, image_shown, opaque_shown}
use Rattle.vdr_datagram.proofs.marks.mark_of.Goals as goal

pub returns-in-Some : goal.returns-in-Some
returns-in-Some c = λ kind other. image_shown c.args.bytes.now _ c.in-Some.ensures.exact other kind

pub returns-in-Some-read_pcm : goal.returns-in-Some-read_pcm
returns-in-Some-read_pcm c = λ kind other. frame_shown c.args.bytes.now _ c.in_default.ensures.exact c.in-Some-read_pcm.ensures.exact other kind

pub returns-in-None : goal.returns-in-None
returns-in-None c = λ kind other. opaque_shown c.args.bytes.now c.in_default.ensures.exact c.in-None.ensures.exact other kind
