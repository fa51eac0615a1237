use Rattle.vdr_recorder.proofs.watched.tell.Goals as goal

pub turned-requires : goal.turned-requires
turned-requires g c = record { shown = c.requires.shown c.if-told.true }
