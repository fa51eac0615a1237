-- Each tag leaves one fewer that may stand there.
use Rattle.vdr_frame.proofs.link.+behind_tags.Given as goal

abbrev pub decreases-behind_tags : goal.decreases-behind_tags
decreases-behind_tags l = l.tags
