use Rattle.vdr_page.specs.Pages.{front_text}
use Rattle.vdr_page.proofs.Joining.{front_is}
use Rattle.vdr_page.proofs.front.front_of.Goals as goal

pub returns : goal.returns
unfolding front_text
returns c = front_is _ _ _ _ _ _ c.in_ok-text.ensures c.in_ok-push_page.ensures c.in_ok-push_saves.ensures
