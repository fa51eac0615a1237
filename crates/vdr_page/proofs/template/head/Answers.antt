use Rattle.std.proofs.Common.{refl}
use Rattle.vdr_page.specs.Template.{template_head}
use Rattle.vdr_page.proofs.template.head.Goals as goal

pub returns : goal.returns
unfolding template_head
returns c = refl
