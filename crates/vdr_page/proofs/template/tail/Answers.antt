use Rattle.std.proofs.Common.{refl}
use Rattle.vdr_page.specs.Template.{template_tail}
use Rattle.vdr_page.proofs.template.tail.Goals as goal

pub returns : goal.returns
unfolding template_tail
returns c = refl
