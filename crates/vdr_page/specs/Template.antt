-- The two texts of the template, between which the data block stands.
use Rattle.std.specs.Prelude.{ℕ, List}
use Rattle.vdr_page.specs.declared.template.TheConstants.{HEAD, TAIL}

unfoldable pub template_head : List ℕ
template_head = HEAD.now

unfoldable pub template_tail : List ℕ
template_tail = TAIL.now
