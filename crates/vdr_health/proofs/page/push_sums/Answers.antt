use Rattle.std.proofs.Common.{refl}
use Rattle.std.specs.Prelude.{codes, decimal}
use Rattle.vdr_terms.specs.Groups.{group_name}
use Rattle.vdr_health.specs.Health.{count_text, sums_text}
use Rattle.vdr_health.proofs.Joining.{join7}
use Rattle.vdr_health.proofs.page.push_sums.Goals as goal

pub returns-clause-text : goal.returns-clause-text
unfolding sums_text
returns-clause-text c =
    let all = join7 c.args.page.now.items (group_name c.args.group) (count_text (codes " taken ") (decimal c.args.sums.now.taken)) (count_text (codes " recorded ") (decimal c.args.sums.now.recorded))
    (count_text (codes " full ") (decimal c.args.sums.now.counts.full)) (count_text (codes " rate ") (decimal c.args.sums.now.counts.rate)) (count_text (codes " bad ") (decimal c.args.sums.now.counts.bad))
    (count_text (codes " large ") (decimal c.args.sums.now.counts.large)) in
    rw (
      c.push_count-6.ensures.text,
      c.push_count-5.ensures.text,
      c.push_count-4.ensures.text,
      c.push_count-3.ensures.text,
      c.push_count-2.ensures.text,
      c.push_count.ensures.text,
      c.push_name.ensures.text,
    ) all
