-- A tag leaves what stands behind it, with one tag fewer.
use Rattle.std.proofs.Common.{◌≡◌, ◌-◌, length, take, drop, rules}
use Rattle.std.proofs.lemmas.List.{take_rest}
use Rattle.vdr_frame.proofs.TagLemmas.{behind_tag}
use Rattle.vdr_frame.proofs.link.+behind_tags.Goals as goal

pub returns : goal.returns
returns t c =
    let tagged = behind_tag c.args.tags c.args.kind c.args.rest.now (search rules) (search rules) (search rules) in
    let rest : take (length c.args.rest.now - 4) (drop 4 c.args.rest.now) ≡ drop 4 c.args.rest.now = take_rest c.args.rest.now 4 in
    cc
