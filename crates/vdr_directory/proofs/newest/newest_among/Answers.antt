use Rattle.std.proofs.Common.{◌∙◌, Some, None, sym, ap}
use Rattle.std.specs.Prelude.{Option, option_map}
use Rattle.vdr_directory.specs.declared.newest.Newest.{Newest}
use Rattle.vdr_directory.specs.Sequence.{Placed}
use Rattle.vdr_directory.specs.Directories.{newest_of}
use Rattle.vdr_directory.proofs.Bringing.{ends_bare, ends_bare_by}
use Rattle.vdr_directory.proofs.Entering.{last_told, none_told}
use Rattle.vdr_directory.proofs.newest.newest_among.Goals as goal

pub returns-in-Some-clause-newest : goal.returns-in-Some-clause-newest
returns-in-Some-clause-newest c placed order describe =
    let l = last_told placed c.args.opened.now _ (ends_bare None placed order) describe c.in-Some.ensures.value in
    ap (λ (n : Newest). Some n) (c.newest_by.ensures.newest l.p l.describes l.bare) ∙ sym (ap (λ (o : Option Placed). option_map newest_of o) l.is)

pub returns-in-None-clause-newest : goal.returns-in-None-clause-newest
returns-in-None-clause-newest c placed order describe = sym (ap (λ (o : Option Placed). option_map newest_of o) (none_told placed c.args.opened.now describe c.in-None.ensures.value))

pub returns-in-Some-clause-known : goal.returns-in-Some-clause-known
returns-in-Some-clause-known c known order describe =
    let l = last_told known c.args.opened.now _ (ends_bare_by None known order) describe c.in-Some.ensures.value in
    ap (λ (n : Newest). Some n) (c.newest_by.ensures.newest l.p l.describes l.bare) ∙ sym (ap (λ (o : Option Placed). option_map newest_of o) l.is)

pub returns-in-None-clause-known : goal.returns-in-None-clause-known
returns-in-None-clause-known c known order describe = sym (ap (λ (o : Option Placed). option_map newest_of o) (none_told known c.args.opened.now describe c.in-None.ensures.value))
