use Rattle.std.proofs.Common.{◌-◌, sym, subst, ℕ, List, length}
use Rattle.std.proofs.lemmas.Result.{err_from_is_err_and}
use Rattle.vdr_tag.specs.Values.{TagValues}
use Rattle.vdr_tag.specs.Views.{values_of}
use Rattle.vdr_tag.proofs.FrontLemmas.{HasFront-from_behind, IsBehind, IsBehind-more, IsRefused-from_behind}
use Rattle.vdr_tag.proofs.Readings.{reading-front, reading-refused}
use Rattle.vdr_tag.proofs.read.read_tags.Goals as goal

pub loop-after-preserved : goal.loop-after-preserved
loop-after-preserved c =
    let block = c.in_ok-rest.ensures.block in
    let P : TagValues → Type 0 = λ v. IsBehind c.args.bytes.now c.in_ok-rest.rest.now v in
    let here = subst (λ (xs : List ℕ). IsBehind c.args.bytes.now xs (values_of c.loop-after.tags)) c.in-Some.ensures.opened c.loop-after.invariant in
    subst P (sym block.2) (IsBehind-more c.args.bytes.now c.in-Some.after.now c.in_ok-rest.rest.now (values_of c.loop-after.tags) block.0 here block.1)

pub returns-in_err-rest-clause-exact : goal.returns-in_err-rest-clause-exact
returns-in_err-rest-clause-exact c =
    let p = err_from_is_err_and c.from_residual.result c.from_residual.ensures.1 in
    rw (p.1, p.2)
    (reading-refused c.args.bytes.now c.in_err-rest.field-0.0
    (IsRefused-from_behind c.args.bytes.now c.loop-after.rest.now c.in-Some.after.now (values_of c.loop-after.tags) c.in_err-rest.field-0.0
    c.loop-after.invariant c.in-Some.ensures.opened c.in_err-rest.ensures.refused))

pub returns-clause-exact : goal.returns-clause-exact
returns-clause-exact c =
    reading-front c.args.bytes.now (values_of c.loop-after.tags) (length c.args.bytes.now - length c.loop-after.rest.now)
    (HasFront-from_behind c.args.bytes.now c.loop-after.rest.now (values_of c.loop-after.tags) c.loop-after.invariant c.in_default.ensures.none)
