use Rattle.std.proofs.Common.{◌≡◌, length, ap, arith}
use Rattle.vdr_rescue.specs.Cursors.{CursorState}
use Rattle.vdr_rescue.proofs.CursorLemmas.{few_told}
use Rattle.vdr_rescue.proofs.cursor.Cursor.told.Goals as goal

pub returns-clause-few : goal.returns-clause-few
returns-clause-few c =
    let held = few_told c.self.inside.heads.items c.self.inside.told.items c.self.inside.inside c.self.invariant.0.left in
    let read : length c.as_slice.result.now ≡ length c.self.inside.told.items = ap length c.as_slice.ensures.value in
    let all : length c.self.inside.heads.items ≡ length c.args.self.now.heads = ap (λ (v : CursorState). length v.heads) c.self.view_is in
    omega (arith, held, read, all)
