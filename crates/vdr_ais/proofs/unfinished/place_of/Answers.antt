use Rattle.std.proofs.Common.{◌≡◌, ◌∙◌, ◌+◌, ◌-◌, ◌/◌, ◌<◌, ℕ, Some, length, refl, sym, arith}
use Rattle.std.specs.List.{slice_get}
use Rattle.std.proofs.lemmas.Option.{slice_get_read}
use Rattle.vdr_ais.specs.Pending.{key_cmp}
use Rattle.vdr_ais.proofs.Entries.{behind_more, behind_own, own_at}
use Rattle.vdr_ais.proofs.Keys.{key_total}
use Rattle.vdr_ais.proofs.unfinished.place_of.Goals as goal

pub returns-in-Equal-clause-found : goal.returns-in-Equal-clause-found
returns-in-Equal-clause-found c =
    let m : ℕ = c.loop-from.from + (c.loop-from.to - c.loop-from.from) / 2 in
    let in_range : m < length c.args.entries.now = omega (arith, c.loop-from-test.true, c.loop-from.invariant.within) in
    let at : slice_get c.args.entries.now m ≡ Some c.index-entries-middle.result = slice_get_read c.args.entries.now (length c.args.entries.now) m _ refl in_range c.index-entries-middle.is in
    let same = sym c.order.ensures ∙ c.in-Equal.is in
    record {
      within = in_range;
      behind = behind_own key_cmp key_total _ c.args.entries.now c.requires m _ at same;
      here = λ e found. own_at key_cmp key_total _ c.args.entries.now m _ e _ at same found;
    }

pub loop-from-preserved : goal.loop-from-preserved
loop-from-preserved c =
    let m : ℕ = c.loop-from.from + (c.loop-from.to - c.loop-from.from) / 2 in
    let in_range : m < length c.args.entries.now = omega (arith, c.loop-from-test.true, c.loop-from.invariant.within) in
    let at : slice_get c.args.entries.now m ≡ Some c.index-entries-middle.result = slice_get_read c.args.entries.now (length c.args.entries.now) m _ refl in_range c.index-entries-middle.is in
    record {
      inside = omega (arith, c.loop-from-test.true);
      within = c.loop-from.invariant.within;
      behind = behind_more key_cmp key_total _ c.args.entries.now c.requires m _ at (sym c.order.ensures ∙ c.in-Greater.is);
      before = c.loop-from.invariant.before;
    }
