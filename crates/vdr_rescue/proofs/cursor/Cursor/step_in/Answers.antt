use Rattle.std.proofs.Common.{rules, ◌≡◌, ◌+◌, ◌∷◌, [], ℕ, List, Some, sym, ap, ◌∙◌, subst}
use Rattle.std.specs.Prelude.{◌↔◌}
use Rattle.vdr_terms.specs.Records.{Record}
use Rattle.vdr_rescue.specs.declared.cursor.Inside.{Inside}
use Rattle.vdr_rescue.specs.Cursors.{CursorState}
use Rattle.vdr_rescue.specs.Given.{GivesAbove}
use Rattle.vdr_rescue.proofs.CursorLemmas.{given_behind, inside_behind, left_behind}
use Rattle.vdr_rescue.proofs.cursor.Cursor.step_in.Goals as goal

pub returns-in_default-next_above-clause-gives : goal.returns-in_default-next_above-clause-gives
returns-in_default-next_above-clause-gives c bytes given all =
    let i = c.in-Some.inside in
    let inside : c.args.self.now.inside ≡ Some i = ap (λ (v : CursorState). v.inside) (sym c.self.view_is) ∙ c.in-Some.is in
    let held : c.deref.result.now ≡ c.args.self.now.buffer = c.deref.ensures.value ∙ ap (λ (v : CursorState). v.buffer) c.self.view_is in
    left_behind bytes c.args.self.now c.leave.new.self given all i inside (search rules) (search rules) (search rules) (search rules) (search rules) (search rules)
    (λ rs. subst (λ (bs : List ℕ). GivesAbove bs i.stand i.floor rs ↔ (rs ≡ [])) held (c.in_default-next_above.ensures.none rs))

pub returns-clause-gives : goal.returns-clause-gives
returns-clause-gives c bytes given all =
    let i = c.in-Some.inside in
    let item = c.next_above.new.item in
    let inside : c.args.self.now.inside ≡ Some i = ap (λ (v : CursorState). v.inside) (sym c.self.view_is) ∙ c.in-Some.is in
    let held : c.deref.result.now ≡ c.args.self.now.buffer = c.deref.ensures.value ∙ ap (λ (v : CursorState). v.buffer) c.self.view_is in
    let behind : c.behind.result ≡ inside_behind i c.in-Some-next_above.stand item = search rules in
    let d : CursorState = record {
      area = c.self.inside.area;
      heads = c.self.inside.heads.items;
      told = c.self.inside.told.items;
      inside = Some c.behind.result;
      buffer = c.self.inside.buffer.items;
      before = c.self.inside.before;
      reached = c.item.inside.place + 1;
    } in
    given_behind bytes c.args.self.now d given all i inside
    (ap (λ (v : CursorState). v.area) c.self.view_is) (ap (λ (v : CursorState). v.heads) c.self.view_is) (ap (λ (v : CursorState). v.before) c.self.view_is)
    c.in-Some-next_above.stand item
    (ap (λ (v : CursorState). v.told) c.self.view_is) (ap (λ (j : Inside). Some j) behind) (ap (λ (v : CursorState). v.buffer) c.self.view_is)
    (ap (λ (r : Record). r.place + 1) c.item.view_is)
    (λ rs. subst (λ (bs : List ℕ). GivesAbove bs i.stand i.floor rs ↔ ((more : List Record) × (rs ≡ item ∷ more) × GivesAbove bs c.in-Some-next_above.stand i.floor more)) held
    (c.in-Some-next_above.ensures.next.2 rs))
