use Rattle.std.proofs.Common.{◌≡◌, ◌+◌, ◌≤◌, ℕ, Bool, get_or, Result, Ok, ap, ◌∙◌, subst, arith}
use Rattle.std.specs.Prelude.{◌↔◌, OnOk}
use Rattle.vdr_outside.specs.Disk.{Image, content}
use Rattle.vdr_outside.proofs.Counts.{none_falls_join}
use Rattle.vdr_outside.proofs.Moments.{unchanged_join}
use Rattle.vdr_outside.specs.declared.fault.Fault.{Fault}
use Rattle.vdr_segment.specs.declared.area.Area.{Area}
use Rattle.vdr_rescue.specs.Costs.{ReadsNoOther}
use Rattle.vdr_rescue.specs.Cursors.{Ends, Enters, StepsIn, budget}
use Rattle.vdr_rescue.proofs.CursorLemmas.{iff_join}
use Rattle.vdr_rescue.proofs.cursor.Cursor.step.Goals as goal

pub returns-then-not-branch-clause-gives : goal.returns-then-not-branch-clause-gives
returns-then-not-branch-clause-gives g c told given all =
    let i = c.loop-self.invariant in
    let m = c.args.self.now.area.medium in
    let same_area : c.step_in.new.self.area ≡ c.args.self.now.area = c.step_in.ensures.area ∙ i.area in
    let B = content (g.M.Media.disk c.args.media.now).reads m in
    let inside : Ends B c.loop-self.self given all ↔ Ends B c.step_in.new.self given all =
    subst (λ (b : Bool). Ends B c.loop-self.self given all ↔ StepsIn B b c.step_in.new.item c.step_in.new.self given all) c.loop-self-test.true (c.step_in.ensures.gives B given all) in
    let next : Ends B c.step_in.new.self given all ↔ Enters B c.in_ok-enter.field-0 c.enter.new.self given all =
    subst (λ (image : Image). Ends (content image m) c.step_in.new.self given all ↔ Enters (content image m) c.in_ok-enter.field-0 c.enter.new.self given all) (i.unchanged.reads told)
    (subst (λ (a : Area). Ends (content (g.M.Media.disk c.loop-self.media).reads a.medium) c.step_in.new.self given all ↔ Enters (content (g.M.Media.disk c.loop-self.media).reads a.medium) c.in_ok-enter.field-0 c.enter.new.self given all) same_area
    (c.in_ok-enter.ensures.gives told given all)) in
    subst (λ (b : Bool). Ends B c.args.self.now given all ↔ Enters B b c.enter.new.self given all) c.if-not-branch.true
    (iff_join (i.same told given all) (iff_join inside next))

pub loop-self-preserved : goal.loop-self-preserved
loop-self-preserved g c =
    let i = c.loop-self.invariant in
    let m = c.args.self.now.area.medium in
    let same_area : c.step_in.new.self.area ≡ c.args.self.now.area = c.step_in.ensures.area ∙ i.area in
    let medium : c.step_in.new.self.area.medium ≡ m = ap (λ (a : Area). a.medium) same_area in
    let spends = c.enter.ensures.spends in
    let onward = c.enter.ensures.onward (c.in_ok-enter.was ∙ ap (λ (b : Bool). Ok b) c.if-not-branch.false) in
    record {
      area = c.enter.ensures.area ∙ same_area;
      heads = c.enter.ensures.heads ∙ c.step_in.ensures.heads ∙ i.heads;
      unchanged = unchanged_join _ _ _ i.unchanged c.enter.ensures.unchanged;
      left = let a = i.left in let b = c.step_in.ensures.left in omega (arith, a, b, onward);
      spent =
          let a = i.spent in
          let b = c.step_in.ensures.budget in
          let d = subst (λ (k : ℕ). get_or (g.M.Media.bytes_read c.enter.new.media) k 0 + budget c.enter.new.self ≤ get_or (g.M.Media.bytes_read c.loop-self.media) k 0 + budget c.step_in.new.self) medium
          (subst (λ (r : Result Bool Fault). OnOk r (get_or (g.M.Media.bytes_read c.enter.new.media) c.step_in.new.self.area.medium 0 + budget c.enter.new.self ≤ get_or (g.M.Media.bytes_read c.loop-self.media) c.step_in.new.self.area.medium 0 + budget c.step_in.new.self)) c.in_ok-enter.was spends.left) in
          omega (arith, a, b, d);
      others = λ k other. subst (λ (n : ℕ). ReadsNoOther n (g.M.Media.bytes_read c.loop-self.media) (g.M.Media.bytes_read c.enter.new.media)) medium c.enter.ensures.others k other ∙ i.others k other;
      later = none_falls_join _ _ _ i.later c.enter.ensures.cause.later;
      same = λ told given all.
          let B = content (g.M.Media.disk c.args.media.now).reads m in
          let inside : Ends B c.loop-self.self given all ↔ Ends B c.step_in.new.self given all =
          subst (λ (b : Bool). Ends B c.loop-self.self given all ↔ StepsIn B b c.step_in.new.item c.step_in.new.self given all) c.loop-self-test.true (c.step_in.ensures.gives B given all) in
          let next : Ends B c.step_in.new.self given all ↔ Enters B c.in_ok-enter.field-0 c.enter.new.self given all =
          subst (λ (image : Image). Ends (content image m) c.step_in.new.self given all ↔ Enters (content image m) c.in_ok-enter.field-0 c.enter.new.self given all) (i.unchanged.reads told)
          (subst (λ (a : Area). Ends (content (g.M.Media.disk c.loop-self.media).reads a.medium) c.step_in.new.self given all ↔ Enters (content (g.M.Media.disk c.loop-self.media).reads a.medium) c.in_ok-enter.field-0 c.enter.new.self given all) same_area
          (c.in_ok-enter.ensures.gives told given all)) in
          iff_join (i.same told given all) (iff_join inside (subst (λ (b : Bool). Ends B c.step_in.new.self given all ↔ Enters B b c.enter.new.self given all) c.if-not-branch.false next));
    }
