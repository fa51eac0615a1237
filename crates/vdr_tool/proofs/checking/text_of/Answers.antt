use Rattle.std.proofs.Common.{◌≡◌, ◌∙◌, ◌++◌, ℕ, Bool, List, [], true, false, if◌then◌else◌, refl, sym, ap, append-nil}
use Rattle.std.specs.Prelude.{codes}
use Rattle.vdr_terms.specs.Needs.{cost, needed_slots, usable}
use Rattle.vdr_config.specs.Configuration.{Configuration}
use Rattle.vdr_config.specs.Sizes.{sizes_of}
use Rattle.vdr_tool.specs.Check.{check_text, groups_of, need_line}
use Rattle.vdr_tool.proofs.checking.text_of.Goals as goal

-- The five lines that every configuration has.
abbrev first_lines : Configuration → List ℕ
first_lines c =
    need_line (codes "groups") (groups_of c)
    ++ need_line (codes "cost") (cost (sizes_of c))
    ++ need_line (codes "usable") (usable (sizes_of c))
    ++ need_line (codes "capsule") (needed_slots (sizes_of c) 0)
    ++ need_line (codes "longterm") (needed_slots (sizes_of c) 1)

abbrev last_line : Bool → Configuration → List ℕ
last_line given c = if given then need_line (codes "floatfree") (needed_slots (sizes_of c) 2) else []

whole : (c : Configuration) (given : Bool) → c.float_given ≡ given → check_text c ≡ first_lines c ++ last_line given c
unfolding check_text
whole c given is = ap (λ (b : Bool). first_lines c ++ last_line b c) is

pub returns-then-config : goal.returns-then-config
returns-then-config c =
    let config = c.args.config.now in
    let first : c.push_line-5.new.text.items ≡ first_lines config = rw (
      c.push_line-5.ensures.line,
      c.push_line-4.ensures.line,
      c.push_line-3.ensures.line,
      c.push_line-2.ensures.line,
      c.push_line.ensures.line,
      c.new-text.ensures,
      c.groups_of.ensures,
      c.needs-needs.ensures.cost,
      c.needs-needs.ensures.usable,
      c.needs-needs.ensures.capsule,
      c.needs-needs.ensures.long,
    ) refl in
    let given : config.float_given ≡ true = ap (λ (x : Configuration). x.float_given) (sym c.config.view_is) ∙ c.if-config.true in
    c.push_line-then-config.ensures.line ∙ (λ i. first i ++ need_line (codes "floatfree") (c.needs-needs.ensures.float i)) ∙ sym (whole config true given)

pub returns-else-config : goal.returns-else-config
returns-else-config c =
    let config = c.args.config.now in
    let first : c.push_line-5.new.text.items ≡ first_lines config = rw (
      c.push_line-5.ensures.line,
      c.push_line-4.ensures.line,
      c.push_line-3.ensures.line,
      c.push_line-2.ensures.line,
      c.push_line.ensures.line,
      c.new-text.ensures,
      c.groups_of.ensures,
      c.needs-needs.ensures.cost,
      c.needs-needs.ensures.usable,
      c.needs-needs.ensures.capsule,
      c.needs-needs.ensures.long,
    ) refl in
    let none : config.float_given ≡ false = ap (λ (x : Configuration). x.float_given) (sym c.config.view_is) ∙ c.if-config.false in
    first ∙ sym (append-nil (first_lines config)) ∙ sym (whole config false none)
