use Rattle.std.proofs.Common.{List, subst}
use Rattle.std.specs.Io.KnownBytes.{Appends}
use Rattle.vdr_outside.specs.Writes.{AppendsFront}
use Rattle.vdr_rescue.specs.declared.findings.Finding.{Finding}
use Rattle.vdr_compare.specs.Conditions.{Condition, condition_text, damage_lines}
use Rattle.vdr_compare.proofs.Damages.{front_at_capsule, front_at_configuration, front_at_longterm}
use Rattle.vdr_compare.proofs.condition.Condition.print.Goals as goal

pub returns-in_err-print_configuration-clause-front :
    goal.returns-in_err-print_configuration-clause-front
returns-in_err-print_configuration-clause-front g c =
    let i = c.self.inside in
    let old = g.O.Sink.taken c.args.out.now in
    let new = g.O.Sink.taken c.print_configuration.new.out in
    subst (λ (k : Condition). AppendsFront old new (condition_text k)) c.self.view_is
    (front_at_configuration (record { alike = i.alike; capsule = i.capsule.items; longterm = i.longterm.items }) old new c.print_configuration.ensures.front)

pub returns-in_err-print_damages-clause-front : goal.returns-in_err-print_damages-clause-front
returns-in_err-print_damages-clause-front g c =
    let i = c.self.inside in
    let old = g.O.Sink.taken c.args.out.now in
    let mid = g.O.Sink.taken c.print_configuration.new.out in
    let new = g.O.Sink.taken c.print_damages.new.out in
    subst (λ (k : Condition). AppendsFront old new (condition_text k)) c.self.view_is
    (front_at_capsule (record { alike = i.alike; capsule = i.capsule.items; longterm = i.longterm.items }) old mid new c.in_ok-print_configuration.ensures.all
    (subst (λ (fs : List Finding). AppendsFront mid new (damage_lines 0 fs)) c.as_slice.ensures.value c.print_damages.ensures.front))

pub returns-clause-front : goal.returns-clause-front
returns-clause-front g c =
    let i = c.self.inside in
    let old = g.O.Sink.taken c.args.out.now in
    let first = g.O.Sink.taken c.print_configuration.new.out in
    let second = g.O.Sink.taken c.print_damages.new.out in
    let new = g.O.Sink.taken c.print_damages-2.new.out in
    subst (λ (k : Condition). AppendsFront old new (condition_text k)) c.self.view_is
    (front_at_longterm (record { alike = i.alike; capsule = i.capsule.items; longterm = i.longterm.items }) old first second new c.in_ok-print_configuration.ensures.all
    (subst (λ (fs : List Finding). Appends first second (damage_lines 0 fs)) c.as_slice.ensures.value c.in_ok-print_damages.ensures.all)
    (subst (λ (fs : List Finding). AppendsFront second new (damage_lines 1 fs)) c.as_slice-2.ensures.value c.print_damages-2.ensures.front))
