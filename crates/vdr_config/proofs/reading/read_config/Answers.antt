use Rattle.std.proofs.Common.{arith, sym, ◌∙◌, subst, Result, true≢false}
use Rattle.serde_json.specs.View.{view}
use Rattle.vdr_config.specs.declared.bad.ConfigBad.{ConfigBad}
use Rattle.vdr_config.specs.Configuration.{Configuration}
use Rattle.vdr_config.specs.Grammar.{Gives}
use Rattle.vdr_config.proofs.Whole.{is_configuration_of, is_no_json}
use Rattle.vdr_config.proofs.reading.read_config.Goals as goal

pub returns-then-is_object-clause-exact : goal.returns-then-is_object-clause-exact
returns-then-is_object-clause-exact c =
    let e = is_configuration_of c.args.bytes.now (view c.in-Ok.value) (omega arith) c.in-Ok.ensures.ok.0 c.in-Ok.ensures.ok.1 (sym c.is_object.ensures ∙ c.if-is_object.true) in
    subst (λ (r : Result Configuration ConfigBad). Gives (λ x. x) c.config_of.result r) (sym e) c.config_of.ensures.exact

pub returns-clause-exact : goal.returns-clause-exact
returns-clause-exact c = is_no_json c.args.bytes.now (omega arith) (c.in-Err.ensures.err (λ m. absurd (true≢false (sym (c.if-is_memory.ensures.1 m)))))
