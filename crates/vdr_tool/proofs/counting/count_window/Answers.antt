use Rattle.std.proofs.Common.{◌≡◌, ◌+◌, sym, ap, ◌∙◌, refl, arith}
use Rattle.std.specs.Prelude.{length}
use Rattle.vdr_tool.specs.TrialParts.{as_u64, whole}
use Rattle.vdr_tool.proofs.CountLemmas.{fault_is, looked_as, no_incident, own_stop, run_stop}
use Rattle.vdr_tool.proofs.counting.count_window.Goals as goal

pub returns-in-Ok-clause-counted : goal.returns-in-Ok-clause-counted
returns-in-Ok-clause-counted g c = λ opening events placed told readable.
    let v = c.in-Ok.ensures.visited (record { count = 0 }) refl in
    let from_none : 0 + length v.seen ≡ length v.seen = omega arith in
    v.made.0 ∙ ap (λ n. as_u64 n) (from_none ∙ ap (λ rs. length rs) (v.are opening events placed told readable))

pub returns-in-Ok-clause-looked : goal.returns-in-Ok-clause-looked
returns-in-Ok-clause-looked g c = looked_as (whole c.args.medium) _ _ _ _ _ _ _ _ _ _ (λ is. let none : ⊥ = cc in absurd none) c.in-Ok.ensures.looked

pub returns-in-Err-clause-stops : goal.returns-in-Err-clause-stops
returns-in-Err-clause-stops g c =
    rw c.cause_of.ensures
    (run_stop c.in-Err.stop _ (no_incident _ c.args.medium c.requires.window) c.in-Err.ensures.accepted (λ is. let rose = c.in-Err.ensures.output.rose is in let none : ⊥ = omega (arith, rose) in none))

pub returns-in-Err-clause-counted : goal.returns-in-Err-clause-counted
returns-in-Err-clause-counted g c = λ opening events placed told readable.
    let v = c.in-Err.ensures.visited (record { count = 0 }) refl in
    rw c.cause_of.ensures
    (own_stop c.in-Err.stop _ (no_incident _ c.args.medium c.requires.window) c.in-Err.ensures.accepted (λ is. let rose = c.in-Err.ensures.output.rose is in let none : ⊥ = omega (arith, rose) in none)
    v.seen _ (v.are opening events placed told readable))

pub returns-in-Err-clause-looked : goal.returns-in-Err-clause-looked
returns-in-Err-clause-looked g c =
    looked_as (whole c.args.medium) _ _ _ _ _ _ _ _ _ _ (λ is. fault_is c.in-Err.stop (sym c.cause_of.ensures ∙ is)) c.in-Err.ensures.looked
