-- How a run fares, by what is known of it.
use Rattle.std.proofs.Common.{◌≡◌, ◌∙◌, ℕ, Bool, true, false, List, Option, None, Some, refl, sym, ap}
use Rattle.std.specs.Prelude.{if◌then◌else◌, is_some, slice_index_or}
use Rattle.vdr_terms.specs.declared.rate.Rate.{Rate}
use Rattle.vdr_terms.specs.Rates.{Limit, is_configured, limit_of}
use Rattle.vdr_config.specs.Sizes.{limits_in}
use Rattle.vdr_core.specs.RunStates.{RunState}
use Rattle.vdr_core.specs.Runs.{RunStart}
use Rattle.vdr_core.specs.Taken.{Captured}
use Rattle.vdr_health.specs.declared.gauged.Gauged.{Gauged}
use Rattle.vdr_health.specs.Runs.{account_if, account_of, run_health}
use Rattle.vdr_reply.specs.Orders.{health_after}
use Rattle.vdr_reply.specs.Texts.{not_there_line, page_text}

pub closed : (gauged : Gauged) (run : RunState) → run.is_open ≡ false → not_there_line ≡ health_after gauged run
closed gauged run is = sym (ap (λ (b : Bool). if b then page_text (run_health run.start run.popped gauged) else not_there_line) is)

pub opened : (gauged : Gauged) (run : RunState) → run.is_open ≡ true → page_text (run_health run.start run.popped gauged) ≡ health_after gauged run
opened gauged run is = sym (ap (λ (b : Bool). if b then page_text (run_health run.start run.popped gauged) else not_there_line) is)

some_configured : (o : Option Rate) → is_configured (limit_of o) ≡ is_some o
some_configured None = refl
some_configured (Some rate) = refl

module _ (start : RunStart) (popped : List Captured) (rates : List (Option Rate)) (g : ℕ) (limits : start.limits ≡ limits_in rates) (rate : Option Rate) (own : rate ≡ slice_index_or rates g None) where
  configured_as : is_configured (start.limits g) ≡ is_some rate
  configured_as =
      ap (λ (l : ℕ → Limit). is_configured (l g)) limits
      ∙ ap (λ (o : Option Rate). is_configured (limit_of o)) (sym own)
      ∙ some_configured rate

  pub no_account : is_some rate ≡ false → None ≡ account_if start popped g
  no_account e = sym (ap (λ (b : Bool). if b then Some (account_of start popped g) else None) (configured_as ∙ e))

  pub an_account : is_some rate ≡ true → Some (account_of start popped g) ≡ account_if start popped g
  an_account e = sym (ap (λ (b : Bool). if b then Some (account_of start popped g) else None) (configured_as ∙ e))
