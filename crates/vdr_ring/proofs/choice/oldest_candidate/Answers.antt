use Rattle.std.proofs.Common.{◌≡◌, true, ℕ, List, Option, sym, ◌∙◌, subst}
use Rattle.vdr_index.specs.declared.known.Known.{Known}
use Rattle.vdr_index.specs.Indexes.{IsFirst, Keeps}
use Rattle.vdr_index.proofs.Firsts.{first_passes, none_passes}
use Rattle.vdr_index.proofs.Ranks.{none_from}
use Rattle.vdr_ring.specs.Candidates.{goes}
use Rattle.vdr_ring.proofs.Choosing.{first_within, none_goes, oldest_empty, oldest_first}
use Rattle.vdr_ring.proofs.choice.oldest_candidate.Goals as goal

pub returns-in-Some-clause-within : goal.returns-in-Some-clause-within
returns-in-Some-clause-within c = first_within c.args.directory.now.index (goes c.args.seconds c.args.pins.now c.last_second.result) c.in-Some.slot
    (subst (λ (index : List (Option Known)). IsFirst index (goes c.args.seconds c.args.pins.now c.last_second.result) c.in-Some.slot) c.index-index.ensures.index
    (first_passes c.index-index.result.now c.in_order.result.now c.in_order.ensures (goes c.args.seconds c.args.pins.now c.last_second.result) c.in-Some.slot (sym c.first_to_go.ensures ∙ c.in-Some.is)))

pub returns-in-Some-clause-some : goal.returns-in-Some-clause-some
returns-in-Some-clause-some c count placed tells order = oldest_first c.args.seconds c.args.pins.now c.last_second.result count placed c.args.directory.now tells order (c.last_second.ensures count placed tells) c.in-Some.slot
    (subst (λ (index : List (Option Known)). IsFirst index (goes c.args.seconds c.args.pins.now c.last_second.result) c.in-Some.slot) c.index-index.ensures.index
    (first_passes c.index-index.result.now c.in_order.result.now c.in_order.ensures (goes c.args.seconds c.args.pins.now c.last_second.result) c.in-Some.slot (sym c.first_to_go.ensures ∙ c.in-Some.is)))

pub returns-in_err-newest-clause-none : goal.returns-in_err-newest-clause-none
returns-in_err-newest-clause-none c = rw c.from_residual.ensures (λ count placed tells order.
    none_goes c.args.seconds c.args.pins.now c.last_second.result count placed c.args.directory.now tells order (c.last_second.ensures count placed tells)
    (subst (λ (index : List (Option Known)). (slot : ℕ) (k : Known) → Keeps index slot k → goes c.args.seconds c.args.pins.now c.last_second.result k ≡ true → ⊥) c.index-index.ensures.index
    (none_passes c.index-index.result.now c.in_order.result.now c.in_order.ensures (goes c.args.seconds c.args.pins.now c.last_second.result) (sym c.first_to_go.ensures ∙ none_from _ c.in_default.not-Some)))
    c.in_err-newest.ensures.none)

pub returns-clause-some : goal.returns-clause-some
returns-clause-some c count placed tells order =
    let n = c.in_ok-newest.ensures.some in
    oldest_empty c.args.seconds c.args.pins.now c.last_second.result count placed c.args.directory.now tells order (c.last_second.ensures count placed tells) c.in_ok-newest.newest
    (subst (λ (index : List (Option Known)). (slot : ℕ) (k : Known) → Keeps index slot k → goes c.args.seconds c.args.pins.now c.last_second.result k ≡ true → ⊥) c.index-index.ensures.index
    (none_passes c.index-index.result.now c.in_order.result.now c.in_order.ensures (goes c.args.seconds c.args.pins.now c.last_second.result) (sym c.first_to_go.ensures ∙ none_from _ c.in_default.not-Some)))
    n.0 n.1
