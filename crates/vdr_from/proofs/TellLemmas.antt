-- What a command prints of the records of a stored file, from what each of its calls says.
use Rattle.std.proofs.Common.{◌≡◌, ◌∙◌, inl, inr, ℕ, List, length, false, true, Option, Result, Ok, Err, refl, sym, subst}
use Rattle.std.specs.Bool.{⊤}
use Rattle.std.specs.Prelude.{IfSome}
use Rattle.vdr_terms.specs.Queries.{Query}
use Rattle.vdr_terms.specs.Records.{Record}
use Rattle.vdr_config.specs.Configuration.{Configuration}
use Rattle.vdr_verify.specs.Stops.{StopsAt}
use Rattle.vdr_verify.specs.Stored.{ReadsFile}
use Rattle.vdr_verify.specs.Visiting.{IsLeftWhole}
use Rattle.vdr_verify.specs.declared.evidence.Evidence.{Evidence}
use Rattle.vdr_verify.specs.declared.part.Part.{Part}
use Rattle.vdr_verify.specs.declared.refused.VerifyRefused.{VerifyRefused}
use Rattle.vdr_verify.specs.declared.refused.VerifyRefused.TheVariants as refusals
use Rattle.vdr_visit.specs.Prints.{whole_text}
use Rattle.vdr_visit.specs.Refusals.{IsAccepted, lacks_channel}
use Rattle.vdr_visit.specs.Visits.{HasHanded}
use Rattle.vdr_visit.specs.declared.visit_refused.VisitRefused.{VisitRefused}
use Rattle.vdr_visit.specs.declared.visit_refused.VisitRefused.TheVariants as stops
use Rattle.vdr_command.specs.Outside.{OutputFailed, OutputSeen, Writes}
use Rattle.vdr_command.specs.StatusLine.{channel_line}
use Rattle.vdr_command.specs.declared.status.Status.TheVariants.{NoChannel}
use Rattle.vdr_readout.specs.Reads.{AskedPlay, LacksChannel, query_of}
use Rattle.vdr_readout.proofs.RefusedLemmas.{asked_within}
use Rattle.vdr_tool.specs.Verifying.{part_told, status_of_verify}
use Rattle.vdr_from.specs.Held.{IsKept, IsNoEvidence}
use Rattle.vdr_from.specs.Stops.{status_of_visit}
use Rattle.vdr_from.specs.Tellings.{ShowsHeld, TellsHeld}
use Rattle.vdr_from.proofs.HeldLemmas.{holds_so, selects_so}

-- The channel of such a query is configured.
pub channel_there : (kept : Evidence) (asked : AskedPlay) (query : Query) → query ≡ query_of kept.head.config asked.medium asked.channel asked.from asked.to
    → lacks_channel (length kept.head.config.channels) query.channel ≡ false
channel_there kept asked query is = subst (λ (q : Query). lacks_channel (length kept.head.config.channels) q.channel ≡ false) (sym is) (asked_within kept.head.config asked.channel)

-- A part that is refused is the file's first that is not legal.
pub stops_told : (whole : Option (List ℕ)) (named : Part) (offset : ℕ) (was next : OutputSeen) → next ≡ was → IfSome whole (λ bytes. StopsAt bytes named offset)
    → IsNoEvidence whole (part_told named) offset was next
stops_told whole named offset was next same stops = record {
  silent = same;
  stops = λ bytes known. (named, refl, subst (λ (o : Option (List ℕ)). IfSome o (λ b. StopsAt b named offset)) known stops);
}

module _ (whole : Option (List ℕ)) (asked : AskedPlay) (line : List Record → Record → List ℕ) (last : List Record → List ℕ) (was next : OutputSeen) where
  -- The file was not read to its end, or is no evidence.
  refused_shows : (refused : VerifyRefused) → ReadsFile whole (Err refused) → next ≡ was → ShowsHeld whole asked line last was next (status_of_verify refused)
  refused_shows refusals.Input is same = inl same
  refused_shows refusals.Output is same = absurd is
  refused_shows refusals.NoMemory is same = inl same
  refused_shows (refusals.Illegal named offset) is same = inl (stops_told whole named offset was next same is)

  pub refused_tells : (refused : VerifyRefused) → ReadsFile whole (Err refused) → next ≡ was → TellsHeld whole asked line last was next (status_of_verify refused)
  refused_tells refused is same = record { shown = refused_shows refused is same }

  module _ (kept : Evidence) (kept_is : IsKept whole kept) where
    channel_shows : LacksChannel kept.head.config asked.channel → Writes (channel_line asked.channel) was next → ShowsHeld whole asked line last was next NoChannel
    channel_shows lacks wrote = (
      wrote,
      λ bytes known.
          let h = holds_so whole kept kept_is bytes known in
          (h.x, h.is, subst (λ (c : Configuration). LacksChannel c asked.channel) (sym h.config_is) lacks),
    )

    pub channel_tells : LacksChannel kept.head.config asked.channel → Writes (channel_line asked.channel) was next → TellsHeld whole asked line last was next NoChannel
    channel_tells lacks wrote = record { shown = channel_shows lacks wrote }

    module _ {R : Type 0} (query : Query) (query_is : query ≡ query_of kept.head.config asked.medium asked.channel asked.from asked.to) {Has : List Record → Type 0} {Stops : List Record → R → Type 0} where
      -- It was read again.
      visit_shows : (ended : Result ⊤ (VisitRefused R)) → HasHanded (IsLeftWhole whole kept query) Has Stops line (whole_text line last) was.taken next.taken ended
          → IsAccepted (lacks_channel (length kept.head.config.channels) query.channel) false ended → (ended ≡ Err stops.Output → OutputFailed was next)
          → ShowsHeld whole asked line last was next (status_of_visit ended)
      visit_shows (Ok all) handed accepted output = (
        handed.seen,
        handed.made.1,
        λ bytes known.
            let h = holds_so whole kept kept_is bytes known in
            (h.x, h.is, handed.are _ (selects_so whole kept asked query query_is bytes h)),
      )
      visit_shows (Err stops.NoChannel) handed accepted output =
          let clash : true ≡ false = sym (accepted.channel.0 refl) ∙ channel_there kept asked query query_is in
          let none : ⊥ = cc in absurd none
      visit_shows (Err stops.NoIncident) handed accepted output =
          let clash : false ≡ true = (accepted.incident.0 refl).1 in
          let none : ⊥ = cc in absurd none
      visit_shows (Err stops.Fault) handed accepted output = inr (
        handed.seen,
        handed.made.1,
        λ bytes known.
            let h = holds_so whole kept kept_is bytes known in
            (h.x, h.is, handed.are _ (selects_so whole kept asked query query_is bytes h)),
      )
      visit_shows (Err (stops.Damaged m offset)) handed accepted output = inr (
        record {
          told = refl;
          never = λ bytes known. handed.are _ (selects_so whole kept asked query query_is bytes (holds_so whole kept kept_is bytes known));
        },
        (handed.seen, handed.made.1),
      )
      visit_shows (Err stops.Output) handed accepted output = (
        output refl,
        λ bytes known.
            let h = holds_so whole kept kept_is bytes known in
            (h.x, h.is, handed.front _ (selects_so whole kept asked query query_is bytes h)),
      )
      visit_shows (Err (stops.Own reason)) handed accepted output = inr (λ bytes known.
          let h = holds_so whole kept kept_is bytes known in
          (h.x, h.is, handed.front _ (selects_so whole kept asked query query_is bytes h)))

      pub visit_tells : (ended answer : Result ⊤ (VisitRefused R)) → ended ≡ answer → HasHanded (IsLeftWhole whole kept query) Has Stops line (whole_text line last) was.taken next.taken ended
          → IsAccepted (lacks_channel (length kept.head.config.channels) query.channel) false ended → (ended ≡ Err stops.Output → OutputFailed was next)
          → TellsHeld whole asked line last was next (status_of_visit answer)
      visit_tells ended answer is handed accepted output =
          subst (λ (o : Result ⊤ (VisitRefused R)). TellsHeld whole asked line last was next (status_of_visit o)) is (record { shown = visit_shows ended handed accepted output })
