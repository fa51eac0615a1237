-- What `record` owes, by what the recording answers and by what is printed of it.
use Rattle.std.proofs.Common.{◌≡◌, ◌≢◌, ◌≤◌, ◌<◌, ◌^◌, inl, inr, ⊎_elim, ℕ, Bool, true, false, List, length, get_or, Option, Some, None, Result, Ok, Err, refl, sym, ap, ◌∙◌, subst, arith}
use Rattle.vdr_terms.specs.declared.rate.Rate.{Rate}
use Rattle.vdr_terms.specs.Records.{Item}
use Rattle.vdr_core.specs.Runs.{base_after}
use Rattle.vdr_outside.specs.Causes.{Rose}
use Rattle.vdr_outside.specs.Disk.{Image}
use Rattle.vdr_opening.specs.Media.{Contents, HoldsContents, HoldsParts, opening_of}
use Rattle.vdr_opening.specs.declared.refused.OpenRefused.{OpenRefused}
use Rattle.vdr_opening.specs.declared.refused.OpenRefused.TheVariants as openings
use Rattle.vdr_capture.specs.declared.lane.Cause.{Cause}
use Rattle.vdr_capture.specs.declared.lane.Cause.TheVariants.{Failed}
use Rattle.vdr_capture.specs.declared.sums.Outcome.{Outcome}
use Rattle.vdr_capture.specs.declared.sums.Outcome.TheVariants as outcomes
use Rattle.vdr_desk.specs.Exchanges.{Exchange}
use Rattle.vdr_session.specs.Sessions.{OutcomeMeans, is_closed}
use Rattle.vdr_session.specs.declared.session.SessionEnd.{SessionEnd}
use Rattle.vdr_command.specs.Opened.{OneAnswer}
use Rattle.vdr_command.specs.Statuses.{status_of_opening}
use Rattle.vdr_command.specs.Outside.{MediaFailed, MediaSeen, OutputFailed, OutputSeen}
use Rattle.vdr_tool.specs.Summaries.{summary_text}
use Rattle.vdr_command.specs.declared.status.Status.{Status}
use Rattle.vdr_command.specs.declared.status.Status.TheVariants.{Done, MediaFault, PortFault, LinkFault, OutputFault, NoMemory, Place, Tick}
use Rattle.vdr_vault.proofs.OpenMoments.{never_both}
use Rattle.vdr_command.proofs.OpenedCompleteness.{damaged_alike, last_read, place_read}
use Rattle.vdr_recorder.specs.Refusals.{MayBegin}
use Rattle.vdr_recorder.specs.Watched.{Watched}
use Rattle.vdr_live.specs.Links.{AsksLinks, LinkSeen, NoLinkFailed, WasAnswered}
use Rattle.vdr_live.specs.Ports.{AsksPorts, NoPortFailed, PortIn, PortSeen}
use Rattle.vdr_live.specs.Recordings.{IfLinkFault, IfPortFault, IsNotOpened, IsRecorded, PrintsSession, RecordingEnds, Records, RecordsAll, Surroundings, TellsSession}

-- A failure that is told

ports_rose : (turns : ℕ) (began : Bool) (rate : Option Rate) (old new : PortSeen) (cause : Option Cause) (given : List Item) → began ≡ true → cause ≡ Some Failed → PortIn turns began rate old new cause given → Rose old.faults new.faults
ports_rose turns true None old new cause given runs failed h = let clash : None ≡ Some Failed = sym h.2 ∙ failed in let none : ⊥ = cc in absurd none
ports_rose turns false None old new cause given runs failed h = let none : ⊥ = cc in absurd none
ports_rose turns true (Some rate) old new cause given runs failed h = h.2.failed (same h.0 (sym h.1 ∙ failed))
  where
    same : (c : Cause) → Some c ≡ Some Failed → c ≡ Failed
    same c e = cc
ports_rose turns false (Some rate) old new cause given runs failed h = let none : ⊥ = cc in absurd none

links_rose : (turns : ℕ) (old new : LinkSeen) (cause : Option Cause) (exchanges : List Exchange) → cause ≡ Some Failed → WasAnswered turns old new cause exchanges → Rose old.faults new.faults
links_rose turns old new cause exchanges failed h = h.2.fails (same h.0 (sym h.1 ∙ failed))
  where
    same : (c : Cause) → Some c ≡ Some Failed → c ≡ Failed
    same c e = cc

-- What is decided by what was read of legible media is decided by what they hold.
means_too : (image : Image) → OneAnswer image → (y x : Contents) → HoldsParts image y → HoldsContents image x → (outcome : Outcome) → OutcomeMeans (opening_of y) outcome → OutcomeMeans (opening_of x) outcome
means_too image law y x hy hx outcome h = go outcome h
  where
    place_is : (opening_of y).next_place ≡ (opening_of x).next_place
    place_is = place_read image law y x hy hx

    base_is : base_after (opening_of y).last ≡ base_after (opening_of x).last
    base_is = ap base_after (last_read image law y x hy hx)

    may : MayBegin (opening_of y) → MayBegin (opening_of x)
    may low = record { place = subst (λ (n : ℕ). n < 2 ^ 62) place_is low.place; base = subst (λ (n : ℕ). n < 2 ^ 62) base_is low.base }

    go : (outcome : Outcome) → OutcomeMeans (opening_of y) outcome → OutcomeMeans (opening_of x) outcome
    go outcomes.Done h = may h
    go outcomes.NoMemory h = tt
    go outcomes.Place h = subst (λ (n : ℕ). 2 ^ 62 ≤ n) place_is h
    go outcomes.Tick h = (subst (λ (n : ℕ). n < 2 ^ 62) place_is h.0, subst (λ (n : ℕ). 2 ^ 62 ≤ n) base_is h.1)
    go outcomes.MediaFault h = tt
    go (outcomes.PortFault g) h = may h
    go (outcomes.LinkFault i) h = may h

module _ {tells tells_images : Type 0} (turns : ℕ) (ports_old ports_new : List PortSeen) (links_old links_new : List LinkSeen) (old new : MediaSeen tells tells_images) (hears : Type 0) (w : Watched) (was next : OutputSeen) where
  abbrev PortRose : ℕ → Type 0
  PortRose g = (g < 16) × ((d : PortSeen) → Rose (get_or ports_old g d).faults (get_or ports_new g d).faults)

  abbrev LinkRose : ℕ → Type 0
  LinkRose i = (i < length links_old) × ((d : LinkSeen) → Rose (get_or links_old i d).faults (get_or links_new i d).faults)

  module _ (end : SessionEnd) (ends : IsRecorded turns ports_old ports_new links_old links_new old new hears w end) where
    -- The ports were asked.
    asked : (o : Outcome) → end.outcome ≡ o → o ≢ outcomes.NoMemory → AsksPorts turns ends.began ends.rates ports_old ports_new o ends.given
    asked o is memory = subst (λ (o : Outcome). AsksPorts turns ends.began ends.rates ports_old ports_new o ends.given) is (ends.ports (λ none. memory (sym is ∙ none)))

    began : (o : Outcome) → end.outcome ≡ o → is_closed o ≡ true → ends.began ≡ true
    began o is closed = ends.runs (ap is_closed is ∙ closed)

    port_rose : (g : ℕ) → end.outcome ≡ outcomes.PortFault g → PortRose g
    port_rose g is =
        let a = asked (outcomes.PortFault g) is (λ none. let n : ⊥ = cc in n) in
        (a.failure.0, λ d. ports_rose turns ends.began (get_or ends.rates g None) (get_or ports_old g d) (get_or ports_new g d) (a.causes g) (ends.given g) (began (outcomes.PortFault g) is refl) a.failure.1 (a.each g d a.failure.0))

    link_rose : (i : ℕ) → end.outcome ≡ outcomes.LinkFault i → LinkRose i
    link_rose i is =
        let a : AsksLinks turns links_old links_new (outcomes.LinkFault i) = subst (λ (o : Outcome). AsksLinks turns links_old links_new o) is ends.links in
        (a.failure.0, λ d. let e = a.each i d a.failure.0 in links_rose turns (get_or links_old i d) (get_or links_new i d) (a.causes i) e.0 a.failure.1 e.1)

    fault_of : (o : Outcome) (summary : List ℕ) (status : Status) → end.outcome ≡ o → PrintsSession o summary status was next → status ≡ MediaFault → MediaFailed old new
    fault_of outcomes.Done summary status is (inl done) fault = let clash : Done ≡ MediaFault = sym done.0 ∙ fault in let none : ⊥ = cc in absurd none
    fault_of outcomes.Done summary status is (inr failed) fault = let clash : OutputFault ≡ MediaFault = sym failed.0 ∙ fault in let none : ⊥ = cc in absurd none
    fault_of outcomes.NoMemory summary status is told fault = let clash : NoMemory ≡ MediaFault = sym told.0 ∙ fault in let none : ⊥ = cc in absurd none
    fault_of outcomes.Place summary status is told fault = let clash : Place ≡ MediaFault = sym told.0 ∙ fault in let none : ⊥ = cc in absurd none
    fault_of outcomes.Tick summary status is told fault = let clash : Tick ≡ MediaFault = sym told.0 ∙ fault in let none : ⊥ = cc in absurd none
    fault_of outcomes.MediaFault summary status is told fault = ends.fault is
    fault_of (outcomes.PortFault g) summary status is told fault = let clash : PortFault g ≡ MediaFault = sym told.0 ∙ fault in let none : ⊥ = cc in absurd none
    fault_of (outcomes.LinkFault i) summary status is told fault = let clash : LinkFault i ≡ MediaFault = sym told.0 ∙ fault in let none : ⊥ = cc in absurd none

    port_of : (o : Outcome) (summary : List ℕ) (status : Status) → end.outcome ≡ o → PrintsSession o summary status was next → IfPortFault status PortRose
    port_of outcomes.Done summary status is (inl done) = subst (λ (s : Status). IfPortFault s PortRose) (sym done.0) tt
    port_of outcomes.Done summary status is (inr failed) = subst (λ (s : Status). IfPortFault s PortRose) (sym failed.0) tt
    port_of outcomes.NoMemory summary status is told = subst (λ (s : Status). IfPortFault s PortRose) (sym told.0) tt
    port_of outcomes.Place summary status is told = subst (λ (s : Status). IfPortFault s PortRose) (sym told.0) tt
    port_of outcomes.Tick summary status is told = subst (λ (s : Status). IfPortFault s PortRose) (sym told.0) tt
    port_of outcomes.MediaFault summary status is told = subst (λ (s : Status). IfPortFault s PortRose) (sym told.0) tt
    port_of (outcomes.PortFault g) summary status is told = subst (λ (s : Status). IfPortFault s PortRose) (sym told.0) (port_rose g is)
    port_of (outcomes.LinkFault i) summary status is told = subst (λ (s : Status). IfPortFault s PortRose) (sym told.0) tt

    link_of : (o : Outcome) (summary : List ℕ) (status : Status) → end.outcome ≡ o → PrintsSession o summary status was next → IfLinkFault status LinkRose
    link_of outcomes.Done summary status is (inl done) = subst (λ (s : Status). IfLinkFault s LinkRose) (sym done.0) tt
    link_of outcomes.Done summary status is (inr failed) = subst (λ (s : Status). IfLinkFault s LinkRose) (sym failed.0) tt
    link_of outcomes.NoMemory summary status is told = subst (λ (s : Status). IfLinkFault s LinkRose) (sym told.0) tt
    link_of outcomes.Place summary status is told = subst (λ (s : Status). IfLinkFault s LinkRose) (sym told.0) tt
    link_of outcomes.Tick summary status is told = subst (λ (s : Status). IfLinkFault s LinkRose) (sym told.0) tt
    link_of outcomes.MediaFault summary status is told = subst (λ (s : Status). IfLinkFault s LinkRose) (sym told.0) tt
    link_of (outcomes.PortFault g) summary status is told = subst (λ (s : Status). IfLinkFault s LinkRose) (sym told.0) tt
    link_of (outcomes.LinkFault i) summary status is told = subst (λ (s : Status). IfLinkFault s LinkRose) (sym told.0) (link_rose i is)

    -- By exclusion
    module _ (told : tells) (law : OneAnswer old.disk.reads) (output : OutputFailed was next → ⊥) (media : MediaFailed old new → ⊥) (ports : NoPortFailed ports_old ports_new) (links : NoLinkFailed links_old links_new) where
      means : (o : Outcome) → end.outcome ≡ o → (x : Contents) → HoldsContents old.disk.reads x → OutcomeMeans (opening_of x) o
      means o is x holds = let l = ends.openable told in subst (λ (o : Outcome). OutcomeMeans (opening_of x) o) is (means_too old.disk.reads law l.1 x l.2 holds end.outcome l.4.begins)

      too_high : (n : ℕ) → 2 ^ 62 ≤ n → n < 2 ^ 62 → ⊥
      too_high n high low = omega (arith, high, low)

      all_of : (o : Outcome) (summary : List ℕ) (status : Status) → end.outcome ≡ o → PrintsSession o summary status was next → RecordsAll old.disk.reads status
      all_of outcomes.Done summary status is (inl done) = subst (λ (s : Status). RecordsAll old.disk.reads s) (sym done.0) (record {
        unformatted = λ un. absurd (never_both old.disk.reads (ends.openable told).0 un);
        damaged = λ f m offset r. let l = ends.openable told in absurd (law.opens l.1 m offset l.2 l.3 r);
        place = λ x holds meet high. absurd (too_high (opening_of x).next_place high (means outcomes.Done is x holds).place);
        tick = λ x holds meet low high. absurd (too_high (base_after (opening_of x).last) high (means outcomes.Done is x holds).base);
        done = λ x holds meet may. tt;
      })
      all_of outcomes.Done summary status is (inr failed) = absurd (output failed.1)
      all_of outcomes.NoMemory summary status is p = subst (λ (s : Status). RecordsAll old.disk.reads s) (sym p.0) (record {
        unformatted = λ un. inr refl;
        damaged = λ f m offset r. inr refl;
        place = λ x holds meet high. inr refl;
        tick = λ x holds meet low high. inr refl;
        done = λ x holds meet may. tt;
      })
      all_of outcomes.Place summary status is p = subst (λ (s : Status). RecordsAll old.disk.reads s) (sym p.0) (record {
        unformatted = λ un. absurd (never_both old.disk.reads (ends.openable told).0 un);
        damaged = λ f m offset r. let l = ends.openable told in absurd (law.opens l.1 m offset l.2 l.3 r);
        place = λ x holds meet high. inl refl;
        tick = λ x holds meet low high. absurd (too_high (opening_of x).next_place (means outcomes.Place is x holds) low);
        done = λ x holds meet may. absurd (too_high (opening_of x).next_place (means outcomes.Place is x holds) may.place);
      })
      all_of outcomes.Tick summary status is p = subst (λ (s : Status). RecordsAll old.disk.reads s) (sym p.0) (record {
        unformatted = λ un. absurd (never_both old.disk.reads (ends.openable told).0 un);
        damaged = λ f m offset r. let l = ends.openable told in absurd (law.opens l.1 m offset l.2 l.3 r);
        place = λ x holds meet high. absurd (too_high (opening_of x).next_place high (means outcomes.Tick is x holds).0);
        tick = λ x holds meet low high. inl refl;
        done = λ x holds meet may. absurd (too_high (base_after (opening_of x).last) (means outcomes.Tick is x holds).1 may.base);
      })
      all_of outcomes.MediaFault summary status is p = absurd (media (ends.fault is))
      all_of (outcomes.PortFault g) summary status is p = let r = port_rose g is in absurd (ports g r.0 r.1)
      all_of (outcomes.LinkFault i) summary status is p = let r = link_rose i is in absurd (links i r.0 r.1)

  -- Where opening was refused, or failed.
  refused_all : tells → OneAnswer old.disk.reads → (MediaFailed old new → ⊥) → (refused : OpenRefused) → IsNotOpened turns ports_old ports_new links_old links_new old new hears w refused → RecordsAll old.disk.reads (status_of_opening refused)
  refused_all told law media openings.NoMemory ends = record {
    unformatted = λ un. inr refl;
    damaged = λ f m offset r. inr refl;
    place = λ x holds meet high. inr refl;
    tick = λ x holds meet low high. inr refl;
    done = λ x holds meet may. tt;
  }
  refused_all told law media openings.NotFormatted ends =
      let un = (ends.media.unformatted refl).1 told in
      record {
        unformatted = λ other. inl refl;
        damaged = λ f m offset r. absurd (never_both old.disk.reads f un);
        place = λ x holds meet high. absurd (law.formatted x holds un);
        tick = λ x holds meet low high. absurd (law.formatted x holds un);
        done = λ x holds meet may. absurd (law.formatted x holds un);
      }
  refused_all told law media (openings.Damaged k at) ends = ⊎_elim
      (λ r. let f = r.1 told in
      record {
        unformatted = λ un. absurd (never_both old.disk.reads f.0 un);
        damaged = λ formatted m offset also. inl (damaged_alike k at m offset (law.one k at m offset f.1 also));
        place = λ x holds meet high. absurd (law.either x k at holds meet f.1);
        tick = λ x holds meet low high. absurd (law.either x k at holds meet f.1);
        done = λ x holds meet may. absurd (law.either x k at holds meet f.1);
      })
      (λ none. absurd none)
      ends.media.damaged
  refused_all told law media openings.Fault ends = absurd (media (ends.media.fault refl))

  -- By the answer
  fault_by : (answer : Result SessionEnd OpenRefused) (status : Status) → TellsSession answer status was next → RecordingEnds turns ports_old ports_new links_old links_new old new hears w answer → status ≡ MediaFault → MediaFailed old new
  fault_by (Ok end) status told ends is = fault_of end ends end.outcome (summary_text end.groups end.records) status refl told is
  fault_by (Err refused) status told ends is = ends.media.fault (sym told.0 ∙ is)

  no_port : (refused : OpenRefused) → IfPortFault (status_of_opening refused) PortRose
  no_port openings.NoMemory = tt
  no_port openings.NotFormatted = tt
  no_port (openings.Damaged m offset) = tt
  no_port openings.Fault = tt

  no_link : (refused : OpenRefused) → IfLinkFault (status_of_opening refused) LinkRose
  no_link openings.NoMemory = tt
  no_link openings.NotFormatted = tt
  no_link (openings.Damaged m offset) = tt
  no_link openings.Fault = tt

  port_by : (answer : Result SessionEnd OpenRefused) (status : Status) → TellsSession answer status was next → RecordingEnds turns ports_old ports_new links_old links_new old new hears w answer → IfPortFault status PortRose
  port_by (Ok end) status told ends = port_of end ends end.outcome (summary_text end.groups end.records) status refl told
  port_by (Err refused) status told ends = subst (λ (s : Status). IfPortFault s PortRose) (sym told.0) (no_port refused)

  link_by : (answer : Result SessionEnd OpenRefused) (status : Status) → TellsSession answer status was next → RecordingEnds turns ports_old ports_new links_old links_new old new hears w answer → IfLinkFault status LinkRose
  link_by (Ok end) status told ends = link_of end ends end.outcome (summary_text end.groups end.records) status refl told
  link_by (Err refused) status told ends = subst (λ (s : Status). IfLinkFault s LinkRose) (sym told.0) (no_link refused)

  all_by : tells → OneAnswer old.disk.reads → (OutputFailed was next → ⊥) → (MediaFailed old new → ⊥) → NoPortFailed ports_old ports_new → NoLinkFailed links_old links_new → (answer : Result SessionEnd OpenRefused) (status : Status)
      → TellsSession answer status was next → RecordingEnds turns ports_old ports_new links_old links_new old new hears w answer → RecordsAll old.disk.reads status
  all_by t law output media ports links (Ok end) status told ends = all_of end ends t law output media ports links end.outcome (summary_text end.groups end.records) status refl told
  all_by t law output media ports links (Err refused) status told ends = subst (λ (s : Status). RecordsAll old.disk.reads s) (sym told.0) (refused_all t law media refused ends)

-- What the command owes.
pub records_so : {tells tells_images : Type 0} (turns : ℕ) (old new : Surroundings tells tells_images) (hears : Type 0) (w : Watched) (status : Status) (answer : Result SessionEnd OpenRefused) → OneAnswer old.alone.media.disk.reads
    → TellsSession answer status old.alone.output new.alone.output → RecordingEnds turns old.ports new.ports old.links new.links old.alone.media new.alone.media hears w answer
    → (status ≡ OutputFault → OutputFailed old.alone.output new.alone.output) → Records turns old new hears w status
records_so turns old new hears w status answer law told ends output = record {
  answer = answer;
  told = told;
  ends = ends;
  output = output;
  media = fault_by turns old.ports new.ports old.links new.links old.alone.media new.alone.media hears w old.alone.output new.alone.output answer status told ends;
  port = port_by turns old.ports new.ports old.links new.links old.alone.media new.alone.media hears w old.alone.output new.alone.output answer status told ends;
  link = link_by turns old.ports new.ports old.links new.links old.alone.media new.alone.media hears w old.alone.output new.alone.output answer status told ends;
  complete = λ none ports links t. all_by turns old.ports new.ports old.links new.links old.alone.media new.alone.media hears w old.alone.output new.alone.output t law none.output none.media ports links answer status told ends;
}

-- The status of a session

pub tells_refused : (answer : Result SessionEnd OpenRefused) (refused : OpenRefused) (was next : OutputSeen) → answer ≡ Err refused → next ≡ was → TellsSession answer (status_of_opening refused) was next
tells_refused answer refused was next is same = subst (λ (a : Result SessionEnd OpenRefused). TellsSession a (status_of_opening refused) was next) (sym is) (refl, same)

pub tells_end : (answer : Result SessionEnd OpenRefused) (end : SessionEnd) (status : Status) (was next : OutputSeen) → answer ≡ Ok end → PrintsSession end.outcome (summary_text end.groups end.records) status was next
    → TellsSession answer status was next
tells_end answer end status was next is told = subst (λ (a : Result SessionEnd OpenRefused). TellsSession a status was next) (sym is) told

pub refused_not_output : (refused : OpenRefused) → status_of_opening refused ≡ OutputFault → ⊥
refused_not_output openings.NoMemory is = cc
refused_not_output openings.NotFormatted is = cc
refused_not_output (openings.Damaged m offset) is = cc
refused_not_output openings.Fault is = cc

pub end_at_output : (outcome : Outcome) (summary : List ℕ) (status : Status) (was next : OutputSeen) → PrintsSession outcome summary status was next → status ≡ OutputFault → OutputFailed was next
end_at_output outcomes.Done summary status was next (inl done) is = let clash : Done ≡ OutputFault = sym done.0 ∙ is in let none : ⊥ = cc in absurd none
end_at_output outcomes.Done summary status was next (inr failed) is = failed.1
end_at_output outcomes.NoMemory summary status was next told is = let clash : NoMemory ≡ OutputFault = sym told.0 ∙ is in let none : ⊥ = cc in absurd none
end_at_output outcomes.Place summary status was next told is = let clash : Place ≡ OutputFault = sym told.0 ∙ is in let none : ⊥ = cc in absurd none
end_at_output outcomes.Tick summary status was next told is = let clash : Tick ≡ OutputFault = sym told.0 ∙ is in let none : ⊥ = cc in absurd none
end_at_output outcomes.MediaFault summary status was next told is = let clash : MediaFault ≡ OutputFault = sym told.0 ∙ is in let none : ⊥ = cc in absurd none
end_at_output (outcomes.PortFault g) summary status was next told is = let clash : PortFault g ≡ OutputFault = sym told.0 ∙ is in let none : ⊥ = cc in absurd none
end_at_output (outcomes.LinkFault i) summary status was next told is = let clash : LinkFault i ≡ OutputFault = sym told.0 ∙ is in let none : ⊥ = cc in absurd none
