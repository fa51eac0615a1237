-- What a session says of its lanes, said of what their ports tell.
use Rattle.std.proofs.Common.{◌≡◌, ◌<◌, ◌≤◌, ℕ, Bool, true, false, List, [], ◌∷◌, length, get_or, Option, Some, None, sym, ap, ◌∙◌, subst, arith}
use Rattle.std.proofs.lemmas.List.{get_or-map, length-map, same_lists}
use Rattle.vdr_terms.specs.declared.counts.Counts.{Counts}
use Rattle.vdr_terms.specs.declared.rate.Rate.{Rate}
use Rattle.vdr_terms.specs.Records.{Item}
use Rattle.vdr_intake.specs.Ends.{QueueId, Taking}
use Rattle.vdr_outside.specs.declared.port.Port.{Ghosts as PortTells}
use Rattle.vdr_capture.specs.Gives.{Gave}
use Rattle.vdr_capture.specs.declared.lane.Lane.{Lane}
use Rattle.vdr_capture.specs.declared.sums.Outcome.{Outcome}
use Rattle.vdr_capture.specs.declared.sums.Outcome.TheVariants.{Done, NoMemory, Place, Tick, MediaFault, PortFault, LinkFault}
use Rattle.vdr_desk.specs.declared.desk.Desk.{Desk}
use Rattle.vdr_session.specs.declared.mark.Mark.{Mark}
use Rattle.vdr_session.specs.Desks.{FailureTold}
use Rattle.vdr_session.specs.Ran.{PortRan, PortRests}
use Rattle.vdr_session.specs.Sessions.{LaneTold}
use Rattle.vdr_live.specs.Ports.{AsksPorts, PortIn, PortSeen, TellsFailure, WasAsked, seen_port, seen_ports}

pub first_of : {A : Type 0} (xs : List A) → 0 < length xs → A
first_of [] some = let none : ⊥ = omega (arith, some) in absurd none
first_of (x ∷ xs) some = x

module _ {P : Type 0} (tells : PortTells P) where
  seen : P → PortSeen
  seen port = record { standing = tells.standing port; asked = tells.asked port; faults = tells.faults port }

  rests_in : (was lane : Lane P) (given : List Item) (rest : Counts) → PortRests was.port lane.port given rest → (seen_port tells lane ≡ seen_port tells was) × (given ≡ [])
  unfolding seen
  rests_in was lane given rest h = (ap seen h.same, h.none)

  asked_in : (turns g : ℕ) (queue : QueueId) (taker : Taking) (was lane : Lane P) (given : List Item) (rest : Counts)
      → (h : PortRan tells turns g queue taker was.port lane.port lane.tally lane.cause given rest) → WasAsked turns (seen_port tells was) (seen_port tells lane) h.cause given
  asked_in turns g queue taker was lane given rest h = record {
    gave = subst (λ (items : List Item). Gave (tells.standing was.port) (tells.standing lane.port) items) h.given_is h.captured.gave;
    others = h.captured.others;
    few = subst (λ (items : List Item). length items ≤ h.captured.others) h.given_is h.captured.few;
    ends = h.captured.ends;
    later = h.faults;
    failed = h.fails;
    ended = h.ends;
  }

  port_in : (turns capacity : ℕ) (began : Bool) (g : ℕ) (rate : Option Rate) (intake : Option (QueueId × Taking)) (was lane : Lane P) (given : List Item) (rest : Counts)
      → LaneTold tells turns capacity began g rate intake was.port lane given rest → PortIn turns began rate (seen_port tells was) (seen_port tells lane) lane.cause given
  port_in turns capacity true g None None was lane given rest h = let r = rests_in was lane given rest h.0 in (r.0, r.1, h.1)
  port_in turns capacity false g None None was lane given rest h = let r = rests_in was lane given rest h.0 in (r.0, r.1, h.1)
  port_in turns capacity true g None (Some intake) was lane given rest h = absurd h
  port_in turns capacity false g None (Some intake) was lane given rest h = absurd h
  port_in turns capacity true g (Some rate) None was lane given rest h = absurd h
  port_in turns capacity false g (Some rate) None was lane given rest h = absurd h
  port_in turns capacity true g (Some rate) (Some intake) was lane given rest h = (h.2.cause, h.2.told_is, asked_in turns g intake.0 intake.1 was lane given rest h.2)
  port_in turns capacity false g (Some rate) (Some intake) was lane given rest h = rests_in was lane given rest h.2

  failure_of : {L : Type 0} (outcome : Outcome) (lanes : List (Lane P)) (desks : List (Desk L Mark)) (e : Lane P) → FailureTold outcome lanes desks → TellsFailure outcome (λ g. (get_or lanes g e).cause)
  failure_of Done lanes desks e told = λ g small. told.0 g e small
  failure_of NoMemory lanes desks e told = tt
  failure_of Place lanes desks e told = tt
  failure_of Tick lanes desks e told = tt
  failure_of MediaFault lanes desks e told = tt
  failure_of (PortFault k) lanes desks e told = (told.within, told.fails e, λ g low. told.least g e low)
  failure_of (LinkFault i) lanes desks e told = λ g small. told.0 g e small

  pub asks_ports : {L : Type 0} (turns capacity : ℕ) (began : Bool) (rates : List (Option Rate)) (intakes : List (Option (QueueId × Taking))) (old new : List (Lane P)) (outcome : Outcome) (given : ℕ → List Item) (rest : ℕ → Counts)
      → length old ≡ 16 → length new ≡ 16
      → ((g : ℕ) (d : Lane P) → g < 16 → LaneTold tells turns capacity began g (get_or rates g None) (get_or intakes g None) (get_or old g d).port (get_or new g d) (given g) (rest g))
      → (desks : List (Desk L Mark)) → FailureTold outcome new desks → AsksPorts turns began rates (seen_ports tells old) (seen_ports tells new) outcome given
  asks_ports turns capacity began rates intakes old new outcome given rest olds news lanes desks told =
      let e = first_of old (omega (arith, olds)) in
      record {
        causes = λ g. (get_or new g e).cause;
        each = λ g d small.
            let a : get_or (seen_ports tells old) g d ≡ seen_port tells (get_or old g e) = get_or-map (seen_port tells) old g e d (omega (arith, olds, small)) in
            let b : get_or (seen_ports tells new) g d ≡ seen_port tells (get_or new g e) = get_or-map (seen_port tells) new g e d (omega (arith, news, small)) in
            subst (λ (p : PortSeen × PortSeen). PortIn turns began (get_or rates g None) p.0 p.1 (get_or new g e).cause (given g)) (λ i. (sym a i, sym b i))
            (port_in turns capacity began g (get_or rates g None) (get_or intakes g None) (get_or old g e) (get_or new g e) (given g) (rest g) (lanes g e small));
        failure = failure_of outcome new desks e told;
      }

  -- The same ports tell the same.
  pub unasked : (old new : List (Lane P)) → length old ≡ 16 → length new ≡ 16 → ((g : ℕ) (d : Lane P) → g < 16 → (get_or new g d).port ≡ (get_or old g d).port) → seen_ports tells new ≡ seen_ports tells old
  unfolding seen
  unasked old new olds news same =
      let e = first_of old (omega (arith, olds)) in
      same_lists (seen_ports tells new) (seen_ports tells old) (length-map new (seen_port tells) ∙ news ∙ sym olds ∙ sym (length-map old (seen_port tells))) (λ g d low.
      let small : g < 16 = let l = length-map new (seen_port tells) in omega (arith, low, l, news) in
      get_or-map (seen_port tells) new g e d (omega (arith, news, small)) ∙ ap seen (same g e small) ∙ sym (get_or-map (seen_port tells) old g e d (omega (arith, olds, small))))
