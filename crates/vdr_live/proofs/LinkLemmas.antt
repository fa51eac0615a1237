-- What a session says of its desks, said of what their links tell.
use Rattle.std.proofs.Common.{◌≡◌, inl, inr, ◌≤◌, ◌<◌, ℕ, Bool, true, false, List, length, map, get_or, Option, Some, None, refl, sym, ap, ◌∙◌, subst, arith}
use Rattle.std.proofs.lemmas.List.{get_or-map, length-map}
use Rattle.vdr_core.specs.Histories.{Event, Opening}
use Rattle.vdr_outside.specs.declared.link.Link.{Ghosts as LinkTells}
use Rattle.vdr_config.specs.Configuration.{Selector}
use Rattle.vdr_capture.specs.declared.lane.Cause.{Cause}
use Rattle.vdr_capture.specs.declared.lane.Cause.TheVariants.{Failed}
use Rattle.vdr_capture.specs.declared.lane.Lane.{Lane}
use Rattle.vdr_capture.specs.declared.sums.Outcome.{Outcome}
use Rattle.vdr_capture.specs.declared.sums.Outcome.TheVariants.{Done, NoMemory, Place, Tick, MediaFault, PortFault, LinkFault}
use Rattle.vdr_desk.specs.declared.desk.Desk.{Desk}
use Rattle.vdr_desk.specs.Exchanges.{AreServed, Exchange}
use Rattle.vdr_desk.specs.Links.{Converses}
use Rattle.vdr_session.specs.declared.mark.Mark.{Mark}
use Rattle.vdr_session.specs.Desks.{DesksReplied, DesksTold, FailureTold, HasSpoken}
use Rattle.vdr_session.specs.Origins.{IsAnswerOf, IsBegunOf}
use Rattle.vdr_session.specs.Sessions.{is_closed}
use Rattle.vdr_live.specs.Links.{AreReplied, AsksLinks, LinkIn, LinkSeen, TellsLinkFailure, as_seen, seen_link, seen_links}
use Rattle.vdr_live.proofs.PortLemmas.{first_of}

module _ {L : Type 0} (tells : LinkTells L) where
  conversed_in : (turns : ℕ) (was link : L) (exchanges : List Exchange) (cause : Cause) → Converses tells turns was link exchanges cause
      → Converses as_seen turns (seen_link tells was) (seen_link tells link) exchanges cause
  conversed_in turns was link exchanges cause h = record {
    others = h.others;
    heard = h.heard;
    few = h.few;
    replied = h.replied;
    front = h.front;
    ends = h.ends;
    faults = h.faults;
    fails = h.fails;
    nothing_left = h.nothing_left;
  }

  link_in : (turns : ℕ) (outcome : Outcome) (closed : Bool) → is_closed outcome ≡ closed → (was desk : Desk L Mark) (exchanges : List Exchange) → HasSpoken tells turns outcome was desk exchanges
      → LinkIn turns closed (seen_link tells was.link) (seen_link tells desk.link) desk.cause exchanges
  link_in turns outcome true is was desk exchanges (inl h) = (h.cause, h.told, conversed_in turns was.link desk.link exchanges h.cause h.conversed)
  link_in turns outcome true is was desk exchanges (inr h) = let clash : true ≡ false = sym is ∙ h.0 in let none : ⊥ = cc in absurd none
  link_in turns outcome false is was desk exchanges (inl h) = inl (h.cause, h.told, conversed_in turns was.link desk.link exchanges h.cause h.conversed)
  link_in turns outcome false is was desk exchanges (inr h) = inr (ap (seen_link tells) h.1.same, h.1.idle, h.1.none)

  -- how each worker ended
  causes_of : List (Desk L Mark) → ℕ → Option Cause
  causes_of desks i = get_or (map (λ (d : Desk L Mark). d.cause) desks) i None

  cause_at : (desks : List (Desk L Mark)) (i : ℕ) (d : Desk L Mark) → i < length desks → causes_of desks i ≡ (get_or desks i d).cause
  unfolding causes_of
  cause_at desks i d low = get_or-map (λ (x : Desk L Mark). x.cause) desks i d None low

  spoken_at : (turns : ℕ) (outcome : Outcome) (old new : List (Desk L Mark)) (as_many : length new ≡ length old) (i : ℕ) (e : Desk L Mark) (d : LinkSeen) → i < length old → (exchanges : List Exchange)
      → HasSpoken tells turns outcome (get_or old i e) (get_or new i e) exchanges
      → LinkIn turns (is_closed outcome) (get_or (seen_links tells old) i d) (get_or (seen_links tells new) i d) (causes_of new i) exchanges
  spoken_at turns outcome old new as_many i e d low exchanges h =
      let below : i < length new = omega (arith, low, as_many) in
      let a : get_or (seen_links tells old) i d ≡ seen_link tells (get_or old i e).link = get_or-map (λ (x : Desk L Mark). seen_link tells x.link) old i e d low in
      let b : get_or (seen_links tells new) i d ≡ seen_link tells (get_or new i e).link = get_or-map (λ (x : Desk L Mark). seen_link tells x.link) new i e d below in
      subst (λ (p : LinkSeen × LinkSeen × Option Cause). LinkIn turns (is_closed outcome) p.0 p.1 p.2 exchanges) (λ k. (sym a k, sym b k, sym (cause_at new i e below) k))
      (link_in turns outcome (is_closed outcome) refl (get_or old i e) (get_or new i e) exchanges h)

  failure_of : {P : Type 0} (outcome : Outcome) (lanes : List (Lane P)) (desks : List (Desk L Mark)) → FailureTold outcome lanes desks → TellsLinkFailure outcome (length desks) (causes_of desks)
  failure_of Done lanes desks told = λ i low is. let e = first_of desks (omega (arith, low)) in told.1 i e low (sym (cause_at desks i e low) ∙ is)
  failure_of NoMemory lanes desks told = tt
  failure_of Place lanes desks told = tt
  failure_of Tick lanes desks told = tt
  failure_of MediaFault lanes desks told = tt
  failure_of (PortFault g) lanes desks told = tt
  failure_of (LinkFault k) lanes desks told =
      let within = told.1.within in
      let e = first_of desks (omega (arith, within)) in
      (within, cause_at desks k e within ∙ told.1.fails e, λ i low is. told.1.least i e low (sym (cause_at desks i e (omega (arith, low, within))) ∙ is))

  seen_length : (desks : List (Desk L Mark)) → length (seen_links tells desks) ≡ length desks
  seen_length desks = length-map desks (λ (x : Desk L Mark). seen_link tells x.link)

  pub asks_links : {P : Type 0} (turns : ℕ) (outcome : Outcome) (lanes : List (Lane P)) (old new : List (Desk L Mark)) → DesksTold tells turns outcome old new → FailureTold outcome lanes new
      → AsksLinks turns (seen_links tells old) (seen_links tells new) outcome
  asks_links turns outcome lanes old new told failure = record {
    as_many = seen_length new ∙ told.as_many ∙ sym (seen_length old);
    causes = causes_of new;
    each = λ i d low.
        let below : i < length old = (let l = seen_length old in omega (arith, low, l)) in
        let e = first_of old (omega (arith, below)) in
        let s = told.each i e below in
        (s.0, spoken_at turns outcome old new told.as_many i e d below s.0 s.1);
    failure = subst (λ (n : ℕ). TellsLinkFailure outcome n (causes_of new)) (told.as_many ∙ sym (seen_length old)) (failure_of outcome lanes new failure);
  }

  -- a count that was lower before rose by as much
  pub are_replied : (turns : ℕ) (channels : List Selector) (first was now : ℕ) (outcome : Outcome) (opening : Opening) (events : List Event) (old new : List (Desk L Mark)) → length new ≡ length old → first ≤ was
      → DesksReplied tells turns channels was now outcome old new opening events → AreReplied turns channels first now outcome opening events (seen_links tells old) (seen_links tells new)
  are_replied turns channels first was now outcome opening events old new as_many earlier replied = record {
    origins = replied.origins;
    failures = (let rose = replied.failures in omega (arith, earlier, rose));
    each = λ i d low.
        let below : i < length old = (let l = seen_length old in omega (arith, low, l)) in
        let e = first_of old (omega (arith, below)) in
        let r = replied.each i e below in
        record {
          cause = causes_of new i;
          exchanges = r.exchanges;
          spoken = spoken_at turns outcome old new as_many i e d below r.exchanges r.spoken;
          answered = subst (λ (c : Option Cause). AreServed (IsAnswerOf channels replied.origins i opening) (IsBegunOf channels replied.origins i opening) events (c ≡ Some Failed) 0 r.exchanges (length events))
              (sym (cause_at new i e (omega (arith, below, as_many)))) r.answered;
        };
  }
