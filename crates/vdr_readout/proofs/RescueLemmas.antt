-- What a command owes that reads one medium alone, from what each of its calls says.
use Rattle.std.proofs.Common.{◌≡◌, ◌≤◌, ◌++◌, inl, inr, ℕ, List, [], length, sum, get_or, true, false, Option, Result, Ok, Err, refl, sym, ap, ◌∙◌, subst, append-nil}
use Rattle.std.specs.Bool.{⊤}
use Rattle.std.proofs.KnownBytes.{Appends-nil, Appends-trans}
use Rattle.vdr_core.specs.Histories as histories
use Rattle.vdr_terms.specs.Records.{Record}
use Rattle.vdr_terms.specs.Queries.{Query}
use Rattle.vdr_outside.specs.Causes.{NoneFalls, Rose}
use Rattle.vdr_outside.specs.Disk.{Unchanged, content}
use Rattle.vdr_outside.specs.declared.fault.PartRefused.{PartRefused}
use Rattle.vdr_outside.specs.declared.fault.PartRefused.TheVariants as parts
use Rattle.vdr_outside.specs.declared.media.Media.{Ghosts as MediaTells}
use Rattle.vdr_outside.proofs.Counts.{rose_after, sum_not_less, sum_rose}
use Rattle.vdr_outside.proofs.Known.{front-more}
use Rattle.vdr_outside.proofs.Moments.{unchanged_join}
use Rattle.vdr_config.specs.Configuration.{Configuration}
use Rattle.vdr_directory.specs.Opening.{HasFaultCause}
use Rattle.vdr_entry.specs.Queries.{asked_medium}
use Rattle.vdr_entry.specs.declared.query.Medium.TheVariants.{Incident}
use Rattle.vdr_rescue.specs.Alones.{AloneState, IsAloneOn, IsReadThrough, IsSameMedium, LeavesAlone, RefusesAlone, Rescue, Rescued, Selects, account_of, selected_of}
use Rattle.vdr_rescue.specs.Costs.{ReadsNoOther}
use Rattle.vdr_rescue.specs.Findings.{AreFindings, findings_text, found_in}
use Rattle.vdr_rescue.specs.declared.findings.Finding.{Finding}
use Rattle.vdr_rescue.specs.declared.found.Found.{Found}
use Rattle.vdr_rescue.specs.declared.found.Found.TheVariants as found
use Rattle.vdr_visit.specs.Prints.{whole_text}
use Rattle.vdr_visit.specs.Refusals.{IsAccepted, lacks_channel, lacks_incident}
use Rattle.vdr_visit.specs.Visits.{AreVisited, HasHanded, HasMade, ReadEnd, end_of}
use Rattle.vdr_visit.specs.Visits.ReadEnd.{AllRead, ReadFault}
use Rattle.vdr_visit.specs.declared.visit_refused.VisitRefused.{VisitRefused}
use Rattle.vdr_visit.specs.declared.visit_refused.VisitRefused.TheVariants as stops
use Rattle.vdr_visit.proofs.Printing.{front_of_none, front_of_whole}
use Rattle.vdr_command.specs.Outside.{InputSeen, MediaFailed, MediaSeen, OutputFailed, OutputSeen, Outside, Prints, PrintsFront, Writes}
use Rattle.vdr_command.specs.StatusLine.{channel_line}
use Rattle.vdr_command.specs.declared.status.Status.{Status}
use Rattle.vdr_command.specs.declared.status.Status.TheVariants.{Damaged, MediaFault, NoMemory, NoChannel, NoIncident}
use Rattle.vdr_readout.specs.Reads.{AskedPlay, LacksChannel, LacksIncident, id_of, number_asked, query_of, status_by}
use Rattle.vdr_readout.specs.Rescues.{CanRescue, IsFound, Rescues, RescuesAll, ShowsRescue, records_rescued, rescue_text, status_found}
use Rattle.vdr_readout.specs.Telling.{TellsAlone, TellsFindings, status_of_part}
use Rattle.vdr_readout.proofs.PlayCompleteness.{one_id}
use Rattle.vdr_readout.proofs.ReadLemmas.{Wants}
use Rattle.vdr_readout.proofs.RefusedLemmas.{asked_within, lacks_from, lacks_is, medium_is}

-- The laws of one medium alone.
pub record LawsOfAlone : Type 0 where
  pub same : (m : ℕ) (bytes : List ℕ) (a : AloneState) (x : Rescue) → IsAloneOn m bytes a → Rescued m bytes x → (a.config ≡ x.config) × (a.saves.table ≡ x.table)
  pub refused : (m offset : ℕ) (bytes : List ℕ) (a : AloneState) → RefusesAlone m bytes offset → IsAloneOn m bytes a → ⊥
  pub never : (m offset : ℕ) (bytes : List ℕ) (x : Rescue) → RefusesAlone m bytes offset → Rescued m bytes x → ⊥
  pub one : (m p q : ℕ) (bytes : List ℕ) → RefusesAlone m bytes p → RefusesAlone m bytes q → p ≡ q
  pub given : (m : ℕ) (bytes : List ℕ) (a : AloneState) (x : Rescue) (query : Query) → IsAloneOn m bytes a → Rescued m bytes x → Selects bytes a query (selected_of x query)
  pub found : (m : ℕ) (bytes : List ℕ) (a b : AloneState) (x : Rescue) (given : List Record) (findings : List Finding) → IsAloneOn m bytes a → IsSameMedium a b
      → IsReadThrough bytes a.cursor b.cursor.told given → Rescued m bytes x → AreFindings (account_of b) findings → findings ≡ x.findings

-- By exclusion.
module _ (laws : LawsOfAlone) (asked : AskedPlay) (bytes : List ℕ) where
  all_memory : (status : Status) → status ≡ NoMemory → RescuesAll asked bytes status
  all_memory status is = record {
    refused = λ offset r. inr is;
    channel = λ x r lacks. inr is;
    incident = λ x id r there asks lacks. inr is;
    done = λ x r can. inr is;
  }

  all_refused : (at : ℕ) → RefusesAlone (number_asked asked) bytes at → RescuesAll asked bytes (Damaged (number_asked asked) at)
  all_refused at why = record {
    refused = λ offset r. inl (ap (λ (n : ℕ). Damaged (number_asked asked) n) (laws.one (number_asked asked) at offset bytes why r));
    channel = λ x r lacks. absurd (laws.never (number_asked asked) at bytes x why r);
    incident = λ x id r there asks lacks. absurd (laws.never (number_asked asked) at bytes x why r);
    done = λ x r can. absurd (laws.never (number_asked asked) at bytes x why r);
  }

  module _ (a : AloneState) (alone : IsAloneOn (number_asked asked) bytes a) where
    all_done : (v : Found) → ((x : Rescue) → Rescued (number_asked asked) bytes x → CanRescue x asked) → ((x : Rescue) → Rescued (number_asked asked) bytes x → found_in x.findings ≡ v)
        → RescuesAll asked bytes (status_found (number_asked asked) v)
    all_done v can found = record {
      refused = λ offset r. absurd (laws.refused (number_asked asked) offset bytes a r alone);
      channel = λ x r lacks. absurd ((can x r).channel lacks);
      incident = λ x id r there asks lacks. absurd ((can x r).incident lacks);
      done = λ x r can. inl (sym (ap (λ (f : Found). status_found (number_asked asked) f) (found x r)));
    }

    all_channel : ((x : Rescue) → Rescued (number_asked asked) bytes x → LacksChannel x.config asked.channel) → RescuesAll asked bytes NoChannel
    all_channel lacks = record {
      refused = λ offset r. absurd (laws.refused (number_asked asked) offset bytes a r alone);
      channel = λ x r it. inl refl;
      incident = λ x id r there asks it. absurd (there (lacks x r));
      done = λ x r can. absurd (can.channel (lacks x r));
    }

    all_incident : (id : ℕ) → asked.medium ≡ Incident id → ((x : Rescue) → Rescued (number_asked asked) bytes x → (LacksChannel x.config asked.channel → ⊥) × LacksIncident x.table asked.medium)
        → RescuesAll asked bytes (NoIncident id)
    all_incident id is lacks = record {
      refused = λ offset r. absurd (laws.refused (number_asked asked) offset bytes a r alone);
      channel = λ x r it. absurd ((lacks x r).0 it);
      incident = λ x other r there asks it. inl (one_id asked.medium id other is asks);
      done = λ x r can. absurd (can.incident (lacks x r).1);
    }

-- What failed did so in all.
failed_in_all : {tells tells_images : Type 0} (old new : MediaSeen tells tells_images) (m : ℕ) → NoneFalls old.faults new.faults → Rose (get_or old.faults m 0) (get_or new.faults m 0) → MediaFailed old new
failed_in_all old new m later rose = sum_rose old.faults new.faults m later.same_media later.none_falls rose

-- The medium was not opened.
module _ {tells tells_images : Type 0} (laws : LawsOfAlone) (asked : AskedPlay) (line : List Record → Record → List ℕ) (last : List Record → List ℕ) (old new : Outside tells tells_images) (same : new.output ≡ old.output)
    (unchanged : Unchanged old.media.disk new.media.disk) (others : ReadsNoOther (number_asked asked) old.media.bytes_read new.media.bytes_read) where
  abbrev bytes_asked : List ℕ
  bytes_asked = content old.media.disk.reads (number_asked asked)

  pub refused_rescues : (part : PartRefused) → ((k offset : ℕ) → part ≡ parts.Damaged k offset → (k ≡ number_asked asked) × (tells → RefusesAlone (number_asked asked) bytes_asked offset))
      → (part ≡ parts.Fault → MediaFailed old.media new.media) → Rescues asked line last old new (status_of_part part)
  refused_rescues parts.NoMemory damaged fault = record {
    shown = λ x t r. subst (λ (o : OutputSeen). PrintsFront (rescue_text tells asked bytes_asked line last old.output o x) old.output o) (sym same) (front_of_none old.output.taken _);
    media = record { unchanged = unchanged; others = others; fault = λ e. let none : ⊥ = cc in absurd none };
    complete = λ nothing t. all_memory laws asked bytes_asked NoMemory refl;
  }
  refused_rescues (parts.Damaged k offset) damaged fault =
      let why = damaged k offset refl in
      record {
        shown = (why.0, inl (same, why.1));
        media = record { unchanged = unchanged; others = others; fault = λ e. let none : ⊥ = cc in absurd none };
        complete = λ nothing t. subst (λ (n : ℕ). RescuesAll asked bytes_asked (Damaged n offset)) (sym why.0) (all_refused laws asked bytes_asked offset (why.1 t));
      }
  refused_rescues parts.Fault damaged fault = record {
    shown = ([], subst (λ (o : OutputSeen). Prints [] old.output o) (sym same) (Appends-nil old.output.taken), λ x t r. (records_rescued x asked, refl));
    media = record { unchanged = unchanged; others = others; fault = λ e. fault refl };
    complete = λ nothing t. absurd (nothing.media (fault refl));
  }

-- It was opened, and no such channel is configured there.
module _ {tells tells_images : Type 0} (laws : LawsOfAlone) (asked : AskedPlay) (line : List Record → Record → List ℕ) (last : List Record → List ℕ) (old new : Outside tells tells_images)
    (a : AloneState) (alone : tells → IsAloneOn (number_asked asked) (content old.media.disk.reads (number_asked asked)) a)
    (unchanged : Unchanged old.media.disk new.media.disk) (others : ReadsNoOther (number_asked asked) old.media.bytes_read new.media.bytes_read) where
  pub channel_rescues : LacksChannel a.config asked.channel → Writes (channel_line asked.channel) old.output new.output → Rescues asked line last old new NoChannel
  channel_rescues lacks wrote = record {
    shown = (wrote, λ x t r. lacking x t r);
    media = record { unchanged = unchanged; others = others; fault = λ e. let none : ⊥ = cc in absurd none };
    complete = λ nothing t. all_channel laws asked (content old.media.disk.reads (number_asked asked)) a (alone t) (λ x r. lacking x t r);
  }
    where
      lacking : (x : Rescue) → tells → Rescued (number_asked asked) (content old.media.disk.reads (number_asked asked)) x → LacksChannel x.config asked.channel
      lacking x t r = subst (λ (c : Configuration). LacksChannel c asked.channel) (laws.same (number_asked asked) (content old.media.disk.reads (number_asked asked)) a x (alone t) r).0 lacks

-- It was opened and visited.
module _ {M : Type 0} (media : MediaTells M) (laws : LawsOfAlone) (asked : AskedPlay) (before mid after : M)
    (a b : AloneState) (is_it : a.cursor.area.medium ≡ number_asked asked) (alone : media.tells → IsAloneOn (number_asked asked) (content (media.disk before).reads (number_asked asked)) a)
    (query : Query) (wants : Wants a.config asked.medium asked.channel asked.from asked.to query)
    (opened : Unchanged (media.disk before) (media.disk mid)) (opened_others : ReadsNoOther (number_asked asked) (media.bytes_read before) (media.bytes_read mid)) (later : NoneFalls (media.faults before) (media.faults mid)) where
  abbrev bytes : List ℕ
  bytes = content (media.disk before).reads (number_asked asked)

  alone_mid : media.tells → IsAloneOn (number_asked asked) (content (media.disk mid).reads (number_asked asked)) a
  alone_mid t = subst (λ i. IsAloneOn (number_asked asked) (content i (number_asked asked)) a) (sym (opened.reads t)) (alone t)

  rescued_so : (x : Rescue) → media.tells → Rescued (number_asked asked) bytes x → Rescued (number_asked asked) (content (media.disk mid).reads (number_asked asked)) x
  rescued_so x t r = subst (λ i. Rescued (number_asked asked) (content i (number_asked asked)) x) (sym (opened.reads t)) r

  -- What it then tells is what the medium gives.
  pub given : (x : Rescue) → media.tells → Rescued (number_asked asked) bytes x → media.tells × Selects (content (media.disk mid).reads a.cursor.area.medium) a query (records_rescued x asked)
  given x t r = (
    t,
    subst (λ (n : ℕ). Selects (content (media.disk mid).reads n) a query (records_rescued x asked)) (sym is_it)
        (subst (λ (rs : List Record). Selects (content (media.disk mid).reads (number_asked asked)) a query rs)
        (ap (λ (q : Query). selected_of x q) wants.is ∙ ap (λ (c : Configuration). selected_of x (query_of c asked.medium asked.channel asked.from asked.to)) (laws.same (number_asked asked) bytes a x (alone t) r).0)
        (laws.given (number_asked asked) (content (media.disk mid).reads (number_asked asked)) a x query (alone_mid t) (rescued_so x t r))),
  )

  -- What it finds is what stands there.
  pub found_is : (end : ReadEnd) → LeavesAlone media a b mid after end → end ≡ AllRead → (findings : List Finding) → AreFindings (account_of b) findings
      → (x : Rescue) → media.tells → Rescued (number_asked asked) bytes x → findings ≡ x.findings
  found_is end left is findings are x t r =
      let read = left.found is t in
      laws.found (number_asked asked) (content (media.disk mid).reads (number_asked asked)) a b x read.0 findings (alone_mid t) left.same
      (subst (λ (n : ℕ). IsReadThrough (content (media.disk mid).reads n) a.cursor b.cursor.told read.0) is_it read.1) (rescued_so x t r) are

  channel_there : lacks_channel (length a.config.channels) query.channel ≡ false
  channel_there = subst (λ (q : Query). lacks_channel (length a.config.channels) q.channel ≡ false) (sym wants.is) (asked_within a.config asked.channel)

  module _ (end : ReadEnd) (left : LeavesAlone media a b mid after end) where
    pub still : Unchanged (media.disk before) (media.disk after)
    still = unchanged_join (media.disk before) (media.disk mid) (media.disk after) opened left.unchanged

    pub no_other : ReadsNoOther (number_asked asked) (media.bytes_read before) (media.bytes_read after)
    no_other k other = left.others k (λ is. other (is ∙ is_it)) ∙ opened_others k other

    pub failed_so : end ≡ ReadFault → Rose (sum (media.faults before)) (sum (media.faults after))
    failed_so is = rose_after (sum (media.faults before)) (sum (media.faults mid)) (sum (media.faults after)) (sum_not_less (media.faults before) (media.faults mid) later.same_media later.none_falls)
        (sum_rose (media.faults mid) (media.faults after) a.cursor.area.medium left.later.same_media left.later.none_falls (left.rose is))

  module _ {R : Type 0} (ended : Result ⊤ (VisitRefused R)) (left : LeavesAlone media a b mid after (end_of ended))
      (accepted : IsAccepted (lacks_channel (length a.config.channels) query.channel) (lacks_incident a.saves.table query.medium) ended) where
    can : (ended ≡ Err stops.NoIncident → ⊥) → (x : Rescue) → media.tells → Rescued (number_asked asked) bytes x → CanRescue x asked
    can there x t r =
        let same = laws.same (number_asked asked) bytes a x (alone t) r in
        record {
          channel = λ lacks. wants.there (subst (λ (c : Configuration). LacksChannel c asked.channel) (sym same.0) lacks);
          incident = λ lacks. there (accepted.incident.1 (
            channel_there,
            subst (λ (q : Query). lacks_incident a.saves.table q.medium ≡ true) (sym wants.is)
                (lacks_from a.saves.table asked.medium (subst (λ (table : List (Option histories.Incident)). LacksIncident table asked.medium) (sym same.1) lacks)),
          ));
        }

    misses : ended ≡ Err stops.NoIncident → lacks_incident a.saves.table (asked_medium asked.medium) ≡ true
    misses is = subst (λ (q : Query). lacks_incident a.saves.table q.medium ≡ true) wants.is (accepted.incident.0 is).1

    module _ (input : InputSeen) (line : List Record → Record → List ℕ) (last : List Record → List ℕ) {Has : List Record → Type 0} {Stops : List Record → R → Type 0} (was next : OutputSeen)
        (handed : HasHanded (λ records. media.tells × Selects (content (media.disk mid).reads a.cursor.area.medium) a query records) Has Stops line (whole_text line last) was.taken next.taken ended) where
      abbrev old : Outside media.tells media.tells_images
      old = record { input = input; output = was; media = record { disk = media.disk before; faults = media.faults before; bytes_read = media.bytes_read before } }

      abbrev new : OutputSeen → Outside media.tells media.tells_images
      new out = record { input = input; output = out; media = record { disk = media.disk after; faults = media.faults after; bytes_read = media.bytes_read after } }

      front_so : (x : Rescue) → media.tells → Rescued (number_asked asked) bytes x → PrintsFront (rescue_text media.tells asked bytes line last was next x) was next
      front_so x t r = front_of_whole was.taken next.taken (whole_text line last (records_rescued x asked)) (findings_text x.findings) (handed.front (records_rescued x asked) (given x t r))

      -- The visit was cut off.
      module _ (unread : ended ≡ Err stops.NoIncident → next ≡ was) (blamed : ended ≡ Err stops.Output → OutputFailed was next) (status_of : R → Status) (memory : (reason : R) → status_of reason ≡ NoMemory) where
        by_stop : (stop : VisitRefused R) → ended ≡ Err stop → HasMade (Has handed.seen) (Stops handed.seen) line (whole_text line last handed.seen) handed.seen was.taken next.taken (Err stop)
            → ((records : List Record) → media.tells × Selects (content (media.disk mid).reads a.cursor.area.medium) a query records → AreVisited handed.seen records (Err stop))
            → Rescues asked line last old (new next) (status_by status_of (Err stop) asked.medium)
        by_stop stops.NoChannel is made are = let clash : false ≡ true = sym channel_there ∙ accepted.channel.0 is in let none : ⊥ = cc in absurd none
        by_stop stops.NoIncident is made are =
            let lacking : (x : Rescue) → media.tells → Rescued (number_asked asked) bytes x → (LacksChannel x.config asked.channel → ⊥) × LacksIncident x.table asked.medium = λ x t r.
            let same = laws.same (number_asked asked) bytes a x (alone t) r in (
              (λ lacks. wants.there (subst (λ (c : Configuration). LacksChannel c asked.channel) (sym same.0) lacks)),
              subst (λ (table : List (Option histories.Incident)). LacksIncident table asked.medium) same.1 (lacks_is a.saves.table asked.medium (misses is)),
            ) in
            let named = medium_is a.saves.table asked.medium (misses is) in
            record {
              shown = (unread is, named, lacking);
              media = record { unchanged = still (end_of ended) left; others = no_other (end_of ended) left; fault = λ e. let none : ⊥ = cc in absurd none };
              complete = λ nothing t. all_incident laws asked bytes a (alone t) (id_of asked.medium) named (λ x r. lacking x t r);
            }
        by_stop stops.Fault is made are = record {
          shown = (handed.seen, made.1, λ x t r. are (records_rescued x asked) (given x t r));
          media = record { unchanged = still (end_of ended) left; others = no_other (end_of ended) left; fault = λ e. failed_so (end_of ended) left (ap end_of is) };
          complete = λ nothing t. absurd (nothing.media (failed_so (end_of ended) left (ap end_of is)));
        }
        by_stop (stops.Damaged m offset) is made are = absurd (left.undamaged m offset (ap end_of is))
        by_stop stops.Output is made are = record {
          shown = (blamed is, front_so);
          media = record { unchanged = still (end_of ended) left; others = no_other (end_of ended) left; fault = λ e. let none : ⊥ = cc in absurd none };
          complete = λ nothing t. absurd (nothing.output (blamed is));
        }
        by_stop (stops.Own reason) is made are = subst (Rescues asked line last old (new next)) (sym (memory reason)) (record {
          shown = front_so;
          media = record { unchanged = still (end_of ended) left; others = no_other (end_of ended) left; fault = λ e. let none : ⊥ = cc in absurd none };
          complete = λ nothing t. all_memory laws asked bytes NoMemory refl;
        })

        pub cut_rescues : (stop : VisitRefused R) → ended ≡ Err stop → Rescues asked line last old (new next) (status_by status_of (Err stop) asked.medium)
        cut_rescues stop is = by_stop stop is
            (subst (λ (o : Result ⊤ (VisitRefused R)). HasMade (Has handed.seen) (Stops handed.seen) line (whole_text line last handed.seen) handed.seen was.taken next.taken o) is handed.made)
            (λ records t. subst (λ (o : Result ⊤ (VisitRefused R)). AreVisited handed.seen records o) is (handed.are records t))

      -- All was read, and what was found is told.
      module _ (is : ended ≡ Ok tt) (out : OutputSeen) (failed_later : OutputFailed next out → OutputFailed was out) where
        made_all : Prints (whole_text line last handed.seen) was next
        made_all = (subst (λ (o : Result ⊤ (VisitRefused R)). HasMade (Has handed.seen) (Stops handed.seen) line (whole_text line last handed.seen) handed.seen was.taken next.taken o) is handed.made).1

        all_seen : (x : Rescue) → media.tells → Rescued (number_asked asked) bytes x → handed.seen ≡ records_rescued x asked
        all_seen x t r = subst (λ (o : Result ⊤ (VisitRefused R)). AreVisited handed.seen (records_rescued x asked) o) is (handed.are (records_rescued x asked) (given x t r))

        printed_all : (x : Rescue) → media.tells → Rescued (number_asked asked) bytes x → Prints (whole_text line last (records_rescued x asked)) was next
        printed_all x t r = subst (λ (rs : List Record). Prints (whole_text line last rs) was next) (all_seen x t r) made_all

        can_all : (x : Rescue) → media.tells → Rescued (number_asked asked) bytes x → CanRescue x asked
        can_all x t r = can (λ e. let clash : Ok tt ≡ Err stops.NoIncident = sym is ∙ e in let none : ⊥ = cc in absurd none) x t r

        memory_rescues : next ≡ out → Rescues asked line last old (new out) NoMemory
        memory_rescues kept = record {
          shown = λ x t r. (whole_text line last (records_rescued x asked), findings_text x.findings, refl, subst (λ (o : OutputSeen). Prints (whole_text line last (records_rescued x asked)) was o) kept (printed_all x t r));
          media = record { unchanged = still (end_of ended) left; others = no_other (end_of ended) left; fault = λ e. let none : ⊥ = cc in absurd none };
          complete = λ nothing t. all_memory laws asked bytes NoMemory refl;
        }

        module _ (findings : List Finding) (are : AreFindings (account_of b) findings) where
          found_so : (x : Rescue) → media.tells → Rescued (number_asked asked) bytes x → findings ≡ x.findings
          found_so x t r = found_is (end_of ended) left (ap end_of is) findings are x t r

          is_found : Prints (findings_text findings) next out → IsFound media.tells asked bytes line last was out (found_in findings)
          is_found p x t r = (
            Appends-trans was.taken next.taken out.taken (whole_text line last (records_rescued x asked)) (findings_text x.findings) (printed_all x t r) (subst (λ (f : List Finding). Prints (findings_text f) next out) (found_so x t r) p),
            ap found_in (sym (found_so x t r)),
          )

          shows_found : (v : Found) → IsFound media.tells asked bytes line last was out v → ShowsRescue media.tells asked bytes line last was out (status_found (number_asked asked) v)
          shows_found found.Whole f = f
          shows_found (found.Damaged offset) f = (refl, inr f)
          shows_found (found.Missing place) f = f

          not_fault : (v : Found) → status_found (number_asked asked) v ≡ MediaFault → ⊥
          not_fault found.Whole e = cc
          not_fault (found.Damaged offset) e = cc
          not_fault (found.Missing place) e = cc

          told_rescues : (status : Status) → TellsFindings (number_asked asked) findings next out status → Rescues asked line last old (new out) status
          told_rescues status (inl (same, p)) = subst (Rescues asked line last old (new out)) (sym same) (record {
            shown = shows_found (found_in findings) (is_found p);
            media = record { unchanged = still (end_of ended) left; others = no_other (end_of ended) left; fault = λ e. absurd (not_fault (found_in findings) e) };
            complete = λ nothing t. all_done laws asked bytes a (alone t) (found_in findings) (λ x r. can_all x t r) (λ x r. ap found_in (sym (found_so x t r)));
          })
          told_rescues status (inr (same, failed, front)) = subst (Rescues asked line last old (new out)) (sym same) (record {
            shown = (
              failed_later failed,
              λ x t r.
                  front-more was.taken next.taken out.taken (whole_text line last (records_rescued x asked)) (findings_text x.findings) [] (rescue_text media.tells asked bytes line last was out x)
                  (ap (λ (l : List ℕ). whole_text line last (records_rescued x asked) ++ l) (sym (append-nil (findings_text x.findings)))) (printed_all x t r)
                  (subst (λ (f : List Finding). PrintsFront (findings_text f) next out) (found_so x t r) front),
            );
            media = record { unchanged = still (end_of ended) left; others = no_other (end_of ended) left; fault = λ e. let none : ⊥ = cc in absurd none };
            complete = λ nothing t. absurd (nothing.output (failed_later failed));
          })

        pub tells_rescues : (status : Status) → TellsAlone (account_of b) (number_asked asked) next out status → Rescues asked line last old (new out) status
        tells_rescues status (inl (same, kept)) = subst (Rescues asked line last old (new out)) (sym same) (memory_rescues (sym kept))
        tells_rescues status (inr (findings, are, told)) = told_rescues findings are status told

-- A fault of opening rose.
pub media_rose : {T : Type 0} (before now : List ℕ) (m : ℕ) {result : Result T PartRefused} → HasFaultCause m before now result → (part : PartRefused) → result ≡ Err part → part ≡ parts.Fault → Rose (sum before) (sum now)
media_rose before now m h part is fault = sum_rose before now m h.later.same_media h.later.none_falls (h.rose (is ∙ ap (λ (p : PartRefused). Err p) fault))

-- What is no error is Ok.
pub ok_from : {E : Type 0} (r : Result ⊤ E) → ((e : E) → r ≡ Err e → ⊥) → r ≡ Ok tt
ok_from (Ok x) not = refl
ok_from (Err e) not = absurd (not e refl)

-- A count that did not fall before it rose.
pub rose_later : (before mid now : ℕ) → before ≤ mid → Rose mid now → Rose before now
rose_later before mid now first rose = rose_after before mid now first rose
