-- By exclusion: what may be played is, and what may not is refused by its own refusal.
use Rattle.std.proofs.Common.{◌≡◌, inl, inr, ⊎_elim, ℕ, List, Option, None, refl, sym, subst, ◌∙◌}
use Rattle.vdr_core.specs.Histories.{live}
use Rattle.vdr_core.specs.Histories as histories
use Rattle.vdr_config.specs.Configuration.{Configuration}
use Rattle.vdr_entry.specs.declared.query.Medium.{Medium}
use Rattle.vdr_entry.specs.declared.query.Medium.TheVariants.{Incident}
use Rattle.vdr_opening.specs.Media.{Contents, HoldsParts, parts_of}
use Rattle.vdr_command.specs.Outside.{MediaSeen}
use Rattle.vdr_command.specs.Opened.{OneAnswer}
use Rattle.vdr_readout.specs.Plays.{IsPlayStatus}
use Rattle.vdr_readout.specs.Reads.{AskedPlay, LacksChannel, LacksIncident, PlayEnds, PlaysAll}
use Rattle.vdr_command.specs.declared.status.Status.{Status}
use Rattle.vdr_command.specs.declared.status.Status.TheVariants.{Done, Words, Config, Small, Unformatted, Formatted, Damaged, MediaFault, PortFault, LinkFault, InputFault, OutputFault, NoMemory, Feed, NoChannel, NoIncident, SaveRefused, Place, Tick, ExportKind, ExportNothing, ExportMixed, ExportLong, ExportPart, Capture, NoEvidence, Missing}
use Rattle.vdr_command.proofs.OpenedCompleteness.{damaged_refused, memory_refused, opened_refused, unformatted_refused}

pub not_live : (table : List (Option histories.Incident)) (medium : Medium) (id : ℕ) → medium ≡ Incident id → live table id ≡ None → LacksIncident table medium
not_live table medium id is none = subst (LacksIncident table) (sym is) none

pub one_id : (medium : Medium) (a b : ℕ) → medium ≡ Incident a → medium ≡ Incident b → NoIncident a ≡ NoIncident b
one_id medium a b first second = let same : Incident a ≡ Incident b = sym first ∙ second in cc

module _ {tells tells_images : Type 0} (asked : AskedPlay) (old new : MediaSeen tells tells_images) (told : tells) (law : OneAnswer old.disk.reads) where
  lacks_too : (x y : Contents) → HoldsParts old.disk.reads x → HoldsParts old.disk.reads y → LacksChannel x.config asked.channel → LacksChannel y.config asked.channel
  lacks_too x y hx hy lacks = subst (λ (c : Configuration). LacksChannel c asked.channel) (law.config x y hx hy) lacks

  misses_too : (x y : Contents) → HoldsParts old.disk.reads x → HoldsParts old.disk.reads y → LacksIncident x.table asked.medium → LacksIncident y.table asked.medium
  misses_too x y hx hy lacks = subst (λ (table : List (Option histories.Incident)). LacksIncident table asked.medium) (law.table x y hx hy) lacks

  pub plays_all : (status : Status) → (status ≡ OutputFault → ⊥) → (status ≡ MediaFault → ⊥) → IsPlayStatus status → PlayEnds asked old new status
      → PlaysAll asked.medium asked.channel old.disk.reads status
  plays_all Done output media own ends =
      let p = ends.media.openable tt told in
      record {
        refused = opened_refused old.disk.reads law Done p.0 p.1 p.2 p.3;
        channel = λ x holds meet lacks. absurd (p.4.channel (lacks_too (parts_of x) p.1 (law.parts x holds) p.2 lacks));
        incident = λ x id holds meet there is none. absurd (p.4.incident (misses_too (parts_of x) p.1 (law.parts x holds) p.2 (not_live x.table asked.medium id is none)));
        done = λ x holds meet regular can. tt;
      }
  plays_all Unformatted output media own ends =
      let un = (ends.media.unformatted refl).1 told in
      record {
        refused = unformatted_refused old.disk.reads un;
        channel = λ x holds meet lacks. absurd (law.formatted x holds un);
        incident = λ x id holds meet there is none. absurd (law.formatted x holds un);
        done = λ x holds meet regular can. absurd (law.formatted x holds un);
      }
  plays_all (Damaged k at) output media own ends = ⊎_elim
      (λ refused. let r = refused.1 told in
      record {
        refused = damaged_refused old.disk.reads law k at r.0 r.1;
        channel = λ x holds meet lacks. absurd (law.either x k at holds meet r.1);
        incident = λ x id holds meet there is none. absurd (law.either x k at holds meet r.1);
        done = λ x holds meet regular can. absurd (law.either x k at holds meet r.1);
      })
      (λ irregular. let h = irregular told in
      let p = h.0 in
      record {
        refused = opened_refused old.disk.reads law (Damaged k at) p.0 p.1 p.2 p.3;
        channel = λ x holds meet lacks. absurd (p.4.0.channel (lacks_too (parts_of x) p.1 (law.parts x holds) p.2 lacks));
        incident = λ x id holds meet there is none. absurd (p.4.0.incident (misses_too (parts_of x) p.1 (law.parts x holds) p.2 (not_live x.table asked.medium id is none)));
        done = λ x holds meet regular can. absurd (h.1 x holds regular);
      })
      ends.media.damaged
  plays_all NoChannel output media own ends =
      let h = ends.no_channel refl told in
      record {
        refused = opened_refused old.disk.reads law NoChannel h.0 h.1 h.2 h.3;
        channel = λ x holds meet lacks. inl refl;
        incident = λ x id holds meet there is none. absurd (there (lacks_too h.1 (parts_of x) h.2 (law.parts x holds) h.4));
        done = λ x holds meet regular can. absurd (can.channel (lacks_too h.1 (parts_of x) h.2 (law.parts x holds) h.4));
      }
  plays_all (NoIncident id) output media own ends =
      let h = ends.no_incident.1 told in
      record {
        refused = opened_refused old.disk.reads law (NoIncident id) h.0 h.1 h.2 h.3;
        channel = λ x holds meet lacks. absurd (h.4.0 (lacks_too (parts_of x) h.1 (law.parts x holds) h.2 lacks));
        incident = λ x other holds meet there is none. inl (one_id asked.medium id other ends.no_incident.0 is);
        done = λ x holds meet regular can. absurd (can.incident (misses_too h.1 (parts_of x) h.2 (law.parts x holds) h.4.1));
      }
  plays_all NoMemory output media own ends = record {
    refused = memory_refused old.disk.reads;
    channel = λ x holds meet lacks. inr refl;
    incident = λ x id holds meet there is none. inr refl;
    done = λ x holds meet regular can. tt;
  }
  plays_all MediaFault output media own ends = absurd (media refl)
  plays_all OutputFault output media own ends = absurd (output refl)
  plays_all Words output media own ends = absurd own
  plays_all (Config n) output media own ends = absurd own
  plays_all (Small small) output media own ends = absurd own
  plays_all Formatted output media own ends = absurd own
  plays_all InputFault output media own ends = absurd own
  plays_all (Feed n at) output media own ends = absurd own
  plays_all Place output media own ends = absurd own
  plays_all (PortFault group) output media own ends = absurd own
  plays_all (LinkFault link) output media own ends = absurd own
  plays_all (SaveRefused cause) output media own ends = absurd own
  plays_all Tick output media own ends = absurd own
  plays_all ExportKind output media own ends = absurd own
  plays_all ExportNothing output media own ends = absurd own
  plays_all (ExportMixed place) output media own ends = absurd own
  plays_all ExportLong output media own ends = absurd own
  plays_all (ExportPart number) output media own ends = absurd own
  plays_all (Missing place) output media own ends = absurd own
  plays_all (Capture number offset) output media own ends = absurd own
  plays_all (NoEvidence named offset) output media own ends = absurd own
