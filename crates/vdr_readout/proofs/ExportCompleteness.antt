-- By exclusion: what can be made is made, and what can't is refused by its own refusal.
use Rattle.std.proofs.Common.{◌≡◌, inl, inr, ⊎_elim, ℕ, List, Option, Some, None, Result, Ok, Err, refl, sym, ap, ◌∙◌, subst}
use Rattle.vdr_core.specs.Histories as histories
use Rattle.vdr_config.specs.Configuration.{Configuration}
use Rattle.vdr_opening.specs.Media.{Contents, HoldsParts, parts_of}
use Rattle.vdr_export.specs.declared.refused.ExportRefused.{ExportRefused}
use Rattle.vdr_export.specs.declared.refused.ExportRefused.TheVariants as exports
use Rattle.vdr_command.specs.Opened.{OneAnswer}
use Rattle.vdr_command.specs.Outside.{Outside}
use Rattle.vdr_command.specs.declared.status.Status.{Status}
use Rattle.vdr_command.specs.declared.status.Status.TheVariants.{Done, Words, Config, Small, Unformatted, Formatted, Damaged, MediaFault, PortFault, LinkFault, InputFault, OutputFault, NoMemory, Feed, NoChannel, NoIncident, SaveRefused, Place, Tick, ExportKind, ExportNothing, ExportMixed, ExportLong, ExportPart, Capture, NoEvidence, Missing}
use Rattle.vdr_command.proofs.OpenedCompleteness.{damaged_refused, memory_refused, opened_refused, unformatted_refused}
use Rattle.vdr_readout.specs.Exports.{ExportEnds, ExportsAll, IfRefusal, IsJudged, file_in, made_of, status_of_export}
use Rattle.vdr_readout.specs.Reads.{AskedPlay, LacksChannel, LacksIncident}
use Rattle.vdr_export.specs.declared.wish.Wish.{Wish}
use Rattle.vdr_readout.proofs.PlayCompleteness.{not_live, one_id}

some_none : {A : Type 0} (o : Option A) (a : A) → o ≡ Some a → o ≡ None → ⊥
some_none o a s n = cc

ok_err : {A B : Type 0} (r : Result A B) (a : A) (b : B) → r ≡ Ok a → r ≡ Err b → ⊥
ok_err r a b o e = cc

one_reason : (r : Result (List ℕ) ExportRefused) (x y : ExportRefused) → r ≡ Err x → r ≡ Err y → status_of_export (Err x) ≡ status_of_export (Err y)
one_reason r x y a b = let same : x ≡ y = cc in ap (λ (e : ExportRefused). status_of_export (Err e)) same

module _ {tells tells_images : Type 0} (wish : Wish) (asked : AskedPlay) (old new : Outside tells tells_images) (told : tells) (law : OneAnswer old.media.disk.reads) where
  lacks_too : (x y : Contents) → HoldsParts old.media.disk.reads x → HoldsParts old.media.disk.reads y → LacksChannel x.config asked.channel → LacksChannel y.config asked.channel
  lacks_too x y hx hy lacks = subst (λ (c : Configuration). LacksChannel c asked.channel) (law.config x y hx hy) lacks

  misses_too : (x y : Contents) → HoldsParts old.media.disk.reads x → HoldsParts old.media.disk.reads y → LacksIncident x.table asked.medium → LacksIncident y.table asked.medium
  misses_too x y hx hy lacks = subst (λ (table : List (Option histories.Incident)). LacksIncident table asked.medium) (law.table x y hx hy) lacks

  file_too : (x y : Contents) → HoldsParts old.media.disk.reads x → HoldsParts old.media.disk.reads y → file_in wish x.config asked.channel ≡ file_in wish y.config asked.channel
  file_too x y hx hy = ap (λ (c : Configuration). file_in wish c asked.channel) (law.config x y hx hy)

  -- A refusal of the file, which was told.
  refused_all : (status : Status) (why : ExportRefused) → status_of_export (Err why) ≡ status → ((P : ExportRefused → Type 0) → IfRefusal status P → P why) → IsJudged status → ExportEnds wish asked old new status
      → ExportsAll wish asked old.media.disk.reads status
  refused_all status why is of judged ends =
      let p = ends.openable judged told in
      record {
        refused = opened_refused old.media.disk.reads law status p.0 p.1 p.2 p.3;
        channel = λ x holds meet lacks. absurd (p.4.0.channel (lacks_too (parts_of x) p.1 (law.parts x holds) p.2 lacks));
        incident = λ x id holds meet there is none. absurd (p.4.0.incident (misses_too (parts_of x) p.1 (law.parts x holds) p.2 (not_live x.table asked.medium id is none)));
        kind = λ x holds meet can none. absurd (some_none (file_in wish x.config asked.channel) p.4.1.0 (file_too (parts_of x) p.1 (law.parts x holds) p.2 ∙ p.4.1.1) none);
        none = λ x file other holds meet fit can of_file made. inl (sym is ∙ one_reason (made_of x asked file) why other (of _ (ends.written x file told holds fit of_file).refused) made);
        done = λ x file bytes holds meet fit can of_file made. absurd (ok_err (made_of x asked file) bytes why made (of _ (ends.written x file told holds fit of_file).refused));
      }

  pub exports_all : (status : Status) → (status ≡ OutputFault → ⊥) → (status ≡ MediaFault → ⊥) → ExportEnds wish asked old new status → ExportsAll wish asked old.media.disk.reads status
  exports_all Done output media ends =
      let p = ends.openable tt told in
      record {
        refused = opened_refused old.media.disk.reads law Done p.0 p.1 p.2 p.3;
        channel = λ x holds meet lacks. absurd (p.4.0.channel (lacks_too (parts_of x) p.1 (law.parts x holds) p.2 lacks));
        incident = λ x id holds meet there is none. absurd (p.4.0.incident (misses_too (parts_of x) p.1 (law.parts x holds) p.2 (not_live x.table asked.medium id is none)));
        kind = λ x holds meet can none. absurd (some_none (file_in wish x.config asked.channel) p.4.1.0 (file_too (parts_of x) p.1 (law.parts x holds) p.2 ∙ p.4.1.1) none);
        none = λ x file why holds meet fit can of_file made. let w = (ends.written x file told holds fit of_file).done refl in absurd (ok_err (made_of x asked file) w.0 why w.1 made);
        done = λ x file bytes holds meet fit can of_file made. tt;
      }
  exports_all Unformatted output media ends =
      let un = (ends.media.media.unformatted refl).1 told in
      record {
        refused = unformatted_refused old.media.disk.reads un;
        channel = λ x holds meet lacks. absurd (law.formatted x holds un);
        incident = λ x id holds meet there is none. absurd (law.formatted x holds un);
        kind = λ x holds meet can none. absurd (law.formatted x holds un);
        none = λ x file why holds meet fit can of_file made. absurd (law.formatted x holds un);
        done = λ x file bytes holds meet fit can of_file made. absurd (law.formatted x holds un);
      }
  exports_all (Damaged k at) output media ends = ⊎_elim
      (λ refused. let r = refused.1 told in
      record {
        refused = damaged_refused old.media.disk.reads law k at r.0 r.1;
        channel = λ x holds meet lacks. absurd (law.either x k at holds meet r.1);
        incident = λ x id holds meet there is none. absurd (law.either x k at holds meet r.1);
        kind = λ x holds meet can none. absurd (law.either x k at holds meet r.1);
        none = λ x file why holds meet fit can of_file made. absurd (law.either x k at holds meet r.1);
        done = λ x file bytes holds meet fit can of_file made. absurd (law.either x k at holds meet r.1);
      })
      (λ irregular. let h = irregular told in
      let p = h.0 in
      record {
        refused = opened_refused old.media.disk.reads law (Damaged k at) p.0 p.1 p.2 p.3;
        channel = λ x holds meet lacks. absurd (p.4.0.0.channel (lacks_too (parts_of x) p.1 (law.parts x holds) p.2 lacks));
        incident = λ x id holds meet there is none. absurd (p.4.0.0.incident (misses_too (parts_of x) p.1 (law.parts x holds) p.2 (not_live x.table asked.medium id is none)));
        kind = λ x holds meet can none. absurd (some_none (file_in wish x.config asked.channel) p.4.0.1.0 (file_too (parts_of x) p.1 (law.parts x holds) p.2 ∙ p.4.0.1.1) none);
        none = λ x file why holds meet fit can of_file made. absurd (h.1 x holds fit);
        done = λ x file bytes holds meet fit can of_file made. absurd (h.1 x holds fit);
      })
      ends.damaged
  exports_all NoChannel output media ends =
      let h = ends.media.no_channel refl told in
      record {
        refused = opened_refused old.media.disk.reads law NoChannel h.0 h.1 h.2 h.3;
        channel = λ x holds meet lacks. inl refl;
        incident = λ x id holds meet there is none. absurd (there (lacks_too h.1 (parts_of x) h.2 (law.parts x holds) h.4));
        kind = λ x holds meet can none. absurd (can.channel (lacks_too h.1 (parts_of x) h.2 (law.parts x holds) h.4));
        none = λ x file why holds meet fit can of_file made. absurd (can.channel (lacks_too h.1 (parts_of x) h.2 (law.parts x holds) h.4));
        done = λ x file bytes holds meet fit can of_file made. absurd (can.channel (lacks_too h.1 (parts_of x) h.2 (law.parts x holds) h.4));
      }
  exports_all (NoIncident id) output media ends =
      let h = ends.media.no_incident.1 told in
      record {
        refused = opened_refused old.media.disk.reads law (NoIncident id) h.0 h.1 h.2 h.3;
        channel = λ x holds meet lacks. absurd (h.4.0 (lacks_too (parts_of x) h.1 (law.parts x holds) h.2 lacks));
        incident = λ x other holds meet there is none. inl (one_id asked.medium id other ends.media.no_incident.0 is);
        kind = λ x holds meet can none. absurd (can.incident (misses_too h.1 (parts_of x) h.2 (law.parts x holds) h.4.1));
        none = λ x file why holds meet fit can of_file made. absurd (can.incident (misses_too h.1 (parts_of x) h.2 (law.parts x holds) h.4.1));
        done = λ x file bytes holds meet fit can of_file made. absurd (can.incident (misses_too h.1 (parts_of x) h.2 (law.parts x holds) h.4.1));
      }
  exports_all NoMemory output media ends = record {
    refused = memory_refused old.media.disk.reads;
    channel = λ x holds meet lacks. inr refl;
    incident = λ x id holds meet there is none. inr refl;
    kind = λ x holds meet can none. inr refl;
    none = λ x file why holds meet fit can of_file made. inr refl;
    done = λ x file bytes holds meet fit can of_file made. tt;
  }
  exports_all ExportKind output media ends =
      let h = ends.kind refl told in
      record {
        refused = opened_refused old.media.disk.reads law ExportKind h.0 h.1 h.2 h.3;
        channel = λ x holds meet lacks. absurd (h.4.0.channel (lacks_too (parts_of x) h.1 (law.parts x holds) h.2 lacks));
        incident = λ x id holds meet there is none. absurd (h.4.0.incident (misses_too (parts_of x) h.1 (law.parts x holds) h.2 (not_live x.table asked.medium id is none)));
        kind = λ x holds meet can none. inl refl;
        none = λ x file why holds meet fit can of_file made. absurd (some_none (file_in wish x.config asked.channel) file of_file (file_too (parts_of x) h.1 (law.parts x holds) h.2 ∙ h.4.1));
        done = λ x file bytes holds meet fit can of_file made. absurd (some_none (file_in wish x.config asked.channel) file of_file (file_too (parts_of x) h.1 (law.parts x holds) h.2 ∙ h.4.1));
      }
  exports_all ExportNothing output media ends = refused_all ExportNothing exports.Nothing refl (λ P p. p) tt ends
  exports_all (ExportMixed place) output media ends = refused_all (ExportMixed place) (exports.Mixed place) refl (λ P p. p) tt ends
  exports_all ExportLong output media ends = refused_all ExportLong exports.Long refl (λ P p. p) tt ends
  exports_all (ExportPart number) output media ends = refused_all (ExportPart number) (exports.Part number) refl (λ P p. p) tt ends
  exports_all (Missing place) output media ends = absurd ends.own
  exports_all (Capture number offset) output media ends = absurd ends.own
  exports_all (NoEvidence named offset) output media ends = absurd ends.own
  exports_all MediaFault output media ends = absurd (media refl)
  exports_all OutputFault output media ends = absurd (output refl)
  exports_all Words output media ends = absurd ends.own
  exports_all (Config n) output media ends = absurd ends.own
  exports_all (Small small) output media ends = absurd ends.own
  exports_all Formatted output media ends = absurd ends.own
  exports_all InputFault output media ends = absurd ends.own
  exports_all (Feed n at) output media ends = absurd ends.own
  exports_all Place output media ends = absurd ends.own
  exports_all (PortFault group) output media ends = absurd ends.own
  exports_all (LinkFault link) output media ends = absurd ends.own
  exports_all (SaveRefused cause) output media ends = absurd ends.own
  exports_all Tick output media ends = absurd ends.own
