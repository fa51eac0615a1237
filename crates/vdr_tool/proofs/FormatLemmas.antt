-- What `format` answers, from what the call on the media ensures.
use Rattle.std.specs.Prelude.{Bool, true, false, IsOk, IsErrOf, All, ⊤}
use Rattle.std.proofs.Common.{◌≡◌, ◌⊎◌, inl, inr, ℕ, List, Option, Some, None, Result, Ok, Err, refl, sym, ap, subst, ◌∙◌}
use Rattle.std.proofs.lemmas.List.Elements.{All-weaker}
use Rattle.vdr_outside.specs.Disk.{Image, Unchanged, content}
use Rattle.vdr_outside.specs.Moments.{AtEachMoment, Settled}
use Rattle.vdr_feed.specs.Reader.{IfKnown}
use Rattle.vdr_config.specs.declared.bad.ConfigBad.{ConfigBad}
use Rattle.vdr_config.specs.declared.media.TooSmall.{TooSmall}
use Rattle.vdr_config.specs.Configuration.{Configuration}
use Rattle.vdr_config.specs.Grammar.{configuration}
use Rattle.vdr_media.specs.Answers.{TextTested, FormattedTested, RoomTested, IfRefused, KnownFormatted, KnownUnformatted, room}
use Rattle.vdr_media.specs.Formatted.{members, IsFormatted, IsUnformatted, IsEmptyHistoryOf, SameBeside}
use Rattle.vdr_media.specs.Formatting.{FormatsAtEachMoment}
use Rattle.vdr_media.specs.Medium.{IsEmptyMedium}
use Rattle.vdr_media.specs.declared.refused.FormatRefused.{FormatRefused}
use Rattle.vdr_media.specs.declared.refused.FormatRefused.TheVariants as refusal
use Rattle.vdr_command.specs.Refusals.{RefusesConfig, number_of}
use Rattle.vdr_vault.proofs.OpenMoments.{never_both}
use Rattle.vdr_tool.specs.Formats.{FormatEnds, FormatsAll, IfBad, IfConfiguration, status_of}
use Rattle.vdr_command.specs.Outside.{MediaFailed, MediaSeen, OutputSeen}
use Rattle.vdr_command.specs.StatusLine.{IfConfig}
use Rattle.vdr_command.specs.declared.status.Status.{Status}
use Rattle.vdr_command.specs.declared.status.Status.TheVariants.{Done, Words, Config, Small, Unformatted, Formatted, Damaged, MediaFault, PortFault, LinkFault, InputFault, OutputFault, NoMemory, Feed, NoChannel, NoIncident, SaveRefused, Place, Tick, ExportKind, ExportNothing, ExportMixed, ExportLong, ExportPart, Capture, NoEvidence, Missing}

-- The configuration that a text is.
pub read_as : (r : Result Configuration ConfigBad) → IsOk r → (c : Configuration) × (r ≡ Ok c)
read_as (Ok c) is = (c, refl)
read_as (Err bad) is = let none : ⊥ = cc in absurd none

bad_of : ConfigBad → Result Configuration ConfigBad → ConfigBad
bad_of other (Ok c) = other
bad_of other (Err bad) = bad

-- A text has one refusal.
pub same_refusal : (r : Result Configuration ConfigBad) (a b : ConfigBad) → r ≡ Err a → r ≡ Err b → a ≡ b
unfolding bad_of
same_refusal r a b d e = ap (bad_of a) (sym d ∙ e)

ok_of : Configuration → Result Configuration ConfigBad → Configuration
ok_of other (Ok c) = c
ok_of other (Err bad) = other

-- A text is one configuration.
pub one_configuration : (r : Result Configuration ConfigBad) (c d : Configuration) → r ≡ Ok c → r ≡ Ok d → c ≡ d
unfolding ok_of
one_configuration r c d is also = ap (ok_of c) (sym is ∙ also)

-- The line of a configuration's refusal names its key.
pub config_of_refusal : (r : FormatRefused) (P W : ConfigBad → Type 0) (text : Result Configuration ConfigBad)
    → TextTested (Err r) text → ((bad : ConfigBad) → text ≡ Err bad → P bad) → IfBad r W
    → IfConfig (status_of r) (λ number. (bad : ConfigBad) × (number_of bad ≡ number) × P bad × W bad)
config_of_refusal refusal.NoMemory P W text tested refused wrote = tt
config_of_refusal (refusal.Config bad) P W text tested refused wrote = (bad, refl, refused bad tested, wrote)
config_of_refusal refusal.AlreadyFormatted P W text tested refused wrote = tt
config_of_refusal (refusal.TooSmall small) P W text tested refused wrote = tt
config_of_refusal refusal.Fault P W text tested refused wrote = tt

-- The status of a refusal is none of these.
pub not_done : (r : FormatRefused) → status_of r ≡ Done → ⊥
not_done refusal.NoMemory is = cc
not_done (refusal.Config bad) is = cc
not_done refusal.AlreadyFormatted is = cc
not_done (refusal.TooSmall small) is = cc
not_done refusal.Fault is = cc

-- The text that was read is all of an input that is a configuration.
pub known : (left : Option (List ℕ)) (text : List ℕ) (P : Configuration → List ℕ → Type 0) (c : Configuration)
    → IfKnown left (λ bytes. bytes ≡ text) → configuration text ≡ Ok c → P c text → IfConfiguration left P
known None text P c whole is p = tt
known (Some bytes) text P c whole is p = (c, ap configuration whole ∙ is, subst (P c) (sym whole) p)

module _ {tells tells_images : Type 0} (again : Bool) (left : Option (List ℕ)) (text : List ℕ) (old new : MediaSeen tells tells_images)
    (whole : (c : Configuration) → configuration text ≡ Ok c → IfKnown left (λ bytes. bytes ≡ text))
    (others : tells → SameBeside members (λ image. image ≡ old.disk.reads) new.disk.reads)
    (meanwhile : AtEachMoment old.disk new.disk (SameBeside members old.disk.now)) where
  abbrev IsNew : Image → Type 0
  IsNew = IsEmptyHistoryOf members text

  -- A failure is told by the command as by the call.
  failed_moments : (r : FormatRefused) → FormatsAtEachMoment {T = ⊤} {E = FormatRefused} old.disk new.disk (Err r) IsNew → FormatsAtEachMoment {T = ⊤} {E = Status} old.disk new.disk (Err MediaFault) IsNew
  failed_moments r (inl ends) = inl (record { failed = refl; moments = ends.moments })
  failed_moments r (inr goes) = inr goes

  done_moments : FormatsAtEachMoment {T = ⊤} {E = FormatRefused} old.disk new.disk (Ok tt) IsNew → FormatsAtEachMoment {T = ⊤} {E = Status} old.disk new.disk (Ok tt) IsNew
  done_moments (inl ends) = let none : ⊥ = cc in absurd none
  done_moments (inr goes) = inr goes

  -- Media of the text's configuration.
  settled_as : (m : ℕ) (c d : Configuration) → configuration text ≡ Ok d → Settled m (IsEmptyMedium m c text) new.disk → Settled m (IsEmptyMedium m d text) new.disk
  settled_as m c d is settled = record {
    durable = settled.durable;
    reads = λ told. let empty = settled.reads told in subst (λ (e : Configuration). IsEmptyMedium m e text (content new.disk.reads m)) (one_configuration (configuration text) c d empty.holds.reads is) empty;
  }

  -- A refusal of the media's call.
  pub refused_answers : (r : FormatRefused) → TextTested (Err r) (configuration text)
      → FormattedTested (Err r) again (KnownFormatted old.disk) (KnownUnformatted old.disk) (Unchanged old.disk new.disk)
      → ((c : Configuration) → configuration text ≡ Ok c → RoomTested (Err r) (room c old.disk.sizes) (Unchanged old.disk new.disk))
      → IfRefused (Err r) (Unchanged old.disk new.disk) → (IsErrOf {T = ⊤} {E = FormatRefused} (Err r) refusal.Fault → MediaFailed old new) → FormatsAtEachMoment {T = ⊤} {E = FormatRefused} old.disk new.disk (Err r) IsNew
      → FormatEnds again left old new (status_of r)
  refused_answers refusal.NoMemory tested formatted fits untouched fault moments = record {
    formatted = λ is. let none : ⊥ = cc in absurd none;
    small = tt;
    fault = λ is. let none : ⊥ = cc in absurd none;
    untouched = inr (inr untouched);
    done = λ is. let none : ⊥ = cc in absurd none;
    own = tt;
    others = others;
    others_meanwhile = meanwhile;
    moments = λ either. absurd (elim either [ inl is ↦ cc | inr is ↦ cc ]);
    leaves = λ either. absurd (elim either [ inl is ↦ cc | inr is ↦ cc ]);
  }
  refused_answers (refusal.Config bad) tested formatted fits untouched fault moments = record {
    formatted = λ is. let none : ⊥ = cc in absurd none;
    small = tt;
    fault = λ is. let none : ⊥ = cc in absurd none;
    untouched = inr (inr untouched);
    done = λ is. let none : ⊥ = cc in absurd none;
    own = tt;
    others = others;
    others_meanwhile = meanwhile;
    moments = λ either. absurd (elim either [ inl is ↦ cc | inr is ↦ cc ]);
    leaves = λ either. absurd (elim either [ inl is ↦ cc | inr is ↦ cc ]);
  }
  refused_answers refusal.AlreadyFormatted tested formatted fits untouched fault moments =
      let c = read_as (configuration text) tested in
      record {
        formatted = λ is. (formatted.0, known left text (λ d bytes. ⊤) c.0 (whole c.0 c.1) c.1 tt, formatted.1);
        small = tt;
        fault = λ is. let none : ⊥ = cc in absurd none;
        untouched = inr (inr untouched);
        done = λ is. let none : ⊥ = cc in absurd none;
        own = tt;
        others = others;
        others_meanwhile = meanwhile;
        moments = λ either. absurd (elim either [ inl is ↦ cc | inr is ↦ cc ]);
        leaves = λ either. absurd (elim either [ inl is ↦ cc | inr is ↦ cc ]);
      }
  refused_answers (refusal.TooSmall small) tested formatted fits untouched fault moments =
      let c = read_as (configuration text) tested in
      record {
        formatted = λ is. let none : ⊥ = cc in absurd none;
        small = (known left text (λ d bytes. room d old.disk.sizes ≡ Err small) c.0 (whole c.0 c.1) c.1 (fits c.0 c.1), formatted);
        fault = λ is. let none : ⊥ = cc in absurd none;
        untouched = inr (inr untouched);
        done = λ is. let none : ⊥ = cc in absurd none;
        own = tt;
        others = others;
        others_meanwhile = meanwhile;
        moments = λ either. absurd (elim either [ inl is ↦ cc | inr is ↦ cc ]);
        leaves = λ either. absurd (elim either [ inl is ↦ cc | inr is ↦ cc ]);
      }
  refused_answers refusal.Fault tested formatted fits untouched fault moments =
      let c = read_as (configuration text) tested in
      record {
        formatted = λ is. let none : ⊥ = cc in absurd none;
        small = tt;
        fault = λ is. fault refl;
        untouched = inr (inl refl);
        done = λ is. let none : ⊥ = cc in absurd none;
        own = tt;
        others = others;
        others_meanwhile = meanwhile;
        moments = λ either. known left text (λ d bytes. FormatsAtEachMoment {T = ⊤} {E = Status} old.disk new.disk (Err MediaFault) (IsEmptyHistoryOf members bytes)) c.0 (whole c.0 c.1) c.1
            (failed_moments refusal.Fault moments);
        leaves = λ either. (text, failed_moments refusal.Fault moments);
      }

  -- A success of the media's call.
  pub done_answers : TextTested (Ok tt) (configuration text)
      → FormattedTested (Ok tt) again (KnownFormatted old.disk) (KnownUnformatted old.disk) (Unchanged old.disk new.disk)
      → ((c : Configuration) → configuration text ≡ Ok c → RoomTested (Ok tt) (room c old.disk.sizes) (Unchanged old.disk new.disk))
      → (c : Configuration) × All (λ m. Settled m (IsEmptyMedium m c text) new.disk) members
      → FormatsAtEachMoment {T = ⊤} {E = FormatRefused} old.disk new.disk (Ok tt) IsNew
      → FormatEnds again left old new Done
  done_answers tested formatted fits made moments =
      let c = read_as (configuration text) tested in
      record {
        formatted = λ is. let none : ⊥ = cc in absurd none;
        small = tt;
        fault = λ is. let none : ⊥ = cc in absurd none;
        untouched = inl refl;
        done = λ is. (
          formatted,
          known left text (λ d bytes. (room d old.disk.sizes ≡ Ok tt) × All (λ m. Settled m (IsEmptyMedium m d bytes) new.disk) members)
              c.0 (whole c.0 c.1) c.1 (fits c.0 c.1, All-weaker (λ m. Settled m (IsEmptyMedium m made.0 text) new.disk) (λ m. Settled m (IsEmptyMedium m c.0 text) new.disk) (λ m. settled_as m made.0 c.0 c.1) members made.1),
        );
        own = tt;
        others = others;
        others_meanwhile = meanwhile;
        moments = λ either. known left text (λ d bytes. FormatsAtEachMoment {T = ⊤} {E = Status} old.disk new.disk (Ok tt) (IsEmptyHistoryOf members bytes)) c.0 (whole c.0 c.1) c.1 (done_moments moments);
        leaves = λ either. (text, done_moments moments);
      }

not_again : (again : Bool) (image : Image) → (again ≡ true) ⊎ IsUnformatted image → again ≡ false → IsFormatted image → ⊥
not_again again image (inl told) first is = let clash : true ≡ false = sym told ∙ first in cc
not_again again image (inr un) first is = never_both image is un

-- Media are too small in one way.
pub one_small : (s t : TooSmall) (r : Result ⊤ TooSmall) → r ≡ Err s → r ≡ Err t → Small s ≡ Small t
one_small s t r is also = let same : Err s ≡ Err t = sym is ∙ also in cc

-- By exclusion: what may be formatted is, and what may not is refused by its own refusal.
module _ {tells tells_images : Type 0} (again : Bool) (bytes : List ℕ) (old new : MediaSeen tells tells_images) (told : tells) where
  -- A text is no configuration and a refusal.
  not_refused : {P : Type 0} → (c : Configuration) → configuration bytes ≡ Ok c → (bad : ConfigBad) → configuration bytes ≡ Err bad → P
  not_refused c is bad e = absurd (let clash : Ok c ≡ Err bad = sym is ∙ e in cc)

  -- Of the text's configuration the media have room, or not, in one way.
  one_room : (c d : Configuration) (r : Result ⊤ TooSmall) → configuration bytes ≡ Ok c → configuration bytes ≡ Ok d → room c old.disk.sizes ≡ r → room d old.disk.sizes ≡ r
  one_room c d r is also fits = subst (λ (e : Configuration). room e old.disk.sizes ≡ r) (one_configuration (configuration bytes) c d is also) fits

  pub formats_all : (was next : OutputSeen) (status : Status) → (status ≡ InputFault → ⊥) → (status ≡ MediaFault → ⊥)
      → FormatEnds again (Some bytes) old new status
      → RefusesConfig status (Some bytes) was next
      → FormatsAll again bytes old.disk status
  formats_all was next Done input media answers config =
      let is = answers.done refl in
      let c = is.1 in
      record {
        refused = λ bad e. not_refused c.0 c.1 bad e;
        formatted = λ d e first formatted. absurd (never_both old.disk.reads formatted (is.0 first told));
        small = λ d e may small short. absurd (let clash : Ok tt ≡ Err small = sym (one_room c.0 d (Ok tt) c.1 e c.2.0) ∙ short in cc);
        done = λ d e may fits. tt;
      }
  formats_all was next Words input media answers config = absurd answers.own
  formats_all was next (Config n) input media answers config = record {
    refused = λ bad e. sym config.1 ∙ ap number_of (same_refusal (configuration bytes) config.0 bad config.2 e);
    formatted = λ d e first formatted. not_refused d e config.0 config.2;
    small = λ d e may small short. not_refused d e config.0 config.2;
    done = λ d e may fits. not_refused d e config.0 config.2;
  }
  formats_all was next (Small small) input media answers config =
      let c = answers.small.0 in
      record {
        refused = λ bad e. not_refused c.0 c.1 bad e;
        formatted = λ d e first formatted. absurd (never_both old.disk.reads formatted (answers.small.1 first told));
        small = λ d e may other short. inl (one_small small other (room d old.disk.sizes) (one_room c.0 d (Err small) c.1 e c.2) short);
        done = λ d e may fits. absurd (let clash : Err small ≡ Ok tt = sym (one_room c.0 d (Err small) c.1 e c.2) ∙ fits in cc);
      }
  formats_all was next Unformatted input media answers config = absurd answers.own
  formats_all was next (Damaged m offset) input media answers config = absurd answers.own
  formats_all was next NoChannel input media answers config = absurd answers.own
  formats_all was next (NoIncident id) input media answers config = absurd answers.own
  formats_all was next Place input media answers config = absurd answers.own
  formats_all was next (PortFault group) input media answers config = absurd answers.own
  formats_all was next (LinkFault link) input media answers config = absurd answers.own
  formats_all was next (SaveRefused cause) input media answers config = absurd answers.own
  formats_all was next Tick input media answers config = absurd answers.own
  formats_all was next ExportKind input media answers config = absurd answers.own
  formats_all was next ExportNothing input media answers config = absurd answers.own
  formats_all was next (ExportMixed place) input media answers config = absurd answers.own
  formats_all was next ExportLong input media answers config = absurd answers.own
  formats_all was next (ExportPart number) input media answers config = absurd answers.own
  formats_all was next (Missing place) input media answers config = absurd answers.own
  formats_all was next (Capture number offset) input media answers config = absurd answers.own
  formats_all was next (NoEvidence named offset) input media answers config = absurd answers.own
  formats_all was next Formatted input media answers config =
      let is = answers.formatted refl in
      let c = is.1 in
      record {
        refused = λ bad e. not_refused c.0 c.1 bad e;
        formatted = λ d e first formatted. inl refl;
        small = λ d e may small short. absurd (not_again again old.disk.reads may is.0 (is.2.1 told));
        done = λ d e may fits. absurd (not_again again old.disk.reads may is.0 (is.2.1 told));
      }
  formats_all was next MediaFault input media answers config = absurd (media refl)
  formats_all was next InputFault input media answers config = absurd (input refl)
  formats_all was next OutputFault input media answers config = absurd answers.own
  formats_all was next NoMemory input media answers config =
      record { refused = λ bad e. tt; formatted = λ d e first formatted. inr refl; small = λ d e may small short. inr refl; done = λ d e may fits. tt }
  formats_all was next (Feed n at) input media answers config = absurd answers.own

pub formats_known : {tells tells_images : Type 0} (again : Bool) (left : Option (List ℕ)) (old new : MediaSeen tells tells_images) (was next : OutputSeen) (status : Status)
    → (status ≡ InputFault → ⊥) → (status ≡ MediaFault → ⊥) → FormatEnds again left old new status → RefusesConfig status left was next
    → IfKnown left (λ bytes. tells → FormatsAll again bytes old.disk status)
formats_known again None old new was next status input media ends config = tt
formats_known again (Some bytes) old new was next status input media ends config = λ told. formats_all again bytes old new told was next status input media ends config
