-- What `make` answers, from what its parts ensure.
use Rattle.std.specs.Prelude.{false, nat_lt, IsErrOf, All, ⊤, if◌then◌else◌}
use Rattle.std.specs.Io.KnownBytes.{IsAtEnd}
use Rattle.std.proofs.Common.{◌≡◌, ◌<◌, ◌⊎◌, inl, inr, ⊎_elim, ℕ, zero, suc, List, [], ◌∷◌, replicate, sum, Option, Some, None, Result, Ok, Err, refl, sym, ap, subst, ◌∙◌}
use Rattle.std.proofs.lemmas.Bool.{cond-false, le-ltb}
use Rattle.std.proofs.lemmas.List.Elements.{All-weaker}
use Rattle.vdr_terms.specs.Needs.{Sizes, Fits, needed_slots, slots_in}
use Rattle.vdr_outside.specs.Causes.{Rose}
use Rattle.vdr_outside.specs.Disk.{Image, Unchanged, content}
use Rattle.vdr_outside.specs.Moments.{Settled}
use Rattle.vdr_outside.specs.declared.media.Media.{Ghosts as MediaTells}
use Rattle.vdr_feed.specs.Reader.{IfKnown}
use Rattle.vdr_config.specs.declared.bad.ConfigBad.{ConfigBad}
use Rattle.vdr_config.specs.declared.media.TooSmall.{TooSmall}
use Rattle.vdr_config.specs.Configuration.{Configuration}
use Rattle.vdr_config.specs.Grammar.{configuration}
use Rattle.vdr_config.specs.Sizes.{fitting, sizes_of, too_small}
use Rattle.vdr_media.specs.Answers.{FormattedTested, KnownFormatted, KnownUnformatted, RoomTested, TextTested, room}
use Rattle.vdr_media.specs.Formatted.{members, IsEmptyHistoryOf, IsUnformatted}
use Rattle.vdr_media.specs.Formatting.{FormatsAtEachMoment}
use Rattle.vdr_media.specs.Layout.{IsClosedAt}
use Rattle.vdr_media.specs.Medium.{IsEmptyMedium}
use Rattle.vdr_media.specs.declared.refused.FormatRefused.{FormatRefused}
use Rattle.vdr_media.specs.declared.refused.FormatRefused.TheVariants as refusal
use Rattle.vdr_vault.proofs.OpenMoments.{never_both}
use Rattle.vdr_adapters.specs.Makers.{AreNew}
use Rattle.vdr_command.specs.Outside.{InputFailed, OutputSeen}
use Rattle.vdr_command.specs.Refusals.{number_of}
use Rattle.vdr_command.specs.StatusLine.{IsConfig}
use Rattle.vdr_command.specs.declared.status.Status.{Status}
use Rattle.vdr_command.specs.declared.status.Status.TheVariants.{Done, Words, Config, Small, Unformatted, Formatted, Damaged, MediaFault, PortFault, LinkFault, InputFault, OutputFault, NoMemory, Feed, NoChannel, NoIncident, SaveRefused, Place, Tick, ExportKind, ExportNothing, ExportMixed, ExportLong, ExportPart, Capture, NoEvidence, Missing}
use Rattle.vdr_tool.specs.Formats.{status_of}
use Rattle.vdr_tool.proofs.FormatLemmas.{known, one_configuration, same_refusal}
use Rattle.vdr_tool.proofs.Texts.{told_text}
use Rattle.vdr_live.specs.declared.asking.Unasked.{Unasked}
use Rattle.vdr_live.specs.declared.asking.Unasked.TheVariants as unasked
use Rattle.vdr_live.specs.Making.{IsFirstLacking, NoneFits}
use Rattle.vdr_live.specs.Makes.{AsksSizes, IsFormattedSince, MadeFailed, MakeOutside, MakeSays, MakerFailed, MakerSeen, MakesMedia, MakesAll}
use Rattle.vdr_live.specs.MakeParts.{AsksNone, MadeSays, unasked_status}

zeros_closed : (n : ℕ) → IsClosedAt (replicate n 0) 0
zeros_closed zero opened = let none : ⊥ = cc in none
zeros_closed (suc n) opened = let none : ⊥ = cc in none

-- Media of sizes with which the configuration fits have room for it.
has_room : (s : Sizes) (capsule long_term : ℕ) → Fits s 0 capsule → Fits s 1 long_term → fitting s (capsule ∷ long_term ∷ []) ≡ Ok tt
has_room s capsule long_term first second =
    let rest : Result ⊤ TooSmall = if nat_lt (slots_in s long_term) (needed_slots s 1) then Err (too_small s 1 long_term) else Ok tt in
    cond-false (nat_lt (slots_in s capsule) (needed_slots s 0)) (Err (too_small s 0 capsule)) rest (le-ltb (slots_in s capsule) (needed_slots s 0) first)
    ∙ cond-false (nat_lt (slots_in s long_term) (needed_slots s 1)) (Err (too_small s 1 long_term)) (Ok tt) (le-ltb (slots_in s long_term) (needed_slots s 1) second)

-- A text is no configuration and a refusal.
not_refused : {P : Type 0} (r : Result Configuration ConfigBad) (c : Configuration) (bad : ConfigBad) → r ≡ Ok c → r ≡ Err bad → P
not_refused r c bad is e = let clash : Ok c ≡ Err bad = sym is ∙ e in let none : ⊥ = cc in absurd none

-- Media as they were made for a text, and as formatting left them.
module _ {M : Type 0} (media : MediaTells M) (was now : MakerSeen) (text : List ℕ) (capsule long_term : ℕ) (asks : AsksSizes text capsule long_term)
    (old new : M) (fresh : AreNew capsule long_term (media.disk old)) (unfailed : sum (media.faults old) ≡ 0) where
  -- What they read as, and each image of them, is not formatted.
  zeros_unformatted : (image : Image) → content image 0 ≡ replicate capsule 0 → IsUnformatted image
  zeros_unformatted image is = inr (subst (λ (b : List ℕ). IsClosedAt b 0) (sym is) (zeros_closed capsule))

  unformatted_now : (image : Image) → (media.disk old).now image → IsUnformatted image
  unformatted_now image now =
      let told : media.tells = ((media.disk old).shown ((media.disk old).told image now)).0 in
      zeros_unformatted image (fresh.capsule_is.durable.each image now ∙ fresh.capsule_is.reads told)

  fits : room asks.config (media.disk old).sizes ≡ Ok tt
  fits = subst (λ (s : List ℕ). room asks.config s ≡ Ok tt) (sym fresh.sizes) (has_room (sizes_of asks.config) capsule long_term asks.capsule_is.0 asks.long_term_is.0)

  settled_as : (c : Configuration) (m : ℕ) → Settled m (IsEmptyMedium m c text) (media.disk new) → Settled m (IsEmptyMedium m asks.config text) (media.disk new)
  settled_as c m settled = record {
    durable = settled.durable;
    reads = λ told.
        let empty = settled.reads told in
        subst (λ (e : Configuration). IsEmptyMedium m e text (content (media.disk new).reads m)) (one_configuration (configuration text) c asks.config empty.holds.reads asks.is) empty;
  }

  since_made : FormatsAtEachMoment {T = ⊤} {E = FormatRefused} (media.disk old) (media.disk new) (Ok tt) (IsEmptyHistoryOf members text) → IsFormattedSince text (media.disk new)
  since_made (inl ends) = let none : ⊥ = cc in absurd none
  since_made (inr goes) = record {
    made = (media.disk old).clock;
    before_exit = goes.moments.later;
    since = λ i left. ⊎_elim (λ before. inl (unformatted_now i before)) (λ rest. rest) (goes.moments.each i left);
  }

  pub done_new : (was.taken → ⊥) → (media.disk new).sizes ≡ (media.disk old).sizes
      → (c : Configuration) × All (λ m. Settled m (IsEmptyMedium m c text) (media.disk new)) members
      → FormatsAtEachMoment {T = ⊤} {E = FormatRefused} (media.disk old) (media.disk new) (Ok tt) (IsEmptyHistoryOf members text)
      → MadeSays media was now text (Some new) Done
  done_new free sizes made moments = (
    free,
    record {
      capsule = capsule;
      long_term = long_term;
      asks = asks;
      are = record {
        sizes = sizes ∙ fresh.sizes;
        formatted = All-weaker (λ m. Settled m (IsEmptyMedium m made.0 text) (media.disk new)) (λ m. Settled m (IsEmptyMedium m asks.config text) (media.disk new)) (settled_as made.0) members made.1;
        moments = since_made moments;
      };
    },
  )

  pub refused_new : (r : FormatRefused) → TextTested (Err r) (configuration text)
      → FormattedTested (Err r) false (KnownFormatted (media.disk old)) (KnownUnformatted (media.disk old)) (Unchanged (media.disk old) (media.disk new))
      → ((c : Configuration) → configuration text ≡ Ok c → RoomTested (Err r) (room c (media.disk old).sizes) (Unchanged (media.disk old) (media.disk new)))
      → (IsErrOf {T = ⊤} {E = FormatRefused} (Err r) refusal.Fault → Rose (sum (media.faults old)) (sum (media.faults new)))
      → MadeSays media was now text (Some new) (status_of r)
  refused_new refusal.NoMemory tested formatted room_tested fault = tt
  refused_new (refusal.Config bad) tested formatted room_tested fault = not_refused (configuration text) asks.config bad asks.is tested
  refused_new refusal.AlreadyFormatted tested formatted room_tested fault =
      λ told. never_both (media.disk old).reads (formatted.1.1 told) (zeros_unformatted (media.disk old).reads (fresh.capsule_is.reads told))
  refused_new (refusal.TooSmall small) tested formatted room_tested fault =
      let clash : Ok tt ≡ Err small = sym fits ∙ room_tested asks.config asks.is in
      let none : ⊥ = cc in absurd none
  refused_new refusal.Fault tested formatted room_tested fault = inr (subst (λ (n : ℕ). Rose n (sum (media.faults new))) unfailed (fault refl))

-- The text that was read, and what is left of the input.
module _ {M : Type 0} (media : MediaTells M) (left : Option (List ℕ)) (text : List ℕ) (old new : MakeOutside) (made : Option M)
    (same : IfKnown left (λ bytes. configuration bytes ≡ configuration text))
    (whole : (c : Configuration) → configuration text ≡ Ok c → IfKnown left (λ bytes. bytes ≡ text)) where
  pub unasked_says : (why : Unasked) → AsksNone text old.output new.output why → MakeSays media left old new made (unasked_status why)
  unasked_says unasked.NoMemory none = tt
  unasked_says (unasked.Config number) none = (none.bad, none.number_is, told_text left text (Err none.bad) same none.is, none.wrote)
  unasked_says (unasked.Small small) none = known left text (λ c bytes. IsFirstLacking c small) none.0.config (whole none.0.config none.0.is) none.0.is none.0.lacking

  pub made_says : ((c : Configuration) → configuration text ≡ Ok c → IsAtEnd new.input.left) → (status : Status) → MadeSays media old.maker new.maker text made status → MakeSays media left old new made status
  made_says end Done says = record {
    free = says.0;
    at_end = end says.1.asks.config says.1.asks.is;
    text = text;
    whole = whole says.1.asks.config says.1.asks.is;
    makes = says.1;
  }
  made_says end Formatted says = says
  made_says end MediaFault says = says
  made_says end NoMemory says = tt
  made_says end Words says = absurd says
  made_says end (Config n) says = absurd says
  made_says end (Small small) says = absurd says
  made_says end Unformatted says = absurd says
  made_says end (Damaged m offset) says = absurd says
  made_says end (PortFault group) says = absurd says
  made_says end (LinkFault link) says = absurd says
  made_says end InputFault says = absurd says
  made_says end OutputFault says = absurd says
  made_says end (Feed n at) says = absurd says
  made_says end NoChannel says = absurd says
  made_says end (NoIncident id) says = absurd says
  made_says end (SaveRefused cause) says = absurd says
  made_says end Place says = absurd says
  made_says end Tick says = absurd says
  made_says end ExportKind says = absurd says
  made_says end ExportNothing says = absurd says
  made_says end (ExportMixed place) says = absurd says
  made_says end ExportLong says = absurd says
  made_says end (ExportPart number) says = absurd says
  made_says end (Capture number offset) says = absurd says
  made_says end (NoEvidence named offset) says = absurd says
  made_says end (Missing place) says = absurd says

-- What asks for no media writes nothing but its refusal.
pub unasked_silent : (text : List ℕ) (was next : OutputSeen) (why : Unasked) → AsksNone text was next why → IsConfig (unasked_status why) ⊎ (next ≡ was)
unasked_silent text was next unasked.NoMemory none = inr none
unasked_silent text was next (unasked.Config number) none = inl tt
unasked_silent text was next (unasked.Small small) none = inr none.1

-- By exclusion.
lacking_either : {P : Type 0} (c : Configuration) (small : TooSmall) (capsule long_term : ℕ) → IsFirstLacking c small → Fits (sizes_of c) 0 capsule → Fits (sizes_of c) 1 long_term → P
lacking_either c small capsule long_term lacking first second = ⊎_elim
    (λ zero_is. absurd (subst (λ (m : ℕ). NoneFits c m) zero_is lacking.none capsule first))
    (λ one. absurd (subst (λ (m : ℕ). NoneFits c m) one.0 lacking.none long_term second))
    lacking.first

module _ {M : Type 0} (media : MediaTells M) (old new : MakeOutside) (made : Option M)
    (input : InputFailed old.input new.input → ⊥) (maker : MakerFailed old.maker new.maker → ⊥) (call : MadeFailed media made → ⊥) where
  makes_all : (bytes : List ℕ) → media.tells → (status : Status) → MakeSays media (Some bytes) old new made status → MakesAll bytes status
  makes_all bytes told Done says =
      let asks = says.makes.asks in
      let is : configuration bytes ≡ Ok asks.config = ap configuration says.whole ∙ asks.is in
      record {
        refused = λ bad e. not_refused (configuration bytes) asks.config bad is e;
        small = λ c e either.
            let same = one_configuration (configuration bytes) c asks.config e is in
            absurd (⊎_elim
            (λ none. subst (λ (d : Configuration). NoneFits d 0) same none says.makes.capsule asks.capsule_is.0)
            (λ none. subst (λ (d : Configuration). NoneFits d 1) same none says.makes.long_term asks.long_term_is.0)
            either);
        done = λ c e capsule long_term first second. tt;
      }
  makes_all bytes told (Config n) says = record {
    refused = λ bad e. sym says.1 ∙ ap number_of (same_refusal (configuration bytes) says.0 bad says.2 e);
    small = λ c e either. not_refused (configuration bytes) c says.0 e says.2;
    done = λ c e capsule long_term first second. not_refused (configuration bytes) c says.0 e says.2;
  }
  makes_all bytes told (Small small) says = record {
    refused = λ bad e. not_refused (configuration bytes) says.0 bad says.1 e;
    small = λ c e either. inl (small, refl, subst (λ (d : Configuration). IsFirstLacking d small) (one_configuration (configuration bytes) says.0 c says.1 e) says.2);
    done = λ c e capsule long_term first second. lacking_either c small capsule long_term (subst (λ (d : Configuration). IsFirstLacking d small) (one_configuration (configuration bytes) says.0 c says.1 e) says.2) first second;
  }
  makes_all bytes told Formatted says = absurd (says told)
  makes_all bytes told MediaFault says = absurd (⊎_elim maker call says)
  makes_all bytes told InputFault says = absurd (input says)
  makes_all bytes told NoMemory says = record {
    refused = λ bad e. tt;
    small = λ c e either. inr refl;
    done = λ c e capsule long_term first second. tt;
  }
  makes_all bytes told Words says = absurd says
  makes_all bytes told Unformatted says = absurd says
  makes_all bytes told (Damaged m offset) says = absurd says
  makes_all bytes told (PortFault group) says = absurd says
  makes_all bytes told (LinkFault link) says = absurd says
  makes_all bytes told OutputFault says = absurd says
  makes_all bytes told (Feed n at) says = absurd says
  makes_all bytes told NoChannel says = absurd says
  makes_all bytes told (NoIncident id) says = absurd says
  makes_all bytes told (SaveRefused cause) says = absurd says
  makes_all bytes told Place says = absurd says
  makes_all bytes told Tick says = absurd says
  makes_all bytes told ExportKind says = absurd says
  makes_all bytes told ExportNothing says = absurd says
  makes_all bytes told (ExportMixed place) says = absurd says
  makes_all bytes told ExportLong says = absurd says
  makes_all bytes told (ExportPart number) says = absurd says
  makes_all bytes told (Capture number offset) says = absurd says
  makes_all bytes told (NoEvidence named offset) says = absurd says
  makes_all bytes told (Missing place) says = absurd says

  makes_known : (left : Option (List ℕ)) (status : Status) → MakeSays media left old new made status → IfKnown left (λ bytes. media.tells → MakesAll bytes status)
  makes_known None status says = tt
  makes_known (Some bytes) status says = λ told. makes_all bytes told status says

pub makes : {M : Type 0} (media : MediaTells M) (old new : MakeOutside) (made : Option M) (status : Status) → MakeSays media old.input.left old new made status → (old.maker.faults < new.maker.faults → status ≡ MediaFault)
    → (status ≡ Done) ⊎ (old.maker.stands ≡ false → new.maker.stands ≡ false) → IsConfig status ⊎ (new.output ≡ old.output) → MakesMedia media old new made status
makes media old new made status says failed left silent = record {
  says = says;
  failed = failed;
  left = left;
  silent = silent;
  complete = λ input maker call. makes_known media old new made input maker call old.input.left status says;
}
