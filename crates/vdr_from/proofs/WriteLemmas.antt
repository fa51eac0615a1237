-- What file a command makes of the records of a stored file, from what each of its calls says.
use Rattle.std.proofs.Common.{◌≡◌, ◌⊎◌, ◌∙◌, inl, inr, ⊎_elim, ℕ, List, [], ◌∷◌, length, Bool, true, false, if◌then◌else◌, Option, Some, None, Result, Ok, Err, refl, sym, ap, subst}
use Rattle.std.specs.Bool.{⊤}
use Rattle.std.specs.Prelude.{IfErr, OnOk, nat_le}
use Rattle.std.specs.List.{flat_map}
use Rattle.std.specs.Io.KnownBytes.{Appends}
use Rattle.vdr_terms.specs.Queries.{Query}
use Rattle.vdr_terms.specs.Records.{Record}
use Rattle.vdr_config.specs.Configuration.{Configuration}
use Rattle.vdr_export.specs.Answers.{FileEnds, IsFailure, MayBeBegun, data_of, file_of, first_missing, joined, picture_of, size_of, unless_long, unless_mixed, unless_part, wave_with}
use Rattle.vdr_export.specs.Numbers.{mixed_at}
use Rattle.vdr_export.specs.Pictures.{Shown, bodies, greatest_of, shown}
use Rattle.vdr_export.specs.Sounds.{Heard, heard, rates_of, sound}
use Rattle.vdr_export.specs.Waves.{most_bytes}
use Rattle.vdr_export.specs.declared.timing.Timing.{Timing}
use Rattle.vdr_export.specs.declared.wave.WaveSize.{WaveSize}
use Rattle.vdr_export.specs.declared.file.File.{File}
use Rattle.vdr_export.specs.declared.file.File.TheVariants as files
use Rattle.vdr_export.specs.declared.refused.ExportRefused.{ExportRefused}
use Rattle.vdr_export.specs.declared.refused.ExportRefused.TheVariants as exports
use Rattle.vdr_verify.specs.Stored.{ReadsFile}
use Rattle.vdr_verify.specs.Visiting.{IsLeftWhole}
use Rattle.vdr_verify.specs.declared.evidence.Evidence.{Evidence}
use Rattle.vdr_verify.specs.declared.refused.VerifyRefused.{VerifyRefused}
use Rattle.vdr_verify.specs.declared.refused.VerifyRefused.TheVariants as refusals
use Rattle.vdr_command.specs.Outside.{OutputFailed, OutputSeen, Prints, Writes}
use Rattle.vdr_command.specs.StatusLine.{channel_line}
use Rattle.vdr_command.specs.declared.status.Status.TheVariants.{ExportKind, NoChannel}
use Rattle.vdr_export.specs.Wishes.{kind_at, wished}
use Rattle.vdr_readout.specs.Exports.{file_in}
use Rattle.vdr_readout.specs.Reads.{AskedPlay, LacksChannel, query_of}
use Rattle.vdr_export.specs.declared.wish.Wish.{Wish}
use Rattle.vdr_tool.specs.Verifying.{status_of_verify}
use Rattle.vdr_from.specs.Held.{IsKept, records_held}
use Rattle.vdr_from.specs.Stops.{status_of_file}
use Rattle.vdr_from.specs.Writings.{IsBegunFile, IsNone, ShowsFile, WritesHeld}
use Rattle.vdr_from.proofs.HeldLemmas.{HoldsSo, holds_so, selects_so}
use Rattle.vdr_from.proofs.TellLemmas.{stops_told}

one_file : (o : Option File) (f g : File) → o ≡ Some f → o ≡ Some g → f ≡ g
one_file o f g a b = cc

-- ---- no file is refused for damage by itself

mixed_undamaged : {T : Type 0} (m offset : ℕ) (o : Option ℕ) (answer : Result T ExportRefused) → (answer ≡ Err (exports.Damaged m offset) → ⊥) → unless_mixed o answer ≡ Err (exports.Damaged m offset) → ⊥
mixed_undamaged m offset None answer never e = never e
mixed_undamaged m offset (Some place) answer never e = cc

long_undamaged : (m offset rate bytes : ℕ) (b : Bool) → ◌≡◌ {A = Result WaveSize ExportRefused} (if b then Ok (record { rate = rate; bytes = bytes }) else Err exports.Long) (Err (exports.Damaged m offset)) → ⊥
long_undamaged m offset rate bytes true e = cc
long_undamaged m offset rate bytes false e = cc

size_undamaged : (m offset : ℕ) (timing : Timing) (hs : List Heard) → size_of timing hs ≡ Err (exports.Damaged m offset) → ⊥
size_undamaged m offset timing [] e = cc
size_undamaged m offset timing (h ∷ hs) e =
    mixed_undamaged m offset (mixed_at (rates_of (h ∷ hs))) (unless_long h.frame.rate (length (sound timing (h ∷ hs))))
    (long_undamaged m offset h.frame.rate (length (sound timing (h ∷ hs))) (nat_le (length (sound timing (h ∷ hs))) most_bytes)) e

wave_undamaged : (m offset : ℕ) (timing : Timing) (hs : List Heard) (size : Result WaveSize ExportRefused) → (size ≡ Err (exports.Damaged m offset) → ⊥) → wave_with timing hs size ≡ Err (exports.Damaged m offset) → ⊥
wave_undamaged m offset timing hs (Ok size) never e = cc
wave_undamaged m offset timing hs (Err why) never e = never (same_why why (exports.Damaged m offset) e)
  where
    same_why : (x y : ExportRefused) → ◌≡◌ {A = Result (List ℕ) ExportRefused} (Err x) (Err y) → ◌≡◌ {A = Result WaveSize ExportRefused} (Err x) (Err y)
    same_why x y e = cc

part_undamaged : (m offset : ℕ) (o : Option ℕ) (all : List ℕ) → ◌≡◌ {A = Result (List ℕ) ExportRefused} (unless_part o (Ok all)) (Err (exports.Damaged m offset)) → ⊥
part_undamaged m offset None all e = cc
part_undamaged m offset (Some number) all e = cc

picture_undamaged : (m offset : ℕ) (ps : List Shown) → picture_of ps ≡ Err (exports.Damaged m offset) → ⊥
picture_undamaged m offset [] e = cc
picture_undamaged m offset (p ∷ ps) e =
    mixed_undamaged m offset (mixed_at (greatest_of (p ∷ ps))) (joined (bodies p.header.greatest (p ∷ ps)))
    (part_undamaged m offset (first_missing 1 (bodies p.header.greatest (p ∷ ps))) (flat_map data_of (bodies p.header.greatest (p ∷ ps)))) e

file_undamaged : (m offset : ℕ) (file : File) (records : List Record) → file_of file records ≡ Err (exports.Damaged m offset) → ⊥
file_undamaged m offset (files.Sound microphone timing) records e =
    wave_undamaged m offset timing (heard microphone records) (size_of timing (heard microphone records)) (size_undamaged m offset timing (heard microphone records)) e
file_undamaged m offset (files.Picture block) records e = picture_undamaged m offset (shown block records) e
file_undamaged m offset files.Listing records e = cc

module _ (whole : Option (List ℕ)) (wish : Wish) (asked : AskedPlay) (was next : OutputSeen) where
  -- The file was not read to its end, or is no evidence.
  refused_shows : (refused : VerifyRefused) → ReadsFile whole (Err refused) → next ≡ was → ShowsFile whole wish asked was next (status_of_verify refused)
  refused_shows refusals.Input is same = inl same
  refused_shows refusals.Output is same = absurd is
  refused_shows refusals.NoMemory is same = inl same
  refused_shows (refusals.Illegal named offset) is same = inl (stops_told whole named offset was next same is)

  pub refused_writes : (refused : VerifyRefused) → ReadsFile whole (Err refused) → next ≡ was → WritesHeld whole wish asked was next (status_of_verify refused)
  refused_writes refused is same = record { shown = refused_shows refused is same }

  module _ (kept : Evidence) (kept_is : IsKept whole kept) where
    channel_shows : LacksChannel kept.head.config asked.channel → Writes (channel_line asked.channel) was next → ShowsFile whole wish asked was next NoChannel
    channel_shows lacks wrote = (
      wrote,
      λ bytes known.
          let h = holds_so whole kept kept_is bytes known in
          (h.x, h.is, subst (λ (c : Configuration). LacksChannel c asked.channel) (sym h.config_is) lacks),
    )

    pub channel_writes : LacksChannel kept.head.config asked.channel → Writes (channel_line asked.channel) was next → WritesHeld whole wish asked was next NoChannel
    channel_writes lacks wrote = record { shown = channel_shows lacks wrote }

    module _ (query : Query) (query_is : query ≡ query_of kept.head.config asked.medium asked.channel asked.from asked.to) where
      kind_is : (bytes : List ℕ) (h : HoldsSo whole kept bytes) → wished wish (kind_at kept.head.config.channels query.channel) ≡ file_in wish h.x.config asked.channel
      kind_is bytes h = ap (λ (q : Query). wished wish (kind_at kept.head.config.channels q.channel)) query_is ∙ ap (λ (c : Configuration). file_in wish c asked.channel) (sym h.config_is)

      -- The channel is of another kind.
      kind_shows : wished wish (kind_at kept.head.config.channels query.channel) ≡ None → next ≡ was → ShowsFile whole wish asked was next ExportKind
      kind_shows none same = (
        same,
        λ bytes known.
            let h = holds_so whole kept kept_is bytes known in
            (h.x, h.is, sym (kind_is bytes h) ∙ none),
      )

      pub kind_writes : wished wish (kind_at kept.head.config.channels query.channel) ≡ None → next ≡ was → WritesHeld whole wish asked was next ExportKind
      kind_writes none same = record { shown = kind_shows none same }

      -- A file was to be made.
      module _ (file : File) (file_is : wished wish (kind_at kept.head.config.channels query.channel) ≡ Some file) where
        its : (bytes : List ℕ) (h : HoldsSo whole kept bytes) → file_in wish h.x.config asked.channel ≡ Some file
        its bytes h = sym (kind_is bytes h) ∙ file_is

        module _ (written : Result ⊤ ExportRefused) (ends : (records : List Record) → IsLeftWhole whole kept query records → FileEnds (file_of file records) was.taken next.taken written) where
          ends_so : (bytes : List ℕ) (h : HoldsSo whole kept bytes) → FileEnds (file_of file (records_held h.x asked)) was.taken next.taken written
          ends_so bytes h = ends (records_held h.x asked) (selects_so whole kept asked query query_is bytes h)

          begun : IsBegunFile whole wish asked was next
          begun bytes known =
              let h = holds_so whole kept kept_is bytes known in
              (h.x, h.is, λ f bs made. (ends_so bytes h).front bs (subst (λ (g : File). file_of g (records_held h.x asked) ≡ Ok bs) (one_file _ f file made.0 (its bytes h)) made.1))

          -- It was refused, for no failure.
          none_so : (why : ExportRefused) → written ≡ Err why → (IsFailure (Err why) → ⊥) → (bytes : List ℕ) (h : HoldsSo whole kept bytes) → file_of file (records_held h.x asked) ≡ Err why
          none_so why is own bytes h = by (file_of file (records_held h.x asked)) refl
            where
              same_why : (r : Result ⊤ ExportRefused) (x y : ExportRefused) → r ≡ Err x → r ≡ Err y → x ≡ y
              same_why r x y a b = cc

              by : (made : Result (List ℕ) ExportRefused) → file_of file (records_held h.x asked) ≡ made → made ≡ Err why
              by (Ok bs) e = absurd (⊎_elim (λ (done : written ≡ Ok tt). let clash : Ok tt ≡ Err why = sym done ∙ is in let none : ⊥ = cc in none) (λ failed. own (subst IsFailure is failed)) ((ends_so bytes h).done bs e))
              by (Err w) e = ⊎_elim (λ (same : written ≡ Err w). ap (λ (e : ExportRefused). Err e) (same_why written w why same is)) (λ failed. absurd (own (subst IsFailure is failed))) ((ends_so bytes h).refused w e)

          made_so : written ≡ Ok tt → (bytes : List ℕ) (h : HoldsSo whole kept bytes) → (bs : List ℕ) × (file_of file (records_held h.x asked) ≡ Ok bs) × Prints bs was next
          made_so is bytes h = by (file_of file (records_held h.x asked)) refl
            where
              by : (made : Result (List ℕ) ExportRefused) → file_of file (records_held h.x asked) ≡ made → (bs : List ℕ) × (file_of file (records_held h.x asked) ≡ Ok bs) × Prints bs was next
              by (Ok bs) e = (bs, e, subst (λ (o : Result ⊤ ExportRefused). OnOk o (Appends was.taken next.taken bs)) is ((ends_so bytes h).written bs e))
              by (Err w) e = ⊎_elim (λ (same : written ≡ Err w). let clash : Ok tt ≡ Err w = sym is ∙ same in let none : ⊥ = cc in absurd none)
                  (λ failed. let f = subst IsFailure is failed in ⊎_elim (λ e. let none : ⊥ = cc in absurd none) (λ g. ⊎_elim (λ e. let none : ⊥ = cc in absurd none) (λ e. let none : ⊥ = cc in absurd none) g) f)
                  ((ends_so bytes h).refused w e)

          module _ (silent : (why : ExportRefused) → written ≡ Err why → MayBeBegun file why ⊎ (next ≡ was)) (output : written ≡ Err exports.Output → OutputFailed was next) where
            no_file : (why : ExportRefused) → written ≡ Err why → (MayBeBegun file why → ⊥) → (IsFailure (Err why) → ⊥) → IsNone whole wish asked was next why
            no_file why is never own = (
              ⊎_elim (λ may. absurd (never may)) (λ same. same) (silent why is),
              λ bytes known. let h = holds_so whole kept kept_is bytes known in (h.x, h.is, (file, its bytes h, none_so why is own bytes h)),
            )

            none_writes : (why : ExportRefused) → written ≡ Err why → ShowsFile whole wish asked was next (status_of_file (Err why))
            none_writes exports.Nothing is = no_file exports.Nothing is (not_begun file) (λ f. ⊎_elim (λ e. cc) (λ g. ⊎_elim (λ e. cc) (λ e. cc) g) f)
              where
                not_begun : (f : File) → MayBeBegun f exports.Nothing → ⊥
                not_begun (files.Sound microphone timing) may = may
                not_begun (files.Picture block) may = let none : ⊥ = cc in none
                not_begun files.Listing may = let none : ⊥ = cc in none
            none_writes (exports.Mixed place) is = no_file (exports.Mixed place) is (not_begun file) (λ f. ⊎_elim (λ e. cc) (λ g. ⊎_elim (λ e. cc) (λ e. cc) g) f)
              where
                not_begun : (f : File) → MayBeBegun f (exports.Mixed place) → ⊥
                not_begun (files.Sound microphone timing) may = may
                not_begun (files.Picture block) may = let none : ⊥ = cc in none
                not_begun files.Listing may = let none : ⊥ = cc in none
            none_writes exports.Long is = no_file exports.Long is (not_begun file) (λ f. ⊎_elim (λ e. cc) (λ g. ⊎_elim (λ e. cc) (λ e. cc) g) f)
              where
                not_begun : (f : File) → MayBeBegun f exports.Long → ⊥
                not_begun (files.Sound microphone timing) may = may
                not_begun (files.Picture block) may = let none : ⊥ = cc in none
                not_begun files.Listing may = let none : ⊥ = cc in none
            none_writes (exports.Part number) is = no_file (exports.Part number) is (not_begun file) (λ f. ⊎_elim (λ e. cc) (λ g. ⊎_elim (λ e. cc) (λ e. cc) g) f)
              where
                not_begun : (f : File) → MayBeBegun f (exports.Part number) → ⊥
                not_begun (files.Sound microphone timing) may = may
                not_begun (files.Picture block) may = let none : ⊥ = cc in none
                not_begun files.Listing may = let none : ⊥ = cc in none
            none_writes exports.Fault is = inr begun
            none_writes (exports.Damaged m offset) is = inr (record {
              told = refl;
              never = λ bytes known.
                  let h = holds_so whole kept kept_is bytes known in
                  file_undamaged m offset file (records_held h.x asked) (none_so (exports.Damaged m offset) is (λ f. ⊎_elim (λ e. cc) (λ g. ⊎_elim (λ e. cc) (λ e. cc) g) f) bytes h);
            })
            none_writes exports.Output is = (output is, begun)
            none_writes exports.NoMemory is = inr begun

            file_shows : (answer : Result ⊤ ExportRefused) → written ≡ answer → ShowsFile whole wish asked was next (status_of_file answer)
            file_shows (Ok all) is = λ bytes known.
                let h = holds_so whole kept kept_is bytes known in
                let made = made_so is bytes h in
                (h.x, h.is, (file, made.0, (its bytes h, made.1), made.2))
            file_shows (Err why) is = none_writes why is

            pub file_writes : (answer : Result ⊤ ExportRefused) → written ≡ answer → WritesHeld whole wish asked was next (status_of_file answer)
            file_writes answer is = record { shown = file_shows answer is }

-- What is seen of an output that is as it was.
pub silent_so : {A : Type 0} (Begun : ExportRefused → Type 0) (old new : A) (seen : A → OutputSeen) (r : Result ⊤ ExportRefused) → IfErr r (λ why. Begun why ⊎ (new ≡ old))
    → (why : ExportRefused) → r ≡ Err why → Begun why ⊎ (seen new ≡ seen old)
silent_so Begun old new seen r h why is =
    ⊎_elim (λ begun. inl begun) (λ same. inr (ap seen same)) (subst (λ (o : Result ⊤ ExportRefused). IfErr o (λ w. Begun w ⊎ (new ≡ old))) is h)
