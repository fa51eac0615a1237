-- What the writing of a file comes to, as the page of the command says it.
use Rattle.std.proofs.Common.{◌≡◌, ◌⊎◌, inl, inr, ⊎_elim, ℕ, List, [], ◌∷◌, Bool, true, false, if◌then◌else◌, Option, Some, None, Result, Ok, Err, refl, ap, subst}
use Rattle.std.specs.Bool.{⊤}
use Rattle.std.specs.Prelude.{IfErr, length, nat_le}
use Rattle.std.specs.List.{flat_map}
use Rattle.vdr_terms.specs.Records.{Record}
use Rattle.vdr_config.specs.Configuration.{Selection}
use Rattle.vdr_config.specs.Configuration.Selection.{Sentence, Image as Images, Pcm, Opaque}
use Rattle.vdr_visit.specs.declared.visit_refused.VisitRefused.{VisitRefused}
use Rattle.vdr_visit.specs.declared.visit_refused.VisitRefused.TheVariants as stops
use Rattle.vdr_export.specs.Answers.{FileEnds, IsFailure, IsFileRefusal, MayBeBegun, data_of, file_of, first_missing, joined, picture_of, size_of, unless_long, unless_mixed, unless_part, wave_of, wave_with}
use Rattle.vdr_export.specs.Numbers.{mixed_at}
use Rattle.vdr_export.specs.Pictures.{Shown, bodies, greatest_of, shown}
use Rattle.vdr_export.specs.Sounds.{Heard, heard, rates_of, sound}
use Rattle.vdr_export.specs.Waves.{most_bytes}
use Rattle.vdr_export.specs.declared.file.File.{File}
use Rattle.vdr_export.specs.declared.file.File.TheVariants as files
use Rattle.vdr_export.specs.declared.refused.ExportRefused.{ExportRefused}
use Rattle.vdr_export.specs.declared.refused.ExportRefused.TheVariants.{Nothing, Mixed, Long, Part, Fault, Damaged, Output, NoMemory}
use Rattle.vdr_export.specs.declared.timing.Timing.{Timing}
use Rattle.vdr_export.specs.declared.wave.WaveSize.{WaveSize}
use Rattle.vdr_command.specs.Opened.{IfDamaged}
use Rattle.vdr_command.specs.Outside.{OutputSeen}
use Rattle.vdr_command.specs.declared.status.Status.{Status}
use Rattle.vdr_command.specs.declared.status.Status.TheVariants as ends
use Rattle.vdr_export.specs.Wishes.{wished}
use Rattle.vdr_readout.specs.Exports.{IsExportStatus, MayWrite, WritesFile, status_of_export}
use Rattle.vdr_export.specs.declared.wish.Wish.{Wish}
use Rattle.vdr_export.specs.declared.wish.Wish.TheVariants.{Sound, Picture, Listing}

-- The same as the end of a visit, whose own reason is a status.
abbrev pub as_visit : Result ⊤ ExportRefused → Result ⊤ (VisitRefused Status)
as_visit (Ok u) = Ok tt
as_visit (Err Nothing) = Err (stops.Own ends.ExportNothing)
as_visit (Err (Mixed place)) = Err (stops.Own (ends.ExportMixed place))
as_visit (Err Long) = Err (stops.Own ends.ExportLong)
as_visit (Err (Part number)) = Err (stops.Own (ends.ExportPart number))
as_visit (Err Fault) = Err stops.Fault
as_visit (Err (Damaged m offset)) = Err (stops.Damaged m offset)
as_visit (Err Output) = Err stops.Output
as_visit (Err NoMemory) = Err (stops.Own ends.NoMemory)

pub fault_as : (out : Result ⊤ ExportRefused) → as_visit out ≡ Err stops.Fault → out ≡ Err Fault
fault_as (Ok u) is = let none : ⊥ = cc in absurd none
fault_as (Err Nothing) is = let none : ⊥ = cc in absurd none
fault_as (Err (Mixed place)) is = let none : ⊥ = cc in absurd none
fault_as (Err Long) is = let none : ⊥ = cc in absurd none
fault_as (Err (Part number)) is = let none : ⊥ = cc in absurd none
fault_as (Err Fault) is = refl
fault_as (Err (Damaged m offset)) is = let none : ⊥ = cc in absurd none
fault_as (Err Output) is = let none : ⊥ = cc in absurd none
fault_as (Err NoMemory) is = let none : ⊥ = cc in absurd none

pub damage_as : (out : Result ⊤ ExportRefused) (m offset : ℕ) → as_visit out ≡ Err (stops.Damaged m offset) → out ≡ Err (Damaged m offset)
damage_as (Ok u) m offset is = let none : ⊥ = cc in absurd none
damage_as (Err Nothing) m offset is = let none : ⊥ = cc in absurd none
damage_as (Err (Mixed place)) m offset is = let none : ⊥ = cc in absurd none
damage_as (Err Long) m offset is = let none : ⊥ = cc in absurd none
damage_as (Err (Part number)) m offset is = let none : ⊥ = cc in absurd none
damage_as (Err Fault) m offset is = let none : ⊥ = cc in absurd none
damage_as (Err (Damaged k at)) m offset is = cc
damage_as (Err Output) m offset is = let none : ⊥ = cc in absurd none
damage_as (Err NoMemory) m offset is = let none : ⊥ = cc in absurd none

pub done_as : (out : Result ⊤ ExportRefused) → as_visit out ≡ Ok tt → out ≡ Ok tt
done_as (Ok u) is = refl
done_as (Err Nothing) is = let none : ⊥ = cc in absurd none
done_as (Err (Mixed place)) is = let none : ⊥ = cc in absurd none
done_as (Err Long) is = let none : ⊥ = cc in absurd none
done_as (Err (Part number)) is = let none : ⊥ = cc in absurd none
done_as (Err Fault) is = let none : ⊥ = cc in absurd none
done_as (Err (Damaged m offset)) is = let none : ⊥ = cc in absurd none
done_as (Err Output) is = let none : ⊥ = cc in absurd none
done_as (Err NoMemory) is = let none : ⊥ = cc in absurd none

pub output_as : (out : Result ⊤ ExportRefused) → status_of_export out ≡ ends.OutputFault → out ≡ Err Output
output_as (Ok u) is = let none : ⊥ = cc in absurd none
output_as (Err Nothing) is = let none : ⊥ = cc in absurd none
output_as (Err (Mixed place)) is = let none : ⊥ = cc in absurd none
output_as (Err Long) is = let none : ⊥ = cc in absurd none
output_as (Err (Part number)) is = let none : ⊥ = cc in absurd none
output_as (Err Fault) is = let none : ⊥ = cc in absurd none
output_as (Err (Damaged m offset)) is = let none : ⊥ = cc in absurd none
output_as (Err Output) is = refl
output_as (Err NoMemory) is = let none : ⊥ = cc in absurd none

-- A file is asked for of a channel and an incident that are there, and of a channel of its kind.
pub not_asked : (out : Result ⊤ ExportRefused) → (as_visit out ≡ Err stops.NoChannel → ⊥) × (as_visit out ≡ Err stops.NoIncident → ⊥) × (status_of_export out ≡ ends.ExportKind → ⊥) × (status_of_export out ≡ ends.NoChannel → ⊥)
not_asked (Ok u) = ((λ e. let none : ⊥ = cc in none), (λ e. let none : ⊥ = cc in none), (λ e. let none : ⊥ = cc in none), (λ e. let none : ⊥ = cc in none))
not_asked (Err Nothing) = ((λ e. let none : ⊥ = cc in none), (λ e. let none : ⊥ = cc in none), (λ e. let none : ⊥ = cc in none), (λ e. let none : ⊥ = cc in none))
not_asked (Err (Mixed place)) = ((λ e. let none : ⊥ = cc in none), (λ e. let none : ⊥ = cc in none), (λ e. let none : ⊥ = cc in none), (λ e. let none : ⊥ = cc in none))
not_asked (Err Long) = ((λ e. let none : ⊥ = cc in none), (λ e. let none : ⊥ = cc in none), (λ e. let none : ⊥ = cc in none), (λ e. let none : ⊥ = cc in none))
not_asked (Err (Part number)) = ((λ e. let none : ⊥ = cc in none), (λ e. let none : ⊥ = cc in none), (λ e. let none : ⊥ = cc in none), (λ e. let none : ⊥ = cc in none))
not_asked (Err Fault) = ((λ e. let none : ⊥ = cc in none), (λ e. let none : ⊥ = cc in none), (λ e. let none : ⊥ = cc in none), (λ e. let none : ⊥ = cc in none))
not_asked (Err (Damaged m offset)) = ((λ e. let none : ⊥ = cc in none), (λ e. let none : ⊥ = cc in none), (λ e. let none : ⊥ = cc in none), (λ e. let none : ⊥ = cc in none))
not_asked (Err Output) = ((λ e. let none : ⊥ = cc in none), (λ e. let none : ⊥ = cc in none), (λ e. let none : ⊥ = cc in none), (λ e. let none : ⊥ = cc in none))
not_asked (Err NoMemory) = ((λ e. let none : ⊥ = cc in none), (λ e. let none : ⊥ = cc in none), (λ e. let none : ⊥ = cc in none), (λ e. let none : ⊥ = cc in none))

-- No file is damaged.
long_by : (b : Bool) (size : WaveSize) (m offset : ℕ) → (if b then Ok size else Err Long) ≡ Err (Damaged m offset) → ⊥
long_by true size m offset is = cc
long_by false size m offset is = cc

by_long : (rate bytes m offset : ℕ) → unless_long rate bytes ≡ Err (Damaged m offset) → ⊥
by_long rate bytes m offset is = long_by (nat_le bytes most_bytes) (record { rate = rate; bytes = bytes }) m offset is

by_mixed : {T : Type 0} (mixed : Option ℕ) (answer : Result T ExportRefused) (m offset : ℕ) → (answer ≡ Err (Damaged m offset) → ⊥) → unless_mixed mixed answer ≡ Err (Damaged m offset) → ⊥
by_mixed None answer m offset never is = never is
by_mixed (Some place) answer m offset never is = cc

by_part : (part : Option ℕ) (all : List ℕ) (m offset : ℕ) → unless_part {T = List ℕ} part (Ok all) ≡ Err (Damaged m offset) → ⊥
by_part None all m offset is = cc
by_part (Some number) all m offset is = cc

by_joined : (parts : List (Option (List ℕ))) (m offset : ℕ) → joined parts ≡ Err (Damaged m offset) → ⊥
by_joined parts m offset is = by_part (first_missing 1 parts) (flat_map data_of parts) m offset is

by_size : (timing : Timing) (hs : List Heard) (size : Result WaveSize ExportRefused) (m offset : ℕ) → (size ≡ Err (Damaged m offset) → ⊥) → wave_with timing hs size ≡ Err (Damaged m offset) → ⊥
by_size timing hs (Ok size) m offset never is = cc
by_size timing hs (Err why) m offset never is = never (let same : why ≡ Damaged m offset = cc in ap (λ (e : ExportRefused). Err e) same)

sound_undamaged : (timing : Timing) (hs : List Heard) (m offset : ℕ) → wave_of timing hs ≡ Err (Damaged m offset) → ⊥
sound_undamaged timing [] m offset is = cc
sound_undamaged timing (h ∷ hs) m offset is =
    by_size timing (h ∷ hs) (size_of timing (h ∷ hs)) m offset
    (λ e. by_mixed (mixed_at (rates_of (h ∷ hs))) (unless_long h.frame.rate (length (sound timing (h ∷ hs)))) m offset
    (λ k. by_long h.frame.rate (length (sound timing (h ∷ hs))) m offset k) e) is

picture_undamaged : (ps : List Shown) (m offset : ℕ) → picture_of ps ≡ Err (Damaged m offset) → ⊥
picture_undamaged [] m offset is = cc
picture_undamaged (p ∷ ps) m offset is =
    by_mixed (mixed_at (greatest_of (p ∷ ps))) (joined (bodies p.header.greatest (p ∷ ps))) m offset (λ k. by_joined (bodies p.header.greatest (p ∷ ps)) m offset k) is

never_damaged : (file : File) (records : List Record) (m offset : ℕ) → file_of file records ≡ Err (Damaged m offset) → ⊥
never_damaged (files.Sound microphone timing) records m offset is = sound_undamaged timing (heard microphone records) m offset is
never_damaged (files.Picture block) records m offset is = picture_undamaged (shown block records) m offset is
never_damaged files.Listing records m offset is = let none : ⊥ = cc in none

no_failure : (out : Result ⊤ ExportRefused) (why : ExportRefused) → out ≡ Err why → (why ≡ Fault → ⊥) → (why ≡ Output → ⊥) → (why ≡ NoMemory → ⊥) → IsFailure out → ⊥
no_failure out why is f o n failed = ⊎_elim (λ (k : out ≡ Err Fault). f cc) (λ rest. ⊎_elim (λ (k : out ≡ Err Output). o cc) (λ (k : out ≡ Err NoMemory). n cc) rest) failed

-- How the writing of a file ended, by what it was to hold.
module _ (a b : Option (List ℕ)) (out : Result ⊤ ExportRefused) where
  ends_refused : (file : Result (List ℕ) ExportRefused) (why : ExportRefused) → FileEnds file a b out → out ≡ Err why → (IsFailure out → ⊥) → file ≡ Err why
  ends_refused (Ok bytes) why e is never = ⊎_elim (λ (ok : out ≡ Ok tt). let none : ⊥ = cc in absurd none) (λ failed. absurd (never failed)) (e.done bytes refl)
  ends_refused (Err other) why e is never = ⊎_elim (λ (told : out ≡ Err other). let same : other ≡ why = cc in ap (λ (x : ExportRefused). Err x) same) (λ failed. absurd (never failed)) (e.refused other refl)

  ends_done : (file : Result (List ℕ) ExportRefused) → FileEnds file a b out → out ≡ Ok tt → (bytes : List ℕ) × (file ≡ Ok bytes)
  ends_done (Ok bytes) e is = (bytes, refl)
  ends_done (Err why) e is = ⊎_elim
      (λ (told : out ≡ Err why). let none : ⊥ = cc in absurd none)
      (λ failed. ⊎_elim (λ (f : out ≡ Err Fault). let none : ⊥ = cc in absurd none)
      (λ rest. ⊎_elim (λ (f : out ≡ Err Output). let none : ⊥ = cc in absurd none) (λ (f : out ≡ Err NoMemory). let none : ⊥ = cc in absurd none) rest) failed)
      (e.refused why refl)

  pub undamaged : (file : File) (records : List Record) (m offset : ℕ) → FileEnds (file_of file records) a b out → out ≡ Err (Damaged m offset) → ⊥
  undamaged file records m offset e is = never_damaged file records m offset (ends_refused (file_of file records) (Damaged m offset) e is (no_failure out (Damaged m offset) is (λ k. let none : ⊥ = cc in none) (λ k. let none : ⊥ = cc in none) (λ k. let none : ⊥ = cc in none)))

-- The same, as the command says it.
module _ (was next : OutputSeen) (file : Result (List ℕ) ExportRefused) where
  pub writes_so : (out : Result ⊤ ExportRefused) → FileEnds file was.taken next.taken out → WritesFile file (status_of_export out) was next
  writes_so (Ok u) e = record { written = λ bytes is. e.written bytes is; front = λ bytes is. e.front bytes is; done = λ is. ends_done was.taken next.taken (Ok u) file e refl; refused = tt }
  writes_so (Err Nothing) e = record {
    written = λ bytes is. tt;
    front = λ bytes is. e.front bytes is;
    done = λ is. let none : ⊥ = cc in absurd none;
    refused = ends_refused was.taken next.taken (Err Nothing) file Nothing e refl
        (no_failure (Err Nothing) Nothing refl (λ k. let none : ⊥ = cc in none) (λ k. let none : ⊥ = cc in none) (λ k. let none : ⊥ = cc in none));
  }
  writes_so (Err (Mixed place)) e = record {
    written = λ bytes is. tt;
    front = λ bytes is. e.front bytes is;
    done = λ is. let none : ⊥ = cc in absurd none;
    refused = ends_refused was.taken next.taken (Err (Mixed place)) file (Mixed place) e refl
        (no_failure (Err (Mixed place)) (Mixed place) refl (λ k. let none : ⊥ = cc in none) (λ k. let none : ⊥ = cc in none) (λ k. let none : ⊥ = cc in none));
  }
  writes_so (Err Long) e = record {
    written = λ bytes is. tt;
    front = λ bytes is. e.front bytes is;
    done = λ is. let none : ⊥ = cc in absurd none;
    refused = ends_refused was.taken next.taken (Err Long) file Long e refl
        (no_failure (Err Long) Long refl (λ k. let none : ⊥ = cc in none) (λ k. let none : ⊥ = cc in none) (λ k. let none : ⊥ = cc in none));
  }
  writes_so (Err (Part number)) e = record {
    written = λ bytes is. tt;
    front = λ bytes is. e.front bytes is;
    done = λ is. let none : ⊥ = cc in absurd none;
    refused = ends_refused was.taken next.taken (Err (Part number)) file (Part number) e refl
        (no_failure (Err (Part number)) (Part number) refl (λ k. let none : ⊥ = cc in none) (λ k. let none : ⊥ = cc in none) (λ k. let none : ⊥ = cc in none));
  }
  writes_so (Err Fault) e = record { written = λ bytes is. tt; front = λ bytes is. e.front bytes is; done = λ is. let none : ⊥ = cc in absurd none; refused = tt }
  writes_so (Err (Damaged m offset)) e = record { written = λ bytes is. tt; front = λ bytes is. e.front bytes is; done = λ is. let none : ⊥ = cc in absurd none; refused = tt }
  writes_so (Err Output) e = record { written = λ bytes is. e.front bytes is; front = λ bytes is. e.front bytes is; done = λ is. let none : ⊥ = cc in absurd none; refused = tt }
  writes_so (Err NoMemory) e = record { written = λ bytes is. tt; front = λ bytes is. e.front bytes is; done = λ is. let none : ⊥ = cc in absurd none; refused = tt }

-- The file is of the kind that was wished.
abbrev IsOf : Wish → File → Type 0
IsOf (Sound timing) (files.Sound microphone other) = ⊤
IsOf (Sound timing) (files.Picture block) = ⊥
IsOf (Sound timing) files.Listing = ⊥
IsOf (Picture block) (files.Sound microphone timing) = ⊥
IsOf (Picture block) (files.Picture other) = ⊤
IsOf (Picture block) files.Listing = ⊥
IsOf Listing (files.Sound microphone timing) = ⊥
IsOf Listing (files.Picture block) = ⊥
IsOf Listing files.Listing = ⊤

of_wish : (wish : Wish) (kind : Option Selection) (file : File) → wished wish kind ≡ Some file → IsOf wish file
of_wish (Sound timing) None file is = let none : ⊥ = cc in absurd none
of_wish (Sound timing) (Some (Sentence formatter source)) file is = let none : ⊥ = cc in absurd none
of_wish (Sound timing) (Some (Images source)) file is = let none : ⊥ = cc in absurd none
of_wish (Sound timing) (Some (Pcm microphone)) file is = subst (IsOf (Sound timing)) (let same : files.Sound microphone timing ≡ file = cc in same) tt
of_wish (Sound timing) (Some Opaque) file is = let none : ⊥ = cc in absurd none
of_wish (Picture block) None file is = let none : ⊥ = cc in absurd none
of_wish (Picture block) (Some (Sentence formatter source)) file is = let none : ⊥ = cc in absurd none
of_wish (Picture block) (Some (Images source)) file is = subst (IsOf (Picture block)) (let same : files.Picture block ≡ file = cc in same) tt
of_wish (Picture block) (Some (Pcm microphone)) file is = let none : ⊥ = cc in absurd none
of_wish (Picture block) (Some Opaque) file is = let none : ⊥ = cc in absurd none
of_wish Listing None file is = let none : ⊥ = cc in absurd none
of_wish Listing (Some (Sentence formatter source)) file is = let none : ⊥ = cc in absurd none
of_wish Listing (Some (Images source)) file is = subst (IsOf Listing) (let same : files.Listing ≡ file = cc in same) tt
of_wish Listing (Some (Pcm microphone)) file is = let none : ⊥ = cc in absurd none
of_wish Listing (Some Opaque) file is = let none : ⊥ = cc in absurd none

own_by : (wish : Wish) (file : File) → IsOf wish file → (out : Result ⊤ ExportRefused) → IfErr out (IsFileRefusal file) → IsExportStatus wish (status_of_export out)
own_by wish file of (Ok u) own = tt
own_by (Sound timing) file of (Err Nothing) own = tt
own_by (Picture block) file of (Err Nothing) own = tt
own_by Listing (files.Sound microphone timing) of (Err Nothing) own = absurd of
own_by Listing (files.Picture block) of (Err Nothing) own = absurd of
own_by Listing files.Listing of (Err Nothing) own = own
own_by (Sound timing) file of (Err (Mixed place)) own = tt
own_by (Picture block) file of (Err (Mixed place)) own = tt
own_by Listing (files.Sound microphone timing) of (Err (Mixed place)) own = absurd of
own_by Listing (files.Picture block) of (Err (Mixed place)) own = absurd of
own_by Listing files.Listing of (Err (Mixed place)) own = own
own_by (Sound timing) file of (Err Long) own = tt
own_by (Picture block) (files.Sound microphone timing) of (Err Long) own = absurd of
own_by (Picture block) (files.Picture other) of (Err Long) own = own
own_by (Picture block) files.Listing of (Err Long) own = absurd of
own_by Listing (files.Sound microphone timing) of (Err Long) own = absurd of
own_by Listing (files.Picture block) of (Err Long) own = absurd of
own_by Listing files.Listing of (Err Long) own = own
own_by (Sound timing) (files.Sound microphone other) of (Err (Part number)) own = own
own_by (Sound timing) (files.Picture block) of (Err (Part number)) own = absurd of
own_by (Sound timing) files.Listing of (Err (Part number)) own = absurd of
own_by Listing (files.Sound microphone timing) of (Err (Part number)) own = absurd of
own_by Listing (files.Picture block) of (Err (Part number)) own = absurd of
own_by Listing files.Listing of (Err (Part number)) own = own
own_by (Picture block) file of (Err (Part number)) own = tt
own_by wish file of (Err Fault) own = tt
own_by wish file of (Err (Damaged m offset)) own = tt
own_by wish file of (Err Output) own = tt
own_by wish file of (Err NoMemory) own = tt

pub own_status : (wish : Wish) (kind : Option Selection) (file : File) → wished wish kind ≡ Some file → (out : Result ⊤ ExportRefused) → IfErr out (IsFileRefusal file) → IsExportStatus wish (status_of_export out)
own_status wish kind file is out own = own_by wish file (of_wish wish kind file is) out own

-- What may be begun.
begun_by : {Same : Type 0} (wish : Wish) (file : File) → IsOf wish file → (out : Result ⊤ ExportRefused) → IfErr out (λ why. MayBeBegun file why ⊎ Same) → MayWrite wish (status_of_export out) ⊎ Same
begun_by wish file of (Ok u) silent = inl tt
begun_by (Sound timing) (files.Sound microphone other) of (Err Nothing) silent = silent
begun_by (Sound timing) (files.Sound microphone other) of (Err (Mixed place)) silent = silent
begun_by (Sound timing) (files.Sound microphone other) of (Err Long) silent = silent
begun_by (Sound timing) (files.Sound microphone other) of (Err (Part number)) silent = silent
begun_by (Sound timing) (files.Sound microphone other) of (Err Fault) silent = silent
begun_by (Sound timing) (files.Sound microphone other) of (Err (Damaged m offset)) silent = silent
begun_by (Sound timing) (files.Sound microphone other) of (Err Output) silent = silent
begun_by (Sound timing) (files.Sound microphone other) of (Err NoMemory) silent = silent
begun_by (Sound timing) (files.Picture block) of (Err why) silent = absurd of
begun_by (Sound timing) files.Listing of (Err why) silent = absurd of
begun_by (Picture block) (files.Sound microphone timing) of (Err why) silent = absurd of
begun_by (Picture block) files.Listing of (Err why) silent = absurd of
begun_by Listing (files.Sound microphone timing) of (Err why) silent = absurd of
begun_by Listing (files.Picture block) of (Err why) silent = absurd of
begun_by (Picture block) (files.Picture other) of (Err Nothing) silent = ⊎_elim (λ is. let none : ⊥ = cc in absurd none) (λ same. inr same) silent
begun_by (Picture block) (files.Picture other) of (Err (Mixed place)) silent = ⊎_elim (λ is. let none : ⊥ = cc in absurd none) (λ same. inr same) silent
begun_by (Picture block) (files.Picture other) of (Err Long) silent = ⊎_elim (λ is. let none : ⊥ = cc in absurd none) (λ same. inr same) silent
begun_by (Picture block) (files.Picture other) of (Err (Part number)) silent = ⊎_elim (λ is. let none : ⊥ = cc in absurd none) (λ same. inr same) silent
begun_by (Picture block) (files.Picture other) of (Err Fault) silent = ⊎_elim (λ is. let none : ⊥ = cc in absurd none) (λ same. inr same) silent
begun_by (Picture block) (files.Picture other) of (Err (Damaged m offset)) silent = ⊎_elim (λ is. let none : ⊥ = cc in absurd none) (λ same. inr same) silent
begun_by (Picture block) (files.Picture other) of (Err Output) silent = inl tt
begun_by (Picture block) (files.Picture other) of (Err NoMemory) silent = ⊎_elim (λ is. let none : ⊥ = cc in absurd none) (λ same. inr same) silent
begun_by Listing files.Listing of (Err Nothing) silent = ⊎_elim (λ is. let none : ⊥ = cc in absurd none) (λ same. inr same) silent
begun_by Listing files.Listing of (Err (Mixed place)) silent = ⊎_elim (λ is. let none : ⊥ = cc in absurd none) (λ same. inr same) silent
begun_by Listing files.Listing of (Err Long) silent = ⊎_elim (λ is. let none : ⊥ = cc in absurd none) (λ same. inr same) silent
begun_by Listing files.Listing of (Err (Part number)) silent = ⊎_elim (λ is. let none : ⊥ = cc in absurd none) (λ same. inr same) silent
begun_by Listing files.Listing of (Err Fault) silent = ⊎_elim (λ is. let none : ⊥ = cc in absurd none) (λ same. inr same) silent
begun_by Listing files.Listing of (Err (Damaged m offset)) silent = ⊎_elim (λ is. let none : ⊥ = cc in absurd none) (λ same. inr same) silent
begun_by Listing files.Listing of (Err Output) silent = inl tt
begun_by Listing files.Listing of (Err NoMemory) silent = ⊎_elim (λ is. let none : ⊥ = cc in absurd none) (λ same. inr same) silent

pub may_write : {Same : Type 0} (wish : Wish) (kind : Option Selection) (file : File) → wished wish kind ≡ Some file → (out : Result ⊤ ExportRefused) → IfErr out (λ why. MayBeBegun file why ⊎ Same)
    → MayWrite wish (status_of_export out) ⊎ Same
may_write wish kind file is out silent = begun_by wish file (of_wish wish kind file is) out silent

-- What is said of damage that was told.
pub of_damage : (out : Result ⊤ ExportRefused) (P : ℕ → ℕ → Type 0) → ((m offset : ℕ) → out ≡ Err (Damaged m offset) → P m offset) → IfDamaged (status_of_export out) P
of_damage (Ok u) P p = tt
of_damage (Err Nothing) P p = tt
of_damage (Err (Mixed place)) P p = tt
of_damage (Err Long) P p = tt
of_damage (Err (Part number)) P p = tt
of_damage (Err Fault) P p = tt
of_damage (Err (Damaged m offset)) P p = p m offset refl
of_damage (Err Output) P p = tt
of_damage (Err NoMemory) P p = tt
