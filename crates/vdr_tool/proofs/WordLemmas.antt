-- Words that ask for a command.
use Rattle.std.proofs.Common.{◌≡◌, ◌∷◌, length, ℕ, ℤ, List, [], Option, Some, None, true, false, codes, inl, inr, ◌⊎◌, refl, sym, ap, subst, ◌∙◌, ◌≢◌, Bool}
use Rattle.std.specs.Prelude.{◌&&◌, ◌||◌, nat_eq, option_map, pos}
use Rattle.std.specs.Bool.{MatchBool}
use Rattle.vdr_terms.specs.Stamps.{last_stamp}
use Rattle.vdr_entry.specs.declared.query.Medium.{Medium}
use Rattle.vdr_entry.specs.declared.query.Medium.TheVariants.{Capsule, LongTerm, Incident}
use Rattle.vdr_control.specs.Orders.{PlainOrder}
use Rattle.vdr_control.specs.Orders.PlainOrder.{Play as PlayOrder, Status as StatusOrder, Save as SaveOrder, Release as ReleaseOrder, Incidents as IncidentsOrder, Evidence as EvidenceOrder, Tell as TellOrder}
use Rattle.vdr_control.specs.Orders.PlainOrder.{Export as ExportOrder}
use Rattle.vdr_control.specs.Orders.PlainOrder.{Health as HealthOrder}
use Rattle.vdr_control.specs.Plays.{IsMedium, SpellsBound, SpellsPlay, medium_word}
use Rattle.vdr_readout.specs.Informs.{IsWhole}
use Rattle.vdr_readout.specs.Readings.{Reading, SpellsReading, plain_reading, reads}
use Rattle.vdr_readout.specs.Readings.{Reading as readings}
use Rattle.vdr_readout.specs.Reads.{AskedPlay}
use Rattle.vdr_readout.specs.declared.answering.Reading.{Reading as Told}
use Rattle.vdr_tool.specs.Commands.{Asked, IsPlain}
use Rattle.vdr_tool.specs.Commands.Asked.{Review, Check, Format, Replay, Read, Evidence, Page, Incidents, Info, Save, Release, Trial, Import, Packets, Verify, Rescue, RescueInfo, Compare}
use Rattle.vdr_tool.specs.Runs.{Spells}

-- The same words spell the same.
pub spelled_along : (medium m channel c from f to t : List ℕ) (order : PlainOrder) → medium ≡ m → channel ≡ c → from ≡ f → to ≡ t → SpellsPlay medium channel from to order → SpellsPlay m c f t order
spelled_along medium m channel c from f to t order p q r s h =
    subst (λ (w : List ℕ). SpellsPlay m c f w order) s (subst (λ (w : List ℕ). SpellsPlay m c w to order) r
    (subst (λ (w : List ℕ). SpellsPlay m w from to order) q (subst (λ (w : List ℕ). SpellsPlay w channel from to order) p h)))

-- The play of an order.
as_asked : PlainOrder → Option AskedPlay
as_asked StatusOrder = None
as_asked (SaveOrder label) = None
as_asked (ReleaseOrder id) = None
as_asked IncidentsOrder = None
as_asked HealthOrder = None
as_asked (EvidenceOrder id) = None
as_asked (TellOrder medium telling) = None
as_asked (ExportOrder medium name from to exporting) = None
as_asked (PlayOrder medium channel from to) = Some (record { medium = medium; channel = channel; from = from; to = to })

-- The play of all records of a medium.
abbrev pub whole_order : Medium → PlainOrder
whole_order medium = PlayOrder medium (codes "all") (pos 0) (pos last_stamp)

pub whole_spelled : (bytes word : List ℕ) (medium : Medium) → bytes ≡ word → IsMedium medium → word ≡ medium_word medium → SpellsPlay bytes (codes "all") (codes "-") (codes "-") (whole_order medium)
whole_spelled bytes word medium same legal is = ((legal, same ∙ is), refl, inl (refl, refl), inl (refl, refl))

abbrev pub medium_in : PlainOrder → Option Medium
medium_in (PlayOrder medium channel from to) = Some medium
medium_in StatusOrder = None
medium_in (SaveOrder label) = None
medium_in (ReleaseOrder id) = None
medium_in IncidentsOrder = None
medium_in HealthOrder = None
medium_in (EvidenceOrder id) = None
medium_in (TellOrder medium telling) = None
medium_in (ExportOrder medium name from to exporting) = None

-- One order is one play.
pub one_asked : (medium : Medium) (channel : List ℕ) (from to : ℤ) (asked : AskedPlay) → PlayOrder medium channel from to ≡ PlayOrder asked.medium asked.channel asked.from asked.to
    → ◌≡◌ {A = Option AskedPlay} (Some (record { medium = medium; channel = channel; from = from; to = to })) (Some asked)
unfolding as_asked
one_asked medium channel from to asked same = ap as_asked same

-- The play of all records of a medium up to a stamp.
abbrev pub order_up_to : Medium → ℤ → PlainOrder
order_up_to medium until = PlayOrder medium (codes "all") (pos 0) until

pub up_to_spelled : (bytes word to bound : List ℕ) (medium : Medium) (until : ℤ) → bytes ≡ word → to ≡ bound → IsMedium medium → word ≡ medium_word medium → SpellsBound (pos last_stamp) bound until
    → SpellsPlay bytes (codes "all") (codes "-") to (order_up_to medium until)
up_to_spelled bytes word to bound medium until same last legal is spelled =
    ((legal, same ∙ is), refl, inl (refl, refl), subst (λ (w : List ℕ). SpellsBound (pos last_stamp) w until) (sym last) spelled)

abbrev pub last_in : PlainOrder → Option (Medium × ℤ)
last_in (PlayOrder medium channel from to) = Some (medium, to)
last_in StatusOrder = None
last_in (SaveOrder label) = None
last_in (ReleaseOrder id) = None
last_in IncidentsOrder = None
last_in HealthOrder = None
last_in (EvidenceOrder id) = None
last_in (TellOrder medium telling) = None
last_in (ExportOrder medium name from to exporting) = None

first_same : (x y : List ℕ) (xs ys : List (List ℕ)) → x ∷ xs ≡ y ∷ ys → x ≡ y
first_same x y xs ys e = cc

-- Three words of which the first is `targets` are those of a table of ships.
pub record TargetWords (first second : List ℕ) (reading : Reading) : Type 0 where
  pub medium : Medium
  pub at : ℤ
  pub is : reading ≡ readings.Targets medium at
  pub legal : IsMedium medium
  pub named : first ≡ medium_word medium
  pub spelled : SpellsBound (pos last_stamp) second at

pub target_words : (word first second : List ℕ) (reading : Reading) → SpellsReading (word ∷ first ∷ second ∷ []) reading → TargetWords first second reading
target_words word first second (readings.Play asked) s = let e = s.words.words in let none : ⊥ = cc in absurd none
target_words word first second (readings.Values asked) s = let e = s.words.words in let none : ⊥ = cc in absurd none
target_words word first second (readings.Track asked source) s = let e = s.words.words in let none : ⊥ = cc in absurd none
target_words word first second (readings.Sources m) s = let e = s.words in let none : ⊥ = cc in absurd none
target_words word first second (readings.Watch m) s = let e = s.words in let none : ⊥ = cc in absurd none
target_words word first second (readings.Runs m) s = let e = s.words in let none : ⊥ = cc in absurd none
target_words word first second (readings.Digest m) s = let e = s.words in let none : ⊥ = cc in absurd none
target_words word first second (readings.Wav asked) s = let e = s.words.words in let none : ⊥ = cc in absurd none
target_words word first second (readings.TimedWav asked) s = let e = s.words.words in let none : ⊥ = cc in absurd none
target_words word first second (readings.Picture asked block) s = let e = s.words.words in let none : ⊥ = cc in absurd none
target_words word first second (readings.Pictures asked) s = let e = s.words.words in let none : ⊥ = cc in absurd none
target_words word first second (readings.Targets m until) s =
    let p = s.words in
    let e : word ∷ first ∷ second ∷ [] ≡ codes "targets" ∷ medium_word m ∷ p.bound ∷ [] = p.words in
    let a : first ≡ medium_word m = cc in
    let b : p.bound ≡ second = cc in
    record { medium = m; at = until; is = refl; legal = s.legal; named = a; spelled = subst (λ (t : List ℕ). SpellsBound (pos last_stamp) t until) b p.spelled }

-- The table of ships of a medium and a stamp.
abbrev pub targets_of : Option (Medium × ℤ) → Option Reading
targets_of None = None
targets_of (Some last) = Some (readings.Targets last.0 last.1)

pub no_last : {P : Type 0} (r : Option (Medium × ℤ)) (last : Medium × ℤ) → r ≡ None → r ≡ Some last → P
no_last r last none is =
    let clash : None ≡ Some last = sym none ∙ is in
    let no : ⊥ = cc in absurd no

-- Texts that are told apart are no same texts.
pub not_other : (xs ys : List ℕ) (r : Bool) → r ≡ false → MatchBool r (xs ≡ ys) (xs ≢ ys) → xs ≢ ys
not_other xs ys true e told = let none : ⊥ = cc in absurd none
not_other xs ys false e told = told

-- Three letters tell the first word of a reading from that of every other command.
abbrev begins_reading : List ℕ → Bool
begins_reading [] = false
begins_reading (a ∷ []) = false
begins_reading (a ∷ b ∷ []) = false
begins_reading (a ∷ b ∷ c ∷ rest) =
    nat_eq a 118 || (nat_eq a 119 || (nat_eq a 100 || ((nat_eq a 112 && (nat_eq b 108 || nat_eq b 105)) || ((nat_eq a 115 && nat_eq b 111)
    || ((nat_eq a 116 && (nat_eq b 97 || nat_eq c 97)) || (nat_eq a 114 && nat_eq b 117))))))

abbrev first_word : List (List ℕ) → List ℕ
first_word [] = []
first_word (word ∷ rest) = word

begins : (texts words : List (List ℕ)) → texts ≡ words → begins_reading (first_word texts) ≡ begins_reading (first_word words)
begins texts words is = ap (λ (l : List (List ℕ)). begins_reading (first_word l)) is

reading_begins : (texts : List (List ℕ)) (reading : Reading) → (reads reading).words texts → begins_reading (first_word texts) ≡ true
reading_begins texts (readings.Play asked) s = begins texts _ s.words
reading_begins texts (readings.Values asked) s = begins texts _ s.words
reading_begins texts (readings.Track asked source) s = begins texts _ s.words
reading_begins texts (readings.Sources medium) s = begins texts _ s
reading_begins texts (readings.Watch medium) s = begins texts _ s
reading_begins texts (readings.Runs medium) s = begins texts _ s
reading_begins texts (readings.Digest medium) s = begins texts _ s
reading_begins texts (readings.Targets medium at) s = begins texts _ s.words
reading_begins texts (readings.Wav asked) s = begins texts _ s.words
reading_begins texts (readings.TimedWav asked) s = begins texts _ s.words
reading_begins texts (readings.Picture asked block) s = begins texts _ s.words
reading_begins texts (readings.Pictures asked) s = begins texts _ s.words

told_apart : {P : Type 0} (b : Bool) → b ≡ true → b ≡ false → P
told_apart b so not_so =
    let clash : true ≡ false = sym so ∙ not_so in
    let none : ⊥ = cc in absurd none

-- The third letter tells `rescue` from the word of every other command.
abbrev third_is_s : List ℕ → Bool
third_is_s [] = false
third_is_s (a ∷ []) = false
third_is_s (a ∷ b ∷ []) = false
third_is_s (a ∷ b ∷ c ∷ rest) = nat_eq c 115

not_rescue : {P : Type 0} (word other : List ℕ) → word ≡ codes "rescue" → word ≡ other → third_is_s other ≡ false → P
not_rescue word other is so differs = told_apart (third_is_s word) (ap third_is_s is) (ap third_is_s so ∙ differs)

-- Words of which the first is `rescue` are those of a reading behind it, or ask what a medium is.
pub record RescueWords (rest : List (List ℕ)) (command : Asked) : Type 0 where
  pub reading : Reading
  pub is : command ≡ Rescue reading
  pub spelled : SpellsReading rest reading

pub record InfoWords (rest : List (List ℕ)) (command : Asked) : Type 0 where
  pub medium : Medium
  pub is : command ≡ RescueInfo medium
  pub legal : IsWhole medium
  pub words : rest ≡ codes "info" ∷ medium_word medium ∷ []

-- No reading begins with `info`.
pub not_info : {P : Type 0} (texts words : List (List ℕ)) (reading : Reading) → texts ≡ codes "info" ∷ words → SpellsReading texts reading → P
not_info texts words reading is s = told_apart (begins_reading (first_word texts)) (reading_begins texts reading s.words) (begins texts _ is)

pub rescue_words : (word : List ℕ) (rest : List (List ℕ)) (command : Asked) → word ≡ codes "rescue" → Spells (word ∷ rest) command → RescueWords rest command ⊎ InfoWords rest command
rescue_words word rest (Review None) w s = not_rescue word (codes "review") w (first_same word (codes "review") rest _ s.words) refl
rescue_words word rest (Review (Some rate)) w s = not_rescue word (codes "review") w (first_same word (codes "review") rest _ s.words) refl
rescue_words word rest Check w s = not_rescue word (codes "check") w (first_same word (codes "check") rest _ s.words) refl
rescue_words word rest Import w s = not_rescue word (codes "import") w (first_same word (codes "import") rest _ s.words) refl
rescue_words word rest Packets w s = not_rescue word (codes "packets") w (first_same word (codes "packets") rest _ s.words) refl
rescue_words word rest Verify w s = not_rescue word (codes "verify") w (first_same word (codes "verify") rest _ s.words) refl
rescue_words word rest (Format true) w s = not_rescue word (codes "reformat") w (first_same word (codes "reformat") rest _ s.words) refl
rescue_words word rest (Format false) w s = not_rescue word (codes "format") w (first_same word (codes "format") rest _ s.words) refl
rescue_words word rest Replay w s = not_rescue word (codes "replay") w (first_same word (codes "replay") rest _ s.words) refl
rescue_words word rest (Evidence asked) w s = not_rescue word (codes "evidence") w (first_same word (codes "evidence") rest _ s.words.words) refl
rescue_words word rest (Page asked words) w s = not_rescue word (codes "page") w (first_same word (codes "page") rest _ s.words.words) refl
rescue_words word rest Info w s = not_rescue word (codes "info") w (first_same word (codes "info") rest _ s.words) refl
rescue_words word rest Compare w s = not_rescue word (codes "compare") w (first_same word (codes "compare") rest _ s.words) refl
rescue_words word rest Incidents w s = not_rescue word (codes "incidents") w (first_same word (codes "incidents") rest _ s.words) refl
rescue_words word rest (Save label) w s = not_rescue word (codes "save") w (first_same word (codes "save") rest _ s.words) refl
rescue_words word rest (Release id) w s = not_rescue word (codes "release") w (first_same word (codes "release") rest _ s.words) refl
rescue_words word rest (Trial seed count) w s = not_rescue word (codes "trial") w (first_same word (codes "trial") rest _ s.words) refl
rescue_words word rest (Read reading) w s = told_apart (begins_reading word) (reading_begins (word ∷ rest) reading s.words) (ap begins_reading w)
rescue_words word rest (Rescue reading) w s =
    let e : word ∷ rest ≡ codes "rescue" ∷ s.words.rest = s.words.words in
    let same : s.words.rest ≡ rest = cc in
    inl (record { reading = reading; is = refl; spelled = record { words = subst (λ (l : List (List ℕ)). (reads reading).words l) same s.words.spelled; legal = s.legal } })
rescue_words word rest (RescueInfo medium) w s =
    let e : word ∷ rest ≡ codes "rescue" ∷ codes "info" ∷ medium_word medium ∷ [] = s.words in
    let same : rest ≡ codes "info" ∷ medium_word medium ∷ [] = cc in
    inr (record { medium = medium; is = refl; legal = s.legal; words = same })

-- All others are no rescue.
pub plain_words : (word : List ℕ) (rest : List (List ℕ)) (command : Asked) → word ≢ codes "rescue" → Spells (word ∷ rest) command → IsPlain command
plain_words word rest (Review rate) other s = tt
plain_words word rest Check other s = tt
plain_words word rest (Format again) other s = tt
plain_words word rest Replay other s = tt
plain_words word rest (Read reading) other s = tt
plain_words word rest Incidents other s = tt
plain_words word rest Info other s = tt
plain_words word rest Compare other s = tt
plain_words word rest (Evidence asked) other s = tt
plain_words word rest (Page asked words) other s = tt
plain_words word rest (Save label) other s = tt
plain_words word rest (Release id) other s = tt
plain_words word rest (Trial seed count) other s = tt
plain_words word rest Import other s = tt
plain_words word rest Packets other s = tt
plain_words word rest Verify other s = tt
plain_words word rest (Rescue reading) other s =
    let e : word ∷ rest ≡ codes "rescue" ∷ s.words.rest = s.words.words in
    let same : word ≡ codes "rescue" = cc in
    absurd (other same)
plain_words word rest (RescueInfo medium) other s =
    let e : word ∷ rest ≡ codes "rescue" ∷ codes "info" ∷ medium_word medium ∷ [] = s.words in
    let same : word ≡ codes "rescue" = cc in
    absurd (other same)

-- No command has no word.
pub no_words : (command : Asked) → Spells [] command → ⊥
no_words (Review None) s = let e = s.words in cc
no_words (Review (Some rate)) s = let e = s.words in cc
no_words Check s = let e = s.words in cc
no_words Import s = let e = s.words in cc
no_words Packets s = let e = s.words in cc
no_words Verify s = let e = s.words in cc
no_words (Format true) s = let e = s.words in cc
no_words (Format false) s = let e = s.words in cc
no_words Replay s = let e = s.words in cc
no_words Incidents s = let e = s.words in cc
no_words Info s = let e = s.words in cc
no_words Compare s = let e = s.words in cc
no_words (Evidence asked) s = let e = s.words.words in cc
no_words (Page asked words) s = let e = s.words.words in cc
no_words (Save label) s = let e = s.words in cc
no_words (Release id) s = let e = s.words in cc
no_words (Trial seed count) s = let e = s.words in cc
no_words (Read reading) s = told_apart _ (reading_begins [] reading s.words) refl
no_words (Rescue reading) s = let e = s.words.words in cc
no_words (RescueInfo medium) s = let e = s.words in cc

-- What has no element is empty.
pub nothing_in : {A : Type 0} (xs : List A) → length xs ≡ 0 → xs ≡ []
nothing_in [] none = refl
nothing_in (x ∷ xs) none = let no : ⊥ = cc in absurd no

-- No reading is asked for.
pub none_read : {P : Type 0} (r : Option Told) (reading : Reading) → r ≡ None → option_map plain_reading r ≡ Some reading → P
none_read r reading none is =
    let clash : None ≡ Some reading = ap (λ (o : Option Told). option_map plain_reading o) (sym none) ∙ is in
    let no : ⊥ = cc in absurd no

-- The reading that is asked for is the one that was found.
pub some_rescue : (r : Option Told) (told : Told) (reading : Reading) → r ≡ Some told → option_map plain_reading r ≡ Some reading → ◌≡◌ {A = Option Asked} (Some (Rescue (plain_reading told))) (Some (Rescue reading))
some_rescue r told reading some is =
    ap (λ (o : Option Reading). option_map Rescue o) (ap (λ (o : Option Told). option_map plain_reading o) (sym some) ∙ is)

-- A medium by its name.
pub whole_named : (word : List ℕ) (medium : Medium) → IsWhole medium → word ≡ medium_word medium → ((word ≡ codes "capsule") × (medium ≡ Capsule)) ⊎ ((word ≡ codes "longterm") × (medium ≡ LongTerm))
whole_named word Capsule legal is = inl (is, refl)
whole_named word LongTerm legal is = inr (is, refl)
whole_named word (Incident id) legal is = absurd legal

-- Names of media are told apart by their first letter.
abbrev begins_with_c : List ℕ → Bool
begins_with_c [] = false
begins_with_c (a ∷ rest) = nat_eq a 99

pub not_both : {P : Type 0} (word : List ℕ) → word ≡ codes "capsule" → word ≡ codes "longterm" → P
not_both word a b = told_apart (begins_with_c word) (ap begins_with_c a) (ap begins_with_c b)

-- The medium that is asked for is the one that was found.
pub none_whole : {P : Type 0} (r : Option Medium) (medium : Medium) → r ≡ None → r ≡ Some medium → P
none_whole r medium none is =
    let clash : None ≡ Some medium = sym none ∙ is in
    let no : ⊥ = cc in absurd no

pub one_whole : (r : Option Medium) (found medium : Medium) (command : Asked) → r ≡ Some found → r ≡ Some medium → command ≡ RescueInfo medium → ◌≡◌ {A = Option Asked} (Some (RescueInfo found)) (Some command)
one_whole r found medium command some is asks =
    ap (λ (o : Option Medium). option_map RescueInfo o) (sym some ∙ is) ∙ ap (λ (a : Asked). Some a) (sym asks)
