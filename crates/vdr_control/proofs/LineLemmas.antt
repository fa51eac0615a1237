-- A line asks for one order at most.
use Rattle.std.proofs.Common.{◌≡◌, ◌≤◌, ◌<◌, ◌+◌, ◌*◌, ◌==◌, ℕ, ℤ, Bool, pos, List, [], ◌∷◌, ◌++◌, length, get_or, drop, codes, decimal, refl, ap, subst, sym, ◌∙◌, arith}
use Rattle.std.specs.Prelude.{if◌then◌else◌, IfNone, Option, None, Some}
use Rattle.std.proofs.lemmas.Fmt.{decimal_injective}
use Rattle.vdr_terms.specs.Stamps.{last_stamp}
use Rattle.vdr_entry.specs.declared.query.Medium.{Medium}
use Rattle.vdr_control.specs.Lines.{AsksFor, IsPlayLine, IsTargetsLine}
use Rattle.vdr_control.specs.Words.{words}
use Rattle.vdr_control.specs.Orders.{PlainOrder}
use Rattle.vdr_control.specs.Orders.PlainOrder.{Status, Save, Release, Incidents, Play, Evidence, Tell}
use Rattle.vdr_control.specs.Orders.PlainOrder.{Health}
use Rattle.vdr_control.specs.Orders.PlainOrder.{Export}
use Rattle.vdr_control.specs.Exports.{IsExportLine}
use Rattle.vdr_control.specs.declared.export.Exporting.{Exporting}
use Rattle.vdr_control.specs.declared.export.Exporting.TheVariants.{Picture, Sound}
use Rattle.vdr_control.proofs.ExportLemmas.{one_picture_line, one_sound_line}
use Rattle.vdr_control.specs.Plays.{IsMedium, SpellsBound, SpellsPlay, medium_word}
use Rattle.vdr_control.specs.declared.order.Telling.{Telling}
use Rattle.vdr_control.specs.declared.order.Telling.TheVariants.{Sources, Watch, Targets, Digest}
use Rattle.vdr_control.proofs.PlayLemmas.{HaveOwnTexts, one_bound, one_medium}

-- Words spell one play at most.
abbrev pub OnePlay : Type 0
OnePlay = (medium channel from to : List ℕ) (a b : PlainOrder) → SpellsPlay medium channel from to a → SpellsPlay medium channel from to b → a ≡ b

-- What kind of order it is.
data Kind : Type 0 where
  OfStatus : Kind
  OfSave : Kind
  OfRelease : Kind
  OfIncidents : Kind
  OfHealth : Kind
  OfPlay : Kind
  OfEvidence : Kind
  OfSources : Kind
  OfWatch : Kind
  OfTargets : Kind
  OfDigest : Kind
  OfSound : Kind
  OfPicture : Kind

abbrev kind : PlainOrder → Kind
kind Status = OfStatus
kind (Save label) = OfSave
kind (Release id) = OfRelease
kind Incidents = OfIncidents
kind Health = OfHealth
kind (Play medium channel from to) = OfPlay
kind (Evidence id) = OfEvidence
kind (Tell medium Sources) = OfSources
kind (Tell medium Watch) = OfWatch
kind (Tell medium (Targets at)) = OfTargets
kind (Tell medium Digest) = OfDigest
kind (Export medium channel from to (Sound timed)) = OfSound
kind (Export medium channel from to (Picture source block)) = OfPicture

-- The first and the third letter of a line tell which it is.
letters : List ℕ → ℕ
letters line = get_or line 0 0 * 100 + get_or line 2 0

kind_by : ℕ → Kind
kind_by n =
    if n == 8365 then OfStatus else if n == 8386 then OfSave else if n == 8276 then OfRelease else if n == 7367 then OfIncidents else if n == 8065 then OfPlay else if n == 6973 then OfEvidence else
    if n == 7265 then OfHealth else
    if n == 8385 then OfSources else if n == 8784 then OfWatch else if n == 8482 then OfTargets else
    if n == 8786 then OfSound else if n == 8067 then OfPicture else OfDigest

kind_of_line : (line : List ℕ) (a : PlainOrder) → AsksFor line a → kind_by (letters line) ≡ kind a
unfolding letters kind_by
kind_of_line line Status asks = ap (λ (l : List ℕ). kind_by (letters l)) asks
kind_of_line line (Save label) asks = ap (λ (l : List ℕ). kind_by (letters l)) asks
kind_of_line line (Release id) asks = ap (λ (l : List ℕ). kind_by (letters l)) asks.2
kind_of_line line Incidents asks = ap (λ (l : List ℕ). kind_by (letters l)) asks
kind_of_line line Health asks = ap (λ (l : List ℕ). kind_by (letters l)) asks
kind_of_line line (Play medium channel from to) asks = ap (λ (l : List ℕ). kind_by (letters l)) asks.begins
kind_of_line line (Evidence id) asks = ap (λ (l : List ℕ). kind_by (letters l)) asks.2
kind_of_line line (Tell medium Sources) asks = ap (λ (l : List ℕ). kind_by (letters l)) asks.1
kind_of_line line (Tell medium Watch) asks = ap (λ (l : List ℕ). kind_by (letters l)) asks.1
kind_of_line line (Tell medium (Targets at)) asks = ap (λ (l : List ℕ). kind_by (letters l)) asks.1.begins
kind_of_line line (Tell medium Digest) asks = ap (λ (l : List ℕ). kind_by (letters l)) asks.1
kind_of_line line (Export medium channel from to (Sound timed)) asks = ap (λ (l : List ℕ). kind_by (letters l)) asks.begins
kind_of_line line (Export medium channel from to (Picture source block)) asks = ap (λ (l : List ℕ). kind_by (letters l)) asks.begins

-- It is an order of this kind.
abbrev Is : Kind → PlainOrder → Type 0
Is OfStatus b = b ≡ Status
Is OfSave b = (label : List ℕ) × (b ≡ Save label)
Is OfRelease b = (id : ℕ) × (b ≡ Release id)
Is OfIncidents b = b ≡ Incidents
Is OfHealth b = b ≡ Health
Is OfPlay b = (medium : Medium) × (channel : List ℕ) × (from : ℤ) × (to : ℤ) × (b ≡ Play medium channel from to)
Is OfEvidence b = (id : ℕ) × (b ≡ Evidence id)
Is OfSources b = (medium : Medium) × (b ≡ Tell medium Sources)
Is OfWatch b = (medium : Medium) × (b ≡ Tell medium Watch)
Is OfTargets b = (medium : Medium) × (at : ℤ) × (b ≡ Tell medium (Targets at))
Is OfDigest b = (medium : Medium) × (b ≡ Tell medium Digest)
Is OfSound b = (medium : Medium) × (channel : List ℕ) × (from : ℤ) × (to : ℤ) × (timed : Bool) × (b ≡ Export medium channel from to (Sound timed))
Is OfPicture b = (medium : Medium) × (channel : List ℕ) × (from : ℤ) × (to : ℤ) × (source : List ℕ) × (block : ℕ) × (b ≡ Export medium channel from to (Picture source block))

is : (b : PlainOrder) → Is (kind b) b
is Status = refl
is (Save label) = (label, refl)
is (Release id) = (id, refl)
is Incidents = refl
is Health = refl
is (Play medium channel from to) = (medium, channel, from, to, refl)
is (Evidence id) = (id, refl)
is (Tell medium Sources) = (medium, refl)
is (Tell medium Watch) = (medium, refl)
is (Tell medium (Targets at)) = (medium, at, refl)
is (Tell medium Digest) = (medium, refl)
is (Export medium channel from to (Sound timed)) = (medium, channel, from, to, timed, refl)
is (Export medium channel from to (Picture source block)) = (medium, channel, from, to, source, block, refl)

other : (line : List ℕ) (a b : PlainOrder) → AsksFor line a → AsksFor line b → Is (kind a) b
other line a b x y = subst (λ (k : Kind). Is k b) (sym (kind_of_line line b y) ∙ kind_of_line line a x) (is b)

asks_so : (line : List ℕ) (a b : PlainOrder) → a ≡ b → AsksFor line a → AsksFor line b
asks_so line a b same asks = subst (λ (order : PlainOrder). AsksFor line order) same asks

-- The words of a list.

word : ℕ → List (List ℕ) → List ℕ
word n list = get_or list n []

one_play_line : OnePlay → (line : List ℕ) (a b : PlainOrder) → IsPlayLine line a → IsPlayLine line b → a ≡ b
unfolding word
one_play_line own line a b x y =
    let rest : y.rest ≡ x.rest = ap (λ (l : List ℕ). drop 5 l) (sym y.begins ∙ x.begins) in
    let cut : y.medium ∷ y.channel ∷ y.from ∷ y.to ∷ [] ≡ x.medium ∷ x.channel ∷ x.from ∷ x.to ∷ [] = sym y.cut ∙ ap words rest ∙ x.cut in
    let medium : y.medium ≡ x.medium = ap (word 0) cut in
    let channel : y.channel ≡ x.channel = ap (word 1) cut in
    let from : y.from ≡ x.from = ap (word 2) cut in
    let to : y.to ≡ x.to = ap (word 3) cut in
    let moved : SpellsPlay x.medium x.channel x.from x.to b =
    subst (λ (w : List ℕ × List ℕ × List ℕ × List ℕ). SpellsPlay w.0 w.1 w.2 w.3 b) (λ i. (medium i, channel i, from i, to i)) y.spelled in
    own x.medium x.channel x.from x.to a b x.spelled moved

-- What stands behind `TARGETS`, in words.
pub targets_rest : (line rest : List ℕ) (medium : Medium) (at : ℤ) → line ≡ codes "TARGETS " ++ rest → (x : IsTargetsLine line medium at) → words rest ≡ medium_word medium ∷ x.bound ∷ []
targets_rest line rest medium at begins x = ap words (ap (λ (l : List ℕ). drop 8 l) (sym begins ∙ x.begins)) ∙ x.cut

pub targets_line : (line rest first second : List ℕ) (medium : Medium) (at : ℤ) → line ≡ codes "TARGETS " ++ rest → words rest ≡ first ∷ second ∷ [] → first ≡ medium_word medium
    → SpellsBound (pos last_stamp) second at → IsTargetsLine line medium at
targets_line line rest first second medium at begins cut is spelled =
    record { rest = rest; bound = second; begins = begins; cut = cut ∙ ap (λ (w : List ℕ). w ∷ second ∷ []) is; spelled = spelled }

-- What two words there are.
pub targets_words : (line rest first second : List ℕ) (medium : Medium) (at : ℤ) → line ≡ codes "TARGETS " ++ rest → words rest ≡ first ∷ second ∷ []
    → IsTargetsLine line medium at → (first ≡ medium_word medium) × SpellsBound (pos last_stamp) second at
unfolding word
targets_words line rest first second medium at begins cut x =
    let all : first ∷ second ∷ [] ≡ medium_word medium ∷ x.bound ∷ [] = sym cut ∙ targets_rest line rest medium at begins x in
    (ap (word 0) all, subst (λ (bound : List ℕ). SpellsBound (pos last_stamp) bound at) (sym (ap (word 1) all)) x.spelled)

one_targets_line : HaveOwnTexts → (line : List ℕ) (m n : Medium) (a b : ℤ) → IsMedium m → IsMedium n → IsTargetsLine line m a → IsTargetsLine line n b → Tell m (Targets a) ≡ Tell n (Targets b)
one_targets_line own line m n a b of_m of_n x y =
    let w = targets_words line x.rest (medium_word m) x.bound n b x.begins x.cut y in
    let medium : m ≡ n = one_medium m n of_m of_n w.0 in
    let at : a ≡ b = one_bound own (pos last_stamp) x.bound a b x.spelled w.1 in
    λ i. Tell (medium i) (Targets (at i))

one_tell : (n : ℕ) (front line : List ℕ) (telling : Telling) (a b : Medium) → ((rest : List ℕ) → drop n (front ++ rest) ≡ rest) → IsMedium a → IsMedium b
    → line ≡ front ++ medium_word a → line ≡ front ++ medium_word b → Tell a telling ≡ Tell b telling
one_tell n front line telling a b behind of_a of_b x y =
    ap (λ (m : Medium). Tell m telling) (one_medium a b of_a of_b (sym (behind (medium_word a)) ∙ ap (λ (l : List ℕ). drop n l) (sym x ∙ y) ∙ behind (medium_word b)))

pub one_order : OnePlay → HaveOwnTexts → (line : List ℕ) (a b : PlainOrder) → AsksFor line a → AsksFor line b → a ≡ b
one_order own texts line Status b x y = sym (other line Status b x y)
one_order own texts line Incidents b x y = sym (other line Incidents b x y)
one_order own texts line Health b x y = sym (other line Health b x y)
one_order own texts line (Save a) b x y =
    let o = other line (Save a) b x y in let z = asks_so line b (Save o.0) o.1 y in ap Save (ap (λ (l : List ℕ). drop 5 l) (sym x ∙ z)) ∙ sym o.1
one_order own texts line (Release a) b x y =
    let o = other line (Release a) b x y in
    let z = asks_so line b (Release o.0) o.1 y in
    ap Release (decimal_injective a o.0 (omega (arith, x.1)) (omega (arith, z.1)) (ap (λ (l : List ℕ). drop 8 l) (sym x.2 ∙ z.2))) ∙ sym o.1
one_order own texts line (Play m c f t) b x y =
    let o = other line (Play m c f t) b x y in
    let z = asks_so line b (Play o.0 o.1 o.2 o.3) o.4 y in
    one_play_line own line (Play m c f t) (Play o.0 o.1 o.2 o.3) x z ∙ sym o.4
one_order own texts line (Evidence a) b x y =
    let o = other line (Evidence a) b x y in
    let z = asks_so line b (Evidence o.0) o.1 y in
    ap Evidence (decimal_injective a o.0 (omega (arith, x.1)) (omega (arith, z.1)) (ap (λ (l : List ℕ). drop 18 l) (sym x.2 ∙ z.2))) ∙ sym o.1
one_order own texts line (Tell m Sources) b x y =
    let o = other line (Tell m Sources) b x y in
    let z = asks_so line b (Tell o.0 Sources) o.1 y in
    one_tell 8 (codes "SOURCES ") line Sources m o.0 (λ rest. refl) x.0 z.0 x.1 z.1 ∙ sym o.1
one_order own texts line (Tell m Watch) b x y =
    let o = other line (Tell m Watch) b x y in
    let z = asks_so line b (Tell o.0 Watch) o.1 y in
    one_tell 6 (codes "WATCH ") line Watch m o.0 (λ rest. refl) x.0 z.0 x.1 z.1 ∙ sym o.1
one_order own texts line (Tell m Digest) b x y =
    let o = other line (Tell m Digest) b x y in
    let z = asks_so line b (Tell o.0 Digest) o.1 y in
    one_tell 7 (codes "DIGEST ") line Digest m o.0 (λ rest. refl) x.0 z.0 x.1 z.1 ∙ sym o.1
one_order own texts line (Tell m (Targets at)) b x y =
    let o = other line (Tell m (Targets at)) b x y in
    let z = asks_so line b (Tell o.0 (Targets o.1)) o.2 y in
    one_targets_line texts line m o.0 at o.1 x.0 z.0 x.1 z.1 ∙ sym o.2
one_order own texts line (Export m c f t (Sound timed)) b x y =
    let o = other line (Export m c f t (Sound timed)) b x y in
    let z = asks_so line b (Export o.0 o.1 o.2 o.3 (Sound o.4)) o.5 y in
    one_sound_line texts line m o.0 c o.1 f o.2 t o.3 timed o.4 x z ∙ sym o.5
one_order own texts line (Export m c f t (Picture source block)) b x y =
    let o = other line (Export m c f t (Picture source block)) b x y in
    let z = asks_so line b (Export o.0 o.1 o.2 o.3 (Picture o.4 o.5)) o.6 y in
    one_picture_line texts line m o.0 c o.1 f o.2 t o.3 source o.4 block o.5 x z ∙ sym o.6

-- ---- a line that asks for none

pub none_so : {A P Q : Type 0} (o : Option A) → (P → Q) → IfNone o P → IfNone o Q
none_so None f p = f p
none_so (Some x) f p = tt

pub no_order : (line : List ℕ) → (line ≡ codes "STATUS" → ⊥) → (line ≡ codes "INCIDENTS" → ⊥) → (line ≡ codes "HEALTH" → ⊥) → ((label : List ℕ) → line ≡ codes "SAVE " ++ label → ⊥)
    → ((id : ℕ) → AsksFor line (Release id) → ⊥) → ((id : ℕ) → AsksFor line (Evidence id) → ⊥) → ((order : PlainOrder) → IsPlayLine line order → ⊥)
    → ((medium : Medium) (channel : List ℕ) (from to : ℤ) (exporting : Exporting) → IsExportLine line medium channel from to exporting → ⊥)
    → ((medium : Medium) (telling : Telling) → AsksFor line (Tell medium telling) → ⊥) → (order : PlainOrder) → AsksFor line order → ⊥
no_order line status list health save release evidence play export tell Status asks = status asks
no_order line status list health save release evidence play export tell (Save label) asks = save label asks
no_order line status list health save release evidence play export tell (Release id) asks = release id asks
no_order line status list health save release evidence play export tell Incidents asks = list asks
no_order line status list health save release evidence play export tell Health asks = health asks
no_order line status list health save release evidence play export tell (Play medium channel from to) asks = play (Play medium channel from to) asks
no_order line status list health save release evidence play export tell (Evidence id) asks = evidence id asks
no_order line status list health save release evidence play export tell (Tell medium telling) asks = tell medium telling asks
no_order line status list health save release evidence play export tell (Export medium channel from to exporting) asks = export medium channel from to exporting asks
