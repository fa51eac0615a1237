-- What a record shows, and what is kept behind it.
use Rattle.std.proofs.Common.{◌≡◌, ◌∙◌, ◌++◌, ℕ, List, [], ◌∷◌, fold, Some, ap, refl, append_assoc, sym}
use Rattle.std.specs.Prelude.{option_map}
use Rattle.std.proofs.lemmas.List.{append-nil}
use Rattle.std.proofs.lemmas.List.Sums.{fold-append}
use Rattle.vdr_terms.specs.Records.{Record, last, last_after}
use Rattle.vdr_terms.specs.Records.Content.{Datagram}
use Rattle.vdr_alerts.specs.Boards.{Board}
use Rattle.vdr_alerts.specs.Lines.{Mark, mark_of}
use Rattle.vdr_watch.specs.Kept.{AreKept, Kept, kept_of}
use Rattle.vdr_watch.specs.Signs.{Alarm, Heartbeat, Sign, signs_in, signs_of, signs_said}
use Rattle.vdr_watch.specs.Supervision.{board_of, latest, met_after, met_in, states}
use Rattle.vdr_watch.specs.Texts.{record_text, records_text, signs_text}

-- A Datagram shows what its lines show.
pub datagram_told : (r : Record) (m : Mark) (group : ℕ) (payload : List ℕ) (met : List Sign) → m ≡ mark_of r → group ≡ r.group → Datagram payload ≡ r.content
    → signs_text m met (signs_in group m.tick payload) ≡ record_text met r
datagram_told r m group payload met e f said = λ i. let at : Mark = e i in signs_text at met (signs_said (f i) at.tick (said i))

last_end : (x : Record) (xs : List Record) (r : Record) → last_after x (xs ++ r ∷ []) ≡ r
last_end x [] r = refl
last_end x (y ∷ ys) r = last_end y ys r

last_of : (xs : List Record) (r : Record) → last (xs ++ r ∷ []) ≡ Some r
last_of [] r = refl
last_of (x ∷ xs) r = ap (λ (l : Record). Some l) (last_end x xs r)

pub met_with : (before : List Record) (r : Record) → met_in (before ++ r ∷ []) ≡ met_after (met_in before) (signs_of r)
met_with before r = fold-append (λ met r. met_after met (signs_of r)) [] before (r ∷ [])

-- What is kept once a record was met.
pub kept_with : (before : List Record) (r : Record) (beats : List Heartbeat) (alarms : List Alarm) (board : Board) (m : Mark) → AreKept (met_after (met_in before) (signs_of r)) beats alarms board
    → m ≡ mark_of r → ◌≡◌ {A = Kept} (record { heartbeats = beats; alarms = alarms; board = board; last = Some m }) (kept_of (before ++ r ∷ []))
kept_with before r beats alarms board m kept e =
    let b : beats ≡ latest (met_in (before ++ r ∷ [])) = kept.beats ∙ sym (ap latest (met_with before r)) in
    let a : alarms ≡ states (met_in (before ++ r ∷ [])) = kept.states ∙ sym (ap states (met_with before r)) in
    let k : board ≡ board_of (met_in (before ++ r ∷ [])) = kept.alerts ∙ sym (ap board_of (met_with before r)) in
    let l : Some m ≡ option_map mark_of (last (before ++ r ∷ [])) = ap (λ (m : Mark). Some m) e ∙ sym (ap (option_map mark_of) (last_of before r)) in
    λ i. record { heartbeats = b i; alarms = a i; board = k i; last = l i }

met_from : List Sign → List Record → List Sign
met_from met records = fold (λ met r. met_after met (signs_of r)) met records

more_from : (met : List Sign) (before : List Record) (r : Record) → records_text met (before ++ r ∷ []) ≡ records_text met before ++ record_text (met_from met before) r
unfolding met_from
more_from met [] r = append-nil (record_text met r)
more_from met (x ∷ xs) r = ap (λ (text : List ℕ). record_text met x ++ text) (more_from (met_after met (signs_of x)) xs r)
    ∙ sym (append_assoc (record_text met x) (records_text (met_after met (signs_of x)) xs) (record_text (met_from (met_after met (signs_of x)) xs) r))

-- What records show, with one more.
pub text_with : (before : List Record) (r : Record) → records_text [] (before ++ r ∷ []) ≡ records_text [] before ++ record_text (met_in before) r
unfolding met_from
text_with before r = more_from [] before r
