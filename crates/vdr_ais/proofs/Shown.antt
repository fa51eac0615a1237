-- What a table shows once it has taken one more line.
use Rattle.std.proofs.Common.{◌≡◌, ◌∙◌, ◌++◌, ℕ, ℤ, List, [], ◌∷◌, length, Option, Some, None, refl, sym, ap, subst, if◌then◌else◌, unwrap_or, codes, Ok, filter_map, All, fold, append_assoc, ◌+◌}
use Rattle.std.specs.List.{cons_option}
use Rattle.std.proofs.lemmas.List.{append-nil, length-append}
use Rattle.std.proofs.lemmas.List.Elements.{All-nil, All-push}
use Rattle.vdr_tag.specs.Values.{TagValues}
use Rattle.vdr_sentence.specs.Refusals.{SentenceText}
use Rattle.vdr_values.specs.Readings.{Reading, reading}
use Rattle.vdr_datagram.specs.Verdicts.{LineSpan, Good}
use Rattle.vdr_datagram.specs.Views.{lines_left, span_of}
use Rattle.vdr_datagram.specs.declared.line.Line.{Line as ALine}
use Rattle.vdr_datagram.specs.declared.line_iterator.Lines.{Lines}
use Rattle.vdr_ais.specs.Bits.{Message}
use Rattle.vdr_ais.specs.Lines.{Key, Line, is_same, line_in, line_of, line_where}
use Rattle.vdr_ais.specs.Messages.{message_behind}
use Rattle.vdr_ais.specs.Pending.{AreEntries, Entries, HasPlace, ended_by, next_pending, pending_in}
use Rattle.vdr_ais.specs.Tables.{Shows, Table, table_of}
use Rattle.vdr_ais.specs.Targets.{Seen, Ships, if_ended, with_line}
use Rattle.vdr_ais.proofs.Begun.{read_all, read_begun}
use Rattle.vdr_ais.proofs.Looking.{ends_so, read_more}

-- A good line whose sentence is read.
pub good_line : (group : ℕ) (tags : TagValues) (sentence : SentenceText) (r : Reading) (source : List ℕ) → reading sentence.content ≡ Ok (Some r) → source ≡ unwrap_or tags.source (codes "-")
    → line_of group source r ≡ line_in group (Good tags sentence)
good_line group tags sentence r source read named = ap (λ s. line_of group s r) named ∙ sym (ap (line_where group (unwrap_or tags.source (codes "-"))) read)

pub shows_more : (utc : ℤ) (seen : Seen) (line : Line) (es new : Entries) (ships more : Ships) (message : Option Message) → AreEntries es → AreEntries new
    → ((q : Key) → pending_in new q ≡ (if is_same q line.key then next_pending (pending_in es line.key) line.part else pending_in es q)) → message ≡ ended_by (pending_in es line.key) line.part
    → more ≡ if_ended utc ships message → Shows seen (table_of es ships) → Shows (with_line utc seen line) (table_of new more)
shows_more utc seen line es new ships more message e n next ended is h =
    let before = read_all seen.back es e h.read in
    record {
      read = read_begun (line ∷ seen.back) new n (read_more seen.back line es new before next);
      ships = is ∙ ap (if_ended utc ships) (ended ∙ sym (ends_so seen.back line es before)) ∙ ap (λ (s : Ships). if_ended utc s (message_behind seen.back line)) h.ships;
    }

-- The lines that an iterator has not given.
abbrev pub left : ℕ → Lines → List Line
left group it = filter_map (λ (s : LineSpan). line_in group s.verdict) (lines_left it)

-- One of them is next, or none.
pub left_first : (group : ℕ) (it next : Lines) (l : ALine) (line : Line) → lines_left it ≡ span_of l ∷ lines_left next → line_in group (span_of l).verdict ≡ Some line → left group it ≡ line ∷ left group next
left_first group it next l line is carried =
    ap (filter_map (λ (s : LineSpan). line_in group s.verdict)) is ∙ ap (λ (o : Option Line). cons_option o (left group next)) carried

pub left_other : (group : ℕ) (it next : Lines) (l : ALine) → lines_left it ≡ span_of l ∷ lines_left next → line_in group (span_of l).verdict ≡ None → left group it ≡ left group next
left_other group it next l is carried =
    ap (filter_map (λ (s : LineSpan). line_in group s.verdict)) is ∙ ap (λ (o : Option Line). cons_option o (left group next)) carried

abbrev pub PlaceFor : Entries → Line → Type 0
PlaceFor es line = HasPlace es line.key

-- The lines for which there is room, and those that are left.
pub record HasRoom (es : Entries) (all rest : List Line) (count : ℕ) : Type 0 where
  pub done : List Line
  pub split : all ≡ done ++ rest
  pub room : All (PlaceFor es) done
  pub counted : count ≡ length done

pub room_none : (es : Entries) (all rest : List Line) → rest ≡ all → HasRoom es all rest 0
room_none es all rest is = record { done = []; split = sym is; room = All-nil (PlaceFor es); counted = refl }

pub room_same : (es : Entries) (all rest next : List Line) (count : ℕ) → rest ≡ next → HasRoom es all rest count → HasRoom es all next count
room_same es all rest next count is h = record { done = h.done; split = h.split ∙ ap (λ xs. h.done ++ xs) is; room = h.room; counted = h.counted }

pub room_more : (es new : Entries) (all rest next : List Line) (line : Line) (count more : ℕ) → rest ≡ line ∷ next → ((key : Key) → HasPlace es key → HasPlace new key) → HasPlace new line.key → more ≡ count + 1
    → HasRoom es all rest count → HasRoom new all next more
room_more es new all rest next line count more is stays here one h = record {
  done = h.done ++ line ∷ [];
  split = h.split ∙ ap (λ xs. h.done ++ xs) is ∙ sym (append_assoc h.done (line ∷ []) next);
  room = All-push (PlaceFor new) h.done line (λ k d lt. stays _ (h.room k d lt)) here;
  counted = one ∙ ap (λ n. n + 1) h.counted ∙ sym (length-append h.done (line ∷ []));
}

pub room_all : (es : Entries) (all rest : List Line) (count : ℕ) → rest ≡ [] → HasRoom es all rest count → All (PlaceFor es) all × (count ≡ length all)
room_all es all rest count none h =
    let is : h.done ≡ all = sym (h.split ∙ ap (λ xs. h.done ++ xs) none ∙ append-nil h.done) in
    (subst (All (PlaceFor es)) is h.room, h.counted ∙ ap length is)

-- What is left to take, from what was seen on.
abbrev pub IsOnWay : (utc : ℤ) → Table → Table → (all rest : List Line) → Type 0
IsOnWay utc before now all rest = (seen : Seen) → Shows seen before → (later : Seen) × Shows later now × (fold (with_line utc) later rest ≡ fold (with_line utc) seen all)

pub way_start : (utc : ℤ) (before : Table) (all rest : List Line) → rest ≡ all → IsOnWay utc before before all rest
way_start utc before all rest is seen h = (seen, h, ap (fold (with_line utc) seen) is)

pub way_same : (utc : ℤ) (before now : Table) (all rest next : List Line) → rest ≡ next → IsOnWay utc before now all rest → IsOnWay utc before now all next
way_same utc before now all rest next is way seen h = let w = way seen h in (w.0, w.1, ap (fold (with_line utc) w.0) (sym is) ∙ w.2)

pub way_more : (utc : ℤ) (before now new : Table) (all rest next : List Line) (line : Line) → rest ≡ line ∷ next → ((seen : Seen) → Shows seen now → Shows (with_line utc seen line) new)
    → IsOnWay utc before now all rest → IsOnWay utc before new all next
way_more utc before now new all rest next line is step way seen h =
    let w = way seen h in (with_line utc w.0 line, step w.0 w.1, sym (ap (fold (with_line utc) w.0) is) ∙ w.2)

pub way_end : (utc : ℤ) (before now : Table) (all rest : List Line) → rest ≡ [] → IsOnWay utc before now all rest → (seen : Seen) → Shows seen before → Shows (fold (with_line utc) seen all) now
way_end utc before now all rest none way seen h =
    let w = way seen h in subst (λ (s : Seen). Shows s now) (sym (ap (fold (with_line utc) w.0) none) ∙ w.2) w.1
