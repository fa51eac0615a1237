-- Each item takes the reader on in the capture, and its spelling is gathered.
use Rattle.std.proofs.Common.{◌≡◌, ◌∙◌, ◌++◌, List, [], Option, ℕ, ap, sym, subst, arith, rules}
use Rattle.std.specs.Io.KnownBytes.{prepend_known}
use Rattle.std.specs.Prelude.{⊤}
use Rattle.std.proofs.KnownBytes.{prepend_known-nil}
use Rattle.vdr_terms.specs.Records.{FeedItem}
use Rattle.vdr_feed.specs.Feed.{feed_header, spelling}
use Rattle.vdr_outside.specs.Writes.{AppendsFront}
use Rattle.vdr_pcap.specs.Capture.{Part}
use Rattle.vdr_pcap.specs.Reader.{Reading}
use Rattle.vdr_pcap.specs.Taken.{item_held}
use Rattle.vdr_import.specs.Imports.{imported}
use Rattle.vdr_import.specs.Progress.{HasRead}
use Rattle.vdr_import.specs.Relayed.{Gathers, held_in}
use Rattle.vdr_import.proofs.Progress.{first_refused, gave_false, gave_true, imports_more, imports_same, read_first, read_next, read_part, read_whole, refused_as, refusal_told}
use Rattle.vdr_import.proofs.Gathering.{ended_so, front_of_more}
use Rattle.vdr_import.proofs.Relaying.{end_behind, gathers_all, gathers_more, gathers_on, gathers_some}
use Rattle.vdr_import.proofs.importing.gather_feed.Goals as goal

pub items-init : goal.items-init
items-init g c =
    let first = read_first _ _ _ _ (ap (λ (r : Reading). r.limit) c.requires.reader) c.in-Ok.ensures.gave in
    let left : Option (List ℕ) = g.I.Source.left c.header.new.input in
    let same : left ≡ prepend_known (held_in c.args.buffers.now.ahead) left = sym (prepend_known-nil left) ∙ ap (λ (b : List ℕ). prepend_known b left) (sym c.requires.ahead) in
    let header : held_in c.args.buffers.now.gathered ++ feed_header ≡ imported first.0 = ap (λ (b : List ℕ). b ++ feed_header) c.requires.waiting ∙ sym first.2 in
    record {
      read = record {
        parts = first.0;
        read = subst (λ (x : Option (List ℕ)). HasRead (g.I.Source.left c.args.input.now) x c.header.new.self first.0) same first.1;
        gathers = subst (λ (t : List ℕ). Gathers (g.O.Sink.taken c.args.output.now) (g.O.Sink.taken c.push.new.output) t (held_in c.push.new.self)) header c.in-Ok-push.ensures.all;
      };
      later_input = search rules;
      later_output = search rules;
    }

pub items-smaller : goal.items-smaller
items-smaller g c =
    let gave = gave_true _ _ c.gather_ahead.new.reader c.next_item.new.reader _ c.in-Ok-true.field-0 c.in-Ok-true.field-0-test c.in-Ok-true.ensures.gives in
    let ahead = c.in-Ok-gather_ahead.ensures.goes_on (g.I.Source.left c.args.input.now) (g.I.Source.left c.items.input) (g.O.Sink.taken c.args.output.now) c.items.invariant.read in
    let read = ahead.0 in
    let next = read_next _ _ _ _ _ read.parts _ read.read gave.0 gave.1 in
    omega (arith, ahead.1, next.grown, read.read.few)

pub returns-in-Ok-false-clause-gathers : goal.returns-in-Ok-false-clause-gathers
returns-in-Ok-false-clause-gathers g c =
    let gave = gave_false _ _ c.gather_ahead.new.reader c.next_item.new.reader _ c.in-Ok-false.field-0 c.in-Ok-false.field-0-test c.in-Ok-false.ensures.gives in
    let ahead = c.in-Ok-gather_ahead.ensures.goes_on (g.I.Source.left c.args.input.now) (g.I.Source.left c.items.input) (g.O.Sink.taken c.args.output.now) c.items.invariant.read in
    let read = ahead.0 in
    let next = read_next _ _ _ _ _ read.parts _ read.read gave.0 gave.3 in
    let gathered = gathers_on _ _ _ _ _ _ read.gathers c.in-Ok-false.ensures.gathers in (
      end_behind _ _ gave.1,
      read_whole (λ parts. Gathers (g.O.Sink.taken c.args.output.now) (g.O.Sink.taken c.next_item.new.output) (imported parts) (held_in c.next_item.new.buffers.gathered)) _ _ _ _ next.all next.read gave.1 read.read.limit gave.2
          (subst (λ (t : List ℕ). Gathers (g.O.Sink.taken c.args.output.now) (g.O.Sink.taken c.next_item.new.output) t (held_in c.next_item.new.buffers.gathered))
          (sym (imports_same read.parts next.all read.read.begins next.imports)) gathered),
    )

pub returns-in-Err-next_item-clause-gathers : goal.returns-in-Err-next_item-clause-gathers
returns-in-Err-next_item-clause-gathers g c =
    let ahead = c.in-Ok-gather_ahead.ensures.goes_on (g.I.Source.left c.args.input.now) (g.I.Source.left c.items.input) (g.O.Sink.taken c.args.output.now) c.items.invariant.read in
    let read = ahead.0 in
    ended_so (g.I.Source.left c.args.input.now) (prepend_known (held_in c.gather_ahead.new.ahead) (g.I.Source.left c.items.input))
    (prepend_known (held_in c.next_item.new.buffers.ahead) (g.I.Source.left c.next_item.new.input)) (g.I.Source.left c.next_item.new.input) c.gather_ahead.new.reader c.next_item.new.reader c.next_item.new.into
    (g.O.Sink.taken c.args.output.now) (g.O.Sink.taken c.gather_ahead.new.output) (g.O.Sink.taken c.next_item.new.output) (held_in c.gather_ahead.new.gathered) (held_in c.next_item.new.buffers.gathered) c.in-Err-next_item.refused read.parts read.read read.gathers c.in-Err-next_item.ensures.gives c.in-Err-next_item.ensures.gathers

-- what waits behind an item
pub items-preserved : goal.items-preserved
items-preserved g c =
    let gave = gave_true _ _ c.gather_ahead.new.reader c.next_item.new.reader _ c.in-Ok-true.field-0 c.in-Ok-true.field-0-test c.in-Ok-true.ensures.gives in
    let ahead = c.in-Ok-gather_ahead.ensures.goes_on (g.I.Source.left c.args.input.now) (g.I.Source.left c.items.input) (g.O.Sink.taken c.args.output.now) c.items.invariant.read in
    let read = ahead.0 in
    let next = read_next _ _ _ _ _ read.parts _ read.read gave.0 gave.1 in
    let more = imports_more read.parts next.all (item_held c.next_item.new.into) read.read.begins next.imports in
    let gathered = gathers_more _ _ _ _ (spelling (item_held c.next_item.new.into)) (gathers_on _ _ _ _ _ _ read.gathers c.in-Ok-true.ensures.gathers) in
    let pushed = subst (λ (i : FeedItem). Gathers (g.O.Sink.taken c.next_item.new.output) (g.O.Sink.taken c.push_item.new.output) (held_in c.next_item.new.buffers.gathered ++ spelling i) (held_in c.push_item.new.self)) c.lent.ensures.item c.in-Ok-push_item.ensures.all in
    record {
      read = record {
        parts = next.all;
        read = next.read;
        gathers = subst (λ (t : List ℕ). Gathers (g.O.Sink.taken c.args.output.now) (g.O.Sink.taken c.push_item.new.output) t (held_in c.push_item.new.self)) (sym more) (gathers_on _ _ _ _ _ _ gathered pushed);
      };
      later_input = search rules;
      later_output = search rules;
    }

pub returns-in-Err-push_item-clause-gathers : goal.returns-in-Err-push_item-clause-gathers
returns-in-Err-push_item-clause-gathers g c =
    let gave = gave_true _ _ c.gather_ahead.new.reader c.next_item.new.reader _ c.in-Ok-true.field-0 c.in-Ok-true.field-0-test c.in-Ok-true.ensures.gives in
    let ahead = c.in-Ok-gather_ahead.ensures.goes_on (g.I.Source.left c.args.input.now) (g.I.Source.left c.items.input) (g.O.Sink.taken c.args.output.now) c.items.invariant.read in
    let read = ahead.0 in
    let gathered = gathers_on _ _ _ _ _ _ (gathers_on _ _ _ _ _ _ read.gathers c.in-Ok-true.ensures.gathers) c.in-Err-push_item.ensures.front in
    let next = read_next _ _ _ _ _ read.parts _ read.read gave.0 gave.1 in
    let more = imports_more read.parts next.all (item_held c.next_item.new.into) read.read.begins next.imports in
    read_part (λ parts. AppendsFront (g.O.Sink.taken c.args.output.now) (g.O.Sink.taken c.push_item.new.output) (imported parts)) _ _ _ next.all next.read
    (subst (λ (t : List ℕ). AppendsFront (g.O.Sink.taken c.args.output.now) (g.O.Sink.taken c.push_item.new.output) t) (sym more) (front_of_more (g.O.Sink.taken c.args.output.now) (g.O.Sink.taken c.push_item.new.output) (imported read.parts) (spelling (item_held c.next_item.new.into)) (gathers_some _ _ _ _ gathered)))

-- what is refused at the beginning
pub returns-in-Err-Refused-clause-gathers : goal.returns-in-Err-Refused-clause-gathers
returns-in-Err-Refused-clause-gathers g c =
    let P = λ (parts : List Part). Gathers (g.O.Sink.taken c.args.output.now) (g.O.Sink.taken c.args.output.now) (imported parts) (held_in c.args.buffers.now.gathered) in
    refused_as P _ _ _ _ _ (sym c.in-Err-Refused.number-is) (sym c.in-Err-Refused.offset-is)
    (first_refused P _ _ _ _ (ap (λ (r : Reading). r.limit) c.requires.reader)
    (refusal_told ⊤ _ c.in-Err-Refused.field-0 _ _ c.in-Err-Refused.field-0-is c.in-Err-Refused.ensures.refused)
    (subst (λ (w : List ℕ). Gathers (g.O.Sink.taken c.args.output.now) (g.O.Sink.taken c.args.output.now) [] w) (sym c.requires.waiting) (gathers_all (g.O.Sink.taken c.args.output.now) [])))

-- the output failed before all that was read ahead was gathered
pub returns-in-Err-gather_ahead-clause-gathers : goal.returns-in-Err-gather_ahead-clause-gathers
returns-in-Err-gather_ahead-clause-gathers g c =
    c.in-Err-gather_ahead.ensures.fails (g.I.Source.left c.args.input.now) (g.I.Source.left c.items.input) (g.O.Sink.taken c.args.output.now) c.items.invariant.read

-- the reader goes on behind what was read ahead
pub next_item-requires-clause-begun : goal.next_item-requires-clause-begun
next_item-requires-clause-begun g c =
    (c.in-Ok-gather_ahead.ensures.goes_on (g.I.Source.left c.args.input.now) (g.I.Source.left c.items.input) (g.O.Sink.taken c.args.output.now) c.items.invariant.read).0.read.begun

pub next_item-requires-clause-going : goal.next_item-requires-clause-going
next_item-requires-clause-going g c =
    (c.in-Ok-gather_ahead.ensures.goes_on (g.I.Source.left c.args.input.now) (g.I.Source.left c.items.input) (g.O.Sink.taken c.args.output.now) c.items.invariant.read).0.read.going
