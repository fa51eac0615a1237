use Rattle.std.proofs.Common.{◌++◌, ◌≡◌, Result, ap, arith, length, length-append, subst}
use Rattle.std.specs.Bool.{⊤}
use Rattle.std.specs.Io.KnownBytes.{Appends}
use Rattle.std.specs.Prelude.{OnOk, Some}
use Rattle.vdr_outside.specs.declared.fault.Failed.{Failed}
use Rattle.vdr_play.specs.Streams.{seen_after}
use Rattle.vdr_play.specs.Texts.{record_text}
use Rattle.vdr_recorder.proofs.PlayParts.{whole_or_full}
use Rattle.vdr_recorder.proofs.TextBounds.{text_short}
use Rattle.vdr_recorder.proofs.resume.print_whole.Goals as goal

pub returns-clause-printed : goal.returns-clause-printed
returns-clause-printed c =
    let p = c.print_record in
    let whole = whole_or_full c.args.piece.now.bytes.items p.new.out.bytes.items (record_text c.args.tracks.now c.args.item.now) _ _ p.result c.requires
    (text_short c.args.tracks.now c.args.item.now c.content-content.ensures.legal) p.ensures.all p.ensures.front p.ensures.cause p.new.out.full in
    subst (λ (r : Result ⊤ Failed). OnOk r (Appends (Some c.args.piece.now.bytes.items) (Some p.new.out.bytes.items) (record_text c.args.tracks.now c.args.item.now))) whole p.ensures.all

pub returns-clause-seen : goal.returns-clause-seen
returns-clause-seen c =
    let p = c.print_record in
    let whole = whole_or_full c.args.piece.now.bytes.items p.new.out.bytes.items (record_text c.args.tracks.now c.args.item.now) _ _ p.result c.requires
    (text_short c.args.tracks.now c.args.item.now c.content-content.ensures.legal) p.ensures.all p.ensures.front p.ensures.cause p.new.out.full in
    subst (λ (r : Result ⊤ Failed). OnOk r (p.new.tracks ≡ seen_after c.args.tracks.now c.args.item.now.content)) whole p.ensures.seen

pub returns-clause-room : goal.returns-clause-room
returns-clause-room c =
    let printed : c.print_record.new.out.bytes.items ≡ c.args.piece.now.bytes.items ++ record_text c.args.tracks.now c.args.item.now = returns-clause-printed c in
    let short = text_short c.args.tracks.now c.args.item.now c.content-content.ensures.legal in
    omega (arith, ap length printed, length-append c.args.piece.now.bytes.items (record_text c.args.tracks.now c.args.item.now), short, c.requires)
