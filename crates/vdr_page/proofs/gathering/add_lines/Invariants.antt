use Rattle.std.proofs.Common.{◌≡◌, ◌++◌, List, map}
use Rattle.vdr_datagram.specs.Views.{span_of}
use Rattle.vdr_ais.specs.Lines.{Key, Line}
use Rattle.vdr_ais.specs.Pending.{HasPlace, HasRead}
use Rattle.vdr_rows.specs.Tables.{back_by}
use Rattle.vdr_page.specs.Tellings.{lines_tellings}
use Rattle.vdr_page.specs.TellingViews.{telling_of}
use Rattle.vdr_page.proofs.gathering.add_lines.Given as goal

abbrev pub invariant-loop-line : goal.invariant-loop-line
invariant-loop-line l = record {
  read : (back : List Line) → HasRead back l.initial.unfinished → HasRead (back_by back l.group (map span_of l.yielded)) l.unfinished;
  told : (back : List Line) → HasRead back l.initial.unfinished → map telling_of l.into.items ≡ map telling_of l.initial.into.items ++ lines_tellings back l.group (map span_of l.yielded);
  places : (key : Key) → HasPlace l.initial.unfinished key → HasPlace l.unfinished key;
}
