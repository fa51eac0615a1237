-- What contracts see of lines.
use Rattle.std.specs.Prelude.{List, drop}
use Rattle.vdr_tag.specs.Views.{values_of}
use Rattle.vdr_datagram.specs.Lines.{cut}
use Rattle.vdr_datagram.specs.Verdicts.{LineReading, LineSpan, Good, Tag, Sentence, spans_from}
use Rattle.vdr_datagram.specs.declared.line.Line.{Line}
use Rattle.vdr_datagram.specs.declared.line.LineVerdict.{LineVerdict}
use Rattle.vdr_datagram.specs.declared.line.LineVerdict.TheVariants.{Good as IsGood, Tag as IsTag, Sentence as IsSentence}
use Rattle.vdr_datagram.specs.declared.line_iterator.Lines.{Lines}

abbrev pub verdict_of : LineVerdict → LineReading
verdict_of (IsGood tags sentence) = Good (values_of tags) (record { start = sentence.start; content = sentence.content.now })
verdict_of (IsTag bad) = Tag bad
verdict_of (IsSentence tags bad) = Sentence (values_of tags) bad

abbrev pub span_of : Line → LineSpan
span_of line = record { from = line.from; to = line.to; verdict = verdict_of line.verdict }

-- The lines that an iterator has not given yet.
abbrev pub lines_left : Lines → List LineSpan
lines_left it = spans_from it.at (cut (drop it.at it.bytes.now))
