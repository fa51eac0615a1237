-- Which lines of a record may carry parts of AIS messages: room for these is made before its rows are printed.
use Rattle.std.specs.Prelude.{◌≡◌, ℕ, true, [], ◌∷◌, map, ⊤}
use Rattle.vdr_terms.specs.Records.{Content}
use Rattle.vdr_terms.specs.Records.Content.{Start, Datagram, Gap, Stop}
use Rattle.vdr_datagram.specs.Verdicts.{LineReading, LineSpan, line_spans}
use Rattle.vdr_datagram.specs.Views.{verdict_of}
use Rattle.vdr_ais.specs.Lines.{lines_of}
use Rattle.vdr_rows.specs.Seeking.{is_carrier}
use Rattle.vdr_rows.specs.declared.carriers.Carriers.{Carriers}
use Rattle.vdr_rows.specs.declared.carriers.Carriers.TheVariants.{NoLine, OnlyLine, AnyLine}

-- A datagram of this line alone.
abbrev pub HasOneLine : Content → LineReading → Type 0
HasOneLine (Datagram payload) line = map (λ (span : LineSpan). span.verdict) (line_spans payload) ≡ line ∷ []
HasOneLine Start line = ⊥
HasOneLine (Gap missed) line = ⊥
HasOneLine Stop line = ⊥

-- No line of any group does; or the only line does, as its address shows; or nothing is known of them.
abbrev pub AreCarriers : Content → Carriers → Type 0
AreCarriers content NoLine = (group : ℕ) → lines_of group content ≡ []
AreCarriers content (OnlyLine line) = HasOneLine content (verdict_of line) × (is_carrier (verdict_of line) ≡ true)
AreCarriers content AnyLine = ⊤
