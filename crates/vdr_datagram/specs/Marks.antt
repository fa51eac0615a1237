-- Which channels a mark of a datagram is one of.
use Rattle.std.specs.Prelude.{ℕ, Bool, true, false, ◌&&◌, ◌==◌, List, Option, Some, option_copied}
use Rattle.vdr_config.specs.Configuration.{Selection}
use Rattle.vdr_config.specs.Configuration.Selection.{Sentence, Image, Pcm, Opaque}
use Rattle.vdr_datagram.specs.declared.marks.Mark.{Mark}
use Rattle.vdr_datagram.specs.declared.marks.Mark.TheVariants as marks
use Rattle.vdr_datagram.specs.Verdicts.{LineReading}
use Rattle.vdr_datagram.specs.Channels.{is_asked, is_line_of}

abbrev pub of_line : (formatter source : Option (List ℕ)) → Selection → Bool
of_line found from (Sentence formatter source) = is_asked formatter found && is_asked source from
of_line found from (Image source) = false
of_line found from (Pcm microphone) = false
of_line found from Opaque = false

abbrev pub of_image : (source : List ℕ) → Selection → Bool
of_image from (Sentence formatter source) = false
of_image from (Image source) = is_asked source (Some from)
of_image from (Pcm microphone) = false
of_image from Opaque = false

abbrev pub of_frame : (microphone : ℕ) → Selection → Bool
of_frame from (Sentence formatter source) = false
of_frame from (Image source) = false
of_frame from (Pcm microphone) = microphone == from
of_frame from Opaque = false

abbrev pub is_opaque : Selection → Bool
is_opaque (Sentence formatter source) = false
is_opaque (Image source) = false
is_opaque (Pcm microphone) = false
is_opaque Opaque = true

abbrev pub shows : Mark → Selection → Bool
shows (marks.Line formatter source) kind = of_line (option_copied formatter) (option_copied source) kind
shows (marks.Image source) kind = of_image source.now kind
shows (marks.Pcm microphone) kind = of_frame microphone kind
shows marks.Opaque kind = is_opaque kind

-- The line is one that a channel of the kind selects.
abbrev pub takes_line : LineReading → Selection → Bool
takes_line line (Sentence formatter source) = is_line_of formatter source line
takes_line line (Image source) = false
takes_line line (Pcm microphone) = false
takes_line line Opaque = false
