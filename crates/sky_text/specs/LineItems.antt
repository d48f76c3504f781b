-- The lines that a reader returns, as lines of a text.
use Rattle.text_rules.specs.Lines.{Line as TextLine}
use Rattle.sky_text.specs.declared.lines.Line.{Line}

-- the line that is returned
abbrev pub line_of : Line → TextLine
line_of line = record { number = line.number; text = line.text.now }
