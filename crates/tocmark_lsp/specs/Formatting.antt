-- What a formatted document has of the one before.
use Rattle.std.specs.Prelude.{◌≡◌, ℕ, List, map}
use Rattle.tocmark_event.specs.Reading.{ReadingView}
use Rattle.tocmark_event.specs.declared.event.flags.ParserOptions.{ParserOptions}
use Rattle.tocmark_judge.specs.Letters.{letters}
use Rattle.tocmark_judge.specs.LinkDefinitions.{DefinedLink, unplaced}
use Rattle.tocmark_judge.specs.Marks.{after_mark}
use Rattle.tocmark_judge.specs.Same.{SaySame}
use Rattle.tocmark_print.specs.Fills.{fills}
use Rattle.tocmark_read_scan.specs.declared.syntax.Names.TheVariants.{All}
use Rattle.tocmark_reader.specs.Definitions.{definitions_of}
use Rattle.tocmark_reader.specs.Flags.{syntax_of}
use Rattle.tocmark_reader.specs.Reading.{reading_of}
use Rattle.tocmark_settings.specs.declared.settings.Settings.{Settings}

-- what the server's reader finds in a text; a byte order mark at the front is no text
abbrev pub read_as : ParserOptions → List ℕ → ReadingView
read_as flags text = reading_of (syntax_of All flags) (after_mark text)

-- what the link definitions in a text say
abbrev pub defined_as : ParserOptions → List ℕ → List DefinedLink
defined_as flags text = map unplaced (definitions_of (syntax_of All flags) (after_mark text))

-- the reader finds what counts as the same under the settings, the same definitions of links, and the same letters
pub record IsFormatting (settings : Settings) (old new : List ℕ) : Type 0 where
  pub same : SaySame (fills settings.style.wrap) (read_as settings.flags new) (read_as settings.flags old)
  pub definitions : defined_as settings.flags new ≡ defined_as settings.flags old
  pub same_letters : letters new ≡ letters old
