-- Under which flags the blocks of a text stay, beside its own.
use Rattle.std.specs.Prelude.{Bool, if◌then◌else◌, List, [], ◌∷◌, ◌++◌}
use Rattle.tocmark_event.specs.declared.event.flags.ParserOptions.{ParserOptions}
use Rattle.tocmark_reader.specs.declared.extended.TheConstants.{EXTENSIONS, GFM}
use Rattle.tocmark_settings.specs.declared.settings.AlsoRead.{AlsoRead}
use Rattle.tocmark_settings.specs.declared.settings.TheConstants.{COMMONMARK}

abbrev pub asked_flags : Bool → ParserOptions → List ParserOptions
asked_flags asked flags = if asked then flags ∷ [] else []

abbrev pub also_flags : AlsoRead → List ParserOptions
also_flags a = asked_flags a.commonmark COMMONMARK ++ asked_flags a.gfm GFM ++ asked_flags a.all EXTENSIONS
