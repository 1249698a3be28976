-- The options and flags under which everything that is written is meant to be read back.
use Rattle.std.specs.Prelude.{Bool, is_none}
use Rattle.tocmark_event.specs.Options.{OptionsView}
use Rattle.tocmark_event.specs.Validation.{validation}
use Rattle.tocmark_event.specs.declared.event.flags.ParserOptions.{ParserOptions}

-- whether the options are accepted with these flags
abbrev pub validates : OptionsView → ParserOptions → Bool
validates o flags = is_none (validation o flags)
