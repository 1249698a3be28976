-- What is listed of a text.
use Rattle.std.specs.Prelude.{◌≡◌, ℕ, List}
use Rattle.serde_json.specs.Written.{compact_text}
use Rattle.tocmark_outline.specs.Defining.{IsDefinitionsJson}
use Rattle.tocmark_outline.specs.Outline.{listed}
use Rattle.tocmark_outline.specs.Words.{words_under}
use Rattle.tocmark_outline.specs.declared.selecting.Wanted.TheVariants as wanted
use Rattle.tocmark_c.specs.Calls.{flags_of}
use Rattle.tocmark_c.specs.declared.outlining.Outlined.{Outlined}
use Rattle.tocmark_c.specs.declared.outlining.Outlined.TheVariants as outlined

-- a text is what is listed of a text under these flags
abbrev pub IsOutline : Outlined → ℕ → List ℕ → List ℕ → Type 0
IsOutline outlined.Links bits text output = output ≡ compact_text (listed wanted.Links (flags_of bits) text)
IsOutline outlined.Headings bits text output = output ≡ compact_text (listed wanted.Headings (flags_of bits) text)
IsOutline outlined.Words bits text output = output ≡ words_under (flags_of bits) text
IsOutline outlined.Definitions bits text output = IsDefinitionsJson (flags_of bits) text output
