-- Which options can be used with which flags.
use Rattle.std.specs.Prelude.{ℕ, ◌-◌, ◌^◌, Bool, true, false, not, ◌&&◌, ◌||◌, ◌==◌, nat_lt, nat_eq, bit_and, List, [], ◌∷◌, ◌++◌, Option, Some, None, Result, Ok, Err, codes}
use Rattle.std.specs.Borrow.{Bor}
use Rattle.std.specs.Cmp.Lexicographic.{pointwise}
use Rattle.std.specs.Fmt.{digits}
use Rattle.tocmark_event.specs.Flags.{script_flags, supported_flags, union_of, without}
use Rattle.tocmark_event.specs.Options.{OptionsView}
use Rattle.tocmark_event.specs.declared.event.flags.ParserOptions.{ParserOptions}
use Rattle.tocmark_event.specs.declared.options.OptionsError.{OptionsError}
use Rattle.tocmark_event.specs.declared.options.OptionsError.TheVariants as error

-- a fault of options: flags, a field's token, HTML scripts, a field's size
pub data OptionsFault : Type 0 where
  Flags : ℕ → OptionsFault
  Token : List ℕ → OptionsFault
  Scripts : OptionsFault
  Size : List ℕ → OptionsFault

-- what is wrong with the options, as an error says it
abbrev pub fault_of : OptionsError → OptionsFault
fault_of (error.UnsupportedParserOptions flags) = Flags flags.0
fault_of (error.InvalidToken field) = Token field.now
fault_of error.HtmlSuperSubscript = Scripts
fault_of (error.SizeOverflow field) = Size field.now

-- what is wrong with the options, where a call answered an error
abbrev pub fault_in : Result (Unit {0}) OptionsError → Option OptionsFault
fault_in (Ok _) = None
fault_in (Err e) = Some (fault_of e)

-- the fault, unless the test holds
abbrev pub fault_unless : Bool → OptionsFault → Option OptionsFault
fault_unless true fault = None
fault_unless false fault = Some fault

-- the first fault of two
abbrev pub first_fault : Option OptionsFault → Option OptionsFault → Option OptionsFault
first_fault (Some fault) later = Some fault
first_fault None later = later

-- bits outside those that are supported
abbrev pub unsupported : ParserOptions → ℕ
unsupported flags = (without flags (union_of supported_flags)).0

-- flags that are not supported
unfoldable pub flags_fault : ParserOptions → Option OptionsFault
flags_fault flags = fault_unless (unsupported flags == 0) (Flags (unsupported flags))

-- `*`, `-`, `+`; then `.`, `)`
unfoldable pub lists_fault : OptionsView → Option OptionsFault
lists_fault o = first_fault
    (fault_unless ((o.list_token == 42) || (o.list_token == 45) || (o.list_token == 43)) (Token (codes "list_token")))
    (fault_unless ((o.ordered_list_token == 46) || (o.ordered_list_token == 41)) (Token (codes "ordered_list_token")))

-- `*`, `_`; then `**`, `__`
unfoldable pub emphasis_fault : OptionsView → Option OptionsFault
emphasis_fault o = first_fault
    (fault_unless ((o.emphasis_token == 42) || (o.emphasis_token == 95)) (Token (codes "emphasis_token")))
    (fault_unless (pointwise nat_eq o.strong_token (codes "**") || pointwise nat_eq o.strong_token (codes "__")) (Token (codes "strong_token")))

-- a backtick or `~`; then the lists' tokens, then those of emphasis
unfoldable pub tokens_fault : OptionsView → Option OptionsFault
tokens_fault o = first_fault
    (fault_unless ((o.code_block_token == 96) || (o.code_block_token == 126)) (Token (codes "code_block_token")))
    (first_fault (lists_fault o) (emphasis_fault o))

-- HTML scripts where superscripts or subscripts are read as symbols
unfoldable pub scripts_fault : OptionsView → ParserOptions → Option OptionsFault
scripts_fault o flags = fault_unless (not (o.use_html_for_super_sub_script && not (bit_and flags.0 (union_of script_flags) == 0))) Scripts

-- a size has to be below the greatest number of bytes of an output string
unfoldable pub size_fault : ℕ → List ℕ → Option OptionsFault
size_fault size field = fault_unless (nat_lt size (2 ^ 63 - 1)) (Size field)

-- the first size of a list, each with its field's name, that is too large
abbrev pub sizes_fault : List (ℕ × List ℕ) → Option OptionsFault
sizes_fault [] = None
sizes_fault (size ∷ sizes) = first_fault (size_fault size.0 size.1) (sizes_fault sizes)

-- the sizes, each with its field's name
abbrev pub named_sizes : OptionsView → List (ℕ × List ℕ)
named_sizes o =
    (o.newlines_after_headline, codes "newlines_after_headline")
    ∷ (o.newlines_after_paragraph, codes "newlines_after_paragraph")
    ∷ (o.newlines_after_codeblock, codes "newlines_after_codeblock")
    ∷ (o.newlines_after_htmlblock, codes "newlines_after_htmlblock")
    ∷ (o.newlines_after_table, codes "newlines_after_table")
    ∷ (o.newlines_after_rule, codes "newlines_after_rule")
    ∷ (o.newlines_after_list, codes "newlines_after_list")
    ∷ (o.newlines_after_blockquote, codes "newlines_after_blockquote")
    ∷ (o.newlines_after_rest, codes "newlines_after_rest")
    ∷ (o.newlines_after_metadata, codes "newlines_after_metadata")
    ∷ (o.code_block_token_count, codes "code_block_token_count")
    ∷ []

-- a size with its field's name, as plain values
abbrev pub named_size : ℕ × Bor (List ℕ) → ℕ × List ℕ
named_size s = (s.0, s.1.now)

-- the first fault, in this order: flags, tokens, HTML scripts, sizes
unfoldable pub validation : OptionsView → ParserOptions → Option OptionsFault
validation o flags =
    first_fault (flags_fault flags) (first_fault (tokens_fault o) (first_fault (scripts_fault o flags) (sizes_fault (named_sizes o))))

-- what a fault of options is shown as
abbrev pub options_error_text : OptionsError → Option (List ℕ)
options_error_text (error.UnsupportedParserOptions flags) = Some ((codes "unsupported parser flags: 0x" ++ digits 16 false flags.0) ++ codes "; use a subset of SUPPORTED_PARSER_OPTIONS")
options_error_text (error.InvalidToken field) = Some (field.now ++ codes " must use a standard Markdown delimiter")
options_error_text error.HtmlSuperSubscript = Some (codes "set use_html_for_super_sub_script to false when parsing symbolic superscripts or subscripts")
options_error_text (error.SizeOverflow field) = Some (field.now ++ codes " is too large for a Markdown output string")
