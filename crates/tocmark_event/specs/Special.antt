-- Which characters are special in a text.
use Rattle.std.specs.Prelude.{ℕ, Bool, ◌&&◌, ◌==◌, nat_eq, List, ◌++◌, encode_utf8, if◌then◌else◌, codes}
use Rattle.std.specs.Cmp.Lexicographic.{pointwise}
use Rattle.tocmark_event.specs.Options.{OptionsView}

-- a backtick, `*`, `*` and `**`
abbrev pub has_default_tokens : OptionsView → Bool
has_default_tokens o =
    ((o.code_block_token == 96) && (o.list_token == 42)) && ((o.emphasis_token == 42) && pointwise nat_eq o.strong_token (codes "**"))

-- those that are special under the default tokens
abbrev pub usual_characters : List ℕ
usual_characters = codes "#\\_*<>`|[]"

-- the usual ones, and tokens that aren't the default ones
abbrev pub special_characters : OptionsView → List ℕ
special_characters o =
    if has_default_tokens o then usual_characters
    else (((usual_characters ++ encode_utf8 o.code_block_token) ++ encode_utf8 o.list_token) ++ encode_utf8 o.emphasis_token) ++ o.strong_token
