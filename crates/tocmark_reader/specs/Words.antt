-- Texts of events that are not spelled in the source as they are.
use Rattle.std.specs.Prelude.{ℕ, Bool, if◌then◌else◌, List, [], ◌∷◌, ◌++◌, replicate}
use Rattle.std.specs.List.{flat_map}
use Rattle.std.specs.Str.Lossy.{utf8_lossy}
use Rattle.tocmark_read_tokens.specs.Reference.{unescaped_in}
use Rattle.tocmark_read_scan.specs.declared.syntax.Names.{Names}
use Rattle.tocmark_read_scan.specs.declared.syntax.Names.TheVariants.{Four}
use Rattle.tocmark_read_tokens.specs.Label.{collapsed}
use Rattle.tocmark_read_page.specs.Definitions.{replaced}

-- a line feed, for a line that ends
abbrev pub feed_if : Bool → List ℕ
feed_if feed = if feed then 10 ∷ [] else []

-- U+FFFD stands for U+0000, and a line feed for a line ending (CommonMark 2.3)
unfoldable pub cleaned : List ℕ → Bool → List ℕ
cleaned bytes feed = utf8_lossy (flat_map replaced bytes ++ feed_if feed)

-- an info string has no escapes and references
unfoldable pub info_text_in : Names → List ℕ → List ℕ
info_text_in names bytes = utf8_lossy (unescaped_in names (flat_map replaced bytes))

-- the same by four names
abbrev pub info_text : List ℕ → List ℕ
info_text = info_text_in Four

-- the name of a footnote has one space for each stretch of white space, and none at its ends
unfoldable pub name_text : List ℕ → List ℕ
name_text bytes = utf8_lossy (collapsed (flat_map replaced bytes))

-- so many spaces
unfoldable pub spaces_text : ℕ → List ℕ
spaces_text count = utf8_lossy (replicate count 32)
