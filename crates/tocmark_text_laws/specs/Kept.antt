-- What a leaf keeps of its lines.
use Rattle.std.specs.Prelude.{◌≡◌, ℕ, true, List, [], ◌∷◌, ◌++◌, flat_map}
use Rattle.std.specs.List.{AllByRecursion}
use Rattle.tocmark_read_scan.specs.Basic.{bytes_between}
use Rattle.tocmark_read_scan.specs.Class.{is_in}
use Rattle.tocmark_read_scan.specs.Content.{content_of}
use Rattle.tocmark_read_scan.specs.declared.class.Class.TheVariants.{White}
use Rattle.tocmark_read_scan.specs.declared.content.ContentLine.{ContentLine}
use Rattle.tocmark_read_page.specs.Definitions.{replaced}

-- the bytes of a line, with U+FFFD for U+0000, and a line feed
abbrev pub line_bytes : List ℕ → ContentLine → List ℕ
line_bytes text l = flat_map replaced (bytes_between text l.start l.end) ++ 10 ∷ []

-- the text of lines is all of their bytes but white space at the end
pub record IsKept (text : List ℕ) (lines : List ContentLine) : Type 0 where
  pub white : List ℕ
  pub all_white : AllByRecursion (λ b. is_in White b ≡ true) white
  pub whole : flat_map (line_bytes text) lines ≡ (content_of text lines).bytes ++ white

-- it is so with all lines
abbrev pub LinesAreKept : Type 0
LinesAreKept = (text : List ℕ) (lines : List ContentLine) → IsKept text lines
