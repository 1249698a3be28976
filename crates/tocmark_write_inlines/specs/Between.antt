-- Which containers are between delimiters that nothing in their bodies decides.
use Rattle.std.specs.Prelude.{Bool, true, false}
use Rattle.tocmark_event.specs.View.{TagView, Strikethrough, Superscript, Subscript}

-- a strikethrough, superscript or subscript
abbrev pub is_between : TagView → Bool
is_between Strikethrough = true
is_between Superscript = true
is_between Subscript = true
is_between t = false
