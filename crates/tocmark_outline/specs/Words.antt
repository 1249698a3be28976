-- The words of a text, without its markup.
use Rattle.std.specs.Prelude.{ℕ, List, [], ◌∷◌, ◌++◌, Bool, true, false, if◌then◌else◌, string_bytes}
use Rattle.std.specs.List.{fold}
use Rattle.tocmark_event.specs.View.{EventView, Start, End, Leaf, TagView, MetadataBlock, LeafView, Text, Code, InlineMath, DisplayMath, SoftBreak, HardBreak, end_of}
use Rattle.tocmark_event.specs.declared.event.TagEnd.{TagEnd}
use Rattle.tocmark_event.specs.declared.event.TagEnd.TheVariants as end
use Rattle.tocmark_event.specs.declared.event.flags.ParserOptions.{ParserOptions}
use Rattle.tocmark_marked.specs.Marked.{marked_reading}
use Rattle.tocmark_spelling.specs.Kinds.{is_inline_end}
use Rattle.tocmark_outline.specs.declared.saying.Saying.{Saying}

-- the words so far, whether the last line has some, and whether front matter has begun
pub record Said : Type 0 where
  pub text : List ℕ
  pub is_open : Bool
  pub is_hidden : Bool

abbrev pub saying_view : Saying → Said
saying_view s = record { text = string_bytes s.text; is_open = s.is_open; is_hidden = s.is_hidden }

-- the last line ends, if it has words
unfoldable pub break_line : Said → Said
break_line s =
    if s.is_open then record { text = s.text ++ 10 ∷ []; is_open = false; is_hidden = s.is_hidden } else s

-- words are added, but for those of front matter
unfoldable pub add_words : List ℕ → Said → Said
add_words words s =
    if s.is_hidden then s else record { text = s.text ++ words; is_open = true; is_hidden = s.is_hidden }

-- a container begins: a block begins on a line of its own
abbrev pub begin : TagView → Said → Said
begin (MetadataBlock k) s = record { text = s.text; is_open = s.is_open; is_hidden = true }
begin t s = if is_inline_end (end_of t) then s else break_line s

-- a container ends: the last line of code has its line feed
abbrev pub close : TagEnd → Said → Said
close (end.MetadataBlock k) s = record { text = s.text; is_open = s.is_open; is_hidden = false }
close end.CodeBlock s = record { text = s.text; is_open = false; is_hidden = s.is_hidden }
close k s = if is_inline_end k then s else break_line s

-- a leaf says its words
abbrev pub say_leaf : LeafView → Said → Said
say_leaf (Text t) s = add_words t s
say_leaf (Code t) s = add_words t s
say_leaf (InlineMath t) s = add_words t s
say_leaf (DisplayMath t) s = add_words t s
say_leaf SoftBreak s = break_line s
say_leaf HardBreak s = break_line s
say_leaf l s = s

-- an event says its words
unfoldable pub say : Said → EventView → Said
say s (Start t) = begin t s
say s (End k) = close k s
say s (Leaf l) = say_leaf l s

-- nothing is said yet
abbrev pub silent : Said
silent = record { text = []; is_open = false; is_hidden = false }

-- the words of what is read in a text under these flags
abbrev pub words_under : ParserOptions → List ℕ → List ℕ
words_under flags text =
    (fold (λ s (e : EventView × (ℕ × ℕ)). say s e.0) silent (marked_reading flags text).events).text
