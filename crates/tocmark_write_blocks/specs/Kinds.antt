-- Which of the events of a unit open blocks that ask something of their texts.
use Rattle.std.specs.Prelude.{Bool, true, false}
use Rattle.tocmark_event.specs.View.{TagView, CodeBlock, HtmlBlock, Fenced, SourcedEvent, Start}

-- whether the tag is that of fenced code
abbrev pub is_fenced : TagView → Bool
is_fenced (CodeBlock (Fenced info)) = true
is_fenced t = false

-- whether the tag is that of an HTML block
abbrev pub is_html_block : TagView → Bool
is_html_block HtmlBlock = true
is_html_block t = false

-- whether an event opens a container with such a tag
abbrev pub opens : (TagView → Bool) → SourcedEvent → Bool
opens test (Start t) = test t
opens test e = false
