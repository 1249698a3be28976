-- Events with each text and each piece of HTML as its bytes one by one, so that it doesn't matter how these are cut.
use Rattle.std.specs.Prelude.{ℕ, List, [], ◌∷◌, ◌++◌}
use Rattle.std.specs.Str.Lossy.{utf8_lossy}
use Rattle.tocmark_event.specs.View.{TagView, CodeBlock, Fenced, Link, Image, EventView, Start, Leaf, Text, Code, Html, InlineHtml}

-- a text for each byte
abbrev pub letter_events : List ℕ → List EventView
letter_events [] = []
letter_events (b ∷ bs) = Leaf (Text (b ∷ [])) ∷ letter_events bs

-- a piece of HTML for each byte
abbrev pub html_letters : List ℕ → List EventView
html_letters [] = []
html_letters (b ∷ bs) = Leaf (Html (b ∷ [])) ∷ html_letters bs

-- events, of which each text and each piece of HTML is its bytes
abbrev pub lettered : List EventView → List EventView
lettered [] = []
lettered (Leaf (Text t) ∷ es) = letter_events t ++ lettered es
lettered (Leaf (Html t) ∷ es) = html_letters t ++ lettered es
lettered (e ∷ es) = e ∷ lettered es

-- a tag whose info string, destination, title and label are texts: U+FFFD for what is not UTF-8
abbrev pub tag_as_text : TagView → TagView
tag_as_text (CodeBlock (Fenced info)) = CodeBlock (Fenced (utf8_lossy info))
tag_as_text (Link k destination title label) = Link k (utf8_lossy destination) (utf8_lossy title) (utf8_lossy label)
tag_as_text (Image k destination title label) = Image k (utf8_lossy destination) (utf8_lossy title) (utf8_lossy label)
tag_as_text t = t

-- an event whose words are texts
abbrev pub as_text : EventView → EventView
as_text (Start t) = Start (tag_as_text t)
as_text (Leaf (Code t)) = Leaf (Code (utf8_lossy t))
as_text (Leaf (InlineHtml t)) = Leaf (InlineHtml (utf8_lossy t))
as_text e = e
