-- The marks of Ends and Starts, and the bytes of alignments.
use Rattle.std.proofs.Common.{◌≡◌, refl, ◌+◌, ◌-◌, ◌^◌, ◌==◌, min, Some, None, true, false, List, [], ◌∷◌, map}
use Rattle.std.specs.List.{list_any}
use Rattle.tocmark_event.specs.Ends.{end_code}
use Rattle.tocmark_event.specs.View.{Image, Link, Start, End}
use Rattle.tocmark_event.specs.declared.event.Alignment.{Alignment}
use Rattle.tocmark_event.specs.declared.event.Alignment.TheVariants as alignment
use Rattle.tocmark_event.specs.declared.event.BlockQuoteKind.TheVariants as quote
use Rattle.tocmark_event.specs.declared.event.HeadingLevel.TheVariants as level
use Rattle.tocmark_event.specs.declared.event.LinkType.{LinkType}
use Rattle.tocmark_event.specs.declared.event.LinkType.TheVariants as link
use Rattle.tocmark_event.specs.declared.event.MetadataBlockKind.TheVariants as metadata
use Rattle.tocmark_event.specs.declared.event.TagEnd.{TagEnd}
use Rattle.tocmark_event.specs.declared.event.TagEnd.TheVariants as end
use Rattle.tocmark_spelling.specs.SameEvents.{alignment_code, link_code}
use Rattle.tocmark_compare.specs.Digest.{IsLinkMark, marked, plain_start}

-- each End has a mark, and so has the container that it says all of
pub end-marked : (k : TagEnd) → marked (end_code k) ≡ Some (End k)
end-marked end.Paragraph = refl
end-marked (end.Heading level.H1) = refl
end-marked (end.Heading level.H2) = refl
end-marked (end.Heading level.H3) = refl
end-marked (end.Heading level.H4) = refl
end-marked (end.Heading level.H5) = refl
end-marked (end.Heading level.H6) = refl
end-marked (end.BlockQuote None) = refl
end-marked (end.BlockQuote (Some quote.Note)) = refl
end-marked (end.BlockQuote (Some quote.Tip)) = refl
end-marked (end.BlockQuote (Some quote.Important)) = refl
end-marked (end.BlockQuote (Some quote.Warning)) = refl
end-marked (end.BlockQuote (Some quote.Caution)) = refl
end-marked end.CodeBlock = refl
end-marked end.HtmlBlock = refl
end-marked (end.List true) = refl
end-marked (end.List false) = refl
end-marked end.Item = refl
end-marked end.FootnoteDefinition = refl
end-marked end.DefinitionList = refl
end-marked end.DefinitionListTitle = refl
end-marked end.DefinitionListDefinition = refl
end-marked end.Table = refl
end-marked end.TableHead = refl
end-marked end.TableRow = refl
end-marked end.TableCell = refl
end-marked end.Emphasis = refl
end-marked end.Strong = refl
end-marked end.Strikethrough = refl
end-marked end.Superscript = refl
end-marked end.Subscript = refl
end-marked end.Link = refl
end-marked end.Image = refl
end-marked (end.MetadataBlock metadata.YamlStyle) = refl
end-marked (end.MetadataBlock metadata.PlusesStyle) = refl

pub start-marked : (k : TagEnd) → marked (min (end_code k + 35) (2 ^ 8 - 1)) ≡ Some (Start (plain_start k))
start-marked end.Paragraph = refl
start-marked (end.Heading level.H1) = refl
start-marked (end.Heading level.H2) = refl
start-marked (end.Heading level.H3) = refl
start-marked (end.Heading level.H4) = refl
start-marked (end.Heading level.H5) = refl
start-marked (end.Heading level.H6) = refl
start-marked (end.BlockQuote None) = refl
start-marked (end.BlockQuote (Some quote.Note)) = refl
start-marked (end.BlockQuote (Some quote.Tip)) = refl
start-marked (end.BlockQuote (Some quote.Important)) = refl
start-marked (end.BlockQuote (Some quote.Warning)) = refl
start-marked (end.BlockQuote (Some quote.Caution)) = refl
start-marked end.CodeBlock = refl
start-marked end.HtmlBlock = refl
start-marked (end.List true) = refl
start-marked (end.List false) = refl
start-marked end.Item = refl
start-marked end.FootnoteDefinition = refl
start-marked end.DefinitionList = refl
start-marked end.DefinitionListTitle = refl
start-marked end.DefinitionListDefinition = refl
start-marked end.Table = refl
start-marked end.TableHead = refl
start-marked end.TableRow = refl
start-marked end.TableCell = refl
start-marked end.Emphasis = refl
start-marked end.Strong = refl
start-marked end.Strikethrough = refl
start-marked end.Superscript = refl
start-marked end.Subscript = refl
start-marked end.Link = refl
start-marked end.Image = refl
start-marked (end.MetadataBlock metadata.YamlStyle) = refl
start-marked (end.MetadataBlock metadata.PlusesStyle) = refl

-- each type of link has a mark
pub link-marked : (k : LinkType) → IsLinkMark (min (link_code k + 86) (2 ^ 8 - 1)) (λ d t i. Link k d t i)
link-marked link.Inline = record { more = λ d. refl; all = λ d t i. refl }
link-marked link.Reference = record { more = λ d. refl; all = λ d t i. refl }
link-marked link.ReferenceUnknown = record { more = λ d. refl; all = λ d t i. refl }
link-marked link.Collapsed = record { more = λ d. refl; all = λ d t i. refl }
link-marked link.CollapsedUnknown = record { more = λ d. refl; all = λ d t i. refl }
link-marked link.Shortcut = record { more = λ d. refl; all = λ d t i. refl }
link-marked link.ShortcutUnknown = record { more = λ d. refl; all = λ d t i. refl }
link-marked link.Autolink = record { more = λ d. refl; all = λ d t i. refl }
link-marked link.Email = record { more = λ d. refl; all = λ d t i. refl }
link-marked (link.WikiLink false) = record { more = λ d. refl; all = λ d t i. refl }
link-marked (link.WikiLink true) = record { more = λ d. refl; all = λ d t i. refl }

-- each type of link has a mark of images
pub image-marked : (k : LinkType) → IsLinkMark (min (link_code k + 97) (2 ^ 8 - 1)) (λ d t i. Image k d t i)
image-marked link.Inline = record { more = λ d. refl; all = λ d t i. refl }
image-marked link.Reference = record { more = λ d. refl; all = λ d t i. refl }
image-marked link.ReferenceUnknown = record { more = λ d. refl; all = λ d t i. refl }
image-marked link.Collapsed = record { more = λ d. refl; all = λ d t i. refl }
image-marked link.CollapsedUnknown = record { more = λ d. refl; all = λ d t i. refl }
image-marked link.Shortcut = record { more = λ d. refl; all = λ d t i. refl }
image-marked link.ShortcutUnknown = record { more = λ d. refl; all = λ d t i. refl }
image-marked link.Autolink = record { more = λ d. refl; all = λ d t i. refl }
image-marked link.Email = record { more = λ d. refl; all = λ d t i. refl }
image-marked (link.WikiLink false) = record { more = λ d. refl; all = λ d t i. refl }
image-marked (link.WikiLink true) = record { more = λ d. refl; all = λ d t i. refl }

-- no alignment has the number 255
pub codes-plain : (all : List Alignment) → list_any (λ b. b == 255) (map alignment_code all) ≡ false
codes-plain [] = refl
codes-plain (alignment.None ∷ all) = codes-plain all
codes-plain (alignment.Left ∷ all) = codes-plain all
codes-plain (alignment.Center ∷ all) = codes-plain all
codes-plain (alignment.Right ∷ all) = codes-plain all
