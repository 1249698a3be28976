-- What the fields of a frame mean.
use Rattle.std.specs.Prelude.{string_bytes}
use Rattle.tocmark_event.specs.View.{tag_view}
use Rattle.tocmark_spelling.specs.Page as page
use Rattle.tocmark_spelling.specs.Page.{Plain, Underlined, Fence, HtmlEnds, Listed, Defined, Headers, Width, Delimited, Named, Level}
use Rattle.tocmark_write_containers.specs.PrefixOf.{prefix_bytes}
use Rattle.tocmark_write_containers.specs.declared.content.OpeningChoice.{OpeningChoice}
use Rattle.tocmark_write_containers.specs.declared.content.OpeningChoice.TheVariants as content
use Rattle.tocmark_write_containers.specs.declared.frame.Frame.{Frame}

-- what the opening of a container chose, as a plain value
abbrev pub content_view : OpeningChoice → page.OpeningChoice
content_view content.Plain = Plain
content_view (content.Underlined b) = Underlined b
content_view (content.Fence f) = Fence (string_bytes f)
content_view (content.HtmlEnds blank closed) = HtmlEnds blank closed
content_view (content.Listed c) = Listed c
content_view (content.Defined b) = Defined b
content_view (content.Headers ns) = Headers ns.items
content_view (content.Width n) = Width n
content_view (content.Delimited before after) = Delimited (string_bytes before) (string_bytes after)
content_view (content.Named b) = Named b

-- an open container, as a level
abbrev pub level_of : Frame → Level
level_of f = record { tag = tag_view string_bytes f.tag.now; prefix = prefix_bytes f.prefix; start = f.start; content = content_view f.content }
