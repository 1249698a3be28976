-- What the open containers say of a place.
use Rattle.std.specs.Prelude.{ℕ, ◌+◌, Bool, true, false, not, ◌&&◌, ◌||◌, ◌==◌, if◌then◌else◌, Option, Some, None, [], ◌∷◌, ◌++◌, length}
use Rattle.tocmark_event.specs.View.{TagView, CodeBlock, HtmlBlock, MetadataBlock, Link}
use Rattle.tocmark_event.specs.declared.event.LinkType.{LinkType}
use Rattle.tocmark_event.specs.declared.event.LinkType.TheVariants as link
use Rattle.tocmark_spelling.specs.Kinds.{is_item, is_cell, is_table}
use Rattle.tocmark_spelling.specs.Page.{OpeningChoice, Listed, Defined, Headers, Width, Level, Path, Page}

-- inside a container of such a tag
abbrev pub is_in : (TagView → Bool) → Path → Bool
is_in test [] = false
is_in test (l ∷ path) = test l.tag || is_in test path

-- the innermost container has such a tag
abbrev pub is_directly_in : (TagView → Bool) → Path → Bool
is_directly_in test [] = false
is_directly_in test (l ∷ path) = test l.tag

-- how many containers of such a tag are open
abbrev pub depth_in : (TagView → Bool) → Path → ℕ
depth_in test [] = 0
depth_in test (l ∷ path) = (if test l.tag then 1 else 0) + depth_in test path

-- the innermost open container of such a tag
abbrev pub nearest : (TagView → Bool) → Path → Option Level
nearest test [] = None
nearest test (l ∷ path) = if test l.tag then Some l else nearest test path

-- nothing but openings is between an item's opening and this place
abbrev pub is_item_start : ℕ → Path → Bool
is_item_start place [] = false
is_item_start place (l ∷ path) = (l.start == place) && (is_item l.tag || is_item_start place path)

-- the same of the place where the text ends now
abbrev pub at_item_start : Path → Page → Bool
at_item_start path p = is_item_start (length p.sheet.text) path

-- the innermost container's opening ended here
abbrev pub is_after_opening : Path → Page → Bool
is_after_opening [] p = false
is_after_opening (l ∷ path) p = l.start == length p.sheet.text

-- a list that is tight (CommonMark, section 5.3)
abbrev pub is_tight_list : OpeningChoice → Bool
is_tight_list (Listed c) = c.tight
is_tight_list c = false

-- directly in a tight list
abbrev pub is_in_tight_list : Path → Bool
is_in_tight_list [] = false
is_in_tight_list (l ∷ path) = is_tight_list l.content

-- no blank lines are between the children of a container with this content and tag, in the containers outside
abbrev pub is_close_at : OpeningChoice → TagView → Path → Bool
is_close_at (Defined has_paragraph) t path = not has_paragraph
is_close_at (Listed c) t path = c.tight
is_close_at c t path = is_item t && is_in_tight_list path

-- no blank lines are between the children of the innermost container: it is a definition without direct Paragraph,
-- a tight list, or an item directly in one
abbrev pub is_close : Path → Bool
is_close [] = false
is_close (l ∷ path) = is_close_at l.content l.tag path

-- a list that isn't tight (CommonMark, section 5.3)
abbrev pub is_loose_content : OpeningChoice → Bool
is_loose_content (Listed c) = not c.tight
is_loose_content c = false

-- directly in a list that isn't tight
abbrev pub is_in_loose_list : Path → Bool
is_in_loose_list [] = false
is_in_loose_list (l ∷ path) = is_loose_content l.content

-- an autolink, whose text is written as it is (CommonMark, section 6.5)
abbrev pub is_raw_link : LinkType → Bool
is_raw_link link.Autolink = true
is_raw_link link.Email = true
is_raw_link k = false

-- a container whose texts are written as they are: code, HTML, metadata or an autolink
abbrev pub is_raw_tag : TagView → Bool
is_raw_tag (CodeBlock k) = true
is_raw_tag HtmlBlock = true
is_raw_tag (MetadataBlock k) = true
is_raw_tag (Link k d t i) = is_raw_link k
is_raw_tag t = false

-- texts are written as they are: inside code, HTML, metadata or an autolink
abbrev pub is_raw : Path → Bool
is_raw path = is_in is_raw_tag path

-- what a cell keeps, wider by so many characters; that of another container does not change
abbrev pub wider : ℕ → OpeningChoice → OpeningChoice
wider n (Width k) = Width (k + n)
wider n c = c

-- an open cell that is wider by so many characters
abbrev pub widened_level : ℕ → Level → Level
widened_level n l = record l { content = wider n l.content }

-- the nearest open cell is wider by so many characters
abbrev pub widened : ℕ → Path → Path
widened n [] = []
widened n (l ∷ path) = if is_cell l.tag then widened_level n l ∷ path else l ∷ widened n path

-- what a table keeps, with one more cell of this width; that of another container does not change
abbrev pub with_width : ℕ → OpeningChoice → OpeningChoice
with_width n (Headers ns) = Headers (ns ++ n ∷ [])
with_width n c = c

-- the width of a cell; 0 for another container
abbrev pub width_of : OpeningChoice → ℕ
width_of (Width n) = n
width_of c = 0

-- a cell of this width ended in the nearest open table
abbrev pub with_header : ℕ → Path → Path
with_header n [] = []
with_header n (l ∷ path) = if is_table l.tag then record l { content = with_width n l.content } ∷ path else l ∷ with_header n path
