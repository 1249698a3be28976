-- The layout of blocks: the lines that they have in Markdown.
use Rattle.std.specs.Prelude.{ℕ, ◌-◌, max, Bool, true, false, ◌==◌, ◌||◌, if◌then◌else◌, Option, Some, None, List, [], ◌∷◌, ◌++◌, codes, flat_map, length, map, replicate, unwrap_or}
use Rattle.std.specs.Char.{encode_utf8}
use Rattle.std.specs.List.{concat}
use Rattle.tocmark_event.specs.Options.{OptionsView}
use Rattle.tocmark_event.specs.View.{EventView, End, Leaf, SoftBreak}
use Rattle.tocmark_event.specs.declared.event.TagEnd.TheVariants as end
use Rattle.tocmark_event.specs.declared.event.flags.ParserOptions.{ParserOptions}
use Rattle.tocmark_write_texts.specs.Escape.{Surroundings, escaped}
use Rattle.tocmark_spelling.specs.Opening.{fence}
use Rattle.tocmark_laws.specs.TextBlocks.{ParagraphKind, HeadingKind, block_text, feeds_behind, place_in}
use Rattle.tocmark_laws.specs.Documents.{PlainBlock, PlainParagraph, PlainHeading, PlainRule, PlainCode, heading_block}
use Rattle.tocmark_document_laws.specs.Blocks.{Blocks, Nothing, PlainThen, QuoteThen, BulletsThen, ItemThen}

-- a line of Markdown
abbrev pub Line : Type 0
Line = List ℕ

-- where a line of a paragraph is escaped: before a soft break, or before the paragraph's End
abbrev pub line_in : OptionsView → ParserOptions → EventView → Surroundings
line_in o flags next = record (place_in o flags ParagraphKind) { next = Some next }

-- the lines of a paragraph, escaped
abbrev pub paragraph_lines : OptionsView → ParserOptions → List ℕ → List (List ℕ) → List Line
paragraph_lines o flags l [] = escaped (line_in o flags (End end.Paragraph)) l ∷ []
paragraph_lines o flags l (m ∷ ms) = escaped (line_in o flags (Leaf SoftBreak)) l ∷ paragraph_lines o flags m ms

-- the text of fenced code: its lines, each with the line feed that ends it
abbrev pub code_text : List (List ℕ) → List ℕ
code_text lines = concat (map (λ l. l ++ codes "\n") lines)

-- the lines of a plain block: a paragraph's; a heading's one, after its `#`; three hyphens; or code between two fences, the first
-- of which has the info string
abbrev pub block_lines : OptionsView → ParserOptions → PlainBlock → List Line
block_lines o flags (PlainParagraph l ms) = paragraph_lines o flags l ms
block_lines o flags (PlainHeading level ts) = block_text o flags (heading_block level ts) ∷ []
block_lines o flags PlainRule = codes "---" ∷ []
block_lines o flags (PlainCode info lines) = (fence o info (code_text lines) ++ info) ∷ lines ++ fence o info (code_text lines) ∷ []

-- how many line feeds are between a plain block and what follows it
abbrev pub feeds_below : OptionsView → PlainBlock → ℕ
feeds_below o (PlainParagraph l ms) = feeds_behind o ParagraphKind
feeds_below o (PlainHeading level ts) = feeds_behind o (HeadingKind level)
feeds_below o PlainRule = max o.newlines_after_rule 1
feeds_below o (PlainCode info lines) = max o.newlines_after_codeblock 2

-- how many are between a block quote and what follows it
abbrev pub feeds_below_quote : OptionsView → ℕ
feeds_below_quote o = max o.newlines_after_blockquote 2

-- a line in a block quote
abbrev pub quoted : Line → Line
quoted l = codes " > " ++ l

-- the lines of a block quote right after an item's marker: the first one goes on there
abbrev pub quoted_beside : List Line → List Line
quoted_beside [] = codes "> " ∷ []
quoted_beside (l ∷ ls) = (codes "> " ++ l) ∷ map quoted ls

-- the lines of an item: the first one is after its marker, and those below it are after as many spaces (CommonMark, section 5.2)
abbrev pub hanging : List ℕ → List Line → List Line
hanging marker [] = marker ∷ []
hanging marker (l ∷ ls) = (marker ++ l) ∷ map (λ m. replicate (length marker) 32 ++ m) ls

-- where blocks begin: in the line of what is before them, at the front of a document, of a list or of a block quote beside a
-- marker; right after an item's marker; or so many line feeds below, after a list with this bullet or after no list
pub data How : Type 0 where
  Beside : How
  Marked : How
  Below : ℕ → Option ℕ → How

-- what is round blocks: whether they are in a list, the bullet of the innermost list, and whether some list has hyphens as bullets
pub record Outside : Type 0 where
  pub listed : Bool
  pub bullet : Option ℕ
  pub hyphens : Bool

-- what is round a document
abbrev pub no_lists : Outside
no_lists = record { listed = false; bullet = None; hyphens = false }

-- what is round the items of a list with this bullet
abbrev pub in_bullets : ℕ → Outside → Outside
in_bullets bullet c = record { listed = true; bullet = Some bullet; hyphens = (bullet == 45) || c.hyphens }

-- empty lines, one fewer than these line feeds
abbrev pub gap_lines : ℕ → List Line
gap_lines feeds = replicate (feeds - 1) []

-- the lines before a block that needs no line of its own
abbrev pub gap_of : How → List Line
gap_of (Below feeds bullet) = gap_lines feeds
gap_of how = []

-- those before one that does: right after a marker it has it
abbrev pub new_line : How → List Line
new_line Beside = [] ∷ []
new_line how = gap_of how

-- the lines of a block quote, from those of its blocks right beside a marker and below one: right after a marker it begins there,
-- and else on a line of its own with an empty line
abbrev pub quote_lines : How → List Line → List Line → List Line
quote_lines Marked beside below = quoted_beside beside
quote_lines how beside below = new_line how ++ map quoted ([] ∷ below)

-- those before a list, which is on a line of its own in a block quote that is in a list
abbrev pub list_gap : Outside → How → List Line
list_gap c how = if c.listed then new_line how else gap_of how

-- a paragraph after a list is below an empty line, as it would go on with the list's last line
abbrev pub paragraph_gap : How → List Line
paragraph_gap (Below feeds (Some bullet)) = gap_lines (max feeds 2)
paragraph_gap how = gap_of how

-- those before an item that isn't the first one of its list: at least one empty line
abbrev pub item_gap : How → List Line
item_gap (Below feeds bullet) = gap_lines (max feeds 2)
item_gap how = []

-- those before a plain block
abbrev pub plain_gap : How → PlainBlock → List Line
plain_gap how (PlainParagraph l ms) = paragraph_gap how
plain_gap how (PlainCode info lines) = new_line how
plain_gap how b = gap_of how

-- whether a thematic break would be a bullet list with its hyphens: right after a marker in such a list
abbrev pub is_amid_hyphens : Outside → How → Bool
is_amid_hyphens c Marked = c.hyphens
is_amid_hyphens c how = false

-- a thematic break: asterisks where hyphens would be a bullet
abbrev pub rule_line : Bool → Line
rule_line hyphens = if hyphens then codes "***" else codes "---"

-- the lines of a plain block where it is
abbrev pub plain_lines : OptionsView → ParserOptions → Outside → How → PlainBlock → List Line
plain_lines o flags c how PlainRule = rule_line (is_amid_hyphens c how) ∷ []
plain_lines o flags c how b = block_lines o flags b

-- the other one of two bullets
abbrev pub other_bullet : ℕ → ℕ
other_bullet bullet = if bullet == 42 then 45 else 42

-- whether there is a bullet, and it is this one
abbrev pub is_bullet : Option ℕ → ℕ → Bool
is_bullet None bullet = false
is_bullet (Some b) bullet = b == bullet

-- the bullet that parts a list from the one whose marker is right before it, or that ended before it
abbrev pub parted_from : Outside → How → Option ℕ
parted_from c Beside = None
parted_from c Marked = c.bullet
parted_from c (Below feeds bullet) = bullet

-- the bullet of a list: the preferred one, or another one where the list before has that
abbrev pub bullet_for : OptionsView → Outside → How → ℕ
bullet_for o c how = if is_bullet (parted_from c how) o.list_token then other_bullet o.list_token else o.list_token

-- the marker of an item
abbrev pub marker : ℕ → List ℕ
marker bullet = encode_utf8 bullet ++ codes " "

-- how many line feeds blocks ask for below them, where so many were asked for before; a list that is in no list asks for at least two
abbrev pub feeds_after : OptionsView → Bool → ℕ → Blocks → ℕ
feeds_after o listed feeds Nothing = feeds
feeds_after o listed feeds (PlainThen b f) = feeds_after o listed (feeds_below o b) f
feeds_after o listed feeds (QuoteThen kids f) = feeds_after o listed (feeds_below_quote o) f
feeds_after o listed feeds (BulletsThen items f) = feeds_after o listed (max (feeds_after o true 0 items) (if listed then 0 else max o.newlines_after_list 2)) f
feeds_after o listed feeds (ItemThen kids f) = feeds_after o listed (max (feeds_after o true 0 kids) (max o.newlines_after_rest 1)) f

-- how many line feeds an item asks for below it, and a list
abbrev pub feeds_below_item : OptionsView → Blocks → ℕ
feeds_below_item o kids = max (feeds_after o true 0 kids) (max o.newlines_after_rest 1)

abbrev pub feeds_below_list : OptionsView → Bool → Blocks → ℕ
feeds_below_list o listed items = max (feeds_after o true 0 items) (if listed then 0 else max o.newlines_after_list 2)

-- the lines of blocks: each block has its lines, with a gap before them; a block quote has an empty line and then the lines of its
-- blocks, all of them quoted, but right after a marker it begins there; an item has its marker and then the lines of its blocks
abbrev pub lines_of : OptionsView → ParserOptions → Outside → How → Blocks → List Line
lines_of o flags c how Nothing = []
lines_of o flags c how (PlainThen b f) = plain_gap how b ++ plain_lines o flags c how b ++ lines_of o flags c (Below (feeds_below o b) None) f
lines_of o flags c how (QuoteThen kids f) =
    quote_lines how (lines_of o flags c Beside kids) (lines_of o flags c (Below 1 None) kids) ++ lines_of o flags c (Below (feeds_below_quote o) None) f
lines_of o flags c how (BulletsThen items f) =
    list_gap c how ++ lines_of o flags (in_bullets (bullet_for o c how) c) Beside items
    ++ lines_of o flags c (Below (feeds_below_list o c.listed items) (Some (bullet_for o c how))) f
lines_of o flags c how (ItemThen kids f) =
    item_gap how ++ hanging (marker (unwrap_or c.bullet 0)) (lines_of o flags c Marked kids) ++ lines_of o flags c (Below (feeds_below_item o kids) None) f

-- the lines of a document
abbrev pub document_lines : OptionsView → ParserOptions → Blocks → List Line
document_lines o flags f = lines_of o flags no_lists Beside f

-- lines as one text, a line feed between two
abbrev pub joined : List Line → List ℕ
joined [] = []
joined (l ∷ ls) = l ++ flat_map (λ m. codes "\n" ++ m) ls

-- the layout of blocks as a document
abbrev pub layout : OptionsView → ParserOptions → Blocks → List ℕ
layout o flags f = joined (document_lines o flags f)
