-- What is kept of a block in few bytes.
use Rattle.std.specs.Prelude.{ℕ, suc, zero, ◌+◌, ◌-◌, ◌^◌, ◌<◌, ◌≤◌, ◌≡◌, Bool, false, Option, Some, None}
use Rattle.tocmark_read_page.specs.declared.page.Block.{Block}
use Rattle.tocmark_read_page.specs.declared.page.BlockKind.{BlockKind}
use Rattle.tocmark_read_page.specs.declared.page.BlockKind.TheVariants as kind
use Rattle.tocmark_read_page.specs.declared.packed.Form.{Form}
use Rattle.tocmark_read_page.specs.declared.packed.Form.TheVariants as form
use Rattle.tocmark_read_page.specs.declared.packed.SmallKind.{SmallKind}
use Rattle.tocmark_read_page.specs.declared.packed.SmallKind.TheVariants as small

-- the kind that a small one stands for, in a block with this start
unfoldable pub kind_in : ℕ → SmallKind → BlockKind
kind_in start small.Quote = kind.Quote None
kind_in start (small.Bullets loose) = kind.List None
kind_in start (small.Numbers loose first) = kind.List (Some first)
kind_in start small.Item = kind.Item
kind_in start small.Paragraph = kind.Paragraph
kind_in start (small.Heading level) = kind.Heading level None
kind_in start small.Indented = kind.Indented
kind_in start (small.Fenced behind length) = kind.Fenced (start + behind) (start + behind + length)
kind_in start small.Html = kind.Html
kind_in start small.Rule = kind.Rule
kind_in start (small.Table behind length) = kind.Table (start + behind) (start + behind + length)
kind_in start small.TableHead = kind.TableHead
kind_in start small.TableRow = kind.TableRow
kind_in start small.TableCell = kind.TableCell
kind_in start small.DefinitionList = kind.DefinitionList
kind_in start small.DefinitionListTitle = kind.DefinitionListTitle
kind_in start small.DefinitionListDefinition = kind.DefinitionListDefinition

-- a list may be loose
unfoldable pub is_loose_in : SmallKind → Bool
is_loose_in small.Quote = false
is_loose_in (small.Bullets loose) = loose
is_loose_in (small.Numbers loose first) = loose
is_loose_in small.Item = false
is_loose_in small.Paragraph = false
is_loose_in (small.Heading level) = false
is_loose_in small.Indented = false
is_loose_in (small.Fenced behind length) = false
is_loose_in small.Html = false
is_loose_in small.Rule = false
is_loose_in (small.Table behind length) = false
is_loose_in small.TableHead = false
is_loose_in small.TableRow = false
is_loose_in small.TableCell = false
is_loose_in small.DefinitionList = false
is_loose_in small.DefinitionListTitle = false
is_loose_in small.DefinitionListDefinition = false

-- the number of a list is kept with one added
unfoldable pub list_in : ℕ → Option ℕ
list_in zero = None
list_in (suc n) = Some n

-- a block as it is kept
unfoldable pub block_in : Form → Block
block_in (form.Whole b) = b.value
block_in (form.Small k depth count start end first list) = record {
  depth = depth;
  kind = kind_in start k;
  start = start;
  end = end;
  first = first;
  last = first + count;
  loose = is_loose_in k;
  list = list_in list;
  task = None;
}

-- the numbers of a block that fits into few bytes; it has no box
abbrev pub HasSmallNumbers : Block → Type 0
HasSmallNumbers b =
    (b.depth < 65536) × (b.start < 2 ^ 32) × (b.end < 2 ^ 32) × (b.first < 2 ^ 32) × (b.first ≤ b.last)
    × (b.last - b.first < 65536) × (b.task ≡ None)
