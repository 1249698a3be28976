-- Container blocks: which lines go on in a block quote and in an item, and how they are in there (CommonMark 0.31.2, 5.1 and 5.2).
use Rattle.std.specs.Prelude.{ℕ, ◌+◌, ◌-◌, Bool, true, false, not, nat_le, if◌then◌else◌, List, [], ◌∷◌, ◌++◌, length, Option, Some, None}
use Rattle.std.specs.List.{list_any}
use Rattle.tocmark_commonmark.specs.Lines.{Part, Line, Written, Lazy, is_blank, is_blank_line, indent, ink, line_ink, after_ink, without_columns}
use Rattle.tocmark_commonmark.specs.Tree.{Quote, Found, ends_open, tree, Taken, taken}
use Rattle.tocmark_commonmark.specs.Beginnings.{ItemMark, Beginning, QuoteLine, beginning, may_be_lazy}

-- 5.1 and 5.2: a line that goes on is the next one inside
abbrev pub goes_on : (Line → List Line) → List Line → Option Line → List Line
goes_on next inside None = inside
goes_on next inside (Some l) = next l

-- 5.1 and 5.2: the longest front of lines that go on in a container, after those that are inside already
abbrev pub front : (List Line → Line → Option Line) → List Line → List Line → List Line
front within inside [] = inside
front within inside (l ∷ ls) = goes_on (λ x. front within (inside ++ x ∷ []) ls) inside (within inside l)

-- 5.1 and 5.2, laziness: a line without its marker or indentation continues the paragraph that the lines so far end with
abbrev pub lazily : (List Line → List Found) → List Line → List ℕ → Bool → Option Line
lazily blocks inside bytes false = None
lazily blocks inside bytes true = if ends_open (length inside) (blocks inside) then Some (Lazy bytes) else None

-- 5.1: a block quote marker is `>`, with a space after it if there is one
abbrev pub unquoted : Line → Line
unquoted (Written p) = Written (without_columns 1 (after_ink 1 p))
unquoted (Lazy bytes) = Lazy bytes

-- 5.1: a line with a marker is a line of the quote, another one only lazily
abbrev pub in_quote_as : (List Line → List Found) → List Line → Line → Beginning → Option Line
in_quote_as blocks inside l QuoteLine = Some (unquoted l)
in_quote_as blocks inside l b = lazily blocks inside (line_ink l) (may_be_lazy b)

-- 5.1: a line after these in a quote
abbrev pub in_quote : (List Line → List Found) → List Line → Line → Option Line
in_quote blocks inside l = in_quote_as blocks inside l (beginning l)

-- 5.1: a block quote
abbrev pub quote_of : ℕ → List Line → List Found → Taken
quote_of at inside found = taken (record {
  block = Quote (tree found);
  first = at;
  last = at + length inside - 1;
  is_open = ends_open (length inside) found;
}) (length inside)

-- 5.1: a block quote of these lines
abbrev pub quote_with : (List Line → List Found) → ℕ → List Line → Taken
quote_with blocks at inside = quote_of at inside (blocks inside)

-- 5.1: the block quote that lines begin with
abbrev pub quote : (List Line → List Found) → ℕ → List Line → Taken
quote blocks at ls = quote_with blocks at (front (in_quote blocks) [] ls)

-- 5.2: a line of an item, without its indentation; an item can begin with at most one blank line
abbrev pub in_item_as : (List Line → List Found) → ℕ → List Line → Part → Bool → Bool → Option Line
in_item_as blocks width inside p true far =
    if list_any (λ l. not (is_blank_line l)) inside then Some (Written (without_columns width p)) else None
in_item_as blocks width inside p false true = Some (Written (without_columns width p))
in_item_as blocks width inside p false false = lazily blocks inside (ink p) (may_be_lazy (beginning (Written p)))

-- 5.2: a line after these in an item; a line that is lazy further out is lazy in here
abbrev pub in_item : (List Line → List Found) → ℕ → List Line → Line → Option Line
in_item blocks width inside (Lazy bytes) = Some (Lazy bytes)
in_item blocks width inside (Written p) = in_item_as blocks width inside p (is_blank p.bytes) (nat_le width (indent p))

-- 5.2: the lines of an item with this marker, as they are in it, if these lines are after that of the marker
abbrev pub item_lines : (List Line → List Found) → ItemMark → List Line → List Line
item_lines blocks m ls = front (in_item blocks m.width) (Written m.first ∷ []) ls
