-- What the blocks of two texts in a row are.
use Rattle.std.specs.Prelude.{ℕ, ◌+◌, ◌*◌, ◌^◌, ◌<◌, ◌≡◌, Bool, true, false, not, List, [], ◌∷◌, ◌++◌, length, map, codes}
use Rattle.std.specs.List.{fold}
use Rattle.std.specs.Option.{option_map}
use Rattle.tocmark_read_scan.specs.declared.syntax.TheConstants.{CORE}
use Rattle.tocmark_read_lines.specs.Lines.{lines_of}
use Rattle.tocmark_read_lines.specs.declared.container.Opened.{Opened}
use Rattle.tocmark_read_page.specs.Pages.{State, first_page, is_quote}
use Rattle.tocmark_read_page.specs.declared.leaf.Leaf.{Leaf}
use Rattle.tocmark_read_page.specs.declared.leaf.Leaf.TheVariants as leaf
use Rattle.tocmark_read_blocks.specs.Blocks.{core_known, line_taken_in, blocks_in}
use Rattle.tocmark_read_blocks.specs.Leaves.{goes_past_blank}
use Rattle.tocmark_text_laws.specs.Quoted.{Told, Trees, none, more, blocks_told, read_trees}

-- the page after all lines of a text, before what is open ends
abbrev pub after_lines : List ℕ → State
after_lines text = fold (line_taken_in core_known text) first_page (lines_of text)

-- a text ends with a line feed, and after that no leaf and no container is open
pub record IsClosed (text : List ℕ) : Type 0 where
  pub line : (front : List ℕ) × (text ≡ front ++ 10 ∷ [])
  pub leaf : (after_lines text).leaf ≡ leaf.Nothing
  pub opened : (after_lines text).opened ≡ []

-- the same block after so many others
abbrev pub later : ℕ → Told → Told
later count b = record { depth = b.depth; sort = b.sort; loose = b.loose; list = option_map (λ i. count + i) b.list; lines = b.lines }

-- blocks, and others after them
abbrev pub trees_joined : Trees → Trees → Trees
trees_joined none us = us
trees_joined (more t ts) us = more t (trees_joined ts us)

-- the blocks and the definitions of links of a whole text are those of a first text, and then those of the rest
pub record IsSequence (whole text rest : List ℕ) : Type 0 where
  pub trees : read_trees whole ≡ trees_joined (read_trees text) (read_trees rest)
  pub blocks : blocks_told whole (blocks_in CORE whole) ≡ blocks_told text (blocks_in CORE text) ++ map (later (length (blocks_in CORE text).blocks)) (blocks_told rest (blocks_in CORE rest))
  pub definitions : (blocks_in CORE whole).definitions ≡ (blocks_in CORE text).definitions ++ (blocks_in CORE rest).definitions

-- so it is with each text after which nothing is open, whatever comes after it
abbrev pub TextsInARow : Type 0
TextsInARow = (text rest : List ℕ) → IsClosed text → 4 * (length text + length rest) + 20 < 2 ^ 64 → IsSequence (text ++ rest) text rest

-- no leaf is open, or one that ends before an empty line
abbrev pub ends_before_blank : Leaf → Bool
ends_before_blank leaf.Nothing = true
ends_before_blank leaf.Paragraph = true
ends_before_blank leaf.Indented = false
ends_before_blank (leaf.Fenced f) = false
ends_before_blank (leaf.Html k) = not (goes_past_blank k)
ends_before_blank (leaf.Metadata k) = false
ends_before_blank (leaf.Table t) = false

-- an empty line ends what is open: such a leaf in no container, or a quote and all that is in it
abbrev pub ends_all : List Opened → Leaf → Bool
ends_all [] k = ends_before_blank k
ends_all (o ∷ os) k = is_quote o.container

abbrev pub is_quiet : List ℕ → Bool
is_quiet text = ends_all (after_lines text).opened (after_lines text).leaf

-- a text ends with a line feed, and an empty line ends what is open after that
pub record IsQuiet (text : List ℕ) : Type 0 where
  pub line : (front : List ℕ) × (text ≡ front ++ 10 ∷ [])
  pub ends : is_quiet text ≡ true

-- so it is with each text that is quiet, and what comes after an empty line
abbrev pub AnEmptyLineBetween : Type 0
AnEmptyLineBetween = (text rest : List ℕ) → IsQuiet text → 4 * (length text + length rest) + 28 < 2 ^ 64 → IsSequence (text ++ 10 ∷ rest) text rest

-- how many blocks of a text are in no container
abbrev pub count_of : Trees → ℕ
count_of none = 0
count_of (more t ts) = 1 + count_of ts

-- whether a text is quiet, and how many blocks are in no container: of this text, of another one, and of both with an empty line between
abbrev pub Counts : List ℕ → List ℕ → Bool → ℕ → ℕ → ℕ → Type 0
Counts text rest quiet first second both = (is_quiet text ≡ quiet) × (count_of (read_trees text) ≡ first) × (count_of (read_trees rest) ≡ second) × (count_of (read_trees (text ++ 10 ∷ rest)) ≡ both)

-- Some texts go on after an empty line, so the premise is needed: a list, indented code, a fence that isn't closed, and HTML
-- that has no end. Others don't: a heading, a definition (what could be its title is a paragraph), a quote, and other HTML.
abbrev pub SomeGoOn : Type 0
SomeGoOn =
    Counts (codes "- a\n") (codes "- b\n") false 1 1 1
    × Counts (codes "    a\n") (codes "    b\n") false 1 1 1
    × Counts (codes "```\n") (codes "a\n") false 1 1 1
    × Counts (codes "<pre>\n") (codes "a\n") false 1 1 1
    × Counts (codes "# a\n") (codes "a\n") true 1 1 2
    × Counts (codes "[a]: b\n") (codes "'c'\n") true 1 1 2
    × Counts (codes "> - a\n") (codes "> - b\n") true 1 1 2
    × Counts (codes "<p>\n") (codes "a\n") true 1 1 2
