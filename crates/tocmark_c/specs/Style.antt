-- The style that a struct of C stands for.
use Rattle.std.specs.Prelude.{◌≡◌, ◌==◌, ◌&&◌, nat_le, if◌then◌else◌, ℕ, Bool, Option, Some, None, is_some}
use Rattle.tocmark_print.specs.declared.style.Bullet.{Bullet}
use Rattle.tocmark_print.specs.declared.style.Bullet.TheVariants as bullet
use Rattle.tocmark_print.specs.declared.style.Delimiter.{Delimiter}
use Rattle.tocmark_print.specs.declared.style.Delimiter.TheVariants as delimiter
use Rattle.tocmark_print.specs.declared.style.Fence.{Fence}
use Rattle.tocmark_print.specs.declared.style.Fence.TheVariants as fence
use Rattle.tocmark_print.specs.declared.style.HardBreak.{HardBreak}
use Rattle.tocmark_print.specs.declared.style.HardBreak.TheVariants as break
use Rattle.tocmark_print.specs.declared.style.Marker.{Marker}
use Rattle.tocmark_print.specs.declared.style.Marker.TheVariants as marker
use Rattle.tocmark_print.specs.declared.style.Numbering.{Numbering}
use Rattle.tocmark_print.specs.declared.style.Numbering.TheVariants as numbering
use Rattle.tocmark_print.specs.declared.style.Rule.{Rule}
use Rattle.tocmark_print.specs.declared.style.Rule.TheVariants as rule
use Rattle.tocmark_print.specs.declared.style.Headings.{Headings}
use Rattle.tocmark_print.specs.declared.style.Headings.TheVariants as headings
use Rattle.tocmark_print.specs.declared.style.ListIndent.{ListIndent}
use Rattle.tocmark_print.specs.declared.style.ListIndent.TheVariants as indent
use Rattle.tocmark_print.specs.declared.style.Style.{Style}
use Rattle.tocmark_print.specs.declared.style.Tables.{Tables}
use Rattle.tocmark_print.specs.declared.style.Tables.TheVariants as tables
use Rattle.tocmark_print.specs.declared.style.Wrap.{Wrap}
use Rattle.tocmark_print.specs.declared.style.Wrap.TheVariants as wrap
use Rattle.tocmark_c.specs.declared.style.TocmarkStyle.{TocmarkStyle}

-- each character stands for itself, and 0 for what the source has
abbrev pub bullet_of : ℕ → Option (Option Bullet)
bullet_of n =
    if n == 0 then Some None
    else if n == 42 then Some (Some bullet.Asterisk)
    else if n == 43 then Some (Some bullet.Plus)
    else if n == 45 then Some (Some bullet.Hyphen)
    else None

abbrev pub delimiter_of : ℕ → Option (Option Delimiter)
delimiter_of n =
    if n == 0 then Some None
    else if n == 41 then Some (Some delimiter.Parenthesis)
    else if n == 46 then Some (Some delimiter.Period)
    else None

abbrev pub fence_of : ℕ → Option (Option Fence)
fence_of n =
    if n == 0 then Some None
    else if n == 96 then Some (Some fence.Backtick)
    else if n == 126 then Some (Some fence.Tilde)
    else None

abbrev pub marker_of : ℕ → Option (Option Marker)
marker_of n =
    if n == 0 then Some None
    else if n == 42 then Some (Some marker.Asterisk)
    else if n == 95 then Some (Some marker.Underscore)
    else None

-- numbers of numberings, of breaks, of rules and of tables
abbrev pub numbering_of : ℕ → Option Numbering
numbering_of n =
    if n == 0 then Some numbering.Source
    else if n == 1 then Some numbering.First
    else if n == 2 then Some numbering.Increment
    else None

abbrev pub hard_break_of : ℕ → Option HardBreak
hard_break_of n =
    if n == 0 then Some break.Source
    else if n == 1 then Some break.Backslash
    else if n == 2 then Some break.Blanks
    else None

abbrev pub rule_of : ℕ → Option Rule
rule_of n =
    if n == 0 then Some rule.Dashes
    else if n == 1 then Some rule.Source
    else if n == 2 then Some rule.Dashes
    else if n == 3 then Some rule.Source
    else None

-- the same number also says how headings look
abbrev pub headings_of : ℕ → Option Headings
headings_of n =
    if n == 0 then Some headings.Signs
    else if n == 1 then Some headings.Signs
    else if n == 2 then Some headings.Source
    else if n == 3 then Some headings.Source
    else None

abbrev pub tables_of : ℕ → Option Tables
tables_of n = if n == 0 then Some tables.Aligned else if n == 1 then Some tables.Source else None

-- so many columns, and 0 for 120
abbrev pub table_width_of : ℕ → ℕ
table_width_of n = if n == 0 then 120 else n

-- 0 for lines that stay, the largest number for one line, the one before it for a line a sentence, and else so many columns
abbrev pub wrap_of : ℕ → Wrap
wrap_of n =
    if n == 0 then wrap.Keep
    else if n == 4294967294 then wrap.Sentence
    else if n == 4294967295 then wrap.No
    else wrap.At n

-- 0 for the columns of the source, 1 for those that the marker takes, or four columns
abbrev pub list_indent_of : ℕ → Option ListIndent
list_indent_of n =
    if n == 0 then Some indent.Source
    else if n == 1 then Some indent.Marker
    else if n == 4 then Some indent.Four
    else None

-- the struct has all these fields, and each number means something
abbrev pub has_style : TocmarkStyle → Bool
has_style s =
    nat_le 56 s.size && is_some (bullet_of s.bullet) && is_some (delimiter_of s.delimiter)
    && is_some (numbering_of s.numbering) && is_some (marker_of s.emphasis)
    && is_some (marker_of s.strong) && is_some (fence_of s.fence)
    && is_some (hard_break_of s.hard_break) && is_some (rule_of s.rule) && is_some (headings_of s.rule)
    && is_some (list_indent_of s.list_indent) && is_some (tables_of s.tables)

-- a style is what a struct says
abbrev pub IsStyleOf : TocmarkStyle → Style → Type 0
IsStyleOf s style =
    (bullet_of s.bullet ≡ Some style.bullet) × (delimiter_of s.delimiter ≡ Some style.delimiter)
    × (numbering_of s.numbering ≡ Some style.numbering) × (marker_of s.emphasis ≡ Some style.emphasis)
    × (marker_of s.strong ≡ Some style.strong) × (fence_of s.fence ≡ Some style.fence)
    × (style.fence_length ≡ s.fence_length)
    × (hard_break_of s.hard_break ≡ Some style.hard_break) × (rule_of s.rule ≡ Some style.rule)
    × (headings_of s.rule ≡ Some style.headings) × (style.table_width ≡ table_width_of s.table_width) × (style.wrap ≡ wrap_of s.wrap)
    × (list_indent_of s.list_indent ≡ Some style.list_indent) × (tables_of s.tables ≡ Some style.tables)
