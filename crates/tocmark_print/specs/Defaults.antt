-- How a document looks where nothing is asked.
use Rattle.std.specs.Prelude.{None}
use Rattle.tocmark_print.specs.declared.style.Style.{Style}
use Rattle.tocmark_print.specs.declared.style.HardBreak.TheVariants as break
use Rattle.tocmark_print.specs.declared.style.Rule.TheVariants.{Dashes}
use Rattle.tocmark_print.specs.declared.style.Numbering.TheVariants.{Source}
use Rattle.tocmark_print.specs.declared.style.ListIndent.TheVariants as indent
use Rattle.tocmark_print.specs.declared.style.Headings.TheVariants.{Signs}
use Rattle.tocmark_print.specs.declared.style.Tables.TheVariants.{Aligned}
use Rattle.tocmark_print.specs.declared.style.Wrap.TheVariants.{Keep}

-- as in the source what the source has, also its lines, its markers of emphasis and the indents of its items; fences of
-- three, rules of dashes, headings after signs, and aligned tables of 120 columns
abbrev pub usual_style : Style
usual_style = record {
  bullet = None;
  delimiter = None;
  numbering = Source;
  emphasis = None;
  strong = None;
  fence = None;
  fence_length = 3;
  hard_break = break.Source;
  rule = Dashes;
  headings = Signs;
  tables = Aligned;
  table_width = 120;
  wrap = Keep;
  list_indent = indent.Source;
}
