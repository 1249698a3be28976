-- What the place of a strikethrough is told, and containers between delimiters.
use Rattle.std.specs.Prelude.{◌≡◌, Bool, Option}
use Rattle.tocmark_event.specs.View.{TagView}
use Rattle.tocmark_event.specs.declared.event.flags.ParserOptions.{ParserOptions}
use Rattle.tocmark_spelling.specs.Kinds.{is_strikethrough}
use Rattle.tocmark_spelling.specs.Opening.{is_double, open_delimited}
use Rattle.tocmark_spelling.specs.Page.{Path, Page, Site}
use Rattle.tocmark_spelling.specs.Places.{nearest}
use Rattle.tocmark_spelling.specs.Plan.{Setting, Manner}
use Rattle.tocmark_spelling.specs.declared.plan.Layout.{Layout}
use Rattle.tocmark_write_inlines.specs.declared.delimiters.Delimiter.{Delimiter}

-- what is told of a strikethrough's place is what the plan, the flags and the open containers say
pub record IsStruckPlace
    (layout : Layout) (flags : ParserOptions) (in_double : Bool) (s : Setting) (m : Manner) (path : Path) : Type 0 where
  pub layout_is : m.plan.layout ≡ layout
  pub flags_are : s.flags ≡ flags
  pub outside : is_double (nearest is_strikethrough path) ≡ in_double

-- a container that opens and closes with this
abbrev pub opened_between : TagView → Delimiter → Path → Page → Option Site
opened_between t d path p = open_delimited t d.before.now d.after.now path p
