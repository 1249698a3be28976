-- Texts whose lines end with line feeds alone before and after they are formatted.
use Rattle.std.specs.Prelude.{ℕ, Bool, ◌==◌, ◌&&◌, not, true, false, List, None, Option, Some}
use Rattle.std.specs.List.{list_any}
use Rattle.tocmark_format.specs.declared.range.Ending.{Ending}
use Rattle.tocmark_format.specs.declared.range.Ending.TheVariants.{LineFeed, CarriageReturn, Both}
use Rattle.tocmark_format.specs.declared.range.Ends.{Ends}

-- as in the source
abbrev pub usual_ends : Ends
usual_ends = record { each = None; omits_last = false }

-- lines end with line feeds if those of the source do
abbrev pub is_line_feed : Option Ending → Bool
is_line_feed None = true
is_line_feed (Some LineFeed) = true
is_line_feed (Some CarriageReturn) = false
is_line_feed (Some Both) = false

-- a text has no carriage return and gets none, and its last line has an end
abbrev pub has_plain_ends : Ends → List ℕ → Bool
has_plain_ends ends text = (is_line_feed ends.each && not ends.omits_last) && not (list_any (λ b. b == 13) text)
