-- Emphasis and strong emphasis (CommonMark 6.2; the algorithm of its appendix).
use Rattle.std.specs.Prelude.{◌≡◌, ◌≤◌, drop, ℕ, zero, suc, Bool, not, ◌+◌, ◌-◌, ◌%◌, ◌==◌, ◌&&◌, ◌||◌, nat_lt, nat_le, if◌then◌else◌, List, [], ◌∷◌, ◌++◌, length, take, replicate, fold, slice_get, slice_set, Option, Some, None, unwrap_or}
use Rattle.tocmark_read_scan.specs.Basic.{plus}
use Rattle.tocmark_read_scan.specs.Repeat.{repeated}
use Rattle.tocmark_read_spans.specs.declared.role.Role.{Role}
use Rattle.tocmark_read_spans.specs.declared.role.Role.TheVariants.{Hidden, Open, Close}
use Rattle.tocmark_read_spans.specs.declared.role.Span.{Span}
use Rattle.tocmark_read_spans.specs.declared.role.Span.TheVariants.{Emphasis, Strong, Strikethrough, Subscript, Superscript}
use Rattle.tocmark_read_spans.specs.declared.run.Run.{Run}
use Rattle.tocmark_read_spans.specs.declared.emphasis.Openers.{Openers}

-- the roles, the runs that may open, and for each class of closers where they need not look below
pub record State : Type 0 where
  pub roles : List Role
  pub stack : List Run
  pub bottoms : List ℕ

-- roles and machine as lists: the stack is the first runs of a list
abbrev pub openers : List Role → List Run → Openers → State
openers roles runs o = record { roles = roles; stack = take o.height runs; bottoms = o.bottoms }

-- a stack reaches no higher than a height, and above that the list of runs is still what it was
abbrev pub Keeps : ℕ → List Run → ℕ → List Run → Type 0
Keeps top old height new = (height ≤ top) × (drop top new ≡ drop top old)

-- whether one run of `*`, `_` or `^` may open what another closes: the rule of three
unfoldable pub emphasis_fits : Run → Run → Bool
emphasis_fits opener closer =
    (opener.byte == closer.byte) &&
    not ((opener.closes || closer.opens) && (plus opener.length closer.length % 3 == 0) && not ((opener.length % 3 == 0) && (closer.length % 3 == 0)))

-- tildes are closed by as many tildes, all at once
unfoldable pub fits : Run → Run → Bool
fits opener closer =
    if closer.byte == 126 then (opener.byte == 126) && (opener.length == closer.length) else emphasis_fits opener closer

-- a delimiter that is none in CommonMark
unfoldable pub is_tilde_or_caret : ℕ → Bool
is_tilde_or_caret byte = (byte == 126) || (byte == 94)

-- closers of one class fit the same openers; tildes and carets share one, so that one that finds no opener bars both of any length
unfoldable pub class_of : Run → ℕ
class_of closer = if is_tilde_or_caret closer.byte then 12 else (if closer.byte == 42 then 0 else 6) + (if closer.opens then 0 else 3) + closer.length % 3

-- what one run of the stack says of a search: stop, here, or go on
abbrev pub found_at : Option Run → Run → ℕ → ℕ → Option ℕ → Option ℕ
found_at None closer bottom k more = more
found_at (Some opener) closer bottom k more = if nat_lt opener.place bottom then None else (if fits opener closer then Some k else more)

-- the topmost of the lowest n runs that fits, down to a place
abbrev pub found : List Run → Run → ℕ → ℕ → Option ℕ
found stack closer bottom zero = None
found stack closer bottom (suc k) = found_at (slice_get stack k) closer bottom k (found stack closer bottom k)

-- the run with so many delimiters left
abbrev pub with_count : ℕ → Run → Run
with_count n r = record r { count = n }

-- what a match of tildes or carets is
unfoldable pub extended_span : Run → Span
extended_span closer = if closer.byte == 94 then Superscript else (if closer.subscript then Subscript else Strikethrough)

-- what a match of so many delimiters is
unfoldable pub span_of : ℕ → Run → Span
span_of width closer = if is_tilde_or_caret closer.byte then extended_span closer else (if width == 2 then Strong else Emphasis)

-- how many delimiters are matched at once
unfoldable pub width_of : Run → Run → ℕ
width_of opener closer = if nat_le 2 opener.count && nat_le 2 closer.count then 2 else 1

-- the stack up to an opener, which has so many delimiters less; one without any goes, too
abbrev pub shortened : ℕ → Run → ℕ → List Run → List Run
shortened k opener width stack =
    let left = opener.count - width in
    if left == 0 then take k stack else slice_set (take (plus k 1) stack) k (with_count left opener)

-- a match of so many delimiters
abbrev pub matching : ℕ → ℕ → Run → Run → State → State × Run
matching width k opener closer s =
    let inner = plus opener.place opener.count - width in
    let end = plus closer.place width in (
      record s {
        roles = slice_set (slice_set (slice_set (slice_set s.roles (plus opener.place opener.count - 1) Hidden) inner (Open (span_of width closer) end)) closer.place Hidden) (end - 1) (Close end);
        stack = shortened k opener width s.stack;
      },
      record closer { place = end; count = closer.count - width },
    )

-- a run of the stack and a closer are matched
unfoldable pub matched : ℕ → Run → Run → State → State × Run
matched k opener closer s = matching (width_of opener closer) k opener closer s

-- no run fits: the closer's class has a new bottom
abbrev pub barred : Run → State → State
barred closer s = record s { bottoms = slice_set s.bottoms (class_of closer) closer.place }

-- the run of the stack is matched with the closer
abbrev pub once_on : Option Run → ℕ → Run → State → State × Option Run
once_on None k closer s = (s, None)
once_on (Some opener) k closer s = let next = matched k opener closer s in (next.0, Some (next.1))

-- the run at the place that was found is matched, or the class is barred
abbrev pub once_at : Option ℕ → Run → State → State × Option Run
once_at None closer s = (barred closer s, None)
once_at (Some k) closer s = once_on (slice_get s.stack k) k closer s

-- a closer is matched with the topmost opener that fits, and what is left of it, if one fits
unfoldable pub once : Run → State → State × Option Run
once closer s =
    if closer.count == 0 then (s, None)
    else once_at (found s.stack closer (unwrap_or (slice_get s.bottoms (class_of closer)) 0) (length s.stack)) closer s

-- what is left of a run is an opener, if it can be one
abbrev pub stacked : State × Run → State
stacked p = if (p.1).opens && nat_lt 0 (p.1).count then record (p.0) { stack = (p.0).stack ++ p.1 ∷ [] } else p.0

-- one run further
unfoldable pub run_step : State → Run → State
run_step s run = stacked (if run.closes then repeated once run.count run s else (s, run))

-- no run may open yet
abbrev pub emphasis_start : List Role → State
emphasis_start roles = record { roles = roles; stack = []; bottoms = replicate 13 0 }

-- the roles after all runs
unfoldable pub emphasized : List Role → List Run → List Role
emphasized roles runs = (fold run_step (emphasis_start roles) runs).roles
