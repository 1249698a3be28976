-- Which containers go on in a line, and which begin in it, where places are one further.
use Rattle.std.proofs.Common.{◌≡◌, ℕ, suc, ◌-◌, Bool, true, false, if◌then◌else◌, nat_le, List, [], ◌∷◌, length, map, refl, ap, ◌∙◌}
use Rattle.std.specs.Prelude.{slice_get, slice_set, Option, Some, None}
use Rattle.std.specs.Option.{option_map, option_map_or, option_and_then}
use Rattle.std.proofs.lemmas.List.{length-map}
use Rattle.std.proofs.lemmas.Option.{slice_get-map}
use native.Mathlib.Numerals.{unary_clauses}
use Rattle.tocmark_read_scan.specs.Basic.{plus}
use Rattle.tocmark_read_lines.specs.Cells.{first_cursor}
use Rattle.tocmark_read_lines.specs.Marks.{marker_at}
use Rattle.tocmark_read_lines.specs.Containers.{raised, raised_at, after_quote, item_goes_on, going_on_as, going_on, is_empty, blank_depth, stopped, passed, matched_from, matched, touched_from, item_from, item_at, container_at, container_in}
use Rattle.tocmark_read_lines.specs.DefinitionLists.{definition_start}
use Rattle.tocmark_read_lines.specs.Footnotes.{note_start}
use Rattle.tocmark_read_lines.specs.declared.cell.Cell.{Cell}
use Rattle.tocmark_read_lines.specs.declared.cell.Cursor.{Cursor}
use Rattle.tocmark_read_lines.specs.declared.beginnings.Marker.{Marker}
use Rattle.tocmark_read_lines.specs.declared.beginnings.Tail.{Tail}
use Rattle.tocmark_read_lines.specs.declared.container.Container.{Container}
use Rattle.tocmark_read_lines.specs.declared.container.Container.TheVariants as container
use Rattle.tocmark_read_lines.specs.declared.container.Opened.{Opened}
use Rattle.tocmark_read_scan.specs.declared.syntax.TheConstants.{CORE}
use Rattle.tocmark_text_laws.specs.Further.{cell_on, opened_on}
use Rattle.tocmark_text_laws.proofs.Lists.{set_map, map_or_map}
use Rattle.tocmark_text_laws.proofs.Cells.{same_length, same_byte, same_ink, same_first, same_moved}
use Rattle.tocmark_text_laws.proofs.Marks.{same_rule, same_marker}

pub raised_on : (o : Opened) (end line : ℕ) → raised (opened_on o) (suc end) (suc line) ≡ opened_on (raised o end line)
unfolding raised
raised_on o end line = simp unary_clauses

pub raised_at_on : (os : List Opened) (place end line : ℕ) → raised_at (map opened_on os) place (suc end) (suc line) ≡ map opened_on (raised_at os place end line)
unfolding raised_at
raised_at_on os place end line = rw (slice_get-map opened_on os place) (by (slice_get os place))
  where
    by : (o : Option Opened) → option_map_or (λ o. slice_set (map opened_on os) place (raised o (suc end) (suc line))) (option_map opened_on o) (map opened_on os) ≡ map opened_on (option_map_or (λ o. slice_set os place (raised o end line)) o os)
    by None = refl
    by (Some o) = ap (slice_set (map opened_on os) place) (raised_on o end line) ∙ set_map opened_on os place (raised o end line)

pub touched_from_on : (count end line : ℕ) (qs : List ℕ) (os : List Opened) → touched_from count (suc end) (suc line) qs (map opened_on os) ≡ map opened_on (touched_from count end line qs os)
touched_from_on count end line [] os = refl
touched_from_on count end line (q ∷ qs) os = rw (raised_at_on os q end line) (by (nat_le count q) (touched_from_on count end line qs (raised_at os q end line)))
  where
    by : (k : Bool) → touched_from count (suc end) (suc line) qs (map opened_on (raised_at os q end line)) ≡ map opened_on (touched_from count end line qs (raised_at os q end line))
        → (if k then map opened_on os else touched_from count (suc end) (suc line) qs (map opened_on (raised_at os q end line))) ≡ map opened_on (if k then os else touched_from count end line qs (raised_at os q end line))
    by true e = refl
    by false e = e

pub same_after : (cs : List Cell) (cursor : Cursor) → after_quote (map cell_on cs) cursor ≡ after_quote cs cursor
unfolding after_quote
same_after cs cursor = rw (same_byte cs (plus cursor.ink 1), same_moved cs cursor (plus (plus cursor.ink 1) 1), same_moved cs cursor (plus cursor.ink 1)) refl

pub same_item_goes : (cs : List Cell) (cursor : Cursor) (width : ℕ) (had : Bool) → item_goes_on (map cell_on cs) cursor width had ≡ item_goes_on cs cursor width had
unfolding item_goes_on
same_item_goes cs cursor width had = rw (same_length cs, same_moved cs cursor (plus cursor.column width), same_moved cs cursor (length cs)) refl

same_going_as : (k : Container) (cs : List Cell) (cursor : Cursor) (had : Bool) → going_on_as k (map cell_on cs) cursor had ≡ going_on_as k cs cursor had
same_going_as container.Quote cs cursor had = rw (same_byte cs cursor.ink, same_after cs cursor) refl
same_going_as (container.List sort) cs cursor had = refl
same_going_as (container.Item width) cs cursor had = same_item_goes cs cursor width had
same_going_as container.Footnote cs cursor had = same_item_goes cs cursor 4 true
same_going_as container.Definitions cs cursor had = refl
same_going_as (container.Definition width) cs cursor had = same_item_goes cs cursor width had

pub same_going : (cs : List Cell) (cursor : Cursor) (o : Opened) → going_on (map cell_on cs) cursor (opened_on o) ≡ going_on cs cursor o
unfolding going_on
same_going cs cursor o = same_going_as o.container cs cursor o.had

same_empty : (o : Opened) → is_empty (opened_on o) ≡ is_empty o
unfolding is_empty
same_empty o = refl

pub same_blank_depth : (os : List Opened) → blank_depth (map opened_on os) ≡ blank_depth os
unfolding blank_depth is_empty
same_blank_depth os = rw (length-map os opened_on, slice_get-map opened_on os (length os - 1), map_or_map opened_on is_empty false (slice_get os (length os - 1))) refl

pub same_stopped : (cs : List Cell) (os : List Opened) (qs : List ℕ) (count : ℕ) (cursor : Cursor) → stopped (map cell_on cs) (map opened_on os) qs count cursor ≡ stopped cs os qs count cursor
unfolding stopped
same_stopped cs os qs count cursor = rw (same_length cs, same_blank_depth os) refl

pub same_passed : (cs : List Cell) (cursor : Cursor) (o : Opened) → passed (map cell_on cs) cursor (opened_on o) ≡ passed cs cursor o
unfolding passed
same_passed cs cursor o = rw (same_length cs, same_going cs cursor o) refl

pub same_matched_from : (cs : List Cell) (os : List Opened) (qs : List ℕ) (count : ℕ) (cursor : Cursor) (rest : List Opened)
    → matched_from (map cell_on cs) (map opened_on os) qs count cursor (map opened_on rest) ≡ matched_from cs os qs count cursor rest
same_matched_from cs os qs count cursor [] = refl
same_matched_from cs os qs count cursor (o ∷ rest) =
    rw (same_passed cs cursor o, same_stopped cs os qs count cursor) (by (passed cs cursor o) (λ next. same_matched_from cs os qs (plus count 1) next rest))
  where
    by : (found : Option Cursor) → ((next : Cursor) → matched_from (map cell_on cs) (map opened_on os) qs (plus count 1) next (map opened_on rest) ≡ matched_from cs os qs (plus count 1) next rest)
        → option_map_or (λ next. matched_from (map cell_on cs) (map opened_on os) qs (plus count 1) next (map opened_on rest)) found (stopped cs os qs count cursor, cursor)
        ≡ option_map_or (λ next. matched_from cs os qs (plus count 1) next rest) found (stopped cs os qs count cursor, cursor)
    by None more = refl
    by (Some next) more = more next

pub same_matched : (cs : List Cell) (os : List Opened) (qs : List ℕ) → matched (map cell_on cs) (map opened_on os) qs ≡ matched cs os qs
same_matched cs os qs = ap (λ c. matched_from (map cell_on cs) (map opened_on os) qs 0 c (map opened_on os)) (same_first cs) ∙ same_matched_from cs os qs 0 (first_cursor cs) os

pub same_item_from : (cs : List Cell) (cursor : Cursor) (p : Bool) (m : Marker) → item_from (map cell_on cs) cursor p m ≡ item_from cs cursor p m
same_item_from cs cursor p m = rw (same_ink cs (plus cursor.ink m.length), same_length cs) refl

pub same_item : (cs : List Cell) (cursor : Cursor) (p : Bool) → item_at (map cell_on cs) cursor p ≡ item_at cs cursor p
unfolding item_at
same_item cs cursor p = rw (same_marker cs cursor.ink) (by (marker_at cs cursor.ink))
  where
    by : (o : Option Marker) → option_and_then (item_from (map cell_on cs) cursor p) o ≡ option_and_then (item_from cs cursor p) o
    by None = refl
    by (Some m) = same_item_from cs cursor p m

pub same_container : (cs : List Cell) (tail : Tail) (cursor : Cursor) (p : Bool) → container_at (map cell_on cs) tail cursor p ≡ container_at cs tail cursor p
unfolding container_at
same_container cs tail cursor p = rw (same_length cs, same_byte cs cursor.ink, same_rule cs tail cursor.ink, same_item cs cursor p) refl

pub same_container_in : (cs : List Cell) (tail : Tail) (cursor : Cursor) (p : Bool) → container_in CORE (map cell_on cs) tail cursor p ≡ container_in CORE cs tail cursor p
unfolding container_in definition_start note_start
same_container_in cs tail cursor p = same_container cs tail cursor p
