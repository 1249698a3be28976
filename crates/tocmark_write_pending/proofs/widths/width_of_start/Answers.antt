use Rattle.std.proofs.Common.{◌≡◌, ℕ, ◌+◌, ◌∙◌, Bool, List, ap, arith, drop, length, map, subst, IfOk, sym}
use Rattle.std.proofs.lemmas.List.{length-map}
use Rattle.tocmark_event.specs.View.{SourcedEvent}
use Rattle.tocmark_spelling.specs.Buffered.{buffered_view}
use Rattle.tocmark_spelling.specs.Scans.{end_at}
use Rattle.tocmark_spelling.proofs.Turns.{events-drop}
use Rattle.tocmark_write_pending.specs.WidthColumn.{is_last, width_at, width_by}
use Rattle.tocmark_write_pending.proofs.WidthColumn.{ended-by-first, no-width}
use Rattle.tocmark_write_pending.specs.declared.delimiters.Delimiter.{Delimiter}
use Rattle.tocmark_write_pending.proofs.widths.width_of_start.Goals as goal

pub returns-then-start-delimiters : goal.returns-then-start-delimiters
returns-then-start-delimiters c = λ a.
    let events = c.args.events.now in
    let es = map buffered_view events in
    let start = c.args.start in
    let first = start + 1 in
    let rest : map buffered_view c.rest_of.result.now ≡ drop start es = ap (map buffered_view) c.rest_of.ensures ∙ events-drop events start in
    let only : c.is_last-is_only.result ≡ is_last (end_at first (drop first es)) (length es) =
    c.is_last-is_only.ensures
    ∙ ap (λ o. is_last o (length events)) (c.end_at.ensures.end es c.requires.ends)
    ∙ ap (is_last (end_at first (drop first es))) (let n : length events ≡ length es = omega (arith, length-map events buffered_view) in n) in
    let width : c.width_at.result ≡ width_at (drop first es) = c.width_at.ensures ∙ c.requires.widths.at first in
    let P : ℕ → Type 0 = λ x. IfOk c.width_by.result (λ all. all ≡ x) in
    subst P
    (ap (λ (xs : List SourcedEvent). width_by xs c.is_last-is_only.result c.width_at.result) rest
    ∙ ap (λ (b : Bool). width_by (drop start es) b c.width_at.result) only
    ∙ ap (width_by (drop start es) (is_last (end_at first (drop first es)) (length es))) width
    ∙ ended-by-first es start a)
    c.width_by.ensures

pub returns-else-start-delimiters : goal.returns-else-start-delimiters
returns-else-start-delimiters c = λ a.
    let beyond = c.requires.numbers.beyond in
    let past = c.if-start-delimiters.false in
    let count = length-map c.args.delimiters.now (λ (d : Delimiter). d.run) in
    sym (no-width (map buffered_view c.args.events.now) c.args.start (beyond c.args.start (omega (arith, past, count))) (beyond (c.args.start + 1) (omega (arith, past, count))))
