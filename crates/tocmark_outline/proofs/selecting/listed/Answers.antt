use Rattle.std.proofs.Common.{◌≡◌, ◌∙◌, ℕ, Option, Some, map, sym, ap}
use mathlib.Core.List.{map-map}
use Rattle.serde_json.specs.Written.{compact_text}
use Rattle.tocmark_event.specs.Text.{text_of}
use Rattle.tocmark_event.specs.View.{EventView}
use Rattle.tocmark_event.specs.Reading.{ReadingView}
use Rattle.tocmark_json.specs.Json.{pairs_json, ranged_view}
use Rattle.tocmark_outline.specs.Outline.{Placed, listed, placed, selected}
use Rattle.tocmark_outline.proofs.selecting.listed.Goals as goal

pub returns : goal.returns
returns c =
    let ranged : Placed → EventView × Option (ℕ × ℕ) = λ e. (e.0, Some e.1) in
    let kept = ap (map (ranged_view text_of)) c.deref-2.ensures.value ∙ sym (map-map ranged placed c.in_ok-kept.kept.items) in
    let read = ap (map placed) c.deref.ensures.value ∙ ap (λ (r : ReadingView). r.events) c.in_ok-reading.ensures.reading in
    let all : pairs_json (map (ranged_view text_of) c.deref-2.result.now) ≡ listed c.args.wanted c.args.flags c.args.text.now =
    ap pairs_json (kept ∙ ap (map ranged) (c.in_ok-kept.ensures ∙ ap (selected c.args.wanted) read)) in
    c.in_ok-output.ensures.text ∙ ap compact_text all
