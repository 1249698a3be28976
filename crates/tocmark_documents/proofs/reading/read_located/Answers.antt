use Rattle.std.proofs.Common.{◌≡◌, map, sym, ap, ◌∙◌}
use mathlib.Core.List.{map-map}
use Rattle.serde_json.specs.Written.{compact_text}
use Rattle.tocmark_event.specs.Text.{text_of}
use Rattle.tocmark_event.specs.View.{event_view}
use Rattle.tocmark_json.specs.Json.{listed, located_json, located_view}
use Rattle.tocmark_event.specs.Reading.{ReadingView}
use Rattle.tocmark_documents.specs.Interchange.{located_in, reading_located}
use Rattle.tocmark_documents.proofs.reading.read_located.Goals as goal

pub returns : goal.returns
returns c =
    let text = c.args.text.now in
    let all : listed located_json (map (located_view text_of text) c.deref.result.now) ≡ reading_located c.args.flags text =
    ap (listed located_json) (ap (map (located_view text_of text)) c.deref.ensures.value ∙ sym (map-map (located_in text) (λ e. (event_view text_of e.0, e.1)) c.in_ok-found.found.events.items)) ∙ ap (λ (r : ReadingView). listed located_json (map (located_in text) r.events)) c.in_ok-found.ensures.reading in
    c.in_ok-output.ensures.text ∙ ap compact_text all
