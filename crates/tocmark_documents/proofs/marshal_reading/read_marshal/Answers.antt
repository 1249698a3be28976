use Rattle.std.proofs.Common.{◌≡◌, ℕ, List, map, ap, ◌∙◌, subst}
use Rattle.std.specs.Prelude.{IfErr, IfOk}
use Rattle.tocmark_event.specs.Reading.{ReadingView}
use Rattle.tocmark_event.specs.Text.{text_of}
use Rattle.tocmark_json.specs.Marshal.{IsTooLong, events_bytes, pair_in}
use Rattle.tocmark_documents.specs.MarshalReading.{reading_bytes}
use Rattle.tocmark_documents.proofs.marshal_reading.read_marshal.Goals as goal

pub returns-in-Ok-clause-bytes : goal.returns-in-Ok-clause-bytes
returns-in-Ok-clause-bytes c =
    let all : events_bytes (map (pair_in text_of) c.deref.result.now) ≡ reading_bytes c.args.flags c.args.text.now =
    ap (λ es. events_bytes (map (pair_in text_of) es)) c.deref.ensures.value ∙ ap (λ (r : ReadingView). events_bytes r.events) c.in-Ok.ensures.reading in
    subst (λ (bytes : List ℕ). IfOk c.events_to_marshal.result (λ output. output.items ≡ bytes)) all c.events_to_marshal.ensures.bytes

pub returns-in-Ok-clause-error : goal.returns-in-Ok-clause-error
returns-in-Ok-clause-error c =
    let all : events_bytes (map (pair_in text_of) c.deref.result.now) ≡ reading_bytes c.args.flags c.args.text.now =
    ap (λ es. events_bytes (map (pair_in text_of) es)) c.deref.ensures.value ∙ ap (λ (r : ReadingView). events_bytes r.events) c.in-Ok.ensures.reading in
    subst (λ (bytes : List ℕ). IfErr c.events_to_marshal.result (IsTooLong bytes)) all c.events_to_marshal.ensures.error
