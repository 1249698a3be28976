use Rattle.std.proofs.Common.{◌∙◌, ap, map, refl, sym, string_bytes}
use Rattle.std.specs.List.{list_any}
use Rattle.tocmark_event.specs.Merged.{merged}
use Rattle.tocmark_event.specs.Text.{text_of}
use Rattle.tocmark_event.specs.View.{event_view, unsourced}
use Rattle.tocmark_compare.specs.InParagraph.{in_paragraph}
use Rattle.tocmark_spelling.specs.Buffered.{buffered_view}
use Rattle.tocmark_spelling.specs.SameEvents.{same_events}
use Rattle.tocmark_write_labels.specs.LabelsOf.{is_taken_in}
use Rattle.tocmark_choose.proofs.ReadBacks.{not-found, found-open}
use Rattle.tocmark_choose.proofs.read_back.find.Goals as goal

pub returns-then-not-agrees : goal.returns-then-not-agrees
returns-then-not-agrees g c =
    let expected = in_paragraph (merged (map unsourced (map buffered_view c.args.unit.now))) in
    not-found (is_taken_in c.args.taken) expected c.in_ok-reading.reading (g.R.Reader.reading c.args.reader.now c.args.text.now c.args.flags) c.in_ok-reading.ensures
    (sym (ap (λ xs. same_events (merged (map (λ e. event_view text_of e.0) xs)) expected) c.deref.ensures.value)
    ∙ sym c.agrees.ensures ∙ c.if-not-agrees.true)

pub returns : goal.returns
returns g c =
    let expected = in_paragraph (merged (map unsourced (map buffered_view c.args.unit.now))) in
    found-open (is_taken_in c.args.taken) expected c.in_ok-reading.reading (g.R.Reader.reading c.args.reader.now c.args.text.now c.args.flags) c.in_ok-reading.ensures c.in_ok-contains_any.field-0 c.in_ok-contains_any.field-0
    (sym (ap (λ xs. same_events (merged (map (λ e. event_view text_of e.0) xs)) expected) c.deref.ensures.value)
    ∙ sym c.agrees.ensures ∙ c.if-not-agrees.false)
    (c.in_ok-contains_any.ensures ∙ ap (λ xs. list_any (is_taken_in c.args.taken) (map string_bytes xs)) c.deref-2.ensures.value)
    refl
