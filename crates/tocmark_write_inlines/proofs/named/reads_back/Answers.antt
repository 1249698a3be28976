use Rattle.std.proofs.Common.{◌∙◌, ◌++◌, ap, codes, map, List, string_bytes}
use Rattle.tocmark_event.specs.Merged.{merged}
use Rattle.tocmark_event.specs.Text.{text_of}
use Rattle.tocmark_event.specs.View.{TagView, EventView, event_view, tag_view, unsourced}
use Rattle.tocmark_spelling.specs.Buffered.{buffered_view}
use Rattle.tocmark_spelling.specs.ById.{events_of, is_one_link}
use Rattle.tocmark_write_inlines.specs.Named.{mark_of}
use Rattle.tocmark_write_inlines.proofs.Names.{found-in}
use Rattle.tocmark_write_inlines.proofs.named.reads_back.Goals as goal

pub returns : goal.returns
returns g c o label =
    let t : TagView = tag_view string_bytes c.args.tag.now in
    let body : List EventView = merged (map unsourced (map buffered_view c.args.body.now)) in
    c.is_one_link.ensures
    ∙ ap (λ xs. is_one_link t body (merged (map (λ e. event_view text_of e.0) xs))) c.deref.ensures.value
    ∙ ap (λ es. is_one_link t body (merged es)) (found-in c.in_ok-reading.reading (g.R.Reader.reading c.args.reader.now c.as_str.result.now c.args.flags) c.in_ok-reading.ensures)
    ∙ ap (λ text. is_one_link t body (merged (events_of (g.R.Reader.reading c.args.reader.now text c.args.flags))))
    (c.as_str.ensures.value ∙ c.in_ok-text.ensures
    ∙ ap (λ mark. mark ++ codes "[" ++ c.id_of.result.now ++ codes "](cmark-label)") c.mark_of.ensures
    ∙ ap (λ id. mark_of t ++ codes "[" ++ id ++ codes "](cmark-label)") c.id_of.ensures)
