use Rattle.std.proofs.Common.{◌∙◌, sym, map, string_bytes, List}
use Rattle.tocmark_event.specs.View.{SourcedEvent, TagView, tag_view}
use Rattle.tocmark_write_pending.specs.Ahead.{is_named_by_id, reads_back}
use Rattle.tocmark_spelling.specs.Buffered.{buffered_view}
use Rattle.tocmark_spelling.specs.Plan.{Setting}
use Rattle.tocmark_spelling.specs.PlanOf.{setting_of}
use Rattle.tocmark_spelling.specs.Spelling.{id_of}
use Rattle.tocmark_write_inlines.specs.Named.{mark_of}
use Rattle.tocmark_write_inlines.proofs.Names.{by-reading, if-ok}
use Rattle.tocmark_write_inlines.proofs.named.is_named_by_id.Goals as goal

pub returns-then-may_be_named : goal.returns-then-may_be_named
returns-then-may_be_named g c o label =
    let s : Setting = setting_of o c.args.flags (g.R.Reader.reading c.args.reader.now) label in
    let t : TagView = tag_view string_bytes c.args.tag.now in
    let body : List SourcedEvent = map buffered_view c.args.body.now in
    if-ok c.reads_back.result (reads_back s (mark_of t) t (id_of t) body) (is_named_by_id s t body)
    (by-reading s t body (sym c.may_be_named.ensures ∙ c.if-may_be_named.true)) (c.reads_back.ensures o label)
