use Rattle.std.proofs.Common.{◌∙◌, sym, arith, map, string_bytes}
use Rattle.std.proofs.lemmas.List.{length-map}
use Rattle.tocmark_event.specs.Merged.{merged}
use Rattle.tocmark_event.specs.Text.{text_of}
use Rattle.tocmark_event.specs.View.{event_view, tag_view, unsourced}
use Rattle.tocmark_spelling.specs.Buffered.{buffered_view}
use Rattle.tocmark_write_inlines.proofs.Names.{too-few, not-begun}
use Rattle.tocmark_write_inlines.proofs.named.is_one_link.Goals as goal

pub returns-then-found-lt2 : goal.returns-then-found-lt2
returns-then-found-lt2 c =
    too-few (tag_view string_bytes c.args.tag.now) (merged (map unsourced (map buffered_view c.args.body.now))) (map (λ e. event_view text_of e.0) c.args.found.now)
    (omega (arith, length-map c.args.found.now (λ e. event_view text_of e.0), c.if-found-lt2.true))

pub returns-then-not-begins_link : goal.returns-then-not-begins_link
returns-then-not-begins_link c =
    not-begun (tag_view string_bytes c.args.tag.now) (merged (map unsourced (map buffered_view c.args.body.now))) (map (λ e. event_view text_of e.0) c.args.found.now)
    (sym c.begins_link.ensures ∙ c.if-not-begins_link.true)
