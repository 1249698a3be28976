use Rattle.std.proofs.Common.{◌∙◌, map, string_bytes}
use Rattle.tocmark_event.specs.Merged.{merged}
use Rattle.tocmark_event.specs.Text.{text_of}
use Rattle.tocmark_event.specs.View.{end_of, event_view, tag_view}
use Rattle.tocmark_write_inlines.proofs.Names.{body-ended}
use Rattle.tocmark_write_inlines.proofs.named.ends_link.Goals as goal

pub returns : goal.returns
returns c =
    c.alike.ensures
    ∙ body-ended (merged (map (λ e. event_view text_of e.0) c.args.found.now)) c.args.body.now c.to_end.result (end_of (tag_view string_bytes c.args.tag.now)) c.to_end.ensures
