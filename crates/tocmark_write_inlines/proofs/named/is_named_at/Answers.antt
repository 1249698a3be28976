use Rattle.std.proofs.Common.{◌+◌, ◌∷◌, ◌∙◌, ap, sym, map, drop, List}
use Rattle.tocmark_event.specs.View.{SourcedEvent}
use Rattle.tocmark_spelling.specs.Buffered.{buffered_view}
use Rattle.tocmark_spelling.specs.Plan.{Setting}
use Rattle.tocmark_spelling.specs.PlanOf.{setting_of}
use Rattle.tocmark_write_inlines.specs.Named.{is_named}
use Rattle.tocmark_write_inlines.proofs.Names.{if-ok, place-at}
use Rattle.tocmark_write_inlines.proofs.named.is_named_at.Goals as goal

pub returns : goal.returns
returns g c o label =
    let s : Setting = setting_of o c.args.flags (g.R.Reader.reading c.args.reader.now) label in
    let es : List SourcedEvent = map buffered_view c.args.events.now in
    let at = place-at c.args.events.now c.args.i c.index-events-i.result c.requires.at c.index-events-i.is in
    if-ok c.is_named.result (is_named s (buffered_view c.index-events-i.result ∷ drop (c.args.i + 1) es)) (is_named s (drop c.args.i es))
    (ap (is_named s) (sym at))
    (c.is_named.ensures o label (drop (c.args.i + 1) es) (λ t start. c.body_behind-body.ensures t (drop (c.args.i + 1) es) (at ∙ ap (λ e. e ∷ drop (c.args.i + 1) es) start)))
