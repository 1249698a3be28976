use Rattle.std.proofs.Common.{◌∙◌, map}
use Rattle.tocmark_event.specs.Merged.{merged}
use Rattle.tocmark_event.specs.Text.{text_of}
use Rattle.tocmark_event.specs.View.{event_view}
use Rattle.tocmark_compare.proofs.Agreements.{agrees-as-it-is, agrees-in-paragraph}
use Rattle.tocmark_compare.proofs.agrees.agrees.Goals as goal

pub returns-then-stays_as_it_is : goal.returns-then-stays_as_it_is
returns-then-stays_as_it_is c =
    c.alike.ensures
    ∙ agrees-as-it-is (merged (map (λ e. event_view text_of e.0) c.args.found.now)) c.args.unit.now c.stays_as_it_is.result c.stays_as_it_is.ensures c.if-stays_as_it_is.true

pub returns-else-stays_as_it_is : goal.returns-else-stays_as_it_is
returns-else-stays_as_it_is c =
    c.is_paragraph_of.ensures
    ∙ agrees-in-paragraph (merged (map (λ e. event_view text_of e.0) c.args.found.now)) c.args.unit.now c.stays_as_it_is.result c.stays_as_it_is.ensures c.if-stays_as_it_is.false
