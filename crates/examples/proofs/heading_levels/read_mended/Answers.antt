use Rattle.std.proofs.Common.{◌∙◌, [], ap, sym, arith}
use Rattle.std.proofs.lemmas.List.{with_items_is}
use Rattle.tocmark_compare.specs.Given.{found_events, given_events}
use Rattle.tocmark_compare.proofs.Found.{found-given}
use Rattle.examples.specs.Levels.{mended}
use Rattle.examples.proofs.heading_levels.read_mended.Goals as goal

pub returns : goal.returns
returns g c =
    ap given_events (with_items_is c.in_ok-reading.reading.events c.mend_all.new.events (omega arith))
    ∙ c.in_ok-mend_all.ensures
    ∙ ap (λ es. mended [] (given_events es)) c.deref_mut.ensures.value
    ∙ ap (mended []) (sym (found-given c.in_ok-reading.reading) ∙ ap found_events c.in_ok-reading.ensures)
