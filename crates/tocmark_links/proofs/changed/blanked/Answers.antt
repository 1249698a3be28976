use Rattle.std.proofs.Common.{◌∙◌, map, ap, sym, arith}
use Rattle.std.proofs.lemmas.List.{with_items_is}
use Rattle.tocmark_compare.specs.Given.{found_events, given_events}
use Rattle.tocmark_compare.proofs.Found.{found-given}
use Rattle.tocmark_links.specs.Changed.{blank}
use Rattle.tocmark_links.proofs.changed.blanked.Goals as goal

pub returns : goal.returns
returns c =
    ap given_events (with_items_is c.in_ok-found.found.events c.blank_all.new.events (omega arith))
    ∙ c.blank_all.ensures
    ∙ ap (λ events. map blank (given_events events)) c.deref_mut.ensures.value
    ∙ ap (map blank) (sym (found-given c.in_ok-found.found) ∙ ap found_events c.in_ok-found.ensures.reading)
