use Rattle.std.proofs.Common.{◌∙◌, ap, sym, map}
use Rattle.std.specs.List.{filter_map}
use mathlib.Core.List.{map-map}
use Rattle.tocmark_compare.specs.Given.{found_events}
use Rattle.tocmark_compare.proofs.Found.{found-given}
use Rattle.tocmark_reader.specs.Definitions.{SaidDefinition, said_view}
use Rattle.tocmark_links.specs.Leads.{own_destination}
use Rattle.tocmark_links.proofs.leads.lead_to.Goals as goal

pub returns : goal.returns
returns c = λ h. record {
  own =
      ap (filter_map own_destination) (ap found_events (sym (c.in_ok-found.ensures.rest ∙ c.in_ok-blocks.ensures.left)) ∙ found-given c.in_ok-found.found)
      ∙ sym (rw c.deref.ensures.value at c.in_ok-own.ensures)
      ∙ (rw (c.deref-3.ensures.value, c.deref-4.ensures.value) at (c.are_same.ensures c.if-not-are_same.false))
      ∙ c.in_ok-wanted_own.ensures;
  defined =
      sym (ap (map (λ (d : SaidDefinition). d.destination)) c.in_ok-blocks.ensures.definitions)
      ∙ map-map (λ (d : SaidDefinition). d.destination) said_view c.in_ok-blocks.definitions.items
      ∙ sym (rw c.deref-2.ensures.value at c.in_ok-defined.ensures)
      ∙ (rw (c.deref-5.ensures.value, c.deref-6.ensures.value) at (c.are_same-2.ensures h))
      ∙ c.in_ok-wanted_defined.ensures;
}
