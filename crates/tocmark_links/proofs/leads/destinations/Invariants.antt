use Rattle.std.proofs.Common.{◌≡◌, ◌++◌, drop, map}
use Rattle.tocmark_links.specs.Leads.{destinations}
use Rattle.tocmark_links.proofs.leads.destinations.Given as goal

abbrev pub invariant-loop-link : goal.invariant-loop-link
invariant-loop-link l = map (λ d. d.now) l.all.items ++ destinations (drop l.link-index l.links) ≡ destinations l.links
