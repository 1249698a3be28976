use Rattle.std.proofs.Common.{◌≡◌, ◌++◌, drop, map}
use Rattle.tocmark_links.specs.Leads.{of_sort}
use Rattle.tocmark_links.proofs.leads.of_sort.Given as goal

abbrev pub invariant-loop-i : goal.invariant-loop-i
invariant-loop-i l =
    map (λ d. d.now) l.all.items ++ of_sort l.is_definition (drop l.i l.links) (map (λ d. d.now) (drop l.i l.destinations))
    ≡ of_sort l.is_definition l.links (map (λ d. d.now) l.destinations)
