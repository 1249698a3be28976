use Rattle.std.proofs.Common.{◌≡◌, drop, map}
use Rattle.tocmark_links.specs.Leads.{destinations, redirected}
use Rattle.tocmark_links.proofs.leads.redirected.Given as goal

abbrev pub invariant-loop-number : goal.invariant-loop-number
invariant-loop-number l = redirected (drop l.number-index l.changes) (map (λ d. d.now) l.all.items) ≡ redirected l.changes (destinations l.links)
