use Rattle.std.proofs.Common.{◌≡◌, ℕ, List, drop, length}
use Rattle.std.specs.HashMap.{get_by_text}
use Rattle.std.specs.Option.{option_or}
use Rattle.tocmark_links.specs.Headings.{first_from}
use Rattle.tocmark_links.proofs.headings.firsts_of.Given as goal

abbrev pub invariant-loop-anchor : goal.invariant-loop-anchor
invariant-loop-anchor l = (q : List ℕ) → option_or (get_by_text l.firsts q) (first_from (length l.names.items) (drop l.anchor-index l.anchors) q) ≡ first_from 0 l.anchors q
