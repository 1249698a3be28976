use Rattle.std.proofs.Common.{◌≡◌, ◌≤◌, ◌<◌, ℕ, true, is_some}
use Rattle.std.specs.HashMap.{get_by_text}
use Rattle.tocmark_links.specs.Anchors.{numbered}
use Rattle.tocmark_links.proofs.anchors.first_free.Given as goal

abbrev pub invariant-loop-number : goal.invariant-loop-number
invariant-loop-number l =
    (n : ℕ) → l.from ≤ n → n < l.number → is_some (get_by_text l.taken (numbered l.slugs l.base n)) ≡ true
