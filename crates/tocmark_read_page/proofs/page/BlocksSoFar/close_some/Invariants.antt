use Rattle.std.proofs.Common.{◌≡◌}
use Rattle.tocmark_read_page.specs.Pages.{page, one_closed, times}
use Rattle.tocmark_read_page.proofs.page.BlocksSoFar.close_some.Given as goal

abbrev pub invariant-loop-left : goal.invariant-loop-left
invariant-loop-left l = times one_closed l._left (page l.self) ≡ times one_closed l.count (page l.fn.self)
