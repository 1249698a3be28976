use Rattle.std.proofs.Common.{◌≡◌, take}
use Rattle.std.specs.List.{fold}
use Rattle.tocmark_read_spans.specs.Role.{roles_of}
use Rattle.tocmark_read_inlines.specs.Inlines.{bar_step}
use Rattle.tocmark_read_inlines.proofs.inlines.mark_bars.Given as goal

abbrev pub invariant-loop-byte : goal.invariant-loop-byte
invariant-loop-byte l = (l.place, roles_of l.roles) ≡ fold bar_step (0, roles_of l.fn.roles) (take l.byte-index l.bytes)
