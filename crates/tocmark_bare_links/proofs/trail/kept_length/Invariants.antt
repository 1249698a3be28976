use Rattle.std.proofs.Common.{◌≡◌, take}
use Rattle.std.specs.List.{fold}
use Rattle.tocmark_bare_links.specs.Addresses.{trail_start, trail_step}
use Rattle.tocmark_bare_links.proofs.trail.kept_length.Given as goal

abbrev pub invariant-loop-byte : goal.invariant-loop-byte
invariant-loop-byte l = l.trail ≡ fold trail_step trail_start (take l.byte-index l.word)
