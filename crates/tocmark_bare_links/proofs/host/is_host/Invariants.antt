use Rattle.std.proofs.Common.{◌≡◌, take}
use Rattle.std.specs.List.{fold}
use Rattle.tocmark_bare_links.specs.Addresses.{host_start, host_step}
use Rattle.tocmark_bare_links.proofs.host.is_host.Given as goal

abbrev pub invariant-loop-byte : goal.invariant-loop-byte
invariant-loop-byte l = l.host ≡ fold host_step host_start (take l.byte-index l.text)
