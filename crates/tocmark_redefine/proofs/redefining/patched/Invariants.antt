use Rattle.std.proofs.Common.{◌≡◌, ◌++◌, drop, length, string_bytes}
use Rattle.tocmark_redefine.specs.Redefined.{AreApart, patched_from}
use Rattle.tocmark_redefine.proofs.redefining.patched.Given as goal

abbrev pub invariant-loop-patch : goal.invariant-loop-patch
invariant-loop-patch l = record {
  apart : AreApart l.at (length l.text) (drop l.patch-index l.patches) → AreApart 0 (length l.text) l.patches;
  bytes : string_bytes l.new ++ patched_from l.text l.at (drop l.patch-index l.patches) ≡ patched_from l.text 0 l.patches;
}
