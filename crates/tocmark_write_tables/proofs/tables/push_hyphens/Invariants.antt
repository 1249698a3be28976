use Rattle.std.proofs.Common.{◌≡◌, ◌++◌, string_bytes, replicate}
use Rattle.tocmark_spelling.specs.Words.{hyphen}
use Rattle.tocmark_write_tables.proofs.tables.push_hyphens.Given as goal

abbrev pub invariant-loop-place : goal.invariant-loop-place
invariant-loop-place l = string_bytes l.row ≡ string_bytes l.initial.row ++ replicate l._place hyphen
