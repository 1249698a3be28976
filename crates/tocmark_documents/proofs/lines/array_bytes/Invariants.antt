use Rattle.std.proofs.Common.{◌≡◌, ◌∷◌, ◌++◌, false, drop}
use Rattle.tocmark_documents.specs.Lines.{with_commas}
use Rattle.tocmark_documents.proofs.lines.array_bytes.Given as goal

-- what is written, and what the bytes from here on come to, is what all come to
abbrev pub invariant-loop-byte : goal.invariant-loop-byte
invariant-loop-byte l = l.json.items ++ with_commas l.is_behind (drop l.byte-index l.lines) ≡ 91 ∷ with_commas false l.lines
