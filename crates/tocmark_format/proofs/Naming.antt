-- One more block is named.
use Rattle.std.proofs.Common.{◌≡◌, refl, ℕ, List, [], ◌∷◌, ◌++◌, ◌<◌, ◌≤◌}
use Rattle.tocmark_format.specs.Named.{AreInOrder, last_line}
use Rattle.tocmark_format.specs.declared.answer.Left.{Left}

pub ordered-more : (line : ℕ) (blocks : List Left) (block : Left) → AreInOrder line blocks → last_line line blocks < block.lines.0 → block.lines.0 ≤ block.lines.1 → AreInOrder line (blocks ++ block ∷ [])
ordered-more line [] block h below ends = (below, ends, tt)
ordered-more line (b ∷ bs) block h below ends = (h.0, h.1, ordered-more b.lines.1 bs block h.2 below ends)

pub last-more : (line : ℕ) (blocks : List Left) (block : Left) → last_line line (blocks ++ block ∷ []) ≡ block.lines.1
last-more line [] block = refl
last-more line (b ∷ bs) block = last-more b.lines.1 bs block
