-- What is written to a text is at its end.
use Rattle.std.proofs.Common.{◌≡◌, ℕ, List, ◌++◌, string_bytes, String}
use Rattle.std.specs.Fmt.{WritesInCalls}
use Rattle.std.specs.Global.{Global}
use Rattle.std.proofs.lemmas.Fmt.{contents_after_writes}

-- the calls of a writer that is a text append to it
pub written-text : (w v : String Global) (bs : List ℕ) → WritesInCalls (λ s bs t. string_bytes t ≡ string_bytes s ++ bs) w bs v → string_bytes v ≡ string_bytes w ++ bs
written-text w v bs = contents_after_writes _ string_bytes (λ w l v t. t) w bs v
