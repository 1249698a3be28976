-- What a prefix is, byte by byte.
use Rattle.std.specs.Prelude.{ℕ, List, [], codes, replicate}
use Rattle.tocmark_write_texts.specs.Characters.{space}
use Rattle.tocmark_write_containers.specs.declared.prefix.Prefix.{Prefix}
use Rattle.tocmark_write_containers.specs.declared.prefix.Prefix.TheVariants as prefix

-- the bytes of a prefix
abbrev pub prefix_bytes : Prefix → List ℕ
prefix_bytes prefix.Empty = []
prefix_bytes prefix.Quote = codes " > "
prefix_bytes (prefix.Spaces count) = replicate count space
