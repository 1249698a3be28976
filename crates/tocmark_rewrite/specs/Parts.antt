-- A text that is a list of parts.
use Rattle.std.specs.Prelude.{◌≡◌, ℕ, List, map, slice_range, string_bytes}
use Rattle.std.specs.List.{concat}
use Rattle.tocmark_rewrite.specs.declared.output.Output.{Output}
use Rattle.tocmark_rewrite.specs.declared.output.Part.{Part}
use Rattle.tocmark_rewrite.specs.declared.output.Part.TheVariants.{Source, Written}

-- the text of a part: a slice of the source, or what was written
abbrev pub part_text : List ℕ → Part → List ℕ
part_text source (Source from to) = slice_range source from to
part_text source (Written text) = string_bytes text

-- the text is that of its parts, one after the other
abbrev pub IsMadeOf : List ℕ → List ℕ → List Part → Type 0
IsMadeOf source text parts = text ≡ concat (map (part_text source) parts)

-- what is written so far is made of its parts
abbrev pub Builds : List ℕ → Output → Type 0
Builds source output = IsMadeOf source (string_bytes output.text) output.parts.items
