-- What link definitions say, wherever they are in a text.
use Rattle.std.specs.Prelude.{ℕ, List}
use Rattle.tocmark_reader.specs.Definitions.{SaidDefinition, said_view}
use Rattle.tocmark_reader.specs.declared.definitions.ReferenceDefinition.{ReferenceDefinition}

-- a definition without its place
pub record DefinedLink : Type 0 where
  pub label : List ℕ
  pub destination : List ℕ
  pub title : List ℕ

abbrev pub unplaced : SaidDefinition → DefinedLink
unplaced d = record { label = d.label; destination = d.destination; title = d.title }

abbrev pub link_defined : ReferenceDefinition → DefinedLink
link_defined d = unplaced (said_view d)
