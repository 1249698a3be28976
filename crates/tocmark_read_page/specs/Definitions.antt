-- Link reference definitions at the front of a paragraph (CommonMark 4.7).
use Rattle.std.specs.Prelude.{ℕ, Bool, false, ◌==◌, if◌then◌else◌, List, [], ◌∷◌, ◌++◌, length, take, filter, Option, Some, None}
use Rattle.std.specs.List.{flat_map}
use Rattle.std.specs.Option.{option_map_or}
use Rattle.tocmark_read_scan.specs.Basic.{byte_at, bytes_between}
use Rattle.tocmark_read_scan.specs.Repeat.{repeated}
use Rattle.tocmark_read_tokens.specs.Word.{definition_at}
use Rattle.tocmark_read_tokens.specs.declared.word.Definition.{Definition}
use Rattle.tocmark_read_page.specs.declared.definition.LinkDefinition.{LinkDefinition}
use Rattle.tocmark_read_page.specs.declared.piece.Piece.{Piece}

-- a definition as it is written
pub record DefinitionView : Type 0 where
  pub label : List ℕ
  pub destination : List ℕ
  pub title : List ℕ

-- the texts of a definition
abbrev pub definition_view : LinkDefinition → DefinitionView
definition_view d = record { label = d.label.items; destination = d.destination.items; title = d.title.items }

-- the texts of a definition that is in this content
abbrev pub found_view : List ℕ → Definition → DefinitionView
found_view content d = record {
  label = bytes_between content d.label.start d.label.end;
  destination = bytes_between content d.destination.start d.destination.end;
  title = bytes_between content d.title.start d.title.end;
}

-- the first line begins with a bracket
unfoldable pub begins_definition : List ℕ → List Piece → Bool
begins_definition text [] = false
begins_definition text (l ∷ ls) = byte_at text l.start == 91

-- U+FFFD stands for U+0000 (CommonMark 2.3)
unfoldable pub replaced : ℕ → List ℕ
replaced b = if b == 0 then 0xef ∷ 0xbf ∷ 0xbd ∷ [] else b ∷ []

-- a line and a line feed
abbrev pub joined_line : List ℕ → Piece → List ℕ
joined_line text l = flat_map replaced (bytes_between text l.start l.end) ++ 10 ∷ []

-- the lines, each with a line feed after it
abbrev pub joined : List ℕ → List Piece → List ℕ
joined text lines = flat_map (joined_line text) lines

-- one more definition, and the place after it
unfoldable pub define_once : List ℕ → ℕ → List DefinitionView → List DefinitionView × Option ℕ
define_once content place definitions =
    option_map_or (λ (d : Definition). (definitions ++ found_view content d ∷ [], Some d.next)) (definition_at content place) (definitions, None)

-- the line feeds before a place
abbrev pub line_count : List ℕ → ℕ → ℕ
line_count content place = length (filter (λ b. b == 10) (take place content))

-- definitions, and the number of their lines
abbrev pub counted : List ℕ → List DefinitionView × ℕ → List DefinitionView × ℕ
counted content found = (found.0, line_count content (found.1))

-- the definitions at the front of lines, and the number of their lines
abbrev pub lines_defined : List ℕ → List Piece → List DefinitionView → List DefinitionView × ℕ
lines_defined text lines definitions =
    counted (joined text lines) (repeated (define_once (joined text lines)) (length (joined text lines)) 0 definitions)

-- all definitions at the front, and the number of their lines
unfoldable pub definitions_from : List ℕ → List Piece → List DefinitionView → List DefinitionView × ℕ
definitions_from text lines definitions = if begins_definition text lines then lines_defined text lines definitions else (definitions, 0)
