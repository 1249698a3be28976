-- What link reference definitions say, and where they are.
use Rattle.std.specs.Prelude.{ℕ, ◌-◌, ◌==◌, nat_lt, if◌then◌else◌, List, [], ◌∷◌, ◌++◌, length, slice_get, string_bytes, Option, Some, None, unwrap_or}
use Rattle.std.specs.List.{fold, flat_map}
use Rattle.std.specs.Option.{option_map_or}
use Rattle.std.specs.Str.Lossy.{utf8_lossy}
use Rattle.tocmark_read_scan.specs.Basic.{plus, bytes_between}
use Rattle.tocmark_read_scan.specs.Repeat.{repeated}
use Rattle.tocmark_read_scan.specs.declared.syntax.Names.{Names}
use Rattle.tocmark_read_scan.specs.declared.syntax.Syntax.{Syntax}
use Rattle.tocmark_read_tokens.specs.Label.{collapsed}
use Rattle.tocmark_read_tokens.specs.Reference.{unescaped_in}
use Rattle.tocmark_read_tokens.specs.Word.{definition_at}
use Rattle.tocmark_read_tokens.specs.declared.word.Definition.{Definition}
use Rattle.tocmark_read_tokens.specs.declared.word.Word.{Word}
use Rattle.tocmark_read_blocks.specs.Blocks.{BlocksView, blocks_in}
use Rattle.tocmark_read_page.specs.Definitions.{DefinitionView, joined}
use Rattle.tocmark_read_page.specs.declared.piece.Piece.{Piece}
use Rattle.tocmark_read_page.specs.declared.page.Block.{Block}
use Rattle.tocmark_reader.specs.Pages.{pieces_of}
use Rattle.tocmark_reader.specs.Range.{IsGoodRange, snapped}
use Rattle.tocmark_reader.specs.declared.definitions.DefinitionPlace.{DefinitionPlace}
use Rattle.tocmark_reader.specs.declared.definitions.ReferenceDefinition.{ReferenceDefinition}

-- a byte's place, for each byte that stands for it: three stand for U+0000
abbrev pub byte_places : ℕ → ℕ → List ℕ
byte_places at b = if b == 0 then at ∷ at ∷ at ∷ [] else at ∷ []

-- the places of bytes, the first of which is this one
abbrev pub places_from : ℕ → List ℕ → List ℕ
places_from at [] = []
places_from at (b ∷ bs) = byte_places at b ++ places_from (plus at 1) bs

-- the places of a line's bytes, and of its end
abbrev pub line_places : List ℕ → Piece → List ℕ
line_places text l = places_from l.start (bytes_between text l.start l.end) ++ l.end ∷ []

-- the place in the text of a byte of joined lines
abbrev pub place_at : List ℕ → ℕ → ℕ
place_at places at = unwrap_or (slice_get places at) 0

-- where a word begins, with what is round it
abbrev pub opening : Word → ℕ
opening w = if w.end == w.next then w.start else w.start - 1

-- where a definition is that was found in joined lines
abbrev pub place_of : List ℕ → ℕ → Definition → DefinitionPlace
place_of places at d = record {
  whole = (place_at places at, place_at places d.title.next);
  destination = (place_at places (opening d.destination), place_at places d.destination.next);
  title = (place_at places (opening d.title), place_at places d.title.next);
}

-- one more place, and the byte after the definition
unfoldable pub placed_once : List ℕ → List ℕ → ℕ → List DefinitionPlace → List DefinitionPlace × Option ℕ
placed_once content places at all =
    option_map_or (λ (d : Definition). (all ++ place_of places at d ∷ [], Some d.next)) (definition_at content at) (all, None)

-- the places of the definitions at the front of joined lines
abbrev pub placed_all : List ℕ → List ℕ → List DefinitionPlace → List DefinitionPlace
placed_all content places all = (repeated (placed_once content places) (length content) 0 all).0

-- the places of the definitions on these lines
abbrev pub placed_on : List ℕ → List Piece → List DefinitionPlace → List DefinitionPlace
placed_on text lines all = placed_all (joined text lines) (flat_map (line_places text) lines) all

-- the definitions in front of a block are on the lines that neither it nor a block before it has
abbrev pub place_step : List ℕ → List Piece → List DefinitionPlace × ℕ → Block → List DefinitionPlace × ℕ
place_step text pieces s b =
    (placed_on text (pieces_of pieces s.1 b.first) s.0, (if nat_lt s.1 b.last then b.last else s.1))

-- the places of all definitions, in order
abbrev pub places_in : List ℕ → BlocksView → List DefinitionPlace
places_in text found = (fold (place_step text found.pieces) ([], 0) found.blocks).0

-- a definition without escapes and references, its label with one space for each stretch of white space
pub record SaidDefinition : Type 0 where
  pub label : List ℕ
  pub destination : List ℕ
  pub title : List ℕ
  pub place : DefinitionPlace

-- a definition as plain values
abbrev pub said_view : ReferenceDefinition → SaidDefinition
said_view d = record { label = string_bytes d.label; destination = string_bytes d.destination; title = string_bytes d.title; place = d.place }

-- the front of a text
abbrev pub no_place : DefinitionPlace
no_place = record { whole = (0, 0); destination = (0, 0); title = (0, 0) }

-- a place of which each part is a range of the text, or the front where it is none
abbrev pub snapped_place : List ℕ → DefinitionPlace → DefinitionPlace
snapped_place text p = record {
  whole = snapped text (p.whole.0) (p.whole.1);
  destination = snapped text (p.destination.0) (p.destination.1);
  title = snapped text (p.title.0) (p.title.1);
}

-- what a definition says that is at a place
unfoldable pub said_at : Names → List ℕ → DefinitionView → DefinitionPlace → SaidDefinition
said_at names text d place = record {
  label = utf8_lossy (collapsed d.label);
  destination = utf8_lossy (unescaped_in names d.destination);
  title = utf8_lossy (unescaped_in names d.title);
  place = snapped_place text place;
}

-- definitions and the places from one on
abbrev pub said_from : Names → List ℕ → List DefinitionPlace → ℕ → List DefinitionView → List SaidDefinition
said_from names text places at [] = []
said_from names text places at (d ∷ ds) =
    said_at names text d (unwrap_or (slice_get places at) no_place) ∷ said_from names text places (plus at 1) ds

-- the definitions that blocks give, each where it is
unfoldable pub definitions_among : Names → List ℕ → BlocksView → List SaidDefinition
definitions_among names text found = said_from names text (places_in text found) 0 found.definitions

-- the definitions of a text: those that its blocks give
abbrev pub definitions_of : Syntax → List ℕ → List SaidDefinition
definitions_of syntax text = definitions_among syntax.names text (blocks_in syntax text)

-- the ranges of a place are good
pub record IsGoodPlace (text : List ℕ) (p : DefinitionPlace) : Type 0 where
  pub whole : IsGoodRange text p.whole
  pub destination : IsGoodRange text p.destination
  pub title : IsGoodRange text p.title

-- those of a definition's place are
abbrev pub IsWellPlaced : List ℕ → ReferenceDefinition → Type 0
IsWellPlaced text d = IsGoodPlace text d.place
