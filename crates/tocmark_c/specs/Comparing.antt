-- What a comparison of two texts writes, and what causes each error.
use Rattle.std.specs.Prelude.{◌≡◌, ◌↔◌, ◌==◌, ◌++◌, ◌∷◌, [], ℕ, List, Bool, true, false, IsUtf8, bit_and, codes, decimal, map, string_bytes}
use Rattle.json.specs.Token.{Token, begin_array, begin_object, end_array, end_object, key, number, string}
use Rattle.tocmark_bare_links.specs.Linked.{linked_reading}
use Rattle.tocmark_event.specs.Reading.{ReadingView}
use Rattle.tocmark_event.specs.declared.event.flags.ParserOptions.{ParserOptions}
use Rattle.tocmark_judge.specs.LinkDefinitions.{unplaced}
use Rattle.tocmark_reader.specs.Definitions.{definitions_of}
use Rattle.tocmark_reader.specs.Flags.{syntax_of}
use Rattle.tocmark_reader.specs.Reading.{reading_of}
use Rattle.tocmark_read_scan.specs.declared.syntax.Names.TheVariants.{All}
use Rattle.tocmark_differences.specs.Said.{SayTheSame}
use Rattle.tocmark_differences.specs.declared.allowed.Allowed.{Allowed}
use Rattle.tocmark_differences.specs.declared.difference.Difference.{Difference}
use Rattle.tocmark_c.specs.Calls.{flags_of}
use Rattle.tocmark_c.specs.declared.cause.Cause.{Cause}
use Rattle.tocmark_c.specs.declared.cause.Cause.TheVariants as cause

abbrev pub has_bit : ℕ → ℕ → Bool
has_bit bits bit = bit_and bits bit == bit

-- what may differ: a bit for each kind of things
abbrev pub allowed_of : ℕ → Allowed
allowed_of bits = record {
  wrap = has_bit bits 1;
  text = has_bit bits 2;
  destinations = has_bit bits 4;
  titles = has_bit bits 8;
  labels = has_bit bits 16;
  fences = has_bit bits 32;
  levels = has_bit bits 64;
  numbers = has_bit bits 128;
  code = has_bit bits 256;
  info = has_bit bits 512;
  html = has_bit bits 1024;
  front_matter = has_bit bits 2048;
  definitions = has_bit bits 4096;
}

-- bare web and mail addresses are links: a bit after those of the kinds
abbrev pub links_addresses : ℕ → Bool
links_addresses bits = has_bit bits 8192

-- what is found in a text, where bare addresses are links, or text
abbrev pub found_in : Bool → List ℕ → ParserOptions → ReadingView
found_in true = λ t flags. linked_reading t (reading_of (syntax_of All flags) t)
found_in false = λ t flags. reading_of (syntax_of All flags) t

-- both texts say the same under these flags but for what may differ, where bare addresses are links, or text
abbrev pub AreTheSameBut : Allowed → Bool → ℕ → List ℕ → List ℕ → Type 0
AreTheSameBut kinds bare bits old new =
    SayTheSame kinds (flags_of bits) (found_in bare)
    (λ t flags. map unplaced (definitions_of (syntax_of All flags) t)) old new

-- both texts say the same under these flags, but for what these bits allow to differ
abbrev pub AreTheSame : ℕ → ℕ → List ℕ → List ℕ → Type 0
AreTheSame bits allowed old new =
    AreTheSameBut (allowed_of allowed) (links_addresses allowed) bits old new

-- an array of the differences is written, which is empty exactly if both texts say the same
abbrev pub IsComparison : ℕ → ℕ → List ℕ → List ℕ → List ℕ → Type 0
IsComparison bits allowed old new output = (output ≡ codes "[]") ↔ AreTheSame bits allowed old new

-- why two texts are not compared
abbrev pub IsCompareCause : List ℕ → List ℕ → Cause → Type 0
IsCompareCause old new cause.OutOfMemory = Unit {0}
IsCompareCause old new cause.NotUtf8 = ¬ (IsUtf8 old × IsUtf8 new)
IsCompareCause old new c = ⊥

-- a member that is a text
abbrev pub text_tokens : List ℕ → List ℕ → List Token
text_tokens name text = key name ∷ string text ∷ []

-- a member that is the first and the last line of something
abbrev pub lines_tokens : List ℕ → ℕ × ℕ → List Token
lines_tokens name lines =
    key name ∷ begin_array ∷ number (decimal lines.0) ∷ number (decimal lines.1) ∷ end_array ∷ []

-- what the object of a difference has after its kind
abbrev pub members_tokens : Difference → List ℕ → List Token
members_tokens it message =
    text_tokens (codes "what") it.what.now ++ lines_tokens (codes "old") it.old
    ++ lines_tokens (codes "new") it.new ++ text_tokens (codes "was") (string_bytes it.was)
    ++ text_tokens (codes "is") (string_bytes it.is) ++ text_tokens (codes "message") message

-- the object of a difference
abbrev pub object_tokens : Difference → List ℕ → List ℕ → List Token
object_tokens it kind message =
    begin_object ∷ (text_tokens (codes "kind") kind ++ members_tokens it message ++ end_object ∷ [])

-- an object is added
abbrev pub OpensObject : List Token → List Token → Type 0
OpensObject old new = (more : List Token) × (new ≡ old ++ begin_object ∷ more)
