-- Character references by the names of HTML (CommonMark 2.5).
use Rattle.std.specs.Prelude.{ℕ, ◌==◌, ◌&&◌, if◌then◌else◌, List, Option, Some, None}
use Rattle.tocmark_read_scan.specs.Basic.{plus, byte_at, bytes_between}
use Rattle.tocmark_read_scan.specs.Class.{run_end}
use Rattle.tocmark_read_scan.specs.declared.class.Class.TheVariants.{TagName}
use Rattle.tocmark_read_scan.specs.declared.syntax.Names.{Names}
use Rattle.tocmark_read_scan.specs.declared.syntax.Names.TheVariants.{Four, All}
use Rattle.tocmark_read_tokens.specs.CharacterNames.{characters_of}
use Rattle.tocmark_read_tokens.specs.declared.name.NamedReference.{NamedReference}

-- the characters of a named reference, and the place after it
pub record Named : Type 0 where
  pub characters : List ℕ
  pub next : ℕ

-- a reference that was found as its characters and its place
abbrev pub named_view : Option NamedReference → Option Named
named_view None = None
named_view (Some r) = Some (record { characters = r.characters.now; next = r.next })

-- the place after the letters and digits after an ampersand
unfoldable pub name_end : List ℕ → ℕ → ℕ
name_end bytes place = run_end bytes (plus place 1) TagName

-- what the name between an ampersand and a semicolon stands for
unfoldable pub name_at : List ℕ → ℕ → Option (List ℕ)
name_at bytes place =
    if (byte_at bytes place == 38) && (byte_at bytes (name_end bytes place) == 59)
    then characters_of (bytes_between bytes (plus place 1) (name_end bytes place))
    else None

-- these characters with the place after their reference, if there are some
abbrev pub named_to : ℕ → Option (List ℕ) → Option Named
named_to next None = None
named_to next (Some characters) = Some (record { characters = characters; next = next })

-- the reference by a name of HTML at a place
unfoldable pub named : List ℕ → ℕ → Option Named
named bytes place = named_to (plus (name_end bytes place) 1) (name_at bytes place)

-- the same where all names are known
abbrev pub named_in : Names → List ℕ → ℕ → Option Named
named_in Four bytes place = None
named_in All bytes place = named bytes place
