-- Raw HTML (CommonMark 6.6).
use Rattle.std.specs.Prelude.{ℕ, not, ◌-◌, ◌==◌, ◌&&◌, nat_lt, if◌then◌else◌, List, length, codes, Option, Some, None}
use Rattle.std.specs.Char.{is_ascii_alphabetic}
use Rattle.tocmark_read_scan.specs.Basic.{plus, byte_at, starts_at}
use Rattle.tocmark_read_scan.specs.Repeat.{iterated}
use Rattle.tocmark_read_scan.specs.Class.{is_in, run_end}
use Rattle.tocmark_read_scan.specs.declared.class.Class.TheVariants.{White, TagName, AttributeStart, AttributeName, Unquoted, Except}
use Rattle.tocmark_read_tokens.specs.declared.html.LastEnds.{LastEnds}

-- the place after a tag's name: a letter, then letters, digits and hyphens
unfoldable pub name_end : List ℕ → ℕ → Option ℕ
name_end bytes place = if is_ascii_alphabetic (byte_at bytes place) then Some (run_end bytes place TagName) else None

-- white space and a bracket after a closing tag's name
abbrev pub closing_tag_from : List ℕ → Option ℕ → Option ℕ
closing_tag_from bytes None = None
closing_tag_from bytes (Some name) =
    let end = run_end bytes name White in
    if byte_at bytes end == 62 then Some (plus end 1) else None

-- the place after a closing tag
unfoldable pub closing_tag : List ℕ → ℕ → Option ℕ
closing_tag bytes place = closing_tag_from bytes (name_end bytes (plus place 2))

-- the place after a value between quotes
unfoldable pub quoted_end : List ℕ → ℕ → ℕ → Option ℕ
quoted_end bytes place quote =
    let end = run_end bytes (plus place 1) (Except quote) in
    if byte_at bytes end == quote then Some (plus end 1) else None

-- the place after an attribute's value
unfoldable pub value : List ℕ → ℕ → Option ℕ
value bytes place =
    if byte_at bytes place == 34 then quoted_end bytes place 34
    else (if byte_at bytes place == 39 then quoted_end bytes place 39
    else (if run_end bytes place Unquoted == place then None else Some (run_end bytes place Unquoted)))

-- the place after the value after an attribute's name, if it has one
unfoldable pub value_end : List ℕ → ℕ → Option ℕ
value_end bytes place =
    let at = run_end bytes place White in
    if byte_at bytes at == 61 then value bytes (run_end bytes (plus at 1) White) else Some place

-- the place after white space and an attribute
unfoldable pub attribute : List ℕ → ℕ → Option ℕ
attribute bytes place =
    let at = run_end bytes place White in
    if not (at == place) && is_in AttributeStart (byte_at bytes at) then value_end bytes (run_end bytes at AttributeName) else None

-- the place after the end of an open tag
unfoldable pub tag_close : List ℕ → ℕ → Option ℕ
tag_close bytes place =
    let at = run_end bytes place White in
    if byte_at bytes at == 62 then Some (plus at 1) else (if starts_at bytes at (codes "/>") then Some (plus at 2) else None)

-- attributes and the end of the tag after an open tag's name
abbrev pub open_tag_from : List ℕ → Option ℕ → Option ℕ
open_tag_from bytes None = None
open_tag_from bytes (Some name) = tag_close bytes (iterated (attribute bytes) (length bytes) name)

-- the place after an open tag
unfoldable pub open_tag : List ℕ → ℕ → Option ℕ
open_tag bytes place = open_tag_from bytes (name_end bytes (plus place 1))

-- the next place, unless the word is here or the text ends
unfoldable pub further : List ℕ → List ℕ → ℕ → Option ℕ
further bytes word place = if nat_lt place (length bytes) && not (starts_at bytes place word) then Some (plus place 1) else None

-- the place before, unless the word is here or the text begins
unfoldable pub nearer : List ℕ → List ℕ → ℕ → Option ℕ
nearer bytes word place = if nat_lt 0 place && not (starts_at bytes place word) then Some (place - 1) else None

-- the place after the first byte of the last such word, or 0
unfoldable pub last_of : List ℕ → List ℕ → ℕ
last_of bytes word =
    let place = iterated (nearer bytes word) (length bytes) (length bytes) in
    if starts_at bytes place word then plus place 1 else 0

-- where the last end of each kind of raw HTML begins
unfoldable pub last_ends : List ℕ → LastEnds
last_ends bytes = record {
  comment = last_of bytes (codes "-->");
  instruction = last_of bytes (codes "?>");
  cdata = last_of bytes (codes "]]>");
  declaration = last_of bytes (codes ">");
}

-- the place after the first such word, if the last one begins before `last`
unfoldable pub found_within : List ℕ → ℕ → List ℕ → ℕ → Option ℕ
found_within bytes from word last =
    if nat_lt from last then Some (plus (iterated (further bytes word) (length bytes) from) (length word)) else None

-- the place after a comment
unfoldable pub comment : List ℕ → ℕ → ℕ → Option ℕ
comment bytes place last =
    if starts_at bytes place (codes "<!-->") then Some (plus place 5)
    else (if starts_at bytes place (codes "<!--->") then Some (plus place 6)
    else found_within bytes (plus place 4) (codes "-->") last)

-- the place after a declaration
unfoldable pub declaration : List ℕ → ℕ → ℕ → Option ℕ
declaration bytes place last =
    if is_ascii_alphabetic (byte_at bytes (plus place 2)) then found_within bytes (plus place 3) (codes ">") last else None

-- the place after raw HTML
unfoldable pub raw_html : List ℕ → ℕ → LastEnds → Option ℕ
raw_html bytes place last =
    if starts_at bytes place (codes "</") then closing_tag bytes place
    else (if starts_at bytes place (codes "<?") then found_within bytes (plus place 2) (codes "?>") last.instruction
    else (if starts_at bytes place (codes "<!--") then comment bytes place last.comment
    else (if starts_at bytes place (codes "<![CDATA[") then found_within bytes (plus place 9) (codes "]]>") last.cdata
    else (if starts_at bytes place (codes "<!") then declaration bytes place last.declaration
    else open_tag bytes place))))
