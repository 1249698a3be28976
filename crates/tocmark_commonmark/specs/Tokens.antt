-- What begins at a byte of a leaf's content (CommonMark 0.31.2: 2.4, 2.5 and chapter 6). Autolinks, tags, numeric and named
-- references, and the sides of runs are the reader's definitions, because each of these already states a rule of the standard.
use Rattle.std.specs.Prelude.{ℕ, zero, suc, ◌+◌, ◌-◌, Bool, true, false, ◌==◌, ◌&&◌, ◌||◌, nat_lt, nat_le, if◌then◌else◌, List, [], ◌∷◌, ◌++◌, length, drop, take_while, slice_get, codes, encode_utf8, Option, Some, None}
use Rattle.std.specs.Char.{is_ascii_alphabetic}
use Rattle.tocmark_event.specs.declared.event.LinkType.{LinkType}
use Rattle.tocmark_event.specs.declared.event.LinkType.TheVariants.{Autolink, Email}
use Rattle.tocmark_read_scan.specs.Basic.{byte_at, bytes_between, starts_at}
use Rattle.tocmark_read_scan.specs.Class.{run_end}
use Rattle.tocmark_read_scan.specs.Repeat.{iterated}
use Rattle.tocmark_read_scan.specs.declared.class.Class.TheVariants.{Only, Except}
use Rattle.tocmark_read_tokens.specs.Autolink.{uri_end, mail_end}
use Rattle.tocmark_read_tokens.specs.Html.{closing_tag, open_tag, further}
use Rattle.tocmark_read_tokens.specs.Name.{Named, named}
use Rattle.tocmark_read_tokens.specs.Reference.{is_escape, numeric}
use Rattle.tocmark_read_tokens.specs.declared.reference.Reference.{Reference}
use Rattle.tocmark_read_spans.specs.Run.{run_at}
use Rattle.tocmark_read_spans.specs.Tick.{next_run, stripped, push_shown}
use Rattle.tocmark_commonmark.specs.InlineTree.{Inline, Text, Code, RawHtml, SoftBreak, HardBreak, Link, none, more, Atom, Whole, Delimiters, Opening}

-- What a byte may begin.
pub data Kind : Type 0 where
  Backslash : Kind
  Ampersand : Kind
  Backtick : Kind
  Star : Kind
  OpenBracket : Kind
  Exclamation : Kind
  CloseBracket : Kind
  Angle : Kind
  Space : Kind
  LineFeed : Kind
  Other : Kind

-- what a byte may begin
abbrev pub kind_of : ℕ → Kind
kind_of b =
    if b == 92 then Backslash
    else (if b == 38 then Ampersand
    else (if b == 96 then Backtick
    else (if (b == 42) || (b == 95) then Star
    else (if b == 91 then OpenBracket
    else (if b == 33 then Exclamation
    else (if b == 93 then CloseBracket
    else (if b == 60 then Angle
    else (if b == 32 then Space
    else (if b == 10 then LineFeed else Other)))))))))

-- a byte that begins nothing
abbrev pub is_other : Kind → Bool
is_other Other = true
is_other k = false

-- An atom, and the place after it.
pub record Token : Type 0 where
  pub atom : Atom
  pub end : ℕ

-- a token of these
abbrev pub token : Inline → ℕ → Token
token i end = record { atom = Whole i; end = end }

-- one byte as text
abbrev pub byte_token : ℕ → ℕ → Token
byte_token b place = token (Text (b ∷ [])) (place + 1)

-- a line ending is at a place
abbrev pub ends_line : List ℕ → ℕ → Bool
ends_line bytes place = nat_lt place (length bytes) && (byte_at bytes place == 10)

-- 2.4, 6.7: a backslash before ASCII punctuation is an escape, before a line ending it is a hard line break, else it is text
abbrev pub backslash : List ℕ → ℕ → Token
backslash bytes place =
    if is_escape bytes place then token (Text (byte_at bytes (place + 1) ∷ [])) (place + 2)
    else (if ends_line bytes (place + 1) then token HardBreak (place + 2) else byte_token 92 place)

-- 2.5: a numeric reference as its character
abbrev pub numbered : Option Reference → Option Named
numbered None = None
numbered (Some r) = Some (record { characters = encode_utf8 r.character; next = r.next })

-- 2.5: a numeric reference, or one by a name
abbrev pub reference_if : Bool → List ℕ → ℕ → Option Named
reference_if true bytes place = numbered (numeric bytes place)
reference_if false bytes place = named bytes place

-- 2.5: the entity or numeric character reference at a place
abbrev pub reference : List ℕ → ℕ → Option Named
reference bytes place = reference_if (starts_at bytes place (codes "&#")) bytes place

-- 2.5: a reference is its characters, another ampersand is text
abbrev pub ampersand : ℕ → Option Named → Token
ampersand place None = byte_token 38 place
ampersand place (Some n) = token (Text n.characters) n.next

-- 6.1: line endings are spaces; a space is stripped from both sides, if both have one and not all is spaces
abbrev pub code_of : List ℕ → Inline
code_of bytes = Code (push_shown [] (stripped bytes))

-- 6.1: a code span goes on to the next run of as many backticks; backticks without such a run are text
abbrev pub code_between : List ℕ → ℕ → ℕ → ℕ → Token
code_between bytes place inner end =
    if nat_lt end (length bytes) then token (code_of (bytes_between bytes inner end)) (end + (inner - place))
    else token (Text (bytes_between bytes place inner)) inner

-- 6.1: the code span after the backticks between two places
abbrev pub code_from : List ℕ → ℕ → ℕ → Token
code_from bytes place inner =
    code_between bytes place inner (iterated (next_run bytes (inner - place)) (length bytes) (run_end bytes inner (Except 96)))

-- an opening bracket
abbrev pub opening : Bool → ℕ → Token
opening is_image inner = record { atom = Opening (record { is_image = is_image; inner = inner; is_active = true }); end = inner }

-- 6.4: an exclamation mark before a bracket begins an image
abbrev pub exclamation : List ℕ → ℕ → Token
exclamation bytes place = if byte_at bytes (place + 1) == 91 then opening true (place + 2) else byte_token 33 place

-- the place after a word, if it is here
abbrev pub word_at : List ℕ → List ℕ → ℕ → Option ℕ
word_at bytes word place = if starts_at bytes place word then Some (place + length word) else None

-- the place after the first such word from a place on
abbrev pub after_word : List ℕ → List ℕ → ℕ → Option ℕ
after_word bytes word from = word_at bytes word (iterated (further bytes word) (length bytes) from)

-- 6.6: a comment is `<!-->`, `<!--->`, or `<!--`, any characters and the first `-->`
abbrev pub comment_end : List ℕ → ℕ → Option ℕ
comment_end bytes place =
    if starts_at bytes place (codes "<!-->") then Some (place + 5)
    else (if starts_at bytes place (codes "<!--->") then Some (place + 6) else after_word bytes (codes "-->") (place + 4))

-- 6.6: a declaration is `<!`, a letter, any characters and the first `>`
abbrev pub declaration_end : List ℕ → ℕ → Option ℕ
declaration_end bytes place = if is_ascii_alphabetic (byte_at bytes (place + 2)) then after_word bytes (codes ">") (place + 3) else None

-- 6.6: the place after a tag, a comment, an instruction, a declaration or a CDATA section
abbrev pub html_end : List ℕ → ℕ → Option ℕ
html_end bytes place =
    if starts_at bytes place (codes "</") then closing_tag bytes place
    else (if starts_at bytes place (codes "<?") then after_word bytes (codes "?>") (place + 2)
    else (if starts_at bytes place (codes "<!--") then comment_end bytes place
    else (if starts_at bytes place (codes "<![CDATA[") then after_word bytes (codes "]]>") (place + 9)
    else (if starts_at bytes place (codes "<!") then declaration_end bytes place
    else open_tag bytes place))))

-- 6.5: an autolink: its text is what it leads to
abbrev pub autolink : LinkType → List ℕ → Inline
autolink t address = Link t address [] [] (more (Text address) none)

-- 6.5, 6.6: an absolute URI, an email address, or raw HTML; another `<` is text
abbrev pub angle : List ℕ → ℕ → Option ℕ → Option ℕ → Option ℕ → Token
angle bytes place (Some end) mail html = token (autolink Autolink (bytes_between bytes (place + 1) (end - 1))) end
angle bytes place None (Some end) html = token (autolink Email (bytes_between bytes (place + 1) (end - 1))) end
angle bytes place None None (Some end) = token (RawHtml (bytes_between bytes place end)) end
angle bytes place None None None = byte_token 60 place

-- 6.7, 6.8: two or more spaces before a line ending are a hard line break, fewer a softbreak
abbrev pub line_break : ℕ → Inline
line_break spaces = if nat_le 2 spaces then HardBreak else SoftBreak

-- spaces between two places are text, if no line ending comes after them
abbrev pub spaces : List ℕ → ℕ → ℕ → Token
spaces bytes place end =
    if ends_line bytes end then token (line_break (end - place)) (end + 1) else token (Text (bytes_between bytes place end)) end

-- 6.9: bytes that begin nothing are text
abbrev pub others : List ℕ → ℕ → Token
others text place = token (Text text) (place + length text)

-- the token at a place, whose byte is of this kind
abbrev pub token_at : List ℕ → ℕ → ℕ → Kind → Token
token_at bytes place b Backslash = backslash bytes place
token_at bytes place b Ampersand = ampersand place (reference bytes place)
token_at bytes place b Backtick = code_from bytes place (run_end bytes place (Only 96))
token_at bytes place b Star = record { atom = Delimiters (run_at bytes place b); end = run_end bytes place (Only b) }
token_at bytes place b OpenBracket = opening false (place + 1)
token_at bytes place b Exclamation = exclamation bytes place
token_at bytes place b Angle = angle bytes place (uri_end bytes place) (mail_end bytes place) (html_end bytes place)
token_at bytes place b Space = spaces bytes place (run_end bytes place (Only 32))
token_at bytes place b LineFeed = token SoftBreak (place + 1)
token_at bytes place b Other = others (take_while (λ c. is_other (kind_of c)) (drop place bytes)) place
token_at bytes place b CloseBracket = byte_token b place

-- 2.4, 2.5: the bytes of an escape or a reference, and the place after it; other bytes stay as they are
abbrev pub literal : ℕ → ℕ → Option Named → Named
literal b place None = record { characters = b ∷ []; next = place + 1 }
literal b place (Some n) = n

-- 2.4: an escaped character
abbrev pub escaped : List ℕ → ℕ → Option Named
escaped bytes place = if is_escape bytes place then Some (record { characters = byte_at bytes (place + 1) ∷ []; next = place + 2 }) else None

-- 2.4, 2.5: what a byte is in a destination, a title or an info string
abbrev pub literal_at : List ℕ → ℕ → ℕ → Kind → Named
literal_at bytes place b Backslash = literal b place (escaped bytes place)
literal_at bytes place b Ampersand = literal b place (reference bytes place)
literal_at bytes place b k = literal b place None

-- what a byte is, and what follows it
abbrev pub and_literals : (ℕ → List ℕ) → Named → List ℕ
and_literals next n = n.characters ++ next n.next

-- what is at a place, and what follows it
abbrev pub literals_at : (ℕ → List ℕ) → List ℕ → ℕ → Option ℕ → List ℕ
literals_at next bytes place None = []
literals_at next bytes place (Some b) = and_literals next (literal_at bytes place b (kind_of b))

-- 2.4, 2.5: from a place on; fuel counts down, because each step takes a byte
abbrev pub literals : ℕ → List ℕ → ℕ → List ℕ
literals zero bytes place = []
literals (suc fuel) bytes place = literals_at (λ p. literals fuel bytes p) bytes place (slice_get bytes place)

-- 2.4, 2.5: bytes with their escapes and references resolved
unfoldable pub resolved : List ℕ → List ℕ
resolved bytes = literals (length bytes) bytes 0
