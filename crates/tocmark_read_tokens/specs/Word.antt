-- Link labels, destinations, titles and reference definitions (CommonMark 4.7 and 6.3).
use Rattle.std.specs.Prelude.{ℕ, Bool, false, not, ◌==◌, ◌&&◌, ◌||◌, ◌-◌, min, nat_lt, nat_le, if◌then◌else◌, List, [], ◌∷◌, length, drop, filter, Option, Some, None}
use Rattle.std.specs.List.{list_any}
use Rattle.std.specs.Char.{is_ascii_punctuation}
use Rattle.tocmark_read_scan.specs.Basic.{plus, byte_at, bytes_between}
use Rattle.tocmark_read_scan.specs.Class.{is_in, run_end}
use Rattle.tocmark_read_scan.specs.declared.class.Class.TheVariants.{White, Blank}
use Rattle.tocmark_read_tokens.specs.declared.word.Enclosure.{Enclosure}
use Rattle.tocmark_read_tokens.specs.declared.word.Enclosure.TheVariants.{Angled, DoubleQuoted, SingleQuoted, Parenthesized, Bracketed}
use Rattle.tocmark_read_tokens.specs.declared.word.Word.{Word}
use Rattle.tocmark_read_tokens.specs.declared.word.Definition.{Definition}

-- an unescaped byte that ends what is enclosed so, rightly or wrongly
unfoldable pub stops : Enclosure → ℕ → Bool
stops Angled b = (b == 60) || (b == 62) || (b == 10)
stops DoubleQuoted b = b == 34
stops SingleQuoted b = b == 39
stops Parenthesized b = (b == 40) || (b == 41)
stops Bracketed b = (b == 91) || (b == 93)

-- the byte that closes it
unfoldable pub closing_of : Enclosure → ℕ
closing_of Angled = 62
closing_of DoubleQuoted = 34
closing_of SingleQuoted = 39
closing_of Parenthesized = 41
closing_of Bracketed = 93

-- a byte that ends what is enclosed so, after an escaping backslash or not
unfoldable pub ends_enclosed : Enclosure → Bool → ℕ → Bool
ends_enclosed kind escaped b = stops kind b && not (escaped && is_ascii_punctuation b)

-- a backslash that is not escaped itself
unfoldable pub escapes : Bool → ℕ → Bool
escapes escaped b = not escaped && (b == 92)

-- where the first such byte of the rest is, or the end
abbrev pub enclosed_end : Enclosure → Bool → ℕ → List ℕ → ℕ
enclosed_end kind escaped place [] = place
enclosed_end kind escaped place (b ∷ bs) =
    if ends_enclosed kind escaped b then place else enclosed_end kind (escapes escaped b) (plus place 1) bs

-- the place of the byte that closes what began before a place
unfoldable pub enclosed : List ℕ → ℕ → Enclosure → Option ℕ
enclosed bytes from kind =
    let end = enclosed_end kind false from (drop from bytes) in
    if byte_at bytes end == closing_of kind then Some end else None

-- a byte that ends a bare destination at so many open parentheses: at most 32 are open
unfoldable pub ends_bare : ℕ → Bool → ℕ → Bool
ends_bare depth escaped b =
    let blank = nat_le b 32 || (b == 127) in
    let paren = ((b == 41) && (depth == 0)) || ((b == 40) && nat_le 32 depth) in
    blank || (paren && not escaped)

-- the open parentheses after a byte
unfoldable pub depth_after : ℕ → Bool → ℕ → ℕ
depth_after depth escaped b = if escaped then depth else (if b == 40 then plus depth 1 else (if b == 41 then depth - 1 else depth))

-- the open parentheses at the end of a bare destination, and that end
abbrev pub bare : ℕ → Bool → ℕ → List ℕ → ℕ × ℕ
bare depth escaped place [] = (depth, place)
bare depth escaped place (b ∷ bs) =
    if ends_bare depth escaped b then (depth, place)
    else bare (depth_after depth escaped b) (escapes escaped b) (plus place 1) bs

-- a word by its three places
abbrev pub word : ℕ → ℕ → ℕ → Word
word start end next = record { start = start; end = end; next = next }

-- a bare destination: its parentheses are balanced
unfoldable pub bare_word : List ℕ → ℕ → Option Word
bare_word bytes from =
    let found = bare 0 false from (drop from bytes) in
    if found.0 == 0 then Some (word from (found.1) (found.1)) else None

-- the word before the byte that closes it
abbrev pub word_to : ℕ → Option ℕ → Option Word
word_to start None = None
word_to start (Some end) = Some (word start end (plus end 1))

-- what is enclosed so after the byte at a place
unfoldable pub enclosed_word : List ℕ → ℕ → Enclosure → Option Word
enclosed_word bytes place kind = word_to (plus place 1) (enclosed bytes (plus place 1) kind)

-- the destination at a place, in angle brackets or bare
unfoldable pub destination : List ℕ → ℕ → Option Word
destination bytes place = if byte_at bytes place == 60 then enclosed_word bytes place Angled else bare_word bytes place

-- what a title's first byte opens
unfoldable pub enclosure_of : ℕ → Option Enclosure
enclosure_of b =
    if b == 34 then Some DoubleQuoted else (if b == 39 then Some SingleQuoted else (if b == 40 then Some Parenthesized else None))

-- the title in an enclosure
abbrev pub title_in : List ℕ → ℕ → Option Enclosure → Option Word
title_in bytes place None = None
title_in bytes place (Some kind) = enclosed_word bytes place kind

-- the title at a place, in double quotes, single quotes or parentheses
unfoldable pub title : List ℕ → ℕ → Option Word
title bytes place = title_in bytes place (enclosure_of (byte_at bytes place))

-- the bytes but those after the first of a character
abbrev pub character_count : List ℕ → ℕ
character_count text = length (filter (λ b. not (nat_le 128 b && nat_lt b 192)) text)

-- not all is white
abbrev pub has_ink : List ℕ → Bool
has_ink text = list_any (λ b. not (is_in White b)) text

-- at most 999 characters, and not all white
unfoldable pub is_label_text : List ℕ → Bool
is_label_text text = nat_le (character_count text) 999 && has_ink text

-- the label before the bracket that closes it
abbrev pub label_to : List ℕ → ℕ → Option ℕ → Option Word
label_to bytes start None = None
label_to bytes start (Some end) =
    if is_label_text (bytes_between bytes start end) then Some (word start end (plus end 1)) else None

-- the label from a place after its bracket to before the bracket that closes it
unfoldable pub label_from : List ℕ → ℕ → Option Word
label_from bytes start = label_to bytes start (enclosed bytes start Bracketed)

-- the label in brackets at a place
unfoldable pub label : List ℕ → ℕ → Option Word
label bytes place = if byte_at bytes place == 91 then label_from bytes (plus place 1) else None

-- the place after the line ending at a place, with the spaces and tabs before it
unfoldable pub line_end : List ℕ → ℕ → Option ℕ
line_end bytes place =
    let end = run_end bytes place Blank in
    if byte_at bytes end == 10 then Some (min (plus end 1) (length bytes)) else None

-- a word with the place after its line
abbrev pub with_next : Word → Option ℕ → Option (Word × ℕ)
with_next w None = None
with_next w (Some next) = Some (w, next)

-- a title with nothing else on its line
abbrev pub title_ended : List ℕ → Option Word → Option (Word × ℕ)
title_ended bytes None = None
title_ended bytes (Some w) = with_next w (line_end bytes w.next)

-- a title after white space, with nothing else on its line
unfoldable pub title_on_line : List ℕ → ℕ → Option (Word × ℕ)
title_on_line bytes place =
    let start = run_end bytes place White in
    if start == place then None else title_ended bytes (title bytes start)

-- no title, and nothing else on the line
unfoldable pub untitled : List ℕ → ℕ → Option (Word × ℕ)
untitled bytes place = with_next (word place place place) (line_end bytes place)

-- the title that was found, or none
abbrev pub or_untitled : List ℕ → ℕ → Option (Word × ℕ) → Option (Word × ℕ)
or_untitled bytes place None = untitled bytes place
or_untitled bytes place (Some found) = Some found

-- a definition's title, and the place after the definition
unfoldable pub titled : List ℕ → ℕ → Option (Word × ℕ)
titled bytes place = or_untitled bytes place (title_on_line bytes place)

-- a destination that isn't empty, or has brackets
abbrev pub not_empty : ℕ → Option Word → Option Word
not_empty start None = None
not_empty start (Some w) = if w.next == start then None else Some w

-- the destination after a definition's colon
unfoldable pub defined_destination : List ℕ → ℕ → Option Word
defined_destination bytes place = let start = run_end bytes place White in not_empty start (destination bytes start)

-- a label with a colon after it
abbrev pub before_colon : List ℕ → Option Word → Option Word
before_colon bytes None = None
before_colon bytes (Some w) = if byte_at bytes w.next == 58 then Some w else None

-- a label with a colon after it
unfoldable pub defined_label : List ℕ → ℕ → Option Word
defined_label bytes place = before_colon bytes (label bytes place)

-- a definition of its three words
abbrev pub definition_with : Word → Word → Option (Word × ℕ) → Option Definition
definition_with l d None = None
definition_with l d (Some t) = Some (record { label = l; destination = d; title = t.0; next = t.1 })

-- a definition of a label and a destination
abbrev pub definition_to : List ℕ → Word → Option Word → Option Definition
definition_to bytes l None = None
definition_to bytes l (Some d) = definition_with l d (titled bytes d.next)

-- a definition of a label
abbrev pub definition_of : List ℕ → Option Word → Option Definition
definition_of bytes None = None
definition_of bytes (Some l) = definition_to bytes l (defined_destination bytes (plus l.next 1))

-- the link reference definition at a place
unfoldable pub definition_at : List ℕ → ℕ → Option Definition
definition_at bytes place = definition_of bytes (defined_label bytes place)
