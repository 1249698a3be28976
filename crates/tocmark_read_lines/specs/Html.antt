-- HTML blocks (CommonMark 4.6).
use Rattle.std.specs.Prelude.{ℕ, ◌+◌, Bool, true, false, not, ◌==◌, ◌&&◌, ◌||◌, nat_le, if◌then◌else◌, List, [], ◌∷◌, length, map, Option, Some, None, codes, bytes_eq}
use Rattle.std.specs.List.{list_any}
use Rattle.std.specs.Char.{is_ascii_alphabetic, to_ascii_lowercase}
use Rattle.tocmark_read_scan.specs.Basic.{plus, byte_at, bytes_between, starts_at}
use Rattle.tocmark_read_scan.specs.Class.{run_end}
use Rattle.tocmark_read_tokens.specs.Html.{closing_tag, open_tag}
use Rattle.tocmark_read_scan.specs.declared.class.Class.TheVariants.{TagName, Blank}
use Rattle.tocmark_read_lines.specs.declared.html.HtmlKind.{HtmlKind}
use Rattle.tocmark_read_lines.specs.declared.html.HtmlKind.TheVariants.{Raw, Comment, Instruction, Declaration, CharacterData, Named, Alone}
use Rattle.tocmark_read_lines.specs.declared.html.TheConstants.{RAW_NAMES, RAW_ENDS, BLOCK_NAMES}

-- two words are the same but for the case of ASCII letters
unfoldable pub same_word : List ℕ → List ℕ → Bool
same_word a b = bytes_eq (map to_ascii_lowercase a) (map to_ascii_lowercase b)

-- a name of the first kind of HTML blocks
unfoldable pub is_raw_name : List ℕ → Bool
is_raw_name name = list_any (λ w. same_word name w.now) RAW_NAMES

-- a name of the sixth kind of HTML blocks
unfoldable pub is_block_name : List ℕ → Bool
is_block_name name = list_any (λ w. same_word name w.now) BLOCK_NAMES

-- white space, `>` or the end of the line
unfoldable pub ends_name : List ℕ → ℕ → Bool
ends_name line place =
    let b = byte_at line place in
    nat_le (length line) place || (b == 32) || (b == 9) || (b == 62)

-- the line begins as the first kind does
unfoldable pub is_raw : List ℕ → Bool
is_raw line =
    let end = run_end line 1 TagName in
    is_raw_name (bytes_between line 1 end) && ends_name line end

-- a tag of the sixth kind whose name is at a place
unfoldable pub block_tag : List ℕ → ℕ → Bool
block_tag line place =
    let end = run_end line place TagName in
    (ends_name line end || starts_at line end (codes "/>")) && is_block_name (bytes_between line place end)

-- the line begins as the sixth kind does
unfoldable pub is_block_tag : List ℕ → Bool
is_block_tag line = if byte_at line 1 == 47 then block_tag line 2 else block_tag line 1

-- the place after the first tag, if it may be alone
unfoldable pub tag_end : List ℕ → Option ℕ
tag_end line =
    if byte_at line 1 == 47 then closing_tag line 0
    else (if is_raw_name (bytes_between line 1 (run_end line 1 TagName)) then None else open_tag line 0)

-- nothing but spaces and tabs is after the tag
abbrev pub ends_blank : List ℕ → Option ℕ → Bool
ends_blank line None = false
ends_blank line (Some end) = nat_le (length line) (run_end line end Blank)

-- the line begins as the seventh kind does
unfoldable pub is_tag_line : List ℕ → Bool
is_tag_line line = ends_blank line (tag_end line)

-- the first kind whose beginning the line has
unfoldable pub html_kind : List ℕ → Option HtmlKind
html_kind line =
    if not (byte_at line 0 == 60) then None
    else (if is_raw line then Some Raw
    else (if starts_at line 0 (codes "<!--") then Some Comment
    else (if starts_at line 0 (codes "<?") then Some Instruction
    else (if (byte_at line 1 == 33) && is_ascii_alphabetic (byte_at line 2) then Some Declaration
    else (if starts_at line 0 (codes "<![CDATA[") then Some CharacterData
    else (if is_block_tag line then Some Named
    else (if is_tag_line line then Some Alone else None)))))))

-- a word is in the rest of the line
abbrev pub holds_from : List ℕ → List ℕ → ℕ → List ℕ → Bool
holds_from line word place [] = false
holds_from line word place (b ∷ bs) =
    if same_word (bytes_between line place (plus place (length word))) word then true else holds_from line word (place + 1) bs

-- a word is in the line
abbrev pub holds : List ℕ → List ℕ → Bool
holds line word = holds_from line word 0 line

-- an end of the first kind is in the line
unfoldable pub holds_raw_end : List ℕ → Bool
holds_raw_end line = list_any (λ w. holds line w.now) RAW_ENDS

-- the last line of a block of a kind; the last two kinds end before a blank line
unfoldable pub html_ends : HtmlKind → List ℕ → Bool
html_ends Raw line = holds_raw_end line
html_ends Comment line = holds line (codes "-->")
html_ends Instruction line = holds line (codes "?>")
html_ends Declaration line = holds line (codes ">")
html_ends CharacterData line = holds line (codes "]]>")
html_ends Named line = false
html_ends Alone line = false
