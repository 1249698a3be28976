-- Where the ends of HTML blocks are in a text, told by how many bytes are left from there on (CommonMark, section 4.6).
use Rattle.std.specs.Prelude.{ℕ, ◌+◌, ◌-◌, Bool, ◌==◌, ◌||◌, if◌then◌else◌, nat_le, List, [], ◌∷◌, codes, drop, length, slice_get, unwrap_or}
use Rattle.std.specs.Str.{str_to_ascii_lowercase}
use Rattle.tocmark_spelling.specs.Words.{begins_with}
use Rattle.tocmark_write_blocks.specs.declared.block_ends.BlockEnds.{BlockEnds}

-- how many bytes of a text are left from the first place of a piece on; 0 where it isn't in it
abbrev pub left_from : List ℕ → List ℕ → ℕ
left_from piece [] = 0
left_from piece (b ∷ bs) = if begins_with (b ∷ bs) piece then length (b ∷ bs) else left_from piece bs

-- the last bytes of a text, as many as that
abbrev pub last_of : ℕ → List ℕ → List ℕ
last_of left text = drop (length text - left) text

-- how many are left from the first place of each end on; tags are there in capitals or not
abbrev pub ends_in : List ℕ → BlockEnds
ends_in text = record {
  comment = left_from (codes "-->") text;
  instruction = left_from (codes "?>") text;
  character_data = left_from (codes "]]>") text;
  declaration = left_from (codes ">") text;
  pre = left_from (codes "</pre>") (str_to_ascii_lowercase text);
  script = left_from (codes "</script>") (str_to_ascii_lowercase text);
  style = left_from (codes "</style>") (str_to_ascii_lowercase text);
  textarea = left_from (codes "</textarea>") (str_to_ascii_lowercase text);
}

-- the same of one piece, with one byte more in front
abbrev pub left_with : List ℕ → List ℕ → ℕ → ℕ
left_with piece text behind = if begins_with text piece then length text else behind

-- the same of all ends, in a text and in the text in lower case
abbrev pub ends_with : List ℕ → List ℕ → BlockEnds → BlockEnds
ends_with text lower behind = record {
  comment = left_with (codes "-->") text behind.comment;
  instruction = left_with (codes "?>") text behind.instruction;
  character_data = left_with (codes "]]>") text behind.character_data;
  declaration = left_with (codes ">") text behind.declaration;
  pre = left_with (codes "</pre>") lower behind.pre;
  script = left_with (codes "</script>") lower behind.script;
  style = left_with (codes "</style>") lower behind.style;
  textarea = left_with (codes "</textarea>") lower behind.textarea;
}

-- the end of a comment, an instruction, character data or a declaration begins with a byte
abbrev pub begins_end : ℕ → Bool
begins_end b = (b == 62) || (b == 45) || (b == 63) || (b == 93)

-- some end may be at the front of a text, which is given in lower case, too, by its first byte
abbrev pub may_begin : List ℕ → List ℕ → Bool
may_begin text lower = begins_end (unwrap_or (slice_get text 0) 0) || (unwrap_or (slice_get lower 0) 0 == 60)

-- whether a piece of this size is before so many last bytes, by what is left from its first place on
abbrev pub stands_before : ℕ → ℕ → ℕ → Bool
stands_before after size left = nat_le (after + size) left

-- whether the end tag of some raw text is before so many last bytes
abbrev pub tag_stands : ℕ → BlockEnds → Bool
tag_stands after ends =
    stands_before after 6 ends.pre || stands_before after 9 ends.script || stands_before after 8 ends.style
    || stands_before after 11 ends.textarea

-- whether the end of the block that begins so is before so many last bytes
abbrev pub closed_by : List ℕ → ℕ → BlockEnds → Bool
closed_by opening after ends =
    if begins_with opening (codes "<!--") then stands_before after 3 ends.comment
    else if begins_with opening (codes "<?") then stands_before after 2 ends.instruction
    else if begins_with opening (codes "<![CDATA[") then stands_before after 3 ends.character_data
    else if begins_with opening (codes "<!") then stands_before after 1 ends.declaration
    else tag_stands after ends
