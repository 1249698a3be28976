-- The first pass over a leaf's text: what each byte is (CommonMark 6, and the algorithm of its appendix).
use Rattle.std.specs.Prelude.{ℕ, Bool, true, false, not, ◌-◌, ◌==◌, ◌&&◌, ◌||◌, min, nat_lt, nat_le, if◌then◌else◌, List, [], ◌∷◌, ◌++◌, length, take, drop, fold, codes, slice_get, slice_set, Option, Some, None}
use Rattle.std.specs.List.{list_any}
use Rattle.std.specs.Option.{option_or, option_and_then}
use Rattle.tocmark_read_scan.specs.Basic.{plus, byte_at, bytes_between, starts_at}
use Rattle.tocmark_read_scan.specs.declared.syntax.TheConstants.{CORE}
use Rattle.tocmark_read_scan.specs.declared.syntax.Syntax.{Syntax}
use Rattle.tocmark_read_scan.specs.Class.{run_end}
use Rattle.tocmark_read_scan.specs.Repeat.{iterated}
use Rattle.tocmark_read_tokens.specs.Html.{last_ends, raw_html}
use Rattle.tocmark_read_tokens.specs.Autolink.{uri_end, mail_end}
use Rattle.tocmark_read_tokens.specs.Reference.{is_escape, reference_at, unescaped_in}
use Rattle.tocmark_read_tokens.specs.Name.{Named, named_in}
use Rattle.tocmark_read_scan.specs.declared.syntax.Names.{Names}
use Rattle.tocmark_read_scan.specs.declared.syntax.Names.TheVariants.{Four, All}
use Rattle.tocmark_read_tokens.specs.Label.{collapsed, key_of}
use Rattle.tocmark_read_scan.specs.declared.class.Class.TheVariants.{Only}
use Rattle.tocmark_read_tokens.specs.declared.html.LastEnds.{LastEnds}
use Rattle.tocmark_read_tokens.specs.declared.reference.Reference.{Reference}
use Rattle.tocmark_event.specs.declared.event.LinkType.{LinkType}
use Rattle.tocmark_event.specs.declared.event.LinkType.TheVariants.{Inline, Autolink, Email}
use Rattle.tocmark_read_spans.specs.Role.{roles_of}
use Rattle.tocmark_read_spans.specs.Tick.{last_ticks, tick_end, push_shown, stripped}
use Rattle.tocmark_read_spans.specs.Run.{run_at, tildes_at}
use Rattle.tocmark_read_spans.specs.Math.{partners, math_at}
use Rattle.tocmark_read_spans.specs.Emphasis.{emphasized}
use Rattle.tocmark_read_spans.specs.Link.{inline_target, label_asked}
use Rattle.tocmark_read_spans.specs.Footnotes.{note_key, label_sought}
use Rattle.tocmark_read_tokens.specs.declared.word.Word.{Word}
use Rattle.tocmark_read_spans.specs.declared.footnote.Sought.{Sought}
use Rattle.tocmark_read_spans.specs.declared.footnote.Sought.TheVariants as sought_as
use Rattle.tocmark_read_spans.specs.declared.definitions.Entry.{Entry}
use Rattle.tocmark_read_spans.specs.declared.math.Math.{Math}
use Rattle.tocmark_read_spans.specs.declared.link.Bracket.{Bracket}
use Rattle.tocmark_read_spans.specs.declared.link.InlineTarget.{InlineTarget}
use Rattle.tocmark_read_spans.specs.declared.link.Asked.{Asked}
use Rattle.tocmark_read_spans.specs.declared.role.Role.{Role}
use Rattle.tocmark_read_spans.specs.declared.role.Role.TheVariants.{Fresh, Hidden, Open, Close, Single}
use Rattle.tocmark_read_spans.specs.declared.role.Leaf.{Leaf}
use Rattle.tocmark_read_spans.specs.declared.role.Leaf.TheVariants.{Character, Code, Html, SoftBreak, HardBreak}
use Rattle.tocmark_read_spans.specs.declared.role.Leaf.TheVariants as leaf
use Rattle.tocmark_read_spans.specs.declared.role.Span.TheVariants.{Link, Image}
use Rattle.tocmark_read_spans.specs.declared.role.Stretch.{Stretch}
use Rattle.tocmark_read_spans.specs.declared.role.Target.{Target}
use Rattle.tocmark_read_spans.specs.declared.run.Run.{Run}
use Rattle.tocmark_read_inlines.specs.declared.ahead.KnownAhead.{KnownAhead}
use Rattle.tocmark_read_inlines.specs.declared.scan.Scanner.{Scanner}

-- the pass at a place
pub record State : Type 0 where
  pub roles : List Role
  pub runs : List Run
  pub brackets : List Bracket
  pub inactive : ℕ
  pub place : ℕ
  pub resume : ℕ
  pub targets : List Target
  pub texts : List ℕ
  pub missed : List Stretch

-- a scanner as its lists
abbrev pub scan : Scanner → State
scan s = record {
  roles = roles_of s.roles;
  runs = s.runs.items;
  brackets = s.brackets.items;
  inactive = s.inactive;
  place = s.place;
  resume = s.resume;
  targets = s.targets.items;
  texts = s.texts.items;
  missed = s.missed.items;
}

-- what is known of a text before it is read
pub record Known : Type 0 where
  pub ends : LastEnds
  pub ticks : List ℕ
  pub partners : List (Option ℕ)

-- what is known as lists
abbrev pub ahead_view : KnownAhead → Known
ahead_view a = record { ends = a.ends; ticks = a.ticks.items; partners = a.partners.items }

-- the ends of raw HTML, where one can begin
unfoldable pub ends_of : List ℕ → LastEnds
ends_of bytes =
    if list_any (λ b. b == 60) bytes then last_ends bytes
    else record { comment = 0; instruction = 0; cdata = 0; declaration = 0 }

-- the runs of backticks, where there are some
unfoldable pub ticks_of : List ℕ → List ℕ
ticks_of bytes = if list_any (λ b. b == 96) bytes then last_ticks bytes else []

-- the partners of dollar signs, where mathematics is read and one is
unfoldable pub partners_in : Syntax → List ℕ → List (Option ℕ)
partners_in syntax bytes = if syntax.math && list_any (λ b. b == 36) bytes then partners bytes else []

-- what is known of a text before it is read
abbrev pub ahead_in : Syntax → List ℕ → Known
ahead_in syntax bytes = record { ends = ends_of bytes; ticks = ticks_of bytes; partners = partners_in syntax bytes }

-- a stretch by its two places
abbrev pub stretch : ℕ → ℕ → Stretch
stretch start end = record { start = start; end = end }

-- the place before, if a space is there
unfoldable pub before_space : List ℕ → ℕ → Option ℕ
before_space bytes place = if nat_lt 0 place && (byte_at bytes (place - 1) == 32) then Some (place - 1) else None

-- the texts are now these, and the last of them is what was written after the others
abbrev pub with_texts : List ℕ → State → State × Stretch
with_texts texts s = (record s { texts = texts }, stretch (length s.texts) (length texts))

-- a text is kept
unfoldable pub kept : List ℕ → State → State × Stretch
kept text s = with_texts (s.texts ++ text) s

-- the text of a code span is kept
unfoldable pub kept_code : List ℕ → State → State × Stretch
kept_code text s = with_texts (push_shown s.texts (stripped text)) s

-- a text is kept without its escapes and references
unfoldable pub kept_resolved_in : Names → List ℕ → State → State × Stretch
kept_resolved_in names text s = kept (unescaped_in names text) s

-- a target is kept, with its number
unfoldable pub targeted : Target → State → State × ℕ
targeted t s = (record s { targets = s.targets ++ t ∷ [] }, length s.targets)

-- a leaf at the place, up to an end
unfoldable pub put_leaf : Leaf → ℕ → State → State
put_leaf leaf end s = record s { roles = slice_set s.roles s.place (Single leaf end); resume = end }

-- a backslash (CommonMark 2.4 and 6.7)
unfoldable pub escaped : List ℕ → State → State
escaped bytes s =
    if is_escape bytes s.place
    then record s { roles = slice_set (slice_set s.roles s.place Hidden) (plus s.place 1) Fresh; resume = plus s.place 2 }
    else (if starts_at bytes s.place (codes "\\\n") then put_leaf HardBreak (plus s.place 2) s else s)

-- the character of a reference, if there is one
abbrev pub referred_to : State → Option Reference → State
referred_to s None = s
referred_to s (Some r) = put_leaf (Character r.character) r.next s

-- an ampersand (CommonMark 2.5)
unfoldable pub referred : List ℕ → State → State
referred bytes s = referred_to s (reference_at bytes s.place)

-- the characters of a named reference as a leaf, up to an end
unfoldable pub name_put : List ℕ → ℕ → State → State
name_put characters end s = let p = kept characters s in put_leaf (leaf.Text (p.1)) end (p.0)

-- the characters of a name, if there is one, or else a reference by number
abbrev pub named_to : List ℕ → State → Option Named → State
named_to bytes s None = referred bytes s
named_to bytes s (Some n) = name_put n.characters n.next s

-- an ampersand where all names are known
unfoldable pub named_taken : List ℕ → State → State
named_taken bytes s = named_to bytes s (named_in All bytes s.place)

-- a code span with its text between two places
unfoldable pub code_put : List ℕ → ℕ → ℕ → ℕ → State → State
code_put bytes from to count s =
    let p = kept_code (bytes_between bytes from to) s in put_leaf (Code (p.1)) (plus to count) (p.0)

-- a code span, or backticks that are a text
abbrev pub coded_to : List ℕ → ℕ → ℕ → State → Option ℕ → State
coded_to bytes from count s None = record s { resume = from }
coded_to bytes from count s (Some to) = code_put bytes from to count s

-- backticks (CommonMark 6.1)
unfoldable pub coded : List ℕ → List ℕ → State → State
coded bytes ticks s =
    let from = run_end bytes s.place (Only 96) in
    coded_to bytes from (from - s.place) s (tick_end bytes from (from - s.place) ticks)

-- a run that opens or closes is kept
abbrev pub with_run : Run → State → State
with_run r s = if r.opens || r.closes then record s { runs = s.runs ++ r ∷ [] } else s

-- a run that opens or closes is kept, and the pass goes on after it
unfoldable pub run_kept : Run → State → State
run_kept r s = with_run r (record s { resume = plus s.place r.count })

-- delimiters of emphasis (CommonMark 6.2)
unfoldable pub run_taken : List ℕ → ℕ → State → State
run_taken bytes byte s = run_kept (run_at bytes s.place byte) s

-- tildes of strikethrough and subscripts
unfoldable pub tildes_taken : Syntax → List ℕ → State → State
tildes_taken syntax bytes s = run_kept (tildes_at syntax bytes s.place) s

-- mathematics as a leaf
unfoldable pub math_put : List ℕ → Math → State → State
math_put bytes m s =
    let p = kept (bytes_between bytes m.start m.end) s in
    put_leaf (if m.display then leaf.DisplayMath (p.1) else leaf.InlineMath (p.1)) m.next (p.0)

-- mathematics, or a dollar sign that is a text
abbrev pub math_to : List ℕ → State → Option Math → State
math_to bytes s None = s
math_to bytes s (Some m) = math_put bytes m s

-- a dollar sign
unfoldable pub math_taken : List ℕ → List (Option ℕ) → State → State
math_taken bytes partners s = math_to bytes s (math_at bytes partners s.place)

-- the innermost bracket, if there is one, has another in it
abbrev pub marked_last : State → Option Bracket → State
marked_last s None = s
marked_last s (Some b) = record s { brackets = slice_set s.brackets (length s.brackets - 1) (record b { nested = true }) }

-- the innermost bracket has another in it
unfoldable pub marked : State → State
marked s = marked_last s (slice_get s.brackets (length s.brackets - 1))

-- a bracket up to where its text begins
abbrev pub opened_in : Bool → ℕ → State → State
opened_in image inner s =
    record s {
      brackets = s.brackets ++ record { start = s.place; inner = inner; runs = length s.runs; image = image; nested = false } ∷ [];
      resume = inner;
    }

-- an opening bracket of so many bytes
unfoldable pub opened : Bool → ℕ → State → State
opened image width s = let t = marked s in opened_in image (plus t.place width) t

-- an exclamation mark
unfoldable pub imaged : List ℕ → State → State
imaged bytes s = if starts_at bytes s.place (codes "![") then opened true 2 s else s

-- the address between its brackets is a link
abbrev pub addressed_to : ℕ → ℕ → State × ℕ → State
addressed_to last end (s, number) =
    record s { roles = slice_set (slice_set s.roles s.place (Open (Link number) end)) last (Close end); resume = end }

-- an address leads to itself
abbrev pub address_target : LinkType → Stretch → Target
address_target link_type d = record { link_type = link_type; destination = d; title = stretch 0 0; id = stretch 0 0 }

-- an address between angle brackets
unfoldable pub addressed : List ℕ → LinkType → ℕ → State → State
addressed bytes link_type end s =
    let p = kept (bytes_between bytes (plus s.place 1) (end - 1)) s in
    addressed_to (end - 1) end (targeted (address_target link_type (p.1)) (p.0))

-- raw HTML up to an end
unfoldable pub html_put : List ℕ → ℕ → State → State
html_put bytes end s = let p = kept (bytes_between bytes s.place end) s in put_leaf (Html (p.1)) end (p.0)

-- raw HTML, if there is some
abbrev pub tagged_to : List ℕ → State → Option ℕ → State
tagged_to bytes s None = s
tagged_to bytes s (Some end) = html_put bytes end s

-- an angle bracket that begins no address (CommonMark 6.6)
unfoldable pub tagged : List ℕ → LastEnds → State → State
tagged bytes ends s = tagged_to bytes s (raw_html bytes s.place ends)

-- a mail address, or else raw HTML
abbrev pub mailed_to : List ℕ → LastEnds → State → Option ℕ → State
mailed_to bytes ends s None = tagged bytes ends s
mailed_to bytes ends s (Some end) = addressed bytes Email end s

-- an angle bracket that begins no address with a scheme
unfoldable pub mailed : List ℕ → LastEnds → State → State
mailed bytes ends s = mailed_to bytes ends s (mail_end bytes s.place)

-- an address with a scheme, or else another construct
abbrev pub angled_to : List ℕ → LastEnds → State → Option ℕ → State
angled_to bytes ends s None = mailed bytes ends s
angled_to bytes ends s (Some end) = addressed bytes Autolink end s

-- an opening angle bracket (CommonMark 6.5)
unfoldable pub angled : List ℕ → LastEnds → State → State
angled bytes ends s = angled_to bytes ends s (uri_end bytes s.place)

-- a line feed: a hard break after two spaces, else a soft one (CommonMark 6.7 and 6.8)
unfoldable pub line_ended : List ℕ → State → State
line_ended bytes s =
    let first = iterated (before_space bytes) (length bytes) s.place in
    let end = plus s.place 1 in
    if nat_le 2 (s.place - first) then record s { roles = slice_set s.roles first (Single HardBreak end) }
    else record s { roles = slice_set (slice_set s.roles first Hidden) s.place (Single SoftBreak end) }

-- the text of a bracket becomes a link or an image up to an end
unfoldable pub spanned : Bracket → ℕ → ℕ → State → State
spanned b number end s = record s {
  roles = slice_set (slice_set (slice_set s.roles (b.inner - 1) Hidden) b.start (Open (if b.image then Image number else Link number) end)) s.place (Close end);
  resume = end;
}

-- the delimiters after so many runs are matched, and these runs forgotten
unfoldable pub settled : ℕ → State → State
settled count s = record s { roles = emphasized s.roles (drop count s.runs); runs = take count s.runs }

-- after a link no open bracket can begin another
abbrev pub deactivated : Bracket → State → State
deactivated b s = if not b.image then record s { inactive = length s.brackets } else s

-- the text of a bracket leads to a target
unfoldable pub linked : Bracket → Target → ℕ → State → State
linked b t end s = let p = targeted t (settled b.runs s) in deactivated b (spanned b (p.1) end (p.0))

-- a target in parentheses
abbrev pub inline_to : Stretch → Stretch → Target
inline_to d t = record { link_type = Inline; destination = d; title = t; id = stretch 0 0 }

-- the text of a bracket leads to a destination in parentheses
unfoldable pub closed_inline_in : Names → List ℕ → Bracket → InlineTarget → State → State
closed_inline_in names bytes b found s =
    let p = kept_resolved_in names (bytes_between bytes found.destination.start found.destination.end) s in
    let q = kept_resolved_in names (bytes_between bytes found.title.start found.title.end) (p.0) in
    linked b (inline_to (p.1) (q.1)) found.end (q.0)

-- a text is a label that was missed
abbrev pub with_missed : State × Stretch → State
with_missed (s, t) = record s { missed = s.missed ++ t ∷ [] }

-- a label is missing
unfoldable pub missing : List ℕ → State → State
missing label s = with_missed (kept (collapsed label) s)

-- what a label is defined as, with the label as it is written
abbrev pub label_target : Asked → Entry → Stretch → Target
label_target asked e id = record { link_type = asked.link_type; destination = e.destination; title = e.title; id = id }

-- a link by the definition, or a missing label
abbrev pub looked_up_as : List ℕ → Bracket → Asked → State → Option Entry → State
looked_up_as label b asked s None = missing label s
looked_up_as label b asked s (Some e) = let p = kept label s in linked b (label_target asked e (p.1)) asked.end (p.0)

-- the text of a bracket leads to what a label is defined as
unfoldable pub looked_up : List ℕ → (List ℕ → Option Entry) → Bracket → Asked → State → State
looked_up bytes definitions b asked s =
    let label = bytes_between bytes asked.label.start asked.label.end in
    looked_up_as label b asked s (definitions (key_of label))

-- the label that is to be looked up, if there is one
abbrev pub closed_asked : List ℕ → (List ℕ → Option Entry) → Bracket → State → Option Asked → State
closed_asked bytes definitions b s None = s
closed_asked bytes definitions b s (Some asked) = looked_up bytes definitions b asked s

-- a bracket without parentheses after it is closed
unfoldable pub closed_by_label : List ℕ → (List ℕ → Option Entry) → Bracket → State → State
closed_by_label bytes definitions b s = closed_asked bytes definitions b s (label_asked bytes b s.place)

-- a reference to a footnote in place of a bracket and its text; no bracket before it begins anything any more
unfoldable pub noted : Bracket → Stretch → State → State
noted b name s = record s {
  roles = slice_set s.roles (b.inner - 1) (Single (leaf.Footnote name) (plus s.place 1));
  runs = take b.runs s.runs;
  brackets = [];
  inactive = 0;
  resume = plus s.place 1;
}

-- a reference to a footnote that has a definition
abbrev pub note_found : Bracket → List ℕ → State → Option Entry → State
note_found b name s None = s
note_found b name s (Some e) = let p = kept (collapsed name) s in noted b (p.1) (p.0)

-- the label of a footnote
unfoldable pub note_looked_up : List ℕ → (List ℕ → Option Entry) → Bracket → Word → State → State
note_looked_up bytes definitions b w s =
    let name = bytes_between bytes w.start w.end in note_found b name s (definitions (note_key name))

-- the label of a link or of a footnote that is to be looked up, if there is one
abbrev pub closed_sought : List ℕ → (List ℕ → Option Entry) → Bracket → State → Option Sought → State
closed_sought bytes definitions b s None = s
closed_sought bytes definitions b s (Some (sought_as.Label asked)) = looked_up bytes definitions b asked s
closed_sought bytes definitions b s (Some (sought_as.Footnote w)) = note_looked_up bytes definitions b w s

-- a bracket without parentheses after it is closed, where footnotes are read
unfoldable pub closed_by_sought : List ℕ → (List ℕ → Option Entry) → Bracket → State → State
closed_by_sought bytes definitions b s = closed_sought bytes definitions b s (label_sought bytes b s.place)

-- a bracket without parentheses after it is closed by a label, which may be one of a footnote where these are read
abbrev pub closed_by_name : Bool → List ℕ → (List ℕ → Option Entry) → Bracket → State → State
closed_by_name notes bytes definitions b s = if notes then closed_by_sought bytes definitions b s else closed_by_label bytes definitions b s

-- parentheses, or else a label
abbrev pub closed_found_in : Names → Bool → List ℕ → (List ℕ → Option Entry) → Bracket → State → Option InlineTarget → State
closed_found_in names notes bytes definitions b s None = closed_by_name notes bytes definitions b s
closed_found_in names notes bytes definitions b s (Some found) = closed_inline_in names bytes b found s

-- a bracket that can begin a link, an image or a reference to a footnote is closed: parentheses first, then a label
unfoldable pub closed_active_in : Names → Bool → List ℕ → (List ℕ → Option Entry) → Bracket → State → State
closed_active_in names notes bytes definitions b s =
    closed_found_in names notes bytes definitions b s (inline_target bytes (plus s.place 1))

-- the innermost bracket is taken away; whether it can begin a link or an image
unfoldable pub popped : Bracket → State → State × Bool
popped b s =
    let height = length s.brackets - 1 in
    (record s { brackets = take height s.brackets; inactive = min s.inactive height }, b.image || nat_le s.inactive height)

-- a bracket that can begin something, or a text
abbrev pub closed_popped_in : Names → Bool → List ℕ → (List ℕ → Option Entry) → Bracket → State × Bool → State
closed_popped_in names notes bytes definitions b (s, active) =
    if active then closed_active_in names notes bytes definitions b s else s

-- the innermost bracket, if there is one, is closed
abbrev pub closed_last_in : Names → Bool → List ℕ → (List ℕ → Option Entry) → State → Option Bracket → State
closed_last_in names notes bytes definitions s None = s
closed_last_in names notes bytes definitions s (Some b) = closed_popped_in names notes bytes definitions b (popped b s)

-- a closing bracket (CommonMark 6.3), by the names that are known and by whether footnotes are read
unfoldable pub closed_in : Names → Bool → List ℕ → (List ℕ → Option Entry) → State → State
closed_in names notes bytes definitions s =
    closed_last_in names notes bytes definitions s (slice_get s.brackets (length s.brackets - 1))

-- the same in CommonMark
abbrev pub closed : List ℕ → (List ℕ → Option Entry) → State → State
closed = closed_in Four false

-- a byte that is no bracket
unfoldable pub looked_mark : List ℕ → List ℕ → ℕ → State → State
looked_mark bytes ticks b s =
    if b == 92 then escaped bytes s
    else (if b == 38 then referred bytes s
    else (if b == 10 then line_ended bytes s
    else (if b == 96 then coded bytes ticks s
    else (if (b == 42) || (b == 95) then run_taken bytes b s else s))))

-- the byte at the place
unfoldable pub looked : List ℕ → Known → (List ℕ → Option Entry) → ℕ → State → State
looked bytes ahead definitions b s =
    if b == 91 then opened false 1 s
    else (if b == 33 then imaged bytes s
    else (if b == 93 then closed bytes definitions s
    else (if b == 60 then angled bytes ahead.ends s
    else looked_mark bytes ahead.ticks b s)))

-- the byte at the place where all names are known: an ampersand, and a bracket with a destination and a title after it
unfoldable pub looked_all : List ℕ → Known → (List ℕ → Option Entry) → ℕ → State → State
looked_all bytes ahead definitions b s =
    if b == 38 then named_taken bytes s
    else (if b == 93 then closed_in All false bytes definitions s else looked bytes ahead definitions b s)

-- the byte at the place, by the names that are known
abbrev pub looked_by : Names → List ℕ → Known → (List ℕ → Option Entry) → ℕ → State → State
looked_by Four bytes ahead definitions b s = looked bytes ahead definitions b s
looked_by All bytes ahead definitions b s = looked_all bytes ahead definitions b s

-- a byte that can be more than one of a text
unfoldable pub is_mark : ℕ → Bool
is_mark b =
    (b == 91) || (b == 33) || (b == 93) || (b == 60) || (b == 96) || (b == 42) || (b == 95) || (b == 92) || (b == 38) || (b == 10)

-- the next place
abbrev pub next_place : State → State
next_place s = record s { place = plus s.place 1 }

-- the pass at another place
abbrev pub with_place : ℕ → State → State
with_place place s = record s { place = place }

-- a tilde is a mark where strikethrough or subscripts are read
unfoldable pub is_tilde_in : Syntax → ℕ → Bool
is_tilde_in syntax b = (syntax.strikethrough || syntax.subscript) && (b == 126)

-- a caret is a mark where superscripts are read
unfoldable pub is_caret_in : Syntax → ℕ → Bool
is_caret_in syntax b = syntax.superscript && (b == 94)

-- a dollar sign is a mark where mathematics is read
unfoldable pub is_dollar_in : Syntax → ℕ → Bool
is_dollar_in syntax b = syntax.math && (b == 36)

-- a byte that can be more than one of a text in some reading
unfoldable pub is_any_mark : ℕ → Bool
is_any_mark b = is_mark b || (b == 126) || (b == 94) || (b == 36)

-- a byte that is one of a text in each reading
abbrev pub is_quiet : ℕ → Bool
is_quiet b = not (is_any_mark b)

-- a byte that can be more than one of a text, in an extension or in CommonMark
unfoldable pub is_mark_in : Syntax → ℕ → Bool
is_mark_in syntax b = is_tilde_in syntax b || is_caret_in syntax b || is_dollar_in syntax b || is_mark b

-- a closing bracket is another mark where footnotes are read
unfoldable pub is_note_end_in : Syntax → ℕ → Bool
is_note_end_in syntax b = syntax.footnotes && (b == 93)

-- where the address ends that begins at a place
unfoldable pub address_end : List ℕ → ℕ → Option ℕ
address_end bytes place = option_or (uri_end bytes place) (mail_end bytes place)

-- where it ends, if it has a bar
unfoldable pub barred_end : List ℕ → ℕ → Option ℕ
barred_end bytes place =
    option_and_then (λ end. if list_any (λ b. b == 124) (bytes_between bytes place end) then Some end else None) (address_end bytes place)

-- a text up to a place is one leaf
abbrev pub text_put : ℕ → ℕ → State × Stretch → State
text_put first last (s, text) = record s { roles = slice_set s.roles first (Single (leaf.Text text) last) }

-- the text of an address is one leaf
unfoldable pub address_shown : List ℕ → ℕ → State → State
address_shown bytes end s = text_put (plus s.place 1) (end - 1) (kept (bytes_between bytes (plus s.place 1) (end - 1)) s)

-- an address with a bar, in front of which a backslash may have was
abbrev pub shown_to : List ℕ → State → Option ℕ → State
shown_to bytes s None = s
shown_to bytes s (Some end) = address_shown bytes end s

-- an opening angle bracket where tables are read
unfoldable pub angled_in : List ℕ → LastEnds → State → State
angled_in bytes ends s = angled bytes ends (shown_to bytes s (barred_end bytes s.place))

-- the byte at the place, in an extension or in CommonMark
unfoldable pub looked_in : Syntax → List ℕ → Known → (List ℕ → Option Entry) → ℕ → State → State
looked_in syntax bytes ahead definitions b s =
    if is_tilde_in syntax b then tildes_taken syntax bytes s
    else (if is_caret_in syntax b then run_taken bytes b s
    else (if is_dollar_in syntax b then math_taken bytes ahead.partners s
    else (if is_note_end_in syntax b then closed_in syntax.names true bytes definitions s
    else (if syntax.tables && (b == 60) then angled_in bytes ahead.ends s
    else looked_by syntax.names bytes ahead definitions b s))))

-- all names of character references are known
abbrev pub knows_all : Names → Bool
knows_all Four = false
knows_all All = true

-- some extension has a say in the inlines of a leaf
unfoldable pub extends_inlines : Syntax → Bool
extends_inlines syntax =
    syntax.strikethrough || syntax.subscript || syntax.superscript || syntax.math || syntax.footnotes || syntax.tables
    || knows_all syntax.names

-- one byte further
unfoldable pub scan_step_in : Syntax → List ℕ → Known → (List ℕ → Option Entry) → State → ℕ → State
scan_step_in syntax bytes ahead definitions s b =
    next_place (if is_mark_in syntax b && nat_le s.resume s.place then looked_in syntax bytes ahead definitions b s else s)

-- all bytes are read
abbrev pub ran_in : Syntax → List ℕ → Known → (List ℕ → Option Entry) → State → State
ran_in syntax bytes ahead definitions s = fold (scan_step_in syntax bytes ahead definitions) s bytes

-- all bytes of a text
unfoldable pub scanned_in : Syntax → List ℕ → (List ℕ → Option Entry) → State → State
scanned_in syntax bytes definitions s = settled 0 (ran_in syntax bytes (ahead_in syntax bytes) definitions s)

-- the same of CommonMark alone
abbrev pub scan_step : List ℕ → Known → (List ℕ → Option Entry) → State → ℕ → State
scan_step = scan_step_in CORE

abbrev pub ran : List ℕ → Known → (List ℕ → Option Entry) → State → State
ran = ran_in CORE

abbrev pub scanned : List ℕ → (List ℕ → Option Entry) → State → State
scanned = scanned_in CORE
