-- The blocks of front matter: one of metadata, with a piece for each line between its fences.
use Rattle.std.proofs.Common.{◌≡◌, ℕ, zero, suc, ◌+◌, ◌-◌, ◌^◌, ◌<◌, Bool, true, false, ◌==◌, ◌&&◌, if◌then◌else◌, nat_lt, List, [], ◌∷◌, ◌++◌, length, drop, refl, ap, sym, subst, ◌∙◌, arith, append_assoc, append-nil, length-append, None, Some}
use Rattle.std.proofs.Math.Seq.{take-length}
use Rattle.std.proofs.lemmas.Bool.Decides.{nat_tests}
use Rattle.std.specs.List.{AllByRecursion, fold}
use Rattle.tocmark_event.specs.declared.event.MetadataBlockKind.{MetadataBlockKind}
use Rattle.tocmark_event.specs.declared.event.MetadataBlockKind.TheVariants.{YamlStyle, PlusesStyle}
use Rattle.tocmark_read_scan.specs.Basic.{plus, byte_at, bytes_between, starts_at}
use Rattle.tocmark_read_scan.specs.declared.syntax.Syntax.{Syntax}
use Rattle.tocmark_read_scan.proofs.PlainContent.{byte_behind}
use Rattle.tocmark_read_scan.proofs.PlainPieces.{piece_between}
use Rattle.tocmark_read_scan.proofs.Repeats.{repeated_stop}
use Rattle.tocmark_read_tokens.specs.Footnotes.{note_label}
use Rattle.tocmark_read_lines.specs.Cells.{cells_of, cell_byte, cell_place, first_cursor}
use Rattle.tocmark_read_lines.specs.Containers.{container_at, container_in, item_at, raised_at}
use Rattle.tocmark_read_lines.specs.Lines.{ends_here, line_stop, lines_from, lines_of, line}
use Rattle.tocmark_read_lines.specs.Marks.{tail_of, is_rule, is_rule_byte, marker_at, bullet_at, ordered_at, is_behind}
use Rattle.tocmark_read_lines.specs.Footnotes.{note_at}
use Rattle.tocmark_read_lines.specs.declared.cell.Cell.{Cell}
use Rattle.tocmark_read_lines.specs.declared.line.Line.{Line}
use Rattle.tocmark_read_page.specs.Leaves.{is_paragraph, is_table}
use Rattle.tocmark_read_page.specs.Pages.{State, first_page, leaf_opened, leaf_closed, closed_to, times, list_left, begun, loosened, had_marked, list_of, is_apart, leaf_finished, finished, piece_taken}
use Rattle.tocmark_read_page.specs.Pieces.{piece_of, code_piece, is_split, keeps_line}
use Rattle.tocmark_read_page.specs.declared.leaf.Leaf.TheVariants as leaf
use Rattle.tocmark_read_page.specs.declared.line_start.Known.{Known}
use Rattle.tocmark_read_page.specs.declared.line_start.LineStart.{LineStart}
use Rattle.tocmark_read_page.specs.declared.page.BlockKind.TheVariants as kind
use Rattle.tocmark_read_page.specs.declared.page.HeaderLine.{HeaderLine}
use Rattle.tocmark_read_page.specs.declared.page.HeaderLine.TheVariants.{Never}
use Rattle.tocmark_read_page.specs.declared.piece.Piece.{Piece}
use Rattle.tocmark_read_constructs.specs.Metadata.{known_of, metadata_in, metadata_started, begins_metadata, opens_metadata, closes_metadata, is_triple, is_blank_line, ends_line, mark_of, has_dots, last_step, last_closing, is_front, is_outside}
use Rattle.tocmark_read_constructs.specs.Quotes.{is_first_line, tag_in}
use Rattle.tocmark_read_constructs.specs.Tables.{may_delimit, delimiters_taken}
use Rattle.tocmark_read_blocks.specs.Blocks.{BlocksView, blocks_in, page_in, start_or, leaf_started_in, started_in, started_at_in, tabled_in, tabled_as, noted, passed_in, turn_in, turn_of, touched, taken_at_in, turn_taken_in, cells_taken_in, line_taken_in, leaf_ended}
use Rattle.tocmark_read_blocks.specs.Codes.{code_taken, html_ended}
use Rattle.tocmark_read_blocks.specs.Containers.{container_once_in, containers_opened_in, goes_directly, begun_at}
use Rattle.tocmark_read_blocks.specs.Leaves.{leaf_at, leaf_turn, metadata_or, task_or, quote_kind_or, tag_or}
use Rattle.tocmark_read_blocks.specs.declared.leaf.LeafStart.{LeafStart}
use Rattle.tocmark_read_blocks.specs.declared.leaf.LeafStart.TheVariants as start
use Rattle.tocmark_read_blocks.specs.declared.leaf.Turn.TheVariants as turn
use Rattle.tocmark_read_blocks.proofs.PlainLines.{IsWithin, lines_within, cells_within, numbered}
use Rattle.tocmark_read_blocks.proofs.PlainSteps.{front, line_piece}
use Rattle.tocmark_read_blocks.proofs.PlainTexts.{line_list}
use Rattle.tocmark_laws.specs.Extensions.{lined, fence_of, has_metadata}
use Rattle.tocmark_laws.proofs.ExtensionBlocks.{never, here, no_definition, no_note, no_kind, no_task, passes, header_behind}

-- ---- the lines of a text

-- a line of a text: no byte of it ends a line or is a tab
pub record IsLineText (l : List ℕ) : Type 0 where
  pub some : 0 < length l
  pub within : AllByRecursion IsWithin l

no_return_at : (text : List ℕ) (k : ℕ) → AllByRecursion (λ b. (b == 13) ≡ false) text → (byte_at text k == 13) ≡ false
no_return_at [] k h = refl
no_return_at (b ∷ bs) zero h = h.0
no_return_at (b ∷ bs) (suc k) h = no_return_at bs k (h.1)

pub feed_ends : (text : List ℕ) (at : ℕ) → ends_here text 10 at ≡ true
unfolding ends_here
feed_ends text at = refl

pub feed_stop : (text : List ℕ) (start at : ℕ) → AllByRecursion (λ b. (b == 13) ≡ false) text → line_stop text start 10 at ≡ at
unfolding line_stop
feed_stop text start at h = by_start (nat_lt start at)
  where
    by_start : (c : Bool) → (if c && (byte_at text (at - 1) == 13) then at - 1 else at) ≡ at
    by_start true = rw (no_return_at text (at - 1) h) refl
    by_start false = refl

-- lines joined by line feeds are read as these lines
pub lines_split : (text : List ℕ) → AllByRecursion (λ b. (b == 13) ≡ false) text → (before start : ℕ) (l : List ℕ) (ms : List (List ℕ)) → AllByRecursion IsLineText (l ∷ ms) → lines_from text before start start (lined l ms) ≡ line_list before start l ms
lines_split text none before start l [] h =
    let some : nat_lt start (start + length l) ≡ true = let long : 0 < length l = (h.0).some in grind (arith, nat_tests) in
    ap (λ (xs : List ℕ). lines_from text before start start xs) (sym (append-nil l))
    ∙ lines_within text before start start l [] (h.0).within
    ∙ rw some refl
lines_split text none before start l (m ∷ ms) h =
    let at : ℕ = start + length l in
    lines_within text before start start l (10 ∷ lined m ms) (h.0).within
    ∙ rw (feed_ends text at, feed_stop text start at none) refl
    ∙ ap (λ ls. line before start at (at + 1) ∷ ls) (lines_split text none (before + 1) (at + 1) m ms (h.1))

-- ---- what closes metadata

drop_end : {A : Type 0} (xs : List A) → drop (length xs) xs ≡ []
drop_end [] = refl
drop_end (x ∷ xs) = drop_end xs

byte_past : (xs : List ℕ) (n : ℕ) → n ≡ length xs → byte_at xs n ≡ 10
byte_past xs n e = ap (byte_at xs) e ∙ none xs
  where
    none : (ys : List ℕ) → byte_at ys (length ys) ≡ 10
    none [] = refl
    none (y ∷ ys) = none ys

-- a fence is three times the same byte
abbrev thrice : ℕ → List ℕ
thrice b = b ∷ b ∷ b ∷ []

fence_is : (k : MetadataBlockKind) → fence_of k ≡ thrice (mark_of k)
unfolding mark_of
fence_is YamlStyle = refl
fence_is PlusesStyle = refl

same_byte : (b : ℕ) → (b == b) ≡ true
same_byte b = grind (arith, nat_tests)

-- at the end of a text three marks close metadata
fence_closes : (k : MetadataBlockKind) (pre : List ℕ) (n : ℕ) → n ≡ length pre → length (pre ++ thrice (mark_of k)) < 2 ^ 64 → closes_metadata k (pre ++ thrice (mark_of k)) n ≡ true
unfolding closes_metadata is_triple ends_line
fence_closes k pre n e fits =
    let b : ℕ = mark_of k in
    let text : List ℕ = pre ++ thrice b in
    let all : length text ≡ n + 3 = length-append pre (thrice b) ∙ ap (λ m. m + 3) (sym e) in
    let one : plus n 1 ≡ n + 1 = omega (arith, all, fits) in
    let two : plus n 2 ≡ n + 2 = omega (arith, all, fits) in
    let three : plus n 3 ≡ n + 3 = omega (arith, all, fits) in
    let first : byte_at text n ≡ b = byte_behind pre (b ∷ b ∷ []) b n e in
    let second : byte_at text (n + 1) ≡ b =
    ap (λ (xs : List ℕ). byte_at xs (n + 1)) (sym (append_assoc pre (b ∷ []) (b ∷ b ∷ [])))
    ∙ byte_behind (pre ++ b ∷ []) (b ∷ []) b (n + 1) (ap (λ m. m + 1) e ∙ sym (length-append pre (b ∷ [])))
    in
    let third : byte_at text (n + 2) ≡ b =
    ap (λ (xs : List ℕ). byte_at xs (n + 2)) (sym (append_assoc pre (b ∷ b ∷ []) (b ∷ [])))
    ∙ byte_behind (pre ++ b ∷ b ∷ []) [] b (n + 2) (ap (λ m. m + 2) e ∙ sym (length-append pre (b ∷ b ∷ [])))
    in
    let left : drop (n + 3) text ≡ [] = ap (λ m. drop m text) (sym all) ∙ drop_end text in
    let past : byte_at text (n + 3) ≡ 10 = byte_past text (n + 3) (sym all) in
    let still : plus (n + 3) 0 ≡ n + 3 = omega (arith, all, fits) in
    rw (one, two, three, first, second, third, same_byte b, left, still, past) refl

-- the first byte of a line that neither closes metadata nor is blank
pub record IsInside (b : ℕ) : Type 0 where
  pub space : (b == 32) ≡ false
  pub tab : (b == 9) ≡ false
  pub feed : (b == 10) ≡ false
  pub return : (b == 13) ≡ false
  pub dash : (b == 45) ≡ false
  pub cross : (b == 43) ≡ false
  pub dot : (b == 46) ≡ false

inside_open : (k : MetadataBlockKind) (text : List ℕ) (at b : ℕ) → byte_at text at ≡ b → IsInside b → closes_metadata k text at ≡ false
unfolding closes_metadata is_triple mark_of has_dots
inside_open YamlStyle text at b e h = rw (e, h.dash, h.dot) refl
inside_open PlusesStyle text at b e h = rw (e, h.cross) refl

-- a line between fences
abbrev pub IsFieldText : List ℕ → Type 0
IsFieldText [] = ⊥
IsFieldText (b ∷ bs) = IsInside b × AllByRecursion IsWithin (b ∷ bs)

some_field : (l : List ℕ) → IsFieldText l → 0 < length l
some_field [] h = absurd h
some_field (b ∷ bs) h = omega arith

within_field : (l : List ℕ) → IsFieldText l → AllByRecursion IsWithin l
within_field [] h = absurd h
within_field (b ∷ bs) h = h.1

field_open : (k : MetadataBlockKind) (text pre l rest : List ℕ) (start : ℕ) → text ≡ pre ++ (l ++ rest) → start ≡ length pre → IsFieldText l → closes_metadata k text start ≡ false
field_open k text pre [] rest start e at h = absurd h
field_open k text pre (b ∷ bs) rest start e at h =
    inside_open k text start b (ap (λ (xs : List ℕ). byte_at xs start) e ∙ byte_behind pre (bs ++ rest) b start at) (h.0)

-- ---- pages

-- open metadata at the top, with these lines
abbrev pub metadata_page : MetadataBlockKind → HeaderLine → List Piece → ℕ → ℕ → State
metadata_page k header pieces end number = record {
  blocks = record { depth = 0; kind = kind.Metadata k; start = 0; end = 0; first = 0; last = 0; loose = false; list = None; task = None } ∷ [];
  pieces = pieces;
  definitions = [];
  opened = [];
  quotes = [];
  leaf = leaf.Metadata k;
  end = end;
  line = number;
  kept = length pieces;
  header = header;
  tried = 0;
  left = None;
  filled = 0;
}

-- metadata that has ended
abbrev pub metadata_ended : MetadataBlockKind → HeaderLine → List Piece → ℕ → ℕ → State
metadata_ended k header pieces end number = record (metadata_page k header pieces end number) {
  blocks = record { depth = 0; kind = kind.Metadata k; start = 0; end = end; first = 0; last = length pieces; loose = false; list = None; task = None } ∷ [];
  leaf = leaf.Nothing;
}

abbrev at_front : List Cell → LineStart
at_front cells = record { cursor = first_cursor cells; depth = 0 }

inner_turn : (known : Known) (k : MetadataBlockKind) (header : HeaderLine) (text : List ℕ) (cells : List Cell) (l : Line) (pieces : List Piece) (end number : ℕ) → closes_metadata k text l.start ≡ false → turn_in known text cells l (at_front cells) (metadata_page k header pieces end number) ≡ turn.Takes 0
unfolding turn_in turn_of is_table leaf_turn first_cursor
inner_turn known k header text cells l pieces end number h = rw (never, h) refl

last_turn : (known : Known) (k : MetadataBlockKind) (header : HeaderLine) (text : List ℕ) (cells : List Cell) (l : Line) (pieces : List Piece) (end number : ℕ) → closes_metadata k text l.start ≡ true → turn_in known text cells l (at_front cells) (metadata_page k header pieces end number) ≡ turn.Closes
unfolding turn_in turn_of is_table leaf_turn
last_turn known k header text cells l pieces end number h = rw (never, h) refl

inner_code : (k : MetadataBlockKind) (header : HeaderLine) (text : List ℕ) (cells : List Cell) (l : Line) (pieces : List Piece) (end number : ℕ) → cell_place cells 0 l.end ≡ l.start → nat_lt l.start l.next ≡ true → code_taken text cells 0 l (metadata_page k header pieces end number) ≡ metadata_page k header (pieces ++ line_piece l ∷ []) l.end l.number
unfolding code_taken code_piece is_split html_ended keeps_line piece_taken
inner_code k header text cells l pieces end number p h = rw (p, h) refl

-- a line between the fences is taken
inner_line : (known : Known) (k : MetadataBlockKind) (header : HeaderLine) (text : List ℕ) (cells : List Cell) (l : Line) (pieces : List Piece) (end number : ℕ) → cells_of [] l.start (bytes_between text l.start l.end) ≡ cells → cell_place cells 0 l.end ≡ l.start → nat_lt l.start l.next ≡ true → closes_metadata k text l.start ≡ false → line_taken_in known text (metadata_page k header pieces end number) l ≡ metadata_page k header (pieces ++ line_piece l ∷ []) l.end l.number
unfolding line_taken_in cells_taken_in touched
inner_line known k header text cells l pieces end number columns place order inside =
    let s : State = metadata_page k header pieces end number in
    ap (λ c. cells_taken_in known text c l s) columns
    ∙ ap (λ t. turn_taken_in known t text cells l (at_front cells) s) (inner_turn known k header text cells l pieces end number inside)
    ∙ inner_code k header text cells l pieces end number place order

ended_page : (k : MetadataBlockKind) (header : HeaderLine) (pieces : List Piece) (end number : ℕ) (l : Line) → leaf_ended l (metadata_page k header pieces end number) ≡ metadata_ended k header pieces l.end l.number
unfolding leaf_ended leaf_finished finished raised_at
ended_page k header pieces end number l = rw (take-length pieces) refl

-- the fence after them ends the metadata
last_line : (known : Known) (k : MetadataBlockKind) (header : HeaderLine) (text : List ℕ) (l : Line) (pieces : List Piece) (end number : ℕ) → closes_metadata k text l.start ≡ true → line_taken_in known text (metadata_page k header pieces end number) l ≡ metadata_ended k header pieces l.end l.number
unfolding line_taken_in cells_taken_in touched
last_line known k header text l pieces end number closes =
    let cells : List Cell = cells_of [] l.start (bytes_between text l.start l.end) in
    let s : State = metadata_page k header pieces end number in
    ap (λ t. turn_taken_in known t text cells l (at_front cells) s) (last_turn known k header text cells l pieces end number closes)
    ∙ ended_page k header pieces end number l

-- ---- the lines between the fences

-- the pieces of lines with a line feed after each
abbrev pub field_pieces : ℕ → List ℕ → List (List ℕ) → List Piece
field_pieces start l [] = piece_of 0 start (start + length l) (start + length l + 1) ∷ []
field_pieces start l (m ∷ ms) = piece_of 0 start (start + length l) (start + length l + 1) ∷ field_pieces (start + length l + 1) m ms

-- the lines and the fence after them
abbrev fenced : MetadataBlockKind → List ℕ → List (List ℕ) → List ℕ
fenced k l ms = lined l (ms ++ fence_of k ∷ [])

pub fenced_is : (k : MetadataBlockKind) (l : List ℕ) (ms : List (List ℕ)) → fenced k l ms ≡ lined l ms ++ 10 ∷ fence_of k
fenced_is k l [] = refl
fenced_is k l (m ∷ ms) = ap (λ (xs : List ℕ). l ++ 10 ∷ xs) (fenced_is k m ms) ∙ sym (append_assoc l (10 ∷ lined m ms) (10 ∷ fence_of k))

first_place_of : (l : List ℕ) (start end : ℕ) → 0 < length l → cell_place (numbered start l) 0 end ≡ start
first_place_of [] start end h = absurd (omega arith)
first_place_of (b ∷ bs) start end h = refl

field_line : (known : Known) (k : MetadataBlockKind) (header : HeaderLine) (text pre l rest : List ℕ) (before start : ℕ) (pieces : List Piece) (end number : ℕ) → text ≡ pre ++ (l ++ rest) → start ≡ length pre → IsFieldText l → length text < 2 ^ 64 → line_taken_in known text (metadata_page k header pieces end number) (line before start (start + length l) (start + length l + 1)) ≡ metadata_page k header (pieces ++ piece_of 0 start (start + length l) (start + length l + 1) ∷ []) (start + length l) (plus before 1)
field_line known k header text pre l rest before start pieces end number e at h fits =
    let all : length text ≡ start + (length l + length rest) = ap length e ∙ length-append pre (l ++ rest) ∙ ap (λ n. length pre + n) (length-append l rest) ∙ ap (λ n. n + (length l + length rest)) (sym at) in
    let stands : bytes_between text start (start + length l) ≡ l = piece_between text pre l rest start (start + length l) e at (ap (λ n. n + length l) at) in
    inner_line known k header text (numbered start l) (line before start (start + length l) (start + length l + 1)) pieces end number
    (ap (cells_of [] start) stands ∙ cells_within start l (within_field l h) (omega (arith, all, fits)))
    (first_place_of l start (start + length l) (some_field l h))
    (grind (arith, nat_tests))
    (field_open k text pre l rest start e at h)

-- where the fence after the lines is, and that it closes
closing_here : (k : MetadataBlockKind) (text pre : List ℕ) (n : ℕ) → text ≡ pre ++ fence_of k → n ≡ length pre → length text < 2 ^ 64 → closes_metadata k text n ≡ true
closing_here k text pre n e at fits =
    let same : text ≡ pre ++ thrice (mark_of k) = e ∙ ap (λ (xs : List ℕ). pre ++ xs) (fence_is k) in
    ap (λ (xs : List ℕ). closes_metadata k xs n) same ∙ fence_closes k pre n at (subst (λ (xs : List ℕ). length xs < 2 ^ 64) same fits)

pub three_bytes : (k : MetadataBlockKind) → length (fence_of k) ≡ 3
three_bytes YamlStyle = refl
three_bytes PlusesStyle = refl

-- after a line and its line feed
moved_on : (text pre l more : List ℕ) → text ≡ pre ++ (l ++ 10 ∷ more) → text ≡ (pre ++ (l ++ 10 ∷ [])) ++ more
moved_on text pre l more e = e ∙ ap (λ (xs : List ℕ). pre ++ xs) (sym (append_assoc l (10 ∷ []) more)) ∙ sym (append_assoc pre (l ++ 10 ∷ []) more)

moved_place : (pre l : List ℕ) (start : ℕ) → start ≡ length pre → start + length l + 1 ≡ length (pre ++ (l ++ 10 ∷ []))
moved_place pre l start at = ap (λ n. n + length l + 1) at ∙ (let q : length pre + length l + 1 ≡ length (pre ++ (l ++ 10 ∷ [])) = grind (arith, length-append) in q)

fields_taken : (known : Known) (k : MetadataBlockKind) (header : HeaderLine) (text pre : List ℕ) (before start : ℕ) (l : List ℕ) (ms : List (List ℕ)) (pieces : List Piece) (end number : ℕ) → text ≡ pre ++ fenced k l ms → start ≡ length pre → AllByRecursion IsFieldText (l ∷ ms) → length text < 2 ^ 64 → (last : ℕ) × (fold (line_taken_in known text) (metadata_page k header pieces end number) (line_list before start l (ms ++ fence_of k ∷ [])) ≡ metadata_ended k header (pieces ++ field_pieces start l ms) (length text) last)
fields_taken known k header text pre before start l [] pieces end number e at h fits =
    let next : ℕ = start + length l + 1 in
    let ps : List Piece = pieces ++ field_pieces start l [] in
    let there : text ≡ (pre ++ (l ++ 10 ∷ [])) ++ fence_of k = moved_on text pre l (fence_of k) e in
    let longer : next ≡ length (pre ++ (l ++ 10 ∷ [])) = moved_place pre l start at in
    let all : next + length (fence_of k) ≡ length text = sym (ap length there ∙ length-append (pre ++ (l ++ 10 ∷ [])) (fence_of k) ∙ ap (λ n. n + length (fence_of k)) (sym longer)) in
    let last : Line = line (before + 1) next (next + length (fence_of k)) (next + length (fence_of k)) in (
      last.number,
      ap (λ s. line_taken_in known text s last) (field_line known k header text pre l (10 ∷ fence_of k) before start pieces end number e at (h.0) fits)
          ∙ last_line known k header text last ps (start + length l) (plus before 1) (closing_here k text (pre ++ (l ++ 10 ∷ [])) next there longer fits)
          ∙ ap (λ n. metadata_ended k header ps n last.number) all,
    )
fields_taken known k header text pre before start l (m ∷ ms) pieces end number e at h fits =
    let next : ℕ = start + length l + 1 in
    let p : Piece = piece_of 0 start (start + length l) next in
    let there : text ≡ (pre ++ (l ++ 10 ∷ [])) ++ fenced k m ms = moved_on text pre l (fenced k m ms) e in
    let more = fields_taken known k header text (pre ++ (l ++ 10 ∷ [])) (before + 1) next m ms (pieces ++ p ∷ []) (start + length l) (plus before 1) there (moved_place pre l start at) (h.1) fits in (
      more.0,
      ap (λ s. fold (line_taken_in known text) s (line_list (before + 1) next m (ms ++ fence_of k ∷ []))) (field_line known k header text pre l (10 ∷ fenced k m ms) before start pieces end number e at (h.0) fits)
          ∙ more.1
          ∙ ap (λ (ps : List Piece). metadata_ended k header ps (length text) (more.0)) (append_assoc pieces (p ∷ []) (field_pieces next m ms)),
    )

-- the last line that closes metadata is below the first one
closing_number : (k : MetadataBlockKind) (text pre : List ℕ) (before start found : ℕ) (l : List ℕ) (ms : List (List ℕ)) → text ≡ pre ++ fenced k l ms → start ≡ length pre → 0 < before → length text < 2 ^ 64 → (last : ℕ) × (1 < last) × (fold (last_step k text) found (line_list before start l (ms ++ fence_of k ∷ [])) ≡ last)
unfolding last_step
closing_number k text pre before start found l [] e at some fits =
    let next : ℕ = start + length l + 1 in
    let there : text ≡ (pre ++ (l ++ 10 ∷ [])) ++ fence_of k = moved_on text pre l (fence_of k) e in
    (plus (before + 1) 1, omega (arith, some), rw (closing_here k text (pre ++ (l ++ 10 ∷ [])) next there (moved_place pre l start at) fits) refl)
closing_number k text pre before start found l (m ∷ ms) e at some fits =
    let next : ℕ = start + length l + 1 in
    closing_number k text (pre ++ (l ++ 10 ∷ [])) (before + 1) next (last_step k text found (line before start (start + length l) next)) m ms (moved_on text pre l (fenced k m ms) e) (moved_place pre l start at) (omega arith) fits

-- ---- the fence in front

abbrev first : Line
first = line 0 0 3 4

abbrev fence_cells : MetadataBlockKind → List Cell
fence_cells k = numbered 0 (fence_of k)

no_container_at : (k : MetadataBlockKind) (within : Bool) → container_at (fence_cells k) (tail_of (fence_cells k)) front within ≡ None
unfolding container_at is_rule tail_of is_rule_byte item_at marker_at bullet_at ordered_at is_behind
no_container_at YamlStyle within = refl
no_container_at PlusesStyle within = refl

no_note_at : (k : MetadataBlockKind) → note_at (fence_cells k) 0 ≡ None
unfolding note_at note_label starts_at
no_note_at YamlStyle = refl
no_note_at PlusesStyle = refl

no_colon : (k : MetadataBlockKind) → (cell_byte (fence_cells k) 0 == 58) ≡ false
no_colon YamlStyle = refl
no_colon PlusesStyle = refl

no_container : (k : MetadataBlockKind) (syntax : Syntax) (within : Bool) → container_in syntax (fence_cells k) (tail_of (fence_cells k)) front within ≡ None
unfolding container_in
no_container k syntax within = rw (no_definition syntax (fence_cells k) (no_colon k), no_note syntax (fence_cells k) (no_note_at k), no_container_at k within) refl

some_cells : (k : MetadataBlockKind) → 0 < length (fence_cells k)
some_cells YamlStyle = omega arith
some_cells PlusesStyle = omega arith

opens_none : (k : MetadataBlockKind) (syntax : Syntax) (text : List ℕ) (s : State) → containers_opened_in syntax text (fence_cells k) first (tail_of (fence_cells k)) here s ≡ (s, here)
unfolding container_once_in
opens_none k syntax text s =
    repeated_stop (container_once_in syntax text (fence_cells k) first (tail_of (fence_cells k))) (length (fence_cells k)) here s s (some_cells k)
    (sym (ap (begun_at text (fence_cells k) first here s) (no_container k syntax (goes_directly 0 s))))

-- a text that begins with a fence and a line
abbrev begun_with : MetadataBlockKind → ℕ → List ℕ → List ℕ
begun_with k b rest = fence_of k ++ 10 ∷ b ∷ rest

opens_here : (k : MetadataBlockKind) (b : ℕ) (rest : List ℕ) → opens_metadata k (begun_with k b rest) 0 ≡ true
unfolding opens_metadata is_triple mark_of is_blank_line ends_line
opens_here YamlStyle b rest = refl
opens_here PlusesStyle b rest = refl

not_blank : (k : MetadataBlockKind) (b : ℕ) (rest : List ℕ) → IsInside b → is_blank_line (begun_with k b rest) 4 ≡ false
unfolding is_blank_line ends_line
not_blank YamlStyle b rest h = rw (h.space, h.tab, h.feed, h.return) refl
not_blank PlusesStyle b rest h = rw (h.space, h.tab, h.feed, h.return) refl

fourth : (k : MetadataBlockKind) (b : ℕ) (rest : List ℕ) → byte_at (begun_with k b rest) 4 ≡ b
fourth YamlStyle b rest = refl
fourth PlusesStyle b rest = refl

begins_here : (k : MetadataBlockKind) (end b : ℕ) (rest : List ℕ) → IsInside b → 1 < end → begins_metadata k end (begun_with k b rest) first ≡ true
unfolding begins_metadata
begins_here k end b rest h long =
    let yes : nat_lt first.number end ≡ true = grind (arith, nat_tests) in
    rw (yes, opens_here k b rest, not_blank k b rest h, inside_open k (begun_with k b rest) 4 b (fourth k b rest) h) refl

no_dashes : (end b : ℕ) (rest : List ℕ) → begins_metadata YamlStyle end (begun_with PlusesStyle b rest) first ≡ false
unfolding begins_metadata opens_metadata is_triple mark_of
no_dashes end b rest = rw never refl

-- the number of the line that is known to close such metadata
abbrev end_in : MetadataBlockKind → Known → ℕ
end_in YamlStyle known = known.yaml_end
end_in PlusesStyle known = known.pluses_end

metadata_found : (known : Known) (k : MetadataBlockKind) (b : ℕ) (rest : List ℕ) → has_metadata k known.syntax ≡ true → 1 < end_in k known → IsInside b → metadata_in known (begun_with k b rest) (fence_cells k) first here false first_page ≡ Some k
unfolding metadata_in is_front is_outside is_paragraph
metadata_found known YamlStyle b rest has long h = rw (has, begins_here YamlStyle known.yaml_end b rest h long) refl
metadata_found known PlusesStyle b rest has long h = rw (no_dashes known.yaml_end b rest, never, has, begins_here PlusesStyle known.pluses_end b rest h long) refl

no_tag : (known : Known) (k : MetadataBlockKind) (text : List ℕ) → tag_in known text (fence_cells k) first here false first_page ≡ false
unfolding tag_in is_first_line
no_tag known k text = rw (never, never) refl

fence_begins : (known : Known) (k : MetadataBlockKind) (b : ℕ) (rest : List ℕ) (core : LeafStart) → has_metadata k known.syntax ≡ true → 1 < end_in k known → IsInside b → start_or known (begun_with k b rest) (fence_cells k) first here false first_page core ≡ start.Metadata k
unfolding quote_kind_or tag_or task_or metadata_or
fence_begins known k b rest core has long h =
    let text : List ℕ = begun_with k b rest in
    let cells : List Cell = fence_cells k in
    rw (no_kind known text cells first first_page refl, no_tag known k text, no_task known text cells first first_page refl, metadata_found known k b rest has long h) refl

fence_started : (k : MetadataBlockKind) (text : List ℕ) → metadata_started text (fence_cells k) first here k first_page ≡ metadata_page k Never [] 3 first.number
unfolding metadata_started leaf_opened closed_to leaf_closed times list_left begun loosened had_marked list_of is_apart
fence_started YamlStyle text = refl
fence_started PlusesStyle text = refl

fence_opens : (known : Known) (k : MetadataBlockKind) (b : ℕ) (rest : List ℕ) → has_metadata k known.syntax ≡ true → 1 < end_in k known → IsInside b → leaf_started_in known (begun_with k b rest) (fence_cells k) first here first_page ≡ metadata_page k Never [] 3 first.number
unfolding leaf_started_in started_in goes_directly is_paragraph
fence_opens known k b rest has long h =
    let text : List ℕ = begun_with k b rest in
    let cells : List Cell = fence_cells k in
    let core : LeafStart = leaf_at cells (bytes_between text (cell_place cells 0 3) 3) (tail_of cells) front false false in
    ap (started_at_in known text cells first (tail_of cells)) (opens_none k known.syntax text first_page)
    ∙ ap (λ x. started_in known x text cells first (tail_of cells) here first_page) (fence_begins known k b rest core has long h)
    ∙ fence_started k text

no_row : (k : MetadataBlockKind) (text : List ℕ) → delimiters_taken text (fence_cells k) first front (goes_directly 0 first_page) first_page ≡ (first_page, false)
unfolding delimiters_taken may_delimit goes_directly is_paragraph
no_row k text = refl

fence_passed : (known : Known) (k : MetadataBlockKind) (b : ℕ) (rest : List ℕ) → has_metadata k known.syntax ≡ true → 1 < end_in k known → IsInside b → passed_in known (begun_with k b rest) (fence_cells k) first here first_page ≡ metadata_page k (header_behind known.syntax.tables (fence_cells k) Never) [] 3 first.number
unfolding passed_in tabled_in
fence_passed known k b rest has long h = by_tables known.syntax.tables
  where
    text : List ℕ
    text = begun_with k b rest

    cells : List Cell
    cells = fence_cells k

    opens : leaf_started_in known text cells first here first_page ≡ metadata_page k Never [] 3 first.number
    opens = fence_opens known k b rest has long h

    by_tables : (t : Bool) → (if t then tabled_as known text cells first here (delimiters_taken text cells first front (goes_directly 0 first_page) first_page) else leaf_started_in known text cells first here first_page) ≡ metadata_page k (header_behind t cells Never) [] 3 first.number
    by_tables true = ap (tabled_as known text cells first here) (no_row k text) ∙ ap (noted cells here first_page) opens
    by_tables false = opens

no_space : (k : MetadataBlockKind) → first_cursor (fence_cells k) ≡ front
unfolding first_cursor
no_space YamlStyle = refl
no_space PlusesStyle = refl

within_fence : (k : MetadataBlockKind) → AllByRecursion IsWithin (fence_of k)
within_fence YamlStyle = let one : IsWithin 45 = record { feed = refl; return = refl; tab = refl } in (one, (one, (one, tt)))
within_fence PlusesStyle = let one : IsWithin 43 = record { feed = refl; return = refl; tab = refl } in (one, (one, (one, tt)))

fence_columns : (k : MetadataBlockKind) (b : ℕ) (rest : List ℕ) → cells_of [] 0 (bytes_between (begun_with k b rest) 0 3) ≡ fence_cells k
fence_columns k b rest =
    ap (cells_of [] 0) (piece_between (begun_with k b rest) [] (fence_of k) (10 ∷ b ∷ rest) 0 3 refl refl (let n : length (fence_of k) ≡ 3 = three_bytes k in omega (arith, n)))
    ∙ cells_within 0 (fence_of k) (within_fence k) (let n : length (fence_of k) ≡ 3 = three_bytes k in omega (arith, n))

-- the fence in front begins metadata
fence_line : (known : Known) (k : MetadataBlockKind) (b : ℕ) (rest : List ℕ) → has_metadata k known.syntax ≡ true → 1 < end_in k known → IsInside b → line_taken_in known (begun_with k b rest) first_page first ≡ metadata_page k (header_behind known.syntax.tables (fence_cells k) Never) [] 3 first.number
unfolding line_taken_in cells_taken_in touched leaf_turn is_table
fence_line known k b rest has long h =
    let text : List ℕ = begun_with k b rest in
    ap (λ c. cells_taken_in known text c first first_page) (fence_columns k b rest)
    ∙ ap (λ c. taken_at_in known text (fence_cells k) first (record { cursor = c; depth = 0 }) first_page) (no_space k)
    ∙ ap (λ t. turn_taken_in known t text (fence_cells k) first here first_page) (passes known text (fence_cells k) first first_page refl refl refl)
    ∙ fence_passed known k b rest has long h

-- ---- the whole

end_known : (k : MetadataBlockKind) (syntax : Syntax) (text : List ℕ) (lines : List Line) → has_metadata k syntax ≡ true → end_in k (known_of syntax text lines) ≡ last_closing k text lines
unfolding known_of
end_known YamlStyle syntax text lines has = rw has refl
end_known PlusesStyle syntax text lines has = rw has refl

has_known : (k : MetadataBlockKind) (syntax : Syntax) (text : List ℕ) (lines : List Line) → has_metadata k syntax ≡ true → has_metadata k (known_of syntax text lines).syntax ≡ true
unfolding known_of
has_known k syntax text lines has = has

-- lines begin with the first byte of the first one
lined_front : (b : ℕ) (bs : List ℕ) (ms : List (List ℕ)) → (rest : List ℕ) × (lined (b ∷ bs) ms ≡ b ∷ rest)
lined_front b bs [] = (bs, refl)
lined_front b bs (m ∷ ms) = (bs ++ 10 ∷ lined m ms, refl)

-- metadata with these pieces
abbrev pub metadata_block : MetadataBlockKind → ℕ → List Piece → BlocksView
metadata_block k end pieces = record {
  blocks = record { depth = 0; kind = kind.Metadata k; start = 0; end = end; first = 0; last = length pieces; loose = false; list = None; task = None } ∷ [];
  pieces = pieces;
  definitions = [];
}

metadata_view : (k : MetadataBlockKind) (header : HeaderLine) (text : List ℕ) (pieces : List Piece) (end number : ℕ) → closed_to text 0 (metadata_ended k header pieces end number) ≡ metadata_ended k header pieces end number
unfolding closed_to leaf_closed times
metadata_view k header text pieces end number = refl

lines_text : (ls : List (List ℕ)) → AllByRecursion IsFieldText ls → AllByRecursion IsLineText ls
lines_text [] h = tt
lines_text (l ∷ ls) h = (record { some = some_field l (h.0); within = within_field l (h.0) }, lines_text ls (h.1))

lines_behind : (k : MetadataBlockKind) (ls : List (List ℕ)) → AllByRecursion IsFieldText ls → AllByRecursion IsLineText (ls ++ fence_of k ∷ [])
lines_behind k [] h = (record { some = let n : length (fence_of k) ≡ 3 = three_bytes k in omega (arith, n); within = within_fence k }, tt)
lines_behind k (l ∷ ls) h = (record { some = some_field l (h.0); within = within_field l (h.0) }, lines_behind k ls (h.1))

-- the blocks of front matter
pub front_matter_blocks : (syntax : Syntax) (k : MetadataBlockKind) (l : List ℕ) (ms : List (List ℕ)) → has_metadata k syntax ≡ true → AllByRecursion IsFieldText (l ∷ ms) → AllByRecursion (λ b. (b == 13) ≡ false) (lined (fence_of k) (l ∷ (ms ++ fence_of k ∷ []))) → length (lined (fence_of k) (l ∷ (ms ++ fence_of k ∷ []))) < 2 ^ 64 → blocks_in syntax (lined (fence_of k) (l ∷ (ms ++ fence_of k ∷ []))) ≡ metadata_block k (length (lined (fence_of k) (l ∷ (ms ++ fence_of k ∷ [])))) (field_pieces 4 l ms)
unfolding blocks_in page_in
front_matter_blocks syntax k [] ms has h returns fits = absurd (h.0)
front_matter_blocks syntax k (b ∷ bs) ms has h returns fits =
    let l : List ℕ = b ∷ bs in
    let more : List (List ℕ) = ms ++ fence_of k ∷ [] in
    let text : List ℕ = lined (fence_of k) (l ∷ more) in
    let lines : List Line = first ∷ line_list 1 4 l more in
    let known : Known = known_of syntax text lines in
    let view : State → BlocksView = λ s. record { blocks = s.blocks; pieces = s.pieces; definitions = s.definitions } in
    let split : lines_of text ≡ lines =
    lines_split text returns 0 0 (fence_of k) (l ∷ more) (record { some = let n : length (fence_of k) ≡ 3 = three_bytes k in omega (arith, n); within = within_fence k }, lines_behind k (l ∷ ms) h)
    ∙ ap (λ n. line 0 0 (0 + n) (0 + n + 1) ∷ line_list 1 (0 + n + 1) l more) (three_bytes k)
    in
    let front_bytes : List ℕ = fence_of k ++ 10 ∷ [] in
    let stands : text ≡ front_bytes ++ fenced k l ms = sym (append_assoc (fence_of k) (10 ∷ []) (fenced k l ms)) in
    let at : 4 ≡ length front_bytes = sym (length-append (fence_of k) (10 ∷ []) ∙ ap (λ n. n + 1) (three_bytes k)) in
    let closing = closing_number k text front_bytes 1 4 (last_step k text 0 first) l ms stands at (omega arith) fits in
    let last : end_in k known ≡ closing.0 = end_known k syntax text lines has ∙ closing.2 in
    let least : 1 < closing.0 = closing.1 in
    let long : 1 < end_in k known = omega (arith, last, least) in
    let header : HeaderLine = header_behind known.syntax.tables (fence_cells k) Never in
    let began = lined_front b bs more in
    let fronted : text ≡ begun_with k b (began.0) = ap (λ (xs : List ℕ). fence_of k ++ 10 ∷ xs) (began.1) in
    let taken = fields_taken known k header text front_bytes 1 4 l ms [] 3 first.number stands at h fits in
    ap (λ ls. view (closed_to text 0 (fold (line_taken_in (known_of syntax text ls) text) first_page ls))) split
    ∙ ap (λ s. view (closed_to text 0 (fold (line_taken_in known text) s (line_list 1 4 l more)))) (
    subst (λ (xs : List ℕ). line_taken_in known xs first_page first ≡ metadata_page k header [] 3 first.number) (sym fronted)
    (fence_line known k b (began.0) (has_known k syntax text lines has) long (h.0.0))
    )
    ∙ ap (λ s. view (closed_to text 0 s)) (taken.1)
    ∙ ap view (metadata_view k header text (field_pieces 4 l ms) (length text) (taken.0))
