-- A phrase between tildes, or between carets, is read as a subscript or a superscript.
use Rattle.std.proofs.Common.{◌≡◌, ℕ, zero, suc, ◌+◌, ◌-◌, ◌^◌, ◌<◌, ◌≤◌, Bool, true, false, ◌==◌, ◌||◌, nat_lt, nat_le, List, [], ◌∷◌, ◌++◌, length, map, drop, replicate, slice_get, slice_set, refl, ap, sym, ◌∙◌, arith, append_assoc, length-append, Option, None, Some, true≢false}
use Rattle.std.proofs.lemmas.Bool.Decides.{nat_tests}
use Rattle.std.proofs.lemmas.List.Sums.{fold-append}
use Rattle.std.specs.Char.{is_ascii_alphanumeric}
use Rattle.std.specs.List.{AllByRecursion, fold}
use Rattle.tocmark_event.specs.Merged.{merged}
use Rattle.tocmark_read_scan.specs.Basic.{plus, byte_at}
use Rattle.tocmark_read_scan.specs.Class.{is_in, run_end}
use Rattle.tocmark_read_scan.specs.Content as content
use Rattle.tocmark_read_scan.specs.PlainParts.{last_byte}
use Rattle.tocmark_read_scan.specs.Repeat.{repeated}
use Rattle.tocmark_read_scan.specs.Side.{side_at, side_before}
use Rattle.tocmark_read_scan.specs.declared.class.Class.TheVariants.{White, Only}
use Rattle.tocmark_read_scan.specs.declared.side.Side.TheVariants.{Space, Other}
use Rattle.tocmark_read_scan.specs.declared.syntax.Syntax.{Syntax}
use Rattle.tocmark_read_scan.proofs.PlainContent.{places_of, byte_behind}
use Rattle.tocmark_read_scan.proofs.PlainPieces.{drop_behind, content_of_lines}
use Rattle.tocmark_read_scan.proofs.PlainSides.{side_at_letter, side_before_letter}
use Rattle.tocmark_read_scan.proofs.PlainTests.{turned}
use Rattle.tocmark_read_lines.specs.Cells.{first_cursor}
use Rattle.tocmark_read_lines.specs.Marks.{is_rule, is_rule_byte, marker_at, bullet_at, ordered_at, fence_at, is_fence_byte}
use Rattle.tocmark_read_blocks.proofs.PlainLines.{IsWithin, numbered}
use Rattle.tocmark_read_blocks.proofs.PlainStarts.{IsQuiet, some_cells, no_heading, no_underline}
use Rattle.tocmark_read_blocks.proofs.PlainSteps.{front}
use Rattle.tocmark_read_spans.specs.Emphasis.{emphasized, emphasis_fits, fits, is_tilde_or_caret, class_of, extended_span, span_of, width_of, matched, once, run_step}
use Rattle.tocmark_read_spans.specs.Run.{acts, flanks, is_space, is_punctuation, tildes_open, tildes_close, are_read, is_subscript, run_at, run_between, tildes_between, tildes_at}
use Rattle.tocmark_read_spans.specs.declared.definitions.Entry.{Entry}
use Rattle.tocmark_read_spans.specs.declared.role.Role.{Role}
use Rattle.tocmark_read_spans.specs.declared.role.Role.TheVariants.{Plain, Hidden, Open, Close}
use Rattle.tocmark_read_spans.specs.declared.role.Span.{Span}
use Rattle.tocmark_read_spans.specs.declared.role.Span.TheVariants.{Subscript, Superscript}
use Rattle.tocmark_read_spans.specs.declared.run.Run.{Run}
use Rattle.tocmark_read_inlines.specs.Inlines as inlines
use Rattle.tocmark_read_inlines.specs.Inlines.{scan_start}
use Rattle.tocmark_read_inlines.specs.Scan as s
use Rattle.tocmark_read_inlines.specs.Write as w
use Rattle.tocmark_read_inlines.specs.declared.write.InlineKind.TheVariants as item
use Rattle.tocmark_read_inlines.specs.declared.write.Node.{Node}
use Rattle.tocmark_read_inlines.proofs.PlainPasses.{set_behind}
use Rattle.tocmark_read_inlines.proofs.Sparse.{plain_fold}
use Rattle.tocmark_reader.specs.Emitted.{emitted}
use Rattle.tocmark_reader.specs.Inlines.{inline_node, inline_item, span_tag}
use Rattle.tocmark_reader.specs.Pages.{with_block, block_tag, task_nodes}
use Rattle.tocmark_reader.specs.PlainTexts.{IsReadAs}
use Rattle.tocmark_reader.specs.Reading.{FoundView, first_entry, found_under, reading_of}
use Rattle.tocmark_reader.proofs.PlainEvents.{unplaced, source_of}
use Rattle.tocmark_reader.proofs.PlainReading.{IsPrintable}
use Rattle.tocmark_reader.proofs.PlainSources.{IsClean, AreClean, all_implied, source_between}
use Rattle.tocmark_reader.proofs.QuietContent.{split_last}
use Rattle.tocmark_laws.specs.Extensions.{is_phrase, script_byte, has_script, in_marks, script_paragraph}
use Rattle.tocmark_laws.proofs.ExtensionBlocks.{never, BeginsFreely, IsFreeText}
use Rattle.tocmark_laws.proofs.StrikethroughReading.{IsPhrase, phrase_from, small_letter, no_tilde, space_past, byte_past, pass_words}
use Rattle.tocmark_laws.proofs.WordsReading.{IsWordByte}
use Rattle.tocmark_laws.proofs.ExtensionParagraphs.{IsFreeByte, begins_freely, free_note, free_row, free_html, no_inlines, found_of, paragraph_found, within_byte, clean_byte, at_start}

always : (a : Bool) → (a || true) ≡ true
always true = refl
always false = refl

-- the span that such marks make
abbrev script_span : Bool → Span
script_span true = Subscript
script_span false = Superscript

no_mark : (low : Bool) (b : ℕ) → is_ascii_alphanumeric b ≡ true → (b == script_byte low) ≡ false
no_mark true b h = no_tilde b h
no_mark false b h = turned is_ascii_alphanumeric 94 b h refl

-- ---- the line begins nothing

no_fence : (at b : ℕ) (rest : List ℕ) → (b == 126) ≡ false → fence_at (numbered at (126 ∷ b ∷ rest)) front ≡ None
unfolding fence_at is_fence_byte
no_fence at b rest h = rw h refl

free_tilde : IsFreeByte 126
free_tilde = record { bracket = refl; colon = refl; bar = refl; dash = refl; space = refl; less = refl }

free_caret : IsFreeByte 94
free_caret = record { bracket = refl; colon = refl; bar = refl; dash = refl; space = refl; less = refl }

quiet_caret : IsQuiet 94
quiet_caret = record { space = refl; greater = refl; less = refl; star = refl; minus = refl; plus = refl; equals = refl; underscore = refl; hash = refl; backtick = refl; tilde = refl; digit = refl }

script_begins_nothing : (low : Bool) (at b : ℕ) (rest : List ℕ) → is_ascii_alphanumeric b ≡ true → BeginsFreely (script_byte low ∷ b ∷ rest) (numbered at (script_byte low ∷ b ∷ rest))
unfolding first_cursor is_rule is_rule_byte marker_at bullet_at ordered_at
script_begins_nothing false at b rest h = begins_freely at 94 (b ∷ rest) quiet_caret free_caret
script_begins_nothing true at b rest h = record {
  nothing = record {
    some = some_cells (length (numbered (at + 1) (b ∷ rest)));
    ink = refl;
    quote = refl;
    rule = refl;
    marker = refl;
    heading = no_heading at 126 (b ∷ rest) refl refl;
    fence = no_fence at b rest (no_tilde b h);
    html = refl;
    underline = no_underline at 126 (b ∷ rest) refl refl;
  };
  note = free_note at 126 (b ∷ rest) refl;
  colon = refl;
  row = free_row 126 (b ∷ rest) free_tilde;
  html = free_html 126 (b ∷ rest) refl;
}

-- ---- the runs

abbrev opener : Bool → Run
opener low = record { place = 0; count = 1; length = 1; byte = script_byte low; opens = true; closes = false; subscript = low }

abbrev closer : Bool → ℕ → Run
closer low n = record { place = n + 1; count = 1; length = 1; byte = script_byte low; opens = false; closes = true; subscript = low }

-- the run of marks at a place
abbrev run_here : Bool → Syntax → List ℕ → ℕ → Run
run_here true syntax bytes place = tildes_at syntax bytes place
run_here false syntax bytes place = run_at bytes place 94

first_end : (x b : ℕ) (rest : List ℕ) → (b == x) ≡ false → run_end (x ∷ b ∷ rest) 0 (Only x) ≡ 1
unfolding run_end is_in
first_end x b rest h = let same : (x == x) ≡ true = grind (arith, nat_tests) in rw (same, h) refl

last_end : (bytes : List ℕ) (p x : ℕ) → drop p bytes ≡ x ∷ [] → p + 1 < 2 ^ 64 → run_end bytes p (Only x) ≡ p + 1
unfolding run_end is_in
last_end bytes p x e fits =
    let one : plus p 1 ≡ p + 1 = omega (arith, fits) in
    let same : (x == x) ≡ true = grind (arith, nat_tests) in
    rw (e, same, one) refl

opens_here : (low : Bool) (syntax : Syntax) (b : ℕ) (rest : List ℕ) → is_ascii_alphanumeric b ≡ true → has_script low syntax ≡ true → run_here low syntax (script_byte low ∷ b ∷ rest) 0 ≡ opener low
unfolding tildes_at tildes_between run_at run_between acts flanks are_read tildes_open tildes_close is_space is_punctuation is_subscript side_before
opens_here true syntax b rest h has =
    let after : side_at (126 ∷ b ∷ rest) 1 ≡ Other = side_at_letter (126 ∷ b ∷ rest) 1 b refl (small_letter b h) h in
    ap (λ end. tildes_between syntax (126 ∷ b ∷ rest) 0 end) (first_end 126 b rest (no_tilde b h))
    ∙ rw (always syntax.strikethrough, has, after) refl
opens_here false syntax b rest h has =
    let after : side_at (94 ∷ b ∷ rest) 1 ≡ Other = side_at_letter (94 ∷ b ∷ rest) 1 b refl (small_letter b h) h in
    ap (λ end. run_between (94 ∷ b ∷ rest) 0 end 94) (first_end 94 b rest (no_mark false b h))
    ∙ rw after refl

-- a phrase between two marks
module _ (low : Bool) (b : ℕ) (bs : List ℕ) where
  abbrev words : List ℕ
  words = b ∷ bs

  abbrev n : ℕ
  n = length words

  abbrev x : ℕ
  x = script_byte low

  abbrev text : List ℕ
  text = in_marks low words

  size : length text ≡ n + 2
  size = ap suc (length-append words (x ∷ [])) ∙ (let q : suc (n + 1) ≡ n + 2 = omega arith in q)

  left_behind : drop (n + 1) text ≡ x ∷ []
  left_behind = ap (λ k. drop k text) (let q : n + 1 ≡ length (x ∷ words) = omega arith in q) ∙ drop_behind (x ∷ words) (x ∷ [])

  last_before : byte_at text (n + 1 - 1) ≡ last_byte b bs
  last_before =
      let body : List ℕ = (split_last b bs).0 in
      let y : ℕ = last_byte b bs in
      let width : n ≡ length body + 1 = ap length ((split_last b bs).1) ∙ length-append body (y ∷ []) in
      let shape : text ≡ (x ∷ body) ++ y ∷ x ∷ [] = ap (λ (l : List ℕ). x ∷ (l ++ x ∷ [])) ((split_last b bs).1) ∙ ap (λ (l : List ℕ). x ∷ l) (append_assoc body (y ∷ []) (x ∷ [])) in
      ap (λ (l : List ℕ). byte_at l (n + 1 - 1)) shape ∙ byte_behind (x ∷ body) (x ∷ []) y (n + 1 - 1) (omega (arith, width))

  after_all : side_at text (n + 1 + 1) ≡ Space
  after_all =
      let all : length text ≡ n + 2 = size in
      space_past text (n + 1 + 1) (byte_past text (n + 1 + 1) (omega (arith, all)))

  before_last : IsPhrase b bs → side_before text (n + 1) ≡ Other
  before_last h = side_before_letter text (n + 1) (last_byte b bs) (omega arith) last_before (small_letter (last_byte b bs) h.last) h.last

  end_of_closer : length text < 2 ^ 64 → run_end text (n + 1) (Only x) ≡ n + 1 + 1
  end_of_closer fits = let all : length text ≡ n + 2 = size in last_end text (n + 1) x left_behind (omega (arith, all, fits))

closes_here : (low : Bool) (syntax : Syntax) (b : ℕ) (bs : List ℕ) → IsPhrase b bs → has_script low syntax ≡ true → length (in_marks low (b ∷ bs)) < 2 ^ 64 → run_here low syntax (in_marks low (b ∷ bs)) (length (b ∷ bs) + 1) ≡ closer low (length (b ∷ bs))
unfolding tildes_at tildes_between run_at run_between acts flanks are_read tildes_open tildes_close is_space is_punctuation is_subscript
closes_here true syntax b bs h has fits =
    let p : ℕ = length (b ∷ bs) + 1 in
    let count : p + 1 - p ≡ 1 = omega arith in
    ap (λ e. tildes_between syntax (in_marks true (b ∷ bs)) p e) (end_of_closer true b bs fits)
    ∙ rw (count, always syntax.strikethrough, has, after_all true b bs, before_last true b bs h) refl
closes_here false syntax b bs h has fits =
    let p : ℕ = length (b ∷ bs) + 1 in
    let count : p + 1 - p ≡ 1 = omega arith in
    ap (λ e. run_between (in_marks false (b ∷ bs)) p e 94) (end_of_closer false b bs fits)
    ∙ rw (count, after_all false b bs, before_last false b bs h) refl

-- ---- the first pass

script_is_mark : (low : Bool) (syntax : Syntax) → has_script low syntax ≡ true → s.is_mark_in syntax (script_byte low) ≡ true
unfolding s.is_mark_in s.is_tilde_in s.is_caret_in
script_is_mark true syntax has = rw (has, always syntax.strikethrough) refl
script_is_mark false syntax has = rw (has, never (syntax.strikethrough || syntax.subscript)) refl

script_looked : (low : Bool) (syntax : Syntax) (bytes : List ℕ) (ahead : s.Known) (find : List ℕ → Option Entry) (t : s.State) → has_script low syntax ≡ true → s.looked_in syntax bytes ahead find (script_byte low) t ≡ s.run_kept (run_here low syntax bytes t.place) t
unfolding s.looked_in s.is_tilde_in s.is_caret_in s.tildes_taken s.run_taken
script_looked true syntax bytes ahead find t has = rw (has, always syntax.strikethrough) refl
script_looked false syntax bytes ahead find t has = rw (has, never (syntax.strikethrough || syntax.subscript)) refl

script_step : (low : Bool) (syntax : Syntax) (bytes : List ℕ) (ahead : s.Known) (find : List ℕ → Option Entry) (t : s.State) (r : Run) → has_script low syntax ≡ true → t.resume ≤ t.place → run_here low syntax bytes t.place ≡ r → s.scan_step_in syntax bytes ahead find t (script_byte low) ≡ s.next_place (s.run_kept r t)
unfolding s.scan_step_in
script_step low syntax bytes ahead find t r has now e =
    let yes : nat_le t.resume t.place ≡ true = grind (arith, nat_tests) in
    rw (script_is_mark low syntax has, yes) (ap s.next_place (script_looked low syntax bytes ahead find t has ∙ ap (λ u. s.run_kept u t) e))

abbrev at_place : ℕ → List Run → ℕ → ℕ → s.State
at_place total runs place resume = record (at_start total) { runs = runs; place = place; resume = resume }

opener_kept : (low : Bool) (total : ℕ) → s.next_place (s.run_kept (opener low) (at_start total)) ≡ at_place total (opener low ∷ []) 1 1
unfolding s.run_kept
opener_kept low total = refl

closer_kept : (low : Bool) (total n : ℕ) → n + 2 < 2 ^ 64 → s.next_place (s.run_kept (closer low n) (at_place total (opener low ∷ []) (n + 1) 1)) ≡ at_place total (opener low ∷ closer low n ∷ []) (n + 2) (n + 2)
unfolding s.run_kept
closer_kept low total n fits =
    let next : plus (n + 1) 1 ≡ n + 2 = omega (arith, fits) in
    rw next refl

script_ran : (low : Bool) (syntax : Syntax) (b : ℕ) (bs : List ℕ) (ahead : s.Known) (find : List ℕ → Option Entry) → IsPhrase b bs → has_script low syntax ≡ true → length (in_marks low (b ∷ bs)) < 2 ^ 64 → fold (s.scan_step_in syntax (in_marks low (b ∷ bs)) ahead find) (at_start (length (in_marks low (b ∷ bs)))) (in_marks low (b ∷ bs)) ≡ at_place (length (in_marks low (b ∷ bs))) (opener low ∷ closer low (length (b ∷ bs)) ∷ []) (length (b ∷ bs) + 2) (length (b ∷ bs) + 2)
script_ran low syntax b bs ahead find h has fits =
    let xs : List ℕ = b ∷ bs in
    let n : ℕ = length xs in
    let x : ℕ = script_byte low in
    let bytes : List ℕ = in_marks low xs in
    let m : ℕ = length bytes in
    let all : m ≡ n + 2 = size low b bs in
    let step : s.State → ℕ → s.State = s.scan_step_in syntax bytes ahead find in
    let second : 1 + n ≡ n + 1 = omega arith in
    ap (λ (t : s.State). fold step t (xs ++ x ∷ [])) (script_step low syntax bytes ahead find (at_start m) (opener low) has (omega arith) (opens_here low syntax b (bs ++ x ∷ []) h.first has) ∙ opener_kept low m)
    ∙ fold-append step (at_place m (opener low ∷ []) 1 1) xs (x ∷ [])
    ∙ ap (λ (t : s.State). step t x) (pass_words syntax bytes ahead find xs (at_place m (opener low ∷ []) 1 1) h.bytes (omega (arith, all, fits)) ∙ ap (λ p. at_place m (opener low ∷ []) p 1) second)
    ∙ script_step low syntax bytes ahead find (at_place m (opener low ∷ []) (n + 1) 1) (closer low n) has (omega arith) (closes_here low syntax b bs h has fits)
    ∙ closer_kept low m n (omega (arith, all, fits))

-- ---- both runs match

matched_roles : (low : Bool) (roles : List Role) (n : ℕ) → n + 2 < 2 ^ 64 → emphasized roles (opener low ∷ closer low n ∷ []) ≡ slice_set (slice_set (slice_set (slice_set roles 0 Hidden) 0 (Open (script_span low) (n + 2))) (n + 1) Hidden) (n + 2 - 1) (Close (n + 2))
unfolding emphasized run_step repeated once fits emphasis_fits class_of is_tilde_or_caret matched width_of span_of extended_span
matched_roles true roles n room =
    let end : plus (n + 1) 1 ≡ n + 2 = omega (arith, room) in
    rw end refl
matched_roles false roles n room =
    let end : plus (n + 1) 1 ≡ n + 2 = omega (arith, room) in
    rw end refl

abbrev script_roles : Bool → ℕ → List Role
script_roles low n = Open (script_span low) (n + 2) ∷ (replicate n Plain ++ Close (n + 2) ∷ [])

plain_split : (xs : List ℕ) (x : ℕ) → replicate (length (xs ++ x ∷ [])) Plain ≡ replicate (length xs) Plain ++ Plain ∷ []
plain_split [] x = refl
plain_split (y ∷ xs) x = ap (λ (l : List Role). Plain ∷ l) (plain_split xs x)

length_plain : (n : ℕ) → length (replicate n Plain) ≡ n
length_plain zero = refl
length_plain (suc n) = ap suc (length_plain n)

roles_set : (low : Bool) (n : ℕ) → slice_set (slice_set (slice_set (slice_set (Plain ∷ (replicate n Plain ++ Plain ∷ [])) 0 Hidden) 0 (Open (script_span low) (n + 2))) (n + 1) Hidden) (n + 2 - 1) (Close (n + 2)) ≡ script_roles low n
roles_set low n =
    let plain : List Role = replicate n Plain in
    let front_roles : List Role = Open (script_span low) (n + 2) ∷ plain in
    let width : length plain ≡ n = length_plain n in
    let last : n + 1 ≡ length front_roles = omega (arith, width) in
    let same : n + 2 - 1 ≡ length front_roles = omega (arith, width) in
    ap (λ (l : List Role). slice_set l (n + 2 - 1) (Close (n + 2))) (set_behind front_roles [] Plain Hidden (n + 1) last)
    ∙ set_behind front_roles [] Hidden (Close (n + 2)) (n + 2 - 1) same

abbrev behind : Bool → ℕ → s.State
behind low n = record { roles = script_roles low n; runs = []; brackets = []; inactive = 0; place = n + 2; resume = n + 2; targets = []; texts = []; missed = [] }

script_settled : (low : Bool) (b : ℕ) (bs : List ℕ) → length (in_marks low (b ∷ bs)) < 2 ^ 64 → s.settled 0 (at_place (length (in_marks low (b ∷ bs))) (opener low ∷ closer low (length (b ∷ bs)) ∷ []) (length (b ∷ bs) + 2) (length (b ∷ bs) + 2)) ≡ behind low (length (b ∷ bs))
unfolding s.settled
script_settled low b bs fits =
    let n : ℕ = length (b ∷ bs) in
    let all : length (in_marks low (b ∷ bs)) ≡ n + 2 = size low b bs in
    let with_roles : List Role → s.State = λ rs. record (behind low n) { roles = rs } in
    ap with_roles (matched_roles low (replicate (length (in_marks low (b ∷ bs))) Plain) n (omega (arith, all, fits)))
    ∙ ap (λ (l : List Role). with_roles (slice_set (slice_set (slice_set (slice_set (Plain ∷ l) 0 Hidden) 0 (Open (script_span low) (n + 2))) (n + 1) Hidden) (n + 2 - 1) (Close (n + 2)))) (plain_split (b ∷ bs) (script_byte low))
    ∙ ap with_roles (roles_set low n)

script_scanned : (low : Bool) (syntax : Syntax) (b : ℕ) (bs : List ℕ) (find : List ℕ → Option Entry) → IsPhrase b bs → has_script low syntax ≡ true → length (in_marks low (b ∷ bs)) < 2 ^ 64 → s.scanned_in syntax (in_marks low (b ∷ bs)) find (scan_start (length (in_marks low (b ∷ bs))) [] [] []) ≡ behind low (length (b ∷ bs))
unfolding s.scanned_in scan_start
script_scanned low syntax b bs find h has fits =
    ap (s.settled 0) (script_ran low syntax b bs (s.ahead_in syntax (in_marks low (b ∷ bs))) find h has fits) ∙ script_settled low b bs fits

-- ---- the second pass

abbrev span_node : Bool → ℕ → Node
span_node low n = record { depth = 1; item = item.Span (script_span low); start = 0; end = n + 2 }

abbrev text_node : ℕ → Node
text_node n = record { depth = 2; item = item.Text; start = 1; end = n + 1 }

abbrev inside : Bool → ℕ → Option ℕ → ℕ → w.State
inside low n shown place = record { nodes = span_node low n ∷ []; depth = 2; text = shown; place = place; resume = 0 }

plain_written : (low : Bool) (n : ℕ) → 0 < n → n + 2 < 2 ^ 64 → fold w.role_step (inside low n None 1) (replicate n Plain) ≡ inside low n (Some 1) (n + 1)
unfolding w.passed
plain_written low n some fits =
    let more : nat_lt 1 (1 + n) ≡ true = grind (arith, nat_tests) in
    let place : 1 + n ≡ n + 1 = omega arith in
    plain_fold n (inside low n None 1) (omega arith) ∙ rw (more, place) refl

ends_written : (low : Bool) (n : ℕ) → n + 2 < 2 ^ 64 → (w.flushed (fold w.role_step (inside low n (Some 1) (n + 1)) (Close (n + 2) ∷ []))).nodes ≡ span_node low n ∷ text_node n ∷ []
unfolding w.role_step w.shown w.closed w.flushed w.pushed
ends_written low n fits =
    let yes : nat_le 0 (n + 1) ≡ true = grind (arith, nat_tests) in
    rw yes refl

script_written : (low : Bool) (n : ℕ) → 0 < n → n + 2 < 2 ^ 64 → w.written (script_roles low n) 1 ≡ span_node low n ∷ text_node n ∷ []
unfolding w.written w.role_step w.shown w.opened w.flushed w.pushed
script_written low n some fits =
    ap (λ (u : w.State). (w.flushed u).nodes) (fold-append w.role_step (inside low n None 1) (replicate n Plain) (Close (n + 2) ∷ []))
    ∙ ap (λ (u : w.State). (w.flushed (fold w.role_step u (Close (n + 2) ∷ []))).nodes) (plain_written low n some fits)
    ∙ ends_written low n fits

-- ---- the law

mark_shown : (low : Bool) → IsPrintable (script_byte low)
mark_shown true = record { low = omega arith; high = omega arith }
mark_shown false = record { low = omega arith; high = omega arith }

mark_ink : (low : Bool) → is_in White (script_byte low) ≡ false
unfolding is_in
mark_ink true = refl
mark_ink false = refl

no_bracket : (low : Bool) → (script_byte low == 91) ≡ false
no_bracket true = refl
no_bracket false = refl

no_dash : (low : Bool) → (script_byte low == 45) ≡ false
no_dash true = refl
no_dash false = refl

no_cross : (low : Bool) → (script_byte low == 43) ≡ false
no_cross true = refl
no_cross false = refl

all_shown : (low : Bool) (xs : List ℕ) → AllByRecursion IsWordByte xs → AllByRecursion IsPrintable (xs ++ script_byte low ∷ [])
all_shown low [] h = (mark_shown low, tt)
all_shown low (y ∷ xs) h = ((h.0).printable, all_shown low xs (h.1))

line_shown : (low : Bool) (xs : List ℕ) → AllByRecursion IsWordByte xs → AllByRecursion IsPrintable (in_marks low xs)
line_shown low xs h = (mark_shown low, all_shown low xs h)

script_line : (low : Bool) (b : ℕ) (bs : List ℕ) → IsPhrase b bs → IsFreeText (in_marks low (b ∷ bs))
script_line low b bs h = record {
  within = all_implied IsPrintable IsWithin (in_marks low (b ∷ bs)) within_byte (line_shown low (b ∷ bs) h.bytes);
  begins = λ at. script_begins_nothing low at b (bs ++ script_byte low ∷ []) h.first;
  first = script_byte low;
  rest = b ∷ bs ++ script_byte low ∷ [];
  shape = refl;
  dash = no_dash low;
  cross = no_cross low;
}

place_at : (start : ℕ) (xs : List ℕ) (k : ℕ) → k < length xs → slice_get (places_of start xs) k ≡ Some (start + k, start + k + 1)
place_at start [] k h = absurd (omega arith)
place_at start (y ∷ xs) zero h = let same : start + 0 ≡ start = omega arith in rw same refl
place_at start (y ∷ xs) (suc k) h =
    let same : start + 1 + k ≡ start + suc k = omega arith in
    place_at (start + 1) xs k (omega arith) ∙ rw same refl

text_moved : (low : Bool) (b : ℕ) (bs : List ℕ) → w.moved (places_of 0 (in_marks low (b ∷ bs))) (text_node (length (b ∷ bs))) ≡ text_node (length (b ∷ bs))
unfolding w.moved
text_moved low b bs =
    let n : ℕ = length (b ∷ bs) in
    let bytes : List ℕ = in_marks low (b ∷ bs) in
    let all : length bytes ≡ n + 2 = size low b bs in
    let last : 0 + (n + 1 - 1) + 1 ≡ n + 1 = omega arith in
    rw (place_at 0 bytes (n + 1 - 1) (omega (arith, all)), last) refl

script_emitted : (low : Bool) (bytes xs : List ℕ) (n : ℕ) (places : List (ℕ × ℕ)) → source_of bytes 1 (n + 1) ≡ xs → merged (unplaced (emitted bytes (found_of bytes (length bytes) (record { nodes = w.moved places (span_node low n) ∷ text_node n ∷ []; targets = []; texts = []; missed = [] })).nodes)) ≡ script_paragraph low xs
unfolding with_block block_tag task_nodes w.moved inline_node inline_item span_tag
script_emitted true bytes xs n places e = ap (script_paragraph true) e
script_emitted false bytes xs n places e = ap (script_paragraph false) e

pub script_read : (syntax : Syntax) (low : Bool) (xs : List ℕ) → has_script low syntax ≡ true → is_phrase xs ≡ true → length (in_marks low xs) < 2 ^ 64 → IsReadAs (reading_of syntax (in_marks low xs)) (script_paragraph low xs)
unfolding reading_of inlines.read_inlines_in
script_read syntax low [] has all fits = absurd (true≢false (sym all))
script_read syntax low (b ∷ bs) has all fits =
    let xs : List ℕ = b ∷ bs in
    let n : ℕ = length xs in
    let x : ℕ = script_byte low in
    let text : List ℕ = in_marks low xs in
    let h : IsPhrase b bs = phrase_from b bs all in
    let find = first_entry syntax.undefined_notes [] [] in
    let leaf : content.State = record { bytes = text; places = places_of 0 text } in
    let clean : AreClean text = all_implied IsPrintable IsClean text clean_byte (line_shown low xs h.bytes) in
    let total : length text ≡ n + 2 = size low b bs in
    let inlines_with : List Node → inlines.State = λ ns. record { nodes = ns; targets = []; texts = []; missed = [] } in
    let moved_span : Node = w.moved (places_of 0 text) (span_node low n) in
    let found : found_under syntax text ≡ found_of text (length text) (inlines_with (moved_span ∷ text_node n ∷ [])) =
    paragraph_found syntax text [] leaf (script_line low b bs h, tt) (all_implied IsClean (λ y. (y == 13) ≡ false) text (λ y k. k.return) clean) fits (no_bracket low)
    (content_of_lines text [] (x ∷ xs) x refl (mark_ink low) (all_implied IsClean (λ y. (y == 0) ≡ false) text (λ y k. k.some) clean, tt) fits)
    ∙ ap (λ (after : s.State). found_of text (length text) (inlines.inlines_from leaf 1 after no_inlines)) (script_scanned low syntax b bs find h has fits)
    ∙ ap (λ (ns : List Node). found_of text (length text) (inlines_with (map (w.moved (places_of 0 text)) ns))) (script_written low n (omega arith) (omega (arith, total, fits)))
    ∙ ap (λ (y : Node). found_of text (length text) (inlines_with (moved_span ∷ y ∷ []))) (text_moved low b bs)
    in
    let source : source_of text 1 (n + 1) ≡ xs = source_between text (x ∷ []) xs (x ∷ []) 1 (n + 1) refl refl (let q : n + 1 ≡ 1 + n = omega arith in q) clean in
    record {
      events = ap (λ (f : FoundView). merged (unplaced (emitted text f.nodes))) found ∙ script_emitted low text xs n (places_of 0 text) source;
      defined = ap (λ (f : FoundView). f.defined) found;
      unresolved = ap (λ (f : FoundView). f.unresolved) found;
    }
