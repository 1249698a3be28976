-- Code between backticks is read as a code span.
use Rattle.std.proofs.Common.{◌≡◌, ℕ, suc, ◌+◌, ◌-◌, ◌^◌, ◌<◌, ◌≤◌, true, false, not, ◌==◌, ◌&&◌, ◌||◌, nat_lt, List, [], ◌∷◌, ◌++◌, drop, length, map, replicate, refl, ap, sym, ◌∙◌, arith, append_assoc, append-nil, length-append, Option, None, Some, true≢false}
use Rattle.std.proofs.lemmas.Bool.Decides.{nat_tests}
use Rattle.std.proofs.lemmas.List.Sums.{take_while-cons}
use Rattle.std.proofs.lemmas.Str.{IsUtf8-from_ascii, utf8_lossy-IsUtf8}
use Rattle.std.specs.List.{AllByRecursion, fold, list_all}
use Rattle.std.specs.Str.Lossy.{utf8_lossy}
use Rattle.tocmark_event.specs.Merged.{merged}
use Rattle.tocmark_read_scan.specs.Basic.{plus, bytes_between}
use Rattle.tocmark_read_scan.specs.Class.{is_in, run_length, run_end}
use Rattle.tocmark_read_scan.specs.Content as content
use Rattle.tocmark_read_scan.specs.PlainParts.{last_byte}
use Rattle.tocmark_read_scan.specs.declared.class.Class.{Class}
use Rattle.tocmark_read_scan.specs.declared.class.Class.TheVariants.{White, Only, Except}
use Rattle.tocmark_read_scan.specs.declared.syntax.Names.{Names}
use Rattle.tocmark_read_scan.specs.declared.syntax.Names.TheVariants.{Four, All}
use Rattle.tocmark_read_scan.specs.declared.syntax.Syntax.{Syntax}
use Rattle.tocmark_read_scan.proofs.PlainContent.{places_of}
use Rattle.tocmark_read_scan.proofs.PlainPieces.{piece_between, content_of_lines}
use Rattle.tocmark_read_scan.proofs.PlainPlaces.{drop_at}
use Rattle.tocmark_read_scan.proofs.PlainTests.{both_true, is_not, all_from}
use Rattle.tocmark_read_scan.proofs.Repeats.{iterated_stop, iterated_more}
use Rattle.tocmark_read_lines.specs.Cells.{first_cursor}
use Rattle.tocmark_read_lines.specs.Marks.{is_rule, is_rule_byte, marker_at, bullet_at, ordered_at, fence_at, is_fence_byte, tail_of}
use Rattle.tocmark_read_blocks.proofs.PlainLines.{IsWithin, numbered}
use Rattle.tocmark_read_blocks.proofs.PlainStarts.{some_cells, no_heading, no_underline}
use Rattle.tocmark_read_blocks.proofs.PlainSteps.{BeginsNothing, front}
use Rattle.tocmark_read_spans.specs.Definitions.{stretch_text}
use Rattle.tocmark_read_spans.specs.Emphasis.{emphasized}
use Rattle.tocmark_read_spans.specs.Tick as tick
use Rattle.tocmark_read_spans.specs.declared.definitions.Entry.{Entry}
use Rattle.tocmark_read_spans.specs.declared.role.Leaf.TheVariants as leaf
use Rattle.tocmark_read_spans.specs.declared.role.Role.TheVariants.{Plain, Single}
use Rattle.tocmark_read_inlines.specs.Inlines as inlines
use Rattle.tocmark_read_inlines.specs.Inlines.{scan_start}
use Rattle.tocmark_read_inlines.specs.Scan as s
use Rattle.tocmark_read_inlines.specs.Write as w
use Rattle.tocmark_read_inlines.specs.declared.write.InlineKind.TheVariants as item
use Rattle.tocmark_read_inlines.specs.declared.write.Node.{Node}
use Rattle.tocmark_reader.specs.Emitted.{emitted}
use Rattle.tocmark_reader.specs.Inlines.{inline_node, inline_item, leaf_of}
use Rattle.tocmark_reader.specs.Pages.{with_block, block_tag, task_nodes}
use Rattle.tocmark_reader.specs.PlainTexts.{is_printable, IsReadAs}
use Rattle.tocmark_reader.specs.Reading.{FoundView, first_entry, found_under, reading_of}
use Rattle.tocmark_reader.proofs.PlainEvents.{unplaced}
use Rattle.tocmark_reader.proofs.PlainReading.{IsPrintable}
use Rattle.tocmark_reader.proofs.PlainSources.{IsClean, AreClean, clean_ascii, all_implied}
use Rattle.tocmark_reader.proofs.PlainTests.{printable_from}
use Rattle.tocmark_laws.specs.CodeSpans.{is_span_byte, is_span, in_backticks, span_paragraph}
use Rattle.tocmark_laws.proofs.ExtensionBlocks.{never, BeginsFreely, IsFreeText}
use Rattle.tocmark_laws.proofs.ExtensionParagraphs.{IsFreeByte, free_note, free_row, free_html, no_inlines, found_of, paragraph_found, within_byte, clean_byte, at_start, skip_bytes}
use Rattle.tocmark_laws.proofs.FormulaReading.{skip_roles}

-- a byte of code
pub record IsCodeByte (b : ℕ) : Type 0 where
  pub printable : IsPrintable b
  pub other : (b == 96) ≡ false

code_byte : (b : ℕ) → is_span_byte b ≡ true → IsCodeByte b
code_byte b h =
    let both = both_true (is_printable b) (not (b == 96)) h in
    record { printable = printable_from b (both.0); other = is_not (b == 96) (both.1) }

-- code between backticks
pub record IsCode (b : ℕ) (bs : List ℕ) : Type 0 where
  pub bytes : AllByRecursion IsCodeByte (b ∷ bs)
  pub first : (b == 32) ≡ false

pub code_from : (b : ℕ) (bs : List ℕ) → is_span (b ∷ bs) ≡ true → IsCode b bs
code_from b bs h =
    let two = both_true (list_all is_span_byte (b ∷ bs) && not (b == 32)) (not (last_byte b bs == 32)) h in
    let one = both_true (list_all is_span_byte (b ∷ bs)) (not (b == 32)) (two.0) in
    record { bytes = all_from is_span_byte IsCodeByte (b ∷ bs) code_byte (one.0); first = is_not (b == 32) (one.1) }

no_feed : (b : ℕ) → IsCodeByte b → (b == 10) ≡ false
no_feed b h = let low : 32 ≤ b = h.printable.low in grind (arith, nat_tests)

-- ---- runs of backticks

run_stops : (c : Class) (x : ℕ) (xs : List ℕ) → is_in c x ≡ false → run_length c (x ∷ xs) ≡ 0
run_stops c x xs h = ap length (take_while-cons (is_in c) x xs) ∙ rw h refl

run_goes_on : (c : Class) (x : ℕ) (xs : List ℕ) → is_in c x ≡ true → run_length c (x ∷ xs) ≡ suc (run_length c xs)
run_goes_on c x xs h = ap length (take_while-cons (is_in c) x xs) ∙ rw h refl

one_tick : (x : ℕ) (xs : List ℕ) → (x == 96) ≡ false → run_length (Only 96) (96 ∷ x ∷ xs) ≡ 1
unfolding is_in
one_tick x xs h = run_goes_on (Only 96) 96 (x ∷ xs) refl ∙ ap suc (run_stops (Only 96) x xs h)

last_tick : run_length (Only 96) (96 ∷ []) ≡ 1
unfolding is_in
last_tick = run_goes_on (Only 96) 96 [] refl

no_other : (xs : List ℕ) → run_length (Except 96) (96 ∷ xs) ≡ 0
unfolding is_in
no_other xs = run_stops (Except 96) 96 xs refl

all_others : (xs : List ℕ) → AllByRecursion IsCodeByte xs → run_length (Except 96) (xs ++ 96 ∷ []) ≡ length xs
unfolding is_in
all_others [] h = no_other []
all_others (x ∷ xs) h = run_goes_on (Except 96) x (xs ++ 96 ∷ []) (ap not (h.0).other) ∙ ap suc (all_others xs (h.1))

module _ (b : ℕ) (bs : List ℕ) (h : IsCode b bs) (fits : length (in_backticks (b ∷ bs)) < 2 ^ 64) where
  abbrev code : List ℕ
  code = b ∷ bs

  abbrev n : ℕ
  n = length code

  abbrev bytes : List ℕ
  bytes = in_backticks code

  size : length bytes ≡ n + 2
  size = ap suc (length-append code (96 ∷ [])) ∙ (let q : suc (n + 1) ≡ n + 2 = omega arith in q)

  rest : length (code ++ 96 ∷ []) ≡ n + 1
  rest = length-append code (96 ∷ [])

  at_end : drop (n + 1) bytes ≡ 96 ∷ []
  at_end = drop_at bytes (96 ∷ code) (96 ∷ []) (n + 1) refl (let q : n + 1 ≡ suc n = omega arith in q)

  behind_end : drop (n + 2) bytes ≡ []
  behind_end = drop_at bytes bytes [] (n + 2) (sym (append-nil bytes)) (sym size)

  run_at : (place more to : ℕ) (c : Class) → run_length c (drop place bytes) ≡ more → place + more ≡ to → to < 2 ^ 64 → run_end bytes place c ≡ to
  unfolding run_end
  run_at place more to c e same small = ap (plus place) e ∙ (let q : plus place more ≡ to = omega (arith, same, small) in q)

  from_front : run_end bytes 0 (Except 96) ≡ 0
  from_front = run_at 0 0 0 (Except 96) (no_other (code ++ 96 ∷ [])) refl (omega arith)

  first_end : run_end bytes 0 (Only 96) ≡ 1
  first_end = run_at 0 1 1 (Only 96) (one_tick b (bs ++ 96 ∷ []) (h.bytes.0).other) refl (omega arith)

  code_end : run_end bytes 1 (Except 96) ≡ n + 1
  code_end = run_at 1 n (n + 1) (Except 96) (all_others code h.bytes) (omega arith) (omega (arith, size, fits))

  second_end : run_end bytes (n + 1) (Only 96) ≡ n + 2
  second_end = run_at (n + 1) 1 (n + 2) (Only 96) (ap (run_length (Only 96)) at_end ∙ last_tick) (omega arith) (omega (arith, size, fits))

  no_more : (c : Class) → run_end bytes (n + 2) c ≡ n + 2
  no_more c = run_at (n + 2) 0 (n + 2) c (ap (run_length c) behind_end) (omega arith) (omega (arith, size, fits))

  first_run : tick.run_from bytes 0 ≡ Some (0, 1)
  unfolding tick.run_from
  first_run = rw (from_front, first_end) refl

  second_run : tick.run_from bytes 1 ≡ Some (n + 1, n + 2)
  unfolding tick.run_from
  second_run = let apart : (n + 1 == n + 2) ≡ false = grind (arith, nat_tests) in rw (code_end, second_end, apart) refl

  no_run : tick.run_from bytes (n + 2) ≡ None
  unfolding tick.run_from
  no_run = let same : (n + 2 == n + 2) ≡ true = grind (arith, nat_tests) in rw (no_more (Except 96), no_more (Only 96), same) refl

  abbrev after_first : tick.State
  after_first = record { last = 0 ∷ 1 ∷ []; place = 1 }

  abbrev after_second : tick.State
  after_second = record { last = 0 ∷ (n + 2) ∷ []; place = n + 2 }

  first_noted : tick.noted 0 1 tick.ticks_start ≡ after_first
  unfolding tick.noted
  first_noted = refl

  second_noted : tick.noted (n + 1) (n + 2) after_first ≡ after_second
  unfolding tick.noted
  second_noted =
      let one : n + 2 - (n + 1) ≡ 1 = omega arith in
      let next : plus (n + 1) 1 ≡ n + 2 = omega (arith, size, fits) in
      rw (one, next) refl

  ticks_are : tick.last_ticks bytes ≡ 0 ∷ (n + 2) ∷ []
  unfolding tick.last_ticks
  ticks_are =
      let step = tick.run_noted bytes in
      ap (λ (t : tick.State). t.last)
      (iterated_more step (length bytes) tick.ticks_start after_first (omega arith) (sym (ap (tick.noted_run tick.ticks_start) first_run ∙ ap (λ t. Some t) first_noted))
      ∙ iterated_more step (length bytes - 1) after_first after_second (omega (arith, size)) (sym (ap (tick.noted_run after_first) second_run ∙ ap (λ t. Some t) second_noted))
      ∙ iterated_stop step (length bytes - 1 - 1) after_second (omega (arith, size)) (sym (ap (tick.noted_run after_second) no_run)))

  all_ticks : s.ticks_of bytes ≡ 0 ∷ (n + 2) ∷ []
  unfolding s.ticks_of
  all_ticks = ticks_are

  no_next : tick.next_run bytes 1 (n + 1) ≡ None
  unfolding tick.next_run
  no_next = let one : n + 2 - (n + 1) ≡ 1 = omega arith in rw (second_end, one) refl

  closes : tick.tick_end bytes 1 1 (0 ∷ (n + 2) ∷ []) ≡ Some (n + 1)
  unfolding tick.tick_end
  closes =
      let far : nat_lt 1 (n + 2) ≡ true = grind (arith, nat_tests) in
      rw (far, code_end) (ap (λ k. Some k) (iterated_stop (tick.next_run bytes 1) (length bytes) (n + 1) (omega arith) (sym no_next)))

  -- ---- the first pass

  -- the pass after the code span, in front of which so many bytes are left
  abbrev with_left : ℕ → ℕ → s.State
  with_left left place = record { roles = Single (leaf.Code (s.stretch 0 n)) (n + 2) ∷ replicate left Plain; runs = []; brackets = []; inactive = 0; place = place; resume = n + 2; targets = []; texts = code; missed = [] }

  abbrev behind : ℕ → s.State
  behind place = with_left (n + 1) place

  pushed : (out ys : List ℕ) → AllByRecursion IsCodeByte ys → tick.push_shown out ys ≡ out ++ ys
  unfolding tick.shown
  pushed out [] k = sym (append-nil out)
  pushed out (y ∷ ys) k = rw (no_feed y (k.0)) (pushed (out ++ y ∷ []) ys (k.1) ∙ append_assoc out (y ∷ []) ys)

  kept_whole : tick.stripped code ≡ code
  unfolding tick.stripped tick.shown
  kept_whole = rw (no_feed b (h.bytes.0), h.first) refl

  code_put : s.code_put bytes 1 (n + 1) 1 (at_start (length bytes)) ≡ behind 0
  unfolding s.code_put s.kept_code s.put_leaf
  code_put =
      let stands : bytes_between bytes 1 (n + 1) ≡ code = piece_between bytes (96 ∷ []) code (96 ∷ []) 1 (n + 1) refl refl (let q : n + 1 ≡ 1 + n = omega arith in q) in
      let next : plus (n + 1) 1 ≡ n + 2 = omega (arith, size, fits) in
      rw (stands, kept_whole, pushed [] code h.bytes, next) (ap (λ k. with_left k 0) rest)

  coded : s.coded bytes (0 ∷ (n + 2) ∷ []) (at_start (length bytes)) ≡ behind 0
  unfolding s.coded
  coded = rw first_end (ap (s.coded_to bytes 1 1 (at_start (length bytes))) closes ∙ code_put)

  tick_looked : (names : Names) (ahead : s.Known) (find : List ℕ → Option Entry) (t : s.State) → s.looked_by names bytes ahead find 96 t ≡ s.coded bytes ahead.ticks t
  unfolding s.looked s.looked_mark s.looked_all
  tick_looked Four ahead find t = refl
  tick_looked All ahead find t = refl

  tick_step : (syntax : Syntax) (find : List ℕ → Option Entry) → s.scan_step_in syntax bytes (s.ahead_in syntax bytes) find (at_start (length bytes)) 96 ≡ behind 1
  unfolding s.scan_step_in s.looked_in s.is_mark_in s.is_mark s.is_tilde_in s.is_caret_in s.is_dollar_in s.is_note_end_in
  tick_step syntax find =
      rw (never (syntax.strikethrough || syntax.subscript), never syntax.superscript, never syntax.math, never syntax.footnotes, never syntax.tables)
      (ap s.next_place (tick_looked syntax.names (s.ahead_in syntax bytes) find (at_start (length bytes)) ∙ ap (λ ts. s.coded bytes ts (at_start (length bytes))) all_ticks ∙ coded))

  code_scanned : (syntax : Syntax) (find : List ℕ → Option Entry) → s.scanned_in syntax bytes find (scan_start (length bytes) [] [] []) ≡ behind (n + 2)
  unfolding s.scanned_in s.settled scan_start emphasized
  code_scanned syntax find =
      let ahead : s.Known = s.ahead_in syntax bytes in
      let end : 1 + length (code ++ 96 ∷ []) ≡ n + 2 = omega (arith, rest) in
      ap (λ (t : s.State). s.settled 0 (fold (s.scan_step_in syntax bytes ahead find) t (code ++ 96 ∷ []))) (tick_step syntax find)
      ∙ ap (s.settled 0) (skip_bytes syntax bytes ahead find (code ++ 96 ∷ []) (behind 1) (omega (arith, end)) (omega (arith, size, fits)) ∙ ap (λ p. behind p) end)

-- ---- the second pass

abbrev code_node : ℕ → Node
code_node n = record { depth = 1; item = item.Leaf (leaf.Code (s.stretch 0 n)); start = 0; end = n + 2 }

code_written : (n : ℕ) → n + 2 < 2 ^ 64 → w.written (Single (leaf.Code (s.stretch 0 n)) (n + 2) ∷ replicate (n + 1) Plain) 1 ≡ code_node n ∷ []
unfolding w.written w.role_step w.shown w.single w.flushed w.pushed
code_written n fits =
    let t : w.State = record { nodes = code_node n ∷ []; depth = 1; text = None; place = 1; resume = n + 2 } in
    ap (λ (u : w.State). (w.flushed u).nodes) (skip_roles (n + 1) t (omega arith) (omega arith))

-- ---- the line

-- a backtick alone begins no fence
no_fence : (at x : ℕ) (ys : List ℕ) → (x == 96) ≡ false → fence_at (numbered at (96 ∷ x ∷ ys)) front ≡ None
unfolding fence_at is_fence_byte
no_fence at x ys h = rw h refl

tick_marker : (at : ℕ) (xs : List ℕ) → marker_at (numbered at (96 ∷ xs)) 0 ≡ None
unfolding marker_at bullet_at ordered_at
tick_marker at xs = refl

tick_rule : (at : ℕ) (xs : List ℕ) → is_rule (numbered at (96 ∷ xs)) (tail_of (numbered at (96 ∷ xs))) 0 ≡ false
unfolding is_rule is_rule_byte
tick_rule at xs = refl

tick_begins : (at x : ℕ) (ys : List ℕ) → (x == 96) ≡ false → BeginsNothing (96 ∷ x ∷ ys) (numbered at (96 ∷ x ∷ ys))
unfolding first_cursor
tick_begins at x ys h = record {
  some = some_cells (length (numbered (at + 1) (x ∷ ys)));
  ink = refl;
  quote = refl;
  rule = tick_rule at (x ∷ ys);
  marker = tick_marker at (x ∷ ys);
  heading = no_heading at 96 (x ∷ ys) refl refl;
  fence = no_fence at x ys h;
  html = refl;
  underline = no_underline at 96 (x ∷ ys) refl refl;
}

free_tick : IsFreeByte 96
free_tick = record { bracket = refl; colon = refl; bar = refl; dash = refl; space = refl; less = refl }

tick_free : (at x : ℕ) (ys : List ℕ) → (x == 96) ≡ false → BeginsFreely (96 ∷ x ∷ ys) (numbered at (96 ∷ x ∷ ys))
tick_free at x ys h = record {
  nothing = tick_begins at x ys h;
  note = free_note at 96 (x ∷ ys) refl;
  colon = refl;
  row = free_row 96 (x ∷ ys) free_tick;
  html = free_html 96 (x ∷ ys) refl;
}

tick_shown : IsPrintable 96
tick_shown = record { low = omega arith; high = omega arith }

all_shown : (xs : List ℕ) → AllByRecursion IsCodeByte xs → AllByRecursion IsPrintable (xs ++ 96 ∷ [])
all_shown [] h = (tick_shown, tt)
all_shown (x ∷ xs) h = ((h.0).printable, all_shown xs (h.1))

code_line : (b : ℕ) (bs : List ℕ) → AllByRecursion IsCodeByte (b ∷ bs) → IsFreeText (in_backticks (b ∷ bs))
code_line b bs h = record {
  within = all_implied IsPrintable IsWithin (in_backticks (b ∷ bs)) within_byte (tick_shown, all_shown (b ∷ bs) h);
  begins = λ at. tick_free at b (bs ++ 96 ∷ []) (h.0).other;
  first = 96;
  rest = (b ∷ bs) ++ 96 ∷ [];
  shape = refl;
  dash = refl;
  cross = refl;
}

ink_tick : is_in White 96 ≡ false
unfolding is_in
ink_tick = refl

kept_code : (xs : List ℕ) → AllByRecursion IsCodeByte xs → stretch_text xs (s.stretch 0 (length xs)) ≡ xs
kept_code xs h =
    ap utf8_lossy (piece_between xs [] xs [] 0 (length xs) (sym (append-nil xs)) refl (let q : length xs ≡ 0 + length xs = omega arith in q))
    ∙ utf8_lossy-IsUtf8 xs (IsUtf8-from_ascii xs (clean_ascii xs (all_implied IsCodeByte IsClean xs (λ b k. clean_byte b k.printable) h)))

-- the events of such a paragraph
code_emitted : (text xs : List ℕ) (n : ℕ) (places : List (ℕ × ℕ)) → stretch_text xs (s.stretch 0 n) ≡ xs → merged (unplaced (emitted text (found_of text (length text) (record { nodes = w.moved places (code_node n) ∷ []; targets = []; texts = xs; missed = [] })).nodes)) ≡ span_paragraph xs
unfolding with_block block_tag task_nodes w.moved inline_node inline_item leaf_of
code_emitted text xs n places e = ap span_paragraph e

pub span_read : (syntax : Syntax) (xs : List ℕ) → is_span xs ≡ true → length (in_backticks xs) < 2 ^ 64 → IsReadAs (reading_of syntax (in_backticks xs)) (span_paragraph xs)
unfolding reading_of inlines.read_inlines_in
span_read syntax [] all fits = absurd (true≢false (sym all))
span_read syntax (b ∷ bs) all fits =
    let xs : List ℕ = b ∷ bs in
    let n : ℕ = length xs in
    let text : List ℕ = in_backticks xs in
    let h : IsCode b bs = code_from b bs all in
    let find = first_entry syntax.undefined_notes [] [] in
    let leaf_of_text : content.State = record { bytes = text; places = places_of 0 text } in
    let clean : AreClean text = all_implied IsPrintable IsClean text clean_byte (tick_shown, all_shown xs h.bytes) in
    let size : length text ≡ n + 2 = ap suc (length-append xs (96 ∷ [])) ∙ (let q : suc (n + 1) ≡ n + 2 = omega arith in q) in
    let found : found_under syntax text ≡ found_of text (length text) (record { nodes = w.moved (places_of 0 text) (code_node n) ∷ []; targets = []; texts = xs; missed = [] }) =
    paragraph_found syntax text [] leaf_of_text (code_line b bs h.bytes, tt) (all_implied IsClean (λ x. (x == 13) ≡ false) text (λ x k. k.return) clean) fits refl
    (content_of_lines text [] (96 ∷ xs) 96 refl ink_tick (all_implied IsClean (λ x. (x == 0) ≡ false) text (λ x k. k.some) clean, tt) fits)
    ∙ ap (λ (after : s.State). found_of text (length text) (inlines.inlines_from leaf_of_text 1 after no_inlines)) (code_scanned b bs h fits syntax find)
    ∙ ap (λ (ns : List Node). found_of text (length text) (record { nodes = map (w.moved (places_of 0 text)) ns; targets = []; texts = xs; missed = [] })) (code_written n (omega (arith, size, fits)))
    in
    record {
      events = ap (λ (f : FoundView). merged (unplaced (emitted text f.nodes))) found ∙ code_emitted text xs n (places_of 0 text) (kept_code xs h.bytes);
      defined = ap (λ (f : FoundView). f.defined) found;
      unresolved = ap (λ (f : FoundView). f.unresolved) found;
    }
