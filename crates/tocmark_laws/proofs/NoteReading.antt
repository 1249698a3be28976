-- A paragraph with a reference to a footnote, and the footnote, are read as both.
use Rattle.std.proofs.Common.{◌≡◌, ℕ, zero, suc, ◌+◌, ◌-◌, ◌^◌, ◌<◌, ◌≤◌, Bool, true, false, ◌==◌, ◌&&◌, ◌||◌, if◌then◌else◌, nat_lt, nat_le, List, [], ◌∷◌, ◌++◌, length, map, take, drop, replicate, slice_set, bytes_eq, refl, ap, sym, subst, ◌∙◌, arith, append_assoc, append-nil, length-append, Option, None, Some, true≢false}
use Rattle.std.proofs.lemmas.Bool.Decides.{nat_tests}
use Rattle.std.proofs.lemmas.List.Sums.{fold-append}
use Rattle.std.proofs.lemmas.Slice.Eq.{bytes_eq-Decides}
use Rattle.std.proofs.lemmas.Str.{IsUtf8-from_ascii, utf8_lossy-IsUtf8}
use Rattle.std.specs.Char.{char_set_contains, is_ascii_alphabetic}
use Rattle.std.specs.List.{AllByRecursion, flat_map, fold, list_all}
use Rattle.std.specs.Str.Lossy.{utf8_lossy}
use Rattle.tocmark_event.specs.Merged.{merged}
use Rattle.tocmark_event.specs.View.{EventView, Start, End, Leaf, FootnoteDefinition, FootnoteReference, Paragraph, Text}
use Rattle.tocmark_event.specs.declared.event.TagEnd.TheVariants as end
use Rattle.tocmark_read_scan.specs.Basic.{plus, byte_at, bytes_between, starts_at}
use Rattle.tocmark_read_scan.specs.Class.{is_in, run_end}
use Rattle.tocmark_read_scan.specs.Content as content
use Rattle.tocmark_read_scan.specs.declared.class.Class.TheVariants.{White, Only}
use Rattle.tocmark_read_scan.specs.declared.syntax.Names.{Names}
use Rattle.tocmark_read_scan.specs.declared.syntax.Names.TheVariants.{Four, All}
use Rattle.tocmark_read_scan.specs.declared.syntax.Syntax.{Syntax}
use Rattle.tocmark_read_scan.proofs.PlainContent.{places_of, length_places, trimmed_feed}
use Rattle.tocmark_read_scan.proofs.PlainPieces.{drop_behind, piece_between, AreNoZeros}
use Rattle.tocmark_read_scan.proofs.PlainTests.{both_true, differs, turned, all_from}
use Rattle.tocmark_read_tokens.specs.Label.{collapsed}
use Rattle.tocmark_read_tokens.specs.Footnotes.{note_label}
use Rattle.tocmark_read_tokens.specs.Word.{word, label, label_from}
use Rattle.tocmark_read_tokens.specs.declared.word.Word.{Word}
use Rattle.tocmark_read_page.specs.Definitions.{replaced}
use Rattle.tocmark_read_page.specs.Pieces.{piece_of}
use Rattle.tocmark_read_page.specs.declared.page.Block.{Block}
use Rattle.tocmark_read_page.specs.declared.piece.Piece.{Piece}
use Rattle.tocmark_read_blocks.specs.Blocks.{BlocksView}
use Rattle.tocmark_read_blocks.proofs.PlainLines.{IsWithin}
use Rattle.tocmark_read_spans.specs.Definitions as defs
use Rattle.tocmark_read_spans.specs.Emphasis.{emphasized}
use Rattle.tocmark_read_spans.specs.Link.{inline_target, own_label}
use Rattle.tocmark_read_spans.specs.Footnotes.{note_key, label_but_note, own_note, own_sought, label_sought}
use Rattle.tocmark_read_spans.specs.Run.{run_at, run_between}
use Rattle.tocmark_read_spans.specs.declared.definitions.Entry.{Entry}
use Rattle.tocmark_read_spans.specs.declared.link.Bracket.{Bracket}
use Rattle.tocmark_read_spans.specs.declared.footnote.Sought.TheVariants as sought_as
use Rattle.tocmark_read_spans.specs.declared.role.Leaf.TheVariants as leaf
use Rattle.tocmark_read_spans.specs.declared.role.Role.{Role}
use Rattle.tocmark_read_spans.specs.declared.role.Role.TheVariants.{Plain, Single}
use Rattle.tocmark_read_spans.specs.declared.run.Run.{Run}
use Rattle.tocmark_read_inlines.specs.Inlines as inlines
use Rattle.tocmark_read_inlines.specs.Inlines.{scan_start}
use Rattle.tocmark_read_inlines.specs.Scan as s
use Rattle.tocmark_read_inlines.specs.Write as w
use Rattle.tocmark_read_inlines.specs.declared.write.InlineKind.TheVariants as item
use Rattle.tocmark_read_inlines.specs.declared.write.Node.{Node}
use Rattle.tocmark_read_inlines.proofs.PlainNodes.{node}
use Rattle.tocmark_read_inlines.proofs.PlainPasses.{set_behind}
use Rattle.tocmark_reader.specs.Emitted.{emitted}
use Rattle.tocmark_reader.specs.Inlines.{inline_node, inline_item, leaf_of}
use Rattle.tocmark_reader.specs.Pages as pages
use Rattle.tocmark_reader.specs.Pages.{start_state, pieces_of, is_unwrapped, block_taken_in, block_step_in, paragraph_taken_in, wrapped_in, task_nodes, with_block, leaf_inlines_in, with_lines_of, with_inlines, content_line, block_tag}
use Rattle.tocmark_reader.specs.PlainTexts.{IsReadAs}
use Rattle.tocmark_reader.specs.Reading.{FoundView, collected_from, first_entry, found_under, noted_as, reading_of}
use Rattle.tocmark_reader.specs.Words.{name_text}
use Rattle.tocmark_reader.proofs.FormulaLines.{one_line}
use Rattle.tocmark_reader.proofs.PlainEvents.{unplaced, source_of}
use Rattle.tocmark_reader.proofs.PlainReading.{IsPrintable}
use Rattle.tocmark_reader.proofs.PlainSources.{IsClean, AreClean, clean_ascii, all_implied, source_between}
use Rattle.tocmark_laws.specs.Extensions.{is_word_line}
use Rattle.tocmark_laws.specs.Footnotes.{is_label, is_label_byte, in_brackets, noted_words, footnote_events}
use Rattle.tocmark_laws.proofs.AttributedHeadings.{replaced_clean}
use Rattle.tocmark_laws.proofs.BreakReading.{all_both}
use Rattle.tocmark_laws.proofs.BreakRoles.{plain, plain_append, at, text_written, single_written}
use Rattle.tocmark_laws.proofs.ExtensionBlocks.{never, IsFreeText}
use Rattle.tocmark_laws.proofs.ExtensionParagraphs.{begins_freely, found_from, no_inlines, no_returns, within_byte, clean_byte, clean_feed, at_start}
use Rattle.tocmark_laws.proofs.ListReading.{words_content, words_inlines}
use Rattle.tocmark_laws.proofs.NoteBlocks.{NotedText, IsNotedText, first_block, note_block, note_text, mark_of, last_line_of, text_of, noted_pieces, noted_blocks, blocks_are}
use Rattle.tocmark_laws.proofs.NoteLabels.{IsLabelByte, label_byte, IsInside, inside_label, inside_caret, label_here, note_here, name_kept}
use Rattle.tocmark_laws.proofs.QuoteReading.{line_put}
use Rattle.tocmark_laws.proofs.StrikethroughReading.{pass_words, byte_past, place_at}
use Rattle.tocmark_laws.proofs.WordsReading.{IsWordByte, IsWordLine, words_from, quiet_letter, free_letter, marks}

-- ---- the first pass over words and a reference

module _ (syntax : Syntax) (has : syntax.footnotes ≡ true) (find : List ℕ → Option Entry) (b : ℕ) (bs : List ℕ) (h : IsWordLine b bs) (x : ℕ) (xs : List ℕ) (labelled : AllByRecursion IsLabelByte (x ∷ xs)) (short : length (x ∷ xs) < 999) where
  abbrev words : List ℕ
  words = b ∷ bs

  abbrev name : List ℕ
  name = x ∷ xs

  abbrev n : ℕ
  n = length words

  abbrev m : ℕ
  m = length name

  abbrev bytes : List ℕ
  bytes = words ++ in_brackets name

  abbrev size : ℕ
  size = length bytes

  abbrev ahead : s.Known
  ahead = s.ahead_in syntax bytes

  abbrev step : s.State → ℕ → s.State
  step = s.scan_step_in syntax bytes ahead find

  inside : AllByRecursion IsInside name
  inside = all_implied IsLabelByte IsInside name inside_label labelled

  size_is : size ≡ n + m + 3
  size_is =
      let all : size ≡ n + length (in_brackets name) = length-append words (in_brackets name) in
      let inner : length (name ++ 93 ∷ []) ≡ m + 1 = length-append name (93 ∷ []) in
      omega (arith, all, inner)

  -- the bracket that opens
  abbrev bracket : Bracket
  bracket = record { start = n; inner = n + 1; runs = 0; image = false; nested = false }

  -- the pass within brackets
  abbrev within : List Run → ℕ → ℕ → s.State
  within runs place resume = record (at_start size) { runs = runs; brackets = bracket ∷ []; place = place; resume = resume }

  opened_by : (names : Names) (t : s.State) → s.looked_by names bytes ahead find 91 t ≡ s.opened false 1 t
  unfolding s.looked s.looked_all
  opened_by Four t = refl
  opened_by All t = refl

  opening_looked : (t : s.State) → s.looked_in syntax bytes ahead find 91 t ≡ s.opened false 1 t
  unfolding s.looked_in s.is_tilde_in s.is_caret_in s.is_dollar_in s.is_note_end_in
  opening_looked t = rw (never (syntax.strikethrough || syntax.subscript), never syntax.superscript, never syntax.math, never syntax.footnotes, never syntax.tables) (opened_by syntax.names t)

  opening_marks : s.is_mark_in syntax 91 ≡ true
  unfolding s.is_mark_in s.is_tilde_in s.is_caret_in s.is_dollar_in s.is_mark
  opening_marks = rw (never (syntax.strikethrough || syntax.subscript), never syntax.superscript, never syntax.math) refl

  opens : n + 1 < 2 ^ 64 → step (record (at_start size) { place = n }) 91 ≡ within [] (n + 1) (n + 1)
  unfolding s.scan_step_in s.opened s.marked
  opens fits =
      let next : plus n 1 ≡ n + 1 = omega (arith, fits) in
      let now : nat_le 0 n ≡ true = grind (arith, nat_tests) in
      rw (opening_marks, now, opening_looked (record (at_start size) { place = n }), next) refl

  -- a caret, which may be a mark
  abbrev Passed : Type 0
  Passed = (runs : List Run) × (resume : ℕ) × (resume ≤ n + 2) × (step (within [] (n + 1) (n + 1)) 94 ≡ within runs (n + 2) resume)

  caret_stands : bytes ≡ (words ++ 91 ∷ []) ++ 94 ∷ (name ++ 93 ∷ [])
  caret_stands = sym (append_assoc words (91 ∷ []) (94 ∷ (name ++ 93 ∷ [])))

  caret_place : n + 1 ≡ length (words ++ 91 ∷ [])
  caret_place = sym (length-append words (91 ∷ []))

  no_caret : (x == 94) ≡ false
  no_caret = differs (char_set_contains marks) x 94 refl (labelled.0).word.out

  run_stops : n + 2 < 2 ^ 64 → run_end bytes (n + 1) (Only 94) ≡ n + 2
  unfolding run_end is_in
  run_stops fits =
      let left : drop (n + 1) bytes ≡ 94 ∷ (name ++ 93 ∷ []) = ap (λ k. drop k bytes) caret_place ∙ ap (drop (length (words ++ 91 ∷ []))) caret_stands ∙ drop_behind (words ++ 91 ∷ []) (94 ∷ (name ++ 93 ∷ [])) in
      let end : plus (n + 1) 1 ≡ n + 2 = omega (arith, fits) in
      rw (left, no_caret, end) refl

  abbrev kept_run : Run
  kept_run = run_at bytes (n + 1) 94

  run_width : n + 2 < 2 ^ 64 → kept_run.count ≡ 1
  unfolding run_at run_between
  run_width fits = let one : n + 2 - (n + 1) ≡ 1 = omega arith in rw (run_stops fits, one) refl

  run_kept : (t : s.State) → (runs : List Run) × (s.with_run kept_run t ≡ record t { runs = runs })
  run_kept t = by_test (kept_run.opens || kept_run.closes)
    where
      by_test : (k : Bool) → (runs : List Run) × ((if k then record t { runs = t.runs ++ kept_run ∷ [] } else t) ≡ record t { runs = runs })
      by_test true = (t.runs ++ kept_run ∷ [], refl)
      by_test false = (t.runs, refl)

  caret_looked : syntax.superscript ≡ true → s.looked_in syntax bytes ahead find 94 (within [] (n + 1) (n + 1)) ≡ s.run_kept kept_run (within [] (n + 1) (n + 1))
  unfolding s.looked_in s.is_tilde_in s.is_caret_in s.run_taken
  caret_looked on = rw (never (syntax.strikethrough || syntax.subscript), on) refl

  caret_marks : syntax.superscript ≡ true → s.is_mark_in syntax 94 ≡ true
  unfolding s.is_mark_in s.is_tilde_in s.is_caret_in
  caret_marks on = rw (on, never (syntax.strikethrough || syntax.subscript)) refl

  caret_rests : syntax.superscript ≡ false → s.is_mark_in syntax 94 ≡ false
  unfolding s.is_mark_in s.is_tilde_in s.is_caret_in s.is_dollar_in s.is_mark
  caret_rests off = rw (off, never (syntax.strikethrough || syntax.subscript), never syntax.math) refl

  caret_kept : n + 2 < 2 ^ 64 → (runs : List Run) × (s.next_place (s.run_kept kept_run (within [] (n + 1) (n + 1))) ≡ within runs (n + 2) (n + 2))
  unfolding s.run_kept
  caret_kept fits =
      let kept = run_kept (record (within [] (n + 1) (n + 1)) { resume = plus (n + 1) kept_run.count }) in
      let next : plus (n + 1) 1 ≡ n + 2 = omega (arith, fits) in
      let end : plus (n + 1) kept_run.count ≡ n + 2 = ap (plus (n + 1)) (run_width fits) ∙ next in (
        kept.0,
        ap s.next_place (kept.1) ∙ ap (λ r. within (kept.0) (plus (n + 1) 1) r) end ∙ ap (λ p. within (kept.0) p (n + 2)) next,
      )

  caret_passed : n + 2 < 2 ^ 64 → Passed
  unfolding s.scan_step_in
  caret_passed fits = by_test syntax.superscript refl
    where
      now : nat_le (n + 1) (n + 1) ≡ true
      now = grind (arith, nat_tests)

      next : plus (n + 1) 1 ≡ n + 2
      next = omega (arith, fits)

      by_test : (k : Bool) → syntax.superscript ≡ k → Passed
      by_test true on = let kept = caret_kept fits in (kept.0, n + 2, omega arith, rw (caret_marks on, now) (ap s.next_place (caret_looked on) ∙ kept.1))
      by_test false off = ([], n + 1, omega arith, rw (caret_rests off, next) refl)

  -- ---- the bracket that closes

  abbrev last : ℕ
  last = n + 2 + m

  name_stands : bytes ≡ words ++ 91 ∷ 94 ∷ (name ++ 93 ∷ [])
  name_stands = refl

  own_stands : bytes ≡ (words ++ 91 ∷ []) ++ ((94 ∷ name) ++ 93 ∷ [])
  own_stands = caret_stands

  past : byte_at bytes (last + 1) ≡ 10
  past = byte_past bytes (last + 1) (omega (arith, size_is))

  none_left : drop (last + 1) bytes ≡ []
  none_left = ap (λ k. drop k bytes) (let q : last + 1 ≡ length bytes = omega (arith, size_is) in q) ∙ all_dropped bytes
    where
      all_dropped : (ys : List ℕ) → drop (length ys) ys ≡ []
      all_dropped [] = refl
      all_dropped (y ∷ ys) = all_dropped ys

  no_target : inline_target bytes (last + 1) ≡ None
  unfolding inline_target
  no_target = rw past refl

  none_behind : label_but_note bytes (last + 1) ≡ None
  unfolding label_but_note note_label starts_at label
  none_behind = rw (none_left, past) refl

  own_here : size < 2 ^ 64 → own_label bytes bracket last ≡ Some (word (n + 1) last (last + 1))
  unfolding own_label
  own_here fits =
      let found : label_from bytes (n + 1) ≡ Some (word (n + 1) (n + 1 + length (94 ∷ name)) (n + 1 + length (94 ∷ name) + 1)) = label_here bytes (words ++ 91 ∷ []) 94 name [] (n + 1) own_stands caret_place (inside_caret, inside) (omega (arith, short)) fits in
      let end : n + 1 + length (94 ∷ name) ≡ last = omega arith in
      let same : (last == last) ≡ true = grind (arith, nat_tests) in
      rw (found, end, same) refl

  abbrev the_name : Word
  the_name = word (n + 2) last (last + 1)

  name_here : size < 2 ^ 64 → note_label bytes n ≡ Some the_name
  name_here fits = note_here bytes words x xs [] n name_stands refl inside (omega (arith, short)) fits

  sought : size < 2 ^ 64 → label_sought bytes bracket last ≡ Some (sought_as.Footnote the_name)
  unfolding label_sought own_sought own_note
  sought fits =
      let next : plus last 1 ≡ last + 1 = omega (arith, size_is, fits) in
      let back : n + 1 - 1 ≡ n = omega arith in
      rw (next, none_behind, own_here fits, back, name_here fits) refl

  -- the pass after the reference
  abbrev note_leaf : Role
  note_leaf = Single (leaf.Footnote (s.stretch 0 m)) size

  abbrev behind : ℕ → s.State
  behind place = record { roles = slice_set (replicate size Plain) n note_leaf; runs = []; brackets = []; inactive = 0; place = place; resume = size; targets = []; texts = name; missed = [] }

  closing_looked : (t : s.State) → s.looked_in syntax bytes ahead find 93 t ≡ s.closed_in syntax.names true bytes find t
  unfolding s.looked_in s.is_tilde_in s.is_caret_in s.is_dollar_in s.is_note_end_in
  closing_looked t = rw (never (syntax.strikethrough || syntax.subscript), never syntax.superscript, never syntax.math, has) refl

  closing_marks : s.is_mark_in syntax 93 ≡ true
  unfolding s.is_mark_in s.is_tilde_in s.is_caret_in s.is_dollar_in s.is_mark
  closing_marks = rw (never (syntax.strikethrough || syntax.subscript), never syntax.superscript, never syntax.math) refl

  take_none : (runs : List Run) → take 0 runs ≡ []
  take_none [] = refl
  take_none (r ∷ runs) = refl

  abbrev alone : List Run → ℕ → s.State
  alone runs resume = record (at_start size) { runs = runs; place = last; resume = resume }

  note_put : (e : Entry) (runs : List Run) (resume : ℕ) → size < 2 ^ 64 → s.note_found bracket name (alone runs resume) (Some e) ≡ behind last
  unfolding s.kept s.noted
  note_put e runs resume fits =
      let end : plus last 1 ≡ size = omega (arith, size_is, fits) in
      let back : n + 1 - 1 ≡ n = omega arith in
      rw (name_kept name inside, end, back, take_none runs) refl

  closes_note : (e : Entry) (runs : List Run) (resume : ℕ) → find (note_key name) ≡ Some e → size < 2 ^ 64 → s.closed_in syntax.names true bytes find (within runs last resume) ≡ behind last
  unfolding s.closed_in s.popped s.closed_active_in s.closed_by_sought s.note_looked_up
  closes_note e runs resume found fits =
      let next : plus last 1 ≡ last + 1 = omega (arith, size_is, fits) in
      let stands : bytes_between bytes (n + 2) last ≡ name = piece_between bytes (words ++ 91 ∷ 94 ∷ []) name (93 ∷ []) (n + 2) last (sym (append_assoc words (91 ∷ 94 ∷ []) (name ++ 93 ∷ []))) (sym (length-append words (91 ∷ 94 ∷ []))) (ap (λ k. k + m) (sym (length-append words (91 ∷ 94 ∷ [])))) in
      rw (next, no_target, sought fits, stands, found) (note_put e runs resume fits)

  closes : (e : Entry) (runs : List Run) (resume : ℕ) → find (note_key name) ≡ Some e → resume ≤ last → size < 2 ^ 64 → step (within runs last resume) 93 ≡ behind size
  unfolding s.scan_step_in
  closes e runs resume found now fits =
      let yes : nat_le resume last ≡ true = grind (arith, now, nat_tests) in
      let end : plus last 1 ≡ size = omega (arith, size_is, fits) in
      rw (closing_marks, yes) (ap s.next_place (closing_looked (within runs last resume) ∙ closes_note e runs resume found fits) ∙ ap behind end)

  scanned : (e : Entry) → find (note_key name) ≡ Some e → size < 2 ^ 64 → s.scanned_in syntax bytes find (scan_start size [] [] []) ≡ behind size
  unfolding s.scanned_in s.settled scan_start emphasized
  scanned e found fits =
      let passed = caret_passed (omega (arith, size_is, fits)) in
      let runs : List Run = passed.0 in
      let resume : ℕ = passed.1 in
      let early : resume ≤ n + 2 = passed.2 in
      let first_place : 0 + n ≡ n = omega arith in
      ap (s.settled 0) (fold-append step (at_start size) words (in_brackets name)
      ∙ ap (λ (t : s.State). fold step t (in_brackets name)) (pass_words syntax bytes ahead find words (at_start size) h.bytes (omega (arith, size_is, fits)) ∙ ap (λ p. (let t : s.State = record (at_start size) { place = p } in t)) first_place)
      ∙ ap (λ (t : s.State). fold step t (94 ∷ (name ++ 93 ∷ []))) (opens (omega (arith, size_is, fits)))
      ∙ ap (λ (t : s.State). fold step t (name ++ 93 ∷ [])) (passed.3)
      ∙ fold-append step (within runs (n + 2) resume) name (93 ∷ [])
      ∙ ap (λ (t : s.State). step t 93) (pass_words syntax bytes ahead find name (within runs (n + 2) resume) (all_implied IsLabelByte IsWordByte name (λ y k. k.word) labelled) (omega (arith, size_is, fits)))
      ∙ closes e runs resume found (omega (arith, early)) fits)

  -- ---- the second pass

  abbrev nodes : List Node
  nodes = node 1 item.Text 0 n ∷ node 1 (item.Leaf (leaf.Footnote (s.stretch 0 m))) n size ∷ []

  roles_are : slice_set (replicate size Plain) n note_leaf ≡ replicate n Plain ++ note_leaf ∷ replicate (m + 2) Plain
  roles_are =
      let tail_width : length (94 ∷ (name ++ 93 ∷ [])) ≡ m + 2 = (let inner : length (name ++ 93 ∷ []) ≡ m + 1 = length-append name (93 ∷ []) in omega (arith, inner)) in
      ap (λ (rs : List Role). slice_set rs n note_leaf) (plain_append words (in_brackets name))
      ∙ set_behind (plain words) (plain (94 ∷ (name ++ 93 ∷ []))) Plain note_leaf n (sym (length_plain n))
      ∙ ap (λ k. replicate n Plain ++ note_leaf ∷ replicate k Plain) tail_width
    where
      length_plain : (k : ℕ) → length {A = Role} (replicate k Plain) ≡ k
      length_plain zero = refl
      length_plain (suc k) = ap suc (length_plain k)

  nodes_written : size < 2 ^ 64 → w.written (slice_set (replicate size Plain) n note_leaf) 1 ≡ nodes
  unfolding w.written w.flushed
  nodes_written fits =
      let end : n + 1 + (m + 2) ≡ size = omega (arith, size_is) in
      let rest : List Role = note_leaf ∷ replicate (m + 2) Plain in
      let first_place : 0 + n ≡ n = omega arith in
      ap (λ (rs : List Role). (w.flushed (fold w.role_step (at [] 1 None 0 0) rs)).nodes) roles_are
      ∙ ap (λ (t : w.State). (w.flushed t).nodes) (fold-append w.role_step (at [] 1 None 0 0) (replicate n Plain) rest)
      ∙ ap (λ (t : w.State). (w.flushed (fold w.role_step t rest)).nodes) (text_written [] 1 0 0 n (omega arith) (omega arith) (omega (arith, size_is, fits)))
      ∙ ap (λ k. (w.flushed (fold w.role_step (at [] 1 (Some 0) k 0) rest)).nodes) first_place
      ∙ ap (λ k. (w.flushed (fold w.role_step (at [] 1 (Some 0) n 0) (Single (leaf.Footnote (s.stretch 0 m)) k ∷ replicate (m + 2) Plain))).nodes) (sym end)
      ∙ ap (λ (t : w.State). (w.flushed t).nodes) (single_written [] 1 0 n 0 (leaf.Footnote (s.stretch 0 m)) (m + 2) (omega arith) (omega (arith, size_is, fits)))
      ∙ ap (λ k. node 1 item.Text 0 n ∷ node 1 (item.Leaf (leaf.Footnote (s.stretch 0 m))) n k ∷ []) end

  -- where they are in the text
  abbrev places : List (ℕ × ℕ)
  places = places_of 0 bytes

  text_moved : w.moved places (node 1 item.Text 0 n) ≡ node 1 item.Text 0 n
  unfolding w.moved
  text_moved =
      let last_place : 0 + (n - 1) + 1 ≡ n = omega arith in
      rw (place_at 0 bytes (n - 1) (omega (arith, size_is)), last_place) refl

  abbrev inlines_here : inlines.State
  inlines_here = record { nodes = node 1 item.Text 0 n ∷ w.moved places (node 1 (item.Leaf (leaf.Footnote (s.stretch 0 m))) n size) ∷ []; targets = []; texts = name; missed = [] }

  pub reference_found : (e : Entry) → find (note_key name) ≡ Some e → size < 2 ^ 64 → inlines.read_inlines_in syntax (record { bytes = bytes; places = places }) 1 find no_inlines ≡ inlines_here
  unfolding inlines.read_inlines_in
  reference_found e found fits =
      let c : content.State = record { bytes = bytes; places = places } in
      let with_nodes : List Node → inlines.State = λ ns. record { nodes = ns; targets = []; texts = name; missed = [] } in
      ap (λ (after : s.State). inlines.inlines_from c 1 after no_inlines) (scanned e found fits)
      ∙ ap (λ (ns : List Node). with_nodes (map (w.moved places) ns)) (nodes_written fits)
      ∙ ap (λ (one : Node). with_nodes (one ∷ w.moved places (node 1 (item.Leaf (leaf.Footnote (s.stretch 0 m))) n size) ∷ [])) text_moved

-- ---- the footnote that it means

same_bytes : (k : List ℕ) → bytes_eq k k ≡ true
same_bytes k = (bytes_eq-Decides k k).1 refl

abbrev footnotes : List ℕ → defs.State
footnotes name = record { keys = note_key name ∷ []; labels = []; entries = defs.no_entry ∷ []; texts = [] }

note_known : (all : Bool) (name : List ℕ) → first_entry all (note_key name ∷ []) (defs.no_entry ∷ []) (note_key name) ≡ Some defs.no_entry
note_known all name = rw (same_bytes (note_key name)) (either (all && defs.is_note_key (note_key name)))
  where
    either : (t : Bool) → if◌then◌else◌ {A = Option Entry} t (Some defs.no_entry) (Some defs.no_entry) ≡ Some defs.no_entry
    either true = refl
    either false = refl

content_at : (text l body : List ℕ) (y from to next : ℕ) → bytes_between text from to ≡ l → l ≡ body ++ y ∷ [] → is_in White y ≡ false → AreNoZeros l → to ≡ from + length l → to < 2 ^ 64 → content.content_of text (record { start = from; end = to; next = next } ∷ []) ≡ record { bytes = l; places = places_of from l }
unfolding content.content_of
content_at text l body y from to next e split ink zeros width fits =
    ap content.trimmed (line_put text l from to next (record { bytes = []; places = [] }) e zeros width fits)
    ∙ ap (λ (ys : List ℕ). content.trimmed (record { bytes = ys ++ 10 ∷ []; places = places_of from l ++ (to, next) ∷ [] })) split
    ∙ trimmed_feed body y (places_of from l) (to, next) (length_places from l ∙ ap length split) ink
    ∙ ap (λ (ys : List ℕ). (let c : content.State = record { bytes = ys; places = places_of from l } in c)) (sym split)

ink_bracket : is_in White 93 ≡ false
unfolding is_in
ink_bracket = refl

-- a paragraph of one line
pub paragraph_put : (syntax : Syntax) (text : List ℕ) (find : List ℕ → Option Entry) (b : Block) (p : Piece) (st : pages.State) (c : content.State) (found : inlines.State) → content.content_of text (map content_line (p ∷ [])) ≡ c → inlines.read_inlines_in syntax c (plus b.depth 1) find st.inlines ≡ found → wrapped_in syntax text find (p ∷ []) b st ≡ with_inlines found (with_block text b st)
unfolding wrapped_in leaf_inlines_in with_lines_of with_block
paragraph_put syntax text find b p st c found e k =
    rw (one_line syntax p)
    (ap (λ (d : content.State). with_inlines (inlines.read_inlines_in syntax d (plus b.depth 1) find st.inlines) (with_block text b st)) e
    ∙ ap (λ (i : inlines.State). with_inlines i (with_block text b st)) k)

pub mark_clean : (b : ℕ) → 32 ≤ b → b < 127 → IsClean b
mark_clean b low high = clean_byte b (record { low = low; high = high })

-- ---- the law

module _ (syntax : Syntax) (has : syntax.footnotes ≡ true) (b : ℕ) (bs : List ℕ) (h : IsWordLine b bs) (x : ℕ) (xs : List ℕ) (labelled : AllByRecursion IsLabelByte (x ∷ xs)) (short : length (x ∷ xs) < 999) (c : ℕ) (cs : List ℕ) (k : IsWordLine c cs) where
  abbrev said : List ℕ
  said = b ∷ bs

  abbrev label_bytes : List ℕ
  label_bytes = x ∷ xs

  abbrev said_below : List ℕ
  said_below = c ∷ cs

  abbrev first_line : List ℕ
  first_line = said ++ in_brackets label_bytes

  abbrev given : NotedText
  given = record { first = first_line; name = x; others = xs; letter = c; rest = cs }

  abbrev text : List ℕ
  text = text_of given

  abbrev last_line : List ℕ
  last_line = last_line_of given

  abbrev mark : List ℕ
  mark = mark_of given

  abbrev n1 : ℕ
  n1 = length first_line

  abbrev total : ℕ
  total = length text

  abbrev from : ℕ
  from = n1 + 2

  abbrev words_from_place : ℕ
  words_from_place = from + length mark

  abbrev find : List ℕ → Option Entry
  find = first_entry syntax.undefined_notes (note_key label_bytes ∷ []) (defs.no_entry ∷ [])

  all_inside : AllByRecursion IsInside label_bytes
  all_inside = all_implied IsLabelByte IsInside label_bytes inside_label labelled

  total_is : total ≡ from + length last_line
  total_is = length-append first_line (10 ∷ 10 ∷ last_line) ∙ (let q : n1 + suc (suc (length last_line)) ≡ n1 + 2 + length last_line = omega arith in q)

  brackets_shown : AllByRecursion IsPrintable (in_brackets label_bytes)
  brackets_shown = (record { low = omega arith; high = omega arith }, (record { low = omega arith; high = omega arith }, all_both IsPrintable label_bytes (93 ∷ []) (all_implied IsInside IsPrintable label_bytes (λ y i. i.printable) all_inside) (record { low = omega arith; high = omega arith }, tt)))

  first_shown : AllByRecursion IsPrintable first_line
  first_shown = all_both IsPrintable said (in_brackets label_bytes) (all_implied IsWordByte IsPrintable said (λ y i. i.printable) h.bytes) brackets_shown

  last_shown : AllByRecursion IsPrintable last_line
  last_shown = all_both IsPrintable mark said_below (all_both IsPrintable (in_brackets label_bytes) (58 ∷ 32 ∷ []) brackets_shown (record { low = omega arith; high = omega arith }, (record { low = omega arith; high = omega arith }, tt))) (all_implied IsWordByte IsPrintable said_below (λ y i. i.printable) k.bytes)

  clean : AreClean text
  clean = all_both IsClean first_line (10 ∷ 10 ∷ last_line) (all_implied IsPrintable IsClean first_line clean_byte first_shown) (clean_feed, (clean_feed, all_implied IsPrintable IsClean last_line clean_byte last_shown))

  free : IsFreeText first_line
  free = record {
    within = all_implied IsPrintable IsWithin first_line within_byte first_shown;
    begins = λ p. begins_freely p b (bs ++ in_brackets label_bytes) (quiet_letter b h.letter) (free_letter b h.letter);
    first = b;
    rest = bs ++ in_brackets label_bytes;
    shape = refl;
    dash = turned is_ascii_alphabetic 45 b h.letter refl;
    cross = turned is_ascii_alphabetic 43 b h.letter refl;
  }

  noted_text : IsNotedText given
  noted_text = record { free = free; bracket = λ more. turned is_ascii_alphabetic 91 b h.letter refl; inside = all_inside; short = omega (arith, short); words = k }

  -- what the blocks are

  abbrev blocks : List Block
  blocks = noted_blocks given n1 total

  abbrev pieces : List Piece
  pieces = noted_pieces given n1 total

  abbrev view : BlocksView
  view = record { blocks = blocks; pieces = pieces; definitions = [] }

  pre_is : text ≡ (first_line ++ 10 ∷ 10 ∷ []) ++ last_line
  pre_is = sym (append_assoc first_line (10 ∷ 10 ∷ []) last_line)

  abbrev before_name : List ℕ
  before_name = (first_line ++ 10 ∷ 10 ∷ []) ++ 91 ∷ 94 ∷ []

  name_parts : text ≡ before_name ++ (label_bytes ++ (93 ∷ 58 ∷ 32 ∷ said_below))
  name_parts =
      pre_is
      ∙ ap (λ (ys : List ℕ). (first_line ++ 10 ∷ 10 ∷ []) ++ ys) (append_assoc (in_brackets label_bytes) (58 ∷ 32 ∷ []) said_below ∙ ap (λ (ys : List ℕ). 91 ∷ 94 ∷ ys) (append_assoc label_bytes (93 ∷ []) (58 ∷ 32 ∷ said_below)))
      ∙ sym (append_assoc (first_line ++ 10 ∷ 10 ∷ []) (91 ∷ 94 ∷ []) (label_bytes ++ (93 ∷ 58 ∷ 32 ∷ said_below)))

  before_name_is : from + 2 ≡ length before_name
  before_name_is = sym (length-append (first_line ++ 10 ∷ 10 ∷ []) (91 ∷ 94 ∷ []) ∙ ap (λ i. i + 2) (length-append first_line (10 ∷ 10 ∷ [])))

  name_stands_below : bytes_between text (from + 2) (from + (2 + length label_bytes)) ≡ label_bytes
  name_stands_below = piece_between text before_name label_bytes (93 ∷ 58 ∷ 32 ∷ said_below) (from + 2) (from + (2 + length label_bytes)) name_parts before_name_is (let q : from + (2 + length label_bytes) ≡ from + 2 + length label_bytes = omega arith in q ∙ ap (λ i. i + length label_bytes) before_name_is)

  label_clean : AreClean label_bytes
  label_clean = all_implied IsInside IsClean label_bytes (λ y i. clean_byte y i.printable) all_inside

  collected : collected_from syntax text view ≡ footnotes label_bytes
  unfolding collected_from noted_as defs.noted_with
  collected = rw (has, name_stands_below, replaced_clean label_bytes label_clean) refl

  -- what is found

  abbrev inlines_first : inlines.State
  inlines_first = record {
    nodes = node 1 item.Text 0 (length said) ∷ w.moved (places_of 0 first_line) (node 1 (item.Leaf (leaf.Footnote (s.stretch 0 (length label_bytes)))) (length said) n1) ∷ [];
    targets = [];
    texts = label_bytes;
    missed = [];
  }

  abbrev inlines_between : inlines.State
  inlines_between = record { nodes = []; targets = []; texts = label_bytes; missed = [] }

  abbrev inlines_last : inlines.State
  inlines_last = record inlines_between { nodes = node 2 item.Text words_from_place (words_from_place + length said_below) ∷ [] }

  abbrev one : Block
  one = first_block n1

  abbrev two : Block
  two = note_block from total (from + 2) (from + (2 + length label_bytes))

  abbrev three : Block
  three = note_text words_from_place total 2

  abbrev page_one : pages.State
  page_one = with_inlines inlines_first (with_block text one (start_state []))

  abbrev page_two : pages.State
  page_two = with_block text two page_one

  abbrev page_three : pages.State
  page_three = with_inlines inlines_last (with_block text three page_two)

  abbrev found_state : pages.State → FoundView
  found_state page = record { nodes = page.nodes; defined = []; unresolved = defs.distinct_labels page.inlines.texts page.inlines.missed }

  first_stands : bytes_between text 0 n1 ≡ first_line
  first_stands = piece_between text [] first_line (10 ∷ 10 ∷ last_line) 0 n1 refl refl (let q : n1 ≡ 0 + n1 = omega arith in q)

  first_content : total < 2 ^ 64 → content.content_of text (map content_line (piece_of 0 0 n1 (n1 + 1) ∷ [])) ≡ record { bytes = first_line; places = places_of 0 first_line }
  unfolding content_line
  first_content fits =
      content_at text first_line (said ++ 91 ∷ 94 ∷ label_bytes) 93 0 n1 (n1 + 1) first_stands (sym (append_assoc said (91 ∷ 94 ∷ label_bytes) (93 ∷ []))) ink_bracket (all_implied IsPrintable (λ y. (y == 0) ≡ false) first_line (λ y i. (clean_byte y i).some) first_shown) (let q : n1 ≡ 0 + n1 = omega arith in q) (omega (arith, total_is, fits))

  first_put : total < 2 ^ 64 → block_step_in syntax text find blocks pieces (start_state []) one ≡ page_one
  unfolding is_unwrapped block_taken_in paragraph_taken_in
  first_put fits =
      paragraph_put syntax text find one (piece_of 0 0 n1 (n1 + 1)) (start_state []) (record { bytes = first_line; places = places_of 0 first_line }) inlines_first (first_content fits)
      (reference_found syntax has find b bs h x xs labelled short defs.no_entry (note_known syntax.undefined_notes label_bytes) (omega (arith, total_is, fits)))

  second_put : block_step_in syntax text find blocks pieces page_one two ≡ page_two
  unfolding is_unwrapped block_taken_in
  second_put = refl

  last_parts : text ≡ ((first_line ++ 10 ∷ 10 ∷ []) ++ mark) ++ (said_below ++ [])
  last_parts = pre_is ∙ sym (append_assoc (first_line ++ 10 ∷ 10 ∷ []) mark said_below) ∙ ap (λ (ys : List ℕ). ((first_line ++ 10 ∷ 10 ∷ []) ++ mark) ++ ys) (sym (append-nil said_below))

  last_place : words_from_place ≡ length ((first_line ++ 10 ∷ 10 ∷ []) ++ mark)
  last_place = ap (λ i. i + length mark) (sym (length-append first_line (10 ∷ 10 ∷ []))) ∙ sym (length-append (first_line ++ 10 ∷ 10 ∷ []) mark)

  last_end : words_from_place + length said_below ≡ total
  last_end = (let wide : length last_line ≡ length mark + length said_below = length-append mark said_below in omega (arith, total_is, wide))

  last_stands : bytes_between text words_from_place total ≡ said_below
  last_stands = piece_between text ((first_line ++ 10 ∷ 10 ∷ []) ++ mark) said_below [] words_from_place total last_parts last_place (sym last_end ∙ ap (λ i. i + length said_below) last_place)

  third_put : total < 2 ^ 64 → block_step_in syntax text find blocks pieces page_two three ≡ page_three
  unfolding is_unwrapped block_taken_in paragraph_taken_in with_block
  third_put fits =
      let p : Piece = piece_of 0 words_from_place total total in
      paragraph_put syntax text find three p page_two (record { bytes = said_below; places = places_of words_from_place said_below }) inlines_last (words_content text p c cs last_stands last_end (omega arith) fits k)
      (words_inlines syntax find inlines_between words_from_place 2 c cs k.bytes (omega (arith, last_end, fits)))

  found : total < 2 ^ 64 → found_under syntax text ≡ found_state page_three
  found fits =
      found_from syntax text view (footnotes label_bytes) (blocks_are syntax given n1 total noted_text has refl total_is (no_returns text clean) fits) collected
      ∙ ap (λ (st : pages.State). found_state (block_step_in syntax text find blocks pieces (block_step_in syntax text find blocks pieces st two) three)) (first_put fits)
      ∙ ap (λ (st : pages.State). found_state (block_step_in syntax text find blocks pieces st three)) second_put
      ∙ ap found_state (third_put fits)

  -- the events

  abbrev events_of : List ℕ → List ℕ → List ℕ → List ℕ → List EventView
  events_of words reference name below =
      Start Paragraph
      ∷ Leaf (Text words)
      ∷ Leaf (FootnoteReference reference)
      ∷ End end.Paragraph
      ∷ Start (FootnoteDefinition name)
      ∷ Start Paragraph
      ∷ Leaf (Text below)
      ∷ End end.Paragraph
      ∷ End end.FootnoteDefinition
      ∷ []

  named : defs.stretch_text label_bytes (s.stretch 0 (length label_bytes)) ≡ label_bytes
  named =
      ap utf8_lossy (piece_between label_bytes [] label_bytes [] 0 (length label_bytes) (sym (append-nil label_bytes)) refl (let q : length label_bytes ≡ 0 + length label_bytes = omega arith in q))
      ∙ utf8_lossy-IsUtf8 label_bytes (IsUtf8-from_ascii label_bytes (clean_ascii label_bytes label_clean))

  named_below : name_text (bytes_between text (from + 2) (from + (2 + length label_bytes))) ≡ label_bytes
  unfolding name_text
  named_below =
      ap (λ (ys : List ℕ). utf8_lossy (collapsed (flat_map replaced ys))) name_stands_below
      ∙ ap (λ (ys : List ℕ). utf8_lossy (collapsed ys)) (replaced_clean label_bytes label_clean)
      ∙ ap utf8_lossy (name_kept label_bytes all_inside)
      ∙ utf8_lossy-IsUtf8 label_bytes (IsUtf8-from_ascii label_bytes (clean_ascii label_bytes label_clean))

  emits : merged (unplaced (emitted text page_three.nodes)) ≡ footnote_events said label_bytes said_below
  unfolding with_block block_tag task_nodes w.moved inline_node inline_item leaf_of
  emits =
      let words : source_of text 0 (length said) ≡ said = source_between text [] said (in_brackets label_bytes ++ 10 ∷ 10 ∷ last_line) 0 (length said) (append_assoc said (in_brackets label_bytes) (10 ∷ 10 ∷ last_line)) refl (let q : length said ≡ 0 + length said = omega arith in q) clean in
      let below : source_of text words_from_place (words_from_place + length said_below) ≡ said_below = source_between text ((first_line ++ 10 ∷ 10 ∷ []) ++ mark) said_below [] words_from_place (words_from_place + length said_below) last_parts last_place (ap (λ i. i + length said_below) last_place) clean in
      let there : List ℕ = source_of text words_from_place (words_from_place + length said_below) in
      let name_there : List ℕ = name_text (bytes_between text (from + 2) (from + (2 + length label_bytes))) in
      ap (λ (ys : List ℕ). events_of ys (defs.stretch_text label_bytes (s.stretch 0 (length label_bytes))) name_there there) words
      ∙ ap (λ (ys : List ℕ). events_of said ys name_there there) named
      ∙ ap (λ (ys : List ℕ). events_of said label_bytes ys there) named_below
      ∙ ap (λ (ys : List ℕ). events_of said label_bytes label_bytes ys) below

  is_read : total < 2 ^ 64 → IsReadAs (reading_of syntax text) (footnote_events said label_bytes said_below)
  unfolding reading_of with_block
  is_read fits = record {
    events = ap (λ (f : FoundView). merged (unplaced (emitted text f.nodes))) (found fits) ∙ emits;
    defined = ap (λ (f : FoundView). f.defined) (found fits);
    unresolved = ap (λ (f : FoundView). f.unresolved) (found fits);
  }

pub footnotes_read : (syntax : Syntax) (words label note : List ℕ) → syntax.footnotes ≡ true → is_word_line words ≡ true → is_label label ≡ true → is_word_line note ≡ true → length (noted_words words label note) < 2 ^ 64 → IsReadAs (reading_of syntax (noted_words words label note)) (footnote_events words label note)
footnotes_read syntax [] ls ms has plain is_named below fits = absurd (true≢false (sym plain))
footnotes_read syntax (b ∷ bs) [] ms has plain is_named below fits = absurd (true≢false (sym is_named))
footnotes_read syntax (b ∷ bs) (x ∷ xs) [] has plain is_named below fits = absurd (true≢false (sym below))
footnotes_read syntax (b ∷ bs) (x ∷ xs) (c ∷ cs) has plain is_named below fits =
    let both = both_true (list_all is_label_byte (x ∷ xs)) (nat_lt (length (x ∷ xs)) 999) is_named in
    let few : nat_lt (length (x ∷ xs)) 999 ≡ true = both.1 in
    let first : List ℕ = (b ∷ bs) ++ in_brackets (x ∷ xs) in
    let same : first ++ 10 ∷ 10 ∷ ((in_brackets (x ∷ xs) ++ 58 ∷ 32 ∷ []) ++ c ∷ cs) ≡ noted_words (b ∷ bs) (x ∷ xs) (c ∷ cs) = ap (λ (ys : List ℕ). first ++ 10 ∷ 10 ∷ ys) (append_assoc (in_brackets (x ∷ xs)) (58 ∷ 32 ∷ []) (c ∷ cs)) in
    subst (λ (ys : List ℕ). IsReadAs (reading_of syntax ys) (footnote_events (b ∷ bs) (x ∷ xs) (c ∷ cs))) same
    (is_read syntax has b bs (words_from (b ∷ bs) plain) x xs (all_from is_label_byte IsLabelByte (x ∷ xs) label_byte (both.0)) (grind (arith, few, nat_tests)) c cs (words_from (c ∷ cs) below) (subst (λ (ys : List ℕ). length ys < 2 ^ 64) (sym same) fits))
