-- A phrase between two tildes on either side is read as struck through.
use Rattle.std.proofs.Common.{◌≡◌, ℕ, zero, suc, ◌+◌, ◌-◌, ◌^◌, ◌<◌, ◌≤◌, true, false, ◌==◌, ◌&&◌, ◌||◌, nat_lt, nat_le, List, [], ◌∷◌, ◌++◌, length, map, drop, replicate, slice_get, slice_set, refl, ap, sym, ◌∙◌, arith, append_assoc, length-append, Option, None, Some, true≢false}
use Rattle.std.proofs.lemmas.Bool.Decides.{nat_tests}
use Rattle.std.proofs.lemmas.List.Sums.{fold-append}
use Rattle.std.specs.Char.{is_ascii_alphanumeric}
use Rattle.std.specs.List.{AllByRecursion, fold, list_all}
use Rattle.tocmark_event.specs.Merged.{merged}
use Rattle.tocmark_read_scan.specs.Basic.{plus, byte_at, character_of}
use Rattle.tocmark_read_scan.specs.Class.{is_in, run_end}
use Rattle.tocmark_read_scan.specs.Content as content
use Rattle.tocmark_read_scan.specs.PlainParts.{last_byte}
use Rattle.tocmark_read_scan.specs.Repeat.{repeated}
use Rattle.tocmark_read_scan.specs.Side.{side_of, side_at, side_before, code_at}
use Rattle.tocmark_read_scan.specs.Side as sides
use Rattle.tocmark_read_scan.specs.declared.class.Class.TheVariants.{White, Only}
use Rattle.tocmark_read_scan.specs.declared.side.Side.TheVariants.{Space, Other}
use Rattle.tocmark_read_scan.specs.declared.syntax.Syntax.{Syntax}
use Rattle.tocmark_read_scan.proofs.PlainContent.{places_of, byte_behind}
use Rattle.tocmark_read_scan.proofs.PlainPieces.{drop_behind, content_of_lines}
use Rattle.tocmark_read_scan.proofs.PlainSides.{side_at_letter, side_before_letter}
use Rattle.tocmark_read_scan.proofs.PlainTests.{both_true, both_false, is_not, all_from}
use Rattle.tocmark_read_lines.specs.Cells.{first_cursor}
use Rattle.tocmark_read_lines.specs.Marks.{is_rule, is_rule_byte, marker_at, bullet_at, ordered_at, fence_at, is_fence_byte}
use Rattle.tocmark_read_blocks.proofs.PlainLines.{IsWithin, numbered}
use Rattle.tocmark_read_blocks.proofs.PlainStarts.{some_cells, no_heading, no_underline}
use Rattle.tocmark_read_blocks.proofs.PlainSteps.{front}
use Rattle.tocmark_read_spans.specs.Emphasis.{emphasized, fits, is_tilde_or_caret, class_of, extended_span, span_of, width_of, matched, once, run_step}
use Rattle.tocmark_read_spans.specs.Run.{is_space, is_punctuation, tildes_open, tildes_close, are_read, is_subscript, tildes_between, tildes_at}
use Rattle.tocmark_read_spans.specs.declared.definitions.Entry.{Entry}
use Rattle.tocmark_read_spans.specs.declared.role.Role.{Role}
use Rattle.tocmark_read_spans.specs.declared.role.Role.TheVariants.{Plain, Hidden, Open, Close}
use Rattle.tocmark_read_spans.specs.declared.role.Span.TheVariants.{Strikethrough}
use Rattle.tocmark_read_spans.specs.declared.run.Run.{Run}
use Rattle.tocmark_read_inlines.specs.Inlines as inlines
use Rattle.tocmark_read_inlines.specs.Inlines.{scan_start}
use Rattle.tocmark_read_inlines.specs.Scan as s
use Rattle.tocmark_read_inlines.specs.Write as w
use Rattle.tocmark_read_inlines.specs.declared.write.InlineKind.TheVariants as item
use Rattle.tocmark_read_inlines.specs.declared.write.Node.{Node}
use Rattle.tocmark_read_inlines.proofs.PlainPasses.{set_behind}
use Rattle.tocmark_read_inlines.proofs.Sparse.{plain_fold}
use Rattle.tocmark_reader.specs.Emitted.{emitted}
use Rattle.tocmark_reader.specs.Inlines.{inline_node, inline_item, span_tag}
use Rattle.tocmark_reader.specs.Pages.{with_block, block_tag, task_nodes}
use Rattle.tocmark_reader.specs.PlainTexts.{IsReadAs}
use Rattle.tocmark_reader.specs.Reading.{FoundView, first_entry, found_under, reading_of}
use Rattle.tocmark_reader.proofs.PlainEvents.{unplaced, source_of}
use Rattle.tocmark_reader.proofs.PlainReading.{IsPrintable}
use Rattle.tocmark_reader.proofs.PlainSources.{IsClean, AreClean, all_implied, source_between}
use Rattle.tocmark_reader.proofs.QuietContent.{split_last}
use Rattle.tocmark_laws.specs.Extensions.{is_word_byte, is_phrase, in_tildes, struck_paragraph}
use Rattle.tocmark_laws.proofs.ExtensionBlocks.{never, BeginsFreely, IsFreeText}
use Rattle.tocmark_laws.proofs.WordsReading.{IsWordByte, word_byte, text_byte}
use Rattle.tocmark_laws.proofs.ExtensionParagraphs.{IsFreeByte, free_note, free_row, free_html, no_inlines, found_of, paragraph_found, within_byte, clean_byte, at_start, skip_bytes}

-- a phrase
pub record IsPhrase (b : ℕ) (bs : List ℕ) : Type 0 where
  pub bytes : AllByRecursion IsWordByte (b ∷ bs)
  pub first : is_ascii_alphanumeric b ≡ true
  pub last : is_ascii_alphanumeric (last_byte b bs) ≡ true

pub phrase_from : (b : ℕ) (bs : List ℕ) → is_phrase (b ∷ bs) ≡ true → IsPhrase b bs
phrase_from b bs h =
    let two = both_true (list_all is_word_byte (b ∷ bs) && is_ascii_alphanumeric b) (is_ascii_alphanumeric (last_byte b bs)) h in
    let one = both_true (list_all is_word_byte (b ∷ bs)) (is_ascii_alphanumeric b) (two.0) in
    record { bytes = all_from is_word_byte IsWordByte (b ∷ bs) word_byte (one.0); first = one.1; last = two.1 }

pub small_letter : (b : ℕ) → is_ascii_alphanumeric b ≡ true → b < 123
small_letter b h = grind (arith, h, nat_tests)

pub no_tilde : (b : ℕ) → is_ascii_alphanumeric b ≡ true → (b == 126) ≡ false
no_tilde b h = let small : b < 123 = small_letter b h in grind (arith, nat_tests)

-- ---- the line begins nothing

no_fence : (at b : ℕ) (rest : List ℕ) → (b == 126) ≡ false → fence_at (numbered at (126 ∷ 126 ∷ b ∷ rest)) front ≡ None
unfolding fence_at is_fence_byte
no_fence at b rest h = rw h refl

free_tilde : IsFreeByte 126
free_tilde = record { bracket = refl; colon = refl; bar = refl; dash = refl; space = refl; less = refl }

tildes_begin_nothing : (at b : ℕ) (rest : List ℕ) → (b == 126) ≡ false → BeginsFreely (126 ∷ 126 ∷ b ∷ rest) (numbered at (126 ∷ 126 ∷ b ∷ rest))
unfolding first_cursor is_rule is_rule_byte marker_at bullet_at ordered_at
tildes_begin_nothing at b rest h = record {
  nothing = record {
    some = some_cells (length (numbered (at + 1) (126 ∷ b ∷ rest)));
    ink = refl;
    quote = refl;
    rule = refl;
    marker = refl;
    heading = no_heading at 126 (126 ∷ b ∷ rest) refl refl;
    fence = no_fence at b rest h;
    html = refl;
    underline = no_underline at 126 (126 ∷ b ∷ rest) refl refl;
  };
  note = free_note at 126 (126 ∷ b ∷ rest) refl;
  colon = refl;
  row = free_row 126 (126 ∷ b ∷ rest) free_tilde;
  html = free_html 126 (126 ∷ b ∷ rest) refl;
}

-- ---- the runs

abbrev opener : Run
opener = record { place = 0; count = 2; length = 2; byte = 126; opens = true; closes = false; subscript = false }

abbrev closer : ℕ → Run
closer n = record { place = n + 2; count = 2; length = 2; byte = 126; opens = false; closes = true; subscript = false }

first_end : (b : ℕ) (rest : List ℕ) → (b == 126) ≡ false → run_end (126 ∷ 126 ∷ b ∷ rest) 0 (Only 126) ≡ 2
unfolding run_end is_in
first_end b rest h = rw h refl

opens_here : (syntax : Syntax) (b : ℕ) (rest : List ℕ) → is_ascii_alphanumeric b ≡ true → syntax.strikethrough ≡ true → tildes_at syntax (126 ∷ 126 ∷ b ∷ rest) 0 ≡ opener
unfolding tildes_at tildes_between are_read tildes_open tildes_close is_space is_punctuation is_subscript side_before
opens_here syntax b rest h strike =
    let after : side_at (126 ∷ 126 ∷ b ∷ rest) 2 ≡ Other = side_at_letter (126 ∷ 126 ∷ b ∷ rest) 2 b refl (small_letter b h) h in
    ap (λ end. tildes_between syntax (126 ∷ 126 ∷ b ∷ rest) 0 end) (first_end b rest (no_tilde b h))
    ∙ rw (strike, after, never syntax.subscript) refl

pub space_past : (bytes : List ℕ) (p : ℕ) → byte_at bytes p ≡ 10 → side_at bytes p ≡ Space
unfolding side_at code_at character_of side_of sides.is_space
space_past bytes p e = rw e refl

pub byte_past : (xs : List ℕ) (n : ℕ) → n ≡ length xs → byte_at xs n ≡ 10
byte_past xs n e = ap (byte_at xs) e ∙ none xs
  where
    none : (ys : List ℕ) → byte_at ys (length ys) ≡ 10
    none [] = refl
    none (y ∷ ys) = none ys

last_end : (bytes : List ℕ) (p : ℕ) → drop p bytes ≡ 126 ∷ 126 ∷ [] → p + 2 < 2 ^ 64 → run_end bytes p (Only 126) ≡ p + 2
unfolding run_end is_in
last_end bytes p e fits = let two : plus p 2 ≡ p + 2 = omega (arith, fits) in rw (e, two) refl

-- where the phrase is
record IsPlaced (b : ℕ) (bs : List ℕ) : Type 0 where
  size : length (in_tildes (b ∷ bs)) ≡ length (b ∷ bs) + 4
  left : drop (length (b ∷ bs) + 2) (in_tildes (b ∷ bs)) ≡ 126 ∷ 126 ∷ []
  last : byte_at (in_tildes (b ∷ bs)) (length (b ∷ bs) + 2 - 1) ≡ last_byte b bs

placed : (b : ℕ) (bs : List ℕ) → IsPlaced b bs
placed b bs =
    let xs : List ℕ = b ∷ bs in
    let n : ℕ = length xs in
    let two : List ℕ = 126 ∷ 126 ∷ [] in
    let split = split_last b bs in
    let body : List ℕ = split.0 in
    let y : ℕ = last_byte b bs in
    let width : n ≡ length body + 1 = ap length (split.1) ∙ length-append body (y ∷ []) in
    let at : n + 2 ≡ length (126 ∷ 126 ∷ xs) = omega arith in
    let shape : in_tildes xs ≡ (126 ∷ 126 ∷ body) ++ y ∷ two = ap (λ (l : List ℕ). 126 ∷ 126 ∷ (l ++ two)) (split.1) ∙ ap (λ (l : List ℕ). 126 ∷ 126 ∷ l) (append_assoc body (y ∷ []) two) in
    let before : n + 2 - 1 ≡ length (126 ∷ 126 ∷ body) = omega (arith, width) in
    record {
      size = ap (λ k. suc (suc k)) (length-append xs two) ∙ (let q : suc (suc (n + 2)) ≡ n + 4 = omega arith in q);
      left = ap (λ k. drop k (in_tildes xs)) at ∙ drop_behind (126 ∷ 126 ∷ xs) two;
      last = ap (λ (l : List ℕ). byte_at l (n + 2 - 1)) shape ∙ byte_behind (126 ∷ 126 ∷ body) two y (n + 2 - 1) before;
    }

closes_here : (syntax : Syntax) (b : ℕ) (bs : List ℕ) → is_ascii_alphanumeric (last_byte b bs) ≡ true → syntax.strikethrough ≡ true → length (in_tildes (b ∷ bs)) < 2 ^ 64 → tildes_at syntax (in_tildes (b ∷ bs)) (length (b ∷ bs) + 2) ≡ closer (length (b ∷ bs))
unfolding tildes_at tildes_between are_read tildes_open tildes_close is_space is_punctuation is_subscript
closes_here syntax b bs h strike fits =
    let xs : List ℕ = b ∷ bs in
    let n : ℕ = length xs in
    let bytes : List ℕ = in_tildes xs in
    let p : IsPlaced b bs = placed b bs in
    let size : length bytes ≡ n + 4 = p.size in
    let end : n + 2 + 2 ≡ length bytes = omega (arith, size) in
    let after : side_at bytes (n + 2 + 2) ≡ Space = space_past bytes (n + 2 + 2) (byte_past bytes (n + 2 + 2) end) in
    let before : side_before bytes (n + 2) ≡ Other = side_before_letter bytes (n + 2) (last_byte b bs) (omega arith) p.last (small_letter (last_byte b bs) h) h in
    let count : n + 2 + 2 - (n + 2) ≡ 2 = omega arith in
    ap (λ e. tildes_between syntax bytes (n + 2) e) (last_end bytes (n + 2) p.left (omega (arith, size, fits)))
    ∙ rw (count, strike, after, before, never) refl

-- ---- the first pass

no_mark_in : (syntax : Syntax) (b : ℕ) → s.is_quiet b ≡ true → s.is_mark_in syntax b ≡ false
unfolding s.is_any_mark s.is_mark_in s.is_tilde_in s.is_caret_in s.is_dollar_in
no_mark_in syntax b h =
    let three = both_false (s.is_mark b || (b == 126) || (b == 94)) (b == 36) (is_not (s.is_any_mark b) h) in
    let two = both_false (s.is_mark b || (b == 126)) (b == 94) (three.0) in
    let one = both_false (s.is_mark b) (b == 126) (two.0) in
    rw (one.1, two.1, three.1, never (syntax.strikethrough || syntax.subscript), never syntax.superscript, never syntax.math) (one.0)

pub pass_words : (syntax : Syntax) (all : List ℕ) (ahead : s.Known) (find : List ℕ → Option Entry) (xs : List ℕ) (t : s.State) → AllByRecursion IsWordByte xs → t.place + length xs < 2 ^ 64 → fold (s.scan_step_in syntax all ahead find) t xs ≡ record t { place = t.place + length xs }
unfolding s.scan_step_in
pass_words syntax all ahead find [] t h fits = ap (λ p. record t { place = p }) (let q : t.place ≡ t.place + 0 = omega arith in q)
pass_words syntax all ahead find (x ∷ xs) t h fits =
    let next : plus t.place 1 ≡ t.place + 1 = omega arith in
    let far : t.place + 1 + length xs ≡ t.place + suc (length xs) = omega arith in
    let one : s.scan_step_in syntax all ahead find t x ≡ record t { place = t.place + 1 } = rw (no_mark_in syntax x (text_byte x (h.0)), next) refl in
    ap (λ (u : s.State). fold (s.scan_step_in syntax all ahead find) u xs) one
    ∙ pass_words syntax all ahead find xs (record t { place = t.place + 1 }) (h.1) (omega arith)
    ∙ ap (λ p. record t { place = p }) far

tilde_is_mark : (syntax : Syntax) → syntax.strikethrough ≡ true → s.is_mark_in syntax 126 ≡ true
unfolding s.is_mark_in s.is_tilde_in
tilde_is_mark syntax strike = rw strike refl

tilde_looked : (syntax : Syntax) (bytes : List ℕ) (ahead : s.Known) (find : List ℕ → Option Entry) (t : s.State) → syntax.strikethrough ≡ true → s.looked_in syntax bytes ahead find 126 t ≡ s.run_kept (tildes_at syntax bytes t.place) t
unfolding s.looked_in s.is_tilde_in s.tildes_taken
tilde_looked syntax bytes ahead find t strike = rw strike refl

-- a run of tildes is kept, and passed
tilde_step : (syntax : Syntax) (bytes : List ℕ) (ahead : s.Known) (find : List ℕ → Option Entry) (t : s.State) (r : Run) → syntax.strikethrough ≡ true → t.resume ≤ t.place → tildes_at syntax bytes t.place ≡ r → s.scan_step_in syntax bytes ahead find t 126 ≡ s.next_place (s.run_kept r t)
unfolding s.scan_step_in
tilde_step syntax bytes ahead find t r strike now e =
    let yes : nat_le t.resume t.place ≡ true = grind (arith, nat_tests) in
    rw (tilde_is_mark syntax strike, yes) (ap s.next_place (tilde_looked syntax bytes ahead find t strike ∙ ap (λ x. s.run_kept x t) e))

-- the pass with these runs at a place
abbrev at_place : ℕ → List Run → ℕ → ℕ → s.State
at_place size runs place resume = record (at_start size) { runs = runs; place = place; resume = resume }

opener_kept : (size : ℕ) → s.next_place (s.run_kept opener (at_start size)) ≡ at_place size (opener ∷ []) 1 2
unfolding s.run_kept
opener_kept size = refl

closer_kept : (size n : ℕ) → n + 4 < 2 ^ 64 → s.next_place (s.run_kept (closer n) (at_place size (opener ∷ []) (n + 2) 2)) ≡ at_place size (opener ∷ closer n ∷ []) (n + 3) (n + 4)
unfolding s.run_kept
closer_kept size n fits =
    let next : plus (n + 2) 1 ≡ n + 3 = omega (arith, fits) in
    let end : plus (n + 2) 2 ≡ n + 4 = omega (arith, fits) in
    rw (next, end) refl

struck_ran : (syntax : Syntax) (b : ℕ) (bs : List ℕ) (ahead : s.Known) (find : List ℕ → Option Entry) → IsPhrase b bs → syntax.strikethrough ≡ true → length (in_tildes (b ∷ bs)) < 2 ^ 64 → fold (s.scan_step_in syntax (in_tildes (b ∷ bs)) ahead find) (at_start (length (in_tildes (b ∷ bs)))) (in_tildes (b ∷ bs)) ≡ at_place (length (in_tildes (b ∷ bs))) (opener ∷ closer (length (b ∷ bs)) ∷ []) (length (b ∷ bs) + 4) (length (b ∷ bs) + 4)
struck_ran syntax b bs ahead find h strike fits =
    let xs : List ℕ = b ∷ bs in
    let n : ℕ = length xs in
    let bytes : List ℕ = in_tildes xs in
    let m : ℕ = length bytes in
    let size : m ≡ n + 4 = (placed b bs).size in
    let two : List ℕ = 126 ∷ 126 ∷ [] in
    let step : s.State → ℕ → s.State = s.scan_step_in syntax bytes ahead find in
    let third : 2 + n ≡ n + 2 = omega arith in
    let last : n + 3 + 1 ≡ n + 4 = omega arith in
    ap (λ (t : s.State). fold step t (126 ∷ (xs ++ two))) (tilde_step syntax bytes ahead find (at_start m) opener strike (omega arith) (opens_here syntax b (bs ++ two) h.first strike) ∙ opener_kept m)
    ∙ ap (λ (t : s.State). fold step t (xs ++ two)) (skip_bytes syntax bytes ahead find (126 ∷ []) (at_place m (opener ∷ []) 1 2) (omega arith) (omega arith))
    ∙ fold-append step (at_place m (opener ∷ []) 2 2) xs two
    ∙ ap (λ (t : s.State). fold step t two) (pass_words syntax bytes ahead find xs (at_place m (opener ∷ []) 2 2) h.bytes (omega (arith, size, fits)) ∙ ap (λ p. at_place m (opener ∷ []) p 2) third)
    ∙ ap (λ (t : s.State). step t 126) (tilde_step syntax bytes ahead find (at_place m (opener ∷ []) (n + 2) 2) (closer n) strike (omega arith) (closes_here syntax b bs h.last strike fits) ∙ closer_kept m n (omega (arith, size, fits)))
    ∙ skip_bytes syntax bytes ahead find (126 ∷ []) (at_place m (opener ∷ closer n ∷ []) (n + 3) (n + 4)) (omega arith) (omega (arith, size, fits))
    ∙ ap (λ p. at_place m (opener ∷ closer n ∷ []) p (n + 4)) last

-- ---- both runs match

matched_roles : (roles : List Role) (n : ℕ) → n + 4 < 2 ^ 64 → emphasized roles (opener ∷ closer n ∷ []) ≡ slice_set (slice_set (slice_set (slice_set roles 1 Hidden) 0 (Open Strikethrough (n + 4))) (n + 2) Hidden) (n + 4 - 1) (Close (n + 4))
unfolding emphasized run_step repeated once fits class_of is_tilde_or_caret matched width_of span_of extended_span
matched_roles roles n room =
    let end : plus (n + 2) 2 ≡ n + 4 = omega (arith, room) in
    rw end refl

-- the roles of a phrase of so many bytes and its tildes
abbrev struck_roles : ℕ → List Role
struck_roles n = Open Strikethrough (n + 4) ∷ Hidden ∷ (replicate n Plain ++ Hidden ∷ Close (n + 4) ∷ [])

plain_split : (xs : List ℕ) → replicate (length (xs ++ 126 ∷ 126 ∷ [])) Plain ≡ replicate (length xs) Plain ++ Plain ∷ Plain ∷ []
plain_split [] = refl
plain_split (x ∷ xs) = ap (λ (l : List Role). Plain ∷ l) (plain_split xs)

length_plain : (n : ℕ) → length (replicate n Plain) ≡ n
length_plain zero = refl
length_plain (suc n) = ap suc (length_plain n)

roles_set : (n : ℕ) → slice_set (slice_set (slice_set (slice_set (Plain ∷ Plain ∷ (replicate n Plain ++ Plain ∷ Plain ∷ [])) 1 Hidden) 0 (Open Strikethrough (n + 4))) (n + 2) Hidden) (n + 4 - 1) (Close (n + 4)) ≡ struck_roles n
roles_set n =
    let plain : List Role = replicate n Plain in
    let open_role : Role = Open Strikethrough (n + 4) in
    let front_roles : List Role = open_role ∷ Hidden ∷ plain in
    let width : length plain ≡ n = length_plain n in
    let third : n + 2 ≡ length front_roles = omega (arith, width) in
    let longer : List Role = front_roles ++ Hidden ∷ [] in
    let fourth : n + 4 - 1 ≡ length longer = (let q : length longer ≡ length front_roles + 1 = length-append front_roles (Hidden ∷ []) in omega (arith, q, third)) in
    ap (λ (l : List Role). slice_set l (n + 4 - 1) (Close (n + 4))) (set_behind front_roles (Plain ∷ []) Plain Hidden (n + 2) third)
    ∙ ap (λ (l : List Role). slice_set l (n + 4 - 1) (Close (n + 4))) (sym (append_assoc front_roles (Hidden ∷ []) (Plain ∷ [])))
    ∙ set_behind longer [] Plain (Close (n + 4)) (n + 4 - 1) fourth
    ∙ append_assoc front_roles (Hidden ∷ []) (Close (n + 4) ∷ [])

-- the pass after the phrase
abbrev behind : ℕ → s.State
behind n = record { roles = struck_roles n; runs = []; brackets = []; inactive = 0; place = n + 4; resume = n + 4; targets = []; texts = []; missed = [] }

struck_settled : (b : ℕ) (bs : List ℕ) → length (in_tildes (b ∷ bs)) < 2 ^ 64 → s.settled 0 (at_place (length (in_tildes (b ∷ bs))) (opener ∷ closer (length (b ∷ bs)) ∷ []) (length (b ∷ bs) + 4) (length (b ∷ bs) + 4)) ≡ behind (length (b ∷ bs))
unfolding s.settled
struck_settled b bs fits =
    let n : ℕ = length (b ∷ bs) in
    let size : length (in_tildes (b ∷ bs)) ≡ n + 4 = (placed b bs).size in
    let with_roles : List Role → s.State = λ rs. record (behind n) { roles = rs } in
    ap with_roles (matched_roles (replicate (length (in_tildes (b ∷ bs))) Plain) n (omega (arith, size, fits)))
    ∙ ap (λ (l : List Role). with_roles (slice_set (slice_set (slice_set (slice_set (Plain ∷ Plain ∷ l) 1 Hidden) 0 (Open Strikethrough (n + 4))) (n + 2) Hidden) (n + 4 - 1) (Close (n + 4)))) (plain_split (b ∷ bs))
    ∙ ap with_roles (roles_set n)

struck_scanned : (syntax : Syntax) (b : ℕ) (bs : List ℕ) (find : List ℕ → Option Entry) → IsPhrase b bs → syntax.strikethrough ≡ true → length (in_tildes (b ∷ bs)) < 2 ^ 64 → s.scanned_in syntax (in_tildes (b ∷ bs)) find (scan_start (length (in_tildes (b ∷ bs))) [] [] []) ≡ behind (length (b ∷ bs))
unfolding s.scanned_in scan_start
struck_scanned syntax b bs find h strike fits =
    ap (s.settled 0) (struck_ran syntax b bs (s.ahead_in syntax (in_tildes (b ∷ bs))) find h strike fits) ∙ struck_settled b bs fits

-- ---- the second pass

abbrev span_node : ℕ → Node
span_node n = record { depth = 1; item = item.Span Strikethrough; start = 0; end = n + 4 }

abbrev text_node : ℕ → Node
text_node n = record { depth = 2; item = item.Text; start = 2; end = n + 2 }

-- the writer in the phrase
abbrev within : ℕ → Option ℕ → ℕ → w.State
within n text place = record { nodes = span_node n ∷ []; depth = 2; text = text; place = place; resume = 0 }

plain_written : (n : ℕ) → 0 < n → n + 4 < 2 ^ 64 → fold w.role_step (within n None 2) (replicate n Plain) ≡ within n (Some 2) (n + 2)
unfolding w.passed
plain_written n some fits =
    let more : nat_lt 2 (2 + n) ≡ true = grind (arith, nat_tests) in
    let place : 2 + n ≡ n + 2 = omega arith in
    plain_fold n (within n None 2) (omega arith) ∙ rw (more, place) refl

ends_written : (n : ℕ) → n + 4 < 2 ^ 64 → (w.flushed (fold w.role_step (within n (Some 2) (n + 2)) (Hidden ∷ Close (n + 4) ∷ []))).nodes ≡ span_node n ∷ text_node n ∷ []
unfolding w.role_step w.shown w.closed w.flushed w.pushed
ends_written n fits =
    let yes : nat_le 0 (n + 2) ≡ true = grind (arith, nat_tests) in
    let next : plus (n + 2) 1 ≡ n + 3 = omega (arith, fits) in
    let still : nat_le 0 (n + 3) ≡ true = grind (arith, nat_tests) in
    rw (yes, next, still) refl

struck_written : (n : ℕ) → 0 < n → n + 4 < 2 ^ 64 → w.written (struck_roles n) 1 ≡ span_node n ∷ text_node n ∷ []
unfolding w.written w.role_step w.shown w.opened w.flushed w.pushed
struck_written n some fits =
    let last : List Role = Hidden ∷ Close (n + 4) ∷ [] in
    ap (λ (u : w.State). (w.flushed u).nodes) (fold-append w.role_step (within n None 2) (replicate n Plain) last)
    ∙ ap (λ (u : w.State). (w.flushed (fold w.role_step u last)).nodes) (plain_written n some fits)
    ∙ ends_written n fits

-- ---- the law

printable_tilde : IsPrintable 126
printable_tilde = record { low = omega arith; high = omega arith }

all_printable : (xs : List ℕ) → AllByRecursion IsWordByte xs → AllByRecursion IsPrintable (xs ++ 126 ∷ 126 ∷ [])
all_printable [] h = (printable_tilde, (printable_tilde, tt))
all_printable (x ∷ xs) h = ((h.0).printable, all_printable xs (h.1))

printable_line : (xs : List ℕ) → AllByRecursion IsWordByte xs → AllByRecursion IsPrintable (in_tildes xs)
printable_line xs h = (printable_tilde, (printable_tilde, all_printable xs h))

struck_line : (b : ℕ) (bs : List ℕ) → IsPhrase b bs → IsFreeText (in_tildes (b ∷ bs))
struck_line b bs h = record {
  within = all_implied IsPrintable IsWithin (in_tildes (b ∷ bs)) within_byte (printable_line (b ∷ bs) h.bytes);
  begins = λ at. tildes_begin_nothing at b (bs ++ 126 ∷ 126 ∷ []) (no_tilde b h.first);
  first = 126;
  rest = 126 ∷ (b ∷ bs ++ 126 ∷ 126 ∷ []);
  shape = refl;
  dash = refl;
  cross = refl;
}

ink_tilde : is_in White 126 ≡ false
unfolding is_in
ink_tilde = refl

pub place_at : (start : ℕ) (xs : List ℕ) (k : ℕ) → k < length xs → slice_get (places_of start xs) k ≡ Some (start + k, start + k + 1)
place_at start [] k h = absurd (omega arith)
place_at start (x ∷ xs) zero h = let same : start + 0 ≡ start = omega arith in rw same refl
place_at start (x ∷ xs) (suc k) h =
    let same : start + 1 + k ≡ start + suc k = omega arith in
    place_at (start + 1) xs k (omega arith) ∙ rw same refl

text_moved : (b : ℕ) (bs : List ℕ) → w.moved (places_of 0 (in_tildes (b ∷ bs))) (text_node (length (b ∷ bs))) ≡ text_node (length (b ∷ bs))
unfolding w.moved
text_moved b bs =
    let n : ℕ = length (b ∷ bs) in
    let bytes : List ℕ = in_tildes (b ∷ bs) in
    let size : length bytes ≡ n + 4 = (placed b bs).size in
    let last : 0 + (n + 2 - 1) + 1 ≡ n + 2 = omega arith in
    rw (place_at 0 bytes (n + 2 - 1) (omega (arith, size)), last) refl

-- the events of such a paragraph
struck_emitted : (text xs : List ℕ) (n : ℕ) (places : List (ℕ × ℕ)) → source_of text 2 (n + 2) ≡ xs → merged (unplaced (emitted text (found_of text (length text) (record { nodes = w.moved places (span_node n) ∷ text_node n ∷ []; targets = []; texts = []; missed = [] })).nodes)) ≡ struck_paragraph xs
unfolding with_block block_tag task_nodes w.moved inline_node inline_item span_tag
struck_emitted text xs n places e = ap struck_paragraph e

pub struck_read : (syntax : Syntax) (xs : List ℕ) → syntax.strikethrough ≡ true → is_phrase xs ≡ true → length (in_tildes xs) < 2 ^ 64 → IsReadAs (reading_of syntax (in_tildes xs)) (struck_paragraph xs)
unfolding reading_of inlines.read_inlines_in
struck_read syntax [] strike all fits = absurd (true≢false (sym all))
struck_read syntax (b ∷ bs) strike all fits =
    let xs : List ℕ = b ∷ bs in
    let n : ℕ = length xs in
    let text : List ℕ = in_tildes xs in
    let two : List ℕ = 126 ∷ 126 ∷ [] in
    let h : IsPhrase b bs = phrase_from b bs all in
    let find = first_entry syntax.undefined_notes [] [] in
    let leaf : content.State = record { bytes = text; places = places_of 0 text } in
    let clean : AreClean text = all_implied IsPrintable IsClean text clean_byte (printable_line xs h.bytes) in
    let size : length text ≡ n + 4 = (placed b bs).size in
    let inlines_with : List Node → inlines.State = λ ns. record { nodes = ns; targets = []; texts = []; missed = [] } in
    let moved_span : Node = w.moved (places_of 0 text) (span_node n) in
    let split : text ≡ (126 ∷ 126 ∷ (xs ++ 126 ∷ [])) ++ 126 ∷ [] = ap (λ (l : List ℕ). 126 ∷ 126 ∷ l) (sym (append_assoc xs (126 ∷ []) (126 ∷ []))) in
    let found : found_under syntax text ≡ found_of text (length text) (inlines_with (moved_span ∷ text_node n ∷ [])) =
    paragraph_found syntax text [] leaf (struck_line b bs h, tt) (all_implied IsClean (λ x. (x == 13) ≡ false) text (λ x k. k.return) clean) fits refl
    (content_of_lines text [] (126 ∷ 126 ∷ (xs ++ 126 ∷ [])) 126 split ink_tilde (all_implied IsClean (λ x. (x == 0) ≡ false) text (λ x k. k.some) clean, tt) fits)
    ∙ ap (λ (after : s.State). found_of text (length text) (inlines.inlines_from leaf 1 after no_inlines)) (struck_scanned syntax b bs find h strike fits)
    ∙ ap (λ (ns : List Node). found_of text (length text) (inlines_with (map (w.moved (places_of 0 text)) ns))) (struck_written n (omega arith) (omega (arith, size, fits)))
    ∙ ap (λ (x : Node). found_of text (length text) (inlines_with (moved_span ∷ x ∷ []))) (text_moved b bs)
    in
    let source : source_of text 2 (n + 2) ≡ xs = source_between text two xs two 2 (n + 2) refl refl (omega arith) clean in
    record {
      events = ap (λ (f : FoundView). merged (unplaced (emitted text f.nodes))) found ∙ struck_emitted text xs n (places_of 0 text) source;
      defined = ap (λ (f : FoundView). f.defined) found;
      unresolved = ap (λ (f : FoundView). f.unresolved) found;
    }
