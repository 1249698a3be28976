-- What is handed for a table of phrases is read as it.
use Rattle.std.proofs.Common.{◌≡◌, ℕ, suc, ◌^◌, ◌<◌, true, false, not, ◌==◌, ◌&&◌, List, [], ◌∷◌, ◌++◌, length, map, refl, ap, sym, subst, ◌∙◌, arith, append_assoc, append-nil, true≢false}
use Rattle.std.specs.Char.{is_ascii_alphanumeric}
use Rattle.std.specs.List.{AllByRecursion, concat, list_all}
use Rattle.tocmark_event.specs.Forest.{node, empty, flat_onto}
use Rattle.tocmark_event.specs.Options.{OptionsView}
use Rattle.tocmark_event.specs.Reading.{ReadingView}
use Rattle.tocmark_event.specs.View.{EventView, Start, End, Leaf, Text, Table, TableHead, TableRow, TableCell, SourcedEvent}
use Rattle.tocmark_event.specs.declared.event.Alignment.{Alignment}
use Rattle.tocmark_event.specs.declared.event.TagEnd.TheVariants as end
use Rattle.tocmark_event.specs.declared.event.flags.ParserOptions.{ParserOptions}
use Rattle.tocmark_read_scan.specs.PlainParts.{last_byte}
use Rattle.tocmark_read_scan.specs.declared.syntax.Syntax.{Syntax}
use Rattle.tocmark_read_scan.proofs.PlainTests.{eq_of, both_true, all_from}
use Rattle.tocmark_reader.specs.PlainTexts.{IsReadAs}
use Rattle.tocmark_reader.specs.Reading.{reading_of}
use Rattle.tocmark_reader.proofs.PlainReading.{IsPrintable}
use Rattle.tocmark_spelling.specs.Body.{some_leaf}
use Rattle.tocmark_spelling.specs.Page.{Around}
use Rattle.tocmark_choose.specs.Candidates.{has_source, is_delimiter_tag, is_math, some_tag}
use Rattle.tocmark_state.specs.Ranges.{unranged}
use Rattle.tocmark_state.specs.Walk.{Walk, Done, nothing_yet, script}
use Rattle.tocmark_state.specs.WorkView.{rendering}
use Rattle.tocmark_write_pending.specs.Placeholder.{needs_placeholder, needs_placeholder_at}
use Rattle.tocmark_laws.specs.Extensions.{is_word_byte, is_phrase}
use Rattle.tocmark_laws.specs.Links.{one_text_walk}
use Rattle.tocmark_laws.specs.PlainTables.{PlainCell, PlainColumn, column_alignment, column_bytes, row_line, is_cell, is_row, table_text, cells_events, rows_events, table_events}
use Rattle.tocmark_laws.specs.ReadBack.{AreReadWhere, ArePlainOptions}
use Rattle.tocmark_laws.proofs.AloneHanded.{bare, IsUnasked, tree_handed}
use Rattle.tocmark_laws.proofs.BlockSpelling.{text_leaf}
use Rattle.tocmark_laws.proofs.BreaksReadBack.{without_bars}
use Rattle.tocmark_laws.proofs.TableReading.{table_read}
use Rattle.tocmark_laws.proofs.TableSpelling.{cell_trees, row_trees, table_trees, AreBarePhrases, AreBareCells, widths_with, dash_row, table_bytes, table_alone}
use Rattle.tocmark_laws.proofs.TableTexts.{tight, columns_under, phrases, dash_row_is, columns_shown, header_widths, aligned_columns, columns_length, table_is}
use Rattle.tocmark_laws.proofs.WordsReading.{IsWordByte, word_byte}

-- ---- the table as a tree

cells_flat : (cells : List PlainCell) (es : List EventView) → map bare (cells_events cells ++ es) ≡ flat_onto (cell_trees (phrases cells)) (map bare es)
cells_flat [] es = refl
cells_flat (c ∷ cs) es = ap (λ (xs : List SourcedEvent). Start TableCell ∷ Leaf (text_leaf c.phrase) ∷ End end.TableCell ∷ xs) (cells_flat cs es)

rows_flat : (rows : List (List PlainCell)) (es : List EventView) → map bare (rows_events rows ++ es) ≡ flat_onto (row_trees (map phrases rows)) (map bare es)
rows_flat [] es = refl
rows_flat (r ∷ rs) es =
    ap (λ (xs : List EventView). Start TableRow ∷ map bare xs) (append_assoc (cells_events r) (End end.TableRow ∷ rows_events rs) es)
    ∙ ap (λ (xs : List SourcedEvent). Start TableRow ∷ xs) (cells_flat r (End end.TableRow ∷ (rows_events rs ++ es)))
    ∙ ap (λ (xs : List SourcedEvent). Start TableRow ∷ flat_onto (cell_trees (phrases r)) (End end.TableRow ∷ xs)) (rows_flat rs es)

cells_placed : (ls : List (List ℕ)) (a : Around) → needs_placeholder_at (cell_trees ls) a ≡ false
cells_placed [] a = refl
cells_placed (l ∷ ls) a = cells_placed ls _

rows_placed : (rs : List (List (List ℕ))) (a : Around) → needs_placeholder_at (row_trees rs) a ≡ false
rows_placed [] a = refl
rows_placed (r ∷ rs) a = rw (cells_placed r _) (rows_placed rs _)

cells_undelimited : (ls : List (List ℕ)) → some_tag is_delimiter_tag (cell_trees ls) ≡ false
cells_undelimited [] = refl
cells_undelimited (l ∷ ls) = cells_undelimited ls

rows_undelimited : (rs : List (List (List ℕ))) → some_tag is_delimiter_tag (row_trees rs) ≡ false
rows_undelimited [] = refl
rows_undelimited (r ∷ rs) = rw (cells_undelimited r) (rows_undelimited rs)

cells_without_formulas : (ls : List (List ℕ)) → some_leaf is_math (cell_trees ls) ≡ false
cells_without_formulas [] = refl
cells_without_formulas (l ∷ ls) = cells_without_formulas ls

rows_without_formulas : (rs : List (List (List ℕ))) → some_leaf is_math (row_trees rs) ≡ false
rows_without_formulas [] = refl
rows_without_formulas (r ∷ rs) = rw (cells_without_formulas r) (rows_without_formulas rs)

cells_unsourced : (ls : List (List ℕ)) → has_source (cell_trees ls) ≡ false
cells_unsourced [] = refl
cells_unsourced (l ∷ ls) = cells_unsourced ls

rows_unsourced : (rs : List (List (List ℕ))) → has_source (row_trees rs) ≡ false
rows_unsourced [] = refl
rows_unsourced (r ∷ rs) = rw (cells_unsourced r) (rows_unsourced rs)

table_unasked : (aligned : List Alignment) (header : List (List ℕ)) (rows : List (List (List ℕ))) → IsUnasked (node (Table aligned) (table_trees header rows) empty)
unfolding needs_placeholder
table_unasked aligned header rows = record {
  placed = rw (cells_placed header _, rows_placed rows _) refl;
  undelimited = rw (cells_undelimited header, rows_undelimited rows, cells_without_formulas header, rows_without_formulas rows) refl;
  unsourced = rw (cells_unsourced header, rows_unsourced rows) refl;
}

-- ---- its cells

phrase_from : (c : PlainCell) → is_cell c ≡ true → AreBarePhrases c.phrase
phrase_from c h = from c.phrase h
  where
    from : (xs : List ℕ) → (is_phrase xs && list_all (λ b. not (b == 124)) xs) ≡ true → AreBarePhrases xs
    from [] h = true≢false (sym h)
    from (b ∷ bs) h =
        let two = both_true (is_phrase (b ∷ bs)) (list_all (λ b. not (b == 124)) (b ∷ bs)) h in
        let one = both_true (list_all is_word_byte (b ∷ bs) && is_ascii_alphanumeric b) (is_ascii_alphanumeric (last_byte b bs)) (two.0) in
        let front = both_true (list_all is_word_byte (b ∷ bs)) (is_ascii_alphanumeric b) (one.0) in
        record { first = front.1; bytes = without_bars (b ∷ bs) (all_from is_word_byte IsWordByte (b ∷ bs) word_byte (front.0)) (two.1) }

phrases_from : (cells : List PlainCell) → list_all is_cell cells ≡ true → AllByRecursion AreBarePhrases (phrases cells)
phrases_from [] h = tt
phrases_from (c ∷ cs) h = let both = both_true (is_cell c) (list_all is_cell cs) h in (phrase_from c (both.0), phrases_from cs (both.1))

cells_from : (n : ℕ) (cells : List PlainCell) → 0 < n → is_row n cells ≡ true → AreBareCells (phrases cells)
cells_from n [] some h = let e : 0 ≡ n = eq_of 0 n ((both_true (0 == n) true h).0) in absurd (omega (arith, some, e))
cells_from n (c ∷ cs) some h = phrases_from (c ∷ cs) ((both_true (length (c ∷ cs) == n) (list_all is_cell (c ∷ cs)) h).1)

all_cells : (n : ℕ) (rows : List (List PlainCell)) → 0 < n → list_all (is_row n) rows ≡ true → AllByRecursion AreBareCells (map phrases rows)
all_cells n [] some h = tt
all_cells n (r ∷ rs) some h = let both = both_true (is_row n r) (list_all (is_row n) rs) h in (cells_from n r some (both.0), all_cells n rs some (both.1))

-- ---- the same cells without spaces

as_many : (cells : List PlainCell) → length (map tight cells) ≡ length cells
as_many [] = refl
as_many (c ∷ cs) = ap suc (as_many cs)

cells_stay : (cells : List PlainCell) → list_all is_cell (map tight cells) ≡ list_all is_cell cells
cells_stay [] = refl
cells_stay (c ∷ cs) = ap (λ b. is_cell c && b) (cells_stay cs)

row_stays : (n : ℕ) (cells : List PlainCell) → is_row n (map tight cells) ≡ is_row n cells
row_stays n cells = ap (λ k. (k == n) && list_all is_cell (map tight cells)) (as_many cells) ∙ ap (λ b. (length cells == n) && b) (cells_stay cells)

rows_stay : (n : ℕ) (rows : List (List PlainCell)) → list_all (is_row n) (map (map tight) rows) ≡ list_all (is_row n) rows
rows_stay n [] = refl
rows_stay n (r ∷ rs) = ap (λ b. b && list_all (is_row n) (map (map tight) rs)) (row_stays n r) ∙ ap (λ b. is_row n r && b) (rows_stay n rs)

same_cells : (cells : List PlainCell) → cells_events (map tight cells) ≡ cells_events cells
same_cells [] = refl
same_cells (c ∷ cs) = ap (λ (es : List EventView). Start TableCell ∷ Leaf (Text c.phrase) ∷ End end.TableCell ∷ es) (same_cells cs)

same_rows : (rows : List (List PlainCell)) → rows_events (map (map tight) rows) ≡ rows_events rows
same_rows [] = refl
same_rows (r ∷ rs) =
    ap (λ (es : List EventView). Start TableRow ∷ (es ++ End end.TableRow ∷ rows_events (map (map tight) rs))) (same_cells r)
    ∙ ap (λ (es : List EventView). Start TableRow ∷ (cells_events r ++ End end.TableRow ∷ es)) (same_rows rs)

-- ---- the law

columns_read : (syntax : Syntax) (header : List PlainCell) (columns : List PlainColumn) (rows : List (List PlainCell)) → syntax.tables ≡ true → 0 < length columns → list_all (is_row (length columns)) (header ∷ rows) ≡ true → length (table_text header columns rows) < 2 ^ 64 → IsReadAs (reading_of syntax (table_text header columns rows)) (table_events header columns rows)
columns_read syntax header [] rows has some h fits = absurd (omega (arith, some))
columns_read syntax header (c ∷ cs) rows has some h fits = table_read syntax header c cs rows has h fits

aligned_as_many : (columns : List PlainColumn) → length (map column_alignment columns) ≡ length columns
aligned_as_many [] = refl
aligned_as_many (c ∷ cs) = ap suc (aligned_as_many cs)

module _ (options : OptionsView) (header : List PlainCell) (c : PlainColumn) (cs : List PlainColumn) (rows : List (List PlainCell)) (plain : ArePlainOptions options) (h : list_all (is_row (length (c ∷ cs))) (header ∷ rows) ≡ true) where
  abbrev n : ℕ
  n = length (c ∷ cs)

  abbrev aligned : List Alignment
  aligned = map column_alignment (c ∷ cs)

  abbrev widths : List ℕ
  widths = widths_with [] (phrases header)

  abbrev columns : List PlainColumn
  columns = columns_under aligned widths

  abbrev text : List ℕ
  text = table_text (map tight header) columns (map (map tight) rows)

  both : (is_row n header ≡ true) × (list_all (is_row n) rows ≡ true)
  both = both_true (is_row n header) (list_all (is_row n) rows) h

  header_many : length header ≡ n
  header_many = eq_of (length header) n ((both_true (length header == n) (list_all is_cell header) (both.0)).0)

  as_wide : length aligned ≡ length widths
  as_wide = aligned_as_many (c ∷ cs) ∙ sym header_many ∙ sym (header_widths header)

  columns_many : length columns ≡ n
  columns_many = columns_length aligned widths as_wide ∙ aligned_as_many (c ∷ cs)

  flat_is : map bare (table_events header (c ∷ cs) rows) ≡ Start (Table aligned) ∷ flat_onto (table_trees (phrases header) (map phrases rows)) (End end.Table ∷ [])
  flat_is =
      ap (λ (xs : List SourcedEvent). Start (Table aligned) ∷ Start TableHead ∷ xs)
      (cells_flat header (End end.TableHead ∷ (rows_events rows ++ End end.Table ∷ []))
      ∙ ap (λ (xs : List SourcedEvent). flat_onto (cell_trees (phrases header)) (End end.TableHead ∷ xs)) (rows_flat rows (End end.Table ∷ [])))

  text_is : table_bytes aligned (phrases header) (map phrases rows) ≡ text
  text_is = table_is aligned header rows

  dashes_shown : AllByRecursion IsPrintable (dash_row aligned widths)
  dashes_shown = subst (AllByRecursion IsPrintable) (sym (dash_row_is aligned widths)) (columns_shown aligned widths)

  some_dashes : 0 < length (dash_row aligned widths)
  some_dashes = let one : 0 < length (row_line (map column_bytes columns)) = omega arith in subst (λ (xs : List ℕ). 0 < length xs) (sym (dash_row_is aligned widths)) one

  table_handed : (reading : List ℕ → ParserOptions → ReadingView) (flags : ParserOptions) (source : List ℕ) → script (rendering options reading) source (nothing_yet flags) (map unranged (table_events header (c ∷ cs) rows)) ≡ one_text_walk text
  table_handed reading flags source = by_header (phrases header) refl (cells_from n header (omega arith) (both.0))
    where
      by_header : (ls : List (List ℕ)) → phrases header ≡ ls → AreBareCells ls → script (rendering options reading) source (nothing_yet flags) (map unranged (table_events header (c ∷ cs) rows)) ≡ one_text_walk text
      by_header [] e k = absurd k
      by_header (l ∷ ls) e k =
          tree_handed options reading flags source plain.unchecked (Table aligned) (table_trees (l ∷ ls) (map phrases rows)) (table_events header (c ∷ cs) rows) (table_bytes aligned (l ∷ ls) (map phrases rows))
          (flat_is ∙ ap (λ (xs : List (List ℕ)). Start (Table aligned) ∷ flat_onto (table_trees xs (map phrases rows)) (End end.Table ∷ [])) e)
          (table_unasked aligned (l ∷ ls) (map phrases rows))
          (omega arith)
          (table_alone options reading flags plain.emphasis aligned l ls (map phrases rows) k (all_cells n rows (omega arith) (both.1))
          (subst (λ (xs : List (List ℕ)). 0 < length (dash_row aligned (widths_with [] xs))) e some_dashes)
          (subst (λ (xs : List (List ℕ)). AllByRecursion IsPrintable (dash_row aligned (widths_with [] xs))) e dashes_shown))
          ∙ ap (λ (xs : List (List ℕ)). one_text_walk (table_bytes aligned xs (map phrases rows))) (sym e)
          ∙ ap one_text_walk text_is

  same_events : table_events (map tight header) columns (map (map tight) rows) ≡ table_events header (c ∷ cs) rows
  same_events =
      ap (λ as'. Start (Table as') ∷ Start TableHead ∷ (cells_events (map tight header) ++ End end.TableHead ∷ (rows_events (map (map tight) rows) ++ End end.Table ∷ []))) (aligned_columns aligned widths as_wide)
      ∙ ap (λ (es : List EventView). Start (Table aligned) ∷ Start TableHead ∷ (es ++ End end.TableHead ∷ (rows_events (map (map tight) rows) ++ End end.Table ∷ []))) (same_cells header)
      ∙ ap (λ (es : List EventView). Start (Table aligned) ∷ Start TableHead ∷ (cells_events header ++ End end.TableHead ∷ (es ++ End end.Table ∷ []))) (same_rows rows)

  tested : list_all (is_row (length columns)) (map tight header ∷ map (map tight) rows) ≡ true
  tested = ap (λ k. list_all (is_row k) (map tight header ∷ map (map tight) rows)) columns_many ∙ rows_stay n (header ∷ rows) ∙ h

  some_columns : 0 < length columns
  some_columns = let e : length columns ≡ n = columns_many in omega (arith, e)

  pub tables_read_back : (reading : List ℕ → ParserOptions → ReadingView) (flags : ParserOptions) (source : List ℕ) → AreReadWhere (λ syntax. syntax.tables) (script (rendering options reading) source (nothing_yet flags) (map unranged (table_events header (c ∷ cs) rows))) (table_events header (c ∷ cs) rows)
  tables_read_back reading flags source =
      let handed = table_handed reading flags source in
      let joined : concat (script (rendering options reading) source (nothing_yet flags) (map unranged (table_events header (c ∷ cs) rows))).texts ≡ text = ap (λ (w : Walk Done). concat w.texts) handed ∙ append-nil text in
      record {
        ends_well = ap (λ (w : Walk Done). w.outcome) handed;
        read = λ syntax has fits.
            subst (λ (xs : List ℕ). IsReadAs (reading_of syntax xs) (table_events header (c ∷ cs) rows)) (sym joined)
            (subst (λ (es : List EventView). IsReadAs (reading_of syntax text) es) same_events (columns_read syntax (map tight header) columns (map (map tight) rows) has some_columns tested (subst (λ (xs : List ℕ). length xs < 2 ^ 64) joined fits)));
      }
