-- What a table of phrases is spelled as, at the beginning of a document.
use Rattle.std.proofs.Common.{◌≡◌, ℕ, suc, ◌+◌, ◌-◌, ◌<◌, Bool, true, false, not, ◌&&◌, List, [], ◌∷◌, ◌++◌, chars, codes, length, replicate, refl, ap, sym, ◌∙◌, arith, append_assoc, append-nil, IsAscii, zero, Option, Some, None}
use Rattle.std.proofs.lemmas.Str.{chars-IsAscii}
use Rattle.std.specs.Char.{char_set_contains, is_ascii_alphanumeric}
use Rattle.std.specs.List.{AllByRecursion}
use Rattle.tocmark_event.specs.Forest.{empty, leaf, node}
use Rattle.tocmark_event.specs.Options.{OptionsView}
use Rattle.tocmark_event.specs.Reading.{ReadingView}
use Rattle.tocmark_event.specs.View.{Start, End, Leaf, Table, TableHead, TableRow, TableCell, TagView}
use Rattle.tocmark_event.specs.declared.event.Alignment.{Alignment}
use Rattle.tocmark_event.specs.declared.event.TagEnd.TheVariants as end
use Rattle.tocmark_event.specs.declared.event.flags.ParserOptions.{ParserOptions}
use Rattle.tocmark_write_texts.specs.Escape.{Surroundings, escaped}
use Rattle.tocmark_spelling.specs.Body.{Trees}
use Rattle.tocmark_spelling.specs.Closing.{closing, alignment_row}
use Rattle.tocmark_spelling.specs.Gap.{gap}
use Rattle.tocmark_spelling.specs.Look.{look}
use Rattle.tocmark_spelling.specs.Opening.{opening}
use Rattle.tocmark_spelling.specs.Page.{Sheet, laid, Path, Page, Site, Around, Plain, Headers, Width}
use Rattle.tocmark_spelling.specs.declared.trail.Last.{Last}
use Rattle.tocmark_spelling.specs.declared.trail.Last.TheVariants.{Inline, Other, BlockEnd}
use Rattle.tocmark_spelling.specs.Plan.{Setting, Manner}
use Rattle.tocmark_spelling.specs.PlanOf.{setting_of}
use Rattle.tocmark_spelling.specs.Spelling.{spelling, then_site, body_or_id, skips_body}
use Rattle.tocmark_spelling.specs.Stretch.{leaf_on, place}
use Rattle.tocmark_spelling.specs.Runs.{ahead_of, past, beyond, inside}
use Rattle.tocmark_reader.proofs.PlainReading.{IsPrintable}
use Rattle.tocmark_choose.specs.Candidates.{preferred_manner}
use Rattle.tocmark_laws.proofs.AloneHanded.{IsSpelledAlone, nowhere}
use Rattle.tocmark_laws.proofs.BlockSpelling.{text_leaf, page_of, blank}
use Rattle.tocmark_laws.proofs.BreakSpelling.{printable_bytes}
use Rattle.tocmark_laws.proofs.DocumentSpelling.{laid_some}
use Rattle.tocmark_laws.proofs.PlainSpelling.{begun, within, spelled_leaf, spelled_end}
use Rattle.tocmark_laws.proofs.WordEscapes.{IsBareByte, IsWordPlace, words_escaped}

-- cells of a phrase each, and rows of them, as trees
abbrev pub cell_trees : List (List ℕ) → Trees
cell_trees [] = empty
cell_trees (l ∷ ls) = node TableCell (leaf (text_leaf l) empty) (cell_trees ls)

abbrev pub row_trees : List (List (List ℕ)) → Trees
row_trees [] = empty
row_trees (r ∷ rs) = node TableRow (cell_trees r) (row_trees rs)

abbrev pub table_trees : List (List ℕ) → List (List (List ℕ)) → Trees
table_trees header rows = node TableHead (cell_trees header) (row_trees rows)

-- a phrase of words without a bar, which begins with a letter or a digit
pub record IsBarePhrase (c : ℕ) (cs : List ℕ) : Type 0 where
  pub first : is_ascii_alphanumeric c ≡ true
  pub bytes : AllByRecursion IsBareByte (c ∷ cs)

abbrev pub AreBarePhrases : List ℕ → Type 0
AreBarePhrases [] = ⊥
AreBarePhrases (c ∷ cs) = IsBarePhrase c cs

abbrev site : Path → Page → Site
site path page = record { path = path; page = page }

-- a row of a table's head, or another one
abbrev row_tag : Bool → TagView
row_tag true = TableHead
row_tag false = TableRow

-- inside a table whose cells so far have these widths, in a row of it, and in a cell of that
abbrev in_table : List Alignment → List ℕ → Path
in_table aligned widths = record { tag = Table aligned; prefix = []; start = 0; content = Headers widths } ∷ []

abbrev in_row : Bool → ℕ → Path → Path
in_row head start path = record { tag = row_tag head; prefix = []; start = start; content = Plain } ∷ path

abbrev in_cell : ℕ → ℕ → Path → Path
in_cell start width path = record { tag = TableCell; prefix = []; start = start; content = Width width } ∷ path

-- what was written last before a cell: nothing of its row, or a cell
abbrev before_cell : Bool → Last
before_cell false = Other
before_cell true = BlockEnd end.TableCell

-- and before a row: the head, or a row
abbrev before_row : Bool → Last
before_row true = BlockEnd end.TableHead
before_row false = BlockEnd end.TableRow

none_left : (n : ℕ) → 0 - n ≡ 0
none_left n = omega arith

bar_shown : AllByRecursion IsPrintable (124 ∷ [])
bar_shown = (record { low = omega arith; high = omega arith }, tt)

bare_ascii : (xs : List ℕ) → AllByRecursion IsBareByte xs → IsAscii xs
bare_ascii [] h i = omega arith
bare_ascii (x ∷ xs) h zero = let high : x < 127 = (h.0).word.printable.high in omega arith
bare_ascii (x ∷ xs) h (suc i) = bare_ascii xs (h.1) i

-- cells, each after a bar
abbrev pub bars_before : List (List ℕ) → List ℕ
bars_before [] = []
bars_before (l ∷ ls) = 124 ∷ (l ++ bars_before ls)

-- the widths of cells after others
abbrev pub widths_with : List ℕ → List (List ℕ) → List ℕ
widths_with widths [] = widths
widths_with widths (l ∷ ls) = widths_with (widths ++ length l ∷ []) ls

-- rows, each on a line, with bars round their cells
abbrev pub rows_behind : List (List (List ℕ)) → List ℕ
rows_behind [] = []
rows_behind (r ∷ rs) = 10 ∷ (bars_before r ++ 124 ∷ rows_behind rs)

-- the delimiter row
abbrev pub dash_row : List Alignment → List ℕ → List ℕ
dash_row aligned widths = alignment_row (in_table aligned widths)

-- a header, the delimiter row, and rows
abbrev pub table_bytes : List Alignment → List (List ℕ) → List (List (List ℕ)) → List ℕ
table_bytes aligned header rows = ((bars_before header ++ 124 ∷ 10 ∷ []) ++ dash_row aligned (widths_with [] header)) ++ rows_behind rows

-- a row has cells, each with a phrase
abbrev pub AreBareCells : List (List ℕ) → Type 0
AreBareCells [] = ⊥
AreBareCells (l ∷ ls) = AllByRecursion AreBarePhrases (l ∷ ls)

module _ (o : OptionsView) (reading : List ℕ → ParserOptions → ReadingView) (flags : ParserOptions) (token : char_set_contains (codes "*_") o.emphasis_token ≡ true) (aligned : List Alignment) where
  abbrev s : Setting
  s = setting_of o flags reading None

  abbrev m : Manner
  m = preferred_manner o

  -- ---- a cell

  abbrev row_path : Bool → ℕ → List ℕ → Path
  row_path head start widths = in_row head start (in_table aligned widths)

  gap_of : (head later : Bool) (start : ℕ) (widths : List ℕ) (sheet : Sheet) → gap (Start TableCell) (row_path head start widths) (page_of sheet 0 (before_cell later) None) ≡ page_of (laid [] (replicate (0 - sheet.feeds) 10) sheet) 0 (before_cell later) None
  gap_of true true start widths sheet = refl
  gap_of true false start widths sheet = refl
  gap_of false true start widths sheet = refl
  gap_of false false start widths sheet = refl

  no_gap : (head later : Bool) (start : ℕ) (widths : List ℕ) (sheet : Sheet) → gap (Start TableCell) (row_path head start widths) (page_of sheet 0 (before_cell later) None) ≡ page_of sheet 0 (before_cell later) None
  no_gap head later start widths sheet = gap_of head later start widths sheet ∙ ap (λ n. page_of (laid [] (replicate n 10) sheet) 0 (before_cell later) None) (none_left sheet.feeds)

  cell_opened : (head : Bool) (start : ℕ) (widths l : List ℕ) (a : Around) (sheet : Sheet) (last : Last) → opening s m TableCell (look s m TableCell (leaf (text_leaf l) empty) a) (row_path head start widths) (page_of sheet 0 last None)
      ≡ Some (site (in_cell (length (laid [] (124 ∷ []) sheet).text) 0 (row_path head start widths)) (page_of (laid [] (124 ∷ []) sheet) 0 Other None))
  unfolding opening
  cell_opened true start widths l a sheet last = refl
  cell_opened false start widths l a sheet last = refl

  abbrev cell_place : List ℕ → Path → Surroundings
  cell_place text path = place s m false (Some (End end.TableCell)) (in_cell (length text) 0 path) (page_of (within text) 0 Other None)

  text_on : (head : Bool) (start : ℕ) (widths l text : List ℕ) (a : Around) → leaf_on s m (text_leaf l) (ahead_of empty (inside TableCell a)) (in_cell (length text) 0 (row_path head start widths)) (page_of (within text) 0 Other None)
      ≡ site (in_cell (length text) (0 + length (chars l)) (row_path head start widths)) (page_of (laid [] (escaped (cell_place text (row_path head start widths)) l) (within text)) 0 Inline None)
  unfolding leaf_on
  text_on true start widths l text a = refl
  text_on false start widths l text a = refl

  place_of_words : (head : Bool) (start : ℕ) (widths text : List ℕ) → IsWordPlace (cell_place text (row_path head start widths))
  place_of_words true start widths text = record { literal = refl; first = refl; last = refl; heading = refl; token = token }
  place_of_words false start widths text = record { literal = refl; first = refl; last = refl; heading = refl; token = token }

  no_number : (head d : Bool) (start : ℕ) (widths text : List ℕ) → (not (cell_place text (row_path head start widths)).in_table && d) ≡ false
  no_number true d start widths text = refl
  no_number false d start widths text = refl

  words_laid : (head : Bool) (start : ℕ) (widths l text : List ℕ) → AreBarePhrases l → laid [] (escaped (cell_place text (row_path head start widths)) l) (within text) ≡ within (text ++ l)
  words_laid head start widths [] text h = absurd h
  words_laid head start widths (c ∷ cs) text h =
      ap (λ (xs : List ℕ). laid [] xs (within text)) (words_escaped (cell_place text (row_path head start widths)) c cs (place_of_words head start widths text) h.bytes h.first (no_number head _ start widths text))
      ∙ laid_some (c ∷ cs) (within text) (omega arith) (printable_bytes (c ∷ cs) h.bytes)

  width_is : (l : List ℕ) → AreBarePhrases l → 0 + length (chars l) ≡ length l
  width_is [] h = absurd h
  width_is (c ∷ cs) h = let same : length (chars (c ∷ cs)) ≡ length (c ∷ cs) = ap length (chars-IsAscii (c ∷ cs) (bare_ascii (c ∷ cs) h.bytes)) in omega (arith, same)

  cell_closed : (head : Bool) (start begin width : ℕ) (widths : List ℕ) (sheet : Sheet) → closing o (in_cell begin width (row_path head start widths)) (page_of sheet 0 Inline None) ≡ Some (site (row_path head start (widths ++ width ∷ [])) (page_of sheet 0 (BlockEnd end.TableCell) None))
  unfolding closing
  cell_closed true start begin width widths sheet = refl
  cell_closed false start begin width widths sheet = refl

  -- the rest, once a cell's text is written, once its bar is, and once its gap is
  abbrev from_text : List ℕ → Trees → Around → Site → Option Site
  from_text l f a full = then_site (closing o full.path full.page) (λ here. spelling s m f (beyond TableCell (leaf (text_leaf l) empty) a) here.path here.page)

  abbrev from_bar : List ℕ → Trees → Around → Site → Option Site
  from_bar l f a here =
      then_site (body_or_id (skips_body here.path) TableCell here (λ here. spelling s m (leaf (text_leaf l) empty) (inside TableCell (ahead_of f a)) here.path here.page)) (λ full. from_text l f a full)

  abbrev from_gap : List ℕ → Trees → Around → Path → Page → Option Site
  from_gap l f a path p = then_site (opening s m TableCell (look s m TableCell (leaf (text_leaf l) empty) (ahead_of f a)) path p) (λ here. from_bar l f a here)

  cell_entered : (l : List ℕ) (f : Trees) (a : Around) (path : Path) (p : Page) → spelling s m (node TableCell (leaf (text_leaf l) empty) f) a path p ≡ from_gap l f a path (gap (Start TableCell) path p)
  unfolding spelling
  cell_entered l f a path p = refl

  one_cell : (head later : Bool) (start : ℕ) (widths l : List ℕ) (f : Trees) (a : Around) (sheet : Sheet) → AreBarePhrases l
      → spelling s m (node TableCell (leaf (text_leaf l) empty) f) a (row_path head start widths) (page_of sheet 0 (before_cell later) None)
      ≡ spelling s m f (beyond TableCell (leaf (text_leaf l) empty) a) (row_path head start (widths ++ length l ∷ [])) (page_of (within (sheet.text ++ 124 ∷ l)) 0 (before_cell true) None)
  one_cell head later start widths l f a sheet h =
      let text : List ℕ = sheet.text ++ 124 ∷ [] in
      let path : Path = row_path head start widths in
      let kids : Trees = leaf (text_leaf l) empty in
      let before : Path = in_cell (length text) 0 path in
      let after : Path = in_cell (length text) (length l) path in
      cell_entered l f a path (page_of sheet 0 (before_cell later) None)
      ∙ ap (from_gap l f a path) (no_gap head later start widths sheet)
      ∙ ap (λ (x : Option Site). then_site x (λ here. from_bar l f a here)) (cell_opened head start widths l (ahead_of f a) sheet (before_cell later))
      ∙ ap (λ (sheet : Sheet). from_bar l f a (site (in_cell (length sheet.text) 0 path) (page_of sheet 0 Other None))) (laid_some (124 ∷ []) sheet (omega arith) bar_shown)
      ∙ ap (λ (x : Option Site). then_site x (λ full. from_text l f a full))
      (spelled_leaf s m (text_leaf l) empty (inside TableCell (ahead_of f a)) before (page_of (within text) 0 Other None) (site after (page_of (within (text ++ l)) 0 Inline None))
      (text_on head start widths l text (ahead_of f a)
      ∙ ap (λ (sheet : Sheet). site (in_cell (length text) (0 + length (chars l)) path) (page_of sheet 0 Inline None)) (words_laid head start widths l text h)
      ∙ ap (λ n. site (in_cell (length text) n path) (page_of (within (text ++ l)) 0 Inline None)) (width_is l h))
      ∙ spelled_end s m (past (Leaf (text_leaf l)) (inside TableCell (ahead_of f a))) (site after (page_of (within (text ++ l)) 0 Inline None)))
      ∙ ap (λ (x : Option Site). then_site x (λ here. spelling s m f (beyond TableCell kids a) here.path here.page)) (cell_closed head start (length text) (length l) widths (within (text ++ l)))
      ∙ ap (λ (xs : List ℕ). spelling s m f (beyond TableCell kids a) (row_path head start (widths ++ length l ∷ [])) (page_of (within xs) 0 (before_cell true) None)) (append_assoc sheet.text (124 ∷ []) l)

  later_cells : (head : Bool) (start : ℕ) (widths : List ℕ) (ls : List (List ℕ)) (a : Around) (text : List ℕ) → AllByRecursion AreBarePhrases ls
      → spelling s m (cell_trees ls) a (row_path head start widths) (page_of (within text) 0 (before_cell true) None) ≡ Some (site (row_path head start (widths_with widths ls)) (page_of (within (text ++ bars_before ls)) 0 (before_cell true) None))
  later_cells head start widths [] a text h =
      spelled_end s m a (site (row_path head start widths) (page_of (within text) 0 (before_cell true) None))
      ∙ ap (λ (xs : List ℕ). Some (site (row_path head start widths) (page_of (within xs) 0 (before_cell true) None))) (sym (append-nil text))
  later_cells head start widths (l ∷ ls) a text h =
      one_cell head true start widths l (cell_trees ls) a (within text) (h.0)
      ∙ later_cells head start (widths ++ length l ∷ []) ls (beyond TableCell (leaf (text_leaf l) empty) a) (text ++ 124 ∷ l) (h.1)
      ∙ ap (λ (xs : List ℕ). Some (site (row_path head start (widths_with widths (l ∷ ls))) (page_of (within xs) 0 (before_cell true) None))) (append_assoc text (124 ∷ l) (bars_before ls))

  cells_spelled : (head : Bool) (start : ℕ) (widths l : List ℕ) (ls : List (List ℕ)) (a : Around) (sheet : Sheet) → AllByRecursion AreBarePhrases (l ∷ ls)
      → spelling s m (cell_trees (l ∷ ls)) a (row_path head start widths) (page_of sheet 0 Other None) ≡ Some (site (row_path head start (widths_with widths (l ∷ ls))) (page_of (within (sheet.text ++ bars_before (l ∷ ls))) 0 (before_cell true) None))
  cells_spelled head start widths l ls a sheet h =
      one_cell head false start widths l (cell_trees ls) a sheet (h.0)
      ∙ later_cells head start (widths ++ length l ∷ []) ls (beyond TableCell (leaf (text_leaf l) empty) a) (sheet.text ++ 124 ∷ l) (h.1)
      ∙ ap (λ (xs : List ℕ). Some (site (row_path head start (widths_with widths (l ∷ ls))) (page_of (within xs) 0 (before_cell true) None))) (append_assoc sheet.text (124 ∷ l) (bars_before ls))

  -- ---- a row

  row_gap : (first : Bool) (widths text : List ℕ) → gap (Start TableRow) (in_table aligned widths) (page_of (within text) 1 (before_row first) None) ≡ page_of (begun (text ++ 10 ∷ [])) 0 (before_row first) None
  row_gap true widths text = ap (λ (xs : List ℕ). page_of (begun (xs ++ 10 ∷ [])) 0 (before_row true) None) (append-nil text)
  row_gap false widths text = ap (λ (xs : List ℕ). page_of (begun (xs ++ 10 ∷ [])) 0 (before_row false) None) (append-nil text)

  row_closed : (start : ℕ) (widths text : List ℕ) → closing o (row_path false start widths) (page_of (within text) 0 (before_cell true) None) ≡ Some (site (in_table aligned widths) (page_of (within (text ++ 124 ∷ [])) 1 (before_row false) None))
  unfolding closing
  row_closed start widths text = ap (λ (xs : List ℕ). Some (site (in_table aligned widths) (page_of (within (xs ++ 124 ∷ [])) 1 (before_row false) None))) (append-nil text)

  abbrev from_cells : List (List ℕ) → Trees → Around → Site → Option Site
  from_cells ls f a full = then_site (closing o full.path full.page) (λ here. spelling s m f (beyond TableRow (cell_trees ls) a) here.path here.page)

  abbrev from_row_gap : List (List ℕ) → Trees → Around → List ℕ → Page → Option Site
  from_row_gap ls f a widths p =
      then_site (spelling s m (cell_trees ls) (inside TableRow (ahead_of f a)) (row_path false (length p.sheet.text) widths) (record p { trail = record p.trail { last = Other } })) (λ full. from_cells ls f a full)

  row_entered : (ls : List (List ℕ)) (f : Trees) (a : Around) (widths : List ℕ) (p : Page) → spelling s m (node TableRow (cell_trees ls) f) a (in_table aligned widths) p ≡ from_row_gap ls f a widths (gap (Start TableRow) (in_table aligned widths) p)
  unfolding spelling opening
  row_entered ls f a widths p = refl

  abbrev rows_widths : List ℕ → List (List (List ℕ)) → List ℕ
  rows_widths widths [] = widths
  rows_widths widths (r ∷ rs) = rows_widths (widths_with widths r) rs

  abbrev last_row : Bool → List (List (List ℕ)) → Bool
  last_row first [] = first
  last_row first (r ∷ rs) = last_row false rs

  one_row : (first : Bool) (widths l : List ℕ) (ls : List (List ℕ)) (f : Trees) (a : Around) (text : List ℕ) → AllByRecursion AreBarePhrases (l ∷ ls)
      → spelling s m (node TableRow (cell_trees (l ∷ ls)) f) a (in_table aligned widths) (page_of (within text) 1 (before_row first) None)
      ≡ spelling s m f (beyond TableRow (cell_trees (l ∷ ls)) a) (in_table aligned (widths_with widths (l ∷ ls))) (page_of (within (text ++ 10 ∷ (bars_before (l ∷ ls) ++ 124 ∷ []))) 1 (before_row false) None)
  one_row first widths l ls f a text h =
      let front : List ℕ = text ++ 10 ∷ [] in
      let bars : List ℕ = bars_before (l ∷ ls) in
      let joined : (front ++ bars) ++ 124 ∷ [] ≡ text ++ 10 ∷ (bars ++ 124 ∷ []) = append_assoc front bars (124 ∷ []) ∙ append_assoc text (10 ∷ []) (bars ++ 124 ∷ []) in
      row_entered (l ∷ ls) f a widths (page_of (within text) 1 (before_row first) None)
      ∙ ap (from_row_gap (l ∷ ls) f a widths) (row_gap first widths text)
      ∙ ap (λ (x : Option Site). then_site x (λ full. from_cells (l ∷ ls) f a full)) (cells_spelled false (length front) widths l ls (inside TableRow (ahead_of f a)) (begun front) h)
      ∙ ap (λ (x : Option Site). then_site x (λ here. spelling s m f (beyond TableRow (cell_trees (l ∷ ls)) a) here.path here.page)) (row_closed (length front) (widths_with widths (l ∷ ls)) (front ++ bars))
      ∙ ap (λ (xs : List ℕ). spelling s m f (beyond TableRow (cell_trees (l ∷ ls)) a) (in_table aligned (widths_with widths (l ∷ ls))) (page_of (within xs) 1 (before_row false) None)) joined

  rows_spelled : (first : Bool) (widths : List ℕ) (rs : List (List (List ℕ))) (a : Around) (text : List ℕ) → AllByRecursion AreBareCells rs
      → spelling s m (row_trees rs) a (in_table aligned widths) (page_of (within text) 1 (before_row first) None) ≡ Some (site (in_table aligned (rows_widths widths rs)) (page_of (within (text ++ rows_behind rs)) 1 (before_row (last_row first rs)) None))
  rows_spelled first widths [] a text h =
      spelled_end s m a (site (in_table aligned widths) (page_of (within text) 1 (before_row first) None))
      ∙ ap (λ (xs : List ℕ). Some (site (in_table aligned widths) (page_of (within xs) 1 (before_row first) None))) (sym (append-nil text))
  rows_spelled first widths ([] ∷ rs) a text h = absurd (h.0)
  rows_spelled first widths ((l ∷ ls) ∷ rs) a text h =
      let r : List (List ℕ) = l ∷ ls in
      let row : List ℕ = 10 ∷ (bars_before r ++ 124 ∷ []) in
      let joined : (text ++ row) ++ rows_behind rs ≡ text ++ rows_behind (r ∷ rs) =
      append_assoc text row (rows_behind rs) ∙ ap (λ (xs : List ℕ). text ++ 10 ∷ xs) (append_assoc (bars_before r) (124 ∷ []) (rows_behind rs))
      in
      one_row first widths l ls (row_trees rs) a text (h.0)
      ∙ rows_spelled false (widths_with widths r) rs (beyond TableRow (cell_trees r) a) (text ++ row) (h.1)
      ∙ ap (λ (xs : List ℕ). Some (site (in_table aligned (rows_widths widths (r ∷ rs))) (page_of (within xs) 1 (before_row (last_row first (r ∷ rs))) None))) joined

  -- ---- the head, and the table

  bar_feed : (text : List ℕ) → (((text ++ []) ++ 124 ∷ []) ++ []) ++ 10 ∷ [] ≡ text ++ 124 ∷ 10 ∷ []
  bar_feed text =
      ap (λ (xs : List ℕ). xs ++ 10 ∷ []) (append-nil ((text ++ []) ++ 124 ∷ []))
      ∙ ap (λ (xs : List ℕ). (xs ++ 124 ∷ []) ++ 10 ∷ []) (append-nil text)
      ∙ append_assoc text (124 ∷ []) (10 ∷ [])

  head_closed : (start : ℕ) (widths text : List ℕ) → 0 < length (dash_row aligned widths) → AllByRecursion IsPrintable (dash_row aligned widths) → closing o (row_path true start widths) (page_of (within text) 0 (before_cell true) None) ≡ Some (site (in_table aligned widths) (page_of (within ((text ++ 124 ∷ 10 ∷ []) ++ dash_row aligned widths)) 1 (before_row true) None))
  unfolding closing
  head_closed start widths text some h =
      ap (λ (xs : List ℕ). Some (site (in_table aligned widths) (page_of (laid [] (dash_row aligned widths) (begun xs)) 1 (before_row true) None))) (bar_feed text)
      ∙ ap (λ (sheet : Sheet). Some (site (in_table aligned widths) (page_of sheet 1 (before_row true) None))) (laid_some (dash_row aligned widths) (begun (text ++ 124 ∷ 10 ∷ [])) some h)

  abbrev from_header : List (List ℕ) → Trees → Around → Site → Option Site
  from_header ls f a full = then_site (closing o full.path full.page) (λ here. spelling s m f (beyond TableHead (cell_trees ls) a) here.path here.page)

  head_entered : (ls : List (List ℕ)) (f : Trees) (a : Around) → spelling s m (node TableHead (cell_trees ls) f) a (in_table aligned []) (page_of blank 0 Other None) ≡ then_site (spelling s m (cell_trees ls) (inside TableHead (ahead_of f a)) (row_path true 0 []) (page_of blank 0 Other None)) (λ full. from_header ls f a full)
  unfolding spelling opening
  head_entered ls f a = refl

  abbrev from_rows : Trees → Site → Option Site
  from_rows kids full = then_site (closing o full.path full.page) (λ here. spelling s m empty (beyond (Table aligned) kids nowhere) here.path here.page)

  table_entered : (kids : Trees) → spelling s m (node (Table aligned) kids empty) nowhere [] (page_of blank 0 Other None) ≡ then_site (spelling s m kids (inside (Table aligned) (ahead_of empty nowhere)) (in_table aligned []) (page_of blank 0 Other None)) (λ full. from_rows kids full)
  unfolding spelling opening
  table_entered kids = refl

  table_closed : (kids : Trees) (widths text : List ℕ) (first : Bool) → (p : Page) × (from_rows kids (site (in_table aligned widths) (page_of (within text) 1 (before_row first) None)) ≡ Some (site [] p)) × (p.sheet.text ≡ text) × (p.references ≡ [])
  unfolding spelling closing
  table_closed kids widths text first = (_, refl, refl, refl)

  -- a table with which a document begins
  pub table_alone : (l : List ℕ) (ls : List (List ℕ)) (rows : List (List (List ℕ))) → AllByRecursion AreBarePhrases (l ∷ ls) → AllByRecursion AreBareCells rows → 0 < length (dash_row aligned (widths_with [] (l ∷ ls))) → AllByRecursion IsPrintable (dash_row aligned (widths_with [] (l ∷ ls))) → IsSpelledAlone s (node (Table aligned) (table_trees (l ∷ ls) rows) empty) (table_bytes aligned (l ∷ ls) rows)
  table_alone l ls rows h k some shown =
      let header : List (List ℕ) = l ∷ ls in
      let kids : Trees = table_trees header rows in
      let widths : List ℕ = widths_with [] header in
      let front : List ℕ = (bars_before header ++ 124 ∷ 10 ∷ []) ++ dash_row aligned widths in
      let a : Around = inside (Table aligned) (ahead_of empty nowhere) in
      let left = table_closed kids (rows_widths widths rows) (front ++ rows_behind rows) (last_row true rows) in
      record {
        path = [];
        page = left.0;
        is =
            table_entered kids
            ∙ ap (λ (x : Option Site). then_site x (λ full. from_rows kids full))
            (head_entered header (row_trees rows) a
            ∙ ap (λ (x : Option Site). then_site x (λ full. from_header header (row_trees rows) a full)) (cells_spelled true 0 [] l ls (inside TableHead (ahead_of (row_trees rows) a)) blank h)
            ∙ ap (λ (x : Option Site). then_site x (λ here. spelling s m (row_trees rows) (beyond TableHead (cell_trees header) a) here.path here.page)) (head_closed 0 widths (bars_before header) some shown)
            ∙ rows_spelled true widths rows (beyond TableHead (cell_trees header) a) front k)
            ∙ left.1;
        text_is = left.2;
        none = left.3;
      }
