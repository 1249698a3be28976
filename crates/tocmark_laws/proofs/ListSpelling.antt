-- What a tight list of one-line items is spelled as, at the beginning of a document.
use Rattle.std.proofs.Common.{◌≡◌, ℕ, ◌-◌, ◌<◌, ◌≤◌, min, max, Bool, true, false, not, ◌==◌, ◌&&◌, List, [], ◌∷◌, ◌++◌, codes, length, replicate, refl, ap, sym, ◌∙◌, arith, append_assoc, append-nil, Option, Some, None}
use Rattle.std.proofs.lemmas.Bool.Decides.{nat_tests}
use Rattle.std.specs.Char.{char_set_contains}
use Rattle.std.specs.List.{AllByRecursion}
use Rattle.tocmark_event.specs.Forest.{empty, leaf, node}
use Rattle.tocmark_event.specs.View.{Start, End, Leaf, ListOf, Item}
use Rattle.tocmark_event.specs.Options.{OptionsView}
use Rattle.tocmark_event.specs.Reading.{ReadingView}
use Rattle.tocmark_event.specs.declared.event.flags.ParserOptions.{ParserOptions}
use Rattle.tocmark_event.specs.declared.event.TagEnd.TheVariants as end
use Rattle.tocmark_write_texts.specs.Escape.{Surroundings, escaped}
use Rattle.tocmark_spelling.specs.Body.{Trees, is_tight, has_lone_paragraph, some_child, has_tag, count_tags, count_children}
use Rattle.tocmark_spelling.specs.Closing.{closing}
use Rattle.tocmark_spelling.specs.Gap.{gap}
use Rattle.tocmark_spelling.specs.Kinds.{is_inline_tag, is_item, is_paragraph}
use Rattle.tocmark_spelling.specs.Look.{look}
use Rattle.tocmark_spelling.specs.Opening.{opening, item_marker, next_number}
use Rattle.tocmark_spelling.specs.Page.{Sheet, laid, put_byte, Path, Page, Site, Around, Plain, Listed, prefix_of}
use Rattle.tocmark_spelling.specs.declared.list_choice.ListChoice.{ListChoice}
use Rattle.tocmark_spelling.specs.declared.trail.Last.{Last}
use Rattle.tocmark_spelling.specs.declared.trail.Last.TheVariants.{Inline, Other, ItemStart, ItemEnd}
use Rattle.tocmark_spelling.specs.declared.trail.LastChild.TheVariants as tail
use Rattle.tocmark_spelling.specs.Plan.{Setting, Manner}
use Rattle.tocmark_spelling.specs.PlanOf.{setting_of}
use Rattle.tocmark_spelling.specs.Spelling.{spelling, then_site, body_or_id, skips_body}
use Rattle.tocmark_spelling.specs.Stretch.{leaf_on, place}
use Rattle.tocmark_spelling.specs.Runs.{ahead_of, past, beyond, inside}
use Rattle.tocmark_reader.proofs.PlainReading.{IsPrintable}
use Rattle.tocmark_laws.proofs.WordEscapes.{IsWordPlace, words_escaped}
use Rattle.tocmark_laws.proofs.AloneHanded.{IsSpelledAlone, nowhere}
use Rattle.tocmark_laws.proofs.BlockSpelling.{text_leaf, page_of, blank}
use Rattle.tocmark_laws.proofs.DocumentSpelling.{laid_some}
use Rattle.tocmark_laws.proofs.PlainSpelling.{begun, within, spelled_leaf, spelled_end}
use Rattle.tocmark_laws.proofs.BreakSpelling.{AreBareWords, letter_or_digit, no_digit, printable_bytes}
use Rattle.tocmark_choose.specs.Candidates.{preferred_manner}

-- items of a line each, as trees
abbrev pub item_trees : List (List ℕ) → Trees
item_trees [] = empty
item_trees (l ∷ ls) = node Item (leaf (text_leaf l) empty) (item_trees ls)

abbrev site : Path → Page → Site
site path page = record { path = path; page = page }

-- what a tight list chooses
abbrev pub choice_of : Option ℕ → ℕ → ListChoice
choice_of number token = record { number = number; token = token; tight = true; wide = false; labelled = false }

-- inside such a list, and in an item of it whose marker ended there
abbrev in_list : Option ℕ → Option ℕ → ℕ → Path
in_list first number token = record { tag = ListOf first; prefix = []; start = 0; content = Listed (choice_of number token) } ∷ []

abbrev in_item : List ℕ → ℕ → Path → Path
in_item marker start path = record { tag = Item; prefix = replicate (length marker) 32; start = start; content = Plain } ∷ path

-- bytes that are laid within a line
pub laid_inside : (prefix xs text : List ℕ) → AllByRecursion IsPrintable xs → laid prefix xs (within text) ≡ within (text ++ xs)
laid_inside prefix [] text h = ap within (sym (append-nil text))
laid_inside prefix (x ∷ xs) text h =
    let low : 32 ≤ x = (h.0).low in
    let feed : (x == 10) ≡ false = grind (arith, nat_tests) in
    let put : put_byte prefix x (within text) ≡ within (text ++ x ∷ []) = rw feed (ap (λ (ys : List ℕ). within (ys ++ x ∷ [])) (append-nil text)) in
    ap (laid prefix xs) put ∙ laid_inside prefix xs (text ++ x ∷ []) (h.1) ∙ ap within (append_assoc text (x ∷ []) xs)

-- no paragraph is in such items
no_paragraph : (ls : List (List ℕ)) → some_child (has_tag is_paragraph) (item_trees ls) ≡ false
no_paragraph [] = refl
no_paragraph (l ∷ ls) = no_paragraph ls

never : (b : Bool) → (b && false) ≡ false
never true = refl
never false = refl

tight_items : (l : List ℕ) (ls : List (List ℕ)) → is_tight (item_trees (l ∷ ls)) ≡ true
tight_items l ls = ap not (no_paragraph ls)

no_lone_paragraph : (ls : List (List ℕ)) → has_lone_paragraph (item_trees ls) ≡ false
no_lone_paragraph ls = ap (λ b. (count_tags is_item (item_trees ls) == 1) && (count_children (count_tags (λ t. not (is_inline_tag t))) (item_trees ls) == 1) && b) (no_paragraph ls) ∙ never _

-- the marker of an item
abbrev pub marker_of : Option ℕ → ℕ → List ℕ
marker_of number mark = item_marker (choice_of number mark)

-- items that are after another one, each on a line after its marker
abbrev pub items_behind : OptionsView → Option ℕ → ℕ → List (List ℕ) → List ℕ
items_behind o number mark [] = []
items_behind o number mark (l ∷ ls) = 10 ∷ (marker_of number mark ++ (l ++ items_behind o (next_number o number) mark ls))

-- a list of items
abbrev pub items_text : OptionsView → Option ℕ → ℕ → List ℕ → List (List ℕ) → List ℕ
items_text o number mark l ls = marker_of number mark ++ (l ++ items_behind o (next_number o number) mark ls)

-- the markers of the items of such a list are printable
abbrev pub AreMarkers : OptionsView → Option ℕ → ℕ → List (List ℕ) → Type 0
AreMarkers o number mark [] = Unit {0}
AreMarkers o number mark (l ∷ ls) = (0 < length (marker_of number mark)) × AllByRecursion IsPrintable (marker_of number mark) × AreMarkers o (next_number o number) mark ls

-- the number after all items
abbrev last_number : OptionsView → Option ℕ → List (List ℕ) → Option ℕ
last_number o number [] = number
last_number o number (l ∷ ls) = last_number o (next_number o number) ls

-- the token that the options name for such a list
abbrev pub token_of : OptionsView → Option ℕ → ℕ
token_of o None = o.list_token
token_of o (Some n) = o.ordered_list_token

module _ (o : OptionsView) (reading : List ℕ → ParserOptions → ReadingView) (flags : ParserOptions) (token : char_set_contains (codes "*_") o.emphasis_token ≡ true) where
  abbrev s : Setting
  s = setting_of o flags reading None

  abbrev m : Manner
  m = preferred_manner o

  -- how many line feeds an item leaves
  abbrev owed : ℕ
  owed = max 0 (max o.newlines_after_rest 1)

  abbrev item_end : Last
  item_end = ItemEnd tail.Paragraph

  -- the gap before an item
  gap_first : (first number : Option ℕ) (mark : ℕ) → gap (Start Item) (in_list first number mark) (page_of blank 0 Other None) ≡ page_of blank 0 Other None
  gap_first first number mark = refl

  gap_later : (first number : Option ℕ) (mark : ℕ) (text : List ℕ) → gap (Start Item) (in_list first number mark) (page_of (within text) owed item_end None) ≡ page_of (begun (text ++ 10 ∷ [])) 0 item_end None
  gap_later first number mark text =
      let one : max (min owed 1) 0 - 0 ≡ 1 = omega arith in
      let by_count : gap (Start Item) (in_list first number mark) (page_of (within text) owed item_end None) ≡ page_of (laid [] (replicate (max (min owed 1) 0 - 0) 10) (within text)) 0 item_end None = refl in
      by_count
      ∙ ap (λ n. page_of (laid [] (replicate n 10) (within text)) 0 item_end None) one
      ∙ ap (λ (xs : List ℕ). page_of (begun (xs ++ 10 ∷ [])) 0 item_end None) (append-nil text)

  -- the opening writes the marker
  opened : (first number : Option ℕ) (mark : ℕ) (l : List ℕ) (a : Around) (sheet : Sheet) (last : Last) → opening s m Item (look s m Item (leaf (text_leaf l) empty) a) (in_list first number mark) (page_of sheet 0 last None)
      ≡ Some (site (in_item (marker_of number mark) (length (laid [] (marker_of number mark) sheet).text) (in_list first (next_number o number) mark)) (page_of (laid [] (marker_of number mark) sheet) 0 ItemStart None))
  unfolding opening
  opened first number mark l a sheet last = refl

  -- where its text is
  abbrev item_place : List ℕ → ℕ → Option ℕ → Option ℕ → ℕ → List ℕ → Surroundings
  item_place marker start first number mark text = place s m false (Some (End end.Item)) (in_item marker start (in_list first number mark)) (page_of (within text) 0 ItemStart None)

  text_on : (marker : List ℕ) (start : ℕ) (first number : Option ℕ) (mark : ℕ) (l text : List ℕ) (a : Around) → leaf_on s m (text_leaf l) (ahead_of empty (inside Item a)) (in_item marker start (in_list first number mark)) (page_of (within text) 0 ItemStart None)
      ≡ site (in_item marker start (in_list first number mark)) (page_of (laid (prefix_of (in_item marker start (in_list first number mark))) (escaped (item_place marker start first number mark text) l) (within text)) 0 Inline None)
  unfolding leaf_on
  text_on marker start first number mark l text a = refl

  place_of_words : (marker : List ℕ) (start : ℕ) (first number : Option ℕ) (mark : ℕ) (text : List ℕ) → IsWordPlace (item_place marker start first number mark text)
  place_of_words marker start first number mark text = record { literal = refl; first = refl; last = refl; heading = refl; token = token }

  words_laid : (marker : List ℕ) (start : ℕ) (first number : Option ℕ) (mark : ℕ) (l text : List ℕ) → AreBareWords l → laid (prefix_of (in_item marker start (in_list first number mark))) (escaped (item_place marker start first number mark text) l) (within text) ≡ within (text ++ l)
  words_laid marker start first number mark [] text h = absurd h
  words_laid marker start first number mark (c ∷ cs) text h =
      let prefix : List ℕ = prefix_of (in_item marker start (in_list first number mark)) in
      ap (λ (xs : List ℕ). laid prefix xs (within text)) (words_escaped (item_place marker start first number mark text) c cs (place_of_words marker start first number mark text) h.bytes (letter_or_digit c h.letter) (no_digit c h.letter))
      ∙ laid_inside prefix (c ∷ cs) text (printable_bytes (c ∷ cs) h.bytes)

  -- the closing owes line feeds
  closed : (marker : List ℕ) (start : ℕ) (first number : Option ℕ) (mark : ℕ) (sheet : Sheet) → closing o (in_item marker start (in_list first number mark)) (page_of sheet 0 Inline None) ≡ Some (site (in_list first number mark) (page_of sheet owed item_end None))
  unfolding closing
  closed marker start first number mark sheet = refl

  -- the rest, once an item's text is written, once its marker is, and once its gap is
  abbrev from_text : List ℕ → Trees → Around → Site → Option Site
  from_text l f a full = then_site (closing o full.path full.page) (λ here. spelling s m f (beyond Item (leaf (text_leaf l) empty) a) here.path here.page)

  abbrev from_marker : List ℕ → Trees → Around → Site → Option Site
  from_marker l f a here =
      then_site (body_or_id (skips_body here.path) Item here (λ here. spelling s m (leaf (text_leaf l) empty) (inside Item (ahead_of f a)) here.path here.page)) (λ full. from_text l f a full)

  abbrev from_gap : List ℕ → Trees → Around → Path → Page → Option Site
  from_gap l f a path p = then_site (opening s m Item (look s m Item (leaf (text_leaf l) empty) (ahead_of f a)) path p) (λ here. from_marker l f a here)

  entered : (l : List ℕ) (f : Trees) (a : Around) (path : Path) (p : Page) → spelling s m (node Item (leaf (text_leaf l) empty) f) a path p ≡ from_gap l f a path (gap (Start Item) path p)
  unfolding spelling
  entered l f a path p = refl

  -- an item after its gap
  one_item : (first number : Option ℕ) (mark : ℕ) (l : List ℕ) (f : Trees) (a : Around) (sheet : Sheet) (last : Last) → AreBareWords l → laid [] (marker_of number mark) sheet ≡ within (sheet.text ++ marker_of number mark)
      → from_gap l f a (in_list first number mark) (page_of sheet 0 last None) ≡ spelling s m f (beyond Item (leaf (text_leaf l) empty) a) (in_list first (next_number o number) mark) (page_of (within ((sheet.text ++ marker_of number mark) ++ l)) owed item_end None)
  one_item first number mark l f a sheet last h laid_marker =
      let marker : List ℕ = marker_of number mark in
      let text : List ℕ = sheet.text ++ marker in
      let path : Path = in_item marker (length text) (in_list first (next_number o number) mark) in
      let next : Option ℕ = next_number o number in
      ap (λ (x : Option Site). then_site x (λ here. from_marker l f a here)) (opened first number mark l (ahead_of f a) sheet last)
      ∙ ap (λ (sheet : Sheet). from_marker l f a (site (in_item marker (length sheet.text) (in_list first next mark)) (page_of sheet 0 ItemStart None))) laid_marker
      ∙ ap (λ (x : Option Site). then_site x (λ full. from_text l f a full))
      (spelled_leaf s m (text_leaf l) empty (inside Item (ahead_of f a)) path (page_of (within text) 0 ItemStart None) (site path (page_of (within (text ++ l)) 0 Inline None))
      (text_on marker (length text) first next mark l text (ahead_of f a) ∙ ap (λ (sheet : Sheet). site path (page_of sheet 0 Inline None)) (words_laid marker (length text) first next mark l text h))
      ∙ spelled_end s m (past (Leaf (text_leaf l)) (inside Item (ahead_of f a))) (site path (page_of (within (text ++ l)) 0 Inline None)))
      ∙ ap (λ (x : Option Site). then_site x (λ here. spelling s m f (beyond Item (leaf (text_leaf l) empty) a) here.path here.page)) (closed marker (length text) first next mark (within (text ++ l)))

  later_items : (first number : Option ℕ) (mark : ℕ) (ls : List (List ℕ)) (a : Around) (text : List ℕ) → AllByRecursion AreBareWords ls → AreMarkers o number mark ls
      → spelling s m (item_trees ls) a (in_list first number mark) (page_of (within text) owed item_end None) ≡ Some (site (in_list first (last_number o number ls) mark) (page_of (within (text ++ items_behind o number mark ls)) owed item_end None))
  later_items first number mark [] a text h k =
      spelled_end s m a (site (in_list first number mark) (page_of (within text) owed item_end None))
      ∙ ap (λ (xs : List ℕ). Some (site (in_list first number mark) (page_of (within xs) owed item_end None))) (sym (append-nil text))
  later_items first number mark (l ∷ ls) a text h k =
      let marker : List ℕ = marker_of number mark in
      let next : Option ℕ = next_number o number in
      let front : List ℕ = text ++ 10 ∷ [] in
      let rest : List ℕ = items_behind o next mark ls in
      let joined : ((front ++ marker) ++ l) ++ rest ≡ text ++ (10 ∷ (marker ++ (l ++ rest))) =
      append_assoc (front ++ marker) l rest ∙ append_assoc front marker (l ++ rest) ∙ append_assoc text (10 ∷ []) (marker ++ (l ++ rest))
      in
      entered l (item_trees ls) a (in_list first number mark) (page_of (within text) owed item_end None)
      ∙ ap (from_gap l (item_trees ls) a (in_list first number mark)) (gap_later first number mark text)
      ∙ one_item first number mark l (item_trees ls) a (begun front) item_end (h.0) (laid_some marker (begun front) (k.0) (k.1))
      ∙ later_items first next mark ls (beyond Item (leaf (text_leaf l) empty) a) ((front ++ marker) ++ l) (h.1) (k.2)
      ∙ ap (λ (xs : List ℕ). Some (site (in_list first (last_number o next ls) mark) (page_of (within xs) owed item_end None))) joined

  items_spelled : (first : Option ℕ) (mark : ℕ) (l : List ℕ) (ls : List (List ℕ)) (a : Around) → AllByRecursion AreBareWords (l ∷ ls) → AreMarkers o first mark (l ∷ ls)
      → spelling s m (item_trees (l ∷ ls)) a (in_list first first mark) (page_of blank 0 Other None) ≡ Some (site (in_list first (last_number o first (l ∷ ls)) mark) (page_of (within (items_text o first mark l ls)) owed item_end None))
  items_spelled first mark l ls a h k =
      let marker : List ℕ = marker_of first mark in
      let next : Option ℕ = next_number o first in
      let rest : List ℕ = items_behind o next mark ls in
      entered l (item_trees ls) a (in_list first first mark) (page_of blank 0 Other None)
      ∙ ap (from_gap l (item_trees ls) a (in_list first first mark)) (gap_first first first mark)
      ∙ one_item first first mark l (item_trees ls) a blank Other (h.0) (laid_some marker blank (k.0) (k.1))
      ∙ later_items first next mark ls (beyond Item (leaf (text_leaf l) empty) a) (marker ++ l) (h.1) (k.2)
      ∙ ap (λ (xs : List ℕ). Some (site (in_list first (last_number o next ls) mark) (page_of (within xs) owed item_end None))) (append_assoc marker l rest)

  -- the opening of the list writes nothing
  list_opened : (first : Option ℕ) (kids : Trees) → is_tight kids ≡ true → has_lone_paragraph kids ≡ false → opening s m (ListOf first) (look s m (ListOf first) kids (ahead_of empty nowhere)) [] (gap (Start (ListOf first)) [] (page_of blank 0 Other None)) ≡ Some (site (in_list first first (token_of o first)) (page_of blank 0 Other None))
  unfolding opening
  list_opened None kids tight lone = rw (tight, lone) refl
  list_opened (Some n) kids tight lone = rw (tight, lone) refl

  abbrev from_items : Trees → Option ℕ → Site → Option Site
  from_items kids first full = then_site (closing o full.path full.page) (λ here. spelling s m empty (beyond (ListOf first) kids nowhere) here.path here.page)

  abbrev from_opening : Trees → Option ℕ → Site → Option Site
  from_opening kids first here =
      then_site (body_or_id (skips_body here.path) (ListOf first) here (λ here. spelling s m kids (inside (ListOf first) (ahead_of empty nowhere)) here.path here.page)) (λ full. from_items kids first full)

  list_entered : (first : Option ℕ) (kids : Trees) → spelling s m (node (ListOf first) kids empty) nowhere [] (page_of blank 0 Other None) ≡ then_site (opening s m (ListOf first) (look s m (ListOf first) kids (ahead_of empty nowhere)) [] (gap (Start (ListOf first)) [] (page_of blank 0 Other None))) (λ here. from_opening kids first here)
  unfolding spelling
  list_entered first kids = refl

  -- the closing writes nothing, either
  list_closed : (kids : Trees) (first number : Option ℕ) (mark : ℕ) (text : List ℕ) → (p : Page) × (from_items kids first (site (in_list first number mark) (page_of (within text) owed item_end None)) ≡ Some (site [] p)) × (p.sheet.text ≡ text) × (p.references ≡ [])
  unfolding spelling closing
  list_closed kids first number mark text = (_, refl, refl, refl)

  -- a list with which a document begins
  pub list_alone : (first : Option ℕ) (l : List ℕ) (ls : List (List ℕ)) → AllByRecursion AreBareWords (l ∷ ls) → AreMarkers o first (token_of o first) (l ∷ ls) → IsSpelledAlone s (node (ListOf first) (item_trees (l ∷ ls)) empty) (items_text o first (token_of o first) l ls)
  list_alone first l ls h k =
      let kids : Trees = item_trees (l ∷ ls) in
      let mark : ℕ = token_of o first in
      let left = list_closed kids first (last_number o first (l ∷ ls)) mark (items_text o first mark l ls) in
      record {
        path = [];
        page = left.0;
        is =
            list_entered first kids
            ∙ ap (λ (x : Option Site). then_site x (λ here. from_opening kids first here)) (list_opened first kids (tight_items l ls) (no_lone_paragraph (l ∷ ls)))
            ∙ ap (λ (x : Option Site). then_site x (λ full. from_items kids first full)) (items_spelled first mark l ls (inside (ListOf first) (ahead_of empty nowhere)) h k)
            ∙ left.1;
        text_is = left.2;
        none = left.3;
      }
