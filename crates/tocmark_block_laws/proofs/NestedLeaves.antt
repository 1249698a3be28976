-- Paragraphs, headings and thematic breaks where lists are open in each other.
use Rattle.std.proofs.Common.{◌≡◌, ◌⊎◌, inl, inr, ℕ, zero, suc, ◌+◌, ◌^◌, ◌<◌, ◌≤◌, Bool, true, false, not, cond, ◌==◌, ◌&&◌, ◌||◌, if◌then◌else◌, max, nat_lt, nat_le, List, [], ◌∷◌, ◌++◌, length, map, drop, refl, ap, sym, subst, ◌∙◌, arith, append_assoc, append-nil, length-append, true≢false, Option, Some, None}
use Rattle.std.specs.Prelude.{take_while, is_some}
use Rattle.std.specs.List.{AllByRecursion, fold}
use Rattle.std.proofs.lemmas.Bool.Decides.{nat_tests}
use Rattle.std.proofs.lemmas.List.{length-map, map-append}
use Rattle.std.proofs.lemmas.List.Sums.{take_while-cons}
use Rattle.tocmark_event.specs.declared.event.HeadingLevel.{HeadingLevel}
use Rattle.tocmark_read_scan.proofs.PlainPieces.{drop_behind}
use Rattle.tocmark_read_lines.specs.Cells.{cell_place}
use Rattle.tocmark_read_lines.specs.Marks.{tail_of, underline_at}
use Rattle.tocmark_read_lines.specs.declared.beginnings.Heading.{Heading}
use Rattle.tocmark_read_lines.specs.declared.cell.Cell.{Cell}
use Rattle.tocmark_read_lines.specs.declared.cell.Cursor.{Cursor}
use Rattle.tocmark_read_lines.specs.declared.container.Container.{Container}
use Rattle.tocmark_read_lines.specs.declared.line.Line.{Line}
use Rattle.tocmark_read_page.specs.Definitions.{DefinitionView, definitions_from}
use Rattle.tocmark_read_page.specs.Leaves.{is_paragraph}
use Rattle.tocmark_read_page.specs.Pages.{State, leaf_closed, loosened, closed_to}
use Rattle.tocmark_read_page.specs.Pieces.{heading_piece}
use Rattle.tocmark_read_page.specs.declared.leaf.Leaf.TheVariants as leaf
use Rattle.tocmark_read_page.specs.declared.page.Block.{Block as ReadBlock}
use Rattle.tocmark_read_page.specs.declared.page.BlockKind.TheVariants as kind
use Rattle.tocmark_read_page.specs.declared.piece.Piece.{Piece}
use Rattle.tocmark_read_blocks.specs.Blocks.{line_taken, started}
use Rattle.tocmark_read_blocks.specs.declared.leaf.LeafStart.TheVariants as start
use Rattle.tocmark_read_blocks.specs.Containers.{goes_directly}
use Rattle.tocmark_commonmark.specs.Lines.{Line as DeclaredLine, Written, Lazy, is_blank, is_blank_line, indent, ink, line_ink, cells}
use Rattle.tocmark_commonmark.specs.Tree.{Blocks, none, more, Rule, Heading as HeadingBlock, Paragraph, Found, ended as ended_found, unended}
use Rattle.tocmark_commonmark.specs.Beginnings.{Beginning, BlankLine, CodeLine, QuoteLine, HeadingLine, FenceLine, HtmlLine, RuleLine, ItemLine, TextLine, LazyLine, beginning, begins_with, heading_text, interrupts}
use Rattle.tocmark_commonmark.specs.Leaves.{text_of, definitions, underlined, underline, Turn, GoesOn, Stops, Underlines, turn_of, turned, paragraph_lines, paragraph_with, paragraph_of}
use Rattle.tocmark_commonmark.specs.Blocks.{first_block, and_rest, blocks_from}
use Rattle.tocmark_block_laws.specs.Trees.{line_text}
use Rattle.tocmark_block_laws.specs.Lists.{ends_blank, is_text, ends_text_as, ends_text, is_short_leaf, continues_text, text_rest, underlines_as, is_after_text, defines_nothing, is_nested_line, are_nested}
use Rattle.tocmark_block_laws.proofs.Marks.{heading_later}
use Rattle.tocmark_block_laws.proofs.LinkDefinitions.{reads_same, none_counted, brackets_none}
use Rattle.tocmark_block_laws.proofs.Starts.{plain_start, start_as, is_blank_kind}
use Rattle.tocmark_block_laws.proofs.Pages.{here, begin, piece_in, has_words, words}
use Rattle.tocmark_block_laws.proofs.Told.{also, Run, Holds, holds_more, heading_told, left_as, left_told, heading_left_told}
use Rattle.tocmark_block_laws.proofs.Paragraphs.{start_from}
use Rattle.tocmark_block_laws.proofs.Read.{words_told, few_words}
use Rattle.tocmark_block_laws.proofs.Ends.{no_blocks}
use Rattle.tocmark_block_laws.proofs.ListPages.{stack_page}
use Rattle.tocmark_block_laws.proofs.Nests.{Home, boxes, depth, list_in, block_in, home_page, box_count, home_stays, closes_so, loose_blocks, rule_there, heading_there, words_page, text_there, text_goes_on_there, under_block, underline_there, words_end}
use Rattle.tocmark_block_laws.proofs.Within.{Known, bytes_in, columns_of, left_from, place_from, part_from, Come, come_part, come_shown, comes_home, boxes_go, blank_home, full_depth, blank_row}
use Rattle.tocmark_block_laws.proofs.NestedLines.{comes, all_shown, Counted, weigh, ends_append, is_nested_kind, nested_kind, blank_part}
use Rattle.tocmark_block_laws.proofs.Loosened.{loose_run, holds_moved, holds_loosened}
use Rattle.tocmark_block_laws.proofs.NestedStarts.{level_none, short_ink, LeafFacts, leaf_facts, leaf_begun, Clear, begins_same}
use Rattle.tocmark_block_laws.proofs.NestedEnds.{containers_are, Frame, gap, Ends, ends_one, Goal, begins_blank, blank_stays, loose_frame, loose_same, leaf_done}

-- the line after a paragraph

two : (a c : Bool) → (a && not c) ≡ true → (a ≡ true) × (c ≡ false)
two true false e = (refl, refl)
two true true e = absurd (true≢false (sym e))
two false c e = absurd (true≢false (sym e))

is_none : {A : Type 0} (o : Option A) → is_some o ≡ false → o ≡ None
is_none None e = refl
is_none (Some x) e = absurd (true≢false e)

-- it is blank, or interrupts the paragraph and is no underline
abbrev pub Cuts : DeclaredLine → Beginning → Type 0
Cuts l k = (k ≡ BlankLine) ⊎ ((interrupts k ≡ true) × (underline ([] ∷ []) l ≡ None))

cuts_as : (l : DeclaredLine) (k : Beginning) → (interrupts k && not (is_some (underline ([] ∷ []) l))) ≡ true → Cuts l k
cuts_as l k e = let w = two (interrupts k) (is_some (underline ([] ∷ []) l)) e in inr (w.0, is_none (underline ([] ∷ []) l) (w.1))

pub cuts : (l : DeclaredLine) (k : Beginning) → ends_text_as l k ≡ true → Cuts l k
cuts l BlankLine e = inl refl
cuts l CodeLine e = cuts_as l CodeLine e
cuts l QuoteLine e = cuts_as l QuoteLine e
cuts l (HeadingLine h) e = cuts_as l (HeadingLine h) e
cuts l (FenceLine f) e = cuts_as l (FenceLine f) e
cuts l (HtmlLine h) e = cuts_as l (HtmlLine h) e
cuts l RuleLine e = cuts_as l RuleLine e
cuts l (ItemLine m) e = cuts_as l (ItemLine m) e
cuts l TextLine e = cuts_as l TextLine e
cuts l LazyLine e = cuts_as l LazyLine e

turn_stops : (k : Beginning) → interrupts k ≡ true → turn_of k None ≡ Stops
turn_stops BlankLine e = refl
turn_stops CodeLine e = ap (λ b. if b then Stops else GoesOn) e
turn_stops QuoteLine e = ap (λ b. if b then Stops else GoesOn) e
turn_stops (HeadingLine h) e = ap (λ b. if b then Stops else GoesOn) e
turn_stops (FenceLine f) e = ap (λ b. if b then Stops else GoesOn) e
turn_stops (HtmlLine h) e = ap (λ b. if b then Stops else GoesOn) e
turn_stops RuleLine e = ap (λ b. if b then Stops else GoesOn) e
turn_stops (ItemLine m) e = ap (λ b. if b then Stops else GoesOn) e
turn_stops TextLine e = ap (λ b. if b then Stops else GoesOn) e
turn_stops LazyLine e = ap (λ b. if b then Stops else GoesOn) e

-- a line that underlines no paragraph underlines none with definitions
under_none : (l : DeclaredLine) (texts : List (List ℕ)) → underline ([] ∷ []) l ≡ None → underline texts l ≡ None
under_none (Lazy bytes) texts e = refl
under_none (Written p) texts e = by (nat_le 4 (indent p)) (underline_at (cells (ink p)) 0) e
  where
    by : (far : Bool) (u : Option HeadingLevel) → (if far then None else underlined ([] ∷ []) u) ≡ None → (if far then None else underlined texts u) ≡ None
    by true u q = refl
    by false None q = refl
    by false (Some level) q = absurd (let w : Some level ≡ None = sym (ap (λ n. if nat_lt n 1 then Some level else None) (ap (λ (d : List DefinitionView × ℕ). d.1) (brackets_none [] [] refl))) ∙ q in cc)

-- lines that continue a paragraph
abbrev pub Continue : List DeclaredLine → Type 0
Continue ls = AllByRecursion (λ l. continues_text l ≡ true) ls

text_kind : (k : Beginning) → is_text k ≡ true → k ≡ TextLine
text_kind BlankLine e = absurd (true≢false (sym e))
text_kind CodeLine e = absurd (true≢false (sym e))
text_kind QuoteLine e = absurd (true≢false (sym e))
text_kind (HeadingLine h) e = absurd (true≢false (sym e))
text_kind (FenceLine f) e = absurd (true≢false (sym e))
text_kind (HtmlLine h) e = absurd (true≢false (sym e))
text_kind RuleLine e = absurd (true≢false (sym e))
text_kind (ItemLine m) e = absurd (true≢false (sym e))
text_kind TextLine e = refl
text_kind LazyLine e = absurd (true≢false (sym e))

goes_on_with : (texts : List (List ℕ)) (l : DeclaredLine) → continues_text l ≡ true → turn_of (beginning l) (underline texts l) ≡ GoesOn
unfolding interrupts
goes_on_with texts l e =
    let w = two (is_text (beginning l)) (is_some (underline ([] ∷ []) l)) e in
    ap (turn_of (beginning l)) (under_none l texts (is_none (underline ([] ∷ []) l) (w.1))) ∙ ap (λ k. turn_of k None) (text_kind (beginning l) (w.0))

-- the lines of a paragraph
paragraph_many : (texts : List (List ℕ)) (ls outs : List DeclaredLine) → Continue ls → ends_text outs ≡ true → paragraph_lines texts (ls ++ outs) ≡ (texts ++ map line_ink ls, None)
paragraph_many texts [] [] h e = ap (λ ts. (ts, None)) (sym (append-nil texts))
paragraph_many texts [] (l ∷ outs) h e = by (cuts l (beginning l) e) ∙ ap (λ ts. (ts, None)) (sym (append-nil texts))
  where
    next : Turn → List (List ℕ) × Option HeadingLevel
    next k = turned (λ ts. paragraph_lines ts outs) texts (line_ink l) k

    by : Cuts l (beginning l) → next (turn_of (beginning l) (underline texts l)) ≡ (texts, None)
    by (inl q) = ap (λ k. next (turn_of k (underline texts l))) q
    by (inr (q, u)) = ap (λ o. next (turn_of (beginning l) o)) (under_none l texts u) ∙ ap next (turn_stops (beginning l) q)
paragraph_many texts (l ∷ ls) outs h e =
    ap (turned (λ ts. paragraph_lines ts (ls ++ outs)) texts (line_ink l)) (goes_on_with texts l (h.0))
    ∙ paragraph_many (texts ++ line_ink l ∷ []) ls outs (h.1) e
    ∙ ap (λ ts. (ts, None)) (append_assoc texts (line_ink l ∷ []) (map line_ink ls))

pair_is : (d : List DefinitionView × ℕ) → d.0 ≡ [] → d.1 ≡ 0 → d ≡ ([], 0)
pair_is (xs, n) p q = ap (λ ys. (ys, n)) p ∙ ap (λ m. ([], m)) q

no_length : (xs : List DefinitionView) → (length xs == 0) ≡ true → xs ≡ []
no_length [] e = refl
no_length (x ∷ xs) e = absurd (let no : (suc (length xs) == 0) ≡ false = grind (arith, nat_tests) in true≢false (sym e ∙ no))

pub no_definitions : (l : DeclaredLine) (rest : List DeclaredLine) → defines_nothing l rest ≡ true → definitions (line_ink l ∷ map line_ink rest) ≡ ([], 0)
no_definitions l rest e = by (begins_with 91 (line_ink l)) refl e
  where
    texts : List (List ℕ)
    texts = line_ink l ∷ map line_ink rest

    by : (k : Bool) → begins_with 91 (line_ink l) ≡ k → (not k || (length ((definitions texts).0) == 0)) ≡ true → definitions texts ≡ ([], 0)
    by true q o = let none_there : (definitions texts).0 ≡ [] = no_length ((definitions texts).0) o in pair_is (definitions texts) none_there (none_counted texts none_there)
    by false q o = brackets_none (line_ink l) (map line_ink rest) q

-- the declared paragraph of a line, and those after it
abbrev pub words_found : ℕ → DeclaredLine → List DeclaredLine → Found
words_found at x rest = unended (Paragraph (text_of (line_ink x ∷ map line_ink rest))) (at + 0) (at + 0 + length (map line_ink rest))

text_taken_is : (at : ℕ) (x : DeclaredLine) (rest outs : List DeclaredLine) → Continue rest → defines_nothing x rest ≡ true → ends_text outs ≡ true → paragraph_of at (paragraph_lines (line_ink x ∷ []) (rest ++ outs)) ≡ record { found = words_found at x rest ∷ []; count = suc (length (map line_ink rest)) }
text_taken_is at x rest outs goes nothing alone = ap (paragraph_of at) (paragraph_many (line_ink x ∷ []) rest outs goes alone) ∙ ap (paragraph_with at (line_ink x ∷ map line_ink rest) None) (no_definitions x rest nothing)

blocks_after_rule : (f at : ℕ) (x : DeclaredLine) (ls : List DeclaredLine) → beginning x ≡ RuleLine → blocks_from (suc f) at (x ∷ ls) ≡ ended_found Rule at at ∷ blocks_from f (at + 1) ls
unfolding blocks_from
blocks_after_rule f at x ls e = ap (λ k. and_rest (λ n y. blocks_from f n y) at (x ∷ ls) (first_block (λ y. blocks_from f 0 y) at x ls k)) e

blocks_after_heading : (f at : ℕ) (x : DeclaredLine) (ls : List DeclaredLine) (h : Heading) → beginning x ≡ HeadingLine h → blocks_from (suc f) at (x ∷ ls) ≡ ended_found (HeadingBlock h.level (heading_text h (line_ink x) (cells (line_ink x)))) at at ∷ blocks_from f (at + 1) ls
unfolding blocks_from
blocks_after_heading f at x ls h e = ap (λ k. and_rest (λ n y. blocks_from f n y) at (x ∷ ls) (first_block (λ y. blocks_from f 0 y) at x ls k)) e

blocks_after_text : (f at : ℕ) (x : DeclaredLine) (ls rest outs : List DeclaredLine) → ls ≡ rest ++ outs → beginning x ≡ TextLine → Continue rest → defines_nothing x rest ≡ true → ends_text outs ≡ true → blocks_from (suc f) at (x ∷ ls) ≡ words_found at x rest ∷ blocks_from f (at + suc (length rest)) outs
unfolding blocks_from
blocks_after_text f at x ls rest outs is e goes nothing alone =
    ap (λ zs. blocks_from (suc f) at (x ∷ zs)) is
    ∙ ap (λ k. and_rest (λ n y. blocks_from f n y) at (x ∷ (rest ++ outs)) (first_block (λ y. blocks_from f 0 y) at x (rest ++ outs) k)) e
    ∙ ap (and_rest (λ n y. blocks_from f n y) at (x ∷ (rest ++ outs))) (text_taken_is at x rest outs goes nothing alone)
    ∙ ap (λ n. words_found at x rest ∷ blocks_from f (at + suc n) (drop n (rest ++ outs))) (length-map rest line_ink)
    ∙ ap (λ zs. words_found at x rest ∷ blocks_from f (at + suc (length rest)) zs) (drop_behind rest outs)

-- an underline below a paragraph without definitions

under_some : (l : DeclaredLine) (texts : List (List ℕ)) (level : HeadingLevel) → underline ([] ∷ []) l ≡ Some level → (definitions texts).1 ≡ 0 → 0 < length texts → underline texts l ≡ Some level
under_some (Lazy bytes) texts level e h some = absurd cc
under_some (Written p) texts level e h some = by (nat_le 4 (indent p)) (underline_at (cells (ink p)) 0) e
  where
    any : (n : ℕ) → n ≡ 0 → (v : HeadingLevel) → (if nat_lt n (length texts) then Some v else None) ≡ Some v
    any n z v = ap (λ k. if k then Some v else None) (let q : nat_lt n (length texts) ≡ true = grind (arith, z, some, nat_tests) in q)

    by : (far : Bool) (u : Option HeadingLevel) → (if far then None else underlined ([] ∷ []) u) ≡ Some level → (if far then None else underlined texts u) ≡ Some level
    by true u q = absurd cc
    by false None q = absurd cc
    by false (Some v) q = any ((definitions texts).1) h v ∙ sym (ap (λ n. if nat_lt n 1 then Some v else None) (ap (λ (d : List DefinitionView × ℕ). d.1) (brackets_none [] [] refl))) ∙ q

underlines_turn : (l : DeclaredLine) (k : Beginning) (level : HeadingLevel) → underlines_as l k ≡ true → turn_of k (Some level) ≡ Underlines level
underlines_turn l BlankLine level e = absurd (true≢false (sym e))
underlines_turn l CodeLine level e = absurd (true≢false (sym e))
underlines_turn l QuoteLine level e = absurd (true≢false (sym e))
underlines_turn l (HeadingLine h) level e = absurd (true≢false (sym e))
underlines_turn l (FenceLine f) level e = absurd (true≢false (sym e))
underlines_turn l (HtmlLine h) level e = absurd (true≢false (sym e))
underlines_turn l RuleLine level e = refl
underlines_turn l (ItemLine m) level e = absurd (true≢false (sym e))
underlines_turn l TextLine level e = refl
underlines_turn l LazyLine level e = absurd (true≢false (sym e))

some_is : (o : Option HeadingLevel) → is_some o ≡ true → (level : HeadingLevel) × (o ≡ Some level)
some_is None e = absurd (true≢false (sym e))
some_is (Some level) e = (level, refl)

underlines_kind : (l : DeclaredLine) (k : Beginning) → underlines_as l k ≡ true → (is_short_leaf k ≡ true) × (is_some (underline ([] ∷ []) l) ≡ true) × ((place : Cursor) (level : HeadingLevel) → start_as place true true (Some level) k ≡ start.Underline level)
underlines_kind l BlankLine e = absurd (true≢false (sym e))
underlines_kind l CodeLine e = absurd (true≢false (sym e))
underlines_kind l QuoteLine e = absurd (true≢false (sym e))
underlines_kind l (HeadingLine h) e = absurd (true≢false (sym e))
underlines_kind l (FenceLine f) e = absurd (true≢false (sym e))
underlines_kind l (HtmlLine h) e = absurd (true≢false (sym e))
underlines_kind l RuleLine e = (refl, e, (λ place level. refl))
underlines_kind l (ItemLine m) e = absurd (true≢false (sym e))
underlines_kind l TextLine e = (refl, e, (λ place level. refl))
underlines_kind l LazyLine e = absurd (true≢false (sym e))

paragraph_under : (texts : List (List ℕ)) (ls : List DeclaredLine) (u : DeclaredLine) (outs : List DeclaredLine) (level : HeadingLevel) → Continue ls → underlines_as u (beginning u) ≡ true → underline ([] ∷ []) u ≡ Some level → (definitions (texts ++ map line_ink ls)).1 ≡ 0 → 0 < length texts → paragraph_lines texts (ls ++ u ∷ outs) ≡ (texts ++ map line_ink ls, Some level)
paragraph_under texts [] u outs level h k e none_there some =
    ap (λ o. turned (λ ts. paragraph_lines ts outs) texts (line_ink u) (turn_of (beginning u) o)) (under_some u texts level e (subst (λ ts. (definitions ts).1 ≡ 0) (append-nil texts) none_there) some)
    ∙ ap (turned (λ ts. paragraph_lines ts outs) texts (line_ink u)) (underlines_turn u (beginning u) level k)
    ∙ ap (λ ts. (ts, Some level)) (sym (append-nil texts))
paragraph_under texts (l ∷ ls) u outs level h k e none_there some =
    ap (turned (λ ts. paragraph_lines ts (ls ++ u ∷ outs)) texts (line_ink l)) (goes_on_with texts l (h.0))
    ∙ paragraph_under (texts ++ line_ink l ∷ []) ls u outs level (h.1) k e (subst (λ ts. (definitions ts).1 ≡ 0) (sym (append_assoc texts (line_ink l ∷ []) (map line_ink ls))) none_there) (let q : length (texts ++ line_ink l ∷ []) ≡ length texts + 1 = length-append texts (line_ink l ∷ []) in omega (arith, q))
    ∙ ap (λ ts. (ts, Some level)) (append_assoc texts (line_ink l ∷ []) (map line_ink ls))

-- the declared heading
abbrev pub under_found : ℕ → HeadingLevel → DeclaredLine → List DeclaredLine → Found
under_found at level x rest = ended_found (HeadingBlock level (text_of (line_ink x ∷ map line_ink rest))) (at + 0) (at + suc (length (map line_ink rest)))

blocks_after_under : (f at : ℕ) (x : DeclaredLine) (ls rest : List DeclaredLine) (u : DeclaredLine) (outs : List DeclaredLine) (level : HeadingLevel) → ls ≡ rest ++ u ∷ outs → beginning x ≡ TextLine → Continue rest → defines_nothing x rest ≡ true → underlines_as u (beginning u) ≡ true → underline ([] ∷ []) u ≡ Some level → blocks_from (suc f) at (x ∷ ls) ≡ under_found at level x rest ∷ blocks_from f (at + suc (suc (length rest))) outs
unfolding blocks_from
blocks_after_under f at x ls rest u outs level is e goes nothing k under =
    ap (λ zs. blocks_from (suc f) at (x ∷ zs)) is
    ∙ ap (λ b. and_rest (λ n y. blocks_from f n y) at (x ∷ (rest ++ u ∷ outs)) (first_block (λ y. blocks_from f 0 y) at x (rest ++ u ∷ outs) b)) e
    ∙ ap (λ z. and_rest (λ n y. blocks_from f n y) at (x ∷ (rest ++ u ∷ outs)) (paragraph_of at z)) (paragraph_under (line_ink x ∷ []) rest u outs level goes k under (ap (λ (d : List DefinitionView × ℕ). d.1) (no_definitions x rest nothing)) (omega arith))
    ∙ ap (λ z. and_rest (λ n y. blocks_from f n y) at (x ∷ (rest ++ u ∷ outs)) (paragraph_with at (line_ink x ∷ map line_ink rest) (Some level) z)) (no_definitions x rest nothing)
    ∙ ap (λ n. under_found at level x rest ∷ blocks_from f (at + n) (drop n (x ∷ (rest ++ u ∷ outs)))) (let q : length (map line_ink rest) ≡ length rest = length-map rest line_ink in let z : suc (length (map line_ink rest)) + 1 ≡ suc (suc (length rest)) = omega (arith, q) in z)
    ∙ ap (λ zs. under_found at level x rest ∷ blocks_from f (at + suc (suc (length rest))) zs) (ap (drop (suc (length rest))) (sym (append_assoc rest (u ∷ []) outs)) ∙ ap (λ n. drop n ((rest ++ u ∷ []) ++ outs)) (let q : length (rest ++ u ∷ []) ≡ length rest + 1 = length-append rest (u ∷ []) in let z : suc (length rest) ≡ length (rest ++ u ∷ []) = omega (arith, q) in z) ∙ drop_behind (rest ++ u ∷ []) outs)

-- lines that continue a paragraph, and those after them
record Lined (text : List ℕ) (ks : List Container) (cs : List (Come text ks)) (ls : List DeclaredLine) : Type 0 where
  ins : List (Come text ks)
  outs : List (Come text ks)
  is : cs ≡ ins ++ outs
  shown : all_shown text ks ins ≡ ls
  whole : all_shown text ks cs ≡ ls ++ all_shown text ks outs
  goes : Continue ls
  each : AllByRecursion (λ v. continues_text (come_shown text ks v) ≡ true) ins

lined : (text : List ℕ) (ks : List Container) (cs : List (Come text ks)) → Lined text ks cs (text_rest (all_shown text ks cs))
lined text ks [] = record { ins = []; outs = []; is = refl; shown = refl; whole = refl; goes = tt; each = tt }
lined text ks (v ∷ cs) = by (continues_text l) refl (lined text ks cs)
  where
    l : DeclaredLine
    l = come_shown text ks v

    rest : List DeclaredLine
    rest = text_rest (all_shown text ks cs)

    front_is : (k : Bool) → continues_text l ≡ k → take_while continues_text (l ∷ all_shown text ks cs) ≡ cond k (l ∷ rest) []
    front_is k e = take_while-cons continues_text l (all_shown text ks cs) ∙ ap (λ b. cond b (l ∷ rest) []) e

    by : (k : Bool) → continues_text l ≡ k → Lined text ks cs rest → Lined text ks (v ∷ cs) (take_while continues_text (l ∷ all_shown text ks cs))
    by true e r = subst (λ ls. Lined text ks (v ∷ cs) ls) (sym (front_is true e)) (record {
      ins = v ∷ r.ins;
      outs = r.outs;
      is = ap (λ zs. v ∷ zs) r.is;
      shown = ap (λ zs. l ∷ zs) r.shown;
      whole = ap (λ zs. l ∷ zs) r.whole;
      goes = (e, r.goes);
      each = (e, r.each);
    })
    by false e r = subst (λ ls. Lined text ks (v ∷ cs) ls) (sym (front_is false e)) (record { ins = []; outs = v ∷ cs; is = refl; shown = refl; whole = refl; goes = tt; each = tt })

-- the lines after a paragraph come as after its end

directly : (text : List ℕ) (p : Home) (e n : ℕ) (bs : List ReadBlock) (ps : List Piece) (end number kept : ℕ) → goes_directly (length (boxes p e n true)) (home_page p e n true leaf.Paragraph bs ps end number kept) ≡ true
unfolding goes_directly is_paragraph
directly text p e n bs ps end number kept = let q : nat_le (length (boxes p e n true)) (length (boxes p e n true)) ≡ true = grind (arith, nat_tests) in q

clear_cut : (l : DeclaredLine) (k : Beginning) → is_nested_kind k ≡ true → (k ≡ BlankLine → ⊥) → interrupts k ≡ true → underline ([] ∷ []) l ≡ None → Clear true true l k
unfolding interrupts
clear_cut l BlankLine i o w u = absurd (o refl)
clear_cut l CodeLine i o w u = absurd (true≢false (sym i))
clear_cut l QuoteLine i o w u = absurd (true≢false (sym i))
clear_cut l (HeadingLine h) i o w u = tt
clear_cut l (FenceLine f) i o w u = absurd (true≢false (sym i))
clear_cut l (HtmlLine h) i o w u = absurd (true≢false (sym i))
clear_cut l RuleLine i o w u = inr u
clear_cut l (ItemLine m) i o w u = ap not w
clear_cut l TextLine i o w u = absurd (true≢false (sym w))
clear_cut l LazyLine i o w u = absurd (true≢false (sym i))

clear_below : (l : DeclaredLine) (k : Beginning) → is_nested_kind k ≡ true → (k ≡ BlankLine → ⊥) → Cuts l k → Clear true true l k
clear_below l k kind_is inked (inl q) = absurd (inked q)
clear_below l k kind_is inked (inr (q, u)) = clear_cut l k kind_is inked q u

after_words : (text : List ℕ) (g : ℕ) (p : Home) (r : Run) (ks : List Container) (origin count : ℕ) → Frame p r ks origin count → (v : Come text ks) (cs : List (Come text ks)) (e n de dn : ℕ) (bs cs' : List ReadBlock) (ps qs : List Piece) (end number kept end' number' kept' : ℕ)
    → closed_to text (depth p) (home_page p e n true leaf.Paragraph bs ps end number kept) ≡ home_page p de dn true leaf.Nothing cs' qs end' number' kept'
    → are_nested (suc g) (all_shown text ks (v ∷ cs)) ≡ true → ends_text (all_shown text ks (v ∷ cs)) ≡ true
    → line_taken text (home_page p e n true leaf.Paragraph bs ps end number kept) v.line ≡ line_taken text (home_page p de dn true leaf.Nothing cs' qs end' number' kept') v.line
unfolding is_paragraph
after_words text g p r ks origin count fr v cs e n de dn bs cs' ps qs end number kept end' number' kept' closes nested alone = by (is_blank (bytes_in text v.line)) refl
  where
    open_page : State
    open_page = home_page p e n true leaf.Paragraph bs ps end number kept

    page : State
    page = home_page p de dn true leaf.Nothing cs' qs end' number' kept'

    x : DeclaredLine
    x = come_shown text ks v

    shallow : (ae an : ℕ) → length (boxes p ae an true) + 2 < 2 ^ 64
    shallow ae an = let d : depth p + 2 < 2 ^ 64 = fr.shallow in omega (arith, box_count p ae an true, d)

    closes_at : closed_to text (length (boxes p e n true)) open_page ≡ page
    closes_at = ap (λ d. closed_to text d open_page) (box_count p e n true) ∙ closes

    blanked : is_blank (bytes_in text v.line) ≡ true → line_taken text open_page v.line ≡ line_taken text page v.line
    blanked q =
        blank_home text (blank_row text ks v q) (boxes p e n true) leaf.Paragraph bs ps end number kept (boxes_go p e n fr.steady) (full_depth p e n) refl (let s : length (boxes p e n true) + 2 < 2 ^ 64 = shallow e n in omega (arith, s))
        ∙ closes_at ∙ sym (blank_stays text p r ks origin count fr (blank_row text ks v q) de dn cs' qs end' number' kept')

    inked : is_blank (bytes_in text v.line) ≡ false → line_taken text open_page v.line ≡ line_taken text page v.line
    inked q =
        comes_home text (boxes p e n true) ks (containers_are p e n true ∙ fr.kinds) v q leaf.Paragraph bs ps end number kept refl (shallow e n)
        ∙ begins_same text v.line v.known v.column v.inside (beginning x) refl (length (boxes p e n true)) open_page page true true refl (directly text p e n bs ps end number kept) refl
        (closes_at ∙ sym (ap (λ d. closed_to text d page) (box_count p e n true) ∙ home_stays text p de dn true cs' qs end' number' kept'))
        (clear_below x (beginning x) (nested_kind (λ xs. are_nested g xs) x (all_shown text ks cs) (beginning x) nested) (λ b. true≢false (sym (blank_part (come_part text ks v) b) ∙ v.same ∙ q)) (cuts x (beginning x) alone))
        ∙ ap (λ d. begin text (columns_of text v.line) v.line d (place_from text v.line v.column) page) (box_count p e n true ∙ sym (box_count p de dn true))
        ∙ sym (comes_home text (boxes p de dn true) ks (containers_are p de dn true ∙ fr.kinds) v q leaf.Nothing cs' qs end' number' kept' refl (shallow de dn))

    by : (k : Bool) → is_blank (bytes_in text v.line) ≡ k → line_taken text open_page v.line ≡ line_taken text page v.line
    by true q = blanked q
    by false q = inked q

-- a line that continues the paragraph
line_continues : (text : List ℕ) (p : Home) (r : Run) (ks : List Container) (origin count : ℕ) → Frame p r ks origin count → (v : Come text ks) → continues_text (come_shown text ks v) ≡ true → (e n : ℕ) (bs : List ReadBlock) (ps : List Piece) (q : Piece) (qs : List Piece) (at end number : ℕ)
    → (line_taken text (words_page p e n bs ps (q ∷ qs) at end number) v.line ≡ words_page p e n bs ps (q ∷ (qs ++ piece_in (columns_of text v.line) (place_from text v.line v.column) v.line ∷ [])) at v.line.end v.line.number)
    × (line_text text (piece_in (columns_of text v.line) (place_from text v.line v.column) v.line) ≡ line_ink (come_shown text ks v)) × (is_blank_line (come_shown text ks v) ≡ false)
unfolding is_paragraph
line_continues text p r ks origin count fr v goes e n bs ps q qs at end number = (comes_in, ft.ink not_blank, inked)
  where
    x : DeclaredLine
    x = come_shown text ks v

    tests : (is_text (beginning x) ≡ true) × (is_some (underline ([] ∷ []) x) ≡ false)
    tests = two (is_text (beginning x)) (is_some (underline ([] ∷ []) x)) goes

    kind_is : beginning x ≡ TextLine
    kind_is = text_kind (beginning x) (tests.0)

    inked : is_blank (left_from text v.line v.column) ≡ false
    inked = by (is_blank (left_from text v.line v.column)) refl
      where
        by : (k : Bool) → is_blank (left_from text v.line v.column) ≡ k → is_blank (left_from text v.line v.column) ≡ false
        by true o = absurd (true≢false (sym (tests.0) ∙ ap is_text (begins_blank (come_part text ks v) o)))
        by false o = o

    ft : LeafFacts text v.line v.column
    ft = leaf_facts text v.line v.known v.column v.inside (ap is_short_leaf kind_is)

    is : ft.kind ≡ TextLine
    is = sym ft.begins ∙ kind_is

    not_blank : is_blank_kind ft.kind ≡ false
    not_blank = ap is_blank_kind is

    level : ft.level ≡ None
    level = level_none ft.level (sym (ft.under not_blank ([] ∷ [])) ∙ is_none (underline ([] ∷ []) x) (tests.1))

    columns : List Cell
    columns = columns_of text v.line

    place : Cursor
    place = place_from text v.line v.column

    d : ℕ
    d = length (boxes p e n true)

    page : State
    page = words_page p e n bs ps (q ∷ qs) at end number

    comes_in : line_taken text page v.line ≡ words_page p e n bs ps (q ∷ (qs ++ piece_in columns place v.line ∷ [])) at v.line.end v.line.number
    comes_in =
        comes_home text (boxes p e n true) ks (containers_are p e n true ∙ fr.kinds) v (sym v.same ∙ inked) leaf.Paragraph (bs ++ block_in p kind.Paragraph at at (length ps) (length ps) ∷ []) (ps ++ q ∷ qs) end number (length (ps ++ q ∷ qs)) refl (let s : depth p + 2 < 2 ^ 64 = fr.shallow in omega (arith, box_count p e n true, s))
        ∙ leaf_begun text v.line v.column ft TextLine is refl d page true true refl (directly text p e n (bs ++ block_in p kind.Paragraph at at (length ps) (length ps) ∷ []) (ps ++ q ∷ qs) end number (length (ps ++ q ∷ qs)))
        ∙ ap (λ u. started (plain_start true u start.Text) text columns v.line (tail_of columns) (here d place) page) level
        ∙ text_goes_on_there text p columns v.line d place e n bs ps q qs at end number (ft.some not_blank)

-- a line that underlines the paragraph
line_underlines : (text : List ℕ) (p : Home) (r : Run) (ks : List Container) (origin count : ℕ) → Frame p r ks origin count → (v : Come text ks) → underlines_as (come_shown text ks v) (beginning (come_shown text ks v)) ≡ true → (level : HeadingLevel) → underline ([] ∷ []) (come_shown text ks v) ≡ Some level → (e n : ℕ) (bs : List ReadBlock) (ps : List Piece) (q : Piece) (qs : List Piece) (at end number : ℕ) → definitions_from text (q ∷ qs) [] ≡ ([], 0) → length ps + 0 < 2 ^ 64
    → (line_taken text (words_page p e n bs ps (q ∷ qs) at end number) v.line ≡ home_page p (max e v.line.end) (max n v.line.number) true leaf.Nothing (bs ++ under_block p level ps (q ∷ qs) at v.line.end ∷ []) (ps ++ q ∷ qs) v.line.end v.line.number (length (ps ++ q ∷ qs)))
    × (is_blank_line (come_shown text ks v) ≡ false)
unfolding is_paragraph
line_underlines text p r ks origin count fr v under level is_under e n bs ps q qs at end number reads fits = (comes_in, inked)
  where
    x : DeclaredLine
    x = come_shown text ks v

    facts : (is_short_leaf (beginning x) ≡ true) × (is_some (underline ([] ∷ []) x) ≡ true) × ((place : Cursor) (lv : HeadingLevel) → start_as place true true (Some lv) (beginning x) ≡ start.Underline lv)
    facts = underlines_kind x (beginning x) under

    inked : is_blank (left_from text v.line v.column) ≡ false
    inked = by (is_blank (left_from text v.line v.column)) refl
      where
        by : (k : Bool) → is_blank (left_from text v.line v.column) ≡ k → is_blank (left_from text v.line v.column) ≡ false
        by true o = absurd (true≢false (sym (facts.0) ∙ ap is_short_leaf (begins_blank (come_part text ks v) o)))
        by false o = o

    ft : LeafFacts text v.line v.column
    ft = leaf_facts text v.line v.known v.column v.inside (facts.0)

    is : ft.kind ≡ beginning x
    is = sym ft.begins

    not_blank : is_blank_kind ft.kind ≡ false
    not_blank = ap is_blank_kind is ∙ short_ink (beginning x) (facts.0)

    level_some : (o : Option HeadingLevel) → underlined ([] ∷ []) o ≡ Some level → o ≡ Some level
    level_some None z = absurd cc
    level_some (Some lv) z = sym (ap (λ m. if nat_lt m 1 then Some lv else None) (ap (λ (d : List DefinitionView × ℕ). d.1) (brackets_none [] [] refl))) ∙ z

    level_is : ft.level ≡ Some level
    level_is = level_some ft.level (sym (ft.under not_blank ([] ∷ [])) ∙ is_under)

    columns : List Cell
    columns = columns_of text v.line

    place : Cursor
    place = place_from text v.line v.column

    d : ℕ
    d = length (boxes p e n true)

    page : State
    page = words_page p e n bs ps (q ∷ qs) at end number

    comes_in : line_taken text page v.line ≡ home_page p (max e v.line.end) (max n v.line.number) true leaf.Nothing (bs ++ under_block p level ps (q ∷ qs) at v.line.end ∷ []) (ps ++ q ∷ qs) v.line.end v.line.number (length (ps ++ q ∷ qs))
    comes_in =
        comes_home text (boxes p e n true) ks (containers_are p e n true ∙ fr.kinds) v (sym v.same ∙ inked) leaf.Paragraph (bs ++ block_in p kind.Paragraph at at (length ps) (length ps) ∷ []) (ps ++ q ∷ qs) end number (length (ps ++ q ∷ qs)) refl (let s : depth p + 2 < 2 ^ 64 = fr.shallow in omega (arith, box_count p e n true, s))
        ∙ leaf_begun text v.line v.column ft (beginning x) is (facts.0) d page true true refl (directly text p e n (bs ++ block_in p kind.Paragraph at at (length ps) (length ps) ∷ []) (ps ++ q ∷ qs) end number (length (ps ++ q ∷ qs)))
        ∙ ap (λ u. started (start_as place true true u (beginning x)) text columns v.line (tail_of columns) (here d place) page) level_is
        ∙ ap (λ u. started u text columns v.line (tail_of columns) (here d place) page) ((facts.2) place level)
        ∙ underline_there text p columns v.line d place level e n bs ps q qs at end number reads fits

-- the page after such lines
record Grown (text : List ℕ) (ks : List Container) (p : Home) (e n : ℕ) (bs : List ReadBlock) (ps : List Piece) (q : Piece) (at number : ℕ) (ins : List (Come text ks)) (texts : List (List ℕ)) (s : State) : Type 0 where
  more : List Piece
  end : ℕ
  last : ℕ
  is : fold (comes text ks) s ins ≡ words_page p e n bs ps (q ∷ more) at end last
  says : map (line_text text) (q ∷ more) ≡ texts ++ map line_ink (all_shown text ks ins)
  long : last ≡ number + length ins
  blank : fold (λ (was : Bool) (l : DeclaredLine). is_blank_line l) false (all_shown text ks ins) ≡ false

grown_more : (text : List ℕ) (ks : List Container) (p : Home) (e n : ℕ) (bs : List ReadBlock) (ps : List Piece) (q new : Piece) (qs : List Piece) (at end number : ℕ) (v : Come text ks) (ins : List (Come text ks)) (texts : List (List ℕ))
    → (line_taken text (words_page p e n bs ps (q ∷ qs) at end number) v.line ≡ words_page p e n bs ps (q ∷ (qs ++ new ∷ [])) at v.line.end v.line.number) × (line_text text new ≡ line_ink (come_shown text ks v)) × (is_blank_line (come_shown text ks v) ≡ false) → v.line.number ≡ suc number
    → Grown text ks p e n bs ps q at v.line.number ins (texts ++ line_ink (come_shown text ks v) ∷ []) (words_page p e n bs ps (q ∷ (qs ++ new ∷ [])) at v.line.end v.line.number)
    → Grown text ks p e n bs ps q at number (v ∷ ins) texts (words_page p e n bs ps (q ∷ qs) at end number)
grown_more text ks p e n bs ps q new qs at end number v ins texts step now g = record {
  more = g.more;
  end = g.end;
  last = g.last;
  is = ap (λ s. fold (comes text ks) s ins) (step.0) ∙ g.is;
  says = g.says ∙ append_assoc texts (line_ink (come_shown text ks v) ∷ []) (map line_ink (all_shown text ks ins));
  long = (let one : g.last ≡ v.line.number + length ins = g.long in omega (arith, one, now));
  blank = ap (λ k. fold (λ (was : Bool) (l : DeclaredLine). is_blank_line l) k (all_shown text ks ins)) (step.2) ∙ g.blank;
}

grown : (text : List ℕ) (p : Home) (r : Run) (ks : List Container) (origin count : ℕ) → Frame p r ks origin count → (ins : List (Come text ks)) → AllByRecursion (λ v. continues_text (come_shown text ks v) ≡ true) ins → (e n : ℕ) (bs : List ReadBlock) (ps : List Piece) (q : Piece) (qs : List Piece) (at end number : ℕ) (texts : List (List ℕ)) → map (line_text text) (q ∷ qs) ≡ texts → Counted text ks (suc number) ins
    → Grown text ks p e n bs ps q at number ins texts (words_page p e n bs ps (q ∷ qs) at end number)
grown text p r ks origin count fr [] h e n bs ps q qs at end number texts says counted = record { more = qs; end = end; last = number; is = refl; says = says ∙ sym (append-nil texts); long = omega arith; blank = refl }
grown text p r ks origin count fr (v ∷ ins) h e n bs ps q qs at end number texts says counted =
    let new : Piece = piece_in (columns_of text v.line) (place_from text v.line v.column) v.line in
    let step = line_continues text p r ks origin count fr v (h.0) e n bs ps q qs at end number in
    grown_more text ks p e n bs ps q new qs at end number v ins texts step (counted.0)
    (grown text p r ks origin count fr ins (h.1) e n bs ps q (qs ++ new ∷ []) at v.line.end v.line.number (texts ++ line_ink (come_shown text ks v) ∷ [])
    (map-append (line_text text) (q ∷ qs) (new ∷ []) ∙ ap (λ zs. zs ++ line_text text new ∷ []) says ∙ ap (λ z. texts ++ z ∷ []) (step.1))
    (subst (λ m. Counted text ks (suc m) ins) (sym (counted.0)) (counted.1)))

-- leaves are read

or_not : (a : Bool) → (a || false) ≡ a
or_not true = refl
or_not false = refl

and_not : (a b : Bool) → b ≡ false → (a && b) ≡ false
and_not true b e = e
and_not false b e = refl

split_text : (a b : Bool) → (a && b) ≡ true → (a ≡ true) × (b ≡ true)
split_text false b e = absurd (true≢false (sym e))
split_text true false e = absurd (true≢false (sym e))
split_text true true e = (refl, refl)

pub leaf_read : (text : List ℕ) (g : ℕ) → Goal text g → (p : Home) (r : Run) (ks : List Container) (origin count : ℕ) → Frame p r ks origin count → (at f : ℕ) (l : Line) (known : Known text l) (c : ℕ) (inside : c ≤ length (bytes_in text l)) (cs : List (Come text ks)) (e n last : ℕ) (had : Bool) (bs : List ReadBlock) (ps : List Piece) (end number kept : ℕ) (found : Blocks) → Holds text r bs ps found
    → n ≡ origin + last → last < max at 1 → length ps < origin + at → is_blank (left_from text l c) ≡ false → l.number ≡ origin + at
    → (k : Beginning) → beginning (Written (part_from text l c)) ≡ k → is_short_leaf k ≡ true → is_nested_line (λ xs. are_nested g xs) (Written (part_from text l c)) (all_shown text ks cs) k ≡ true
    → weigh (all_shown text ks cs) ≤ f → Counted text ks (origin + suc at) cs → at + suc (length cs) ≡ count
    → Ends text p r origin count (fold (comes text ks) (begin text (columns_of text l) l (depth p) (place_from text l c) (home_page p e n had leaf.Nothing bs ps end number kept)) cs) found had last (Written (part_from text l c) ∷ all_shown text ks cs) (blocks_from (suc f) at (Written (part_from text l c) ∷ all_shown text ks cs))
unfolding is_paragraph goes_directly
leaf_read text g goal p r ks origin count fr at f l known c inside cs e n last had bs ps end number kept found holds near low few ink now k begins short nested weight counted total = by k begins short nested
  where
    columns : List Cell
    columns = columns_of text l

    place : Cursor
    place = place_from text l c

    x : DeclaredLine
    x = Written (part_from text l c)

    ls : List DeclaredLine
    ls = all_shown text ks cs

    ft : LeafFacts text l c
    ft = leaf_facts text l known c inside (ap is_short_leaf begins ∙ short)

    page : State
    page = home_page p e n had leaf.Nothing bs ps end number kept

    a : Bool
    a = had && nat_lt (last + 1) at

    small : origin + at + 1 < 2 ^ 64
    small = let s : origin + count + 1 < 2 ^ 64 = fr.small in omega (arith, s, total)

    bs1 : List ReadBlock
    bs1 = loosened (list_in p) a bs

    loose_is : loose_blocks p n had l.number bs ≡ bs1
    loose_is = loose_same p n origin at last had l.number bs near now low small

    h1 : Holds text (loose_run r (list_in p) a) bs1 ps found
    h1 = holds_loosened text r (list_in p) a bs ps found fr.listed holds

    at_ink : ℕ
    at_ink = cell_place columns place.ink l.end

    not_blank : is_blank_kind ft.kind ≡ false
    not_blank = ap is_blank_kind (sym ft.begins ∙ begins) ∙ short_ink k short

    later : max n l.number ≡ origin + at
    later = omega (arith, near, now, low)

    Result : State → List Found → Type 0
    Result s fs = Ends text p r origin count (fold (comes text ks) s cs) found had last (x ∷ ls) fs

    begun : (q : Beginning) → ft.kind ≡ q → is_short_leaf q ≡ true → begin text columns l (depth p) place page ≡ started (start_as place false false ft.level q) text columns l (tail_of columns) (here (depth p) place) page
    begun q i o = leaf_begun text l c ft q i o (depth p) page false false refl refl

    ruled : ft.kind ≡ RuleLine → are_nested g ls ≡ true → Result (started start.Rule text columns l (tail_of columns) (here (depth p) place) page) (ended_found Rule at at ∷ blocks_from f (at + 1) ls)
    ruled i t =
        leaf_done text g goal p r ks origin count fr at f x cs (started start.Rule text columns l (tail_of columns) (here (depth p) place) page) (max e l.end) (max n l.number) last had (bs1 ++ b ∷ []) ps l.end l.number (length ps) found Rule (ended_found Rule at at)
        (ap (λ s. fold (comes text ks) s cs) (rule_there text p columns l place e n had bs ps end number kept ∙ ap (λ zs. home_page p (max e l.end) (max n l.number) true leaf.Nothing (zs ++ b ∷ []) ps l.end l.number (length ps)) loose_is))
        refl refl (λ y. refl) refl refl
        (subst (λ (qs : List Piece). Holds text (loose_run r (list_in p) a) (bs1 ++ b ∷ []) qs (also found (more Rule none))) (append-nil ps) (holds_more text (loose_run r (list_in p) a) bs1 ps found b Rule [] h1 (sym fr.outer) (λ y. refl)))
        later low (omega (arith, few)) ink t weight counted total
      where
        b : ReadBlock
        b = block_in p kind.Rule at_ink l.end (length ps) (length ps)

    headed : (h : Heading) → ft.kind ≡ HeadingLine h → are_nested g ls ≡ true → Result (started (start.Heading (heading_later place.ink h)) text columns l (tail_of columns) (here (depth p) place) page) (ended_found (HeadingBlock h.level (heading_text h (line_ink x) (cells (line_ink x)))) at at ∷ blocks_from f (at + 1) ls)
    headed h i t =
        leaf_done text g goal p r ks origin count fr at f x cs (started (start.Heading mark) text columns l (tail_of columns) (here (depth p) place) page) (max e l.end) (max n l.number) last had (bs1 ++ b ∷ []) (ps ++ new) l.end l.number (length (ps ++ new)) found (HeadingBlock h.level says) (ended_found (HeadingBlock h.level says) at at)
        (ap (λ s. fold (comes text ks) s cs) (heading_there text p columns l place mark e n had bs ps end number kept ∙ ap (λ zs. home_page p (max e l.end) (max n l.number) true leaf.Nothing (zs ++ b ∷ []) (ps ++ new) l.end l.number (length (ps ++ new))) loose_is))
        refl refl (λ y. refl) refl refl
        (holds_more text (loose_run r (list_in p) a) bs1 ps found b (HeadingBlock h.level says) new h1 (sym fr.outer) (heading_told text (depth p) h.level ps new says at_ink l.end (words_told text l columns place.ink h (line_ink x) (ft.heads h i) (has_words columns mark l) refl)))
        later low (let wide : length (ps ++ new) ≡ length ps + length new = length-append ps new in let one : length new ≤ 1 = few_words (has_words columns mark l) (heading_piece columns mark l) in omega (arith, wide, one, few)) ink t weight counted total
      where
        mark : Heading
        mark = heading_later place.ink h

        new : List Piece
        new = words columns mark l

        says : List ℕ
        says = heading_text h (line_ink x) (cells (line_ink x))

        b : ReadBlock
        b = block_in p (kind.Heading h.level None) at_ink l.end (length ps) (length (ps ++ new))

    rest : List DeclaredLine
    rest = text_rest ls

    texted : ft.kind ≡ TextLine → beginning x ≡ TextLine → defines_nothing x rest ≡ true → is_after_text (λ xs. are_nested g xs) (drop (length rest) ls) ≡ true → Result (started (start_as place false false ft.level TextLine) text columns l (tail_of columns) (here (depth p) place) page) (blocks_from (suc f) at (x ∷ ls))
    texted i kind_is nothing after_test = choose w.outs refl (subst (λ zs. is_after_text (λ xs. are_nested g xs) zs ≡ true) left_is after_test)
      where
        w : Lined text ks cs rest
        w = lined text ks cs

        left_is : drop (length rest) ls ≡ all_shown text ks w.outs
        left_is = ap (drop (length rest)) w.whole ∙ drop_behind rest (all_shown text ks w.outs)

        long : length w.ins ≡ length rest
        long = sym (length-map w.ins (come_shown text ks)) ∙ ap (λ (zs : List DeclaredLine). length zs) w.shown

        many : length cs ≡ length w.ins + length w.outs
        many = ap (λ (zs : List (Come text ks)). length zs) w.is ∙ length-append w.ins w.outs

        fd : Found
        fd = words_found at x rest

        fd_last : fd.last ≡ at + length rest
        fd_last = let q : length (map line_ink rest) ≡ length rest = length-map rest line_ink in let z : at + 0 + length (map line_ink rest) ≡ at + length rest = omega (arith, q) in z

        q : Piece
        q = piece_in columns place l

        opens : started (start_as place false false ft.level TextLine) text columns l (tail_of columns) (here (depth p) place) page ≡ words_page p e n bs1 ps (q ∷ []) at_ink l.end l.number
        opens = text_there text p columns l place e n had bs ps end number kept (ft.some not_blank) ∙ ap (λ zs. words_page p e n zs ps (q ∷ []) at_ink l.end l.number) loose_is

        split_counted : (xs ys : List (Come text ks)) (m : ℕ) → Counted text ks m (xs ++ ys) → Counted text ks m xs × Counted text ks (m + length xs) ys
        split_counted [] ys m h = (tt, subst (λ z. Counted text ks z ys) (let o : m ≡ m + 0 = omega arith in o) h)
        split_counted (y ∷ xs) ys m h = let o = split_counted xs ys (suc m) (h.1) in ((h.0, o.0), subst (λ z. Counted text ks z ys) (let u : suc m + length xs ≡ m + suc (length xs) = omega arith in u) (o.1))

        counts : Counted text ks (origin + suc at) w.ins × Counted text ks (origin + suc at + length w.ins) w.outs
        counts = split_counted w.ins w.outs (origin + suc at) (subst (λ zs. Counted text ks (origin + suc at) zs) w.is counted)

        g2 : Grown text ks p e n bs1 ps q at_ink l.number w.ins (line_ink x ∷ []) (words_page p e n bs1 ps (q ∷ []) at_ink l.end l.number)
        g2 = grown text p r ks origin count fr w.ins w.each e n bs1 ps q [] at_ink l.end l.number (line_ink x ∷ []) (ap (λ z. z ∷ []) (ft.ink not_blank)) (subst (λ z. Counted text ks z w.ins) (let o : origin + suc at ≡ suc l.number = omega (arith, now) in o) (counts.0))

        qs : List Piece
        qs = q ∷ g2.more

        texts_are : map (line_text text) qs ≡ line_ink x ∷ map line_ink rest
        texts_are = g2.says ∙ ap (λ zs. line_ink x ∷ map line_ink zs) w.shown

        pieces_long : length qs ≡ suc (length rest)
        pieces_long = sym (length-map qs (line_text text)) ∙ ap (λ (zs : List (List ℕ)). length zs) texts_are ∙ ap suc (length-map rest line_ink)

        reads : definitions_from text qs [] ≡ ([], 0)
        reads = reads_same text qs ft.plain ∙ ap definitions texts_are ∙ no_definitions x rest nothing

        b : ReadBlock
        b = block_in p kind.Paragraph (start_from (ps ++ qs) (length ps + 0) at_ink) g2.end (length ps + 0) (length (ps ++ qs))

        open_page : State
        open_page = words_page p e n bs1 ps qs at_ink g2.end g2.last

        done : State
        done = home_page p (max e g2.end) (max n g2.last) true leaf.Nothing (bs1 ++ b ∷ []) (ps ++ qs) g2.end g2.last (length (ps ++ qs))

        reading : fold (comes text ks) (started (start_as place false false ft.level TextLine) text columns l (tail_of columns) (here (depth p) place) page) cs ≡ fold (comes text ks) open_page w.outs
        reading = ap (λ s. fold (comes text ks) s cs) opens ∙ ap (fold (comes text ks) (words_page p e n bs1 ps (q ∷ []) at_ink l.end l.number)) w.is ∙ fold_append w.ins w.outs (words_page p e n bs1 ps (q ∷ []) at_ink l.end l.number) ∙ ap (λ s. fold (comes text ks) s w.outs) g2.is
          where
            fold_append : (xs ys : List (Come text ks)) (s : State) → fold (comes text ks) s (xs ++ ys) ≡ fold (comes text ks) (fold (comes text ks) s xs) ys
            fold_append [] ys s = refl
            fold_append (y ∷ xs) ys s = fold_append xs ys (comes text ks s y)

        leaf_closes : leaf_closed text open_page ≡ done
        leaf_closes = words_end text p e n bs1 ps qs at_ink g2.end g2.last [] 0 reads (let s : origin + at + 1 < 2 ^ 64 = small in omega (arith, s, few))

        closes : closed_to text (depth p) open_page ≡ done
        closes = closes_so text (depth p) (boxes p (max e g2.end) (max n g2.last) true) (bs1 ++ b ∷ []) (ps ++ qs) g2.end g2.last (length (ps ++ qs)) [] open_page leaf_closes ∙ home_stays text p (max e g2.end) (max n g2.last) true (bs1 ++ b ∷ []) (ps ++ qs) g2.end g2.last (length (ps ++ qs))

        more_pieces : length (ps ++ qs) ≡ length ps + suc (length rest)
        more_pieces = let o : length (ps ++ qs) ≡ length ps + length qs = length-append ps qs in omega (arith, o, pieces_long)

        last_near : max n g2.last ≡ origin + (at + length rest)
        last_near = let o : g2.last ≡ l.number + length w.ins = g2.long in omega (arith, o, near, now, low, long)

        h2 : Holds text (loose_run r (list_in p) a) (bs1 ++ b ∷ []) (ps ++ qs) (also found (more (Paragraph (text_of (line_ink x ∷ map line_ink rest))) none))
        h2 = holds_more text (loose_run r (list_in p) a) bs1 ps found b (Paragraph (text_of (line_ink x ∷ map line_ink rest))) qs h1 (sym fr.outer)
            (λ y. left_told text (depth p) ps qs 0 (start_from (ps ++ qs) (length ps + 0) at_ink) g2.end y ∙ ap left_as texts_are)

        same_gap : loosened (list_in p) (had && nat_lt (last + 1) at) r.base ≡ loosened (list_in p) (had && nat_lt (last + 1) fd.first) r.base
        same_gap = ap (λ m. loosened (list_in p) (had && nat_lt (last + 1) m) r.base) (let z : at ≡ at + 0 = omega arith in z)

        after : ends_text (all_shown text ks w.outs) ≡ true → are_nested g (all_shown text ks w.outs) ≡ true → (outs : List (Come text ks)) → w.outs ≡ outs → Ends text p r origin count (fold (comes text ks) open_page outs) found had last (x ∷ ls) (fd ∷ blocks_from f (at + suc (length rest)) (all_shown text ks outs))
        after alone t [] q' = subst (λ fs. Ends text p r origin count open_page found had last (x ∷ ls) (fd ∷ fs)) (sym (no_blocks f (at + suc (length rest)))) (record {
          e = e;
          n = n;
          some = true;
          deeper = [];
          lf = leaf.Paragraph;
          opened_blocks = bs1 ++ block_in p kind.Paragraph at_ink at_ink (length ps) (length ps) ∷ [];
          opened_pieces = ps ++ qs;
          opened_end = g2.end;
          opened_line = g2.last;
          opened_kept = length (ps ++ qs);
          is = ap (λ os. stack_page os leaf.Paragraph (bs1 ++ block_in p kind.Paragraph at_ink at_ink (length ps) (length ps) ∷ []) (ps ++ qs) g2.end g2.last (length (ps ++ qs))) (sym (append-nil (boxes p e n true)));
          closed_end = max e g2.end;
          closed_line = max n g2.last;
          closed_some = true;
          blocks = bs1 ++ b ∷ [];
          pieces = ps ++ qs;
          end = g2.end;
          number = g2.last;
          kept = length (ps ++ qs);
          closes = closes;
          deep = (let o : length (leaf_closed text open_page).opened ≡ length (boxes p (max e g2.end) (max n g2.last) true) = ap (λ (s : State). length s.opened) leaf_closes in omega (arith, o, box_count p (max e g2.end) (max n g2.last) true));
          near = (let z : max last fd.last ≡ at + length rest = omega (arith, fd_last, low) in last_near ∙ ap (λ m. origin + m) (sym z));
          holds = holds_moved text (loose_run r (list_in p) a) (loose_run r (list_in p) (gap had last (fd ∷ []))) (bs1 ++ b ∷ []) (bs1 ++ b ∷ []) (ps ++ qs) (also found (more (Paragraph (text_of (line_ink x ∷ map line_ink rest))) none)) refl
              (same_gap ∙ ap (λ m. loosened (list_in p) m r.base) (sym (or_not (had && nat_lt (last + 1) fd.first)))) refl refl h2;
          quiet = λ z. absurd (true≢false (sym (no_blank z)));
          shut = λ z. absurd (true≢false (sym (no_blank z)));
          few = (let z : length w.outs ≡ 0 = ap (λ (zs : List (Come text ks)). length zs) q' in omega (arith, more_pieces, few, total, many, long, z));
          bound = (let z : length w.outs ≡ 0 = ap (λ (zs : List (Come text ks)). length zs) q' in let o : max last fd.last < max count 1 = omega (arith, fd_last, low, total, many, long, z) in o);
          nothing = refl;
        })
          where
            no_blank : ends_blank (x ∷ ls) ≡ true → false ≡ true
            no_blank z =
                sym (ap (λ k. fold (λ (was : Bool) (y : DeclaredLine). is_blank_line y) k ls) ink ∙ ap (fold (λ (was : Bool) (y : DeclaredLine). is_blank_line y) false) (w.whole ∙ ap (λ zs. rest ++ all_shown text ks zs) q' ∙ append-nil rest ∙ sym w.shown) ∙ g2.blank) ∙ z
        after alone t (v ∷ ds) q' =
            subst (λ s. Ends text p r origin count s found had last (x ∷ ls) (fd ∷ blocks_from f (at + suc (length rest)) (all_shown text ks (v ∷ ds)))) (sym (goes g (subst (λ zs. are_nested g (all_shown text ks zs) ≡ true) q' t)))
            (ends_one text p r origin count (fold (comes text ks) done (v ∷ ds)) found had last (all_shown text ks (v ∷ ds)) (x ∷ ls) fd (Paragraph (text_of (line_ink x ∷ map line_ink rest))) (blocks_from f (at + suc (length rest)) (all_shown text ks (v ∷ ds))) (λ y. refl) refl shut_now (omega (arith, fd_last, low))
            (ap (λ zs. ends_blank (x ∷ zs)) (w.whole ∙ ap (λ zs. rest ++ all_shown text ks zs) q') ∙ ends_append (is_blank_line x) rest (come_shown text ks v) (all_shown text ks ds))
            (subst (λ z. Ends text p (loose_run r (list_in p) (had && nat_lt (last + 1) z)) origin count (fold (comes text ks) done (v ∷ ds)) (also found (more (Paragraph (text_of (line_ink x ∷ map line_ink rest))) none)) true fd.last (all_shown text ks (v ∷ ds)) (blocks_from f (at + suc (length rest)) (all_shown text ks (v ∷ ds)))) (let z : at ≡ at + 0 = omega arith in z)
            (goal p (loose_run r (list_in p) a) ks origin count (loose_frame p r ks origin count a fr) (at + suc (length rest)) f (v ∷ ds) (max e g2.end) (max n g2.last) fd.last (bs1 ++ b ∷ []) (ps ++ qs) g2.end g2.last (length (ps ++ qs)) (also found (more (Paragraph (text_of (line_ink x ∷ map line_ink rest))) none)) h2 (last_near ∙ ap (λ m. origin + m) (sym fd_last)) (omega (arith, fd_last)) (omega (arith, more_pieces, few))
            (subst (λ zs. are_nested g (all_shown text ks zs) ≡ true) q' t)
            (let o : weigh ls ≡ weigh rest + weigh (all_shown text ks (v ∷ ds)) = ap weigh (w.whole ∙ ap (λ zs. rest ++ all_shown text ks zs) q') ∙ weigh_append rest (all_shown text ks (v ∷ ds)) in omega (arith, o, weight))
            (subst (λ zs. Counted text ks (origin + (at + suc (length rest))) zs) q' (subst (λ z. Counted text ks z w.outs) (let z : origin + suc at + length w.ins ≡ origin + (at + suc (length rest)) = omega (arith, long) in z) (counts.1)))
            (omega (arith, total, many, long, outs_long)))))
          where
            outs_long : length w.outs ≡ suc (length ds)
            outs_long = ap (λ (zs : List (Come text ks)). length zs) q'

            shut_now : (true && (fd.last + 1 == count)) ≡ false
            shut_now = let z : (fd.last + 1 == count) ≡ false = grind (arith, fd_last, total, many, long, outs_long, nat_tests) in z

            weigh_append : (xs ys : List DeclaredLine) → weigh (xs ++ ys) ≡ weigh xs + weigh ys
            weigh_append [] ys = omega arith
            weigh_append (y ∷ xs) ys = let o : weigh (xs ++ ys) ≡ weigh xs + weigh ys = weigh_append xs ys in omega (arith, o)

            goes : (m : ℕ) → are_nested m (all_shown text ks (v ∷ ds)) ≡ true → fold (comes text ks) open_page (v ∷ ds) ≡ fold (comes text ks) done (v ∷ ds)
            goes zero z = absurd (true≢false (sym z))
            goes (suc m) z =
                ap (λ s. fold (comes text ks) s ds) (after_words text m p r ks origin count fr v ds e n (max e g2.end) (max n g2.last) (bs1 ++ block_in p kind.Paragraph at_ink at_ink (length ps) (length ps) ∷ []) (bs1 ++ b ∷ []) (ps ++ qs) (ps ++ qs) g2.end g2.last (length (ps ++ qs)) g2.end g2.last (length (ps ++ qs)) closes z
                (subst (λ zs. ends_text (all_shown text ks zs) ≡ true) q' alone))

        -- nothing underlines it
        worded : ends_text (all_shown text ks w.outs) ≡ true → are_nested g (all_shown text ks w.outs) ≡ true → Result (started (start_as place false false ft.level TextLine) text columns l (tail_of columns) (here (depth p) place) page) (blocks_from (suc f) at (x ∷ ls))
        worded alone t =
            subst (λ fs. Result (started (start_as place false false ft.level TextLine) text columns l (tail_of columns) (here (depth p) place) page) fs) (sym (blocks_after_text f at x ls rest (all_shown text ks w.outs) w.whole kind_is w.goes nothing alone))
            (subst (λ s. Ends text p r origin count s found had last (x ∷ ls) (fd ∷ blocks_from f (at + suc (length rest)) (all_shown text ks w.outs))) (sym reading) (after alone t w.outs refl))

        -- this line underlines it
        headed_by : (v : Come text ks) (ds : List (Come text ks)) → w.outs ≡ v ∷ ds → underlines_as (come_shown text ks v) (beginning (come_shown text ks v)) ≡ true → (level : HeadingLevel) → underline ([] ∷ []) (come_shown text ks v) ≡ Some level → are_nested g (all_shown text ks ds) ≡ true
            → Result (started (start_as place false false ft.level TextLine) text columns l (tail_of columns) (here (depth p) place) page) (blocks_from (suc f) at (x ∷ ls))
        headed_by v ds q' under level is_under t =
            subst (λ fs. Result (started (start_as place false false ft.level TextLine) text columns l (tail_of columns) (here (depth p) place) page) fs) (sym (blocks_after_under f at x ls rest (come_shown text ks v) (all_shown text ks ds) level (w.whole ∙ ap (λ zs. rest ++ all_shown text ks zs) q') kind_is w.goes nothing under is_under))
            (subst (λ s. Ends text p r origin count s found had last (x ∷ ls) (hd ∷ blocks_from f (at + suc (suc (length rest))) (all_shown text ks ds))) (sym (reading ∙ ap (fold (comes text ks) open_page) q' ∙ ap (λ s. fold (comes text ks) s ds) (step.0)))
            (ends_one text p r origin count (fold (comes text ks) headed_page ds) found had last (all_shown text ks ds) (x ∷ ls) hd (HeadingBlock level (text_of (line_ink x ∷ map line_ink rest))) (blocks_from f (at + suc (suc (length rest))) (all_shown text ks ds)) (λ y. refl) refl refl (omega (arith, hd_last, low))
            (ap (λ zs. ends_blank (x ∷ zs)) (w.whole ∙ ap (λ zs. rest ++ all_shown text ks zs) q') ∙ ends_append (is_blank_line x) rest (come_shown text ks v) (all_shown text ks ds) ∙ ap (λ k. fold (λ (was : Bool) (y : DeclaredLine). is_blank_line y) k (all_shown text ks ds)) (step.1))
            (subst (λ z. Ends text p (loose_run r (list_in p) (had && nat_lt (last + 1) z)) origin count (fold (comes text ks) headed_page ds) (also found (more (HeadingBlock level (text_of (line_ink x ∷ map line_ink rest))) none)) true hd.last (all_shown text ks ds) (blocks_from f (at + suc (suc (length rest))) (all_shown text ks ds))) (let z : at ≡ at + 0 = omega arith in z)
            (goal p (loose_run r (list_in p) a) ks origin count (loose_frame p r ks origin count a fr) (at + suc (suc (length rest))) f ds (max e v.line.end) (max n v.line.number) hd.last (bs1 ++ hb ∷ []) (ps ++ qs) v.line.end v.line.number (length (ps ++ qs)) (also found (more (HeadingBlock level (text_of (line_ink x ∷ map line_ink rest))) none)) h3 head_near (omega (arith, hd_last)) (omega (arith, more_pieces, few)) t
            (let o : weigh ls ≡ weigh rest + weigh (all_shown text ks (v ∷ ds)) = ap weigh (w.whole ∙ ap (λ zs. rest ++ all_shown text ks zs) q') ∙ weigh_both rest (all_shown text ks (v ∷ ds)) in omega (arith, o, weight))
            (subst (λ z. Counted text ks z ds) (let z : suc (origin + suc at + length w.ins) ≡ origin + (at + suc (suc (length rest))) = omega (arith, long) in z) (outs_counted.1)) (omega (arith, total, many, long, outs_many))))))
          where
            hd : Found
            hd = under_found at level x rest

            hd_last : hd.last ≡ at + suc (length rest)
            hd_last = let o : length (map line_ink rest) ≡ length rest = length-map rest line_ink in let z : at + suc (length (map line_ink rest)) ≡ at + suc (length rest) = omega (arith, o) in z

            outs_many : length w.outs ≡ suc (length ds)
            outs_many = ap (λ (zs : List (Come text ks)). length zs) q'

            outs_counted : Counted text ks (origin + suc at + length w.ins) (v ∷ ds)
            outs_counted = subst (λ zs. Counted text ks (origin + suc at + length w.ins) zs) q' (counts.1)

            step : (line_taken text open_page v.line ≡ home_page p (max e v.line.end) (max n v.line.number) true leaf.Nothing (bs1 ++ under_block p level ps qs at_ink v.line.end ∷ []) (ps ++ qs) v.line.end v.line.number (length (ps ++ qs))) × (is_blank_line (come_shown text ks v) ≡ false)
            step = line_underlines text p r ks origin count fr v under level is_under e n bs1 ps q g2.more at_ink g2.end g2.last reads (let s : origin + at + 1 < 2 ^ 64 = small in omega (arith, s, few))

            hb : ReadBlock
            hb = under_block p level ps qs at_ink v.line.end

            headed_page : State
            headed_page = home_page p (max e v.line.end) (max n v.line.number) true leaf.Nothing (bs1 ++ hb ∷ []) (ps ++ qs) v.line.end v.line.number (length (ps ++ qs))

            head_near : max n v.line.number ≡ origin + hd.last
            head_near = let o : v.line.number ≡ origin + suc at + length w.ins = outs_counted.0 in omega (arith, o, near, now, low, long, hd_last)

            h3 : Holds text (loose_run r (list_in p) a) (bs1 ++ hb ∷ []) (ps ++ qs) (also found (more (HeadingBlock level (text_of (line_ink x ∷ map line_ink rest))) none))
            h3 = holds_more text (loose_run r (list_in p) a) bs1 ps found hb (HeadingBlock level (text_of (line_ink x ∷ map line_ink rest))) qs h1 (sym fr.outer)
                (λ y. heading_left_told text (depth p) level ps qs 0 (start_from (ps ++ qs) (length ps + 0) at_ink) v.line.end y ∙ ap (λ ts. Some (HeadingBlock level (text_of ts))) texts_are)

            weigh_both : (xs ys : List DeclaredLine) → weigh (xs ++ ys) ≡ weigh xs + weigh ys
            weigh_both [] ys = omega arith
            weigh_both (y ∷ xs) ys = let o : weigh (xs ++ ys) ≡ weigh xs + weigh ys = weigh_both xs ys in omega (arith, o)

        choose : (outs : List (Come text ks)) → w.outs ≡ outs → is_after_text (λ xs. are_nested g xs) (all_shown text ks w.outs) ≡ true → Result (started (start_as place false false ft.level TextLine) text columns l (tail_of columns) (here (depth p) place) page) (blocks_from (suc f) at (x ∷ ls))
        choose [] q' z = worded (ap (λ zs. ends_text (all_shown text ks zs)) q') (ap (λ zs. are_nested g (all_shown text ks zs)) q' ∙ subst (λ zs. is_after_text (λ xs. are_nested g xs) (all_shown text ks zs) ≡ true) q' z)
        choose (v ∷ ds) q' z = by_under (underlines_as (come_shown text ks v) (beginning (come_shown text ks v))) refl (subst (λ zs. is_after_text (λ xs. are_nested g xs) (all_shown text ks zs) ≡ true) q' z)
          where
            both_so : (o o1 : Bool) → (o && o1) ≡ true → (o ≡ true) × (o1 ≡ true)
            both_so true true e' = (refl, refl)
            both_so true false e' = absurd (true≢false (sym e'))
            both_so false o1 e' = absurd (true≢false (sym e'))

            by_under : (k' : Bool) → underlines_as (come_shown text ks v) (beginning (come_shown text ks v)) ≡ k' → (if k' then are_nested g (all_shown text ks ds) else (ends_text (all_shown text ks (v ∷ ds)) && are_nested g (all_shown text ks (v ∷ ds)))) ≡ true → Result (started (start_as place false false ft.level TextLine) text columns l (tail_of columns) (here (depth p) place) page) (blocks_from (suc f) at (x ∷ ls))
            by_under true o o1 =
                let some = some_is (underline ([] ∷ []) (come_shown text ks v)) ((underlines_kind (come_shown text ks v) (beginning (come_shown text ks v)) o).1) in
                headed_by v ds q' o (some.0) (some.1) o1
            by_under false o o1 =
                let both = both_so (ends_text (all_shown text ks (v ∷ ds))) (are_nested g (all_shown text ks (v ∷ ds))) o1 in
                worded (ap (λ zs. ends_text (all_shown text ks zs)) q' ∙ both.0) (ap (λ zs. are_nested g (all_shown text ks zs)) q' ∙ both.1)

    by : (q : Beginning) → beginning x ≡ q → is_short_leaf q ≡ true → is_nested_line (λ xs. are_nested g xs) x ls q ≡ true → Result (begin text columns l (depth p) place page) (blocks_from (suc f) at (x ∷ ls))
    by BlankLine i o t = absurd (true≢false (sym o))
    by CodeLine i o t = absurd (true≢false (sym o))
    by QuoteLine i o t = absurd (true≢false (sym o))
    by (HeadingLine h) i o t =
        let is : ft.kind ≡ HeadingLine h = sym ft.begins ∙ i in
        subst (λ s. Result s (blocks_from (suc f) at (x ∷ ls))) (sym (begun (HeadingLine h) is refl)) (subst (λ fs. Result (started (start.Heading (heading_later place.ink h)) text columns l (tail_of columns) (here (depth p) place) page) fs) (sym (blocks_after_heading f at x ls h i)) (headed h is t))
    by (FenceLine z) i o t = absurd (true≢false (sym o))
    by (HtmlLine z) i o t = absurd (true≢false (sym o))
    by RuleLine i o t =
        let is : ft.kind ≡ RuleLine = sym ft.begins ∙ i in
        subst (λ s. Result s (blocks_from (suc f) at (x ∷ ls))) (sym (begun RuleLine is refl)) (subst (λ fs. Result (started start.Rule text columns l (tail_of columns) (here (depth p) place) page) fs) (sym (blocks_after_rule f at x ls i)) (ruled is t))
    by (ItemLine m) i o t = absurd (true≢false (sym o))
    by TextLine i o t =
        let is : ft.kind ≡ TextLine = sym ft.begins ∙ i in
        let w = split_text (defines_nothing x rest) (is_after_text (λ xs. are_nested g xs) (drop (length rest) ls)) t in
        subst (λ s. Result s (blocks_from (suc f) at (x ∷ ls))) (sym (begun TextLine is refl)) (texted is i (w.0) (w.1))
    by LazyLine i o t = absurd (true≢false (sym o))
