-- Texts of paragraphs, headings, thematic breaks and lists.
use Rattle.std.proofs.Common.{◌≡◌, ℕ, suc, ◌+◌, ◌^◌, ◌<◌, ◌≤◌, true, false, List, [], ◌∷◌, length, map, refl, ap, sym, subst, ◌∙◌, arith, None}
use Rattle.std.specs.List.{AllByRecursion, fold, list_any}
use Rattle.std.proofs.lemmas.List.{length-map}
use Rattle.tocmark_read_lines.specs.Lines.{lines_of}
use Rattle.tocmark_read_lines.specs.declared.line.Line.{Line}
use Rattle.tocmark_read_page.specs.Pages.{State, closed_to}
use Rattle.tocmark_read_page.specs.declared.leaf.Leaf.TheVariants as leaf
use Rattle.tocmark_read_constructs.specs.Metadata.{known_of}
use Rattle.tocmark_read_blocks.specs.Blocks.{line_taken, page_in, blocks_in}
use Rattle.tocmark_commonmark.specs.Lines.{Line as DeclaredLine, line_bytes, lines_of as declared_lines}
use Rattle.tocmark_commonmark.specs.Tree.{Found, none, tree}
use Rattle.tocmark_commonmark.specs.Blocks.{blocks_from, size, blocks, blocks_of}
use Rattle.tocmark_block_laws.specs.Trees.{told, tree_of, placed_in}
use Rattle.tocmark_block_laws.specs.Quotes.{is_special, IsPlain}
use Rattle.tocmark_block_laws.specs.Lists.{are_nested, has_plain_lists, NestedListsAreDeclared}
use Rattle.tocmark_block_laws.proofs.TextLines.{declared, lines_same, lines_sound, lines_few}
use Rattle.tocmark_block_laws.proofs.Feeds.{IsFeedless, feedless_lines}
use Rattle.tocmark_block_laws.proofs.Codes.{lines_fed}
use Rattle.tocmark_block_laws.proofs.ListPages.{stack_page}
use Rattle.tocmark_block_laws.proofs.Told.{Run, holds_none, holds_read}
use Rattle.tocmark_block_laws.proofs.Read.{both_true}
use Rattle.tocmark_block_laws.proofs.Nests.{AtTop}
use Rattle.tocmark_block_laws.proofs.Within.{Known, Come, come_shown}
use Rattle.tocmark_block_laws.proofs.NestedLines.{comes, all_shown, Counted, weigh}
use Rattle.tocmark_block_laws.proofs.Loosened.{loosened_none, loose_run}
use Rattle.tocmark_block_laws.proofs.NestedEnds.{Frame, Ends, gap}
use Rattle.tocmark_block_laws.proofs.ReadNested.{nested_read}
use Rattle.tocmark_block_laws.proofs.ListTexts.{Numbered, numbered_from, facts_of}

-- no list is open yet
abbrev top_run : Run
top_run = record { outer = []; base = []; old = []; count = 0; limit = 0; fits = omega arith }

come : (text : List ℕ) (l : Line) → Known text l → Come text []
come text l k = record { line = l; known = k; column = 0; inside = omega arith; steps = λ ink. refl; same = refl; deep = λ ink. omega arith }

come_all : (text : List ℕ) (ls : List Line) → AllByRecursion (Known text) ls → List (Come text [])
come_all text [] h = []
come_all text (l ∷ ls) h = come text l (h.0) ∷ come_all text ls (h.1)

comes_same : (text : List ℕ) (ls : List Line) (h : AllByRecursion (Known text) ls) (s : State) → fold (comes text []) s (come_all text ls h) ≡ fold (line_taken text) s ls
unfolding come come_all
comes_same text [] h s = refl
comes_same text (l ∷ ls) h s = comes_same text ls (h.1) (line_taken text s l)

shown_same : (text : List ℕ) (ls : List Line) (h : AllByRecursion (Known text) ls) → all_shown text [] (come_all text ls h) ≡ map (declared text) ls
unfolding come come_all
shown_same text [] h = refl
shown_same text (l ∷ ls) h = ap (λ xs. declared text l ∷ xs) (shown_same text ls (h.1))

counted_all : (text : List ℕ) (ls : List Line) (h : AllByRecursion (Known text) ls) (n : ℕ) → Numbered n ls → Counted text [] (suc n) (come_all text ls h)
unfolding come come_all
counted_all text [] h n k = tt
counted_all text (l ∷ ls) h n k = (k.0, counted_all text ls (h.1) (suc n) (k.1))

size_low : (n : ℕ) (ls : List DeclaredLine) → n + weigh ls ≤ fold (λ (m : ℕ) (l : DeclaredLine). m + length (line_bytes l) + 1) n ls
size_low n [] = omega arith
size_low n (l ∷ ls) =
    let later : n + length (line_bytes l) + 1 + weigh ls ≤ fold (λ (m : ℕ) (x : DeclaredLine). m + length (line_bytes x) + 1) (n + length (line_bytes l) + 1) ls = size_low (n + length (line_bytes l) + 1) ls in
    omega (arith, later)

pub nested-lists-declared : NestedListsAreDeclared
unfolding blocks_in page_in known_of blocks blocks_of has_plain_lists
nested-lists-declared text fits holds = record {
  blocks = ap (λ (s : State). tree_of (placed_in text s.pieces s.blocks)) page_is ∙ holds_read text (loose_run top_run None (gap true 0 found)) k.blocks k.pieces (told (tree found)) (loosened_none (gap true 0 found) []) k.holds;
  definitions = ap (λ (s : State). s.definitions) page_is ∙ sym k.nothing;
}
  where
    ds : List DeclaredLine
    ds = declared_lines text

    covered : (list_any is_special text ≡ false) × (are_nested (suc (size ds)) ds ≡ true)
    covered = both_true (list_any is_special text) (are_nested (suc (size ds)) ds) holds

    plain : IsPlain text
    plain = covered.0

    same : map (declared text) (lines_of text) ≡ ds
    same = lines_same text plain

    known : AllByRecursion (Known text) (lines_of text)
    known = facts_of text (lines_of text) plain fits (lines_sound text plain) (subst (λ (ls : List DeclaredLine). AllByRecursion IsFeedless ls) (sym same) (feedless_lines text)) (λ e. lines_fed text plain e)

    cs : List (Come text [])
    cs = come_all text (lines_of text) known

    shown : all_shown text [] cs ≡ ds
    shown = shown_same text (lines_of text) known ∙ same

    start_page : State
    start_page = stack_page [] leaf.Nothing [] [] 0 0 0

    last_page : State
    last_page = fold (line_taken text) start_page (lines_of text)

    found : List Found
    found = blocks_from (size ds) 0 ds

    few : length cs ≡ length (lines_of text)
    few = sym (length-map cs (come_shown text [])) ∙ ap (λ (xs : List DeclaredLine). length xs) (shown_same text (lines_of text) known) ∙ length-map (lines_of text) (declared text)

    frame : Frame AtTop top_run [] 1 (length cs)
    frame = record { kinds = refl; outer = refl; listed = tt; steady = tt; shallow = omega arith; small = (let low : length (lines_of text) ≤ length text + 1 = lines_few text in let q : 1 + length cs + 1 < 2 ^ 64 = omega (arith, low, few, fits) in q) }

    k : Ends text AtTop top_run 1 (length cs) last_page none true 0 ds found
    k =
        subst (λ (s : State). Ends text AtTop top_run 1 (length cs) s none true 0 ds found) (comes_same text (lines_of text) known start_page)
        (subst (λ (ls : List DeclaredLine). Ends text AtTop top_run 1 (length cs) (fold (comes text []) start_page cs) none true 0 ls (blocks_from (size ds) 0 ls)) shown
        (nested_read text (suc (size ds)) AtTop top_run [] 1 (length cs) frame 0 (size ds) cs 0 1 0 [] [] 0 0 0 none (holds_none text top_run) refl (omega arith) (omega arith)
        (subst (λ (ls : List DeclaredLine). are_nested (suc (size ds)) ls ≡ true) (sym shown) (covered.1))
        (let low : 0 + weigh ds ≤ size ds = size_low 0 ds in let same_weight : weigh (all_shown text [] cs) ≡ weigh ds = ap weigh shown in omega (arith, low, same_weight))
        (counted_all text (lines_of text) known 0 (numbered_from text text 0 0 0 (omega (arith, fits)))) (omega arith)))

    page_is : closed_to text 0 last_page ≡ stack_page [] leaf.Nothing k.blocks k.pieces k.end k.number k.kept
    page_is = k.closes
