-- The nodes of a table of plain cells.
use Rattle.std.proofs.Common.{◌≡◌, ℕ, zero, suc, ◌+◌, ◌-◌, ◌^◌, ◌<◌, Bool, true, false, ◌==◌, ◌||◌, List, [], ◌∷◌, ◌++◌, length, map, drop, reverse, replicate, refl, ap, sym, subst, ◌∙◌, arith, append_assoc, append-nil, length-append, Option, Some, inl}
use Rattle.std.proofs.lemmas.List.{length-replicate, replicate_more, reverse-append}
use Rattle.std.proofs.lemmas.List.Sums.{fold-append, take_while-cons}
use Rattle.std.specs.Char.{char_set_contains, is_ascii_alphanumeric}
use Rattle.std.specs.List.{AllByRecursion, fold, take_while}
use Rattle.tocmark_event.specs.View.{TagView, Table, TableHead, TableRow, TableCell}
use Rattle.tocmark_read_scan.specs.Basic.{plus, bytes_between}
use Rattle.tocmark_read_scan.specs.Class.{is_in, run_end}
use Rattle.tocmark_read_scan.specs.Content as content
use Rattle.tocmark_read_scan.specs.PlainParts.{Part, spelled, last_byte}
use Rattle.tocmark_read_scan.specs.TableCell.{is_left_out, cell_step, cell_to, cell_content}
use Rattle.tocmark_read_scan.specs.declared.class.Class.TheVariants.{Blank}
use Rattle.tocmark_read_scan.specs.declared.syntax.Syntax.{Syntax}
use Rattle.tocmark_read_scan.proofs.PlainContent.{places_of, put_bytes_plain}
use Rattle.tocmark_read_scan.proofs.PlainPieces.{drop_behind, piece_between}
use Rattle.tocmark_read_scan.proofs.PlainTests.{differs, turned}
use Rattle.tocmark_read_page.specs.declared.page.Block.{Block}
use Rattle.tocmark_read_page.specs.declared.page.BlockKind.{BlockKind}
use Rattle.tocmark_read_page.specs.declared.page.BlockKind.TheVariants as kind
use Rattle.tocmark_read_page.specs.declared.piece.Piece.{Piece}
use Rattle.tocmark_read_constructs.specs.Tables.{alignments_of}
use Rattle.tocmark_read_spans.specs.declared.definitions.Entry.{Entry}
use Rattle.tocmark_read_spans.specs.declared.role.Role.{Role}
use Rattle.tocmark_read_inlines.specs.Inlines as inlines
use Rattle.tocmark_read_inlines.specs.Scan as scan
use Rattle.tocmark_read_inlines.specs.declared.write.InlineKind.TheVariants as item
use Rattle.tocmark_read_inlines.specs.declared.write.Node.{Node}
use Rattle.tocmark_read_inlines.proofs.PlainLeaf.{known}
use Rattle.tocmark_read_inlines.proofs.PlainNeighbours.{ArePlainParts, plain_parts_are_read}
use Rattle.tocmark_read_inlines.proofs.PlainNodes.{node, nodes_of}
use Rattle.tocmark_reader.specs.Emitted.{NodeView, Container, Source}
use Rattle.tocmark_reader.specs.Inlines.{inline_node, inline_item}
use Rattle.tocmark_reader.specs.Pages as pages
use Rattle.tocmark_reader.specs.Pages.{start_state, block_taken_in, block_step_in, cell_taken_in, cell_inlines_in, with_block, with_inlines, task_nodes, block_tag}
use Rattle.tocmark_reader.proofs.PlainSources.{all_implied}
use Rattle.tocmark_reader.proofs.PlacedParts.{parts_inlines_at}
use Rattle.tocmark_reader.proofs.QuietContent.{split_last}
use Rattle.tocmark_reader.proofs.QuietInlines.{IsTextOrFeed, read_alike}
use Rattle.tocmark_laws.specs.Extensions.{lined}
use Rattle.tocmark_laws.specs.PlainTables.{PlainCell, spaced, barred, row_line, cell_bytes, row_bytes}
use Rattle.tocmark_laws.proofs.ExtensionParagraphs.{no_inlines, clean_byte}
use Rattle.tocmark_laws.proofs.StrikethroughReading.{IsPhrase}
use Rattle.tocmark_laws.proofs.TableBlocks.{table_block, rows_blocks}
use Rattle.tocmark_laws.proofs.TableRows.{row_part, cell_blocks, next_cell}
use Rattle.tocmark_laws.proofs.WordsReading.{IsWordByte, text_byte, bare, spelled_bare, bare_plain, marks}

-- ---- the content of a cell

-- what is known of a cell
pub record IsCell (c : PlainCell) : Type 0 where
  pub first : ℕ
  pub others : List ℕ
  pub shape : c.phrase ≡ first ∷ others
  pub phrase : IsPhrase first others
  pub bars : AllByRecursion (λ b. (b == 124) ≡ false) (first ∷ others)

-- its parts in a text
pub stands_in : (text pre more : List ℕ) (before behind : ℕ) (xs : List ℕ) → text ≡ pre ++ (spaced before xs behind ++ more) → text ≡ (pre ++ replicate before 32) ++ (xs ++ (replicate behind 32 ++ more))
stands_in text pre more before behind xs t =
    t
    ∙ ap (λ (l : List ℕ). pre ++ l) (append_assoc (replicate before 32) (xs ++ replicate behind 32) more ∙ ap (λ (l : List ℕ). replicate before 32 ++ l) (append_assoc xs (replicate behind 32) more))
    ∙ sym (append_assoc pre (replicate before 32) (xs ++ (replicate behind 32 ++ more)))

blanks_run : (k b : ℕ) (more : List ℕ) → is_in Blank b ≡ false → length (take_while (is_in Blank) (replicate k 32 ++ b ∷ more)) ≡ k
unfolding is_in
blanks_run zero b more h = ap length (take_while-cons (is_in Blank) b more) ∙ rw h refl
blanks_run (suc k) b more h = ap length (take_while-cons (is_in Blank) 32 (replicate k 32 ++ b ∷ more)) ∙ ap suc (blanks_run k b more h)

abbrev is_blank : ℕ → Bool
is_blank b = (b == 32) || (b == 9)

trailing_run : (k : ℕ) (body : List ℕ) (y : ℕ) → is_blank y ≡ false → length (take_while is_blank (reverse ((body ++ y ∷ []) ++ replicate k 32))) ≡ k
trailing_run zero body y h =
    ap (λ (xs : List ℕ). length (take_while is_blank (reverse xs))) (append-nil (body ++ y ∷ []))
    ∙ ap (λ (xs : List ℕ). length (take_while is_blank xs)) (reverse-append body (y ∷ []))
    ∙ ap length (take_while-cons is_blank y (reverse body))
    ∙ rw h refl
trailing_run (suc k) body y h =
    let xs : List ℕ = body ++ y ∷ [] in
    let one : suc k ≡ k + 1 = omega arith in
    let split : xs ++ replicate (suc k) 32 ≡ (xs ++ replicate k 32) ++ 32 ∷ [] =
    ap (λ n. xs ++ replicate n 32) one ∙ ap (λ (l : List ℕ). xs ++ l) (sym (replicate_more k 32)) ∙ sym (append_assoc xs (replicate k 32) (32 ∷ []))
    in
    ap (λ (l : List ℕ). length (take_while is_blank (reverse l))) split
    ∙ ap (λ (l : List ℕ). length (take_while is_blank l)) (reverse-append (xs ++ replicate k 32) (32 ∷ []))
    ∙ ap length (take_while-cons is_blank 32 (reverse (xs ++ replicate k 32)))
    ∙ ap suc (trailing_run k body y h)

kept_bytes : (text : List ℕ) (p : ℕ) (s : content.State) (xs : List ℕ) → AllByRecursion (λ b. (b == 92) ≡ false) xs → (fold (cell_step text) (p, s) xs).1 ≡ content.put_bytes p s xs
unfolding cell_step is_left_out
kept_bytes text p s [] h = refl
kept_bytes text p s (x ∷ xs) h =
    let one : cell_step text (p, s) x ≡ (plus p 1, content.put_byte x p s) = rw (h.0) refl in
    ap (λ (t : ℕ × content.State). (fold (cell_step text) t xs).1) one ∙ kept_bytes text (plus p 1) (content.put_byte x p s) xs (h.1)

abbrev content_from : List ℕ → ℕ → ℕ → content.State
content_from text from to = (fold (cell_step text) (from, record { bytes = []; places = [] }) (bytes_between text from to)).1

ends_as : (text : List ℕ) (start end from to : ℕ) → run_end text start Blank ≡ from → cell_to text from end ≡ to → cell_content text start end ≡ content_from text from to
unfolding cell_content
ends_as text start end from to f t =
    ap (λ p. content_from text p (cell_to text p end)) f ∙ ap (content_from text from) t

runs_to : (text pre more : List ℕ) (start k b : ℕ) → text ≡ pre ++ (replicate k 32 ++ b ∷ more) → start ≡ length pre → is_in Blank b ≡ false → start + k < 2 ^ 64 → run_end text start Blank ≡ start + k
unfolding run_end
runs_to text pre more start k b t at h fits =
    let there : drop start text ≡ replicate k 32 ++ b ∷ more = ap (λ n. drop n text) at ∙ ap (drop (length pre)) t ∙ drop_behind pre (replicate k 32 ++ b ∷ more) in
    let run : length (take_while (is_in Blank) (drop start text)) ≡ k = ap (λ (xs : List ℕ). length (take_while (is_in Blank) xs)) there ∙ blanks_run k b more h in
    let sum : plus start k ≡ start + k = omega (arith, fits) in
    ap (plus start) run ∙ sum

letter_blank : (b : ℕ) → is_ascii_alphanumeric b ≡ true → is_in Blank b ≡ false
unfolding is_in
letter_blank b h = rw (turned is_ascii_alphanumeric 32 b h refl, turned is_ascii_alphanumeric 9 b h refl) refl

letter_no_blank : (b : ℕ) → is_ascii_alphanumeric b ≡ true → is_blank b ≡ false
letter_no_blank b h = rw (turned is_ascii_alphanumeric 32 b h refl, turned is_ascii_alphanumeric 9 b h refl) refl

pub no_slash : (b : ℕ) → IsWordByte b → (b == 92) ≡ false
no_slash b h = differs (char_set_contains marks) b 92 refl h.out

no_zero_byte : (b : ℕ) → IsWordByte b → (b == 0) ≡ false
no_zero_byte b h = (clean_byte b h.printable).some

cell_is : (text pre more : List ℕ) (start end before behind b : ℕ) (bs : List ℕ) → text ≡ pre ++ (spaced before (b ∷ bs) behind ++ more) → start ≡ length pre → end ≡ start + length (spaced before (b ∷ bs) behind) → IsPhrase b bs → end < 2 ^ 64 → cell_content text start end ≡ record { bytes = b ∷ bs; places = places_of (start + before) (b ∷ bs) }
cell_is text pre more start end before behind b bs t at to h fits =
    let words : List ℕ = b ∷ bs in
    let front : List ℕ = pre ++ replicate before 32 in
    let rest : List ℕ = replicate behind 32 ++ more in
    let from : ℕ = start + before in
    let stop : ℕ = from + length words in
    let spaces : length {A = ℕ} (replicate before 32) ≡ before = length-replicate before 32 in
    let tail : length {A = ℕ} (replicate behind 32) ≡ behind = length-replicate behind 32 in
    let there : text ≡ front ++ (words ++ rest) = stands_in text pre more before behind words t in
    let begins : from ≡ length front = ap (λ n. n + before) at ∙ ap (λ n. length pre + n) (sym spaces) ∙ sym (length-append pre (replicate before 32)) in
    let width : length (spaced before words behind) ≡ before + (length words + behind) =
    length-append (replicate before 32) (words ++ replicate behind 32) ∙ ap (λ n. n + length (words ++ replicate behind 32)) spaces ∙ ap (λ n. before + n) (length-append words (replicate behind 32) ∙ ap (λ n. length words + n) tail)
    in
    let all : end ≡ stop + behind = omega (arith, to, width) in
    let run : run_end text start Blank ≡ from = runs_to text pre (bs ++ rest) start before b (there ∙ append_assoc pre (replicate before 32) (words ++ rest)) at (letter_blank b h.first) (omega (arith, all, fits)) in
    let trailing : List ℕ = words ++ replicate behind 32 in
    let both : length trailing ≡ length words + behind = length-append words (replicate behind 32) ∙ ap (λ n. length words + n) tail in
    let grouped : text ≡ front ++ (trailing ++ more) = there ∙ ap (λ (l : List ℕ). front ++ l) (sym (append_assoc words (replicate behind 32) more)) in
    let held : bytes_between text from end ≡ trailing = piece_between text front trailing more from end grouped begins (omega (arith, all, both, begins)) in
    let split = split_last b bs in
    let blank : is_blank (last_byte b bs) ≡ false = letter_no_blank (last_byte b bs) h.last in
    let run_back : length (take_while is_blank (reverse (bytes_between text from end))) ≡ behind =
    ap (λ (xs : List ℕ). length (take_while is_blank (reverse xs))) (held ∙ ap (λ (xs : List ℕ). xs ++ replicate behind 32) (split.1))
    ∙ trailing_run behind (split.0) (last_byte b bs) blank
    in
    let shorter : end - behind ≡ stop = omega (arith, all) in
    let back : cell_to text from end ≡ stop = ap (λ n. end - n) run_back ∙ shorter in
    let words_there : bytes_between text from stop ≡ words = piece_between text front words rest from stop there begins (ap (λ n. n + length words) begins) in
    let none : content.State = record { bytes = []; places = [] } in
    ends_as text start end from stop run back
    ∙ ap (λ (xs : List ℕ). (fold (cell_step text) (from, none) xs).1) words_there
    ∙ kept_bytes text from none words (all_implied IsWordByte (λ x. (x == 92) ≡ false) words no_slash h.bytes)
    ∙ put_bytes_plain from none words (all_implied IsWordByte (λ x. (x == 0) ≡ false) words no_zero_byte h.bytes) (omega (arith, all, fits))

-- ---- its inlines

no_bars : (p : ℕ) (roles : List Role) (xs : List ℕ) → AllByRecursion (λ b. (b == 124) ≡ false) xs → (fold inlines.bar_step (p, roles) xs).1 ≡ roles
unfolding inlines.bar_step
no_bars p roles [] h = refl
no_bars p roles (x ∷ xs) h =
    let one : inlines.bar_step (p, roles) x ≡ (plus p 1, roles) = rw (h.0) refl in
    ap (λ (t : ℕ × List Role). (fold inlines.bar_step t xs).1) one ∙ no_bars (plus p 1) roles xs (h.1)

as_leaf : (syntax : Syntax) (leaf : content.State) (depth : ℕ) (find : List ℕ → Option Entry) (s : inlines.State) → AllByRecursion (λ b. (b == 124) ≡ false) leaf.bytes → inlines.read_cell_in syntax leaf depth find s ≡ inlines.read_inlines_in syntax leaf depth find s
unfolding inlines.read_cell_in inlines.read_inlines_in inlines.scan_start
as_leaf syntax leaf depth find s h =
    let start : scan.State = inlines.scan_start (length leaf.bytes) s.targets s.texts s.missed in
    ap (λ (r : List Role). inlines.inlines_from leaf depth (scan.scanned_in syntax leaf.bytes find (record start { roles = r })) s) (no_bars 0 start.roles leaf.bytes h)

nodes_on : (d p start : ℕ) (xs : List ℕ) → nodes_of d p (Some start) (bare xs) ≡ node d item.Text start (p + length xs) ∷ []
nodes_on d p start [] = ap (λ m. node d item.Text start m ∷ []) (let q : p ≡ p + 0 = omega arith in q)
nodes_on d p start (x ∷ xs) = nodes_on d (p + 1) start xs ∙ ap (λ m. node d item.Text start m ∷ []) (let q : p + 1 + length xs ≡ p + suc (length xs) = omega arith in q)

abbrev leaf_from : ℕ → List ℕ → content.State
leaf_from at xs = record { bytes = xs; places = places_of at xs }

phrase_inlines : (syntax : Syntax) (find : List ℕ → Option Entry) (at depth b : ℕ) (bs : List ℕ) → IsPhrase b bs → length (b ∷ bs) < 2 ^ 64 → inlines.read_inlines_in syntax (leaf_from at (b ∷ bs)) depth find no_inlines ≡ record no_inlines { nodes = node depth item.Text at (at + length (b ∷ bs)) ∷ [] }
phrase_inlines syntax find at depth b bs h fits =
    let words : List ℕ = b ∷ bs in
    let parts : List Part = bare words in
    let same : words ≡ spelled parts = sym (spelled_bare words) in
    let room : length (spelled parts) < 2 ^ 64 = subst (λ (l : List ℕ). length l < 2 ^ 64) same fits in
    let plain : ArePlainParts 10 parts = subst (ArePlainParts 10) (append-nil parts) (bare_plain 10 words [] h.bytes tt) in
    let stop : at + 1 + length bs ≡ at + length words = omega arith in
    read_alike syntax (leaf_from at words) depth find no_inlines (all_implied IsWordByte IsTextOrFeed words (λ x w. inl (text_byte x w)) h.bytes)
    ∙ ap (λ (l : List ℕ). inlines.read_inlines (leaf_from at l) depth find no_inlines) same
    ∙ parts_inlines_at parts at depth find no_inlines (plain_parts_are_read (spelled parts) [] (known (spelled parts)) find 0 10 parts refl refl room refl plain) room
    ∙ ap (λ (ns : List Node). (let t : inlines.State = record no_inlines { nodes = ns } in t)) (nodes_on depth (at + 1) at bs ∙ ap (λ m. node depth item.Text at m ∷ []) stop)

-- ---- the nodes of a table

abbrev pub so_far : List NodeView → pages.State
so_far ns = record { nodes = ns; inlines = no_inlines }

abbrev pub container : ℕ → TagView → ℕ → ℕ → NodeView
container depth tag start stop = pages.node depth (Container tag) start stop

-- the nodes of cells from a place on
abbrev pub cell_nodes : ℕ → List PlainCell → List NodeView
cell_nodes at [] = []
cell_nodes at (c ∷ cs) = container 2 TableCell at (at + length (cell_bytes c)) ∷ pages.node 3 Source (at + c.before) (at + c.before + length c.phrase) ∷ cell_nodes (at + length (cell_bytes c) + 1) cs

abbrev pub rows_nodes : ℕ → List (List PlainCell) → List NodeView
rows_nodes start [] = []
rows_nodes start (r ∷ rs) = container 1 TableRow start (start + length (row_line (row_bytes r))) ∷ (cell_nodes (start + 1) r ++ rows_nodes (start + length (row_line (row_bytes r)) + 1) rs)

module _ (syntax : Syntax) (text : List ℕ) (find : List ℕ → Option Entry) (all : List Block) (pieces : List Piece) (fits : length text < 2 ^ 64) where
  abbrev pub taken : pages.State → List Block → pages.State
  taken s bs = fold (block_step_in syntax text find all pieces) s bs

  cell_put : (ns : List NodeView) (start stop from : ℕ) (b : ℕ) (bs : List ℕ) (unwrapped : Bool) → cell_content text start stop ≡ leaf_from from (b ∷ bs) → IsPhrase b bs → AllByRecursion (λ x. (x == 124) ≡ false) (b ∷ bs) → length (b ∷ bs) < 2 ^ 64
      → block_taken_in syntax text find pieces unwrapped (row_part 2 kind.TableCell start stop) (so_far ns) ≡ so_far (ns ++ container 2 TableCell start stop ∷ pages.node 3 Source from (from + length (b ∷ bs)) ∷ [])
  unfolding block_taken_in cell_taken_in cell_inlines_in with_block task_nodes block_tag inline_node inline_item
  cell_put ns start stop from b bs unwrapped here h bars short =
      let one : NodeView = container 2 TableCell start stop in
      let two : NodeView = pages.node 3 Source from (from + length (b ∷ bs)) in
      let s : pages.State = so_far ((ns ++ one ∷ []) ++ []) in
      ap (λ (c : content.State). with_inlines (inlines.read_cell_in syntax c 3 find no_inlines) s) here
      ∙ ap (λ (i : inlines.State). with_inlines i s) (as_leaf syntax (leaf_from from (b ∷ bs)) 3 find no_inlines bars ∙ phrase_inlines syntax find from 3 b bs h short)
      ∙ ap (λ (l : List NodeView). so_far (l ++ two ∷ [])) (append-nil (ns ++ one ∷ []))
      ∙ ap so_far (append_assoc ns (one ∷ []) (two ∷ []))

  cells_put : (pre rest : List ℕ) (at : ℕ) (cs : List PlainCell) (ns : List NodeView) → AllByRecursion IsCell cs → text ≡ pre ++ (barred (row_bytes cs) ++ rest) → at ≡ length pre → taken (so_far ns) (cell_blocks at (row_bytes cs)) ≡ so_far (ns ++ cell_nodes at cs)
  cells_put pre rest at [] ns h t e = ap so_far (sym (append-nil ns))
  cells_put pre rest at (c ∷ cs) ns h t e =
      let cell : List ℕ = cell_bytes c in
      let others : List ℕ = barred (row_bytes cs) in
      let k = h.0 in
      let words : List ℕ = k.first ∷ k.others in
      let shaped : cell ≡ spaced c.before words c.behind = ap (λ (l : List ℕ). spaced c.before l c.behind) k.shape in
      let stop : ℕ = at + length cell in
      let whole : text ≡ pre ++ (cell ++ 124 ∷ (others ++ rest)) = t ∙ ap (λ (l : List ℕ). pre ++ l) (append_assoc cell (124 ∷ others) rest) in
      let width : length text ≡ length pre + (length cell + suc (length (others ++ rest))) = ap length whole ∙ length-append pre (cell ++ 124 ∷ (others ++ rest)) ∙ ap (λ n. length pre + n) (length-append cell (124 ∷ (others ++ rest))) in
      let within : stop < 2 ^ 64 = omega (arith, width, e, fits) in
      let content_is : cell_content text at stop ≡ leaf_from (at + c.before) words = cell_is text pre (124 ∷ (others ++ rest)) at stop c.before c.behind k.first k.others (whole ∙ ap (λ (l : List ℕ). pre ++ (l ++ 124 ∷ (others ++ rest))) shaped) e (ap (λ (l : List ℕ). at + length l) shaped) k.phrase within in
      let part : length cell ≡ length {A = ℕ} (replicate c.before 32) + (length words + length {A = ℕ} (replicate c.behind 32)) = ap length shaped ∙ length-append (replicate c.before 32) (words ++ replicate c.behind 32) ∙ ap (λ n. length {A = ℕ} (replicate c.before 32) + n) (length-append words (replicate c.behind 32)) in
      let short : length words < 2 ^ 64 = omega (arith, part, within) in
      let one : NodeView = container 2 TableCell at stop in
      let two : ℕ → NodeView = λ n. pages.node 3 Source (at + c.before) (at + c.before + n) in
      let longer : length (pre ++ (cell ++ 124 ∷ [])) ≡ length pre + length cell + 1 = grind (arith, length-append) in
      ap (λ (s : pages.State). taken s (cell_blocks (stop + 1) (row_bytes cs))) (cell_put ns at stop (at + c.before) k.first k.others _ content_is k.phrase k.bars short)
      ∙ cells_put (pre ++ (cell ++ 124 ∷ [])) rest (stop + 1) cs (ns ++ one ∷ two (length words) ∷ []) (h.1) (next_cell text pre cell others rest t) (omega (arith, e, longer))
      ∙ ap so_far (append_assoc ns (one ∷ two (length words) ∷ []) (cell_nodes (stop + 1) cs))
      ∙ ap (λ (l : List ℕ). so_far (ns ++ one ∷ two (length l) ∷ cell_nodes (stop + 1) cs)) (sym k.shape)

  pub row_put : (k : BlockKind) (tag : TagView) (ns : List NodeView) (start stop : ℕ) → ((unwrapped : Bool) → block_taken_in syntax text find pieces unwrapped (row_part 1 k start stop) (so_far ns) ≡ so_far ((ns ++ container 1 tag start stop ∷ []) ++ [])) → (pre rest : List ℕ) (cs : List PlainCell) → AllByRecursion IsCell cs → text ≡ pre ++ (row_line (row_bytes cs) ++ rest) → start ≡ length pre → taken (so_far ns) (row_part 1 k start stop ∷ cell_blocks (start + 1) (row_bytes cs)) ≡ so_far (ns ++ container 1 tag start stop ∷ cell_nodes (start + 1) cs)
  row_put k tag ns start stop begins pre rest cs h t e =
      let one : NodeView = container 1 tag start stop in
      let longer : start + 1 ≡ length (pre ++ 124 ∷ []) = ap (λ n. n + 1) e ∙ sym (length-append pre (124 ∷ [])) in
      ap (λ (s : pages.State). taken s (cell_blocks (start + 1) (row_bytes cs))) (begins _ ∙ ap so_far (append-nil (ns ++ one ∷ [])))
      ∙ cells_put (pre ++ 124 ∷ []) rest (start + 1) cs (ns ++ one ∷ []) h (t ∙ sym (append_assoc pre (124 ∷ []) (barred (row_bytes cs) ++ rest))) longer
      ∙ ap so_far (append_assoc ns (one ∷ []) (cell_nodes (start + 1) cs))

  pub head_begins : (ns : List NodeView) (start stop : ℕ) (unwrapped : Bool) → block_taken_in syntax text find pieces unwrapped (row_part 1 kind.TableHead start stop) (so_far ns) ≡ so_far ((ns ++ container 1 TableHead start stop ∷ []) ++ [])
  unfolding block_taken_in with_block task_nodes block_tag
  head_begins ns start stop unwrapped = refl

  row_begins : (ns : List NodeView) (start stop : ℕ) (unwrapped : Bool) → block_taken_in syntax text find pieces unwrapped (row_part 1 kind.TableRow start stop) (so_far ns) ≡ so_far ((ns ++ container 1 TableRow start stop ∷ []) ++ [])
  unfolding block_taken_in with_block task_nodes block_tag
  row_begins ns start stop unwrapped = refl

  pub table_begins : (from to stop : ℕ) (unwrapped : Bool) → block_taken_in syntax text find pieces unwrapped (table_block from to stop) (so_far []) ≡ so_far (container 0 (Table (alignments_of (bytes_between text from to))) 0 stop ∷ [])
  unfolding block_taken_in with_block task_nodes block_tag
  table_begins from to stop unwrapped = refl

  pub rows_put : (pre : List ℕ) (start : ℕ) (r : List PlainCell) (rs : List (List PlainCell)) (ns : List NodeView) → AllByRecursion (AllByRecursion IsCell) (r ∷ rs) → text ≡ pre ++ lined (row_line (row_bytes r)) (map row_line (map row_bytes rs)) → start ≡ length pre → taken (so_far ns) (rows_blocks start (map row_bytes (r ∷ rs))) ≡ so_far (ns ++ rows_nodes start (r ∷ rs))
  rows_put pre start r [] ns h t e =
      let row : List ℕ = row_line (row_bytes r) in
      let here : List Block = row_part 1 kind.TableRow start (start + length row) ∷ cell_blocks (start + 1) (row_bytes r) in
      let nodes : List NodeView = container 1 TableRow start (start + length row) ∷ cell_nodes (start + 1) r in
      ap (taken (so_far ns)) (append-nil here)
      ∙ row_put kind.TableRow TableRow ns start (start + length row) (row_begins ns start (start + length row)) pre [] r (h.0) (t ∙ ap (λ (l : List ℕ). pre ++ l) (sym (append-nil row))) e
      ∙ ap (λ (l : List NodeView). so_far (ns ++ l)) (sym (append-nil nodes))
  rows_put pre start r (m ∷ ms) ns h t e =
      let row : List ℕ = row_line (row_bytes r) in
      let more : List ℕ = lined (row_line (row_bytes m)) (map row_line (map row_bytes ms)) in
      let stop : ℕ = start + length row in
      let here : List Block = row_part 1 kind.TableRow start stop ∷ cell_blocks (start + 1) (row_bytes r) in
      let nodes : List NodeView = container 1 TableRow start stop ∷ cell_nodes (start + 1) r in
      let rest : List Block = rows_blocks (stop + 1) (map row_bytes (m ∷ ms)) in
      let there : text ≡ (pre ++ (row ++ 10 ∷ [])) ++ more = t ∙ ap (λ (xs : List ℕ). pre ++ xs) (sym (append_assoc row (10 ∷ []) more)) ∙ sym (append_assoc pre (row ++ 10 ∷ []) more) in
      let longer : stop + 1 ≡ length (pre ++ (row ++ 10 ∷ [])) = ap (λ k. k + length row + 1) e ∙ (let q : length pre + length row + 1 ≡ length (pre ++ (row ++ 10 ∷ [])) = grind (arith, length-append) in q) in
      fold-append (block_step_in syntax text find all pieces) (so_far ns) here rest
      ∙ ap (λ (s : pages.State). taken s rest) (row_put kind.TableRow TableRow ns start stop (row_begins ns start stop) pre (10 ∷ more) r (h.0) t e)
      ∙ rows_put (pre ++ (row ++ 10 ∷ [])) (stop + 1) m ms (ns ++ nodes) (h.1) there longer
      ∙ ap so_far (append_assoc ns nodes (rows_nodes (stop + 1) (m ∷ ms)))
