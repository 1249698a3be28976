-- Events that are handed out tree by tree are those of the whole text.
use Rattle.std.proofs.Common.{◌≡◌, ◌≢◌, ℕ, Bool, true, false, ◌++◌, ◌∷◌, [], List, map, Option, Some, None, refl, ap, sym, subst, ◌∙◌, append_assoc, append-nil, arith, length, reverse, option_to_list, ◌+◌, ◌-◌, Vec, Global}
use Rattle.std.specs.List.{fold}
use Rattle.std.specs.Option.{option_map_or}
use Rattle.std.specs.Prelude.{get_or, nat_le, nat_lt, if◌then◌else◌, is_none, not, slice_get, string_bytes, ◌==◌, ◌&&◌, ◌||◌}
use Rattle.std.proofs.lemmas.List.{length-append, length-map, nil_from_length, reverse-append, reverse-reverse}
use Rattle.std.proofs.lemmas.Option.{slice_get_read}
use Rattle.std.proofs.Math.Seq.{get_or-append_seam}
use Rattle.std.proofs.lemmas.Bool.{and_parts, eqb-true, false≢true}
use Rattle.std.proofs.lemmas.Bool.Decides.{nat_tests}
use Rattle.tocmark_event.specs.Reading.{ReadingView}
use Rattle.tocmark_event.specs.Text.{ParserEvent}
use Rattle.tocmark_event.specs.View.{EventView, Start, Leaf, Text}
use Rattle.tocmark_event.specs.View as view
use Rattle.tocmark_read_scan.specs.Basic.{plus}
use Rattle.tocmark_read_scan.specs.Content as content
use Rattle.tocmark_read_scan.specs.TableCell.{cell_content}
use Rattle.tocmark_read_scan.specs.declared.syntax.Syntax.{Syntax}
use Rattle.tocmark_read_page.specs.declared.piece.Piece.{Piece}
use Rattle.tocmark_read_page.specs.declared.page.Block.{Block}
use Rattle.tocmark_read_page.specs.declared.page.BlockKind.{BlockKind}
use Rattle.tocmark_read_page.specs.declared.page.BlockKind.TheVariants as kind
use Rattle.tocmark_read_inlines.specs.Inlines as inlines
use Rattle.tocmark_read_spans.specs.Definitions.{distinct_labels, entry_of}
use Rattle.tocmark_reader.specs.declared.block_events.Assembly.{Assembly}
use Rattle.tocmark_reader.specs.declared.block_reading.BlockReading.{BlockReading}
use Rattle.tocmark_reader.specs.declared.emit.Emission.{Emission}
use Rattle.tocmark_reader.specs.declared.emit.Open.{Open}
use Rattle.tocmark_reader.specs.Emitted.{ItemView, Container, Source, Given, NodeView, Writing, closed, closings, emission_view, put, shown, source_text, step}
use Rattle.tocmark_reader.specs.Range.{snapped}
use Rattle.tocmark_reader.specs.Inlines.{inline_node}
use Rattle.tocmark_reader.specs.Formulas.{keeps_blanks, laid_nodes}
use Rattle.tocmark_reader.specs.Left.{IsHandable, all_made, begins_tree, behind, blocks_left, goes_on, has_events, is_at_tree, is_empty, reading_at_end, reading_left}
use Rattle.tocmark_reader.specs.Pages.{State, Progress, assembly_view, node, written_behind, written_by, content_line, lines_nodes, block_node, pieces_of, with_inlines, with_laid, with_lines_of, leaf_inlines_in, task_nodes, with_block, with_lines, fence_node_in, with_fence_in, with_rule, wrapped_in, paragraph_taken_in, taken_as_in, block_taken_in, is_unwrapped_by, cell_inlines_in, cell_taken_in}
use Rattle.tocmark_reader.proofs.Behind.{Find, some_taken, first_behind}

abbrev Marked : Type 0
Marked = EventView × (ℕ × ℕ)

-- the first node of a state is at a depth
abbrev Begins : ℕ → State → Type 0
Begins depth s = (n : NodeView) × (ns : List NodeView) × (s.nodes ≡ n ∷ ns) × (n.depth ≡ depth)

abbrev no_nodes : inlines.State → State
no_nodes i = record { nodes = []; inlines = i }

begins_block : (text : List ℕ) (b : Block) (i : inlines.State) → Begins b.depth (with_block text b (no_nodes i))
unfolding with_block
begins_block text b i = (block_node text b, task_nodes b.task (plus b.depth 1), refl, refl)

begins_inlines : (depth : ℕ) (found : inlines.State) (s : State) → Begins depth s → Begins depth (with_inlines found s)
begins_inlines depth found s h =
    let more : List NodeView = map (inline_node found.texts found.targets) found.nodes in
    (h.0, h.1 ++ more, ap (λ (l : List NodeView). l ++ more) h.2, h.3)

begins_laid : (depth : ℕ) (text : List ℕ) (lines : List Piece) (found : inlines.State) (s : State) → Begins depth s → Begins depth (with_laid text lines found s)
begins_laid depth text lines found s h =
    let more : List NodeView = laid_nodes text lines found.texts found.targets found.nodes in
    (h.0, h.1 ++ more, ap (λ (l : List NodeView). l ++ more) h.2, h.3)

begins_lines_of : (depth : ℕ) (syntax : Syntax) (text : List ℕ) (lines : List Piece) (found : inlines.State) (s : State) → Begins depth s → Begins depth (with_lines_of syntax text lines found s)
unfolding with_lines_of
begins_lines_of depth syntax text lines found s h = by_test (keeps_blanks syntax lines)
  where
    by_test : (t : Bool) → Begins depth (if t then with_laid text lines found s else with_inlines found s)
    by_test true = begins_laid depth text lines found s h
    by_test false = begins_inlines depth found s h

begins_wrapped : (syntax : Syntax) (text : List ℕ) (find : Find) (pieces : List Piece) (b : Block) (i : inlines.State) → Begins b.depth (wrapped_in syntax text find pieces b (no_nodes i))
unfolding wrapped_in leaf_inlines_in
begins_wrapped syntax text find pieces b i =
    let s : State = with_block text b (no_nodes i) in
    begins_lines_of b.depth syntax text pieces (inlines.read_inlines_in syntax (content.content_of text (map content_line pieces)) (plus b.depth 1) find s.inlines) s (begins_block text b i)

begins_cell : (syntax : Syntax) (text : List ℕ) (find : Find) (b : Block) (i : inlines.State) → Begins b.depth (cell_taken_in syntax text find b (no_nodes i))
unfolding cell_taken_in cell_inlines_in
begins_cell syntax text find b i =
    let s : State = with_block text b (no_nodes i) in
    begins_inlines b.depth (inlines.read_cell_in syntax (cell_content text b.start b.end) (plus b.depth 1) find s.inlines) s (begins_block text b i)

begins_lines : (text : List ℕ) (html : Bool) (b : Block) (lines : List Piece) (i : inlines.State) → Begins b.depth (with_lines text html b lines (no_nodes i))
unfolding with_lines
begins_lines text html b lines i = (block_node text b, lines_nodes text html (plus b.depth 1) lines, refl, refl)

begins_fence : (syntax : Syntax) (text : List ℕ) (from to : ℕ) (b : Block) (lines : List Piece) (i : inlines.State) → Begins b.depth (with_fence_in syntax.names text from to b lines (no_nodes i))
unfolding with_fence_in fence_node_in
begins_fence syntax text from to b lines i = (fence_node_in syntax.names text from to b, lines_nodes text false (plus b.depth 1) lines, refl, refl)

begins_rule : (b : Block) (i : inlines.State) → Begins b.depth (with_rule b (no_nodes i))
unfolding with_rule
begins_rule b i = (node b.depth (Given view.Rule) b.start b.end, [], refl, refl)

begins_paragraph : (syntax : Syntax) (text : List ℕ) (find : Find) (pieces : List Piece) (b : Block) (i : inlines.State) → nat_lt b.first b.last ≡ true → Begins b.depth (paragraph_taken_in syntax text find pieces false b (no_nodes i))
unfolding paragraph_taken_in
begins_paragraph syntax text find pieces b i h =
    let some : nat_le b.last b.first ≡ false = grind (arith, nat_tests) in
    subst (λ (x : Bool). Begins b.depth (if x then no_nodes i else wrapped_in syntax text find pieces b (no_nodes i))) (sym some) (begins_wrapped syntax text find pieces b i)

begins_kind : (syntax : Syntax) (k : BlockKind) (text : List ℕ) (find : Find) (pieces : List Piece) (b : Block) (i : inlines.State) → has_events k b ≡ true → Begins b.depth (taken_as_in syntax k text find pieces false b (no_nodes i))
begins_kind syntax kind.Paragraph text find pieces b i h = begins_paragraph syntax text find pieces b i h
begins_kind syntax (kind.Heading level braces) text find pieces b i h = begins_wrapped syntax text find pieces b i
begins_kind syntax (kind.Quote q) text find pieces b i h = begins_block text b i
begins_kind syntax (kind.List first) text find pieces b i h = begins_block text b i
begins_kind syntax kind.Item text find pieces b i h = begins_block text b i
begins_kind syntax kind.Indented text find pieces b i h = begins_lines text false b pieces i
begins_kind syntax (kind.Fenced from to) text find pieces b i h = begins_fence syntax text from to b pieces i
begins_kind syntax kind.Html text find pieces b i h = begins_lines text true b pieces i
begins_kind syntax kind.Rule text find pieces b i h = begins_rule b i
begins_kind syntax (kind.Metadata q) text find pieces b i h = begins_lines text false b pieces i
begins_kind syntax (kind.Footnote from to) text find pieces b i h = begins_block text b i
begins_kind syntax (kind.Table from to) text find pieces b i h = begins_block text b i
begins_kind syntax kind.TableHead text find pieces b i h = begins_block text b i
begins_kind syntax kind.TableRow text find pieces b i h = begins_block text b i
begins_kind syntax kind.TableCell text find pieces b i h = begins_cell syntax text find b i
begins_kind syntax kind.DefinitionList text find pieces b i h = begins_block text b i
begins_kind syntax kind.DefinitionListTitle text find pieces b i h = begins_wrapped syntax text find pieces b i
begins_kind syntax kind.DefinitionListDefinition text find pieces b i h = begins_block text b i

-- what isn't in a list isn't unwrapped
not_unwrapped : (loose : List Bool) (b : Block) → is_none b.list ≡ true → is_unwrapped_by loose b ≡ false
unfolding is_unwrapped_by
not_unwrapped loose b h = go b.list h
  where
    go : (o : Option ℕ) → is_none o ≡ true → option_map_or (λ place. option_map_or not (slice_get loose place) false) o false ≡ false
    go None h = refl
    go (Some place) h = absurd (false≢true h)

begins_taken : (syntax : Syntax) (text : List ℕ) (find : Find) (pieces : List Piece) (loose : List Bool) (b : Block) (i : inlines.State) → begins_tree b ≡ true → Begins 0 (block_taken_in syntax text find pieces (is_unwrapped_by loose b) b (no_nodes i))
unfolding block_taken_in begins_tree
begins_taken syntax text find pieces loose b i h =
    let both = and_parts (b.depth == 0 && is_none b.list) (has_events b.kind b) h in
    let outer = and_parts (b.depth == 0) (is_none b.list) both.0 in
    subst (λ (u : Bool). Begins 0 (taken_as_in syntax b.kind text find (pieces_of pieces b.first b.last) u b (no_nodes i))) (sym (not_unwrapped loose b outer.1))
    (subst (λ (d : ℕ). Begins d (taken_as_in syntax b.kind text find (pieces_of pieces b.first b.last) false b (no_nodes i))) (eqb-true b.depth 0 outer.0) (begins_kind syntax b.kind text find (pieces_of pieces b.first b.last) b i both.1))

-- what is written, of its two parts
abbrev pub writing : List Open → List Marked → Writing
writing stack events = record { events = events; stack = stack }

abbrev progress : inlines.State → Writing → Progress
progress found w = record { writing = w; inlines = found }

closed_twice : (w : Writing) → closed 0 (closed 0 w) ≡ closed 0 w
closed_twice w = ap (writing []) (append-nil (w.events ++ closings 0 w.stack))

-- a node that is in no container needs none ended before it
step_closed : (text : List ℕ) (w : Writing) (n : NodeView) → n.depth ≡ 0 → step text (closed 0 w) n ≡ step text w n
step_closed text w n h =
    let range : ℕ × ℕ = snapped text n.start n.end in
    subst (λ (d : ℕ). put text n.item range (closed d (closed 0 w)) ≡ put text n.item range (closed d w)) (sym h) (ap (put text n.item range) (closed_twice w))

-- what is made, with its containers ended
abbrev pub ended : Progress → Progress
ended p = progress p.inlines (closed 0 p.writing)

starts_ended : (text : List ℕ) (w : Writing) (s : State) → Begins 0 s → written_behind text (closed 0 w) s ≡ written_behind text w s
starts_ended text w s (n, ns, is, depth) =
    ap (progress s.inlines)
    (ap (fold (step text) (closed 0 w)) is ∙ ap (λ x. fold (step text) x ns) (step_closed text w n depth) ∙ sym (ap (fold (step text) w) is))

-- both show the same at the end
record Alike (p q : Progress) : Type 0 where
  events : (closed 0 p.writing).events ≡ (closed 0 q.writing).events
  inlines : p.inlines ≡ q.inlines

alike_readings : (defined : List (List ℕ)) (p q : Progress) → Alike p q → reading_at_end defined p ≡ reading_at_end defined q
alike_readings defined p q h =
    ap (λ (i : inlines.State). reading_of_parts (closed 0 p.writing).events i) h.inlines ∙ ap (λ (es : List Marked). reading_of_parts es q.inlines) h.events
  where
    reading_of_parts : List Marked → inlines.State → ReadingView
    reading_of_parts es i = record { events = es; defined = defined; unresolved = distinct_labels i.texts i.missed }

-- before a block that begins a tree, and at the end, all containers may be ended
abbrev MayEnd : List Block → Type 0
MayEnd [] = Unit {0}
MayEnd (b ∷ bs) = begins_tree b ≡ true

module _ (syntax : Syntax) (text : List ℕ) (find : Find) (loose : List Bool) (pieces : List Piece) where
  abbrev left_taken : List Block → Progress → Progress
  left_taken left p = written_by text (some_taken syntax text find loose pieces left) p

  ended_before : (left : List Block) (p : Progress) → MayEnd left → Alike (left_taken left (ended p)) (left_taken left p)
  ended_before [] p h = record { events = append-nil (p.writing.events ++ closings 0 p.writing.stack); inlines = refl }
  ended_before (b ∷ bs) p h =
      let change : State → State = block_taken_in syntax text find pieces (is_unwrapped_by loose b) b in
      let same : written_by text change (ended p) ≡ written_by text change p = starts_ended text p.writing (change (no_nodes p.inlines)) (begins_taken syntax text find pieces loose b p.inlines h) in
      let before : left_taken (b ∷ bs) (ended p) ≡ left_taken bs (written_by text change (ended p)) = first_behind syntax text find loose pieces b bs (is_unwrapped_by loose b) (ended p) (written_by text change (ended p)) refl refl in
      let after : left_taken (b ∷ bs) p ≡ left_taken bs (written_by text change p) = first_behind syntax text find loose pieces b bs (is_unwrapped_by loose b) p (written_by text change p) refl refl in
      let both : left_taken (b ∷ bs) (ended p) ≡ left_taken (b ∷ bs) p = before ∙ ap (left_taken bs) same ∙ sym after in
      record { events = ap (λ q. (closed 0 q.writing).events) both; inlines = ap (λ q. q.inlines) both }

-- events in front of all others
abbrev in_front : List Marked → Writing → Writing
in_front es w = writing w.stack (es ++ w.events)

put_front : (text : List ℕ) (es : List Marked) (i : ItemView) (range : ℕ × ℕ) (w : Writing) → put text i range (in_front es w) ≡ in_front es (put text i range w)
put_front text es (Container tag) range w = ap (writing (put text (Container tag) range w).stack) (append_assoc es w.events ((Start tag, range) ∷ []))
put_front text es Source range w = ap (writing w.stack) (append_assoc es w.events ((Leaf (Text (source_text text range)), range) ∷ []))
put_front text es (Given l) range w = ap (writing w.stack) (append_assoc es w.events ((Leaf l, range) ∷ []))

closed_front : (es : List Marked) (depth : ℕ) (w : Writing) → closed depth (in_front es w) ≡ in_front es (closed depth w)
closed_front es depth w = ap (writing (closed depth w).stack) (append_assoc es w.events (closings depth w.stack))

fold_front : (text : List ℕ) (es : List Marked) (nodes : List NodeView) (w : Writing) → fold (step text) (in_front es w) nodes ≡ in_front es (fold (step text) w nodes)
fold_front text es [] w = refl
fold_front text es (n ∷ ns) w =
    let range : ℕ × ℕ = snapped text n.start n.end in
    let first : step text (in_front es w) n ≡ in_front es (step text w n) = ap (put text n.item range) (closed_front es n.depth w) ∙ put_front text es n.item range (closed n.depth w) in
    ap (λ x. fold (step text) x ns) first ∙ fold_front text es ns (step text w n)

-- events that are handed out are in front of those that are made after them
handed_first : (text : List ℕ) (stack : List Open) (es : List Marked) (nodes : List NodeView) → (closed 0 (fold (step text) (writing stack es) nodes)).events ≡ es ++ (closed 0 (fold (step text) (writing stack []) nodes)).events
handed_first text stack es nodes =
    ap (λ l. (closed 0 (fold (step text) (writing stack l) nodes)).events) (sym (append-nil es))
    ∙ ap (λ w. (closed 0 w).events) (fold_front text es nodes (writing stack []))
    ∙ ap (λ (w : Writing). w.events) (closed_front es 0 (fold (step text) (writing stack []) nodes))

-- the same reading with other events written
abbrev with_emission : BlockReading → Emission → BlockReading
with_emission r e = record r { assembly = record r.assembly { emission = e } }

-- the nodes of the blocks that are left
abbrev pub nodes_left : BlockReading → State
nodes_left r = some_taken r.syntax r.text (entry_of r.definitions) r.loose.items r.pieces.items (blocks_left r) (no_nodes (inlines.inlines_view r.assembly.inlines))

-- the events that are made are handed out: those that are left come after them
pub handed : (r : BlockReading) (e : Emission) → emission_view e ≡ writing r.assembly.emission.stack.items [] → reading_left r ≡ behind (map shown r.assembly.emission.events.items) (reading_left (with_emission r e))
handed r e empty =
    let es : List Marked = map shown r.assembly.emission.events.items in
    let text : List ℕ = r.text in
    let nodes : List NodeView = (nodes_left r).nodes in
    ap (λ (l : List Marked). shows r l)
    (handed_first text r.assembly.emission.stack.items es nodes
    ∙ ap (λ (w : Writing). es ++ (closed 0 (fold (step text) w nodes)).events) (sym empty))
  where
    shows : BlockReading → List Marked → ReadingView
    shows r l = record { events = l; defined = map string_bytes r.defined.items; unresolved = distinct_labels (all_made r).inlines.texts (all_made r).inlines.missed }

-- at the end nothing is left
pub none_left : (r : BlockReading) → IsHandable r → is_empty r ≡ true → (reading_left r).events ≡ []
none_left r h empty =
    let es : List Marked = map shown r.assembly.emission.events.items in
    let none : es ≡ [] = ap (map shown) (nil_from_length r.assembly.emission.events.items (eqb-true (length r.assembly.emission.events.items) 0 empty)) in
    ap (λ (l : List Block). (closed 0 (left_taken r.syntax r.text (entry_of r.definitions) r.loose.items r.pieces.items (reverse l) (progress (inlines.inlines_view r.assembly.inlines) (emission_view r.assembly.emission))).writing).events) (h.last empty)
    ∙ ap (λ (s : List Open). es ++ closings 0 s) h.closed
    ∙ append-nil es
    ∙ none

-- some events were handed out
pub some_shown : (xs : List (ParserEvent × (ℕ × ℕ))) → (length xs == 0) ≡ false → map shown xs ≢ []
some_shown xs h none = false≢true (sym h ∙ ap (λ n. n == 0) (sym (length-map xs shown) ∙ ap length none))

no_more : (m n k : ℕ) → m ≡ n + k → (m == 0) ≡ true → (n == 0) ≡ true
no_more m n k h e = grind (arith, nat_tests)

-- where nothing is written in all, nothing was written before
none_before : (ys xs : List (ParserEvent × (ℕ × ℕ))) (more : List Marked) → map shown ys ≡ map shown xs ++ more → (length ys == 0) ≡ true → (length xs == 0) ≡ true
none_before ys xs more h none =
    no_more (length ys) (length xs) (length more)
    (sym (length-map ys shown) ∙ ap length h ∙ length-append (map shown xs) more ∙ ap (λ n. n + length more) (length-map xs shown))
    none

-- after others this is the last one
last_behind : (xs : List Block) (b : Block) → slice_get (xs ++ b ∷ []) (length (xs ++ b ∷ []) - 1) ≡ Some b
last_behind xs b =
    let all : List Block = xs ++ b ∷ [] in
    let many : length all ≡ length xs + 1 = length-append xs (b ∷ []) in
    let at : length all - 1 ≡ length xs = omega (arith, many) in
    slice_get_read all (length all) (length all - 1) b refl (omega (arith, many)) (sym (ap (λ n. get_or all n b) at ∙ get_or-append_seam xs b [] b))

-- where the next block doesn't belong to what is made, all containers may be ended
stops : (xs : List Block) → option_map_or begins_tree (slice_get xs (length xs - 1)) true ≡ true → MayEnd (reverse xs)
stops xs h = in_reverse (reverse xs) (subst (λ (l : List Block). option_map_or begins_tree (slice_get l (length l - 1)) true ≡ true) (sym (reverse-reverse xs)) h)
  where
    in_reverse : (ys : List Block) → option_map_or begins_tree (slice_get (reverse ys) (length (reverse ys) - 1)) true ≡ true → MayEnd ys
    in_reverse [] h = tt
    in_reverse (y ∷ ys) h =
        let is : reverse (y ∷ ys) ≡ reverse ys ++ y ∷ [] = reverse-append (y ∷ []) ys in
        sym (ap (λ o. option_map_or begins_tree o true) (ap (λ (l : List Block). slice_get l (length l - 1)) is ∙ last_behind (reverse ys) y)) ∙ h

pub tree_ended : (r : BlockReading) (e : Emission) → goes_on r ≡ false → emission_view e ≡ closed 0 (emission_view r.assembly.emission) → (reading_left (with_emission r e) ≡ reading_left r) × IsHandable (with_emission r e)
tree_ended r e stop is =
    let defined : List (List ℕ) = map string_bytes r.defined.items in
    let find : Find = entry_of r.definitions in
    let left : List Block = blocks_left r in
    let found : inlines.State = inlines.inlines_view r.assembly.inlines in
    let here : Progress = progress found (emission_view r.assembly.emission) in
    let taken : Progress → Progress = left_taken r.syntax r.text find r.loose.items r.pieces.items left in
    let parts : MayEnd left × (is_empty r ≡ true → r.blocks.items ≡ []) = go (length r.blocks.items == 0) (is_empty r) (is_at_tree r) refl refl refl stop in (
      ap (λ (w : Writing). reading_at_end defined (taken (progress found w))) is
          ∙ alike_readings defined (taken (ended here)) (taken here) (ended_before r.syntax r.text find r.loose.items r.pieces.items left here parts.0),
      record {
        closed = ap (λ (w : Writing). w.stack) is;
        last = λ none. parts.1 (none_before e.events.items r.assembly.emission.events.items (closings 0 r.assembly.emission.stack.items) (ap (λ (w : Writing). w.events) is) none);
      },
    )
  where
    go : (t n a : Bool) → (length r.blocks.items == 0) ≡ t → is_empty r ≡ n → is_at_tree r ≡ a → (not t && (n || not a)) ≡ false → MayEnd (blocks_left r) × (n ≡ true → r.blocks.items ≡ [])
    go true n a none en at h = let is_nil = nil_from_length r.blocks.items (eqb-true (length r.blocks.items) 0 none) in (subst (λ (l : List Block). MayEnd (reverse l)) (sym is_nil) tt, λ x. is_nil)
    go false true a lt en at h = absurd (false≢true (sym h))
    go false false true lt en at h = (stops r.blocks.items at, λ x. absurd (false≢true x))
    go false false false lt en at h = absurd (false≢true (sym h))

-- the same of a reading in which the next block was taken
pub one_taken : (r : BlockReading) (a : Assembly) (kept : Vec Block Global) (loose : List Bool) (pieces : List Piece) (next : Option Block) (b : Block) (unwrapped : Bool) → r.blocks.items ≡ kept.items ++ option_to_list next → next ≡ Some b → loose ≡ r.loose.items → pieces ≡ r.pieces.items → unwrapped ≡ is_unwrapped_by loose b → assembly_view a ≡ written_by r.text (block_taken_in r.syntax r.text (entry_of r.definitions) pieces unwrapped b) (assembly_view r.assembly) → reading_left (record r { assembly = a; blocks = kept }) ≡ reading_left r
one_taken r a kept loose pieces next b unwrapped split is same_loose same_pieces u made =
    let find : Find = entry_of r.definitions in
    let taken : List Block → Progress → Progress = left_taken r.syntax r.text find r.loose.items r.pieces.items in
    let first : blocks_left r ≡ b ∷ reverse kept.items = ap reverse (split ∙ ap (λ (o : Option Block). kept.items ++ option_to_list o) is) ∙ reverse-append kept.items (b ∷ []) in
    let one : (ps : List Piece) → Progress = λ ps. written_by r.text (block_taken_in r.syntax r.text find ps unwrapped b) (assembly_view r.assembly) in
    ap (λ (p : Progress). reading_at_end (map string_bytes r.defined.items) p)
    (sym (first_behind r.syntax r.text find r.loose.items r.pieces.items b (reverse kept.items) unwrapped (assembly_view r.assembly) (assembly_view a) (u ∙ ap (λ (l : List Bool). is_unwrapped_by l b) same_loose) (made ∙ ap one same_pieces))
    ∙ ap (λ (l : List Block). taken l (assembly_view r.assembly)) (sym first))

-- where no block was left, none was taken
pub none_taken : (r : BlockReading) (kept : Vec Block Global) (next : Option Block) → r.blocks.items ≡ kept.items ++ option_to_list next → next ≡ None → reading_left (record r { blocks = kept }) ≡ reading_left r
none_taken r kept next split is =
    ap (λ (l : List Block). reading_at_end (map string_bytes r.defined.items) (left_taken r.syntax r.text (entry_of r.definitions) r.loose.items r.pieces.items (reverse l) (assembly_view r.assembly)))
    (sym (split ∙ ap (λ (o : Option Block). kept.items ++ option_to_list o) is ∙ append-nil kept.items))
