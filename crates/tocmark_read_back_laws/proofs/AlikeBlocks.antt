-- Both readers make the same nodes of plain blocks, and neither misses a label.
use Rattle.std.proofs.Common.{◌≡◌, ℕ, ◌+◌, ◌^◌, ◌<◌, Bool, true, false, nat_le, if◌then◌else◌, List, [], ◌∷◌, ◌++◌, length, map, Option, refl, ap, sym, ◌∙◌, arith, None}
use Rattle.std.specs.List.{AllByRecursion, fold}
use Rattle.tocmark_read_scan.specs.Basic.{plus, bytes_between}
use Rattle.tocmark_read_scan.specs.Content as content
use Rattle.tocmark_read_scan.specs.PlainParts.{Part, spelled}
use Rattle.tocmark_read_scan.specs.declared.syntax.Names.TheVariants.{Four, All}
use Rattle.tocmark_read_scan.specs.declared.syntax.Syntax.{Syntax}
use Rattle.tocmark_read_scan.specs.declared.syntax.TheConstants.{CORE}
use Rattle.tocmark_read_page.specs.declared.page.Block.{Block}
use Rattle.tocmark_read_page.specs.declared.page.BlockKind.{BlockKind}
use Rattle.tocmark_read_page.specs.declared.page.BlockKind.TheVariants as kind
use Rattle.tocmark_read_page.specs.declared.piece.Piece.{Piece}
use Rattle.tocmark_read_spans.specs.declared.definitions.Entry.{Entry}
use Rattle.tocmark_read_inlines.specs.Inlines as inlines
use Rattle.tocmark_read_inlines.specs.Write as w
use Rattle.tocmark_read_inlines.specs.declared.write.Node.{Node}
use Rattle.tocmark_read_inlines.proofs.PlainLeaf.{known}
use Rattle.tocmark_read_inlines.proofs.PlainNeighbours.{ArePlainParts, plain_parts_are_read}
use Rattle.tocmark_read_inlines.proofs.PlainNodes.{nodes_of}
use Rattle.tocmark_reader.specs.Emitted.{NodeView, Container, Given}
use Rattle.tocmark_event.specs.View as view
use Rattle.tocmark_reader.specs.Formulas.{keeps_blanks}
use Rattle.tocmark_reader.specs.Inlines.{inline_node}
use Rattle.tocmark_reader.specs.Pages.{State, node, pieces_of, content_line, block_node, task_nodes, lines_nodes, is_unwrapped, with_inlines, leaf_inlines_in, with_block, with_task, bare_in, wrapped_in, with_lines, fence_node_in, with_fence_in, with_rule, paragraph_taken_in, taken_as_in, block_taken_in, block_step_in}
use Rattle.tocmark_reader.specs.Words.{info_text_in}
use Rattle.tocmark_reader.proofs.FormulaLines.{found_plainly}
use Rattle.tocmark_reader.proofs.PlacedParts.{parts_inlines_placed}
use Rattle.tocmark_inline_laws.specs.Said.{commonmark}
use Rattle.tocmark_read_back_laws.proofs.AlikeNodes.{nodes_alike}
use Rattle.tocmark_read_back_laws.proofs.NamedParts.{kept_texts, named_roles, named_inlines}

-- the nodes of two readings are the same, all inlines have nodes, and no label was missed
pub record AreAlike (s u : State) : Type 0 where
  pub nodes : s.nodes ≡ u.nodes
  pub one_written : s.inlines.nodes ≡ []
  pub two_written : u.inlines.nodes ≡ []
  pub one_missed : s.inlines.missed ≡ []
  pub two_missed : u.inlines.missed ≡ []

-- the content of these lines is that of plain parts
pub record IsPlainLeaf (text : List ℕ) (ps : List Piece) : Type 0 where
  pub parts : List Part
  pub bytes : (content.content_of text (map content_line ps)).bytes ≡ spelled parts
  pub plain : ArePlainParts 10 parts
  pub small : length (spelled parts) + 2 < 2 ^ 64

-- a block of CommonMark with these lines, whose content or info string has no names that only one reader knows
abbrev pub IsPlainKind : List ℕ → List Piece → BlockKind → Type 0
IsPlainKind text ps (kind.Quote k) = Unit {0}
IsPlainKind text ps (kind.List first) = Unit {0}
IsPlainKind text ps kind.Item = Unit {0}
IsPlainKind text ps kind.Paragraph = IsPlainLeaf text ps
IsPlainKind text ps (kind.Heading level braces) = IsPlainLeaf text ps
IsPlainKind text ps kind.Indented = Unit {0}
IsPlainKind text ps (kind.Fenced from to) = info_text_in All (bytes_between text from to) ≡ info_text_in Four (bytes_between text from to)
IsPlainKind text ps kind.Html = Unit {0}
IsPlainKind text ps kind.Rule = Unit {0}
IsPlainKind text ps k = ⊥

abbrev pub IsPlainBlock : List ℕ → List Piece → Block → Type 0
IsPlainBlock text pieces b = IsPlainKind text (pieces_of pieces b.first b.last) b.kind

-- a change of the nodes alone
nodes_changed : (s u : State) (f : List NodeView → List NodeView) → AreAlike s u → AreAlike (record s { nodes = f s.nodes }) (record u { nodes = f u.nodes })
nodes_changed s u f h = record { nodes = ap f h.nodes; one_written = h.one_written; two_written = h.two_written; one_missed = h.one_missed; two_missed = h.two_missed }

block_put : (text : List ℕ) (s u : State) (b : Block) → AreAlike s u → AreAlike (with_block text b s) (with_block text b u)
unfolding with_block
block_put text s u b h = nodes_changed s u (λ ns. (ns ++ block_node text b ∷ []) ++ task_nodes b.task (plus b.depth 1)) h

task_put : (s u : State) (b : Block) → AreAlike s u → AreAlike (with_task b s) (with_task b u)
unfolding with_task
task_put s u b h = nodes_changed s u (λ ns. ns ++ task_nodes b.task b.depth) h

lines_put : (text : List ℕ) (html : Bool) (s u : State) (b : Block) (ps : List Piece) → AreAlike s u → AreAlike (with_lines text html b ps s) (with_lines text html b ps u)
unfolding with_lines
lines_put text html s u b ps h = nodes_changed s u (λ ns. (ns ++ block_node text b ∷ []) ++ lines_nodes text html (plus b.depth 1) ps) h

rule_put : (s u : State) (b : Block) → AreAlike s u → AreAlike (with_rule b s) (with_rule b u)
unfolding with_rule
rule_put s u b h = nodes_changed s u (λ ns. ns ++ node b.depth (Given view.Rule) b.start b.end ∷ []) h

fence_put : (text : List ℕ) (from to : ℕ) (s u : State) (b : Block) (ps : List Piece) → info_text_in All (bytes_between text from to) ≡ info_text_in Four (bytes_between text from to) → AreAlike s u → AreAlike (with_fence_in All text from to b ps s) (with_fence_in Four text from to b ps u)
unfolding with_fence_in fence_node_in
fence_put text from to s u b ps e h =
    let made : List NodeView → List ℕ → List NodeView = λ ns info. (ns ++ node b.depth (Container (view.CodeBlock (view.Fenced info))) b.start b.end ∷ []) ++ lines_nodes text false (plus b.depth 1) ps in
    record {
      nodes = ap (λ ns. made ns (info_text_in All (bytes_between text from to))) h.nodes ∙ ap (made u.nodes) e;
      one_written = h.one_written;
      two_written = h.two_written;
      one_missed = h.one_missed;
      two_missed = h.two_missed;
    }

-- the inlines of a leaf

no_blanks : (ps : List Piece) → keeps_blanks commonmark ps ≡ false
unfolding keeps_blanks
no_blanks ps = refl

core_no_blanks : (ps : List Piece) → keeps_blanks CORE ps ≡ false
unfolding keeps_blanks
core_no_blanks ps = refl

-- what is found of parts after other nodes
abbrev found : inlines.State → List Node → List ℕ → inlines.State
found t ns texts = record t { nodes = t.nodes ++ ns; texts = texts }

one_found : (leaf : content.State) (parts : List Part) (d : ℕ) (find : List ℕ → Option Entry) (t : inlines.State) → leaf.bytes ≡ spelled parts → ArePlainParts 10 parts → length (spelled parts) + 2 < 2 ^ 64
    → inlines.read_inlines_in commonmark leaf d find t ≡ found t (map (w.moved leaf.places) (w.written (named_roles t.texts 0 parts) d)) (t.texts ++ kept_texts parts)
one_found leaf parts d find t e plain small =
    ap (λ (bytes : List ℕ). (let c : content.State = record { bytes = bytes; places = leaf.places } in inlines.read_inlines_in commonmark c d find t)) e
    ∙ named_inlines parts leaf.places d find t plain small

two_found : (leaf : content.State) (parts : List Part) (d : ℕ) (find : List ℕ → Option Entry) (t : inlines.State) → leaf.bytes ≡ spelled parts → ArePlainParts 10 parts → length (spelled parts) + 2 < 2 ^ 64
    → inlines.read_inlines_in CORE leaf d find t ≡ found t (map (w.moved leaf.places) (nodes_of d 0 None parts)) t.texts
two_found leaf parts d find t e plain small =
    let fits : length (spelled parts) < 2 ^ 64 = omega (arith, small) in
    ap (λ (bytes : List ℕ). (let c : content.State = record { bytes = bytes; places = leaf.places } in inlines.read_inlines_in CORE c d find t)) e
    ∙ parts_inlines_placed parts leaf.places d find t (plain_parts_are_read (spelled parts) [] (known (spelled parts)) find 0 10 parts refl refl fits refl plain) fits

leaf_is : (syntax : Syntax) (text : List ℕ) (find : List ℕ → Option Entry) (ps : List Piece) (d : ℕ) (s : State) (t : inlines.State) → keeps_blanks syntax ps ≡ false → inlines.read_inlines_in syntax (content.content_of text (map content_line ps)) d find s.inlines ≡ t → leaf_inlines_in syntax text find ps d s ≡ with_inlines t s
unfolding leaf_inlines_in
leaf_is syntax text find ps d s t plainly e =
    found_plainly syntax text ps (inlines.read_inlines_in syntax (content.content_of text (map content_line ps)) d find s.inlines) s plainly
    ∙ ap (λ (x : inlines.State). with_inlines x s) e

alike_by : (s s' u u' : State) → s ≡ s' → u ≡ u' → AreAlike s' u' → AreAlike s u
alike_by s s' u u' e f h = record {
  nodes = ap (λ (x : State). x.nodes) e ∙ h.nodes ∙ sym (ap (λ (x : State). x.nodes) f);
  one_written = ap (λ (x : State). x.inlines.nodes) e ∙ h.one_written;
  two_written = ap (λ (x : State). x.inlines.nodes) f ∙ h.two_written;
  one_missed = ap (λ (x : State). x.inlines.missed) e ∙ h.one_missed;
  two_missed = ap (λ (x : State). x.inlines.missed) f ∙ h.two_missed;
}

leaf_put : (text : List ℕ) (find other : List ℕ → Option Entry) (ps : List Piece) (d : ℕ) (s u : State) → IsPlainLeaf text ps → AreAlike s u → AreAlike (leaf_inlines_in commonmark text find ps d s) (leaf_inlines_in CORE text other ps d u)
leaf_put text find other ps d s u p h =
    let leaf : content.State = content.content_of text (map content_line ps) in
    let ns : List Node = map (w.moved leaf.places) (w.written (named_roles s.inlines.texts 0 p.parts) d) in
    let ms : List Node = map (w.moved leaf.places) (nodes_of d 0 None p.parts) in
    let texts : List ℕ = s.inlines.texts ++ kept_texts p.parts in
    let small : length (spelled p.parts) + 2 < 2 ^ 64 = p.small in
    let same : map (inline_node texts s.inlines.targets) ns ≡ map (inline_node u.inlines.texts u.inlines.targets) ms =
    nodes_alike s.inlines.texts u.inlines.texts s.inlines.targets u.inlines.targets p.parts leaf.places d (omega (arith, small))
    in
    alike_by
    (leaf_inlines_in commonmark text find ps d s)
    (with_inlines (found s.inlines ns texts) s)
    (leaf_inlines_in CORE text other ps d u)
    (with_inlines (found u.inlines ms u.inlines.texts) u)
    (leaf_is commonmark text find ps d s (found s.inlines ns texts) (no_blanks ps) (one_found leaf p.parts d find s.inlines p.bytes p.plain p.small))
    (leaf_is CORE text other ps d u (found u.inlines ms u.inlines.texts) (core_no_blanks ps) (two_found leaf p.parts d other u.inlines p.bytes p.plain p.small))
    (record {
      nodes =
          ap (λ (xs : List Node). s.nodes ++ map (inline_node texts s.inlines.targets) (xs ++ ns)) h.one_written
          ∙ ap (λ (vs : List NodeView). s.nodes ++ vs) same
          ∙ ap (λ (vs : List NodeView). vs ++ map (inline_node u.inlines.texts u.inlines.targets) ms) h.nodes
          ∙ ap (λ (xs : List Node). u.nodes ++ map (inline_node u.inlines.texts u.inlines.targets) (xs ++ ms)) (sym h.two_written);
      one_written = refl;
      two_written = refl;
      one_missed = h.one_missed;
      two_missed = h.two_missed;
    })

-- blocks

wrapped_put : (text : List ℕ) (find other : List ℕ → Option Entry) (ps : List Piece) (s u : State) (b : Block) → IsPlainLeaf text ps → AreAlike s u → AreAlike (wrapped_in commonmark text find ps b s) (wrapped_in CORE text other ps b u)
unfolding wrapped_in
wrapped_put text find other ps s u b p h = leaf_put text find other ps (plus b.depth 1) (with_block text b s) (with_block text b u) p (block_put text s u b h)

bare_put : (text : List ℕ) (find other : List ℕ → Option Entry) (ps : List Piece) (s u : State) (b : Block) → IsPlainLeaf text ps → AreAlike s u → AreAlike (bare_in commonmark text find ps b s) (bare_in CORE text other ps b u)
unfolding bare_in
bare_put text find other ps s u b p h = leaf_put text find other ps b.depth (with_task b s) (with_task b u) p (task_put s u b h)

paragraph_put : (text : List ℕ) (find other : List ℕ → Option Entry) (ps : List Piece) (tight : Bool) (s u : State) (b : Block) → IsPlainLeaf text ps → AreAlike s u → AreAlike (paragraph_taken_in commonmark text find ps tight b s) (paragraph_taken_in CORE text other ps tight b u)
unfolding paragraph_taken_in
paragraph_put text find other ps tight s u b p h = by (nat_le b.last b.first) tight
  where
    by : (none t : Bool) → AreAlike (if none then s else (if t then bare_in commonmark text find ps b s else wrapped_in commonmark text find ps b s)) (if none then u else (if t then bare_in CORE text other ps b u else wrapped_in CORE text other ps b u))
    by true t = h
    by false true = bare_put text find other ps s u b p h
    by false false = wrapped_put text find other ps s u b p h

kind_put : (text : List ℕ) (find other : List ℕ → Option Entry) (ps : List Piece) (tight : Bool) (s u : State) (b : Block) (k : BlockKind) → IsPlainKind text ps k → AreAlike s u → AreAlike (taken_as_in commonmark k text find ps tight b s) (taken_as_in CORE k text other ps tight b u)
kind_put text find other ps tight s u b (kind.Quote k) p h = block_put text s u b h
kind_put text find other ps tight s u b (kind.List first) p h = block_put text s u b h
kind_put text find other ps tight s u b kind.Item p h = block_put text s u b h
kind_put text find other ps tight s u b kind.Paragraph p h = paragraph_put text find other ps tight s u b p h
kind_put text find other ps tight s u b (kind.Heading level braces) p h = wrapped_put text find other ps s u b p h
kind_put text find other ps tight s u b kind.Indented p h = lines_put text false s u b ps h
kind_put text find other ps tight s u b (kind.Fenced from to) p h = fence_put text from to s u b ps p h
kind_put text find other ps tight s u b kind.Html p h = lines_put text true s u b ps h
kind_put text find other ps tight s u b kind.Rule p h = rule_put s u b h
kind_put text find other ps tight s u b (kind.Metadata x) p h = absurd p
kind_put text find other ps tight s u b (kind.Footnote x y) p h = absurd p
kind_put text find other ps tight s u b (kind.Table x y) p h = absurd p
kind_put text find other ps tight s u b kind.TableHead p h = absurd p
kind_put text find other ps tight s u b kind.TableRow p h = absurd p
kind_put text find other ps tight s u b kind.TableCell p h = absurd p
kind_put text find other ps tight s u b kind.DefinitionList p h = absurd p
kind_put text find other ps tight s u b kind.DefinitionListTitle p h = absurd p
kind_put text find other ps tight s u b kind.DefinitionListDefinition p h = absurd p

one_put : (text : List ℕ) (find other : List ℕ → Option Entry) (all : List Block) (pieces : List Piece) (s u : State) (b : Block) → IsPlainBlock text pieces b → AreAlike s u → AreAlike (block_step_in commonmark text find all pieces s b) (block_step_in CORE text other all pieces u b)
unfolding block_taken_in
one_put text find other all pieces s u b p h = kind_put text find other (pieces_of pieces b.first b.last) (is_unwrapped all b) s u b b.kind p h

-- blocks one after the other
pub all_put : (text : List ℕ) (find other : List ℕ → Option Entry) (all : List Block) (pieces : List Piece) (bs : List Block) (s u : State) → AllByRecursion (IsPlainBlock text pieces) bs → AreAlike s u → AreAlike (fold (block_step_in commonmark text find all pieces) s bs) (fold (block_step_in CORE text other all pieces) u bs)
all_put text find other all pieces [] s u p h = h
all_put text find other all pieces (b ∷ bs) s u p h =
    all_put text find other all pieces bs (block_step_in commonmark text find all pieces s b) (block_step_in CORE text other all pieces u b) (p.1) (one_put text find other all pieces s u b (p.0) h)
