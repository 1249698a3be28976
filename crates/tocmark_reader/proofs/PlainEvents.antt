-- The events of the nodes of parts that are read as they are meant, and what these are when they are merged.
use Rattle.std.proofs.Common.{◌≡◌, ℕ, suc, ◌+◌, List, [], ◌∷◌, ◌++◌, length, map, Option, Some, None, encode_utf8, refl, ap, sym, ◌∙◌, append_assoc, append-nil}
use Rattle.std.proofs.lemmas.List.{map-append}
use Rattle.std.specs.List.{fold}
use Rattle.std.proofs.lemmas.List.Sums.{fold-append}
use Rattle.tocmark_event.proofs.Merging.{after_text-twice}
use Rattle.tocmark_event.specs.Merged.{merged, after_text, with_text}
use Rattle.tocmark_event.specs.View.{EventView, Leaf, LeafView, Text, SoftBreak}
use Rattle.tocmark_read_spans.specs.declared.role.Leaf.TheVariants as leaf
use Rattle.tocmark_read_inlines.specs.declared.write.Node.{Node}
use Rattle.tocmark_read_inlines.specs.declared.write.InlineKind.TheVariants as item
use Rattle.tocmark_read_inlines.proofs.PlainNodes.{node, nodes_of, text_until, begun}
use Rattle.tocmark_reader.specs.Emitted.{NodeView, Given, Writing, step, source_text}
use Rattle.tocmark_reader.specs.Inlines.{inline_node, inline_item, leaf_of}
use Rattle.tocmark_reader.specs.Range.{snapped}
use Rattle.tocmark_reader.specs.declared.emit.Open.{Open}
use Rattle.tocmark_read_scan.specs.PlainParts.{Part, Bare, Escaped, Referred, Feed}

abbrev pub Marked : Type 0
Marked = EventView × (ℕ × ℕ)

-- the text of a range
abbrev pub source_of : List ℕ → ℕ → ℕ → List ℕ
source_of text start end = source_text text (snapped text start end)

abbrev pub leaf_event : List ℕ → LeafView → ℕ → ℕ → Marked
leaf_event text l start end = (Leaf l, snapped text start end)

abbrev pub text_event : List ℕ → Option ℕ → ℕ → List Marked
text_event text None p = []
text_event text (Some start) p = leaf_event text (Text (source_of text start p)) start p ∷ []

-- the events of parts from a place on, where a text may be open
abbrev pub events_of : List ℕ → ℕ → Option ℕ → List Part → List Marked
events_of text p o [] = text_event text o p
events_of text p o (Bare b ∷ parts) = events_of text (p + 1) (Some (begun o p)) parts
events_of text p o (Escaped b ∷ parts) = text_event text o p ++ events_of text (p + 2) (Some (p + 1)) parts
events_of text p o (Referred c bs ∷ parts) = text_event text o p ++ leaf_event text (Text (encode_utf8 c)) p (p + 1 + length bs) ∷ events_of text (p + suc (length bs)) None parts
events_of text p o (Feed ∷ parts) = text_event text o p ++ leaf_event text SoftBreak p (p + 1) ∷ events_of text (p + 1) None parts

abbrev pub at : List Marked → Open → Writing
at es o = record { events = es; stack = o ∷ [] }

abbrev pub viewed : List Node → List NodeView
viewed ns = map (inline_node [] []) ns

emit_leaf : (text : List ℕ) (es : List Marked) (k : Open) (l : LeafView) (start end : ℕ) → step text (at es k) (record { depth = 1; item = Given l; start = start; end = end }) ≡ at (es ++ leaf_event text l start end ∷ []) k
emit_leaf text es k l start end = ap (λ (x : List Marked). at (x ++ leaf_event text l start end ∷ []) k) (append-nil es)

emit_text : (text : List ℕ) (es : List Marked) (k : Open) (o : Option ℕ) (p : ℕ) → fold (step text) (at es k) (viewed (text_until 1 o p)) ≡ at (es ++ text_event text o p) k
unfolding inline_node inline_item
emit_text text es k None p = ap (λ (x : List Marked). at x k) (sym (append-nil es))
emit_text text es k (Some start) p = ap (λ (x : List Marked). at (x ++ text_event text (Some start) p) k) (append-nil es)

emit_until : (text : List ℕ) (es : List Marked) (k : Open) (o : Option ℕ) (p : ℕ) (ns : List Node) (more : List Marked) → fold (step text) (at (es ++ text_event text o p) k) (viewed ns) ≡ at ((es ++ text_event text o p) ++ more) k → fold (step text) (at es k) (viewed (text_until 1 o p ++ ns)) ≡ at (es ++ (text_event text o p ++ more)) k
emit_until text es k o p ns more h =
    ap (λ (x : List NodeView). fold (step text) (at es k) x) (map-append (inline_node [] []) (text_until 1 o p) ns)
    ∙ fold-append (step text) (at es k) (viewed (text_until 1 o p)) (viewed ns)
    ∙ ap (λ (u : Writing). fold (step text) u (viewed ns)) (emit_text text es k o p)
    ∙ h
    ∙ ap (λ (x : List Marked). at x k) (append_assoc es (text_event text o p) more)

emit_character : (text : List ℕ) (es : List Marked) (k : Open) (c start end : ℕ) (ns : List Node) (more : List Marked) → fold (step text) (at (es ++ leaf_event text (Text (encode_utf8 c)) start end ∷ []) k) (viewed ns) ≡ at ((es ++ leaf_event text (Text (encode_utf8 c)) start end ∷ []) ++ more) k → fold (step text) (at es k) (viewed (node 1 (item.Leaf (leaf.Character c)) start end ∷ ns)) ≡ at (es ++ leaf_event text (Text (encode_utf8 c)) start end ∷ more) k
unfolding inline_node inline_item leaf_of
emit_character text es k c start end ns more h =
    ap (λ (u : Writing). fold (step text) u (viewed ns)) (emit_leaf text es k (Text (encode_utf8 c)) start end)
    ∙ h ∙ ap (λ (x : List Marked). at x k) (append_assoc es (leaf_event text (Text (encode_utf8 c)) start end ∷ []) more)

emit_break : (text : List ℕ) (es : List Marked) (k : Open) (start end : ℕ) (ns : List Node) (more : List Marked) → fold (step text) (at (es ++ leaf_event text SoftBreak start end ∷ []) k) (viewed ns) ≡ at ((es ++ leaf_event text SoftBreak start end ∷ []) ++ more) k → fold (step text) (at es k) (viewed (node 1 (item.Leaf leaf.SoftBreak) start end ∷ ns)) ≡ at (es ++ leaf_event text SoftBreak start end ∷ more) k
unfolding inline_node inline_item leaf_of
emit_break text es k start end ns more h =
    ap (λ (u : Writing). fold (step text) u (viewed ns)) (emit_leaf text es k SoftBreak start end)
    ∙ h ∙ ap (λ (x : List Marked). at x k) (append_assoc es (leaf_event text SoftBreak start end ∷ []) more)

-- the events of the nodes of parts, in one open container
pub emit_parts : (text : List ℕ) (es : List Marked) (k : Open) (p : ℕ) (o : Option ℕ) (parts : List Part) → fold (step text) (at es k) (viewed (nodes_of 1 p o parts)) ≡ at (es ++ events_of text p o parts) k
emit_parts text es k p o [] = emit_text text es k o p
emit_parts text es k p o (Bare b ∷ parts) = emit_parts text es k (p + 1) (Some (begun o p)) parts
emit_parts text es k p o (Escaped b ∷ parts) = emit_until text es k o p _ _ (emit_parts text (es ++ text_event text o p) k (p + 2) (Some (p + 1)) parts)
emit_parts text es k p o (Referred c bs ∷ parts) = emit_until text es k o p _ _ (emit_character text (es ++ text_event text o p) k c p (p + 1 + length bs) (nodes_of 1 (p + suc (length bs)) None parts) _ (emit_parts text ((es ++ text_event text o p) ++ leaf_event text (Text (encode_utf8 c)) p (p + 1 + length bs) ∷ []) k (p + suc (length bs)) None parts))
emit_parts text es k p o (Feed ∷ parts) = emit_until text es k o p _ _ (emit_break text (es ++ text_event text o p) k p (p + 1) (nodes_of 1 (p + 1) None parts) _ (emit_parts text ((es ++ text_event text o p) ++ leaf_event text SoftBreak p (p + 1) ∷ []) k (p + 1) None parts))

-- what parts mean, one event a part
abbrev pub said : List Part → List EventView
said [] = []
said (Bare b ∷ parts) = Leaf (Text (b ∷ [])) ∷ said parts
said (Escaped b ∷ parts) = Leaf (Text (b ∷ [])) ∷ said parts
said (Referred c bs ∷ parts) = Leaf (Text (encode_utf8 c)) ∷ said parts
said (Feed ∷ parts) = Leaf SoftBreak ∷ said parts

-- the source says at each place what the parts are
abbrev pub AreSourced : (ℕ → ℕ → List ℕ) → ℕ → Option ℕ → List Part → Type 0
AreSourced src p o [] = Unit {0}
AreSourced src p None (Bare b ∷ parts) = (src p (p + 1) ≡ b ∷ []) × AreSourced src (p + 1) (Some p) parts
AreSourced src p (Some start) (Bare b ∷ parts) = (src start (p + 1) ≡ src start p ++ b ∷ []) × AreSourced src (p + 1) (Some start) parts
AreSourced src p o (Escaped b ∷ parts) = (src (p + 1) (p + 2) ≡ b ∷ []) × AreSourced src (p + 2) (Some (p + 1)) parts
AreSourced src p o (Referred c bs ∷ parts) = AreSourced src (p + suc (length bs)) None parts
AreSourced src p o (Feed ∷ parts) = AreSourced src (p + 1) None parts

abbrev pub open_text : (ℕ → ℕ → List ℕ) → Option ℕ → ℕ → Option (List ℕ)
open_text src None p = None
open_text src (Some start) p = Some (src start p)

abbrev pub unplaced : List Marked → List EventView
unplaced es = map (λ e. e.0) es

merged_until : (text : List ℕ) (o : Option ℕ) (p : ℕ) (es : List Marked) → merged (unplaced (text_event text o p ++ es)) ≡ with_text (open_text (source_of text) o p) (merged (unplaced es))
merged_until text None p es = refl
merged_until text (Some start) p es = refl

-- merged, the events of parts are what the parts mean, after the text that is open
pub merged_parts : (text : List ℕ) (p : ℕ) (o : Option ℕ) (parts : List Part) → AreSourced (source_of text) p o parts → merged (unplaced (events_of text p o parts)) ≡ with_text (open_text (source_of text) o p) (merged (said parts))
merged_parts text p None [] h = refl
merged_parts text p (Some start) [] h = refl
merged_parts text p None (Bare b ∷ parts) h = merged_parts text (p + 1) (Some p) parts (h.1) ∙ ap (λ t. after_text t (merged (said parts))) (h.0)
merged_parts text p (Some start) (Bare b ∷ parts) h =
    merged_parts text (p + 1) (Some start) parts (h.1)
    ∙ ap (λ t. after_text t (merged (said parts))) (h.0)
    ∙ sym (after_text-twice (source_of text start p) (b ∷ []) (merged (said parts)))
merged_parts text p o (Escaped b ∷ parts) h =
    merged_until text o p (events_of text (p + 2) (Some (p + 1)) parts)
    ∙ ap (with_text (open_text (source_of text) o p)) (merged_parts text (p + 2) (Some (p + 1)) parts (h.1) ∙ ap (λ t. after_text t (merged (said parts))) (h.0))
merged_parts text p o (Referred c bs ∷ parts) h =
    merged_until text o p (leaf_event text (Text (encode_utf8 c)) p (p + 1 + length bs) ∷ events_of text (p + suc (length bs)) None parts)
    ∙ ap (λ m. with_text (open_text (source_of text) o p) (after_text (encode_utf8 c) m)) (merged_parts text (p + suc (length bs)) None parts h)
merged_parts text p o (Feed ∷ parts) h =
    merged_until text o p (leaf_event text SoftBreak p (p + 1) ∷ events_of text (p + 1) None parts)
    ∙ ap (λ m. with_text (open_text (source_of text) o p) (Leaf SoftBreak ∷ m)) (merged_parts text (p + 1) None parts h)
