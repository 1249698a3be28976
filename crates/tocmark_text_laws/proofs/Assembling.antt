-- The nodes of the blocks of a text are where they may be.
use Rattle.std.proofs.Common.{◌≡◌, ℕ, zero, suc, ◌+◌, ◌-◌, ◌^◌, ◌<◌, ◌≤◌, not, ◌||◌, Bool, true, false, if◌then◌else◌, nat_lt, nat_le, List, [], ◌∷◌, ◌++◌, length, map, take, reverse, refl, ap, sym, ◌∙◌, subst, arith, append_assoc, true≢false, length-append, length-take}
use Rattle.std.specs.Prelude.{min, Option, Some, None}
use Rattle.std.specs.List.{AllByRecursion, fold, list_any}
use Rattle.std.proofs.lemmas.Bool.Decides.{nat_tests}
use Rattle.std.proofs.lemmas.List.{map-append, reverse-append}
use Rattle.tocmark_event.specs.View as view
use Rattle.tocmark_event.specs.View.{TagView}
use Rattle.tocmark_read_scan.specs.Basic.{plus}
use Rattle.tocmark_read_scan.specs.Content as content
use Rattle.tocmark_read_scan.specs.declared.syntax.TheConstants.{CORE}
use Rattle.tocmark_read_page.specs.declared.page.Block.{Block}
use Rattle.tocmark_read_page.specs.declared.page.BlockKind.{BlockKind}
use Rattle.tocmark_read_page.specs.declared.page.BlockKind.TheVariants as kind
use Rattle.tocmark_read_page.specs.declared.page.Task.{Task}
use Rattle.tocmark_read_page.specs.declared.piece.Piece.{Piece}
use Rattle.tocmark_read_blocks.specs.Blocks.{BlocksView, blocks_in}
use Rattle.tocmark_read_inlines.specs.Inlines as inlines
use Rattle.tocmark_read_inlines.specs.Scan as scan
use Rattle.tocmark_read_inlines.specs.Write.{moved, written}
use Rattle.tocmark_read_inlines.specs.declared.write.InlineKind.{InlineKind}
use Rattle.tocmark_read_inlines.specs.declared.write.InlineKind.TheVariants as item
use Rattle.tocmark_read_inlines.specs.declared.write.Node.{Node}
use Rattle.tocmark_read_spans.specs.declared.definitions.Entry.{Entry}
use Rattle.tocmark_read_spans.specs.declared.role.Role.TheVariants.{Plain}
use Rattle.tocmark_read_spans.specs.declared.role.Span.{Span}
use Rattle.tocmark_read_spans.specs.declared.role.Span.TheVariants as span
use Rattle.tocmark_read_spans.specs.declared.role.Target.{Target}
use Rattle.tocmark_reader.specs.Emitted.{ItemView, Container, Source, Given, NodeView}
use Rattle.tocmark_reader.specs.Formulas.{keeps_blanks}
use Rattle.tocmark_reader.specs.Inlines.{span_tag, link_of, image_of, inline_item, inline_node}
use Rattle.tocmark_reader.specs.Pages.{State, content_line, pieces_of, space_nodes, line_item, line_nodes, lines_nodes, block_tag, is_unwrapped, block_node, with_lines_of, leaf_inlines_in, task_nodes, with_block, with_task, bare_in, with_lines, fence_node_in, with_fence_in, with_rule, wrapped_in, paragraph_taken_in, taken_as_in, block_taken_in, block_step_in, start_state}
use Rattle.tocmark_reader.specs.Words.{spaces_text}
use Rattle.tocmark_reader.specs.Reading.{collected_from, first_entry, found_under, reading_of}
use Rattle.tocmark_text_laws.specs.Housed.{is_list, is_item, is_container, is_known, is_in_list, IsHoused, AreHoused}
use Rattle.tocmark_text_laws.specs.Proper.{is_heading_tag, is_list_tag, directly_in, is_refused_in, IsCounted, ReadingsAreProper}
use Rattle.tocmark_text_laws.proofs.Alls.{all_both}
use Rattle.tocmark_text_laws.proofs.RoleCounts.{copies, roles_count}
use Rattle.tocmark_text_laws.proofs.Walks.{Safe}
use Rattle.tocmark_text_laws.proofs.Steps.{scanned_safe}
use Rattle.tocmark_text_laws.proofs.Inner.{Deep, written_deep, moved_deep, copies_plain}
use Rattle.tocmark_text_laws.proofs.HouseWalk.{blocks_housed}
use Rattle.tocmark_text_laws.proofs.Emitting.{after, Allowed, final, Placed, placed_both, final_both, events_proper}

take_take : {A : Type 0} (d m : ℕ) (xs : List A) → d ≤ m → take d (take m xs) ≡ take d xs
take_take zero m xs l = refl
take_take (suc d) zero xs l = absurd (omega arith)
take_take (suc d) (suc m) [] l = refl
take_take (suc d) (suc m) (x ∷ xs) l = ap (λ ys. x ∷ ys) (take_take d m xs (omega arith))

take_front : {A : Type 0} (d : ℕ) (xs ys : List A) → d ≤ length xs → take d (xs ++ ys) ≡ take d xs
take_front zero xs ys l = refl
take_front (suc d) [] ys l = absurd (omega arith)
take_front (suc d) (x ∷ xs) ys l = ap (λ zs. x ∷ zs) (take_front d xs ys (omega arith))

take_whole : {A : Type 0} (d : ℕ) (xs : List A) → length xs ≤ d → take d xs ≡ xs
take_whole zero [] l = refl
take_whole zero (x ∷ xs) l = absurd (omega arith)
take_whole (suc d) [] l = refl
take_whole (suc d) (x ∷ xs) l = ap (λ zs. x ∷ zs) (take_whole d xs (omega arith))

taken_length : {A : Type 0} (d : ℕ) (xs : List A) → d ≤ length xs → length (take d xs) ≡ d
taken_length d xs l = let q : length (take d xs) ≡ min d (length xs) = length-take d xs in omega arith

-- items that may be in all containers
abbrev Free : ItemView → Type 0
Free (Container tag) = (ts : List TagView) → is_refused_in tag ts ≡ false
Free Source = Unit
Free (Given leaf) = Unit

-- nodes that are so, from a depth on
abbrev Nested : ℕ → List NodeView → Type 0
Nested d ns = AllByRecursion (λ (n : NodeView). (d ≤ n.depth) × Free n.item) ns

-- the first containers stay open
abbrev Kept : ℕ → List TagView → List TagView → Type 0
Kept d ts us = (d ≤ length us) × (take d us ≡ take d ts)

after_kept : (d m : ℕ) (ts : List TagView) (i : ItemView) → d ≤ m → d ≤ length ts → Kept d ts (after (take m ts) i)
after_kept d m ts i l k = by i
  where
    size : length (take m ts) ≡ min m (length ts)
    size = length-take m ts

    by : (i : ItemView) → Kept d ts (after (take m ts) i)
    by (Container tag) = ((let q : length (take m ts ++ tag ∷ []) ≡ length (take m ts) + 1 = length-append (take m ts) (tag ∷ []) in omega (arith, size)), take_front d (take m ts) (tag ∷ []) (omega (arith, size)) ∙ take_take d m ts l)
    by Source = (omega (arith, size), take_take d m ts l)
    by (Given leaf) = (omega (arith, size), take_take d m ts l)

free_allowed : (ts : List TagView) (i : ItemView) → Free i → Allowed ts i
free_allowed ts (Container tag) f = f (reverse ts)
free_allowed ts Source f = tt
free_allowed ts (Given leaf) f = tt

nested_kept : (d : ℕ) (ts : List TagView) (ns : List NodeView) → d ≤ length ts → Nested d ns → Placed ts ns × Kept d ts (final ts ns)
nested_kept d ts [] l h = (tt, (l, refl))
nested_kept d ts (n ∷ ns) l h = by (after_kept d n.depth ts n.item ((h.0).0) l) (λ k. nested_kept d (after (take n.depth ts) n.item) ns k (h.1))
  where
    by : Kept d ts (after (take n.depth ts) n.item) → (d ≤ length (after (take n.depth ts) n.item) → Placed (after (take n.depth ts) n.item) ns × Kept d (after (take n.depth ts) n.item) (final (after (take n.depth ts) n.item) ns)) → Placed ts (n ∷ ns) × Kept d ts (final ts (n ∷ ns))
    by (a, b) f = let w : Placed (after (take n.depth ts) n.item) ns × Kept d (after (take n.depth ts) n.item) (final (after (take n.depth ts) n.item) ns) = f a in ((free_allowed (take n.depth ts) n.item ((h.0).1), w.0), ((w.1).0, (w.1).1 ∙ b))

-- a container and nodes in it
abbrev Holds : ℕ → TagView → List TagView → List NodeView → Type 0
Holds d tag ts ns = Placed ts ns × Kept d ts (final ts ns) × (suc d ≤ length (final ts ns)) × (take (suc d) (final ts ns) ≡ take d ts ++ tag ∷ [])

holds : (d a b : ℕ) (tag : TagView) (ts : List TagView) (ns : List NodeView) → d ≤ length ts → is_refused_in tag (reverse (take d ts)) ≡ false → Nested (suc d) ns → Holds d tag ts (record { depth = d; item = Container tag; start = a; end = b } ∷ ns)
holds d a b tag ts ns l e h = by (nested_kept (suc d) us ns (omega (arith, size)) h)
  where
    us : List TagView
    us = take d ts ++ tag ∷ []

    front : length (take d ts) ≡ d
    front = taken_length d ts l

    size : length us ≡ suc d
    size = length-append (take d ts) (tag ∷ []) ∙ (let q : length (take d ts) ≡ d = front in omega arith)

    by : Placed us ns × Kept (suc d) us (final us ns) → Holds d tag ts (record { depth = d; item = Container tag; start = a; end = b } ∷ ns)
    by (p, (m, q)) = (
      (e, p),
      (omega arith, sym (take_take d (suc d) (final us ns) (omega arith)) ∙ ap (take d) (q ∙ take_whole (suc d) us (omega (arith, size))) ∙ take_front d (take d ts) (tag ∷ []) (omega (arith, front)) ∙ take_take d d ts (omega arith)),
      m,
      q ∙ take_whole (suc d) us (omega (arith, size)),
    )

-- the containers that are open are those of the blocks
abbrev Tags : List ℕ → List BlockKind → List TagView → Type 0
Tags t ks ts = (e : ℕ) → e ≤ length ks → AllByRecursion (λ c. is_container c ≡ true) (take e ks) → (e ≤ length ts) × (take e ts ≡ map (block_tag t) (take e ks))

last_all : (ks : List BlockKind) (k : BlockKind) → AllByRecursion (λ c. is_container c ≡ true) (ks ++ k ∷ []) → is_container k ≡ true
last_all [] k h = h.0
last_all (j ∷ js) k h = last_all js k (h.1)

front_all : (d : ℕ) (ks zs : List BlockKind) → d ≤ length ks → AllByRecursion (λ c. is_container c ≡ true) (take d (ks ++ zs)) → AllByRecursion (λ c. is_container c ≡ true) (take d ks)
front_all d ks zs l h = subst (AllByRecursion (λ c. is_container c ≡ true)) (take_front d ks zs l) h

-- what a block leaves
abbrev Leaves : List ℕ → BlockKind → ℕ → List TagView → List TagView → Type 0
Leaves t k d ts us = Kept d ts us × (is_container k ≡ true → (suc d ≤ length us) × (take (suc d) us ≡ take d ts ++ block_tag t k ∷ []))

tags_next : (t : List ℕ) (ks : List BlockKind) (k : BlockKind) (d : ℕ) (ts us : List TagView) → d ≤ length ks → AllByRecursion (λ c. is_container c ≡ true) (take d ks) → Tags t ks ts → Leaves t k d ts us → Tags t (take d ks ++ k ∷ []) us
tags_next t ks k d ts us l held h ((m, q), f) e n all = by (nat_le e d) refl
  where
    front : length (take d ks) ≡ d
    front = taken_length d ks l

    whole : length (take d ks ++ k ∷ []) ≡ suc d
    whole = length-append (take d ks) (k ∷ []) ∙ (let q : length (take d ks) ≡ d = front in omega arith)

    Says : Type 0
    Says = (e ≤ length us) × (take e us ≡ map (block_tag t) (take e (take d ks ++ k ∷ [])))

    same : e ≤ d → take e (take d ks ++ k ∷ []) ≡ take e ks
    same x = take_front e (take d ks) (k ∷ []) (omega (arith, front)) ∙ take_take e d ks x

    below : e ≤ d → (e ≤ length ts) × (take e ts ≡ map (block_tag t) (take e ks)) → Says
    below x (a, b) = (omega arith, sym (take_take e d us x) ∙ ap (take e) q ∙ take_take e d ts x ∙ b ∙ ap (map (block_tag t)) (sym (same x)))

    above : e ≡ suc d → Says
    above x = inside (f (last_all (take d ks) k (subst (AllByRecursion (λ c. is_container c ≡ true)) (take_whole e (take d ks ++ k ∷ []) (omega (arith, whole))) all))) (h d l held)
      where
        inside : (suc d ≤ length us) × (take (suc d) us ≡ take d ts ++ block_tag t k ∷ []) → (d ≤ length ts) × (take d ts ≡ map (block_tag t) (take d ks)) → Says
        inside (a, b) (i, j) = (omega arith, ap (λ z. take z us) x ∙ b ∙ ap (λ zs. zs ++ block_tag t k ∷ []) j ∙ sym (map-append (block_tag t) (take d ks) (k ∷ [])) ∙ ap (map (block_tag t)) (sym (take_whole e (take d ks ++ k ∷ []) (omega (arith, whole)))))

    by : (b : Bool) → nat_le e d ≡ b → Says
    by true w = let x : e ≤ d = grind (arith, nat_tests) in below x (h e (omega arith) (subst (AllByRecursion (λ c. is_container c ≡ true)) (same x) all))
    by false w = let x : d < e = grind (arith, nat_tests) in above (omega (arith, whole))

-- where the block's container may be
abbrev directly_or : Bool → List TagView → Bool
directly_or w [] = w
directly_or w (t ∷ ts) = is_list_tag t

directly_more : (w : Bool) (xs : List TagView) (y : TagView) → directly_or w (xs ++ y ∷ []) ≡ directly_or (is_list_tag y) xs
directly_more w [] y = refl
directly_more w (x ∷ xs) y = refl

directly_same : (xs : List TagView) → directly_in is_list_tag xs ≡ directly_or false xs
directly_same [] = refl
directly_same (x ∷ xs) = refl

tag_list : (t : List ℕ) (k : BlockKind) → is_container k ≡ true → (is_list_tag (block_tag t k) ≡ is_list k) × (is_heading_tag (block_tag t k) ≡ false)
unfolding block_tag
tag_list t (kind.Quote k) e = (refl, refl)
tag_list t (kind.List first) e = (refl, refl)
tag_list t kind.Item e = (refl, refl)
tag_list t k e = absurd cc

reversed : (x : TagView) (xs : List TagView) → reverse (x ∷ xs) ≡ reverse xs ++ x ∷ []
reversed x xs = reverse-append (x ∷ []) xs

tags_directly : (t : List ℕ) (w : Bool) (ks : List BlockKind) → AllByRecursion (λ c. is_container c ≡ true) ks → directly_or w (reverse (map (block_tag t) ks)) ≡ is_in_list w ks
tags_directly t w [] h = refl
tags_directly t w (k ∷ ks) h = ap (directly_or w) (reversed (block_tag t k) (map (block_tag t) ks)) ∙ directly_more w (reverse (map (block_tag t) ks)) (block_tag t k) ∙ ap (λ b. directly_or b (reverse (map (block_tag t) ks))) ((tag_list t k (h.0)).0) ∙ tags_directly t (is_list k) ks (h.1)

any_both : (xs : List TagView) (y : TagView) → list_any is_heading_tag xs ≡ false → is_heading_tag y ≡ false → list_any is_heading_tag (xs ++ y ∷ []) ≡ false
any_both [] y h e = ap (λ b. b || false) e
any_both (x ∷ xs) y h e = by (is_heading_tag x) h (λ k. any_both xs y k e)
  where
    by : (b : Bool) → b || list_any is_heading_tag xs ≡ false → (list_any is_heading_tag xs ≡ false → list_any is_heading_tag (xs ++ y ∷ []) ≡ false) → b || list_any is_heading_tag (xs ++ y ∷ []) ≡ false
    by true k f = absurd (true≢false k)
    by false k f = f k

tags_headless : (t : List ℕ) (ks : List BlockKind) → AllByRecursion (λ c. is_container c ≡ true) ks → list_any is_heading_tag (reverse (map (block_tag t) ks)) ≡ false
tags_headless t [] h = refl
tags_headless t (k ∷ ks) h = ap (list_any is_heading_tag) (reversed (block_tag t k) (map (block_tag t) ks)) ∙ any_both (reverse (map (block_tag t) ks)) (block_tag t k) (tags_headless t ks (h.1)) ((tag_list t k (h.0)).1)

block_allowed : (t : List ℕ) (before : List BlockKind) (d : ℕ) (k : BlockKind) (ts : List TagView) → IsHoused before d k → Tags t before ts → is_refused_in (block_tag t k) (reverse (take d ts)) ≡ false
unfolding block_tag
block_allowed t before d k ts h g = subst (λ xs. is_refused_in (block_tag t k) (reverse xs) ≡ false) (sym ((g d h.deep h.held).1)) (by k h.known h.listed)
  where
    outer : List TagView
    outer = reverse (map (block_tag t) (take d before))

    by : (k : BlockKind) → is_known k ≡ true → is_item k ≡ is_in_list false (take d before) → is_refused_in (block_tag t k) outer ≡ false
    by (kind.Quote None) e w = refl
    by (kind.List first) e w = refl
    by kind.Item e w = ap not (directly_same outer ∙ tags_directly t false (take d before) h.held ∙ sym w)
    by kind.Paragraph e w = refl
    by (kind.Heading level None) e w = tags_headless t (take d before) h.held
    by kind.Indented e w = refl
    by (kind.Fenced from to) e w = refl
    by kind.Html e w = refl
    by kind.Rule e w = refl
    by k e w = absurd cc

-- nodes beside those of blocks
span_free : (texts : List ℕ) (targets : List Target) (s : Span) (ts : List TagView) → is_refused_in (span_tag texts targets s) ts ≡ false
unfolding span_tag link_of image_of
span_free texts targets span.Emphasis ts = refl
span_free texts targets span.Strong ts = refl
span_free texts targets span.Strikethrough ts = refl
span_free texts targets (span.Link place) ts = refl
span_free texts targets (span.Image place) ts = refl
span_free texts targets span.Subscript ts = refl
span_free texts targets span.Superscript ts = refl

inlines_nested : (d : ℕ) (texts : List ℕ) (targets : List Target) (ns : List Node) → Deep d ns → Nested d (map (inline_node texts targets) ns)
unfolding inline_node inline_item
inlines_nested d texts targets [] h = tt
inlines_nested d texts targets (n ∷ ns) h = ((h.0, by n.item), inlines_nested d texts targets ns (h.1))
  where
    by : (i : InlineKind) → Free (inline_item texts targets i)
    by item.Text = tt
    by (item.Span s) = λ ts. span_free texts targets s ts
    by (item.Leaf l) = tt

task_nested : (d e : ℕ) (o : Option Task) → d ≤ e → Nested d (task_nodes o e)
unfolding task_nodes
task_nested d e None l = tt
task_nested d e (Some x) l = ((l, tt), tt)

line_nested : (d e : ℕ) (t : List ℕ) (html : Bool) (ps : List Piece) → d ≤ e → Nested d (lines_nodes t html e ps)
unfolding line_nodes space_nodes line_item
line_nested d e t html [] l = tt
line_nested d e t html (p ∷ ps) l = all_both (λ (n : NodeView). (d ≤ n.depth) × Free n.item) (line_nodes t html e p) (lines_nodes t html e ps) (all_both (λ (n : NodeView). (d ≤ n.depth) × Free n.item) (space_nodes e p) _ (spaces (nat_lt 0 p.spaces)) (words (nat_lt p.start p.next) html)) (line_nested d e t html ps l)
  where
    spaces : (b : Bool) → Nested d (if b then record { depth = e; item = Given (view.Text (spaces_text p.spaces)); start = p.start - 1; end = p.start } ∷ [] else [])
    spaces true = ((l, tt), tt)
    spaces false = tt

    words : (b h : Bool) → Nested d (if b then record { depth = e; item = line_item t h p; start = p.start; end = p.next } ∷ [] else [])
    words true true = ((l, tt), tt)
    words true false = ((l, tt), tt)
    words false h = tt

-- the inlines of a leaf come after the nodes so far
abbrev Adds : ℕ → State → State → Type 0
Adds d s u = (ns : List NodeView) × (u.nodes ≡ s.nodes ++ ns) × Nested d ns × (u.inlines.nodes ≡ [])

leaf_adds : (t : List ℕ) (find : List ℕ → Option Entry) (ps : List Piece) (d : ℕ) (s : State) → s.inlines.nodes ≡ [] → d + length (content.content_of t (map content_line ps)).bytes < 2 ^ 64 - 1 → Adds d s (leaf_inlines_in CORE t find ps d s)
unfolding leaf_inlines_in with_lines_of keeps_blanks inlines.read_inlines_in inlines.scan_start
leaf_adds t find ps d s none few = (
  map (inline_node after_.texts after_.targets) (map (moved leaf.places) (written after_.roles d)),
  ap (λ xs. s.nodes ++ map (inline_node after_.texts after_.targets) (xs ++ map (moved leaf.places) (written after_.roles d))) none,
  inlines_nested d after_.texts after_.targets (map (moved leaf.places) (written after_.roles d)) (moved_deep d leaf.places (written after_.roles d) (written_deep d after_.roles (subst (λ n. d + n < 2 ^ 64 - 1) (sym counted) few) safe)),
  refl,
)
  where
    leaf : content.State
    leaf = content.content_of t (map content_line ps)

    start : scan.State
    start = inlines.scan_start (length leaf.bytes) s.inlines.targets s.inlines.texts s.inlines.missed

    after_ : scan.State
    after_ = scan.scanned_in CORE leaf.bytes find start

    counted : length after_.roles ≡ length leaf.bytes
    counted = roles_count (length leaf.bytes) leaf.bytes find start (copies (length leaf.bytes) Plain)

    safe : Safe 0 0 0 after_.roles
    safe = scanned_safe leaf.bytes find start (omega arith) (copies (length leaf.bytes) Plain) (λ x r e. copies_plain (length leaf.bytes) x r e) refl refl refl refl

-- the nodes so far, after blocks of which these are the last at each depth
record Good (t : List ℕ) (ks : List BlockKind) (s : State) : Type 0 where
  placed : Placed [] s.nodes
  tags : Tags t ks (final [] s.nodes)
  none : s.inlines.nodes ≡ []

-- more nodes, which leave what the block leaves
good_next : (t : List ℕ) (ks : List BlockKind) (k : BlockKind) (d : ℕ) (s u : State) (ns : List NodeView) → IsHoused ks d k → Good t ks s → u.nodes ≡ s.nodes ++ ns → Placed (final [] s.nodes) ns → Leaves t k d (final [] s.nodes) (final (final [] s.nodes) ns) → u.inlines.nodes ≡ []
    → Good t (take d ks ++ k ∷ []) u
good_next t ks k d s u ns h g e p l n = record {
  placed = subst (Placed []) (sym e) (placed_both [] s.nodes ns g.placed p);
  tags = subst (λ xs. Tags t (take d ks ++ k ∷ []) (final [] xs)) (sym e) (subst (Tags t (take d ks ++ k ∷ [])) (sym (final_both [] s.nodes ns)) (tags_next t ks k d (final [] s.nodes) (final (final [] s.nodes) ns) h.deep h.held g.tags l));
  none = n;
}

-- a block without a container
bare_good : (t : List ℕ) (ks : List BlockKind) (k : BlockKind) (d : ℕ) (s u : State) (ns : List NodeView) → is_container k ≡ false → IsHoused ks d k → Good t ks s → u.nodes ≡ s.nodes ++ ns → Nested d ns → u.inlines.nodes ≡ [] → Good t (take d ks ++ k ∷ []) u
bare_good t ks k d s u ns c h g e m n = by (nested_kept d (final [] s.nodes) ns ((g.tags d h.deep h.held).0) m)
  where
    by : Placed (final [] s.nodes) ns × Kept d (final [] s.nodes) (final (final [] s.nodes) ns) → Good t (take d ks ++ k ∷ []) u
    by (p, q) = good_next t ks k d s u ns h g e p (q, λ w. absurd (true≢false (sym w ∙ c))) n

-- a block with a container, whose tag is given, and what is in it
held_good : (t : List ℕ) (ks : List BlockKind) (k : BlockKind) (d a b : ℕ) (tag : TagView) (s u : State) (ns : List NodeView) → IsHoused ks d k → (is_container k ≡ true → tag ≡ block_tag t k) → is_refused_in tag (reverse (take d (final [] s.nodes))) ≡ false → Good t ks s
    → u.nodes ≡ s.nodes ++ record { depth = d; item = Container tag; start = a; end = b } ∷ ns → Nested (suc d) ns → u.inlines.nodes ≡ [] → Good t (take d ks ++ k ∷ []) u
held_good t ks k d a b tag s u ns h c r g e m n = by (holds d a b tag (final [] s.nodes) ns ((g.tags d h.deep h.held).0) r m)
  where
    all : List NodeView
    all = record { depth = d; item = Container tag; start = a; end = b } ∷ ns

    by : Holds d tag (final [] s.nodes) all → Good t (take d ks ++ k ∷ []) u
    by (p, q, l, w) = good_next t ks k d s u all h g e p (q, λ z. (l, w ∙ ap (λ x. take d (final [] s.nodes) ++ x ∷ []) (c z))) n

one_deeper : (d n : ℕ) → d + n + 1 < 2 ^ 64 - 1 → plus d 1 ≡ suc d
one_deeper d n l = omega arith

no_more : (ns : List NodeView) → ns ++ [] ≡ ns
no_more [] = refl
no_more (n ∷ ns) = ap (λ ms. n ∷ ms) (no_more ns)

-- each kind of block
abbrev Counted : List ℕ → List Piece → Block → Type 0
Counted t ps b = b.depth + length (content.content_of t (map content_line ps)).bytes + 1 < 2 ^ 64 - 1

block_good : (t : List ℕ) (ks : List BlockKind) (ps : List Piece) (b : Block) (s : State) → Counted t ps b → IsHoused ks b.depth b.kind → Good t ks s → Good t (take b.depth ks ++ b.kind ∷ []) (with_block t b s)
unfolding with_block
block_good t ks ps b s few h g = held_good t ks b.kind b.depth b.start b.end (block_tag t b.kind) s (with_block t b s) (task_nodes b.task (plus b.depth 1)) h (λ w. refl) (block_allowed t ks b.depth b.kind (final [] s.nodes) h g.tags) g
    (append_assoc s.nodes (block_node t b ∷ []) (task_nodes b.task (plus b.depth 1))) (task_nested (suc b.depth) (plus b.depth 1) b.task (omega arith)) g.none

wrapped_good : (t : List ℕ) (find : List ℕ → Option Entry) (ks : List BlockKind) (ps : List Piece) (b : Block) (s : State) → Counted t ps b → IsHoused ks b.depth b.kind → Good t ks s → Good t (take b.depth ks ++ b.kind ∷ []) (wrapped_in CORE t find ps b s)
unfolding wrapped_in with_block
wrapped_good t find ks ps b s few h g = by (leaf_adds t find ps (plus b.depth 1) (with_block t b s) g.none (omega arith))
  where
    deeper : plus b.depth 1 ≡ suc b.depth
    deeper = omega arith

    tasks : List NodeView
    tasks = task_nodes b.task (plus b.depth 1)

    by : Adds (plus b.depth 1) (with_block t b s) (leaf_inlines_in CORE t find ps (plus b.depth 1) (with_block t b s)) → Good t (take b.depth ks ++ b.kind ∷ []) (leaf_inlines_in CORE t find ps (plus b.depth 1) (with_block t b s))
    by (ns, e, m, n) = held_good t ks b.kind b.depth b.start b.end (block_tag t b.kind) s (leaf_inlines_in CORE t find ps (plus b.depth 1) (with_block t b s)) (tasks ++ ns) h (λ w. refl) (block_allowed t ks b.depth b.kind (final [] s.nodes) h g.tags) g
        (e ∙ append_assoc (s.nodes ++ block_node t b ∷ []) tasks ns ∙ append_assoc s.nodes (block_node t b ∷ []) (tasks ++ ns))
        (all_both (λ (x : NodeView). (suc b.depth ≤ x.depth) × Free x.item) tasks ns (task_nested (suc b.depth) (plus b.depth 1) b.task (omega arith)) (subst (λ d. Nested d ns) deeper m)) n

bare_leaf_good : (t : List ℕ) (find : List ℕ → Option Entry) (ks : List BlockKind) (ps : List Piece) (b : Block) (s : State) → is_container b.kind ≡ false → Counted t ps b → IsHoused ks b.depth b.kind → Good t ks s → Good t (take b.depth ks ++ b.kind ∷ []) (bare_in CORE t find ps b s)
unfolding bare_in with_task
bare_leaf_good t find ks ps b s c few h g = by (leaf_adds t find ps b.depth (with_task b s) g.none (omega arith))
  where
    tasks : List NodeView
    tasks = task_nodes b.task b.depth

    by : Adds b.depth (with_task b s) (leaf_inlines_in CORE t find ps b.depth (with_task b s)) → Good t (take b.depth ks ++ b.kind ∷ []) (leaf_inlines_in CORE t find ps b.depth (with_task b s))
    by (ns, e, m, n) = bare_good t ks b.kind b.depth s (leaf_inlines_in CORE t find ps b.depth (with_task b s)) (tasks ++ ns) c h g (e ∙ append_assoc s.nodes tasks ns)
        (all_both (λ (x : NodeView). (b.depth ≤ x.depth) × Free x.item) tasks ns (task_nested b.depth b.depth b.task (omega arith)) m) n

paragraph_good : (t : List ℕ) (find : List ℕ → Option Entry) (ks : List BlockKind) (ps : List Piece) (u : Bool) (b : Block) (s : State) → is_container b.kind ≡ false → Counted t ps b → IsHoused ks b.depth b.kind → Good t ks s → Good t (take b.depth ks ++ b.kind ∷ []) (paragraph_taken_in CORE t find ps u b s)
unfolding paragraph_taken_in
paragraph_good t find ks ps u b s c few h g = by (nat_le b.last b.first) u
  where
    by : (x y : Bool) → Good t (take b.depth ks ++ b.kind ∷ []) (if x then s else (if y then bare_in CORE t find ps b s else wrapped_in CORE t find ps b s))
    by true y = bare_good t ks b.kind b.depth s s [] c h g (sym (no_more s.nodes)) tt g.none
    by false true = bare_leaf_good t find ks ps b s c few h g
    by false false = wrapped_good t find ks ps b s few h g

lines_good : (t : List ℕ) (ks : List BlockKind) (html : Bool) (ps qs : List Piece) (b : Block) (s : State) → Counted t qs b → IsHoused ks b.depth b.kind → Good t ks s → Good t (take b.depth ks ++ b.kind ∷ []) (with_lines t html b ps s)
unfolding with_lines
lines_good t ks html ps qs b s few h g = held_good t ks b.kind b.depth b.start b.end (block_tag t b.kind) s (with_lines t html b ps s) (lines_nodes t html (plus b.depth 1) ps) h (λ w. refl) (block_allowed t ks b.depth b.kind (final [] s.nodes) h g.tags) g
    (append_assoc s.nodes (block_node t b ∷ []) (lines_nodes t html (plus b.depth 1) ps)) (line_nested (suc b.depth) (plus b.depth 1) t html ps (omega arith)) g.none

fence_good : (t : List ℕ) (ks : List BlockKind) (from to : ℕ) (ps qs : List Piece) (b : Block) (s : State) → is_container b.kind ≡ false → Counted t qs b → IsHoused ks b.depth b.kind → Good t ks s → Good t (take b.depth ks ++ b.kind ∷ []) (with_fence_in CORE.names t from to b ps s)
unfolding with_fence_in fence_node_in
fence_good t ks from to ps qs b s c few h g = held_good t ks b.kind b.depth b.start b.end _ s (with_fence_in CORE.names t from to b ps s) (lines_nodes t false (plus b.depth 1) ps) h (λ w. absurd (true≢false (sym w ∙ c))) refl g
    (append_assoc s.nodes (fence_node_in CORE.names t from to b ∷ []) (lines_nodes t false (plus b.depth 1) ps)) (line_nested (suc b.depth) (plus b.depth 1) t false ps (omega arith)) g.none

taken_good : (t : List ℕ) (find : List ℕ → Option Entry) (ks : List BlockKind) (ps : List Piece) (u : Bool) (b : Block) (s : State) → Counted t ps b → IsHoused ks b.depth b.kind → Good t ks s → Good t (take b.depth ks ++ b.kind ∷ []) (taken_as_in CORE b.kind t find ps u b s)
unfolding with_rule
taken_good t find ks ps u b s few h g = by b.kind refl (subst (λ k. is_known k ≡ true) refl h.known)
  where
    Done : BlockKind → Type 0
    Done k = Good t (take b.depth ks ++ b.kind ∷ []) (taken_as_in CORE k t find ps u b s)

    by : (k : BlockKind) → b.kind ≡ k → is_known k ≡ true → Done k
    by (kind.Quote k) e w = block_good t ks ps b s few h g
    by (kind.List first) e w = block_good t ks ps b s few h g
    by kind.Item e w = block_good t ks ps b s few h g
    by kind.Paragraph e w = paragraph_good t find ks ps u b s (ap is_container e) few h g
    by (kind.Heading level braces) e w = wrapped_good t find ks ps b s few h g
    by kind.Indented e w = lines_good t ks false ps ps b s few h g
    by (kind.Fenced from to) e w = fence_good t ks from to ps ps b s (ap is_container e) few h g
    by kind.Html e w = lines_good t ks true ps ps b s few h g
    by kind.Rule e w = bare_good t ks b.kind b.depth s (with_rule b s) (record { depth = b.depth; item = Given view.Rule; start = b.start; end = b.end } ∷ []) (ap is_container e) h g refl ((omega arith, tt), tt) g.none
    by (kind.Metadata k) e w = absurd cc
    by (kind.Footnote from to) e w = absurd cc
    by (kind.Table from to) e w = absurd cc
    by kind.TableHead e w = absurd cc
    by kind.TableRow e w = absurd cc
    by kind.TableCell e w = absurd cc
    by kind.DefinitionList e w = absurd cc
    by kind.DefinitionListTitle e w = absurd cc
    by kind.DefinitionListDefinition e w = absurd cc

-- all blocks
blocks_placed : (t : List ℕ) (find : List ℕ → Option Entry) (all : List Block) (ps : List Piece) (ks : List BlockKind) (bs : List Block) (s : State) → AreHoused ks bs → AllByRecursion (IsCounted t ps) bs → Good t ks s → Placed [] (fold (block_step_in CORE t find all ps) s bs).nodes
unfolding block_taken_in
blocks_placed t find all ps ks [] s h c g = g.placed
blocks_placed t find all ps ks (b ∷ bs) s h c g = blocks_placed t find all ps (take b.depth ks ++ b.kind ∷ []) bs (block_step_in CORE t find all ps s b) (h.1) (c.1) (taken_good t find ks (pieces_of ps b.first b.last) (is_unwrapped all b) b s (c.0) (h.0) g)

pub readings_proper : ReadingsAreProper
unfolding reading_of found_under
readings_proper t c = events_proper t _ (blocks_placed t find found.blocks found.pieces [] found.blocks (start_state texts) (blocks_housed t) c (record { placed = tt; tags = none; none = refl }))
  where
    found : BlocksView
    found = blocks_in CORE t

    texts : List ℕ
    texts = (collected_from CORE t found).texts

    find : List ℕ → Option Entry
    find = first_entry CORE.undefined_notes (collected_from CORE t found).keys (collected_from CORE t found).entries

    none : Tags t [] []
    none zero l h = (omega arith, refl)
    none (suc e) l h = absurd (omega arith)
