-- The nodes of blocks and inlines say the same after an empty line.
use Rattle.std.proofs.Common.{◌≡◌, ℕ, zero, suc, ◌+◌, ◌-◌, ◌^◌, ◌<◌, Bool, true, false, not, ◌&&◌, if◌then◌else◌, nat_lt, nat_le, List, [], ◌∷◌, ◌++◌, length, map, pred, refl, ap, sym, ◌∙◌, subst, arith, true≢false}
use Rattle.std.specs.Prelude.{slice_get, slice_range, unwrap_or, Option, Some, None, is_some}
use Rattle.std.specs.Option.{option_map, option_map_or}
use Rattle.std.specs.List.{AllByRecursion}
use Rattle.std.proofs.lemmas.List.{map-append, length-map}
use Rattle.std.proofs.lemmas.Option.{slice_get-map}
use Rattle.tocmark_event.specs.View as view
use Rattle.tocmark_read_scan.specs.Content as content
use Rattle.tocmark_read_scan.specs.declared.syntax.TheConstants.{CORE}
use Rattle.tocmark_read_page.specs.declared.piece.Piece.{Piece}
use Rattle.tocmark_read_page.specs.declared.page.Block.{Block}
use Rattle.tocmark_read_inlines.specs.Inlines as inlines
use Rattle.tocmark_read_inlines.specs.Scan as scan
use Rattle.tocmark_read_inlines.specs.Write.{moved, written}
use Rattle.tocmark_read_inlines.specs.declared.write.Node.{Node}
use Rattle.tocmark_read_inlines.specs.declared.write.InlineKind.{InlineKind}
use Rattle.tocmark_read_inlines.specs.declared.write.InlineKind.TheVariants as item
use Rattle.tocmark_read_spans.specs.declared.definitions.Entry.{Entry}
use Rattle.tocmark_read_spans.specs.declared.role.Role.{Role}
use Rattle.tocmark_read_spans.specs.declared.role.Role.TheVariants.{Plain}
use Rattle.tocmark_read_spans.specs.declared.role.Target.{Target}
use Rattle.tocmark_reader.specs.Emitted.{NodeView, Given, source_text}
use Rattle.tocmark_reader.specs.Range.{snapped}
use Rattle.tocmark_reader.specs.Inlines.{inline_item, inline_node}
use Rattle.tocmark_reader.specs.Formulas.{keeps_blanks}
use Rattle.tocmark_reader.specs.Pages.{State, content_line, with_lines_of, leaf_inlines_in, pieces_of, line_item, line_nodes, lines_nodes, space_nodes, is_unwrapped}
use Rattle.tocmark_reader.specs.Words.{spaces_text}
use Rattle.tocmark_text_laws.specs.Further.{piece_on, block_on}
use Rattle.tocmark_text_laws.proofs.Lists.{range_map, map_or_map}
use Rattle.tocmark_text_laws.proofs.LinesFurther.{lt_on, between_on}
use Rattle.tocmark_text_laws.proofs.Events.{both, plain, plain_item, stay, same_source, same_nothing, same_range, no_range, space_range, same_node}
use Rattle.tocmark_text_laws.proofs.Contents.{pair_on, leaf_content_on, places_count}
use Rattle.tocmark_text_laws.proofs.RoleCounts.{copies, roles_count}
use Rattle.tocmark_text_laws.proofs.TextNodes.{NodesBefore, nodes_before}

-- the inlines begin within their leaf
abbrev pub HaveStarts : List (ℕ × ℕ) → List Node → Type 0
HaveStarts places ns = AllByRecursion (λ (n : Node). is_some (slice_get places n.start) ≡ true) ns

found_on : (places : List (ℕ × ℕ)) (i : ℕ) → is_some (slice_get places i) ≡ true → unwrap_or (slice_get (map pair_on places) i) (0, 0) ≡ pair_on (unwrap_or (slice_get places i) (0, 0))
found_on places i h = ap (λ o. unwrap_or o (0, 0)) (slice_get-map pair_on places i) ∙ by (slice_get places i) h
  where
    by : (o : Option (ℕ × ℕ)) → is_some o ≡ true → unwrap_or (option_map pair_on o) (0, 0) ≡ pair_on (unwrap_or o (0, 0))
    by None h = absurd (true≢false (sym h))
    by (Some p) h = refl

-- an end that doesn't lie within the leaf is 0 in both texts
ends_say : (t : List ℕ) (c start : ℕ) (places : List (ℕ × ℕ)) (i : ℕ)
    → source_text (c ∷ t) (snapped (c ∷ t) (suc start) (unwrap_or (slice_get (map pair_on places) i) (0, 0)).1) ≡ source_text t (snapped t start (unwrap_or (slice_get places i) (0, 0)).1)
ends_say t c start places i = rw (slice_get-map pair_on places i) (by (slice_get places i))
  where
    by : (o : Option (ℕ × ℕ)) → source_text (c ∷ t) (snapped (c ∷ t) (suc start) (unwrap_or (option_map pair_on o) (0, 0)).1) ≡ source_text t (snapped t start (unwrap_or o (0, 0)).1)
    by None = same_nothing t c start
    by (Some p) = same_source t c start (p.1)

ends_lie : (t : List ℕ) (c start : ℕ) (places : List (ℕ × ℕ)) (i : ℕ)
    → both pred (snapped (c ∷ t) (suc start) (unwrap_or (slice_get (map pair_on places) i) (0, 0)).1) ≡ snapped t start (unwrap_or (slice_get places i) (0, 0)).1
ends_lie t c start places i = rw (slice_get-map pair_on places i) (by (slice_get places i))
  where
    by : (o : Option (ℕ × ℕ)) → both pred (snapped (c ∷ t) (suc start) (unwrap_or (option_map pair_on o) (0, 0)).1) ≡ snapped t start (unwrap_or o (0, 0)).1
    by None = no_range t c start
    by (Some p) = same_range t c start (p.1)

inline_says : (t : List ℕ) (c : ℕ) (texts : List ℕ) (targets : List Target) (places : List (ℕ × ℕ)) (n : Node) → is_some (slice_get places n.start) ≡ true
    → plain pred (c ∷ t) (inline_node texts targets (moved (map pair_on places) n)) ≡ plain stay t (inline_node texts targets (moved places n))
unfolding inline_node inline_item moved
inline_says t c texts targets places n h = same_node t c n.depth (inline_item texts targets n.item) (inline_item texts targets n.item) from' to' from to (by n.item) (ap (λ (p : ℕ × ℕ). both pred (snapped (c ∷ t) (p.0) to')) (found_on places n.start h) ∙ ends_lie t c from places (n.end - 1))
  where
    from' : ℕ
    from' = (unwrap_or (slice_get (map pair_on places) n.start) (0, 0)).0

    to' : ℕ
    to' = (unwrap_or (slice_get (map pair_on places) (n.end - 1)) (0, 0)).1

    from : ℕ
    from = (unwrap_or (slice_get places n.start) (0, 0)).0

    to : ℕ
    to = (unwrap_or (slice_get places (n.end - 1)) (0, 0)).1

    by : (k : InlineKind) → plain_item (c ∷ t) (inline_item texts targets k) from' to' ≡ plain_item t (inline_item texts targets k) from to
    by item.Text = ap (λ (p : ℕ × ℕ). Given (view.Text (source_text (c ∷ t) (snapped (c ∷ t) (p.0) to')))) (found_on places n.start h) ∙ ap (λ bs. Given (view.Text bs)) (ends_say t c from places (n.end - 1))
    by (item.Span s) = refl
    by (item.Leaf l) = refl

pub inlines_say : (t : List ℕ) (c : ℕ) (texts : List ℕ) (targets : List Target) (places : List (ℕ × ℕ)) (ns : List Node) → HaveStarts places ns
    → map (plain pred (c ∷ t)) (map (inline_node texts targets) (map (moved (map pair_on places)) ns)) ≡ map (plain stay t) (map (inline_node texts targets) (map (moved places) ns))
inlines_say t c texts targets places [] h = refl
inlines_say t c texts targets places (n ∷ ns) h = rw (inline_says t c texts targets places n (h.0), inlines_say t c texts targets places ns (h.1)) refl

-- lines of code and HTML
spaces_say : (t : List ℕ) (c depth : ℕ) (p : Piece) → map (plain pred (c ∷ t)) (space_nodes depth (piece_on p)) ≡ map (plain stay t) (space_nodes depth p)
unfolding space_nodes
spaces_say t c depth p = by (nat_lt 0 p.spaces)
  where
    by : (b : Bool) → map (plain pred (c ∷ t)) (if b then record { depth = depth; item = Given (view.Text (spaces_text p.spaces)); start = suc p.start - 1; end = suc p.start } ∷ [] else [])
        ≡ map (plain stay t) (if b then record { depth = depth; item = Given (view.Text (spaces_text p.spaces)); start = p.start - 1; end = p.start } ∷ [] else [])
    by true = ap (λ n. n ∷ []) (same_node t c depth (Given (view.Text (spaces_text p.spaces))) (Given (view.Text (spaces_text p.spaces))) (suc p.start - 1) (suc p.start) (p.start - 1) p.start refl (space_range t c p.start))
    by false = refl

same_line_item : (t : List ℕ) (c : ℕ) (html : Bool) (p : Piece) → line_item (c ∷ t) html (piece_on p) ≡ line_item t html p
unfolding line_item
same_line_item t c html p = rw (between_on t c p.start p.end, lt_on p.end p.next) refl

line_plain : (t : List ℕ) (c : ℕ) (html : Bool) (p : Piece) (a b d e : ℕ) → plain_item (c ∷ t) (line_item t html p) a b ≡ plain_item t (line_item t html p) d e
unfolding line_item
line_plain t c true p a b d e = refl
line_plain t c false p a b d e = refl

line_says : (t : List ℕ) (c : ℕ) (html : Bool) (depth : ℕ) (p : Piece) → map (plain pred (c ∷ t)) (line_nodes (c ∷ t) html depth (piece_on p)) ≡ map (plain stay t) (line_nodes t html depth p)
unfolding line_nodes
line_says t c html depth p =
    rw (same_line_item t c html p, lt_on p.start p.next)
    (map-append (plain pred (c ∷ t)) (space_nodes depth (piece_on p)) (shown (nat_lt p.start p.next) (suc p.start) (suc p.next))
    ∙ ap (λ xs. xs ++ map (plain pred (c ∷ t)) (shown (nat_lt p.start p.next) (suc p.start) (suc p.next))) (spaces_say t c depth p)
    ∙ ap (λ xs. map (plain stay t) (space_nodes depth p) ++ xs) (by (nat_lt p.start p.next))
    ∙ sym (map-append (plain stay t) (space_nodes depth p) (shown (nat_lt p.start p.next) p.start p.next)))
  where
    shown : Bool → ℕ → ℕ → List NodeView
    shown b start end = if b then record { depth = depth; item = line_item t html p; start = start; end = end } ∷ [] else []

    by : (b : Bool) → map (plain pred (c ∷ t)) (shown b (suc p.start) (suc p.next)) ≡ map (plain stay t) (shown b p.start p.next)
    by true = ap (λ n. n ∷ []) (same_node t c depth (line_item t html p) (line_item t html p) (suc p.start) (suc p.next) p.start p.next (line_plain t c html p (suc p.start) (suc p.next) p.start p.next) (same_range t c p.start p.next))
    by false = refl

pub lines_say : (t : List ℕ) (c : ℕ) (html : Bool) (depth : ℕ) (ps : List Piece) → map (plain pred (c ∷ t)) (lines_nodes (c ∷ t) html depth (map piece_on ps)) ≡ map (plain stay t) (lines_nodes t html depth ps)
lines_say t c html depth [] = refl
lines_say t c html depth (p ∷ ps) =
    map-append (plain pred (c ∷ t)) (line_nodes (c ∷ t) html depth (piece_on p)) (lines_nodes (c ∷ t) html depth (map piece_on ps))
    ∙ ap (λ xs. xs ++ map (plain pred (c ∷ t)) (lines_nodes (c ∷ t) html depth (map piece_on ps))) (line_says t c html depth p)
    ∙ ap (λ xs. map (plain stay t) (line_nodes t html depth p) ++ xs) (lines_say t c html depth ps)
    ∙ sym (map-append (plain stay t) (line_nodes t html depth p) (lines_nodes t html depth ps))

pub pieces_on : (ps : List Piece) (first last : ℕ) → pieces_of (map piece_on ps) first last ≡ map piece_on (pieces_of ps first last)
pieces_on ps first last = rw (length-map ps piece_on, range_map piece_on ps first last) (by (nat_le first last && nat_le last (length ps)))
  where
    by : (b : Bool) → (if b then map piece_on (slice_range ps first last) else []) ≡ map piece_on (if b then slice_range ps first last else [])
    by true = refl
    by false = refl

pub same_unwrapped : (bs : List Block) (b : Block) → is_unwrapped (map block_on bs) (block_on b) ≡ is_unwrapped bs b
unfolding is_unwrapped
same_unwrapped bs b = by b.list
  where
    by : (o : Option ℕ) → option_map_or (λ place. option_map_or (λ (l : Block). not l.loose) (slice_get (map block_on bs) place) false) o false ≡ option_map_or (λ place. option_map_or (λ (l : Block). not l.loose) (slice_get bs place) false) o false
    by None = refl
    by (Some place) = rw (slice_get-map block_on bs place) (map_or_map block_on (λ (l : Block). not l.loose) false (slice_get bs place))

-- two states of the nodes: they say the same, and their inlines are the same, with no node left
pub record Alike (t : List ℕ) (c : ℕ) (s' s : State) : Type 0 where
  pub nodes : map (plain pred (c ∷ t)) s'.nodes ≡ map (plain stay t) s.nodes
  pub inlines : s'.inlines ≡ s.inlines
  pub none : s.inlines.nodes ≡ []

found_below : {A : Type 0} (xs : List A) (i : ℕ) → i < length xs → is_some (slice_get xs i) ≡ true
found_below [] i h = absurd (omega arith)
found_below (x ∷ xs) zero h = refl
found_below (x ∷ xs) (suc i) h = found_below xs i (omega arith)

have_starts : (places : List (ℕ × ℕ)) (ns : List Node) → NodesBefore (length places) ns → HaveStarts places ns
have_starts places [] h = tt
have_starts places (n ∷ ns) h = (found_below places n.start (h.0), have_starts places ns (h.1))

-- the inlines of a leaf begin within it
inlines_start : (t : List ℕ) (ps : List Piece) (depth : ℕ) (find : List ℕ → Option Entry) (i : inlines.State)
    → HaveStarts (content.content_of t (map content_line ps)).places (written (scan.scanned_in CORE (content.content_of t (map content_line ps)).bytes find (inlines.scan_start (length (content.content_of t (map content_line ps)).bytes) i.targets i.texts i.missed)).roles depth)
unfolding inlines.scan_start
inlines_start t ps depth find i = have_starts leaf.places (written roles depth) (subst (λ m. NodesBefore m (written roles depth)) counted (nodes_before roles depth))
  where
    leaf : content.State
    leaf = content.content_of t (map content_line ps)

    roles : List Role
    roles = (scan.scanned_in CORE leaf.bytes find (inlines.scan_start (length leaf.bytes) i.targets i.texts i.missed)).roles

    counted : length roles ≡ length leaf.places
    counted = roles_count (length leaf.bytes) leaf.bytes find (inlines.scan_start (length leaf.bytes) i.targets i.texts i.missed) (copies (length leaf.bytes) Plain) ∙ places_count t (map content_line ps)

pub leaf_inlines_say : (t : List ℕ) (c : ℕ) (find : List ℕ → Option Entry) (ps : List Piece) (depth : ℕ) (s' s : State) → length t + 3 < 2 ^ 64 → Alike t c s' s
    → Alike t c (leaf_inlines_in CORE (c ∷ t) find (map piece_on ps) depth s') (leaf_inlines_in CORE t find ps depth s)
unfolding leaf_inlines_in with_lines_of keeps_blanks inlines.read_inlines_in
leaf_inlines_say t c find ps depth s' s short a = record {
  nodes = rw (leaf_content_on t c ps short, a.inlines, a.none)
      (map-append (plain pred (c ∷ t)) s'.nodes (map (inline_node after.texts after.targets) (map (moved (map pair_on leaf.places)) ns))
      ∙ ap (λ xs. xs ++ map (plain pred (c ∷ t)) (map (inline_node after.texts after.targets) (map (moved (map pair_on leaf.places)) ns))) a.nodes
      ∙ ap (λ xs. map (plain stay t) s.nodes ++ xs) (inlines_say t c after.texts after.targets leaf.places ns (inlines_start t ps depth find s.inlines))
      ∙ sym (map-append (plain stay t) s.nodes (map (inline_node after.texts after.targets) (map (moved leaf.places) ns))));
  inlines = rw (leaf_content_on t c ps short, a.inlines) refl;
  none = refl;
}
  where
    leaf : content.State
    leaf = content.content_of t (map content_line ps)

    after : scan.State
    after = scan.scanned_in CORE leaf.bytes find (inlines.scan_start (length leaf.bytes) s.inlines.targets s.inlines.texts s.inlines.missed)

    ns : List Node
    ns = written after.roles depth
