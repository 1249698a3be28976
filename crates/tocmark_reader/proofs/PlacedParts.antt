-- The inlines of parts that are at a place of a text.
use Rattle.std.proofs.Common.{◌≡◌, ℕ, zero, suc, ◌+◌, ◌-◌, ◌^◌, ◌<◌, ◌≤◌, List, [], ◌∷◌, ◌++◌, length, map, slice_get, Option, Some, None, refl, ap, sym, ◌∙◌, arith, length-append}
use Rattle.std.proofs.lemmas.List.{map-append}
use Rattle.tocmark_read_scan.specs.Content as content
use Rattle.tocmark_read_scan.specs.PlainParts.{Part, Bare, Escaped, Referred, Feed, spelled_part, spelled}
use Rattle.tocmark_read_scan.proofs.PlainContent.{places_of}
use Rattle.tocmark_read_inlines.specs.Scan as s
use Rattle.tocmark_read_inlines.specs.Write as w
use Rattle.tocmark_read_inlines.specs.Inlines as inlines
use Rattle.tocmark_read_inlines.specs.Inlines.{scan_start}
use Rattle.tocmark_read_inlines.specs.declared.write.InlineKind.{InlineKind}
use Rattle.tocmark_read_inlines.specs.declared.write.InlineKind.TheVariants as item
use Rattle.tocmark_read_inlines.specs.declared.write.Node.{Node}
use Rattle.tocmark_read_inlines.proofs.PlainLeaf.{known}
use Rattle.tocmark_read_inlines.proofs.PlainNodes.{node, nodes_of, text_until, begun, written_parts}
use Rattle.tocmark_read_inlines.proofs.PlainPasses.{roles, AreRead, scan_parts}
use Rattle.tocmark_read_spans.specs.Emphasis.{emphasized}
use Rattle.tocmark_read_spans.specs.declared.definitions.Entry.{Entry}
use Rattle.tocmark_read_spans.specs.declared.role.Stretch.{Stretch}
use Rattle.tocmark_read_spans.specs.declared.role.Target.{Target}

scanned_parts : (parts : List Part) (defs : List ℕ → Option Entry) (targets : List Target) (texts : List ℕ) (missed : List Stretch) → AreRead (spelled parts) (known (spelled parts)) defs 0 parts → length (spelled parts) < 2 ^ 64 → (r : ℕ) × (s.scanned (spelled parts) defs (scan_start (length (spelled parts)) targets texts missed) ≡ record (scan_start (length (spelled parts)) targets texts missed) { roles = roles 0 parts; place = 0 + length (spelled parts); resume = r })
unfolding s.scanned_in s.settled scan_start emphasized
scanned_parts parts defs targets texts missed h fits =
    let read = scan_parts (spelled parts) (known (spelled parts)) defs parts (scan_start (length (spelled parts)) targets texts missed) [] h (omega arith) (omega arith) refl refl in
    (read.0, ap (s.settled 0) (read.1))

place_at : (start : ℕ) (xs : List ℕ) (k : ℕ) → k < length xs → slice_get (places_of start xs) k ≡ Some (start + k, start + k + 1)
place_at start [] k h = absurd (omega arith)
place_at start (x ∷ xs) zero h = let same : start + 0 ≡ start = omega arith in rw same refl
place_at start (x ∷ xs) (suc k) h =
    let same : start + 1 + k ≡ start + suc k = omega arith in
    place_at (start + 1) xs k (omega arith) ∙ rw same refl

moved_one : (bytes : List ℕ) (at d : ℕ) (i : InlineKind) (start end from to : ℕ) → from ≡ at + start → to ≡ at + end → start < end → end ≤ length bytes → w.moved (places_of at bytes) (node d i start end) ≡ node d i from to
unfolding w.moved
moved_one bytes at d i start end from to ef et h k =
    let last : at + (end - 1) + 1 ≡ to = omega (arith, et, h) in
    rw (place_at at bytes start (omega arith), place_at at bytes (end - 1) (omega arith), last) (ap (λ x. node d i x to) (sym ef))

-- the open text began before a place
abbrev BeganBefore : Option ℕ → ℕ → Type 0
BeganBefore None p = Unit {0}
BeganBefore (Some start) p = start < p

begun_before : (o : Option ℕ) (p : ℕ) → BeganBefore o p → begun o p < p + 1
begun_before None p h = omega arith
begun_before (Some start) p h = omega arith

-- the open text is the same, so much further
abbrev IsShifted : ℕ → Option ℕ → Option ℕ → Type 0
IsShifted at None None = Unit {0}
IsShifted at None (Some b) = ⊥
IsShifted at (Some a) None = ⊥
IsShifted at (Some a) (Some b) = b ≡ at + a

begun_shifted : (at : ℕ) (o u : Option ℕ) (p q : ℕ) → IsShifted at o u → q ≡ at + p → begun u q ≡ at + begun o p
begun_shifted at None None p q h e = e
begun_shifted at None (Some b) p q h e = absurd h
begun_shifted at (Some a) None p q h e = absurd h
begun_shifted at (Some a) (Some b) p q h e = h

moved_until : (bytes : List ℕ) (at d : ℕ) (o u : Option ℕ) (p q : ℕ) → IsShifted at o u → q ≡ at + p → BeganBefore o p → p ≤ length bytes → map (w.moved (places_of at bytes)) (text_until d o p) ≡ text_until d u q
moved_until bytes at d None None p q r e h k = refl
moved_until bytes at d None (Some b) p q r e h k = absurd r
moved_until bytes at d (Some a) None p q r e h k = absurd r
moved_until bytes at d (Some a) (Some b) p q r e h k = ap (λ (n : Node). n ∷ []) (moved_one bytes at d item.Text a p b q r e h k)

moved_then : (bytes : List ℕ) (at d : ℕ) (o u : Option ℕ) (p q : ℕ) (ns ms : List Node) → IsShifted at o u → q ≡ at + p → BeganBefore o p → p ≤ length bytes → map (w.moved (places_of at bytes)) ns ≡ ms → map (w.moved (places_of at bytes)) (text_until d o p ++ ns) ≡ text_until d u q ++ ms
moved_then bytes at d o u p q ns ms r eq h k e =
    map-append (w.moved (places_of at bytes)) (text_until d o p) ns
    ∙ ap (λ (xs : List Node). xs ++ map (w.moved (places_of at bytes)) ns) (moved_until bytes at d o u p q r eq h k)
    ∙ ap (λ (xs : List Node). text_until d u q ++ xs) e

moved_leaf : (bytes : List ℕ) (at d : ℕ) (i : InlineKind) (start end from to : ℕ) (ns ms : List Node) → from ≡ at + start → to ≡ at + end → start < end → end ≤ length bytes → map (w.moved (places_of at bytes)) ns ≡ ms → map (w.moved (places_of at bytes)) (node d i start end ∷ ns) ≡ node d i from to ∷ ms
moved_leaf bytes at d i start end from to ns ms ef et h k e =
    ap (λ (n : Node). n ∷ map (w.moved (places_of at bytes)) ns) (moved_one bytes at d i start end from to ef et h k)
    ∙ ap (λ (xs : List Node). node d i from to ∷ xs) e

-- where the content is so far after the front of the source, the nodes are so far after it
moved_nodes : (bytes : List ℕ) (at d p q : ℕ) (o u : Option ℕ) (parts : List Part) → IsShifted at o u → q ≡ at + p → BeganBefore o p → p + length (spelled parts) ≤ length bytes → map (w.moved (places_of at bytes)) (nodes_of d p o parts) ≡ nodes_of d q u parts
moved_nodes bytes at d p q o u [] r e h k = moved_until bytes at d o u p q r e h (omega arith)
moved_nodes bytes at d p q o u (Bare b ∷ parts) r e h k =
    moved_nodes bytes at d (p + 1) (q + 1) (Some (begun o p)) (Some (begun u q)) parts (begun_shifted at o u p q r e) (omega (arith, e)) (begun_before o p h) (omega arith)
moved_nodes bytes at d p q o u (Escaped b ∷ parts) r e h k =
    let one : q + 1 ≡ at + (p + 1) = omega (arith, e) in
    let before : p + 1 < p + 2 = omega arith in
    moved_then bytes at d o u p q _ _ r e h (omega arith) (moved_nodes bytes at d (p + 2) (q + 2) (Some (p + 1)) (Some (q + 1)) parts one (omega (arith, e)) before (omega arith))
moved_nodes bytes at d p q o u (Referred c bs ∷ parts) r e h k =
    let width : length (spelled_part (Referred c bs) ++ spelled parts) ≡ suc (length bs) + length (spelled parts) = length-append (spelled_part (Referred c bs)) (spelled parts) in
    moved_then bytes at d o u p q _ _ r e h (omega arith) (moved_leaf bytes at d _ p (p + 1 + length bs) q (q + 1 + length bs) _ _ e (omega (arith, e)) (omega arith) (omega (arith, width, k)) (moved_nodes bytes at d (p + suc (length bs)) (q + suc (length bs)) None None parts tt (omega (arith, e)) tt (omega (arith, width, k))))
moved_nodes bytes at d p q o u (Feed ∷ parts) r e h k =
    moved_then bytes at d o u p q _ _ r e h (omega arith) (moved_leaf bytes at d _ p (p + 1) q (q + 1) _ _ e (omega (arith, e)) (omega arith) (omega arith) (moved_nodes bytes at d (p + 1) (q + 1) None None parts tt (omega (arith, e)) tt (omega arith)))

-- the inlines of such a leaf, whose bytes have these ranges
pub parts_inlines_placed : (parts : List Part) (places : List (ℕ × ℕ)) (depth : ℕ) (defs : List ℕ → Option Entry) (t : inlines.State) → AreRead (spelled parts) (known (spelled parts)) defs 0 parts → length (spelled parts) < 2 ^ 64 → inlines.read_inlines (record { bytes = spelled parts; places = places }) depth defs t ≡ record t { nodes = t.nodes ++ map (w.moved places) (nodes_of depth 0 None parts) }
unfolding inlines.read_inlines_in scan_start
parts_inlines_placed parts places depth defs t h fits =
    let leaf : content.State = record { bytes = spelled parts; places = places } in
    let read = scanned_parts parts defs t.targets t.texts t.missed h fits in
    ap (λ after. inlines.inlines_from leaf depth after t) (read.1)
    ∙ ap (λ (ns : List Node). (record t { nodes = t.nodes ++ map (w.moved places) ns })) (written_parts parts depth fits)

-- the inlines of such a leaf, whose content is at a place of the source
pub parts_inlines_at : (parts : List Part) (at depth : ℕ) (defs : List ℕ → Option Entry) (t : inlines.State) → AreRead (spelled parts) (known (spelled parts)) defs 0 parts → length (spelled parts) < 2 ^ 64 → inlines.read_inlines (record { bytes = spelled parts; places = places_of at (spelled parts) }) depth defs t ≡ record t { nodes = t.nodes ++ nodes_of depth at None parts }
parts_inlines_at parts at depth defs t h fits =
    parts_inlines_placed parts (places_of at (spelled parts)) depth defs t h fits
    ∙ ap (λ (ns : List Node). (record t { nodes = t.nodes ++ ns })) (moved_nodes (spelled parts) at depth 0 at None None parts tt (omega arith) tt (omega arith))
