-- The inlines of a leaf whose text is made of parts that are read as they are meant: its nodes, with ranges in the source.
use Rattle.std.proofs.Common.{◌≡◌, ℕ, zero, suc, ◌+◌, ◌-◌, ◌^◌, ◌<◌, ◌≤◌, List, [], ◌∷◌, ◌++◌, length, map, slice_get, Option, Some, None, refl, ap, ◌∙◌, arith, length-append}
use Rattle.std.proofs.lemmas.List.{map-append}
use Rattle.tocmark_read_scan.specs.declared.syntax.TheConstants.{CORE}
use Rattle.tocmark_read_tokens.specs.Html.{last_ends}
use Rattle.tocmark_read_scan.specs.Content as content
use Rattle.tocmark_read_scan.proofs.PlainContent.{places_of}
use Rattle.tocmark_read_spans.specs.Tick.{last_ticks}
use Rattle.tocmark_read_inlines.specs.Scan as s
use Rattle.tocmark_read_inlines.specs.Write as w
use Rattle.tocmark_read_inlines.specs.Inlines as inlines
use Rattle.tocmark_read_inlines.specs.Inlines.{scan_start}
use Rattle.tocmark_read_spans.specs.Emphasis.{emphasized}
use Rattle.tocmark_read_spans.specs.declared.definitions.Entry.{Entry}
use Rattle.tocmark_read_spans.specs.declared.role.Stretch.{Stretch}
use Rattle.tocmark_read_spans.specs.declared.role.Target.{Target}
use Rattle.tocmark_read_inlines.specs.declared.write.Node.{Node}
use Rattle.tocmark_read_inlines.specs.declared.write.InlineKind.{InlineKind}
use Rattle.tocmark_read_inlines.specs.declared.write.InlineKind.TheVariants as item
use Rattle.tocmark_read_inlines.proofs.PlainPasses.{roles, AreRead, scan_parts}
use Rattle.tocmark_read_inlines.proofs.PlainNodes.{node, nodes_of, text_until, begun, written_parts}
use Rattle.tocmark_read_scan.specs.PlainParts.{Part, Bare, Escaped, Referred, Feed, spelled_part, spelled}

-- what is known of a text before it is read
abbrev pub known : List ℕ → s.Known
known bytes = s.ahead_in CORE bytes

scanned_parts : (parts : List Part) (defs : List ℕ → Option Entry) (targets : List Target) (texts : List ℕ) (missed : List Stretch) → AreRead (spelled parts) (known (spelled parts)) defs 0 parts → length (spelled parts) < 2 ^ 64 → (r : ℕ) × (s.scanned (spelled parts) defs (scan_start (length (spelled parts)) targets texts missed) ≡ record (scan_start (length (spelled parts)) targets texts missed) { roles = roles 0 parts; place = 0 + length (spelled parts); resume = r })
unfolding s.scanned_in s.settled scan_start emphasized
scanned_parts parts defs targets texts missed h fits =
    let read = scan_parts (spelled parts) (known (spelled parts)) defs parts (scan_start (length (spelled parts)) targets texts missed) [] h (omega arith) (omega arith) refl refl in
    (read.0, ap (s.settled 0) (read.1))

place_at : (start : ℕ) (xs : List ℕ) (k : ℕ) → k < length xs → slice_get (places_of start xs) k ≡ Some (start + k, start + k + 1)
place_at start [] k h = absurd (omega arith)
place_at start (x ∷ xs) zero h = let same : start + 0 ≡ start = omega arith in rw same refl
place_at start (x ∷ xs) (suc k) h =
    let same : start + 1 + k ≡ start + suc k = omega arith in
    place_at (start + 1) xs k (omega arith) ∙ rw same refl

moved_one : (bytes : List ℕ) (d : ℕ) (i : InlineKind) (start end : ℕ) → start < end → end ≤ length bytes → w.moved (places_of 0 bytes) (node d i start end) ≡ node d i start end
unfolding w.moved
moved_one bytes d i start end h k =
    let first : 0 + start ≡ start = omega arith in
    let last : 0 + (end - 1) + 1 ≡ end = omega arith in
    rw (place_at 0 bytes start (omega arith), place_at 0 bytes (end - 1) (omega arith), first, last) refl

-- the open text began before a place
abbrev BeganBefore : Option ℕ → ℕ → Type 0
BeganBefore None p = Unit {0}
BeganBefore (Some start) p = start < p

begun_before : (o : Option ℕ) (p : ℕ) → BeganBefore o p → begun o p < p + 1
begun_before None p h = omega arith
begun_before (Some start) p h = omega arith

moved_until : (bytes : List ℕ) (d : ℕ) (o : Option ℕ) (p : ℕ) → BeganBefore o p → p ≤ length bytes → map (w.moved (places_of 0 bytes)) (text_until d o p) ≡ text_until d o p
moved_until bytes d None p h k = refl
moved_until bytes d (Some start) p h k = ap (λ (n : Node). n ∷ []) (moved_one bytes d item.Text start p h k)

moved_then : (bytes : List ℕ) (d : ℕ) (o : Option ℕ) (p : ℕ) (ns : List Node) → BeganBefore o p → p ≤ length bytes → map (w.moved (places_of 0 bytes)) ns ≡ ns → map (w.moved (places_of 0 bytes)) (text_until d o p ++ ns) ≡ text_until d o p ++ ns
moved_then bytes d o p ns h k e =
    map-append (w.moved (places_of 0 bytes)) (text_until d o p) ns
    ∙ ap (λ (xs : List Node). xs ++ map (w.moved (places_of 0 bytes)) ns) (moved_until bytes d o p h k)
    ∙ ap (λ (xs : List Node). text_until d o p ++ xs) e

moved_leaf : (bytes : List ℕ) (d : ℕ) (i : InlineKind) (start end : ℕ) (ns : List Node) → start < end → end ≤ length bytes → map (w.moved (places_of 0 bytes)) ns ≡ ns → map (w.moved (places_of 0 bytes)) (node d i start end ∷ ns) ≡ node d i start end ∷ ns
moved_leaf bytes d i start end ns h k e = ap (λ (n : Node). n ∷ map (w.moved (places_of 0 bytes)) ns) (moved_one bytes d i start end h k) ∙ ap (λ (xs : List Node). node d i start end ∷ xs) e

-- where the content is the source, the nodes stay where they are
pub moved_nodes : (bytes : List ℕ) (d p : ℕ) (o : Option ℕ) (parts : List Part) → BeganBefore o p → p + length (spelled parts) ≤ length bytes → map (w.moved (places_of 0 bytes)) (nodes_of d p o parts) ≡ nodes_of d p o parts
moved_nodes bytes d p o [] h k = moved_until bytes d o p h (omega arith)
moved_nodes bytes d p o (Bare b ∷ parts) h k = moved_nodes bytes d (p + 1) (Some (begun o p)) parts (begun_before o p h) (omega arith)
moved_nodes bytes d p o (Escaped b ∷ parts) h k = moved_then bytes d o p _ h (omega arith) (moved_nodes bytes d (p + 2) (Some (p + 1)) parts (omega arith) (omega arith))
moved_nodes bytes d p o (Referred c bs ∷ parts) h k =
    let width : length (spelled_part (Referred c bs) ++ spelled parts) ≡ suc (length bs) + length (spelled parts) = length-append (spelled_part (Referred c bs)) (spelled parts) in
    moved_then bytes d o p _ h (omega arith) (moved_leaf bytes d _ p (p + 1 + length bs) _ (omega arith) (omega (arith, width, k)) (moved_nodes bytes d (p + suc (length bs)) None parts tt (omega (arith, width, k))))
moved_nodes bytes d p o (Feed ∷ parts) h k = moved_then bytes d o p _ h (omega arith) (moved_leaf bytes d _ p (p + 1) _ (omega arith) (omega arith) (moved_nodes bytes d (p + 1) None parts tt (omega arith)))

-- the inlines of such a leaf, whose content is the source
pub parts_inlines : (parts : List Part) (depth : ℕ) (defs : List ℕ → Option Entry) (t : inlines.State) → AreRead (spelled parts) (known (spelled parts)) defs 0 parts → length (spelled parts) < 2 ^ 64 → inlines.read_inlines (record { bytes = spelled parts; places = places_of 0 (spelled parts) }) depth defs t ≡ record t { nodes = t.nodes ++ nodes_of depth 0 None parts }
unfolding inlines.read_inlines_in scan_start
parts_inlines parts depth defs t h fits =
    let leaf : content.State = record { bytes = spelled parts; places = places_of 0 (spelled parts) } in
    let read = scanned_parts parts defs t.targets t.texts t.missed h fits in
    ap (λ after. inlines.inlines_from leaf depth after t) (read.1)
    ∙ ap (λ (ns : List Node). (record t { nodes = t.nodes ++ map (w.moved leaf.places) ns })) (written_parts parts depth fits)
    ∙ ap (λ (ns : List Node). (record t { nodes = t.nodes ++ ns })) (moved_nodes (spelled parts) depth 0 None parts tt (omega arith))
