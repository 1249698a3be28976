-- The nodes that are found in a plain text have ranges that their events keep.
use Rattle.std.proofs.Common.{◌≡◌, ℕ, suc, ◌+◌, ◌^◌, ◌<◌, ◌≤◌, true, List, [], ◌∷◌, ◌++◌, length, map, sym, subst, arith, length-append, Option, Some, None}
use Rattle.std.specs.List.{AllByRecursion}
use Rattle.tocmark_read_scan.specs.PlainParts.{Part, Bare, Escaped, Referred, Feed, spelled}
use Rattle.tocmark_read_scan.proofs.PlainPieces.{feed_joined}
use Rattle.tocmark_read_inlines.specs.declared.write.Node.{Node}
use Rattle.tocmark_read_inlines.proofs.PlainNodes.{nodes_of, text_until, begun}
use Rattle.tocmark_reader.specs.Inlines.{inline_node}
use Rattle.tocmark_reader.specs.PlainTexts.{text_parts, is_plain_text, AreKept}
use Rattle.tocmark_reader.specs.Range.{snapped}
use Rattle.tocmark_reader.specs.Reading.{found_in, FoundView}
use Rattle.tocmark_reader.proofs.PlainEvents.{viewed}
use Rattle.tocmark_reader.proofs.PlainLeaves.{found_parts, found_text}
use Rattle.tocmark_reader.proofs.PlainReading.{IsPlainText, clean_lines, read_text, spelled_text}
use Rattle.tocmark_reader.proofs.PlainSources.{AreClean, snapped_clean}
use Rattle.tocmark_reader.proofs.PlainTests.{text_from}

-- the same of the nodes of inlines
abbrev AreKeptNodes : List ℕ → List Node → Type 0
AreKeptNodes text ns = AllByRecursion (λ n. snapped text n.start n.end ≡ (n.start, n.end)) ns

kept_append : (text : List ℕ) (xs ys : List Node) → AreKeptNodes text xs → AreKeptNodes text ys → AreKeptNodes text (xs ++ ys)
kept_append text [] ys h k = k
kept_append text (x ∷ xs) ys h k = (h.0, kept_append text xs ys (h.1) k)

-- an open text begins before its end
abbrev IsBefore : Option ℕ → ℕ → Type 0
IsBefore None p = Unit {0}
IsBefore (Some start) p = start ≤ p

until_kept : (text : List ℕ) (o : Option ℕ) (p : ℕ) → AreClean text → IsBefore o p → p ≤ length text → AreKeptNodes text (text_until 1 o p)
until_kept text None p clean b fits = tt
until_kept text (Some start) p clean b fits = (snapped_clean text start p clean b fits, tt)

begun_before : (o : Option ℕ) (p : ℕ) → IsBefore o p → begun o p ≤ p + 1
begun_before None p b = omega arith
begun_before (Some start) p b = omega arith

-- the nodes of parts
nodes_kept : (text : List ℕ) (p : ℕ) (o : Option ℕ) (parts : List Part) → AreClean text → IsBefore o p → p + length (spelled parts) ≤ length text → AreKeptNodes text (nodes_of 1 p o parts)
nodes_kept text p o [] clean b fits = until_kept text o p clean b (omega arith)
nodes_kept text p o (Bare c ∷ parts) clean b fits =
    nodes_kept text (p + 1) (Some (begun o p)) parts clean (begun_before o p b) (omega arith)
nodes_kept text p o (Escaped c ∷ parts) clean b fits =
    let next : p + 1 ≤ p + 2 = omega arith in
    kept_append text (text_until 1 o p) (nodes_of 1 (p + 2) (Some (p + 1)) parts) (until_kept text o p clean b (omega arith))
    (nodes_kept text (p + 2) (Some (p + 1)) parts clean next (omega arith))
nodes_kept text p o (Referred c bs ∷ parts) clean b fits =
    let width : length ((38 ∷ bs) ++ spelled parts) ≡ suc (length bs) + length (spelled parts) = length-append (38 ∷ bs) (spelled parts) in
    let inside : p + suc (length bs) + length (spelled parts) ≤ length text = omega (arith, width, fits) in
    kept_append text (text_until 1 o p) _ (until_kept text o p clean b (omega (arith, inside))) (
      snapped_clean text p (p + 1 + length bs) clean (omega arith) (omega (arith, inside)),
      nodes_kept text (p + suc (length bs)) None parts clean tt inside,
    )
nodes_kept text p o (Feed ∷ parts) clean b fits =
    kept_append text (text_until 1 o p) _ (until_kept text o p clean b (omega arith)) (
      snapped_clean text p (p + 1) clean (omega arith) (omega arith),
      nodes_kept text (p + 1) None parts clean tt (omega arith),
    )

viewed_kept : (text : List ℕ) (ns : List Node) → AreKeptNodes text ns → AreKept text (viewed ns)
unfolding inline_node
viewed_kept text [] h = tt
viewed_kept text (n ∷ ns) h = (h.0, viewed_kept text ns (h.1))

-- no range of a node of a plain text is changed
pub ranges_kept : (l : List Part) (ms : List (List Part)) → is_plain_text l ms ≡ true → length (spelled (text_parts l ms)) < 2 ^ 64 → AreKept (spelled (text_parts l ms)) (found_in (spelled (text_parts l ms))).nodes
ranges_kept l ms h fits =
    let plain : IsPlainText l ms = text_from l ms h fits in
    let parts : List Part = text_parts l ms in
    let text : List ℕ = spelled parts in
    let joined : text ≡ feed_joined (spelled l) (map spelled ms) = spelled_text l ms in
    let clean : AreClean text = subst AreClean (sym joined) (clean_lines l ms plain.lines) in
    let found : found_in text ≡ found_parts (length text) parts =
    subst (λ (xs : List ℕ). found_in xs ≡ found_parts (length xs) parts) (sym joined) (found_text (spelled l) (map spelled ms) parts (read_text l ms plain))
    in
    let none : 0 + length text ≤ length text = omega arith in
    subst (λ (f : FoundView). AreKept text f.nodes) (sym found)
    (snapped_clean text 0 (length text) clean (omega arith) (omega arith), viewed_kept text (nodes_of 1 0 None parts) (nodes_kept text 0 None parts clean tt none))
