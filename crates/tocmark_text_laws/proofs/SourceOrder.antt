-- The inlines of a leaf begin one after the other in the source.
use Rattle.std.proofs.Common.{◌≡◌, ℕ, zero, suc, ◌+◌, ◌-◌, ◌*◌, ◌^◌, ◌<◌, ◌≤◌, Bool, true, false, ◌&&◌, if◌then◌else◌, nat_le, List, [], ◌∷◌, length, map, drop, refl, ◌∙◌, subst, arith}
use Rattle.std.specs.Prelude.{slice_get, slice_range, unwrap_or, Some}
use Rattle.std.specs.List.{AllByRecursion}
use Rattle.std.specs.Str.{IsUtf8}
use Rattle.tocmark_read_scan.specs.declared.syntax.TheConstants.{CORE}
use Rattle.tocmark_read_page.specs.declared.piece.Piece.{Piece}
use Rattle.tocmark_read_blocks.specs.Blocks.{blocks_in, page_in}
use Rattle.tocmark_read_inlines.specs.Write.{written, moved}
use Rattle.tocmark_read_inlines.specs.declared.write.Node.{Node}
use Rattle.tocmark_reader.specs.Pages.{content_line, pieces_of}
use Rattle.tocmark_text_laws.specs.InlineOrder.{IsAfter, AreInOrder, IsInLeaf, AreLaidOut}
use Rattle.tocmark_text_laws.specs.LineOrder.{Rise}
use Rattle.tocmark_text_laws.specs.SourceOrder.{leaf_of, BeginInOrder, InlinesFollowTheSource}
use Rattle.tocmark_text_laws.proofs.BlockNodes.{some_pieces}
use Rattle.tocmark_text_laws.proofs.Contents.{places_count}
use Rattle.tocmark_text_laws.proofs.InPlace.{At, page_shut}
use Rattle.tocmark_text_laws.proofs.InlineOrder.{inlines_ordered}
use Rattle.tocmark_text_laws.proofs.LeafPlaces.{Rising, IsMapped, leaf_mapped}
use Rattle.tocmark_text_laws.proofs.Placed.{Held, Shut}
use Rattle.tocmark_text_laws.proofs.Rising.{rise_take, lines_in_order}

-- some lines of leaves come one after the other, too
rise_drop : (m n j : ℕ) (ps : List Piece) → Rise m n ps → Rise 0 n (drop j ps)
rise_drop m n zero [] h = omega arith
rise_drop m n zero (p ∷ ps) h = (omega arith, h.1, h.2)
rise_drop m n (suc j) [] h = omega arith
rise_drop m n (suc j) (p ∷ ps) h = rise_drop p.next n j ps (h.2)

rise_some : (n : ℕ) (ps : List Piece) (first last : ℕ) → Rise 0 n ps → Rise 0 n (pieces_of ps first last)
rise_some n ps first last h = by (nat_le first last && nat_le last (length ps))
  where
    by : (x : Bool) → Rise 0 n (if x then slice_range ps first last else [])
    by true = rise_take 0 n (last - first) (drop first ps) (rise_drop 0 n first ps h)
    by false = omega arith

-- they are placed as lines of a leaf's text
lines_placed : (t : List ℕ) (m n k : ℕ) (ps : List Piece) → Rise m n ps → AllByRecursion (Held (At t) k) ps → Rising t m (map content_line ps)
unfolding content_line
lines_placed t m n k [] r h = tt
lines_placed t m n k (p ∷ ps) (a, b, c) (h, hs) = (a, record { begins = h.begins; stops = h.ends; next = h.stops; ordered = h.forward; onto = h.onto }, lines_placed t p.next n k ps c hs)

pub some_rising : (t : List ℕ) (first last : ℕ) → IsUtf8 t → 4 * length t + 1 < 2 ^ 64 → Rising t 0 (map content_line (pieces_of (blocks_in CORE t).pieces first last))
unfolding blocks_in
some_rising t first last u small = by (page_shut t u small)
  where
    by : (m : ℕ) × Shut (At t) m (page_in CORE t) → Rising t 0 (map content_line (pieces_of (page_in CORE t).pieces first last))
    by (m, h) = lines_placed t 0 (length t) m (pieces_of (page_in CORE t).pieces first last) (rise_some (length t) (page_in CORE t).pieces first last (lines_in_order t small)) (some_pieces t m (page_in CORE t).pieces first last (h.2))

-- where the bytes of the lines of a leaf are
pub some_mapped : (t : List ℕ) (first last : ℕ) → IsUtf8 t → 4 * length t + 1 < 2 ^ 64 → IsMapped t (leaf_of t first last).bytes (leaf_of t first last).places
some_mapped t first last u small = leaf_mapped t (map content_line (pieces_of (blocks_in CORE t).pieces first last)) u (omega arith) (some_rising t first last u small)

-- a place of a leaf's text has a range
pub got_place : (ps : List (ℕ × ℕ)) (i : ℕ) → i < length ps → (p : ℕ × ℕ) × (slice_get ps i ≡ Some p)
got_place [] i l = absurd (omega arith)
got_place (p ∷ ps) zero l = (p, refl)
got_place (p ∷ ps) (suc i) l = got_place ps i (omega arith)

-- an inline that doesn't begin before another one doesn't do so in the source
pub begins_after : (t bytes : List ℕ) (places : List (ℕ × ℕ)) (n m : Node) → IsMapped t bytes places → n.start ≤ m.start → m.start < length places → (moved places n).start ≤ (moved places m).start
unfolding moved
begins_after t bytes places n m h l k = by (got_place places n.start (omega arith)) (got_place places m.start k)
  where
    by : (p : ℕ × ℕ) × (slice_get places n.start ≡ Some p) → (q : ℕ × ℕ) × (slice_get places m.start ≡ Some q) → (unwrap_or (slice_get places n.start) (0, 0)).0 ≤ (unwrap_or (slice_get places m.start) (0, 0)).0
    by (p, e) (q, f) = rw (e, f) ((h.rises n.start m.start p q l e f).0)

all_after : (t bytes : List ℕ) (places : List (ℕ × ℕ)) (n : Node) (ms : List Node) → IsMapped t bytes places → AllByRecursion (IsAfter n) ms → AllByRecursion (IsInLeaf (length places)) ms → AllByRecursion (λ (m : Node). (moved places n).start ≤ m.start) (map (moved places) ms)
all_after t bytes places n [] h a k = tt
all_after t bytes places n (m ∷ ms) h a k = (begins_after t bytes places n m h (a.0).begins (k.0).begins, all_after t bytes places n ms h (a.1) (k.1))

moved_order : (t bytes : List ℕ) (places : List (ℕ × ℕ)) (ns : List Node) → IsMapped t bytes places → AreInOrder ns → AllByRecursion (IsInLeaf (length places)) ns → BeginInOrder (map (moved places) ns)
moved_order t bytes places [] h a k = tt
moved_order t bytes places (n ∷ ns) h a k = (all_after t bytes places n ns h (a.0) (k.1), moved_order t bytes places ns h (a.1) (k.1))

pub inlines_follow : InlinesFollowTheSource
inlines_follow t first last depth roles u small e short = moved_order t (leaf_of t first last).bytes (leaf_of t first last).places (written roles depth) (some_mapped t first last u small) laid.ordered inside
  where
    laid : AreLaidOut (length roles) (written roles depth)
    laid = inlines_ordered roles depth short

    counted : length roles ≡ length (leaf_of t first last).places
    counted = e ∙ places_count t (map content_line (pieces_of (blocks_in CORE t).pieces first last))

    inside : AllByRecursion (IsInLeaf (length (leaf_of t first last).places)) (written roles depth)
    inside = subst (λ n. AllByRecursion (IsInLeaf n) (written roles depth)) counted laid.inside
