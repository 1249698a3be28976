-- The depths of blocks and the lengths of their texts are numbers of 64 bits in texts of less than a gibibyte.
use Rattle.std.proofs.Common.{◌≡◌, ℕ, suc, ◌+◌, ◌-◌, ◌*◌, ◌^◌, ◌<◌, ◌≤◌, Bool, true, false, ◌==◌, ◌&&◌, if◌then◌else◌, nat_le, List, [], ◌∷◌, ◌++◌, length, take, drop, flat_map, map, ap, ◌∙◌, arith, length-append, length-take}
use Rattle.std.specs.Prelude.{min, slice_range}
use Rattle.std.specs.List.{AllByRecursion}
use Rattle.std.proofs.lemmas.List.{length-drop, length-map}
use Rattle.tocmark_read_scan.specs.Basic.{bytes_between}
use Rattle.tocmark_read_scan.specs.Content.{content_of}
use Rattle.tocmark_read_scan.specs.declared.content.ContentLine.{ContentLine}
use Rattle.tocmark_read_scan.specs.declared.syntax.TheConstants.{CORE}
use Rattle.tocmark_read_page.specs.Definitions.{replaced}
use Rattle.tocmark_read_page.specs.declared.page.Block.{Block}
use Rattle.tocmark_read_page.specs.declared.page.BlockKind.{BlockKind}
use Rattle.tocmark_read_page.specs.declared.piece.Piece.{Piece}
use Rattle.tocmark_read_blocks.specs.Blocks.{blocks_in, page_in}
use Rattle.tocmark_reader.specs.Pages.{content_line, pieces_of}
use Rattle.tocmark_text_laws.specs.Housed.{AreHoused}
use Rattle.tocmark_text_laws.specs.Kept.{IsKept, line_bytes}
use Rattle.tocmark_text_laws.specs.Proper.{IsCounted}
use Rattle.tocmark_text_laws.proofs.Alls.{all_weaker}
use Rattle.tocmark_text_laws.proofs.Assembling.{readings_proper}
use Rattle.tocmark_text_laws.proofs.HouseWalk.{blocks_housed}
use Rattle.tocmark_text_laws.proofs.KeptLines.{lines_kept}
use Rattle.tocmark_text_laws.specs.Counted.{ShortReadingsAreProper, ShortTextsAreCounted}
use Rattle.tocmark_text_laws.proofs.Few.{between_few, page_few}

-- a block is no deeper than there are blocks
housed_low : (n : ℕ) (before : List BlockKind) (bs : List Block) → length before + length bs ≤ n → AreHoused before bs → AllByRecursion (λ (b : Block). b.depth ≤ n) bs
housed_low n before [] l h = tt
housed_low n before (b ∷ bs) l h = (omega (arith, (h.0).deep), housed_low n (take b.depth before ++ b.kind ∷ []) bs (omega (arith, size, (h.0).deep)) (h.1))
  where
    size : length (take b.depth before ++ b.kind ∷ []) ≤ b.depth + 1
    size = let w : length (take b.depth before ++ b.kind ∷ []) ≡ length (take b.depth before) + 1 = length-append (take b.depth before) (b.kind ∷ []) in let q : length (take b.depth before) ≡ min b.depth (length before) = length-take b.depth before in omega arith

-- a byte is shown as three at most
replaced_few : (bs : List ℕ) → length (flat_map replaced bs) ≤ 3 * length bs
unfolding replaced
replaced_few [] = omega arith
replaced_few (b ∷ bs) = by (b == 0) (replaced_few bs)
  where
    by : (x : Bool) → length (flat_map replaced bs) ≤ 3 * length bs → length ((if x then 0xef ∷ 0xbf ∷ 0xbd ∷ [] else b ∷ []) ++ flat_map replaced bs) ≤ 3 * suc (length bs)
    by true l = omega arith
    by false l = omega arith

line_few : (t : List ℕ) (l : ContentLine) → length t < 2 ^ 30 → length (line_bytes t l) ≤ 2 ^ 32
line_few t l short =
    let w : length (line_bytes t l) ≡ length (flat_map replaced (bytes_between t l.start l.end)) + 1 = length-append (flat_map replaced (bytes_between t l.start l.end)) (10 ∷ []) in
    let q : length (flat_map replaced (bytes_between t l.start l.end)) ≤ 3 * length (bytes_between t l.start l.end) = replaced_few (bytes_between t l.start l.end) in
    let r : length (bytes_between t l.start l.end) ≤ length t = between_few t l.start l.end in
    omega arith

lines_short : (t : List ℕ) (ls : List ContentLine) → length t < 2 ^ 30 → length (flat_map (line_bytes t) ls) ≤ 2 ^ 32 * length ls
lines_short t [] short = omega arith
lines_short t (l ∷ ls) short =
    let w : length (line_bytes t l ++ flat_map (line_bytes t) ls) ≡ length (line_bytes t l) + length (flat_map (line_bytes t) ls) = length-append (line_bytes t l) (flat_map (line_bytes t) ls) in
    let q : length (line_bytes t l) ≤ 2 ^ 32 = line_few t l short in
    let r : length (flat_map (line_bytes t) ls) ≤ 2 ^ 32 * length ls = lines_short t ls short in
    omega arith

content_few : (t : List ℕ) (ls : List ContentLine) → length t < 2 ^ 30 → length (content_of t ls).bytes ≤ 2 ^ 32 * length ls
content_few t ls short =
    let k : IsKept t ls = lines_kept t ls in
    let w : length (flat_map (line_bytes t) ls) ≡ length (content_of t ls).bytes + length k.white = ap (λ (xs : List ℕ). length xs) k.whole ∙ length-append (content_of t ls).bytes k.white in
    let q : length (flat_map (line_bytes t) ls) ≤ 2 ^ 32 * length ls = lines_short t ls short in
    omega arith

pieces_few : (ps : List Piece) (first last : ℕ) → length (pieces_of ps first last) ≤ length ps
pieces_few ps first last = by (nat_le first last && nat_le last (length ps))
  where
    by : (x : Bool) → length (if x then slice_range ps first last else []) ≤ length ps
    by true = let w : length (take (last - first) (drop first ps)) ≡ min (last - first) (length (drop first ps)) = length-take (last - first) (drop first ps) in let q : length (drop first ps) ≡ length ps - first = length-drop first ps in omega arith
    by false = omega arith

counted : (t : List ℕ) (ps : List Piece) (b : Block) → length t < 2 ^ 30 → length ps ≤ 2 ^ 30 → b.depth ≤ 2 ^ 63 → IsCounted t ps b
counted t ps b short few low =
    let lines = map content_line (pieces_of ps b.first b.last) in
    let w : length (content_of t lines).bytes ≤ 2 ^ 32 * length lines = content_few t lines short in
    let q : length lines ≡ length (pieces_of ps b.first b.last) = length-map (pieces_of ps b.first b.last) content_line in
    let r : length (pieces_of ps b.first b.last) ≤ length ps = pieces_few ps b.first b.last in
    omega arith

pub short_counted : ShortTextsAreCounted
unfolding blocks_in
short_counted t short =
    let few = page_few t short in
    all_weaker (λ (b : Block). b.depth ≤ 2 ^ 63) (IsCounted t (page_in CORE t).pieces) (page_in CORE t).blocks (λ b low. counted t (page_in CORE t).pieces b short (few.1) low)
    (housed_low (2 ^ 63) [] (page_in CORE t).blocks (omega (arith, few.0)) (blocks_housed t))

pub short_proper : ShortReadingsAreProper
short_proper t short = readings_proper t (short_counted t short)
