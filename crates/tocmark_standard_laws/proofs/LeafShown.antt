-- The nodes of a leaf's inlines show the inlines that are declared.
use Rattle.std.proofs.Common.{◌≡◌, ℕ, ◌+◌, ◌-◌, ◌^◌, ◌*◌, ◌<◌, ◌≤◌, Bool, true, false, nat_lt, List, [], ◌∷◌, ◌++◌, length, map, flat_map, refl, ap, sym, ◌∙◌, subst, arith, append-nil}
use Rattle.std.specs.List.{AllByRecursion}
use Rattle.std.specs.Str.{IsCharBoundary}
use Rattle.std.proofs.lemmas.Bool.Decides.{nat_tests}
use Rattle.tocmark_read_scan.specs.Basic.{byte_at, bytes_between}
use Rattle.tocmark_read_scan.specs.Content as content
use Rattle.tocmark_read_scan.specs.Content.{content_of}
use Rattle.tocmark_read_scan.specs.declared.syntax.TheConstants.{CORE}
use Rattle.tocmark_read_blocks.specs.Blocks.{page_in, blocks_in}
use Rattle.tocmark_read_inlines.specs.Inlines.{scan_start, read_inlines_in}
use Rattle.tocmark_read_inlines.specs.Scan as scan
use Rattle.tocmark_read_inlines.specs.Write.{written, moved}
use Rattle.tocmark_read_inlines.specs.declared.write.Node.{Node}
use Rattle.tocmark_read_page.specs.Definitions.{replaced}
use Rattle.tocmark_read_page.specs.declared.piece.Piece.{Piece as Line}
use Rattle.tocmark_reader.specs.Formulas.{keeps_blanks}
use Rattle.tocmark_reader.specs.Inlines.{inline_node}
use Rattle.tocmark_reader.specs.Pages.{content_line, with_lines_of, leaf_inlines_in}
use Rattle.tocmark_reader.specs.Words.{feed_if}
use Rattle.tocmark_text_laws.proofs.InPlace.{At, page_shut}
use Rattle.tocmark_text_laws.proofs.Placed.{Held, Shut}
use Rattle.tocmark_commonmark.specs.Inlines.{inlines}
use Rattle.tocmark_block_laws.specs.Quotes.{ends_with_feed}
use Rattle.tocmark_block_laws.specs.Trees.{leaf_text}
use Rattle.tocmark_block_laws.proofs.Texts.{between_length}
use Rattle.tocmark_inline_laws.specs.Said.{commonmark, node_said, declared}
use Rattle.tocmark_inline_laws.specs.Statement.{LeadAlike}
use Rattle.tocmark_inline_laws.proofs.EachToken.{all_read}
use Rattle.tocmark_inline_laws.proofs.Run.{Reads, reads_say}
use Rattle.tocmark_standard_laws.proofs.Contents.{contents-declared}
use Rattle.tocmark_standard_laws.proofs.Cuts.{has_bytes, byte_between, byte_back, before_low}
use Rattle.tocmark_standard_laws.proofs.Ended.{piece_as_text}
use Rattle.tocmark_standard_laws.proofs.LeafNodes.{all_good, nodes_shown}
use Rattle.tocmark_standard_laws.proofs.LeafPlaces.{IsCutLine, IsSource, content_shown}
use Rattle.tocmark_standard_laws.proofs.Leaves.{lead_further}
use Rattle.tocmark_standard_laws.proofs.LineBlocks.{IsWhole, Shows, Looks, LeafShows}
use Rattle.tocmark_standard_laws.proofs.MarkedBytes.{IsWalked, content_walked}
use Rattle.tocmark_standard_laws.proofs.WholeLines.{zero_free}

-- a leaf

pub leaf_shown : (k : Looks) (text : List ℕ) (ps : List Line) (depth : ℕ) → LeadAlike k.base k.find k.labels → IsSource text → AllByRecursion (IsCutLine text) (map content_line ps) → ends_with_feed (leaf_text text ps) ≡ false → length (leaf_text text ps) + 2 < 2 ^ 64
    → depth + length (leaf_text text ps) < 2 ^ 64 → LeafShows k text ps depth
unfolding leaf_inlines_in with_lines_of keeps_blanks read_inlines_in
leaf_shown k text ps depth alike src cuts feedless short deep s beside = record {
  nodes = map (inline_node after.texts after.targets) (map (moved c.places) ns);
  more = r.grown.0;
  is = ap (λ (xs : List Node). s.nodes ++ map (inline_node after.texts after.targets) (xs ++ map (moved c.places) ns)) (beside.2);
  texts = r.grown.1;
  bare = λ e. refl;
  shown = subst (λ said. Shows text (map (inline_node after.texts after.targets) (map (moved c.places) ns)) (map piece_as_text said)) says
      (nodes_shown text c after.texts after.targets ns (content_shown text (map content_line ps) src cuts)
      (all_good c.bytes after.texts after.roles depth walked.stop r.long (omega (arith, fits)) walked.marks walked.past walked.feeds));
}
  where
    c : content.State
    c = content_of text (map content_line ps)

    same : c.bytes ≡ leaf_text text ps
    same = contents-declared text ps src.zeros feedless

    fits : length (content_of text (map content_line ps)).bytes + 2 < 2 ^ 64
    fits = subst (λ (bs : List ℕ). length bs + 2 < 2 ^ 64) (sym same) short

    after : scan.State
    after = scan.scanned_in commonmark c.bytes k.find (scan_start (length c.bytes) s.inlines.targets s.inlines.texts s.inlines.missed)

    ns : List Node
    ns = written after.roles depth

    leads : LeadAlike s.inlines.texts k.find k.labels
    leads = subst (λ ts. LeadAlike ts k.find k.labels) (sym (beside.1)) (lead_further k.base (beside.0) k.find k.labels alike)

    r : Reads c.bytes k.labels s.inlines.texts after
    r = all_read c.bytes fits k.labels k.find s.inlines.targets s.inlines.texts s.inlines.missed leads

    walked : IsWalked c.bytes after
    walked = content_walked c.bytes k.find s.inlines.targets s.inlines.texts s.inlines.missed fits

    says : flat_map (node_said c.bytes after.texts after.targets) ns ≡ declared depth (inlines k.labels (leaf_text text ps))
    says = reads_say c.bytes k.labels s.inlines.texts after depth fits (subst (λ (bs : List ℕ). depth + length bs < 2 ^ 64) (sym same) deep) r ∙ ap (λ bs. declared depth (inlines k.labels bs)) same

-- the lines of leaves

held_cut : (text : List ℕ) (m : ℕ) (p : Line) → IsSource text → Held (At text) m p → IsWhole text p → IsCutLine text (content_line p)
unfolding content_line
held_cut text m p src h w some = (h.begins, by (nat_lt p.end p.next) refl (sym (zero_free text p.start p.end src.zeros)))
  where
    order : p.start ≤ p.end
    order = (has_bytes text p.start p.end some).0

    inner : p.end ≤ length text
    inner = (has_bytes text p.start p.end some).1

    long : length (bytes_between text p.start p.end) ≡ p.end - p.start
    long = between_length text p.start p.end order inner

    ordered : p.start ≤ p.next
    ordered = h.ordered

    within : p.next ≤ length text
    within = (h.stops).0

    far : length (bytes_between text p.start p.next) ≡ p.next - p.start
    far = between_length text p.start p.next ordered within

    whole : bytes_between text p.start p.end ++ feed_if (nat_lt p.end p.next) ≡ bytes_between text p.start p.next
    whole = ap (λ xs. xs ++ feed_if (nat_lt p.end p.next)) (sym (zero_free text p.start p.end src.zeros)) ∙ w.bytes

    by : (k : Bool) → nat_lt p.end p.next ≡ k → bytes_between text p.start p.end ≡ flat_map replaced (bytes_between text p.start p.end) → IsCharBoundary text p.end
    by true e f = before_low text p.end (omega (arith, less, within)) (omega (arith, feed))
      where
        less : p.end < p.next
        less = grind (arith, nat_tests, e)

        both : bytes_between text p.start p.end ++ 10 ∷ [] ≡ bytes_between text p.start p.next
        both = sym (ap (λ k. bytes_between text p.start p.end ++ feed_if k) e) ∙ whole

        feed : byte_at text p.end ≡ 10
        feed =
            ap (byte_at text) (let q : p.end ≡ p.start + (p.end - p.start) = omega (arith, order) in q)
            ∙ sym (byte_between text p.start p.next (p.end - p.start) ordered within (omega (arith, less, order)))
            ∙ ap (byte_at (bytes_between text p.start p.next)) (let q : p.end - p.start ≡ length (bytes_between text p.start p.end) + 0 = omega (arith, long) in q)
            ∙ ap (λ xs. byte_at xs (length (bytes_between text p.start p.end) + 0)) (sym both)
            ∙ byte_back (bytes_between text p.start p.end) (10 ∷ []) 0
    by false e f = subst (IsCharBoundary text) same h.stops
      where
        equal : length (bytes_between text p.start p.end) ≡ length (bytes_between text p.start p.next)
        equal = ap length (sym (append-nil (bytes_between text p.start p.end)) ∙ sym (ap (λ k. bytes_between text p.start p.end ++ feed_if k) e) ∙ whole)

        same : p.next ≡ p.end
        same = omega (arith, equal, long, far, order, ordered)

all_cut : (text : List ℕ) (m : ℕ) (ps : List Line) → IsSource text → AllByRecursion (Held (At text) m) ps → AllByRecursion (IsWhole text) ps → AllByRecursion (λ (p : Line). IsCutLine text (content_line p)) ps
all_cut text m [] src h w = tt
all_cut text m (p ∷ ps) src h w = (held_cut text m p src (h.0) (w.0), all_cut text m ps src (h.1) (w.1))

-- so it is with all lines that the reader keeps whole
pub pieces_cut : (text : List ℕ) → IsSource text → 4 * length text + 1 < 2 ^ 64 → AllByRecursion (IsWhole text) (blocks_in CORE text).pieces → AllByRecursion (λ (p : Line). IsCutLine text (content_line p)) (blocks_in CORE text).pieces
unfolding blocks_in
pieces_cut text src small w = by (page_shut text src.utf8 small)
  where
    by : (m : ℕ) × Shut (At text) m (page_in CORE text) → AllByRecursion (λ (p : Line). IsCutLine text (content_line p)) (page_in CORE text).pieces
    by (m, h) = all_cut text m (page_in CORE text).pieces src (h.2) w

pub lines_cut : (text : List ℕ) (ps : List Line) → AllByRecursion (λ (p : Line). IsCutLine text (content_line p)) ps → AllByRecursion (IsCutLine text) (map content_line ps)
lines_cut text [] h = tt
lines_cut text (p ∷ ps) h = (h.0, lines_cut text ps (h.1))
