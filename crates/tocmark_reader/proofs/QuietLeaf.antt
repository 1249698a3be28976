-- A leaf whose lines have no mark in any reading is read as its lines, a text for each.
use Rattle.std.proofs.Common.{◌≡◌, ℕ, zero, suc, ◌+◌, ◌-◌, ◌^◌, ◌<◌, ◌≤◌, true, false, not, ◌==◌, ◌||◌, List, [], ◌∷◌, ◌++◌, length, map, slice_get, unwrap_or, refl, ap, sym, subst, ◌∙◌, arith, append_assoc, append-nil, length-append, Option, Some, None, inl, inr, true≢false}
use Rattle.std.specs.List.{AllByRecursion, fold}
use Rattle.tocmark_read_scan.specs.Class.{is_in}
use Rattle.tocmark_read_scan.specs.Content as content
use Rattle.tocmark_read_scan.specs.PlainParts.{Part, Feed, spelled, last_byte}
use Rattle.tocmark_read_scan.specs.declared.class.Class.TheVariants.{White}
use Rattle.tocmark_read_scan.proofs.PlainContent.{places_of, length_places}
use Rattle.tocmark_read_scan.proofs.PlainTests.{both_false, both_true, differs}
use Rattle.tocmark_read_page.specs.declared.piece.Piece.{Piece}
use Rattle.tocmark_read_scan.specs.declared.syntax.Syntax.{Syntax}
use Rattle.tocmark_read_inlines.specs.Inlines as inlines
use Rattle.tocmark_read_inlines.specs.Scan as s
use Rattle.tocmark_read_inlines.specs.Write.{moved}
use Rattle.tocmark_read_inlines.specs.declared.write.Node.{Node}
use Rattle.tocmark_read_inlines.specs.declared.write.InlineKind.TheVariants as item
use Rattle.tocmark_read_spans.specs.declared.definitions.Entry.{Entry}
use Rattle.tocmark_read_spans.specs.declared.role.Leaf.TheVariants as leaf
use Rattle.tocmark_read_spans.specs.declared.role.Target.{Target}
use Rattle.tocmark_read_inlines.proofs.PlainInlines.{IsInert}
use Rattle.tocmark_read_inlines.proofs.PlainLeaf.{known}
use Rattle.tocmark_read_inlines.proofs.PlainNeighbours.{ArePlainParts, plain_parts_are_read}
use Rattle.tocmark_read_inlines.proofs.PlainNodes.{node, nodes_of}
use Rattle.tocmark_reader.specs.Emitted.{NodeView, Writing, step}
use Rattle.tocmark_reader.specs.Formulas.{keeps_blanks}
use Rattle.tocmark_reader.specs.Inlines.{inline_item, inline_node, leaf_of}
use Rattle.tocmark_reader.specs.Pages.{State, Progress, content_line, leaf_inlines_in, with_inlines, written_by}
use Rattle.tocmark_reader.specs.QuietLines.{is_text_byte, are_quiet_lines, further_nodes, all_further, quiet_nodes}
use Rattle.tocmark_reader.proofs.FormulaLines.{found_plainly}
use Rattle.tocmark_reader.proofs.PlacedParts.{parts_inlines_placed}
use Rattle.tocmark_reader.proofs.QuietInlines.{IsTextOrFeed, no_mark, read_alike}
use Rattle.tocmark_reader.proofs.QuietContent.{bytes_of, AreQuiet, are_quiet, bares, line_parts, joined, joined_places, spelled_lines, content_of_quiet}

quiet_from : (b : ℕ) → is_text_byte b ≡ true → s.is_quiet b ≡ true
unfolding is_text_byte
quiet_from b h = (both_true (s.is_quiet b) (not (b == 0)) h).0

-- such a byte means nothing to the first pass
inert_from : (b : ℕ) → is_text_byte b ≡ true → IsInert b
unfolding s.is_mark
inert_from b h =
    let out : s.is_mark b ≡ false = no_mark b (quiet_from b h) in
    record {
      bracket = differs s.is_mark b 91 refl out;
      exclamation = differs s.is_mark b 33 refl out;
      closing = differs s.is_mark b 93 refl out;
      less = differs s.is_mark b 60 refl out;
      backslash = differs s.is_mark b 92 refl out;
      ampersand = differs s.is_mark b 38 refl out;
      feed = differs s.is_mark b 10 refl out;
      backtick = differs s.is_mark b 96 refl out;
      star = differs s.is_mark b 42 refl out;
      underscore = differs s.is_mark b 95 refl out;
    }

-- the parts of lines mean themselves by their neighbours
bares_plain : (before : ℕ) (xs : List ℕ) (rest : List Part) → AllByRecursion (λ b. is_text_byte b ≡ true) xs → ArePlainParts (last_byte before xs) rest → ArePlainParts before (bares xs rest)
bares_plain before [] rest h k = k
bares_plain before (x ∷ xs) rest h k = (inl (inert_from x (h.0)), bares_plain x xs rest (h.1) k)

no_space : (b : ℕ) → is_in White b ≡ false → (b == 32) ≡ false
unfolding is_in
no_space b h = (both_false (b == 32) (b == 9) ((both_false ((b == 32) || (b == 9)) (b == 10) h).0)).0

-- the last byte doesn't depend on the byte before the first one
last_of : (before : ℕ) (xs : List ℕ) → is_in White (last_byte 10 xs) ≡ false → last_byte before xs ≡ last_byte 10 xs
unfolding is_in
last_of before [] h = absurd (true≢false h)
last_of before (x ∷ xs) h = refl

lines_plain : (text : List ℕ) (before : ℕ) (l : Piece) (ls : List Piece) → AreQuiet text l ls → ArePlainParts before (line_parts text l ls)
lines_plain text before l [] h = bares_plain before (bytes_of text l) [] h.bytes tt
lines_plain text before l (n ∷ ns) h =
    let xs : List ℕ = bytes_of text l in
    let quiet = h.0 in
    let space : (last_byte before xs == 32) ≡ false = ap (λ b. b == 32) (last_of before xs quiet.ink) ∙ no_space (last_byte 10 xs) quiet.ink in
    bares_plain before xs (Feed ∷ line_parts text n ns) quiet.bytes (space, lines_plain text 10 n ns (h.2))

-- bytes of texts, and line feeds between lines
texts_all : (xs : List ℕ) → AllByRecursion (λ b. is_text_byte b ≡ true) xs → AllByRecursion IsTextOrFeed xs
texts_all [] h = tt
texts_all (x ∷ xs) h = (inl (quiet_from x (h.0)), texts_all xs (h.1))

texts_then : (xs ys : List ℕ) → AllByRecursion (λ b. is_text_byte b ≡ true) xs → AllByRecursion IsTextOrFeed ys → AllByRecursion IsTextOrFeed (xs ++ ys)
texts_then [] ys h k = k
texts_then (x ∷ xs) ys h k = (inl (quiet_from x (h.0)), texts_then xs ys (h.1) k)

lines_all : (text : List ℕ) (l : Piece) (ls : List Piece) → AreQuiet text l ls → AllByRecursion IsTextOrFeed (joined text l ls)
lines_all text l [] h = texts_all (bytes_of text l) h.bytes
lines_all text l (n ∷ ns) h = texts_then (bytes_of text l) (10 ∷ joined text n ns) (h.0).bytes (inr refl, lines_all text n ns (h.2))

-- lines fit into their text
lines_fit : (text : List ℕ) (l : Piece) (ls : List Piece) → AreQuiet text l ls → l.start + length (joined text l ls) ≤ length text
lines_fit text l [] h = let width = h.width in let within = h.within in omega (arith, width, within)
lines_fit text l (n ∷ ns) h =
    let xs : List ℕ = bytes_of text l in
    let more : List ℕ = joined text n ns in
    let all : length (xs ++ 10 ∷ more) ≡ length xs + suc (length more) = length-append xs (10 ∷ more) in
    let width : l.start + length xs ≡ l.end = (h.0).width in
    let after : l.end < n.start = h.1 in
    let later : n.start + length more ≤ length text = lines_fit text n ns (h.2) in
    omega (arith, all, width, after, later)

-- a text of bytes goes on up to the next part
nodes_on : (d p start : ℕ) (xs : List ℕ) (rest : List Part) → nodes_of d p (Some start) (bares xs rest) ≡ nodes_of d (p + length xs) (Some start) rest
nodes_on d p start [] rest = ap (λ q. nodes_of d q (Some start) rest) (let q : p ≡ p + 0 = omega arith in q)
nodes_on d p start (x ∷ xs) rest = nodes_on d (p + 1) start xs rest ∙ ap (λ q. nodes_of d q (Some start) rest) (let q : p + 1 + length xs ≡ p + suc (length xs) = omega arith in q)

nodes_begun : (d p end : ℕ) (xs : List ℕ) (rest : List Part) → is_in White (last_byte 10 xs) ≡ false → p + length xs ≡ end → nodes_of d p None (bares xs rest) ≡ nodes_of d end (Some p) rest
unfolding is_in
nodes_begun d p end [] rest h e = absurd (true≢false h)
nodes_begun d p end (x ∷ xs) rest h e =
    nodes_on d (p + 1) p xs rest ∙ ap (λ q. nodes_of d q (Some p) rest) (let q : p + 1 + length xs ≡ end = omega (arith, e) in q)

-- a line that ends in ink isn't empty
some_byte : (xs : List ℕ) → is_in White (last_byte 10 xs) ≡ false → 0 < length xs
unfolding is_in
some_byte [] h = absurd (true≢false h)
some_byte (x ∷ xs) h = omega arith

-- the ranges of the bytes of a line among others
got_after : (before ranges : List (ℕ × ℕ)) (k n : ℕ) → n ≡ length before + k → slice_get (before ++ ranges) n ≡ slice_get ranges k
got_after [] ranges k n e = ap (slice_get ranges) (let q : n ≡ k = omega (arith, e) in q)
got_after (r ∷ before) ranges k zero e = absurd (omega (arith, e))
got_after (r ∷ before) ranges k (suc n) e = got_after before ranges k n (omega (arith, e))

place_in : (start : ℕ) (xs : List ℕ) (others : List (ℕ × ℕ)) (k : ℕ) → k < length xs → slice_get (places_of start xs ++ others) k ≡ Some (start + k, start + k + 1)
place_in start [] others k h = absurd (omega arith)
place_in start (x ∷ xs) others zero h = ap (λ n. Some (n, n + 1)) (let q : start ≡ start + 0 = omega arith in q)
place_in start (x ∷ xs) others (suc k) h =
    place_in (start + 1) xs others k (omega arith) ∙ ap (λ n. Some (n, n + 1)) (let q : start + 1 + k ≡ start + suc k = omega arith in q)

-- the node of a line's text, and of its line feed, in the source
text_moved : (ps before others : List (ℕ × ℕ)) (d p start end : ℕ) (xs : List ℕ) → ps ≡ before ++ (places_of start xs ++ others) → length before ≡ p → 0 < length xs → start + length xs ≡ end → moved ps (node d item.Text p (p + length xs)) ≡ node d item.Text start end
unfolding moved
text_moved ps before others d p start end xs e n some width =
    let last : ℕ = length xs - 1 in
    let get : (at k : ℕ) → at ≡ length before + k → k < length xs → slice_get ps at ≡ Some (start + k, start + k + 1) =
    λ at k same below. ap (λ (l : List (ℕ × ℕ)). slice_get l at) e ∙ got_after before (places_of start xs ++ others) k at same ∙ place_in start xs others k below
    in
    let one : slice_get ps p ≡ Some (start + 0, start + 0 + 1) = get p 0 (omega (arith, n)) some in
    let two : slice_get ps (p + length xs - 1) ≡ Some (start + last, start + last + 1) = get (p + length xs - 1) last (omega (arith, n, some)) (omega (arith, some)) in
    let begin : start + 0 ≡ start = omega arith in
    let stop : start + last + 1 ≡ end = omega (arith, some, width) in
    ap (λ (o : Option (ℕ × ℕ)). node d item.Text (unwrap_or o (0, 0)).0 (unwrap_or (slice_get ps (p + length xs - 1)) (0, 0)).1) one
    ∙ ap (λ (o : Option (ℕ × ℕ)). node d item.Text (start + 0) (unwrap_or o (0, 0)).1) two
    ∙ ap (λ k. node d item.Text k (start + last + 1)) begin
    ∙ ap (λ k. node d item.Text start k) stop

feed_moved : (ps before others : List (ℕ × ℕ)) (d p start end next : ℕ) (xs : List ℕ) → ps ≡ before ++ (places_of start xs ++ (end, next) ∷ others) → length before ≡ p → moved ps (node d (item.Leaf leaf.SoftBreak) (p + length xs) (p + length xs + 1)) ≡ node d (item.Leaf leaf.SoftBreak) end next
unfolding moved
feed_moved ps before others d p start end next xs e n =
    let at : ℕ = p + length xs in
    let wide : length (places_of start xs) ≡ length xs = length_places start xs in
    let here : slice_get ps at ≡ Some (end, next) =
    ap (λ (l : List (ℕ × ℕ)). slice_get l at) e
    ∙ got_after before (places_of start xs ++ (end, next) ∷ others) (length xs) at (omega (arith, n))
    ∙ got_after (places_of start xs) ((end, next) ∷ others) 0 (length xs) (omega (arith, wide))
    in
    let same : at + 1 - 1 ≡ at = omega arith in
    let shown : ℕ → Node = λ k. node d (item.Leaf leaf.SoftBreak) (unwrap_or (slice_get ps at) (0, 0)).0 (unwrap_or (slice_get ps k) (0, 0)).1 in
    ap shown same ∙ ap (λ (o : Option (ℕ × ℕ)). node d (item.Leaf leaf.SoftBreak) (unwrap_or o (0, 0)).0 (unwrap_or o (0, 0)).1) here

-- the nodes of lines after another
abbrev further : ℕ → Piece → List Piece → List Node
further d l [] = []
further d l (n ∷ ns) = node d (item.Leaf leaf.SoftBreak) l.end l.next ∷ node d item.Text n.start n.end ∷ further d n ns

abbrev line_nodes : ℕ → Piece → List Piece → List Node
line_nodes d l ls = node d item.Text l.start l.end ∷ further d l ls

nodes_of_lines : (text : List ℕ) (ps before : List (ℕ × ℕ)) (d p : ℕ) (l : Piece) (ls : List Piece) → AreQuiet text l ls → ps ≡ before ++ joined_places text l ls → length before ≡ p → map (moved ps) (nodes_of d p None (line_parts text l ls)) ≡ line_nodes d l ls
nodes_of_lines text ps before d p l [] h e n =
    let xs : List ℕ = bytes_of text l in
    let all : ps ≡ before ++ (places_of l.start xs ++ []) = e ∙ ap (λ (rs : List (ℕ × ℕ)). before ++ rs) (sym (append-nil (places_of l.start xs))) in
    ap (map (moved ps)) (nodes_begun d p (p + length xs) xs [] h.ink refl)
    ∙ ap (λ (m : Node). m ∷ []) (text_moved ps before [] d p l.start l.end xs all n (some_byte xs h.ink) h.width)
nodes_of_lines text ps before d p l (m ∷ ms) h e n =
    let xs : List ℕ = bytes_of text l in
    let end : ℕ = p + length xs in
    let ranges : List (ℕ × ℕ) = places_of l.start xs in
    let feed : List (ℕ × ℕ) = (l.end, l.next) ∷ [] in
    let others : List (ℕ × ℕ) = joined_places text m ms in
    let parts : List Part = line_parts text m ms in
    let passed : List (ℕ × ℕ) = before ++ (ranges ++ feed) in
    let rest : ps ≡ passed ++ others =
    e
    ∙ ap (λ (rs : List (ℕ × ℕ)). before ++ rs) (sym (append_assoc ranges feed others))
    ∙ sym (append_assoc before (ranges ++ feed) others)
    in
    let wide : length ranges ≡ length xs = length_places l.start xs in
    let one : length (ranges ++ feed) ≡ length ranges + 1 = length-append ranges feed in
    let two : length passed ≡ length before + length (ranges ++ feed) = length-append before (ranges ++ feed) in
    let further_on : length passed ≡ end + 1 = omega (arith, wide, one, two, n) in
    let later : List Node = map (moved ps) (nodes_of d (end + 1) None parts) in
    ap (map (moved ps)) (nodes_begun d p end xs (Feed ∷ parts) (h.0).ink refl)
    ∙ ap (λ (x : Node). x ∷ moved ps (node d (item.Leaf leaf.SoftBreak) end (end + 1)) ∷ later)
    (text_moved ps before ((l.end, l.next) ∷ others) d p l.start l.end xs e n (some_byte xs (h.0).ink) (h.0).width)
    ∙ ap (λ (x : Node). node d item.Text l.start l.end ∷ x ∷ later) (feed_moved ps before others d p l.start l.end l.next xs e n)
    ∙ ap (λ (xs : List Node). node d item.Text l.start l.end ∷ node d (item.Leaf leaf.SoftBreak) l.end l.next ∷ xs)
    (nodes_of_lines text ps passed d (end + 1) m ms (h.2) rest further_on)

-- the same nodes, as those of events
shown_further : (texts : List ℕ) (targets : List Target) (d : ℕ) (l : Piece) (ls : List Piece) → map (inline_node texts targets) (further d l ls) ≡ all_further d l ls
unfolding inline_node inline_item leaf_of
shown_further texts targets d l [] = refl
shown_further texts targets d l (n ∷ ns) = ap (λ (xs : List NodeView). further_nodes d l n ++ xs) (shown_further texts targets d n ns)

shown_lines : (texts : List ℕ) (targets : List Target) (d : ℕ) (l : Piece) (ls : List Piece) → map (inline_node texts targets) (line_nodes d l ls) ≡ quiet_nodes d (l ∷ ls)
unfolding inline_node inline_item
shown_lines texts targets d l ls = ap (λ (ns : List NodeView). inline_node texts targets (node d item.Text l.start l.end) ∷ ns) (shown_further texts targets d l ls)

-- the inlines of such lines
lines_read : (syntax : Syntax) (text : List ℕ) (find : List ℕ → Option Entry) (l : Piece) (ls : List Piece) (d : ℕ) (t : inlines.State) → AreQuiet text l ls → length text < 2 ^ 64 → inlines.read_inlines_in syntax (content.content_of text (map content_line (l ∷ ls))) d find t ≡ record t { nodes = t.nodes ++ line_nodes d l ls }
lines_read syntax text find l ls d t h fits =
    let parts : List Part = line_parts text l ls in
    let all : List ℕ = joined text l ls in
    let same : spelled parts ≡ all = spelled_lines text l ls in
    let within : l.start + length all ≤ length text = lines_fit text l ls h in
    let room : length (spelled parts) < 2 ^ 64 = subst (λ (xs : List ℕ). length xs < 2 ^ 64) (sym same) (omega (arith, within, fits)) in
    let ps : List (ℕ × ℕ) = joined_places text l ls in
    let body : List ℕ → content.State = λ xs. record { bytes = xs; places = ps } in
    ap (λ (c : content.State). inlines.read_inlines_in syntax c d find t) (content_of_quiet text l ls h fits)
    ∙ read_alike syntax (body all) d find t (lines_all text l ls h)
    ∙ ap (λ (xs : List ℕ). inlines.read_inlines (body xs) d find t) (sym same)
    ∙ parts_inlines_placed parts ps d find t (plain_parts_are_read (spelled parts) [] (known (spelled parts)) find 0 10 parts refl refl room refl (lines_plain text 10 l ls h)) room
    ∙ ap (λ (ns : List Node). (record t { nodes = t.nodes ++ ns })) (nodes_of_lines text ps [] d 0 l ls h refl refl)

-- with no nodes before, nothing but the nodes of the lines is found
found_only : (t : inlines.State) (d : ℕ) (l : Piece) (ls : List Piece) → t.nodes ≡ [] → with_inlines (record t { nodes = t.nodes ++ line_nodes d l ls }) (record { nodes = []; inlines = t }) ≡ record { nodes = quiet_nodes d (l ∷ ls); inlines = t }
found_only t d l ls e =
    ap (λ (ns : List Node). (let s : State = record { nodes = map (inline_node t.texts t.targets) (ns ++ line_nodes d l ls); inlines = record { nodes = []; targets = t.targets; texts = t.texts; missed = t.missed } } in s)) e
    ∙ ap (λ (ns : List NodeView). (let s : State = record { nodes = ns; inlines = record { nodes = []; targets = t.targets; texts = t.texts; missed = t.missed } } in s)) (shown_lines t.texts t.targets d l ls)
    ∙ ap (λ (ns : List Node). (let s : State = record { nodes = quiet_nodes d (l ∷ ls); inlines = record t { nodes = ns } } in s)) (sym e)

-- what is written of such a leaf
pub quiet_written : (syntax : Syntax) (text : List ℕ) (find : List ℕ → Option Entry) (pieces : List Piece) (d : ℕ) (p : Progress) (w : Writing) → keeps_blanks syntax pieces ≡ false → are_quiet_lines text pieces ≡ true → p.inlines.nodes ≡ [] → length text < 2 ^ 64 → w ≡ fold (step text) p.writing (quiet_nodes d pieces) → record { writing = w; inlines = p.inlines } ≡ written_by text (leaf_inlines_in syntax text find pieces d) p
unfolding leaf_inlines_in
quiet_written syntax text find [] d p w n h e fits k = absurd (true≢false (sym h))
quiet_written syntax text find (l ∷ ls) d p w n h e fits k =
    let found : inlines.State → Progress = λ f. (let s : State = with_inlines f (record { nodes = []; inlines = p.inlines }) in record { writing = fold (step text) p.writing s.nodes; inlines = s.inlines }) in
    let read = lines_read syntax text find l ls d p.inlines (are_quiet text l ls h) fits in
    ap (λ (x : Writing). (let q : Progress = record { writing = x; inlines = p.inlines } in q)) k
    ∙ sym (ap (λ (s : State). (let q : Progress = record { writing = fold (step text) p.writing s.nodes; inlines = s.inlines } in q))
    (found_plainly syntax text (l ∷ ls) (inlines.read_inlines_in syntax (content.content_of text (map content_line (l ∷ ls))) d find p.inlines) (record { nodes = []; inlines = p.inlines }) n)
    ∙ ap found read
    ∙ ap (λ (s : State). (let q : Progress = record { writing = fold (step text) p.writing s.nodes; inlines = s.inlines } in q)) (found_only p.inlines d l ls e))
