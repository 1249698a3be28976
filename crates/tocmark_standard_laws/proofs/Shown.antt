-- The events of nodes are those of what the nodes show, each at its depth.
use Rattle.std.proofs.Common.{◌≡◌, ℕ, zero, suc, List, [], ◌∷◌, ◌++◌, map, take, drop, reverse, refl, ap, sym, ◌∙◌, append_assoc, append-nil}
use Rattle.std.specs.List.{fold, AllByRecursion}
use Rattle.std.proofs.lemmas.List.{map-append, reverse-append}
use Rattle.tocmark_event.specs.declared.event.TagEnd.{TagEnd}
use Rattle.tocmark_event.specs.View.{EventView, Start, End, Leaf, LeafView, Text, Code, InlineMath, DisplayMath, Html, InlineHtml, FootnoteReference, SoftBreak, HardBreak, Rule, TaskListMarker, end_of}
use Rattle.tocmark_reader.specs.Emitted.{ItemView, NodeView, Container, Source, Given, Writing, end_event, closings, closed, source_text, put, step}
use Rattle.tocmark_reader.specs.Range.{snapped}
use Rattle.tocmark_reader.specs.declared.emit.Open.{Open}
use Rattle.tocmark_inline_laws.specs.Said.{Piece, letters}
use Rattle.tocmark_standard_laws.specs.Lettered.{letter_events, html_letters, lettered}
use Rattle.tocmark_standard_laws.specs.SaidBlocks.{html_at}
use Rattle.tocmark_standard_laws.specs.Ended.{end_events, ends_from, ended, leaf_shows, item_shows, node_shows, nodes_show, IsSome, NodesAreEmitted}
use Rattle.tocmark_standard_laws.proofs.Ended.{lettered_append}

-- the events so far, without ranges
abbrev events_of : List (EventView × (ℕ × ℕ)) → List EventView
events_of es = map (λ (e : EventView × (ℕ × ℕ)). e.0) es

abbrev ends_of : List Open → List TagEnd
ends_of os = map (λ (o : Open). o.end) os

ends_take : (d : ℕ) (os : List Open) → ends_of (take d os) ≡ take d (ends_of os)
ends_take zero [] = refl
ends_take zero (o ∷ os) = refl
ends_take (suc d) [] = refl
ends_take (suc d) (o ∷ os) = ap (λ (xs : List TagEnd). o.end ∷ xs) (ends_take d os)

ends_drop : (d : ℕ) (os : List Open) → ends_of (drop d os) ≡ drop d (ends_of os)
ends_drop zero [] = refl
ends_drop zero (o ∷ os) = refl
ends_drop (suc d) [] = refl
ends_drop (suc d) (o ∷ os) = ends_drop d os

ends_reverse : (os : List Open) → ends_of (reverse os) ≡ reverse (ends_of os)
ends_reverse [] = refl
ends_reverse (o ∷ os) = ap ends_of (reverse-append (o ∷ []) os) ∙ map-append (λ (x : Open). x.end) (reverse os) (o ∷ []) ∙ ap (λ (xs : List TagEnd). xs ++ o.end ∷ []) (ends_reverse os) ∙ sym (reverse-append (o.end ∷ []) (ends_of os))

ends_shown : (os : List Open) → events_of (map end_event os) ≡ map (λ (e : TagEnd). End e) (ends_of os)
ends_shown [] = refl
ends_shown (o ∷ os) = ap (λ (xs : List EventView). End o.end ∷ xs) (ends_shown os)

closings_shown : (d : ℕ) (os : List Open) → events_of (closings d os) ≡ ends_from d (ends_of os)
closings_shown d os = ends_shown (reverse (drop d os)) ∙ ap (λ (xs : List TagEnd). map (λ (e : TagEnd). End e) xs) (ends_reverse (drop d os) ∙ ap reverse (ends_drop d os))

ends_lettered : (ends : List TagEnd) → lettered (map (λ (e : TagEnd). End e) ends) ≡ map (λ (e : TagEnd). End e) ends
ends_lettered [] = refl
ends_lettered (e ∷ es) = ap (λ (xs : List EventView). End e ∷ xs) (ends_lettered es)

-- the events so far, letter by letter
abbrev written : Writing → List EventView
written w = lettered (events_of w.events)

written_closed : (d : ℕ) (w : Writing) → written (closed d w) ≡ written w ++ ends_from d (ends_of w.stack)
written_closed d w =
    ap lettered (map-append (λ (e : EventView × (ℕ × ℕ)). e.0) w.events (closings d w.stack))
    ∙ lettered_append (events_of w.events) (events_of (closings d w.stack))
    ∙ ap (λ (xs : List EventView). written w ++ lettered xs) (closings_shown d w.stack)
    ∙ ap (λ (xs : List EventView). written w ++ xs) (ends_lettered (reverse (drop d (ends_of w.stack))))

written_more : (w : Writing) (e : EventView) (range : ℕ × ℕ) → lettered (events_of (w.events ++ (e, range) ∷ [])) ≡ written w ++ lettered (e ∷ [])
written_more w e range =
    ap lettered (map-append (λ (x : EventView × (ℕ × ℕ)). x.0) w.events ((e, range) ∷ [])) ∙ lettered_append (events_of w.events) (e ∷ [])

-- letters at a depth at which nothing is open any more

drop_take : (d : ℕ) (stack : List TagEnd) → drop d (take d stack) ≡ []
drop_take zero [] = refl
drop_take zero (s ∷ ss) = refl
drop_take (suc d) [] = refl
drop_take (suc d) (s ∷ ss) = drop_take d ss

take_again : (d : ℕ) (stack : List TagEnd) → take d (take d stack) ≡ take d stack
take_again zero [] = refl
take_again zero (s ∷ ss) = refl
take_again (suc d) [] = refl
take_again (suc d) (s ∷ ss) = ap (λ (xs : List TagEnd). s ∷ xs) (take_again d ss)

again : (d : ℕ) (stack : List TagEnd) (l : LeafView) (ps : List Piece) → ended (take d stack) ((d, Leaf l) ∷ ps) ≡ Leaf l ∷ ended (take d stack) ps
again d stack l ps =
    ap (λ (xs : List TagEnd). end_events xs ++ (Leaf l ∷ ended (take d (take d stack)) ps)) (drop_take d stack)
    ∙ ap (λ (xs : List TagEnd). Leaf l ∷ ended xs ps) (take_again d stack)

letters_again : (d : ℕ) (stack : List TagEnd) (t : List ℕ) (ps : List Piece) → ended (take d stack) (letters d t ++ ps) ≡ letter_events t ++ ended (take d stack) ps
letters_again d stack [] ps = refl
letters_again d stack (b ∷ bs) ps = again d stack (Text (b ∷ [])) (letters d bs ++ ps) ∙ ap (λ (xs : List EventView). Leaf (Text (b ∷ [])) ∷ xs) (letters_again d stack bs ps)

html_again : (d : ℕ) (stack : List TagEnd) (t : List ℕ) (ps : List Piece) → ended (take d stack) (html_at d t ++ ps) ≡ html_letters t ++ ended (take d stack) ps
html_again d stack [] ps = refl
html_again d stack (b ∷ bs) ps = again d stack (Html (b ∷ [])) (html_at d bs ++ ps) ∙ ap (λ (xs : List EventView). Leaf (Html (b ∷ [])) ∷ xs) (html_again d stack bs ps)

text_ended : (d : ℕ) (stack : List TagEnd) (t : List ℕ) (ps : List Piece) → IsSome (letters d t) → ended stack (letters d t ++ ps) ≡ ends_from d stack ++ (letter_events t ++ ended (take d stack) ps)
text_ended d stack [] ps h = absurd h
text_ended d stack (b ∷ bs) ps h = ap (λ (xs : List EventView). ends_from d stack ++ (Leaf (Text (b ∷ [])) ∷ xs)) (letters_again d stack bs ps)

html_ended : (d : ℕ) (stack : List TagEnd) (t : List ℕ) (ps : List Piece) → IsSome (html_at d t) → ended stack (html_at d t ++ ps) ≡ ends_from d stack ++ (html_letters t ++ ended (take d stack) ps)
html_ended d stack [] ps h = absurd h
html_ended d stack (b ∷ bs) ps h = ap (λ (xs : List EventView). ends_from d stack ++ (Leaf (Html (b ∷ [])) ∷ xs)) (html_again d stack bs ps)

leaf_ended : (d : ℕ) (stack : List TagEnd) (l : LeafView) (ps : List Piece) → IsSome (leaf_shows d l) → ended stack (leaf_shows d l ++ ps) ≡ ends_from d stack ++ (lettered (Leaf l ∷ []) ++ ended (take d stack) ps)
leaf_ended d stack (Text t) ps h = text_ended d stack t ps h ∙ ap (λ (xs : List EventView). ends_from d stack ++ (xs ++ ended (take d stack) ps)) (sym (append-nil (letter_events t)))
leaf_ended d stack (Html t) ps h = html_ended d stack t ps h ∙ ap (λ (xs : List EventView). ends_from d stack ++ (xs ++ ended (take d stack) ps)) (sym (append-nil (html_letters t)))
leaf_ended d stack (Code t) ps h = refl
leaf_ended d stack (InlineMath t) ps h = refl
leaf_ended d stack (DisplayMath t) ps h = refl
leaf_ended d stack (InlineHtml t) ps h = refl
leaf_ended d stack (FootnoteReference t) ps h = refl
leaf_ended d stack SoftBreak ps h = refl
leaf_ended d stack HardBreak ps h = refl
leaf_ended d stack Rule ps h = refl
leaf_ended d stack (TaskListMarker b) ps h = refl

-- one more node, and what comes after it
item_goes : (text : List ℕ) (d : ℕ) (range : ℕ × ℕ) (item : ItemView) (w : Writing) (ps : List Piece) → IsSome (item_shows text d range item)
    → written (put text item range (closed d w)) ++ ended (ends_of (put text item range (closed d w)).stack) ps ≡ written w ++ ended (ends_of w.stack) (item_shows text d range item ++ ps)
item_goes text d range (Container t) w ps h =
    ap (λ (xs : List EventView). xs ++ ended (ends_of (put text (Container t) range (closed d w)).stack) ps) (written_more (closed d w) (Start t) range ∙ ap (λ (xs : List EventView). xs ++ Start t ∷ []) (written_closed d w))
    ∙ ap (λ (xs : List TagEnd). ((written w ++ ends_from d (ends_of w.stack)) ++ Start t ∷ []) ++ ended xs ps) (map-append (λ (o : Open). o.end) (take d w.stack) (record { end = end_of t; range = range } ∷ []) ∙ ap (λ (xs : List TagEnd). xs ++ end_of t ∷ []) (ends_take d w.stack))
    ∙ append_assoc (written w ++ ends_from d (ends_of w.stack)) (Start t ∷ []) (ended (take d (ends_of w.stack) ++ end_of t ∷ []) ps)
    ∙ append_assoc (written w) (ends_from d (ends_of w.stack)) (Start t ∷ ended (take d (ends_of w.stack) ++ end_of t ∷ []) ps)
item_goes text d range Source w ps h = leaf_goes (Text (source_text text range)) h
  where
    leaf_goes : (l : LeafView) → IsSome (leaf_shows d l) → lettered (events_of ((closed d w).events ++ (Leaf l, range) ∷ [])) ++ ended (ends_of (take d w.stack)) ps ≡ written w ++ ended (ends_of w.stack) (leaf_shows d l ++ ps)
    leaf_goes l k =
        ap (λ (xs : List EventView). xs ++ ended (ends_of (take d w.stack)) ps) (written_more (closed d w) (Leaf l) range ∙ ap (λ (xs : List EventView). xs ++ lettered (Leaf l ∷ [])) (written_closed d w))
        ∙ ap (λ (xs : List TagEnd). ((written w ++ ends_from d (ends_of w.stack)) ++ lettered (Leaf l ∷ [])) ++ ended xs ps) (ends_take d w.stack)
        ∙ append_assoc (written w ++ ends_from d (ends_of w.stack)) (lettered (Leaf l ∷ [])) (ended (take d (ends_of w.stack)) ps)
        ∙ append_assoc (written w) (ends_from d (ends_of w.stack)) (lettered (Leaf l ∷ []) ++ ended (take d (ends_of w.stack)) ps)
        ∙ ap (λ (xs : List EventView). written w ++ xs) (sym (leaf_ended d (ends_of w.stack) l ps k))
item_goes text d range (Given l) w ps h =
    ap (λ (xs : List EventView). xs ++ ended (ends_of (take d w.stack)) ps) (written_more (closed d w) (Leaf l) range ∙ ap (λ (xs : List EventView). xs ++ lettered (Leaf l ∷ [])) (written_closed d w))
    ∙ ap (λ (xs : List TagEnd). ((written w ++ ends_from d (ends_of w.stack)) ++ lettered (Leaf l ∷ [])) ++ ended xs ps) (ends_take d w.stack)
    ∙ append_assoc (written w ++ ends_from d (ends_of w.stack)) (lettered (Leaf l ∷ [])) (ended (take d (ends_of w.stack)) ps)
    ∙ append_assoc (written w) (ends_from d (ends_of w.stack)) (lettered (Leaf l ∷ []) ++ ended (take d (ends_of w.stack)) ps)
    ∙ ap (λ (xs : List EventView). written w ++ xs) (sym (leaf_ended d (ends_of w.stack) l ps h))

nodes_go : (text : List ℕ) (ns : List NodeView) (w : Writing) → AllByRecursion (λ (n : NodeView). IsSome (node_shows text n)) ns → written (closed 0 (fold (step text) w ns)) ≡ written w ++ ended (ends_of w.stack) (nodes_show text ns)
nodes_go text [] w h = written_closed 0 w
nodes_go text (n ∷ ns) w h =
    nodes_go text ns (step text w n) (h.1) ∙ item_goes text n.depth (snapped text n.start n.end) n.item w (nodes_show text ns) (h.0)

-- the events of nodes that all show something
pub nodes_emitted : NodesAreEmitted
nodes_emitted text ns h = nodes_go text ns (record { events = []; stack = [] }) h
