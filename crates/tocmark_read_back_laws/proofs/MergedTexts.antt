-- Events are known by their letters, if no text is empty and none is HTML: each stretch of texts is the text of its letters.
use Rattle.std.proofs.Common.{◌≡◌, ℕ, List, [], ◌∷◌, ◌++◌, map, drop, reverse, refl, ap, sym, ◌∙◌, append_assoc, append-nil}
use Rattle.std.specs.List.{AllByRecursion, concat, fold}
use Rattle.tocmark_event.specs.Merged.{after_text, merged}
use Rattle.tocmark_event.specs.View.{TagView, EventView, Start, End, Leaf, LeafView, Text, Code, InlineMath, DisplayMath, Html, InlineHtml, FootnoteReference, SoftBreak, HardBreak, Rule, TaskListMarker}
use Rattle.tocmark_event.specs.declared.event.TagEnd.{TagEnd}
use Rattle.tocmark_reader.specs.Emitted.{ItemView, NodeView, Container, Source, Given, Writing, closed, closings, emitted, end_event, put, source_text, step}
use Rattle.tocmark_reader.specs.Range.{snapped}
use Rattle.tocmark_reader.specs.declared.emit.Open.{Open}
use Rattle.tocmark_standard_laws.specs.Ended.{IsSome, item_shows, leaf_shows, node_shows}
use Rattle.tocmark_standard_laws.specs.Lettered.{letter_events, lettered}
use Rattle.tocmark_standard_laws.proofs.Ended.{lettered_append}

-- texts

after_twice : (t u : List ℕ) (es : List EventView) → after_text t (after_text u es) ≡ after_text (t ++ u) es
after_twice t u [] = refl
after_twice t u (Leaf (Text v) ∷ es) = ap (λ x. Leaf (Text x) ∷ es) (sym (append_assoc t u v))
after_twice t u (Leaf (Html v) ∷ es) = refl
after_twice t u (Leaf (Code v) ∷ es) = refl
after_twice t u (Leaf (InlineMath v) ∷ es) = refl
after_twice t u (Leaf (DisplayMath v) ∷ es) = refl
after_twice t u (Leaf (InlineHtml v) ∷ es) = refl
after_twice t u (Leaf (FootnoteReference v) ∷ es) = refl
after_twice t u (Leaf SoftBreak ∷ es) = refl
after_twice t u (Leaf HardBreak ∷ es) = refl
after_twice t u (Leaf Rule ∷ es) = refl
after_twice t u (Leaf (TaskListMarker b) ∷ es) = refl
after_twice t u (Start x ∷ es) = refl
after_twice t u (End e ∷ es) = refl

letters_join : (b : ℕ) (bs : List ℕ) (es : List EventView) → merged (letter_events (b ∷ bs) ++ es) ≡ after_text (b ∷ bs) (merged es)
letters_join b [] es = refl
letters_join b (c ∷ cs) es = ap (after_text (b ∷ [])) (letters_join c cs es) ∙ after_twice (b ∷ []) (c ∷ cs) (merged es)

texts_join : (t : List ℕ) (ts : List (List ℕ)) (es : List EventView) → merged (map (λ x. Leaf (Text x)) (t ∷ ts) ++ es) ≡ after_text (concat (t ∷ ts)) (merged es)
texts_join t [] es = ap (λ x. after_text x (merged es)) (sym (append-nil t))
texts_join t (u ∷ us) es = ap (after_text t) (texts_join u us es) ∙ after_twice t (concat (u ∷ us)) (merged es)

-- before any other events, these are the same, joined, as their letters
abbrev pub Joins : List EventView → Type 0
Joins es = (xs ys : List EventView) → merged xs ≡ merged ys → merged (lettered es ++ xs) ≡ merged (es ++ ys)

pub joins_both : (es fs : List EventView) → Joins es → Joins fs → Joins (es ++ fs)
joins_both es fs h k xs ys e =
    ap (λ zs. merged (zs ++ xs)) (lettered_append es fs)
    ∙ ap merged (append_assoc (lettered es) (lettered fs) xs)
    ∙ h (lettered fs ++ xs) (fs ++ ys) (k xs ys e)
    ∙ ap merged (sym (append_assoc es fs ys))

-- a container, and what is after it
pub joins_in : (t : TagView) (end : TagEnd) (es fs : List EventView) → Joins es → Joins fs → Joins (Start t ∷ (es ++ End end ∷ fs))
joins_in t end es fs h k xs ys e =
    ap (λ (zs : List EventView). Start t ∷ zs)
    (ap (λ zs. merged (zs ++ xs)) (lettered_append es (End end ∷ fs))
    ∙ ap merged (append_assoc (lettered es) (End end ∷ lettered fs) xs)
    ∙ h (End end ∷ (lettered fs ++ xs)) (End end ∷ (fs ++ ys)) (ap (λ (zs : List EventView). End end ∷ zs) (k xs ys e))
    ∙ ap merged (sym (append_assoc es (End end ∷ fs) ys)))

-- texts, of which one isn't empty
pub joins_texts : (ts : List (List ℕ)) (b : ℕ) (bs : List ℕ) → concat ts ≡ b ∷ bs → lettered (map (λ x. Leaf (Text x)) ts) ≡ letter_events (concat ts) → Joins (map (λ x. Leaf (Text x)) ts)
joins_texts [] b bs e h xs ys k = absurd cc
joins_texts (t ∷ ts) b bs e h xs ys k =
    ap (λ zs. merged (zs ++ xs)) (h ∙ ap letter_events e)
    ∙ letters_join b bs xs
    ∙ ap (after_text (b ∷ bs)) k
    ∙ ap (λ x. after_text x (merged ys)) (sym e)
    ∙ sym (texts_join t ts ys)

-- an event that is neither an empty text nor HTML
abbrev pub IsProper : EventView → Type 0
IsProper (Leaf (Text [])) = ⊥
IsProper (Leaf (Html t)) = ⊥
IsProper e = Unit {0}

pub joins_proper : (es : List EventView) → AllByRecursion IsProper es → Joins es
joins_proper [] h xs ys e = e
joins_proper (Leaf (Text []) ∷ es) h xs ys e = absurd (h.0)
joins_proper (Leaf (Text (b ∷ bs)) ∷ es) h xs ys e =
    ap merged (append_assoc (letter_events (b ∷ bs)) (lettered es) xs)
    ∙ letters_join b bs (lettered es ++ xs)
    ∙ ap (after_text (b ∷ bs)) (joins_proper es (h.1) xs ys e)
joins_proper (Leaf (Html t) ∷ es) h xs ys e = absurd (h.0)
joins_proper (Leaf (Code t) ∷ es) h xs ys e = ap (λ (zs : List EventView). Leaf (Code t) ∷ zs) (joins_proper es (h.1) xs ys e)
joins_proper (Leaf (InlineMath t) ∷ es) h xs ys e = ap (λ (zs : List EventView). Leaf (InlineMath t) ∷ zs) (joins_proper es (h.1) xs ys e)
joins_proper (Leaf (DisplayMath t) ∷ es) h xs ys e = ap (λ (zs : List EventView). Leaf (DisplayMath t) ∷ zs) (joins_proper es (h.1) xs ys e)
joins_proper (Leaf (InlineHtml t) ∷ es) h xs ys e = ap (λ (zs : List EventView). Leaf (InlineHtml t) ∷ zs) (joins_proper es (h.1) xs ys e)
joins_proper (Leaf (FootnoteReference t) ∷ es) h xs ys e = ap (λ (zs : List EventView). Leaf (FootnoteReference t) ∷ zs) (joins_proper es (h.1) xs ys e)
joins_proper (Leaf SoftBreak ∷ es) h xs ys e = ap (λ (zs : List EventView). Leaf SoftBreak ∷ zs) (joins_proper es (h.1) xs ys e)
joins_proper (Leaf HardBreak ∷ es) h xs ys e = ap (λ (zs : List EventView). Leaf HardBreak ∷ zs) (joins_proper es (h.1) xs ys e)
joins_proper (Leaf Rule ∷ es) h xs ys e = ap (λ (zs : List EventView). Leaf Rule ∷ zs) (joins_proper es (h.1) xs ys e)
joins_proper (Leaf (TaskListMarker b) ∷ es) h xs ys e = ap (λ (zs : List EventView). Leaf (TaskListMarker b) ∷ zs) (joins_proper es (h.1) xs ys e)
joins_proper (Start t ∷ es) h xs ys e = ap (λ (zs : List EventView). Start t ∷ zs) (joins_proper es (h.1) xs ys e)
joins_proper (End t ∷ es) h xs ys e = ap (λ (zs : List EventView). End t ∷ zs) (joins_proper es (h.1) xs ys e)

pub joined : (es : List EventView) → Joins es → merged (lettered es) ≡ merged es
joined es h = ap merged (sym (append-nil (lettered es))) ∙ h [] [] refl ∙ ap merged (append-nil es)

-- no HTML among letters

abbrev pub IsNoHtml : EventView → Type 0
IsNoHtml (Leaf (Html t)) = ⊥
IsNoHtml e = Unit {0}

abbrev pub AreNoHtml : List EventView → Type 0
AreNoHtml es = AllByRecursion IsNoHtml es

pub no_html_both : (es fs : List EventView) → AreNoHtml es → AreNoHtml fs → AreNoHtml (es ++ fs)
no_html_both [] fs h k = k
no_html_both (e ∷ es) fs h k = (h.0, no_html_both es fs (h.1) k)

letters_no_html : (t : List ℕ) (es : List EventView) → AreNoHtml es → AreNoHtml (letter_events t ++ es)
letters_no_html [] es h = h
letters_no_html (b ∷ bs) es h = (tt, letters_no_html bs es h)

letters_gone : (t : List ℕ) (es : List EventView) → AreNoHtml (letter_events t ++ es) → AreNoHtml es
letters_gone [] es h = h
letters_gone (b ∷ bs) es h = letters_gone bs es (h.1)

pub lettered_no_html : (es : List EventView) → AreNoHtml es → AreNoHtml (lettered es)
lettered_no_html [] h = tt
lettered_no_html (Leaf (Text t) ∷ es) h = letters_no_html t (lettered es) (lettered_no_html es (h.1))
lettered_no_html (Leaf (Html t) ∷ es) h = absurd (h.0)
lettered_no_html (Leaf (Code t) ∷ es) h = (tt, lettered_no_html es (h.1))
lettered_no_html (Leaf (InlineMath t) ∷ es) h = (tt, lettered_no_html es (h.1))
lettered_no_html (Leaf (DisplayMath t) ∷ es) h = (tt, lettered_no_html es (h.1))
lettered_no_html (Leaf (InlineHtml t) ∷ es) h = (tt, lettered_no_html es (h.1))
lettered_no_html (Leaf (FootnoteReference t) ∷ es) h = (tt, lettered_no_html es (h.1))
lettered_no_html (Leaf SoftBreak ∷ es) h = (tt, lettered_no_html es (h.1))
lettered_no_html (Leaf HardBreak ∷ es) h = (tt, lettered_no_html es (h.1))
lettered_no_html (Leaf Rule ∷ es) h = (tt, lettered_no_html es (h.1))
lettered_no_html (Leaf (TaskListMarker b) ∷ es) h = (tt, lettered_no_html es (h.1))
lettered_no_html (Start t ∷ es) h = (tt, lettered_no_html es (h.1))
lettered_no_html (End t ∷ es) h = (tt, lettered_no_html es (h.1))

-- an event that is neither an empty text nor an empty piece of HTML
abbrev pub IsShown : EventView → Type 0
IsShown (Leaf (Text [])) = ⊥
IsShown (Leaf (Html [])) = ⊥
IsShown e = Unit {0}

-- if there is no HTML among their letters, they have none
pub proper_from : (es : List EventView) → AllByRecursion IsShown es → AreNoHtml (lettered es) → AllByRecursion IsProper es
proper_from [] h k = tt
proper_from (Leaf (Text []) ∷ es) h k = absurd (h.0)
proper_from (Leaf (Text (b ∷ bs)) ∷ es) h k = (tt, proper_from es (h.1) (letters_gone (b ∷ bs) (lettered es) k))
proper_from (Leaf (Html []) ∷ es) h k = absurd (h.0)
proper_from (Leaf (Html (b ∷ bs)) ∷ es) h k = absurd (k.0)
proper_from (Leaf (Code t) ∷ es) h k = (tt, proper_from es (h.1) (k.1))
proper_from (Leaf (InlineMath t) ∷ es) h k = (tt, proper_from es (h.1) (k.1))
proper_from (Leaf (DisplayMath t) ∷ es) h k = (tt, proper_from es (h.1) (k.1))
proper_from (Leaf (InlineHtml t) ∷ es) h k = (tt, proper_from es (h.1) (k.1))
proper_from (Leaf (FootnoteReference t) ∷ es) h k = (tt, proper_from es (h.1) (k.1))
proper_from (Leaf SoftBreak ∷ es) h k = (tt, proper_from es (h.1) (k.1))
proper_from (Leaf HardBreak ∷ es) h k = (tt, proper_from es (h.1) (k.1))
proper_from (Leaf Rule ∷ es) h k = (tt, proper_from es (h.1) (k.1))
proper_from (Leaf (TaskListMarker b) ∷ es) h k = (tt, proper_from es (h.1) (k.1))
proper_from (Start t ∷ es) h k = (tt, proper_from es (h.1) (k.1))
proper_from (End t ∷ es) h k = (tt, proper_from es (h.1) (k.1))

-- the events of nodes that all show something

abbrev AreShown : List (EventView × (ℕ × ℕ)) → Type 0
AreShown es = AllByRecursion (λ (e : EventView × (ℕ × ℕ)). IsShown (e.0)) es

shown_both : (es fs : List (EventView × (ℕ × ℕ))) → AreShown es → AreShown fs → AreShown (es ++ fs)
shown_both [] fs h k = k
shown_both (e ∷ es) fs h k = (h.0, shown_both es fs (h.1) k)

ends_shown : (os : List Open) → AreShown (map end_event os)
ends_shown [] = tt
ends_shown (o ∷ os) = (tt, ends_shown os)

closed_shown : (d : ℕ) (w : Writing) → AreShown w.events → AreShown (closed d w).events
closed_shown d w h = shown_both w.events (closings d w.stack) h (ends_shown (reverse (drop d w.stack)))

leaf_shown : (d : ℕ) (l : LeafView) → IsSome (leaf_shows d l) → IsShown (Leaf l)
leaf_shown d (Text []) h = h
leaf_shown d (Text (b ∷ bs)) h = tt
leaf_shown d (Html []) h = h
leaf_shown d (Html (b ∷ bs)) h = tt
leaf_shown d (Code t) h = tt
leaf_shown d (InlineMath t) h = tt
leaf_shown d (DisplayMath t) h = tt
leaf_shown d (InlineHtml t) h = tt
leaf_shown d (FootnoteReference t) h = tt
leaf_shown d SoftBreak h = tt
leaf_shown d HardBreak h = tt
leaf_shown d Rule h = tt
leaf_shown d (TaskListMarker b) h = tt

item_shown : (text : List ℕ) (d : ℕ) (range : ℕ × ℕ) (item : ItemView) (w : Writing) → IsSome (item_shows text d range item) → AreShown w.events → AreShown (put text item range w).events
item_shown text d range (Container t) w h k = shown_both w.events ((Start t, range) ∷ []) k (tt, tt)
item_shown text d range Source w h k = shown_both w.events ((Leaf (Text (source_text text range)), range) ∷ []) k (leaf_shown d (Text (source_text text range)) h, tt)
item_shown text d range (Given l) w h k = shown_both w.events ((Leaf l, range) ∷ []) k (leaf_shown d l h, tt)

nodes_shown : (text : List ℕ) (ns : List NodeView) (w : Writing) → AllByRecursion (λ (n : NodeView). IsSome (node_shows text n)) ns → AreShown w.events → AreShown (fold (step text) w ns).events
nodes_shown text [] w h k = k
nodes_shown text (n ∷ ns) w h k =
    nodes_shown text ns (step text w n) (h.1) (item_shown text n.depth (snapped text n.start n.end) n.item (closed n.depth w) (h.0) (closed_shown n.depth w k))

without_ranges : (es : List (EventView × (ℕ × ℕ))) → AreShown es → AllByRecursion IsShown (map (λ (e : EventView × (ℕ × ℕ)). e.0) es)
without_ranges [] h = tt
without_ranges (e ∷ es) h = (h.0, without_ranges es (h.1))

pub emitted_shown : (text : List ℕ) (ns : List NodeView) → AllByRecursion (λ (n : NodeView). IsSome (node_shows text n)) ns → AllByRecursion IsShown (map (λ (e : EventView × (ℕ × ℕ)). e.0) (emitted text ns))
emitted_shown text ns h =
    let start : Writing = record { events = []; stack = [] } in
    without_ranges (emitted text ns) (closed_shown 0 (fold (step text) start ns) (nodes_shown text ns start h tt))
