-- What is found of HTML blocks from the last event to the first is what is in them.
use Rattle.std.proofs.Common.{◌≡◌, ℕ, zero, suc, ◌+◌, ◌-◌, ◌<◌, ◌≤◌, Bool, Option, Some, None, List, [], ◌∷◌, ◌++◌, refl, sym, ap, ◌∙◌, subst, take, drop, length, length-append, append_assoc, arith, IsUtf8}
use Rattle.std.specs.Prelude.{◌&&◌, nat_lt}
use Rattle.std.specs.Str.{trim_start}
use Rattle.std.proofs.lemmas.Bool.{lt-ltb, le-ltb}
use Rattle.std.proofs.lemmas.List.{drop_all, take-append-drop, length-drop}
use Rattle.std.proofs.lemmas.Str.{IsUtf8-nil, IsUtf8-append}
use Rattle.tocmark_event.specs.View.{TagView, HtmlBlock, SourcedEvent, Start, End, Leaf, LeafView, Text, Code, InlineMath, DisplayMath, Html, InlineHtml, FootnoteReference, SoftBreak, HardBreak, Rule, TaskListMarker}
use Rattle.tocmark_write_pending.specs.Ahead.{first_of, body_in}
use Rattle.tocmark_write_pending.proofs.Gathered.{joined-scan, first-scan}
use Rattle.tocmark_spelling.specs.Body.{html_in, html_of_leaf}
use Rattle.tocmark_spelling.specs.Html.{is_blank_terminated, is_html_closed}
use Rattle.tocmark_spelling.specs.Machine.{kids_of}
use Rattle.tocmark_spelling.specs.Scans.{span}
use Rattle.tocmark_spelling.specs.Words.{or_else}
use Rattle.tocmark_write_blocks.specs.BlockEnds.{last_of, ends_in, closed_by}
use Rattle.tocmark_write_blocks.specs.Html.{facts_by, event_facts, html_of_kids}
use Rattle.tocmark_write_blocks.specs.HtmlAhead.{all_html, html_here, event_text, left_if, events_left, ahead_of, ahead_at, visible_with, blank_by, opening_in, IsHtmlText, IsHtml, AreHtmlTexts}
use Rattle.tocmark_write_blocks.specs.declared.block_ends.BlockEnds.{BlockEnds}
use Rattle.tocmark_write_blocks.specs.declared.html_ahead.HtmlAhead.{HtmlAhead}
use Rattle.tocmark_write_blocks.specs.declared.html_facts.HtmlFacts.{HtmlFacts}
use Rattle.tocmark_write_blocks.proofs.ClosedLemmas.{closed-is}
use Rattle.tocmark_write_blocks.proofs.RawLemmas.{same-first, same-rest}
use Rattle.tocmark_write_blocks.proofs.TrimLemmas.{trim-shorter, visible-is, opening-is, last-is, trim-last}

-- ---- the HTML of a list

html-append : (n : ℕ) (es : List SourcedEvent) → all_html es ≡ all_html (take n es) ++ all_html (drop n es)
html-append zero es = refl
html-append (suc n) [] = refl
html-append (suc n) (Leaf l ∷ es) =
    ap (λ x. html_of_leaf l.leaf ++ x) (html-append n es) ∙ sym (append_assoc (html_of_leaf l.leaf) (all_html (take n es)) (all_html (drop n es)))
html-append (suc n) (Start t ∷ es) = html-append n es
html-append (suc n) (End k ∷ es) = html-append n es

pub html-small : (n : ℕ) (es : List SourcedEvent) → length (all_html (drop n es)) ≤ length (all_html es)
html-small n es =
    let e = ap length (html-append n es) in omega (arith, e, length-append (all_html (take n es)) (all_html (drop n es)))

pub html-last : (n : ℕ) (es : List SourcedEvent) → last_of (length (all_html (drop n es))) (all_html es) ≡ all_html (drop n es)
html-last n es = ap (last_of (length (all_html (drop n es)))) (html-append n es) ∙ last-is (all_html (take n es)) (all_html (drop n es))

pub html-more : (e : SourcedEvent) (es : List SourcedEvent) → all_html (e ∷ es) ≡ event_text e ++ all_html es
html-more (Leaf l) es = refl
html-more (Start t) es = refl
html-more (End k) es = refl

leaf-utf8 : (l : LeafView) → IsHtmlText l → IsUtf8 (html_of_leaf l)
leaf-utf8 (Text t) h = IsUtf8-nil
leaf-utf8 (Code t) h = IsUtf8-nil
leaf-utf8 (InlineMath t) h = IsUtf8-nil
leaf-utf8 (DisplayMath t) h = IsUtf8-nil
leaf-utf8 (Html t) h = h
leaf-utf8 (InlineHtml t) h = IsUtf8-nil
leaf-utf8 (FootnoteReference t) h = IsUtf8-nil
leaf-utf8 SoftBreak h = IsUtf8-nil
leaf-utf8 HardBreak h = IsUtf8-nil
leaf-utf8 Rule h = IsUtf8-nil
leaf-utf8 (TaskListMarker b) h = IsUtf8-nil

pub html-utf8 : (es : List SourcedEvent) → AreHtmlTexts es → IsUtf8 (all_html es)
html-utf8 [] h = IsUtf8-nil
html-utf8 (Leaf l ∷ es) h = IsUtf8-append (html_of_leaf l.leaf) (all_html es) (leaf-utf8 l.leaf h.0) (html-utf8 es h.1)
html-utf8 (Start t ∷ es) h = html-utf8 es h.1
html-utf8 (End k ∷ es) h = html-utf8 es h.1

texts-take : (n : ℕ) (es : List SourcedEvent) → AreHtmlTexts es → AreHtmlTexts (take n es)
texts-take zero es h = tt
texts-take (suc n) [] h = tt
texts-take (suc n) (e ∷ es) h = (h.0, texts-take n es h.1)

texts-drop : (n : ℕ) (es : List SourcedEvent) → AreHtmlTexts es → AreHtmlTexts (drop n es)
texts-drop zero es h = h
texts-drop (suc n) [] h = tt
texts-drop (suc n) (e ∷ es) h = texts-drop n es h.1

pub texts-step : (evs : List SourcedEvent) (e : SourcedEvent) (k : ℕ) → drop k evs ≡ e ∷ drop (k + 1) evs
    → IsHtml e → AreHtmlTexts (drop (k + 1) evs) → AreHtmlTexts (drop k evs)
texts-step evs e k at own h = subst AreHtmlTexts (sym at) (own, h)

-- ---- one event more

-- what is known with a leaf in front
abbrev leaf_ahead : LeafView → List SourcedEvent → HtmlAhead
leaf_ahead l es = record {
  left = length (html_of_leaf l ++ all_html es);
  visible = length (trim_start (html_of_leaf l ++ all_html es));
  ends = ends_in (html_of_leaf l ++ all_html es);
  events = left_if (html_in l) (suc (length es)) (events_left es);
  blank = is_blank_terminated (or_else (html_in l) (first_of html_in es));
}

abbrev known : ℕ → ℕ → BlockEnds → ℕ → Bool → HtmlAhead
known l v x n b = record { left = l; visible = v; ends = x; events = n; blank = b }

html-step : (t : List ℕ) (es : List SourcedEvent) (text : List ℕ) → IsUtf8 t → AreHtmlTexts es → last_of (length (t ++ all_html es)) text ≡ t ++ all_html es
    → ahead_at (Some t) (suc (length es)) text (ahead_of es) ≡ leaf_ahead (Html t) es
html-step t es text u h at =
    let s = all_html es in
    let n = suc (length es) in
    let b : Bool = is_blank_terminated (Some t) in
    let size : length s + length t ≡ length (t ++ s) = omega (arith, length-append t s) in
    let v : ℕ = visible_with t (length s) (length (trim_start s)) in
    ap (λ k. known k v (ends_in (last_of k text)) n b) size
    ∙ ap (λ x. known (length (t ++ s)) x (ends_in (last_of (length (t ++ s)) text)) n b) (visible-is t s u (html-utf8 es h))
    ∙ ap (λ x. known (length (t ++ s)) (length (trim_start (t ++ s))) (ends_in x) n b) at

leaf-step : (l : LeafView) (es : List SourcedEvent) (text : List ℕ) → IsHtmlText l → AreHtmlTexts es
    → last_of (length (html_of_leaf l ++ all_html es)) text ≡ html_of_leaf l ++ all_html es
    → ahead_at (html_in l) (suc (length es)) text (ahead_of es) ≡ leaf_ahead l es
leaf-step (Text t) es text u h at = refl
leaf-step (Code t) es text u h at = refl
leaf-step (InlineMath t) es text u h at = refl
leaf-step (DisplayMath t) es text u h at = refl
leaf-step (Html t) es text u h at = html-step t es text u h at
leaf-step (InlineHtml t) es text u h at = refl
leaf-step (FootnoteReference t) es text u h at = refl
leaf-step SoftBreak es text u h at = refl
leaf-step HardBreak es text u h at = refl
leaf-step Rule es text u h at = refl
leaf-step (TaskListMarker b) es text u h at = refl

event-step : (e : SourcedEvent) (es : List SourcedEvent) (text : List ℕ) → IsHtml e → AreHtmlTexts es → last_of (length (all_html (e ∷ es))) text ≡ all_html (e ∷ es)
    → ahead_at (html_here e) (suc (length es)) text (ahead_of es) ≡ ahead_of (e ∷ es)
event-step (Leaf l) es text u h at = leaf-step l.leaf es text u h at
event-step (Start t) es text u h at = refl
event-step (End k) es text u h at = refl

pub ahead-step : (evs : List SourcedEvent) (e : SourcedEvent) (k n : ℕ) (text : List ℕ) (behind new : HtmlAhead) → drop k evs ≡ e ∷ drop (k + 1) evs
    → text ≡ all_html evs → n ≡ suc (length (drop (k + 1) evs)) → IsHtml e → AreHtmlTexts (drop (k + 1) evs) → behind ≡ ahead_of (drop (k + 1) evs)
    → new ≡ ahead_at (html_here e) n text behind → new ≡ ahead_of (drop k evs)
ahead-step evs e k n text behind new at whole count u h b is =
    let rest = drop (k + 1) evs in
    let place : last_of (length (all_html (e ∷ rest))) text ≡ all_html (e ∷ rest) =
    subst (λ x. last_of (length (all_html x)) text ≡ all_html x) at (ap (last_of (length (all_html (drop k evs)))) whole ∙ html-last k evs) in
    is ∙ ap (λ m. ahead_at (html_here e) m text behind) count ∙ ap (ahead_at (html_here e) (suc (length rest)) text) b
    ∙ event-step e rest text u h place ∙ ap ahead_of (sym at)

-- what the calls of a turn ask

pub visible-within : (evs : List SourcedEvent) (i : ℕ) (text : List ℕ) (ahead : HtmlAhead) → text ≡ all_html evs → AreHtmlTexts (drop i evs)
    → ahead ≡ ahead_of (drop i evs) → ahead.visible ≤ length text
visible-within evs i text ahead whole h b =
    let a = ap (λ (x : HtmlAhead). x.visible) b in
    let s = trim-shorter (all_html (drop i evs)) (html-utf8 (drop i evs) h) in
    omega (arith, a, s, html-small i evs, ap length whole)

pub left-within : (evs : List SourcedEvent) (e : SourcedEvent) (k : ℕ) (text : List ℕ) (ahead : HtmlAhead) → drop k evs ≡ e ∷ drop (k + 1) evs
    → text ≡ all_html evs → ahead ≡ ahead_of (drop (k + 1) evs) → ahead.left + length (event_text e) ≤ length text
left-within evs e k text ahead at whole b =
    let rest = drop (k + 1) evs in
    let a = ap (λ (x : HtmlAhead). x.left) b in
    let size = ap (λ x. length (all_html x)) at ∙ ap length (html-more e rest) ∙ length-append (event_text e) (all_html rest) in
    omega (arith, a, size, html-small k evs, ap length whole)

pub ends-there : (evs : List SourcedEvent) (i : ℕ) (text : List ℕ) (ahead : HtmlAhead) → text ≡ all_html evs → ahead ≡ ahead_of (drop i evs)
    → ahead.ends ≡ ends_in (last_of ahead.left text)
ends-there evs i text ahead whole b =
    let s = all_html (drop i evs) in
    let place : last_of (length s) text ≡ s = ap (last_of (length s)) whole ∙ html-last i evs in
    ap (λ (x : HtmlAhead). x.ends) b ∙ ap ends_in (sym place) ∙ ap (λ (x : HtmlAhead). ends_in (last_of x.left text)) (sym b)

-- ---- the first HTML

left-small : (o : Option (List ℕ)) (n m : ℕ) → m ≤ n → left_if o (suc n) m ≤ suc n
left-small (Some t) n m h = omega arith
left-small None n m h = omega (arith, h)

events-small : (es : List SourcedEvent) → events_left es ≤ length es
events-small [] = omega arith
events-small (Leaf l ∷ es) = left-small (html_in l.leaf) (length es) (events_left es) (events-small es)
events-small (Start t ∷ es) = let h = events-small es in omega (arith, h)
events-small (End k ∷ es) = let h = events-small es in omega (arith, h)

blank-leaf : (o : Option (List ℕ)) (body tail : List SourcedEvent)
    → (nat_lt (length tail) (events_left (body ++ tail)) && is_blank_terminated (first_of html_in (body ++ tail))) ≡ is_blank_terminated (first_of html_in body)
    → (nat_lt (length tail) (left_if o (suc (length (body ++ tail))) (events_left (body ++ tail))) && is_blank_terminated (or_else o (first_of html_in (body ++ tail))))
    ≡ is_blank_terminated (or_else o (first_of html_in body))
blank-leaf (Some t) body tail h =
    let lt : length tail < suc (length (body ++ tail)) = omega (arith, length-append body tail) in
    ap (λ b. b && is_blank_terminated (Some t)) (lt-ltb (length tail) (suc (length (body ++ tail))) lt)
blank-leaf None body tail h = h

blank-is : (body tail : List SourcedEvent)
    → (nat_lt (length tail) (events_left (body ++ tail)) && is_blank_terminated (first_of html_in (body ++ tail))) ≡ is_blank_terminated (first_of html_in body)
blank-is [] tail =
    ap (λ b. b && is_blank_terminated (first_of html_in tail)) (le-ltb (length tail) (events_left tail) (events-small tail))
blank-is (Leaf l ∷ body) tail = blank-leaf (html_in l.leaf) body tail (blank-is body tail)
blank-is (Start t ∷ body) tail = blank-is body tail
blank-is (End k ∷ body) tail = blank-is body tail

-- ---- what is found at a place

-- how the HTML block ends that starts at a place
abbrev pub IsFound : List SourcedEvent → ℕ → HtmlFacts → Type 0
IsFound es j x = (rest : List SourcedEvent) → drop j es ≡ Start HtmlBlock ∷ rest → x ≡ html_of_kids (kids_of rest)

pub past-found : (es : List SourcedEvent) (j : ℕ) (x : HtmlFacts) → length es ≤ j → IsFound es j x
past-found es j x le rest there = let none : [] ≡ Start HtmlBlock ∷ rest = sym (drop_all j es le) ∙ there in absurd (cc)

abbrev facts : Bool → Bool → HtmlFacts
facts b c = record { blank = b; closed = c }

-- a block with this body, after which that is
block-is : (body tail : List SourcedEvent) (front text : List ℕ) → AreHtmlTexts body → AreHtmlTexts tail → AreHtmlTexts (body ++ tail)
    → all_html (body ++ tail) ≡ all_html body ++ all_html tail → text ≡ front ++ all_html (body ++ tail)
    → facts_by text (length (all_html tail)) (length tail) (ahead_of (body ++ tail))
    ≡ facts (is_blank_terminated (first_of html_in body)) (is_html_closed (all_html body))
block-is body tail front text hb ht h both whole =
    let s = all_html (body ++ tail) in
    let b = all_html body in
    let a = all_html tail in
    let n = length a in
    let opening : opening_in text n (ahead_of (body ++ tail)) ≡ trim_start b =
    ap (λ x. take (length (trim_start s) - n) (last_of (length (trim_start s)) x)) whole
    ∙ ap (λ x. take (length (trim_start s) - n) x) (trim-last front s (html-utf8 (body ++ tail) h))
    ∙ ap (λ x. take (length (trim_start x) - n) (trim_start x)) both
    ∙ opening-is b a (html-utf8 body hb) (html-utf8 tail ht) in
    let blank : Bool = blank_by (length tail) (ahead_of (body ++ tail)) in
    ap (λ x. facts blank (closed_by x n (ends_in s))) opening
    ∙ ap (λ x. facts blank (closed_by (trim_start b) n (ends_in x))) both
    ∙ ap (facts blank) (closed-is b a (html-utf8 body hb))
    ∙ ap (λ x. facts x (is_html_closed b)) (blank-is body tail)

drop-none : (m : ℕ) → drop {A = SourcedEvent} m [] ≡ []
drop-none zero = refl
drop-none (suc m) = refl

drop-two : (n m : ℕ) (es : List SourcedEvent) → drop (n + m) es ≡ drop m (drop n es)
drop-two zero m es = let e : 0 + m ≡ m = omega arith in ap (λ k. drop k es) e
drop-two (suc n) m [] = let e : suc n + m ≡ suc (n + m) = omega arith in ap (λ k. drop {A = SourcedEvent} k []) e ∙ sym (drop-none m)
drop-two (suc n) m (x ∷ es) = let e : suc n + m ≡ suc (n + m) = omega arith in ap (λ k. drop k (x ∷ es)) e ∙ drop-two n m es

body-html : (rest : List SourcedEvent)
    → facts (is_blank_terminated (first_of html_in (body_in rest))) (is_html_closed (all_html (body_in rest))) ≡ html_of_kids (kids_of rest)
body-html rest =
    ap (λ x. facts (is_blank_terminated x) (is_html_closed (all_html (body_in rest)))) (first-scan rest)
    ∙ ap (λ x. facts (html_of_kids (kids_of rest)).blank (is_html_closed x)) (joined-scan html_of_leaf rest)

-- a block after whose Start these events are
start-is : (rest : List SourcedEvent) (front text : List ℕ) → AreHtmlTexts rest → text ≡ front ++ all_html rest
    → facts_by text (length (all_html (drop (span 0 rest) rest))) (length (drop (span 0 rest) rest)) (ahead_of rest) ≡ html_of_kids (kids_of rest)
start-is rest front text h whole =
    let n = span 0 rest in
    let body = take n rest in
    let tail = drop n rest in
    let seam : body ++ tail ≡ rest = take-append-drop n rest in
    ap (λ x. facts_by text (length (all_html tail)) (length tail) (ahead_of x)) (sym seam)
    ∙ block-is body tail front text (texts-take n rest h) (texts-drop n rest h) (subst AreHtmlTexts (sym seam) h)
    (ap all_html seam ∙ html-append n rest) (whole ∙ ap (λ x. front ++ all_html x) (sym seam))
    ∙ body-html rest

pub finds : (evs : List SourcedEvent) (e : SourcedEvent) (k end after events : ℕ) (text : List ℕ) (ahead : HtmlAhead) (x : HtmlFacts)
    → drop k evs ≡ e ∷ drop (k + 1) evs → ((t : TagView) → e ≡ Start t → end ≡ k + 1 + span 0 (drop (k + 1) evs)) → after ≡ length (all_html (drop end evs)) → events ≡ length evs - end
    → text ≡ all_html evs → AreHtmlTexts (drop (k + 1) evs) → ahead ≡ ahead_of (drop (k + 1) evs) → x ≡ event_facts e text after events ahead
    → IsFound evs k x
finds evs e k end after events text ahead x at there ha hn whole h b is other found =
    let rest = drop (k + 1) evs in
    let same : e ≡ Start HtmlBlock = same-first e (Start HtmlBlock) rest other (sym at ∙ found) in
    let behind : rest ≡ other = same-rest e (Start HtmlBlock) rest other (sym at ∙ found) in
    let tail : drop end evs ≡ drop (span 0 rest) rest = ap (λ n. drop n evs) (there HtmlBlock same) ∙ drop-two (k + 1) (span 0 rest) evs in
    let size : events ≡ length (drop (span 0 rest) rest) = hn ∙ sym (length-drop end evs) ∙ ap length tail in
    let bytes : after ≡ length (all_html (drop (span 0 rest) rest)) = ha ∙ ap (λ y. length (all_html y)) tail in
    is ∙ ap (λ y. event_facts y text after events ahead) same
    ∙ ap (λ n. facts_by text n events ahead) bytes
    ∙ ap (λ n. facts_by text (length (all_html (drop (span 0 rest) rest))) n ahead) size
    ∙ ap (facts_by text (length (all_html (drop (span 0 rest) rest))) (length (drop (span 0 rest) rest))) b
    ∙ start-is rest (all_html (take (k + 1) evs)) text h (whole ∙ html-append (k + 1) evs)
    ∙ ap (λ y. html_of_kids (kids_of y)) behind
