-- What is asked of the events round a container, in trees and in the flat list.
use Rattle.std.proofs.Common.{◌≡◌, if◌then◌else◌, ℕ, zero, suc, ◌+◌, Bool, true, false, Option, List, [], ◌∷◌, ◌++◌, refl, sym, ap, ◌∙◌, take, drop, reverse, subst, length, ◌<◌, ◌-◌, arith, get_or}
use Rattle.std.specs.Prelude.{codes, ◌==◌, not, ◌&&◌, ◌||◌, None, slice_index_or, unwrap_or}
use Rattle.std.specs.List.{list_any}
use Rattle.std.proofs.lemmas.List.{reverse-append, append_assoc, append-nil, drop_more, take_more, length-drop}
use Rattle.tocmark_event.specs.View.{TagView, Link, Image, SourcedEvent, SourcedLeaf, EventView, Start, End, Leaf, end_of}
use Rattle.tocmark_event.specs.declared.event.TagEnd.{TagEnd}
use Rattle.tocmark_event.specs.Forest.{empty, leaf, node, flat_onto, flat}
use Rattle.tocmark_spelling.specs.Plan.{Setting, Manner}
use Rattle.tocmark_spelling.specs.Body.{Trees, back_onto, is_inline_leaf, has_inline, is_tight, some_child, count_tags, count_children, has_lone_paragraph, has_tag, breaks_line, text_of_leaf, html_of_leaf}
use Rattle.tocmark_spelling.specs.ById.{by_id, by_id_of, goes_by_id}
use Rattle.tocmark_spelling.specs.Kinds.{is_inline_tag, is_item, is_paragraph, is_emphasis_or_strong}
use Rattle.tocmark_spelling.specs.Look.{look, is_preferred, prefers_if}
use Rattle.tocmark_spelling.specs.Page.{Around}
use Rattle.tocmark_spelling.specs.Runs.{opening_run, closing_run, run_at, start_width, close_width, tag_width, added_width, width_within, counts, disturbs_at, and_disturbs, prefers_underscore}
use Rattle.tocmark_spelling.specs.Machine.{Layers, layers, with_node, kids_of, around}
use Rattle.tocmark_spelling.specs.Scans.{span, AreEnds}
use Rattle.tocmark_write_pending.specs.Ahead.{body_in, reads_back, is_named_by_id, behind_body, up_to_end, IsNested, AreNested, opening_ahead, closing_ahead, ends_here, first_width, width_in, width_ahead_of, character_before, character_after, starts_disturber, disturbers, is_disturbed, prefers_ahead, has_start, has_inline_event, some_start, is_tight_body, sum_starts, count_starts, is_lone_paragraph, AreSeen, HoldMarks, AreDisturbed}
use Rattle.tocmark_write_pending.proofs.Closers.{body-reaches}
use Rattle.tocmark_write_pending.proofs.Gathered.{empty-scan, begins-scan, joined-scan, first-scan}
use Rattle.tocmark_spelling.proofs.Looks.{leaf-scan}
use Rattle.tocmark_spelling.proofs.Follows.{kids-flat}

-- after a body

drop-flat : (f : Trees) (d : ℕ) (r : List SourcedEvent) → drop (suc (span d (flat_onto f r))) (flat_onto f r) ≡ drop (suc (span d r)) r
drop-flat empty d r = refl
drop-flat (leaf l f) zero r = drop-flat f zero r
drop-flat (leaf l f) (suc d) r = drop-flat f (suc d) r
drop-flat (node t kids f) d r = drop-flat kids (suc d) (End (end_of t) ∷ flat_onto f r) ∙ drop-flat f d r

pub behind-body : (kids : Trees) (k : TagEnd) (after : List SourcedEvent) → behind_body (flat_onto kids (End k ∷ after)) ≡ after
behind-body kids k after = drop-flat kids 0 (End k ∷ after)

reverse-cons : (e : SourcedEvent) (es before : List SourcedEvent) → reverse (e ∷ es) ++ before ≡ reverse es ++ e ∷ before
reverse-cons e es before = ap (λ x. x ++ before) (reverse-append (e ∷ []) es) ∙ append_assoc (reverse es) (e ∷ []) before

-- the events before the End at a depth
abbrev front_part : ℕ → List SourcedEvent → List SourcedEvent
front_part d es = take (span d es) es

take-flat : (f : Trees) (d : ℕ) (r before : List SourcedEvent) → reverse (front_part d (flat_onto f r)) ++ before ≡ reverse (front_part d r) ++ back_onto f before
take-flat empty d r before = refl
take-flat (leaf l f) zero r before = reverse-cons (Leaf l) (front_part 0 (flat_onto f r)) before ∙ take-flat f zero r (Leaf l ∷ before)
take-flat (leaf l f) (suc d) r before = reverse-cons (Leaf l) (front_part (suc d) (flat_onto f r)) before ∙ take-flat f (suc d) r (Leaf l ∷ before)
take-flat (node t kids f) d r before =
    let right : List SourcedEvent = flat_onto f r in
    let within : List SourcedEvent = back_onto kids (Start t ∷ before) in
    reverse-cons (Start t) (front_part (suc d) (flat_onto kids (End (end_of t) ∷ right))) before
    ∙ take-flat kids (suc d) (End (end_of t) ∷ right) (Start t ∷ before)
    ∙ reverse-cons (End (end_of t)) (front_part d right) within
    ∙ take-flat f d r (End (end_of t) ∷ within)

pub up-to-end : (kids : Trees) (k : TagEnd) (before after : List SourcedEvent) → up_to_end before (flat_onto kids (End k ∷ after)) ≡ back_onto kids before
up-to-end kids k before after = take-flat kids 0 (End k ∷ after) before

-- each Start of a forest's list is closed

nested-flat : (t : TagView) (kids : Trees) (after : List SourcedEvent) → IsNested t (flat_onto kids (End (end_of t) ∷ after))
nested-flat t kids after =
    ap (λ es. flat_onto kids (End (end_of t) ∷ es)) (sym (behind-body kids (end_of t) after))
    ∙ ap (λ k. flat_onto k (End (end_of t) ∷ behind_body (flat_onto kids (End (end_of t) ∷ after)))) (sym (kids-flat kids (end_of t) after))

nested-onto : (f : Trees) (r : List SourcedEvent) → AreNested r → AreNested (flat_onto f r)
nested-onto empty r h = h
nested-onto (leaf l f) r h = nested-onto f r h
nested-onto (node t kids f) r h = (nested-flat t kids (flat_onto f r), nested-onto kids (End (end_of t) ∷ flat_onto f r) (nested-onto f r h))

nested-rest : (e : SourcedEvent) (es : List SourcedEvent) → AreNested (e ∷ es) → AreNested es
nested-rest (Start t) es h = h.1
nested-rest (End k) es h = h
nested-rest (Leaf l) es h = h

nested-drop : (es : List SourcedEvent) (i : ℕ) → AreNested es → AreNested (drop i es)
nested-drop es zero h = h
nested-drop [] (suc i) h = tt
nested-drop (e ∷ es) (suc i) h = nested-drop es i (nested-rest e es h)

-- at each place of a forest's list
pub nested-at : (f : Trees) (i : ℕ) → AreNested (drop i (flat f))
nested-at f i = nested-drop (flat f) i (nested-onto f [] tt)

-- the runs

opening-flat : (t : TagView) (kids : Trees) (before after : List SourcedEvent) (next : Option EventView) → opening_run t kids (around before after next) ≡ opening_ahead t before (flat_onto kids (End (end_of t) ∷ after))
opening-flat t kids before after next = refl

closing-flat : (t : TagView) (kids : Trees) (before after : List SourcedEvent) (next : Option EventView) → closing_run t kids (around before after next) ≡ closing_ahead t before (flat_onto kids (End (end_of t) ∷ after))
closing-flat t kids before after next =
    ap (λ b. run_at close_width (tag_width t) b after) (sym (up-to-end kids (end_of t) (Start t ∷ before) after))
    ∙ ap (λ a. run_at close_width (tag_width t) (up_to_end (Start t ∷ before) (flat_onto kids (End (end_of t) ∷ after))) a) (sym (behind-body kids (end_of t) after))

-- the width

-- what is after the innermost container's End, if it has one
abbrev right_of : List Trees → Trees
right_of [] = empty
right_of (f ∷ fs) = f

first-node : (t : TagView) (kids : Trees) (fs : List Trees) → (with_node t kids fs).inner ≡ node t kids (right_of fs)
first-node t kids [] = refl
first-node t kids (f ∷ fs) = refl

-- the trees after so many Ends
abbrev outer_at : ℕ → List Trees → Trees
outer_at d [] = empty
outer_at zero (f ∷ fs) = f
outer_at (suc d) (f ∷ fs) = outer_at d fs

outer-node : (t : TagView) (d : ℕ) (kids : Trees) (fs : List Trees) → outer_at (suc d) fs ≡ outer_at d (with_node t kids fs).outer
outer-node t d kids [] = refl
outer-node t d kids (f ∷ fs) = refl

outer-right : (fs : List Trees) → outer_at 0 fs ≡ right_of fs
outer-right [] = refl
outer-right (f ∷ fs) = refl

outer-layers : (es : List SourcedEvent) (d : ℕ) → outer_at d (layers es).outer ≡ kids_of (drop (suc (span d es)) es)
outer-layers [] zero = refl
outer-layers [] (suc d) = refl
outer-layers (Leaf l ∷ es) zero = outer-layers es zero
outer-layers (Leaf l ∷ es) (suc d) = outer-layers es (suc d)
outer-layers (Start t ∷ es) d = sym (outer-node t d (layers es).inner (layers es).outer) ∙ outer-layers es (suc d)
outer-layers (End k ∷ es) zero = refl
outer-layers (End k ∷ es) (suc d) = outer-layers es d

-- a container that comes first is the first tree
kids-start : (t : TagView) (es : List SourcedEvent) → kids_of (Start t ∷ es) ≡ node t (kids_of es) (kids_of (behind_body es))
kids-start t es =
    first-node t (kids_of es) (layers es).outer
    ∙ ap (node t (kids_of es)) (sym (outer-right (layers es).outer) ∙ outer-layers es 0)

-- a container with such a tag in a body

abbrev at_depth : ℕ → Layers → Trees
at_depth zero x = x.inner
at_depth (suc d) x = outer_at d x.outer

has-layers : (test : TagView → Bool) (es : List SourcedEvent) (d : ℕ) → has_start test d es ≡ has_tag test (at_depth d (layers es))
has-layers test [] zero = refl
has-layers test [] (suc d) = refl
has-layers test (Leaf l ∷ es) zero = has-layers test es zero
has-layers test (Leaf l ∷ es) (suc d) = has-layers test es (suc d)
has-layers test (Start t ∷ es) zero =
    ap (λ b. test t || b) (has-layers test es 1 ∙ ap (has_tag test) (outer-right (layers es).outer))
    ∙ ap (has_tag test) (sym (first-node t (layers es).inner (layers es).outer))
has-layers test (Start t ∷ es) (suc d) = has-layers test es (suc (suc d)) ∙ ap (has_tag test) (outer-node t d (layers es).inner (layers es).outer)
has-layers test (End k ∷ es) zero = refl
has-layers test (End k ∷ es) (suc zero) = has-layers test es zero
has-layers test (End k ∷ es) (suc (suc d)) = has-layers test es (suc d)

inline-layers : (es : List SourcedEvent) (d : ℕ) → has_inline_event d es ≡ has_inline (at_depth d (layers es))
inline-layers [] zero = refl
inline-layers [] (suc d) = refl
inline-layers (Leaf l ∷ es) zero = ap (λ b. is_inline_leaf l.leaf || b) (inline-layers es zero)
inline-layers (Leaf l ∷ es) (suc d) = inline-layers es (suc d)
inline-layers (Start t ∷ es) zero =
    ap (λ b. is_inline_tag t || b) (inline-layers es 1 ∙ ap has_inline (outer-right (layers es).outer))
    ∙ ap has_inline (sym (first-node t (layers es).inner (layers es).outer))
inline-layers (Start t ∷ es) (suc d) = inline-layers es (suc (suc d)) ∙ ap has_inline (outer-node t d (layers es).inner (layers es).outer)
inline-layers (End k ∷ es) zero = refl
inline-layers (End k ∷ es) (suc zero) = inline-layers es zero
inline-layers (End k ∷ es) (suc (suc d)) = inline-layers es (suc d)

-- what the children of a body pass
module _ (test : Trees → Bool) (scan : List SourcedEvent → Bool) (is : (es : List SourcedEvent) → scan es ≡ test (kids_of es)) where
  child-layers : (es : List SourcedEvent) (d : ℕ) → some_start scan d es ≡ some_child test (at_depth d (layers es))
  child-layers [] zero = refl
  child-layers [] (suc d) = refl
  child-layers (Leaf l ∷ es) zero = child-layers es zero
  child-layers (Leaf l ∷ es) (suc d) = child-layers es (suc d)
  child-layers (Start t ∷ es) zero =
      ap (λ b. b || some_start scan 1 es) (is es)
      ∙ ap (λ b. test (kids_of es) || b) (child-layers es 1 ∙ ap (some_child test) (outer-right (layers es).outer))
      ∙ ap (some_child test) (sym (first-node t (layers es).inner (layers es).outer))
  child-layers (Start t ∷ es) (suc d) = child-layers es (suc (suc d)) ∙ ap (some_child test) (outer-node t d (layers es).inner (layers es).outer)
  child-layers (End k ∷ es) zero = refl
  child-layers (End k ∷ es) (suc zero) = child-layers es zero
  child-layers (End k ∷ es) (suc (suc d)) = child-layers es (suc d)

tight-scan : (es : List SourcedEvent) → is_tight_body es ≡ is_tight (kids_of es)
tight-scan es =
    ap (λ b. b && not (some_start (has_start is_paragraph 0) 0 es)) (child-layers has_inline (has_inline_event 0) (λ x. inline-layers x 0) es 0)
    ∙ ap (λ b. some_child has_inline (kids_of es) && not b) (child-layers (has_tag is_paragraph) (has_start is_paragraph 0) (λ x. has-layers is_paragraph x 0) es 0)

-- a number for each tree
module _ (count : TagView → List SourcedEvent → ℕ) (sum : Trees → ℕ) (none : 0 ≡ sum empty) (one : (l : SourcedLeaf) (f : Trees) → sum f ≡ sum (leaf l f)) (more : (t : TagView) (es : List SourcedEvent) (f : Trees) → count t es + sum f ≡ sum (node t (kids_of es) f)) where
  sum-layers : (es : List SourcedEvent) (d : ℕ) → sum_starts count d es ≡ sum (at_depth d (layers es))
  sum-layers [] zero = none
  sum-layers [] (suc d) = none
  sum-layers (Leaf l ∷ es) zero = sum-layers es zero ∙ one l (kids_of es)
  sum-layers (Leaf l ∷ es) (suc d) = sum-layers es (suc d)
  sum-layers (Start t ∷ es) zero =
      ap (λ n. count t es + n) (sum-layers es 1 ∙ ap sum (outer-right (layers es).outer))
      ∙ more t es (right_of (layers es).outer)
      ∙ ap sum (sym (first-node t (layers es).inner (layers es).outer))
  sum-layers (Start t ∷ es) (suc d) = sum-layers es (suc (suc d)) ∙ ap sum (outer-node t d (layers es).inner (layers es).outer)
  sum-layers (End k ∷ es) zero = none
  sum-layers (End k ∷ es) (suc zero) = sum-layers es zero
  sum-layers (End k ∷ es) (suc (suc d)) = sum-layers es (suc d)

count-scan : (test : TagView → Bool) (es : List SourcedEvent) → count_starts test es ≡ count_tags test (kids_of es)
count-scan test es = sum-layers (λ t rest. if test t then 1 else 0) (count_tags test) refl (λ l f. refl) (λ t es f. refl) es 0

blocks-scan : (test : TagView → Bool) (es : List SourcedEvent) → sum_starts (λ t rest. count_starts test rest) 0 es ≡ count_children (count_tags test) (kids_of es)
blocks-scan test es = sum-layers (λ t rest. count_starts test rest) (count_children (count_tags test)) refl (λ l f. refl) (λ t es f. ap (λ n. n + count_children (count_tags test) f) (count-scan test es)) es 0

lone-scan : (es : List SourcedEvent) → is_lone_paragraph es ≡ has_lone_paragraph (kids_of es)
lone-scan es =
    let blocks : TagView → Bool = λ t. not (is_inline_tag t) in
    ap (λ n. (n == 1) && (sum_starts (λ t rest. count_starts blocks rest) 0 es == 1) && some_start (has_start is_paragraph 0) 0 es) (count-scan is_item es)
    ∙ ap (λ n. (count_tags is_item (kids_of es) == 1) && (n == 1) && some_start (has_start is_paragraph 0) 0 es) (blocks-scan blocks es)
    ∙ ap (λ b. (count_tags is_item (kids_of es) == 1) && (count_children (count_tags blocks) (kids_of es) == 1) && b) (child-layers (has_tag is_paragraph) (has_start is_paragraph 0) (λ x. has-layers is_paragraph x 0) es 0)

added-node : (t t' : TagView) (kids : Trees) (fs : List Trees) (width : ℕ) → first_width t false width ≡ added_width t (with_node t' kids fs).inner width
added-node t t' kids [] width = refl
added-node t t' kids (f ∷ fs) width = refl

added-first : (t : TagView) (es : List SourcedEvent) (width : ℕ) → first_width t (ends_here es) width ≡ added_width t (kids_of es) width
added-first t [] width = refl
added-first t (Leaf l ∷ es) width = refl
added-first t (End k ∷ es) width = refl
added-first t (Start t' ∷ es) width = added-node t t' (kids_of es) (layers es).outer width

pub width-in : (es : List SourcedEvent) → width_in es ≡ width_within (kids_of es)
width-in [] = refl
width-in (Leaf l ∷ es) = refl
width-in (End k ∷ es) = refl
width-in (Start t ∷ es) =
    ap (λ n. first_width t (ends_here (behind_body es)) (tag_width t + (if is_emphasis_or_strong t then n else 0))) (width-in es)
    ∙ added-first t (behind_body es) (tag_width t + (if is_emphasis_or_strong t then width_within (kids_of es) else 0))
    ∙ ap width_within (sym (kids-start t es))

-- the preference

or_false : (b : Bool) → b || false ≡ b
or_false true = refl
or_false false = refl

and_if : (b : Bool) (s : Setting) (m : Manner) (t : TagView) (kids : Trees) (a : Around) → prefers_if b s m t kids a ≡ b && prefers_underscore s (not (is_preferred m.plan.layout)) kids a
and_if true s m t kids a = refl
and_if false s m t kids a = refl

or-four : (a b c d : Bool) → a || (b || (c || d)) ≡ ((a || b) || c) || d
or-four true b c d = refl
or-four false true c d = refl
or-four false false c d = refl

module _ (s : Setting) (next : Option EventView) where
  disturbs-there : (b runs : Bool) (t : TagView) (kids : Trees) (before after : List SourcedEvent)
      → b && disturbs_at s (character_before runs before) (character_after runs start_width (flat_onto kids (End (end_of t) ∷ after))) (character_after runs close_width after)
      ≡ and_disturbs b s runs t kids (around before after next)
  disturbs-there true true t kids before after = refl
  disturbs-there true false t kids before after = refl
  disturbs-there false runs t kids before after = refl

  starts-disturber : (runs : Bool) (t : TagView) (kids : Trees) (before after : List SourcedEvent)
      → starts_disturber s runs before (Start t) (flat_onto kids (End (end_of t) ∷ after)) ≡ and_disturbs (counts runs t) s runs t kids (around before after next)
  starts-disturber runs t kids before after =
      ap (λ x. counts runs t && disturbs_at s (character_before runs before) (character_after runs start_width (flat_onto kids (End (end_of t) ∷ after))) (character_after runs close_width x)) (behind-body kids (end_of t) after)
      ∙ disturbs-there (counts runs t) runs t kids before after

  module _ (runs : Bool) where
    -- whether a node before the End at a depth disturbs
    abbrev some_disturber : ℕ → List SourcedEvent → List SourcedEvent → Bool
    some_disturber d before es = list_any (λ b. b) (take (span d es) (disturbers s runs before es))

    disturber-flat : (f : Trees) (d : ℕ) (r before : List SourcedEvent) → some_disturber d before (flat_onto f r) ≡ prefers_underscore s runs f (around before r next) || some_disturber d (back_onto f before) r
    unfolding prefers_underscore
    disturber-flat empty d r before = refl
    disturber-flat (leaf l f) zero r before = disturber-flat f zero r (Leaf l ∷ before)
    disturber-flat (leaf l f) (suc d) r before = disturber-flat f (suc d) r (Leaf l ∷ before)
    disturber-flat (node t kids f) d r before =
        let right : List SourcedEvent = flat_onto f r in
        let within : List SourcedEvent = back_onto kids (Start t ∷ before) in
        let own : Bool = and_disturbs (counts runs t) s runs t kids (around before right next) in
        let below : Bool = prefers_underscore s runs kids (around (Start t ∷ before) (End (end_of t) ∷ right) next) in
        let beside : Bool = prefers_underscore s runs f (around (End (end_of t) ∷ within) r next) in
        let further : Bool = some_disturber d (back_onto f (End (end_of t) ∷ within)) r in
        ap (λ b. b || some_disturber (suc d) (Start t ∷ before) (flat_onto kids (End (end_of t) ∷ right))) (starts-disturber runs t kids before right)
        ∙ ap (λ b. own || b) (disturber-flat kids (suc d) (End (end_of t) ∷ right) (Start t ∷ before))
        ∙ ap (λ b. own || (below || b)) (disturber-flat f d r (End (end_of t) ∷ within))
        ∙ or-four own below beside further

    is-disturbed : (kids : Trees) (k : TagEnd) (before after : List SourcedEvent) → is_disturbed s runs before (flat_onto kids (End k ∷ after)) ≡ prefers_underscore s runs kids (around before (End k ∷ after) next)
    is-disturbed kids k before after = disturber-flat kids 0 (End k ∷ after) before ∙ or_false (prefers_underscore s runs kids (around before (End k ∷ after) next))

prefers-flat : (s : Setting) (m : Manner) (t : TagView) (kids : Trees) (before after : List SourcedEvent) (next : Option EventView)
    → (look s m t kids (around before after next)).prefers ≡ prefers_ahead s m t before (flat_onto kids (End (end_of t) ∷ after))
prefers-flat s m t kids before after next =
    and_if (is_emphasis_or_strong t) s m t kids (around (Start t ∷ before) (End (end_of t) ∷ after) next)
    ∙ ap (λ b. is_emphasis_or_strong t && b) (sym (is-disturbed s next (not (is_preferred m.plan.layout)) kids (end_of t) (Start t ∷ before) after))

-- the name

body-flat : (f : Trees) (d : ℕ) (r : List SourcedEvent) → take (span d (flat_onto f r)) (flat_onto f r) ≡ flat_onto f (take (span d r) r)
body-flat empty d r = refl
body-flat (leaf l f) zero r = ap (λ x. Leaf l ∷ x) (body-flat f zero r)
body-flat (leaf l f) (suc d) r = ap (λ x. Leaf l ∷ x) (body-flat f (suc d) r)
body-flat (node t kids f) d r =
    ap (λ x. Start t ∷ x) (body-flat kids (suc d) (End (end_of t) ∷ flat_onto f r))
    ∙ ap (λ x. Start t ∷ flat_onto kids (End (end_of t) ∷ x)) (body-flat f d r)

by-reading : (b : Bool) (s : Setting) (mark : List ℕ) (t : TagView) (id : List ℕ) (kids : Trees) → by_id_of b s mark t id kids ≡ b && reads_back s mark t id (flat kids)
by-reading true s mark t id kids = refl
by-reading false s mark t id kids = refl

named-flat : (s : Setting) (t : TagView) (kids : Trees) → by_id s t kids ≡ is_named_by_id s t (flat kids)
unfolding by_id
named-flat s (Link k d t i) kids = by-reading (goes_by_id k) s [] (Link k d t i) i kids
named-flat s (Image k d t i) kids = by-reading (goes_by_id k) s (codes "!") (Image k d t i) i kids
named-flat s t kids = refl

nested-body : (t : TagView) (rest : List SourcedEvent) → IsNested t rest → flat (kids_of rest) ≡ body_in rest
nested-body t rest nested =
    sym (body-flat (kids_of rest) 0 (End (end_of t) ∷ behind_body rest)) ∙ ap (λ x. body_in x) (sym nested)

-- a container in the flat list
module _ (s : Setting) (m : Manner) (t : TagView) (before rest : List SourcedEvent) (next : Option EventView) (nested : IsNested t rest) where
  pub opening-look : (look s m t (kids_of rest) (around before (behind_body rest) next)).opening ≡ opening_ahead t before rest
  opening-look = opening-flat t (kids_of rest) before (behind_body rest) next ∙ ap (λ es. opening_ahead t before es) (sym nested)

  pub closing-look : (look s m t (kids_of rest) (around before (behind_body rest) next)).closing ≡ closing_ahead t before rest
  closing-look = closing-flat t (kids_of rest) before (behind_body rest) next ∙ ap (λ es. closing_ahead t before es) (sym nested)

  pub width-look : (look s m t (kids_of rest) (around before (behind_body rest) next)).width ≡ width_ahead_of t rest
  width-look = ap (λ n. tag_width t + n) (sym (width-in rest))

  pub prefers-look : (look s m t (kids_of rest) (around before (behind_body rest) next)).prefers ≡ prefers_ahead s m t before rest
  prefers-look = prefers-flat s m t (kids_of rest) before (behind_body rest) next ∙ ap (λ es. prefers_ahead s m t before es) (sym nested)

nested-start : (t : TagView) (rest es : List SourcedEvent) → AreNested es → es ≡ Start t ∷ rest → IsNested t rest
nested-start t rest es h e = (subst AreNested e h).0

pub all-seen : (s : Setting) (m : Manner) (next : Option EventView) (f : Trees) → AreSeen s m next f
all-seen s m next f i t rest e =
    let before : List SourcedEvent = reverse (take i (flat f)) in
    let nested : IsNested t rest = nested-start t rest (drop i (flat f)) (nested-at f i) e in
    record {
      previous = refl;
      next_in_unit = refl;
      next_is = refl;
      opening = opening-look s m t before rest next nested;
      closing = closing-look s m t before rest next nested;
      width = width-look s m t before rest next nested;
      prefers = prefers-look s m t before rest next nested;
      named = named-flat s t (kids_of rest) ∙ ap (is_named_by_id s t) (nested-body t rest nested);
      empty_body = sym (empty-scan rest);
      begins_paragraph = sym (begins-scan rest);
      has_paragraph = sym (has-layers is_paragraph rest 0);
      tight = sym (tight-scan rest);
      lone_paragraph = sym (lone-scan rest);
      broken = sym (leaf-scan breaks_line rest);
      text = sym (joined-scan text_of_leaf rest);
      first_html = sym (first-scan rest);
      html = sym (joined-scan html_of_leaf rest);
    }

-- the marks at a place
disturbers-drop : (s : Setting) (runs : Bool) (i : ℕ) (es before : List SourcedEvent) → drop i (disturbers s runs before es) ≡ disturbers s runs (reverse (take i es) ++ before) (drop i es)
disturbers-drop s runs zero es before = refl
disturbers-drop s runs (suc i) [] before = refl
disturbers-drop s runs (suc i) (e ∷ es) before =
    disturbers-drop s runs i es (e ∷ before) ∙ ap (λ b. disturbers s runs b (drop i es)) (sym (reverse-cons e (take i es) before))

disturbers-length : (s : Setting) (runs : Bool) (es before : List SourcedEvent) → length (disturbers s runs before es) ≡ length es
disturbers-length s runs [] before = refl
disturbers-length s runs (e ∷ es) before = ap suc (disturbers-length s runs es (e ∷ before))

-- what is at a place
module _ (es rest : List SourcedEvent) (i : ℕ) (e : SourcedEvent) (at : drop i es ≡ e ∷ rest) where
  pub place-within : i < length es
  place-within = omega (arith, sym (length-drop i es) ∙ ap length at)

  pub place-rest : drop (i + 1) es ≡ rest
  place-rest = ap (drop 1) (sym (drop_more es i e place-within) ∙ at)

  pub place-before : reverse (take (i + 1) es) ≡ e ∷ reverse (take i es)
  place-before =
      ap reverse (take_more es i e place-within)
      ∙ reverse-append (take i es) (get_or es i e ∷ [])
      ∙ ap (λ x. get_or x 0 e ∷ reverse (take i es)) (sym (drop_more es i e place-within) ∙ at)

-- a column of marks gives that of the preferences
pub are-disturbed : (s : Setting) (runs : Bool) (es : List SourcedEvent) (marks : List Bool) (ends : List (Option ℕ)) (found : List Bool)
    → marks ≡ disturbers s runs [] es → AreEnds es ends → HoldMarks marks ends found → AreDisturbed s runs es found
are-disturbed s runs es marks ends found e are hold i t rest at =
    let lt : i < length es = place-within es rest i (Start t) at in
    let within : i < length marks = omega (arith, lt, ap length e ∙ disturbers-length s runs es []) in
    let reach = body-reaches es rest i t (slice_index_or ends i None) at (are.at i) (length marks) (ap length e ∙ disturbers-length s runs es []) in
    let width : unwrap_or (slice_index_or ends i None) (length marks) - (i + 1) ≡ span 0 rest = omega (arith, reach) in
    let marked : drop (i + 1) marks ≡ disturbers s runs (reverse (take (i + 1) es)) (drop (i + 1) es) =
    ap (drop (i + 1)) e ∙ disturbers-drop s runs (i + 1) es [] ∙ ap (λ b. disturbers s runs b (drop (i + 1) es)) (append-nil (reverse (take (i + 1) es))) in
    hold.at i within
    ∙ ap (λ n. list_any (λ b. b) (take n (drop (i + 1) marks))) width
    ∙ ap (λ ms. list_any (λ b. b) (take (span 0 rest) ms)) marked
    ∙ ap (λ r. list_any (λ b. b) (take (span 0 rest) (disturbers s runs (reverse (take (i + 1) es)) r))) (place-rest es rest i (Start t) at)
    ∙ ap (λ b. is_disturbed s runs b rest) (place-before es rest i (Start t) at)
