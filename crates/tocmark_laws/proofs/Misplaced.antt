-- A node of a forest is misplaced just where an event of its list isn't allowed where it is.
use Rattle.std.proofs.Common.{◌≡◌, ℕ, Bool, true, false, Option, None, List, [], ◌∷◌, ◌++◌, codes, drop, refl, sym, ap, ◌∙◌}
use Rattle.std.proofs.lemmas.Bool.{false≢true}
use Rattle.std.proofs.lemmas.List.{map-append}
use Rattle.std.specs.Prelude.{◌||◌, ◌&&◌, not}
use Rattle.tocmark_event.specs.Forest.{empty, leaf, node, flat_onto}
use Rattle.tocmark_event.specs.View.{TagView, SourcedEvent, Start, End, Leaf, Link, Image, end_of}
use Rattle.tocmark_spelling.specs.Body.{Trees}
use Rattle.tocmark_spelling.specs.ById.{by_id, by_id_of, goes_by_id}
use Rattle.tocmark_spelling.specs.Page.{Around, Page}
use Rattle.tocmark_spelling.specs.Plan.{Manner, Setting}
use Rattle.tocmark_spelling.specs.Spelling.{spelling, is_misplaced, is_wrong_in}
use Rattle.tocmark_spelling.proofs.Refusals.{none-misplaced}
use Rattle.tocmark_laws.specs.Misplaced.{HasMisplacedStart, Marked, events_in, marked, marked_onto, open_behind}

-- whether some Start that is looked at may not be in the containers that are open before it, where these were open first
abbrev some_wrong : List TagView → List Marked → Bool
some_wrong outside [] = false
some_wrong outside ((Leaf l, looked) ∷ es) = some_wrong outside es
some_wrong outside ((Start t, looked) ∷ es) = (looked && is_wrong_in t outside) || some_wrong (t ∷ outside) es
some_wrong outside ((End k, looked) ∷ es) = some_wrong (drop 1 outside) es

and-false : (b : Bool) → (b && false) ≡ false
and-false true = refl
and-false false = refl

or-none : (a : Bool) → (a || false) ≡ a
or-none true = refl
or-none false = refl

-- the truths of a container, of its body, of its right neighbours and of the rest
regroup : (b w n k f r : Bool) → ((b && w) || (((b && not n) && k) || ((b && f) || r))) ≡ ((b && (w || (not n && k) || f)) || r)
regroup false w n k f r = refl
regroup true true n k f r = refl
regroup true false true k f r = refl
regroup true false false true f r = refl
regroup true false false false f r = refl

-- a forest's list has such a Start where the forest has such a node, or the rest has one
marked-wrong : (s : Setting) (b : Bool) (f : Trees) (outside : List TagView) (rest : List Marked) → some_wrong outside (marked_onto s b f rest) ≡ ((b && is_misplaced s outside f) || some_wrong outside rest)
unfolding is_misplaced
marked-wrong s b empty outside rest = ap (λ x. x || some_wrong outside rest) (sym (and-false b))
marked-wrong s b (leaf l f) outside rest = marked-wrong s b f outside rest
marked-wrong s b (node t kids f) outside rest =
    let wrong = is_wrong_in t outside in
    let named = by_id s t kids in
    let inside = is_misplaced s (t ∷ outside) kids in
    ap (λ x. (b && wrong) || x) (marked-wrong s (b && not named) kids (t ∷ outside) ((End (end_of t), b) ∷ marked_onto s b f rest))
    ∙ ap (λ x. (b && wrong) || (((b && not named) && inside) || x)) (marked-wrong s b f outside rest)
    ∙ regroup b wrong named inside (is_misplaced s outside f) (some_wrong outside rest)

whole-wrong : (s : Setting) (f : Trees) → some_wrong [] (marked s f) ≡ is_misplaced s [] f
whole-wrong s f = marked-wrong s true f [] [] ∙ or-none (is_misplaced s [] f)

-- the events of a unit are all there
marked-events : (s : Setting) (b : Bool) (f : Trees) (rest : List Marked) → events_in (marked_onto s b f rest) ≡ flat_onto f (events_in rest)
marked-events s b empty rest = refl
marked-events s b (leaf l f) rest = ap (λ es. Leaf l ∷ es) (marked-events s b f rest)
marked-events s b (node t kids f) rest =
    ap (λ es. Start t ∷ es)
    (marked-events s (b && not (by_id s t kids)) kids ((End (end_of t), b) ∷ marked_onto s b f rest)
    ∙ ap (λ es. flat_onto kids (End (end_of t) ∷ es)) (marked-events s b f rest))

-- ---- such a Start, by its place

record StartsWrong (outside : List TagView) (es : List Marked) : Type 0 where
  before : List Marked
  tag : TagView
  after : List Marked
  is : es ≡ before ++ (Start tag, true) ∷ after
  wrong : is_wrong_in tag (open_behind outside (events_in before)) ≡ true

behind-event : (outside : List TagView) (e : Marked) (inside : List TagView) (es : List Marked) → ((before : List SourcedEvent) → open_behind outside (e.0 ∷ before) ≡ open_behind inside before) → StartsWrong inside es → StartsWrong outside (e ∷ es)
behind-event outside e inside es same h = record {
  before = e ∷ h.before;
  tag = h.tag;
  after = h.after;
  is = ap (λ xs. e ∷ xs) h.is;
  wrong = ap (is_wrong_in h.tag) (same (events_in h.before)) ∙ h.wrong;
}

find-wrong : (es : List Marked) (outside : List TagView) → some_wrong outside es ≡ true → StartsWrong outside es
find-wrong [] outside h = absurd (false≢true h)
find-wrong ((Leaf l, b) ∷ es) outside h = behind-event outside (Leaf l, b) outside es (λ before. refl) (find-wrong es outside h)
find-wrong ((End k, b) ∷ es) outside h = behind-event outside (End k, b) (drop 1 outside) es (λ before. refl) (find-wrong es (drop 1 outside) h)
find-wrong ((Start t, false) ∷ es) outside h = behind-event outside (Start t, false) (t ∷ outside) es (λ before. refl) (find-wrong es (t ∷ outside) h)
find-wrong ((Start t, true) ∷ es) outside h = by_test (is_wrong_in t outside) refl h (λ k. find-wrong es (t ∷ outside) k)
  where
    by_test : (b : Bool) → is_wrong_in t outside ≡ b → (b || some_wrong (t ∷ outside) es) ≡ true → (some_wrong (t ∷ outside) es ≡ true → StartsWrong (t ∷ outside) es) → StartsWrong outside ((Start t, true) ∷ es)
    by_test true e k rest = record { before = []; tag = t; after = es; is = refl; wrong = e }
    by_test false e k rest = behind-event outside (Start t, true) (t ∷ outside) es (λ before. refl) (rest k)

or-second : (a b : Bool) → b ≡ true → (a || b) ≡ true
or-second true b h = refl
or-second false b h = h

or-first : (a b : Bool) → a ≡ true → (a || b) ≡ true
or-first true b h = refl
or-first false b h = absurd (false≢true h)

found-wrong : (before : List Marked) (tag : TagView) (after : List Marked) (outside : List TagView) → is_wrong_in tag (open_behind outside (events_in before)) ≡ true → some_wrong outside (before ++ (Start tag, true) ∷ after) ≡ true
found-wrong [] tag after outside h = or-first (is_wrong_in tag outside) _ h
found-wrong ((Leaf l, b) ∷ before) tag after outside h = found-wrong before tag after outside h
found-wrong ((End k, b) ∷ before) tag after outside h = found-wrong before tag after (drop 1 outside) h
found-wrong ((Start t, b) ∷ before) tag after outside h = or-second (b && is_wrong_in t outside) _ (found-wrong before tag after (t ∷ outside) h)

-- ---- the label of a setting says nothing of it

module _ (s : Setting) (label : Option (List ℕ)) where
  abbrev other : Setting
  other = record s { label = label }

  by-type : (b : Bool) (mark : List ℕ) (t : TagView) (id : List ℕ) (body : Trees) → by_id_of b other mark t id body ≡ by_id_of b s mark t id body
  by-type true mark t id body = refl
  by-type false mark t id body = refl

  by-id-same : (t : TagView) (kids : Trees) → by_id other t kids ≡ by_id s t kids
  unfolding by_id
  by-id-same (Link k d t i) kids = by-type (goes_by_id k) [] (Link k d t i) i kids
  by-id-same (Image k d t i) kids = by-type (goes_by_id k) (codes "!") (Image k d t i) i kids
  by-id-same t kids = refl

  misplaced-same : (outside : List TagView) (f : Trees) → is_misplaced other outside f ≡ is_misplaced s outside f
  unfolding is_misplaced
  misplaced-same outside empty = refl
  misplaced-same outside (leaf l f) = misplaced-same outside f
  misplaced-same outside (node t kids f) =
      λ j. is_wrong_in t outside || (not (by-id-same t kids j) && misplaced-same (t ∷ outside) kids j) || misplaced-same outside f j

-- ---- the laws

pub misplaced-start : (s : Setting) (f : Trees) → is_misplaced s [] f ≡ true → HasMisplacedStart s f
misplaced-start s f h =
    let found = find-wrong (marked s f) [] (whole-wrong s f ∙ h) in
    record {
      before = found.before;
      tag = found.tag;
      after = found.after;
      is = sym (marked-events s true f []) ∙ ap events_in found.is ∙ map-append (λ e. e.0) found.before ((Start found.tag, true) ∷ found.after);
      looked_at = found.is;
      wrong = found.wrong;
    }

pub start-misplaced : (s : Setting) (f : Trees) → HasMisplacedStart s f → is_misplaced s [] f ≡ true
start-misplaced s f h = sym (whole-wrong s f) ∙ ap (some_wrong []) h.looked_at ∙ found-wrong h.before h.tag h.after [] h.wrong

-- a unit without a spelling has such a Start
pub none-start : (s : Setting) (m : Manner) (f : Trees) (a : Around) (p : Page) → spelling s m f a [] p ≡ None → HasMisplacedStart s f
none-start s m f a p h = misplaced-start s f ((none-misplaced s m f a p).0 h)

-- and a unit with such a Start has none
pub start-none : (s : Setting) (m : Manner) (f : Trees) (a : Around) (p : Page) → HasMisplacedStart s f → spelling s m f a [] p ≡ None
start-none s m f a p h = (none-misplaced s m f a p).1 (start-misplaced s f h)

-- so it is with each label
pub start-labelled : (s : Setting) (label : Option (List ℕ)) (f : Trees) → is_misplaced (record s { label = label }) [] f ≡ true → HasMisplacedStart s f
start-labelled s label f h = misplaced-start s f (sym (misplaced-same s label [] f) ∙ h)

pub labelled-start : (s : Setting) (label : Option (List ℕ)) (f : Trees) → HasMisplacedStart s f → is_misplaced (record s { label = label }) [] f ≡ true
labelled-start s label f h = misplaced-same s label [] f ∙ start-misplaced s f h
