-- The lists that need a placeholder are found among the events in a row.
use Rattle.std.proofs.Common.{◌≡◌, ℕ, zero, suc, Bool, true, false, ◌||◌, ◌&&◌, Option, Some, None, List, [], ◌∷◌, ◌++◌, refl, sym, ap, ◌∙◌, drop}
use Rattle.std.specs.Prelude.{is_some}
use Rattle.std.proofs.lemmas.Bool.{false≢true, true≢false}
use Rattle.tocmark_event.specs.Forest.{empty, leaf, node, flat, flat_onto}
use Rattle.tocmark_event.specs.View.{TagView, SourcedEvent, Start, End, Leaf, end_of}
use Rattle.tocmark_event.specs.declared.event.TagEnd.{TagEnd}
use Rattle.tocmark_spelling.specs.Body.{Trees, back_onto, is_empty}
use Rattle.tocmark_spelling.specs.Kinds.{is_item, is_list, is_paragraph, and_is}
use Rattle.tocmark_spelling.specs.Page.{Around, front}
use Rattle.tocmark_spelling.specs.Runs.{inside, beyond, past, ahead_of}
use Rattle.tocmark_spelling.specs.Scans.{span}
use Rattle.tocmark_write_pending.specs.Placeholder.{is_inline_end_or_leaf, begins_with_empty_item, is_only_item, is_ambiguous_list, needs_placeholder_at, needs_placeholder, whole}
use Rattle.tocmark_write_pending.specs.Units.{placeholder_in, trees_of, waits}
use Rattle.tocmark_write_pending.specs.Waiting.{begins_empty_item, begins_three_ends, begins_only_item, from_end, starts_ambiguous_list, has_ambiguous_list}
use Rattle.tocmark_write_pending.proofs.Balanced.{flat-of-trees}

-- ---- the End of the container in which a forest is

-- the events from the End of the container that is open with so many others inside it
abbrev from_end_at : ℕ → List SourcedEvent → List SourcedEvent
from_end_at d es = drop (span d es) es

past-leaf : (l : _) (es : List SourcedEvent) (d : ℕ) → from_end_at d (Leaf l ∷ es) ≡ from_end_at d es
past-leaf l es zero = refl
past-leaf l es (suc d) = refl

past-forest : (f : Trees) (es : List SourcedEvent) (d : ℕ) → from_end_at d (flat_onto f es) ≡ from_end_at d es
past-forest empty es d = refl
past-forest (leaf l f) es d = past-leaf l (flat_onto f es) d ∙ past-forest f es d
past-forest (node t kids f) es d = past-forest kids (End (end_of t) ∷ flat_onto f es) (suc d) ∙ past-forest f es d

-- ---- one list

empty-item : (kids : Trees) (k : TagEnd) (rest : List SourcedEvent) → begins_empty_item (flat_onto kids (End k ∷ rest)) ≡ begins_with_empty_item kids
empty-item empty k [] = refl
empty-item empty k (e ∷ rest) = refl
empty-item (leaf l empty) k rest = refl
empty-item (leaf l (leaf m f)) k rest = refl
empty-item (leaf l (node t kids f)) k rest = refl
empty-item (node t empty f) k rest = refl
empty-item (node t (leaf l kids) f) k rest = refl
empty-item (node t (node u below kids) f) k rest = refl

-- after the End of a tree another tree, or an End
two-ends : (f g : Trees) (j k l : TagEnd) (rest : List SourcedEvent) → begins_three_ends (End j ∷ flat_onto f (End k ∷ flat_onto g (End l ∷ rest))) ≡ (is_empty f && is_empty g)
two-ends empty empty j k l rest = refl
two-ends empty (leaf m g) j k l rest = refl
two-ends empty (node t kids g) j k l rest = refl
two-ends (leaf m empty) g j k l rest = refl
two-ends (leaf m (leaf n f)) g j k l rest = refl
two-ends (leaf m (node t kids f)) g j k l rest = refl
two-ends (node t empty f) g j k l rest = refl
two-ends (node t (leaf n kids) f) g j k l rest = refl
two-ends (node t (node u below kids) f) g j k l rest = refl

no-paragraph : (item b c : Bool) → item && false && b ≡ item && false && c
no-paragraph true b c = refl
no-paragraph false b c = refl

two-conjunctions : (a b c d : Bool) → (a && b) && (c && d) ≡ (a && (b && c)) && d
two-conjunctions true true c d = refl
two-conjunctions true false c d = refl
two-conjunctions false b c d = refl

only-item : (kids : Trees) (k : TagEnd) (rest : List SourcedEvent) → begins_only_item (flat_onto kids (End k ∷ rest)) (from_end (drop 2 (flat_onto kids (End k ∷ rest)))) ≡ is_only_item kids
only-item empty k [] = refl
only-item empty k (e ∷ rest) = refl
only-item (leaf l empty) k rest = refl
only-item (leaf l (leaf m f)) k rest = refl
only-item (leaf l (node t kids f)) k rest = refl
only-item (node t empty f) k rest = no-paragraph (is_item t) _ _
only-item (node t (leaf l kids) f) k rest = no-paragraph (is_item t) _ _
only-item (node t (node u below kids) f) k rest =
    let behind : from_end (flat_onto below (End (end_of u) ∷ flat_onto kids (End (end_of t) ∷ flat_onto f (End k ∷ rest)))) ≡ End (end_of u) ∷ flat_onto kids (End (end_of t) ∷ flat_onto f (End k ∷ rest)) = past-forest below (End (end_of u) ∷ flat_onto kids (End (end_of t) ∷ flat_onto f (End k ∷ rest))) 0 in
    ap (λ es. is_item t && is_paragraph u && begins_three_ends es) behind
    ∙ ap (λ b. is_item t && is_paragraph u && b) (two-ends kids f (end_of u) (end_of t) k rest)
    ∙ two-conjunctions (is_item t) (is_paragraph u) (is_empty kids) (is_empty f)

one-list : (t : TagView) (kids : Trees) (k : TagEnd) (rest : List SourcedEvent) (a : Around) (inline : Bool) → inline ≡ and_is is_inline_end_or_leaf (front a.before)
    → starts_ambiguous_list inline (Start t) (flat_onto kids (End k ∷ rest)) (from_end (drop 2 (flat_onto kids (End k ∷ rest)))) ≡ is_ambiguous_list t kids a
one-list t kids k rest a inline e =
    ap (λ b. is_list t && ((begins_empty_item (flat_onto kids (End k ∷ rest)) && b) || begins_only_item (flat_onto kids (End k ∷ rest)) (from_end (drop 2 (flat_onto kids (End k ∷ rest)))))) e
    ∙ ap (λ b. is_list t && ((b && and_is is_inline_end_or_leaf (front a.before)) || begins_only_item (flat_onto kids (End k ∷ rest)) (from_end (drop 2 (flat_onto kids (End k ∷ rest)))))) (empty-item kids k rest)
    ∙ ap (λ b. is_list t && ((begins_with_empty_item kids && and_is is_inline_end_or_leaf (front a.before)) || b)) (only-item kids k rest)

-- ---- all lists

or-assoc : (a b c : Bool) → a || (b || c) ≡ a || b || c
or-assoc true b c = refl
or-assoc false b c = refl

or-false : (b : Bool) → b || false ≡ b
or-false true = refl
or-false false = refl

-- whether inline content is before these events, the last of those before first
abbrev is_inline : List SourcedEvent → Bool
is_inline before = and_is is_inline_end_or_leaf (front before)

all-lists : (f : Trees) (a : Around) → has_ambiguous_list (is_inline a.before) (flat_onto f a.after) ≡ (needs_placeholder_at f a || has_ambiguous_list (is_inline (back_onto f a.before)) a.after)
all-lists empty a = refl
all-lists (leaf l f) a = all-lists f (past (Leaf l) a)
all-lists (node t kids f) a =
    let ahead = flat_onto f a.after in
    let list = is_ambiguous_list t kids (ahead_of f a) in
    let below = needs_placeholder_at kids (inside t (ahead_of f a)) in
    let right = needs_placeholder_at f (beyond t kids a) in
    let rest = has_ambiguous_list (is_inline (back_onto (node t kids f) a.before)) a.after in
    ap (λ b. b || has_ambiguous_list false (flat_onto kids (End (end_of t) ∷ ahead))) (one-list t kids (end_of t) ahead (ahead_of f a) (is_inline a.before) refl)
    ∙ ap (λ b. list || b) (all-lists kids (inside t (ahead_of f a)))
    ∙ ap (λ b. list || (below || b)) (all-lists f (beyond t kids a))
    ∙ or-assoc list below (right || rest)
    ∙ or-assoc (list || below) right rest

needs-lists : (f : Trees) → has_ambiguous_list false (flat f) ≡ needs_placeholder f
unfolding needs_placeholder
needs-lists f = all-lists f (whole None) ∙ or-false (needs_placeholder_at f (whole None))

-- ---- units

balanced-at : (es : List SourcedEvent) (o : Option Trees) → trees_of es ≡ o → is_some o ≡ true → has_ambiguous_list false es ≡ placeholder_in o
balanced-at es None e some = absurd (false≢true some)
balanced-at es (Some f) e some = ap (has_ambiguous_list false) (sym (flat-of-trees es f e)) ∙ needs-lists f

-- in a unit that is balanced a list is found just where the unit waits
pub waits-balanced : (es : List SourcedEvent) → is_some (trees_of es) ≡ true → has_ambiguous_list false es ≡ waits es
unfolding waits
waits-balanced es some = balanced-at es (trees_of es) refl some

unbalanced-at : (o : Option Trees) → is_some o ≡ false → false ≡ placeholder_in o
unbalanced-at None none = refl
unbalanced-at (Some f) none = absurd (true≢false none)

-- a unit that isn't balanced doesn't wait
pub waits-unbalanced : (es : List SourcedEvent) → is_some (trees_of es) ≡ false → false ≡ waits es
unfolding waits
waits-unbalanced es none = unbalanced-at (trees_of es) none

-- ---- what joins a unit

onto-more : (f : Trees) (r more : List SourcedEvent) → flat_onto f r ++ more ≡ flat_onto f (r ++ more)
onto-more empty r more = refl
onto-more (leaf l f) r more = ap (λ es. Leaf l ∷ es) (onto-more f r more)
onto-more (node t kids f) r more =
    ap (λ es. Start t ∷ es) (onto-more kids (End (end_of t) ∷ flat_onto f r) more ∙ ap (λ es. flat_onto kids (End (end_of t) ∷ es)) (onto-more f r more))

-- which lists need a placeholder doesn't depend on what comes after them
needs-before : (f : Trees) (before after later : List SourcedEvent)
    → needs_placeholder_at f (record { before = before; after = after; next = None }) ≡ needs_placeholder_at f (record { before = before; after = later; next = None })
needs-before empty before after later = refl
needs-before (leaf l f) before after later = needs-before f (Leaf l ∷ before) after later
needs-before (node t kids f) before after later =
    let list = is_ambiguous_list t kids (record { before = before; after = after; next = None }) in
    let kids_after = End (end_of t) ∷ flat_onto f after in
    let kids_later = End (end_of t) ∷ flat_onto f later in
    let behind = End (end_of t) ∷ back_onto kids (Start t ∷ before) in
    ap (λ b. list || b || needs_placeholder_at f (record { before = behind; after = after; next = None })) (needs-before kids (Start t ∷ before) kids_after kids_later)
    ∙ ap (λ b. list || needs_placeholder_at kids (record { before = Start t ∷ before; after = kids_later; next = None }) || b) (needs-before f behind after later)

waiting-at : (es more : List SourcedEvent) (o : Option Trees) → trees_of es ≡ o → placeholder_in o ≡ true → has_ambiguous_list false (es ++ more) ≡ true
unfolding needs_placeholder
waiting-at es more None e h = absurd (false≢true h)
waiting-at es more (Some f) e h =
    ap (λ xs. has_ambiguous_list false (xs ++ more)) (sym (flat-of-trees es f e))
    ∙ ap (has_ambiguous_list false) (onto-more f [] more)
    ∙ all-lists f (record { before = []; after = more; next = None })
    ∙ ap (λ b. b || has_ambiguous_list (is_inline (back_onto f [])) more) (needs-before f [] more [] ∙ h)

-- a unit that waits goes on waiting, whatever joins it
pub waits-more : (unit more : List SourcedEvent) → waits unit ≡ true → is_some (trees_of (unit ++ more)) ≡ true → waits (unit ++ more) ≡ true
unfolding waits
waits-more unit more h some = sym (waits-balanced (unit ++ more) some) ∙ waiting-at unit more (trees_of unit) refl h
