-- What is found of bodies from the last event to the first is what their trees say.
use Rattle.std.proofs.Common.{◌≡◌, ℕ, zero, suc, ◌+◌, ◌<◌, ◌≤◌, Bool, true, false, List, [], ◌∷◌, refl, sym, ap, ◌∙◌, map, drop, length, arith, subst, reverse, get_or, ne_eqb, ⊎_elim, ◌≢◌, get_or-set_other, get_or-set_same}
use Rattle.std.specs.Prelude.{◌||◌, ◌&&◌, ◌==◌, not, if◌then◌else◌}
use Rattle.std.proofs.Math.ListN.{set}
use Rattle.std.proofs.lemmas.Bool.{cases_lt}
use Rattle.std.proofs.lemmas.List.{get_or_past, drop_all}
use Rattle.tocmark_event.specs.View.{TagView, SourcedEvent, Start, End, Leaf}
use Rattle.tocmark_event.specs.Forest.{empty, leaf, node}
use Rattle.tocmark_spelling.specs.Body.{Trees, is_empty, has_tag, count_tags, begins_paragraph, has_inline, some_child, count_children, is_tight, has_lone_paragraph, is_broken, breaks_line, is_inline_leaf}
use Rattle.tocmark_write_pending.specs.BodyFacts.{few_of, both_few, one_if, is_one, no_facts, facts_of, FactLayers, facts_in, with_event, IsForeseen, is_tight_by, is_lone_by}
use Rattle.tocmark_spelling.specs.Kinds.{is_paragraph, is_item, is_inline_tag}
use Rattle.tocmark_spelling.specs.Look.{look}
use Rattle.tocmark_spelling.specs.Machine.{layers, with_node as node_layers, kids_of}
use Rattle.tocmark_spelling.specs.Page.{Around}
use Rattle.tocmark_spelling.specs.Plan.{Setting, Manner}
use Rattle.tocmark_write_pending.specs.declared.body_facts.Few.{Few}
use Rattle.tocmark_write_pending.specs.declared.body_facts.BodyFacts.{BodyFacts}

-- ---- one event more in front

start-facts : (t : TagView) (kids : Trees) (fs : List Trees) (e : SourcedEvent) → with_event (Start t) (record { inner = facts_of kids; outer = map facts_of fs }) ≡ facts_in (node_layers t kids fs)
start-facts t kids [] e = refl
start-facts t kids (f ∷ fs) e = refl

pub event-facts : (e : SourcedEvent) (es : List SourcedEvent) → with_event e (facts_in (layers es)) ≡ facts_in (layers (e ∷ es))
event-facts (Leaf l) es = refl
event-facts (Start t) es = start-facts t (layers es).inner (layers es).outer (Start t)
event-facts (End k) es = refl

pub layer-step : (evs : List SourcedEvent) (e : SourcedEvent) (x new : FactLayers) (i k : ℕ) → i ≡ k + 1 → drop k evs ≡ e ∷ drop (k + 1) evs → x ≡ facts_in (layers (drop i evs)) → new ≡ with_event e x → new ≡ facts_in (layers (drop k evs))
layer-step evs e x new i k q at h n =
    let P : ℕ → Type 0 = λ i. x ≡ facts_in (layers (drop i evs)) in
    n ∙ ap (with_event e) (subst P q h) ∙ event-facts e (drop (k + 1) evs) ∙ ap (λ y. facts_in (layers y)) (sym at)

pub layer-none : (evs : List SourcedEvent) (len : ℕ) (inner : BodyFacts) (outer : List BodyFacts) → length evs ≤ len → inner ≡ no_facts → outer ≡ [] → record { inner = inner; outer = reverse outer } ≡ facts_in (layers (drop len evs))
layer-none evs len inner outer le a b =
    ap (λ x. record { inner = x; outer = reverse outer }) a ∙ ap (λ x. record { inner = no_facts; outer = reverse x }) b ∙ ap (λ y. facts_in (layers y)) (sym (drop_all len evs le))

-- a column with one place more
module _ {A : Type 0} (xs : List A) (none : A) (k : ℕ) (v : A) (value : ℕ → A) where
  pub place-set : k < length xs → v ≡ value k → ((j : ℕ) → k + 1 ≤ j → get_or xs j none ≡ value j) → (j : ℕ) → k ≤ j → get_or (set xs k v) j none ≡ value j
  place-set h e below j le =
      ⊎_elim
      (λ (more : k < j). let ne : j ≢ k = omega arith in let p : k + 1 ≤ j = omega arith in rw get_or-set_other (below j p))
      (λ (least : j ≤ k).
      let same : k ≡ j = omega arith in
      let P : ℕ → Type 0 = λ j. get_or (set xs k v) j none ≡ value j in
      subst P same (rw get_or-set_same e))
      (cases_lt k j)

pub facts-past : (facts : List BodyFacts) (evs : List SourcedEvent) (len j : ℕ) → length facts ≡ len → length evs ≡ len → len ≤ j → get_or facts j no_facts ≡ facts_of (kids_of (drop (j + 1) evs))
facts-past facts evs len j a b le =
    get_or_past facts j no_facts (omega (arith, a)) ∙ ap (λ y. facts_of (kids_of y)) (sym (drop_all (j + 1) evs (omega (arith, b))))

-- ---- what trees say

few-plus : (a b : ℕ) → few_of (a + b) ≡ both_few (few_of a) (few_of b)
few-plus zero b = let e : 0 + b ≡ b = omega arith in ap few_of e
few-plus (suc zero) zero = let e : 1 + 0 ≡ 1 = omega arith in ap few_of e
few-plus (suc zero) (suc zero) = let e : 1 + 1 ≡ suc (suc 0) = omega arith in ap few_of e
few-plus (suc zero) (suc (suc b)) = let e : 1 + suc (suc b) ≡ suc (suc (suc b)) = omega arith in ap few_of e
few-plus (suc (suc a)) b = let e : suc (suc a) + b ≡ suc (suc (a + b)) = omega arith in ap few_of e

few-one : (n : ℕ) → is_one (few_of n) ≡ (n == 1)
few-one zero = refl
few-one (suc zero) = refl
few-one (suc (suc n)) = let ne : suc (suc n) ≢ 1 = omega arith in sym (ne_eqb (suc (suc n)) 1 ne)

few-if : (b : Bool) → few_of (if b then 1 else 0) ≡ one_if b
few-if true = refl
few-if false = refl

empty-facts : (f : Trees) → is_empty f ≡ (facts_of f).empty
empty-facts empty = refl
empty-facts (leaf l f) = refl
empty-facts (node t kids f) = refl

begins-facts : (f : Trees) → begins_paragraph f ≡ (facts_of f).begins_paragraph
begins-facts empty = refl
begins-facts (leaf l f) = refl
begins-facts (node t kids f) = refl

paragraph-facts : (f : Trees) → has_tag is_paragraph f ≡ (facts_of f).has_paragraph
paragraph-facts empty = refl
paragraph-facts (leaf l f) = paragraph-facts f
paragraph-facts (node t kids f) = ap (λ b. is_paragraph t || b) (paragraph-facts f)

inline-facts : (f : Trees) → has_inline f ≡ (facts_of f).has_inline
inline-facts empty = refl
inline-facts (leaf l f) = ap (λ b. is_inline_leaf l.leaf || b) (inline-facts f)
inline-facts (node t kids f) = ap (λ b. is_inline_tag t || b) (inline-facts f)

broken-facts : (f : Trees) → is_broken f ≡ (facts_of f).broken
broken-facts empty = refl
broken-facts (leaf l f) = ap (λ b. breaks_line l.leaf || b) (broken-facts f)
broken-facts (node t kids f) = ap (λ b. b || is_broken f) (broken-facts kids) ∙ ap (λ b. (facts_of kids).broken || b) (broken-facts f)

child-inline-facts : (f : Trees) → some_child has_inline f ≡ (facts_of f).child_inline
child-inline-facts empty = refl
child-inline-facts (leaf l f) = child-inline-facts f
child-inline-facts (node t kids f) = ap (λ b. b || some_child has_inline f) (inline-facts kids) ∙ ap (λ b. (facts_of kids).has_inline || b) (child-inline-facts f)

child-paragraph-facts : (f : Trees) → some_child (has_tag is_paragraph) f ≡ (facts_of f).child_paragraph
child-paragraph-facts empty = refl
child-paragraph-facts (leaf l f) = child-paragraph-facts f
child-paragraph-facts (node t kids f) = ap (λ b. b || some_child (has_tag is_paragraph) f) (paragraph-facts kids) ∙ ap (λ b. (facts_of kids).has_paragraph || b) (child-paragraph-facts f)

item-facts : (f : Trees) → few_of (count_tags is_item f) ≡ (facts_of f).items
item-facts empty = refl
item-facts (leaf l f) = item-facts f
item-facts (node t kids f) =
    few-plus (if is_item t then 1 else 0) (count_tags is_item f) ∙ ap (λ x. both_few x (few_of (count_tags is_item f))) (few-if (is_item t)) ∙ ap (both_few (one_if (is_item t))) (item-facts f)

abbrev is_block : TagView → Bool
is_block = λ t. not (is_inline_tag t)

block-facts : (f : Trees) → few_of (count_tags is_block f) ≡ (facts_of f).blocks
block-facts empty = refl
block-facts (leaf l f) = block-facts f
block-facts (node t kids f) =
    few-plus (if is_block t then 1 else 0) (count_tags is_block f) ∙ ap (λ x. both_few x (few_of (count_tags is_block f))) (few-if (is_block t)) ∙ ap (both_few (one_if (is_block t))) (block-facts f)

child-block-facts : (f : Trees) → few_of (count_children (count_tags is_block) f) ≡ (facts_of f).child_blocks
child-block-facts empty = refl
child-block-facts (leaf l f) = child-block-facts f
child-block-facts (node t kids f) =
    few-plus (count_tags is_block kids) (count_children (count_tags is_block) f)
    ∙ ap (λ x. both_few x (few_of (count_children (count_tags is_block) f))) (block-facts kids) ∙ ap (both_few (facts_of kids).blocks) (child-block-facts f)

tight-facts : (f : Trees) → is_tight f ≡ is_tight_by (facts_of f)
tight-facts f = ap (λ b. b && not (some_child (has_tag is_paragraph) f)) (child-inline-facts f) ∙ ap (λ b. (facts_of f).child_inline && not b) (child-paragraph-facts f)

one-of : (n : ℕ) (x : Few) → few_of n ≡ x → (n == 1) ≡ is_one x
one-of n x e = sym (few-one n) ∙ ap is_one e

lone-facts : (f : Trees) → has_lone_paragraph f ≡ is_lone_by (facts_of f)
lone-facts f =
    ap (λ b. b && (count_children (count_tags is_block) f == 1) && some_child (has_tag is_paragraph) f) (one-of (count_tags is_item f) _ (item-facts f))
    ∙ ap (λ b. is_one (facts_of f).items && b && some_child (has_tag is_paragraph) f) (one-of (count_children (count_tags is_block) f) _ (child-block-facts f))
    ∙ ap (λ b. is_one (facts_of f).items && is_one (facts_of f).child_blocks && b) (child-paragraph-facts f)

-- what an opening is told of its body
pub foreseen : (s : Setting) (m : Manner) (t : TagView) (kids : Trees) (a : Around) → IsForeseen (look s m t kids a) (facts_of kids)
foreseen s m t kids a =
    record {
      empty_body = empty-facts kids;
      begins_paragraph = begins-facts kids;
      has_paragraph = paragraph-facts kids;
      broken = broken-facts kids;
      tight = tight-facts kids;
      lone_paragraph = lone-facts kids;
    }
