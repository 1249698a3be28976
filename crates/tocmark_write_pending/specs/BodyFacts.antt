-- What an opening asks of its body apart from its texts, found from the last event to the first.
use Rattle.std.specs.Prelude.{◌≡◌, ℕ, zero, suc, ◌+◌, Bool, true, false, not, ◌&&◌, ◌||◌, List, [], ◌∷◌, map, drop, slice_index_or}
use Rattle.tocmark_event.specs.View.{TagView, LeafView, SourcedEvent, Start, End, Leaf}
use Rattle.tocmark_event.specs.Forest.{empty, leaf, node}
use Rattle.tocmark_spelling.specs.Body.{Trees, is_inline_leaf, breaks_line}
use Rattle.tocmark_spelling.specs.Kinds.{is_inline_tag, is_paragraph, is_item}
use Rattle.tocmark_spelling.specs.Look.{Look}
use Rattle.tocmark_spelling.specs.Machine.{Layers, kids_of}
use Rattle.tocmark_write_pending.specs.declared.body_facts.Few.{Few}
use Rattle.tocmark_write_pending.specs.declared.body_facts.Few.TheVariants as few
use Rattle.tocmark_write_pending.specs.declared.body_facts.BodyFacts.{BodyFacts}

-- so many, where it matters only whether it is one
abbrev pub few_of : ℕ → Few
few_of zero = few.Zero
few_of (suc zero) = few.One
few_of (suc (suc n)) = few.More

-- as many as both
abbrev pub both_few : Few → Few → Few
both_few few.Zero b = b
both_few few.One few.Zero = few.One
both_few few.One b = few.More
both_few few.More b = few.More

-- one, where that is true
abbrev pub one_if : Bool → Few
one_if true = few.One
one_if false = few.Zero

-- just one
abbrev pub is_one : Few → Bool
is_one few.One = true
is_one f = false

-- what no trees are like
abbrev pub no_facts : BodyFacts
no_facts = record {
  empty = true;
  begins_paragraph = false;
  has_paragraph = false;
  has_inline = false;
  broken = false;
  blocks = few.Zero;
  items = few.Zero;
  child_inline = false;
  child_paragraph = false;
  child_blocks = few.Zero;
}

-- a leaf that is inline or not, and breaks its line or not, and the trees to its right
abbrev pub with_inline : Bool → Bool → BodyFacts → BodyFacts
with_inline inline breaks right = record right {
  empty = false;
  begins_paragraph = false;
  has_inline = inline || right.has_inline;
  broken = breaks || right.broken;
}

-- a leaf and the trees to its right
abbrev pub with_leaf : LeafView → BodyFacts → BodyFacts
with_leaf l right = with_inline (is_inline_leaf l) (breaks_line l) right

-- a container, its children and the trees to its right
abbrev pub with_node : TagView → BodyFacts → BodyFacts → BodyFacts
with_node t kids right = record {
  empty = false;
  begins_paragraph = is_paragraph t;
  has_paragraph = is_paragraph t || right.has_paragraph;
  has_inline = is_inline_tag t || right.has_inline;
  broken = kids.broken || right.broken;
  blocks = both_few (one_if (not (is_inline_tag t))) right.blocks;
  items = both_few (one_if (is_item t)) right.items;
  child_inline = kids.has_inline || right.child_inline;
  child_paragraph = kids.has_paragraph || right.child_paragraph;
  child_blocks = both_few kids.blocks right.child_blocks;
}

-- what a forest is like
abbrev pub facts_of : Trees → BodyFacts
facts_of empty = no_facts
facts_of (leaf l f) = with_leaf l.leaf (facts_of f)
facts_of (node t kids f) = with_node t (facts_of kids) (facts_of f)

-- what the innermost layer is like, and those outside
pub record FactLayers : Type 0 where
  pub inner : BodyFacts
  pub outer : List BodyFacts

-- what layers are like
abbrev pub facts_in : Layers → FactLayers
facts_in l = record { inner = facts_of l.inner; outer = map facts_of l.outer }

-- the same with a container in front, whose body is the innermost layer
abbrev pub behind_start : TagView → BodyFacts → List BodyFacts → FactLayers
behind_start t kids [] = record { inner = with_node t kids no_facts; outer = [] }
behind_start t kids (f ∷ fs) = record { inner = with_node t kids f; outer = fs }

-- the same with one event in front
abbrev pub with_event : SourcedEvent → FactLayers → FactLayers
with_event (Leaf l) x = record { inner = with_leaf l.leaf x.inner; outer = x.outer }
with_event (Start t) x = behind_start t x.inner x.outer
with_event (End k) x = record { inner = no_facts; outer = x.inner ∷ x.outer }

-- for each event what the trees after it are like; at a Start they are its body
pub record AreFacts (es : List SourcedEvent) (facts : List BodyFacts) : Type 0 where
  pub at : (i : ℕ) → slice_index_or facts i no_facts ≡ facts_of (kids_of (drop (i + 1) es))

-- whether a list with such a body is tight
abbrev pub is_tight_by : BodyFacts → Bool
is_tight_by x = x.child_inline && not x.child_paragraph

-- whether a list with such a body has one Item with one block, a Paragraph
abbrev pub is_lone_by : BodyFacts → Bool
is_lone_by x = is_one x.items && is_one x.child_blocks && x.child_paragraph

-- what an opening is told of its body
pub record IsForeseen (l : Look) (x : BodyFacts) : Type 0 where
  pub empty_body : l.empty_body ≡ x.empty
  pub begins_paragraph : l.begins_paragraph ≡ x.begins_paragraph
  pub has_paragraph : l.has_paragraph ≡ x.has_paragraph
  pub broken : l.broken ≡ x.broken
  pub tight : l.tight ≡ is_tight_by x
  pub lone_paragraph : l.lone_paragraph ≡ is_lone_by x
