-- Reading a list of events into trees, and writing trees as a list, undo each other.
use Rattle.std.proofs.Common.{◌≡◌, true, Some, List, [], refl, sym, ap, ◌∙◌, eq-eqb}
use Rattle.tocmark_event.specs.Ends.{same_end, end_code}
use Rattle.tocmark_event.specs.Forest.{empty, leaf, node, flat_onto, flat, joined, Opened, closed_if, then_read, read_all}
use Rattle.tocmark_event.specs.View.{SourcedEvent, SourcedLeaf, TagView, end_of}
use Rattle.tocmark_spelling.specs.Body.{Trees}
use Rattle.tocmark_write_pending.specs.Placeholder.{needs_placeholder}
use Rattle.tocmark_write_pending.specs.Units.{placeholder_in, trees_of, trees_read, waits}

same_end-itself : (t : TagView) → same_end (end_of t) (end_of t) ≡ true
same_end-itself t = eq-eqb (end_code (end_of t)) (end_code (end_of t)) refl

joined-empty : (f : Trees) → joined f empty ≡ f
joined-empty empty = refl
joined-empty (leaf l f) = ap (leaf l) (joined-empty f)
joined-empty (node t kids f) = ap (node t kids) (joined-empty f)

joined-joined : (f g k : Trees) → joined (joined f g) k ≡ joined f (joined g k)
joined-joined empty g k = refl
joined-joined (leaf l f) g k = ap (leaf l) (joined-joined f g k)
joined-joined (node t kids f) g k = ap (node t kids) (joined-joined f g k)

-- the events of a forest, when they are read, add the forest
read-flat : (f : Trees) (r : List SourcedEvent) (opens : List (Opened SourcedLeaf)) (since : Trees)
    → read_all (flat_onto f r) (record { opens = opens; since = since }) ≡ read_all r (record { opens = opens; since = joined since f })
read-flat empty r opens since = ap (λ f. read_all r (record { opens = opens; since = f })) (sym (joined-empty since))
read-flat (leaf l f) r opens since =
    read-flat f r opens (joined since (leaf l empty))
    ∙ ap (λ f. read_all r (record { opens = opens; since = f })) (joined-joined since (leaf l empty) f)
read-flat (node t kids f) r opens since =
    read-flat kids _ _ empty
    ∙ ap (λ b. then_read (closed_if b t since opens kids) (λ s. read_all (flat_onto f r) s)) (same_end-itself t)
    ∙ read-flat f r opens _
    ∙ ap (λ f. read_all r (record { opens = opens; since = f })) (joined-joined since (node t kids empty) f)

-- a forest's events are read as the forest
pub trees-flat : (f : Trees) → trees_of (flat f) ≡ Some f
unfolding trees_of
trees-flat f = ap trees_read (read-flat f [] [] empty)

-- a unit waits just where a list of its forest needs a placeholder
pub waits-flat : (f : Trees) → waits (flat f) ≡ needs_placeholder f
unfolding waits
waits-flat f = ap placeholder_in (trees-flat f)
