-- A forest is known by its events.
use Rattle.std.proofs.Common.{◌≡◌, true, Option, Some, None, List, [], refl, sym, ap, ◌∙◌, eq-eqb}
use Rattle.tocmark_event.specs.View.{EventWith, TagView, end_of}
use Rattle.tocmark_event.specs.Ends.{same_end, end_code}
use Rattle.tocmark_event.specs.Forest.{Forest, empty, leaf, node, flat_onto, flat, joined, Opened, Grown, closed_if, then_read, read_all, nothing_read}

same_end-itself : (t : TagView) → same_end (end_of t) (end_of t) ≡ true
same_end-itself t = eq-eqb (end_code (end_of t)) (end_code (end_of t)) refl

module _ {L : Type 0} where
  joined-empty : (f : Forest L) → joined f empty ≡ f
  joined-empty empty = refl
  joined-empty (leaf l f) = ap (leaf l) (joined-empty f)
  joined-empty (node t kids f) = ap (node t kids) (joined-empty f)

  joined-joined : (f g k : Forest L) → joined (joined f g) k ≡ joined f (joined g k)
  joined-joined empty g k = refl
  joined-joined (leaf l f) g k = ap (leaf l) (joined-joined f g k)
  joined-joined (node t kids f) g k = ap (node t kids) (joined-joined f g k)

  -- the events of a forest, when they are read, add the forest
  read-flat : (f : Forest L) (r : List (EventWith L)) (opens : List (Opened L)) (since : Forest L)
      → read_all (flat_onto f r) (record { opens = opens; since = since }) ≡ read_all r (record { opens = opens; since = joined since f })
  read-flat empty r opens since = ap (λ f. read_all r (record { opens = opens; since = f })) (sym (joined-empty since))
  read-flat (leaf l f) r opens since =
      read-flat f r opens (joined since (leaf l empty))
      ∙ ap (λ f. read_all r (record { opens = opens; since = f })) (joined-joined since (leaf l empty) f)
  read-flat (node t kids f) r opens since =
      read-flat kids _ _ empty
      ∙ ap (λ b. then_read (closed_if b t since opens kids) (λ s. read_all (flat_onto f r) s)) (same_end-itself t)
      ∙ read-flat f r opens _
      ∙ ap (λ f. read_all r (record { opens = opens; since = f })) (joined-joined since (node t kids empty) f)

  since_of : Option (Grown L) → Forest L
  since_of (Some r) = r.since
  since_of None = empty

  -- two forests with the same events are one
  pub flat-same : (f g : Forest L) → flat f ≡ flat g → f ≡ g
  unfolding since_of
  flat-same f g e = ap since_of (sym (read-flat f [] [] empty) ∙ ap (λ es. read_all es nothing_read) e ∙ read-flat g [] [] empty)
