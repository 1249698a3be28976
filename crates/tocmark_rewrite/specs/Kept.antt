-- What is said of a tree that was kept.
use Rattle.std.specs.Prelude.{◌≡◌, ◌≤◌, ℕ, Bool, true, false, IsTrue, List, Some, IfSome, slice_range}
use Rattle.std.specs.List.{All, slice_get}
use Rattle.tocmark_event.specs.Merged.{merged}
use Rattle.tocmark_event.specs.View.{EventView}
use Rattle.tocmark_rewrite.specs.Lines.{AreLinesOf}
use Rattle.tocmark_rewrite.specs.Trees.{range_at}
use Rattle.tocmark_rewrite.specs.declared.answer.Fate.{Fate}
use Rattle.tocmark_rewrite.specs.declared.answer.Fate.TheVariants as fate
use Rattle.tocmark_rewrite.specs.declared.answer.Kept.{Kept}
use Rattle.tocmark_rewrite.specs.declared.answer.RewrittenTree.{RewrittenTree}
use Rattle.tocmark_rewrite.specs.declared.output.Part.{Part}
use Rattle.tocmark_rewrite.specs.declared.output.Part.TheVariants.{Source}
use Rattle.tocmark_rewrite.specs.declared.plan.Plan.{Plan}
use Rattle.tocmark_rewrite.specs.declared.trees.Block.{Block}
use Rattle.tocmark_rewrite.specs.declared.trees.Tree.{Tree}

-- a source, the events that are found in it, and their ranges
pub record ReadSource : Type 0 where
  pub source : List ℕ
  pub found : List EventView
  pub ranges : List (ℕ × ℕ)

-- a stretch of what was found and one of what was given are the same events
abbrev pub AreSame : List EventView → ℕ → ℕ → List EventView → ℕ → ℕ → Type 0
AreSame found a b given c d = merged (slice_range found a b) ≡ merged (slice_range given c d)

-- a block of the source has the events of a given tree
abbrev pub HasEventsOf : List EventView → List EventView → Tree → Block → Type 0
HasEventsOf found given t b = AreSame found b.tree.first b.tree.past given t.first t.past

-- what is planned to be kept is one of these blocks, and has the events of its tree
abbrev pub IsFrom : List EventView → List EventView → List Block → Plan → Type 0
IsFrom found given blocks p = IfSome p.kept (λ b. ((k : ℕ) × (slice_get blocks k ≡ Some b)) × HasEventsOf found given p.tree b)

-- these lines are those of an event that was found in a source
abbrev pub AreItsLines : ReadSource → ℕ → ℕ → ℕ → Type 0
AreItsLines r from to event = AreLinesOf r.source from to (range_at r.ranges event).0 (range_at r.ranges event).1

-- what is planned to be kept has the events of its tree, and the lines of the first of them
abbrev pub IsHonest : ReadSource → List EventView → Plan → Type 0
IsHonest r given p = IfSome p.kept (λ b. HasEventsOf r.found given p.tree b × AreItsLines r b.from b.to b.tree.first)

-- a part that copies all of these bytes of the source, and maybe more
pub record Copies (parts : List Part) (at from to : ℕ) : Type 0 where
  pub first : ℕ
  pub past : ℕ
  pub is_part : slice_get parts at ≡ Some (Source first past)
  pub begins : first ≤ from
  pub ends : to ≤ past

-- a tree that was kept: it has the events of a stretch that was found in the source, whose lines a part copies
pub record IsKept (r : ReadSource) (given : List EventView) (parts : List Part) (t : RewrittenTree) (k : Kept) : Type 0 where
  pub same : AreSame r.found k.first k.past given t.first t.past
  pub lines : AreItsLines r k.from k.to k.first
  pub copied : Copies parts k.part k.from k.to

-- the fate of a tree is so; of one that was changed nothing is said
abbrev pub FateIsSo : ReadSource → List EventView → List Part → RewrittenTree → Fate → Type 0
FateIsSo r given parts t (fate.Kept k) = IsKept r given parts t k
FateIsSo r given parts t fate.Patched = Unit {0}
FateIsSo r given parts t fate.Written = Unit {0}

-- what is said of a tree is so
abbrev pub IsTold : ReadSource → List EventView → List Part → RewrittenTree → Type 0
IsTold r given parts t = FateIsSo r given parts t t.fate

-- whether a tree was kept
abbrev pub is_kept : Fate → Bool
is_kept (fate.Kept k) = true
is_kept fate.Patched = false
is_kept fate.Written = false

-- a tree is said to be kept
abbrev pub WasKept : RewrittenTree → Type 0
WasKept t = IsTrue (is_kept t.fate)

-- a part copies all of these bytes of the source
abbrev pub IsCopied : List Part → ℕ → ℕ → ℕ → Type 0
IsCopied parts at from to = (first past : ℕ) × (slice_get parts at ≡ Some (Source first past)) × (first ≤ from) × (to ≤ past)

-- a tree was kept in a part
abbrev pub IsKeptIn : ℕ → Fate → Type 0
IsKeptIn part (fate.Kept k) = k.part ≡ part
IsKeptIn part fate.Patched = ⊥
IsKeptIn part fate.Written = ⊥

-- a tree is planned to be kept, and the first part copies its lines
pub record IsCopiedFirst (parts : List Part) (p : Plan) : Type 0 where
  pub block : Block
  pub kept : p.kept ≡ Some block
  pub copied : IsCopied parts 0 block.from block.to

-- each tree is so
abbrev pub AreCopied : List Part → List Plan → Type 0
AreCopied parts plans = All (IsCopiedFirst parts) plans

-- the events of a tree of the answer: the first one, and the one after the last
abbrev pub span_of : RewrittenTree → ℕ × ℕ
span_of t = (t.first, t.past)

-- the events of a tree that is planned for
abbrev pub planned_span : Plan → ℕ × ℕ
planned_span p = (p.tree.first, p.tree.past)
