-- Nodes are written after others as they are after none.
use Rattle.std.proofs.Common.{◌≡◌, ℕ, ◌-◌, Bool, true, false, nat_le, if◌then◌else◌, List, [], ◌∷◌, ◌++◌, Option, Some, None, refl, ap, sym, ◌∙◌, append_assoc, append-nil}
use Rattle.std.specs.List.{fold}
use Rattle.tocmark_read_inlines.specs.Write.{State, pushed, without_text, flushed_from, flushed, opened, deeper, closed, resumed, single, texted, fresh, shown, next_place, role_step, write_start, written}
use Rattle.tocmark_read_inlines.specs.declared.write.InlineKind.{InlineKind}
use Rattle.tocmark_read_inlines.specs.declared.write.InlineKind.TheVariants as item
use Rattle.tocmark_read_inlines.specs.declared.write.Node.{Node}
use Rattle.tocmark_read_spans.specs.declared.role.Role.{Role}
use Rattle.tocmark_read_spans.specs.declared.role.Role.TheVariants.{Plain, Fresh, Hidden, Open, Close, Single}

-- the same with these nodes in front
abbrev behind : List Node → State → State
behind pre s = record s { nodes = pre ++ s.nodes }

pushed_behind : (pre : List Node) (i : InlineKind) (start end : ℕ) (s : State) → pushed i start end (behind pre s) ≡ behind pre (pushed i start end s)
unfolding pushed
pushed_behind pre i start end s =
    let node : Node = record { depth = s.depth; item = i; start = start; end = end } in
    ap (λ (ns : List Node). record s { nodes = ns }) (append_assoc pre s.nodes (node ∷ []))

flushed_from_behind : (pre : List Node) (o : Option ℕ) (s : State) → flushed_from o (behind pre s) ≡ behind pre (flushed_from o s)
flushed_from_behind pre None s = refl
flushed_from_behind pre (Some start) s = ap without_text (pushed_behind pre item.Text start s.place s)

flushed_behind : (pre : List Node) (s : State) → flushed (behind pre s) ≡ behind pre (flushed s)
unfolding flushed
flushed_behind pre s = flushed_from_behind pre s.text s

texted_behind : (pre : List Node) (o : Option ℕ) (s : State) → texted (behind pre s) o ≡ behind pre (texted s o)
texted_behind pre None s = refl
texted_behind pre (Some start) s = refl

shown_behind : (pre : List Node) (r : Role) (s : State) → shown r (behind pre s) ≡ behind pre (shown r s)
unfolding shown opened closed single
shown_behind pre Plain s = texted_behind pre s.text s
shown_behind pre Fresh s = ap fresh (flushed_behind pre s)
shown_behind pre Hidden s = flushed_behind pre s
shown_behind pre (Open span end) s =
    ap (λ (t : State). deeper (pushed (item.Span span) t.place end t)) (flushed_behind pre s)
    ∙ ap deeper (pushed_behind pre (item.Span span) (flushed s).place end (flushed s))
shown_behind pre (Close end) s = ap (λ (t : State). record t { depth = t.depth - 1; resume = end }) (flushed_behind pre s)
shown_behind pre (Single leaf end) s =
    ap (λ (t : State). resumed end (pushed (item.Leaf leaf) t.place end t)) (flushed_behind pre s)
    ∙ ap (resumed end) (pushed_behind pre (item.Leaf leaf) (flushed s).place end (flushed s))

stepped_behind : (pre : List Node) (r : Role) (s : State) → role_step (behind pre s) r ≡ behind pre (role_step s r)
unfolding role_step
stepped_behind pre r s = by_resume (nat_le s.resume s.place)
  where
    by_resume : (t : Bool) → next_place (if t then shown r (behind pre s) else behind pre s) ≡ behind pre (next_place (if t then shown r s else s))
    by_resume true = ap next_place (shown_behind pre r s)
    by_resume false = refl

fold_behind : (pre : List Node) (rs : List Role) (s : State) → fold role_step (behind pre s) rs ≡ behind pre (fold role_step s rs)
fold_behind pre [] s = refl
fold_behind pre (r ∷ rs) s = ap (λ (t : State). fold role_step t rs) (stepped_behind pre r s) ∙ fold_behind pre rs (role_step s r)

-- nothing is written after these nodes yet
abbrev begun : List Node → ℕ → State
begun pre depth = record { nodes = pre; depth = depth; text = None; place = 0; resume = 0 }

-- nodes are written after these
pub written_behind : (pre : List Node) (depth : ℕ) (rs : List Role) → (flushed (fold role_step (begun pre depth) rs)).nodes ≡ pre ++ written rs depth
unfolding written
written_behind pre depth rs =
    ap (λ (ns : List Node). (flushed (fold role_step (begun ns depth) rs)).nodes) (sym (append-nil pre))
    ∙ ap (λ (s : State). (flushed s).nodes) (fold_behind pre rs (write_start depth))
    ∙ ap (λ (s : State). s.nodes) (flushed_behind pre (fold role_step (write_start depth) rs))
