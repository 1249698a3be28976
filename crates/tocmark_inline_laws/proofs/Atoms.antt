-- Roles that say an atom, and roles that say atoms one after the other.
use Rattle.std.proofs.Common.{◌≡◌, ℕ, suc, ◌+◌, ◌-◌, ◌<◌, Bool, true, if◌then◌else◌, List, [], ◌∷◌, ◌++◌, length, replicate, ap, sym, subst, ◌∙◌, arith, append_assoc}
use Rattle.std.specs.List.{fold}
use Rattle.tocmark_read_scan.specs.Basic.{byte_at}
use Rattle.tocmark_read_spans.specs.declared.role.Leaf.{Leaf}
use Rattle.tocmark_read_spans.specs.declared.role.Role.{Role}
use Rattle.tocmark_read_spans.specs.declared.role.Role.TheVariants as role
use Rattle.tocmark_read_spans.specs.declared.role.Target.{Target}
use Rattle.tocmark_read_spans.specs.declared.run.Run.{Run}
use Rattle.tocmark_commonmark.specs.InlineTree.{Inline, Atom, Whole, Delimiters, Opening, as_inline}
use Rattle.tocmark_inline_laws.specs.Said.{Piece, letters, leaf_said, declared_one}
use Rattle.tocmark_inline_laws.proofs.Flow.{Flow, Beside, flow_step}
use Rattle.tocmark_inline_laws.proofs.Stack.{is_star}

-- what is beside a content, with further texts and targets
abbrev pub with_more : Beside → List ℕ → List Target → Beside
with_more e ts gs = record e { texts = e.texts ++ ts; targets = e.targets ++ gs }

-- the flow at a place where nothing is skipped
abbrev pub flow_at : ℕ → ℕ → List Piece → Flow
flow_at depth place out = record { depth = depth; place = place; skip = 0; out = out }

-- roles from a place on say an inline, whatever is added to texts and targets
abbrev pub Shows : Beside → ℕ → List Role → Inline → Type 0
Shows e p seg i =
    (ts : List ℕ) (gs : List Target) (depth : ℕ) (out : List Piece)
    → fold (flow_step (with_more e ts gs)) (flow_at depth p out) seg ≡ flow_at depth (p + length seg) (out ++ declared_one depth i)

-- bytes that are skipped
pub skips : (e : Beside) (rs : List Role) (depth p : ℕ) (out : List Piece) → fold (flow_step e) (record { depth = depth; place = p; skip = length rs; out = out }) rs ≡ flow_at depth (p + length rs) out
unfolding flow_step
skips e [] depth p out = ap (λ q. flow_at depth q out) (let h : p ≡ p + 0 = omega arith in h)
skips e (r ∷ rs) depth p out = skips e rs depth (suc p) out ∙ ap (λ q. flow_at depth q out) (let h : suc p + length rs ≡ p + suc (length rs) = omega arith in h)

-- a leaf, and bytes that belong to it
pub leaf_shows : (e : Beside) (p end : ℕ) (l : Leaf) (rs : List Role) → end ≡ suc p + length rs → (i : Inline) → ((ts : List ℕ) (d : ℕ) → leaf_said (e.texts ++ ts) d l ≡ declared_one d i) → Shows e p (role.Single l end ∷ rs) i
unfolding flow_step
leaf_shows e p end l rs far i same ts gs depth out =
    ap (λ k. fold (flow_step (with_more e ts gs)) (record { depth = depth; place = suc p; skip = k; out = out ++ leaf_said (e.texts ++ ts) depth l }) rs) (let k : end - suc p ≡ length rs = omega arith in k)
    ∙ skips (with_more e ts gs) rs depth (suc p) (out ++ leaf_said (e.texts ++ ts) depth l)
    ∙ ap (λ ps. flow_at depth (suc p + length rs) (out ++ ps)) (same ts depth)
    ∙ ap (λ q. flow_at depth q (out ++ declared_one depth i)) (let k : suc p + length rs ≡ p + suc (length rs) = omega arith in k)

-- what is hidden says nothing
pub hidden_shows : (e : Beside) (p : ℕ) (rs : List Role) (i : Inline) → Shows e (suc p) rs i → Shows e p (role.Hidden ∷ rs) i
unfolding flow_step
hidden_shows e p rs i h ts gs depth out = h ts gs depth out ∙ ap (λ q. flow_at depth q (out ++ declared_one depth i)) (let k : suc p + length rs ≡ p + suc (length rs) = omega arith in k)

-- the first byte of a text is one of a text
pub fresh_shows : (e : Beside) (p b : ℕ) (i : Inline) → byte_at e.bytes p ≡ b → ((d : ℕ) → declared_one d i ≡ letters d (b ∷ [])) → Shows e p (role.Fresh ∷ []) i
unfolding flow_step
fresh_shows e p b i h same ts gs depth out = ap (λ c. flow_at depth (suc p) (out ++ letters depth (c ∷ []))) h ∙ ap (λ ps. flow_at depth (suc p) (out ++ ps)) (sym (same depth)) ∙ ap (λ q. flow_at depth q (out ++ declared_one depth i)) (let k : suc p ≡ p + 1 = omega arith in k)

-- further texts and targets change nothing
pub shows_more : (e : Beside) (ts : List ℕ) (gs : List Target) (p : ℕ) (seg : List Role) (i : Inline) → Shows e p seg i → Shows (with_more e ts gs) p seg i
shows_more e ts gs p seg i h us hs depth out =
    subst (λ (x : Beside). fold (flow_step x) (flow_at depth p out) seg ≡ flow_at depth (p + length seg) (out ++ declared_one depth i)) same (h (ts ++ us) (gs ++ hs) depth out)
  where
    same : with_more e (ts ++ us) (gs ++ hs) ≡ with_more (with_more e ts gs) us hs
    same = ap (λ (xs : List ℕ). record e { texts = xs; targets = e.targets ++ (gs ++ hs) }) (sym (append_assoc e.texts ts us)) ∙ ap (λ (ys : List Target). record e { texts = (e.texts ++ ts) ++ us; targets = ys }) (sym (append_assoc e.targets gs hs))

-- so many bytes from a place on are those of a run of `*` or `_`
pub record IsRun (e : Beside) (p : ℕ) (d : Run) : Type 0 where
  pub some : 0 < d.count
  pub star : is_star d.byte ≡ true
  pub filled : (i : ℕ) → i < d.count → byte_at e.bytes (p + i) ≡ d.byte

-- how many bytes an opening bracket has
abbrev pub bracket_width : Bool → ℕ
bracket_width image = if image then 2 else 1

-- roles say what an atom is; those of a delimiter run and of an opening bracket are plain
abbrev pub Stands : Beside → ℕ → List Role → Atom → Type 0
Stands e p seg (Whole i) = Shows e p seg i
Stands e p seg (Opening b) = (seg ≡ replicate (bracket_width b.is_image) role.Plain) × (b.inner ≡ p + bracket_width b.is_image) × Shows e p seg (as_inline (Opening b))
Stands e p seg (Delimiters r) = (seg ≡ replicate r.count role.Plain) × (r.place ≡ p) × IsRun e p r

stands_more : (e : Beside) (ts : List ℕ) (gs : List Target) (p : ℕ) (seg : List Role) (a : Atom) → Stands e p seg a → Stands (with_more e ts gs) p seg a
stands_more e ts gs p seg (Whole i) h = shows_more e ts gs p seg i h
stands_more e ts gs p seg (Opening b) h = ((h.0), (h.1), shows_more e ts gs p seg (as_inline (Opening b)) (h.2))
stands_more e ts gs p seg (Delimiters r) h = ((h.0), (h.1), record { some = h.2.some; star = h.2.star; filled = h.2.filled })

-- roles from the front on say atoms, the last one first
abbrev pub Trail : Beside → List Role → List Atom → Type 0
Trail e front [] = front ≡ []
Trail e front (a ∷ done) = (before : List Role) × (seg : List Role) × (front ≡ before ++ seg) × Stands e (length before) seg a × Trail e before done

pub trail_more : (e : Beside) (ts : List ℕ) (gs : List Target) (front : List Role) (done : List Atom) → Trail e front done → Trail (with_more e ts gs) front done
trail_more e ts gs front [] h = h
trail_more e ts gs front (a ∷ done) h = (h.0, h.1, h.2, stands_more e ts gs (length (h.0)) (h.1) a (h.3), trail_more e ts gs (h.0) done (h.4))
