-- The roles of a content, read from left to right, without nodes: the pieces so far, the depth, the place, and how many bytes are skipped.
use Rattle.std.proofs.Common.{◌≡◌, ℕ, zero, suc, ◌+◌, ◌-◌, ◌^◌, ◌<◌, ◌≤◌, Bool, true, false, if◌then◌else◌, nat_le, List, [], ◌∷◌, ◌++◌, length, refl, ap, sym, subst, ◌∙◌, arith, append_assoc, append-nil}
use Rattle.std.specs.Prelude.{Option, Some, None, ⊤}
use Rattle.std.specs.List.{fold, flat_map}
use Rattle.std.proofs.lemmas.Grind.{flat_map-append}
use Rattle.std.proofs.lemmas.Bool.Decides.{nat_tests}
use Rattle.tocmark_event.specs.View.{Start}
use Rattle.tocmark_read_scan.specs.Basic.{plus, byte_at, bytes_between}
use Rattle.tocmark_read_inlines.specs.Write.{State, pushed, flushed_from, flushed, opened, closed, single, texted, shown, next_place, role_step, write_start, written}
use Rattle.tocmark_read_inlines.specs.declared.write.InlineKind.TheVariants as item
use Rattle.tocmark_read_inlines.specs.declared.write.Node.{Node}
use Rattle.tocmark_read_spans.specs.declared.role.Role.{Role}
use Rattle.tocmark_read_spans.specs.declared.role.Role.TheVariants as role
use Rattle.tocmark_read_spans.specs.declared.role.Target.{Target}
use Rattle.tocmark_inline_laws.specs.Said.{Piece, letters, tag_said, leaf_said, node_said}
use Rattle.tocmark_inline_laws.proofs.Stretches.{between_more, between_none, letters_append}

-- what roles say so far
pub record Flow : Type 0 where
  pub depth : ℕ
  pub place : ℕ
  pub skip : ℕ
  pub out : List Piece

-- a content with the texts and the targets beside it
pub record Beside : Type 0 where
  pub bytes : List ℕ
  pub texts : List ℕ
  pub targets : List Target

-- these pieces are said
abbrev pub with_out : List Piece → Flow → Flow
with_out ps f = record f { out = f.out ++ ps }

-- what a role says
abbrev pub flown : Beside → Flow → Role → Flow
flown e f role.Plain = with_out (letters f.depth (byte_at e.bytes f.place ∷ [])) f
flown e f role.Fresh = with_out (letters f.depth (byte_at e.bytes f.place ∷ [])) f
flown e f role.Hidden = f
flown e f (role.Open span end) = record f { depth = suc f.depth; out = f.out ++ (f.depth, Start (tag_said e.texts e.targets span)) ∷ [] }
flown e f (role.Close end) = record f { depth = f.depth - 1; skip = end - suc f.place }
flown e f (role.Single leaf end) = record f { skip = end - suc f.place; out = f.out ++ leaf_said e.texts f.depth leaf }

abbrev pub moved_on : Flow → Flow
moved_on f = record f { place = suc f.place }

abbrev pub flow_by : Beside → Flow → Role → ℕ → Flow
flow_by e f r zero = moved_on (flown e f r)
flow_by e f r (suc k) = moved_on (record f { skip = k })

-- one role further
unfoldable pub flow_step : Beside → Flow → Role → Flow
flow_step e f r = flow_by e f r f.skip

-- the nodes so far say this
abbrev nodes_say : Beside → List Node → List Piece
nodes_say e ns = flat_map (node_said e.bytes e.texts e.targets) ns

-- and the open text this
abbrev text_says : Beside → ℕ → Option ℕ → ℕ → List Piece
text_says e depth None place = []
text_says e depth (Some start) place = letters depth (bytes_between e.bytes start place)

-- the open text began not later
abbrev Began : Option ℕ → ℕ → Type 0
Began None place = ⊤
Began (Some start) place = start ≤ place

-- while bytes are skipped no text is open
abbrev Silent : ℕ → Option ℕ → Type 0
Silent zero o = ⊤
Silent (suc k) o = o ≡ None

-- the nodes so far say what the flow says
record Alike (e : Beside) (s : State) (f : Flow) : Type 0 where
  depth : s.depth ≡ f.depth
  place : s.place ≡ f.place
  skip : s.resume - s.place ≡ f.skip
  out : nodes_say e s.nodes ++ text_says e s.depth s.text s.place ≡ f.out
  began : Began s.text s.place
  silent : Silent f.skip s.text

none_silent : (k : ℕ) → Silent k None
none_silent zero = tt
none_silent (suc k) = refl

said_more : (e : Beside) (ns : List Node) (n : Node) → nodes_say e (ns ++ n ∷ []) ≡ nodes_say e ns ++ node_said e.bytes e.texts e.targets n
said_more e ns n = flat_map-append (node_said e.bytes e.texts e.targets) ns (n ∷ []) ∙ ap (λ ps. nodes_say e ns ++ ps) (append-nil (node_said e.bytes e.texts e.targets n))

-- the open text is said by its node
flushed_says : (e : Beside) (s : State) → nodes_say e (flushed s).nodes ≡ nodes_say e s.nodes ++ text_says e s.depth s.text s.place
unfolding flushed pushed
flushed_says e s = by s.text
  where
    by : (o : Option ℕ) → nodes_say e (flushed_from o s).nodes ≡ nodes_say e s.nodes ++ text_says e s.depth o s.place
    by None = sym (append-nil (nodes_say e s.nodes))
    by (Some start) = said_more e s.nodes (record { depth = s.depth; item = item.Text; start = start; end = s.place })

flushed_place : (s : State) → (flushed s).place ≡ s.place
unfolding flushed pushed
flushed_place s = by s.text
  where
    by : (o : Option ℕ) → (flushed_from o s).place ≡ s.place
    by None = refl
    by (Some start) = refl

flushed_depth : (s : State) → (flushed s).depth ≡ s.depth
unfolding flushed pushed
flushed_depth s = by s.text
  where
    by : (o : Option ℕ) → (flushed_from o s).depth ≡ s.depth
    by None = refl
    by (Some start) = refl

flushed_resume : (s : State) → (flushed s).resume ≡ s.resume
unfolding flushed pushed
flushed_resume s = by s.text
  where
    by : (o : Option ℕ) → (flushed_from o s).resume ≡ s.resume
    by None = refl
    by (Some start) = refl

flushed_text : (s : State) → (flushed s).text ≡ None
unfolding flushed pushed
flushed_text s = by s.text refl
  where
    by : (o : Option ℕ) → s.text ≡ o → (flushed_from o s).text ≡ None
    by None h = h
    by (Some start) h = refl

-- no text is open, and the next byte is one of a text
begun_text : (e : Beside) (s : State) (f : Flow) → Alike e s f → s.place < length e.bytes → s.text ≡ None → nodes_say e s.nodes ++ text_says e s.depth (Some s.place) (suc s.place) ≡ f.out ++ letters f.depth (byte_at e.bytes f.place ∷ [])
begun_text e s f a h none =
    ap (λ ps. nodes_say e s.nodes ++ letters s.depth ps) (between_more e.bytes s.place s.place (omega arith) h ∙ ap (λ bs. bs ++ byte_at e.bytes s.place ∷ []) (between_none e.bytes s.place (omega arith)))
    ∙ ap (λ ps. ps ++ letters s.depth (byte_at e.bytes s.place ∷ [])) (sym (append-nil (nodes_say e s.nodes)) ∙ ap (λ o. nodes_say e s.nodes ++ text_says e s.depth o s.place) (sym none) ∙ a.out)
    ∙ ap (λ d. f.out ++ letters d (byte_at e.bytes s.place ∷ [])) a.depth
    ∙ ap (λ p. f.out ++ letters f.depth (byte_at e.bytes p ∷ [])) a.place

gone_text : (e : Beside) (s : State) (f : Flow) (start : ℕ) → Alike e s f → s.place < length e.bytes → s.text ≡ Some start → nodes_say e s.nodes ++ text_says e s.depth (Some start) (suc s.place) ≡ f.out ++ letters f.depth (byte_at e.bytes f.place ∷ [])
gone_text e s f start a h is =
    ap (λ ps. nodes_say e s.nodes ++ ps) (ap (letters s.depth) (between_more e.bytes start s.place before h) ∙ letters_append s.depth (bytes_between e.bytes start s.place) (byte_at e.bytes s.place ∷ []))
    ∙ sym (append_assoc (nodes_say e s.nodes) (letters s.depth (bytes_between e.bytes start s.place)) (letters s.depth (byte_at e.bytes s.place ∷ [])))
    ∙ ap (λ ps. ps ++ letters s.depth (byte_at e.bytes s.place ∷ [])) (ap (λ o. nodes_say e s.nodes ++ text_says e s.depth o s.place) (sym is) ∙ a.out)
    ∙ ap (λ d. f.out ++ letters d (byte_at e.bytes s.place ∷ [])) a.depth
    ∙ ap (λ p. f.out ++ letters f.depth (byte_at e.bytes p ∷ [])) a.place
  where
    before : start ≤ s.place
    before = subst (λ o. Began o s.place) is a.began

-- after a flush
flush_says : (e : Beside) (s : State) (f : Flow) → Alike e s f → nodes_say e (flushed s).nodes ≡ f.out
flush_says e s f a = flushed_says e s ∙ a.out

-- a role that is read
shown_alike : (e : Beside) (s : State) (f : Flow) (r : Role) → Alike e s f → f.skip ≡ 0 → s.place < length e.bytes → length e.bytes + 1 < 2 ^ 64 → s.depth + 1 < 2 ^ 64 → Alike e (record (shown r s) { place = plus s.place 1 }) (moved_on (flown e f r))
unfolding shown opened closed single pushed
shown_alike e s f role.Plain a z h n d = by s.text refl
  where
    next : plus s.place 1 ≡ suc s.place
    next = omega arith

    still : s.resume - plus s.place 1 ≡ f.skip
    still = let k : s.resume - s.place ≡ f.skip = a.skip in omega arith

    by : (o : Option ℕ) → s.text ≡ o → Alike e (record (texted s o) { place = plus s.place 1 }) (moved_on (flown e f role.Plain))
    by None is = record {
      depth = a.depth;
      place = next ∙ ap suc a.place;
      skip = still;
      out = ap (λ p. nodes_say e s.nodes ++ text_says e s.depth (Some s.place) p) next ∙ begun_text e s f a h is;
      began = omega arith;
      silent = subst (λ k. Silent k (Some s.place)) (sym z) tt;
    }
    by (Some start) is = record {
      depth = a.depth;
      place = next ∙ ap suc a.place;
      skip = still;
      out = ap (λ o. nodes_say e s.nodes ++ text_says e s.depth o (plus s.place 1)) is ∙ ap (λ p. nodes_say e s.nodes ++ text_says e s.depth (Some start) p) next ∙ gone_text e s f start a h is;
      began = subst (λ o. Began o (plus s.place 1)) (sym is) (let q : start ≤ s.place = subst (λ o. Began o s.place) is a.began in let r : start ≤ plus s.place 1 = omega arith in r);
      silent = subst (λ k. Silent k s.text) (sym z) tt;
    }
shown_alike e s f role.Fresh a z h n d = record {
  depth = flushed_depth s ∙ a.depth;
  place = next ∙ ap suc a.place;
  skip = ap (λ r. r - plus s.place 1) (flushed_resume s) ∙ still;
  out =
      ap (λ p. nodes_say e (flushed s).nodes ++ text_says e (flushed s).depth (Some p) (plus s.place 1)) (flushed_place s)
      ∙ ap (λ p. nodes_say e (flushed s).nodes ++ text_says e (flushed s).depth (Some s.place) p) next
      ∙ ap (λ ps. nodes_say e (flushed s).nodes ++ letters (flushed s).depth ps) (between_more e.bytes s.place s.place (omega arith) h ∙ ap (λ bs. bs ++ byte_at e.bytes s.place ∷ []) (between_none e.bytes s.place (omega arith)))
      ∙ ap (λ ps. ps ++ letters (flushed s).depth (byte_at e.bytes s.place ∷ [])) (flush_says e s f a)
      ∙ ap (λ k. f.out ++ letters k (byte_at e.bytes s.place ∷ [])) (flushed_depth s ∙ a.depth)
      ∙ ap (λ p. f.out ++ letters f.depth (byte_at e.bytes p ∷ [])) a.place;
  began = subst (λ p. p ≤ plus s.place 1) (sym (flushed_place s)) (omega arith);
  silent = subst (λ k. Silent k (Some (flushed s).place)) (sym z) tt;
}
  where
    next : plus s.place 1 ≡ suc s.place
    next = omega arith

    still : s.resume - plus s.place 1 ≡ f.skip
    still = let k : s.resume - s.place ≡ f.skip = a.skip in omega arith
shown_alike e s f role.Hidden a z h n d = record {
  depth = flushed_depth s ∙ a.depth;
  place = next ∙ ap suc a.place;
  skip = ap (λ r. r - plus s.place 1) (flushed_resume s) ∙ still;
  out = ap (λ o. nodes_say e (flushed s).nodes ++ text_says e (flushed s).depth o (plus s.place 1)) (flushed_text s) ∙ append-nil (nodes_say e (flushed s).nodes) ∙ flush_says e s f a;
  began = subst (λ o. Began o (plus s.place 1)) (sym (flushed_text s)) tt;
  silent = subst (λ k. Silent k (flushed s).text) (sym z) tt;
}
  where
    next : plus s.place 1 ≡ suc s.place
    next = omega arith

    still : s.resume - plus s.place 1 ≡ f.skip
    still = let k : s.resume - s.place ≡ f.skip = a.skip in omega arith
shown_alike e s f (role.Open span end) a z h n d = record {
  depth = ap (λ k. plus k 1) (flushed_depth s) ∙ deeper ∙ ap suc a.depth;
  place = next ∙ ap suc a.place;
  skip = ap (λ r. r - plus s.place 1) (flushed_resume s) ∙ still;
  out =
      ap (λ o. nodes_say e ((flushed s).nodes ++ node ∷ []) ++ text_says e (plus (flushed s).depth 1) o (plus s.place 1)) (flushed_text s)
      ∙ append-nil (nodes_say e ((flushed s).nodes ++ node ∷ []))
      ∙ said_more e (flushed s).nodes node
      ∙ ap (λ ps. ps ++ ((flushed s).depth, Start (tag_said e.texts e.targets span)) ∷ []) (flush_says e s f a)
      ∙ ap (λ k. f.out ++ (k, Start (tag_said e.texts e.targets span)) ∷ []) (flushed_depth s ∙ a.depth);
  began = subst (λ o. Began o (plus s.place 1)) (sym (flushed_text s)) tt;
  silent = subst (λ k. Silent k (flushed s).text) (sym z) tt;
}
  where
    node : Node
    node = record { depth = (flushed s).depth; item = item.Span span; start = (flushed s).place; end = end }

    deeper : plus s.depth 1 ≡ suc s.depth
    deeper = omega arith

    next : plus s.place 1 ≡ suc s.place
    next = omega arith

    still : s.resume - plus s.place 1 ≡ f.skip
    still = let k : s.resume - s.place ≡ f.skip = a.skip in omega arith
shown_alike e s f (role.Close end) a z h n d = record {
  depth = ap (λ k. k - 1) (flushed_depth s ∙ a.depth);
  place = next ∙ ap suc a.place;
  skip = ap (λ p. end - p) (next ∙ ap suc a.place);
  out = ap (λ o. nodes_say e (flushed s).nodes ++ text_says e ((flushed s).depth - 1) o (plus s.place 1)) (flushed_text s) ∙ append-nil (nodes_say e (flushed s).nodes) ∙ flush_says e s f a;
  began = subst (λ o. Began o (plus s.place 1)) (sym (flushed_text s)) tt;
  silent = subst (Silent (end - suc f.place)) (sym (flushed_text s)) (none_silent (end - suc f.place));
}
  where
    next : plus s.place 1 ≡ suc s.place
    next = omega arith
shown_alike e s f (role.Single leaf end) a z h n d = record {
  depth = flushed_depth s ∙ a.depth;
  place = next ∙ ap suc a.place;
  skip = ap (λ p. end - p) (next ∙ ap suc a.place);
  out =
      ap (λ o. nodes_say e ((flushed s).nodes ++ node ∷ []) ++ text_says e (flushed s).depth o (plus s.place 1)) (flushed_text s)
      ∙ append-nil (nodes_say e ((flushed s).nodes ++ node ∷ []))
      ∙ said_more e (flushed s).nodes node
      ∙ ap (λ ps. ps ++ leaf_said e.texts (flushed s).depth leaf) (flush_says e s f a)
      ∙ ap (λ k. f.out ++ leaf_said e.texts k leaf) (flushed_depth s ∙ a.depth);
  began = subst (λ o. Began o (plus s.place 1)) (sym (flushed_text s)) tt;
  silent = subst (Silent (end - suc f.place)) (sym (flushed_text s)) (none_silent (end - suc f.place));
}
  where
    node : Node
    node = record { depth = (flushed s).depth; item = item.Leaf leaf; start = (flushed s).place; end = end }

    next : plus s.place 1 ≡ suc s.place
    next = omega arith

shown_place : (r : Role) (s : State) → (shown r s).place ≡ s.place
unfolding shown opened closed single pushed
shown_place role.Plain s = by s.text
  where
    by : (o : Option ℕ) → (texted s o).place ≡ s.place
    by None = refl
    by (Some start) = refl
shown_place role.Fresh s = flushed_place s
shown_place role.Hidden s = flushed_place s
shown_place (role.Open span end) s = flushed_place s
shown_place (role.Close end) s = flushed_place s
shown_place (role.Single leaf end) s = flushed_place s

-- one role further
step_alike : (e : Beside) (s : State) (f : Flow) (r : Role) → Alike e s f → s.place < length e.bytes → length e.bytes + 1 < 2 ^ 64 → s.depth + 1 < 2 ^ 64 → Alike e (role_step s r) (flow_step e f r)
unfolding role_step flow_step
step_alike e s f r a h n d = by f.skip refl
  where
    next : plus s.place 1 ≡ suc s.place
    next = omega arith

    by : (k : ℕ) → f.skip ≡ k → Alike e (next_place (if nat_le s.resume s.place then shown r s else s)) (flow_by e f r k)
    by zero z =
        let q : s.resume - s.place ≡ 0 = a.skip ∙ z in
        let yes : nat_le s.resume s.place ≡ true = grind (arith, nat_tests) in
        subst (λ (t : Bool). Alike e (next_place (if t then shown r s else s)) (flow_by e f r zero)) (sym yes)
        (subst (λ p. Alike e (record (shown r s) { place = plus p 1 }) (flow_by e f r zero)) (sym (shown_place r s)) (shown_alike e s f r a z h n d))
    by (suc k) z =
        let q : s.resume - s.place ≡ suc k = a.skip ∙ z in
        let no : nat_le s.resume s.place ≡ false = grind (arith, nat_tests) in
        let quiet : s.text ≡ None = subst (λ m. Silent m s.text) z a.silent in
        subst (λ (t : Bool). Alike e (next_place (if t then shown r s else s)) (flow_by e f r (suc k))) (sym no) (record {
          depth = a.depth;
          place = next ∙ ap suc a.place;
          skip = omega arith;
          out = ap (λ o. nodes_say e s.nodes ++ text_says e s.depth o (plus s.place 1)) quiet ∙ ap (λ o. nodes_say e s.nodes ++ text_says e s.depth o s.place) (sym quiet) ∙ a.out;
          began = subst (λ o. Began o (plus s.place 1)) (sym quiet) tt;
          silent = subst (λ o. Silent k o) (sym quiet) (none_silent k);
        })

flow_place : (e : Beside) (f : Flow) (r : Role) → (flow_step e f r).place ≡ suc f.place
unfolding flow_step
flow_place e f r = by f.skip r
  where
    by : (k : ℕ) (r : Role) → (flow_by e f r k).place ≡ suc f.place
    by zero role.Plain = refl
    by zero role.Fresh = refl
    by zero role.Hidden = refl
    by zero (role.Open span end) = refl
    by zero (role.Close end) = refl
    by zero (role.Single leaf end) = refl
    by (suc k) r = refl

flow_depth : (e : Beside) (f : Flow) (r : Role) → (flow_step e f r).depth ≤ suc f.depth
unfolding flow_step
flow_depth e f r = by f.skip r
  where
    by : (k : ℕ) (r : Role) → (flow_by e f r k).depth ≤ suc f.depth
    by zero role.Plain = omega arith
    by zero role.Fresh = omega arith
    by zero role.Hidden = omega arith
    by zero (role.Open span end) = omega arith
    by zero (role.Close end) = omega arith
    by zero (role.Single leaf end) = omega arith
    by (suc k) r = omega arith

steps_alike : (e : Beside) (rs : List Role) (s : State) (f : Flow) → Alike e s f → s.place + length rs ≤ length e.bytes → s.depth + length rs < 2 ^ 64 → length e.bytes + 1 < 2 ^ 64 → Alike e (fold role_step s rs) (fold (flow_step e) f rs)
steps_alike e [] s f a h d n = a
steps_alike e (r ∷ rs) s f a h d n =
    let b : Alike e (role_step s r) (flow_step e f r) = step_alike e s f r a (omega arith) n (omega arith) in
    let p : (role_step s r).place ≡ suc s.place = b.place ∙ flow_place e f r ∙ ap suc (sym a.place) in
    let q : (role_step s r).depth ≤ suc s.depth = subst (λ k. k ≤ suc s.depth) (sym b.depth) (subst (λ k. (flow_step e f r).depth ≤ suc k) (sym a.depth) (flow_depth e f r)) in
    steps_alike e rs (role_step s r) (flow_step e f r) b (omega arith) (omega arith) n

-- the nodes of roles at a depth say what these say from left to right
pub written_flows : (e : Beside) (rs : List Role) (depth : ℕ) → length rs ≡ length e.bytes → length e.bytes + 1 < 2 ^ 64 → depth + length e.bytes < 2 ^ 64
    → flat_map (node_said e.bytes e.texts e.targets) (written rs depth) ≡ (fold (flow_step e) (record { depth = depth; place = 0; skip = 0; out = [] }) rs).out
unfolding written
written_flows e rs depth l n d = flush_says e (fold role_step (write_start depth) rs) (fold (flow_step e) start rs)
    (steps_alike e rs (write_start depth) start (record { depth = refl; place = refl; skip = refl; out = refl; began = tt; silent = tt }) (omega arith) (omega (arith, l, d)) n)
  where
    start : Flow
    start = record { depth = depth; place = 0; skip = 0; out = [] }
