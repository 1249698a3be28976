-- Both readers show the same nodes of plain parts, however an ampersand is kept.
use Rattle.std.proofs.Common.{◌≡◌, ℕ, zero, suc, ◌+◌, ◌-◌, ◌^◌, ◌<◌, Bool, true, false, ◌==◌, nat_le, List, [], ◌∷◌, ◌++◌, length, map, replicate, slice_get, unwrap_or, Option, Some, None, refl, ap, sym, ◌∙◌, arith, append_assoc, append-nil, length-append}
use Rattle.std.proofs.lemmas.List.{map-append}
use Rattle.std.proofs.lemmas.Str.{IsUtf8-from_ascii, utf8_lossy-IsUtf8}
use Rattle.std.specs.Prelude.{IsAscii}
use Rattle.std.specs.List.{AllByRecursion, fold}
use Rattle.std.specs.Str.Lossy.{utf8_lossy}
use Rattle.tocmark_event.specs.View as view
use Rattle.tocmark_read_scan.specs.Basic.{plus, bytes_between}
use Rattle.tocmark_read_scan.specs.PlainParts.{Part, Bare, Escaped, Referred, Feed, spelled}
use Rattle.tocmark_read_scan.proofs.PlainPieces.{piece_between}
use Rattle.tocmark_read_scan.proofs.PlainTests.{eq_of}
use Rattle.tocmark_read_spans.specs.declared.role.Leaf.{Leaf}
use Rattle.tocmark_read_spans.specs.declared.role.Leaf.TheVariants.{Character, SoftBreak}
use Rattle.tocmark_read_spans.specs.declared.role.Role.{Role}
use Rattle.tocmark_read_spans.specs.declared.role.Role.TheVariants.{Plain, Hidden, Fresh, Single}
use Rattle.tocmark_read_spans.specs.declared.role.Target.{Target}
use Rattle.tocmark_read_inlines.specs.Write as w
use Rattle.tocmark_read_inlines.specs.declared.write.Node.{Node}
use Rattle.tocmark_read_inlines.specs.declared.write.InlineKind.TheVariants as item
use Rattle.tocmark_read_inlines.proofs.PlainNodes.{node, nodes_of, text_until, begun, written_parts}
use Rattle.tocmark_read_inlines.proofs.PlainPasses.{roles}
use Rattle.tocmark_reader.specs.Emitted.{NodeView, Given}
use Rattle.tocmark_reader.specs.Inlines.{inline_item, inline_node, leaf_of}
use Rattle.tocmark_read_back_laws.proofs.NamedParts.{kept_leaf, kept_text, kept_texts, named_roles}

-- the roles of a byte in two readings, which differ in what a leaf is kept as
data Pair : Type 0 where
  Goes : Pair
  Hides : Pair
  Begins : Pair
  Leaves : Leaf → Leaf → ℕ → Pair

abbrev first : Pair → Role
first Goes = Plain
first Hides = Hidden
first Begins = Fresh
first (Leaves l k end) = Single l end

abbrev second : Pair → Role
second Goes = Plain
second Hides = Hidden
second Begins = Fresh
second (Leaves l k end) = Single k end

-- both leaves show the same, each with its texts
abbrev IsAlike : List ℕ → List ℕ → Pair → Type 0
IsAlike texts others Goes = Unit {0}
IsAlike texts others Hides = Unit {0}
IsAlike texts others Begins = Unit {0}
IsAlike texts others (Leaves l k end) = leaf_of texts l ≡ leaf_of others k

-- the second pass at a place
abbrev at : List Node → ℕ → Option ℕ → ℕ → ℕ → w.State
at ns d o p r = record { nodes = ns; depth = d; text = o; place = p; resume = r }

flush_to : (ns : List Node) (d : ℕ) (o : Option ℕ) (p r : ℕ) → w.flushed (at ns d o p r) ≡ at (ns ++ text_until d o p) d None p r
unfolding w.flushed w.pushed
flush_to ns d None p r = ap (λ (x : List Node). at x d None p r) (sym (append-nil ns))
flush_to ns d (Some start) p r = refl

shown_plain : (ns : List Node) (d : ℕ) (o : Option ℕ) (p r : ℕ) → w.shown Plain (at ns d o p r) ≡ at ns d (Some (begun o p)) p r
unfolding w.shown
shown_plain ns d None p r = refl
shown_plain ns d (Some start) p r = refl

shown_hidden : (ns : List Node) (d : ℕ) (o : Option ℕ) (p r : ℕ) → w.shown Hidden (at ns d o p r) ≡ at (ns ++ text_until d o p) d None p r
unfolding w.shown
shown_hidden ns d o p r = flush_to ns d o p r

shown_fresh : (ns : List Node) (d : ℕ) (o : Option ℕ) (p r : ℕ) → w.shown Fresh (at ns d o p r) ≡ at (ns ++ text_until d o p) d (Some p) p r
unfolding w.shown
shown_fresh ns d o p r = ap (λ (u : w.State). w.fresh u) (flush_to ns d o p r)

shown_single : (ns : List Node) (d : ℕ) (o : Option ℕ) (p r : ℕ) (l : Leaf) (end : ℕ) → w.shown (Single l end) (at ns d o p r) ≡ at ((ns ++ text_until d o p) ++ node d (item.Leaf l) p end ∷ []) d None p end
unfolding w.shown w.single w.pushed
shown_single ns d o p r l end = ap (λ (u : w.State). w.resumed end (w.pushed (item.Leaf l) u.place end u)) (flush_to ns d o p r)

step_over : (role : Role) (ns : List Node) (d : ℕ) (o : Option ℕ) (p r : ℕ) → nat_le r p ≡ false → w.role_step (at ns d o p r) role ≡ at ns d o (plus p 1) r
unfolding w.role_step
step_over role ns d o p r e = rw e refl

step_at : (role : Role) (ns : List Node) (d : ℕ) (o : Option ℕ) (p r : ℕ) (u : w.State) → nat_le r p ≡ true → w.shown role (at ns d o p r) ≡ u → w.role_step (at ns d o p r) role ≡ w.next_place u
unfolding w.role_step
step_at role ns d o p r u e f = rw e (ap (λ (x : w.State). w.next_place x) f)

-- all nodes of a list of roles from a state on
abbrev ended : w.State → List Role → List Node
ended t rs = (w.flushed (fold w.role_step t rs)).nodes

module _ (texts others : List ℕ) (targets more : List Target) where
  abbrev one : Node → NodeView
  one n = inline_node texts targets n

  abbrev two : Node → NodeView
  two n = inline_node others more n

  abbrev Same : List Node → List Node → Type 0
  Same ns ms = map one ns ≡ map two ms

  same_more : (ns ms xs ys : List Node) → Same ns ms → Same xs ys → Same (ns ++ xs) (ms ++ ys)
  same_more ns ms xs ys h k =
      map-append one ns xs
      ∙ ap (λ (vs : List NodeView). vs ++ map one xs) h
      ∙ ap (λ (vs : List NodeView). map two ms ++ vs) k
      ∙ sym (map-append two ms ys)

  same_until : (d : ℕ) (o : Option ℕ) (p : ℕ) → Same (text_until d o p) (text_until d o p)
  unfolding inline_node inline_item
  same_until d None p = refl
  same_until d (Some start) p = refl

  same_leaf : (d : ℕ) (l k : Leaf) (p end : ℕ) → leaf_of texts l ≡ leaf_of others k → Same (node d (item.Leaf l) p end ∷ []) (node d (item.Leaf k) p end ∷ [])
  unfolding inline_node inline_item
  same_leaf d l k p end h = ap (λ (x : view.LeafView). inline_view x ∷ []) h
    where
      inline_view : view.LeafView → NodeView
      inline_view x = record { depth = d; item = Given x; start = p; end = end }

  by_steps : (ps : List Pair) (t t' u u' : w.State) → t ≡ t' → u ≡ u' → Same (ended t' (map first ps)) (ended u' (map second ps)) → Same (ended t (map first ps)) (ended u (map second ps))
  by_steps ps t t' u u' e f h =
      ap (λ (x : w.State). map one (ended x (map first ps))) e ∙ h ∙ sym (ap (λ (x : w.State). map two (ended x (map second ps))) f)

  steps : (ps : List Pair) (ns ms : List Node) (d : ℕ) (o : Option ℕ) (p r : ℕ) → Same ns ms → AllByRecursion (IsAlike texts others) ps → Same (ended (at ns d o p r) (map first ps)) (ended (at ms d o p r) (map second ps))
  steps [] ns ms d o p r h k =
      ap (λ (x : w.State). map one x.nodes) (flush_to ns d o p r)
      ∙ same_more ns ms (text_until d o p) (text_until d o p) h (same_until d o p)
      ∙ sym (ap (λ (x : w.State). map two x.nodes) (flush_to ms d o p r))
  steps (x ∷ ps) ns ms d o p r h k = by (λ fs gs u q e. steps ps fs gs d u (plus p 1) q e (k.1)) (nat_le r p) refl
    where
      next : ℕ
      next = plus p 1

      Goals : Type 0
      Goals = (fs gs : List Node) (u : Option ℕ) (q : ℕ) → Same fs gs → Same (ended (at fs d u next q) (map first ps)) (ended (at gs d u next q) (map second ps))

      fst : List Node
      fst = ns ++ text_until d o p

      snd : List Node
      snd = ms ++ text_until d o p

      flushed : Same fst snd
      flushed = same_more ns ms (text_until d o p) (text_until d o p) h (same_until d o p)

      here : (x : Pair) → IsAlike texts others x → nat_le r p ≡ true → Goals → Same (ended (w.role_step (at ns d o p r) (first x)) (map first ps)) (ended (w.role_step (at ms d o p r) (second x)) (map second ps))
      here Goes a e go =
          by_steps ps _ (at ns d (Some (begun o p)) next r) _ (at ms d (Some (begun o p)) next r)
          (step_at Plain ns d o p r _ e (shown_plain ns d o p r)) (step_at Plain ms d o p r _ e (shown_plain ms d o p r)) (go ns ms (Some (begun o p)) r h)
      here Hides a e go =
          by_steps ps _ (at fst d None next r) _ (at snd d None next r)
          (step_at Hidden ns d o p r _ e (shown_hidden ns d o p r)) (step_at Hidden ms d o p r _ e (shown_hidden ms d o p r)) (go fst snd None r flushed)
      here Begins a e go =
          by_steps ps _ (at fst d (Some p) next r) _ (at snd d (Some p) next r)
          (step_at Fresh ns d o p r _ e (shown_fresh ns d o p r)) (step_at Fresh ms d o p r _ e (shown_fresh ms d o p r)) (go fst snd (Some p) r flushed)
      here (Leaves l m end) a e go =
          let xs : List Node = fst ++ node d (item.Leaf l) p end ∷ [] in
          let ys : List Node = snd ++ node d (item.Leaf m) p end ∷ [] in
          by_steps ps _ (at xs d None next end) _ (at ys d None next end)
          (step_at (Single l end) ns d o p r _ e (shown_single ns d o p r l end)) (step_at (Single m end) ms d o p r _ e (shown_single ms d o p r m end))
          (go xs ys None end (same_more fst snd (node d (item.Leaf l) p end ∷ []) (node d (item.Leaf m) p end ∷ []) flushed (same_leaf d l m p end a)))

      by : Goals → (c : Bool) → nat_le r p ≡ c → Same (ended (w.role_step (at ns d o p r) (first x)) (map first ps)) (ended (w.role_step (at ms d o p r) (second x)) (map second ps))
      by go true e = here x (k.0) e go
      by go false e =
          by_steps ps _ (at ns d o next r) _ (at ms d o next r) (step_over (first x) ns d o p r e) (step_over (second x) ms d o p r e) (go ns ms o r h)

  -- the nodes of all roles
  same_written : (ps : List Pair) (d : ℕ) → AllByRecursion (IsAlike texts others) ps → Same (w.written (map first ps) d) (w.written (map second ps) d)
  unfolding w.written
  same_written ps d h = steps ps [] [] d None 0 0 refl h

  -- in their places
  abbrev moved_view : List (ℕ × ℕ) → NodeView → NodeView
  moved_view places n = record n { start = (unwrap_or (slice_get places n.start) (0, 0)).0; end = (unwrap_or (slice_get places (n.end - 1)) (0, 0)).1 }

  one_moved : (places : List (ℕ × ℕ)) (ns : List Node) → map one (map (w.moved places) ns) ≡ map (moved_view places) (map one ns)
  unfolding inline_node w.moved
  one_moved places [] = refl
  one_moved places (n ∷ ns) = ap (λ (vs : List NodeView). moved_view places (one n) ∷ vs) (one_moved places ns)

  two_moved : (places : List (ℕ × ℕ)) (ns : List Node) → map two (map (w.moved places) ns) ≡ map (moved_view places) (map two ns)
  unfolding inline_node w.moved
  two_moved places [] = refl
  two_moved places (n ∷ ns) = ap (λ (vs : List NodeView). moved_view places (two n) ∷ vs) (two_moved places ns)

  same_moved : (places : List (ℕ × ℕ)) (ns ms : List Node) → Same ns ms → Same (map (w.moved places) ns) (map (w.moved places) ms)
  same_moved places ns ms h = one_moved places ns ∙ ap (map (moved_view places)) h ∙ sym (two_moved places ms)

-- parts

abbrev pairs : List ℕ → ℕ → List Part → List Pair
pairs texts p [] = []
pairs texts p (Bare b ∷ parts) = Goes ∷ pairs texts (p + 1) parts
pairs texts p (Escaped b ∷ parts) = Hides ∷ Begins ∷ pairs texts (p + 2) parts
pairs texts p (Referred c bs ∷ parts) =
    Leaves (kept_leaf (c == 38) texts c) (Character c) (p + 1 + length bs) ∷ (replicate (length bs) Goes ++ pairs (texts ++ kept_text (c == 38)) (p + suc (length bs)) parts)
pairs texts p (Feed ∷ parts) = Leaves SoftBreak SoftBreak (p + 1) ∷ pairs texts (p + 1) parts

plain_pairs : (f : Pair → Role) (xs : List ℕ) (ps : List Pair) (rs : List Role) → f Goes ≡ Plain → map f ps ≡ rs → map f (replicate (length xs) Goes ++ ps) ≡ replicate (length xs) Plain ++ rs
plain_pairs f [] ps rs e h = h
plain_pairs f (x ∷ xs) ps rs e h = ap (λ r. r ∷ map f (replicate (length xs) Goes ++ ps)) e ∙ ap (λ (qs : List Role). Plain ∷ qs) (plain_pairs f xs ps rs e h)

first_is : (texts : List ℕ) (p : ℕ) (parts : List Part) → map first (pairs texts p parts) ≡ named_roles texts p parts
first_is texts p [] = refl
first_is texts p (Bare b ∷ parts) = ap (λ (rs : List Role). Plain ∷ rs) (first_is texts (p + 1) parts)
first_is texts p (Escaped b ∷ parts) = ap (λ (rs : List Role). Hidden ∷ Fresh ∷ rs) (first_is texts (p + 2) parts)
first_is texts p (Referred c bs ∷ parts) =
    ap (λ (rs : List Role). Single (kept_leaf (c == 38) texts c) (p + 1 + length bs) ∷ rs)
    (plain_pairs first bs (pairs (texts ++ kept_text (c == 38)) (p + suc (length bs)) parts) (named_roles (texts ++ kept_text (c == 38)) (p + suc (length bs)) parts) refl (first_is (texts ++ kept_text (c == 38)) (p + suc (length bs)) parts))
first_is texts p (Feed ∷ parts) = ap (λ (rs : List Role). Single SoftBreak (p + 1) ∷ rs) (first_is texts (p + 1) parts)

second_is : (texts : List ℕ) (p : ℕ) (parts : List Part) → map second (pairs texts p parts) ≡ roles p parts
second_is texts p [] = refl
second_is texts p (Bare b ∷ parts) = ap (λ (rs : List Role). Plain ∷ rs) (second_is texts (p + 1) parts)
second_is texts p (Escaped b ∷ parts) = ap (λ (rs : List Role). Hidden ∷ Fresh ∷ rs) (second_is texts (p + 2) parts)
second_is texts p (Referred c bs ∷ parts) =
    ap (λ (rs : List Role). Single (Character c) (p + 1 + length bs) ∷ rs)
    (plain_pairs second bs (pairs (texts ++ kept_text (c == 38)) (p + suc (length bs)) parts) (roles (p + suc (length bs)) parts) refl (second_is (texts ++ kept_text (c == 38)) (p + suc (length bs)) parts))
second_is texts p (Feed ∷ parts) = ap (λ (rs : List Role). Single SoftBreak (p + 1) ∷ rs) (second_is texts (p + 1) parts)

-- what is kept of an ampersand is an ampersand
ampersand_ascii : IsAscii (38 ∷ [])
ampersand_ascii zero = omega arith
ampersand_ascii (suc i) = omega arith

ampersand_shown : utf8_lossy (38 ∷ []) ≡ 38 ∷ []
ampersand_shown = utf8_lossy-IsUtf8 (38 ∷ []) (IsUtf8-from_ascii (38 ∷ []) ampersand_ascii)

leaf_alike : (all others texts rest : List ℕ) (c : ℕ) → all ≡ (texts ++ kept_text (c == 38)) ++ rest → leaf_of all (kept_leaf (c == 38) texts c) ≡ leaf_of others (Character c)
unfolding leaf_of lib.Utf8.encode
leaf_alike all others texts rest c e = by (c == 38) refl e
  where
    by : (x : Bool) → (c == 38) ≡ x → all ≡ (texts ++ kept_text x) ++ rest → leaf_of all (kept_leaf x texts c) ≡ leaf_of others (Character c)
    by true k f =
        let there : all ≡ texts ++ 38 ∷ rest = f ∙ append_assoc texts (38 ∷ []) rest in
        let between : bytes_between all (length texts) (length (texts ++ 38 ∷ [])) ≡ 38 ∷ [] =
        piece_between all texts (38 ∷ []) rest (length texts) (length (texts ++ 38 ∷ [])) there refl (length-append texts (38 ∷ []))
        in
        ap (λ (t : List ℕ). view.Text (utf8_lossy t)) between
        ∙ ap (λ (t : List ℕ). view.Text t) ampersand_shown
        ∙ ap (λ x. leaf_of others (Character x)) (sym (eq_of c 38 k))
    by false k f = refl

plain_alike : (all others xs : List ℕ) (ps : List Pair) → AllByRecursion (IsAlike all others) ps → AllByRecursion (IsAlike all others) (replicate (length xs) Goes ++ ps)
plain_alike all others [] ps h = h
plain_alike all others (x ∷ xs) ps h = (tt, plain_alike all others xs ps h)

pairs_alike : (all others texts : List ℕ) (p : ℕ) (parts : List Part) → all ≡ texts ++ kept_texts parts → AllByRecursion (IsAlike all others) (pairs texts p parts)
unfolding leaf_of
pairs_alike all others texts p [] e = tt
pairs_alike all others texts p (Bare b ∷ parts) e = (tt, pairs_alike all others texts (p + 1) parts e)
pairs_alike all others texts p (Escaped b ∷ parts) e = (tt, (tt, pairs_alike all others texts (p + 2) parts e))
pairs_alike all others texts p (Referred c bs ∷ parts) e =
    let there : all ≡ (texts ++ kept_text (c == 38)) ++ kept_texts parts = e ∙ sym (append_assoc texts (kept_text (c == 38)) (kept_texts parts)) in
    (leaf_alike all others texts (kept_texts parts) c there, plain_alike all others bs _ (pairs_alike all others (texts ++ kept_text (c == 38)) (p + suc (length bs)) parts there))
pairs_alike all others texts p (Feed ∷ parts) e = (refl, pairs_alike all others texts (p + 1) parts e)

-- the nodes of parts, with what each reader keeps
pub nodes_alike : (texts others : List ℕ) (targets more : List Target) (parts : List Part) (places : List (ℕ × ℕ)) (depth : ℕ) → length (spelled parts) < 2 ^ 64
    → map (inline_node (texts ++ kept_texts parts) targets) (map (w.moved places) (w.written (named_roles texts 0 parts) depth)) ≡ map (inline_node others more) (map (w.moved places) (nodes_of depth 0 None parts))
nodes_alike texts others targets more parts places depth fits =
    let all : List ℕ = texts ++ kept_texts parts in
    let ps : List Pair = pairs texts 0 parts in
    let alike : map (inline_node all targets) (w.written (map first ps) depth) ≡ map (inline_node others more) (w.written (map second ps) depth) =
    same_written all others targets more ps depth (pairs_alike all others texts 0 parts refl)
    in
    same_moved all others targets more places (w.written (named_roles texts 0 parts) depth) (nodes_of depth 0 None parts)
    (ap (λ rs. map (inline_node all targets) (w.written rs depth)) (sym (first_is texts 0 parts))
    ∙ alike
    ∙ ap (λ rs. map (inline_node others more) (w.written rs depth)) (second_is texts 0 parts)
    ∙ ap (map (inline_node others more)) (written_parts parts depth fits))
