-- The second pass over the roles of parts that are read as they are meant: the nodes of their texts, characters and breaks.
use Rattle.std.proofs.Common.{◌≡◌, ℕ, zero, suc, ◌+◌, ◌-◌, ◌^◌, ◌<◌, ◌≤◌, true, false, nat_le, List, [], ◌∷◌, ◌++◌, length, replicate, Option, Some, None, refl, ap, sym, ◌∙◌, arith, append_assoc, append-nil, length-append}
use Rattle.std.proofs.lemmas.Bool.Decides.{nat_tests}
use Rattle.std.specs.List.{fold}
use Rattle.std.proofs.lemmas.List.Sums.{fold-append}
use Rattle.tocmark_read_scan.specs.Basic.{plus}
use Rattle.tocmark_read_inlines.specs.Write as w
use Rattle.tocmark_read_spans.specs.declared.role.Role.{Role}
use Rattle.tocmark_read_spans.specs.declared.role.Role.TheVariants.{Plain, Hidden, Fresh, Single}
use Rattle.tocmark_read_spans.specs.declared.role.Leaf.{Leaf}
use Rattle.tocmark_read_spans.specs.declared.role.Leaf.TheVariants.{Character, SoftBreak}
use Rattle.tocmark_read_inlines.specs.declared.write.Node.{Node}
use Rattle.tocmark_read_inlines.specs.declared.write.InlineKind.{InlineKind}
use Rattle.tocmark_read_inlines.specs.declared.write.InlineKind.TheVariants as item
use Rattle.tocmark_read_inlines.proofs.PlainPasses.{roles, roles_one}
use Rattle.tocmark_read_scan.specs.PlainParts.{Part, Bare, Escaped, Referred, Feed, spelled_part, spelled}

abbrev pub node : ℕ → InlineKind → ℕ → ℕ → Node
node depth i start end = record { depth = depth; item = i; start = start; end = end }

-- the text that is open ends
abbrev pub text_until : ℕ → Option ℕ → ℕ → List Node
text_until depth None p = []
text_until depth (Some start) p = node depth item.Text start p ∷ []

-- where the open text began
abbrev pub begun : Option ℕ → ℕ → ℕ
begun None p = p
begun (Some start) p = start

-- the nodes of parts from a place on, where a text may be open
abbrev pub nodes_of : ℕ → ℕ → Option ℕ → List Part → List Node
nodes_of d p o [] = text_until d o p
nodes_of d p o (Bare b ∷ parts) = nodes_of d (p + 1) (Some (begun o p)) parts
nodes_of d p o (Escaped b ∷ parts) = text_until d o p ++ nodes_of d (p + 2) (Some (p + 1)) parts
nodes_of d p o (Referred c bs ∷ parts) = text_until d o p ++ node d (item.Leaf (Character c)) p (p + 1 + length bs) ∷ nodes_of d (p + suc (length bs)) None parts
nodes_of d p o (Feed ∷ parts) = text_until d o p ++ node d (item.Leaf SoftBreak) p (p + 1) ∷ nodes_of d (p + 1) None parts

abbrev at : List Node → ℕ → Option ℕ → ℕ → ℕ → w.State
at ns d o p r = record { nodes = ns; depth = d; text = o; place = p; resume = r }

flush_to : (ns : List Node) (d : ℕ) (o : Option ℕ) (p r : ℕ) → w.flushed (at ns d o p r) ≡ at (ns ++ text_until d o p) d None p r
unfolding w.flushed w.pushed
flush_to ns d None p r = ap (λ (x : List Node). at x d None p r) (sym (append-nil ns))
flush_to ns d (Some start) p r = refl

step_at : (role : Role) (t : w.State) → t.resume ≤ t.place → w.role_step t role ≡ w.next_place (w.shown role t)
unfolding w.role_step
step_at role t h =
    let yes : nat_le t.resume t.place ≡ true = grind (arith, nat_tests) in
    rw yes refl

skip_plain : (n : ℕ) (t : w.State) → t.place + n ≤ t.resume → t.place + n < 2 ^ 64 → fold w.role_step t (replicate n Plain) ≡ record t { place = t.place + n }
unfolding w.role_step
skip_plain zero t h fits = ap (λ p. record t { place = p }) (let q : t.place ≡ t.place + 0 = omega arith in q)
skip_plain (suc n) t h fits =
    let no : nat_le t.resume t.place ≡ false = grind (arith, nat_tests) in
    let same : plus t.place 1 + n ≡ t.place + suc n = omega arith in
    let one : w.role_step t Plain ≡ w.next_place t = rw no refl in
    ap (λ (u : w.State). fold w.role_step u (replicate n Plain)) one
    ∙ skip_plain n (w.next_place t) (omega arith) (omega arith)
    ∙ ap (λ p. record t { place = p }) same

write_bare : (ns : List Node) (d : ℕ) (o : Option ℕ) (p r : ℕ) → r ≤ p → p + 1 < 2 ^ 64 → w.role_step (at ns d o p r) Plain ≡ at ns d (Some (begun o p)) (p + 1) r
unfolding w.shown
write_bare ns d None p r h fits = let next : plus p 1 ≡ p + 1 = omega arith in step_at Plain (at ns d None p r) h ∙ ap (λ k. at ns d (Some p) k r) next
write_bare ns d (Some start) p r h fits = let next : plus p 1 ≡ p + 1 = omega arith in step_at Plain (at ns d (Some start) p r) h ∙ ap (λ k. at ns d (Some start) k r) next

write_escaped : (ns : List Node) (d : ℕ) (o : Option ℕ) (p r : ℕ) → r ≤ p → p + 2 < 2 ^ 64 → fold w.role_step (at ns d o p r) (Hidden ∷ Fresh ∷ []) ≡ at (ns ++ text_until d o p) d (Some (p + 1)) (p + 2) r
unfolding w.shown w.flushed
write_escaped ns d o p r h fits =
    let next : plus p 1 ≡ p + 1 = omega arith in
    let two : plus (p + 1) 1 ≡ p + 2 = omega arith in
    let first : w.role_step (at ns d o p r) Hidden ≡ at (ns ++ text_until d o p) d None (p + 1) r =
    step_at Hidden (at ns d o p r) h ∙ ap (λ (u : w.State). w.next_place u) (flush_to ns d o p r) ∙ ap (λ k. at (ns ++ text_until d o p) d None k r) next
    in
    ap (λ (u : w.State). w.role_step u Fresh) first
    ∙ step_at Fresh (at (ns ++ text_until d o p) d None (p + 1) r) (omega arith)
    ∙ ap (λ k. at (ns ++ text_until d o p) d (Some (p + 1)) k r) two

write_single : (ns : List Node) (d : ℕ) (o : Option ℕ) (p r : ℕ) (l : Leaf) (n : ℕ) → r ≤ p → p + suc n < 2 ^ 64 → fold w.role_step (at ns d o p r) (Single l (p + 1 + n) ∷ replicate n Plain) ≡ at (ns ++ (text_until d o p ++ node d (item.Leaf l) p (p + 1 + n) ∷ [])) d None (p + suc n) (p + 1 + n)
unfolding w.shown w.single w.pushed
write_single ns d o p r l n h fits =
    let next : plus p 1 ≡ p + 1 = omega arith in
    let end : p + 1 + n ≡ p + suc n = omega arith in
    let made : List Node = ns ++ (text_until d o p ++ node d (item.Leaf l) p (p + 1 + n) ∷ []) in
    let first : w.role_step (at ns d o p r) (Single l (p + 1 + n)) ≡ at made d None (p + 1) (p + 1 + n) =
    step_at (Single l (p + 1 + n)) (at ns d o p r) h
    ∙ ap (λ (u : w.State). w.next_place (w.resumed (p + 1 + n) (w.pushed (item.Leaf l) u.place (p + 1 + n) u))) (flush_to ns d o p r)
    ∙ ap (λ (x : List Node). at x d None (plus p 1) (p + 1 + n)) (append_assoc ns (text_until d o p) (node d (item.Leaf l) p (p + 1 + n) ∷ []))
    ∙ ap (λ k. at made d None k (p + 1 + n)) next
    in
    ap (λ (u : w.State). fold w.role_step u (replicate n Plain)) first
    ∙ skip_plain n (at made d None (p + 1) (p + 1 + n)) (omega arith) (omega arith)
    ∙ ap (λ k. at made d None k (p + 1 + n)) end

-- all nodes of a list of roles from a state on
abbrev ended : w.State → List Role → List Node
ended t rs = (w.flushed (fold w.role_step t rs)).nodes

split : (t u : w.State) (xs ys : List Role) → fold w.role_step t xs ≡ u → ended t (xs ++ ys) ≡ ended u ys
split t u xs ys e = ap (λ (v : w.State). (w.flushed v).nodes) (fold-append w.role_step t xs ys ∙ ap (λ (v : w.State). fold w.role_step v ys) e)

-- the second pass over the roles of parts
pub write_parts : (parts : List Part) (ns : List Node) (d : ℕ) (o : Option ℕ) (p r : ℕ) → r ≤ p → p + length (spelled parts) < 2 ^ 64 → ended (at ns d o p r) (roles p parts) ≡ ns ++ nodes_of d p o parts
write_parts [] ns d o p r h fits = ap (λ (u : w.State). u.nodes) (flush_to ns d o p r)
write_parts (Bare b ∷ parts) ns d o p r h fits =
    split (at ns d o p r) _ (Plain ∷ []) (roles (p + 1) parts) (write_bare ns d o p r h (omega arith))
    ∙ write_parts parts ns d (Some (begun o p)) (p + 1) r (omega arith) (omega arith)
write_parts (Escaped b ∷ parts) ns d o p r h fits =
    split (at ns d o p r) _ (Hidden ∷ Fresh ∷ []) (roles (p + 2) parts) (write_escaped ns d o p r h (omega arith))
    ∙ write_parts parts (ns ++ text_until d o p) d (Some (p + 1)) (p + 2) r (omega arith) (omega arith)
    ∙ append_assoc ns (text_until d o p) (nodes_of d (p + 2) (Some (p + 1)) parts)
write_parts (Referred c bs ∷ parts) ns d o p r h fits =
    let width : length (spelled_part (Referred c bs) ++ spelled parts) ≡ suc (length bs) + length (spelled parts) = length-append (spelled_part (Referred c bs)) (spelled parts) in
    let one : Node = node d (item.Leaf (Character c)) p (p + 1 + length bs) in
    split (at ns d o p r) _ (roles_one p (Referred c bs)) (roles (p + suc (length bs)) parts) (write_single ns d o p r (Character c) (length bs) h (omega (arith, width, fits)))
    ∙ write_parts parts (ns ++ (text_until d o p ++ one ∷ [])) d None (p + suc (length bs)) (p + 1 + length bs) (omega arith) (omega (arith, width, fits))
    ∙ append_assoc ns (text_until d o p ++ one ∷ []) (nodes_of d (p + suc (length bs)) None parts)
    ∙ ap (λ (x : List Node). ns ++ x) (append_assoc (text_until d o p) (one ∷ []) (nodes_of d (p + suc (length bs)) None parts))
write_parts (Feed ∷ parts) ns d o p r h fits =
    let one : Node = node d (item.Leaf SoftBreak) p (p + 1) in
    let zero : p + 1 + 0 ≡ p + 1 = omega arith in
    split (at ns d o p r) _ (roles_one p Feed) (roles (p + 1) parts)
    (ap (λ k. fold w.role_step (at ns d o p r) (Single SoftBreak k ∷ [])) (sym zero) ∙ write_single ns d o p r SoftBreak 0 h (omega arith) ∙ ap (λ k. at (ns ++ (text_until d o p ++ node d (item.Leaf SoftBreak) p k ∷ [])) d None (p + 1) k) zero)
    ∙ write_parts parts (ns ++ (text_until d o p ++ one ∷ [])) d None (p + 1) (p + 1) (omega arith) (omega arith)
    ∙ append_assoc ns (text_until d o p ++ one ∷ []) (nodes_of d (p + 1) None parts)
    ∙ ap (λ (x : List Node). ns ++ x) (append_assoc (text_until d o p) (one ∷ []) (nodes_of d (p + 1) None parts))

-- the nodes of a text of parts
pub written_parts : (parts : List Part) (depth : ℕ) → length (spelled parts) < 2 ^ 64 → w.written (roles 0 parts) depth ≡ nodes_of depth 0 None parts
unfolding w.written
written_parts parts depth fits = write_parts parts [] depth None 0 0 (omega arith) (omega arith)
