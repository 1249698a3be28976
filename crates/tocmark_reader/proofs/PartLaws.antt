-- Each part of a reading that is handed out is balanced, since the whole and what is left are.
use Rattle.std.proofs.Common.{◌≡◌, ℕ, List, [], ◌∷◌, ◌++◌, drop, map, refl, ap, sym, subst, ◌∙◌}
use Rattle.std.specs.List.{fold}
use Rattle.tocmark_event.specs.Forest.{IsBalanced}
use Rattle.tocmark_event.specs.View.{EventView, Start, End, Leaf}
use Rattle.tocmark_event.specs.declared.event.TagEnd.{TagEnd}
use Rattle.tocmark_reader.specs.declared.block_reading.BlockReading.{BlockReading}
use Rattle.tocmark_reader.specs.declared.emit.Open.{Open}
use Rattle.tocmark_reader.specs.Emitted.{NodeView, closed, emitted, shown, step}
use Rattle.tocmark_reader.specs.Left.{IsBetweenTrees, reading_left}
use Rattle.tocmark_reader.proofs.BlocksLeft.{nodes_left, writing}
use Rattle.tocmark_reader.proofs.EmitLaws.{Leads, leads_closed, leads_fold, levels, unplaced}

abbrev Marked : Type 0
Marked = EventView × (ℕ × ℕ)

-- events lead from containers to containers also where others are open round them
leads_within : (a b s : List TagEnd) (es : List Marked) → Leads a es b → Leads (a ++ s) es (b ++ s)
leads_within a b s [] h = ap (λ l. l ++ s) h
leads_within a b s ((Start t, r) ∷ es) h = (h.0 ++ s, ap (λ l. l ++ s) h.1, leads_within h.0 b s es h.2)
leads_within a b s ((End k, r) ∷ es) h = (h.0 ++ s, ap (λ l. l ++ s) h.1, leads_within h.0 b s es h.2)
leads_within a b s ((Leaf l, r) ∷ es) h = (h.0 ++ s, ap (λ l. l ++ s) h.1, leads_within h.0 b s es h.2)

-- they lead to one place alone
leads_same : (a b c : List TagEnd) (es : List Marked) → Leads a es b → Leads a es c → b ≡ c
leads_same a b c [] h k = sym h ∙ k
leads_same a b c ((Start t, r) ∷ es) h k = leads_same h.0 b c es h.2 (subst (λ (l : List TagEnd). Leads l es c) (k.1 ∙ sym h.1) k.2)
leads_same a b c ((End e, r) ∷ es) h k = leads_same h.0 b c es h.2 (subst (λ (l : List TagEnd). Leads l es c) (ap (drop 1) (sym k.1 ∙ h.1)) k.2)
leads_same a b c ((Leaf l, r) ∷ es) h k = leads_same h.0 b c es h.2 (subst (λ (l : List TagEnd). Leads l es c) (sym k.1 ∙ h.1) k.2)

leads_split : (a c : List TagEnd) (xs ys : List Marked) → Leads a (xs ++ ys) c → (b : List TagEnd) × Leads a xs b × Leads b ys c
leads_split a c [] ys h = (a, refl, h)
leads_split a c (x ∷ xs) ys h = let rest = leads_split h.0 c xs ys h.2 in (rest.0, (h.0, h.1, rest.1), rest.2)

balanced_front : (xs ys : List Marked) → Leads [] (xs ++ ys) [] → Leads [] ys [] → IsBalanced (unplaced xs)
balanced_front xs ys h k =
    let parts = leads_split [] [] xs ys h in
    let none : parts.0 ≡ [] = leads_same parts.0 parts.0 [] ys (leads_within [] [] parts.0 ys k) parts.2 in
    levels [] xs (subst (λ (l : List TagEnd). Leads [] xs l) none parts.1)

emitted_leads : (text : List ℕ) (nodes : List NodeView) → Leads [] (emitted text nodes) []
emitted_leads text nodes = leads_closed 0 (fold (step text) (writing [] []) nodes) (leads_fold text nodes (writing [] []) refl)

-- between two trees what is left is what the nodes of the blocks that are left come to
left_emitted : (r : BlockReading) → IsBetweenTrees r → (reading_left r).events ≡ emitted r.text (nodes_left r).nodes
left_emitted r h =
    let text : List ℕ = r.text in
    let nodes : List NodeView = (nodes_left r).nodes in
    ap (λ (s : List Open). (closed 0 (fold (step text) (writing s (map shown r.assembly.emission.events.items)) nodes)).events) h.stack
    ∙ ap (λ es. (closed 0 (fold (step text) (writing [] (map shown es)) nodes)).events) h.events

pub part_balanced : (old new : BlockReading) (part : List Marked) → IsBetweenTrees old → IsBetweenTrees new → (reading_left old).events ≡ part ++ (reading_left new).events → IsBalanced (map (λ e. e.0) part)
part_balanced old new part before after is =
    balanced_front part (reading_left new).events
    (subst (λ (es : List Marked). Leads [] es []) (sym (left_emitted old before) ∙ is) (emitted_leads old.text (nodes_left old).nodes))
    (subst (λ (es : List Marked). Leads [] es []) (sym (left_emitted new after)) (emitted_leads new.text (nodes_left new).nodes))
