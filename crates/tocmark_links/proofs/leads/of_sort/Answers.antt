use Rattle.std.proofs.Common.{◌≡◌, ◌<◌, ◌+◌, ◌++◌, ◌∷◌, ◌∙◌, ℕ, List, [], ap, sym, arith, drop, get_or, length}
use Rattle.std.proofs.lemmas.List.{map-append}
use Rattle.std.specs.Borrow.{Bor}
use Rattle.tocmark_links.specs.Leads.{is_of_sort, of_sort}
use Rattle.tocmark_links.proofs.Redirecting.{texts, one-taken, one-left, all-sorted}
use Rattle.tocmark_links.proofs.leads.of_sort.Goals as goal
use Rattle.tocmark_links.proofs.leads.of_sort.Goals.{then-is_of_sort+in_ok-push, else-is_of_sort}

pub loop-i-preserved : goal.loop-i-preserved
loop-i-preserved c =
    let d : Bor (List ℕ) = record { ref_ptr = (0, 0); now = [] } in
    let s = c.args.is_definition in
    let links = c.args.links.now in
    let all = c.args.destinations.now in
    let i = c.loop-i.i in
    let l = c.index-links-i.result in
    let whole = of_sort s links (texts all) in
    let rest = of_sort s (drop (i + 1) links) (texts (drop (i + 1) all)) in
    let a : i < length links = omega (arith, c.min-count.ensures, c.loop-i-test.true) in
    let b : i < length all = omega (arith, c.min-count.ensures, c.loop-i-test.true) in
    let kind : c.is_of_sort.result ≡ is_of_sort s l.kind = c.is_of_sort.ensures ∙ sym (ap (λ y. is_of_sort s y.kind) c.index-links-i.is) in
    elim c.if-is_of_sort.branch [
      | then-is_of_sort+in_ok-push w ↦
          ap (λ v. texts v.items ++ rest) w.all-is
          ∙ ap (λ xs. texts xs ++ rest) w.in_ok-push.ensures.items
          ∙ ap (λ xs. xs ++ rest) (map-append (λ x. x.now) c.loop-i.all.items (get_or all i d ∷ []))
          ∙ one-taken s links all i l d (texts c.loop-i.all.items) whole a b c.index-links-i.is c.loop-i.invariant (sym kind ∙ w.if-is_of_sort.true)
      | else-is_of_sort w ↦
          ap (λ v. texts v.items ++ rest) w.all-is
          ∙ one-left s links all i l d (texts c.loop-i.all.items) whole a b c.index-links-i.is c.loop-i.invariant (sym kind ∙ w.if-is_of_sort.false)
    ]

pub returns : goal.returns
returns c =
    all-sorted c.args.is_definition c.args.links.now c.args.destinations.now c.loop-i.i _ _ (omega (arith, c.min-count.ensures, c.loop-i-test.false)) c.loop-i.invariant
