use Rattle.std.proofs.Common.{rules, ◌≡◌, ◌∙◌, ◌||◌, ap, arith, bytes_eq, get_or, refl, string_bytes, subst, sym, take, true≢false, List, ℕ, Bool, true, false}
use Rattle.std.specs.HashSet.{contains_text}
use Rattle.std.specs.List.{list_any}
use Rattle.std.proofs.lemmas.List.{take_all}
use Rattle.std.proofs.lemmas.List.Folds.{list_any_at, list_any_more}
use Rattle.std.proofs.lemmas.Map.Text.{hash_set_updates_text}
use Rattle.tocmark_rewrite.proofs.LabelLists.{any-map, either, or-cond, same-bytes, is-itself}
use Rattle.tocmark_rewrite.proofs.labels.has_all.Goals as goal

pub loop-label-preserved : goal.loop-label-preserved
loop-label-preserved c = λ q.
    let copied : string_bytes c.in_ok-clone.field-0 ≡ string_bytes (get_or c.args.others.now c.loop-label.label-index c.label-item.result) = search rules in
    let put = hash_set_updates_text (string_bytes c.in_ok-clone.field-0) c.loop-label.known c.insert.new.self _ c.in_ok-insert.ensures.updates q in
    let more = list_any_more (λ s. bytes_eq (string_bytes s) q) c.args.others.now c.loop-label.label-index c.label-item.result (omega (arith, c.loop-label-test.true)) in
    put
    ∙ or-cond (bytes_eq (string_bytes c.in_ok-clone.field-0) q) (contains_text c.loop-label.known q)
    ∙ ap (λ (b : Bool). b || bytes_eq (string_bytes c.in_ok-clone.field-0) q) (c.loop-label.invariant q)
    ∙ ap (λ (bs : List ℕ). list_any (λ s. bytes_eq (string_bytes s) q) (take c.loop-label.label-index c.args.others.now) || bytes_eq bs q) copied
    ∙ sym more

pub returns-then-not-contains : goal.returns-then-not-contains
returns-then-not-contains c =
    let w : List ℕ = string_bytes c.label-item-in-loop-label-2.result in
    let none : contains_text c.loop-label.known (string_bytes c.label-item-in-loop-label-2.result) ≡ false = search rules in
    let here : string_bytes c.label-item-in-loop-label-2.result ≡ string_bytes (get_or c.args.labels.now c.loop-label-2.label-index c.label-item-in-loop-label-2.result) = ap string_bytes c.label-item-in-loop-label-2.is in
    let inside : list_any (λ s. bytes_eq (string_bytes s) w) c.args.labels.now ≡ true = list_any_at (λ s. bytes_eq (string_bytes s) w) c.args.labels.now c.loop-label-2.label-index c.label-item-in-loop-label-2.result (omega (arith, c.loop-label-2-test.true)) (is-itself _ w (sym here)) in (
      λ t. absurd (true≢false (sym t)),
      λ among. absurd (true≢false (sym (
          c.loop-label-2.invariant.known w ∙ sym (any-map (λ other. bytes_eq other w) string_bytes c.args.others.now) ∙ among w (any-map (λ other. bytes_eq other w) string_bytes c.args.labels.now ∙ inside)) ∙ none)),
    )

pub loop-label-2-preserved : goal.loop-label-2-preserved
loop-label-2-preserved c =
    let w : List ℕ = string_bytes c.label-item-in-loop-label-2.result in
    let yes : contains_text c.loop-label.known (string_bytes c.label-item-in-loop-label-2.result) ≡ true = search rules in
    record {
      known = c.loop-label-2.invariant.known;
      found = λ q h.
          let more = list_any_more (λ s. bytes_eq (string_bytes s) q) c.args.labels.now c.loop-label-2.label-index c.label-item-in-loop-label-2.result (omega (arith, c.loop-label-2-test.true)) in
          either (list_any (λ s. bytes_eq (string_bytes s) q) (take c.loop-label-2.label-index c.args.labels.now)) (bytes_eq (string_bytes (get_or c.args.labels.now c.loop-label-2.label-index c.label-item-in-loop-label-2.result)) q) _ (sym more ∙ h)
          (λ early. c.loop-label-2.invariant.found q early)
          (λ now. subst (λ (bs : List ℕ). contains_text c.loop-label.known bs ≡ true) (ap string_bytes c.label-item-in-loop-label-2.is ∙ same-bytes _ q now) yes);
    }

pub returns : goal.returns
returns c = (
  λ _ label h.
      let inside : list_any (λ s. bytes_eq (string_bytes s) label) c.args.labels.now ≡ true = sym (any-map (λ other. bytes_eq other label) string_bytes c.args.labels.now) ∙ h in
      let there = c.loop-label-2.invariant.found label (ap (list_any (λ s. bytes_eq (string_bytes s) label)) (take_all c.loop-label-2.label-index c.args.labels.now (omega (arith, c.loop-label-2-test.false))) ∙ inside) in
      any-map (λ other. bytes_eq other label) string_bytes c.args.others.now ∙ sym (c.loop-label-2.invariant.known label) ∙ there,
  λ _. refl,
)
