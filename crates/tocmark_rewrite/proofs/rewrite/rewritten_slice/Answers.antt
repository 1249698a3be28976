use Rattle.std.proofs.Common.{◌≡◌, ◌∙◌, ℕ, List, ap, ap₂, map, refl, string_bytes, subst, sym}
use Rattle.std.specs.List.{All}
use Rattle.tocmark_event.specs.Merged.{merged}
use Rattle.tocmark_event.specs.Reading.{ReadingView}
use Rattle.tocmark_event.specs.Text.{ParserEvent}
use Rattle.tocmark_event.specs.View.{EventView}
use Rattle.tocmark_compare.specs.Given.{given_events}
use Rattle.tocmark_rewrite.specs.Edited.{read_source}
use Rattle.tocmark_rewrite.specs.Kept.{AreCopied, IsFrom, IsHonest, IsTold, ReadSource, planned_span}
use Rattle.tocmark_rewrite.specs.Trees.{ranges_of, spans_of, trees_of}
use Rattle.tocmark_rewrite.specs.declared.plan.Plan.{Plan}
use Rattle.tocmark_rewrite.specs.declared.trees.Block.{Block}
use Rattle.tocmark_rewrite.proofs.Copied.{all-copied}
use Rattle.tocmark_rewrite.proofs.Honest.{all-honest}
use Rattle.tocmark_rewrite.proofs.Readings.{found-alike, ranges-alike}
use Rattle.tocmark_rewrite.proofs.Spans.{all-spans}
use Rattle.tocmark_rewrite.proofs.rewrite.rewritten_slice.Goals as goal

pub new_text-requires : goal.new_text-requires
new_text-requires g c = record {
  found = found-alike c.in_ok-reading.reading _ _ c.in_ok-reading.ensures c.deref-4.ensures.value;
  defined = ap (map string_bytes) c.deref-5.ensures.value ∙ ap (λ (r : ReadingView). r.defined) c.in_ok-reading.ensures;
}

pub returns-clause-trees : goal.returns-clause-trees
returns-clause-trees g c =
    c.in_ok-answer.ensures.trees
    ∙ ap (map planned_span) c.deref-7.ensures.value
    ∙ all-spans (ranges_of c.args.events.now) (spans_of (given_events c.args.events.now)) c.in_ok-plans.plans.items c.in_ok-plans.ensures.trees

pub returns-clause-kept : goal.returns-clause-kept
returns-clause-kept g c =
    let given : List EventView = given_events c.args.events.now in
    let es : List (ParserEvent × (ℕ × ℕ)) = c.in_ok-reading.reading.events.items in
    let bs : List Block = c.in_ok-blocks.blocks.items in
    let ps : List Plan = c.in_ok-plans.plans.items in
    let r : ReadSource = record { source = c.args.source.now; found = given_events es; ranges = ranges_of es } in
    let from : All (IsFrom (given_events es) given bs) ps =
    subst (λ (b : List Block). All (IsFrom (given_events es) given b) ps) c.deref-3.ensures.value
    (subst (λ (xs : List (ParserEvent × (ℕ × ℕ))). All (IsFrom (given_events xs) given c.deref-3.result.now) ps) c.deref-2.ensures.value c.in_ok-plans.ensures.kept) in
    let are : map (λ (b : Block). b.tree) bs ≡ trees_of (given_events es) (ranges_of es) =
    c.in_ok-blocks.ensures.trees ∙ ap (λ (xs : List (ParserEvent × (ℕ × ℕ))). trees_of (given_events xs) (ranges_of xs)) c.deref.ensures.value in
    let honest : All (IsHonest r given) ps = all-honest r given (spans_of (given_events es)) bs ps are c.in_ok-blocks.ensures.lines from in
    let told = c.in_ok-answer.ensures.told r given (subst (All (IsHonest r given)) (sym c.deref-7.ensures.value) honest) in
    let read : r ≡ read_source (λ (text : List ℕ). g.R.Reader.reading c.args.reader.now text c.args.flags) c.args.source.now =
    ap₂ (λ (f : List EventView) (rs : List (ℕ × ℕ)). (let s : ReadSource = record { source = c.args.source.now; found = f; ranges = rs } in s))
    (found-alike c.in_ok-reading.reading _ _ c.in_ok-reading.ensures refl)
    (ranges-alike c.in_ok-reading.reading _ _ c.in_ok-reading.ensures refl) in
    subst (λ (s : ReadSource). All (IsTold s given c.in_ok-answer.field-0.parts.items) c.in_ok-answer.field-0.trees.items) read told

pub returns-clause-all : goal.returns-clause-all
returns-clause-all g c = λ alike ranges.
    let given : List EventView = given_events c.args.events.now in
    let es : List (ParserEvent × (ℕ × ℕ)) = c.in_ok-reading.reading.events.items in
    let bs : List Block = c.in_ok-blocks.blocks.items in
    let ps : List Plan = c.in_ok-plans.plans.items in
    let from : All (IsFrom (given_events es) given bs) ps =
    subst (λ (b : List Block). All (IsFrom (given_events es) given b) ps) c.deref-3.ensures.value
    (subst (λ (xs : List (ParserEvent × (ℕ × ℕ))). All (IsFrom (given_events xs) given c.deref-3.result.now) ps) c.deref-2.ensures.value c.in_ok-plans.ensures.kept) in
    let are : map (λ (b : Block). b.tree) c.deref-3.result.now ≡ trees_of (given_events c.deref-2.result.now) (ranges_of c.deref-2.result.now) =
    ap (map (λ (b : Block). b.tree)) c.deref-3.ensures.value
    ∙ c.in_ok-blocks.ensures.trees
    ∙ ap (λ (xs : List (ParserEvent × (ℕ × ℕ))). trees_of (given_events xs) (ranges_of xs)) (c.deref.ensures.value ∙ sym c.deref-2.ensures.value) in
    let kept = c.in_ok-plans.ensures.all are
    (alike ∙ sym (found-alike c.in_ok-reading.reading _ _ c.in_ok-reading.ensures c.deref-2.ensures.value))
    (ranges ∙ sym (ranges-alike c.in_ok-reading.reading _ _ c.in_ok-reading.ensures c.deref-2.ensures.value)) in
    let whole = c.in_ok-output.ensures.unchanged (ap merged alike) in
    let copied = all-copied c.args.source.now c.in_ok-output.output.parts.items bs (given_events es) given ps whole.1 c.in_ok-blocks.ensures.lines from kept in
    c.in_ok-answer.ensures.all (subst (λ (xs : List Plan). AreCopied c.in_ok-output.output.parts.items xs) (sym c.deref-7.ensures.value) copied)

pub returns-clause-unchanged : goal.returns-clause-unchanged
returns-clause-unchanged g c = λ same. c.in_ok-answer.ensures.text.0 ∙ (c.in_ok-output.ensures.unchanged same).0
