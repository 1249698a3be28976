use Rattle.std.proofs.Common.{◌≡◌, ◌∙◌, All, ap, map, string_bytes, subst, List, ℕ, Option}
use Rattle.std.specs.Prelude.{IfNone}
use Rattle.tocmark_reader.specs.Definitions.{SaidDefinition, said_view}
use Rattle.tocmark_redefine.specs.Followed.{definitions_under}
use Rattle.tocmark_redefine.specs.Redefined.{AreRedefined, IsAsked}
use Rattle.tocmark_redefine.proofs.redefining.with_changes.Goals as goal

pub returns-then-branch-clause-redefined : goal.returns-then-branch-clause-redefined
returns-then-branch-clause-redefined c =
    let flags = c.args.flags in
    let changes = c.args.changes.now in
    let source = c.args.source.now in
    let text : List ℕ = string_bytes c.in-Some.text in
    let news : map said_view c.in_ok-news.news.items ≡ definitions_under flags text = c.in_ok-news.ensures.exact ∙ ap (definitions_under flags) c.as_str.ensures.value in
    let said : AreRedefined changes (map said_view c.deref-3.result.now) (map said_view c.deref-4.result.now) =
    subst (λ (o : Option ℕ). IfNone o (AreRedefined changes (map said_view c.deref-3.result.now) (map said_view c.deref-4.result.now))) c.in-None.is c.in_ok-number.ensures in
    record {
      definitions =
          subst (λ (ds : List SaidDefinition). AreRedefined changes (definitions_under flags source) ds) (ap (map said_view) c.deref-4.ensures.value ∙ news)
          (subst (λ (ds : List SaidDefinition). AreRedefined changes ds (map said_view c.deref-4.result.now)) (ap (map said_view) c.deref-3.ensures.value ∙ c.in_ok-olds.ensures.exact) said);
      events = c.in_ok-is_followed.ensures c.if-branch.true;
      bytes = record {
        patches = c.in_ok-patches.patches.items;
        are_asked = subst (λ (ds : List SaidDefinition). All (IsAsked ds changes) c.in_ok-patches.patches.items) (ap (map said_view) c.deref.ensures.value ∙ c.in_ok-olds.ensures.exact) c.in_ok-patches.ensures;
        are_apart = rw (c.in-Some.is, c.deref-2.ensures.value) at c.in_ok-text.ensures.apart;
        is_patched = rw (c.in-Some.is, c.deref-2.ensures.value) at c.in_ok-text.ensures.bytes;
      };
    }
