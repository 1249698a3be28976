use Rattle.std.proofs.Common.{◌≡◌, ◌∷◌, ◌&&◌, Bool, List, Some, if◌then◌else◌, true, false, ap, is_ok, rules, string_bytes, subst, sym, ◌∙◌, ℕ}
use Rattle.std.proofs.lemmas.Result.{err_from_is_err_and}
use Rattle.serde_json.proofs.Views.{Entry, view-Object}
use Rattle.serde_json.specs.Data.{put}
use Rattle.serde_json.specs.Find.{as_object}
use Rattle.serde_json.specs.View.{members_view, view}
use Rattle.tocmark_event.specs.Options.{default_options, options_view}
use Rattle.tocmark_documents.specs.Options.{NamesKey, are_options, first_wrong, is_option, is_options_object, options_members, put_all}
use Rattle.tocmark_documents.proofs.WrongKeys.{names_first}
use Rattle.tocmark_documents.proofs.option_values.options_from_json.Goals as goal

pub loop-key-preserved : goal.loop-key-preserved
loop-key-preserved c =
    let left = c.next.new.self in
    let found = options_members (options_view c.loop-key.options) in
    let step : c.loop-key.key-iterator ≡ (c.in-Some.key.now, c.in-Some.value.now) ∷ left = c.in-Some.ensures.steps in
    let is_set : put (string_bytes c.in-Some.key.now) (view c.in-Some.value.now) found ≡ options_members (options_view c.set_option.new.options) =
    ap (λ k. put k (view c.in-Some.value.now) found) (sym c.as_str.ensures.value) ∙ c.in_ok-set_option.ensures.put in
    let is_taken : true ≡ is_option (string_bytes c.in-Some.key.now) (view c.in-Some.value.now) =
    c.in_ok-set_option.ensures.taken ∙ ap (λ k. is_option k (view c.in-Some.value.now)) c.as_str.ensures.value in (
      ap (put_all (members_view left)) (sym is_set)
          ∙ ap (λ (es : List Entry). put_all (members_view es) found) (sym step)
          ∙ c.loop-key.invariant.0,
      ap (λ (b : Bool). b && are_options (members_view left)) is_taken
          ∙ ap (λ (es : List Entry). are_options (members_view es)) (sym step)
          ∙ c.loop-key.invariant.1,
      ap (λ (b : Bool). if b then first_wrong (members_view left) else Some (string_bytes c.in-Some.key.now)) is_taken
          ∙ ap (λ (es : List Entry). first_wrong (members_view es)) (sym step)
          ∙ c.loop-key.invariant.2,
    )

pub returns-clause-options : goal.returns-clause-options
returns-clause-options c =
    let all : c.into_iter-key-iterator.result ≡ c.in-Object.members.entries = search rules in (
      members_view c.in-Object.members.entries,
      ap view c.in-Object.is ∙ view-Object c.in-Object.members,
      ap (λ (es : List Entry). put_all (members_view es) (options_members default_options)) (sym all)
          ∙ sym c.loop-key.invariant.0
          ∙ ap (λ (es : List Entry). put_all (members_view es) (options_members (options_view c.loop-key.options))) c.in-None.ensures.steps.0,
    )

pub returns-clause-taken : goal.returns-clause-taken
returns-clause-taken c =
    let all : c.into_iter-key-iterator.result ≡ c.in-Object.members.entries = search rules in
    sym
    (ap is_options_object (ap view c.in-Object.is ∙ view-Object c.in-Object.members)
    ∙ ap (λ (es : List Entry). are_options (members_view es)) (sym all)
    ∙ sym c.loop-key.invariant.1
    ∙ ap (λ (es : List Entry). are_options (members_view es)) c.in-None.ensures.steps.0)

pub returns-in_err-set_option-clause-taken : goal.returns-in_err-set_option-clause-taken
returns-in_err-set_option-clause-taken c =
    let left = c.next.new.self in
    let all : c.into_iter-key-iterator.result ≡ c.in-Object.members.entries = search rules in
    let step : c.loop-key.key-iterator ≡ (c.in-Some.key.now, c.in-Some.value.now) ∷ left = c.in-Some.ensures.steps in
    let is_refused : is_option (string_bytes c.in-Some.key.now) (view c.in-Some.value.now) ≡ false =
    ap (λ k. is_option k (view c.in-Some.value.now)) (sym c.as_str.ensures.value) ∙ sym c.in_err-set_option.ensures.taken in
    let failed : is_ok c.from_residual.result ≡ false = search rules in
    failed ∙ sym
    (ap is_options_object (ap view c.in-Object.is ∙ view-Object c.in-Object.members)
    ∙ ap (λ (es : List Entry). are_options (members_view es)) (sym all)
    ∙ sym c.loop-key.invariant.1
    ∙ ap (λ (es : List Entry). are_options (members_view es)) step
    ∙ ap (λ (b : Bool). b && are_options (members_view left)) is_refused)

pub returns-in_err-set_option-clause-fault : goal.returns-in_err-set_option-clause-fault
returns-in_err-set_option-clause-fault c =
    let left = c.next.new.self in
    let all : c.into_iter-key-iterator.result ≡ c.in-Object.members.entries = search rules in
    let step : c.loop-key.key-iterator ≡ (c.in-Some.key.now, c.in-Some.value.now) ∷ left = c.in-Some.ensures.steps in
    let key = string_bytes c.in-Some.key.now in
    let is_refused : is_option key (view c.in-Some.value.now) ≡ false =
    ap (λ k. is_option k (view c.in-Some.value.now)) (sym c.as_str.ensures.value) ∙ sym c.in_err-set_option.ensures.taken in
    let is_first : first_wrong (members_view c.in-Object.members.entries) ≡ Some key =
    ap (λ (es : List Entry). first_wrong (members_view es)) (sym all)
    ∙ sym c.loop-key.invariant.2
    ∙ ap (λ (es : List Entry). first_wrong (members_view es)) step
    ∙ ap (λ (b : Bool). if b then first_wrong (members_view left) else Some key) is_refused in
    let p = err_from_is_err_and c.from_residual.result c.from_residual.ensures.1 in
    rw (p.1, p.2)
    (names_first (view c.args.value.now) (members_view c.in-Object.members.entries) key c.in_err-set_option.field-0.0
    (ap as_object (ap view c.in-Object.is ∙ view-Object c.in-Object.members))
    is_first (subst (λ (k : List ℕ). NamesKey k c.in_err-set_option.field-0.0) c.as_str.ensures.value c.in_err-set_option.ensures.key))
