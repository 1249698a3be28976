-- What is handed for a list of one task is read as it.
use Rattle.std.proofs.Common.{◌≡◌, ℕ, ◌^◌, ◌<◌, Bool, true, false, List, ◌++◌, length, map, refl, ap, sym, subst, ◌∙◌, arith, append-nil, None}
use Rattle.std.specs.List.{concat}
use Rattle.tocmark_event.specs.Forest.{empty, node}
use Rattle.tocmark_event.specs.Options.{OptionsView}
use Rattle.tocmark_event.specs.Reading.{ReadingView}
use Rattle.tocmark_event.specs.View.{ListOf}
use Rattle.tocmark_event.specs.declared.event.flags.ParserOptions.{ParserOptions}
use Rattle.tocmark_reader.specs.PlainTexts.{IsReadAs}
use Rattle.tocmark_reader.specs.Reading.{reading_of}
use Rattle.tocmark_state.specs.Ranges.{unranged}
use Rattle.tocmark_state.specs.Walk.{Walk, Done, nothing_yet, script}
use Rattle.tocmark_state.specs.WorkView.{rendering}
use Rattle.tocmark_write_pending.specs.Placeholder.{needs_placeholder}
use Rattle.tocmark_laws.specs.Extensions.{is_phrase, task_line, task_events}
use Rattle.tocmark_laws.specs.Links.{one_text_walk}
use Rattle.tocmark_laws.specs.ReadBack.{AreReadWhere, ArePlainOptions, is_barless_line}
use Rattle.tocmark_laws.proofs.AloneHanded.{IsUnasked, tree_handed}
use Rattle.tocmark_laws.proofs.BreaksReadBack.{bare_from}
use Rattle.tocmark_laws.proofs.TaskItems.{task_read}
use Rattle.tocmark_laws.proofs.TaskSpelling.{task_trees, task_front, task_alone}

task_unasked : (done : Bool) (phrase : List ℕ) → IsUnasked (node (ListOf None) (task_trees done phrase) empty)
unfolding needs_placeholder
task_unasked done phrase = record { placed = refl; undelimited = refl; unsourced = refl }

front_is : (done : Bool) (phrase : List ℕ) → task_front done ++ phrase ≡ task_line done phrase
front_is true phrase = refl
front_is false phrase = refl

some_text : (done : Bool) (phrase : List ℕ) → 0 < length (task_front done ++ phrase)
some_text true phrase = omega arith
some_text false phrase = omega arith

pub tasks_read_back : (options : OptionsView) (done : Bool) (phrase : List ℕ) → ArePlainOptions options → options.list_token ≡ 45 → is_barless_line phrase ≡ true → is_phrase phrase ≡ true → (reading : List ℕ → ParserOptions → ReadingView) (flags : ParserOptions) (source : List ℕ)
    → AreReadWhere (λ syntax. syntax.task_lists) (script (rendering options reading) source (nothing_yet flags) (map unranged (task_events done phrase))) (task_events done phrase)
tasks_read_back options done phrase plain hyphen h k reading flags source =
    let handed : script (rendering options reading) source (nothing_yet flags) (map unranged (task_events done phrase)) ≡ one_text_walk (task_front done ++ phrase) =
    tree_handed options reading flags source plain.unchecked (ListOf None) (task_trees done phrase) (task_events done phrase) (task_front done ++ phrase) refl (task_unasked done phrase) (some_text done phrase)
    (task_alone options reading flags done phrase plain.emphasis hyphen (bare_from phrase h))
    in
    let text_is : concat (script (rendering options reading) source (nothing_yet flags) (map unranged (task_events done phrase))).texts ≡ task_line done phrase =
    ap (λ (w : Walk Done). concat w.texts) handed ∙ append-nil (task_front done ++ phrase) ∙ front_is done phrase
    in
    record {
      ends_well = ap (λ (w : Walk Done). w.outcome) handed;
      read = λ syntax has fits.
          subst (λ (xs : List ℕ). IsReadAs (reading_of syntax xs) (task_events done phrase)) (sym text_is)
          (task_read syntax done phrase has k (subst (λ (xs : List ℕ). length xs < 2 ^ 64) text_is fits));
    }
