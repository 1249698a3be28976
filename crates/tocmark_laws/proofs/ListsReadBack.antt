-- What is handed for a tight list of lines of words is read as it.
use Rattle.std.proofs.Common.{◌≡◌, ℕ, ◌^◌, ◌<◌, true, false, not, ◌==◌, List, [], ◌∷◌, ◌++◌, length, map, refl, ap, subst, ◌∙◌, arith, length-append, Option, Some, None, decimal}
use Rattle.std.specs.List.{AllByRecursion, list_all}
use Rattle.tocmark_event.specs.Forest.{empty, node, flat_onto}
use Rattle.tocmark_event.specs.Options.{OptionsView}
use Rattle.tocmark_event.specs.Reading.{ReadingView}
use Rattle.tocmark_event.specs.View.{EventView, Start, End, Leaf, ListOf, Item, SourcedEvent, end_of}
use Rattle.tocmark_event.specs.declared.event.TagEnd.{TagEnd}
use Rattle.tocmark_event.specs.declared.event.TagEnd.TheVariants as end
use Rattle.tocmark_event.specs.declared.event.flags.ParserOptions.{ParserOptions}
use Rattle.tocmark_read_scan.specs.declared.syntax.Syntax.{Syntax}
use Rattle.tocmark_read_scan.proofs.PlainTests.{both_true, all_from}
use Rattle.tocmark_reader.specs.PlainTexts.{IsReadAs}
use Rattle.tocmark_reader.specs.Reading.{reading_of}
use Rattle.tocmark_spelling.specs.Body.{some_leaf}
use Rattle.tocmark_spelling.specs.Page.{Around}
use Rattle.tocmark_choose.specs.Candidates.{has_source, is_delimiter_tag, is_math, some_tag}
use Rattle.tocmark_state.specs.Ranges.{unranged}
use Rattle.tocmark_state.specs.Walk.{Walk, Done, nothing_yet, script}
use Rattle.tocmark_state.specs.WorkView.{rendering}
use Rattle.tocmark_write_pending.specs.Placeholder.{needs_placeholder, needs_placeholder_at}
use Rattle.tocmark_laws.specs.Extensions.{is_word_line}
use Rattle.tocmark_laws.specs.Links.{one_text_walk}
use Rattle.tocmark_laws.specs.OrderedLists.{NumberedLine, is_numbered_line, is_delimiter, ordered_list, ordered_events}
use Rattle.tocmark_laws.specs.PlainLists.{is_bullet, bullet_list, bullet_events, items_events}
use Rattle.tocmark_laws.specs.ReadBack.{IsReadAlike, ReadsBackAlike, ArePlainOptions, is_barless_line, numbered_events}
use Rattle.tocmark_laws.proofs.AloneHanded.{bare, IsUnasked, tree_handed}
use Rattle.tocmark_laws.proofs.BlockSpelling.{text_leaf}
use Rattle.tocmark_laws.proofs.BreakSpelling.{AreBareWords}
use Rattle.tocmark_laws.proofs.BreaksReadBack.{bare_from, all_words}
use Rattle.tocmark_laws.proofs.BulletReading.{bullets_read}
use Rattle.tocmark_laws.proofs.ListSpelling.{item_trees, items_text, AreMarkers, token_of, marker_of, list_alone}
use Rattle.tocmark_laws.proofs.ListTexts.{bullets_are_markers, bullets_text, number_tested, number_value, number_behind, behind_below, numbered, numbers_are_markers, numbers_text}
use Rattle.tocmark_laws.proofs.OrderedReading.{ordered_read}

-- ---- the list as a tree

items_flat : (ls : List (List ℕ)) (k : TagEnd) → map bare (items_events ls ++ End k ∷ []) ≡ flat_onto (item_trees ls) (End k ∷ [])
items_flat [] k = refl
items_flat (l ∷ ls) k = ap (λ (es : List SourcedEvent). Start Item ∷ Leaf (text_leaf l) ∷ End end.Item ∷ es) (items_flat ls k)

items_placed : (ls : List (List ℕ)) (a : Around) → needs_placeholder_at (item_trees ls) a ≡ false
items_placed [] a = refl
items_placed (l ∷ ls) a = items_placed ls _

no_tags : (ls : List (List ℕ)) → some_tag is_delimiter_tag (item_trees ls) ≡ false
no_tags [] = refl
no_tags (l ∷ ls) = no_tags ls

no_formulas : (ls : List (List ℕ)) → some_leaf is_math (item_trees ls) ≡ false
no_formulas [] = refl
no_formulas (l ∷ ls) = no_formulas ls

no_sources : (ls : List (List ℕ)) → has_source (item_trees ls) ≡ false
no_sources [] = refl
no_sources (l ∷ ls) = no_sources ls

list_unasked : (first : Option ℕ) (l : List ℕ) (ls : List (List ℕ)) → IsUnasked (node (ListOf first) (item_trees (l ∷ ls)) empty)
unfolding needs_placeholder
list_unasked first l ls = record {
  placed = rw (items_placed ls _) refl;
  undelimited = rw (no_tags ls, no_formulas ls) refl;
  unsourced = rw (no_sources ls) refl;
}

-- ---- the law

front_some : (xs ys : List ℕ) → 0 < length xs → 0 < length (xs ++ ys)
front_some xs ys h = omega (arith, h, length-append xs ys)

-- the events of a list of such items
abbrev list_events : Option ℕ → List (List ℕ) → List EventView
list_events first ls = Start (ListOf first) ∷ items_events ls ++ End (end_of (ListOf first)) ∷ []

-- exactly the items after their markers are handed
list_handed : (options : OptionsView) (first : Option ℕ) (l : List ℕ) (ms : List (List ℕ)) (reading : List ℕ → ParserOptions → ReadingView) (flags : ParserOptions) (source : List ℕ) → ArePlainOptions options → AreMarkers options first (token_of options first) (l ∷ ms) → list_all is_barless_line (l ∷ ms) ≡ true
    → script (rendering options reading) source (nothing_yet flags) (map unranged (list_events first (l ∷ ms))) ≡ one_text_walk (items_text options first (token_of options first) l ms)
list_handed options first l ms reading flags source plain markers h =
    let mark : ℕ = token_of options first in
    let words : AllByRecursion AreBareWords (l ∷ ms) = all_from is_barless_line AreBareWords (l ∷ ms) bare_from h in
    tree_handed options reading flags source plain.unchecked (ListOf first) (item_trees (l ∷ ms)) (list_events first (l ∷ ms)) (items_text options first mark l ms)
    (ap (λ (es : List SourcedEvent). Start (ListOf first) ∷ es) (items_flat (l ∷ ms) (end_of (ListOf first)))) (list_unasked first l ms) (front_some (marker_of first mark) _ (markers.0))
    (list_alone options reading flags plain.emphasis first l ms words markers)

-- a walk that hands one text, which is read so
read_alike : (walk : Walk Done) (text : List ℕ) (events : List EventView) → walk ≡ one_text_walk text → ((syntax : Syntax) → length text < 2 ^ 64 → IsReadAs (reading_of syntax text) events) → IsReadAlike walk events
read_alike walk text events h read = record {
  ends_well = ap (λ (w : Walk Done). w.outcome) h;
  text = text;
  handed = ap (λ (w : Walk Done). w.texts) h;
  read = read;
}

pub bullets_read_back : (options : OptionsView) (l : List ℕ) (ms : List (List ℕ)) → ArePlainOptions options → is_bullet options.list_token ≡ true → list_all is_barless_line (l ∷ ms) ≡ true → ReadsBackAlike options (bullet_events (l ∷ ms))
bullets_read_back options l ms plain bullet h reading flags source =
    let mark : ℕ = options.list_token in
    let same : items_text options None mark l ms ≡ bullet_list mark l ms = bullets_text options mark l ms bullet in
    read_alike _ (bullet_list mark l ms) (bullet_events (l ∷ ms))
    (list_handed options None l ms reading flags source plain (bullets_are_markers options mark (l ∷ ms) bullet) h ∙ ap one_text_walk same)
    (λ syntax fits. bullets_read syntax mark l ms bullet (all_words (l ∷ ms) h) fits)

-- numbered lines are tested
all_numbered : (o : OptionsView) (n : ℕ) (ls : List (List ℕ)) → n < 10 ^ 9 → list_all is_barless_line ls ≡ true → list_all is_numbered_line (numbered o n ls) ≡ true
all_numbered o n [] k h = refl
all_numbered o n (l ∷ ls) k h =
    let both = both_true (is_barless_line l) (list_all is_barless_line ls) h in
    let word : is_word_line l ≡ true = (both_true (is_word_line l) (list_all (λ b. not (b == 124)) l) (both.0)).0 in
    rw (number_tested n k, word) (all_numbered o (number_behind o n) ls (behind_below o n k) (both.1))

their_lines : (o : OptionsView) (n : ℕ) (ls : List (List ℕ)) → map (λ (x : NumberedLine). x.line) (numbered o n ls) ≡ ls
their_lines o n [] = refl
their_lines o n (l ∷ ls) = ap (λ xs. l ∷ xs) (their_lines o (number_behind o n) ls)

pub numbers_read_back : (options : OptionsView) (number : ℕ) (l : List ℕ) (ms : List (List ℕ)) → ArePlainOptions options → is_delimiter options.ordered_list_token ≡ true → number < 10 ^ 9 → list_all is_barless_line (l ∷ ms) ≡ true → ReadsBackAlike options (numbered_events number (l ∷ ms))
numbers_read_back options number l ms plain delimiter few h reading flags source =
    let mark : ℕ = options.ordered_list_token in
    let first : NumberedLine = record { digits = decimal number; line = l } in
    let rest : List NumberedLine = numbered options (number_behind options number) ms in
    let text : List ℕ = ordered_list mark first rest in
    let means : ordered_events first rest ≡ numbered_events number (l ∷ ms) =
    ap (λ n. numbered_events n (l ∷ map (λ (x : NumberedLine). x.line) rest)) (number_value number few)
    ∙ ap (λ ls. numbered_events number (l ∷ ls)) (their_lines options (number_behind options number) ms)
    in
    read_alike _ text (numbered_events number (l ∷ ms))
    (list_handed options (Some number) l ms reading flags source plain (numbers_are_markers options number mark (l ∷ ms) delimiter few) h ∙ ap one_text_walk (numbers_text options number mark l ms delimiter))
    (λ syntax fits. subst (λ (es : List EventView). IsReadAs (reading_of syntax text) es) means (ordered_read syntax mark first rest delimiter (all_numbered options number (l ∷ ms) few h) fits))
