-- What a list of one task is spelled as, where a hyphen marks lists.
use Rattle.std.proofs.Common.{◌≡◌, ℕ, Bool, true, false, not, ◌&&◌, List, [], ◌∷◌, ◌++◌, codes, refl, ap, sym, subst, ◌∙◌, Some, None}
use Rattle.std.specs.Char.{char_set_contains, encode_utf8}
use Rattle.tocmark_event.specs.Forest.{empty, leaf, node}
use Rattle.tocmark_event.specs.Options.{OptionsView}
use Rattle.tocmark_event.specs.Reading.{ReadingView}
use Rattle.tocmark_event.specs.View.{End, ListOf, Item, TaskListMarker, SourcedLeaf}
use Rattle.tocmark_event.specs.declared.event.TagEnd.TheVariants as end
use Rattle.tocmark_event.specs.declared.event.flags.ParserOptions.{ParserOptions}
use Rattle.tocmark_write_texts.specs.Escape.{Surroundings, escaped}
use Rattle.tocmark_spelling.specs.Body.{Trees}
use Rattle.tocmark_spelling.specs.Closing.{closing}
use Rattle.tocmark_spelling.specs.Opening.{opening}
use Rattle.tocmark_spelling.specs.Page.{Sheet, laid, Path, Page, Site}
use Rattle.tocmark_spelling.specs.declared.trail.Last.TheVariants.{Other}
use Rattle.tocmark_spelling.specs.Plan.{Setting}
use Rattle.tocmark_spelling.specs.PlanOf.{setting_of}
use Rattle.tocmark_spelling.specs.Spelling.{spelling}
use Rattle.tocmark_spelling.specs.Stretch.{leaf_on}
use Rattle.tocmark_choose.specs.Candidates.{preferred_manner}
use Rattle.tocmark_laws.proofs.AloneHanded.{IsSpelledAlone, nowhere}
use Rattle.tocmark_laws.proofs.BlockSpelling.{text_leaf, page_of, blank}
use Rattle.tocmark_laws.proofs.BreakSpelling.{AreBareWords, letter_or_digit, no_digit, printable_bytes}
use Rattle.tocmark_laws.proofs.ListSpelling.{laid_inside}
use Rattle.tocmark_laws.proofs.PlainSpelling.{within}
use Rattle.tocmark_laws.proofs.WordEscapes.{IsWordPlace, words_escaped}

abbrev pub box_leaf : Bool → SourcedLeaf
box_leaf done = record { leaf = TaskListMarker done; source = None }

-- the items of a list of one task
abbrev pub task_trees : Bool → List ℕ → Trees
task_trees done phrase = node Item (leaf (box_leaf done) (leaf (text_leaf phrase) empty)) empty

-- what is in front of its phrase
abbrev pub task_front : Bool → List ℕ
task_front true = codes "- [x] "
task_front false = codes "- [ ] "

abbrev site : Path → Page → Site
site path page = record { path = path; page = page }

-- the task is spelled with its phrase at such a place
record IsTask (s : Setting) (done : Bool) (phrase : List ℕ) : Type 0 where
  place : Surroundings
  words : IsWordPlace place
  free : (d : Bool) → d ≡ false → (not place.in_table && d) ≡ false
  page : Page
  is : spelling s (preferred_manner s.options) (node (ListOf None) (task_trees done phrase) empty) nowhere [] (page_of blank 0 Other None) ≡ Some (site [] page)
  sheet_is : page.sheet ≡ laid (codes "  ") (escaped place phrase) (within (task_front done))
  none : page.references ≡ []

-- after the box, and before the item's End
abbrev behind_box : OptionsView → ParserOptions → Surroundings
behind_box o flags = record {
  flags = flags;
  token = o.emphasis_token;
  literal = false;
  first_encoded = false;
  last_encoded = false;
  at_front = false;
  in_table = false;
  in_heading = false;
  next = Some (End end.Item);
}

task_is : (o : OptionsView) (reading : List ℕ → ParserOptions → ReadingView) (flags : ParserOptions) (done : Bool) (phrase : List ℕ) → char_set_contains (codes "*_") o.emphasis_token ≡ true → IsTask (setting_of (record o { list_token = 45 }) flags reading None) done phrase
unfolding spelling opening closing leaf_on encode_utf8
task_is o reading flags true phrase token = record {
  place = behind_box o flags;
  words = record { literal = refl; first = refl; last = refl; heading = refl; token = token };
  free = λ d h. h;
  page = _;
  is = refl;
  sheet_is = refl;
  none = refl;
}
task_is o reading flags false phrase token = record {
  place = behind_box o flags;
  words = record { literal = refl; first = refl; last = refl; heading = refl; token = token };
  free = λ d h. h;
  page = _;
  is = refl;
  sheet_is = refl;
  none = refl;
}

phrase_laid : (place : Surroundings) (c : ℕ) (cs text : List ℕ) → IsWordPlace place → AreBareWords (c ∷ cs) → ((d : Bool) → d ≡ false → (not place.in_table && d) ≡ false) → laid (codes "  ") (escaped place (c ∷ cs)) (within text) ≡ within (text ++ c ∷ cs)
phrase_laid place c cs text words h free =
    ap (λ (xs : List ℕ). laid (codes "  ") xs (within text)) (words_escaped place c cs words h.bytes (letter_or_digit c h.letter) (free _ (no_digit c h.letter)))
    ∙ laid_inside (codes "  ") (c ∷ cs) text (printable_bytes (c ∷ cs) h.bytes)

dashed_alone : (o : OptionsView) (reading : List ℕ → ParserOptions → ReadingView) (flags : ParserOptions) (done : Bool) (phrase : List ℕ) → char_set_contains (codes "*_") o.emphasis_token ≡ true → AreBareWords phrase → IsSpelledAlone (setting_of (record o { list_token = 45 }) flags reading None) (node (ListOf None) (task_trees done phrase) empty) (task_front done ++ phrase)
dashed_alone o reading flags done [] token h = absurd h
dashed_alone o reading flags done (c ∷ cs) token h =
    let t = task_is o reading flags done (c ∷ cs) token in
    record {
      path = [];
      page = t.page;
      is = t.is;
      text_is = ap (λ (x : Sheet). x.text) (t.sheet_is ∙ phrase_laid t.place c cs (task_front done) t.words h t.free);
      none = t.none;
    }

-- a list of one task with which a document begins
pub task_alone : (o : OptionsView) (reading : List ℕ → ParserOptions → ReadingView) (flags : ParserOptions) (done : Bool) (phrase : List ℕ) → char_set_contains (codes "*_") o.emphasis_token ≡ true → o.list_token ≡ 45 → AreBareWords phrase → IsSpelledAlone (setting_of o flags reading None) (node (ListOf None) (task_trees done phrase) empty) (task_front done ++ phrase)
task_alone o reading flags done phrase token hyphen h =
    subst (λ n. IsSpelledAlone (setting_of (record o { list_token = n }) flags reading None) (node (ListOf None) (task_trees done phrase) empty) (task_front done ++ phrase)) (sym hyphen) (dashed_alone o reading flags done phrase token h)
