-- What is found at the Starts of a unit's events.
use Rattle.std.proofs.Common.{◌≡◌, ℕ, zero, suc, ◌+◌, ◌<◌, ◌≤◌, Bool, true, false, cond, List, [], ◌∷◌, refl, sym, ap, ◌∙◌, drop, length, arith, subst, get_or, get_or-set_other, get_or-set_same, ⊎_elim, ◌≢◌}
use Rattle.std.specs.Prelude.{not, ◌||◌, ◌&&◌, ◌==◌}
use Rattle.std.specs.List.{list_any}
use Rattle.std.proofs.Math.ListN.{set}
use Rattle.std.proofs.lemmas.Bool.{cases_lt, false≢true, eqb-true, eqb-false, not_from_false}
use Rattle.std.proofs.lemmas.List.{drop_all, get_or_past}
use Rattle.tocmark_write_texts.specs.Characters.{backtick}
use Rattle.tocmark_event.specs.Options.{OptionsView}
use Rattle.tocmark_event.specs.View.{TagView, CodeBlock, HtmlBlock, Indented, Fenced, SourcedEvent, Start, End, Leaf, Paragraph, Heading, BlockQuote, ListOf, Item, FootnoteDefinition, DefinitionList, DefinitionListTitle, DefinitionListDefinition, Table, TableHead, TableRow, TableCell, Emphasis, Strong, Strikethrough, Superscript, Subscript, Link, Image, MetadataBlock}
use Rattle.tocmark_write_blocks.specs.TokenRuns.{no_runs, AreRuns}
use Rattle.tocmark_write_blocks.specs.declared.token_runs.TokenRuns.{TokenRuns}
use Rattle.tocmark_spelling.specs.Body.{Trees}
use Rattle.tocmark_spelling.specs.Machine.{kids_of}
use Rattle.tocmark_spelling.specs.Opening.{fence_token}
use Rattle.tocmark_write_blocks.specs.Html.{no_html, AreHtml, html_of_kids}
use Rattle.tocmark_write_blocks.specs.Kinds.{is_fenced, is_html_block, opens}
use Rattle.tocmark_write_blocks.specs.Raw.{no_raw, raw_of, body_run, has_other_fence, AreFenceRuns, AreOtherRuns, IsFenceRun, IsHtmlEnd, IsRawTag, IsRaw, AreRaw}
use Rattle.tocmark_write_blocks.specs.declared.html_facts.HtmlFacts.{HtmlFacts}
use Rattle.tocmark_write_blocks.specs.declared.raw_facts.RawFacts.{RawFacts}

-- ---- places of a list

pub left-false : (a b : Bool) → (a || b) ≡ false → a ≡ false
left-false true b h = h
left-false false b h = refl

pub right-false : (a b : Bool) → (a || b) ≡ false → b ≡ false
right-false true b h = absurd (false≢true (sym h))
right-false false b h = h

pub same-first : (x e : SourcedEvent) (es rest : List SourcedEvent) → x ∷ es ≡ e ∷ rest → x ≡ e
same-first x e es rest q = ap (λ xs. get_or xs 0 x) q

pub same-rest : (x e : SourcedEvent) (es rest : List SourcedEvent) → x ∷ es ≡ e ∷ rest → es ≡ rest
same-rest x e es rest q = ap (drop 1) q

-- an event of a list of which none passes a test
none-at : (test : SourcedEvent → Bool) (es : List SourcedEvent) (i : ℕ) (e : SourcedEvent) (rest : List SourcedEvent)
    → list_any test es ≡ false → drop i es ≡ e ∷ rest → test e ≡ false
none-at test [] zero e rest h q = absurd (cc)
none-at test [] (suc i) e rest h q = absurd (cc)
none-at test (x ∷ es) zero e rest h q = ap test (sym (same-first x e es rest q)) ∙ left-false (test x) (list_any test es) h
none-at test (x ∷ es) (suc i) e rest h q = none-at test es i e rest (right-false (test x) (list_any test es) h) q

-- a column in which one more place holds what it is to hold
module _ {A : Type 0} (P : ℕ → A → Type 0) (xs : List A) (none : A) (k : ℕ) (v : A) where
  pub place-holds : k < length xs → P k v → ((j : ℕ) → k + 1 ≤ j → P j (get_or xs j none)) → (j : ℕ) → k ≤ j → P j (get_or (set xs k v) j none)
  place-holds h e below j le =
      ⊎_elim
      (λ (more : k < j). let ne : j ≢ k = omega arith in let p : k + 1 ≤ j = omega arith in rw get_or-set_other (below j p))
      (λ (least : j ≤ k).
      let same : k ≡ j = omega arith in
      let Q : ℕ → Type 0 = λ j. P j (get_or (set xs k v) j none) in
      subst Q same (subst (P k) (sym (get_or-set_same xs k v none h)) e))
      (cases_lt k j)

-- ---- without such a block

pub no-fence : (token : ℕ) (es : List SourcedEvent) (runs : List TokenRuns) → list_any (opens is_fenced) es ≡ false → AreFenceRuns token es runs
no-fence token es runs h = record { at = λ i info rest q. absurd (false≢true (sym (none-at (opens is_fenced) es i (Start (CodeBlock (Fenced info))) rest h q))) }

pub no-html : (es : List SourcedEvent) (facts : List HtmlFacts) → list_any (opens is_html_block) es ≡ false → AreHtml es facts
no-html es facts h = record { at = λ i rest q. absurd (false≢true (sym (none-at (opens is_html_block) es i (Start HtmlBlock) rest h q))) }

-- ---- what a place holds

tag-raw : (o : OptionsView) (t : TagView) (kids : Trees) (x : RawFacts)
    → ((info : List ℕ) → t ≡ CodeBlock (Fenced info) → IsFenceRun o info kids x) → (t ≡ HtmlBlock → IsHtmlEnd kids x) → IsRawTag o t kids x
tag-raw o Paragraph kids x f h = tt
tag-raw o (Heading level id classes attrs) kids x f h = tt
tag-raw o (BlockQuote k) kids x f h = tt
tag-raw o (CodeBlock Indented) kids x f h = tt
tag-raw o (CodeBlock (Fenced info)) kids x f h = f info refl
tag-raw o HtmlBlock kids x f h = h refl
tag-raw o (ListOf n) kids x f h = tt
tag-raw o Item kids x f h = tt
tag-raw o (FootnoteDefinition label) kids x f h = tt
tag-raw o DefinitionList kids x f h = tt
tag-raw o DefinitionListTitle kids x f h = tt
tag-raw o DefinitionListDefinition kids x f h = tt
tag-raw o (Table alignments) kids x f h = tt
tag-raw o TableHead kids x f h = tt
tag-raw o TableRow kids x f h = tt
tag-raw o TableCell kids x f h = tt
tag-raw o Emphasis kids x f h = tt
tag-raw o Strong kids x f h = tt
tag-raw o Strikethrough kids x f h = tt
tag-raw o Superscript kids x f h = tt
tag-raw o Subscript kids x f h = tt
tag-raw o (Link k d t i) kids x f h = tt
tag-raw o (Image k d t i) kids x f h = tt
tag-raw o (MetadataBlock k) kids x f h = tt

event-raw : (o : OptionsView) (e : SourcedEvent) (kids : Trees) (x : RawFacts)
    → ((info : List ℕ) → e ≡ Start (CodeBlock (Fenced info)) → IsFenceRun o info kids x) → (e ≡ Start HtmlBlock → IsHtmlEnd kids x) → IsRaw o e kids x
event-raw o (Start t) kids x f h = tag-raw o t kids x (λ info q. f info (ap (λ t. Start t) q)) (λ q. h (ap (λ t. Start t) q))
event-raw o (End k) kids x f h = tt
event-raw o (Leaf l) kids x f h = tt

pub no-raw : (o : OptionsView) (es : List SourcedEvent) (facts : List RawFacts)
    → list_any (opens is_fenced) es ≡ false → list_any (opens is_html_block) es ≡ false → AreRaw o es facts
no-raw o es facts f h = record {
  at = λ i e rest q.
      event-raw o e (kids_of rest) (get_or facts i no_raw)
      (λ info s. absurd (false≢true (sym (ap (opens is_fenced) (sym s) ∙ none-at (opens is_fenced) es i e rest f q))))
      (λ s. absurd (false≢true (sym (ap (opens is_html_block) (sym s) ∙ none-at (opens is_html_block) es i e rest h q))));
}

-- a fence's token is the preferred one or `~`
token-of : (b : Bool) (token d : ℕ) → token ≡ cond b 126 d → (token ≡ d → ⊥) → token ≡ 126
token-of true token d h other = h
token-of false token d h other = absurd (other h)

run-chosen : (c : Bool) (rest : List SourcedEvent) (token d p q : ℕ) → p ≡ body_run d rest → (c ≡ false → q ≡ body_run 126 rest)
    → (c ≡ true → token ≡ d) → (c ≡ false → token ≡ 126) → cond c p q ≡ body_run token rest
run-chosen true rest token d p q hp hq y n = hp ∙ ap (λ k. body_run k rest) (sym (y refl))
run-chosen false rest token d p q hp hq y n = hq refl ∙ ap (λ k. body_run k rest) (sym (n refl))

fence-chosen : (o : OptionsView) (info : List ℕ) (rest : List SourcedEvent) (p q : ℕ) → p ≡ body_run o.code_block_token rest
    → ((fence_token o info == o.code_block_token) ≡ false → q ≡ body_run 126 rest)
    → cond (fence_token o info == o.code_block_token) p q ≡ body_run (fence_token o info) rest
fence-chosen o info rest p q hp hq =
    let token = fence_token o info in
    let b : Bool = (o.code_block_token == backtick) && list_any (λ b. b == backtick) info in
    run-chosen (token == o.code_block_token) rest token o.code_block_token p q hp hq (eqb-true token o.code_block_token)
    (λ f. token-of b token o.code_block_token refl (eqb-false token o.code_block_token f))

same-chosen : (c : Bool) (n : ℕ) → cond c n n ≡ n
same-chosen true n = refl
same-chosen false n = refl

-- no runs are kept, so that each fence's is empty, and no HTML block opens
pub silent-raw : (o : OptionsView) (es : List SourcedEvent) (preferred tildes : List TokenRuns) (facts : List RawFacts)
    → AreFenceRuns o.code_block_token es preferred → AreOtherRuns o es tildes → list_any (opens is_html_block) es ≡ false
    → length preferred ≡ 0 → length tildes ≡ 0 → length facts ≡ 0 → AreRaw o es facts
silent-raw o es preferred tildes facts p q h no_preferred no_tildes no_facts = record {
  at = λ i e rest at.
      event-raw o e (kids_of rest) (get_or facts i no_raw)
      (λ info s.
      let there : drop i es ≡ Start (CodeBlock (Fenced info)) ∷ rest = at ∙ ap (λ z. z ∷ rest) s in
      let longest : RawFacts → ℕ = λ x. x.longest in
      let run : TokenRuns → ℕ = λ x. x.longest in
      let none = ap longest (get_or_past facts i no_raw (omega (arith, no_facts))) in
      let empty = sym (ap run (get_or_past preferred i no_runs (omega (arith, no_preferred)))) in
      let blank = sym (ap run (get_or_past tildes i no_runs (omega (arith, no_tildes)))) in
      none ∙ sym (same-chosen (fence_token o info == o.code_block_token) 0)
      ∙ fence-chosen o info rest 0 0 (empty ∙ p.at i info rest there) (λ other. blank ∙ q.at i info rest there other))
      (λ s. absurd (false≢true (sym (ap (opens is_html_block) (sym s) ∙ none-at (opens is_html_block) es i e rest h at))));
}

drop-rest : (es : List SourcedEvent) (i : ℕ) (e : SourcedEvent) (rest : List SourcedEvent) → drop i es ≡ e ∷ rest → drop (i + 1) es ≡ rest
drop-rest [] zero e rest q = absurd (cc)
drop-rest [] (suc i) e rest q = absurd (cc)
drop-rest (x ∷ es) zero e rest q = ap (drop 1) q
drop-rest (x ∷ es) (suc i) e rest q = let more : suc i + 1 ≡ suc (i + 1) = omega arith in ap (λ n. drop n (x ∷ es)) more ∙ drop-rest es i e rest q

pub all-runs : (token : ℕ) (es : List SourcedEvent) (runs : List TokenRuns) → AreRuns token es runs → AreFenceRuns token es runs
all-runs token es runs a = record { at = λ i info rest q. a.at i ∙ ap (body_run token) (drop-rest es i (Start (CodeBlock (Fenced info))) rest q) }

pub other-runs : (o : OptionsView) (es : List SourcedEvent) (runs : List TokenRuns) → AreRuns 126 es runs → AreOtherRuns o es runs
other-runs o es runs a = record { at = λ i info rest q other. a.at i ∙ ap (body_run 126) (drop-rest es i (Start (CodeBlock (Fenced info))) rest q) }

pub no-other : (o : OptionsView) (es : List SourcedEvent) (runs : List TokenRuns) → list_any (opens (has_other_fence o)) es ≡ false → AreOtherRuns o es runs
no-other o es runs h = record {
  at = λ i info rest q other.
      absurd (false≢true (sym (none-at (opens (has_other_fence o)) es i (Start (CodeBlock (Fenced info))) rest h q)
      ∙ not_from_false (fence_token o info == o.code_block_token) other));
}

-- what is gathered at a place from the columns
abbrev pub IsGathered : OptionsView → List SourcedEvent → List TokenRuns → List TokenRuns → List HtmlFacts → ℕ → RawFacts → Type 0
IsGathered o es preferred tildes html j x =
    (e : SourcedEvent) (rest : List SourcedEvent) → drop j es ≡ e ∷ rest
    → x ≡ raw_of o e (get_or preferred j no_runs).longest (get_or tildes j no_runs).longest (get_or html j no_html)

html-end : (kids : Trees) (h : HtmlFacts) (x : RawFacts) → x.blank ≡ h.blank → x.closed ≡ h.closed → h ≡ html_of_kids kids → IsHtmlEnd kids x
html-end kids h x b c e = record { blank = b ∙ ap (λ (y : HtmlFacts). y.blank) e; closed = c ∙ ap (λ (y : HtmlFacts). y.closed) e }

-- what is gathered at each place is what is asked
pub all-raw : (o : OptionsView) (es : List SourcedEvent) (preferred tildes : List TokenRuns) (html : List HtmlFacts) (facts : List RawFacts)
    → AreFenceRuns o.code_block_token es preferred → AreOtherRuns o es tildes → AreHtml es html
    → ((j : ℕ) → IsGathered o es preferred tildes html j (get_or facts j no_raw)) → AreRaw o es facts
all-raw o es preferred tildes html facts p q h g = record {
  at = λ i e rest at.
      let x : RawFacts = get_or facts i no_raw in
      let a : ℕ = (get_or preferred i no_runs).longest in
      let b : ℕ = (get_or tildes i no_runs).longest in
      let y : HtmlFacts = get_or html i no_html in
      let is : x ≡ raw_of o e a b y = g i e rest at in
      event-raw o e (kids_of rest) x
      (λ info s.
      let there : drop i es ≡ Start (CodeBlock (Fenced info)) ∷ rest = at ∙ ap (λ z. z ∷ rest) s in
      ap (λ (z : RawFacts). z.longest) (is ∙ ap (λ z. raw_of o z a b y) s)
      ∙ fence-chosen o info rest a b (p.at i info rest there) (q.at i info rest there))
      (λ s.
      let there : drop i es ≡ Start HtmlBlock ∷ rest = at ∙ ap (λ z. z ∷ rest) s in
      let same : x ≡ raw_of o (Start HtmlBlock) a b y = is ∙ ap (λ z. raw_of o z a b y) s in
      html-end (kids_of rest) y x (ap (λ (z : RawFacts). z.blank) same) (ap (λ (z : RawFacts). z.closed) same) (h.at i rest there));
}

-- one place more is gathered
pub gathers : (o : OptionsView) (es : List SourcedEvent) (preferred tildes : List TokenRuns) (html : List HtmlFacts) (k : ℕ) (e : SourcedEvent) (x : RawFacts) (p q : ℕ) (y : HtmlFacts)
    → drop k es ≡ e ∷ drop (k + 1) es → p ≡ (get_or preferred k no_runs).longest → q ≡ (get_or tildes k no_runs).longest → y ≡ get_or html k no_html
    → x ≡ raw_of o e p q y → IsGathered o es preferred tildes html k x
gathers o es preferred tildes html k e x p q y at hp hq hy is other rest there =
    is ∙ ap (λ z. raw_of o z p q y) (same-first e other (drop (k + 1) es) rest (sym at ∙ there)) ∙ ap (λ z. raw_of o other z q y) hp
    ∙ ap (λ z. raw_of o other (get_or preferred k no_runs).longest z y) hq
    ∙ ap (raw_of o other (get_or preferred k no_runs).longest (get_or tildes k no_runs).longest) hy

pub past-gathered : (o : OptionsView) (es : List SourcedEvent) (preferred tildes : List TokenRuns) (html : List HtmlFacts) (j : ℕ) (x : RawFacts)
    → length es ≤ j → IsGathered o es preferred tildes html j x
past-gathered o es preferred tildes html j x le e rest there = let none : [] ≡ e ∷ rest = sym (drop_all j es le) ∙ there in absurd (cc)

pub not-true : (b : Bool) → not b ≡ true → b ≡ false
not-true true h = absurd (false≢true h)
not-true false h = refl
