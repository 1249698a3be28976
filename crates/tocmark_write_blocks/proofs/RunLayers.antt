-- What is found of the runs in bodies from the last event to the first is what their texts say.
use Rattle.std.proofs.Common.{◌≡◌, ℕ, zero, suc, ◌+◌, ◌≤◌, List, [], ◌∷◌, refl, sym, ap, ◌∙◌, map, drop, take, length, chars, ◌++◌, arith, subst, reverse, get_or}
use Rattle.std.proofs.lemmas.List.{get_or_past, drop_all}
use Rattle.std.proofs.lemmas.Str.{chars-nil}
use Rattle.tocmark_event.specs.View.{TagView, SourcedEvent, Start, End, Leaf}
use Rattle.tocmark_write_texts.specs.Leaves.{longest_run}
use Rattle.tocmark_spelling.specs.Body.{Trees, joined_by, text_of_leaf}
use Rattle.tocmark_spelling.specs.Machine.{layers, with_node as node_layers, kids_of}
use Rattle.tocmark_spelling.specs.Scans.{span}
use Rattle.tocmark_write_pending.specs.Ahead.{texts_of, body_in}
use Rattle.tocmark_write_blocks.specs.TokenRuns.{no_runs, runs_of, RunsIn, runs_within, runs_with, IsText}
use Rattle.tocmark_write_blocks.specs.declared.token_runs.TokenRuns.{TokenRuns}
use Rattle.tocmark_write_pending.proofs.Gathered.{joined-scan}
use Rattle.tocmark_write_blocks.proofs.RunLemmas.{leaf-chars, leaf_chars, runs-joined, longest-is}

-- each Text of a list is UTF-8
abbrev pub AreTexts : List SourcedEvent → Type 0
AreTexts [] = Unit {0}
AreTexts (e ∷ es) = IsText e × AreTexts es

texts-take : (n : ℕ) (es : List SourcedEvent) → AreTexts es → AreTexts (take n es)
texts-take zero es h = tt
texts-take (suc n) [] h = tt
texts-take (suc n) (e ∷ es) h = (h.0, texts-take n es h.1)

pub texts-drop : (n : ℕ) (es : List SourcedEvent) → AreTexts es → AreTexts (drop n es)
texts-drop zero es h = h
texts-drop (suc n) [] h = tt
texts-drop (suc n) (e ∷ es) h = texts-drop n es h.1

texts-chars : (es : List SourcedEvent) → AreTexts es → chars (texts_of text_of_leaf es) ≡ texts_of leaf_chars es
texts-chars [] h = chars-nil
texts-chars (Leaf l ∷ es) h =
    leaf-chars l.leaf (texts_of text_of_leaf es) h.0 ∙ ap (λ x. leaf_chars l.leaf ++ x) (texts-chars es h.1)
texts-chars (Start t ∷ es) h = texts-chars es h.1
texts-chars (End k ∷ es) h = texts-chars es h.1

pub longest-found : (token : ℕ) (es : List SourcedEvent) → AreTexts es
    → (runs_of token (kids_of es)).longest ≡ longest_run token (chars (joined_by text_of_leaf (kids_of es)))
longest-found token es h =
    let joined : joined_by leaf_chars (kids_of es) ≡ chars (joined_by text_of_leaf (kids_of es)) =
    sym (joined-scan leaf_chars es)
    ∙ sym (texts-chars (body_in es) (texts-take (span 0 es) es h))
    ∙ ap chars (joined-scan text_of_leaf es) in
    ap (λ (x : TokenRuns). x.longest) (runs-joined token (kids_of es))
    ∙ longest-is token (joined_by leaf_chars (kids_of es))
    ∙ ap (longest_run token) joined

-- one event more in front

start-runs : (token : ℕ) (t : TagView) (kids : Trees) (fs : List Trees)
    → runs_with token (Start t) (record { inner = runs_of token kids; outer = map (runs_of token) fs }) ≡ runs_within token (node_layers t kids fs)
start-runs token t kids [] = refl
start-runs token t kids (f ∷ fs) = refl

event-runs : (token : ℕ) (e : SourcedEvent) (es : List SourcedEvent)
    → runs_with token e (runs_within token (layers es)) ≡ runs_within token (layers (e ∷ es))
event-runs token (Leaf l) es = refl
event-runs token (Start t) es = start-runs token t (layers es).inner (layers es).outer
event-runs token (End k) es = refl

pub run-step : (token : ℕ) (evs : List SourcedEvent) (e : SourcedEvent) (x new : RunsIn) (i k : ℕ) → i ≡ k + 1
    → drop k evs ≡ e ∷ drop (k + 1) evs → x ≡ runs_within token (layers (drop i evs)) → new ≡ runs_with token e x
    → new ≡ runs_within token (layers (drop k evs))
run-step token evs e x new i k q at h n =
    let P : ℕ → Type 0 = λ i. x ≡ runs_within token (layers (drop i evs)) in
    n ∙ ap (runs_with token e) (subst P q h) ∙ event-runs token e (drop (k + 1) evs) ∙ ap (λ y. runs_within token (layers y)) (sym at)

pub text-step : (evs : List SourcedEvent) (e : SourcedEvent) (i k : ℕ) → i ≡ k + 1 → drop k evs ≡ e ∷ drop (k + 1) evs
    → IsText e → AreTexts (drop i evs) → AreTexts (drop k evs)
text-step evs e i k q at own h =
    let P : ℕ → Type 0 = λ i. AreTexts (drop i evs) in
    subst AreTexts (sym at) (own, subst P q h)

pub run-none : (token : ℕ) (evs : List SourcedEvent) (len : ℕ) (inner : TokenRuns) (outer : List TokenRuns) → length evs ≤ len
    → inner ≡ no_runs → outer ≡ [] → record { inner = inner; outer = reverse outer } ≡ runs_within token (layers (drop len evs))
run-none token evs len inner outer le a b =
    ap (λ x. record { inner = x; outer = reverse outer }) a ∙ ap (λ x. record { inner = no_runs; outer = reverse x }) b
    ∙ ap (λ y. runs_within token (layers y)) (sym (drop_all len evs le))

pub text-none : (evs : List SourcedEvent) (len : ℕ) → length evs ≤ len → AreTexts (drop len evs)
text-none evs len le = subst AreTexts (sym (drop_all len evs le)) tt

pub runs-past : (token : ℕ) (runs : List TokenRuns) (evs : List SourcedEvent) (len j : ℕ) → length runs ≡ len → length evs ≡ len → len ≤ j
    → get_or runs j no_runs ≡ runs_of token (kids_of (drop (j + 1) evs))
runs-past token runs evs len j a b le =
    get_or_past runs j no_runs (omega (arith, a)) ∙ ap (λ y. runs_of token (kids_of y)) (sym (drop_all (j + 1) evs (omega (arith, b))))
