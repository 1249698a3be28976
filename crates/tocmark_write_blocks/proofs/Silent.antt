-- No body has a run of a token that is in no text.
use Rattle.std.proofs.Common.{◌≡◌, ℕ, zero, suc, ◌+◌, ◌<◌, ◌≤◌, Bool, true, false, List, [], ◌∷◌, length, drop, refl, sym, ◌∙◌, arith, subst}
use Rattle.std.specs.Prelude.{◌==◌}
use Rattle.std.proofs.lemmas.List.{drop_all}
use Rattle.tocmark_event.specs.View.{TagView, LeafView, Text, Code, InlineMath, DisplayMath, Html, InlineHtml, FootnoteReference, SoftBreak, HardBreak, Rule, TaskListMarker, SourcedEvent, Start, End, Leaf}
use Rattle.tocmark_spelling.specs.Body.{Trees}
use Rattle.tocmark_spelling.specs.Machine.{layers, with_node}
use Rattle.tocmark_write_blocks.specs.TokenRuns.{joined_runs, leaf_runs, runs_of, AreRuns, IsLeafText, IsText}
use Rattle.tocmark_write_blocks.specs.declared.token_runs.TokenRuns.{TokenRuns}
use Rattle.tocmark_write_blocks.proofs.RunLayers.{AreTexts, longest-found, texts-drop}
use Rattle.tocmark_write_blocks.proofs.RunLemmas.{by-bytes, runs, without}
use Rattle.tocmark_write_blocks.specs.Raw.{AreWithout, event_holds, leaf_holds}

-- nowhere is a token
record IsSilent (x : TokenRuns) : Type 0 where
  front : x.front ≡ 0
  back : x.back ≡ 0
  longest : x.longest ≡ 0

silent-none : (whole : Bool) → IsSilent (runs 0 0 0 whole)
silent-none whole = record { front = refl; back = refl; longest = refl }

silent-at : (aw bw : Bool) (af ab al bf bb bl : ℕ) → af ≡ 0 → ab ≡ 0 → al ≡ 0 → bf ≡ 0 → bb ≡ 0 → bl ≡ 0
    → IsSilent (joined_runs (runs af ab al aw) (runs bf bb bl bw))
silent-at true true af ab al bf bb bl p q r s t u = record { front = omega arith; back = omega arith; longest = omega arith }
silent-at true false af ab al bf bb bl p q r s t u = record { front = omega arith; back = t; longest = omega arith }
silent-at false true af ab al bf bb bl p q r s t u = record { front = p; back = omega arith; longest = omega arith }
silent-at false false af ab al bf bb bl p q r s t u = record { front = p; back = t; longest = omega arith }

silent-joined : (a b : TokenRuns) → IsSilent a → IsSilent b → IsSilent (joined_runs a b)
silent-joined a b p q =
    silent-at a.whole b.whole a.front a.back a.longest b.front b.back b.longest p.front p.back p.longest q.front q.back q.longest

silent-leaf : (token : ℕ) (l : LeafView) → token < 128 → leaf_holds token l ≡ false → IsLeafText l → IsSilent (leaf_runs token l)
silent-leaf token (Text t) low h u = subst IsSilent (without token t h ∙ by-bytes token t low u) (silent-none (length t == 0))
silent-leaf token (Code t) low h u = silent-none true
silent-leaf token (InlineMath t) low h u = silent-none true
silent-leaf token (DisplayMath t) low h u = silent-none true
silent-leaf token (Html t) low h u = silent-none true
silent-leaf token (InlineHtml t) low h u = silent-none true
silent-leaf token (FootnoteReference t) low h u = silent-none true
silent-leaf token SoftBreak low h u = silent-none true
silent-leaf token HardBreak low h u = silent-none true
silent-leaf token Rule low h u = silent-none true
silent-leaf token (TaskListMarker b) low h u = silent-none true

abbrev AreSilent : ℕ → List Trees → Type 0
AreSilent token [] = Unit {0}
AreSilent token (f ∷ fs) = IsSilent (runs_of token f) × AreSilent token fs

-- the same of the innermost layer and of those outside
abbrev IsSilentWithin : ℕ → Trees → List Trees → Type 0
IsSilentWithin token inner outer = IsSilent (runs_of token inner) × AreSilent token outer

silent-start : (token : ℕ) (t : TagView) (inner : Trees) (outer : List Trees) → IsSilentWithin token inner outer
    → IsSilentWithin token (with_node t inner outer).inner (with_node t inner outer).outer
silent-start token t inner [] h = (silent-joined (runs_of token inner) _ h.0 (silent-none true), tt)
silent-start token t inner (f ∷ fs) h = (silent-joined (runs_of token inner) (runs_of token f) h.0 h.1.0, h.1.1)

silent-layers : (token : ℕ) (es : List SourcedEvent) → token < 128 → AreWithout token es → IsSilentWithin token (layers es).inner (layers es).outer
silent-layers token [] low h = (silent-none true, tt)
silent-layers token (Leaf l ∷ es) low h =
    let rest = silent-layers token es low h.1.1 in
    (silent-joined (leaf_runs token l.leaf) (runs_of token (layers es).inner) (silent-leaf token l.leaf low h.0 h.1.0) rest.0, rest.1)
silent-layers token (Start t ∷ es) low h = silent-start token t (layers es).inner (layers es).outer (silent-layers token es low h.1.1)
silent-layers token (End k ∷ es) low h = (silent-none true, silent-layers token es low h.1.1)

are-texts : (byte : ℕ) (es : List SourcedEvent) → AreWithout byte es → AreTexts es
are-texts byte [] h = tt
are-texts byte (e ∷ es) h = (h.1.0, are-texts byte es h.1.1)

without-drop : (byte n : ℕ) (es : List SourcedEvent) → AreWithout byte es → AreWithout byte (drop n es)
without-drop byte zero es h = h
without-drop byte (suc n) [] h = tt
without-drop byte (suc n) (e ∷ es) h = without-drop byte n es h.1.1

-- one event more in front
pub one-without : (byte : ℕ) (evs : List SourcedEvent) (e : SourcedEvent) (i k : ℕ) → i ≡ k + 1 → drop k evs ≡ e ∷ drop (k + 1) evs
    → event_holds byte e ≡ false → IsText e → AreWithout byte (drop i evs) → AreWithout byte (drop k evs)
one-without byte evs e i k q at held text h =
    let P : ℕ → Type 0 = λ i. AreWithout byte (drop i evs) in
    subst (AreWithout byte) (sym at) (held, (text, subst P q h))

-- and none after the last
pub none-without : (byte : ℕ) (evs : List SourcedEvent) (len : ℕ) → length evs ≤ len → AreWithout byte (drop len evs)
none-without byte evs len le = subst (AreWithout byte) (sym (drop_all len evs le)) tt

pub silent-runs : (token : ℕ) (es : List SourcedEvent) → token < 128 → AreWithout token es → AreRuns token es []
silent-runs token es low h = record {
  at = λ i.
      let rest = drop (i + 1) es in
      sym (silent-layers token rest low (without-drop token (i + 1) es h)).0.longest
      ∙ longest-found token rest (texts-drop (i + 1) es (are-texts token es h));
}
