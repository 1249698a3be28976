-- Lines that are written in parts.
use Rattle.std.proofs.Common.{◌≡◌, ℕ, List, [], ◌∷◌, ◌++◌, ◌<◌, Option, Some, None, Result, Ok, Err, map, refl, ap, sym, ◌∙◌, append_assoc, append-nil, subst, arith, length, take, drop, take-append-drop, ◌+◌, ◌-◌}
use Rattle.std.specs.Io.KnownBytes.{Appends}
use Rattle.std.specs.Prelude.{OnErr}
use Rattle.std.proofs.lemmas.Grind.{flat_map-append}
use Rattle.std.proofs.lemmas.List.{length-append, map-append, nil_from_length, take_rest}
use Rattle.std.proofs.KnownBytes.{Appends-nil, Appends-trans}
use Rattle.tocmark_event.specs.Reading.{ReadingView}
use Rattle.tocmark_event.specs.View.{EventView}
use Rattle.tocmark_json.specs.Json.{located_json, pair_json}
use Rattle.tocmark_json.specs.Printed.{lines_text, located_lines}
use Rattle.tocmark_json.specs.declared.positions.Positions.{Positions}
use Rattle.tocmark_json.specs.declared.positions.Details.{Details}
use Rattle.serde_json.specs.Written.{compact_text}
use Rattle.tocmark_reader.specs.Left.{IsPart}
use Rattle.tocmark_state.specs.Ranges.{Pair, Range}
use Rattle.tocmark_documents.specs.Interchange.{located_in}
use Rattle.tocmark_documents.specs.Lines.{AppendsFront, AppendsUpTo, lines_with}

-- the lines of events are those of a front and those of the rest
lines_append : (ps : Option Positions) (xs ys : List (EventView × Range)) → lines_with ps (xs ++ ys) ≡ lines_with ps xs ++ lines_with ps ys
lines_append None xs ys =
    let paired : EventView × Range → Pair = λ (e : EventView × Range). (e.0, Some e.1) in
    ap lines_text (map-append paired xs ys) ∙ flat_map-append (λ p. compact_text (pair_json p) ++ 10 ∷ []) (map paired xs) (map paired ys)
lines_append (Some p) xs ys =
    let located : EventView × Range → Pair × Option Details = located_in p.bytes.now in
    ap located_lines (map-append located xs ys) ∙ flat_map-append (λ l. compact_text (located_json l) ++ 10 ∷ []) (map located xs) (map located ys)

no_lines : (ps : Option Positions) → lines_with ps [] ≡ []
no_lines None = refl
no_lines (Some p) = refl

-- what holds of an error
pub on_error : {T E : Type 0} (r : Result T E) {P : Type 0} → P → OnErr r P
on_error (Ok x) p = tt
on_error (Err e) p = p

-- nothing is a front of each text
pub nothing_written : (old : Option (List ℕ)) (text : List ℕ) → AppendsFront old old text
nothing_written old text = (text, ([], refl, Appends-nil old))

-- some lines are written, some are gathered, and the events that are left make the others
pub record IsStreaming (ps : Option Positions) (old new : Option (List ℕ)) (gathered : List ℕ) (left all : List (EventView × Range)) : Type 0 where
  pub written : List ℕ
  pub appended : Appends old new written
  pub whole : lines_with ps all ≡ written ++ (gathered ++ lines_with ps left)

-- nothing is written
pub none_written : (ps : Option Positions) (old : Option (List ℕ)) (gathered : List ℕ) (all : List (EventView × Range)) → gathered ≡ [] → IsStreaming ps old old gathered all all
none_written ps old gathered all none = record { written = []; appended = Appends-nil old; whole = ap (λ (l : List ℕ). l ++ lines_with ps all) (sym none) }

-- the lines of a part are gathered
pub more_gathered : (ps : Option Positions) (old new : Option (List ℕ)) (before after : List ℕ) (part rest left all : List (EventView × Range)) → IsStreaming ps old new before left all → left ≡ part ++ rest → after ≡ before ++ lines_with ps part → IsStreaming ps old new after rest all
more_gathered ps old new before after part rest left all h is more = record {
  written = h.written;
  appended = h.appended;
  whole =
      h.whole
      ∙ ap (λ (l : List ℕ). h.written ++ l) (
      ap (λ (l : List (EventView × Range)). before ++ lines_with ps l) is
      ∙ ap (λ (l : List ℕ). before ++ l) (lines_append ps part rest)
      ∙ sym (append_assoc before (lines_with ps part) (lines_with ps rest))
      ∙ ap (λ (l : List ℕ). l ++ lines_with ps rest) (sym more));
}

-- gathered lines are written, or a front of them
pub passed_on : (ps : Option Positions) (old mid new : Option (List ℕ)) (before after : List ℕ) (left all : List (EventView × Range)) → IsStreaming ps old mid before left all → AppendsUpTo mid new before after → IsStreaming ps old new after left all
passed_on ps old mid new before after left all h (front, is, moved) = record {
  written = h.written ++ front;
  appended = Appends-trans old mid new h.written front h.appended moved;
  whole =
      h.whole
      ∙ ap (λ (l : List ℕ). h.written ++ l) (ap (λ (l : List ℕ). l ++ lines_with ps left) is ∙ append_assoc front after (lines_with ps left))
      ∙ sym (append_assoc h.written front (after ++ lines_with ps left));
}

-- memory ran out
pub stopped : (ps : Option Positions) (old new : Option (List ℕ)) (gathered : List ℕ) (left all : List (EventView × Range)) → IsStreaming ps old new gathered left all → AppendsFront old new (lines_with ps all)
stopped ps old new gathered left all h = (gathered ++ lines_with ps left, (h.written, h.whole, h.appended))

-- the output failed
pub failed : (ps : Option Positions) (old mid new : Option (List ℕ)) (gathered : List ℕ) (left all : List (EventView × Range)) → IsStreaming ps old mid gathered left all → AppendsFront mid new gathered → AppendsFront old new (lines_with ps all)
failed ps old mid new gathered left all h (rest, moved) = stopped ps old new rest left all (passed_on ps old mid new gathered rest left all h moved)

-- all lines are written
pub ended : (ps : Option Positions) (old mid new : Option (List ℕ)) (gathered : List ℕ) (left all : List (EventView × Range)) → IsStreaming ps old mid gathered left all → left ≡ [] → Appends mid new gathered → Appends old new (lines_with ps all)
ended ps old mid new gathered left all h none moved =
    subst (Appends old new) (sym (h.whole ∙ ap (λ (l : List ℕ). h.written ++ l) (ap (λ (l : List (EventView × Range)). gathered ++ lines_with ps l) none ∙ ap (λ (l : List ℕ). gathered ++ l) (no_lines ps) ∙ append-nil gathered)))
    (Appends-trans old mid new h.written gathered h.appended moved)

-- more bytes of a front were taken
pub moves_front : (all done rest : List ℕ) (n : ℕ) → all ≡ done ++ rest → all ≡ (done ++ take n rest) ++ take (length rest - n) (drop n rest)
moves_front all done rest n e =
    e ∙ ap (λ (l : List ℕ). done ++ l) (sym (take-append-drop n rest)) ∙ sym (append_assoc done (take n rest) (drop n rest)) ∙ ap (λ (l : List ℕ). (done ++ take n rest) ++ l) (sym (take_rest rest n))

longer : (m n k : ℕ) → m ≡ n + k → (n ≡ 0 → ⊥) → k < m
longer m n k h some = omega arith

-- each part leaves fewer events
pub fewer_left : (part old new : ReadingView) → IsPart part old new → length new.events < length old.events
fewer_left part old new is =
    longer (length old.events) (length part.events) (length new.events)
    (ap (λ (v : ReadingView). length v.events) is.first ∙ length-append part.events new.events)
    (λ none. is.some (nil_from_length part.events none))
