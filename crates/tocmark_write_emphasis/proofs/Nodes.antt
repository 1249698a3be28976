-- What the columns say of a place is what an opening there is told.
use Rattle.std.proofs.Common.{◌≡◌, ℕ, zero, suc, ◌+◌, ◌-◌, ◌<◌, ◌≤◌, Bool, true, false, List, [], ◌∷◌, ◌++◌, Option, Some, None, IfSome, refl, sym, ap, ◌∙◌, subst, map, drop, take, reverse, length, get_or, slice_index_or, arith, if◌then◌else◌}
use Rattle.std.specs.Prelude.{not, ◌&&◌, ◌||◌, ◌==◌, is_none, unwrap_or}
use Rattle.std.proofs.lemmas.List.{reverse-append, drop-drop}
use Rattle.std.proofs.lemmas.Bool.{eqb-true, false≢true}
use Rattle.std.proofs.Math.Seq.{take-add}
use Rattle.tocmark_event.specs.Forest.{empty, leaf, node, flat_onto}
use Rattle.tocmark_event.specs.View.{EventView, TagView, Emphasis, Strong, SourcedEvent, Start, End, Leaf, unsourced, end_of}
use Rattle.tocmark_event.specs.Options.{OptionsView}
use Rattle.tocmark_event.specs.declared.event.flags.ParserOptions.{ParserOptions}
use Rattle.tocmark_spelling.specs.Body.{Trees}
use Rattle.tocmark_spelling.specs.Buffered.{sourced, event_of, buffered_view}
use Rattle.tocmark_spelling.specs.Edges.{edge_after, edge_before}
use Rattle.tocmark_spelling.specs.Kinds.{is_emphasis_or_strong, starts}
use Rattle.tocmark_spelling.specs.Look.{is_preferred}
use Rattle.tocmark_spelling.specs.Machine.{kids_of}
use Rattle.tocmark_spelling.specs.Marker.{ends_delimiter, is_strong}
use Rattle.tocmark_spelling.specs.Page.{front}
use Rattle.tocmark_spelling.specs.PlanOf.{setting_of}
use Rattle.tocmark_spelling.specs.Runs.{Run, behind_run, is_marker, marker_only, run_at, text_only, tag_width, end_width, start_width, close_width}
use Rattle.tocmark_spelling.specs.Scans.{span}
use Rattle.tocmark_spelling.specs.Words.{or_else}
use Rattle.tocmark_spelling.specs.declared.buffered.BufferedEvent.{BufferedEvent}
use Rattle.tocmark_spelling.proofs.Turns.{before-event, drop-all, drop-event, events-take, length-events}
use Rattle.tocmark_write_pending.specs.Ahead.{behind_body, body_in, closing_ahead, opening_ahead, up_to_end, width_ahead_of, is_disturbed, IsNested}
use Rattle.tocmark_write_pending.specs.OpenContainers.{left_open}
use Rattle.tocmark_write_pending.specs.RunColumn.{Ends, Starts, is_counted, run_here, run_view}
use Rattle.tocmark_write_pending.specs.WidthColumn.{width_at}
use Rattle.tocmark_write_pending.proofs.Ahead.{place-rest, place-before, opening-look, closing-look, width-look, prefers-look}
use Rattle.tocmark_write_emphasis.specs.Facts.{Readings, tag_of, tag_at}
use Rattle.tocmark_write_emphasis.specs.declared.facts.EmphasisEvents.{EmphasisEvents}
use Rattle.tocmark_write_emphasis.specs.ColumnsOf.{AreColumns}
use Rattle.tocmark_write_emphasis.specs.Low.{HasLowLiterals}
use Rattle.tocmark_write_emphasis.specs.NodeOf.{Begins, IsTold, IsNodeOf, no_run}
use Rattle.tocmark_write_emphasis.specs.declared.columns.Columns.{Columns}

unsourced-sourced : (e : EventView) (s : Option (List ℕ)) → unsourced (sourced e s) ≡ e
unsourced-sourced (Start t) s = refl
unsourced-sourced (End k) s = refl
unsourced-sourced (Leaf l) s = refl

-- the event before a place
pub front-before : (es : List BufferedEvent) (i : ℕ) (b : BufferedEvent) → 0 < i → i - 1 < length es → b ≡ get_or es (i - 1) b → Some (unsourced (buffered_view b)) ≡ front (reverse (take i (map buffered_view es)))
front-before es i b p lt e =
    let q : i - 1 + 1 ≡ i = omega arith in
    ap front (sym (before-event es (i - 1) b lt e))
    ∙ ap (λ n. front (reverse (map buffered_view (take n es)))) q
    ∙ ap (λ x. front (reverse x)) (events-take es i)

-- the event just after a place
pub front-behind : (es : List BufferedEvent) (i : ℕ) (b : BufferedEvent) (next : Option EventView) → i + 1 < length es → b ≡ get_or es (i + 1) b → Some (event_of b) ≡ or_else (front (drop (i + 1) (map buffered_view es))) next
front-behind es i b next lt e =
    ap Some (sym (unsourced-sourced (event_of b) _))
    ∙ ap (λ x. or_else (front x) next) (sym (drop-event es (i + 1) b lt e))

-- no event is after a place
pub none-behind : (es : List BufferedEvent) (i : ℕ) (next : Option EventView) → length es ≤ i + 1 → next ≡ or_else (front (drop (i + 1) (map buffered_view es))) next
none-behind es i next le = ap (λ x. or_else (front x) next) (sym (drop-all (map buffered_view es) (i + 1) (omega (arith, length-events es))))

strong-is : (t : TagView) → is_emphasis_or_strong t ≡ true → tag_of (is_strong t) ≡ t
strong-is Emphasis e = refl
strong-is Strong e = refl
strong-is t e = absurd (false≢true e)

-- the End of a container is after its children
end-flat : (f : Trees) (d : ℕ) (r : List SourcedEvent) → drop (span d (flat_onto f r)) (flat_onto f r) ≡ drop (span d r) r
end-flat empty d r = refl
end-flat (leaf l f) zero r = end-flat f zero r
end-flat (leaf l f) (suc d) r = end-flat f (suc d) r
end-flat (node t kids f) d r = end-flat kids (suc d) (End (end_of t) ∷ flat_onto f r) ∙ end-flat f d r

-- so it ends it
open-flat : (f : Trees) (d : ℕ) (r : List SourcedEvent) → left_open d (flat_onto f r) ≡ left_open d r
open-flat empty d r = refl
open-flat (leaf l f) zero r = open-flat f zero r
open-flat (leaf l f) (suc d) r = open-flat f (suc d) r
open-flat (node t kids f) d r = open-flat kids (suc d) (End (end_of t) ∷ flat_onto f r) ∙ open-flat f d r

module _ (t : TagView) (rest : List SourcedEvent) (nested : IsNested t rest) where
  end-stands : drop (span 0 rest) rest ≡ End (end_of t) ∷ behind_body rest
  end-stands =
      ap (λ (es : List SourcedEvent). drop (span 0 es) es) nested
      ∙ end-flat (kids_of rest) 0 (End (end_of t) ∷ behind_body rest)

  has-ended : left_open 0 rest ≡ None
  has-ended = ap (left_open 0) nested ∙ open-flat (kids_of rest) 0 (End (end_of t) ∷ behind_body rest)

-- the events before the End of a container
before-end : (es rest : List SourcedEvent) (i end : ℕ) (t : TagView) → drop i es ≡ Start t ∷ rest → end ≡ i + 1 + span 0 rest → reverse (take end es) ≡ up_to_end (Start t ∷ reverse (take i es)) rest
before-end es rest i end t at q =
    ap (λ n. reverse (take n es)) q
    ∙ ap reverse (take-add (i + 1) (span 0 rest) es)
    ∙ reverse-append (take (i + 1) es) (take (span 0 rest) (drop (i + 1) es))
    ∙ ap (λ x. reverse (take (span 0 rest) x) ++ reverse (take (i + 1) es)) (place-rest es rest i (Start t) at)
    ∙ ap (λ x. reverse (body_in rest) ++ x) (place-before es rest i (Start t) at)

-- the events after it
pub behind-end : (es rest : List SourcedEvent) (i end : ℕ) (t : TagView) → drop i es ≡ Start t ∷ rest → end ≡ i + 1 + span 0 rest → drop (end + 1) es ≡ behind_body rest
behind-end es rest i end t at q =
    let place : end + 1 ≡ i + 1 + suc (span 0 rest) = omega (arith, q) in
    ap (λ n. drop n es) place ∙ sym (drop-drop (suc (span 0 rest)) (i + 1) es) ∙ ap (drop (suc (span 0 rest))) (place-rest es rest i (Start t) at)

-- by the marks that were asked for
prefers-by : (reading : Readings) (es rest : List SourcedEvent) (i : ℕ) (t : TagView) (c : Columns) (preferred layout_is : Bool) (o : OptionsView) (flags : ParserOptions) (label : Option (List ℕ))
    → AreColumns reading es c → drop i es ≡ Start t ∷ rest → layout_is ≡ preferred
    → slice_index_or (if preferred then c.by_neighbours.items else c.by_runs.items) i false ≡ is_disturbed (setting_of o flags reading label) (not layout_is) (Start t ∷ reverse (take i es)) rest
prefers-by reading es rest i t c true layout_is o flags label cols at e =
    cols.by_neighbours o flags label i t rest at ∙ ap (λ b. is_disturbed (setting_of o flags reading label) (not b) (Start t ∷ reverse (take i es)) rest) (sym e)
prefers-by reading es rest i t c false layout_is o flags label cols at e =
    cols.by_runs o flags label i t rest at ∙ ap (λ b. is_disturbed (setting_of o flags reading label) (not b) (Start t ∷ reverse (take i es)) rest) (sym e)

-- what was found at a place
pub record IsFound (es : List SourcedEvent) (i end : ℕ) (e : SourcedEvent) (c : Columns) (preferred : Bool) (next : Option EventView) (n : EmphasisEvents) : Type 0 where
  pub strong : n.strong ≡ starts is_strong (unsourced e)
  pub follows : n.follows_closing ≡ ends_delimiter (front (reverse (take i es)))
  pub next_is : n.next ≡ edge_after (or_else (front (drop (end + 1) es)) next)
  pub opening : run_view n.opening ≡ unwrap_or (run_here (reverse (take i es)) (drop i es)) no_run
  pub closing : run_view n.closing ≡ unwrap_or (run_here (reverse (take end es)) (drop end es)) no_run
  pub width : n.width ≡ width_at (drop i es)
  pub prefers : n.prefers ≡ slice_index_or (if preferred then c.by_neighbours.items else c.by_runs.items) i false

start-run : (t : TagView) (back rest : List SourcedEvent) → is_emphasis_or_strong t ≡ true → run_here back (Start t ∷ rest) ≡ Some (run_at start_width (tag_width t) back rest)
start-run Emphasis back rest h = refl
start-run Strong back rest h = refl
start-run t back rest h = absurd (false≢true h)

end-run : (t : TagView) (back rest : List SourcedEvent) → is_emphasis_or_strong t ≡ true → run_here back (End (end_of t) ∷ rest) ≡ Some (run_at close_width (tag_width t) back rest)
end-run Emphasis back rest h = refl
end-run Strong back rest h = refl
end-run t back rest h = absurd (false≢true h)

start-is : (es rest : List SourcedEvent) (i : ℕ) (e : SourcedEvent) (t : TagView) → drop i es ≡ e ∷ drop (i + 1) es → drop i es ≡ Start t ∷ rest → e ≡ Start t
start-is es rest i e t a b = ap (λ x. get_or x 0 e) (sym a ∙ b)

-- a place where a container of emphasis or strong emphasis starts
module _ (reading : Readings) (es rest : List SourcedEvent) (i end : ℕ) (e : SourcedEvent) (t : TagView) (c : Columns) (preferred : Bool) (next : Option EventView) (n : EmphasisEvents) (cols : AreColumns reading es c) (end_is : end ≡ i + 1 + span 0 rest) (event : drop i es ≡ e ∷ drop (i + 1) es) (begins : Begins es i t rest) (found : IsFound es i end e c preferred next n) where
  behind : drop (end + 1) es ≡ behind_body rest
  behind = behind-end es rest i end t begins.at end_is

  tag-is : tag_at n ≡ t
  tag-is =
      ap tag_of (found.strong ∙ ap (λ x. starts is_strong (unsourced x)) (start-is es rest i e t event begins.at))
      ∙ strong-is t begins.delimits

  opening-is : run_view n.opening ≡ opening_ahead t (reverse (take i es)) rest
  opening-is =
      found.opening
      ∙ ap (λ (xs : List SourcedEvent). unwrap_or (run_here (reverse (take i es)) xs) no_run) begins.at
      ∙ ap (λ (o : Option Run). unwrap_or o no_run) (start-run t (reverse (take i es)) rest begins.delimits)

  -- its End
  end-there : drop end es ≡ End (end_of t) ∷ behind_body rest
  end-there =
      ap (λ k. drop k es) end_is
      ∙ sym (drop-drop (span 0 rest) (i + 1) es)
      ∙ ap (drop (span 0 rest)) (place-rest es rest i (Start t) begins.at)
      ∙ end-stands t rest begins.nested

  closing-is : run_view n.closing ≡ closing_ahead t (reverse (take i es)) rest
  closing-is =
      found.closing
      ∙ ap (λ (xs : List SourcedEvent). unwrap_or (run_here (reverse (take end es)) xs) no_run) end-there
      ∙ ap (λ (o : Option Run). unwrap_or o no_run) (end-run t (reverse (take end es)) (behind_body rest) begins.delimits)
      ∙ ap (λ (back : List SourcedEvent). run_at close_width (tag_width t) back (behind_body rest)) (before-end es rest i end t begins.at end_is)

  width-is : n.width ≡ width_ahead_of t rest
  width-is =
      found.width
      ∙ ap width_at begins.at
      ∙ (λ j. if is_none (has-ended t rest begins.nested j) then width_ahead_of t rest else 0)

  told-is : IsTold reading es i preferred t rest next n
  told-is o flags label m layout =
      let s = setting_of o flags reading label in
      let before_all = reverse (take i es) in
      let prefers : n.prefers ≡ is_disturbed s (not (is_preferred m.plan.layout)) (Start t ∷ before_all) rest =
      found.prefers ∙ prefers-by reading es rest i t c preferred (is_preferred m.plan.layout) o flags label cols begins.at layout in
      record {
        follows_closing = sym found.follows;
        next = sym (found.next_is ∙ ap (λ x. edge_after (or_else (front x) next)) behind);
        opening = opening-look s m t before_all rest next begins.nested ∙ sym opening-is;
        closing = closing-look s m t before_all rest next begins.nested ∙ sym closing-is;
        width = width-look s m t before_all rest next begins.nested ∙ sym width-is;
        prefers =
            prefers-look s m t before_all rest next begins.nested
            ∙ ap (λ b. b && is_disturbed s (not (is_preferred m.plan.layout)) (Start t ∷ before_all) rest) begins.delimits
            ∙ sym prefers;
      }

  pub node-is : IsNodeOf reading es i preferred t rest next n
  node-is = record { tag = tag-is; told = told-is }

-- ---- the markers beside a node in Texts

pub marker-bound : (c : ℕ) → is_marker c ≡ true → c < 128
marker-bound c e = by_case (c == 42) refl e
  where
    by_case : (b : Bool) → c == 42 ≡ b → b || (c == 95) ≡ true → c < 128
    by_case true q e = let same = eqb-true c 42 q in omega (arith, same)
    by_case false q e = let same = eqb-true c 95 e in omega (arith, same)

pub marker_only-low : (o : Option ℕ) → IfSome (marker_only o) (λ c. c < 128)
marker_only-low None = tt
marker_only-low (Some c) = by_case (is_marker c) (marker-bound c)
  where
    by_case : (b : Bool) → (b ≡ true → c < 128) → IfSome (if b then Some c else None) (λ c. c < 128)
    by_case true h = h refl
    by_case false h = tt

-- the markers beside a run are ASCII
record IsLow (r : Run) : Type 0 where
  before : IfSome r.literal_before (λ c. c < 128)
  after : IfSome r.literal_after (λ c. c < 128)

at-low : (width : SourcedEvent → ℕ) (own : ℕ) (back after : List SourcedEvent) → IsLow (run_at width own back after)
at-low width own back after = record {
  before = marker_only-low (edge_before (text_only (front (behind_run width back))));
  after = marker_only-low (edge_after (text_only (front (behind_run width after))));
}

if-low : (b : Bool) (r : Run) → IsLow r → IsLow (unwrap_or (if b then Some r else None) no_run)
if-low true r h = h
if-low false r h = record { before = tt; after = tt }

run-low : (back es : List SourcedEvent) → IsLow (unwrap_or (run_here back es) no_run)
run-low back [] = record { before = tt; after = tt }
run-low back (Start t ∷ after) = if-low (is_counted Starts (Start t)) (run_at start_width (tag_width t) back after) (at-low start_width (tag_width t) back after)
run-low back (End k ∷ after) = if-low (is_counted Ends (End k)) (run_at close_width (end_width k) back after) (at-low close_width (end_width k) back after)
run-low back (Leaf l ∷ after) = record { before = tt; after = tt }

pub literals-low : (es : List SourcedEvent) (i end : ℕ) (n : EmphasisEvents) → run_view n.opening ≡ unwrap_or (run_here (reverse (take i es)) (drop i es)) no_run → run_view n.closing ≡ unwrap_or (run_here (reverse (take end es)) (drop end es)) no_run → HasLowLiterals n
literals-low es i end n opening closing =
    let left : IsLow (run_view n.opening) = subst IsLow (sym opening) (run-low (reverse (take i es)) (drop i es)) in
    let right : IsLow (run_view n.closing) = subst IsLow (sym closing) (run-low (reverse (take end es)) (drop end es)) in
    record { before = left.before; after = right.after }

-- the event just after a container
pub next-is : (es rest : List SourcedEvent) (i end : ℕ) (t : TagView) → end ≡ i + 1 + span 0 rest → Begins es i t rest → or_else (front (drop (end + 1) es)) None ≡ front (behind_body rest)
next-is es rest i end t place begins =
    or-none (front (drop (end + 1) es)) ∙ ap front (behind-end es rest i end t begins.at place)
  where
    or-none : (o : Option EventView) → or_else o None ≡ o
    or-none None = refl
    or-none (Some e) = refl
