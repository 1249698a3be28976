-- The characters beyond a run, from the record of an event in it, or from an event in none.
use Rattle.std.proofs.Common.{◌≡◌, ℕ, true, false, Option, Some, None, List, ◌∷◌, sym, ap, ◌∙◌}
use Rattle.std.proofs.lemmas.Bool.{false≢true}
use Rattle.tocmark_event.specs.View.{SourcedEvent, Start, End, Leaf, unsourced}
use Rattle.tocmark_spelling.specs.Edges.{edge_after, edge_before, event_edge}
use Rattle.tocmark_spelling.specs.Page.{front}
use Rattle.tocmark_spelling.specs.Runs.{Run, close_width, end_width, run_after, run_at, run_before, start_width, tag_width}
use Rattle.tocmark_spelling.specs.Words.{first_character, last_character}
use Rattle.tocmark_write_pending.specs.RunColumn.{Counted, Ends, Starts, is_counted, run_here, width_of}
use Rattle.tocmark_write_pending.proofs.RunColumn.{behind-cons, behind-other, pick-true}

-- an event of a run has its record
run-counted : (c : Counted) (e : SourcedEvent) (back rest : List SourcedEvent) → is_counted c e ≡ true → run_here back (e ∷ rest) ≡ Some (run_at (width_of c) (width_of c e) back rest)
run-counted Starts (Start t) back rest h = pick-true (is_counted Starts (Start t)) (Some (run_at start_width (tag_width t) back rest)) None h
run-counted Starts (End k) back rest h = absurd (false≢true h)
run-counted Starts (Leaf l) back rest h = absurd (false≢true h)
run-counted Ends (Start t) back rest h = absurd (false≢true h)
run-counted Ends (End k) back rest h = pick-true (is_counted Ends (End k)) (Some (run_at close_width (end_width k) back rest)) None h
run-counted Ends (Leaf l) back rest h = absurd (false≢true h)

module _ (c : Counted) (e : SourcedEvent) (back rest : List SourcedEvent) (run : Option Run) (is : run ≡ run_here back (e ∷ rest)) where
  -- before the run that ends with it
  pub before-record : is_counted c e ≡ true → (character : Option ℕ) → ((r : Run) → run ≡ Some r → character ≡ r.before) → character ≡ run_before (width_of c) (e ∷ back)
  before-record h character found =
      found (run_at (width_of c) (width_of c e) back rest) (is ∙ run-counted c e back rest h)
      ∙ ap (λ (zs : List SourcedEvent). edge_before (front zs)) (sym (behind-cons c e back h))

  -- after the run that begins with it
  pub behind-record : is_counted c e ≡ true → (character : Option ℕ) → ((r : Run) → run ≡ Some r → character ≡ r.after) → character ≡ run_after (width_of c) (e ∷ rest)
  behind-record h character found =
      found (run_at (width_of c) (width_of c e) back rest) (is ∙ run-counted c e back rest h)
      ∙ ap (λ (zs : List SourcedEvent). edge_after (front zs)) (sym (behind-cons c e rest h))

-- an event in none
pub before-other : (c : Counted) (e : SourcedEvent) (back : List SourcedEvent) → is_counted c e ≡ false → event_edge last_character (unsourced e) ≡ run_before (width_of c) (e ∷ back)
before-other c e back h = ap (λ (zs : List SourcedEvent). edge_before (front zs)) (sym (behind-other c e back h))

pub behind-other-is : (c : Counted) (e : SourcedEvent) (rest : List SourcedEvent) → is_counted c e ≡ false → event_edge first_character (unsourced e) ≡ run_after (width_of c) (e ∷ rest)
behind-other-is c e rest h = ap (λ (zs : List SourcedEvent). edge_after (front zs)) (sym (behind-other c e rest h))
