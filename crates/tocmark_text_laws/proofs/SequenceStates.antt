-- What is open after two texts in a row is what is open after the second one.
use Rattle.std.proofs.Common.{◌≡◌, ℕ, ◌+◌, ◌-◌, ◌*◌, ◌^◌, ◌<◌, ◌≤◌, true, ◌||◌, List, [], ◌∷◌, ◌++◌, length, append_assoc, refl, ap, sym, subst, ◌∙◌, arith, length-append}
use Rattle.std.specs.List.{fold}
use Rattle.tocmark_read_lines.specs.Lines.{lines_from, lines_of}
use Rattle.tocmark_read_lines.specs.declared.container.Opened.{Opened}
use Rattle.tocmark_read_page.specs.Pages.{State, first_page, closed_to}
use Rattle.tocmark_read_blocks.specs.Blocks.{core_known, line_taken_in}
use Rattle.tocmark_text_laws.specs.Sequence.{after_lines, IsClosed, IsQuiet, ends_all, ends_before_blank}
use Rattle.tocmark_text_laws.specs.ListEnds.{has_quote, ends_leaf}
use Rattle.tocmark_text_laws.proofs.Shut.{closed_shut}
use Rattle.tocmark_text_laws.proofs.QuotedRun.{none_open}
use Rattle.tocmark_text_laws.proofs.NestRun.{After, all_lines, lines_few}
use Rattle.tocmark_text_laws.proofs.Pairs.{pairs_length}
use Rattle.tocmark_text_laws.proofs.SequencePages.{Earlier, OpenedOn, Onward, closed_on}
use Rattle.tocmark_text_laws.proofs.SequencePieces.{PieceOn}
use Rattle.tocmark_text_laws.proofs.SequenceLines.{Feed, Splits, split_lines, blanks_taken}
use Rattle.tocmark_text_laws.proofs.SequenceRun.{alone, begin_onward, blanked, blanked_lines, closed_already, feed_end, first_run, fold_both, none_of, quotes_none, second_run}
use Rattle.tocmark_text_laws.proofs.SequenceBlank.{ended}
use Rattle.tocmark_text_laws.proofs.ListEndsRun.{pairs_containers}
use Rattle.tocmark_text_laws.proofs.OneMoreLeft.{SameOpen, open_after}

-- pages that are alike have the same open
opens : (t q : List ℕ) (f : Earlier) (n : ℕ) (there here : State) → Onward t q f n there here → SameOpen there here
opens t q f n there here h = record { held = pairs_containers f there.opened here.opened h.opened; leaf = h.leaf }

then_open : (s u v : State) → SameOpen s u → SameOpen u v → SameOpen s v
then_open s u v h k = record { held = h.held ∙ k.held; leaf = h.leaf ∙ k.leaf }

-- so it is if the lines of the second text close what is open after the first one
pub states_after : (t u : List ℕ) → Feed t → 0 < length t → 4 * (length t + length u) + 20 < 2 ^ 64 → (split : Splits t u (length t) (lines_of (t ++ u)) (lines_of t))
    → fold (line_taken_in core_known (t ++ u)) (fold (line_taken_in core_known (t ++ u)) first_page (lines_of t)) (lines_from (t ++ u) split.count (length t) (length t) u)
    ≡ fold (line_taken_in core_known (t ++ u)) (closed_to (t ++ u) 0 (fold (line_taken_in core_known (t ++ u)) first_page (lines_of t))) (lines_from (t ++ u) split.count (length t) (length t) u)
    → (closed_to t 0 (after_lines t)).quotes ≡ [] → SameOpen (after_lines (t ++ u)) (after_lines u)
states_after t u feed some small split closes quotes = then_open (after_lines q) (after_lines v) (after_lines u) both (open_after k u (omega (arith, small)))
  where
    k : ℕ
    k = length t

    q : List ℕ
    q = t ++ u

    v : List ℕ
    v = blanked t u

    last : State
    last = fold (line_taken_in core_known q) first_page (lines_of t)

    there : State
    there = closed_to q 0 last

    here : State
    here = closed_to t 0 (after_lines t)

    first : Onward t q alone (0 + length (lines_of t)) there here
    first = closed_on t q alone (0 + length (lines_of t)) 0 last (after_lines t) (first_run t u small feed split some)

    none : there.opened ≡ []
    none = none_of there.opened (none_open q last)

    few : length there.pieces ≤ k + 1
    few = omega (arith, pairs_length (PieceOn t q) there.pieces here.pieces first.pieces, first.few, lines_few t 0 0 0 t)

    after_there : after_lines q ≡ fold (line_taken_in core_known q) there (lines_from q split.count k k u)
    after_there = ap (fold (line_taken_in core_known q) first_page) split.lines ∙ fold_both (line_taken_in core_known q) first_page (lines_of t) (lines_from q split.count k k u) ∙ closes

    after_here : after_lines v ≡ fold (line_taken_in core_known v) first_page (lines_from v k k k u)
    after_here = ap (fold (line_taken_in core_known v) first_page) (blanked_lines t u) ∙ blanks_taken v 0 k (lines_from v k k k u)

    both : SameOpen (after_lines q) (after_lines v)
    both =
        subst (λ s. SameOpen s (after_lines v)) (sym after_there)
        (subst (λ s. SameOpen (fold (line_taken_in core_known q) there (lines_from q split.count k k u)) s) (sym after_here)
        (opens v q _ _ _ _
        (second_run t u split.count _ there small split.few refl few (begin_onward v q there (k - split.count) (closed_shut q 0 last) none (first.quotes ∙ quotes) (omega (arith, few, small))))))

-- if nothing is open after the first text
pub closed_states : (t u : List ℕ) → IsClosed t → 4 * (length t + length u) + 20 < 2 ^ 64 → SameOpen (after_lines (t ++ u)) (after_lines u)
closed_states t u c small = states_after t u feed some small split (ap (λ (s : State). fold (line_taken_in core_known q) s (lines_from q split.count (length t) (length t) u)) (sym (closed_already q there (first.leaf ∙ c.leaf) none))) quotes
  where
    q : List ℕ
    q = t ++ u

    feed : Feed t
    feed = subst (λ xs. Feed xs) (sym ((c.line).1)) (feed_end ((c.line).0))

    some : 0 < length t
    some = omega (arith, ap length ((c.line).1), length-append ((c.line).0) (10 ∷ []))

    split : Splits t u (length t) (lines_of q) (lines_of t)
    split = split_lines t u (omega (arith, small)) feed

    here : State
    here = after_lines t

    there : State
    there = fold (line_taken_in core_known q) first_page (lines_of t)

    first : Onward t q alone (0 + length (lines_of t)) there here
    first = first_run t u small feed split some

    none : there.opened ≡ []
    none = none_of there.opened (pairs_length (OpenedOn alone) there.opened here.opened first.opened ∙ ap length c.opened)

    no_quotes : After here → here.quotes ≡ []
    no_quotes (a, n, r) = quotes_none a n here r c.leaf c.opened

    quotes : (closed_to t 0 here).quotes ≡ []
    quotes = ap (λ (s : State). s.quotes) (closed_already t here c.leaf c.opened) ∙ no_quotes (all_lines t (omega (arith, small)))

-- an empty line after a text that it ends
pub quiet_closed : (t : List ℕ) → IsQuiet t → 4 * length t + 28 < 2 ^ 64 → IsClosed (t ++ 10 ∷ [])
quiet_closed t c small = (ended t c small).closed

pub quiet_states : (t u : List ℕ) → IsQuiet t → 4 * (length t + length u) + 28 < 2 ^ 64 → SameOpen (after_lines (t ++ 10 ∷ u)) (after_lines u)
quiet_states t u c small =
    subst (λ x. SameOpen (after_lines x) (after_lines u)) (append_assoc t (10 ∷ []) u)
    (closed_states (t ++ 10 ∷ []) u (quiet_closed t c (omega (arith, small))) (omega (arith, small, length-append t (10 ∷ []))))

-- what is closed is quiet, and an empty line ends the leaf that is open after what is quiet

pub closed_quiet : (t : List ℕ) → IsClosed t → IsQuiet t
closed_quiet t c = record { line = c.line; ends = ap (λ (os : List Opened). ends_all os (after_lines t).leaf) c.opened ∙ ap ends_before_blank c.leaf }

quiet_leaf : (s : State) → ends_all s.opened s.leaf ≡ true → ends_leaf s ≡ true
quiet_leaf s h = by s.opened h
  where
    by : (os : List Opened) → ends_all os s.leaf ≡ true → (has_quote os || ends_before_blank s.leaf) ≡ true
    by [] e = e
    by (o ∷ os) e = ap (λ b. (b || has_quote os) || ends_before_blank s.leaf) e

pub quiet_ends : (t : List ℕ) → IsQuiet t → ends_leaf (after_lines t) ≡ true
quiet_ends t c = quiet_leaf (after_lines t) c.ends
