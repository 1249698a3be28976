-- What is noted of a text.
use Rattle.std.proofs.Common.{◌≡◌, ◌==◌, ◌<◌, ◌≤◌, ◌+◌, ◌-◌, ℕ, true, false, if◌then◌else◌, List, [], ◌∷◌, ◌++◌, sym, ap, ◌∙◌, arith, drop, get_or, length, length-append, min, reverse, set, subst, take}
use Rattle.std.specs.List.{prefix_len}
use Rattle.std.proofs.lemmas.Bool.{le-ltb, lt-ltb}
use Rattle.std.proofs.lemmas.List.{get_or-take, get_or_read, nil_from_length, length-reverse, length-take, length-take-le, length-set, reverse-append, drop_min, take-append-le, take_all, take_min, take_more, take_more_set, take-take}
use Rattle.tocmark_spelling.specs.Runs.{is_marker, last_run, run_around}
use Rattle.tocmark_write_renderer.specs.RunsOf.{AreInOrder, AreNoted, AreWhole, begun, cut_at, ends_at, length_round, longer, part_before, runs_of, with_marker}
use Rattle.tocmark_write_renderer.specs.declared.marker_runs.MarkerRun.{MarkerRun}
use Rattle.tocmark_write_renderer.specs.declared.marker_runs.MarkerRuns.{MarkerRuns}
use Rattle.tocmark_write_renderer.proofs.Backwards.{drop-turned}
use Rattle.tocmark_write_renderer.proofs.Cuts.{cut-is}
use Rattle.tocmark_write_renderer.proofs.Ends.{last_length, last-is}
use Rattle.tocmark_write_renderer.proofs.Order.{runs-order}
use Rattle.tocmark_write_renderer.proofs.Rounds.{round-run}

-- the last of some runs, by its place
pub last-run : (runs : List MarkerRun) (n : ℕ) (d : MarkerRun) → 0 < n → n ≤ length runs → reverse (take n runs) ≡ get_or runs (n - 1) d ∷ reverse (take (n - 1) runs)
last-run runs n d some le =
    let same : n - 1 + 1 ≡ n = omega (arith, some) in
    ap (λ m. reverse (take m runs)) (sym same)
    ∙ ap reverse (take_more runs (n - 1) d (omega (arith, some, le)))
    ∙ reverse-append (take (n - 1) runs) (get_or runs (n - 1) d ∷ [])

-- the last of them replaced
pub last-set : (runs : List MarkerRun) (n : ℕ) (r : MarkerRun) → 0 < n → n ≡ length runs → reverse (set runs (n - 1) r) ≡ r ∷ reverse (take (n - 1) runs)
last-set runs n r some e =
    let whole : length (set runs (n - 1) r) ≤ n - 1 + 1 = omega (arith, some, e, length-set runs (n - 1) r) in
    ap reverse (sym (take_all (n - 1 + 1) (set runs (n - 1) r) whole))
    ∙ ap reverse (take_more_set runs (n - 1) r (omega (arith, some, e)))
    ∙ reverse-append (take (n - 1) runs) (r ∷ [])

-- what is read at one place is the same twice
same-run : (runs : List MarkerRun) (i : ℕ) (r q : MarkerRun) → i < length runs → r ≡ get_or runs i r → q ≡ get_or runs i q → r ≡ q
same-run runs i r q l e f = get_or_read runs i r l e q ∙ sym f

-- the last run goes on
pub last-longer : (runs : List MarkerRun) (n marker place : ℕ) (r q : MarkerRun) → 0 < n → n ≡ length runs → r ≡ get_or runs (n - 1) r → q ≡ get_or runs (n - 1) q
    → ends_at marker place q ≡ true → reverse (set runs (n - 1) (longer r)) ≡ with_marker marker place (reverse runs)
last-longer runs n marker place r q some e at read ends =
    let rest = reverse (take (n - 1) runs) in
    let whole : take n runs ≡ runs = take_all n runs (omega (arith, e)) in
    let turned : reverse runs ≡ r ∷ rest = ap reverse (sym whole) ∙ last-run runs n r some (omega (arith, e)) ∙ ap (λ x. x ∷ rest) (sym at) in
    let ended : ends_at marker place r ≡ true = ap (ends_at marker place) (same-run runs (n - 1) r q (omega (arith, some, e)) at read) ∙ ends in
    last-set runs n (longer r) some e
    ∙ sym (ap (with_marker marker place) turned ∙ ap (λ b. if b then longer r ∷ rest else begun marker place ∷ r ∷ rest) ended)

-- the last run that starts before a place is shortened
pub last-cut : (runs : List MarkerRun) (n place : ℕ) (r : MarkerRun) → 0 < n → n ≡ length runs → r ≡ get_or runs (n - 1) r → r.start < place
    → reverse (set runs (n - 1) (part_before place r)) ≡ cut_at place (reverse runs)
last-cut runs n place r some e at less =
    let rest = reverse (take (n - 1) runs) in
    let whole : take n runs ≡ runs = take_all n runs (omega (arith, e)) in
    let turned : reverse runs ≡ r ∷ rest = ap reverse (sym whole) ∙ last-run runs n r some (omega (arith, e)) ∙ ap (λ x. x ∷ rest) (sym at) in
    last-set runs n (part_before place r) some e
    ∙ sym (ap (cut_at place) turned ∙ ap (λ b. if b then part_before place r ∷ rest else cut_at place rest) (lt-ltb r.start place less))

-- after the others after the place were dropped
pub cut-here : (runs short : List MarkerRun) (n place m : ℕ) (run r : MarkerRun) → 0 < n → n ≤ length runs → short ≡ take n runs → run ≡ get_or runs (n - 1) run
    → r ≡ get_or short (n - 1) r → run.start < place → m ≡ min run.length (place - run.start)
    → reverse (set short (n - 1) (record { marker = r.marker; start = r.start; length = m })) ≡ cut_at place (reverse (take n runs))
cut-here runs short n place m run r some le cut read at less part =
    let again : r ≡ get_or runs (n - 1) r = at ∙ ap (λ x. get_or x (n - 1) r) cut ∙ get_or-take n runs (n - 1) r (omega (arith, some)) in
    let same : run ≡ r = same-run runs (n - 1) run r (omega (arith, some, le)) read again in
    let count : n ≡ length short = sym (ap length cut ∙ length-take-le n runs le) in
    ap (λ k. reverse (set short (n - 1) (record { marker = r.marker; start = r.start; length = k }))) (part ∙ ap (λ (x : MarkerRun). min x.length (place - x.start)) same)
    ∙ last-cut short n place r some count at (subst (λ (x : MarkerRun). x.start < place) same less)
    ∙ ap (λ x. cut_at place (reverse x)) cut

-- one that starts there, or after it, is passed
pub last-passed : (runs : List MarkerRun) (n place : ℕ) (r : MarkerRun) → 0 < n → n ≤ length runs → r ≡ get_or runs (n - 1) r → place ≤ r.start
    → cut_at place (reverse (take (n - 1) runs)) ≡ cut_at place (reverse (take n runs))
last-passed runs n place r some le at later =
    let rest = reverse (take (n - 1) runs) in
    let turned : reverse (take n runs) ≡ r ∷ rest = last-run runs n r some le ∙ ap (λ x. x ∷ rest) (sym at) in
    sym (ap (cut_at place) turned ∙ ap (λ b. if b then part_before place r ∷ rest else cut_at place rest) (le-ltb r.start place later))

-- one more byte of a text
turned-more : (text : List ℕ) (i : ℕ) → i < length text → reverse (take (i + 1) text) ≡ get_or text i 0 ∷ reverse (take i text)
turned-more text i l = ap reverse (take_more text i 0 l) ∙ reverse-append (take i text) (get_or text i 0 ∷ [])

turned-length : (text : List ℕ) (i : ℕ) → i ≤ length text → length (reverse (take i text)) ≡ i
turned-length text i le = length-reverse (take i text) ∙ length-take-le i text le

-- a byte that is no marker was read
pub other-noted : (m new : MarkerRuns) (text : List ℕ) → AreNoted m text → m.read < length text → is_marker (get_or text m.read 0) ≡ false
    → new.runs.items ≡ m.runs.items → new.read ≡ m.read + 1 → AreNoted new text
other-noted m new text h l other same next = record {
  within = omega (arith, l, next);
  runs =
      ap reverse same ∙ h.runs ∙ sym (
      ap (λ i. runs_of (reverse (take i text))) next
      ∙ ap runs_of (turned-more text m.read l)
      ∙ ap (λ b. if b then with_marker (get_or text m.read 0) (length (reverse (take m.read text))) (runs_of (reverse (take m.read text))) else runs_of (reverse (take m.read text))) other
      );
}

-- a marker was
pub marker-noted : (m new : MarkerRuns) (text : List ℕ) → AreNoted m text → m.read < length text → is_marker (get_or text m.read 0) ≡ true
    → reverse new.runs.items ≡ with_marker (get_or text m.read 0) m.read (reverse m.runs.items) → new.read ≡ m.read + 1 → AreNoted new text
marker-noted m new text h l marker more next = record {
  within = omega (arith, l, next);
  runs =
      more
      ∙ ap (with_marker (get_or text m.read 0) m.read) h.runs
      ∙ ap (λ n. with_marker (get_or text m.read 0) n (runs_of (reverse (take m.read text)))) (sym (turned-length text m.read h.within))
      ∙ sym (
      ap (λ i. runs_of (reverse (take i text))) next
      ∙ ap runs_of (turned-more text m.read l)
      ∙ ap (λ b. if b then with_marker (get_or text m.read 0) (length (reverse (take m.read text))) (runs_of (reverse (take m.read text))) else runs_of (reverse (take m.read text))) marker
      );
}

-- the text has grown
pub grown-noted : (m : MarkerRuns) (text more : List ℕ) → AreNoted m text → AreNoted m (text ++ more)
grown-noted m text more h = record {
  within = omega (arith, h.within, length-append text more);
  runs = h.runs ∙ ap (λ x. runs_of (reverse x)) (sym (take-append-le m.read text more h.within));
}

-- it was cut in front of what was read
pub cut-noted : (m new : MarkerRuns) (text : List ℕ) → AreNoted m text → new.read < m.read
    → reverse new.runs.items ≡ cut_at new.read (reverse m.runs.items) → AreNoted new (take new.read text)
cut-noted m new text h l cut =
    let n = new.read in
    let front = take m.read text in
    let fits : n ≤ length text = omega (arith, l, h.within) in
    let sum : n + (m.read - n) ≡ length front = omega (arith, l, length-take-le m.read text h.within) in
    record {
      within = omega (arith, length-take-le n text fits);
      runs =
          cut
          ∙ ap (cut_at n) h.runs
          ∙ cut-is n (m.read - n) (reverse front) (sum ∙ sym (length-reverse front))
          ∙ ap runs_of (drop-turned front n (m.read - n) sum)
          ∙ ap (λ x. runs_of (reverse x)) (take-take n m.read text (omega (arith, l)) ∙ sym (take_all n (take n text) (omega (arith, length-take-le n text fits))));
    }

-- or after it
pub stay-noted : (m : MarkerRuns) (n : ℕ) (text : List ℕ) → AreNoted m text → m.read ≤ n → AreNoted m (take n text)
stay-noted m n text h le = record {
  within = omega (arith, length-take n text, h.within, le);
  runs = h.runs ∙ ap (λ x. runs_of (reverse x)) (sym (take-take m.read n text le));
}

-- all of it was read
pub whole-noted : (m : MarkerRuns) (text : List ℕ) → AreWhole m text → reverse m.runs.items ≡ runs_of (reverse text)
whole-noted m text h = h.noted.runs ∙ ap (λ x. runs_of (reverse x)) (take_all m.read text (omega (arith, h.whole)))

last-noted : (m : MarkerRuns) (text : List ℕ) → AreWhole m text → last_length (reverse m.runs.items) ≡ last_run text
last-noted m text h = ap last_length (whole-noted m text h) ∙ last-is (reverse text)

-- the last run
pub last-read : (m : MarkerRuns) (text : List ℕ) (items : List MarkerRun) (r : MarkerRun) → items ≡ m.runs.items → 0 < length items → r ≡ get_or items (length items - 1) r
    → AreWhole m text → r.length ≡ last_run text
last-read m text items r same some at h =
    ap (λ (x : MarkerRun). x.length) at
    ∙ sym (ap last_length (ap reverse (sym (take_all (length items) items (omega arith))) ∙ last-run items (length items) r some (omega arith)))
    ∙ ap (λ x. last_length (reverse x)) same
    ∙ last-noted m text h

pub none-read : (m : MarkerRuns) (text : List ℕ) (items : List MarkerRun) → items ≡ m.runs.items → length items ≤ 0 → AreWhole m text → 0 ≡ last_run text
none-read m text items same none h =
    let empty : items ≡ [] = nil_from_length items (omega (arith, none)) in
    sym (ap (λ x. last_length (reverse x)) empty) ∙ ap (λ x. last_length (reverse x)) same ∙ last-noted m text h

-- they are in order
pub order-noted : (m : MarkerRuns) (text : List ℕ) → AreWhole m text → AreInOrder (length (reverse text)) (reverse m.runs.items)
order-noted m text h = subst (AreInOrder (length (reverse text))) (sym (whole-noted m text h)) (runs-order (reverse text))

-- the run round a place that may be after the end
pub round-noted : (m : MarkerRuns) (text : List ℕ) (c place : ℕ) → AreWhole m text → is_marker c ≡ true
    → length_round c (min place (length text)) (reverse m.runs.items) ≡ run_around c place text
round-noted m text c place h marker =
    ap (length_round c (min place (length text))) (whole-noted m text h)
    ∙ round-run c (min place (length text)) text marker (omega arith)
    ∙ ap (λ x. prefix_len (λ b. b == c) (reverse x) + prefix_len (λ b. b == c) (drop (min place (length text)) text)) (take_min place text)
    ∙ ap (λ x. prefix_len (λ b. b == c) (reverse (take place text)) + prefix_len (λ b. b == c) x) (drop_min place text)
