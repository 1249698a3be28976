-- The runs of a text are in order.
use Rattle.std.proofs.Common.{◌≤◌, ℕ, zero, suc, Bool, true, false, if◌then◌else◌, List, [], ◌∷◌, arith, drop, length}
use Rattle.tocmark_spelling.specs.Runs.{is_marker}
use Rattle.tocmark_write_renderer.specs.RunsOf.{AreInOrder, begun, ends_at, longer, runs_of, with_marker}
use Rattle.tocmark_write_renderer.specs.declared.marker_runs.MarkerRun.{MarkerRun}

-- before a later place, too
pub order-later : (m n : ℕ) (rs : List MarkerRun) → m ≤ n → AreInOrder m rs → AreInOrder n rs
order-later m n [] le h = tt
order-later m n (r ∷ rs) le h = (h.0, omega (arith, le, h.1), h.2)

with-order : (b n : ℕ) (rs : List MarkerRun) → AreInOrder n rs → AreInOrder (suc n) (with_marker b n rs)
with-order b n [] h = (omega arith, omega arith, tt)
with-order b n (r ∷ rs) h = by (ends_at b n r)
  where
    by : (x : Bool) → AreInOrder (suc n) (if x then longer r ∷ rs else begun b n ∷ r ∷ rs)
    by true = (omega arith, omega (arith, h.1), h.2)
    by false = (omega arith, omega arith, h)

pub runs-order : (bs : List ℕ) → AreInOrder (length bs) (runs_of bs)
runs-order [] = tt
runs-order (b ∷ bs) = by (is_marker b) (runs-order bs)
  where
    by : (x : Bool) → AreInOrder (length bs) (runs_of bs) → AreInOrder (suc (length bs)) (if x then with_marker b (length bs) (runs_of bs) else runs_of bs)
    by true h = with-order b (length bs) (runs_of bs) h
    by false h = order-later (length bs) (suc (length bs)) (runs_of bs) (omega arith) h

-- without the last ones, too
pub order-drop : (limit m : ℕ) (rs : List MarkerRun) → AreInOrder limit rs → AreInOrder limit (drop m rs)
order-drop limit zero rs h = h
order-drop limit (suc m) [] h = tt
order-drop limit (suc m) (r ∷ rs) h = order-later r.start limit (drop m rs) (omega (arith, h.1)) (order-drop r.start m rs h.2)
