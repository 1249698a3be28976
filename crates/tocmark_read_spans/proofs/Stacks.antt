-- A stack that is written over the first runs of a list.
use Rattle.std.proofs.Common.{◌≡◌, ℕ, ◌+◌, ◌-◌, ◌^◌, ◌<◌, ◌≤◌, ◌==◌, true, false, List, length, take, drop, get_or, refl, sym, ap, ◌∙◌, arith}
use Rattle.std.specs.Prelude.{slice_set}
use Rattle.std.specs.List.{fold}
use Rattle.std.proofs.lemmas.List.{take-take, drop-drop, drop-set-lt, drop_more}
use Rattle.std.proofs.Math.Seq.{take-set-lt}
use Rattle.tocmark_read_scan.specs.Basic.{plus}
use Rattle.tocmark_read_spans.specs.Emphasis.{State, Keeps, shortened, with_count, run_step}
use Rattle.tocmark_read_spans.specs.declared.run.Run.{Run}

-- the opener goes, too
pub cut_down : (runs : List Run) (height place : ℕ) (opener : Run) (width : ℕ) → place < height → (opener.count - width == 0) ≡ true → take place runs ≡ shortened place opener width (take height runs)
cut_down runs height place opener width within none =
    rw none (sym (take-take place height runs (omega (arith, within))))

-- the opener stays, with so many delimiters less
pub cut_behind : (runs : List Run) (height place : ℕ) (opener : Run) (width : ℕ) → place < height → height ≤ length runs → length runs < 2 ^ 64 → (opener.count - width == 0) ≡ false → take (place + 1) (slice_set runs place (with_count (opener.count - width) opener)) ≡ shortened place opener width (take height runs)
cut_behind runs height place opener width within high fits some =
    let shorter : Run = with_count (opener.count - width) opener in
    let next : plus place 1 ≡ place + 1 = omega (arith, within, high, fits) in
    rw (some, next) (take-set-lt (place + 1) runs place shorter (omega arith) ∙ ap (λ (l : List Run). slice_set l place shorter) (sym (take-take (place + 1) height runs (omega (arith, within)))))

-- what is written below a height leaves the runs above it
pub still_above : (runs : List Run) (height place : ℕ) (run : Run) → place < height → drop height (slice_set runs place run) ≡ drop height runs
still_above runs height place run below = drop-set-lt height runs place run below

-- lists that agree from one place on agree from a later one on
agree_later : (a b : ℕ) (xs ys : List Run) → a ≤ b → drop a xs ≡ drop a ys → drop b xs ≡ drop b ys
agree_later a b xs ys le same =
    let parts : a + (b - a) ≡ b = omega (arith, le) in
    ap (λ n. drop n xs) (sym parts) ∙ sym (drop-drop (b - a) a xs) ∙ ap (drop (b - a)) same ∙ drop-drop (b - a) a ys ∙ ap (λ n. drop n ys) parts

-- a list of runs that isn't written keeps what it was
pub keeps_all : (top : ℕ) (runs : List Run) → Keeps top runs top runs
keeps_all top runs = (omega arith, refl)

-- one change after another
pub keeps_on : (top height last : ℕ) (old new newer : List Run) → Keeps top old height new → Keeps height new last newer → Keeps top old last newer
keeps_on top height last old new newer h k = (omega (arith, h.0, k.0), agree_later height top newer new (h.0) (k.1) ∙ h.1)

-- one more run may be on the stack
pub keeps_below : (top height : ℕ) (old new : List Run) → Keeps top old height new → Keeps (top + 1) old height new
keeps_below top height old new h = (omega (arith, h.0), agree_later top (top + 1) new old (omega arith) (h.1))

-- a run is put on the stack after another change
pub keeps_pushed : (top height last : ℕ) (old new newer : List Run) → Keeps top old height new → Keeps (height + 1) new last newer → Keeps (top + 1) old last newer
keeps_pushed top height last old new newer h k =
    keeps_on (top + 1) (height + 1) last old new newer
    (omega (arith, h.0), agree_later top (top + 1) new old (omega arith) (h.1))
    k

-- the next run is taken: the further ones are still what they were
pub taken_on : (s next : State) (runs newer : List Run) (at height last : ℕ) (d : Run) → at < length runs → height ≤ at → Keeps (height + 1) runs last newer → next ≡ run_step s (get_or runs at d) → fold run_step next (drop (at + 1) newer) ≡ fold run_step s (drop at runs)
taken_on s next runs newer at height last d within low kept step =
    ap (λ (l : List Run). fold run_step next l) (agree_later (height + 1) (at + 1) newer runs (omega (arith, low)) (kept.1))
    ∙ ap (λ t. fold run_step t (drop (at + 1) runs)) step
    ∙ sym (ap (fold run_step s) (drop_more runs at d within))
