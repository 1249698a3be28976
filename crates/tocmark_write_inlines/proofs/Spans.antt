-- Texts that are written in parts, and code spans.
use Rattle.std.proofs.Common.{◌≡◌, ℕ, zero, suc, List, [], ◌∷◌, ◌++◌, length, refl, ap, replicate, arith}
use Rattle.std.specs.Prelude.{Result, OnOk}
use Rattle.std.specs.List.{repeat}
use Rattle.tocmark_spelling.specs.Page.{Page, Path, written}
use Rattle.tocmark_write_renderer.specs.WriterOf.{Rendering, Stands, levels_of, page_of}
use Rattle.tocmark_write_renderer.proofs.Laid.{part-written}

-- nothing is written of an empty text
pub nothing-written : (path : Path) (bs : List ℕ) (p : Page) → length bs ≡ 0 → p ≡ written path bs p
nothing-written path [] p e = refl
nothing-written path (b ∷ bs) p e = absurd (omega arith)

-- a backtick so many times
pub repeat_tick : (n : ℕ) → repeat {A = ℕ} n (96 ∷ []) ≡ replicate n 96
repeat_tick zero = refl
repeat_tick (suc n) = ap (λ x. 96 ∷ x) (repeat_tick n)

-- two parts in turn
pub parts-written : {E : Type 0} (r : Result (Unit {0}) E) (u v w : Rendering) (path : Path) (p : Page) (a b c : List ℕ) → Stands u path (written path a p)
    → Stands v (levels_of u) (written (levels_of u) b (page_of u))
    → OnOk r (Stands w (levels_of v) (written (levels_of v) c (page_of v))) → OnOk r (Stands w path (written path (a ++ (b ++ c)) p))
parts-written r u v w path p a b c one two three =
    part-written r u w path p a (b ++ c) one (part-written r v w (levels_of u) (page_of u) b c two three)
