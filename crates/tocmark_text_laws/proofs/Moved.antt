-- Line feeds in front of a text, one after the other.
use Rattle.std.proofs.Common.{◌≡◌, ℕ, zero, suc, ◌+◌, ◌-◌, ◌^◌, ◌<◌, List, [], ◌∷◌, ◌++◌, length, map, pred, replicate, refl, ap, ◌∙◌, arith, length-append}
use Rattle.tocmark_event.specs.View.{EventView}
use Rattle.tocmark_reader.specs.Reading.{core_reading}
use Rattle.tocmark_text_laws.specs.EmptyLine.{moved_back, IsMovedBack, EmptyLinesInFront}
use Rattle.tocmark_text_laws.proofs.CoreKept.{blocks_core}
use Rattle.tocmark_text_laws.proofs.Events.{event_by}
use Rattle.tocmark_text_laws.proofs.Read.{same_reading, same_defined, same_unresolved}

none_less : (n : ℕ) → n - 0 ≡ n
none_less n = omega arith

not_moved : (es : List (EventView × (ℕ × ℕ))) → map (moved_back 0) es ≡ es
not_moved [] = refl
not_moved ((v, (a, b)) ∷ es) =
    ap (λ p. (v, (p, b - 0)) ∷ map (moved_back 0) es) (none_less a)
    ∙ ap (λ p. (v, (a, p)) ∷ map (moved_back 0) es) (none_less b)
    ∙ ap (λ xs. (v, (a, b)) ∷ xs) (not_moved es)

sooner : (n p : ℕ) → p - suc n ≡ pred p - n
sooner n zero = omega arith
sooner n (suc p) = omega arith

once_more : (n : ℕ) (es : List (EventView × (ℕ × ℕ))) → map (moved_back (suc n)) es ≡ map (moved_back n) (map (event_by pred) es)
once_more n [] = refl
once_more n ((v, (a, b)) ∷ es) =
    ap (λ p. (v, (p, b - suc n)) ∷ map (moved_back (suc n)) es) (sooner n a)
    ∙ ap (λ p. (v, (pred a - n, p)) ∷ map (moved_back (suc n)) es) (sooner n b)
    ∙ ap (λ xs. (v, (pred a - n, pred b - n)) ∷ xs) (once_more n es)

pub copies_length : (n b : ℕ) → length (replicate n b) ≡ n
copies_length zero b = refl
copies_length (suc n) b = ap suc (copies_length n b)

pub moves : EmptyLinesInFront
moves text zero h = record { events = not_moved (core_reading text).events; defined = refl; unresolved = refl }
moves text (suc n) h = by (moves text n (omega arith))
  where
    rest : List ℕ
    rest = replicate n 10 ++ text

    short : length rest + 3 < 2 ^ 64
    short = let l : length rest ≡ length (replicate n 10) + length text = length-append (replicate n 10) text in let c : length (replicate n 10) ≡ n = copies_length n 10 in omega (arith, h, l, c)

    by : IsMovedBack n (core_reading rest) (core_reading text) → IsMovedBack (suc n) (core_reading (10 ∷ rest)) (core_reading text)
    by before = record {
      events = once_more n (core_reading (10 ∷ rest)).events ∙ ap (map (moved_back n)) (same_reading rest short (blocks_core rest)) ∙ before.events;
      defined = same_defined rest short ∙ before.defined;
      unresolved = same_unresolved rest short (blocks_core rest) ∙ before.unresolved;
    }
