-- Runs of a token, when more is seen.
use Rattle.std.proofs.Common.{◌≡◌, ℕ, ◌+◌, ◌≤◌, max, ne_eqb, List, [], ◌∷◌, arith}
use Rattle.tocmark_write_texts.specs.Leaves.{run_length, longest_run}
use Rattle.tocmark_state.specs.WorkView.{at_most}
use Rattle.tocmark.specs.TokenCount.{longest_token_run}

run_length-le : (token : ℕ) (text : List ℕ) → run_length token text ≤ longest_run token text
run_length-le token [] = omega arith
run_length-le token (b ∷ bs) = omega arith

-- a run ends
pub run_ends : (longest last token b : ℕ) (rest : List ℕ) → (b ≡ token → ⊥)
    → max (max longest last) (max (0 + run_length token rest) (longest_run token rest))
    ≡ max longest (max (last + run_length token (b ∷ rest)) (longest_run token (b ∷ rest)))
run_ends longest last token b rest differs = let within = run_length-le token rest in rw (ne_eqb b token differs) (omega arith)

-- the greatest of two counts that stop
pub max-at_most : (m n : ℕ) → max (at_most m) (at_most n) ≡ at_most (max m n)
max-at_most m n = omega arith

-- the runs of a text, where nothing was seen before it
pub from_none : (text : List ℕ)
    → max (at_most (max 0 (max (0 + run_length 96 text) (longest_run 96 text)))) (at_most (max 0 (max (0 + run_length 126 text) (longest_run 126 text))))
    ≡ at_most (longest_token_run text)
from_none text = let ticks = run_length-le 96 text in let tildes = run_length-le 126 text in omega arith
