-- A fence is longer than each run of its character.
use Rattle.std.proofs.Common.{◌≡◌, ℕ, zero, suc, ◌+◌, ◌≤◌, Bool, true, false, cond, if◌then◌else◌, List, [], ◌∷◌, ◌++◌, refl, sym, subst, arith, eq-eqb, replicate, chars}
use Rattle.tocmark_event.specs.Options.{OptionsView}
use Rattle.tocmark_write_texts.specs.Leaves.{run_length, longest_run}
use Rattle.tocmark_spelling.specs.Opening.{fence, fence_length, fence_token}
use Rattle.tocmark_laws.specs.CodeBlocks.{HasRun, IsFence, clashes}

front-run : (n c : ℕ) (after : List ℕ) → n ≤ run_length c (replicate n c ++ after)
front-run zero c after = omega arith
front-run (suc n) c after =
    let rest = front-run n c after in
    subst (λ b. suc n ≤ cond b (1 + run_length c (replicate n c ++ after)) 0) (sym (eq-eqb c c refl)) (omega (arith, rest))

front-longest : (c : ℕ) (text : List ℕ) → run_length c text ≤ longest_run c text
front-longest c [] = omega arith
front-longest c (d ∷ ds) = omega arith

inner-run : (before : List ℕ) (n c : ℕ) (after : List ℕ) → n ≤ longest_run c (before ++ replicate n c ++ after)
inner-run [] n c after =
    let front = front-run n c after in
    let longest = front-longest c (replicate n c ++ after) in
    omega (arith, front, longest)
inner-run (b ∷ before) n c after =
    let rest = inner-run before n c after in
    omega (arith, rest)

pub any-run : (n c : ℕ) (text : List ℕ) → HasRun n c text → n ≤ longest_run c text
any-run n c text h = subst (λ t. n ≤ longest_run c t) (sym h.is) (inner-run h.before n c h.after)

-- no backtick is after the fence that is chosen
no-clash : (token : ℕ) (info : List ℕ) → clashes (if clashes token info then 126 else token) info ≡ false
no-clash token info = by_test (clashes token info) refl
  where
    by_test : (b : Bool) → clashes token info ≡ b → clashes (if b then 126 else token) info ≡ false
    by_test true e = refl
    by_test false e = e

-- the fence of a code block is one
pub fence-is : (o : OptionsView) (info text : List ℕ) → IsFence o info text (fence o info text)
fence-is o info text = record {
  token = fence_token o info;
  count = fence_length o (fence_token o info) text;
  is = refl;
  least = omega arith;
  preferred = omega arith;
  longer = λ n h. let within = any-run n (fence_token o info) (chars text) h in omega (arith, within);
  token_is = refl;
  stands = no-clash o.code_block_token info;
}
