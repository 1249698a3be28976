-- Steps that are repeated as long as one can be taken.
use Rattle.std.specs.Prelude.{ℕ, zero, suc, Option, Some, None}

-- goes on where a step was taken
abbrev pub going : {C S : Type 0} → (C → S → S × C) → C → S × Option C → S × C
going more c (s, None) = (s, c)
going more c (s, Some d) = more d s

-- at most so many steps, each from what the one before left
unfoldable pub repeated : {C S : Type 0} → (C → S → S × Option C) → ℕ → C → S → S × C
repeated once zero c s = (s, c)
repeated once (suc n) c s = going (λ d t. repeated once n d t) c (once c s)

-- goes on where there is a next
abbrev pub going_on : {C : Type 0} → (C → C) → C → Option C → C
going_on more c None = c
going_on more c (Some d) = more d

-- at most so many steps without a state
unfoldable pub iterated : {C : Type 0} → (C → Option C) → ℕ → C → C
iterated next zero c = c
iterated next (suc n) c = going_on (λ d. iterated next n d) c (next c)
