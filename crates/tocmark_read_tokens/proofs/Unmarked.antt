-- A text without a backslash and an ampersand is left as it is where escapes and references are resolved.
use Rattle.std.proofs.Common.{◌≡◌, ℕ, ◌+◌, ◌^◌, ◌<◌, ◌≤◌, true, false, ◌==◌, nat_le, List, [], ◌∷◌, ◌++◌, length, drop, refl, ap, sym, ◌∙◌, arith, append_assoc, append-nil, length-append, None}
use Rattle.std.proofs.lemmas.Bool.Decides.{nat_tests}
use Rattle.std.specs.List.{fold, list_any}
use Rattle.tocmark_read_scan.specs.Basic.{plus, byte_at, starts_at}
use Rattle.tocmark_read_scan.proofs.PlainPlaces.{drop_at, byte_dropped}
use Rattle.tocmark_read_scan.proofs.PlainTests.{both_false}
use Rattle.tocmark_read_scan.specs.declared.syntax.Names.{Names}
use Rattle.tocmark_read_scan.specs.declared.syntax.Names.TheVariants.{Four, All}
use Rattle.tocmark_read_tokens.specs.Name as name
use Rattle.tocmark_read_tokens.specs.Reference.{State, is_escape, reference_at, named, unescape_at, unescape_at_in, unescape_step_in, unescaped_in}

-- no name is referred to where no ampersand is
nothing_named : (names : Names) (all : List ℕ) (p : ℕ) → (byte_at all p == 38) ≡ false → name.named_in names all p ≡ None
unfolding name.named name.name_at
nothing_named Four all p h = refl
nothing_named All all p h = rw h refl

nothing_referred : (all rest : List ℕ) (p b : ℕ) → drop p all ≡ b ∷ rest → (b == 38) ≡ false → reference_at all p ≡ None
unfolding reference_at named starts_at
nothing_referred all rest p b e h = let other : (38 == b) ≡ false = grind (arith, h, nat_tests) in rw (e, other) refl

no_escape : (all : List ℕ) (p : ℕ) → (byte_at all p == 92) ≡ false → is_escape all p ≡ false
unfolding is_escape
no_escape all p h = rw h refl

-- a byte that is neither is taken as it is
taken : (names : Names) (all rest : List ℕ) (s : State) (b : ℕ) → drop s.place all ≡ b ∷ rest → (b == 92) ≡ false → (b == 38) ≡ false → s.resume ≤ s.place → unescape_step_in names all s b ≡ record s { out = s.out ++ b ∷ []; place = plus s.place 1 }
unfolding unescape_step_in unescape_at_in unescape_at
taken names all rest s b e back amp h =
    let on : nat_le s.resume s.place ≡ true = grind (arith, nat_tests) in
    let here : byte_at all s.place ≡ b = byte_dropped all s.place b rest e in
    let name : name.named_in names all s.place ≡ None = nothing_named names all s.place (ap (λ x. x == 38) here ∙ amp) in
    let escape : is_escape all s.place ≡ false = no_escape all s.place (ap (λ x. x == 92) here ∙ back) in
    let reference : reference_at all s.place ≡ None = nothing_referred all rest s.place b e amp in
    rw (on, name, escape, reference) refl

-- the bytes after those that are taken
all_taken : (names : Names) (all pre rest : List ℕ) → all ≡ pre ++ rest → list_any (λ b. b == 92) rest ≡ false → list_any (λ b. b == 38) rest ≡ false → length all < 2 ^ 64 → (fold (unescape_step_in names all) (record { out = pre; place = length pre; resume = 0 }) rest).out ≡ all
all_taken names all pre [] e backs amps fits = sym (e ∙ append-nil pre)
all_taken names all pre (b ∷ bs) e backs amps fits =
    let back = both_false (b == 92) (list_any (λ x. x == 92) bs) backs in
    let amp = both_false (b == 38) (list_any (λ x. x == 38) bs) amps in
    let more : all ≡ (pre ++ b ∷ []) ++ bs = e ∙ sym (append_assoc pre (b ∷ []) bs) in
    let long : length all ≡ length pre + length (b ∷ bs) = ap length e ∙ length-append pre (b ∷ bs) in
    let next : plus (length pre) 1 ≡ length (pre ++ b ∷ []) = grind (arith, length-append) in
    let start : State = record { out = pre; place = length pre; resume = 0 } in
    ap (λ (s : State). (fold (unescape_step_in names all) s bs).out) (taken names all bs start b (drop_at all pre (b ∷ bs) (length pre) e refl) (back.0) (amp.0) (omega arith))
    ∙ ap (λ p. (fold (unescape_step_in names all) (record { out = pre ++ b ∷ []; place = p; resume = 0 }) bs).out) next
    ∙ all_taken names all (pre ++ b ∷ []) bs more (back.1) (amp.1) fits

pub left_alone : (names : Names) (bytes : List ℕ) → list_any (λ b. b == 92) bytes ≡ false → list_any (λ b. b == 38) bytes ≡ false → length bytes < 2 ^ 64 → unescaped_in names bytes ≡ bytes
unfolding unescaped_in
left_alone names bytes backs amps fits = all_taken names bytes [] bytes refl backs amps fits
