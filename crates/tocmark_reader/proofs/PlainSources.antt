-- What the source says at the places of parts.
use Rattle.std.proofs.Common.{◌≡◌, ℕ, zero, suc, ◌+◌, ◌<◌, ◌≤◌, Bool, true, false, ◌==◌, ◌||◌, if◌then◌else◌, nat_lt, nat_le, List, [], ◌∷◌, ◌++◌, length, slice_index, refl, ap, sym, subst, ◌∙◌, arith, append_assoc, append-nil, length-append, Option, Some, None, flat_map, IsAscii}
use Rattle.std.proofs.lemmas.Bool.Decides.{nat_tests}
use Rattle.std.proofs.lemmas.Str.{IsUtf8-from_ascii, utf8_lossy-IsUtf8}
use Rattle.std.specs.List.{AllByRecursion}
use Rattle.std.specs.Str.Lossy.{utf8_lossy}
use Rattle.tocmark_read_scan.specs.Basic.{bytes_between}
use Rattle.tocmark_read_scan.proofs.PlainPieces.{piece_between}
use Rattle.tocmark_read_page.specs.Definitions.{replaced}
use Rattle.tocmark_reader.specs.Range.{snapped, is_cut}
use Rattle.tocmark_reader.specs.Words.{cleaned}
use Rattle.tocmark_reader.proofs.PlainEvents.{source_of, AreSourced}
use Rattle.tocmark_read_scan.specs.PlainParts.{Part, Bare, Escaped, Referred, Feed, spelled}

-- a byte of ASCII, neither U+0000 nor a carriage return
pub record IsClean (b : ℕ) : Type 0 where
  pub ascii : b < 128
  pub some : (b == 0) ≡ false
  pub return : (b == 13) ≡ false

abbrev pub AreClean : List ℕ → Type 0
AreClean bytes = AllByRecursion IsClean bytes

pub all_front : (P : ℕ → Type 0) (xs ys : List ℕ) → AllByRecursion P (xs ++ ys) → AllByRecursion P xs
all_front P [] ys h = tt
all_front P (x ∷ xs) ys h = (h.0, all_front P xs ys (h.1))

pub all_behind : (P : ℕ → Type 0) (xs ys : List ℕ) → AllByRecursion P (xs ++ ys) → AllByRecursion P ys
all_behind P [] ys h = h
all_behind P (x ∷ xs) ys h = all_behind P xs ys (h.1)

pub all_implied : (P Q : ℕ → Type 0) (xs : List ℕ) → ((b : ℕ) → P b → Q b) → AllByRecursion P xs → AllByRecursion Q xs
all_implied P Q [] f h = tt
all_implied P Q (x ∷ xs) f h = (f x (h.0), all_implied P Q xs f (h.1))

pub clean_ascii : (xs : List ℕ) → AreClean xs → IsAscii xs
clean_ascii [] h i = omega arith
clean_ascii (x ∷ xs) h zero = (h.0).ascii
clean_ascii (x ∷ xs) h (suc i) = clean_ascii xs (h.1) i

replaced_clean : (xs : List ℕ) → AreClean xs → flat_map replaced xs ≡ xs
unfolding replaced
replaced_clean [] h = refl
replaced_clean (x ∷ xs) h = rw (h.0).some (ap (λ (l : List ℕ). x ∷ l) (replaced_clean xs (h.1)))

cleaned_clean : (xs : List ℕ) → AreClean xs → cleaned xs false ≡ xs
unfolding cleaned
cleaned_clean xs h =
    ap (λ (l : List ℕ). utf8_lossy (l ++ [])) (replaced_clean xs h)
    ∙ ap utf8_lossy (append-nil xs)
    ∙ utf8_lossy-IsUtf8 xs (IsUtf8-from_ascii xs (clean_ascii xs h))

index_clean : (text : List ℕ) (at : ℕ) → AreClean text → at < length text → slice_index text at < 128
index_clean [] at h k = absurd (omega arith)
index_clean (x ∷ xs) zero h k = (h.0).ascii
index_clean (x ∷ xs) (suc at) h k = index_clean xs at (h.1) (omega arith)

-- such a text may be cut anywhere
cut_clean : (text : List ℕ) (at : ℕ) → AreClean text → at ≤ length text → is_cut text at ≡ true
cut_clean text at h k = by_end (nat_lt at (length text)) refl
  where
    by_end : (c : Bool) → nat_lt at (length text) ≡ c → (if c then nat_lt (slice_index text at) 128 || nat_le 192 (slice_index text at) else (at == length text)) ≡ true
    by_end true e =
        let within : at < length text = grind (arith, nat_tests) in
        let low : slice_index text at < 128 = index_clean text at h within in
        let yes : nat_lt (slice_index text at) 128 ≡ true = grind (arith, nat_tests) in
        rw yes refl
    by_end false e = grind (arith, nat_tests)

pub snapped_clean : (text : List ℕ) (start end : ℕ) → AreClean text → start ≤ end → end ≤ length text → snapped text start end ≡ (start, end)
snapped_clean text start end h order fits =
    let o : nat_le start end ≡ true = grind (arith, nat_tests) in
    rw (o, cut_clean text start h (omega arith), cut_clean text end h fits) refl

-- the text of a range is the piece that is there
pub source_between : (text pre l rest : List ℕ) (start end : ℕ) → text ≡ pre ++ (l ++ rest) → start ≡ length pre → end ≡ length pre + length l → AreClean text → source_of text start end ≡ l
source_between text pre l rest start end e s t h =
    let all : length text ≡ length pre + (length l + length rest) = ap length e ∙ length-append pre (l ++ rest) ∙ ap (λ n. length pre + n) (length-append l rest) in
    let clean : AreClean l = all_front IsClean l rest (all_behind IsClean pre (l ++ rest) (subst AreClean e h)) in
    ap (λ (r : ℕ × ℕ). cleaned (bytes_between text (r.0) (r.1)) false) (snapped_clean text start end h (omega arith) (omega arith))
    ∙ ap (λ (xs : List ℕ). cleaned xs false) (piece_between text pre l rest start end e s t)
    ∙ cleaned_clean l clean

-- where the open text begins: after what is before it
abbrev pub IsOpen : Option ℕ → List ℕ → List ℕ → Type 0
IsOpen None pre mid = mid ≡ []
IsOpen (Some start) pre mid = start ≡ length pre

regrouped : (text pre mid xs rest : List ℕ) → text ≡ pre ++ (mid ++ (xs ++ rest)) → text ≡ (pre ++ (mid ++ xs)) ++ rest
regrouped text pre mid xs rest e = e ∙ ap (λ (l : List ℕ). pre ++ l) (sym (append_assoc mid xs rest)) ∙ sym (append_assoc pre (mid ++ xs) rest)

longer : (pre mid xs : List ℕ) (p : ℕ) → p ≡ length pre + length mid → p + length xs ≡ length (pre ++ (mid ++ xs))
longer pre mid xs p e = grind (arith, length-append)

-- a text of parts says at each place what the parts are
pub sourced_parts : (text pre mid : List ℕ) (o : Option ℕ) (p : ℕ) (parts : List Part) → AreClean text → text ≡ pre ++ (mid ++ spelled parts) → p ≡ length pre + length mid → IsOpen o pre mid → AreSourced (source_of text) p o parts
sourced_parts text pre mid o p [] h e at k = tt
sourced_parts text pre mid None p (Bare b ∷ parts) h e at k =
    let here : text ≡ pre ++ ((b ∷ []) ++ spelled parts) = e ∙ ap (λ (l : List ℕ). pre ++ (l ++ b ∷ spelled parts)) k in
    let front : p ≡ length pre = at ∙ ap (λ (l : List ℕ). length pre + length l) k ∙ (let q : length pre + 0 ≡ length pre = omega arith in q) in (
      source_between text pre (b ∷ []) (spelled parts) p (p + 1) here front (ap (λ n. n + 1) front) h,
      sourced_parts text pre (b ∷ []) (Some p) (p + 1) parts h here (ap (λ n. n + 1) front) front,
    )
sourced_parts text pre mid (Some start) p (Bare b ∷ parts) h e at k =
    let more : text ≡ pre ++ ((mid ++ b ∷ []) ++ spelled parts) = e ∙ ap (λ (l : List ℕ). pre ++ l) (sym (append_assoc mid (b ∷ []) (spelled parts))) in
    let end : p + 1 ≡ length pre + length (mid ++ b ∷ []) = grind (arith, length-append) in (
      source_between text pre (mid ++ b ∷ []) (spelled parts) start (p + 1) more k end h
          ∙ ap (λ (l : List ℕ). l ++ b ∷ []) (sym (source_between text pre mid (b ∷ spelled parts) start p e k at h)),
      sourced_parts text pre (mid ++ b ∷ []) (Some start) (p + 1) parts h more end k,
    )
sourced_parts text pre mid o p (Escaped b ∷ parts) h e at k =
    let front : List ℕ = pre ++ (mid ++ 92 ∷ []) in
    let there : text ≡ front ++ ((b ∷ []) ++ spelled parts) = regrouped text pre mid (92 ∷ []) (b ∷ spelled parts) e in
    let first : p + 1 ≡ length front = longer pre mid (92 ∷ []) p at in
    let end : p + 2 ≡ length front + 1 = omega arith in (
      source_between text front (b ∷ []) (spelled parts) (p + 1) (p + 2) there first end h,
      sourced_parts text front (b ∷ []) (Some (p + 1)) (p + 2) parts h there end first,
    )
sourced_parts text pre mid o p (Referred c bs ∷ parts) h e at k =
    sourced_parts text (pre ++ (mid ++ 38 ∷ bs)) [] None (p + suc (length bs)) parts h (regrouped text pre mid (38 ∷ bs) (spelled parts) e) (longer pre mid (38 ∷ bs) p at ∙ (let q : length (pre ++ (mid ++ 38 ∷ bs)) ≡ length (pre ++ (mid ++ 38 ∷ bs)) + 0 = omega arith in q)) refl
sourced_parts text pre mid o p (Feed ∷ parts) h e at k =
    sourced_parts text (pre ++ (mid ++ 10 ∷ [])) [] None (p + 1) parts h (regrouped text pre mid (10 ∷ []) (spelled parts) e) (longer pre mid (10 ∷ []) p at ∙ (let q : length (pre ++ (mid ++ 10 ∷ [])) ≡ length (pre ++ (mid ++ 10 ∷ [])) + 0 = omega arith in q)) refl
