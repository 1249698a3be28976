-- Both passes over lines of words with hard and soft breaks between them.
use Rattle.std.proofs.Common.{◌≡◌, ℕ, zero, suc, ◌+◌, ◌-◌, ◌^◌, ◌<◌, ◌≤◌, max, true, false, ◌==◌, ◌||◌, nat_lt, nat_le, nat_eq, List, [], ◌∷◌, ◌++◌, length, replicate, slice_set, codes, refl, ap, sym, ◌∙◌, arith, append_assoc, length-append, Option, None, Some}
use Rattle.std.proofs.lemmas.Bool.Decides.{nat_tests}
use Rattle.std.proofs.lemmas.List.{length-replicate}
use Rattle.std.proofs.lemmas.List.Sums.{fold-append}
use Rattle.std.specs.List.{AllByRecursion, fold, starts_with}
use Rattle.tocmark_read_scan.specs.Basic.{plus, byte_at, starts_at}
use Rattle.tocmark_read_scan.specs.PlainParts.{last_byte}
use Rattle.tocmark_read_scan.specs.Repeat.{iterated}
use Rattle.tocmark_read_scan.specs.declared.syntax.Names.{Names}
use Rattle.tocmark_read_scan.specs.declared.syntax.Names.TheVariants.{Four, All}
use Rattle.tocmark_read_scan.specs.declared.syntax.Syntax.{Syntax}
use Rattle.tocmark_read_scan.proofs.PlainContent.{byte_behind}
use Rattle.tocmark_read_scan.proofs.PlainPlaces.{drop_at}
use Rattle.tocmark_read_scan.proofs.Repeats.{iterated_more, iterated_stop}
use Rattle.tocmark_read_tokens.specs.Reference.{is_escape}
use Rattle.tocmark_read_spans.specs.declared.definitions.Entry.{Entry}
use Rattle.tocmark_read_spans.specs.declared.role.Leaf.{Leaf}
use Rattle.tocmark_read_spans.specs.declared.role.Leaf.TheVariants as leaf
use Rattle.tocmark_read_spans.specs.declared.role.Role.{Role}
use Rattle.tocmark_read_spans.specs.declared.role.Role.TheVariants.{Plain, Hidden, Single}
use Rattle.tocmark_read_inlines.specs.Scan as s
use Rattle.tocmark_read_inlines.specs.Write as w
use Rattle.tocmark_read_inlines.specs.declared.write.InlineKind.TheVariants as item
use Rattle.tocmark_read_inlines.specs.declared.write.Node.{Node}
use Rattle.tocmark_read_inlines.proofs.PlainNodes.{node}
use Rattle.tocmark_read_inlines.proofs.PlainPasses.{set_behind}
use Rattle.tocmark_read_inlines.proofs.Sparse.{plain_fold}
use Rattle.tocmark_reader.proofs.QuietContent.{split_last}
use Rattle.tocmark_laws.specs.HardBreaks.{LineEnd, Softly, ByBackslash, BySpaces, NextLine, end_bytes, broken_text, lines_behind}
use Rattle.tocmark_laws.proofs.ExtensionBlocks.{never}
use Rattle.tocmark_laws.proofs.ExtensionParagraphs.{at_start, skip_bytes}
use Rattle.tocmark_laws.proofs.StrikethroughReading.{pass_words}
use Rattle.tocmark_laws.proofs.WordsReading.{IsWordByte, AreWords, word_byte}

-- ---- one mark

backslash_looked : (names : Names) (bytes : List ℕ) (ahead : s.Known) (find : List ℕ → Option Entry) (t : s.State) → s.looked_by names bytes ahead find 92 t ≡ s.escaped bytes t
unfolding s.looked s.looked_mark s.looked_all
backslash_looked Four bytes ahead find t = refl
backslash_looked All bytes ahead find t = refl

feed_looked : (names : Names) (bytes : List ℕ) (ahead : s.Known) (find : List ℕ → Option Entry) (t : s.State) → s.looked_by names bytes ahead find 10 t ≡ s.line_ended bytes t
unfolding s.looked s.looked_mark s.looked_all
feed_looked Four bytes ahead find t = refl
feed_looked All bytes ahead find t = refl

backslash_step : (syntax : Syntax) (bytes : List ℕ) (ahead : s.Known) (find : List ℕ → Option Entry) (t : s.State) → t.resume ≤ t.place → s.scan_step_in syntax bytes ahead find t 92 ≡ s.next_place (s.escaped bytes t)
unfolding s.scan_step_in s.looked_in s.is_mark_in s.is_mark s.is_tilde_in s.is_caret_in s.is_dollar_in s.is_note_end_in
backslash_step syntax bytes ahead find t h =
    let now : nat_le t.resume t.place ≡ true = grind (arith, nat_tests) in
    rw (never (syntax.strikethrough || syntax.subscript), never syntax.superscript, never syntax.math, never syntax.footnotes, never syntax.tables, now)
    (ap s.next_place (backslash_looked syntax.names bytes ahead find t))

feed_step : (syntax : Syntax) (bytes : List ℕ) (ahead : s.Known) (find : List ℕ → Option Entry) (t : s.State) → t.resume ≤ t.place → s.scan_step_in syntax bytes ahead find t 10 ≡ s.next_place (s.line_ended bytes t)
unfolding s.scan_step_in s.looked_in s.is_mark_in s.is_mark s.is_tilde_in s.is_caret_in s.is_dollar_in s.is_note_end_in
feed_step syntax bytes ahead find t h =
    let now : nat_le t.resume t.place ≡ true = grind (arith, nat_tests) in
    rw (never (syntax.strikethrough || syntax.subscript), never syntax.superscript, never syntax.math, never syntax.footnotes, never syntax.tables, now)
    (ap s.next_place (feed_looked syntax.names bytes ahead find t))

-- a backslash in front of a line feed
broken_by_backslash : (bytes : List ℕ) (t : s.State) → is_escape bytes t.place ≡ false → starts_at bytes t.place (codes "\\\n") ≡ true → s.escaped bytes t ≡ record t { roles = slice_set t.roles t.place (Single leaf.HardBreak (plus t.place 2)); resume = plus t.place 2 }
unfolding s.escaped s.put_leaf
broken_by_backslash bytes t h k = rw (h, k) refl

no_escape : (bytes pre rest : List ℕ) (p : ℕ) → bytes ≡ pre ++ 92 ∷ 10 ∷ rest → p ≡ length pre → p + 1 < 2 ^ 64 → is_escape bytes p ≡ false
unfolding is_escape
no_escape bytes pre rest p e at fits =
    let next : plus p 1 ≡ length (pre ++ 92 ∷ []) = grind (arith, length-append) in
    let feed : byte_at bytes (plus p 1) ≡ 10 =
    ap (λ (xs : List ℕ). byte_at xs (plus p 1)) (e ∙ sym (append_assoc pre (92 ∷ []) (10 ∷ rest))) ∙ byte_behind (pre ++ 92 ∷ []) rest 10 (plus p 1) next
    in
    rw feed (never (byte_at bytes p == 92))

stands_there : (bytes pre rest : List ℕ) (p : ℕ) → bytes ≡ pre ++ 92 ∷ 10 ∷ rest → p ≡ length pre → starts_at bytes p (codes "\\\n") ≡ true
unfolding starts_at
stands_there bytes pre rest p e at = ap (λ (xs : List ℕ). starts_with nat_eq xs (codes "\\\n")) (drop_at bytes pre (92 ∷ 10 ∷ rest) p e at)

-- a line feed after spaces that begin at a place
softly_ended : (bytes : List ℕ) (t : s.State) → iterated (s.before_space bytes) (length bytes) t.place ≡ t.place → s.line_ended bytes t ≡ record t { roles = slice_set (slice_set t.roles t.place Hidden) t.place (Single leaf.SoftBreak (plus t.place 1)) }
unfolding s.line_ended
softly_ended bytes t e =
    let none : nat_le 2 (t.place - t.place) ≡ false = let z : t.place - t.place ≡ 0 = omega arith in rw z refl in
    rw (e, none) refl

hardly_ended : (bytes : List ℕ) (t : s.State) (first : ℕ) → iterated (s.before_space bytes) (length bytes) t.place ≡ first → first + 2 ≤ t.place → s.line_ended bytes t ≡ record t { roles = slice_set t.roles first (Single leaf.HardBreak (plus t.place 1)) }
unfolding s.line_ended
hardly_ended bytes t first e h =
    let two : nat_le 2 (t.place - first) ≡ true = grind (arith, nat_tests) in
    rw (e, two) refl

-- ---- spaces in front of a line feed

shifted : (n : ℕ) (rest : List ℕ) → replicate (suc n) 32 ++ rest ≡ replicate n 32 ++ 32 ∷ rest
shifted zero rest = refl
shifted (suc n) rest = ap (λ (xs : List ℕ). 32 ∷ xs) (shifted n rest)

no_space : (bytes : List ℕ) (p : ℕ) → (byte_at bytes (p - 1) == 32) ≡ false → s.before_space bytes p ≡ None
unfolding s.before_space
no_space bytes p h = rw (h, never (nat_lt 0 p)) refl

one_space : (bytes : List ℕ) (p q : ℕ) → p ≡ q + 1 → byte_at bytes q ≡ 32 → s.before_space bytes p ≡ Some q
unfolding s.before_space
one_space bytes p q e h =
    let some : nat_lt 0 p ≡ true = grind (arith, nat_tests) in
    let back : p - 1 ≡ q = omega (arith, e) in
    rw (some, back, h) refl

back_over : (n : ℕ) (bytes pre rest : List ℕ) (p fuel : ℕ) → bytes ≡ pre ++ (replicate n 32 ++ rest) → p ≡ length pre → n < fuel → (byte_at bytes (p - 1) == 32) ≡ false → iterated (s.before_space bytes) fuel (p + n) ≡ p
back_over zero bytes pre rest p fuel e at h k =
    let same : p + 0 ≡ p = omega arith in
    ap (iterated (s.before_space bytes) fuel) same ∙ iterated_stop (s.before_space bytes) fuel p h (sym (no_space bytes p k))
back_over (suc n) bytes pre rest p fuel e at h k =
    let more : bytes ≡ pre ++ (replicate n 32 ++ 32 ∷ rest) = e ∙ ap (λ (xs : List ℕ). pre ++ xs) (shifted n rest) in
    let wide : length {A = ℕ} (replicate n 32) ≡ n = length-replicate n 32 in
    let place : p + n ≡ length {A = ℕ} (pre ++ replicate n 32) = (let q : length {A = ℕ} (pre ++ replicate n 32) ≡ length pre + length {A = ℕ} (replicate n 32) = length-append pre (replicate n 32) in omega (arith, q, wide, at)) in
    let byte : byte_at bytes (p + n) ≡ 32 =
    ap (λ (xs : List ℕ). byte_at xs (p + n)) (more ∙ sym (append_assoc pre (replicate n 32) (32 ∷ rest))) ∙ byte_behind (pre ++ replicate n 32) rest 32 (p + n) place
    in
    iterated_more (s.before_space bytes) fuel (p + suc n) (p + n) (omega arith) (sym (one_space bytes (p + suc n) (p + n) (omega arith) byte))
    ∙ back_over n bytes pre (32 ∷ rest) p (fuel - 1) more at (omega arith) k

-- ---- the roles of a break

abbrev pub leaf_of_end : LineEnd → Leaf
leaf_of_end Softly = leaf.SoftBreak
leaf_of_end ByBackslash = leaf.HardBreak
leaf_of_end (BySpaces more) = leaf.HardBreak

-- how many bytes a break has in front of its line feed
abbrev pub width_of : LineEnd → ℕ
width_of e = length (end_bytes e)

abbrev pub break_roles : ℕ → LineEnd → List Role
break_roles p e = Single (leaf_of_end e) (p + 1 + width_of e) ∷ replicate (width_of e) Plain

-- the roles of lines from a place on
abbrev pub line_roles : ℕ → List ℕ → List NextLine → List Role
line_roles p l [] = replicate (length l) Plain
line_roles p l (m ∷ ms) = replicate (length l) Plain ++ (break_roles (p + length l) m.behind ++ line_roles (p + length l + suc (width_of m.behind)) m.line ms)

abbrev pub plain : List ℕ → List Role
plain xs = replicate (length xs) Plain

pub plain_append : (xs ys : List ℕ) → plain (xs ++ ys) ≡ plain xs ++ plain ys
plain_append [] ys = refl
plain_append (x ∷ xs) ys = ap (λ (l : List Role). Plain ∷ l) (plain_append xs ys)

plain_feed : (xs rest : List ℕ) → plain (xs ++ 10 ∷ rest) ≡ Plain ∷ (plain xs ++ plain rest)
plain_feed [] rest = refl
plain_feed (x ∷ xs) rest = ap (λ (l : List Role). Plain ∷ l) (plain_feed xs rest)

-- the pass with these roles
abbrev pub with_roles : ℕ → List Role → ℕ → ℕ → s.State
with_roles size roles place resume = record (at_start size) { roles = roles; place = place; resume = resume }

space_byte : IsWordByte 32
space_byte = word_byte 32 refl

spaces_bytes : (n : ℕ) → AllByRecursion IsWordByte (replicate n 32)
spaces_bytes zero = tt
spaces_bytes (suc n) = (space_byte, spaces_bytes n)

-- the pass over a break
abbrev Breaks : Syntax → List ℕ → s.Known → (List ℕ → Option Entry) → ℕ → List Role → List ℕ → ℕ → ℕ → LineEnd → Type 0
Breaks syntax bytes ahead find size rs rest p r e =
    (k : ℕ) × (k ≤ p + suc (width_of e))
    × (fold (s.scan_step_in syntax bytes ahead find) (with_roles size (rs ++ plain (end_bytes e ++ 10 ∷ rest)) p r) (end_bytes e ++ 10 ∷ []) ≡ with_roles size (rs ++ (break_roles p e ++ plain rest)) (p + suc (width_of e)) k)

pass_break : (syntax : Syntax) (bytes : List ℕ) (ahead : s.Known) (find : List ℕ → Option Entry) (size : ℕ) (pre rest : List ℕ) (rs : List Role) (p r : ℕ) (e : LineEnd) → bytes ≡ pre ++ (end_bytes e ++ 10 ∷ rest) → p ≡ length pre → length rs ≡ p → r ≤ p → length bytes < 2 ^ 64 → (byte_at bytes (p - 1) == 32) ≡ false → Breaks syntax bytes ahead find size rs rest p r e
pass_break syntax bytes ahead find size pre rest rs p r Softly e at n now fits ink =
    let all : length bytes ≡ length pre + suc (length rest) = ap length e ∙ length-append pre (10 ∷ rest) in
    let next : plus p 1 ≡ p + 1 = omega (arith, all, at, fits) in
    let wide : p + 1 + 0 ≡ p + 1 = omega arith in
    let here : iterated (s.before_space bytes) (length bytes) p ≡ p = iterated_stop (s.before_space bytes) (length bytes) p (omega (arith, all)) (sym (no_space bytes p ink)) in
    let left : List Role = plain rest in
    let t : s.State = with_roles size (rs ++ Plain ∷ left) p r in
    let set : slice_set (slice_set (rs ++ Plain ∷ left) p Hidden) p (Single leaf.SoftBreak (plus p 1)) ≡ rs ++ Single leaf.SoftBreak (p + 1 + 0) ∷ left =
    ap (λ (x : List Role). slice_set x p (Single leaf.SoftBreak (plus p 1))) (set_behind rs left Plain Hidden p (sym n))
    ∙ set_behind rs left Hidden (Single leaf.SoftBreak (plus p 1)) p (sym n)
    ∙ ap (λ k. rs ++ Single leaf.SoftBreak k ∷ left) (next ∙ sym wide)
    in (
      r,
      omega arith,
      feed_step syntax bytes ahead find t now
          ∙ ap s.next_place (softly_ended bytes t here)
          ∙ ap (λ (x : List Role). with_roles size x (plus p 1) r) set
          ∙ ap (λ k. with_roles size (rs ++ Single leaf.SoftBreak (p + 1 + 0) ∷ left) k r) next,
    )
pass_break syntax bytes ahead find size pre rest rs p r ByBackslash e at n now fits ink =
    let all : length bytes ≡ length pre + suc (suc (length rest)) = ap length e ∙ length-append pre (92 ∷ 10 ∷ rest) in
    let next : plus p 1 ≡ p + 1 = omega (arith, all, at, fits) in
    let end : plus p 2 ≡ p + 1 + 1 = omega (arith, all, at, fits) in
    let last : p + 1 + 1 ≡ p + 2 = omega arith in
    let left : List Role = Plain ∷ plain rest in
    let t : s.State = with_roles size (rs ++ Plain ∷ left) p r in
    let made : List Role = rs ++ Single leaf.HardBreak (p + 1 + 1) ∷ left in
    let set : slice_set (rs ++ Plain ∷ left) p (Single leaf.HardBreak (plus p 2)) ≡ made =
    set_behind rs left Plain (Single leaf.HardBreak (plus p 2)) p (sym n) ∙ ap (λ k. rs ++ Single leaf.HardBreak k ∷ left) end
    in
    let one : s.scan_step_in syntax bytes ahead find t 92 ≡ with_roles size made (p + 1) (p + 1 + 1) =
    backslash_step syntax bytes ahead find t now
    ∙ ap s.next_place (broken_by_backslash bytes t (no_escape bytes pre rest p e at (omega (arith, all, at, fits))) (stands_there bytes pre rest p e at))
    ∙ ap (λ (x : List Role). with_roles size x (plus p 1) (plus p 2)) set
    ∙ ap (λ k. with_roles size made k (plus p 2)) next
    ∙ ap (λ k. with_roles size made (p + 1) k) end
    in (
      p + 1 + 1,
      omega arith,
      ap (λ (u : s.State). fold (s.scan_step_in syntax bytes ahead find) u (10 ∷ [])) one
          ∙ skip_bytes syntax bytes ahead find (10 ∷ []) (with_roles size made (p + 1) (p + 1 + 1)) (omega arith) (omega (arith, all, at, fits))
          ∙ ap (λ k. with_roles size made k (p + 1 + 1)) last,
    )
pass_break syntax bytes ahead find size pre rest rs p r (BySpaces more) e at n now fits ink =
    let count : ℕ = suc (suc more) in
    let spaces : List ℕ = 32 ∷ 32 ∷ replicate more 32 in
    let wide : length spaces ≡ count = length-replicate count 32 in
    let all : length bytes ≡ length pre + (length spaces + suc (length rest)) = ap length e ∙ length-append pre (spaces ++ 10 ∷ rest) ∙ ap (λ k. length pre + k) (length-append spaces (10 ∷ rest)) in
    let roles : List Role = rs ++ plain (spaces ++ 10 ∷ rest) in
    let left : List Role = plain spaces ++ plain rest in
    let t : s.State = with_roles size roles (p + length spaces) r in
    let back : iterated (s.before_space bytes) (length bytes) (p + length spaces) ≡ p =
    ap (λ k. iterated (s.before_space bytes) (length bytes) (p + k)) wide
    ∙ back_over count bytes pre (10 ∷ rest) p (length bytes) e at (omega (arith, all, wide)) ink
    in
    let next : plus (p + length spaces) 1 ≡ p + 1 + length spaces = omega (arith, all, at, fits) in
    let last : p + 1 + length spaces ≡ p + suc (length spaces) = omega arith in
    let made : List Role = rs ++ Single leaf.HardBreak (p + 1 + length spaces) ∷ left in
    let set : slice_set roles p (Single leaf.HardBreak (plus (p + length spaces) 1)) ≡ made =
    ap (λ (x : List Role). slice_set (rs ++ x) p (Single leaf.HardBreak (plus (p + length spaces) 1))) (plain_feed spaces rest)
    ∙ set_behind rs left Plain (Single leaf.HardBreak (plus (p + length spaces) 1)) p (sym n)
    ∙ ap (λ k. rs ++ Single leaf.HardBreak k ∷ left) next
    in (
      r,
      omega arith,
      fold-append (s.scan_step_in syntax bytes ahead find) (with_roles size roles p r) spaces (10 ∷ [])
          ∙ ap (λ (u : s.State). s.scan_step_in syntax bytes ahead find u 10) (pass_words syntax bytes ahead find spaces (with_roles size roles p r) (space_byte, (space_byte, spaces_bytes more)) (omega (arith, all, at, fits)))
          ∙ feed_step syntax bytes ahead find t (omega arith)
          ∙ ap s.next_place (hardly_ended bytes t p back (omega (arith, wide)))
          ∙ ap (λ (x : List Role). with_roles size x (plus (p + length spaces) 1) r) set
          ∙ ap (λ k. with_roles size made k r) (next ∙ last),
    )

-- ---- the first pass over lines

-- no space is before the end of a line
ink_before : (bytes pre : List ℕ) (b : ℕ) (bs rest : List ℕ) (p : ℕ) → bytes ≡ pre ++ ((b ∷ bs) ++ rest) → p ≡ length pre + length (b ∷ bs) → (last_byte b bs == 32) ≡ false → (byte_at bytes (p - 1) == 32) ≡ false
ink_before bytes pre b bs rest p e at h =
    let split = split_last b bs in
    let body : List ℕ = split.0 in
    let y : ℕ = last_byte b bs in
    let there : bytes ≡ (pre ++ body) ++ y ∷ rest =
    e ∙ ap (λ (xs : List ℕ). pre ++ (xs ++ rest)) (split.1) ∙ ap (λ (xs : List ℕ). pre ++ xs) (append_assoc body (y ∷ []) rest) ∙ sym (append_assoc pre body (y ∷ rest))
    in
    let wide : length (b ∷ bs) ≡ length body + 1 = ap length (split.1) ∙ length-append body (y ∷ []) in
    let place : p - 1 ≡ length (pre ++ body) = (let q : length (pre ++ body) ≡ length pre + length body = length-append pre body in omega (arith, at, wide, q)) in
    ap (λ x. x == 32) (ap (λ (xs : List ℕ). byte_at xs (p - 1)) there ∙ byte_behind (pre ++ body) rest y (p - 1) place) ∙ h

pub scan_lines : (syntax : Syntax) (bytes : List ℕ) (ahead : s.Known) (find : List ℕ → Option Entry) (size : ℕ) (l : List ℕ) (ms : List NextLine) (pre : List ℕ) (rs : List Role) (p r : ℕ) → AllByRecursion AreWords (l ∷ lines_behind ms) → bytes ≡ pre ++ broken_text l ms → p ≡ length pre → length rs ≡ p → r ≤ p → length bytes < 2 ^ 64 → (k : ℕ) × (fold (s.scan_step_in syntax bytes ahead find) (with_roles size (rs ++ plain (broken_text l ms)) p r) (broken_text l ms) ≡ with_roles size (rs ++ line_roles p l ms) (p + length (broken_text l ms)) k)
scan_lines syntax bytes ahead find size [] ms pre rs p r h e at n now fits = absurd (h.0)
scan_lines syntax bytes ahead find size (b ∷ bs) [] pre rs p r h e at n now fits =
    let all : length bytes ≡ length pre + length (b ∷ bs) = ap length e ∙ length-append pre (b ∷ bs) in
    (r, pass_words syntax bytes ahead find (b ∷ bs) (with_roles size (rs ++ plain (b ∷ bs)) p r) (h.0).bytes (omega (arith, all, at, fits)))
scan_lines syntax bytes ahead find size (b ∷ bs) (m ∷ ms) pre rs p r h e at n now fits =
    let l : List ℕ = b ∷ bs in
    let rest : List ℕ = broken_text m.line ms in
    let gap : List ℕ = end_bytes m.behind in
    let wide : ℕ = length gap in
    let step : s.State → ℕ → s.State = s.scan_step_in syntax bytes ahead find in
    let all : length bytes ≡ length pre + (length l + (wide + suc (length rest))) =
    ap length e ∙ length-append pre (l ++ (gap ++ 10 ∷ rest)) ∙ ap (λ k. length pre + k) (length-append l (gap ++ 10 ∷ rest)) ∙ ap (λ k. length pre + (length l + k)) (length-append gap (10 ∷ rest))
    in
    let q : ℕ = p + length l in
    let next : ℕ = q + suc wide in
    let front : List ℕ = pre ++ l in
    let before : List ℕ = front ++ (gap ++ 10 ∷ []) in
    let there : bytes ≡ front ++ (gap ++ 10 ∷ rest) = e ∙ sym (append_assoc pre l (gap ++ 10 ∷ rest)) in
    let behind : bytes ≡ before ++ rest =
    there ∙ ap (λ (xs : List ℕ). front ++ xs) (sym (append_assoc gap (10 ∷ []) rest)) ∙ sym (append_assoc front (gap ++ 10 ∷ []) rest)
    in
    let placed : q ≡ length front = ap (λ k. k + length l) at ∙ sym (length-append pre l) in
    let gone : next ≡ length before =
    ap (λ k. k + suc wide) placed ∙ (let x : length before ≡ length front + length (gap ++ 10 ∷ []) = length-append front (gap ++ 10 ∷ []) in let y : length (gap ++ 10 ∷ []) ≡ wide + 1 = length-append gap (10 ∷ []) in omega (arith, x, y))
    in
    let roles : List Role = rs ++ plain l in
    let set : List Role = roles ++ break_roles q m.behind in
    let plain_wide : length (plain l) ≡ length l = length-replicate (length l) Plain in
    let filled : length roles ≡ q = (let x : length roles ≡ length rs + length (plain l) = length-append rs (plain l) in omega (arith, x, n, plain_wide)) in
    let break_wide : length (break_roles q m.behind) ≡ suc wide = ap suc (length-replicate wide Plain) in
    let full : length set ≡ next = (let x : length set ≡ length roles + length (break_roles q m.behind) = length-append roles (break_roles q m.behind) in omega (arith, x, filled, break_wide)) in
    let start : s.State = with_roles size (rs ++ plain (l ++ (gap ++ 10 ∷ rest))) p r in
    let cut : rs ++ plain (l ++ (gap ++ 10 ∷ rest)) ≡ roles ++ plain (gap ++ 10 ∷ rest) = ap (λ (x : List Role). rs ++ x) (plain_append l (gap ++ 10 ∷ rest)) ∙ sym (append_assoc rs (plain l) (plain (gap ++ 10 ∷ rest))) in
    let passed = pass_break syntax bytes ahead find size front rest roles q r m.behind there placed filled (omega arith) fits (ink_before bytes pre b bs (gap ++ 10 ∷ rest) q e (ap (λ k. k + length l) at) (h.0).last) in
    let more = scan_lines syntax bytes ahead find size m.line ms before set next (passed.0) (h.1) behind gone full (passed.1) fits in
    let end : next + length rest ≡ p + length (l ++ (gap ++ 10 ∷ rest)) =
    (let x : length (l ++ (gap ++ 10 ∷ rest)) ≡ length l + (wide + suc (length rest)) = length-append l (gap ++ 10 ∷ rest) ∙ ap (λ k. length l + k) (length-append gap (10 ∷ rest)) in omega (arith, x))
    in (
      more.0,
      fold-append step start l (gap ++ 10 ∷ rest)
          ∙ ap (λ (u : s.State). fold step u (gap ++ 10 ∷ rest)) (pass_words syntax bytes ahead find l start (h.0).bytes (omega (arith, all, at, fits)))
          ∙ ap (λ (x : List Role). fold step (with_roles size x q r) (gap ++ 10 ∷ rest)) cut
          ∙ ap (λ (xs : List ℕ). fold step (with_roles size (roles ++ plain (gap ++ 10 ∷ rest)) q r) xs) (sym (append_assoc gap (10 ∷ []) rest))
          ∙ fold-append step (with_roles size (roles ++ plain (gap ++ 10 ∷ rest)) q r) (gap ++ 10 ∷ []) rest
          ∙ ap (λ (u : s.State). fold step u rest) (passed.2)
          ∙ ap (λ (x : List Role). fold step (with_roles size x next (passed.0)) rest) (sym (append_assoc roles (break_roles q m.behind) (plain rest)))
          ∙ more.1
          ∙ ap (λ (x : List Role). with_roles size x (next + length rest) (more.0)) (append_assoc roles (break_roles q m.behind) (line_roles next m.line ms) ∙ append_assoc rs (plain l) (break_roles q m.behind ++ line_roles next m.line ms))
          ∙ ap (λ k. with_roles size (rs ++ line_roles p l (m ∷ ms)) k (more.0)) end,
    )

-- ---- the second pass

-- the nodes of lines from a place on
abbrev pub line_nodes : ℕ → ℕ → List ℕ → List NextLine → List Node
line_nodes d p l [] = node d item.Text p (p + length l) ∷ []
line_nodes d p l (m ∷ ms) =
    node d item.Text p (p + length l)
    ∷ node d (item.Leaf (leaf_of_end m.behind)) (p + length l) (p + length l + 1 + width_of m.behind)
    ∷ line_nodes d (p + length l + suc (width_of m.behind)) m.line ms

abbrev pub at : List Node → ℕ → Option ℕ → ℕ → ℕ → w.State
at ns d o p r = record { nodes = ns; depth = d; text = o; place = p; resume = r }

pub text_written : (ns : List Node) (d p r n : ℕ) → r ≤ p → 0 < n → p + n < 2 ^ 64 → fold w.role_step (at ns d None p r) (replicate n Plain) ≡ at ns d (Some p) (p + n) r
unfolding w.passed
text_written ns d p r n h some fits =
    let from : max r p ≡ p = omega arith in
    let more : nat_lt p (p + n) ≡ true = grind (arith, nat_tests) in
    plain_fold n (at ns d None p r) fits ∙ rw (from, more) refl

rest_written : (ns : List Node) (d p n : ℕ) → p + n < 2 ^ 64 → fold w.role_step (at ns d None p (p + n)) (replicate n Plain) ≡ at ns d None (p + n) (p + n)
unfolding w.passed
rest_written ns d p n fits =
    let from : max (p + n) p ≡ p + n = omega arith in
    let none : nat_lt (p + n) (p + n) ≡ false = grind (arith, nat_tests) in
    plain_fold n (at ns d None p (p + n)) fits ∙ rw (from, none) refl

pub single_written : (ns : List Node) (d start p r : ℕ) (l : Leaf) (n : ℕ) → r ≤ p → p + suc n < 2 ^ 64 → fold w.role_step (at ns d (Some start) p r) (Single l (p + 1 + n) ∷ replicate n Plain) ≡ at (ns ++ node d item.Text start p ∷ node d (item.Leaf l) p (p + 1 + n) ∷ []) d None (p + suc n) (p + 1 + n)
unfolding w.role_step w.shown w.single w.flushed w.pushed
single_written ns d start p r l n h fits =
    let now : nat_le r p ≡ true = grind (arith, nat_tests) in
    let next : plus p 1 ≡ p + 1 = omega arith in
    let end : p + 1 + n ≡ p + suc n = omega arith in
    let made : List Node = ns ++ node d item.Text start p ∷ node d (item.Leaf l) p (p + 1 + n) ∷ [] in
    let one : w.role_step (at ns d (Some start) p r) (Single l (p + 1 + n)) ≡ at ((ns ++ node d item.Text start p ∷ []) ++ node d (item.Leaf l) p (p + 1 + n) ∷ []) d None (p + 1) (p + 1 + n) = rw (now, next) refl in
    ap (λ (u : w.State). fold w.role_step u (replicate n Plain)) one
    ∙ ap (λ (x : List Node). fold w.role_step (at x d None (p + 1) (p + 1 + n)) (replicate n Plain)) (append_assoc ns (node d item.Text start p ∷ []) (node d (item.Leaf l) p (p + 1 + n) ∷ []))
    ∙ rest_written made d (p + 1) n (omega arith)
    ∙ ap (λ k. at made d None k (p + 1 + n)) end

text_flushed : (ns : List Node) (d start p r : ℕ) → (w.flushed (at ns d (Some start) p r)).nodes ≡ ns ++ node d item.Text start p ∷ []
unfolding w.flushed w.pushed
text_flushed ns d start p r = refl

pub write_lines : (l : List ℕ) (ms : List NextLine) (ns : List Node) (d p r : ℕ) → AllByRecursion AreWords (l ∷ lines_behind ms) → r ≤ p → p + length (broken_text l ms) < 2 ^ 64 → (w.flushed (fold w.role_step (at ns d None p r) (line_roles p l ms))).nodes ≡ ns ++ line_nodes d p l ms
write_lines [] ms ns d p r h now fits = absurd (h.0)
write_lines (b ∷ bs) [] ns d p r h now fits =
    let l : List ℕ = b ∷ bs in
    ap (λ (u : w.State). (w.flushed u).nodes) (text_written ns d p r (length l) now (omega arith) fits) ∙ text_flushed ns d p (p + length l) r
write_lines (b ∷ bs) (m ∷ ms) ns d p r h now fits =
    let l : List ℕ = b ∷ bs in
    let rest : List ℕ = broken_text m.line ms in
    let gap : List ℕ = end_bytes m.behind in
    let wide : ℕ = length gap in
    let all : length (l ++ (gap ++ 10 ∷ rest)) ≡ length l + (wide + suc (length rest)) = length-append l (gap ++ 10 ∷ rest) ∙ ap (λ k. length l + k) (length-append gap (10 ∷ rest)) in
    let q : ℕ = p + length l in
    let next : ℕ = q + suc wide in
    let two : List Node = node d item.Text p q ∷ node d (item.Leaf (leaf_of_end m.behind)) q (q + 1 + wide) ∷ [] in
    let after : List Role = line_roles next m.line ms in
    ap (λ (u : w.State). (w.flushed u).nodes) (
    fold-append w.role_step (at ns d None p r) (plain l) (break_roles q m.behind ++ after)
    ∙ ap (λ (u : w.State). fold w.role_step u (break_roles q m.behind ++ after)) (text_written ns d p r (length l) now (omega arith) (omega (arith, all, fits)))
    ∙ fold-append w.role_step (at ns d (Some p) q r) (break_roles q m.behind) after
    ∙ ap (λ (u : w.State). fold w.role_step u after) (single_written ns d p q r (leaf_of_end m.behind) wide (omega arith) (omega (arith, all, fits)))
    )
    ∙ write_lines m.line ms (ns ++ two) d next (q + 1 + wide) (h.1) (omega arith) (omega (arith, all, fits))
    ∙ append_assoc ns two (line_nodes d next m.line ms)
