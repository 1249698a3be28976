-- A formula between dollar signs is read as mathematics.
use Rattle.std.proofs.Common.{◌≡◌, ℕ, zero, suc, ◌+◌, ◌-◌, ◌^◌, ◌<◌, ◌≤◌, true, false, not, ◌==◌, ◌&&◌, nat_le, List, [], ◌∷◌, ◌++◌, length, map, replicate, codes, refl, ap, sym, ◌∙◌, arith, append_assoc, append-nil, length-append, Option, None, Some, true≢false}
use Rattle.std.proofs.lemmas.Bool.Decides.{nat_tests}
use Rattle.std.proofs.lemmas.Str.{IsUtf8-from_ascii, utf8_lossy-IsUtf8}
use Rattle.std.specs.Char.{char_set_contains}
use Rattle.std.specs.List.{AllByRecursion, fold, list_all}
use Rattle.std.specs.Str.Lossy.{utf8_lossy}
use Rattle.tocmark_event.specs.Merged.{merged}
use Rattle.tocmark_read_scan.specs.Basic.{plus, byte_at, bytes_between, starts_at}
use Rattle.tocmark_read_scan.specs.Class.{is_in}
use Rattle.tocmark_read_scan.specs.Content as content
use Rattle.tocmark_read_scan.specs.PlainParts.{last_byte}
use Rattle.tocmark_read_scan.specs.declared.class.Class.TheVariants.{White}
use Rattle.tocmark_read_scan.specs.declared.syntax.Syntax.{Syntax}
use Rattle.tocmark_read_scan.proofs.PlainContent.{places_of, byte_behind}
use Rattle.tocmark_read_scan.proofs.PlainPieces.{piece_between, content_of_lines}
use Rattle.tocmark_read_scan.proofs.PlainTests.{both_true, is_not, differs, all_from}
use Rattle.tocmark_read_blocks.proofs.PlainLines.{IsWithin}
use Rattle.tocmark_read_blocks.proofs.PlainStarts.{IsQuiet}
use Rattle.tocmark_read_spans.specs.Definitions.{stretch_text}
use Rattle.tocmark_read_spans.specs.Emphasis.{emphasized}
use Rattle.tocmark_read_spans.specs.Math.{sign_in, sign_of, signs, partner, partners, partner_at, inline_to, math_at, is_white}
use Rattle.tocmark_read_spans.specs.declared.definitions.Entry.{Entry}
use Rattle.tocmark_read_spans.specs.declared.math.Math.{Math}
use Rattle.tocmark_read_spans.specs.declared.role.Leaf.TheVariants as leaf
use Rattle.tocmark_read_spans.specs.declared.role.Role.TheVariants.{Plain, Single}
use Rattle.tocmark_read_inlines.specs.Inlines as inlines
use Rattle.tocmark_read_inlines.specs.Inlines.{scan_start}
use Rattle.tocmark_read_inlines.specs.Scan as s
use Rattle.tocmark_read_inlines.specs.Write as w
use Rattle.tocmark_read_inlines.specs.declared.write.InlineKind.TheVariants as item
use Rattle.tocmark_read_inlines.specs.declared.write.Node.{Node}
use Rattle.tocmark_reader.specs.Emitted.{emitted}
use Rattle.tocmark_reader.specs.Inlines.{inline_node, inline_item, leaf_of}
use Rattle.tocmark_reader.specs.Pages.{with_block, block_tag, task_nodes}
use Rattle.tocmark_reader.specs.PlainTexts.{is_printable, IsReadAs}
use Rattle.tocmark_reader.specs.Reading.{FoundView, first_entry, found_under, reading_of}
use Rattle.tocmark_reader.proofs.PlainEvents.{unplaced}
use Rattle.tocmark_reader.proofs.PlainReading.{IsPrintable}
use Rattle.tocmark_reader.proofs.PlainSources.{IsClean, AreClean, clean_ascii, all_implied}
use Rattle.tocmark_reader.proofs.PlainTests.{printable_from}
use Rattle.tocmark_reader.proofs.QuietContent.{split_last}
use Rattle.tocmark_laws.specs.Extensions.{is_formula_byte, is_formula, in_dollars, formula_paragraph}
use Rattle.tocmark_laws.proofs.ExtensionBlocks.{never, IsFreeText}
use Rattle.tocmark_laws.proofs.ExtensionParagraphs.{IsFreeByte, begins_freely, no_inlines, found_of, paragraph_found, last_of, within_byte, clean_byte, at_start, skip_bytes}

abbrev marks : List ℕ
marks = codes "$\\{}"

-- a byte of a formula
record IsFormulaByte (b : ℕ) : Type 0 where
  printable : IsPrintable b
  dollar : (b == 36) ≡ false
  backslash : (b == 92) ≡ false
  opening : (b == 123) ≡ false
  closing : (b == 125) ≡ false

formula_byte : (b : ℕ) → is_formula_byte b ≡ true → IsFormulaByte b
formula_byte b h =
    let both = both_true (is_printable b) (not (char_set_contains marks b)) h in
    let out : char_set_contains marks b ≡ false = is_not (char_set_contains marks b) (both.1) in
    record {
      printable = printable_from b (both.0);
      dollar = differs (char_set_contains marks) b 36 refl out;
      backslash = differs (char_set_contains marks) b 92 refl out;
      opening = differs (char_set_contains marks) b 123 refl out;
      closing = differs (char_set_contains marks) b 125 refl out;
    }

-- a formula
record IsFormula (b : ℕ) (bs : List ℕ) : Type 0 where
  bytes : AllByRecursion IsFormulaByte (b ∷ bs)
  first : (b == 32) ≡ false
  last : (last_byte b bs == 32) ≡ false

formula_from : (b : ℕ) (bs : List ℕ) → is_formula (b ∷ bs) ≡ true → IsFormula b bs
formula_from b bs h =
    let two = both_true (list_all is_formula_byte (b ∷ bs) && not (b == 32)) (not (last_byte b bs == 32)) h in
    let one = both_true (list_all is_formula_byte (b ∷ bs)) (not (b == 32)) (two.0) in
    record { bytes = all_from is_formula_byte IsFormulaByte (b ∷ bs) formula_byte (one.0); first = is_not (b == 32) (one.1); last = is_not (last_byte b bs == 32) (two.1) }

-- ---- the partner of the first dollar sign

partner_found : (place : ℕ) (xs : List ℕ) → AllByRecursion IsFormulaByte xs → partner 0 place (signs false (xs ++ 36 ∷ [])) ≡ Some (place + length xs)
unfolding sign_in sign_of
partner_found place [] h = ap (λ n. Some n) (let q : place ≡ place + 0 = omega arith in q)
partner_found place (x ∷ xs) h =
    let same : place + 1 + length xs ≡ place + suc (length xs) = omega arith in
    rw ((h.0).dollar, (h.0).opening, (h.0).closing, (h.0).backslash) (partner_found (place + 1) xs (h.1) ∙ ap (λ n. Some n) same)

ink : (b : ℕ) → IsPrintable b → (b == 32) ≡ false → is_white b ≡ false
unfolding is_white
ink b h space =
    let low : 32 ≤ b = h.low in
    let above : nat_le b 13 ≡ false = grind (arith, nat_tests) in
    rw (space, above, never) refl

-- what the mathematics is
abbrev found_math : ℕ → Math
found_math n = record { display = false; start = 1; end = n + 1; next = n + 2 }

math_here : (syntax : Syntax) (b : ℕ) (bs : List ℕ) → IsFormula b bs → syntax.math ≡ true → length (in_dollars (b ∷ bs)) < 2 ^ 64 → math_at (in_dollars (b ∷ bs)) (s.partners_in syntax (in_dollars (b ∷ bs))) 0 ≡ Some (found_math (length (b ∷ bs)))
unfolding math_at s.partners_in partners partner_at inline_to starts_at sign_in sign_of
math_here syntax b bs h math fits =
    let xs : List ℕ = b ∷ bs in
    let n : ℕ = length xs in
    let bytes : List ℕ = in_dollars xs in
    let all : length bytes ≡ n + 2 = ap suc (length-append xs (36 ∷ [])) ∙ (let q : suc (n + 1) ≡ n + 2 = omega arith in q) in
    let turned : (36 == b) ≡ false = let d : (b == 36) ≡ false = (h.bytes.0).dollar in grind (arith, nat_tests) in
    let split = split_last b bs in
    let body : List ℕ = split.0 in
    let y : ℕ = last_byte b bs in
    let shape : bytes ≡ (36 ∷ body) ++ y ∷ 36 ∷ [] = ap (λ (l : List ℕ). 36 ∷ (l ++ 36 ∷ [])) (split.1) ∙ ap (λ (l : List ℕ). 36 ∷ l) (append_assoc body (y ∷ []) (36 ∷ [])) in
    let width : n ≡ length body + 1 = ap length (split.1) ∙ length-append body (y ∷ []) in
    let before : 1 + n - 1 ≡ length (36 ∷ body) = omega (arith, width) in
    let last : byte_at bytes (1 + n - 1) ≡ y = ap (λ (l : List ℕ). byte_at l (1 + n - 1)) shape ∙ byte_behind (36 ∷ body) (36 ∷ []) y (1 + n - 1) before in
    let front : is_white b ≡ false = ink b (h.bytes.0).printable h.first in
    let back : is_white y ≡ false = ink y (last_of IsFormulaByte b bs h.bytes).printable h.last in
    let next : plus (1 + n) 1 ≡ n + 2 = omega (arith, all, fits) in
    let end : 1 + n ≡ n + 1 = omega arith in
    rw (math, turned, partner_found 1 xs h.bytes, front, last, back, next, end) refl

-- ---- the first pass

-- the pass after a formula
abbrev behind : List ℕ → ℕ → ℕ → s.State
behind xs n place = record { roles = Single (leaf.InlineMath (s.stretch 0 n)) (n + 2) ∷ replicate (n + 1) Plain; runs = []; brackets = []; inactive = 0; place = place; resume = n + 2; targets = []; texts = xs; missed = [] }

dollar_is_mark : (syntax : Syntax) → syntax.math ≡ true → s.is_mark_in syntax 36 ≡ true
unfolding s.is_mark_in s.is_tilde_in s.is_caret_in s.is_dollar_in
dollar_is_mark syntax math = rw (never, never, math) refl

dollar_looked : (syntax : Syntax) (bytes : List ℕ) (ahead : s.Known) (find : List ℕ → Option Entry) (t : s.State) → syntax.math ≡ true → s.looked_in syntax bytes ahead find 36 t ≡ s.math_to bytes t (math_at bytes ahead.partners t.place)
unfolding s.looked_in s.is_tilde_in s.is_caret_in s.is_dollar_in s.math_taken
dollar_looked syntax bytes ahead find t math = rw (never, never, math) refl

formula_put : (xs : List ℕ) (n : ℕ) → n ≡ length xs → length (in_dollars xs) < 2 ^ 64 → s.math_put (in_dollars xs) (found_math n) (at_start (length (in_dollars xs))) ≡ behind xs n 0
unfolding s.math_put s.kept s.put_leaf
formula_put xs n e fits =
    let bytes : List ℕ = in_dollars xs in
    let stands : bytes_between bytes 1 (n + 1) ≡ xs = piece_between bytes (36 ∷ []) xs (36 ∷ []) 1 (n + 1) refl refl (ap (λ k. k + 1) e ∙ (let q : length xs + 1 ≡ 1 + length xs = omega arith in q)) in
    let rest : length (xs ++ 36 ∷ []) ≡ n + 1 = length-append xs (36 ∷ []) ∙ ap (λ k. k + 1) (sym e) in
    rw (stands, rest, sym e) refl

formula_step : (syntax : Syntax) (b : ℕ) (bs : List ℕ) (find : List ℕ → Option Entry) → IsFormula b bs → syntax.math ≡ true → length (in_dollars (b ∷ bs)) < 2 ^ 64 → s.scan_step_in syntax (in_dollars (b ∷ bs)) (s.ahead_in syntax (in_dollars (b ∷ bs))) find (at_start (length (in_dollars (b ∷ bs)))) 36 ≡ behind (b ∷ bs) (length (b ∷ bs)) 1
unfolding s.scan_step_in
formula_step syntax b bs find h math fits =
    let bytes : List ℕ = in_dollars (b ∷ bs) in
    let t : s.State = at_start (length bytes) in
    rw (dollar_is_mark syntax math)
    (ap s.next_place (dollar_looked syntax bytes (s.ahead_in syntax bytes) find t math ∙ ap (s.math_to bytes t) (math_here syntax b bs h math fits) ∙ formula_put (b ∷ bs) (length (b ∷ bs)) refl fits))

formula_scanned : (syntax : Syntax) (b : ℕ) (bs : List ℕ) (find : List ℕ → Option Entry) → IsFormula b bs → syntax.math ≡ true → length (in_dollars (b ∷ bs)) < 2 ^ 64 → s.scanned_in syntax (in_dollars (b ∷ bs)) find (scan_start (length (in_dollars (b ∷ bs))) [] [] []) ≡ behind (b ∷ bs) (length (b ∷ bs)) (length (b ∷ bs) + 2)
unfolding s.scanned_in s.settled scan_start emphasized
formula_scanned syntax b bs find h math fits =
    let xs : List ℕ = b ∷ bs in
    let n : ℕ = length xs in
    let bytes : List ℕ = in_dollars xs in
    let ahead : s.Known = s.ahead_in syntax bytes in
    let rest : length (xs ++ 36 ∷ []) ≡ n + 1 = length-append xs (36 ∷ []) in
    let all : length bytes ≡ n + 2 = ap suc rest ∙ (let q : suc (n + 1) ≡ n + 2 = omega arith in q) in
    let end : 1 + length (xs ++ 36 ∷ []) ≡ n + 2 = omega (arith, rest) in
    ap (λ (t : s.State). s.settled 0 (fold (s.scan_step_in syntax bytes ahead find) t (xs ++ 36 ∷ []))) (formula_step syntax b bs find h math fits)
    ∙ ap (s.settled 0) (skip_bytes syntax bytes ahead find (xs ++ 36 ∷ []) (behind xs n 1) (omega (arith, end)) (omega (arith, all, fits)) ∙ ap (λ p. behind xs n p) end)

-- ---- the second pass

pub skip_roles : (k : ℕ) (t : w.State) → t.place + k ≤ t.resume → t.place + k < 2 ^ 64 → fold w.role_step t (replicate k Plain) ≡ record t { place = t.place + k }
unfolding w.role_step
skip_roles zero t h fits = ap (λ p. record t { place = p }) (let q : t.place ≡ t.place + 0 = omega arith in q)
skip_roles (suc k) t h fits =
    let no : nat_le t.resume t.place ≡ false = grind (arith, nat_tests) in
    let same : plus t.place 1 + k ≡ t.place + suc k = omega arith in
    let one : w.role_step t Plain ≡ w.next_place t = rw no refl in
    ap (λ (u : w.State). fold w.role_step u (replicate k Plain)) one
    ∙ skip_roles k (w.next_place t) (omega arith) (omega arith)
    ∙ ap (λ p. record t { place = p }) same

abbrev formula_node : ℕ → Node
formula_node n = record { depth = 1; item = item.Leaf (leaf.InlineMath (s.stretch 0 n)); start = 0; end = n + 2 }

formula_written : (n : ℕ) → n + 2 < 2 ^ 64 → w.written (Single (leaf.InlineMath (s.stretch 0 n)) (n + 2) ∷ replicate (n + 1) Plain) 1 ≡ formula_node n ∷ []
unfolding w.written w.role_step w.shown w.single w.flushed w.pushed
formula_written n fits =
    let t : w.State = record { nodes = formula_node n ∷ []; depth = 1; text = None; place = 1; resume = n + 2 } in
    ap (λ (u : w.State). (w.flushed u).nodes) (skip_roles (n + 1) t (omega arith) (omega arith))

-- ---- the law

all_printable : (xs : List ℕ) → AllByRecursion IsFormulaByte xs → AllByRecursion IsPrintable (xs ++ 36 ∷ [])
all_printable [] h = (record { low = omega arith; high = omega arith }, tt)
all_printable (x ∷ xs) h = ((h.0).printable, all_printable xs (h.1))

printable_line : (xs : List ℕ) → AllByRecursion IsFormulaByte xs → AllByRecursion IsPrintable (in_dollars xs)
printable_line xs h = (record { low = omega arith; high = omega arith }, all_printable xs h)

quiet_dollar : IsQuiet 36
quiet_dollar = record { space = refl; greater = refl; less = refl; star = refl; minus = refl; plus = refl; equals = refl; underscore = refl; hash = refl; backtick = refl; tilde = refl; digit = refl }

free_dollar : IsFreeByte 36
free_dollar = record { bracket = refl; colon = refl; bar = refl; dash = refl; space = refl; less = refl }

formula_line : (xs : List ℕ) → AllByRecursion IsFormulaByte xs → IsFreeText (in_dollars xs)
formula_line xs h = record {
  within = all_implied IsPrintable IsWithin (in_dollars xs) within_byte (printable_line xs h);
  begins = λ at. begins_freely at 36 (xs ++ 36 ∷ []) quiet_dollar free_dollar;
  first = 36;
  rest = xs ++ 36 ∷ [];
  shape = refl;
  dash = refl;
  cross = refl;
}

ink_dollar : is_in White 36 ≡ false
unfolding is_in
ink_dollar = refl

formula_bytes : (xs : List ℕ) → AllByRecursion IsFormulaByte xs → AreClean xs
formula_bytes xs h = all_implied IsFormulaByte IsClean xs (λ b k. clean_byte b k.printable) h

kept_formula : (xs : List ℕ) → AllByRecursion IsFormulaByte xs → stretch_text xs (s.stretch 0 (length xs)) ≡ xs
kept_formula xs h =
    ap utf8_lossy (piece_between xs [] xs [] 0 (length xs) (sym (append-nil xs)) refl (let q : length xs ≡ 0 + length xs = omega arith in q))
    ∙ utf8_lossy-IsUtf8 xs (IsUtf8-from_ascii xs (clean_ascii xs (formula_bytes xs h)))

-- the events of such a paragraph
formula_emitted : (text : List ℕ) (xs : List ℕ) (n : ℕ) (places : List (ℕ × ℕ)) → stretch_text xs (s.stretch 0 n) ≡ xs → merged (unplaced (emitted text (found_of text (length text) (record { nodes = w.moved places (formula_node n) ∷ []; targets = []; texts = xs; missed = [] })).nodes)) ≡ formula_paragraph xs
unfolding with_block block_tag task_nodes w.moved inline_node inline_item leaf_of
formula_emitted text xs n places e = ap formula_paragraph e

pub formula_read : (syntax : Syntax) (xs : List ℕ) → syntax.math ≡ true → is_formula xs ≡ true → length (in_dollars xs) < 2 ^ 64 → IsReadAs (reading_of syntax (in_dollars xs)) (formula_paragraph xs)
unfolding reading_of inlines.read_inlines_in
formula_read syntax [] math all fits = absurd (true≢false (sym all))
formula_read syntax (b ∷ bs) math all fits =
    let xs : List ℕ = b ∷ bs in
    let n : ℕ = length xs in
    let text : List ℕ = in_dollars xs in
    let h : IsFormula b bs = formula_from b bs all in
    let find = first_entry syntax.undefined_notes [] [] in
    let leaf_of_text : content.State = record { bytes = text; places = places_of 0 text } in
    let clean : AreClean text = all_implied IsPrintable IsClean text clean_byte (printable_line xs h.bytes) in
    let size : length text ≡ n + 2 = ap suc (length-append xs (36 ∷ [])) ∙ (let q : suc (n + 1) ≡ n + 2 = omega arith in q) in
    let found : found_under syntax text ≡ found_of text (length text) (record { nodes = w.moved (places_of 0 text) (formula_node n) ∷ []; targets = []; texts = xs; missed = [] }) =
    paragraph_found syntax text [] leaf_of_text (formula_line xs h.bytes, tt) (all_implied IsClean (λ x. (x == 13) ≡ false) text (λ x k. k.return) clean) fits refl
    (content_of_lines text [] (36 ∷ xs) 36 refl ink_dollar (all_implied IsClean (λ x. (x == 0) ≡ false) text (λ x k. k.some) clean, tt) fits)
    ∙ ap (λ (after : s.State). found_of text (length text) (inlines.inlines_from leaf_of_text 1 after no_inlines)) (formula_scanned syntax b bs find h math fits)
    ∙ ap (λ (ns : List Node). found_of text (length text) (record { nodes = map (w.moved (places_of 0 text)) ns; targets = []; texts = xs; missed = [] })) (formula_written n (omega (arith, size, fits)))
    in
    record {
      events = ap (λ (f : FoundView). merged (unplaced (emitted text f.nodes))) found ∙ formula_emitted text xs n (places_of 0 text) (kept_formula xs h.bytes);
      defined = ap (λ (f : FoundView). f.defined) found;
      unresolved = ap (λ (f : FoundView). f.unresolved) found;
    }
