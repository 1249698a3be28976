-- A leaf whose bytes are of texts in each reading, or line feeds, is read alike in all of them.
use Rattle.std.proofs.Common.{◌≡◌, ℕ, Bool, true, false, ◌==◌, ◌&&◌, ◌||◌, if◌then◌else◌, nat_le, List, [], ◌∷◌, length, Option, refl, ap, sym, ◌∙◌, ◌⊎◌, inl, inr}
use Rattle.std.specs.List.{AllByRecursion, fold}
use Rattle.tocmark_read_scan.proofs.PlainTests.{both_false, is_not}
use Rattle.tocmark_read_scan.specs.Content as content
use Rattle.tocmark_read_scan.specs.declared.syntax.Names.{Names}
use Rattle.tocmark_read_scan.specs.declared.syntax.Names.TheVariants.{Four, All}
use Rattle.tocmark_read_scan.specs.declared.syntax.Syntax.{Syntax}
use Rattle.tocmark_read_scan.specs.declared.syntax.TheConstants.{CORE}
use Rattle.tocmark_read_inlines.specs.Scan as s
use Rattle.tocmark_read_inlines.specs.Inlines as inlines
use Rattle.tocmark_read_spans.specs.declared.definitions.Entry.{Entry}

-- a byte of a text in each reading, or a line feed
abbrev pub IsTextOrFeed : ℕ → Type 0
IsTextOrFeed b = (s.is_quiet b ≡ true) ⊎ (b ≡ 10)

never : (a : Bool) → (a && false) ≡ false
never true = refl
never false = refl

-- a byte of a text is no mark in any reading
pub no_mark : (b : ℕ) → s.is_quiet b ≡ true → s.is_mark b ≡ false
unfolding s.is_any_mark
no_mark b h =
    let three = both_false (s.is_mark b || (b == 126) || (b == 94)) (b == 36) (is_not (s.is_any_mark b) h) in
    let two = both_false (s.is_mark b || (b == 126)) (b == 94) (three.0) in
    (both_false (s.is_mark b) (b == 126) (two.0)).0

no_mark_in : (syntax : Syntax) (b : ℕ) → s.is_quiet b ≡ true → s.is_mark_in syntax b ≡ false
unfolding s.is_any_mark s.is_mark_in s.is_tilde_in s.is_caret_in s.is_dollar_in
no_mark_in syntax b h =
    let three = both_false (s.is_mark b || (b == 126) || (b == 94)) (b == 36) (is_not (s.is_any_mark b) h) in
    let two = both_false (s.is_mark b || (b == 126)) (b == 94) (three.0) in
    let one = both_false (s.is_mark b) (b == 126) (two.0) in
    rw (one.1, two.1, three.1, never (syntax.strikethrough || syntax.subscript), never syntax.superscript, never syntax.math) (one.0)

text_step : (syntax : Syntax) (bytes : List ℕ) (ahead : s.Known) (defs : List ℕ → Option Entry) (t : s.State) (b : ℕ) → s.is_quiet b ≡ true → s.scan_step_in syntax bytes ahead defs t b ≡ s.next_place t
unfolding s.scan_step_in
text_step syntax bytes ahead defs t b h = rw (no_mark_in syntax b h) refl

-- a line feed, by the names that are known
feed_looked : (names : Names) (bytes : List ℕ) (ahead : s.Known) (defs : List ℕ → Option Entry) (t : s.State) → s.looked_by names bytes ahead defs 10 t ≡ s.line_ended bytes t
unfolding s.looked s.looked_mark s.looked_all
feed_looked Four bytes ahead defs t = refl
feed_looked All bytes ahead defs t = refl

feed_step : (syntax : Syntax) (bytes : List ℕ) (ahead : s.Known) (defs : List ℕ → Option Entry) (t : s.State) → s.scan_step_in syntax bytes ahead defs t 10 ≡ s.next_place (if nat_le t.resume t.place then s.line_ended bytes t else t)
unfolding s.scan_step_in s.looked_in s.is_mark_in s.is_mark s.is_tilde_in s.is_caret_in s.is_dollar_in s.is_note_end_in
feed_step syntax bytes ahead defs t =
    rw (never (syntax.strikethrough || syntax.subscript), never syntax.superscript, never syntax.math, never syntax.footnotes, never syntax.tables)
    (ap (λ (u : s.State). s.next_place (if nat_le t.resume t.place then u else t)) (feed_looked syntax.names bytes ahead defs t))

one_step : (syntax : Syntax) (bytes : List ℕ) (ahead known : s.Known) (defs : List ℕ → Option Entry) (t : s.State) (b : ℕ) → IsTextOrFeed b → s.scan_step_in syntax bytes ahead defs t b ≡ s.scan_step bytes known defs t b
one_step syntax bytes ahead known defs t b (inl h) = text_step syntax bytes ahead defs t b h ∙ sym (text_step CORE bytes known defs t b h)
one_step syntax bytes ahead known defs t b (inr e) =
    ap (λ c. s.scan_step_in syntax bytes ahead defs t c) e
    ∙ feed_step syntax bytes ahead defs t
    ∙ sym (feed_step CORE bytes known defs t)
    ∙ ap (λ c. s.scan_step bytes known defs t c) (sym e)

all_steps : (syntax : Syntax) (bytes : List ℕ) (ahead known : s.Known) (defs : List ℕ → Option Entry) (xs : List ℕ) (t : s.State) → AllByRecursion IsTextOrFeed xs → fold (s.scan_step_in syntax bytes ahead defs) t xs ≡ fold (s.scan_step bytes known defs) t xs
all_steps syntax bytes ahead known defs [] t h = refl
all_steps syntax bytes ahead known defs (x ∷ xs) t h =
    ap (λ (u : s.State). fold (s.scan_step_in syntax bytes ahead defs) u xs) (one_step syntax bytes ahead known defs t x (h.0))
    ∙ all_steps syntax bytes ahead known defs xs (s.scan_step bytes known defs t x) (h.1)

scanned_alike : (syntax : Syntax) (bytes : List ℕ) (defs : List ℕ → Option Entry) (t : s.State) → AllByRecursion IsTextOrFeed bytes → s.scanned_in syntax bytes defs t ≡ s.scanned bytes defs t
unfolding s.scanned_in
scanned_alike syntax bytes defs t h = ap (s.settled 0) (all_steps syntax bytes (s.ahead_in syntax bytes) (s.ahead_in CORE bytes) defs bytes t h)

-- the inlines of such a leaf
pub read_alike : (syntax : Syntax) (leaf : content.State) (depth : ℕ) (defs : List ℕ → Option Entry) (t : inlines.State) → AllByRecursion IsTextOrFeed leaf.bytes → inlines.read_inlines_in syntax leaf depth defs t ≡ inlines.read_inlines leaf depth defs t
unfolding inlines.read_inlines_in
read_alike syntax leaf depth defs t h =
    ap (λ (after : s.State). inlines.inlines_from leaf depth after t) (scanned_alike syntax leaf.bytes defs (inlines.scan_start (length leaf.bytes) t.targets t.texts t.missed) h)
