-- Each mark of a content is at a byte of ASCII, and ends after one. What a mark says as a text is made of characters. Line feeds have
-- marks, or are in the ranges of such.
use Rattle.std.proofs.Common.{◌≡◌, ℕ, zero, suc, ◌+◌, ◌-◌, ◌^◌, ◌<◌, ◌≤◌, ◌⊎◌, inl, inr, not, ◌==◌, ◌&&◌, ◌||◌, Bool, true, false, if◌then◌else◌, nat_lt, nat_le, List, [], ◌∷◌, ◌++◌, length, take, drop, replicate, codes, refl, ap, sym, ◌∙◌, subst, arith, append_assoc, true≢false}
use Rattle.std.specs.Prelude.{slice_get, slice_set, min, max, unwrap_or, Option, Some, None}
use Rattle.std.specs.Char.{is_ascii_punctuation}
use Rattle.std.specs.List.{fold, AllByRecursion}
use Rattle.std.specs.Str.{IsUtf8}
use Rattle.std.proofs.lemmas.Bool.Decides.{nat_tests}
use Rattle.tocmark_event.specs.declared.event.LinkType.{LinkType}
use Rattle.tocmark_event.specs.declared.event.LinkType.TheVariants.{Autolink, Email, Collapsed, Shortcut}
use Rattle.tocmark_read_scan.specs.Basic.{plus, byte_at, bytes_between, starts_at}
use Rattle.tocmark_read_scan.specs.Class.{is_mailbox, is_in, run_end}
use Rattle.tocmark_read_scan.specs.Repeat.{going, repeated, iterated}
use Rattle.tocmark_read_scan.specs.declared.class.Class.{Class}
use Rattle.tocmark_read_scan.specs.declared.class.Class.TheVariants.{White, Scheme, Address, Mailbox, Domain, Only}
use Rattle.tocmark_read_scan.specs.declared.syntax.Names.TheVariants.{Four, All}
use Rattle.tocmark_read_scan.proofs.PlainPlaces.{byte_dropped}
use Rattle.tocmark_read_scan.proofs.PlainTests.{eq_of, both_true, one_of_two}
use Rattle.tocmark_read_tokens.specs.CharacterNames.{characters_of}
use Rattle.tocmark_read_tokens.specs.Autolink.{closed_at, is_scheme, uri_end, is_domain, domain_end, mail_end}
use Rattle.tocmark_read_tokens.specs.Html.{last_ends, raw_html}
use Rattle.tocmark_read_tokens.specs.Label.{collapsed, key_of}
use Rattle.tocmark_read_tokens.specs.Name as name
use Rattle.tocmark_read_tokens.specs.Name.{Named, name_end, name_at}
use Rattle.tocmark_read_tokens.specs.Reference as number
use Rattle.tocmark_read_tokens.specs.Reference.{is_escape, reference_at, numeric}
use Rattle.tocmark_read_tokens.specs.Word.{destination, enclosed, enclosed_end, closing_of, word, is_label_text, label_to, label_from, label}
use Rattle.tocmark_read_tokens.specs.declared.html.LastEnds.{LastEnds}
use Rattle.tocmark_read_tokens.specs.declared.reference.Reference.{Reference as ByNumber}
use Rattle.tocmark_read_tokens.specs.declared.word.Enclosure.TheVariants.{Bracketed}
use Rattle.tocmark_read_tokens.specs.declared.word.Word.{Word}
use Rattle.tocmark_read_spans.specs.Emphasis as emphasis
use Rattle.tocmark_read_spans.specs.Link.{inline_title, inline_end, target_ended, target_titled, target_with, target_from, inline_target, own_label, own_from, own_asked, asked_or, label_asked}
use Rattle.tocmark_read_spans.specs.Run.{run_between, run_at}
use Rattle.tocmark_read_spans.specs.Tick.{last_ticks, next_run, tick_end, push_shown, stripped}
use Rattle.tocmark_read_spans.specs.declared.definitions.Entry.{Entry}
use Rattle.tocmark_read_spans.specs.declared.link.Asked.{Asked}
use Rattle.tocmark_read_spans.specs.declared.link.Bracket.{Bracket}
use Rattle.tocmark_read_spans.specs.declared.link.InlineTarget.{InlineTarget}
use Rattle.tocmark_read_spans.specs.declared.role.Leaf.{Leaf}
use Rattle.tocmark_read_spans.specs.declared.role.Leaf.TheVariants as leaf
use Rattle.tocmark_read_spans.specs.declared.role.Role.{Role}
use Rattle.tocmark_read_spans.specs.declared.role.Role.TheVariants.{Plain, Fresh, Hidden, Open, Close, Single}
use Rattle.tocmark_read_spans.specs.declared.role.Span.{Span}
use Rattle.tocmark_read_spans.specs.declared.role.Span.TheVariants.{Link, Image}
use Rattle.tocmark_read_spans.specs.declared.role.Stretch.{Stretch}
use Rattle.tocmark_read_spans.specs.declared.role.Target.{Target}
use Rattle.tocmark_read_spans.specs.declared.run.Run.{Run}
use Rattle.tocmark_read_inlines.specs.Inlines.{scan_start}
use Rattle.tocmark_read_inlines.specs.Scan.{State, Known, ahead_in, ends_of, ticks_of, before_space, kept, kept_code, kept_resolved_in, targeted, put_leaf, stretch, escaped, referred_to, referred, named_to, name_put, named_taken, code_put, coded_to, coded, run_kept, run_taken, marked_last, marked, opened, imaged, addressed, html_put, tagged_to, tagged, mailed_to, mailed, angled_to, angled, line_ended, spanned, settled, linked, closed_inline_in, missing, looked_up_as, looked_up, closed_asked, closed_by_label, closed_found_in, closed_active_in, popped, closed_last_in, closed_in, looked_mark, looked, looked_all, is_mark, is_mark_in, is_tilde_in, is_caret_in, is_dollar_in, is_note_end_in, looked_in, scan_step_in, scanned_in}
use Rattle.tocmark_text_laws.specs.Said.{is_marked}
use Rattle.tocmark_text_laws.proofs.Alls.{all_set, all_got, all_both, all_take}
use Rattle.tocmark_text_laws.proofs.Tokens.{run_climbs, run_has, run_within, Closed, uri_closed, mail_closed, Spaces, spaces_before, image_bracket}
use Rattle.tocmark_commonmark.specs.Tokens.{html_end}
use Rattle.tocmark_inline_laws.specs.Said.{commonmark, words}
use Rattle.tocmark_inline_laws.proofs.Ampersands.{kept_words, Here, starts_here, none_of_four, numeric_is, named_is, unnamed}
use Rattle.tocmark_inline_laws.proofs.Ampersands as ampersands
use Rattle.tocmark_inline_laws.proofs.CodeSpans.{pushed}
use Rattle.tocmark_inline_laws.proofs.Places.{any_byte, past_end}
use Rattle.tocmark_inline_laws.proofs.Plains.{drop_more}
use Rattle.tocmark_inline_laws.proofs.TagEnds.{Angled, html_angled, raw_so}
use Rattle.tocmark_inline_laws.proofs.TickRuns.{Spans, ticks_to, ticks_at, ticks_span, value_at, Looked}
use Rattle.tocmark_inline_laws.proofs.TickRuns as ticks
use Rattle.tocmark_standard_laws.proofs.Cuts.{all_drop}
use Rattle.tocmark_standard_laws.proofs.FeedMarks.{end_of, is_opener, IsNarrow, Feeds, quiet_put, feeds_on, narrow_on, narrow_open, mark_put, narrow_space, break_put, plain_feeds}
use Rattle.tocmark_standard_laws.proofs.NamedTexts.{named_text}

-- a byte of ASCII
abbrev pub IsLow : List ℕ → ℕ → Type 0
IsLow t x = byte_at t x < 128

-- what a mark says as a text, among these texts and more
abbrev pub IsMade : List ℕ → Leaf → Type 0
IsMade texts (leaf.Character c) = Unit {0}
IsMade texts (leaf.Code s) = Unit {0}
IsMade texts (leaf.Html s) = Unit {0}
IsMade texts leaf.SoftBreak = Unit {0}
IsMade texts leaf.HardBreak = Unit {0}
IsMade texts (leaf.Text s) = (further : List ℕ) → IsUtf8 (words (texts ++ further) s) × (0 < length (words (texts ++ further) s))
IsMade texts (leaf.Footnote s) = ⊥
IsMade texts (leaf.InlineMath s) = ⊥
IsMade texts (leaf.DisplayMath s) = ⊥

-- what is known of a role at a place
abbrev pub MarkAt : List ℕ → List ℕ → ℕ → Role → Type 0
MarkAt t texts x Plain = Unit {0}
MarkAt t texts x Fresh = IsLow t x
MarkAt t texts x Hidden = IsLow t x
MarkAt t texts x (Open span end) = IsLow t x
MarkAt t texts x (Close end) = IsLow t x × IsLow t (end - 1)
MarkAt t texts x (Single l end) = IsLow t x × IsLow t (end - 1) × IsMade texts l

-- so it is with all roles from a place on
abbrev pub Marks : List ℕ → List ℕ → ℕ → List Role → Type 0
Marks t texts p [] = Unit {0}
Marks t texts p (r ∷ rs) = MarkAt t texts p r × Marks t texts (suc p) rs

marks_set : (t texts : List ℕ) (p : ℕ) (R : List Role) (i : ℕ) (y : Role) → MarkAt t texts (p + i) y → Marks t texts p R → Marks t texts p (slice_set R i y)
marks_set t texts p [] i y m h = tt
marks_set t texts p (x ∷ xs) zero y m h = (subst (λ q. MarkAt t texts q y) (let q : p + 0 ≡ p = omega arith in q) m, h.1)
marks_set t texts p (x ∷ xs) (suc i) y m h = (h.0, marks_set t texts (suc p) xs i y (subst (λ q. MarkAt t texts q y) (let q : p + suc i ≡ suc p + i = omega arith in q) m) (h.1))

marks_put : (t texts : List ℕ) (R : List Role) (i : ℕ) (y : Role) → MarkAt t texts i y → Marks t texts 0 R → Marks t texts 0 (slice_set R i y)
marks_put t texts R i y m h = marks_set t texts 0 R i y (subst (λ q. MarkAt t texts q y) (let q : i ≡ 0 + i = omega arith in q) m) h

made_more : (texts more : List ℕ) (l : Leaf) → IsMade texts l → IsMade (texts ++ more) l
made_more texts more (leaf.Character c) h = tt
made_more texts more (leaf.Code s) h = tt
made_more texts more (leaf.Html s) h = tt
made_more texts more leaf.SoftBreak h = tt
made_more texts more leaf.HardBreak h = tt
made_more texts more (leaf.Text s) h = λ further. subst (λ ts. IsUtf8 (words ts s) × (0 < length (words ts s))) (sym (append_assoc texts more further)) (h (more ++ further))
made_more texts more (leaf.Footnote s) h = h
made_more texts more (leaf.InlineMath s) h = h
made_more texts more (leaf.DisplayMath s) h = h

mark_more : (t texts more : List ℕ) (x : ℕ) (r : Role) → MarkAt t texts x r → MarkAt t (texts ++ more) x r
mark_more t texts more x Plain h = tt
mark_more t texts more x Fresh h = h
mark_more t texts more x Hidden h = h
mark_more t texts more x (Open span end) h = h
mark_more t texts more x (Close end) h = h
mark_more t texts more x (Single l end) h = ((h.0), (h.1), made_more texts more l (h.2))

marks_more : (t texts more : List ℕ) (p : ℕ) (R : List Role) → Marks t texts p R → Marks t (texts ++ more) p R
marks_more t texts more p [] h = tt
marks_more t texts more p (r ∷ rs) h = (mark_more t texts more p r (h.0), marks_more t texts more (suc p) rs (h.1))

all_plain : (t texts : List ℕ) (p n : ℕ) → Marks t texts p (replicate n Plain)
all_plain t texts p zero = tt
all_plain t texts p (suc n) = (tt, all_plain t texts (suc p) n)

-- emphasis: all delimiters are bytes of ASCII

-- a byte of emphasis, or of an opening bracket
abbrev pub IsOpen : List ℕ → ℕ → Type 0
IsOpen t x = is_opener (byte_at t x) ≡ true

open_low : (t : List ℕ) (x : ℕ) → IsOpen t x → IsLow t x
open_low t x h = by (byte_at t x == 42) (byte_at t x == 95) (byte_at t x == 91) (byte_at t x == 33) refl refl refl refl h
  where
    by : (a b c d : Bool) → (byte_at t x == 42) ≡ a → (byte_at t x == 95) ≡ b → (byte_at t x == 91) ≡ c → (byte_at t x == 33) ≡ d → ((a || b) || (c || d)) ≡ true → IsLow t x
    by true b c d p q r v k = let e : byte_at t x ≡ 42 = eq_of (byte_at t x) 42 p in omega (arith, e)
    by false true c d p q r v k = let e : byte_at t x ≡ 95 = eq_of (byte_at t x) 95 q in omega (arith, e)
    by false false true d p q r v k = let e : byte_at t x ≡ 91 = eq_of (byte_at t x) 91 r in omega (arith, e)
    by false false false true p q r v k = let e : byte_at t x ≡ 33 = eq_of (byte_at t x) 33 v in omega (arith, e)
    by false false false false p q r v k = absurd (true≢false (sym k))

open_feedless : (t : List ℕ) (x : ℕ) → IsOpen t x → byte_at t x ≡ 10 → ⊥
open_feedless t x h e = true≢false (sym h ∙ ap is_opener e)

pub record IsRunLow (t : List ℕ) (r : Run) : Type 0 where
  pub low : (x : ℕ) → r.place ≤ x → x < r.place + r.count → IsOpen t x
  pub room : r.place + r.count ≤ 2 ^ 64 - 1

record IsOpener (t : List ℕ) (r : Run) : Type 0 where
  low : IsRunLow t r
  some : 0 < r.count

-- a role at such a byte
quiet : (t : List ℕ) (f : ℕ) (R : List Role) (i : ℕ) (y : Role) → IsOpen t i → end_of y ≤ suc i → is_marked y ≡ true → Feeds t f R → Feeds t f (slice_set R i y)
quiet t f R i y o n m h = quiet_put t f R i y (narrow_open t f R i o h) n (λ e. m) h

record Emphasized (t texts : List ℕ) (f : ℕ) (R : List Role) : Type 0 where
  marks : Marks t texts 0 R
  feeds : Feeds t f R

record Matched (t texts : List ℕ) (f : ℕ) (s : emphasis.State) : Type 0 where
  marks : Marks t texts 0 s.roles
  feeds : Feeds t f s.roles
  stack : AllByRecursion (IsOpener t) s.stack

shortened_low : (t : List ℕ) (k width : ℕ) (o : Run) (rs : List Run) → IsOpener t o → width ≤ o.count → AllByRecursion (IsOpener t) rs → AllByRecursion (IsOpener t) (emphasis.shortened k o width rs)
shortened_low t k width o rs h l all = by (o.count - width == 0) refl
  where
    by : (z : Bool) → (o.count - width == 0) ≡ z → AllByRecursion (IsOpener t) (if z then take k rs else slice_set (take (plus k 1) rs) k (emphasis.with_count (o.count - width) o))
    by true e = all_take (IsOpener t) k rs all
    by false e = all_set (IsOpener t) (take (plus k 1) rs) k (emphasis.with_count (o.count - width) o) (all_take (IsOpener t) (plus k 1) rs all) (record {
      low = record { low = λ x a b. h.low.low x a (omega arith); room = let r : o.place + o.count ≤ 2 ^ 64 - 1 = h.low.room in omega (arith, l, r) };
      some = let z : 0 < o.count - width = grind (arith, nat_tests, e) in z;
    })

abbrev Pair : List ℕ → List ℕ → ℕ → emphasis.State × Run → Type 0
Pair t texts f (s, r) = Matched t texts f s × IsRunLow t r

matching_low : (t texts : List ℕ) (f : ℕ) (width k : ℕ) (o c : Run) (s : emphasis.State) → 1 ≤ width → width ≤ o.count → width ≤ c.count → IsOpener t o → IsRunLow t c → Matched t texts f s → Pair t texts f (emphasis.matching width k o c s)
matching_low t texts f width k o c s few lo lc ho hc h = (
  record {
    marks =
        marks_put t texts third (end - 1) (Close end) (open_low t (end - 1) last, open_low t (end - 1) last)
        (marks_put t texts second c.place Hidden (open_low t c.place next)
        (marks_put t texts first (from - width) (Open (emphasis.span_of width c) end) (open_low t (from - width) start)
        (marks_put t texts s.roles (from - 1) Hidden (open_low t (from - 1) before) h.marks)));
    feeds = quiet t f third (end - 1) (Close end) last (omega (arith, stop, few)) refl feeds_three;
    stack = shortened_low t k width o s.stack ho lo h.stack;
  },
  record { low = λ x a b. hc.low x (omega (arith, stop)) (omega (arith, stop)); room = omega (arith, stop, whole) },
)
  where
    room : o.place + o.count ≤ 2 ^ 64 - 1
    room = ho.low.room

    whole : c.place + c.count ≤ 2 ^ 64 - 1
    whole = hc.room

    from : ℕ
    from = plus o.place o.count

    end : ℕ
    end = plus c.place width

    sum : plus o.place o.count ≡ o.place + o.count
    sum = omega (arith, room)

    stop : plus c.place width ≡ c.place + width
    stop = omega (arith, whole)

    first : List Role
    first = slice_set s.roles (from - 1) Hidden

    second : List Role
    second = slice_set first (from - width) (Open (emphasis.span_of width c) end)

    third : List Role
    third = slice_set second c.place Hidden

    last : IsOpen t (plus c.place width - 1)
    last = hc.low (plus c.place width - 1) (omega (arith, stop)) (omega (arith, stop))

    next : IsOpen t c.place
    next = hc.low c.place (omega arith) (omega arith)

    start : IsOpen t (plus o.place o.count - width)
    start = ho.low.low (from - width) (omega (arith, sum)) (omega (arith, sum))

    before : IsOpen t (plus o.place o.count - 1)
    before = ho.low.low (from - 1) (omega (arith, sum)) (omega (arith, sum))

    feeds_three : Feeds t f third
    feeds_three = quiet t f second c.place Hidden next (omega arith) refl (quiet t f first (from - width) (Open (emphasis.span_of width c) end) start (omega arith) refl (quiet t f s.roles (from - 1) Hidden before (omega arith) refl h.feeds))

width_few : (o r : Run) → 0 < o.count → 0 < r.count → (1 ≤ emphasis.width_of o r) × (emphasis.width_of o r ≤ o.count) × (emphasis.width_of o r ≤ r.count)
unfolding emphasis.width_of
width_few o r a b = by (nat_le 2 o.count) (nat_le 2 r.count) refl refl
  where
    by : (x y : Bool) → nat_le 2 o.count ≡ x → nat_le 2 r.count ≡ y → (1 ≤ (if x && y then 2 else 1)) × ((if x && y then 2 else 1) ≤ o.count) × ((if x && y then 2 else 1) ≤ r.count)
    by true true p q = let l : 2 ≤ o.count = grind (arith, nat_tests) in let m : 2 ≤ r.count = grind (arith, nat_tests) in (omega arith, l, m)
    by true false p q = (omega arith, omega arith, omega arith)
    by false y p q = (omega arith, omega arith, omega arith)

abbrev Once : List ℕ → List ℕ → ℕ → emphasis.State × Option Run → Type 0
Once t texts f (s, None) = Matched t texts f s
Once t texts f (s, Some r) = Matched t texts f s × IsRunLow t r

once_low : (t texts : List ℕ) (f : ℕ) (c : Run) (s : emphasis.State) → IsRunLow t c → Matched t texts f s → Once t texts f (emphasis.once c s)
unfolding emphasis.once emphasis.matched
once_low t texts f c s hc h = by (c.count == 0) refl
  where
    on : (k : ℕ) (o : Option Run) → slice_get s.stack k ≡ o → 0 < c.count → Once t texts f (emphasis.once_on o k c s)
    on k None e z = h
    on k (Some o) e z = few (width_few o c opener.some z)
      where
        opener : IsOpener t o
        opener = all_got (IsOpener t) s.stack k o h.stack e

        few : (1 ≤ emphasis.width_of o c) × (emphasis.width_of o c ≤ o.count) × (emphasis.width_of o c ≤ c.count) → Once t texts f (emphasis.once_on (Some o) k c s)
        few (a, b, d) = matching_low t texts f (emphasis.width_of o c) k o c s a b d opener hc h

    at : (x : Option ℕ) → 0 < c.count → Once t texts f (emphasis.once_at x c s)
    at None z = record { marks = h.marks; feeds = h.feeds; stack = h.stack }
    at (Some k) z = on k (slice_get s.stack k) refl z

    stop : emphasis.State × Option Run
    stop = (s, None)

    by : (z : Bool) → (c.count == 0) ≡ z → Once t texts f (if z then stop else emphasis.once_at (emphasis.found s.stack c (unwrap_or (slice_get s.bottoms (emphasis.class_of c)) 0) (length s.stack)) c s)
    by true e = h
    by false e = at (emphasis.found s.stack c (unwrap_or (slice_get s.bottoms (emphasis.class_of c)) 0) (length s.stack)) (let z : 0 < c.count = grind (arith, nat_tests) in z)

repeated_low : (t texts : List ℕ) (f : ℕ) (n : ℕ) (c : Run) (s : emphasis.State) → IsRunLow t c → Matched t texts f s → Pair t texts f (repeated emphasis.once n c s)
unfolding repeated
repeated_low t texts f zero c s hc h = (h, hc)
repeated_low t texts f (suc n) c s hc h = by (emphasis.once c s) (once_low t texts f c s hc h) (λ d u a b. repeated_low t texts f n d u a b)
  where
    by : (x : emphasis.State × Option Run) → Once t texts f x → ((d : Run) (u : emphasis.State) → IsRunLow t d → Matched t texts f u → Pair t texts f (repeated emphasis.once n d u)) → Pair t texts f (going (λ d u. repeated emphasis.once n d u) c x)
    by (u, None) a f = (a, hc)
    by (u, Some d) (a, b) f = f d u b a

stacked_low : (t texts : List ℕ) (f : ℕ) (p : emphasis.State × Run) → Pair t texts f p → Matched t texts f (emphasis.stacked p)
stacked_low t texts f (s, r) (h, k) = by r.opens (nat_lt 0 r.count) refl
  where
    by : (x y : Bool) → nat_lt 0 r.count ≡ y → Matched t texts f (if x && y then record s { stack = s.stack ++ r ∷ [] } else s)
    by true true e = record { marks = h.marks; feeds = h.feeds; stack = all_both (IsOpener t) s.stack (r ∷ []) h.stack (record { low = k; some = let z : 0 < r.count = grind (arith, nat_tests) in z }, tt) }
    by true false e = h
    by false y e = h

run_low : (t texts : List ℕ) (f : ℕ) (s : emphasis.State) (r : Run) → IsRunLow t r → Matched t texts f s → Matched t texts f (emphasis.run_step s r)
unfolding emphasis.run_step
run_low t texts f s r k h = by r.closes
  where
    by : (z : Bool) → Matched t texts f (emphasis.stacked (if z then repeated emphasis.once r.count r s else (s, r)))
    by true = stacked_low t texts f (repeated emphasis.once r.count r s) (repeated_low t texts f r.count r s k h)
    by false = stacked_low t texts f (s, r) (h, k)

runs_low : (t texts : List ℕ) (f : ℕ) (rs : List Run) (s : emphasis.State) → AllByRecursion (IsRunLow t) rs → Matched t texts f s → Matched t texts f (fold emphasis.run_step s rs)
runs_low t texts f [] s k h = h
runs_low t texts f (r ∷ rs) s k h = runs_low t texts f rs (emphasis.run_step s r) (k.1) (run_low t texts f s r (k.0) h)

emphasized_low : (t texts : List ℕ) (f : ℕ) (R : List Role) (rs : List Run) → AllByRecursion (IsRunLow t) rs → Marks t texts 0 R → Feeds t f R → Emphasized t texts f (emphasis.emphasized R rs)
unfolding emphasis.emphasized
emphasized_low t texts f R rs k h g = record { marks = m.marks; feeds = m.feeds }
  where
    m : Matched t texts f (fold emphasis.run_step (emphasis.emphasis_start R) rs)
    m = runs_low t texts f rs (emphasis.emphasis_start R) k (record { marks = h; feeds = g; stack = tt })

-- an end after a byte of ASCII
record Behind (t : List ℕ) (end : ℕ) : Type 0 where
  at : ℕ
  low : IsLow t at
  solid : (byte_at t at == 32) ≡ false
  is : end ≡ plus at 1

-- the byte before an end is one of ASCII, and no space
abbrev IsEnd : List ℕ → ℕ → Type 0
IsEnd t end = IsLow t (end - 1) × ((byte_at t (end - 1) == 32) ≡ false)

behind_low : (t : List ℕ) (end : ℕ) → length t + 2 < 2 ^ 64 → Behind t end → IsEnd t end
behind_low t end short b = by (nat_lt b.at (2 ^ 64 - 2)) refl
  where
    is : end ≡ plus b.at 1
    is = b.is

    by : (z : Bool) → nat_lt b.at (2 ^ 64 - 2) ≡ z → IsEnd t end
    by true e = let l : b.at < 2 ^ 64 - 2 = grind (arith, nat_tests, e) in subst (λ n. IsLow t n × ((byte_at t n == 32) ≡ false)) (let q : b.at ≡ end - 1 = omega (arith, is, l) in q) (b.low, b.solid)
    by false e = let l : 2 ^ 64 - 2 ≤ b.at = grind (arith, nat_tests, e) in let q : byte_at t (end - 1) ≡ 10 = past_end t (end - 1) (omega (arith, is, l)) in (omega (arith, q), ap (λ c. c == 32) q)

behind : (t : List ℕ) (at b end : ℕ) → byte_at t at ≡ b → b < 128 → (b == 32) ≡ false → end ≡ plus at 1 → Behind t end
behind t at b end e l n is = record { at = at; low = omega (arith, e, l); solid = ap (λ c. c == 32) e ∙ n; is = is }

low_byte : (t : List ℕ) (x b : ℕ) → byte_at t x ≡ b → b < 128 → IsLow t x
low_byte t x b e l = omega (arith, e, l)

-- where links and images end

abbrev OnEnd : List ℕ → Option ℕ → Type 0
OnEnd t None = Unit {0}
OnEnd t (Some end) = Behind t end

abbrev OnTarget : List ℕ → Option InlineTarget → Type 0
OnTarget t None = Unit {0}
OnTarget t (Some found) = Behind t found.end

abbrev OnWord : List ℕ → Option Word → Type 0
OnWord t None = Unit {0}
OnWord t (Some w) = Behind t w.next

abbrev OnAsked : List ℕ → Option Asked → Type 0
OnAsked t None = Unit {0}
OnAsked t (Some a) = Behind t a.end

end_behind : (t : List ℕ) (p : ℕ) → OnEnd t (inline_end t p)
unfolding inline_end
end_behind t p = by (byte_at t end == 41) refl
  where
    end : ℕ
    end = run_end t p White

    by : (z : Bool) → (byte_at t end == 41) ≡ z → OnEnd t (if z then Some (plus end 1) else None)
    by true e = behind t end 41 (plus end 1) (eq_of (byte_at t end) 41 e) (omega arith) refl refl
    by false e = tt

titled_behind : (t : List ℕ) (d : Word) (o : Option Word) → OnTarget t (target_titled t d o)
titled_behind t d None = tt
titled_behind t d (Some w) = by (inline_end t w.next) (end_behind t w.next)
  where
    by : (o : Option ℕ) → OnEnd t o → OnTarget t (target_ended d w o)
    by None h = tt
    by (Some end) h = h

target_behind : (t : List ℕ) (p : ℕ) → OnTarget t (inline_target t p)
unfolding inline_target target_from
target_behind t p = by (byte_at t p == 40)
  where
    from : (o : Option Word) → OnTarget t (target_with t o)
    from None = tt
    from (Some d) = titled_behind t d (inline_title t d.next)

    by : (z : Bool) → OnTarget t (if z then target_with t (destination t (run_end t (plus p 1) White)) else None)
    by true = from (destination t (run_end t (plus p 1) White))
    by false = tt

label_behind : (t : List ℕ) (p : ℕ) → OnWord t (label t p)
unfolding label label_from enclosed closing_of
label_behind t p = by (byte_at t p == 91) (byte_at t end == 93) refl
  where
    end : ℕ
    end = enclosed_end Bracketed false (plus p 1) (drop (plus p 1) t)

    of : (z : Bool) → byte_at t end ≡ 93 → OnWord t (if z then Some (word (plus p 1) end (plus end 1)) else None)
    of true e = behind t end 93 (plus end 1) e (omega arith) refl refl
    of false e = tt

    by : (x y : Bool) → (byte_at t end == 93) ≡ y → OnWord t (if x then label_to t (plus p 1) (if y then Some end else None) else None)
    by true true e = of (is_label_text (bytes_between t (plus p 1) end)) (eq_of (byte_at t end) 93 e)
    by true false e = tt
    by false y e = tt

own_behind : (t : List ℕ) (p : ℕ) (o : Option Word) → p < length t → length t + 2 < 2 ^ 64 → byte_at t p ≡ 93 → OnAsked t (own_from t p o)
own_behind t p None w short e = tt
own_behind t p (Some l) w short e = by (starts_at t (plus p 1) (codes "[]")) refl
  where
    by : (z : Bool) → starts_at t (plus p 1) (codes "[]") ≡ z → OnAsked t (if z then Some (record { link_type = Collapsed; label = l; end = plus p 3 }) else Some (record { link_type = Shortcut; label = l; end = plus p 1 }))
    by true s = let k : Here t (plus p 1) (codes "[]") = starts_here t (plus p 1) (codes "[]") s in behind t (suc (plus p 1)) 93 (plus p 3) (byte_dropped t (suc (plus p 1)) 93 k.rest (drop_more t (plus p 1) 91 (93 ∷ k.rest) k.here)) (omega arith) refl (omega arith)
    by false s = behind t p 93 (plus p 1) e (omega arith) refl refl

asked_behind : (t : List ℕ) (b : Bracket) (p : ℕ) → p < length t → length t + 2 < 2 ^ 64 → byte_at t p ≡ 93 → OnAsked t (label_asked t b p)
unfolding label_asked own_asked
asked_behind t b p w short e = by (label t (plus p 1)) (label_behind t (plus p 1))
  where
    by : (o : Option Word) → OnWord t o → OnAsked t (asked_or t b p o)
    by None h = own_behind t p (own_label t b p) w short e
    by (Some l) h = h

-- where other marks end

html_low : (t : List ℕ) (ends : LastEnds) (p : ℕ) → p < length t → length t + 2 < 2 ^ 64 → byte_at t p ≡ 60 → ends ≡ ends_of t → OnEnd t (raw_html t p ends)
unfolding ends_of
html_low t ends p w short is knows = subst (OnEnd t) (sym (ap (raw_html t p) (knows ∙ ap (λ (z : Bool). if z then last_ends t else record { comment = 0; instruction = 0; cdata = 0; declaration = 0 }) (any_byte (λ b. b == 60) t p w (ap (λ c. c == 60) is))) ∙ raw_so t p w short)) (by (html_end t p) refl)
  where
    by : (o : Option ℕ) → html_end t p ≡ o → OnEnd t o
    by None e = tt
    by (Some end) e = let a : Angled t p end = html_angled t p end w short e in behind t a.at 62 end a.bracket (omega arith) refl a.end_is

-- a code span ends after its backticks
abbrev OnCode : List ℕ → ℕ → Option ℕ → Type 0
OnCode t count None = Unit {0}
OnCode t count (Some to) = IsEnd t (plus to count)

code_low : (t known : List ℕ) (p : ℕ) → p < length t → length t + 2 < 2 ^ 64 → byte_at t p ≡ 96 → known ≡ ticks_of t → OnCode t (ticks_to t p - p) (tick_end t (ticks_to t p) (ticks_to t p - p) known)
unfolding tick_end ticks_of
code_low t known p w short is knows = subst (λ ts. OnCode t (ticks_to t p - p) (if nat_lt (ticks_to t p) (value_at ts (ticks_to t p - p)) then Some end else None)) (sym (knows ∙ ap (λ (z : Bool). if z then last_ticks t else []) (any_byte (λ b. b == 96) t p w (ap (λ c. c == 96) is))))
    (subst (λ (z : Bool). OnCode t (ticks_to t p - p) (if z then Some end else None)) (sym search.same) (by (nat_lt end (length t)) refl))
  where
    end : ℕ
    end = iterated (next_run t (ticks_to t p - p)) (length t) (ticks_at t (ticks_to t p))

    span : Spans t (λ c. c == 96) p (ticks_to t p)
    span = ticks_span t p (omega arith) (omega arith)

    some : p < ticks_to t p
    some = near (nat_lt p (ticks_to t p)) refl
      where
        near : (z : Bool) → nat_lt p (ticks_to t p) ≡ z → p < ticks_to t p
        near true e = grind (arith, nat_tests, e)
        near false e =
            let same : ticks_to t p ≡ p = (let k : ticks_to t p ≤ p = grind (arith, nat_tests, e) in let l : p ≤ ticks_to t p = span.from in omega arith) in
            absurd (true≢false (sym (ap (λ c. c == 96) is) ∙ ap (λ n. byte_at t n == 96) (sym same) ∙ span.stop (subst (λ n. n < length t) (sym same) w)))

    search : Looked t (ticks_to t p - p) (ticks_to t p) (value_at (last_ticks t) (ticks_to t p - p)) end
    search = ticks.looked t (ticks_to t p - p) (ticks_to t p) short (record { start = p; behind = some; span = span })

    by : (z : Bool) → nat_lt end (length t) ≡ z → OnCode t (ticks_to t p - p) (if z then Some end else None)
    by true e = (low_byte t (plus end (ticks_to t p - p) - 1) 96 tick (omega arith), ap (λ c. c == 32) tick)
      where
        run : Spans t (λ c. c == 96) end (ticks_to t end)
        run = ticks_span t end search.within (omega arith)

        long : ticks_to t end ≡ end + (ticks_to t p - p)
        long = search.long (grind (arith, nat_tests, e))

        there : end + (ticks_to t p - p) ≤ length t
        there = subst (λ n. n ≤ length t) long run.within

        plain : plus end (ticks_to t p - p) - 1 ≡ end + (ticks_to t p - p) - 1
        plain = omega (arith, there)

        tick : byte_at t (plus end (ticks_to t p - p) - 1) ≡ 96
        tick = ap (byte_at t) plain ∙ eq_of (byte_at t (end + (ticks_to t p - p) - 1)) 96 (run.each (end + (ticks_to t p - p) - 1) (omega (arith, some)) (omega (arith, some, long)))
    by false e = tt

-- the pass over a content

abbrev pub IsBracketLow : List ℕ → Bracket → Type 0
IsBracketLow t b = IsOpen t b.start × IsOpen t (b.inner - 1)

-- the pass where it goes on at a place
pub record Walks (t : List ℕ) (f : ℕ) (s : State) : Type 0 where
  pub marks : Marks t s.texts 0 s.roles
  pub feeds : Feeds t f s.roles
  pub runs : AllByRecursion (IsRunLow t) s.runs
  pub brackets : AllByRecursion (IsBracketLow t) s.brackets

-- after a step the pass is at the same place, and goes on after it, or where a mark ends
abbrev Goes : List ℕ → ℕ → State → Type 0
Goes t p u = (u.place ≡ p) × Walks t (max (suc p) u.resume) u

texts_walk : (t more : List ℕ) (f : ℕ) (s : State) → Walks t f s → Walks t f (record s { texts = s.texts ++ more })
texts_walk t more f s h = record { marks = marks_more t s.texts more 0 s.roles h.marks; feeds = h.feeds; runs = h.runs; brackets = h.brackets }

-- the pass goes on further
walk_on : (t : List ℕ) (f g : ℕ) (s : State) → f ≤ g → ((x : ℕ) → f ≤ x → x < g → (byte_at t x == 10) ≡ false) → Walks t f s → Walks t g s
walk_on t f g s l none h = record { marks = h.marks; feeds = feeds_on t f g s.roles l none h.feeds; runs = h.runs; brackets = h.brackets }

-- a byte that is no line feed stays as it is
stays : (t : List ℕ) (b : ℕ) (s : State) → s.resume ≤ s.place → byte_at t s.place ≡ b → (b == 10) ≡ false → Walks t s.place s → Goes t s.place s
stays t b s r e n h = (refl, walk_on t s.place (max (suc s.place) s.resume) s (omega arith) (λ x l m. ap (λ c. c == 10) (ap (byte_at t) (let q : x ≡ s.place = omega (arith, l, m, r) in q) ∙ e) ∙ n) h)

leaf_goes : (t : List ℕ) (l : Leaf) (b end : ℕ) (s : State) → byte_at t s.place ≡ b → b < 128 → is_opener b ≡ false → (b == 32) ≡ false → IsEnd t end → IsMade s.texts l → Walks t s.place s → Goes t s.place (put_leaf l end s)
unfolding put_leaf
leaf_goes t l b end s e low closed ink ends m h = (
  refl,
  record {
    marks = marks_put t s.texts s.roles s.place (Single l end) (low_byte t s.place b e low, ends.0, m) h.marks;
    feeds = mark_put t s.roles s.place (Single l end) refl (ends.1) (ap is_opener e ∙ closed) (ap (λ c. c == 32) e ∙ ink) h.feeds;
    runs = h.runs;
    brackets = h.brackets;
  },
)

ranged_low : (from to c : ℕ) → to < 128 → (nat_le from c && nat_le c to) ≡ true → c < 128
ranged_low from to c l h = let k : nat_le c to ≡ true = (both_true (nat_le from c) (nat_le c to) h).1 in let m : c ≤ to = grind (arith, nat_tests, k) in omega (arith, l, m)

punctuation_low : (c : ℕ) → is_ascii_punctuation c ≡ true → c < 128
punctuation_low c h = elim (one_of_two ((nat_le 33 c && nat_le c 47) || (nat_le 58 c && nat_le c 64)) ((nat_le 91 c && nat_le c 96) || (nat_le 123 c && nat_le c 126)) h) [
  | inl k ↦ elim (one_of_two (nat_le 33 c && nat_le c 47) (nat_le 58 c && nat_le c 64) k) [
    | inl m ↦ ranged_low 33 47 c (omega arith) m
    | inr m ↦ ranged_low 58 64 c (omega arith) m
  ]
  | inr k ↦ elim (one_of_two (nat_le 91 c && nat_le c 96) (nat_le 123 c && nat_le c 126) k) [
    | inl m ↦ ranged_low 91 96 c (omega arith) m
    | inr m ↦ ranged_low 123 126 c (omega arith) m
  ]
]

punctuation_feedless : (c : ℕ) → is_ascii_punctuation c ≡ true → (c == 10) ≡ false
punctuation_feedless c h = by (c == 10) refl
  where
    by : (z : Bool) → (c == 10) ≡ z → z ≡ false
    by true e = absurd (true≢false (sym h ∙ ap is_ascii_punctuation (eq_of c 10 e)))
    by false e = refl

escaped_goes : (t : List ℕ) (s : State) → length t + 2 < 2 ^ 64 → s.place < length t → s.resume ≤ s.place → byte_at t s.place ≡ 92 → Walks t s.place s → Goes t s.place (escaped t s)
unfolding escaped is_escape
escaped_goes t s short w r e h = by (byte_at t s.place == 92) (is_ascii_punctuation (byte_at t (plus s.place 1))) (starts_at t s.place (codes "\\\n")) refl refl
  where
    low : IsLow t s.place
    low = low_byte t s.place 92 e (omega arith)

    broken : starts_at t s.place (codes "\\\n") ≡ true → Goes t s.place (put_leaf leaf.HardBreak (plus s.place 2) s)
    broken g =
        let k : Here t s.place (codes "\\\n") = starts_here t s.place (codes "\\\n") g in
        leaf_goes t leaf.HardBreak 92 (plus s.place 2) s e (omega arith) refl refl (behind_low t (plus s.place 2) short (behind t (suc s.place) 10 (plus s.place 2) (byte_dropped t (suc s.place) 10 k.rest (drop_more t s.place 92 (10 ∷ k.rest) k.here)) (omega arith) refl (omega arith))) tt h

    first : List Role
    first = slice_set s.roles s.place Hidden

    feeds_first : Feeds t s.place first
    feeds_first = quiet_put t s.place s.roles s.place Hidden (narrow_on t s.place s.roles s.place (omega arith) h.feeds) (omega arith) (λ q. refl) h.feeds

    escape : is_ascii_punctuation (byte_at t (plus s.place 1)) ≡ true → Feeds t s.place (slice_set first (plus s.place 1) Fresh)
    escape f = quiet_put t s.place first (plus s.place 1) Fresh (narrow_on t s.place first (plus s.place 1) (omega arith) feeds_first) (omega arith) (λ q. absurd (true≢false (ap (λ c. c == 10) (sym q) ∙ punctuation_feedless (byte_at t (plus s.place 1)) f))) feeds_first

    none : is_ascii_punctuation (byte_at t (plus s.place 1)) ≡ true → (x : ℕ) → s.place ≤ x → x < max (suc s.place) (plus s.place 2) → (byte_at t x == 10) ≡ false
    none f x l m = near (x == s.place) refl
      where
        near : (z : Bool) → (x == s.place) ≡ z → (byte_at t x == 10) ≡ false
        near true q = ap (λ c. c == 10) (ap (byte_at t) (eq_of x s.place q) ∙ e)
        near false q = ap (λ c. byte_at t c == 10) (let k : x ≡ plus s.place 1 = (let d : s.place < x = grind (arith, nat_tests, q, l) in omega (arith, d, m)) in k) ∙ punctuation_feedless (byte_at t (plus s.place 1)) f

    by : (x y z : Bool) → is_ascii_punctuation (byte_at t (plus s.place 1)) ≡ y → starts_at t s.place (codes "\\\n") ≡ z
        → Goes t s.place (if x && y then record s { roles = slice_set (slice_set s.roles s.place Hidden) (plus s.place 1) Fresh; resume = plus s.place 2 } else (if z then put_leaf leaf.HardBreak (plus s.place 2) s else s))
    by true true z f g = (refl, record { marks = marks_put t s.texts (slice_set s.roles s.place Hidden) (plus s.place 1) Fresh (punctuation_low (byte_at t (plus s.place 1)) f) (marks_put t s.texts s.roles s.place Hidden low h.marks); feeds = feeds_on t s.place (max (suc s.place) (plus s.place 2)) (slice_set first (plus s.place 1) Fresh) (omega arith) (none f) (escape f); runs = h.runs; brackets = h.brackets })
    by true false true f g = broken g
    by true false false f g = stays t 92 s r e refl h
    by false y true f g = broken g
    by false y false f g = stays t 92 s r e refl h

-- character references
numbered_goes : (t : List ℕ) (s : State) → length t + 2 < 2 ^ 64 → s.place < length t → s.resume ≤ s.place → byte_at t s.place ≡ 38 → name.named t s.place ≡ None → Walks t s.place s → Goes t s.place (referred t s)
unfolding referred reference_at
numbered_goes t s short w r e none h = by (starts_at t s.place (codes "&#"))
  where
    of : (o : Option ByNumber) → numeric t s.place ≡ o → Goes t s.place (referred_to s o)
    of None f = stays t 38 s r e refl h
    of (Some n) f =
        let c : ampersands.Closed t s.place n.next = numeric_is t s.place n w short f in
        leaf_goes t (leaf.Character n.character) 38 n.next s e (omega arith) refl refl (behind_low t n.next short (behind t c.end 59 n.next c.semicolon (omega arith) refl c.next_is)) tt h

    by : (z : Bool) → Goes t s.place (referred_to s (if z then numeric t s.place else number.named t s.place))
    by true = of (numeric t s.place) refl
    by false = subst (λ (o : Option ByNumber). Goes t s.place (referred_to s o)) (sym (none_of_four t s.place (omega arith) (omega arith) (unnamed t s.place none))) (stays t 38 s r e refl h)

-- what a name stands for
known_text : (t : List ℕ) (p : ℕ) (n : Named) → name.named t p ≡ Some n → IsUtf8 n.characters × (0 < length n.characters)
unfolding name.named name_at
known_text t p n e = by (byte_at t p == 38) (byte_at t (name_end t p) == 59) e
  where
    none : None ≡ Some n → ⊥
    none f = let k : None ≡ Some n = f in cc

    same : (cs : List ℕ) → Some (record { characters = cs; next = plus (name_end t p) 1 }) ≡ Some n → cs ≡ n.characters
    same cs f = let k : record { characters = cs; next = plus (name_end t p) 1 } ≡ n = (let j : Some (record { characters = cs; next = plus (name_end t p) 1 }) ≡ Some n = f in cc) in ap (λ (x : Named). x.characters) k

    of : (o : Option (List ℕ)) → characters_of (bytes_between t (plus p 1) (name_end t p)) ≡ o → name.named_to (plus (name_end t p) 1) o ≡ Some n → IsUtf8 n.characters × (0 < length n.characters)
    of None f g = absurd (none g)
    of (Some cs) f g = subst (λ (bs : List ℕ). IsUtf8 bs × (0 < length bs)) (same cs g) (named_text (bytes_between t (plus p 1) (name_end t p)) cs f)

    by : (x y : Bool) → name.named_to (plus (name_end t p) 1) (if x && y then characters_of (bytes_between t (plus p 1) (name_end t p)) else None) ≡ Some n → IsUtf8 n.characters × (0 < length n.characters)
    by true true f = of (characters_of (bytes_between t (plus p 1) (name_end t p))) refl f
    by true false f = absurd (none f)
    by false y f = absurd (none f)

named_goes : (t : List ℕ) (s : State) → length t + 2 < 2 ^ 64 → s.place < length t → s.resume ≤ s.place → byte_at t s.place ≡ 38 → Walks t s.place s → Goes t s.place (named_taken t s)
unfolding named_taken name_put kept
named_goes t s short w r e h = by (name.named t s.place) refl
  where
    by : (o : Option Named) → name.named t s.place ≡ o → Goes t s.place (named_to t s o)
    by None f = numbered_goes t s short w r e f h
    by (Some n) f =
        leaf_goes t (leaf.Text (stretch (length s.texts) (length (s.texts ++ n.characters)))) 38 n.next (record s { texts = s.texts ++ n.characters }) e (omega arith) refl refl
        (behind_low t n.next short (behind t c.end 59 n.next c.semicolon (omega arith) refl c.next_is))
        (λ further. subst (λ (bs : List ℕ). IsUtf8 bs × (0 < length bs)) (sym (kept_words s.texts n.characters further)) (known_text t s.place n f))
        (texts_walk t n.characters s.place s h)
      where
        c : ampersands.Closed t s.place n.next
        c = named_is t s.place n w short f

-- code spans
coded_goes : (t known : List ℕ) (s : State) → length t + 2 < 2 ^ 64 → s.place < length t → byte_at t s.place ≡ 96 → known ≡ ticks_of t → Walks t s.place s → Goes t s.place (coded t known s)
unfolding coded code_put kept_code
coded_goes t known s short w e knows h = by (tick_end t (ticks_to t s.place) (ticks_to t s.place - s.place) known) (code_low t known s.place w short e knows)
  where
    span : Spans t (λ c. c == 96) s.place (ticks_to t s.place)
    span = ticks_span t s.place (omega arith) (omega arith)

    from : s.place ≤ ticks_to t s.place
    from = span.from

    none : (x : ℕ) → s.place ≤ x → x < max (suc s.place) (ticks_to t s.place) → (byte_at t x == 10) ≡ false
    none x l m = near (x == s.place) refl
      where
        near : (z : Bool) → (x == s.place) ≡ z → (byte_at t x == 10) ≡ false
        near true q = ap (λ c. c == 10) (ap (byte_at t) (eq_of x s.place q) ∙ e)
        near false q = ap (λ c. c == 10) (eq_of (byte_at t x) 96 (span.each x l (let d : s.place < x = grind (arith, nat_tests, q, l) in omega (arith, d, m))))

    by : (o : Option ℕ) → OnCode t (ticks_to t s.place - s.place) o → Goes t s.place (coded_to t (ticks_to t s.place) (ticks_to t s.place - s.place) s o)
    by None k = (refl, record { marks = h.marks; feeds = feeds_on t s.place (max (suc s.place) (ticks_to t s.place)) s.roles (omega arith) none h.feeds; runs = h.runs; brackets = h.brackets })
    by (Some to) k = subst (λ (ts : List ℕ). Goes t s.place (put_leaf (leaf.Code (stretch (length s.texts) (length ts))) (plus to (ticks_to t s.place - s.place)) (record s { texts = ts }))) (sym (pushed s.texts (stripped (bytes_between t (ticks_to t s.place) to))))
        (leaf_goes t (leaf.Code (stretch (length s.texts) (length (s.texts ++ push_shown [] (stripped (bytes_between t (ticks_to t s.place) to)))))) 96 (plus to (ticks_to t s.place - s.place)) (record s { texts = s.texts ++ push_shown [] (stripped (bytes_between t (ticks_to t s.place) to)) })
        e (omega arith) refl refl k tt (texts_walk t (push_shown [] (stripped (bytes_between t (ticks_to t s.place) to))) s.place s h))

-- addresses and raw HTML

-- no byte of an address is a line feed
abbrev OnAddress : List ℕ → ℕ → Option ℕ → Type 0
OnAddress t p None = Unit {0}
OnAddress t p (Some end) = (x : ℕ) → p < x → x < end → (byte_at t x == 10) ≡ false

-- a set of bytes without the line feed
feedless_in : (t : List ℕ) (c : Class) (x : ℕ) → is_in c 10 ≡ false → is_in c (byte_at t x) ≡ true → (byte_at t x == 10) ≡ false
feedless_in t c x n h = by (byte_at t x == 10) refl
  where
    by : (z : Bool) → (byte_at t x == 10) ≡ z → z ≡ false
    by true e = absurd (true≢false (sym h ∙ ap (is_in c) (eq_of (byte_at t x) 10 e) ∙ n))
    by false e = refl

scheme_feedless : is_in Scheme 10 ≡ false
unfolding is_in
scheme_feedless = refl

address_feedless : is_in Address 10 ≡ false
unfolding is_in
address_feedless = refl

mailbox_feedless : is_in Mailbox 10 ≡ false
unfolding is_in is_mailbox
mailbox_feedless = refl

domain_feedless : is_in Domain 10 ≡ false
unfolding is_in
domain_feedless = refl

-- bytes up to a bracket
closed_feedless : (t : List ℕ) (p q : ℕ) → length t + 2 < 2 ^ 64 → ((x : ℕ) → p < x → x < q → (byte_at t x == 10) ≡ false) → OnAddress t p (closed_at t q)
unfolding closed_at
closed_feedless t p q short each = by (byte_at t q == 62) refl
  where
    by : (z : Bool) → (byte_at t q == 62) ≡ z → OnAddress t p (if z then Some (plus q 1) else None)
    by true e = λ x l m. near x l m (x == q) refl
      where
        near : (x : ℕ) → p < x → x < plus q 1 → (z : Bool) → (x == q) ≡ z → (byte_at t x == 10) ≡ false
        near x l m true k = ap (λ c. c == 10) (ap (byte_at t) (eq_of x q k) ∙ eq_of (byte_at t q) 62 e)
        near x l m false k = each x l (let d : x < suc q = omega (arith, m) in grind (arith, nat_tests, k, d))
    by false e = tt

uri_feedless : (t : List ℕ) (p : ℕ) → length t + 2 < 2 ^ 64 → p < length t → OnAddress t p (uri_end t p)
unfolding uri_end
uri_feedless t p short w = by (is_scheme t start end)
  where
    start : ℕ
    start = plus p 1

    end : ℕ
    end = run_end t start Scheme

    last : ℕ
    last = run_end t end Address

    each : (x : ℕ) → p < x → x < last → (byte_at t x == 10) ≡ false
    each x l m = near (nat_lt x end) refl
      where
        near : (z : Bool) → nat_lt x end ≡ z → (byte_at t x == 10) ≡ false
        near true k = feedless_in t Scheme x scheme_feedless (run_has t start Scheme x (omega (arith, l)) (grind (arith, nat_tests, k)))
        near false k = feedless_in t Address x address_feedless (run_has t end Address x (grind (arith, nat_tests, k)) m)

    by : (z : Bool) → OnAddress t p (if z then closed_at t last else None)
    by true = closed_feedless t p last short each
    by false = tt

mail_feedless : (t : List ℕ) (p : ℕ) → length t + 2 < 2 ^ 64 → p < length t → OnAddress t p (mail_end t p)
unfolding mail_end domain_end
mail_feedless t p short w = by (not (end == start)) (byte_at t end == 64) refl (is_domain (bytes_between t (plus end 1) last))
  where
    start : ℕ
    start = plus p 1

    end : ℕ
    end = run_end t start Mailbox

    last : ℕ
    last = run_end t (plus end 1) Domain

    within : end ≤ length t
    within = run_within t start Mailbox (omega arith)

    each : byte_at t end ≡ 64 → (x : ℕ) → p < x → x < last → (byte_at t x == 10) ≡ false
    each at x l m = near (nat_lt x end) (x == end) refl refl
      where
        near : (y z : Bool) → nat_lt x end ≡ y → (x == end) ≡ z → (byte_at t x == 10) ≡ false
        near true z k j = feedless_in t Mailbox x mailbox_feedless (run_has t start Mailbox x (omega (arith, l)) (grind (arith, nat_tests, k)))
        near false true k j = ap (λ c. c == 10) (ap (byte_at t) (eq_of x end j) ∙ at)
        near false false k j = feedless_in t Domain x domain_feedless (run_has t (plus end 1) Domain x (let d : end < x = grind (arith, nat_tests, k, j) in omega (arith, d)) m)

    by : (y z : Bool) → (byte_at t end == 64) ≡ z → (d : Bool) → OnAddress t p (if y && z then (if d then closed_at t last else None) else None)
    by true true e true = closed_feedless t p last short (each (eq_of (byte_at t end) 64 e))
    by true true e false = tt
    by true false e d = tt
    by false z e d = tt

addressed_goes : (t : List ℕ) (l : LinkType) (end : ℕ) (s : State) → byte_at t s.place ≡ 60 → Closed t s.place (Some end) → OnAddress t s.place (Some end) → Walks t s.place s → Goes t s.place (addressed t l end s)
unfolding addressed kept targeted
addressed_goes t l end s e (m, c, q) none h = (
  refl,
  record {
    marks = marks_put t more.texts first (end - 1) (Close end) (last, last) (marks_put t more.texts s.roles s.place (Open (Link (length s.targets)) end) (low_byte t s.place 60 e (omega arith)) (texts_walk t (bytes_between t (plus s.place 1) (end - 1)) s.place s h).marks);
    feeds = feeds_on t s.place (max (suc s.place) end) (slice_set first (end - 1) (Close end)) (omega arith) each feeds_both;
    runs = h.runs;
    brackets = h.brackets;
  },
)
  where
    more : State
    more = record s { texts = s.texts ++ bytes_between t (plus s.place 1) (end - 1) }

    last : IsLow t (end - 1)
    last = low_byte t (end - 1) 62 c (omega arith)

    first : List Role
    first = slice_set s.roles s.place (Open (Link (length s.targets)) end)

    feeds_first : Feeds t s.place first
    feeds_first = quiet_put t s.place s.roles s.place (Open (Link (length s.targets)) end) (narrow_on t s.place s.roles s.place (omega arith) h.feeds) (omega arith) (λ f. refl) h.feeds

    feeds_both : Feeds t s.place (slice_set first (end - 1) (Close end))
    feeds_both = quiet_put t s.place first (end - 1) (Close end) (narrow_on t s.place first (end - 1) (omega (arith, m)) feeds_first) (omega (arith, q)) (λ f. refl) feeds_first

    each : (x : ℕ) → s.place ≤ x → x < max (suc s.place) end → (byte_at t x == 10) ≡ false
    each x u v = near (x == s.place) refl
      where
        near : (z : Bool) → (x == s.place) ≡ z → (byte_at t x == 10) ≡ false
        near true k = ap (λ b. b == 10) (ap (byte_at t) (eq_of x s.place k) ∙ e)
        near false k = none x (grind (arith, nat_tests, k, u)) (omega (arith, v, m, q))

tagged_goes : (t : List ℕ) (ends : LastEnds) (s : State) → length t + 2 < 2 ^ 64 → s.place < length t → s.resume ≤ s.place → byte_at t s.place ≡ 60 → ends ≡ ends_of t → Walks t s.place s → Goes t s.place (tagged t ends s)
unfolding tagged html_put kept
tagged_goes t ends s short w r e knows h = by (raw_html t s.place ends) (html_low t ends s.place w short e knows)
  where
    by : (o : Option ℕ) → OnEnd t o → Goes t s.place (tagged_to t s o)
    by None k = stays t 60 s r e refl h
    by (Some end) k = leaf_goes t (leaf.Html (stretch (length s.texts) (length (s.texts ++ bytes_between t s.place end)))) 60 end (record s { texts = s.texts ++ bytes_between t s.place end }) e (omega arith) refl refl (behind_low t end short k) tt (texts_walk t (bytes_between t s.place end) s.place s h)

mailed_goes : (t : List ℕ) (ends : LastEnds) (s : State) → length t + 2 < 2 ^ 64 → s.place < length t → s.resume ≤ s.place → byte_at t s.place ≡ 60 → ends ≡ ends_of t → Walks t s.place s → Goes t s.place (mailed t ends s)
unfolding mailed
mailed_goes t ends s short w r e knows h = by (mail_end t s.place) (mail_closed t s.place (omega arith) w) (mail_feedless t s.place short w)
  where
    by : (o : Option ℕ) → Closed t s.place o → OnAddress t s.place o → Goes t s.place (mailed_to t ends s o)
    by None c n = tagged_goes t ends s short w r e knows h
    by (Some end) c n = addressed_goes t Email end s e c n h

angled_goes : (t : List ℕ) (ends : LastEnds) (s : State) → length t + 2 < 2 ^ 64 → s.place < length t → s.resume ≤ s.place → byte_at t s.place ≡ 60 → ends ≡ ends_of t → Walks t s.place s → Goes t s.place (angled t ends s)
unfolding angled
angled_goes t ends s short w r e knows h = by (uri_end t s.place) (uri_closed t s.place (omega arith) w) (uri_feedless t s.place short w)
  where
    by : (o : Option ℕ) → Closed t s.place o → OnAddress t s.place o → Goes t s.place (angled_to t ends s o)
    by None c n = mailed_goes t ends s short w r e knows h
    by (Some end) c n = addressed_goes t Autolink end s e c n h

-- a line feed
ended_goes : (t : List ℕ) (s : State) → length t + 2 < 2 ^ 64 → s.place < length t → s.resume ≤ s.place → byte_at t s.place ≡ 10 → Walks t s.place s → Goes t s.place (line_ended t s)
unfolding line_ended
ended_goes t s short w r e h = by (nat_le 2 (s.place - first)) refl
  where
    first : ℕ
    first = iterated (before_space t) (length t) s.place

    spaces : Spaces t first s.place
    spaces = spaces_before t (length t) s.place s.place (omega arith, λ x l m. absurd (omega arith))

    low : IsLow t s.place
    low = low_byte t s.place 10 e (omega arith)

    below : first ≤ s.place
    below = spaces.0

    front : IsLow t first
    front = near (nat_lt first s.place) refl
      where
        near : (z : Bool) → nat_lt first s.place ≡ z → IsLow t first
        near true f = low_byte t first 32 ((spaces.1) first (omega arith) (grind (arith, nat_tests, f))) (omega arith)
        near false f = let l : s.place ≤ first = grind (arith, nat_tests, f) in let q : s.place ≡ first = omega (arith, l, below) in subst (IsLow t) q low

    next : plus s.place 1 ≡ suc s.place
    next = omega (arith, w, short)

    last : IsLow t (plus s.place 1 - 1)
    last = (behind_low t (plus s.place 1) short (behind t s.place 10 (plus s.place 1) e (omega arith) refl refl)).0

    on : suc s.place ≡ max (suc s.place) s.resume
    on = omega (arith, r)

    hard : 2 ≤ s.place - first → Feeds t (max (suc s.place) s.resume) (slice_set s.roles first (Single leaf.HardBreak (plus s.place 1)))
    hard l = subst (λ n. Feeds t n (slice_set s.roles first (Single leaf.HardBreak (plus s.place 1)))) on (break_put t s.roles first s.place (Single leaf.HardBreak (plus s.place 1)) refl next (omega (arith, l)) (spaces.1) e h.feeds)

    quiet_first : IsNarrow s.roles first
    quiet_first = near (nat_lt first s.place) refl
      where
        near : (z : Bool) → nat_lt first s.place ≡ z → IsNarrow s.roles first
        near true f = narrow_space t s.place s.roles first first (spaces.1) (omega arith) (grind (arith, nat_tests, f)) h.feeds
        near false f = narrow_on t s.place s.roles first (grind (arith, nat_tests, f)) h.feeds

    soft : Feeds t (max (suc s.place) s.resume) (slice_set (slice_set s.roles first Hidden) s.place (Single leaf.SoftBreak (plus s.place 1)))
    soft = subst (λ n. Feeds t n (slice_set (slice_set s.roles first Hidden) s.place (Single leaf.SoftBreak (plus s.place 1)))) (let q : max (suc s.place) (plus s.place 1) ≡ max (suc s.place) s.resume = omega (arith, next, r) in q)
        (mark_put t (slice_set s.roles first Hidden) s.place (Single leaf.SoftBreak (plus s.place 1)) refl (ap (λ c. c == 32) (ap (byte_at t) (let q : plus s.place 1 - 1 ≡ s.place = omega (arith, next) in q) ∙ e)) (ap is_opener e) (ap (λ c. c == 32) e) (quiet_put t s.place s.roles first Hidden quiet_first (omega arith) (λ q. refl) h.feeds))

    by : (z : Bool) → nat_le 2 (s.place - first) ≡ z → Goes t s.place (if z then record s { roles = slice_set s.roles first (Single leaf.HardBreak (plus s.place 1)) } else record s { roles = slice_set (slice_set s.roles first Hidden) s.place (Single leaf.SoftBreak (plus s.place 1)) })
    by true f = (refl, record { marks = marks_put t s.texts s.roles first (Single leaf.HardBreak (plus s.place 1)) (front, last, tt) h.marks; feeds = hard (grind (arith, nat_tests, f)); runs = h.runs; brackets = h.brackets })
    by false f = (refl, record { marks = marks_put t s.texts (slice_set s.roles first Hidden) s.place (Single leaf.SoftBreak (plus s.place 1)) (low, last, tt) (marks_put t s.texts s.roles first Hidden front h.marks); feeds = soft; runs = h.runs; brackets = h.brackets })

-- a run of delimiters
taken_goes : (t : List ℕ) (b : ℕ) (s : State) → length t + 2 < 2 ^ 64 → s.place < length t → is_opener b ≡ true → byte_at t s.place ≡ b → Walks t s.place s → Goes t s.place (run_taken t b s)
unfolding run_taken run_kept run_at run_between is_in
taken_goes t b s short w k e h = by (r.opens || r.closes)
  where
    p : ℕ
    p = s.place

    r : Run
    r = run_at t p b

    end : ℕ
    end = run_end t p (Only b)

    climbs : p ≤ end
    climbs = run_climbs t p (Only b) (omega arith)

    within : end ≤ length t
    within = run_within t p (Only b) (omega arith)

    open_ : (x : ℕ) → p ≤ x → x < end → IsOpen t x
    open_ x l m = ap is_opener (eq_of (byte_at t x) b (run_has t p (Only b) x l m)) ∙ k

    new : IsRunLow t r
    new = record { low = λ x l m. open_ x l (omega (arith, climbs, m)); room = omega (arith, climbs, within) }

    none : (x : ℕ) → p ≤ x → x < max (suc p) (plus p (end - p)) → (byte_at t x == 10) ≡ false
    none x l m = near (byte_at t x == 10) refl (x == p) refl
      where
        near : (z : Bool) → (byte_at t x == 10) ≡ z → (y : Bool) → (x == p) ≡ y → z ≡ false
        near false f y g = refl
        near true f true g = absurd (open_feedless t p (ap is_opener e ∙ k) (ap (byte_at t) (sym (eq_of x p g)) ∙ eq_of (byte_at t x) 10 f))
        near true f false g = absurd (open_feedless t x (open_ x l (let d : p < x = grind (arith, nat_tests, g, l) in omega (arith, d, m, climbs))) (eq_of (byte_at t x) 10 f))

    further : Feeds t (max (suc p) (plus p (end - p))) s.roles
    further = feeds_on t p (max (suc p) (plus p (end - p))) s.roles (omega arith) none h.feeds

    by : (z : Bool) → Goes t p (if z then record s { resume = plus p (end - p); runs = s.runs ++ r ∷ [] } else record s { resume = plus p (end - p) })
    by true = (refl, record { marks = h.marks; feeds = further; runs = all_both (IsRunLow t) s.runs (r ∷ []) h.runs (new, tt); brackets = h.brackets })
    by false = (refl, record { marks = h.marks; feeds = further; runs = h.runs; brackets = h.brackets })

-- opening brackets
marked_walk : (t : List ℕ) (f : ℕ) (s : State) → Walks t f s → ((marked s).place ≡ s.place) × Walks t f (marked s)
unfolding marked
marked_walk t f s h = by (slice_get s.brackets (length s.brackets - 1)) refl
  where
    by : (o : Option Bracket) → slice_get s.brackets (length s.brackets - 1) ≡ o → ((marked_last s o).place ≡ s.place) × Walks t f (marked_last s o)
    by None e = (refl, h)
    by (Some b) e = (refl, record { marks = h.marks; feeds = h.feeds; runs = h.runs; brackets = all_set (IsBracketLow t) s.brackets (length s.brackets - 1) (record b { nested = true }) h.brackets (all_got (IsBracketLow t) s.brackets (length s.brackets - 1) b h.brackets e) })

opened_goes : (t : List ℕ) (image : Bool) (width : ℕ) (s : State) → length t + 2 < 2 ^ 64 → s.place < length t → (width ≡ 1) ⊎ (width ≡ 2) → IsOpen t s.place → IsOpen t (plus s.place width - 1) → Walks t s.place s → Goes t s.place (opened image width s)
unfolding opened
opened_goes t image width s short w size a b h = by (marked s) (marked_walk t s.place s h)
  where
    each : (x : ℕ) → s.place ≤ x → x < max (suc s.place) (plus s.place width) → (byte_at t x == 10) ≡ false
    each x l m = near (byte_at t x == 10) refl (x == s.place) refl
      where
        last : (width ≡ 1) ⊎ (width ≡ 2) → s.place < x → x ≡ plus s.place width - 1
        last (inl e) d = absurd (omega (arith, e, d, m))
        last (inr e) d = omega (arith, e, d, m, w, short)

        near : (z : Bool) → (byte_at t x == 10) ≡ z → (y : Bool) → (x == s.place) ≡ y → z ≡ false
        near false f y g = refl
        near true f true g = absurd (open_feedless t s.place a (ap (byte_at t) (sym (eq_of x s.place g)) ∙ eq_of (byte_at t x) 10 f))
        near true f false g = absurd (open_feedless t (plus s.place width - 1) b (ap (byte_at t) (sym (last size (grind (arith, nat_tests, g, l)))) ∙ eq_of (byte_at t x) 10 f))

    by : (u : State) → (u.place ≡ s.place) × Walks t s.place u → Goes t s.place (record u { brackets = u.brackets ++ record { start = u.place; inner = plus u.place width; runs = length u.runs; image = image; nested = false } ∷ []; resume = plus u.place width })
    by u (e, k) = (
      e,
      record {
        marks = k.marks;
        feeds = subst (λ q. Feeds t (max (suc s.place) (plus q width)) u.roles) (sym e) (feeds_on t s.place (max (suc s.place) (plus s.place width)) u.roles (omega arith) each k.feeds);
        runs = k.runs;
        brackets = all_both (IsBracketLow t) u.brackets (record { start = u.place; inner = plus u.place width; runs = length u.runs; image = image; nested = false } ∷ []) k.brackets ((subst (IsOpen t) (sym e) a, subst (λ q. IsOpen t (plus q width - 1)) (sym e) b), tt);
      },
    )

imaged_goes : (t : List ℕ) (s : State) → length t + 2 < 2 ^ 64 → s.place < length t → s.resume ≤ s.place → byte_at t s.place ≡ 33 → Walks t s.place s → Goes t s.place (imaged t s)
unfolding imaged
imaged_goes t s short w r e h = by (starts_at t s.place (codes "![")) refl
  where
    by : (z : Bool) → starts_at t s.place (codes "![") ≡ z → Goes t s.place (if z then opened true 2 s else s)
    by true f = opened_goes t true 2 s short w (inr refl) (ap is_opener e) (ap is_opener (ap (byte_at t) (let q : plus s.place 2 - 1 ≡ s.place + 1 = omega arith in q) ∙ image_bracket t s.place f)) h
    by false f = stays t 33 s r e refl h

-- a closing bracket

settled_walk : (t : List ℕ) (f count : ℕ) (s : State) → Walks t f s → Walks t f (settled count s)
unfolding settled
settled_walk t f count s h = record { marks = m.marks; feeds = m.feeds; runs = all_take (IsRunLow t) count s.runs h.runs; brackets = h.brackets }
  where
    m : Emphasized t s.texts f (emphasis.emphasized s.roles (drop count s.runs))
    m = emphasized_low t s.texts f s.roles (drop count s.runs) (all_drop (IsRunLow t) count s.runs h.runs) h.marks h.feeds

linked_goes : (t : List ℕ) (b : Bracket) (x : Target) (end : ℕ) (s : State) → byte_at t s.place ≡ 93 → IsBracketLow t b → IsEnd t end → Walks t s.place s → Goes t s.place (linked b x end s)
unfolding linked spanned targeted settled
linked_goes t b x end s e low ends h = by (not b.image)
  where
    number : ℕ
    number = length s.targets

    tag : Span
    tag = if b.image then Image number else Link number

    before : Emphasized t s.texts s.place (emphasis.emphasized s.roles (drop b.runs s.runs))
    before = emphasized_low t s.texts s.place s.roles (drop b.runs s.runs) (all_drop (IsRunLow t) b.runs s.runs h.runs) h.marks h.feeds

    first : List Role
    first = slice_set (emphasis.emphasized s.roles (drop b.runs s.runs)) (b.inner - 1) Hidden

    second : List Role
    second = slice_set first b.start (Open tag end)

    feeds_second : Feeds t s.place second
    feeds_second = quiet t s.place first b.start (Open tag end) (low.0) (omega arith) refl (quiet t s.place (emphasis.emphasized s.roles (drop b.runs s.runs)) (b.inner - 1) Hidden (low.1) (omega arith) refl before.feeds)

    v : State
    v = spanned b number end ((targeted x (settled b.runs s)).0)

    whole : Walks t (max (suc s.place) end) v
    whole = record {
      marks = marks_put t s.texts second s.place (Close end) (low_byte t s.place 93 e (omega arith), ends.0) (marks_put t s.texts first b.start (Open tag end) (open_low t b.start (low.0)) (marks_put t s.texts (emphasis.emphasized s.roles (drop b.runs s.runs)) (b.inner - 1) Hidden (open_low t (b.inner - 1) (low.1)) before.marks));
      feeds = mark_put t second s.place (Close end) refl (ends.1) (ap is_opener e) (ap (λ c. c == 32) e) feeds_second;
      runs = all_take (IsRunLow t) b.runs s.runs h.runs;
      brackets = h.brackets;
    }

    by : (z : Bool) → Goes t s.place (if z then record v { inactive = length v.brackets } else v)
    by true = (refl, record { marks = whole.marks; feeds = whole.feeds; runs = whole.runs; brackets = whole.brackets })
    by false = (refl, whole)

inline_goes : (t : List ℕ) (b : Bracket) (found : InlineTarget) (s : State) → length t + 2 < 2 ^ 64 → byte_at t s.place ≡ 93 → IsBracketLow t b → Behind t found.end → Walks t s.place s → Goes t s.place (closed_inline_in All t b found s)
unfolding closed_inline_in kept_resolved_in kept
inline_goes t b found s short e low end h = linked_goes t b _ found.end _ e low (behind_low t found.end short end) (texts_walk t _ s.place _ (texts_walk t _ s.place s h))

looked_up_goes : (t : List ℕ) (definitions : List ℕ → Option Entry) (b : Bracket) (asked : Asked) (s : State) → length t + 2 < 2 ^ 64 → s.resume ≤ s.place → byte_at t s.place ≡ 93 → IsBracketLow t b → Behind t asked.end → Walks t s.place s → Goes t s.place (looked_up t definitions b asked s)
unfolding looked_up missing kept
looked_up_goes t definitions b asked s short r e low end h = by (definitions (key_of label))
  where
    label : List ℕ
    label = bytes_between t asked.label.start asked.label.end

    by : (x : Option Entry) → Goes t s.place (looked_up_as label b asked s x)
    by None = missed (stays t 93 (record s { texts = s.texts ++ collapsed label }) r e refl (texts_walk t (collapsed label) s.place s h))
      where
        missed : Goes t s.place (record s { texts = s.texts ++ collapsed label }) → Goes t s.place (missing label s)
        missed (p, k) = (p, record { marks = k.marks; feeds = k.feeds; runs = k.runs; brackets = k.brackets })
    by (Some x) = linked_goes t b _ asked.end ((kept label s).0) e low (behind_low t asked.end short end) (texts_walk t label s.place s h)

active_goes : (t : List ℕ) (definitions : List ℕ → Option Entry) (b : Bracket) (s : State) → length t + 2 < 2 ^ 64 → s.place < length t → s.resume ≤ s.place → byte_at t s.place ≡ 93 → IsBracketLow t b → Walks t s.place s → Goes t s.place (closed_active_in All false t definitions b s)
unfolding closed_active_in closed_by_label
active_goes t definitions b s short w r e low h = by (inline_target t (plus s.place 1)) (target_behind t (plus s.place 1))
  where
    of : (x : Option Asked) → OnAsked t x → Goes t s.place (closed_asked t definitions b s x)
    of None k = stays t 93 s r e refl h
    of (Some asked) k = looked_up_goes t definitions b asked s short r e low k h

    by : (x : Option InlineTarget) → OnTarget t x → Goes t s.place (closed_found_in All false t definitions b s x)
    by None k = of (label_asked t b s.place) (asked_behind t b s.place w short e)
    by (Some found) k = inline_goes t b found s short e low k h

closed_goes : (t : List ℕ) (definitions : List ℕ → Option Entry) (s : State) → length t + 2 < 2 ^ 64 → s.place < length t → s.resume ≤ s.place → byte_at t s.place ≡ 93 → Walks t s.place s → Goes t s.place (closed_in All false t definitions s)
unfolding closed_in popped
closed_goes t definitions s short w r e h = by (slice_get s.brackets (length s.brackets - 1)) refl
  where
    height : ℕ
    height = length s.brackets - 1

    u : State
    u = record s { brackets = take height s.brackets; inactive = min s.inactive height }

    fewer : Walks t s.place u
    fewer = record { marks = h.marks; feeds = h.feeds; runs = h.runs; brackets = all_take (IsBracketLow t) height s.brackets h.brackets }

    active : (b : Bracket) → slice_get s.brackets height ≡ Some b → (z : Bool) → Goes t s.place (if z then closed_active_in All false t definitions b u else u)
    active b f true = active_goes t definitions b u short w r e (all_got (IsBracketLow t) s.brackets height b h.brackets f) fewer
    active b f false = stays t 93 u r e refl fewer

    by : (x : Option Bracket) → slice_get s.brackets height ≡ x → Goes t s.place (closed_last_in All false t definitions s x)
    by None f = stays t 93 s r e refl h
    by (Some b) f = active b f (b.image || nat_le s.inactive height)

-- what is at a byte
record Knows (t : List ℕ) (ahead : Known) : Type 0 where
  ends : ahead.ends ≡ ends_of t
  ticks : ahead.ticks ≡ ticks_of t

mark_goes : (t : List ℕ) (ahead : Known) (b : ℕ) (s : State) → Knows t ahead → length t + 2 < 2 ^ 64 → s.place < length t → s.resume ≤ s.place → byte_at t s.place ≡ b → (b == 38) ≡ false → Walks t s.place s → Goes t s.place (looked_mark t ahead.ticks b s)
unfolding looked_mark
mark_goes t ahead b s knows short w r e other h = by (b == 92) (b == 10) (b == 96) ((b == 42) || (b == 95)) refl refl refl refl other
  where
    delimiter : ((b == 42) || (b == 95)) ≡ true → is_opener b ≡ true
    delimiter i = ap (λ k. k || ((b == 91) || (b == 33))) i

    by : (backslash feed tick run : Bool) → (b == 92) ≡ backslash → (b == 10) ≡ feed → (b == 96) ≡ tick → ((b == 42) || (b == 95)) ≡ run → (b == 38) ≡ false
        → Goes t s.place (if backslash then escaped t s else (if b == 38 then referred t s else (if feed then line_ended t s else (if tick then coded t ahead.ticks s else (if run then run_taken t b s else s)))))
    by true feed tick run p f k i q = escaped_goes t s short w r (e ∙ eq_of b 92 p) h
    by false feed tick run p f k i q = subst (λ (z : Bool). Goes t s.place (if z then referred t s else (if feed then line_ended t s else (if tick then coded t ahead.ticks s else (if run then run_taken t b s else s))))) (sym q) (rest feed tick run f k i)
      where
        rest : (feed tick run : Bool) → (b == 10) ≡ feed → (b == 96) ≡ tick → ((b == 42) || (b == 95)) ≡ run → Goes t s.place (if feed then line_ended t s else (if tick then coded t ahead.ticks s else (if run then run_taken t b s else s)))
        rest true tick run f k i = ended_goes t s short w r (e ∙ eq_of b 10 f) h
        rest false true run f k i = coded_goes t ahead.ticks s short w (e ∙ eq_of b 96 k) knows.ticks h
        rest false false true f k i = taken_goes t b s short w (delimiter i) e h
        rest false false false f k i = stays t b s r e f h

looked_goes : (t : List ℕ) (ahead : Known) (definitions : List ℕ → Option Entry) (b : ℕ) (s : State) → Knows t ahead → length t + 2 < 2 ^ 64 → s.place < length t → s.resume ≤ s.place → byte_at t s.place ≡ b → Walks t s.place s → Goes t s.place (looked_all t ahead definitions b s)
unfolding looked_all looked
looked_goes t ahead definitions b s knows short w r e h = by (b == 38) (b == 93) (b == 91) (b == 33) (b == 60) refl refl refl refl refl
  where
    by : (ampersand closing opening image angle : Bool) → (b == 38) ≡ ampersand → (b == 93) ≡ closing → (b == 91) ≡ opening → (b == 33) ≡ image → (b == 60) ≡ angle
        → Goes t s.place (if ampersand then named_taken t s else (if closing then closed_in All false t definitions s else (if opening then opened false 1 s else (if image then imaged t s else (if b == 93 then closed_in Four false t definitions s else (if angle then angled t ahead.ends s else looked_mark t ahead.ticks b s))))))
    by true closing opening image angle f c o i a = named_goes t s short w r (e ∙ eq_of b 38 f) h
    by false true opening image angle f c o i a = closed_goes t definitions s short w r (e ∙ eq_of b 93 c) h
    by false false true image angle f c o i a = opened_goes t false 1 s short w (inl refl) (ap is_opener (e ∙ eq_of b 91 o)) (ap is_opener (ap (byte_at t) (let q : plus s.place 1 - 1 ≡ s.place = omega arith in q) ∙ e ∙ eq_of b 91 o)) h
    by false false false true angle f c o i a = imaged_goes t s short w r (e ∙ eq_of b 33 i) h
    by false false false false angle f c o i a = subst (λ (z : Bool). Goes t s.place (if z then closed_in Four false t definitions s else (if angle then angled t ahead.ends s else looked_mark t ahead.ticks b s))) (sym c) (rest angle a f)
      where
        rest : (angle : Bool) → (b == 60) ≡ angle → (b == 38) ≡ false → Goes t s.place (if angle then angled t ahead.ends s else looked_mark t ahead.ticks b s)
        rest true a f = angled_goes t ahead.ends s short w r (e ∙ eq_of b 60 a) knows.ends h
        rest false a f = mark_goes t ahead b s knows short w r e f h

-- the pass at a place
abbrev At : List ℕ → ℕ → State → Type 0
At t p s = (s.place ≡ p) × Walks t (max p s.resume) s

-- a line feed is a mark
feed_marks : is_mark_in commonmark 10 ≡ true
unfolding is_mark_in is_tilde_in is_caret_in is_dollar_in is_mark
feed_marks = refl

-- one byte further
step_goes : (t : List ℕ) (ahead : Known) (definitions : List ℕ → Option Entry) (p : ℕ) (s : State) (b : ℕ) → Knows t ahead → length t + 2 < 2 ^ 64 → p < length t → byte_at t p ≡ b → At t p s → At t (suc p) (scan_step_in commonmark t ahead definitions s b)
unfolding scan_step_in looked_in is_tilde_in is_caret_in is_dollar_in is_note_end_in
step_goes t ahead definitions p s b knows short w e (q, h) = by (is_mark_in commonmark b) (nat_le s.resume s.place) refl refl
  where
    next : (u : State) → Goes t p u → (plus u.place 1 ≡ suc p) × Walks t (max (suc p) u.resume) (record u { place = plus u.place 1 })
    next u (x, k) = (omega arith, record { marks = k.marks; feeds = k.feeds; runs = k.runs; brackets = k.brackets })

    looks : s.resume ≤ s.place → Goes t p (looked_all t ahead definitions b s)
    looks r = subst (λ x. Goes t x (looked_all t ahead definitions b s)) q (looked_goes t ahead definitions b s knows short (omega (arith, q, w)) r (ap (byte_at t) q ∙ e) (subst (λ f. Walks t f s) (let z : max p s.resume ≡ s.place = omega (arith, q, r) in z) h))

    calm : is_mark_in commonmark b ≡ false → (b == 10) ≡ false
    calm f = near (b == 10) refl
      where
        near : (z : Bool) → (b == 10) ≡ z → z ≡ false
        near true g = absurd (true≢false (sym feed_marks ∙ ap (is_mark_in commonmark) (sym (eq_of b 10 g)) ∙ f))
        near false g = refl

    passes : (f : ℕ) → f ≡ max p s.resume → Walks t f s → ((x : ℕ) → f ≤ x → x < max (suc p) s.resume → (byte_at t x == 10) ≡ false) → (plus s.place 1 ≡ suc p) × Walks t (max (suc p) s.resume) (record s { place = plus s.place 1 })
    passes f z k none = next s (q, walk_on t f (max (suc p) s.resume) s (omega (arith, z)) none k)

    by : (m k : Bool) → is_mark_in commonmark b ≡ m → nat_le s.resume s.place ≡ k → At t (suc p) (record (if m && k then looked_all t ahead definitions b s else s) { place = plus (if m && k then looked_all t ahead definitions b s else s).place 1 })
    by true true f g = next (looked_all t ahead definitions b s) (looks (grind (arith, nat_tests, g)))
    by true false f g = let later : s.place < s.resume = grind (arith, nat_tests, g) in passes (max p s.resume) refl h (λ x l m. absurd (omega (arith, l, m, later, q)))
    by false k f g = passes (max p s.resume) refl h (λ x l m. ap (λ c. c == 10) (ap (byte_at t) (let z : x ≡ p = omega (arith, l, m) in z) ∙ e) ∙ calm f)

steps_go : (t : List ℕ) (ahead : Known) (definitions : List ℕ → Option Entry) (p : ℕ) (bs : List ℕ) (s : State) → Knows t ahead → length t + 2 < 2 ^ 64 → p + length bs ≤ length t → ((j b : ℕ) → slice_get bs j ≡ Some b → byte_at t (p + j) ≡ b) → At t p s → At t (p + length bs) (fold (scan_step_in commonmark t ahead definitions) s bs)
steps_go t ahead definitions p [] s knows short w e h = let n : p ≡ p + 0 = omega arith in subst (λ x. At t x s) n h
steps_go t ahead definitions p (b ∷ bs) s knows short w e h = let n : suc p + length bs ≡ p + suc (length bs) = omega arith in subst (λ x. At t x (fold (scan_step_in commonmark t ahead definitions) (scan_step_in commonmark t ahead definitions s b) bs)) n
    (steps_go t ahead definitions (suc p) bs (scan_step_in commonmark t ahead definitions s b) knows short (omega arith) (λ j c g. let q : p + suc j ≡ suc p + j = omega arith in ap (byte_at t) (sym q) ∙ e (suc j) c g)
    (step_goes t ahead definitions p s b knows short (omega arith) (let q : p + 0 ≡ p = omega arith in ap (byte_at t) (sym q) ∙ e 0 b refl) h))

-- what is known of the roles of a content
pub record IsWalked (t : List ℕ) (s : State) : Type 0 where
  pub marks : Marks t s.texts 0 s.roles
  pub stop : ℕ
  pub past : length t ≤ stop
  pub feeds : Feeds t stop s.roles

pub content_walked : (t : List ℕ) (definitions : List ℕ → Option Entry) (targets : List Target) (texts : List ℕ) (missed : List Stretch) → length t + 2 < 2 ^ 64
    → IsWalked t (scanned_in commonmark t definitions (scan_start (length t) targets texts missed))
unfolding scanned_in scan_start
content_walked t definitions targets texts missed short = record { marks = w.marks; stop = max (0 + length t) last.resume; past = omega arith; feeds = w.feeds }
  where
    last : State
    last = fold (scan_step_in commonmark t (ahead_in commonmark t) definitions) (scan_start (length t) targets texts missed) t

    got : (j b : ℕ) → slice_get t j ≡ Some b → byte_at t j ≡ b
    got j b e = ap (λ o. unwrap_or o 10) e

    all : At t (0 + length t) last
    all = steps_go t (ahead_in commonmark t) definitions 0 t (scan_start (length t) targets texts missed) (record { ends = refl; ticks = refl }) short (omega arith) (λ j b e. let z : 0 + j ≡ j = omega arith in ap (byte_at t) z ∙ got j b e)
        (refl, record { marks = all_plain t texts 0 (length t); feeds = plain_feeds t (length t); runs = tt; brackets = tt })

    w : Walks t (max (0 + length t) last.resume) (settled 0 last)
    w = settled_walk t (max (0 + length t) last.resume) 0 last (all.1)
