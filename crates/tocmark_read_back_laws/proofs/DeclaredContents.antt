-- The inlines that CommonMark declares of plain lines are what these mean.
use Rattle.std.proofs.Common.{◌≡◌, ℕ, zero, suc, ◌+◌, ◌-◌, ◌^◌, ◌<◌, ◌≤◌, Bool, true, false, ◌==◌, ◌&&◌, nat_lt, List, [], ◌∷◌, ◌++◌, length, drop, replicate, reverse, ◌⊎◌, refl, ap, sym, subst, ◌∙◌, arith, append_assoc, append-nil, length-append, true≢false, inl, inr}
use Rattle.std.proofs.lemmas.Bool.Decides.{nat_tests}
use Rattle.std.proofs.lemmas.List.{reverse-reverse}
use Rattle.std.proofs.lemmas.Str.{encode_ascii}
use Rattle.std.specs.Prelude.{Option, Some, None, take_while, slice_get, encode_utf8}
use Rattle.std.specs.Char.{is_ascii_alphanumeric, is_ascii_punctuation}
use Rattle.std.specs.List.{AllByRecursion, fold}
use Rattle.tocmark_event.specs.View.{EventView, Leaf, Text}
use Rattle.tocmark_read_scan.specs.Basic.{plus, byte_at}
use Rattle.tocmark_read_scan.specs.Class.{is_in}
use Rattle.tocmark_read_scan.specs.PlainParts.{Part, Bare, Escaped, Referred, Feed, spelled, last_byte}
use Rattle.tocmark_read_scan.proofs.PlainContent.{get_behind}
use Rattle.tocmark_read_scan.proofs.PlainPlaces.{drop_at, byte_front}
use Rattle.tocmark_read_scan.proofs.PlainTests.{eq_of}
use Rattle.tocmark_read_tokens.specs.Reference.{is_escape}
use Rattle.tocmark_read_spans.specs.declared.run.Run.{Run as Delimiter}
use Rattle.tocmark_read_inlines.proofs.PlainInlines.{IsInert}
use Rattle.tocmark_read_inlines.proofs.PlainLeaf.{known}
use Rattle.tocmark_read_inlines.proofs.PlainPasses.{AreRead}
use Rattle.tocmark_read_inlines.proofs.PlainNeighbours.{before_at, ArePlainParts, IsPlainByte, plain_parts_are_read}
use Rattle.tocmark_reader.specs.PlainTexts.{text_parts}
use Rattle.tocmark_reader.proofs.PlainEvents.{said}
use Rattle.tocmark_reader.proofs.PlainReading.{IsPlainText, merged_lines}
use Rattle.tocmark_reader.proofs.PlainTests.{text_from}
use Rattle.tocmark_commonmark.specs.InlineTree.{Atom, Whole, Delimiters, Opening, as_inline, inlines_of}
use Rattle.tocmark_commonmark.specs.InlineTree as inline
use Rattle.tocmark_commonmark.specs.Inlines.{scanned, scanned_if, scanned_at, and_token, inlines}
use Rattle.tocmark_commonmark.specs.Emphasis.{emphasis, emphasized, closed_or, closer, steps}
use Rattle.tocmark_commonmark.specs.Links.{Destination}
use Rattle.tocmark_commonmark.specs.Events.{inline_events, inline_event}
use Rattle.tocmark_commonmark.specs.Tokens.{Kind, Backslash, Ampersand, Star, Exclamation, Space, LineFeed, Other, kind_of, is_other, Token, token, ends_line}
use Rattle.tocmark_inline_laws.proofs.Settling.{turned_over}
use Rattle.tocmark_standard_laws.specs.Lettered.{letter_events, lettered}
use Rattle.tocmark_standard_laws.proofs.Ended.{lettered_append, merged_lettered}
use Rattle.tocmark_read_back_laws.specs.Contents.{PlainContentsAreDeclared}
use Rattle.tocmark_read_back_laws.proofs.Runs.{IsOfBytes, Run, run_of, first_passes}
use Rattle.tocmark_read_back_laws.proofs.Tokens.{inert_kind, is_blank_byte, begins_nothing, others_token, spaces_token, feed_token, escape_token, backslash_token, exclamation_token, lone_run, underscore_token, amp_token, space_token}

-- an atom that closes no emphasis
abbrev IsCalm : Atom → Type 0
IsCalm a = closer a ≡ None

-- the atoms from a place on, which say what these parts mean
record Scans (fuel : ℕ) (bytes : List ℕ) (labels : List Destination) (p : ℕ) (done : List Atom) (parts : List Part) : Type 0 where
  atoms : List Atom
  is : scanned fuel bytes labels p done ≡ reverse atoms ++ done
  calm : AllByRecursion IsCalm atoms
  says : lettered (inline_events (inlines_of atoms)) ≡ lettered (said parts)

-- one token
step_on : (fuel : ℕ) (bytes : List ℕ) (labels : List Destination) (p b : ℕ) (done : List Atom) (k : Kind) (t : Token) → slice_get bytes p ≡ Some b → kind_of b ≡ k → ((next : ℕ → List Atom → List Atom) → scanned_at next bytes labels p done b k ≡ and_token next done t) → scanned (suc fuel) bytes labels p done ≡ scanned fuel bytes labels t.end (t.atom ∷ done)
unfolding scanned
step_on fuel bytes labels p b done k t e f g =
    let next : ℕ → List Atom → List Atom = λ q d. scanned fuel bytes labels q d in
    ap (λ o. scanned_if next bytes labels p done o) e ∙ ap (λ x. scanned_at next bytes labels p done b x) f ∙ g next

past_end : (xs : List ℕ) → slice_get xs (length xs) ≡ None
past_end [] = refl
past_end (x ∷ xs) = past_end xs

no_more : (fuel : ℕ) (bytes : List ℕ) (labels : List Destination) (p : ℕ) (done : List Atom) → p ≡ length bytes → scanned (suc fuel) bytes labels p done ≡ done
unfolding scanned
no_more fuel bytes labels p done e =
    let next : ℕ → List Atom → List Atom = λ q d. scanned fuel bytes labels q d in
    ap (λ o. scanned_if next bytes labels p done o) (ap (slice_get bytes) e ∙ past_end bytes)

-- an atom and those after it
with_atom : (fuel : ℕ) (bytes : List ℕ) (labels : List Destination) (p end : ℕ) (done : List Atom) (parts rest : List Part) (a : Atom) → scanned (suc fuel) bytes labels p done ≡ scanned fuel bytes labels end (a ∷ done) → IsCalm a → lettered (said parts) ≡ lettered (inline_event (as_inline a)) ++ lettered (said rest) → Scans fuel bytes labels end (a ∷ done) rest → Scans (suc fuel) bytes labels p done parts
with_atom fuel bytes labels p end done parts rest a e c f s = record {
  atoms = a ∷ s.atoms;
  is = e ∙ s.is ∙ turned_over a s.atoms done;
  calm = (c, s.calm);
  says =
      lettered_append (inline_event (as_inline a)) (inline_events (inlines_of s.atoms))
      ∙ ap (λ (es : List EventView). lettered (inline_event (as_inline a)) ++ es) s.says
      ∙ sym f;
}

text_lettered : (t : List ℕ) (es : List EventView) → letter_events t ++ es ≡ lettered (Leaf (Text t) ∷ []) ++ es
text_lettered t es = ap (λ (xs : List EventView). xs ++ es) (sym (append-nil (letter_events t)))

-- where a text of parts is read
record Stands (bytes pre : List ℕ) (p before : ℕ) (parts : List Part) : Type 0 where
  is : bytes ≡ pre ++ spelled parts
  at : p ≡ length pre
  fits : length bytes + 2 < 2 ^ 64
  front : before_at bytes p ≡ before
  plain : ArePlainParts before parts

get_first : (bytes pre rest : List ℕ) (p b : ℕ) → bytes ≡ pre ++ b ∷ rest → p ≡ length pre → slice_get bytes p ≡ Some b
get_first bytes pre rest p b e at = ap (slice_get bytes) at ∙ ap (λ xs. slice_get xs (length pre)) e ∙ get_behind pre rest b

-- the byte before what is after some bytes
last_before : (bytes pre xs rest : List ℕ) (p x : ℕ) → bytes ≡ pre ++ ((x ∷ xs) ++ rest) → p ≡ length pre → before_at bytes (p + length (x ∷ xs)) ≡ last_byte x xs
last_before bytes pre [] rest p x e at =
    let some : (p + 1 == 0) ≡ false = grind (arith, nat_tests) in
    let same : p + 1 - 1 ≡ p = omega arith in
    rw (some, same) (byte_front bytes p (x ∷ rest) (drop_at bytes pre (x ∷ rest) p e at))
last_before bytes pre (y ∷ ys) rest p x e at =
    let same : p + length (x ∷ y ∷ ys) ≡ p + 1 + length (y ∷ ys) = omega arith in
    ap (before_at bytes) same
    ∙ last_before bytes (pre ++ x ∷ []) ys rest (p + 1) y (e ∙ sym (append_assoc pre (x ∷ []) ((y ∷ ys) ++ rest))) (ap (λ n. n + 1) at ∙ sym (length-append pre (x ∷ [])))

-- after some bytes
further : (bytes pre xs : List ℕ) (p x : ℕ) (rest : List Part) → bytes ≡ pre ++ ((x ∷ xs) ++ spelled rest) → p ≡ length pre → length bytes + 2 < 2 ^ 64 → ArePlainParts (last_byte x xs) rest → Stands bytes (pre ++ x ∷ xs) (p + length (x ∷ xs)) (last_byte x xs) rest
further bytes pre xs p x rest e at fits h = record {
  is = e ∙ sym (append_assoc pre (x ∷ xs) (spelled rest));
  at = ap (λ n. n + length (x ∷ xs)) at ∙ sym (length-append pre (x ∷ xs));
  fits = fits;
  front = last_before bytes pre xs (spelled rest) p x e at;
  plain = h;
}

-- runs

blanks_are : IsOfBytes is_blank_byte
unfolding is_in
blanks_are = record { backslash = refl; ampersand = refl; feed = refl }

others_are : IsOfBytes begins_nothing
others_are = record { backslash = refl; ampersand = refl; feed = refl }

blank : (b : ℕ) → (b == 32) ≡ true → is_blank_byte b ≡ true
unfolding is_in
blank b e = e

all_blank : (x : ℕ) (xs : List ℕ) → x ≡ 32 → AllByRecursion (λ c. is_blank_byte c ≡ true) xs → last_byte x xs ≡ 32
unfolding is_in
all_blank x [] e h = e
all_blank x (y ∷ ys) e h = all_blank y ys (eq_of y 32 (h.0)) (h.1)

not_feed : (bytes : List ℕ) (end : ℕ) → (byte_at bytes end == 10) ≡ false → ends_line bytes end ≡ false
not_feed bytes end h = by (nat_lt end (length bytes))
  where
    by : (c : Bool) → (c && (byte_at bytes end == 10)) ≡ false
    by true = h
    by false = refl

plain_no_feed : (before b behind : ℕ) → IsPlainByte before b behind → (b == 10) ≡ false
plain_no_feed before b behind (inl h) = h.feed
plain_no_feed before b behind (inr (inl h)) = ap (λ c. c == 10) (h.0)
plain_no_feed before b behind (inr (inr (inl h))) = ap (λ c. c == 10) (h.0)
plain_no_feed before b behind (inr (inr (inr h))) = ap (λ c. c == 10) (h.0)

-- no line ends after a space
no_line_ends : (bytes pre : List ℕ) (p : ℕ) (parts : List Part) → bytes ≡ pre ++ spelled parts → p ≡ length pre → ArePlainParts 32 parts → ends_line bytes p ≡ false
no_line_ends bytes pre p [] e at h =
    let none : nat_lt p (length bytes) ≡ false = let all : length bytes ≡ length pre + 0 = ap length e ∙ length-append pre [] in grind (arith, nat_tests) in
    ap (λ c. c && (byte_at bytes p == 10)) none
no_line_ends bytes pre p (Bare b ∷ parts) e at h = not_feed bytes p (ap (λ c. c == 10) (byte_front bytes p (b ∷ spelled parts) (drop_at bytes pre _ p e at)) ∙ plain_no_feed 32 b (byte_at (spelled parts) 0) (h.0))
no_line_ends bytes pre p (Escaped b ∷ parts) e at h = not_feed bytes p (ap (λ c. c == 10) (byte_front bytes p (92 ∷ b ∷ spelled parts) (drop_at bytes pre _ p e at)))
no_line_ends bytes pre p (Referred c bs ∷ parts) e at h = not_feed bytes p (ap (λ c. c == 10) (byte_front bytes p (38 ∷ (bs ++ spelled parts)) (drop_at bytes pre _ p e at)))
no_line_ends bytes pre p (Feed ∷ parts) e at h = absurd (true≢false (h.0))

-- bytes that are text alone
one_text : (fuel : ℕ) (bytes : List ℕ) (labels : List Destination) (p b end : ℕ) (done : List Atom) (k : Kind) (t : List ℕ) → slice_get bytes p ≡ Some b → kind_of b ≡ k → ((next : ℕ → List Atom → List Atom) → scanned_at next bytes labels p done b k ≡ and_token next done (token (inline.Text t) end)) → scanned (suc fuel) bytes labels p done ≡ scanned fuel bytes labels end (Whole (inline.Text t) ∷ done)
one_text fuel bytes labels p b end done k t e f g = step_on fuel bytes labels p b done k (token (inline.Text t) end) e f g

-- what follows is scanned
abbrev Goes : List Destination → ℕ → Type 0
Goes labels fuel = (bytes pre : List ℕ) (p before : ℕ) (parts : List Part) (done : List Atom) → Stands bytes pre p before parts → length (spelled parts) < fuel → Scans fuel bytes labels p done parts

inert_scans : (labels : List Destination) (fuel : ℕ) → Goes labels fuel → (bytes pre : List ℕ) (p before b : ℕ) (parts : List Part) (done : List Atom) → Stands bytes pre p before (Bare b ∷ parts) → suc (length (spelled parts)) < suc fuel → IsInert b → ArePlainParts b parts → Scans (suc fuel) bytes labels p done (Bare b ∷ parts)
inert_scans labels fuel go bytes pre p before b parts done h few inert plain = by (b == 32) refl
  where
    first : slice_get bytes p ≡ Some b
    first = get_first bytes pre (spelled parts) p b h.is h.at

    here : drop p bytes ≡ b ∷ spelled parts
    here = drop_at bytes pre (b ∷ spelled parts) p h.is h.at

    run : (g : ℕ → Bool) → g b ≡ true → (k : Kind) → (r : Run g b parts) → kind_of b ≡ k
        → ((next : ℕ → List Atom → List Atom) → scanned_at next bytes labels p done b k ≡ and_token next done (token (inline.Text (b ∷ r.front)) (p + length (b ∷ r.front)))) → Scans (suc fuel) bytes labels p done (Bare b ∷ parts)
    run g passes k r kind step =
        let whole : bytes ≡ pre ++ ((b ∷ r.front) ++ spelled r.rest) = h.is ∙ ap (λ xs. pre ++ b ∷ xs) r.spells in
        let width : length (spelled parts) ≡ length r.front + length (spelled r.rest) = ap length r.spells ∙ length-append r.front (spelled r.rest) in
        with_atom fuel bytes labels p (p + length (b ∷ r.front)) done (Bare b ∷ parts) r.rest (Whole (inline.Text (b ∷ r.front)))
        (one_text fuel bytes labels p b (p + length (b ∷ r.front)) done k (b ∷ r.front) first kind step) refl
        (ap (λ (es : List EventView). Leaf (Text (b ∷ [])) ∷ es) r.says ∙ text_lettered (b ∷ r.front) (lettered (said r.rest)))
        (go bytes (pre ++ b ∷ r.front) (p + length (b ∷ r.front)) (last_byte b r.front) r.rest (Whole (inline.Text (b ∷ r.front)) ∷ done) (further bytes pre r.front p b r.rest whole h.at h.fits r.plain) (omega (arith, width, few)))

    by : (c : Bool) → (b == 32) ≡ c → Scans (suc fuel) bytes labels p done (Bare b ∷ parts)
    by false e =
        let kind : kind_of b ≡ Other = inert_kind b inert e in
        let passes : begins_nothing b ≡ true = ap is_other kind in
        let r : Run begins_nothing b parts = run_of begins_nothing others_are b parts plain in
        run begins_nothing passes Other r kind
        (λ next. ap (and_token next done) (others_token bytes (b ∷ r.front) p b (ap (take_while begins_nothing) here ∙ first_passes begins_nothing b (spelled parts) r.front passes r.taken)))
    by true e =
        let is : b ≡ 32 = eq_of b 32 e in
        let kind : kind_of b ≡ Space = ap kind_of is in
        let passes : is_blank_byte b ≡ true = blank b e in
        let r : Run is_blank_byte b parts = run_of is_blank_byte blanks_are b parts plain in
        let whole : bytes ≡ pre ++ ((b ∷ r.front) ++ spelled r.rest) = h.is ∙ ap (λ xs. pre ++ b ∷ xs) r.spells in
        let last : last_byte b r.front ≡ 32 = all_blank b r.front is r.all in
        run is_blank_byte passes Space r kind
        (λ next. ap (and_token next done) (spaces_token bytes pre (b ∷ r.front) (spelled r.rest) p b whole h.at h.fits
        (ap (take_while is_blank_byte) here ∙ first_passes is_blank_byte b (spelled parts) r.front passes r.taken)
        (no_line_ends bytes (pre ++ b ∷ r.front) (p + length (b ∷ r.front)) r.rest (whole ∙ sym (append_assoc pre (b ∷ r.front) (spelled r.rest))) (ap (λ n. n + length (b ∷ r.front)) h.at ∙ sym (length-append pre (b ∷ r.front))) (subst (λ x. ArePlainParts x r.rest) last r.plain))))

-- one byte
byte_scans : (labels : List Destination) (fuel : ℕ) → Goes labels fuel → (bytes pre : List ℕ) (p before b : ℕ) (parts : List Part) (done : List Atom) (a : Atom) → Stands bytes pre p before (Bare b ∷ parts) → suc (length (spelled parts)) < suc fuel → ArePlainParts b parts
    → scanned (suc fuel) bytes labels p done ≡ scanned fuel bytes labels (p + 1) (a ∷ done) → IsCalm a → lettered (inline_event (as_inline a)) ≡ letter_events (b ∷ []) → Scans (suc fuel) bytes labels p done (Bare b ∷ parts)
byte_scans labels fuel go bytes pre p before b parts done a h few plain e calm says =
    with_atom fuel bytes labels p (p + 1) done (Bare b ∷ parts) parts a e calm (ap (λ (es : List EventView). es ++ lettered (said parts)) (sym says))
    (go bytes (pre ++ b ∷ []) (p + 1) b parts (a ∷ done) (further bytes pre [] p b parts h.is h.at h.fits plain) (omega (arith, few)))

-- the byte after a place
behind : (bytes pre rest : List ℕ) (p b : ℕ) → bytes ≡ pre ++ b ∷ rest → p ≡ length pre → drop (p + 1) bytes ≡ rest
behind bytes pre rest p b e at = drop_at bytes (pre ++ b ∷ []) rest (p + 1) (e ∙ sym (append_assoc pre (b ∷ []) rest)) (ap (λ n. n + 1) at ∙ sym (length-append pre (b ∷ [])))

no_escape : (bytes rest : List ℕ) (p : ℕ) → drop p bytes ≡ 92 ∷ rest → drop (p + 1) bytes ≡ rest → p + 1 < 2 ^ 64 → is_ascii_punctuation (byte_at rest 0) ≡ false → is_escape bytes p ≡ false
unfolding is_escape
no_escape bytes rest p e k fits h =
    let next : plus p 1 ≡ p + 1 = omega arith in
    rw (byte_front bytes p (92 ∷ rest) e, next, byte_front bytes (p + 1) rest k, h) refl

underscore_scans : (labels : List Destination) (fuel : ℕ) → Goes labels fuel → (bytes pre : List ℕ) (p before : ℕ) (parts : List Part) (done : List Atom) → Stands bytes pre p before (Bare 95 ∷ parts) → suc (length (spelled parts)) < suc fuel → ArePlainParts 95 parts → is_ascii_alphanumeric before ≡ true → (rest : List ℕ) → spelled parts ≡ rest → is_ascii_alphanumeric (byte_at rest 0) ≡ true → p + 1 < 2 ^ 64 → Scans (suc fuel) bytes labels p done (Bare 95 ∷ parts)
underscore_scans labels fuel go bytes pre p before parts done h few plain letter [] e k fits = absurd (true≢false (sym k))
underscore_scans labels fuel go bytes pre p before parts done h few plain letter (c ∷ cs) e k fits =
    let whole : bytes ≡ pre ++ 95 ∷ c ∷ cs = h.is ∙ ap (λ xs. pre ++ 95 ∷ xs) e in
    let one : p + 1 - p ≡ 1 = omega arith in
    byte_scans labels fuel go bytes pre p before 95 parts done (Delimiters (lone_run p)) h few plain
    (step_on fuel bytes labels p 95 done Star (record { atom = Delimiters (lone_run p); end = p + 1 }) (get_first bytes pre (c ∷ cs) p 95 whole h.at) refl
    (λ next. ap (and_token next done) (underscore_token bytes cs p c (drop_at bytes pre (95 ∷ c ∷ cs) p whole h.at) (behind bytes pre (c ∷ cs) p 95 whole h.at) fits (ap is_ascii_alphanumeric h.front ∙ letter) k)))
    refl
    (ap (λ n. letter_events (replicate n 95) ++ []) one)

plain_scans : (labels : List Destination) (fuel : ℕ) → Goes labels fuel → (bytes pre : List ℕ) (p before b : ℕ) (parts : List Part) (done : List Atom) → Stands bytes pre p before (Bare b ∷ parts) → suc (length (spelled parts)) < suc fuel → ArePlainParts b parts → IsPlainByte before b (byte_at (spelled parts) 0) → p + 1 < 2 ^ 64 → Scans (suc fuel) bytes labels p done (Bare b ∷ parts)
plain_scans labels fuel go bytes pre p before b parts done h few plain (inl inert) fits = inert_scans labels fuel go bytes pre p before b parts done h few inert plain
plain_scans labels fuel go bytes pre p before b parts done h few plain (inr (inl k)) fits =
    let whole : bytes ≡ pre ++ 33 ∷ spelled parts = h.is ∙ ap (λ c. pre ++ c ∷ spelled parts) (k.0) in
    byte_scans labels fuel go bytes pre p before b parts done (Whole (inline.Text (33 ∷ []))) h few plain
    (one_text fuel bytes labels p 33 (p + 1) done Exclamation (33 ∷ []) (get_first bytes pre (spelled parts) p 33 whole h.at) refl
    (λ next. ap (and_token next done) (exclamation_token bytes p (ap (λ c. c == 91) (byte_front bytes (p + 1) (spelled parts) (behind bytes pre (spelled parts) p 33 whole h.at)) ∙ k.1))))
    refl (ap (λ c. letter_events (c ∷ [])) (sym (k.0)))
plain_scans labels fuel go bytes pre p before b parts done h few plain (inr (inr (inl k))) fits =
    let whole : bytes ≡ pre ++ 92 ∷ spelled parts = h.is ∙ ap (λ c. pre ++ c ∷ spelled parts) (k.0) in
    let next_is : drop (p + 1) bytes ≡ spelled parts = behind bytes pre (spelled parts) p 92 whole h.at in
    byte_scans labels fuel go bytes pre p before b parts done (Whole (inline.Text (92 ∷ []))) h few plain
    (one_text fuel bytes labels p 92 (p + 1) done Backslash (92 ∷ []) (get_first bytes pre (spelled parts) p 92 whole h.at) refl
    (λ next. ap (and_token next done) (backslash_token bytes p (no_escape bytes (spelled parts) p (drop_at bytes pre (92 ∷ spelled parts) p whole h.at) next_is fits (k.1)) (ap (λ c. c == 10) (byte_front bytes (p + 1) (spelled parts) next_is) ∙ k.2))))
    refl (ap (λ c. letter_events (c ∷ [])) (sym (k.0)))
plain_scans labels fuel go bytes pre p before b parts done h few plain (inr (inr (inr k))) fits =
    subst (λ c. Scans (suc fuel) bytes labels p done (Bare c ∷ parts)) (sym (k.0))
    (underscore_scans labels fuel go bytes pre p before parts done (subst (λ c. Stands bytes pre p before (Bare c ∷ parts)) (k.0) h) few (subst (λ c. ArePlainParts c parts) (k.0) plain) (k.1) (spelled parts) refl (k.2) fits)

-- a reference
reference_scans : (labels : List Destination) (fuel : ℕ) → Goes labels fuel → (bytes pre : List ℕ) (p before c : ℕ) (bs : List ℕ) (parts : List Part) (done : List Atom) → Stands bytes pre p before (Referred c bs ∷ parts) → suc (length (bs ++ spelled parts)) < suc fuel → Scans (suc fuel) bytes labels p done (Referred c bs ∷ parts)
reference_scans labels fuel go bytes pre p before c bs parts done h few = by (h.plain.0)
  where
    all : length bytes ≡ length pre + suc (length bs + length (spelled parts))
    all = ap length h.is ∙ length-append pre (38 ∷ (bs ++ spelled parts)) ∙ ap (λ n. length pre + suc n) (length-append bs (spelled parts))

    most : length bytes + 2 < 2 ^ 64
    most = h.fits

    at : p ≡ length pre
    at = h.at

    width : length (bs ++ spelled parts) ≡ length bs + length (spelled parts)
    width = length-append bs (spelled parts)

    rest : (t : List ℕ) → length bs ≡ 4 → scanned (suc fuel) bytes labels p done ≡ scanned fuel bytes labels (p + 5) (Whole (inline.Text t) ∷ done) → t ≡ encode_utf8 c → Scans (suc fuel) bytes labels p done (Referred c bs ∷ parts)
    rest t four e is =
        let end : p + suc (length bs) ≡ p + 5 = ap (λ n. p + suc n) four in
        with_atom fuel bytes labels p (p + suc (length bs)) done (Referred c bs ∷ parts) parts (Whole (inline.Text t))
        (e ∙ ap (λ n. scanned fuel bytes labels n (Whole (inline.Text t) ∷ done)) (sym end)) refl
        (ap (λ (u : List ℕ). letter_events u ++ lettered (said parts)) (sym is) ∙ text_lettered t (lettered (said parts)))
        (go bytes (pre ++ 38 ∷ bs) (p + suc (length bs)) (last_byte 38 bs) parts (Whole (inline.Text t) ∷ done) (further bytes pre bs p 38 parts h.is h.at h.fits (h.plain.1)) (omega (arith, few, width)))

    by : ((c ≡ 38) × (bs ≡ 97 ∷ 109 ∷ 112 ∷ 59 ∷ [])) ⊎ ((c ≡ 32) × (bs ≡ 35 ∷ 51 ∷ 50 ∷ 59 ∷ [])) → Scans (suc fuel) bytes labels p done (Referred c bs ∷ parts)
    by (inl k) =
        let four : length bs ≡ 4 = ap length (k.1) in
        let whole : bytes ≡ pre ++ 38 ∷ 97 ∷ 109 ∷ 112 ∷ 59 ∷ spelled parts = h.is ∙ ap (λ xs. pre ++ 38 ∷ (xs ++ spelled parts)) (k.1) in
        rest (38 ∷ []) four
        (one_text fuel bytes labels p 38 (p + 5) done Ampersand (38 ∷ []) (get_first bytes pre (97 ∷ 109 ∷ 112 ∷ 59 ∷ spelled parts) p 38 whole h.at) refl
        (λ next. ap (and_token next done) (amp_token bytes pre (spelled parts) p whole h.at (omega (arith, all, most, at, four)))))
        (sym (ap encode_utf8 (k.0) ∙ encode_ascii 38 (omega arith)))
    by (inr k) =
        let four : length bs ≡ 4 = ap length (k.1) in
        let whole : bytes ≡ pre ++ 38 ∷ 35 ∷ 51 ∷ 50 ∷ 59 ∷ spelled parts = h.is ∙ ap (λ xs. pre ++ 38 ∷ (xs ++ spelled parts)) (k.1) in
        rest (encode_utf8 32) four
        (one_text fuel bytes labels p 38 (p + 5) done Ampersand (encode_utf8 32) (get_first bytes pre (35 ∷ 51 ∷ 50 ∷ 59 ∷ spelled parts) p 38 whole h.at) refl
        (λ next. ap (and_token next done) (space_token bytes pre (spelled parts) p whole h.at (omega (arith, all, most, at, four)))))
        (sym (ap encode_utf8 (k.0)))

-- all parts
scans : (labels : List Destination) (fuel : ℕ) → Goes labels fuel
scans labels zero bytes pre p before parts done h few = absurd (omega (arith, few))
scans labels (suc fuel) bytes pre p before [] done h few = record {
  atoms = [];
  is = no_more fuel bytes labels p done (h.at ∙ ap length (sym (append-nil pre)) ∙ ap length (sym h.is));
  calm = tt;
  says = refl;
}
scans labels (suc fuel) bytes pre p before (Bare b ∷ parts) done h few =
    let all : length bytes ≡ length pre + suc (length (spelled parts)) = ap length h.is ∙ length-append pre (b ∷ spelled parts) in
    plain_scans labels fuel (scans labels fuel) bytes pre p before b parts done h few (h.plain.1) (h.plain.0) (let at : p ≡ length pre = h.at in let fits : length bytes + 2 < 2 ^ 64 = h.fits in omega (arith, all, at, fits))
scans labels (suc fuel) bytes pre p before (Escaped b ∷ parts) done h few =
    let fits : length bytes < 2 ^ 64 = let most : length bytes + 2 < 2 ^ 64 = h.fits in omega (arith, most) in
    let read : AreRead bytes (known bytes) (λ q. None) p (Escaped b ∷ parts) = plain_parts_are_read bytes pre (known bytes) (λ q. None) p before (Escaped b ∷ parts) h.is h.at fits h.front h.plain in
    let next_is : byte_at bytes (p + 1) ≡ b = byte_front bytes (p + 1) (b ∷ spelled parts) (behind bytes pre (b ∷ spelled parts) p 92 h.is h.at) in
    with_atom fuel bytes labels p (p + 2) done (Escaped b ∷ parts) parts (Whole (inline.Text (b ∷ [])))
    (one_text fuel bytes labels p 92 (p + 2) done Backslash (b ∷ []) (get_first bytes pre (b ∷ spelled parts) p 92 h.is h.at) refl
    (λ next. ap (and_token next done) (escape_token bytes p b (read.0) next_is)))
    refl refl
    (scans labels fuel bytes (pre ++ 92 ∷ b ∷ []) (p + 2) b parts (Whole (inline.Text (b ∷ [])) ∷ done) (further bytes pre (b ∷ []) p 92 parts h.is h.at h.fits (h.plain.1)) (omega (arith, few)))
scans labels (suc fuel) bytes pre p before (Referred c bs ∷ parts) done h few = reference_scans labels fuel (scans labels fuel) bytes pre p before c bs parts done h few
scans labels (suc fuel) bytes pre p before (Feed ∷ parts) done h few =
    with_atom fuel bytes labels p (p + 1) done (Feed ∷ parts) parts (Whole inline.SoftBreak)
    (step_on fuel bytes labels p 10 done LineFeed (token inline.SoftBreak (p + 1)) (get_first bytes pre (spelled parts) p 10 h.is h.at) refl (λ next. ap (and_token next done) (feed_token bytes p)))
    refl refl
    (scans labels fuel bytes (pre ++ 10 ∷ []) (p + 1) 10 parts (Whole inline.SoftBreak ∷ done) (further bytes pre [] p 10 parts h.is h.at h.fits (h.plain.1)) (omega (arith, few)))

-- atoms that close nothing are their inlines

calm_kept : (fuel : ℕ) (done atoms : List Atom) → AllByRecursion IsCalm atoms → length atoms < fuel → emphasis fuel done atoms ≡ reverse atoms ++ done
unfolding emphasis
calm_kept zero done atoms h few = absurd (omega (arith, few))
calm_kept (suc fuel) done [] h few = refl
calm_kept (suc fuel) done (a ∷ atoms) h few =
    ap (λ (o : Option Delimiter). closed_or (λ d r. emphasis fuel d r) done a atoms o) (h.0)
    ∙ calm_kept fuel (a ∷ done) atoms (h.1) (omega (arith, few))
    ∙ turned_over a atoms done

some_steps : (a : Atom) → 0 < steps a
some_steps (Whole i) = omega arith
some_steps (Delimiters r) = omega arith
some_steps (Opening b) = omega arith

all_steps : (n : ℕ) (atoms : List Atom) → n + length atoms ≤ fold (λ (n : ℕ) (a : Atom). n + steps a) n atoms
all_steps n [] = omega arith
all_steps n (a ∷ atoms) = let more : n + steps a + length atoms ≤ fold (λ (n : ℕ) (a : Atom). n + steps a) (n + steps a) atoms = all_steps (n + steps a) atoms in let some : 0 < steps a = some_steps a in omega (arith, more, some)

calm_inlines : (atoms : List Atom) → AllByRecursion IsCalm atoms → emphasized atoms ≡ inlines_of atoms
calm_inlines atoms h =
    let enough : 1 + length atoms ≤ fold (λ (n : ℕ) (a : Atom). n + steps a) 1 atoms = all_steps 1 atoms in
    ap (λ xs. inlines_of (reverse xs)) (calm_kept (fold (λ (n : ℕ) (a : Atom). n + steps a) 1 atoms) [] atoms h (omega (arith, enough)) ∙ append-nil (reverse atoms))
    ∙ ap inlines_of (reverse-reverse atoms)

-- the inlines of plain parts
pub parts_declared : (labels : List Destination) (parts : List Part) → ArePlainParts 10 parts → length (spelled parts) + 2 < 2 ^ 64 → lettered (inline_events (inlines labels (spelled parts))) ≡ lettered (said parts)
unfolding inlines
parts_declared labels parts h fits =
    let bytes : List ℕ = spelled parts in
    let read : Scans (length bytes + 1) bytes labels 0 [] parts = scans labels (length bytes + 1) bytes [] 0 10 parts [] (record { is = refl; at = refl; fits = fits; front = refl; plain = h }) (omega arith) in
    ap (λ xs. lettered (inline_events (emphasized (reverse xs)))) (read.is ∙ append-nil (reverse read.atoms))
    ∙ ap (λ xs. lettered (inline_events (emphasized xs))) (reverse-reverse read.atoms)
    ∙ ap (λ is. lettered (inline_events is)) (calm_inlines read.atoms read.calm)
    ∙ read.says

pub contents_declared : PlainContentsAreDeclared
contents_declared labels l ms h fits =
    let plain : IsPlainText l ms = text_from l ms h (omega (arith, fits)) in
    parts_declared labels (text_parts l ms) plain.parts fits
    ∙ sym (merged_lettered (said (text_parts l ms)))
    ∙ ap lettered (merged_lines l ms plain.lines)
