-- Each token of a content is read as declared, so each content is.
use Rattle.std.proofs.Common.{◌≡◌, ℕ, zero, suc, ◌+◌, ◌^◌, ◌<◌, ◌≤◌, Bool, true, false, ◌==◌, ◌&&◌, nat_lt, if◌then◌else◌, List, length, drop, codes, refl, ap, sym, subst, ◌∙◌, arith, true≢false}
use Rattle.std.proofs.lemmas.Bool.Decides.{nat_tests}
use Rattle.std.specs.Prelude.{Option, take_while}
use Rattle.tocmark_read_scan.specs.Basic.{byte_at, starts_at}
use Rattle.tocmark_read_scan.specs.Class.{run_end}
use Rattle.tocmark_read_scan.specs.declared.class.Class.TheVariants.{Only}
use Rattle.tocmark_read_scan.proofs.PlainTests.{eq_of}
use Rattle.tocmark_read_tokens.specs.Autolink.{uri_end, mail_end}
use Rattle.tocmark_read_inlines.specs.Inlines.{scan_start}
use Rattle.tocmark_read_inlines.specs.Scan.{State, Known, ahead_in, ends_of, ticks_of, is_mark, opened, imaged, looked, looked_all, scanned_in}
use Rattle.tocmark_read_spans.specs.Run.{run_at}
use Rattle.tocmark_read_spans.specs.declared.definitions.Entry.{Entry}
use Rattle.tocmark_read_spans.specs.declared.role.Stretch.{Stretch}
use Rattle.tocmark_read_spans.specs.declared.role.Target.{Target}
use Rattle.tocmark_commonmark.specs.InlineTree.{Atom, SoftBreak, Delimiters, bracket_text}
use Rattle.tocmark_commonmark.specs.Links.{Destination}
use Rattle.tocmark_commonmark.specs.Tokens as kind
use Rattle.tocmark_commonmark.specs.Tokens.{Kind, kind_of, is_other, Token, token, byte_token, token_at, backslash, ampersand, reference, code_from, opening, exclamation, angle, html_end, spaces, others}
use Rattle.tocmark_inline_laws.specs.Said.{commonmark}
use Rattle.tocmark_inline_laws.specs.Statement.{LeadAlike, ContentsAreReadAsDeclared, InlinesAreLocal}
use Rattle.tocmark_inline_laws.proofs.Ampersands.{ampersand_goes}
use Rattle.tocmark_inline_laws.proofs.Angles.{angle_goes}
use Rattle.tocmark_inline_laws.proofs.CodeSpans.{code_goes}
use Rattle.tocmark_inline_laws.proofs.Breaks.{feed_goes, spaces_goes}
use Rattle.tocmark_inline_laws.proofs.ByKind.{Each, by_kind}
use Rattle.tocmark_inline_laws.proofs.Delimiters.{star_goes, underscore_goes}
use Rattle.tocmark_inline_laws.proofs.Run.{Next, next_by, GoesOn, Reads, roles_read, reads_say}
use Rattle.tocmark_inline_laws.proofs.Sim.{Sim, Goes}
use Rattle.tocmark_inline_laws.proofs.OpenBrackets.{bracket_goes}
use Rattle.tocmark_inline_laws.proofs.ClosedBrackets.{closing_next}
use Rattle.tocmark_inline_laws.proofs.Places.{two_at, past_end}
use Rattle.tocmark_inline_laws.proofs.Tokens.{backslash_goes, exclamation_goes, other_goes}

-- what is to be shown of a byte of a kind
abbrev Claim : List ℕ → Known → (List ℕ → Option Entry) → List Destination → ℕ → State → List Atom → ℕ → Kind → Type 0
Claim bytes ahead defs labels p s done b k = kind_of b ≡ k → byte_at bytes p ≡ b → Next bytes ahead defs labels p s done b k

opening_looked : (bytes : List ℕ) (ahead : Known) (defs : List ℕ → Option Entry) (s : State) → looked_all bytes ahead defs 91 s ≡ opened false 1 s
unfolding looked_all looked
opening_looked bytes ahead defs s = refl

opening_marks : is_mark 91 ≡ true
unfolding is_mark
opening_marks = refl

-- 6.3: an opening bracket
opening_goes : (bytes : List ℕ) (ahead : Known) (defs : List ℕ → Option Entry) (p : ℕ) (s : State) (done : List Atom) → Sim bytes p s done → p < length bytes → length bytes + 2 < 2 ^ 64 → byte_at bytes p ≡ 91 → Goes bytes ahead defs p s done (opening false (p + 1))
opening_goes bytes ahead defs p s done a inner fits is = bracket_goes bytes ahead defs false p 91 s done a (omega arith) fits is opening_marks (opening_looked bytes ahead defs s) here
  where
    here : (i : ℕ) → i < 1 → byte_at bytes (p + i) ≡ byte_at (bracket_text false) i
    here zero l = ap (λ q. byte_at bytes q) (let q : p + 0 ≡ p = omega arith in q) ∙ is
    here (suc i) l = absurd (omega arith)

image_looked : (bytes : List ℕ) (ahead : Known) (defs : List ℕ → Option Entry) (s : State) → looked_all bytes ahead defs 33 s ≡ (if starts_at bytes s.place (codes "![") then opened true 2 s else s)
unfolding looked_all looked imaged
image_looked bytes ahead defs s = refl

image_marks : is_mark 33 ≡ true
unfolding is_mark
image_marks = refl

-- 6.4: an exclamation mark
mark_goes : (bytes : List ℕ) (ahead : Known) (defs : List ℕ → Option Entry) (p : ℕ) (s : State) (done : List Atom) → Sim bytes p s done → p < length bytes → length bytes + 2 < 2 ^ 64 → byte_at bytes p ≡ 33 → Goes bytes ahead defs p s done (exclamation bytes p)
mark_goes bytes ahead defs p s done a inner fits is = by (byte_at bytes (p + 1) == 91) refl
  where
    by : (z : Bool) → (byte_at bytes (p + 1) == 91) ≡ z → Goes bytes ahead defs p s done (if z then opening true (p + 2) else byte_token 33 p)
    by true e = bracket_goes bytes ahead defs true p 33 s done a (omega (arith, room)) fits is image_marks
        (image_looked bytes ahead defs s ∙ ap (λ q. if starts_at bytes q (codes "![") then opened true 2 s else s) a.place
        ∙ ap (λ (z : Bool). if z then opened true 2 s else s) (two_at bytes p 33 91 inner is ∙ ap (λ (z : Bool). nat_lt (p + 1) (length bytes) && z) e ∙ ap (λ (z : Bool). z && true) room_so))
        here
      where
        room : p + 1 < length bytes
        room = near (nat_lt (p + 1) (length bytes)) refl
          where
            near : (z : Bool) → nat_lt (p + 1) (length bytes) ≡ z → p + 1 < length bytes
            near true f = grind (arith, nat_tests, f)
            near false f = absurd (true≢false (sym e ∙ ap (λ c. c == 91) (past_end bytes (p + 1) (let l : length bytes ≤ p + 1 = grind (arith, nat_tests, f) in l))))

        room_so : nat_lt (p + 1) (length bytes) ≡ true
        room_so = let l : p + 1 < length bytes = room in grind (arith, nat_tests)

        here : (i : ℕ) → i < 2 → byte_at bytes (p + i) ≡ byte_at (bracket_text true) i
        here zero l = ap (λ q. byte_at bytes q) (let q : p + 0 ≡ p = omega arith in q) ∙ is
        here (suc zero) l = eq_of (byte_at bytes (p + 1)) 91 e
        here (suc (suc i)) l = absurd (omega arith)
    by false e = subst (λ (z : Bool). Goes bytes ahead defs p s done (if z then opening true (p + 2) else byte_token 33 p)) e (exclamation_goes bytes ahead defs p s done a inner (omega arith) is e)

each_token : (bytes : List ℕ) (ahead : Known) (defs : List ℕ → Option Entry) (labels : List Destination) (texts : List ℕ) → length bytes + 2 < 2 ^ 64 → ahead.ends ≡ ends_of bytes → ahead.ticks ≡ ticks_of bytes → LeadAlike texts defs labels → GoesOn texts bytes ahead defs labels
each_token bytes ahead defs labels texts wide ends ticks alike p s done a grown inner = by_kind (Claim bytes ahead defs labels p s done) each (byte_at bytes p) refl refl
  where
    fits : length bytes + 1 < 2 ^ 64
    fits = omega arith

    run_token : ℕ → Token
    run_token b = record { atom = Delimiters (run_at bytes p b); end = run_end bytes p (Only b) }

    each : Each (Claim bytes ahead defs labels p s done)
    each = record {
      backslash = λ k e. next_by bytes ahead defs labels p s done 92 kind.Backslash (backslash bytes p) (backslash_goes bytes ahead defs p s done a inner fits e) (λ go. refl);
      ampersand = λ k e. next_by bytes ahead defs labels p s done 38 kind.Ampersand (ampersand p (reference bytes p)) (ampersand_goes bytes ahead defs p s done a inner wide e) (λ go. refl);
      backtick = λ k e. next_by bytes ahead defs labels p s done 96 kind.Backtick (code_from bytes p (run_end bytes p (Only 96))) (code_goes bytes ahead defs p s done a inner wide e ticks) (λ go. refl);
      star = λ k e. next_by bytes ahead defs labels p s done 42 kind.Star (run_token 42) (star_goes bytes ahead defs p s done a inner fits e) (λ go. refl);
      underscore = λ k e. next_by bytes ahead defs labels p s done 95 kind.Star (run_token 95) (underscore_goes bytes ahead defs p s done a inner fits e) (λ go. refl);
      opening = λ k e. next_by bytes ahead defs labels p s done 91 kind.OpenBracket (opening false (p + 1)) (opening_goes bytes ahead defs p s done a inner wide e) (λ go. refl);
      exclamation = λ k e. next_by bytes ahead defs labels p s done 33 kind.Exclamation (exclamation bytes p) (mark_goes bytes ahead defs p s done a inner wide e) (λ go. refl);
      closing = λ k e. closing_next bytes ahead defs labels texts p s done alike grown a inner wide e;
      angle = λ k e. next_by bytes ahead defs labels p s done 60 kind.Angle (angle bytes p (uri_end bytes p) (mail_end bytes p) (html_end bytes p)) (angle_goes bytes ahead defs p s done a inner wide e ends) (λ go. refl);
      space = λ k e. next_by bytes ahead defs labels p s done 32 kind.Space (spaces bytes p (run_end bytes p (Only 32))) (spaces_goes bytes ahead defs p s done a inner fits e) (λ go. refl);
      feed = λ k e. next_by bytes ahead defs labels p s done 10 kind.LineFeed (token SoftBreak (p + 1)) (feed_goes bytes ahead defs p s done a inner fits e) (λ go. refl);
      other = λ b plain k e. next_by bytes ahead defs labels p s done b kind.Other (others (take_while (λ c. is_other (kind_of c)) (drop p bytes)) p) (other_goes bytes ahead defs p b s done a inner fits e k) (λ go. refl);
    }

-- the roles of each content
pub all_read : (bytes : List ℕ) → length bytes + 2 < 2 ^ 64 → (labels : List Destination) (definitions : List ℕ → Option Entry) (targets : List Target) (texts : List ℕ) (missed : List Stretch) → LeadAlike texts definitions labels
    → Reads bytes labels texts (scanned_in commonmark bytes definitions (scan_start (length bytes) targets texts missed))
all_read bytes fits labels definitions targets texts missed alike =
    roles_read bytes definitions labels targets texts missed fits
    (each_token bytes (ahead_in commonmark bytes) definitions labels texts fits refl refl alike)

pub all_declared : ContentsAreReadAsDeclared
all_declared bytes fits labels definitions targets texts missed alike =
    reads_say bytes labels texts (scanned_in commonmark bytes definitions (scan_start (length bytes) targets texts missed)) 0 fits (omega arith)
    (all_read bytes fits labels definitions targets texts missed alike)

pub all_local : InlinesAreLocal
all_local bytes fits labels d e targets gs texts ts missed ms h k = all_declared bytes fits labels d targets texts missed h ∙ sym (all_declared bytes fits labels e gs ts ms k)
