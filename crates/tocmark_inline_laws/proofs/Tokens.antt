-- Tokens of a content: escapes, line breaks and texts.
use Rattle.std.proofs.Common.{◌≡◌, ℕ, suc, ◌+◌, ◌-◌, ◌^◌, ◌<◌, ◌≤◌, Bool, true, false, cond, ◌==◌, ◌&&◌, nat_lt, if◌then◌else◌, List, [], ◌∷◌, ◌++◌, length, drop, replicate, codes, refl, ap, sym, subst, ◌∙◌, arith, append-nil, true≢false}
use Rattle.std.proofs.lemmas.Bool.Decides.{nat_tests}
use Rattle.std.proofs.lemmas.List.{length-replicate}
use Rattle.std.proofs.lemmas.List.Sums.{take_while-cons}
use Rattle.std.specs.Char.{is_ascii_punctuation}
use Rattle.std.specs.Prelude.{Option, slice_set, take_while}
use Rattle.std.specs.List.{fold, AllByRecursion}
use Rattle.tocmark_read_scan.specs.Basic.{plus, byte_at, starts_at}
use Rattle.tocmark_read_scan.proofs.PlainTests.{eq_of, both_true, differs, turned}
use Rattle.tocmark_read_tokens.specs.Reference.{is_escape}
use Rattle.tocmark_read_inlines.specs.Scan.{State, Known, is_mark, put_leaf, escaped, imaged, opened, looked, looked_mark, looked_all, next_place, with_place}
use Rattle.tocmark_read_spans.specs.declared.definitions.Entry.{Entry}
use Rattle.tocmark_read_spans.specs.declared.role.Leaf.{Leaf}
use Rattle.tocmark_read_spans.specs.declared.role.Leaf.TheVariants as leaf
use Rattle.tocmark_read_spans.specs.declared.role.Role.{Role}
use Rattle.tocmark_read_spans.specs.declared.role.Role.TheVariants as role
use Rattle.tocmark_commonmark.specs.InlineTree.{Inline, Text, HardBreak, Atom}
use Rattle.tocmark_commonmark.specs.Tokens as kind
use Rattle.tocmark_commonmark.specs.Tokens.{Kind, kind_of, is_other, Token, token, byte_token, ends_line, backslash, exclamation, line_break, spaces, others}
use Rattle.tocmark_inline_laws.specs.Said.{leaf_said, declared_one}
use Rattle.tocmark_inline_laws.proofs.Stretches.{first_left}
use Rattle.tocmark_inline_laws.proofs.Atoms.{with_more, Shows, leaf_shows, hidden_shows, fresh_shows, shows_more}
use Rattle.tocmark_inline_laws.proofs.Passes.{step, step_look, passed_over}
use Rattle.tocmark_inline_laws.proofs.Phases.{Passes, passes_by, escape_passes, lone_passes}
use Rattle.tocmark_inline_laws.proofs.ByKind.{Each, by_kind}
use Rattle.tocmark_inline_laws.proofs.Sim.{beside, Clean, Sim, Goes, Took, took_sim, goes_by}
use Rattle.tocmark_inline_laws.proofs.Plains.{drop_past, past_within, byte_is, plains_show, Front, front_of}
use Rattle.tocmark_inline_laws.proofs.Places.{set_here, set_next, plain_split, clean_after, two_at, past_end}

-- roles of a token that adds no texts and no targets
pub added : (bytes : List ℕ) (p end : ℕ) (s t : State) (front seg : List Role) (i : Inline) → t.roles ≡ front ++ (seg ++ replicate (length bytes - end) role.Plain) → p + length seg ≡ end → t.texts ≡ s.texts → t.targets ≡ s.targets → Shows (beside bytes s) p seg i → t.resume ≤ end → t.runs ≡ s.runs → Took bytes p end s t front seg i
added bytes p end s t front seg i roles long same_texts same_targets shows resume runs = record {
  texts = [];
  targets = [];
  roles = roles;
  long = long;
  more_texts = same_texts ∙ sym (append-nil s.texts);
  more_targets = same_targets ∙ sym (append-nil s.targets);
  stands = shows_more (beside bytes s) [] [] p seg i shows;
  resume = resume;
  runs = runs;
}

slash_marks : is_mark 92 ≡ true
unfolding is_mark
slash_marks = refl

-- one byte that is no backslash
pub byte_passes : (bytes : List ℕ) (p b : ℕ) → p < length bytes → length bytes + 1 < 2 ^ 64 → byte_at bytes p ≡ b → (b == 92) ≡ false → Passes bytes p (p + 1)
byte_passes bytes p b in_it fits is h = passes_by bytes p (p + 1) p fits (omega arith) (omega arith) in_it (ap (λ c. c == 92) is ∙ h)

-- a text of which no byte is a mark
pub text_goes : (bytes : List ℕ) (ahead : Known) (defs : List ℕ → Option Entry) (p b : ℕ) (s : State) (done : List Atom) (xs rest : List ℕ) → Sim bytes p s done → p ≤ length bytes → length bytes + 1 < 2 ^ 64 → drop p bytes ≡ b ∷ (xs ++ rest) → AllByRecursion (λ c. is_mark c ≡ false) (b ∷ xs) → Clean bytes (p + suc (length xs)) → Goes bytes ahead defs p s done (token (Text (b ∷ xs)) (p + suc (length xs)))
text_goes bytes ahead defs p b s done xs rest a in_it fits e h clean = record {
  after = with_place (p + suc (length xs)) s;
  same =
      ap (fold (step bytes ahead defs) s) e
      ∙ passed_over bytes ahead defs (b ∷ xs) rest s h (let q : s.place ≡ p = a.place in omega (arith, m))
      ∙ ap (λ q. fold (step bytes ahead defs) (with_place (q + suc (length xs)) s) rest) a.place
      ∙ ap (fold (step bytes ahead defs) (with_place (p + suc (length xs)) s)) (sym (drop_past bytes (b ∷ xs) rest p e));
  further = omega arith;
  within = omega (arith, m);
  sim = took_sim bytes p (p + suc (length xs)) s s done (replicate (suc (length xs)) role.Plain) (Text (b ∷ xs)) a
      (added bytes p (p + suc (length xs)) s s a.front (replicate (suc (length xs)) role.Plain) (Text (b ∷ xs))
      (a.roles ∙ ap (λ rs. a.front ++ rs) (plain_split (length bytes) p (length xs) (omega (arith, m))))
      (ap (λ n. p + n) (length-replicate (suc (length xs)) role.Plain))
      refl refl
      (plains_show (beside bytes s) (b ∷ xs) rest p e)
      (let q : s.resume ≤ p = a.resume in omega arith)
      refl)
      clean
      (passes_by bytes p (p + suc (length xs)) (p + length xs) fits (omega arith) (omega arith) (omega (arith, m)) (differs is_mark (byte_at bytes (p + length xs)) 92 slash_marks (byte_is (λ c. is_mark c ≡ false) bytes (b ∷ xs) rest p (length xs) e h (omega arith))))
      refl refl;
  grown = ([], sym (append-nil s.texts));
}
  where
    m : p + suc (length xs) + length rest ≡ length bytes
    m = past_within bytes (b ∷ xs) rest p in_it e

-- one byte that is a text although it is a mark
pub byte_goes : (bytes : List ℕ) (ahead : Known) (defs : List ℕ → Option Entry) (p b : ℕ) (s : State) (done : List Atom) → Sim bytes p s done → p < length bytes → length bytes + 1 < 2 ^ 64 → byte_at bytes p ≡ b → is_mark b ≡ true → (b == 32) ≡ false → Passes bytes p (p + 1) → looked_all bytes ahead defs b s ≡ s → Goes bytes ahead defs p s done (byte_token b p)
byte_goes bytes ahead defs p b s done a in_it fits is mark space passes same =
    goes_by bytes ahead defs p (p + 1) b s s done (role.Plain ∷ []) (Text (b ∷ [])) a
    (added bytes p (p + 1) s s a.front (role.Plain ∷ []) (Text (b ∷ []))
    (a.roles ∙ ap (λ rs. a.front ++ rs) (plain_split (length bytes) p 0 (omega arith)))
    refl refl refl
    (plains_show (beside bytes s) (b ∷ []) (drop (suc p) bytes) p (first_left bytes p in_it ∙ ap (λ c. c ∷ drop (suc p) bytes) is))
    (let q : s.resume ≤ p = a.resume in omega arith)
    refl)
    (clean_after bytes p (p + 1) (omega arith) (ap (λ c. c == 32) is ∙ space))
    passes refl refl
    (omega arith) (omega arith) fits is
    (step_look bytes ahead defs s b mark (let q : s.resume ≤ p = a.resume in let r : s.place ≡ p = a.place in omega arith) ∙ ap next_place same)
    a.place (omega arith)

-- a leaf that begins with the byte that is read
pub leaf_goes : (bytes : List ℕ) (ahead : Known) (defs : List ℕ → Option Entry) (p b end : ℕ) (s t : State) (done : List Atom) (l : Leaf) (i : Inline) (more : List ℕ) → Sim bytes p s done → p < end → end ≤ length bytes → length bytes + 1 < 2 ^ 64 → byte_at bytes p ≡ b → is_mark b ≡ true → looked_all bytes ahead defs b s ≡ put_leaf l end t → t ≡ record s { texts = s.texts ++ more } → Clean bytes end → Passes bytes p end → ((ts : List ℕ) (d : ℕ) → leaf_said (s.texts ++ more ++ ts) d l ≡ declared_one d i) → Goes bytes ahead defs p s done (token i end)
unfolding put_leaf
leaf_goes bytes ahead defs p b end s t done l i more a further in_it fits is mark looked same clean passes says =
    goes_by bytes ahead defs p end b s u done (role.Single l end ∷ replicate (end - suc p) role.Plain) i a
    (record {
      texts = more;
      targets = [];
      roles = set ∙ ap (λ n. a.front ++ ((role.Single l end ∷ replicate (end - suc p) role.Plain) ++ replicate (length bytes - n) role.Plain)) whole;
      long = long;
      more_texts = refl;
      more_targets = sym (append-nil s.targets);
      stands = leaf_shows (with_more (beside bytes s) more []) p end l (replicate (end - suc p) role.Plain) (let q : length (replicate (end - suc p) role.Plain) ≡ end - suc p = length-replicate (end - suc p) role.Plain in omega arith) i says;
      resume = omega arith;
      runs = refl;
    })
    clean passes refl refl further in_it fits is
    (step_look bytes ahead defs s b mark (let q : s.resume ≤ p = a.resume in let r : s.place ≡ p = a.place in omega arith) ∙ ap next_place (looked ∙ ap (put_leaf l end) same))
    a.place (omega arith)
  where
    u : State
    u = record s { texts = s.texts ++ more; roles = slice_set s.roles s.place (role.Single l end); resume = end }

    whole : p + suc (end - suc p) ≡ end
    whole = omega arith

    long : p + suc (length (replicate (end - suc p) role.Plain)) ≡ end
    long = ap (λ n. p + suc n) (length-replicate (end - suc p) role.Plain) ∙ whole

    set : slice_set s.roles s.place (role.Single l end) ≡ a.front ++ (role.Single l end ∷ (replicate (end - suc p) role.Plain ++ replicate (length bytes - (p + suc (end - suc p))) role.Plain))
    set =
        ap (λ rs. slice_set rs s.place (role.Single l end)) (a.roles ∙ ap (λ rs. a.front ++ rs) (plain_split (length bytes) p (end - suc p) (omega arith)))
        ∙ set_here a.front (replicate (end - suc p) role.Plain ++ replicate (length bytes - (p + suc (end - suc p))) role.Plain) role.Plain (role.Single l end) s.place (a.place ∙ sym a.long)

-- 2.4 and 6.7: a backslash
abbrev escaped_at : ℕ → State → Bool → Bool → State
escaped_at q s x y =
    if x then record s { roles = slice_set (slice_set s.roles q role.Hidden) (plus q 1) role.Fresh; resume = plus q 2 }
    else (if y then put_leaf leaf.HardBreak (plus q 2) s else s)

backslash_looked : (bytes : List ℕ) (ahead : Known) (defs : List ℕ → Option Entry) (s : State) → looked_all bytes ahead defs 92 s ≡ escaped_at s.place s (is_escape bytes s.place) (starts_at bytes s.place (codes "\\\n"))
unfolding looked_all looked looked_mark escaped
backslash_looked bytes ahead defs s = refl

backslash_marks : is_mark 92 ≡ true
unfolding is_mark
backslash_marks = refl

punctuated : (bytes : List ℕ) (p : ℕ) → is_escape bytes p ≡ true → is_ascii_punctuation (byte_at bytes (plus p 1)) ≡ true
unfolding is_escape
punctuated bytes p h = (both_true (byte_at bytes p == 92) (is_ascii_punctuation (byte_at bytes (plus p 1))) h).1

unpunctuated : (bytes : List ℕ) (p : ℕ) → byte_at bytes p ≡ 92 → is_escape bytes p ≡ false → is_ascii_punctuation (byte_at bytes (plus p 1)) ≡ false
unfolding is_escape
unpunctuated bytes p is h = sym (ap (λ c. (c == 92) && is_ascii_punctuation (byte_at bytes (plus p 1))) is) ∙ h

no_punctuation : is_ascii_punctuation 10 ≡ false
no_punctuation = refl

inside : (bytes : List ℕ) (q : ℕ) → is_ascii_punctuation (byte_at bytes q) ≡ true → q < length bytes
inside bytes q h = by (nat_lt q (length bytes)) refl
  where
    by : (z : Bool) → nat_lt q (length bytes) ≡ z → q < length bytes
    by true e = grind (arith, nat_tests, e)
    by false e = absurd (true≢false (sym h ∙ ap is_ascii_punctuation (past_end bytes q (let k : length bytes ≤ q = grind (arith, nat_tests, e) in k)) ∙ no_punctuation))

pub backslash_goes : (bytes : List ℕ) (ahead : Known) (defs : List ℕ → Option Entry) (p : ℕ) (s : State) (done : List Atom) → Sim bytes p s done → p < length bytes → length bytes + 1 < 2 ^ 64 → byte_at bytes p ≡ 92 → Goes bytes ahead defs p s done (backslash bytes p)
backslash_goes bytes ahead defs p s done a in_it fits is = by (is_escape bytes p) (ends_line bytes (p + 1)) refl refl
  where
    one : plus p 1 ≡ p + 1
    one = omega arith

    two : plus p 2 ≡ p + 2
    two = omega arith

    looked_so : looked_all bytes ahead defs 92 s ≡ escaped_at p s (is_escape bytes p) (ends_line bytes (p + 1))
    looked_so =
        backslash_looked bytes ahead defs s
        ∙ ap (λ q. escaped_at q s (is_escape bytes q) (starts_at bytes q (codes "\\\n"))) a.place
        ∙ ap (λ z. escaped_at p s (is_escape bytes p) z) (two_at bytes p 92 10 in_it is)

    by : (x y : Bool) → is_escape bytes p ≡ x → ends_line bytes (p + 1) ≡ y → Goes bytes ahead defs p s done (if x then token (Text (byte_at bytes (p + 1) ∷ [])) (p + 2) else (if y then token HardBreak (p + 2) else byte_token 92 p))
    by true y e f =
        goes_by bytes ahead defs p (p + 2) 92 s t done (role.Hidden ∷ role.Fresh ∷ []) (Text (byte_at bytes (p + 1) ∷ [])) a
        (added bytes p (p + 2) s t a.front (role.Hidden ∷ role.Fresh ∷ []) (Text (byte_at bytes (p + 1) ∷ []))
        set refl refl refl
        (hidden_shows (beside bytes s) p (role.Fresh ∷ []) (Text (byte_at bytes (p + 1) ∷ []))
        (fresh_shows (beside bytes s) (suc p) (byte_at bytes (p + 1)) (Text (byte_at bytes (p + 1) ∷ [])) (ap (λ m. byte_at bytes m) (let k : suc p ≡ p + 1 = omega arith in k)) (λ d. refl)))
        (omega arith) refl)
        (clean_after bytes (p + 1) (p + 2) (omega arith) (turned is_ascii_punctuation 32 (byte_at bytes (p + 1)) punct refl))
        (escape_passes bytes p (omega (arith, far)) fits is punct) refl refl
        (omega arith) (omega (arith, far)) fits is
        (step_look bytes ahead defs s 92 backslash_marks (let q : s.resume ≤ p = a.resume in let r : s.place ≡ p = a.place in omega arith)
        ∙ ap next_place (looked_so ∙ ap (λ x. escaped_at p s x (ends_line bytes (p + 1))) e))
        a.place (omega arith)
      where
        t : State
        t = record s { roles = slice_set (slice_set s.roles p role.Hidden) (plus p 1) role.Fresh; resume = plus p 2 }

        punct : is_ascii_punctuation (byte_at bytes (p + 1)) ≡ true
        punct = ap (λ m. is_ascii_punctuation (byte_at bytes m)) (sym one) ∙ punctuated bytes p e

        far : p + 1 < length bytes
        far = inside bytes (p + 1) punct

        set : slice_set (slice_set s.roles p role.Hidden) (plus p 1) role.Fresh ≡ a.front ++ (role.Hidden ∷ role.Fresh ∷ replicate (length bytes - (p + 2)) role.Plain)
        set =
            ap (λ rs. slice_set (slice_set rs p role.Hidden) (plus p 1) role.Fresh) (a.roles ∙ ap (λ rs. a.front ++ rs) (plain_split (length bytes) p 1 (omega (arith, far))))
            ∙ ap (λ rs. slice_set rs (plus p 1) role.Fresh) (set_here a.front (role.Plain ∷ replicate (length bytes - (p + 2)) role.Plain) role.Plain role.Hidden p (sym a.long))
            ∙ set_next a.front (replicate (length bytes - (p + 2)) role.Plain) role.Hidden role.Plain role.Fresh (plus p 1) (let k : length a.front ≡ p = a.long in let m : plus p 1 ≡ p + 1 = one in omega arith)
    by false true e f =
        leaf_goes bytes ahead defs p 92 (p + 2) s s done leaf.HardBreak HardBreak [] a (omega arith) (omega (arith, far)) fits is backslash_marks
        (looked_so ∙ ap (λ x. escaped_at p s x (ends_line bytes (p + 1))) e ∙ ap (λ y. escaped_at p s false y) f ∙ ap (λ q. put_leaf leaf.HardBreak q s) two)
        (ap (λ (ts : List ℕ). record s { texts = ts }) (sym (append-nil s.texts)))
        (clean_after bytes (p + 1) (p + 2) (omega arith) (ap (λ c. c == 32) (eq_of (byte_at bytes (p + 1)) 10 (ends.1))))
        (passes_by bytes p (p + 2) (p + 1) fits (omega arith) (omega arith) far (ap (λ c. c == 92) (eq_of (byte_at bytes (p + 1)) 10 (ends.1))))
        (λ ts d. refl)
      where
        ends : (nat_lt (p + 1) (length bytes) ≡ true) × ((byte_at bytes (p + 1) == 10) ≡ true)
        ends = both_true (nat_lt (p + 1) (length bytes)) (byte_at bytes (p + 1) == 10) f

        far : p + 1 < length bytes
        far = let k : nat_lt (p + 1) (length bytes) ≡ true = ends.0 in grind (arith, nat_tests)
    by false false e f =
        byte_goes bytes ahead defs p 92 s done a in_it fits is backslash_marks refl (lone_passes bytes p in_it fits is (ap (λ m. is_ascii_punctuation (byte_at bytes m)) (sym one) ∙ unpunctuated bytes p is e))
        (looked_so ∙ ap (λ x. escaped_at p s x (ends_line bytes (p + 1))) e ∙ ap (λ y. escaped_at p s false y) f)

-- an exclamation mark before no bracket
exclamation_looked : (bytes : List ℕ) (ahead : Known) (defs : List ℕ → Option Entry) (s : State) → looked_all bytes ahead defs 33 s ≡ (if starts_at bytes s.place (codes "![") then opened true 2 s else s)
unfolding looked_all looked imaged
exclamation_looked bytes ahead defs s = refl

exclamation_marks : is_mark 33 ≡ true
unfolding is_mark
exclamation_marks = refl

and_no : (a : Bool) → (a && false) ≡ false
and_no true = refl
and_no false = refl

pub exclamation_goes : (bytes : List ℕ) (ahead : Known) (defs : List ℕ → Option Entry) (p : ℕ) (s : State) (done : List Atom) → Sim bytes p s done → p < length bytes → length bytes + 1 < 2 ^ 64 → byte_at bytes p ≡ 33 → (byte_at bytes (p + 1) == 91) ≡ false → Goes bytes ahead defs p s done (exclamation bytes p)
exclamation_goes bytes ahead defs p s done a in_it fits is apart =
    subst (λ (z : Bool). Goes bytes ahead defs p s done (if z then kind.opening true (p + 2) else byte_token 33 p)) (sym apart)
    (byte_goes bytes ahead defs p 33 s done a in_it fits is exclamation_marks refl (byte_passes bytes p 33 in_it fits is refl)
    (exclamation_looked bytes ahead defs s
    ∙ ap (λ q. if starts_at bytes q (codes "![") then opened true 2 s else s) a.place
    ∙ ap (λ (z : Bool). if z then opened true 2 s else s) (two_at bytes p 33 91 in_it is ∙ ap (λ (z : Bool). nat_lt (p + 1) (length bytes) && z) apart ∙ and_no (nat_lt (p + 1) (length bytes)))))

-- bytes that begin nothing
abbrev IsNone : ℕ → Kind → Type 0
IsNone c k = is_other k ≡ true → (is_mark c ≡ false) × ((c == 32) ≡ false)

abbrev begins_none : ℕ → Bool
begins_none c = is_other (kind_of c)

other_unmarked : (b : ℕ) → is_other (kind_of b) ≡ true → (is_mark b ≡ false) × ((b == 32) ≡ false)
other_unmarked b h = by_kind IsNone each b h
  where
    no : (c : ℕ) → false ≡ true → (is_mark c ≡ false) × ((c == 32) ≡ false)
    no c e = absurd (true≢false (sym e))

    each : Each IsNone
    each = record {
      backslash = no 92;
      ampersand = no 38;
      backtick = no 96;
      star = no 42;
      underscore = no 95;
      opening = no 91;
      exclamation = no 33;
      closing = no 93;
      angle = no 60;
      space = no 32;
      feed = no 10;
      other = λ c k e. (k.mark, k.space);
    }

pub all_of : (P Q : ℕ → Type 0) → ((c : ℕ) → P c → Q c) → (xs : List ℕ) → AllByRecursion P xs → AllByRecursion Q xs
all_of P Q f [] h = tt
all_of P Q f (x ∷ xs) h = (f x (h.0), all_of P Q f xs (h.1))

pub other_goes : (bytes : List ℕ) (ahead : Known) (defs : List ℕ → Option Entry) (p b : ℕ) (s : State) (done : List Atom) → Sim bytes p s done → p < length bytes → length bytes + 1 < 2 ^ 64 → byte_at bytes p ≡ b → kind_of b ≡ kind.Other → Goes bytes ahead defs p s done (others (take_while (λ c. is_other (kind_of c)) (drop p bytes)) p)
other_goes bytes ahead defs p b s done a in_it fits is k = subst (λ xs. Goes bytes ahead defs p s done (others xs p)) (sym whole) here
  where
    f : Front begins_none (drop (suc p) bytes)
    f = front_of begins_none (drop (suc p) bytes)

    first : drop p bytes ≡ b ∷ drop (suc p) bytes
    first = first_left bytes p in_it ∙ ap (λ c. c ∷ drop (suc p) bytes) is

    passes : begins_none b ≡ true
    passes = ap is_other k

    whole : take_while begins_none (drop p bytes) ≡ b ∷ f.text
    whole = ap (take_while begins_none) first ∙ take_while-cons begins_none b (drop (suc p) bytes) ∙ ap (λ z. cond z (b ∷ take_while begins_none (drop (suc p) bytes)) []) passes ∙ ap (λ xs. b ∷ xs) f.taken

    cut_so : drop p bytes ≡ b ∷ (f.text ++ f.rest)
    cut_so = first ∙ ap (λ xs. b ∷ xs) f.whole

    all : AllByRecursion (λ c. begins_none c ≡ true) (b ∷ f.text)
    all = (passes, f.each)

    here : Goes bytes ahead defs p s done (token (Text (b ∷ f.text)) (p + suc (length f.text)))
    here = text_goes bytes ahead defs p b s done f.text f.rest a (omega arith) fits cut_so
        (all_of (λ c. begins_none c ≡ true) (λ c. is_mark c ≡ false) (λ c h. (other_unmarked c h).0) (b ∷ f.text) all)
        (clean_after bytes (p + length f.text) (p + suc (length f.text)) (omega arith)
        (other_unmarked (byte_at bytes (p + length f.text)) (byte_is (λ c. begins_none c ≡ true) bytes (b ∷ f.text) f.rest p (length f.text) cut_so all (omega arith))).1)
