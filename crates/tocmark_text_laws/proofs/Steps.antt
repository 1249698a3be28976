-- Each step of the pass over a leaf's text keeps what is known of the roles.
use Rattle.std.proofs.Common.{◌≡◌, ℕ, zero, suc, ◌+◌, ◌-◌, ◌^◌, ◌<◌, ◌≤◌, ◌⊎◌, inl, inr, not, ◌==◌, ◌&&◌, ◌||◌, Bool, true, false, if◌then◌else◌, nat_lt, nat_le, List, [], ◌∷◌, ◌++◌, length, take, codes, refl, ap, sym, ◌∙◌, subst, arith, true≢false}
use Rattle.std.specs.Prelude.{slice_get, slice_set, max, min, unwrap_or, Option, Some, None}
use Rattle.std.specs.Char.{is_ascii_punctuation}
use Rattle.std.specs.Int.{is_in_range}
use Rattle.std.specs.List.{fold}
use Rattle.std.proofs.lemmas.Bool.Decides.{nat_tests}
use Rattle.std.proofs.lemmas.Option.{slice_get_within}
use Rattle.tocmark_read_scan.specs.Basic.{plus, byte_at, bytes_between, starts_at}
use Rattle.tocmark_read_scan.specs.Class.{is_in, run_end}
use Rattle.tocmark_read_scan.specs.Repeat.{iterated}
use Rattle.tocmark_read_scan.specs.declared.class.Class.TheVariants.{Only}
use Rattle.tocmark_read_scan.specs.declared.syntax.Names.TheVariants.{Four}
use Rattle.tocmark_read_scan.specs.declared.syntax.TheConstants.{CORE}
use Rattle.tocmark_read_tokens.specs.Autolink.{uri_end, mail_end}
use Rattle.tocmark_read_tokens.specs.Html.{last_ends, raw_html}
use Rattle.tocmark_read_tokens.specs.Label.{key_of}
use Rattle.tocmark_read_tokens.specs.Reference.{is_escape, reference_at}
use Rattle.tocmark_read_tokens.specs.declared.html.LastEnds.{LastEnds}
use Rattle.tocmark_read_tokens.specs.declared.reference.Reference.{Reference}
use Rattle.tocmark_event.specs.declared.event.LinkType.{LinkType}
use Rattle.tocmark_event.specs.declared.event.LinkType.TheVariants.{Autolink, Email}
use Rattle.tocmark_read_spans.specs.Emphasis.{emphasized}
use Rattle.tocmark_read_spans.specs.Link.{inline_target, label_asked}
use Rattle.tocmark_read_spans.specs.Run.{run_between, run_at}
use Rattle.tocmark_read_spans.specs.Tick.{last_ticks, tick_end}
use Rattle.tocmark_read_spans.specs.declared.definitions.Entry.{Entry}
use Rattle.tocmark_read_spans.specs.declared.link.Asked.{Asked}
use Rattle.tocmark_read_spans.specs.declared.link.Bracket.{Bracket}
use Rattle.tocmark_read_spans.specs.declared.link.InlineTarget.{InlineTarget}
use Rattle.tocmark_read_spans.specs.declared.role.Leaf.{Leaf}
use Rattle.tocmark_read_spans.specs.declared.role.Leaf.TheVariants.{HardBreak, SoftBreak}
use Rattle.tocmark_read_spans.specs.declared.role.Role.{Role}
use Rattle.tocmark_read_spans.specs.declared.role.Role.TheVariants.{Plain, Fresh, Hidden, Single}
use Rattle.tocmark_read_spans.specs.declared.role.Span.{Span}
use Rattle.tocmark_read_spans.specs.declared.role.Span.TheVariants.{Link, Image}
use Rattle.tocmark_read_spans.specs.declared.role.Target.{Target}
use Rattle.tocmark_read_spans.specs.declared.run.Run.{Run}
use Rattle.tocmark_read_inlines.specs.Scan.{State, Known, ends_of, ticks_of, ahead_in, before_space, kept, kept_code, kept_resolved_in, targeted, put_leaf, escaped, referred_to, referred, code_put, coded_to, coded, run_kept, run_taken, marked_last, marked, opened, imaged, addressed, html_put, tagged_to, tagged, mailed_to, mailed, angled_to, angled, line_ended, spanned, settled, linked, closed_inline_in, missing, looked_up_as, looked_up, closed_asked, closed_by_label, closed_found_in, closed_active_in, popped, closed_last_in, closed_in, looked_mark, looked, is_mark_in, is_tilde_in, is_caret_in, is_dollar_in, is_note_end_in, looked_in, scan_step_in, ran_in, scanned_in}
use Rattle.tocmark_text_laws.proofs.LinkEnds.{Ended, MayEnd as MayEndInline, inline_ends, AskedEnds, asked_ends}
use Rattle.tocmark_text_laws.proofs.Matches.{Marked}
use Rattle.tocmark_text_laws.proofs.Nests.{Nested, neutral_flat, calm_nested, calm_level}
use Rattle.tocmark_text_laws.proofs.TickEnds.{CodeEnds, code_ends, ticks_known}
use Rattle.tocmark_text_laws.proofs.TokenEnds.{MayEnd, html_ends, ends_known, MayRefer, reference_ends, word_got, word_byte}
use Rattle.tocmark_text_laws.proofs.Walks.{Safe, Neutral, is_neutral, calm_safe, calm_read}
use Rattle.tocmark_text_laws.proofs.Tokens.{byte_within, run_within, run_climbs, run_has, Closed, uri_closed, mail_closed, Spaces, spaces_before, image_bracket}
use Rattle.tocmark_text_laws.proofs.Scans.{is_run, is_bracket, Good, Opening, Brackets, Fine, fine_more, neutral_put, single_put, pair_put, break_put, runs_more, brackets_more, brackets_fewer, brackets_below, Mark, Parted, AllParted, Counted, parted_run, parted_bracket, parted_fewer, counted_below, span_put, settled_safe, settled_nested, settled_marked}

abbrev pub Stands : List ℕ → ℕ → State → Type 0
Stands t f s = Fine t f s.roles s.runs s.brackets

-- the pass goes on after a place, or where the mark that it read ends
abbrev pub Goes : List ℕ → ℕ → State → Type 0
Goes t p s = (s.place ≡ p) × Stands t (max (suc p) s.resume) s

stays : (t : List ℕ) (s : State) → Stands t s.place s → Goes t s.place s
stays t s h = (refl, fine_more t s.place (max (suc s.place) s.resume) s.roles s.runs s.brackets (omega arith) h)

not_white : (t : List ℕ) (p b : ℕ) → byte_at t p ≡ b → (b == 32) ≡ false → byte_at t p ≡ 32 → ⊥
not_white t p b e n q = true≢false (ap (λ c. c == 32) (sym q ∙ e) ∙ n)

leaf_goes : (t : List ℕ) (l : Leaf) (e : ℕ) (s : State) → (byte_at t s.place ≡ 32 → ⊥) → Mark t s.place (Single l e) → Stands t s.place s → Goes t s.place (put_leaf l e s)
unfolding put_leaf
leaf_goes t l e s b a h = (refl, single_put t s.roles s.runs s.brackets s.place l e b a h)

none_of : (x y : Bool) → y ≡ false → (x && y) ≡ false
none_of true y e = e
none_of false y e = refl

punctuation_ascii : (b : ℕ) → is_ascii_punctuation b ≡ true → b < 128
punctuation_ascii b e = by (nat_lt b 128) refl
  where
    by : (x : Bool) → nat_lt b 128 ≡ x → b < 128
    by true q = grind (arith, nat_tests)
    by false q =
        let w : 128 ≤ b = grind (arith, nat_tests) in
        let a : is_in_range 33 47 b ≡ false = none_of (nat_le 33 b) (nat_le b 47) (grind (arith, nat_tests)) in
        let c : is_in_range 58 64 b ≡ false = none_of (nat_le 58 b) (nat_le b 64) (grind (arith, nat_tests)) in
        let d : is_in_range 91 96 b ≡ false = none_of (nat_le 91 b) (nat_le b 96) (grind (arith, nat_tests)) in
        let f : is_in_range 123 126 b ≡ false = none_of (nat_le 123 b) (nat_le b 126) (grind (arith, nat_tests)) in
        absurd (true≢false (sym e ∙ rw (a, c, d, f) refl))

-- what a backslash escapes is a byte of ASCII
escape_ascii : (t : List ℕ) (p : ℕ) → is_escape t p ≡ true → byte_at t (plus p 1) < 128
unfolding is_escape
escape_ascii t p e = by (byte_at t p == 92) e
  where
    by : (x : Bool) → x && is_ascii_punctuation (byte_at t (plus p 1)) ≡ true → byte_at t (plus p 1) < 128
    by true e = punctuation_ascii (byte_at t (plus p 1)) e
    by false e = absurd (true≢false (sym e))

escaped_goes : (t : List ℕ) (s : State) → length t < 2 ^ 64 - 1 → s.place < length t → (byte_at t s.place ≡ 32 → ⊥) → byte_at t s.place < 128 → Stands t s.place s → Goes t s.place (escaped t s)
unfolding escaped
escaped_goes t s short w b a h = by (is_escape t s.place) refl (starts_at t s.place (codes "\\\n")) refl
  where
    first : List Role
    first = slice_set s.roles s.place Hidden

    one : Fine t s.place first s.runs s.brackets
    one = neutral_put t s.place s.roles s.runs s.brackets s.place Hidden (h.calm s.place (omega arith)) refl a h

    two : is_escape t s.place ≡ true → Fine t s.place (slice_set first (plus s.place 1) Fresh) s.runs s.brackets
    two e = neutral_put t s.place first s.runs s.brackets (plus s.place 1) Fresh (one.calm (plus s.place 1) (omega arith)) refl (escape_ascii t s.place e) one

    hard : starts_at t s.place (codes "\\\n") ≡ true → Ended t s.place (plus s.place 2)
    hard e =
        let k : s.place + 1 < length t = slice_get_within t (s.place + 1) 10 (word_got t (codes "\\\n") s.place 1 10 e refl) in
        let q : s.place + 1 ≡ plus s.place 2 - 1 = omega arith in
        let z : byte_at t (s.place + 1) ≡ 10 = word_byte t (codes "\\\n") s.place 1 10 e refl in
        record { after = omega arith; within = omega arith; closes = subst (λ x. byte_at t x < 128) q (omega arith) }

    by : (x : Bool) → is_escape t s.place ≡ x → (y : Bool) → starts_at t s.place (codes "\\\n") ≡ y → Goes t s.place (if x then record s { roles = slice_set (slice_set s.roles s.place Hidden) (plus s.place 1) Fresh; resume = plus s.place 2 } else (if y then put_leaf HardBreak (plus s.place 2) s else s))
    by true e y f = (refl, fine_more t s.place (max (suc s.place) (plus s.place 2)) (slice_set first (plus s.place 1) Fresh) s.runs s.brackets (omega arith) (two e))
    by false e true f = leaf_goes t HardBreak (plus s.place 2) s b (a, hard f) h
    by false e false f = stays t s h

referred_goes : (t : List ℕ) (s : State) → length t < 2 ^ 64 - 1 → s.place < length t → (byte_at t s.place ≡ 32 → ⊥) → byte_at t s.place < 128 → Stands t s.place s → Goes t s.place (referred t s)
unfolding referred
referred_goes t s short w b a h = by (reference_at t s.place) (reference_ends t s.place short w)
  where
    by : (o : Option Reference) → MayRefer t s.place o → Goes t s.place (referred_to s o)
    by None e = stays t s h
    by (Some r) e = leaf_goes t _ r.next s b (a, e) h

coded_goes : (t ticks : List ℕ) (s : State) → length t < 2 ^ 64 - 1 → s.place < length t → last_ticks t ≡ ticks → (byte_at t s.place ≡ 32 → ⊥) → byte_at t s.place < 128 → Stands t s.place s → Goes t s.place (coded t ticks s)
unfolding coded code_put kept_code
coded_goes t ticks s short w k b a h = by (tick_end t from (from - s.place) ticks) (subst (λ xs. CodeEnds t s.place (from - s.place) (tick_end t from (from - s.place) xs)) k (code_ends t s.place from (from - s.place) short (run_climbs t s.place (Only 96) (omega arith))))
  where
    from : ℕ
    from = run_end t s.place (Only 96)

    by : (o : Option ℕ) → CodeEnds t s.place (from - s.place) o → Goes t s.place (coded_to t from (from - s.place) s o)
    by None e = (refl, fine_more t s.place (max (suc s.place) from) s.roles s.runs s.brackets (omega arith) h)
    by (Some to) e = leaf_goes t _ (plus to (from - s.place)) ((kept_code (bytes_between t from to) s).0) b (a, e) h

addressed_goes : (t : List ℕ) (l : LinkType) (end : ℕ) (s : State) → (byte_at t s.place ≡ 32 → ⊥) → byte_at t s.place < 128 → Closed t s.place (Some end) → Stands t s.place s → Goes t s.place (addressed t l end s)
unfolding addressed kept targeted
addressed_goes t l end s b a (m, c, e) h = (refl, pair_put t s.roles s.runs s.brackets s.place (end - 1) (Link (length s.targets)) end b (not_white t (end - 1) 62 c refl) m (byte_within t (end - 1) 62 c refl) e a (omega arith) h)

html_goes : (t : List ℕ) (end : ℕ) (s : State) → Ended t s.place end → (byte_at t s.place ≡ 32 → ⊥) → byte_at t s.place < 128 → Stands t s.place s → Goes t s.place (html_put t end s)
unfolding html_put kept
html_goes t end s e b a h = leaf_goes t _ end ((kept (bytes_between t s.place end) s).0) b (a, e) h

tagged_goes : (t : List ℕ) (ends : LastEnds) (s : State) → length t < 2 ^ 64 - 1 → s.place < length t → last_ends t ≡ ends → (byte_at t s.place ≡ 32 → ⊥) → byte_at t s.place < 128 → Stands t s.place s → Goes t s.place (tagged t ends s)
unfolding tagged
tagged_goes t ends s short w k b a h = by (raw_html t s.place ends) (subst (λ x. MayEnd t s.place (raw_html t s.place x)) k (html_ends t s.place short w))
  where
    by : (o : Option ℕ) → MayEnd t s.place o → Goes t s.place (tagged_to t s o)
    by None e = stays t s h
    by (Some end) e = html_goes t end s e b a h

mailed_goes : (t : List ℕ) (ends : LastEnds) (s : State) → length t < 2 ^ 64 - 1 → s.place < length t → last_ends t ≡ ends → (byte_at t s.place ≡ 32 → ⊥) → byte_at t s.place < 128 → Stands t s.place s → Goes t s.place (mailed t ends s)
unfolding mailed
mailed_goes t ends s short w k b a h = by (mail_end t s.place) (mail_closed t s.place short w)
  where
    by : (o : Option ℕ) → Closed t s.place o → Goes t s.place (mailed_to t ends s o)
    by None c = tagged_goes t ends s short w k b a h
    by (Some end) c = addressed_goes t Email end s b a c h

angled_goes : (t : List ℕ) (ends : LastEnds) (s : State) → length t < 2 ^ 64 - 1 → s.place < length t → last_ends t ≡ ends → (byte_at t s.place ≡ 32 → ⊥) → byte_at t s.place < 128 → Stands t s.place s → Goes t s.place (angled t ends s)
unfolding angled
angled_goes t ends s short w k b a h = by (uri_end t s.place) (uri_closed t s.place short w)
  where
    by : (o : Option ℕ) → Closed t s.place o → Goes t s.place (angled_to t ends s o)
    by None c = mailed_goes t ends s short w k b a h
    by (Some end) c = addressed_goes t Autolink end s b a c h

ended_goes : (t : List ℕ) (s : State) → length t < 2 ^ 64 - 1 → s.place < length t → s.resume ≤ s.place → byte_at t s.place ≡ 10 → Stands t s.place s → Goes t s.place (line_ended t s)
unfolding line_ended
ended_goes t s short w r b h = by (nat_le 2 (s.place - first)) refl
  where
    p : ℕ
    p = s.place

    first : ℕ
    first = iterated (before_space t) (length t) p

    spaces : Spaces t first p
    spaces = spaces_before t (length t) p p (omega arith, λ x l m. absurd (omega arith))

    one : ℕ
    one = plus p 1

    next : suc p ≡ one
    next = omega arith

    at_first : s.place - first < 2 → Neutral s.roles first
    at_first l = cases (nat_lt first p) refl
      where
        before : first ≤ p
        before = spaces.0

        cases : (k : Bool) → nat_lt first p ≡ k → Neutral s.roles first
        cases true e = let m : first < p = grind (arith, nat_tests) in let q : p ≡ suc first = omega arith in h.white first ((spaces.1) first (omega arith) m) (ap (byte_at t) (sym q) ∙ b)
        cases false e = let m : p ≤ first = grind (arith, nat_tests) in h.calm first m

    ended : (x : ℕ) → x < one → Ended t x one
    ended x l = let q : p ≡ one - 1 = omega arith in record { after = l; within = omega arith; closes = subst (λ y. byte_at t y < 128) q (omega (arith, b)) }

    first_ascii : byte_at t first < 128
    first_ascii = cases (nat_lt first p) refl
      where
        cases : (k : Bool) → nat_lt first p ≡ k → byte_at t first < 128
        cases true e = let m : first < p = grind (arith, nat_tests) in let q : byte_at t first ≡ 32 = (spaces.1) first (omega arith) m in omega arith
        cases false e = let m : p ≤ first = grind (arith, nat_tests) in let l : first ≤ p = spaces.0 in let q : p ≡ first = omega arith in subst (λ x. byte_at t x < 128) q (omega (arith, b))

    soft : s.place - first < 2 → Fine t (max (suc p) one) (slice_set (slice_set s.roles first Hidden) p (Single SoftBreak one)) s.runs s.brackets
    soft l = single_put t (slice_set s.roles first Hidden) s.runs s.brackets p SoftBreak one (not_white t p 10 b refl) (omega (arith, b), ended p (omega arith)) (neutral_put t p s.roles s.runs s.brackets first Hidden (at_first l) refl first_ascii h)

    hard : 2 ≤ s.place - first → Fine t (suc p) (slice_set s.roles first (Single HardBreak one)) s.runs s.brackets
    hard l = subst (λ n. Fine t (suc p) (slice_set s.roles first (Single HardBreak n)) s.runs s.brackets) next (break_put t s.roles s.runs s.brackets first p HardBreak (omega arith) (spaces.1) (subst (Ended t first) (sym next) (ended first (omega arith))) h)

    by : (k : Bool) → nat_le 2 (s.place - first) ≡ k → Goes t p (if k then record s { roles = slice_set s.roles first (Single HardBreak one) } else record s { roles = slice_set (slice_set s.roles first Hidden) s.place (Single SoftBreak one) })
    by true e = let l : 2 ≤ s.place - first = grind (arith, nat_tests) in (refl, fine_more t (suc p) (max (suc p) s.resume) (slice_set s.roles first (Single HardBreak one)) s.runs s.brackets (omega arith) (hard l))
    by false e = let l : s.place - first < 2 = grind (arith, nat_tests) in (refl, fine_more t (max (suc p) one) (max (suc p) s.resume) (slice_set (slice_set s.roles first Hidden) p (Single SoftBreak one)) s.runs s.brackets (omega arith) (soft l))

-- a run of delimiters
taken_goes : (t : List ℕ) (b : ℕ) (s : State) → length t < 2 ^ 64 - 1 → s.place < length t → is_run b ≡ true → Stands t s.place s → Goes t s.place (run_taken t b s)
unfolding run_taken run_kept run_at run_between is_in
taken_goes t b s short w k h = by (r.opens || r.closes)
  where
    p : ℕ
    p = s.place

    r : Run
    r = run_at t p b

    end : ℕ
    end = run_end t p (Only b)

    climbs : p ≤ end
    climbs = run_climbs t p (Only b) (omega arith)

    within : end ≤ length t
    within = run_within t p (Only b) (omega arith)

    sum : p + (end - p) ≡ end
    sum = omega (arith, climbs)

    cells : (x : ℕ) → p ≤ x → x < p + (end - p) → Good t s.roles is_run x
    cells x l m = (h.open_ x l, h.calm x l, by_byte (run_has t p (Only b) x l (omega (arith, sum))), h.level x l)
      where
        by_byte : (byte_at t x == b) ≡ true → is_run (byte_at t x) ≡ true
        by_byte e = let q : byte_at t x ≡ b = grind (arith, nat_tests) in ap is_run q ∙ k

    front : ℕ
    front = max (suc p) (plus p (end - p))

    more : Fine t front s.roles s.runs s.brackets
    more = fine_more t p front s.roles s.runs s.brackets (omega arith) h

    with : Fine t front s.roles (s.runs ++ r ∷ []) s.brackets
    with = record { safe = more.safe; nested = more.nested; size = more.size; level = more.level; flat = more.flat; marked = more.marked; parted = parted_run p s.runs s.brackets r (omega arith) (λ k x e. (h.brackets.good k x e).1) h.parted; calm = more.calm; open_ = more.open_; white = more.white; runs = runs_more t s.roles p front 0 s.runs r (omega arith) (omega arith) (omega arith) cells (omega (arith, sum, within)) (omega (arith, sum, within)) h.runs; brackets = more.brackets }

    by : (x : Bool) → Goes t p (if x then record s { resume = plus p (end - p); runs = s.runs ++ r ∷ [] } else record s { resume = plus p (end - p) })
    by true = (refl, with)
    by false = (refl, more)

-- opening brackets
marked_brackets : (t : List ℕ) (f : ℕ) (s : State) → Stands t f s → Stands t f (marked s) × ((marked s).place ≡ s.place)
unfolding marked
marked_brackets t f s h = by (slice_get s.brackets (length s.brackets - 1)) refl
  where
    set : (bs : List Bracket) (i : ℕ) (b : Bracket) (k : ℕ) (d : Bracket) → slice_get bs i ≡ Some b → slice_get (slice_set bs i (record b { nested = true })) k ≡ Some d → (c : Bracket) × (slice_get bs k ≡ Some c) × (c.start ≡ d.start) × (c.inner ≡ d.inner) × (c.runs ≡ d.runs)
    set [] i b k d e g = absurd cc
    set (x ∷ xs) zero b zero d e g = let q : record b { nested = true } ≡ d = cc in (b, e, ap (λ (y : Bracket). y.start) q, ap (λ (y : Bracket). y.inner) q, ap (λ (y : Bracket). y.runs) q)
    set (x ∷ xs) zero b (suc k) d e g = (d, g, refl, refl, refl)
    set (x ∷ xs) (suc i) b zero d e g = (d, g, refl, refl, refl)
    set (x ∷ xs) (suc i) b (suc k) d e g = set xs i b k d e g

    good : (c d : Bracket) → c.start ≡ d.start → c.inner ≡ d.inner → Opening t s.roles f c → Opening t s.roles f d
    good c d p q (l, m, u, v) = (omega arith, omega arith, subst (Good t s.roles is_bracket) p u, subst (λ x. Good t s.roles is_bracket (x - 1)) q v)

    parts : (b : Bracket) → slice_get s.brackets (length s.brackets - 1) ≡ Some b → AllParted s.runs (slice_set s.brackets (length s.brackets - 1) (record b { nested = true }))
    parts b e = record { parts = λ k d g. one k d (set s.brackets (length s.brackets - 1) b k d e g); few = λ k d g. few k d (set s.brackets (length s.brackets - 1) b k d e g); rise = λ k l c d m g q. rise k l c d m (set s.brackets (length s.brackets - 1) b k c e g) (set s.brackets (length s.brackets - 1) b l d e q) }
      where
        one : (k : ℕ) (d : Bracket) → (c : Bracket) × (slice_get s.brackets k ≡ Some c) × (c.start ≡ d.start) × (c.inner ≡ d.inner) × (c.runs ≡ d.runs) → Parted s.runs d
        one k d (c, g, p, q, r) j x i = let w : (c.runs ≤ j → c.inner ≤ x.place) × (j < c.runs → x.place + x.count ≤ c.start) = h.parted.parts k c g j x i in (λ m. let v : c.inner ≤ x.place = (w.0) (omega arith) in omega arith, λ m. let v : x.place + x.count ≤ c.start = (w.1) (omega arith) in omega arith)

        few : (k : ℕ) (d : Bracket) → (c : Bracket) × (slice_get s.brackets k ≡ Some c) × (c.start ≡ d.start) × (c.inner ≡ d.inner) × (c.runs ≡ d.runs) → d.runs ≤ length s.runs
        few k d (c, g, p, q, r) = let w : c.runs ≤ length s.runs = h.parted.few k c g in omega arith

        rise : (k l : ℕ) (c d : Bracket) → k < l → (x : Bracket) × (slice_get s.brackets k ≡ Some x) × (x.start ≡ c.start) × (x.inner ≡ c.inner) × (x.runs ≡ c.runs) → (y : Bracket) × (slice_get s.brackets l ≡ Some y) × (y.start ≡ d.start) × (y.inner ≡ d.inner) × (y.runs ≡ d.runs) → c.runs ≤ d.runs
        rise k l c d m (x, g, p, q, r) (y, i, v, w, z) = let o : x.runs ≤ y.runs = h.parted.rise k l x y m g i in omega arith

    changed : (b : Bracket) → slice_get s.brackets (length s.brackets - 1) ≡ Some b → Brackets t s.roles f (slice_set s.brackets (length s.brackets - 1) (record b { nested = true }))
    changed b e = record { good = λ k d g. one k d (set s.brackets (length s.brackets - 1) b k d e g); order = λ k l c d m g q. two k l c d m (set s.brackets (length s.brackets - 1) b k c e g) (set s.brackets (length s.brackets - 1) b l d e q) }
      where
        one : (k : ℕ) (d : Bracket) → (c : Bracket) × (slice_get s.brackets k ≡ Some c) × (c.start ≡ d.start) × (c.inner ≡ d.inner) × (c.runs ≡ d.runs) → Opening t s.roles f d
        one k d (c, g, p, q, r) = good c d p q (h.brackets.good k c g)

        two : (k l : ℕ) (c d : Bracket) → k < l → (x : Bracket) × (slice_get s.brackets k ≡ Some x) × (x.start ≡ c.start) × (x.inner ≡ c.inner) × (x.runs ≡ c.runs) → (y : Bracket) × (slice_get s.brackets l ≡ Some y) × (y.start ≡ d.start) × (y.inner ≡ d.inner) × (y.runs ≡ d.runs) → c.inner ≤ d.start
        two k l c d m (x, g, p, q, r) (y, i, v, w, z) = let o : x.inner ≤ y.start = h.brackets.order k l x y m g i in omega arith

    by : (o : Option Bracket) → slice_get s.brackets (length s.brackets - 1) ≡ o → Stands t f (marked_last s o) × ((marked_last s o).place ≡ s.place)
    by None e = (h, refl)
    by (Some b) e = (record { safe = h.safe; nested = h.nested; size = h.size; level = h.level; flat = h.flat; marked = h.marked; parted = parts b e; calm = h.calm; open_ = h.open_; white = h.white; runs = h.runs; brackets = changed b e }, refl)

opened_goes : (t : List ℕ) (image : Bool) (width : ℕ) (s : State) → length t < 2 ^ 64 - 1 → s.place < length t → (width ≡ 1) ⊎ (width ≡ 2) → is_bracket (byte_at t s.place) ≡ true → is_bracket (byte_at t (s.place + (width - 1))) ≡ true → Stands t s.place s → Goes t s.place (opened image width s)
unfolding opened
opened_goes t image width s short w size b c h = by (marked s) (marked_brackets t s.place s h)
  where
    by : (u : State) → Stands t s.place u × (u.place ≡ s.place) → Goes t s.place (record u { brackets = u.brackets ++ record { start = u.place; inner = plus u.place width; runs = length u.runs; image = image; nested = false } ∷ []; resume = plus u.place width })
    by u (k, e) = (e, record { safe = more.safe; nested = more.nested; size = more.size; level = more.level; flat = more.flat; marked = more.marked; parted = parted_bracket t u.roles s.place u.runs u.brackets new (omega arith) refl k.runs k.parted; calm = more.calm; open_ = more.open_; white = more.white; runs = more.runs; brackets = brackets_more t u.roles s.place front u.brackets new (omega arith) (omega arith) (widths size) k.brackets })
      where
        front : ℕ
        front = max (suc s.place) (plus u.place width)

        more : Fine t front u.roles u.runs u.brackets
        more = fine_more t s.place front u.roles u.runs u.brackets (omega arith) k

        new : Bracket
        new = record { start = u.place; inner = plus u.place width; runs = length u.runs; image = image; nested = false }

        start : Good t u.roles is_bracket u.place
        start = (k.open_ u.place (omega arith), k.calm u.place (omega arith), subst (λ x. is_bracket (byte_at t x) ≡ true) (sym e) b, k.level u.place (omega arith))

        inner : plus u.place width - 1 ≡ s.place + (width - 1) → Good t u.roles is_bracket (plus u.place width - 1)
        inner q = (k.open_ (plus u.place width - 1) (omega arith), k.calm (plus u.place width - 1) (omega arith), subst (λ x. is_bracket (byte_at t x) ≡ true) (sym q) c, k.level (plus u.place width - 1) (omega arith))

        widths : (width ≡ 1) ⊎ (width ≡ 2) → Opening t u.roles front new
        widths (inl q) = (omega arith, omega arith, start, inner (omega arith))
        widths (inr q) = (omega arith, omega arith, start, inner (omega arith))

imaged_goes : (t : List ℕ) (s : State) → length t < 2 ^ 64 - 1 → s.place < length t → byte_at t s.place ≡ 33 → Stands t s.place s → Goes t s.place (imaged t s)
unfolding imaged
imaged_goes t s short w b h = by (starts_at t s.place (codes "![")) refl
  where
    by : (k : Bool) → starts_at t s.place (codes "![") ≡ k → Goes t s.place (if k then opened true 2 s else s)
    by true e = opened_goes t true 2 s short w (inr refl) (ap is_bracket b) (ap is_bracket (image_bracket t s.place e)) h
    by false e = stays t s h

-- what is known of the bracket that is closed: the runs and the brackets before it
abbrev Below : List ℕ → State → Bracket → Type 0
Below t s b = Parted s.runs b × (b.runs ≤ length s.runs) × Counted b.runs s.brackets × Brackets t s.roles b.start s.brackets

-- a bracket that closes
linked_goes : (t : List ℕ) (b : Bracket) (x : Target) (end : ℕ) (s : State) → length t < 2 ^ 64 - 1 → byte_at t s.place ≡ 93 → Ended t s.place end → Opening t s.roles s.place b → Below t s b → Stands t s.place s → Goes t s.place (linked b x end s)
unfolding linked spanned targeted settled
linked_goes t b x end s short z far o below h = by (not b.image)
  where
    number : ℕ
    number = length s.targets

    tag : Span
    tag = if b.image then Image number else Link number

    v : State
    v = spanned b number end ((targeted x (settled b.runs s)).0)

    whole : Goes t s.place v
    whole = (refl, span_put t s.roles s.runs s.brackets b s.place tag end short z far o (below.0) (below.1) (below.2) (below.3) h)

    by : (k : Bool) → Goes t s.place (if k then record v { inactive = length v.brackets } else v)
    by true = whole
    by false = whole

inline_goes : (t : List ℕ) (b : Bracket) (found : InlineTarget) (s : State) → length t < 2 ^ 64 - 1 → byte_at t s.place ≡ 93 → Ended t s.place found.end → Opening t s.roles s.place b → Below t s b → Stands t s.place s → Goes t s.place (closed_inline_in Four t b found s)
unfolding closed_inline_in kept_resolved_in kept
inline_goes t b found s short z far o below h = linked_goes t b _ found.end _ short z far o below h

looked_up_goes : (t : List ℕ) (definitions : List ℕ → Option Entry) (b : Bracket) (asked : Asked) (s : State) → length t < 2 ^ 64 - 1 → byte_at t s.place ≡ 93 → Ended t s.place asked.end → Opening t s.roles s.place b → Below t s b → Stands t s.place s → Goes t s.place (looked_up t definitions b asked s)
unfolding looked_up missing kept
looked_up_goes t definitions b asked s short z far o below h = by (definitions (key_of label))
  where
    label : List ℕ
    label = bytes_between t asked.label.start asked.label.end

    by : (x : Option Entry) → Goes t s.place (looked_up_as label b asked s x)
    by None = stays t s h
    by (Some e) = linked_goes t b _ asked.end ((kept label s).0) short z far o below h

labelled_goes : (t : List ℕ) (definitions : List ℕ → Option Entry) (b : Bracket) (s : State) → length t < 2 ^ 64 - 1 → byte_at t s.place ≡ 93 → Opening t s.roles s.place b → Below t s b → Stands t s.place s → Goes t s.place (closed_by_label t definitions b s)
unfolding closed_by_label
labelled_goes t definitions b s short z o below h = by (label_asked t b s.place) (asked_ends t b s.place short (byte_within t s.place 93 z refl) z)
  where
    by : (x : Option Asked) → AskedEnds t s.place x → Goes t s.place (closed_asked t definitions b s x)
    by None e = stays t s h
    by (Some asked) e = looked_up_goes t definitions b asked s short z e o below h

active_goes : (t : List ℕ) (definitions : List ℕ → Option Entry) (b : Bracket) (s : State) → length t < 2 ^ 64 - 1 → byte_at t s.place ≡ 93 → Opening t s.roles s.place b → Below t s b → Stands t s.place s → Goes t s.place (closed_active_in Four false t definitions b s)
unfolding closed_active_in
active_goes t definitions b s short z o below h = by (inline_target t (plus s.place 1)) (inline_ends t (plus s.place 1) short (omega arith))
  where
    within : s.place < length t
    within = byte_within t s.place 93 z refl

    by : (x : Option InlineTarget) → MayEndInline t (plus s.place 1) x → Goes t s.place (closed_found_in Four false t definitions b s x)
    by None e = labelled_goes t definitions b s short z o below h
    by (Some found) e = inline_goes t b found s short z (let l : plus s.place 1 < found.end = e.after in record { after = omega (arith, within); within = e.within; closes = e.closes }) o below h

closed_goes : (t : List ℕ) (definitions : List ℕ → Option Entry) (s : State) → length t < 2 ^ 64 - 1 → byte_at t s.place ≡ 93 → Stands t s.place s → Goes t s.place (closed_in Four false t definitions s)
unfolding closed_in popped
closed_goes t definitions s short z h = by (slice_get s.brackets (length s.brackets - 1)) refl
  where
    height : ℕ
    height = length s.brackets - 1

    u : State
    u = record s { brackets = take height s.brackets; inactive = min s.inactive height }

    fewer : Stands t s.place u
    fewer = record { safe = h.safe; nested = h.nested; size = h.size; level = h.level; flat = h.flat; marked = h.marked; parted = parted_fewer s.runs height s.brackets h.parted; calm = h.calm; open_ = h.open_; white = h.white; runs = h.runs; brackets = brackets_fewer t s.roles s.place height s.brackets h.brackets }

    active : (b : Bracket) → slice_get s.brackets height ≡ Some b → (k : Bool) → Goes t s.place (if k then closed_active_in Four false t definitions b u else u)
    active b e true = active_goes t definitions b u short z (h.brackets.good height b e) (h.parted.parts height b e, h.parted.few height b e, counted_below s.runs height s.brackets b e h.parted, brackets_below t s.roles s.place height s.brackets b e h.brackets) fewer
    active b e false = stays t u fewer

    by : (x : Option Bracket) → slice_get s.brackets height ≡ x → Goes t s.place (closed_last_in Four false t definitions s x)
    by None e = stays t s h
    by (Some b) e = active b e (b.image || nat_le s.inactive height)

mark_goes : (t ticks : List ℕ) (b : ℕ) (s : State) → ticks ≡ ticks_of t → length t < 2 ^ 64 - 1 → s.place < length t → s.resume ≤ s.place → byte_at t s.place ≡ b → Stands t s.place s → Goes t s.place (looked_mark t ticks b s)
unfolding looked_mark
mark_goes t ticks b s known short w r e h = by (b == 92) (b == 38) (b == 10) (b == 96) ((b == 42) || (b == 95)) refl refl refl refl refl
  where
    plain : (c : ℕ) → b ≡ c → (c == 32) ≡ false → byte_at t s.place ≡ 32 → ⊥
    plain c q n = not_white t s.place c (e ∙ q) n

    by : (backslash ampersand feed tick run : Bool) → (b == 92) ≡ backslash → (b == 38) ≡ ampersand → (b == 10) ≡ feed → (b == 96) ≡ tick → ((b == 42) || (b == 95)) ≡ run
        → Goes t s.place (if backslash then escaped t s else (if ampersand then referred t s else (if feed then line_ended t s else (if tick then coded t ticks s else (if run then run_taken t b s else s)))))
    by true ampersand feed tick run p q f k i = let z : b ≡ 92 = grind (arith, nat_tests) in escaped_goes t s short w (plain 92 z refl) (omega (arith, e)) h
    by false true feed tick run p q f k i = let z : b ≡ 38 = grind (arith, nat_tests) in referred_goes t s short w (plain 38 z refl) (omega (arith, e)) h
    by false false true tick run p q f k i = let z : b ≡ 10 = grind (arith, nat_tests) in ended_goes t s short w r (e ∙ z) h
    by false false false true run p q f k i = let z : b ≡ 96 = grind (arith, nat_tests) in coded_goes t ticks s short w (ticks_known t s.place w (e ∙ z) ∙ sym known) (plain 96 z refl) (omega (arith, e)) h
    by false false false false true p q f k i = taken_goes t b s short w i h
    by false false false false false p q f k i = stays t s h

-- what is known before the pass: runs of backticks, and the last ends of raw HTML
abbrev Foreseen : List ℕ → Known → Type 0
Foreseen t ahead = (ahead.ticks ≡ ticks_of t) × (ahead.ends ≡ ends_of t)

looked_goes : (t : List ℕ) (ahead : Known) (definitions : List ℕ → Option Entry) (b : ℕ) (s : State) → Foreseen t ahead → length t < 2 ^ 64 - 1 → s.place < length t → s.resume ≤ s.place → byte_at t s.place ≡ b → Stands t s.place s → Goes t s.place (looked t ahead definitions b s)
unfolding looked
looked_goes t ahead definitions b s known short w r e h = by (b == 91) (b == 33) (b == 93) (b == 60) refl refl refl refl
  where
    by : (opening image closing angle : Bool) → (b == 91) ≡ opening → (b == 33) ≡ image → (b == 93) ≡ closing → (b == 60) ≡ angle
        → Goes t s.place (if opening then opened false 1 s else (if image then imaged t s else (if closing then closed_in Four false t definitions s else (if angle then angled t ahead.ends s else looked_mark t ahead.ticks b s))))
    by true image closing angle p q c a = let z : b ≡ 91 = grind (arith, nat_tests) in opened_goes t false 1 s short w (inl refl) (ap is_bracket (e ∙ z)) (let y : s.place + (1 - 1) ≡ s.place = omega arith in ap (λ x. is_bracket (byte_at t x)) y ∙ ap is_bracket (e ∙ z)) h
    by false true closing angle p q c a = let z : b ≡ 33 = grind (arith, nat_tests) in imaged_goes t s short w (e ∙ z) h
    by false false true angle p q c a = let z : b ≡ 93 = grind (arith, nat_tests) in closed_goes t definitions s short (e ∙ z) h
    by false false false true p q c a = let z : b ≡ 60 = grind (arith, nat_tests) in angled_goes t ahead.ends s short w (ends_known t s.place w (e ∙ z) ∙ sym (known.1)) (not_white t s.place 60 (e ∙ z) refl) (omega (arith, e)) h
    by false false false false p q c a = mark_goes t ahead.ticks b s (known.0) short w r e h

-- the pass at a place
abbrev pub At : List ℕ → ℕ → State → Type 0
At t p s = (s.place ≡ p) × Stands t (max p s.resume) s

step_goes : (t : List ℕ) (ahead : Known) (definitions : List ℕ → Option Entry) (p : ℕ) (s : State) (b : ℕ) → Foreseen t ahead → length t < 2 ^ 64 - 1 → p < length t → byte_at t p ≡ b → At t p s → At t (suc p) (scan_step_in CORE t ahead definitions s b)
unfolding scan_step_in looked_in is_tilde_in is_caret_in is_dollar_in is_note_end_in
step_goes t ahead definitions p s b known short w e (q, h) = by (is_mark_in CORE b) (nat_le s.resume s.place) refl
  where
    next : (u : State) → Goes t p u → (plus u.place 1 ≡ suc p) × Stands t (max (suc p) u.resume) u
    next u (x, k) = (omega arith, k)

    looks : s.resume ≤ s.place → Goes t p (looked t ahead definitions b s)
    looks r = subst (λ x. Goes t x (looked t ahead definitions b s)) q (looked_goes t ahead definitions b s known short (omega arith) r (ap (byte_at t) q ∙ e) (fine_more t (max p s.resume) s.place s.roles s.runs s.brackets (omega arith) h))

    by : (m k : Bool) → nat_le s.resume s.place ≡ k → At t (suc p) (record (if m && k then looked_in CORE t ahead definitions b s else s) { place = plus (if m && k then looked_in CORE t ahead definitions b s else s).place 1 })
    by true true r = next (looked t ahead definitions b s) (looks (let l : s.resume ≤ s.place = grind (arith, nat_tests) in l))
    by true false r = next s (q, fine_more t (max p s.resume) (max (suc p) s.resume) s.roles s.runs s.brackets (omega arith) h)
    by false k r = next s (q, fine_more t (max p s.resume) (max (suc p) s.resume) s.roles s.runs s.brackets (omega arith) h)

steps_go : (t : List ℕ) (ahead : Known) (definitions : List ℕ → Option Entry) (p : ℕ) (bs : List ℕ) (s : State) → Foreseen t ahead → length t < 2 ^ 64 - 1 → p + length bs ≤ length t → ((j b : ℕ) → slice_get bs j ≡ Some b → byte_at t (p + j) ≡ b) → At t p s → At t (p + length bs) (fold (scan_step_in CORE t ahead definitions) s bs)
steps_go t ahead definitions p [] s known short w e h = let n : p ≡ p + 0 = omega arith in subst (λ x. At t x s) n h
steps_go t ahead definitions p (b ∷ bs) s known short w e h = let n : suc p + length bs ≡ p + suc (length bs) = omega arith in subst (λ x. At t x (fold (scan_step_in CORE t ahead definitions) (scan_step_in CORE t ahead definitions s b) bs)) n
    (steps_go t ahead definitions (suc p) bs (scan_step_in CORE t ahead definitions s b) known short (omega arith) (λ j c g. let q : p + suc j ≡ suc p + j = omega arith in ap (byte_at t) (sym q) ∙ e (suc j) c g)
    (step_goes t ahead definitions p s b known short (omega arith) (let q : p + 0 ≡ p = omega arith in ap (byte_at t) (sym q) ∙ e 0 b refl) h))

-- bytes that have no role yet
abbrev pub AllPlain : List Role → Type 0
AllPlain xs = (x : ℕ) (r : Role) → slice_get xs x ≡ Some r → Plain ≡ r

-- the pass begins with such bytes
scanned_fine : (t : List ℕ) (definitions : List ℕ → Option Entry) (s : State) → length t < 2 ^ 64 - 1 → length s.roles ≡ length t → AllPlain s.roles → s.runs ≡ [] → s.brackets ≡ [] → s.place ≡ 0 → s.resume ≡ 0 → (f : ℕ) × Stands t f (ran_in CORE t (ahead_in CORE t) definitions s)
scanned_fine t definitions s short size plain rs bs p q = (max (0 + length t) last.resume, all.1)
  where
    n : (x : ℕ) → Neutral s.roles x
    n x r e = subst (λ y. is_neutral y ≡ true) (plain x r e) refl

    last : State
    last = fold (scan_step_in CORE t (ahead_in CORE t) definitions) s t

    first : At t 0 s
    first = (
      p,
      subst (λ xs. Fine t (max 0 s.resume) s.roles xs s.brackets) (sym rs) (subst (λ ys. Fine t (max 0 s.resume) s.roles [] ys) (sym bs) (record {
        safe = calm_safe 0 0 0 s.roles (λ x y l g. n x y g);
        nested = calm_nested 0 0 s.roles (λ x y l g. n x y g);
        size = size;
        level = λ x l. calm_level 0 0 s.roles x (λ y z m g. n y z g);
        flat = λ x r b e. neutral_flat r (n x r e);
        marked = λ x r e. subst (Mark t x) (plain x r e) tt;
        parted = record { parts = λ k b e. absurd cc; few = λ k b e. absurd cc; rise = λ k l b d m e. absurd cc };
        calm = λ x l. n x;
        open_ = λ x l. calm_read 0 0 s.roles x (λ y z m g. n y z g) (omega arith);
        white = λ x a b. n x;
        runs = tt;
        brackets = record { good = λ k b e. absurd cc; order = λ k i b d l e. absurd cc };
      })),
    )

    all : At t (0 + length t) last
    all = steps_go t (ahead_in CORE t) definitions 0 t s (refl, refl) short (omega arith) (λ j b e. let z : 0 + j ≡ j = omega arith in ap (byte_at t) z ∙ got j b e) first
      where
        got : (j b : ℕ) → slice_get t j ≡ Some b → byte_at t j ≡ b
        got j b e = ap (λ o. unwrap_or o 10) e

pub scanned_safe : (t : List ℕ) (definitions : List ℕ → Option Entry) (s : State) → length t < 2 ^ 64 - 1 → length s.roles ≡ length t → AllPlain s.roles → s.runs ≡ [] → s.brackets ≡ [] → s.place ≡ 0 → s.resume ≡ 0 → Safe 0 0 0 (scanned_in CORE t definitions s).roles
unfolding scanned_in settled
scanned_safe t definitions s short size n rs bs p q = by (scanned_fine t definitions s short size n rs bs p q)
  where
    last : State
    last = ran_in CORE t (ahead_in CORE t) definitions s

    by : (f : ℕ) × Stands t f last → Safe 0 0 0 (emphasized last.roles last.runs)
    by (f, h) = settled_safe t f last.roles last.runs last.brackets short h

-- containers nest in the roles of a leaf's text
pub scanned_nested : (t : List ℕ) (definitions : List ℕ → Option Entry) (s : State) → length t < 2 ^ 64 - 1 → length s.roles ≡ length t → AllPlain s.roles → s.runs ≡ [] → s.brackets ≡ [] → s.place ≡ 0 → s.resume ≡ 0 → Nested 0 0 [] (scanned_in CORE t definitions s).roles
unfolding scanned_in settled
scanned_nested t definitions s short size n rs bs p q = by (scanned_fine t definitions s short size n rs bs p q)
  where
    last : State
    last = ran_in CORE t (ahead_in CORE t) definitions s

    by : (f : ℕ) × Stands t f last → Nested 0 0 [] (emphasized last.roles last.runs)
    by (f, h) = settled_nested t f last.roles last.runs last.brackets short h

-- each mark begins with a byte of ASCII, and each container ends after one
pub scanned_marked : (t : List ℕ) (definitions : List ℕ → Option Entry) (s : State) → length t < 2 ^ 64 - 1 → length s.roles ≡ length t → AllPlain s.roles → s.runs ≡ [] → s.brackets ≡ [] → s.place ≡ 0 → s.resume ≡ 0 → Marked (Mark t) (scanned_in CORE t definitions s).roles
unfolding scanned_in settled
scanned_marked t definitions s short size n rs bs p q = by (scanned_fine t definitions s short size n rs bs p q)
  where
    last : State
    last = ran_in CORE t (ahead_in CORE t) definitions s

    by : (f : ℕ) × Stands t f last → Marked (Mark t) (emphasized last.roles last.runs)
    by (f, h) = settled_marked t f last.roles last.runs last.brackets short h
