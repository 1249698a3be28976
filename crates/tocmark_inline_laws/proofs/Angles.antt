-- Autolinks and raw HTML of a content.
use Rattle.std.proofs.Common.{◌≡◌, ℕ, suc, ◌+◌, ◌-◌, ◌^◌, ◌<◌, ◌≤◌, Bool, true, false, ◌==◌, nat_lt, if◌then◌else◌, List, [], ◌∷◌, ◌++◌, length, drop, replicate, refl, ap, sym, ◌∙◌, arith, append_assoc, append-nil, length-append}
use Rattle.std.proofs.lemmas.Bool.Decides.{nat_tests}
use Rattle.std.proofs.lemmas.List.{length-replicate}
use Rattle.std.proofs.lemmas.List.Sums.{fold-append}
use Rattle.std.specs.Prelude.{Option, Some, None, slice_get, slice_set, unwrap_or}
use Rattle.std.specs.List.{fold}
use Rattle.tocmark_event.specs.View as view
use Rattle.tocmark_event.specs.View.{TagView, Start, Leaf}
use Rattle.tocmark_event.specs.declared.event.LinkType.{LinkType}
use Rattle.tocmark_event.specs.declared.event.LinkType.TheVariants.{Autolink, Email}
use Rattle.tocmark_event.specs.declared.event.LinkType.TheVariants as link
use Rattle.tocmark_read_scan.specs.Basic.{plus, byte_at, bytes_between}
use Rattle.tocmark_read_tokens.specs.Autolink.{uri_end, mail_end}
use Rattle.tocmark_read_tokens.specs.Html.{last_ends, raw_html}
use Rattle.tocmark_read_tokens.specs.declared.html.LastEnds.{LastEnds}
use Rattle.tocmark_read_inlines.specs.Scan.{State, Known, is_mark, put_leaf, kept, targeted, address_target, addressed, html_put, tagged, tagged_to, mailed, mailed_to, angled, angled_to, looked, looked_all, next_place, ends_of, stretch}
use Rattle.tocmark_read_spans.specs.declared.definitions.Entry.{Entry}
use Rattle.tocmark_read_spans.specs.declared.role.Leaf.TheVariants as leaf
use Rattle.tocmark_read_spans.specs.declared.role.Role.{Role}
use Rattle.tocmark_read_spans.specs.declared.role.Role.TheVariants as role
use Rattle.tocmark_read_spans.specs.declared.role.Span.TheVariants as span
use Rattle.tocmark_read_spans.specs.declared.role.Target.{Target}
use Rattle.tocmark_commonmark.specs.InlineTree.{RawHtml, Atom}
use Rattle.tocmark_commonmark.specs.Tokens.{token, html_end, autolink, angle}
use Rattle.tocmark_inline_laws.specs.Said.{Piece, letters, words, nowhere, tag_said}
use Rattle.tocmark_inline_laws.proofs.Ampersands.{kept_words}
use Rattle.tocmark_inline_laws.proofs.Atoms.{with_more, flow_at, Shows}
use Rattle.tocmark_inline_laws.proofs.Flow.{Flow, Beside, flow_step}
use Rattle.tocmark_inline_laws.proofs.Passes.{step_look}
use Rattle.tocmark_inline_laws.proofs.Phases.{Passes, passes_by}
use Rattle.tocmark_inline_laws.proofs.Places.{set_here, plain_split, clean_after, any_byte, past_end}
use Rattle.tocmark_inline_laws.proofs.Plains.{plains_flow}
use Rattle.tocmark_inline_laws.proofs.Sim.{beside, Clean, Sim, Goes, goes_by}
use Rattle.tocmark_inline_laws.proofs.Stretches.{between_none, cut, cut_length}
use Rattle.tocmark_inline_laws.proofs.TagEnds.{Angled, uri_angled, mail_angled, html_angled, raw_so}
use Rattle.tocmark_inline_laws.proofs.Tokens.{byte_passes, byte_goes, leaf_goes}

-- places of what ends with a closing angle bracket
record Ended (bytes : List ℕ) (p end : ℕ) : Type 0 where
  at : ℕ
  end_is : end ≡ suc at
  behind : p < at
  within : end ≤ length bytes
  clean : Clean bytes end
  passes : Passes bytes p end

ends_well : (bytes : List ℕ) (p end : ℕ) → length bytes + 2 < 2 ^ 64 → Angled bytes p end → Ended bytes p end
ends_well bytes p end fits c = record {
  at = c.at;
  end_is = is;
  behind = c.behind;
  within = omega (arith, is, inner);
  clean = clean_after bytes c.at end is (ap (λ x. x == 32) c.bracket);
  passes = passes_by bytes p end c.at (omega arith) is (let b : p < c.at = c.behind in omega arith) inner (ap (λ x. x == 92) c.bracket);
}
  where
    inner : c.at < length bytes
    inner = by (nat_lt c.at (length bytes)) refl
      where
        by : (z : Bool) → nat_lt c.at (length bytes) ≡ z → c.at < length bytes
        by true e = grind (arith, nat_tests, e)
        by false e = absurd (let k : 62 ≡ 10 = sym c.bracket ∙ past_end bytes c.at (let l : length bytes ≤ c.at = grind (arith, nat_tests, e) in l) in omega (arith, k))

    is : end ≡ suc c.at
    is = let k : end ≡ plus c.at 1 = c.end_is in omega (arith, k, inner)

-- the last element
got_last : {A : Type 0} (xs ys : List A) (y : A) → slice_get (xs ++ y ∷ ys) (length xs) ≡ Some y
got_last [] ys y = refl
got_last (x ∷ xs) ys y = got_last xs ys y

-- what an address leads to
abbrev target_of : LinkType → List ℕ → List ℕ → Target
target_of k texts text = address_target k (stretch (length texts) (length (texts ++ text)))

-- an address that is kept leads to itself
address_said : (k : LinkType) (texts text more : List ℕ) (targets further : List Target) → tag_said (texts ++ text ++ more) ((targets ++ target_of k texts text ∷ []) ++ further) (span.Link (length targets)) ≡ view.Link k text [] []
address_said k texts text more targets further =
    ap (λ o. tag_of (unwrap_or o (record { link_type = link.Inline; destination = nowhere; title = nowhere; id = nowhere }))) (ap (λ ts. slice_get ts (length targets)) (append_assoc targets (target_of k texts text ∷ []) further) ∙ got_last targets further (target_of k texts text))
    ∙ ap (λ w. view.Link k w (words (texts ++ text ++ more) nowhere) (words (texts ++ text ++ more) nowhere)) (kept_words texts text more)
    ∙ ap (λ w. view.Link k text w w) (between_none (texts ++ text ++ more) 0 (omega arith))
  where
    tag_of : Target → TagView
    tag_of t = view.Link t.link_type (words (texts ++ text ++ more) t.destination) (words (texts ++ text ++ more) t.title) (words (texts ++ text ++ more) t.id)

-- the roles of an address between its brackets
abbrev address_roles : ℕ → ℕ → ℕ → List Role
address_roles number end count = role.Open (span.Link number) end ∷ (replicate count role.Plain ++ role.Close end ∷ [])

address_shows : (e : Beside) (p number end : ℕ) (k : LinkType) (xs rest : List ℕ) → drop (suc p) e.bytes ≡ xs ++ rest → end ≡ suc (suc p + length xs) → ((ts : List ℕ) (gs : List Target) → tag_said (e.texts ++ ts) (e.targets ++ gs) (span.Link number) ≡ view.Link k xs [] []) → Shows e p (address_roles number end (length xs)) (autolink k xs)
unfolding flow_step
address_shows e p number end k xs rest text far says ts gs depth out =
    ap (λ (t : TagView). fold (flow_step (with_more e ts gs)) (flow_at (suc depth) (suc p) (out ++ (depth, Start t) ∷ [])) (plain ++ role.Close end ∷ [])) (says ts gs)
    ∙ fold-append (flow_step (with_more e ts gs)) (flow_at (suc depth) (suc p) (out ++ tag ∷ [])) plain (role.Close end ∷ [])
    ∙ ap (λ (f : Flow). fold (flow_step (with_more e ts gs)) f (role.Close end ∷ [])) (plains_flow (with_more e ts gs) xs rest (suc p) (suc depth) (out ++ tag ∷ []) text)
    ∙ ap (λ d. closed d (end - suc (suc p + length xs)) said) (let z : suc depth - 1 ≡ depth = omega arith in z)
    ∙ ap (λ n. closed depth n said) (let z : end - suc (suc p + length xs) ≡ 0 = omega (arith, far) in z)
    ∙ ap (λ q. flow_at depth q said) place
    ∙ ap (λ ps. flow_at depth (p + length (address_roles number end (length xs))) ps) (append_assoc out (tag ∷ []) (letters (suc depth) xs) ∙ ap (λ ps. out ++ tag ∷ ps) (sym (append-nil (letters (suc depth) xs))))
  where
    plain : List Role
    plain = replicate (length xs) role.Plain

    tag : Piece
    tag = (depth, Start (view.Link k xs [] []))

    said : List Piece
    said = (out ++ tag ∷ []) ++ letters (suc depth) xs

    closed : ℕ → ℕ → List Piece → Flow
    closed d n ps = record { depth = d; place = suc (suc p + length xs); skip = n; out = ps }

    place : suc (suc p + length xs) ≡ p + length (address_roles number end (length xs))
    place = let l : length (plain ++ role.Close end ∷ []) ≡ length xs + 1 = length-append plain (role.Close end ∷ []) ∙ ap (λ n. n + 1) (length-replicate (length xs) role.Plain) in omega (arith, l)

-- an angle bracket
angle_looked : (bytes : List ℕ) (ahead : Known) (defs : List ℕ → Option Entry) (s : State) → looked_all bytes ahead defs 60 s ≡ angled_to bytes ahead.ends s (uri_end bytes s.place)
unfolding looked_all looked angled
angle_looked bytes ahead defs s = refl

mailed_so : (bytes : List ℕ) (ends : LastEnds) (s : State) → mailed bytes ends s ≡ mailed_to bytes ends s (mail_end bytes s.place)
unfolding mailed
mailed_so bytes ends s = refl

tagged_so : (bytes : List ℕ) (ends : LastEnds) (s : State) → tagged bytes ends s ≡ tagged_to bytes s (raw_html bytes s.place ends)
unfolding tagged
tagged_so bytes ends s = refl

put_so : (bytes : List ℕ) (end : ℕ) (s : State) → html_put bytes end s ≡ put_leaf (leaf.Html (stretch (length s.texts) (length (s.texts ++ bytes_between bytes s.place end)))) end (record s { texts = s.texts ++ bytes_between bytes s.place end })
unfolding html_put kept
put_so bytes end s = refl

addressed_so : (bytes : List ℕ) (k : LinkType) (end : ℕ) (s : State) → addressed bytes k end s ≡ record s {
  roles = slice_set (slice_set s.roles s.place (role.Open (span.Link (length s.targets)) end)) (end - 1) (role.Close end);
  resume = end;
  targets = s.targets ++ target_of k s.texts (bytes_between bytes (plus s.place 1) (end - 1)) ∷ [];
  texts = s.texts ++ bytes_between bytes (plus s.place 1) (end - 1);
}
unfolding addressed targeted kept
addressed_so bytes k end s = refl

angle_marks : is_mark 60 ≡ true
unfolding is_mark
angle_marks = refl

-- the ends of raw HTML are known, because there is a bracket
ends_known : (bytes : List ℕ) (p : ℕ) → p < length bytes → byte_at bytes p ≡ 60 → ends_of bytes ≡ last_ends bytes
unfolding ends_of
ends_known bytes p l h = ap (λ (z : Bool). if z then last_ends bytes else (record { comment = 0; instruction = 0; cdata = 0; declaration = 0 })) (any_byte (λ b. b == 60) bytes p l (ap (λ c. c == 60) h))

-- 6.5: an autolink
address_goes : (bytes : List ℕ) (ahead : Known) (defs : List ℕ → Option Entry) (p end : ℕ) (k : LinkType) (s : State) (done : List Atom) → Sim bytes p s done → p < length bytes → length bytes + 2 < 2 ^ 64 → byte_at bytes p ≡ 60 → Angled bytes p end → looked_all bytes ahead defs 60 s ≡ addressed bytes k end s → Goes bytes ahead defs p s done (token (autolink k (bytes_between bytes (p + 1) (end - 1))) end)
address_goes bytes ahead defs p end k s done a in_it fits is angled looked =
    goes_by bytes ahead defs p end 60 s t done (address_roles number end (length text)) (autolink k text) a
    (record {
      texts = text;
      targets = target_of k s.texts text ∷ [];
      roles = set;
      long = long;
      more_texts = refl;
      more_targets = refl;
      stands = address_shows (with_more (beside bytes s) text (target_of k s.texts text ∷ [])) p number end k text (drop (end - 1) bytes) cut_so (omega (arith, w.end_is, w.behind, size)) (λ ts gs. address_said k s.texts text ts s.targets gs);
      resume = omega arith;
      runs = refl;
    })
    w.clean w.passes refl refl (omega (arith, w.end_is, w.behind)) w.within (omega arith) is
    (step_look bytes ahead defs s 60 angle_marks (let q : s.resume ≤ p = a.resume in let r : s.place ≡ p = a.place in omega arith) ∙ ap next_place looked_so)
    a.place (omega (arith, w.end_is, w.behind))
  where
    w : Ended bytes p end
    w = ends_well bytes p end fits angled

    text : List ℕ
    text = bytes_between bytes (p + 1) (end - 1)

    number : ℕ
    number = length s.targets

    t : State
    t = record s {
      roles = slice_set (slice_set s.roles p (role.Open (span.Link number) end)) (end - 1) (role.Close end);
      resume = end;
      targets = s.targets ++ target_of k s.texts text ∷ [];
      texts = s.texts ++ text;
    }

    one : plus p 1 ≡ p + 1
    one = omega arith

    looked_so : looked_all bytes ahead defs 60 s ≡ t
    looked_so =
        looked ∙ addressed_so bytes k end s
        ∙ ap (λ q. set_to q (plus q 1)) a.place
        ∙ ap (λ q. set_to p q) one
      where
        set_to : ℕ → ℕ → State
        set_to q from = record s {
          roles = slice_set (slice_set s.roles q (role.Open (span.Link number) end)) (end - 1) (role.Close end);
          resume = end;
          targets = s.targets ++ target_of k s.texts (bytes_between bytes from (end - 1)) ∷ [];
          texts = s.texts ++ bytes_between bytes from (end - 1);
        }

    size : length text ≡ (end - 1) - (p + 1)
    size = cut_length bytes (p + 1) (end - 1) (omega (arith, w.end_is, w.behind)) (omega (arith, w.within))

    cut_so : drop (suc p) bytes ≡ text ++ drop (end - 1) bytes
    cut_so = ap (λ n. drop n bytes) (let z : suc p ≡ p + 1 = omega arith in z) ∙ cut bytes (p + 1) (end - 1) (omega (arith, w.end_is, w.behind)) (omega (arith, w.within))

    long : p + length (address_roles number end (length text)) ≡ end
    long = let l : length (replicate (length text) role.Plain ++ role.Close end ∷ []) ≡ length text + 1 = length-append (replicate (length text) role.Plain) (role.Close end ∷ []) ∙ ap (λ n. n + 1) (length-replicate (length text) role.Plain) in omega (arith, l, size, w.end_is, w.behind)

    set : slice_set (slice_set s.roles p (role.Open (span.Link number) end)) (end - 1) (role.Close end) ≡ a.front ++ (address_roles number end (length text) ++ replicate (length bytes - end) role.Plain)
    set =
        ap (λ rs. slice_set (slice_set rs p (role.Open (span.Link number) end)) (end - 1) (role.Close end)) (a.roles ∙ ap (λ rs. a.front ++ rs) split)
        ∙ ap (λ rs. slice_set rs (end - 1) (role.Close end)) (set_here a.front (plain ++ role.Plain ∷ left) role.Plain (role.Open (span.Link number) end) p (sym a.long) ∙ sym (append_assoc a.front (role.Open (span.Link number) end ∷ plain) (role.Plain ∷ left)))
        ∙ set_here (a.front ++ role.Open (span.Link number) end ∷ plain) left role.Plain (role.Close end) (end - 1) before
        ∙ append_assoc a.front (role.Open (span.Link number) end ∷ plain) (role.Close end ∷ left)
        ∙ ap (λ rs. a.front ++ role.Open (span.Link number) end ∷ rs) (sym (append_assoc plain (role.Close end ∷ []) left))
      where
        plain : List Role
        plain = replicate (length text) role.Plain

        left : List Role
        left = replicate (length bytes - end) role.Plain

        split : replicate (length bytes - p) role.Plain ≡ role.Plain ∷ (plain ++ role.Plain ∷ left)
        split =
            plain_split (length bytes) p (length text) (omega (arith, size, w.end_is, w.behind, w.within))
            ∙ ap (λ rs. role.Plain ∷ (plain ++ rs)) (plain_split (length bytes) (p + suc (length text)) 0 (omega (arith, size, w.end_is, w.behind, w.within))
            ∙ ap (λ n. role.Plain ∷ replicate n role.Plain) (let z : length bytes - (p + suc (length text) + 1) ≡ length bytes - end = omega (arith, size, w.end_is, w.behind) in z))

        before : end - 1 ≡ length (a.front ++ role.Open (span.Link number) end ∷ plain)
        before = sym (length-append a.front (role.Open (span.Link number) end ∷ plain) ∙ ap (λ n. n + suc (length plain)) a.long ∙ ap (λ n. p + suc n) (length-replicate (length text) role.Plain) ∙ (let z : p + suc (length text) ≡ end - 1 = omega (arith, size, w.end_is, w.behind) in z))

-- 6.5 and 6.6: an opening angle bracket
pub angle_goes : (bytes : List ℕ) (ahead : Known) (defs : List ℕ → Option Entry) (p : ℕ) (s : State) (done : List Atom) → Sim bytes p s done → p < length bytes → length bytes + 2 < 2 ^ 64 → byte_at bytes p ≡ 60 → ahead.ends ≡ ends_of bytes → Goes bytes ahead defs p s done (angle bytes p (uri_end bytes p) (mail_end bytes p) (html_end bytes p))
angle_goes bytes ahead defs p s done a in_it fits is knows = by (uri_end bytes p) (mail_end bytes p) (html_end bytes p) refl refl refl
  where
    uri_so : looked_all bytes ahead defs 60 s ≡ angled_to bytes ahead.ends s (uri_end bytes p)
    uri_so = angle_looked bytes ahead defs s ∙ ap (λ q. angled_to bytes ahead.ends s (uri_end bytes q)) a.place

    mail_so : uri_end bytes p ≡ None → looked_all bytes ahead defs 60 s ≡ mailed_to bytes ahead.ends s (mail_end bytes p)
    mail_so e = uri_so ∙ ap (angled_to bytes ahead.ends s) e ∙ mailed_so bytes ahead.ends s ∙ ap (λ q. mailed_to bytes ahead.ends s (mail_end bytes q)) a.place

    html_so : uri_end bytes p ≡ None → mail_end bytes p ≡ None → looked_all bytes ahead defs 60 s ≡ tagged_to bytes s (html_end bytes p)
    html_so e f =
        mail_so e ∙ ap (mailed_to bytes ahead.ends s) f ∙ tagged_so bytes ahead.ends s
        ∙ ap (λ q. tagged_to bytes s (raw_html bytes q ahead.ends)) a.place
        ∙ ap (λ x. tagged_to bytes s (raw_html bytes p x)) (knows ∙ ends_known bytes p in_it is)
        ∙ ap (tagged_to bytes s) (raw_so bytes p in_it fits)

    by : (x y z : Option ℕ) → uri_end bytes p ≡ x → mail_end bytes p ≡ y → html_end bytes p ≡ z → Goes bytes ahead defs p s done (angle bytes p x y z)
    by (Some end) y z e f g = address_goes bytes ahead defs p end Autolink s done a in_it fits is (uri_angled bytes p end (omega arith) e) (uri_so ∙ ap (angled_to bytes ahead.ends s) e)
    by None (Some end) z e f g = address_goes bytes ahead defs p end Email s done a in_it fits is (mail_angled bytes p end (omega arith) fits f) (mail_so e ∙ ap (mailed_to bytes ahead.ends s) f)
    by None None (Some end) e f g =
        leaf_goes bytes ahead defs p 60 end s (record s { texts = s.texts ++ text }) done (leaf.Html (stretch (length s.texts) (length (s.texts ++ text)))) (RawHtml text) text a
        (omega (arith, w.end_is, w.behind)) w.within (omega arith) is angle_marks
        (html_so e f ∙ ap (tagged_to bytes s) g ∙ put_so bytes end s ∙ ap (λ q. put_leaf (leaf.Html (stretch (length s.texts) (length (s.texts ++ bytes_between bytes q end)))) end (record s { texts = s.texts ++ bytes_between bytes q end })) a.place)
        refl w.clean w.passes
        (λ ts d. ap (said_html d) (kept_words s.texts text ts))
      where
        text : List ℕ
        text = bytes_between bytes p end

        w : Ended bytes p end
        w = ends_well bytes p end fits (html_angled bytes p end in_it fits g)

        said_html : ℕ → List ℕ → List Piece
        said_html d x = (d, Leaf (view.InlineHtml x)) ∷ []
    by None None None e f g = byte_goes bytes ahead defs p 60 s done a in_it (omega arith) is angle_marks refl (byte_passes bytes p 60 in_it (omega arith) is refl) (html_so e f ∙ ap (tagged_to bytes s) g)
