-- A closing bracket: the link or the image that it ends, or text.
use Rattle.std.proofs.Common.{◌≡◌, ℕ, suc, ◌+◌, ◌-◌, ◌^◌, ◌<◌, ◌≤◌, min, Bool, true, false, not, ◌==◌, ◌||◌, nat_le, if◌then◌else◌, inl, inr, List, [], ◌∷◌, ◌++◌, length, take, drop, replicate, reverse, refl, ap, sym, subst, ◌∙◌, arith, append_assoc, append-nil, length-append}
use Rattle.std.proofs.lemmas.List.{length-replicate, reverse-reverse}
use Rattle.std.proofs.lemmas.List.Sums.{fold-append}
use Rattle.std.proofs.Math.Seq.{take-append_seam}
use Rattle.std.specs.Prelude.{Option, Some, slice_get, slice_set, unwrap_or}
use Rattle.std.specs.List.{fold}
use Rattle.tocmark_event.specs.View as view
use Rattle.tocmark_event.specs.View.{TagView, Start}
use Rattle.tocmark_event.specs.declared.event.LinkType.{LinkType}
use Rattle.tocmark_event.specs.declared.event.LinkType.TheVariants as link
use Rattle.tocmark_read_scan.specs.Basic.{byte_at}
use Rattle.tocmark_read_scan.specs.declared.syntax.Names.TheVariants.{All}
use Rattle.tocmark_read_inlines.specs.Scan.{State, Known, is_mark, settled, targeted, spanned, linked, closed_in, closed_last_in, closed_popped_in, closed_active_in, popped, looked_all, next_place, with_place}
use Rattle.tocmark_read_spans.specs.Emphasis as reader
use Rattle.tocmark_read_spans.specs.declared.definitions.Entry.{Entry}
use Rattle.tocmark_read_spans.specs.declared.link.Bracket.{Bracket}
use Rattle.tocmark_read_spans.specs.declared.role.Role.{Role}
use Rattle.tocmark_read_spans.specs.declared.role.Role.TheVariants as role
use Rattle.tocmark_read_spans.specs.declared.role.Span.{Span}
use Rattle.tocmark_read_spans.specs.declared.role.Span.TheVariants as span
use Rattle.tocmark_read_spans.specs.declared.role.Target.{Target}
use Rattle.tocmark_read_spans.specs.declared.run.Run.{Run}
use Rattle.tocmark_commonmark.specs.Emphasis.{emphasized}
use Rattle.tocmark_commonmark.specs.InlineTree.{Inline, Inlines, Text, Bracket as AtomBracket, Atom, Whole, Opening, as_inline}
use Rattle.tocmark_commonmark.specs.Inlines as declared
use Rattle.tocmark_commonmark.specs.Inlines.{Enclosed, enclosed, inactive, before_link, link_or, bracket_closed}
use Rattle.tocmark_commonmark.specs.Links as target
use Rattle.tocmark_commonmark.specs.Links.{Destination}
use Rattle.tocmark_commonmark.specs.Tokens as kind
use Rattle.tocmark_commonmark.specs.Tokens.{byte_token}
use Rattle.tocmark_inline_laws.specs.Said.{Piece, words, nowhere, tag_said, declared_one}
use Rattle.tocmark_inline_laws.specs.Said as said
use Rattle.tocmark_inline_laws.specs.Statement.{LeadAlike}
use Rattle.tocmark_inline_laws.proofs.Atoms.{with_more, flow_at, bracket_width, Shows, skips, Trail, trail_more}
use Rattle.tocmark_inline_laws.proofs.Flow.{Flow, Beside, flow_step}
use Rattle.tocmark_inline_laws.proofs.OpenBrackets.{NoneOpens, Enclosings, enclosing, none_open, opens_before, opens_after, kept_parts, weight_parts, trail_text, kept_inactive, runs_inactive, trail_inactive, opens_inactive, opens_fewer, min_same}
use Rattle.tocmark_inline_laws.proofs.Outcomes.{Links, Fails, Outcome, outcome}
use Rattle.tocmark_inline_laws.proofs.Passes.{step_look}
use Rattle.tocmark_inline_laws.proofs.Phases.{bracket_from}
use Rattle.tocmark_inline_laws.proofs.Places.{set_here, set_next, plain_split, clean_after}
use Rattle.tocmark_inline_laws.proofs.Plains.{plains_show}
use Rattle.tocmark_inline_laws.proofs.Run.{Next, next_by}
use Rattle.tocmark_inline_laws.proofs.Settling.{Split, trail_splits, Emphasizes, lead_emphasizes, weight_turned}
use Rattle.tocmark_inline_laws.proofs.Held.{Lead}
use Rattle.tocmark_inline_laws.proofs.Sim.{beside, runs_of, weight, kept_of, bracket_of, Opens, opens_further, Grown, Sim, took_sim, goes_past}
use Rattle.tocmark_inline_laws.proofs.SpanRoles.{ShowsAll}
use Rattle.tocmark_inline_laws.proofs.Stack.{get_here}
use Rattle.tocmark_inline_laws.proofs.Stretches.{first_left}
use Rattle.tocmark_inline_laws.proofs.Tokens.{byte_passes, byte_goes}

-- the tag of a link or an image
abbrev tag_of : Bool → target.Target → TagView
tag_of true t = view.Image t.link_type t.destination t.title t.label
tag_of false t = view.Link t.link_type t.destination t.title t.label

linked_says : (z : Bool) (t : target.Target) (is : Inlines) (d : ℕ) → declared_one d (declared.linked z t is) ≡ (d, Start (tag_of z t)) ∷ said.declared (suc d) is
linked_says true t is d = refl
linked_says false t is d = refl

-- the reader's container
abbrev span_at : Bool → ℕ → Span
span_at z number = if z then span.Image number else span.Link number

tags_same : (z : Bool) (k j : LinkType) (d d2 t t2 l l2 : List ℕ) → k ≡ j → d ≡ d2 → t ≡ t2 → l ≡ l2 → (if z then view.Image k d t l else view.Link k d t l) ≡ (if z then view.Image j d2 t2 l2 else view.Link j d2 t2 l2)
tags_same z k j d d2 t t2 l l2 a b c e =
    ap (λ (x : LinkType). if z then view.Image x d t l else view.Link x d t l) a
    ∙ ap (λ x. if z then view.Image j x t l else view.Link j x t l) b
    ∙ ap (λ x. if z then view.Image j d2 x l else view.Link j d2 x l) c
    ∙ ap (λ x. if z then view.Image j d2 t2 x else view.Link j d2 t2 x) e

-- a target that is added is said
target_said : (z : Bool) (texts : List ℕ) (targets further : List Target) (t : Target) → tag_said texts ((targets ++ t ∷ []) ++ further) (span_at z (length targets)) ≡ (if z then view.Image t.link_type (words texts t.destination) (words texts t.title) (words texts t.id) else view.Link t.link_type (words texts t.destination) (words texts t.title) (words texts t.id))
target_said z texts targets further t = by z
  where
    there : slice_get ((targets ++ t ∷ []) ++ further) (length targets) ≡ Some t
    there = ap (λ (ts : List Target). slice_get ts (length targets)) (append_assoc targets (t ∷ []) further) ∙ get_here targets further t

    by : (z : Bool) → tag_said texts ((targets ++ t ∷ []) ++ further) (span_at z (length targets)) ≡ (if z then view.Image t.link_type (words texts t.destination) (words texts t.title) (words texts t.id) else view.Link t.link_type (words texts t.destination) (words texts t.title) (words texts t.id))
    by true = ap (λ (o : Option Target). said.image_said texts (unwrap_or o (record { link_type = link.Inline; destination = nowhere; title = nowhere; id = nowhere }))) there
    by false = ap (λ (o : Option Target). said.link_said texts (unwrap_or o (record { link_type = link.Inline; destination = nowhere; title = nowhere; id = nowhere }))) there

-- the roles of an opening bracket that begins a link
abbrev start_roles : Bool → Role → List Role
start_roles true o = o ∷ role.Hidden ∷ []
start_roles false o = o ∷ []

start_length : (z : Bool) (o : Role) → length (start_roles z o) ≡ bracket_width z
start_length true o = refl
start_length false o = refl

link_roles : (z : Bool) (before mid rest : List Role) (o c : Role) (a b d : ℕ) → b ≡ length before → suc a ≡ b + bracket_width z → d ≡ b + bracket_width z + length mid → slice_set (slice_set (slice_set ((before ++ replicate (bracket_width z) role.Plain) ++ (mid ++ role.Plain ∷ rest)) a role.Hidden) b o) d c ≡ before ++ (start_roles z o ++ (mid ++ c ∷ rest))
link_roles false before mid rest o c a b d first second third =
    ap (λ rs. slice_set (slice_set (slice_set rs a role.Hidden) b o) d c) (append_assoc before (role.Plain ∷ []) (mid ++ role.Plain ∷ rest))
    ∙ ap (λ rs. slice_set (slice_set rs b o) d c) (set_here before (mid ++ role.Plain ∷ rest) role.Plain role.Hidden a (omega arith))
    ∙ ap (λ rs. slice_set rs d c) (set_here before (mid ++ role.Plain ∷ rest) role.Hidden o b first)
    ∙ ap (λ rs. slice_set rs d c) (sym (append_assoc before (o ∷ mid) (role.Plain ∷ rest)))
    ∙ set_here (before ++ o ∷ mid) rest role.Plain c d (let l : length (before ++ o ∷ mid) ≡ length before + suc (length mid) = length-append before (o ∷ mid) in omega (arith, l))
    ∙ append_assoc before (o ∷ mid) (c ∷ rest)
link_roles true before mid rest o c a b d first second third =
    ap (λ rs. slice_set (slice_set (slice_set rs a role.Hidden) b o) d c) (append_assoc before (role.Plain ∷ role.Plain ∷ []) (mid ++ role.Plain ∷ rest))
    ∙ ap (λ rs. slice_set (slice_set rs b o) d c) (set_next before (mid ++ role.Plain ∷ rest) role.Plain role.Plain role.Hidden a (omega arith))
    ∙ ap (λ rs. slice_set rs d c) (set_here before (role.Hidden ∷ (mid ++ role.Plain ∷ rest)) role.Plain o b first)
    ∙ ap (λ rs. slice_set rs d c) (sym (append_assoc before (o ∷ role.Hidden ∷ mid) (role.Plain ∷ rest)))
    ∙ set_here (before ++ o ∷ role.Hidden ∷ mid) rest role.Plain c d (let l : length (before ++ o ∷ role.Hidden ∷ mid) ≡ length before + suc (suc (length mid)) = length-append before (o ∷ role.Hidden ∷ mid) in omega (arith, l))
    ∙ append_assoc before (o ∷ role.Hidden ∷ mid) (c ∷ rest)

-- after its end a link has bytes that are skipped
close_flows : (e : Beside) (depth q end k : ℕ) (out : List Piece) → end ≡ suc q + k → fold (flow_step e) (flow_at (suc depth) q out) (role.Close end ∷ replicate k role.Plain) ≡ flow_at depth end out
unfolding flow_step
close_flows e depth q end k out far =
    ap (λ d. fold (flow_step e) (record { depth = d; place = suc q; skip = end - suc q; out = out }) (replicate k role.Plain)) (let z : suc depth - 1 ≡ depth = omega arith in z)
    ∙ ap (λ n. fold (flow_step e) (record { depth = depth; place = suc q; skip = n; out = out }) (replicate k role.Plain)) (let l : length (replicate k role.Plain) ≡ k = length-replicate k role.Plain in let z : end - suc q ≡ length (replicate k role.Plain) = omega (arith, l) in z)
    ∙ skips e (replicate k role.Plain) depth (suc q) out
    ∙ ap (λ n. flow_at depth n out) (let l : length (replicate k role.Plain) ≡ k = length-replicate k role.Plain in let z : suc q + length (replicate k role.Plain) ≡ end = omega (arith, l) in z)

link_shows : (e : Beside) (p : ℕ) (z : Bool) (number end k : ℕ) (mid : List Role) (is : Inlines) (i : Inline) (tag : TagView) → end ≡ p + bracket_width z + length mid + suc k → ((ts : List ℕ) (gs : List Target) → tag_said (e.texts ++ ts) (e.targets ++ gs) (span_at z number) ≡ tag) → ((d : ℕ) → declared_one d i ≡ (d, Start tag) ∷ said.declared (suc d) is) → ShowsAll e (p + bracket_width z) mid is → Shows e p (start_roles z (role.Open (span_at z number) end) ++ (mid ++ role.Close end ∷ replicate k role.Plain)) i
unfolding flow_step
link_shows e p false number end k mid is i tag far says declares h ts gs depth out =
    ap (λ (t : TagView). fold (flow_step (with_more e ts gs)) (flow_at (suc depth) (suc p) (out ++ (depth, Start t) ∷ [])) (mid ++ rest)) (says ts gs)
    ∙ ap (λ q. fold (flow_step (with_more e ts gs)) (flow_at (suc depth) q (out ++ (depth, Start tag) ∷ [])) (mid ++ rest)) (let q : suc p ≡ p + 1 = omega arith in q)
    ∙ fold-append (flow_step (with_more e ts gs)) (flow_at (suc depth) (p + 1) (out ++ (depth, Start tag) ∷ [])) mid rest
    ∙ ap (λ (f : Flow). fold (flow_step (with_more e ts gs)) f rest) (h ts gs (suc depth) (out ++ (depth, Start tag) ∷ []))
    ∙ close_flows (with_more e ts gs) depth (p + 1 + length mid) end k ((out ++ (depth, Start tag) ∷ []) ++ said.declared (suc depth) is) (omega (arith, far))
    ∙ ap (λ ps. flow_at depth end ps) (append_assoc out ((depth, Start tag) ∷ []) (said.declared (suc depth) is) ∙ ap (λ ps. out ++ ps) (sym (declares depth)))
    ∙ ap (λ q. flow_at depth q (out ++ declared_one depth i)) (let l : length (mid ++ rest) ≡ length mid + suc k = length-append mid rest ∙ ap (λ n. length mid + suc n) (length-replicate k role.Plain) in let q : end ≡ p + suc (length (mid ++ rest)) = omega (arith, far, l) in q)
  where
    rest : List Role
    rest = role.Close end ∷ replicate k role.Plain
link_shows e p true number end k mid is i tag far says declares h ts gs depth out =
    ap (λ (t : TagView). fold (flow_step (with_more e ts gs)) (flow_at (suc depth) (suc (suc p)) (out ++ (depth, Start t) ∷ [])) (mid ++ rest)) (says ts gs)
    ∙ ap (λ q. fold (flow_step (with_more e ts gs)) (flow_at (suc depth) q (out ++ (depth, Start tag) ∷ [])) (mid ++ rest)) (let q : suc (suc p) ≡ p + 2 = omega arith in q)
    ∙ fold-append (flow_step (with_more e ts gs)) (flow_at (suc depth) (p + 2) (out ++ (depth, Start tag) ∷ [])) mid rest
    ∙ ap (λ (f : Flow). fold (flow_step (with_more e ts gs)) f rest) (h ts gs (suc depth) (out ++ (depth, Start tag) ∷ []))
    ∙ close_flows (with_more e ts gs) depth (p + 2 + length mid) end k ((out ++ (depth, Start tag) ∷ []) ++ said.declared (suc depth) is) (omega (arith, far))
    ∙ ap (λ ps. flow_at depth end ps) (append_assoc out ((depth, Start tag) ∷ []) (said.declared (suc depth) is) ∙ ap (λ ps. out ++ ps) (sym (declares depth)))
    ∙ ap (λ q. flow_at depth q (out ++ declared_one depth i)) (let l : length (mid ++ rest) ≡ length mid + suc k = length-append mid rest ∙ ap (λ n. length mid + suc n) (length-replicate k role.Plain) in let q : end ≡ p + suc (suc (length (mid ++ rest))) = omega (arith, far, l) in q)
  where
    rest : List Role
    rest = role.Close end ∷ replicate k role.Plain

-- further texts and targets change nothing
all_more : (e : Beside) (ts : List ℕ) (gs : List Target) (p : ℕ) (seg : List Role) (is : Inlines) → ShowsAll e p seg is → ShowsAll (with_more e ts gs) p seg is
all_more e ts gs p seg is h us hs depth out =
    subst (λ (x : Beside). fold (flow_step x) (flow_at depth p out) seg ≡ flow_at depth (p + length seg) (out ++ said.declared depth is)) same (h (ts ++ us) (gs ++ hs) depth out)
  where
    same : with_more e (ts ++ us) (gs ++ hs) ≡ with_more (with_more e ts gs) us hs
    same = ap (λ (xs : List ℕ). record e { texts = xs; targets = e.targets ++ (gs ++ hs) }) (sym (append_assoc e.texts ts us)) ∙ ap (λ (ys : List Target). record e { texts = (e.texts ++ ts) ++ us; targets = ys }) (sym (append_assoc e.targets gs hs))

-- the reader's link
linked_so : (x : Bracket) (t : Target) (end : ℕ) (s : State) → linked x t end s ≡ record s {
  roles = slice_set (slice_set (slice_set (reader.emphasized s.roles (drop x.runs s.runs)) (x.inner - 1) role.Hidden) x.start (role.Open (span_at x.image (length s.targets)) end)) s.place (role.Close end);
  runs = take x.runs s.runs;
  targets = s.targets ++ t ∷ [];
  resume = end;
  inactive = if x.image then s.inactive else length s.brackets;
}
unfolding linked settled targeted spanned
linked_so x t end s = by x.image
  where
    by : (z : Bool) → (if not z then record s {
      roles = slice_set (slice_set (slice_set (reader.emphasized s.roles (drop x.runs s.runs)) (x.inner - 1) role.Hidden) x.start (role.Open (if x.image then span.Image (length s.targets) else span.Link (length s.targets)) end)) s.place (role.Close end);
      runs = take x.runs s.runs;
      targets = s.targets ++ t ∷ [];
      resume = end;
      inactive = length s.brackets;
    } else record s {
      roles = slice_set (slice_set (slice_set (reader.emphasized s.roles (drop x.runs s.runs)) (x.inner - 1) role.Hidden) x.start (role.Open (if x.image then span.Image (length s.targets) else span.Link (length s.targets)) end)) s.place (role.Close end);
      runs = take x.runs s.runs;
      targets = s.targets ++ t ∷ [];
      resume = end;
    }) ≡ record s {
      roles = slice_set (slice_set (slice_set (reader.emphasized s.roles (drop x.runs s.runs)) (x.inner - 1) role.Hidden) x.start (role.Open (span_at x.image (length s.targets)) end)) s.place (role.Close end);
      runs = take x.runs s.runs;
      targets = s.targets ++ t ∷ [];
      resume = end;
      inactive = if z then s.inactive else length s.brackets;
    }
    by true = refl
    by false = refl

drop_seam : (xs ys : List Run) → drop (length xs) (xs ++ ys) ≡ ys
drop_seam [] [] = refl
drop_seam [] (y ∷ ys) = refl
drop_seam (x ∷ xs) ys = drop_seam xs ys

-- a closing bracket
closing_marks : is_mark 93 ≡ true
unfolding is_mark
closing_marks = refl

closing_looked : (bytes : List ℕ) (ahead : Known) (defs : List ℕ → Option Entry) (s : State) → looked_all bytes ahead defs 93 s ≡ closed_last_in All false bytes defs s (slice_get s.brackets (length s.brackets - 1))
unfolding looked_all closed_in
closing_looked bytes ahead defs s = refl

popped_so : (x : Bracket) (s : State) → popped x s ≡ (record s { brackets = take (length s.brackets - 1) s.brackets; inactive = min s.inactive (length s.brackets - 1) }, x.image || nat_le s.inactive (length s.brackets - 1))
unfolding popped
popped_so x s = refl

-- the state without the innermost bracket
abbrev without : List Bracket → State → State
without under s = record s { brackets = under; inactive = min s.inactive (length under) }

closed_so : (bytes : List ℕ) (ahead : Known) (defs : List ℕ → Option Entry) (s : State) (under : List Bracket) (x : Bracket) (active : Bool) → s.brackets ≡ under ++ x ∷ [] → active ≡ nat_le s.inactive (length under) → looked_all bytes ahead defs 93 s ≡ (if x.image || active then closed_active_in All false bytes defs x (without under s) else without under s)
closed_so bytes ahead defs s under x active cut is =
    closing_looked bytes ahead defs s
    ∙ ap (λ (bs : List Bracket). closed_last_in All false bytes defs s (slice_get bs (length bs - 1))) cut
    ∙ ap (λ n. closed_last_in All false bytes defs s (slice_get (under ++ x ∷ []) n)) last
    ∙ ap (closed_last_in All false bytes defs s) (get_here under [] x)
    ∙ ap (closed_popped_in All false bytes defs x) (popped_so x s)
    ∙ ap (λ (bs : List Bracket). closed_popped_in All false bytes defs x (record s { brackets = take (length bs - 1) bs; inactive = min s.inactive (length bs - 1) }, x.image || nat_le s.inactive (length bs - 1))) cut
    ∙ ap (λ n. closed_popped_in All false bytes defs x (record s { brackets = take n (under ++ x ∷ []); inactive = min s.inactive n }, x.image || nat_le s.inactive n)) last
    ∙ ap (λ (bs : List Bracket). closed_popped_in All false bytes defs x (record s { brackets = bs; inactive = min s.inactive (length under) }, x.image || nat_le s.inactive (length under))) (take-append_seam under (x ∷ []))
    ∙ ap (λ (z : Bool). closed_popped_in All false bytes defs x (without under s, x.image || z)) (sym is)
  where
    last : length (under ++ x ∷ []) - 1 ≡ length under
    last = let k : length (under ++ x ∷ []) ≡ length under + 1 = length-append under (x ∷ []) in omega (arith, k)

-- what is before a link
before_trail : (z : Bool) (e : Beside) (front : List Role) (done : List Atom) → Trail e front done → Trail e front (before_link z done)
before_trail true e front done h = h
before_trail false e front done h = trail_inactive e front done h

before_kept : (z : Bool) (done : List Atom) → kept_of (before_link z done) ≡ kept_of done
before_kept true done = refl
before_kept false done = kept_inactive done

before_runs : (z : Bool) (done : List Atom) → runs_of (before_link z done) ≡ runs_of done
before_runs true done = refl
before_runs false done = runs_inactive done

before_opens : (z : Bool) (bytes : List ℕ) (n p : ℕ) (done : List Atom) (bs : List Bracket) → Opens bytes n p done bs → Opens bytes (if z then min n (length bs) else length bs) p (before_link z done) bs
before_opens true bytes n p done bs h = opens_fewer bytes n (min n (length bs)) p done bs (λ i l. min_same n (length bs) i l) h
before_opens false bytes n p done bs h = opens_inactive bytes n (length bs) p done bs (omega arith) h

before_few : (z : Bool) (n h : ℕ) → (if z then min n h else h) ≤ h
before_few true n h = omega arith
before_few false n h = omega arith

-- the opening bracket before, with what the reader has of it
record Opened (bytes : List ℕ) (p : ℕ) (s : State) (done part before : List Atom) (b : AtomBracket) : Type 0 where
  sim : Sim bytes p s (part ++ Opening b ∷ before)
  under : List Bracket
  nested : Bool
  brackets : s.brackets ≡ under ++ bracket_of b nested (length (kept_of before)) ∷ []
  active : b.is_active ≡ nat_le s.inactive (length under)
  hides : nested ≡ true → bracket_from bytes false b.inner < p
  opens : Opens bytes s.inactive p before under

opened : (bytes : List ℕ) (p : ℕ) (s : State) (done part before : List Atom) (b : AtomBracket) → Sim bytes p s done → done ≡ part ++ Opening b ∷ before → NoneOpens part → Opened bytes p s done part before b
opened bytes p s done part before b a cut plain = of (subst (Sim bytes p s) cut a)
  where
    of : Sim bytes p s (part ++ Opening b ∷ before) → Opened bytes p s done part before b
    of c = let h : Opens bytes s.inactive p (Opening b ∷ before) s.brackets = opens_before bytes s.inactive p part (Opening b ∷ before) s.brackets plain c.opens in
        record { sim = c; under = h.0; nested = h.1; brackets = h.2; active = h.3; hides = h.4; opens = h.6 }

-- brackets that are text
fails : (bytes : List ℕ) (ahead : Known) (defs : List ℕ → Option Entry) (labels : List Destination) (p : ℕ) (s : State) (done part before : List Atom) (b : AtomBracket) (o : Opened bytes p s done part before b) → NoneOpens part → p < length bytes → length bytes + 2 < 2 ^ 64 → byte_at bytes p ≡ 93 → enclosed [] done ≡ Some (record { before = before; bracket = b; inside = reverse part ++ [] }) → Fails (without o.under s) (looked_all bytes ahead defs 93 s) (target.target bytes labels b p) → Next bytes ahead defs labels p s done 93 kind.CloseBracket
fails bytes ahead defs labels p s done part before b o plain inner fits is found f = record {
  end = p + 1;
  atoms = Whole (Text (93 ∷ [])) ∷ atoms;
  after = with_place (p + 1) t;
  same = goes_past bytes ahead defs p (p + 1) 93 s t (omega arith) (omega arith) (omega arith) is
      (step_look bytes ahead defs s 93 closing_marks (let q : s.resume ≤ p = o.sim.resume in let r : s.place ≡ p = o.sim.place in omega arith) ∙ ap next_place f.looked_is)
      o.sim.place (omega arith);
  further = omega arith;
  within = omega arith;
  sim = took_sim bytes p (p + 1) u t atoms (role.Plain ∷ []) (Text (93 ∷ [])) sim
      (record {
        texts = f.further;
        targets = [];
        roles = o.sim.roles ∙ ap (λ rs. o.sim.front ++ rs) (plain_split (length bytes) p 0 (omega arith));
        long = refl;
        more_texts = refl;
        more_targets = sym (append-nil s.targets);
        stands = plains_show (record { bytes = bytes; texts = s.texts ++ f.further; targets = s.targets ++ [] }) (93 ∷ []) (drop (suc p) bytes) p (first_left bytes p inner ∙ ap (λ c. c ∷ drop (suc p) bytes) is);
        resume = (let q : s.resume ≤ p = o.sim.resume in omega arith);
        runs = refl;
      })
      (clean_after bytes p (p + 1) (omega arith) (ap (λ c. c == 32) is))
      (byte_passes bytes p 93 inner (omega arith) is refl) refl refl;
  grown = (f.further, refl);
  declares = λ go.
      ap (bracket_closed go bytes labels p done) found
      ∙ ap (link_or go p (record { before = before; bracket = b; inside = reverse part ++ [] })) f.found_is
      ∙ ap (λ xs. go (p + 1) (Whole (Text (93 ∷ [])) ∷ xs ++ Whole (as_inline (Opening b)) ∷ before)) (ap reverse (append-nil (reverse part)) ∙ reverse-reverse part);
}
  where
    u : State
    u = without o.under s

    t : State
    t = record u { texts = u.texts ++ f.further; missed = f.missed }

    atoms : List Atom
    atoms = part ++ Whole (as_inline (Opening b)) ∷ before

    sim : Sim bytes p (without o.under s) (part ++ Whole (as_inline (Opening b)) ∷ before)
    sim = record {
      front = o.sim.front;
      place = o.sim.place;
      resume = o.sim.resume;
      roles = o.sim.roles;
      long = o.sim.long;
      trail = trail_text (beside bytes s) o.sim.front part before b o.sim.trail;
      light = subst (λ n. n ≤ p) (weight_parts part (Opening b ∷ before) ∙ sym (weight_parts part (Whole (as_inline (Opening b)) ∷ before))) o.sim.light;
      runs = o.sim.runs ∙ kept_parts part (Opening b ∷ before) ∙ sym (kept_parts part (Whole (as_inline (Opening b)) ∷ before));
      opens = opens_after bytes (min s.inactive (length o.under)) p part (Whole (as_inline (Opening b)) ∷ before) o.under plain (opens_fewer bytes s.inactive (min s.inactive (length o.under)) p before o.under (λ i l. min_same s.inactive (length o.under) i l) o.opens);
      few = omega arith;
      clean = o.sim.clean;
    }

-- a link or an image
links : (bytes : List ℕ) (ahead : Known) (defs : List ℕ → Option Entry) (labels : List Destination) (p : ℕ) (s : State) (done part before : List Atom) (b : AtomBracket) (o : Opened bytes p s done part before b) → NoneOpens part → p < length bytes → length bytes + 2 < 2 ^ 64 → byte_at bytes p ≡ 93 → enclosed [] done ≡ Some (record { before = before; bracket = b; inside = reverse part ++ [] }) → Links bytes p (bracket_of b o.nested (length (kept_of before))) (without o.under s) (looked_all bytes ahead defs 93 s) (target.target bytes labels b p) → Next bytes ahead defs labels p s done 93 kind.CloseBracket
links bytes ahead defs labels p s done part before b o plain inner fits is found l = by (trail_splits (beside bytes s) o.sim.front part (Opening b ∷ before) o.sim.trail [] [] [] (refl, refl))
  where
    z : Bool
    z = b.is_image

    w : ℕ
    w = bracket_width b.is_image

    end : ℕ
    end = l.as_declared.end

    inside : List Atom
    inside = reverse part ++ []

    x : Bracket
    x = bracket_of b o.nested (length (kept_of before))

    started : (0 < w) × (w ≤ 2)
    started = of b.is_image
      where
        of : (z : Bool) → (0 < bracket_width z) × (bracket_width z ≤ 2)
        of true = (omega arith, omega arith)
        of false = (omega arith, omega arith)

    more : p < l.as_declared.end
    more = l.ends.further

    in_it : l.as_declared.end ≤ length bytes
    in_it = l.ends.within

    weighs : weight (runs_of (part ++ Opening b ∷ before)) ≡ weight (runs_of part) + weight (runs_of before)
    weighs = weight_parts part (Opening b ∷ before)

    runs_are : s.runs ≡ kept_of before ++ kept_of part
    runs_are = o.sim.runs ∙ kept_parts part (Opening b ∷ before)

    by : Split (beside bytes s) o.sim.front part (Opening b ∷ before) [] [] [] → Next bytes ahead defs labels p s done 93 kind.CloseBracket
    by k = record {
      end = end;
      atoms = Whole i ∷ before_link z before;
      after = with_place end t;
      same = goes_past bytes ahead defs p end 93 s t more in_it (omega arith) is
          (step_look bytes ahead defs s 93 closing_marks (let q : s.resume ≤ p = o.sim.resume in let r : s.place ≡ p = o.sim.place in omega arith) ∙ ap next_place (l.looked_is ∙ linked_so x l.target end (record (without o.under s) { texts = s.texts ++ l.further })))
          o.sim.place (omega (arith, more));
      further = more;
      within = in_it;
      sim = record {
        front = first ++ seg;
        place = refl;
        resume = omega arith;
        roles = roles_are;
        long = length-append first seg ∙ (let q : length first + length seg ≡ end = omega (arith, long_seg, long_front, started, more) in q);
        trail = (first, seg, refl, shows, before_trail z (beside bytes t) first before (trail_more (beside bytes s) l.further (l.target ∷ []) first before (k.trail.4)));
        light = (let q : weight (runs_of (before_link z before)) ≡ weight (runs_of before) = ap weight (before_runs z before) in let v : weight (runs_of (part ++ Opening b ∷ before)) ≤ p = o.sim.light in omega (arith, q, v, weighs, more));
        runs = ap (take (length (kept_of before))) runs_are ∙ take-append_seam (kept_of before) (kept_of part) ∙ sym (before_kept z before);
        opens = opens_further bytes (if z then min s.inactive (length o.under) else length o.under) p end (before_link z before) o.under (omega (arith, more)) l.ends.passes (before_opens z bytes s.inactive p before o.under o.opens);
        few = before_few z s.inactive (length o.under);
        clean = l.ends.clean;
      };
      grown = (l.further, refl);
      declares = λ go.
          ap (bracket_closed go bytes labels p done) found
          ∙ ap (link_or go p (record { before = before; bracket = b; inside = reverse part ++ [] })) l.found_is;
    }
      where
        first : List Role
        first = k.trail.0

        i : Inline
        i = declared.linked b.is_image l.as_declared (emphasized (reverse part ++ []))

        cut : k.first ≡ k.trail.0 ++ replicate w role.Plain
        cut = k.trail.2 ∙ ap (λ rs. k.trail.0 ++ rs) (k.trail.3.0)

        long_first : length k.first ≡ length (k.trail.0) + w
        long_first = ap length cut ∙ length-append (k.trail.0) (replicate w role.Plain) ∙ ap (λ q. length (k.trail.0) + q) (length-replicate w role.Plain)

        inner_is : b.inner ≡ length (k.trail.0) + w
        inner_is = k.trail.3.1

        front_long : length k.first + length k.mid ≡ p
        front_long = sym (length-append k.first k.mid) ∙ sym (ap length k.cut) ∙ o.sim.long

        lead : Lead (beside bytes s) (length k.first) k.mid (reverse part ++ []) (kept_of part)
        lead =
            subst (λ (rs : List Role). Lead (beside bytes s) (length k.first) rs (reverse part ++ []) (kept_of part)) (append-nil k.mid)
            (subst (λ (rs : List Run). Lead (beside bytes s) (length k.first) (k.mid ++ []) (reverse part ++ []) rs) (append-nil (kept_of part)) k.lead)

        m : Emphasizes (beside bytes s) k.first k.mid (replicate (length bytes - p) role.Plain) (reverse part ++ []) (kept_of part)
        m = lead_emphasizes (beside bytes s) k.first k.mid (replicate (length bytes - p) role.Plain) (reverse part ++ []) (kept_of part) lead
            (let q : weight (runs_of (reverse part ++ [])) ≡ weight (runs_of part) + 0 = weight_turned part [] in let v : weight (runs_of (part ++ Opening b ∷ before)) ≤ p = o.sim.light in omega (arith, q, v, weighs))
            (omega (arith, front_long))

        seg : List Role
        seg = start_roles b.is_image (role.Open (span_at b.is_image (length s.targets)) l.as_declared.end) ++ (m.roles ++ role.Close l.as_declared.end ∷ replicate (l.as_declared.end - suc p) role.Plain)

        long_mid : length m.roles ≡ length k.mid
        long_mid = m.long

        long_front : length (k.trail.0) + w + length m.roles ≡ p
        long_front = omega (arith, long_first, front_long, long_mid)

        long_seg : length seg ≡ w + (length m.roles + suc (l.as_declared.end - suc p))
        long_seg =
            length-append (start_roles b.is_image (role.Open (span_at b.is_image (length s.targets)) l.as_declared.end)) (m.roles ++ role.Close l.as_declared.end ∷ replicate (l.as_declared.end - suc p) role.Plain)
            ∙ ap (λ q. q + length (m.roles ++ role.Close l.as_declared.end ∷ replicate (l.as_declared.end - suc p) role.Plain)) (start_length b.is_image (role.Open (span_at b.is_image (length s.targets)) l.as_declared.end))
            ∙ ap (λ q. w + q) (length-append m.roles (role.Close l.as_declared.end ∷ replicate (l.as_declared.end - suc p) role.Plain) ∙ ap (λ q. length m.roles + suc q) (length-replicate (l.as_declared.end - suc p) role.Plain))

        t : State
        t = record (without o.under s) {
          texts = s.texts ++ l.further;
          roles = slice_set (slice_set (slice_set (reader.emphasized s.roles (drop (length (kept_of before)) s.runs)) (b.inner - 1) role.Hidden) (b.inner - w) (role.Open (span_at b.is_image (length s.targets)) l.as_declared.end)) s.place (role.Close l.as_declared.end);
          runs = take (length (kept_of before)) s.runs;
          targets = s.targets ++ l.target ∷ [];
          resume = l.as_declared.end;
          inactive = if b.is_image then min s.inactive (length o.under) else length o.under;
        }

        emphasis_is : reader.emphasized s.roles (drop (length (kept_of before)) s.runs) ≡ k.first ++ (m.roles ++ replicate (length bytes - p) role.Plain)
        emphasis_is =
            ap (λ rs. reader.emphasized rs (drop (length (kept_of before)) s.runs)) (o.sim.roles ∙ ap (λ rs. rs ++ replicate (length bytes - p) role.Plain) k.cut ∙ append_assoc k.first k.mid (replicate (length bytes - p) role.Plain))
            ∙ ap (λ rs. reader.emphasized (k.first ++ (k.mid ++ replicate (length bytes - p) role.Plain)) rs) (ap (drop (length (kept_of before))) runs_are ∙ drop_seam (kept_of before) (kept_of part))
            ∙ m.are

        rest_split : replicate (length bytes - p) role.Plain ≡ role.Plain ∷ (replicate (l.as_declared.end - suc p) role.Plain ++ replicate (length bytes - l.as_declared.end) role.Plain)
        rest_split = plain_split (length bytes) p (l.as_declared.end - suc p) (omega (arith, more, in_it)) ∙ ap (λ q. role.Plain ∷ (replicate (l.as_declared.end - suc p) role.Plain ++ replicate (length bytes - q) role.Plain)) (let q : p + suc (l.as_declared.end - suc p) ≡ l.as_declared.end = omega (arith, more) in q)

        roles_are : t.roles ≡ (k.trail.0 ++ seg) ++ replicate (length bytes - l.as_declared.end) role.Plain
        roles_are =
            ap (λ rs. slice_set (slice_set (slice_set rs (b.inner - 1) role.Hidden) (b.inner - w) (role.Open (span_at b.is_image (length s.targets)) l.as_declared.end)) s.place (role.Close l.as_declared.end)) (emphasis_is ∙ ap (λ rs. rs ++ (m.roles ++ replicate (length bytes - p) role.Plain)) cut ∙ ap (λ rs. (k.trail.0 ++ replicate w role.Plain) ++ (m.roles ++ rs)) rest_split)
            ∙ link_roles b.is_image (k.trail.0) m.roles (replicate (l.as_declared.end - suc p) role.Plain ++ replicate (length bytes - l.as_declared.end) role.Plain) (role.Open (span_at b.is_image (length s.targets)) l.as_declared.end) (role.Close l.as_declared.end) (b.inner - 1) (b.inner - w) s.place
            (omega (arith, inner_is)) (omega (arith, inner_is, started)) (let r : s.place ≡ p = o.sim.place in omega (arith, inner_is, long_front))
            ∙ ap (λ rs. k.trail.0 ++ (start_roles b.is_image (role.Open (span_at b.is_image (length s.targets)) l.as_declared.end) ++ rs)) (sym (append_assoc m.roles (role.Close l.as_declared.end ∷ replicate (l.as_declared.end - suc p) role.Plain) (replicate (length bytes - l.as_declared.end) role.Plain)))
            ∙ ap (λ rs. k.trail.0 ++ rs) (sym (append_assoc (start_roles b.is_image (role.Open (span_at b.is_image (length s.targets)) l.as_declared.end)) (m.roles ++ role.Close l.as_declared.end ∷ replicate (l.as_declared.end - suc p) role.Plain) (replicate (length bytes - l.as_declared.end) role.Plain)))
            ∙ sym (append_assoc (k.trail.0) seg (replicate (length bytes - l.as_declared.end) role.Plain))

        shows : Shows (with_more (beside bytes s) l.further (l.target ∷ [])) (length (k.trail.0)) seg i
        shows = link_shows (with_more (beside bytes s) l.further (l.target ∷ [])) (length (k.trail.0)) b.is_image (length s.targets) l.as_declared.end (l.as_declared.end - suc p) m.roles (emphasized (reverse part ++ [])) i (tag_of b.is_image l.as_declared)
            (omega (arith, long_front, more))
            (λ ts gs. target_said b.is_image ((s.texts ++ l.further) ++ ts) s.targets gs l.target ∙ tags_same b.is_image l.target.link_type l.as_declared.link_type (words ((s.texts ++ l.further) ++ ts) l.target.destination) l.as_declared.destination (words ((s.texts ++ l.further) ++ ts) l.target.title) l.as_declared.title (words ((s.texts ++ l.further) ++ ts) l.target.id) l.as_declared.label l.link_type (l.destination ts) (l.title ts) (l.id ts) ∙ tag_is b.is_image)
            (linked_says b.is_image l.as_declared (emphasized (reverse part ++ [])))
            (all_more (beside bytes s) l.further (l.target ∷ []) (length (k.trail.0) + w) m.roles (emphasized (reverse part ++ [])) (subst (λ q. ShowsAll (beside bytes s) q m.roles (emphasized (reverse part ++ []))) long_first m.shows))
          where
            tag_is : (z : Bool) → (if z then view.Image l.as_declared.link_type l.as_declared.destination l.as_declared.title l.as_declared.label else view.Link l.as_declared.link_type l.as_declared.destination l.as_declared.title l.as_declared.label) ≡ tag_of z l.as_declared
            tag_is true = refl
            tag_is false = refl

-- 6.3, 6.4: a closing bracket
pub closing_next : (bytes : List ℕ) (ahead : Known) (defs : List ℕ → Option Entry) (labels : List Destination) (base : List ℕ) (p : ℕ) (s : State) (done : List Atom) → LeadAlike base defs labels → Grown base s → Sim bytes p s done → p < length bytes → length bytes + 2 < 2 ^ 64 → byte_at bytes p ≡ 93 → Next bytes ahead defs labels p s done 93 kind.CloseBracket
closing_next bytes ahead defs labels base p s done alike grown a inner fits is = by (enclosing [] done)
  where
    by : Enclosings [] done → Next bytes ahead defs labels p s done 93 kind.CloseBracket
    by (inr k) =
        next_by bytes ahead defs labels p s done 93 kind.CloseBracket (byte_token 93 p)
        (byte_goes bytes ahead defs p 93 s done a inner (omega arith) is closing_marks refl (byte_passes bytes p 93 inner (omega arith) is refl)
        (closing_looked bytes ahead defs s ∙ ap (λ (bs : List Bracket). closed_last_in All false bytes defs s (slice_get bs (length bs - 1))) (none_open bytes s.inactive p done s.brackets (k.1) a.opens)))
        (λ go. ap (bracket_closed go bytes labels p done) (k.0))
    by (inl k) = of (opened bytes p s done k.part k.before k.bracket a k.cut k.plain)
      where
        of : Opened bytes p s done k.part k.before k.bracket → Next bytes ahead defs labels p s done 93 kind.CloseBracket
        of o = ends
            (subst (λ (u : State). Outcome bytes p (bracket_of k.bracket o.nested (length (kept_of k.before))) (without o.under s) u (target.target bytes labels k.bracket p))
            (sym (closed_so bytes ahead defs s o.under (bracket_of k.bracket o.nested (length (kept_of k.before))) k.bracket.is_active o.brackets o.active))
            (outcome bytes defs labels base k.bracket p (bracket_of k.bracket o.nested (length (kept_of k.before))) (without o.under s) alike grown inner fits is a.place refl o.hides))
          where
            ends : Outcome bytes p (bracket_of k.bracket o.nested (length (kept_of k.before))) (without o.under s) (looked_all bytes ahead defs 93 s) (target.target bytes labels k.bracket p) → Next bytes ahead defs labels p s done 93 kind.CloseBracket
            ends (inl l) = links bytes ahead defs labels p s done k.part k.before k.bracket o k.plain inner fits is k.is l
            ends (inr f) = fails bytes ahead defs labels p s done k.part k.before k.bracket o k.plain inner fits is k.is f
