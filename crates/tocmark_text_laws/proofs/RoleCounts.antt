-- A leaf's first pass keeps one role for each byte.
use Rattle.std.proofs.Common.{◌≡◌, ℕ, zero, suc, ◌-◌, Bool, true, false, not, ◌==◌, ◌&&◌, ◌||◌, if◌then◌else◌, nat_lt, nat_le, List, [], ◌∷◌, ◌++◌, length, drop, replicate, codes, refl, ap, ◌∙◌}
use Rattle.std.specs.Prelude.{slice_get, slice_set, unwrap_or, Option, Some, None}
use Rattle.std.specs.List.{fold}
use Rattle.tocmark_read_scan.specs.Basic.{plus, bytes_between, starts_at}
use Rattle.tocmark_read_scan.specs.Class.{run_end}
use Rattle.tocmark_read_scan.specs.Repeat.{iterated, repeated}
use Rattle.tocmark_read_scan.specs.declared.class.Class.TheVariants.{Only}
use Rattle.tocmark_read_scan.specs.declared.syntax.Names.TheVariants.{Four}
use Rattle.tocmark_read_scan.specs.declared.syntax.TheConstants.{CORE}
use Rattle.tocmark_read_tokens.specs.Autolink.{uri_end, mail_end}
use Rattle.tocmark_read_tokens.specs.Html.{raw_html}
use Rattle.tocmark_read_tokens.specs.Label.{key_of}
use Rattle.tocmark_read_tokens.specs.Reference.{is_escape, reference_at}
use Rattle.tocmark_read_tokens.specs.declared.html.LastEnds.{LastEnds}
use Rattle.tocmark_read_tokens.specs.declared.reference.Reference.{Reference}
use Rattle.tocmark_event.specs.declared.event.LinkType.{LinkType}
use Rattle.tocmark_event.specs.declared.event.LinkType.TheVariants.{Autolink, Email}
use Rattle.tocmark_read_spans.specs.Emphasis as emphasis
use Rattle.tocmark_read_spans.specs.Link.{inline_target, label_asked}
use Rattle.tocmark_read_spans.specs.Run.{run_at}
use Rattle.tocmark_read_spans.specs.Tick.{tick_end}
use Rattle.tocmark_read_spans.specs.declared.definitions.Entry.{Entry}
use Rattle.tocmark_read_spans.specs.declared.link.Asked.{Asked}
use Rattle.tocmark_read_spans.specs.declared.link.Bracket.{Bracket}
use Rattle.tocmark_read_spans.specs.declared.link.InlineTarget.{InlineTarget}
use Rattle.tocmark_read_spans.specs.declared.role.Leaf.{Leaf}
use Rattle.tocmark_read_spans.specs.declared.role.Leaf.TheVariants.{HardBreak, SoftBreak}
use Rattle.tocmark_read_spans.specs.declared.role.Role.{Role}
use Rattle.tocmark_read_spans.specs.declared.role.Role.TheVariants.{Fresh, Hidden, Single}
use Rattle.tocmark_read_spans.specs.declared.role.Target.{Target}
use Rattle.tocmark_read_spans.specs.declared.run.Run.{Run}
use Rattle.tocmark_read_inlines.specs.Scan.{State, Known, ahead_in, before_space, kept, kept_code, kept_resolved_in, targeted, put_leaf, escaped, referred_to, referred, code_put, coded_to, coded, run_kept, run_taken, marked_last, marked, opened, imaged, addressed, html_put, tagged_to, tagged, mailed_to, mailed, angled_to, angled, line_ended, spanned, settled, linked, closed_inline_in, missing, looked_up_as, looked_up, closed_asked, closed_by_label, closed_found_in, closed_active_in, popped, closed_popped_in, closed_last_in, closed_in, looked_mark, looked, is_mark_in, is_tilde_in, is_caret_in, is_dollar_in, is_note_end_in, looked_in, scan_step_in, scanned_in}
use Rattle.tocmark_text_laws.proofs.Core.{repeated_keeps}

pub set_length : {A : Type 0} (xs : List A) (i : ℕ) (x : A) → length (slice_set xs i x) ≡ length xs
set_length [] i x = refl
set_length (y ∷ ys) zero x = refl
set_length (y ∷ ys) (suc i) x = ap suc (set_length ys i x)

set_counts : (n : ℕ) (rs : List Role) (i : ℕ) (r : Role) → length rs ≡ n → length (slice_set rs i r) ≡ n
set_counts n rs i r h = set_length rs i r ∙ h

-- emphasis
matching_counts : (n width k : ℕ) (o c : Run) (s : emphasis.State) → length s.roles ≡ n → length ((emphasis.matching width k o c s).0).roles ≡ n
matching_counts n width k o c s h = set_counts n _ _ _ (set_counts n _ _ _ (set_counts n _ _ _ (set_counts n s.roles _ _ h)))

once_counts : (n : ℕ) (c : Run) (s : emphasis.State) → length s.roles ≡ n → length ((emphasis.once c s).0).roles ≡ n
unfolding emphasis.once emphasis.matched
once_counts n c s h = by (c.count == 0)
  where
    on : (k : ℕ) (o : Option Run) → length ((emphasis.once_on o k c s).0).roles ≡ n
    on k None = h
    on k (Some opener) = matching_counts n (emphasis.width_of opener c) k opener c s h

    found : (o : Option ℕ) → length ((emphasis.once_at o c s).0).roles ≡ n
    found None = h
    found (Some k) = on k (slice_get s.stack k)

    stop : emphasis.State × Option Run
    stop = (s, None)

    by : (b : Bool) → length ((if b then stop else emphasis.once_at (emphasis.found s.stack c (unwrap_or (slice_get s.bottoms (emphasis.class_of c)) 0) (length s.stack)) c s).0).roles ≡ n
    by true = h
    by false = found (emphasis.found s.stack c (unwrap_or (slice_get s.bottoms (emphasis.class_of c)) 0) (length s.stack))

stacked_counts : (n : ℕ) (p : emphasis.State × Run) → length (p.0).roles ≡ n → length (emphasis.stacked p).roles ≡ n
stacked_counts n p h = by ((p.1).opens && nat_lt 0 (p.1).count)
  where
    by : (b : Bool) → length (if b then record (p.0) { stack = (p.0).stack ++ p.1 ∷ [] } else p.0).roles ≡ n
    by true = h
    by false = h

run_counts : (n : ℕ) (s : emphasis.State) (r : Run) → length s.roles ≡ n → length (emphasis.run_step s r).roles ≡ n
unfolding emphasis.run_step
run_counts n s r h = by r.closes
  where
    by : (b : Bool) → length (emphasis.stacked (if b then repeated emphasis.once r.count r s else (s, r))).roles ≡ n
    by true = stacked_counts n (repeated emphasis.once r.count r s) (repeated_keeps (λ (u : emphasis.State). length u.roles ≡ n) emphasis.once (λ c u k. once_counts n c u k) r.count r s h)
    by false = stacked_counts n (s, r) h

runs_count : (n : ℕ) (rs : List Run) (s : emphasis.State) → length s.roles ≡ n → length (fold emphasis.run_step s rs).roles ≡ n
runs_count n [] s h = h
runs_count n (r ∷ rs) s h = runs_count n rs (emphasis.run_step s r) (run_counts n s r h)

settled_counts : (n count : ℕ) (s : State) → length s.roles ≡ n → length (settled count s).roles ≡ n
unfolding settled emphasis.emphasized
settled_counts n count s h = runs_count n (drop count s.runs) (emphasis.emphasis_start s.roles) h

-- bytes that are no brackets
leaf_counts : (n : ℕ) (l : Leaf) (end : ℕ) (s : State) → length s.roles ≡ n → length (put_leaf l end s).roles ≡ n
unfolding put_leaf
leaf_counts n l end s h = set_counts n s.roles s.place (Single l end) h

escaped_counts : (n : ℕ) (bytes : List ℕ) (s : State) → length s.roles ≡ n → length (escaped bytes s).roles ≡ n
unfolding escaped
escaped_counts n bytes s h = by (is_escape bytes s.place) (starts_at bytes s.place (codes "\\\n"))
  where
    by : (x y : Bool) → length (if x then record s { roles = slice_set (slice_set s.roles s.place Hidden) (plus s.place 1) Fresh; resume = plus s.place 2 } else (if y then put_leaf HardBreak (plus s.place 2) s else s)).roles ≡ n
    by true y = set_counts n (slice_set s.roles s.place Hidden) (plus s.place 1) Fresh (set_counts n s.roles s.place Hidden h)
    by false true = leaf_counts n HardBreak (plus s.place 2) s h
    by false false = h

referred_counts : (n : ℕ) (bytes : List ℕ) (s : State) → length s.roles ≡ n → length (referred bytes s).roles ≡ n
unfolding referred
referred_counts n bytes s h = by (reference_at bytes s.place)
  where
    by : (o : Option Reference) → length (referred_to s o).roles ≡ n
    by None = h
    by (Some r) = leaf_counts n _ r.next s h

coded_counts : (n : ℕ) (bytes ticks : List ℕ) (s : State) → length s.roles ≡ n → length (coded bytes ticks s).roles ≡ n
unfolding coded code_put kept_code
coded_counts n bytes ticks s h = by (tick_end bytes from (from - s.place) ticks)
  where
    from : ℕ
    from = run_end bytes s.place (Only 96)

    by : (o : Option ℕ) → length (coded_to bytes from (from - s.place) s o).roles ≡ n
    by None = h
    by (Some to) = leaf_counts n _ _ ((kept_code (bytes_between bytes from to) s).0) h

kept_run_counts : (n : ℕ) (r : Run) (s : State) → length s.roles ≡ n → length (run_kept r s).roles ≡ n
unfolding run_kept
kept_run_counts n r s h = by (r.opens || r.closes)
  where
    by : (b : Bool) → length (if b then record s { resume = plus s.place r.count; runs = s.runs ++ r ∷ [] } else record s { resume = plus s.place r.count }).roles ≡ n
    by true = h
    by false = h

marked_same : (s : State) → (marked s).roles ≡ s.roles
unfolding marked
marked_same s = by (slice_get s.brackets (length s.brackets - 1))
  where
    by : (o : Option Bracket) → (marked_last s o).roles ≡ s.roles
    by None = refl
    by (Some b) = refl

opened_counts : (n : ℕ) (image : Bool) (width : ℕ) (s : State) → length s.roles ≡ n → length (opened image width s).roles ≡ n
unfolding opened
opened_counts n image width s h = ap length (marked_same s) ∙ h

imaged_counts : (n : ℕ) (bytes : List ℕ) (s : State) → length s.roles ≡ n → length (imaged bytes s).roles ≡ n
unfolding imaged
imaged_counts n bytes s h = by (starts_at bytes s.place (codes "!["))
  where
    by : (b : Bool) → length (if b then opened true 2 s else s).roles ≡ n
    by true = opened_counts n true 2 s h
    by false = h

addressed_counts : (n : ℕ) (bytes : List ℕ) (l : LinkType) (end : ℕ) (s : State) → length s.roles ≡ n → length (addressed bytes l end s).roles ≡ n
unfolding addressed kept targeted
addressed_counts n bytes l end s h = set_counts n _ _ _ (set_counts n s.roles _ _ h)

html_counts : (n : ℕ) (bytes : List ℕ) (end : ℕ) (s : State) → length s.roles ≡ n → length (html_put bytes end s).roles ≡ n
unfolding html_put kept
html_counts n bytes end s h = leaf_counts n _ end ((kept (bytes_between bytes s.place end) s).0) h

tagged_counts : (n : ℕ) (bytes : List ℕ) (ends : LastEnds) (s : State) → length s.roles ≡ n → length (tagged bytes ends s).roles ≡ n
unfolding tagged
tagged_counts n bytes ends s h = by (raw_html bytes s.place ends)
  where
    by : (o : Option ℕ) → length (tagged_to bytes s o).roles ≡ n
    by None = h
    by (Some end) = html_counts n bytes end s h

mailed_counts : (n : ℕ) (bytes : List ℕ) (ends : LastEnds) (s : State) → length s.roles ≡ n → length (mailed bytes ends s).roles ≡ n
unfolding mailed
mailed_counts n bytes ends s h = by (mail_end bytes s.place)
  where
    by : (o : Option ℕ) → length (mailed_to bytes ends s o).roles ≡ n
    by None = tagged_counts n bytes ends s h
    by (Some end) = addressed_counts n bytes Email end s h

angled_counts : (n : ℕ) (bytes : List ℕ) (ends : LastEnds) (s : State) → length s.roles ≡ n → length (angled bytes ends s).roles ≡ n
unfolding angled
angled_counts n bytes ends s h = by (uri_end bytes s.place)
  where
    by : (o : Option ℕ) → length (angled_to bytes ends s o).roles ≡ n
    by None = mailed_counts n bytes ends s h
    by (Some end) = addressed_counts n bytes Autolink end s h

ended_counts : (n : ℕ) (bytes : List ℕ) (s : State) → length s.roles ≡ n → length (line_ended bytes s).roles ≡ n
unfolding line_ended
ended_counts n bytes s h = by (nat_le 2 (s.place - first))
  where
    first : ℕ
    first = iterated (before_space bytes) (length bytes) s.place

    by : (b : Bool) → length (if b then record s { roles = slice_set s.roles first (Single HardBreak (plus s.place 1)) } else record s { roles = slice_set (slice_set s.roles first Hidden) s.place (Single SoftBreak (plus s.place 1)) }).roles ≡ n
    by true = set_counts n s.roles first _ h
    by false = set_counts n (slice_set s.roles first Hidden) s.place _ (set_counts n s.roles first Hidden h)

-- a bracket that closes
linked_counts : (n : ℕ) (b : Bracket) (t : Target) (end : ℕ) (s : State) → length s.roles ≡ n → length (linked b t end s).roles ≡ n
unfolding linked spanned targeted
linked_counts n b t end s h = by (not b.image)
  where
    u : State
    u = (targeted t (settled b.runs s)).0

    v : State
    v = spanned b (length (settled b.runs s).targets) end u

    whole : length v.roles ≡ n
    whole = set_counts n _ _ _ (set_counts n _ _ _ (set_counts n (settled b.runs s).roles _ _ (settled_counts n b.runs s h)))

    by : (k : Bool) → length (if k then record v { inactive = length v.brackets } else v).roles ≡ n
    by true = whole
    by false = whole

inline_counts : (n : ℕ) (bytes : List ℕ) (b : Bracket) (found : InlineTarget) (s : State) → length s.roles ≡ n → length (closed_inline_in Four bytes b found s).roles ≡ n
unfolding closed_inline_in kept_resolved_in kept
inline_counts n bytes b found s h = linked_counts n b _ found.end _ h

looked_up_counts : (n : ℕ) (bytes : List ℕ) (definitions : List ℕ → Option Entry) (b : Bracket) (asked : Asked) (s : State) → length s.roles ≡ n → length (looked_up bytes definitions b asked s).roles ≡ n
unfolding looked_up missing kept
looked_up_counts n bytes definitions b asked s h = by (definitions (key_of label))
  where
    label : List ℕ
    label = bytes_between bytes asked.label.start asked.label.end

    by : (o : Option Entry) → length (looked_up_as label b asked s o).roles ≡ n
    by None = h
    by (Some e) = linked_counts n b _ asked.end ((kept label s).0) h

labelled_counts : (n : ℕ) (bytes : List ℕ) (definitions : List ℕ → Option Entry) (b : Bracket) (s : State) → length s.roles ≡ n → length (closed_by_label bytes definitions b s).roles ≡ n
unfolding closed_by_label
labelled_counts n bytes definitions b s h = by (label_asked bytes b s.place)
  where
    by : (o : Option Asked) → length (closed_asked bytes definitions b s o).roles ≡ n
    by None = h
    by (Some asked) = looked_up_counts n bytes definitions b asked s h

active_counts : (n : ℕ) (bytes : List ℕ) (definitions : List ℕ → Option Entry) (b : Bracket) (s : State) → length s.roles ≡ n → length (closed_active_in Four false bytes definitions b s).roles ≡ n
unfolding closed_active_in
active_counts n bytes definitions b s h = by (inline_target bytes (plus s.place 1))
  where
    by : (o : Option InlineTarget) → length (closed_found_in Four false bytes definitions b s o).roles ≡ n
    by None = labelled_counts n bytes definitions b s h
    by (Some found) = inline_counts n bytes b found s h

closed_counts : (n : ℕ) (bytes : List ℕ) (definitions : List ℕ → Option Entry) (s : State) → length s.roles ≡ n → length (closed_in Four false bytes definitions s).roles ≡ n
unfolding closed_in popped
closed_counts n bytes definitions s h = by (slice_get s.brackets (length s.brackets - 1))
  where
    taken : (b : Bracket) (p : State × Bool) → length (p.0).roles ≡ n → length (closed_popped_in Four false bytes definitions b p).roles ≡ n
    taken b (u, true) k = active_counts n bytes definitions b u k
    taken b (u, false) k = k

    by : (o : Option Bracket) → length (closed_last_in Four false bytes definitions s o).roles ≡ n
    by None = h
    by (Some b) = taken b (popped b s) h

mark_counts : (n : ℕ) (bytes ticks : List ℕ) (b : ℕ) (s : State) → length s.roles ≡ n → length (looked_mark bytes ticks b s).roles ≡ n
unfolding looked_mark run_taken
mark_counts n bytes ticks b s h = by (b == 92) (b == 38) (b == 10) (b == 96) ((b == 42) || (b == 95))
  where
    by : (backslash ampersand feed tick run : Bool) → length (if backslash then escaped bytes s else (if ampersand then referred bytes s else (if feed then line_ended bytes s else (if tick then coded bytes ticks s else (if run then run_taken bytes b s else s))))).roles ≡ n
    by true ampersand feed tick run = escaped_counts n bytes s h
    by false true feed tick run = referred_counts n bytes s h
    by false false true tick run = ended_counts n bytes s h
    by false false false true run = coded_counts n bytes ticks s h
    by false false false false true = kept_run_counts n (run_at bytes s.place b) s h
    by false false false false false = h

looked_counts : (n : ℕ) (bytes : List ℕ) (ahead : Known) (definitions : List ℕ → Option Entry) (b : ℕ) (s : State) → length s.roles ≡ n → length (looked bytes ahead definitions b s).roles ≡ n
unfolding looked
looked_counts n bytes ahead definitions b s h = by (b == 91) (b == 33) (b == 93) (b == 60)
  where
    by : (opening image closing angle : Bool) → length (if opening then opened false 1 s else (if image then imaged bytes s else (if closing then closed_in Four false bytes definitions s else (if angle then angled bytes ahead.ends s else looked_mark bytes ahead.ticks b s)))).roles ≡ n
    by true image closing angle = opened_counts n false 1 s h
    by false true closing angle = imaged_counts n bytes s h
    by false false true angle = closed_counts n bytes definitions s h
    by false false false true = angled_counts n bytes ahead.ends s h
    by false false false false = mark_counts n bytes ahead.ticks b s h

step_counts : (n : ℕ) (bytes : List ℕ) (ahead : Known) (definitions : List ℕ → Option Entry) (s : State) (b : ℕ) → length s.roles ≡ n → length (scan_step_in CORE bytes ahead definitions s b).roles ≡ n
unfolding scan_step_in looked_in is_tilde_in is_caret_in is_dollar_in is_note_end_in
step_counts n bytes ahead definitions s b h = by (is_mark_in CORE b && nat_le s.resume s.place)
  where
    by : (k : Bool) → length (if k then looked_in CORE bytes ahead definitions b s else s).roles ≡ n
    by true = looked_counts n bytes ahead definitions b s h
    by false = h

steps_count : (n : ℕ) (all : List ℕ) (ahead : Known) (definitions : List ℕ → Option Entry) (bytes : List ℕ) (s : State) → length s.roles ≡ n → length (fold (scan_step_in CORE all ahead definitions) s bytes).roles ≡ n
steps_count n all ahead definitions [] s h = h
steps_count n all ahead definitions (b ∷ bytes) s h = steps_count n all ahead definitions bytes (scan_step_in CORE all ahead definitions s b) (step_counts n all ahead definitions s b h)

pub copies : (n : ℕ) (r : Role) → length (replicate n r) ≡ n
copies zero r = refl
copies (suc n) r = ap suc (copies n r)

-- each byte of a leaf has one role
pub roles_count : (n : ℕ) (bytes : List ℕ) (definitions : List ℕ → Option Entry) (s : State) → length s.roles ≡ n → length (scanned_in CORE bytes definitions s).roles ≡ n
unfolding scanned_in
roles_count n bytes definitions s h = settled_counts n 0 (fold (scan_step_in CORE bytes (ahead_in CORE bytes) definitions) s bytes) (steps_count n bytes (ahead_in CORE bytes) definitions bytes s h)
