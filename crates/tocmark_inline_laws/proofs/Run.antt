-- The first pass over a content, token by token.
use Rattle.std.proofs.Common.{◌≡◌, ℕ, zero, suc, ◌+◌, ◌-◌, ◌^◌, ◌<◌, ◌≤◌, Bool, true, false, nat_lt, List, [], ◌∷◌, ◌++◌, length, take, drop, replicate, reverse, refl, ap, sym, subst, ◌∙◌, arith, append_assoc, append-nil}
use Rattle.std.proofs.lemmas.Bool.Decides.{nat_tests}
use Rattle.std.proofs.Math.Seq.{drop-length}
use Rattle.std.specs.Prelude.{Option, slice_get}
use Rattle.std.specs.List.{fold, flat_map}
use Rattle.tocmark_read_scan.specs.Basic.{byte_at}
use Rattle.tocmark_read_inlines.specs.Inlines.{scan_start}
use Rattle.tocmark_read_inlines.specs.Scan.{State, Known, ahead_in, settled, scanned_in}
use Rattle.tocmark_read_inlines.specs.Write.{written}
use Rattle.tocmark_read_spans.specs.declared.definitions.Entry.{Entry}
use Rattle.tocmark_read_spans.specs.Emphasis.{emphasized}
use Rattle.tocmark_read_spans.specs.declared.role.Role.{Role}
use Rattle.tocmark_read_spans.specs.declared.role.Role.TheVariants as role
use Rattle.tocmark_read_spans.specs.declared.role.Stretch.{Stretch}
use Rattle.tocmark_read_spans.specs.declared.role.Target.{Target}
use Rattle.tocmark_read_spans.specs.declared.run.Run.{Run}
use Rattle.tocmark_commonmark.specs.InlineTree.{Atom}
use Rattle.tocmark_commonmark.specs.Inlines.{scanned, scanned_at, scanned_if, inlines}
use Rattle.tocmark_commonmark.specs.Links.{Destination}
use Rattle.tocmark_commonmark.specs.Tokens.{Kind, kind_of, Token}
use Rattle.tocmark_inline_laws.specs.Said.{commonmark, node_said, declared}
use Rattle.tocmark_inline_laws.proofs.Atoms.{with_more, flow_at}
use Rattle.tocmark_inline_laws.proofs.Flow.{Flow, Beside, flow_step, written_flows}
use Rattle.tocmark_inline_laws.proofs.Passes.{step}
use Rattle.tocmark_inline_laws.proofs.Places.{clean_front}
use Rattle.tocmark_inline_laws.proofs.Sim.{beside, runs_of, weight, kept_of, Grown, Sim, Goes}
use Rattle.tocmark_inline_laws.proofs.Stretches.{got, not_got}
use Rattle.tocmark_inline_laws.proofs.Held.{Lead}
use Rattle.tocmark_inline_laws.proofs.Settling.{trail_leads, weight_turned, Emphasizes, lead_emphasizes}
use Rattle.tocmark_inline_laws.proofs.SpanRoles.{ShowsAll}

-- both go on at a place with these atoms
pub record Next (bytes : List ℕ) (ahead : Known) (defs : List ℕ → Option Entry) (labels : List Destination) (p : ℕ) (s : State) (done : List Atom) (b : ℕ) (k : Kind) : Type 0 where
  pub end : ℕ
  pub atoms : List Atom
  pub after : State
  pub same : fold (step bytes ahead defs) s (drop p bytes) ≡ fold (step bytes ahead defs) after (drop end bytes)
  pub further : p < end
  pub within : end ≤ length bytes
  pub sim : Sim bytes end after atoms
  pub grown : Grown s.texts after
  pub declares : (go : ℕ → List Atom → List Atom) → scanned_at go bytes labels p done b k ≡ go end atoms

-- by a token
pub next_by : (bytes : List ℕ) (ahead : Known) (defs : List ℕ → Option Entry) (labels : List Destination) (p : ℕ) (s : State) (done : List Atom) (b : ℕ) (k : Kind) (t : Token) → Goes bytes ahead defs p s done t → ((go : ℕ → List Atom → List Atom) → scanned_at go bytes labels p done b k ≡ go t.end (t.atom ∷ done)) → Next bytes ahead defs labels p s done b k
next_by bytes ahead defs labels p s done b k t g d = record {
  end = t.end;
  atoms = t.atom ∷ done;
  after = g.after;
  same = g.same;
  further = g.further;
  within = g.within;
  sim = g.sim;
  grown = g.grown;
  declares = d;
}

-- each byte at the place of a token is read as declared, with these texts and more
abbrev pub GoesOn : List ℕ → List ℕ → Known → (List ℕ → Option Entry) → List Destination → Type 0
GoesOn texts bytes ahead defs labels = (p : ℕ) (s : State) (done : List Atom) → Sim bytes p s done → Grown texts s → p < length bytes → Next bytes ahead defs labels p s done (byte_at bytes p) (kind_of (byte_at bytes p))

grown_more : (texts : List ℕ) (s t : State) → Grown texts s → Grown s.texts t → Grown texts t
grown_more texts s t h k = (h.0 ++ k.0, k.1 ∙ ap (λ ts. ts ++ k.0) (h.1) ∙ append_assoc texts (h.0) (k.0))

record Reaches (bytes : List ℕ) (ahead : Known) (defs : List ℕ → Option Entry) (p : ℕ) (s : State) (atoms : List Atom) : Type 0 where
  after : State
  same : fold (step bytes ahead defs) s (drop p bytes) ≡ after
  sim : Sim bytes (length bytes) after atoms
  grown : Grown s.texts after

runs_on : (texts : List ℕ) (bytes : List ℕ) (ahead : Known) (defs : List ℕ → Option Entry) (labels : List Destination) → GoesOn texts bytes ahead defs labels → (fuel p : ℕ) (s : State) (done : List Atom) → Sim bytes p s done → Grown texts s → p ≤ length bytes → length bytes < p + fuel → Reaches bytes ahead defs p s (scanned fuel bytes labels p done)
unfolding scanned
runs_on texts bytes ahead defs labels each zero p s done a h l m = absurd (omega arith)
runs_on texts bytes ahead defs labels each (suc fuel) p s done a h l m = by (runs_on texts bytes ahead defs labels each fuel) (nat_lt p (length bytes)) refl
  where
    by : ((q : ℕ) (u : State) (d : List Atom) → Sim bytes q u d → Grown texts u → q ≤ length bytes → length bytes < q + fuel → Reaches bytes ahead defs q u (scanned fuel bytes labels q d)) → (z : Bool) → nat_lt p (length bytes) ≡ z → Reaches bytes ahead defs p s (scanned_if (λ q d. scanned fuel bytes labels q d) bytes labels p done (slice_get bytes p))
    by later true e =
        let inner : p < length bytes = grind (arith, nat_tests, e) in
        let n : Next bytes ahead defs labels p s done (byte_at bytes p) (kind_of (byte_at bytes p)) = each p s done a h inner in
        let rest : Reaches bytes ahead defs n.end n.after (scanned fuel bytes labels n.end n.atoms) = later n.end n.after n.atoms n.sim (grown_more texts s n.after h n.grown) n.within (let f : p < n.end = n.further in omega arith) in
        subst (λ (o : Option ℕ). Reaches bytes ahead defs p s (scanned_if (λ q d. scanned fuel bytes labels q d) bytes labels p done o)) (sym (got bytes p inner))
        (subst (λ (xs : List Atom). Reaches bytes ahead defs p s xs) (sym (n.declares (λ q d. scanned fuel bytes labels q d)))
        (record { after = rest.after; same = n.same ∙ rest.same; sim = rest.sim; grown = grown_more s.texts n.after rest.after n.grown rest.grown }))
    by later false e =
        let past : length bytes ≤ p = grind (arith, nat_tests, e) in
        let end : length bytes ≡ p = omega arith in
        subst (λ (o : Option ℕ). Reaches bytes ahead defs p s (scanned_if (λ q d. scanned fuel bytes labels q d) bytes labels p done o)) (sym (not_got bytes p past))
        (record { after = s; same = ap (λ q. fold (step bytes ahead defs) s (drop q bytes)) (sym end) ∙ ap (fold (step bytes ahead defs) s) (drop-length bytes); sim = subst (λ q. Sim bytes q s done) (sym end) a; grown = ([], sym (append-nil s.texts)) })

-- before the first byte
starts : (bytes : List ℕ) (targets : List Target) (texts : List ℕ) (missed : List Stretch) → Sim bytes 0 (scan_start (length bytes) targets texts missed) []
unfolding scan_start
starts bytes targets texts missed = record {
  front = [];
  place = refl;
  resume = omega arith;
  roles = ap (λ n. replicate n role.Plain) (let k : length bytes ≡ length bytes - 0 = omega arith in k);
  long = refl;
  trail = refl;
  light = omega arith;
  runs = refl;
  opens = refl;
  few = omega arith;
  clean = clean_front bytes;
}

start_grown : (bytes : List ℕ) (targets : List Target) (texts : List ℕ) (missed : List Stretch) → Grown texts (scan_start (length bytes) targets texts missed)
unfolding scan_start
start_grown bytes targets texts missed = ([], sym (append-nil texts))

start_texts : (bytes : List ℕ) (targets : List Target) (texts : List ℕ) (missed : List Stretch) → (scan_start (length bytes) targets texts missed).texts ≡ texts
unfolding scan_start
start_texts bytes targets texts missed = refl

none_taken : (rs : List Run) → take 0 rs ≡ []
none_taken [] = refl
none_taken (r ∷ rs) = refl

all_dropped : (rs : List Run) → drop 0 rs ≡ rs
all_dropped [] = refl
all_dropped (r ∷ rs) = refl

settled_all : (s : State) → settled 0 s ≡ record s { roles = emphasized s.roles s.runs; runs = [] }
unfolding settled
settled_all s = ap (λ (rs : List Run). record s { roles = emphasized s.roles rs; runs = take 0 s.runs }) (all_dropped s.runs) ∙ ap (λ (rs : List Run). record s { roles = emphasized s.roles s.runs; runs = rs }) (none_taken s.runs)

weight_same : (atoms : List Atom) → weight (runs_of (reverse atoms)) ≡ weight (runs_of atoms)
weight_same atoms = ap (λ xs. weight (runs_of xs)) (sym (append-nil (reverse atoms))) ∙ weight_turned atoms [] ∙ (let k : weight (runs_of atoms) + 0 ≡ weight (runs_of atoms) = omega arith in k)

-- the roles of a content, which say the declared inlines at every depth, and more texts than these
pub record Reads (bytes : List ℕ) (labels : List Destination) (texts : List ℕ) (s : State) : Type 0 where
  pub long : length s.roles ≡ length bytes
  pub grown : Grown texts s
  pub shows : ShowsAll (beside bytes s) 0 s.roles (inlines labels bytes)

-- where each token is read as declared, the whole content is
pub roles_read : (bytes : List ℕ) (defs : List ℕ → Option Entry) (labels : List Destination) (targets : List Target) (texts : List ℕ) (missed : List Stretch) → length bytes + 2 < 2 ^ 64 → GoesOn texts bytes (ahead_in commonmark bytes) defs labels → Reads bytes labels texts (scanned_in commonmark bytes defs (scan_start (length bytes) targets texts missed))
unfolding scanned_in inlines
roles_read bytes defs labels targets texts missed fits each =
    subst (Reads bytes labels texts) (sym (ap (settled 0) ends.same ∙ settled_all s ∙ ap (λ (rs : List Role). record s { roles = rs; runs = [] }) (ap (λ rs. emphasized rs s.runs) roles ∙ ap (emphasized (a.front ++ [])) a.runs ∙ m.are ∙ append-nil m.roles)))
    (record { long = m.long ∙ long; grown = grown; shows = m.shows })
  where
    atoms : List Atom
    atoms = scanned (length bytes + 1) bytes labels 0 []

    ends : Reaches bytes (ahead_in commonmark bytes) defs 0 (scan_start (length bytes) targets texts missed) atoms
    ends = runs_on texts bytes (ahead_in commonmark bytes) defs labels each (length bytes + 1) 0 (scan_start (length bytes) targets texts missed) [] (starts bytes targets texts missed) (start_grown bytes targets texts missed) (omega arith) (omega arith)

    s : State
    s = ends.after

    a : Sim bytes (length bytes) s atoms
    a = ends.sim

    grown : Grown texts s
    grown = subst (λ ts. Grown ts s) (start_texts bytes targets texts missed) ends.grown

    long : length a.front ≡ length bytes
    long = a.long

    roles : s.roles ≡ a.front ++ []
    roles = a.roles ∙ ap (λ n. a.front ++ replicate n role.Plain) (let k : length bytes - length bytes ≡ 0 = omega arith in k)

    m : Emphasizes (beside bytes s) [] a.front [] (reverse atoms) (kept_of atoms)
    m = lead_emphasizes (beside bytes s) [] a.front [] (reverse atoms) (kept_of atoms) lead (let w : weight (runs_of (reverse atoms)) ≡ weight (runs_of atoms) = weight_same atoms in let l : weight (runs_of atoms) ≤ length bytes = a.light in omega (arith, w)) (omega (arith, long))
      where
        lead : Lead (beside bytes s) 0 a.front (reverse atoms) (kept_of atoms)
        lead = trail_leads (beside bytes s) a.front atoms a.trail

-- the nodes of such roles say what is declared, at each depth
pub reads_say : (bytes : List ℕ) (labels : List Destination) (texts : List ℕ) (s : State) (depth : ℕ) → length bytes + 2 < 2 ^ 64 → depth + length bytes < 2 ^ 64 → Reads bytes labels texts s
    → flat_map (node_said bytes s.texts s.targets) (written s.roles depth) ≡ declared depth (inlines labels bytes)
reads_say bytes labels texts s depth fits deep r =
    written_flows (beside bytes s) s.roles depth r.long (omega arith) deep
    ∙ ap (λ (e : Beside). (fold (flow_step e) (flow_at depth 0 []) s.roles).out) same
    ∙ ap (λ (f : Flow). f.out) (r.shows [] [] depth [])
  where
    same : beside bytes s ≡ with_more (beside bytes s) [] []
    same = ap (λ (ts : List ℕ). record (beside bytes s) { texts = ts }) (sym (append-nil s.texts)) ∙ ap (λ (gs : List Target). record (beside bytes s) { texts = s.texts ++ []; targets = gs }) (sym (append-nil s.targets))
