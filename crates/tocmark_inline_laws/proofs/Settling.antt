-- The delimiter runs of a trail of atoms are matched as declared.
use Rattle.std.proofs.Common.{◌≡◌, ℕ, ◌+◌, ◌^◌, ◌<◌, ◌≤◌, Bool, true, false, ◌||◌, if◌then◌else◌, List, [], ◌∷◌, ◌++◌, length, reverse, refl, ap, sym, subst, ◌∙◌, arith, append_assoc, append-nil, length-append}
use Rattle.std.proofs.lemmas.List.{length-replicate, reverse-append}
use Rattle.std.specs.List.{fold}
use Rattle.tocmark_read_spans.specs.Emphasis as reader
use Rattle.tocmark_read_spans.specs.declared.role.Role.{Role}
use Rattle.tocmark_read_spans.specs.declared.role.Role.TheVariants as role
use Rattle.tocmark_read_spans.specs.declared.run.Run.{Run}
use Rattle.tocmark_commonmark.specs.Emphasis.{emphasis, steps, emphasized}
use Rattle.tocmark_commonmark.specs.InlineTree.{Atom, Whole, Delimiters, Opening}
use Rattle.tocmark_inline_laws.proofs.Atoms.{Trail}
use Rattle.tocmark_inline_laws.proofs.Flow.{Beside}
use Rattle.tocmark_inline_laws.proofs.Sim.{runs_of, weight, kept_of, runs_with}
use Rattle.tocmark_inline_laws.proofs.SpanRoles.{ShowsAll}
use Rattle.tocmark_inline_laws.proofs.Stack.{bottom_zero}
use Rattle.tocmark_inline_laws.proofs.Held.{with_kept, Lead}
use Rattle.tocmark_inline_laws.proofs.Matching.{Settles, size, all_matched}

pub turned_over : (a : Atom) (atoms done : List Atom) → reverse atoms ++ (a ∷ done) ≡ reverse (a ∷ atoms) ++ done
turned_over a atoms done = sym (append_assoc (reverse atoms) (a ∷ []) done) ∙ ap (λ xs. xs ++ done) (sym (reverse-append (a ∷ []) atoms))

after_cut : (front before seg : List Role) → front ≡ before ++ seg → length front ≡ length before + length seg
after_cut front before seg cut = ap length cut ∙ length-append before seg

kept_on : (kept runs : List Run) (r : Run) → kept ++ with_kept r runs ≡ runs_with kept r ++ runs
kept_on kept runs r = by (r.opens || r.closes)
  where
    by : (z : Bool) → kept ++ (if z then r ∷ runs else runs) ≡ (if z then kept ++ r ∷ [] else kept) ++ runs
    by true = sym (append_assoc kept (r ∷ []) runs)
    by false = refl

-- atoms after others are a lead from where these end
pub record Split (e : Beside) (front : List Role) (part done : List Atom) (back : List Role) (rest : List Atom) (runs : List Run) : Type 0 where
  pub first : List Role
  pub mid : List Role
  pub cut : front ≡ first ++ mid
  pub trail : Trail e first done
  pub lead : Lead e (length first) (mid ++ back) (reverse part ++ rest) (kept_of part ++ runs)

split_more : (e : Beside) (front before seg back : List Role) (a : Atom) (part done rest : List Atom) (runs : List Run) (kept : List Run) → front ≡ before ++ seg → (k : Split e before part done (seg ++ back) (a ∷ rest) runs) → kept_of part ++ runs ≡ kept_of (a ∷ part) ++ kept → Split e front (a ∷ part) done back rest kept
split_more e front before seg back a part done rest runs kept cut k same = record {
  first = k.first;
  mid = k.mid ++ seg;
  cut = cut ∙ ap (λ rs. rs ++ seg) k.cut ∙ append_assoc k.first k.mid seg;
  trail = k.trail;
  lead =
      subst (λ (rs : List Role). Lead e (length k.first) rs (reverse (a ∷ part) ++ rest) (kept_of (a ∷ part) ++ kept)) (sym (append_assoc k.mid seg back))
      (subst (λ (xs : List Atom). Lead e (length k.first) (k.mid ++ (seg ++ back)) xs (kept_of (a ∷ part) ++ kept)) (turned_over a part rest)
      (subst (λ (rs : List Run). Lead e (length k.first) (k.mid ++ (seg ++ back)) (reverse part ++ (a ∷ rest)) rs) same k.lead));
}

pub trail_splits : (e : Beside) (front : List Role) (part done : List Atom) → Trail e front (part ++ done) → (back : List Role) (rest : List Atom) (runs : List Run) → Lead e (length front) back rest runs → Split e front part done back rest runs
trail_splits e front [] done h back rest runs k = record { first = front; mid = []; cut = sym (append-nil front); trail = h; lead = k }
trail_splits e front (Whole i ∷ part) done h back rest runs k =
    split_more e front (h.0) (h.1) back (Whole i) part done rest runs runs (h.2)
    (trail_splits e (h.0) part done (h.4) (h.1 ++ back) (Whole i ∷ rest) runs ((h.1), back, refl, (h.3), subst (λ q. Lead e q back rest runs) (after_cut front (h.0) (h.1) (h.2)) k)) refl
trail_splits e front (Opening b ∷ part) done h back rest runs k =
    split_more e front (h.0) (h.1) back (Opening b) part done rest runs runs (h.2)
    (trail_splits e (h.0) part done (h.4) (h.1 ++ back) (Opening b ∷ rest) runs ((h.1), back, refl, (h.3.2), subst (λ q. Lead e q back rest runs) (after_cut front (h.0) (h.1) (h.2)) k)) refl
trail_splits e front (Delimiters r ∷ part) done h back rest runs k =
    split_more e front (h.0) (h.1) back (Delimiters r) part done rest (with_kept r runs) runs (h.2)
    (trail_splits e (h.0) part done (h.4) (h.1 ++ back) (Delimiters r ∷ rest) (with_kept r runs) (
      back,
      runs,
      ap (λ rs. rs ++ back) (h.3.0),
      ap (λ (q : ℕ). with_kept (record r { place = q }) runs) (h.3.1),
      h.3.2,
      subst (λ q. Lead e q back rest runs) (after_cut front (h.0) (h.1) (h.2) ∙ ap (λ n. length (h.0) + n) (ap length (h.3.0) ∙ length-replicate r.count role.Plain)) k,
    ))
    (kept_on (kept_of part) runs r)

-- a trail of atoms is a lead from its front
pub trail_leads : (e : Beside) (front : List Role) (done : List Atom) → Trail e front done → Lead e 0 front (reverse done) (kept_of done)
trail_leads e front done h = by (trail_splits e front done [] (subst (Trail e front) (sym (append-nil done)) h) [] [] [] (refl, refl))
  where
    by : Split e front done [] [] [] [] → Lead e 0 front (reverse done) (kept_of done)
    by k =
        subst (λ (rs : List Role). Lead e 0 rs (reverse done) (kept_of done)) (append-nil k.mid ∙ sym (k.cut ∙ ap (λ rs. rs ++ k.mid) k.trail))
        (subst (λ (xs : List Atom). Lead e 0 (k.mid ++ []) xs (kept_of done)) (append-nil (reverse done))
        (subst (λ (rs : List Run). Lead e 0 (k.mid ++ []) (reverse done ++ []) rs) (append-nil (kept_of done))
        (subst (λ q. Lead e q (k.mid ++ []) (reverse done ++ []) (kept_of done ++ [])) (ap length k.trail) k.lead)))

-- the weight of runs is the same in both orders
pub weight_turned : (done rest : List Atom) → weight (runs_of (reverse done ++ rest)) ≡ weight (runs_of done) + weight (runs_of rest)
weight_turned [] rest = omega arith
weight_turned (Whole i ∷ done) rest = ap (λ xs. weight (runs_of xs)) (sym (turned_over (Whole i) done rest)) ∙ weight_turned done (Whole i ∷ rest)
weight_turned (Opening b ∷ done) rest = ap (λ xs. weight (runs_of xs)) (sym (turned_over (Opening b) done rest)) ∙ weight_turned done (Opening b ∷ rest)
weight_turned (Delimiters r ∷ done) rest = ap (λ xs. weight (runs_of xs)) (sym (turned_over (Delimiters r) done rest)) ∙ weight_turned done (Delimiters r ∷ rest) ∙ (let k : weight (runs_of done) + (r.length + weight (runs_of rest)) ≡ (r.length + weight (runs_of done)) + weight (runs_of rest) = omega arith in k)

-- there is fuel for each step
fuel_is : (n : ℕ) (atoms : List Atom) → fold (λ (m : ℕ) (a : Atom). m + steps a) n atoms ≡ n + size atoms
fuel_is n [] = omega arith
fuel_is n (a ∷ atoms) = fuel_is (n + steps a) atoms ∙ (let k : n + steps a + size atoms ≡ n + (steps a + size atoms) = omega arith in k)

-- roles of which the delimiter runs are matched say the emphasis that is declared
pub record Emphasizes (e : Beside) (ahead back tail : List Role) (atoms : List Atom) (runs : List Run) : Type 0 where
  pub roles : List Role
  pub are : reader.emphasized (ahead ++ (back ++ tail)) runs ≡ ahead ++ (roles ++ tail)
  pub long : length roles ≡ length back
  pub shows : ShowsAll e (length ahead) roles (emphasized atoms)

pub lead_emphasizes : (e : Beside) (ahead back tail : List Role) (atoms : List Atom) (runs : List Run) → Lead e (length ahead) back atoms runs → weight (runs_of atoms) < 2 ^ 64 → length ahead + length back + 1 < 2 ^ 64 → Emphasizes e ahead back tail atoms runs
unfolding reader.emphasized
lead_emphasizes e ahead back tail atoms runs lead light room = record { roles = s.front; are = s.are; long = s.long; shows = s.shows }
  where
    fuel : ℕ
    fuel = fold (λ (n : ℕ) (a : Atom). n + steps a) 1 atoms

    s : Settles e ahead tail (length back) (emphasis fuel [] atoms) (fold reader.run_step (reader.emphasis_start (ahead ++ (back ++ tail))) runs).roles
    s = all_matched e ahead tail (length back) fuel room [] atoms (reader.emphasis_start (ahead ++ (back ++ tail))) runs
        (record {
          front = [];
          back = back;
          roles = refl;
          long = omega arith;
          held = (refl, refl);
          lead = subst (λ q. Lead e q back atoms runs) (let q : length ahead ≡ length ahead + 0 = omega arith in q) lead;
          bars = λ c star. tt;
          low = λ j. subst (λ n. n ≤ length ahead + 0) (sym (bottom_zero 13 j)) (omega arith);
          light = omega arith;
        })
        (let k : fuel ≡ 1 + size atoms = fuel_is 1 atoms in omega (arith, k))
